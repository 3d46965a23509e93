-- Why a place or a timestamp was not found: errors of look-ups have their causes in what was heard.
use Rattle.std.proofs.Common.{◌≡◌, ◌≢◌, ◌∙◌, inl, inr, ap, refl, subst, sym, zero, suc, ℕ, ◌+◌, Bool, true, false, List, ◌∷◌, Option, Some, None}
use Rattle.std.proofs.lemmas.Bool.{eqb-false}
use Rattle.std.specs.Prelude.{◌⊎◌, ⊤, ◌==◌, if◌then◌else◌, is_none, option_map, Result, Ok, Err}
use Rattle.txn_causes.specs.Making.{of_internal, of_key, of_leader, of_loss, of_region}
use Rattle.txn_causes.specs.Carried.{region_in, FoundNone, FoundOther, HasBadKey, IsNoKey}
use Rattle.txn_causes.specs.Causes.{has_cause_more, retries, FoundNoRegion, HasCause, HasFailed, HaveFailed, InternalCause, IsTriedOut}
use Rattle.txn_causes.specs.Heard.{heard_in, Heard}
use Rattle.txn_causes.specs.Heard.Heard.{TookReply}
use Rattle.txn_causes.specs.Kinds.{IsOfKind}
use Rattle.txn_history.specs.Event.{Event, Has}
use Rattle.txn_history.specs.Event.Event.{Took, Lost, Answered}
use Rattle.txn_history.specs.Posted.{ticket_of, Posted}
use Rattle.txn_kv.specs.Codec.{key_length}
use Rattle.txn_kv.specs.ErrorView.{view_of}
use Rattle.txn_kv.specs.declared.errors.Error.{Error}
use Rattle.txn_kv.specs.declared.errors.Internal.{Internal}
use Rattle.txn_kv.specs.declared.errors.Internal.TheVariants.{BadEnd, BadPadding, NoEpoch, ReversedRegion, WrongReply}
use Rattle.txn_kv.specs.declared.message.Region.{Region}
use Rattle.txn_kv.specs.declared.query.PdAnswer.{PdAnswer}
use Rattle.txn_kv.specs.declared.query.PdAnswer.TheVariants as answer
use Rattle.txn_kv.specs.declared.query.PdQuery.{PdQuery}
use Rattle.txn_kv.specs.declared.query.PdQuery.TheVariants as query
use Rattle.txn_kv.specs.declared.region.RegionWithLeader.{RegionWithLeader}
use Rattle.txn_kv.specs.declared.reply.cluster.GetRegionResponse.{GetRegionResponse}
use Rattle.txn_kv.specs.declared.reply.Reply.{Reply}
use Rattle.txn_kv.specs.declared.reply.Reply.TheVariants as reply
use Rattle.txn_kv.specs.declared.request.Request.{Request}
use Rattle.txn_kv.specs.declared.request.Request.TheVariants as request
use Rattle.txn_kv.specs.declared.ticket.Ticket.{Ticket}
use Rattle.txn_multi.specs.Cutting.{IsLookUpRefused}
use Rattle.txn_region.specs.Clients
use Rattle.txn_region.specs.Clients.{IsBadAnswer, IsBadRegion, IsPlaceQuery}
use Rattle.txn_region.specs.Clients.IsBadRegion.{reversed, no_epoch, bad_start, bad_end, no_leader}
use Rattle.txn_tso.specs.Calling
use Rattle.txn_tso.specs.Calling.{members, Gives, HaveLostMembers, IsFailure, IsRefused, IsTold, IsUnlikeReply}
use Rattle.txn_tso.specs.Placement.{not_found, request_of, Answers, HasNoRegion, IsOfOtherKind, IsToldRegion}

is_nothing : {X : Type 0} (x : Option X) → is_none x ≡ true → x ≡ None
is_nothing None e = refl
is_nothing (Some x) e = cc

-- A region's keys

-- the two reasons for which bytes are refused as a key
abbrev IsKeyRefusal : Internal → Type 0
IsKeyRefusal (BadEnd at) = ⊤
IsKeyRefusal (BadPadding at) = ⊤
IsKeyRefusal _ = ⊥

key_refusal : (at : ℕ) (bytes : List ℕ) (what : Internal) → key_length at bytes ≡ Err what → IsKeyRefusal what
unfolding key_length
key_refusal at (a ∷ b ∷ c ∷ d ∷ e ∷ f ∷ g ∷ h ∷ marker ∷ rest) what r = by (marker == 255) _ _ r (key_refusal (at + 9) rest what)
  where
    padded : (fine : Bool) (n : ℕ) → (if fine then Ok n else Err (BadPadding at)) ≡ Err what → IsKeyRefusal what
    padded true n e = cc
    padded false n e = let same : BadPadding at ≡ what = cc in subst IsKeyRefusal same tt

    by : (full fine : Bool) (n : ℕ) → (if full then key_length (at + 9) rest else (if fine then Ok n else Err (BadPadding at))) ≡ Err what → (key_length (at + 9) rest ≡ Err what → IsKeyRefusal what) → IsKeyRefusal what
    by true fine n e more = more e
    by false fine n e more = padded fine n e
key_refusal at _ what r = let same : BadEnd at ≡ what = cc in subst IsKeyRefusal same tt

no_key_refusal : (bytes : List ℕ) (what : Internal) → IsNoKey bytes what → IsKeyRefusal what
no_key_refusal bytes what (inl e) = key_refusal 0 bytes what e
no_key_refusal bytes what (inr e) = subst IsKeyRefusal (sym e.4) tt

bad_key_refusal : (r : RegionWithLeader) (what : Internal) → HasBadKey what r → IsKeyRefusal what
bad_key_refusal r what (inl start) = no_key_refusal r.region.start_key what start
bad_key_refusal r what (inr end) = no_key_refusal r.region.end_key what end

-- A region record in a reply that was taken, and what is wrong with it
module _ (K : Heard → Type 0) (t : Ticket) (asked : Request) (x : Reply) (taken : K (TookReply t asked x)) (r : RegionWithLeader) (found : region_in x ≡ Some r) where
  bad_key : (what : Internal) → IsKeyRefusal what → HasBadKey what r → InternalCause K what
  bad_key (BadEnd at) is bad = (t, asked, x, taken, (r, found, bad))
  bad_key (BadPadding at) is bad = (t, asked, x, taken, (r, found, bad))
  bad_key _ is bad = absurd is

  bad_region : (why : Error) → IsBadRegion r why → HasCause K ⊥ (view_of why)
  bad_region _ (reversed e) = of_internal K ⊥ (ReversedRegion r.region.id) (t, asked, x, taken, (r, found, (refl, e)))
  bad_region _ (no_epoch e) = of_internal K ⊥ (NoEpoch r.region.id) (t, asked, x, taken, inl (r, found, (refl, is_nothing r.region.region_epoch e)))
  bad_region _ (bad_start what e) = of_internal K ⊥ what (bad_key what (bad_key_refusal r what (inl e)) (inl e))
  bad_region _ (bad_end what e) = of_internal K ⊥ what (bad_key what (bad_key_refusal r what (inr e)) (inr e))
  bad_region _ (no_leader e) = of_leader K ⊥ r.region.id (t, asked, x, taken, (r, found, (refl, is_nothing r.leader e)))

-- What came of a query

shown : (o : GetRegionResponse) (r : RegionWithLeader) → o.region ≡ Some r.region → r.leader ≡ o.leader
    → option_map (λ region. record { region = region; leader = o.leader }) o.region ≡ Some r
shown o r e f = ap (option_map (λ (region : Region). record { region = region; leader = o.leader })) e ∙ ap (λ l. Some (record { region = r.region; leader = l })) (sym f)

the : (a b : Request) → Some a ≡ Some b → a ≡ b
the a b e = cc

-- an answer that was taken and is refused
module _ (h : List Event) (t : Ticket) (why : Error) where
  by_key : (key : List ℕ) (o : GetRegionResponse) → Has h (Took t (request.GetRegion (record { region_key = key })) (reply.GetRegion o)) → (a : PdAnswer) → IsToldRegion o a → IsBadAnswer (query.Region key) a why → HasCause (heard_in h) ⊥ (view_of why)
  by_key key o taken a told bad = judged (subst (λ x. IsBadAnswer (query.Region key) x why) told.1 bad)
    where
      judged : IsBadAnswer (query.Region key) (answer.Region told.0) why → HasCause (heard_in h) ⊥ (view_of why)
      judged (inl spoilt) = bad_region (heard_in h) t (request.GetRegion (record { region_key = key })) (reply.GetRegion o) taken told.0 (shown o told.0 told.2 told.3) why spoilt
      judged (inr other) =
          subst (λ x. HasCause (heard_in h) ⊥ (view_of x)) (sym other.1)
          (of_region (heard_in h) ⊥ told.0.region.id (t, request.GetRegion (record { region_key = key }), reply.GetRegion o, taken, (told.0.region, told.2, refl, other.0)))

  by_id : (id : ℕ) (o : GetRegionResponse) → Has h (Took t (request.GetRegionById (record { region_id = id })) (reply.GetRegionById o)) → (a : PdAnswer) → IsToldRegion o a → IsBadAnswer (query.RegionId id) a why → HasCause (heard_in h) ⊥ (view_of why)
  by_id id o taken a told bad = judged (subst (λ x. IsBadAnswer (query.RegionId id) x why) told.1 bad)
    where
      other_id : (region : Region) → o.region ≡ Some region → (told.0.region.id ≡ id → ⊥) → region.id ≢ id
      other_id region e apart same = let is : told.0.region ≡ region = cc (told.2, e) in apart (ap (λ (x : Region). x.id) is ∙ same)

      judged : IsBadAnswer (query.RegionId id) (answer.Region told.0) why → HasCause (heard_in h) ⊥ (view_of why)
      judged (inl spoilt) = bad_region (heard_in h) t (request.GetRegionById (record { region_id = id })) (reply.GetRegionById o) taken told.0 (shown o told.0 told.2 told.3) why spoilt
      judged (inr other) =
          subst (λ x. HasCause (heard_in h) ⊥ (view_of x)) (sym other.1)
          (of_region (heard_in h) ⊥ id (t, request.GetRegionById (record { region_id = id }), reply.GetRegionById o, taken, (refl, λ region e. other_id region e (eqb-false told.0.region.id id other.0))))

  -- to the request of the query
  taken_as : (asked is : Request) (x y : Reply) → Some is ≡ Some asked → x ≡ y → Has h (Took t asked x) → Has h (Took t is y)
  taken_as asked is x y e f taken = subst (λ z. Has h (Took t is z)) f (subst (λ r. Has h (Took t r x)) (sym (the is asked e)) taken)

  answer_refused : (q : PdQuery) → IsPlaceQuery q → (asked : Request) → request_of q ≡ Some asked → (x : Reply) → Has h (Took t asked x) → (a : PdAnswer) → Answers q x a → IsBadAnswer q a why → HasCause (heard_in h) ⊥ (view_of why)
  answer_refused (query.Region key) place asked is x taken a told bad = by_key key told.0 (taken_as asked (request.GetRegion (record { region_key = key })) x (reply.GetRegion told.0) is told.1 taken) a told.2 bad
  answer_refused (query.RegionId id) place asked is x taken a told bad = by_id id told.0 (taken_as asked (request.GetRegionById (record { region_id = id })) x (reply.GetRegionById told.0) is told.1 taken) a told.2 bad
  answer_refused (query.Store id) place asked is x taken a told bad = absurd (subst (λ y. IsBadAnswer (query.Store id) y why) told.2 bad)
  answer_refused query.Stores place asked is x taken a told bad = absurd place
  answer_refused query.Time place asked is x taken a told bad = absurd place
  answer_refused (query.Safepoint time) place asked is x taken a told bad = absurd place

-- A reply of another kind than its request

unlike_query : (q : PdQuery) (r : Request) (x : Reply) → request_of q ≡ Some r → IsOfOtherKind q x → IsOfKind r x → ⊥
unlike_query (query.Region key) r x e other k = let o = subst (λ y. IsOfKind y x) (sym (the (request.GetRegion (record { region_key = key })) r e)) k in other o.0 o.1
unlike_query (query.RegionId id) r x e other k = let o = subst (λ y. IsOfKind y x) (sym (the (request.GetRegionById (record { region_id = id })) r e)) k in other o.0 o.1
unlike_query (query.Store id) r x e other k = let o = subst (λ y. IsOfKind y x) (sym (the (request.GetStore (record { store_id = id })) r e)) k in other o.0 o.1
unlike_query query.Stores r x e other k = let o = subst (λ y. IsOfKind y x) (sym (the (request.GetAllStores (record {})) r e)) k in other o.0 o.1
unlike_query query.Time r x e other k = cc
unlike_query (query.Safepoint at) r x e other k = let o = subst (λ y. IsOfKind y x) (sym (the (request.UpdateGcSafePoint (record { safe_point = at })) r e)) k in other o.0 o.1

unlike_reply : (q : PdQuery) (r : Request) (x : Reply) → IsUnlikeReply q r x → IsOfKind r x → ⊥
unlike_reply q r x (inl u) k = unlike_query q r x u.0 u.1 k
unlike_reply q r x (inr u) k = let o = subst (λ y. IsOfKind y x) u.0 k in u.1 o.0 o.1

-- Why a query has failed

-- Ten asks of one line for a timestamp were refused, each under a number of its own, the last with this error.
abbrev pub HasNoTimestamp : List Event → Error → Type 0
HasNoTimestamp h why = (o : Posted) × (k : ℕ) × Has h (Answered (ticket_of o k) (Err why)) × Calling.HaveFailed query.Time o 9 k h

-- the request of a query is tried ten times
query_retries : (q : PdQuery) (r : Request) → request_of q ≡ Some r → retries r ≡ Some 9
query_retries (query.Region key) r e = ap retries (sym (the (request.GetRegion (record { region_key = key })) r e))
query_retries (query.RegionId id) r e = ap retries (sym (the (request.GetRegionById (record { region_id = id })) r e))
query_retries (query.Store id) r e = ap retries (sym (the (request.GetStore (record { store_id = id })) r e))
query_retries query.Stores r e = ap retries (sym (the (request.GetAllStores (record {})) r e))
query_retries query.Time r e = cc
query_retries (query.Safepoint at) r e = ap retries (sym (the (request.UpdateGcSafePoint (record { safe_point = at })) r e))

-- its reply without region
found_none : (q : PdQuery) (r : Request) (x : Reply) → request_of q ≡ Some r → HasNoRegion q x → FoundNone r x
found_none (query.Region key) r x e none = subst (λ s. FoundNone s x) (the (request.GetRegion (record { region_key = key })) r e) (subst (FoundNone (request.GetRegion (record { region_key = key }))) (sym none.1) none.2)
found_none (query.RegionId id) r x e none = subst (λ s. FoundNone s x) (the (request.GetRegionById (record { region_id = id })) r e) (subst (FoundNone (request.GetRegionById (record { region_id = id }))) (sym none.1) none.2)
found_none (query.Store id) r x e none = absurd none
found_none query.Stores r x e none = absurd none
found_none query.Time r x e none = absurd none
found_none (query.Safepoint at) r x e none = absurd none

module _ (h : List Event) (q : PdQuery) where
  -- tries of its request that failed, all under one line
  one_failed : (r : Request) → request_of q ≡ Some r → (t : Ticket) (why : Error) → IsFailure q t h why → HasFailed (heard_in h) t r
  one_failed r is t why (inl f) = inl (subst (λ s. Has h (Lost t s)) (the f.0 r (sym f.1 ∙ is)) f.2)
  one_failed r is t why (inr (inl f)) = inr (f.1, subst (λ s. Has h (Took t s f.1)) (the f.0 r (sym f.2 ∙ is)) f.3, found_none q r f.1 is f.4)
  one_failed r is t why (inr (inr f)) = absurd (untimed (sym is ∙ ap request_of f.0))
    where
      untimed : Some r ≡ None → ⊥
      untimed e = cc

  tried : (r : Request) → request_of q ≡ Some r → (o : Posted) (n below : ℕ) → Calling.HaveFailed q o n below h → HaveFailed (heard_in h) r (ticket_of o below) n
  tried r is o zero below f = tt
  tried r is o (suc n) below f = (ticket_of o f.0, refl, f.2, one_failed r is (ticket_of o f.0) f.1 f.3, tried r is o n f.0 f.4)

  as_often : (r : Request) → request_of q ≡ Some r → (o : Posted) (k : ℕ) → Calling.HaveFailed q o 9 k h → IsTriedOut (heard_in h) ⊥ r (ticket_of o k) (retries r)
  as_often r is o k f = subst (IsTriedOut (heard_in h) ⊥ r (ticket_of o k)) (sym (query_retries q r is)) (tried r is o 9 k f)

  -- the tenth try found no region
  nothing_found : (r : Request) (x : Reply) (o : Posted) (k : ℕ) → request_of q ≡ Some r → Has h (Took (ticket_of o k) r x) → HasNoRegion q x → Calling.HaveFailed q o 9 k h → HasCause (heard_in h) ⊥ (view_of (not_found q))
  nothing_found r x o k is taken none failed = by q r is none taken (found_none q r x is none) (as_often r is o k failed)
    where
      by : (p : PdQuery) (s : Request) → request_of p ≡ Some s → HasNoRegion p x → Has h (Took (ticket_of o k) s x) → FoundNone s x → IsTriedOut (heard_in h) ⊥ s (ticket_of o k) (retries s) → HasCause (heard_in h) ⊥ (view_of (not_found p))
      by (query.Region key) s e gone had found often = of_key (heard_in h) ⊥ key (subst (FoundNoRegion (heard_in h)) (sym (the (request.GetRegion (record { region_key = key })) s e)) (ticket_of o k, x, had, found, often))
      by (query.RegionId id) s e gone had found often = of_region (heard_in h) ⊥ id (ticket_of o k, request.GetRegionById (record { region_id = id }), x, subst (λ r. Has h (Took (ticket_of o k) r x)) (sym (the (request.GetRegionById (record { region_id = id })) s e)) had, subst (FoundOther id (request.GetRegionById (record { region_id = id }))) (sym gone.1) (refl, λ region f. cc (gone.2, f)))
      by (query.Store id) s e gone had found often = absurd gone
      by query.Stores s e gone had found often = absurd gone
      by query.Time s e gone had found often = absurd gone
      by (query.Safepoint time) s e gone had found often = absurd gone

  -- so many requests for the members were lost
  members_lost : (o : Posted) (n below : ℕ) → HaveLostMembers o n below h → HaveFailed (heard_in h) members (ticket_of o below) n
  members_lost o zero below f = tt
  members_lost o (suc n) below f = (ticket_of o f.0, refl, f.1, inl f.2, members_lost o n f.0 f.3)

  try_failed : (o : Posted) (k : ℕ) (why : Error) → IsFailure q (ticket_of o k) h why → Calling.HaveFailed q o 9 k h → HasCause (heard_in h) ⊥ (view_of why) ⊎ ((q ≡ query.Time) × Has h (Answered (ticket_of o k) (Err why)))
  try_failed o k why (inl f) often = inl (subst (λ x. HasCause (heard_in h) ⊥ (view_of x)) (sym f.3) (of_loss (heard_in h) ⊥ (ticket_of o k) (f.0, f.2, as_often f.0 f.1 o k often)))
  try_failed o k why (inr (inl f)) often = inl (subst (λ x. HasCause (heard_in h) ⊥ (view_of x)) (sym f.5) (nothing_found f.0 f.1 o k f.2 f.3 f.4 often))
  try_failed o k why (inr (inr f)) often = inr f

  -- its error has a cause, or is that with which the tenth ask for a timestamp was refused
  pub query_failed : (o : Posted) (why : Error) → IsRefused q o h why → HasCause (heard_in h) ⊥ (view_of why) ⊎ ((q ≡ query.Time) × HasNoTimestamp h why)
  query_failed o why (inl f) = asked (try_failed o f.0 why f.1 f.2)
    where
      asked : HasCause (heard_in h) ⊥ (view_of why) ⊎ ((q ≡ query.Time) × Has h (Answered (ticket_of o f.0) (Err why))) → HasCause (heard_in h) ⊥ (view_of why) ⊎ ((q ≡ query.Time) × HasNoTimestamp h why)
      asked (inl k) = inl k
      asked (inr k) = inr (k.0, (o, f.0, k.1, subst (λ p. Calling.HaveFailed p o 9 f.0 h) k.0 f.2))
  query_failed o why (inr (inl f)) = inl (subst (λ x. HasCause (heard_in h) ⊥ (view_of x)) (sym f.2) (of_loss (heard_in h) ⊥ (ticket_of o f.0) (members, f.1, members_lost o 4 f.0 f.3)))
  query_failed o why (inr (inr f)) = inl (subst (λ x. HasCause (heard_in h) ⊥ (view_of x)) (sym f.5) (of_internal (heard_in h) ⊥ WrongReply (ticket_of o f.0, f.1, f.2, f.3, unlike_reply q f.1 f.2 f.4)))

-- Why no place was found

never_timed : (q : PdQuery) → IsPlaceQuery q → q ≡ query.Time → ⊥
never_timed q place e = subst IsPlaceQuery e place

look_up_failed : (h : List Event) (why : Error) → IsLookUpRefused h why → HasCause (heard_in h) ⊥ (view_of why)
look_up_failed h why r = answered r.answer r.given.1 r.refused
  where
    failed : (e : Error) → view_of why ≡ view_of e → HasCause (heard_in h) ⊥ (view_of e) ⊎ ((r.call.query ≡ query.Time) × HasNoTimestamp h e) → HasCause (heard_in h) ⊥ (view_of why)
    failed e same (inl k) = subst (HasCause (heard_in h) ⊥) (sym same) k
    failed e same (inr k) = absurd (never_timed r.call.query r.place k.0)

    told : (a : PdAnswer) → IsTold r.call.query r.given.0 h a → IsBadAnswer r.call.query a why → HasCause (heard_in h) ⊥ (view_of why)
    told a (inl g) bad = answer_refused h (ticket_of r.given.0 g.0) why r.call.query r.place g.1 g.3 g.2 g.4 a g.5 bad
    told a (inr g) bad = absurd (never_timed r.call.query r.place g.2)

    answered : (v : Result PdAnswer Error) → Gives r.call r.given.0 h v → Clients.IsRefused r.call.query v why → HasCause (heard_in h) ⊥ (view_of why)
    answered (Ok a) g refused = told a g refused
    answered (Err e) g refused = failed e refused (query_failed h r.call.query r.given.0 e g)

-- whatever is said of the backoff of the plan
pub look_up_refused : (S : Type 0) (h : List Event) (why : Error) → IsLookUpRefused h why → HasCause (heard_in h) S (view_of why)
look_up_refused S h why r = has_cause_more (λ x k. k) (λ (x : ⊥). absurd x) (view_of why) (look_up_failed h why r)
