-- What a request over regions answers was heard: its values stand in replies that were taken, and its errors have causes.
use Rattle.std.proofs.Common.{◌≡◌, ◌≢◌, ◌∙◌, inl, inr, ap, refl, subst, sym, ℕ, Bool, true, false, List, [], ◌∷◌, map, Option, Some, None}
use Rattle.std.specs.Global.{Vec}
use Rattle.std.specs.List.{find, AllZip}
use Rattle.std.specs.Option.{option_map}
use Rattle.std.specs.Prelude.{◌⊎◌, cond, is_none, Result, Ok, Err}
use Rattle.txn_causes.specs.Making.{each_caused, of_internal, of_loss, of_memory, some_listed}
use Rattle.txn_causes.specs.Carried.{HasKeyError, HasLock, HasNoEpoch, HasNoLock, HasRegionError, IsNoLock}
use Rattle.txn_causes.specs.Causes.{retries, EndsAtOnce, HasCause, IsTriedOut, Taken}
use Rattle.txn_causes.specs.Heard.{heard_in}
use Rattle.txn_causes.specs.Kinds.{IsOfKind}
use Rattle.txn_causes.specs.Spent.{IsSpent}
use Rattle.txn_history.specs.Among.{IsAmong}
use Rattle.txn_history.specs.Event.{Event, Has}
use Rattle.txn_history.specs.Event.Event.{Took}
use Rattle.txn_history.specs.Faults.{is_loss}
use Rattle.txn_history.specs.Meaning.{Meaning}
use Rattle.txn_kv.specs.ErrorView.{view_of, ErrorView}
use Rattle.txn_kv.specs.ErrorView.ErrorView.{key, locks}
use Rattle.txn_kv.specs.declared.errors.Error.{Error}
use Rattle.txn_kv.specs.declared.errors.Error.TheVariants.{OutOfMemory, ResolveLockError}
use Rattle.txn_kv.specs.declared.errors.Internal.TheVariants.{NoEpoch, WrongReply}
use Rattle.txn_kv.specs.declared.message.KeyError.{KeyError}
use Rattle.txn_kv.specs.declared.message.KeyError.TheVariants.{Locked}
use Rattle.txn_kv.specs.declared.message.LockInfo.{LockInfo}
use Rattle.txn_kv.specs.declared.message.Region.{Region}
use Rattle.txn_kv.specs.declared.message.RegionErr.{RegionErr}
use Rattle.txn_kv.specs.declared.message.RegionErr.TheVariants as refusal
use Rattle.txn_kv.specs.declared.region.RegionVerId.{RegionVerId}
use Rattle.txn_kv.specs.declared.reply.Reply.{Reply}
use Rattle.txn_kv.specs.declared.request.Request.{Request}
use Rattle.txn_kv.specs.declared.ticket.Ticket.{Ticket}
use Rattle.txn_merge.specs.Views.{view-IsRegionError, view-ResolveLockError}
use Rattle.txn_multi.specs.Multi.{multi, IsAnswer}
use Rattle.txn_multi.specs.Task.{attempts_left, IsEndAt, IsOutcome, IsRefusedFor}
use Rattle.txn_multi.specs.declared.multi_region.RetryableMultiRegion.{RetryableMultiRegion}
use Rattle.txn_multi.specs.declared.part.Part.{Part}
use Rattle.txn_plan.specs.Dispatch.{dispatch, IsReplied}
use Rattle.txn_resolve.specs.Unlocked as Unlocked
use Rattle.txn_resolve.specs.Unlocked.{unlocked, IsUnlocked}
use Rattle.txn_retry.specs.Outcome.{all_or_first, in_place, preceded}
use Rattle.txn_retry.specs.Remedy.{first_without_epoch, on_leader, on_listed, on_region_error, remedy_of}
use Rattle.txn_retry.specs.declared.remedy.Next.{Next}
use Rattle.txn_retry.specs.declared.remedy.Next.TheVariants as next
use Rattle.txn_tasks.specs.Tasks.{Outcome}
use Rattle.txn_commit_plans.specs.CausesOfLookUps.{look_up_refused}

-- the reply was taken
abbrev pub WasTaken : List Event → Reply → Type 0
WasTaken h o = (t : Ticket) × (r : Request) × Has h (Took t r o)

pub taken_so : (h : List Event) (o : Reply) (is : Reply → Type 0) → WasTaken h o → is o → Taken (heard_in h) (λ q. is)
taken_so h o is w i = (w.0, w.1, o, w.2, i)

-- it was taken, and no lock stands in it
abbrev pub WasFree : List Event → Reply → Type 0
WasFree h o = WasTaken h o × HasNoLock o

no_lock : (o : Reply) → HasNoLock o → (e : KeyError) → HasKeyError e o → IsNoLock e
no_lock o free (Locked lock) k = free lock k
no_lock o free _ k = tt

pub key_caused : (n : ℕ) (h : List Event) (o : Reply) (e : KeyError) → WasFree h o → HasKeyError e o → HasCause (heard_in h) (IsSpent (heard_in h) n) (key e)
key_caused n h o e w k = (taken_so h o (HasKeyError e) w.0 k, no_lock o w.1 e k)

-- an error of a plan whose backoff for regions has so many attempts
abbrev pub IsCaused : ℕ → List Event → Error → Type 0
IsCaused n h e = HasCause (heard_in h) (IsSpent (heard_in h) n) (view_of e)

pub starved : (n : ℕ) (h : List Event) (e : Error) → e ≡ OutOfMemory → IsCaused n h e
starved n h e is = subst (IsCaused n h) (sym is) (of_memory (heard_in h) (IsSpent (heard_in h) n))

-- What a state answers was heard, whose backoff has so many attempts: so much is known of a value, and an error has a cause.
pub record RestsOnHeard {S A : Type 0} (m : Meaning S (Result A Error)) (attempts : S → ℕ) (Is : ℕ → List Event → A → Type 0) : Type 0 where
  pub value : (s : S) (h : List Event) (a : A) → m.gives s h (Ok a) → Is (attempts s) h a
  pub error : (s : S) (h : List Event) (e : Error) → m.gives s h (Err e) → IsCaused (attempts s) h e

-- The like of one without a backoff, whose values stand in replies that were so: so of an error that is told where it is no loss, or
-- where some backoff is spent.
pub record RestsOnReplies {S V : Type 0} (m : Meaning S (Result V Error)) (reply_of : V → Reply) (Was : List Event → Reply → Type 0) : Type 0 where
  pub value : (s : S) (h : List Event) (v : V) → m.gives s h (Ok v) → Was h (reply_of v)
  pub error : (s : S) (n : ℕ) (h : List Event) (e : Error) → m.gives s h (Err e) → (is_loss e ≡ true → IsSpent (heard_in h) n) → IsCaused n h e

-- One request

module _ {R V : Type 0} (request_of : R → Request) (reply_of : V → Reply) (once : (r : R) → retries (request_of r) ≡ None) (unlike : (r : R) (x : Reply) → ((v : V) → x ≢ reply_of v) → IsOfKind (request_of r) x → ⊥) where
  unanswered : (n : ℕ) (h : List Event) (r : R) (e : Error) → IsReplied reply_of (request_of r) h (Err e) → (is_loss e ≡ true → IsSpent (heard_in h) n) → IsCaused n h e
  unanswered n h r e (inl g) spent =
      subst (IsCaused n h) (sym g.2) (of_loss (heard_in h) (IsSpent (heard_in h) n) g.0 (request_of r, g.1, subst (IsTriedOut (heard_in h) (IsSpent (heard_in h) n) (request_of r) g.0) (sym (once r)) (spent (ap is_loss g.2))))
  unanswered n h r e (inr g) spent = subst (IsCaused n h) (sym g.4) (of_internal (heard_in h) (IsSpent (heard_in h) n) WrongReply (g.0, request_of r, g.1, g.2, unlike r g.1 g.3))

  pub dispatch_rests : RestsOnReplies (dispatch request_of reply_of) reply_of WasTaken
  dispatch_rests = record {
    value = λ s h v g. (g.0, request_of s.request, g.1);
    error = λ s n h e g spent. unanswered n h s.request e g spent;
  }

-- A plan that is refused for locks

locked_view : (found : List LockInfo) (e : Error) → Unlocked.IsRefusedFor found e → view_of e ≡ locks found
locked_view found (ResolveLockError named) is = view-ResolveLockError named ∙ ap locks is
locked_view found _ is = absurd is

module _ {S V : Type 0} (m : Meaning S (Result V Error)) (reply_of : V → Reply) (locks_in : V → List LockInfo) (held : (v : V) (lock : LockInfo) → IsAmong (locks_in v) lock → HasLock lock (reply_of v)) (freed : (v : V) → locks_in v ≡ [] → HasNoLock (reply_of v)) (rests : RestsOnReplies m reply_of WasTaken) where
  unlocked_taken : (s : S) (h : List Event) (v : V) (a : Result V Error) → m.gives s h a → IsUnlocked locks_in a (Ok v) → WasFree h (reply_of v)
  unlocked_taken s h v (Ok x) g (inl e) = cc
  unlocked_taken s h v (Ok x) g (inr l) = subst (λ y. WasFree h (reply_of y)) (sym l.1) (rests.value s h x g, freed x l.0)
  unlocked_taken s h v (Err why) g e = cc

  unlocked_caused : (s : S) (n : ℕ) (h : List Event) (e : Error) (a : Result V Error) → m.gives s h a → IsUnlocked locks_in a (Err e) → (is_loss e ≡ true → IsSpent (heard_in h) n) → IsCaused n h e
  unlocked_caused s n h e (Ok x) g (inl i) spent = let is : e ≡ OutOfMemory = cc in starved n h e is
  unlocked_caused s n h e (Ok x) g (inr l) spent =
      subst (HasCause (heard_in h) (IsSpent (heard_in h) n)) (sym (locked_view (locks_in x) e l.1)) (l.0, λ lock i. taken_so h (reply_of x) (HasLock lock) (rests.value s h x g) (held x lock i))
  unlocked_caused s n h e (Err why) g i spent = let is : why ≡ e = cc in subst (IsCaused n h) is (rests.error s n h why g (λ loss. spent (ap is_loss (sym is) ∙ loss)))

  pub unlocked_rests : RestsOnReplies (unlocked m locks_in) reply_of WasFree
  unlocked_rests = record {
    value = λ s h v g. unlocked_taken s.inner h v g.0 g.1 g.2;
    error = λ s n h e g spent. unlocked_caused s.inner n h e g.0 g.1 g.2 spent;
  }

-- A region that was told of without an epoch

found_first : (regions : List Region) (r : Region) → find (λ (x : Region). is_none x.region_epoch) regions ≡ Some r → IsAmong regions r × (r.region_epoch ≡ None)
found_first [] r e = cc
found_first (x ∷ regions) r e = by x.region_epoch refl (λ f. found_first regions r f) e
  where
    by : (epoch : Option _) → x.region_epoch ≡ epoch → (find (λ (x : Region). is_none x.region_epoch) regions ≡ Some r → IsAmong regions r × (r.region_epoch ≡ None))
        → cond (is_none epoch) (Some x) (find (λ (x : Region). is_none x.region_epoch) regions) ≡ Some r → IsAmong (x ∷ regions) r × (r.region_epoch ≡ None)
    by None is more f = let same : x ≡ r = cc in (inl same, ap (λ (y : Region). y.region_epoch) (sym same) ∙ is)
    by (Some epoch) is more f = let m = more f in (inr m.0, m.1)

told_first : (regions : List Region) (id : ℕ) → first_without_epoch regions ≡ Some id → (r : Region) × IsAmong regions r × HasNoEpoch id r
told_first regions id e = by (find (λ (x : Region). is_none x.region_epoch) regions) refl e
  where
    by : (found : Option Region) → find (λ (x : Region). is_none x.region_epoch) regions ≡ found → option_map (λ (x : Region). x.id) found ≡ Some id → (r : Region) × IsAmong regions r × HasNoEpoch id r
    by None is f = cc
    by (Some r) is f = let m = found_first regions r is in (r, m.0, (cc, m.1))

-- a task ends for want of an epoch only where such a region was told of
abbrev TellsWithoutEpoch : ℕ → RegionErr → Type 0
TellsWithoutEpoch id e = (regions : List Region) × (r : Region) × (e ≡ refusal.EpochNotMatch regions) × IsAmong regions r × HasNoEpoch id r

ends_at_listed : (regions : List Region) (first : Option ℕ) (lags : Bool) (ms id : ℕ) → first_without_epoch regions ≡ first → (on_listed first lags ms).next ≡ next.EndWithoutEpoch id → TellsWithoutEpoch id (refusal.EpochNotMatch regions)
ends_at_listed regions (Some n) lags ms id f e = let same : Some n ≡ Some id = cc in let m = told_first regions id (f ∙ same) in (regions, m.0, refl, m.1, m.2)
ends_at_listed regions None true ms id f e = cc
ends_at_listed regions None false ms id f e = cc

ends_at_leader : (leader : Option _) (e : RegionErr) (ms id : ℕ) → (on_leader leader ms).next ≡ next.EndWithoutEpoch id → TellsWithoutEpoch id e
ends_at_leader None e ms id f = cc
ends_at_leader (Some leader) e ms id f = cc

ends_at_remedy : (e : RegionErr) (used : RegionVerId) (ms id : ℕ) → (remedy_of e used ms).next ≡ next.EndWithoutEpoch id → TellsWithoutEpoch id e
ends_at_remedy (refusal.NotLeader n leader) used ms id f = ends_at_leader leader (refusal.NotLeader n leader) ms id f
ends_at_remedy (refusal.EpochNotMatch []) used ms id f = cc
ends_at_remedy (refusal.EpochNotMatch (r ∷ regions)) used ms id f = ends_at_listed (r ∷ regions) (first_without_epoch (r ∷ regions)) _ ms id refl f
ends_at_remedy (refusal.RegionNotFound n) used ms id f = cc
ends_at_remedy refusal.StoreNotMatch used ms id f = cc
ends_at_remedy refusal.StaleCommand used ms id f = cc
ends_at_remedy refusal.ServerIsBusy used ms id f = cc
ends_at_remedy refusal.RaftEntryTooLarge used ms id f = cc
ends_at_remedy refusal.MaxTimestampNotSynced used ms id f = cc
ends_at_remedy refusal.Unknown used ms id f = cc

ends_at_error : (delay : Option ℕ) (e : RegionErr) (used : RegionVerId) (id : ℕ) → (on_region_error delay e used).next ≡ next.EndWithoutEpoch id → TellsWithoutEpoch id e
ends_at_error None e used id f = cc
ends_at_error (Some ms) e used id f = ends_at_remedy e used ms id f

-- a task ends with the error of its region only where no new try betters it, or where no attempt is left

ends_listed : (first : Option ℕ) (lags : Bool) (ms : ℕ) → (on_listed first lags ms).next ≡ next.End → ⊥
ends_listed (Some n) lags ms f = cc
ends_listed None true ms f = cc
ends_listed None false ms f = cc

ends_leader : (leader : Option _) (ms : ℕ) → (on_leader leader ms).next ≡ next.End → ⊥
ends_leader None ms f = cc
ends_leader (Some leader) ms f = cc

ends_remedy : (e : RegionErr) (used : RegionVerId) (ms : ℕ) → (remedy_of e used ms).next ≡ next.End → EndsAtOnce e
ends_remedy (refusal.NotLeader n leader) used ms f = absurd (ends_leader leader ms f)
ends_remedy (refusal.EpochNotMatch []) used ms f = cc
ends_remedy (refusal.EpochNotMatch (r ∷ regions)) used ms f = absurd (ends_listed (first_without_epoch (r ∷ regions)) _ ms f)
ends_remedy (refusal.RegionNotFound n) used ms f = cc
ends_remedy refusal.StoreNotMatch used ms f = cc
ends_remedy refusal.StaleCommand used ms f = cc
ends_remedy refusal.ServerIsBusy used ms f = tt
ends_remedy refusal.RaftEntryTooLarge used ms f = tt
ends_remedy refusal.MaxTimestampNotSynced used ms f = tt
ends_remedy refusal.Unknown used ms f = cc

ends_error : (delay : Option ℕ) (e : RegionErr) (used : RegionVerId) → (on_region_error delay e used).next ≡ next.End → EndsAtOnce e ⊎ (delay ≡ None)
ends_error None e used f = inr refl
ends_error (Some ms) e used f = inl (ends_remedy e used ms f)

-- A plan over regions

-- A result stands in a reply that was taken, without a lock or an error of its region, or is an error with a cause.
abbrev pub ResultRests : {V : Type 0} → (V → Reply) → (V → Option RegionErr) → ℕ → List Event → Result V Error → Type 0
ResultRests reply_of region_of n h (Ok v) = WasFree h (reply_of v) × (region_of v ≡ None)
ResultRests reply_of region_of n h (Err e) = IsCaused n h e

abbrev OutcomeRests : {V : Type 0} → (V → Reply) → (V → Option RegionErr) → ℕ → List Event → Outcome V → Type 0
OutcomeRests reply_of region_of n h (Ok result) = ResultRests reply_of region_of n h result
OutcomeRests reply_of region_of n h (Err e) = IsCaused n h e

-- each of these does
abbrev pub AllRest : {V : Type 0} → (V → Reply) → (V → Option RegionErr) → ℕ → List Event → List (Result V Error) → Type 0
AllRest {V} reply_of region_of n h results = (r : Result V Error) → IsAmong results r → ResultRests reply_of region_of n h r

-- What is answered of outcomes: each in its place, or the first error, or each result.
module _ {V : Type 0} (reply_of : V → Reply) (region_of : V → Option RegionErr) (n : ℕ) (h : List Event) where
  in_place_rests : (outcomes : List (Outcome V)) → ((o : Outcome V) → IsAmong outcomes o → OutcomeRests reply_of region_of n h o) → AllRest reply_of region_of n h (map in_place outcomes)
  in_place_rests [] rest r i = absurd i
  in_place_rests (Ok result ∷ outcomes) rest r (inl e) = subst (ResultRests reply_of region_of n h) e (rest (Ok result) (inl refl))
  in_place_rests (Err why ∷ outcomes) rest r (inl e) = subst (ResultRests reply_of region_of n h) e (rest (Err why) (inl refl))
  in_place_rests (Ok result ∷ outcomes) rest r (inr i) = in_place_rests outcomes (λ o j. rest o (inr j)) r i
  in_place_rests (Err why ∷ outcomes) rest r (inr i) = in_place_rests outcomes (λ o j. rest o (inr j)) r i

  each_rests : (outcomes : List (Outcome V)) (results : List (Result V Error)) → all_or_first outcomes ≡ Ok results → ((o : Outcome V) → IsAmong outcomes o → OutcomeRests reply_of region_of n h o) → AllRest reply_of region_of n h results
  each_rests [] results e rest r i = let none : [] ≡ results = cc in absurd (subst (λ rs. IsAmong rs r) (sym none) i)
  each_rests (Err why ∷ outcomes) results e rest r i = cc
  each_rests (Ok result ∷ outcomes) results e rest r i = by (all_or_first outcomes) refl e (λ others is. each_rests outcomes others is (λ o j. rest o (inr j)) r)
    where
      at : (others : List (Result V Error)) → IsAmong (result ∷ others) r → (IsAmong others r → ResultRests reply_of region_of n h r) → ResultRests reply_of region_of n h r
      at others (inl same) more = subst (ResultRests reply_of region_of n h) same (rest (Ok result) (inl refl))
      at others (inr j) more = more j

      by : (others : Result (List (Result V Error)) Error) → all_or_first outcomes ≡ others → preceded result others ≡ Ok results
          → ((rs : List (Result V Error)) → all_or_first outcomes ≡ Ok rs → IsAmong rs r → ResultRests reply_of region_of n h r) → ResultRests reply_of region_of n h r
      by (Ok others) is f more = let all : results ≡ result ∷ others = cc in at others (subst (λ rs. IsAmong rs r) all i) (more others is)
      by (Err why) is f more = cc

  first_rests : (outcomes : List (Outcome V)) (why : Error) → all_or_first outcomes ≡ Err why → ((o : Outcome V) → IsAmong outcomes o → OutcomeRests reply_of region_of n h o) → IsCaused n h why
  first_rests [] why e rest = cc
  first_rests (Err first ∷ outcomes) why e rest = let same : first ≡ why = cc in subst (IsCaused n h) same (rest (Err first) (inl refl))
  first_rests (Ok result ∷ outcomes) why e rest = by (all_or_first outcomes) refl e (λ is. first_rests outcomes why is (λ o j. rest o (inr j)))
    where
      by : (others : Result (List (Result V Error)) Error) → all_or_first outcomes ≡ others → preceded result others ≡ Err why → (all_or_first outcomes ≡ Err why → IsCaused n h why) → IsCaused n h why
      by (Ok others) is f more = cc
      by (Err first) is f more = let same : first ≡ why = cc in more (is ∙ ap (λ (x : Error). Err x) same)

  values_rest : (preserve : Bool) (outcomes : List (Outcome V)) (results : Vec (Result V Error)) → IsAnswer preserve outcomes (Ok results) → ((o : Outcome V) → IsAmong outcomes o → OutcomeRests reply_of region_of n h o) → AllRest reply_of region_of n h results.items
  values_rest true outcomes results e rest = subst (AllRest reply_of region_of n h) (sym e) (in_place_rests outcomes rest)
  values_rest false outcomes results e rest = each_rests outcomes results.items e rest

  error_rests : (preserve : Bool) (outcomes : List (Outcome V)) (why : Error) → IsAnswer preserve outcomes (Err why) → ((o : Outcome V) → IsAmong outcomes o → OutcomeRests reply_of region_of n h o) → IsCaused n h why
  error_rests true outcomes why e rest = absurd e
  error_rests false outcomes why e rest = first_rests outcomes why e rest

module _ {S V : Type 0} (m : Meaning S (Result V Error)) (reply_of : V → Reply) (keys : V → List ErrorView) (region_of : V → Option RegionErr)
    (keyed : (v : V) (view : ErrorView) → IsAmong (keys v) view → (e : KeyError) × (view ≡ key e) × HasKeyError e (reply_of v))
    (placed : (v : V) (e : RegionErr) → region_of v ≡ Some e → HasRegionError e (reply_of v))
    (rests : RestsOnReplies m reply_of WasFree) where
  refused_for : (n : ℕ) (used : RegionVerId) (job : S) (h : List Event) (why : Error) → IsRefusedFor m keys region_of n used job h why → IsCaused n h why
  refused_for n used job h why r = by (on_region_error r.delay r.error used).next refl r.end
    where
      taken : WasTaken h (reply_of r.refused.reply)
      taken = let free = rests.value job h r.refused.reply r.refused.given in free.0

      told : (on_region_error r.delay r.error used).next ≡ next.End → EndsAtOnce r.error ⊎ IsSpent (heard_in h) n
      told e = elim (ends_error r.delay r.error used e) [ inl now ↦ inl now | inr none ↦ inr (r.spent none) ]

      by : (x : Next) → (on_region_error r.delay r.error used).next ≡ x → IsEndAt r.error x why → IsCaused n h why
      by next.AtOnce e end = absurd end
      by (next.Sleep ms) e end = absurd end
      by next.End e end =
          subst (HasCause (heard_in h) (IsSpent (heard_in h) n)) (sym (view-IsRegionError r.error why end)) (taken_so h (reply_of r.refused.reply) (HasRegionError r.error) taken (placed r.refused.reply r.error r.refused.found), told e)
      by (next.EndWithoutEpoch id) e end =
          let t = ends_at_error r.delay r.error used id e in
          let error = subst (λ x. HasRegionError x (reply_of r.refused.reply)) t.2 (placed r.refused.reply r.error r.refused.found) in
          subst (IsCaused n h) (sym end) (of_internal (heard_in h) (IsSpent (heard_in h) n) (NoEpoch id) (taken.0, taken.1, reply_of r.refused.reply, taken.2, inr (t.0, t.1, error, t.3, t.4)))

  of_keys : (n : ℕ) (h : List Event) (v : V) → WasFree h (reply_of v) → (view : ErrorView) → IsAmong (keys v) view → HasCause (heard_in h) (IsSpent (heard_in h) n) view
  of_keys n h v w view i = let k = keyed v view i in subst (HasCause (heard_in h) (IsSpent (heard_in h) n)) (sym k.1) (key_caused n h (reply_of v) k.0 w k.2)

  outcome_rests : (n : ℕ) (used : RegionVerId) (job : S) (h : List Event) (o : Outcome V) → IsOutcome m keys region_of n used job h o → OutcomeRests reply_of region_of n h o
  outcome_rests n used job h (Ok (Ok v)) i = (rests.value job h v i.0, i.2)
  outcome_rests n used job h (Ok (Err why)) i =
      subst (HasCause (heard_in h) (IsSpent (heard_in h) n)) (sym i.3) (some_listed (keys i.0) i.2, each_caused (heard_in h) (IsSpent (heard_in h) n) (keys i.0) (of_keys n h i.0 (rests.value job h i.0 i.1)))
  outcome_rests n used job h (Err why) (inl own) = rests.error job n h why own.given own.spent
  outcome_rests n used job h (Err why) (inr (inl refused)) = refused_for n used job h why refused
  outcome_rests n used job h (Err why) (inr (inr lost)) = look_up_refused (IsSpent (heard_in h) n) h why lost.1

  all_rest : (n : ℕ) (h : List Event) (parts : List (Part S)) (outcomes : List (Outcome V)) → AllZip (λ p o. IsOutcome m keys region_of n p.region p.plan h o) parts outcomes
      → (o : Outcome V) → IsAmong outcomes o → OutcomeRests reply_of region_of n h o
  all_rest n h [] [] z o i = absurd i
  all_rest n h [] (first ∷ outcomes) z o i = absurd z
  all_rest n h (p ∷ parts) [] z o i = absurd i
  all_rest n h (p ∷ parts) (first ∷ outcomes) z o (inl e) = subst (OutcomeRests reply_of region_of n h) e (outcome_rests n p.region p.plan h first z.0)
  all_rest n h (p ∷ parts) (first ∷ outcomes) z o (inr i) = all_rest n h parts outcomes z.1 o i

  module _ {H L : Type 0} (is_part : S → S → Type 0) (load : S → L) (are_cut : L → List L → Type 0) (most : S → ℕ → ℕ) where
    multi_value : (s : RetryableMultiRegion S V H) (h : List Event) (results : Vec (Result V Error)) → (multi m keys region_of is_part load are_cut most).gives s h (Ok results) → AllRest reply_of region_of (attempts_left s.backoff) h results.items
    multi_value s h results (inl g) = let n = attempts_left s.backoff in values_rest reply_of region_of n h s.preserve_region_results g.1 results g.3 (all_rest n h g.0 g.1 g.2.each)
    multi_value s h results (inr g) = let never = g.1 in cc

    multi_error : (s : RetryableMultiRegion S V H) (h : List Event) (e : Error) → (multi m keys region_of is_part load are_cut most).gives s h (Err e) → IsCaused (attempts_left s.backoff) h e
    multi_error s h e (inl g) = let n = attempts_left s.backoff in error_rests reply_of region_of n h s.preserve_region_results g.1 e g.3 (all_rest n h g.0 g.1 g.2.each)
    multi_error s h e (inr g) = let same : g.0 ≡ e = let is = g.1 in cc in subst (IsCaused (attempts_left s.backoff) h) same (look_up_refused (IsSpent (heard_in h) (attempts_left s.backoff)) h g.0 g.2)

    pub multi_rests : RestsOnHeard (multi {H = H} m keys region_of is_part load are_cut most) (λ s. attempts_left s.backoff) (λ n h results. AllRest reply_of region_of n h results.items)
    multi_rests = record { value = multi_value; error = multi_error }
