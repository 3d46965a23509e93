-- The calls of a query for a timestamp, in the form that every call state has.
use Rattle.std.proofs.Common.{◌≡◌, ◌≢◌, ◌⊎◌, inl, inr, ℕ, ◌+◌, List, ◌∷◌, Some, None, Bool, true, false, refl, sym, ap, subst, ◌∙◌}
use Rattle.std.proofs.lemmas.Bool.{eqb-true}
use Rattle.std.proofs.lemmas.List.{append_cancel_left}
use Rattle.std.specs.Bool.{MatchBool}
use Rattle.std.specs.Prelude.{⊤, nat_eq, nat_lt, Result, Ok, Err}
use Rattle.txn_history.specs.Event.{Event}
use Rattle.txn_history.specs.Event.Event.{Took, Lost, Slept, Answered}
use Rattle.txn_history.specs.Meaning.{missed, replied, timed, woken, Goes, Tells, Told}
use Rattle.txn_history.specs.Moves.{Moves, Moves-map}
use Rattle.txn_history.specs.Phase.{IsPosted, Phase}
use Rattle.txn_history.specs.Phase.Awaited.{EndOf, ReplyTo, TimeOf}
use Rattle.txn_history.specs.Posted.{Posted, ticket_of}
use Rattle.txn_history.specs.Turn.{IfEnds, Turn}
use Rattle.txn_history.specs.Turn.Turn.{Stopped, Waits, Ends}
use Rattle.txn_kv.specs.declared.errors.Error.{Error}
use Rattle.txn_kv.specs.declared.query.PdAnswer.{PdAnswer}
use Rattle.txn_kv.specs.declared.query.PdAnswer.TheVariants as answer
use Rattle.txn_kv.specs.declared.query.PdQuery.{PdQuery}
use Rattle.txn_kv.specs.declared.query.PdQuery.TheVariants as query
use Rattle.txn_kv.specs.declared.reply.Reply.{Reply}
use Rattle.txn_kv.specs.declared.request.Request.{Request}
use Rattle.txn_kv.specs.declared.timestamp.Timestamp.{Timestamp}
use Rattle.txn_plan.specs.Timing.{HasAsked, IsAnswerOf, IsToldTo, ReadsTime, WasUntimed, time_asked}
use Rattle.txn_history.specs.Foreign.{IsForeign}
use Rattle.txn_plan.specs.declared.timestamp_call.TimestampCall.{TimestampCall}
use Rattle.txn_plan.proofs.LookingUp.{deaf_answer, deaf_reply, deaf_waking, either, goes, tells, tells_of, went, went_answer, went_loss, went_reply, went_waking}
use Rattle.txn_kv.specs.declared.arrival.Arrival.{Arrival}
use Rattle.txn_plan.specs.LookUp.{call_waits, looked_up}
use Rattle.txn_tso.specs.Calling.{members, CallFits, Gives, IsRefused, IsTold, MayAsk, MayBe}
use Rattle.txn_tso.specs.Heeding.{hears_answer, hears_reply, hears_waking, CallHeeds}
use Rattle.txn_tso.specs.Placement.{request_of, Answers}
use Rattle.txn_tso.specs.Steps.{on_answer, on_loss, on_waking, standing, waits, IsMembersReply, IsOnReply, IsQueryReply, Standing, Stands, StandsBy, Stood}
use Rattle.txn_tso.specs.declared.pd_call.PdCall.{PdCall}
use Rattle.txn_tso.specs.declared.retry_client.RetryClient.{RetryClient}
use Rattle.txn_tso.specs.declared.stage.Stage.{Stage}
use Rattle.txn_tso.specs.declared.stage.Stage.TheVariants as stage

-- What it is told of, event by event.

module _ (s s' : PdCall) (k k' : RetryClient) (o o' : Posted) (now : ℕ) (turn : Turn (Result PdAnswer Error)) (same : s'.query ≡ s.query) where
  pub tells_reply : (n : ℕ) (x : Reply) (r : Request)
      → StandsBy s.query o (IsOnReply s.stage n x now (standing s k o)) turn (standing s' k' o')
      → (MayBe s.query s.stage n r → Moves (MayAsk s) (CallFits s o) (CallFits s' o') (Gives s o) (λ h. Took (ticket_of o n) r x ∷ h) o o' turn)
      → Tells looked_up (replied (ticket_of o n) r x) s s' o o' turn
  tells_reply n x r st m = tells_of (replied (ticket_of o n) r x) (hears_reply s.stage n) n r (standing s k o) (standing s' k' o') turn (λ h i. i) same (λ e a b w. deaf_reply s.stage n e a b w)
      (went (hears_reply s.stage n) s.query st.0 turn (standing s k o) (standing s' k' o') st.2 (went_reply s.stage n x now (standing s k o) st.0 st.1)) m

  pub tells_loss : (n : ℕ) (r : Request)
      → Stands s.query o (on_loss s.stage n now (standing s k o)) turn (standing s' k' o')
      → (MayBe s.query s.stage n r → Moves (MayAsk s) (CallFits s o) (CallFits s' o') (Gives s o) (λ h. Lost (ticket_of o n) r ∷ h) o o' turn)
      → Tells looked_up (missed (ticket_of o n) r) s s' o o' turn
  tells_loss n r st m = tells_of (missed (ticket_of o n) r) (hears_reply s.stage n) n r (standing s k o) (standing s' k' o') turn (λ h i. i) same (λ e a b w. deaf_reply s.stage n e a b w)
      (went (hears_reply s.stage n) s.query (on_loss s.stage n now (standing s k o)) turn (standing s k o) (standing s' k' o') st (went_loss s.stage n now (standing s k o))) m

  pub tells_waking : (n : ℕ)
      → Stands s.query o (on_waking s.stage n now (standing s k o)) turn (standing s' k' o')
      → Moves (MayAsk s) (CallFits s o) (CallFits s' o') (Gives s o) (λ h. Slept (ticket_of o n) ∷ h) o o' turn
      → Tells looked_up (woken (ticket_of o n)) s s' o o' turn
  tells_waking n st m = tells (woken (ticket_of o n)) (hears_waking s.stage n) (standing s k o) (standing s' k' o') turn same (λ e a b w. deaf_waking s.stage n e a b w)
      (went (hears_waking s.stage n) s.query (on_waking s.stage n now (standing s k o)) turn (standing s k o) (standing s' k' o') st (went_waking s.stage n now (standing s k o))) m

  pub tells_time : (n : ℕ) (x : Result Timestamp Error)
      → Stands s.query o (on_answer s.stage n x now (standing s k o)) turn (standing s' k' o')
      → Moves (MayAsk s) (CallFits s o) (CallFits s' o') (Gives s o) (λ h. Answered (ticket_of o n) x ∷ h) o o' turn
      → Tells looked_up (timed (ticket_of o n) x) s s' o o' turn
  tells_time n x st m = tells (timed (ticket_of o n) x) (hears_answer s.stage n) (standing s k o) (standing s' k' o') turn same (λ e a b w. deaf_answer s.stage n e a b w)
      (went (hears_answer s.stage n) s.query (on_answer s.stage n x now (standing s k o)) turn (standing s k o) (standing s' k' o') st (went_answer s.stage n x now (standing s k o))) m

-- what is heard was waited for

same_number : {k n : ℕ} → nat_eq k n ≡ true → n ≡ k
same_number {k} {n} e = sym (eqb-true k n e)

pub meant_reply : (g : Stage) (n : ℕ) → hears_reply g n ≡ true → call_waits g (ReplyTo n)
meant_reply stage.Fresh n e = cc
meant_reply (stage.Sent k) n e = ap ReplyTo (same_number e)
meant_reply (stage.Asked k) n e = cc
meant_reply (stage.Reconnecting k lost) n e = ap ReplyTo (same_number e)
meant_reply (stage.Resting k lost) n e = cc
meant_reply stage.Over n e = cc
meant_reply stage.Stopped n e = cc

pub meant_waking : (g : Stage) (n : ℕ) → hears_waking g n ≡ true → call_waits g (EndOf n)
meant_waking stage.Fresh n e = cc
meant_waking (stage.Sent k) n e = cc
meant_waking (stage.Asked k) n e = cc
meant_waking (stage.Reconnecting k lost) n e = cc
meant_waking (stage.Resting k lost) n e = ap EndOf (same_number e)
meant_waking stage.Over n e = cc
meant_waking stage.Stopped n e = cc

pub meant_answer : (g : Stage) (n : ℕ) → hears_answer g n ≡ true → call_waits g (TimeOf n)
meant_answer stage.Fresh n e = cc
meant_answer (stage.Sent k) n e = cc
meant_answer (stage.Asked k) n e = ap TimeOf (same_number e)
meant_answer (stage.Reconnecting k lost) n e = cc
meant_answer (stage.Resting k lost) n e = cc
meant_answer stage.Over n e = cc
meant_answer stage.Stopped n e = cc

module _ (s s' : PdCall) (k k' : RetryClient) (o o' : Posted) (turn : Turn (Result PdAnswer Error)) (kept : s.stage ≢ stage.Stopped) where
  pub goes_reply : (n : ℕ) → CallHeeds (hears_reply s.stage n) (standing s k o) turn (standing s' k' o') → Goes looked_up.phase (looked_up.waits s (ReplyTo n)) s s' o o' k k' turn
  goes_reply n h = goes (hears_reply s.stage n) (call_waits s.stage (ReplyTo n)) (standing s k o) (standing s' k' o') turn kept (meant_reply s.stage n) (λ e w. deaf_reply s.stage n e (ReplyTo n) refl w) h

  pub goes_waking : (n : ℕ) → CallHeeds (hears_waking s.stage n) (standing s k o) turn (standing s' k' o') → Goes looked_up.phase (looked_up.waits s (EndOf n)) s s' o o' k k' turn
  goes_waking n h = goes (hears_waking s.stage n) (call_waits s.stage (EndOf n)) (standing s k o) (standing s' k' o') turn kept (meant_waking s.stage n) (λ e w. deaf_waking s.stage n e (EndOf n) refl w) h

  pub goes_time : (n : ℕ) → CallHeeds (hears_answer s.stage n) (standing s k o) turn (standing s' k' o') → Goes looked_up.phase (looked_up.waits s (TimeOf n)) s s' o o' k k' turn
  goes_time n h = goes (hears_answer s.stage n) (call_waits s.stage (TimeOf n)) (standing s k o) (standing s' k' o') turn kept (meant_answer s.stage n) (λ e w. deaf_answer s.stage n e (TimeOf n) refl w) h

-- what it is lent is a part of the client, which stays as that does
pub goes_lent : {S A C W : Type 0} {phase : S → Phase} {meant : Type 0} {old new : S} {from to : Posted} {k k' : W} {turn : Turn A}
    (with : W → C) (pd : C) → with k ≡ pd
    → Goes phase meant old new from to k k' turn
    → Goes phase meant old new from to pd (with k') turn
goes_lent with pd e g = record { deaf = g.deaf; state = g.state; outbox = g.outbox; client = λ other. ap with (g.client other) ∙ e; next = g.next }

-- No reply holds a timestamp.

no_time : (q : PdQuery) (x : Reply) (t : Timestamp) → Answers q x (answer.Time t) → ⊥
no_time (query.Region k) x t a = let e : answer.Time t ≡ answer.Region a.2.0 = a.2.1 in cc
no_time (query.RegionId i) x t a = let e : answer.Time t ≡ answer.Region a.2.0 = a.2.1 in cc
no_time (query.Store i) x t a = let e : answer.Time t ≡ answer.Store a.0.store = a.2 in cc
no_time query.Stores x t a = a.2
no_time query.Time x t a = a
no_time (query.Safepoint v) x t a = let e : answer.Time t ≡ answer.Safepoint a.0.new_safe_point = a.2 in cc

no_time_tried : (b : Bool) (why : Error) (y z : Standing) (t : Timestamp)
    → (either b (record { turn = Waits; at = y }) (record { turn = Ends (Err why); at = z })).turn ≡ Ends (Ok (answer.Time t)) → ⊥
no_time_tried true why y z t e = cc
no_time_tried false why y z t e = cc

no_time_told : (x : Reply) (now : ℕ) (y : Standing) (s : Stood) (t : Timestamp) → IsQueryReply x now y s → s.turn ≡ Ends (Ok (answer.Time t)) → ⊥
no_time_told x now y s t (inl i) e = let f : Ends (Ok i.0) ≡ Ends (Ok (answer.Time t)) = ap (λ (z : Stood). z.turn) (sym i.2) ∙ e in let g : i.0 ≡ answer.Time t = cc in no_time y.call.query x t (subst (λ a. Answers y.call.query x a) g i.1)
no_time_told x now y s t (inr (inl i)) e = no_time_tried (nat_lt (y.call.failed + 1) 10) _ _ _ t (ap (λ (z : Stood). z.turn) (sym i.1) ∙ e)
no_time_told x now y s t (inr (inr i)) e = let f = ap (λ (z : Stood). z.turn) (sym i.1) ∙ e in cc

no_time_members : (x : Reply) (now : ℕ) (y : Standing) (s : Stood) (t : Timestamp) → IsMembersReply x now y s → s.turn ≡ Ends (Ok (answer.Time t)) → ⊥
no_time_members x now y s t (inl i) e = let f = ap (λ (z : Stood). z.turn) (sym i.2) ∙ e in cc
no_time_members x now y s t (inr i) e = let f = ap (λ (z : Stood). z.turn) (sym i.1) ∙ e in cc

no_time_matched : (b : Bool) (Q : Type 0) (y : Standing) (s : Stood) (t : Timestamp) → (Q → s.turn ≡ Ends (Ok (answer.Time t)) → ⊥) → MatchBool b Q (s ≡ waits y) → s.turn ≡ Ends (Ok (answer.Time t)) → ⊥
no_time_matched true Q y s t f m e = f m e
no_time_matched false Q y s t f m e = let g = ap (λ (z : Stood). z.turn) (sym m) ∙ e in cc

pub no_time_heard : (g : Stage) (n : ℕ) (x : Reply) (now : ℕ) (y : Standing) (s : Stood) (t : Timestamp) → IsOnReply g n x now y s → s.turn ≡ Ends (Ok (answer.Time t)) → ⊥
no_time_heard stage.Fresh n x now y s t i e = let g = ap (λ (z : Stood). z.turn) (sym i) ∙ e in cc
no_time_heard (stage.Sent k) n x now y s t i e = no_time_matched (nat_eq k n) (IsQueryReply x now y s) y s t (no_time_told x now y s t) i e
no_time_heard (stage.Asked k) n x now y s t i e = let g = ap (λ (z : Stood). z.turn) (sym i) ∙ e in cc
no_time_heard (stage.Reconnecting k lost) n x now y s t i e = no_time_matched (nat_eq k n) (IsMembersReply x now y s) y s t (no_time_members x now y s t) i e
no_time_heard (stage.Resting k lost) n x now y s t i e = let g = ap (λ (z : Stood). z.turn) (sym i) ∙ e in cc
no_time_heard stage.Over n x now y s t i e = let g = ap (λ (z : Stood). z.turn) (sym i) ∙ e in cc
no_time_heard stage.Stopped n x now y s t i e = let g = ap (λ (z : Stood). z.turn) (sym i) ∙ e in cc

-- so it is told of none by a reply
pub untold : (t : TimestampCall) (a : Arrival) (s' : PdCall) (k k' : RetryClient) (o o' : Posted) (turn : Turn (Result PdAnswer Error)) (now n : ℕ) (x : Reply)
    → StandsBy t.call.query o (IsOnReply t.call.stage n x now (standing t.call k o)) turn (standing s' k' o')
    → IfEnds turn (IsToldTo t a)
untold t a s' k k' o o' turn now n x st = by turn st.2
  where
    by : (turn : Turn (Result PdAnswer Error)) → Stands t.call.query o st.0 turn (standing s' k' o') → IfEnds turn (IsToldTo t a)
    by Stopped i = tt
    by Waits i = tt
    by (Ends (Ok (answer.Time time))) i = absurd (no_time_heard t.call.stage n x now (standing t.call k o) st.0 time st.1 i.0)
    by (Ends (Ok (answer.Region r))) i = tt
    by (Ends (Ok (answer.Store r))) i = tt
    by (Ends (Ok (answer.Stores r))) i = tt
    by (Ends (Ok (answer.Safepoint r))) i = tt
    by (Ends (Err e)) i = tt

-- What a holder knows of it: it asks for members alone, and an ask that is out was so before, or was just posted.

abbrev pub IsTimed : List Event → Result Timestamp Error → Type 0
IsTimed h (Ok t) = ⊤
IsTimed h (Err e) = WasUntimed h e

pub record TimeTells (told : Told) (a : Arrival) (old new : TimestampCall) (from to : Posted) (turn : Turn (Result Timestamp Error)) : Type 0 where
  pub moves : Moves IsForeign (λ h. time_asked.fits old from h × told.known h) (time_asked.fits new to) IsTimed told.hear from to turn
  pub asked : (n : ℕ) → HasAsked new n → HasAsked old n ⊎ IsPosted moves.sends (TimeOf n)
  pub answer : IfEnds turn (IsAnswerOf old a)

asks_members : (q : PdQuery) (h : List Event) (r : Request) → q ≡ query.Time → (request_of q ≡ Some r) ⊎ (r ≡ members) → IsForeign h r
asks_members q h r e (inl a) = let f : None ≡ Some r = sym (ap request_of e) ∙ a in cc
asks_members q h r e (inr a) = rw a tt

told_time : (q : PdQuery) (o : Posted) (h : List Event) (x : PdAnswer) → q ≡ query.Time → IsTold q o h x → (t : Timestamp) × (x ≡ answer.Time t)
told_time q o h x e (inl i) = let f : None ≡ Some i.1 = sym (ap request_of e) ∙ i.3 in cc
told_time q o h x e (inr i) = (i.1, i.4)

abbrev IsGiven : PdQuery → Posted → List Event → Result PdAnswer Error → Type 0
IsGiven q o h (Ok x) = IsTold q o h x
IsGiven q o h (Err e) = IsRefused q o h e

gives_by : (s : PdCall) (o : Posted) (h : List Event) (x : Result PdAnswer Error) → Gives s o h x → IsGiven s.query o h x
gives_by s o h (Ok x) g = g
gives_by s o h (Err e) g = g

untimed : (q : PdQuery) (o : Posted) (h : List Event) (x : Result PdAnswer Error) (e : Error) → q ≡ query.Time → ReadsTime x (Err e) → IsGiven q o h x → WasUntimed h e
untimed q o h (Ok (answer.Time t)) e z r g = cc
untimed q o h (Ok (answer.Region x)) e z r g = let t = told_time q o h (answer.Region x) z g in let f = t.1 in cc
untimed q o h (Ok (answer.Store x)) e z r g = let t = told_time q o h (answer.Store x) z g in let f = t.1 in cc
untimed q o h (Ok (answer.Stores x)) e z r g = let t = told_time q o h (answer.Stores x) z g in let f = t.1 in cc
untimed q o h (Ok (answer.Safepoint x)) e z r g = let t = told_time q o h (answer.Safepoint x) z g in let f = t.1 in cc
untimed q o h (Err why) e z r g = let f : why ≡ e = cc in (o, subst (λ y. IsRefused query.Time o h y) f (subst (λ y. IsRefused y o h why) z g))

timed_says : (t : TimestampCall) (h : List Event) (v : Result Timestamp Error) → t.call.query ≡ query.Time → time_asked.gives t h v → IsTimed h v
timed_says t h (Ok time) z g = tt
timed_says t h (Err e) z g = untimed t.call.query g.1.0 h g.0 e z g.2 (gives_by t.call g.1.0 h g.0 g.1.1)

is_asked : (g : Stage) (n : ℕ) → call_waits g (TimeOf n) → g ≡ stage.Asked n
is_asked stage.Fresh n w = absurd w
is_asked (stage.Sent k) n w = cc
is_asked (stage.Asked k) n w = let e : n ≡ k = cc in ap stage.Asked (sym e)
is_asked (stage.Reconnecting k lost) n w = cc
is_asked (stage.Resting k lost) n w = cc
is_asked stage.Over n w = absurd w
is_asked stage.Stopped n w = absurd w

pub time_tells : (told : Told) (a : Arrival) (old new : TimestampCall) (from to : Posted) (turn : Turn (Result Timestamp Error))
    → old.call.query ≡ query.Time → Tells time_asked told old new from to turn → IfEnds turn (IsAnswerOf old a) → TimeTells told a old new from to turn
time_tells told a old new from to turn z t x =
    let m = Moves-map told.within (λ h f. f) (λ h f k r y. asks_members old.call.query k r z y) (λ h f k w i. i) (λ h f k v g. timed_says old k v z g) t.moves in record {
      moves = m;
      asked = λ n e. elim (t.expects.only (TimeOf n) (subst (λ g. call_waits g (TimeOf n)) (sym e) refl)) [
        | inl w ↦ inl (is_asked old.call.stage n w.0)
        | inr p ↦ inr (subst (λ rs. IsPosted rs (TimeOf n)) (append_cancel_left from.sends t.expects.sends m.sends (sym t.expects.pushed ∙ m.pushed)) p)
      ];
      answer = x;
    }
