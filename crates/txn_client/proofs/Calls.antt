-- The calls of an ask as those of the client's call that made it.
use Rattle.std.proofs.Common.{◌≡◌, ◌≤◌, ◌⊎◌, inl, inr, ℕ, ◌+◌, Bool, true, false, List, [], ◌∷◌, ◌++◌, Some, None, refl, sym, ap, subst, ◌∙◌, arith, lit<}
use Rattle.std.proofs.Math.Nat.{le_refl}
use Rattle.std.proofs.lemmas.Bool.{false≢true}
use Rattle.std.specs.Prelude.{Result, Ok, Err}
use Rattle.txn_history.specs.Event.{Event}
use Rattle.txn_history.specs.Event.Event.{Asked}
use Rattle.txn_history.specs.Meaning.{started, Counts, Goes, Tells, Told}
use Rattle.txn_history.specs.Moves.{Knows, Moves-after, Moves-map}
use Rattle.txn_history.specs.Phase.{Awaited, IsPosted, Phase, phase_after, unheard}
use Rattle.txn_history.specs.Phase.Awaited.{TimeOf}
use Rattle.txn_history.specs.Phase.Phase.{Fresh, GivenUp, Over, Running}
use Rattle.txn_history.specs.Posted.{Posted, ticket_of}
use Rattle.txn_history.specs.Spends.{Spends, calls, sleeps}
use Rattle.txn_history.specs.Turn.{IfEnds, IfEnds-weaker, IfKept, Turn, failing, is_kept}
use Rattle.txn_history.specs.Turn.Turn.{Stopped, Waits, Ends}
use Rattle.txn_history.proofs.Counting.{calls-more, sleeps-more, Spends-after, Spends-failed, Spends-map, Spends-stops}
use Rattle.txn_history.proofs.Telling.{Tells-asked, Tells-stopped}
use Rattle.txn_kv.specs.Timestamp.{HasVersion}
use Rattle.txn_kv.specs.declared.errors.Error.{Error}
use Rattle.txn_kv.specs.declared.outbox.Errand.TheVariants.{Ask}
use Rattle.txn_kv.specs.declared.query.PdAnswer.{PdAnswer}
use Rattle.txn_kv.specs.declared.query.PdAnswer.TheVariants as answer
use Rattle.txn_kv.specs.declared.query.PdQuery.{PdQuery}
use Rattle.txn_kv.specs.declared.query.PdQuery.TheVariants as query
use Rattle.txn_kv.specs.declared.request.Request.{Request}
use Rattle.txn_kv.specs.declared.timestamp.Timestamp.{Timestamp}
use Rattle.txn_tso.specs.Calling.{members, CallFits, Gives, IsRefused, IsTold}
use Rattle.txn_tso.specs.Counting.{asks_of}
use Rattle.txn_tso.specs.Placement.{request_of}
use Rattle.txn_tso.specs.declared.pd_call.PdCall.{PdCall}
use Rattle.txn_tso.specs.declared.stage.Stage.TheVariants as tso
use Rattle.txn_plan.specs.Timing.{HasBegun, IsAnswerOf, ReadsTime, WasUntimed, time_asked}
use Rattle.txn_kv.specs.declared.arrival.Arrival.{Arrival}
use Rattle.txn_plan.specs.declared.timestamp_call.TimestampCall.{TimestampCall}
use Rattle.txn_history.specs.Arrivals.{MayArrive}
use Rattle.txn_commit.specs.Ways.{Ways}
use Rattle.txn_client.specs.Calls.{called, made, stage_left, stage_phase, stage_waits, AnswerReady, Asks, CallGives, CallReady, Follows, IsAt, IsEnded, IsMade, IsMadeOf, WasTold}
use Rattle.txn_client.specs.declared.client_answer.ClientAnswer.{ClientAnswer}
use Rattle.txn_client.specs.declared.client_call.ClientCall.{ClientCall}
use Rattle.txn_client.specs.declared.client_call.Stage.{Stage}
use Rattle.txn_client.specs.declared.client_call.Stage.TheVariants as stage
use Rattle.txn_client.specs.declared.client_call.Wanted.{Wanted}
use Rattle.txn_client.specs.declared.client_call.Wanted.TheVariants as wanted

-- What the answer of its ask says

abbrev Says : List Event → Result Timestamp Error → Type 0
Says h (Ok t) = WasTold h t
Says h (Err e) = WasUntimed h e

abbrev IsGiven : PdQuery → Posted → List Event → Result PdAnswer Error → Type 0
IsGiven q o h (Ok x) = IsTold q o h x
IsGiven q o h (Err e) = IsRefused q o h e

told_time : (o : Posted) (h : List Event) (x : PdAnswer) → IsTold query.Time o h x → (t : Timestamp) × (x ≡ answer.Time t) × WasTold h t
told_time o h x (inl i) = let f : None ≡ Some i.1 = i.3 in cc
told_time o h x (inr i) = (i.1, i.4, (ticket_of o i.0, i.3))

says_read : (o : Posted) (h : List Event) (x : Result PdAnswer Error) (v : Result Timestamp Error) → ReadsTime x v → IsGiven query.Time o h x → Says h v
says_read o h (Ok (answer.Time u)) v r g = let t = told_time o h (answer.Time u) g in let same : t.0 ≡ u = (let e = t.1 in cc) in rw r (subst (λ z. WasTold h z) same t.2)
says_read o h (Ok (answer.Region x)) v r g = let t = told_time o h (answer.Region x) g in let e = t.1 in cc
says_read o h (Ok (answer.Store x)) v r g = let t = told_time o h (answer.Store x) g in let e = t.1 in cc
says_read o h (Ok (answer.Stores x)) v r g = let t = told_time o h (answer.Stores x) g in let e = t.1 in cc
says_read o h (Ok (answer.Safepoint x)) v r g = let t = told_time o h (answer.Safepoint x) g in let e = t.1 in cc
says_read o h (Err e) v r g = rw r (o, g)

given_by : (s : PdCall) (o : Posted) (h : List Event) (x : Result PdAnswer Error) → Gives s o h x → IsGiven s.query o h x
given_by s o h (Ok x) g = g
given_by s o h (Err e) g = g

says : (t : TimestampCall) (h : List Event) (v : Result Timestamp Error) → t.call.query ≡ query.Time → time_asked.gives t h v → Says h v
says t h v z g = says_read g.1.0 h g.0 v g.2 (subst (λ q. IsGiven q g.1.0 h g.0) z (given_by t.call g.1.0 h g.0 g.1.1))

asks_time : (t : TimestampCall) → time_asked.ready t → t.call.query ≡ query.Time
asks_time t (u, (q, k)) = q

asks_members : (t : TimestampCall) (h : List Event) (r : Request) → t.call.query ≡ query.Time → time_asked.asks t h r → r ≡ members
asks_members t h r z (inl a) = let f : None ≡ Some r = sym (ap request_of z) ∙ a in cc
asks_members t h r z (inr a) = a

-- where it stands

unheard_runs : {A : Type 0} (p : Phase) → p ≡ Running → unheard {A = A} p ≡ Waits
unheard_runs p e = rw e refl

is_running : (p : Phase) → ((p ≡ Running → ⊥) → ⊥) → p ≡ Running
is_running Fresh n = absurd (n (λ (q : Fresh ≡ Running). cc))
is_running Running n = refl
is_running Over n = absurd (n (λ (q : Over ≡ Running). cc))
is_running GivenUp n = absurd (n (λ (q : GivenUp ≡ Running). cc))

still_runs : {D : Type 0} (a : Type 0) (t t' : TimestampCall) (o o' : Posted) (k k' : D) (inner : Turn (Result Timestamp Error))
    → time_asked.phase t ≡ Running → inner ≡ Waits → Goes time_asked.phase a t t' o o' k k' inner → time_asked.phase t' ≡ Running
still_runs a t t' o o' k k' inner p w s = is_running (time_asked.phase t') (λ n. n (ap time_asked.phase (s.state (λ this. n (s.next this ∙ ap phase_after w))) ∙ p))

not_fresh : (g : Stage) → CallReady g → (g ≡ stage.Fresh → ⊥) → stage_phase g ≡ Fresh → ⊥
not_fresh stage.Fresh r n e = n refl
not_fresh (stage.Asking t) r n e = let x : Running ≡ Fresh = sym r.1 ∙ e in cc
not_fresh stage.Over r n e = cc
not_fresh stage.Stopped r n e = cc

-- one that has just asked

begun_at : (o : Posted) (h : List Event) → CallFits (record { query = query.Time; failed = 0; stage = tso.Asked o.next_ask }) (record o { next_ask = o.next_ask + 1; sends = o.sends ++ Ask o.next_ask ∷ [] }) (Asked (ticket_of o o.next_ask) ∷ h)
begun_at o h = record { few = lit< tt; at = (refl, inl refl, omega arith, tt) }

ask_fits : (t : TimestampCall) (o o' : Posted) (h : List Event) → HasBegun t o o' → time_asked.fits t o' (Asked (ticket_of o o.next_ask) ∷ h)
ask_fits t o o' h b = rw (b.0, b.1) (begun_at o h)

begun_waits : (t : TimestampCall) (o o' : Posted) (a : Awaited) → HasBegun t o o' → time_asked.waits t a → a ≡ TimeOf o.next_ask
begun_waits t o o' a b w = rw b.0 at w

begun_runs : (t : TimestampCall) (o o' : Posted) → HasBegun t o o' → time_asked.phase t ≡ Running
begun_runs t o o' b = rw b.0 refl

begun_ready : (t : TimestampCall) (o o' : Posted) → HasBegun t o o' → time_asked.ready t × (time_asked.phase t ≡ Running)
begun_ready t o o' b = rw b.0 ((tt, (refl, λ (e : tso.Asked o.next_ask ≡ tso.Stopped). cc)), refl)

begun_left : (t : TimestampCall) (o o' : Posted) (n : ℕ) → HasBegun t o o' → time_asked.left t n ≡ 0
begun_left t o o' n b = rw b.0 refl

-- what it costs, and what it answers

one_ask : (t : TimestampCall) (n : ℕ) → t.call.query ≡ query.Time → time_asked.round t n ≤ 1
one_ask t n z = subst (λ q. asks_of q ≤ 1) (sym z) (le_refl 1)

made_ready : {P : Type 0} (C : Type 0) (ways : Ways P) (w : Wanted) (now : ℕ) (t : Timestamp) → HasVersion t → AnswerReady ways (Ok (made {C = C} w now t))
made_ready C ways wanted.Timestamp now t v = v
made_ready C ways (wanted.Transaction options) now t v = record { start = v; work = tt }

-- what is not for a call is no answer
pub unheard_only : {A : Type 0} (P : A → Type 0) (p : Phase) (turn : Turn A) → turn ≡ unheard p → IfEnds turn P
unheard_only P Fresh turn e = rw e tt
unheard_only P Running turn e = rw e tt
unheard_only P Over turn e = rw e tt
unheard_only P GivenUp turn e = rw e tt

module _ {C P : Type 0} where
  made_gives : (w : Wanted) (now : ℕ) (h : List Event) (v : Result Timestamp Error) (x : Result (ClientAnswer C P) Error) → IsMade w now v x → Says h v → CallGives w h x
  made_gives wanted.Timestamp now h (Ok t) x i s = rw i s
  made_gives (wanted.Transaction options) now h (Ok t) x i s = rw i (refl, s)
  made_gives w now h (Err e) x i s = rw i s

  asking_ready : (c : ClientCall C P) (t : TimestampCall) → c.stage ≡ stage.Asking t → CallReady c.stage → time_asked.ready t × (time_asked.phase t ≡ Running)
  asking_ready c t e r = subst CallReady e r

  pub ready_to_tell : (c : ClientCall C P) (t : TimestampCall) → c.stage ≡ stage.Asking t → CallReady c.stage → time_asked.ready t
  ready_to_tell c t e r = let x = asking_ready c t e r in x.0

  query_is : (c : ClientCall C P) (t : TimestampCall) → c.stage ≡ stage.Asking t → CallReady c.stage → t.call.query ≡ query.Time
  query_is c t e r = asks_time t (ready_to_tell c t e r)

  is_out : (c : ClientCall C P) (t : TimestampCall) → c.stage ≡ stage.Asking t → CallReady c.stage → time_asked.phase t ≡ Running
  is_out c t e r = let x = asking_ready c t e r in x.1

  -- The steps of the call, where its ask took one.

  ended_still : (is : Result (ClientAnswer C P) Error → Type 0) (c c' : ClientCall C P) (turn : Turn (Result (ClientAnswer C P) Error)) (o : Posted) (known : List Event → Type 0)
      → IsEnded is c c' turn → IfKept turn ((h : List Event) → known h → IsAt c'.stage o h)
  ended_still is c c' Stopped o known i = tt
  ended_still is c c' Waits o known i = absurd i
  ended_still is c c' (Ends v) o known i = rw i.1 (λ h k. tt)

  still : (now : ℕ) (t' : TimestampCall) (c c' : ClientCall C P) (inner : Turn (Result Timestamp Error)) (turn : Turn (Result (ClientAnswer C P) Error)) (o : Posted)
      → Follows now inner (record c { stage = stage.Asking t' }) c' turn → IfKept turn ((h : List Event) → Knows inner (λ k. time_asked.fits t' o k) Says h → IsAt c'.stage o h)
  still now t' c c' Stopped turn o i = rw i.0 tt
  still now t' c c' Waits turn o i = rw (i.0, i.1) (λ h k. k.0)
  still now t' c c' (Ends v) turn o i = ended_still (IsMade c.wanted now v) (record c { stage = stage.Asking t' }) c' turn o (Knows (Ends v) (λ k. time_asked.fits t' o k) Says) i

  ended_done : (w : Wanted) (now : ℕ) (v : Result Timestamp Error) (c c' : ClientCall C P) (turn : Turn (Result (ClientAnswer C P) Error)) (is : List Event → Type 0)
      → IsEnded (IsMade w now v) c c' turn → IfEnds turn (λ x. (h : List Event) → Knows (Ends v) is Says h → CallGives w h x)
  ended_done w now v c c' Stopped is i = tt
  ended_done w now v c c' Waits is i = absurd i
  ended_done w now v c c' (Ends x) is i = λ h k. made_gives w now h v x i.0 k.1

  done : (now : ℕ) (t' : TimestampCall) (c c' : ClientCall C P) (inner : Turn (Result Timestamp Error)) (turn : Turn (Result (ClientAnswer C P) Error)) (is : List Event → Type 0)
      → Follows now inner (record c { stage = stage.Asking t' }) c' turn → IfEnds turn (λ x. (h : List Event) → Knows inner is Says h → CallGives c.wanted h x)
  done now t' c c' Stopped turn is i = rw i.0 tt
  done now t' c c' Waits turn is i = rw i.0 tt
  done now t' c c' (Ends v) turn is i = ended_done c.wanted now v (record c { stage = stage.Asking t' }) c' turn is i

  ended_wants : (A : Type 0) (is : A → Type 0) (c c' : ClientCall C P) (turn : Turn A) → IsEnded is c c' turn → c'.wanted ≡ c.wanted
  ended_wants A is c c' Stopped i = rw i refl
  ended_wants A is c c' Waits i = absurd i
  ended_wants A is c c' (Ends v) i = rw i.1 refl

  wants : (now : ℕ) (t' : TimestampCall) (c c' : ClientCall C P) (inner : Turn (Result Timestamp Error)) (turn : Turn (Result (ClientAnswer C P) Error))
      → Follows now inner (record c { stage = stage.Asking t' }) c' turn → c'.wanted ≡ c.wanted
  wants now t' c c' Stopped turn i = rw i.1 refl
  wants now t' c c' Waits turn i = rw i.1 refl
  wants now t' c c' (Ends v) turn i = ended_wants (Result (ClientAnswer C P) Error) (IsMade c.wanted now v) (record c { stage = stage.Asking t' }) c' turn i

  ended_waits : (A : Type 0) (is : A → Type 0) (c c' : ClientCall C P) (turn : Turn A) (a : Awaited) → IsEnded is c c' turn → stage_waits c'.stage a → ⊥
  ended_waits A is c c' Stopped a i w = rw i at w
  ended_waits A is c c' Waits a i w = i
  ended_waits A is c c' (Ends v) a i w = rw i.1 at w

  waits : (now : ℕ) (t' : TimestampCall) (c c' : ClientCall C P) (inner : Turn (Result Timestamp Error)) (turn : Turn (Result (ClientAnswer C P) Error)) (a : Awaited)
      → Follows now inner (record c { stage = stage.Asking t' }) c' turn → stage_waits c'.stage a → time_asked.waits t' a
  waits now t' c c' Stopped turn a i w = absurd (rw i.1 at w)
  waits now t' c c' Waits turn a i w = rw i.1 at w
  waits now t' c c' (Ends v) turn a i w = absurd (ended_waits (Result (ClientAnswer C P) Error) (IsMade c.wanted now v) (record c { stage = stage.Asking t' }) c' turn a i w)

  pub tells_on : (now : ℕ) (told : Told) (t t' : TimestampCall) (c c' : ClientCall C P) (o o' : Posted) (inner : Turn (Result Timestamp Error)) (turn : Turn (Result (ClientAnswer C P) Error))
      → c.stage ≡ stage.Asking t → CallReady c.stage
      → Follows now inner (record c { stage = stage.Asking t' }) c' turn
      → Tells time_asked told t t' o o' inner
      → Tells called told c c' o o' turn
  tells_on now told t t' c c' o o' inner turn e ready i s = let z = query_is c t e ready in record {
    moves = Moves-after
        (Moves-map told.within (λ h f. (subst (λ g. IsAt g o h) e f.0, f.1)) (λ h f k r a. asks_members t k r z a) (λ h f k w x. x) (λ h f k v g. says t k v z g) s.moves)
        (still now t' c c' inner turn o' i)
        (done now t' c c' inner turn (λ k. time_asked.fits t' o' k) i);
    job = let same = wants now t' c c' inner turn i in record {
      asked = λ h r x. x;
      given = λ h v x. subst (λ w. CallGives w h v) same x;
      gave = λ h v x. subst (λ w. CallGives w h v) (sym same) x;
    };
    expects = record {
      sends = s.expects.sends;
      pushed = s.expects.pushed;
      only = λ a w. subst (λ g. (stage_waits g a × (told.heard a → ⊥)) ⊎ IsPosted s.expects.sends a) (sym e) (s.expects.only a (waits now t' c c' inner turn a i w));
    };
  }

  -- where it stands

  pub follows_waits : (now : ℕ) (inner : Turn (Result Timestamp Error)) (x c' : ClientCall C P) (turn : Turn (Result (ClientAnswer C P) Error))
      → inner ≡ Waits → Follows now inner x c' turn → (turn ≡ Waits) × (c' ≡ x)
  follows_waits now inner x c' turn e i = subst (λ j. Follows now j x c' turn) e i

  ended_phase : {A : Type 0} (is : A → Type 0) (c c' : ClientCall C P) (turn : Turn A) → IsEnded is c c' turn → stage_phase c'.stage ≡ phase_after turn
  ended_phase is c c' Stopped i = rw i refl
  ended_phase is c c' Waits i = absurd i
  ended_phase is c c' (Ends v) i = rw i.1 refl

  next_phase : (now : ℕ) (t' : TimestampCall) (c c' : ClientCall C P) (inner : Turn (Result Timestamp Error)) (turn : Turn (Result (ClientAnswer C P) Error))
      → Follows now inner (record c { stage = stage.Asking t' }) c' turn → time_asked.phase t' ≡ phase_after inner → stage_phase c'.stage ≡ phase_after turn
  next_phase now t' c c' Stopped turn i p = rw (i.0, i.1) refl
  next_phase now t' c c' Waits turn i p = rw (i.0, i.1) p
  next_phase now t' c c' (Ends v) turn i p = ended_phase (IsMade c.wanted now v) (record c { stage = stage.Asking t' }) c' turn i

  pub goes_on : {D : Type 0} (now : ℕ) (a meant : Type 0) (t t' : TimestampCall) (c c' : ClientCall C P) (o o' : Posted) (k k' : D) (inner : Turn (Result Timestamp Error)) (turn : Turn (Result (ClientAnswer C P) Error))
      → c.stage ≡ stage.Asking t → CallReady c.stage
      → (meant → a) → (a → meant)
      → Follows now inner (record c { stage = stage.Asking t' }) c' turn
      → Goes time_asked.phase a t t' o o' k k' inner
      → Goes (λ (s : ClientCall C P). stage_phase s.stage) meant c c' o o' k k' turn
  goes_on now a meant t t' c c' o o' k k' inner turn e ready is of i s = record {
    deaf = λ other. let f = idle other in f.0 ∙ sym (unheard_runs (stage_phase c.stage) runs);
    state = λ other. let f = idle other in f.1 ∙ ap (λ (x : TimestampCall). record c { stage = stage.Asking x }) (s.state (λ x. other (of x))) ∙ ap (λ (g : Stage). record c { stage = g }) (sym e);
    outbox = λ other. s.outbox (λ x. other (of x));
    client = λ other. s.client (λ x. other (of x));
    next = λ this. next_phase now t' c c' inner turn i (s.next (is this));
  }
    where
      p : time_asked.phase t ≡ Running
      p = is_out c t e ready

      runs : stage_phase c.stage ≡ Running
      runs = ap stage_phase e ∙ p

      idle : (meant → ⊥) → (turn ≡ Waits) × (c' ≡ record c { stage = stage.Asking t' })
      idle other = follows_waits now inner (record c { stage = stage.Asking t' }) c' turn (s.deaf (λ x. other (of x)) ∙ unheard_runs (time_asked.phase t) p) i

  -- it may be called again

  ended_ready : {A : Type 0} (is : A → Type 0) (c c' : ClientCall C P) (turn : Turn A) → IsEnded is c c' turn → CallReady c'.stage
  ended_ready is c c' Stopped i = rw i tt
  ended_ready is c c' Waits i = absurd i
  ended_ready is c c' (Ends v) i = rw i.1 tt

  pub ready_on : {D : Type 0} (now : ℕ) (a : Type 0) (t t' : TimestampCall) (c c' : ClientCall C P) (o o' : Posted) (k k' : D) (inner : Turn (Result Timestamp Error)) (turn : Turn (Result (ClientAnswer C P) Error))
      → c.stage ≡ stage.Asking t → CallReady c.stage
      → Follows now inner (record c { stage = stage.Asking t' }) c' turn
      → Goes time_asked.phase a t t' o o' k k' inner
      → IfKept inner (time_asked.ready t')
      → CallReady c'.stage
  ready_on now a t t' c c' o o' k k' Stopped turn e ready i s r = rw i.1 tt
  ready_on now a t t' c c' o o' k k' Waits turn e ready i s r = rw i.1 (r, still_runs a t t' o o' k k' Waits (is_out c t e ready) refl s)
  ready_on now a t t' c c' o o' k k' (Ends v) turn e ready i s r = ended_ready (IsMade c.wanted now v) (record c { stage = stage.Asking t' }) c' turn i

  -- what it costs

  pub counts_on : (now : ℕ) (t t' : TimestampCall) (c c' : ClientCall C P) (bad fails : Bool) (weight locked : ℕ) (o o' : Posted) (inner : Turn (Result Timestamp Error)) (turn : Turn (Result (ClientAnswer C P) Error))
      → c.stage ≡ stage.Asking t → CallReady c.stage
      → Follows now inner (record c { stage = stage.Asking t' }) c' turn
      → Counts time_asked bad fails weight locked t t' o o' inner
      → Counts called bad fails weight locked c c' o o' turn
  counts_on now t t' c c' bad fails weight locked o o' inner turn e ready i s =
      subst (λ g. Counts called bad fails weight locked (record c { stage = g }) c' o o' turn) (sym e) (record {
        spends = by inner turn i s.spends;
        fewer = λ n. le_refl 1;
      })
    where
      z : t.call.query ≡ query.Time
      z = query_is c t e ready

      Cost : (after : ℕ → ℕ) (first failed : Bool) → Type 0
      Cost after first failed = Spends (λ w. Unit {0}) (λ w. Unit {0}) (time_asked.left t) after (λ n. 1) bad fails weight locked 0 0 o o' first failed

      one : (first failed : Bool) → Spends (time_asked.bears t) (time_asked.bears t') (time_asked.left t) (time_asked.left t') (time_asked.round t) bad fails weight locked 0 0 o o' first failed → Cost (time_asked.left t') first failed
      one first failed x = Spends-map (λ w u. tt) (λ w v l u b. tt) (λ n w l u. one_ask t n z) (λ n w l u. le_refl _) (λ n w l u. omega arith) x

      ends : (v : Result Timestamp Error) (turn : Turn (Result (ClientAnswer C P) Error)) (first failed : Bool) → first ≡ true → IsEnded (IsMade c.wanted now v) (record c { stage = stage.Asking t' }) c' turn
          → Cost (time_asked.left t') first failed → Cost (stage_left c'.stage) (is_kept turn) (failing (λ v. false) turn)
      ends v Stopped first failed k j x = Spends-stops x refl (λ f. f)
      ends v Waits first failed k j x = absurd j
      ends v (Ends y) first failed k j x = rw j.1 (Spends-after (λ f. absurd (false≢true f)) (λ w b. tt) (λ n. omega arith) (subst (λ b. Cost (time_asked.left t') b failed) k x))

      by : (inner : Turn (Result Timestamp Error)) (turn : Turn (Result (ClientAnswer C P) Error)) → Follows now inner (record c { stage = stage.Asking t' }) c' turn
          → Spends (time_asked.bears t) (time_asked.bears t') (time_asked.left t) (time_asked.left t') (time_asked.round t) bad fails weight locked 0 0 o o' (is_kept inner) (failing time_asked.fails inner)
          → Cost (stage_left c'.stage) (is_kept turn) (failing (λ v. false) turn)
      by Stopped turn i x = rw (i.0, i.1) (Spends-stops (one false false x) refl (λ f. f))
      by Waits turn i x = rw (i.0, i.1) (one true false x)
      by (Ends v) turn i x = ends v turn true (time_asked.fails v) refl i (one true (time_asked.fails v) x)

  -- what it answers is made of what its ask was told

  made_of : (w : Wanted) (now : ℕ) (a : Arrival) (t : TimestampCall) (v : Result Timestamp Error) (x : Result (ClientAnswer C P) Error) → IsMade w now v x → IsAnswerOf t a v → IsMadeOf w now a x
  made_of w now a t (Ok u) x i (n, asked, same) = rw i (n, u, same, refl)
  made_of w now a t (Err e) x i d = rw i tt

  ended_made : (w : Wanted) (now : ℕ) (a : Arrival) (t : TimestampCall) (v : Result Timestamp Error) (c c' : ClientCall C P) (turn : Turn (Result (ClientAnswer C P) Error))
      → IsEnded (IsMade w now v) c c' turn → IsAnswerOf t a v → IfEnds turn (IsMadeOf w now a)
  ended_made w now a t v c c' Stopped i d = tt
  ended_made w now a t v c c' Waits i d = absurd i
  ended_made w now a t v c c' (Ends x) i d = made_of w now a t v x i.0 d

  pub made_on : (now : ℕ) (a : Arrival) (t t' : TimestampCall) (c c' : ClientCall C P) (inner : Turn (Result Timestamp Error)) (turn : Turn (Result (ClientAnswer C P) Error))
      → Follows now inner (record c { stage = stage.Asking t' }) c' turn → IfEnds inner (IsAnswerOf t a) → IfEnds turn (IsMadeOf c.wanted now a)
  made_on now a t t' c c' Stopped turn i d = rw i.0 tt
  made_on now a t t' c c' Waits turn i d = rw i.0 tt
  made_on now a t t' c c' (Ends v) turn i d = ended_made c.wanted now a t v (record c { stage = stage.Asking t' }) c' turn i d

  -- and may be called where it is a transaction

  ready_of : (ways : Ways P) (w : Wanted) (now : ℕ) (a : Arrival) (x : Result (ClientAnswer C P) Error) → MayArrive a → IsMadeOf w now a x → AnswerReady ways x
  ready_of ways w now a (Ok x) m (n, t, same, is) = rw is (made_ready C ways w now t (rw same at m))
  ready_of ways w now a (Err e) m i = tt

  pub answer_ready : (ways : Ways P) (now : ℕ) (a : Arrival) (t t' : TimestampCall) (c c' : ClientCall C P) (inner : Turn (Result Timestamp Error)) (turn : Turn (Result (ClientAnswer C P) Error))
      → MayArrive a → Follows now inner (record c { stage = stage.Asking t' }) c' turn → IfEnds inner (IsAnswerOf t a) → IfEnds turn (AnswerReady ways)
  answer_ready ways now a t t' c c' inner turn m i d = IfEnds-weaker turn (λ x y. ready_of ways c.wanted now a x m y) (made_on now a t t' c c' inner turn i d)

  -- what is not for it changes nothing

  pub goes_idle : {D A : Type 0} (c : ClientCall C P) (o : Posted) (k : D) (turn : Turn A)
      → CallReady c.stage → (c.stage ≡ stage.Fresh → ⊥) → turn ≡ unheard (stage_phase c.stage)
      → Goes (λ (s : ClientCall C P). stage_phase s.stage) (stage_phase c.stage ≡ Fresh) c c o o k k turn
  goes_idle c o k turn r n e = record { deaf = λ other. e; state = λ other. refl; outbox = λ other. refl; client = λ other. refl; next = λ this. absurd (not_fresh c.stage r n this) }

  pub waits_out : {A : Type 0} (c : ClientCall C P) (t : TimestampCall) → c.stage ≡ stage.Asking t → CallReady c.stage → unheard {A = A} (stage_phase c.stage) ≡ Waits
  waits_out c t e ready = unheard_runs (stage_phase c.stage) (ap stage_phase e ∙ is_out c t e ready)

  pub waits_not : (c : ClientCall C P) (g : Stage) → c.stage ≡ g → ((a : Awaited) → stage_waits g a → ⊥) → (a : Awaited) → stage_waits c.stage a → ⊥
  waits_not c g e never a w = never a (subst (λ x. stage_waits x a) e w)

  pub unheard_is : {A : Type 0} (c : ClientCall C P) (g : Stage) (turn : Turn A) → c.stage ≡ g → turn ≡ unheard (stage_phase g) → turn ≡ unheard (stage_phase c.stage)
  unheard_is c g turn e i = i ∙ ap (λ x. unheard (stage_phase x)) (sym e)

  -- It asks.

  pub tells_asks : (c c' : ClientCall C P) (o o' : Posted) (turn : Turn (Result (ClientAnswer C P) Error))
      → Asks c c' o o' turn → Tells called started c c' o o' turn
  tells_asks c c' o o' Stopped i = rw i.0 (Tells-stopped refl i.1 (record { asked = λ h r x. x; given = λ h v x. x; gave = λ h v x. x }) (λ a w. absurd w))
  tells_asks c c' o o' Waits (t, b, is) = rw is (Tells-asked b.1 (λ h f. ask_fits t o o' h b) (record { asked = λ h r x. x; given = λ h v x. x; gave = λ h v x. x }) (λ a w. inr (Ask o.next_ask, inl refl, sym (begun_waits t o o' a b w))))
  tells_asks c c' o o' (Ends v) i = absurd i

  pub goes_asks : {D : Type 0} (c c' : ClientCall C P) (o o' : Posted) (k k' : D) (turn : Turn (Result (ClientAnswer C P) Error))
      → c.stage ≡ stage.Fresh → Asks c c' o o' turn
      → Goes (λ (s : ClientCall C P). stage_phase s.stage) (stage_phase c.stage ≡ Fresh) c c' o o' k k' turn
  goes_asks c c' o o' k k' turn e i = record {
    deaf = λ other. absurd (other (ap stage_phase e));
    state = λ other. absurd (other (ap stage_phase e));
    outbox = λ other. absurd (other (ap stage_phase e));
    client = λ other. absurd (other (ap stage_phase e));
    next = λ this. by turn i;
  }
    where
      by : (turn : Turn (Result (ClientAnswer C P) Error)) → Asks c c' o o' turn → stage_phase c'.stage ≡ phase_after turn
      by Stopped i = rw i.0 refl
      by Waits (t, b, is) = rw is (begun_runs t o o' b)
      by (Ends v) i = absurd i

  pub ready_asks : (c c' : ClientCall C P) (o o' : Posted) (turn : Turn (Result (ClientAnswer C P) Error)) → Asks c c' o o' turn → CallReady c'.stage
  ready_asks c c' o o' Stopped i = rw i.0 tt
  ready_asks c c' o o' Waits (t, b, is) = rw is (begun_ready t o o' b)
  ready_asks c c' o o' (Ends v) i = absurd i

  -- a start does not answer
  pub asks_only : (P' : Result (ClientAnswer C P) Error → Type 0) (c c' : ClientCall C P) (o o' : Posted) (turn : Turn (Result (ClientAnswer C P) Error)) → Asks c c' o o' turn → IfEnds turn P'
  asks_only P' c c' o o' Stopped i = tt
  asks_only P' c c' o o' Waits i = tt
  asks_only P' c c' o o' (Ends v) i = absurd i

  pub counts_asks : (c c' : ClientCall C P) (o o' : Posted) (turn : Turn (Result (ClientAnswer C P) Error))
      → c.stage ≡ stage.Fresh → Asks c c' o o' turn → Counts called false false 0 0 c c' o o' turn
  counts_asks c c' o o' turn e i =
      subst (λ g. Counts called false false 0 0 (record c { stage = g }) c' o o' turn) (sym e) (record { spends = by turn i; fewer = λ n. le_refl 1 })
    where
      by : (turn : Turn (Result (ClientAnswer C P) Error)) → Asks c c' o o' turn
          → Spends (λ w. Unit {0}) (λ w. Unit {0}) (stage_left stage.Fresh) (stage_left c'.stage) (λ n. 1) false false 0 0 0 0 o o' (is_kept turn) (failing (λ v. false) turn)
      by Stopped i = rw i.1 (Spends-failed refl refl (omega arith) (le_refl 0))
      by Waits (t, b, is) =
          let posts = ap (λ (x : Posted). x.sends) b.1 in
          let k : calls o' ≡ calls o + 1 = calls-more o o' (Ask o.next_ask) posts in
          let r : sleeps o' ≡ sleeps o + 0 = sleeps-more o o' (Ask o.next_ask) posts in
          rw is (record {
            wider = le_refl 0;
            bears = λ f w x. tt;
            allowed = λ f g. absurd (false≢true g);
            spends = λ f n w u v x. let l : time_asked.left t n ≡ 0 = begun_left t o o' n b in omega arith;
            stopped = λ n w u v x. omega arith;
            rests = λ f. omega arith;
            stopped_rests = omega arith;
          })
      by (Ends v) i = absurd i
