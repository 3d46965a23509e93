-- From how an event is told step by step to what is said of it: over histories, in numbers, and of what the call waits for.
use Rattle.std.proofs.Common.{◌≡◌, ◌≢◌, inl, inr, Bool, true, false, List, refl, sym, ap, subst, arith}
use Rattle.std.proofs.lemmas.Bool.{cases_Bool}
use Rattle.std.specs.Prelude.{Result}
use Rattle.txn_kv.specs.declared.errors.Error.{Error}
use Rattle.txn_kv.specs.declared.query.PdAnswer.{PdAnswer}
use Rattle.txn_kv.specs.declared.query.PdQuery.{PdQuery}
use Rattle.txn_history.proofs.Counting.{Spends-failed}
use Rattle.txn_history.specs.Event.{Event}
use Rattle.txn_history.specs.Moves.{Moves, Moves-stopped}
use Rattle.txn_history.specs.Posted.{HasNumbers, Posted}
use Rattle.txn_history.specs.Spends.{calls, sleeps}
use Rattle.txn_history.specs.Turn.{IfEnds, Turn}
use Rattle.txn_history.specs.Turn.Turn.{Stopped, Waits, Ends}
use Rattle.txn_tso.specs.Calling.{CallFits, Gives, MayAsk}
use Rattle.txn_tso.specs.Counting.{CallSpends}
use Rattle.txn_tso.specs.Heeding.{CallHeeds, IsOut}
use Rattle.txn_tso.specs.Steps.{Standing, Stands, Stood}
use Rattle.txn_tso.specs.declared.pd_call.PdCall.{PdCall}
use Rattle.txn_tso.specs.declared.stage.Stage.TheVariants as stage
use Rattle.txn_tso.proofs.Heeding.{IsHeard, IsHeardBy}
use Rattle.txn_tso.proofs.Keeping.{Asks, HasMore, Then}
use Rattle.txn_tso.proofs.Moving.{Safe}
use Rattle.txn_tso.proofs.Spending.{Paid}

-- what holds of how the step is told holds of the call
came_about : (P : Turn (Result PdAnswer Error) → Standing → Type 0) (st : Stood) (turn : Turn (Result PdAnswer Error)) (x : Standing) → st.turn ≡ turn → x ≡ st.at → P st.turn st.at → P turn x
came_about P st turn x e f p = subst (P turn) (sym f) (subst (λ t. P t st.at) e p)

pub stood_moves : (s : PdCall) (o : Posted) (hear : List Event → List Event) (st : Stood) (turn : Turn (Result PdAnswer Error)) (x : Standing) → Safe s o hear st → Stands s.query o st turn x
    → Moves (MayAsk s) (CallFits s o) (CallFits x.call x.out) (Gives s o) hear o x.out turn
stood_moves s o hear st Stopped x m d = Moves-stopped refl d.2
stood_moves s o hear st Waits x m d = came_about (λ t y. Moves (MayAsk s) (CallFits s o) (CallFits y.call y.out) (Gives s o) hear o y.out t) st Waits x d.0 d.1 m
stood_moves s o hear st (Ends v) x m d = came_about (λ t y. Moves (MayAsk s) (CallFits s o) (CallFits y.call y.out) (Gives s o) hear o y.out t) st (Ends v) x d.0 d.1 m

pub stood_spends : (s : PdCall) (bad : Bool) (o : Posted) (st : Stood) (turn : Turn (Result PdAnswer Error)) (x : Standing) → Paid s bad o st → Stands s.query o st turn x
    → CallSpends s x.call bad o x.out turn
stood_spends s bad o st Stopped x p d = Spends-failed refl (ap calls d.2) (let same = ap sleeps d.2 in omega arith) (omega arith)
stood_spends s bad o st Waits x p d = came_about (λ t y. CallSpends s y.call bad o y.out t) st Waits x d.0 d.1 p
stood_spends s bad o st (Ends v) x p d = came_about (λ t y. CallSpends s y.call bad o y.out t) st (Ends v) x d.0 d.1 p

-- what is kept stays; a call that gives up has its query and its outbox as before
pub stood_query : (q : PdQuery) (o : Posted) (st : Stood) (turn : Turn (Result PdAnswer Error)) (x : Standing) → Then (Asks q) st → Stands q o st turn x → x.call.query ≡ q
stood_query q o st Stopped x e d = d.1
stood_query q o st Waits x e d = came_about (λ t. Asks q) st Waits x d.0 d.1 e
stood_query q o st (Ends v) x e d = came_about (λ t. Asks q) st (Ends v) x d.0 d.1 e

pub stood_numbers : (q : PdQuery) (o : Posted) (st : Stood) (turn : Turn (Result PdAnswer Error)) (x : Standing) → HasNumbers o → Then HasMore st → Stands q o st turn x → HasNumbers x.out
stood_numbers q o st Stopped x n e d = subst HasNumbers (sym d.2) n
stood_numbers q o st Waits x n e d = came_about (λ t. HasMore) st Waits x d.0 d.1 e
stood_numbers q o st (Ends v) x n e d = came_about (λ t. HasMore) st (Ends v) x d.0 d.1 e

stopped_gone : (q : PdQuery) (o : Posted) (st : Stood) (turn : Turn (Result PdAnswer Error)) (x : Standing) → Stands q o st turn x → turn ≡ Stopped → x.call.stage ≡ stage.Stopped
stopped_gone q o st Stopped x d e = d.0
stopped_gone q o st Waits x d e = absurd (cc)
stopped_gone q o st (Ends v) x d e = absurd (cc)

heard_waits : (q : PdQuery) (o : Posted) (st : Stood) (turn : Turn (Result PdAnswer Error)) (x : Standing) → Stands q o st turn x → IsHeard st → turn ≡ Waits → IsOut x.call.stage x.out
heard_waits q o st Stopped x d h e = absurd (cc)
heard_waits q o st Waits x d h e = came_about IsHeardBy st Waits x d.0 d.1 h
heard_waits q o st (Ends v) x d h e = absurd (cc)

heard_ends : (q : PdQuery) (o : Posted) (st : Stood) (turn : Turn (Result PdAnswer Error)) (x : Standing) → Stands q o st turn x → IsHeard st → IfEnds turn (λ v. x.call.stage ≡ stage.Over)
heard_ends q o st Stopped x d h = tt
heard_ends q o st Waits x d h = tt
heard_ends q o st (Ends v) x d h = came_about IsHeardBy st (Ends v) x d.0 d.1 h

unheard_ends : (P : Type 0) (turn : Turn (Result PdAnswer Error)) → turn ≡ Waits → IfEnds turn (λ v. P)
unheard_ends P Stopped e = tt
unheard_ends P Waits e = tt
unheard_ends P (Ends v) e = absurd (cc)

-- A call that had not given up: what it hears is told step by step, and what it does not hear changes nothing.
pub stood_heeds : (hears : Bool) (x : Standing) (st : Stood) (turn : Turn (Result PdAnswer Error)) (y : Standing)
    → x.call.stage ≢ stage.Stopped
    → (x.call.stage ≡ stage.Over → hears ≡ false)
    → (hears ≡ true → IsHeard st)
    → (hears ≡ false → (turn ≡ Waits) × (y ≡ x))
    → Stands x.call.query x.out st turn y
    → CallHeeds hears x turn y
stood_heeds hears x st turn y kept once heard quiet d = record {
  once = once;
  over = elim (cases_Bool hears) [
    | inl e ↦ heard_ends x.call.query x.out st turn y d (heard e)
    | inr e ↦ unheard_ends (y.call.stage ≡ stage.Over) turn (quiet e).0
  ];
  unheard = λ e n. quiet e;
  for_good = λ e. absurd (kept e);
  gone = stopped_gone x.call.query x.out st turn y d;
  waits = λ e. heard_waits x.call.query x.out st turn y d (heard e);
}

-- a call that had given up gives up
pub gone_heeds : (hears : Bool) (x : Standing) → x.call.stage ≡ stage.Stopped → (x.call.stage ≡ stage.Over → hears ≡ false) → CallHeeds hears x Stopped x
gone_heeds hears x g once = record {
  once = once;
  over = tt;
  unheard = λ e n. absurd (n g);
  for_good = λ e. refl;
  gone = λ e. g;
  waits = λ e f. absurd (cc);
}

pub stood_awake : (q : PdQuery) (o : Posted) (st : Stood) (turn : Turn (Result PdAnswer Error)) (x : Standing) → sleeps st.at.out ≡ sleeps o → Stands q o st turn x → sleeps x.out ≡ sleeps o
stood_awake q o st Stopped x e d = ap sleeps d.2
stood_awake q o st Waits x e d = came_about (λ t y. sleeps y.out ≡ sleeps o) st Waits x d.0 d.1 e
stood_awake q o st (Ends v) x e d = came_about (λ t y. sleeps y.out ≡ sleeps o) st (Ends v) x d.0 d.1 e
