-- What the calls at the lines post and answer.
use Rattle.std.proofs.Common.{◌≡◌, Bool, true, false, List, [], Option, Some, None, refl, sym, ap, ◌∙◌, subst, append-nil}
use Rattle.std.specs.Prelude.{Result}
use Rattle.txn_kv.specs.declared.errors.Error.{Error}
use Rattle.txn_kv.specs.declared.request.Request.{Request}
use Rattle.txn_kv.specs.declared.ticket.Ticket.{Ticket}
use Rattle.txn_history.specs.Event.{Event}
use Rattle.txn_history.specs.Meaning.{Goes}
use Rattle.txn_history.specs.Moves.{Moves}
use Rattle.txn_history.specs.Phase.{Phase, unheard}
use Rattle.txn_history.specs.Phase.Phase.{Fresh, GivenUp, Over, Running}
use Rattle.txn_history.specs.Posted.{Posted}
use Rattle.txn_history.specs.Turn.{IfEnds, IfKept, Turn}
use Rattle.txn_history.specs.Turn.Turn.{Stopped, Waits, Ends}
use Rattle.txn_buffer.specs.Contents.{Contents}
use Rattle.txn_commit.specs.Ways.{Ways}
use Rattle.txn_core.specs.Going.{TransactionReady, WorkReady}
use Rattle.txn_core.specs.Transaction.{Standing, WriteEnds, is_open, is_waiting}
use Rattle.txn_core.specs.Waiting.{HandsOut, work_phase}
use Rattle.txn_core.specs.declared.transaction.Work.{Work}
use Rattle.txn_core.specs.declared.transaction.Work.TheVariants.{Idle, Open, GaveUp}
use Rattle.txn_core.specs.declared.txn_answer.TxnAnswer.{TxnAnswer}
use Rattle.txn_clients.specs.Rows.{IsTold, Posts}

-- What is posted

pub posts_none : (from to : Posted) → to ≡ from → Posts from to
posts_none from to e = record {
  sends = [];
  pushed = rw e (sym (append-nil from.sends));
  numbered = (ap (λ (o : Posted). o.next) e, ap (λ (o : Posted). o.next_ask) e);
}

pub posts_moves : {A : Type 0} {may : List Event → Request → Type 0} {was is : List Event → Type 0} {gives : List Event → A → Type 0} {hear : List Event → List Event} {from to : Posted} {turn : Turn A}
    → Moves may was is gives hear from to turn → Posts from to
posts_moves m = record { sends = m.sends; pushed = m.pushed; numbered = m.numbered }

-- a commit, which may be refused
pub posts_commit : {A R : Type 0} {may : List Event → Request → Type 0} {was is : List Event → Type 0} {gives : List Event → A → Type 0} {hear : List Event → List Event} {from to : Posted} {turn : Turn A}
    → (b : Bool) → (b ≡ false → R × (to ≡ from)) → (b ≡ true → Moves may was is gives hear from to turn) → Posts from to
posts_commit {from = from} {to = to} true refused moves = posts_moves (moves refl)
posts_commit {from = from} {to = to} false refused moves = posts_none from to (refused refl).1

-- and a rollback, which may be refused for two reasons
pub posts_rollback : {A R : Type 0} {S U : Ticket → Type 0} {may : List Event → Request → Type 0} {was is : List Event → Type 0} {gives : List Event → A → Type 0} {hear : List Event → List Event} {from to : Posted} {turn : Turn A}
    → (b : Bool) (u : Option Ticket) → (b ≡ false → R × (to ≡ from)) → ((t : Ticket) → b ≡ true → u ≡ Some t → S t × U t × (to ≡ from)) → (b ≡ true → u ≡ None → Moves may was is gives hear from to turn) → Posts from to
posts_rollback {from = from} {to = to} false u refused undetermined moves = posts_none from to (refused refl).1
posts_rollback {from = from} {to = to} true (Some t) refused undetermined moves = let k = undetermined t refl refl in posts_none from to k.2
posts_rollback {from = from} {to = to} true None refused undetermined moves = posts_moves (moves refl refl)

-- What a transaction is told

module _ {P : Type 0} (w : Ways P) where
  -- a write ends at once
  pub told_write : (refusal : Option Error) (wrote : Contents → Contents → Type 0) (old new : Standing P) (from to : Posted) (turn : Turn (Result (TxnAnswer P) Error))
      → WriteEnds refusal wrote old new turn → is_open old.work ≡ false → TransactionReady w old → to ≡ from → IfKept turn (IsTold w new from to turn)
  told_write refusal wrote old new from to Stopped h idle ready quiet = tt
  told_write refusal wrote old new from to Waits h idle ready quiet = absurd h
  told_write None wrote old new from to (Ends v) h idle ready quiet = subst (λ (t : Standing P). IsTold w t from to (Ends v)) (sym h.1) (record {
    posts = posts_none from to quiet;
    ready = record { start = ready.start; work = ready.work };
    rests = idle;
    hands = subst (HandsOut w.plan) (sym h.0) tt;
  })
  told_write (Some e) wrote old new from to (Ends v) h idle ready quiet = subst (λ (t : Standing P). IsTold w t from to (Ends v)) (sym h.1) (record {
    posts = posts_none from to quiet;
    ready = ready;
    rests = idle;
    hands = subst (HandsOut w.plan) (sym h.0) tt;
  })

  -- a commit or a rollback begins
  pub told_call : (new : Standing P) (from to : Posted) (turn : Turn (Result (TxnAnswer P) Error))
      → TransactionReady w new → is_open new.work ≡ is_waiting turn → IfEnds turn (HandsOut w.plan) → Posts from to → IfKept turn (IsTold w new from to turn)
  told_call new from to Stopped ready busy hands posts = tt
  told_call new from to Waits ready busy hands posts = record { posts = posts; ready = ready; rests = tt; hands = tt }
  told_call new from to (Ends v) ready busy hands posts = record { posts = posts; ready = ready; rests = busy; hands = hands }

  -- a call that is open ends, or goes on
  never : {X : Type 0} (p : Phase) (v : X) → Ends v ≡ unheard p → ⊥
  never Fresh v e = cc
  never Running v e = cc
  never Over v e = cc
  never GivenUp v e = cc

  not_over : Running ≡ Over → ⊥
  not_over e = cc

  rests_after : {C : Type 0} (meant : Type 0) (old new : Standing P) (from to : Posted) (pd pd' : C) (v : Result (TxnAnswer P) Error)
      → Goes (λ (t : Standing P). work_phase w t.work) meant old new from to pd pd' (Ends v)
      → (work : Work P) → new.work ≡ work → WorkReady w new.start work → is_open work ≡ false
  rests_after meant old new from to pd pd' v g Idle e r = refl
  rests_after meant old new from to pd pd' v g (Open call) e r =
      absurd (never (work_phase w old.work) v (g.deaf (λ this. not_over (sym r.2 ∙ (ap (work_phase w) (sym e) ∙ g.next this)))))
  rests_after meant old new from to pd pd' v g GaveUp e r = refl

  pub told_heard : {C : Type 0} (meant : Type 0) (old new : Standing P) (from to : Posted) (pd pd' : C) (turn : Turn (Result (TxnAnswer P) Error))
      → Goes (λ (t : Standing P). work_phase w t.work) meant old new from to pd pd' turn
      → TransactionReady w new → IfEnds turn (HandsOut w.plan) → Posts from to → IfKept turn (IsTold w new from to turn)
  told_heard meant old new from to pd pd' Stopped g ready hands posts = tt
  told_heard meant old new from to pd pd' Waits g ready hands posts = record { posts = posts; ready = ready; rests = tt; hands = tt }
  told_heard meant old new from to pd pd' (Ends v) g ready hands posts = record { posts = posts; ready = ready; rests = rests_after meant old new from to pd pd' v g new.work refl ready.work; hands = hands }
