-- What a task does once its plan has answered.
use Rattle.std.proofs.Common.{◌≡◌, inl, inr, ℕ, ◌+◌, Bool, true, false, List, [], ◌∷◌, ◌++◌, refl, sym, ap, arith}
use Rattle.std.proofs.lemmas.Bool.{false≢true}
use Rattle.std.specs.Prelude.{if◌then◌else◌, IsErr, Option, Some, None, Result, Ok, Err}
use Rattle.txn_history.proofs.Counting.{calls-more, sleeps-more, Spends-quiet}
use Rattle.txn_history.proofs.Telling.{Expects-quiet}
use Rattle.txn_history.specs.Event.{Event}
use Rattle.txn_history.specs.Event.Event.{Began}
use Rattle.txn_history.specs.Meaning.{IsLawful, Meaning}
use Rattle.txn_history.specs.Moves.{Moves-quiet, Moves-slept}
use Rattle.txn_history.specs.Posted.{Posted, ticket_of, Within-one}
use Rattle.txn_history.specs.Turn.{Turn}
use Rattle.txn_history.specs.Turn.Turn.{Stopped, Waits, Ends}
use Rattle.txn_kv.specs.Backoff.{is_spent}
use Rattle.txn_kv.specs.ErrorView.{ErrorView}
use Rattle.txn_kv.specs.declared.backoff.Backoff.{Backoff}
use Rattle.txn_kv.specs.declared.errors.Error.{Error}
use Rattle.txn_kv.specs.declared.errors.Error.TheVariants.{GrpcAPI}
use Rattle.txn_kv.specs.declared.memory.NoMemory.{NoMemory}
use Rattle.txn_kv.specs.declared.message.RegionErr.{RegionErr}
use Rattle.txn_kv.specs.declared.outbox.Errand.TheVariants.{Sleep}
use Rattle.txn_kv.specs.declared.ticket.Ticket.{Ticket}
use Rattle.txn_retry.specs.Remedy.{after, delay_ms, on_loss}
use Rattle.txn_retry.specs.declared.remedy.Next.{Next}
use Rattle.txn_retry.specs.declared.remedy.Next.TheVariants.{Sleep as NapFor}
use Rattle.txn_stores.specs.Settling.{Settles}
use Rattle.txn_stores.specs.StoreTask.{IsOutcome}
use Rattle.txn_stores.specs.declared.stage.Stage.TheVariants as stage
use Rattle.txn_stores.specs.declared.store_task.StoreTask.{StoreTask}
use Rattle.txn_tasks.specs.Step.{step_turn}
use Rattle.txn_tasks.specs.declared.step.Step.{Step}
use Rattle.txn_tasks.specs.declared.step.Step.TheVariants.{End}

pub step_stopped : {T A : Type 0} (r : Result (Option (Step T A)) NoMemory) → IsErr r → step_turn r ≡ Stopped
step_stopped (Ok s) e = absurd (false≢true e)
step_stopped (Err e) i = refl

-- it answers
pub Settles-end : {S R : Type 0} {m : Meaning S (Result R Error)} {keys : R → List ErrorView} {region : R → Option RegionErr} {known : List Event → Type 0} {failed : Bool}
    {old new : StoreTask S} {o : Posted} {turn : Turn (Step (StoreTask S) R)} (answer : Result R Error)
    → new ≡ record old { stage = stage.Over }
    → turn ≡ Ends (End (Ok answer))
    → ((h : List Event) → known h → IsOutcome m keys region old.job old.backoff h answer)
    → Settles m keys region known failed old new o o turn
Settles-end answer e t k = rw (e, t) (record {
  moves = Moves-quiet refl (λ h f. record { at = tt }) k;
  expects = Expects-quiet (λ a w. absurd w);
  stage = refl;
  next = refl;
  off = refl;
  ends = tt;
  ready = tt;
  spends = Spends-quiet (λ f. absurd (false≢true f)) (λ w b. tt) (λ n. omega arith);
})

-- it gives up
pub Settles-stopped : {S R : Type 0} {m : Meaning S (Result R Error)} {keys : R → List ErrorView} {region : R → Option RegionErr} {known : List Event → Type 0} {failed : Bool}
    {old new : StoreTask S} {from to : Posted} {turn : Turn (Step (StoreTask S) R)}
    → new ≡ record old { stage = stage.Stopped }
    → turn ≡ Stopped
    → to ≡ from
    → Settles m keys region known failed old new from to turn
Settles-stopped e t same = rw (e, t, same) (record {
  moves = Moves-quiet refl tt tt;
  expects = Expects-quiet (λ a w. absurd w);
  stage = refl;
  next = refl;
  off = refl;
  ends = tt;
  ready = tt;
  spends = Spends-quiet (λ f. absurd (false≢true f)) (λ w b. tt) (λ n. omega arith);
})

-- it sleeps before another task is given
pub Settles-slept : {S R : Type 0} {m : Meaning S (Result R Error)} {keys : R → List ErrorView} {region : R → Option RegionErr}
    {old new : StoreTask S} {from to : Posted} (law : IsLawful m) (ms : ℕ) (left : Backoff) (ticket : Ticket)
    → delay_ms old.backoff ≡ Some ms
    → left ≡ after old.backoff
    → new ≡ record old { stage = stage.Sleeping from.next left }
    → to ≡ record from { next = from.next + 1; sends = from.sends ++ Sleep from.next ms ∷ [] }
    → Settles m keys region (λ h. m.gives old.job h (Err (GrpcAPI ticket))) true old new from to Waits
Settles-slept {m = m} {old = old} {from = from} {to = to} law ms left ticket delay goes_on e p =
    let posted = calls-more from to (Sleep from.next ms) (ap (λ (o : Posted). o.sends) p) in
    let begun = sleeps-more from to (Sleep from.next ms) (ap (λ (o : Posted). o.sends) p) in
    rw e (record {
      moves = Moves-slept ms p (λ h f. record {
        at = record {
          loss = (ticket, law.gives_longer old.job h (Began (ticket_of from from.next) ms ∷ h) _ (Within-one _ h) f);
          goes_on = goes_on;
          ms = ms;
          delay = delay;
          began = rw p (inl refl);
          posted = rw p (omega arith);
        };
      });
      expects = record { sends = Sleep from.next ms ∷ []; pushed = ap (λ (o : Posted). o.sends) p; only = λ a w. inr (Sleep from.next ms, inl refl, sym w) };
      stage = refl;
      next = refl;
      off = refl;
      ends = tt;
      ready = tt;
      spends = record {
        wider = omega arith;
        bears = λ k w b. tt;
        allowed = λ k f. absurd (false≢true f);
        spends = λ k n w u o b. omega arith;
        stopped = λ n w u o b. omega arith;
        rests = λ k. omega arith;
        stopped_rests = omega arith;
      };
    })

-- the backoff where a loss asks for a sleep, and where it does not

spent_by : (spent : Bool) (k : ℕ) (r : Next) → r ≡ (on_loss (if spent then None else Some k)).next → ((ms : ℕ) → r ≡ NapFor ms → ⊥) → spent ≡ true
spent_by true k r e n = refl
spent_by false k r e n = absurd (n k e)

pub spent : (b : Backoff) (r : Next) → r ≡ (on_loss (delay_ms b)).next → ((ms : ℕ) → r ≡ NapFor ms → ⊥) → is_spent b ≡ true
spent b r e n = spent_by (is_spent b) _ r e n
