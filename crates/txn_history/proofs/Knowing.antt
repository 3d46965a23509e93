-- Calls whose clause rests on what is known over a history alone.
use Rattle.std.proofs.Common.{◌≡◌, ◌++◌, List, sym, subst, ◌∙◌}
use Rattle.std.proofs.lemmas.List.{append_cancel_left}
use Rattle.txn_kv.specs.declared.request.Request.{Request}
use Rattle.txn_history.specs.Event.{Event}
use Rattle.txn_history.specs.Moves.{Moves}
use Rattle.txn_history.specs.Posted.{Errand, Posted, after, AreNumbered, Licensed}
use Rattle.txn_history.specs.Turn.{Turn}
use Rattle.txn_history.specs.Turn.Turn.{Stopped, Waits, Ends}

-- these errands were posted
pub record Pushes (from to : Posted) : Type 0 where
  pub sends : List Errand
  pub pushed : to.sends ≡ from.sends ++ sends
  pub line : to.line ≡ from.line
  pub beat : to.beat ≡ from.beat
  pub numbered : AreNumbered from.next from.next_ask sends to.next to.next_ask

same_sends : {A : Type 0} {may : List Event → Request → Type 0} {was is : List Event → Type 0} {gives : List Event → A → Type 0}
    {hear : List Event → List Event} {from to : Posted} {turn : Turn A}
    → (p : Pushes from to) → (x : Moves may was is gives hear from to turn) → x.sends ≡ p.sends
same_sends {from} p x = append_cancel_left from.sends x.sends p.sends (sym x.pushed ∙ p.pushed)

-- The clause holds where K does, and K is known over each history.
pub Moves-known : {A : Type 0}
    (may : List Event → Request → Type 0) (was known is : List Event → Type 0) (gives : List Event → A → Type 0)
    (hear : List Event → List Event) {from to : Posted} (turn : Turn A) (K : Type 0)
    → Pushes from to
    → ((h : List Event) → was h × known h → K)
    → (K → Moves may was is gives hear from to turn)
    → Moves may (λ h. was h × known h) is gives hear from to turn
Moves-known may was known is gives hear {from} Stopped K p k m = record {
  sends = p.sends;
  pushed = p.pushed;
  line = p.line;
  beat = p.beat;
  numbered = p.numbered;
  licensed = λ h f. let x = m (k h f) in subst (λ (rs : List Errand). Licensed may from.line from.beat (hear h) rs) (same_sends p x) (x.licensed h f.0);
  still = tt;
  done = tt;
}
Moves-known may was known is gives hear {from} Waits K p k m = record {
  sends = p.sends;
  pushed = p.pushed;
  line = p.line;
  beat = p.beat;
  numbered = p.numbered;
  licensed = λ h f. let x = m (k h f) in subst (λ (rs : List Errand). Licensed may from.line from.beat (hear h) rs) (same_sends p x) (x.licensed h f.0);
  still = λ h f. let x = m (k h f) in subst (λ (rs : List Errand). is (after from.line from.beat (hear h) rs)) (same_sends p x) (x.still h f.0);
  done = tt;
}
Moves-known may was known is gives hear {from} (Ends v) K p k m = record {
  sends = p.sends;
  pushed = p.pushed;
  line = p.line;
  beat = p.beat;
  numbered = p.numbered;
  licensed = λ h f. let x = m (k h f) in subst (λ (rs : List Errand). Licensed may from.line from.beat (hear h) rs) (same_sends p x) (x.licensed h f.0);
  still = λ h f. let x = m (k h f) in subst (λ (rs : List Errand). is (after from.line from.beat (hear h) rs)) (same_sends p x) (x.still h f.0);
  done = λ h f. let x = m (k h f) in subst (λ (rs : List Errand). gives (after from.line from.beat (hear h) rs) v) (same_sends p x) (x.done h f.0);
}
