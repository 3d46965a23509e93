-- An outbox that had numbers left has numbers left, whatever was posted.
use Rattle.std.proofs.Common.{◌≡◌, ℕ, ◌+◌, ◌≤◌, List, [], ◌∷◌, length, ap, ◌∙◌, arith}
use Rattle.std.proofs.lemmas.List.{length-append}
use Rattle.txn_kv.specs.declared.outbox.Errand.TheVariants.{Send, Sleep, Ask}
use Rattle.txn_kv.specs.declared.request.Request.{Request}
use Rattle.txn_history.specs.Event.{Event}
use Rattle.txn_history.specs.Moves.{Moves}
use Rattle.txn_history.specs.Posted.{Errand, Posted, AreNumbered, HasNumbers}
use Rattle.txn_history.specs.Turn.{Turn}

numbers_by : (first ask : ℕ) (rs : List Errand) (next next_ask : ℕ) → AreNumbered first ask rs next next_ask → (next ≤ first + length rs) × (next_ask ≤ ask + length rs)
numbers_by first ask [] next next_ask n = (let e = n.0 in omega arith, let e = n.1 in omega arith)
numbers_by first ask (Send k to r ∷ rs) next next_ask n = let m = numbers_by (first + 1) ask rs next next_ask n.1 in let a = m.0 in let b = m.1 in (omega arith, omega arith)
numbers_by first ask (Sleep k ms ∷ rs) next next_ask n = let m = numbers_by (first + 1) ask rs next next_ask n.1 in let a = m.0 in let b = m.1 in (omega arith, omega arith)
numbers_by first ask (Ask k ∷ rs) next next_ask n = let m = numbers_by first (ask + 1) rs next next_ask n.1 in let a = m.0 in let b = m.1 in (omega arith, omega arith)

pub Moves-numbers : {A : Type 0}
    {may : List Event → Request → Type 0} {was is : List Event → Type 0} {gives : List Event → A → Type 0}
    {hear : List Event → List Event} {from to : Posted} {turn : Turn A}
    → Moves may was is gives hear from to turn → HasNumbers from → HasNumbers to
Moves-numbers {from} {to} s f =
    let n = numbers_by from.next from.next_ask s.sends to.next to.next_ask s.numbered in
    let a = n.0 in
    let b = n.1 in
    let long : length to.sends ≡ length from.sends + length s.sends = ap (λ x. length x) s.pushed ∙ length-append from.sends s.sends in
    record { next = omega (arith, f.next); next_ask = omega (arith, f.next_ask) }
