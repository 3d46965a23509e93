-- An outbox in which more has been posted than in another: what a state knows of its tickets stays true.
use Rattle.std.specs.Prelude.{◌≡◌, ◌≤◌, ℕ, ◌+◌, List, [], ◌∷◌, refl}
use Rattle.std.proofs.Common.{◌∙◌}
use Rattle.std.proofs.Math.Nat.{le_refl, le_trans, le-add_right}
use Rattle.txn_kv.specs.declared.outbox.Errand.TheVariants.{Send, Sleep, Ask}
use Rattle.txn_kv.specs.declared.request.Request.{Request}
use Rattle.txn_history.specs.Event.{Event}
use Rattle.txn_history.specs.Moves.{Moves}
use Rattle.txn_history.specs.Posted.{Errand, Posted, ticket_of, AreNumbered}
use Rattle.txn_history.specs.Turn.{Turn}

-- the same line posts, and its numbers have not fallen
pub record IsLater (o later : Posted) : Type 0 where
  pub line : later.line ≡ o.line
  pub beat : later.beat ≡ o.beat
  pub next : o.next ≤ later.next
  pub next_ask : o.next_ask ≤ later.next_ask

-- lemmas

pub IsLater-refl : (o : Posted) → IsLater o o
IsLater-refl o = record { line = refl; beat = refl; next = le_refl o.next; next_ask = le_refl o.next_ask }

pub IsLater-trans : {a b c : Posted} → IsLater a b → IsLater b c → IsLater a c
IsLater-trans p q = record {
  line = q.line ∙ p.line;
  beat = q.beat ∙ p.beat;
  next = le_trans p.next q.next;
  next_ask = le_trans p.next_ask q.next_ask;
}

pub IsLater-ticket : {o later : Posted} → IsLater o later → (n : ℕ) → ticket_of later n ≡ ticket_of o n
IsLater-ticket p n = rw (p.line, p.beat) refl

-- the numbers given do not fall
pub numbers_rise : (first ask : ℕ) (rs : List Errand) (next next_ask : ℕ) → AreNumbered first ask rs next next_ask → (first ≤ next) × (ask ≤ next_ask)
numbers_rise first ask [] next next_ask n = (rw n.0 (le_refl first), rw n.1 (le_refl ask))
numbers_rise first ask (Send k to r ∷ rs) next next_ask n = let m = numbers_rise (first + 1) ask rs next next_ask n.1 in (le_trans (le-add_right first 1) m.0, m.1)
numbers_rise first ask (Sleep k ms ∷ rs) next next_ask n = let m = numbers_rise (first + 1) ask rs next next_ask n.1 in (le_trans (le-add_right first 1) m.0, m.1)
numbers_rise first ask (Ask k ∷ rs) next next_ask n = let m = numbers_rise first (ask + 1) rs next next_ask n.1 in (m.0, le_trans (le-add_right ask 1) m.1)

-- each event call leaves a later outbox
pub Moves-later : {A : Type 0}
    {may : List Event → Request → Type 0} {was is : List Event → Type 0} {gives : List Event → A → Type 0}
    {hear : List Event → List Event} {from to : Posted} {turn : Turn A}
    → Moves may was is gives hear from to turn → IsLater from to
Moves-later {from} {to} s = let n = numbers_rise from.next from.next_ask s.sends to.next to.next_ask s.numbered in record {
  line = s.line;
  beat = s.beat;
  next = n.0;
  next_ask = n.1;
}
