-- What every state of a call keeps to, whatever the call is about.
use Rattle.std.specs.Prelude.{◌≡◌, Bool, true, false}
use Rattle.txn_history.specs.Turn.{Turn, IfEnds}
use Rattle.txn_history.specs.Turn.Turn.{Stopped, Waits}

-- An event of a state, which `hears` it where it waits for it: a start, where it was not started; a reply, a loss, the end of
-- a sleep or a timestamp, where that is out. The state `was` over where it had answered, and gone where it had given up for
-- want of memory; `is` says the same of it afterwards, and `is_out` that it waits for something that was posted. It stays the
-- `same` where it, its outbox and what it was lent are as before.
pub record Heeds {A : Type 0} (hears : Bool) (was_over was_gone same is_over is_gone is_out : Type 0) (turn : Turn A) : Type 0 where
  -- it answers once, and then hears nothing
  pub once : was_over → hears ≡ false
  pub over : IfEnds turn (λ v. is_over)
  -- what it does not hear changes nothing
  pub unheard : hears ≡ false → (was_gone → ⊥) → (turn ≡ Waits) × same
  -- it gives up for good
  pub for_good : was_gone → turn ≡ Stopped
  pub gone : turn ≡ Stopped → is_gone
  -- after what it hears it waits only for what is out
  pub waits : hears ≡ true → turn ≡ Waits → is_out
