-- What is told of the heartbeat of the transaction of a line.
use Rattle.std.proofs.Common.{◌≡◌, ℕ, zero, suc, ◌-◌, ◌≤◌, List, Option, ap, ◌∙◌, subst, arith}
use Rattle.std.specs.Prelude.{OnOk, Result, Ok, Err}
use Rattle.txn_core.specs.declared.heartbeat.Heartbeat.{Heartbeat}
use Rattle.txn_clients.specs.Clients.{row_at}
use Rattle.txn_clients.specs.Hearts.{HeartIn, HeartOf}
use Rattle.txn_clients.specs.declared.row.Row.{Row}

-- what is so whatever a call comes to
pub on_ok_so : {T E A : Type 0} (r : Result T E) → A → OnOk r A
on_ok_so (Ok v) a = a
on_ok_so (Err e) a = tt

-- what is said of the row of a line is said of the line
row_line : {P : Type 0} (rows : List (Row P)) (i : ℕ) (r : Row P) → r ≡ row_at rows (suc i - 1) → r ≡ row_at rows i
row_line rows i r e = let same : suc i - 1 ≡ i = omega arith in e ∙ ap (row_at rows) same

pub heart_line : {P : Type 0} (rows : List (Row P)) (line : ℕ) (r : Row P) (beat : Option Heartbeat) → 1 ≤ line → r ≡ row_at rows (line - 1) → HeartIn r beat → HeartOf rows line beat
heart_line rows zero r beat one e h = absurd (omega (arith, one))
heart_line rows (suc i) r beat one e h = subst (λ x. HeartIn x beat) (row_line rows i r e) h
