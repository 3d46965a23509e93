-- What a call that is open, or ends later, makes of the account of its transaction: by what it asks, here alone.
use Rattle.std.proofs.Common.{◌≡◌, Bool, true, false, refl, sym, ap}
use Rattle.txn_lines.specs.declared.act.Act.{Act}
use Rattle.txn_lines.specs.declared.act.Act.TheVariants as acts
use Rattle.txn_report.specs.declared.outcome.Outcome.{Outcome}
use Rattle.txn_report.specs.declared.outcome.Outcome.TheVariants.{Done, Err, Ok, Skipped, Unfinished}
use Rattle.txn_report.specs.declared.outcome.Payload.TheVariants.{Unit as Nothing, Number, Commit as Committed}
use Rattle.txn_side.specs.Account.{Account, Status, closed_by, is_write, made_by, rolled_by}
use Rattle.txn_side.specs.Account.Status.{StartedRollback}
use Rattle.txn_side.specs.Sight.{commits}

-- what is open yet is as if it had begun in an earlier line
pub made_open : (act : Act) (account : Account) → made_by act true Unfinished account ≡ made_by act false Unfinished account
made_open (acts.Put key value) account = refl
made_open (acts.Insert key value) account = refl
made_open (acts.Delete key) account = refl
made_open (acts.Mutate mutations) account = refl
made_open (acts.Lock keys) account = refl
made_open acts.Commit account = refl
made_open acts.Rollback account = refl

-- a rollback that ends later leaves the same status wherever it began
rolled_again : (s : Status) (o : Outcome) → rolled_by false s o ≡ rolled_by false StartedRollback o
rolled_again s (Ok Nothing) = refl
rolled_again s (Ok (Number v)) = refl
rolled_again s (Ok (Committed t)) = refl
rolled_again s (Err e) = refl
rolled_again s Unfinished = refl
rolled_again s Done = refl
rolled_again s Skipped = refl

-- a call that was open and then ends makes of the account what it makes at once
pub made_later : (act : Act) (b : Bool) (o : Outcome) (account : Account) → is_write act ≡ false → commits act ≡ b → closed_by b o (made_by act false Unfinished account) ≡ made_by act false o account
made_later acts.Commit true o account h k = refl
made_later acts.Commit false o account h k = absurd (cc)
made_later acts.Rollback true o account h k = absurd (cc)
made_later acts.Rollback false o account h k = ap (λ s. record account { status = s }) (sym (rolled_again account.status o))
made_later (acts.Put key value) b o account h k = absurd (cc)
made_later (acts.Insert key value) b o account h k = absurd (cc)
made_later (acts.Delete key) b o account h k = absurd (cc)
made_later (acts.Mutate mutations) b o account h k = absurd (cc)
made_later (acts.Lock keys) b o account h k = absurd (cc)
