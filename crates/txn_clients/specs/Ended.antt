-- What stands at a line whose call has ended, by what the call answered.
use Rattle.std.specs.Prelude.{◌≡◌, ℕ, Some, Result, Ok, Err}
use Rattle.txn_kv.specs.Timestamp.{version_of}
use Rattle.txn_kv.specs.declared.errors.Error.{Error}
use Rattle.txn_core.specs.declared.txn_answer.TxnAnswer.{TxnAnswer}
use Rattle.txn_core.specs.declared.txn_answer.TxnAnswer.TheVariants as answer
use Rattle.txn_client.specs.declared.client_answer.ClientAnswer.{ClientAnswer}
use Rattle.txn_client.specs.declared.client_answer.ClientAnswer.TheVariants.{Begun, Time}
use Rattle.txn_report.specs.declared.outcome.Outcome.{Outcome}
use Rattle.txn_report.specs.declared.outcome.Outcome.TheVariants as outcomes
use Rattle.txn_report.specs.declared.outcome.Payload.TheVariants as payloads
use Rattle.txn_clients.specs.Rows.{Pd}
use Rattle.txn_clients.specs.declared.row.Row.{Row}
use Rattle.txn_clients.specs.declared.row.Row.TheVariants as row

-- where it was for a timestamp, a transaction that begins, or nothing; and this is its outcome
abbrev pub AskLeaves : {P : Type 0} → ℕ → Result (ClientAnswer Pd P) Error → Row P → Outcome → Type 0
AskLeaves client (Ok (Begun b)) r o = (r ≡ row.Begun client b 0) × (o ≡ outcomes.Ok (payloads.Number (version_of b.start)))
AskLeaves client (Ok (Time t)) r o = (r ≡ row.Past client) × (o ≡ outcomes.Ok (payloads.Number (version_of t)))
AskLeaves client (Err e) r o = (r ≡ row.Past client) × (o ≡ outcomes.Err e)

-- where it was of a transaction, the job that it hands out, or nothing
abbrev pub CallLeaves : {P : Type 0} → ℕ → Result (TxnAnswer P) Error → Row P → Type 0
CallLeaves client (Ok (answer.Committed t (Some job))) r = r ≡ row.Working client job
CallLeaves client v r = r ≡ row.Past client
