-- A line with which nothing went wrong.
use Rattle.std.specs.Prelude.{◌≡◌, ◌≢◌, ℕ, false, List, [], Some, None}
use Rattle.txn_kv.specs.declared.errors.Error.{Error}
use Rattle.txn_kv.specs.declared.errors.Internal.{Internal}
use Rattle.txn_kv.specs.declared.region.RegionWithLeader.{RegionWithLeader}
use Rattle.txn_kv.specs.declared.reply.Reply.{Reply}
use Rattle.txn_kv.specs.declared.request.Request.{Request}
use Rattle.txn_kv.specs.declared.ticket.Ticket.{Ticket}
use Rattle.txn_history.specs.Among.{IsAmong}
use Rattle.txn_history.specs.Event.{Has}
use Rattle.txn_history.specs.Event.Event.{Took, Lost}
use Rattle.txn_causes.specs.Carried.{key_errors_in, region_error_in, region_in, is_reversed, FoundNone, FoundOther, HasBadKey}
use Rattle.txn_causes.specs.Kinds.{IsOfKind}
use Rattle.txn_lines.specs.declared.line.Line.{Line}
use Rattle.txn_machine.specs.Failing.{AllCausesMeet}
use Rattle.txn_report.specs.declared.report.Report.{Report}
use Rattle.txn_side.specs.Trace.{IsCalled, IsCommit, IsFrom, IsRefusedIn, Trace}
use Rattle.txn_run.specs.Caused.{trace_at}

-- a region record that lacks nothing: its end is above its start, it has an epoch and a leader, and its bounds are keys
pub record IsGoodRecord (r : RegionWithLeader) : Type 0 where
  pub upright : is_reversed r.region ≡ false
  pub epoch : r.region.region_epoch ≢ None
  pub leader : r.leader ≢ None
  pub keys : (what : Internal) → HasBadKey what r → ⊥

-- A reply of the request's kind, without error. A look-up found a region, and the one that was asked for, and its record lacks nothing.
pub record IsGoodReply (r : Request) (o : Reply) : Type 0 where
  pub like : IsOfKind r o
  pub region_error : region_error_in o ≡ None
  pub key_errors : key_errors_in o ≡ []
  pub found : FoundNone r o → ⊥
  pub wanted : (id : ℕ) → FoundOther id r o → ⊥
  pub record_in : (x : RegionWithLeader) → region_in o ≡ Some x → IsGoodRecord x

-- No request of line n itself was lost, be its heartbeat as it may, and no request for timestamps that carried an ask of it failed; each reply to it was good. Where it
-- rolls back, no Commit of its transaction was lost either, of whichever line.
pub record IsCalm (t : Trace) (n : ℕ) : Type 0 where
  pub kept : (u : Ticket) (r : Request) → Has t.events (Lost u r) → IsFrom n u → ⊥
  pub timed : (e : Error) → IsRefusedIn t n e → ⊥
  pub good : (u : Ticket) (r : Request) (o : Reply) → Has t.events (Took u r o) → IsFrom n u → IsGoodReply r o
  pub settled : IsAmong t.rollbacks n → (at : ℕ) (u : Ticket) (r : Request) → IsCalled t n at → Has t.events (Lost u r) → IsCalled t u.line at → IsCommit r → ⊥

-- A line that fails is none of these.
abbrev pub IsNotCalm : Trace → ℕ → Error → Type 0
IsNotCalm t n e = IsCalm t n → ⊥

-- so of each line whose account does not refuse it, by what had come to it when it ended
abbrev pub AreCalm : List Line → Report → Type 0
AreCalm script report = AllCausesMeet (λ n e. IsNotCalm (trace_at script report n) n e) report.outcomes report.ended script
