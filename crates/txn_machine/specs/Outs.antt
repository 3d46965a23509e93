-- What is out after the lines of a script, by its report. Lines stand here with the newest first.
use Rattle.std.specs.Prelude.{◌≡◌, ◌<◌, ⊤, Bool, true, false, not, ◌&&◌, ◌||◌, List, [], ◌∷◌, length}
use Rattle.std.proofs.Common.{suc}
use Rattle.txn_kv.specs.declared.ticket.Ticket.{Ticket}
use Rattle.txn_history.specs.Among.{IsAmong}
use Rattle.txn_history.specs.Event.{Event, is_awaited}
use Rattle.txn_lines.specs.declared.line.Line.{Line}
use Rattle.txn_report.specs.declared.report.Report.{Report}
use Rattle.txn_machine.specs.Causes.{began, hears, is_woken}
use Rattle.txn_machine.specs.Script.{history, outcome_of}

-- a reply to the request is awaited, or the sleep lasts
abbrev pub is_out_by : (Ticket → Bool) → List Event → Ticket → Bool
is_out_by asleep es t = is_awaited es t || asleep t && not (is_woken es t)

-- and the client of the ticket's line has not crashed
abbrev pub is_out_after : List Line → Report → Ticket → Bool
is_out_after script report t =
    hears (λ n. outcome_of report.outcomes n) script t
    && is_out_by (λ u. began report.sleeps (suc (length script)) u) (history report.sent report.outcomes script) t

-- the first is of an earlier line; or of the same, where what its heartbeat has out comes last, and a smaller number first
pub data ComesBefore (t u : Ticket) : Type 0 where
  earlier : t.line < u.line → ComesBefore t u
  heartbeat : t.line ≡ u.line → t.beat ≡ false → u.beat ≡ true → ComesBefore t u
  smaller : t.line ≡ u.line → t.beat ≡ u.beat → t.number < u.number → ComesBefore t u

abbrev pub AreInOrder : List Ticket → Type 0
AreInOrder [] = ⊤
AreInOrder (t ∷ ts) = ((u : Ticket) → IsAmong ts u → ComesBefore t u) × AreInOrder ts

-- these are the tickets that are out, in their order
pub record AreOutAfter (script : List Line) (report : Report) (outs : List Ticket) : Type 0 where
  pub each : (t : Ticket) → IsAmong outs t → is_out_after script report t ≡ true
  pub all : (t : Ticket) → is_out_after script report t ≡ true → IsAmong outs t
  pub order : AreInOrder outs
