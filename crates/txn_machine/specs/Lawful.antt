-- What the report of a script says of it. Lines stand here in the order of the script.
use Rattle.std.specs.Prelude.{◌≡◌, List, [], ◌∷◌, length, reverse, None}
use Rattle.txn_lines.specs.Lines.{why_after}
use Rattle.txn_lines.specs.declared.line.Line.{Line}
use Rattle.txn_report.specs.declared.report.Report.{Report}
use Rattle.txn_machine.specs.Accounts.{AccountsMeetLines}
use Rattle.txn_machine.specs.Causes.{CallsMeetLines, EndsLines, EventsMeetLines, LivesLines, TellsLines}
use Rattle.txn_machine.specs.Dues.{DuesLines}
use Rattle.txn_machine.specs.Notes.{AreNoted}
use Rattle.txn_machine.specs.Script.{FoldsLines}
use Rattle.txn_machine.specs.Times.{TimesLines}

-- each line is not bad after these, the newest first, and the ones between
abbrev pub AllGood : List Line → List Line → Type 0
AllGood before [] = Unit {0}
AllGood before (line ∷ lines) = (why_after before line ≡ None) × AllGood (line ∷ before) lines

pub record Lawful (script : List Line) (report : Report) : Type 0 where
  -- one outcome for each line, of its kind
  pub told : TellsLines (reverse script) report
  -- the store is the request table folded over what was served, which is listed in order
  pub folded : FoldsLines (reverse script) report
  -- each ticket of a line, and of its heartbeat, once, from the first number on, in order
  pub noted : AreNoted (length script) report.sent report.sleeps
  -- each outcome came in the step of its line, or of a later event; none of a call whose client had crashed
  pub ends : EndsLines (reverse script) report
  pub lives : LivesLines (reverse script) report
  -- a call is skipped, and an event done, exactly where it may
  pub calls : CallsMeetLines (reverse script) report
  pub events : EventsMeetLines (reverse script) report
  -- a timestamp that a call answers is that of its place in a reply that was asked for since its line, and no other call's
  pub times : TimesLines (reverse script) report
  -- after each line something is out for each call that is open, and whose client has not crashed: a request or a sleep of its own line, or a request for
  -- timestamps of its client
  pub dues : DuesLines (reverse script) report
  -- of lines that are not skipped: what a transaction refuses, by how far it has come and what it has taken in, answers with that error in its own line, and any other
  -- write answers Ok there
  pub accounts : AccountsMeetLines (reverse script) report
