-- Which timestamps are answered.
use Rattle.std.specs.Prelude.{◌≡◌, ℕ, ◌≤◌, List, Some}
use Rattle.std.specs.List.{All}
use Rattle.txn_kv.specs.declared.reply.Reply.TheVariants as replies
use Rattle.txn_kv.specs.declared.reply.cluster.TsoResponse.{TsoResponse}
use Rattle.txn_kv.specs.declared.request.Request.TheVariants.{Tso}
use Rattle.txn_kv.specs.declared.request.cluster.TsoRequest.{TsoRequest}
use Rattle.txn_history.specs.Among.{IsAmong}
use Rattle.txn_history.specs.Event.{Event, Has}
use Rattle.txn_history.specs.Event.Event.{Took}
use Rattle.txn_lines.specs.declared.line.Line.{Line}
use Rattle.txn_report.specs.declared.outcome.Outcome.{Outcome}
use Rattle.txn_report.specs.declared.report.Report.{Report}
use Rattle.txn_report.specs.declared.report.SentNote.{SentNote}
use Rattle.txn_side.specs.Sight.{Gives, Group, IsOut, number_of}
use Rattle.txn_machine.specs.Lists.{Lists}
use Rattle.txn_machine.specs.Script.{history, outcome_of}

-- a request for timestamps was sent at line n or later, its reply was taken, and that gives the line this timestamp
pub record IsTimed (sent : List SentNote) (es : List Event) (n version : ℕ) : Type 0 where
  pub note : SentNote
  pub noted : IsAmong sent note
  pub since : n ≤ note.at
  pub request : TsoRequest
  pub asks : note.request ≡ Tso request
  pub response : TsoResponse
  pub taken : Has es (Took note.ticket (Tso request) (replies.Tso response))
  pub gives : Gives response note.askers n version

abbrev pub AllTimed : List SentNote → List Event → List Outcome → Type 0
AllTimed sent es outs = (n version : ℕ) → number_of (outcome_of outs n) ≡ Some version → IsTimed sent es n version

-- no two lines name the same timestamp
abbrev pub AreApart : List Outcome → Type 0
AreApart outs = (n m version : ℕ) → number_of (outcome_of outs n) ≡ Some version → number_of (outcome_of outs m) ≡ Some version → n ≡ m

-- a timestamp that a line answers was given to it, and to no other
pub record TimesLines (script : List Line) (report : Report) : Type 0 where
  pub each : AllTimed report.sent (history report.sent report.outcomes script) report.outcomes
  pub once : AreApart report.outcomes

-- What a machine keeps of it while the script goes on.

-- a request for timestamps that is out was noted, in no line before one whose ask it carries
pub record IsGrouped (sent : List SentNote) (g : Group) : Type 0 where
  pub note : SentNote
  pub noted : IsAmong sent note
  pub ticket : note.ticket ≡ g.ticket
  pub askers : note.askers ≡ g.askers
  pub request : TsoRequest
  pub asks : note.request ≡ Tso request
  pub since : All (λ (n : ℕ). n ≤ note.at) note.askers

-- the lists of a machine after these lines
pub record Timely (script : List Line) (l : Lists) : Type 0 where
  pub groups : (g : Group) → IsOut l.sight g → IsGrouped l.mail.sent g
  pub times : AllTimed l.mail.sent (history l.mail.sent l.outcomes script) l.outcomes
