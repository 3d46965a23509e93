use Rattle.std.proofs.Common.{◌≡◌, true}
use Rattle.std.specs.Prelude.{take}
use Rattle.std.specs.List.{All}
use Rattle.txn_report.specs.declared.report.SleepNote.{SleepNote}
use Rattle.txn_alike.proofs.reports.are_beats.Given as goal

abbrev pub invariant-loop-sleep : goal.invariant-loop-sleep
invariant-loop-sleep l = All (λ (s : SleepNote). s.ticket.beat ≡ true) (take l.sleep-index l.sleeps)
