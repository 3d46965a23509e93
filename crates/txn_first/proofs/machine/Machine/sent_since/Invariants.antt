use Rattle.std.proofs.Common.{◌≡◌, map, take}
use Rattle.txn_first.proofs.machine.Machine.sent_since.Given as goal

abbrev pub invariant-loop-note : goal.invariant-loop-note
invariant-loop-note l = l.sent ≡ map (λ s. s.ticket) (take l.note-index l.note-items)
