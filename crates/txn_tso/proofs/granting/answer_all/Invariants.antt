use Rattle.std.proofs.Common.{◌≡◌, ◌++◌, length, drop}
use Rattle.txn_tso.specs.Oracle.{answers}
use Rattle.txn_tso.proofs.granting.answer_all.Given as goal

abbrev pub invariant-loop-asker : goal.invariant-loop-asker
invariant-loop-asker l =
    (l.behind ≡ length (drop l.asker-index l.group)) × (l.given.items ++ answers l.reply l.asked (drop l.asker-index l.group) ≡ answers l.reply l.asked l.group)
