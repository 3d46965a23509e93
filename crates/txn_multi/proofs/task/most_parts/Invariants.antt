use Rattle.std.proofs.Common.{◌≡◌, max, drop}
use Rattle.txn_multi.proofs.task.most_parts.Given as goal
use Rattle.txn_tasks.specs.Tasks.{greatest}

abbrev pub invariant-loop-task : goal.invariant-loop-task
invariant-loop-task g l = max l.most (greatest (λ task. task.width) (drop l.task-index l.tasks)) ≡ max l.initial.most (greatest (λ task. task.width) l.tasks)
