use Rattle.std.proofs.Common.{◌≡◌, ◌++◌, map}
use Rattle.txn_multi.specs.Task.{task_for}
use Rattle.txn_multi.proofs.task.tasks_of.Given as goal

abbrev pub invariant-loop-part : goal.invariant-loop-part
invariant-loop-part g l = l.tasks.items ++ map (task_for l.fn.alloc l.fn.backoff l.fn.before) l.part-iterator.rest.items ≡ map (task_for l.fn.alloc l.fn.backoff l.fn.before) l.fn.parts.items
