use Rattle.std.proofs.Common.{◌≡◌, true, subst}
use Rattle.txn_core.specs.Transaction.{all_put_or_delete}
use Rattle.txn_core.proofs.Lists.{put_rest, steps_more}
use Rattle.txn_core.proofs.transaction.writes.mutate_all.Goals as goal

pub loop-mutation-preserved : goal.loop-mutation-preserved
loop-mutation-preserved c = record {
  stepped = steps_more c.loop-mutation.yielded c.in-Some.mutation c.args.buffer.now c.loop-mutation.buffer c.mutate.new.buffer c.loop-mutation.invariant.stepped c.in_ok-mutate.ensures.ok c.in_ok-mutate.ensures.step;
  left = put_rest c.in-Some.mutation c.next.new.self.rest.items (subst (λ x. all_put_or_delete x ≡ true) c.in-Some.ensures.steps.0 c.loop-mutation.invariant.left);
}
