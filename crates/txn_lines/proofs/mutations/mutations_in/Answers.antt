use Rattle.std.proofs.Common.{[]}
use Rattle.txn_lines.specs.Reading.{mutations_after}
use Rattle.txn_lines.proofs.MutationLaws.{mutation_shortens, goes_on}
use Rattle.txn_lines.proofs.mutations.mutations_in.Goals as goal

pub loop-rest-smaller : goal.loop-rest-smaller
loop-rest-smaller c = mutation_shortens c.loop-rest.rest c.in_ok-mutation.mutation c.in_ok-mutation.after c.in_ok-mutation.ensures

pub loop-rest-preserved : goal.loop-rest-preserved
loop-rest-preserved c =
    rw c.in_ok-push.ensures.ok (goes_on c.loop-rest.mutations c.loop-rest.rest c.in_ok-mutation.mutation c.in_ok-mutation.after (mutations_after [] c.args.words) c.in_ok-mutation.ensures c.loop-rest.invariant)
