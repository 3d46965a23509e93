use Rattle.std.proofs.lemmas.Grind.{common_steps}
use Rattle.std.proofs.Common.{arith, ◌≡◌, ◌∙◌}
use Rattle.txn_merge.specs.Gathered.{values_of}
use Rattle.txn_merge.specs.Secondary.{nothing_seen}
use Rattle.txn_merge.proofs.SecondarySeen.{all_seen, finished_from}
use Rattle.txn_merge.proofs.secondary_locks_status.join_states.Goals as goal

pub returns-clause-ok : goal.returns-clause-ok
returns-clause-ok c =
    let seen : c.loop-result.seen ≡ all_seen nothing_seen (values_of c.args.input.items) = grind (arith, common_steps) in
    (grind (arith, common_steps), c.finish.ensures ∙ finished_from c.loop-result.seen (values_of c.args.input.items) seen)
