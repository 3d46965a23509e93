use Rattle.txn_region.proofs.Joined.{keys_joined, pieces_joined, ranges_joined}
use Rattle.txn_region.proofs.law.groups_are_the_input.Goals as goal

pub returns : goal.returns
returns c = record { keys = keys_joined; ranges = ranges_joined; pieces = pieces_joined }
