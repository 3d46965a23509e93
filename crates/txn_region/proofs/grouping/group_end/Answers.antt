use Rattle.std.proofs.Common.{arith}
use Rattle.txn_region.proofs.KeyGroups.{key_group}
use Rattle.txn_region.proofs.grouping.group_end.Goals as goal

pub overflow_add-result : goal.overflow_add-result
overflow_add-result g c = omega arith

pub returns : goal.returns
returns g c = key_group g.K.AsKey.key c.args.region.now.region c.args.keys.now c.args.first c.count_inside.result c.requires.place c.requires.begins c.count_inside.ensures.count
