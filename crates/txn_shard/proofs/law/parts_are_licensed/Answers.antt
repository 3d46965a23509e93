use Rattle.txn_shard.proofs.Licensed.{get_part, batch_get_part, scan_part, prewrite_part, commit_part, batch_rollback_part, pessimistic_rollback_part, pessimistic_lock_part}
use Rattle.txn_shard.proofs.law.parts_are_licensed.Goals as goal

pub returns : goal.returns
returns c = record {
  get = get_part;
  batch_get = batch_get_part;
  scan = scan_part;
  prewrite = prewrite_part;
  commit = commit_part;
  batch_rollback = batch_rollback_part;
  pessimistic_rollback = pessimistic_rollback_part;
  pessimistic_lock = pessimistic_lock_part;
}
