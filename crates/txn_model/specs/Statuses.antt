-- What a check of a start finds where the start holds a lock, and what becomes of the cell.
use Rattle.std.specs.Prelude.{not, ◌&&◌, if◌then◌else◌}
use Rattle.txn_kv.specs.declared.request.locks.CheckTxnStatusRequest.{CheckTxnStatusRequest}
use Rattle.txn_model.specs.declared.cell.Lock.{Lock}
use Rattle.txn_model.specs.declared.rule.Rule.{Rule}
use Rattle.txn_model.specs.declared.rule.Rule.TheVariants.{RollBack, Release, Stay}
use Rattle.txn_model.specs.Cells.{key_eq}
use Rattle.txn_model.specs.Status.{Finding, Mismatched, Expired, Live, IsCommitted, IsRolledBack, Nothing, is_over, goes_unrecorded}

abbrev pub found_lock : CheckTxnStatusRequest → Lock → Finding
found_lock r l = if key_eq l.primary r.primary_key then (if is_over r l then Expired l else Live l) else Mismatched l

abbrev pub status_rule : CheckTxnStatusRequest → Finding → Rule
status_rule r (Mismatched l) = Stay
status_rule r (Expired l) = if goes_unrecorded r l then Release r.lock_ts else RollBack r.lock_ts
status_rule r (Live l) = Stay
status_rule r (IsCommitted w) = Stay
status_rule r IsRolledBack = Stay
status_rule r Nothing = if r.rollback_if_not_exist && not r.resolving_pessimistic_lock then RollBack r.lock_ts else Stay
