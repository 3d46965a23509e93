-- Whether a transaction is free for a call.
use Rattle.std.specs.Prelude.{Option, Some, None}
use Rattle.txn_first.specs.declared.transaction.Transaction.{Transaction}
use Rattle.txn_first.specs.declared.transaction.CommitCall.{CommitCall}
use Rattle.txn_first.specs.declared.transaction.Status.{Status}

-- the status of a transaction that has no call open
abbrev pub free_status : Transaction → Option Status
free_status t = by_call t.call
  where
    by_call : Option CommitCall → Option Status
    by_call None = Some t.status
    by_call (Some c) = None
