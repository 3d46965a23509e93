-- Whether a reply, or what is made of it, tells of an error.
use Rattle.std.specs.Prelude.{Bool, true, false, ◌||◌, List, [], ◌∷◌, is_some, Result, Ok, Err}
use Rattle.std.specs.List.{list_any}
use Rattle.txn_kv.specs.declared.errors.Error.{Error}
use Rattle.txn_kv.specs.declared.errors.Error.TheVariants.{GrpcAPI}
use Rattle.txn_kv.specs.declared.message.PbPair.{PbPair}
use Rattle.txn_kv.specs.declared.reply.Reply.{Reply}
use Rattle.txn_kv.specs.declared.reply.Reply.TheVariants as reply

-- the store refused the request for its region
abbrev pub has_region_error : Reply → Bool
has_region_error (reply.Get o) = is_some o.region_error
has_region_error (reply.BatchGet o) = is_some o.region_error
has_region_error (reply.Scan o) = is_some o.region_error
has_region_error (reply.Prewrite o) = is_some o.region_error
has_region_error (reply.Commit o) = is_some o.region_error
has_region_error (reply.Cleanup o) = is_some o.region_error
has_region_error (reply.BatchRollback o) = is_some o.region_error
has_region_error (reply.PessimisticRollback o) = is_some o.region_error
has_region_error (reply.PessimisticLock o) = is_some o.region_error
has_region_error (reply.ResolveLock o) = is_some o.region_error
has_region_error (reply.ScanLock o) = is_some o.region_error
has_region_error (reply.TxnHeartBeat o) = is_some o.region_error
has_region_error (reply.CheckTxnStatus o) = is_some o.region_error
has_region_error (reply.CheckSecondaryLocks o) = is_some o.region_error
has_region_error (reply.UnsafeDestroyRange o) = is_some o.region_error
has_region_error _ = false

abbrev pub is_not_empty : {X : Type 0} → List X → Bool
is_not_empty [] = false
is_not_empty (x ∷ xs) = true

abbrev pub has_pair_error : List PbPair → Bool
has_pair_error ps = list_any (λ p. is_some p.error) ps

-- it refused the request at a key
abbrev pub has_key_error : Reply → Bool
has_key_error (reply.Get o) = is_some o.error
has_key_error (reply.BatchGet o) = is_some o.error || has_pair_error o.pairs
has_key_error (reply.Scan o) = is_some o.error || has_pair_error o.pairs
has_key_error (reply.Prewrite o) = is_not_empty o.errors
has_key_error (reply.Commit o) = is_some o.error
has_key_error (reply.Cleanup o) = is_some o.error
has_key_error (reply.BatchRollback o) = is_some o.error
has_key_error (reply.PessimisticRollback o) = is_not_empty o.errors
has_key_error (reply.PessimisticLock o) = is_not_empty o.errors
has_key_error (reply.ResolveLock o) = is_some o.error
has_key_error (reply.ScanLock o) = is_some o.error
has_key_error (reply.TxnHeartBeat o) = is_some o.error
has_key_error (reply.CheckTxnStatus o) = is_some o.error
has_key_error (reply.CheckSecondaryLocks o) = is_some o.error
has_key_error (reply.UnsafeDestroyRange o) = is_not_empty o.error
has_key_error _ = false

abbrev pub has_error : Reply → Bool
has_error o = has_region_error o || has_key_error o

-- a request was lost
abbrev pub is_loss : Error → Bool
is_loss (GrpcAPI t) = true
is_loss _ = false

-- The answer is one that a new run may better: a request was lost, or refused for its region.
abbrev pub may_better : {T : Type 0} → (T → Reply) → Result T Error → Bool
may_better reply_of (Ok v) = has_region_error (reply_of v)
may_better reply_of (Err e) = is_loss e
