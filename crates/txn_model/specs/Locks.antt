-- Locks and commits of one cell.
use Rattle.std.specs.Prelude.{ℕ, Bool, true, false, ◌&&◌, if◌then◌else◌, List, [], ◌∷◌, Option, Some, None, find, nat_eq, nat_le, nat_lt}
use Rattle.std.specs.List.{list_all, list_any}
use Rattle.txn_kv.specs.declared.message.LockInfo.{LockInfo}
use Rattle.txn_kv.specs.declared.message.Op.{Op}
use Rattle.txn_kv.specs.declared.message.Op.TheVariants.{Put as PutOp, Del as DelOp, Lock as LockOp, PessimisticLock as PessimisticLockOp}
use Rattle.txn_model.specs.declared.cell.Kind.{Kind}
use Rattle.txn_model.specs.declared.cell.Kind.TheVariants.{Put, Del, Lock as LockOnly, Pessimistic}
use Rattle.txn_model.specs.declared.cell.Lock.{Lock}
use Rattle.txn_model.specs.declared.cell.Write.{Write}

abbrev pub has_start : List ℕ → ℕ → Bool
has_start xs s = list_any (λ x. nat_eq x s) xs

-- a lock that a prewrite set
abbrev pub is_prewrite : Kind → Bool
is_prewrite Put = true
is_prewrite Del = true
is_prewrite LockOnly = true
is_prewrite Pessimistic = false

-- an async lock of a prewrite: it has a bound, and is settled with all other keys of its start
abbrev pub is_async_lock : Lock → Bool
is_async_lock l = l.use_async && is_prewrite l.kind

-- the start holds a prewrite lock
abbrev pub owns : Option Lock → ℕ → Bool
owns None s = false
owns (Some l) s = nat_eq l.start s && is_prewrite l.kind

-- the start holds a lock of either kind
abbrev pub holds : Option Lock → ℕ → Bool
holds None s = false
holds (Some l) s = nat_eq l.start s

-- the commit of a start
abbrev pub commit_of : List Write → ℕ → Option Write
commit_of ws s = find (λ w. nat_eq w.start s) ws

abbrev pub newest_after : ℕ → List Write → ℕ
newest_after n [] = n
newest_after n (w ∷ ws) = newest_after w.commit ws

-- the last commit timestamp, and 0 where there is none
abbrev pub newest_commit : List Write → ℕ
newest_commit ws = newest_after 0 ws

-- a commit of this kind says what the value of its key is
abbrev pub is_written : Kind → Bool
is_written Put = true
is_written Del = true
is_written LockOnly = false
is_written Pessimistic = false

abbrev pub or_earlier : {X : Type 0} → Option X → Option X → Option X
or_earlier (Some x) y = Some x
or_earlier None y = y

-- the last put or delete with a commit of at most t
abbrev pub last_written : List Write → ℕ → Option Write
last_written [] t = None
last_written (w ∷ ws) t = or_earlier (last_written ws t) (if nat_le w.commit t && is_written w.kind then Some w else None)

abbrev pub if_put : Kind → List ℕ → Option (List ℕ)
if_put Put v = Some v
if_put Del v = None
if_put LockOnly v = None
if_put Pessimistic v = None

abbrev pub value_of : Option Write → Option (List ℕ)
value_of None = None
value_of (Some w) = if_put w.kind w.value

-- the value at t
abbrev pub value_at : List Write → ℕ → Option (List ℕ)
value_at ws t = value_of (last_written ws t)

-- each commit is above n
abbrev pub all_above : ℕ → List Write → Bool
all_above n ws = list_all (λ w. nat_lt n w.commit) ws

-- the commits with one more, in the order of `commit`: before those at the end that are above it
abbrev pub with_commit : Write → List Write → List Write
with_commit w [] = w ∷ []
with_commit w (v ∷ vs) = if all_above w.commit (v ∷ vs) then w ∷ v ∷ vs else v ∷ with_commit w vs

abbrev pub op_of : Kind → Op
op_of Put = PutOp
op_of Del = DelOp
op_of LockOnly = LockOp
op_of Pessimistic = PessimisticLockOp

-- a lock, as a reply shows it
abbrev pub lock_info : List ℕ → Lock → LockInfo
lock_info k l = record {
  key = k;
  primary_lock = l.primary;
  lock_version = l.start;
  lock_ttl = l.ttl;
  lock_type = op_of l.kind;
  lock_for_update_ts = l.for_update;
  use_async_commit = l.use_async;
  min_commit_ts = l.min_commit;
  secondaries = l.secondaries;
}
