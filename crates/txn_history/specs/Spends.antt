-- How many requests to stores and asks a call posts, and how many are left to post.
use Rattle.std.specs.Prelude.{min, ℕ, Bool, true, false, ◌≡◌, ◌≤◌, ◌+◌, ◌*◌, List, [], ◌∷◌, ◌++◌, length, Option, Some, None}
use Rattle.std.specs.List.{count_by}
use Rattle.txn_kv.specs.declared.ticket.Target.TheVariants.{Store, Placement}
use Rattle.txn_kv.specs.declared.message.KeyError.{KeyError}
use Rattle.txn_kv.specs.declared.message.KeyError.TheVariants as refused
use Rattle.txn_kv.specs.declared.message.LockInfo.{LockInfo}
use Rattle.txn_kv.specs.declared.message.PbPair.{PbPair}
use Rattle.txn_kv.specs.declared.reply.Reply.{Reply}
use Rattle.txn_kv.specs.declared.reply.Reply.TheVariants as reply
use Rattle.txn_history.specs.Posted.{Errand, Posted}
use Rattle.txn_kv.specs.declared.outbox.Errand.TheVariants.{Send, Sleep, Ask}

-- a request to a store or an ask
abbrev pub is_call : Errand → Bool
is_call (Send n (Store s) r) = true
is_call (Send n Placement r) = false
is_call (Sleep n ms) = false
is_call (Ask n) = true

abbrev pub is_sleep : Errand → Bool
is_sleep (Send n to r) = false
is_sleep (Sleep n ms) = true
is_sleep (Ask n) = false

abbrev pub calls : Posted → ℕ
calls o = count_by is_call o.sends

abbrev pub sleeps : Posted → ℕ
sleeps o = count_by is_sleep o.sends

-- The locks in a reply, and what they may cost.

abbrev pub lock_of : Option KeyError → List LockInfo
lock_of None = []
lock_of (Some (refused.Locked l)) = l ∷ []
lock_of (Some (refused.PrimaryMismatch l)) = l ∷ []
lock_of (Some _) = []

abbrev pub locks_of_pairs : List PbPair → List LockInfo
locks_of_pairs [] = []
locks_of_pairs (p ∷ ps) = lock_of p.error ++ locks_of_pairs ps

abbrev pub locks_of_errors : List KeyError → List LockInfo
locks_of_errors [] = []
locks_of_errors (e ∷ es) = lock_of (Some e) ++ locks_of_errors es

abbrev pub listed : Option LockInfo → List LockInfo
listed None = []
listed (Some l) = l ∷ []

abbrev pub locks_in : Reply → List LockInfo
locks_in (reply.Get o) = lock_of o.error
locks_in (reply.BatchGet o) = locks_of_pairs o.pairs
locks_in (reply.Scan o) = locks_of_pairs o.pairs
locks_in (reply.Prewrite o) = locks_of_errors o.errors
locks_in (reply.Commit o) = lock_of o.error
locks_in (reply.Cleanup o) = lock_of o.error
locks_in (reply.BatchRollback o) = lock_of o.error
locks_in (reply.PessimisticRollback o) = locks_of_errors o.errors
locks_in (reply.PessimisticLock o) = locks_of_errors o.errors
locks_in (reply.ScanLock o) = o.locks
locks_in (reply.TxnHeartBeat o) = lock_of o.error
locks_in (reply.CheckTxnStatus o) = listed o.lock_info ++ lock_of o.error
locks_in (reply.CheckSecondaryLocks o) = o.locks
locks_in _ = []

abbrev pub secondaries_of : List LockInfo → ℕ
secondaries_of [] = 0
secondaries_of (l ∷ ls) = length l.secondaries + secondaries_of ls

-- fifty for each lock, and two more for each of its secondaries
abbrev pub weight_of : Reply → ℕ
weight_of o = 50 * length (locks_in o) + 2 * secondaries_of (locks_in o)

-- one for a reply with locks
abbrev pub locked_of : Reply → ℕ
locked_of o = min 1 (length (locks_in o))

-- What an error allows more, as long as the call does not fail for it.
abbrev pub spare : Bool → Bool → ℕ → ℕ
spare true false x = x
spare true true x = 0
spare false f x = 0

-- A call of a state that has `before` left to post, and `after` in the end, in a run in which no request is cut into more
-- than n parts. `width` and `wider_width` are the greatest number of parts so far, before and after. The call is told of an
-- error (`bad`) or of locks (`weight`), and its answer may be one that is tried again only where `fails`. It is `kept` where
-- it did not give up, and `failed` where its answer is such a one. `round` is what a fresh copy of the state posts. `was`
-- and `is` say that the state's numbers are in order where the locks that it was given so far weigh at most so much.
pub record Spends
    (was is : ℕ → Type 0) (before after round : ℕ → ℕ) (bad fails : Bool) (weight locked : ℕ)
    (width wider_width : ℕ) (from to : Posted) (kept failed : Bool) : Type 0 where
  pub wider : width ≤ wider_width
  pub bears : kept ≡ true → (w : ℕ) → was w → is (w + weight)
  pub allowed : kept ≡ true → failed ≡ true → fails ≡ true
  -- what was posted, and what is left
  pub spends : kept ≡ true → (n w : ℕ) → 1 ≤ n → wider_width ≤ n → was w → calls to + after n ≤ calls from + before n + spare bad failed (round n + w + weight) + weight
  pub stopped : (n w : ℕ) → 1 ≤ n → wider_width ≤ n → was w → calls to ≤ calls from + before n + spare bad false (round n + w + weight) + weight
  -- the sleeps that were begun
  pub rests : kept ≡ true → sleeps to ≤ sleeps from + spare fails failed 1 + locked
  pub stopped_rests : sleeps to ≤ sleeps from + spare fails false 1 + locked

-- nothing was posted yet, and no lock was given
pub record IsFresh {S : Type 0} (round left : S → ℕ → ℕ) (bears : S → ℕ → Type 0) (s : S) : Type 0 where
  pub whole : (n : ℕ) → left s n ≤ round s n
  pub light : (w : ℕ) → bears s w

-- a part that is fresh, and posts no more than the whole
pub record IsLess {S : Type 0} (round left : S → ℕ → ℕ) (bears : S → ℕ → Type 0) (whole part : S) : Type 0 where
  pub fresh : IsFresh round left bears part
  pub less : (n : ℕ) → round part n ≤ round whole n
