-- A plan that is refused for locks, with a shard in place of its load.
use Rattle.std.specs.Prelude.{List, Result}
use Rattle.txn_history.specs.Meaning.{IsUnbegun, Meaning}
use Rattle.txn_kv.specs.declared.errors.Error.{Error}
use Rattle.txn_kv.specs.declared.message.LockInfo.{LockInfo}
use Rattle.txn_plan.specs.Applied.{IsApplied}
use Rattle.txn_resolve.specs.Unlocked.{unlocked}
use Rattle.txn_resolve.specs.declared.resolve_lock.ResolveLock.{ResolveLock}

-- lemmas

pub unlocked_applied : {S A : Type 0} (m : Meaning S (Result A Error)) (locks_in : A → List LockInfo) (old new : ResolveLock S A)
    → (IsUnbegun m old.inner → IsApplied m old.inner new.inner)
    → IsUnbegun (unlocked m locks_in) old → IsApplied (unlocked m locks_in) old new
unlocked_applied m locks_in old new inner u =
    let i = inner (record { phase = u.phase; fits = u.fits; whole = u.whole; light = u.light }) in
    let v = i.unbegun in
    record {
      unbegun = record { phase = v.phase; fits = v.fits; whole = v.whole; light = v.light };
      ready = (i.ready, tt);
      less = i.less;
    }
