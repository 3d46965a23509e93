use Rattle.std.proofs.Common.{refl}
use Rattle.txn_shard.proofs.Found.{key_put}
use Rattle.txn_shard.proofs.by_key.shard_of_key.Goals as goal

pub returns-in_ok-put-in-Found-clause-kept : goal.returns-in_ok-put-in-Found-clause-kept
returns-in_ok-put-in-Found-clause-kept g c =
    let look = rw c.in-Found.is at c.in_ok-store.ensures.look in
    key_put c.args.key.now c.args.found.now _ c.in-Found.store c.requires (c.if-found-gt0.false) (rw c.in_ok-try_clone-in-Found.ensures at c.in_ok-put-in-Found.ensures.ok) refl look.0.1 look.0.0
