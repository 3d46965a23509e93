use Rattle.std.proofs.Common.{refl}
use Rattle.txn_retry.specs.Place.{is_running, StandsAt}
use Rattle.txn_retry.proofs.Queues.{IsQueue-rest, view-rest}
use Rattle.txn_retry.proofs.queue.Queue.rest.Goals as goal

pub invariant_of-self : goal.invariant_of-self
invariant_of-self g c = IsQueue-rest c.args.at c.self.invariant (rw (← c.self.view_is) at c.requires)

pub returns : goal.returns
returns g c =
    let s : StandsAt is_running c.self.inside.places.items c.args.at = rw (← c.self.view_is) at c.requires in
    rw (← c.self.view_is) (rw (view-rest c.self.inside.roots c.args.at c.self.inside.places.items s) refl)
