use Rattle.std.proofs.Common.{refl}
use Rattle.txn_retry.specs.Place.{is_resting, StandsAt}
use Rattle.txn_retry.proofs.Queues.{IsQueue-end, view-end}
use Rattle.txn_retry.proofs.queue.Queue.end.Goals as goal

pub invariant_of-self : goal.invariant_of-self
invariant_of-self g c = IsQueue-end c.args.at c.args.answer c.self.invariant (rw (← c.self.view_is) at c.requires)

pub returns : goal.returns
returns g c =
    let s : StandsAt is_resting c.self.inside.places.items c.args.at = rw (← c.self.view_is) at c.requires in
    rw (← c.self.view_is) (rw (view-end c.self.inside.roots c.args.at c.self.inside.places.items c.args.answer s) refl)
