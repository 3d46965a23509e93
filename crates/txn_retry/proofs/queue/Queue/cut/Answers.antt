use Rattle.std.proofs.Common.{◌≡◌, length, arith, refl}
use Rattle.std.proofs.lemmas.List.{set-append_left}
use Rattle.txn_retry.specs.Place.{is_resting, waiting_places, StandsAt}
use Rattle.txn_retry.specs.declared.place.Place.TheVariants.{Cut}
use Rattle.txn_retry.proofs.Cuts.{order_of-cut_at, IsQueue-cut}
use Rattle.txn_retry.proofs.queue.Queue.cut.Goals as goal

pub invariant_of-self-2 : goal.invariant_of-self-2
invariant_of-self-2 g c =
    let s : StandsAt is_resting c.self.inside.places.items c.args.at = rw (← c.self.view_is) at c.requires in
    let first : c.len-first.result ≡ length c.self.inside.places.items = omega (arith, c.len-first.ensures, c.self.inside.places.ok.0) in
    rw (c.in_ok-add_waiting.ensures.ok, first, set-append_left c.self.inside.places.items (waiting_places c.args.count) c.args.at (Cut (record { first = length c.self.inside.places.items; count = c.args.count })) s.within)
    (IsQueue-cut c.args.at c.args.count c.self.invariant s)

pub returns-clause-ok : goal.returns-clause-ok
returns-clause-ok g c =
    let s : StandsAt is_resting c.self.inside.places.items c.args.at = rw (← c.self.view_is) at c.requires in
    let first : c.len-first.result ≡ length c.self.inside.places.items = omega (arith, c.len-first.ensures, c.self.inside.places.ok.0) in
    rw (← c.self.view_is)
    (rw (c.in_ok-add_waiting.ensures.ok, first, set-append_left c.self.inside.places.items (waiting_places c.args.count) c.args.at (Cut (record { first = length c.self.inside.places.items; count = c.args.count })) s.within)
    (rw (order_of-cut_at c.args.at c.args.count c.self.invariant s) refl))
