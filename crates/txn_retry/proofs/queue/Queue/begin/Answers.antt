use Rattle.std.proofs.Common.{◌≡◌, [], refl, ap, arith, sym, ◌∙◌}
use Rattle.txn_retry.specs.Place.{waiting_places, Queued}
use Rattle.txn_retry.proofs.Cuts.{order_of-begun, IsQueue-begun}
use Rattle.txn_retry.proofs.queue.Queue.begin.Goals as goal

pub invariant_of-self-2 : goal.invariant_of-self-2
invariant_of-self-2 g c =
    let none : c.self.inside.places.items ≡ [] = ap (λ (q : Queued g.row.R.Denot). q.places) (c.self.view_is ∙ c.requires) in
    let made : c.add_waiting.new.places.items ≡ waiting_places c.args.count = rw none at c.in_ok-add_waiting.ensures.ok in
    let invariant = rw none at c.self.invariant in
    let first : c.self.inside.started ≡ 0 = omega (arith, invariant.started_made) in
    let runs : c.self.inside.running ≡ 0 = sym invariant.running_are in
    rw (made, first, runs) (IsQueue-begun c.args.count)

pub returns-clause-ok : goal.returns-clause-ok
returns-clause-ok g c =
    let none : c.self.inside.places.items ≡ [] = ap (λ (q : Queued g.row.R.Denot). q.places) (c.self.view_is ∙ c.requires) in
    let made : c.add_waiting.new.places.items ≡ waiting_places c.args.count = rw none at c.in_ok-add_waiting.ensures.ok in
    rw (made, order_of-begun g.row.R.Denot c.args.count) refl
