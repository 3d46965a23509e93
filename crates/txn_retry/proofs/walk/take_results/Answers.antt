use Rattle.std.proofs.Common.{◌∷◌, ◌<◌, length, arith, ◌∙◌}
use Rattle.std.proofs.lemmas.List.{length-set}
use Rattle.std.proofs.lemmas.List.Elements.{All-head, All-tail}
use Rattle.txn_retry.specs.Place.{AreDistinct}
use Rattle.txn_retry.proofs.Taking.{results-taken}
use Rattle.txn_retry.proofs.walk.take_results.Goals as goal

pub index_mut-requires : goal.index_mut-requires
index_mut-requires g c =
    let made = rw c.in-Some.ensures.steps.0 at c.loop-at.invariant.made in
    omega (arith, All-head (λ i. i < length c.loop-at.places.items) c.in-Some.at c.next.new.self.rest.items made, c.loop-at.places.ok.0)

pub loop-at-preserved : goal.loop-at-preserved
loop-at-preserved g c =
    let made = rw c.in-Some.ensures.steps.0 at c.loop-at.invariant.made in
    let distinct : AreDistinct (c.in-Some.at ∷ c.next.new.self.rest.items) = rw c.in-Some.ensures.steps.0 at c.loop-at.invariant.distinct in
    let same = rw c.in-Some.ensures.steps.0 at c.loop-at.invariant.same in
    let within : c.in-Some.at < length c.loop-at.places.items = All-head (λ i. i < length c.loop-at.places.items) c.in-Some.at c.next.new.self.rest.items made in
    record {
      same = rw c.in_ok-take_result.ensures
          (results-taken c.loop-at.places.items c.in-Some.at c.next.new.self.rest.items c.index_mut.result.now c.take_result.new.place c.loop-at.results.items distinct within c.index_mut.ensures.value ∙ same);
      distinct = distinct.1;
      made = rw length-set (All-tail (λ i. i < length c.loop-at.places.items) c.in-Some.at c.next.new.self.rest.items made);
    }
