use Rattle.txn_region.proofs.Searching.{found_none, found_not, found_some}
use Rattle.txn_region.proofs.Kept.{taken_at}
use Rattle.std.proofs.Common.{◌≤◌, ◌<◌, ◌∙◌, length, sym, arith}
use Rattle.txn_region.specs.Regions.{ended_at}
use Rattle.txn_region.proofs.sorted.find_by_key.Goals as goal

pub returns-then-at-regions-clause-found : goal.returns-then-at-regions-clause-found
returns-then-at-regions-clause-found c =
    let same = c.count_ended-at.ensures.count in
    let le : length c.args.regions.now ≤ ended_at c.args.key.now c.args.regions.now = omega arith in
    sym (found_none c.args.key.now c.args.regions.now c.requires.kept.apart le)

pub returns-then-contains-clause-found : goal.returns-then-contains-clause-found
returns-then-contains-clause-found c =
    let bound = c.count_ended-at.ensures.bound in
    let l : c.count_ended-at.result < length c.args.regions.now = omega arith in
    sym (found_some c.args.key.now c.args.regions.now c.count_ended-at.result c.index-regions-at.result c.requires.kept.apart c.count_ended-at.ensures.count l c.index-regions-at.is (sym c.contains.ensures ∙ c.if-contains.true))

pub returns-else-contains-clause-found : goal.returns-else-contains-clause-found
returns-else-contains-clause-found c =
    let bound = c.count_ended-at.ensures.bound in
    let l : c.count_ended-at.result < length c.args.regions.now = omega arith in
    sym (found_not c.args.key.now c.args.regions.now c.count_ended-at.result c.index-regions-at.result c.requires.kept.apart c.count_ended-at.ensures.count l c.index-regions-at.is (sym c.contains.ensures ∙ c.if-contains.false))

pub returns-then-contains-clause-sound : goal.returns-then-contains-clause-sound
returns-then-contains-clause-sound c =
    let bound = c.count_ended-at.ensures.bound in
    let l : c.count_ended-at.result < length c.args.regions.now = omega arith in
    (sym c.contains.ensures ∙ c.if-contains.true, taken_at c.args.regions.now c.count_ended-at.result c.index-regions-at.result c.requires.kept l c.index-regions-at.is)
