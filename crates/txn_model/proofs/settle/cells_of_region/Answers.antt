use Rattle.std.proofs.Common.{◌∙◌, ap}
use Rattle.txn_model.specs.Settling.{commitments, changes}
use Rattle.txn_model.proofs.Settled.{commitments_none, changes_none, commitments_in, changes_in, in_no_context, in_no_region, in_the_region}
use Rattle.txn_model.proofs.settle.cells_of_region.Goals as goal

pub returns-in_default-clause-commitments : goal.returns-in_default-clause-commitments
returns-in_default-clause-commitments c = commitments_none c.args.regions.now c.args.request.now (in_no_context c.args.regions.now c.args.request.now c.in_default.is) c.args.cells.now

pub returns-in_default-clause-changes : goal.returns-in_default-clause-changes
returns-in_default-clause-changes c = changes_none c.args.regions.now c.args.request.now (in_no_context c.args.regions.now c.args.request.now c.in_default.is) c.args.cells.now

pub returns-in-Some-region_with_id-clause-commitments : goal.returns-in-Some-region_with_id-clause-commitments
returns-in-Some-region_with_id-clause-commitments c =
    let gs = c.args.regions.now in
    let r = c.args.request.now in
    let g = c.in-Some-region_with_id.region.now in
    ap (commitments gs r) c.cells_in.ensures.value ∙ commitments_in gs r g.start_key g.end_key (in_the_region gs r c.in-Some.context g c.in-Some.is c.in-Some-region_with_id.ensures) c.args.cells.now

pub returns-in-Some-region_with_id-clause-changes : goal.returns-in-Some-region_with_id-clause-changes
returns-in-Some-region_with_id-clause-changes c =
    let gs = c.args.regions.now in
    let r = c.args.request.now in
    let g = c.in-Some-region_with_id.region.now in
    ap (changes gs r) c.cells_in.ensures.value ∙ changes_in gs r g.start_key g.end_key (in_the_region gs r c.in-Some.context g c.in-Some.is c.in-Some-region_with_id.ensures) c.args.cells.now

pub returns-in-None-clause-commitments : goal.returns-in-None-clause-commitments
returns-in-None-clause-commitments c = commitments_none c.args.regions.now c.args.request.now (in_no_region c.args.regions.now c.args.request.now c.in-Some.context c.in-Some.is c.in-None.ensures) c.args.cells.now

pub returns-in-None-clause-changes : goal.returns-in-None-clause-changes
returns-in-None-clause-changes c = changes_none c.args.regions.now c.args.request.now (in_no_region c.args.regions.now c.args.request.now c.in-Some.context c.in-Some.is c.in-None.ensures) c.args.cells.now
