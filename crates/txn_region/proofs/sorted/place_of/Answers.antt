use Rattle.std.proofs.Common.{◌∙◌, sym, subst}
use Rattle.txn_region.specs.Regions.{IsPlaceOf}
use Rattle.txn_region.proofs.Indexed.{none_without_start, place_of_start}
use Rattle.txn_region.proofs.sorted.place_of.Goals as goal

pub count_ended-requires-clause-apart : goal.count_ended-requires-clause-apart
count_ended-requires-clause-apart c = c.requires.kept.apart

pub returns-in-Some-clause-found : goal.returns-in-Some-clause-found
returns-in-Some-clause-found c =
    subst (IsPlaceOf c.args.id c.args.regions.now) (sym c.count_ended.ensures.count)
    (place_of_start c.args.id c.in-Some.start.now c.args.regions.now c.requires.kept.apart (c.in-Some.ensures.value ∙ c.requires.starts c.args.id))

pub returns-in-None-clause-none : goal.returns-in-None-clause-none
returns-in-None-clause-none c = none_without_start c.args.id c.args.regions.now (c.in-None.ensures.value ∙ c.requires.starts c.args.id)
