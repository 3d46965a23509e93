use Rattle.txn_region.proofs.Kept.{found_at, sound_at_place}
use Rattle.txn_region.proofs.sorted.find_by_id.Goals as goal

pub returns-in-Some-clause-found : goal.returns-in-Some-clause-found
returns-in-Some-clause-found c = found_at c.args.id c.args.regions.now c.in-Some.at _ c.requires.kept c.in-Some.ensures.found c.index-regions-at.is

pub returns-in-Some-clause-sound : goal.returns-in-Some-clause-sound
returns-in-Some-clause-sound c = sound_at_place c.args.id c.args.regions.now c.in-Some.at _ c.requires.kept c.in-Some.ensures.found c.index-regions-at.is
