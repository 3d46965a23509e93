use Rattle.std.proofs.Common.{◌≡◌, take, map}
use Rattle.txn_model.specs.Placings.{landing}
use Rattle.txn_model.proofs.landing.landings.Given as goal

abbrev pub invariant-loop-placing : goal.invariant-loop-placing
invariant-loop-placing l = l.all.items ≡ map (landing l.commit) (take l.placing-index l.placings)
