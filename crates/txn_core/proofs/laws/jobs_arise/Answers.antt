use Rattle.std.proofs.Common.{refl}
use Rattle.txn_core.proofs.laws.jobs_arise.Goals as goal

pub returns : goal.returns
returns g c options start t parts job o h f p j = record { way = refl; apart = f.apart; committed = rw (j.own, j.at) p; at = rw j.stage j.names }
