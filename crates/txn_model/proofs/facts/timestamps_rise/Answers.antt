use Rattle.txn_model.proofs.TableFacts.{timestamps_rise}
use Rattle.txn_model.proofs.facts.timestamps_rise.Goals as goal

pub returns : goal.returns
returns c = timestamps_rise
