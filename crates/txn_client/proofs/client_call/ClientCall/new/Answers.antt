use Rattle.std.proofs.Common.{refl}
use Rattle.txn_client.specs.Calls.{new-unbegun}
use Rattle.txn_client.proofs.client_call.ClientCall.new.Goals as goal

pub returns-clause-unbegun : goal.returns-clause-unbegun
returns-clause-unbegun g c = new-unbegun c.args.wanted _ (record { wants = refl; stage = refl })
