use Rattle.std.proofs.Common.{sym}
use Rattle.txn_client.proofs.Calls.{waits_out}
use Rattle.txn_client.proofs.client_call.ClientCall.stay.Goals as goal

pub returns-in-Asking : goal.returns-in-Asking
returns-in-Asking g c = sym (waits_out c.args.self.now c.in-Asking._call c.in-Asking.is c.requires.ready)
