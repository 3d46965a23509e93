use Rattle.txn_clients.proofs.Timestamps.{both_if_ok, times_for}
use Rattle.txn_clients.proofs.Giving.{times_refuse}
use Rattle.txn_clients.proofs.Settling.{if_ok_so}
use Rattle.txn_clients.proofs.client_state.ClientState.take_times.Goals as goal

pub returns-clause-times : goal.returns-clause-times
returns-clause-times c = both_if_ok c.take_reply.result _ _ _ (λ given answers in_range. times_for c.args.reply.now c.args.self.now.oracle given.items answers in_range) c.take_reply.ensures.answers c.take_reply.ensures.in_range

pub returns-clause-errors : goal.returns-clause-errors
returns-clause-errors c = if_ok_so c.take_reply.result (λ given answers. times_refuse c.args.reply.now c.args.self.now.oracle given.items answers) c.take_reply.ensures.answers
