use Rattle.std.proofs.Common.{◌-◌, refl}
use Rattle.txn_heartbeats.proofs.Keeping.{beats_kept, jobs_set, pulse_there, starts_kept, transactions_set}
use Rattle.txn_heartbeats.proofs.heartbeats.Heartbeats.keep.Goals as goal

pub returns-clause-beats : goal.returns-clause-beats
returns-clause-beats g c = beats_kept c.args.self.now (c.args.line - 1) _ c.index_mut-pulse.result.now (pulse_there c.args.self.now c.args.line c.requires) c.index_mut-pulse.ensures.value refl

pub returns-clause-jobs : goal.returns-clause-jobs
returns-clause-jobs g c = jobs_set c.args.self.now (c.args.line - 1) _

pub returns-clause-starts : goal.returns-clause-starts
returns-clause-starts g c = starts_kept c.args.self.now (c.args.line - 1) _ c.index_mut-pulse.result.now (pulse_there c.args.self.now c.args.line c.requires) c.index_mut-pulse.ensures.value refl

pub returns-clause-transactions : goal.returns-clause-transactions
returns-clause-transactions g c = transactions_set c.args.self.now (c.args.line - 1) _
