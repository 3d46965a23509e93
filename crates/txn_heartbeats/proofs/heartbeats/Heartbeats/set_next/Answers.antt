use Rattle.std.proofs.Common.{◌-◌, refl}
use Rattle.txn_heartbeats.proofs.Keeping.{beats_set, jobs_kept, pulse_there, starts_kept, transactions_kept}
use Rattle.txn_heartbeats.proofs.heartbeats.Heartbeats.set_next.Goals as goal

pub returns-clause-beats : goal.returns-clause-beats
returns-clause-beats g c = beats_set c.args.self.now (c.args.line - 1) _

pub returns-clause-jobs : goal.returns-clause-jobs
returns-clause-jobs g c = jobs_kept c.args.self.now (c.args.line - 1) _ c.index_mut.result.now (pulse_there c.args.self.now c.args.line c.requires) c.index_mut.ensures.value refl

pub returns-clause-starts : goal.returns-clause-starts
returns-clause-starts g c = starts_kept c.args.self.now (c.args.line - 1) _ c.index_mut.result.now (pulse_there c.args.self.now c.args.line c.requires) c.index_mut.ensures.value refl

pub returns-clause-transactions : goal.returns-clause-transactions
returns-clause-transactions g c = transactions_kept c.args.self.now (c.args.line - 1) _ c.index_mut.result.now (pulse_there c.args.self.now c.args.line c.requires) c.index_mut.ensures.value refl
