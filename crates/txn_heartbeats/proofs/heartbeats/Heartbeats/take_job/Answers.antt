use Rattle.std.proofs.Common.{◌-◌, ◌∙◌, ap, refl, set}
use Rattle.txn_heartbeats.specs.Hearts.{jobs_of}
use Rattle.txn_heartbeats.proofs.Keeping.{beats_kept, job_there, jobs_set, pulse_there, starts_kept, transactions_kept}
use Rattle.txn_heartbeats.proofs.heartbeats.Heartbeats.take_job.Goals as goal

pub returns-clause-job : goal.returns-clause-job
returns-clause-job g c = c.take.ensures.value ∙ job_there c.args.self.now c.args.line c.index_mut.result.now c.requires c.index_mut.ensures.value

pub returns-clause-beats : goal.returns-clause-beats
returns-clause-beats g c = beats_kept c.args.self.now (c.args.line - 1) _ c.index_mut.result.now (pulse_there c.args.self.now c.args.line c.requires) c.index_mut.ensures.value refl

pub returns-clause-jobs : goal.returns-clause-jobs
returns-clause-jobs g c = jobs_set c.args.self.now (c.args.line - 1) _ ∙ ap (set (jobs_of c.args.self.now) (c.args.line - 1)) c.take.ensures.after

pub returns-clause-starts : goal.returns-clause-starts
returns-clause-starts g c = starts_kept c.args.self.now (c.args.line - 1) _ c.index_mut.result.now (pulse_there c.args.self.now c.args.line c.requires) c.index_mut.ensures.value refl

pub returns-clause-transactions : goal.returns-clause-transactions
returns-clause-transactions g c = transactions_kept c.args.self.now (c.args.line - 1) _ c.index_mut.result.now (pulse_there c.args.self.now c.args.line c.requires) c.index_mut.ensures.value refl
