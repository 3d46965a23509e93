use Rattle.std.proofs.Common.{◌-◌, refl}
use Rattle.txn_clients.specs.Clients.{rows_of}
use Rattle.txn_clients.proofs.Accounting.{started}
use Rattle.txn_clients.proofs.Arriving.{job_leads}
use Rattle.txn_clients.proofs.Leading.{leads_nothing}
use Rattle.txn_clients.proofs.Settling.{goes_weaker, job_heard, job_runs, quiet_goes}
use Rattle.txn_clients.proofs.Sounding.{no_more}
use Rattle.txn_clients.specs.Failing.{posting_in}
use Rattle.txn_clients.proofs.clients.Clients.start_job.Goals as goal

pub returns-clause-accounts : goal.returns-clause-accounts
returns-clause-accounts g c = started (c.args.line - 1) c.in_ok-push.field-0 (rows_of c.args.self.now) (rows_of c.push.new.self) c.in_ok-push.ensures.accounts

pub returns-then-not-has_job-clause-waits : goal.returns-then-not-has_job-clause-waits
returns-then-not-has_job-clause-waits g c trace rest own sound =
    quiet_goes _ trace c.args.self.now c.args.self.now c.args.client rest c.args.turn.now.posted.items c.args.turn.now.ended.items c.args.turn.now.ended.items sound (no_more _ (posting_in c.args.turn.now.posted.items trace) c.args.turn.now.ended.items) (λ n a x. x) (λ n. refl)

pub returns-clause-waits : goal.returns-clause-waits
returns-clause-waits g c trace rest own sound =
    let job = c.if-not-has_job.ensures.job refl in
    let pushed = c.in_ok-push.ensures.waits trace rest (job_heard (rows_of c.args.self.now) c.args.line c.args.client job.0 c.requires.line own job.1) tt sound in
    goes_weaker _ trace c.args.self.now c.push.new.self c.args.client _ (λ n a. ⊥) rest c.args.turn.now.posted.items c.push.new.turn.posted.items c.args.turn.now.ended.items c.push.new.turn.ended.items (λ n a x. absurd x) pushed.0

pub returns-clause-runs : goal.returns-clause-runs
returns-clause-runs g c running =
    let job = c.if-not-has_job.ensures.job refl in
    job_runs (rows_of c.args.self.now) (rows_of c.push.new.self) (c.args.line - 1) job.0 c.in_ok-push.field-0 job.1 c.in_ok-push.ensures.kind c.in_ok-push.ensures.runs running

pub returns-then-not-has_job-clause-leads : goal.returns-then-not-has_job-clause-leads
returns-then-not-has_job-clause-leads g c own askers rest h came a = leads_nothing _ askers rest c.args.turn.now.posted.items c.args.turn.now.ended.items _ c.args.self.now h a

pub returns-clause-leads : goal.returns-clause-leads
returns-clause-leads g c =
    let job = c.if-not-has_job.ensures.job refl in
    job_leads _ g.met.P.Plans.lawful c.args.self.now c.push.new.self c.args.line c.args.client job.0 c.in_ok-push.field-0 c.args.turn.now.posted.items c.push.new.turn.posted.items c.args.turn.now.ended.items c.push.new.turn.ended.items c.requires.line job.1 c.in_ok-push.ensures.leads
