use Rattle.std.proofs.Common.{refl}
use Rattle.txn_history.proofs.Telling.{Tells-idle}
use Rattle.txn_commit.specs.Jobs.{job_waits, others-lawful}
use Rattle.txn_commit.specs.declared.secondary_job.Stage.TheVariants as stage
use Rattle.txn_commit.proofs.Jobs.{counts_on, goes_on, tells_on, unheard_is, waits_not}
use Rattle.txn_commit.proofs.Posting.{hears_told}
use Rattle.txn_history.proofs.Arriving.{counts_of, goes_of, tells_of}
use Rattle.txn_commit.proofs.secondary_job.SecondaryJob.tell.Goals as goal
use Rattle.txn_history.specs.Arrivals.{awaited_as, locked_told, tells_error, tells_failure, told_by, weight_told}

pub returns-in-Committing-clause-tells : goal.returns-in-Committing-clause-tells
returns-in-Committing-clause-tells g c plan keys r = tells_on g.P.Plans.ways.plan g.P.Plans.ways.uncommitted g.P.Plans.ways.costs.commits plan keys c.args.self.now c.in-Committing.plan c.tell-turn.new.self (told_by c.args.arrival c.args.out.now r) c.args.out.now _ _ _ c.in-Committing.is (hears_told c.args.arrival c.args.out.now r) c.read.ensures (tells_of c.args.arrival c.tell-turn.ensures r)

pub returns-in-Committing-clause-goes : goal.returns-in-Committing-clause-goes
returns-in-Committing-clause-goes g c = goes_on g.P.Plans.ways.plan c.args.self.now c.in-Committing.plan c.tell-turn.new.self (g.P.Plans.ways.plan.waits c.in-Committing.plan (awaited_as c.args.arrival)) (job_waits g.P.Plans.ways.plan c.args.self.now.stage (awaited_as c.args.arrival)) c.args.out.now _ _ _ _ _ c.in-Committing.is (λ w. rw c.in-Committing.is at w) (λ w. rw c.in-Committing.is w) c.read.ensures (goes_of c.args.arrival c.tell-turn.ensures)

pub returns-in-Committing-clause-counts : goal.returns-in-Committing-clause-counts
returns-in-Committing-clause-counts g c plan keys = counts_on g.P.Plans.ways.plan g.P.Plans.ways.uncommitted g.P.Plans.ways.costs.commits plan keys c.args.self.now c.in-Committing.plan c.tell-turn.new.self (tells_error c.args.arrival) (tells_failure c.args.arrival) (weight_told c.args.arrival) (locked_told c.args.arrival) c.args.out.now _ _ _ c.in-Committing.is c.read.ensures (counts_of c.args.arrival c.tell-turn.ensures)

pub returns-in-Fresh-clause-tells : goal.returns-in-Fresh-clause-tells
returns-in-Fresh-clause-tells g c plan keys r = Tells-idle (others-lawful g.P.Plans.ways.plan g.met.P.Plans.lawful g.P.Plans.ways.uncommitted g.P.Plans.ways.costs.commits plan keys g.met.P.Plans.lasting.uncommitted) (λ a x w. waits_not g.P.Plans.ways.plan c.args.self.now stage.Fresh c.in-Fresh.is (λ b y. y) a w) (unheard_is g.P.Plans.ways.plan c.args.self.now stage.Fresh _ c.in-Fresh.is refl)

pub returns-in-Stopped-clause-tells : goal.returns-in-Stopped-clause-tells
returns-in-Stopped-clause-tells g c plan keys r = Tells-idle (others-lawful g.P.Plans.ways.plan g.met.P.Plans.lawful g.P.Plans.ways.uncommitted g.P.Plans.ways.costs.commits plan keys g.met.P.Plans.lasting.uncommitted) (λ a x w. waits_not g.P.Plans.ways.plan c.args.self.now stage.Stopped c.in-Stopped.is (λ b y. y) a w) (unheard_is g.P.Plans.ways.plan c.args.self.now stage.Stopped _ c.in-Stopped.is refl)
