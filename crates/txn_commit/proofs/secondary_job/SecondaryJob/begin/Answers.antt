use Rattle.std.proofs.Common.{◌≡◌, false, refl}
use Rattle.txn_history.proofs.Telling.{Tells-idle}
use Rattle.txn_history.specs.Meaning.{started}
use Rattle.txn_history.specs.Phase.Phase.{Fresh}
use Rattle.txn_commit.specs.Jobs.{job_phase, others-lawful}
use Rattle.txn_commit.specs.declared.secondary_job.Stage.TheVariants as stage
use Rattle.txn_commit.proofs.Jobs.{counts_on, goes_on, tells_on, unheard_is}
use Rattle.txn_commit.proofs.Posting.Hears.{Nothing}
use Rattle.txn_history.proofs.Arriving.{counts_begun, goes_begun, tells_begun}
use Rattle.txn_commit.proofs.secondary_job.SecondaryJob.begin.Goals as goal

pub returns-in-Committing-clause-tells : goal.returns-in-Committing-clause-tells
returns-in-Committing-clause-tells g c plan keys = tells_on g.P.Plans.ways.plan g.P.Plans.ways.uncommitted g.P.Plans.ways.costs.commits plan keys c.args.self.now c.in-Committing.plan c.start-turn.new.self started c.args.out.now _ _ _ c.in-Committing.is (λ h. Nothing) c.read.ensures (tells_begun c.start-turn.ensures)

pub returns-in-Committing-clause-goes : goal.returns-in-Committing-clause-goes
returns-in-Committing-clause-goes g c = goes_on g.P.Plans.ways.plan c.args.self.now c.in-Committing.plan c.start-turn.new.self (g.P.Plans.ways.plan.phase c.in-Committing.plan ≡ Fresh) (job_phase g.P.Plans.ways.plan c.args.self.now.stage ≡ Fresh) c.args.out.now _ _ _ _ _ c.in-Committing.is (λ w. rw c.in-Committing.is at w) (λ w. rw c.in-Committing.is w) c.read.ensures (goes_begun c.start-turn.ensures)

pub returns-in-Committing-clause-counts : goal.returns-in-Committing-clause-counts
returns-in-Committing-clause-counts g c plan keys = counts_on g.P.Plans.ways.plan g.P.Plans.ways.uncommitted g.P.Plans.ways.costs.commits plan keys c.args.self.now c.in-Committing.plan c.start-turn.new.self false false 0 0 c.args.out.now _ _ _ c.in-Committing.is c.read.ensures (counts_begun c.start-turn.ensures)

pub returns-in-Stopped-clause-tells : goal.returns-in-Stopped-clause-tells
returns-in-Stopped-clause-tells g c plan keys = Tells-idle (others-lawful g.P.Plans.ways.plan g.met.P.Plans.lawful g.P.Plans.ways.uncommitted g.P.Plans.ways.costs.commits plan keys g.met.P.Plans.lasting.uncommitted) (λ a x w. x) (unheard_is g.P.Plans.ways.plan c.args.self.now stage.Stopped _ c.in-Stopped.is refl)
