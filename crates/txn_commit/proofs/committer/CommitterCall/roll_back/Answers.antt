use Rattle.std.proofs.Common.{◌∙◌, [], ◌∷◌, refl}
use Rattle.txn_kv.specs.Timestamp.{version_of}
use Rattle.txn_history.specs.Meaning.{started}
use Rattle.txn_history.specs.Moves.{Moves-before, Moves-stopped, Moves-stops}
use Rattle.txn_commit.specs.Plans.{AreRolledBack}
use Rattle.txn_commit.specs.declared.committer.Stage.TheVariants as stages
use Rattle.txn_commit.proofs.Committing.{rolling_on}
use Rattle.txn_commit.proofs.Posting.Hears.{Nothing}
use Rattle.txn_commit.proofs.Stages.{rolling_begins, stopped_is, then_goes_on}
use Rattle.txn_commit.proofs.Counting.{rolling_starts, gone_wide, is_kept_so, stop_counts, then_counts}
use Rattle.txn_history.proofs.Telling.{is_kept_ok}
use Rattle.txn_commit.proofs.Going.{opens_stopped, opens_stops, opens_then}
use Rattle.txn_history.proofs.Arriving.{counts_begun, goes_begun, tells_begun}
use Rattle.txn_commit.proofs.committer.CommitterCall.roll_back.Goals as goal

pub returns-in_err-keys-clause-moves : goal.returns-in_err-keys-clause-moves
returns-in_err-keys-clause-moves g c c' = Moves-stopped (stopped_is _ c.from_residual.ensures.0) refl

pub returns-in_err-plan-clause-moves : goal.returns-in_err-plan-clause-moves
returns-in_err-plan-clause-moves g c c' = Moves-stopped (stopped_is _ c.from_residual-in_err-plan.ensures.0) refl

pub returns-in_err-turn-clause-moves : goal.returns-in_err-turn-clause-moves
returns-in_err-turn-clause-moves g c c' = Moves-stops (Moves-before (λ h u. (rolling_begins _ _ c.args.self.now c.in_ok-plan.plan c' c.args.out.now _ (rw c.go.ensures.state refl) (c.in_ok-keys.ensures ∙ rw c.go.ensures.state refl) (rw c.go.ensures.state refl) c.in_ok-plan.ensures h u, tt)) (rolling_on _ (record c.args.self.now { stage = stages.RollingBackPrimary c.in_ok-plan.plan }) c.in_ok-plan.plan c.start-turn.new.self c' started c.args.out.now c.start-turn.new.out _ refl (λ h. Nothing) (tells_begun c.start-turn.ensures).moves (tells_begun c.start-turn.ensures).job)) (stopped_is _ c.from_residual-in_err-turn.ensures.0)

pub returns-clause-moves : goal.returns-clause-moves
returns-clause-moves g c c' = then_goes_on _ c.args.self.now c.go-2.new.self _ (stages.RollingBackPrimary c.start-turn.new.self) c' c' c' (λ x. g.P.Plans.ways.unrolled x.retry_options) (λ x. AreRolledBack (version_of x.start) (x.parts.primary ∷ [])) _ _ _ _ _ _ _ (c.go-2.ensures.state ∙ rw c.go.ensures.state refl) (Moves-before (λ h u. (rolling_begins _ _ c.args.self.now c.in_ok-plan.plan c' c.args.out.now _ (rw c.go.ensures.state refl) (c.in_ok-keys.ensures ∙ rw c.go.ensures.state refl) (rw c.go.ensures.state refl) c.in_ok-plan.ensures h u, tt)) (rolling_on _ (record c.args.self.now { stage = stages.RollingBackPrimary c.in_ok-plan.plan }) c.in_ok-plan.plan c.start-turn.new.self c' started c.args.out.now c.start-turn.new.out _ refl (λ h. Nothing) (tells_begun c.in_ok-turn.ensures).moves (tells_begun c.in_ok-turn.ensures).job)) (c.after_primary_rollback.ensures.moves c' c.start-turn.new.self (rw c.go-2.ensures.state refl))

pub returns-in_err-turn-clause-counts : goal.returns-in_err-turn-clause-counts
returns-in_err-turn-clause-counts g c = stop_counts _ _ (stopped_is _ c.from_residual-in_err-turn.ensures.0) (rolling_starts _ _ c.args.self.now c.go-2.new.self _ c.in_ok-plan.plan c.start-turn.new.self (c.go-2.ensures.state ∙ rw c.go.ensures.state refl) (gone_wide g.P.Plans.ways g.P.Plans.ways.costs c.args.self.now c.go.new.self c.go-2.new.self c.go.ensures.width c.go-2.ensures.width) (c.in_ok-keys.ensures ∙ rw c.go.ensures.state refl) c.in_ok-plan.ensures (counts_begun c.start-turn.ensures))

pub returns-clause-counts : goal.returns-clause-counts
returns-clause-counts g c = then_counts _ _ (λ e. e) (rw c.in_ok-turn.was (is_kept_so c.in_ok-turn.field-0)) (rolling_starts _ _ c.args.self.now c.go-2.new.self _ c.in_ok-plan.plan c.start-turn.new.self (c.go-2.ensures.state ∙ rw c.go.ensures.state refl) (gone_wide g.P.Plans.ways g.P.Plans.ways.costs c.args.self.now c.go.new.self c.go-2.new.self c.go.ensures.width c.go-2.ensures.width) (c.in_ok-keys.ensures ∙ rw c.go.ensures.state refl) c.in_ok-plan.ensures (counts_begun c.start-turn.ensures)) (c.after_primary_rollback.ensures.counts c.start-turn.new.self (rw c.go-2.ensures.state refl))

pub returns-in_err-keys-clause-opens : goal.returns-in_err-keys-clause-opens
returns-in_err-keys-clause-opens g c = opens_stopped _ c.args.self.now c.go.new.self _ _ _ c.go.ensures.state (stopped_is _ c.from_residual.ensures.0) refl

pub returns-in_err-plan-clause-opens : goal.returns-in_err-plan-clause-opens
returns-in_err-plan-clause-opens g c = opens_stopped _ c.args.self.now c.go.new.self _ _ _ c.go.ensures.state (stopped_is _ c.from_residual-in_err-plan.ensures.0) refl

pub returns-in_err-turn-clause-opens : goal.returns-in_err-turn-clause-opens
returns-in_err-turn-clause-opens g c = opens_stops _ g.P.Plans.ways.plan (λ p. stages.RollingBackPrimary p) (λ s. refl) (λ s a x. x) (λ s a x. x) c.go-2.new.self c.in_ok-plan.plan c.start-turn.new.self _ _ _ _ (rw c.go-2.ensures.state refl) refl (stopped_is _ c.from_residual-in_err-turn.ensures.0) g.met.P.Plans.lawful c.in_ok-plan.ensures.unbegun ((goes_begun c.in_err-turn.ensures).next c.in_ok-plan.ensures.unbegun.phase) (tells_begun c.in_err-turn.ensures).expects

pub returns-clause-opens : goal.returns-clause-opens
returns-clause-opens g c = opens_then _ g.P.Plans.ways.plan (λ p. stages.RollingBackPrimary p) (λ s. refl) (λ s a x. x) (λ s a x. x) c.go-2.new.self c.after_primary_rollback.new.self c.in_ok-plan.plan c.start-turn.new.self _ _ _ _ _ _ _ (rw c.go-2.ensures.state refl) (is_kept_ok c.in_ok-turn.field-0) g.met.P.Plans.lawful c.in_ok-plan.ensures.unbegun ((goes_begun c.in_ok-turn.ensures).next c.in_ok-plan.ensures.unbegun.phase) (tells_begun c.in_ok-turn.ensures).expects c.after_primary_rollback.ensures.resumes
