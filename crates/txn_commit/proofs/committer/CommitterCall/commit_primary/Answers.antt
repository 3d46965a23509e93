use Rattle.std.proofs.Common.{◌∙◌, [], ◌∷◌, refl}
use Rattle.txn_kv.specs.Timestamp.{version_of}
use Rattle.txn_history.specs.Meaning.{started}
use Rattle.txn_history.specs.Moves.{Moves-before, Moves-stopped, Moves-stops}
use Rattle.txn_history.specs.Turn.{IfKept-all, IfKept-stopped}
use Rattle.txn_commit.specs.Plans.{AreCommitted}
use Rattle.txn_commit.specs.declared.committer.Stage.TheVariants as stages
use Rattle.txn_commit.proofs.Posting.Hears.{Nothing}
use Rattle.txn_commit.proofs.Stages.{commits_on, committing_begins, followed_sends, stopped_is, then_goes_on, same_options}
use Rattle.txn_commit.proofs.Counting.{committing_starts, gave_up_counts, gone_wide, is_kept_so, then_counts}
use Rattle.txn_history.proofs.Telling.{is_kept_ok}
use Rattle.txn_commit.proofs.Going.{opens_gives_up, opens_stopped, opens_then, relays_after, resumes_settled}
use Rattle.txn_commit.proofs.committer.CommitterCall.commit_primary.Goals as goal

pub returns-in_err-primary_alone-clause-moves : goal.returns-in_err-primary_alone-clause-moves
returns-in_err-primary_alone-clause-moves g c = Moves-stopped (stopped_is _ c.from_residual.ensures.0) refl

pub returns-in_err-plan-clause-moves : goal.returns-in_err-plan-clause-moves
returns-in_err-plan-clause-moves g c = Moves-stopped (stopped_is _ c.from_residual-in_err-plan.ensures.0) refl

pub returns-in-Err-clause-moves : goal.returns-in-Err-clause-moves
returns-in-Err-clause-moves g c = Moves-stops (Moves-before (λ h u. (committing_begins _ _ c.args.self.now c.in_ok-plan.plan c.args.timestamp c.args.commits.now c.args.out.now _ (rw (c.new_commit_request-request.ensures, c.go.ensures.state) refl) (rw c.new_commit_request-request.ensures refl) (rw c.new_commit_request-request.ensures (c.in_ok-primary_alone.ensures ∙ rw c.go.ensures.state refl)) (same_options c.in_ok-clone.field-0 c.go.new.self.retry_options c.in_ok-clone.ensures.cases.0 c.in_ok-clone.ensures.cases.1 ∙ rw c.go.ensures.state refl) c.in_ok-plan.ensures h u, tt)) (commits_on _ (record c.args.self.now { stage = stages.Committing c.in_ok-plan.plan c.args.timestamp }) c.in_ok-plan.plan c.start_commit-turn.new.plan c.args.timestamp c.args.commits.now c.args.commits.now c.start_commit-turn.new.commits started c.args.out.now c.start_commit-turn.new.out _ refl (λ h. Nothing) (λ h n k. k) refl c.start_commit-turn.ensures.sends)) c.give_up.ensures.turn

pub returns-in-Ok-clause-moves : goal.returns-in-Ok-clause-moves
returns-in-Ok-clause-moves g c = then_goes_on _ c.args.self.now c.go-2.new.self _ (stages.Committing c.start_commit-turn.new.plan c.args.timestamp) c.args.commits.now c.start_commit-turn.new.commits c.start_commit-turn.new.commits (λ x. g.P.Plans.ways.uncommitted x.retry_options) (λ x. AreCommitted (version_of x.start) (version_of c.args.timestamp) (x.parts.primary ∷ [])) _ _ _ _ _ _ _ (c.go-2.ensures.state ∙ rw c.go.ensures.state refl) (Moves-before (λ h u. (committing_begins _ _ c.args.self.now c.in_ok-plan.plan c.args.timestamp c.args.commits.now c.args.out.now _ (rw (c.new_commit_request-request.ensures, c.go.ensures.state) refl) (rw c.new_commit_request-request.ensures refl) (rw c.new_commit_request-request.ensures (c.in_ok-primary_alone.ensures ∙ rw c.go.ensures.state refl)) (same_options c.in_ok-clone.field-0 c.go.new.self.retry_options c.in_ok-clone.ensures.cases.0 c.in_ok-clone.ensures.cases.1 ∙ rw c.go.ensures.state refl) c.in_ok-plan.ensures h u, tt)) (commits_on _ (record c.args.self.now { stage = stages.Committing c.in_ok-plan.plan c.args.timestamp }) c.in_ok-plan.plan c.start_commit-turn.new.plan c.args.timestamp c.args.commits.now c.args.commits.now c.start_commit-turn.new.commits started c.args.out.now c.start_commit-turn.new.out _ refl (λ h. Nothing) (λ h n k. k) refl (rw c.in-Ok.is at c.start_commit-turn.ensures.sends))) (c.after_commit.ensures.moves c.start_commit-turn.new.commits _ c.start_commit-turn.new.plan (rw c.go-2.ensures.state refl))

pub returns-in-Err-clause-counts : goal.returns-in-Err-clause-counts
returns-in-Err-clause-counts g c = gave_up_counts _ _ c.give_up.ensures.turn c.give_up.ensures.state c.give_up.ensures.width (committing_starts _ _ c.args.self.now c.go-2.new.self _ c.args.timestamp c.in_ok-plan.plan c.start_commit-turn.new.plan (c.go-2.ensures.state ∙ rw c.go.ensures.state refl) (gone_wide g.P.Plans.ways g.P.Plans.ways.costs c.args.self.now c.go.new.self c.go-2.new.self c.go.ensures.width c.go-2.ensures.width) (rw c.new_commit_request-request.ensures (c.in_ok-primary_alone.ensures ∙ rw c.go.ensures.state refl)) c.in_ok-plan.ensures c.start_commit-turn.ensures.counts)

pub returns-in-Ok-clause-counts : goal.returns-in-Ok-clause-counts
returns-in-Ok-clause-counts g c = then_counts _ _ (λ e. e) (rw c.in-Ok.is (is_kept_so c.in-Ok.progress)) (committing_starts _ _ c.args.self.now c.go-2.new.self _ c.args.timestamp c.in_ok-plan.plan c.start_commit-turn.new.plan (c.go-2.ensures.state ∙ rw c.go.ensures.state refl) (gone_wide g.P.Plans.ways g.P.Plans.ways.costs c.args.self.now c.go.new.self c.go-2.new.self c.go.ensures.width c.go-2.ensures.width) (rw c.new_commit_request-request.ensures (c.in_ok-primary_alone.ensures ∙ rw c.go.ensures.state refl)) c.in_ok-plan.ensures c.start_commit-turn.ensures.counts) (c.after_commit.ensures.counts _)

pub returns-in_err-primary_alone-clause-opens : goal.returns-in_err-primary_alone-clause-opens
returns-in_err-primary_alone-clause-opens g c = opens_stopped _ c.args.self.now c.go.new.self _ _ _ c.go.ensures.state (stopped_is _ c.from_residual.ensures.0) refl

pub returns-in_err-plan-clause-opens : goal.returns-in_err-plan-clause-opens
returns-in_err-plan-clause-opens g c = opens_stopped _ c.args.self.now c.go.new.self _ _ _ c.go.ensures.state (stopped_is _ c.from_residual-in_err-plan.ensures.0) refl

pub returns-in-Err-clause-opens : goal.returns-in-Err-clause-opens
returns-in-Err-clause-opens g c = opens_gives_up _ c.go-2.new.self c.give_up.new.self _ _ _ c.give_up.ensures.state c.give_up.ensures.turn c.start_commit-turn.ensures.sends.expects

pub returns-in-Ok-clause-opens : goal.returns-in-Ok-clause-opens
returns-in-Ok-clause-opens g c = opens_then _ g.P.Plans.ways.plan (λ q. stages.Committing q c.args.timestamp) (λ s. refl) (λ s a x. x) (λ s a x. x) c.go-2.new.self c.after_commit.new.self c.in_ok-plan.plan c.start_commit-turn.new.plan _ _ _ _ _ _ _ (rw c.go-2.ensures.state refl) (is_kept_ok c.in-Ok.progress) g.met.P.Plans.lawful c.in_ok-plan.ensures.unbegun
    (relays_after (is_kept_ok c.in-Ok.progress) (rw c.in-Ok.is at c.start_commit-turn.ensures.relays) c.in_ok-plan.ensures.unbegun.phase)
    c.start_commit-turn.ensures.sends.expects
    (resumes_settled _ c.go-2.new.self c.after_commit.new.self c.start_commit-turn.new.out (tt {0}) _ _ (is_kept_ok c.in-Ok.progress) c.after_commit.ensures.settles)

pub returns-in-Ok-clause-follows : goal.returns-in-Ok-clause-follows
returns-in-Ok-clause-follows g c = IfKept-all _ (followed_sends (is_kept_ok c.in-Ok.progress) (rw c.in-Ok.is at c.start_commit-turn.ensures.sends))

pub returns-in-Err-clause-follows : goal.returns-in-Err-clause-follows
returns-in-Err-clause-follows g c = IfKept-stopped _ _ c.give_up.ensures.turn
