use Rattle.std.proofs.Common.{◌∙◌, refl, subst}
use Rattle.txn_kv.specs.Timestamp.{version_of}
use Rattle.txn_history.specs.Meaning.{started}
use Rattle.txn_history.specs.Moves.{Moves-before, Moves-stopped, Moves-stops}
use Rattle.txn_commit.specs.Plans.{PrewritesOnly}
use Rattle.txn_commit.specs.declared.committer.Stage.TheVariants as stages
use Rattle.txn_commit.proofs.Committing.{prewriting_on}
use Rattle.txn_commit.proofs.Posting.Hears.{Nothing}
use Rattle.txn_commit.proofs.Stages.{is_whole, prewrites_only, prewriting_begins, prewriting_same, stopped_elsewhere, stopped_is, then_goes_on, same_options}
use Rattle.txn_commit.specs.Committing.{IsAllPrewritten, whole_of}
use Rattle.txn_commit.proofs.Counting.{prewriting_starts, gone_wide, is_kept_so, stop_counts, then_counts}
use Rattle.txn_history.proofs.Telling.{is_kept_ok}
use Rattle.txn_commit.proofs.Going.{opens_stopped, opens_stops, opens_then}
use Rattle.txn_history.proofs.Arriving.{counts_begun, goes_begun, tells_begun}
use Rattle.txn_commit.proofs.committer.CommitterCall.prewrite.Goals as goal

pub returns-in_err-try_clone-clause-moves : goal.returns-in_err-try_clone-clause-moves
returns-in_err-try_clone-clause-moves g c c' = Moves-stopped (stopped_is _ c.from_residual.ensures.0) refl

pub returns-in_err-try_clone-2-clause-moves : goal.returns-in_err-try_clone-2-clause-moves
returns-in_err-try_clone-2-clause-moves g c c' = Moves-stopped (stopped_is _ c.from_residual-in_err-try_clone-2.ensures.0) refl

pub returns-in_err-plan-clause-moves : goal.returns-in_err-plan-clause-moves
returns-in_err-plan-clause-moves g c c' = Moves-stopped (stopped_is _ c.from_residual-in_err-plan.ensures.0) refl

pub returns-in_err-turn-clause-moves : goal.returns-in_err-turn-clause-moves
returns-in_err-turn-clause-moves g c c' = Moves-stops (Moves-before (λ h u. (prewriting_begins _ _ c.args.self.now c.in_ok-plan.plan c' c.args.out.now _ (is_whole _ c.args.ttl c.args.self.now.parts _ (c.new_prewrite_request-request.ensures ∙ rw (c.in_ok-try_clone.ensures, c.in_ok-try_clone-2.ensures, c.go.ensures.state) refl)) (same_options c.in_ok-clone.field-0 c.go.new.self.retry_options c.in_ok-clone.ensures.cases.0 c.in_ok-clone.ensures.cases.1 ∙ rw c.go.ensures.state refl) c.in_ok-plan.ensures h u, tt)) (prewriting_on _ (record c.args.self.now { stage = stages.Prewriting c.in_ok-plan.plan }) c.in_ok-plan.plan c.start-turn.new.self c' started c.args.out.now c.start-turn.new.out _ refl (λ h. Nothing) (tells_begun c.start-turn.ensures).moves (tells_begun c.start-turn.ensures).job)) (stopped_is _ c.from_residual-in_err-turn.ensures.0)

pub returns-clause-moves : goal.returns-clause-moves
returns-clause-moves g c c' = then_goes_on _ c.args.self.now c.go-2.new.self _ (stages.Prewriting c.start-turn.new.self) c' c' c' (λ x. g.P.Plans.ways.unwritten x.retry_options) (λ x. IsAllPrewritten (version_of x.start) x.parts) _ _ _ _ _ _ _ (c.go-2.ensures.state ∙ rw c.go.ensures.state refl) (Moves-before (λ h u. (prewriting_begins _ _ c.args.self.now c.in_ok-plan.plan c' c.args.out.now _ (is_whole _ c.args.ttl c.args.self.now.parts _ (c.new_prewrite_request-request.ensures ∙ rw (c.in_ok-try_clone.ensures, c.in_ok-try_clone-2.ensures, c.go.ensures.state) refl)) (same_options c.in_ok-clone.field-0 c.go.new.self.retry_options c.in_ok-clone.ensures.cases.0 c.in_ok-clone.ensures.cases.1 ∙ rw c.go.ensures.state refl) c.in_ok-plan.ensures h u, tt)) (prewriting_on _ (record c.args.self.now { stage = stages.Prewriting c.in_ok-plan.plan }) c.in_ok-plan.plan c.start-turn.new.self c' started c.args.out.now c.start-turn.new.out _ refl (λ h. Nothing) (tells_begun c.in_ok-turn.ensures).moves (tells_begun c.in_ok-turn.ensures).job)) (c.after_prewrite.ensures.moves c' c.start-turn.new.self (rw c.go-2.ensures.state refl))

pub returns-in_err-turn-clause-counts : goal.returns-in_err-turn-clause-counts
returns-in_err-turn-clause-counts g c = stop_counts _ _ (stopped_is _ c.from_residual-in_err-turn.ensures.0) (prewriting_starts _ _ c.args.self.now c.go-2.new.self _ c.in_ok-plan.plan c.start-turn.new.self (c.go-2.ensures.state ∙ rw c.go.ensures.state refl) (gone_wide g.P.Plans.ways g.P.Plans.ways.costs c.args.self.now c.go.new.self c.go-2.new.self c.go.ensures.width c.go-2.ensures.width) (rw c.new_prewrite_request-request.ensures (c.in_ok-try_clone.ensures ∙ rw c.go.ensures.state refl)) c.in_ok-plan.ensures (counts_begun c.start-turn.ensures))

pub returns-clause-counts : goal.returns-clause-counts
returns-clause-counts g c = then_counts _ _ (λ e. e) (rw c.in_ok-turn.was (is_kept_so c.in_ok-turn.field-0)) (prewriting_starts _ _ c.args.self.now c.go-2.new.self _ c.in_ok-plan.plan c.start-turn.new.self (c.go-2.ensures.state ∙ rw c.go.ensures.state refl) (gone_wide g.P.Plans.ways g.P.Plans.ways.costs c.args.self.now c.go.new.self c.go-2.new.self c.go.ensures.width c.go-2.ensures.width) (rw c.new_prewrite_request-request.ensures (c.in_ok-try_clone.ensures ∙ rw c.go.ensures.state refl)) c.in_ok-plan.ensures (counts_begun c.start-turn.ensures)) (c.after_prewrite.ensures.counts c.start-turn.new.self (rw c.go-2.ensures.state refl))

pub returns-in_err-try_clone-clause-opens : goal.returns-in_err-try_clone-clause-opens
returns-in_err-try_clone-clause-opens g c = opens_stopped _ c.args.self.now c.go.new.self _ _ _ c.go.ensures.state (stopped_is _ c.from_residual.ensures.0) refl

pub returns-in_err-try_clone-2-clause-opens : goal.returns-in_err-try_clone-2-clause-opens
returns-in_err-try_clone-2-clause-opens g c = opens_stopped _ c.args.self.now c.go.new.self _ _ _ c.go.ensures.state (stopped_is _ c.from_residual-in_err-try_clone-2.ensures.0) refl

pub returns-in_err-plan-clause-opens : goal.returns-in_err-plan-clause-opens
returns-in_err-plan-clause-opens g c = opens_stopped _ c.args.self.now c.go.new.self _ _ _ c.go.ensures.state (stopped_is _ c.from_residual-in_err-plan.ensures.0) refl

pub returns-in_err-turn-clause-opens : goal.returns-in_err-turn-clause-opens
returns-in_err-turn-clause-opens g c = opens_stops _ g.P.Plans.ways.plan (λ p. stages.Prewriting p) (λ s. refl) (λ s a x. x) (λ s a x. x) c.go-2.new.self c.in_ok-plan.plan c.start-turn.new.self _ _ _ _ (rw c.go-2.ensures.state refl) refl (stopped_is _ c.from_residual-in_err-turn.ensures.0) g.met.P.Plans.lawful c.in_ok-plan.ensures.unbegun ((goes_begun c.in_err-turn.ensures).next c.in_ok-plan.ensures.unbegun.phase) (tells_begun c.in_err-turn.ensures).expects

pub returns-clause-opens : goal.returns-clause-opens
returns-clause-opens g c = opens_then _ g.P.Plans.ways.plan (λ p. stages.Prewriting p) (λ s. refl) (λ s a x. x) (λ s a x. x) c.go-2.new.self c.after_prewrite.new.self c.in_ok-plan.plan c.start-turn.new.self _ _ _ _ _ _ _ (rw c.go-2.ensures.state refl) (is_kept_ok c.in_ok-turn.field-0) g.met.P.Plans.lawful c.in_ok-plan.ensures.unbegun ((goes_begun c.in_ok-turn.ensures).next c.in_ok-plan.ensures.unbegun.phase) (tells_begun c.in_ok-turn.ensures).expects c.after_prewrite.ensures.resumes

pub returns-in_err-try_clone-clause-parts : goal.returns-in_err-try_clone-clause-parts
returns-in_err-try_clone-clause-parts g c p e = absurd (stopped_elsewhere p (rw c.go.ensures.state refl) e)

pub returns-in_err-try_clone-2-clause-parts : goal.returns-in_err-try_clone-2-clause-parts
returns-in_err-try_clone-2-clause-parts g c p e = absurd (stopped_elsewhere p (rw c.go.ensures.state refl) e)

pub returns-in_err-plan-clause-parts : goal.returns-in_err-plan-clause-parts
returns-in_err-plan-clause-parts g c p e = absurd (stopped_elsewhere p (rw c.go.ensures.state refl) e)

pub returns-in_err-turn-clause-parts : goal.returns-in_err-turn-clause-parts
returns-in_err-turn-clause-parts g c p e = subst (PrewritesOnly g.P.Plans.ways.plan (whole_of c.args.self.now.parts (version_of c.args.self.now.start) c.args.ttl)) (prewriting_same (rw c.go-2.ensures.state refl) e) (prewrites_only (whole_of c.args.self.now.parts (version_of c.args.self.now.start) c.args.ttl) (c.new_prewrite_request-request.ensures ∙ rw (c.in_ok-try_clone.ensures, c.in_ok-try_clone-2.ensures, c.go.ensures.state) refl) c.in_ok-plan.ensures (tells_begun c.start-turn.ensures).job)

pub returns-clause-parts : goal.returns-clause-parts
returns-clause-parts g c p e = subst (PrewritesOnly g.P.Plans.ways.plan (whole_of c.args.self.now.parts (version_of c.args.self.now.start) c.args.ttl)) (prewriting_same (rw c.go-2.ensures.state refl) (c.after_prewrite.ensures.stays p e)) (prewrites_only (whole_of c.args.self.now.parts (version_of c.args.self.now.start) c.args.ttl) (c.new_prewrite_request-request.ensures ∙ rw (c.in_ok-try_clone.ensures, c.in_ok-try_clone-2.ensures, c.go.ensures.state) refl) c.in_ok-plan.ensures (tells_begun c.in_ok-turn.ensures).job)
