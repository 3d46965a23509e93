use Rattle.std.proofs.Common.{ap, refl}
use Rattle.txn_history.specs.Moves.{Moves-stops}
use Rattle.txn_commit.proofs.Posting.Hears.{Nothing}
use Rattle.txn_history.specs.Turn.{turn_of}
use Rattle.txn_commit.proofs.Counting.{is_kept_so}
use Rattle.txn_core.proofs.Counting.{begin_counts, is_locking, kept_of_ok, lets_go, locks_price, never_kept, rest_pays, rollback_priced}
use Rattle.txn_core.proofs.Going.{begin_fits, goes_on, lifts, not_locking, rolls_nothing}
use Rattle.txn_history.proofs.Telling.{is_kept_ok}
use Rattle.txn_core.proofs.Waiting.{opens_call, opens_gone, opens_rests, rests_idle}
use Rattle.txn_core.proofs.transaction.Transaction.start_rollback.Goals as goal

pub returns-then-not-parts-clause-moves : goal.returns-then-not-parts-clause-moves
returns-then-not-parts-clause-moves g c = rolls_nothing _ c.args.self.now c.nothing_rolled_back.new.self c.args.parts _ _ _ c.nothing_rolled_back.ensures.answer c.nothing_rolled_back.ensures.state c.requires.parts (not_locking _ c.if-not-parts.true)

pub returns-in-Err-clause-moves : goal.returns-in-Err-clause-moves
returns-in-Err-clause-moves g c = Moves-stops (lifts _ c.committer-call.result c.roll_back.new.self c.args.self.now c.args.self.now _ _ _ _ _ _ _ (λ h. Nothing) (record { start = ap (λ x. x.start) c.roll_back.ensures.job; parts = ap (λ x. x.parts) c.roll_back.ensures.job; retries = ap (λ x. x.retry_options) c.roll_back.ensures.job }) refl (λ h u. (begin_fits _ c.args.self.now c.committer-call.result c.args.parts _ h c.requires.start c.requires.parts c.committer-call.ensures u.0, u.1)) (λ a e. (refl, c.roll_back.ensures.back)) (c.roll_back.ensures.moves c.args.self.now.commits)) c.stop.ensures.turn

pub returns-in-Ok-clause-moves : goal.returns-in-Ok-clause-moves
returns-in-Ok-clause-moves g c = goes_on _ c.committer-call.result c.roll_back.new.self c.args.self.now c.args.self.now c.go_on.new.self _ _ _ _ _ _ _ _ (λ h. Nothing) (record { start = ap (λ x. x.start) c.roll_back.ensures.job; parts = ap (λ x. x.parts) c.roll_back.ensures.job; retries = ap (λ x. x.retry_options) c.roll_back.ensures.job }) refl (λ h u. (begin_fits _ c.args.self.now c.committer-call.result c.args.parts _ h c.requires.start c.requires.parts c.committer-call.ensures u.0, u.1)) (λ a e. (refl, c.roll_back.ensures.back)) (rw c.in-Ok.is at (c.roll_back.ensures.moves c.args.self.now.commits)) (c.go_on.ensures.takes_up _)

pub returns-then-not-parts-clause-counts : goal.returns-then-not-parts-clause-counts
returns-then-not-parts-clause-counts g c = rest_pays _ _ c.args.self.now c.nothing_rolled_back.new.self (rw c.requires.aside refl) (rw c.nothing_rolled_back.ensures.state refl) (rw c.nothing_rolled_back.ensures.state refl)

pub returns-in-Err-clause-counts : goal.returns-in-Err-clause-counts
returns-in-Err-clause-counts g c = locks_price _ _ c.args.parts c.args.self.now c.stop.new.self (is_locking _ c.if-not-parts.false) (begin_counts _ _ c.committer-call.result c.roll_back.new.self c.args.self.now c.args.self.now c.stop.new.self _ c.requires.aside refl (lets_go _ c.roll_back.new.self c.args.self.now c.stop.new.self (rw c.stop.ensures.state refl) (rw c.stop.ensures.state refl)) (never_kept _ _ c.stop.ensures.turn) (rollback_priced _ _ c.committer-call.result c.roll_back.new.self c.args.parts c.committer-call.ensures.whole c.roll_back.ensures.counts))

pub returns-in-Ok-clause-counts : goal.returns-in-Ok-clause-counts
returns-in-Ok-clause-counts g c = locks_price _ _ c.args.parts c.args.self.now c.go_on.new.self (is_locking _ c.if-not-parts.false) (begin_counts _ _ c.committer-call.result c.roll_back.new.self c.args.self.now c.args.self.now c.go_on.new.self _ c.requires.aside refl c.go_on.ensures.keeps (kept_of_ok _ (turn_of c.roll_back.result) (rw c.in-Ok.is (is_kept_so c.in-Ok.progress))) (rollback_priced _ _ c.committer-call.result c.roll_back.new.self c.args.parts c.committer-call.ensures.whole c.roll_back.ensures.counts))

pub returns-then-not-parts-clause-opens : goal.returns-then-not-parts-clause-opens
returns-then-not-parts-clause-opens g c = opens_rests _ c.nothing_rolled_back.new.self _ _ (rests_idle _ c.nothing_rolled_back.new.self _ (rw c.nothing_rolled_back.ensures.state refl) (rw c.nothing_rolled_back.ensures.answer tt))

pub returns-in-Ok-clause-opens : goal.returns-in-Ok-clause-opens
returns-in-Ok-clause-opens g c = opens_call _ c.roll_back.new.self _ c.args.self.now c.go_on.new.self _ _ _ (is_kept_ok c.in-Ok.progress) (rw c.in-Ok.is at c.roll_back.ensures.opens) c.go_on.ensures.follows

pub returns-in-Err-clause-opens : goal.returns-in-Err-clause-opens
returns-in-Err-clause-opens g c = opens_gone _ c.roll_back.new.self _ c.stop.new.self _ _ _ (rw c.stop.ensures.state refl) c.stop.ensures.turn c.roll_back.ensures.opens
