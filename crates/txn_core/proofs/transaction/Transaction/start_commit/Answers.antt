use Rattle.std.proofs.Common.{◌∙◌, ap, refl, sym}
use Rattle.txn_history.specs.Moves.{Moves-stops}
use Rattle.txn_commit.proofs.Posting.Hears.{Nothing}
use Rattle.txn_history.specs.Turn.{IfKept-all, IfKept-stopped, turn_of}
use Rattle.txn_commit.proofs.Counting.{is_kept_so}
use Rattle.txn_core.proofs.Counting.{begin_counts, commit_priced, kept_of_ok, lets_go, never_kept}
use Rattle.txn_core.proofs.Going.{begin_fits, followed_on, goes_on, lifts, may_start}
use Rattle.txn_history.proofs.Telling.{is_kept_ok}
use Rattle.txn_core.proofs.Waiting.{opens_call, opens_gone}
use Rattle.txn_core.proofs.transaction.Transaction.start_commit.Goals as goal

pub returns-in-Err-clause-moves : goal.returns-in-Err-clause-moves
returns-in-Err-clause-moves g c = Moves-stops (lifts _ c.committer-call.result c.start_call.new.call c.args.self.now c.start_call.new.self _ _ _ _ _ _ _ (λ h. Nothing) c.start_call.ensures.job c.start_call.ensures.kept (λ h u. (begin_fits _ c.args.self.now c.committer-call.result c.args.parts _ h c.requires.start c.requires.parts c.committer-call.ensures u, may_start c.args.self.now c.committer-call.result c.args.parts h c.committer-call.ensures u)) (λ a. absurd (let no = sym c.requires.forward ∙ a in cc)) c.start_call.ensures.moves) c.stop.ensures.turn

pub returns-in-Ok-clause-moves : goal.returns-in-Ok-clause-moves
returns-in-Ok-clause-moves g c = goes_on _ c.committer-call.result c.start_call.new.call c.args.self.now c.start_call.new.self c.go_on.new.self _ _ _ _ _ _ _ _ (λ h. Nothing) c.start_call.ensures.job c.start_call.ensures.kept (λ h u. (begin_fits _ c.args.self.now c.committer-call.result c.args.parts _ h c.requires.start c.requires.parts c.committer-call.ensures u, may_start c.args.self.now c.committer-call.result c.args.parts h c.committer-call.ensures u)) (λ a. absurd (let no = sym c.requires.forward ∙ a in cc)) (rw c.in-Ok.is at c.start_call.ensures.moves) (c.go_on.ensures.takes_up _)

pub returns-in-Err-clause-counts : goal.returns-in-Err-clause-counts
returns-in-Err-clause-counts g c = begin_counts _ _ c.committer-call.result c.start_call.new.call c.args.self.now c.start_call.new.self c.stop.new.self _ c.requires.aside c.start_call.ensures.kept (lets_go _ c.start_call.new.call c.start_call.new.self c.stop.new.self (rw c.stop.ensures.state refl) (rw c.stop.ensures.state refl)) (never_kept _ _ c.stop.ensures.turn) (commit_priced _ _ c.args.self.now.commits.timestamp c.committer-call.result c.start_call.new.call c.args.parts c.committer-call.ensures.whole c.start_call.ensures.counts)

pub returns-in-Ok-clause-counts : goal.returns-in-Ok-clause-counts
returns-in-Ok-clause-counts g c = begin_counts _ _ c.committer-call.result c.start_call.new.call c.args.self.now c.start_call.new.self c.go_on.new.self _ c.requires.aside c.start_call.ensures.kept c.go_on.ensures.keeps (kept_of_ok _ (turn_of c.start_call.result) (rw c.in-Ok.is (is_kept_so c.in-Ok.progress))) (commit_priced _ _ c.args.self.now.commits.timestamp c.committer-call.result c.start_call.new.call c.args.parts c.committer-call.ensures.whole c.start_call.ensures.counts)

pub returns-in-Ok-clause-opens : goal.returns-in-Ok-clause-opens
returns-in-Ok-clause-opens g c = opens_call _ c.start_call.new.call _ c.start_call.new.self c.go_on.new.self _ _ _ (is_kept_ok c.in-Ok.progress) (rw c.in-Ok.is at c.start_call.ensures.opens) c.go_on.ensures.follows

pub returns-in-Err-clause-opens : goal.returns-in-Err-clause-opens
returns-in-Err-clause-opens g c = opens_gone _ c.start_call.new.call _ c.stop.new.self _ _ _ (rw c.stop.ensures.state refl) c.stop.ensures.turn c.start_call.ensures.opens

pub returns-in-Err-clause-job : goal.returns-in-Err-clause-job
returns-in-Err-clause-job g c = rw c.stop.ensures.turn tt

pub returns-in-Ok-clause-follows : goal.returns-in-Ok-clause-follows
returns-in-Ok-clause-follows g c = IfKept-all _ (followed_on (turn_of c.start_call.result) c.args.out.now c.args.self.now.commits c.start_call.new.self.commits c.go_on.new.self.commits (rw c.in-Ok.is (is_kept_ok c.in-Ok.progress)) (ap (λ t. t.commits) c.go_on.ensures.kept) c.start_call.ensures.follows)

pub returns-in-Err-clause-follows : goal.returns-in-Err-clause-follows
returns-in-Err-clause-follows g c = IfKept-stopped _ _ c.stop.ensures.turn
