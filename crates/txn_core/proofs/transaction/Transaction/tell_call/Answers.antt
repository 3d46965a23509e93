use Rattle.std.proofs.Common.{◌∙◌, refl}
use Rattle.txn_history.specs.Moves.{Moves-stops}
use Rattle.txn_history.specs.Turn.{IfKept-all, IfKept-stopped, turn_of}
use Rattle.txn_commit.proofs.Counting.{is_kept_so}
use Rattle.txn_commit.proofs.Posting.{hears_told}
use Rattle.txn_core.proofs.Counting.{kept_of_ok, lets_go, never_kept, open_counts}
use Rattle.txn_core.proofs.Going.{followed_on, goes_on, lifts}
use Rattle.std.proofs.Common.{ap}
use Rattle.txn_history.proofs.Telling.{is_kept_ok}
use Rattle.txn_core.proofs.Waiting.{expects_call, expects_gone, goes_call, goes_gone}
use Rattle.txn_core.proofs.transaction.Transaction.tell_call.Goals as goal

pub returns-in-Err-clause-moves : goal.returns-in-Err-clause-moves
returns-in-Err-clause-moves g c r = Moves-stops (lifts _ c.args.call c.tell_open.new.call c.args.self.now c.tell_open.new.self _ _ _ _ _ _ _ (hears_told c.args.arrival c.args.out.now r) c.tell_open.ensures.job c.tell_open.ensures.kept (λ h u. u) (λ a. c.tell_open.ensures.back) (c.tell_open.ensures.moves r)) c.stop.ensures.turn

pub returns-in-Ok-clause-moves : goal.returns-in-Ok-clause-moves
returns-in-Ok-clause-moves g c r = goes_on _ c.args.call c.tell_open.new.call c.args.self.now c.tell_open.new.self c.go_on.new.self _ _ _ _ _ _ _ _ (hears_told c.args.arrival c.args.out.now r) c.tell_open.ensures.job c.tell_open.ensures.kept (λ h u. u) (λ a. c.tell_open.ensures.back) (rw c.in-Ok.is at (c.tell_open.ensures.moves r)) (c.go_on.ensures.takes_up _)

pub returns-in-Err-clause-counts : goal.returns-in-Err-clause-counts
returns-in-Err-clause-counts g c = open_counts _ _ c.args.call c.tell_open.new.call c.args.self.now c.tell_open.new.self c.stop.new.self _ c.tell_open.ensures.kept (lets_go _ c.tell_open.new.call c.tell_open.new.self c.stop.new.self (rw c.stop.ensures.state refl) (rw c.stop.ensures.state refl)) (never_kept _ _ c.stop.ensures.turn) c.tell_open.ensures.counts

pub returns-in-Ok-clause-counts : goal.returns-in-Ok-clause-counts
returns-in-Ok-clause-counts g c = open_counts _ _ c.args.call c.tell_open.new.call c.args.self.now c.tell_open.new.self c.go_on.new.self _ c.tell_open.ensures.kept c.go_on.ensures.keeps (kept_of_ok _ (turn_of c.tell_open.result) (rw c.in-Ok.is (is_kept_so c.in-Ok.progress))) c.tell_open.ensures.counts

pub returns-in-Ok-clause-goes : goal.returns-in-Ok-clause-goes
returns-in-Ok-clause-goes g c = goes_call g.P.Plans.ways c.args.call c.tell_open.new.call c.args.self.now c.tell_open.new.self c.go_on.new.self _ _ _ _ _ _ _ _ (is_kept_ok c.in-Ok.progress) c.requires.runs c.tell_open.ensures.kept (rw c.in-Ok.is at c.tell_open.ensures.goes) c.go_on.ensures.follows

pub returns-in-Err-clause-goes : goal.returns-in-Err-clause-goes
returns-in-Err-clause-goes g c = goes_gone g.P.Plans.ways c.args.call c.tell_open.new.call c.args.self.now c.stop.new.self _ _ _ _ _ _ _ (rw c.in-Err.is refl) c.stop.ensures.turn c.requires.runs (rw c.stop.ensures.state refl) c.tell_open.ensures.goes

pub returns-in-Ok-clause-expects : goal.returns-in-Ok-clause-expects
returns-in-Ok-clause-expects g c = expects_call g.P.Plans.ways c.args.call c.tell_open.new.call c.tell_open.new.self c.go_on.new.self _ _ _ _ _ (is_kept_ok c.in-Ok.progress) c.go_on.ensures.follows c.tell_open.ensures.expects

pub returns-in-Err-clause-expects : goal.returns-in-Err-clause-expects
returns-in-Err-clause-expects g c = expects_gone g.P.Plans.ways c.args.call c.tell_open.new.call c.stop.new.self _ _ _ (rw c.stop.ensures.state refl) c.tell_open.ensures.expects

pub returns-in-Ok-clause-commits : goal.returns-in-Ok-clause-commits
returns-in-Ok-clause-commits g c other out = ap (λ t. t.commits) c.go_on.ensures.kept ∙ c.tell_open.ensures.commits other out

pub returns-in-Err-clause-commits : goal.returns-in-Err-clause-commits
returns-in-Err-clause-commits g c other out = ap (λ t. t.commits) c.stop.ensures.state ∙ c.tell_open.ensures.commits other out

pub returns-in-Err-clause-job : goal.returns-in-Err-clause-job
returns-in-Err-clause-job g c = rw c.stop.ensures.turn tt

pub returns-in-Ok-clause-follows : goal.returns-in-Ok-clause-follows
returns-in-Ok-clause-follows g c h f = IfKept-all _ (followed_on (turn_of c.tell_open.result) c.args.out.now _ c.tell_open.new.self.commits c.go_on.new.self.commits (rw c.in-Ok.is (is_kept_ok c.in-Ok.progress)) (ap (λ t. t.commits) c.go_on.ensures.kept) (c.tell_open.ensures.follows h c.requires.runs f.under_way.fits))

pub returns-in-Err-clause-follows : goal.returns-in-Err-clause-follows
returns-in-Err-clause-follows g c h f = IfKept-stopped _ _ c.stop.ensures.turn
