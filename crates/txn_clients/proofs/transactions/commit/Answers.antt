use Rattle.std.proofs.Common.{ap, refl}
use Rattle.std.specs.Prelude.{Ok}
use Rattle.txn_commit.specs.Following.{IsFollowed}
use Rattle.txn_core.specs.Status.{allows_commit}
use Rattle.txn_history.specs.Turn.{IfKept-weaker, turn_of}
use Rattle.txn_kv.specs.declared.errors.Error.TheVariants.{OperationAfterCommitError}
use Rattle.txn_clients.proofs.Moving.{commits_move}
use Rattle.txn_clients.proofs.Rows.{posts_commit, told_call}
use Rattle.txn_clients.proofs.Showing.{notes_so}
use Rattle.txn_clients.proofs.Standing.{commits_goes}
use Rattle.txn_clients.proofs.Taking.{commit_barred, taken_commit}
use Rattle.txn_clients.specs.Accounts.{account_of}
use Rattle.txn_clients.specs.Failing.{KnowsAsk}
use Rattle.txn_lines.specs.declared.act.Act.TheVariants.{Commit}
use Rattle.txn_clients.proofs.transactions.commit.Goals as goal

pub returns-clause-told : goal.returns-clause-told
returns-clause-told g c = told_call _ c.commit.new.self c.args.out.now c.commit.new.out _ c.in_ok-progress.ensures.ready c.in_ok-progress.ensures.busy c.in_ok-progress.ensures.job
    (posts_commit (allows_commit c.args.transaction.now.status) c.in_ok-progress.ensures.refused c.in_ok-progress.ensures.moves)

pub returns-clause-taken : goal.returns-clause-taken
returns-clause-taken g c = taken_commit c.args.transaction.now c.commit.new.self (turn_of (Ok c.in_ok-progress.progress)) c.requires.idle c.requires.quiet c.in_ok-progress.ensures.refused c.in_ok-progress.ensures.status c.in_ok-progress.ensures.kept c.in_ok-progress.ensures.gives_up c.in_ok-progress.ensures.busy
    (c.if-not-tells_progress.ensures refl)

pub returns-clause-goes : goal.returns-clause-goes
returns-clause-goes g c = commits_goes _ g.met.P.Plans.lawful (λ trace. KnowsAsk trace c.args.out.now.line Commit (account_of c.args.transaction.now)) OperationAfterCommitError (allows_commit c.args.transaction.now.status) c.args.transaction.now c.commit.new.self c.args.out.now c.commit.new.out _
    (λ bars. notes_so c.args.out.now.line Commit (account_of c.args.transaction.now) _ (commit_barred c.args.transaction.now c.requires.quiet bars)) c.in_ok-progress.ensures.refused c.in_ok-progress.ensures.moves (ap (λ t. t.start) c.in_ok-progress.ensures.kept) (ap (λ t. t.options) c.in_ok-progress.ensures.kept) (ap (λ t. t.contents) c.in_ok-progress.ensures.kept) c.in_ok-progress.ensures.opens c.in_ok-progress.ensures.busy
    (IfKept-weaker _ (λ (f : IsFollowed c.args.out.now c.args.transaction.now.commits c.commit.new.self.commits). f.lost) c.in_ok-progress.ensures.follows)

pub returns-clause-moves : goal.returns-clause-moves
returns-clause-moves g c = commits_move _ Commit OperationAfterCommitError c.args.transaction.now c.commit.new.self c.args.out.now c.commit.new.out (turn_of (Ok c.in_ok-progress.progress)) tt c.requires.idle c.in_ok-progress.ensures.refused c.in_ok-progress.ensures.moves c.in_ok-progress.ensures.status c.in_ok-progress.ensures.kept c.in_ok-progress.ensures.gives_up c.in_ok-progress.ensures.opens (c.if-not-fits_loss.ensures refl)
    (IfKept-weaker _ (λ (f : IsFollowed c.args.out.now c.args.transaction.now.commits c.commit.new.self.commits). f.lost) c.in_ok-progress.ensures.follows) refl
