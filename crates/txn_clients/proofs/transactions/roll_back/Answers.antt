use Rattle.std.proofs.Common.{◌∙◌, ap, refl, sym}
use Rattle.std.specs.Prelude.{Ok}
use Rattle.txn_commit.specs.Following.{undetermined}
use Rattle.txn_core.specs.Status.{allows_rollback}
use Rattle.txn_history.specs.Turn.{turn_of}
use Rattle.txn_kv.specs.declared.errors.Error.TheVariants.{OperationAfterCommitError}
use Rattle.txn_clients.proofs.Rows.{posts_rollback, told_call}
use Rattle.txn_clients.proofs.Standing.{rollbacks_goes}
use Rattle.txn_clients.specs.Accounts.{account_of}
use Rattle.txn_clients.specs.Failing.{KnowsAsk}
use Rattle.txn_lines.specs.declared.act.Act.TheVariants.{Rollback}
use Rattle.txn_clients.proofs.Showing.{notes_so}
use Rattle.txn_clients.proofs.Taking.{rollback_barred, taken_rollback}
use Rattle.txn_clients.proofs.Moving.{rollbacks_move}
use Rattle.txn_clients.proofs.transactions.roll_back.Goals as goal

pub returns-clause-told : goal.returns-clause-told
returns-clause-told g c = told_call _ c.rollback.new.self c.args.out.now c.rollback.new.out _ c.in_ok-progress.ensures.ready c.in_ok-progress.ensures.busy c.in_ok-progress.ensures.job
    (posts_rollback (allows_rollback c.args.transaction.now.status) (undetermined c.args.transaction.now.commits) c.in_ok-progress.ensures.refused c.in_ok-progress.ensures.undetermined c.in_ok-progress.ensures.moves)

pub returns-clause-taken : goal.returns-clause-taken
returns-clause-taken g c = taken_rollback c.args.transaction.now c.rollback.new.self (turn_of (Ok c.in_ok-progress.progress)) c.requires.idle c.requires.quiet c.in_ok-progress.ensures.refused c.in_ok-progress.ensures.undetermined c.in_ok-progress.ensures.status c.in_ok-progress.ensures.kept c.in_ok-progress.ensures.gives_up c.in_ok-progress.ensures.busy
    (λ says. sym c.status.ensures ∙ c.if-not-fits_status.ensures refl says ∙ c.status-before.ensures)

pub returns-clause-goes : goal.returns-clause-goes
returns-clause-goes g c = rollbacks_goes _ g.met.P.Plans.lawful (λ trace. KnowsAsk trace c.args.out.now.line Rollback (account_of c.args.transaction.now)) OperationAfterCommitError (allows_rollback c.args.transaction.now.status) (undetermined c.args.transaction.now.commits) c.args.transaction.now c.rollback.new.self c.args.out.now c.rollback.new.out _
    (λ bars. notes_so c.args.out.now.line Rollback (account_of c.args.transaction.now) _ (rollback_barred c.args.transaction.now c.requires.quiet bars)) (λ trace k. k.1) refl c.in_ok-progress.ensures.refused c.in_ok-progress.ensures.undetermined c.in_ok-progress.ensures.moves (ap (λ t. t.start) c.in_ok-progress.ensures.kept) (ap (λ t. t.options) c.in_ok-progress.ensures.kept) (ap (λ t. t.contents) c.in_ok-progress.ensures.kept) c.in_ok-progress.ensures.opens c.in_ok-progress.ensures.busy c.requires.idle c.in_ok-progress.ensures.gives_up (c.if-not-fits_loss.ensures refl) c.in_ok-progress.ensures.commits

pub returns-clause-moves : goal.returns-clause-moves
returns-clause-moves g c = rollbacks_move _ Rollback OperationAfterCommitError c.args.transaction.now c.rollback.new.self c.args.out.now c.rollback.new.out (turn_of (Ok c.in_ok-progress.progress)) tt c.requires.idle c.in_ok-progress.ensures.refused c.in_ok-progress.ensures.undetermined c.in_ok-progress.ensures.moves c.in_ok-progress.ensures.status c.in_ok-progress.ensures.kept c.in_ok-progress.ensures.gives_up c.in_ok-progress.ensures.opens c.in_ok-progress.ensures.busy (c.if-not-fits_loss.ensures refl) c.in_ok-progress.ensures.commits
