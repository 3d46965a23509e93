use Rattle.std.specs.Prelude.{is_some}
use Rattle.txn_blocking.proofs.Ending.{commits_at_once, commits_later}
use Rattle.txn_commit.specs.Parts.{parts_of}
use Rattle.txn_blocking.proofs.client_over.ClientOver.run_commit.Goals as goal

pub returns-in-Waiting-clause-status : goal.returns-in-Waiting-clause-status
returns-in-Waiting-clause-status g c =
    commits_later c.args.transaction.now c.commit.new.self c.finish.new.transaction (is_some (parts_of c.args.transaction.now.contents)) c.in_ok-commit.field-0 c.finish.result c.in-Waiting.is c.requires.idle c.in_ok-commit.ensures.gives_up c.in_ok-commit.ensures.status c.finish.ensures.status

pub returns-clause-status : goal.returns-clause-status
returns-clause-status g c =
    commits_at_once c.args.transaction.now c.commit.new.self (is_some (parts_of c.args.transaction.now.contents)) c.in_ok-commit.field-0 c.in-Done.answer c.in-Done.is c.requires.idle c.in_ok-commit.ensures.gives_up c.in_ok-commit.ensures.status
