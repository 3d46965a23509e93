use Rattle.std.proofs.Common.{refl}
use Rattle.txn_clients.proofs.transactions.hear.Goals as goal

pub returns-clause-told : goal.returns-clause-told
returns-clause-told g c = c.in_ok-progress.ensures.told

pub returns-clause-heard : goal.returns-clause-heard
returns-clause-heard g c = c.in_ok-progress.ensures.heard

pub returns-clause-goes : goal.returns-clause-goes
returns-clause-goes g c = c.in_ok-progress.ensures.goes

pub returns-clause-moves : goal.returns-clause-moves
returns-clause-moves g c = c.in_ok-progress.ensures.moves (c.if-not-fits_loss.ensures refl) c.if-not-is_alone.ensures
