use Rattle.txn_history.proofs.Telling.{turn_stopped}
use Rattle.txn_stores.proofs.Searching.{from_less, stopped, waiting}
use Rattle.txn_stores.proofs.store_search.StoreSearch.hear.Goals as goal

pub returns-in_err-turn-clause-on : goal.returns-in_err-turn-clause-on
returns-in_err-turn-clause-on g c = rw (turn_stopped c.from_residual.result c.from_residual.ensures.0) (stopped c.requires.stopped)

pub returns-in-Waiting-clause-on : goal.returns-in-Waiting-clause-on
returns-in-Waiting-clause-on g c = rw (c.in_ok-turn.was, c.in-Waiting.is, c.wait.ensures.turn) (waiting c.requires.query c.wait.ensures.holds (λ h k. k.0))

pub returns-in-Done-clause-on : goal.returns-in-Done-clause-on
returns-in-Done-clause-on g c = rw (c.in_ok-turn.was, c.in-Done.is) (from_less (λ h k. k.1) (c.learn.ensures.on c.args.out.now))
