use Rattle.std.proofs.Common.{inl}
use Rattle.txn_history.specs.Turn.{turn_of, IfKept-all, IfKept-stopped}
use Rattle.txn_history.proofs.Telling.{turn_stopped}
use Rattle.txn_settle.proofs.Searching.{from_less, knowing, stopped, waiting}
use Rattle.txn_settle.proofs.key_search.KeySearch.hear.Goals as goal

pub returns-in_err-turn-clause-on : goal.returns-in_err-turn-clause-on
returns-in_err-turn-clause-on g c = rw (turn_stopped c.from_residual.result c.from_residual.ensures.0) (stopped g.T.Place.is_of c.requires.stopped)

pub returns-in_err-turn-clause-client : goal.returns-in_err-turn-clause-client
returns-in_err-turn-clause-client g c = IfKept-stopped (turn_of c.from_residual.result) _ (turn_stopped c.from_residual.result c.from_residual.ensures.0)

pub returns-in-Waiting-clause-on : goal.returns-in-Waiting-clause-on
returns-in-Waiting-clause-on g c = rw (c.in_ok-turn.was, c.in-Waiting.is, c.wait.ensures.turn) (knowing g.T.Place.is_of (λ h k. k.0) (waiting g.T.Place.is_of c.requires.place c.wait.ensures.holds c.wait.ensures.state))

pub returns-in-Waiting-clause-client : goal.returns-in-Waiting-clause-client
returns-in-Waiting-clause-client g c = IfKept-all (turn_of c.wait.result) (inl (g.met.C.PdClient.looked_same _))

pub returns-in-Done-clause-on : goal.returns-in-Done-clause-on
returns-in-Done-clause-on g c = rw (c.in_ok-turn.was, c.in-Done.is) (from_less g.T.Place.is_of (λ h k. k.1) (λ f. f) c.learn.ensures.on)
