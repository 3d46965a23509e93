use Rattle.txn_history.specs.Moves.{Moves-stopped}
use Rattle.txn_commit.proofs.Stages.{asking_elsewhere, asks_on, ends_on, over_elsewhere, stopped_elsewhere, stopped_is}
use Rattle.std.proofs.Common.{refl}
use Rattle.txn_commit.proofs.Going.{opens_asks, opens_over, opens_stopped}
use Rattle.txn_commit.proofs.committer.CommitterCall.ask.Goals as goal

pub returns-then-not-self-clause-moves : goal.returns-then-not-self-clause-moves
returns-then-not-self-clause-moves g c c' = ends_on _ _ _ _ _ _ _ _ c.end.ensures.state c.end.ensures.turn (λ h f k. (c.if-not-self.true, k.keys))

pub returns-in_err-call-clause-moves : goal.returns-in_err-call-clause-moves
returns-in_err-call-clause-moves g c c' = Moves-stopped (stopped_is _ c.from_residual.ensures.0) c.in_err-call.ensures.err

pub returns-clause-moves : goal.returns-clause-moves
returns-clause-moves g c c' = rw (c.go-2.ensures.state, c.go.ensures.state) (asks_on _ c.args.self.now c.go-2.new.self.width c.in_ok-call.call c' c.args.out.now c.begin.new.out c.in_ok-call.ensures.ok)

pub returns-then-not-self-clause-opens : goal.returns-then-not-self-clause-opens
returns-then-not-self-clause-opens g c = opens_over _ c.args.self.now c.end.new.self _ _ _ c.end.ensures.state c.end.ensures.turn

pub returns-in_err-call-clause-opens : goal.returns-in_err-call-clause-opens
returns-in_err-call-clause-opens g c = opens_stopped _ c.args.self.now c.go.new.self _ _ _ c.go.ensures.state (stopped_is _ c.from_residual.ensures.0) c.in_err-call.ensures.err

pub returns-clause-opens : goal.returns-clause-opens
returns-clause-opens g c = opens_asks _ c.go-2.new.self c.in_ok-call.call _ _ (rw c.go-2.ensures.state refl) c.in_ok-call.ensures.ok

pub returns-then-not-self-clause-on : goal.returns-then-not-self-clause-on
returns-then-not-self-clause-on g c p e = over_elsewhere p (rw c.end.ensures.state refl) e

pub returns-in_err-call-clause-on : goal.returns-in_err-call-clause-on
returns-in_err-call-clause-on g c p e = stopped_elsewhere p (rw c.go.ensures.state refl) e

pub returns-clause-on : goal.returns-clause-on
returns-clause-on g c p e = asking_elsewhere c.in_ok-call.call p (rw c.go-2.ensures.state refl) e
