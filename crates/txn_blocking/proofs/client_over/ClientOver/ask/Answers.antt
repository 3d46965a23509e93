use Rattle.std.proofs.Common.{subst}
use Rattle.std.specs.Prelude.{Ok as Right}
use Rattle.txn_blocking.proofs.Asking.{has_given}
use Rattle.txn_client.specs.Calls.{IsMadeOf}
use Rattle.txn_history.specs.Turn.{IfEnds, turn_of}
use Rattle.txn_tso.specs.Calling.{members}
use Rattle.txn_blocking.proofs.client_over.ClientOver.ask.Goals as goal

pub loop-at-init : goal.loop-at-init
loop-at-init g c = record {
  ready = c.in_ok-start.ensures.ready;
  numbers = c.in_ok-start.ensures.numbers;
  gives = λ h x i. c.in_ok-start.ensures.tells.job.given h (Right x) i;
}

pub loop-at-preserved : goal.loop-at-preserved
loop-at-preserved g c = record {
  ready = c.in_ok-tell.ensures.ready;
  numbers = c.in_ok-tell.ensures.numbers;
  gives = λ h x i. c.loop-at.invariant.gives h x ((c.in_ok-tell.ensures.tells members).job.given h (Right x) i);
}

pub returns-in-Done-clause-wanted : goal.returns-in-Done-clause-wanted
returns-in-Done-clause-wanted g c = has_given c.args.call.now c.loop-at.call c.now-now-in-loop-at.result c.in-Some.arrival c.in-Done.answer c.loop-at.invariant.gives (subst (λ p. IfEnds (turn_of (Right p)) (IsMadeOf c.loop-at.call.wanted c.now-now-in-loop-at.result c.in-Some.arrival)) c.in-Done.is c.in_ok-tell.ensures.made)
