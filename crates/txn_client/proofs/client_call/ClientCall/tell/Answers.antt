use Rattle.std.proofs.Common.{refl}
use Rattle.txn_history.proofs.Telling.{Tells-idle}
use Rattle.txn_history.specs.Arrivals.{awaited_as, locked_told, tells_error, tells_failure, told_by, weight_told}
use Rattle.txn_plan.specs.Timing.{time_asked}
use Rattle.txn_client.specs.Calls.{called-lawful, stage_waits}
use Rattle.txn_client.specs.declared.client_call.Stage.TheVariants as stage
use Rattle.txn_client.proofs.Calls.{answer_ready, counts_on, goes_on, made_on, ready_on, tells_on, unheard_is, waits_not}
use Rattle.txn_client.proofs.client_call.ClientCall.tell.Goals as goal

pub returns-in-Asking-clause-tells : goal.returns-in-Asking-clause-tells
returns-in-Asking-clause-tells g c r = tells_on c.args.now (told_by c.args.arrival c.args.out.now r) c.in-Asking.call c.tell-turn.new.self c.args.self.now c.go_on.new.self c.args.out.now _ _ _ c.in-Asking.is c.requires.ready c.go_on.ensures (c.tell-turn.ensures.tells r)

pub returns-in-Asking-clause-goes : goal.returns-in-Asking-clause-goes
returns-in-Asking-clause-goes g c = goes_on c.args.now (time_asked.waits c.in-Asking.call (awaited_as c.args.arrival)) (stage_waits c.args.self.now.stage (awaited_as c.args.arrival)) c.in-Asking.call c.tell-turn.new.self c.args.self.now c.go_on.new.self c.args.out.now _ _ _ _ _ c.in-Asking.is c.requires.ready (λ w. rw c.in-Asking.is at w) (λ w. rw c.in-Asking.is w) c.go_on.ensures c.tell-turn.ensures.goes

pub returns-in-Asking-clause-counts : goal.returns-in-Asking-clause-counts
returns-in-Asking-clause-counts g c = counts_on c.args.now c.in-Asking.call c.tell-turn.new.self c.args.self.now c.go_on.new.self (tells_error c.args.arrival) (tells_failure c.args.arrival) (weight_told c.args.arrival) (locked_told c.args.arrival) c.args.out.now _ _ _ c.in-Asking.is c.requires.ready c.go_on.ensures c.tell-turn.ensures.counts

pub returns-in-Asking-clause-made : goal.returns-in-Asking-clause-made
returns-in-Asking-clause-made g c = made_on c.args.now c.args.arrival c.in-Asking.call c.tell-turn.new.self c.args.self.now c.go_on.new.self _ _ c.go_on.ensures c.tell-turn.ensures.answer

pub returns-in-Asking-clause-answer : goal.returns-in-Asking-clause-answer
returns-in-Asking-clause-answer g c = answer_ready _ c.args.now c.args.arrival c.in-Asking.call c.tell-turn.new.self c.args.self.now c.go_on.new.self _ _ c.requires.arrives c.go_on.ensures c.tell-turn.ensures.answer

pub returns-in-Asking-clause-ready : goal.returns-in-Asking-clause-ready
returns-in-Asking-clause-ready g c = ready_on c.args.now (time_asked.waits c.in-Asking.call (awaited_as c.args.arrival)) c.in-Asking.call c.tell-turn.new.self c.args.self.now c.go_on.new.self c.args.out.now _ _ _ _ _ c.in-Asking.is c.requires.ready c.go_on.ensures c.tell-turn.ensures.goes c.tell-turn.ensures.ready

pub returns-in-Fresh-clause-tells : goal.returns-in-Fresh-clause-tells
returns-in-Fresh-clause-tells g c r = Tells-idle called-lawful (λ a x w. waits_not c.args.self.now stage.Fresh c.in-Fresh.is (λ b y. y) a w) (unheard_is c.args.self.now stage.Fresh _ c.in-Fresh.is refl)

pub returns-in-Over-clause-tells : goal.returns-in-Over-clause-tells
returns-in-Over-clause-tells g c r = Tells-idle called-lawful (λ a x w. waits_not c.args.self.now stage.Over c.in-Over.is (λ b y. y) a w) (unheard_is c.args.self.now stage.Over _ c.in-Over.is refl)

pub returns-in-Stopped-clause-tells : goal.returns-in-Stopped-clause-tells
returns-in-Stopped-clause-tells g c r = Tells-idle called-lawful (λ a x w. waits_not c.args.self.now stage.Stopped c.in-Stopped.is (λ b y. y) a w) (unheard_is c.args.self.now stage.Stopped _ c.in-Stopped.is refl)
