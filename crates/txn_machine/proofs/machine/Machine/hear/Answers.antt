use Rattle.std.proofs.Common.{refl}
use Rattle.txn_machine.specs.Running.{lists_of}
use Rattle.txn_machine.proofs.Telling.{leaves_same, tell_came}
use Rattle.txn_side.specs.Waiting.{HearsReply}
use Rattle.txn_machine.proofs.Staying.{came_waits}
use Rattle.txn_machine.proofs.machine.Machine.hear.Goals as goal

pub returns-clause-tells : goal.returns-clause-tells
returns-clause-tells g c = tell_came (lists_of g.S.ClientSide.sight c.args.self.now) _ _ (leaves_same _ _ refl refl refl) c.in_ok-turn.turn c.in_ok-turn.ensures.goes c.requires.even.stands c.came.ensures.outcome c.came.ensures.turn

pub returns-clause-waits : goal.returns-clause-waits
returns-clause-waits g c live = came_waits (HearsReply c.args.ticket) _ _ _ _ c.in_ok-turn.turn c.came.result.turn c.came.ensures.turn (c.in_ok-turn.ensures.waits live)
