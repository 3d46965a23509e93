use Rattle.txn_machine.proofs.Standings.{new_stands}
use Rattle.txn_machine.proofs.Takings.{new_taken}
use Rattle.txn_machine.proofs.HeardLines.{new_heard}
use Rattle.txn_machine.proofs.OriginLines.{new_arisen}
use Rattle.txn_machine.proofs.machine.Machine.new.Goals as goal

pub returns-clause-stands : goal.returns-clause-stands
returns-clause-stands g c = new_stands g.S.ClientSide.sight g.S.ClientSide.ready g.S.ClientSide.waits _ c.in_ok-new.ensures c.new-2.ensures c.requires.nobody c.new-3.ensures.items c.new-4.ensures.items c.new-5.ensures.items c.new-6.ensures c.requires.ready (g.S.ClientSide.nobody_waits c.args.clients c.requires.nobody)

pub returns-clause-taken : goal.returns-clause-taken
returns-clause-taken g c = new_taken g.S.ClientSide.account _ c.new-3.ensures.items c.new-4.ensures.items c.requires.accounts

pub returns-clause-heard : goal.returns-clause-heard
returns-clause-heard g c = new_heard g.S.ClientSide.rests g.S.ClientSide.fails _ (λ t owed. g.S.ClientSide.nobody_rests c.args.clients c.requires.nobody t owed)

pub returns-clause-arisen : goal.returns-clause-arisen
returns-clause-arisen g c = new_arisen g.S.ClientSide.arises g.S.ClientSide.holds _ (g.S.ClientSide.nobody_arises c.args.clients c.requires.ready c.requires.nobody)
