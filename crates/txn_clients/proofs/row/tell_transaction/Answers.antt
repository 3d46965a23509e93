use Rattle.txn_clients.proofs.Accounting.{acted_account, acted_answers, heard_account}
use Rattle.txn_clients.proofs.Going.{stand_acted, stand_heard, stand_unmoved}
use Rattle.txn_clients.proofs.MovingRows.{stand_told, stand_unmoved as stand_still}
use Rattle.txn_clients.specs.declared.told.Told.TheVariants as tells
use Rattle.txn_clients.proofs.row.tell_transaction.Goals as goal

pub returns-in-Start-clause-goes : goal.returns-in-Start-clause-goes
returns-in-Start-clause-goes g c d m = stand_unmoved _ g.met.P.Plans.lawful c.args.told d m c.args.transaction.now c.args.out.now c.in-Start.is

pub returns-in_ok-progress-in-Act-clause-goes : goal.returns-in_ok-progress-in-Act-clause-goes
returns-in_ok-progress-in-Act-clause-goes g c d m = stand_acted _ c.args.told c.in-Act.act d m c.args.transaction.now c.perform.new.transaction c.args.out.now c.perform.new.out c.in_ok-progress-in-Act.progress c.called.result c.in-Act.is c.called.ensures c.in_ok-progress-in-Act.ensures.goes

pub returns-in_ok-progress-in-Heard-clause-goes : goal.returns-in_ok-progress-in-Heard-clause-goes
returns-in_ok-progress-in-Heard-clause-goes g c d m = stand_heard _ c.args.told c.in-Heard.arrival d m c.args.transaction.now c.hear.new.transaction c.args.out.now c.hear.new.out c.in_ok-progress-in-Heard.progress c.called-in-Heard.result c.in-Heard.is c.called-in-Heard.ensures c.in_ok-progress-in-Heard.ensures.goes

pub returns-in_ok-progress-in-Act-clause-account : goal.returns-in_ok-progress-in-Act-clause-account
returns-in_ok-progress-in-Act-clause-account g c = acted_account c.args.told c.in-Act.act c.args.transaction.now c.perform.new.transaction c.in_ok-progress-in-Act.progress c.called.result c.in-Act.is c.called.ensures c.in_ok-progress-in-Act.ensures.taken

pub returns-in_ok-progress-in-Act-clause-answers : goal.returns-in_ok-progress-in-Act-clause-answers
returns-in_ok-progress-in-Act-clause-answers g c = acted_answers c.args.told c.in-Act.act c.args.transaction.now c.perform.new.transaction c.in_ok-progress-in-Act.progress c.called.result c.in-Act.is c.called.ensures c.in_ok-progress-in-Act.ensures.taken

pub returns-in_ok-progress-in-Heard-clause-account : goal.returns-in_ok-progress-in-Heard-clause-account
returns-in_ok-progress-in-Heard-clause-account g c = heard_account c.args.told c.in-Heard.arrival c.args.transaction.now c.hear.new.transaction c.in_ok-progress-in-Heard.progress c.called-in-Heard.result c.in-Heard.is c.called-in-Heard.ensures c.in_ok-progress-in-Heard.ensures.heard

pub returns-in-Start-clause-moves : goal.returns-in-Start-clause-moves
returns-in-Start-clause-moves g c = stand_still _ c.args.told c.args.transaction.now c.args.out.now c.in-Start.is

pub returns-in_ok-progress-in-Act-clause-moves : goal.returns-in_ok-progress-in-Act-clause-moves
returns-in_ok-progress-in-Act-clause-moves g c = stand_told _ c.args.told (tells.Act c.in-Act.act) c.args.transaction.now c.perform.new.transaction c.args.out.now c.perform.new.out c.in_ok-progress-in-Act.progress c.called.result c.in-Act.is c.called.ensures c.in_ok-progress-in-Act.ensures.moves

pub returns-in_ok-progress-in-Heard-clause-moves : goal.returns-in_ok-progress-in-Heard-clause-moves
returns-in_ok-progress-in-Heard-clause-moves g c = stand_told _ c.args.told (tells.Heard c.in-Heard.arrival) c.args.transaction.now c.hear.new.transaction c.args.out.now c.hear.new.out c.in_ok-progress-in-Heard.progress c.called-in-Heard.result c.in-Heard.is c.called-in-Heard.ensures c.in_ok-progress-in-Heard.ensures.moves
