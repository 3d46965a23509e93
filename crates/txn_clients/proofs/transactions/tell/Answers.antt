use Rattle.std.proofs.Common.{ap}
use Rattle.txn_tso.specs.Calling.{members}
use Rattle.txn_clients.proofs.Rows.{posts_moves, told_heard}
use Rattle.txn_history.specs.Turn.{turn_of}
use Rattle.txn_clients.proofs.Taking.{heard_so}
use Rattle.txn_clients.proofs.Standing.{hears_goes, stays_open}
use Rattle.txn_clients.proofs.Moving.{heard_moves}
use Rattle.txn_clients.proofs.transactions.tell.Goals as goal

pub returns-clause-told : goal.returns-clause-told
returns-clause-told g c = told_heard _ _ _ c.tell.new.self c.args.out.now c.tell.new.out _ _ _ c.tell.ensures.goes c.tell.ensures.ready c.tell.ensures.job (posts_moves (c.tell.ensures.tells members))

pub returns-clause-heard : goal.returns-clause-heard
returns-clause-heard g c = heard_so c.args.transaction.now c.tell.new.self (turn_of c.tell.result) c.requires.quiet c.tell.ensures.status c.tell.ensures.kept c.tell.ensures.gives_up c.tell.ensures.deaf
    (stays_open _ g.met.P.Plans.lawful _ c.args.transaction.now c.tell.new.self c.args.out.now c.tell.new.out c.args.pd.now c.tell.new.pd _ c.requires.ready c.tell.ensures.goes)

pub returns-clause-goes : goal.returns-clause-goes
returns-clause-goes g c = hears_goes _ g.met.P.Plans.lawful c.args.arrival c.args.transaction.now c.tell.new.self c.args.out.now c.tell.new.out c.args.pd.now c.tell.new.pd _
    c.tell.ensures.tells (ap (λ t. t.start) c.tell.ensures.kept) (ap (λ t. t.options) c.tell.ensures.kept) (ap (λ t. t.contents) c.tell.ensures.kept) c.tell.ensures.goes c.tell.ensures.expects c.tell.ensures.commits c.tell.ensures.deaf c.tell.ensures.gives_up c.requires.ready c.tell.ensures.follows

pub returns-clause-moves : goal.returns-clause-moves
returns-clause-moves g c = λ says alone. heard_moves _ c.args.arrival _ c.args.transaction.now c.tell.new.self c.args.out.now c.tell.new.out c.args.pd.now c.tell.new.pd (turn_of c.tell.result) c.tell.ensures.goes c.tell.ensures.tells c.requires.quiet c.tell.ensures.status c.tell.ensures.kept c.tell.ensures.gives_up c.tell.ensures.deaf says c.tell.ensures.follows alone
