use Rattle.txn_tso.specs.Calling.{members}
use Rattle.std.proofs.Common.{subst, sym}
use Rattle.std.specs.Prelude.{IfSome, Ok}
use Rattle.txn_history.specs.Turn.{turn_of}
use Rattle.txn_clients.specs.Accounts.{AnswersNew}
use Rattle.txn_clients.proofs.Accounting.{begun_answer, none_answer, wants_still}
use Rattle.txn_clients.proofs.Going.{call_heard, call_started, call_unmoved, made_new}
use Rattle.txn_clients.proofs.MovingRows.{ask_heard, ask_started, ask_unmoved}
use Rattle.txn_clients.proofs.row.tell_call.Goals as goal

pub returns-clause-posts : goal.returns-clause-posts
returns-clause-posts g c = let t = c.in_ok-progress-in-Heard.ensures.tells members in record { sends = t.moves.sends; pushed = t.moves.pushed; numbered = t.moves.numbered }

pub returns-in-Start-clause-wants : goal.returns-in-Start-clause-wants
returns-in-Start-clause-wants g c = wants_still c.args.call.now c.start.new.self c.in_ok-progress-in-Start.ensures.tells.job c.requires.wants

pub returns-clause-wants : goal.returns-clause-wants
returns-clause-wants g c = wants_still c.args.call.now c.tell.new.self (c.in_ok-progress-in-Heard.ensures.tells members).job c.requires.wants

pub returns-in-Start-clause-begins : goal.returns-in-Start-clause-begins
returns-in-Start-clause-begins g c = subst (λ o. IfSome o AnswersNew) (sym c.asked.ensures) (none_answer (turn_of (Ok c.in_ok-progress-in-Start.progress)) c.in_ok-progress-in-Start.ensures.answer)

pub returns-clause-begins : goal.returns-clause-begins
returns-clause-begins g c = subst (λ o. IfSome o AnswersNew) (sym c.asked-in-Heard.ensures) (begun_answer c.args.call.now c.args.now c.in-Heard.arrival (turn_of (Ok c.in_ok-progress-in-Heard.progress)) c.requires.wants c.in_ok-progress-in-Heard.ensures.made)

pub returns-in-Start-clause-goes : goal.returns-in-Start-clause-goes
returns-in-Start-clause-goes g c d b = call_started _ c.args.told d b c.args.call.now c.start.new.self c.args.out.now c.start.new.out c.args.pd.now c.start.new.pd c.in_ok-progress-in-Start.progress c.asked.result c.in-Start.is c.asked.ensures
    c.in_ok-progress-in-Start.ensures.tells c.in_ok-progress-in-Start.ensures.goes

pub returns-in-Act-clause-goes : goal.returns-in-Act-clause-goes
returns-in-Act-clause-goes g c d b = call_unmoved _ g.met.P.Plans.lawful c.args.told c.in-Act.field-0 d b c.args.call.now c.args.out.now c.in-Act.is

pub returns-clause-goes : goal.returns-clause-goes
returns-clause-goes g c d b = call_heard _ c.args.told d b c.in-Heard.arrival c.args.call.now c.tell.new.self c.args.out.now c.tell.new.out c.args.pd.now c.tell.new.pd c.in_ok-progress-in-Heard.progress c.asked-in-Heard.result c.in-Heard.is c.asked-in-Heard.ensures
    c.in_ok-progress-in-Heard.ensures.tells c.in_ok-progress-in-Heard.ensures.goes

pub returns-clause-new : goal.returns-clause-new
returns-clause-new g c = made_new c.in_ok-progress-in-Heard.progress c.args.call.now.wanted c.args.now c.in-Heard.arrival c.asked-in-Heard.result c.asked-in-Heard.ensures c.in_ok-progress-in-Heard.ensures.made

pub returns-in-Start-clause-moves : goal.returns-in-Start-clause-moves
returns-in-Start-clause-moves g c d b = ask_started g.P.Plans.ways c.args.told d b c.args.call.now c.start.new.self c.args.out.now c.start.new.out c.in_ok-progress-in-Start.progress c.asked.result c.in-Start.is c.asked.ensures c.in_ok-progress-in-Start.ensures.tells

pub returns-in-Act-clause-moves : goal.returns-in-Act-clause-moves
returns-in-Act-clause-moves g c d b = ask_unmoved g.P.Plans.ways c.args.told c.in-Act.field-0 d b c.args.call.now c.args.out.now c.in-Act.is

pub returns-clause-moves : goal.returns-clause-moves
returns-clause-moves g c d b = ask_heard g.P.Plans.ways c.args.told d b c.in-Heard.arrival c.args.call.now c.tell.new.self c.args.out.now c.tell.new.out c.in_ok-progress-in-Heard.progress c.asked-in-Heard.result c.in-Heard.is c.asked-in-Heard.ensures c.in_ok-progress-in-Heard.ensures.tells
