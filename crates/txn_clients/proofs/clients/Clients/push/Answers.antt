use Rattle.std.proofs.Common.{◌∙◌, ◌≡◌, ◌-◌, ap, set}
use Rattle.txn_clients.specs.Clients.{rows_of}
use Rattle.txn_clients.proofs.Accounting.{told_rows}
use Rattle.txn_clients.proofs.Arriving.{pushes_from}
use Rattle.txn_clients.proofs.Pushing.{pushed}
use Rattle.txn_clients.proofs.Sounding.{runs_push}
use Rattle.txn_clients.specs.Waiting.{asks_of}
use Rattle.txn_history.specs.Posted.{Posted}
use Rattle.txn_clients.proofs.clients.Clients.push.Goals as goal

pub returns-clause-accounts : goal.returns-clause-accounts
returns-clause-accounts g c = told_rows c.args.told c.args.listener.at c.in_ok-answer.answer (rows_of c.args.self.now) (rows_of c.tell_row.new.self) (rows_of c.set_next_ask.new.self) (c.set_next_ask.ensures.rows ∙ c.in_ok-hand_out.ensures.rows) c.in_ok-answer.ensures.accounts

pub returns-clause-waits : goal.returns-clause-waits
returns-clause-waits g c trace rest heard knows sound =
    let sent : c.replace-sends.result.items ≡ c.tell_row.new.out.sends = ap (λ v. v.items) c.replace-sends.ensures.value ∙ ap (λ (o : Posted). o.sends) c.out.view_is in
    let ask : c.out.inside.next_ask ≡ c.tell_row.new.out.next_ask = ap (λ (o : Posted). o.next_ask) c.out.view_is in
    pushed _ g.met.P.Plans.lawful trace c.args.self.now c.tell_row.new.self c.hand_out.new.self c.set_next_ask.new.self c.args.told c.args.line c.args.listener.client c.args.listener.at rest c.in_ok-out.out c.tell_row.new.out c.in_ok-answer.answer c.replace-sends.result.items c.args.turn.now.posted.items c.hand_out.new.turn.posted.items c.args.turn.now.ended.items c.hand_out.new.turn.ended.items
    c.requires.line c.requires.place c.requires.ready.matched c.in_ok-out.ensures.is sent c.in_ok-answer.ensures.posts
    c.in_ok-answer.ensures.tells c.in_ok-answer.ensures.nexts c.in_ok-answer.ensures.crashed
    c.in_ok-hand_out.ensures.hands c.in_ok-hand_out.ensures.rows c.in_ok-hand_out.ensures.crashed
    c.set_next_ask.ensures.rows c.set_next_ask.ensures.nexts (c.set_next_ask.ensures.asks ∙ ap (λ n. set (asks_of c.hand_out.new.self) (c.args.line - 1) n) ask) c.set_next_ask.ensures.clients (ap (λ v. v.items) c.in_ok-hand_out.ensures.ended) heard knows sound

pub returns-clause-runs : goal.returns-clause-runs
returns-clause-runs g c = let told = c.in_ok-answer.ensures.tells in
    runs_push _ c.args.told (rows_of c.args.self.now) (rows_of c.set_next_ask.new.self) c.args.listener.at told.row _ _ c.in_ok-answer.answer c.requires.place (c.set_next_ask.ensures.rows ∙ c.in_ok-hand_out.ensures.rows ∙ told.rows) told.goes

pub returns-clause-leads : goal.returns-clause-leads
returns-clause-leads g c =
    let sent : c.replace-sends.result.items ≡ c.tell_row.new.out.sends = ap (λ v. v.items) c.replace-sends.ensures.value ∙ ap (λ (o : Posted). o.sends) c.out.view_is in
    let ask : c.out.inside.next_ask ≡ c.tell_row.new.out.next_ask = ap (λ (o : Posted). o.next_ask) c.out.view_is in
    pushes_from _ g.met.P.Plans.lawful c.args.self.now c.tell_row.new.self c.hand_out.new.self c.set_next_ask.new.self c.args.told c.args.line c.args.listener.client c.args.listener.at c.in_ok-out.out c.tell_row.new.out c.in_ok-answer.answer c.replace-sends.result.items c.args.turn.now.posted.items c.hand_out.new.turn.posted.items c.args.turn.now.ended.items c.hand_out.new.turn.ended.items
    c.requires.place c.requires.line c.in_ok-out.ensures.is sent c.in_ok-answer.ensures.posts
    c.in_ok-answer.ensures.tells c.in_ok-answer.ensures.moves c.in_ok-answer.ensures.nexts c.in_ok-answer.ensures.stamped c.in_ok-answer.ensures.kind
    c.in_ok-hand_out.ensures.hands c.in_ok-hand_out.ensures.exact c.in_ok-hand_out.ensures.rows
    c.set_next_ask.ensures.rows c.set_next_ask.ensures.nexts (c.set_next_ask.ensures.asks ∙ ap (λ n. set (asks_of c.hand_out.new.self) (c.args.line - 1) n) ask) c.set_next_ask.ensures.clients (ap (λ v. v.items) c.in_ok-hand_out.ensures.ended)
