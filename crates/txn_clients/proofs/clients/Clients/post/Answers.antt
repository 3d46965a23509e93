use Rattle.std.proofs.Common.{refl}
use Rattle.txn_clients.proofs.Places.{both_ok, posts_one}
use Rattle.txn_clients.proofs.clients.Clients.post.Goals as goal

pub returns-clause-advances : goal.returns-clause-advances
returns-clause-advances g c = both_ok c.raise.result
    (λ rows nexts. posts_one c.args.self.now c.raise.new.self c.args.turn.now (record { posted = c.push.new.self; ended = c.args.turn.now.ended }) c.args.posting c.args.line c.in_ok-push.ensures.items refl c.requires.own c.requires.beat c.requires.live c.requires.next c.requires.askers c.requires.lines c.raise.ensures.clients rows nexts)
    c.raise.ensures.rows c.raise.ensures.nexts
