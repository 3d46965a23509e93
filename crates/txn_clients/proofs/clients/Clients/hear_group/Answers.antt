use Rattle.txn_side.specs.Steps.{GivesTo}
use Rattle.txn_clients.specs.Clients.{sight_of}
use Rattle.txn_clients.specs.Groups.{coming_as, over_by}
use Rattle.txn_clients.proofs.Naming.{named_all}
use Rattle.txn_clients.proofs.Whole.{group_whole, told_group}
use Rattle.txn_clients.proofs.clients.Clients.hear_group.Goals as goal

pub returns : goal.returns
returns g c =
    told_group _ c.args.self.now c.send_group.new.self c.args.client c.send_group.new.turn c.requires.ready c.args.reply
    (λ u out. named_all (GivesTo (sight_of c.args.self.now) u (coming_as c.args.reply)) c.new-turn.result c.take_group.new.turn c.send_group.new.turn c.new-turn.ensures.ended (c.in_ok-take_group.ensures.names u out) c.in_ok-send_group.ensures.ended)
    (group_whole _ c.args.self.now c.take_group.new.self c.send_group.new.self c.new-turn.result c.take_group.new.turn c.send_group.new.turn c.args.client c.new-turn.ensures.posted c.new-turn.ensures.ended c.requires.ready
    c.in_ok-take_group.ensures.advances c.in_ok-take_group.ensures.ready c.in_ok-take_group.ensures.runs
    c.in_ok-send_group.ensures.advances c.in_ok-send_group.ensures.ended c.in_ok-send_group.ensures.rows c.in_ok-send_group.ensures.waits c.in_ok-send_group.ensures.leads
    (over_by c.args.reply) c.in_ok-take_group.ensures.waits c.in_ok-take_group.ensures.accounts c.in_ok-take_group.ensures.leads c.in_ok-send_group.ensures.groups)
