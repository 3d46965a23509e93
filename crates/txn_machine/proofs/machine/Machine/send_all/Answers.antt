use Rattle.std.proofs.Common.{subst}
use Rattle.txn_machine.specs.Running.{CanPost}
use Rattle.txn_machine.proofs.Numbers.{can_next, sent_posts, sent_rest, sent_tickets}
use Rattle.txn_machine.proofs.machine.Machine.send_all.Goals as goal

pub send_one-requires : goal.send_one-requires
send_one-requires g c = can_next c.in-Some.posting c.next.new.self.rest.items c.loop-posting.self.post (g.S.ClientSide.sight c.args.self.now.clients).nexts (subst (λ ps. CanPost ps c.loop-posting.self.post (g.S.ClientSide.sight c.args.self.now.clients).nexts) c.in-Some.ensures.steps.0 c.loop-posting.invariant.can)

pub loop-posting-preserved : goal.loop-posting-preserved
loop-posting-preserved g c = record {
  posts = sent_posts _ c.loop-posting.posting-iterator.rest.items c.in-Some.posting c.next.new.self.rest.items c.loop-posting.self.post c.send_one.new.post _ c.in-Some.ensures.steps.0 c.in_ok-ticket.ensures.posted c.loop-posting.invariant.posts;
  lists = c.loop-posting.invariant.lists;
  tickets = sent_tickets c.loop-posting.posting-iterator.rest.items c.in-Some.posting c.next.new.self.rest.items c.loop-posting.tickets _ _ c.in_ok-ticket.ticket c.in-Some.ensures.steps.0 c.in_ok-ticket.ensures.ticket c.in_ok-push.ensures.ok c.loop-posting.invariant.tickets;
  clients = c.loop-posting.invariant.clients;
  can = sent_rest _ c.loop-posting.posting-iterator.rest.items c.in-Some.posting c.next.new.self.rest.items c.loop-posting.self.post c.send_one.new.post _ c.in-Some.ensures.steps.0 c.in_ok-ticket.ensures.posted c.loop-posting.invariant.can;
}
