use Rattle.std.proofs.Common.{◌≡◌, ◌∙◌, length, ap, rules}
use Rattle.txn_post.proofs.Mails.{slept_so}
use Rattle.txn_post.proofs.post.Post.sleep.Goals as goal

pub invariant_of-self-2 : goal.invariant_of-self-2
invariant_of-self-2 c =
    let many : c.len.result ≡ length c.make_room-2.new.items.items = search rules in
    slept_so _ c.args.self.now (record { ticket = c.args.ticket; at = c.args.at }) c.put_last-2.new.items.items c.put_last.new.items.items c.name.new.self c.len.result c.self.view_is c.requires c.self.invariant
    (rw (c.put_last-2.ensures, c.in_ok-make_room-2.ensures.items))
    (rw (c.put_last.ensures, c.in_ok-make_room.ensures.items))
    c.in_ok-name.ensures.ok
    (many ∙ ap length c.in_ok-make_room-2.ensures.items)
