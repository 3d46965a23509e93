use Rattle.std.proofs.Common.{Some}
use Rattle.std.proofs.lemmas.List.Elements.{All-pop}
use Rattle.txn_blocking.proofs.Timestamps.{MayBeTold, may_be_told}
use Rattle.txn_blocking.proofs.client_over.first.Goals as goal

pub returns-in-Some : goal.returns-in-Some
returns-in-Some c =
    let all = may_be_told c.args.times.now c.args.oracle.now c.in_ok-take_reply.field-0.items c.in_ok-take_reply.ensures.answers c.in_ok-take_reply.ensures.in_range in
    (All-pop MayBeTold c.in_ok-take_reply.field-0.items c.pop.new.self.items (Some (c.in-Some.field-0-0, c.in-Some.answer)) c.in-Some.ensures.items all).1
