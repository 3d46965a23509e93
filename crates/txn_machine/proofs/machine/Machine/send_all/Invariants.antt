use Rattle.std.proofs.Common.{◌≡◌, ◌++◌, map}
use Rattle.txn_side.specs.Sight.{ticket_in}
use Rattle.txn_machine.specs.Lists.{all_posted, with_mail}
use Rattle.txn_machine.specs.Running.{CanPost, lists_of}
use Rattle.txn_machine.proofs.machine.Machine.send_all.Given as goal

abbrev pub invariant-loop-posting : goal.invariant-loop-posting
invariant-loop-posting g l = record {
  posts : all_posted l.at l.posting-iterator.rest.items l.self.post ≡ all_posted l.at l.initial.posting-iterator.rest.items l.fn.self.post;
  lists : with_mail l.fn.self.post (lists_of g.S.ClientSide.sight l.self) ≡ lists_of g.S.ClientSide.sight l.fn.self;
  tickets : l.tickets ++ map ticket_in l.posting-iterator.rest.items ≡ map ticket_in l.initial.posting-iterator.rest.items;
  clients : l.self.clients ≡ l.fn.self.clients;
  can : CanPost l.posting-iterator.rest.items l.self.post (g.S.ClientSide.sight l.fn.self.clients).nexts;
}
