use Rattle.std.proofs.lemmas.Result.{IfOk-weaker}
use Rattle.txn_clients.proofs.clients.Clients.tell_group.Goals as goal

pub returns-in-Reply : goal.returns-in-Reply
returns-in-Reply g c = rw c.in-Reply.is (IfOk-weaker c.hear_group.result _ _ (λ turn told. told c.args.ticket c.requires.line c.requires.out) c.hear_group.ensures)

pub returns-in-Lost : goal.returns-in-Lost
returns-in-Lost g c = rw c.in-Lost.is (IfOk-weaker c.hear_group-in-Lost.result _ _ (λ turn told. told c.args.ticket c.requires.line c.requires.out) c.hear_group-in-Lost.ensures)

pub returns-in-Slept : goal.returns-in-Slept
returns-in-Slept g c = rw c.in-Slept.is c.hear.ensures
