use Rattle.std.proofs.Common.{sym, ap, subst}
use Rattle.txn_machine.specs.Running.{IsFine, lists_of}
use Rattle.txn_machine.proofs.Standings.{opened_ordered, opened_some, stays_through, step_lists}
use Rattle.txn_machine.proofs.Telling.{note_is}
use Rattle.txn_machine.proofs.Credits.{credited_step}
use Rattle.txn_machine.proofs.Resting.{rested_step}
use Rattle.txn_machine.proofs.Arising.{arisen_step}
use Rattle.txn_machine.proofs.machine.Machine.try_step.Goals as goal

pub run-requires-clause-ordered : goal.run-requires-clause-ordered
run-requires-clause-ordered g c = opened_ordered (lists_of g.S.ClientSide.sight c.args.self.now) _ c.in_ok-open.ensures.lists c.requires.room c.requires.ordered

pub run-requires-clause-some : goal.run-requires-clause-some
run-requires-clause-some g c = opened_some (lists_of g.S.ClientSide.sight c.args.self.now) _ c.in_ok-open.ensures.lists

pub run-requires-clause-fine : goal.run-requires-clause-fine
run-requires-clause-fine g c = subst (λ d. IsFine d) (sym c.deed.ensures) c.requires.fine

pub returns-clause-lists : goal.returns-clause-lists
returns-clause-lists g c = step_lists c.args.line _ (lists_of g.S.ClientSide.sight c.args.self.now) _ _ _ c.in_ok-done.done c.deed.ensures c.in_ok-open.ensures.lists c.in_ok-done.ensures.does c.in_ok-note.ensures.lists

pub returns-clause-note : goal.returns-clause-note
returns-clause-note g c = note_is (lists_of g.S.ClientSide.sight c.args.self.now) _ _ _ c.in_ok-done.done c.in_ok-note.note c.in_ok-open.ensures.lists c.in_ok-note.ensures.lists c.requires.ordered c.requires.past c.in_ok-done.ensures.tells c.in_ok-note.ensures.note

pub returns-clause-out : goal.returns-clause-out
returns-clause-out g c = stays_through (g.S.ClientSide.waits c.args.self.now.clients) _ _ _ (lists_of g.S.ClientSide.sight c.args.self.now) _ _ _ c.in_ok-open.ensures.out c.in_ok-done.ensures.out.stays c.in_ok-note.ensures.lists (ap (λ s. g.S.ClientSide.waits s) (sym c.in_ok-note.ensures.clients))

pub returns-clause-credited : goal.returns-clause-credited
returns-clause-credited g c = credited_step g.S.ClientSide.account c.args.line _ (lists_of g.S.ClientSide.sight c.args.self.now) _ _ _ c.in_ok-done.done c.args.self.now.clients _ _ _ c.deed.ensures c.in_ok-open.ensures.lists c.in_ok-note.ensures.lists c.requires.ordered c.requires.past c.in_ok-done.ensures.tells c.in_ok-open.ensures.accounts c.in_ok-done.ensures.credits c.in_ok-note.ensures.clients

pub returns-clause-rests : goal.returns-clause-rests
returns-clause-rests g c = rested_step g.S.ClientSide.fails g.S.ClientSide.rests g.S.ClientSide.account c.args.line _ (lists_of g.S.ClientSide.sight c.args.self.now) _ _ _ c.in_ok-done.done c.args.self.now.clients _ _ _ c.deed.ensures c.in_ok-open.ensures.lists c.in_ok-note.ensures.lists c.in_ok-done.ensures.tells c.in_ok-open.ensures.accounts c.in_ok-open.ensures.rests c.in_ok-done.ensures.rests c.in_ok-note.ensures.clients

pub returns-clause-arises : goal.returns-clause-arises
returns-clause-arises g c = arisen_step g.S.ClientSide.arises g.S.ClientSide.holds c.args.line _ (lists_of g.S.ClientSide.sight c.args.self.now) _ _ _ c.in_ok-done.done c.args.self.now.clients _ _ _ c.deed.ensures c.in_ok-open.ensures.lists c.in_ok-note.ensures.lists c.in_ok-done.ensures.tells c.in_ok-open.ensures.arises c.in_ok-done.ensures.arises c.in_ok-note.ensures.clients
