use Rattle.std.proofs.Common.{arith, ◌++◌, map, sym, ap, ◌∙◌, append-nil}
use Rattle.txn_tso.specs.Oracle.{Answer}
use Rattle.txn_clients.proofs.Kept.{nil_so}
use Rattle.txn_clients.proofs.client_state.refusals.Goals as goal

pub returns-clause-askers : goal.returns-clause-askers
returns-clause-askers c = sym (append-nil _) ∙ ap (λ xs. map (λ (a : Answer). a.0) c.loop-asker.given.items ++ xs) (sym (nil_so c.loop-asker.asker-iterator.rest.items (let ok = c.loop-asker.asker-iterator.rest.ok in let none = c.in-None.ensures.steps.0 in omega (arith, ok, none)))) ∙ c.loop-asker.invariant.askers
