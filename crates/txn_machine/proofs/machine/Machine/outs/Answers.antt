use Rattle.std.proofs.Common.{◌≡◌, length, sym, ap, ◌∙◌, subst, arith}
use Rattle.txn_machine.specs.Outs.{AreOutAfter}
use Rattle.txn_machine.specs.Running.{lists_of, outs_until}
use Rattle.txn_machine.proofs.Listing.{outs_are}
use Rattle.txn_machine.proofs.machine.Machine.outs.Goals as goal

pub push_outs-requires-clause-even : goal.push_outs-requires-clause-even
push_outs-requires-clause-even g c = (c.requires.stands.stands c.requires.memory).ordered.even

pub returns-clause-told : goal.returns-clause-told
returns-clause-told g c lines report s r =
    let h = s.stands c.requires.memory in
    let past = c.loop-line-test.false in
    let within = c.loop-line.auto.line-end in
    let end : c.loop-line.line ≡ length c.args.self.now.outcomes.items = omega arith in
    subst (λ xs. AreOutAfter lines report xs) (sym (c.loop-line.invariant ∙ ap (λ n. outs_until (lists_of g.S.ClientSide.sight c.args.self.now) n) end))
    (outs_are lines (lists_of g.S.ClientSide.sight c.args.self.now) h.ordered h.told h.caused report r)
