use Rattle.std.proofs.Common.{◌∙◌, ◌-◌, ap, sym, arith}
use Rattle.txn_first.specs.Lists.{lists_of}
use Rattle.txn_first.proofs.Rows.{set_here, unwritten}
use Rattle.txn_first.proofs.machine.Machine.write.Goals as goal

pub returns-in_default : goal.returns-in_default
returns-in_default c =
    let m = c.args.self.now in
    ap (λ rows. record (lists_of m) { rows = rows }) (set_here m.rows.items (c.args.transaction - 1) c.index_mut.result.now c.index_mut.ensures.value)
    ∙ sym (unwritten (lists_of m) c.args.transaction _ _ c.index_mut.result.now (omega arith) (omega arith) c.index_mut.ensures.value c.in_default.not-Running)
