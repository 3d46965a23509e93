use Rattle.std.proofs.Common.{◌∙◌, ◌-◌, ap, sym, arith}
use Rattle.std.proofs.lemmas.Result.{on_ok_weaker}
use Rattle.txn_first.specs.Lists.{lists_of}
use Rattle.txn_first.proofs.Rows.{set_here, unadvanced, advances}
use Rattle.txn_first.proofs.machine.Machine.advance.Goals as goal

pub returns-in_ok-turn-in-Running : goal.returns-in_ok-turn-in-Running
returns-in_ok-turn-in-Running c =
    on_ok_weaker c.follow.result (λ h. h ∙ advances (lists_of c.args.self.now) c.args.transaction c.args.line _ c.index_mut.result.now c.in-Running.running c.take_reply.new.self c.in_ok-turn-in-Running.turn (omega arith) (omega arith) c.index_mut.ensures.value c.in-Running.is c.in_ok-turn-in-Running.ensures) c.follow.ensures

pub returns-in_default : goal.returns-in_default
returns-in_default c =
    let m = c.args.self.now in
    ap (λ rows. record (lists_of m) { rows = rows }) (set_here m.rows.items (c.args.transaction - 1) c.index_mut.result.now c.index_mut.ensures.value)
    ∙ sym (unadvanced (lists_of m) c.args.transaction c.args.line _ c.index_mut.result.now (omega arith) (omega arith) c.index_mut.ensures.value c.in_default.not-Running)
