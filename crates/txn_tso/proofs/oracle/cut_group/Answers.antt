use Rattle.std.proofs.Common.{◌≤◌, length, sym, ◌∙◌, arith}
use Rattle.std.proofs.lemmas.List.{take_all, drop_all}
use Rattle.txn_tso.specs.Oracle.{most}
use Rattle.txn_tso.proofs.oracle.cut_group.Goals as goal

pub returns-then-len-le-MAX_GROUP-clause-first : goal.returns-then-len-le-MAX_GROUP-clause-first
returns-then-len-le-MAX_GROUP-clause-first c =
    let small : length c.args.queue.now.items ≤ 64 = omega (arith, c.if-len-le-MAX_GROUP.true, c.len.ensures, c.args.queue.now.ok.0) in
    sym (take_all most c.args.queue.now.items small)

pub returns-then-len-le-MAX_GROUP-clause-rest : goal.returns-then-len-le-MAX_GROUP-clause-rest
returns-then-len-le-MAX_GROUP-clause-rest c =
    let small : length c.args.queue.now.items ≤ 64 = omega (arith, c.if-len-le-MAX_GROUP.true, c.len.ensures, c.args.queue.now.ok.0) in
    c.new.ensures.items ∙ sym (drop_all most c.args.queue.now.items small)
