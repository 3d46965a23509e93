use Rattle.std.proofs.Common.{◌≡◌, ◌<◌, ℕ, get_or, arith}
use Rattle.std.proofs.lemmas.Grind.{common_steps}
use Rattle.txn_kv.specs.Codec.{complemented}
use Rattle.txn_kv.proofs.Decoding.{OnErr-then, complemented-twice}
use Rattle.txn_kv.proofs.codec.decode_descending.Goals as goal

pub returns-then-is_err-clause-unchanged : goal.returns-then-is_err-clause-unchanged
returns-then-is_err-clause-unchanged c =
    let small : (k : ℕ) → get_or c.args.bytes.now.items k 0 < 256 = λ k. grind (arith, common_steps) in
    let back : complemented c.decode_ascending-decoded.new.bytes.items ≡ c.complement_all-then-is_err.new.bytes.items
    = grind (arith, common_steps)
    in
    OnErr-then c.decode_ascending-decoded.result c.decode_ascending-decoded.ensures.unchanged
    (λ kept. grind (arith, common_steps, kept, back, complemented-twice c.args.bytes.now.items small))
