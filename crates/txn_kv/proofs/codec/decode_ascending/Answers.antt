use Rattle.std.proofs.Common.{◌≡◌, ◌<◌, ℕ, Ok, Err, get_or, length, refl, inr, ap, ◌∙◌, sym, arith}
use Rattle.std.proofs.lemmas.Grind.{common_steps}
use Rattle.txn_kv.specs.Codec.{key_length}
use Rattle.txn_kv.proofs.Decoding.{begins, decodes, encoded-none, not_refused, room}
use Rattle.txn_kv.proofs.codec.decode_ascending.Goals as goal

pub returns-then-is_empty-clause-decodes : goal.returns-then-is_empty-clause-decodes
returns-then-is_empty-clause-decodes c = λ key rest is.
    let none : length c.args.bytes.now.items ≡ 0 = grind (arith, common_steps) in
    absurd (encoded-none _ key rest none is)

pub drop_markers-requires : goal.drop_markers-requires
drop_markers-requires c =
    let small : (k : ℕ) → get_or c.args.bytes.now.items k 0 < 256 = λ k. grind (arith, common_steps) in
    let has : key_length 0 c.args.bytes.now.items ≡ Ok c.in-Ok.length
    = ap (key_length 0) (sym c.as_slice.ensures.value) ∙ sym c.key_length.ensures ∙ c.in-Ok.is in
    let fits = room c.in-Ok.length c.args.bytes.now.items small has in
    grind (arith, common_steps, fits)

pub returns-in-Ok-clause-ok : goal.returns-in-Ok-clause-ok
returns-in-Ok-clause-ok c =
    let small : (k : ℕ) → get_or c.args.bytes.now.items k 0 < 256 = λ k. grind (arith, common_steps) in
    let has : key_length 0 c.args.bytes.now.items ≡ Ok c.in-Ok.length
    = ap (key_length 0) (sym c.as_slice.ensures.value) ∙ sym c.key_length.ensures ∙ c.in-Ok.is in
    let width : length c.drop_markers.new.bytes.items ≡ c.in-Ok.length = grind (arith, common_steps) in
    inr (begins c.in-Ok.length c.args.bytes.now.items c.drop_markers.new.bytes.items small has
    width c.drop_markers.ensures.bytes)

pub returns-in-Ok-clause-decodes : goal.returns-in-Ok-clause-decodes
returns-in-Ok-clause-decodes c = λ key rest is.
    let has : key_length 0 c.args.bytes.now.items ≡ Ok c.in-Ok.length
    = ap (key_length 0) (sym c.as_slice.ensures.value) ∙ sym c.key_length.ensures ∙ c.in-Ok.is in
    let width : length c.drop_markers.new.bytes.items ≡ c.in-Ok.length = grind (arith, common_steps) in (
      refl,
      decodes c.in-Ok.length c.args.bytes.now.items c.drop_markers.new.bytes.items key rest has
          width c.drop_markers.ensures.bytes is,
    )

pub returns-in-Err-clause-decodes : goal.returns-in-Err-clause-decodes
returns-in-Err-clause-decodes c = λ key rest is.
    let has : key_length 0 c.args.bytes.now.items ≡ Err c.in-Err.what
    = ap (key_length 0) (sym c.as_slice.ensures.value) ∙ sym c.key_length.ensures ∙ c.in-Err.is in
    absurd (not_refused c.args.bytes.now.items key rest c.in-Err.what has is)
