use Rattle.std.proofs.Common.{◌≡◌, ◌<◌, ◌∙◌, Ok, inr, ap, length, refl, sym, arith}
use Rattle.std.proofs.lemmas.Bool.Decides.{nat_tests}
use Rattle.txn_region.proofs.KeyDecoding.{behind, is_encoding, none_behind, nothing, whole}
use Rattle.txn_region.proofs.decoding.decode_key.Goals as goal

pub returns-then-is_empty-clause-decodes : goal.returns-then-is_empty-clause-decodes
returns-then-is_empty-clause-decodes c decoded is =
    let has = c.from-bytes.result.ok.0 in
    let none : length c.from-bytes.result.items ≡ 0 = grind (arith, nat_tests, c.is_empty.ensures, c.if-is_empty.true) in
    ap Ok (c.from.ensures ∙ nothing c.from-bytes.result.items c.args.key decoded c.from-bytes.ensures none is)

pub returns-in_err-decode_bytes_in_place-clause-decodes : goal.returns-in_err-decode_bytes_in_place-clause-decodes
returns-in_err-decode_bytes_in_place-clause-decodes c decoded is =
    let has = c.from-bytes.result.ok.0 in
    let some : 0 < length c.from-bytes.result.items = grind (arith, nat_tests, c.is_empty.ensures, c.if-is_empty.false) in
    let done = c.in_err-decode_bytes_in_place.ensures.decodes decoded _ (is_encoding c.from-bytes.result.items c.args.key decoded c.from-bytes.ensures some is) in
    absurd (cc (done.0))

pub returns-then-at-len-clause-err : goal.returns-then-at-len-clause-err
returns-then-at-len-clause-err c =
    let has = c.from-bytes.result.ok.0 in
    let left = c.decode_bytes_in_place.new.bytes.ok.0 in
    let some : 0 < length c.from-bytes.result.items = grind (arith, nat_tests, c.is_empty.ensures, c.if-is_empty.false) in
    let bad = behind c.from-bytes.result.items c.decode_bytes_in_place.new.bytes.items c.len.result c.in_ok-decode_bytes_in_place.ensures.ok some (omega arith) (omega arith) in
    (_, rw c.from-bytes.ensures at bad, refl)

pub returns-then-at-len-clause-decodes : goal.returns-then-at-len-clause-decodes
returns-then-at-len-clause-decodes c decoded is =
    let has = c.from-bytes.result.ok.0 in
    let left = c.decode_bytes_in_place.new.bytes.ok.0 in
    let some : 0 < length c.from-bytes.result.items = grind (arith, nat_tests, c.is_empty.ensures, c.if-is_empty.false) in
    let encoding = is_encoding c.from-bytes.result.items c.args.key decoded c.from-bytes.ensures some is in
    let done = c.in_ok-decode_bytes_in_place.ensures.decodes decoded _ encoding in
    absurd (none_behind c.from-bytes.result.items decoded c.len.result encoding (omega (arith, ap length done.1)) (omega arith))

pub returns-clause-ok : goal.returns-clause-ok
returns-clause-ok c =
    let has = c.from-bytes.result.ok.0 in
    let left = c.decode_bytes_in_place.new.bytes.ok.0 in
    let some : 0 < length c.from-bytes.result.items = grind (arith, nat_tests, c.is_empty.ensures, c.if-is_empty.false) in
    let all = whole c.from-bytes.result.items c.decode_bytes_in_place.new.bytes.items c.len.result c.in_ok-decode_bytes_in_place.ensures.ok some (omega arith) (omega arith) in
    inr (sym c.from-bytes.ensures ∙ rw c.from-2.ensures all)

pub returns-clause-decodes : goal.returns-clause-decodes
returns-clause-decodes c decoded is =
    let has = c.from-bytes.result.ok.0 in
    let some : 0 < length c.from-bytes.result.items = grind (arith, nat_tests, c.is_empty.ensures, c.if-is_empty.false) in
    let done = c.in_ok-decode_bytes_in_place.ensures.decodes decoded _ (is_encoding c.from-bytes.result.items c.args.key decoded c.from-bytes.ensures some is) in
    ap Ok (c.from-2.ensures ∙ done.1)
