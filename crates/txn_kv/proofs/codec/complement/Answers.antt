use Rattle.std.proofs.Common.{◌-◌, ◌<◌, length, get_or, arith}
use Rattle.std.proofs.lemmas.List.{get_or_default}
use Rattle.std.proofs.lemmas.List.Edits.{map_over_more}
use Rattle.txn_kv.proofs.codec.complement.Goals as goal

pub loop-byte-preserved : goal.loop-byte-preserved
loop-byte-preserved c =
    let within : c.loop-byte.byte-index < length c.loop-byte.bytes = omega arith in
    let byte = get_or c.loop-byte.bytes c.loop-byte.byte-index 0 in
    map_over_more (λ byte. 255 - byte) c.args.bytes.now c.loop-byte.bytes c.loop-byte.byte-index byte (omega arith)
    c.loop-byte.invariant (get_or_default c.loop-byte.bytes c.loop-byte.byte-index 0 byte within)
