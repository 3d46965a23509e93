use Rattle.std.proofs.Common.{◌≤◌, ◌+◌, ◌-◌, length, drop, arith}
use Rattle.std.proofs.lemmas.List.{length-drop, length-take}
use Rattle.txn_stream.proofs.Known.{Appends-then, take_on}
use Rattle.txn_stream.proofs.writing.write_all.Goals as goal

pub loop-at-preserved : goal.loop-at-preserved
loop-at-preserved g c =
    let within : c.loop-at.at + c.in-Ok.count ≤ length c.args.bytes.now = omega (arith, c.in-Ok.ensures.within, length-drop c.loop-at.at c.args.bytes.now, length-take (length c.args.bytes.now - c.loop-at.at) (drop c.loop-at.at c.args.bytes.now)) in
    record {
      within = within;
      written = rw (take_on c.args.bytes.now c.loop-at.at c.in-Ok.count c.loop-at.invariant.within c.in-Ok.ensures.within) (Appends-then (g.K.Sink.written c.args.sink.now) (g.K.Sink.written c.loop-at.sink) (g.K.Sink.written c.write.new.self) _ _ c.loop-at.invariant.written c.in-Ok.ensures.bytes);
      counted = omega (arith, c.loop-at.invariant.counted, c.in-Ok.ensures.counted);
    }
