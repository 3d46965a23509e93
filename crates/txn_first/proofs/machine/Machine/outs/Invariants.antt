use Rattle.std.proofs.Common.{◌≡◌, take}
use Rattle.std.specs.List.{flat_map}
use Rattle.txn_first.specs.Posting.{outs_at}
use Rattle.txn_first.proofs.machine.Machine.outs.Given as goal

abbrev pub invariant-loop-places : goal.invariant-loop-places
invariant-loop-places l = l.outs.items ≡ flat_map (outs_at l.fn.self.post.sent.items l.fn.self.post.letters.items) (take l.places-index l.places-items)
