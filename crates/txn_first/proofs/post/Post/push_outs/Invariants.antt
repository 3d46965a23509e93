use Rattle.std.proofs.Common.{◌≡◌, ◌++◌, take}
use Rattle.txn_first.specs.Posting.{outs_at}
use Rattle.txn_first.proofs.post.Post.push_outs.Given as goal

abbrev pub invariant-loop-place : goal.invariant-loop-place
invariant-loop-place l = l.outs.items ≡ l.fn.outs.items ++ outs_at l.fn.self.sent.items l.fn.self.letters.items (take l.place-index l.places)
