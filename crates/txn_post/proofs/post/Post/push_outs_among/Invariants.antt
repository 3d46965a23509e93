use Rattle.std.proofs.Common.{◌≡◌, ◌++◌, take}
use Rattle.std.specs.List.{flat_map}
use Rattle.std.specs.Option.{option_to_list}
use Rattle.txn_post.specs.Mail.{out_at}
use Rattle.txn_post.proofs.post.Post.push_outs_among.Given as goal

abbrev pub invariant-loop-place : goal.invariant-loop-place
invariant-loop-place l = l.outs.items ≡ l.fn.outs.items ++ flat_map (λ place. option_to_list (out_at l.fn.self place)) (take l.place-index l.places)
