use Rattle.txn_post.proofs.Mails.{opened_is_mail}
use Rattle.txn_post.proofs.post.Post.open.Goals as goal

pub invariant_of-self-2 : goal.invariant_of-self-2
invariant_of-self-2 c = rw c.in_ok-open.ensures.ok (opened_is_mail _ c.self.invariant)
