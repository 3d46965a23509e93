use Rattle.txn_region.proofs.FirstBytes.{head_is}
use Rattle.txn_region.proofs.heads.key_head.Goals as goal

pub returns : goal.returns
returns c =
    rw (c.byte_or_zero.ensures, c.byte_or_zero-2.ensures, c.byte_or_zero-3.ensures, c.byte_or_zero-4.ensures, c.byte_or_zero-5.ensures, c.byte_or_zero-6.ensures, c.byte_or_zero-7.ensures, c.byte_or_zero-8.ensures) (head_is c.args.key.now)
