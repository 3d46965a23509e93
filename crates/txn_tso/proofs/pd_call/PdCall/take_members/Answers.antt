use Rattle.std.proofs.Common.{refl, inr}
use Rattle.std.specs.Prelude.{Err}
use Rattle.txn_kv.specs.declared.errors.Error.TheVariants.{InternalError}
use Rattle.txn_kv.specs.declared.errors.Internal.TheVariants.{WrongReply}
use Rattle.txn_tso.specs.Steps.{ends, standing, unconnected}
use Rattle.txn_tso.proofs.pd_call.PdCall.take_members.Goals as goal

pub returns-then-not-is_members : goal.returns-then-not-is_members
returns-then-not-is_members c = (
  ends (Err (InternalError WrongReply)) (unconnected (standing c.args.self.now c.args.client.now c.args.out.now)),
  inr (c.if-not-is_members.ensures, refl),
  rw (← c.wrong_reply.ensures, ← c.give_up.ensures) (c.end.ensures c.give_up.new.self c.args.out.now),
)
