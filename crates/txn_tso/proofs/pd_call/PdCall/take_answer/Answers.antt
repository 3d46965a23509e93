use Rattle.std.proofs.Common.{refl, inl, inr}
use Rattle.std.specs.Prelude.{Ok, Err}
use Rattle.txn_kv.specs.declared.errors.Error.TheVariants.{InternalError}
use Rattle.txn_kv.specs.declared.errors.Internal.TheVariants.{WrongReply}
use Rattle.txn_tso.specs.Steps.{ends, standing}
use Rattle.txn_tso.proofs.pd_call.PdCall.take_answer.Goals as goal

pub returns-in-Answer : goal.returns-in-Answer
returns-in-Answer c = (
  ends (Ok c.in-Answer.answer) (standing c.args.self.now c.args.client.now c.args.out.now),
  inl (c.in-Answer.answer, c.in-Answer.ensures, refl),
  c.end.ensures c.args.client.now c.args.out.now,
)

pub returns-in-Unlike : goal.returns-in-Unlike
returns-in-Unlike c = (
  ends (Err (InternalError WrongReply)) (standing c.args.self.now c.args.client.now c.args.out.now),
  inr (inr (c.in-Unlike.ensures, refl)),
  rw (← c.wrong_reply.ensures) (c.end-in-Unlike.ensures c.args.client.now c.args.out.now),
)
