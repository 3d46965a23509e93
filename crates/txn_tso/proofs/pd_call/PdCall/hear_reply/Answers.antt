use Rattle.std.proofs.Common.{◌≢◌, ℕ, refl}
use Rattle.std.proofs.lemmas.Bool.{ne_eqb}
use Rattle.txn_kv.specs.declared.reply.Reply.{Reply}
use Rattle.txn_tso.specs.Steps.{standing, waits, IsOnReply, Standing}
use Rattle.txn_tso.specs.declared.stage.Stage.{Stage}
use Rattle.txn_tso.specs.declared.stage.Stage.TheVariants as stage
use Rattle.txn_tso.proofs.pd_call.PdCall.hear_reply.Goals as goal

pub returns-then-sent-number-clause-step : goal.returns-then-sent-number-clause-step
returns-then-sent-number-clause-step c = (
  waits (standing c.args.self.now c.args.client.now c.args.out.now),
  rw (c.in-Sent.is, ne_eqb c.in-Sent.sent c.args.number c.if-sent-number.true) refl,
  (refl, refl),
)

pub returns-then-sent-number-2-clause-step : goal.returns-then-sent-number-2-clause-step
returns-then-sent-number-2-clause-step c = (
  waits (standing c.args.self.now c.args.client.now c.args.out.now),
  rw (c.in-Reconnecting.is, ne_eqb c.in-Reconnecting.sent c.args.number c.if-sent-number-2.true) refl,
  (refl, refl),
)

unheard : (g : Stage) (n : ℕ) (r : Reply) (now : ℕ) (x : Standing) → ((k : ℕ) → g ≢ stage.Sent k) → ((k lost : ℕ) → g ≢ stage.Reconnecting k lost) → IsOnReply g n r now x (waits x)
unheard stage.Fresh n r now x a b = refl
unheard (stage.Sent k) n r now x a b = absurd (a k refl)
unheard (stage.Asked k) n r now x a b = refl
unheard (stage.Reconnecting k lost) n r now x a b = absurd (b k lost refl)
unheard (stage.Resting k lost) n r now x a b = refl
unheard stage.Over n r now x a b = refl
unheard stage.Stopped n r now x a b = refl

pub returns-in_default-clause-step : goal.returns-in_default-clause-step
returns-in_default-clause-step c = (
  waits (standing c.args.self.now c.args.client.now c.args.out.now),
  unheard c.args.self.now.stage c.args.number c.args.reply c.args.now (standing c.args.self.now c.args.client.now c.args.out.now) c.in_default.not-Sent c.in_default.not-Reconnecting,
  (refl, refl),
)
