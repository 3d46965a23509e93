use Rattle.std.proofs.Common.{◌∙◌, sym}
use Rattle.txn_lock.proofs.Trying.{goes_on, no_other}
use Rattle.txn_lock.proofs.resolve_tries.ResolveTries.take.Goals as goal

pub returns-in-Some-take-2-clause-next : goal.returns-in-Some-take-2-clause-next
returns-in-Some-take-2-clause-next g c =
    goes_on c.args.self.now c.try_again.new.self c.in-Some.region c.args.reply c.in-Some-take-2.error c.in-Some.is (no_other c.args.reply.error (λ e is. c.in_default-take.not-Some e (c.take.ensures.value ∙ is)))
    (sym c.take-2.ensures.value ∙ c.in-Some-take-2.is) c.try_again.result c.try_again.ensures.ends c.try_again.ensures.again
