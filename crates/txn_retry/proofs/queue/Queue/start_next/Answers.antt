use Rattle.std.proofs.Common.{refl, sym, arith}
use Rattle.txn_retry.proofs.Queues.{IsQueue-start, next-full, next-none, next-some, view-start}
use Rattle.txn_retry.proofs.queue.Queue.start_next.Goals as goal

pub returns-then-self-eq-MAX_RUNNING-clause-next : goal.returns-then-self-eq-MAX_RUNNING-clause-next
returns-then-self-eq-MAX_RUNNING-clause-next g c = rw (← c.self.view_is) (sym (next-full c.self.invariant c.if-self-eq-MAX_RUNNING.true))

pub returns-then-self-len-clause-next : goal.returns-then-self-len-clause-next
returns-then-self-len-clause-next g c = rw (← c.self.view_is) (sym (next-none c.self.invariant (omega (arith, c.if-self-len.true, c.len.ensures, c.self.inside.places.ok.0))))

pub invariant_of-self : goal.invariant_of-self
invariant_of-self g c = IsQueue-start c.self.invariant c.if-self-eq-MAX_RUNNING.false (λ e. c.if-self-len.false (omega (arith, e, c.len.ensures, c.self.inside.places.ok.0)))

pub returns-clause-next : goal.returns-clause-next
returns-clause-next g c =
    rw (← c.self.view_is) (sym (next-some c.self.invariant c.if-self-eq-MAX_RUNNING.false (λ e. c.if-self-len.false (omega (arith, e, c.len.ensures, c.self.inside.places.ok.0)))))

pub returns-clause-after : goal.returns-clause-after
returns-clause-after g c = rw (← c.self.view_is) (rw (view-start c.self.invariant) refl)
