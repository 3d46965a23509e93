use Rattle.std.proofs.Common.{◌∙◌, refl, sym}
use Rattle.txn_history.specs.Moves.{Moves-stopped}
use Rattle.txn_core.proofs.Counting.{rest_pays, tells_counts}
use Rattle.txn_core.proofs.Going.{followed_open, tells_idle, tells_open}
use Rattle.std.proofs.Common.{ap}
use Rattle.txn_core.proofs.Going.{as_before}
use Rattle.txn_core.proofs.Waiting.{commits_open, expects_open, expects_still, goes_open, goes_still}
use Rattle.txn_core.specs.Transaction.{is_open}
use Rattle.txn_core.specs.declared.transaction.Work.TheVariants as works
use Rattle.txn_history.specs.Arrivals.{awaited_as}
use Rattle.txn_core.proofs.transaction.Transaction.tell.Goals as goal

pub returns-in-Idle-clause-tells : goal.returns-in-Idle-clause-tells
returns-in-Idle-clause-tells g c r = tells_idle _ c.args.arrival r c.args.self.now c.take_work.new.self c.wait.new.self _ _ (sym c.take_work.ensures.work ∙ c.in-Idle.is) c.take_work.ensures.state c.wait.ensures.state c.wait.ensures.answer

pub returns-in-Open-clause-tells : goal.returns-in-Open-clause-tells
returns-in-Open-clause-tells g c r = tells_open _ _ _ c.in-Open.call c.args.self.now c.take_work.new.self c.tell_call.new.self _ _ _ (sym c.take_work.ensures.work ∙ c.in-Open.is) c.take_work.ensures.state (c.tell_call.ensures.moves r)

pub returns-in-GaveUp-clause-tells : goal.returns-in-GaveUp-clause-tells
returns-in-GaveUp-clause-tells g c r = Moves-stopped refl refl

pub returns-in-Idle-clause-counts : goal.returns-in-Idle-clause-counts
returns-in-Idle-clause-counts g c = rest_pays _ _ c.args.self.now c.wait.new.self (rw (sym c.take_work.ensures.work ∙ c.in-Idle.is) refl) (rw c.wait.ensures.state refl) (rw (c.wait.ensures.state, c.take_work.ensures.state) refl)

pub returns-in-Open-clause-counts : goal.returns-in-Open-clause-counts
returns-in-Open-clause-counts g c = tells_counts _ _ c.in-Open.call c.args.self.now c.take_work.new.self c.tell_call.new.self (sym c.take_work.ensures.work ∙ c.in-Open.is) c.take_work.ensures.state c.tell_call.ensures.counts

pub returns-in-GaveUp-clause-counts : goal.returns-in-GaveUp-clause-counts
returns-in-GaveUp-clause-counts g c = rest_pays _ _ c.args.self.now c.take_work.new.self (rw (sym c.take_work.ensures.work ∙ c.in-GaveUp.is) refl) (rw c.take_work.ensures.state refl) (rw c.take_work.ensures.state refl)

pub returns-in-Idle-clause-goes : goal.returns-in-Idle-clause-goes
returns-in-Idle-clause-goes g c = goes_still g.P.Plans.ways (awaited_as c.args.arrival) c.args.self.now c.wait.new.self works.Idle _ _ _ (sym c.take_work.ensures.work ∙ c.in-Idle.is) (λ a x. x) (as_before c.args.self.now c.take_work.new.self c.wait.new.self (sym c.take_work.ensures.work ∙ c.in-Idle.is) c.take_work.ensures.state c.wait.ensures.state) c.wait.ensures.answer

pub returns-in-Open-clause-goes : goal.returns-in-Open-clause-goes
returns-in-Open-clause-goes g c = goes_open g.P.Plans.ways (awaited_as c.args.arrival) c.in-Open.call c.args.self.now c.take_work.new.self c.tell_call.new.self _ _ _ _ _ (sym c.take_work.ensures.work ∙ c.in-Open.is) c.take_work.ensures.state c.tell_call.ensures.goes

pub returns-in-GaveUp-clause-goes : goal.returns-in-GaveUp-clause-goes
returns-in-GaveUp-clause-goes g c = goes_still g.P.Plans.ways (awaited_as c.args.arrival) c.args.self.now c.take_work.new.self works.GaveUp _ _ _ (sym c.take_work.ensures.work ∙ c.in-GaveUp.is) (λ a x. x) (c.take_work.ensures.state ∙ ap (λ x. record c.args.self.now { work = x }) (sym (sym c.take_work.ensures.work ∙ c.in-GaveUp.is))) refl

pub returns-in-Idle-clause-expects : goal.returns-in-Idle-clause-expects
returns-in-Idle-clause-expects g c = expects_still g.P.Plans.ways c.args.self.now c.wait.new.self _ works.Idle _ (rw c.wait.ensures.state refl) (λ a x. x)

pub returns-in-Open-clause-expects : goal.returns-in-Open-clause-expects
returns-in-Open-clause-expects g c = expects_open g.P.Plans.ways c.in-Open.call c.args.self.now (sym c.take_work.ensures.work ∙ c.in-Open.is) c.tell_call.ensures.expects

pub returns-in-GaveUp-clause-expects : goal.returns-in-GaveUp-clause-expects
returns-in-GaveUp-clause-expects g c = expects_still g.P.Plans.ways c.args.self.now c.take_work.new.self _ works.GaveUp _ (rw c.take_work.ensures.state refl) (λ a x. x)

pub returns-in-Idle-clause-commits : goal.returns-in-Idle-clause-commits
returns-in-Idle-clause-commits g c other out = ap (λ t. t.commits) (as_before c.args.self.now c.take_work.new.self c.wait.new.self (sym c.take_work.ensures.work ∙ c.in-Idle.is) c.take_work.ensures.state c.wait.ensures.state)

pub returns-in-Open-clause-commits : goal.returns-in-Open-clause-commits
returns-in-Open-clause-commits g c other out = commits_open g.P.Plans.ways c.args.arrival c.args.out.now (awaited_as c.args.arrival) c.in-Open.call c.args.self.now c.take_work.new.self c.tell_call.new.self (sym c.take_work.ensures.work ∙ c.in-Open.is) c.take_work.ensures.state c.tell_call.ensures.commits other out

pub returns-in-GaveUp-clause-commits : goal.returns-in-GaveUp-clause-commits
returns-in-GaveUp-clause-commits g c other out = ap (λ t. t.commits) c.take_work.ensures.state

pub returns-in-Idle-clause-job : goal.returns-in-Idle-clause-job
returns-in-Idle-clause-job g c = rw c.wait.ensures.answer tt

pub returns-in-Idle-clause-follows : goal.returns-in-Idle-clause-follows
returns-in-Idle-clause-follows g c h busy f = absurd (let e = sym (ap is_open (sym c.take_work.ensures.work ∙ c.in-Idle.is)) ∙ busy in cc)

pub returns-in-Open-clause-follows : goal.returns-in-Open-clause-follows
returns-in-Open-clause-follows g c h busy f = followed_open g.P.Plans.ways c.args.arrival c.in-Open.call c.args.self.now c.take_work.new.self c.tell_call.new.self c.args.out.now _ h (sym c.take_work.ensures.work ∙ c.in-Open.is) c.take_work.ensures.state (c.tell_call.ensures.follows h) f
