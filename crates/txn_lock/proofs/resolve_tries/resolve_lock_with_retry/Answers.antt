use Rattle.std.proofs.Common.{◌∙◌, ap}
use Rattle.txn_lock.proofs.Trying.{made_resolve}
use Rattle.txn_lock.specs.declared.resolve_tries.ResolveTries.{ResolveTries}
use Rattle.txn_lock.proofs.resolve_tries.resolve_lock_with_retry.Goals as goal

pub returns : goal.returns
returns c = let e = c.new.ensures.routine in made_resolve c.args.lock.now c.args.commit_version c.new.result
    (ap (λ (s : ResolveTries). s.start_version) e) (ap (λ (s : ResolveTries). s.commit_version) e) (ap (λ (s : ResolveTries). s.key) e ∙ c.in_ok-try_clone.ensures) (ap (λ (s : ResolveTries). s.tries) e)
    c.new.ensures.unbegun c.new.ensures.ready
