use Rattle.std.proofs.lemmas.Result.{err_from_is_err_and}
use Rattle.txn_region.proofs.Believing.{settled, why_refused}
use Rattle.txn_region.proofs.placement.learn_answer.Goals as goal

pub returns-in_err-learn-clause-why : goal.returns-in_err-learn-clause-why
returns-in_err-learn-clause-why c =
    let p = err_from_is_err_and c.from_residual.result c.from_residual.ensures.1 in
    rw (p.1, p.2) (why_refused c.args.query.now c.args.answer.now _ c.in_err-learn.ensures.why)

pub returns-clause-good : goal.returns-clause-good
returns-clause-good c =
    let learns = rw c.in-Ok.is at c.in_ok-learn.ensures.ok in
    (settled c.args.encodes c.args.query.now c.in-Ok.told c.args.cache.now c.learn.new.self c.judge.new.cache c.judge.result c.requires learns.0 learns.1 c.judge.ensures).good

pub returns-clause-why : goal.returns-clause-why
returns-clause-why c =
    let learns = rw c.in-Ok.is at c.in_ok-learn.ensures.ok in
    rw c.in-Ok.is (settled c.args.encodes c.args.query.now c.in-Ok.told c.args.cache.now c.learn.new.self c.judge.new.cache c.judge.result c.requires learns.0 learns.1 c.judge.ensures).why
