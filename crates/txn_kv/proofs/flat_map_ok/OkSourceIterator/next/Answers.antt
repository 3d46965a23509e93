use Rattle.std.proofs.Common.{Ok, Err, refl}
use Rattle.std.proofs.iter.Next.{gave_Under, served, Serves-on, Under-Some}
use Rattle.txn_kv.proofs.flat_map_ok.OkSourceIterator.next.Goals as goal

pub f-requires : goal.f-requires
f-requires g c = rw c.in-Ok.is at (served c.requires.1 _ _ c.in_ok-value.ensures.steps)

pub returns-in-Ok-clause-steps : goal.returns-in-Ok-clause-steps
returns-in-Ok-clause-steps g c = (
  Ok c.in-Ok.value,
  rw c.in-Ok.is at c.in_ok-value.ensures.steps,
  (c.f.result, c.into_iter.result, c.f.ensures, c.into_iter.ensures.into_iter_gives, refl),
)

pub returns-in-Ok-clause-goes : goal.returns-in-Ok-clause-goes
returns-in-Ok-clause-goes g c =
    gave_Under
    (c.in_ok-value.ensures.goes.keeps, Serves-on c.requires.1 _ _ c.in_ok-value.ensures.steps _ (rw c.in-Ok.is (_, c.f.ensures)))
    (Under-Some _ refl c.in_ok-value.ensures.goes)

pub returns-in-Err-clause-steps : goal.returns-in-Err-clause-steps
returns-in-Err-clause-steps g c = (Err c.in-Err.error, rw c.in-Err.is at c.in_ok-value.ensures.steps, (refl, refl))

pub returns-in-Err-clause-goes : goal.returns-in-Err-clause-goes
returns-in-Err-clause-goes g c =
    gave_Under
    (c.in_ok-value.ensures.goes.keeps, Serves-on c.requires.1 _ _ c.in_ok-value.ensures.steps _ (rw c.in-Err.is refl))
    (Under-Some _ refl c.in_ok-value.ensures.goes)
