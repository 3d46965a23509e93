use Rattle.std.proofs.Common.{refl}
use Rattle.txn_history.specs.Moves.{Moves-quiet}
use Rattle.txn_history.proofs.Telling.{Expects-quiet}
use Rattle.txn_multi.proofs.task.RegionTask.end.Goals as goal

pub returns-clause-over : goal.returns-clause-over
returns-clause-over g c o = record {
  moves = Moves-quiet refl (λ h f. record { at = tt }) (λ h f. f);
  job = record { asked = λ h r x. x; given = λ h v x. x; gave = λ h v x. x };
  expects = Expects-quiet (λ a w. absurd w);
  next = refl;
}
