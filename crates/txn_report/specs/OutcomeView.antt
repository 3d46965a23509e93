-- An outcome with the view of its error: two outcomes that hold alike have one view.
use Rattle.txn_kv.specs.ErrorView.{ErrorView, view_of}
use Rattle.txn_report.specs.declared.outcome.Outcome.{Outcome}
use Rattle.txn_report.specs.declared.outcome.Outcome.TheVariants as outcomes
use Rattle.txn_report.specs.declared.outcome.Payload.{Payload}

pub data OutcomeView : Type 0 where
  answered : Payload → OutcomeView
  failed : ErrorView → OutcomeView
  unfinished : OutcomeView
  done : OutcomeView
  skipped : OutcomeView

abbrev pub view_of_outcome : Outcome → OutcomeView
view_of_outcome (outcomes.Ok payload) = answered payload
view_of_outcome (outcomes.Err error) = failed (view_of error)
view_of_outcome outcomes.Unfinished = unfinished
view_of_outcome outcomes.Done = done
view_of_outcome outcomes.Skipped = skipped
