-- When two reports tell the same.
use Rattle.std.specs.Prelude.{◌≡◌}
use Rattle.txn_report.specs.Text.{text_of_report}
use Rattle.txn_report.specs.declared.report.Report.{Report}

-- the same outcomes, in the same steps; the same requests, under the same tickets, in the same steps, to the same targets and for the same
-- askers; the same tickets served; and the same text, so that the stores show the same cells
pub record AreAlike (one another : Report) : Type 0 where
  pub outcomes : one.outcomes ≡ another.outcomes
  pub ended : one.ended ≡ another.ended
  pub sent : one.sent ≡ another.sent
  pub served : one.served ≡ another.served
  pub text : text_of_report one ≡ text_of_report another
