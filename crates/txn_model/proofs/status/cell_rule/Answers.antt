use Rattle.std.proofs.Common.{sym, ◌∙◌, ap, ap₂}
use Rattle.std.specs.Option.{option_copied}
use Rattle.txn_model.specs.Locks.{commit_of}
use Rattle.txn_model.specs.Status.{unlocked_finding, locked_finding}
use Rattle.txn_model.specs.Statuses.{status_rule}
use Rattle.txn_model.proofs.status.cell_rule.Goals as goal

pub returns-in-None : goal.returns-in-None
returns-in-None c =
    let r = c.args.request.now in
    let cell = c.args.cell.now in
    let none = sym c.lock_of_start.ensures ∙ ap option_copied c.in-None.is in
    c.unlocked_rule.ensures
    ∙ (ap₂ (λ w b. status_rule r (unlocked_finding w b)) (c.commit_of.ensures ∙ ap (λ ws. commit_of ws r.lock_ts) c.as_slice.ensures) c.is_rolled_back.ensures
    ∙ ap (λ o. status_rule r (locked_finding r o cell)) (sym none))
