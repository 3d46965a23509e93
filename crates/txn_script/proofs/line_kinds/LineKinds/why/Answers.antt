use Rattle.std.proofs.Common.{ap, ◌∙◌}
use Rattle.txn_script.specs.Kinds.{why_by_kinds}
use Rattle.txn_script.proofs.KindLaws.{why_by_kinds-kinds_of}
use Rattle.txn_script.proofs.line_kinds.LineKinds.why.Goals as goal

pub returns : goal.returns
returns c = λ before e. c.why_by_kinds.ensures ∙ ap (λ ks. why_by_kinds ks c.args.line.now) e ∙ why_by_kinds-kinds_of before c.args.line.now
