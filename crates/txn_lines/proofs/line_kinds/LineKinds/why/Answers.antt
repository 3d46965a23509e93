use Rattle.std.proofs.Common.{ap, ◌∙◌}
use Rattle.txn_lines.specs.Kinds.{why_so_far}
use Rattle.txn_lines.proofs.KindLaws.{why_so_far-kinds_of}
use Rattle.txn_lines.proofs.line_kinds.LineKinds.why.Goals as goal

pub returns : goal.returns
returns c = λ before e. c.why_so_far.ensures ∙ ap (λ so_far. why_so_far so_far c.args.line.now) e ∙ why_so_far-kinds_of before c.args.line.now
