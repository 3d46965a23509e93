use Rattle.txn_lines.proofs.ScriptLaws.{found_line, only_line}
use Rattle.txn_lines.proofs.script_parser.first_line.Goals as goal

pub returns-in-Some-clause-cut : goal.returns-in-Some-clause-cut
returns-in-Some-clause-cut c = found_line c.args.text.now c.in-Some.parts.0.now c.in-Some.parts.1.now c.in-Some.ensures

pub returns-in-None-clause-cut : goal.returns-in-None-clause-cut
returns-in-None-clause-cut c = only_line c.args.text.now c.requires c.in-None.ensures
