use Rattle.std.proofs.Common.{arith}
use Rattle.txn_lines.proofs.LineLaws.{line_takes, no_line}
use Rattle.txn_lines.proofs.parser.parse_line.Goals as goal

pub returns-in-Ok : goal.returns-in-Ok
returns-in-Ok c = (omega arith, line_takes c.args.bytes.now c.in-Ok.line c.in-Ok.ensures)

pub returns-in-Err-Word : goal.returns-in-Err-Word
returns-in-Err-Word c = (omega arith, no_line c.args.bytes.now (rw c.in-Err-Word.field-0-is at c.in-Err-Word.ensures))
