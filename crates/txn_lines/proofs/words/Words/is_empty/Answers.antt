use Rattle.txn_lines.proofs.Splits.{is_end}
use Rattle.txn_lines.proofs.words.Words.is_empty.Goals as goal

pub returns : goal.returns
returns c = rw (← c.self.view_is) (is_end c.self.inside.rest c.is_none.result c.is_none.ensures)
