use Rattle.std.proofs.Common.{◌≡◌, sym, ap, ◌∙◌}
use Rattle.txn_lines.specs.Reading.{words_of, next_word}
use Rattle.txn_lines.proofs.Splits.{found_word, only_word}
use Rattle.txn_lines.proofs.words.Words.next.Goals as goal

pub returns-in-Some-cut_at : goal.returns-in-Some-cut_at
returns-in-Some-cut_at c =
    let words : words_of c.in-Some.bytes.now ≡ c.args.self = rw c.in-Some.is at c.self.view_is in
    ap next_word (sym words ∙ found_word c.in-Some.bytes.now c.in-Some-cut_at.word.now c.in-Some-cut_at.after.now c.in-Some-cut_at.ensures)

pub returns-in-None : goal.returns-in-None
returns-in-None c =
    let words : words_of c.in-Some.bytes.now ≡ c.args.self = rw c.in-Some.is at c.self.view_is in
    ap next_word (sym words ∙ only_word c.in-Some.bytes.now c.in-None.ensures)
