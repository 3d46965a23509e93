-- From the text of a script to its lines.
use Rattle.std.proofs.Common.{ℕ, List, [], ◌∷◌, ◌++◌, reverse, sym, ap, ◌∙◌, ◌≡◌, subst, append-nil}
use Rattle.std.proofs.lemmas.List.{append_assoc, reverse-append, reverse-reverse}
use Rattle.txn_script.specs.Text.{AreGood, IsScript, text_lines}
use Rattle.txn_script.specs.declared.line.Line.{Line}
use Rattle.txn_first.specs.Lawful.{AllGood}

turned_over : (line : Line) (done rest : List Line) → reverse (line ∷ done) ++ rest ≡ reverse done ++ line ∷ rest
turned_over line done rest = ap (λ ls. ls ++ rest) (reverse-append (line ∷ []) done) ∙ append_assoc (reverse done) (line ∷ []) rest

good_lines : (texts : List (List ℕ)) (lines rest : List Line) → AreGood texts lines → AllGood lines rest → AllGood [] (reverse lines ++ rest)
good_lines [] [] rest h g = g
good_lines [] (line ∷ lines) rest h g = absurd h
good_lines (text ∷ texts) [] rest h g = absurd h
good_lines (text ∷ texts) (line ∷ lines) rest h g = subst (λ ls. AllGood [] ls) (sym (turned_over line lines rest)) (good_lines texts lines (line ∷ rest) h.0 (h.1.fits, g))

-- no line of a script is bad after the earlier ones
pub all_good : (bytes : List ℕ) (lines : List Line) → IsScript bytes lines → AllGood [] lines
all_good bytes lines h = subst (λ ls. AllGood [] ls) (append-nil (reverse (reverse lines)) ∙ reverse-reverse lines) (good_lines (reverse (text_lines bytes)) (reverse lines) [] h tt)
