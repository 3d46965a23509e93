-- A script as bytes: its lines, and the first that is bad.
use Rattle.std.specs.Prelude.{◌≡◌, ℕ, ◌+◌, ◌<◌, ◌≤◌, ◌==◌, List, [], ◌∷◌, ◌++◌, length, reverse, Some, None, Result, Ok, Err, if◌then◌else◌}
use Rattle.std.specs.List.{onto_first}
use Rattle.txn_lines.specs.declared.line.Line.{Line}
use Rattle.txn_lines.specs.declared.script.Why.{Why}
use Rattle.txn_lines.specs.declared.script.Why.TheVariants.{TooMany, TooLong, Word}
use Rattle.txn_lines.specs.Grammar.{IsLine}
use Rattle.txn_lines.specs.Lines.{max_lines, why_after}

abbrev pub max_line_bytes : ℕ
max_line_bytes = 4096

-- what 65537 lines of so many bytes need, with their newlines
abbrev pub most_bytes : ℕ
most_bytes = 268505089

-- no line is spelled so
abbrev pub IsNoLine : List ℕ → Type 0
IsNoLine bytes = (line : Line) → IsLine bytes line → ⊥

-- what the bytes of a line stand for, or why it is bad by itself
abbrev pub IsReading : List ℕ → Result Line Why → Type 0
IsReading bytes (Ok line) = (length bytes ≤ max_line_bytes) × IsLine bytes line
IsReading bytes (Err TooLong) = max_line_bytes < length bytes
IsReading bytes (Err Word) = (length bytes ≤ max_line_bytes) × IsNoLine bytes
IsReading bytes (Err _) = ⊥

-- The lines of a text, each ended by a newline. The last newline may be missing.
abbrev pub text_lines : List ℕ → List (List ℕ)
text_lines [] = []
text_lines (b ∷ bs) = if b == 10 then [] ∷ text_lines bs else onto_first b (text_lines bs)

-- after these lines, the newest first, the bytes stand for a line that is not bad
pub record IsGood (before : List Line) (bytes : List ℕ) (line : Line) : Type 0 where
  pub room : length before < max_lines
  pub short : length bytes ≤ max_line_bytes
  pub read : IsLine bytes line
  pub fits : why_after before line ≡ None

-- the bytes stand for a line that is bad after these lines
abbrev pub IsBadLine : List Line → List ℕ → Why → Type 0
IsBadLine before bytes why = (line : Line) × IsLine bytes line × (why_after before line ≡ Some why)

-- after these lines, the newest first, the line of these bytes is bad, and this is the first reason
abbrev pub IsBad : List Line → List ℕ → Why → Type 0
IsBad before bytes TooMany = max_lines ≤ length before
IsBad before bytes TooLong = (length before < max_lines) × (max_line_bytes < length bytes)
IsBad before bytes Word = (length before < max_lines) × (length bytes ≤ max_line_bytes) × IsNoLine bytes
IsBad before bytes why = (length before < max_lines) × (length bytes ≤ max_line_bytes) × IsBadLine before bytes why

-- these texts stand for these lines, none of them bad; both newest first
abbrev pub AreGood : List (List ℕ) → List Line → Type 0
AreGood [] [] = Unit {0}
AreGood [] (line ∷ lines) = ⊥
AreGood (text ∷ texts) [] = ⊥
AreGood (text ∷ texts) (line ∷ lines) = AreGood texts lines × IsGood lines text line

-- the bytes stand for these lines, none of them bad
abbrev pub IsScript : List ℕ → List Line → Type 0
IsScript bytes lines = AreGood (reverse (text_lines bytes)) (reverse lines)

-- line n, counted from 1, is the first bad line of the bytes, and this is its first reason
pub record IsFirstBad (bytes : List ℕ) (n : ℕ) (why : Why) : Type 0 where
  pub texts : List (List ℕ)
  pub before : List Line
  pub bad : List ℕ
  pub rest : List (List ℕ)
  pub cut : text_lines bytes ≡ reverse texts ++ bad ∷ rest
  pub good : AreGood texts before
  pub number : n ≡ length before + 1
  pub reason : IsBad before bad why
