-- Reading a script line after line.
use Rattle.std.proofs.Common.{◌≡◌, ℕ, ◌+◌, ◌<◌, Bool, true, false, cond, leb, ◌&&◌, List, [], ◌∷◌, ◌++◌, length, reverse, Option, Some, None, Ok, Err, refl, sym, ap, subst, ◌∙◌, append_assoc, arith, inl, inr}
use Rattle.std.proofs.lemmas.Bool.{lt-leb}
use Rattle.std.proofs.lemmas.List.{append-nil, reverse-append, reverse-reverse, length-reverse}
use Rattle.txn_script.specs.declared.line.Line.{Line}
use Rattle.txn_script.specs.declared.line.Line.TheVariants.{Blank, Client, Begin, Put, Commit, Deliver}
use Rattle.txn_script.specs.declared.script.Why.{Why}
use Rattle.txn_script.specs.declared.script.Why.TheVariants.{TooMany, TooLong, Word, NotEarlier, Kind}
use Rattle.txn_script.specs.Lines.{max_lines, line_at, is_client, is_begin, is_second, is_some_line, why_names, why_after}
use Rattle.txn_script.specs.Reading.{cut_at}
use Rattle.txn_script.specs.Text.{text_lines, IsReading, IsGood, IsBad, AreGood, IsScript, IsFirstBad}
use Rattle.txn_script.proofs.Cuts.{IsFree, IsCut, cut_is}

-- a line and its newline
pub text_line : (xs rest : List ℕ) → IsFree 10 xs → text_lines (xs ++ 10 ∷ rest) ≡ xs ∷ text_lines rest
text_line [] rest free = refl
text_line (x ∷ xs) rest free = rw (free.0, text_line xs rest free.1) refl

-- the last line, without its newline
pub text_last : (x : ℕ) (xs : List ℕ) → IsFree 10 (x ∷ xs) → text_lines (x ∷ xs) ≡ (x ∷ xs) ∷ []
text_last x [] free = rw free.0 refl
text_last x (y ∷ ys) free = rw (free.0, text_last y ys free.1) refl

-- the lines that were read so far, and the text that is left
pub record ReadSoFar (bytes rest : List ℕ) (lines : List Line) : Type 0 where
  pub texts : List (List ℕ)
  pub cut : text_lines bytes ≡ reverse texts ++ text_lines rest
  pub good : AreGood texts (reverse lines)

pub starts : (bytes : List ℕ) → ReadSoFar bytes bytes []
starts bytes = record { texts = []; cut = refl; good = tt }

pub goes_on : (bytes rest text after : List ℕ) (lines : List Line) (line : Line) → ReadSoFar bytes rest lines → text_lines rest ≡ text ∷ text_lines after → IsGood (reverse lines) text line → ReadSoFar bytes after (lines ++ line ∷ [])
goes_on bytes rest text after lines line so_far cut good =
    let front : reverse (text ∷ so_far.texts) ≡ reverse so_far.texts ++ text ∷ [] = reverse-append (text ∷ []) so_far.texts in
    let back : reverse (lines ++ line ∷ []) ≡ line ∷ reverse lines = reverse-append lines (line ∷ []) in
    record {
      texts = text ∷ so_far.texts;
      cut = so_far.cut ∙ ap (λ (r : List (List ℕ)). reverse so_far.texts ++ r) cut ∙ rw front (sym (append_assoc (reverse so_far.texts) (text ∷ []) (text_lines after)));
      good = rw back (so_far.good, good);
    }

pub ends : (bytes : List ℕ) (lines : List Line) → ReadSoFar bytes [] lines → IsScript bytes lines
ends bytes lines so_far =
    let all : reverse (text_lines bytes) ≡ so_far.texts = ap reverse (so_far.cut ∙ append-nil (reverse so_far.texts)) ∙ reverse-reverse so_far.texts in
    rw all so_far.good

pub is_first_bad : (bytes rest text after : List ℕ) (lines : List Line) (why : Why) → ReadSoFar bytes rest lines → text_lines rest ≡ text ∷ text_lines after → IsBad (reverse lines) text why → IsFirstBad bytes (length lines + 1) why
is_first_bad bytes rest text after lines why so_far cut bad = record {
  texts = so_far.texts;
  before = reverse lines;
  bad = text;
  rest = text_lines after;
  cut = so_far.cut ∙ ap (λ (r : List (List ℕ)). reverse so_far.texts ++ r) cut;
  good = so_far.good;
  number = omega (arith, length-reverse lines);
  reason = bad;
}

-- a line that is cut off
pub found_line : (text before after : List ℕ) → Some (before, after) ≡ cut_at 10 text → text_lines text ≡ before ∷ text_lines after
found_line text before after e =
    let cut : IsFree 10 before × (text ≡ before ++ 10 ∷ after) = subst (λ (found : Option (List ℕ × List ℕ)). IsCut 10 text found) (sym e) (cut_is 10 text) in
    rw cut.1 (text_line before after cut.0)

pub only_line : (text : List ℕ) → 0 < length text → None ≡ cut_at 10 text → text_lines text ≡ text ∷ []
only_line [] long e = absurd (omega arith)
only_line (x ∷ xs) long e = text_last x xs (subst (λ (found : Option (List ℕ × List ℕ)). IsCut 10 (x ∷ xs) found) (sym e) (cut_is 10 (x ∷ xs)))

-- a reason that comes after those of the text as a whole
abbrev IsOfLine : Option Why → Type 0
IsOfLine None = Unit {0}
IsOfLine (Some TooMany) = ⊥
IsOfLine (Some TooLong) = ⊥
IsOfLine (Some Word) = Unit {0}
IsOfLine (Some NotEarlier) = Unit {0}
IsOfLine (Some Kind) = Unit {0}

named_of_line : (earlier fits : Bool) → IsOfLine (cond earlier (cond fits None (Some Kind)) (Some NotEarlier))
named_of_line true true = tt
named_of_line true false = tt
named_of_line false fits = tt

names_of_line : (before : List Line) (line : Line) → IsOfLine (why_names before line)
names_of_line before Blank = tt
names_of_line before Client = tt
names_of_line before (Begin client) = named_of_line (leb 1 client && leb client (length before)) (is_some_line is_client (line_at before client))
names_of_line before (Put transaction key value) = named_of_line (leb 1 transaction && leb transaction (length before)) (is_some_line is_begin (line_at before transaction))
names_of_line before (Commit transaction) = named_of_line (leb 1 transaction && leb transaction (length before)) (is_some_line is_begin (line_at before transaction))
names_of_line before (Deliver t) = tt

word_or : (second : Bool) (later : Option Why) → IsOfLine later → IsOfLine (cond second (Some Word) later)
word_or true later h = tt
word_or false later h = h

after_of_line : (before : List Line) (line : Line) → length before < max_lines → IsOfLine (why_after before line)
after_of_line before line room = rw (lt-leb max_lines (length before) room) (word_or (is_second before line) (why_names before line) (names_of_line before line))

-- a line that is bad by itself
pub bad_by_itself : (before : List Line) (text : List ℕ) (why : Why) → length before < max_lines → IsReading text (Err why) → IsBad before text why
bad_by_itself before text TooMany room h = absurd h
bad_by_itself before text TooLong room h = (room, h)
bad_by_itself before text Word room h = (room, h.0, inl h.1)
bad_by_itself before text NotEarlier room h = absurd h
bad_by_itself before text Kind room h = absurd h

-- a line that is bad after the lines before it
pub bad_after : (before : List Line) (text : List ℕ) (line : Line) (why : Why) → length before < max_lines → IsReading text (Ok line) → why_after before line ≡ Some why → IsBad before text why
bad_after before text line TooMany room h e = absurd (subst IsOfLine e (after_of_line before line room))
bad_after before text line TooLong room h e = absurd (subst IsOfLine e (after_of_line before line room))
bad_after before text line Word room h e = (room, h.0, inr (line, h.1, e))
bad_after before text line NotEarlier room h e = (room, h.0, (line, h.1, e))
bad_after before text line Kind room h e = (room, h.0, (line, h.1, e))
