-- Reading a script line after line.
use Rattle.std.proofs.Common.{◌≡◌, ℕ, ◌+◌, ◌<◌, Bool, true, false, cond, eqb, leb, ltb, ◌&&◌, List, [], ◌∷◌, ◌++◌, length, reverse, Option, Some, None, Ok, Err, refl, sym, ap, subst, ◌∙◌, append_assoc, arith}
use Rattle.std.proofs.lemmas.Bool.{lt-leb}
use Rattle.std.proofs.lemmas.List.{append-nil, reverse-append, reverse-reverse, length-reverse}
use Rattle.txn_lines.specs.Deeds.{deed_of}
use Rattle.txn_lines.specs.declared.deed.Deed.{Deed}
use Rattle.txn_lines.specs.declared.deed.Deed.TheVariants.{Connect, Happens}
use Rattle.txn_lines.specs.declared.happening.Happening.TheVariants.{Clock, Split}
use Rattle.txn_lines.specs.declared.line.Line.{Line}
use Rattle.txn_lines.specs.declared.line_kinds.LineKind.{LineKind}
use Rattle.txn_lines.specs.declared.script.Why.{Why}
use Rattle.txn_lines.specs.declared.script.Why.TheVariants.{TooMany, TooLong, Word, NotEarlier, Kind, EmptySplit, ClockHigh, ClockFalls, Clients}
use Rattle.txn_lines.specs.Lines.{max_lines, max_clients, max_clock, named_by, line_at, is_line_of, why_named, clients_in, clock_in, why_alone, why_by, or_else, why_after}
use Rattle.txn_lines.specs.Reading.{cut_at}
use Rattle.txn_lines.specs.Text.{text_lines, IsReading, IsGood, IsBad, AreGood, IsScript, IsFirstBad}
use Rattle.txn_lines.proofs.Cuts.{IsFree, IsCut, cut_is}

-- a line and its newline
pub text_line : (xs rest : List ℕ) → IsFree 10 xs → text_lines (xs ++ 10 ∷ rest) ≡ xs ∷ text_lines rest
text_line [] rest free = refl
text_line (x ∷ xs) rest free = rw (free.0, text_line xs rest free.1) refl

-- the last line, without its newline
pub text_last : (x : ℕ) (xs : List ℕ) → IsFree 10 (x ∷ xs) → text_lines (x ∷ xs) ≡ (x ∷ xs) ∷ []
text_last x [] free = rw free.0 refl
text_last x (y ∷ ys) free = rw (free.0, text_last y ys free.1) refl

-- the lines that were read so far, and the text that is left
pub record ReadSoFar (bytes rest : List ℕ) (lines : List Line) : Type 0 where
  pub texts : List (List ℕ)
  pub cut : text_lines bytes ≡ reverse texts ++ text_lines rest
  pub good : AreGood texts (reverse lines)

pub starts : (bytes : List ℕ) → ReadSoFar bytes bytes []
starts bytes = record { texts = []; cut = refl; good = tt }

pub goes_on : (bytes rest text after : List ℕ) (lines : List Line) (line : Line) → ReadSoFar bytes rest lines → text_lines rest ≡ text ∷ text_lines after → IsGood (reverse lines) text line → ReadSoFar bytes after (lines ++ line ∷ [])
goes_on bytes rest text after lines line so_far cut good =
    let front : reverse (text ∷ so_far.texts) ≡ reverse so_far.texts ++ text ∷ [] = reverse-append (text ∷ []) so_far.texts in
    let back : reverse (lines ++ line ∷ []) ≡ line ∷ reverse lines = reverse-append lines (line ∷ []) in
    record {
      texts = text ∷ so_far.texts;
      cut = so_far.cut ∙ ap (λ (r : List (List ℕ)). reverse so_far.texts ++ r) cut ∙ rw front (sym (append_assoc (reverse so_far.texts) (text ∷ []) (text_lines after)));
      good = rw back (so_far.good, good);
    }

pub ends : (bytes : List ℕ) (lines : List Line) → ReadSoFar bytes [] lines → IsScript bytes lines
ends bytes lines so_far =
    let all : reverse (text_lines bytes) ≡ so_far.texts = ap reverse (so_far.cut ∙ append-nil (reverse so_far.texts)) ∙ reverse-reverse so_far.texts in
    rw all so_far.good

pub is_first_bad : (bytes rest text after : List ℕ) (lines : List Line) (why : Why) → ReadSoFar bytes rest lines → text_lines rest ≡ text ∷ text_lines after → IsBad (reverse lines) text why → IsFirstBad bytes (length lines + 1) why
is_first_bad bytes rest text after lines why so_far cut bad = record {
  texts = so_far.texts;
  before = reverse lines;
  bad = text;
  rest = text_lines after;
  cut = so_far.cut ∙ ap (λ (r : List (List ℕ)). reverse so_far.texts ++ r) cut;
  good = so_far.good;
  number = omega (arith, length-reverse lines);
  reason = bad;
}

-- a line that is cut off
pub found_line : (text before after : List ℕ) → Some (before, after) ≡ cut_at 10 text → text_lines text ≡ before ∷ text_lines after
found_line text before after e =
    let cut : IsFree 10 before × (text ≡ before ++ 10 ∷ after) = subst (λ (found : Option (List ℕ × List ℕ)). IsCut 10 text found) (sym e) (cut_is 10 text) in
    rw cut.1 (text_line before after cut.0)

pub only_line : (text : List ℕ) → 0 < length text → None ≡ cut_at 10 text → text_lines text ≡ text ∷ []
only_line [] long e = absurd (omega arith)
only_line (x ∷ xs) long e = text_last x xs (subst (λ (found : Option (List ℕ × List ℕ)). IsCut 10 (x ∷ xs) found) (sym e) (cut_is 10 (x ∷ xs)))

-- a reason that comes after those of the text as a whole
abbrev IsOfLine : Option Why → Type 0
IsOfLine None = Unit {0}
IsOfLine (Some TooMany) = ⊥
IsOfLine (Some TooLong) = ⊥
IsOfLine (Some Word) = ⊥
IsOfLine (Some _) = Unit {0}

either_of_line : (test : Bool) (one other : Option Why) → IsOfLine one → IsOfLine other → IsOfLine (cond test one other)
either_of_line true one other first second = first
either_of_line false one other first second = second

named_of_line : (before : List Line) (named : Option (ℕ × LineKind)) → IsOfLine (why_named before named)
named_of_line before None = tt
named_of_line before (Some named) =
    either_of_line (leb 1 named.0 && leb named.0 (length before)) _ (Some NotEarlier) (either_of_line (is_line_of named.1 (line_at before named.0)) None (Some Kind) tt tt) tt

by_deed : (clients clock : ℕ) (deed : Deed) → IsOfLine (why_by clients clock deed)
by_deed clients clock (Happens (Split key)) = either_of_line (eqb (length key) 0) (Some EmptySplit) None tt tt
by_deed clients clock (Happens (Clock ms)) = either_of_line (leb max_clock ms) (Some ClockHigh) _ tt (either_of_line (ltb ms clock) (Some ClockFalls) None tt tt)
by_deed clients clock Connect = either_of_line (leb max_clients clients) (Some Clients) None tt tt
by_deed clients clock _ = tt

alone_of_line : (clients clock : ℕ) (line : Line) → IsOfLine (why_alone clients clock line)
alone_of_line clients clock line = by_deed clients clock (deed_of line)

first_of_line : (first later : Option Why) → IsOfLine first → IsOfLine later → IsOfLine (or_else first later)
first_of_line None later h k = k
first_of_line (Some why) later h k = h

after_of_line : (before : List Line) (line : Line) → length before < max_lines → IsOfLine (why_after before line)
after_of_line before line room =
    rw (lt-leb max_lines (length before) room) (first_of_line (why_named before (named_by line)) (why_alone (clients_in before) (clock_in before) line) (named_of_line before (named_by line)) (alone_of_line (clients_in before) (clock_in before) line))

-- a line that is bad by itself
pub bad_by_itself : (before : List Line) (text : List ℕ) (why : Why) → length before < max_lines → IsReading text (Err why) → IsBad before text why
bad_by_itself before text TooLong room h = (room, h)
bad_by_itself before text Word room h = (room, h.0, h.1)
bad_by_itself before text why room h = absurd h

-- a line that is bad after the lines before it
pub bad_after : (before : List Line) (text : List ℕ) (line : Line) (why : Why) → length before < max_lines → IsReading text (Ok line) → why_after before line ≡ Some why → IsBad before text why
bad_after before text line TooMany room h e = absurd (subst IsOfLine e (after_of_line before line room))
bad_after before text line TooLong room h e = absurd (subst IsOfLine e (after_of_line before line room))
bad_after before text line Word room h e = absurd (subst IsOfLine e (after_of_line before line room))
bad_after before text line why room h e = (room, h.0, (line, h.1, e))
