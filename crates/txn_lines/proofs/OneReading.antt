-- Bytes are read in one way.
use Rattle.std.proofs.Common.{◌≡◌, ℕ, ◌<◌, ◌≤◌, cond, ltb, leb, List, [], ◌∷◌, ◌++◌, length, reverse, Option, Some, None, refl, sym, ap, subst, ◌∙◌, append_assoc, arith, inl, inr}
use Rattle.std.proofs.lemmas.Bool.{cases_order, lt-ltb, le-ltb, le-leb, lt-leb}
use Rattle.std.proofs.lemmas.List.{reverse-append, reverse-reverse, length-reverse}
use Rattle.txn_lines.specs.declared.line.Line.{Line}
use Rattle.txn_lines.specs.declared.script.Why.{Why}
use Rattle.txn_lines.specs.declared.script.Why.TheVariants.{TooMany, TooLong, Word}
use Rattle.txn_lines.specs.Lines.{max_lines, why_after}
use Rattle.txn_lines.specs.Reading.{line_in}
use Rattle.txn_lines.specs.Text.{text_lines, max_line_bytes, IsNoLine, IsGood, IsBadLine, IsBad, AreGood, IsScript, IsFirstBad}
use Rattle.txn_lines.proofs.LineLaws.{line_again, line_takes, one_line}
use Rattle.txn_lines.proofs.Options.{some_is}

-- ---- one line

-- the reason of a line that was read, or not
abbrev why_read : List Line → Option Line → Option Why
why_read before None = Some Word
why_read before (Some line) = why_after before line

-- the first reason why the line of these bytes is bad, if it is
abbrev first_why : List Line → List ℕ → Option Why
first_why before bytes = cond (leb max_lines (length before)) (Some TooMany) (cond (ltb max_line_bytes (length bytes)) (Some TooLong) (why_read before (line_in bytes)))

not_read : (bytes : List ℕ) (found : Option Line) → line_in bytes ≡ found → IsNoLine bytes → found ≡ None
not_read bytes None e none = refl
not_read bytes (Some line) e none = absurd (none line (line_takes bytes line e))

reads_so : (before : List Line) (bytes : List ℕ) (why : Option Why) → length before < max_lines → length bytes ≤ max_line_bytes → why_read before (line_in bytes) ≡ why → first_why before bytes ≡ why
reads_so before bytes why room short e = rw (lt-leb max_lines (length before) room, le-ltb max_line_bytes (length bytes) short) e

line_is_bad : (before : List Line) (bytes : List ℕ) (why : Why) → IsBadLine before bytes why → why_read before (line_in bytes) ≡ Some why
line_is_bad before bytes why (line, read, e) = ap (why_read before) (line_again bytes line read) ∙ e

bad_is : (before : List Line) (bytes : List ℕ) (why : Why) → IsBad before bytes why → first_why before bytes ≡ Some why
bad_is before bytes TooMany h = rw (le-leb max_lines (length before) h) refl
bad_is before bytes TooLong h = rw (lt-leb max_lines (length before) h.0, lt-ltb max_line_bytes (length bytes) h.1) refl
bad_is before bytes Word (room, short, none) = reads_so before bytes (Some Word) room short (ap (why_read before) (not_read bytes (line_in bytes) refl none))
bad_is before bytes why (room, short, line) = reads_so before bytes (Some why) room short (line_is_bad before bytes why line)

good_is : (before : List Line) (bytes : List ℕ) (line : Line) → IsGood before bytes line → first_why before bytes ≡ None
good_is before bytes line h = reads_so before bytes None h.room h.short (ap (why_read before) (line_again bytes line h.read) ∙ h.fits)

-- ---- lists of lines

one_list : (texts : List (List ℕ)) (a b : List Line) → AreGood texts a → AreGood texts b → a ≡ b
one_list [] [] [] ha hb = refl
one_list [] [] (y ∷ b) ha hb = absurd hb
one_list [] (x ∷ a) b ha hb = absurd ha
one_list (t ∷ texts) [] b ha hb = absurd ha
one_list (t ∷ texts) (x ∷ a) [] ha hb = absurd hb
one_list (t ∷ texts) (x ∷ a) (y ∷ b) ha hb =
    let rest : a ≡ b = one_list texts a b ha.0 hb.0 in
    let here : x ≡ y = one_line t x y ha.1.read hb.1.read in
    cc

pub one_script : (bytes : List ℕ) (a b : List Line) → IsScript bytes a → IsScript bytes b → a ≡ b
one_script bytes a b ha hb =
    let e : reverse a ≡ reverse b = one_list (reverse (text_lines bytes)) (reverse a) (reverse b) ha hb in
    sym (reverse-reverse a) ∙ ap reverse e ∙ reverse-reverse b

-- in a list of good lines each is good after those before it
record IsGoodThere (texts : List (List ℕ)) (text : List ℕ) : Type 0 where
  before : List Line
  line : Line
  texts_good : AreGood texts before
  good : IsGood before text line

good_there : (later : List (List ℕ)) (text : List ℕ) (texts : List (List ℕ)) (lines : List Line) → AreGood (later ++ text ∷ texts) lines → IsGoodThere texts text
good_there [] text texts [] h = absurd h
good_there [] text texts (line ∷ lines) h = record { before = lines; line = line; texts_good = h.0; good = h.1 }
good_there (t ∷ later) text texts [] h = absurd h
good_there (t ∷ later) text texts (line ∷ lines) h = good_there later text texts lines h.0

-- a line that is bad is not among good ones
not_among : (later : List (List ℕ)) (text : List ℕ) (texts : List (List ℕ)) (lines before : List Line) (why : Why) → AreGood (later ++ text ∷ texts) lines → AreGood texts before → IsBad before text why → ⊥
not_among later text texts lines before why all good bad =
    let there = good_there later text texts lines all in
    let same : there.before ≡ before = one_list texts there.before before there.texts_good good in
    let none : first_why before text ≡ None = subst (λ (ls : List Line). first_why ls text ≡ None) same (good_is there.before text there.line there.good) in
    let some : first_why before text ≡ Some why = bad_is before text why bad in
    absurd cc

-- the newest first, what stands around a text
around : (texts : List (List ℕ)) (text : List ℕ) (rest : List (List ℕ)) → reverse (reverse texts ++ text ∷ rest) ≡ reverse rest ++ text ∷ texts
around texts text rest =
    let whole : reverse (reverse texts ++ text ∷ rest) ≡ reverse (text ∷ rest) ++ reverse (reverse texts) = reverse-append (reverse texts) (text ∷ rest) in
    let back : reverse (text ∷ rest) ≡ reverse rest ++ text ∷ [] = reverse-append (text ∷ []) rest in
    whole ∙ rw (back, reverse-reverse texts) (append_assoc (reverse rest) (text ∷ []) texts)

pub apart : (bytes : List ℕ) (lines : List Line) (n : ℕ) (why : Why) → IsScript bytes lines → IsFirstBad bytes n why → ⊥
apart bytes lines n why script bad =
    let all : reverse (text_lines bytes) ≡ reverse bad.rest ++ bad.bad ∷ bad.texts = ap reverse bad.cut ∙ around bad.texts bad.bad bad.rest in
    not_among (reverse bad.rest) bad.bad bad.texts (reverse lines) bad.before why (subst (λ (ts : List (List ℕ)). AreGood ts (reverse lines)) all script) bad.good bad.reason

-- ---- two cuts of one list

same_cut : (xs zs : List (List ℕ)) (y w : List ℕ) (r s : List (List ℕ)) → length xs ≡ length zs → xs ++ y ∷ r ≡ zs ++ w ∷ s → (xs ≡ zs) × (y ≡ w)
same_cut [] [] y w r s len e = (refl, cc)
same_cut [] (z ∷ zs) y w r s len e = absurd (omega arith)
same_cut (x ∷ xs) [] y w r s len e = absurd (omega arith)
same_cut (x ∷ xs) (z ∷ zs) y w r s len e =
    let tails : xs ++ y ∷ r ≡ zs ++ w ∷ s = cc in
    let heads : x ≡ z = cc in
    let rest = same_cut xs zs y w r s (omega arith) tails in
    let front : xs ≡ zs = rest.0 in
    (cc, rest.1)

earlier_cut : (xs zs : List (List ℕ)) (y w : List ℕ) (r s : List (List ℕ)) → length xs < length zs → xs ++ y ∷ r ≡ zs ++ w ∷ s → (m : List (List ℕ)) × (zs ≡ xs ++ y ∷ m)
earlier_cut [] [] y w r s len e = absurd (omega arith)
earlier_cut [] (z ∷ zs) y w r s len e = let head : y ≡ z = cc in (zs, cc)
earlier_cut (x ∷ xs) [] y w r s len e = absurd (omega arith)
earlier_cut (x ∷ xs) (z ∷ zs) y w r s len e =
    let tails : xs ++ y ∷ r ≡ zs ++ w ∷ s = cc in
    let head : x ≡ z = cc in
    let rest = earlier_cut xs zs y w r s (omega arith) tails in
    let front : zs ≡ xs ++ y ∷ rest.0 = rest.1 in
    (rest.0, cc)

length-AreGood : (texts : List (List ℕ)) (lines : List Line) → AreGood texts lines → length texts ≡ length lines
length-AreGood [] [] h = refl
length-AreGood [] (line ∷ lines) h = absurd h
length-AreGood (t ∷ texts) [] h = absurd h
length-AreGood (t ∷ texts) (line ∷ lines) h = omega (arith, length-AreGood texts lines h.0)

-- no bad line comes before a first one
none_before : (bytes : List ℕ) (m n : ℕ) (x y : Why) (a : IsFirstBad bytes m x) (b : IsFirstBad bytes n y) → length a.texts < length b.texts → ⊥
none_before bytes m n x y a b earlier =
    let cut : reverse a.texts ++ a.bad ∷ a.rest ≡ reverse b.texts ++ b.bad ∷ b.rest = sym a.cut ∙ b.cut in
    let there = earlier_cut (reverse a.texts) (reverse b.texts) a.bad b.bad a.rest b.rest (omega (arith, length-reverse a.texts, length-reverse b.texts, earlier)) cut in
    let texts : b.texts ≡ reverse there.0 ++ a.bad ∷ a.texts = sym (reverse-reverse b.texts) ∙ ap reverse there.1 ∙ around a.texts a.bad there.0 in
    not_among (reverse there.0) a.bad a.texts b.before a.before x (subst (λ (ts : List (List ℕ)). AreGood ts b.before) texts b.good) a.good a.reason

one_reason : (bytes : List ℕ) (m n : ℕ) (x y : Why) (a : IsFirstBad bytes m x) (b : IsFirstBad bytes n y) → length a.texts ≡ length b.texts → (m ≡ n) × (x ≡ y)
one_reason bytes m n x y a b same =
    let cut : reverse a.texts ++ a.bad ∷ a.rest ≡ reverse b.texts ++ b.bad ∷ b.rest = sym a.cut ∙ b.cut in
    let here = same_cut (reverse a.texts) (reverse b.texts) a.bad b.bad a.rest b.rest (omega (arith, length-reverse a.texts, length-reverse b.texts, same)) cut in
    let texts : a.texts ≡ b.texts = sym (reverse-reverse a.texts) ∙ ap reverse here.0 ∙ reverse-reverse b.texts in
    let before : a.before ≡ b.before = one_list b.texts a.before b.before (subst (λ (ts : List (List ℕ)). AreGood ts a.before) texts a.good) b.good in
    let of_a : first_why a.before a.bad ≡ Some x = bad_is a.before a.bad x a.reason in
    let of_b : first_why b.before b.bad ≡ Some y = bad_is b.before b.bad y b.reason in
    let moved : first_why a.before a.bad ≡ first_why b.before b.bad = ap (λ (ls : List Line). first_why ls a.bad) before ∙ ap (first_why b.before) here.1 in
    (omega (arith, a.number, b.number, length-AreGood a.texts a.before a.good, length-AreGood b.texts b.before b.good, same), some_is x y (sym of_a ∙ moved ∙ of_b))

pub one_bad : (bytes : List ℕ) (m n : ℕ) (x y : Why) → IsFirstBad bytes m x → IsFirstBad bytes n y → (m ≡ n) × (x ≡ y)
one_bad bytes m n x y a b = elim (cases_order (length a.texts) (length b.texts)) [
  | inl same ↦ one_reason bytes m n x y a b same
  | inr apart ↦ elim apart [
    | inl earlier ↦ absurd (none_before bytes m n x y a b earlier)
    | inr later ↦ absurd (none_before bytes n m y x b a later)
  ]
]
