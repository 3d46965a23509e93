-- What is kept says of a line what the lines before it say.
use Rattle.std.proofs.Common.{◌≡◌, ℕ, suc, zero, ◌+◌, ◌-◌, ◌<◌, ◌≤◌, Bool, true, false, cond, leb, ◌&&◌, List, [], ◌∷◌, ◌++◌, length, Option, Some, None, refl, ap, arith, inl, inr}
use Rattle.std.specs.Prelude.{slice_get}
use Rattle.std.proofs.lemmas.Bool.{cases_eq, eq-eqb, ne_eqb, leb-true, and_parts}
use Rattle.std.proofs.lemmas.List.{length-append}
use Rattle.txn_lines.specs.declared.line.Line.{Line}
use Rattle.txn_lines.specs.declared.line_kinds.LineKind.{LineKind}
use Rattle.txn_lines.specs.declared.script.Why.TheVariants.{NotEarlier, Kind}
use Rattle.txn_lines.specs.Lines.{kind_of, named_by, line_at, is_line_of, why_named, clients_in, clock_after, clock_in, why_after}
use Rattle.txn_lines.specs.Kinds.{kinds_of, is_some_kind, why_kind, why_kinds, why_so_far}

pub length-kinds_of : (before : List Line) → length (kinds_of before).kinds ≡ length before
length-kinds_of [] = refl
length-kinds_of (line ∷ before) = omega (arith, length-append (kinds_of before).kinds (kind_of line ∷ []), length-kinds_of before)

clients_of : (before : List Line) → (kinds_of before).clients ≡ clients_in before
clients_of [] = refl
clients_of (line ∷ before) = rw (clients_of before) refl

clock_of : (before : List Line) → (kinds_of before).clock ≡ clock_in before
clock_of [] = refl
clock_of (line ∷ before) = ap (clock_after line) (clock_of before)

get_left : (ks : List LineKind) (k : LineKind) (i : ℕ) → i < length ks → slice_get (ks ++ k ∷ []) i ≡ slice_get ks i
get_left [] k i lt = absurd (omega arith)
get_left (x ∷ ks) k zero lt = refl
get_left (x ∷ ks) k (suc i) lt = get_left ks k i (omega arith)

get_last : (ks : List LineKind) (k : LineKind) (i : ℕ) → i ≡ length ks → slice_get (ks ++ k ∷ []) i ≡ Some k
get_last [] k zero e = refl
get_last [] k (suc i) e = absurd (omega arith)
get_last (x ∷ ks) k zero e = absurd (omega arith)
get_last (x ∷ ks) k (suc i) e = get_last ks k i (omega arith)

kind_at : (wanted : LineKind) (before : List Line) (n : ℕ) → 1 ≤ n → n ≤ length before → is_some_kind wanted (slice_get (kinds_of before).kinds (n - 1)) ≡ is_line_of wanted (line_at before n)
kind_at wanted [] n low high = absurd (omega arith)
kind_at wanted (line ∷ before) n low high =
    elim (cases_eq (length before + 1) n) [
      | inl here ↦
          let last : slice_get ((kinds_of before).kinds ++ kind_of line ∷ []) (n - 1) ≡ Some (kind_of line) = get_last (kinds_of before).kinds (kind_of line) (n - 1) (omega (arith, length-kinds_of before)) in
          rw (last, eq-eqb (length before + 1) n here) refl
      | inr above ↦
          let left : slice_get ((kinds_of before).kinds ++ kind_of line ∷ []) (n - 1) ≡ slice_get (kinds_of before).kinds (n - 1) = get_left (kinds_of before).kinds (kind_of line) (n - 1) (omega (arith, length-kinds_of before, above)) in
          rw (left, ne_eqb (length before + 1) n above) (kind_at wanted before n low (omega (arith, above)))
    ]

named_kind : (before : List Line) (n : ℕ) (wanted : LineKind) → why_kind (kinds_of before).kinds n wanted ≡ why_named before (Some (n, wanted))
named_kind before n wanted = rw (length-kinds_of before) (within (leb 1 n && leb n (length before)) refl)
  where
    within : (b : Bool) → (leb 1 n && leb n (length before)) ≡ b
        → cond b (cond (is_some_kind wanted (slice_get (kinds_of before).kinds (n - 1))) None (Some Kind)) (Some NotEarlier) ≡ cond b (cond (is_line_of wanted (line_at before n)) None (Some Kind)) (Some NotEarlier)
    within true e =
        let both = and_parts (leb 1 n) (leb n (length before)) e in
        rw (kind_at wanted before n (leb-true 1 n both.0) (leb-true n (length before) both.1)) refl
    within false e = refl

named_kinds : (before : List Line) (named : Option (ℕ × LineKind)) → why_kinds (kinds_of before).kinds named ≡ why_named before named
named_kinds before None = refl
named_kinds before (Some named) = named_kind before named.0 named.1

pub why_so_far-kinds_of : (before : List Line) (line : Line) → why_so_far (kinds_of before) line ≡ why_after before line
unfolding why_so_far
why_so_far-kinds_of before line = rw (length-kinds_of before, named_kinds before (named_by line), clients_of before, clock_of before) refl
