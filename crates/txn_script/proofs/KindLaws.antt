-- The kinds that are kept say of a line what the lines before it say.
use Rattle.std.proofs.Common.{◌≡◌, ℕ, suc, zero, ◌+◌, ◌-◌, ◌<◌, ◌≤◌, Bool, true, false, cond, leb, ◌&&◌, ◌||◌, List, [], ◌∷◌, ◌++◌, length, Some, None, refl, ◌∙◌, arith, inl, inr}
use Rattle.std.specs.Prelude.{slice_get}
use Rattle.std.specs.List.{list_any}
use Rattle.std.proofs.lemmas.Bool.{cases_eq, eq-eqb, ne_eqb, leb-true, and_parts}
use Rattle.std.proofs.lemmas.List.{length-append}
use Rattle.txn_script.specs.declared.line.Line.{Line}
use Rattle.txn_script.specs.declared.line.Line.TheVariants.{Blank, Client, Begin, Put, Commit, Deliver}
use Rattle.txn_script.specs.declared.line_kinds.LineKind.{LineKind}
use Rattle.txn_script.specs.declared.line_kinds.LineKind.TheVariants as kinds
use Rattle.txn_script.specs.declared.script.Why.TheVariants.{NotEarlier, Kind}
use Rattle.txn_script.specs.Lines.{line_at, is_client, is_begin, is_put, any_line, is_second, is_some_line, why_named, why_names, why_after}
use Rattle.txn_script.specs.Kinds.{kind_of, kinds_of, is_kind, is_some_kind, why_kind, is_second_kind, why_kinds, why_by_kinds}

pub length-kinds_of : (before : List Line) → length (kinds_of before) ≡ length before
length-kinds_of [] = refl
length-kinds_of (line ∷ before) = omega (arith, length-append (kinds_of before) (kind_of line ∷ []), length-kinds_of before)

-- a test of a line that its kind answers
abbrev IsTestOf : (Line → Bool) → LineKind → Type 0
IsTestOf p k = (line : Line) → is_kind k (kind_of line) ≡ p line

tests_client : IsTestOf is_client kinds.Client
tests_client Blank = refl
tests_client Client = refl
tests_client (Begin client) = refl
tests_client (Put transaction key value) = refl
tests_client (Commit transaction) = refl
tests_client (Deliver t) = refl

tests_begin : IsTestOf is_begin kinds.Begin
tests_begin Blank = refl
tests_begin Client = refl
tests_begin (Begin client) = refl
tests_begin (Put transaction key value) = refl
tests_begin (Commit transaction) = refl
tests_begin (Deliver t) = refl

tests_put : IsTestOf is_put kinds.Put
tests_put Blank = refl
tests_put Client = refl
tests_put (Begin client) = refl
tests_put (Put transaction key value) = refl
tests_put (Commit transaction) = refl
tests_put (Deliver t) = refl

any_push : (q : LineKind → Bool) (ks : List LineKind) (k : LineKind) → list_any q (ks ++ k ∷ []) ≡ (q k || list_any q ks)
any_push q [] k = refl
any_push q (x ∷ ks) k = rw (any_push q ks k) (swap_or (q x) (q k) (list_any q ks))
  where
    swap_or : (a b c : Bool) → (a || (b || c)) ≡ (b || (a || c))
    swap_or true true c = refl
    swap_or true false c = refl
    swap_or false true c = refl
    swap_or false false c = refl

any_kind : (p : Line → Bool) (k : LineKind) → IsTestOf p k → (before : List Line) → list_any (is_kind k) (kinds_of before) ≡ any_line p before
any_kind p k same [] = refl
any_kind p k same (line ∷ before) = any_push (is_kind k) (kinds_of before) (kind_of line) ∙ rw (same line, any_kind p k same before) refl

get_left : (ks : List LineKind) (k : LineKind) (i : ℕ) → i < length ks → slice_get (ks ++ k ∷ []) i ≡ slice_get ks i
get_left [] k i lt = absurd (omega arith)
get_left (x ∷ ks) k zero lt = refl
get_left (x ∷ ks) k (suc i) lt = get_left ks k i (omega arith)

get_last : (ks : List LineKind) (k : LineKind) (i : ℕ) → i ≡ length ks → slice_get (ks ++ k ∷ []) i ≡ Some k
get_last [] k zero e = refl
get_last [] k (suc i) e = absurd (omega arith)
get_last (x ∷ ks) k zero e = absurd (omega arith)
get_last (x ∷ ks) k (suc i) e = get_last ks k i (omega arith)

kind_at : (p : Line → Bool) (k : LineKind) → IsTestOf p k → (before : List Line) (n : ℕ) → 1 ≤ n → n ≤ length before → is_some_kind (is_kind k) (slice_get (kinds_of before) (n - 1)) ≡ is_some_line p (line_at before n)
kind_at p k same [] n low high = absurd (omega arith)
kind_at p k same (line ∷ before) n low high =
    elim (cases_eq (length before + 1) n) [
      | inl here ↦
          let last : slice_get (kinds_of before ++ kind_of line ∷ []) (n - 1) ≡ Some (kind_of line) = get_last (kinds_of before) (kind_of line) (n - 1) (omega (arith, length-kinds_of before)) in
          rw (last, eq-eqb (length before + 1) n here) (same line)
      | inr above ↦
          let left : slice_get (kinds_of before ++ kind_of line ∷ []) (n - 1) ≡ slice_get (kinds_of before) (n - 1) = get_left (kinds_of before) (kind_of line) (n - 1) (omega (arith, length-kinds_of before, above)) in
          rw (left, ne_eqb (length before + 1) n above) (kind_at p k same before n low (omega (arith, above)))
    ]

why_kind-kinds_of : (p : Line → Bool) (k : LineKind) → IsTestOf p k → (before : List Line) (n : ℕ) → why_kind (kinds_of before) n (is_kind k) ≡ why_named before n p
why_kind-kinds_of p k same before n = rw (length-kinds_of before) (within (leb 1 n && leb n (length before)) refl)
  where
    within : (b : Bool) → (leb 1 n && leb n (length before)) ≡ b → cond b (cond (is_some_kind (is_kind k) (slice_get (kinds_of before) (n - 1))) None (Some Kind)) (Some NotEarlier) ≡ cond b (cond (is_some_line p (line_at before n)) None (Some Kind)) (Some NotEarlier)
    within true e =
        let both = and_parts (leb 1 n) (leb n (length before)) e in
        rw (kind_at p k same before n (leb-true 1 n both.0) (leb-true n (length before) both.1)) refl
    within false e = refl

second_kind : (before : List Line) (line : Line) → is_second_kind (kinds_of before) line ≡ is_second before line
second_kind before Blank = refl
second_kind before Client = any_kind is_client kinds.Client tests_client before
second_kind before (Begin client) = any_kind is_begin kinds.Begin tests_begin before
second_kind before (Put transaction key value) = any_kind is_put kinds.Put tests_put before
second_kind before (Commit transaction) = refl
second_kind before (Deliver t) = refl

names_kind : (before : List Line) (line : Line) → why_kinds (kinds_of before) line ≡ why_names before line
names_kind before Blank = refl
names_kind before Client = refl
names_kind before (Begin client) = why_kind-kinds_of is_client kinds.Client tests_client before client
names_kind before (Put transaction key value) = why_kind-kinds_of is_begin kinds.Begin tests_begin before transaction
names_kind before (Commit transaction) = why_kind-kinds_of is_begin kinds.Begin tests_begin before transaction
names_kind before (Deliver t) = refl

pub why_by_kinds-kinds_of : (before : List Line) (line : Line) → why_by_kinds (kinds_of before) line ≡ why_after before line
unfolding why_by_kinds
why_by_kinds-kinds_of before line = rw (length-kinds_of before, second_kind before line, names_kind before line) refl
