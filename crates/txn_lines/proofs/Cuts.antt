-- Where a byte first stands.
use Rattle.std.proofs.Common.{◌≡◌, ℕ, suc, ◌+◌, true, false, eqb, ltb, List, [], ◌∷◌, ◌++◌, length, Option, Some, None, refl, ap, ◌∙◌, arith, inl, inr}
use Rattle.std.specs.List.{position_or_len}
use Rattle.std.proofs.lemmas.Bool.{cases_Bool, cases_lt, eqb-true, eq-eqb, lt-ltb, le-ltb}
use Rattle.txn_lines.specs.Reading.{cut_at}

-- the byte does not stand there
abbrev pub IsFree : ℕ → List ℕ → Type 0
IsFree c [] = Unit {0}
IsFree c (b ∷ bs) = (eqb b c ≡ false) × IsFree c bs

pub IsFree-append : (c : ℕ) (xs ys : List ℕ) → IsFree c xs → IsFree c ys → IsFree c (xs ++ ys)
IsFree-append c [] ys fx fy = fy
IsFree-append c (x ∷ xs) ys fx fy = (fx.0, IsFree-append c xs ys fx.1 fy)

-- with one byte more before
abbrev behind : ℕ → Option (List ℕ × List ℕ) → Option (List ℕ × List ℕ)
behind b None = None
behind b (Some parts) = Some (b ∷ parts.0, parts.1)

cut_here : (c b : ℕ) (bs : List ℕ) → eqb b c ≡ true → cut_at c (b ∷ bs) ≡ Some ([], bs)
cut_here c b bs e =
    let at : position_or_len (λ x. eqb x c) (b ∷ bs) ≡ 0 = rw e refl in
    let within : ltb 0 (length (b ∷ bs)) ≡ true = lt-ltb 0 (length (b ∷ bs)) (omega arith) in
    rw (at, within) refl

cut_later : (c b : ℕ) (bs : List ℕ) → eqb b c ≡ false → cut_at c (b ∷ bs) ≡ behind b (cut_at c bs)
cut_later c b bs e =
    let p = position_or_len (λ x. eqb x c) bs in
    let at : position_or_len (λ x. eqb x c) (b ∷ bs) ≡ suc p = rw e (omega arith) in
    elim (cases_lt p (length bs)) [
      | inl lt ↦
          let one : ltb p (length bs) ≡ true = lt-ltb p (length bs) lt in
          let two : ltb (suc p) (length (b ∷ bs)) ≡ true = lt-ltb (suc p) (length (b ∷ bs)) (omega arith) in
          let k : suc p + 1 ≡ suc (p + 1) = omega arith in
          rw (at, one, two, k) refl
      | inr le ↦
          let one : ltb p (length bs) ≡ false = le-ltb p (length bs) le in
          let two : ltb (suc p) (length (b ∷ bs)) ≡ false = le-ltb (suc p) (length (b ∷ bs)) (omega arith) in
          rw (at, one, two) refl
    ]

pub cut_none : (c : ℕ) (bs : List ℕ) → IsFree c bs → cut_at c bs ≡ None
cut_none c [] free = refl
cut_none c (b ∷ bs) free = cut_later c b bs free.0 ∙ ap (behind b) (cut_none c bs free.1)

pub cut_first : (c : ℕ) (xs rest : List ℕ) → IsFree c xs → cut_at c (xs ++ c ∷ rest) ≡ Some (xs, rest)
cut_first c [] rest free = cut_here c c rest (eq-eqb c c refl)
cut_first c (x ∷ xs) rest free = cut_later c x (xs ++ c ∷ rest) free.0 ∙ ap (behind x) (cut_first c xs rest free.1)

-- what a cut found, or that there is nothing to find
abbrev pub IsCut : ℕ → List ℕ → Option (List ℕ × List ℕ) → Type 0
IsCut c bs None = IsFree c bs
IsCut c bs (Some parts) = IsFree c parts.0 × (bs ≡ parts.0 ++ c ∷ parts.1)

IsCut-behind : (c b : ℕ) (bs : List ℕ) (found : Option (List ℕ × List ℕ)) → eqb b c ≡ false → IsCut c bs found → IsCut c (b ∷ bs) (behind b found)
IsCut-behind c b bs None e h = (e, h)
IsCut-behind c b bs (Some parts) e h = ((e, h.0), ap (λ (r : List ℕ). b ∷ r) h.1)

pub cut_is : (c : ℕ) (bs : List ℕ) → IsCut c bs (cut_at c bs)
cut_is c [] = tt
cut_is c (b ∷ bs) =
    elim (cases_Bool (eqb b c)) [
      | inl is ↦ rw (cut_here c b bs is) (tt, ap (λ (x : ℕ). x ∷ bs) (eqb-true b c is))
      | inr not_is ↦ rw (cut_later c b bs not_is) (IsCut-behind c b bs (cut_at c bs) not_is (cut_is c bs))
    ]
