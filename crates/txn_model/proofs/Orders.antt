-- Commits and rolled starts stay in order, one by one.
use Rattle.std.proofs.Common.{◌≡◌, ℕ, ◌<◌, ◌≤◌, Bool, true, false, ◌&&◌, ◌||◌, cond, List, [], ◌∷◌, Some, None, nat_eq, nat_lt, refl, ◌∙◌, arith}
use Rattle.std.specs.Prelude.{if◌then◌else◌}
use Rattle.std.proofs.lemmas.Bool.Decides.{nat_tests}
use Rattle.txn_model.specs.declared.cell.Write.{Write}
use Rattle.txn_model.specs.Locks.{has_start, commit_of, with_commit, all_above}
use Rattle.txn_model.specs.Orderly.{AllFrom, CommitsAscend, StartsDiffer, AllLater, StartsAscend}
use Rattle.txn_model.specs.Settle.{with_start}

-- The commits.

pub from_less : (m n : ℕ) (ws : List Write) → m ≤ n → AllFrom n ws → AllFrom m ws
from_less m n [] l a = tt
from_less m n (w ∷ ws) l a = (let h = a.0 in omega (arith, h), from_less m n ws l a.1)

from_above : (n : ℕ) (ws : List Write) → all_above n ws ≡ true → AllFrom n ws
from_above n [] h = tt
from_above n (w ∷ ws) h = by (λ g. from_above n ws g) (nat_lt n w.commit) refl h
  where
    by : (all_above n ws ≡ true → AllFrom n ws) → (b : Bool) → nat_lt n w.commit ≡ b → (b && all_above n ws) ≡ true → (n ≤ w.commit) × AllFrom n ws
    by rest true e g = (grind (arith, nat_tests), rest g)
    by rest false e g = absurd (cc)

above_from : (n m : ℕ) (ws : List Write) → n < m → AllFrom m ws → all_above n ws ≡ true
above_from n m [] l a = refl
above_from n m (w ∷ ws) l a =
    let here : nat_lt n w.commit ≡ true = let h = a.0 in grind (arith, nat_tests) in
    rw here (above_from n m ws l a.1)

from_with : (n : ℕ) (w : Write) (ws : List Write) → n ≤ w.commit → AllFrom n ws → AllFrom n (with_commit w ws)
from_with n w [] l a = (l, tt)
from_with n w (v ∷ ws) l a = by (all_above w.commit (v ∷ ws)) (from_with n w ws l a.1)
  where
    by : (b : Bool) → AllFrom n (with_commit w ws) → AllFrom n (if b then w ∷ v ∷ ws else v ∷ with_commit w ws)
    by true rest = (l, a)
    by false rest = (a.0, rest)

-- a commit that is not below all of them is not below the first
not_below : (w v : Write) (ws : List Write) → AllFrom v.commit ws → all_above w.commit (v ∷ ws) ≡ false → v.commit ≤ w.commit
not_below w v ws a h = by (nat_lt w.commit v.commit) refl
  where
    by : (b : Bool) → nat_lt w.commit v.commit ≡ b → v.commit ≤ w.commit
    by false e = grind (arith, nat_tests)
    by true e =
        let less : w.commit < v.commit = grind (arith, nat_tests) in
        let rest = above_from w.commit v.commit ws less a in
        let all : all_above w.commit (v ∷ ws) ≡ true = rw e rest in
        absurd (cc)

pub ascend_with : (w : Write) (ws : List Write) → CommitsAscend ws → CommitsAscend (with_commit w ws)
ascend_with w [] a = (tt, tt)
ascend_with w (v ∷ ws) a = by (all_above w.commit (v ∷ ws)) refl (ascend_with w ws a.1)
  where
    by : (b : Bool) → all_above w.commit (v ∷ ws) ≡ b → CommitsAscend (with_commit w ws) → CommitsAscend (if b then w ∷ v ∷ ws else v ∷ with_commit w ws)
    by true e rest = (from_above w.commit (v ∷ ws) e, a)
    by false e rest = (from_with v.commit w ws (not_below w v ws a.0 e) a.0, rest)

pub commit_of_with : (w : Write) (vs : List Write) (s : ℕ) → commit_of vs w.start ≡ None → commit_of (with_commit w vs) s ≡ cond (nat_eq w.start s) (Some w) (commit_of vs s)
commit_of_with w [] s h = refl
commit_of_with w (v ∷ vs) s h = grind (arith, nat_tests, commit_of_with w vs s)

-- a start without a commit among them has none among those after the first
later_none : (v : Write) (ws : List Write) (s : ℕ) → commit_of (v ∷ ws) s ≡ None → (nat_eq v.start s ≡ false) × (commit_of ws s ≡ None)
later_none v ws s h = by (nat_eq v.start s) refl h
  where
    by : (b : Bool) → nat_eq v.start s ≡ b → cond b (Some v) (commit_of ws s) ≡ None → (nat_eq v.start s ≡ false) × (commit_of ws s ≡ None)
    by true e g = absurd (cc)
    by false e g = (e, g)

pub differ_with : (w : Write) (ws : List Write) → commit_of ws w.start ≡ None → StartsDiffer ws → StartsDiffer (with_commit w ws)
differ_with w [] h a = (refl, tt)
differ_with w (v ∷ ws) h a = by (all_above w.commit (v ∷ ws)) (differ_with w ws (later_none v ws w.start h).1 a.1)
  where
    by : (b : Bool) → StartsDiffer (with_commit w ws) → StartsDiffer (if b then w ∷ v ∷ ws else v ∷ with_commit w ws)
    by true rest = (h, a)
    by false rest =
        let apart = later_none v ws w.start h in
        let other : nat_eq w.start v.start ≡ false = let e = apart.0 in grind (arith, nat_tests) in
        (commit_of_with w ws v.start apart.1 ∙ rw other a.0, rest)

-- The rolled starts.

later_less : (s t : ℕ) (xs : List ℕ) → s < t → AllLater t xs → AllLater s xs
later_less s t [] l a = tt
later_less s t (x ∷ xs) l a = (let h = a.0 in omega (arith, h), later_less s t xs l a.1)

later_with : (n s : ℕ) (xs : List ℕ) → n < s → AllLater n xs → AllLater n (with_start s xs)
later_with n s [] l a = (l, tt)
later_with n s (x ∷ xs) l a = by (nat_lt s x) (nat_eq s x) (later_with n s xs l a.1)
  where
    by : (b e : Bool) → AllLater n (with_start s xs) → AllLater n (if b then s ∷ x ∷ xs else (if e then x ∷ xs else x ∷ with_start s xs))
    by true e rest = (l, a)
    by false true rest = a
    by false false rest = (a.0, rest)

pub start_with : (s : ℕ) (xs : List ℕ) → StartsAscend xs → StartsAscend (with_start s xs)
start_with s [] a = (tt, tt)
start_with s (x ∷ xs) a = by (nat_lt s x) (nat_eq s x) refl refl (start_with s xs a.1)
  where
    by : (b e : Bool) → nat_lt s x ≡ b → nat_eq s x ≡ e → StartsAscend (with_start s xs) → StartsAscend (if b then s ∷ x ∷ xs else (if e then x ∷ xs else x ∷ with_start s xs))
    by true e f g rest = let less : s < x = grind (arith, nat_tests) in ((less, later_less s x xs less a.0), a)
    by false true f g rest = a
    by false false f g rest = let less : x < s = grind (arith, nat_tests) in (later_with x s xs less a.0, rest)

pub has_with_start : (s : ℕ) (xs : List ℕ) (t : ℕ) → has_start (with_start s xs) t ≡ (nat_eq s t || has_start xs t)
has_with_start s [] t = refl
has_with_start s (x ∷ xs) t = grind (arith, nat_tests, has_with_start s xs t)
