-- The newest commits of a key.
use Rattle.std.proofs.Common.{◌≡◌, ℕ, suc, zero, ◌-◌, ◌+◌, ◌<◌, ◌≤◌, true, false, ◌&&◌, List, [], ◌∷◌, ◌++◌, take, get_or, length, Option, Some, None, refl, ap, ◌∙◌, arith}
use Rattle.std.specs.Prelude.{slice_get, nat_le, if◌then◌else◌}
use Rattle.std.proofs.lemmas.Bool.Decides.{nat_tests}
use Rattle.std.proofs.lemmas.List.{take_more}
use Rattle.txn_model.specs.declared.cell.Write.{Write}
use Rattle.txn_model.specs.Orderly.{AllFrom, CommitsAscend}
use Rattle.txn_model.specs.Locks.{newest_after, newest_commit, last_written, or_earlier, is_written}

newest_at : (n : ℕ) (ws : List Write) (w : Write) (k : ℕ) → k + 1 ≡ length ws → slice_get ws k ≡ Some w → newest_after n ws ≡ w.commit
newest_at n [] w k e h = absurd (omega arith)
newest_at n (v ∷ []) w zero e h = cc
newest_at n (v ∷ []) w (suc k) e h = absurd (omega arith)
newest_at n (v ∷ x ∷ ws) w zero e h = absurd (omega arith)
newest_at n (v ∷ x ∷ ws) w (suc k) e h = newest_at v.commit (x ∷ ws) w k (omega arith) h

-- the newest commit is that of the last
pub newest_is : (ws : List Write) (w : Write) → slice_get ws (length ws - 1) ≡ Some w → newest_commit ws ≡ w.commit
newest_is [] w h = cc
newest_is (v ∷ ws) w h = newest_at 0 (v ∷ ws) w (length (v ∷ ws) - 1) (omega arith) h

or_or : {X : Type 0} (a b c : Option X) → or_earlier (or_earlier a b) c ≡ or_earlier a (or_earlier b c)
or_or None b c = refl
or_or (Some x) b c = refl

-- a commit that says what the value is at t
abbrev pub written_by : Write → ℕ → Option Write
written_by w t = if nat_le w.commit t && is_written w.kind then Some w else None

written-append : (ws : List Write) (w : Write) (t : ℕ) → last_written (ws ++ w ∷ []) t ≡ or_earlier (written_by w t) (last_written ws t)
written-append [] w t = by (written_by w t)
  where
    by : (o : Option Write) → o ≡ or_earlier o None
    by None = refl
    by (Some x) = refl
written-append (v ∷ ws) w t = ap (λ o. or_earlier o (written_by v t)) (written-append ws w t) ∙ or_or (written_by w t) (last_written ws t) (written_by v t)

pub written_more : (ws : List Write) (i : ℕ) (d : Write) (t : ℕ) → i < length ws → last_written (take (i + 1) ws) t ≡ or_earlier (written_by (get_or ws i d) t) (last_written (take i ws) t)
written_more ws i d t l = ap (λ xs. last_written xs t) (take_more ws i d l) ∙ written-append (take i ws) (get_or ws i d) t

-- a search from the end finds it, or goes on
pub written_found : (ws : List Write) (i j : ℕ) (w : Write) (t : ℕ) → j ≡ i + 1 → i < length ws → w ≡ get_or ws i w → (nat_le w.commit t && is_written w.kind) ≡ true → last_written (take j ws) t ≡ Some w
written_found ws i j w t e l is holds = rw (e, written_more ws i w t l, ← is, holds) refl

pub written_passed : (ws : List Write) (i j : ℕ) (w : Write) (t : ℕ) → j ≡ i + 1 → i < length ws → w ≡ get_or ws i w → (nat_le w.commit t && is_written w.kind) ≡ false → last_written (take j ws) t ≡ last_written (take i ws) t
written_passed ws i j w t e l is fails = rw (e, written_more ws i w t l, ← is, fails) refl

-- commits that are later than t say nothing at t
pub later_passed : (ws : List Write) (n t : ℕ) → ((i : ℕ) (d : Write) → n ≤ i → i < length ws → nat_le (get_or ws i d).commit t ≡ false) → last_written ws t ≡ last_written (take n ws) t
later_passed [] zero t h = refl
later_passed [] (suc n) t h = refl
later_passed (w ∷ ws) zero t h =
    let first : nat_le w.commit t ≡ false = h 0 w (omega arith) (omega arith) in
    let rest : last_written ws t ≡ last_written (take 0 ws) t = later_passed ws zero t (λ i d a b. h (suc i) d (omega arith) (omega arith)) in
    rw first (ap (λ o. or_earlier o None) rest)
later_passed (w ∷ ws) (suc n) t h = ap (λ o. or_earlier o (written_by w t)) (later_passed ws n t (λ i d a b. h (suc i) d (omega arith) (omega arith)))

-- commits in the order of `commit` do not fall
commits_from : (n : ℕ) (ws : List Write) (j : ℕ) (d : Write) → AllFrom n ws → j < length ws → n ≤ (get_or ws j d).commit
commits_from n [] j d a l = absurd (omega arith)
commits_from n (w ∷ ws) zero d a l = a.0
commits_from n (w ∷ ws) (suc j) d a l = commits_from n ws j d a.1 (omega arith)

pub commits_rise : (ws : List Write) (i j : ℕ) (d : Write) → CommitsAscend ws → i ≤ j → j < length ws → (get_or ws i d).commit ≤ (get_or ws j d).commit
commits_rise [] i j d a le l = absurd (omega arith)
commits_rise (w ∷ ws) zero zero d a le l = omega arith
commits_rise (w ∷ ws) zero (suc j) d a le l = commits_from w.commit ws j d a.0 (omega arith)
commits_rise (w ∷ ws) (suc i) zero d a le l = absurd (omega arith)
commits_rise (w ∷ ws) (suc i) (suc j) d a le l = commits_rise ws i j d a.1 (omega arith) (omega arith)

pub le_trans : (a b t : ℕ) → a ≤ b → nat_le b t ≡ true → nat_le a t ≡ true
le_trans a b t le h = grind (arith, nat_tests)
