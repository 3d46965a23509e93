-- What a clean commit answers, and what it costs.
use Rattle.std.proofs.Common.{◌≡◌, ℕ, zero, suc, ◌+◌, ◌<◌, ◌≤◌, ◌⊎◌, inl, inr, Bool, true, false, not, ◌&&◌, if◌then◌else◌, List, [], ◌∷◌, Some, length, nat_eq, nat_lt, refl, sym, ap, ◌∙◌, subst, subst₂, arith}
use Rattle.std.proofs.lemmas.Bool.Decides.{nat_tests}
use Rattle.txn_script.specs.Lines.{line_at}
use Rattle.txn_script.specs.declared.line.Line.{Line}
use Rattle.txn_script.specs.declared.line.Line.TheVariants.{Blank, Client, Begin, Put, Commit, Deliver}
use Rattle.txn_report.specs.declared.outcome.Outcome.{Outcome}
use Rattle.txn_report.specs.declared.outcome.Outcome.TheVariants.{Ok, Unfinished, Skipped}
use Rattle.txn_report.specs.declared.outcome.Payload.TheVariants.{Commit as Committed_at}
use Rattle.txn_report.specs.declared.report.Report.{Report}
use Rattle.txn_report.specs.declared.report.SentNote.{SentNote}
use Rattle.txn_first.specs.declared.transaction.Status.TheVariants.{Active}
use Rattle.txn_first.specs.Lawful.{sent_of}
use Rattle.txn_first.specs.Script.{outcome_of, history, known}
use Rattle.txn_first.specs.Causes.{is_ok, is_unfinished, is_skipped, is_call_of, is_busy, is_free, allows_commit, status_of, status_after, with_write, writes_of, has_some, CommitsWith, HasCause, Causes}
use Rattle.txn_first.specs.Clean.{lines_before, end_of, is_until, sent_until, slept_until, IsCleanCommit, EndsClean}
use Rattle.txn_first.proofs.Lines.{and_right, line_new, line_old, line_within, line_cases, busy_at}
use Rattle.txn_first.proofs.Opens.{status_skip}

-- The lines before a line.

before_more : (n : ℕ) (k : Line) (ls : List Line) → n ≤ suc (length ls) → lines_before n (k ∷ ls) ≡ lines_before n ls
before_more n k ls h =
    let t : nat_lt (suc (length ls)) n ≡ false = grind (arith, nat_tests) in
    ap (λ (b : Bool). if b then k ∷ ls else lines_before n ls) t

before_all : (n : ℕ) (ls : List Line) → length ls < n → lines_before n ls ≡ ls
before_all n [] h = refl
before_all n (k ∷ ls) h =
    let t : nat_lt (suc (length ls)) n ≡ true = grind (arith, nat_tests) in
    ap (λ (b : Bool). if b then k ∷ ls else lines_before n ls) t

before_at : (n : ℕ) (ls : List Line) (m : ℕ) (l : Line) → line_at (lines_before n ls) m ≡ Some l → (m < n) × (line_at ls m ≡ Some l)
before_at n [] m l e = absurd (cc)
before_at n (k ∷ ls) m l e = by_test (nat_lt (suc (length ls)) n) refl e (before_at n ls m l)
  where
    by_test : (b : Bool) → nat_lt (suc (length ls)) n ≡ b → line_at (if b then k ∷ ls else lines_before n ls) m ≡ Some l → (line_at (lines_before n ls) m ≡ Some l → (m < n) × (line_at ls m ≡ Some l)) → (m < n) × (line_at (k ∷ ls) m ≡ Some l)
    by_test true q f g =
        let w = line_within (k ∷ ls) m l f in
        let a = w.1 in
        let below : suc (length ls) < n = grind (arith, nat_tests) in
        (omega arith, f)
    by_test false q f g =
        let h = g f in
        let w = line_within ls m l h.1 in
        let a = w.1 in
        (h.0, line_old k ls m (λ z. omega arith) ∙ h.1)

-- the cause of a line
causes_at : (sent : List SentNote) (outs : List Outcome) (ended : List ℕ) (ls : List Line) (n : ℕ) (l : Line) → Causes sent outs ended ls → line_at ls n ≡ Some l → HasCause (known outs ended n) (lines_before n ls) (history sent outs (lines_before n ls)) l (outcome_of outs n)
causes_at sent outs ended [] n l c e = absurd (cc)
causes_at sent outs ended (k ∷ ls) n l c e = elim (line_cases k ls n l e) [
  | inl a ↦ newest a.0 a.1
  | inr a ↦ (
      let w = line_within ls n l a.1 in
      let b = w.1 in
      subst (λ z. HasCause (known outs ended n) z (history sent outs z) l (outcome_of outs n)) (sym (before_more n k ls (omega arith))) (causes_at sent outs ended ls n l c.1 a.1)
      )
]
  where
    newest : n ≡ suc (length ls) → k ≡ l → HasCause (known outs ended n) (lines_before n (k ∷ ls)) (history sent outs (lines_before n (k ∷ ls))) l (outcome_of outs n)
    newest s i =
        let before : lines_before n (k ∷ ls) ≡ ls = before_more n k ls (omega arith) ∙ before_all n ls (omega arith) in
        subst (λ z. HasCause (known outs ended n) z (history sent outs z) l (outcome_of outs n)) (sym before) (subst₂ (λ m j. HasCause (known outs ended m) ls (history sent outs ls) j (outcome_of outs m)) (sym s) i c.0)

-- What was known.

picked : (b : Bool) (o : Outcome) → is_unfinished (if b then o else Unfinished) ≡ false → ◌≡◌ {A = Outcome} (if b then o else Unfinished) o
picked true o e = refl
picked false o e = absurd (cc)

-- what was over is as it stayed
known_is : (outs : List Outcome) (ended : List ℕ) (n m : ℕ) → is_unfinished (known outs ended n m) ≡ false → known outs ended n m ≡ outcome_of outs m
known_is outs ended n zero e = absurd (cc)
known_is outs ended n (suc i) e = picked _ _ e

status_skipped : (seen : ℕ → Outcome) (x : ℕ) (ls : List Line) → ((n : ℕ) → line_at ls n ≡ Some (Commit x) → seen n ≡ Skipped) → status_of seen x ls ≡ Active
status_skipped seen x [] h = refl
status_skipped seen x (l ∷ ls) h = at l (status_skipped seen x ls (λ n e. h n (line_old l ls n (λ s. let w = line_within ls n (Commit x) e in let a = w.1 in omega arith) ∙ e))) h
  where
    at : (k : Line) → status_of seen x ls ≡ Active → ((n : ℕ) → line_at (k ∷ ls) n ≡ Some (Commit x) → seen n ≡ Skipped) → status_of seen x (k ∷ ls) ≡ Active
    at Blank e g = e
    at Client e g = e
    at (Begin client) e g = e
    at (Put y k v) e g = e
    at (Deliver t) e g = e
    at (Commit y) e g = by_test (nat_eq y x) refl
      where
        by_test : (b : Bool) → nat_eq y x ≡ b → (if b then status_after (status_of seen x ls) (seen (suc (length ls))) else status_of seen x ls) ≡ Active
        by_test true q =
            let s : y ≡ x = grind (arith, nat_tests) in
            ap (λ o. status_after (status_of seen x ls) o) (g (suc (length ls)) (line_new (Commit y) ls ∙ ap (λ i. Some (Commit i)) s)) ∙ status_skip (status_of seen x ls) ∙ e
        by_test false q = e

-- the writes of x look at the outcomes of its own puts
writes_own : (seen seen' : ℕ → Outcome) (x : ℕ) (ls : List Line) → ((n : ℕ) (k v : List ℕ) → line_at ls n ≡ Some (Put x k v) → seen n ≡ seen' n) → writes_of seen x ls ≡ writes_of seen' x ls
writes_own seen seen' x [] h = refl
writes_own seen seen' x (l ∷ ls) h = at l (writes_own seen seen' x ls (λ n k v e. h n k v (line_old l ls n (λ s. let w = line_within ls n (Put x k v) e in let a = w.1 in omega arith) ∙ e))) h
  where
    at : (j : Line) → writes_of seen x ls ≡ writes_of seen' x ls → ((n : ℕ) (k v : List ℕ) → line_at (j ∷ ls) n ≡ Some (Put x k v) → seen n ≡ seen' n) → writes_of seen x (j ∷ ls) ≡ writes_of seen' x (j ∷ ls)
    at Blank e g = e
    at Client e g = e
    at (Begin client) e g = e
    at (Commit y) e g = e
    at (Deliver t) e g = e
    at (Put y k v) e g = by_test (nat_eq y x) refl
      where
        by_test : (b : Bool) → nat_eq y x ≡ b → (if b && is_ok (seen (suc (length ls))) then with_write (writes_of seen x ls) k v else writes_of seen x ls) ≡ (if b && is_ok (seen' (suc (length ls))) then with_write (writes_of seen' x ls) k v else writes_of seen' x ls)
        by_test true q =
            let s : y ≡ x = grind (arith, nat_tests) in
            let o = g (suc (length ls)) k v (line_new (Put y k v) ls ∙ ap (λ i. Some (Put i k v)) s) in
            rw (e, o) refl
        by_test false q = e

-- Counts.

one_at_most : (a b c : Bool) → (if (a && b) && c then 1 else 0) ≤ (if a then 1 else 0)
one_at_most true true true = omega arith
one_at_most true true false = omega arith
one_at_most true false c = omega arith
one_at_most false b c = omega arith

until_at_most : (n e : ℕ) (ss : List SentNote) → sent_until n e ss ≤ sent_of n ss
until_at_most n e [] = omega arith
until_at_most n e (s ∷ ss) =
    let a = one_at_most (nat_eq s.ticket.line n) (not s.ticket.beat) (is_until e s.at) in
    let b = until_at_most n e ss in
    let here : sent_until n e (s ∷ ss) ≡ (if (nat_eq s.ticket.line n && not s.ticket.beat) && is_until e s.at then 1 else 0) + sent_until n e ss = refl in
    let all : sent_of n (s ∷ ss) ≡ (if nat_eq s.ticket.line n then 1 else 0) + sent_of n ss = refl in
    omega arith

-- A commit line whose earlier ones were all skipped, and that writes.
module _ (sent : List SentNote) (outs : List Outcome) (ended : List ℕ) (lines : List Line) (x n : ℕ) (causes : Causes sent outs ended lines) (at : line_at lines n ≡ Some (Commit x)) (met : is_skipped (outcome_of outs n) ≡ false)
    (first : (m : ℕ) → m < n → line_at lines m ≡ Some (Commit x) → outcome_of outs m ≡ Skipped) (writes : has_some (writes_of (outcome_of outs) x (lines_before n lines)) ≡ true) where
  cause : CommitsWith (is_free (known outs ended n) x (lines_before n lines)) (allows_commit (status_of (known outs ended n) x (lines_before n lines))) (has_some (writes_of (known outs ended n) x (lines_before n lines))) (outcome_of outs n)
  cause = causes_at sent outs ended lines n (Commit x) causes at

  not_free : is_free (known outs ended n) x (lines_before n lines) ≡ false → ⊥
  not_free e =
      let o : outcome_of outs n ≡ Skipped = subst (λ b. CommitsWith b (allows_commit (status_of (known outs ended n) x (lines_before n lines))) (has_some (writes_of (known outs ended n) x (lines_before n lines))) (outcome_of outs n)) e cause in
      let z : true ≡ false = sym (ap is_skipped o) ∙ met in
      cc

  module _ (free : is_free (known outs ended n) x (lines_before n lines) ≡ true) where
    idle : is_busy (known outs ended n) x (lines_before n lines) ≡ true → ⊥
    idle b =
        let z : not (is_busy (known outs ended n) x (lines_before n lines)) ≡ true = and_right (is_ok (known outs ended n x)) (not (is_busy (known outs ended n) x (lines_before n lines))) free in
        let y : false ≡ true = sym (ap not b) ∙ z in
        cc

    -- each earlier call of x was over
    over : (m : ℕ) (l : Line) → line_at (lines_before n lines) m ≡ Some l → is_call_of x l m ≡ true → known outs ended n m ≡ outcome_of outs m
    over m l e c = by_test (is_unfinished (known outs ended n m)) refl
      where
        by_test : (b : Bool) → is_unfinished (known outs ended n m) ≡ b → known outs ended n m ≡ outcome_of outs m
        by_test true q = absurd (idle (busy_at (known outs ended n) x (lines_before n lines) m l e c q))
        by_test false q = known_is outs ended n m q

    itself : nat_eq x x ≡ true
    itself = grind (arith, nat_tests)

    active : status_of (known outs ended n) x (lines_before n lines) ≡ Active
    active = status_skipped (known outs ended n) x (lines_before n lines) (λ m e. let w = before_at n lines m (Commit x) e in over m (Commit x) e itself ∙ first m w.0 w.1)

    written : has_some (writes_of (known outs ended n) x (lines_before n lines)) ≡ true
    written = ap has_some (writes_own (known outs ended n) (outcome_of outs) x (lines_before n lines) (λ m k v e. over m (Put x k v) e itself)) ∙ writes

    free_answers : (outcome_of outs n ≡ Unfinished) ⊎ ((c : ℕ) × (outcome_of outs n ≡ Ok (Committed_at (Some c))))
    free_answers =
        let a : CommitsWith true (allows_commit (status_of (known outs ended n) x (lines_before n lines))) (has_some (writes_of (known outs ended n) x (lines_before n lines))) (outcome_of outs n) = subst (λ b. CommitsWith b (allows_commit (status_of (known outs ended n) x (lines_before n lines))) (has_some (writes_of (known outs ended n) x (lines_before n lines))) (outcome_of outs n)) free cause in
        subst₂ (λ b c. CommitsWith true b c (outcome_of outs n)) (ap allows_commit active) written a

  pub clean_answers : (outcome_of outs n ≡ Unfinished) ⊎ ((c : ℕ) × (outcome_of outs n ≡ Ok (Committed_at (Some c))))
  clean_answers = by_test (is_free (known outs ended n) x (lines_before n lines)) refl
    where
      by_test : (b : Bool) → is_free (known outs ended n) x (lines_before n lines) ≡ b → (outcome_of outs n ≡ Unfinished) ⊎ ((c : ℕ) × (outcome_of outs n ≡ Ok (Committed_at (Some c))))
      by_test true q = free_answers q
      by_test false q = absurd (not_free q)

-- where each line has sent five requests at most, and none sleeps
pub ends_clean : (lines : List Line) (report : Report) → Causes report.sent report.outcomes report.ended lines → ((n : ℕ) → sent_of n report.sent ≤ 5) → report.sleeps ≡ [] → (x n : ℕ) → IsCleanCommit lines report x n → EndsClean lines report x n
ends_clean lines report causes few none x n c = record {
  answers = clean_answers report.sent report.outcomes report.ended lines x n causes c.line c.met c.first c.writes;
  few = let a = few n in let b = until_at_most n (end_of report.ended n) report.sent in omega arith;
  awake = ap (λ ss. slept_until n (end_of report.ended n) ss) none;
}
