-- Lines and rows by their numbers, and what is folded over them.
use Rattle.std.proofs.Common.{◌≡◌, ◌≢◌, ℕ, zero, suc, ◌+◌, ◌-◌, ◌<◌, ◌≤◌, ◌⊎◌, inl, inr, Bool, true, false, ◌&&◌, ◌||◌, if◌then◌else◌, List, [], ◌∷◌, ◌++◌, Option, Some, None, length, get_or, set, slice_get, nat_eq, nat_le, refl, sym, ap, ◌∙◌, subst, subst₂, arith}
use Rattle.std.proofs.lemmas.Bool.Decides.{nat_tests}
use Rattle.txn_script.specs.Lines.{line_at, max_lines, is_begin, is_put, any_line, is_second, is_some_line, why_named, why_names, why_after}
use Rattle.txn_script.specs.declared.line.Line.{Line}
use Rattle.txn_script.specs.declared.line.Line.TheVariants.{Blank, Client, Begin, Put, Commit, Deliver}
use Rattle.txn_script.specs.declared.script.Why.{Why}
use Rattle.txn_script.specs.declared.script.Why.TheVariants.{TooMany, Word, NotEarlier, Kind}
use Rattle.txn_report.specs.declared.outcome.Outcome.{Outcome}
use Rattle.txn_report.specs.declared.outcome.Outcome.TheVariants.{Unfinished, Skipped}
use Rattle.txn_first.specs.declared.transaction.Status.{Status}
use Rattle.txn_first.specs.declared.transaction.Status.TheVariants.{Active, StartedCommit, Committed}
use Rattle.txn_first.specs.declared.machine.Row.{Row}
use Rattle.txn_first.specs.Lists.{row_at}
use Rattle.txn_first.specs.Script.{outcome_of}
use Rattle.txn_first.specs.Causes.{is_unfinished, is_skipped, is_commit_at, is_call_of, is_busy, status_of, status_after, writes_of}
use Rattle.txn_first.specs.Rowed.{AreGood}
use Rattle.txn_first.proofs.Lists.{get_last, get_same, get_other, get_within, or_same, or_other}

pub and_left : (a b : Bool) → a && b ≡ true → a ≡ true
and_left true b e = refl
and_left false b e = e

pub and_right : (a b : Bool) → a && b ≡ true → b ≡ true
and_right true b e = e
and_right false b e = absurd (cc)

or_false : (a b : Bool) → a || b ≡ false → (a ≡ false) × (b ≡ false)
or_false true b e = absurd (cc)
or_false false b e = (refl, e)

-- Lines by their numbers.

pub line_new : (l : Line) (ls : List Line) → line_at (l ∷ ls) (suc (length ls)) ≡ Some l
line_new l ls =
    let e : nat_eq (length ls + 1) (suc (length ls)) ≡ true = grind (arith, nat_tests) in
    ap (λ (b : Bool). if b then Some l else line_at ls (suc (length ls))) e

pub line_old : (l : Line) (ls : List Line) (n : ℕ) → n ≢ suc (length ls) → line_at (l ∷ ls) n ≡ line_at ls n
line_old l ls n h =
    let e : nat_eq (length ls + 1) n ≡ false = grind (arith, nat_tests) in
    ap (λ (b : Bool). if b then Some l else line_at ls n) e

pub line_within : (ls : List Line) (n : ℕ) (l : Line) → line_at ls n ≡ Some l → (1 ≤ n) × (n ≤ length ls)
line_within [] n l e = absurd (cc)
line_within (k ∷ ls) n l e = by_test (nat_eq n (suc (length ls))) refl (line_within ls n l)
  where
    by_test : (b : Bool) → nat_eq n (suc (length ls)) ≡ b → (line_at ls n ≡ Some l → (1 ≤ n) × (n ≤ length ls)) → (1 ≤ n) × (n ≤ suc (length ls))
    by_test true f within = let s : n ≡ suc (length ls) = grind (arith, nat_tests) in (omega arith, omega arith)
    by_test false f within =
        let apart : n ≢ suc (length ls) = grind (arith, nat_tests) in
        let h = within (sym (line_old k ls n apart) ∙ e) in
        let a = h.0 in let b = h.1 in (omega arith, omega arith)

-- a line of more lines is the newest or an old one
pub line_cases : (k : Line) (ls : List Line) (n : ℕ) (l : Line) → line_at (k ∷ ls) n ≡ Some l → ((n ≡ suc (length ls)) × (k ≡ l)) ⊎ ((n ≢ suc (length ls)) × (line_at ls n ≡ Some l))
line_cases k ls n l e = by_test (nat_eq n (suc (length ls))) refl
  where
    by_test : (b : Bool) → nat_eq n (suc (length ls)) ≡ b → ((n ≡ suc (length ls)) × (k ≡ l)) ⊎ ((n ≢ suc (length ls)) × (line_at ls n ≡ Some l))
    by_test true f =
        let s : n ≡ suc (length ls) = grind (arith, nat_tests) in
        let here : Some k ≡ Some l = sym (line_new k ls) ∙ subst (λ m. line_at (k ∷ ls) m ≡ Some l) s e in
        inl (s, (cc))
    by_test false f =
        let apart : n ≢ suc (length ls) = grind (arith, nat_tests) in
        inr (apart, sym (line_old k ls n apart) ∙ e)

-- Rows by their numbers.

pub row_new : (rows : List Row) (r : Row) → row_at (rows ++ r ∷ []) (suc (length rows)) ≡ Some r
row_new rows r = get_last rows r

pub row_within : (rows : List Row) (n : ℕ) (r : Row) → row_at rows n ≡ Some r → (1 ≤ n) × (n ≤ length rows)
row_within rows zero r e = absurd (cc)
row_within rows (suc i) r e = let h = get_within rows i r e in (omega arith, omega arith)

pub row_old : (rows : List Row) (k : Row) (n : ℕ) → n ≢ suc (length rows) → row_at (rows ++ k ∷ []) n ≡ row_at rows n
row_old rows k zero h = refl
row_old rows k (suc i) h = at rows i (λ e. h (ap (λ m. suc m) e))
  where
    at : (xs : List Row) (j : ℕ) → j ≢ length xs → slice_get (xs ++ k ∷ []) j ≡ slice_get xs j
    at [] zero g = absurd (g refl)
    at [] (suc j) g = refl
    at (x ∷ xs) zero g = refl
    at (x ∷ xs) (suc j) g = at xs j (λ e. g (ap (λ m. suc m) e))

pub row_cases : (rows : List Row) (k : Row) (n : ℕ) (r : Row) → row_at (rows ++ k ∷ []) n ≡ Some r → ((n ≡ suc (length rows)) × (k ≡ r)) ⊎ ((n ≢ suc (length rows)) × (row_at rows n ≡ Some r))
row_cases rows k n r e = by_test (nat_eq n (suc (length rows))) refl
  where
    by_test : (b : Bool) → nat_eq n (suc (length rows)) ≡ b → ((n ≡ suc (length rows)) × (k ≡ r)) ⊎ ((n ≢ suc (length rows)) × (row_at rows n ≡ Some r))
    by_test true f =
        let s : n ≡ suc (length rows) = grind (arith, nat_tests) in
        let here : Some k ≡ Some r = sym (row_new rows k) ∙ subst (λ m. row_at (rows ++ k ∷ []) m ≡ Some r) s e in
        inl (s, (cc))
    by_test false f =
        let apart : n ≢ suc (length rows) = grind (arith, nat_tests) in
        inr (apart, sym (row_old rows k n apart) ∙ e)

pub row_same : (rows : List Row) (x : ℕ) (k r : Row) → row_at rows x ≡ Some r → row_at (set rows (x - 1) k) x ≡ Some k
row_same rows zero k r e = absurd (cc)
row_same rows (suc i) k r e = let s : suc i - 1 ≡ i = omega arith in subst (λ j. slice_get (set rows j k) i ≡ Some k) (sym s) (get_same rows i k r e)

pub row_other : (rows : List Row) (x n : ℕ) (k : Row) → 1 ≤ x → n ≢ x → row_at (set rows (x - 1) k) n ≡ row_at rows n
row_other rows x zero k one h = refl
row_other rows x (suc i) k one h = get_other rows (x - 1) i k (λ e. h (omega arith))

pub row_put : (rows : List Row) (x n : ℕ) (k r s : Row) → row_at rows x ≡ Some s → row_at (set rows (x - 1) k) n ≡ Some r → ((n ≡ x) × (k ≡ r)) ⊎ ((n ≢ x) × (row_at rows n ≡ Some r))
row_put rows x n k r s at e = by_test (nat_eq n x) refl
  where
    by_test : (b : Bool) → nat_eq n x ≡ b → ((n ≡ x) × (k ≡ r)) ⊎ ((n ≢ x) × (row_at rows n ≡ Some r))
    by_test true f =
        let is : n ≡ x = grind (arith, nat_tests) in
        let here : Some k ≡ Some r = sym (row_same rows x k s at) ∙ subst (λ m. row_at (set rows (x - 1) k) m ≡ Some r) is e in
        inl (is, (cc))
    by_test false f =
        let apart : n ≢ x = grind (arith, nat_tests) in
        let w = row_within rows x s at in
        inr (apart, sym (row_other rows x n k w.0 apart) ∙ e)

pub outcome_same : (outs : List Outcome) (x : ℕ) (o : Outcome) → 1 ≤ x → x ≤ length outs → outcome_of (set outs (x - 1) o) x ≡ o
outcome_same outs zero o one last = absurd (omega arith)
outcome_same outs (suc i) o one last = let s : suc i - 1 ≡ i = omega arith in subst (λ j. get_or (set outs j o) i Unfinished ≡ o) (sym s) (or_same outs i o Unfinished (omega arith))

pub outcome_other : (outs : List Outcome) (x n : ℕ) (o : Outcome) → 1 ≤ x → n ≢ x → outcome_of (set outs (x - 1) o) n ≡ outcome_of outs n
outcome_other outs x zero o one h = refl
outcome_other outs x (suc i) o one h = or_other outs (x - 1) i o Unfinished (λ e. h (omega arith))

-- Good lines.

any_none : (p : Line → Bool) (ls : List Line) (n : ℕ) (l : Line) → any_line p ls ≡ false → line_at ls n ≡ Some l → p l ≡ false
any_none p [] n l e h = absurd (cc)
any_none p (k ∷ ls) n l e h =
    let both = or_false (p k) (any_line p ls) e in
    elim (line_cases k ls n l h) [
      | inl a ↦ subst (λ m. p m ≡ false) a.1 both.0
      | inr a ↦ any_none p ls n l both.1 a.1
    ]

why_cases : (many second : Bool) (names : Option Why) → (if many then Some TooMany else (if second then Some Word else names)) ≡ None → (many ≡ false) × (second ≡ false) × (names ≡ None)
why_cases true second names e = absurd (cc)
why_cases false true names e = absurd (cc)
why_cases false false names e = (refl, refl, e)

-- what holds of a line that is not bad
pub good_few : (ls : List Line) (l : Line) → why_after ls l ≡ None → length ls < 65536
good_few ls l e =
    let h = (why_cases (nat_le 65536 (length ls)) (is_second ls l) (why_names ls l) e).0 in
    grind (arith, nat_tests)

pub good_second : (ls : List Line) (l : Line) → why_after ls l ≡ None → is_second ls l ≡ false
good_second ls l e = (why_cases (nat_le max_lines (length ls)) (is_second ls l) (why_names ls l) e).1

named_cases : (p : Line → Bool) (earlier : Bool) (o : Option Line) → (if earlier then (if is_some_line p o then None else Some Kind) else Some NotEarlier) ≡ None → (earlier ≡ true) × (is_some_line p o ≡ true)
named_cases p true o e = (refl, inner (is_some_line p o) e)
  where
    inner : (b : Bool) → ◌≡◌ {A = Option Why} (if b then None else Some Kind) None → b ≡ true
    inner true f = refl
    inner false f = absurd (cc)
named_cases p false o e = absurd (cc)

begin_line : (o : Option Line) → is_some_line is_begin o ≡ true → (client : ℕ) × (o ≡ Some (Begin client))
begin_line None e = absurd (cc)
begin_line (Some Blank) e = absurd (cc)
begin_line (Some Client) e = absurd (cc)
begin_line (Some (Begin client)) e = (client, refl)
begin_line (Some (Put x k v)) e = absurd (cc)
begin_line (Some (Commit x)) e = absurd (cc)
begin_line (Some (Deliver t)) e = absurd (cc)

named_begin : (ls : List Line) (x : ℕ) → why_named ls x is_begin ≡ None → (client : ℕ) × (line_at ls x ≡ Some (Begin client))
named_begin ls x e = begin_line (line_at ls x) (named_cases is_begin (nat_le 1 x && nat_le x (length ls)) (line_at ls x) e).1

pub put_named : (ls : List Line) (x : ℕ) (k v : List ℕ) → why_after ls (Put x k v) ≡ None → (client : ℕ) × (line_at ls x ≡ Some (Begin client))
put_named ls x k v e = named_begin ls x (why_cases (nat_le max_lines (length ls)) (is_second ls (Put x k v)) (why_names ls (Put x k v)) e).2

pub commit_named : (ls : List Line) (x : ℕ) → why_after ls (Commit x) ≡ None → (client : ℕ) × (line_at ls x ≡ Some (Begin client))
commit_named ls x e = named_begin ls x (why_cases (nat_le max_lines (length ls)) (is_second ls (Commit x)) (why_names ls (Commit x)) e).2

-- there is one begin at most
pub no_begin : (ls : List Line) (n client other : ℕ) → why_after ls (Begin client) ≡ None → line_at ls n ≡ Some (Begin other) → ⊥
no_begin ls n client other e h = let a = any_none is_begin ls n (Begin other) (good_second ls (Begin client) e) h in absurd (cc)

pub one_begin : (ls : List Line) (x y a b : ℕ) → AreGood ls → line_at ls x ≡ Some (Begin a) → line_at ls y ≡ Some (Begin b) → x ≡ y
one_begin [] x y a b g e f = absurd (cc)
one_begin (l ∷ ls) x y a b g e f = elim (line_cases l ls x (Begin a) e) [
  | inl p ↦ elim (line_cases l ls y (Begin b) f) [
    | inl q ↦ p.0 ∙ sym q.0
    | inr q ↦ absurd (no_begin ls y a b (subst (λ k. why_after ls k ≡ None) p.1 g.0) q.1)
  ]
  | inr p ↦ elim (line_cases l ls y (Begin b) f) [
    | inl q ↦ absurd (no_begin ls x b a (subst (λ k. why_after ls k ≡ None) q.1 g.0) p.1)
    | inr q ↦ one_begin ls x y a b g.1 p.1 q.1
  ]
]

-- Folds over lines look at the outcomes of those lines alone.

pub status_same : (seen seen' : ℕ → Outcome) (x : ℕ) (ls : List Line) → ((n y : ℕ) → line_at ls n ≡ Some (Commit y) → seen n ≡ seen' n) → status_of seen x ls ≡ status_of seen' x ls
status_same seen seen' x [] h = refl
status_same seen seen' x (l ∷ ls) h = at l (status_same seen seen' x ls (λ n y e. h n y (line_old l ls n (λ s. let w = line_within ls n (Commit y) e in let a = w.1 in omega arith) ∙ e))) h
  where
    at : (k : Line) → status_of seen x ls ≡ status_of seen' x ls → ((n y : ℕ) → line_at (k ∷ ls) n ≡ Some (Commit y) → seen n ≡ seen' n) → status_of seen x (k ∷ ls) ≡ status_of seen' x (k ∷ ls)
    at Blank e g = e
    at Client e g = e
    at (Begin client) e g = e
    at (Put y k v) e g = e
    at (Commit y) e g =
        let o = g (suc (length ls)) y (line_new (Commit y) ls) in
        rw (e, o) refl
    at (Deliver t) e g = e

pub writes_same : (seen seen' : ℕ → Outcome) (x : ℕ) (ls : List Line) → ((n y : ℕ) (k v : List ℕ) → line_at ls n ≡ Some (Put y k v) → seen n ≡ seen' n) → writes_of seen x ls ≡ writes_of seen' x ls
writes_same seen seen' x [] h = refl
writes_same seen seen' x (l ∷ ls) h = at l (writes_same seen seen' x ls (λ n y k v e. h n y k v (line_old l ls n (λ s. let w = line_within ls n (Put y k v) e in let a = w.1 in omega arith) ∙ e))) h
  where
    at : (j : Line) → writes_of seen x ls ≡ writes_of seen' x ls → ((n y : ℕ) (k v : List ℕ) → line_at (j ∷ ls) n ≡ Some (Put y k v) → seen n ≡ seen' n) → writes_of seen x (j ∷ ls) ≡ writes_of seen' x (j ∷ ls)
    at Blank e g = e
    at Client e g = e
    at (Begin client) e g = e
    at (Put y k v) e g =
        let o = g (suc (length ls)) y k v (line_new (Put y k v) ls) in
        rw (e, o) refl
    at (Commit y) e g = e
    at (Deliver t) e g = e

-- nothing is written where no line writes
pub no_writes : (seen : ℕ → Outcome) (x : ℕ) (ls : List Line) → any_line is_put ls ≡ false → writes_of seen x ls ≡ []
no_writes seen x [] h = refl
no_writes seen x (Blank ∷ ls) h = no_writes seen x ls h
no_writes seen x (Client ∷ ls) h = no_writes seen x ls h
no_writes seen x (Begin client ∷ ls) h = no_writes seen x ls h
no_writes seen x (Put y k v ∷ ls) h = absurd (cc)
no_writes seen x (Commit y ∷ ls) h = no_writes seen x ls h
no_writes seen x (Deliver t ∷ ls) h = no_writes seen x ls h

-- x is not busy where none of its calls is open
pub not_busy : (seen : ℕ → Outcome) (x : ℕ) (ls : List Line) → ((n : ℕ) (l : Line) → line_at ls n ≡ Some l → is_call_of x l n ≡ true → is_unfinished (seen n) ≡ false) → is_busy seen x ls ≡ false
not_busy seen x [] h = refl
not_busy seen x (l ∷ ls) h =
    let rest = not_busy seen x ls (λ n k e c. h n k (line_old l ls n (λ s. let w = line_within ls n k e in let a = w.1 in omega arith) ∙ e) c) in
    let here : is_call_of x l (suc (length ls)) && is_unfinished (seen (suc (length ls))) ≡ false = at_newest (is_call_of x l (suc (length ls))) refl in
    rw (here, rest) refl
  where
    at_newest : (b : Bool) → is_call_of x l (suc (length ls)) ≡ b → is_call_of x l (suc (length ls)) && is_unfinished (seen (suc (length ls))) ≡ false
    at_newest true e = rw e (h (suc (length ls)) l (line_new l ls) e)
    at_newest false e = rw e refl

pub busy_at : (seen : ℕ → Outcome) (x : ℕ) (ls : List Line) (n : ℕ) (l : Line) → line_at ls n ≡ Some l → is_call_of x l n ≡ true → is_unfinished (seen n) ≡ true → is_busy seen x ls ≡ true
busy_at seen x [] n l e c u = absurd (cc)
busy_at seen x (k ∷ ls) n l e c u = elim (line_cases k ls n l e) [
  | inl a ↦ newest a.0 a.1
  | inr a ↦ (let h = busy_at seen x ls n l a.1 c u in older (is_call_of x k (suc (length ls)) && is_unfinished (seen (suc (length ls)))) h)
]
  where
    older : (b : Bool) → is_busy seen x ls ≡ true → b || is_busy seen x ls ≡ true
    older true h = refl
    older false h = h

    newest : n ≡ suc (length ls) → k ≡ l → is_busy seen x (k ∷ ls) ≡ true
    newest s i =
        let a : is_call_of x k (suc (length ls)) ≡ true = subst₂ (λ m j. is_call_of x j m ≡ true) s (sym i) c in
        let b : is_unfinished (seen (suc (length ls))) ≡ true = subst (λ m. is_unfinished (seen m) ≡ true) s u in
        rw (a, b) refl

-- A commit that was open ends: the status goes with it, where every later commit line was skipped.

status_step : (st : Status) (o o' : Outcome) → status_after st Unfinished ≡ StartedCommit → is_commit_at o' ≡ true → is_skipped o' ≡ false → status_after st o' ≡ Committed
status_step Active o o' e a b = rw (b, a) refl
status_step StartedCommit o o' e a b = rw (b, a) refl
status_step Committed o o' e a b = absurd (cc)

after_skipped : (st : Status) → status_after st Skipped ≡ st
after_skipped Active = refl
after_skipped StartedCommit = refl
after_skipped Committed = refl

pub status_ended : (seen seen' : ℕ → Outcome) (x m : ℕ) (ls : List Line) → line_at ls m ≡ Some (Commit x) → seen m ≡ Unfinished → is_commit_at (seen' m) ≡ true → is_skipped (seen' m) ≡ false → ((n : ℕ) → n ≢ m → seen n ≡ seen' n) → ((n : ℕ) → m < n → line_at ls n ≡ Some (Commit x) → seen n ≡ Skipped)
    → status_of seen x ls ≡ StartedCommit → status_of seen' x ls ≡ Committed
status_ended seen seen' x m [] e u a b same later s = absurd (cc)
status_ended seen seen' x m (l ∷ ls) e u a b same later s = elim (line_cases l ls m (Commit x) e) [
  | inl p ↦ newest p.0 p.1
  | inr p ↦ older p.1 l (λ q r. status_ended seen seen' x m ls p.1 u a b same q r) later s
]
  where
    itself : nat_eq x x ≡ true
    itself = grind (arith, nat_tests)

    newest : m ≡ suc (length ls) → l ≡ Commit x → status_of seen' x (l ∷ ls) ≡ Committed
    newest i k =
        let was : status_of seen x (Commit x ∷ ls) ≡ StartedCommit = subst (λ j. status_of seen x (j ∷ ls) ≡ StartedCommit) k s in
        let before : status_of seen x ls ≡ status_of seen' x ls = status_same seen seen' x ls (λ n y f. same n (λ q. let w = line_within ls n (Commit y) f in let z = w.1 in omega arith)) in
        let was' : status_after (status_of seen x ls) Unfinished ≡ StartedCommit = sym (ap (λ (c : Bool). if c then status_after (status_of seen x ls) (seen (suc (length ls))) else status_of seen x ls) itself ∙ ap (λ o. status_after (status_of seen x ls) o) (subst (λ n. seen n ≡ Unfinished) i u)) ∙ was in
        let now : status_after (status_of seen x ls) (seen' (suc (length ls))) ≡ Committed = status_step (status_of seen x ls) Unfinished (seen' (suc (length ls))) was' (subst (λ n. is_commit_at (seen' n) ≡ true) i a) (subst (λ n. is_skipped (seen' n) ≡ false) i b) in
        subst (λ j. status_of seen' x (j ∷ ls) ≡ Committed) (sym k) (ap (λ (c : Bool). if c then status_after (status_of seen' x ls) (seen' (suc (length ls))) else status_of seen' x ls) itself ∙ ap (λ st. status_after st (seen' (suc (length ls)))) (sym before) ∙ now)

    older : line_at ls m ≡ Some (Commit x) → (k : Line) → (((n : ℕ) → m < n → line_at ls n ≡ Some (Commit x) → seen n ≡ Skipped) → status_of seen x ls ≡ StartedCommit → status_of seen' x ls ≡ Committed) → ((n : ℕ) → m < n → line_at (k ∷ ls) n ≡ Some (Commit x) → seen n ≡ Skipped) → status_of seen x (k ∷ ls) ≡ StartedCommit → status_of seen' x (k ∷ ls) ≡ Committed
    older f k ended g h = at k g h
      where
        inside : m ≤ length ls
        inside = (line_within ls m (Commit x) f).1

        below : (j : Line) → ((n : ℕ) → m < n → line_at (j ∷ ls) n ≡ Some (Commit x) → seen n ≡ Skipped) → status_of seen x ls ≡ StartedCommit → status_of seen' x ls ≡ Committed
        below j q r = ended (λ n w z. q n w (line_old j ls n (λ y. let v = line_within ls n (Commit x) z in let c = v.1 in omega arith) ∙ z)) r

        at : (j : Line) → ((n : ℕ) → m < n → line_at (j ∷ ls) n ≡ Some (Commit x) → seen n ≡ Skipped) → status_of seen x (j ∷ ls) ≡ StartedCommit → status_of seen' x (j ∷ ls) ≡ Committed
        at Blank q r = below Blank q r
        at Client q r = below Client q r
        at (Begin client) q r = below (Begin client) q r
        at (Put y kk v) q r = below (Put y kk v) q r
        at (Commit y) q r = by_name (nat_eq y x) refl
          where
            by_name : (c : Bool) → nat_eq y x ≡ c → (if nat_eq y x then status_after (status_of seen' x ls) (seen' (suc (length ls))) else status_of seen' x ls) ≡ Committed
            by_name true z =
                let is : y ≡ x = grind (arith, nat_tests) in
                let w = inside in
                let skip : seen (suc (length ls)) ≡ Skipped = q (suc (length ls)) (omega arith) (line_new (Commit y) ls ∙ ap (λ i. Some (Commit i)) is) in
                let skip' : seen' (suc (length ls)) ≡ Skipped = sym (same (suc (length ls)) (λ i. omega arith)) ∙ skip in
                let r' : status_of seen x ls ≡ StartedCommit = sym (ap (λ (c : Bool). if c then status_after (status_of seen x ls) (seen (suc (length ls))) else status_of seen x ls) z ∙ ap (λ o. status_after (status_of seen x ls) o) skip ∙ after_skipped (status_of seen x ls)) ∙ r in
                ap (λ (c : Bool). if c then status_after (status_of seen' x ls) (seen' (suc (length ls))) else status_of seen' x ls) z ∙ ap (λ o. status_after (status_of seen' x ls) o) skip' ∙ after_skipped (status_of seen' x ls) ∙ below (Commit y) q r'
            by_name false z =
                let r' : status_of seen x ls ≡ StartedCommit = sym (ap (λ (c : Bool). if c then status_after (status_of seen x ls) (seen (suc (length ls))) else status_of seen x ls) z) ∙ r in
                ap (λ (c : Bool). if c then status_after (status_of seen' x ls) (seen' (suc (length ls))) else status_of seen' x ls) z ∙ below (Commit y) q r'
        at (Deliver t) q r = below (Deliver t) q r
