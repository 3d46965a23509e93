-- A line that sends nothing.
use Rattle.std.proofs.Common.{◌≡◌, ◌≢◌, ℕ, suc, ◌<◌, ◌≤◌, ◌⊎◌, inl, inr, Bool, true, false, ◌&&◌, if◌then◌else◌, List, [], ◌∷◌, ◌++◌, Option, Some, None, length, get_or, nat_eq, refl, sym, ap, ◌∙◌, subst, arith, length-append}
use Rattle.std.proofs.lemmas.Bool.Decides.{nat_tests}
use Rattle.txn_kv.specs.declared.errors.Error.TheVariants.{OperationAfterCommitError}
use Rattle.txn_history.specs.Event.{Event}
use Rattle.txn_model.specs.Store.{Store}
use Rattle.txn_script.specs.Lines.{line_at, why_after}
use Rattle.txn_script.specs.declared.line.Line.{Line}
use Rattle.txn_script.specs.declared.line.Line.TheVariants.{Begin, Put, Commit}
use Rattle.txn_report.specs.declared.outcome.Outcome.{Outcome}
use Rattle.txn_report.specs.declared.outcome.Outcome.TheVariants.{Err, Unfinished, Skipped}
use Rattle.txn_first.specs.declared.transaction.Transaction.{Transaction}
use Rattle.txn_first.specs.declared.transaction.CommitCall.{CommitCall}
use Rattle.txn_first.specs.declared.transaction.Status.{Status}
use Rattle.txn_first.specs.declared.transaction.Status.TheVariants.{Active, StartedCommit, Committed}
use Rattle.txn_first.specs.declared.machine.Row.{Row}
use Rattle.txn_first.specs.declared.machine.Row.TheVariants.{Plain, Beginning, Running, Committing}
use Rattle.txn_first.specs.Lists.{row_at}
use Rattle.txn_first.specs.Script.{outcome_of}
use Rattle.txn_first.specs.Causes.{is_ok, is_unfinished, status_of, status_after, writes_of, with_write, OwnIsOut}
use Rattle.txn_first.specs.Rowed.{IsIdleBut, CallFits, RunningFits, BeginningFits, RowFits, IsBegun, Rowed, Awaited, Lone}
use Rattle.txn_first.proofs.Histories.{outcome_old}
use Rattle.txn_first.proofs.Lines.{line_old, line_within, line_cases, row_new, row_old, row_cases, row_within, good_few, status_same, writes_same}

-- the newest line is no call that x has open, and leaves what x did as it was
pub record Leaves (l : Line) (ls : List Line) (outs : List Outcome) (o : Outcome) (x : ℕ) : Type 0 where
  pub status : status_of (outcome_of (outs ++ o ∷ [])) x (l ∷ ls) ≡ status_of (outcome_of (outs ++ o ∷ [])) x ls
  pub writes : writes_of (outcome_of (outs ++ o ∷ [])) x (l ∷ ls) ≡ writes_of (outcome_of (outs ++ o ∷ [])) x ls

module _ (l : Line) (ls : List Line) (rows : List Row) (row : Row) (outs : List Outcome) (o : Outcome) (told : length outs ≡ length ls) (counted : length rows ≡ length ls) where
  pub old_outcome : (n : ℕ) → n ≤ length ls → outcome_of (outs ++ o ∷ []) n ≡ outcome_of outs n
  old_outcome n h = outcome_old outs o n (omega arith)

  pub old_row : (n : ℕ) (r : Row) → row_at rows n ≡ Some r → row_at (rows ++ row ∷ []) n ≡ Some r
  old_row n r e = let w = row_within rows n r e in let a = w.1 in row_old rows row n (λ s. omega arith) ∙ e

  pub old_line : (n : ℕ) (k : Line) → line_at ls n ≡ Some k → line_at (l ∷ ls) n ≡ Some k
  old_line n k e = let w = line_within ls n k e in let a = w.1 in line_old l ls n (λ s. omega arith) ∙ e

  pub status_old : (x : ℕ) → status_of (outcome_of (outs ++ o ∷ [])) x ls ≡ status_of (outcome_of outs) x ls
  status_old x = status_same (outcome_of (outs ++ o ∷ [])) (outcome_of outs) x ls (λ n y e. old_outcome n (line_within ls n (Commit y) e).1)

  pub writes_old : (x : ℕ) → writes_of (outcome_of (outs ++ o ∷ [])) x ls ≡ writes_of (outcome_of outs) x ls
  writes_old x = writes_same (outcome_of (outs ++ o ∷ [])) (outcome_of outs) x ls (λ n y k v e. old_outcome n (line_within ls n (Put y k v) e).1)

  -- no call of x is open but n, if the newest line isn't
  pub idle_old : (x n : ℕ) → is_unfinished o ≡ false → IsIdleBut ls outs x n → IsIdleBut (l ∷ ls) (outs ++ o ∷ []) x n
  idle_old x n u h m k e c apart = elim (line_cases l ls m k e) [
    | inl a ↦ newest a.0
    | inr a ↦ (let w = line_within ls m k a.1 in ap is_unfinished (old_outcome m w.1) ∙ h m k a.1 c apart)
  ]
    where
      newest : m ≡ suc (length ls) → is_unfinished (outcome_of (outs ++ o ∷ []) m) ≡ false
      newest s = subst (λ i. is_unfinished (outcome_of (outs ++ o ∷ []) i) ≡ false) (ap (λ i. suc i) told ∙ sym s) (ap is_unfinished (last_outcome) ∙ u)
        where
          last_outcome : outcome_of (outs ++ o ∷ []) (suc (length outs)) ≡ o
          last_outcome = at outs
            where
              at : (xs : List Outcome) → get_or (xs ++ o ∷ []) (length xs) Unfinished ≡ o
              at [] = refl
              at (y ∷ xs) = at xs

  pub running_old : (x : ℕ) (t : Transaction) → is_unfinished o ≡ false → Leaves l ls outs o x → ((call : CommitCall) → t.call ≡ Some call → l ≡ Commit x → o ≡ Skipped) → RunningFits ls rows outs x t → RunningFits (l ∷ ls) (rows ++ row ∷ []) (outs ++ o ∷ []) x t
  running_old x t u leaves skips f = record {
    client = f.client;
    line = old_line x (Begin f.client) f.line;
    start = old_outcome x (line_within ls x (Begin f.client) f.line).1 ∙ f.start;
    status = leaves.status ∙ status_old x ∙ f.status;
    writes = leaves.writes ∙ writes_old x ∙ f.writes;
    call = call_old t.call refl f.call;
  }
    where
      call_old : (c : Option CommitCall) → t.call ≡ c → CallFits ls rows outs x t c → CallFits (l ∷ ls) (rows ++ row ∷ []) (outs ++ o ∷ []) x t c
      call_old None is h = idle_old x 0 u h
      call_old (Some call) is h = record {
        line = old_line call.line (Commit x) h.line;
        row = old_row call.line (Committing x) h.row;
        waits = old_outcome call.line (line_within ls call.line (Commit x) h.line).1 ∙ h.waits;
        started = h.started;
        put = h.put;
        puts = h.puts;
        alone = idle_old x call.line u h.alone;
        later = λ m below e. later_at m below (line_cases l ls m (Commit x) e);
      }
        where
          later_at : (m : ℕ) → call.line < m → (((m ≡ suc (length ls)) × (l ≡ Commit x)) ⊎ ((m ≢ suc (length ls)) × (line_at ls m ≡ Some (Commit x)))) → outcome_of (outs ++ o ∷ []) m ≡ Skipped
          later_at m below k = elim k [
            | inl a ↦ newest a.0 (skips call is a.1)
            | inr a ↦ old_outcome m (line_within ls m (Commit x) a.1).1 ∙ h.later m below a.1
          ]
            where
              newest : m ≡ suc (length ls) → o ≡ Skipped → outcome_of (outs ++ o ∷ []) m ≡ Skipped
              newest s z = subst (λ i. outcome_of (outs ++ o ∷ []) i ≡ Skipped) (ap (λ i. suc i) told ∙ sym s) (at outs ∙ z)
                where
                  at : (xs : List Outcome) → get_or (xs ++ o ∷ []) (length xs) Unfinished ≡ o
                  at [] = refl
                  at (y ∷ xs) = at xs

  pub beginning_old : (x : ℕ) → is_unfinished o ≡ false → Leaves l ls outs o x → BeginningFits ls outs x → BeginningFits (l ∷ ls) (outs ++ o ∷ []) x
  beginning_old x u leaves f = record {
    client = f.client;
    line = old_line x (Begin f.client) f.line;
    waits = old_outcome x (line_within ls x (Begin f.client) f.line).1 ∙ f.waits;
    status = leaves.status ∙ status_old x ∙ f.status;
    writes = leaves.writes ∙ writes_old x ∙ f.writes;
    alone = idle_old x x u f.alone;
  }

  pub last_outcome : outcome_of (outs ++ o ∷ []) (suc (length ls)) ≡ o
  last_outcome = subst (λ i. get_or (outs ++ o ∷ []) i Unfinished ≡ o) told (at outs)
    where
      at : (xs : List Outcome) → get_or (xs ++ o ∷ []) (length xs) Unfinished ≡ o
      at [] = refl
      at (y ∷ xs) = at xs

  pub last_row : row_at (rows ++ row ∷ []) (suc (length ls)) ≡ Some row
  last_row = subst (λ i. row_at (rows ++ row ∷ []) (suc i) ≡ Some row) counted (row_new rows row)

-- what a quiet line has to show
pub record IsQuietLine (l : Line) (ls : List Line) (rows : List Row) (outs : List Outcome) (o : Outcome) : Type 0 where
  pub over : is_unfinished o ≡ false
  pub no_begin : (client : ℕ) → l ≡ Begin client → ⊥
  pub leaves : (x : ℕ) → Leaves l ls outs o x
  pub skips : (x : ℕ) (t : Transaction) (call : CommitCall) → row_at rows x ≡ Some (Running t) → t.call ≡ Some call → l ≡ Commit x → o ≡ Skipped

pub rowed_quiet : (l : Line) (ls : List Line) (rows : List Row) (outs : List Outcome) (o : Outcome) → length outs ≡ length ls → IsQuietLine l ls rows outs o → Rowed ls rows outs → Rowed (l ∷ ls) (rows ++ Plain ∷ []) (outs ++ o ∷ [])
rowed_quiet l ls rows outs o told q r = record {
  counted = let a = length-append rows (Plain ∷ []) in let b = r.counted in omega arith;
  fits = λ n row e. fits_at n row (row_cases rows Plain n row e);
  begun = λ n client e. begun_at n client (line_cases l ls n (Begin client) e);
}
  where
    old : (n : ℕ) (row : Row) → row_at rows n ≡ Some row → RowFits ls rows outs n row → RowFits (l ∷ ls) (rows ++ Plain ∷ []) (outs ++ o ∷ []) n row
    old n Plain e f = tt
    old n Beginning e f = beginning_old l ls rows Plain outs o told r.counted n q.over (q.leaves n) f
    old n (Running t) e f = running_old l ls rows Plain outs o told r.counted n t q.over (q.leaves n) (λ call c k. q.skips n t call e c k) f
    old n (Committing x) e f = old_line l ls rows Plain outs o told r.counted n (Commit x) f

    fits_at : (n : ℕ) (row : Row) → ((n ≡ suc (length rows)) × (Plain ≡ row)) ⊎ ((n ≢ suc (length rows)) × (row_at rows n ≡ Some row)) → RowFits (l ∷ ls) (rows ++ Plain ∷ []) (outs ++ o ∷ []) n row
    fits_at n row k = elim k [
      | inl a ↦ subst (λ z. RowFits (l ∷ ls) (rows ++ Plain ∷ []) (outs ++ o ∷ []) n z) a.1 tt
      | inr a ↦ old n row a.1 (r.fits n row a.1)
    ]

    begun_at : (n client : ℕ) → ((n ≡ suc (length ls)) × (l ≡ Begin client)) ⊎ ((n ≢ suc (length ls)) × (line_at ls n ≡ Some (Begin client))) → IsBegun (row_at (rows ++ Plain ∷ []) n)
    begun_at n client k = elim k [
      | inl a ↦ absurd (q.no_begin client a.1)
      | inr a ↦ (let c = r.counted in subst (λ z. IsBegun z) (sym (row_old rows Plain n (λ s. a.0 (s ∙ ap (λ i. suc i) c)))) (r.begun n client a.1))
    ]

pub awaited_quiet : (es : List Event) (l : Line) (ls : List Line) (rows : List Row) (outs : List Outcome) (o : Outcome) → length outs ≡ length ls → length rows ≡ length ls → is_unfinished o ≡ false → Awaited es ls rows outs → Awaited es (l ∷ ls) (rows ++ Plain ∷ []) (outs ++ o ∷ [])
awaited_quiet es l ls rows outs o told counted u a = record {
  known = λ t e. elim (a.known t e) [
    | inl b ↦ inl (record { row = keep t.line Beginning b.row; asks = b.asks })
    | inr b ↦ inr (record { x = b.x; t = b.t; call = b.call; put = b.put; row = keep t.line (Committing b.x) b.row; running = keep b.x (Running b.t) b.running; calls = b.calls; puts = b.puts; own = b.own; asks = b.asks; told = b.told })
  ];
  one = a.one;
  owed = λ n first last e. owed_at n first last e (nat_eq n (suc (length ls))) refl;
}
  where
    keep : (n : ℕ) (r : Row) → row_at rows n ≡ Some r → row_at (rows ++ Plain ∷ []) n ≡ Some r
    keep n r e = old_row l ls rows Plain outs o told counted n r e

    owed_at : (n : ℕ) → 1 ≤ n → n ≤ suc (length ls) → is_unfinished (outcome_of (outs ++ o ∷ []) n) ≡ true → (b : Bool) → nat_eq n (suc (length ls)) ≡ b → OwnIsOut es n
    owed_at n first last e true f =
        let s : n ≡ suc (length ls) = grind (arith, nat_tests) in
        let v : outcome_of (outs ++ o ∷ []) n ≡ o = subst (λ i. outcome_of (outs ++ o ∷ []) i ≡ o) (sym s) (last_outcome l ls rows Plain outs o told counted) in
        absurd (let z = sym (ap is_unfinished v ∙ u) ∙ e in cc)
    owed_at n first last e false f =
        let apart : n ≢ suc (length ls) = grind (arith, nat_tests) in
        let inside : n ≤ length ls = omega arith in
        a.owed n first inside (sym (ap is_unfinished (old_outcome l ls rows Plain outs o told counted n inside)) ∙ e)

-- a row more in which no transaction runs
pub lone_opened : (store : Store) (l : Line) (ls : List Line) (rows : List Row) (row : Row) (outs : List Outcome) (o : Outcome) → length outs ≡ length ls → length rows ≡ length ls → why_after ls l ≡ None → ((t : Transaction) → row ≡ Running t → ⊥) → Lone store rows outs → Lone store (rows ++ row ∷ []) (outs ++ o ∷ [])
lone_opened store l ls rows row outs o told counted good idle f = record {
  regions = f.regions;
  clock = f.clock;
  last = let a = length-append outs (o ∷ []) in let b = f.last in omega arith;
  few = let a = length-append outs (o ∷ []) in let b = good_few ls l good in omega arith;
  cells = λ x t e. elim (row_cases rows row x (Running t) e) [
    | inl a ↦ absurd (idle t a.1)
    | inr a ↦ f.cells x t a.1
  ];
  empty = λ n. f.empty (λ x t e. n x t (old_row l ls rows row outs o told counted x (Running t) e));
}

-- Which lines are quiet.

pub status_err : (st : Status) → st ≡ Committed → status_after st (Err OperationAfterCommitError) ≡ st
status_err Active e = absurd (cc)
status_err StartedCommit e = absurd (cc)
status_err Committed e = refl

pub status_skip : (st : Status) → status_after st Skipped ≡ st
status_skip Active = refl
status_skip StartedCommit = refl
status_skip Committed = refl

pub leaves_commit : (ls : List Line) (outs : List Outcome) (o : Outcome) (y x : ℕ) → length outs ≡ length ls → (y ≡ x → status_after (status_of (outcome_of (outs ++ o ∷ [])) x ls) o ≡ status_of (outcome_of (outs ++ o ∷ [])) x ls) → Leaves (Commit y) ls outs o x
leaves_commit ls outs o y x told h = record { status = by_name (nat_eq y x) refl; writes = refl }
  where
    at : (xs : List Outcome) → get_or (xs ++ o ∷ []) (length xs) Unfinished ≡ o
    at [] = refl
    at (z ∷ xs) = at xs

    newest : outcome_of (outs ++ o ∷ []) (suc (length ls)) ≡ o
    newest = subst (λ i. get_or (outs ++ o ∷ []) i Unfinished ≡ o) told (at outs)

    by_name : (b : Bool) → nat_eq y x ≡ b → (if nat_eq y x then status_after (status_of (outcome_of (outs ++ o ∷ [])) x ls) (outcome_of (outs ++ o ∷ []) (suc (length ls))) else status_of (outcome_of (outs ++ o ∷ [])) x ls) ≡ status_of (outcome_of (outs ++ o ∷ [])) x ls
    by_name true e =
        let s : y ≡ x = grind (arith, nat_tests) in
        ap (λ (b : Bool). if b then status_after (status_of (outcome_of (outs ++ o ∷ [])) x ls) (outcome_of (outs ++ o ∷ []) (suc (length ls))) else status_of (outcome_of (outs ++ o ∷ [])) x ls) e ∙ ap (λ z. status_after (status_of (outcome_of (outs ++ o ∷ [])) x ls) z) newest ∙ h s
    by_name false e = ap (λ (b : Bool). if b then status_after (status_of (outcome_of (outs ++ o ∷ [])) x ls) (outcome_of (outs ++ o ∷ []) (suc (length ls))) else status_of (outcome_of (outs ++ o ∷ [])) x ls) e

pub leaves_put : (ls : List Line) (outs : List Outcome) (o : Outcome) (y : ℕ) (k v : List ℕ) (x : ℕ) → length outs ≡ length ls → is_ok o ≡ false → Leaves (Put y k v) ls outs o x
leaves_put ls outs o y k v x told refused = record { status = refl; writes = no_write }
  where
    at : (xs : List Outcome) → get_or (xs ++ o ∷ []) (length xs) Unfinished ≡ o
    at [] = refl
    at (z ∷ xs) = at xs

    newest : is_ok (outcome_of (outs ++ o ∷ []) (suc (length ls))) ≡ false
    newest = ap is_ok (subst (λ i. get_or (outs ++ o ∷ []) i Unfinished ≡ o) told (at outs)) ∙ refused

    past : (b c : Bool) → c ≡ false → b && c ≡ false
    past true c e = e
    past false c e = refl

    no_write : (if nat_eq y x && is_ok (outcome_of (outs ++ o ∷ []) (suc (length ls))) then with_write (writes_of (outcome_of (outs ++ o ∷ [])) x ls) k v else writes_of (outcome_of (outs ++ o ∷ [])) x ls) ≡ writes_of (outcome_of (outs ++ o ∷ [])) x ls
    no_write = ap (λ (b : Bool). if b then with_write (writes_of (outcome_of (outs ++ o ∷ [])) x ls) k v else writes_of (outcome_of (outs ++ o ∷ [])) x ls) (past (nat_eq y x) (is_ok (outcome_of (outs ++ o ∷ []) (suc (length ls)))) newest)
