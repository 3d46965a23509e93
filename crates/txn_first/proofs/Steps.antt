-- What each line makes of the rows, of what is out, and of the outcomes.
use Rattle.std.proofs.Common.{◌≡◌, ◌≢◌, ℕ, suc, ◌≤◌, ◌⊎◌, inl, inr, Bool, true, false, List, [], ◌∷◌, ◌++◌, Some, None, length, is_some, nat_eq, refl, sym, ap, ◌∙◌, subst, subst₂, arith, length-append}
use Rattle.std.proofs.lemmas.Bool.Decides.{nat_tests}
use Rattle.txn_kv.specs.declared.ticket.Ticket.{Ticket}
use Rattle.txn_history.specs.Event.{Event, sent_request, taken_reply}
use Rattle.txn_history.specs.Event.Event.{Sent}
use Rattle.txn_model.specs.Store.{Store}
use Rattle.txn_script.specs.Lines.{line_at, why_after}
use Rattle.txn_script.specs.declared.line.Line.{Line}
use Rattle.txn_script.specs.declared.line.Line.TheVariants.{Blank, Client, Begin, Put, Commit, Deliver}
use Rattle.txn_report.specs.declared.outcome.Outcome.{Outcome}
use Rattle.txn_report.specs.declared.outcome.Outcome.TheVariants.{Unfinished}
use Rattle.txn_first.specs.declared.machine.Row.{Row}
use Rattle.txn_first.specs.declared.machine.Row.TheVariants.{Plain, Beginning, Running, Committing}
use Rattle.txn_first.specs.Lists.{row_at, ask_one}
use Rattle.txn_first.specs.Script.{outcome_of}
use Rattle.txn_first.specs.Causes.{is_unfinished, is_call_of}
use Rattle.txn_first.specs.Rowed.{BeginningFits, RowFits, IsBegun, Rowed, Fits}
use Rattle.txn_first.proofs.Knowns.{times_open}
use Rattle.txn_first.proofs.Lines.{line_new, line_cases, row_cases, no_begin}
use Rattle.txn_first.proofs.Opens.{IsQuietLine, old_outcome, old_line, last_outcome, last_row, rowed_quiet, awaited_quiet, lone_opened}
use Rattle.txn_first.proofs.Ones.{good_commit, good_put, status_none, writes_none, NoneOut, no_begin_none_out, none_unfinished, sent_is, awaited_sent}

-- A line that sends nothing and leaves the transaction as it is.

pub fits_quiet : (es : List Event) (l : Line) (ls : List Line) (store : Store) (rows : List Row) (outs : List Outcome) (ended : List ℕ) (o : Outcome) → why_after ls l ≡ None → IsQuietLine l ls rows outs o → Fits es ls store rows outs ended → Fits es (l ∷ ls) store (rows ++ Plain ∷ []) (outs ++ o ∷ []) (ended ++ suc (length outs) ∷ [])
fits_quiet es l ls store rows outs ended o good q f = record {
  good = (good, f.good);
  told = let a = length-append outs (o ∷ []) in let b = f.told in omega arith;
  rowed = rowed_quiet l ls rows outs o f.told q f.rowed;
  awaited = awaited_quiet es l ls rows outs o f.told f.rowed.counted q.over f.awaited;
  lone = lone_opened store l ls rows Plain outs o f.told f.rowed.counted good (λ t e. cc) f.lone;
  times = times_open outs ended o (suc (length outs)) (inr (refl, q.over)) f.times;
}

-- A transaction begins.

module _ (es : List Event) (client : ℕ) (ls : List Line) (store : Store) (rows : List Row) (outs : List Outcome) (ended : List ℕ) (t : Ticket)
    (good : why_after ls (Begin client) ≡ None) (f : Fits es ls store rows outs ended) where
  no_old_begin : (n other : ℕ) → line_at ls n ≡ Some (Begin other) → ⊥
  no_old_begin n other e = no_begin ls n client other good e

  no_old_commit : (n y : ℕ) → line_at ls n ≡ Some (Commit y) → ⊥
  no_old_commit n y e = let h = good_commit ls n y f.good e in no_begin ls y client h.0 good h.1

  no_old_put : (n y : ℕ) (k v : List ℕ) → line_at ls n ≡ Some (Put y k v) → ⊥
  no_old_put n y k v e = let h = good_put ls n y k v f.good e in no_begin ls y client h.0 good h.1

  no_old_call : (x m : ℕ) (l : Line) → line_at ls m ≡ Some l → is_call_of x l m ≡ true → ⊥
  no_old_call x m Blank e c = cc
  no_old_call x m Client e c = cc
  no_old_call x m (Begin other) e c = no_begin ls m client other good e
  no_old_call x m (Put y k v) e c = let h = good_put ls m y k v f.good e in no_begin ls y client h.0 good h.1
  no_old_call x m (Commit y) e c = let h = good_commit ls m y f.good e in no_begin ls y client h.0 good h.1
  no_old_call x m (Deliver u) e c = cc

  begun_rowed : Rowed (Begin client ∷ ls) (rows ++ Beginning ∷ []) (outs ++ Unfinished ∷ [])
  begun_rowed = record {
    counted = let a = length-append rows (Beginning ∷ []) in let b = f.rowed.counted in omega arith;
    fits = λ n r e. fits_at n r (row_cases rows Beginning n r e);
    begun = λ n other e. begun_at n other (line_cases (Begin client) ls n (Begin other) e);
  }
    where
      new : BeginningFits (Begin client ∷ ls) (outs ++ Unfinished ∷ []) (suc (length ls))
      new = record {
        client = client;
        line = line_new (Begin client) ls;
        waits = last_outcome (Begin client) ls rows Beginning outs Unfinished f.told f.rowed.counted;
        status = status_none (outcome_of (outs ++ Unfinished ∷ [])) (suc (length ls)) ls (λ n y e. no_begin_of n y e);
        writes = writes_none (outcome_of (outs ++ Unfinished ∷ [])) (suc (length ls)) ls (λ n y k v e. no_put_of n y k v e);
        alone = λ m l e c apart. elim (line_cases (Begin client) ls m l e) [
          | inl a ↦ absurd (apart a.0)
          | inr a ↦ absurd (no_call_of m l a.1 c)
        ];
      }
        where
          no_begin_of : (n y : ℕ) → line_at ls n ≡ Some (Commit y) → ⊥
          no_begin_of n y e = let h = good_commit ls n y f.good e in no_begin ls y client h.0 good h.1

          no_put_of : (n y : ℕ) (k v : List ℕ) → line_at ls n ≡ Some (Put y k v) → ⊥
          no_put_of n y k v e = let h = good_put ls n y k v f.good e in no_begin ls y client h.0 good h.1

          no_call_of : (m : ℕ) (l : Line) → line_at ls m ≡ Some l → is_call_of (suc (length ls)) l m ≡ true → ⊥
          no_call_of m Blank e c = cc
          no_call_of m Client e c = cc
          no_call_of m (Begin other) e c = no_begin ls m client other good e
          no_call_of m (Put y k v) e c = no_put_of m y k v e
          no_call_of m (Commit y) e c = no_begin_of m y e
          no_call_of m (Deliver u) e c = cc

      old : (n : ℕ) (r : Row) → RowFits ls rows outs n r → RowFits (Begin client ∷ ls) (rows ++ Beginning ∷ []) (outs ++ Unfinished ∷ []) n r
      old n Plain h = tt
      old n Beginning h = absurd (no_begin ls n client h.client good h.line)
      old n (Running u) h = absurd (no_begin ls n client h.client good h.line)
      old n (Committing y) h = old_line (Begin client) ls rows Beginning outs Unfinished f.told f.rowed.counted n (Commit y) h

      fits_at : (n : ℕ) (r : Row) → ((n ≡ suc (length rows)) × (Beginning ≡ r)) ⊎ ((n ≢ suc (length rows)) × (row_at rows n ≡ Some r)) → RowFits (Begin client ∷ ls) (rows ++ Beginning ∷ []) (outs ++ Unfinished ∷ []) n r
      fits_at n r k = elim k [
        | inl a ↦ subst₂ (λ i z. RowFits (Begin client ∷ ls) (rows ++ Beginning ∷ []) (outs ++ Unfinished ∷ []) i z) (ap (λ i. suc i) (sym f.rowed.counted) ∙ sym a.0) a.1 new
        | inr a ↦ old n r (f.rowed.fits n r a.1)
      ]

      begun_at : (n other : ℕ) → ((n ≡ suc (length ls)) × (Begin client ≡ Begin other)) ⊎ ((n ≢ suc (length ls)) × (line_at ls n ≡ Some (Begin other))) → IsBegun (row_at (rows ++ Beginning ∷ []) n)
      begun_at n other k = elim k [
        | inl a ↦ subst (λ i. IsBegun (row_at (rows ++ Beginning ∷ []) i)) (sym a.0) (subst (λ z. IsBegun z) (sym (last_row (Begin client) ls rows Beginning outs Unfinished f.told f.rowed.counted)) tt)
        | inr a ↦ absurd (no_begin ls n client other good a.1)
      ]

  pub fits_begun : t.line ≡ suc (length outs) → t.beat ≡ false → sent_request es t ≡ None → is_some (taken_reply es t) ≡ false → Fits (Sent t ask_one ∷ es) (Begin client ∷ ls) store (rows ++ Beginning ∷ []) (outs ++ Unfinished ∷ []) (ended ++ 0 ∷ [])
  fits_begun own plain fresh untaken =
      let none : NoneOut es = no_begin_none_out es ls rows outs f.rowed f.awaited no_old_begin in
      let at : row_at (rows ++ Beginning ∷ []) t.line ≡ Some Beginning = subst (λ i. row_at (rows ++ Beginning ∷ []) i ≡ Some Beginning) (ap (λ i. suc i) (sym f.told) ∙ sym own) (last_row (Begin client) ls rows Beginning outs Unfinished f.told f.rowed.counted) in
      record {
        good = (good, f.good);
        told = let a = length-append outs (Unfinished ∷ []) in let b = f.told in omega arith;
        rowed = begun_rowed;
        awaited = awaited_sent es t ask_one fresh untaken none (Begin client ∷ ls) (rows ++ Beginning ∷ []) (outs ++ Unfinished ∷ []) plain (inl (record { row = at; asks = sent_is es t ask_one fresh untaken none })) (λ n first last e. only n first last e (nat_eq n (suc (length ls))) refl);
        lone = lone_opened store (Begin client) ls rows Beginning outs Unfinished f.told f.rowed.counted good (λ u e. cc) f.lone;
        times = times_open outs ended Unfinished 0 (inl (refl, refl)) f.times;
      }
    where
      only : (n : ℕ) → 1 ≤ n → n ≤ suc (length ls) → is_unfinished (outcome_of (outs ++ Unfinished ∷ []) n) ≡ true → (b : Bool) → nat_eq n (suc (length ls)) ≡ b → n ≡ t.line
      only n first last e true q = let s : n ≡ suc (length ls) = grind (arith, nat_tests) in let a = f.told in s ∙ ap (λ i. suc i) (sym a) ∙ sym own
      only n first last e false q =
          let apart : n ≢ suc (length ls) = grind (arith, nat_tests) in
          let inside : n ≤ length ls = omega arith in
          absurd (none_unfinished es ls rows outs f.awaited (no_begin_none_out es ls rows outs f.rowed f.awaited (λ m other h. no_begin ls m client other good h)) n first inside (sym (ap is_unfinished (old_outcome (Begin client) ls rows Beginning outs Unfinished f.told f.rowed.counted n inside)) ∙ e))
