-- What the calls of the one transaction make of its row, of what is out, and of the outcomes.
use Rattle.std.proofs.Common.{◌≡◌, ◌≢◌, ℕ, suc, ◌-◌, ◌≤◌, ◌⊎◌, inl, inr, Bool, true, false, ◌&&◌, if◌then◌else◌, List, [], ◌∷◌, ◌++◌, Some, None, length, set, nat_eq, refl, sym, ap, ◌∙◌, subst, arith, length-append, length-set}
use Rattle.std.proofs.lemmas.Bool.Decides.{nat_tests}
use Rattle.txn_history.specs.Event.{Event}
use Rattle.txn_model.specs.Store.{Store}
use Rattle.txn_script.specs.Lines.{line_at, why_after}
use Rattle.txn_script.specs.declared.line.Line.{Line}
use Rattle.txn_script.specs.declared.line.Line.TheVariants.{Begin, Put, Commit}
use Rattle.txn_report.specs.declared.outcome.Outcome.{Outcome}
use Rattle.txn_report.specs.declared.outcome.Outcome.TheVariants.{Ok}
use Rattle.txn_report.specs.declared.outcome.Payload.TheVariants.{Unit as Nothing}
use Rattle.txn_first.specs.declared.transaction.Transaction.{Transaction}
use Rattle.txn_first.specs.declared.machine.Row.{Row}
use Rattle.txn_first.specs.declared.machine.Row.TheVariants.{Plain, Beginning, Running, Committing}
use Rattle.txn_first.specs.Lists.{row_at}
use Rattle.txn_first.specs.Script.{outcome_of}
use Rattle.txn_first.specs.Causes.{is_ok, is_unfinished, writes_of, with_write}
use Rattle.txn_first.specs.Rowed.{AreGood, IsIdleBut, CallFits, RunningFits, Rowed, CallCells, Lone, Fits}
use Rattle.txn_first.proofs.Knowns.{times_open}
use Rattle.txn_first.proofs.Lines.{line_within, row_cases, row_within, row_same, row_other, row_put, good_second, one_begin, no_writes}
use Rattle.txn_first.proofs.Opens.{old_outcome, old_row, old_line, status_old, idle_old, last_outcome, lone_opened}
use Rattle.txn_first.proofs.Ones.{OtherRow, others_old, rowed_one, NoneOut, idle_none_out, none_unfinished, awaited_none}

-- The store, when the row of the one transaction changes.
pub lone_set : (lines : List Line) (store store' : Store) (rows : List Row) (outs : List Outcome) (x client : ℕ) (t u : Transaction) → AreGood lines → Rowed lines rows outs → line_at lines x ≡ Some (Begin client) → row_at rows x ≡ Some (Running t)
    → store'.regions ≡ store.regions → store'.clock ≡ store.clock → store'.last ≤ length outs → CallCells store'.cells u u.call u.put → Lone store rows outs → Lone store' (set rows (x - 1) (Running u)) outs
lone_set lines store store' rows outs x client t u good r b at regions clock last cells f = record {
  regions = regions ∙ f.regions;
  clock = clock ∙ f.clock;
  last = last;
  few = f.few;
  cells = λ y v e. elim (row_put rows x y (Running u) (Running v) (Running t) at e) [
    | inl a ↦ (let same : u ≡ v = let z = a.1 in cc in subst (λ w. CallCells store'.cells w w.call w.put) same cells)
    | inr a ↦ absurd (let h = r.fits y (Running v) a.1 in a.0 (one_begin lines y x h.client client good h.line b))
  ];
  empty = λ n. absurd (n x u (row_same rows x (Running u) (Running t) at));
}

-- Other rows stay.
pub others_set : (lines : List Line) (rows : List Row) (x : ℕ) (t : Transaction) (k : Row) → row_at rows x ≡ Some (Running t) → ((n : ℕ) (r : Row) → n ≢ x → row_at rows n ≡ Some r → OtherRow lines n r) → (n : ℕ) (r : Row) → n ≢ x → row_at (set rows (x - 1) k) n ≡ Some r → OtherRow lines n r
others_set lines rows x t k at others n r apart e = let w = row_within rows x (Running t) at in others n r apart (sym (row_other rows x n k w.0 apart) ∙ e)

-- A put.
module _ (es : List Event) (x : ℕ) (k v : List ℕ) (ls : List Line) (store : Store) (rows : List Row) (outs : List Outcome) (ended : List ℕ) (t : Transaction)
    (good : why_after ls (Put x k v) ≡ None) (at : row_at rows x ≡ Some (Running t)) (idle : t.call ≡ None) (f : Fits es ls store rows outs ended) where
  pub fits_put : Fits es (Put x k v ∷ ls) store (set rows (x - 1) (Running (record t { put = Some (record { key = k; value = v }) })) ++ Plain ∷ []) (outs ++ Ok Nothing ∷ []) (ended ++ suc (length outs) ∷ [])
  fits_put =
      let u : Transaction = record t { put = Some (record { key = k; value = v }) } in
      let line : Line = Put x k v in
      let rows' : List Row = set rows (x - 1) (Running u) ++ Plain ∷ [] in
      let h = f.rowed.fits x (Running t) at in
      let counted' : length (set rows (x - 1) (Running u)) ≡ length ls = length-set rows (x - 1) (Running u) ∙ f.rowed.counted in
      let at' : row_at (set rows (x - 1) (Running u)) x ≡ Some (Running u) = row_same rows x (Running u) (Running t) at in
      let at'' : row_at rows' x ≡ Some (Running u) = old_row line ls (set rows (x - 1) (Running u)) Plain outs (Ok Nothing) f.told counted' x (Running u) at' in
      let b' : line_at (line ∷ ls) x ≡ Some (Begin h.client) = old_line line ls rows Plain outs (Ok Nothing) f.told f.rowed.counted x (Begin h.client) h.line in
      let still : IsIdleBut ls outs x 0 = subst (λ c. CallFits ls rows outs x t c) idle h.call in
      let none : NoneOut es = idle_none_out es ls rows outs x t f.good f.rowed f.awaited at idle in
      let before : writes_of (outcome_of (outs ++ Ok Nothing ∷ [])) x ls ≡ [] = no_writes (outcome_of (outs ++ Ok Nothing ∷ [])) x ls (good_second ls line good) in
      let itself : nat_eq x x ≡ true = grind (arith, nat_tests) in
      let newest : outcome_of (outs ++ Ok Nothing ∷ []) (suc (length ls)) ≡ Ok Nothing = last_outcome line ls rows Plain outs (Ok Nothing) f.told f.rowed.counted in
      let fits' : RunningFits (line ∷ ls) rows' (outs ++ Ok Nothing ∷ []) x u = record {
        client = h.client;
        line = b';
        start = old_outcome line ls rows Plain outs (Ok Nothing) f.told f.rowed.counted x (line_within ls x (Begin h.client) h.line).1 ∙ h.start;
        status = status_old line ls rows Plain outs (Ok Nothing) f.told f.rowed.counted x ∙ h.status;
        writes = ap (λ (z : Bool). if z && is_ok (outcome_of (outs ++ Ok Nothing ∷ []) (suc (length ls))) then with_write (writes_of (outcome_of (outs ++ Ok Nothing ∷ [])) x ls) k v else writes_of (outcome_of (outs ++ Ok Nothing ∷ [])) x ls) itself ∙ ap (λ z. if is_ok z then with_write (writes_of (outcome_of (outs ++ Ok Nothing ∷ [])) x ls) k v else writes_of (outcome_of (outs ++ Ok Nothing ∷ [])) x ls) newest ∙ ap (λ ws. with_write ws k v) before;
        call = subst (λ c. CallFits (line ∷ ls) rows' (outs ++ Ok Nothing ∷ []) x u c) (sym idle) (idle_old line ls rows Plain outs (Ok Nothing) f.told f.rowed.counted x 0 refl still);
      } in
      record {
        good = (good, f.good);
        told = let a = length-append outs (Ok Nothing ∷ []) in let b = f.told in omega arith;
        rowed = rowed_one (line ∷ ls) rows' (outs ++ Ok Nothing ∷ []) x h.client u (good, f.good) (let a = length-append (set rows (x - 1) (Running u)) (Plain ∷ []) in let c = counted' in omega arith) b' at'' fits' (λ n r apart e. other h.client h.line counted' n r apart (row_cases (set rows (x - 1) (Running u)) Plain n r e));
        awaited = awaited_none es (line ∷ ls) rows' (outs ++ Ok Nothing ∷ []) none (λ n first last e. over none n first last e (nat_eq n (suc (length ls))) refl);
        lone = lone_opened store line ls (set rows (x - 1) (Running u)) Plain outs (Ok Nothing) f.told counted' good (λ w e. cc) (lone_set ls store store rows outs x h.client t u f.good f.rowed h.line at refl refl f.lone.last (subst (λ c. CallCells store.cells u c (Some (record { key = k; value = v }))) (sym idle) (subst (λ c. CallCells store.cells t c t.put) idle (f.lone.cells x t at))) f.lone);
        times = times_open outs ended (Ok Nothing) (suc (length outs)) (inr (refl, refl)) f.times;
      }
    where
      other : (client : ℕ) → line_at ls x ≡ Some (Begin client) → length (set rows (x - 1) (Running (record t { put = Some (record { key = k; value = v }) }))) ≡ length ls → (n : ℕ) (r : Row) → n ≢ x
          → ((n ≡ suc (length (set rows (x - 1) (Running (record t { put = Some (record { key = k; value = v }) }))))) × (Plain ≡ r)) ⊎ ((n ≢ suc (length (set rows (x - 1) (Running (record t { put = Some (record { key = k; value = v }) }))))) × (row_at (set rows (x - 1) (Running (record t { put = Some (record { key = k; value = v }) }))) n ≡ Some r)) → OtherRow (Put x k v ∷ ls) n r
      other client b counted' n r apart c = elim c [
        | inl a ↦ subst (λ z. OtherRow (Put x k v ∷ ls) n z) a.1 tt
        | inr a ↦ more r (others_set ls rows x t (Running (record t { put = Some (record { key = k; value = v }) })) at (λ m s d g. others_old ls rows outs x client m s f.good f.rowed b d g) n r apart a.1)
      ]
        where
          more : (r : Row) → OtherRow ls n r → OtherRow (Put x k v ∷ ls) n r
          more Plain o = tt
          more Beginning o = absurd o
          more (Running w) o = absurd o
          more (Committing y) o = old_line (Put x k v) ls rows Plain outs (Ok Nothing) f.told f.rowed.counted n (Commit y) o

      over : NoneOut es → (n : ℕ) → 1 ≤ n → n ≤ suc (length ls) → is_unfinished (outcome_of (outs ++ Ok Nothing ∷ []) n) ≡ true → (b : Bool) → nat_eq n (suc (length ls)) ≡ b → ⊥
      over none n first last e true q =
          let s : n ≡ suc (length ls) = grind (arith, nat_tests) in
          let z = subst (λ i. is_unfinished (outcome_of (outs ++ Ok Nothing ∷ []) i) ≡ true) s e in
          let y = ap is_unfinished (last_outcome (Put x k v) ls rows Plain outs (Ok Nothing) f.told f.rowed.counted) in
          cc
      over none n first last e false q =
          let apart : n ≢ suc (length ls) = grind (arith, nat_tests) in
          let inside : n ≤ length ls = omega arith in
          none_unfinished es ls rows outs f.awaited none n first inside (sym (ap is_unfinished (old_outcome (Put x k v) ls rows Plain outs (Ok Nothing) f.told f.rowed.counted n inside)) ∙ e)
