-- What the delivery of a reply makes of the row of the transaction, of what is out, and of the outcomes.
use Rattle.std.proofs.Common.{◌≡◌, ◌≢◌, ℕ, suc, ◌-◌, ◌≤◌, inl, inr, Bool, true, false, List, [], ◌∷◌, ◌++◌, Some, None, length, set, is_some, nat_eq, refl, sym, ap, ◌∙◌, subst, arith, length-append, length-set}
use Rattle.std.proofs.lemmas.Bool.Decides.{nat_tests}
use Rattle.txn_kv.specs.declared.request.Request.{Request}
use Rattle.txn_kv.specs.declared.reply.Reply.{Reply}
use Rattle.txn_kv.specs.declared.ticket.Ticket.{Ticket}
use Rattle.txn_history.specs.Event.{Event, sent_request, taken_reply, is_out}
use Rattle.txn_history.specs.Event.Event.{Sent, Served, Took}
use Rattle.txn_model.specs.Store.{Store}
use Rattle.txn_script.specs.Lines.{line_at, why_after}
use Rattle.txn_script.specs.declared.line.Line.{Line}
use Rattle.txn_script.specs.declared.line.Line.TheVariants.{Begin, Put, Commit, Deliver}
use Rattle.txn_report.specs.declared.outcome.Outcome.{Outcome}
use Rattle.txn_report.specs.declared.outcome.Outcome.TheVariants.{Ok, Done}
use Rattle.txn_report.specs.declared.outcome.Payload.TheVariants.{Number, Commit as Committed_at}
use Rattle.txn_first.specs.declared.transaction.Transaction.{Transaction}
use Rattle.txn_first.specs.declared.transaction.CommitCall.{CommitCall}
use Rattle.txn_first.specs.declared.transaction.Stage.{Stage}
use Rattle.txn_first.specs.declared.transaction.Status.TheVariants.{Active, Committed}
use Rattle.txn_first.specs.declared.machine.Row.{Row}
use Rattle.txn_first.specs.declared.machine.Row.TheVariants.{Plain, Beginning, Running, Committing}
use Rattle.txn_first.specs.Commit.{at_stage}
use Rattle.txn_first.specs.Lists.{row_at}
use Rattle.txn_first.specs.Script.{outcome_of}
use Rattle.txn_first.specs.Causes.{is_unfinished, is_skipped, is_commit_at, is_call_of}
use Rattle.txn_first.specs.Rowed.{AreGood, CommitFits, CallFits, RunningFits, BeginningFits, Rowed, BeginAwaits, CommitAwaits, StageAsked, asked_at, CallCells, StageCells, Lone, Times, Fits}
use Rattle.txn_first.proofs.Knowns.{times_open, times_set}
use Rattle.txn_first.proofs.Lines.{line_within, row_same, row_other, row_put, outcome_same, outcome_other, good_few, one_begin, status_same, writes_same, status_ended}
use Rattle.txn_first.proofs.Opens.{IsQuietLine, old_outcome, old_row, last_outcome, rowed_quiet}
use Rattle.txn_first.proofs.Ones.{OtherRow, others_old, rowed_one, NoneOut, awaited_none, sent_is, awaited_sent, taken_none_out}

module _ (es : List Event) (t : Ticket) (r : Request) (o : Reply) (ls : List Line) (store : Store) (rows : List Row) (outs : List Outcome) (ended : List ℕ)
    (good : why_after ls (Deliver t) ≡ None) (out : is_out es t ≡ true) (f : Fits es ls store rows outs ended) where
  quiet : IsQuietLine (Deliver t) ls rows outs Done
  quiet = record {
    over = refl;
    no_begin = λ client e. cc;
    leaves = λ x. record { status = refl; writes = refl };
    skips = λ x u call e c k. absurd (cc);
  }

  opened : Rowed (Deliver t ∷ ls) (rows ++ Plain ∷ []) (outs ++ Done ∷ [])
  opened = rowed_quiet (Deliver t) ls rows outs Done f.told quiet f.rowed

  good_more : AreGood (Deliver t ∷ ls)
  good_more = (good, f.good)

  none : NoneOut (Took t r o ∷ Served t r o ∷ es)
  none = taken_none_out es t r o out f.awaited.one

  told_more : length (outs ++ Done ∷ []) ≡ suc (length ls)
  told_more = let a = length-append outs (Done ∷ []) in let b = f.told in omega arith

  -- only the line whose request was taken could be unfinished
  only : (n : ℕ) → 1 ≤ n → n ≤ suc (length ls) → is_unfinished (outcome_of (outs ++ Done ∷ []) n) ≡ true → n ≡ t.line
  only n first last e = by_place (nat_eq n (suc (length ls))) refl
    where
      by_place : (b : Bool) → nat_eq n (suc (length ls)) ≡ b → n ≡ t.line
      by_place true q =
          let s : n ≡ suc (length ls) = grind (arith, nat_tests) in
          let z = subst (λ i. is_unfinished (outcome_of (outs ++ Done ∷ []) i) ≡ true) s e in
          let y = ap is_unfinished (last_outcome (Deliver t) ls rows Plain outs Done f.told f.rowed.counted) in
          absurd (cc)
      by_place false q =
          let inside : n ≤ length ls = grind (arith, nat_tests) in
          let h = f.awaited.owed n first inside (sym (ap is_unfinished (old_outcome (Deliver t) ls rows Plain outs Done f.told f.rowed.counted n inside)) ∙ e) in
          sym h.own ∙ ap (λ u. u.line) (f.awaited.one h.ticket t h.out out)

  others : (x client n : ℕ) (k : Row) → line_at (Deliver t ∷ ls) x ≡ Some (Begin client) → n ≢ x → row_at (rows ++ Plain ∷ []) n ≡ Some k → OtherRow (Deliver t ∷ ls) n k
  others x client n k b apart e = others_old (Deliver t ∷ ls) (rows ++ Plain ∷ []) (outs ++ Done ∷ []) x client n k good_more opened b apart e

  times_more : Times (outs ++ Done ∷ []) (ended ++ suc (length outs) ∷ [])
  times_more = times_open outs ended Done (suc (length outs)) (inr (refl, refl)) f.times

  -- A transaction gets its start.
  module _ (store' : Store) (s : ℕ) (b : BeginAwaits es rows t) where
    new : Transaction
    new = record { start = s; status = Active; put = None; call = None }

    begun_at : row_at (rows ++ Plain ∷ []) t.line ≡ Some Beginning
    begun_at = old_row (Deliver t) ls rows Plain outs Done f.told f.rowed.counted t.line Beginning b.row

    begun_fits : BeginningFits (Deliver t ∷ ls) (outs ++ Done ∷ []) t.line
    begun_fits = opened.fits t.line Beginning begun_at

    new_at : row_at (set (rows ++ Plain ∷ []) (t.line - 1) (Running (record { start = s; status = Active; put = None; call = None }))) t.line ≡ Some (Running (record { start = s; status = Active; put = None; call = None }))
    new_at = row_same (rows ++ Plain ∷ []) t.line (Running (record { start = s; status = Active; put = None; call = None })) Beginning begun_at

    within : (1 ≤ t.line) × (t.line ≤ length (outs ++ Done ∷ []))
    within = let h = begun_fits in let w = line_within (Deliver t ∷ ls) t.line (Begin h.client) h.line in let a = w.1 in let c = told_more in (w.0, omega arith)

    elsewhere : (n : ℕ) → n ≢ t.line → outcome_of (set (outs ++ Done ∷ []) (t.line - 1) (Ok (Number s))) n ≡ outcome_of (outs ++ Done ∷ []) n
    elsewhere n apart = outcome_other (outs ++ Done ∷ []) t.line n (Ok (Number s)) within.0 apart

    here : outcome_of (set (outs ++ Done ∷ []) (t.line - 1) (Ok (Number s))) t.line ≡ Ok (Number s)
    here = outcome_same (outs ++ Done ∷ []) t.line (Ok (Number s)) within.0 within.1

    new_fits : RunningFits (Deliver t ∷ ls) (set (rows ++ Plain ∷ []) (t.line - 1) (Running (record { start = s; status = Active; put = None; call = None }))) (set (outs ++ Done ∷ []) (t.line - 1) (Ok (Number s))) t.line (record { start = s; status = Active; put = None; call = None })
    new_fits =
        let h = begun_fits in record {
          client = h.client;
          line = h.line;
          start = here;
          status = status_same (outcome_of (set (outs ++ Done ∷ []) (t.line - 1) (Ok (Number s)))) (outcome_of (outs ++ Done ∷ [])) t.line (Deliver t ∷ ls) (λ n y e. elsewhere n (λ q. let z = subst (λ i. line_at (Deliver t ∷ ls) i ≡ Some (Commit y)) q e in let w = h.line in cc)) ∙ h.status;
          writes = writes_same (outcome_of (set (outs ++ Done ∷ []) (t.line - 1) (Ok (Number s)))) (outcome_of (outs ++ Done ∷ [])) t.line (Deliver t ∷ ls) (λ n y k v e. elsewhere n (λ q. let z = subst (λ i. line_at (Deliver t ∷ ls) i ≡ Some (Put y k v)) q e in let w = h.line in cc)) ∙ h.writes;
          call = λ m l e c apart. idle m l e c (nat_eq m t.line) refl;
        }
      where
        idle : (m : ℕ) (l : Line) → line_at (Deliver t ∷ ls) m ≡ Some l → is_call_of t.line l m ≡ true → (z : Bool) → nat_eq m t.line ≡ z → is_unfinished (outcome_of (set (outs ++ Done ∷ []) (t.line - 1) (Ok (Number s))) m) ≡ false
        idle m l e c true q = let i : m ≡ t.line = grind (arith, nat_tests) in ap (λ j. is_unfinished (outcome_of (set (outs ++ Done ∷ []) (t.line - 1) (Ok (Number s))) j)) i ∙ ap is_unfinished here
        idle m l e c false q = let apart : m ≢ t.line = grind (arith, nat_tests) in ap is_unfinished (elsewhere m apart) ∙ begun_fits.alone m l e c apart

    over : (n : ℕ) → 1 ≤ n → n ≤ suc (length ls) → is_unfinished (outcome_of (set (outs ++ Done ∷ []) (t.line - 1) (Ok (Number s))) n) ≡ true → (z : Bool) → nat_eq n t.line ≡ z → ⊥
    over n first last e true q = let i : n ≡ t.line = grind (arith, nat_tests) in let y = ap (λ j. is_unfinished (outcome_of (set (outs ++ Done ∷ []) (t.line - 1) (Ok (Number s))) j)) i ∙ ap is_unfinished here in cc
    over n first last e false q = let apart : n ≢ t.line = grind (arith, nat_tests) in apart (only n first last (sym (ap is_unfinished (elsewhere n apart)) ∙ e))

    no_running : (x : ℕ) (u : Transaction) → row_at rows x ≡ Some (Running u) → ⊥
    no_running x u e =
        let h = f.rowed.fits x (Running u) e in
        let k = f.rowed.fits t.line Beginning b.row in
        let i = one_begin ls x t.line h.client k.client f.good h.line k.line in
        let z = subst (λ j. row_at rows j ≡ Some (Running u)) i e in
        let y = b.row in
        cc

    pub fits_start : store'.regions ≡ store.regions → store'.clock ≡ store.clock → store'.cells ≡ store.cells → store'.last ≤ suc (length outs)
        → Fits (Took t r o ∷ Served t r o ∷ es) (Deliver t ∷ ls) store' (set (rows ++ Plain ∷ []) (t.line - 1) (Running (record { start = s; status = Active; put = None; call = None }))) (set (outs ++ Done ∷ []) (t.line - 1) (Ok (Number s))) (set (ended ++ suc (length outs) ∷ []) (t.line - 1) (length (outs ++ Done ∷ [])))
    fits_start regions clock cells last =
        let h = begun_fits in
        let len : length (set (outs ++ Done ∷ []) (t.line - 1) (Ok (Number s))) ≡ suc (length outs) = length-set (outs ++ Done ∷ []) (t.line - 1) (Ok (Number s)) ∙ (let a = length-append outs (Done ∷ []) in omega arith) in
        record {
          good = good_more;
          told = length-set (outs ++ Done ∷ []) (t.line - 1) (Ok (Number s)) ∙ told_more;
          rowed = rowed_one (Deliver t ∷ ls) (set (rows ++ Plain ∷ []) (t.line - 1) (Running (record { start = s; status = Active; put = None; call = None }))) (set (outs ++ Done ∷ []) (t.line - 1) (Ok (Number s))) t.line h.client (record { start = s; status = Active; put = None; call = None }) good_more
              (length-set (rows ++ Plain ∷ []) (t.line - 1) (Running (record { start = s; status = Active; put = None; call = None })) ∙ opened.counted) h.line new_at new_fits
              (λ n k apart e. others t.line h.client n k h.line apart (sym (row_other (rows ++ Plain ∷ []) t.line n (Running (record { start = s; status = Active; put = None; call = None })) within.0 apart) ∙ e));
          awaited = awaited_none (Took t r o ∷ Served t r o ∷ es) (Deliver t ∷ ls) (set (rows ++ Plain ∷ []) (t.line - 1) (Running (record { start = s; status = Active; put = None; call = None }))) (set (outs ++ Done ∷ []) (t.line - 1) (Ok (Number s))) none (λ n first last e. over n first last e (nat_eq n t.line) refl);
          lone = record {
            regions = regions ∙ f.lone.regions;
            clock = clock ∙ f.lone.clock;
            last = let a = len in let z = last in omega arith;
            few = let a = len in let z = good_few ls (Deliver t) good in let y = f.told in omega arith;
            cells = λ x u e. elim (row_put (rows ++ Plain ∷ []) t.line x (Running (record { start = s; status = Active; put = None; call = None })) (Running u) Beginning begun_at e) [
              | inl a ↦ (let same : record { start = s; status = Active; put = None; call = None } ≡ u = let z = a.1 in cc in subst (λ w. CallCells store'.cells w w.call w.put) same (cells ∙ f.lone.empty no_running))
              | inr a ↦ absurd (let k = opened.fits x (Running u) a.1 in a.0 (one_begin (Deliver t ∷ ls) x t.line k.client h.client good_more k.line h.line))
            ];
            empty = λ n. absurd (n t.line (record { start = s; status = Active; put = None; call = None }) new_at);
          };
          times = times_set (outs ++ Done ∷ []) (ended ++ suc (length outs) ∷ []) (t.line - 1) (Ok (Number s)) (let w = within in let a = w.0 in let c = w.1 in omega arith) refl times_more;
        }

  -- A commit goes on.
  module _ (a : CommitAwaits es rows t) where
    commit_at : row_at (rows ++ Plain ∷ []) a.x ≡ Some (Running a.t)
    commit_at = old_row (Deliver t) ls rows Plain outs Done f.told f.rowed.counted a.x (Running a.t) a.running

    running : RunningFits (Deliver t ∷ ls) (rows ++ Plain ∷ []) (outs ++ Done ∷ []) a.x a.t
    running = opened.fits a.x (Running a.t) commit_at

    commits : CommitFits (Deliver t ∷ ls) (rows ++ Plain ∷ []) (outs ++ Done ∷ []) a.x a.t a.call
    commits = subst (λ c. CallFits (Deliver t ∷ ls) (rows ++ Plain ∷ []) (outs ++ Done ∷ []) a.x a.t c) a.calls running.call

    within_x : (1 ≤ a.x) × (a.x ≤ suc (length ls))
    within_x = line_within (Deliver t ∷ ls) a.x (Begin running.client) running.line

    apart_x : a.call.line ≢ a.x
    apart_x e = let z = subst (λ i. row_at (rows ++ Plain ∷ []) i ≡ Some (Committing a.x)) e commits.row in let y = commit_at in cc

    within_call : (1 ≤ a.call.line) × (a.call.line ≤ length (outs ++ Done ∷ []))
    within_call = let w = line_within (Deliver t ∷ ls) a.call.line (Commit a.x) commits.line in let b = w.1 in let c = told_more in (w.0, omega arith)

    module _ (u : Transaction) where
      next_at : row_at (set (rows ++ Plain ∷ []) (a.x - 1) (Running u)) a.x ≡ Some (Running u)
      next_at = row_same (rows ++ Plain ∷ []) a.x (Running u) (Running a.t) commit_at

      next_row : row_at (set (rows ++ Plain ∷ []) (a.x - 1) (Running u)) a.call.line ≡ Some (Committing a.x)
      next_row = row_other (rows ++ Plain ∷ []) a.x a.call.line (Running u) within_x.0 apart_x ∙ commits.row

      next_rowed : (outs' : List Outcome) → RunningFits (Deliver t ∷ ls) (set (rows ++ Plain ∷ []) (a.x - 1) (Running u)) outs' a.x u → Rowed (Deliver t ∷ ls) (set (rows ++ Plain ∷ []) (a.x - 1) (Running u)) outs'
      next_rowed outs' h = rowed_one (Deliver t ∷ ls) (set (rows ++ Plain ∷ []) (a.x - 1) (Running u)) outs' a.x running.client u good_more (length-set (rows ++ Plain ∷ []) (a.x - 1) (Running u) ∙ opened.counted) running.line next_at h
          (λ n k apart e. others a.x running.client n k running.line apart (sym (row_other (rows ++ Plain ∷ []) a.x n (Running u) within_x.0 apart) ∙ e))

      next_lone : (store' : Store) (outs' : List Outcome) → length outs' ≡ suc (length outs) → store'.regions ≡ store.regions → store'.clock ≡ store.clock → store'.last ≤ suc (length outs) → CallCells store'.cells u u.call u.put → Lone store' (set (rows ++ Plain ∷ []) (a.x - 1) (Running u)) outs'
      next_lone store' outs' len regions clock last cells = record {
        regions = regions ∙ f.lone.regions;
        clock = clock ∙ f.lone.clock;
        last = let z = len in let y = last in omega arith;
        few = let z = len in let y = good_few ls (Deliver t) good in let w = f.told in omega arith;
        cells = λ y v e. elim (row_put (rows ++ Plain ∷ []) a.x y (Running u) (Running v) (Running a.t) commit_at e) [
          | inl b ↦ (let same : u ≡ v = let z = b.1 in cc in subst (λ w. CallCells store'.cells w w.call w.put) same cells)
          | inr b ↦ absurd (let k = opened.fits y (Running v) b.1 in b.0 (one_begin (Deliver t ∷ ls) y a.x k.client running.client good_more k.line running.line))
        ];
        empty = λ n. absurd (n a.x u next_at);
      }

    pub fits_sends : (stage : Stage) (tk : Ticket) (store' : Store) → store'.regions ≡ store.regions → store'.clock ≡ store.clock → store'.last ≤ suc (length outs) → StageCells store'.cells a.t.start a.put stage
        → tk.line ≡ a.call.line → tk.beat ≡ false → sent_request (Took t r o ∷ Served t r o ∷ es) tk ≡ None → is_some (taken_reply (Took t r o ∷ Served t r o ∷ es) tk) ≡ false
        → StageAsked (Sent tk (asked_at a.t.start a.put stage) ∷ Took t r o ∷ Served t r o ∷ es) a.t.start a.put stage tk
        → Fits (Sent tk (asked_at a.t.start a.put stage) ∷ Took t r o ∷ Served t r o ∷ es) (Deliver t ∷ ls) store' (set (rows ++ Plain ∷ []) (a.x - 1) (Running (at_stage a.t a.call.line stage))) (outs ++ Done ∷ []) (ended ++ suc (length outs) ∷ [])
    fits_sends stage tk store' regions clock last cells own plain fresh untaken told =
        let call : CommitCall = record { line = a.call.line; stage = stage } in
        let u : Transaction = at_stage a.t a.call.line stage in
        let rows' : List Row = set (rows ++ Plain ∷ []) (a.x - 1) (Running u) in
        let c = commits in
        let h = running in
        let es2 : List Event = Took t r o ∷ Served t r o ∷ es in
        record {
          good = good_more;
          told = told_more;
          rowed = next_rowed u (outs ++ Done ∷ []) (record {
            client = h.client;
            line = h.line;
            start = h.start;
            status = h.status;
            writes = h.writes;
            call = record { line = c.line; row = next_row u; waits = c.waits; started = c.started; put = c.put; puts = c.puts; alone = c.alone; later = c.later };
          });
          awaited = awaited_sent (Took t r o ∷ Served t r o ∷ es) tk (asked_at a.t.start a.put stage) fresh untaken none (Deliver t ∷ ls) rows' (outs ++ Done ∷ []) plain (inr (record {
            x = a.x;
            t = u;
            call = call;
            put = a.put;
            row = subst (λ i. row_at rows' i ≡ Some (Committing a.x)) (sym own) (next_row u);
            running = next_at u;
            calls = refl;
            puts = a.puts;
            own = sym own;
            asks = sent_is (Took t r o ∷ Served t r o ∷ es) tk (asked_at a.t.start a.put stage) fresh untaken none;
            told = told;
          })) (λ n first last e. only n first last e ∙ sym a.own ∙ sym own);
          lone = next_lone u store' (outs ++ Done ∷ []) (let z = length-append outs (Done ∷ []) in omega arith) regions clock last (subst (λ z. CallCells store'.cells u (Some call) z) (sym a.puts) cells);
          times = times_more;
        }

    -- the commit is over, at c
    pub fits_ends : (c : ℕ) (store' : Store) → store'.regions ≡ store.regions → store'.clock ≡ store.clock → store'.last ≤ suc (length outs)
        → Fits (Took t r o ∷ Served t r o ∷ es) (Deliver t ∷ ls) store' (set (rows ++ Plain ∷ []) (a.x - 1) (Running (record a.t { status = Committed; call = None }))) (set (outs ++ Done ∷ []) (a.call.line - 1) (Ok (Committed_at (Some c)))) (set (ended ++ suc (length outs) ∷ []) (a.call.line - 1) (length (outs ++ Done ∷ [])))
    fits_ends c store' regions clock last =
        let u : Transaction = record a.t { status = Committed; call = None } in
        let o' : Outcome = Ok (Committed_at (Some c)) in
        let outs' : List Outcome = set (outs ++ Done ∷ []) (a.call.line - 1) o' in
        let k = commits in
        let h = running in
        let len : length outs' ≡ suc (length outs) = length-set (outs ++ Done ∷ []) (a.call.line - 1) o' ∙ (let z = length-append outs (Done ∷ []) in omega arith) in
        record {
          good = good_more;
          told = length-set (outs ++ Done ∷ []) (a.call.line - 1) o' ∙ told_more;
          rowed = next_rowed u outs' (record {
            client = h.client;
            line = h.line;
            start = elsewhere a.x (λ e. apart_x (sym e)) ∙ h.start;
            status = status_ended (outcome_of (outs ++ Done ∷ [])) (outcome_of outs') a.x a.call.line (Deliver t ∷ ls) k.line k.waits (ap is_commit here) (ap is_skip here) (λ n apart. sym (elsewhere n apart)) k.later (h.status ∙ k.started);
            writes = writes_same (outcome_of outs') (outcome_of (outs ++ Done ∷ [])) a.x (Deliver t ∷ ls) (λ n y kk v e. elsewhere n (λ q. let z = subst (λ i. line_at (Deliver t ∷ ls) i ≡ Some (Put y kk v)) q e in let w = k.line in cc)) ∙ h.writes;
            call = λ m l e d apart. idle m l e d (nat_eq m a.call.line) refl;
          });
          awaited = awaited_none (Took t r o ∷ Served t r o ∷ es) (Deliver t ∷ ls) (set (rows ++ Plain ∷ []) (a.x - 1) (Running u)) outs' none (λ n first last e. over n first last e (nat_eq n a.call.line) refl);
          lone = next_lone u store' outs' len regions clock last tt;
          times = times_set (outs ++ Done ∷ []) (ended ++ suc (length outs) ∷ []) (a.call.line - 1) o' (let w = within_call in let z = w.0 in let y = w.1 in omega arith) refl times_more;
        }
      where
        is_commit : Outcome → Bool
        is_commit = is_commit_at

        is_skip : Outcome → Bool
        is_skip = is_skipped

        elsewhere : (n : ℕ) → n ≢ a.call.line → outcome_of (set (outs ++ Done ∷ []) (a.call.line - 1) (Ok (Committed_at (Some c)))) n ≡ outcome_of (outs ++ Done ∷ []) n
        elsewhere n apart = outcome_other (outs ++ Done ∷ []) a.call.line n (Ok (Committed_at (Some c))) within_call.0 apart

        here : outcome_of (set (outs ++ Done ∷ []) (a.call.line - 1) (Ok (Committed_at (Some c)))) a.call.line ≡ Ok (Committed_at (Some c))
        here = outcome_same (outs ++ Done ∷ []) a.call.line (Ok (Committed_at (Some c))) within_call.0 within_call.1

        idle : (m : ℕ) (l : Line) → line_at (Deliver t ∷ ls) m ≡ Some l → is_call_of a.x l m ≡ true → (z : Bool) → nat_eq m a.call.line ≡ z → is_unfinished (outcome_of (set (outs ++ Done ∷ []) (a.call.line - 1) (Ok (Committed_at (Some c)))) m) ≡ false
        idle m l e d true q = let i : m ≡ a.call.line = grind (arith, nat_tests) in ap (λ j. is_unfinished (outcome_of (set (outs ++ Done ∷ []) (a.call.line - 1) (Ok (Committed_at (Some c)))) j)) i ∙ ap is_unfinished here
        idle m l e d false q = let apart : m ≢ a.call.line = grind (arith, nat_tests) in ap is_unfinished (elsewhere m apart) ∙ commits.alone m l e d apart

        over : (n : ℕ) → 1 ≤ n → n ≤ suc (length ls) → is_unfinished (outcome_of (set (outs ++ Done ∷ []) (a.call.line - 1) (Ok (Committed_at (Some c)))) n) ≡ true → (z : Bool) → nat_eq n a.call.line ≡ z → ⊥
        over n first last e true q = let i : n ≡ a.call.line = grind (arith, nat_tests) in let y = ap (λ j. is_unfinished (outcome_of (set (outs ++ Done ∷ []) (a.call.line - 1) (Ok (Committed_at (Some c)))) j)) i ∙ ap is_unfinished here in cc
        over n first last e false q = let apart : n ≢ a.call.line = grind (arith, nat_tests) in apart (only n first last (sym (ap is_unfinished (elsewhere n apart)) ∙ e) ∙ sym a.own)
