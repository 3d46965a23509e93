-- What a commit line makes of the row of its transaction, of what is out, and of the outcomes.
use Rattle.std.proofs.Common.{◌≡◌, ◌≢◌, ℕ, suc, ◌-◌, ◌≤◌, ◌⊎◌, inl, inr, Bool, true, false, if◌then◌else◌, List, [], ◌∷◌, ◌++◌, Some, None, length, set, is_some, nat_eq, refl, sym, ap, ◌∙◌, subst, subst₂, arith, length-append, length-set}
use Rattle.std.proofs.lemmas.Bool.Decides.{nat_tests}
use Rattle.txn_kv.specs.declared.ticket.Ticket.{Ticket}
use Rattle.txn_history.specs.Event.{Event, sent_request, taken_reply}
use Rattle.txn_history.specs.Event.Event.{Sent}
use Rattle.txn_model.specs.Store.{Store}
use Rattle.txn_script.specs.Lines.{line_at, why_after}
use Rattle.txn_script.specs.declared.line.Line.{Line}
use Rattle.txn_script.specs.declared.line.Line.TheVariants.{Begin, Commit}
use Rattle.txn_report.specs.declared.outcome.Outcome.{Outcome}
use Rattle.txn_report.specs.declared.outcome.Outcome.TheVariants.{Ok, Err, Unfinished, Done, Skipped}
use Rattle.txn_report.specs.declared.outcome.Payload.TheVariants.{Number, Commit as Committed_at}
use Rattle.txn_first.specs.declared.transaction.Transaction.{Transaction}
use Rattle.txn_first.specs.declared.transaction.Put.{Put as Write}
use Rattle.txn_first.specs.declared.transaction.CommitCall.{CommitCall}
use Rattle.txn_first.specs.declared.transaction.Stage.TheVariants.{FindingRegion}
use Rattle.txn_first.specs.declared.transaction.Status.{Status}
use Rattle.txn_first.specs.declared.transaction.Status.TheVariants.{Active, StartedCommit, Committed}
use Rattle.txn_first.specs.declared.machine.Row.{Row}
use Rattle.txn_first.specs.declared.machine.Row.TheVariants.{Plain, Beginning, Running, Committing}
use Rattle.txn_first.specs.Lists.{row_at}
use Rattle.txn_first.specs.Script.{outcome_of}
use Rattle.txn_first.specs.Causes.{is_unfinished, status_of, status_after, allows_commit}
use Rattle.txn_first.specs.Rowed.{writes_in, IsIdleBut, CommitFits, CallFits, RunningFits, Rowed, asked_at, CallCells, Lone, Fits}
use Rattle.txn_first.proofs.Knowns.{times_open}
use Rattle.txn_first.proofs.Lines.{line_new, line_within, line_cases, row_cases, row_same, row_other, row_put}
use Rattle.txn_first.proofs.Opens.{old_outcome, old_row, old_line, status_old, writes_old, idle_old, last_outcome, last_row, lone_opened}
use Rattle.txn_first.proofs.Ones.{OtherRow, others_old, rowed_one, NoneOut, idle_none_out, none_unfinished, awaited_none, sent_is, awaited_sent}
use Rattle.txn_first.proofs.Calls.{others_set}

module _ (es : List Event) (x : ℕ) (ls : List Line) (store : Store) (rows : List Row) (outs : List Outcome) (ended : List ℕ) (t : Transaction)
    (good : why_after ls (Commit x) ≡ None) (at : row_at rows x ≡ Some (Running t)) (idle : t.call ≡ None) (allowed : allows_commit t.status ≡ true) (f : Fits es ls store rows outs ended) where
  still : IsIdleBut ls outs x 0
  still = let h = f.rowed.fits x (Running t) at in subst (λ c. CallFits ls rows outs x t c) idle h.call

  none : NoneOut es
  none = idle_none_out es ls rows outs x t f.good f.rowed f.awaited at idle

  opened_counted : length (rows ++ Committing x ∷ []) ≡ suc (length ls)
  opened_counted = let a = length-append rows (Committing x ∷ []) in let b = f.rowed.counted in omega arith

  opened_at : row_at (rows ++ Committing x ∷ []) x ≡ Some (Running t)
  opened_at = old_row (Commit x) ls rows (Committing x) outs Done f.told f.rowed.counted x (Running t) at

  module _ (o : Outcome) (u : Transaction) where
    after : List Row
    after = set (rows ++ Committing x ∷ []) (x - 1) (Running u)

    pub after_at : row_at (set (rows ++ Committing x ∷ []) (x - 1) (Running u)) x ≡ Some (Running u)
    after_at = row_same (rows ++ Committing x ∷ []) x (Running u) (Running t) opened_at

    inside : (1 ≤ x) × (x ≤ length ls)
    inside = let h = f.rowed.fits x (Running t) at in line_within ls x (Begin h.client) h.line

    pub after_last : row_at (set (rows ++ Committing x ∷ []) (x - 1) (Running u)) (suc (length ls)) ≡ Some (Committing x)
    after_last =
        let w = f.rowed.fits x (Running t) at in
        let i = line_within ls x (Begin w.client) w.line in
        let a = i.0 in let b = i.1 in
        row_other (rows ++ Committing x ∷ []) x (suc (length ls)) (Running u) a (λ s. omega arith) ∙ last_row (Commit x) ls rows (Committing x) outs o f.told f.rowed.counted

    status_now : u.status ≡ StartedCommit → is_unfinished o ≡ true ⊎ (o ≡ Ok (Committed_at None)) → status_of (outcome_of (outs ++ o ∷ [])) x (Commit x ∷ ls) ≡ u.status
    status_now s c =
        let h = f.rowed.fits x (Running t) at in
        let itself : nat_eq x x ≡ true = grind (arith, nat_tests) in
        let newest : outcome_of (outs ++ o ∷ []) (suc (length ls)) ≡ o = last_outcome (Commit x) ls rows (Committing x) outs o f.told f.rowed.counted in
        let before : status_of (outcome_of (outs ++ o ∷ [])) x ls ≡ t.status = status_old (Commit x) ls rows (Committing x) outs o f.told f.rowed.counted x ∙ h.status in
        ap (λ (z : Bool). if z then status_after (status_of (outcome_of (outs ++ o ∷ [])) x ls) (outcome_of (outs ++ o ∷ []) (suc (length ls))) else status_of (outcome_of (outs ++ o ∷ [])) x ls) itself
        ∙ ap (λ z. status_after (status_of (outcome_of (outs ++ o ∷ [])) x ls) z) newest
        ∙ ap (λ z. status_after z o) before
        ∙ started_by t.status o allowed c
        ∙ sym s
      where
        started_by : (st : Status) (p : Outcome) → allows_commit st ≡ true → is_unfinished p ≡ true ⊎ (p ≡ Ok (Committed_at None)) → status_after st p ≡ StartedCommit
        started_by Active (Ok p) a d = elim d [ inl z ↦ absurd (cc) | inr z ↦ ap (λ q. status_after Active q) z ]
        started_by Active (Err e) a d = elim d [ inl z ↦ absurd (cc) | inr z ↦ absurd (cc) ]
        started_by Active Unfinished a d = refl
        started_by Active Done a d = elim d [ inl z ↦ absurd (cc) | inr z ↦ absurd (cc) ]
        started_by Active Skipped a d = elim d [ inl z ↦ absurd (cc) | inr z ↦ absurd (cc) ]
        started_by StartedCommit (Ok p) a d = elim d [ inl z ↦ absurd (cc) | inr z ↦ ap (λ q. status_after StartedCommit q) z ]
        started_by StartedCommit (Err e) a d = elim d [ inl z ↦ absurd (cc) | inr z ↦ absurd (cc) ]
        started_by StartedCommit Unfinished a d = refl
        started_by StartedCommit Done a d = elim d [ inl z ↦ absurd (cc) | inr z ↦ absurd (cc) ]
        started_by StartedCommit Skipped a d = elim d [ inl z ↦ absurd (cc) | inr z ↦ absurd (cc) ]
        started_by Committed p a d = absurd (cc)

    running_now : u.start ≡ t.start → u.put ≡ t.put → u.status ≡ StartedCommit → is_unfinished o ≡ true ⊎ (o ≡ Ok (Committed_at None)) → CallFits (Commit x ∷ ls) (set (rows ++ Committing x ∷ []) (x - 1) (Running u)) (outs ++ o ∷ []) x u u.call
        → RunningFits (Commit x ∷ ls) (set (rows ++ Committing x ∷ []) (x - 1) (Running u)) (outs ++ o ∷ []) x u
    running_now start put s c calls =
        let h = f.rowed.fits x (Running t) at in record {
          client = h.client;
          line = old_line (Commit x) ls rows (Committing x) outs o f.told f.rowed.counted x (Begin h.client) h.line;
          start = old_outcome (Commit x) ls rows (Committing x) outs o f.told f.rowed.counted x (line_within ls x (Begin h.client) h.line).1 ∙ h.start ∙ ap (λ n. Ok (Number n)) (sym start);
          status = status_now s c;
          writes = writes_old (Commit x) ls rows (Committing x) outs o f.told f.rowed.counted x ∙ h.writes ∙ ap writes_in (sym put);
          call = calls;
        }

    other : (n : ℕ) (r : Row) → n ≢ x → row_at (rows ++ Committing x ∷ []) n ≡ Some r → OtherRow (Commit x ∷ ls) n r
    other n r apart e = elim (row_cases rows (Committing x) n r e) [
      | inl a ↦ subst₂ (λ i z. OtherRow (Commit x ∷ ls) i z) (ap (λ i. suc i) (sym f.rowed.counted) ∙ sym a.0) a.1 (line_new (Commit x) ls)
      | inr a ↦ more r (let h = f.rowed.fits x (Running t) at in others_old ls rows outs x h.client n r f.good f.rowed h.line apart a.1)
    ]
      where
        more : (r : Row) → OtherRow ls n r → OtherRow (Commit x ∷ ls) n r
        more Plain q = tt
        more Beginning q = absurd q
        more (Running w) q = absurd q
        more (Committing y) q = old_line (Commit x) ls rows (Committing x) outs o f.told f.rowed.counted n (Commit y) q

    rowed_now : RunningFits (Commit x ∷ ls) (set (rows ++ Committing x ∷ []) (x - 1) (Running u)) (outs ++ o ∷ []) x u → Rowed (Commit x ∷ ls) (set (rows ++ Committing x ∷ []) (x - 1) (Running u)) (outs ++ o ∷ [])
    rowed_now r = rowed_one (Commit x ∷ ls) (set (rows ++ Committing x ∷ []) (x - 1) (Running u)) (outs ++ o ∷ []) x r.client u (good, f.good) (length-set (rows ++ Committing x ∷ []) (x - 1) (Running u) ∙ opened_counted) r.line after_at r (others_set (Commit x ∷ ls) (rows ++ Committing x ∷ []) x t (Running u) opened_at other)

    lone_now : CallCells store.cells u u.call u.put → Lone store (set (rows ++ Committing x ∷ []) (x - 1) (Running u)) (outs ++ o ∷ [])
    lone_now cells =
        let opened = lone_opened store (Commit x) ls rows (Committing x) outs o f.told f.rowed.counted good (λ w e. cc) f.lone in
        record {
          regions = opened.regions;
          clock = opened.clock;
          last = opened.last;
          few = opened.few;
          cells = λ y v e. elim (row_put (rows ++ Committing x ∷ []) x y (Running u) (Running v) (Running t) opened_at e) [
            | inl a ↦ (let same : u ≡ v = let z = a.1 in cc in subst (λ w. CallCells store.cells w w.call w.put) same cells)
            | inr a ↦ absurd (other y (Running v) a.0 a.1)
          ];
          empty = λ n. absurd (n x u after_at);
        }

    idle_cells : (st : Status) → t.status ≡ st → allows_commit st ≡ true → store.cells ≡ []
    idle_cells st s a =
        let c : CallCells store.cells t None t.put = subst (λ z. CallCells store.cells t z t.put) idle (f.lone.cells x t at) in
        by_status t.status refl allowed c
      where
        by_status : (q : Status) → t.status ≡ q → allows_commit q ≡ true → CallCells store.cells (record t { status = q }) None t.put → store.cells ≡ []
        by_status Active e b d = d
        by_status StartedCommit e b d = d
        by_status Committed e b d = absurd (cc)

    over : (n : ℕ) → 1 ≤ n → n ≤ length ls → is_unfinished (outcome_of (outs ++ o ∷ []) n) ≡ true → ⊥
    over n first last e = none_unfinished es ls rows outs f.awaited none n first last (sym (ap is_unfinished (old_outcome (Commit x) ls rows (Committing x) outs o f.told f.rowed.counted n last)) ∙ e)

  -- nothing is written, and the commit is over
  pub fits_commit_none : t.put ≡ None → Fits es (Commit x ∷ ls) store (set (rows ++ Committing x ∷ []) (x - 1) (Running (record t { status = StartedCommit; call = None }))) (outs ++ Ok (Committed_at None) ∷ []) (ended ++ suc (length outs) ∷ [])
  fits_commit_none empty =
      let o : Outcome = Ok (Committed_at None) in
      let u : Transaction = record t { status = StartedCommit; call = None } in
      record {
        good = (good, f.good);
        told = let a = length-append outs (o ∷ []) in let b = f.told in omega arith;
        rowed = rowed_now o u (running_now o u refl refl refl (inr refl) (idle_old (Commit x) ls rows (Committing x) outs o f.told f.rowed.counted x 0 refl still));
        awaited = awaited_none es (Commit x ∷ ls) (set (rows ++ Committing x ∷ []) (x - 1) (Running u)) (outs ++ o ∷ []) none (λ n first last e. ends n first last e (nat_eq n (suc (length ls))) refl);
        lone = lone_now o u (idle_cells o u t.status refl allowed);
        times = times_open outs ended o (suc (length outs)) (inr (refl, refl)) f.times;
      }
    where
      ends : (n : ℕ) → 1 ≤ n → n ≤ suc (length ls) → is_unfinished (outcome_of (outs ++ Ok (Committed_at None) ∷ []) n) ≡ true → (b : Bool) → nat_eq n (suc (length ls)) ≡ b → ⊥
      ends n first last e true q =
          let s : n ≡ suc (length ls) = grind (arith, nat_tests) in
          let z = subst (λ i. is_unfinished (outcome_of (outs ++ Ok (Committed_at None) ∷ []) i) ≡ true) s e in
          let y = ap is_unfinished (last_outcome (Commit x) ls rows (Committing x) outs (Ok (Committed_at None)) f.told f.rowed.counted) in
          cc
      ends n first last e false q = over (Ok (Committed_at None)) t n first (omega_le n last q) e
        where
          omega_le : (m : ℕ) → m ≤ suc (length ls) → nat_eq m (suc (length ls)) ≡ false → m ≤ length ls
          omega_le m a b = grind (arith, nat_tests)

  -- the commit looks for the region of its key
  pub fits_commit_sent : (p : Write) (tk : Ticket) → t.put ≡ Some p → tk.line ≡ suc (length outs) → tk.beat ≡ false → sent_request es tk ≡ None → is_some (taken_reply es tk) ≡ false
      → Fits (Sent tk (asked_at t.start p FindingRegion) ∷ es) (Commit x ∷ ls) store (set (rows ++ Committing x ∷ []) (x - 1) (Running (record t { status = StartedCommit; call = Some (record { line = suc (length outs); stage = FindingRegion }) }))) (outs ++ Unfinished ∷ []) (ended ++ 0 ∷ [])
  fits_commit_sent p tk puts own plain fresh untaken =
      let call : CommitCall = record { line = suc (length outs); stage = FindingRegion } in
      let u : Transaction = record t { status = StartedCommit; call = Some (record { line = suc (length outs); stage = FindingRegion }) } in
      let rows' : List Row = set (rows ++ Committing x ∷ []) (x - 1) (Running u) in
      let newest : suc (length ls) ≡ suc (length outs) = ap (λ i. suc i) (sym f.told) in
      let fits' : CommitFits (Commit x ∷ ls) rows' (outs ++ Unfinished ∷ []) x u call = record {
        line = subst (λ i. line_at (Commit x ∷ ls) i ≡ Some (Commit x)) newest (line_new (Commit x) ls);
        row = subst (λ i. row_at rows' i ≡ Some (Committing x)) newest (after_last Unfinished u);
        waits = subst (λ i. outcome_of (outs ++ Unfinished ∷ []) i ≡ Unfinished) newest (last_outcome (Commit x) ls rows (Committing x) outs Unfinished f.told f.rowed.counted);
        started = refl;
        put = p;
        puts = puts;
        alone = λ m l e c apart. elim (line_cases (Commit x) ls m l e) [
          | inl a ↦ absurd (apart (a.0 ∙ newest))
          | inr a ↦ (let w = line_within ls m l a.1 in let z = w.0 in ap is_unfinished (old_outcome (Commit x) ls rows (Committing x) outs Unfinished f.told f.rowed.counted m w.1) ∙ still m l a.1 c (λ s. omega arith))
        ];
        later = λ m below e. absurd (let w = line_within (Commit x ∷ ls) m (Commit x) e in let a = w.1 in let b = f.told in omega arith);
      } in
      record {
        good = (good, f.good);
        told = let a = length-append outs (Unfinished ∷ []) in let b = f.told in omega arith;
        rowed = rowed_now Unfinished u (running_now Unfinished u refl refl refl (inl refl) fits');
        awaited = awaited_sent es tk (asked_at t.start p FindingRegion) fresh untaken none (Commit x ∷ ls) rows' (outs ++ Unfinished ∷ []) plain (inr (record {
          x = x;
          t = u;
          call = call;
          put = p;
          row = subst (λ i. row_at rows' i ≡ Some (Committing x)) (newest ∙ sym own) (after_last Unfinished u);
          running = after_at Unfinished u;
          calls = refl;
          puts = puts;
          own = sym own;
          asks = sent_is es tk (asked_at t.start p FindingRegion) fresh untaken none;
          told = tt;
        })) (λ n first last e. only tk own n first last e (nat_eq n (suc (length ls))) refl);
        lone = lone_now Unfinished u (subst (λ z. CallCells store.cells u (Some call) z) (sym puts) (idle_cells Unfinished u t.status refl allowed));
        times = times_open outs ended Unfinished 0 (inl (refl, refl)) f.times;
      }
    where
      only : (tk : Ticket) → tk.line ≡ suc (length outs) → (n : ℕ) → 1 ≤ n → n ≤ suc (length ls) → is_unfinished (outcome_of (outs ++ Unfinished ∷ []) n) ≡ true → (b : Bool) → nat_eq n (suc (length ls)) ≡ b → n ≡ tk.line
      only tk own n first last e true q = let s : n ≡ suc (length ls) = grind (arith, nat_tests) in s ∙ ap (λ i. suc i) (sym f.told) ∙ sym own
      only tk own n first last e false q = absurd (over Unfinished t n first (grind (arith, nat_tests)) e)
