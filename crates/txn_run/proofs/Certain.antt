-- A line that calls for a timestamp fails only for want of one.
use Rattle.std.proofs.Common.{◌≡◌, ◌≢◌, inl, inr, ℕ, suc, ◌+◌, Bool, true, false, if◌then◌else◌, List, [], ◌∷◌, Option, Some, None, length, nat_eq, nat_lt, refl, sym, ap, ◌∙◌, subst, arith}
use Rattle.std.proofs.lemmas.Bool.Decides.{nat_tests}
use Rattle.std.specs.Prelude.{Err as Refused}
use Rattle.txn_kv.specs.ErrorView.{ErrorView, view_of}
use Rattle.txn_kv.specs.ErrorView.ErrorView.{plain, locks, region, undetermined as not_known, key, extracted, multiple, kv, text, pessimistic}
use Rattle.txn_kv.specs.declared.errors.Error.{Error}
use Rattle.txn_kv.specs.declared.errors.Error.TheVariants.{InternalError}
use Rattle.txn_kv.specs.declared.errors.Internal.{Internal}
use Rattle.txn_history.specs.Among.{IsAmong}
use Rattle.txn_history.specs.Event.{Event}
use Rattle.txn_history.specs.Event.Event.{Answered}
use Rattle.txn_history.specs.Posted.{ticket_of}
use Rattle.txn_causes.specs.Causes.{HasCause}
use Rattle.txn_causes.specs.Heard.{Heard, heard_in}
use Rattle.txn_plan.specs.Timing.{WasUntimed}
use Rattle.txn_commit.specs.Ways.{Ways}
use Rattle.txn_commit_plans.specs.CausesOfCalls.{untimed_caused}
use Rattle.txn_commit_plans.specs.CausesOfLookUps.{HasNoTimestamp}
use Rattle.txn_lines.specs.Deeds.{begins}
use Rattle.txn_lines.specs.Lines.{line_at}
use Rattle.txn_lines.specs.declared.act.Act.{Act}
use Rattle.txn_lines.specs.declared.act.Act.TheVariants.{Rollback}
use Rattle.txn_lines.specs.declared.line.Line.{Line}
use Rattle.txn_report.specs.declared.outcome.Outcome.{Outcome}
use Rattle.txn_report.specs.declared.outcome.Outcome.TheVariants.{Err}
use Rattle.txn_report.specs.declared.report.Report.{Report}
use Rattle.txn_side.specs.Account.{is_undetermined, is_undetermined_view}
use Rattle.txn_side.specs.Trace.{AreShown, Call, CallKind, FailsIn, IsBegunAs, IsCalled, Trace, kind_at}
use Rattle.txn_side.specs.Trace.CallKind.{ForTimestamp}
use Rattle.txn_machine.specs.Accounts.{Ask, account_of, ask_for, ask_of}
use Rattle.txn_machine.specs.Causes.{ended_of, lines_before, role_for, role_of}
use Rattle.txn_machine.specs.Causes.Role.{AsksTime}
use Rattle.txn_machine.specs.Failing.{AllCausesMeet, CauseMeets, CausesMeetLines, calls_by, rollbacks_of, rolled, rolled_by}
use Rattle.txn_machine.specs.Script.{outcome_of}
use Rattle.txn_machine.proofs.Begun.{either_among, later_among}
use Rattle.txn_machine.proofs.Numberings.{line_new, line_old, line_range}
use Rattle.txn_clients.specs.Failing.{FailsFor, HasFailedFor}
use Rattle.txn_run.specs.Caused.{trace_at}
use Rattle.txn_run.specs.Certain.{AreCertain, AskFails}
use Rattle.txn_run.proofs.Doubting.{CallsSo, called_before, calls_so}
use Rattle.txn_run.proofs.Refusing.{refused_internal, view-InternalError}

-- The cause of an error of a plan makes no end unknown.
known_end : (K : Heard → Type 0) (S : Type 0) (v : ErrorView) → HasCause K S v → is_undetermined_view v ≡ false
known_end K S (plain e) k = refl
known_end K S (locks found) k = refl
known_end K S (region e) k = refl
known_end K S (not_known inner) k = absurd k
known_end K S (key e) k = refl
known_end K S (extracted errors) k = refl
known_end K S (multiple errors) k = refl
known_end K S (kv message) k = refl
known_end K S (text message) k = refl
known_end K S (pessimistic inner keys) k = refl

known_internal : (what : Internal) → is_undetermined (InternalError what) ≡ false
known_internal what = ap is_undetermined_view (view-InternalError what)

module _ {P : Type 0} (w : Ways P) (t : Trace) (n : ℕ) (e : Error) where
  known_refused : (at : ℕ) (h : List Event) → AreShown t at h → HasNoTimestamp h e → is_undetermined e ≡ false
  known_refused at h shown k =
      let ask = ticket_of k.0 k.1 in
      let s = shown (Answered ask (Refused e)) k.2 in
      let i = refused_internal t ask.line e s.1 in
      ap is_undetermined i.1 ∙ known_internal i.0

  known_untimed : (at : ℕ) (h : List Event) → AreShown t at h → WasUntimed h e → is_undetermined e ≡ false
  known_untimed at h shown k = elim (untimed_caused h e k) [ inl c ↦ known_end (heard_in h) ⊥ (view_of e) c | inr unmet ↦ known_refused at h shown unmet ]

  -- so fails a line that is told at itself alone, and does not roll back
  known_ask : ((at : ℕ) → IsCalled t n at → at ≡ n) → (IsAmong t.rollbacks n → ⊥) → FailsIn (FailsFor w) t n e → is_undetermined e ≡ false
  known_ask own unrolled f = elim f.fails_so [ inl so ↦ by so.why | inr b ↦ absurd (unrolled b.rolls) ]
    where
      kind : kind_at f.at n ≡ ForTimestamp
      kind = let same = own f.at f.called in let yes : nat_eq f.at n ≡ true = grind (arith, nat_tests, same) in rw yes refl

      by : HasFailedFor w (kind_at f.at n) (IsBegunAs t f.at) f.history e → is_undetermined e ≡ false
      by k = known_untimed f.at f.history f.shown (subst (λ (x : CallKind). HasFailedFor w x (IsBegunAs t f.at) f.history e) kind k)

-- Which lines roll back

one_rolls : (n : ℕ) (act : Act) (k : ℕ) → IsAmong (rolled n act) k → n ≡ k
one_rolls n Rollback k (inl e) = e
one_rolls n Rollback k (inr h) = absurd h
one_rolls n _ k h = absurd h

some_asked : (ask : Ask) → ◌≡◌ {A = Option Ask} (Some ask) None → ⊥
some_asked ask q = cc

ask_rolls : (n : ℕ) (ask : Option Ask) (k : ℕ) → IsAmong (rolled_by n ask) k → (n ≡ k) × (ask ≡ None → ⊥)
ask_rolls n None k h = absurd h
ask_rolls n (Some ask) k h = (one_rolls n ask.act k h, some_asked ask)

-- the line of this number is there, and asks something of a transaction
record RollsSo (script : List Line) (n : ℕ) : Type 0 where
  line : Line
  there : line_at script n ≡ Some line
  asks : ask_of line ≡ None → ⊥

rolls_so : (script : List Line) (n : ℕ) → IsAmong (rollbacks_of script) n → RollsSo script n
rolls_so [] n h = absurd h
rolls_so (l ∷ before) n h = elim (either_among (rolled_by (suc (length before)) (ask_of l)) (rollbacks_of before) n h) [ inl here ↦ newest (ask_rolls (suc (length before)) (ask_of l) n here) | inr older ↦ earlier (rolls_so before n older) ]
  where
    newest : (suc (length before) ≡ n) × (ask_of l ≡ None → ⊥) → RollsSo (l ∷ before) n
    newest (is, asks) = record { line = l; there = subst (λ k. line_at (l ∷ before) k ≡ Some l) is (line_new l before); asks = asks }

    earlier : RollsSo before n → RollsSo (l ∷ before) n
    earlier k =
        let most = (line_range before n k.line k.there).1 in
        let apart : n ≢ suc (length before) = λ e. omega (arith, most, e) in
        record { line = k.line; there = line_old l before n apart ∙ k.there; asks = k.asks }

-- what rolled back in earlier lines does in the script
rolled_before : (script : List Line) (m n : ℕ) → IsAmong (rollbacks_of (lines_before script m)) n → IsAmong (rollbacks_of script) n
rolled_before [] m n h = h
rolled_before (l ∷ before) m n h = by (nat_lt (length (l ∷ before)) m) (λ k. rolled_before before m n k) h
  where
    by : (b : Bool) → (IsAmong (rollbacks_of (lines_before before m)) n → IsAmong (rollbacks_of before) n) → IsAmong (rollbacks_of (if b then l ∷ before else lines_before before m)) n → IsAmong (rollbacks_of (l ∷ before)) n
    by true older k = k
    by false older k = later_among (rolled_by (suc (length before)) (ask_of l)) (rollbacks_of before) n (older k)

-- Each line

none_some : (line : Line) → ◌≡◌ {A = Option Line} None (Some line) → ⊥
none_some line e = cc

-- what is said of all lines is said of one that asks nothing of a transaction
cause_at : (Fails : ℕ → Error → Type 0) (outs : List Outcome) (ended : List ℕ) (script : List Line) (n : ℕ) (line : Line) (e : Error) → AllCausesMeet Fails outs ended script → line_at script n ≡ Some line → ask_of line ≡ None → outcome_of outs n ≡ Err e → Fails n e
cause_at Fails outs ended [] n line e all there none failed = absurd (none_some line there)
cause_at Fails outs ended (l ∷ before) n line e all there none failed = by (nat_eq (length before + 1) n) refl there (λ f. cause_at Fails outs ended before n line e all.1 f none failed)
  where
    by : (b : Bool) → nat_eq (length before + 1) n ≡ b → (if b then Some l else line_at before n) ≡ Some line → (line_at before n ≡ Some line → Fails n e) → Fails n e
    by true q f later =
        let same : l ≡ line = cc in
        let number : length (l ∷ before) ≡ n = grind (arith, nat_tests) in
        let meets : CauseMeets Fails (λ x. account_of (λ n. outcome_of outs n) (λ n. ended_of ended n) before x) (length (l ∷ before)) None (outcome_of outs (length (l ∷ before))) =
        subst (λ ask. CauseMeets Fails (λ x. account_of (λ n. outcome_of outs n) (λ n. ended_of ended n) before x) (length (l ∷ before)) ask (outcome_of outs (length (l ∷ before)))) (ap ask_of same ∙ none) all.0 in
        subst (λ k. Fails k e) number (meets e (subst (λ k. outcome_of outs k ≡ Err e) (sym number) failed))
    by false q f later = later f

pub certain_lines : {P : Type 0} (w : Ways P) (script : List Line) (report : Report) → CausesMeetLines (FailsFor w) script report → AreCertain script report
certain_lines w script report causes = record { asks = asks }
  where
    asks : (n : ℕ) (e : Error) → AskFails script report n e → is_undetermined e ≡ false
    asks n e f = known_ask w (trace_at script report n) n e own unrolled (cause_at (λ k x. FailsIn (FailsFor w) (trace_at script report k) k x) report.outcomes report.ended script n f.line e causes f.there (ap ask_for f.asks) f.failed)
      where
        last : ℕ
        last = suc (ended_of report.ended n)

        own : (at : ℕ) → IsCalled (trace_at script report n) n at → at ≡ n
        own at called = by (subst (λ role. IsAmong (calls_by n role) call) (ap role_of (one caller.line caller.there) ∙ ap role_for f.asks) caller.calls)
          where
            call : Call
            call = record { line = n; at = at }

            caller : CallsSo script call
            caller = calls_so script call (called_before script last call called)

            one : (line : Line) → line_at script n ≡ Some line → line ≡ f.line
            one line there = let same : ◌≡◌ {A = Option Line} (Some line) (Some f.line) = sym there ∙ f.there in cc

            by : IsAmong (calls_by n (AsksTime (begins f.act) f.client)) call → at ≡ n
            by (inl same) = sym (ap (λ (c : Call). c.at) same)
            by (inr h) = absurd h

        unrolled : IsAmong (trace_at script report n).rollbacks n → ⊥
        unrolled h = by (rolls_so script n (rolled_before script last n h))
          where
            by : RollsSo script n → ⊥
            by k = let same : ◌≡◌ {A = Option Line} (Some k.line) (Some f.line) = sym k.there ∙ f.there in let is : k.line ≡ f.line = cc in k.asks (ap ask_of is ∙ ap ask_for f.asks)
