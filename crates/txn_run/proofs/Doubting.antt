-- A call of a transaction fails with an error that says whether a Commit of its primary was lost.
use Rattle.std.proofs.Common.{◌≡◌, ◌≢◌, ◌⊎◌, ◌++◌, inl, inr, ℕ, suc, Bool, true, false, if◌then◌else◌, List, [], ◌∷◌, length, Option, Some, None, nat_lt, refl, sym, ap, ◌∙◌, subst, arith}
use Rattle.txn_kv.specs.declared.errors.Error.{Error}
use Rattle.txn_history.specs.Among.{IsAmong}
use Rattle.txn_history.specs.Event.{Event, Has, same_ticket}
use Rattle.txn_history.specs.Event.Event.{Lost, Took}
use Rattle.txn_kv.specs.declared.request.Request.TheVariants.{Commit}
use Rattle.txn_kv.specs.declared.ticket.Ticket.{Ticket}
use Rattle.txn_commit.proofs.Following.{ticket_is}
use Rattle.txn_lines.specs.Lines.{line_at}
use Rattle.txn_lines.specs.declared.line.Line.{Line}
use Rattle.txn_lines.specs.declared.line.Line.TheVariants.{Rollback}
use Rattle.txn_machine.specs.Accounts.{Ask, account_of, ask_of}
use Rattle.txn_machine.specs.Arising.{AllSpeak}
use Rattle.txn_machine.specs.Causes.{EventsMeetLines, Role, ended_of, lines_before, role_of}
use Rattle.txn_machine.specs.Causes.Role.{AsksTime, MakesClient, NoCall, UsesTransaction}
use Rattle.txn_machine.specs.Failing.{AllCausesMeet, CauseMeets, calls_by, calls_of}
use Rattle.txn_machine.specs.Script.{history, outcome_of}
use Rattle.txn_machine.proofs.Begun.{either_among, later_among}
use Rattle.txn_machine.proofs.Numberings.{line_new, line_old, line_range}
use Rattle.txn_report.specs.declared.outcome.Outcome.{Outcome}
use Rattle.txn_report.specs.declared.outcome.Outcome.TheVariants.{Ok, Err}
use Rattle.txn_report.specs.declared.outcome.Payload.TheVariants.{Number}
use Rattle.txn_report.specs.declared.report.Report.{Report}
use Rattle.txn_side.specs.Account.{Account}
use Rattle.txn_side.specs.Doubt.{HasLostCommit, IsFirstLostUntaken, IsInDoubt, IsRefusal, NamesFirst, SaysWhether, WasWritten}
use Rattle.txn_side.specs.Trace.{Call}
use Rattle.txn_run.specs.Doubt.{AreToldOfDoubt, NamesLost, TellsOfDoubt, TellsWhether}
use Rattle.txn_run.specs.Refused.{AllRefusalsMeet, AreExact, RefusalMeets}
use Rattle.txn_run.proofs.LostOrTaken.{AreLostOrTaken, history_apart_by}
use Rattle.txn_run.proofs.ServedOnce.{alike}

-- Which lines call, and whom.

-- a line calls for itself alone
one_calls : (n : ℕ) (role : Role) (c : Call) → IsAmong (calls_by n role) c → n ≡ c.line
one_calls n MakesClient c h = absurd h
one_calls n (AsksTime begins client) c (inl e) = ap (λ (x : Call). x.line) e
one_calls n (AsksTime begins client) c (inr h) = absurd h
one_calls n (UsesTransaction commits x) c (inl e) = ap (λ (x : Call). x.line) e
one_calls n (UsesTransaction commits x) c (inr h) = absurd h
one_calls n NoCall c h = absurd h

-- the line of this number is there, and calls so
pub record CallsSo (script : List Line) (c : Call) : Type 0 where
  pub line : Line
  pub there : line_at script c.line ≡ Some line
  pub calls : IsAmong (calls_by c.line (role_of line)) c

pub calls_so : (script : List Line) (c : Call) → IsAmong (calls_of script) c → CallsSo script c
calls_so [] c h = absurd h
calls_so (l ∷ before) c h = elim (either_among (calls_by (suc (length before)) (role_of l)) (calls_of before) c h) [ inl here ↦ newest here (one_calls (suc (length before)) (role_of l) c here) | inr older ↦ earlier (calls_so before c older) ]
  where
    newest : IsAmong (calls_by (suc (length before)) (role_of l)) c → suc (length before) ≡ c.line → CallsSo (l ∷ before) c
    newest here is = record {
      line = l;
      there = subst (λ n. line_at (l ∷ before) n ≡ Some l) is (line_new l before);
      calls = subst (λ n. IsAmong (calls_by n (role_of l)) c) is here;
    }

    earlier : CallsSo before c → CallsSo (l ∷ before) c
    earlier k =
        let most = (line_range before c.line k.line k.there).1 in
        let apart : c.line ≢ suc (length before) = λ e. omega (arith, most, e) in
        record { line = k.line; there = line_old l before c.line apart ∙ k.there; calls = k.calls }

-- what called in earlier lines calls in the script
pub called_before : (script : List Line) (n : ℕ) (c : Call) → IsAmong (calls_of (lines_before script n)) c → IsAmong (calls_of script) c
called_before [] n c h = h
called_before (l ∷ before) n c h = by (nat_lt (length (l ∷ before)) n) (λ k. called_before before n c k) h
  where
    by : (b : Bool) → (IsAmong (calls_of (lines_before before n)) c → IsAmong (calls_of before) c) → IsAmong (calls_of (if b then l ∷ before else lines_before before n)) c → IsAmong (calls_of (l ∷ before)) c
    by true older k = k
    by false older k = later_among (calls_by (suc (length before)) (role_of l)) (calls_of before) c (older k)

-- A line that asks something of a transaction, and is not refused, says so exactly. One that calls for a timestamp is none that has begun,
-- for it failed.

began_failed : (s : ℕ) (e : Error) → ◌≡◌ {A = Outcome} (Ok (Number s)) (Err e) → ⊥
began_failed s e is = cc

-- of a Commit that was lost no reply was taken
lost_in_doubt : (s : ℕ) (h : List Event) → AreLostOrTaken h → WasWritten s h → HasLostCommit s h → IsInDoubt s h
lost_in_doubt s h apart written l = record {
  written = written;
  left = l;
  untaken = λ o took. apart.apart l.ticket (Commit l.commit) (Commit l.commit) o l.lost took;
}

-- tickets that are not told apart are one
told_apart : (a b : Ticket) → (a ≡ b) ⊎ (a ≢ b)
told_apart a b = by (same_ticket a b) refl
  where
    by : (alike : Bool) → same_ticket a b ≡ alike → (a ≡ b) ⊎ (a ≢ b)
    by true e = inl (ticket_is a b e)
    by false e = inr (λ same. absurd (let no = sym (alike a b same) ∙ e in cc))

-- the first of which a reply was taken of each other is the first of all
first_of_all : (s : ℕ) (h : List Event) (e : Error) → AreLostOrTaken h → NamesFirst s h e → NamesLost s h e
first_of_all s h e apart n = record {
  ticket = n.ticket;
  error = n.error;
  first = record {
    commit = f.commit;
    newer = f.newer;
    older = f.older;
    splits = f.splits;
    same = f.same;
    primary = f.primary;
    first = λ written l. elim (told_apart l.ticket n.ticket) [
      | inl same ↦ same
      | inr other ↦ (let taken = f.first written l other in absurd (apart.apart l.ticket (Commit l.commit) (Commit l.commit) taken.0 (older (Lost l.ticket (Commit l.commit)) l.lost) (older (Took l.ticket (Commit l.commit) taken.0) taken.1)))
    ];
  };
}
  where
    f : IsFirstLostUntaken s h n.ticket
    f = n.first

    behind : (newer g : List Event) (x : Event) → Has g x → Has (newer ++ g) x
    behind [] g x i = i
    behind (y ∷ newer) g x i = inr (behind newer g x i)

    older : (x : Event) → Has f.older x → Has h x
    older x i = subst (λ g. Has g x) (sym f.splits) (behind f.newer (Lost n.ticket (Commit f.commit) ∷ f.older) x (inr i))

tells_doubt : (script : List Line) (report : Report) → EventsMeetLines script report → AllSpeak report.sent report.outcomes report.ended script → (n : ℕ) (e : Error) → outcome_of report.outcomes n ≡ Err e → (IsRefusal e → ⊥) → TellsOfDoubt script report n e
tells_doubt script report events speak n e failed unrefused x s began called = by (role_of caller.line) refl caller.calls
  where
    caller : CallsSo script (record { line = n; at = x })
    caller = calls_so script (record { line = n; at = x }) (called_before script (suc (ended_of report.ended n)) (record { line = n; at = x }) called)

    happened : List Event
    happened = history report.sent report.outcomes (lines_before script (suc (ended_of report.ended n)))

    apart : AreLostOrTaken happened
    apart = history_apart_by report.sent report.sleeps report.outcomes report.ended script (suc (ended_of report.ended n)) events

    Tells : Type 0
    Tells = TellsWhether happened s (line_at script n ≡ Some (Rollback x)) e

    whether : (commits : Bool) → (line_at script n ≡ Some (Rollback x) → commits ≡ false) → SaysWhether happened s commits e → Tells
    whether commits rolls says = record { always = λ written lost. says.always (lost_in_doubt s happened apart written lost); only = says.only; names = λ back so. first_of_all s happened e apart (says.names (rolls back) so) }

    other : n ≡ x → ⊥
    other same = began_failed s e (sym began.3 ∙ subst (λ k. outcome_of report.outcomes k ≡ Err e) same failed)

    rolled : (commits : Bool) → role_of caller.line ≡ UsesTransaction commits x → line_at script n ≡ Some (Rollback x) → commits ≡ false
    rolled commits role back =
        let is : ◌≡◌ {A = Option Line} (Some (Rollback x)) (Some caller.line) = sym back ∙ caller.there in
        let same : Rollback x ≡ caller.line = cc in
        let roles : UsesTransaction false x ≡ UsesTransaction commits x = ap (λ l. role_of l) same ∙ role in
        cc

    tells : (commits : Bool) → role_of caller.line ≡ UsesTransaction commits x → Tells
    tells commits role = elim (speak n x s (Err e) (record { commits = commits; line = caller.line; there = caller.there; role = role; began = began.3; is = failed; answers = refl })).doubt [ inl refused ↦ absurd (unrefused refused) | inr says ↦ whether commits (rolled commits role) says ]

    by : (role : Role) → role_of caller.line ≡ role → IsAmong (calls_by n role) (record { line = n; at = x }) → Tells
    by MakesClient is h = absurd h
    by (AsksTime begins client) is (inl same) = absurd (other (ap (λ (c : Call). c.at) same))
    by (AsksTime begins client) is (inr h) = absurd h
    by (UsesTransaction commits y) is (inl same) = tells commits (is ∙ ap (λ (c : Call). UsesTransaction commits c.at) same)
    by (UsesTransaction commits y) is (inr h) = absurd h
    by NoCall is h = absurd h

-- So it is of each line whose account does not refuse it, for no other is refused.

refused_none : (e : Error) → ◌≡◌ {A = Option Error} None (Some e) → ⊥
refused_none e is = cc

module _ (Tells : ℕ → Error → Type 0) (outs : List Outcome) (ended : List ℕ) (tells : (n : ℕ) (e : Error) → outcome_of outs n ≡ Err e → (IsRefusal e → ⊥) → Tells n e) where
  one_told : (accounts : ℕ → Account) (n : ℕ) (ask : Option Ask) → RefusalMeets accounts ask (outcome_of outs n) → CauseMeets Tells accounts n ask (outcome_of outs n)
  one_told accounts n None exact = λ e failed. tells n e failed (λ is. exact e is failed)
  one_told accounts n (Some ask) exact = λ free e failed. tells n e failed (λ is. refused_none e (sym free ∙ exact e is failed))

  all_told : (script : List Line) → AllRefusalsMeet outs ended script → AllCausesMeet Tells outs ended script
  all_told [] exact = tt
  all_told (line ∷ before) exact = (one_told (λ x. account_of (λ n. outcome_of outs n) (λ n. ended_of ended n) before x) (length (line ∷ before)) (ask_of line) exact.0, all_told before exact.1)

pub told_of_doubt : (script : List Line) (report : Report) → EventsMeetLines script report → AllSpeak report.sent report.outcomes report.ended script → AreExact script report → AreToldOfDoubt script report
told_of_doubt script report events speak exact = all_told (λ n e. TellsOfDoubt script report n e) report.outcomes report.ended (tells_doubt script report events speak) script exact
