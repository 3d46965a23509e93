-- What is said of the lines before stays true while a line is run.
use Rattle.std.proofs.Common.{◌≡◌, ◌≢◌, ℕ, zero, suc, ◌+◌, ◌-◌, ◌<◌, ◌≤◌, ◌⊎◌, inl, Bool, true, false, if◌then◌else◌, List, [], ◌∷◌, ◌++◌, Some, length, set, slice_get, nat_eq, refl, sym, ap, ◌∙◌, subst, subst₂, arith}
use Rattle.std.proofs.lemmas.Bool.Decides.{nat_tests}
use Rattle.std.proofs.lemmas.Option.{slice_get-get_or}
use Rattle.txn_kv.specs.declared.ticket.Ticket.{Ticket}
use Rattle.txn_history.specs.Event.{Event}
use Rattle.txn_history.specs.Event.Event.{Sent}
use Rattle.txn_script.specs.Lines.{line_at}
use Rattle.txn_script.specs.declared.line.Line.{Line}
use Rattle.txn_report.specs.declared.outcome.Outcome.{Outcome}
use Rattle.txn_report.specs.declared.outcome.Outcome.TheVariants.{Unfinished}
use Rattle.txn_report.specs.declared.report.SentNote.{SentNote}
use Rattle.txn_first.specs.Script.{outcome_of, is_done, find, with_sends, history, known}
use Rattle.txn_first.specs.Causes.{HasCause, IsDue}
use Rattle.txn_first.specs.Lists.{Lists, AllAskOne, AsksOne}
use Rattle.txn_first.specs.Rowed.{Fits}
use Rattle.txn_first.specs.Licensed.{Licensed}
use Rattle.txn_first.specs.Counted.{IsCounted}
use Rattle.txn_first.specs.Stands.{MailFits, StandsAt}
use Rattle.txn_first.proofs.Histories.{outcome_old, flag_set, find_push, sends_push, history_same}
use Rattle.txn_first.proofs.Knowns.{known_open, known_set, known_now, causes_same, dues_same, Answers, cause_answers}
use Rattle.txn_first.proofs.Lines.{line_within, outcome_other, outcome_same}

-- the lists after say the same of these lines as the lists before
pub record Extends (ls : List Line) (sent sent' : List SentNote) (outs outs' : List Outcome) (ended ended' : List ℕ) : Type 0 where
  pub flags : (j : ℕ) → j ≤ length ls → is_done (outcome_of outs j) ≡ is_done (outcome_of outs' j)
  pub finds : (j : ℕ) → j ≤ length ls → (t : Ticket) → find sent j t ≡ find sent' j t
  pub sends : (j : ℕ) → j ≤ length ls → (es : List Event) → with_sends sent j es ≡ with_sends sent' j es
  pub knowns : (n : ℕ) → n ≤ suc (length ls) → (i : ℕ) → known outs ended n i ≡ known outs' ended' n i
  pub moves : (n : ℕ) (l : Line) (seen : ℕ → Outcome) (before : List Line) (es : List Event) → line_at ls n ≡ Some l → HasCause seen before es l (outcome_of outs n) → HasCause seen before es l (outcome_of outs' n)

pub extends_open : (ls : List Line) (sent : List SentNote) (outs : List Outcome) (ended : List ℕ) (o : Outcome) (e : ℕ) → length outs ≡ length ls → length ended ≡ length outs → (e ≡ 0) ⊎ (e ≡ suc (length outs)) → Extends ls sent sent outs (outs ++ o ∷ []) ended (ended ++ e ∷ [])
extends_open ls sent outs ended o e told counted c = record {
  flags = λ j h. sym (ap is_done (outcome_old outs o j (omega arith)));
  finds = λ j h t. refl;
  sends = λ j h es. refl;
  knowns = λ n h i. sym (known_open outs ended o e n i counted (omega arith) c);
  moves = λ n l seen before es at h. subst (λ z. HasCause seen before es l z) (sym (outcome_old outs o n (let w = line_within ls n l at in let a = w.1 in omega arith))) h;
}

pub extends_send : (ls : List Line) (sent : List SentNote) (outs : List Outcome) (ended : List ℕ) (s : SentNote) → s.at ≡ suc (length ls) → Extends ls sent (sent ++ s ∷ []) outs outs ended ended
extends_send ls sent outs ended s at = record {
  flags = λ j h. refl;
  finds = λ j h t. sym (find_push sent s j t (omega arith));
  sends = λ j h es. sym (
      let apart : nat_eq s.at j ≡ false = grind (arith, nat_tests) in
      sends_push sent s j es ∙ ap (λ (b : Bool). if b then Sent s.ticket s.request ∷ with_sends sent j es else with_sends sent j es) apart
      );
  knowns = λ n h i. refl;
  moves = λ n l seen before es e h. h;
}

-- an outcome that a call answers, in the step of the newest line
pub extends_set : (ls : List Line) (sent : List SentNote) (outs : List Outcome) (ended : List ℕ) (m : ℕ) (k : Line) (o : Outcome) → length ended ≡ length outs → length outs ≡ suc (length ls) → line_at ls m ≡ Some k → outcome_of outs m ≡ Unfinished → is_done o ≡ false → Answers k o
    → Extends ls sent sent outs (set outs (m - 1) o) ended (set ended (m - 1) (length outs))
extends_set ls sent outs ended m k o counted told at open_at over answers = record {
  flags = λ j h. sym (flag_set is_done outs (m - 1) j o (vacant m (line_within ls m k at).0 (line_within ls m k at).1 open_at) over);
  finds = λ j h t. refl;
  sends = λ j h es. refl;
  knowns = λ n h i. sym (known_set outs ended o (length outs) n (m - 1) i counted (vacant m (line_within ls m k at).0 (line_within ls m k at).1 open_at) (omega arith));
  moves = λ n l seen before es e h. move n l seen before es e h (nat_eq n m) refl;
}
  where
    vacant : (m : ℕ) → 1 ≤ m → m ≤ length ls → outcome_of outs m ≡ Unfinished → slice_get outs (m - 1) ≡ Some Unfinished
    vacant zero one last e = absurd (omega arith)
    vacant (suc i) one last e =
        let s : suc i - 1 ≡ i = omega arith in
        let inside : i < length outs = omega arith in
        subst (λ j. slice_get outs j ≡ Some Unfinished) (sym s) (slice_get-get_or outs i Unfinished inside ∙ ap (λ z. Some z) e)

    move : (n : ℕ) (l : Line) (seen : ℕ → Outcome) (before : List Line) (es : List Event) → line_at ls n ≡ Some l → HasCause seen before es l (outcome_of outs n) → (b : Bool) → nat_eq n m ≡ b → HasCause seen before es l (outcome_of (set outs (m - 1) o) n)
    move n l seen before es e h true q =
        let s : n ≡ m = grind (arith, nat_tests) in
        let w = line_within ls m k at in
        let a = w.1 in
        let same : k ≡ l = (let z = subst (λ i. line_at ls i ≡ Some l) s e in cc) in
        let now : outcome_of (set outs (m - 1) o) n ≡ o = ap (λ i. outcome_of (set outs (m - 1) o) i) s ∙ outcome_same outs m o w.0 (omega arith) in
        let was : outcome_of outs n ≡ Unfinished = ap (λ i. outcome_of outs i) s ∙ open_at in
        subst (λ z. HasCause seen before es l z) (sym now) (cause_answers seen before es l o (subst (λ z. Answers z o) same answers) (subst (λ z. HasCause seen before es l z) was h))
    move n l seen before es e h false q =
        let apart : n ≢ m = grind (arith, nat_tests) in
        let w = line_within ls m k at in
        subst (λ z. HasCause seen before es l z) (sym (outcome_other outs m n o w.0 apart)) h

pub extends_then : (ls : List Line) (a b c : List SentNote) (p q r : List Outcome) (x y z : List ℕ) → Extends ls a b p q x y → Extends ls b c q r y z → Extends ls a c p r x z
extends_then ls a b c p q r x y z e f = record {
  flags = λ j h. e.flags j h ∙ f.flags j h;
  finds = λ j h t. e.finds j h t ∙ f.finds j h t;
  sends = λ j h es. e.sends j h es ∙ f.sends j h es;
  knowns = λ n h i. e.knowns n h i ∙ f.knowns n h i;
  moves = λ n l seen before es at h. f.moves n l seen before es at (e.moves n l seen before es at h);
}

-- The line is over.
pub close : (es es' : List Event) (l l' : Lists) (line : Line) (ls : List Line) → StandsAt es l ls → Extends ls l.sent l'.sent l.outcomes l'.outcomes l.ended l'.ended
    → HasCause (outcome_of l.outcomes) ls es line (outcome_of l'.outcomes (suc (length ls)))
    → MailFits es' (line ∷ ls) l'.store l'.sent l'.letters l'.tickets l'.outcomes l'.served → Fits es' (line ∷ ls) l'.store l'.rows l'.outcomes l'.ended → AllAskOne l'.sent → Licensed es' l'.rows l'.outcomes → IsCounted l'.sent l'.rows → StandsAt es' l' (line ∷ ls)
close es es' l l' line ls s x cause mail fits asks licensed counted = record {
  counted = counted;
  asks = asks;
  licensed = licensed;
  mail = mail;
  fits = fits;
  causes = (
    subst₂ (λ seen h. HasCause seen ls h line (outcome_of l'.outcomes (suc (length ls)))) seen_is (sym s.mail.is ∙ before) cause,
    causes_same l.sent l'.sent l.outcomes l'.outcomes l.ended l'.ended ls x.flags x.finds x.sends (λ n h i. x.knowns n (omega arith) i) x.moves s.causes,
  );
  dues = (
    subst₂ (λ seen h. IsDue seen (line ∷ ls) h) now_is (sym mail.is) (λ n first last e. inl (fits.awaited.owed n first last e)),
    dues_same l.sent l'.sent l.outcomes l'.outcomes l.ended l'.ended ls x.flags x.finds x.sends x.knowns s.dues,
  );
}
  where
    before : history l.sent l.outcomes ls ≡ history l'.sent l'.outcomes ls
    before = history_same l.sent l'.sent l.outcomes l'.outcomes ls x.flags x.finds x.sends

    seen_is : outcome_of l.outcomes ≡ known l'.outcomes l'.ended (suc (length ls))
    seen_is = λ i n. (sym (known_now l.outcomes l.ended (suc (length ls)) n s.fits.times (let a = s.fits.told in omega arith)) ∙ x.knowns (suc (length ls)) (omega arith) n) i

    now_is : outcome_of l'.outcomes ≡ known l'.outcomes l'.ended (suc (length ls) + 1)
    now_is = λ i n. sym (known_now l'.outcomes l'.ended (suc (length ls) + 1) n fits.times (let a = fits.told in omega arith)) i

pub asks_push : (ns : List SentNote) (s : SentNote) → AllAskOne ns → AsksOne s.request → AllAskOne (ns ++ s ∷ [])
asks_push [] s a h = (h, tt)
asks_push (n ∷ ns) s a h = (a.0, asks_push ns s a.1 h)
