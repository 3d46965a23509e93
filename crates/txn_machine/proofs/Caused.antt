-- Each line keeps what is said of the causes of outcomes.
use Rattle.std.proofs.Common.{◌≡◌, ◌≢◌, ℕ, suc, ◌-◌, ◌≤◌, ◌⊎◌, inl, inr, Bool, true, false, not, ◌&&◌, ◌||◌, if◌then◌else◌, List, [], ◌∷◌, ◌++◌, Option, Some, None, length, set, nat_eq, nat_lt, slice_index_or, refl, sym, ap, ◌∙◌, subst, arith, length-append, length-set}
use Rattle.std.proofs.lemmas.Bool.Decides.{nat_tests}
use Rattle.txn_lines.specs.Lines.{line_at, why_after}
use Rattle.txn_lines.specs.Deeds.{deed_of}
use Rattle.txn_lines.specs.declared.deed.Deed.{Deed}
use Rattle.txn_lines.specs.declared.deed.Deed.TheVariants as deeds
use Rattle.txn_lines.specs.declared.happening.Happening.TheVariants as happenings
use Rattle.txn_lines.specs.declared.line.Line.{Line}
use Rattle.txn_lines.specs.declared.line.Line.TheVariants as lines
use Rattle.txn_report.specs.declared.outcome.Outcome.{Outcome}
use Rattle.txn_report.specs.declared.outcome.Outcome.TheVariants.{Done, Err, Ok, Skipped, Unfinished}
use Rattle.txn_report.specs.declared.outcome.Payload.TheVariants.{Unit as Nothing}
use Rattle.txn_side.specs.Sight.{EndsAlone, Sight, Stand, client_at, connected, crash, free, is_free, is_live, line_count, lives, outcomes_of, stand_at, with_stand, without}
use Rattle.txn_side.specs.Sight.Stand.{Asking, Calling, HasBegun, Idle, IsClient}
use Rattle.txn_machine.specs.Causes.{AllCallsMeet, CallMeets, Role, can_end, comes_at_once, crashes, ended_of, ends_at, is_crashed, is_idle, is_skipped, is_unfinished, known, known_of, may_wait, role_for, role_of}
use Rattle.txn_machine.specs.Causes.Role.{AsksTime, MakesClient, NoCall, UsesTransaction}
use Rattle.txn_machine.specs.Lists.{Lists, all_posted, at_line, followed, newest, opened, with_mail}
use Rattle.txn_machine.specs.Rows.{AreRows, AreWoven, Row, outcome_in, role_in, stand_in}
use Rattle.txn_machine.specs.Rows.Row.{AskSkipped, AskWaits, CallSkipped, CallWaits, Happened, Made}
use Rattle.txn_machine.specs.Running.{IsEven, with_own}
use Rattle.txn_machine.specs.Script.{is_done, outcome_of}
use Rattle.txn_machine.specs.Steps.{done_if}
use Rattle.txn_machine.proofs.Beginnings.{Opens, begun_rows, crashed_before, woven_act, woven_ask, woven_calm, woven_client, woven_idle, nothing_new}
use Rattle.txn_machine.proofs.Calms.{or_other, or_past, or_same, outcome_opened, outcome_other, outcome_past, outcome_same, same_line, stand_opened, stand_other, stands_opened}
use Rattle.txn_machine.proofs.Courses.{Begins, Course, Falls, IsAsked, IsCalled, IsEvent, IsIdle, IsMade}
use Rattle.txn_machine.proofs.Folds.{ended_sight}
use Rattle.txn_machine.proofs.Goings.{Change, Written, gone_change, gone_rows, skipped_stays, written}
use Rattle.txn_machine.proofs.Idles.{IsBegin, Names, client_there, crash_names, free_is, live_is, names}
use Rattle.txn_machine.proofs.Numberings.{has_line, ended_opened, ended_other, ended_same, line_new, line_range, stand_set}
use Rattle.txn_machine.proofs.Orders.{line_length, opened_count}

pub done_is : (d : Bool) → is_done (done_if d) ≡ d
done_is true = refl
done_is false = refl

pub over_is : (d : Bool) → is_unfinished (done_if d) ≡ false
over_is true = refl
over_is false = refl

-- What was known.

pub unfinished_is : (o : Outcome) → is_unfinished o ≡ true → o ≡ Unfinished
unfinished_is (Ok p) h = absurd (cc)
unfinished_is (Err e) h = absurd (cc)
unfinished_is Unfinished h = refl
unfinished_is Done h = absurd (cc)
unfinished_is Skipped h = absurd (cc)

known_none : (e k : ℕ) (o : Outcome) → (e ≡ 0) ⊎ (k ≤ e) → known_of e k o ≡ Unfinished
known_none e k o h = by (nat_lt 0 e) (nat_lt e k) refl refl
  where
    by : (a b : Bool) → nat_lt 0 e ≡ a → nat_lt e k ≡ b → (if a && b then o else Unfinished) ≡ Unfinished
    by true true x y = absurd (elim h [ inl z ↦ (let w : nat_lt 0 e ≡ false = grind (arith, nat_tests) in cc) | inr z ↦ (let w : nat_lt e k ≡ false = grind (arith, nat_tests) in cc) ])
    by true false x y = refl
    by false b x y = refl

pub known_past : (e n : ℕ) (o : Outcome) → e ≤ n → is_unfinished o ≡ nat_eq e 0 → known_of e (suc n) o ≡ o
known_past e n o most h = by (nat_eq e 0) refl
  where
    by : (b : Bool) → nat_eq e 0 ≡ b → known_of e (suc n) o ≡ o
    by true q = known_none e (suc n) o (inl (grind (arith, nat_tests))) ∙ sym (unfinished_is o (h ∙ q))
    by false q =
        let a : nat_lt 0 e ≡ true = grind (arith, nat_tests) in
        let b : nat_lt e (suc n) ≡ true = grind (arith, nat_tests) in
        λ i. if a i && b i then o else Unfinished

-- The lists as the line itself leaves them.

crash_calm : (deed : Deed) (c : ℕ) → role_for deed ≢ NoCall → crashes deed c ≡ false
crash_calm (deeds.Happens (happenings.Crash k)) c h = absurd (h refl)
crash_calm deed c h = refl

calm_falls : (deed : Deed) (done : Bool) (s from : Sight) → ((k : ℕ) → deed ≢ deeds.Happens (happenings.Crash k)) → Falls deed done s from → from ≡ s
calm_falls (deeds.Happens (happenings.Crash k)) done s from h f = absurd (h k refl)
calm_falls deed done s from h f = f

no_crash : (deed : Deed) (c : ℕ) → ((k : ℕ) → deed ≢ deeds.Happens (happenings.Crash k)) → crashes deed c ≡ false
no_crash (deeds.Happens (happenings.Crash k)) c h = absurd (h k refl)
no_crash deed c h = refl

which_crash : (deed : Deed) → ((k : ℕ) × (deed ≡ deeds.Happens (happenings.Crash k))) ⊎ ((k : ℕ) → deed ≢ deeds.Happens (happenings.Crash k))
which_crash (deeds.Happens (happenings.Crash k)) = inl (k, refl)
which_crash deed = inr (λ k e. cc)

crash_falls : (deed : Deed) (k : ℕ) (done : Bool) (s from : Sight) → deed ≡ deeds.Happens (happenings.Crash k) → Falls deed done s from → (done ≡ is_live s k) × (from ≡ crash k s)
crash_falls deed k done s from e f = subst (λ l. Falls l done s from) e f

module _ (line : Line) (ls : List Line) (old : Lists) (told : newest old ≡ length ls) (even : IsEven old) (good : why_after ls line ≡ None)
    (was : AreRows ls (λ n. outcome_of old.outcomes n) (λ n. ended_of old.ended n) (λ n. stand_at old.sight.stands n) old.sight.crashed)
    (new : Lists) (c : Course (deed_of line) old new) where
  abbrev o : ℕ → Outcome
  o n = outcome_of old.outcomes n

  abbrev e : ℕ → ℕ
  e n = ended_of old.ended n

  abbrev st : ℕ → Stand
  st n = stand_at old.sight.stands n

  abbrev o2 : ℕ → Outcome
  o2 n = outcome_of c.mid.outcomes n

  abbrev e2 : ℕ → ℕ
  e2 n = ended_of c.mid.ended n

  abbrev s : Sight
  s = (opened old).sight

  count : newest (opened old) ≡ suc (length ls)
  count = let a = opened_count old in let b = told in omega arith

  own_count : (own : Option Outcome) → length (with_own own (opened old)).outcomes ≡ suc (length ls)
  own_count None = count
  own_count (Some x) = line_length (opened old).outcomes (newest (opened old)) x ∙ count

  pub mid_count : newest c.mid ≡ suc (length ls)
  mid_count = ap (λ os. length os) c.outcomes ∙ own_count c.own

  ended_count : length (opened old).ended ≡ suc (length ls)
  ended_count = length-append old.ended (0 ∷ []) ∙ (let a = even.ended in let b = told in omega arith)

  own_ended_count : (own : Option Outcome) → length (with_own own (opened old)).ended ≡ suc (length ls)
  own_ended_count None = ended_count
  own_ended_count (Some x) = line_length (opened old).ended (newest (opened old)) (newest (opened old)) ∙ ended_count

  mid_even : length c.mid.ended ≡ newest c.mid
  mid_even = ap (λ es. length es) c.ends ∙ own_ended_count c.own ∙ sym mid_count

  own_apart : (own : Option Outcome) (j : ℕ) → j ≢ suc (length ls) → (outcome_of (with_own own (opened old)).outcomes j ≡ o j) × (ended_of (with_own own (opened old)).ended j ≡ e j)
  own_apart None j far = (outcome_opened old.outcomes j, ended_opened old.ended j)
  own_apart (Some x) j far =
      let off : j ≢ newest (opened old) = λ h. far (h ∙ count) in (
        outcome_other (opened old).outcomes (newest (opened old)) j x off ∙ outcome_opened old.outcomes j,
        ended_other (opened old).ended (newest (opened old)) j (newest (opened old)) off ∙ ended_opened old.ended j,
      )

  pub apart : (j : ℕ) → j ≢ suc (length ls) → (o2 j ≡ o j) × (e2 j ≡ e j)
  apart j far = let a = own_apart c.own j far in (ap (λ os. outcome_of os j) c.outcomes ∙ a.0, ap (λ es. ended_of es j) c.ends ∙ a.1)

  own_none : (own : Option Outcome) → own ≡ None → (outcome_of (with_own own (opened old)).outcomes (suc (length ls)) ≡ Unfinished) × (ended_of (with_own own (opened old)).ended (suc (length ls)) ≡ 0)
  own_none None h = (outcome_opened old.outcomes (suc (length ls)) ∙ outcome_past old.outcomes (length ls) told, ended_opened old.ended (suc (length ls)) ∙ or_past old.ended 0 (length ls) (let a = even.ended in let b = told in omega arith))
  own_none (Some x) h = absurd (cc)

  own_some : (own : Option Outcome) (x : Outcome) → own ≡ Some x → (outcome_of (with_own own (opened old)).outcomes (suc (length ls)) ≡ x) × (ended_of (with_own own (opened old)).ended (suc (length ls)) ≡ suc (length ls))
  own_some None x h = absurd (cc)
  own_some (Some y) x h =
      let same : y ≡ x = cc in (
        subst (λ k. outcome_of (at_line (opened old).outcomes (newest (opened old)) y) k ≡ y) count (outcome_same (opened old).outcomes (newest (opened old)) y (let a = count in omega arith) (omega arith)) ∙ same,
        subst (λ k. ended_of (at_line (opened old).ended (newest (opened old)) (newest (opened old))) k ≡ newest (opened old)) count (ended_same (opened old).ended (newest (opened old)) (newest (opened old)) (let a = count in omega arith) (let a = count in let b = ended_count in omega arith)) ∙ count,
      )

  pub none_here : c.own ≡ None → (o2 (suc (length ls)) ≡ Unfinished) × (e2 (suc (length ls)) ≡ 0)
  none_here h = let a = own_none c.own h in (ap (λ os. outcome_of os (suc (length ls))) c.outcomes ∙ a.0, ap (λ es. ended_of es (suc (length ls))) c.ends ∙ a.1)

  pub some_here : (x : Outcome) → c.own ≡ Some x → (o2 (suc (length ls)) ≡ x) × (e2 (suc (length ls)) ≡ suc (length ls))
  some_here x h = let a = own_some c.own x h in (ap (λ os. outcome_of os (suc (length ls))) c.outcomes ∙ a.0, ap (λ es. ended_of es (suc (length ls))) c.ends ∙ a.1)

  opens_none : (r : Row) (stand : Stand) → c.own ≡ None → role_in r ≡ role_of line → may_wait (role_of line) ≡ true → outcome_in r ≡ Unfinished → stand_in r ≡ stand → Opens (role_of line) (o2 (suc (length ls))) (e2 (suc (length ls))) (suc (length ls)) stand
  opens_none r stand own role wait outcome at = let h = none_here own in record {
    row = record { row = r; is = role; outcome = outcome ∙ sym h.0; at = at };
    unfinished = ap is_unfinished h.0 ∙ sym (let a = h.1 in grind (arith, nat_tests));
    place = inl h.1;
    own = λ once. absurd (let a : comes_at_once (role_of line) (o2 (suc (length ls))) ≡ false = λ i. not (wait i) || is_skipped (h.0 i) in cc);
  }

  opens_some : (r : Row) (x : Outcome) (stand : Stand) → c.own ≡ Some x → role_in r ≡ role_of line → is_unfinished x ≡ false → outcome_in r ≡ x → stand_in r ≡ stand → Opens (role_of line) (o2 (suc (length ls))) (e2 (suc (length ls))) (suc (length ls)) stand
  opens_some r x stand own role wait outcome at = let h = some_here x own in record {
    row = record { row = r; is = role; outcome = outcome ∙ sym h.0; at = at };
    unfinished = ap is_unfinished h.0 ∙ wait ∙ sym (let a = h.1 in grind (arith, nat_tests));
    place = inr h.1;
    own = λ once. h.1;
  }

  stands_same : (λ (n : ℕ). stand_at s.stands n) ≡ st
  stands_same = λ i n. stand_opened old.sight.stands n i

  pub lined : line_count s ≡ suc (length ls)
  lined = stands_opened old.sight.stands (length ls) (even.stands ∙ told)

  abbrev Rows2 : Sight → Type 0
  Rows2 from = AreRows (line ∷ ls) o2 e2 (λ n. stand_at from.stands n) from.crashed

  set_here : (x : Stand) → stand_at (set s.stands (line_count s - 1) x) (suc (length ls)) ≡ x
  set_here x = subst (λ k. stand_at (set s.stands (line_count s - 1) x) k ≡ x) lined (stand_set s.stands (line_count s) x (let a = lined in omega arith) (omega arith))

  pub set_other : (x : Stand) (j : ℕ) → j ≢ suc (length ls) → stand_at (set s.stands (line_count s - 1) x) j ≡ st j
  set_other x j far = stand_other s.stands (line_count s) j x (let a = lined in omega arith) (λ h. far (h ∙ lined)) ∙ stand_opened old.sight.stands j

  calm : role_of line ≢ NoCall → (k : ℕ) → crashes (deed_of line) k ≡ false
  calm role k = crash_calm (deed_of line) k role

  -- nothing stands at the line, and these have crashed
  idle_rows : (r : Row) (x : Outcome) (crashed : List Bool) → c.own ≡ Some x → is_unfinished x ≡ false → role_in r ≡ role_of line → outcome_in r ≡ x → stand_in r ≡ Idle → AreWoven (line ∷ ls) o2 st crashed → AreRows (line ∷ ls) o2 e2 (λ n. stand_at s.stands n) crashed
  idle_rows r x crashed own wait role outcome at woven = subst (λ (f : ℕ → Stand). AreRows (line ∷ ls) o2 e2 f crashed) (sym stands_same)
      (begun_rows line ls o o2 e e2 st old.sight.crashed was apart st crashed (λ j far. inl refl)
      (opens_some r x (st (suc (length ls))) own role wait outcome (at ∙ sym (nothing_new line ls o o2 e e2 st old.sight.crashed was apart).at)) woven)

  calm_woven : ((k : ℕ) → crashes (deed_of line) k ≡ false) → AreWoven (line ∷ ls) o2 st old.sight.crashed
  calm_woven h = woven_calm line ls o o2 e e2 st old.sight.crashed was apart h

  skipped_rows : (r : Row) → role_in r ≡ role_of line → outcome_in r ≡ Skipped → stand_in r ≡ Idle → role_of line ≢ NoCall → (can : Bool) → IsIdle can c.own c.ended s c.from → Rows2 c.from
  skipped_rows r role outcome at call can h = subst Rows2 (sym h.same) (idle_rows r Skipped old.sight.crashed h.is refl role outcome at (calm_woven (calm call)))

  made_rows : role_of line ≡ MakesClient → IsMade c.own c.ended s c.from → Rows2 c.from
  made_rows role h = subst Rows2 (sym h.begun)
      (begun_rows line ls o o2 e e2 st old.sight.crashed was apart at (old.sight.crashed ++ false ∷ []) (λ j far. inl (set_other (IsClient (length old.sight.crashed)) j far))
      (opens_some (Made (length old.sight.crashed)) (Ok Nothing) (at (suc (length ls))) h.is (sym role) refl refl (sym here))
      (woven_client line ls o o2 e e2 st old.sight.crashed was apart (calm (λ z. let q = sym role ∙ z in cc)) at (λ j far. set_other (IsClient (length old.sight.crashed)) j far) role here))
    where
      at : ℕ → Stand
      at n = stand_at (connected s).stands n

      here : at (suc (length ls)) ≡ IsClient (length old.sight.crashed)
      here = set_here (IsClient (length old.sight.crashed))

  client_same : (k d : ℕ) → line_at ls k ≡ Some lines.Client → client_at (stand_at s.stands k) ≡ Some d → st k ≡ IsClient d
  client_same k d named there =
      let z = client_there ls o e st old.sight.crashed was k named in
      let both : ◌≡◌ {A = Option ℕ} (Some z.client) (Some d) = sym (ap client_at z.is) ∙ ap client_at (sym (stand_opened old.sight.stands k)) ∙ there in
      let same : z.client ≡ d = cc in
      z.is ∙ ap (λ n. IsClient n) same

  asked_rows : (b : Bool) (k : ℕ) → role_of line ≡ AsksTime b k → line_at ls k ≡ Some lines.Client → IsAsked k b c.own c.ended s c.from → Rows2 c.from
  asked_rows b k role named h = subst Rows2 (sym h.begun)
      (begun_rows line ls o o2 e e2 st old.sight.crashed was apart at old.sight.crashed (λ j far. inl (set_other (Asking h.client b) j far))
      (opens_none (AskWaits b k h.client) (at (suc (length ls))) h.is (sym role) (ap may_wait role) refl (sym (set_here (Asking h.client b))))
      (woven_ask line ls o o2 e e2 st old.sight.crashed was apart (calm (λ z. let q = sym role ∙ z in cc)) at (λ j far. set_other (Asking h.client b) j far) k h.client b role (client_same k h.client named h.there) (set_here (Asking h.client b))))
    where
      at : ℕ → Stand
      at n = stand_at (with_stand (line_count s) (Asking h.client b) s).stands n

  called_rows : (b : Bool) (x : ℕ) → role_of line ≡ UsesTransaction b x → 1 ≤ x → x ≤ length ls → IsCalled x b c.own c.ended s c.from → Rows2 c.from
  called_rows b x role low high h = subst Rows2 (sym h.begun)
      (begun_rows line ls o o2 e e2 st old.sight.crashed was apart at old.sight.crashed moved
      (opens_none (CallWaits b x h.client) (at (suc (length ls))) h.is (sym role) (ap may_wait role) refl (sym here))
      (woven_act line ls o o2 e e2 st old.sight.crashed was apart (calm (λ z. let q = sym role ∙ z in cc)) at h.client x b role free_there at_x here other))
    where
      begun : Stand
      begun = HasBegun h.client (line_count s)

      at : ℕ → Stand
      at n = stand_at (set (set s.stands (x - 1) begun) (line_count s - 1) (Calling h.client x b)) n

      free_there : st x ≡ HasBegun h.client 0
      free_there = sym (stand_opened old.sight.stands x) ∙ h.free

      some : 1 ≤ line_count s
      some = let a = lined in omega arith

      here : at (suc (length ls)) ≡ Calling h.client x b
      here = subst (λ k. at k ≡ Calling h.client x b) lined (stand_set (set s.stands (x - 1) begun) (line_count s) (Calling h.client x b) some (let a = length-set s.stands (x - 1) begun in omega arith))

      at_x : at x ≡ HasBegun h.client (suc (length ls))
      at_x = stand_other (set s.stands (x - 1) begun) (line_count s) x (Calling h.client x b) some (λ z. absurd (let a = lined in omega arith)) ∙ stand_set s.stands x begun low (let a = lined in omega arith) ∙ ap (λ k. HasBegun h.client k) lined

      other : (j : ℕ) → j ≢ suc (length ls) → j ≢ x → at j ≡ st j
      other j far off = stand_other (set s.stands (x - 1) begun) (line_count s) j (Calling h.client x b) some (λ z. far (z ∙ lined)) ∙ stand_other s.stands x j begun low off ∙ stand_opened old.sight.stands j

      moved : (j : ℕ) → j ≢ suc (length ls) → (at j ≡ st j) ⊎ ((d : ℕ) × (st j ≡ HasBegun d 0) × (at j ≡ HasBegun d (suc (length ls))))
      moved j far = elim (same_line x j) [
        | inl z ↦ inr (h.client, ap st z ∙ free_there, ap at z ∙ at_x)
        | inr off ↦ inl (other j far off)
      ]

  fallen : (k d : ℕ) → deed_of line ≡ deeds.Happens (happenings.Crash k) → line_at ls k ≡ Some lines.Client → st k ≡ IsClient d → (done : Bool) → c.own ≡ Some (done_if done) → done ≡ is_live s k → AreWoven (line ∷ ls) o2 st (set old.sight.crashed d true)
  fallen k d is named there done own live = woven_idle line ls o o2 e e2 st old.sight.crashed was apart (set old.sight.crashed d true) (length-set old.sight.crashed d true) (λ n a h. flags n a h (same_line k n)) (λ n h. off n (λ z. absurd (let q = (line_range ls k lines.Client named).1 in omega arith)))
    where
      off : (n : ℕ) → n ≢ k → crashes (deed_of line) n ≡ false
      off n far = ap (λ l. crashes l n) is ∙ (let q : nat_eq k n ≡ false = grind (arith, nat_tests) in q)

      happened : is_done (o2 (suc (length ls))) ≡ not (is_crashed o ls k)
      happened = ap is_done (some_here (done_if done) own).0 ∙ done_is done ∙ live ∙ ap (λ z. lives old.sight.crashed (client_at z)) (stand_opened old.sight.stands k) ∙ live_is ls o e st old.sight.crashed was k named

      either : (z : Bool) → true && not z || z ≡ true
      either true = refl
      either false = refl

      before : (n : ℕ) → is_crashed o2 ls n ≡ is_crashed o ls n
      before n = crashed_before line ls o o2 e e2 st old.sight.crashed was apart n

      client_is : (a b : ℕ) → ◌≡◌ {A = Stand} (IsClient a) (IsClient b) → a ≡ b
      client_is a b h = cc

      flags : (n a : ℕ) → st n ≡ IsClient a → (n ≡ k) ⊎ (n ≢ k) → slice_index_or (set old.sight.crashed d true) a true ≡ is_crashed o2 (line ∷ ls) n
      flags n a h (inl z) =
          let same : a ≡ d = client_is a d (sym h ∙ ap st z ∙ there) in
          let at : crashes (deed_of line) n ≡ true = (λ i. crashes (is i) (z i)) ∙ (let q : nat_eq k k ≡ true = grind (arith, nat_tests) in q) in
          let left : slice_index_or (set old.sight.crashed d true) a true ≡ true = ap (λ q. slice_index_or (set old.sight.crashed d true) q true) same ∙ or_same old.sight.crashed d true true (was.woven.below k d there) in
          let right : is_crashed o2 (line ∷ ls) n ≡ true = (λ i. at i && happened i || before n i) ∙ ap (λ q. true && not (is_crashed o ls k) || is_crashed o ls q) z ∙ either (is_crashed o ls k) in
          left ∙ sym right
      flags n a h (inr far) =
          let right : is_crashed o2 (line ∷ ls) n ≡ is_crashed o ls n = λ i. off n far i && is_done (o2 (suc (length ls))) || before n i in
          or_other old.sight.crashed d a true true (λ z. far (was.woven.one n k d (h ∙ ap (λ q. IsClient q) z) there)) ∙ was.woven.flags n a h ∙ sym right

  event_rows : role_of line ≡ NoCall → IsEvent (deed_of line) c.own c.ended s c.from → Rows2 c.from
  event_rows role h = elim (which_crash (deed_of line)) [
    | inl k ↦
        let f = crash_falls (deed_of line) k.0 h.done s c.from k.1 h.falls in
        let named = crash_names ls line k.0 good k.1 in
        let there = client_there ls o e st old.sight.crashed was k.0 named in
        let gone : without (client_at (stand_at s.stands k.0)) old.sight.crashed ≡ set old.sight.crashed there.client true = ap (λ z. without (client_at z) old.sight.crashed) (stand_opened old.sight.stands k.0 ∙ there.is) in
        subst Rows2 (sym f.1) (subst (λ z. AreRows (line ∷ ls) o2 e2 (λ n. stand_at s.stands n) z) (sym gone) (rows (set old.sight.crashed there.client true) (fallen k.0 there.client k.1 named there.is h.done h.is f.0)))
    | inr other ↦ subst Rows2 (sym (calm_falls (deed_of line) h.done s c.from other h.falls)) (rows old.sight.crashed (calm_woven (λ k. no_crash (deed_of line) k other)))
  ]
    where
      rows : (crashed : List Bool) → AreWoven (line ∷ ls) o2 st crashed → AreRows (line ∷ ls) o2 e2 (λ n. stand_at s.stands n) crashed
      rows crashed woven = idle_rows (Happened h.done) (done_if h.done) crashed h.is (over_is h.done) (sym role) refl refl woven

  pub mid_rows : Rows2 c.from
  mid_rows = by (role_of line) refl (names ls line good) c.begins
    where
      by : (r : Role) → role_of line ≡ r → Names ls r → Begins r (deed_of line) c.own c.ended s c.from → Rows2 c.from
      by MakesClient role named h = made_rows role h
      by (AsksTime b k) role named h = elim h [
        | inl i ↦ skipped_rows (AskSkipped b k) (sym role) refl refl (λ z. let q = sym role ∙ z in cc) (is_live s k) i
        | inr a ↦ asked_rows b k role named a
      ]
      by (UsesTransaction b x) role named h = elim h [
        | inl i ↦ skipped_rows (CallSkipped b x) (sym role) refl refl (λ z. let q = sym role ∙ z in cc) (is_free s x) i
        | inr a ↦ let range = line_range ls x named.line named.is in called_rows b x role range.0 range.1 a
      ]
      by NoCall role named h = event_rows role h

  -- The lists as the clients leave them.

  abbrev all : Lists
  all = followed c.posted c.ended c.mid

  abbrev o3 : ℕ → Outcome
  o3 n = outcome_of all.outcomes n

  abbrev e3 : ℕ → ℕ
  e3 n = ended_of all.ended n

  pub writes : (n : ℕ) → Written n (suc (length ls)) (outcomes_of n c.ended) (o2 n) (e2 n) (o3 n) (e3 n)
  writes n = subst (λ k. Written n k (outcomes_of n c.ended) (o2 n) (e2 n) (o3 n) (e3 n)) mid_count (written c.ended (with_mail (all_posted (newest c.mid) c.posted c.mid.mail) c.mid) n mid_even)

  ends_new : (z : Outcome) → o2 (suc (length ls)) ≡ z → ends_at (line ∷ ls) o2 (suc (length ls)) ≡ can_end line z
  ends_new z h =
      let q : nat_eq (suc (length ls)) (suc (length ls)) ≡ true = grind (arith, nat_tests) in
      ap (λ (b : Bool). if b then can_end line (o2 (suc (length ls))) else ends_at ls o2 (suc (length ls))) q ∙ ap (λ x. can_end line x) h

  ends_none : c.ended ≡ [] → EndsAlone (suc (length ls)) c.ended
  ends_none none = subst (λ es. EndsAlone (suc (length ls)) es) (sym none) (λ k d h. absurd (omega arith))

  ends_own : EndsAlone (line_count s) c.ended → EndsAlone (suc (length ls)) c.ended
  ends_own alone = subst (λ k. EndsAlone k c.ended) lined alone

  ending : EndsAlone (suc (length ls)) c.ended ⊎ (ends_at (line ∷ ls) o2 (suc (length ls)) ≡ true)
  ending = by (role_of line) refl c.begins
    where
      by : (r : Role) → role_of line ≡ r → Begins r (deed_of line) c.own c.ended s c.from → EndsAlone (suc (length ls)) c.ended ⊎ (ends_at (line ∷ ls) o2 (suc (length ls)) ≡ true)
      by MakesClient role h = inl (ends_none h.none)
      by (AsksTime b k) role h = elim h [ inl i ↦ inl (ends_none i.none) | inr a ↦ inl (ends_own a.alone) ]
      by (UsesTransaction b x) role h = elim h [ inl i ↦ inl (ends_none i.none) | inr a ↦ inl (ends_own a.alone) ]
      by NoCall role h = elim h.ends [
        | inl none ↦ inl (ends_none none)
        | inr t ↦ inr (ends_new (done_if h.done) (some_here (done_if h.done) h.is).0 ∙ (λ i. t.1 i && is_done (done_if (t.0 i))))
      ]

  all_rows : AreRows (line ∷ ls) o3 e3 (λ n. stand_at c.mid.sight.stands n) c.from.crashed
  all_rows = gone_rows (line ∷ ls) c.ended o2 o3 e2 e3 (λ n. stand_at c.from.stands n) (λ n. stand_at c.mid.sight.stands n) c.from.crashed mid_rows c.goes.lines writes ending

  pub changes : (n : ℕ) → Change (suc (length ls)) (o2 n) (e2 n) (o3 n) (e3 n)
  changes n = gone_change (line ∷ ls) c.ended o2 o3 e2 e3 (λ n. stand_at c.from.stands n) (λ n. stand_at c.mid.sight.stands n) c.from.crashed mid_rows c.goes.lines writes ending n

  pub end_rows : AreRows (line ∷ ls) o3 e3 (λ n. stand_at all.sight.stands n) all.sight.crashed
  end_rows = subst (λ (z : Sight). AreRows (line ∷ ls) o3 e3 (λ n. stand_at z.stands n) z.crashed) (sym (ended_sight c.ended (with_mail (all_posted (newest c.mid) c.posted c.mid.mail) c.mid)))
      (subst (λ z. AreRows (line ∷ ls) o3 e3 (λ n. stand_at c.mid.sight.stands n) z) (sym c.goes.crashed) all_rows)

  -- What was known before a line stays.

  ended_low : (j : ℕ) → e j ≤ length ls
  ended_low j = elim (has_line ls j) [ inl h ↦ (let a = (was.none j h).ended in omega arith) | inr h ↦ (was.ended j h.0 h.1).within ]

  unfinished_old : (j : ℕ) → is_unfinished (o j) ≡ nat_eq (e j) 0
  unfinished_old j = elim (has_line ls j) [ inl h ↦ ap is_unfinished (was.none j h).outcome ∙ sym (let a = (was.none j h).ended in grind (arith, nat_tests)) | inr h ↦ (was.ended j h.0 h.1).unfinished ]

  own_place : (own : Option Outcome) → c.own ≡ own → (e2 (suc (length ls)) ≡ 0) ⊎ (e2 (suc (length ls)) ≡ suc (length ls))
  own_place None h = inl (none_here h).1
  own_place (Some x) h = inr (some_here x h).1

  pub new_place : (e3 (suc (length ls)) ≡ 0) ⊎ (e3 (suc (length ls)) ≡ suc (length ls))
  new_place = elim (changes (suc (length ls))) [
    | inl h ↦ elim (own_place c.own refl) [ inl a ↦ inl (h.1 ∙ a) | inr a ↦ inr (h.1 ∙ a) ]
    | inr h ↦ inr h.1
  ]

  -- the outcome of the newest line, if it is there, came in its own step
  pub new_ended : is_unfinished (o3 (suc (length ls))) ≡ false → e3 (suc (length ls)) ≡ suc (length ls)
  new_ended over = elim new_place [
    | inl none ↦ absurd (let a = sym over ∙ (end_rows.ended (suc (length ls)) line (line_new line ls)).unfinished in let b : nat_eq (e3 (suc (length ls))) 0 ≡ true = grind (arith, nat_tests) in cc)
    | inr here ↦ here
  ]

  pub known_same : (k : ℕ) → k ≤ suc (length ls) → (j : ℕ) → known_of (e3 j) k (o3 j) ≡ known_of (e j) k (o j)
  known_same k low j = elim (same_line (suc (length ls)) j) [
    | inl here ↦ subst (λ n. known_of (e3 n) k (o3 n) ≡ known_of (e n) k (o n)) (sym here)
        (known_none (e3 (suc (length ls))) k (o3 (suc (length ls))) (elim new_place [ inl a ↦ inl a | inr a ↦ inr (omega arith) ])
        ∙ sym (known_none (e (suc (length ls))) k (o (suc (length ls))) (inl (nothing_new line ls o o2 e e2 st old.sight.crashed was apart).ended)))
    | inr far ↦ elim (changes j) [
      | inl h ↦ λ i. known_of ((h.1 ∙ (apart j far).1) i) k ((h.0 ∙ (apart j far).0) i)
      | inr h ↦
          let old_none : e j ≡ 0 = let a = sym (unfinished_old j) ∙ ap is_unfinished (sym (apart j far).0) ∙ h.0 in grind (arith, nat_tests) in
          known_none (e3 j) k (o3 j) (inr (let a = h.1 in omega arith)) ∙ sym (known_none (e j) k (o j) (inl old_none))
    ]
  ]

  pub seen_now : (λ (j : ℕ). known_of (e3 j) (suc (length ls)) (o3 j)) ≡ o
  seen_now = λ i j. (known_same (suc (length ls)) (omega arith) j ∙ known_past (e j) (length ls) (o j) (ended_low j) (unfinished_old j)) i

  pub skipped_now : is_skipped (o3 (suc (length ls))) ≡ is_skipped (o2 (suc (length ls)))
  skipped_now = sym (skipped_stays (suc (length ls)) (o2 (suc (length ls))) (o3 (suc (length ls))) (e2 (suc (length ls))) (e3 (suc (length ls))) (changes (suc (length ls))))

  skipped_before : (j : ℕ) → j ≢ suc (length ls) → is_skipped (o j) ≡ is_skipped (o3 j)
  skipped_before j far = ap is_skipped (sym (apart j far).0) ∙ skipped_stays (suc (length ls)) (o2 j) (o3 j) (e2 j) (e3 j) (changes j)

  -- Calls.

  idle_so : (can z : Bool) → IsIdle can c.own c.ended s c.from → can ≡ not z → is_skipped (o2 (suc (length ls))) ≡ z
  idle_so can true h is = ap is_skipped (some_here Skipped h.is).0
  idle_so can false h is = absurd (let a = h.cannot in cc)

  busy_so : (can z : Bool) → c.own ≡ None → can ≡ true → can ≡ not z → is_skipped (o2 (suc (length ls))) ≡ z
  busy_so can true own free_it is = absurd (cc)
  busy_so can false own free_it is = ap is_skipped (none_here own).0

  live_now : (k : ℕ) → line_at ls k ≡ Some lines.Client → is_live s k ≡ not (is_crashed o ls k)
  live_now k named = ap (λ z. lives old.sight.crashed (client_at z)) (stand_opened old.sight.stands k) ∙ live_is ls o e st old.sight.crashed was k named

  free_now : (b : Bool) (x : ℕ) → IsBegin (line_at ls x) → is_free s x ≡ not (is_idle o ls (UsesTransaction b x))
  free_now b x named = ap (λ z. lives old.sight.crashed (client_at z) && free z) (stand_opened old.sight.stands x) ∙ free_is ls o e st old.sight.crashed was b x named

  skips : CallMeets o ls (role_of line) (o2 (suc (length ls)))
  skips = by (role_of line) refl (names ls line good) c.begins
    where
      by : (r : Role) → role_of line ≡ r → Names ls r → Begins r (deed_of line) c.own c.ended s c.from → CallMeets o ls r (o2 (suc (length ls)))
      by MakesClient role named h = ap is_skipped (some_here (Ok Nothing) h.is).0
      by (AsksTime b k) role named h = elim h [
        | inl i ↦ idle_so (is_live s k) (is_crashed o ls k) i (live_now k named)
        | inr a ↦ busy_so (is_live s k) (is_crashed o ls k) a.is a.can (live_now k named)
      ]
      by (UsesTransaction b x) role named h = elim h [
        | inl i ↦ idle_so (is_free s x) (is_idle o ls (UsesTransaction b x)) i (free_now b x named)
        | inr a ↦ busy_so (is_free s x) (is_idle o ls (UsesTransaction b x)) a.is a.can (free_now b x named)
      ]
      by NoCall role named h = tt

  meets_same : (r : Role) (f g : ℕ → Outcome) (zs : List Line) (x y : Outcome) → f ≡ g → is_skipped x ≡ is_skipped y → CallMeets f zs r x → CallMeets g zs r y
  meets_same MakesClient f g zs x y p q h = sym q ∙ h
  meets_same (AsksTime b k) f g zs x y p q h = sym q ∙ h ∙ ap (λ z. is_idle z zs (AsksTime b k)) p
  meets_same (UsesTransaction b k) f g zs x y p q h = sym q ∙ h ∙ ap (λ z. is_idle z zs (UsesTransaction b k)) p
  meets_same NoCall f g zs x y p q h = tt

  calls_still : (zs : List Line) → length zs ≤ length ls → AllCallsMeet old.outcomes old.ended zs → AllCallsMeet all.outcomes all.ended zs
  calls_still [] low h = tt
  calls_still (z ∷ zs) low h = (
    meets_same (role_of z) (known old.outcomes old.ended (suc (length zs))) (known all.outcomes all.ended (suc (length zs))) zs (o (suc (length zs))) (o3 (suc (length zs)))
        (λ i j. sym (known_same (suc (length zs)) (omega arith) j) i) (skipped_before (suc (length zs)) (λ a. absurd (omega arith))) h.0,
    calls_still zs (omega arith) h.1,
  )

  pub calls_now : AllCallsMeet old.outcomes old.ended ls → AllCallsMeet all.outcomes all.ended (line ∷ ls)
  calls_now h = (
    meets_same (role_of line) o (known all.outcomes all.ended (suc (length ls))) ls (o2 (suc (length ls))) (o3 (suc (length ls))) (sym seen_now) (sym skipped_now) skips,
    calls_still ls (omega arith) h,
  )
