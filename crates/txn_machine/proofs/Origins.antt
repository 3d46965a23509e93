-- Each line keeps what is said of the clients that can have arisen from the history, and of what calls answered.
use Rattle.std.proofs.Common.{◌≡◌, ℕ, suc, ◌≤◌, inl, inr, Bool, true, false, not, ◌&&◌, if◌then◌else◌, List, [], ◌∷◌, Option, Some, None, length, is_some, refl, sym, ap, ◌∙◌, subst, arith}
use Rattle.txn_kv.specs.declared.reply.Reply.{Reply}
use Rattle.txn_kv.specs.declared.request.Request.{Request}
use Rattle.txn_kv.specs.declared.ticket.Ticket.{Ticket}
use Rattle.txn_history.specs.Event.{Event, Has, kept_reply}
use Rattle.txn_history.specs.Event.Event.{Sent, Served}
use Rattle.txn_law.specs.Run.{IsUnserved}
use Rattle.txn_law.proofs.Tickets.{unserved, was_sent}
use Rattle.txn_lines.specs.Lines.{line_at, why_after}
use Rattle.txn_lines.specs.Deeds.{deed_of}
use Rattle.txn_lines.specs.declared.deed.Deed.{Deed}
use Rattle.txn_lines.specs.declared.deed.Deed.TheVariants as deeds
use Rattle.txn_lines.specs.declared.line.Line.{Line}
use Rattle.txn_post.proofs.Mails.{opened_is_mail}
use Rattle.txn_post.proofs.Naming.{opened_leads}
use Rattle.txn_post.specs.Mail.{IsMail, as_sent, can_be_served, found_unserved, letter_at, place_of}
use Rattle.txn_report.specs.declared.outcome.Outcome.{Outcome}
use Rattle.txn_report.specs.declared.outcome.Outcome.TheVariants.{Ok, Err, Unfinished, Done, Skipped}
use Rattle.txn_report.specs.declared.outcome.Payload.{Payload}
use Rattle.txn_side.specs.Arising.{answered_at}
use Rattle.txn_side.specs.Sight.{stand_at}
use Rattle.txn_machine.specs.Arising.{AllHold, AllSpeak, Arisen, GoesIn, HaveArisen, HoldsBy, IsRight, Knows, happens}
use Rattle.txn_machine.specs.Causes.{Role, is_unfinished, role_for, role_of, tells}
use Rattle.txn_machine.specs.Causes.Role.{AsksTime, MakesClient, NoCall, UsesTransaction}
use Rattle.txn_machine.specs.Lists.{Lists, all_posted, followed, newest, opened, request_at, request_in, with_mail}
use Rattle.txn_machine.specs.Rows.{Caused, IsRow, Row, outcome_in, role_in, stand_in}
use Rattle.txn_machine.specs.Rows.Row.{Acted, AskFailed, AskSkipped, AskWaits, Begun, CallFailed, CallSkipped, CallWaits, Happened, Made, Over, Timed, Works}
use Rattle.txn_machine.specs.Running.{IsOrdered, IsSound}
use Rattle.txn_machine.specs.Script.{AllBefore, Folded, does, find, history, outcome_of, with_sends}
use Rattle.txn_machine.specs.Steps.{Steps, does_it}
use Rattle.txn_machine.proofs.Accounting.{change, stays}
use Rattle.txn_machine.proofs.Calms.{outcome_past, stand_opened}
use Rattle.txn_machine.proofs.Carried.{history_now, looked}
use Rattle.txn_machine.proofs.Caused.{done_is, mid_count}
use Rattle.txn_machine.proofs.Courses.{Course, course, only_there, out_there, own_done}
use Rattle.txn_machine.proofs.Credits.{all_count}
use Rattle.txn_machine.proofs.Saying.{speak_now, tells_none}
use Rattle.txn_machine.proofs.Fates.{fate_of, fates_opened}
use Rattle.txn_machine.proofs.Finds.{looked_up, request_by}
use Rattle.txn_machine.proofs.Folds.{Stepped, asked, stepped}
use Rattle.txn_machine.proofs.Numberings.{line_new, line_old, line_range}
use Rattle.txn_machine.proofs.Orders.{opened_count}
use Rattle.txn_machine.proofs.Timestamps.{history_fit, kept_served, served_asked}
use Rattle.txn_machine.proofs.Timing.{noted_there}

-- What the lists say of the history.

module _ (old : Lists) (ls : List Line) (told : newest old ≡ length ls) (sound : IsSound old) (was : Caused ls old) (folded : Folded ls old) (looks : Ticket → Option Request) (looked_so : (t : Ticket) → looks t ≡ looked_up old.mail t) where
  abbrev es : List Event
  es = history old.mail.sent old.outcomes ls

  m : IsMail old.mail
  m = sound.mail

  there_old : (t : Ticket) (k : ℕ) → as_sent (place_of (opened old).mail.tickets t) ≡ Some k → as_sent (place_of old.mail.tickets t) ≡ Some k
  there_old t k named = ap as_sent (sym (opened_leads old.mail.tickets t)) ∙ named

  request_sent : (t : Ticket) (r : Request) → looks t ≡ Some r → Has es (Sent t r)
  request_sent t r is = by (as_sent (place_of old.mail.tickets t)) refl (sym (looked_so t) ∙ is)
    where
      by : (o : Option ℕ) → as_sent (place_of old.mail.tickets t) ≡ o → request_by old.mail.sent o ≡ Some r → Has es (Sent t r)
      by None e f = absurd (cc)
      by (Some k) e f =
          let same : Some (request_at (opened old) k) ≡ Some r = sym (asked old t k m e) ∙ sym (looked_so t) ∙ is in
          let request : request_at (opened old) k ≡ r = cc in
          subst (λ q. Has es (Sent t q)) request (was_sent es t (request_at (opened old) k) (fate_of es old.mail m was.fates.fates t k e).sent)

  reply_kept : (t : Ticket) (k : ℕ) (o : Reply) → as_sent (place_of (opened old).mail.tickets t) ≡ Some k → (letter_at (opened old).mail k).awaited ≡ true → (letter_at (opened old).mail k).kept ≡ Some o → (kept_reply es t ≡ Some o) × Has es (Served t (request_at (opened old) k) o)
  reply_kept t k o named waits kept =
      let f = fate_of es (opened old).mail (opened_is_mail old.mail m) (fates_opened es old.mail was.fates.fates) t k named in
      let reply : kept_reply es t ≡ Some o = f.kept waits ∙ kept in
      let served = kept_served es t o reply in
      let noted = served_asked old.mail.sent es (history_fit old.mail.sent old.outcomes ls) t served.0 o served.1 in
      let place = noted_there old.mail noted.0 k m noted.1 (subst (λ v. as_sent (place_of old.mail.tickets v) ≡ Some k) (sym noted.2) (there_old t k named)) in
      let request : served.0 ≡ request_at (opened old) k = sym noted.3 ∙ sym (ap request_in place) in
      (reply, subst (λ q. Has es (Served t q o)) request served.1)

  never_came : (t : Ticket) (k : ℕ) → found_unserved (opened old).mail t ≡ Some k → IsUnserved es t
  never_came t k found =
      let f = fate_of es old.mail m was.fates.fates t k (there_old t k (only_there (λ j. can_be_served (opened old).mail j) (as_sent (place_of (opened old).mail.tickets t)) k found).0) in
      let can = neither (letter_at old.mail k).served (letter_at old.mail k).refused (only_there (λ j. can_be_served (opened old).mail j) (as_sent (place_of (opened old).mail.tickets t)) k found).1 in
      unserved es t (no_reply (kept_reply es t) (f.served ∙ can.0)) (f.refused ∙ can.1)
    where
      no_reply : (x : Option Reply) → is_some x ≡ false → x ≡ None
      no_reply None e = refl
      no_reply (Some y) e = absurd (cc)

      neither : (a b : Bool) → (not a && not b) ≡ true → (a ≡ false) × (b ≡ false)
      neither false false e = (refl, refl)
      neither false true e = absurd (cc)
      neither true b e = absurd (cc)

  knows : Knows (opened old) looks es
  knows = record {
    before = subst (λ k. AllBefore k old.mail.sent) (let a = opened_count old in let b = told in omega arith) folded.before;
    store = folded.folds.store;
    sent = request_sent;
    asked = λ t k found. let there = out_there old t k found in looked_so t ∙ asked old t k m (there_old t k there.0);
    kept = λ t k o found kept. let there = out_there old t k found in reply_kept t k o there.0 there.1 kept;
    unserved = never_came;
    room = let a = sound.last in let b = sound.few in omega arith;
  }

-- What calls answered.

module _ (holds : ℕ → Outcome → Type 0) (n : ℕ) where
  holds_if : (role : Role) (o : Outcome) → ((p : Payload) → o ≡ Ok p → HoldsBy holds n role (Ok p)) → HoldsBy holds n role o
  holds_if MakesClient o h = tt
  holds_if NoCall o h = tt
  holds_if (AsksTime b k) (Ok p) h = h p refl
  holds_if (AsksTime b k) (Err e) h = tt
  holds_if (AsksTime b k) Unfinished h = tt
  holds_if (AsksTime b k) Done h = tt
  holds_if (AsksTime b k) Skipped h = tt
  holds_if (UsesTransaction b x) (Ok p) h = h p refl
  holds_if (UsesTransaction b x) (Err e) h = tt
  holds_if (UsesTransaction b x) Unfinished h = tt
  holds_if (UsesTransaction b x) Done h = tt
  holds_if (UsesTransaction b x) Skipped h = tt

  holds_still : (later : ℕ → Outcome → Type 0) → ((x : ℕ) (o : Outcome) → holds x o → later x o) → (role : Role) (p : Payload) → HoldsBy holds n role (Ok p) → HoldsBy later n role (Ok p)
  holds_still later kept MakesClient p h = tt
  holds_still later kept NoCall p h = tt
  holds_still later kept (AsksTime b k) p h = kept n (Ok p) h
  holds_still later kept (UsesTransaction b x) p h = kept x (Ok p) h

  -- what the clients tell a line whose call waits
  row_holds : (row : Row) (p : Payload) → is_unfinished (outcome_in row) ≡ true → holds (answered_at n (stand_in row)).at (Ok p) → HoldsBy holds n (role_in row) (Ok p)
  row_holds (AskWaits b k c) p waits h = h
  row_holds (CallWaits b x c) p waits h = h
  row_holds (Made c) p waits h = tt
  row_holds (Happened d) p waits h = tt
  row_holds (Begun k v c m) p waits h = absurd (cc)
  row_holds (Timed k v c) p waits h = absurd (cc)
  row_holds (AskFailed b k c e) p waits h = absurd (cc)
  row_holds (AskSkipped b k) p waits h = absurd (cc)
  row_holds (Acted x c) p waits h = absurd (cc)
  row_holds (Over x v c) p waits h = absurd (cc)
  row_holds (Works x v c) p waits h = absurd (cc)
  row_holds (CallFailed b x c e) p waits h = absurd (cc)
  row_holds (CallSkipped b x) p waits h = absurd (cc)

-- a call does nothing, whether it is done or not
did_same : (looks : Ticket → Option Request) (deed : Deed) (es : List Event) (a b : Bool) → (role_for deed ≡ NoCall → a ≡ b) → (if a then does looks deed es else es) ≡ (if b then does looks deed es else es)
did_same looks deed es a b same = by deed same
  where
    either : (a b : Bool) → (if a then es else es) ≡ (if b then es else es)
    either true true = refl
    either true false = refl
    either false true = refl
    either false false = refl

    alike : (deed : Deed) → a ≡ b → (if a then does looks deed es else es) ≡ (if b then does looks deed es else es)
    alike deed e = ap (λ (z : Bool). if z then does looks deed es else es) e

    by : (deed : Deed) → (role_for deed ≡ NoCall → a ≡ b) → (if a then does looks deed es else es) ≡ (if b then does looks deed es else es)
    by (deeds.Happens what) h = alike (deeds.Happens what) (h refl)
    by deed h = either a b

-- The step.

module _ (line : Line) (ls : List Line) (old : Lists) (told : newest old ≡ length ls) (ordered : IsOrdered old) (good : why_after ls line ≡ None) (was : Caused ls old) (folded : Folded ls old)
    (new : Lists) (c : Course (deed_of line) old new) (stepped : Stepped (length ls) (deed_of line) old (followed c.posted c.ended c.mid)) where
  abbrev all : Lists
  all = followed c.posted c.ended c.mid

  abbrev past : List Event
  past = history old.mail.sent old.outcomes ls

  abbrev now : List Event
  now = history all.mail.sent all.outcomes (line ∷ ls)

  abbrev looks : Ticket → Option Request
  looks t = find all.mail.sent (suc (length ls)) t

  abbrev n : ℕ
  n = suc (length ls)

  count : newest (opened old) ≡ n
  count = let a = opened_count old in let b = told in omega arith

  all_newest : newest all ≡ n
  all_newest = all_count c.ended (with_mail (all_posted (newest c.mid) c.posted c.mid.mail) c.mid) ∙ mid_count line ls old told ordered.even good was.rows new c

  knows_past : Knows (opened old) looks past
  knows_past = knows old ls told ordered.sound was folded looks (looked line ls old told ordered good was folded new c stepped)

  history_is : with_sends all.mail.sent (newest (opened old)) (happens looks (deed_of line) (opened old) past) ≡ now
  history_is =
      ap (λ k. with_sends all.mail.sent k (happens looks (deed_of line) (opened old) past)) count
      ∙ ap (λ fs. with_sends all.mail.sent n fs) (did_same looks (deed_of line) past (does_it (deed_of line) (opened old)) (own_done c.own) (λ role. sym (ap own_done (c.sure role) ∙ done_is (does_it (deed_of line) (opened old)))))
      ∙ history_now line ls old told ordered good was folded new c stepped

  module _ (steps : Steps line old all) (is : List Event → Type 0) (held holds : List Event → ℕ → Outcome → Type 0) (r : GoesIn is holds (held past) (role_of line) (opened old).sight now old all) where
    older : (k : ℕ) (z : Line) → line_at ls k ≡ Some z → HoldsBy (held past) k (role_of z) (outcome_of old.outcomes k) → HoldsBy (holds now) k (role_of z) (outcome_of all.outcomes k)
    older k z there h = holds_if (holds now) k (role_of z) (outcome_of all.outcomes k) (λ p is_ok. elim (change line ls old all told all_newest ordered good steps was k low) [
      | inl same ↦ holds_still (held past) k (holds now) r.kept (role_of z) p (subst (λ o. HoldsBy (held past) k (role_of z) o) (sym same.0 ∙ is_ok) h)
      | inr changed ↦ elim (r.answers k p is_ok) [
        | inl before ↦ absurd (let a = sym (ap is_unfinished before) ∙ changed.0 in cc)
        | inr right ↦ by p changed.0 is_ok (tells (deed_of line)) refl right
      ]
    ])
      where
        low : k ≤ length ls
        low = (line_range ls k z there).1

        row : IsRow (role_of z) (outcome_of old.outcomes k) (stand_at old.sight.stands k)
        row = was.rows.rows k z there

        by : (p : Payload) → is_unfinished (outcome_of old.outcomes k) ≡ true → outcome_of all.outcomes k ≡ Ok p → (b : Bool) → tells (deed_of line) ≡ b → IsRight (role_of line) (opened old).sight (holds now) k (Ok p) → HoldsBy (holds now) k (role_of z) (Ok p)
        by p waits is_ok false quiet right = absurd (let a = sym waits ∙ ap is_unfinished (sym (stays line ls old all told all_newest ordered good steps was quiet k low).0 ∙ is_ok) in cc)
        by p waits is_ok true told_so right =
            let stands : holds now (answered_at k (stand_at (opened old).sight.stands k)).at (Ok p) = subst (λ role. IsRight role (opened old).sight (holds now) k (Ok p)) (tells_none (deed_of line) told_so) right in
            subst (λ role. HoldsBy (holds now) k role (Ok p)) row.is
            (row_holds (holds now) k row.row p (ap is_unfinished row.outcome ∙ waits)
            (subst (λ s. holds now (answered_at k s).at (Ok p)) (stand_opened old.sight.stands k ∙ sym row.at) stands))

    all_still : (zs : List Line) → length zs ≤ length ls → ((j : ℕ) (z : Line) → line_at zs j ≡ Some z → line_at ls j ≡ Some z) → AllHold (held past) old.outcomes zs → AllHold (holds now) all.outcomes zs
    all_still [] low part h = tt
    all_still (z ∷ zs) low part h = (
      older (suc (length zs)) z (part (suc (length zs)) z (line_new z zs)) h.0,
      all_still zs (omega arith) (λ j l there. part j l (line_old z zs j (λ e. absurd (let a = (line_range zs j l there).1 in omega arith)) ∙ there)) h.1,
    )

    newest_holds : HoldsBy (holds now) n (role_of line) (outcome_of all.outcomes n)
    newest_holds = holds_if (holds now) n (role_of line) (outcome_of all.outcomes n) (λ p is_ok. elim (r.answers n p is_ok) [
      | inl before ↦ absurd (let a = sym (outcome_past old.outcomes (length ls) told) ∙ before in cc)
      | inr right ↦ by (role_of line) p right
    ])
      where
        by : (role : Role) (p : Payload) → IsRight role (opened old).sight (holds now) n (Ok p) → HoldsBy (holds now) n role (Ok p)
        by MakesClient p h = tt
        by (AsksTime b k) p h = h
        by (UsesTransaction b x) p h = h
        by NoCall p h = tt

    arisen_now : AllHold (held past) old.outcomes ls → AllSpeak old.mail.sent old.outcomes old.ended ls → HaveArisen is holds (line ∷ ls) all.mail.sent all.outcomes all.ended
    arisen_now h speak = record {
      now = r.now;
      answers = (newest_holds, all_still ls (omega arith) (λ j z there. there) h);
      says = speak_now line ls old told ordered good was folded new c stepped steps (held past) h r.says speak;
    }

pub arisen_on : (was is : List Event → Type 0) (held holds : List Event → ℕ → Outcome → Type 0) (line : Line) (ls : List Line) (old new : Lists) → newest old ≡ length ls → IsOrdered old → why_after ls line ≡ None → Steps line old new → Folded ls old → Caused ls old
    → Arisen was is held holds (deed_of line) old new → HaveArisen was held ls old.mail.sent old.outcomes old.ended → HaveArisen is holds (line ∷ ls) new.mail.sent new.outcomes new.ended
arisen_on was is held holds line ls old new told ordered good steps folded caused arisen h =
    let c = course old (deed_of line) new steps in
    let s = subst (λ x. Stepped (length ls) (deed_of line) old x) c.is (stepped (length ls) old told ordered.even.stands folded.calm ordered.sound.mail (deed_of line) new steps) in
    let r = subst (λ l. Arisen was is held holds (deed_of line) old l) c.is arisen (looks line ls old told ordered good caused folded new c s) (history old.mail.sent old.outcomes ls) (knows_past line ls old told ordered good caused folded new c s) h.now in
    subst (λ l. HaveArisen is holds (line ∷ ls) l.mail.sent l.outcomes l.ended) (sym c.is)
    (arisen_now line ls old told ordered good caused folded new c s (subst (λ l. Steps line old l) c.is steps) is held holds
    (subst (λ fs. GoesIn is holds (held (history old.mail.sent old.outcomes ls)) (role_of line) (opened old).sight fs old (followed c.posted c.ended c.mid)) (history_is line ls old told ordered good caused folded new c s) r) h.answers h.says)
