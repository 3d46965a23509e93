-- The store is the table folded over the history of the lines.
use Rattle.std.proofs.Common.{◌≡◌, ◌≢◌, ℕ, suc, ◌<◌, ◌≤◌, Bool, true, false, if◌then◌else◌, List, [], ◌∷◌, ◌++◌, Option, Some, None, length, reverse, slice_get, nat_eq, refl, sym, ap, ◌∙◌, subst, arith}
use Rattle.std.proofs.lemmas.List.{reverse-append}
use Rattle.std.specs.Option.{option_map}
use Rattle.txn_kv.specs.declared.reply.Reply.{Reply}
use Rattle.txn_kv.specs.declared.request.Request.{Request}
use Rattle.txn_kv.specs.declared.ticket.Ticket.{Ticket}
use Rattle.txn_history.specs.Busy.{busy_reply}
use Rattle.txn_history.specs.Event.{Event, kept_reply}
use Rattle.txn_history.specs.Event.Event.{Sent as SentEvent, Served}
use Rattle.txn_law.specs.Run.{store_after}
use Rattle.txn_lines.specs.Deeds.{begins, deed_of}
use Rattle.txn_lines.specs.declared.deed.Deed.{Deed}
use Rattle.txn_lines.specs.declared.deed.Deed.TheVariants as deeds
use Rattle.txn_lines.specs.declared.happening.Happening.TheVariants as happenings
use Rattle.txn_lines.specs.declared.line.Line.{Line}
use Rattle.txn_model.specs.Regions.{at_clock, can_lead, can_split, lead, led_by, split, split_at, unused_id}
use Rattle.txn_model.specs.Store.{Store}
use Rattle.txn_model.specs.Table.{table}
use Rattle.txn_post.proofs.Naming.{opened_leads}
use Rattle.txn_post.specs.Mail.{IsMail, Mail, as_sent, can_be_served, delivering, found_awaited, found_unserved, is_awaited, keeping, letter_at, losing, only, place_of, refusing, taking, waking}
use Rattle.txn_report.specs.declared.outcome.Outcome.{Outcome}
use Rattle.txn_report.specs.declared.outcome.Outcome.TheVariants.{Done, Ok, Skipped, Unfinished}
use Rattle.txn_report.specs.declared.outcome.Payload.TheVariants.{Unit as Nothing}
use Rattle.txn_report.specs.declared.report.SentNote.{SentNote}
use Rattle.txn_side.specs.Sight.{Acts, Asks, Goes, IsGiven, NoneGiven, Sight, connected, crash, is_live, line_count, stand_at}
use Rattle.txn_side.specs.Sight.Stand.{Asking, Calling, HasBegun, IsClient}
use Rattle.txn_lines.specs.declared.act.Act.{Act}
use Rattle.txn_side.specs.declared.turn.Ending.{Ending}
use Rattle.txn_side.specs.declared.turn.Posting.{Posting}
use Rattle.txn_side.specs.declared.turn.Turn.{Turn}
use Rattle.txn_machine.specs.Lists.{Lists, all_ended, all_posted, at_line, ended_at, fated, followed, handled, newest, opened, outright, reply_at, request_at, request_in, with_mail, with_sight, with_store}
use Rattle.txn_machine.specs.Script.{AllBefore, AreCalm, Folded, IsFoldOf, does, find, history, is_done, loses, outcome_of, refuses, refuses_it, served_tickets, serves, takes, takes_it, waits, with_sends}
use Rattle.txn_machine.specs.Steps.{Answers, AtPlace, Calls, Delivers, Does, Hears, IfServable, IsBusy, Loses, Refuses, Serves, Steps, Takes, Wakes, called, done_if, found_asleep, found_out, skipped}
use Rattle.txn_machine.proofs.Calms.{begun_line, calm_opened, calm_set, calm_told, gone_calm, gone_flag, outcome_opened, outcome_other, outcome_past, outcome_same, stand_last, stands_opened}
use Rattle.txn_machine.proofs.Finds.{all_more, found_by, looked_up, posted_before, posted_finds, posted_sends, request_by, sent_there}
use Rattle.txn_machine.proofs.Orders.{line_length, opened_count}

-- Events and the store.

reversed : (t : Ticket) (ts : List Ticket) → reverse (t ∷ ts) ≡ reverse ts ++ t ∷ []
reversed t ts = reverse-append (t ∷ []) ts

module _ (st : Store) (sv : List Ticket) where
  takes_folds : (t : Ticket) (o : Option Request) (es : List Event) → IsFoldOf es st sv → IsFoldOf (takes t o es) st sv
  takes_folds t None es f = f
  takes_folds t (Some r) es f = by (kept_reply es t)
    where
      by : (o : Option Reply) → IsFoldOf (takes_it t r o es) st sv
      by None = f
      by (Some o) = record { store = f.store; served = f.served }

  refuses_folds : (t : Ticket) (o : Option Request) (es : List Event) → IsFoldOf es st sv → IsFoldOf (refuses t o es) st sv
  refuses_folds t None es f = f
  refuses_folds t (Some r) es f = by (busy_reply r)
    where
      by : (o : Option Reply) → IsFoldOf (refuses_it t r o es) st sv
      by None = f
      by (Some o) = record { store = f.store; served = f.served }

  loses_folds : (t : Ticket) (o : Option Request) (es : List Event) → IsFoldOf es st sv → IsFoldOf (loses t o es) st sv
  loses_folds t None es f = f
  loses_folds t (Some r) es f = record { store = f.store; served = f.served }

  sends_folds : (ns : List SentNote) (n : ℕ) (es : List Event) → IsFoldOf es st sv → IsFoldOf (with_sends ns n es) st sv
  sends_folds [] n es f = f
  sends_folds (s ∷ ss) n es f = sends_folds ss n (if nat_eq s.at n then SentEvent s.ticket s.request ∷ es else es) (one (nat_eq s.at n))
    where
      one : (b : Bool) → IsFoldOf (if b then SentEvent s.ticket s.request ∷ es else es) st sv
      one true = record { store = f.store; served = f.served }
      one false = f

  serves_folds : (t : Ticket) (r : Request) (es : List Event) → IsFoldOf es st sv → IsFoldOf (Served t r (table (store_after es) r).reply ∷ es) (table st r).store (sv ++ t ∷ [])
  serves_folds t r es f = record {
    store = ap (λ s. (table s r).store) f.store;
    served = ap (λ z. z ++ t ∷ []) f.served ∙ sym (reversed t (served_tickets es));
  }

-- What a line does to the store and to the list of what was served.

abbrev Effect : Deed → Lists → Bool → Store → List Ticket → Type 0
Effect deed old done store served = (looks : Ticket → Option Request) (es : List Event) → ((t : Ticket) → looks t ≡ looked_up old.mail t) → IsFoldOf es old.store old.served → IsFoldOf (if done then does looks deed es else es) store served

pub only_some : (p : ℕ → Bool) (o : Option ℕ) (k : ℕ) → only p o ≡ Some k → o ≡ Some k
only_some p None k e = e
only_some p (Some j) k e = by (p j) e
  where
    by : (b : Bool) → (if b then Some j else None) ≡ Some k → ◌≡◌ {A = Option ℕ} (Some j) (Some k)
    by true f = f
    by false f = absurd (cc)

named_old : (old : Lists) (t : Ticket) (k : ℕ) → as_sent (place_of (opened old).mail.tickets t) ≡ Some k → as_sent (place_of old.mail.tickets t) ≡ Some k
named_old old t k e = ap as_sent (sym (opened_leads old.mail.tickets t)) ∙ e

unserved_named : (old : Lists) (t : Ticket) (k : ℕ) → found_unserved (opened old).mail t ≡ Some k → as_sent (place_of old.mail.tickets t) ≡ Some k
unserved_named old t k e = named_old old t k (only_some (can_be_served (opened old).mail) (as_sent (place_of (opened old).mail.tickets t)) k e)

out_named : (old : Lists) (t : Ticket) (k : ℕ) → found_out (opened old) t ≡ Some k → as_sent (place_of old.mail.tickets t) ≡ Some k
out_named old t k e = named_old old t k (only_some (is_awaited (opened old).mail) (as_sent (place_of (opened old).mail.tickets t)) k (by (is_live (opened old).sight t.line) e))
  where
    by : (b : Bool) → (if b then found_awaited (opened old).mail t else None) ≡ Some k → found_awaited (opened old).mail t ≡ Some k
    by true f = f
    by false f = absurd (cc)

module _ (old : Lists) (t : Ticket) (k : ℕ) (m : IsMail old.mail) (named : as_sent (place_of old.mail.tickets t) ≡ Some k) where
  here : (s : SentNote) × (slice_get old.mail.sent k ≡ Some s)
  here = sent_there old.mail t k m named

  pub asked : looked_up old.mail t ≡ Some (request_at (opened old) k)
  asked = ap (λ o. request_by old.mail.sent o) named ∙ ap (λ o. option_map (λ (s : SentNote). s.request) o) here.1 ∙ ap (λ o. Some (request_in o)) (sym here.1)

  served_so : (looks : Ticket → Option Request) (es : List Event) → ((u : Ticket) → looks u ≡ looked_up old.mail u) → IsFoldOf es old.store old.served → IsFoldOf (serves t (looks t) es) (handled t k (opened old)).store (handled t k (opened old)).served
  served_so looks es same f = subst (λ o. IsFoldOf (serves t o es) (handled t k (opened old)).store (handled t k (opened old)).served) (sym (same t ∙ asked)) (serves_folds old.store old.served t (request_at (opened old) k) es f)

  serve_effect : Effect (deeds.Happens (happenings.Serve t)) old true (handled t k (opened old)).store (handled t k (opened old)).served
  serve_effect = λ looks es same f. served_so looks es same f

  deliver_effect : Effect (deeds.Happens (happenings.Deliver t)) old true (handled t k (opened old)).store (handled t k (opened old)).served
  deliver_effect = λ looks es same f. takes_folds (handled t k (opened old)).store (handled t k (opened old)).served t (looks t) (serves t (looks t) es) (served_so looks es same f)

split_effect : (old : Lists) (key : List ℕ) (b : Bool) → can_split old.store key ≡ b → Effect (deeds.Happens (happenings.Split key)) old (is_done (done_if b)) (split old.store key) old.served
split_effect old key true e = λ looks es same f. record { store = ap (λ s. split s key) f.store; served = f.served }
split_effect old key false e = λ looks es same f. record {
  store = ap (λ (b : Bool). if b then record old.store { regions = split_at key (unused_id old.store.regions) old.store.regions } else old.store) e ∙ f.store;
  served = f.served;
}

lead_effect : (old : Lists) (region store : ℕ) (b : Bool) → can_lead old.store region store ≡ b → Effect (deeds.Happens (happenings.Lead region store)) old (is_done (done_if b)) (lead old.store region store) old.served
lead_effect old region store true e = λ looks es same f. record { store = ap (λ s. lead s region store) f.store; served = f.served }
lead_effect old region store false e = λ looks es same f. record {
  store = ap (λ (b : Bool). if b then record old.store { regions = led_by region store old.store.regions } else old.store) e ∙ f.store;
  served = f.served;
}

crash_effect : (old : Lists) (client : ℕ) (b : Bool) → Effect (deeds.Happens (happenings.Crash client)) old (is_done (done_if b)) old.store old.served
crash_effect old client true = λ looks es same f. record { store = f.store; served = f.served }
crash_effect old client false = λ looks es same f. f

-- What the step of a line leaves of what the lines before said.

-- n lines were before
pub record Stepped (n : ℕ) (deed : Deed) (old new : Lists) : Type 0 where
  pub finds : (j : ℕ) (t : Ticket) → j ≤ suc n → find new.mail.sent j t ≡ find old.mail.sent j t
  pub sends : (j : ℕ) (es : List Event) → j ≤ n → with_sends new.mail.sent j es ≡ with_sends old.mail.sent j es
  pub before : AllBefore (suc n) old.mail.sent → AllBefore (suc (suc n)) new.mail.sent
  pub flags : (j : ℕ) → j ≤ n → is_done (outcome_of new.outcomes j) ≡ is_done (outcome_of old.outcomes j)
  pub calm : AreCalm new.sight.stands new.outcomes
  pub effect : Effect deed old (is_done (outcome_of new.outcomes (suc n))) new.store new.served

-- the same of lists to which nothing is posted yet
record Ready (n : ℕ) (deed : Deed) (old m : Lists) : Type 0 where
  sent : m.mail.sent ≡ old.mail.sent
  count : newest m ≡ suc n
  flags : (j : ℕ) → j ≤ n → is_done (outcome_of m.outcomes j) ≡ is_done (outcome_of old.outcomes j)
  effect : Effect deed old (is_done (outcome_of m.outcomes (suc n))) m.store m.served

pub ended_mail : (es : List Ending) (l : Lists) → (all_ended es l).mail ≡ l.mail
ended_mail [] l = refl
ended_mail (e ∷ es) l = ended_mail es (ended_at e.line e.outcome l)

pub ended_store : (es : List Ending) (l : Lists) → (all_ended es l).store ≡ l.store
ended_store [] l = refl
ended_store (e ∷ es) l = ended_store es (ended_at e.line e.outcome l)

pub ended_served : (es : List Ending) (l : Lists) → (all_ended es l).served ≡ l.served
ended_served [] l = refl
ended_served (e ∷ es) l = ended_served es (ended_at e.line e.outcome l)

pub ended_sight : (es : List Ending) (l : Lists) → (all_ended es l).sight ≡ l.sight
ended_sight [] l = refl
ended_sight (e ∷ es) l = ended_sight es (ended_at e.line e.outcome l)

quiet_stepped : (n : ℕ) (deed : Deed) (old m : Lists) → Ready n deed old m → AreCalm m.sight.stands m.outcomes → Stepped n deed old m
quiet_stepped n deed old m r calm = record {
  finds = λ j t h. ap (λ ss. find ss j t) r.sent;
  sends = λ j es h. ap (λ ss. with_sends ss j es) r.sent;
  before = λ a. subst (λ ss. AllBefore (suc (suc n)) ss) (sym r.sent) (all_more (suc n) old.mail.sent a);
  flags = r.flags;
  calm = calm;
  effect = r.effect;
}

module _ (n : ℕ) (deed : Deed) (old m : Lists) (posted : List Posting) (ended : List Ending) (from : Sight) (r : Ready n deed old m) (goes : Goes posted ended from m.sight) (calm : AreCalm from.stands m.outcomes) where
  abbrev sent : Lists
  sent = with_mail (all_posted (newest m) posted m.mail) m

  mail : (all_ended ended sent).mail ≡ all_posted (newest m) posted m.mail
  mail = ended_mail ended sent

  flag : (j : ℕ) → is_done (outcome_of (all_ended ended sent).outcomes j) ≡ is_done (outcome_of m.outcomes j)
  flag j = gone_flag posted ended from m.sight sent goes calm j

  after : Effect deed old (is_done (outcome_of (all_ended ended sent).outcomes (suc n))) (all_ended ended sent).store (all_ended ended sent).served
  after = λ looks es same f.
      subst (λ (b : Bool). IsFoldOf (if b then does looks deed es else es) (all_ended ended sent).store (all_ended ended sent).served) (sym (flag (suc n)))
      (let g = r.effect looks es same f in record { store = ended_store ended sent ∙ g.store; served = ended_served ended sent ∙ g.served })

  followed_stepped : Stepped n deed old (followed posted ended m)
  followed_stepped = record {
    finds = λ j t h. ap (λ (x : Mail). find x.sent j t) mail ∙ posted_finds (newest m) posted m.mail j t (subst (λ k. j ≤ k) (sym r.count) h) ∙ ap (λ ss. find ss j t) r.sent;
    sends = λ j es h. ap (λ (x : Mail). with_sends x.sent j es) mail ∙ posted_sends (newest m) posted m.mail j es (subst (λ k. j < k) (sym r.count) (omega arith)) ∙ ap (λ ss. with_sends ss j es) r.sent;
    before = λ a. subst (λ (x : Mail). AllBefore (suc (suc n)) x.sent) (sym mail)
        (posted_before (newest m) posted m.mail (suc (suc n)) (subst (λ k. k < suc (suc n)) (sym r.count) (omega arith))
        (subst (λ ss. AllBefore (suc (suc n)) ss) (sym r.sent) (all_more (suc n) old.mail.sent a)));
    flags = λ j h. flag j ∙ r.flags j h;
    calm = subst (λ (s : Sight). AreCalm s.stands (all_ended ended sent).outcomes) (sym (ended_sight ended sent)) (gone_calm posted ended from m.sight sent goes calm);
    effect = after;
  }

-- The lines.

module _ (n : ℕ) (old : Lists) (told : newest old ≡ n) (even : length old.sight.stands ≡ newest old) (was : AreCalm old.sight.stands old.outcomes) where
  count : newest (opened old) ≡ suc n
  count = let a = opened_count old in let b = told in omega arith

  -- the outcome of the line comes at once
  ready_outright : (deed : Deed) (y : Lists) (o : Outcome) → y.outcomes ≡ (opened old).outcomes → y.mail.sent ≡ old.mail.sent → Effect deed old (is_done o) y.store y.served → Ready n deed old (outright o y)
  ready_outright deed y o outs sent effect = record {
    sent = sent;
    count = line_length y.outcomes (newest y) o ∙ high;
    flags = λ j h. ap is_done (outcome_other y.outcomes (newest y) j o (apart j h) ∙ ap (λ os. outcome_of os j) outs ∙ outcome_opened old.outcomes j);
    effect = subst (λ x. Effect deed old (is_done x) y.store y.served) (sym now) effect;
  }
    where
      high : newest y ≡ suc n
      high = ap (λ os. length os) outs ∙ count

      apart : (j : ℕ) → j ≤ n → j ≢ newest y
      apart j h e = absurd (let a = high in omega arith)

      now : outcome_of (at_line y.outcomes (newest y) o) (suc n) ≡ o
      now = subst (λ k. outcome_of (at_line y.outcomes (newest y) o) k ≡ o) high (outcome_same y.outcomes (newest y) o (let a = high in omega arith) (omega arith))

  -- the line is a call
  ready_call : (deed : Deed) (s : Sight) → Effect deed old false old.store old.served → Ready n deed old (with_sight s (opened old))
  ready_call deed s effect = record {
    sent = refl;
    count = count;
    flags = λ j h. ap is_done (outcome_opened old.outcomes j);
    effect = subst (λ x. Effect deed old (is_done x) old.store old.served) (sym unfinished) effect;
  }
    where
      unfinished : outcome_of (old.outcomes ++ Unfinished ∷ []) (suc n) ≡ Unfinished
      unfinished = outcome_opened old.outcomes (suc n) ∙ outcome_past old.outcomes n (let a = told in omega arith)

  calm_now : AreCalm (opened old).sight.stands (opened old).outcomes
  calm_now = calm_opened old.sight.stands old.outcomes was

  -- nothing stands there yet
  none_there : waits (stand_at (opened old).sight.stands (newest (opened old))) ≡ false
  none_there = subst (λ k. waits (stand_at (opened old).sight.stands k) ≡ false) (sym count) (stand_last old.sight.stands n (even ∙ told))

  calm_outright : (o : Outcome) → AreCalm (opened old).sight.stands (at_line (opened old).outcomes (newest (opened old)) o)
  calm_outright o = calm_told (opened old).sight.stands (opened old).outcomes (newest (opened old)) o none_there calm_now

  stands_skipped : (deed : Deed) → Stepped n deed old (skipped (opened old))
  stands_skipped deed = quiet_stepped n deed old (skipped (opened old)) (ready_outright deed (opened old) Skipped refl refl (λ looks es same f. f)) (calm_outright Skipped)

  is_skipped : (deed : Deed) (new : Lists) → new ≡ skipped (opened old) → Stepped n deed old new
  is_skipped deed new e = subst (λ x. Stepped n deed old x) (sym e) (stands_skipped deed)

  -- the outcome comes at once, and the clients stay as they were or crash
  tells : (deed : Deed) (y new : Lists) (o : Outcome) → new ≡ outright o y → y.outcomes ≡ (opened old).outcomes → y.sight.stands ≡ (opened old).sight.stands → y.mail.sent ≡ old.mail.sent → Effect deed old (is_done o) y.store y.served → Stepped n deed old new
  tells deed y new o e outs stands sent effect = subst (λ x. Stepped n deed old x) (sym e) (quiet_stepped n deed old (outright o y) (ready_outright deed y o outs sent effect)
      (subst (λ ss. AreCalm ss (at_line y.outcomes (newest y) o)) (sym stands) (subst (λ os. AreCalm (opened old).sight.stands (at_line os (length os) o)) (sym outs) (calm_outright o))))

  -- the clients hear of it
  hears : (Gives : ℕ → ℕ → Type 0) (deed : Deed) (y new : Lists) → y.outcomes ≡ (opened old).outcomes → y.sight ≡ (opened old).sight → y.mail.sent ≡ old.mail.sent → Effect deed old true y.store y.served → Hears Gives y new → Stepped n deed old new
  hears Gives deed y new outs sight sent effect c = subst (λ x. Stepped n deed old x) (sym c.is)
      (followed_stepped n deed old (outright Done (with_sight c.sight y)) c.posted c.ended y.sight (ready_outright deed (with_sight c.sight y) Done outs sent effect) c.goes
      (subst (λ (s : Sight). AreCalm s.stands (at_line y.outcomes (newest y) Done)) (sym sight) (subst (λ os. AreCalm (opened old).sight.stands (at_line os (length os) Done)) (sym outs) (calm_outright Done))))

  undone : is_done (outcome_of (opened old).outcomes (newest (opened old))) ≡ false
  undone = subst (λ k. is_done (outcome_of (opened old).outcomes k) ≡ false) (sym count) (ap is_done (outcome_opened old.outcomes (suc n) ∙ outcome_past old.outcomes n (let a = told in omega arith)))

  lined : line_count (opened old).sight ≡ newest (opened old)
  lined = stands_opened old.sight.stands n (even ∙ told) ∙ sym count

  some_line : 1 ≤ line_count (opened old).sight
  some_line = let a = lined in let b = count in omega arith

  does_ask : (deed : Deed) (begins : Bool) (client : ℕ) (s : Sight) (turn : Option Turn) → Effect deed old false old.store old.served → Asks begins client (opened old).sight s turn → Stepped n deed old (called turn (with_sight s (opened old)))
  does_ask deed begins client s None effect a = tells deed (with_sight s (opened old)) _ Skipped refl refl (ap (λ (x : Sight). x.stands) a.1) refl effect
  does_ask deed begins client s (Some turn) effect a = followed_stepped n deed old (with_sight s (opened old)) turn.posted.items turn.ended.items _ (ready_call deed s effect) a.3
      (calm_set (opened old).sight.stands (opened old).outcomes (line_count (opened old).sight) (Asking a.0 begins) some_line (λ w. subst (λ k. is_done (outcome_of (opened old).outcomes k) ≡ false) (sym lined) undone) calm_now)

  does_act : (deed : Deed) (act : Act) (x : ℕ) (s : Sight) (turn : Option Turn) → Effect deed old false old.store old.served → Acts act x (opened old).sight s turn → Stepped n deed old (called turn (with_sight s (opened old)))
  does_act deed act x s None effect a = tells deed (with_sight s (opened old)) _ Skipped refl refl (ap (λ (y : Sight). y.stands) a.1) refl effect
  does_act deed act x s (Some turn) effect a = followed_stepped n deed old (with_sight s (opened old)) turn.posted.items turn.ended.items _ (ready_call deed s effect) a.3
      (calm_set _ (opened old).outcomes (line_count (opened old).sight) (Calling a.0 x _) some_line (λ w. subst (λ k. is_done (outcome_of (opened old).outcomes k) ≡ false) (sym lined) undone)
      (calm_set (opened old).sight.stands (opened old).outcomes x (HasBegun a.0 _) (begun_line (opened old).sight.stands x a.0 a.1) (λ w. absurd (cc)) calm_now))

  calls_asks : (deed : Deed) (begins : Bool) (client : ℕ) (new : Lists) → Effect deed old false old.store old.served → Calls (Asks begins client) (opened old) new → Stepped n deed old new
  calls_asks deed begins client new effect c = subst (λ x. Stepped n deed old x) (sym c.is) (does_ask deed begins client c.sight c.turn effect c.begins)

  calls_acts : (deed : Deed) (act : Act) (x : ℕ) (new : Lists) → Effect deed old false old.store old.served → Calls (Acts act x) (opened old) new → Stepped n deed old new
  calls_acts deed act x new effect c = subst (λ y. Stepped n deed old y) (sym c.is) (does_act deed act x c.sight c.turn effect c.begins)

  -- Events.

  answer_at : (t : Ticket) (place : ℕ) (kept : Option Reply) (new : Lists) → Takes t place kept (opened old) new → Stepped n (deeds.Happens (happenings.Answer t)) old new
  answer_at t place None new e = is_skipped (deeds.Happens (happenings.Answer t)) new e
  answer_at t place (Some o) new c = hears (IsGiven (opened old).sight t o) (deeds.Happens (happenings.Answer t)) (fated taking place (opened old)) new refl refl refl (λ looks es same f. takes_folds old.store old.served t (looks t) es f) c

  answers : (t : Ticket) (o : Option ℕ) (new : Lists) → AtPlace o (Answers t) (opened old) new → Stepped n (deeds.Happens (happenings.Answer t)) old new
  answers t None new e = is_skipped (deeds.Happens (happenings.Answer t)) new e
  answers t (Some place) new c = answer_at t place (letter_at (opened old).mail place).kept new c

  busy_at : (t : Ticket) (place : ℕ) (reply : Option Reply) (new : Lists) → Refuses t place reply (opened old) new → Stepped n (deeds.Happens (happenings.Busy t)) old new
  busy_at t place None new e = is_skipped (deeds.Happens (happenings.Busy t)) new e
  busy_at t place (Some o) new c = hears (IsGiven (opened old).sight t o) (deeds.Happens (happenings.Busy t)) (fated refusing place (opened old)) new refl refl refl (λ looks es same f. refuses_folds old.store old.served t (looks t) es f) c

  busy_if : (t : Ticket) (b : Bool) (place : ℕ) (new : Lists) → IfServable b (λ l m. Refuses t place (busy_reply (request_at l place)) l m) (opened old) new → Stepped n (deeds.Happens (happenings.Busy t)) old new
  busy_if t false place new e = is_skipped (deeds.Happens (happenings.Busy t)) new e
  busy_if t true place new c = busy_at t place (busy_reply (request_at (opened old) place)) new c

  busies : (t : Ticket) (o : Option ℕ) (new : Lists) → AtPlace o (IsBusy t) (opened old) new → Stepped n (deeds.Happens (happenings.Busy t)) old new
  busies t None new e = is_skipped (deeds.Happens (happenings.Busy t)) new e
  busies t (Some place) new c = busy_if t (can_be_served (opened old).mail place) place new c

  lost : (t : Ticket) (o : Option ℕ) (new : Lists) → AtPlace o Loses (opened old) new → Stepped n (deeds.Happens (happenings.Lose t)) old new
  lost t None new e = is_skipped (deeds.Happens (happenings.Lose t)) new e
  lost t (Some place) new c = hears NoneGiven (deeds.Happens (happenings.Lose t)) (fated losing place (opened old)) new refl refl refl (λ looks es same f. loses_folds old.store old.served t (looks t) es f) c

  woken : (t : Ticket) (o : Option ℕ) (new : Lists) → AtPlace o Wakes (opened old) new → Stepped n (deeds.Happens (happenings.Wake t)) old new
  woken t None new e = is_skipped (deeds.Happens (happenings.Wake t)) new e
  woken t (Some place) new c = hears NoneGiven (deeds.Happens (happenings.Wake t)) (with_mail (waking place (opened old).mail) (opened old)) new refl refl refl (λ looks es same f. record { store = f.store; served = f.served }) c

  module _ (m : IsMail old.mail) where
    serves_at : (t : Ticket) (o : Option ℕ) (new : Lists) → found_unserved (opened old).mail t ≡ o → AtPlace o (Serves t) (opened old) new → Stepped n (deeds.Happens (happenings.Serve t)) old new
    serves_at t None new e skips = is_skipped (deeds.Happens (happenings.Serve t)) new skips
    serves_at t (Some place) new e does = tells (deeds.Happens (happenings.Serve t)) (fated (keeping (reply_at (opened old) place)) place (handled t place (opened old))) new Done does refl refl refl (serve_effect old t place m (unserved_named old t place e))

    deliver_if : (t : Ticket) (b : Bool) (place : ℕ) (new : Lists) → found_out (opened old) t ≡ Some place → IfServable b (λ l x. Hears (IsGiven l.sight t (reply_at l place)) (fated delivering place (handled t place l)) x) (opened old) new → Stepped n (deeds.Happens (happenings.Deliver t)) old new
    deliver_if t false place new e skips = is_skipped (deeds.Happens (happenings.Deliver t)) new skips
    deliver_if t true place new e c = hears (IsGiven (opened old).sight t (reply_at (opened old) place)) (deeds.Happens (happenings.Deliver t)) (fated delivering place (handled t place (opened old))) new refl refl refl (deliver_effect old t place m (out_named old t place e)) c

    delivers_at : (t : Ticket) (o : Option ℕ) (new : Lists) → found_out (opened old) t ≡ o → AtPlace o (Delivers t) (opened old) new → Stepped n (deeds.Happens (happenings.Deliver t)) old new
    delivers_at t None new e skips = is_skipped (deeds.Happens (happenings.Deliver t)) new skips
    delivers_at t (Some place) new e c = deliver_if t (can_be_served (opened old).mail place) place new e c

    pub stepped : (deed : Deed) (new : Lists) → Does deed (opened old) new → Stepped n deed old new
    stepped deeds.Nothing new s = tells deeds.Nothing (opened old) new Done s refl refl refl (λ looks es same f. f)
    stepped deeds.Connect new s = subst (λ x. Stepped n deeds.Connect old x) (sym s) (quiet_stepped n deeds.Connect old (outright (Ok Nothing) (with_sight (connected (opened old).sight) (opened old)))
        (ready_outright deeds.Connect (with_sight (connected (opened old).sight) (opened old)) (Ok Nothing) refl refl (λ looks es same f. f))
        (calm_set (opened old).sight.stands _ (line_count (opened old).sight) (IsClient _) some_line (λ w. absurd (cc)) (calm_outright (Ok Nothing))))
    stepped (deeds.Ask client act) new s = calls_asks (deeds.Ask client act) (begins act) client new (λ looks es same f. f) s
    stepped (deeds.Use x act) new s = calls_acts (deeds.Use x act) act x new (λ looks es same f. f) s
    stepped (deeds.Happens (happenings.Serve t)) new s = serves_at t (found_unserved (opened old).mail t) new refl s
    stepped (deeds.Happens (happenings.Answer t)) new s = answers t (found_out (opened old) t) new s
    stepped (deeds.Happens (happenings.Deliver t)) new s = delivers_at t (found_out (opened old) t) new refl s
    stepped (deeds.Happens (happenings.Lose t)) new s = lost t (found_out (opened old) t) new s
    stepped (deeds.Happens (happenings.Busy t)) new s = busies t (found_out (opened old) t) new s
    stepped (deeds.Happens (happenings.Wake t)) new s = woken t (found_asleep (opened old) t) new s
    stepped (deeds.Happens (happenings.Split key)) new s = tells (deeds.Happens (happenings.Split key)) (with_store (split old.store key) (opened old)) new (done_if (can_split old.store key)) s refl refl refl (split_effect old key (can_split old.store key) refl)
    stepped (deeds.Happens (happenings.Lead region store)) new s = tells (deeds.Happens (happenings.Lead region store)) (with_store (lead old.store region store) (opened old)) new (done_if (can_lead old.store region store)) s refl refl refl (lead_effect old region store (can_lead old.store region store) refl)
    stepped (deeds.Happens (happenings.Clock ms)) new s = tells (deeds.Happens (happenings.Clock ms)) (with_store (at_clock old.store ms) (opened old)) new Done s refl refl refl (λ looks es same f. record { store = ap (λ st. at_clock st ms) f.store; served = f.served })
    stepped (deeds.Happens (happenings.Crash client)) new s = tells (deeds.Happens (happenings.Crash client)) (with_sight (crash client (opened old).sight) (opened old)) new (done_if (is_live (opened old).sight client)) s refl refl refl (crash_effect old client (is_live (opened old).sight client))

-- The history of the lines.

pub history_same : (sent sent' : List SentNote) (outs outs' : List Outcome) (ls : List Line)
    → ((j : ℕ) → j ≤ length ls → is_done (outcome_of outs j) ≡ is_done (outcome_of outs' j))
    → ((j : ℕ) → j ≤ length ls → (t : Ticket) → find sent j t ≡ find sent' j t)
    → ((j : ℕ) → j ≤ length ls → (es : List Event) → with_sends sent j es ≡ with_sends sent' j es)
    → history sent outs ls ≡ history sent' outs' ls
history_same sent sent' outs outs' [] a b c = refl
history_same sent sent' outs outs' (l ∷ ls) a b c =
    let h = history_same sent sent' outs outs' ls (λ j m. a j (omega arith)) (λ j m. b j (omega arith)) (λ j m. c j (omega arith)) in
    let f : Ticket → Option Request = λ t. find sent (suc (length ls)) t in
    let g : Ticket → Option Request = λ t. find sent' (suc (length ls)) t in
    let looks : f ≡ g = λ i t. b (suc (length ls)) (omega arith) t i in
    let body : (if is_done (outcome_of outs (suc (length ls))) then does f (deed_of l) (history sent outs ls) else history sent outs ls) ≡ (if is_done (outcome_of outs' (suc (length ls))) then does g (deed_of l) (history sent' outs' ls) else history sent' outs' ls) =
    λ i. if a (suc (length ls)) (omega arith) i then does (looks i) (deed_of l) (h i) else h i in
    c (suc (length ls)) (omega arith) _ ∙ ap (λ x. with_sends sent' (suc (length ls)) x) body

pub folded_step : (line : Line) (ls : List Line) (old new : Lists) → newest old ≡ length ls → length old.sight.stands ≡ newest old → IsMail old.mail → Steps line old new → Folded ls old → Folded (line ∷ ls) new
folded_step line ls old new told even m steps was = record {
  before = s.before was.before;
  calm = s.calm;
  folds = sends_folds new.store new.served new.mail.sent (suc (length ls)) _
      (s.effect (λ t. find new.mail.sent (suc (length ls)) t) (history new.mail.sent new.outcomes ls)
      (λ t. s.finds (suc (length ls)) t (omega arith) ∙ found_by old.mail (suc (length ls)) t m was.before)
      (subst (λ es. IsFoldOf es old.store old.served) (sym same) was.folds));
}
  where
    s : Stepped (length ls) (deed_of line) old new
    s = stepped (length ls) old told even was.calm m (deed_of line) new steps

    same : history new.mail.sent new.outcomes ls ≡ history old.mail.sent old.outcomes ls
    same = history_same new.mail.sent old.mail.sent new.outcomes old.outcomes ls s.flags (λ j h t. s.finds j t (omega arith)) (λ j h es. s.sends j es h)
