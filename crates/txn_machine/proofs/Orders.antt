-- Each line keeps the lists in order.
use Rattle.std.proofs.Common.{◌≡◌, ℕ, zero, suc, ◌+◌, ◌-◌, ◌*◌, ◌^◌, ◌<◌, ◌≤◌, Bool, true, false, if◌then◌else◌, max, List, [], ◌∷◌, Option, Some, None, length, slice_get, refl, sym, ap, ◌∙◌, subst, arith, length-append, length-set}
use Rattle.std.specs.List.{All}
use Rattle.txn_kv.specs.declared.reply.Reply.{Reply}
use Rattle.txn_kv.specs.declared.request.Request.{Request}
use Rattle.txn_kv.specs.declared.request.Request.TheVariants.{Tso}
use Rattle.txn_kv.specs.declared.ticket.Ticket.{Ticket}
use Rattle.txn_history.specs.Busy.{busy_reply}
use Rattle.txn_lines.specs.Deeds.{begins}
use Rattle.txn_lines.specs.Lines.{max_lines}
use Rattle.txn_lines.specs.declared.deed.Deed.{Deed}
use Rattle.txn_lines.specs.declared.deed.Deed.TheVariants as deeds
use Rattle.txn_lines.specs.declared.happening.Happening.TheVariants as happenings
use Rattle.txn_model.specs.Regions.{at_clock, can_lead, can_split, lead, led_by, split, split_at, unused_id}
use Rattle.txn_model.specs.Served.{last_after, last_small, others_stay}
use Rattle.txn_model.specs.Store.{Store}
use Rattle.txn_model.specs.Table.{CanServe, table}
use Rattle.txn_post.specs.Mail.{can_be_served, delivering, found_unserved, keeping, lane, letter_at, losing, refusing, taking, waking}
use Rattle.txn_post.specs.declared.letter.Letter.{Letter}
use Rattle.txn_report.specs.declared.outcome.Outcome.{Outcome}
use Rattle.txn_report.specs.declared.outcome.Outcome.TheVariants.{Done, Ok, Skipped, Unfinished}
use Rattle.txn_report.specs.declared.outcome.Payload.TheVariants.{Unit as Nothing}
use Rattle.txn_report.specs.declared.report.SentNote.{SentNote}
use Rattle.txn_side.specs.Sight.{Acts, AskFor, ArePosted, Asks, IsGiven, Sight, connected, crash, line_count}
use Rattle.txn_side.specs.Sight.Stand.{Asking, HasBegun, Idle}
use Rattle.txn_lines.specs.declared.act.Act.{Act}
use Rattle.txn_side.specs.declared.turn.Ending.{Ending}
use Rattle.txn_side.specs.declared.turn.Posting.{Posting}
use Rattle.txn_side.specs.declared.turn.Turn.{Turn}
use Rattle.txn_machine.specs.Lists.{Lists, all_ended, all_posted, at_line, ended_at, fated, followed, handled, newest, opened, outright, reply_at, request_in, with_mail, with_sight, with_store}
use Rattle.txn_machine.specs.Running.{AreNumbered, CameInOrder, IsEven, IsFine, IsOrdered, IsSound}
use Rattle.txn_machine.specs.Steps.{Answers, AtPlace, Calls, Delivers, Does, Hears, IfServable, IsBusy, Loses, Refuses, Serves, Takes, Wakes, called, found_asleep, found_out, skipped}
use Rattle.txn_machine.proofs.Coming.{order_all, order_opened}
use Rattle.txn_machine.proofs.Numbers.{asks_all, lines_stay, mail_all, numbered_all, numbered_opened}
use Rattle.txn_post.proofs.Mails.{changed_is_mail, opened_is_mail, waked_is_mail}

-- in order, with so many lines
pub record Stays (n : ℕ) (l : Lists) : Type 0 where
  pub ordered : IsOrdered l
  pub count : newest l ≡ n

-- Outcomes.

relisted : (l : Lists) (outs : List Outcome) (es : List ℕ) → length outs ≡ newest l → length es ≡ length l.ended → IsOrdered l → IsOrdered (record l { outcomes = outs; ended = es })
relisted l outs es a b h = record {
  even = record {
    ended = b ∙ h.even.ended ∙ sym a;
    calls = h.even.calls ∙ sym a;
    beats = h.even.beats ∙ sym a;
    stands = h.even.stands ∙ sym a;
    numbered = h.even.numbered;
  };
  sound = record {
    mail = h.sound.mail;
    order = subst (λ n. CameInOrder n l.mail) (sym a) h.sound.order;
    askers = h.sound.askers;
    last = subst (λ n. l.store.last ≤ 2 ^ 62 + 2 ^ 19 * n) (sym a) h.sound.last;
    clock = h.sound.clock;
    few = subst (λ n. n ≤ max_lines) (sym a) h.sound.few;
  };
}

pub line_length : {A : Type 0} (xs : List A) (line : ℕ) (x : A) → length (at_line xs line x) ≡ length xs
line_length xs zero x = refl
line_length xs (suc i) x = length-set xs i x

pub ended_keeps : {n : ℕ} (line : ℕ) (o : Outcome) (l : Lists) → Stays n l → Stays n (ended_at line o l)
ended_keeps line o l h = record {
  ordered = relisted l (at_line l.outcomes line o) (at_line l.ended line (newest l)) (line_length l.outcomes line o) (line_length l.ended line (newest l)) h.ordered;
  count = line_length l.outcomes line o ∙ h.count;
}

pub outright_keeps : {n : ℕ} (o : Outcome) (l : Lists) → Stays n l → Stays n (outright o l)
outright_keeps o l h = ended_keeps (newest l) o l h

pub all_ended_keeps : {n : ℕ} (es : List Ending) (l : Lists) → Stays n l → Stays n (all_ended es l)
all_ended_keeps [] l h = h
all_ended_keeps (e ∷ es) l h = all_ended_keeps es (ended_at e.line e.outcome l) (ended_keeps e.line e.outcome l h)

-- Clients and mail.

pub sight_keeps : {n : ℕ} (s : Sight) (l : Lists) → length s.stands ≡ newest l → s.nexts ≡ l.sight.nexts → Stays n l → Stays n (with_sight s l)
sight_keeps s l count nexts h = record {
  ordered = record {
    even = record { ended = h.ordered.even.ended; calls = h.ordered.even.calls; beats = h.ordered.even.beats; stands = count; numbered = subst (λ ns. AreNumbered l.mail.tickets ns) (sym nexts) h.ordered.even.numbered };
    sound = record { mail = h.ordered.sound.mail; order = h.ordered.sound.order; askers = h.ordered.sound.askers; last = h.ordered.sound.last; clock = h.ordered.sound.clock; few = h.ordered.sound.few };
  };
  count = h.count;
}

pub followed_keeps : {n : ℕ} (s : Sight) (posted : List Posting) (ended : List Ending) (l : Lists) → length s.stands ≡ newest l → ArePosted l.sight.nexts posted s.nexts → Stays n l → Stays n (followed posted ended (with_sight s l))
followed_keeps s posted ended l count numbers h = all_ended_keeps ended (with_mail (all_posted (newest l) posted l.mail) (with_sight s l)) (record {
  ordered = record {
    even = record {
      ended = h.ordered.even.ended;
      calls = as_many false ∙ h.ordered.even.calls;
      beats = as_many true ∙ h.ordered.even.beats;
      stands = count;
      numbered = new;
    };
    sound = record {
      mail = mail_all (newest l) posted l.mail l.sight.nexts s.nexts numbers h.ordered.even.numbered h.ordered.sound.mail;
      order = order_all (newest l) posted l.mail l.sight.nexts s.nexts numbers h.ordered.even.numbered within h.ordered.sound.mail h.ordered.sound.order;
      askers = asks_all (newest l) posted l.mail l.sight.nexts s.nexts numbers h.ordered.sound.askers;
      last = h.ordered.sound.last;
      clock = h.ordered.sound.clock;
      few = h.ordered.sound.few;
    };
  };
  count = h.count;
})
  where
    new : AreNumbered (all_posted (newest l) posted l.mail).tickets s.nexts
    new = numbered_all (newest l) posted l.mail l.sight.nexts s.nexts numbers h.ordered.even.numbered

    as_many : (b : Bool) → length (lane b (all_posted (newest l) posted l.mail).tickets) ≡ length (lane b l.mail.tickets)
    as_many b = (new.lanes b).lines ∙ lines_stay b posted l.sight.nexts s.nexts numbers ∙ sym (h.ordered.even.numbered.lanes b).lines

    within : (b : Bool) → length (lane b l.mail.tickets) ≤ newest l
    within false = let e = h.ordered.even.calls in omega arith
    within true = let e = h.ordered.even.beats in omega arith

pub fated_even : (change : Letter → Letter) (place : ℕ) (l : Lists) → IsEven l → IsEven (fated change place l)
fated_even change place l h = record { ended = h.ended; calls = h.calls; beats = h.beats; stands = h.stands; numbered = h.numbered }

pub waked_even : (place : ℕ) (l : Lists) → IsEven l → IsEven (with_mail (waking place l.mail) l)
waked_even place l h = record { ended = h.ended; calls = h.calls; beats = h.beats; stands = h.stands; numbered = h.numbered }

pub handled_even : (t : Ticket) (place : ℕ) (l : Lists) → IsEven l → IsEven (handled t place l)
handled_even t place l h = record { ended = h.ended; calls = h.calls; beats = h.beats; stands = h.stands; numbered = h.numbered }

fated_keeps : {n : ℕ} (change : Letter → Letter) (place : ℕ) (l : Lists) → Stays n l → Stays n (fated change place l)
fated_keeps change place l h = record {
  ordered = record {
    even = fated_even change place l h.ordered.even;
    sound = record { mail = changed_is_mail change place l.mail h.ordered.sound.mail; order = record { sent = h.ordered.sound.order.sent; sleeps = h.ordered.sound.order.sleeps; lines = h.ordered.sound.order.lines }; askers = h.ordered.sound.askers; last = h.ordered.sound.last; clock = h.ordered.sound.clock; few = h.ordered.sound.few };
  };
  count = h.count;
}

waked_keeps : {n : ℕ} (place : ℕ) (l : Lists) → Stays n l → Stays n (with_mail (waking place l.mail) l)
waked_keeps place l h = record {
  ordered = record {
    even = waked_even place l h.ordered.even;
    sound = record { mail = waked_is_mail place l.mail h.ordered.sound.mail; order = record { sent = h.ordered.sound.order.sent; sleeps = h.ordered.sound.order.sleeps; lines = h.ordered.sound.order.lines }; askers = h.ordered.sound.askers; last = h.ordered.sound.last; clock = h.ordered.sound.clock; few = h.ordered.sound.few };
  };
  count = h.count;
}

-- A line more.

pub opened_count : (l : Lists) → newest (opened l) ≡ newest l + 1
opened_count l = length-append l.outcomes (Unfinished ∷ [])

opened_even : (l : Lists) → IsEven l → IsEven (opened l)
opened_even l h = record {
  ended = length-append l.ended (0 ∷ []) ∙ ap (λ n. n + 1) h.ended ∙ sym (opened_count l);
  calls = length-append l.mail.tickets.calls ([] ∷ []) ∙ ap (λ n. n + 1) h.calls ∙ sym (opened_count l);
  beats = length-append l.mail.tickets.beats ([] ∷ []) ∙ ap (λ n. n + 1) h.beats ∙ sym (opened_count l);
  stands = length-append l.sight.stands (Idle ∷ []) ∙ ap (λ n. n + 1) h.stands ∙ sym (opened_count l);
  numbered = numbered_opened l.mail.tickets l.sight.nexts h.numbered;
}

more_room : (last n m : ℕ) → m ≡ n + 1 → last ≤ 2 ^ 62 + 2 ^ 19 * n → last ≤ 2 ^ 62 + 2 ^ 19 * m
more_room last n m e h = omega arith

pub opened_keeps : (l : Lists) → newest l < max_lines → IsOrdered l → Stays (newest l + 1) (opened l)
opened_keeps l room h = record {
  ordered = record {
    even = opened_even l h.even;
    sound = record {
      mail = opened_is_mail l.mail h.sound.mail;
      order = subst (λ n. CameInOrder n (opened l).mail) (sym (opened_count l)) (order_opened (newest l) l.mail h.sound.order);
      askers = h.sound.askers;
      last = more_room l.store.last (newest l) (newest (opened l)) (opened_count l) h.sound.last;
      clock = h.sound.clock;
      few = let e = opened_count l in omega arith;
    };
  };
  count = opened_count l;
}

-- The store.

can_serve : (line : ℕ) (st : Store) (r : Request) (askers : List ℕ) → AskFor line r askers → st.last < 2 ^ 63 → st.clock < 2 ^ 44 → CanServe st r
can_serve line st (Tso r) askers a last clock = record { some = subst (λ n. 1 ≤ n) (sym (a.2 ∙ ap (λ xs. length xs) a.1)) (omega arith); few = a.3; last_bits = last; clock_bits = clock }
can_serve line st r askers a last clock = tt

serves_at : (st : Store) (sent : List SentNote) (place : ℕ) → All (λ (s : SentNote). AskFor s.ticket.line s.request s.askers) sent → st.last < 2 ^ 63 → st.clock < 2 ^ 44 → CanServe st (request_in (slice_get sent place))
serves_at st [] place a last clock = tt
serves_at st (s ∷ ss) zero a last clock = can_serve s.ticket.line st s.request s.askers (a 0 s (omega arith)) last clock
serves_at st (s ∷ ss) (suc i) a last clock = serves_at st ss i (λ k d h. a (suc k) d (omega arith)) last clock

below_end : (last n : ℕ) → last ≤ 2 ^ 62 + 2 ^ 19 * n → n ≤ 65536 → last < 2 ^ 63
below_end last n h few = omega arith

pub can_serve_at : (l : Lists) (place : ℕ) → IsSound l → CanServe l.store (request_in (slice_get l.mail.sent place))
can_serve_at l place h = serves_at l.store l.mail.sent place h.askers (below_end l.store.last (newest l) h.last h.few) h.clock

tso_room : (last clock new m n : ℕ) → 1 ≤ m → m ≤ 64 → new ≤ max (last + 1) (clock * 2 ^ 18) + 2 * (m - 1) → last ≤ 2 ^ 62 + 2 ^ 19 * n → clock < 2 ^ 44 → new ≤ 2 ^ 62 + 2 ^ 19 * (n + 1)
tso_room last clock new m n some few h bound bits = omega arith

serve_last : (st : Store) (r : Request) (n : ℕ) → CanServe st r → st.last ≤ 2 ^ 62 + 2 ^ 19 * n → st.clock < 2 ^ 44 → (table st r).store.last ≤ 2 ^ 62 + 2 ^ 19 * (n + 1)
serve_last st (Tso r) n can last clock = tso_room st.last st.clock (table st (Tso r)).store.last r.count n can.some can.few (last_small st.last st.clock r.count can.some can.few) last clock
serve_last st r n can last clock = let h = last_after st r in omega (arith, h)

handled_keeps : (t : Ticket) (place : ℕ) (l : Lists) → newest l < max_lines → IsOrdered l → Stays (newest l + 1) (handled t place (opened l))
handled_keeps t place l room h = record {
  ordered = record { even = handled_even t place (opened l) (opened_even l h.even); sound = sound };
  count = opened_count l;
}
  where
    sound : IsSound (handled t place (opened l))
    sound = record {
      mail = opened_is_mail l.mail h.sound.mail;
      order = subst (λ n. CameInOrder n (opened l).mail) (sym (opened_count l)) (order_opened (newest l) l.mail h.sound.order);
      askers = h.sound.askers;
      last = subst (λ n. (table l.store (request_in (slice_get l.mail.sent place))).store.last ≤ 2 ^ 62 + 2 ^ 19 * n) (sym (opened_count l)) (serve_last l.store (request_in (slice_get l.mail.sent place)) (newest l) (can_serve_at l place h.sound) h.sound.last h.sound.clock);
      clock = subst (λ n. n < 2 ^ 44) (sym (others_stay l.store (request_in (slice_get l.mail.sent place))).clock) h.sound.clock;
      few = let e = opened_count l in omega arith;
    }

stored_keeps : {n : ℕ} (st : Store) (l : Lists) → st.last ≡ l.store.last → st.clock < 2 ^ 44 → Stays n l → Stays n (with_store st l)
stored_keeps st l last clock h = record {
  ordered = record {
    even = record { ended = h.ordered.even.ended; calls = h.ordered.even.calls; beats = h.ordered.even.beats; stands = h.ordered.even.stands; numbered = h.ordered.even.numbered };
    sound = record { mail = h.ordered.sound.mail; order = h.ordered.sound.order; askers = h.ordered.sound.askers; last = subst (λ n. n ≤ 2 ^ 62 + 2 ^ 19 * newest l) (sym last) h.ordered.sound.last; clock = clock; few = h.ordered.sound.few };
  };
  count = h.count;
}

split_stays : (st : Store) (k : List ℕ) → ((split st k).last ≡ st.last) × ((split st k).clock ≡ st.clock)
split_stays st k = by (can_split st k)
  where
    by : (b : Bool) → ((if b then record st { regions = split_at k (unused_id st.regions) st.regions } else st).last ≡ st.last) × ((if b then record st { regions = split_at k (unused_id st.regions) st.regions } else st).clock ≡ st.clock)
    by true = (refl, refl)
    by false = (refl, refl)

lead_stays : (st : Store) (region store : ℕ) → ((lead st region store).last ≡ st.last) × ((lead st region store).clock ≡ st.clock)
lead_stays st region store = by (can_lead st region store)
  where
    by : (b : Bool) → ((if b then record st { regions = led_by region store st.regions } else st).last ≡ st.last) × ((if b then record st { regions = led_by region store st.regions } else st).clock ≡ st.clock)
    by true = (refl, refl)
    by false = (refl, refl)

-- The lines.

hears_keeps : {n : ℕ} {Gives : ℕ → ℕ → Type 0} (l new : Lists) → Hears Gives l new → Stays n l → Stays n new
hears_keeps {n = k} l new c h = subst (λ m. Stays k m) (sym c.is) (followed_keeps c.sight c.posted c.ended (outright Done l)
    (c.goes.count ∙ h.ordered.even.stands ∙ sym (line_length l.outcomes (newest l) Done)) c.goes.numbers (outright_keeps Done l h))

asked_keeps : {n : ℕ} (begins : Bool) (client : ℕ) (l : Lists) (s : Sight) (turn : Option Turn) → Asks begins client l.sight s turn → Stays n l → Stays n (called turn (with_sight s l))
asked_keeps begins client l s None a h = outright_keeps Skipped (with_sight s l) (sight_keeps s l (ap (λ (x : Sight). length x.stands) a.1 ∙ h.ordered.even.stands) (ap (λ (x : Sight). x.nexts) a.1) h)
asked_keeps begins client l s (Some turn) a h = followed_keeps s turn.posted.items turn.ended.items l (a.3.count ∙ length-set l.sight.stands (line_count l.sight - 1) (Asking a.0 begins) ∙ h.ordered.even.stands) a.3.numbers h

calls_asks : {n : ℕ} (begins : Bool) (client : ℕ) (l new : Lists) → Calls (Asks begins client) l new → Stays n l → Stays n new
calls_asks {n = k} begins client l new c h = subst (λ m. Stays k m) (sym c.is) (asked_keeps begins client l c.sight c.turn c.begins h)

acted_keeps : {n : ℕ} (act : Act) (x : ℕ) (l : Lists) (s : Sight) (turn : Option Turn) → Acts act x l.sight s turn → Stays n l → Stays n (called turn (with_sight s l))
acted_keeps act x l s None a h = outright_keeps Skipped (with_sight s l) (sight_keeps s l (ap (λ (y : Sight). length y.stands) a.1 ∙ h.ordered.even.stands) (ap (λ (y : Sight). y.nexts) a.1) h)
acted_keeps act x l s (Some turn) a h = followed_keeps s turn.posted.items turn.ended.items l (a.3.count ∙ length-set _ _ _ ∙ length-set l.sight.stands (x - 1) (HasBegun a.0 (line_count l.sight)) ∙ h.ordered.even.stands) a.3.numbers h

calls_acts : {n : ℕ} (act : Act) (x : ℕ) (l new : Lists) → Calls (Acts act x) l new → Stays n l → Stays n new
calls_acts {n = k} act x l new c h = subst (λ m. Stays k m) (sym c.is) (acted_keeps act x l c.sight c.turn c.begins h)

is_keeps : {n : ℕ} (l new : Lists) → new ≡ l → Stays n l → Stays n new
is_keeps {n = k} l new e h = subst (λ m. Stays k m) (sym e) h

skips_keeps : {n : ℕ} (l new : Lists) → new ≡ skipped l → Stays n l → Stays n new
skips_keeps l new e h = is_keeps (skipped l) new e (outright_keeps Skipped l h)

takes_keeps : {n : ℕ} (t : Ticket) (place : ℕ) (kept : Option Reply) (l new : Lists) → Takes t place kept l new → Stays n l → Stays n new
takes_keeps t place None l new e h = skips_keeps l new e h
takes_keeps t place (Some o) l new c h = hears_keeps (fated taking place l) new c (fated_keeps taking place l h)

answers_keeps : {n : ℕ} (t : Ticket) (o : Option ℕ) (l new : Lists) → AtPlace o (Answers t) l new → Stays n l → Stays n new
answers_keeps t None l new e h = skips_keeps l new e h
answers_keeps t (Some place) l new c h = takes_keeps t place (letter_at l.mail place).kept l new c h

refuses_keeps : {n : ℕ} (t : Ticket) (place : ℕ) (reply : Option Reply) (l new : Lists) → Refuses t place reply l new → Stays n l → Stays n new
refuses_keeps t place None l new e h = skips_keeps l new e h
refuses_keeps t place (Some o) l new c h = hears_keeps (fated refusing place l) new c (fated_keeps refusing place l h)

busy_if : {n : ℕ} (t : Ticket) (b : Bool) (place : ℕ) (l new : Lists) → IfServable b (λ m n. Refuses t place (busy_reply (request_in (slice_get m.mail.sent place))) m n) l new → Stays n l → Stays n new
busy_if t false place l new e h = skips_keeps l new e h
busy_if t true place l new c h = refuses_keeps t place (busy_reply (request_in (slice_get l.mail.sent place))) l new c h

busy_keeps : {n : ℕ} (t : Ticket) (o : Option ℕ) (l new : Lists) → AtPlace o (IsBusy t) l new → Stays n l → Stays n new
busy_keeps t None l new e h = skips_keeps l new e h
busy_keeps t (Some place) l new c h = busy_if t (can_be_served l.mail place) place l new c h

loses_keeps : {n : ℕ} (o : Option ℕ) (l new : Lists) → AtPlace o Loses l new → Stays n l → Stays n new
loses_keeps None l new e h = skips_keeps l new e h
loses_keeps (Some place) l new c h = hears_keeps (fated losing place l) new c (fated_keeps losing place l h)

wakes_keeps : {n : ℕ} (o : Option ℕ) (l new : Lists) → AtPlace o Wakes l new → Stays n l → Stays n new
wakes_keeps None l new e h = skips_keeps l new e h
wakes_keeps (Some place) l new c h = hears_keeps (with_mail (waking place l.mail) l) new c (waked_keeps place l h)

module _ (old : Lists) (room : newest old < max_lines) (was : IsOrdered old) where
  now : Stays (newest old + 1) (opened old)
  now = opened_keeps old room was

  serves_keeps : (t : Ticket) (o : Option ℕ) (new : Lists) → AtPlace o (Serves t) (opened old) new → Stays (newest old + 1) new
  serves_keeps t None new e = skips_keeps (opened old) new e now
  serves_keeps t (Some place) new e =
      is_keeps (outright Done (fated (keeping (reply_at (opened old) place)) place (handled t place (opened old)))) new e
      (outright_keeps Done (fated (keeping (reply_at (opened old) place)) place (handled t place (opened old))) (fated_keeps (keeping (reply_at (opened old) place)) place (handled t place (opened old)) (handled_keeps t place old room was)))

  delivers_if : (t : Ticket) (b : Bool) (place : ℕ) (new : Lists) → IfServable b (λ m n. Hears (IsGiven m.sight t (reply_at m place)) (fated delivering place (handled t place m)) n) (opened old) new → Stays (newest old + 1) new
  delivers_if t false place new e = skips_keeps (opened old) new e now
  delivers_if t true place new c = hears_keeps (fated delivering place (handled t place (opened old))) new c (fated_keeps delivering place (handled t place (opened old)) (handled_keeps t place old room was))

  delivers_keeps : (t : Ticket) (o : Option ℕ) (new : Lists) → AtPlace o (Delivers t) (opened old) new → Stays (newest old + 1) new
  delivers_keeps t None new e = skips_keeps (opened old) new e now
  delivers_keeps t (Some place) new c = delivers_if t (can_be_served (opened old).mail place) place new c

  pub steps_keep : (deed : Deed) (new : Lists) → IsFine deed → Does deed (opened old) new → Stays (newest old + 1) new
  steps_keep deeds.Nothing new fine s = is_keeps _ new s (outright_keeps Done (opened old) now)
  steps_keep deeds.Connect new fine s = is_keeps _ new s (outright_keeps (Ok Nothing) _ (sight_keeps (connected (opened old).sight) (opened old) (length-set (opened old).sight.stands _ _ ∙ now.ordered.even.stands) refl now))
  steps_keep (deeds.Ask client act) new fine s = calls_asks (begins act) client (opened old) new s now
  steps_keep (deeds.Use x act) new fine s = calls_acts act x (opened old) new s now
  steps_keep (deeds.Happens (happenings.Serve t)) new fine s = serves_keeps t (found_unserved (opened old).mail t) new s
  steps_keep (deeds.Happens (happenings.Answer t)) new fine s = answers_keeps t (found_out (opened old) t) (opened old) new s now
  steps_keep (deeds.Happens (happenings.Deliver t)) new fine s = delivers_keeps t (found_out (opened old) t) new s
  steps_keep (deeds.Happens (happenings.Lose t)) new fine s = loses_keeps (found_out (opened old) t) (opened old) new s now
  steps_keep (deeds.Happens (happenings.Busy t)) new fine s = busy_keeps t (found_out (opened old) t) (opened old) new s now
  steps_keep (deeds.Happens (happenings.Wake t)) new fine s = wakes_keeps (found_asleep (opened old) t) (opened old) new s now
  steps_keep (deeds.Happens (happenings.Split key)) new fine s =
      let stays = split_stays old.store key in
      is_keeps _ new s (outright_keeps _ _ (stored_keeps (split old.store key) (opened old) stays.0 (subst (λ n. n < 2 ^ 44) (sym stays.1) now.ordered.sound.clock) now))
  steps_keep (deeds.Happens (happenings.Lead region store)) new fine s =
      let stays = lead_stays old.store region store in
      is_keeps _ new s (outright_keeps _ _ (stored_keeps (lead old.store region store) (opened old) stays.0 (subst (λ n. n < 2 ^ 44) (sym stays.1) now.ordered.sound.clock) now))
  steps_keep (deeds.Happens (happenings.Clock ms)) new fine s = is_keeps _ new s (outright_keeps Done _ (stored_keeps (at_clock old.store ms) (opened old) refl fine now))
  steps_keep (deeds.Happens (happenings.Crash client)) new fine s = is_keeps _ new s (outright_keeps _ _ (sight_keeps (crash client (opened old).sight) (opened old) now.ordered.even.stands refl now))
