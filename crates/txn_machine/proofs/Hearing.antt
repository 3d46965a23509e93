-- What the step of the newest line tells the clients has happened by then.
use Rattle.std.proofs.Common.{◌≡◌, ℕ, ◌⊎◌, inl, inr, Bool, true, false, ◌&&◌, if◌then◌else◌, List, [], ◌∷◌, Option, Some, None, length, is_some, nat_eq, refl, sym, ap, ◌∙◌, subst, arith}
use Rattle.txn_kv.specs.declared.reply.Reply.{Reply}
use Rattle.txn_kv.specs.declared.request.Request.{Request}
use Rattle.txn_kv.specs.declared.request.Request.TheVariants.{Tso}
use Rattle.txn_kv.specs.declared.ticket.Ticket.{Ticket}
use Rattle.txn_history.specs.Among.{IsAmong}
use Rattle.txn_history.specs.Busy.{busy_reply}
use Rattle.txn_history.specs.Event.{Event, Has, kept_reply}
use Rattle.txn_history.specs.Event.Event.{Lost, Refused, Took}
use Rattle.txn_history.specs.Event.Event.{Sent as SentEvent}
use Rattle.txn_law.specs.Run.{store_after}
use Rattle.txn_lines.specs.Deeds.{deed_of}
use Rattle.txn_lines.specs.declared.deed.Deed.{Deed}
use Rattle.txn_lines.specs.declared.deed.Deed.TheVariants as deeds
use Rattle.txn_lines.specs.declared.happening.Happening.TheVariants as happenings
use Rattle.txn_lines.specs.declared.line.Line.{Line}
use Rattle.txn_post.proofs.Naming.{opened_leads}
use Rattle.txn_post.specs.Mail.{IsMail, as_sent, can_be_served, letter_at, place_of}
use Rattle.txn_report.specs.declared.outcome.Outcome.{Outcome}
use Rattle.txn_report.specs.declared.report.SentNote.{SentNote}
use Rattle.txn_side.specs.Sight.{Group, IsOut}
use Rattle.txn_side.specs.Trace.{Begin, Call, ComesFor, HasCome, HasRefused, Refusal, Trace}
use Rattle.txn_machine.specs.Causes.{role_for}
use Rattle.txn_machine.specs.Causes.Role.{NoCall}
use Rattle.txn_machine.specs.Failing.{CanHear, came_by, groups_of}
use Rattle.txn_machine.specs.Lists.{Lists, opened, reply_at, request_at, request_in}
use Rattle.txn_machine.specs.Script.{does, history, is_done, loses, outcome_of, refuses, refuses_it, serves, takes, takes_it, with_sends}
use Rattle.txn_machine.specs.Steps.{does_it, test_at}
use Rattle.txn_machine.specs.Times.{IsGrouped}
use Rattle.txn_machine.proofs.Courses.{out_there}
use Rattle.txn_machine.proofs.Fates.{Fates}
use Rattle.txn_machine.proofs.Finds.{looked_up}
use Rattle.txn_machine.proofs.Folds.{asked}
use Rattle.txn_machine.proofs.Refusing.{AtLeastRefused, IsNewest, refused_newest, refused_next, refused_served}
use Rattle.txn_machine.proofs.Timestamps.{WasAsked}
use Rattle.txn_machine.proofs.Timing.{answer_took, deliver_took, has_newest, noted_there}

-- What was sent is noted.

module _ (u : Ticket) (r : Request) where
  serves_sent : (t : Ticket) (o : Option Request) (es : List Event) → Has (serves t o es) (SentEvent u r) → Has es (SentEvent u r)
  serves_sent t None es h = h
  serves_sent t (Some q) es (inl e) = absurd (cc)
  serves_sent t (Some q) es (inr h) = h

  takes_sent : (t : Ticket) (o : Option Request) (es : List Event) → Has (takes t o es) (SentEvent u r) → Has es (SentEvent u r)
  takes_sent t None es h = h
  takes_sent t (Some q) es h = by (kept_reply es t) h
    where
      by : (k : Option Reply) → Has (takes_it t q k es) (SentEvent u r) → Has es (SentEvent u r)
      by None h = h
      by (Some o) (inl e) = absurd (cc)
      by (Some o) (inr h) = h

  refuses_sent : (t : Ticket) (o : Option Request) (es : List Event) → Has (refuses t o es) (SentEvent u r) → Has es (SentEvent u r)
  refuses_sent t None es h = h
  refuses_sent t (Some q) es h = by (busy_reply q) h
    where
      by : (k : Option Reply) → Has (refuses_it t q k es) (SentEvent u r) → Has es (SentEvent u r)
      by None h = h
      by (Some o) (inl e) = absurd (cc)
      by (Some o) (inr (inl e)) = absurd (cc)
      by (Some o) (inr (inr h)) = h

  loses_sent : (t : Ticket) (o : Option Request) (es : List Event) → Has (loses t o es) (SentEvent u r) → Has es (SentEvent u r)
  loses_sent t None es h = h
  loses_sent t (Some q) es (inl e) = absurd (cc)
  loses_sent t (Some q) es (inr h) = h

  apart_sent : (e : Event) (es : List Event) → (e ≡ SentEvent u r → ⊥) → Has (e ∷ es) (SentEvent u r) → Has es (SentEvent u r)
  apart_sent e es far (inl h) = absurd (far h)
  apart_sent e es far (inr h) = h

  -- a line itself sends nothing
  does_sent : (looks : Ticket → Option Request) (deed : Deed) (es : List Event) → Has (does looks deed es) (SentEvent u r) → Has es (SentEvent u r)
  does_sent looks (deeds.Happens (happenings.Serve t)) es h = serves_sent t (looks t) es h
  does_sent looks (deeds.Happens (happenings.Answer t)) es h = takes_sent t (looks t) es h
  does_sent looks (deeds.Happens (happenings.Deliver t)) es h = serves_sent t (looks t) es (takes_sent t (looks t) (serves t (looks t) es) h)
  does_sent looks (deeds.Happens (happenings.Lose t)) es h = loses_sent t (looks t) es h
  does_sent looks (deeds.Happens (happenings.Busy t)) es h = refuses_sent t (looks t) es h
  does_sent looks (deeds.Happens (happenings.Wake t)) es h = apart_sent _ es (λ e. cc) h
  does_sent looks (deeds.Happens (happenings.Split key)) es h = apart_sent _ es (λ e. cc) h
  does_sent looks (deeds.Happens (happenings.Lead region to)) es h = apart_sent _ es (λ e. cc) h
  does_sent looks (deeds.Happens (happenings.Clock ms)) es h = apart_sent _ es (λ e. cc) h
  does_sent looks (deeds.Happens (happenings.Crash k)) es h = apart_sent _ es (λ e. cc) h
  does_sent looks deed es h = h

  done_sent : (d : Bool) (looks : Ticket → Option Request) (deed : Deed) (es : List Event) → Has (if d then does looks deed es else es) (SentEvent u r) → Has es (SentEvent u r)
  done_sent true looks deed es h = does_sent looks deed es h
  done_sent false looks deed es h = h

  sends_sent : (ss : List SentNote) (n : ℕ) (es : List Event) → Has (with_sends ss n es) (SentEvent u r) → WasAsked ss u r ⊎ Has es (SentEvent u r)
  sends_sent [] n es h = inr h
  sends_sent (s ∷ ss) n es h = elim (sends_sent ss n (if nat_eq s.at n then SentEvent s.ticket s.request ∷ es else es) h) [
    | inl w ↦ inl (w.0, inr w.1, w.2, w.3)
    | inr g ↦ one (nat_eq s.at n) g
  ]
    where
      one : (b : Bool) → Has (if b then SentEvent s.ticket s.request ∷ es else es) (SentEvent u r) → WasAsked (s ∷ ss) u r ⊎ Has es (SentEvent u r)
      one true (inl e) = inl (s, inl refl, cc, cc)
      one true (inr h) = inr h
      one false h = inr h

  pub sent_noted : (sent : List SentNote) (outs : List Outcome) (ls : List Line) → Has (history sent outs ls) (SentEvent u r) → WasAsked sent u r
  sent_noted sent outs [] h = absurd h
  sent_noted sent outs (l ∷ ls) h = elim (sends_sent sent (length (l ∷ ls)) _ h) [
    | inl w ↦ w
    | inr g ↦ sent_noted sent outs ls (done_sent (is_done (outcome_of outs (length (l ∷ ls)))) _ (deed_of l) (history sent outs ls) g)
  ]

-- A group that is noted is among those of the notes.
among_groups : (sent : List SentNote) (g : Group) (note : SentNote) → IsAmong sent note → note.ticket ≡ g.ticket → note.askers ≡ g.askers → IsAmong (groups_of sent) g
among_groups [] g note h ticket askers = absurd h
among_groups (s ∷ ss) g note (inl e) ticket askers = inl (λ i. record { ticket = (ap (λ (s : SentNote). s.ticket) e ∙ ticket) i; askers = (ap (λ (s : SentNote). s.askers) e ∙ askers) i })
among_groups (s ∷ ss) g note (inr h) ticket askers = inr (among_groups ss g note h ticket askers)

-- What comes for a ticket.

module _ (old : Lists) (es : List Event) (m : IsMail old.mail) (was : Fates es old.mail) (store : old.store ≡ store_after es)
    (looks : Ticket → Option Request) (looked : (t : Ticket) → looks t ≡ looked_up old.mail t) (groups : (g : Group) → IsOut old.sight g → IsGrouped old.mail.sent g)
    (noted : (u : Ticket) (r : Request) → Has es (SentEvent u r) → WasAsked old.mail.sent u r) (calls : List Call) (begun : List Begin) (rollbacks : List ℕ) (refused : List Refusal)
    (before : Trace) (counted : (line n : ℕ) → HasRefused before line n → AtLeastRefused (groups_of old.mail.sent) line n es) where
  -- the trace in which this has happened
  abbrev after : Option Ticket → List Event → Trace
  after came fs = record { events = fs; came = came; calls = calls; begun = begun; rollbacks = rollbacks; groups = groups_of old.mail.sent; posted = []; refused = refused; owed = [] }

  -- the event is the newest of these
  abbrev Newest : List Event → Event → Type 0
  Newest fs event = IsNewest (groups_of old.mail.sent) es fs event

  come : (u : Ticket) (k : ℕ) (fs : List Event) (event : Request → Event) → as_sent (place_of (opened old).mail.tickets u) ≡ Some k → ((r : Request) → ComesFor u (event r)) → ((r : Request) → Has fs (SentEvent u r) → Has es (SentEvent u r))
      → ((r : Request) → looks u ≡ Some r → request_at (opened old) k ≡ r → Newest fs (event r)) → HasCome before (after (Some u) fs) (opened old).sight u event
  come u k fs event named comes sent_before happen = record {
    now = refl;
    told = refl;
    own = λ r sent. elim sent [
      | inl h ↦ (let w = noted u r (sent_before r h) in has_newest (by w.0 w.1 w.2 r w.3).is)
      | inr p ↦ absurd (let low = p.2 in omega arith)
    ];
    group = λ g out is.
        let w = groups g out in
        let among = among_groups old.mail.sent g w.note w.noted w.ticket w.askers in
        let newest = by w.note w.noted (w.ticket ∙ is) (Tso w.request) w.asks in
        record {
          among = among;
          request = w.request;
          come = has_newest newest.is;
          more = λ line n h. refused_newest (groups_of old.mail.sent) es fs (event (Tso w.request)) g line n among (subst (λ t. ComesFor t (event (Tso w.request))) (sym is) (comes (Tso w.request))) newest (counted line n h);
        };
  }
    where
      here : as_sent (place_of old.mail.tickets u) ≡ Some k
      here = ap as_sent (sym (opened_leads old.mail.tickets u)) ∙ named

      by : (note : SentNote) → IsAmong old.mail.sent note → note.ticket ≡ u → (r : Request) → note.request ≡ r → Newest fs (event r)
      by note among ticket r request =
          let there = noted_there old.mail note k m among (subst (λ v. as_sent (place_of old.mail.tickets v) ≡ Some k) (sym ticket) here) in
          let asks : request_at (opened old) k ≡ r = ap request_in there ∙ request in
          happen r (looked u ∙ asked old u k m here ∙ ap (λ q. Some q) asks) asks

  answer_newest : (u : Ticket) (o : Reply) (k : ℕ) → as_sent (place_of (opened old).mail.tickets u) ≡ Some k → (letter_at (opened old).mail k).awaited ≡ true → (letter_at (opened old).mail k).kept ≡ Some o
      → (r : Request) → looks u ≡ Some r → Newest (takes u (looks u) es) (Took u r o)
  answer_newest u o k named waits kept r is = record { mid = es; is = answer_took old es m was store looks looked groups u o k named waits kept r is; keeps = λ line n h. h }

  deliver_newest : (u : Ticket) (k : ℕ) (r : Request) → looks u ≡ Some r → request_at (opened old) k ≡ r → Newest (takes u (looks u) (serves u (looks u) es)) (Took u r (reply_at (opened old) k))
  deliver_newest u k r is asks = record {
    mid = serves u (looks u) es;
    is = deliver_took old es m was store looks looked groups u (reply_at (opened old) k) k refl r is asks;
    keeps = λ line n h. refused_served (groups_of old.mail.sent) line n u (looks u) es h;
  }

  refuse_newest : (u : Ticket) (o : Reply) (r : Request) → looks u ≡ Some r → busy_reply r ≡ Some o → Newest (refuses u (looks u) es) (Took u r o)
  refuse_newest u o r is busy = record {
    mid = Refused u r o ∷ es;
    is = ap (λ q. refuses u q es) is ∙ ap (λ q. refuses_it u r q es) busy;
    keeps = λ line n h. refused_next (groups_of old.mail.sent) line n (Refused u r o) es h;
  }

  lose_newest : (u : Ticket) (r : Request) → looks u ≡ Some r → Newest (loses u (looks u) es) (Lost u r)
  lose_newest u r is = record { mid = es; is = ap (λ q. loses u q es) is; keeps = λ line n h. h }

  -- an event that can be done is
  is_undone : (b : Bool) → false ≡ b → b ≡ true → ⊥
  is_undone b e f = absurd (cc)

  pub can_hear : (d : Bool) (deed : Deed) → (role_for deed ≡ NoCall → d ≡ does_it deed (opened old)) → CanHear deed (opened old) before (after (came_by deed) (if d then does looks deed es else es))
  can_hear true (deeds.Happens (happenings.Answer u)) sure = λ k o found kept.
      let there = out_there old u k found in
      come u k (takes u (looks u) es) (λ r. Took u r o) there.0 (λ r. refl) (λ r h. takes_sent u r u (looks u) es h) (λ r is asks. answer_newest u o k there.0 there.1 kept r is)
  can_hear true (deeds.Happens (happenings.Deliver u)) sure = λ k found can.
      let there = out_there old u k found in
      come u k (takes u (looks u) (serves u (looks u) es)) (λ r. Took u r (reply_at (opened old) k)) there.0 (λ r. refl) (λ r h. serves_sent u r u (looks u) es (takes_sent u r u (looks u) (serves u (looks u) es) h))
      (λ r is asks. deliver_newest u k r is asks)
  can_hear true (deeds.Happens (happenings.Busy u)) sure = λ k o found can busy.
      let there = out_there old u k found in
      come u k (refuses u (looks u) es) (λ r. Took u r o) there.0 (λ r. refl) (λ r h. refuses_sent u r u (looks u) es h) (λ r is asks. refuse_newest u o r is (ap busy_reply (sym asks) ∙ busy))
  can_hear true (deeds.Happens (happenings.Lose u)) sure = λ k found.
      let there = out_there old u k found in
      come u k (loses u (looks u) es) (λ r. Lost u r) there.0 (λ r. refl) (λ r h. loses_sent u r u (looks u) es h) (λ r is asks. lose_newest u r is)
  can_hear false (deeds.Happens (happenings.Answer u)) sure = λ k o found kept.
      absurd (is_undone (does_it (deeds.Happens (happenings.Answer u)) (opened old)) (sure refl) (ap (λ z. test_at (λ j. is_some (letter_at (opened old).mail j).kept) z) found ∙ ap is_some kept))
  can_hear false (deeds.Happens (happenings.Deliver u)) sure = λ k found can.
      absurd (is_undone (does_it (deeds.Happens (happenings.Deliver u)) (opened old)) (sure refl) (ap (λ z. test_at (λ j. can_be_served (opened old).mail j) z) found ∙ can))
  can_hear false (deeds.Happens (happenings.Busy u)) sure = λ k o found can busy.
      absurd (is_undone (does_it (deeds.Happens (happenings.Busy u)) (opened old)) (sure refl) (ap (λ z. test_at (λ j. can_be_served (opened old).mail j && is_some (busy_reply (request_at (opened old) j))) z) found ∙ (λ i. can i && is_some (busy i))))
  can_hear false (deeds.Happens (happenings.Lose u)) sure = λ k found.
      absurd (is_undone (does_it (deeds.Happens (happenings.Lose u)) (opened old)) (sure refl) (ap (λ z. test_at (λ j. true) z) found))
  can_hear d deed sure = tt
