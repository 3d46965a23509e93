-- What is sent and what ends in a step is what its note tells.
use Rattle.std.proofs.Common.{◌≡◌, ◌≢◌, ℕ, zero, suc, ◌+◌, ◌-◌, ◌<◌, ◌≤◌, inl, inr, Bool, true, false, ◌&&◌, if◌then◌else◌, List, [], ◌∷◌, ◌++◌, Option, Some, None, length, map, set, nat_eq, refl, sym, ap, ◌∙◌, subst, arith, append-nil, length-append, length-set}
use Rattle.std.proofs.lemmas.List.{append_assoc}
use Rattle.std.proofs.lemmas.Bool.Decides.{nat_tests}
use Rattle.std.specs.List.{All, filter}
use Rattle.std.specs.List.Sorted.{IsNonDecreasing, IsPermutation}
use Rattle.txn_kv.specs.declared.ticket.Ticket.{Ticket}
use Rattle.txn_post.specs.Mail.{Mail}
use Rattle.txn_report.specs.OutcomeView.{view_of_outcome}
use Rattle.txn_report.specs.declared.outcome.Outcome.{Outcome}
use Rattle.txn_report.specs.declared.outcome.Outcome.TheVariants.{Done, Err, Ok, Skipped, Unfinished}
use Rattle.txn_report.specs.declared.report.SentNote.{SentNote}
use Rattle.txn_report.specs.declared.report.SleepNote.{SleepNote}
use Rattle.txn_side.specs.Sight.{Acts, AskEnds, Asks, CallEnds, Goes, LineGoes, Sight, Stand, StaysOrEnds, commits, line_count, outcomes_of, stand_at, ticket_in, with_stand}
use Rattle.txn_side.specs.Sight.Stand.{Asking, Calling, HasBegun, Idle, IsClient, Past, Working}
use Rattle.txn_lines.specs.declared.act.Act.{Act}
use Rattle.txn_side.specs.declared.turn.Ending.{Ending}
use Rattle.txn_side.specs.declared.turn.Posting.{Posting}
use Rattle.txn_side.specs.declared.turn.Posting.TheVariants.{Send, Sleep}
use Rattle.txn_side.specs.declared.turn.Turn.{Turn}
use Rattle.txn_machine.specs.Causes.{ended_of}
use Rattle.txn_machine.specs.Lists.{Lists, all_ended, all_posted, ended_at, newest, opened, outright, posted_at, with_mail}
use Rattle.txn_machine.specs.Running.{IsEven, IsOrdered, closed, with_own}
use Rattle.txn_machine.specs.Script.{outcome_of}
use Rattle.txn_machine.specs.Steps.{ended_in}
use Rattle.txn_machine.specs.Told.{CanTell, EndOnce, EndsOnce, IsNote, IsNoteOf, Joins, OwnEnds, answered_in, ending_at, is_answer, lines_from, sent_in, slept_in}
use Rattle.txn_machine.specs.declared.done.Done.{Done as Course}
use Rattle.txn_machine.specs.declared.note.StepNote.{StepNote}
use Rattle.txn_machine.proofs.Calms.{or_past, outcome_same, same_line}
use Rattle.txn_machine.proofs.Folds.{ended_mail}
use Rattle.txn_machine.proofs.Goings.{Written, written}
use Rattle.txn_machine.proofs.Numberings.{ended_opened, ended_other}
use Rattle.txn_machine.proofs.Orders.{line_length, opened_count}
use Rattle.txn_machine.proofs.Ranking.{count, count_same, is_below, sorted_is}

and_false : (a : Bool) → a && false ≡ false
and_false true = refl
and_false false = refl

-- What is posted.

abbrev requests_in : List Posting → List Ticket
requests_in [] = []
requests_in (Send t to r askers ∷ ps) = t ∷ requests_in ps
requests_in (Sleep t ∷ ps) = requests_in ps

abbrev sleeps_in : List Posting → List Ticket
sleeps_in [] = []
sleeps_in (Send t to r askers ∷ ps) = sleeps_in ps
sleeps_in (Sleep t ∷ ps) = t ∷ sleeps_in ps

joined : (ps : List Posting) → Joins (map ticket_in ps) (requests_in ps) (sleeps_in ps)
joined [] = (refl, refl)
joined (Send t to r askers ∷ ps) = inl (requests_in ps, refl, joined ps)
joined (Sleep t ∷ ps) = inr (sleeps_in ps, refl, joined ps)

push_sent : (at : ℕ) (ss : List SentNote) (s : SentNote) → s.at ≡ at → sent_in at (ss ++ s ∷ []) ≡ sent_in at ss ++ s.ticket ∷ []
push_sent at [] s e =
    let q : nat_eq s.at at ≡ true = grind (arith, nat_tests) in
    ap (λ (b : Bool). map (λ (x : SentNote). x.ticket) (if b then s ∷ [] else [])) q
push_sent at (x ∷ ss) s e = by (nat_eq x.at at) (push_sent at ss s e)
  where
    by : (b : Bool) → sent_in at (ss ++ s ∷ []) ≡ sent_in at ss ++ s.ticket ∷ []
        → map (λ (x : SentNote). x.ticket) (if b then x ∷ filter (λ (x : SentNote). nat_eq x.at at) (ss ++ s ∷ []) else filter (λ (x : SentNote). nat_eq x.at at) (ss ++ s ∷ []))
        ≡ map (λ (x : SentNote). x.ticket) (if b then x ∷ filter (λ (x : SentNote). nat_eq x.at at) ss else filter (λ (x : SentNote). nat_eq x.at at) ss) ++ s.ticket ∷ []
    by true h = ap (λ ts. x.ticket ∷ ts) h
    by false h = h

push_slept : (at : ℕ) (ss : List SleepNote) (s : SleepNote) → s.at ≡ at → slept_in at (ss ++ s ∷ []) ≡ slept_in at ss ++ s.ticket ∷ []
push_slept at [] s e =
    let q : nat_eq s.at at ≡ true = grind (arith, nat_tests) in
    ap (λ (b : Bool). map (λ (x : SleepNote). x.ticket) (if b then s ∷ [] else [])) q
push_slept at (x ∷ ss) s e = by (nat_eq x.at at) (push_slept at ss s e)
  where
    by : (b : Bool) → slept_in at (ss ++ s ∷ []) ≡ slept_in at ss ++ s.ticket ∷ []
        → map (λ (x : SleepNote). x.ticket) (if b then x ∷ filter (λ (x : SleepNote). nat_eq x.at at) (ss ++ s ∷ []) else filter (λ (x : SleepNote). nat_eq x.at at) (ss ++ s ∷ []))
        ≡ map (λ (x : SleepNote). x.ticket) (if b then x ∷ filter (λ (x : SleepNote). nat_eq x.at at) ss else filter (λ (x : SleepNote). nat_eq x.at at) ss) ++ s.ticket ∷ []
    by true h = ap (λ ts. x.ticket ∷ ts) h
    by false h = h

sent_posted : (at : ℕ) (ps : List Posting) (mail : Mail) → sent_in at (all_posted at ps mail).sent ≡ sent_in at mail.sent ++ requests_in ps
sent_posted at [] mail = sym (append-nil (sent_in at mail.sent))
sent_posted at (Send t to r askers ∷ ps) mail =
    sent_posted at ps (posted_at at (Send t to r askers) mail) ∙ ap (λ ts. ts ++ requests_in ps) (push_sent at mail.sent (record { ticket = t; at = at; to = to; request = r; askers = askers }) refl)
    ∙ append_assoc (sent_in at mail.sent) (t ∷ []) (requests_in ps)
sent_posted at (Sleep t ∷ ps) mail = sent_posted at ps (posted_at at (Sleep t) mail)

slept_posted : (at : ℕ) (ps : List Posting) (mail : Mail) → slept_in at (all_posted at ps mail).sleeps ≡ slept_in at mail.sleeps ++ sleeps_in ps
slept_posted at [] mail = sym (append-nil (slept_in at mail.sleeps))
slept_posted at (Send t to r askers ∷ ps) mail = slept_posted at ps (posted_at at (Send t to r askers) mail)
slept_posted at (Sleep t ∷ ps) mail =
    slept_posted at ps (posted_at at (Sleep t) mail) ∙ ap (λ ts. ts ++ sleeps_in ps) (push_slept at mail.sleeps (record { ticket = t; at = at }) refl)
    ∙ append_assoc (slept_in at mail.sleeps) (t ∷ []) (sleeps_in ps)

none_sent : (at least most : ℕ) (ss : List SentNote) → most < at → All (λ (a : ℕ). (least ≤ a) × (a ≤ most)) (map (λ (s : SentNote). s.at) ss) → sent_in at ss ≡ []
none_sent at least most [] low h = refl
none_sent at least most (s ∷ ss) low h =
    let a : s.at ≤ most = (h 0 0 (omega arith)).1 in
    let q : nat_eq s.at at ≡ false = grind (arith, nat_tests) in
    ap (λ (b : Bool). map (λ (x : SentNote). x.ticket) (if b then s ∷ filter (λ (x : SentNote). nat_eq x.at at) ss else filter (λ (x : SentNote). nat_eq x.at at) ss)) q
    ∙ none_sent at least most ss low (λ k d l. h (suc k) d (omega arith))

none_slept : (at least most : ℕ) (ss : List SleepNote) → most < at → All (λ (a : ℕ). (least ≤ a) × (a ≤ most)) (map (λ (s : SleepNote). s.at) ss) → slept_in at ss ≡ []
none_slept at least most [] low h = refl
none_slept at least most (s ∷ ss) low h =
    let a : s.at ≤ most = (h 0 0 (omega arith)).1 in
    let q : nat_eq s.at at ≡ false = grind (arith, nat_tests) in
    ap (λ (b : Bool). map (λ (x : SleepNote). x.ticket) (if b then s ∷ filter (λ (x : SleepNote). nat_eq x.at at) ss else filter (λ (x : SleepNote). nat_eq x.at at) ss)) q
    ∙ none_slept at least most ss low (λ k d l. h (suc k) d (omega arith))

pub posted_joins : (at : ℕ) (ps : List Posting) (mail : Mail) → sent_in at mail.sent ≡ [] → slept_in at mail.sleeps ≡ [] → Joins (map ticket_in ps) (sent_in at (all_posted at ps mail).sent) (slept_in at (all_posted at ps mail).sleeps)
posted_joins at ps mail a b =
    subst (λ ts. Joins (map ticket_in ps) ts (slept_in at (all_posted at ps mail).sleeps)) (sym (sent_posted at ps mail ∙ ap (λ ts. ts ++ requests_in ps) a))
    (subst (λ ts. Joins (map ticket_in ps) (requests_in ps) ts) (sym (slept_posted at ps mail ∙ ap (λ ts. ts ++ sleeps_in ps) b)) (joined ps))

-- What ends.

ask_answers : (c : ℕ) (b : Bool) (o : Outcome) (new : Stand) → AskEnds c b o new → is_answer o ≡ true
ask_answers c b (Ok p) new g = refl
ask_answers c b (Err e) new g = refl
ask_answers c true Unfinished new g = absurd g
ask_answers c false Unfinished new g = absurd g
ask_answers c true Done new g = absurd g
ask_answers c false Done new g = absurd g
ask_answers c true Skipped new g = absurd g
ask_answers c false Skipped new g = absurd g

call_answers : (c : ℕ) (b : Bool) (o : Outcome) (new : Stand) → CallEnds c b o new → is_answer o ≡ true
call_answers c b (Ok p) new g = refl
call_answers c b (Err e) new g = refl
call_answers c true Unfinished new g = absurd g
call_answers c false Unfinished new g = absurd g
call_answers c true Done new g = absurd g
call_answers c false Done new g = absurd g
call_answers c true Skipped new g = absurd g
call_answers c false Skipped new g = absurd g

stays_once : (n k : ℕ) (os : List Outcome) (old new : Stand) (Ends : Outcome → Stand → Type 0) → (1 ≤ k) × (k ≤ n) → ((o : Outcome) → Ends o new → is_answer o ≡ true) → StaysOrEnds old Ends os new → EndOnce n k os
stays_once n k [] old new Ends range answers g = tt
stays_once n k (o ∷ []) old new Ends range answers g = (range.0, range.1, answers o g)
stays_once n k (o ∷ p ∷ os) old new Ends range answers g = absurd g

none_once : (n k : ℕ) (os : List Outcome) → os ≡ [] → EndOnce n k os
none_once n k os e = subst (λ xs. EndOnce n k xs) (sym e) tt

some_stand : (stands : List Stand) (k : ℕ) → stand_at stands k ≢ Idle → (1 ≤ k) × (k ≤ length stands)
some_stand stands zero h = absurd (h refl)
some_stand stands (suc i) h = elim (is_below i (length stands)) [ inl a ↦ (omega arith, omega arith) | inr a ↦ absurd (h (or_past stands Idle i a)) ]

line_once : (ended : List Ending) (n k : ℕ) (old new : Stand) → (old ≢ Idle → (1 ≤ k) × (k ≤ n)) → LineGoes ended k old new → EndOnce n k (outcomes_of k ended)
line_once ended n k (Asking c b) new range g = stays_once n k (outcomes_of k ended) (Asking c b) new (AskEnds c b) (range (λ e. cc)) (λ o h. ask_answers c b o new h) g
line_once ended n k (Calling c x b) new range g = stays_once n k (outcomes_of k ended) (Calling c x b) new (CallEnds c b) (range (λ e. cc)) (λ o h. call_answers c b o new h) g
line_once ended n k (HasBegun c m) new range g = none_once n k (outcomes_of k ended) g.0
line_once ended n k Idle new range g = none_once n k (outcomes_of k ended) g.0
line_once ended n k (IsClient c) new range g = none_once n k (outcomes_of k ended) g.0
line_once ended n k (Past c) new range g = none_once n k (outcomes_of k ended) g.0
line_once ended n k (Working c) new range g = none_once n k (outcomes_of k ended) g.0

pub goes_once : (posted : List Posting) (ended : List Ending) (from to : Sight) (n : ℕ) → Goes posted ended from to → length from.stands ≡ n → EndsOnce n ended
goes_once posted ended from to n goes e k = line_once ended n k (stand_at from.stands k) (stand_at to.stands k) (λ h. let a = some_stand from.stands k h in (a.0, omega arith)) (goes.lines k)

pub none_ends : (n : ℕ) (ended : List Ending) → ended ≡ [] → EndsOnce n ended
none_ends n ended e = subst (λ es. EndsOnce n es) (sym e) (λ k. tt)

pub one_ends : (n : ℕ) (ended : List Ending) (o : Outcome) → 1 ≤ n → is_answer o ≡ true → ended ≡ record { line = n; outcome = o } ∷ [] → EndsOnce n ended
one_ends n ended o low answer e = subst (λ es. EndsOnce n es) (sym e) (λ k. by k (nat_eq n k) refl)
  where
    by : (k : ℕ) (b : Bool) → nat_eq n k ≡ b → EndOnce n k (map (λ (x : Ending). x.outcome) (if b then record { line = n; outcome = o } ∷ [] else []))
    by k true q = let same : n ≡ k = grind (arith, nat_tests) in (omega arith, omega arith, answer)
    by k false q = tt

-- Which calls ended.

count_endings : (k : ℕ) (es : List Ending) → count k (map (λ (e : Ending). e.line) es) ≡ length (outcomes_of k es)
count_endings k [] = refl
count_endings k (e ∷ es) = by (nat_eq e.line k) (count_endings k es)
  where
    by : (b : Bool) → count k (map (λ (e : Ending). e.line) es) ≡ length (outcomes_of k es) → (if b then 1 else 0) + count k (map (λ (e : Ending). e.line) es) ≡ length (map (λ (x : Ending). x.outcome) (if b then e ∷ filter (λ (x : Ending). nat_eq x.line k) es else filter (λ (x : Ending). nat_eq x.line k) es))
    by true h = omega arith
    by false h = omega arith

module _ (l : Lists) (es : List Ending) (lines : List ℕ) (even : length l.ended ≡ newest l) (once : EndsOnce (newest l) es)
    (quiet : (k : ℕ) → answered_in (newest l) l.outcomes l.ended k ≡ false)
    (moved : IsPermutation (map (λ (e : Ending). e.line) es) lines) (rises : IsNonDecreasing lines)
  where
    abbrev now : ℕ → Bool
    now k = answered_in (newest l) (all_ended es l).outcomes (all_ended es l).ended k

    counted : (k : ℕ) → count k lines ≡ length (outcomes_of k es)
    counted k = count_same k (map (λ (e : Ending). e.line) es) lines moved ∙ count_endings k es

    far : (k : ℕ) → ((1 ≤ k) × (k ≤ newest l) → ⊥) → count k lines ≡ 0
    far k off = counted k ∙ by (outcomes_of k es) (once k)
      where
        by : (os : List Outcome) → EndOnce (newest l) k os → length os ≡ 0
        by [] h = refl
        by (o ∷ []) h = absurd (off (h.0, h.1))
        by (o ∷ p ∷ os) h = absurd h

    near : (k : ℕ) → count k lines ≡ (if now k then 1 else 0)
    near k = counted k ∙ by (outcomes_of k es) (once k) (written es l k even)
      where
        by : (os : List Outcome) → EndOnce (newest l) k os → Written k (newest l) os (outcome_of l.outcomes k) (ended_of l.ended k) (outcome_of (all_ended es l).outcomes k) (ended_of (all_ended es l).ended k) → length os ≡ (if now k then 1 else 0)
        by [] h w = sym (ap (λ (b : Bool). if b then 1 else 0) ((λ i. nat_eq (w.1 i) (newest l) && is_answer (w.0 i)) ∙ quiet k))
        by (o ∷ []) h w =
            let z = w h.0 h.1 in
            let q : nat_eq (newest l) (newest l) ≡ true = grind (arith, nat_tests) in
            sym (ap (λ (b : Bool). if b then 1 else 0) ((λ i. nat_eq (z.1 i) (newest l) && is_answer (z.0 i)) ∙ (λ i. q i && h.2 i)))
        by (o ∷ p ∷ os) h w = absurd h

    pub lines_are : lines ≡ filter now (lines_from 1 (newest l))
    lines_are = sorted_is now 1 (newest l) lines rises (λ k h. far k (λ r. let a = r.0 in omega arith)) (λ k h. far k (λ r. let a = r.1 in omega arith)) (λ k a b. near k)

-- the line's own outcome is no answer, and no other came in this step yet
quiet_own : (own : Option Outcome) (l : Lists) → 1 ≤ newest l → length l.ended ≡ newest l → ((k : ℕ) → ended_of l.ended k < newest l) → OwnEnds own → (k : ℕ) → answered_in (newest l) (with_own own l).outcomes (with_own own l).ended k ≡ false
quiet_own None l some even past none k =
    let a = past k in
    let q : nat_eq (ended_of l.ended k) (newest l) ≡ false = grind (arith, nat_tests) in
    ap (λ b. b && is_answer (outcome_of l.outcomes k)) q
quiet_own (Some o) l some even past none k = elim (same_line (newest l) k) [
  | inl here ↦
      subst (λ j. nat_eq (ended_of (outright o l).ended j) (newest l) && is_answer (outcome_of (outright o l).outcomes j) ≡ false) (sym here)
      (ap (λ x. nat_eq (ended_of (outright o l).ended (newest l)) (newest l) && is_answer x) (outcome_same l.outcomes (newest l) o some (omega arith)) ∙ ap (λ b. nat_eq (ended_of (outright o l).ended (newest l)) (newest l) && b) none ∙ and_false (nat_eq (ended_of (outright o l).ended (newest l)) (newest l)))
  | inr off ↦
      let a = past k in
      let q : nat_eq (ended_of l.ended k) (newest l) ≡ false = grind (arith, nat_tests) in
      ap (λ e. nat_eq e (newest l) && is_answer (outcome_of (outright o l).outcomes k)) (ended_other l.ended (newest l) k (newest l) off) ∙ ap (λ b. b && is_answer (outcome_of (outright o l).outcomes k)) q
]

all_count : (es : List Ending) (l : Lists) → newest (all_ended es l) ≡ newest l
all_count [] l = refl
all_count (e ∷ es) l = all_count es (ended_at e.line e.outcome l) ∙ line_length l.outcomes e.line e.outcome

-- The note.

module _ (older l : Lists) (done : Course) (ordered : IsOrdered older) (past : (k : ℕ) → ended_of older.ended k ≤ newest older) (can : CanTell (opened older) done l) where
  abbrev ended : List Ending
  ended = done.turn.ended.items

  abbrev mid : Lists
  mid = with_own done.outcome l

  abbrev over : Lists
  over = with_mail (all_posted (newest mid) done.turn.posted.items mid.mail) mid

  count_l : newest l ≡ newest older + 1
  count_l = ap (λ os. length os) can.outcomes ∙ opened_count older

  own_count : (own : Option Outcome) → newest (with_own own l) ≡ newest l
  own_count None = refl
  own_count (Some o) = line_length l.outcomes (newest l) o

  own_mail : (own : Option Outcome) → (with_own own l).mail ≡ l.mail
  own_mail None = refl
  own_mail (Some o) = refl

  even : length l.ended ≡ newest l
  even = ap (λ es. length es) can.ended ∙ length-append older.ended (0 ∷ []) ∙ (let a = ordered.even.ended in let b = count_l in omega arith)

  own_even : (own : Option Outcome) → length (with_own own l).ended ≡ newest (with_own own l)
  own_even None = even
  own_even (Some o) = line_length l.ended (newest l) (newest l) ∙ even ∙ sym (line_length l.outcomes (newest l) o)

  before : (k : ℕ) → ended_of l.ended k < newest l
  before k =
      let a : ended_of l.ended k ≡ ended_of older.ended k = ap (λ es. ended_of es k) can.ended ∙ ended_opened older.ended k in
      let b = past k in
      let c = count_l in
      omega arith

  quiet : (k : ℕ) → answered_in (newest mid) mid.outcomes mid.ended k ≡ false
  quiet k = ap (λ n. answered_in n mid.outcomes mid.ended k) (own_count done.outcome) ∙ quiet_own done.outcome l (let a = count_l in omega arith) even before can.own k

  once : EndsOnce (newest mid) ended
  once = subst (λ n. EndsOnce n ended) (sym (own_count done.outcome)) can.once

  closed_count : newest (closed done l) ≡ newest mid
  closed_count = all_count ended over

  unsent : sent_in (newest mid) mid.mail.sent ≡ []
  unsent = ap (λ (x : Mail). sent_in (newest mid) x.sent) (own_mail done.outcome) ∙ ap (λ ss. sent_in (newest mid) ss) can.sent
      ∙ none_sent (newest mid) 0 (newest older) older.mail.sent (let a = own_count done.outcome in let b = count_l in omega arith) ordered.sound.order.sent.within

  unslept : slept_in (newest mid) mid.mail.sleeps ≡ []
  unslept = ap (λ (x : Mail). slept_in (newest mid) x.sleeps) (own_mail done.outcome) ∙ ap (λ ss. slept_in (newest mid) ss) can.sleeps
      ∙ none_slept (newest mid) 0 (newest older) older.mail.sleeps (let a = own_count done.outcome in let b = count_l in omega arith) ordered.sound.order.sleeps.within

  joins : Joins (map ticket_in done.turn.posted.items) (sent_in (newest (closed done l)) (closed done l).mail.sent) (slept_in (newest (closed done l)) (closed done l).mail.sleeps)
  joins =
      let both = posted_joins (newest mid) done.turn.posted.items mid.mail unsent unslept in
      let mail = sym (ended_mail ended over) in
      subst (λ n. Joins (map ticket_in done.turn.posted.items) (sent_in n (closed done l).mail.sent) (slept_in n (closed done l).mail.sleeps)) (sym closed_count)
      (subst (λ (x : Mail). Joins (map ticket_in done.turn.posted.items) (sent_in (newest mid) x.sent) (slept_in (newest mid) x.sleeps)) mail both)

  note_closed : (note : StepNote) → IsNoteOf done l (closed done l) note → IsNote (closed done l) note
  note_closed note h = record {
    place = place;
    outcome = h.outcome ∙ ap (λ k. view_of_outcome (outcome_of (closed done l).outcomes k)) place;
    sent = subst (λ ts. Joins ts (sent_in (newest (closed done l)) (closed done l).mail.sent) (slept_in (newest (closed done l)) (closed done l).mail.sleeps)) (sym h.sent) joins;
    ended = h.ended ∙ ap (λ ks. map (λ line. ending_at (closed done l).outcomes line) ks)
        (lines_are over ended h.lines (own_even done.outcome) once quiet h.moved h.rises
        ∙ ap (λ n. filter (λ line. answered_in n (closed done l).outcomes (closed done l).ended line) (lines_from 1 n)) (sym closed_count));
  }
    where
      place : note.place ≡ newest (closed done l)
      place = h.place ∙ sym (own_count done.outcome) ∙ sym closed_count

pub note_is : (older start l new : Lists) (done : Course) (note : StepNote) → start ≡ opened older → new ≡ closed done l → IsOrdered older → ((k : ℕ) → ended_of older.ended k ≤ newest older) → CanTell start done l → IsNoteOf done l new note → IsNote new note
note_is older start l new done note a b ordered past can h =
    subst (λ x. IsNote x note) (sym b) (note_closed older l done ordered past (subst (λ x. CanTell x done l) a can) note (subst (λ x. IsNoteOf done l x note) b h))

-- What each function adds.

-- the lists have yet what was sent and had ended before
pub record Leaves (old l : Lists) : Type 0 where
  pub outcomes : l.outcomes ≡ old.outcomes
  pub ended : l.ended ≡ old.ended
  pub sent : l.mail.sent ≡ old.mail.sent
  pub sleeps : l.mail.sleeps ≡ old.mail.sleeps

pub leaves_same : (old l : Lists) → l.outcomes ≡ old.outcomes → l.ended ≡ old.ended → l.mail ≡ old.mail → Leaves old l
leaves_same old l a b c = record { outcomes = a; ended = b; sent = ap (λ (x : Mail). x.sent) c; sleeps = ap (λ (x : Mail). x.sleeps) c }

module _ (old l : Lists) (done : Course) (leaves : Leaves old l) where
  tell : OwnEnds done.outcome → EndsOnce (newest l) done.turn.ended.items → CanTell old done l
  tell own once = record { outcomes = leaves.outcomes; ended = leaves.ended; sent = leaves.sent; sleeps = leaves.sleeps; own = own; once = once }

  same_count : newest l ≡ newest old
  same_count = ap (λ os. length os) leaves.outcomes

  pub tell_none : OwnEnds done.outcome → done.turn.ended.items ≡ [] → CanTell old done l
  tell_none own none = tell own (none_ends (newest l) done.turn.ended.items none)

  pub tell_goes : (posted : List Posting) (ended : List Ending) (from : Sight) → Goes posted ended from l.sight → length from.stands ≡ newest old → OwnEnds done.outcome → done.turn.ended.items ≡ ended → CanTell old done l
  tell_goes posted ended from goes count own is = tell own (subst (λ es. EndsOnce (newest l) es) (sym is) (goes_once posted ended from l.sight (newest l) goes (count ∙ sym same_count)))

  pub tell_asks : (b : Bool) (k : ℕ) (turn : Option Turn) → Asks b k old.sight l.sight turn → IsEven old → OwnEnds done.outcome → done.turn.ended.items ≡ ended_in turn → CanTell old done l
  tell_asks b k None a even own is = tell_none own is
  tell_asks b k (Some turn) a even own is = tell_goes turn.posted.items turn.ended.items (with_stand (line_count old.sight) (Asking a.0 b) old.sight) a.3
      (length-set old.sight.stands (line_count old.sight - 1) (Asking a.0 b) ∙ even.stands) own is

  pub tell_acts : (act : Act) (x : ℕ) (turn : Option Turn) → Acts act x old.sight l.sight turn → IsEven old → OwnEnds done.outcome → done.turn.ended.items ≡ ended_in turn → CanTell old done l
  tell_acts act x None a even own is = tell_none own is
  tell_acts act x (Some turn) a even own is = tell_goes turn.posted.items turn.ended.items (with_stand (line_count old.sight) (Calling a.0 x (commits act)) (with_stand x (HasBegun a.0 (line_count old.sight)) old.sight)) a.3
      (length-set (set old.sight.stands (x - 1) (HasBegun a.0 (line_count old.sight))) (line_count old.sight - 1) (Calling a.0 x (commits act)) ∙ length-set old.sight.stands (x - 1) (HasBegun a.0 (line_count old.sight)) ∙ even.stands) own is

  pub tell_made : (o : Outcome) → 1 ≤ newest old → is_answer o ≡ true → OwnEnds done.outcome → done.turn.ended.items ≡ record { line = newest old; outcome = o } ∷ [] → CanTell old done l
  tell_made o low answer own is = tell own (one_ends (newest l) done.turn.ended.items o (let a = same_count in omega arith) answer (is ∙ ap (λ n. record { line = n; outcome = o } ∷ []) (sym same_count)))

pub tell_came : (old l : Lists) (done : Course) → Leaves old l → (turn : Turn) → Goes turn.posted.items turn.ended.items old.sight l.sight → length old.sight.stands ≡ newest old → done.outcome ≡ Some Done → done.turn ≡ turn → CanTell old done l
tell_came old l done leaves turn goes count own is = tell_goes old l done leaves turn.posted.items turn.ended.items old.sight goes count (subst (λ o. OwnEnds o) (sym own) refl) (ap (λ (t : Turn). t.ended.items) is)
