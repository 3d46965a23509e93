-- Each line keeps what is said of the timestamps that are answered.
use Rattle.std.proofs.Common.{◌≡◌, ℕ, zero, suc, ◌<◌, ◌≤◌, ◌⊎◌, inl, inr, Bool, true, false, if◌then◌else◌, List, [], ◌∷◌, ◌++◌, Option, Some, None, length, get_or, set, slice_get, refl, sym, ap, ◌∙◌, subst, arith}
use Rattle.std.specs.List.{All}
use Rattle.std.specs.Option.{option_map}
use Rattle.txn_kv.specs.declared.reply.Reply.{Reply}
use Rattle.txn_kv.specs.declared.reply.Reply.TheVariants as replies
use Rattle.txn_kv.specs.declared.reply.cluster.TsoResponse.{TsoResponse}
use Rattle.txn_kv.specs.declared.request.Request.{Request}
use Rattle.txn_kv.specs.declared.request.Request.TheVariants.{Tso}
use Rattle.txn_kv.specs.declared.request.cluster.TsoRequest.{TsoRequest}
use Rattle.txn_kv.specs.declared.ticket.Ticket.{Ticket}
use Rattle.txn_history.specs.Among.{IsAmong}
use Rattle.txn_history.specs.Busy.{busy_reply}
use Rattle.txn_history.specs.Event.{Event, Has, kept_reply}
use Rattle.txn_history.specs.Event.Event.{Took}
use Rattle.txn_law.specs.Run.{store_after}
use Rattle.txn_lines.specs.Lines.{why_after}
use Rattle.txn_lines.specs.Deeds.{deed_of}
use Rattle.txn_lines.specs.declared.deed.Deed.{Deed}
use Rattle.txn_lines.specs.declared.deed.Deed.TheVariants as deeds
use Rattle.txn_lines.specs.declared.happening.Happening.TheVariants as happenings
use Rattle.txn_lines.specs.declared.line.Line.{Line}
use Rattle.txn_model.specs.Store.{Store}
use Rattle.txn_model.specs.Table.{table}
use Rattle.txn_post.proofs.Mails.{opened_is_mail}
use Rattle.txn_post.proofs.Naming.{opened_leads}
use Rattle.txn_post.specs.Mail.{IsMail, Mail, as_sent, letter_at, place_of}
use Rattle.txn_post.specs.declared.post.Place.TheVariants.{Sent}
use Rattle.txn_report.specs.declared.outcome.Outcome.{Outcome}
use Rattle.txn_report.specs.declared.outcome.Outcome.TheVariants.{Ok, Skipped, Unfinished}
use Rattle.txn_report.specs.declared.outcome.Payload.TheVariants.{Unit as Nothing}
use Rattle.txn_report.specs.declared.report.SentNote.{SentNote}
use Rattle.txn_side.specs.Sight.{AskersAre, Gives, GivesIn, Group, IsAsk, IsGiven, IsOut, Names, Sight, line_count, number_of}
use Rattle.txn_side.specs.declared.turn.Ending.{Ending}
use Rattle.txn_side.specs.declared.turn.Posting.{Posting}
use Rattle.txn_side.specs.declared.turn.Posting.TheVariants.{Send, Sleep}
use Rattle.txn_machine.specs.Causes.{Role, role_of}
use Rattle.txn_machine.specs.Causes.Role.{AsksTime, MakesClient, NoCall, UsesTransaction}
use Rattle.txn_machine.specs.Longer.{done_more, sends_more}
use Rattle.txn_machine.specs.Lists.{Lists, all_ended, all_posted, at_line, ended_at, followed, newest, opened, posted_at, reply_at, request_at, request_in, with_mail}
use Rattle.txn_machine.specs.Rows.{Caused}
use Rattle.txn_machine.specs.Running.{IsOrdered, with_own}
use Rattle.txn_machine.specs.Script.{Folded, does, find, history, outcome_of, refuses, serves, takes, takes_it}
use Rattle.txn_machine.specs.Steps.{done_if}
use Rattle.txn_machine.specs.Times.{IsGrouped, IsTimed, Timely}
use Rattle.txn_machine.proofs.Calms.{or_ended, outcome_opened, outcome_other, same_line}
use Rattle.txn_machine.proofs.Carried.{history_now, keeps, looked, posted_mail as carried_mail}
use Rattle.txn_machine.proofs.Courses.{Begins, Course, Falls, Given, own_done}
use Rattle.txn_machine.proofs.Fates.{Fates, fate_of, fates_opened}
use Rattle.txn_machine.proofs.Finds.{looked_up, same_itself}
use Rattle.txn_machine.proofs.Folds.{Stepped, asked, ended_sight}
use Rattle.txn_machine.proofs.Noting.{among_at}

-- What is noted stays.

among_first : {X : Type 0} (xs ys : List X) (x : X) → IsAmong xs x → IsAmong (xs ++ ys) x
among_first [] ys x h = absurd h
among_first (z ∷ xs) ys x (inl e) = inl e
among_first (z ∷ xs) ys x (inr h) = inr (among_first xs ys x h)

pub among_last : {X : Type 0} (xs : List X) (x : X) → IsAmong (xs ++ x ∷ []) x
among_last [] x = inl refl
among_last (z ∷ xs) x = inr (among_last xs x)

pub posted_among : (at : ℕ) (ps : List Posting) (mail : Mail) (note : SentNote) → IsAmong mail.sent note → IsAmong (all_posted at ps mail).sent note
posted_among at [] mail note h = h
posted_among at (p ∷ ps) mail note h = posted_among at ps (posted_at at p mail) note (one p)
  where
    one : (q : Posting) → IsAmong (posted_at at q mail).sent note
    one (Send t to r askers) = among_first mail.sent (record { ticket = t; at = at; to = to; request = r; askers = askers } ∷ []) note h
    one (Sleep t) = h

grouped_more : (sent more : List SentNote) (g : Group) → ((note : SentNote) → IsAmong sent note → IsAmong more note) → IsGrouped sent g → IsGrouped more g
grouped_more sent more g among w = record { note = w.note; noted = among w.note w.noted; ticket = w.ticket; askers = w.askers; request = w.request; asks = w.asks; since = w.since }

-- what is posted in the step of line `at` is noted there
posted_group : (at count : ℕ) (ps : List Posting) (mail : Mail) (g : Group) (k : ℕ) (x : Posting) → count ≤ at → All (AskersAre count) ps → k < length ps → get_or ps k x ≡ x → IsAsk g x → IsGrouped (all_posted at ps mail).sent g
posted_group at count [] mail g k x few all h e ask = absurd (omega arith)
posted_group at count (p ∷ ps) mail g zero x few all h e ask = grouped_more (posted_at at p mail).sent (all_posted at ps (posted_at at p mail)).sent g (λ note. posted_among at ps (posted_at at p mail) note) (here p (all 0 p (omega arith)) (subst (λ q. IsAsk g q) (sym e) ask))
  where
    here : (q : Posting) → AskersAre count q → IsAsk g q → IsGrouped (posted_at at q mail).sent g
    here (Send t to (Tso r) askers) within is = record {
      note = record { ticket = t; at = at; to = to; request = Tso r; askers = askers };
      noted = among_last mail.sent (record { ticket = t; at = at; to = to; request = Tso r; askers = askers });
      ticket = is.0;
      askers = is.1;
      request = r;
      asks = refl;
      since = λ j d low. let w = within j d low in omega arith;
    }
    here _ within is = absurd is
posted_group at count (p ∷ ps) mail g (suc k) x few all h e ask = posted_group at count ps (posted_at at p mail) g k x few (λ j d low. all (suc j) d (omega arith)) (omega arith) e ask

-- What happened stays.

timed_more : (sent more : List SentNote) (es fs : List Event) (n version : ℕ) → ((note : SentNote) → IsAmong sent note → IsAmong more note) → ((e : Event) → Has es e → Has fs e) → IsTimed sent es n version → IsTimed more fs n version
timed_more sent more es fs n version among has w = record {
  note = w.note;
  noted = among w.note w.noted;
  since = w.since;
  request = w.request;
  asks = w.asks;
  response = w.response;
  taken = has (Took w.note.ticket (Tso w.request) (replies.Tso w.response)) w.taken;
  gives = w.gives;
}

-- Which outcomes name a timestamp.

told_or_was : (xs : List Outcome) (i : ℕ) (o : Outcome) → (get_or (set xs i o) i Unfinished ≡ get_or xs i Unfinished) ⊎ (get_or (set xs i o) i Unfinished ≡ o)
told_or_was [] i o = inl refl
told_or_was (x ∷ xs) zero o = inr refl
told_or_was (x ∷ xs) (suc i) o = told_or_was xs i o

told_here : (outs : List Outcome) (line : ℕ) (o : Outcome) → (outcome_of (at_line outs line o) line ≡ outcome_of outs line) ⊎ (outcome_of (at_line outs line o) line ≡ o)
told_here outs zero o = inl refl
told_here outs (suc i) o = told_or_was outs i o

-- what stands at a line stays where another is told, or is what it is told
pub told_either : (outs : List Outcome) (line n : ℕ) (o : Outcome) → (outcome_of (at_line outs line o) n ≡ outcome_of outs n) ⊎ ((line ≡ n) × (outcome_of (at_line outs line o) n ≡ o))
told_either outs line n o = elim (same_line line n) [
  | inl e ↦ elim (told_here outs line o) [
    | inl was ↦ inl (subst (λ k. outcome_of (at_line outs line o) k ≡ outcome_of outs k) (sym e) was)
    | inr is ↦ inr (sym e, subst (λ k. outcome_of (at_line outs line o) k ≡ o) (sym e) is)
  ]
  | inr far ↦ inl (outcome_other outs line n o far)
]

ended_number : (Gives : ℕ → ℕ → Type 0) (es : List Ending) (l : Lists) (n version : ℕ) → All (Names Gives) es → number_of (outcome_of (all_ended es l).outcomes n) ≡ Some version → (number_of (outcome_of l.outcomes n) ≡ Some version) ⊎ Gives n version
ended_number Gives [] l n version all e = inl e
ended_number Gives (x ∷ es) l n version all e = elim (ended_number Gives es (ended_at x.line x.outcome l) n version (λ k d low. all (suc k) d (omega arith)) e) [
  | inl f ↦ elim (told_either l.outcomes x.line n x.outcome) [
    | inl was ↦ inl (sym (ap number_of was) ∙ f)
    | inr told ↦ inr (subst (λ k. Gives k version) told.0 (all 0 x (omega arith) version (sym (ap number_of told.1) ∙ f)))
  ]
  | inr given ↦ inr given
]

own_number : (own : Option Outcome) (l : Lists) (n version : ℕ) → ((x : Outcome) → own ≡ Some x → number_of x ≡ None) → number_of (outcome_of (with_own own l).outcomes n) ≡ Some version → number_of (outcome_of l.outcomes n) ≡ Some version
own_number None l n version none e = e
own_number (Some x) l n version none e = elim (told_either l.outcomes (newest l) n x) [
  | inl was ↦ sym (ap number_of was) ∙ e
  | inr told ↦ absurd (let a = none x refl in let b = sym (ap number_of told.1) ∙ e in cc)
]

done_number : (d : Bool) → number_of (done_if d) ≡ None
done_number true = refl
done_number false = refl

some_number : (own : Option Outcome) (a x : Outcome) → own ≡ Some a → number_of a ≡ None → own ≡ Some x → number_of x ≡ None
some_number own a x is none e = let same : a ≡ x = cc in sym (ap number_of same) ∙ none

-- no line names one at once
no_number : (r : Role) (deed : Deed) (own : Option Outcome) (ended : List Ending) (s from : Sight) → Begins r deed own ended s from → (x : Outcome) → own ≡ Some x → number_of x ≡ None
no_number MakesClient deed own ended s from h x e = some_number own (Ok Nothing) x h.is refl e
no_number (AsksTime b k) deed own ended s from h x e = elim h [ inl i ↦ some_number own Skipped x i.is refl e | inr a ↦ absurd (let i = a.is in cc) ]
no_number (UsesTransaction b k) deed own ended s from h x e = elim h [ inl i ↦ some_number own Skipped x i.is refl e | inr a ↦ absurd (let i = a.is in cc) ]
no_number NoCall deed own ended s from h x e = some_number own (done_if h.done) x h.is (done_number h.done) e

-- a line itself brings no group out
from_out : (g : Group) (r : Role) (deed : Deed) (own : Option Outcome) (ended : List Ending) (s from : Sight) → Begins r deed own ended s from → IsOut from g → IsOut s g
from_out g MakesClient deed own ended s from h out = let o = subst (λ (x : Sight). IsOut x g) h.begun out in (o.0, sym (or_ended s.groups None o.0) ∙ o.1)
from_out g (AsksTime b k) deed own ended s from h out = elim h [ inl i ↦ subst (λ (x : Sight). IsOut x g) i.same out | inr a ↦ subst (λ (x : Sight). IsOut x g) a.begun out ]
from_out g (UsesTransaction b k) deed own ended s from h out = elim h [ inl i ↦ subst (λ (x : Sight). IsOut x g) i.same out | inr a ↦ subst (λ (x : Sight). IsOut x g) a.begun out ]
from_out g NoCall deed own ended s from h out = falls deed h.done h.falls
  where
    falls : (deed : Deed) (d : Bool) → Falls deed d s from → IsOut s g
    falls (deeds.Happens (happenings.Crash k)) d f = subst (λ (x : Sight). IsOut x g) f.1 out
    falls deed d f = subst (λ (x : Sight). IsOut x g) f out

-- What a line gives was asked for, and its reply is taken.

all_middle : (P : ℕ → Type 0) (xs ys : List ℕ) (n : ℕ) → All P (xs ++ n ∷ ys) → P n
all_middle P [] ys n h = h 0 n (omega arith)
all_middle P (x ∷ xs) ys n h = all_middle P xs ys n (λ k d low. h (suc k) d (omega arith))

gives_time : (o : Reply) (askers : List ℕ) (n version : ℕ) → GivesIn o askers n version → (x : TsoResponse) × (o ≡ replies.Tso x) × Gives x askers n version
gives_time (replies.Tso x) askers n version g = (x, refl, g)
gives_time _ askers n version g = absurd g

-- a note stands where its ticket leads
pub noted_there : (mail : Mail) (note : SentNote) (k : ℕ) → IsMail mail → IsAmong mail.sent note → as_sent (place_of mail.tickets note.ticket) ≡ Some k → slice_get mail.sent k ≡ Some note
noted_there mail note k m among named =
    let r = among_at mail.sent note among in
    let there = m.found note.ticket (Sent r.0) (ap (λ x. option_map (λ (s : SentNote). s.ticket) x) r.1) in
    let one : Some r.0 ≡ Some k = sym (ap as_sent there) ∙ named in
    let same : r.0 ≡ k = cc in
    subst (λ i. slice_get mail.sent i ≡ Some note) same r.1

-- the newest event has happened
pub has_newest : {fs es : List Event} {e : Event} → fs ≡ e ∷ es → Has fs e
has_newest {e = e} is = subst (λ xs. Has xs e) (sym is) (inl refl)

module _ (old : Lists) (es : List Event) (m : IsMail old.mail) (was : Fates es old.mail) (store : old.store ≡ store_after es)
    (looks : Ticket → Option Request) (looked : (t : Ticket) → looks t ≡ looked_up old.mail t) (groups : (g : Group) → IsOut old.sight g → IsGrouped old.mail.sent g) where
  timed_by : (t : Ticket) (o : Reply) (k : ℕ) (fs : List Event) (n version : ℕ) → as_sent (place_of (opened old).mail.tickets t) ≡ Some k → IsGiven (opened old).sight t o n version
      → ((r : TsoRequest) → looks t ≡ Some (Tso r) → request_at (opened old) k ≡ Tso r → Has fs (Took t (Tso r) o)) → IsTimed old.mail.sent fs n version
  timed_by t o k fs n version named given took =
      let w = groups given.group given.out in
      let same : w.note.ticket ≡ t = w.ticket ∙ given.ticket in
      let here : as_sent (place_of old.mail.tickets t) ≡ Some k = ap as_sent (sym (opened_leads old.mail.tickets t)) ∙ named in
      let there = noted_there old.mail w.note k m w.noted (subst (λ u. as_sent (place_of old.mail.tickets u) ≡ Some k) (sym same) here) in
      let asks : request_at (opened old) k ≡ Tso w.request = ap request_in there ∙ w.asks in
      let time = gives_time o given.group.askers n version given.gives in
      let took_it = took w.request (looked t ∙ asked old t k m here ∙ ap (λ r. Some r) asks) asks in
      record {
        note = w.note;
        noted = w.noted;
        since = all_middle (λ j. j ≤ w.note.at) time.2.ahead time.2.behind n (subst (λ ns. All (λ (j : ℕ). j ≤ w.note.at) ns) (w.askers ∙ time.2.lines) w.since);
        request = w.request;
        asks = w.asks;
        response = time.0;
        taken = subst (λ u. Has fs (Took u (Tso w.request) (replies.Tso time.0))) (sym same) (subst (λ q. Has fs (Took t (Tso w.request) q)) time.1 took_it);
        gives = subst (λ ns. Gives time.0 ns n version) (sym w.askers) time.2;
      }

  pub answer_took : (t : Ticket) (o : Reply) (k : ℕ) → as_sent (place_of (opened old).mail.tickets t) ≡ Some k → (letter_at (opened old).mail k).awaited ≡ true → (letter_at (opened old).mail k).kept ≡ Some o
      → (r : Request) → looks t ≡ Some r → takes t (looks t) es ≡ Took t r o ∷ es
  answer_took t o k named waits kept r is =
      let fate = fate_of es (opened old).mail (opened_is_mail old.mail m) (fates_opened es old.mail was) t k named in
      ap (λ q. takes t q es) is ∙ ap (λ q. takes_it t r q es) (fate.kept waits ∙ kept)

  pub deliver_took : (t : Ticket) (o : Reply) (k : ℕ) → o ≡ reply_at (opened old) k → (r : Request) → looks t ≡ Some r → request_at (opened old) k ≡ r → takes t (looks t) (serves t (looks t) es) ≡ Took t r o ∷ serves t (looks t) es
  deliver_took t o k reply r is asks =
      let told : o ≡ (table (store_after es) r).reply = reply ∙ ap (λ q. (table old.store q).reply) asks ∙ ap (λ (s : Store). (table s r).reply) store in
      let here : kept_reply (serves t (Some r) es) t ≡ Some o = ap (λ (b : Bool). if b then Some (table (store_after es) r).reply else kept_reply es t) (same_itself t) ∙ ap (λ x. Some x) (sym told) in
      ap (λ q. takes t q (serves t q es)) is ∙ ap (λ q. takes_it t r q (serves t (Some r) es)) here ∙ ap (λ q. Took t r o ∷ serves t q es) (sym is)

  none_busy : (r : Request) (q : TsoRequest) (o : Reply) → busy_reply r ≡ Some o → r ≡ Tso q → ⊥
  none_busy r q o busy asks = let a : Some o ≡ None = sym busy ∙ ap busy_reply asks in cc

  given_timed : (d : Bool) (deed : Deed) (n version : ℕ) → Given d deed (opened old) n version → IsTimed old.mail.sent (if d then does looks deed es else es) n version
  given_timed false deed n version g = absurd g
  given_timed true (deeds.Happens (happenings.Answer t)) n version g = timed_by t g.reply g.place (takes t (looks t) es) n version g.sent g.given (λ r is asks. has_newest (answer_took t g.reply g.place g.sent g.is.0 g.is.1 (Tso r) is))
  given_timed true (deeds.Happens (happenings.Deliver t)) n version g = timed_by t g.reply g.place (takes t (looks t) (serves t (looks t) es)) n version g.sent g.given (λ r is asks. has_newest (deliver_took t g.reply g.place g.is (Tso r) is asks))
  given_timed true (deeds.Happens (happenings.Busy t)) n version g = timed_by t g.reply g.place (refuses t (looks t) es) n version g.sent g.given (λ r is asks. absurd (none_busy (request_at (opened old) g.place) r g.reply g.is asks))
  given_timed true deed n version g = absurd g

-- The step.

module _ (line : Line) (ls : List Line) (old : Lists) (told : newest old ≡ length ls) (ordered : IsOrdered old) (good : why_after ls line ≡ None) (was : Caused ls old) (folded : Folded ls old)
    (new : Lists) (c : Course (deed_of line) old new) (stepped : Stepped (length ls) (deed_of line) old (followed c.posted c.ended c.mid)) where
  abbrev all : Lists
  all = followed c.posted c.ended c.mid

  abbrev es : List Event
  es = history old.mail.sent old.outcomes ls

  abbrev looks : Ticket → Option Request
  looks t = find all.mail.sent (suc (length ls)) t

  abbrev happened : List Event
  happened = if own_done c.own then does looks (deed_of line) es else es

  abbrev fs : List Event
  fs = history all.mail.sent all.outcomes (line ∷ ls)

  posted_mail : all.mail ≡ all_posted (suc (length ls)) c.posted c.mid.mail
  posted_mail = carried_mail line ls old told ordered good was folded new c stepped

  pub noted_still : (note : SentNote) → IsAmong old.mail.sent note → IsAmong all.mail.sent note
  noted_still note h = subst (λ (x : Mail). IsAmong x.sent note) (sym posted_mail) (posted_among (suc (length ls)) c.posted c.mid.mail note (subst (λ ss. IsAmong ss note) (sym (keeps line ls old told ordered good was folded new c stepped).sent) h))

  -- what had happened, and the line did, is in the history
  pub happened_still : (e : Event) → Has happened e → Has fs e
  happened_still e h = subst (λ es. Has es e) (history_now line ls old told ordered good was folded new c stepped) (sends_more all.mail.sent (suc (length ls)) happened e h)

  module _ (timely : Timely ls old) (stood : length all.sight.stands ≡ suc (length ls)) where
    sight_is : all.sight ≡ c.mid.sight
    sight_is = ended_sight c.ended (with_mail (all_posted (newest c.mid) c.posted c.mid.mail) c.mid)

    -- the clients' lines are those so far
    many : line_count c.from ≤ suc (length ls)
    many = let a = c.goes.count in let b = ap (λ (x : Sight). length x.stands) sight_is in omega arith

    group_now : (g : Group) → IsOut all.sight g → IsGrouped all.mail.sent g
    group_now g out = elim (c.goes.groups g (subst (λ x. IsOut x g) sight_is out)) [
      | inl o ↦ grouped_more old.mail.sent all.mail.sent g noted_still (timely.groups g (from_out g (role_of line) (deed_of line) c.own c.ended (opened old).sight c.from c.begins o))
      | inr a ↦ subst (λ (x : Mail). IsGrouped x.sent g) (sym posted_mail) (posted_group (suc (length ls)) (line_count c.from) c.posted c.mid.mail g a.0 a.1 many c.goes.askers a.2 a.3 a.4)
    ]

    number_before : (n version : ℕ) → number_of (outcome_of c.mid.outcomes n) ≡ Some version → number_of (outcome_of old.outcomes n) ≡ Some version
    number_before n version e =
        sym (ap number_of (outcome_opened old.outcomes n))
        ∙ own_number c.own (opened old) n version (no_number (role_of line) (deed_of line) c.own c.ended (opened old).sight c.from c.begins) (sym (ap (λ os. number_of (outcome_of os n)) c.outcomes) ∙ e)

    time_now : (n version : ℕ) → number_of (outcome_of all.outcomes n) ≡ Some version → IsTimed all.mail.sent fs n version
    time_now n version e = elim (ended_number (Given (own_done c.own) (deed_of line) (opened old)) c.ended (with_mail (all_posted (newest c.mid) c.posted c.mid.mail) c.mid) n version c.times e) [
      | inl f ↦ timed_more old.mail.sent all.mail.sent es fs n version noted_still (λ x h. happened_still x (done_more (own_done c.own) looks (deed_of line) es x h)) (timely.times n version (number_before n version f))
      | inr g ↦ timed_more old.mail.sent all.mail.sent happened fs n version noted_still happened_still
          (given_timed old es ordered.sound.mail was.fates.fates folded.folds.store looks (looked line ls old told ordered good was folded new c stepped) timely.groups (own_done c.own) (deed_of line) n version g)
    ]

    pub timely_now : Timely (line ∷ ls) all
    timely_now = record { groups = group_now; times = time_now }
