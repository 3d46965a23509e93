-- From the lists to the machine.
use Rattle.std.proofs.Common.{◌≡◌, ℕ, zero, suc, ◌+◌, ◌-◌, ◌<◌, ◌≤◌, Bool, true, false, if◌then◌else◌, List, [], ◌∷◌, ◌++◌, Option, Some, None, length, get_or, slice_get, nat_eq, map, drop, reverse, refl, sym, ap, ◌∙◌, subst, subst₂, arith, append-nil, length-append, length-set, Vec, Global}
use Rattle.std.specs.Prelude.{vec_len}
use Rattle.std.proofs.lemmas.List.{reverse-reverse, length-reverse, reverse-append, append_assoc}
use Rattle.std.proofs.lemmas.Bool.Decides.{nat_tests}
use Rattle.txn_kv.specs.declared.ticket.Ticket.{Ticket}
use Rattle.txn_kv.specs.declared.reply.Reply.{Reply}
use Rattle.txn_history.specs.Event.{Event}
use Rattle.txn_model.specs.Store.{opening}
use Rattle.txn_law.specs.Run.{store_after}
use Rattle.txn_script.specs.Lines.{why_after}
use Rattle.txn_script.specs.Kinds.{kinds_of}
use Rattle.txn_script.specs.declared.line.Line.{Line}
use Rattle.txn_script.specs.declared.line.Line.TheVariants.{Blank, Client, Begin, Put, Commit, Deliver}
use Rattle.txn_report.specs.OutcomeView.{view_of_outcome}
use Rattle.txn_report.specs.declared.outcome.Outcome.{Outcome}
use Rattle.txn_report.specs.declared.outcome.Outcome.TheVariants.{Ok, Unfinished, Done, Skipped}
use Rattle.txn_kv.specs.declared.ticket.Target.TheVariants.{Placement}
use Rattle.txn_report.specs.declared.outcome.Payload.TheVariants.{Unit as Nothing, Commit as Committed_at}
use Rattle.txn_report.specs.declared.report.SentNote.{SentNote}
use Rattle.txn_report.specs.declared.report.Report.{Report}
use Rattle.txn_first.specs.declared.machine.Row.{Row}
use Rattle.txn_first.specs.declared.machine.Row.TheVariants.{Plain, Beginning, Running, Committing}
use Rattle.txn_first.specs.declared.machine.Machine.{Machine}
use Rattle.txn_first.specs.declared.note.StepNote.{StepNote}
use Rattle.txn_first.specs.declared.transaction.Status.{Status}
use Rattle.txn_first.specs.declared.transaction.Status.TheVariants.{Active, StartedCommit, Committed}
use Rattle.txn_first.specs.declared.transaction.Sending.{Sending}
use Rattle.txn_first.specs.declared.transaction.Turn.{Turn}
use Rattle.txn_first.specs.Posting.{position, places_of, place_in, note_of}
use Rattle.txn_first.specs.Lists.{Lists, lists_of, opened, row_at, row_set, sent_by, ended_by, followed, next_of, ask_one, standing_in, written_in, puts_by, commit_starts, commits_by, handled, reply_at, start_in, begun, advanced, passed_in, passed, waits, delivers_at, stepped}
use Rattle.txn_first.specs.Commit.{turned, started}
use Rattle.txn_first.specs.Script.{outcome_of, history, served_tickets}
use Rattle.txn_first.specs.Rowed.{AllCame}
use Rattle.txn_first.specs.Stands.{AllBefore, request_in, StandsAt}
use Rattle.txn_first.specs.StandsFor.{HasMemory, IsMailOf, StandsFor, CanStep, tickets_at, delivered_line, ending_of, IsNote, IsNoteFrom}
use Rattle.txn_first.specs.Causes.{Causes, Dues}
use Rattle.txn_first.specs.Lawful.{AllGood, Lawful, IsMail}
use Rattle.txn_first.specs.Whole.{AllFitCommits}
use Rattle.txn_first.specs.Clean.{AllEndClean}
use Rattle.txn_first.proofs.Opens.{IsQuietLine}
use Rattle.txn_first.proofs.Stepped.{StandsSo, quiet_stands, next_is, begin_stands, put_stands, commit_stands}
use Rattle.txn_first.proofs.Delivered.{deliver_stands}
use Rattle.txn_first.proofs.Posts.{no_mail, stepped_posts, mail_stepped}
use Rattle.txn_first.proofs.Whole.{commits_fit}
use Rattle.txn_first.proofs.Clean.{ends_clean}
use Rattle.txn_first.proofs.Comes.{Marks, stepped_marks, came_stepped}

-- No lines.

abbrev pub no_lists : Lists
no_lists = record { store = opening; sent = []; letters = []; tickets = []; rows = []; outcomes = []; ended = []; served = [] }

no_position : (t : Ticket) → position [] t ≡ None
no_position t = by_beat t.beat (at_line t.line t.number)
  where
    at_line : (n m : ℕ) → place_in (places_of [] n) m ≡ None
    at_line zero zero = refl
    at_line zero (suc m) = refl
    at_line (suc n) zero = refl
    at_line (suc n) (suc m) = refl

    by_beat : (b : Bool) → place_in (places_of [] t.line) t.number ≡ None → (if b then None else place_in (places_of [] t.line) t.number) ≡ None
    by_beat true e = refl
    by_beat false e = e

no_row : (n : ℕ) (r : Row) → row_at [] n ≡ Some r → ⊥
no_row zero r e = cc
no_row (suc n) r e = cc

no_answer : (n c : ℕ) → outcome_of [] n ≡ Ok (Committed_at (Some c)) → ⊥
no_answer zero c e = cc
no_answer (suc n) c e = cc

pub opening_stands : StandsAt [] no_lists []
opening_stands = record {
  mail = record {
    told = refl;
    rowed = refl;
    lettered = refl;
    is = refl;
    stored = refl;
    handed = refl;
    before = tt;
    placed = λ t p e. absurd (let a = no_position t in cc);
    noted = λ p s e. absurd (cc);
    found = λ t. sym (ap (λ z. request_in [] z) (no_position t));
    listed = λ t. sym (ap (λ z. request_in [] z) (no_position t));
    unsent = λ t e. (refl, refl);
    letter = λ p s v e f. absurd (cc);
  };
  fits = record {
    good = tt;
    told = refl;
    rowed = record { counted = refl; fits = λ n r e. absurd (no_row n r e); begun = λ n c e. absurd (cc) };
    awaited = record { known = λ t e. absurd (cc); one = λ t u e f. absurd (cc); owed = λ n first last e. absurd (omega arith) };
    lone = record { regions = refl; clock = refl; last = omega arith; few = omega arith; cells = λ x t e. absurd (no_row x (Running t) e); empty = λ n. refl };
    times = record { counted = refl; past = λ i. omega arith; still = λ i e. refl; own = λ i h. absurd (h refl); over = λ i h. absurd (h refl) };
  };
  asks = tt;
  counted = record { few = λ n. omega arith; stage = λ x t call e f. absurd (no_row x (Running t) e) };
  licensed = record { run = λ k v a. tt; given = λ x t e. absurd (no_row x (Running t) e); owned = λ u r h. absurd h; answered = λ n c e. absurd (no_answer n c e) };
  causes = tt;
  dues = tt;
}

pub lists_are : {l m : Lists} → l.store ≡ m.store → l.sent ≡ m.sent → l.letters ≡ m.letters → l.tickets ≡ m.tickets → l.rows ≡ m.rows → l.outcomes ≡ m.outcomes → l.ended ≡ m.ended → l.served ≡ m.served → l ≡ m
lists_are store sent letters tickets rows outcomes ended served i = record { store = store i; sent = sent i; letters = letters i; tickets = tickets i; rows = rows i; outcomes = outcomes i; ended = ended i; served = served i }

pub new_stands : (m : Machine) → m.store ≡ opening → m.post.sent.items ≡ [] → m.post.letters.items ≡ [] → m.post.tickets.items ≡ [] → m.rows.items ≡ [] → m.outcomes.items ≡ [] → m.ended.items ≡ [] → m.served.items ≡ [] → m.kinds ≡ [] → StandsFor m []
new_stands m store sent letters tickets rows outcomes ended served kinds = record {
  stands = λ h. record {
    lists = subst (λ l. StandsAt [] l []) (lists_are (sym store) (sym sent) (sym letters) (sym tickets) (sym rows) (sym outcomes) (sym ended) (sym served)) opening_stands;
    came = λ i h. absurd (h (ap (λ es. get_or es i 0) ended));
    posted = subst₂ (λ ss ts. IsMailOf ss ts) (sym sent) (sym tickets) no_mail;
    kinds = kinds;
  };
}

-- One line more.

client_quiet : (ls : List Line) (rows : List Row) (outs : List Outcome) → IsQuietLine Client ls rows outs (Ok Nothing)
client_quiet ls rows outs = record { over = refl; no_begin = λ client e. cc; leaves = λ x. record { status = refl; writes = refl }; skips = λ x u call e c k. absurd (cc) }

blank_quiet : (ls : List Line) (rows : List Row) (outs : List Outcome) → IsQuietLine Blank ls rows outs Done
blank_quiet ls rows outs = record { over = refl; no_begin = λ client e. cc; leaves = λ x. record { status = refl; writes = refl }; skips = λ x u call e c k. absurd (cc) }

pub stepped_stands : (es : List Event) (l : Lists) (line : Line) (ls : List Line) → why_after ls line ≡ None → StandsAt es l ls → StandsSo (stepped l line) (line ∷ ls)
stepped_stands es l Blank ls good s = quiet_stands es l Blank ls Done (length l.outcomes + 1) (next_is (length l.outcomes)) good tt refl (blank_quiet ls l.rows l.outcomes) refl s
stepped_stands es l Client ls good s = quiet_stands es l Client ls (Ok Nothing) (length l.outcomes + 1) (next_is (length l.outcomes)) good tt refl (client_quiet ls l.rows l.outcomes) refl s
stepped_stands es l (Begin client) ls good s = begin_stands es l ls s client good
stepped_stands es l (Put x k v) ls good s = put_stands es l ls s x k v good
stepped_stands es l (Commit x) ls good s = commit_stands es l ls s x good
stepped_stands es l (Deliver t) ls good s = deliver_stands es l ls t good s

-- the events are those of the lines
pub at_history : (es : List Event) (l : Lists) (lines : List Line) → StandsAt es l lines → StandsAt (history l.sent l.outcomes lines) l lines
at_history es l lines s = subst (λ h. StandsAt h l lines) (sym s.mail.is) s

-- The note of a step.

abbrev pub AllAt : ℕ → List SentNote → Type 0
AllAt n [] = Unit {0}
AllAt n (s ∷ ss) = (s.at ≡ n) × AllAt n ss

-- what a step sent is the end of the list
pub record Grows (l l' : Lists) : Type 0 where
  pub news : List SentNote
  pub sent : l'.sent ≡ l.sent ++ news
  pub at : AllAt (length l'.outcomes) news

same_sent : (l l' : Lists) → l'.sent ≡ l.sent → Grows l l'
same_sent l l' e = record { news = []; sent = e ∙ sym (append-nil l.sent); at = tt }

ended_grows : (l l' : Lists) (line : ℕ) (o : Option Outcome) → Grows l l' → Grows l (ended_by l' line o)
ended_grows l l' line None g = g
ended_grows l l' line (Some o) g = record { news = g.news; sent = g.sent; at = subst (λ n. AllAt n g.news) (sym (length-set l'.outcomes (line - 1) o)) g.at }

sent_grows : (l l' : Lists) (line : ℕ) (s : Option Sending) → l'.sent ≡ l.sent → Grows l (sent_by l' line s)
sent_grows l l' line None e = same_sent l l' e
sent_grows l l' line (Some s) e = record { news = note_of l'.tickets line (length l'.outcomes) s.to s.request ∷ []; sent = ap (λ ss. ss ++ note_of l'.tickets line (length l'.outcomes) s.to s.request ∷ []) e; at = (refl, tt) }

follow_grows : (l l' : Lists) (line : ℕ) (turn : Turn) → l'.sent ≡ l.sent → Grows l (followed l' line turn)
follow_grows l l' line turn e = ended_grows l (sent_by l' line turn.send) line turn.outcome (sent_grows l l' line turn.send e)

puts_grow : (l : Lists) (x : ℕ) (k v : List ℕ) (st : Option Status) → Grows l (puts_by st l x k v)
puts_grow l x k v None = same_sent l _ refl
puts_grow l x k v (Some Active) = same_sent l _ (by_row (row_at l.rows x))
  where
    by_row : (r : Option Row) → (written_in l x k v r).sent ≡ l.sent
    by_row None = refl
    by_row (Some Plain) = refl
    by_row (Some Beginning) = refl
    by_row (Some (Running t)) = refl
    by_row (Some (Committing y)) = refl
puts_grow l x k v (Some StartedCommit) = same_sent l _ refl
puts_grow l x k v (Some Committed) = same_sent l _ refl

commit_grows : (l l' : Lists) (x : ℕ) (r : Option Row) → l'.sent ≡ l.sent → Grows l (commit_starts l' x r)
commit_grows l l' x None e = same_sent l l' e
commit_grows l l' x (Some Plain) e = same_sent l l' e
commit_grows l l' x (Some Beginning) e = same_sent l l' e
commit_grows l l' x (Some (Running t)) e = follow_grows l (row_set l' x (Running (started t (length l'.outcomes)).transaction)) (length l'.outcomes) (started t (length l'.outcomes)).turn e
commit_grows l l' x (Some (Committing y)) e = same_sent l l' e

commits_grow : (l : Lists) (x : ℕ) (st : Option Status) → Grows l (commits_by st l x)
commits_grow l x None = same_sent l _ refl
commits_grow l x (Some Active) = commit_grows l (opened l (Committing x) Unfinished 0) x (row_at (opened l (Committing x) Unfinished 0).rows x) refl
commits_grow l x (Some StartedCommit) = commit_grows l (opened l (Committing x) Unfinished 0) x (row_at (opened l (Committing x) Unfinished 0).rows x) refl
commits_grow l x (Some Committed) = same_sent l _ refl

begun_grows : (l l' : Lists) (line : ℕ) (s : Option ℕ) → l'.sent ≡ l.sent → Grows l (begun l' line s)
begun_grows l l' line None e = same_sent l _ e
begun_grows l l' line (Some s) e = same_sent l _ e

advance_grows : (l l' : Lists) (x line : ℕ) (reply : Reply) (r : Option Row) → l'.sent ≡ l.sent → Grows l (advanced l' x line reply r)
advance_grows l l' x line reply None e = same_sent l l' e
advance_grows l l' x line reply (Some Plain) e = same_sent l l' e
advance_grows l l' x line reply (Some Beginning) e = same_sent l l' e
advance_grows l l' x line reply (Some (Running t)) e = follow_grows l (row_set l' x (Running (turned t reply).transaction)) line (turned t reply).turn e
advance_grows l l' x line reply (Some (Committing y)) e = same_sent l l' e

pass_grows : (l l' : Lists) (line : ℕ) (reply : Reply) (r : Option Row) → l'.sent ≡ l.sent → Grows l (passed_in l' line reply r)
pass_grows l l' line reply None e = same_sent l l' e
pass_grows l l' line reply (Some Plain) e = same_sent l l' e
pass_grows l l' line reply (Some Beginning) e = begun_grows l l' line (start_in reply) e
pass_grows l l' line reply (Some (Running t)) e = same_sent l l' e
pass_grows l l' line reply (Some (Committing x)) e = advance_grows l l' x line reply (row_at l'.rows x) e

delivers_grow : (l : Lists) (t : Ticket) (o : Option ℕ) → Grows l (delivers_at o l t)
delivers_grow l t None = same_sent l _ refl
delivers_grow l t (Some p) = by_test (waits (slice_get l.letters p))
  where
    by_test : (b : Bool) → Grows l (if b then passed (handled (opened l Plain Done (next_of l)) p t) t.line (reply_at l p) else opened l Plain Skipped (next_of l))
    by_test true = pass_grows l (handled (opened l Plain Done (next_of l)) p t) t.line (reply_at l p) (row_at (handled (opened l Plain Done (next_of l)) p t).rows t.line) refl
    by_test false = same_sent l _ refl

pub stepped_grows : (l : Lists) (line : Line) → Grows l (stepped l line)
stepped_grows l Blank = same_sent l _ refl
stepped_grows l Client = same_sent l _ refl
stepped_grows l (Begin client) = record { news = note_of (l.tickets ++ [] ∷ []) (next_of l) (length (l.outcomes ++ Unfinished ∷ [])) Placement ask_one ∷ []; sent = refl; at = (refl, tt) }
stepped_grows l (Put x k v) = puts_grow l x k v (standing_in (row_at l.rows x))
stepped_grows l (Commit x) = commits_grow l x (standing_in (row_at l.rows x))
stepped_grows l (Deliver t) = delivers_grow l t (position l.tickets t)

tickets_new : (n : ℕ) (ss : List SentNote) → AllAt n ss → tickets_at n ss ≡ map (λ s. s.ticket) ss
tickets_new n [] a = refl
tickets_new n (s ∷ ss) a =
    let e = a.0 in
    let t : nat_eq s.at n ≡ true = grind (arith, nat_tests) in
    ap (λ (b : Bool). if b then s.ticket ∷ tickets_at n ss else tickets_at n ss) t ∙ ap (λ ts. s.ticket ∷ ts) (tickets_new n ss a.1)

tickets_more : (n : ℕ) (old ss : List SentNote) → AllBefore n old → tickets_at n (old ++ ss) ≡ tickets_at n ss
tickets_more n [] ss a = refl
tickets_more n (s ∷ old) ss a =
    let l = a.0 in
    let t : nat_eq s.at n ≡ false = grind (arith, nat_tests) in
    ap (λ (b : Bool). if b then s.ticket ∷ tickets_at n (old ++ ss) else tickets_at n (old ++ ss)) t ∙ tickets_more n old ss a.1

drop_old : (old ss : List SentNote) → drop (length old) (old ++ ss) ≡ ss
drop_old [] ss = refl
drop_old (s ∷ old) ss = drop_old old ss

pub note_of_step : (es : List Event) (l l' : Lists) (ls : List Line) (line : Line) (note : StepNote) → StandsAt es l ls → length l'.outcomes ≡ suc (length ls) → Grows l l' → IsNoteFrom l' (length l.sent) (delivered_line line) note → IsNote l' line note
note_of_step es l l' ls line note s longer g n = record {
  place = n.place;
  outcome = n.outcome ∙ ap (λ p. view_of_outcome (outcome_of l'.outcomes p)) (sym n.place);
  sent = n.sent
      ∙ ap (λ ss. map (λ z. z.ticket) (drop (length l.sent) ss)) g.sent
      ∙ ap (λ ss. map (λ z. z.ticket) ss) (drop_old l.sent g.news)
      ∙ sym (tickets_new (length l'.outcomes) g.news g.at)
      ∙ sym (tickets_more (length l'.outcomes) l.sent g.news (subst (λ m. AllBefore m l.sent) (sym longer) s.mail.before))
      ∙ ap (λ ss. tickets_at (length l'.outcomes) ss) (sym g.sent)
      ∙ ap (λ m. tickets_at m l'.sent) (sym n.place);
  ended = n.ended ∙ ap (λ p. ending_of l' (delivered_line line) ++ ending_of l' p) (sym n.place);
}

-- A step.

pub step_stands : (old new : Machine) (line : Line) (lines : List Line) → lists_of new ≡ stepped (lists_of old) line → ((ls : List Line) → old.kinds ≡ kinds_of ls → new.kinds ≡ kinds_of (line ∷ ls)) → why_after lines line ≡ None → StandsFor old lines → HasMemory old → StandsFor new (line ∷ lines)
step_stands old new line lines is kinds good s h =
    let before = s.stands h in
    let so = stepped_stands (history old.post.sent.items old.outcomes.items lines) (lists_of old) line lines good before.lists in
    record {
      stands = λ _. record {
        lists = subst (λ l. StandsAt (history l.sent l.outcomes (line ∷ lines)) l (line ∷ lines)) (sym is) (at_history so.0 (stepped (lists_of old) line) (line ∷ lines) so.1);
        came = came_stepped (lists_of old) (lists_of new) line lines before.lists.fits.told before.lists.fits.times.counted before.lists.fits.times.past (subst (λ l. Marks (lists_of old) line l) (sym is) (stepped_marks (lists_of old) line)) before.came;
        posted = subst (λ l. IsMailOf l.sent l.tickets) (sym is) (mail_stepped (lists_of old) (stepped (lists_of old) line) (suc (length lines)) (let a = before.lists.fits.told in omega arith) before.lists.mail.before so.1.asks (stepped_posts (lists_of old) line (before.lists.mail.rowed ∙ sym before.lists.mail.told)) before.posted);
        kinds = kinds lines before.kinds;
      };
    }

pub step_note : (old : Machine) (l' : Lists) (line : Line) (lines : List Line) (note : StepNote) (from delivered : ℕ) → l' ≡ stepped (lists_of old) line → why_after lines line ≡ None → StandsFor old lines → HasMemory old → from ≡ length old.post.sent.items → delivered ≡ delivered_line line → IsNoteFrom l' from delivered note → IsNote l' line note
step_note old l' line lines note from delivered is good s h f d n =
    let before = s.stands h in
    let so = stepped_stands (history old.post.sent.items old.outcomes.items lines) (lists_of old) line lines good before.lists in
    let told : length l'.outcomes ≡ suc (length lines) = ap (λ l. length l.outcomes) is ∙ so.1.fits.told in
    let here : IsNoteFrom l' (length old.post.sent.items) (delivered_line line) note = subst₂ (λ x y. IsNoteFrom l' x y note) f d n in
    note_of_step (history old.post.sent.items old.outcomes.items lines) (lists_of old) l' lines line note before.lists told (subst (λ l. Grows (lists_of old) l) (sym is) (stepped_grows (lists_of old) line)) here

pub step_longer : (old new : Machine) (line : Line) (lines : List Line) → lists_of new ≡ stepped (lists_of old) line → why_after lines line ≡ None → StandsFor old lines → HasMemory old → 0 < length new.outcomes.items
step_longer old new line lines is good s h =
    let before = s.stands h in
    let so = stepped_stands (history old.post.sent.items old.outcomes.items lines) (lists_of old) line lines good before.lists in
    let told : length new.outcomes.items ≡ suc (length lines) = ap (λ l. length l.outcomes) is ∙ so.1.fits.told in
    omega arith

pub step_sends : (old new : Machine) (line : Line) → lists_of new ≡ stepped (lists_of old) line → length old.post.sent.items ≤ length new.post.sent.items
step_sends old new line is =
    let g = stepped_grows (lists_of old) line in
    let more : length new.post.sent.items ≡ length old.post.sent.items + length g.news = ap (λ l. length l.sent) is ∙ ap length g.sent ∙ length-append old.post.sent.items g.news in
    omega arith

-- The report.

abbrev pub report_of : Lists → Report
report_of l = record { outcomes = l.outcomes; ended = l.ended; sent = l.sent; sleeps = []; served = l.served; store = l.store }

pub lawful_of : (l : Lists) (lines : List Line) → StandsAt (history l.sent l.outcomes lines) l lines → AllCame lines l.ended → IsMail l.sent → Lawful (reverse lines) (report_of l)
lawful_of l lines s came mail =
    let back : lines ≡ reverse (reverse lines) = sym (reverse-reverse lines) in
    record {
      told = s.mail.told ∙ sym (length-reverse lines);
      folded = record {
        store = s.mail.stored ∙ ap (λ ls. store_after (history l.sent l.outcomes ls)) back;
        served = s.mail.handed ∙ ap (λ ls. reverse (served_tickets (history l.sent l.outcomes ls))) back;
      };
      mail = mail;
      causes = subst (λ ls. Causes l.sent l.outcomes l.ended ls) back s.causes;
      ends = record {
        counted = s.fits.times.counted;
        past = s.fits.times.past;
        still = s.fits.times.still;
        own = s.fits.times.own;
        came = subst (λ ls. AllCame ls l.ended) back came;
        over = s.fits.times.over;
      };
      dues = subst (λ ls. Dues l.sent l.outcomes l.ended ls) back s.dues;
      clean = subst (λ ls. AllEndClean ls (report_of l)) back (ends_clean lines (report_of l) s.causes s.counted.few refl);
      fits = subst (λ ls. AllFitCommits ls (report_of l)) back (commits_fit (history l.sent l.outcomes lines) l lines s);
      awake = refl;
    }

reports_are : {r q : Report} → r.outcomes ≡ q.outcomes → r.ended ≡ q.ended → r.sent ≡ q.sent → r.sleeps ≡ q.sleeps → r.served ≡ q.served → r.store ≡ q.store → r ≡ q
reports_are outcomes ended sent sleeps served store i = record { outcomes = outcomes i; ended = ended i; sent = sent i; sleeps = sleeps i; served = served i; store = store i }

pub report_lawful : (m : Machine) (r : Report) (lines : List Line) → HasMemory m → StandsFor m lines → r.outcomes ≡ m.outcomes.items → r.ended ≡ m.ended.items → r.sent ≡ m.post.sent.items → r.sleeps ≡ [] → r.served ≡ m.served.items → r.store ≡ m.store → Lawful (reverse lines) r
report_lawful m r lines h s outcomes ended sent sleeps served store =
    subst (λ q. Lawful (reverse lines) q) (sym (reports_are {r = r} {q = report_of (lists_of m)} outcomes ended sent sleeps served store)) (lawful_of (lists_of m) lines (s.stands h).lists (s.stands h).came (s.stands h).posted.mail)

-- A run of lines.

pub sent_len : (v : Vec SentNote Global) → vec_len v ≡ length v.items
sent_len v = let e = v.ok.0 in omega arith

none_left : (ls : List Line) → length ls ≡ 0 → ls ≡ []
none_left [] e = refl
none_left (l ∷ ls) e = absurd (omega arith)

-- A machine stands for the first of these lines, and the rest are good after them.
pub record RunsOn (m : Machine) (all rest : List Line) : Type 0 where
  pub done : List Line
  pub memory : HasMemory m
  pub stands : StandsFor m done
  pub good : AllGood done rest
  pub together : reverse done ++ rest ≡ all

pub turned_over : (line : Line) (done rest : List Line) → reverse (line ∷ done) ++ rest ≡ reverse done ++ line ∷ rest
turned_over line done rest = ap (λ ls. ls ++ rest) (reverse-append (line ∷ []) done) ∙ append_assoc (reverse done) (line ∷ []) rest

pub run_stepped : (m m' : Machine) (all before rest : List Line) (line : Line) → (r : RunsOn m all before) → before ≡ line ∷ rest → HasMemory m' → ((ls : List Line) → StandsFor m ls → why_after ls line ≡ None → StandsFor m' (line ∷ ls)) → RunsOn m' all rest
run_stepped m m' all before rest line r e memory stands =
    let good = subst (λ ls. AllGood r.done ls) e r.good in
    record {
      done = line ∷ r.done;
      memory = memory;
      stands = stands r.done r.stands good.0;
      good = good.1;
      together = turned_over line r.done rest ∙ ap (λ ls. reverse r.done ++ ls) (sym e) ∙ r.together;
    }

pub can_step : (m : Machine) (all before rest : List Line) (line : Line) → RunsOn m all before → before ≡ line ∷ rest → CanStep m line
can_step m all before rest line r e = record { lines = r.done; stands = r.stands; good = (subst (λ ls. AllGood r.done ls) e r.good).0 }

pub run_over : (m : Machine) (all rest : List Line) (report : Report) → RunsOn m all rest → length rest ≡ 0 → ((ls : List Line) → StandsFor m ls → Lawful (reverse ls) report) → Lawful all report
run_over m all rest report r e lawful =
    subst (λ ls. Lawful ls report) (sym (append-nil (reverse r.done)) ∙ ap (λ ls. reverse r.done ++ ls) (sym (none_left rest e)) ∙ r.together) (lawful r.done r.stands)
