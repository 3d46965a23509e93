-- What was sent stands in order: its tickets are numbered, and their lines do not fall.
use Rattle.std.proofs.Common.{◌≡◌, ◌≢◌, ℕ, zero, suc, ◌+◌, ◌-◌, ◌<◌, ◌≤◌, ◌⊎◌, inl, inr, Bool, true, false, if◌then◌else◌, List, [], ◌∷◌, ◌++◌, Option, Some, None, length, get_or, set, slice_get, nat_eq, nat_lt, refl, sym, ap, ◌∙◌, subst, arith, length-append}
use Rattle.std.proofs.lemmas.Bool.Decides.{nat_tests}
use Rattle.txn_kv.specs.declared.ticket.Ticket.{Ticket}
use Rattle.txn_kv.specs.declared.ticket.Target.{Target}
use Rattle.txn_kv.specs.declared.ticket.Target.TheVariants.{Placement}
use Rattle.txn_kv.specs.declared.reply.Reply.{Reply}
use Rattle.txn_kv.specs.declared.request.Request.{Request}
use Rattle.txn_kv.specs.declared.request.Request.TheVariants.{Tso}
use Rattle.txn_script.specs.declared.line.Line.{Line}
use Rattle.txn_script.specs.declared.line.Line.TheVariants.{Blank, Client, Begin, Put, Commit, Deliver}
use Rattle.txn_report.specs.declared.outcome.Outcome.{Outcome}
use Rattle.txn_report.specs.declared.outcome.Outcome.TheVariants.{Ok, Unfinished, Done, Skipped}
use Rattle.txn_report.specs.declared.outcome.Payload.TheVariants.{Unit as Nothing}
use Rattle.txn_report.specs.declared.report.SentNote.{SentNote}
use Rattle.txn_first.specs.declared.machine.Row.{Row}
use Rattle.txn_first.specs.declared.machine.Row.TheVariants.{Plain, Beginning, Running, Committing}
use Rattle.txn_first.specs.declared.transaction.Status.{Status}
use Rattle.txn_first.specs.declared.transaction.Status.TheVariants.{Active, StartedCommit, Committed}
use Rattle.txn_first.specs.declared.transaction.Sending.{Sending}
use Rattle.txn_first.specs.declared.transaction.Turn.{Turn}
use Rattle.txn_first.specs.Commit.{turned, started}
use Rattle.txn_first.specs.Posting.{position, places_of, place_in, note_of, askers_of}
use Rattle.txn_first.specs.Lists.{Lists, opened, row_at, row_set, sent_by, ended_by, followed, next_of, ask_one, standing_in, written_in, puts_by, commit_starts, commits_by, handled, reply_at, start_in, begun, advanced, passed_in, waits, delivers_at, stepped, AsksOne, AllAskOne}
use Rattle.txn_first.specs.Lawful.{sent_of, NumberedAfter, RisesFrom, HasAskers, AllHaveAskers, IsMail}
use Rattle.txn_first.specs.Stands.{AllBefore}
use Rattle.txn_first.specs.StandsFor.{IsMailOf}
use Rattle.txn_first.proofs.Lists.{or_pushed, or_past, or_last, or_same, or_other}

-- A step opens the tickets of one line, and then sends at most one request, of a line that is there.

pub record Sends (l l' : Lists) : Type 0 where
  pub line : ℕ
  pub first : 1 ≤ line
  pub last : line ≤ length l.tickets + 1
  pub to : Target
  pub request : Request
  pub sent : l'.sent ≡ l.sent ++ note_of (l.tickets ++ [] ∷ []) line (length l.outcomes + 1) to request ∷ []
  pub tickets : l'.tickets ≡ set (l.tickets ++ [] ∷ []) (line - 1) (places_of (l.tickets ++ [] ∷ []) line ++ length l.sent ∷ [])

pub record IsStill (l l' : Lists) : Type 0 where
  pub sent : l'.sent ≡ l.sent
  pub tickets : l'.tickets ≡ l.tickets ++ [] ∷ []
  pub longer : length l'.outcomes ≡ length l.outcomes + 1

abbrev pub Posts : Lists → Lists → Type 0
Posts l l' = ((l'.sent ≡ l.sent) × (l'.tickets ≡ l.tickets ++ [] ∷ [])) ⊎ Sends l l'

still_posts : (l l' : Lists) → IsStill l l' → Posts l l'
still_posts l l' s = inl (s.sent, s.tickets)

over_posts : (l l' : Lists) (x : ℕ) → Posts l l' → (o : Option Outcome) → Posts l (ended_by l' x o)
over_posts l l' x p None = p
over_posts l l' x (inl p) (Some out) = inl p
over_posts l l' x (inr p) (Some out) = inr (record { line = p.line; first = p.first; last = p.last; to = p.to; request = p.request; sent = p.sent; tickets = p.tickets })

send_posts : (l l' : Lists) (x : ℕ) → IsStill l l' → 1 ≤ x → x ≤ length l.tickets + 1 → (s : Option Sending) → Posts l (sent_by l' x s)
send_posts l l' x q one most None = still_posts l l' q
send_posts l l' x q one most (Some s) = inr (record {
  line = x;
  first = one;
  last = most;
  to = s.to;
  request = s.request;
  sent = ap (λ ss. ss ++ note_of l'.tickets x (length l'.outcomes) s.to s.request ∷ []) q.sent
      ∙ ap (λ ts. l.sent ++ note_of ts x (length l'.outcomes) s.to s.request ∷ []) q.tickets
      ∙ ap (λ n. l.sent ++ note_of (l.tickets ++ [] ∷ []) x n s.to s.request ∷ []) q.longer;
  tickets = ap (λ ts. set ts (x - 1) (places_of ts x ++ length l'.sent ∷ [])) q.tickets
      ∙ ap (λ ss. set (l.tickets ++ [] ∷ []) (x - 1) (places_of (l.tickets ++ [] ∷ []) x ++ length ss ∷ [])) q.sent;
})

follow_posts : (l l' : Lists) (x : ℕ) → IsStill l l' → 1 ≤ x → x ≤ length l.tickets + 1 → (turn : Turn) → Posts l (followed l' x turn)
follow_posts l l' x q one most turn = over_posts l (sent_by l' x turn.send) x (send_posts l l' x q one most turn.send) turn.outcome

pub one_more : (l : Lists) (o : Outcome) → length (l.outcomes ++ o ∷ []) ≡ length l.outcomes + 1
one_more l o = length-append l.outcomes (o ∷ [])

puts_posts : (l : Lists) (x : ℕ) (k v : List ℕ) (st : Option Status) → Posts l (puts_by st l x k v)
puts_posts l x k v None = inl (refl, refl)
puts_posts l x k v (Some Active) = by_row (row_at l.rows x)
  where
    by_row : (r : Option Row) → Posts l (opened (written_in l x k v r) Plain (Ok Nothing) (next_of l))
    by_row None = inl (refl, refl)
    by_row (Some Plain) = inl (refl, refl)
    by_row (Some Beginning) = inl (refl, refl)
    by_row (Some (Running t)) = inl (refl, refl)
    by_row (Some (Committing y)) = inl (refl, refl)
puts_posts l x k v (Some StartedCommit) = inl (refl, refl)
puts_posts l x k v (Some Committed) = inl (refl, refl)

starts_posts : (l l' : Lists) (x : ℕ) → length l.tickets ≡ length l.outcomes → IsStill l l' → (r : Option Row) → Posts l (commit_starts l' x r)
starts_posts l l' x even q None = still_posts l l' q
starts_posts l l' x even q (Some Plain) = still_posts l l' q
starts_posts l l' x even q (Some Beginning) = still_posts l l' q
starts_posts l l' x even q (Some (Running t)) =
    follow_posts l (row_set l' x (Running (started t (length l'.outcomes)).transaction)) (length l'.outcomes)
    (record { sent = q.sent; tickets = q.tickets; longer = q.longer })
    (let a = q.longer in omega arith)
    (let a = q.longer in omega arith)
    (started t (length l'.outcomes)).turn
starts_posts l l' x even q (Some (Committing y)) = still_posts l l' q

commits_posts : (l : Lists) (x : ℕ) → length l.tickets ≡ length l.outcomes → (st : Option Status) → Posts l (commits_by st l x)
commits_posts l x even None = inl (refl, refl)
commits_posts l x even (Some Active) = starts_posts l (opened l (Committing x) Unfinished 0) x even (record { sent = refl; tickets = refl; longer = one_more l Unfinished }) (row_at (opened l (Committing x) Unfinished 0).rows x)
commits_posts l x even (Some StartedCommit) = starts_posts l (opened l (Committing x) Unfinished 0) x even (record { sent = refl; tickets = refl; longer = one_more l Unfinished }) (row_at (opened l (Committing x) Unfinished 0).rows x)
commits_posts l x even (Some Committed) = inl (refl, refl)

passed_posts : (l l' : Lists) (x : ℕ) (reply : Reply) → IsStill l l' → 1 ≤ x → x ≤ length l.tickets + 1 → (r : Option Row) → Posts l (passed_in l' x reply r)
passed_posts l l' x reply q one most None = still_posts l l' q
passed_posts l l' x reply q one most (Some Plain) = still_posts l l' q
passed_posts l l' x reply q one most (Some Beginning) = by_start (start_in reply)
  where
    by_start : (s : Option ℕ) → Posts l (begun l' x s)
    by_start None = inl (q.sent, q.tickets)
    by_start (Some s) = inl (q.sent, q.tickets)
passed_posts l l' x reply q one most (Some (Running t)) = still_posts l l' q
passed_posts l l' x reply q one most (Some (Committing y)) = by_row (row_at l'.rows y)
  where
    by_row : (r : Option Row) → Posts l (advanced l' y x reply r)
    by_row None = still_posts l l' q
    by_row (Some Plain) = still_posts l l' q
    by_row (Some Beginning) = still_posts l l' q
    by_row (Some (Running t)) = follow_posts l (row_set l' y (Running (turned t reply).transaction)) x (record { sent = q.sent; tickets = q.tickets; longer = q.longer }) one most (turned t reply).turn
    by_row (Some (Committing z)) = still_posts l l' q

-- a ticket that leads to a place has a line that is there
pub placed_in : (tickets : List (List ℕ)) (t : Ticket) (p : ℕ) → position tickets t ≡ Some p → (1 ≤ t.line) × (t.line ≤ length tickets)
placed_in tickets t p e = by_line t.line t.number (by_beat t.beat (place_in (places_of tickets t.line) t.number) e)
  where
    by_beat : (b : Bool) (o : Option ℕ) → (if b then None else o) ≡ Some p → o ≡ Some p
    by_beat true o e = absurd (cc)
    by_beat false o e = e

    nothing : (m : ℕ) → place_in [] m ≡ Some p → ⊥
    nothing zero e = cc
    nothing (suc m) e = cc

    within : (i m : ℕ) (b : Bool) → nat_lt i (length tickets) ≡ b → place_in (places_of tickets (suc i)) m ≡ Some p → suc i ≤ length tickets
    within i m true f e = grind (arith, nat_tests)
    within i m false f e =
        let far : length tickets ≤ i = grind (arith, nat_tests) in
        absurd (nothing m (ap (λ ps. place_in ps m) (sym (or_past tickets [] i far)) ∙ e))

    by_line : (n m : ℕ) → place_in (places_of tickets n) m ≡ Some p → (1 ≤ n) × (n ≤ length tickets)
    by_line zero m e = absurd (nothing m e)
    by_line (suc i) m e = (omega arith, within i m (nat_lt i (length tickets)) refl e)

delivers_posts : (l : Lists) (t : Ticket) (o : Option ℕ) → position l.tickets t ≡ o → Posts l (delivers_at o l t)
delivers_posts l t None e = inl (refl, refl)
delivers_posts l t (Some p) e = by_test (waits (slice_get l.letters p))
  where
    by_test : (b : Bool) → Posts l (if b then passed_in (handled (opened l Plain Done (next_of l)) p t) t.line (reply_at l p) (row_at (handled (opened l Plain Done (next_of l)) p t).rows t.line) else opened l Plain Skipped (next_of l))
    by_test true =
        let there = placed_in l.tickets t p e in
        passed_posts l (handled (opened l Plain Done (next_of l)) p t) t.line (reply_at l p) (record { sent = refl; tickets = refl; longer = one_more l Done }) there.0 (let a = there.1 in omega arith) (row_at (handled (opened l Plain Done (next_of l)) p t).rows t.line)
    by_test false = inl (refl, refl)

pub stepped_posts : (l : Lists) (line : Line) → length l.tickets ≡ length l.outcomes → Posts l (stepped l line)
stepped_posts l Blank even = inl (refl, refl)
stepped_posts l Client even = inl (refl, refl)
stepped_posts l (Begin client) even = send_posts l (opened l Beginning Unfinished 0) (next_of l) (record { sent = refl; tickets = refl; longer = one_more l Unfinished }) (omega arith) (omega arith) (Some (record { to = Placement; request = ask_one }))
stepped_posts l (Put x k v) even = puts_posts l x k v (standing_in (row_at l.rows x))
stepped_posts l (Commit x) even = commits_posts l x even (standing_in (row_at l.rows x))
stepped_posts l (Deliver t) even = delivers_posts l t (position l.tickets t) refl

-- One request more.

numbered_more : (before ss : List SentNote) (x : SentNote) → x.ticket.beat ≡ false → x.ticket.number ≡ sent_of x.ticket.line before + sent_of x.ticket.line ss + 1 → NumberedAfter before ss → NumberedAfter before (ss ++ x ∷ [])
numbered_more before [] x b e h = (b, (let z : sent_of x.ticket.line [] ≡ 0 = refl in omega arith), tt)
numbered_more before (s ∷ ss) x b e h =
    let over : sent_of x.ticket.line (s ∷ ss) ≡ (if nat_eq s.ticket.line x.ticket.line then 1 else 0) + sent_of x.ticket.line ss = refl in
    let on : sent_of x.ticket.line (s ∷ before) ≡ (if nat_eq s.ticket.line x.ticket.line then 1 else 0) + sent_of x.ticket.line before = refl in
    (h.0, h.1, numbered_more (s ∷ before) ss x b (omega arith) h.2)

rises_more : (least n : ℕ) (ss : List SentNote) (x : SentNote) → least ≤ x.at → n ≤ x.at + 1 → AllBefore n ss → RisesFrom least ss → RisesFrom least (ss ++ x ∷ [])
rises_more least n [] x low high b h = (low, tt)
rises_more least n (s ∷ ss) x low high b h = (h.0, rises_more s.at n ss x (let a = b.0 in omega arith) high b.1 h.1)

asked_more : (ss : List SentNote) (x : SentNote) → HasAskers x.ticket.line x.request x.askers → AllHaveAskers ss → AllHaveAskers (ss ++ x ∷ [])
asked_more [] x a h = (a, tt)
asked_more (s ∷ ss) x a h = (h.0, asked_more ss x a h.1)

pub sent_of_more : (n : ℕ) (ss : List SentNote) (x : SentNote) → sent_of n (ss ++ x ∷ []) ≡ sent_of n ss + (if nat_eq x.ticket.line n then 1 else 0)
sent_of_more n [] x = (let zero_more : (if nat_eq x.ticket.line n then 1 else 0) + 0 ≡ 0 + (if nat_eq x.ticket.line n then 1 else 0) = omega arith in zero_more)
sent_of_more n (s ∷ ss) x =
    let rest = sent_of_more n ss x in
    let a : sent_of n (s ∷ ss ++ x ∷ []) ≡ (if nat_eq s.ticket.line n then 1 else 0) + sent_of n (ss ++ x ∷ []) = refl in
    let b : sent_of n (s ∷ ss) ≡ (if nat_eq s.ticket.line n then 1 else 0) + sent_of n ss = refl in
    omega arith

-- the askers of a request that asks for one timestamp, if it asks for any
askers_fit : (line : ℕ) (r : Request) → AsksOne r → HasAskers line r (askers_of line r)
askers_fit line (Tso r) a = (refl, a)
askers_fit line r a = refl

last_asks : (ss : List SentNote) (x : SentNote) → AllAskOne (ss ++ x ∷ []) → AsksOne x.request
last_asks [] x h = h.0
last_asks (s ∷ ss) x h = last_asks ss x h.1

-- a new line has no tickets
opened_places : (tickets : List (List ℕ)) (n : ℕ) → length (places_of (tickets ++ [] ∷ []) n) ≡ length (places_of tickets n)
opened_places tickets zero = refl
opened_places tickets (suc i) = inside (nat_lt i (length tickets)) refl
  where
    at_end : (b : Bool) → nat_eq i (length tickets) ≡ b → nat_lt i (length tickets) ≡ false → length (get_or (tickets ++ [] ∷ []) i []) ≡ length (get_or tickets i [])
    at_end true g f =
        let same : length tickets ≡ i = grind (arith, nat_tests) in
        let v : get_or (tickets ++ [] ∷ []) i [] ≡ [] = subst (λ k. get_or (tickets ++ [] ∷ []) k [] ≡ []) same (or_last tickets [] []) in
        ap length (v ∙ sym (or_past tickets [] i (omega arith)))
    at_end false g f =
        let l = length-append tickets ([] ∷ []) in
        let far : length (tickets ++ [] ∷ []) ≤ i = grind (arith, nat_tests) in
        ap length (or_past (tickets ++ [] ∷ []) [] i far ∙ sym (or_past tickets [] i (omega arith)))

    inside : (b : Bool) → nat_lt i (length tickets) ≡ b → length (get_or (tickets ++ [] ∷ []) i []) ≡ length (get_or tickets i [])
    inside true f = ap length (or_pushed tickets [] [] i (grind (arith, nat_tests)))
    inside false f = at_end (nat_eq i (length tickets)) refl f

-- one place more at a line
set_places : (tickets : List (List ℕ)) (x p n : ℕ) → 1 ≤ x → x ≤ length tickets → length (places_of (set tickets (x - 1) (places_of tickets x ++ p ∷ [])) n) ≡ length (places_of tickets n) + (if nat_eq x n then 1 else 0)
set_places tickets x p zero one most =
    let t : nat_eq x 0 ≡ false = grind (arith, nat_tests) in
    sym (ap (λ (b : Bool). 0 + (if b then 1 else 0)) t)
set_places tickets x p (suc i) one most = by_test (nat_eq x (suc i)) refl
  where
    by_test : (b : Bool) → nat_eq x (suc i) ≡ b → length (get_or (set tickets (x - 1) (places_of tickets x ++ p ∷ [])) i []) ≡ length (get_or tickets i []) + (if nat_eq x (suc i) then 1 else 0)
    by_test true f =
        let same : suc i ≡ x = grind (arith, nat_tests) in
        let place : x - 1 ≡ i = omega arith in
        let within : i < length tickets = omega arith in
        let v : get_or (set tickets (x - 1) (places_of tickets x ++ p ∷ [])) i [] ≡ places_of tickets x ++ p ∷ [] = ap (λ k. get_or (set tickets k (places_of tickets x ++ p ∷ [])) i []) place ∙ or_same tickets i (places_of tickets x ++ p ∷ []) [] within in
        let here : length (places_of tickets x) ≡ length (get_or tickets i []) = ap (λ n. length (places_of tickets n)) (sym same) in
        let long : length (places_of tickets x ++ p ∷ []) ≡ length (places_of tickets x) + 1 = length-append (places_of tickets x) (p ∷ []) in
        ap length v ∙ long ∙ ap (λ n. n + 1) here ∙ sym (ap (λ (b : Bool). length (get_or tickets i []) + (if b then 1 else 0)) f)
    by_test false f =
        let apart : i ≢ x - 1 = grind (arith, nat_tests) in
        let v = or_other tickets (x - 1) i (places_of tickets x ++ p ∷ []) [] apart in
        let none : length (get_or tickets i []) + 0 ≡ length (get_or tickets i []) = omega arith in
        ap length v ∙ sym none ∙ sym (ap (λ (b : Bool). length (get_or tickets i []) + (if b then 1 else 0)) f)

pub no_mail : IsMailOf [] []
no_mail = record { mail = record { numbered = tt; rises = tt; asked = tt }; counted = λ n. by_line n }
  where
    by_line : (n : ℕ) → length (places_of [] n) ≡ 0
    by_line zero = refl
    by_line (suc i) = refl

pub mail_stepped : (l l' : Lists) (n : ℕ) → n ≤ length l.outcomes + 2 → AllBefore n l.sent → AllAskOne l'.sent → Posts l l' → IsMailOf l.sent l.tickets → IsMailOf l'.sent l'.tickets
mail_stepped l l' n high before asks (inl p) m = record {
  mail = subst (λ ss. IsMail ss) (sym p.0) m.mail;
  counted = λ k. ap (λ ts. length (places_of ts k)) p.1 ∙ opened_places l.tickets k ∙ m.counted k ∙ ap (λ ss. sent_of k ss) (sym p.0);
}
mail_stepped l l' n high before asks (inr s) m = record {
  mail = subst (λ ss. IsMail ss) (sym s.sent) (record {
    numbered = numbered_more [] l.sent (note_of (l.tickets ++ [] ∷ []) s.line (length l.outcomes + 1) s.to s.request) refl number m.mail.numbered;
    rises = rises_more 0 n l.sent (note_of (l.tickets ++ [] ∷ []) s.line (length l.outcomes + 1) s.to s.request) (omega arith) (omega arith) before m.mail.rises;
    asked = asked_more l.sent (note_of (l.tickets ++ [] ∷ []) s.line (length l.outcomes + 1) s.to s.request) (askers_fit s.line s.request (last_asks l.sent (note_of (l.tickets ++ [] ∷ []) s.line (length l.outcomes + 1) s.to s.request) (subst (λ ss. AllAskOne ss) s.sent asks))) m.mail.asked;
  });
  counted = λ k.
      ap (λ ts. length (places_of ts k)) s.tickets
      ∙ set_places (l.tickets ++ [] ∷ []) s.line (length l.sent) k s.first (let a = length-append l.tickets ([] ∷ []) in let b = s.last in omega arith)
      ∙ ap (λ c. c + (if nat_eq s.line k then 1 else 0)) (opened_places l.tickets k ∙ m.counted k)
      ∙ sym (sent_of_more k l.sent (note_of (l.tickets ++ [] ∷ []) s.line (length l.outcomes + 1) s.to s.request))
      ∙ ap (λ ss. sent_of k ss) (sym s.sent);
}
  where
    number : length (places_of (l.tickets ++ [] ∷ []) s.line) + 1 ≡ sent_of s.line [] + sent_of s.line l.sent + 1
    number = let a = opened_places l.tickets s.line in let b = m.counted s.line in let z : sent_of s.line [] ≡ 0 = refl in omega arith
