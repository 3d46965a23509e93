-- What is posted under the next numbers of the clients has the next numbers of the mail.
use Rattle.std.proofs.Common.{◌≡◌, ◌≢◌, ℕ, zero, suc, ◌+◌, ◌-◌, ◌<◌, ◌≤◌, ◌⊎◌, inl, inr, Bool, true, false, List, [], ◌∷◌, ◌++◌, length, get_or, map, set, nat_eq, nat_lt, refl, sym, ap, ◌∙◌, subst, arith, append_assoc, length-append, length-set}
use Rattle.std.proofs.lemmas.Bool.Decides.{nat_tests}
use Rattle.std.specs.List.{All}
use Rattle.txn_kv.specs.declared.ticket.Ticket.{Ticket}
use Rattle.txn_post.specs.Mail.{Mail, Tickets, lane, naming, naming_in, opened_lanes, places_of}
use Rattle.txn_post.specs.Mail as mails
use Rattle.txn_post.specs.declared.post.Place.{Place}
use Rattle.txn_post.specs.declared.post.Place.TheVariants.{Sent, Slept}
use Rattle.txn_report.specs.declared.report.SentNote.{SentNote}
use Rattle.txn_side.specs.Sight.{AskFor, ArePosted, HasAskers, IsNext, Nexts, Sight, next_at, numbers_of, raised, ticket_in, with_next}
use Rattle.txn_side.specs.declared.turn.Posting.{Posting}
use Rattle.txn_side.specs.declared.turn.Posting.TheVariants.{Send, Sleep}
use Rattle.txn_machine.specs.Lists.{Lists, all_posted, newest, posted_at}
use Rattle.txn_post.proofs.Mails.{sent_is_mail, slept_is_mail}
use Rattle.txn_machine.specs.Running.{AreCounted, AreNumbered, CanClose, CanPost, IsEven}
use Rattle.txn_machine.specs.declared.done.Done.{Done as Course}

-- Elements that are set.

or_same : {X : Type 0} (xs : List X) (i : ℕ) (y d : X) → i < length xs → get_or (set xs i y) i d ≡ y
or_same [] i y d h = absurd (omega arith)
or_same (z ∷ xs) zero y d h = refl
or_same (z ∷ xs) (suc i) y d h = or_same xs i y d (omega arith)

suc_apart : (i j : ℕ) → suc j ≢ suc i → j ≢ i
suc_apart i j h e = h (ap (λ n. suc n) e)

or_other : {X : Type 0} (xs : List X) (i j : ℕ) (y d : X) → j ≢ i → get_or (set xs i y) j d ≡ get_or xs j d
or_other [] i j y d h = refl
or_other (w ∷ xs) zero zero y d h = absurd (h refl)
or_other (w ∷ xs) zero (suc j) y d h = refl
or_other (w ∷ xs) (suc i) zero y d h = refl
or_other (w ∷ xs) (suc i) (suc j) y d h = or_other xs i j y d (suc_apart i j h)

or_ended : {X : Type 0} (xs : List X) (d : X) (i : ℕ) → get_or (xs ++ d ∷ []) i d ≡ get_or xs i d
or_ended [] d zero = refl
or_ended [] d (suc i) = refl
or_ended (z ∷ xs) d zero = refl
or_ended (z ∷ xs) d (suc i) = or_ended xs d i

pub or_old : {X : Type 0} (xs : List X) (y d : X) (i : ℕ) → i < length xs → get_or (xs ++ y ∷ []) i d ≡ get_or xs i d
or_old [] y d i h = absurd (omega arith)
or_old (z ∷ xs) y d zero h = refl
or_old (z ∷ xs) y d (suc i) h = or_old xs y d i (omega arith)

pub or_last : {X : Type 0} (xs : List X) (y d : X) → get_or (xs ++ y ∷ []) (length xs) d ≡ y
or_last [] y d = refl
or_last (z ∷ xs) y d = or_last xs y d

or_past : {X : Type 0} (xs : List X) (d : X) (i : ℕ) → length xs ≤ i → get_or xs i d ≡ d
or_past [] d i h = refl
or_past (z ∷ xs) d zero h = absurd (omega arith)
or_past (z ∷ xs) d (suc i) h = or_past xs d i (omega arith)

-- The places and the next number of a line.

places_same : (lines : List (List Place)) (line : ℕ) (ps : List Place) → 1 ≤ line → line ≤ length lines → places_of (set lines (line - 1) ps) line ≡ ps
places_same lines zero ps one most = absurd (omega arith)
places_same lines (suc i) ps one most = let e : suc i - 1 ≡ i = omega arith in rw e (or_same lines i ps [] (omega arith))

places_other : (lines : List (List Place)) (line n : ℕ) (ps : List Place) → 1 ≤ line → n ≢ line → places_of (set lines (line - 1) ps) n ≡ places_of lines n
places_other lines zero n ps one apart = absurd (omega arith)
places_other lines (suc i) zero ps one apart = refl
places_other lines (suc i) (suc j) ps one apart = let e : suc i - 1 ≡ i = omega arith in rw e (or_other lines i j ps [] (suc_apart i j apart))

next_same : (nexts : List ℕ) (line v : ℕ) → 1 ≤ line → line ≤ length nexts → next_at (set nexts (line - 1) v) line ≡ v
next_same nexts zero v one most = absurd (omega arith)
next_same nexts (suc i) v one most = let e : suc i - 1 ≡ i = omega arith in rw e (or_same nexts i v 0 (omega arith))

next_other : (nexts : List ℕ) (line n v : ℕ) → 1 ≤ line → n ≢ line → next_at (set nexts (line - 1) v) n ≡ next_at nexts n
next_other nexts zero n v one apart = absurd (omega arith)
next_other nexts (suc i) zero v one apart = refl
next_other nexts (suc i) (suc j) v one apart = let e : suc i - 1 ≡ i = omega arith in rw e (or_other nexts i j v 0 (suc_apart i j apart))

same_line : (line n : ℕ) → (n ≡ line) ⊎ (n ≢ line)
same_line line n = by (nat_eq n line) refl
  where
    by : (b : Bool) → nat_eq n line ≡ b → (n ≡ line) ⊎ (n ≢ line)
    by true e = inl (grind (arith, nat_tests))
    by false e = inr (grind (arith, nat_tests))

-- One that is posted.

-- where it stands
abbrev place_by : Mail → Posting → Place
place_by mail (Send t to r askers) = Sent (length mail.sent)
place_by mail (Sleep t) = Slept (length mail.sleeps)

named_so : (at : ℕ) (p : Posting) (mail : Mail) → (posted_at at p mail).tickets ≡ naming mail.tickets (ticket_in p).beat (ticket_in p).line (place_by mail p)
named_so at (Send t to r askers) mail = refl
named_so at (Sleep t) mail = refl

counted_next : (places : List (List Place)) (nexts : List ℕ) (line : ℕ) (place : Place) → 1 ≤ line → line ≤ length nexts → AreCounted places nexts → AreCounted (naming_in places line place) (with_next nexts line)
counted_next places nexts line place first last a = record {
  lines = length-set places (line - 1) (places_of places line ++ place ∷ []) ∙ a.lines ∙ sym (length-set nexts (line - 1) (next_at nexts line + 1));
  numbers = λ n one most. by n one (subst (λ m. n ≤ m) (length-set nexts (line - 1) (next_at nexts line + 1)) most) (same_line line n);
}
  where
    here : line ≤ length places
    here = subst (λ m. line ≤ m) (sym a.lines) last

    by : (n : ℕ) → 1 ≤ n → n ≤ length nexts → (n ≡ line) ⊎ (n ≢ line) → next_at (with_next nexts line) n ≡ length (places_of (naming_in places line place) n) + 1
    by n one most (inl e) = subst (λ m. next_at (with_next nexts line) m ≡ length (places_of (naming_in places line place) m) + 1) (sym e)
        (next_same nexts line (next_at nexts line + 1) first last
        ∙ ap (λ k. k + 1) (a.numbers line first last ∙ sym (length-append (places_of places line) (place ∷ [])))
        ∙ ap (λ ps. length ps + 1) (sym (places_same places line (places_of places line ++ place ∷ []) first here)))
    by n one most (inr apart) = next_other nexts line n (next_at nexts line + 1) first apart ∙ a.numbers n one most
        ∙ ap (λ ps. length ps + 1) (sym (places_other places line n (places_of places line ++ place ∷ []) first apart))

numbered_next : (tickets : Tickets) (nexts : Nexts) (t : Ticket) (place : Place) → IsNext nexts t → AreNumbered tickets nexts → AreNumbered (naming tickets t.beat t.line place) (raised t.beat t.line nexts)
numbered_next tickets nexts t place next a = record { lanes = λ b. by b t.beat next.last }
  where
    by : (b c : Bool) → t.line ≤ length (numbers_of c nexts) → AreCounted (lane b (naming tickets c t.line place)) (numbers_of b (raised c t.line nexts))
    by false false last = counted_next tickets.calls nexts.calls t.line place next.first last (a.lanes false)
    by false true last = a.lanes false
    by true false last = a.lanes true
    by true true last = counted_next tickets.beats nexts.beats t.line place next.first last (a.lanes true)

pub length_raised : (b c : Bool) (line : ℕ) (nexts : Nexts) → length (numbers_of b (raised c line nexts)) ≡ length (numbers_of b nexts)
length_raised false false line nexts = length-set nexts.calls (line - 1) (next_at nexts.calls line + 1)
length_raised false true line nexts = refl
length_raised true false line nexts = refl
length_raised true true line nexts = length-set nexts.beats (line - 1) (next_at nexts.beats line + 1)

-- the numbers once that of a posting was used
abbrev pub used : Posting → Nexts → Nexts
used p nexts = raised (ticket_in p).beat (ticket_in p).line nexts

pub numbered_one : (at : ℕ) (p : Posting) (mail : Mail) (nexts : Nexts) → IsNext nexts (ticket_in p) → AreNumbered mail.tickets nexts → AreNumbered (posted_at at p mail).tickets (used p nexts)
numbered_one at p mail nexts next a = subst (λ ts. AreNumbered ts (used p nexts)) (sym (named_so at p mail)) (numbered_next mail.tickets nexts (ticket_in p) (place_by mail p) next a)

-- The mail has a place for it.

pub next_in : (t : Ticket) (mail : Mail) (nexts : Nexts) → IsNext nexts t → AreNumbered mail.tickets nexts → mails.IsNext mail t
next_in t mail nexts next a = record {
  first = next.first;
  last = subst (λ m. t.line ≤ m) (sym (a.lanes t.beat).lines) next.last;
  number = next.number ∙ (a.lanes t.beat).numbers t.line next.first next.last;
}

pub can_next : (p : Posting) (ps : List Posting) (mail : Mail) (nexts : Nexts) → CanPost (p ∷ ps) mail nexts → mails.IsNext mail (ticket_in p)
can_next p ps mail nexts c = next_in (ticket_in p) mail c.before c.numbers.0 c.numbered

pub can_rest : (at : ℕ) (p : Posting) (ps : List Posting) (mail : Mail) (nexts : Nexts) → CanPost (p ∷ ps) mail nexts → CanPost ps (posted_at at p mail) nexts
can_rest at p ps mail nexts c = record {
  before = used p c.before;
  numbered = numbered_one at p mail c.before c.numbers.0 c.numbered;
  numbers = c.numbers.2;
}

-- where nothing is posted
pub can_end : (done : Course) (old l : Lists) → newest l ≡ newest old → l.mail.tickets ≡ old.mail.tickets → l.sight ≡ old.sight → done.turn.posted.items ≡ [] → 1 ≤ newest old → IsEven old → CanClose done l
can_end done old l count tickets sight none some even = record {
  some = omega arith;
  post = subst (λ ps. CanPost ps l.mail l.sight.nexts) (sym none) (record {
    before = l.sight.nexts;
    numbered = subst (λ (s : Sight). AreNumbered l.mail.tickets s.nexts) (sym sight) (subst (λ ts. AreNumbered ts old.sight.nexts) (sym tickets) even.numbered);
    numbers = refl;
  });
}

-- One after the other.

pub sent_posts : (at : ℕ) (posted : List Posting) (p : Posting) (rest : List Posting) (mail after all : Mail) → posted ≡ p ∷ rest → after ≡ posted_at at p mail → all_posted at posted mail ≡ all → all_posted at rest after ≡ all
sent_posts at posted p rest mail after all a b h = ap (λ m. all_posted at rest m) b ∙ ap (λ ps. all_posted at ps mail) (sym a) ∙ h

pub sent_rest : (at : ℕ) (posted : List Posting) (p : Posting) (rest : List Posting) (mail after : Mail) (nexts : Nexts) → posted ≡ p ∷ rest → after ≡ posted_at at p mail → CanPost posted mail nexts → CanPost rest after nexts
sent_rest at posted p rest mail after nexts a b h = subst (λ m. CanPost rest m nexts) (sym b) (can_rest at p rest mail nexts (subst (λ ps. CanPost ps mail nexts) a h))

pub sent_tickets : (posted : List Posting) (p : Posting) (rest : List Posting) (before after all : List Ticket) (t : Ticket) → posted ≡ p ∷ rest → t ≡ ticket_in p → after ≡ before ++ t ∷ [] → before ++ map ticket_in posted ≡ all → after ++ map ticket_in rest ≡ all
sent_tickets posted p rest before after all t a b c h =
    ap (λ ts. ts ++ map ticket_in rest) (c ∙ ap (λ u. before ++ u ∷ []) b) ∙ append_assoc before (ticket_in p ∷ []) (map ticket_in rest) ∙ ap (λ ps. before ++ map ticket_in ps) (sym a) ∙ h

-- All that is posted.

pub numbered_all : (at : ℕ) (ps : List Posting) (mail : Mail) (from to : Nexts) → ArePosted from ps to → AreNumbered mail.tickets from → AreNumbered (all_posted at ps mail).tickets to
numbered_all at [] mail from to h a = subst (λ ns. AreNumbered mail.tickets ns) (sym h) a
numbered_all at (p ∷ ps) mail from to h a = numbered_all at ps (posted_at at p mail) (used p from) to h.2 (numbered_one at p mail from h.0 a)

pub lines_stay : (b : Bool) (ps : List Posting) (from to : Nexts) → ArePosted from ps to → length (numbers_of b to) ≡ length (numbers_of b from)
lines_stay b [] from to h = ap (λ ns. length (numbers_of b ns)) h
lines_stay b (p ∷ ps) from to h = lines_stay b ps (used p from) to h.2 ∙ length_raised b (ticket_in p).beat (ticket_in p).line from

pub mail_one : (at : ℕ) (p : Posting) (mail : Mail) → mails.IsNext mail (ticket_in p) → mails.IsMail mail → mails.IsMail (posted_at at p mail)
mail_one at (Send t to r askers) mail next m = sent_is_mail mail (record { ticket = t; at = at; to = to; request = r; askers = askers }) next m
mail_one at (Sleep t) mail next m = slept_is_mail mail (record { ticket = t; at = at }) next m

pub mail_all : (at : ℕ) (ps : List Posting) (mail : Mail) (from to : Nexts) → ArePosted from ps to → AreNumbered mail.tickets from → mails.IsMail mail → mails.IsMail (all_posted at ps mail)
mail_all at [] mail from to h a m = m
mail_all at (p ∷ ps) mail from to h a m = mail_all at ps (posted_at at p mail) (used p from) to h.2 (numbered_one at p mail from h.0 a) (mail_one at p mail (next_in (ticket_in p) mail from h.0 a) m)

-- Who asks for timestamps.

abbrev pub Asks : SentNote → Type 0
Asks s = AskFor s.ticket.line s.request s.askers

all_pushed : (ss : List SentNote) (s : SentNote) → All Asks ss → Asks s → All Asks (ss ++ s ∷ [])
all_pushed ss s h a = λ k d below. by k d (nat_lt k (length ss)) refl below
  where
    by : (k : ℕ) (d : SentNote) (b : Bool) → nat_lt k (length ss) ≡ b → k < length (ss ++ s ∷ []) → Asks (get_or (ss ++ s ∷ []) k d)
    by k d true e below = let l : k < length ss = grind (arith, nat_tests) in subst (λ x. Asks x) (sym (or_old ss s d k l)) (h k d l)
    by k d false e below =
        let n = length-append ss (s ∷ []) in
        let far : length ss ≤ k = grind (arith, nat_tests) in
        let last : k ≡ length ss = omega arith in
        subst (λ x. Asks x) (sym (ap (λ i. get_or (ss ++ s ∷ []) i d) last ∙ or_last ss s d)) a

asks_one : (at : ℕ) (p : Posting) (mail : Mail) → HasAskers p → All Asks mail.sent → All Asks (posted_at at p mail).sent
asks_one at (Send t to r askers) mail a h = all_pushed mail.sent (record { ticket = t; at = at; to = to; request = r; askers = askers }) h a
asks_one at (Sleep t) mail a h = h

pub asks_all : (at : ℕ) (ps : List Posting) (mail : Mail) (from to : Nexts) → ArePosted from ps to → All Asks mail.sent → All Asks (all_posted at ps mail).sent
asks_all at [] mail from to h a = a
asks_all at (p ∷ ps) mail from to h a = asks_all at ps (posted_at at p mail) (used p from) to h.2 (asks_one at p mail h.1 a)

-- A line more has named nothing.

places_opened : (lines : List (List Place)) (n : ℕ) → places_of (lines ++ [] ∷ []) n ≡ places_of lines n
places_opened lines zero = refl
places_opened lines (suc i) = or_ended lines [] i

next_old : (nexts : List ℕ) (n : ℕ) → n ≤ length nexts → next_at (nexts ++ 1 ∷ []) n ≡ next_at nexts n
next_old nexts zero h = refl
next_old nexts (suc i) h = or_old nexts 1 0 i (omega arith)

counted_opened : (places : List (List Place)) (nexts : List ℕ) → AreCounted places nexts → AreCounted (places ++ [] ∷ []) (nexts ++ 1 ∷ [])
counted_opened places nexts a = record {
  lines = length-append places ([] ∷ []) ∙ ap (λ n. n + 1) a.lines ∙ sym (length-append nexts (1 ∷ []));
  numbers = λ n one most. by n one (subst (λ m. n ≤ m) (length-append nexts (1 ∷ [])) most) (same_line (length nexts + 1) n);
}
  where
    last : (n : ℕ) → n ≡ length nexts + 1 → next_at (nexts ++ 1 ∷ []) n ≡ length (places_of (places ++ [] ∷ []) n) + 1
    last zero e = absurd (omega arith)
    last (suc i) e =
        let same : i ≡ length nexts = omega arith in
        let past : length places ≤ i = omega (arith, a.lines) in
        ap (λ k. get_or (nexts ++ 1 ∷ []) k 0) same ∙ or_last nexts 1 0
        ∙ ap (λ ps. length ps + 1) (sym (or_ended places [] i ∙ or_past places [] i past))

    by : (n : ℕ) → 1 ≤ n → n ≤ length nexts + 1 → (n ≡ length nexts + 1) ⊎ (n ≢ length nexts + 1) → next_at (nexts ++ 1 ∷ []) n ≡ length (places_of (places ++ [] ∷ []) n) + 1
    by n one most (inl e) = last n e
    by n one most (inr apart) =
        let old : n ≤ length nexts = omega arith in
        next_old nexts n old ∙ a.numbers n one old ∙ ap (λ ps. length ps + 1) (sym (places_opened places n))

pub numbered_opened : (tickets : Tickets) (nexts : Nexts) → AreNumbered tickets nexts → AreNumbered (opened_lanes tickets) (record { calls = nexts.calls ++ 1 ∷ []; beats = nexts.beats ++ 1 ∷ [] })
numbered_opened tickets nexts a = record { lanes = by }
  where
    by : (b : Bool) → AreCounted (lane b (opened_lanes tickets)) (numbers_of b (record { calls = nexts.calls ++ 1 ∷ []; beats = nexts.beats ++ 1 ∷ [] }))
    by false = counted_opened tickets.calls nexts.calls (a.lanes false)
    by true = counted_opened tickets.beats nexts.beats (a.lanes true)
