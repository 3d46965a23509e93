-- What each change of the lists keeps of the store and of what was sent.
use Rattle.std.proofs.Common.{◌≡◌, ◌≢◌, ℕ, zero, suc, ◌-◌, ◌<◌, ◌≤◌, inl, inr, Bool, true, false, if◌then◌else◌, List, [], ◌∷◌, ◌++◌, Option, Some, None, length, get_or, set, slice_get, is_some, nat_eq, reverse, refl, sym, ap, ◌∙◌, subst, arith, length-append, length-set}
use Rattle.std.proofs.lemmas.Bool.Decides.{nat_tests}
use Rattle.std.proofs.lemmas.List.{reverse-append}
use Rattle.txn_kv.specs.declared.request.Request.{Request}
use Rattle.txn_kv.specs.declared.reply.Reply.{Reply}
use Rattle.txn_kv.specs.declared.ticket.Ticket.{Ticket}
use Rattle.txn_kv.specs.declared.ticket.Target.{Target}
use Rattle.txn_history.specs.Event.{Event, same_ticket, sent_request, kept_reply, taken_reply, is_served}
use Rattle.txn_history.specs.Event.Event.{Sent, Served, Took}
use Rattle.txn_model.specs.Store.{Store}
use Rattle.txn_model.specs.Table.{table}
use Rattle.txn_law.specs.Run.{store_after}
use Rattle.txn_script.specs.declared.line.Line.{Line}
use Rattle.txn_script.specs.declared.line.Line.TheVariants.{Blank, Client, Begin, Put, Commit, Deliver}
use Rattle.txn_report.specs.declared.outcome.Outcome.{Outcome}
use Rattle.txn_report.specs.declared.outcome.Outcome.TheVariants.{Unfinished, Done}
use Rattle.txn_report.specs.declared.report.SentNote.{SentNote}
use Rattle.txn_first.specs.declared.post.Letter.{Letter}
use Rattle.txn_first.specs.Posting.{places_of, place_in, position, ticket_after, note_of, fresh}
use Rattle.txn_first.specs.Script.{outcome_of, is_done, find, does, serves, takes, takes_it, with_sends, history, served_tickets}
use Rattle.txn_first.specs.Stands.{request_of, request_in, MailFits}
use Rattle.txn_first.specs.Lists.{request_at}
use Rattle.txn_first.proofs.Lists.{get_old, get_last, get_pushed, get_below, get_put, get_within, or_last, position_set, position_fresh, same_is, same_itself}
use Rattle.txn_first.proofs.Histories.{outcome_old, flag_set, find_push, find_new, find_some, find_bound, sends_push, no_sends, all_push, all_more, history_same}

-- One row more.

places_old : (tickets : List (List ℕ)) (n : ℕ) → places_of (tickets ++ [] ∷ []) n ≡ places_of tickets n
places_old tickets zero = refl
places_old [] (suc zero) = refl
places_old [] (suc (suc i)) = refl
places_old (ps ∷ tickets) (suc zero) = refl
places_old (ps ∷ tickets) (suc (suc i)) = places_old tickets (suc i)

pub position_old : (tickets : List (List ℕ)) (t : Ticket) → position (tickets ++ [] ∷ []) t ≡ position tickets t
position_old tickets t = ap (λ (z : Option ℕ). if t.beat then None else z) (ap (λ ps. place_in ps t.number) (places_old tickets t.line))

-- a line that serves nothing
abbrev pub IsQuiet : Line → Outcome → Type 0
IsQuiet Blank o = Unit {0}
IsQuiet Client o = Unit {0}
IsQuiet (Begin client) o = Unit {0}
IsQuiet (Put x k v) o = Unit {0}
IsQuiet (Commit x) o = Unit {0}
IsQuiet (Deliver t) o = is_done o ≡ false

same_branches : (b : Bool) (es : List Event) → (if b then es else es) ≡ es
same_branches true es = refl
same_branches false es = refl

quiet_does : (looks : Ticket → Option Request) (l : Line) (o : Outcome) (es : List Event) → IsQuiet l o → (if is_done o then does looks l es else es) ≡ es
quiet_does looks Blank o es q = same_branches (is_done o) es
quiet_does looks Client o es q = same_branches (is_done o) es
quiet_does looks (Begin client) o es q = same_branches (is_done o) es
quiet_does looks (Put x k v) o es q = same_branches (is_done o) es
quiet_does looks (Commit x) o es q = same_branches (is_done o) es
quiet_does looks (Deliver t) o es q = rw q refl

-- the history of the lines before, when an outcome is told
history_old : (sent : List SentNote) (outs : List Outcome) (o : Outcome) (ls : List Line) → length outs ≡ length ls → history sent (outs ++ o ∷ []) ls ≡ history sent outs ls
history_old sent outs o ls e = history_same sent sent (outs ++ o ∷ []) outs ls (λ j m. ap is_done (outcome_old outs o j (omega arith))) (λ j m t. refl) (λ j m es. refl)

outcome_new : (outs : List Outcome) (o : Outcome) (ls : List Line) → length outs ≡ length ls → outcome_of (outs ++ o ∷ []) (suc (length ls)) ≡ o
outcome_new outs o ls e = subst (λ n. get_or (outs ++ o ∷ []) n Unfinished ≡ o) e (or_last outs o Unfinished)

pub mail_opened : (es : List Event) (ls : List Line) (store : Store) (sent : List SentNote) (letters : List Letter) (tickets : List (List ℕ)) (outs : List Outcome) (served : List Ticket) (l : Line) (o : Outcome)
    → IsQuiet l o → MailFits es ls store sent letters tickets outs served → MailFits es (l ∷ ls) store sent letters (tickets ++ [] ∷ []) (outs ++ o ∷ []) served
mail_opened es ls store sent letters tickets outs served l o q m = record {
  told = let a = length-append outs (o ∷ []) in let b = m.told in omega arith;
  rowed = let a = length-append tickets ([] ∷ []) in let b = m.rowed in omega arith;
  lettered = m.lettered;
  is = no_sends sent (suc (length ls)) _ m.before ∙ ap (λ z. if is_done z then does (λ t. find sent (suc (length ls)) t) l (history sent (outs ++ o ∷ []) ls) else history sent (outs ++ o ∷ []) ls) (outcome_new outs o ls m.told) ∙ quiet_does (λ t. find sent (suc (length ls)) t) l o (history sent (outs ++ o ∷ []) ls) q ∙ history_old sent outs o ls m.told ∙ m.is;
  stored = m.stored;
  handed = m.handed;
  before = all_more (suc (length ls)) sent m.before;
  placed = λ t p e. m.placed t p (sym (position_old tickets t) ∙ e);
  noted = λ p s e. position_old tickets s.ticket ∙ m.noted p s e;
  found = λ t. find_bound sent (suc (length ls)) t m.before ∙ m.found t ∙ ap (λ z. request_in sent z) (sym (position_old tickets t));
  listed = λ t. m.listed t ∙ ap (λ z. request_in sent z) (sym (position_old tickets t));
  unsent = m.unsent;
  letter = m.letter;
}

-- An outcome comes late.

pub mail_ended : (es : List Event) (lines : List Line) (store : Store) (sent : List SentNote) (letters : List Letter) (tickets : List (List ℕ)) (outs : List Outcome) (served : List Ticket) (i : ℕ) (o : Outcome)
    → slice_get outs i ≡ Some Unfinished → is_done o ≡ false → MailFits es lines store sent letters tickets outs served → MailFits es lines store sent letters tickets (set outs i o) served
mail_ended es lines store sent letters tickets outs served i o g f m = record {
  told = length-set outs i o ∙ m.told;
  rowed = m.rowed;
  lettered = m.lettered;
  is = history_same sent sent (set outs i o) outs lines (λ j l. flag_set is_done outs i j o g f) (λ j l t. refl) (λ j l es. refl) ∙ m.is;
  stored = m.stored;
  handed = m.handed;
  before = m.before;
  placed = m.placed;
  noted = m.noted;
  found = m.found;
  listed = m.listed;
  unsent = m.unsent;
  letter = m.letter;
}

-- A request is sent in the step of the newest line.

request_old : (sent ys : List SentNote) (tickets : List (List ℕ)) (t : Ticket) → ((p : ℕ) → position tickets t ≡ Some p → p < length sent) → request_in (sent ++ ys) (position tickets t) ≡ request_in sent (position tickets t)
request_old sent ys tickets t inside = by_place (position tickets t) refl
  where
    by_place : (o : Option ℕ) → position tickets t ≡ o → request_in (sent ++ ys) o ≡ request_in sent o
    by_place None e = refl
    by_place (Some p) e = ap request_of (get_below sent ys p (inside p e))

module _ (es : List Event) (line : Line) (ls : List Line) (store : Store) (sent : List SentNote) (letters : List Letter) (tickets : List (List ℕ)) (outs : List Outcome) (served : List Ticket) (x : ℕ) (to : Target) (r : Request)
    (one : 1 ≤ x) (last : x ≤ length tickets) (m : MailFits es (line ∷ ls) store sent letters tickets outs served) where
  note : SentNote
  note = note_of tickets x (length outs) to r

  next : Ticket
  next = ticket_after tickets x

  more : List (List ℕ)
  more = set tickets (x - 1) (places_of tickets x ++ length sent ∷ [])

  placed_within : (t : Ticket) (p : ℕ) → position tickets t ≡ Some p → p < length sent
  placed_within t p e = let h = m.placed t p e in get_within sent p h.0 h.1

  at_line : length outs ≡ suc (length ls)
  at_line = m.told

  nothing : find sent (suc (suc (length ls))) (ticket_after tickets x) ≡ None
  nothing = m.found (ticket_after tickets x) ∙ ap (λ z. request_in sent z) (position_fresh tickets x)

  moved : (t : Ticket) → position (set tickets (x - 1) (places_of tickets x ++ length sent ∷ [])) t ≡ (if same_ticket (ticket_after tickets x) t then Some (length sent) else position tickets t)
  moved t = position_set tickets x (length sent) t one last

  found_more : (t : Ticket) → find (sent ++ note_of tickets x (length outs) to r ∷ []) (suc (suc (length ls))) t ≡ request_in (sent ++ note_of tickets x (length outs) to r ∷ []) (position (set tickets (x - 1) (places_of tickets x ++ length sent ∷ [])) t)
  found_more t = by_test (same_ticket (ticket_after tickets x) t) refl
    where
      below : length outs < suc (suc (length ls))
      below = let a = m.told in omega arith

      by_test : (b : Bool) → same_ticket (ticket_after tickets x) t ≡ b → find (sent ++ note_of tickets x (length outs) to r ∷ []) (suc (suc (length ls))) t ≡ request_in (sent ++ note_of tickets x (length outs) to r ∷ []) (position (set tickets (x - 1) (places_of tickets x ++ length sent ∷ [])) t)
      by_test true e =
          let is = same_is (ticket_after tickets x) t e in
          let none : find sent (suc (suc (length ls))) t ≡ None = subst (λ u. find sent (suc (suc (length ls))) u ≡ None) is nothing in
          find_new sent (note_of tickets x (length outs) to r) (suc (suc (length ls))) t below none
          ∙ ap (λ (b : Bool). if b then Some r else None) e
          ∙ sym (ap (λ z. request_in (sent ++ note_of tickets x (length outs) to r ∷ []) z) (moved t ∙ ap (λ (b : Bool). if b then Some (length sent) else position tickets t) e) ∙ ap request_of (get_last sent (note_of tickets x (length outs) to r)))
      by_test false e = by_found (find sent (suc (suc (length ls))) t) refl
        where
          there : request_in (sent ++ note_of tickets x (length outs) to r ∷ []) (position (set tickets (x - 1) (places_of tickets x ++ length sent ∷ [])) t) ≡ find sent (suc (suc (length ls))) t
          there = ap (λ z. request_in (sent ++ note_of tickets x (length outs) to r ∷ []) z) (moved t ∙ ap (λ (b : Bool). if b then Some (length sent) else position tickets t) e) ∙ request_old sent (note_of tickets x (length outs) to r ∷ []) tickets t (placed_within t) ∙ sym (m.found t)

          by_found : (o : Option Request) → find sent (suc (suc (length ls))) t ≡ o → find (sent ++ note_of tickets x (length outs) to r ∷ []) (suc (suc (length ls))) t ≡ request_in (sent ++ note_of tickets x (length outs) to r ∷ []) (position (set tickets (x - 1) (places_of tickets x ++ length sent ∷ [])) t)
          by_found None f = find_new sent (note_of tickets x (length outs) to r) (suc (suc (length ls))) t below f ∙ ap (λ (b : Bool). if b then Some r else None) e ∙ sym (there ∙ f)
          by_found (Some q) f = find_some sent (note_of tickets x (length outs) to r) (suc (suc (length ls))) t q f ∙ sym (there ∙ f)

  history_more : history (sent ++ note_of tickets x (length outs) to r ∷ []) outs (line ∷ ls) ≡ Sent (ticket_after tickets x) r ∷ es
  history_more =
      let s : SentNote = note_of tickets x (length outs) to r in
      let n : ℕ = suc (length ls) in
      let e : length outs ≡ suc (length ls) = m.told in
      let before : history (sent ++ s ∷ []) outs ls ≡ history sent outs ls =
      history_same (sent ++ s ∷ []) sent outs outs ls (λ j k. refl) (λ j k t. find_push sent s j t (omega arith)) (λ j k h.
      let apart : nat_eq (length outs) j ≡ false = grind (arith, nat_tests) in
      sends_push sent s j h ∙ ap (λ (b : Bool). if b then Sent s.ticket s.request ∷ with_sends sent j h else with_sends sent j h) apart) in
      let f : Ticket → Option Request = λ t. find (sent ++ s ∷ []) (suc (length ls)) t in
      let g : Ticket → Option Request = λ t. find sent (suc (length ls)) t in
      let looks : f ≡ g = λ i t. find_push sent s (suc (length ls)) t (omega arith) i in
      let body : (if is_done (outcome_of outs (suc (length ls))) then does f line (history (sent ++ s ∷ []) outs ls) else history (sent ++ s ∷ []) outs ls) ≡ (if is_done (outcome_of outs (suc (length ls))) then does g line (history sent outs ls) else history sent outs ls) =
      λ i. if is_done (outcome_of outs (suc (length ls))) then does (looks i) line (before i) else before i in
      let here : nat_eq (length outs) (suc (length ls)) ≡ true = grind (arith, nat_tests) in
      ap (λ h. with_sends (sent ++ s ∷ []) (suc (length ls)) h) body
      ∙ sends_push sent s (suc (length ls)) _
      ∙ ap (λ (b : Bool). if b then Sent s.ticket s.request ∷ history sent outs (line ∷ ls) else history sent outs (line ∷ ls)) here
      ∙ ap (λ h. Sent s.ticket s.request ∷ h) m.is

  listed_more : (t : Ticket) → sent_request (Sent (ticket_after tickets x) r ∷ es) t ≡ request_in (sent ++ note_of tickets x (length outs) to r ∷ []) (position (set tickets (x - 1) (places_of tickets x ++ length sent ∷ [])) t)
  listed_more t = by_test (same_ticket (ticket_after tickets x) t) refl
    where
      by_test : (b : Bool) → same_ticket (ticket_after tickets x) t ≡ b → (if b then Some r else sent_request es t) ≡ request_in (sent ++ note_of tickets x (length outs) to r ∷ []) (position (set tickets (x - 1) (places_of tickets x ++ length sent ∷ [])) t)
      by_test true e = sym (ap (λ z. request_in (sent ++ note_of tickets x (length outs) to r ∷ []) z) (moved t ∙ ap (λ (b : Bool). if b then Some (length sent) else position tickets t) e) ∙ ap request_of (get_last sent (note_of tickets x (length outs) to r)))
      by_test false e = m.listed t ∙ sym (ap (λ z. request_in (sent ++ note_of tickets x (length outs) to r ∷ []) z) (moved t ∙ ap (λ (b : Bool). if b then Some (length sent) else position tickets t) e) ∙ request_old sent (note_of tickets x (length outs) to r ∷ []) tickets t (placed_within t))

  placed_more : (t : Ticket) (p : ℕ) → position (set tickets (x - 1) (places_of tickets x ++ length sent ∷ [])) t ≡ Some p → (s : SentNote) × (slice_get (sent ++ note_of tickets x (length outs) to r ∷ []) p ≡ Some s) × (s.ticket ≡ t)
  placed_more t p e = by_test (same_ticket (ticket_after tickets x) t) refl (sym (moved t) ∙ e)
    where
      by_test : (b : Bool) → same_ticket (ticket_after tickets x) t ≡ b → (if same_ticket (ticket_after tickets x) t then Some (length sent) else position tickets t) ≡ Some p → (s : SentNote) × (slice_get (sent ++ note_of tickets x (length outs) to r ∷ []) p ≡ Some s) × (s.ticket ≡ t)
      by_test true f g =
          let at : Some (length sent) ≡ Some p = sym (ap (λ (b : Bool). if b then Some (length sent) else position tickets t) f) ∙ g in
          let is : length sent ≡ p = cc in
          (note_of tickets x (length outs) to r, subst (λ q. slice_get (sent ++ note_of tickets x (length outs) to r ∷ []) q ≡ Some (note_of tickets x (length outs) to r)) is (get_last sent (note_of tickets x (length outs) to r)), same_is (ticket_after tickets x) t f)
      by_test false f g =
          let at : position tickets t ≡ Some p = sym (ap (λ (b : Bool). if b then Some (length sent) else position tickets t) f) ∙ g in
          let h = m.placed t p at in
          (h.0, get_old sent (note_of tickets x (length outs) to r ∷ []) p h.0 h.1, h.2)

  noted_more : (p : ℕ) (s : SentNote) → slice_get (sent ++ note_of tickets x (length outs) to r ∷ []) p ≡ Some s → position (set tickets (x - 1) (places_of tickets x ++ length sent ∷ [])) s.ticket ≡ Some p
  noted_more p s e = elim (get_pushed sent (note_of tickets x (length outs) to r) p s e) [
    | inl a ↦ old a
    | inr a ↦ new a.0 a.1
  ]
    where
      old : slice_get sent p ≡ Some s → position (set tickets (x - 1) (places_of tickets x ++ length sent ∷ [])) s.ticket ≡ Some p
      old a = moved s.ticket ∙ by_test (same_ticket (ticket_after tickets x) s.ticket) refl
        where
          by_test : (b : Bool) → same_ticket (ticket_after tickets x) s.ticket ≡ b → (if b then Some (length sent) else position tickets s.ticket) ≡ Some p
          by_test true f =
              let is = same_is (ticket_after tickets x) s.ticket f in
              let none : position tickets s.ticket ≡ None = subst (λ u. position tickets u ≡ None) is (position_fresh tickets x) in
              absurd (let some = m.noted p s a in cc)
          by_test false f = m.noted p s a

      new : p ≡ length sent → note_of tickets x (length outs) to r ≡ s → position (set tickets (x - 1) (places_of tickets x ++ length sent ∷ [])) s.ticket ≡ Some p
      new at is = subst (λ u. position (set tickets (x - 1) (places_of tickets x ++ length sent ∷ [])) u.ticket ≡ Some p) is (moved (ticket_after tickets x) ∙ ap (λ (b : Bool). if b then Some (length sent) else position tickets (ticket_after tickets x)) (same_itself (ticket_after tickets x)) ∙ ap (λ q. Some q) (sym at))

  -- nothing has happened to a ticket that was not sent
  letter_more : (p : ℕ) (s : SentNote) (v : Letter) → slice_get (sent ++ note_of tickets x (length outs) to r ∷ []) p ≡ Some s → slice_get (letters ++ fresh ∷ []) p ≡ Some v → (v.served ≡ is_served es s.ticket) × (v.gone ≡ is_some (taken_reply es s.ticket))
  letter_more p s v e f = elim (get_pushed sent (note_of tickets x (length outs) to r) p s e) [
    | inl a ↦ m.letter p s v a (old a)
    | inr a ↦ new a.0 a.1
  ]
    where
      unknown : sent_request es (ticket_after tickets x) ≡ None
      unknown = m.listed (ticket_after tickets x) ∙ ap (λ z. request_in sent z) (position_fresh tickets x)

      old : slice_get sent p ≡ Some s → slice_get letters p ≡ Some v
      old a = let b = get_within sent p s a in let c = m.lettered in sym (get_below letters (fresh ∷ []) p (omega arith)) ∙ f

      new : p ≡ length sent → note_of tickets x (length outs) to r ≡ s → (v.served ≡ is_served es s.ticket) × (v.gone ≡ is_some (taken_reply es s.ticket))
      new at is =
          let here : slice_get (letters ++ fresh ∷ []) p ≡ Some fresh = subst (λ q. slice_get (letters ++ fresh ∷ []) q ≡ Some fresh) (m.lettered ∙ sym at) (get_last letters fresh) in
          let same : fresh ≡ v = let a = here in let b = f in cc in
          (ap (λ z. z.served) (sym same) ∙ sym (m.unsent (ticket_after tickets x) unknown).0 ∙ ap (λ z. is_served es z.ticket) is, ap (λ z. z.gone) (sym same) ∙ sym (m.unsent (ticket_after tickets x) unknown).1 ∙ ap (λ z. is_some (taken_reply es z.ticket)) is)

  pub mail_sent : MailFits (Sent (ticket_after tickets x) r ∷ es) (line ∷ ls) store (sent ++ note_of tickets x (length outs) to r ∷ []) (letters ++ fresh ∷ []) (set tickets (x - 1) (places_of tickets x ++ length sent ∷ [])) outs served
  mail_sent = record {
    told = m.told;
    rowed = length-set tickets (x - 1) (places_of tickets x ++ length sent ∷ []) ∙ m.rowed;
    lettered = let a = length-append letters (fresh ∷ []) in let b = length-append sent (note_of tickets x (length outs) to r ∷ []) in let c = m.lettered in omega arith;
    is = history_more;
    stored = m.stored;
    handed = m.handed;
    before = all_push (suc (suc (length ls))) sent (note_of tickets x (length outs) to r) m.before (let a = m.told in omega arith);
    placed = placed_more;
    noted = noted_more;
    found = found_more;
    listed = listed_more;
    unsent = λ t e. m.unsent t (past_test (same_ticket (ticket_after tickets x) t) (sent_request es t) e);
    letter = letter_more;
  }
    where
      past_test : (b : Bool) (o : Option Request) → (if b then Some r else o) ≡ None → o ≡ None
      past_test true o e = absurd (cc)
      past_test false o e = e

-- A request is handled, and its reply is taken, in a line of its own.

served_past : (b : Bool) (o : Option Reply) (a : Reply) → b ≡ false → is_some (if b then Some a else o) ≡ is_some o
served_past b o a e = ap (λ (c : Bool). is_some (if c then Some a else o)) e

pub request_at_is : (sent : List SentNote) (p : ℕ) (s : SentNote) → slice_get sent p ≡ Some s → request_at sent p ≡ s.request
request_at_is [] p s e = absurd (cc)
request_at_is (z ∷ sent) zero s e = let same : z ≡ s = cc in ap (λ y. y.request) same
request_at_is (z ∷ sent) (suc p) s e = request_at_is sent p s e

module _ (es : List Event) (ls : List Line) (store : Store) (sent : List SentNote) (letters : List Letter) (tickets : List (List ℕ)) (outs : List Outcome) (served : List Ticket) (t : Ticket) (p : ℕ)
    (at : position tickets t ≡ Some p) (m : MailFits es ls store sent letters tickets outs served) where
  -- what is served is what was sent
  pub sent_at : sent_request es t ≡ Some (request_at sent p)
  sent_at =
      let h = m.placed t p at in
      m.listed t ∙ ap (λ z. request_in sent z) at ∙ ap request_of h.1 ∙ ap (λ z. Some z) (sym (request_at_is sent p h.0 h.1))

  found_at : find sent (suc (length ls)) t ≡ Some (request_at sent p)
  found_at = m.found t ∙ sym (m.listed t) ∙ sent_at

  delivered_is : history sent (outs ++ Done ∷ []) (Deliver t ∷ ls) ≡ Took t (request_at sent p) (table store (request_at sent p)).reply ∷ Served t (request_at sent p) (table store (request_at sent p)).reply ∷ es
  delivered_is =
      let r = request_at sent p in
      let o : Reply = (table (store_after es) r).reply in
      let h : history sent (outs ++ Done ∷ []) ls ≡ es = history_old sent outs Done ls m.told ∙ m.is in
      no_sends sent (suc (length ls)) _ m.before
      ∙ ap (λ z. if is_done z then takes t (find sent (suc (length ls)) t) (serves t (find sent (suc (length ls)) t) (history sent (outs ++ Done ∷ []) ls)) else history sent (outs ++ Done ∷ []) ls) (outcome_new outs Done ls m.told)
      ∙ ap (λ z. takes t z (serves t z (history sent (outs ++ Done ∷ []) ls))) found_at
      ∙ ap (λ z. takes t (Some r) (serves t (Some r) z)) h
      ∙ ap (λ (b : Bool). takes_it t r (if b then Some o else kept_reply es t) (Served t r o ∷ es)) (same_itself t)
      ∙ ap (λ st. Took t r (table st r).reply ∷ Served t r (table st r).reply ∷ es) (sym m.stored)

  other_ticket : (q : ℕ) (s : SentNote) → slice_get sent q ≡ Some s → q ≢ p → same_ticket t s.ticket ≡ false
  other_ticket q s e apart = by_test (same_ticket t s.ticket) refl
    where
      by_test : (b : Bool) → same_ticket t s.ticket ≡ b → b ≡ false
      by_test true f =
          let is = same_is t s.ticket f in
          let a : position tickets t ≡ Some q = subst (λ u. position tickets u ≡ Some q) (sym is) (m.noted q s e) in
          absurd (apart (let b = at in cc))
      by_test false f = refl

  same_ticket_at : (s : SentNote) → slice_get sent p ≡ Some s → same_ticket t s.ticket ≡ true
  same_ticket_at s e =
      let h = m.placed t p at in
      let same : h.0 ≡ s = let a = h.1 in cc in
      subst (λ u. same_ticket t u ≡ true) (sym h.2 ∙ ap (λ z. z.ticket) same) (same_itself t)

  delivered_letter : (o : Reply) (q : ℕ) (s : SentNote) (v : Letter) → slice_get sent q ≡ Some s → slice_get (set letters p (record { served = true; gone = true })) q ≡ Some v
      → (v.served ≡ is_served (Took t (request_at sent p) o ∷ Served t (request_at sent p) o ∷ es) s.ticket) × (v.gone ≡ is_some (taken_reply (Took t (request_at sent p) o ∷ Served t (request_at sent p) o ∷ es) s.ticket))
  delivered_letter o q s v e f = elim (get_put letters p q (record { served = true; gone = true }) v f) [
    | inl a ↦ new a.0 a.1
    | inr a ↦ old a.0 a.1
  ]
    where
      new : q ≡ p → record { served = true; gone = true } ≡ v → (v.served ≡ is_some (if same_ticket t s.ticket then Some o else kept_reply es s.ticket)) × (v.gone ≡ is_some (if same_ticket t s.ticket then Some o else taken_reply es s.ticket))
      new here is =
          let f = same_ticket_at s (subst (λ z. slice_get sent z ≡ Some s) here e) in
          (ap (λ z. z.served) (sym is) ∙ sym (ap (λ (b : Bool). is_some (if b then Some o else kept_reply es s.ticket)) f), ap (λ z. z.gone) (sym is) ∙ sym (ap (λ (b : Bool). is_some (if b then Some o else taken_reply es s.ticket)) f))

      old : q ≢ p → slice_get letters q ≡ Some v → (v.served ≡ is_some (if same_ticket t s.ticket then Some o else kept_reply es s.ticket)) × (v.gone ≡ is_some (if same_ticket t s.ticket then Some o else taken_reply es s.ticket))
      old apart g =
          let h = m.letter q s v e g in
          let f = other_ticket q s e apart in
          (h.0 ∙ sym (served_past (same_ticket t s.ticket) (kept_reply es s.ticket) o f), h.1 ∙ sym (served_past (same_ticket t s.ticket) (taken_reply es s.ticket) o f))

  delivered_unsent : (o : Reply) (u : Ticket) → sent_request es u ≡ None → (is_served (Took t (request_at sent p) o ∷ Served t (request_at sent p) o ∷ es) u ≡ false) × (is_some (taken_reply (Took t (request_at sent p) o ∷ Served t (request_at sent p) o ∷ es) u) ≡ false)
  delivered_unsent o u e = by_test (same_ticket t u) refl
    where
      by_test : (b : Bool) → same_ticket t u ≡ b → (is_some (if same_ticket t u then Some o else kept_reply es u) ≡ false) × (is_some (if same_ticket t u then Some o else taken_reply es u) ≡ false)
      by_test true f =
          let is = same_is t u f in
          absurd (let a = subst (λ z. sent_request es z ≡ None) (sym is) e in let b = sent_at in cc)
      by_test false f =
          let h = m.unsent u e in
          (served_past (same_ticket t u) (kept_reply es u) o f ∙ h.0, served_past (same_ticket t u) (taken_reply es u) o f ∙ h.1)

  pub mail_delivered : MailFits (Took t (request_at sent p) (table store (request_at sent p)).reply ∷ Served t (request_at sent p) (table store (request_at sent p)).reply ∷ es) (Deliver t ∷ ls) (table store (request_at sent p)).store sent (set letters p (record { served = true; gone = true })) (tickets ++ [] ∷ []) (outs ++ Done ∷ []) (served ++ t ∷ [])
  mail_delivered = record {
    told = let a = length-append outs (Done ∷ []) in let b = m.told in omega arith;
    rowed = let a = length-append tickets ([] ∷ []) in let b = m.rowed in omega arith;
    lettered = length-set letters p (record { served = true; gone = true }) ∙ m.lettered;
    is = delivered_is;
    stored = ap (λ st. (table st (request_at sent p)).store) m.stored;
    handed = ap (λ z. z ++ t ∷ []) m.handed ∙ sym (reversed (served_tickets es));
    before = all_more (suc (length ls)) sent m.before;
    placed = λ u q e. m.placed u q (sym (position_old tickets u) ∙ e);
    noted = λ q s e. position_old tickets s.ticket ∙ m.noted q s e;
    found = λ u. find_bound sent (suc (length ls)) u m.before ∙ m.found u ∙ ap (λ z. request_in sent z) (sym (position_old tickets u));
    listed = λ u. m.listed u ∙ ap (λ z. request_in sent z) (sym (position_old tickets u));
    unsent = delivered_unsent (table store (request_at sent p)).reply;
    letter = delivered_letter (table store (request_at sent p)).reply;
  }
    where
      reversed : (ts : List Ticket) → reverse (t ∷ ts) ≡ reverse ts ++ t ∷ []
      reversed ts = reverse-append (t ∷ []) ts
