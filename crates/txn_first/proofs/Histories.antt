-- Histories while a script goes on.
use Rattle.std.proofs.Common.{◌≡◌, ◌≢◌, ℕ, zero, suc, ◌<◌, ◌≤◌, Bool, true, false, ◌&&◌, if◌then◌else◌, List, [], ◌∷◌, ◌++◌, Option, Some, None, length, get_or, set, slice_get, nat_eq, nat_lt, refl, sym, ap, ◌∙◌, subst, arith}
use Rattle.std.proofs.lemmas.Bool.Decides.{nat_tests}
use Rattle.txn_kv.specs.declared.reply.Reply.{Reply}
use Rattle.txn_kv.specs.declared.request.Request.{Request}
use Rattle.txn_kv.specs.declared.ticket.Ticket.{Ticket}
use Rattle.txn_history.specs.Event.{Event, is_refused, kept_reply, same_ticket}
use Rattle.txn_history.specs.Event.Event.{Sent}
use Rattle.txn_script.specs.declared.line.Line.{Line}
use Rattle.txn_script.specs.declared.line.Line.TheVariants.{Deliver}
use Rattle.txn_report.specs.declared.outcome.Outcome.{Outcome}
use Rattle.txn_report.specs.declared.outcome.Outcome.TheVariants.{Unfinished}
use Rattle.txn_report.specs.declared.report.SentNote.{SentNote}
use Rattle.txn_first.specs.Script.{outcome_of, is_done, find, does, history, serves, takes, takes_it, with_sends}
use Rattle.txn_first.specs.Stands.{AllBefore}
use Rattle.txn_first.proofs.Lists.{or_pushed, or_same, or_other, get_is_or, get_within}

-- Outcomes.

pub outcome_old : (outs : List Outcome) (o : Outcome) (n : ℕ) → n ≤ length outs → outcome_of (outs ++ o ∷ []) n ≡ outcome_of outs n
outcome_old outs o zero h = refl
outcome_old outs o (suc i) h = or_pushed outs o Unfinished i (omega arith)

-- a test of outcomes that the new one meets as Unfinished does
pub flag_set : (f : Outcome → Bool) (outs : List Outcome) (i n : ℕ) (o : Outcome) → slice_get outs i ≡ Some Unfinished → f o ≡ f Unfinished → f (outcome_of (set outs i o) n) ≡ f (outcome_of outs n)
flag_set f outs i zero o g e = refl
flag_set f outs i (suc j) o g e = by_place (nat_eq j i) refl
  where
    by_place : (b : Bool) → nat_eq j i ≡ b → f (get_or (set outs i o) j Unfinished) ≡ f (get_or outs j Unfinished)
    by_place true q =
        let same : j ≡ i = grind (arith, nat_tests) in
        let a : get_or (set outs i o) i Unfinished ≡ o = or_same outs i o Unfinished (get_within outs i Unfinished g) in
        let b : get_or outs i Unfinished ≡ Unfinished = get_is_or outs i Unfinished Unfinished g in
        subst (λ k. f (get_or (set outs i o) k Unfinished) ≡ f (get_or outs k Unfinished)) (sym same) (ap f a ∙ e ∙ sym (ap f b))
    by_place false q = let apart : j ≢ i = grind (arith, nat_tests) in ap f (or_other outs i j o Unfinished apart)

-- Requests.

-- a note that is sent at line n or later says nothing before n
pub find_push : (ns : List SentNote) (s : SentNote) (n : ℕ) (t : Ticket) → n ≤ s.at → find (ns ++ s ∷ []) n t ≡ find ns n t
find_push [] s n t h =
    let e : nat_lt s.at n ≡ false = grind (arith, nat_tests) in
    rw e (at_false (same_ticket s.ticket t))
  where
    at_false : (b : Bool) → ◌≡◌ {A = Option Request} (if b && false then Some s.request else None) None
    at_false true = refl
    at_false false = refl
find_push (m ∷ ns) s n t h = ap (λ (z : Option Request). if same_ticket m.ticket t && nat_lt m.at n then Some m.request else z) (find_push ns s n t h)

past : (b : Bool) (x y z : Option Request) (r : Request) → (x ≡ None → y ≡ z) → (if b then Some r else x) ≡ None → (if b then Some r else y) ≡ z
past true x y z r more e = absurd (cc)
past false x y z r more e = more e

-- and afterwards it is found under its ticket, if no other is
pub find_new : (ns : List SentNote) (s : SentNote) (n : ℕ) (t : Ticket) → s.at < n → find ns n t ≡ None → find (ns ++ s ∷ []) n t ≡ (if same_ticket s.ticket t then Some s.request else None)
find_new [] s n t h e =
    let l : nat_lt s.at n ≡ true = grind (arith, nat_tests) in
    rw l (at_true (same_ticket s.ticket t))
  where
    at_true : (b : Bool) → ◌≡◌ {A = Option Request} (if b && true then Some s.request else None) (if b then Some s.request else None)
    at_true true = refl
    at_true false = refl
find_new (m ∷ ns) s n t h e = past (same_ticket m.ticket t && nat_lt m.at n) (find ns n t) (find (ns ++ s ∷ []) n t) _ m.request (find_new ns s n t h) e

still : (b : Bool) (x y : Option Request) (r q : Request) → (x ≡ Some q → y ≡ Some q) → (if b then Some r else x) ≡ Some q → (if b then Some r else y) ≡ Some q
still true x y r q more e = e
still false x y r q more e = more e

pub find_some : (ns : List SentNote) (s : SentNote) (n : ℕ) (t : Ticket) (r : Request) → find ns n t ≡ Some r → find (ns ++ s ∷ []) n t ≡ Some r
find_some [] s n t r e = absurd (cc)
find_some (m ∷ ns) s n t r e = still (same_ticket m.ticket t && nat_lt m.at n) (find ns n t) (find (ns ++ s ∷ []) n t) m.request r (find_some ns s n t r) e

pub find_bound : (ns : List SentNote) (n : ℕ) (t : Ticket) → AllBefore n ns → find ns (suc n) t ≡ find ns n t
find_bound [] n t a = refl
find_bound (m ∷ ns) n t a =
    let e = find_bound ns n t a.1 in
    let l = a.0 in
    let x : nat_lt m.at (suc n) ≡ true = grind (arith, nat_tests) in
    let y : nat_lt m.at n ≡ true = grind (arith, nat_tests) in
    rw (x, y, e) refl

pub sends_push : (ns : List SentNote) (s : SentNote) (n : ℕ) (es : List Event) → with_sends (ns ++ s ∷ []) n es ≡ (if nat_eq s.at n then Sent s.ticket s.request ∷ with_sends ns n es else with_sends ns n es)
sends_push [] s n es = refl
sends_push (m ∷ ns) s n es = sends_push ns s n (if nat_eq m.at n then Sent m.ticket m.request ∷ es else es)

pub no_sends : (ns : List SentNote) (n : ℕ) (es : List Event) → AllBefore n ns → with_sends ns n es ≡ es
no_sends [] n es a = refl
no_sends (m ∷ ns) n es a =
    let l = a.0 in
    let e : nat_eq m.at n ≡ false = grind (arith, nat_tests) in
    rw e (no_sends ns n es a.1)

pub all_push : (n : ℕ) (ns : List SentNote) (s : SentNote) → AllBefore n ns → s.at < n → AllBefore n (ns ++ s ∷ [])
all_push n [] s a h = (h, tt)
all_push n (m ∷ ns) s a h = (a.0, all_push n ns s a.1 h)

pub all_more : (n : ℕ) (ns : List SentNote) → AllBefore n ns → AllBefore (suc n) ns
all_more n [] a = tt
all_more n (m ∷ ns) a = let h = a.0 in (omega arith, all_more n ns a.1)

-- a history looks only at what its lines say
pub history_same : (sent sent' : List SentNote) (outs outs' : List Outcome) (ls : List Line)
    → ((j : ℕ) → j ≤ length ls → is_done (outcome_of outs j) ≡ is_done (outcome_of outs' j))
    → ((j : ℕ) → j ≤ length ls → (t : Ticket) → find sent j t ≡ find sent' j t)
    → ((j : ℕ) → j ≤ length ls → (es : List Event) → with_sends sent j es ≡ with_sends sent' j es)
    → history sent outs ls ≡ history sent' outs' ls
history_same sent sent' outs outs' [] a b c = refl
history_same sent sent' outs outs' (l ∷ ls) a b c =
    let h = history_same sent sent' outs outs' ls (λ j m. a j (omega arith)) (λ j m. b j (omega arith)) (λ j m. c j (omega arith)) in
    let n : ℕ = suc (length ls) in
    let f : Ticket → Option Request = λ t. find sent (suc (length ls)) t in
    let g : Ticket → Option Request = λ t. find sent' (suc (length ls)) t in
    let looks : f ≡ g = λ i t. b (suc (length ls)) (omega arith) t i in
    let body : (if is_done (outcome_of outs (suc (length ls))) then does f l (history sent outs ls) else history sent outs ls) ≡ (if is_done (outcome_of outs' (suc (length ls))) then does g l (history sent' outs' ls) else history sent' outs' ls) =
    λ i. if a (suc (length ls)) (omega arith) i then does (looks i) l (h i) else h i in
    c (suc (length ls)) (omega arith) _ ∙ ap (λ x. with_sends sent' (suc (length ls)) x) body

-- No store is too busy for a request of a script.

sends_refused : (ss : List SentNote) (n : ℕ) (es : List Event) (t : Ticket) → is_refused (with_sends ss n es) t ≡ is_refused es t
sends_refused [] n es t = refl
sends_refused (s ∷ ss) n es t = sends_refused ss n _ t ∙ by (nat_eq s.at n)
  where
    by : (b : Bool) → is_refused (if b then Sent s.ticket s.request ∷ es else es) t ≡ is_refused es t
    by true = refl
    by false = refl

serves_refused : (u : Ticket) (o : Option Request) (es : List Event) (t : Ticket) → is_refused (serves u o es) t ≡ is_refused es t
serves_refused u None es t = refl
serves_refused u (Some r) es t = refl

takes_refused : (u : Ticket) (o : Option Request) (es : List Event) (t : Ticket) → is_refused (takes u o es) t ≡ is_refused es t
takes_refused u None es t = refl
takes_refused u (Some r) es t = by (kept_reply es u)
  where
    by : (o : Option Reply) → is_refused (takes_it u r o es) t ≡ is_refused es t
    by None = refl
    by (Some x) = refl

does_refused : (looks : Ticket → Option Request) (l : Line) (es : List Event) (t : Ticket) → is_refused (does looks l es) t ≡ is_refused es t
does_refused looks (Deliver u) es t = takes_refused u (looks u) (serves u (looks u) es) t ∙ serves_refused u (looks u) es t
does_refused looks _ es t = refl

pub none_refused : (sent : List SentNote) (outs : List Outcome) (ls : List Line) (t : Ticket) → is_refused (history sent outs ls) t ≡ false
none_refused sent outs [] t = refl
none_refused sent outs (l ∷ ls) t = sends_refused sent (length (l ∷ ls)) _ t ∙ by (is_done (outcome_of outs (length (l ∷ ls)))) ∙ none_refused sent outs ls t
  where
    by : (b : Bool) → is_refused (if b then does (λ u. find sent (length (l ∷ ls)) u) l (history sent outs ls) else history sent outs ls) t ≡ is_refused (history sent outs ls) t
    by true = does_refused (λ u. find sent (length (l ∷ ls)) u) l (history sent outs ls) t
    by false = refl
