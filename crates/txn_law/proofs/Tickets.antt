-- From what was sent under a ticket, and whether it was handled, to the events of the run.
use Rattle.txn_history.specs.Plan.{Plan}
use Rattle.std.proofs.Common.{◌≡◌, ℕ, inl, inr, Bool, true, false, ◌&&◌, ◌||◌, List, [], ◌∷◌, Some, None, nat_eq, refl, subst, arith, sym, ◌∙◌}
use Rattle.std.specs.Prelude.{if◌then◌else◌}
use Rattle.std.proofs.lemmas.Bool.Decides.{nat_tests}
use Rattle.txn_kv.specs.declared.ticket.Ticket.{Ticket}
use Rattle.txn_kv.specs.declared.request.Request.{Request}
use Rattle.txn_kv.specs.declared.reply.Reply.{Reply}
use Rattle.txn_history.specs.Event.{Event, Has, bool_eq, same_ticket, sent_request, kept_reply, is_refused}
use Rattle.txn_history.specs.Event.Event.{Sent, Served, Refused}
use Rattle.txn_law.specs.Run.{IsUnused, IsUnserved, IsRun}

same_bool : (x y : Bool) → bool_eq x y ≡ true → x ≡ y
same_bool true true h = refl
same_bool true false h = absurd (cc)
same_bool false true h = absurd (cc)
same_bool false false h = refl

both : (x y z : Bool) → (x && y && z) ≡ true → (x ≡ true) × (y ≡ true) × (z ≡ true)
both true true true h = (refl, refl, refl)
both true true false h = absurd (cc)
both true false z h = absurd (cc)
both false y z h = absurd (cc)

same_number : (m n : ℕ) → nat_eq m n ≡ true → m ≡ n
same_number m n h = grind (arith, nat_tests)

pub ticket_is : (u t : Ticket) → same_ticket u t ≡ true → u ≡ t
ticket_is u t h =
    let w = both (nat_eq u.line t.line) (bool_eq u.beat t.beat) (nat_eq u.number t.number) h in
    let x = same_number u.line t.line w.0 in
    let y = same_bool u.beat t.beat w.1 in
    let z = same_number u.number t.number w.2 in
    λ i. record { line = x i; beat = y i; number = z i }

pub ticket_itself : (t : Ticket) → same_ticket t t ≡ true
ticket_itself t = by t.beat
  where
    by : (x : Bool) → (nat_eq t.line t.line && bool_eq x x && nat_eq t.number t.number) ≡ true
    by true = grind (arith, nat_tests)
    by false = grind (arith, nat_tests)

sent_ticket : (u t : Ticket) (q r : Request) → Sent u q ≡ Sent t r → u ≡ t
sent_ticket u t q r e = cc

-- a ticket under which nothing was sent is unused
pub unused : (es : List Event) (t : Ticket) → sent_request es t ≡ None → IsUnused es t
unused [] t h r g = g
unused (Sent u q ∷ es) t h r g = by (same_ticket u t) refl h (λ f. unused es t f r)
  where
    by : (x : Bool) → same_ticket u t ≡ x → (if x then Some q else sent_request es t) ≡ None → (sent_request es t ≡ None → Has es (Sent t r) → ⊥) → ⊥
    by true e f rest = absurd (cc)
    by false e f rest = elim g [ inl w ↦ absurd (let z : same_ticket u t ≡ true = subst (λ v. same_ticket u v ≡ true) (sent_ticket u t q r w) (ticket_itself u) in cc) | inr v ↦ rest f v ]
unused (_ ∷ es) t h r g = elim g [ inl w ↦ absurd (cc) | inr v ↦ unused es t h r v ]

served_ticket : (u t : Ticket) (q r : Request) (p o : Reply) → Served u q p ≡ Served t r o → u ≡ t
served_ticket u t q r p o e = cc

refused_ticket : (u t : Ticket) (q r : Request) (p o : Reply) → Refused u q p ≡ Refused t r o → u ≡ t
refused_ticket u t q r p o e = cc

not_served : (es : List Event) (t : Ticket) → kept_reply es t ≡ None → (r : Request) (o : Reply) → Has es (Served t r o) → ⊥
not_served [] t h r o g = g
not_served (Served u q p ∷ es) t h r o g = by (same_ticket u t) refl h (λ f. not_served es t f r o)
  where
    by : (x : Bool) → same_ticket u t ≡ x → (if x then Some p else kept_reply es t) ≡ None → (kept_reply es t ≡ None → Has es (Served t r o) → ⊥) → ⊥
    by true e f rest = absurd (cc)
    by false e f rest = elim g [ inl w ↦ absurd (let z : same_ticket u t ≡ true = subst (λ v. same_ticket u v ≡ true) (served_ticket u t q r p o w) (ticket_itself u) in cc) | inr v ↦ rest f v ]
not_served (_ ∷ es) t h r o g = elim g [ inl w ↦ absurd (cc) | inr v ↦ not_served es t h r o v ]

not_refused : (es : List Event) (t : Ticket) → is_refused es t ≡ false → (r : Request) (o : Reply) → Has es (Refused t r o) → ⊥
not_refused [] t h r o g = g
not_refused (Refused u q p ∷ es) t h r o g = by (same_ticket u t) refl h (λ f. not_refused es t f r o)
  where
    by : (x : Bool) → same_ticket u t ≡ x → (x || is_refused es t) ≡ false → (is_refused es t ≡ false → Has es (Refused t r o) → ⊥) → ⊥
    by true e f rest = absurd (cc)
    by false e f rest = elim g [ inl w ↦ absurd (let z : same_ticket u t ≡ true = subst (λ v. same_ticket u v ≡ true) (refused_ticket u t q r p o w) (ticket_itself u) in cc) | inr v ↦ rest f v ]
not_refused (_ ∷ es) t h r o g = elim g [ inl w ↦ absurd (cc) | inr v ↦ not_refused es t h r o v ]

-- a ticket that has no reply, and was not refused, is unserved
pub unserved : (es : List Event) (t : Ticket) → kept_reply es t ≡ None → is_refused es t ≡ false → IsUnserved es t
unserved es t h g r o (inl w) = not_served es t h r o w
unserved es t h g r o (inr w) = not_refused es t g r o w

-- what was sent under a ticket stands among the events
pub was_sent : (es : List Event) (t : Ticket) (r : Request) → sent_request es t ≡ Some r → Has es (Sent t r)
was_sent [] t r h = absurd (cc)
was_sent (Sent u q ∷ es) t r h = by (same_ticket u t) refl h (was_sent es t r)
  where
    by : (x : Bool) → same_ticket u t ≡ x → (if x then Some q else sent_request es t) ≡ Some r → (sent_request es t ≡ Some r → Has es (Sent t r)) → Has (Sent u q ∷ es) (Sent t r)
    by true e f rest = inl (let same = ticket_is u t e in let also : q ≡ r = cc in λ i. Sent (same i) (also i))
    by false e f rest = inr (rest f)
was_sent (_ ∷ es) t r h = inr (was_sent es t r h)

-- In a run each ticket has one request.

sent_request_is : (u t : Ticket) (q r : Request) → Sent u q ≡ Sent t r → (u ≡ t) × (q ≡ r)
sent_request_is u t q r e = (cc, cc)

pub sent_once : (plans : ℕ → Plan) (es : List Event) → IsRun plans es → (t : Ticket) (q r : Request) → Has es (Sent t q) → Has es (Sent t r) → q ≡ r
sent_once plans [] run t q r h g = absurd h
sent_once plans (Sent u p ∷ es) run t q r h g = elim h [
  | inl e ↦ elim g [
    | inl f ↦ sym (sent_request_is u t p q e).1 ∙ (sent_request_is u t p r f).1
    | inr b ↦ absurd (run.0 r (subst (λ z. Has es (Sent z r)) (sym (sent_request_is u t p q e).0) b))
  ]
  | inr a ↦ elim g [
    | inl f ↦ absurd (run.0 q (subst (λ z. Has es (Sent z q)) (sym (sent_request_is u t p r f).0) a))
    | inr b ↦ sent_once plans es run.2 t q r a b
  ]
]
sent_once plans (_ ∷ es) run t q r h g = elim h [ inl e ↦ absurd (cc) | inr a ↦ elim g [ inl f ↦ absurd (cc) | inr b ↦ sent_once plans es run.2 t q r a b ] ]
