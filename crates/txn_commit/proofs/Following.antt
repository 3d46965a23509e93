-- What is known of the Commits of a primary stays true as their requests are answered, are lost, and are sent.
use Rattle.std.proofs.Common.{◌≡◌, ◌≢◌, ◌⊎◌, inl, inr, ℕ, Bool, true, false, ◌&&◌, ◌||◌, List, [], ◌∷◌, Option, Some, None, nat_eq, refl, sym, ap, subst, ◌∙◌, arith}
use Rattle.std.specs.Prelude.{not, cond, if◌then◌else◌, is_none}
use Rattle.std.specs.List.{list_any}
use Rattle.std.proofs.lemmas.Bool.Decides.{nat_tests}
use Rattle.txn_kv.specs.Timestamp.{version_of}
use Rattle.txn_kv.specs.declared.message.KeyError.{KeyError}
use Rattle.txn_kv.specs.declared.message.RegionErr.{RegionErr}
use Rattle.txn_kv.specs.declared.reply.Reply.{Reply}
use Rattle.txn_kv.specs.declared.reply.Reply.TheVariants as replies
use Rattle.txn_kv.specs.declared.timestamp.Timestamp.{Timestamp}
use Rattle.txn_kv.specs.declared.request.commits.CommitRequest.{CommitRequest}
use Rattle.txn_kv.specs.declared.request.Request.{Request}
use Rattle.txn_kv.specs.declared.request.Request.TheVariants.{Commit}
use Rattle.txn_kv.specs.declared.ticket.Ticket.{Ticket}
use Rattle.txn_history.specs.Among.{IsAmong}
use Rattle.txn_history.specs.Event.{Event, Has, bool_eq, same_ticket}
use Rattle.txn_history.specs.Event.Event.{Sent, Took, Lost}
use Rattle.txn_history.specs.Meaning.{IsSent}
use Rattle.txn_history.specs.Plan.{Plan}
use Rattle.txn_commit.specs.Following.{Commits, CommitsPrimary, IsRefusal, KnowsCommits, PrimarySent, answered, is_done, is_out, lost, or_ticket, without}

-- tickets

same_bool : (x y : Bool) → bool_eq x y ≡ true → x ≡ y
same_bool true true h = refl
same_bool true false h = absurd (cc)
same_bool false true h = absurd (cc)
same_bool false false h = refl

both : (x y z : Bool) → (x && y && z) ≡ true → (x ≡ true) × (y ≡ true) × (z ≡ true)
both true true true h = (refl, refl, refl)
both true true false h = absurd (cc)
both true false z h = absurd (cc)
both false y z h = absurd (cc)

same_number : (m n : ℕ) → nat_eq m n ≡ true → m ≡ n
same_number m n h = grind (arith, nat_tests)

pub ticket_is : (u t : Ticket) → same_ticket u t ≡ true → u ≡ t
ticket_is u t h =
    let w = both (nat_eq u.line t.line) (bool_eq u.beat t.beat) (nat_eq u.number t.number) h in
    let x = same_number u.line t.line w.0 in
    let y = same_bool u.beat t.beat w.1 in
    let z = same_number u.number t.number w.2 in
    λ i. record { line = x i; beat = y i; number = z i }

pub ticket_itself : (t : Ticket) → same_ticket t t ≡ true
ticket_itself t = by t.beat
  where
    by : (x : Bool) → (nat_eq t.line t.line && bool_eq x x && nat_eq t.number t.number) ≡ true
    by true = grind (arith, nat_tests)
    by false = grind (arith, nat_tests)

pub among_without : (t : Ticket) (ts : List Ticket) (u : Ticket) → IsAmong (without t ts) u → IsAmong ts u
among_without t [] u a = a
among_without t (x ∷ ts) u a = by (not (same_ticket x t)) a (among_without t ts u)
  where
    by : (b : Bool) → IsAmong (cond b (x ∷ without t ts) (without t ts)) u → (IsAmong (without t ts) u → IsAmong ts u) → IsAmong (x ∷ ts) u
    by true (inl e) rest = inl e
    by true (inr a) rest = inr (rest a)
    by false a rest = inr (rest a)

pub without_among : (t : Ticket) (ts : List Ticket) (u : Ticket) → IsAmong ts u → (u ≡ t) ⊎ IsAmong (without t ts) u
without_among t [] u a = absurd a
without_among t (x ∷ ts) u (inl e) = by (same_ticket x t) refl
  where
    by : (b : Bool) → same_ticket x t ≡ b → (u ≡ t) ⊎ IsAmong (cond (not b) (x ∷ without t ts) (without t ts)) u
    by true f = inl (sym e ∙ ticket_is x t f)
    by false f = inr (inl e)
without_among t (x ∷ ts) u (inr a) = by (not (same_ticket x t)) (without_among t ts u a)
  where
    by : (b : Bool) → (u ≡ t) ⊎ IsAmong (without t ts) u → (u ≡ t) ⊎ IsAmong (cond b (x ∷ without t ts) (without t ts)) u
    by b (inl e) = inl e
    by true (inr r) = inr (inr r)
    by false (inr r) = inr r

pub out_among : (t : Ticket) (ts : List Ticket) → list_any (λ u. same_ticket u t) ts ≡ true → IsAmong ts t
out_among t [] h = absurd (cc)
out_among t (x ∷ ts) h = by (same_ticket x t) refl h (out_among t ts)
  where
    by : (b : Bool) → same_ticket x t ≡ b → (b || list_any (λ u. same_ticket u t) ts) ≡ true → (list_any (λ u. same_ticket u t) ts ≡ true → IsAmong ts t) → IsAmong (x ∷ ts) t
    by true e f rest = inl (ticket_is x t e)
    by false e f rest = inr (rest f)

-- more events

pub sent_more : (plan : Plan) (s : ℕ) (e : Event) (h : List Event) (t : Ticket) → PrimarySent plan s h t → PrimarySent plan s (e ∷ h) t
sent_more plan s e h t w = (w.0, inr w.1, w.2)

-- an event other than a sent request changes nothing
abbrev pub IsNoSending : Event → Type 0
IsNoSending e = (t : Ticket) (r : Request) → e ≡ Sent t r → ⊥

sent_before : (e : Event) (h : List Event) (t : Ticket) (r : Request) → IsNoSending e → Has (e ∷ h) (Sent t r) → Has h (Sent t r)
sent_before e h t r never (inl f) = absurd (never t r f)
sent_before e h t r never (inr g) = g

pub knows_more : (plan : Plan) (s : ℕ) (c : Commits) (e : Event) (h : List Event) → IsNoSending e → KnowsCommits plan s c h → KnowsCommits plan s c (e ∷ h)
knows_more plan s c e h never k = record {
  named = λ d w. k.named d (w.0, w.1, sent_before e h w.0 (Commit w.1) never w.2, w.3, w.4, w.5);
  since = λ t f. let w = k.since t f in (w.0, w.1, inr w.2, w.3, w.4, w.5);
  waiting = λ t a. sent_more plan s e h t (k.waiting t a);
  losing = λ t l. sent_more plan s e h t (k.losing t l);
  all = λ t r g p. elim (k.all t r (sent_before e h t (Commit r) never g) p) [
    | inl w ↦ inl (w.0, inr w.1, w.2)
    | inr w ↦ inr w
  ];
}

-- a reply is taken
took_no_sending : (t : Ticket) (q : Request) (o : Reply) → IsNoSending (Took t q o)
took_no_sending t q o u r e = cc

lost_no_sending : (t : Ticket) (q : Request) → IsNoSending (Lost t q)
lost_no_sending t q u r e = cc

took_is : (t u : Ticket) (q r : Request) (o : Reply) → u ≡ t → r ≡ q → Took t q o ≡ Took u r o
took_is t u q r o e f = λ i. Took (sym e i) (sym f i) o

-- the request that was sent with the ticket is this one
only_one : (t u : Ticket) (q r : Request) (h : List Event) → IsSent t q h → Has h (Sent u r) → u ≡ t → r ≡ q
only_one t u q r h known g e = known.alone r (subst (λ v. Has h (Sent v r)) e g)

-- a reply that does not say that it is done at this time refuses each request that names it
not_done : (time : Option Timestamp) (t : Timestamp) (r : CommitRequest) (o : Reply) → time ≡ Some t → version_of t ≡ r.commit_version → is_done time o ≡ false → IsRefusal r o
not_done time t r (replies.Commit o) some names not = λ regional keyed same.
    let done : is_done (Some t) (replies.Commit o) ≡ true = committed o.region_error o.error regional keyed (same ∙ sym names) in
    absurd (let both = sym done ∙ ap (λ x. is_done x (replies.Commit o)) (sym some) ∙ not in cc)
  where
    committed : (region : Option RegionErr) (error : Option KeyError) → region ≡ None → error ≡ None → o.commit_version ≡ version_of t → (is_none region && is_none error && nat_eq o.commit_version (version_of t)) ≡ true
    committed None None a b e = grind (arith, nat_tests)
    committed (Some x) error a b e = absurd (cc)
    committed None (Some x) a b e = absurd (cc)
not_done time t r _ some names not = tt

pub knows_answered : (plan : Plan) (s : ℕ) (c : Commits) (t : Ticket) (q : Request) (o : Reply) (h : List Event)
    → IsSent t q h → KnowsCommits plan s c h → KnowsCommits plan s (answered t o c) (Took t q o ∷ h)
knows_answered plan s c t q o h known k = by (is_done c.timestamp o) refl
  where
    m : KnowsCommits plan s c (Took t q o ∷ h)
    m = knows_more plan s c (Took t q o) h (took_no_sending t q o) k

    refused : is_done c.timestamp o ≡ false → (u : Ticket) (r : CommitRequest) → Has h (Sent u (Commit r)) → CommitsPrimary plan s r → IsRefusal r o
    refused not u r sent p = let n = k.named r.commit_version (u, r, sent, p.start, refl, p.primary) in not_done c.timestamp n.0 r o n.1 n.2 not

    by : (b : Bool) → is_done c.timestamp o ≡ b → KnowsCommits plan s (if b then c else record c { out = without t c.out }) (Took t q o ∷ h)
    by true e = m
    by false e = record {
      named = m.named;
      since = m.since;
      waiting = λ u a. m.waiting u (among_without t c.out u a);
      losing = m.losing;
      all = λ u r g p.
          let sent = sent_before (Took t q o) h u (Commit r) (took_no_sending t q o) g in
          elim (k.all u r sent p) [
            | inl w ↦ inl (w.0, inr w.1, w.2)
            | inr w ↦ elim w [
              | inl l ↦ inr (inl l)
              | inr a ↦ elim (without_among t c.out u a) [
                | inl same ↦ inl (o, inl (took_is t u q (Commit r) o same (only_one t u q (Commit r) h known sent same)), refused e u r sent p)
                | inr b ↦ inr (inr b)
              ]
            ]
          ];
    }

-- a request is lost
some_lost : (o : Option Ticket) (t : Ticket) → or_ticket o t ≢ None
some_lost None t e = cc
some_lost (Some u) t e = cc

first_lost : (plan : Plan) (s : ℕ) (h : List Event) (o : Option Ticket) (t : Ticket) → ((u : Ticket) → o ≡ Some u → PrimarySent plan s h u) → PrimarySent plan s h t → (u : Ticket) → or_ticket o t ≡ Some u → PrimarySent plan s h u
first_lost plan s h None t old new u e = subst (PrimarySent plan s h) (let f : t ≡ u = cc in f) new
first_lost plan s h (Some f) t old new u e = old u e

pub knows_lost : (plan : Plan) (s : ℕ) (c : Commits) (t : Ticket) (q : Request) (h : List Event)
    → KnowsCommits plan s c h → KnowsCommits plan s (lost t c) (Lost t q ∷ h)
knows_lost plan s c t q h k = by (is_out t c) refl
  where
    m : KnowsCommits plan s c (Lost t q ∷ h)
    m = knows_more plan s c (Lost t q) h (lost_no_sending t q) k

    by : (b : Bool) → is_out t c ≡ b → KnowsCommits plan s (if b then record c { out = without t c.out; lost = or_ticket c.lost t } else c) (Lost t q ∷ h)
    by false e = m
    by true e = record {
      named = m.named;
      since = m.since;
      waiting = λ u a. m.waiting u (among_without t c.out u a);
      losing = first_lost plan s (Lost t q ∷ h) c.lost t m.losing (m.waiting t (out_among t c.out e));
      all = λ u r g p. elim (m.all u r g p) [
        | inl w ↦ inl w
        | inr w ↦ inr (inl (some_lost c.lost t))
      ];
    }
