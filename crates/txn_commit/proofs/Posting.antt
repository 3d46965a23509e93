-- What is known of the Commits of a primary once these are sent, and once something was heard.
use Rattle.std.proofs.Common.{◌≡◌, ◌⊎◌, inl, inr, ℕ, Bool, true, false, List, [], ◌∷◌, ◌++◌, Some, refl, sym, ap, subst, ◌∙◌, append_assoc}
use Rattle.std.specs.Prelude.{if◌then◌else◌}
use Rattle.txn_kv.specs.Timestamp.{version_of}
use Rattle.txn_kv.specs.declared.outbox.Errand.TheVariants.{Send, Sleep, Ask}
use Rattle.txn_kv.specs.declared.reply.Reply.{Reply}
use Rattle.txn_kv.specs.declared.request.commits.CommitRequest.{CommitRequest}
use Rattle.txn_kv.specs.declared.request.Request.{Request}
use Rattle.txn_kv.specs.declared.request.Request.TheVariants.{Commit}
use Rattle.txn_kv.specs.declared.ticket.Ticket.{Ticket}
use Rattle.txn_kv.specs.declared.timestamp.Timestamp.{Timestamp}
use Rattle.txn_history.specs.Among.{IsAmong}
use Rattle.txn_history.specs.Event.{Event}
use Rattle.txn_history.specs.Event.Event.{Sent, Took, Lost, Slept, Began, Asked, Answered}
use Rattle.txn_history.specs.Plan.{Plan}
use Rattle.txn_history.specs.Posted.{Errand, Licensed, Posted, after, posting, ticket_of}
use Rattle.txn_commit.specs.Following.{Commits, CommitsPrimary, IsFollowed, KnowsCommits, and_sent, and_ticket, answered, commit_tickets, heard, is_commit, is_done, is_out, lost, or_ticket, sent, without}
use Rattle.txn_history.specs.Foreign.{IsForeign}
use Rattle.txn_commit.specs.Plans.{IsOfCommit}
use Rattle.txn_commit.proofs.Following.{IsNoSending, knows_answered, knows_lost, knows_more, sent_more}
use Rattle.txn_commit.proofs.Sending.{IsNoCommit, commits_primary, knows_quiet}
use Rattle.txn_history.specs.Arrivals.{told_by}
use Rattle.txn_kv.specs.declared.arrival.Arrival.{Arrival}
use Rattle.txn_kv.specs.declared.arrival.Arrival.TheVariants as arrival

-- what was heard is one event, and no sending; or nothing was heard
pub data Hears (h : List Event) : List Event → Type 0 where
  Nothing : Hears h h
  One : (e : Event) → IsNoSending e → Hears h (e ∷ h)

pub hears_told : (a : Arrival) (o : Posted) (r : Request) (h : List Event) → Hears h ((told_by a o r).hear h)
hears_told (arrival.Reply n x) o r h = One (Took (ticket_of o n) r x) (λ t q e. cc)
hears_told (arrival.Lost n) o r h = One (Lost (ticket_of o n) r) (λ t q e. cc)
hears_told (arrival.Slept n) o r h = One (Slept (ticket_of o n)) (λ t q e. cc)
hears_told (arrival.Time n x) o r h = One (Answered (ticket_of o n) _) (λ t q e. cc)

-- what no event but a sending changes holds once something was heard
pub heard_keeps : (inv : List Event → Type 0) → ((k : List Event) (e : Event) → IsNoSending e → inv k → inv (e ∷ k)) → (h k : List Event) → Hears h k → inv h → inv k
heard_keeps inv q h k Nothing i = i
heard_keeps inv q h k (One e n) i = q h e n i

pub knows_heard : (plan : Plan) (s : ℕ) (c : Commits) (a : Arrival) (o : Posted) (r : Request) (h : List Event)
    → (told_by a o r).known h → KnowsCommits plan s c h → KnowsCommits plan s (heard a o c) ((told_by a o r).hear h)
knows_heard plan s c (arrival.Reply n x) o r h known k = knows_answered plan s c (ticket_of o n) r x h known k
knows_heard plan s c (arrival.Lost n) o r h known k = knows_lost plan s c (ticket_of o n) r h k
knows_heard plan s c (arrival.Slept n) o r h known k = knows_more plan s c (Slept (ticket_of o n)) h (λ t q e. cc) k
knows_heard plan s c (arrival.Time n x) o r h known k = knows_more plan s c (Answered (ticket_of o n) _) h (λ t q e. cc) k

lost_time : (t : Ticket) (c : Commits) → (lost t c).timestamp ≡ c.timestamp
lost_time t c = by (is_out t c)
  where
    by : (b : Bool) → (if b then record c { out = without t c.out; lost = or_ticket c.lost t } else c).timestamp ≡ c.timestamp
    by true = refl
    by false = refl

answered_time : (t : Ticket) (x : Reply) (c : Commits) → (answered t x c).timestamp ≡ c.timestamp
answered_time t x c = by (is_done c.timestamp x)
  where
    by : (b : Bool) → (if b then c else record c { out = without t c.out }).timestamp ≡ c.timestamp
    by true = refl
    by false = refl

pub heard_time : (a : Arrival) (o : Posted) (c : Commits) → (heard a o c).timestamp ≡ c.timestamp
heard_time (arrival.Reply n x) o c = answered_time (ticket_of o n) x c
heard_time (arrival.Lost n) o c = lost_time (ticket_of o n) c
heard_time (arrival.Slept n) o c = refl
heard_time (arrival.Time n x) o c = refl

-- the Commits that were sent before name the timestamp too
abbrev pub IsSameTime : Commits → Timestamp → Type 0
IsSameTime c t = (u : Timestamp) → c.timestamp ≡ Some u → version_of u ≡ version_of t

and_sent_step : (t : Ticket) (ts : List Ticket) (time : Timestamp) (c : Commits) → and_sent ts time (and_sent (t ∷ []) time c) ≡ and_sent (t ∷ ts) time c
and_sent_step t [] time c = refl
and_sent_step t (u ∷ us) time c = ap (λ (x : List Ticket). record c { timestamp = Some time; out = x }) (append_assoc c.out (t ∷ []) (u ∷ us))

among_append : (xs ys : List Ticket) (u : Ticket) → IsAmong (xs ++ ys) u → IsAmong xs u ⊎ IsAmong ys u
among_append [] ys u a = inr a
among_append (x ∷ xs) ys u (inl e) = inl (inl e)
among_append (x ∷ xs) ys u (inr a) = elim (among_append xs ys u a) [ inl b ↦ inl (inr b) | inr b ↦ inr b ]

among_first : (xs : List Ticket) (t u : Ticket) → IsAmong xs u → IsAmong (xs ++ t ∷ []) u
among_first [] t u a = absurd a
among_first (x ∷ xs) t u (inl e) = inl e
among_first (x ∷ xs) t u (inr a) = inr (among_first xs t u a)

among_last : (xs : List Ticket) (t : Ticket) → IsAmong (xs ++ t ∷ []) t
among_last [] t = inl refl
among_last (x ∷ xs) t = inr (among_last xs t)

commit_is : (t u : Ticket) (q r : CommitRequest) → Sent t (Commit q) ≡ Sent u (Commit r) → (t ≡ u) × (q ≡ r)
commit_is t u q r e = (cc, cc)

knows_one : (plan : Plan) (s : ℕ) (c : Commits) (t : Ticket) (q : CommitRequest) (time : Timestamp) (h : List Event)
    → q.commit_version ≡ version_of time → CommitsPrimary plan s q → IsSameTime c time → KnowsCommits plan s c h
    → KnowsCommits plan s (and_sent (t ∷ []) time c) (Sent t (Commit q) ∷ h)
knows_one plan s c t q time h v p same k = record {
  named = λ d w. elim w.2 [
    | inl f ↦ (time, refl, sym v ∙ ap (λ (r : CommitRequest). r.commit_version) (commit_is t w.0 q w.1 f).1 ∙ w.4)
    | inr g ↦ let n = k.named d (w.0, w.1, g, w.3, w.4, w.5) in (time, refl, sym (same n.0 n.1) ∙ n.2)
  ];
  since = λ u f. let g : time ≡ u = cc in (t, q, inl refl, p.start, v ∙ ap version_of g, p.primary);
  waiting = λ u a. elim (among_append c.out (t ∷ []) u a) [
    | inl b ↦ sent_more plan s (Sent t (Commit q)) h u (k.waiting u b)
    | inr b ↦ elim b [ inl e ↦ (q, inl (ap (λ x. Sent x (Commit q)) e), p) | inr f ↦ absurd f ]
  ];
  losing = λ u l. sent_more plan s (Sent t (Commit q)) h u (k.losing u l);
  all = λ u r g w. elim g [
    | inl f ↦ inr (inr (subst (λ x. IsAmong (c.out ++ t ∷ []) x) (commit_is t u q r f).0 (among_last c.out t)))
    | inr g ↦ elim (k.all u r g w) [
      | inl x ↦ inl (x.0, inr x.1, x.2)
      | inr x ↦ elim x [
        | inl l ↦ inr (inl l)
        | inr a ↦ inr (inr (among_first c.out t u a))
      ]
    ]
  ];
}

commit_of : (r : Request) → is_commit r ≡ true → (q : CommitRequest) × (r ≡ Commit q)
commit_of (Commit q) e = (q, refl)
commit_of _ e = absurd (cc)

no_commit : (r : Request) → is_commit r ≡ false → IsNoCommit r
no_commit r e q f = let g : is_commit r ≡ true = ap is_commit f in cc

of_commit : (s c : ℕ) (plan : Plan) (h : List Event) (r : Request) (q : CommitRequest) → r ≡ Commit q → IsOfCommit s c (plan.primary ∷ []) r ⊎ IsForeign h r → IsOfCommit s c (plan.primary ∷ []) (Commit q)
of_commit s c plan h r q e a = elim (subst (λ x. IsOfCommit s c (plan.primary ∷ []) x ⊎ IsForeign h x) e a) [ inl f ↦ f | inr f ↦ absurd f ]

-- the Commits that are sent are followed
pub knows_sent : (plan : Plan) (s : ℕ) (time : Timestamp) (line : ℕ) (beat : Bool) (c : Commits) (h : List Event) (rs : List Errand)
    → IsSameTime c time → KnowsCommits plan s c h
    → Licensed (λ k r. IsOfCommit s (version_of time) (plan.primary ∷ []) r ⊎ IsForeign k r) line beat h rs
    → KnowsCommits plan s (sent line beat rs time c) (after line beat h rs)
knows_sent plan s time line beat c h [] same k l = k
knows_sent plan s time line beat c h (Sleep n ms ∷ rs) same k l = knows_sent plan s time line beat c (posting line beat (Sleep n ms) ∷ h) rs same (knows_more plan s c (Began (record { line = line; beat = beat; number = n }) ms) h (λ t q e. cc) k) l.1
knows_sent plan s time line beat c h (Ask n ∷ rs) same k l = knows_sent plan s time line beat c (posting line beat (Ask n) ∷ h) rs same (knows_more plan s c (Asked (record { line = line; beat = beat; number = n })) h (λ t q e. cc) k) l.1
knows_sent plan s time line beat c h (Send n to r ∷ rs) same k l =
    by (λ d f g. knows_sent plan s time line beat d (Sent (record { line = line; beat = beat; number = n }) r ∷ h) rs f g l.1) (is_commit r) refl
  where
    t : Ticket
    t = record { line = line; beat = beat; number = n }

    k' : List Event
    k' = Sent t r ∷ h

    Later : Type 0
    Later = (d : Commits) → IsSameTime d time → KnowsCommits plan s d k' → KnowsCommits plan s (sent line beat rs time d) (after line beat k' rs)

    one : (q : CommitRequest) → r ≡ Commit q → KnowsCommits plan s (and_sent (t ∷ []) time c) k'
    one q e = let w = of_commit s (version_of time) plan h r q e l.0 in
        subst (λ x. KnowsCommits plan s (and_sent (t ∷ []) time c) (Sent t x ∷ h)) (sym e) (knows_one plan s c t q time h w.1 (commits_primary plan s (version_of time) q w) same k)

    by : Later → (b : Bool) → is_commit r ≡ b → KnowsCommits plan s (and_sent (and_ticket b t (commit_tickets line beat rs)) time c) (after line beat k' rs)
    by later true e = let q = commit_of r e in subst (λ d. KnowsCommits plan s d (after line beat k' rs)) (and_sent_step t (commit_tickets line beat rs) time c) (later (and_sent (t ∷ []) time c) (λ u f. let g : time ≡ u = cc in ap version_of (sym g)) (one q.0 q.1))
    by later false e = later c same (knows_quiet plan s c t r h (no_commit r e) k)

pub sent_time : (line : ℕ) (beat : Bool) (rs : List Errand) (time : Timestamp) (c : Commits) → IsSameTime c time → IsSameTime (sent line beat rs time c) time
sent_time line beat rs time c same = by (commit_tickets line beat rs)
  where
    by : (ts : List Ticket) → IsSameTime (and_sent ts time c) time
    by [] = same
    by (t ∷ ts) = λ u f. let g : time ≡ u = cc in ap version_of (sym g)

-- what is out once these were posted was out, or was posted

pub followed_same : (o : Posted) (c : Commits) → IsFollowed o c c
followed_same o c = record { lost = refl; out = λ t a. inl a }

-- the line and its kind alone are what counts of an outbox
pub followed_as : (from o : Posted) (c d : Commits) → from.line ≡ o.line → from.beat ≡ o.beat → IsFollowed from c d → IsFollowed o c d
followed_as from o c d e f i = record { lost = i.lost; out = λ t a. elim (i.out t a) [ inl b ↦ inl b | inr w ↦ inr (w.0, w.1 ∙ (λ j. record { line = e j; beat = f j; number = w.0 })) ] }

posted_as : (o : Posted) (rs : List Errand) (t : Ticket) → IsAmong (commit_tickets o.line o.beat rs) t → (n : ℕ) × (t ≡ ticket_of o n)
posted_as o [] t a = absurd a
posted_as o (Sleep n ms ∷ rs) t a = posted_as o rs t a
posted_as o (Ask n ∷ rs) t a = posted_as o rs t a
posted_as o (Send n to r ∷ rs) t a = by (is_commit r) a (posted_as o rs t)
  where
    by : (b : Bool) → IsAmong (and_ticket b (ticket_of o n) (commit_tickets o.line o.beat rs)) t → (IsAmong (commit_tickets o.line o.beat rs) t → (m : ℕ) × (t ≡ ticket_of o m)) → (m : ℕ) × (t ≡ ticket_of o m)
    by true (inl e) rest = (n, sym e)
    by true (inr i) rest = rest i
    by false i rest = rest i

pub followed_sent : (o : Posted) (rs : List Errand) (time : Timestamp) (c : Commits) → IsFollowed o c (sent o.line o.beat rs time c)
followed_sent o rs time c = by (commit_tickets o.line o.beat rs) (posted_as o rs)
  where
    by : (ts : List Ticket) → ((t : Ticket) → IsAmong ts t → (n : ℕ) × (t ≡ ticket_of o n)) → IsFollowed o c (and_sent ts time c)
    by [] p = followed_same o c
    by (t ∷ ts) p = record { lost = refl; out = λ u a. elim (among_append c.out (t ∷ ts) u a) [ inl b ↦ inl b | inr b ↦ inr (p u b) ] }
