-- The Commits that a transaction and its job send are of its own start.
use Rattle.std.proofs.Common.{◌≡◌, ◌≢◌, ◌⊎◌, inl, inr, ℕ, Bool, List, [], ◌∷◌, refl, sym, subst, ◌∙◌}
use Rattle.txn_kv.specs.declared.outbox.Errand.TheVariants.{Send, Sleep, Ask}
use Rattle.txn_kv.specs.declared.request.commits.CommitRequest.{CommitRequest}
use Rattle.txn_kv.specs.declared.request.Request.{Request}
use Rattle.txn_kv.specs.declared.request.Request.TheVariants.{Commit}
use Rattle.txn_kv.specs.declared.ticket.Ticket.{Ticket}
use Rattle.txn_history.specs.Event.{Event, Has}
use Rattle.txn_history.specs.Event.Event.{Sent}
use Rattle.txn_history.specs.Plan.{Plan}
use Rattle.txn_history.specs.Posted.{Errand, Licensed, after, posting}
use Rattle.txn_buffer.specs.Contents.{Contents}
use Rattle.txn_commit.specs.Following.{CommitsPrimary}
use Rattle.txn_commit.specs.Sending.{MaySend, MaySendBehind}
use Rattle.txn_core.proofs.Others.{adds_further, adds_one, adds_same}
use Rattle.txn_core.specs.Going.{MaySendFor}
use Rattle.txn_core.specs.Others.{AddsNone, AddsNoPrimaryOf, AddsNothingOf}

own_start : (plan : Plan) (s : ℕ) (h : List Event) (r : CommitRequest) → MaySend plan s h (Commit r) → r.start_version ≡ s
own_start plan s h r m = m.0

own_start_behind : (plan : Plan) (s : ℕ) (h : List Event) (r : CommitRequest) → MaySendBehind plan s h (Commit r) → r.start_version ≡ s
own_start_behind plan s h r m = own_start plan s h r m.may

own_start_for : (contents : Contents) (s : ℕ) (h : List Event) (r : CommitRequest) → MaySendFor contents s h (Commit r) → r.start_version ≡ s
own_start_for contents s h r (parts, e, m) = m.0

-- what is posted adds none of the Commits that may not be sent
pub posted_adds : (is : CommitRequest → Type 0) (may : List Event → Request → Type 0)
    → ((k : List Event) (r : CommitRequest) → may k (Commit r) → is r → ⊥)
    → (line : ℕ) (beat : Bool) (h : List Event) (rs : List Errand) → Licensed may line beat h rs → AddsNone is h (after line beat h rs)
posted_adds is may never line beat h [] l = adds_same is h
posted_adds is may never line beat h (Send n to q ∷ rs) l =
    adds_further is h (posting line beat (Send n to q) ∷ h) (after line beat h (Send n to q ∷ rs))
    (adds_one is (posting line beat (Send n to q)) h (λ t r e x. never h r (let same : q ≡ Commit r = cc in subst (may h) same l.0) x))
    (posted_adds is may never line beat (posting line beat (Send n to q) ∷ h) rs l.1)
posted_adds is may never line beat h (Sleep n ms ∷ rs) l =
    adds_further is h (posting line beat (Sleep n ms) ∷ h) (after line beat h (Sleep n ms ∷ rs))
    (adds_one is (posting line beat (Sleep n ms)) h (λ t r e x. cc))
    (posted_adds is may never line beat (posting line beat (Sleep n ms) ∷ h) rs l.1)
posted_adds is may never line beat h (Ask n ∷ rs) l =
    adds_further is h (posting line beat (Ask n) ∷ h) (after line beat h (Ask n ∷ rs))
    (adds_one is (posting line beat (Ask n)) h (λ t r e x. cc))
    (posted_adds is may never line beat (posting line beat (Ask n) ∷ h) rs l.1)

another : (s u : ℕ) (r : CommitRequest) → u ≢ s → r.start_version ≡ u → r.start_version ≡ s → ⊥
another s u r n e f = n (sym e ∙ f)

pub others_add : (contents : Contents) (s u line : ℕ) (beat : Bool) (h : List Event) (rs : List Errand) → u ≢ s → Licensed (MaySendFor contents u) line beat h rs → AddsNothingOf s h (after line beat h rs)
others_add contents s u line beat h rs n l = posted_adds (λ r. r.start_version ≡ s) (MaySendFor contents u) (λ k r m e. another s u r n (own_start_for contents u k r m) e) line beat h rs l

pub other_jobs_add : (plan : Plan) (s u line : ℕ) (beat : Bool) (h : List Event) (rs : List Errand) → u ≢ s → Licensed (MaySendBehind plan u) line beat h rs → AddsNothingOf s h (after line beat h rs)
other_jobs_add plan s u line beat h rs n l = posted_adds (λ r. r.start_version ≡ s) (MaySendBehind plan u) (λ k r m e. another s u r n (own_start_behind plan u k r m) e) line beat h rs l

-- each Commit that is posted may be sent
posted_is : (own : CommitRequest → Type 0) (may : List Event → Request → Type 0)
    → ((k : List Event) (r : CommitRequest) → may k (Commit r) → own r)
    → (line : ℕ) (beat : Bool) (h : List Event) (rs : List Errand) (t : Ticket) (r : CommitRequest) → Licensed may line beat h rs
    → Has (after line beat h rs) (Sent t (Commit r)) → Has h (Sent t (Commit r)) ⊎ own r
posted_is own may owns line beat h [] t r l i = inl i
posted_is own may owns line beat h (Send n to q ∷ rs) t r l i = elim (posted_is own may owns line beat (posting line beat (Send n to q) ∷ h) rs t r l.1 i) [
  | inl j ↦ elim j [
    | inl e ↦ inr (owns h r (let same : q ≡ Commit r = cc in subst (may h) same l.0))
    | inr k ↦ inl k
  ]
  | inr o ↦ inr o
]
posted_is own may owns line beat h (Sleep n ms ∷ rs) t r l i = elim (posted_is own may owns line beat (posting line beat (Sleep n ms) ∷ h) rs t r l.1 i) [
  | inl j ↦ elim j [
    | inl e ↦ absurd (cc)
    | inr k ↦ inl k
  ]
  | inr o ↦ inr o
]
posted_is own may owns line beat h (Ask n ∷ rs) t r l i = elim (posted_is own may owns line beat (posting line beat (Ask n) ∷ h) rs t r l.1 i) [
  | inl j ↦ elim j [
    | inl e ↦ absurd (cc)
    | inr k ↦ inl k
  ]
  | inr o ↦ inr o
]

pub commits_own : (contents : Contents) (s line : ℕ) (beat : Bool) (h : List Event) (rs : List Errand) (t : Ticket) (r : CommitRequest) → Licensed (MaySendFor contents s) line beat h rs
    → Has (after line beat h rs) (Sent t (Commit r)) → Has h (Sent t (Commit r)) ⊎ (r.start_version ≡ s)
commits_own contents s line beat h rs t r l i = posted_is (λ x. x.start_version ≡ s) (MaySendFor contents s) (own_start_for contents s) line beat h rs t r l i

pub job_commits_own : (plan : Plan) (s line : ℕ) (beat : Bool) (h : List Event) (rs : List Errand) (t : Ticket) (r : CommitRequest) → Licensed (MaySendBehind plan s) line beat h rs
    → Has (after line beat h rs) (Sent t (Commit r)) → Has h (Sent t (Commit r)) ⊎ (r.start_version ≡ s)
job_commits_own plan s line beat h rs t r l i = posted_is (λ x. x.start_version ≡ s) (MaySendBehind plan s) (own_start_behind plan s) line beat h rs t r l i

-- a job adds no Commit of the primary
pub job_adds : (plan : Plan) (s line : ℕ) (beat : Bool) (h : List Event) (rs : List Errand) → Licensed (MaySendBehind plan s) line beat h rs → AddsNoPrimaryOf plan s h (after line beat h rs)
job_adds plan s line beat h rs l = posted_adds (CommitsPrimary plan s) (MaySendBehind plan s) (λ k r m x. m.others r refl x.primary) line beat h rs l
