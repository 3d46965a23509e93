-- The errors of a transaction's calls have their causes in what was heard, where those of its plans have.
use Rattle.std.specs.Prelude.{◌≡◌, ◌⊎◌, ℕ, List, [], ◌∷◌, Option, Some, None, Err, refl}
use Rattle.std.proofs.Common.{inl, inr, subst, ap, ◌∙◌}
use Rattle.txn_buffer.specs.Contents.{Contents}
use Rattle.txn_causes.specs.Causes.{HasCause, has_cause_more}
use Rattle.txn_causes.specs.Spent.{IsSpent}
use Rattle.txn_causes.specs.Heard.{heard_in}
use Rattle.txn_commit.specs.Committing.{CommitterGives}
use Rattle.txn_commit.specs.Following.{first_of, or_first, undetermined, Commits, KnowsCommits, MarksLost, PrimaryLost, PrimarySent}
use Rattle.txn_plan.specs.Timing.{WasUntimed}
use Rattle.txn_commit.specs.declared.commit_parts.CommitParts.{CommitParts}
use Rattle.txn_commit.specs.Ways.{Ways}
use Rattle.txn_core.specs.Going.{FailsWith, IsNothing, TransactionGives}
use Rattle.txn_history.specs.Among.{IsAmong}
use Rattle.txn_history.specs.Event.{Event}
use Rattle.txn_history.specs.Plan.{Plan}
use Rattle.txn_kv.specs.ErrorView.{view_of}
use Rattle.txn_kv.specs.ErrorView.ErrorView.{undetermined as not_known}
use Rattle.txn_kv.specs.Timestamp.{version_of}
use Rattle.txn_kv.specs.declared.errors.Error.{Error}
use Rattle.txn_kv.specs.declared.query.PdQuery.TheVariants.{Time}
use Rattle.txn_kv.specs.declared.ticket.Ticket.{Ticket}
use Rattle.txn_kv.specs.declared.timestamp.Timestamp.{Timestamp}
use Rattle.txn_merge.specs.declared.retry_options.RetryOptions.{RetryOptions}
use Rattle.txn_multi.specs.Task.{attempts_left}
use Rattle.txn_commit_plans.specs.CausesOfLookUps.{query_failed, HasNoTimestamp}
use Rattle.txn_commit_plans.specs.Failing.{IsSpentBy}

-- An error has its cause in what was heard, where requests at regions are tried again so often; or it is that with which the oracle
-- refused the tenth ask for a timestamp.
abbrev pub IsExplained : ℕ → List Event → Error → Type 0
IsExplained attempts h e = HasCause (heard_in h) (IsSpent (heard_in h) attempts) (view_of e) ⊎ HasNoTimestamp h e

-- What a commit or a rollback answers that failed: such an error. Where this Commit of the primary was lost or is not refused it is
-- not known whether the transaction is committed, and the answer says so and holds such an error.
abbrev pub IsCallExplained : ℕ → Option Ticket → List Event → Error → Type 0
IsCallExplained attempts None h e = IsExplained attempts h e
IsCallExplained attempts (Some t) h e = (inner : Error) × (view_of e ≡ not_known (view_of inner)) × IsExplained attempts h inner

-- lemmas

-- what a call for a timestamp answers that failed
pub untimed_caused : (h : List Event) (e : Error) → WasUntimed h e → HasCause (heard_in h) ⊥ (view_of e) ⊎ HasNoTimestamp h e
untimed_caused h e w = elim (query_failed h Time w.0 e w.1) [ inl k ↦ inl k | inr k ↦ inr k.1 ]

pub untimed_explained : (attempts : ℕ) (h : List Event) (e : Error) → WasUntimed h e → IsExplained attempts h e
untimed_explained attempts h e w = elim (untimed_caused h e w) [ inl k ↦ inl (has_cause_more (λ x y. y) (λ never. absurd never) (view_of e) k) | inr k ↦ inr k ]

module _ {P : Type 0} (w : Ways P)
    (unwritten : (options : RetryOptions) (h : List Event) (e : Error) → w.unwritten options h e → HasCause (heard_in h) (IsSpentBy options h) (view_of e))
    (uncommitted : (options : RetryOptions) (h : List Event) (e : Error) → w.uncommitted options h e → HasCause (heard_in h) (IsSpentBy options h) (view_of e))
    (unrolled : (options : RetryOptions) (h : List Event) (e : Error) → w.unrolled options h e → HasCause (heard_in h) (IsSpentBy options h) (view_of e)) where
  committer_explained : (options : RetryOptions) (s : ℕ) (parts : CommitParts) (h : List Event) (e : Error) → CommitterGives w options s parts h (Err e) → IsExplained (attempts_left options.region_backoff) h e
  committer_explained options s parts h e (inl (inl g)) = inl (unwritten options h e g)
  committer_explained options s parts h e (inl (inr g)) = inl (uncommitted options h e g)
  committer_explained options s parts h e (inr (inl g)) = inl (unrolled options h e g)
  committer_explained options s parts h e (inr (inr g)) = untimed_explained (attempts_left options.region_backoff) h e g

  named_explained : (options : RetryOptions) (s : ℕ) (parts : CommitParts) (lost : Option Ticket) (h : List Event) (e : Error) → FailsWith w options s parts lost h e → IsCallExplained (attempts_left options.region_backoff) lost h e
  named_explained options s parts None h e g = committer_explained options s parts h e g
  named_explained options s parts (Some t) h e g = (g.0, g.1, committer_explained options s parts h g.0 g.2)

  never_nothing : (e : Error) → IsNothing {P = P} (Err e) → ⊥
  never_nothing e (inl n) = cc
  never_nothing e (inr n) = cc

  pub call_explained : (options : RetryOptions) (start : Timestamp) (contents : Contents) (c : Commits) (h : List Event) (e : Error) → TransactionGives w options start contents c h (Err e) → IsCallExplained (attempts_left options.region_backoff) (undetermined c) h e
  call_explained options start contents c h e (inl g) = named_explained options (version_of start) g.0 (undetermined c) h e g.2
  call_explained options start contents c h e (inr g) = absurd (never_nothing e g.1)

-- of the first of these it is known that it was sent
first_sent : (plan : Plan) (s : ℕ) (h : List Event) (t : Ticket) (out : List Ticket) → ((u : Ticket) → IsAmong out u → PrimarySent plan s h u) → first_of out ≡ Some t → PrimarySent plan s h t
first_sent plan s h t [] sent e = cc
first_sent plan s h t (u ∷ out) sent e = let same : u ≡ t = cc in subst (PrimarySent plan s h) same (sent u (inl refl))

-- and so was the Commit of the primary that a refused rollback names
pub refusal_sent : (plan : Plan) (s : ℕ) (c : Commits) (h : List Event) (t : Ticket) → KnowsCommits plan s c h → undetermined c ≡ Some t → PrimarySent plan s h t
refusal_sent plan s c h t k u = by c.lost refl u
  where
    by : (lost : Option Ticket) → c.lost ≡ lost → or_first lost c.out ≡ Some t → PrimarySent plan s h t
    by None l f = first_sent plan s h t c.out k.waiting f
    by (Some first) l f = let same : first ≡ t = cc in k.losing t (l ∙ ap Some same)

-- one that is marked as lost is named, and was lost
pub marked_named : (plan : Plan) (s : ℕ) (c : Commits) (h : List Event) (t : Ticket) → MarksLost plan s c h → c.lost ≡ Some t → (undetermined c ≡ Some t) × PrimaryLost plan s h t
marked_named plan s c h t m e = (ap (λ l. or_first l c.out) e, m t e)
