-- What the answers of a transaction say.
use Rattle.std.proofs.Common.{◌≡◌, ◌⊎◌, inl, inr, ℕ, Bool, true, false, List, [], ◌∷◌, Option, Some, None, refl, ap, ◌∙◌}
use Rattle.std.specs.Prelude.{Ok, not}
use Rattle.txn_kv.specs.Timestamp.{version_of}
use Rattle.txn_kv.specs.declared.timestamp.Timestamp.{Timestamp}
use Rattle.txn_history.specs.Event.{Event}
use Rattle.txn_history.specs.Licence.{PrimaryCommitted, PrimaryRolledBack}
use Rattle.txn_history.specs.Plan.{Key}
use Rattle.txn_history.specs.Posted.{Posted}
use Rattle.txn_buffer.specs.Contents.{Contents}
use Rattle.txn_commit.specs.Ways.{Ways}
use Rattle.txn_commit.specs.Following.{Commits}
use Rattle.txn_commit.specs.Jobs.{JobFits}
use Rattle.txn_commit.specs.Parts.{parts_of}
use Rattle.txn_commit.specs.Plans.{AreRolledBack}
use Rattle.txn_commit.specs.Sending.{plan_of}
use Rattle.txn_commit.specs.declared.commit_parts.CommitParts.{CommitParts}
use Rattle.txn_commit.specs.declared.secondary_job.SecondaryJob.{SecondaryJob}
use Rattle.txn_commit.proofs.Keys.{has_only}
use Rattle.txn_commit.proofs.Planned.{parts_apart}
use Rattle.txn_merge.specs.declared.retry_options.RetryOptions.{RetryOptions}
use Rattle.txn_core.specs.Going.{IsCommitted, IsJobFor, IsJobOf, IsNothing, TransactionGives}
use Rattle.txn_core.specs.Transaction.{lock_nothing, locks_nothing}
use Rattle.txn_core.specs.declared.txn_answer.TxnAnswer.TheVariants as answer

the_job : {P : Type 0} (options : RetryOptions) (start t : Timestamp) (keys : List Key) (job : SecondaryJob P) → IsJobFor options start t keys (Some job) → IsJobOf options start t keys job
the_job options start t [] job j = absurd j
the_job options start t (k ∷ ks) job j = j

none_locks : (contents : Contents) → parts_of contents ≡ None → locks_nothing contents ≡ true
none_locks contents e = ap lock_nothing e

nothing_locks : (contents : Contents) (parts : CommitParts) → parts_of contents ≡ Some parts → parts.locks ≡ false → locks_nothing contents ≡ true
nothing_locks contents parts e f = ap lock_nothing e ∙ ap (λ (b : Bool). not b) f

timed_something : {P : Type 0} (t : Timestamp) (job : Option (SecondaryJob P)) → IsNothing (Ok (answer.Committed (Some t) job)) → ⊥
timed_something t job n = elim n [ inl e ↦ (cc) | inr e ↦ (cc) ]

module _ {P : Type 0} (w : Ways P) where
  ends_at : (options : RetryOptions) (start t : Timestamp) (contents : Contents) (c : Commits) (h : List Event) (job : Option (SecondaryJob P)) → TransactionGives w options start contents c h (Ok (answer.Committed (Some t) job))
      → (parts : CommitParts) × (parts_of contents ≡ Some parts) × IsCommitted options start t parts job h
  ends_at options start t contents c h job (inl g) = g
  ends_at options start t contents c h job (inr g) = absurd (timed_something t job g.1)

  pub ends_committed : (options : RetryOptions) (start t : Timestamp) (contents : Contents) (c : Commits) (h : List Event) (job : Option (SecondaryJob P)) → TransactionGives w options start contents c h (Ok (answer.Committed (Some t) job))
      → (parts : CommitParts) × (parts_of contents ≡ Some parts) × PrimaryCommitted (plan_of parts) h (version_of start) (version_of t)
  ends_committed options start t contents c h job g = by (ends_at options start t contents c h job g)
    where
      by : (parts : CommitParts) × (parts_of contents ≡ Some parts) × IsCommitted options start t parts job h
          → (parts : CommitParts) × (parts_of contents ≡ Some parts) × PrimaryCommitted (plan_of parts) h (version_of start) (version_of t)
      by (parts, e, is) = (parts, e, is.primary)

  pub ends_with_job : (options : RetryOptions) (start t : Timestamp) (contents : Contents) (c : Commits) (o : Posted) (h : List Event) (job : SecondaryJob P) → TransactionGives w options start contents c h (Ok (answer.Committed (Some t) (Some job)))
      → (parts : CommitParts) × (parts_of contents ≡ Some parts) × (job.start ≡ start) × (job.commit ≡ t) × JobFits w.plan w.uncommitted (plan_of parts) parts.secondaries job o h
  ends_with_job options start t contents c o h job g = by (ends_at options start t contents c h (Some job) g)
    where
      by : (parts : CommitParts) × (parts_of contents ≡ Some parts) × IsCommitted options start t parts (Some job) h
          → (parts : CommitParts) × (parts_of contents ≡ Some parts) × (job.start ≡ start) × (job.commit ≡ t) × JobFits w.plan w.uncommitted (plan_of parts) parts.secondaries job o h
      by (parts, e, is) = let j = the_job options start t parts.secondaries job is.others in
          (parts, e, j.own, j.at, record { way = refl; apart = parts_apart contents parts e; committed = rw (j.own, j.at) is.primary; at = rw j.stage j.names })

  pub ends_checked : (options : RetryOptions) (start : Timestamp) (contents : Contents) (c : Commits) (h : List Event) (job : Option (SecondaryJob P)) → TransactionGives w options start contents c h (Ok (answer.Committed None job)) → locks_nothing contents ≡ true
  ends_checked options start contents c h None (inl (parts, e, s)) = nothing_locks contents parts e s.0
  ends_checked options start contents c h (Some job) (inl (parts, e, s)) = absurd s
  ends_checked options start contents c h job (inr g) = none_locks contents g.0

  rolled_primary : (s : ℕ) (parts : CommitParts) (h : List Event) → AreRolledBack s (parts.primary ∷ []) h → PrimaryRolledBack (plan_of parts) h s
  rolled_primary s parts h r = r parts.primary (has_only parts.primary)

  pub ends_rolled_back : (options : RetryOptions) (start : Timestamp) (contents : Contents) (c : Commits) (h : List Event) → TransactionGives w options start contents c h (Ok answer.Unit)
      → (locks_nothing contents ≡ true) ⊎ ((parts : CommitParts) × (parts_of contents ≡ Some parts) × PrimaryRolledBack (plan_of parts) h (version_of start))
  ends_rolled_back options start contents c h (inl (parts, e, s)) = elim s [
    | inl f ↦ inl (nothing_locks contents parts e f)
    | inr r ↦ inr (parts, e, rolled_primary (version_of start) parts h r.0)
  ]
  ends_rolled_back options start contents c h (inr g) = inl (none_locks contents g.0)
