-- What each row that is told of something comes to in the longer history, and what its answer stands on there.
use Rattle.std.proofs.Common.{◌≡◌, ◌≢◌, inl, inr, ℕ, ◌<◌, true, false, not, Bool, List, [], length, set, Option, Some, None, sym, ap, ◌∙◌, subst}
use Rattle.std.specs.Prelude.{⊤, IfSome, Ok}
use Rattle.txn_kv.specs.Timestamp.{version_of}
use Rattle.txn_kv.specs.declared.request.Request.{Request}
use Rattle.txn_kv.specs.declared.timestamp.Timestamp.{Timestamp}
use Rattle.txn_history.specs.Event.{Event}
use Rattle.txn_history.specs.Later.{IsLater}
use Rattle.txn_history.specs.Licence.{PrimaryCommitted}
use Rattle.txn_history.specs.Meaning.{IsLawful}
use Rattle.txn_history.specs.Plan.{Plan}
use Rattle.txn_history.specs.Posted.{Errand, Licensed, Licensed-weaker, Posted, Within-after, Within-refl, after}
use Rattle.txn_commit.specs.Ways.{Ways}
use Rattle.txn_commit.specs.Jobs.{JobFits}
use Rattle.txn_commit.specs.Parts.{parts_of}
use Rattle.txn_commit.specs.Sending.{MaySendBehind, plan_of}
use Rattle.txn_commit.specs.declared.commit_parts.CommitParts.{CommitParts}
use Rattle.txn_commit.specs.declared.secondary_job.SecondaryJob.{SecondaryJob}
use Rattle.txn_core.proofs.Ending.{ends_committed, ends_with_job}
use Rattle.txn_core.proofs.Others.{adds_same, others_fit, others_fit_still}
use Rattle.txn_core.proofs.Owning.{commits_own, job_adds, job_commits_own, other_jobs_add, others_add, posted_adds}
use Rattle.txn_core.specs.Going.{MaySendFor, TransactionGives}
use Rattle.txn_core.specs.Status.{allows_data}
use Rattle.txn_core.specs.Transaction.{Standing, lock_nothing, locks_nothing}
use Rattle.txn_core.specs.declared.txn_answer.TxnAnswer.TheVariants as answer
use Rattle.txn_client.specs.Calls.{IsAt, called-lawful}
use Rattle.txn_client.specs.declared.client_call.ClientCall.{ClientCall}
use Rattle.txn_report.specs.declared.outcome.Outcome.{Outcome}
use Rattle.txn_report.specs.declared.outcome.Outcome.TheVariants as outcomes
use Rattle.txn_report.specs.declared.outcome.Payload.TheVariants as payloads
use Rattle.txn_trace.proofs.Lines.{IsLicensedInRun}
use Rattle.txn_tso.specs.Calling.{members}
use Rattle.txn_clients.specs.Arising.{StandFits, HasPlan, HasStart, HoldsOf, IsBehind, IsCommittedSo, IsCommittedUnlocked, KeepsPlan, RowFits}
use Rattle.txn_clients.specs.Clients.{row_at}
use Rattle.txn_clients.specs.First.{first_front}
use Rattle.txn_clients.specs.Growing.{AddsNoCommit, AreApart, commits_before, job_grows, row_grows, row_stays}
use Rattle.txn_clients.specs.Rows.{Pd}
use Rattle.txn_clients.specs.declared.row.Row.{Row}
use Rattle.txn_clients.specs.declared.row.Row.TheVariants as row
use Rattle.txn_clients.proofs.Leading.{Rises, locks_before, may_ask, may_transact, none_commits}
use Rattle.txn_clients.proofs.Marking.{after_front}
use Rattle.txn_clients.proofs.Stands.{or_other, or_same, same_line}

-- A call for a timestamp asks for nothing but the members.

abbrev pub MayAsk : List Event → Request → Type 0
MayAsk h r = r ≡ members

asks_no_commit : (line : ℕ) (h : List Event) (sends : List Errand) → Licensed MayAsk line false h sends → AddsNoCommit h (after line false h sends)
asks_no_commit line h sends l = posted_adds (λ r. ⊤) MayAsk (λ g r e x. none_commits g r e) line false h sends l

module _ {P : Type 0} where
  asking_right : (c d : ℕ) (b e : Bool) (old new : ClientCall Pd P) (o : Outcome) (h : List Event) → HoldsOf h o (row.Asking c b old) → HoldsOf h o (row.Asking d e new)
  asking_right c d b e old new (outcomes.Ok (payloads.Number v)) h x = x
  asking_right c d b e old new (outcomes.Ok (payloads.Commit (Some v))) h x = x
  asking_right c d b e old new (outcomes.Ok (payloads.Commit None)) h x = x
  asking_right c d b e old new o h x = tt

working_right : (P : Type 0) (c d : ℕ) (old new : SecondaryJob P) (o : Outcome) (h : List Event) → HoldsOf {P = P} h o (row.Working c old) → HoldsOf {P = P} h o (row.Working d new)
working_right P c d old new (outcomes.Ok (payloads.Number v)) h x = x
working_right P c d old new (outcomes.Ok (payloads.Commit (Some v))) h x = x
working_right P c d old new (outcomes.Ok (payloads.Commit None)) h x = x
working_right P c d old new o h x = tt

module _ {P : Type 0} (w : Ways P) (p : IsLawful w.plan) where
  pub asking_rises : (olds : List (Row P)) (line at c d : ℕ) (b e : Bool) (old new : ClientCall Pd P) (to : Posted) (h : List Event) → row_at olds at ≡ row.Asking c b old
      → Licensed MayAsk line false h to.sends → IsAt new.stage to (after line false h to.sends) → Rises w olds line at (row.Asking d e new) to h
  asking_rises olds line at c d b e old new to h was licensed fits = record {
    starts = λ v x. absurd x;
    stays = λ v x. subst (HasStart v) was x;
    plans = λ plans x. subst (HasPlan plans) (sym was) tt;
    behind = λ job o g x. subst (IsBehind w job o g) was x;
    right = λ o g x. asking_right c d b e old new o g (subst (HoldsOf g o) was x);
    licensed = λ plans have. Licensed-weaker {may = MayAsk} {more = IsLicensedInRun plans} (may_ask plans) line false h to.sends licensed;
    fits = λ later l. called-lawful.fits_longer new to later _ _ l (Within-refl (after line false h to.sends)) fits;
    others = λ i apart o later l f. row_stays w p olds o later h (after line false h to.sends) (row_at olds i) l adds f;
    owns = λ t r i. inl (commits_before h (after line false h to.sends) t r adds i);
    locks = λ t r i. locks_before MayAsk (λ k q e. cc) line false h to.sends licensed t r i;
  }
    where
      adds : AddsNoCommit h (after line false h to.sends)
      adds = asks_no_commit line h to.sends licensed

  -- A transaction. It posts nothing while it may be written.

  stand_committed : (c d m n v : ℕ) (old new : Standing P) (from to : Posted) (h : List Event) → KeepsPlan old new from to → IsCommittedSo {P = P} h v (row.Begun c old m) → IsCommittedSo {P = P} h v (row.Begun d new n)
  stand_committed c d m n v old new from to h keeps (parts, closed, whole, committed) =
      (parts, keeps.closed closed, ap parts_of (keeps.fixed (keeps.closed closed)) ∙ whole, subst (λ u. PrimaryCommitted (plan_of parts) h (version_of u) v) (sym keeps.start) committed)

  stand_unlocked : (c d m n : ℕ) (old new : Standing P) (from to : Posted) → KeepsPlan old new from to → IsCommittedUnlocked {P = P} (row.Begun c old m) → IsCommittedUnlocked {P = P} (row.Begun d new n)
  stand_unlocked c d m n old new from to keeps (closed, unlocked) = (keeps.closed closed, ap locks_nothing (keeps.fixed (keeps.closed closed)) ∙ unlocked)

  stand_right : (c d m n : ℕ) (old new : Standing P) (from to : Posted) (o : Outcome) (h : List Event) → KeepsPlan old new from to → HoldsOf h o (row.Begun c old m) → HoldsOf h o (row.Begun d new n)
  stand_right c d m n old new from to (outcomes.Ok (payloads.Number v)) h keeps x = ap version_of keeps.start ∙ x
  stand_right c d m n old new from to (outcomes.Ok (payloads.Commit (Some v))) h keeps x = stand_committed c d m n v old new from to h keeps x
  stand_right c d m n old new from to (outcomes.Ok (payloads.Commit None)) h keeps x = stand_unlocked c d m n old new from to keeps x
  stand_right c d m n old new from to o h keeps x = tt

  stand_behind : (c d m n : ℕ) (old new : Standing P) (from to : Posted) (job : SecondaryJob P) (o : Posted) (h : List Event) → KeepsPlan old new from to → IsBehind w job o h (row.Begun c old m) → IsBehind w job o h (row.Begun d new n)
  stand_behind c d m n old new from to job o h keeps (parts, start, closed, whole, fits) =
      (parts, ap version_of keeps.start ∙ start, keeps.closed closed, ap parts_of (keeps.fixed (keeps.closed closed)) ∙ whole, fits)

  stand_plan : (c d m n : ℕ) (old new : Standing P) (from to : Posted) (plans : ℕ → Plan) → KeepsPlan old new from to → HasPlan {P = P} plans (row.Begun d new n) → HasPlan {P = P} plans (row.Begun c old m)
  stand_plan c d m n old new from to plans keeps have closed parts e =
      ap (λ u. plans (version_of u)) (sym keeps.start) ∙ have (keeps.closed closed) parts (ap parts_of (keeps.fixed (keeps.closed closed)) ∙ e)

  stand_licensed : (line d n : ℕ) (old new : Standing P) (from to : Posted) (plans : ℕ → Plan) (h : List Event) → from.sends ≡ [] → KeepsPlan old new from to → HasPlan {P = P} plans (row.Begun d new n)
      → Licensed (MaySendFor old.contents (version_of old.start)) line false h to.sends → Licensed (IsLicensedInRun plans) line false h to.sends
  stand_licensed line d n old new from to plans h empty keeps have licensed = elim keeps.quiet [
    | inl e ↦ subst (λ es. Licensed (IsLicensedInRun plans) line false h es) (sym (ap (λ (o : Posted). o.sends) e ∙ empty)) tt
    | inr closed ↦ Licensed-weaker {may = MaySendFor old.contents (version_of old.start)} {more = IsLicensedInRun plans} (may closed) line false h to.sends licensed
  ]
    where
      may : allows_data new.status ≡ false → (g : List Event) (r : Request) → MaySendFor old.contents (version_of old.start) g r → IsLicensedInRun plans g r
      may closed g r (parts, e, m) = may_transact plans (plan_of parts) (version_of old.start) g r (ap (λ u. plans (version_of u)) (sym keeps.start) ∙ have closed parts (ap parts_of (keeps.fixed closed) ∙ e)) m

  pub stand_rises : (olds : List (Row P)) (line at c d m n : ℕ) (old new : Standing P) (from to : Posted) (h : List Event) → at < length olds → AreApart olds → row_at olds at ≡ row.Begun c old m → from.sends ≡ []
      → KeepsPlan old new from to → Licensed (MaySendFor old.contents (version_of old.start)) line false h to.sends → StandFits w new to (after line false h to.sends) → Rises w olds line at (row.Begun d new n) to h
  stand_rises olds line at c d m n old new from to h inside apart was empty keeps licensed fits = record {
    starts = λ v x. subst (HasStart v) (sym was) (ap version_of (sym keeps.start) ∙ x);
    stays = λ v x. let y : version_of old.start ≡ v = subst (HasStart v) was x in ap version_of keeps.start ∙ y;
    plans = λ plans x. subst (HasPlan plans) (sym was) (stand_plan c d m n old new from to plans keeps x);
    behind = λ job o g x. stand_behind c d m n old new from to job o g keeps (subst (IsBehind w job o g) was x);
    right = λ o g x. stand_right c d m n old new from to o g keeps (subst (HoldsOf g o) was x);
    licensed = λ plans have. stand_licensed line d n old new from to plans h empty keeps (subst (HasPlan plans) here (have at)) licensed;
    fits = λ later l. (fits.0, others_fit w p new to later _ _ l (adds_same _ (after line false h to.sends)) fits.1, fits.2, fits.3);
    others = λ i other o later l f. row_grows w p olds o later h (after line false h to.sends) (row_at olds i) l (Within-after line false h to.sends)
        (λ v b. others_add old.contents v (version_of old.start) line false h to.sends (λ e. other (apart i at v b (subst (HasStart v) (sym was) e))) licensed) f;
    owns = λ t r i. elim (commits_own old.contents (version_of old.start) line false h to.sends t r licensed i) [
      | inl j ↦ inl j
      | inr e ↦ inr (at, subst (HasStart r.start_version) (sym here) (ap version_of keeps.start ∙ sym e))
    ];
    locks = λ t r i. locks_before (MaySendFor old.contents (version_of old.start)) (λ k q m. m.2) line false h to.sends licensed t r i;
  }
    where
      here : row_at (set olds at (row.Begun d new n)) at ≡ row.Begun d new n
      here = or_same olds at (row.Begun d new n) row.Plain inside

  -- A job, and the transaction whose other keys it commits

  pub record HasJob (job : SecondaryJob P) (o : Posted) (h : List Event) (r : Row P) : Type 0 where
    pub parts : CommitParts
    pub fits : JobFits w.plan w.uncommitted (plan_of parts) parts.secondaries job o h
    pub start : HasStart (version_of job.start) r
    pub plan : (plans : ℕ → Plan) → HasPlan plans r → plans (version_of job.start) ≡ plan_of parts
    pub again : (next : SecondaryJob P) (u : Posted) (g : List Event) → version_of next.start ≡ version_of job.start → JobFits w.plan w.uncommitted (plan_of parts) parts.secondaries next u g → IsBehind w next u g r
    pub stays : (rows : List (Row P)) (u later : Posted) (line : ℕ) (g : List Event) (sends : List Errand) → IsLater u later → Licensed (MaySendBehind (plan_of parts) (version_of job.start)) line false g sends → RowFits w rows u g r → RowFits w rows later (after line false g sends) r

  pub has_job : (job : SecondaryJob P) (o : Posted) (h : List Event) (r : Row P) → IsBehind w job o h r → HasJob job o h r
  has_job job o h row.Plain b = absurd b
  has_job job o h (row.Client c) b = absurd b
  has_job job o h (row.Asking c x call) b = absurd b
  has_job job o h (row.Begun c t m) (parts, start, closed, whole, fits) = record {
    parts = parts;
    fits = fits;
    start = start;
    plan = λ plans have. ap plans (sym start) ∙ have closed parts whole;
    again = λ next u g e f. (parts, start ∙ sym e, closed, whole, f);
    stays = λ rows u later line g sends l licensed f. (
      f.0,
      others_fit_still w p t parts u later g (after line false g sends) closed whole l
          (job_adds (plan_of parts) (version_of t.start) line false g sends (subst (λ v. Licensed (MaySendBehind (plan_of parts) v) line false g sends) (sym start) licensed)) f.1,
      f.2,
      λ whole' own u' e. first_front (version_of t.start) whole'.primary g (after line false g sends) u' (after_front line false g sends) (f.3 whole' own u' e),
    );
  }
  has_job job o h (row.Calling c x y) b = absurd b
  has_job job o h (row.Past c) b = absurd b
  has_job job o h (row.Working c x) b = absurd b

  pub working_rises : (olds : List (Row P)) (line at c d j : ℕ) (old new : SecondaryJob P) (from to : Posted) (g h : List Event) → at < length olds → AreApart olds → row_at olds at ≡ row.Working c old
      → (b : HasJob old from g (row_at olds j)) → version_of new.start ≡ version_of old.start → Licensed (MaySendBehind (plan_of b.parts) (version_of old.start)) line false h to.sends
      → JobFits w.plan w.uncommitted (plan_of b.parts) b.parts.secondaries new to (after line false h to.sends) → Rises w olds line at (row.Working d new) to h
  working_rises olds line at c d j old new from to g h inside apart was b same licensed fits = record {
    starts = λ v x. absurd x;
    stays = λ v x. subst (HasStart v) was x;
    plans = λ plans x. subst (HasPlan plans) (sym was) tt;
    behind = λ job o f x. subst (IsBehind w job o f) was x;
    right = λ o f x. working_right P c d old new o f (subst (HoldsOf f o) was x);
    licensed = λ plans have. Licensed-weaker {may = MaySendBehind (plan_of b.parts) (version_of old.start)} {more = IsLicensedInRun plans} (λ f r m. may_transact plans (plan_of b.parts) (version_of old.start) f r (b.plan plans (subst (HasPlan plans) there (have j))) m.may) line false h to.sends licensed;
    fits = λ later l. (j, subst (IsBehind w new later (after line false h to.sends)) (sym there) (b.again new later (after line false h to.sends) same (job_grows w p (plan_of b.parts) b.parts.secondaries new to later (after line false h to.sends) (after line false h to.sends) l (Within-refl (after line false h to.sends)) fits)));
    others = λ i other o later l f. elim (same_line j i) [
      | inl e ↦ subst (λ x. RowFits w olds later (after line false h to.sends) (row_at olds x)) (sym e) (b.stays olds o later line h to.sends l licensed (subst (λ x. RowFits w olds o h (row_at olds x)) e f))
      | inr far ↦ row_grows w p olds o later h (after line false h to.sends) (row_at olds i) l (Within-after line false h to.sends)
          (λ v x. other_jobs_add (plan_of b.parts) v (version_of old.start) line false h to.sends (λ e. far (apart i j v x (subst (λ u. HasStart u (row_at olds j)) e b.start))) licensed) f
    ];
    owns = λ t r i. elim (job_commits_own (plan_of b.parts) (version_of old.start) line false h to.sends t r licensed i) [
      | inl x ↦ inl x
      | inr e ↦ inr (j, subst (HasStart r.start_version) (sym there) (subst (λ u. HasStart u (row_at olds j)) (sym e) b.start))
    ];
    locks = λ t r i. locks_before (MaySendBehind (plan_of b.parts) (version_of old.start)) (λ k q m. m.may) line false h to.sends licensed t r i;
  }
    where
      far_from : j ≢ at
      far_from e = subst (λ r. HasStart (version_of old.start) r) was (subst (λ i. HasStart (version_of old.start) (row_at olds i)) e b.start)

      there : row_at (set olds at (row.Working d new)) j ≡ row_at olds j
      there = or_other olds at j (row.Working d new) row.Plain far_from

  -- What a commit answers

  pub stand_commits : (d n : ℕ) (old new : Standing P) (from to : Posted) (h : List Event) (t : Timestamp) (job : Option (SecondaryJob P)) → KeepsPlan old new from to → allows_data new.status ≡ false
      → TransactionGives w old.options.retry_options old.start old.contents new.commits h (Ok (answer.Committed (Some t) job))
      → IsCommittedSo {P = P} h (version_of t) (row.Begun d new n) × IfSome job (λ j. (o : Posted) → IsBehind {P = P} w j o h (row.Begun d new n))
  stand_commits d n old new from to h t job keeps closed gives = ((c.0, closed, fixed ∙ c.1, subst (λ u. PrimaryCommitted (plan_of c.0) h (version_of u) (version_of t)) (sym keeps.start) c.2), behind job gives)
    where
      c : (parts : CommitParts) × (parts_of old.contents ≡ Some parts) × PrimaryCommitted (plan_of parts) h (version_of old.start) (version_of t)
      c = ends_committed w old.options.retry_options old.start t old.contents new.commits h job gives

      fixed : parts_of new.contents ≡ parts_of old.contents
      fixed = ap parts_of (keeps.fixed closed)

      behind : (job : Option (SecondaryJob P)) → TransactionGives w old.options.retry_options old.start old.contents new.commits h (Ok (answer.Committed (Some t) job)) → IfSome job (λ j. (o : Posted) → IsBehind {P = P} w j o h (row.Begun d new n))
      behind None x = tt
      behind (Some j) x = λ o. let e = ends_with_job w old.options.retry_options old.start t old.contents new.commits o h j x in
          (e.0, ap version_of (keeps.start ∙ sym e.2), closed, fixed ∙ e.1, e.4)

  -- it locked nothing
  gives_unlocked : (old new : Standing P) (h : List Event) → TransactionGives w old.options.retry_options old.start old.contents new.commits h (Ok (answer.Committed None None)) → locks_nothing old.contents ≡ true
  gives_unlocked old new h (inl (parts, whole, stands)) = ap lock_nothing whole ∙ ap not stands.0
  gives_unlocked old new h (inr (none, nothing)) = ap lock_nothing none

  pub stand_unlocks : (d n : ℕ) (old new : Standing P) (from to : Posted) (h : List Event) → KeepsPlan old new from to → allows_data new.status ≡ false → TransactionGives w old.options.retry_options old.start old.contents new.commits h (Ok (answer.Committed None None)) → IsCommittedUnlocked {P = P} (row.Begun d new n)
  stand_unlocks d n old new from to h keeps closed gives = (closed, ap locks_nothing (keeps.fixed closed) ∙ gives_unlocked old new h gives)
