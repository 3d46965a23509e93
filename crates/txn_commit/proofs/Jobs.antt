-- The calls of the plan of a secondary job as calls of the job.
use Rattle.std.proofs.Common.{◌≡◌, ◌≤◌, ◌⊎◌, inl, inr, ℕ, Bool, true, false, List, ◌∷◌, length, refl, sym, ap, subst, ◌∙◌, arith}
use Rattle.std.proofs.Math.Nat.{le_refl, le_trans}
use Rattle.std.proofs.lemmas.Bool.{false≢true}
use Rattle.std.specs.Prelude.{Result, Ok, Err}
use Rattle.txn_kv.specs.Timestamp.{version_of}
use Rattle.txn_kv.specs.declared.errors.Error.{Error}
use Rattle.txn_kv.specs.declared.request.commits.CommitRequest.{CommitRequest}
use Rattle.txn_kv.specs.declared.request.Request.{Request}
use Rattle.txn_kv.specs.declared.request.Request.TheVariants.{Commit}
use Rattle.txn_history.specs.Event.{Event}
use Rattle.txn_history.specs.Event.Event.{Sent}
use Rattle.txn_history.specs.Licence.{PrimaryCommitted}
use Rattle.txn_history.proofs.Counting.{Spends-after, Spends-before}
use Rattle.txn_history.proofs.Telling.{Tells-stopped}
use Rattle.txn_history.specs.Around.{IsRead}
use Rattle.txn_history.specs.Meaning.{started, Counts, Goes, IsLawful, Meaning, Tells, Told}
use Rattle.txn_history.specs.Moves.{Knows, Moves, Moves-after, Moves-before, SameJob}
use Rattle.txn_history.specs.Phase.{Awaited, IsPosted, Phase, phase_after, unheard}
use Rattle.txn_history.specs.Phase.Phase.{Fresh, GivenUp, Over, Running}
use Rattle.txn_history.specs.Plan.{Key, has_key, Plan}
use Rattle.txn_history.specs.Plan.Way.{TwoPhases}
use Rattle.txn_history.specs.Posted.{Posted, Within}
use Rattle.txn_history.specs.Turn.{Turn, IfEnds, IfKept}
use Rattle.txn_history.specs.Turn.Turn.{Stopped, Waits, Ends}
use Rattle.txn_merge.specs.declared.retry_options.RetryOptions.{RetryOptions}
use Rattle.txn_commit.specs.Jobs.{IsJobAt, IsOut, IsPlanned, JobFits, ReadsDone, job_phase, job_waits, others}
use Rattle.txn_history.specs.Foreign.{IsForeign}
use Rattle.txn_commit.specs.Plans.{AreCommitted, IsOfCommit, IsPlanFor, Says, committed_longer}
use Rattle.txn_commit.specs.Sending.{MaySend, MaySendBehind, NamesNoPrimary}
use Rattle.txn_commit.specs.declared.secondary_job.SecondaryJob.{SecondaryJob}
use Rattle.txn_commit.specs.declared.secondary_job.Stage.{Stage}
use Rattle.txn_commit.specs.declared.secondary_job.Stage.TheVariants as stage
use Rattle.txn_commit.proofs.Committing.{lift, says, under_way_on}
use Rattle.txn_commit.proofs.Posting.{Hears, heard_keeps}
use Rattle.txn_commit.proofs.Sending.{foreign_may}
use Rattle.txn_commit.proofs.Stages.{way_of}

others_may : (plan : Plan) (s c : ℕ) (keys : List Key) (h : List Event) (r : Request) → plan.way ≡ TwoPhases → ((k : Key) → has_key keys k ≡ true → k ≡ plan.primary → ⊥) → PrimaryCommitted plan h s c
    → IsOfCommit s c keys r ⊎ IsForeign h r → MaySend plan s h r
others_may plan s c keys h r way apart p (inr g) = foreign_may plan s h r g
others_may plan s c keys h (Commit r) way apart p (inl w) = (w.0, way, λ k g. inr (apart k (w.2 k g), subst (λ x. PrimaryCommitted plan h x r.commit_version) (sym w.0) (subst (λ y. PrimaryCommitted plan h s y) (sym w.1) p)))
others_may plan s c keys h _ way apart p (inl w) = absurd w

no_primary : (plan : Plan) (s c : ℕ) (keys : List Key) (h : List Event) (r : Request) → ((k : Key) → has_key keys k ≡ true → k ≡ plan.primary → ⊥) → IsOfCommit s c keys r ⊎ IsForeign h r → NamesNoPrimary plan r
no_primary plan s c keys h r apart a q e k = elim (subst (λ x. IsOfCommit s c keys x ⊎ IsForeign h x) e a) [ inl w ↦ apart plan.primary (w.2 plan.primary k) refl | inr f ↦ f ]

others_only : (plan : Plan) (s c : ℕ) (keys : List Key) (h : List Event) (r : Request) → plan.way ≡ TwoPhases → ((k : Key) → has_key keys k ≡ true → k ≡ plan.primary → ⊥) → PrimaryCommitted plan h s c
    → IsOfCommit s c keys r ⊎ IsForeign h r → MaySendBehind plan s h r
others_only plan s c keys h r way apart p a = record { may = others_may plan s c keys h r way apart p a; others = no_primary plan s c keys h r apart a }

-- what the answer of its plan says is what its own says
read_says : {B : Type 0} (refuses : List Event → Error → Type 0) (answered : List Event → Type 0) (v : Result B Error) (b : Result (Unit {0}) Error) (h : List Event) → ReadsDone v b → Says refuses answered h v → Says refuses answered h b
read_says refuses answered (Ok v) b h r g = rw r g
read_says refuses answered (Err e) b h r g = rw r g

read_still : {B : Type 0} (turn : Turn (Result B Error)) (turn' : Turn (Result (Unit {0}) Error)) (is : List Event → Type 0) (gives : List Event → Result B Error → Type 0)
    → IsRead ReadsDone turn turn' → IfKept turn' ((h : List Event) → Knows turn is gives h → is h)
read_still Stopped turn' is gives i = rw i tt
read_still Waits turn' is gives i = rw i (λ h k. k.0)
read_still (Ends a) turn' is gives i = rw i.1 (λ h k. k.0)

read_done : {B : Type 0} (turn : Turn (Result B Error)) (turn' : Turn (Result (Unit {0}) Error)) (is : List Event → Type 0) (refuses : List Event → Error → Type 0) (answered : List Event → Type 0)
    → IsRead ReadsDone turn turn' → IfEnds turn' (λ b. (h : List Event) → Knows turn is (Says refuses answered) h → Says refuses answered h b)
read_done Stopped turn' is refuses answered i = rw i tt
read_done Waits turn' is refuses answered i = rw i tt
read_done (Ends a) turn' is refuses answered i = rw i.1 (λ h k. read_says refuses answered a i.0 h i.2 k.1)

read_unheard : {B : Type 0} (p : Phase) (turn : Turn (Result B Error)) (turn' : Turn (Result (Unit {0}) Error)) → IsRead ReadsDone turn turn' → turn ≡ unheard p → turn' ≡ unheard p
read_unheard Fresh turn turn' i e = rw e at i
read_unheard Running turn turn' i e = rw e at i
read_unheard Over turn turn' i e = rw e at i
read_unheard GivenUp turn turn' i e = rw e at i

read_after : {B : Type 0} (turn : Turn (Result B Error)) (turn' : Turn (Result (Unit {0}) Error)) → IsRead ReadsDone turn turn' → phase_after turn ≡ phase_after turn'
read_after Stopped turn' i = rw i refl
read_after Waits turn' i = rw i refl
read_after (Ends a) turn' i = rw i.1 refl

module _ {P B : Type 0} where
  job_at : (m : Meaning P (Result B Error)) (refuses : RetryOptions → List Event → Error → Type 0) (plan : Plan) (keys : List Key) (job : SecondaryJob P) (g : Stage P) (o : Posted) (h : List Event)
      → job.stage ≡ g → JobFits m refuses plan keys job o h → IsJobAt m (refuses job.retry_options) (version_of job.start) (version_of job.commit) keys job.keys g o h
  job_at m refuses plan keys job g o h e f = subst (λ x. IsJobAt m (refuses job.retry_options) (version_of job.start) (version_of job.commit) keys job.keys x o h) e f.at

  pub job_on : (m : Meaning P (Result B Error)) (refuses : RetryOptions → List Event → Error → Type 0) (plan : Plan) (keys : List Key) (job : SecondaryJob P) (q q' : P) (told : Told) (o o' : Posted) (turn : Turn (Result B Error))
      → job.stage ≡ stage.Committing q
      → ((h : List Event) → Hears h (told.hear h))
      → Moves (m.asks q) (λ h. m.fits q o h × told.known h) (m.fits q' o') (m.gives q) told.hear o o' turn
      → SameJob m.asks m.gives q' q
      → Moves (MaySendBehind plan (version_of job.start)) (λ h. JobFits m refuses plan keys job o h × told.known h) (JobFits m refuses plan keys (record job { stage = stage.Committing q' }) o')
      (Says (refuses job.retry_options) (AreCommitted (version_of job.start) (version_of job.commit) keys)) told.hear o o' turn
  job_on m refuses plan keys job q q' told o o' turn e hears x j =
      lift fact
      (λ h u k r i a. others_only plan s c keys k r u.0.way u.0.apart i ((at h u).way.asks k r a))
      (λ h u k t r i a. longer k (Sent t r ∷ k) (λ y g. inr g) i)
      (λ k x n i. longer k (x ∷ k) (λ y g. inr g) i)
      (λ h u. (((at h u).now, u.1), heard_keeps fact (λ k x n i. longer k (x ∷ k) (λ y g. inr g) i) h (told.hear h) (hears h) u.0.committed))
      x
      (λ h u f i. record { way = u.0.way; apart = u.0.apart; committed = i; at = record { now = f; way = under_way_on j (at h u).way } })
      (λ h u k v g. says (at h u).way k v g)
    where
      s : ℕ
      s = version_of job.start

      c : ℕ
      c = version_of job.commit

      fact : List Event → Type 0
      fact k = PrimaryCommitted plan k s c

      longer : (h k : List Event) → Within h k → PrimaryCommitted plan h s c → PrimaryCommitted plan k s c
      longer = committed_longer plan s c

      at : (h : List Event) → JobFits m refuses plan keys job o h × told.known h → IsOut m (refuses job.retry_options) (version_of job.start) (version_of job.commit) keys q o h
      at h u = job_at m refuses plan keys job (stage.Committing q) o h e u.0

  pub job_begins : (m : Meaning P (Result B Error)) (refuses : RetryOptions → List Event → Error → Type 0) (costs : ℕ → ℕ → ℕ) (plan : Plan) (keys : List Key) (job : SecondaryJob P) (kept : List Key) (q : P) (o : Posted) (request : CommitRequest)
      → job.stage ≡ stage.Fresh
      → request.start_version ≡ version_of job.start → request.commit_version ≡ version_of job.commit → request.keys ≡ job.keys
      → IsPlanFor m (refuses job.retry_options) costs (Commit request) q
      → (h : List Event) → JobFits m refuses plan keys job o h → JobFits m refuses plan keys (record job { keys = kept; stage = stage.Committing q }) o h
  job_begins m refuses costs plan keys job kept q o request d e f g x h u = record {
    way = u.way;
    apart = u.apart;
    committed = u.committed;
    at = record {
      now = x.unbegun.fits o h;
      way = rw (← e, ← f, ← (g ∙ job_at m refuses plan keys job stage.Fresh o h d u)) (way_of _ _ (λ r b. b) (λ k b. b) x);
    };
  }

  -- A call of its plan is a call of the job.

  pub tells_on : (m : Meaning P (Result B Error)) (refuses : RetryOptions → List Event → Error → Type 0) (costs : ℕ → ℕ → ℕ) (plan : Plan) (keys : List Key) (job : SecondaryJob P) (q q' : P) (told : Told) (o o' : Posted)
      (turn : Turn (Result B Error)) (turn' : Turn (Result (Unit {0}) Error))
      → job.stage ≡ stage.Committing q
      → ((h : List Event) → Hears h (told.hear h))
      → IsRead ReadsDone turn turn'
      → Tells m told q q' o o' turn
      → Tells (others m refuses costs plan keys) told job (record job { stage = stage.Committing q' }) o o' turn'
  tells_on m refuses costs plan keys job q q' told o o' turn turn' e hears i t = record {
    moves = Moves-after (job_on m refuses plan keys job q q' told o o' turn e hears t.moves t.job)
        (read_still turn turn' (JobFits m refuses plan keys (record job { stage = stage.Committing q' }) o') (Says (refuses job.retry_options) (AreCommitted (version_of job.start) (version_of job.commit) keys)) i)
        (read_done turn turn' (JobFits m refuses plan keys (record job { stage = stage.Committing q' }) o') (refuses job.retry_options) (AreCommitted (version_of job.start) (version_of job.commit) keys) i);
    job = record { asked = λ h r x. x; given = λ h v x. x; gave = λ h v x. x };
    expects = record { sends = t.expects.sends; pushed = t.expects.pushed; only = λ a w. subst (λ g. (job_waits m g a × (told.heard a → ⊥)) ⊎ IsPosted t.expects.sends a) (sym e) (t.expects.only a w) };
  }

  pub goes_on : {C : Type 0} (m : Meaning P (Result B Error)) (job : SecondaryJob P) (q q' : P) (a meant : Type 0) (o o' : Posted) (pd pd' : C)
      (turn : Turn (Result B Error)) (turn' : Turn (Result (Unit {0}) Error))
      → job.stage ≡ stage.Committing q
      → (meant → a) → (a → meant)
      → IsRead ReadsDone turn turn'
      → Goes m.phase a q q' o o' pd pd' turn
      → Goes (λ (s : SecondaryJob P). job_phase m s.stage) meant job (record job { stage = stage.Committing q' }) o o' pd pd' turn'
  goes_on m job q q' a meant o o' pd pd' turn turn' e is of i t = record {
    deaf = λ other. read_unheard (m.phase q) turn turn' i (t.deaf (λ x. other (of x))) ∙ ap (λ g. unheard (job_phase m g)) (sym e);
    state = λ other. ap (λ (x : P). record job { stage = stage.Committing x }) (t.state (λ x. other (of x))) ∙ ap (λ (x : Stage P). record job { stage = x }) (sym e);
    outbox = λ other. t.outbox (λ x. other (of x));
    client = λ other. t.client (λ x. other (of x));
    next = λ this. t.next (is this) ∙ read_after turn turn' i;
  }

  pub counts_on : (m : Meaning P (Result B Error)) (refuses : RetryOptions → List Event → Error → Type 0) (costs : ℕ → ℕ → ℕ) (plan : Plan) (keys : List Key) (job : SecondaryJob P) (q q' : P)
      (bad fails : Bool) (weight locked : ℕ) (o o' : Posted) (turn : Turn (Result B Error)) (turn' : Turn (Result (Unit {0}) Error))
      → job.stage ≡ stage.Committing q
      → IsRead ReadsDone turn turn'
      → Counts m bad fails weight locked q q' o o' turn
      → Counts (others m refuses costs plan keys) bad fails weight locked job (record job { stage = stage.Committing q' }) o o' turn'
  counts_on m refuses costs plan keys job q q' bad fails weight locked o o' turn turn' e i t =
      subst (λ g. Counts (others m refuses costs plan keys) bad fails weight locked (record job { stage = g }) (record job { stage = stage.Committing q' }) o o' turn') (sym e) (by turn i t)
    where
      by : (turn : Turn (Result B Error)) → IsRead ReadsDone turn turn' → Counts m bad fails weight locked q q' o o' turn
          → Counts (others m refuses costs plan keys) bad fails weight locked (record job { stage = stage.Committing q }) (record job { stage = stage.Committing q' }) o o' turn'
      by Stopped i t = rw i (record { spends = t.spends; fewer = t.fewer })
      by Waits i t = rw i (record { spends = t.spends; fewer = t.fewer })
      by (Ends v) i t = rw i.1 (record { spends = Spends-after (λ f. absurd (false≢true f)) (λ w b. b) (λ n. le_refl _) t.spends; fewer = t.fewer })

  -- what is not for it changes nothing

  pub waits_not : (m : Meaning P (Result B Error)) (job : SecondaryJob P) (g : Stage P) → job.stage ≡ g → ((a : Awaited) → job_waits m g a → ⊥) → (a : Awaited) → job_waits m job.stage a → ⊥
  waits_not m job g e never a w = never a (subst (λ x. job_waits m x a) e w)

  pub unheard_is : {A : Type 0} (m : Meaning P (Result B Error)) (job : SecondaryJob P) (g : Stage P) (turn : Turn A) → job.stage ≡ g → turn ≡ unheard (job_phase m g) → turn ≡ unheard (job_phase m job.stage)
  unheard_is m job g turn e i = i ∙ ap (λ x. unheard (job_phase m x)) (sym e)

  -- The job makes its plan, and starts it.

  pub tells_no_plan : (m : Meaning P (Result B Error)) (refuses : RetryOptions → List Event → Error → Type 0) (costs : ℕ → ℕ → ℕ) (plan : Plan) (keys : List Key) (job mid : SecondaryJob P) (o : Posted) (turn : Turn (Result (Unit {0}) Error))
      → turn ≡ Stopped → mid ≡ record job { keys = mid.keys; stage = stage.Stopped }
      → Tells (others m refuses costs plan keys) started job mid o o turn
  tells_no_plan m refuses costs plan keys job mid o turn e is = rw is (Tells-stopped e refl (record { asked = λ h r x. x; given = λ h v x. x; gave = λ h v x. x }) (λ a w. absurd w))

  pub tells_planned : (m : Meaning P (Result B Error)) (refuses : RetryOptions → List Event → Error → Type 0) (costs : ℕ → ℕ → ℕ) (plan : Plan) (keys : List Key) (job mid new : SecondaryJob P) (o o' : Posted) (turn : Turn (Result (Unit {0}) Error))
      → job.stage ≡ stage.Fresh → IsLawful m → IsPlanned m refuses costs job mid
      → Tells (others m refuses costs plan keys) started mid new o o' turn
      → Tells (others m refuses costs plan keys) started job new o o' turn
  tells_planned m refuses costs plan keys job mid new o o' turn e law (q, request, a, b, k, p, is) t =
      let u : Tells (others m refuses costs plan keys) started (record job { keys = mid.keys; stage = stage.Committing q }) new o o' turn = subst (λ x. Tells (others m refuses costs plan keys) started x new o o' turn) is t in record {
        moves = Moves-before (λ h f. (job_begins m refuses costs plan keys job mid.keys q o request e a b k p h f.0, tt)) u.moves;
        job = record { asked = u.job.asked; given = u.job.given; gave = u.job.gave };
        expects = record {
          sends = u.expects.sends;
          pushed = u.expects.pushed;
          only = λ x w. elim (u.expects.only x w) [ inl i ↦ absurd (never (m.phase q) p.unbegun.phase (law.runs q x i.0)) | inr i ↦ inr i ];
        };
      }
    where
      never : (f : Phase) → f ≡ Fresh → f ≡ Running → ⊥
      never f x y = let z : Fresh ≡ Running = sym x ∙ y in cc

  pub goes_planned : {C : Type 0} (m : Meaning P (Result B Error)) (refuses : RetryOptions → List Event → Error → Type 0) (costs : ℕ → ℕ → ℕ) (job mid new : SecondaryJob P) (o o' : Posted) (pd pd' : C) (turn : Turn (Result (Unit {0}) Error))
      → job.stage ≡ stage.Fresh → IsPlanned m refuses costs job mid
      → Goes (λ (s : SecondaryJob P). job_phase m s.stage) (job_phase m mid.stage ≡ Fresh) mid new o o' pd pd' turn
      → Goes (λ (s : SecondaryJob P). job_phase m s.stage) (job_phase m job.stage ≡ Fresh) job new o o' pd pd' turn
  goes_planned m refuses costs job mid new o o' pd pd' turn e (q, request, a, b, k, p, is) t = record {
    deaf = λ other. absurd (other fresh);
    state = λ other. absurd (other fresh);
    outbox = λ other. absurd (other fresh);
    client = λ other. absurd (other fresh);
    next = λ this. t.next (ap (λ (x : SecondaryJob P). job_phase m x.stage) is ∙ p.unbegun.phase);
  }
    where
      fresh : job_phase m job.stage ≡ Fresh
      fresh = ap (job_phase m) e

  pub counts_planned : (m : Meaning P (Result B Error)) (refuses : RetryOptions → List Event → Error → Type 0) (costs : ℕ → ℕ → ℕ) (plan : Plan) (keys : List Key) (job mid new : SecondaryJob P) (o o' : Posted) (turn : Turn (Result (Unit {0}) Error))
      → job.stage ≡ stage.Fresh → IsPlanned m refuses costs job mid
      → Counts (others m refuses costs plan keys) false false 0 0 mid new o o' turn
      → Counts (others m refuses costs plan keys) false false 0 0 job new o o' turn
  counts_planned m refuses costs plan keys job mid new o o' turn e (q, request, a, b, k, p, is) t =
      subst (λ g. Counts (others m refuses costs plan keys) false false 0 0 (record job { stage = g }) new o o' turn) (sym e)
      (let u : Counts (others m refuses costs plan keys) false false 0 0 (record job { keys = mid.keys; stage = stage.Committing q }) new o o' turn = subst (λ x. Counts (others m refuses costs plan keys) false false 0 0 x new o o' turn) is t in record {
        spends = Spends-before refl (omega arith) (zero_least _) (λ w x. p.unbegun.light _) (λ n w x y z. let l = light n in let r = p.unbegun.whole n in omega arith) (λ n. le_refl _) u.spends;
        fewer = λ n. le_trans (u.fewer n) (light n);
      })
    where
      light : (n : ℕ) → m.round q n ≤ costs (length job.keys) n
      light n = subst (λ (x : List Key). m.round q n ≤ costs (length x) n) k (p.light n)

      zero_least : (n : ℕ) → 0 ≤ n
      zero_least n = omega arith
