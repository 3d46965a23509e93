-- What can have arisen from a history can have arisen from a longer one, where what is new does it no harm: no Commit of its own start,
-- and nothing that a line posts.
use Rattle.std.specs.Prelude.{◌≡◌, ⊤, ℕ, Bool, true, false, List, [], ◌∷◌, Option, Some, None, if◌then◌else◌, refl}
use Rattle.std.proofs.Common.{zero, suc, inl, inr, eqb, sym, ap, ◌∙◌, subst}
use Rattle.std.proofs.lemmas.Bool.Decides.{eqb_tells}
use Rattle.txn_kv.specs.Timestamp.{version_of}
use Rattle.txn_kv.specs.declared.request.commits.CommitRequest.{CommitRequest}
use Rattle.txn_kv.specs.declared.request.Request.TheVariants.{Commit}
use Rattle.txn_kv.specs.declared.ticket.Ticket.{Ticket}
use Rattle.txn_history.specs.Event.{Event, Has}
use Rattle.txn_history.specs.Event.Event.{Asked, Began, Sent}
use Rattle.txn_history.specs.Later.{IsLater, IsLater-refl}
use Rattle.txn_history.specs.Meaning.{IsLawful}
use Rattle.txn_history.specs.Plan.{Key, Plan}
use Rattle.txn_history.specs.Plan.Way.{TwoPhases}
use Rattle.txn_history.specs.Posted.{Posted, Within, Within-one}
use Rattle.txn_law.specs.Run.{IsPossible, IsRun}
use Rattle.txn_commit.specs.Ways.{Ways}
use Rattle.txn_merge.specs.declared.retry_options.RetryOptions.{RetryOptions}
use Rattle.txn_commit.specs.Jobs.{IsJobAt, JobFits}
use Rattle.txn_commit.specs.Parts.{parts_of}
use Rattle.txn_commit.specs.Plans.{committed_longer}
use Rattle.txn_commit.specs.Sending.{plan_of}
use Rattle.txn_commit.specs.declared.commit_parts.CommitParts.{CommitParts}
use Rattle.txn_commit.specs.declared.secondary_job.SecondaryJob.{SecondaryJob}
use Rattle.txn_commit.specs.declared.secondary_job.Stage.{Stage}
use Rattle.txn_commit.specs.declared.secondary_job.Stage.TheVariants as stage
use Rattle.txn_core.specs.Others.{AddsNone, AddsNothingOf}
use Rattle.txn_clients.specs.First.{first_front}
use Rattle.txn_core.proofs.Others.{adds_one, adds_within, newer_or_older, others_fit}
use Rattle.txn_client.specs.Calls.{called-lawful}
use Rattle.txn_report.specs.declared.outcome.Outcome.{Outcome}
use Rattle.txn_report.specs.declared.outcome.Outcome.TheVariants as outcomes
use Rattle.txn_report.specs.declared.outcome.Payload.TheVariants as payloads
use Rattle.txn_side.specs.Arising.{IsOutside}
use Rattle.txn_trace.specs.Drawing.{IsDrawn}
use Rattle.txn_trace.specs.Posting.{PostsNothing, SendsNothing}
use Rattle.txn_trace.proofs.Drawn.{draw_longer, draws_line}
use Rattle.txn_trace.proofs.Fitting.{fits_more}
use Rattle.txn_trace.proofs.Growing.{unsent_runs}
use Rattle.txn_trace.proofs.Lines.{fresh_quiet}
use Rattle.txn_trace.proofs.Timing.{answerable_more}
use Rattle.txn_tso.specs.Oracle.{Answer as Answered_to}
use Rattle.txn_clients.specs.Arising.{Arisen, Draws, HasPlan, HasStart, HavePlans, HoldsOf, IsBehind, IsCommittedSo, KeepRight, RowFits}
use Rattle.txn_clients.specs.Clients.{row_at, rows_of}
use Rattle.txn_clients.specs.declared.clients.Clients.{Clients}
use Rattle.txn_clients.specs.declared.row.Row.{Row}
use Rattle.txn_clients.specs.declared.row.Row.TheVariants as row

-- Histories that grow

-- the event sends no Commit
abbrev pub IsNoCommit : Event → Type 0
IsNoCommit (Sent t (Commit r)) = ⊥
IsNoCommit e = ⊤

-- the longer history is the other one and newer events, of which none sends a Commit
abbrev pub AddsNoCommit : List Event → List Event → Type 0
AddsNoCommit h longer = AddsNone (λ r. ⊤) h longer

pub adds_none_of : (is : CommitRequest → Type 0) (h longer : List Event) → AddsNoCommit h longer → AddsNone is h longer
adds_none_of is h longer a = record { newer = a.newer; grown = a.grown; none = λ t r i x. a.none t r i tt }

pub adds_no_commit : (e : Event) (h : List Event) → IsNoCommit e → AddsNoCommit h (e ∷ h)
adds_no_commit e h n = adds_one (λ r. ⊤) e h (λ t r f x. subst IsNoCommit f n)

-- each Commit in it was sent before
pub commits_before : (h longer : List Event) (t : Ticket) (r : CommitRequest) → AddsNoCommit h longer → Has longer (Sent t (Commit r)) → Has h (Sent t (Commit r))
commits_before h longer t r a i = elim (newer_or_older a.newer h (Sent t (Commit r)) (subst (λ k. Has k (Sent t (Commit r))) a.grown i)) [ inl j ↦ absurd (a.none t r j tt) | inr j ↦ j ]

-- Events that no line posts

pub posts_no_commit : (e : Event) → PostsNothing e → IsNoCommit e
posts_no_commit (Sent t r) n = absurd n
posts_no_commit e n = tt

pub posts_sends_nothing : (e : Event) → PostsNothing e → SendsNothing e
posts_sends_nothing (Sent t r) n = absurd n
posts_sends_nothing e n = tt

pub outside_posts_nothing : (e : Event) → IsOutside e → PostsNothing e
outside_posts_nothing (Sent t r) n = absurd n
outside_posts_nothing (Began t ms) n = absurd n
outside_posts_nothing (Asked a) n = absurd n
outside_posts_nothing e n = tt

-- What the oracles hold, what is told, and what was drawn

pub drawn_grows : (askers : Ticket → List ℕ) (h longer : List Event) (n v : ℕ) → Within h longer → IsDrawn askers h n v → IsDrawn askers longer n v
drawn_grows askers h longer n v w d = draw_longer askers askers h longer n v w (λ t r o g. refl) d

pub draws_grow : {P : Type 0} (s : Clients P) (askers : Ticket → List ℕ) (rest : List Answered_to) (h longer : List Event) → Within h longer → Draws s askers rest h → Draws s askers rest longer
draws_grow s askers rest h longer w d = record {
  starts = λ i v b. drawn_grows askers h longer (suc i) v w (d.starts i v b);
  groups = d.groups;
  given = λ a time i. drawn_grows askers h longer a.line (version_of time) w (d.given a time i);
}

-- What stands at the lines

module _ {P : Type 0} (w : Ways P) (p : IsLawful w.plan) where
  job_at_grows : (options : RetryOptions) (s c : ℕ) (keys kept : List Key) (g : Stage P) (o later : Posted) (h longer : List Event) → IsLater o later → Within h longer
      → IsJobAt w.plan (w.uncommitted options) s c keys kept g o h → IsJobAt w.plan (w.uncommitted options) s c keys kept g later longer
  job_at_grows options s c keys kept stage.Fresh o later h longer l within f = f
  job_at_grows options s c keys kept (stage.Committing x) o later h longer l within f = record { now = p.fits_longer x o later h longer l within f.now; way = f.way }
  job_at_grows options s c keys kept stage.Stopped o later h longer l within f = tt

  pub job_grows : (plan : Plan) (keys : List Key) (job : SecondaryJob P) (o later : Posted) (h longer : List Event) → IsLater o later → Within h longer
      → JobFits w.plan w.uncommitted plan keys job o h → JobFits w.plan w.uncommitted plan keys job later longer
  job_grows plan keys job o later h longer l within f = record {
    way = f.way;
    apart = f.apart;
    committed = committed_longer plan (version_of job.start) (version_of job.commit) h longer within f.committed;
    at = job_at_grows job.retry_options (version_of job.start) (version_of job.commit) keys job.keys job.stage o later h longer l within f.at;
  }

  -- the transaction of a job stays so where that is no longer written
  pub behind_grows : (job : SecondaryJob P) (o later : Posted) (h longer : List Event) (r : Row P) → IsLater o later → Within h longer → IsBehind w job o h r → IsBehind w job later longer r
  behind_grows job o later h longer row.Plain l within b = absurd b
  behind_grows job o later h longer (row.Client c) l within b = absurd b
  behind_grows job o later h longer (row.Asking c x call) l within b = absurd b
  behind_grows job o later h longer (row.Begun c t m) l within b = (b.0, b.1, b.2, b.3, job_grows (plan_of b.0) b.0.secondaries job o later h longer l within b.4)
  behind_grows job o later h longer (row.Calling c x y) l within b = absurd b
  behind_grows job o later h longer (row.Past c) l within b = absurd b
  behind_grows job o later h longer (row.Working c x) l within b = absurd b

  -- a row, where no Commit of its own start is new
  pub row_grows : (rows : List (Row P)) (o later : Posted) (h longer : List Event) (r : Row P) → IsLater o later → Within h longer → ((s : ℕ) → HasStart s r → AddsNothingOf s h longer)
      → RowFits w rows o h r → RowFits w rows later longer r
  row_grows rows o later h longer row.Plain l within none f = tt
  row_grows rows o later h longer (row.Client c) l within none f = tt
  row_grows rows o later h longer (row.Asking c b call) l within none f = called-lawful.fits_longer call o later h longer l within f
  row_grows rows o later h longer (row.Begun c t m) l within none f = (f.0, others_fit w p t o later h longer l (none (version_of t.start) refl) f.1, f.2, λ parts whole u e. let n = none (version_of t.start) refl in first_front (version_of t.start) parts.primary h longer u (n.newer, n.grown) (f.3 parts whole u e))
  row_grows rows o later h longer (row.Calling c x b) l within none f = tt
  row_grows rows o later h longer (row.Past c) l within none f = tt
  row_grows rows o later h longer (row.Working c job) l within none f = (f.0, behind_grows job o later h longer (row_at rows f.0) l within f.1)

  pub row_stays : (rows : List (Row P)) (o later : Posted) (h longer : List Event) (r : Row P) → IsLater o later → AddsNoCommit h longer → RowFits w rows o h r → RowFits w rows later longer r
  row_stays rows o later h longer r l a f = row_grows rows o later h longer r l (adds_within (λ r. ⊤) h longer a) (λ s b. adds_none_of (λ r. r.start_version ≡ s) h longer a) f

  -- The whole

  -- something happens that no line posts
  pub arisen_beside : (s : Clients P) (askers : Ticket → List ℕ) (rest : List Answered_to) (h : List Event) (e : Event) → PostsNothing e → IsPossible h e → Arisen w s askers rest h → Arisen w s askers rest (e ∷ h)
  arisen_beside s askers rest h e quiet may a = record {
    run = λ plans have. unsent_runs plans h (a.run plans have) e (posts_sends_nothing e quiet) may;
    rows = λ i. row_stays (rows_of s) _ _ h (e ∷ h) (row_at (rows_of s) i) (IsLater-refl _) adds (a.rows i);
    oracles = λ c. fits_more _ _ h e (a.oracles c);
    fresh = λ n. fresh_quiet n false h _ _ e quiet (a.fresh n);
    draws = draws_grow s askers rest h (e ∷ h) (Within-one e h) a.draws;
    answerable = answerable_more rest h e a.answerable;
    owned = λ t r i. a.owned t r (commits_before h (e ∷ h) t r adds i);
    optimistic = λ t r i. elim i [ inl same ↦ subst SendsNothing same (posts_sends_nothing e quiet) | inr was ↦ a.optimistic t r was ];
    apart = a.apart;
  }
    where
      adds : AddsNoCommit h (e ∷ h)
      adds = adds_no_commit e h (posts_no_commit e quiet)

  pub arisen_outside : (s : Clients P) (askers : Ticket → List ℕ) (rest : List Answered_to) (h : List Event) (e : Event) → IsOutside e → IsPossible h e → Arisen w s askers rest h → Arisen w s askers rest (e ∷ h)
  arisen_outside s askers rest h e out may a = arisen_beside s askers rest h e (outside_posts_nothing e out) may a

-- the first of those that may be told is passed over
pub arisen_fewer : {P : Type 0} (w : Ways P) (s : Clients P) (askers : Ticket → List ℕ) (x : Answered_to) (rest : List Answered_to) (h : List Event) → Arisen w s askers (x ∷ rest) h → Arisen w s askers rest h
arisen_fewer w s askers x rest h a = record {
  run = a.run;
  rows = a.rows;
  oracles = a.oracles;
  fresh = a.fresh;
  draws = record { starts = a.draws.starts; groups = a.draws.groups; given = λ y time i. a.draws.given y time (inr i) };
  answerable = a.answerable.1;
  owned = a.owned;
  optimistic = a.optimistic;
  apart = a.apart;
}

-- What is right of a row stays so.

module _ {P : Type 0} where
  pub committed_grows : (h longer : List Event) (v : ℕ) (r : Row P) → Within h longer → IsCommittedSo h v r → IsCommittedSo longer v r
  committed_grows h longer v row.Plain within c = absurd c
  committed_grows h longer v (row.Client x) within c = absurd c
  committed_grows h longer v (row.Asking x b call) within c = absurd c
  committed_grows h longer v (row.Begun x t m) within c = (c.0, c.1, c.2, committed_longer (plan_of c.0) (version_of t.start) v h longer within c.3)
  committed_grows h longer v (row.Calling x y b) within c = absurd c
  committed_grows h longer v (row.Past x) within c = absurd c
  committed_grows h longer v (row.Working x job) within c = absurd c

  pub holds_grow : (h longer : List Event) (o : Outcome) (r : Row P) → Within h longer → HoldsOf h o r → HoldsOf longer o r
  holds_grow h longer (outcomes.Ok (payloads.Number v)) r within x = x
  holds_grow h longer (outcomes.Ok (payloads.Commit (Some v))) r within x = committed_grows h longer v r within x
  holds_grow h longer (outcomes.Ok (payloads.Commit None)) r within x = x
  holds_grow h longer o r within x = tt

  -- where each row is as right as before
  pub right_by : (olds news : List (Row P)) → ((i : ℕ) (o : Outcome) (h : List Event) → HoldsOf h o (row_at olds i) → HoldsOf h o (row_at news i)) → KeepRight olds news
  right_by olds news each zero o h longer within x = tt
  right_by olds news each (suc i) o h longer within x = holds_grow h longer o (row_at news i) within (each i o h x)

  pub right_same : (rows : List (Row P)) → KeepRight rows rows
  right_same rows = right_by rows rows (λ i o h x. x)

-- Plans

-- Two transactions have unlike starts.
abbrev pub AreApart : {P : Type 0} → List (Row P) → Type 0
AreApart rows = (i j v : ℕ) → HasStart v (row_at rows i) → HasStart v (row_at rows j) → i ≡ j

abbrev pub unplanned : Plan
unplanned = record { primary = []; ops = λ k. None; writes = λ k. None; way = TwoPhases; one_phase = false }

abbrev pub plan_or : Option CommitParts → Plan
plan_or None = unplanned
plan_or (Some parts) = plan_of parts

-- the plan of a transaction that has this start, and else another
abbrev pub plan_by : {P : Type 0} → ℕ → Row P → Plan → Plan
plan_by s (row.Begun c t m) other = if eqb (version_of t.start) s then plan_or (parts_of t.contents) else other
plan_by s r other = other

-- for each start the plan of the first transaction that has it
abbrev pub plans_in : {P : Type 0} → List (Row P) → ℕ → Plan
plans_in [] s = unplanned
plans_in (r ∷ rows) s = plan_by s r (plans_in rows s)

plan_here : (b : Bool) (mine other : Plan) → b ≡ true → (if b then mine else other) ≡ mine
plan_here true mine other e = refl
plan_here false mine other e = absurd (cc)

plan_there : (b : Bool) (mine other : Plan) → b ≡ false → (if b then mine else other) ≡ other
plan_there false mine other e = refl
plan_there true mine other e = absurd (cc)

pub suc_same : (i j : ℕ) → suc i ≡ suc j → i ≡ j
suc_same i j e = cc

zero_not : (i : ℕ) → zero ≡ suc i → ⊥
zero_not i e = cc

module _ {P : Type 0} where
  -- it is passed over where it has another start
  plan_passed : (s : ℕ) (r : Row P) (other : Plan) → (HasStart s r → ⊥) → plan_by s r other ≡ other
  plan_passed s row.Plain other other_start = refl
  plan_passed s (row.Client c) other other_start = refl
  plan_passed s (row.Asking c b call) other other_start = refl
  plan_passed s (row.Begun c t m) other other_start = elim (eqb_tells (version_of t.start) s) [ inl e ↦ absurd (other_start e.1) | inr e ↦ plan_there (eqb (version_of t.start) s) (plan_or (parts_of t.contents)) other e.0 ]
  plan_passed s (row.Calling c x b) other other_start = refl
  plan_passed s (row.Past c) other other_start = refl
  plan_passed s (row.Working c job) other other_start = refl

  apart_behind : (r : Row P) (rows : List (Row P)) → AreApart (r ∷ rows) → AreApart rows
  apart_behind r rows apart i j v b d = suc_same i j (apart (suc i) (suc j) v b d)

  has_plan : (other : ℕ → Plan) (r : Row P) → ((s : ℕ) → HasStart s r → other s ≡ plan_by s r unplanned) → HasPlan other r
  has_plan other row.Plain found = tt
  has_plan other (row.Client c) found = tt
  has_plan other (row.Asking c b call) found = tt
  has_plan other (row.Begun c t m) found = λ closed parts e. found (version_of t.start) refl ∙ here ∙ ap plan_or e
    where
      here : plan_by (version_of t.start) (row.Begun c t m) unplanned ≡ plan_or (parts_of t.contents)
      here = elim (eqb_tells (version_of t.start) (version_of t.start)) [ inl e ↦ plan_here (eqb (version_of t.start) (version_of t.start)) (plan_or (parts_of t.contents)) unplanned e.0 | inr e ↦ absurd (e.1 refl) ]
  has_plan other (row.Calling c x b) found = tt
  has_plan other (row.Past c) found = tt
  has_plan other (row.Working c job) found = tt

  -- whatever comes behind it, its plan is its own
  plan_first : (s : ℕ) (r : Row P) (one other : Plan) → HasStart s r → plan_by s r one ≡ plan_by s r other
  plan_first s row.Plain one other b = absurd b
  plan_first s (row.Client c) one other b = absurd b
  plan_first s (row.Asking c x call) one other b = absurd b
  plan_first s (row.Begun c t m) one other b = elim (eqb_tells (version_of t.start) s) [
    | inl e ↦ plan_here (eqb (version_of t.start) s) (plan_or (parts_of t.contents)) one e.0 ∙ sym (plan_here (eqb (version_of t.start) s) (plan_or (parts_of t.contents)) other e.0)
    | inr e ↦ absurd (e.1 b)
  ]
  plan_first s (row.Calling c x y) one other b = absurd b
  plan_first s (row.Past c) one other b = absurd b
  plan_first s (row.Working c x) one other b = absurd b

  plan_found : (rows : List (Row P)) (i s : ℕ) → AreApart rows → HasStart s (row_at rows i) → plans_in rows s ≡ plan_by s (row_at rows i) unplanned
  plan_found [] i s apart b = absurd b
  plan_found (r ∷ rows) zero s apart b = plan_first s r (plans_in rows s) unplanned b
  plan_found (r ∷ rows) (suc i) s apart b = plan_passed s r (plans_in rows s) (λ d. zero_not i (apart zero (suc i) s d b)) ∙ plan_found rows i s (apart_behind r rows apart) b

  pub plans_found : (rows : List (Row P)) → AreApart rows → HavePlans (plans_in rows) rows
  plans_found rows apart i = has_plan (plans_in rows) (row_at rows i) (λ s b. plan_found rows i s apart b)

  module _ (w : Ways P) where
    -- there are plans under which the history is a run
    pub have_plans : (s : Clients P) (askers : Ticket → List ℕ) (rest : List Answered_to) (h : List Event) → Arisen w s askers rest h → (plans : ℕ → Plan) × HavePlans plans (rows_of s)
    have_plans s askers rest h a = (plans_in (rows_of s), plans_found (rows_of s) a.apart)

    pub some_run : (s : Clients P) (askers : Ticket → List ℕ) (rest : List Answered_to) (h : List Event) → Arisen w s askers rest h → IsRun (plans_in (rows_of s)) h
    some_run s askers rest h a = a.run (plans_in (rows_of s)) (plans_found (rows_of s) a.apart)

    pub starts_apart : (s : Clients P) (askers : Ticket → List ℕ) (rest : List Answered_to) (h : List Event) (i j v : ℕ) → Arisen w s askers rest h → HasStart v (row_at (rows_of s) i) → HasStart v (row_at (rows_of s) j) → i ≡ j
    starts_apart s askers rest h i j v a b d = a.apart i j v b d

    -- what a line draws is the start of no transaction that stands at another place
    pub drawn_apart : (s : Clients P) (askers : Ticket → List ℕ) (rest : List Answered_to) (h : List Event) (i j v : ℕ) → Arisen w s askers rest h → IsDrawn askers h (suc i) v → HasStart v (row_at (rows_of s) j) → i ≡ j
    drawn_apart s askers rest h i j v a d b = suc_same i j (draws_line (plans_in (rows_of s)) h (some_run s askers rest h a) askers (suc i) (suc j) v d (a.draws.starts j v b))
