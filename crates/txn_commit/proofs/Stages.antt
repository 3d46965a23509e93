-- A commit or a rollback from one stage to the next.
use Rattle.std.proofs.Common.{◌≡◌, ◌≢◌, ◌⊎◌, inl, inr, ℕ, Bool, true, List, [], ◌∷◌, Some, None, refl, sym, ap, subst, ◌∙◌, length, drop, arith}
use Rattle.std.specs.Prelude.{IsErr, Result, Ok, Err}
use Rattle.std.proofs.Math.Seq.{drop-append_seam}
use Rattle.std.proofs.lemmas.Bool.{eqb-true}
use Rattle.std.specs.Bool.{◌==◌}
use Rattle.txn_kv.specs.declared.backoff.Backoff.{Backoff}
use Rattle.txn_kv.specs.declared.memory.NoMemory.{NoMemory}
use Rattle.txn_kv.specs.Timestamp.{version_of}
use Rattle.txn_kv.specs.declared.errors.Error.{Error}
use Rattle.txn_kv.specs.declared.progress.Progress.{Progress}
use Rattle.txn_kv.specs.declared.progress.Progress.TheVariants.{Waiting, Done}
use Rattle.txn_kv.specs.declared.outbox.Errand.TheVariants.{Send, Sleep, Ask}
use Rattle.txn_kv.specs.declared.message.Op.TheVariants.{CheckNotExists}
use Rattle.txn_kv.specs.declared.request.commits.BatchRollbackRequest.{BatchRollbackRequest}
use Rattle.txn_kv.specs.declared.request.commits.CommitRequest.{CommitRequest}
use Rattle.txn_kv.specs.declared.request.commits.PrewriteRequest.{PrewriteRequest}
use Rattle.txn_kv.specs.declared.request.Request.{Request}
use Rattle.txn_kv.specs.declared.request.Request.TheVariants.{Prewrite, Commit, BatchRollback}
use Rattle.txn_kv.specs.declared.ticket.Ticket.{Ticket}
use Rattle.txn_kv.specs.declared.timestamp.Timestamp.{Timestamp}
use Rattle.txn_history.specs.Event.{Event}
use Rattle.txn_history.specs.Event.Event.{Sent, Asked, Answered}
use Rattle.txn_history.specs.Licence.{AllAcknowledged, IsAcknowledged, IsPassed, PrimaryCommitted, PrimaryRolledBack, WantedAfter, WasGiven}
use Rattle.txn_history.specs.Meaning.{Meaning, Tells, Told}
use Rattle.txn_history.specs.Moves.{Knows, Moves, Moves-asked, Moves-before, Moves-quiet, Moves-then, SameJob}
use Rattle.txn_history.specs.Phase.{IsPosted, awaited}
use Rattle.txn_history.specs.Phase.Awaited.{TimeOf}
use Rattle.txn_history.specs.Among.{IsAmong}
use Rattle.txn_history.specs.Plan.{Key, Content, LocksKey, Plan}
use Rattle.txn_history.specs.Posted.{Errand, Licensed, Posted, Within, Within-after, after, posting, ticket_of}
use Rattle.txn_history.specs.Turn.{Turn, turn_of, IfEnds, IfKept, IfKept-both, IfKept-out, IfKept-weaker}
use Rattle.txn_history.specs.Turn.Turn.{Stopped, Waits, Ends}
use Rattle.txn_tso.specs.declared.stage.Stage.TheVariants.{Asked as Out_with}
use Rattle.txn_merge.specs.declared.retry_options.RetryOptions.{RetryOptions}
use Rattle.txn_commit.specs.Committing.{CommitterFits, CommitterGives, CommitterGoesOn, CommitterMoves, IsAllPrewritten, IsAsking, IsFirst, IsRolled, IsWhole, IsWritten, MayCommit, SendsCommits, TimeSays, whole_of}
use Rattle.txn_commit.specs.Following.{Commits, IsFollowed, KnowsCommits, sent, undetermined}
use Rattle.txn_history.specs.Foreign.{IsForeign}
use Rattle.txn_commit.specs.Plans.{AreCommitted, AreRolledBack, IsAnswered, IsOfPrewrite, IsPartOf, IsPlanFor, IsUnderWay, PrewritesOnly, Says, prewritten_key, prewritten_passed}
use Rattle.txn_commit.specs.Sending.{MaySend, content_at, op_at, plan_of}
use Rattle.txn_plan.specs.Timing.{AsksTime, HasAsked, HasBegun, IsAnswerOf, time_asked}
use Rattle.txn_plan.proofs.Timing.{IsTimed, TimeTells, time_tells}
use Rattle.txn_commit.specs.declared.commit_parts.CommitParts.{CommitParts}
use Rattle.txn_commit.specs.declared.committer.CommitterAnswer.{CommitterAnswer}
use Rattle.txn_commit.specs.declared.committer.CommitterCall.{CommitterCall}
use Rattle.txn_commit.specs.declared.committer.Stage.{Stage}
use Rattle.txn_commit.specs.declared.committer.Stage.TheVariants as stage
use Rattle.txn_plan.specs.declared.timestamp_call.TimestampCall.{TimestampCall}
use Rattle.txn_commit.specs.Ways.{Ways}
use Rattle.txn_commit.specs.declared.fetched.Fetched.{Fetched}
use Rattle.txn_commit.proofs.Committing.{Throughout, at_stage, committing_on, throughout_more}
use Rattle.txn_commit.proofs.Following.{knows_more}
use Rattle.txn_commit.proofs.Keys.{has_only, locks_key, names_key, only}
use Rattle.txn_commit.proofs.Posting.{Hears, followed_sent, heard_keeps, hears_told}
use Rattle.txn_commit.proofs.Sending.{IsNoCommit, acknowledged_longer, foreign_may, given_longer, knows_quiet, licensed_lift}
use Rattle.txn_history.specs.Arrivals.{told_by}
use Rattle.txn_kv.specs.declared.arrival.Arrival.{Arrival}

pub waits_is : {V : Type 0} {p : Progress V} → p ≡ Waiting → turn_of (Ok p) ≡ Waits
waits_is e = rw e refl

pub ends_is : {V : Type 0} {p : Progress V} {r v : Result V Error} → p ≡ Done r → r ≡ v → turn_of (Ok p) ≡ Ends v
ends_is e f = rw (e, f) refl

pub stopped_is : {V : Type 0} (r : Result (Progress V) NoMemory) → IsErr r → turn_of r ≡ Stopped
stopped_is (Ok v) e = absurd (cc)
stopped_is (Err e) f = refl

pub kept_all : {X : Type 0} {V : Type 0} (turn : Turn V) → X → IfKept turn X
kept_all Stopped x = tt
kept_all Waits x = x
kept_all (Ends v) x = x

-- what was posted stands behind what there was
pub sent_since : {V : Type 0} {may : List Event → Request → Type 0} {was is : List Event → Type 0} {gives : List Event → V → Type 0} {hear : List Event → List Event} {from to : Posted} {turn : Turn V}
    (m : Moves may was is gives hear from to turn) (t : Timestamp) (c : Commits) (n : ℕ) → n ≡ length from.sends → sent to.line to.beat (drop n to.sends) t c ≡ sent from.line from.beat m.sends t c
sent_since {from} m t c n e = rw (m.line, m.beat, m.pushed, e, drop-append_seam from.sends m.sends) refl

-- all was prewritten, so each key that is written was acknowledged, and each that is checked has passed
pub all_acknowledged : (s : ℕ) (parts : CommitParts) (h : List Event) → IsAllPrewritten s parts h → AllAcknowledged (plan_of parts) h s
all_acknowledged s parts h w = record { locked = locked; checked = checked }
  where
    locked : (k : Key) (x : Content) → content_at parts.mutations k ≡ Some x → IsAcknowledged h s k
    locked k x e = subst (λ y. IsAcknowledged h y k) w.is.start (prewritten_key w.whole h k w.each w.is.locking (subst (λ ms. LocksKey ms k) (sym w.is.mutations) (locks_key parts.mutations k x e)))

    checked : (k : Key) → op_at parts.mutations k ≡ Some CheckNotExists → IsPassed h s k
    checked k e =
        let m = names_key parts.mutations k CheckNotExists e in
        subst (λ y. IsPassed h y k) w.is.start (subst (IsPassed h w.whole.start_version) m.2 (prewritten_passed w.whole h m.0 w.each (subst (λ ms. IsAmong ms m.0) (sym w.is.mutations) m.1)))

-- the request that is made of the parts is the whole
pub is_whole : (s ttl : ℕ) (parts : CommitParts) (request : PrewriteRequest) → request ≡ whole_of parts s ttl → IsWhole s parts request
is_whole s ttl parts request e = record {
  start = ap (λ (r : PrewriteRequest). r.start_version) e;
  primary = ap (λ (r : PrewriteRequest). r.primary_lock) e;
  mutations = ap (λ (r : PrewriteRequest). r.mutations) e;
  primary_settles = ap (λ (r : PrewriteRequest). r.use_async_commit) e;
  locking = ap (λ (r : PrewriteRequest). r.try_one_pc) e;
  optimistic = ap (λ (r : PrewriteRequest). r.for_update_ts) e;
}

-- the primary is one of the keys that were committed, or rolled back
pub primary_committed : (plan : Plan) (s c : ℕ) (h : List Event) → AreCommitted s c (plan.primary ∷ []) h → PrimaryCommitted plan h s c
primary_committed plan s c h w = let g = w plan.primary (has_only plan.primary) in (g.0, g.1, g.2, g.3, g.4, g.5, g.6, g.7)

pub primary_rolled : (plan : Plan) (s : ℕ) (h : List Event) → AreRolledBack s (plan.primary ∷ []) h → PrimaryRolledBack plan h s
primary_rolled plan s h w = let g = w plan.primary (has_only plan.primary) in (g.0, g.1, g.2, g.3, g.4, g.5, g.6)

pub rolled_primary : (plan : Plan) (s : ℕ) (h : List Event) → PrimaryRolledBack plan h s → AreRolledBack s (plan.primary ∷ []) h
rolled_primary plan s h r k g = rw (only plan.primary k g) (r.0, r.1, r.2, r.3, r.4, r.5, r.6)

-- no key is left to roll back
pub none_left : (s : ℕ) (ks : List Key) (h : List Event) → (length ks == 0) ≡ true → AreRolledBack s ks h
none_left s [] h e k g = absurd (cc)
none_left s (x ∷ ks) h e k g = absurd (let f = eqb-true (length (x ∷ ks)) 0 e in omega arith)

-- what is out then was out, or was posted
pub followed_sends : {S V : Type 0} {m : Meaning S V} {told : Told} {t : Timestamp} {c d : Commits} {old new : S} {from to : Posted} {turn : Turn V}
    → turn ≢ Stopped → SendsCommits m told t c d old new from to turn → IsFollowed from c d
followed_sends {t} {c} {from} {turn} n x = rw (IfKept-out turn n x.follows) (followed_sent from x.moves.sends t c)

module _ {P : Type 0} where
  at_over : (w : Ways P) (call : CommitterCall P) (n : ℕ) (c : Commits) (o : Posted) (h : List Event) → CommitterFits w call c o h → CommitterFits w (record call { stage = stage.Over; width = n }) c o h
  at_over w call n c o h f = record { start = f.start; formed = f.formed; knows = f.knows; at = tt }

  -- it ends, and says so much
  pub ends_on : (w : Ways P) (call new : CommitterCall P) (c : Commits) (o : Posted) (known : List Event → Type 0) (v : Result CommitterAnswer Error) (turn : Turn (Result CommitterAnswer Error))
      → new ≡ record call { stage = stage.Over; width = new.width } → turn ≡ Ends v
      → ((h : List Event) → CommitterFits w call c o h → known h → CommitterGives w call.retry_options (version_of call.start) call.parts h v)
      → CommitterMoves w known (λ h. h) call new c c o o turn
  ends_on w call new c o known v turn e t g = rw (e, t) (Moves-quiet refl (λ h f. at_over w call new.width c o h f.0) (λ h f. g h f.0 f.1))

  -- after one of its plans it waits, or ends, or does what comes next
  pub goes_on_waits : {E : Type 0} (w : Ways P) (refuses : List Event → Error → Type 0) (says : List Event → Type 0) (call : CommitterCall P) (c : Commits) (o : Posted) (heard : Turn (Result E Error))
      → heard ≡ Waits → CommitterGoesOn w refuses says call call c c o o heard Waits
  goes_on_waits w refuses says call c o heard e = rw e (Moves-quiet refl (λ h f. f.0) tt)

  pub goes_on_ends : {E : Type 0} (w : Ways P) (refuses : List Event → Error → Type 0) (says : List Event → Type 0) (call new : CommitterCall P) (c : Commits) (o : Posted)
      (heard : Turn (Result E Error)) (x : Result E Error) (v : Result CommitterAnswer Error) (turn : Turn (Result CommitterAnswer Error))
      → heard ≡ Ends x → new ≡ record call { stage = stage.Over; width = new.width } → turn ≡ Ends v
      → ((h : List Event) → CommitterFits w call c o h → Says refuses says h x → CommitterGives w call.retry_options (version_of call.start) call.parts h v)
      → CommitterGoesOn w refuses says call new c c o o heard turn
  goes_on_ends w refuses says call new c o heard x v turn e n t g = rw (e, n, t) (Moves-quiet refl (λ h f. at_over w call new.width c o h f.0) (λ h f. g h f.0 f.1))

  pub goes_on_next : {E : Type 0} (w : Ways P) (refuses : List Event → Error → Type 0) (says : List Event → Type 0) (call new : CommitterCall P) (c d : Commits) (from to : Posted)
      (heard : Turn (Result E Error)) (x : Result E Error) (turn : Turn (Result CommitterAnswer Error)) (known : List Event → Type 0)
      → heard ≡ Ends x
      → ((h : List Event) → CommitterFits w call c from h → Says refuses says h x → known h)
      → CommitterMoves w known (λ h. h) call new c d from to turn
      → CommitterGoesOn w refuses says call new c d from to heard turn
  goes_on_next w refuses says call new c d from to heard x turn known e k m = rw e (Moves-before (λ h f. (f.0, k h f.0 f.1)) m)

  -- it has asked for the timestamp of the commit
  pub asks_on : (w : Ways P) (call : CommitterCall P) (n : ℕ) (t : TimestampCall) (c : Commits) (from to : Posted)
      → HasBegun t from to
      → CommitterMoves w (IsWritten (version_of call.start) call.parts c) (λ h. h) call (record call { stage = stage.Asking t; width = n }) c c from to Waits
  asks_on w call width t c from to b = Moves-asked b.1 (λ h f. record {
    start = f.0.start;
    formed = f.0.formed;
    knows = knows_more (plan_of call.parts) (version_of call.start) c (Asked (ticket_of from from.next_ask)) h (λ u r e. cc) f.0.knows;
    at = record {
      keys = acknowledged_longer (plan_of call.parts) (version_of call.start) h (Asked (ticket_of from from.next_ask) ∷ h) (λ x i. inr i) (all_acknowledged (version_of call.start) call.parts h f.1.keys);
      given = given_longer (version_of call.start) h (Asked (ticket_of from from.next_ask) ∷ h) (λ x i. inr i) f.1.given;
      first = f.1.first;
      now = begun_fits h;
      asked = λ n e. begun_asked h f n e;
    };
  })
    where
      line_same : (n : ℕ) → ticket_of to n ≡ ticket_of from n
      line_same n = rw b.1 refl

      begun_fits : (h : List Event) → time_asked.fits t to (Asked (ticket_of from from.next_ask) ∷ h)
      begun_fits h = rw (b.0, b.1) (record { few = omega arith; at = (refl, inl refl, omega arith, tt) })

      begun_asked : (h : List Event) → CommitterFits w call c from h × IsWritten (version_of call.start) call.parts c h → (n : ℕ) → HasAsked t n → WantedAfter (plan_of call.parts) (Asked (ticket_of from from.next_ask) ∷ h) (version_of call.start) (ticket_of to n)
      begun_asked h f n e =
          let same : Out_with from.next_ask ≡ t.call.stage = rw b.0 refl in
          let number : from.next_ask ≡ n = let g = same ∙ e in cc in
          inl (ap Asked (ap (λ m. ticket_of from m) number ∙ sym (line_same n)), all_acknowledged (version_of call.start) call.parts h f.1.keys, f.1.given)

-- an ask that is posted where all keys are acknowledged is made after them

wanted_after : (plan : Plan) (s line : ℕ) (beat : Bool) (h : List Event) (rs : List Errand) (a : Ticket) → WantedAfter plan h s a → WantedAfter plan (after line beat h rs) s a
wanted_after plan s line beat h [] a w = w
wanted_after plan s line beat h (r ∷ rs) a w = wanted_after plan s line beat (posting line beat r ∷ h) rs a (inr w)

wanted_heard : (plan : Plan) (s : ℕ) (a : Ticket) (h k : List Event) → Hears h k → WantedAfter plan h s a → WantedAfter plan k s a
wanted_heard plan s a h k Hears.Nothing w = w
wanted_heard plan s a h k (Hears.One e n) w = inr w

-- one errand of the list asks, under this number
asks_first : (r : Errand) (n : ℕ) → awaited r ≡ TimeOf n → r ≡ Ask n
asks_first (Send k to r) n e = absurd (cc)
asks_first (Sleep k ms) n e = absurd (cc)
asks_first (Ask k) n e = let f : k ≡ n = cc in ap Ask f

pub posted_wanted : (plan : Plan) (s line : ℕ) (beat : Bool) (h : List Event) (rs : List Errand) (n : ℕ) → AllAcknowledged plan h s → WasGiven h s → IsPosted rs (TimeOf n)
    → WantedAfter plan (after line beat h rs) s (record { line = line; beat = beat; number = n })
posted_wanted plan s line beat h [] n a g p = absurd p.1
posted_wanted plan s line beat h (r ∷ rs) n a g (q, i, e) = elim i [
  | inl f ↦ let x : r ≡ Ask n = f ∙ asks_first q n e in
      wanted_after plan s line beat (posting line beat r ∷ h) rs (record { line = line; beat = beat; number = n }) (inl (ap (posting line beat) x, a, g))
  | inr j ↦ posted_wanted plan s line beat (posting line beat r ∷ h) rs n (acknowledged_longer plan s h (posting line beat r ∷ h) (λ x y. inr y) a) (given_longer s h (posting line beat r ∷ h) (λ x y. inr y) g) (q, j, e)
]

foreign_no_commit : (h : List Event) (r : Request) → IsForeign h r → IsNoCommit r
foreign_no_commit h r f q e = subst (λ x. IsForeign h x) e f

ends_both : {V : Type 0} (turn : Turn V) {X Y Z : V → Type 0} → IfEnds turn X → IfEnds turn Y → ((v : V) → X v → Y v → Z v) → IfEnds turn Z
ends_both Stopped x y f = tt
ends_both Waits x y f = tt
ends_both (Ends v) x y f = f v x y

-- options are two backoffs
options_of : Backoff → Backoff → RetryOptions
options_of region lock = record { region_backoff = region; lock_backoff = lock }

pub same_options : (a b : RetryOptions) → a.region_backoff ≡ b.region_backoff → a.lock_backoff ≡ b.lock_backoff → a ≡ b
unfolding options_of
same_options a b e f = ap (λ x. options_of x a.lock_backoff) e ∙ ap (λ x. options_of b.region_backoff x) f

-- a plan that is not begun stands for its stage
pub way_of : {S V : Type 0} {m : Meaning S (Result V Error)} {refuses : List Event → Error → Type 0} {costs : ℕ → ℕ → ℕ} {request : Request} {p : S} (part : Request → Type 0) (answered : List Event → Type 0)
    → ((r : Request) → IsPartOf request r → part r) → ((h : List Event) → IsAnswered request h → answered h)
    → IsPlanFor m refuses costs request p → IsUnderWay m refuses part answered p
way_of part answered f g x = record {
  asks = λ h r a. elim (x.asks h r a) [ inl b ↦ inl (f r b) | inr b ↦ inr b ];
  means = λ h v b. g h (x.means h v b);
  fails = x.fails;
}

-- a plan of the whole, which went on
pub prewrites_only : {S V : Type 0} {m : Meaning S (Result V Error)} {refuses : List Event → Error → Type 0} {costs : ℕ → ℕ → ℕ} {request : PrewriteRequest} {p q : S} (whole : PrewriteRequest)
    → request ≡ whole → IsPlanFor m refuses costs (Prewrite request) p → SameJob m.asks m.gives q p → PrewritesOnly m whole q
prewrites_only whole e x j h r a = subst (λ w. IsOfPrewrite w r ⊎ IsForeign h r) e (x.asks h r (j.asked h r a))

-- the plan of a stage, and stages without it
pub prewriting_same : {P : Type 0} {g : Stage P} {p q : P} → g ≡ stage.Prewriting p → g ≡ stage.Prewriting q → p ≡ q
prewriting_same e f = let s = sym e ∙ f in cc

pub over_elsewhere : {P : Type 0} {g : Stage P} (p : P) → g ≡ stage.Over → g ≡ stage.Prewriting p → ⊥
over_elsewhere p e f = let s = sym e ∙ f in cc

pub stopped_elsewhere : {P : Type 0} {g : Stage P} (p : P) → g ≡ stage.Stopped → g ≡ stage.Prewriting p → ⊥
stopped_elsewhere p e f = let s = sym e ∙ f in cc

pub asking_elsewhere : {P : Type 0} {g : Stage P} (t : TimestampCall) (p : P) → g ≡ stage.Asking t → g ≡ stage.Prewriting p → ⊥
asking_elsewhere t p e f = let s = sym e ∙ f in cc

module _ {P : Type 0} where
  -- the call for the timestamp goes on
  pub asking_on : (w : Ways P) (call : CommitterCall P) (t t' : TimestampCall) (c : Commits) (a : Arrival) (r : Request) (o o' : Posted) (turn : Turn (Result Timestamp Error))
      → call.stage ≡ stage.Asking t
      → AsksTime t
      → Tells time_asked (told_by a o r) t t' o o' turn
      → IfEnds turn (IsAnswerOf t a)
      → Moves (MaySend (plan_of call.parts) (version_of call.start)) (λ h. CommitterFits w call c o h × (told_by a o r).known h) (CommitterFits w (record call { stage = stage.Asking t' }) c o')
      (TimeSays (plan_of call.parts) (version_of call.start)) (told_by a o r).hear o o' turn
  asking_on w call t t' c a r o o' turn e ready tells answer = record {
    sends = x.moves.sends;
    pushed = x.moves.pushed;
    line = x.moves.line;
    beat = x.moves.beat;
    numbered = x.moves.numbered;
    licensed = λ h u. (run h u).0;
    still = IfKept-weaker turn (λ f h u. record {
      start = u.0.start;
      formed = u.0.formed;
      knows = (run h u).1.knows;
      at = record { keys = (run h u).1.also.0; given = (run h u).1.also.1; first = (at h u).first; now = f h ((at h u).now, u.1); asked = asked h u };
    }) x.moves.still;
    done = ends_both turn x.moves.done x.answer (λ v g b h u. says h u v (g h ((at h u).now, u.1)) b);
  }
    where
      x : TimeTells (told_by a o r) a t t' o o' turn
      x = time_tells (told_by a o r) a t t' o o' turn ready.0 tells answer

      s : ℕ
      s = version_of call.start

      plan : Plan
      plan = plan_of call.parts

      Facts : List Event → Type 0
      Facts k = AllAcknowledged (plan_of call.parts) k (version_of call.start) × WasGiven k (version_of call.start)

      longer : (h k : List Event) → Within h k → Facts h → Facts k
      longer h k l f = (acknowledged_longer plan s h k l f.0, given_longer s h k l f.1)

      at : (h : List Event) → CommitterFits w call c o h × (told_by a o r).known h → IsAsking (version_of call.start) call.parts t c o h
      at h u = at_stage w call (stage.Asking t) c o h e u.0

      begins : (h : List Event) → CommitterFits w call c o h × (told_by a o r).known h → Throughout plan s c Facts ((told_by a o r).hear h)
      begins h u = heard_keeps (Throughout plan s c Facts) (throughout_more plan s c Facts longer) h ((told_by a o r).hear h) (hears_told a o r h) (record { knows = u.0.knows; also = ((at h u).keys, (at h u).given) })

      run : (h : List Event) → CommitterFits w call c o h × (told_by a o r).known h → Licensed (MaySend plan s) o.line o.beat ((told_by a o r).hear h) x.moves.sends × Throughout plan s c Facts (after o.line o.beat ((told_by a o r).hear h) x.moves.sends)
      run h u = licensed_lift IsForeign (MaySend plan s) (Throughout plan s c Facts)
          (λ k q i b. foreign_may plan s k q b)
          (λ k n q i b. record { knows = knows_quiet plan s c n q k (foreign_no_commit k q b) i.knows; also = longer k (Sent n q ∷ k) (λ y g. inr g) i.also })
          (throughout_more plan s c Facts longer)
          o.line o.beat ((told_by a o r).hear h) x.moves.sends (begins h u) (x.moves.licensed h ((at h u).now, u.1))

      ticket_same : (n : ℕ) → ticket_of o' n ≡ ticket_of o n
      ticket_same n = rw (x.moves.line, x.moves.beat) refl

      asked : (h : List Event) → CommitterFits w call c o h × (told_by a o r).known h → (n : ℕ) → HasAsked t' n → WantedAfter plan (after o.line o.beat ((told_by a o r).hear h) x.moves.sends) s (ticket_of o' n)
      asked h u n was = rw (ticket_same n) (elim (x.asked n was) [
        | inl b ↦ wanted_after plan s o.line o.beat ((told_by a o r).hear h) x.moves.sends (ticket_of o n) (wanted_heard plan s (ticket_of o n) h ((told_by a o r).hear h) (hears_told a o r h) ((at h u).asked n b))
        | inr p ↦ posted_wanted plan s o.line o.beat ((told_by a o r).hear h) x.moves.sends n (begins h u).also.0 (begins h u).also.1 p
      ])

      says : (h : List Event) → CommitterFits w call c o h × (told_by a o r).known h → (v : Result Timestamp Error) → IsTimed (after o.line o.beat ((told_by a o r).hear h) x.moves.sends) v → IsAnswerOf t a v
          → TimeSays plan s (after o.line o.beat ((told_by a o r).hear h) x.moves.sends) v
      says h u (Ok time) g b = record {
        keys = (run h u).1.also.0;
        ask = ticket_of o b.0;
        given = time;
        wanted = wanted_after plan s o.line o.beat ((told_by a o r).hear h) x.moves.sends (ticket_of o b.0) (wanted_heard plan s (ticket_of o b.0) h ((told_by a o r).hear h) (hears_told a o r h) ((at h u).asked b.0 b.1));
        answered = Within-after o.line o.beat ((told_by a o r).hear h) x.moves.sends (Answered (ticket_of o b.0) (Ok time)) (rw b.2 (inl refl));
        at = refl;
      }
      says h u (Err why) g b = g

  pub prewriting_begins : (w : Ways P) (costs : ℕ → ℕ → ℕ) (call : CommitterCall P) (p : P) (c : Commits) (o : Posted) {options : RetryOptions} (request : PrewriteRequest)
      → IsWhole (version_of call.start) call.parts request
      → options ≡ call.retry_options
      → IsPlanFor w.plan (w.unwritten options) costs (Prewrite request) p
      → (h : List Event) → CommitterFits w call c o h × IsFirst (version_of call.start) c h → CommitterFits w (record call { stage = stage.Prewriting p }) c o h
  prewriting_begins w costs call p c o request is same x h u = record {
    start = u.0.start;
    formed = u.0.formed;
    knows = u.0.knows;
    at = record {
      now = x.unbegun.fits o h;
      whole = request;
      is = is;
      way = rw (← same) (way_of _ _ (λ r b. b) (λ k b. b) x);
      given = u.1.given;
      first = u.1.first;
    };
  }

  pub committing_begins : (w : Ways P) (costs : ℕ → ℕ → ℕ) (call : CommitterCall P) (q : P) (t : Timestamp) (c : Commits) (o : Posted) {options : RetryOptions} (request : CommitRequest)
      → request.start_version ≡ version_of call.start → request.commit_version ≡ version_of t → request.keys ≡ call.parts.primary ∷ []
      → options ≡ call.retry_options
      → IsPlanFor w.plan (w.uncommitted options) costs (Commit request) q
      → (h : List Event) → CommitterFits w call c o h × MayCommit (plan_of call.parts) (version_of call.start) t c h → CommitterFits w (record call { stage = stage.Committing q t }) c o h
  committing_begins w costs call q t c o request e f g same x h u = record {
    start = u.0.start;
    formed = u.0.formed;
    knows = u.0.knows;
    at = record {
      now = x.unbegun.fits o h;
      way = rw (← e, ← f, ← g, ← same) (way_of _ _ (λ r b. b) (λ k b. b) x);
      ready = u.1.ready;
      same = u.1.same;
    };
  }

  pub rolling_begins : (w : Ways P) (costs : ℕ → ℕ → ℕ) (call : CommitterCall P) (k : P) (c : Commits) (o : Posted) {options : RetryOptions} (request : BatchRollbackRequest)
      → request.start_version ≡ version_of call.start → request.keys ≡ call.parts.primary ∷ []
      → options ≡ call.retry_options
      → IsPlanFor w.plan (w.unrolled options) costs (BatchRollback request) k
      → (h : List Event) → CommitterFits w call c o h × (undetermined c ≡ None) → CommitterFits w (record call { stage = stage.RollingBackPrimary k }) c o h
  rolling_begins w costs call k c o request e f same x h u = record {
    start = u.0.start;
    formed = u.0.formed;
    knows = u.0.knows;
    at = record {
      now = x.unbegun.fits o h;
      way = rw (← e, ← f, ← same) (way_of _ _ (λ r b. b) (λ y b. b) x);
      settled = u.1;
      primary_first = λ y g. inl (only call.parts.primary y g);
    };
  }

  pub rolling_others_begins : (w : Ways P) (costs : ℕ → ℕ → ℕ) (call : CommitterCall P) (k : P) (c : Commits) (o : Posted) {options : RetryOptions} (request : BatchRollbackRequest)
      → request.start_version ≡ version_of call.start → request.keys ≡ call.parts.secondaries
      → options ≡ call.retry_options
      → IsPlanFor w.plan (w.unrolled options) costs (BatchRollback request) k
      → (h : List Event) → CommitterFits w call c o h × IsRolled (version_of call.start) call.parts c h → CommitterFits w (record call { stage = stage.RollingBackOthers k }) c o h
  rolling_others_begins w costs call k c o request e f same x h u = record {
    start = u.0.start;
    formed = u.0.formed;
    knows = u.0.knows;
    at = (
      record {
        now = x.unbegun.fits o h;
        way = rw (← e, ← f, ← same) (way_of _ _ (λ r b. b) (λ y b. b) x);
        settled = u.1.settled;
        primary_first = λ y g. inr (primary_rolled (plan_of call.parts) (version_of call.start) h u.1.rolled);
      },
      primary_rolled (plan_of call.parts) (version_of call.start) h u.1.rolled,
    );
  }

  -- the width of what was let go says nothing of histories
  widened : {V : Type 0} {may : List Event → Request → Type 0} {was : List Event → Type 0} {gives : List Event → V → Type 0} {hear : List Event → List Event} {from : Posted}
      (w : Ways P) (call : CommitterCall P) (g : Stage P) (n : ℕ) (c : Commits) (to : Posted) (turn : Turn V)
      → Moves may was (CommitterFits w (record call { stage = g }) c to) gives hear from to turn
      → Moves may was (CommitterFits w (record call { stage = g; width = n }) c to) gives hear from to turn
  widened w call g n c to turn m = record {
    sends = m.sends;
    pushed = m.pushed;
    line = m.line;
    beat = m.beat;
    numbered = m.numbered;
    licensed = m.licensed;
    still = IfKept-weaker turn (λ f h u. let x = f h u in record { start = x.start; formed = x.formed; knows = x.knows; at = x.at }) m.still;
    done = m.done;
  }

  -- a plan goes on, and then the whole
  pub then_goes_on : {E : Type 0} (w : Ways P) (call old new : CommitterCall P) (g : Stage P) (c d d' : Commits) (refuses : CommitterCall P → List Event → Error → Type 0) (answered : CommitterCall P → List Event → Type 0)
      (known : List Event → Type 0) (hear : List Event → List Event) (from via to : Posted) (heard : Turn (Result E Error)) (turn : Turn (Result CommitterAnswer Error))
      → old ≡ record call { stage = g; width = old.width }
      → Moves (MaySend (plan_of call.parts) (version_of call.start)) (λ h. CommitterFits w call c from h × known h) (CommitterFits w (record call { stage = g }) d via) (Says (refuses (record call { stage = g; width = old.width })) (answered (record call { stage = g; width = old.width }))) hear from via heard
      → CommitterGoesOn w (refuses old) (answered old) old new d d' via to heard turn
      → CommitterMoves w known hear call new c d' from to turn
  then_goes_on w call old new g c d d' refuses answered known hear from via to heard turn e m n =
      Moves-then (widened w call g old.width d via heard m) (subst (λ x. CommitterGoesOn w (refuses x) (answered x) x new d d' via to heard turn) e n)

  -- it is over, and hears nothing
  pub over_on : (w : Ways P) (call : CommitterCall P) (c : Commits) (told : Told) (o : Posted)
      → call.stage ≡ stage.Over
      → ((h : List Event) → Hears h (told.hear h))
      → CommitterMoves w told.known told.hear call call c c o o Waits
  over_on w call c told o e hears = Moves-quiet refl (λ h u. record {
    start = u.0.start;
    formed = u.0.formed;
    knows = heard_keeps (KnowsCommits (plan_of call.parts) (version_of call.start) c) (λ k x n i. knows_more (plan_of call.parts) (version_of call.start) c x k n i) h (told.hear h) (hears h) u.0.knows;
    at = rw e tt;
  }) tt

  -- after its call for a timestamp it waits, or ends, or commits
  pub time_waits : (w : Ways P) (call : CommitterCall P) (c : Commits) (o : Posted) (says : List Event → Result Timestamp Error → Type 0) (heard : Turn (Result Timestamp Error))
      → heard ≡ Waits
      → Moves (MaySend (plan_of call.parts) (version_of call.start)) (Knows heard (CommitterFits w call c o) says) (CommitterFits w call c o) (CommitterGives w call.retry_options (version_of call.start) call.parts) (λ h. h) o o Waits
  time_waits w call c o says heard e = rw e (Moves-quiet refl (λ h f. f.0) tt)

  pub time_ends : (w : Ways P) (call new : CommitterCall P) (c : Commits) (o : Posted) (says : List Event → Result Timestamp Error → Type 0)
      (heard : Turn (Result Timestamp Error)) (x : Result Timestamp Error) (v : Result CommitterAnswer Error) (turn : Turn (Result CommitterAnswer Error))
      → heard ≡ Ends x → new ≡ record call { stage = stage.Over; width = new.width } → turn ≡ Ends v
      → ((h : List Event) → CommitterFits w call c o h → says h x → CommitterGives w call.retry_options (version_of call.start) call.parts h v)
      → Moves (MaySend (plan_of call.parts) (version_of call.start)) (Knows heard (CommitterFits w call c o) says) (CommitterFits w new c o) (CommitterGives w call.retry_options (version_of call.start) call.parts) (λ h. h) o o turn
  time_ends w call new c o says heard x v turn e n t g = rw (e, n, t) (Moves-quiet refl (λ h f. at_over w call new.width c o h f.0) (λ h f. g h f.0 f.1))

  pub time_next : (w : Ways P) (call new : CommitterCall P) (c d : Commits) (from to : Posted) (says : List Event → Result Timestamp Error → Type 0)
      (heard : Turn (Result Timestamp Error)) (x : Result Timestamp Error) (turn : Turn (Result CommitterAnswer Error)) (known : List Event → Type 0)
      → heard ≡ Ends x
      → ((h : List Event) → CommitterFits w call c from h → says h x → known h)
      → CommitterMoves w known (λ h. h) call new c d from to turn
      → Moves (MaySend (plan_of call.parts) (version_of call.start)) (Knows heard (CommitterFits w call c from) says) (CommitterFits w new d to) (CommitterGives w call.retry_options (version_of call.start) call.parts) (λ h. h) from to turn
  time_next w call new c d from to says heard x turn known e k m = rw e (Moves-before (λ h f. (f.0, k h f.0 f.1)) m)

  -- a Commit of the primary goes on, and what it sent is known
  pub commits_on : (w : Ways P) (call : CommitterCall P) (q q' : P) (t : Timestamp) (c d d' : Commits) (told : Told) (o o' : Posted) (turn : Turn (Result Fetched Error))
      → call.stage ≡ stage.Committing q t
      → ((h : List Event) → Hears h (told.hear h))
      → ((h : List Event) → told.known h → KnowsCommits (plan_of call.parts) (version_of call.start) c h → KnowsCommits (plan_of call.parts) (version_of call.start) d (told.hear h))
      → d.timestamp ≡ c.timestamp
      → SendsCommits w.plan told t d d' q q' o o' turn
      → Moves (MaySend (plan_of call.parts) (version_of call.start)) (λ h. CommitterFits w call c o h × told.known h) (CommitterFits w (record call { stage = stage.Committing q' t }) d' o')
      (Says (w.uncommitted call.retry_options) (AreCommitted (version_of call.start) (version_of t) (call.parts.primary ∷ []))) told.hear o o' turn
  commits_on w call q q' t c d d' told o o' turn e hears heard_so time x =
      let m = committing_on w call q q' t c d told o o' turn e hears heard_so time x.moves x.job in record {
        sends = m.sends;
        pushed = m.pushed;
        line = m.line;
        beat = m.beat;
        numbered = m.numbered;
        licensed = m.licensed;
        still = IfKept-both turn (λ z f h u. rw z (f h u)) x.follows m.still;
        done = m.done;
      }
