-- The calls of a commit's or a rollback's plans as calls of the whole.
use Rattle.std.proofs.Common.{◌≡◌, ◌⊎◌, inl, inr, ℕ, Bool, true, false, List, [], ◌∷◌, None, refl, sym, ap, subst, ◌∙◌}
use Rattle.std.proofs.lemmas.Bool.{false≢true}
use Rattle.std.specs.Prelude.{Result, Ok, Err}
use Rattle.txn_kv.specs.Timestamp.{version_of}
use Rattle.txn_kv.specs.declared.errors.Error.{Error}
use Rattle.txn_kv.specs.declared.request.commits.PrewriteRequest.{PrewriteRequest}
use Rattle.txn_kv.specs.declared.request.Request.{Request}
use Rattle.txn_kv.specs.declared.request.Request.TheVariants.{Prewrite, Commit, BatchRollback}
use Rattle.txn_kv.specs.declared.timestamp.Timestamp.{Timestamp}
use Rattle.txn_kv.specs.declared.ticket.Ticket.{Ticket}
use Rattle.txn_history.specs.Among.{IsAmong}
use Rattle.txn_history.specs.Event.{Event}
use Rattle.txn_history.specs.Event.Event.{Sent}
use Rattle.txn_history.specs.Licence.{PrimaryRolledBack, WasGiven}
use Rattle.txn_history.specs.Meaning.{Meaning, Told}
use Rattle.txn_history.specs.Moves.{Moves, SameJob}
use Rattle.txn_history.specs.Plan.{Key, has_key, AreDistinct, Plan}
use Rattle.txn_history.specs.Plan.Way.{TwoPhases}
use Rattle.txn_history.specs.Posted.{Errand, Licensed, Posted, Within, after}
use Rattle.txn_history.specs.Turn.{Turn, IfEnds-weaker, IfKept-weaker}
use Rattle.txn_commit.specs.Committing.{CommitterFits, IsAllPrewritten, IsAt, IsCommitting, IsFormed, IsPrewriting, IsWhole, IsReady, IsRollingBack}
use Rattle.txn_commit.specs.Following.{Commits, KnowsCommits, sent}
use Rattle.txn_history.specs.Foreign.{IsForeign}
use Rattle.txn_commit.specs.Plans.{AreCommitted, ArePrewritten, AreRolledBack, IsOfCommit, IsOfPrewrite, IsOfRollback, IsUnderWay, Says}
use Rattle.txn_commit.specs.Sending.{MaySend, plan_of}
use Rattle.txn_commit.specs.declared.commit_parts.CommitParts.{CommitParts}
use Rattle.txn_commit.specs.declared.committer.CommitterCall.{CommitterCall}
use Rattle.txn_commit.specs.declared.committer.Stage.{Stage}
use Rattle.txn_commit.specs.declared.committer.Stage.TheVariants as stage
use Rattle.txn_commit.specs.Ways.{Ways}
use Rattle.txn_commit.specs.declared.fetched.Fetched.{Fetched}
use Rattle.txn_commit.proofs.Following.{IsNoSending, knows_more}
use Rattle.txn_commit.proofs.Planned.{parts_planned}
use Rattle.txn_commit.proofs.Posting.{Hears, IsSameTime, heard_keeps, knows_sent, sent_time}
use Rattle.txn_commit.proofs.Sending.{IsNamed, commit_may, foreign_may, given_longer, given_zero, knows_quiet, licensed_lift, named_more, named_quiet, named_sent, prewrite_no_commit, ready_more, rollback_no_commit, rolled_longer, settled_answered}

-- a plan that went on is still under way
pub under_way_on : {S A : Type 0} {m : Meaning S (Result A Error)} {refuses : List Event → Error → Type 0} {part : Request → Type 0} {answered : List Event → Type 0} {old new : S}
    → SameJob m.asks m.gives new old → IsUnderWay m refuses part answered old → IsUnderWay m refuses part answered new
under_way_on j u = record {
  asks = λ h r a. u.asks h r (j.asked h r a);
  means = λ h v g. u.means h v (j.given h (Ok v) g);
  fails = λ h e g. u.fails h e (j.given h (Err e) g);
}

pub says : {S A : Type 0} {m : Meaning S (Result A Error)} {refuses : List Event → Error → Type 0} {part : Request → Type 0} {answered : List Event → Type 0} {p : S}
    → IsUnderWay m refuses part answered p → (h : List Event) (v : Result A Error) → m.gives p h v → Says refuses answered h v
says u h (Ok v) g = u.means h v g
says u h (Err e) g = u.fails h e g

-- The call of a plan, of a state around it, where something holds throughout.
pub lift : {A : Type 0} {asks may : List Event → Request → Type 0} {was is was' is' : List Event → Type 0} {gives gives' : List Event → A → Type 0}
    {hear : List Event → List Event} {from to : Posted} {turn : Turn A} (inv : List Event → Type 0)
    → ((h : List Event) → was' h → (k : List Event) (r : Request) → inv k → asks k r → may k r)
    → ((h : List Event) → was' h → (k : List Event) (t : Ticket) (r : Request) → inv k → asks k r → inv (Sent t r ∷ k))
    → ((k : List Event) (e : Event) → IsNoSending e → inv k → inv (e ∷ k))
    → ((h : List Event) → was' h → was h × inv (hear h))
    → (m : Moves asks was is gives hear from to turn)
    → ((h : List Event) → was' h → is (after from.line from.beat (hear h) m.sends) → inv (after from.line from.beat (hear h) m.sends) → is' (after from.line from.beat (hear h) m.sends))
    → ((h : List Event) → was' h → (k : List Event) (v : A) → gives k v → gives' k v)
    → Moves may was' is' gives' hear from to turn
lift {asks} {may} {hear} {from} {turn} inv f p q w m i g = record {
  sends = m.sends;
  pushed = m.pushed;
  line = m.line;
  beat = m.beat;
  numbered = m.numbered;
  licensed = λ h u. (licensed_lift asks may inv (f h u) (p h u) q from.line from.beat (hear h) m.sends (w h u).1 (m.licensed h (w h u).0)).0;
  still = IfKept-weaker turn (λ x h u. i h u (x h (w h u).0) (licensed_lift asks may inv (f h u) (p h u) q from.line from.beat (hear h) m.sends (w h u).1 (m.licensed h (w h u).0)).1) m.still;
  done = IfEnds-weaker turn (λ v x h u. g h u _ v (x h (w h u).0)) m.done;
}

-- Prewrites

not_so : (b : Bool) → b ≡ false → b ≡ true → ⊥
not_so b e f = absurd (false≢true (sym e ∙ f))

prewrite_may : (s : ℕ) (parts : CommitParts) (whole : PrewriteRequest) (h : List Event) (r : Request) → IsFormed parts → IsWhole s parts whole → WasGiven h s → IsOfPrewrite whole r ⊎ IsForeign h r → MaySend (plan_of parts) s h r
prewrite_may s parts whole h r f is g (inr o) = foreign_may (plan_of parts) s h r o
prewrite_may s parts whole h (Prewrite r) f is g (inl w) = (
  start,
  record {
    primary = ap (λ (x : PrewriteRequest). x.primary_lock) w.0 ∙ is.primary;
    planned = λ m a. parts_planned parts f.once m (subst (λ ms. IsAmong ms m) is.mutations (w.1 m a));
    once = w.2 (subst AreDistinct (sym is.mutations) f.once);
    way = flag;
    named = λ ks e. cc;
    at_once = λ e. absurd (not_so r.try_one_pc single e);
    given = (subst (WasGiven h) (sym start) g, subst (WasGiven h) (sym (ap (λ (x : PrewriteRequest). x.for_update_ts) w.0 ∙ is.optimistic)) (given_zero s h g));
    above = λ flagged. absurd (elim flagged [ inl e ↦ not_so r.use_async_commit flag e | inr e ↦ not_so r.try_one_pc single e ]);
    unrolled = λ e. absurd (false≢true e);
  },
)
  where
    start : r.start_version ≡ s
    start = ap (λ (x : PrewriteRequest). x.start_version) w.0 ∙ is.start

    flag : r.use_async_commit ≡ false
    flag = ap (λ (x : PrewriteRequest). x.use_async_commit) w.0 ∙ is.primary_settles

    single : r.try_one_pc ≡ false
    single = ap (λ (x : PrewriteRequest). x.try_one_pc) w.0 ∙ is.locking
prewrite_may s parts whole h _ f is g (inl w) = absurd w

-- what the plan of the whole answers
all_prewritten : {A : Type 0} (refuses : List Event → Error → Type 0) {s : ℕ} {parts : CommitParts} {whole : PrewriteRequest} → IsWhole s parts whole
    → (h : List Event) (v : Result A Error) → Says refuses (ArePrewritten whole) h v → Says refuses (IsAllPrewritten s parts) h v
all_prewritten refuses {whole = whole} is h (Ok v) g = record { whole = whole; is = is; each = g }
all_prewritten refuses is h (Err e) g = g

pub record Throughout (plan : Plan) (s : ℕ) (c : Commits) (fact : List Event → Type 0) (k : List Event) : Type 0 where
  pub knows : KnowsCommits plan s c k
  pub also : fact k

pub throughout_more : (plan : Plan) (s : ℕ) (c : Commits) (fact : List Event → Type 0) → ((h k : List Event) → Within h k → fact h → fact k)
    → (k : List Event) (e : Event) → IsNoSending e → Throughout plan s c fact k → Throughout plan s c fact (e ∷ k)
throughout_more plan s c fact longer k e n i = record { knows = knows_more plan s c e k n i.knows; also = longer k (e ∷ k) (λ x g. inr g) i.also }

-- BatchRollbacks

abbrev PrimaryFirst : Plan → ℕ → List Key → List Event → Type 0
PrimaryFirst plan s keys k = (x : Key) → has_key keys x ≡ true → (x ≡ plan.primary) ⊎ PrimaryRolledBack plan k s

first_longer : (plan : Plan) (s : ℕ) (keys : List Key) (h k : List Event) → Within h k → PrimaryFirst plan s keys h → PrimaryFirst plan s keys k
first_longer plan s keys h k w f x g = elim (f x g) [ inl e ↦ inl e | inr r ↦ inr (rolled_longer plan s h k w r) ]

rollback_may : (plan : Plan) (s : ℕ) (keys : List Key) (c : Commits) (h : List Event) (r : Request) → plan.way ≡ TwoPhases → Rattle.txn_commit.specs.Following.undetermined c ≡ None
    → Throughout plan s c (PrimaryFirst plan s keys) h → IsOfRollback s keys r ⊎ IsForeign h r → MaySend plan s h r
rollback_may plan s keys c h r way u t (inr g) = foreign_may plan s h r g
rollback_may plan s keys c h (BatchRollback r) way u t (inl w) = (
  w.0,
  record {
    answered = subst (λ x. Rattle.txn_history.specs.Licence.CommitsAnswered plan h x) (sym w.0) (settled_answered plan s c h u t.knows);
    undone = inl (way, λ k g. elim (t.also k (w.1 k g)) [ inl e ↦ inl e | inr b ↦ inr (subst (λ x. PrimaryRolledBack plan h x) (sym w.0) b) ]);
  },
)
rollback_may plan s keys c h _ way u t (inl w) = absurd w

-- Commits

pub record Committable (plan : Plan) (s c : ℕ) (k : List Event) : Type 0 where
  pub ready : IsReady plan s c k
  pub named : IsNamed plan s c k

committable_more : (plan : Plan) (s c : ℕ) (k : List Event) (e : Event) → IsNoSending e → Committable plan s c k → Committable plan s c (e ∷ k)
committable_more plan s c k e n i = record { ready = ready_more plan s c e k i.ready; named = named_more plan s c e k n i.named }

commit_part_may : (plan : Plan) (s c : ℕ) (h : List Event) (r : Request) → plan.way ≡ TwoPhases → Committable plan s c h → IsOfCommit s c (plan.primary ∷ []) r ⊎ IsForeign h r → MaySend plan s h r
commit_part_may plan s c h r way i (inr g) = foreign_may plan s h r g
commit_part_may plan s c h (Commit r) way i (inl w) = commit_may plan s c h r way i.ready i.named w
commit_part_may plan s c h _ way i (inl w) = absurd w

named_foreign : (plan : Plan) (s c : ℕ) (t : Ticket) (r : Request) (h : List Event) → IsForeign h r → IsNamed plan s c h → IsNamed plan s c (Sent t r ∷ h)
named_foreign plan s c t r h g n = named_quiet plan s c t r h (λ q e. subst (λ x. IsForeign h x) e g) n

commit_part_on : (plan : Plan) (s c : ℕ) (h : List Event) (t : Ticket) (r : Request) → Committable plan s c h → IsOfCommit s c (plan.primary ∷ []) r ⊎ IsForeign h r → Committable plan s c (Sent t r ∷ h)
commit_part_on plan s c h t r i (inr g) = record { ready = ready_more plan s c (Sent t r) h i.ready; named = named_foreign plan s c t r h g i.named }
commit_part_on plan s c h t (Commit r) i (inl w) = record { ready = ready_more plan s c (Sent t (Commit r)) h i.ready; named = named_sent plan s c t r h w.1 i.named }
commit_part_on plan s c h t _ i (inl w) = absurd w

named_of : (plan : Plan) (s : ℕ) (c : Commits) (t : Timestamp) (h : List Event) → IsSameTime c t → KnowsCommits plan s c h → IsNamed plan s (version_of t) h
named_of plan s c t h same k d w = let n = k.named d w in sym n.2 ∙ same n.0 n.1

module _ {P : Type 0} where
  -- where the commit stands, the stage in its place
  pub at_stage : (w : Ways P) (call : CommitterCall P) (g : Stage P) (c : Commits) (o : Posted) (h : List Event)
      → call.stage ≡ g → CommitterFits w call c o h → IsAt w call.retry_options (version_of call.start) call.parts g c o h
  at_stage w call g c o h e f = subst (λ x. IsAt w call.retry_options (version_of call.start) call.parts x c o h) e f.at

  pub prewriting_on : (w : Ways P) (call : CommitterCall P) (p p' : P) (c : Commits) (told : Told) (o o' : Posted) (turn : Turn (Result Fetched Error))
      → call.stage ≡ stage.Prewriting p
      → ((h : List Event) → Hears h (told.hear h))
      → Moves (w.plan.asks p) (λ h. w.plan.fits p o h × told.known h) (w.plan.fits p' o') (w.plan.gives p) told.hear o o' turn
      → SameJob w.plan.asks w.plan.gives p' p
      → Moves (MaySend (plan_of call.parts) (version_of call.start)) (λ h. CommitterFits w call c o h × told.known h) (CommitterFits w (record call { stage = stage.Prewriting p' }) c o')
      (Says (w.unwritten call.retry_options) (IsAllPrewritten (version_of call.start) call.parts)) told.hear o o' turn
  prewriting_on w call p p' c told o o' turn e hears m j =
      lift (Throughout plan s c (λ k. WasGiven k s))
      (λ h u k r i a. prewrite_may s call.parts (at h u).whole k r u.0.formed (at h u).is i.also ((at h u).way.asks k r a))
      (λ h u k t r i a. record { knows = knows_quiet plan s c t r k (prewrite_no_commit (at h u).whole k r ((at h u).way.asks k r a)) i.knows; also = given_longer s k (Sent t r ∷ k) (λ x g. inr g) i.also })
      (throughout_more plan s c (λ k. WasGiven k s) (given_longer s))
      (λ h u. (((at h u).now, u.1), heard_keeps (Throughout plan s c (λ k. WasGiven k s)) (throughout_more plan s c (λ k. WasGiven k s) (given_longer s)) h (told.hear h) (hears h) (record { knows = u.0.knows; also = (at h u).given })))
      m
      (λ h u f i. record { start = u.0.start; formed = u.0.formed; knows = i.knows; at = record { now = f; whole = (at h u).whole; is = (at h u).is; way = under_way_on j (at h u).way; given = i.also; first = (at h u).first } })
      (λ h u k v g. all_prewritten (w.unwritten call.retry_options) (at h u).is k v (says (at h u).way k v g))
    where
      s : ℕ
      s = version_of call.start

      plan : Plan
      plan = plan_of call.parts

      at : (h : List Event) → CommitterFits w call c o h × told.known h → IsPrewriting w.plan (w.unwritten call.retry_options) (version_of call.start) call.parts p c o h
      at h u = at_stage w call (stage.Prewriting p) c o h e u.0

  pub rolling_on : (w : Ways P) (call : CommitterCall P) (k k' : P) (c : Commits) (told : Told) (o o' : Posted) (turn : Turn (Result Fetched Error))
      → call.stage ≡ stage.RollingBackPrimary k
      → ((h : List Event) → Hears h (told.hear h))
      → Moves (w.plan.asks k) (λ h. w.plan.fits k o h × told.known h) (w.plan.fits k' o') (w.plan.gives k) told.hear o o' turn
      → SameJob w.plan.asks w.plan.gives k' k
      → Moves (MaySend (plan_of call.parts) (version_of call.start)) (λ h. CommitterFits w call c o h × told.known h) (CommitterFits w (record call { stage = stage.RollingBackPrimary k' }) c o')
      (Says (w.unrolled call.retry_options) (AreRolledBack (version_of call.start) (call.parts.primary ∷ []))) told.hear o o' turn
  rolling_on w call k k' c told o o' turn e hears m j =
      lift (Throughout plan s c (PrimaryFirst plan s keys))
      (λ h u x r i a. rollback_may plan s keys c x r refl (at h u).settled i ((at h u).way.asks x r a))
      (λ h u x t r i a. record { knows = knows_quiet plan s c t r x (rollback_no_commit s keys x r ((at h u).way.asks x r a)) i.knows; also = first_longer plan s keys x (Sent t r ∷ x) (λ y g. inr g) i.also })
      (throughout_more plan s c (PrimaryFirst plan s keys) (first_longer plan s keys))
      (λ h u. (((at h u).now, u.1), heard_keeps (Throughout plan s c (PrimaryFirst plan s keys)) (throughout_more plan s c (PrimaryFirst plan s keys) (first_longer plan s keys)) h (told.hear h) (hears h) (record { knows = u.0.knows; also = (at h u).primary_first })))
      m
      (λ h u f i. record { start = u.0.start; formed = u.0.formed; knows = i.knows; at = record { now = f; way = under_way_on j (at h u).way; settled = (at h u).settled; primary_first = i.also } })
      (λ h u x v g. says (at h u).way x v g)
    where
      s : ℕ
      s = version_of call.start

      plan : Plan
      plan = plan_of call.parts

      keys : List Key
      keys = call.parts.primary ∷ []

      at : (h : List Event) → CommitterFits w call c o h × told.known h → IsRollingBack w.plan (w.unrolled call.retry_options) (version_of call.start) call.parts (call.parts.primary ∷ []) k c o h
      at h u = at_stage w call (stage.RollingBackPrimary k) c o h e u.0

  pub rolling_others_on : (w : Ways P) (call : CommitterCall P) (k k' : P) (c : Commits) (told : Told) (o o' : Posted) (turn : Turn (Result Fetched Error))
      → call.stage ≡ stage.RollingBackOthers k
      → ((h : List Event) → Hears h (told.hear h))
      → Moves (w.plan.asks k) (λ h. w.plan.fits k o h × told.known h) (w.plan.fits k' o') (w.plan.gives k) told.hear o o' turn
      → SameJob w.plan.asks w.plan.gives k' k
      → Moves (MaySend (plan_of call.parts) (version_of call.start)) (λ h. CommitterFits w call c o h × told.known h) (CommitterFits w (record call { stage = stage.RollingBackOthers k' }) c o')
      (Says (w.unrolled call.retry_options) (AreRolledBack (version_of call.start) call.parts.secondaries)) told.hear o o' turn
  rolling_others_on w call k k' c told o o' turn e hears m j =
      lift (Throughout plan s c fact)
      (λ h u x r i a. rollback_may plan s keys c x r refl (at h u).0.settled (record { knows = i.knows; also = i.also.0 }) ((at h u).0.way.asks x r a))
      (λ h u x t r i a. record { knows = knows_quiet plan s c t r x (rollback_no_commit s keys x r ((at h u).0.way.asks x r a)) i.knows; also = fact_longer x (Sent t r ∷ x) (λ y g. inr g) i.also })
      (throughout_more plan s c fact fact_longer)
      (λ h u. (((at h u).0.now, u.1), heard_keeps (Throughout plan s c fact) (throughout_more plan s c fact fact_longer) h (told.hear h) (hears h) (record { knows = u.0.knows; also = ((at h u).0.primary_first, (at h u).1) })))
      m
      (λ h u f i. record { start = u.0.start; formed = u.0.formed; knows = i.knows; at = (record { now = f; way = under_way_on j (at h u).0.way; settled = (at h u).0.settled; primary_first = i.also.0 }, i.also.1) })
      (λ h u x v g. says (at h u).0.way x v g)
    where
      s : ℕ
      s = version_of call.start

      plan : Plan
      plan = plan_of call.parts

      keys : List Key
      keys = call.parts.secondaries

      fact : List Event → Type 0
      fact x = PrimaryFirst plan s keys x × PrimaryRolledBack plan x s

      fact_longer : (x y : List Event) → Within x y → fact x → fact y
      fact_longer x y l f = (first_longer plan s keys x y l f.0, rolled_longer plan s x y l f.1)

      at : (h : List Event) → CommitterFits w call c o h × told.known h → IsRollingBack w.plan (w.unrolled call.retry_options) (version_of call.start) call.parts call.parts.secondaries k c o h × PrimaryRolledBack (plan_of call.parts) h (version_of call.start)
      at h u = at_stage w call (stage.RollingBackOthers k) c o h e u.0

  pub committing_on : (w : Ways P) (call : CommitterCall P) (q q' : P) (t : Timestamp) (c d : Commits) (told : Told) (o o' : Posted) (turn : Turn (Result Fetched Error))
      → call.stage ≡ stage.Committing q t
      → ((h : List Event) → Hears h (told.hear h))
      → ((h : List Event) → told.known h → KnowsCommits (plan_of call.parts) (version_of call.start) c h → KnowsCommits (plan_of call.parts) (version_of call.start) d (told.hear h))
      → d.timestamp ≡ c.timestamp
      → (m : Moves (w.plan.asks q) (λ h. w.plan.fits q o h × told.known h) (w.plan.fits q' o') (w.plan.gives q) told.hear o o' turn)
      → SameJob w.plan.asks w.plan.gives q' q
      → Moves (MaySend (plan_of call.parts) (version_of call.start)) (λ h. CommitterFits w call c o h × told.known h) (CommitterFits w (record call { stage = stage.Committing q' t }) (sent o.line o.beat m.sends t d) o')
      (Says (w.uncommitted call.retry_options) (AreCommitted (version_of call.start) (version_of t) (call.parts.primary ∷ []))) told.hear o o' turn
  committing_on w call q q' t c d told o o' turn e hears heard_so time m j =
      lift (Committable plan s (version_of t))
      (λ h u x r i a. commit_part_may plan s (version_of t) x r refl i ((at h u).way.asks x r a))
      (λ h u x n r i a. commit_part_on plan s (version_of t) x n r i ((at h u).way.asks x r a))
      (committable_more plan s (version_of t))
      (λ h u. (((at h u).now, u.1), heard_keeps (Committable plan s (version_of t)) (committable_more plan s (version_of t)) h (told.hear h) (hears h) (record { ready = (at h u).ready; named = named_of plan s c t h (at h u).same u.0.knows })))
      m
      (λ h u f i. record {
        start = u.0.start;
        formed = u.0.formed;
        knows = knows_sent plan s t o.line o.beat d (told.hear h) m.sends (same h u) (heard_so h u.1 u.0.knows) (weaker h u m.sends (told.hear h) (m.licensed h ((at h u).now, u.1)));
        at = record { now = f; way = under_way_on j (at h u).way; ready = i.ready; same = sent_time o.line o.beat m.sends t d (same h u) };
      })
      (λ h u x v g. says (at h u).way x v g)
    where
      s : ℕ
      s = version_of call.start

      plan : Plan
      plan = plan_of call.parts

      at : (h : List Event) → CommitterFits w call c o h × told.known h → IsCommitting w.plan (w.uncommitted call.retry_options) (version_of call.start) call.parts q t c o h
      at h u = at_stage w call (stage.Committing q t) c o h e u.0

      same : (h : List Event) → CommitterFits w call c o h × told.known h → IsSameTime d t
      same h u v f = (at h u).same v (sym time ∙ f)

      weaker : (h : List Event) → CommitterFits w call c o h × told.known h → (rs : List Errand) (k : List Event) → Licensed (w.plan.asks q) o.line o.beat k rs
          → Licensed (λ x r. IsOfCommit s (version_of t) (plan.primary ∷ []) r ⊎ IsForeign x r) o.line o.beat k rs
      weaker h u rs k l = Rattle.txn_history.specs.Posted.Licensed-weaker (at h u).way.asks o.line o.beat k rs l
