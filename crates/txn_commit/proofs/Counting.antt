-- What the plans of a commit or a rollback post is counted as that of the whole.
use Rattle.std.proofs.Common.{◌≡◌, ◌≤◌, ℕ, ◌+◌, Bool, true, false, List, [], ◌∷◌, refl, sym, ap, subst, arith, max, length}
use Rattle.std.proofs.Math.Nat.{le-max_left, le-max_right, le_refl, le_trans, max-le}
use Rattle.std.proofs.lemmas.Bool.{false≢true}
use Rattle.std.specs.Prelude.{⊤, Result, Ok}
use Rattle.txn_kv.specs.declared.errors.Error.{Error}
use Rattle.txn_kv.specs.declared.progress.Progress.{Progress}
use Rattle.txn_kv.specs.declared.progress.Progress.TheVariants.{Waiting, Done}
use Rattle.txn_kv.specs.declared.request.commits.BatchRollbackRequest.{BatchRollbackRequest}
use Rattle.txn_kv.specs.declared.request.commits.CommitRequest.{CommitRequest}
use Rattle.txn_kv.specs.declared.request.commits.PrewriteRequest.{PrewriteRequest}
use Rattle.txn_kv.specs.declared.request.Request.TheVariants.{BatchRollback, Commit, Prewrite}
use Rattle.txn_kv.specs.declared.timestamp.Timestamp.{Timestamp}
use Rattle.txn_history.proofs.Counting.{zero-right, Spends-map, Spends-next, Spends-quiet, Spends-stops}
use Rattle.txn_history.specs.Event.{Event}
use Rattle.txn_history.specs.Meaning.{Counts, IsUnbegun, Meaning}
use Rattle.txn_history.specs.Posted.{Posted}
use Rattle.txn_history.specs.Spends.{Spends}
use Rattle.txn_history.specs.Turn.{failing, is_kept, turn_of, Turn}
use Rattle.txn_history.specs.Turn.Turn.{Stopped}
use Rattle.txn_commit.specs.Ways.{Costs, Ways}
use Rattle.txn_commit.specs.declared.fetched.Fetched.{Fetched}
use Rattle.txn_commit.specs.Counting.{Begins, CommitterCounts, Pays, ask_costs, call_width, commit_again_costs, commit_costs, others_costs, rollback_costs, stage_bears, stage_left, stage_round, stage_width}
use Rattle.txn_commit.specs.Plans.{IsPlanFor}
use Rattle.txn_plan.specs.Timing.{time_asked}
use Rattle.txn_commit.specs.declared.committer.CommitterAnswer.{CommitterAnswer}
use Rattle.txn_commit.specs.declared.committer.CommitterCall.{CommitterCall}
use Rattle.txn_commit.specs.declared.committer.Stage.{Stage}
use Rattle.txn_commit.specs.declared.committer.Stage.TheVariants as stage
use Rattle.txn_plan.specs.declared.timestamp_call.TimestampCall.{TimestampCall}
use Rattle.txn_kv.specs.declared.arrival.Arrival.TheVariants as arrival

pub is_kept_so : {V : Type 0} (p : Progress V) → is_kept (turn_of (Ok p)) ≡ true
is_kept_so Waiting = refl
is_kept_so (Done v) = refl

-- a call that gives up after one that did not
pub counts_stop : {S V : Type 0} {m : Meaning S V} {bad fails : Bool} {weight locked : ℕ} {s s' : S} {from to : Posted} {turn turn' : Turn V}
    → turn' ≡ Stopped → Counts m bad fails weight locked s s' from to turn → Counts m bad fails weight locked s s' from to turn'
counts_stop e c = record { spends = Spends-stops c.spends (ap is_kept e) (λ x. x); fewer = c.fewer }

-- wider bounds serve too
pub Spends-wider : {was is : ℕ → Type 0} {before after round : ℕ → ℕ} {bad fails : Bool} {weight locked width width' v v' : ℕ} {from to : Posted} {kept failed : Bool}
    → v ≤ v' → width' ≤ v'
    → Spends was is before after round bad fails weight locked width width' from to kept failed
    → Spends was is before after round bad fails weight locked v v' from to kept failed
Spends-wider a b s = record {
  wider = a;
  bears = s.bears;
  allowed = s.allowed;
  spends = λ e n w u t o. s.spends e n w u (le_trans b t) o;
  stopped = λ n w u t o. s.stopped n w u (le_trans b t) o;
  rests = s.rests;
  stopped_rests = s.stopped_rests;
}

module _ {P : Type 0} (w : Ways P) (costs : Costs) where
  -- a plan of the call went on, and the call stands at this new state then
  pub record Part (was : ℕ → Type 0) (before round : ℕ → ℕ) (bad fails : Bool) (weight locked : ℕ) (old mid : CommitterCall P) (from via : Posted) (kept failed : Bool) : Type 0 where
    pub spends : Spends was (stage_bears w mid.stage) before (stage_left w costs mid.parts mid.stage) round bad fails weight locked (call_width w old) (call_width w mid) from via kept failed
    pub fewer : (n : ℕ) → stage_round w costs mid.parts mid.stage n ≤ round n

  -- nothing is posted
  pub quiet_counts : (was : ℕ → Type 0) (before round : ℕ → ℕ) (old new : CommitterCall P) (g : Stage P) (o : Posted) (turn : Turn (Result CommitterAnswer Error))
      → new ≡ record old { stage = g; width = new.width } → new.width ≡ call_width w old
      → ((m : ℕ) → stage_bears w g m) → ((n : ℕ) → stage_left w costs old.parts g n ≤ before n) → ((n : ℕ) → stage_round w costs old.parts g n ≤ round n)
      → Pays w costs was before round false false 0 0 old new o o turn
  quiet_counts was before round old new g o turn e f b l r =
      subst (λ x. Pays w costs was before round false false 0 0 old x o o turn) (sym e)
      (record { spends = Spends-wider wide wide (Spends-quiet (λ x. absurd (false≢true x)) (λ m x. b _) l); fewer = r })
    where
      wide : call_width w old ≤ max new.width (stage_width w g)
      wide = subst (λ x. x ≤ max new.width (stage_width w g)) f (le-max_left new.width (stage_width w g))

  -- it waits on
  pub waits_counts : (call : CommitterCall P) (o : Posted) (turn : Turn (Result CommitterAnswer Error)) → CommitterCounts w costs false false 0 0 call call o o turn
  waits_counts call o turn = record {
    spends = Spends-quiet (λ x. absurd (false≢true x)) (λ m b. rw (zero-right m) b) (λ n. le_refl _);
    fewer = λ n. le_refl _;
  }

  -- what comes next is paid from what is left
  pub next_counts : (whole : ℕ → ℕ) (old new : CommitterCall P) (g : Stage P) (from to : Posted) (turn : Turn (Result CommitterAnswer Error))
      → old.stage ≡ g
      → ((n : ℕ) → whole n ≤ stage_left w costs old.parts g n) → ((n : ℕ) → whole n ≤ stage_round w costs old.parts g n)
      → Begins w costs whole old new from to turn
      → CommitterCounts w costs false false 0 0 old new from to turn
  next_counts whole old new g from to turn e l r t = record {
    spends = Spends-map (λ m b. tt) (λ m v x b i. i) (λ n m u b. round n) (λ n m u b. left n) (λ n m u b. let x = left n in omega arith) t.spends;
    fewer = λ n. le_trans (t.fewer n) (round n);
  }
    where
      left : (n : ℕ) → whole n ≤ stage_left w costs old.parts old.stage n
      left n = subst (λ x. whole n ≤ stage_left w costs old.parts x n) (sym e) (l n)

      round : (n : ℕ) → whole n ≤ stage_round w costs old.parts old.stage n
      round n = subst (λ x. whole n ≤ stage_round w costs old.parts x n) (sym e) (r n)

  -- a plan went on, and then the whole
  pub then_counts : {was : ℕ → Type 0} {before round : ℕ → ℕ} {bad fails : Bool} {weight locked : ℕ} {old mid new : CommitterCall P} {from via to : Posted} {kept first : Bool} {turn : Turn (Result CommitterAnswer Error)}
      → (fails ≡ true → bad ≡ true) → kept ≡ true
      → Part was before round bad fails weight locked old mid from via kept first
      → CommitterCounts w costs false false 0 0 mid new via to turn
      → Pays w costs was before round bad fails weight locked old new from to turn
  then_counts {was} {before} {round} {bad} {fails} {weight} {locked} {old} {mid} {new} {from} {via} {to} {kept} {first} {turn} worse k s t = record {
    spends = Spends-next worse (λ n m u b. s.fewer n) (subst (λ x. Spends was (stage_bears w mid.stage) before (stage_left w costs mid.parts mid.stage) round bad fails weight locked (call_width w old) (call_width w mid) from via x first) k s.spends) t.spends;
    fewer = λ n. le_trans (t.fewer n) (s.fewer n);
  }

  -- a plan gave up, and so does the whole
  pub stop_counts : {was : ℕ → Type 0} {before round : ℕ → ℕ} {bad fails : Bool} {weight locked : ℕ} {old mid : CommitterCall P} {from via : Posted} {kept first : Bool} {turn : Turn (Result CommitterAnswer Error)}
      → turn ≡ Stopped
      → Part was before round bad fails weight locked old mid from via kept first
      → Pays w costs was before round bad fails weight locked old mid from via turn
  stop_counts e s = record { spends = Spends-stops s.spends (ap is_kept e) (λ x. x); fewer = s.fewer }

  -- An event of the plan of a stage: what the stage has beside its plan stays.
  lift_counts : {S V : Type 0} (m : Meaning S V) (extra : ℕ → ℕ) (old : CommitterCall P) (g g' : Stage P) (s s' : S) {bad fails : Bool} {weight locked : ℕ} {from via : Posted} {turn : Turn V}
      → old.stage ≡ g
      → ((n : ℕ) → stage_left w costs old.parts g n ≡ m.left s n + extra n) → ((n : ℕ) → stage_left w costs old.parts g' n ≡ m.left s' n + extra n)
      → ((n : ℕ) → stage_round w costs old.parts g n ≡ m.round s n + extra n) → ((n : ℕ) → stage_round w costs old.parts g' n ≡ m.round s' n + extra n)
      → ((x : ℕ) → stage_bears w g x → m.bears s x) → ((x : ℕ) → m.bears s' x → stage_bears w g' x)
      → m.width s ≡ stage_width w g → m.width s' ≡ stage_width w g'
      → Counts m bad fails weight locked s s' from via turn
      → Part (stage_bears w old.stage) (stage_left w costs old.parts old.stage) (stage_round w costs old.parts old.stage) bad fails weight locked old (record old { stage = g' }) from via (is_kept turn) (failing m.fails turn)
  lift_counts m extra old g g' s s' {bad} {fails} {weight} {locked} {from} {via} {turn} e l l' r r' b b' v v' c =
      subst (λ x. Part (stage_bears w x) (stage_left w costs old.parts x) (stage_round w costs old.parts x) bad fails weight locked (record old { stage = x }) (record old { stage = g' }) from via (is_kept turn) (failing m.fails turn)) (sym e)
      (record {
        spends = Spends-wider wider (rw v' (le-max_right old.width (stage_width w g')))
            (Spends-map (λ x y. b x y) (λ x y z p q. b' y q) (λ n x u p. let k = r n in omega arith) (λ n x u p. let k = l n in omega arith) (λ n x u p. let k = l n in let k' = l' n in omega arith) c.spends);
        fewer = λ n. let k = c.fewer n in let y = r n in let y' = r' n in omega arith;
      })
    where
      grown : stage_width w g ≤ stage_width w g'
      grown = let x = c.spends in rw (← v, ← v') x.wider

      wider : max old.width (stage_width w g) ≤ max old.width (stage_width w g')
      wider = max-le (le-max_left old.width (stage_width w g')) (le_trans grown (le-max_right old.width (stage_width w g')))

  -- a plan that was not begun is started
  start_counts : {S V : Type 0} (m : Meaning S V) (extra whole : ℕ → ℕ) (old mid : CommitterCall P) (g' : Stage P) (s s' : S) {from via : Posted} {turn : Turn V}
      → mid ≡ record old { stage = g'; width = mid.width } → call_width w old ≤ mid.width
      → IsUnbegun m s → ((n : ℕ) → m.round s n + extra n ≤ whole n)
      → ((n : ℕ) → stage_left w costs old.parts g' n ≡ m.left s' n + extra n) → ((n : ℕ) → stage_round w costs old.parts g' n ≡ m.round s' n + extra n)
      → ((x : ℕ) → m.bears s' x → stage_bears w g' x) → m.width s' ≡ stage_width w g'
      → Counts m false false 0 0 s s' from via turn
      → Part (λ x. ⊤) whole whole false false 0 0 old mid from via (is_kept turn) (failing m.fails turn)
  start_counts m extra whole old mid g' s s' {from} {via} {turn} e wide u light l' r' b' v' c =
      subst (λ x. Part (λ y. ⊤) whole whole false false 0 0 old x from via (is_kept turn) (failing m.fails turn)) (sym e)
      (record {
        spends = Spends-wider (le_trans wide (le-max_left mid.width (stage_width w g'))) (rw v' (le-max_right mid.width (stage_width w g')))
            (Spends-map (λ x y. u.light x) (λ x y z p q. b' y q) (λ n x y p. let k = light n in omega arith) (λ n x y p. let k = light n in let z = u.whole n in omega arith) (λ n x y p. let k = light n in let z = u.whole n in let k' = l' n in omega arith) c.spends);
        fewer = λ n. let k = c.fewer n in let y = light n in let y' = r' n in omega arith;
      })

  -- Each stage's plan goes on.

  pub prewriting_counts : (old : CommitterCall P) (p p' : P) {bad fails : Bool} {weight locked : ℕ} {from via : Posted} {turn : Turn (Result Fetched Error)}
      → old.stage ≡ stage.Prewriting p → Counts w.plan bad fails weight locked p p' from via turn
      → Part (stage_bears w old.stage) (stage_left w costs old.parts old.stage) (stage_round w costs old.parts old.stage) bad fails weight locked old (record old { stage = stage.Prewriting p' }) from via (is_kept turn) (failing w.plan.fails turn)
  prewriting_counts old p p' e c = lift_counts w.plan (ask_costs costs) old (stage.Prewriting p) (stage.Prewriting p') p p' e (λ n. refl) (λ n. refl) (λ n. refl) (λ n. refl) (λ x b. b) (λ x b. b) refl refl c

  pub asking_counts : (old : CommitterCall P) (t t' : TimestampCall) {bad fails : Bool} {weight locked : ℕ} {from via : Posted} {turn : Turn (Result Timestamp Error)}
      → old.stage ≡ stage.Asking t → Counts time_asked bad fails weight locked t t' from via turn
      → Part (stage_bears w old.stage) (stage_left w costs old.parts old.stage) (stage_round w costs old.parts old.stage) bad fails weight locked old (record old { stage = stage.Asking t' }) from via (is_kept turn) (failing time_asked.fails turn)
  asking_counts old t t' e c = lift_counts time_asked (commit_again_costs costs) old (stage.Asking t) (stage.Asking t') t t' e (λ n. refl) (λ n. refl) (λ n. refl) (λ n. refl) (λ x b. b) (λ x b. b) refl refl c

  pub committing_counts : (old : CommitterCall P) (q q' : P) (time : Timestamp) {bad fails : Bool} {weight locked : ℕ} {from via : Posted} {turn : Turn (Result Fetched Error)}
      → old.stage ≡ stage.Committing q time → Counts w.plan bad fails weight locked q q' from via turn
      → Part (stage_bears w old.stage) (stage_left w costs old.parts old.stage) (stage_round w costs old.parts old.stage) bad fails weight locked old (record old { stage = stage.Committing q' time }) from via (is_kept turn) (failing w.plan.fails turn)
  committing_counts old q q' time e c = lift_counts w.plan (λ n. 0) old (stage.Committing q time) (stage.Committing q' time) q q' e (λ n. sym (zero-right _)) (λ n. sym (zero-right _)) (λ n. sym (zero-right _)) (λ n. sym (zero-right _)) (λ x b. b) (λ x b. b) refl refl c

  pub rolling_counts : (old : CommitterCall P) (k k' : P) {bad fails : Bool} {weight locked : ℕ} {from via : Posted} {turn : Turn (Result Fetched Error)}
      → old.stage ≡ stage.RollingBackPrimary k → Counts w.plan bad fails weight locked k k' from via turn
      → Part (stage_bears w old.stage) (stage_left w costs old.parts old.stage) (stage_round w costs old.parts old.stage) bad fails weight locked old (record old { stage = stage.RollingBackPrimary k' }) from via (is_kept turn) (failing w.plan.fails turn)
  rolling_counts old k k' e c = lift_counts w.plan (others_costs costs old.parts) old (stage.RollingBackPrimary k) (stage.RollingBackPrimary k') k k' e (λ n. refl) (λ n. refl) (λ n. refl) (λ n. refl) (λ x b. b) (λ x b. b) refl refl c

  pub rolling_others_counts : (old : CommitterCall P) (k k' : P) {bad fails : Bool} {weight locked : ℕ} {from via : Posted} {turn : Turn (Result Fetched Error)}
      → old.stage ≡ stage.RollingBackOthers k → Counts w.plan bad fails weight locked k k' from via turn
      → Part (stage_bears w old.stage) (stage_left w costs old.parts old.stage) (stage_round w costs old.parts old.stage) bad fails weight locked old (record old { stage = stage.RollingBackOthers k' }) from via (is_kept turn) (failing w.plan.fails turn)
  rolling_others_counts old k k' e c = lift_counts w.plan (λ n. 0) old (stage.RollingBackOthers k) (stage.RollingBackOthers k') k k' e (λ n. sym (zero-right _)) (λ n. sym (zero-right _)) (λ n. sym (zero-right _)) (λ n. sym (zero-right _)) (λ x b. b) (λ x b. b) refl refl c

  -- Each stage begins.

  pub prewriting_starts : (old mid : CommitterCall P) (request : PrewriteRequest) (p p' : P) {refuses : List Event → Error → Type 0} {from via : Posted} {turn : Turn (Result Fetched Error)}
      → mid ≡ record old { stage = stage.Prewriting p'; width = mid.width } → call_width w old ≤ mid.width
      → request.mutations ≡ old.parts.mutations
      → IsPlanFor w.plan refuses costs.prewrites (Prewrite request) p
      → Counts w.plan false false 0 0 p p' from via turn
      → Part (λ x. ⊤) (commit_costs costs old.parts) (commit_costs costs old.parts) false false 0 0 old mid from via (is_kept turn) (failing w.plan.fails turn)
  prewriting_starts old mid request p p' e wide same x c =
      start_counts w.plan (ask_costs costs) (commit_costs costs old.parts) old mid (stage.Prewriting p') p p' e wide x.unbegun (λ n. let l = x.light n in let k : costs.prewrites (length request.mutations) n ≡ costs.prewrites (length old.parts.mutations) n = ap (λ ms. costs.prewrites (length ms) n) same in omega arith) (λ n. refl) (λ n. refl) (λ y b. b) refl c

  pub committing_starts : (old mid : CommitterCall P) (request : CommitRequest) (time : Timestamp) (q q' : P) {refuses : List Event → Error → Type 0} {from via : Posted} {turn : Turn (Result Fetched Error)}
      → mid ≡ record old { stage = stage.Committing q' time; width = mid.width } → call_width w old ≤ mid.width
      → request.keys ≡ old.parts.primary ∷ []
      → IsPlanFor w.plan refuses costs.commits (Commit request) q
      → Counts w.plan false false 0 0 q q' from via turn
      → Part (λ x. ⊤) (commit_again_costs costs) (commit_again_costs costs) false false 0 0 old mid from via (is_kept turn) (failing w.plan.fails turn)
  committing_starts old mid request time q q' e wide same x c =
      start_counts w.plan (λ n. 0) (commit_again_costs costs) old mid (stage.Committing q' time) q q' e wide x.unbegun (λ n. let l = x.light n in let k : costs.commits (length request.keys) n ≡ costs.commits 1 n = ap (λ ks. costs.commits (length ks) n) same in omega arith) (λ n. sym (zero-right _)) (λ n. sym (zero-right _)) (λ y b. b) refl c

  pub rolling_starts : (old mid : CommitterCall P) (request : BatchRollbackRequest) (p p' : P) {refuses : List Event → Error → Type 0} {from via : Posted} {turn : Turn (Result Fetched Error)}
      → mid ≡ record old { stage = stage.RollingBackPrimary p'; width = mid.width } → call_width w old ≤ mid.width
      → request.keys ≡ old.parts.primary ∷ []
      → IsPlanFor w.plan refuses costs.rollbacks (BatchRollback request) p
      → Counts w.plan false false 0 0 p p' from via turn
      → Part (λ x. ⊤) (rollback_costs costs old.parts) (rollback_costs costs old.parts) false false 0 0 old mid from via (is_kept turn) (failing w.plan.fails turn)
  rolling_starts old mid request p p' e wide same x c =
      start_counts w.plan (others_costs costs old.parts) (rollback_costs costs old.parts) old mid (stage.RollingBackPrimary p') p p' e wide x.unbegun (λ n. let l = x.light n in let k : costs.rollbacks (length request.keys) n ≡ costs.rollbacks 1 n = ap (λ ks. costs.rollbacks (length ks) n) same in omega arith) (λ n. refl) (λ n. refl) (λ y b. b) refl c

  pub rolling_others_starts : (old mid : CommitterCall P) (request : BatchRollbackRequest) (p p' : P) {refuses : List Event → Error → Type 0} {from via : Posted} {turn : Turn (Result Fetched Error)}
      → mid ≡ record old { stage = stage.RollingBackOthers p'; width = mid.width } → call_width w old ≤ mid.width
      → request.keys ≡ old.parts.secondaries
      → IsPlanFor w.plan refuses costs.rollbacks (BatchRollback request) p
      → Counts w.plan false false 0 0 p p' from via turn
      → Part (λ x. ⊤) (others_costs costs old.parts) (others_costs costs old.parts) false false 0 0 old mid from via (is_kept turn) (failing w.plan.fails turn)
  rolling_others_starts old mid request p p' e wide same x c =
      start_counts w.plan (λ n. 0) (others_costs costs old.parts) old mid (stage.RollingBackOthers p') p p' e wide x.unbegun (λ n. let l = x.light n in let k : costs.rollbacks (length request.keys) n ≡ costs.rollbacks (length old.parts.secondaries) n = ap (λ ks. costs.rollbacks (length ks) n) same in omega arith) (λ n. sym (zero-right _)) (λ n. sym (zero-right _)) (λ y b. b) refl c

  -- it has gone through Stopped to a stage
  pub gone_wide : (old stopped mid : CommitterCall P) → stopped.width ≡ call_width w old → mid.width ≡ call_width w stopped → call_width w old ≤ mid.width
  gone_wide old stopped mid a b = rw (b, ← a) (le-max_left stopped.width (stage_width w stopped.stage))

  -- a plan gave up, and the call does
  pub gave_up_counts : {was : ℕ → Type 0} {before round : ℕ → ℕ} {bad fails : Bool} {weight locked : ℕ} {old mid new : CommitterCall P} {from via : Posted} {kept first : Bool} {turn : Turn (Result CommitterAnswer Error)}
      → turn ≡ Stopped
      → new ≡ record mid { stage = stage.Stopped; width = new.width } → new.width ≡ call_width w mid
      → Part was before round bad fails weight locked old mid from via kept first
      → Pays w costs was before round bad fails weight locked old new from via turn
  gave_up_counts {was} {before} {round} {bad} {fails} {weight} {locked} {old} {mid} {new} {from} {via} {kept} {first} {turn} e is f s =
      subst (λ x. Pays w costs was before round bad fails weight locked old x from via turn) (sym is)
      (record { spends = Spends-wider (le_trans wider wide) wide (Spends-stops s.spends (ap is_kept e) (λ x. x)); fewer = λ n. omega arith })
    where
      wide : call_width w mid ≤ max new.width 0
      wide = subst (λ x. x ≤ max new.width 0) f (le-max_left new.width 0)

      wider : call_width w old ≤ call_width w mid
      wider = let x = s.spends in x.wider

  -- it hears nothing
  pub idle_counts : (call : CommitterCall P) (g : Stage P) (bad fails : Bool) (weight locked : ℕ) (o : Posted) (turn : Turn (Result CommitterAnswer Error))
      → call.stage ≡ g → ((m : ℕ) → stage_bears w g m)
      → CommitterCounts w costs bad fails weight locked call call o o turn
  idle_counts call g bad fails weight locked o turn e b = record {
    spends = Spends-quiet (λ x. absurd (false≢true x)) (λ m x. subst (λ y. stage_bears w y (m + weight)) (sym e) (b (m + weight))) (λ n. le_refl _);
    fewer = λ n. le_refl _;
  }
