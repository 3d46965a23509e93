-- The errors of the plans of a Prewrite, a Commit and a BatchRollback have their causes in what was heard.
use Rattle.std.proofs.Common.{◌≡◌, ◌≢◌, ◌∙◌, inl, inr, ap, refl, subst, sym, ℕ, List, [], ◌∷◌, length, map, Option, Some, None}
use Rattle.std.specs.Global.{Vec}
use Rattle.std.specs.List.{cons_option, filter_map}
use Rattle.std.specs.Prelude.{◌⊎◌, Result, Ok, Err}
use Rattle.txn_causes.specs.Making.{each_caused, some_listed}
use Rattle.txn_causes.specs.Carried.{listed as errors_listed, HasKeyError, HasLock, HasNoLock, HasRegionError}
use Rattle.txn_causes.specs.Causes.{retries, HasCause}
use Rattle.txn_causes.specs.Heard.{heard_in}
use Rattle.txn_causes.specs.Kinds.{IsOfKind}
use Rattle.txn_causes.specs.Spent.{IsSpent}
use Rattle.txn_history.specs.Among.{IsAmong}
use Rattle.txn_history.specs.Event.{Event}
use Rattle.txn_history.specs.Meaning.{Meaning}
use Rattle.txn_kv.specs.ErrorView.{ErrorView}
use Rattle.txn_kv.specs.ErrorView.ErrorView.{key, region}
use Rattle.txn_kv.specs.declared.errors.Error.{Error}
use Rattle.txn_kv.specs.declared.errors.Error.TheVariants.{OutOfMemory}
use Rattle.txn_kv.specs.declared.message.KeyError.{KeyError}
use Rattle.txn_kv.specs.declared.message.KeyError.TheVariants.{Locked, Abort, WriteConflict, AlreadyExist, PessimisticLockNotFound, TxnLockNotFound, CommitTsExpired, TxnNotFound, PrimaryMismatch}
use Rattle.txn_kv.specs.declared.message.LockInfo.{LockInfo}
use Rattle.txn_kv.specs.declared.message.RegionErr.{RegionErr}
use Rattle.txn_kv.specs.declared.reply.commits.BatchRollbackResponse.{BatchRollbackResponse}
use Rattle.txn_kv.specs.declared.reply.commits.CommitResponse.{CommitResponse}
use Rattle.txn_kv.specs.declared.reply.commits.PrewriteResponse.{PrewriteResponse}
use Rattle.txn_kv.specs.declared.reply.Reply.{Reply}
use Rattle.txn_kv.specs.declared.reply.Reply.TheVariants as reply
use Rattle.txn_kv.specs.declared.request.Request.{Request}
use Rattle.txn_kv.specs.declared.request.Request.TheVariants.{BatchRollback, Commit, Prewrite}
use Rattle.txn_merge.specs.Extracted.{views_in}
use Rattle.txn_merge.specs.Firsts.{first_seen, or_else, region_in, seen_in}
use Rattle.txn_merge.specs.Gathered.{errors_of, first, values_of, FirstErrorOr}
use Rattle.txn_merge.specs.KeyErrors.{views_of_error}
use Rattle.txn_merge.specs.Locks.{listed as locks_listed, lock_in, locks_of_error, locks_of_errors}
use Rattle.txn_multi.specs.Few.{by_items}
use Rattle.txn_multi.specs.Task.{attempts_left}
use Rattle.txn_plan.specs.Dispatch.{dispatch}
use Rattle.txn_plan.specs.Extracted.{extracted, IsAnswer}
use Rattle.txn_plan.specs.Merged.{merged, IsMerged}
use Rattle.txn_plan.specs.declared.extract_error.ExtractError.{ExtractError}
use Rattle.txn_commit_plans.specs.CausesOfShards.{dispatch_rests, key_caused, multi_rests, starved, unlocked_rests, AllRest, IsCaused, ResultRests, RestsOnHeard, WasFree}
use Rattle.txn_commit_plans.specs.Failing.{FailsForCauses}
use Rattle.txn_commit_plans.specs.Kinds.{collected, commit_attempts, commit_keys, commit_plan, commits, mutations_of, prewrite_attempts, prewrite_plan, prewrites, rollback_attempts, rollback_keys, rollback_plan, rollbacks}
use Rattle.txn_commit_plans.specs.OverRegions.{over_regions}
use Rattle.txn_resolve.specs.Unlocked.{unlocked}
use Rattle.txn_shard.specs.Parts.{BatchRollbackPart, CommitPart, PrewritePart}
use Rattle.txn_shard.specs.Shards.{AreJoined, ArePieces}

-- Items of lists that are made of others

mapped_among : {X Y : Type 0} (f : X → Y) (xs : List X) (y : Y) → IsAmong (map f xs) y → (x : X) × IsAmong xs x × (f x ≡ y)
mapped_among f [] y i = absurd i
mapped_among f (x ∷ xs) y (inl e) = (x, inl refl, e)
mapped_among f (x ∷ xs) y (inr i) = let m = mapped_among f xs y i in (m.0, inr m.1, m.2)

or_else_among : (views others : List ErrorView) (view : ErrorView) → IsAmong (or_else views others) view → IsAmong views view ⊎ IsAmong others view
or_else_among [] others view i = inr i
or_else_among (first ∷ views) others view i = inl i

first_seen_among : {X : Type 0} (seen : X → List ErrorView) (xs : List X) (view : ErrorView) → IsAmong (first_seen seen xs) view → (x : X) × IsAmong xs x × IsAmong (seen x) view
first_seen_among seen [] view i = absurd i
first_seen_among {X} seen (x ∷ xs) view i = by (or_else_among (seen x) (first_seen seen xs) view i) (first_seen_among seen xs view)
  where
    by : IsAmong (seen x) view ⊎ IsAmong (first_seen seen xs) view → (IsAmong (first_seen seen xs) view → (y : X) × IsAmong xs y × IsAmong (seen y) view) → (y : X) × IsAmong (x ∷ xs) y × IsAmong (seen y) view
    by (inl j) more = (x, inl refl, j)
    by (inr j) more = let m = more j in (m.0, inr m.1, m.2)

filtered_among : {X Y : Type 0} (f : X → Option Y) (xs : List X) (y : Y) → IsAmong (filter_map f xs) y → (x : X) × IsAmong xs x × (f x ≡ Some y)
filtered_among f [] y i = absurd i
filtered_among {X} {Y} f (x ∷ xs) y i = by (f x) refl i (filtered_among f xs y)
  where
    by : (found : Option Y) → f x ≡ found → IsAmong (cons_option found (filter_map f xs)) y → (IsAmong (filter_map f xs) y → (z : X) × IsAmong xs z × (f z ≡ Some y)) → (z : X) × IsAmong (x ∷ xs) z × (f z ≡ Some y)
    by None e j more = let m = more j in (m.0, inr m.1, m.2)
    by (Some found) e (inl same) more = (x, inl refl, e ∙ ap Some same)
    by (Some found) e (inr j) more = let m = more j in (m.0, inr m.1, m.2)

-- Results that are collected

-- each stands in a reply that was taken, without a lock or an error of its region
abbrev AllTaken : {V : Type 0} → (V → Reply) → (V → Option RegionErr) → List Event → List V → Type 0
AllTaken {V} reply_of region_of h values = (v : V) → IsAmong values v → WasFree h (reply_of v) × (region_of v ≡ None)

module _ {V : Type 0} (reply_of : V → Reply) (region_of : V → Option RegionErr) (n : ℕ) (h : List Event) where
  values_taken : (results : List (Result V Error)) → AllRest reply_of region_of n h results → AllTaken reply_of region_of h (values_of results)
  values_taken [] rest v i = absurd i
  values_taken (Ok x ∷ results) rest v (inl e) = subst (λ y. WasFree h (reply_of y) × (region_of y ≡ None)) e (rest (Ok x) (inl refl))
  values_taken (Ok x ∷ results) rest v (inr i) = values_taken results (λ r j. rest r (inr j)) v i
  values_taken (Err why ∷ results) rest v i = values_taken results (λ r j. rest r (inr j)) v i

  first_caused : (results : List (Result V Error)) → AllRest reply_of region_of n h results → (e : Error) → first (errors_of results) ≡ Some e → IsCaused n h e
  first_caused [] rest e f = cc
  first_caused (Ok x ∷ results) rest e f = first_caused results (λ r j. rest r (inr j)) e f
  first_caused (Err why ∷ results) rest e f = let same : why ≡ e = cc in subst (IsCaused n h) same (rest (Err why) (inl refl))

abbrev collects : {T V : Type 0} → T → List (Result V Error) → Result (Vec V) Error → Type 0
collects all results result = FirstErrorOr (λ values out. out.items ≡ values) results result

module _ {S T V : Type 0} (m : Meaning S (Result (Vec (Result V Error)) Error)) (attempts : S → ℕ) (reply_of : V → Reply) (region_of : V → Option RegionErr) (rests : RestsOnHeard m attempts (λ n h results. AllRest reply_of region_of n h results.items)) where
  merged_value : (s : S) (h : List Event) (out : Vec V) (a : Result (Vec (Result V Error)) Error) → m.gives s h a → (all : T) → IsMerged (collects all) a (Ok out) → AllTaken reply_of region_of h out.items
  merged_value s h out (Ok results) g all i = subst (AllTaken reply_of region_of h) (sym i.1) (values_taken reply_of region_of (attempts s) h results.items (rests.value s h results g))
  merged_value s h out (Err why) g all i = cc

  merged_error : (s : S) (h : List Event) (e : Error) (a : Result (Vec (Result V Error)) Error) → m.gives s h a → (all : T) → IsMerged (collects all) a (Err e) → IsCaused (attempts s) h e
  merged_error s h e (Ok results) g all (inl is) = starved (attempts s) h e is
  merged_error s h e (Ok results) g all (inr f) = first_caused reply_of region_of (attempts s) h results.items (rests.value s h results g) e f
  merged_error s h e (Err why) g all i = let same : why ≡ e = cc in subst (IsCaused (attempts s) h) same (rests.error s h why g)

  merged_rests : RestsOnHeard (merged {T = T} m collects) (λ s. attempts s.inner) (λ n h out. AllTaken reply_of region_of h out.items)
  merged_rests = record {
    value = λ s h out g. merged_value s.inner h out g.0 g.1 s.merge g.2;
    error = λ s h e g. merged_error s.inner h e g.0 g.1 s.merge g.2;
  }

-- Errors that are taken out: those at keys, since no region error is left in an answer

module _ {S A : Type 0} (m : Meaning S (Result A Error)) (attempts : S → ℕ) (Is : ℕ → List Event → A → Type 0) (rests : RestsOnHeard m attempts Is) (keys : A → List ErrorView) (regions : A → List RegionErr)
    (keyed : (n : ℕ) (h : List Event) (a : A) → Is n h a → (view : ErrorView) → IsAmong (keys a) view → HasCause (heard_in h) (IsSpent (heard_in h) n) view)
    (unplaced : (n : ℕ) (h : List Event) (a : A) → Is n h a → (e : RegionErr) → IsAmong (regions a) e → ⊥) where
  view_caused : (n : ℕ) (h : List Event) (a : A) → Is n h a → (view : ErrorView) → IsAmong (views_in (keys a) (regions a)) view → HasCause (heard_in h) (IsSpent (heard_in h) n) view
  view_caused n h a is view i = by (or_else_among (keys a) (map region (regions a)) view i)
    where
      by : IsAmong (keys a) view ⊎ IsAmong (map region (regions a)) view → HasCause (heard_in h) (IsSpent (heard_in h) n) view
      by (inl j) = keyed n h a is view j
      by (inr j) = let e = mapped_among region (regions a) view j in absurd (unplaced n h a is e.0 e.1)

  taken_out : (s : S) (h : List Event) (e : Error) (a : Result A Error) → m.gives s h a → IsAnswer keys regions a (Err e) → IsCaused (attempts s) h e
  taken_out s h e a g (inl i) = let is : e ≡ OutOfMemory = cc in starved (attempts s) h e is
  taken_out s h e (Ok a) g (inr i) =
      subst (HasCause (heard_in h) (IsSpent (heard_in h) (attempts s))) (sym i.1)
      (some_listed (views_in (keys a) (regions a)) i.0, each_caused (heard_in h) (IsSpent (heard_in h) (attempts s)) (views_in (keys a) (regions a)) (view_caused (attempts s) h a (rests.value s h a g)))
  taken_out s h e (Err why) g (inr i) = let same : why ≡ e = cc in subst (IsCaused (attempts s) h) same (rests.error s h why g)

  extracted_caused : (s : ExtractError S A) (h : List Event) (e : Error) → (extracted m keys regions).gives s h (Err e) → IsCaused (attempts s.inner) h e
  extracted_caused s h e g = taken_out s.inner h e g.0 g.1 g.2

-- Errors of replies that were taken, and of results

module _ {V : Type 0} (reply_of : V → Reply) (keys : V → List ErrorView) (region_of : V → Option RegionErr)
    (keyed : (v : V) (view : ErrorView) → IsAmong (keys v) view → (e : KeyError) × (view ≡ key e) × HasKeyError e (reply_of v)) (n : ℕ) (h : List Event) where
  reply_keyed : (v : V) → WasFree h (reply_of v) → (view : ErrorView) → IsAmong (keys v) view → HasCause (heard_in h) (IsSpent (heard_in h) n) view
  reply_keyed v w view i = let k = keyed v view i in subst (HasCause (heard_in h) (IsSpent (heard_in h) n)) (sym k.1) (key_caused n h (reply_of v) k.0 w k.2)

  result_keyed : (r : Result V Error) → ResultRests reply_of region_of n h r → (view : ErrorView) → IsAmong (seen_in keys r) view → HasCause (heard_in h) (IsSpent (heard_in h) n) view
  result_keyed (Ok v) w view i = reply_keyed v w.0 view i
  result_keyed (Err e) c view (inl same) = subst (HasCause (heard_in h) (IsSpent (heard_in h) n)) same c
  result_keyed (Err e) c view (inr none) = absurd none

  result_unplaced : (r : Result V Error) → ResultRests reply_of region_of n h r → (e : RegionErr) → region_in region_of r ≡ Some e → ⊥
  result_unplaced (Ok v) w e is = let none = w.1 in cc
  result_unplaced (Err why) c e is = cc

  results_keyed : (results : List (Result V Error)) → AllRest reply_of region_of n h results → (view : ErrorView) → IsAmong (first_seen (seen_in keys) results) view → HasCause (heard_in h) (IsSpent (heard_in h) n) view
  results_keyed results rest view i = let s = first_seen_among (seen_in keys) results view i in result_keyed s.0 (rest s.0 s.1) view s.2

  results_unplaced : (results : List (Result V Error)) → AllRest reply_of region_of n h results → (e : RegionErr) → IsAmong (filter_map (region_in region_of) results) e → ⊥
  results_unplaced results rest e i = let f = filtered_among (region_in region_of) results e i in result_unplaced f.0 (rest f.0 f.1) e f.2

  replies_keyed : (values : List V) → AllTaken reply_of region_of h values → (view : ErrorView) → IsAmong (first_seen keys values) view → HasCause (heard_in h) (IsSpent (heard_in h) n) view
  replies_keyed values taken view i = let s = first_seen_among keys values view i in let t = taken s.0 s.1 in reply_keyed s.0 t.0 view s.2

  replies_unplaced : (values : List V) → AllTaken reply_of region_of h values → (e : RegionErr) → IsAmong (filter_map region_of values) e → ⊥
  replies_unplaced values taken e i = let f = filtered_among region_of values e i in let t = taken f.0 f.1 in let none = t.1 in let is = f.2 in cc

-- What stands in replies

is_lock : (e : KeyError) (lock : LockInfo) → lock_in e ≡ Some lock → e ≡ Locked lock
is_lock (Locked held) lock e = let same : held ≡ lock = cc in ap Locked same
is_lock (Abort at start commit) lock e = cc
is_lock (WriteConflict at start commit) lock e = cc
is_lock (AlreadyExist at) lock e = cc
is_lock (PessimisticLockNotFound at) lock e = cc
is_lock (TxnLockNotFound at) lock e = cc
is_lock (CommitTsExpired at bound) lock e = cc
is_lock (TxnNotFound at start) lock e = cc
is_lock (PrimaryMismatch held) lock e = cc

lock_of_error : (error : Option KeyError) (lock : LockInfo) → IsAmong (locks_of_error error) lock → IsAmong (errors_listed error) (Locked lock)
lock_of_error None lock i = absurd i
lock_of_error (Some e) lock i = by (lock_in e) refl i
  where
    by : (found : Option LockInfo) → lock_in e ≡ found → IsAmong (locks_listed found) lock → IsAmong (e ∷ []) (Locked lock)
    by None is j = absurd j
    by (Some held) is (inl same) = inl (is_lock e lock (is ∙ ap Some same))
    by (Some held) is (inr none) = absurd none

lock_of_errors : (errors : List KeyError) (lock : LockInfo) → IsAmong (locks_of_errors errors) lock → IsAmong errors (Locked lock)
lock_of_errors errors lock i = let f = filtered_among lock_in errors lock i in subst (IsAmong errors) (is_lock f.0 lock f.2) f.1

no_lock_of_error : (error : Option KeyError) → locks_of_error error ≡ [] → (lock : LockInfo) → IsAmong (errors_listed error) (Locked lock) → ⊥
no_lock_of_error None none lock i = i
no_lock_of_error (Some e) none lock (inl same) = let is : lock ∷ [] ≡ [] = subst (λ x. locks_listed (lock_in x) ≡ []) same none in cc
no_lock_of_error (Some e) none lock (inr i) = i

no_lock_of_errors : (errors : List KeyError) → locks_of_errors errors ≡ [] → (lock : LockInfo) → IsAmong errors (Locked lock) → ⊥
no_lock_of_errors [] none lock i = i
no_lock_of_errors (e ∷ errors) none lock (inl same) = let is : lock ∷ locks_of_errors errors ≡ [] = subst (λ x. cons_option (lock_in x) (locks_of_errors errors) ≡ []) same none in cc
no_lock_of_errors (e ∷ errors) none lock (inr i) = by (lock_in e) none (λ f. no_lock_of_errors errors f lock i)
  where
    by : (found : Option LockInfo) → cons_option found (locks_of_errors errors) ≡ [] → (locks_of_errors errors ≡ [] → ⊥) → ⊥
    by None f more = more f
    by (Some held) f more = cc

key_of_error : (error : Option KeyError) (view : ErrorView) → IsAmong (views_of_error error) view → (e : KeyError) × (view ≡ key e) × IsAmong (errors_listed error) e
key_of_error None view i = absurd i
key_of_error (Some e) view (inl same) = (e, sym same, inl refl)
key_of_error (Some e) view (inr none) = absurd none

key_of_errors : (errors : List KeyError) (view : ErrorView) → IsAmong (map key errors) view → (e : KeyError) × (view ≡ key e) × IsAmong errors e
key_of_errors errors view i = let m = mapped_among key errors view i in (m.0, sym m.2, m.1)

-- The plans

module _ {R V H L : Type 0} (request_of : R → Request) (reply_of : V → Reply) (once : (r : R) → retries (request_of r) ≡ None) (unlike : (r : R) (x : Reply) → ((v : V) → x ≢ reply_of v) → IsOfKind (request_of r) x → ⊥)
    (keys : V → List ErrorView) (region_of : V → Option RegionErr) (locks_in : V → List LockInfo)
    (keyed : (v : V) (view : ErrorView) → IsAmong (keys v) view → (e : KeyError) × (view ≡ key e) × HasKeyError e (reply_of v))
    (placed : (v : V) (e : RegionErr) → region_of v ≡ Some e → HasRegionError e (reply_of v))
    (held : (v : V) (lock : LockInfo) → IsAmong (locks_in v) lock → HasLock lock (reply_of v))
    (freed : (v : V) → locks_in v ≡ [] → HasNoLock (reply_of v))
    (is_part : R → R → Type 0) (load : R → L) (are_cut : L → List L → Type 0) (most : R → ℕ → ℕ) where
  over_regions_rests : RestsOnHeard (over_regions {H = H} request_of reply_of keys region_of locks_in is_part load are_cut most) (λ s. attempts_left s.backoff) (λ n h results. AllRest reply_of region_of n h results.items)
  over_regions_rests =
      multi_rests (unlocked (dispatch request_of reply_of) locks_in) reply_of keys region_of keyed placed (unlocked_rests (dispatch request_of reply_of) reply_of locks_in held freed (dispatch_rests request_of reply_of once unlike))
      (λ part whole. is_part part.inner.request whole.inner.request) (λ s. load s.inner.request) are_cut (λ s. most s.inner.request)

commits_rest : RestsOnHeard commits (λ s. attempts_left s.backoff) (λ n h results. AllRest reply.Commit (λ v. v.region_error) n h results.items)
commits_rest =
    over_regions_rests Commit reply.Commit (λ r. refl) (λ r x other k. other k.0 k.1) (λ v. views_of_error v.error) (λ v. v.region_error) (λ v. locks_of_error v.error)
    (λ v view i. key_of_error v.error view i) (λ v e is. is) (λ v lock i. lock_of_error v.error lock i) (λ v none lock i. no_lock_of_error v.error none lock i) CommitPart commit_keys (λ whole pieces. ArePieces whole pieces) (λ r. by_items (length r.keys))

pub commits_caused : FailsForCauses commit_plan commit_attempts
commits_caused =
    extracted_caused commits (λ s. attempts_left s.backoff) (λ n h results. AllRest reply.Commit (λ v. v.region_error) n h results.items) commits_rest _ _
    (λ n h a rest. results_keyed reply.Commit (λ (v : CommitResponse). views_of_error v.error) (λ v. v.region_error) (λ v view i. key_of_error v.error view i) n h a.items rest)
    (λ n h a rest. results_unplaced reply.Commit (λ (v : CommitResponse). views_of_error v.error) (λ v. v.region_error) (λ v view i. key_of_error v.error view i) n h a.items rest)

rollbacks_rest : RestsOnHeard rollbacks (λ s. attempts_left s.backoff) (λ n h results. AllRest reply.BatchRollback (λ v. v.region_error) n h results.items)
rollbacks_rest =
    over_regions_rests BatchRollback reply.BatchRollback (λ r. refl) (λ r x other k. other k.0 k.1) (λ v. views_of_error v.error) (λ v. v.region_error) (λ v. locks_of_error v.error)
    (λ v view i. key_of_error v.error view i) (λ v e is. is) (λ v lock i. lock_of_error v.error lock i) (λ v none lock i. no_lock_of_error v.error none lock i) BatchRollbackPart rollback_keys (λ whole pieces. AreJoined whole pieces) (λ r. by_items (length r.keys))

pub rollbacks_caused : FailsForCauses rollback_plan rollback_attempts
rollbacks_caused =
    extracted_caused rollbacks (λ s. attempts_left s.backoff) (λ n h results. AllRest reply.BatchRollback (λ v. v.region_error) n h results.items) rollbacks_rest _ _
    (λ n h a rest. results_keyed reply.BatchRollback (λ (v : BatchRollbackResponse). views_of_error v.error) (λ v. v.region_error) (λ v view i. key_of_error v.error view i) n h a.items rest)
    (λ n h a rest. results_unplaced reply.BatchRollback (λ (v : BatchRollbackResponse). views_of_error v.error) (λ v. v.region_error) (λ v view i. key_of_error v.error view i) n h a.items rest)

prewrites_rest : RestsOnHeard prewrites (λ s. attempts_left s.backoff) (λ n h results. AllRest reply.Prewrite (λ v. v.region_error) n h results.items)
prewrites_rest =
    over_regions_rests Prewrite reply.Prewrite (λ r. refl) (λ r x other k. other k.0 k.1) (λ v. map key v.errors) (λ v. v.region_error) (λ v. locks_of_errors v.errors)
    (λ v view i. key_of_errors v.errors view i) (λ v e is. is) (λ v lock i. lock_of_errors v.errors lock i) (λ v none lock i. no_lock_of_errors v.errors none lock i) PrewritePart mutations_of (λ whole pieces. AreJoined whole pieces) (λ r. by_items (length r.mutations))

pub prewrites_caused : FailsForCauses prewrite_plan prewrite_attempts
prewrites_caused =
    extracted_caused collected (λ s. attempts_left s.inner.backoff) (λ n h out. AllTaken reply.Prewrite (λ v. v.region_error) h out.items) (merged_rests prewrites (λ s. attempts_left s.backoff) reply.Prewrite (λ v. v.region_error) prewrites_rest) _ _
    (λ n h a taken. replies_keyed reply.Prewrite (λ (v : PrewriteResponse). map key v.errors) (λ v. v.region_error) (λ v view i. key_of_errors v.errors view i) n h a.items taken)
    (λ n h a taken. replies_unplaced reply.Prewrite (λ (v : PrewriteResponse). map key v.errors) (λ v. v.region_error) (λ v view i. key_of_errors v.errors view i) n h a.items taken)
