-- What was sent and answered where a request over regions is answered without error.
use Rattle.std.proofs.Common.{◌≡◌, inl, inr, ℕ, List, [], ◌∷◌, Option, None, map, refl, sym, ap, subst}
use Rattle.std.proofs.lemmas.List.Elements.{All-head, All-tail}
use Rattle.std.specs.Global.{Vec}
use Rattle.std.specs.List.{All, AllZip}
use Rattle.std.specs.Prelude.{◌⊎◌, ⊤, false, Result, Ok, Err}
use Rattle.txn_history.specs.Among.{IsAmong}
use Rattle.txn_history.specs.Event.{Event, Has}
use Rattle.txn_history.specs.Event.Event.{Took}
use Rattle.txn_kv.specs.ErrorView.{ErrorView}
use Rattle.txn_kv.specs.declared.errors.Error.{Error}
use Rattle.txn_kv.specs.declared.message.LockInfo.{LockInfo}
use Rattle.txn_kv.specs.declared.message.RegionErr.{RegionErr}
use Rattle.txn_kv.specs.declared.reply.Reply.{Reply}
use Rattle.txn_kv.specs.declared.request.Request.{Request}
use Rattle.txn_kv.specs.declared.ticket.Ticket.{Ticket}
use Rattle.txn_merge.specs.Firsts.{first_seen, or_else, seen_in}
use Rattle.txn_merge.specs.Gathered.{errors_of}
use Rattle.txn_multi.specs.Cutting.{IsPlacement}
use Rattle.txn_multi.specs.Multi.{IsAnswer}
use Rattle.txn_multi.specs.Task.{attempts_left, IsOutcome, IsResult}
use Rattle.txn_multi.specs.declared.multi_region.RetryableMultiRegion.{RetryableMultiRegion}
use Rattle.txn_multi.specs.declared.part.Part.{Part}
use Rattle.txn_plan.specs.Dispatch.{dispatch, IsReplied}
use Rattle.txn_resolve.specs.Unlocked.{unlocked, IsUnlocked}
use Rattle.txn_retry.specs.Outcome.{all_or_first, preceded}
use Rattle.txn_tasks.specs.Tasks.{Outcome}
use Rattle.txn_commit_plans.specs.OverRegions.{over_regions, Shard}

-- no result is an error
abbrev pub AreOk : {V : Type 0} → List (Result V Error) → Type 0
AreOk [] = ⊤
AreOk (Ok v ∷ results) = AreOk results
AreOk (Err why ∷ results) = ⊥

or_none : (views others : List ErrorView) → or_else views others ≡ [] → others ≡ []
or_none [] others e = e
or_none (view ∷ views) others e = cc

pub ok_if_clean : {V : Type 0} (keys : V → List ErrorView) (results : List (Result V Error)) → first_seen (seen_in keys) results ≡ [] → AreOk results
ok_if_clean keys [] e = tt
ok_if_clean keys (Ok v ∷ results) e = ok_if_clean keys results (or_none (keys v) (first_seen (seen_in keys) results) e)
ok_if_clean keys (Err why ∷ results) e = cc

pub ok_if_collected : {V : Type 0} (results : List (Result V Error)) → errors_of results ≡ [] → AreOk results
ok_if_collected [] e = tt
ok_if_collected (Ok v ∷ results) e = ok_if_collected results e
ok_if_collected (Err why ∷ results) e = cc

all_among : {X : Type 0} (P : X → Type 0) (xs : List X) (x : X) → All P xs → IsAmong xs x → P x
all_among P [] x a i = absurd i
all_among P (y ∷ ys) x a (inl e) = subst P e (All-head P y ys a)
all_among P (y ∷ ys) x a (inr i) = all_among P ys x (All-tail P y ys a) i

after_first : {X : Type 0} (x : X) (r : Result (List X) Error) (items : List X) → preceded x r ≡ Ok items → (rest : List X) × (r ≡ Ok rest) × (items ≡ x ∷ rest)
after_first x (Ok xs) items e = (xs, refl, cc)
after_first x (Err why) items e = cc

-- a reply to a request was taken that has no error
pub record IsAnswered {R V : Type 0} (request_of : R → Request) (reply_of : V → Reply) (keys : V → List ErrorView) (region : V → Option RegionErr) (h : List Event) (request : R) : Type 0 where
  pub ticket : Ticket
  pub response : V
  pub taken : Has h (Took ticket (request_of request) (reply_of response))
  pub clean : keys response ≡ []
  pub placed : region response ≡ None

-- so to each of some parts of a request, which are together the whole
pub record AreAnswered {R V L : Type 0} (request_of : R → Request) (reply_of : V → Reply) (keys : V → List ErrorView) (region : V → Option RegionErr) (is_part : R → R → Type 0) (load : R → L) (are_cut : L → List L → Type 0) (h : List Event) (whole : R) : Type 0 where
  pub parts : List (Part (Shard R V))
  pub cut : are_cut (load whole) (map (λ p. load p.plan.inner.request) parts)
  pub belong : (p : Part (Shard R V)) → IsAmong parts p → is_part p.plan.inner.request whole
  pub each : (p : Part (Shard R V)) → IsAmong parts p → IsAnswered request_of reply_of keys region h p.plan.inner.request

module _ {R V : Type 0} (request_of : R → Request) (reply_of : V → Reply) (keys : V → List ErrorView) (region : V → Option RegionErr) (locks : V → List LockInfo) where
  -- a reply that carries no lock is the one that was taken
  not_locked : (a : Result V Error) (v : V) → IsUnlocked locks a (Ok v) → a ≡ Ok v
  not_locked (Ok x) v (inl e) = cc
  not_locked (Ok x) v (inr l) = ap Ok (sym l.1)
  not_locked (Err why) v i = cc

  shard_answered : (job : Shard R V) (h : List Event) (v : V) → IsResult (unlocked (dispatch request_of reply_of) locks) keys region job h (Ok v) → IsAnswered request_of reply_of keys region h job.inner.request
  shard_answered job h v i =
      let g = i.0 in
      let r = subst (λ a. IsReplied reply_of (request_of job.inner.request) h a) (not_locked g.0 v g.2) g.1 in
      record { ticket = r.0; response = v; taken = r.1; clean = i.1; placed = i.2 }

  parts_answered : (attempts : ℕ) (h : List Event) (parts : List (Part (Shard R V))) (outcomes : List (Outcome V)) (items : List (Result V Error))
      → AllZip (λ p outcome. IsOutcome (unlocked (dispatch request_of reply_of) locks) keys region attempts p.region p.plan h outcome) parts outcomes
      → all_or_first outcomes ≡ Ok items → AreOk items → (p : Part (Shard R V)) → IsAmong parts p → IsAnswered request_of reply_of keys region h p.plan.inner.request
  parts_answered attempts h [] outcomes items z e ok p i = absurd i
  parts_answered attempts h (q ∷ parts) [] items z e ok p i = absurd z
  parts_answered attempts h (q ∷ parts) (Err why ∷ outcomes) items z e ok p i = cc
  parts_answered attempts h (q ∷ parts) (Ok r ∷ outcomes) items z e ok p i =
      let f = after_first r (all_or_first outcomes) items e in
      at r f.0 z.0 (subst AreOk f.2 ok) i (λ more. parts_answered attempts h parts outcomes f.0 z.1 f.1 more p)
    where
      at : (r : Result V Error) (rest : List (Result V Error)) → IsResult (unlocked (dispatch request_of reply_of) locks) keys region q.plan h r → AreOk (r ∷ rest) → IsAmong (q ∷ parts) p
          → (AreOk rest → IsAmong parts p → IsAnswered request_of reply_of keys region h p.plan.inner.request) → IsAnswered request_of reply_of keys region h p.plan.inner.request
      at (Ok v) rest is all (inl same) others = subst (λ (x : Part (Shard R V)). IsAnswered request_of reply_of keys region h x.plan.inner.request) same (shard_answered q.plan h v is)
      at (Ok v) rest is all (inr among) others = others all among
      at (Err why) rest is all among others = absurd all

module _ {R V H L : Type 0} (request_of : R → Request) (reply_of : V → Reply) (keys : V → List ErrorView) (region : V → Option RegionErr) (locks : V → List LockInfo) (is_part : R → R → Type 0) (load : R → L) (are_cut : L → List L → Type 0) (most : R → ℕ → ℕ) where
  pub answered : (s : RetryableMultiRegion (Shard R V) V H) (h : List Event) (results : Vec (Result V Error)) → s.preserve_region_results ≡ false
      → (over_regions request_of reply_of keys region locks is_part load are_cut most).gives s h (Ok results) → AreOk results.items
      → AreAnswered request_of reply_of keys region is_part load are_cut h s.inner.inner.request
  answered s h results e (inl g) ok = record {
    parts = g.0;
    cut = g.2.cut;
    belong = λ p i. all_among (λ (x : Part (Shard R V)). is_part x.plan.inner.request s.inner.inner.request) g.0 p g.2.belong i;
    each = λ p i. parts_answered request_of reply_of keys region locks (attempts_left s.backoff) h g.0 g.1 results.items g.2.each (subst (λ b. IsAnswer b g.1 (Ok results)) e g.3) ok p i;
  }
  answered s h results e (inr w) ok = let never = w.1 in cc

  -- it sends its parts, and looks for regions and stores
  pub sends : (s : RetryableMultiRegion (Shard R V) V H) (h : List Event) (r : Request) → (over_regions request_of reply_of keys region locks is_part load are_cut most).asks s h r
      → ((part : R) × is_part part s.inner.inner.request × (r ≡ request_of part)) ⊎ IsPlacement h r
  sends s h r (inl a) = inl (a.0.inner.request, a.1, a.2.1)
  sends s h r (inr p) = inr p
