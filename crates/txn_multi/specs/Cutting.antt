-- A plan whose request is being cut into shards.
use Rattle.std.specs.Prelude.{◌≡◌, ◌⊎◌, ⊤, ℕ, ◌≤◌, max, false, List, [], ◌∷◌, length, map, Some, Result, Ok, Err, refl}
use Rattle.std.proofs.Math.Nat.{le_refl}
use Rattle.std.specs.List.{All}
use Rattle.std.specs.Global.{Vec}
use Rattle.txn_history.specs.Event.{Event}
use Rattle.txn_history.specs.Meaning.{IsLawful, IsUnbegun, Meaning}
use Rattle.txn_history.specs.Posted.{Within}
use Rattle.txn_history.specs.Turn.{Turn}
use Rattle.txn_history.specs.Turn.Turn.{Stopped, Waits, Ends}
use Rattle.txn_kv.specs.declared.errors.Error.{Error}
use Rattle.txn_kv.specs.declared.query.PdAnswer.{PdAnswer}
use Rattle.txn_kv.specs.declared.query.PdQuery.{PdQuery}
use Rattle.txn_kv.specs.declared.request.Request.{Request}
use Rattle.txn_plan.specs.Applied.{IsApplied}
use Rattle.txn_plan.specs.LookUp.{looked_up, looked_up-lawful}
use Rattle.txn_region.specs.Clients.{IsPlaceQuery, IsRefused, IsUsable}
use Rattle.txn_region.specs.declared.store.RegionStore.{RegionStore}
use Rattle.txn_multi.specs.declared.part.Part.{Part}
use Rattle.txn_search.specs.Search.{search_phase, search_runs, search_waits, something, was_posted, SearchAt, SearchAt-longer}
use Rattle.txn_search.specs.declared.search_stage.SearchStage.{SearchStage}
use Rattle.txn_search.specs.declared.search_stage.SearchStage.TheVariants as stage
use Rattle.txn_shard.specs.declared.shard_list.ShardList.{ShardList}
use Rattle.txn_tso.specs.Calling.{members}
use Rattle.txn_tso.specs.Placement.{request_of}
use Rattle.txn_tso.specs.declared.pd_call.PdCall.{PdCall}

-- a plan, which of its shards are found, where their search stands, and how many shards were found so far
pub record Looking (S H : Type 0) : Type 0 where
  pub plan : S
  pub found : ShardList H
  pub stage : SearchStage
  pub width : ℕ

-- A part of a plan, which has not begun and may be started. It costs no more than the plan, and may have no more parts itself, one
-- at least.
pub record IsPartOf {S A : Type 0} (m : Meaning S A) (is_part : S → S → Type 0) (most : S → ℕ → ℕ) (whole part : S) : Type 0 where
  pub applied : IsApplied m whole part
  pub belongs : is_part part whole
  pub fewer : (n : ℕ) → max 1 (most part n) ≤ most whole n

-- The parts of a plan: together they are the whole. Where nothing is cut into more than n, there are no more than `most` says.
pub record ArePartsOf {S A L : Type 0} (m : Meaning S A) (is_part : S → S → Type 0) (load : S → L) (are_cut : L → List L → Type 0) (most : S → ℕ → ℕ) (whole : S) (parts : List (Part S)) : Type 0 where
  pub each : All (λ p. IsPartOf m is_part most whole p.plan) parts
  pub cut : are_cut (load whole) (map (λ p. load p.plan) parts)
  pub few : (n : ℕ) → length parts ≤ n → length parts ≤ most whole n

-- each shard that was found goes to the store of a region that requests can be made for
abbrev pub AreUsable : {H : Type 0} → ShardList H → Type 0
AreUsable found = All (λ f. IsUsable f.1.region_with_leader) found.shards.items

-- Why not all shards were found: what came of a look-up of a place is refused.
pub record IsLookUpRefused (h : List Event) (why : Error) : Type 0 where
  pub call : PdCall
  pub place : IsPlaceQuery call.query
  pub answer : Result PdAnswer Error
  pub given : looked_up.gives call h answer
  pub refused : IsRefused call.query answer why

-- so of an error
abbrev pub UnfoundIfErr : {A : Type 0} → List Event → Result A Error → Type 0
UnfoundIfErr h (Ok x) = ⊤
UnfoundIfErr h (Err why) = IsLookUpRefused h why

-- the parts, where all shards were found
abbrev pub IfParts : {S A L : Type 0} → Meaning S A → (S → S → Type 0) → (S → L) → (L → List L → Type 0) → (S → ℕ → ℕ) → S → Result (Vec (Part S)) Error → Type 0
IfParts m is_part load are_cut most whole (Ok parts) = ArePartsOf m is_part load are_cut most whole parts.items
IfParts m is_part load are_cut most whole (Err why) = ⊤

-- what comes of the look-ups: the parts, or why not all shards were found
abbrev pub GivesParts : {S A L : Type 0} → Meaning S A → (S → S → Type 0) → (S → L) → (L → List L → Type 0) → (S → ℕ → ℕ) → S → List Event → Result (Vec (Part S)) Error → Type 0
GivesParts m is_part load are_cut most whole h v = IfParts m is_part load are_cut most whole v × UnfoundIfErr h v

-- no more parts than this
abbrev pub AreWithin : {S : Type 0} → ℕ → Result (Vec (Part S)) Error → Type 0
AreWithin n (Ok parts) = length parts.items ≤ n
AreWithin n (Err why) = ⊤

-- a request to the placement driver: for a region, a store or the members
abbrev pub IsPlacement : List Event → Request → Type 0
IsPlacement h r = ((q : PdQuery) × IsPlaceQuery q × (request_of q ≡ Some r)) ⊎ (r ≡ members)

-- The search of the shards of a plan that has not begun. It asks the placement driver alone, which is no call of a store.
abbrev pub cutting : {S A H L : Type 0} → Meaning S A → (S → S → Type 0) → (S → L) → (L → List L → Type 0) → (S → ℕ → ℕ) → Meaning (Looking S H) (Result (Vec (Part S)) Error)
cutting m is_part load are_cut most = record {
  fits = λ c o h. SearchAt c.stage o h;
  asks = λ c h r. IsPlacement h r;
  gives = λ c h v. GivesParts m is_part load are_cut most c.plan h v;
  phase = λ c. search_phase c.stage;
  waits = λ c a. search_waits c.stage a;
  ready = λ c. IsUnbegun m c.plan;
  round = λ c n. 0;
  left = λ c n. 0;
  width = λ c. c.width;
  bears = λ c w. ⊤;
  fails = λ v. false;
}

-- the error is the answer, but for want of memory
abbrev pub IsRefusal : {A : Type 0} → Error → Turn (Result A Error) → Type 0
IsRefusal e Stopped = ⊤
IsRefusal e Waits = ⊥
IsRefusal e (Ends v) = v ≡ Err e

-- the plan with each of these shards
abbrev pub AreApplied : {S H : Type 0} → (S → H → RegionStore → S → Type 0) → S → List (H × RegionStore) → List (Part S) → Type 0
AreApplied applies whole [] [] = ⊤
AreApplied applies whole [] (p ∷ ps) = ⊥
AreApplied applies whole (f ∷ fs) [] = ⊥
AreApplied applies whole (f ∷ fs) (p ∷ ps) = applies whole f.0 f.1 p.plan × AreApplied applies whole fs ps

-- lemmas

pub IsLookUpRefused-longer : (h longer : List Event) (why : Error) → Within h longer → IsLookUpRefused h why → IsLookUpRefused longer why
IsLookUpRefused-longer h longer why w r =
    record { call = r.call; place = r.place; answer = r.answer; given = looked_up-lawful.gives_longer r.call h longer r.answer w r.given; refused = r.refused }

UnfoundIfErr-longer : {A : Type 0} (h longer : List Event) (v : Result A Error) → Within h longer → UnfoundIfErr h v → UnfoundIfErr longer v
UnfoundIfErr-longer h longer (Ok x) w u = tt
UnfoundIfErr-longer h longer (Err why) w u = IsLookUpRefused-longer h longer why w u

pub cutting-lawful : {S A H L : Type 0} (m : Meaning S A) (is_part : S → S → Type 0) (load : S → L) (are_cut : L → List L → Type 0) (most : S → ℕ → ℕ) → IsLawful (cutting {H = H} m is_part load are_cut most)
cutting-lawful m is_part load are_cut most = record {
  fits_longer = λ c o p h longer l w f. SearchAt-longer c.stage o p h longer l w f;
  gives_longer = λ c h longer v w g. (g.0, UnfoundIfErr-longer h longer v w g.1);
  bears_more = λ c w more l b. tt;
  runs = λ c a w. search_runs c.stage a w;
  waits = λ c o h f e. something c.stage e;
  posted = λ c o h a f w. was_posted c.stage o h a f w;
}

-- where no look-up was made yet
pub cutting-unbegun : {S A H L : Type 0} (m : Meaning S A) (is_part : S → S → Type 0) (load : S → L) (are_cut : L → List L → Type 0) (most : S → ℕ → ℕ) (c : Looking S H) → c.stage ≡ stage.Fresh → IsUnbegun (cutting m is_part load are_cut most) c
cutting-unbegun m is_part load are_cut most c e = record {
  phase = rw e refl;
  fits = λ o h. rw e tt;
  whole = λ n. le_refl 0;
  light = λ w. tt;
}
