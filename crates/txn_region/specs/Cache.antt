-- What a client believes of regions and stores, and how each call changes it.
use Rattle.std.specs.Prelude.{◌≡◌, ℕ, List, [], ◌∷◌, ◌++◌, Bool, true, false, not, ◌&&◌, if◌then◌else◌, nat_eq, nat_lt, Option, Some, None, is_none, Result, Ok, Err, ◌⊎◌, MatchOption, ⊤, map}
use Rattle.std.specs.List.{filter, list_any}
use Rattle.txn_kv.specs.ErrorView.{view_of}
use Rattle.txn_kv.specs.Region.{contains_key}
use Rattle.txn_kv.specs.declared.errors.Error.{Error}
use Rattle.txn_kv.specs.declared.errors.Error.TheVariants.{InternalError, OutOfMemory, RegionNotFoundInResponse, StringError}
use Rattle.txn_kv.specs.declared.errors.Internal.TheVariants.{WrongReply}
use Rattle.txn_kv.specs.declared.message.Peer.{Peer}
use Rattle.txn_kv.specs.declared.message.StoreMeta.{StoreMeta}
use Rattle.txn_kv.specs.declared.region.RegionVerId.{RegionVerId}
use Rattle.txn_kv.specs.declared.region.RegionWithLeader.{RegionWithLeader}
use Rattle.txn_region.specs.declared.known_store.KnownStore.{KnownStore}
use Rattle.txn_kv.specs.declared.look.Look.{Look}
use Rattle.txn_kv.specs.declared.look.Look.TheVariants.{Found, Query, Wait}
use Rattle.txn_kv.specs.declared.query.PdQuery.{PdQuery}
use Rattle.txn_kv.specs.declared.query.PdQuery.TheVariants as query
use Rattle.txn_kv.specs.declared.query.PdAnswer.{PdAnswer}
use Rattle.txn_kv.specs.declared.query.PdAnswer.TheVariants as answer
use Rattle.txn_region.specs.Regions.{Key, added, has_ver_id, in_order, led_if, region_of_id, region_of_key, region_refusal}
use Rattle.txn_region.specs.Stores.{known_as, store_of_id, valid_stores, with_stores}

pub record Cache : Type 0 where
  -- no two have a key in common; in ascending order of their starts
  pub regions : List RegionWithLeader
  pub stores : List KnownStore
  -- the ids of the regions that a look-up was begun for and has not ended
  pub pending : List ℕ

abbrev pub empty : Cache
empty = record { regions = []; stores = []; pending = [] }

-- Look-ups

-- what was found, or the query that has to be asked
abbrev pub found_or : {T : Type 0} → PdQuery → Option T → Look T
found_or q None = Query q
found_or q (Some x) = Found x

abbrev pub look_by_key : Key → Cache → Look RegionWithLeader
look_by_key key c = found_or (query.Region key) (region_of_key key c.regions)

abbrev pub look_at_store : ℕ → Cache → Look StoreMeta
look_at_store id c = found_or (query.Store id) (store_of_id id c.stores)

abbrev pub is_pending : ℕ → Cache → Bool
is_pending id c = list_any (λ p. nat_eq p id) c.pending

-- another call's look-up of this region is out, and the region is not known
abbrev pub is_awaited : ℕ → Cache → Bool
is_awaited id c = is_none (region_of_id id c.regions) && is_pending id c

abbrev pub query_or_wait : ℕ → Bool → Look RegionWithLeader
query_or_wait id awaited = if awaited then Wait else Query (query.RegionId id)

abbrev pub found_or_wait : ℕ → Bool → Option RegionWithLeader → Look RegionWithLeader
found_or_wait id pending None = query_or_wait id pending
found_or_wait id pending (Some r) = Found r

abbrev pub look_by_id : ℕ → Cache → Look RegionWithLeader
look_by_id id c = found_or_wait id (is_pending id c) (region_of_id id c.regions)

-- five waits were for nothing
abbrev pub is_spent : ℕ → ℕ → Cache → Bool
is_spent id waited c = is_awaited id c && not (nat_lt waited 5)

-- a query by id is out from now on
abbrev pub asked : ℕ → Cache → Cache
asked id c = record c { pending = c.pending ++ id ∷ [] }

abbrev pub asked_where : ℕ → Bool → Option RegionWithLeader → Cache → Cache
asked_where id pending None c = if pending then c else asked id c
asked_where id pending (Some r) c = c

abbrev pub after_look_by_id : ℕ → Cache → Cache
after_look_by_id id c = asked_where id (is_pending id c) (region_of_id id c.regions) c

-- why a look-up by id gives up
abbrev pub IsGivenUp : Bool → Error → Type 0
IsGivenUp true (StringError message) = ⊤
IsGivenUp true error = error ≡ OutOfMemory
IsGivenUp false error = error ≡ OutOfMemory

abbrev pub IsSoundLook : (RegionWithLeader → Type 0) → Look RegionWithLeader → Type 0
IsSoundLook sound (Found r) = sound r
IsSoundLook sound (Query q) = ⊤
IsSoundLook sound Wait = ⊤

-- Regions

abbrev pub with_region : RegionWithLeader → Cache → Cache
with_region new c = record c { regions = in_order (added new c.regions) }

abbrev pub with_leader : RegionVerId → Peer → Cache → Cache
with_leader v leader c = record c { regions = map (led_if v leader) c.regions }

abbrev pub without_region : RegionVerId → Cache → Cache
without_region v c = record c { regions = filter (λ r. not (has_ver_id v r)) c.regions }

-- Answers

-- the query is not out any more
abbrev pub cleared : PdQuery → Cache → Cache
cleared (query.RegionId id) c = record c { pending = filter (λ p. not (nat_eq p id)) c.pending }
cleared (query.Region key) c = c
cleared (query.Store id) c = c
cleared query.Stores c = c
cleared query.Time c = c
cleared (query.Safepoint time) c = c

-- why a region is not taken for an answer
abbrev pub or_elsewhere : Option Error → Bool → ℕ → Option Error
or_elsewhere (Some refusal) asked_for id = Some refusal
or_elsewhere None asked_for id = if asked_for then None else Some (RegionNotFoundInResponse id)

abbrev pub wrong_kind : Option Error
wrong_kind = Some (InternalError WrongReply)

-- why an answer to a query is refused, if there is a reason
abbrev pub answer_refusal : PdQuery → PdAnswer → Option Error
answer_refusal (query.Region key) (answer.Region r) = or_elsewhere (region_refusal r.region) (contains_key r.region key) r.region.id
answer_refusal (query.RegionId id) (answer.Region r) = or_elsewhere (region_refusal r.region) (nat_eq r.region.id id) id
answer_refusal (query.Store id) (answer.Store s) = None
answer_refusal query.Stores (answer.Stores ss) = None
answer_refusal query.Time (answer.Time t) = None
answer_refusal (query.Safepoint time) (answer.Safepoint t) = None
answer_refusal q a = wrong_kind

abbrev pub with_known : List KnownStore → Cache → Cache
with_known new c = record c { stores = with_stores new c.stores }

-- what an answer that is not refused adds: a store that was asked for counts whatever its state
abbrev pub learnt : PdQuery → PdAnswer → Cache → Cache
learnt (query.Region key) (answer.Region r) c = with_region r c
learnt (query.RegionId id) (answer.Region r) c = with_region r c
learnt (query.Store id) (answer.Store s) c = with_known (known_as id s ∷ []) c
learnt query.Stores (answer.Stores ss) c = with_known (valid_stores ss.items) c
learnt q a c = c

abbrev pub IsLearnt : PdQuery → Result PdAnswer Error → Cache → Cache → Type 0
IsLearnt q (Ok a) old new = (answer_refusal q a ≡ None) × (new ≡ learnt q a (cleared q old))
IsLearnt q (Err e) old new = ⊥

-- why an answer is not learnt: an error is passed on
abbrev pub IsRefusal : PdQuery → Result PdAnswer Error → Error → Type 0
IsRefusal q (Ok a) error = MatchOption (answer_refusal q a) (error ≡ OutOfMemory) (λ refusal. error ≡ refusal)
IsRefusal q (Err e) error = (error ≡ OutOfMemory) ⊎ (view_of error ≡ view_of e)

abbrev pub IsRegionRefusal : RegionWithLeader → Error → Type 0
IsRegionRefusal r error = MatchOption (region_refusal r.region) (error ≡ OutOfMemory) (λ refusal. error ≡ refusal)
