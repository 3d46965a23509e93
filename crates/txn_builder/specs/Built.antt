-- A request that is sent to one store.
use Rattle.std.specs.Prelude.{◌≡◌, Some, Ok}
use Rattle.txn_kv.specs.Region.{context_of}
use Rattle.txn_kv.specs.declared.message.Context.{Context}
use Rattle.txn_kv.specs.declared.request.Request.{Request}
use Rattle.txn_plan.specs.declared.dispatch.Dispatch.{Dispatch}
use Rattle.txn_region.specs.declared.store.RegionStore.{RegionStore}
use Rattle.txn_kv.specs.Request.{with_context}

-- its context is that of the store's region, but for the api version, which it keeps, and it goes to that store
pub record IsAimed {R V : Type 0} (request_of : R → Request) (old : Dispatch R V) (store : RegionStore) (new : Dispatch R V) : Type 0 where
  pub context : Context
  pub known : context_of store.region_with_leader ≡ Ok context
  pub asked : request_of new.request ≡ with_context context (request_of old.request)
  pub goes : new.store ≡ Some store.store
  pub stage : new.stage ≡ old.stage
