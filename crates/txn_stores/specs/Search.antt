-- The look-up of all stores.
use Rattle.std.specs.Prelude.{◌≡◌, ◌≢◌, ◌⊎◌, ⊤, ℕ, ◌≤◌, false, List, map, Result, Ok, Err}
use Rattle.std.specs.Global.{Vec}
use Rattle.std.specs.List.{filter}
use Rattle.txn_history.specs.Event.{Event}
use Rattle.txn_history.specs.Meaning.{Expects, IsLawful, Meaning}
use Rattle.txn_history.specs.Moves.{Knows, Moves}
use Rattle.txn_history.specs.Phase.{phase_after, Awaited}
use Rattle.txn_history.specs.Phase.Phase.{Over}
use Rattle.txn_history.specs.Posted.{Posted, Within}
use Rattle.txn_history.specs.Spends.{calls, sleeps}
use Rattle.txn_history.specs.Turn.{Turn}
use Rattle.txn_history.specs.Turn.Turn.{Stopped, Waits, Ends}
use Rattle.txn_kv.specs.declared.errors.Error.{Error}
use Rattle.txn_kv.specs.declared.errors.Error.TheVariants.{OutOfMemory}
use Rattle.txn_kv.specs.declared.message.StoreMeta.{StoreMeta}
use Rattle.txn_kv.specs.declared.query.PdAnswer.{PdAnswer}
use Rattle.txn_kv.specs.declared.query.PdAnswer.TheVariants as answer
use Rattle.txn_kv.specs.declared.query.PdQuery.{PdQuery}
use Rattle.txn_kv.specs.declared.query.PdQuery.TheVariants as query
use Rattle.txn_plan.specs.LookUp.{looked_up, looked_up-lawful}
use Rattle.txn_region.specs.Clients.{IsRefused}
use Rattle.txn_region.specs.Stores.{is_valid_store}
use Rattle.txn_region.specs.declared.store.Store.{Store}
use Rattle.txn_search.specs.Search.{search_phase, search_runs, search_waits, something, was_posted, IsOut, SearchAt, SearchAt-longer}
use Rattle.txn_search.specs.declared.search_stage.SearchStage.TheVariants as stage
use Rattle.txn_stores.specs.declared.store_search.StoreSearch.{StoreSearch}
use Rattle.txn_tso.specs.Calling.{CallFits, MayAsk}
use Rattle.txn_tso.specs.Placement.{fresh}
use Rattle.txn_tso.specs.declared.pd_call.PdCall.{PdCall}

-- the ids of the stores that transactions are sent to, of all these
abbrev pub stores_in : List StoreMeta → List ℕ
stores_in all = map (λ s. s.id) (filter is_valid_store all)

-- What is made of what came of the look-up: the stores of the answer, or why it was refused, or that memory was wanting.
abbrev pub IsSearched : Result PdAnswer Error → Result (Vec Store) Error → Type 0
IsSearched told (Ok stores) = (all : Vec StoreMeta) × (told ≡ Ok (answer.Stores all)) × (map (λ s. s.id) stores.items ≡ stores_in all.items)
IsSearched told (Err why) = (why ≡ OutOfMemory) ⊎ IsRefused query.Stores told why

-- the stores of an answer to the query for all stores that was taken, or why there was none
abbrev pub GivesStores : List Event → Result (Vec Store) Error → Type 0
GivesStores h (Ok stores) = (all : Vec StoreMeta) × looked_up.gives (fresh query.Stores) h (Ok (answer.Stores all)) × (map (λ s. s.id) stores.items ≡ stores_in all.items)
GivesStores h (Err why) = (told : Result PdAnswer Error) × looked_up.gives (fresh query.Stores) h told × IsRefused query.Stores told why

-- for all stores
abbrev pub IsStoresQuery : PdQuery → Type 0
IsStoresQuery q = q ≡ query.Stores

-- It asks the placement driver alone, which is no call of a store.
abbrev pub searching : Meaning StoreSearch (Result (Vec Store) Error)
searching = record {
  fits = λ s o h. SearchAt s.stage o h;
  asks = λ s h r. MayAsk (fresh query.Stores) h r;
  gives = λ s h v. GivesStores h v;
  phase = λ s. search_phase s.stage;
  waits = λ s a. search_waits s.stage a;
  ready = λ s. IsOut IsStoresQuery s.stage;
  round = λ s n. 0;
  left = λ s n. 0;
  width = λ s. 0;
  bears = λ s w. ⊤;
  fails = λ v. false;
}

-- what is known once the look-up has heard an event, which ended so
abbrev pub IsHeard : PdCall → Turn (Result PdAnswer Error) → Posted → List Event → Type 0
IsHeard call turn o h = Knows turn (λ k. CallFits call o k) (λ k v. looked_up.gives (fresh query.Stores) k v) h

-- The search goes on, after what is known: it asks, or waits, or ends. So far it waited for what `was` says.
pub record SearchesOn (known : List Event → Type 0) (was : Awaited → Type 0) (new : StoreSearch) (from to : Posted) (turn : Turn (Result (Vec Store) Error)) : Type 0 where
  pub moves : Moves (MayAsk (fresh query.Stores)) known (λ h. SearchAt new.stage to h) (λ h v. GivesStores h v) (λ h. h) from to turn
  pub expects : Expects was (search_waits new.stage) (λ a. ⊥) from to
  pub next : search_phase new.stage ≡ phase_after turn
  pub ready : IsOut IsStoresQuery new.stage
  pub calls : calls to ≤ calls from
  pub sleeps : sleeps to ≤ sleeps from

-- the error is the answer, but for want of memory
abbrev pub IsRefusal : Error → StoreSearch → Turn (Result (Vec Store) Error) → Type 0
IsRefusal e new Stopped = new.stage ≡ stage.Stopped
IsRefusal e new Waits = ⊥
IsRefusal e new (Ends v) = (new.stage ≡ stage.Over) × (v ≡ Err e) × (e ≢ OutOfMemory)

-- lemmas

gives_longer : (h longer : List Event) (v : Result (Vec Store) Error) → Within h longer → GivesStores h v → GivesStores longer v
gives_longer h longer (Ok stores) w g = (g.0, looked_up-lawful.gives_longer (fresh query.Stores) h longer (Ok (answer.Stores g.0)) w g.1, g.2)
gives_longer h longer (Err why) w g = (g.0, looked_up-lawful.gives_longer (fresh query.Stores) h longer g.0 w g.1, g.2)

pub searching-lawful : IsLawful searching
searching-lawful = record {
  fits_longer = λ s o p h longer l w f. SearchAt-longer s.stage o p h longer l w f;
  gives_longer = λ s h longer v w g. gives_longer h longer v w g;
  bears_more = λ s w more l b. tt;
  runs = λ s a w. search_runs s.stage a w;
  waits = λ s o h f e. something s.stage e;
  posted = λ s o h a f w. was_posted s.stage o h a f w;
}
