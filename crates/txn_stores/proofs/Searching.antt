-- The look-up of all stores, call by call.
use Rattle.std.proofs.Common.{◌≡◌, ◌≢◌, inl, inr, ℕ, ◌+◌, ◌≤◌, Bool, false, List, refl, sym, ap, subst, arith}
use Rattle.std.specs.Prelude.{⊤, Result, Ok, Err}
use Rattle.std.specs.Global.{Vec}
use Rattle.std.proofs.Math.Nat.{le_refl, le_trans}
use Rattle.std.proofs.lemmas.Bool.{false≢true}
use Rattle.txn_history.specs.Arrivals.{arrives, awaited_as, tells_failure, told_by}
use Rattle.txn_history.specs.Event.{Event}
use Rattle.txn_history.specs.Meaning.{started, Counts, Expects, Tells, Told}
use Rattle.txn_history.specs.Moves.{Moves-before, Moves-map, Moves-quiet, Moves-then}
use Rattle.txn_history.specs.Phase.{Awaited, unheard}
use Rattle.txn_history.specs.Phase.Phase.{Fresh}
use Rattle.txn_history.specs.Posted.{HasNumbers, Posted, Within-refl}
use Rattle.txn_history.specs.Spends.{Spends, calls, sleeps, spare}
use Rattle.txn_history.specs.Steps.{begins, Steps}
use Rattle.txn_history.specs.Turn.{is_kept, IfKept-out, Turn}
use Rattle.txn_history.specs.Turn.Turn.{Stopped, Waits, Ends}
use Rattle.txn_history.proofs.Arriving.{Steps-deaf}
use Rattle.txn_history.proofs.Counting.{spare-more}
use Rattle.txn_history.proofs.Numbering.{Moves-numbers}
use Rattle.txn_history.proofs.Stepping.{Goes-meant, Steps-idle}
use Rattle.txn_history.proofs.Telling.{Expects-quiet, Expects-then}
use Rattle.txn_kv.specs.declared.arrival.Arrival.{Arrival}
use Rattle.txn_kv.specs.declared.errors.Error.{Error}
use Rattle.txn_kv.specs.declared.errors.Error.TheVariants.{OutOfMemory}
use Rattle.txn_kv.specs.declared.query.PdAnswer.{PdAnswer}
use Rattle.txn_kv.specs.declared.query.PdQuery.{PdQuery}
use Rattle.txn_kv.specs.declared.query.PdQuery.TheVariants as query
use Rattle.txn_kv.specs.declared.request.Request.{Request}
use Rattle.txn_plan.specs.LookUp.{call_waits, fresh-unbegun, looked_up}
use Rattle.txn_plan.proofs.LastPosted.{calls_none, never_fails}
use Rattle.txn_region.specs.Clients as clients
use Rattle.txn_region.specs.declared.store.Store.{Store}
use Rattle.txn_search.specs.Search.{search_phase, search_waits, tells_loss, Holds, IsOut, IsTaken}
use Rattle.txn_search.specs.declared.search_stage.SearchStage.TheVariants as search
use Rattle.txn_search.specs.declared.search_stage.SearchStage.{SearchStage}
use Rattle.txn_search.proofs.Held.{held_at, held_fits, held_out, held_query, held_runs, held_waits, loss_fails, waits_held}
use Rattle.txn_stores.specs.Search.{searching, searching-lawful, GivesStores, IsHeard, IsRefusal, IsSearched, IsStoresQuery, SearchesOn}
use Rattle.txn_stores.specs.declared.store_search.StoreSearch.{StoreSearch}
use Rattle.txn_tso.specs.Calling.{CallFits, IsRefused, IsTold, MayAsk}
use Rattle.txn_tso.specs.Counting.{asks_of, CallSpends}
use Rattle.txn_tso.specs.Placement.{fresh}
use Rattle.txn_tso.specs.declared.pd_call.PdCall.{PdCall}

-- the look-up is that of all stores

asks_stores : (call : PdCall) (h : List Event) (r : _) → call.query ≡ query.Stores → MayAsk call h r → MayAsk (fresh query.Stores) h r
asks_stores call h r e (inl a) = inl (rw e at a)
asks_stores call h r e (inr a) = inr a

gives_stores : (call : PdCall) (h : List Event) (v : Result PdAnswer Error) → call.query ≡ query.Stores → looked_up.gives call h v → looked_up.gives (fresh query.Stores) h v
gives_stores call h (Ok a) e g = (g.0, subst (λ (q : PdQuery). IsTold q g.0 h a) e g.1)
gives_stores call h (Err why) e g = (g.0, subst (λ (q : PdQuery). IsRefused q g.0 h why) e g.1)

-- The steps of the search.

-- it gave up, and nothing was posted
pub stopped : {known : List Event → Type 0} {was : Awaited → Type 0} {c : StoreSearch} {o : Posted} → c.stage ≡ search.Stopped → SearchesOn known was c o o Stopped
stopped {c = c} e = record {
  moves = Moves-quiet refl tt tt;
  expects = Expects-quiet (λ a w. absurd (rw e at w));
  next = ap search_phase e;
  ready = rw e tt;
  calls = le_refl _;
  sleeps = le_refl _;
}

-- it has answered
pub ended : {known : List Event → Type 0} {was : Awaited → Type 0} {new : StoreSearch} {o : Posted} (v : Result (Vec Store) Error)
    → new.stage ≡ search.Over → ((h : List Event) → known h → GivesStores h v)
    → SearchesOn known was new o o (Ends v)
ended v over gives = record {
  moves = Moves-quiet refl (λ h k. rw over tt) gives;
  expects = Expects-quiet (λ a w. absurd (rw over at w));
  next = ap search_phase over;
  ready = rw over tt;
  calls = le_refl _;
  sleeps = le_refl _;
}

-- it waits for what was posted before
pub waiting : {new : StoreSearch} {call : PdCall} {o : Posted} {known : List Event → Type 0} → call.query ≡ query.Stores → Holds call new.stage
    → ((h : List Event) → known h → CallFits call o h)
    → SearchesOn known (call_waits call.stage) new o o Waits
waiting {new = new} {call = call} {o = o} e held fits = record {
  moves = Moves-quiet refl (λ h f. held_at call new.stage o h held (fits h f)) tt;
  expects = Expects-quiet (λ a w. (waits_held call new.stage a held w, λ x. x));
  next = held_runs call new.stage held;
  ready = held_out IsStoresQuery call new.stage e held;
  calls = le_refl _;
  sleeps = le_refl _;
}

-- an event of the look-up is an event of the search
pub heard : {told : Told} {old new : StoreSearch} {g : SearchStage} {a : Awaited} {call call' : PdCall} {from via to : Posted} {p : Turn (Result PdAnswer Error)} {turn : Turn (Result (Vec Store) Error)}
    → IsOut IsStoresQuery old.stage → IsTaken a old.stage g call
    → Tells looked_up told call call' from via p
    → SearchesOn (λ h. IsHeard call' p via h) (call_waits call'.stage) new via to turn
    → Tells searching told old new from to turn
heard {told = told} {old = old} {call = call} {call' = call'} {from = from} {via = via} out taken t s =
    let stores : call.query ≡ query.Stores = held_query IsStoresQuery call old.stage out taken.held in
    let e = t.expects in
    let first : Expects (search_waits old.stage) (call_waits call'.stage) told.heard from via =
    record { sends = e.sends; pushed = e.pushed; only = λ b w. elim (e.only b w) [ inl x ↦ inl (held_waits call old.stage b taken.held x.0, x.1) | inr x ↦ inr x ] } in
    record {
      moves = Moves-then (Moves-map told.within (λ h f. (held_fits call old.stage from h taken.held f.0, f.1)) (λ h f k r x. asks_stores call k r stores x) (λ h f k w i. i) (λ h f k v g. gives_stores call k v stores g) t.moves) s.moves;
      job = record { asked = λ h r x. x; given = λ h v g. g; gave = λ h v g. g };
      expects = Expects-then first s.expects;
    }

-- no call of a store is made
pub counted : {bad fails : Bool} {weight locked : ℕ} {old new : StoreSearch} {from to : Posted} {turn : Turn (Result (Vec Store) Error)}
    → calls to ≤ calls from → sleeps to ≤ sleeps from + spare fails false 1
    → Counts searching bad fails weight locked old new from to turn
counted {bad = bad} {fails = fails} {weight = weight} {locked = locked} {from = from} {to = to} {turn = turn} few awake = record {
  spends = subst (λ (f : Bool). Spends (λ w. ⊤) (λ w. ⊤) (λ n. 0) (λ n. 0) (λ n. 0) bad fails weight locked 0 0 from to (is_kept turn) f) (sym (never_fails turn)) (record {
    wider = le_refl 0;
    bears = λ k w u. tt;
    allowed = λ k f. absurd (false≢true f);
    spends = λ k n w u l b. omega arith;
    stopped = λ n w u l b. omega arith;
    rests = λ k. omega arith;
    stopped_rests = omega arith;
  });
  fewer = λ n. le_refl 0;
}

-- it sends its first try
pub asked : {new : StoreSearch} {call call' : PdCall} {from to : Posted} {turn : Turn (Result (Vec Store) Error)} (p : Turn (Result PdAnswer Error))
    → call ≡ fresh query.Stores → p ≢ Stopped
    → Tells looked_up started call call' from to p
    → CallSpends call call' false from to p
    → SearchesOn (λ h. CallFits call' to h) (call_waits call'.stage) new to to turn
    → SearchesOn (λ h. ⊤) (λ a. ⊥) new from to turn
asked {call = call} {call' = call'} {from = from} {to = to} p e kept t spent s =
    let x = t.expects in
    let first : Expects (λ a. ⊥) (call_waits call'.stage) (λ a. ⊥) from to =
    record { sends = x.sends; pushed = x.pushed; only = λ a w. elim (x.only a w) [ inl y ↦ absurd (rw e at y.0) | inr y ↦ inr y ] } in
    record {
      moves = Moves-then (Moves-map {gives' = λ h v. ⊤} Within-refl (λ h k. (rw e (let u = fresh-unbegun query.Stores in u.fits from h), tt)) (λ h f k r a. asks_stores call k r (ap (λ (c : PdCall). c.query) e) a) (λ h f k w i. i) (λ h f k v g. tt) t.moves)
          (Moves-before (λ h k. IfKept-out p kept k.0) s.moves);
      expects = Expects-then first s.expects;
      next = s.next;
      ready = s.ready;
      calls = le_trans s.calls (calls_none false call call' from to p (ap (λ (c : PdCall). asks_of c.query) e) spent);
      sleeps = let y = spent.stopped_rests in let z = s.sleeps in omega arith;
    }

-- what came is for its look-up
pub Search-steps : {C : Type 0} (a : Arrival) {old new : StoreSearch} {g : SearchStage} {call call' : PdCall} {from via to : Posted} {pd pd' : C} {p : Turn (Result PdAnswer Error)} {turn : Turn (Result (Vec Store) Error)}
    → IsOut IsStoresQuery old.stage → IsTaken (awaited_as a) old.stage g call
    → ((r : Request) → Tells looked_up (told_by a from r) call call' from via p)
    → CallSpends call call' (tells_loss a) from via p
    → HasNumbers via
    → SearchesOn (λ h. IsHeard call' p via h) (call_waits call'.stage) new via to turn
    → Steps searching (λ told o s t x y. ⊤) (arrives a from) old new from to pd pd' turn
unfolding arrives
Search-steps a {old = old} {call = call} {call' = call'} {from = from} {via = via} {p = p} out taken t spent numbers s = record {
  tells = λ r. heard out taken (t r) s;
  goes = Goes-meant taken.waits s.next;
  counts = counted (le_trans s.calls (calls_none (tells_loss a) call call' from via p (ap asks_of (held_query IsStoresQuery call old.stage out taken.held)) spent))
      (let x = s.sleeps in let y = spent.stopped_rests in let z = spare-more (tells_loss a) (tells_failure a) false 1 (loss_fails a) in omega arith);
  client = λ r. tt;
  ready = s.ready;
  numbers = Moves-numbers s.moves numbers;
}

-- what came is not for it
pub Search-deaf : {C : Type 0} (a : Arrival) {old : StoreSearch} {g : SearchStage} {o : Posted} {pd : C} {turn : Turn (Result (Vec Store) Error)}
    → IsOut IsStoresQuery old.stage → HasNumbers o
    → (g ≡ old.stage) × (search_waits old.stage (awaited_as a) → ⊥)
    → turn ≡ unheard (search_phase g)
    → Steps searching (λ told o s t x y. ⊤) (arrives a o) old (record old { stage = g }) o o pd pd turn
Search-deaf a ready numbers stays e = rw stays.0 (Steps-deaf a searching-lawful stays.1 (rw stays.0 at e) (λ r. tt) ready numbers)

-- it begins
pub Search-begins : {C : Type 0} {old new : StoreSearch} {from to : Posted} {pd pd' : C} {turn : Turn (Result (Vec Store) Error)}
    → HasNumbers from
    → old.stage ≡ search.Fresh
    → SearchesOn (λ h. ⊤) (λ a. ⊥) new from to turn
    → Steps searching (λ told o s t x y. ⊤) begins old new from to pd pd' turn
unfolding begins
Search-begins numbers fresh s = let e = s.expects in record {
  tells = λ r. record {
    moves = Moves-before (λ h k. tt) s.moves;
    job = record { asked = λ h q x. x; given = λ h v g. g; gave = λ h v g. g };
    expects = record { sends = e.sends; pushed = e.pushed; only = λ a w. elim (e.only a w) [ inl x ↦ absurd x.0 | inr x ↦ inr x ] };
  };
  goes = Goes-meant (ap search_phase fresh) s.next;
  counts = counted s.calls (let x = s.sleeps in omega arith);
  client = λ r. tt;
  ready = s.ready;
  numbers = Moves-numbers s.moves numbers;
}

-- it has begun before
pub Search-begun : {C : Type 0} {old : StoreSearch} {o : Posted} {pd : C} {turn : Turn (Result (Vec Store) Error)}
    → IsOut IsStoresQuery old.stage → HasNumbers o
    → (search_phase old.stage ≡ Fresh → ⊥)
    → turn ≡ unheard (search_phase old.stage)
    → Steps searching (λ told o s t x y. ⊤) begins old old o o pd pd turn
unfolding begins
Search-begun ready numbers other e = Steps-idle searching-lawful other (λ r a heard w. heard) e (λ r. tt) ready numbers

-- it rests on less
pub from_less : {known more : List Event → Type 0} {was : Awaited → Type 0} {new : StoreSearch} {from to : Posted} {turn : Turn (Result (Vec Store) Error)}
    → ((h : List Event) → more h → known h)
    → SearchesOn known (λ a. ⊥) new from to turn
    → SearchesOn more was new from to turn
from_less w s =
    let e = s.expects in record {
      moves = Moves-before w s.moves;
      expects = record { sends = e.sends; pushed = e.pushed; only = λ a v. elim (e.only a v) [ inl x ↦ absurd x.0 | inr p ↦ inr p ] };
      next = s.next;
      ready = s.ready;
      calls = s.calls;
      sleeps = s.sleeps;
    }

not_starved : (told : Result PdAnswer Error) (why : Error) → why ≢ OutOfMemory → IsSearched told (Err why) → clients.IsRefused query.Stores told why
not_starved told why other (inl e) = absurd (other e)
not_starved told why other (inr i) = i

-- what came of the look-up is refused
pub refused : (told : Result PdAnswer Error) (why : Error) (new : StoreSearch) (o : Posted) (turn : Turn (Result (Vec Store) Error))
    → IsSearched told (Err why) → IsRefusal why new turn
    → SearchesOn (λ h. looked_up.gives (fresh query.Stores) h told) (λ a. ⊥) new o o turn
refused told why new o Stopped s i = stopped i
refused told why new o Waits s i = absurd i
refused told why new o (Ends v) s i = rw i.1 (ended (Err why) i.0 (λ h k. (told, k, not_starved told why i.2 s)))

-- the stores of the answer are the answer
pub found : (told : Result PdAnswer Error) (stores : Vec Store) (new : StoreSearch) (o : Posted)
    → new.stage ≡ search.Over → IsSearched told (Ok stores)
    → SearchesOn (λ h. looked_up.gives (fresh query.Stores) h told) (λ a. ⊥) new o o (Ends (Ok stores))
found told stores new o over s = ended {known = λ h. looked_up.gives (fresh query.Stores) h told} (Ok stores) over (λ h k. (s.0, subst (λ (v : Result PdAnswer Error). looked_up.gives (fresh query.Stores) h v) s.1 k, s.2))
