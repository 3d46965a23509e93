-- The look-up of a key's place, call by call.
use Rattle.std.proofs.Common.{◌≡◌, ◌≢◌, ◌⊎◌, inl, inr, ℕ, ◌+◌, ◌≤◌, Bool, true, false, List, refl, sym, ap, subst, ◌∙◌, arith}
use Rattle.std.specs.Prelude.{⊤, Result, Err}
use Rattle.std.proofs.Math.Nat.{le_refl, le_trans}
use Rattle.std.proofs.lemmas.Bool.{false≢true}
use Rattle.txn_history.specs.Arrivals.{arrives, awaited_as, tells_failure, told_by}
use Rattle.txn_history.specs.Event.{Event}
use Rattle.txn_history.specs.Meaning.{started, Counts, Expects, Tells, Told}
use Rattle.txn_history.specs.Moves.{Knows, Moves, Moves-before, Moves-map, Moves-quiet, Moves-then}
use Rattle.txn_history.specs.Phase.{phase_after, Awaited, unheard}
use Rattle.txn_history.specs.Phase.Phase.{Fresh}
use Rattle.txn_history.specs.Plan.{Key}
use Rattle.txn_history.specs.Posted.{HasNumbers, Posted, Within-refl}
use Rattle.txn_history.specs.Spends.{calls, sleeps, spare}
use Rattle.txn_history.specs.Steps.{begins, Steps}
use Rattle.txn_history.specs.Turn.{failing, IfKept, IfKept-out, Turn}
use Rattle.txn_history.specs.Turn.Turn.{Stopped, Waits, Ends}
use Rattle.txn_history.proofs.Arriving.{Steps-deaf}
use Rattle.txn_history.proofs.Counting.{spare-more}
use Rattle.txn_history.proofs.Numbering.{Moves-numbers}
use Rattle.txn_history.proofs.Stepping.{Goes-meant, Steps-idle}
use Rattle.txn_history.proofs.Telling.{Expects-quiet, Expects-then}
use Rattle.txn_kv.specs.declared.arrival.Arrival.{Arrival}
use Rattle.txn_kv.specs.declared.errors.Error.{Error}
use Rattle.txn_kv.specs.declared.errors.Error.TheVariants.{OutOfMemory}
use Rattle.txn_kv.specs.declared.query.PdAnswer.{PdAnswer}
use Rattle.txn_kv.specs.declared.query.PdQuery.{PdQuery}
use Rattle.txn_kv.specs.declared.request.Request.{Request}
use Rattle.txn_plan.specs.LookUp.{call_waits, fresh-unbegun, looked_up}
use Rattle.txn_plan.specs.Touch.{Touch}
use Rattle.txn_plan.proofs.LastPosted.{calls_none}
use Rattle.txn_region.specs.Clients.{IsPlaceQuery, IsRefused, OrStarved}
use Rattle.txn_search.specs.Search.{search_phase, search_waits, tells_loss, Holds, IsOut, IsTaken, SearchAt, Seeks}
use Rattle.txn_search.specs.declared.search_stage.SearchStage.TheVariants as search
use Rattle.txn_search.specs.declared.search_stage.SearchStage.{SearchStage}
use Rattle.txn_search.proofs.Held.{asks_none, held_at, held_fits, held_out, held_query, held_runs, held_waits, loss_fails, waits_held}
use Rattle.txn_settle.specs.Search.{is_lost, searching, searching-lawful, AsksPlace, GivesPlace, IsRefusal, SearchesOn, UnlessStopped}
use Rattle.txn_settle.proofs.Losses.{refused_lost}
use Rattle.txn_settle.specs.declared.key_search.KeySearch.{KeySearch}
use Rattle.txn_tso.specs.Calling.{CallFits}
use Rattle.txn_tso.specs.Counting.{is_loss, CallSpends, is_kept as query_kept}
use Rattle.txn_tso.specs.Placement.{fresh}
use Rattle.txn_tso.specs.declared.pd_call.PdCall.{PdCall}

-- want of memory is no answer
unless_starved : {P : Type 0} {why : Error} → why ≢ OutOfMemory → (why ≡ OutOfMemory) ⊎ P → P
unless_starved fed (inl starved) = absurd (fed starved)
unless_starved fed (inr p) = p

-- What an answer that is a loss leaves.

lost_kept : (p : Turn (Result PdAnswer Error)) → failing is_loss p ≡ true → query_kept p ≡ true
lost_kept Stopped f = absurd (false≢true f)
lost_kept Waits f = refl
lost_kept (Ends v) f = refl

spare_lost : (bad failed : Bool) → failed ≡ true → spare bad failed 1 ≡ 0
spare_lost true true e = refl
spare_lost true false e = absurd (false≢true e)
spare_lost false failed e = refl

lost_quiet : (call call' : PdCall) {bad : Bool} {from via : Posted} (p : Turn (Result PdAnswer Error)) → CallSpends call call' bad from via p → failing is_loss p ≡ true → sleeps via ≤ sleeps from
lost_quiet call call' {bad = bad} {from = from} {via = via} p spent f =
    let r : sleeps via ≤ sleeps from + spare bad (failing is_loss p) 1 + 0 = spent.rests (lost_kept p f) in
    let z = spare_lost bad (failing is_loss p) f in
    omega arith

rested : (fails failed : Bool) (from to : ℕ) → to ≤ from + spare fails false 1 → (failed ≡ true → to ≤ from) → to ≤ from + spare fails failed 1
rested fails true from to awake lost = let l = lost refl in omega arith
rested fails false from to awake lost = awake

-- What is made of the client.

unless_all : {P : Type 0} (g : SearchStage) → P → UnlessStopped g P
unless_all search.Fresh p = p
unless_all (search.Asking call n) p = p
unless_all (search.Resting call n) p = p
unless_all search.Over p = p
unless_all search.Stopped p = tt

never_given_up : {A : Type 0} (g : SearchStage) (turn : Turn A) → turn ≡ Stopped → search_phase g ≡ phase_after turn → g ≡ search.Stopped
never_given_up search.Fresh turn e next = cc
never_given_up (search.Asking call n) turn e next = cc
never_given_up (search.Resting call n) turn e next = cc
never_given_up search.Over turn e next = cc
never_given_up search.Stopped turn e next = refl

unless_kept : {A : Type 0} (P : Type 0) (g : SearchStage) (turn : Turn A) → search_phase g ≡ phase_after turn → IfKept turn P → UnlessStopped g P
unless_kept {A = A} P g Stopped e k = rw (never_given_up {A = A} g Stopped refl e) tt
unless_kept P g Waits e k = unless_all g k
unless_kept P g (Ends v) e k = unless_all g k

pub seeks_after : {C : Type 0} (t : Touch C) → ((a b c : C) → t.looked a b → t.looked b c → t.looked a c) → {old mid new : C} → t.looked old mid → Seeks t mid new → Seeks t old new
seeks_after t on l (inl s) = inl (on _ _ _ l s)
seeks_after t on l (inr s) = inr (record { query = s.query; answer = s.answer; before = s.before; behind = s.behind; looked = on _ _ _ l s.looked; learnt = s.learnt; further = s.further })

-- The steps of the look-up.
module _ {T : Type 0} (is_of : Key → T → Type 0) where
  -- it gave up, and nothing was posted
  pub stopped : {known : List Event → Type 0} {was : Awaited → Type 0} {c : KeySearch T} {lost : Bool} {o : Posted} → c.stage ≡ search.Stopped → SearchesOn is_of known was lost c c o o Stopped
  stopped {c = c} e = record {
    moves = Moves-quiet refl tt tt;
    expects = Expects-quiet (λ a w. absurd (rw e at w));
    next = ap search_phase e;
    ready = rw e tt;
    key = refl;
    fails = λ f. absurd (false≢true f);
    calls = le_refl _;
    sleeps = le_refl _;
  }

  -- it has answered
  pub ended : {known : List Event → Type 0} {was : Awaited → Type 0} {lost : Bool} {old new : KeySearch T} {o : Posted} (v : Result T Error)
      → new ≡ record old { stage = search.Over } → ((h : List Event) → known h → GivesPlace is_of old.key h v)
      → (is_lost v ≡ true → lost ≡ true)
      → SearchesOn is_of known was lost old new o o (Ends v)
  ended v e gives fails =
      let over = ap (λ (s : KeySearch T). s.stage) e in
      record {
        moves = Moves-quiet refl (λ h k. rw over tt) gives;
        expects = Expects-quiet (λ a w. absurd (rw over at w));
        next = ap search_phase over;
        ready = rw over tt;
        key = ap (λ (s : KeySearch T). s.key) e;
        fails = fails;
        calls = le_refl _;
        sleeps = le_refl _;
      }

  -- it waits for what was posted before
  pub waiting : {lost : Bool} {old new : KeySearch T} {call : PdCall} {o : Posted} → IsPlaceQuery call.query → Holds call new.stage → new ≡ record old { stage = new.stage }
      → SearchesOn is_of (λ h. CallFits call o h) (call_waits call.stage) lost old new o o Waits
  waiting {new = new} {call = call} {o = o} place held e = record {
    moves = Moves-quiet refl (λ h f. held_at call new.stage o h held f) tt;
    expects = Expects-quiet (λ a w. (waits_held call new.stage a held w, λ x. x));
    next = held_runs call new.stage held;
    ready = held_out IsPlaceQuery call new.stage place held;
    key = ap (λ (s : KeySearch T). s.key) e;
    fails = λ f. absurd (false≢true f);
    calls = le_refl _;
    sleeps = le_refl _;
  }

  -- it rests on less
  pub from_less : {known more : List Event → Type 0} {was : Awaited → Type 0} {less lost : Bool} {old new : KeySearch T} {from to : Posted} {turn : Turn (Result T Error)}
      → ((h : List Event) → more h → known h)
      → (less ≡ true → lost ≡ true)
      → SearchesOn is_of known (λ a. ⊥) less old new from to turn
      → SearchesOn is_of more was lost old new from to turn
  from_less w l s =
      let e = s.expects in record {
        moves = Moves-before w s.moves;
        expects = record { sends = e.sends; pushed = e.pushed; only = λ a v. elim (e.only a v) [ inl x ↦ absurd x.0 | inr p ↦ inr p ] };
        next = s.next;
        ready = s.ready;
        key = s.key;
        fails = λ f. l (s.fails f);
        calls = s.calls;
        sleeps = s.sleeps;
      }

  -- more is known
  pub knowing : {known more : List Event → Type 0} {was : Awaited → Type 0} {lost : Bool} {old new : KeySearch T} {from to : Posted} {turn : Turn (Result T Error)}
      → ((h : List Event) → more h → known h)
      → SearchesOn is_of known was lost old new from to turn
      → SearchesOn is_of more was lost old new from to turn
  knowing w s = record {
    moves = Moves-before w s.moves;
    expects = s.expects;
    next = s.next;
    ready = s.ready;
    key = s.key;
    fails = s.fails;
    calls = s.calls;
    sleeps = s.sleeps;
  }

  -- an event of the query is an event of the look-up
  pub heard : {told : Told} {lost : Bool} {old new : KeySearch T} {g : SearchStage} {a : Awaited} {call call' : PdCall} {from via to : Posted} {p : Turn (Result PdAnswer Error)} {turn : Turn (Result T Error)}
      → IsOut IsPlaceQuery old.stage → IsTaken a old.stage g call
      → Tells looked_up told call call' from via p
      → SearchesOn is_of (Knows p (λ h. CallFits call' via h) (λ h v. looked_up.gives call' h v)) (call_waits call'.stage) lost (record old { stage = g }) new via to turn
      → Tells (searching is_of) told old new from to turn
  heard {told = told} {old = old} {call = call} {call' = call'} {from = from} {via = via} out taken t s =
      let e = t.expects in
      let first : Expects (search_waits old.stage) (call_waits call'.stage) told.heard from via =
      record { sends = e.sends; pushed = e.pushed; only = λ b w. elim (e.only b w) [ inl x ↦ inl (held_waits call old.stage b taken.held x.0, x.1) | inr x ↦ inr x ] } in
      record {
        moves = Moves-then (Moves-map told.within (λ h f. (held_fits call old.stage from h taken.held f.0, f.1)) (λ h f k r x. (call, held_query IsPlaceQuery call old.stage out taken.held, x)) (λ h f k w i. i) (λ h f k v g. t.job.gave k v g) t.moves) s.moves;
        job = record { asked = λ h r x. x; given = λ h v g. subst (λ (q : Key). GivesPlace is_of q h v) s.key g; gave = λ h v g. subst (λ (q : Key). GivesPlace is_of q h v) (sym s.key) g };
        expects = Expects-then first s.expects;
      }

  -- No call of a store is made. An answer that is a loss leaves what was allowed for one.
  pub counted : {bad fails : Bool} {weight locked : ℕ} {old new : KeySearch T} {from to : Posted} {turn : Turn (Result T Error)}
      → calls to ≤ calls from → sleeps to ≤ sleeps from + spare fails false 1
      → (failing is_lost turn ≡ true → (fails ≡ true) × (sleeps to ≤ sleeps from))
      → Counts (searching is_of) bad fails weight locked old new from to turn
  counted {fails = fails} {locked = locked} {from = from} {to = to} {turn = turn} few awake lost = record {
    spends = record {
      wider = le_refl 0;
      bears = λ k w u. tt;
      allowed = λ k f. (lost f).0;
      spends = λ k n w u l b. omega arith;
      stopped = λ n w u l b. omega arith;
      rests = λ k. let r = rested fails (failing is_lost turn) (sleeps from) (sleeps to) awake (λ f. (lost f).1) in omega arith;
      stopped_rests = omega arith;
    };
    fewer = λ n. le_refl 0;
  }

  -- it sends its first try
  pub asked : {lost : Bool} {old new : KeySearch T} {call call' : PdCall} {from to : Posted} {turn : Turn (Result T Error)} (p : Turn (Result PdAnswer Error)) (q : PdQuery)
      → IsPlaceQuery q → call ≡ fresh q → p ≢ Stopped
      → Tells looked_up started call call' from to p
      → CallSpends call call' false from to p
      → SearchesOn is_of (λ h. CallFits call' to h) (call_waits call'.stage) lost old new to to turn
      → SearchesOn is_of (λ h. ⊤) (λ a. ⊥) lost old new from to turn
  asked {call = call} {call' = call'} {from = from} {to = to} p q place e kept t spent s =
      let x = t.expects in
      let asks : IsPlaceQuery call.query = subst (λ (c : PdCall). IsPlaceQuery c.query) (sym e) place in
      let first : Expects (λ a. ⊥) (call_waits call'.stage) (λ a. ⊥) from to =
      record { sends = x.sends; pushed = x.pushed; only = λ a w. elim (x.only a w) [ inl y ↦ absurd (rw e at y.0) | inr y ↦ inr y ] } in
      record {
        moves = Moves-then (Moves-map {gives' = λ h v. ⊤} Within-refl (λ h k. (rw e (let u = fresh-unbegun q in u.fits from h), tt)) (λ h f k r a. (call, asks, a)) (λ h f k w i. i) (λ h f k v g. tt) t.moves)
            (Moves-before (λ h k. IfKept-out p kept k.0) s.moves);
        expects = Expects-then first s.expects;
        next = s.next;
        ready = s.ready;
        key = s.key;
        fails = s.fails;
        calls = le_trans s.calls (calls_none false call call' from to p (asks_none call.query asks) spent);
        sleeps = let y = spent.stopped_rests in let z = s.sleeps in omega arith;
      }

  -- what came is for its query
  pub Search-steps : {C : Type 0} (t : Touch C) (a : Arrival) {old new : KeySearch T} {g : SearchStage} {call call' : PdCall} {from via to : Posted} {pd pd' : C} {p : Turn (Result PdAnswer Error)} {turn : Turn (Result T Error)}
      → IsOut IsPlaceQuery old.stage → IsTaken (awaited_as a) old.stage g call
      → ((r : Request) → Tells looked_up (told_by a from r) call call' from via p)
      → CallSpends call call' (tells_loss a) from via p
      → HasNumbers via
      → SearchesOn is_of (Knows p (λ h. CallFits call' via h) (λ h v. looked_up.gives call' h v)) (call_waits call'.stage) (failing is_loss p) (record old { stage = g }) new via to turn
      → IfKept turn (Seeks t pd pd')
      → Steps (searching is_of) (λ told o c c' x y. UnlessStopped c'.stage (Seeks t x y)) (arrives a from) old new from to pd pd' turn
  unfolding arrives
  Search-steps t a {old = old} {new = new} {call = call} {call' = call'} {from = from} {via = via} {pd = pd} {pd' = pd'} {p = p} {turn = turn} out taken told spent numbers s client =
      let awake = s.sleeps in record {
        tells = λ r. heard out taken (told r) s;
        goes = Goes-meant taken.waits s.next;
        counts = counted
            (le_trans s.calls (calls_none (tells_loss a) call call' from via p (asks_none call.query (held_query IsPlaceQuery call old.stage out taken.held)) spent))
            (let y = spent.stopped_rests in let z = spare-more (tells_loss a) (tells_failure a) false 1 (loss_fails a) in omega arith)
            (λ f. (loss_fails a (spent.allowed (lost_kept p (s.fails f)) (s.fails f)), le_trans awake (lost_quiet call call' p spent (s.fails f))));
        client = λ r. unless_kept (Seeks t pd pd') new.stage turn s.next client;
        ready = s.ready;
        numbers = Moves-numbers s.moves numbers;
      }

  -- what came is not for it
  pub Search-deaf : {C : Type 0} (t : Touch C) (a : Arrival) {old : KeySearch T} {g : SearchStage} {o : Posted} {pd : C} {turn : Turn (Result T Error)}
      → t.looked pd pd
      → IsOut IsPlaceQuery old.stage → HasNumbers o
      → (g ≡ old.stage) × (search_waits old.stage (awaited_as a) → ⊥)
      → turn ≡ unheard (search_phase g)
      → Steps (searching is_of) (λ told o c c' x y. UnlessStopped c'.stage (Seeks t x y)) (arrives a o) old (record old { stage = g }) o o pd pd turn
  Search-deaf t a {old = old} same ready numbers stays e =
      rw stays.0 (Steps-deaf a (searching-lawful is_of) stays.1 (rw stays.0 at e) (λ r. unless_all old.stage (inl same)) ready numbers)

  -- it begins
  pub Search-begins : {C : Type 0} (t : Touch C) {old mid new : KeySearch T} {from to : Posted} {pd pd' : C} {turn : Turn (Result T Error)}
      → t.looked pd pd'
      → HasNumbers from
      → old.stage ≡ search.Fresh → mid.key ≡ old.key
      → SearchesOn is_of (λ h. ⊤) (λ a. ⊥) false mid new from to turn
      → Steps (searching is_of) (λ told o c c' x y. UnlessStopped c'.stage (Seeks t x y)) begins old new from to pd pd' turn
  unfolding begins
  Search-begins t {old = old} {new = new} {from = from} {to = to} {turn = turn} looked numbers fresh key s = let e = s.expects in record {
    tells = λ r. record {
      moves = Moves-before (λ h k. tt) (subst (λ (q : Key). Moves AsksPlace (λ h. ⊤) (λ h. SearchAt new.stage to h) (λ h v. GivesPlace is_of q h v) (λ h. h) from to turn) key s.moves);
      job = record { asked = λ h q x. x; given = λ h v g. subst (λ (q : Key). GivesPlace is_of q h v) (s.key ∙ key) g; gave = λ h v g. subst (λ (q : Key). GivesPlace is_of q h v) (sym (s.key ∙ key)) g };
      expects = record { sends = e.sends; pushed = e.pushed; only = λ a w. elim (e.only a w) [ inl x ↦ absurd x.0 | inr x ↦ inr x ] };
    };
    goes = Goes-meant (ap search_phase fresh) s.next;
    counts = counted s.calls (let x = s.sleeps in omega arith) (λ f. absurd (false≢true (s.fails f)));
    client = λ r. unless_all new.stage (inl looked);
    ready = s.ready;
    numbers = Moves-numbers s.moves numbers;
  }

  -- it has begun before
  pub Search-begun : {C : Type 0} (t : Touch C) {old : KeySearch T} {o : Posted} {pd : C} {turn : Turn (Result T Error)}
      → t.looked pd pd
      → IsOut IsPlaceQuery old.stage → HasNumbers o
      → (search_phase old.stage ≡ Fresh → ⊥)
      → turn ≡ unheard (search_phase old.stage)
      → Steps (searching is_of) (λ told o c c' x y. UnlessStopped c'.stage (Seeks t x y)) begins old old o o pd pd turn
  unfolding begins
  Search-begun t {old = old} same ready numbers other e = Steps-idle (searching-lawful is_of) other (λ r a heard w. heard) e (λ r. unless_all old.stage (inl same)) ready numbers

  -- what came of the query is refused
  pub refused : (call : PdCall) (answer : Result PdAnswer Error) (why : Error) (old new : KeySearch T) (o : Posted) (turn : Turn (Result T Error))
      → old.stage ≡ search.Stopped → IsPlaceQuery call.query → OrStarved (IsRefused call.query answer) why
      → IsRefusal why new.stage turn → new ≡ record old { stage = new.stage }
      → SearchesOn is_of (λ h. looked_up.gives call h answer) (λ a. ⊥) (is_loss answer) old new o o turn
  refused call answer why old new o Stopped off place s i e =
      subst (λ (x : KeySearch T). SearchesOn is_of (λ h. looked_up.gives call h answer) (λ a. ⊥) (is_loss answer) old x o o Stopped) (sym (e ∙ ap (λ (g : SearchStage). record old { stage = g }) (i ∙ sym off))) (stopped off)
  refused call answer why old new o Waits off place s i e = absurd i
  refused call answer why old new o (Ends v) off place s i e =
      let r = unless_starved i.2 s in
      rw i.1 (ended (Err why) (e ∙ ap (λ (g : SearchStage). record old { stage = g }) i.0) (λ h k. record { call = call; place = place; answer = answer; given = k; refused = r }) (λ f. refused_lost call.query answer why r f))

  -- what was refused was learnt, where the look-up did not give up
  pub refused_learnt : {C : Type 0} (t : Touch C) (q : PdQuery) (answer : Result PdAnswer Error) (why : Error) (g : SearchStage) (turn : Turn (Result T Error)) {old mid : C}
      → t.looked old old → t.looked mid mid
      → IsRefusal why g turn → ((why ≡ OutOfMemory) ⊎ t.learns q answer old mid)
      → IfKept turn (Seeks t old mid)
  refused_learnt t q answer why g Stopped same there i learnt = tt
  refused_learnt t q answer why g Waits same there i learnt = absurd i
  refused_learnt t q answer why g (Ends v) {old = old} {mid = mid} same there i learnt =
      inr (record { query = q; answer = answer; before = old; behind = mid; looked = same; learnt = unless_starved i.2 learnt; further = there })
