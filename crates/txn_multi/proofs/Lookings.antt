-- Look-ups of shards, and the plans that come of them.
use Rattle.std.proofs.Common.{◌≡◌, ◌≢◌, inl, inr, ℕ, ◌+◌, ◌≤◌, Bool, true, false, List, [], ◌∷◌, ◌++◌, length, suc, map, refl, sym, ap, subst, ◌∙◌, append_assoc, arith}
use Rattle.std.specs.Prelude.{⊤, max, Result}
use Rattle.std.specs.List.{All}
use Rattle.std.specs.Global.{Vec}
use Rattle.std.proofs.Math.Nat.{le_refl, le_trans}
use Rattle.std.proofs.lemmas.Bool.{false≢true}
use Rattle.std.proofs.lemmas.List.Elements.{All-cons, All-head, All-nil, All-tail}
use Rattle.txn_history.specs.Event.{Event}
use Rattle.txn_history.specs.Meaning.{started, Counts, Expects, IsUnbegun, Meaning, Tells, Told}
use Rattle.txn_history.specs.Moves.{Knows, Moves, Moves-before, Moves-map, Moves-quiet, Moves-then}
use Rattle.txn_history.specs.Phase.{Awaited}
use Rattle.txn_history.specs.Posted.{Posted, Within-refl}
use Rattle.txn_history.specs.Spends.{Spends, calls, sleeps, spare}
use Rattle.txn_history.specs.Turn.{is_kept, IfEnds, IfKept-out, Turn}
use Rattle.txn_history.specs.Turn.Turn.{Stopped, Waits, Ends}
use Rattle.txn_history.proofs.Counting.{spare-more}
use Rattle.txn_history.proofs.Telling.{Expects-quiet, Expects-then}
use Rattle.txn_kv.specs.declared.errors.Error.{Error}
use Rattle.txn_kv.specs.declared.errors.Error.TheVariants.{OutOfMemory}
use Rattle.txn_kv.specs.declared.query.PdAnswer.{PdAnswer}
use Rattle.txn_kv.specs.declared.query.PdQuery.{PdQuery}
use Rattle.txn_kv.specs.declared.request.Request.{Request}
use Rattle.txn_plan.specs.Applied.{IsApplied}
use Rattle.txn_plan.specs.LookUp.{call_waits, fresh-unbegun, looked_up}
use Rattle.txn_plan.proofs.LastPosted.{calls_none, never_fails}
use Rattle.txn_region.specs.Clients.{IsPlaceQuery, IsRefused, OrStarved}
use Rattle.txn_region.specs.declared.store.RegionStore.{RegionStore}
use Rattle.txn_multi.specs.Cutting.{cutting, AreApplied, ArePartsOf, AreWithin, GivesParts, IfParts, IsLookUpRefused, IsPartOf, IsPlacement, Looking, UnfoundIfErr}
use Rattle.txn_multi.specs.Few.{AreFew}
use Rattle.txn_multi.specs.Searching.{LooksOn}
use Rattle.txn_multi.specs.declared.part.Part.{Part}
use Rattle.txn_search.specs.Search.{search_phase, search_waits, Holds, IsOut, IsTaken, SearchAt}
use Rattle.txn_search.specs.declared.search_stage.SearchStage.TheVariants as search
use Rattle.txn_search.specs.declared.search_stage.SearchStage.{SearchStage}
use Rattle.txn_search.proofs.Held.{asks_none, held_at, held_fits, held_query, held_runs, held_waits, waits_held}
use Rattle.txn_tso.specs.Calling.{CallFits, MayAsk}
use Rattle.txn_tso.specs.Counting.{CallSpends}
use Rattle.txn_tso.specs.Placement.{fresh}
use Rattle.txn_tso.specs.declared.pd_call.PdCall.{PdCall}

-- a plan more
pub AreApplied-push : {S H : Type 0} (applies : S → H → RegionStore → S → Type 0) (whole : S) (fs : List (H × RegionStore)) (ps : List (Part S)) (f : H × RegionStore) (p : Part S)
    → AreApplied applies whole fs ps → applies whole f.0 f.1 p.plan → AreApplied applies whole (fs ++ f ∷ []) (ps ++ p ∷ [])
AreApplied-push applies whole [] [] f p a x = (x, tt)
AreApplied-push applies whole [] (q ∷ ps) f p a x = absurd a
AreApplied-push applies whole (g ∷ fs) [] f p a x = absurd a
AreApplied-push applies whole (g ∷ fs) (q ∷ ps) f p a x = (a.0, AreApplied-push applies whole fs ps f p a.1 x)

-- there are as many plans as shards
pub same_length : {S H : Type 0} (applies : S → H → RegionStore → S → Type 0) (whole : S) (fs : List (H × RegionStore)) (ps : List (Part S)) → AreApplied applies whole fs ps → length ps ≡ length fs
same_length applies whole [] [] a = refl
same_length applies whole [] (p ∷ ps) a = absurd a
same_length applies whole (f ∷ fs) [] a = absurd a
same_length applies whole (f ∷ fs) (p ∷ ps) a = ap (λ n. suc n) (same_length applies whole fs ps a.1)

-- plans with the shards that a plan is cut into are its parts
module _ {S A H L : Type 0} (m : Meaning S A) (is_part : S → S → Type 0) (load : S → L) (load_of : H → L) (are_cut : L → List L → Type 0) (most : S → ℕ → ℕ) (applies : S → H → RegionStore → S → Type 0)
    (applied_load : (old new : S) (shard : H) (store : RegionStore) (before behind : List L) → are_cut (load old) (before ++ load_of shard ∷ behind) → applies old shard store new → load new ≡ load_of shard)
    (applied_part : (old new : S) (shard : H) (store : RegionStore) (before behind : List L) → are_cut (load old) (before ++ load_of shard ∷ behind) → applies old shard store new → is_part new old)
    (applied_unbegun : (old new : S) (shard : H) (store : RegionStore) → IsUnbegun m old → applies old shard store new → IsApplied m old new) where
  loads_of : List (H × RegionStore) → List L
  loads_of fs = map load_of (map (λ f. f.0) fs)

  each_part : (whole : S) (before : List L) (fs : List (H × RegionStore)) (ps : List (Part S)) → IsUnbegun m whole → are_cut (load whole) (before ++ map load_of (map (λ f. f.0) fs)) → AreApplied applies whole fs ps
      → All (λ f. (part : S) → applies whole f.0 f.1 part → (n : ℕ) → max 1 (most part n) ≤ most whole n) fs
      → All (λ p. IsPartOf m is_part most whole p.plan) ps
  each_part whole before [] [] u c a l = All-nil (λ (p : Part S). IsPartOf m is_part most whole p.plan)
  each_part whole before [] (p ∷ ps) u c a l = absurd a
  each_part whole before (f ∷ fs) [] u c a l = absurd a
  each_part whole before (f ∷ fs) (p ∷ ps) u c a l =
      let behind : List L = map load_of (map (λ f. f.0) fs) in
      let next : are_cut (load whole) ((before ++ load_of f.0 ∷ []) ++ behind) = rw (append_assoc before (load_of f.0 ∷ []) behind) c in
      All-cons (λ (p : Part S). IsPartOf m is_part most whole p.plan) p ps
      (record {
        applied = applied_unbegun whole p.plan f.0 f.1 u a.0;
        belongs = applied_part whole p.plan f.0 f.1 before behind c a.0;
        fewer = All-head (λ (g : H × RegionStore). (part : S) → applies whole g.0 g.1 part → (n : ℕ) → max 1 (most part n) ≤ most whole n) f fs l p.plan a.0;
      })
      (each_part whole (before ++ load_of f.0 ∷ []) fs ps u next a.1 (All-tail (λ (g : H × RegionStore). (part : S) → applies whole g.0 g.1 part → (n : ℕ) → max 1 (most part n) ≤ most whole n) f fs l))

  same_loads : (whole : S) (before : List L) (fs : List (H × RegionStore)) (ps : List (Part S)) → are_cut (load whole) (before ++ map load_of (map (λ f. f.0) fs)) → AreApplied applies whole fs ps
      → map (λ p. load p.plan) ps ≡ map load_of (map (λ f. f.0) fs)
  same_loads whole before [] [] c a = refl
  same_loads whole before [] (p ∷ ps) c a = absurd a
  same_loads whole before (f ∷ fs) [] c a = absurd a
  same_loads whole before (f ∷ fs) (p ∷ ps) c a =
      let behind : List L = map load_of (map (λ f. f.0) fs) in
      let next : are_cut (load whole) ((before ++ load_of f.0 ∷ []) ++ behind) = rw (append_assoc before (load_of f.0 ∷ []) behind) c in
      let here : load p.plan ≡ load_of f.0 = applied_load whole p.plan f.0 f.1 before behind c a.0 in
      let rest = same_loads whole (before ++ load_of f.0 ∷ []) fs ps next a.1 in
      cc

  pub ArePartsOf-applied : (whole : S) (fs : List (H × RegionStore)) (ps : List (Part S)) → IsUnbegun m whole → are_cut (load whole) (map load_of (map (λ f. f.0) fs)) → AreFew most applies whole fs → AreApplied applies whole fs ps
      → ArePartsOf m is_part load are_cut most whole ps
  ArePartsOf-applied whole fs ps u c few a =
      let many : length ps ≡ length fs = same_length applies whole fs ps a in
      record {
        each = each_part whole [] fs ps u c a few.each;
        cut = rw (same_loads whole [] fs ps c a) c;
        few = λ n l. rw many (few.few n (rw many at l));
      }

MayAsk-place : (s : PdCall) → IsPlaceQuery s.query → (h : List Event) (r : Request) → MayAsk s h r → IsPlacement h r
MayAsk-place s place h r (inl a) = inl (s.query, place, a)
MayAsk-place s place h r (inr a) = inr a

-- Why not all shards were found, from what the client refuses. Want of memory is another matter.
pub unfound_learnt : (call : PdCall) (answer : Result PdAnswer Error) (h : List Event) (why : Error) → IsPlaceQuery call.query → looked_up.gives call h answer
    → OrStarved (IsRefused call.query answer) why → OrStarved (IsLookUpRefused h) why
unfound_learnt call answer h why place given (inl starved) = inl starved
unfound_learnt call answer h why place given (inr refused) = inr (record { call = call; place = place; answer = answer; given = given; refused = refused })

pub unless_starved : (P : Error → Type 0) (why : Error) → (why ≡ OutOfMemory → ⊥) → OrStarved P why → P why
unless_starved P why fed (inl starved) = absurd (fed starved)
unless_starved P why fed (inr p) = p

-- The steps of the search.
module _ {S A H L : Type 0} (m : Meaning S A) (is_part : S → S → Type 0) (load : S → L) (are_cut : L → List L → Type 0) (most : S → ℕ → ℕ) where
  -- it gave up, and nothing was posted
  pub stopped : {known : List Event → Type 0} {was : Awaited → Type 0} {c : Looking S H} {o : Posted} → c.stage ≡ search.Stopped → LooksOn m is_part load are_cut most known was c c o o Stopped
  stopped {c = c} e = record {
    moves = Moves-quiet refl tt tt;
    expects = Expects-quiet (λ a w. absurd (rw e at w));
    next = ap search_phase e;
    parts = tt;
    wider = le_refl c.width;
    wide = tt;
    plan = refl;
    calls = le_refl _;
    sleeps = le_refl _;
  }

  -- it has answered
  pub ended : {known : List Event → Type 0} {was : Awaited → Type 0} {old new : Looking S H} {o : Posted} (v : Result (Vec (Part S)) Error)
      → new.stage ≡ search.Over → new.plan ≡ old.plan → new.width ≡ old.width → IfParts m is_part load are_cut most old.plan v → ((h : List Event) → known h → UnfoundIfErr h v) → AreWithin new.width v
      → LooksOn m is_part load are_cut most known was old new o o (Ends v)
  ended v over same width parts unfound wide = record {
    moves = Moves-quiet refl (λ h k. rw over tt) (λ h k. (parts, unfound h k));
    expects = Expects-quiet (λ a w. absurd (rw over at w));
    next = ap search_phase over;
    parts = parts;
    wider = rw width (le_refl _);
    wide = wide;
    plan = same;
    calls = le_refl _;
    sleeps = le_refl _;
  }

  -- it waits for what was posted before
  pub waiting : {old new : Looking S H} {call : PdCall} {o : Posted}
      → Holds call new.stage → new ≡ record old { stage = new.stage }
      → LooksOn m is_part load are_cut most (λ h. CallFits call o h) (call_waits call.stage) old new o o Waits
  waiting {old = old} {new = new} {call = call} {o = o} held e = record {
    moves = Moves-quiet refl (λ h f. held_at call new.stage o h held f) tt;
    expects = Expects-quiet (λ a w. (waits_held call new.stage a held w, λ x. x));
    next = held_runs call new.stage held;
    parts = tt;
    wider = rw (ap (λ (c : Looking S H). c.width) e) (le_refl _);
    wide = tt;
    plan = ap (λ (c : Looking S H). c.plan) e;
    calls = le_refl _;
    sleeps = le_refl _;
  }

  -- a step that rests on no more than is known, after a change of what was found
  pub from_mid : {known less : List Event → Type 0} {was : Awaited → Type 0} {old mid new : Looking S H} {from to : Posted} {turn : Turn (Result (Vec (Part S)) Error)}
      → ((h : List Event) → known h → less h) → mid.plan ≡ old.plan → old.width ≤ mid.width
      → LooksOn m is_part load are_cut most less (λ a. ⊥) mid new from to turn
      → LooksOn m is_part load are_cut most known was old new from to turn
  from_mid {less = less} {old = old} {mid = mid} {new = new} {from = from} {to = to} {turn = turn} knows same wider s = record {
    moves = Moves-before knows (subst (λ (p : S). Moves IsPlacement less (λ h. SearchAt new.stage to h) (λ h. GivesParts m is_part load are_cut most p h) (λ h. h) from to turn) same s.moves);
    expects = let e = s.expects in record { sends = e.sends; pushed = e.pushed; only = λ a w. elim (e.only a w) [ inl x ↦ absurd x.0 | inr p ↦ inr p ] };
    next = s.next;
    parts = subst (λ (p : S). IfEnds turn (IfParts m is_part load are_cut most p)) same s.parts;
    wider = le_trans wider s.wider;
    wide = s.wide;
    plan = s.plan ∙ same;
    calls = s.calls;
    sleeps = s.sleeps;
  }

  -- a step where more is known
  pub knowing : {known less : List Event → Type 0} {was : Awaited → Type 0} {old new : Looking S H} {from to : Posted} {turn : Turn (Result (Vec (Part S)) Error)}
      → ((h : List Event) → known h → less h)
      → LooksOn m is_part load are_cut most less was old new from to turn
      → LooksOn m is_part load are_cut most known was old new from to turn
  knowing knows s = record {
    moves = Moves-before knows s.moves;
    expects = s.expects;
    next = s.next;
    parts = s.parts;
    wider = s.wider;
    wide = s.wide;
    plan = s.plan;
    calls = s.calls;
    sleeps = s.sleeps;
  }

  -- a call of a look-up, and what comes of it
  pub after_call : {known : List Event → Type 0} {was : Awaited → Type 0} {old new : Looking S H} {call : PdCall} {from via to : Posted} {p : Turn (Result PdAnswer Error)} {turn : Turn (Result (Vec (Part S)) Error)}
      → p ≢ Stopped
      → Moves IsPlacement known (λ h. CallFits call via h) (λ h v. ⊤) (λ h. h) from via p
      → Expects was (call_waits call.stage) (λ a. ⊥) from via
      → calls via ≤ calls from → sleeps via ≤ sleeps from
      → LooksOn m is_part load are_cut most (λ h. CallFits call via h) (call_waits call.stage) old new via to turn
      → LooksOn m is_part load are_cut most known was old new from to turn
  after_call {p = p} kept first waits few awake s = record {
    moves = Moves-then first (Moves-before (λ h k. IfKept-out p kept k.0) s.moves);
    expects = Expects-then waits s.expects;
    next = s.next;
    parts = s.parts;
    wider = s.wider;
    wide = s.wide;
    plan = s.plan;
    calls = le_trans s.calls few;
    sleeps = le_trans s.sleeps awake;
  }

  lifted : {told : Told} (old : Looking S H) {call call' : PdCall} {from via : Posted} {p : Turn (Result PdAnswer Error)}
      → Holds call old.stage → IsPlaceQuery call.query → Tells looked_up told call call' from via p
      → Moves IsPlacement (λ h. SearchAt old.stage from h × told.known h) (λ h. CallFits call' via h) (λ h v. looked_up.gives call' h v) told.hear from via p
  lifted {told = told} old {call = call} {from = from} held place t =
      Moves-map told.within (λ h f. (held_fits call old.stage from h held f.0, f.1)) (λ h f k r a. MayAsk-place call place k r a) (λ h f k w i. i) (λ h f k v g. t.job.gave k v g) t.moves

  -- an event of the look-up is an event of the search
  pub heard : {told : Told} {old new : Looking S H} {g : SearchStage} {a : Awaited} {call call' : PdCall} {from via to : Posted} {p : Turn (Result PdAnswer Error)} {turn : Turn (Result (Vec (Part S)) Error)}
      → IsOut IsPlaceQuery old.stage → IsTaken a old.stage g call
      → Tells looked_up told call call' from via p
      → LooksOn m is_part load are_cut most (Knows p (λ h. CallFits call' via h) (λ h v. looked_up.gives call' h v)) (call_waits call'.stage) (record old { stage = g }) new via to turn
      → Tells (cutting m is_part load are_cut most) told old new from to turn
  heard {told = told} {old = old} {call = call} {call' = call'} {from = from} {via = via} out taken t s =
      let e = t.expects in
      let first : Expects (search_waits old.stage) (call_waits call'.stage) told.heard from via =
      record { sends = e.sends; pushed = e.pushed; only = λ b w. elim (e.only b w) [ inl x ↦ inl (held_waits call old.stage b taken.held x.0, x.1) | inr x ↦ inr x ] } in
      record {
        moves = Moves-then (lifted old taken.held (held_query IsPlaceQuery call old.stage out taken.held) t) s.moves;
        job = record { asked = λ h r x. x; given = λ h v g. rw s.plan at g; gave = λ h v g. rw s.plan g };
        expects = Expects-then first s.expects;
      }

  -- no call of a store is made
  pub counted : {bad fails : Bool} {weight locked : ℕ} {old new : Looking S H} {from to : Posted} {turn : Turn (Result (Vec (Part S)) Error)}
      → old.width ≤ new.width → calls to ≤ calls from → sleeps to ≤ sleeps from + spare fails false 1
      → Counts (cutting m is_part load are_cut most) bad fails weight locked old new from to turn
  counted {bad = bad} {fails = fails} {weight = weight} {locked = locked} {old = old} {new = new} {from = from} {to = to} {turn = turn} wider few awake = record {
    spends = subst (λ (f : Bool). Spends (λ w. ⊤) (λ w. ⊤) (λ n. 0) (λ n. 0) (λ n. 0) bad fails weight locked old.width new.width from to (is_kept turn) f) (sym (never_fails turn)) (record {
      wider = wider;
      bears = λ k w u. tt;
      allowed = λ k f. absurd (false≢true f);
      spends = λ k n w u l b. omega arith;
      stopped = λ n w u l b. omega arith;
      rests = λ k. omega arith;
      stopped_rests = omega arith;
    });
    fewer = λ n. le_refl 0;
  }

  -- so far the search asked no store, and it goes on so after an event of its look-up
  pub counted_after : {bad bad' fails : Bool} {weight locked : ℕ} {old new : Looking S H} {g : SearchStage} {a : Awaited} {call : PdCall} {from via to : Posted} {turn : Turn (Result (Vec (Part S)) Error)} {known : List Event → Type 0} {was : Awaited → Type 0}
      (call' : PdCall) (p : Turn (Result PdAnswer Error))
      → (bad ≡ true → fails ≡ true)
      → IsOut IsPlaceQuery old.stage → IsTaken a old.stage g call
      → CallSpends call call' bad from via p
      → LooksOn m is_part load are_cut most known was (record old { stage = g }) new via to turn
      → Counts (cutting m is_part load are_cut most) bad' fails weight locked old new from to turn
  counted_after {bad = bad} {fails = fails} {old = old} {call = call} {from = from} {via = via} call' p f out taken spent s =
      counted s.wider
      (le_trans s.calls (calls_none bad call call' from via p (asks_none call.query (held_query IsPlaceQuery call old.stage out taken.held)) spent))
      (let x = s.sleeps in let y = spent.stopped_rests in let z = spare-more bad fails false 1 f in omega arith)

  -- it sends its first try
  pub asked : {old new : Looking S H} {call call' : PdCall} {from to : Posted} {turn : Turn (Result (Vec (Part S)) Error)} (p : Turn (Result PdAnswer Error)) (q : PdQuery)
      → IsPlaceQuery q → call ≡ fresh q → p ≢ Stopped
      → Tells looked_up started call call' from to p
      → CallSpends call call' false from to p
      → LooksOn m is_part load are_cut most (λ h. CallFits call' to h) (call_waits call'.stage) old new to to turn
      → LooksOn m is_part load are_cut most (λ h. ⊤) (λ a. ⊥) old new from to turn
  asked {call = call} {call' = call'} {from = from} {to = to} p q place e kept t spent s =
      after_call kept
      (Moves-map Within-refl (λ h k. (rw e (let u = fresh-unbegun q in u.fits from h), tt)) (λ h f k r a. MayAsk-place call (subst (λ (c : PdCall). IsPlaceQuery c.query) (sym e) place) k r a) (λ h f k w i. i) (λ h f k v g. tt) t.moves)
      (let x = t.expects in record { sends = x.sends; pushed = x.pushed; only = λ a w. elim (x.only a w) [ inl y ↦ absurd (rw e at y.0) | inr y ↦ inr y ] })
      (calls_none false call call' from to p (asks_none call.query (rw e place)) spent)
      (let y = spent.stopped_rests in omega arith)
      s
