-- What a region's epoch tells of its range.
use Rattle.std.proofs.Common.{◌≡◌, ℕ, ◌+◌, ◌<◌, ◌≤◌, ◌⊎◌, inl, inr, Bool, true, false, List, [], ◌∷◌, Some, length, nat_eq, refl, sym, ap, ◌∙◌, subst, suc, arith}
use Rattle.std.specs.Prelude.{if◌then◌else◌, cond}
use Rattle.std.proofs.lemmas.Bool.Decides.{nat_tests}
use Rattle.txn_history.specs.Event.{Event}
use Rattle.txn_history.specs.Event.Event.{Served, Split, Led}
use Rattle.txn_history.specs.Plan.{Key}
use Rattle.txn_model.specs.declared.region.StoredRegion.{StoredRegion}
use Rattle.txn_model.specs.Placement.{region_with_id}
use Rattle.txn_model.specs.Ranges.{in_range}
use Rattle.txn_model.specs.Regions.{split, split_at, can_split, unused_id, lower_part, upper_part, lead, led_by, led_if, can_lead}
use Rattle.txn_model.specs.Served.{others_stay}
use Rattle.txn_model.specs.Store.{Store}
use Rattle.txn_law.specs.Part.{IsPart}
use Rattle.txn_law.specs.Run.{store_after}

-- the same range and version, or a later version
abbrev GoesOn : StoredRegion → StoredRegion → Type 0
GoesOn g h = ((g.start_key ≡ h.start_key) × (g.end_key ≡ h.end_key) × (g.epoch.version ≡ h.epoch.version)) ⊎ (g.epoch.version < h.epoch.version)

goes_itself : (g : StoredRegion) → GoesOn g g
goes_itself g = inl (refl, refl, refl)

goes_far : (f g h : StoredRegion) → GoesOn f g → GoesOn g h → GoesOn f h
goes_far f g h (inl a) (inl b) = inl (a.0 ∙ b.0, a.1 ∙ b.1, a.2 ∙ b.2)
goes_far f g h (inl a) (inr b) = inr (let x = a.2 in omega (arith, x, b))
goes_far f g h (inr a) (inl b) = inr (let x = b.2 in omega (arith, x, a))
goes_far f g h (inr a) (inr b) = inr (omega (arith, a, b))

-- each region is still there, as it was or further on
abbrev GoOn : List StoredRegion → List StoredRegion → Type 0
GoOn gs hs = (n : ℕ) (g : StoredRegion) → region_with_id gs n ≡ Some g → (h : StoredRegion) × (region_with_id hs n ≡ Some h) × GoesOn g h

-- each id is at most this
abbrev IdsUpTo : ℕ → List StoredRegion → Type 0
IdsUpTo m [] = Unit {0}
IdsUpTo m (g ∷ gs) = (g.id ≤ m) × IdsUpTo m gs

ids_more : (m n : ℕ) (gs : List StoredRegion) → m ≤ n → IdsUpTo m gs → IdsUpTo n gs
ids_more m n [] l i = tt
ids_more m n (g ∷ gs) l i = (let a = i.0 in omega (arith, a, l), ids_more m n gs l i.1)

-- a known id is one of them
known_id : (m n : ℕ) (gs : List StoredRegion) (g : StoredRegion) → IdsUpTo m gs → region_with_id gs n ≡ Some g → n ≤ m
known_id m n [] g i h = absurd (cc)
known_id m n (x ∷ gs) g i h = by (known_id m n gs g i.1) (nat_eq x.id n) refl h
  where
    by : (region_with_id gs n ≡ Some g → n ≤ m) → (b : Bool) → nat_eq x.id n ≡ b → cond b (Some x) (region_with_id gs n) ≡ Some g → n ≤ m
    by rest true e f = let a = i.0 in grind (arith, nat_tests)
    by rest false e f = rest f

-- Split

split_ids : (k : Key) (u m : ℕ) (gs : List StoredRegion) → IdsUpTo m gs → u ≤ m → IdsUpTo m (split_at k u gs)
split_ids k u m [] i l = tt
split_ids k u m (x ∷ gs) i l = by (in_range x.start_key x.end_key k) (split_ids k u m gs i.1 l)
  where
    by : (b : Bool) → IdsUpTo m (split_at k u gs) → IdsUpTo m (if b then lower_part k x ∷ upper_part k u x ∷ gs else x ∷ split_at k u gs)
    by true rest = (i.0, (l, i.1))
    by false rest = (i.0, rest)

split_or_same : (k : Key) (u : ℕ) (gs : List StoredRegion) → (split_at k u gs ≡ gs) ⊎ (length (split_at k u gs) ≡ length gs + 1)
split_or_same k u [] = inl refl
split_or_same k u (x ∷ gs) = by (in_range x.start_key x.end_key k) (split_or_same k u gs)
  where
    by : (b : Bool) → (split_at k u gs ≡ gs) ⊎ (length (split_at k u gs) ≡ length gs + 1) → ((if b then lower_part k x ∷ upper_part k u x ∷ gs else x ∷ split_at k u gs) ≡ (x ∷ gs)) ⊎ (length (if b then lower_part k x ∷ upper_part k u x ∷ gs else x ∷ split_at k u gs) ≡ length (x ∷ gs) + 1)
    by true rest = inr (omega arith)
    by false (inl e) = inl (ap (λ xs. x ∷ xs) e)
    by false (inr e) = inr (omega (arith, e))

split_goes : (k : Key) (u : ℕ) (gs : List StoredRegion) (n : ℕ) (g : StoredRegion) → n < u → region_with_id gs n ≡ Some g → (h : StoredRegion) × (region_with_id (split_at k u gs) n ≡ Some h) × GoesOn g h
split_goes k u [] n g l h = absurd (cc)
split_goes k u (x ∷ gs) n g l h = by (in_range x.start_key x.end_key k) (nat_eq x.id n) refl h (split_goes k u gs n g l)
  where
    other : nat_eq u n ≡ false
    other = grind (arith, nat_tests)

    same : Some x ≡ Some g → x ≡ g
    same e = cc

    by : (b c : Bool) → nat_eq x.id n ≡ c → cond c (Some x) (region_with_id gs n) ≡ Some g → (region_with_id gs n ≡ Some g → (h : StoredRegion) × (region_with_id (split_at k u gs) n ≡ Some h) × GoesOn g h) → (h : StoredRegion) × (region_with_id (if b then lower_part k x ∷ upper_part k u x ∷ gs else x ∷ split_at k u gs) n ≡ Some h) × GoesOn g h
    by true true e f rest = (lower_part k x, rw e refl, inr (subst (λ (z : StoredRegion). z.epoch.version < x.epoch.version + 1) (same f) (omega arith)))
    by true false e f rest = (g, rw (e, other) f, goes_itself g)
    by false true e f rest = (x, rw e refl, subst (λ (z : StoredRegion). GoesOn z x) (same f) (goes_itself x))
    by false false e f rest = rw e (rest f)

-- Lead

led_same : (region store : ℕ) (g : StoredRegion) → ((led_if region store g).id ≡ g.id) × GoesOn g (led_if region store g)
led_same region store g = by (nat_eq g.id region)
  where
    by : (b : Bool) → ((if b then record g { leader = store } else g).id ≡ g.id) × GoesOn g (if b then record g { leader = store } else g)
    by true = (refl, inl (refl, refl, refl))
    by false = (refl, inl (refl, refl, refl))

led_ids : (region store m : ℕ) (gs : List StoredRegion) → IdsUpTo m gs → IdsUpTo m (led_by region store gs)
led_ids region store m [] i = tt
led_ids region store m (x ∷ gs) i = (subst (λ n. n ≤ m) (sym (led_same region store x).0) i.0, led_ids region store m gs i.1)

led_length : (region store : ℕ) (gs : List StoredRegion) → length (led_by region store gs) ≡ length gs
led_length region store [] = refl
led_length region store (x ∷ gs) = ap suc (led_length region store gs)

led_goes : (region store : ℕ) (gs : List StoredRegion) (n : ℕ) (g : StoredRegion) → region_with_id gs n ≡ Some g → (h : StoredRegion) × (region_with_id (led_by region store gs) n ≡ Some h) × GoesOn g h
led_goes region store [] n g h = absurd (cc)
led_goes region store (x ∷ gs) n g h = by (nat_eq x.id n) refl h (led_goes region store gs n g)
  where
    id : (led_if region store x).id ≡ x.id
    id = (led_same region store x).0

    same : Some x ≡ Some g → x ≡ g
    same e = cc

    by : (c : Bool) → nat_eq x.id n ≡ c → cond c (Some x) (region_with_id gs n) ≡ Some g → (region_with_id gs n ≡ Some g → (h : StoredRegion) × (region_with_id (led_by region store gs) n ≡ Some h) × GoesOn g h) → (h : StoredRegion) × (cond (nat_eq (led_if region store x).id n) (Some (led_if region store x)) (region_with_id (led_by region store gs) n) ≡ Some h) × GoesOn g h
    by true e f rest = (led_if region store x, (let w : nat_eq (led_if region store x).id n ≡ true = ap (λ z. nat_eq z n) id ∙ e in rw w refl), subst (λ (z : StoredRegion). GoesOn z (led_if region store x)) (same f) (led_same region store x).1)
    by false e f rest = let w : nat_eq (led_if region store x).id n ≡ false = ap (λ z. nat_eq z n) id ∙ e in rw w (rest f)

-- Each event.

abbrev AreKnown : List StoredRegion → Type 0
AreKnown gs = IdsUpTo (length gs) gs

-- what one event makes of the regions
record Turns (gs hs : List StoredRegion) : Type 0 where
  known : AreKnown gs → AreKnown hs
  goes : AreKnown gs → GoOn gs hs

turns_same : (gs hs : List StoredRegion) → hs ≡ gs → Turns gs hs
turns_same gs hs e = record { known = λ i. subst AreKnown (sym e) i; goes = λ i n g h. (g, subst (λ xs. region_with_id xs n ≡ Some g) (sym e) h, goes_itself g) }

split_turns : (st : Store) (k : Key) → Turns st.regions (split st k).regions
split_turns st k = by (can_split st k)
  where
    gs : List StoredRegion
    gs = st.regions

    known_after : AreKnown gs → AreKnown (split_at k (unused_id gs) gs)
    known_after i = elim (split_or_same k (unused_id gs) gs) [
      | inl e ↦ subst AreKnown (sym e) i
      | inr e ↦ subst (λ m. IdsUpTo m (split_at k (unused_id gs) gs)) (sym e) (split_ids k (unused_id gs) (length gs + 1) gs (ids_more (length gs) (length gs + 1) gs (omega arith) i) (omega arith))
    ]

    by : (b : Bool) → Turns gs (if b then record st { regions = split_at k (unused_id gs) gs } else st).regions
    by true = record { known = known_after; goes = λ i n g h. split_goes k (unused_id gs) gs n g (let w = known_id (length gs) n gs g i h in omega (arith, w)) h }
    by false = turns_same gs gs refl

lead_turns : (st : Store) (region store : ℕ) → Turns st.regions (lead st region store).regions
lead_turns st region store = by (can_lead st region store)
  where
    by : (b : Bool) → Turns st.regions (if b then record st { regions = led_by region store st.regions } else st).regions
    by true = record {
      known = λ i. subst (λ m. IdsUpTo m (led_by region store st.regions)) (sym (led_length region store st.regions)) (led_ids region store (length st.regions) st.regions i);
      goes = λ i n g h. led_goes region store st.regions n g h;
    }
    by false = turns_same st.regions st.regions refl

turns : (es : List Event) (e : Event) → Turns (store_after es).regions (store_after (e ∷ es)).regions
turns es (Served t r o) = turns_same (store_after es).regions (store_after (Served t r o ∷ es)).regions (others_stay (store_after es) r).regions
turns es (Split k) = split_turns (store_after es) k
turns es (Led region store) = lead_turns (store_after es) region store
turns es _ = turns_same (store_after es).regions (store_after es).regions refl

known_always : (es : List Event) → AreKnown (store_after es).regions
known_always [] = (omega arith, tt)
known_always (e ∷ es) = (turns es e).known (known_always es)

go_far : (es part : List Event) → IsPart es part → GoOn (store_after part).regions (store_after es).regions
go_far [] part h n g w = (g, subst (λ fs. region_with_id (store_after fs).regions n ≡ Some g) h w, goes_itself g)
go_far (e ∷ es) part (inl h) n g w = (g, subst (λ fs. region_with_id (store_after fs).regions n ≡ Some g) h w, goes_itself g)
go_far (e ∷ es) part (inr h) n g w =
    let a = go_far es part h n g w in
    let b = (turns es e).goes (known_always es) n a.0 a.1 in
    (b.0, b.1, goes_far g a.0 b.0 a.2 b.2)

-- one of two parts is a part of the other
in_turn : (es first second : List Event) → IsPart es first → IsPart es second → IsPart first second ⊎ IsPart second first
in_turn [] first second h g = inl (subst (λ fs. IsPart fs second) (sym h) g)
in_turn (e ∷ es) first second (inl h) g = inl (subst (λ fs. IsPart fs second) (sym h) g)
in_turn (e ∷ es) first second (inr h) (inl g) = inr (subst (λ fs. IsPart fs first) (sym g) (inr h))
in_turn (e ∷ es) first second (inr h) (inr g) = in_turn es first second h g

one_range : (first second : List Event) → IsPart second first → (n : ℕ) (g h : StoredRegion) → region_with_id (store_after first).regions n ≡ Some g → region_with_id (store_after second).regions n ≡ Some h → g.epoch.version ≡ h.epoch.version → (g.start_key ≡ h.start_key) × (g.end_key ≡ h.end_key)
one_range first second p n g h a b e =
    let w = go_far second first p n g a in
    let same : w.0 ≡ h = found w.0 (sym w.1 ∙ b) in
    by (subst (GoesOn g) same w.2)
  where
    found : (x : StoredRegion) → Some x ≡ Some h → x ≡ h
    found x f = cc

    by : GoesOn g h → (g.start_key ≡ h.start_key) × (g.end_key ≡ h.end_key)
    by (inl x) = (x.0, x.1)
    by (inr x) = absurd (omega (arith, x, e))

pub law_ranges : (es first second : List Event) → IsPart es first → IsPart es second → (n : ℕ) (g h : StoredRegion) → region_with_id (store_after first).regions n ≡ Some g → region_with_id (store_after second).regions n ≡ Some h → g.epoch.version ≡ h.epoch.version → (g.start_key ≡ h.start_key) × (g.end_key ≡ h.end_key)
law_ranges es first second p q n g h a b e = elim (in_turn es first second p q) [
  | inl w ↦ (let r = one_range second first w n h g b a (sym e) in (sym r.0, sym r.1))
  | inr w ↦ one_range first second w n g h a b e
]
