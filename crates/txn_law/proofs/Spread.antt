-- The decision of an async commit, spread over the keys: the phases and bounds of one start at all keys, without requests.
use Rattle.std.proofs.Common.{◌≡◌, ℕ, ◌≤◌, ◌⊎◌, inl, inr, List, [], ◌∷◌, Option, Some, None, refl, sym, ap, ◌∙◌, subst, le_antisymm, arith}
use Rattle.txn_history.specs.Among.{IsAmong}
use Rattle.txn_history.specs.Plan.{Key, Content, Plan, IsListed}
use Rattle.txn_law.proofs.Phases.{Phase}
use Rattle.txn_law.proofs.Phases.Phase.{Free, Locked, Committed, RolledBack}

-- Beside its phase each key has the bound that its lock had when it was set, from then on. The decision: each key that is
-- written has a bound, and c is the greatest.
abbrev pub AllBound : (Key → Option Content) → (Key → Option ℕ) → ℕ → Type 0
AllBound writes b c = (k : Key) (x : Content) → writes k ≡ Some x → (m : ℕ) × (b k ≡ Some m) × (m ≤ c)

abbrev pub IsAttained : (Key → Option Content) → (Key → Option ℕ) → ℕ → Type 0
IsAttained writes b c = (k : Key) × (x : Content) × (writes k ≡ Some x) × (b k ≡ Some c)

pub record IsSettled (writes : Key → Option Content) (b : Key → Option ℕ) (c : ℕ) : Type 0 where
  pub below : AllBound writes b c
  pub attained : IsAttained writes b c

-- it never will be: a key that is written has no bound, and gets none
abbrev pub IsLost : (Key → Option Content) → (Key → Type 0) → (Key → Phase) → (Key → Option ℕ) → Type 0
IsLost writes Barred f b = (k : Key) × (x : Content) × (writes k ≡ Some x) × (b k ≡ None) × ((f k ≡ RolledBack) ⊎ Barred k)

-- How a key may go on: bound as it is to be written, missed before, committed where all are bound, undone where one never will be.
pub data Walk (plan : Plan) (ks : List Key) (Barred : Key → Type 0) (f : Key → Phase) (b : Key → Option ℕ) (k : Key) : Phase → Option ℕ → Type 0 where
  Rests : Walk plan ks Barred f b k (f k) (b k)
  Binds : (x : Content) (m : ℕ) → f k ≡ Free → plan.writes k ≡ Some x → IsListed plan ks → (Barred k → ⊥) → Walk plan ks Barred f b k (Locked plan.primary x) (Some m)
  Ends : (p : Key) (x : Content) (c : ℕ) → f k ≡ Locked p x → IsSettled plan.writes b c → Walk plan ks Barred f b k (Committed c x) (b k)
  Misses : f k ≡ Free → Walk plan ks Barred f b k RolledBack (b k)
  Undoes : (p : Key) (x : Content) → f k ≡ Locked p x → IsLost plan.writes Barred f b → Walk plan ks Barred f b k RolledBack (b k)

pub record Spread (plan : Plan) (ks : List Key) (Barred : Key → Type 0) (f : Key → Phase) (b : Key → Option ℕ) : Type 0 where
  pub locked : (k p : Key) (x : Content) → f k ≡ Locked p x → (p ≡ plan.primary) × (plan.writes k ≡ Some x) × ((m : ℕ) × (b k ≡ Some m))
  pub free : (k : Key) → f k ≡ Free → b k ≡ None
  pub committed : (k : Key) (c : ℕ) (x : Content) → f k ≡ Committed c x → (plan.writes k ≡ Some x) × IsSettled plan.writes b c
  pub undone : (k : Key) (m : ℕ) → f k ≡ RolledBack → b k ≡ Some m → IsLost plan.writes Barred f b
  pub listed : (k : Key) (m : ℕ) → b k ≡ Some m → IsListed plan ks

-- what is decided is one timestamp
pub one_decision : (writes : Key → Option Content) (b : Key → Option ℕ) (c d : ℕ) → IsSettled writes b c → IsSettled writes b d → c ≡ d
one_decision writes b c d u v = le_antisymm (half c d u v) (half d c v u)
  where
    half : (c d : ℕ) → IsSettled writes b c → IsSettled writes b d → c ≤ d
    half c d u v = let t = u.attained in let e = t.3 in let l = v.below t.0 t.1 t.2 in let o = l.1 in let same : l.0 ≡ c = cc in let q = l.2 in omega (arith, same, q)

-- what is lost is not decided
pub not_both : (writes : Key → Option Content) (Barred : Key → Type 0) (f : Key → Phase) (b : Key → Option ℕ) (c : ℕ) → IsSettled writes b c → IsLost writes Barred f b → ⊥
not_both writes Barred f b c u l = let n = l.3 in let m = (u.below l.0 l.1 l.2).1 in absurd (cc)

bound_on : (plan : Plan) (ks : List Key) (Barred : Key → Type 0) (f : Key → Phase) (b : Key → Option ℕ) (k : Key) (after : Phase) (now : Option ℕ) (m : ℕ) → Spread plan ks Barred f b → Walk plan ks Barred f b k after now → b k ≡ Some m → now ≡ Some m
bound_on plan ks Barred f b k after now m i Rests e = e
bound_on plan ks Barred f b k after now m i (Binds x n free w l u) e = absurd (let z = i.free k free in cc)
bound_on plan ks Barred f b k after now m i (Ends p x c h d) e = e
bound_on plan ks Barred f b k after now m i (Misses h) e = e
bound_on plan ks Barred f b k after now m i (Undoes p x h l) e = e

-- what has no bound and never gets one
unbound_on : (plan : Plan) (ks : List Key) (Barred More : Key → Type 0) (f : Key → Phase) (b : Key → Option ℕ) (k : Key) (after : Phase) (now : Option ℕ) → ((q : Key) → Barred q → More q) → Spread plan ks Barred f b → Walk plan ks Barred f b k after now → b k ≡ None → (f k ≡ RolledBack) ⊎ Barred k → (now ≡ None) × ((after ≡ RolledBack) ⊎ More k)
unbound_on plan ks Barred More f b k after now g i Rests e h = (e, elim h [ inl r ↦ inl r | inr r ↦ inr (g k r) ])
unbound_on plan ks Barred More f b k after now g i (Binds x n free w l u) e h = absurd (elim h [ inl r ↦ absurd (cc) | inr r ↦ u r ])
unbound_on plan ks Barred More f b k after now g i (Ends p x c o d) e h = absurd (let z = (i.locked k p x o).2.1 in cc)
unbound_on plan ks Barred More f b k after now g i (Misses o) e h = (e, inl refl)
unbound_on plan ks Barred More f b k after now g i (Undoes p x o l) e h = (e, inl refl)

module _ (plan : Plan) (ks : List Key) (Barred More : Key → Type 0) (f g : Key → Phase) (b d : Key → Option ℕ) (more : (k : Key) → Barred k → More k) (i : Spread plan ks Barred f b) (h : (k : Key) → Walk plan ks Barred f b k (g k) (d k)) where
  pub bound_stays : (k : Key) (m : ℕ) → b k ≡ Some m → d k ≡ Some m
  bound_stays k m e = bound_on plan ks Barred f b k (g k) (d k) m i (h k) e

  -- a decision stays
  pub settled_stays : (c : ℕ) → IsSettled plan.writes b c → IsSettled plan.writes d c
  settled_stays c u = record {
    below = λ k x w. let o = u.below k x w in (o.0, bound_stays k o.0 o.1, o.2);
    attained = let o = u.attained in (o.0, o.1, o.2, bound_stays o.0 c o.3);
  }

  -- and so does a loss
  pub lost_stays : IsLost plan.writes Barred f b → IsLost plan.writes More g d
  lost_stays l = let o = unbound_on plan ks Barred More f b l.0 (g l.0) (d l.0) more i (h l.0) l.3 l.4 in (l.0, l.1, l.2, o.0, o.1)

  locked_from : (k : Key) (after : Phase) (now : Option ℕ) → Walk plan ks Barred f b k after now → (p : Key) (x : Content) → after ≡ Locked p x → (p ≡ plan.primary) × (plan.writes k ≡ Some x) × ((m : ℕ) × (now ≡ Some m))
  locked_from k after now Rests p x e = i.locked k p x e
  locked_from k after now (Binds y m u w l n) p x e = let q : y ≡ x = cc in let r : plan.primary ≡ p = cc in (sym r, w ∙ ap Some q, (m, refl))
  locked_from k after now (Ends q y c u w) p x e = absurd (cc)
  locked_from k after now (Misses u) p x e = absurd (cc)
  locked_from k after now (Undoes q y u l) p x e = absurd (cc)

  free_from : (k : Key) (after : Phase) (now : Option ℕ) → Walk plan ks Barred f b k after now → after ≡ Free → now ≡ None
  free_from k after now Rests e = i.free k e
  free_from k after now (Binds y m u w l n) e = absurd (cc)
  free_from k after now (Ends q y c u w) e = absurd (cc)
  free_from k after now (Misses u) e = absurd (cc)
  free_from k after now (Undoes q y u l) e = absurd (cc)

  committed_from : (k : Key) (after : Phase) (now : Option ℕ) → Walk plan ks Barred f b k after now → (c : ℕ) (x : Content) → after ≡ Committed c x → (plan.writes k ≡ Some x) × IsSettled plan.writes b c
  committed_from k after now Rests c x e = i.committed k c x e
  committed_from k after now (Binds y m u w l n) c x e = absurd (cc)
  committed_from k after now (Ends q y a u w) c x e = let z : y ≡ x = cc in let t : a ≡ c = cc in ((i.locked k q y u).1 ∙ ap Some z, subst (IsSettled plan.writes b) t w)
  committed_from k after now (Misses u) c x e = absurd (cc)
  committed_from k after now (Undoes q y u l) c x e = absurd (cc)

  undone_from : (k : Key) (after : Phase) (now : Option ℕ) → Walk plan ks Barred f b k after now → (m : ℕ) → after ≡ RolledBack → now ≡ Some m → IsLost plan.writes Barred f b
  undone_from k after now Rests m e o = i.undone k m e o
  undone_from k after now (Binds y n u w l v) m e o = absurd (cc)
  undone_from k after now (Ends q y a u w) m e o = absurd (cc)
  undone_from k after now (Misses u) m e o = absurd (let z = i.free k u in cc)
  undone_from k after now (Undoes q y u l) m e o = l

  listed_from : (k : Key) (after : Phase) (now : Option ℕ) → Walk plan ks Barred f b k after now → (m : ℕ) → now ≡ Some m → IsListed plan ks
  listed_from k after now Rests m e = i.listed k m e
  listed_from k after now (Binds y n u w l v) m e = l
  listed_from k after now (Ends q y a u w) m e = i.listed k m e
  listed_from k after now (Misses u) m e = i.listed k m e
  listed_from k after now (Undoes q y u l) m e = i.listed k m e

  pub spread_kept : Spread plan ks More g d
  spread_kept = record {
    locked = λ k p x e. locked_from k (g k) (d k) (h k) p x e;
    free = λ k e. free_from k (g k) (d k) (h k) e;
    committed = λ k c x e. let w = committed_from k (g k) (d k) (h k) c x e in (w.0, settled_stays c w.1);
    undone = λ k m e o. lost_stays (undone_from k (g k) (d k) (h k) m e o);
    listed = λ k m e. listed_from k (g k) (d k) (h k) m e;
  }

-- what was committed or rolled back stays
pub ended_stays : (plan : Plan) (ks : List Key) (Barred : Key → Type 0) (f : Key → Phase) (b : Key → Option ℕ) (k : Key) (after : Phase) (now : Option ℕ) → Walk plan ks Barred f b k after now → ((c : ℕ) (x : Content) → f k ≡ Committed c x → after ≡ Committed c x) × (f k ≡ RolledBack → after ≡ RolledBack)
ended_stays plan ks Barred f b k after now Rests = ((λ c x e. e), λ e. e)
ended_stays plan ks Barred f b k after now (Binds y m u w l v) = ((λ c x e. absurd (cc)), λ e. absurd (cc))
ended_stays plan ks Barred f b k after now (Ends q y a u w) = ((λ c x e. absurd (cc)), λ e. absurd (cc))
ended_stays plan ks Barred f b k after now (Misses u) = ((λ c x e. absurd (cc)), λ e. refl)
ended_stays plan ks Barred f b k after now (Undoes q y u l) = ((λ c x e. absurd (cc)), λ e. refl)

-- Once decided at c, each key that is written holds its lock, or its commit at c.
pub settled_whole : (plan : Plan) (ks : List Key) (Barred : Key → Type 0) (f : Key → Phase) (b : Key → Option ℕ) → Spread plan ks Barred f b → (c : ℕ) → IsSettled plan.writes b c → (k : Key) (x : Content) → plan.writes k ≡ Some x → (f k ≡ Locked plan.primary x) ⊎ (f k ≡ Committed c x)
settled_whole plan ks Barred f b i c u k x w = by_phase (f k) refl
  where
    by_phase : (o : Phase) → f k ≡ o → (f k ≡ Locked plan.primary x) ⊎ (f k ≡ Committed c x)
    by_phase Free e = absurd (let n = i.free k e in let m = (u.below k x w).1 in cc)
    by_phase (Locked p y) e = inl (let o = i.locked k p y e in let v = o.1 in let q : y ≡ x = cc in let r = o.0 in let z : Locked p y ≡ Locked plan.primary x = cc in e ∙ z)
    by_phase (Committed a y) e = inr (let o = i.committed k a y e in let v = o.0 in let q : y ≡ x = cc in let t = one_decision plan.writes b a c o.1 u in let z : Committed a y ≡ Committed c x = cc in e ∙ z)
    by_phase RolledBack e = absurd (let m = u.below k x w in not_both plan.writes Barred f b c u (i.undone k m.0 e m.1))

-- Whether it is decided can be told: the keys are listed.
abbrev GreatestOf : (Key → Option ℕ) → List Key → ℕ → Type 0
GreatestOf b qs c = ((k : Key) → IsAmong qs k → (m : ℕ) × (b k ≡ Some m) × (m ≤ c)) × ((k : Key) × IsAmong qs k × (b k ≡ Some c))

greatest : (b : Key → Option ℕ) (q : Key) (qs : List Key) → ((c : ℕ) × GreatestOf b (q ∷ qs) c) ⊎ ((k : Key) × IsAmong (q ∷ qs) k × (b k ≡ None))
greatest b q [] = by (b q) refl
  where
    by : (o : Option ℕ) → b q ≡ o → ((c : ℕ) × GreatestOf b (q ∷ []) c) ⊎ ((k : Key) × IsAmong (q ∷ []) k × (b k ≡ None))
    by None e = inr (q, inl refl, e)
    by (Some m) e = inl (m, ((λ k a. elim a [ inl r ↦ (m, subst (λ z. b z ≡ Some m) r e, omega arith) | inr r ↦ absurd r ]), (q, inl refl, e)))
greatest b q (r ∷ qs) = elim (greatest b r qs) [
  | inr n ↦ inr (n.0, inr n.1, n.2)
  | inl c ↦ by c.0 c.1 (b q) refl
]
  where
    by : (c : ℕ) → GreatestOf b (r ∷ qs) c → (o : Option ℕ) → b q ≡ o → ((c : ℕ) × GreatestOf b (q ∷ r ∷ qs) c) ⊎ ((k : Key) × IsAmong (q ∷ r ∷ qs) k × (b k ≡ None))
    by c g None e = inr (q, inl refl, e)
    by c g (Some m) e = elim (larger m c) [
      | inl l ↦ inl (c, ((λ k a. elim a [ inl s ↦ (m, subst (λ z. b z ≡ Some m) s e, l) | inr s ↦ g.0 k s ]), (g.1.0, inr g.1.1, g.1.2)))
      | inr l ↦ inl (m, ((λ k a. elim a [ inl s ↦ (m, subst (λ z. b z ≡ Some m) s e, omega arith) | inr s ↦ (let o = g.0 k s in (o.0, o.1, (let v = o.2 in omega (arith, v, l)))) ]), (q, inl refl, e)))
    ]
      where
        larger : (m c : ℕ) → (m ≤ c) ⊎ (c ≤ m)
        larger m c = grind (arith)

pub settled_or_not : (plan : Plan) (ks : List Key) (Barred : Key → Type 0) (f : Key → Phase) (b : Key → Option ℕ) → Spread plan ks Barred f b → ((c : ℕ) × IsSettled plan.writes b c) ⊎ ((c : ℕ) → IsSettled plan.writes b c → ⊥)
settled_or_not plan ks Barred f b i = by (b plan.primary) refl
  where
    written : IsListed plan ks → (k : Key) → IsAmong (plan.primary ∷ ks) k → (x : Content) × (plan.writes k ≡ Some x)
    written l k (inl e) = (l.1.0, subst (λ z. plan.writes z ≡ Some l.1.0) e l.1.1)
    written l k (inr a) = l.2 k a

    among : IsListed plan ks → (k : Key) (x : Content) → plan.writes k ≡ Some x → IsAmong (plan.primary ∷ ks) k
    among l k x w = elim (l.0 k x w) [ inl e ↦ inl (sym e) | inr a ↦ inr a ]

    by : (o : Option ℕ) → b plan.primary ≡ o → ((c : ℕ) × IsSettled plan.writes b c) ⊎ ((c : ℕ) → IsSettled plan.writes b c → ⊥)
    by None e = inr (λ c u. let t = u.attained in let l = (i.listed t.0 c t.3).1 in let m = (u.below plan.primary l.0 l.1).1 in absurd (cc))
    by (Some m) e = let l = i.listed plan.primary m e in elim (greatest b plan.primary ks) [
      | inl c ↦ inl (c.0, record { below = λ k x w. c.1.0 k (among l k x w); attained = (let o = c.1.1 in let y = written l o.0 o.1 in (o.0, y.0, y.1, o.2)) })
      | inr n ↦ inr (λ c u. let y = written l n.0 n.1 in let o = (u.below n.0 y.0 y.1).1 in let z = n.2 in absurd (cc))
    ]

-- What a reply without error to an async Prewrite of these keys tells by its bound: all of them have bounds up to it, and one has
-- it; or the decision is there, and it.
abbrev pub ToldBound : (Key → Option Content) → (Key → Option ℕ) → (Key → Type 0) → ℕ → Type 0
ToldBound writes b Of c = (((k : Key) → Of k → (m : ℕ) × (b k ≡ Some m) × (m ≤ c)) × ((k : Key) × (x : Content) × (writes k ≡ Some x) × (b k ≡ Some c))) ⊎ IsSettled writes b c

-- who was told bounds for all keys, of which c is the greatest, finds them decided at c
pub all_told : (writes : Key → Option Content) (b : Key → Option ℕ) (c : ℕ)
    → ((k : Key) (x : Content) → writes k ≡ Some x → (Of : Key → Type 0) × (m : ℕ) × ToldBound writes b Of m × Of k × (m ≤ c))
    → ((Of : Key → Type 0) × ToldBound writes b Of c)
    → IsSettled writes b c
all_told writes b c each top = record { below = below; attained = elim top.1 [ inl t ↦ t.1 | inr u ↦ u.attained ] }
  where
    below : AllBound writes b c
    below k x w = let e = each k x w in let l = e.4 in elim e.2 [
      | inl t ↦ (let o = t.0 k e.3 in (o.0, o.1, (let v = o.2 in omega (arith, v, l))))
      | inr u ↦ (let o = u.below k x w in (o.0, o.1, (let v = o.2 in omega (arith, v, l))))
    ]
