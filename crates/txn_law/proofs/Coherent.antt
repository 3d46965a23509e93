-- The phases of one start at all keys hang together, and warranted moves keep them so. Nothing here is about requests.
use Rattle.std.proofs.Common.{◌≡◌, ℕ, ◌⊎◌, inl, inr, Some, refl, ◌∙◌, subst, arith}
use Rattle.txn_history.specs.Plan.{Key, Content, Plan}
use Rattle.txn_law.proofs.Phases.{Phase, Move, Goes}
use Rattle.txn_law.proofs.Phases.Phase.{Free, Locked, Committed, RolledBack}
use Rattle.txn_law.proofs.Phases.Move.{Locks, Commits, Rolls}

-- the primary holds a commit at c
abbrev pub IsDecidedAt : Plan → (Key → Phase) → ℕ → Type 0
IsDecidedAt plan f c = (y : Content) × (f plan.primary ≡ Committed c y)

abbrev pub IsLockedOrCommitted : Phase → Type 0
IsLockedOrCommitted (Locked p x) = Unit {0}
IsLockedOrCommitted (Committed c x) = Unit {0}
IsLockedOrCommitted _ = ⊥

-- a key that was acknowledged: it has its lock or its commit, or both it and the primary are rolled back
abbrev pub IsHeld : Plan → (Key → Phase) → Key → Type 0
IsHeld plan f k = IsLockedOrCommitted (f k) ⊎ ((f k ≡ RolledBack) × (f plan.primary ≡ RolledBack))

abbrev pub AllHeld : Plan → (Key → Phase) → Type 0
AllHeld plan f = (k : Key) (x : Content) → plan.writes k ≡ Some x → IsHeld plan f k

pub held_begun : (plan : Plan) (f : Key → Phase) (k : Key) → IsHeld plan f k → f k ≡ Free → ⊥
held_begun plan f k h e = grind arith

-- What has to hold for a move of a key from where it stands; each part stays true. A key that isn't locked may be rolled
-- back at any time: it was missed.
abbrev pub Warrant : Plan → (ℕ → Type 0) → (Key → Phase) → Key → Phase → Move → Type 0
Warrant plan Named f k before (Locks p x) = (p ≡ plan.primary) × (plan.writes k ≡ Some x)
Warrant plan Named f k before (Commits c) = ((k ≡ plan.primary) × AllHeld plan f × Named c) ⊎ IsDecidedAt plan f c
Warrant plan Named f k before Rolls = (p : Key) (x : Content) → before ≡ Locked p x → (k ≡ plan.primary) ⊎ (f plan.primary ≡ RolledBack)

abbrev pub Change : Plan → (ℕ → Type 0) → (Key → Phase) → Key → Phase → Type 0
Change plan Named f k after = (after ≡ f k) ⊎ ((m : Move) × Warrant plan Named f k (f k) m × Goes (f k) m after)

pub record Coherent (plan : Plan) (Named : ℕ → Type 0) (f : Key → Phase) : Type 0 where
  pub locked : (k p : Key) (x : Content) → f k ≡ Locked p x → (p ≡ plan.primary) × (plan.writes k ≡ Some x)
  pub committed : (k : Key) (c : ℕ) (x : Content) → f k ≡ Committed c x → (plan.writes k ≡ Some x) × IsDecidedAt plan f c
  pub named : (c : ℕ) → IsDecidedAt plan f c → Named c
  pub whole : (c : ℕ) → IsDecidedAt plan f c → (k : Key) (x : Content) → plan.writes k ≡ Some x → (f k ≡ Locked plan.primary x) ⊎ (f k ≡ Committed c x)

-- A commit stays, a rollback stays, and what has begun stays so.
pub commit_stays : (plan : Plan) (Named : ℕ → Type 0) (f : Key → Phase) (k : Key) (after : Phase) (c : ℕ) (x : Content) → Change plan Named f k after → f k ≡ Committed c x → after ≡ Committed c x
commit_stays plan Named f k after c x h e = grind arith

pub rollback_stays : (plan : Plan) (Named : ℕ → Type 0) (f : Key → Phase) (k : Key) (after : Phase) → Change plan Named f k after → f k ≡ RolledBack → after ≡ RolledBack
rollback_stays plan Named f k after h e = grind arith

pub lock_goes : (plan : Plan) (Named : ℕ → Type 0) (f : Key → Phase) (k : Key) (after : Phase) (p : Key) (x : Content) → Change plan Named f k after → f k ≡ Locked p x → (after ≡ Locked p x) ⊎ ((c : ℕ) × (after ≡ Committed c x)) ⊎ ((after ≡ RolledBack) × ((k ≡ plan.primary) ⊎ (f plan.primary ≡ RolledBack)))
lock_goes plan Named f k after p x (inl a) e = inl (a ∙ e)
lock_goes plan Named f k after p x (inr a) e = by_move a.0 a.1 (subst (λ o. Goes o a.0 after) e a.2)
  where
    by_move : (m : Move) → Warrant plan Named f k (f k) m → Goes (Locked p x) m after → (after ≡ Locked p x) ⊎ ((c : ℕ) × (after ≡ Committed c x)) ⊎ ((after ≡ RolledBack) × ((k ≡ plan.primary) ⊎ (f plan.primary ≡ RolledBack)))
    by_move (Locks q y) w g = absurd g
    by_move (Commits c) w g = inr (inl (c, g))
    by_move Rolls w g = inr (inr (g, w p x e))

locked_from : (plan : Plan) (Named : ℕ → Type 0) (f : Key → Phase) (k : Key) (after : Phase) (p : Key) (x : Content) → Coherent plan Named f → Change plan Named f k after → after ≡ Locked p x → (p ≡ plan.primary) × (plan.writes k ≡ Some x)
locked_from plan Named f k after p x i h e = grind (arith, i.locked k p x)

-- a commit that is there was there, or comes from a lock by a warranted move
commit_from : (plan : Plan) (Named : ℕ → Type 0) (f : Key → Phase) (k : Key) (after : Phase) (c : ℕ) (x : Content) → Change plan Named f k after → after ≡ Committed c x → (f k ≡ Committed c x) ⊎ ((p : Key) × (f k ≡ Locked p x) × (((k ≡ plan.primary) × AllHeld plan f × Named c) ⊎ IsDecidedAt plan f c))
commit_from plan Named f k after c x h e = grind arith

module _ (plan : Plan) (Named : ℕ → Type 0) (f g : Key → Phase) (i : Coherent plan Named f) (h : (k : Key) → Change plan Named f k (g k)) where
  decided_stays : (c : ℕ) → IsDecidedAt plan f c → IsDecidedAt plan g c
  decided_stays c d = (d.0, commit_stays plan Named f plan.primary (g plan.primary) c d.0 (h plan.primary) d.1)

  primary_rolled_stays : f plan.primary ≡ RolledBack → g plan.primary ≡ RolledBack
  primary_rolled_stays e = rollback_stays plan Named f plan.primary (g plan.primary) (h plan.primary) e

  -- the commit of a key comes with that of the primary
  committed_kept : (k : Key) (c : ℕ) (x : Content) → g k ≡ Committed c x → (plan.writes k ≡ Some x) × IsDecidedAt plan g c
  committed_kept k c x e = by_cause (commit_from plan Named f k (g k) c x (h k) e)
    where
      by_cause : (f k ≡ Committed c x) ⊎ ((p : Key) × (f k ≡ Locked p x) × (((k ≡ plan.primary) × AllHeld plan f × Named c) ⊎ IsDecidedAt plan f c)) → (plan.writes k ≡ Some x) × IsDecidedAt plan g c
      by_cause (inl o) = ((i.committed k c x o).0, decided_stays c (i.committed k c x o).1)
      by_cause (inr w) = ((i.locked k w.0 x w.1).1, elim w.2 [ inl a ↦ (x, subst (λ q. g q ≡ Committed c x) a.0 e) | inr d ↦ decided_stays c d ])

  named_kept : (c : ℕ) → IsDecidedAt plan g c → Named c
  named_kept c d = by_cause (commit_from plan Named f plan.primary (g plan.primary) c d.0 (h plan.primary) d.1)
    where
      by_cause : (f plan.primary ≡ Committed c d.0) ⊎ ((p : Key) × (f plan.primary ≡ Locked p d.0) × (((plan.primary ≡ plan.primary) × AllHeld plan f × Named c) ⊎ IsDecidedAt plan f c)) → Named c
      by_cause (inl o) = i.named c (d.0, o)
      by_cause (inr w) = elim w.2 [ inl a ↦ a.2 | inr o ↦ i.named c o ]

  -- what is held stays held
  pub held_stays : (k : Key) → IsHeld plan f k → IsHeld plan g k
  held_stays k (inr r) = inr (rollback_stays plan Named f k (g k) (h k) r.0, primary_rolled_stays r.1)
  held_stays k (inl o) = by_phase (f k) refl o
    where
      by_goes : (p : Key) (x : Content) → (g k ≡ Locked p x) ⊎ ((c : ℕ) × (g k ≡ Committed c x)) ⊎ ((g k ≡ RolledBack) × ((k ≡ plan.primary) ⊎ (f plan.primary ≡ RolledBack))) → IsHeld plan g k
      by_goes p x (inl e) = inl (rw e tt)
      by_goes p x (inr (inl e)) = inl (rw e.1 tt)
      by_goes p x (inr (inr e)) = inr (e.0, elim e.1 [ inl q ↦ subst (λ z. g z ≡ RolledBack) q e.0 | inr r ↦ primary_rolled_stays r ])

      by_phase : (o : Phase) → f k ≡ o → IsLockedOrCommitted o → IsHeld plan g k
      by_phase (Locked p x) e q = by_goes p x (lock_goes plan Named f k (g k) p x (h k) e)
      by_phase (Committed c x) e q = inl (rw (commit_stays plan Named f k (g k) c x (h k) e) tt)
      by_phase _ e q = absurd q

  -- once the primary is committed, a lock becomes a commit at its timestamp or stays
  whole_on : (c : ℕ) → IsDecidedAt plan f c → (k : Key) (x : Content) → plan.writes k ≡ Some x → (g k ≡ Locked plan.primary x) ⊎ (g k ≡ Committed c x)
  whole_on c d k x w = elim (i.whole c d k x w) [
    | inl e ↦ by_goes (lock_goes plan Named f k (g k) plan.primary x (h k) e)
    | inr e ↦ inr (commit_stays plan Named f k (g k) c x (h k) e)
  ]
    where
      by_goes : (g k ≡ Locked plan.primary x) ⊎ ((c : ℕ) × (g k ≡ Committed c x)) ⊎ ((g k ≡ RolledBack) × ((k ≡ plan.primary) ⊎ (f plan.primary ≡ RolledBack))) → (g k ≡ Locked plan.primary x) ⊎ (g k ≡ Committed c x)
      by_goes (inl e) = inl e
      by_goes (inr (inl e)) = inr (let o = (committed_kept k e.0 x e.1).1.1 in let u = (decided_stays c d).1 in let q : e.0 ≡ c = cc in subst (λ z. g k ≡ Committed z x) q e.1)
      by_goes (inr (inr e)) = absurd (let u = d.1 in let v = (decided_stays c d).1 in elim e.1 [ inl q ↦ (let z : g plan.primary ≡ RolledBack = subst (λ z. g z ≡ RolledBack) q e.0 in absurd (cc)) | inr r ↦ absurd (cc) ])

  -- while the primary is locked, each key that is held is locked
  all_locked : (p : Key) (y : Content) → f plan.primary ≡ Locked p y → (k : Key) (x : Content) → plan.writes k ≡ Some x → IsHeld plan f k → f k ≡ Locked plan.primary x
  all_locked p y e k x w (inr r) = absurd (let u = r.1 in cc)
  all_locked p y e k x w (inl a) = by_phase (f k) refl a
    where
      by_phase : (o : Phase) → f k ≡ o → IsLockedOrCommitted o → f k ≡ Locked plan.primary x
      by_phase (Locked q z) o b = grind (arith, i.locked k q z o)
      by_phase (Committed d z) o b = absurd (let u = (i.committed k d z o).1.1 in cc)
      by_phase _ o b = absurd b

  -- as the primary is committed, they are all locked or committed
  whole_new : (c : ℕ) (p : Key) (y : Content) → f plan.primary ≡ Locked p y → g plan.primary ≡ Committed c y → AllHeld plan f → (k : Key) (x : Content) → plan.writes k ≡ Some x → (g k ≡ Locked plan.primary x) ⊎ (g k ≡ Committed c x)
  whole_new c p y e u a k x w = by_goes (lock_goes plan Named f k (g k) plan.primary x (h k) (all_locked p y e k x w (a k x w)))
    where
      by_goes : (g k ≡ Locked plan.primary x) ⊎ ((d : ℕ) × (g k ≡ Committed d x)) ⊎ ((g k ≡ RolledBack) × ((k ≡ plan.primary) ⊎ (f plan.primary ≡ RolledBack))) → (g k ≡ Locked plan.primary x) ⊎ (g k ≡ Committed c x)
      by_goes (inl o) = inl o
      by_goes (inr (inl o)) = inr (let v = (committed_kept k o.0 x o.1).1.1 in let q : o.0 ≡ c = cc in subst (λ z. g k ≡ Committed z x) q o.1)
      by_goes (inr (inr o)) = absurd (elim o.1 [ inl q ↦ (let z : g plan.primary ≡ RolledBack = subst (λ z. g z ≡ RolledBack) q o.0 in absurd (cc)) | inr r ↦ absurd (cc) ])

  whole_kept : (c : ℕ) → IsDecidedAt plan g c → (k : Key) (x : Content) → plan.writes k ≡ Some x → (g k ≡ Locked plan.primary x) ⊎ (g k ≡ Committed c x)
  whole_kept c d k x w = by_cause (commit_from plan Named f plan.primary (g plan.primary) c d.0 (h plan.primary) d.1)
    where
      by_cause : (f plan.primary ≡ Committed c d.0) ⊎ ((p : Key) × (f plan.primary ≡ Locked p d.0) × (((plan.primary ≡ plan.primary) × AllHeld plan f × Named c) ⊎ IsDecidedAt plan f c)) → (g k ≡ Locked plan.primary x) ⊎ (g k ≡ Committed c x)
      by_cause (inl o) = whole_on c (d.0, o) k x w
      by_cause (inr v) = elim v.2 [ inl a ↦ whole_new c v.0 d.0 v.1 d.1 a.1 k x w | inr o ↦ whole_on c o k x w ]

  -- Warranted moves keep the phases coherent.
  pub coherent_kept : Coherent plan Named g
  coherent_kept = record {
    locked = λ k p x e. locked_from plan Named f k (g k) p x i (h k) e;
    committed = committed_kept;
    named = named_kept;
    whole = whole_kept;
  }

-- The same with more names.
pub warrant_more : (plan : Plan) (N M : ℕ → Type 0) (f : Key → Phase) → ((c : ℕ) → N c → M c) → (k : Key) (before : Phase) (m : Move) → Warrant plan N f k before m → Warrant plan M f k before m
warrant_more plan N M f h k before (Locks p x) w = w
warrant_more plan N M f h k before (Commits c) w = elim w [ inl a ↦ inl (a.0, a.1, h c a.2) | inr d ↦ inr d ]
warrant_more plan N M f h k before Rolls w = w

pub coherent_more : (plan : Plan) (N M : ℕ → Type 0) (f : Key → Phase) → ((c : ℕ) → N c → M c) → Coherent plan N f → Coherent plan M f
coherent_more plan N M f h i = record { locked = i.locked; committed = i.committed; named = λ c d. h c (i.named c d); whole = i.whole }

-- A warrant stays.
pub warrant_stays : (plan : Plan) (N : ℕ → Type 0) (f g : Key → Phase) → Coherent plan N f → ((k : Key) → Change plan N f k (g k)) → (k : Key) (before : Phase) (m : Move) → Warrant plan N f k before m → Warrant plan N g k before m
warrant_stays plan N f g i h k before (Locks p x) w = w
warrant_stays plan N f g i h k before (Commits c) w = elim w [ inl a ↦ inl (a.0, (λ q x e. held_stays plan N f g i h q (a.1 q x e)), a.2) | inr d ↦ inr (d.0, commit_stays plan N f plan.primary (g plan.primary) c d.0 (h plan.primary) d.1) ]
warrant_stays plan N f g i h k before Rolls w = λ p x e. elim (w p x e) [ inl q ↦ inl q | inr r ↦ inr (rollback_stays plan N f plan.primary (g plan.primary) (h plan.primary) r) ]
