-- What stays on a way of several steps, and one-phase commits as such a way.
use Rattle.std.proofs.Common.{◌≡◌, ℕ, ◌⊎◌, inl, inr, Bool, true, false, List, Option, Some, refl, sym, ap, ◌∙◌, subst, arith}
use Rattle.std.specs.Prelude.{if◌then◌else◌}
use Rattle.txn_history.specs.Plan.{Key, Content, Plan, IsListed}
use Rattle.txn_model.specs.Cells.{key_eq}
use Rattle.txn_model.proofs.Keys.{same_key, key_itself}
use Rattle.txn_law.proofs.Phases.{Phase, Move, Goes}
use Rattle.txn_law.proofs.Phases.Phase.{Free, Locked, Committed, RolledBack}
use Rattle.txn_law.proofs.Phases.Move.{Locks, Commits}
use Rattle.txn_law.proofs.Coherent.{IsDecidedAt, IsHeld, AllHeld, Warrant, Change, Coherent, commit_stays, rollback_stays, held_stays, coherent_kept, warrant_stays}
use Rattle.txn_law.proofs.Spread.{IsSettled, IsLost, Walk, Spread, spread_kept, bound_stays, settled_stays, lost_stays, ended_stays}
use Rattle.txn_law.proofs.Spread.Walk.{Rests, Binds, Ends}

-- In two phases.

pub record Stays (plan : Plan) (Named : ℕ → Type 0) (f g : Key → Phase) : Type 0 where
  pub coherent : Coherent plan Named g
  pub committed : (k : Key) (c : ℕ) (x : Content) → f k ≡ Committed c x → g k ≡ Committed c x
  pub rolled : (k : Key) → f k ≡ RolledBack → g k ≡ RolledBack
  pub held : (k : Key) → IsHeld plan f k → IsHeld plan g k
  pub warrant : (k : Key) (before : Phase) (m : Move) → Warrant plan Named f k before m → Warrant plan Named g k before m

pub stays_step : (plan : Plan) (Named : ℕ → Type 0) (f g : Key → Phase) → Coherent plan Named f → ((k : Key) → Change plan Named f k (g k)) → Stays plan Named f g
stays_step plan Named f g i h = record {
  coherent = coherent_kept plan Named f g i h;
  committed = λ k c x e. commit_stays plan Named f k (g k) c x (h k) e;
  rolled = λ k e. rollback_stays plan Named f k (g k) (h k) e;
  held = λ k e. held_stays plan Named f g i h k e;
  warrant = λ k before m w. warrant_stays plan Named f g i h k before m w;
}

pub stays_on : (plan : Plan) (Named : ℕ → Type 0) (f g h : Key → Phase) → Stays plan Named f g → Stays plan Named g h → Stays plan Named f h
stays_on plan Named f g h a b = record {
  coherent = b.coherent;
  committed = λ k c x e. b.committed k c x (a.committed k c x e);
  rolled = λ k e. b.rolled k (a.rolled k e);
  held = λ k e. b.held k (a.held k e);
  warrant = λ k before m w. b.warrant k before m (a.warrant k before m w);
}

-- where a key stands before it is committed at once: locked
abbrev pub mid : Key → Phase → Phase → Phase
mid p Free (Committed c x) = Locked p x
mid p Free _ = Free
mid p (Locked q y) _ = Locked q y
mid p (Committed d y) _ = Committed d y
mid p RolledBack _ = RolledBack

mid_same : (p : Key) (o : Phase) → mid p o o ≡ o
mid_same p Free = refl
mid_same p (Locked q y) = refl
mid_same p (Committed d y) = refl
mid_same p RolledBack = refl

abbrev pub Lands : Plan → ℕ → (Key → Phase) → (Key → Phase) → Key → Type 0
Lands plan c f g k = (x : Content) × (plan.writes k ≡ Some x) × (f k ≡ Free) × (g k ≡ Committed c x)

-- All keys that are written are committed at once, and no other key moves.
pub record LandsAll (plan : Plan) (c : ℕ) (f g : Key → Phase) : Type 0 where
  pub written : (x : Content) × (plan.writes plan.primary ≡ Some x)
  pub all : (k : Key) (x : Content) → plan.writes k ≡ Some x → Lands plan c f g k
  pub each : (k : Key) → (g k ≡ f k) ⊎ Lands plan c f g k

module _ (plan : Plan) (c : ℕ) (f g : Key → Phase) (l : LandsAll plan c f g) where
  abbrev pub locked : Key → Phase
  locked k = mid plan.primary (f k) (g k)

  abbrev first : Key → Phase
  first k = if key_eq k plan.primary then g k else locked k

  locked_same : (k : Key) → g k ≡ f k → locked k ≡ f k
  locked_same k e = ap (mid plan.primary (f k)) e ∙ mid_same plan.primary (f k)

  locked_lands : (k : Key) (x : Content) → f k ≡ Free → g k ≡ Committed c x → locked k ≡ Locked plan.primary x
  locked_lands k x e d = rw (e, d) refl

  module _ (Named : ℕ → Type 0) (i : Coherent plan Named f) (name : Named c) where
    all_locked : (k : Key) → Change plan Named f k (locked k)
    all_locked k = elim (l.each k) [
      | inl e ↦ inl (locked_same k e)
      | inr t ↦ inr (Locks plan.primary t.0, (refl, t.1), subst (λ o. Goes o (Locks plan.primary t.0) (locked k)) (sym t.2) (locked_lands k t.0 t.2 t.3))
    ]

    step_locked : Stays plan Named f locked
    step_locked = stays_step plan Named f locked i all_locked

    all_held : AllHeld plan locked
    all_held k x w = let t = l.all k x w in let z = locked_lands k t.0 t.2 t.3 in inl (rw z tt)

    primary_commits : (k : Key) → Change plan Named locked k (first k)
    primary_commits k = by (key_eq k plan.primary) refl
      where
        by : (b : Bool) → key_eq k plan.primary ≡ b → Change plan Named locked k (if b then g k else locked k)
        by false e = inl refl
        by true e =
            let at : k ≡ plan.primary = same_key k plan.primary e in
            let t = subst (Lands plan c f g) (sym at) (l.all plan.primary l.written.0 l.written.1) in
            let z = locked_lands k t.0 t.2 t.3 in
            inr (Commits c, inl (at, all_held, name), subst (λ o. Goes o (Commits c) (g k)) (sym z) t.3)

    step_first : Stays plan Named locked first
    step_first = stays_step plan Named locked first step_locked.coherent primary_commits

    decided : IsDecidedAt plan first c
    decided = let t = l.all plan.primary l.written.0 l.written.1 in (t.0, (let e = key_itself plan.primary in rw e t.3))

    others_commit : (k : Key) → Change plan Named first k (g k)
    others_commit k = by (key_eq k plan.primary) refl
      where
        by : (b : Bool) → key_eq k plan.primary ≡ b → Change plan Named first k (g k)
        by true e = inl (rw e refl)
        by false e = elim (l.each k) [
          | inl d ↦ inl (let z = locked_same k d in rw e (d ∙ sym z))
          | inr t ↦ inr (Commits c, inr decided, (let z = locked_lands k t.0 t.2 t.3 in let here : first k ≡ Locked plan.primary t.0 = rw e z in subst (λ o. Goes o (Commits c) (g k)) (sym here) t.3))
        ]

    step_others : Stays plan Named first g
    step_others = stays_step plan Named first g step_first.coherent others_commit

    -- as if they were locked, then the primary committed, and then the others
    pub lands_stays : Stays plan Named f g
    lands_stays = stays_on plan Named f first g (stays_on plan Named f locked first step_locked step_first) step_others

-- Spread over the keys.

pub record GoesOn (plan : Plan) (ks : List Key) (Barred More : Key → Type 0) (f g : Key → Phase) (b d : Key → Option ℕ) : Type 0 where
  pub spread : Spread plan ks More g d
  pub bound : (k : Key) (m : ℕ) → b k ≡ Some m → d k ≡ Some m
  pub settled : (c : ℕ) → IsSettled plan.writes b c → IsSettled plan.writes d c
  pub lost : IsLost plan.writes Barred f b → IsLost plan.writes More g d
  pub committed : (k : Key) (c : ℕ) (x : Content) → f k ≡ Committed c x → g k ≡ Committed c x
  pub rolled : (k : Key) → f k ≡ RolledBack → g k ≡ RolledBack

pub goes_step : (plan : Plan) (ks : List Key) (Barred More : Key → Type 0) (f g : Key → Phase) (b d : Key → Option ℕ) → ((k : Key) → Barred k → More k) → Spread plan ks Barred f b → ((k : Key) → Walk plan ks Barred f b k (g k) (d k)) → GoesOn plan ks Barred More f g b d
goes_step plan ks Barred More f g b d more i h = record {
  spread = spread_kept plan ks Barred More f g b d more i h;
  bound = bound_stays plan ks Barred More f g b d more i h;
  settled = settled_stays plan ks Barred More f g b d more i h;
  lost = lost_stays plan ks Barred More f g b d more i h;
  committed = λ k c x e. (ended_stays plan ks Barred f b k (g k) (d k) (h k)).0 c x e;
  rolled = λ k e. (ended_stays plan ks Barred f b k (g k) (d k) (h k)).1 e;
}

pub goes_on : (plan : Plan) (ks : List Key) (A B C : Key → Type 0) (f g h : Key → Phase) (b d e : Key → Option ℕ) → GoesOn plan ks A B f g b d → GoesOn plan ks B C g h d e → GoesOn plan ks A C f h b e
goes_on plan ks A B C f g h b d e u v = record {
  spread = v.spread;
  bound = λ k m w. v.bound k m (u.bound k m w);
  settled = λ c w. v.settled c (u.settled c w);
  lost = λ w. v.lost (u.lost w);
  committed = λ k c x w. v.committed k c x (u.committed k c x w);
  rolled = λ k w. v.rolled k (u.rolled k w);
}

module _ (plan : Plan) (ks : List Key) (Barred More : Key → Type 0) (f g : Key → Phase) (b d : Key → Option ℕ) (c : ℕ) (more : (k : Key) → Barred k → More k) (i : Spread plan ks Barred f b) (listed : IsListed plan ks)
    (l : LandsAll plan c f g) (rest : (k : Key) → g k ≡ f k → d k ≡ b k) (land : (k : Key) → Lands plan c f g k → d k ≡ Some c) (open_now : (k : Key) → Lands plan c f g k → Barred k → ⊥) where
  all_bind : (k : Key) → Walk plan ks Barred f b k (locked plan c f g l k) (d k)
  all_bind k = elim (l.each k) [
    | inl e ↦ subst (λ o. Walk plan ks Barred f b k o (d k)) (sym (locked_same plan c f g l k e)) (subst (Walk plan ks Barred f b k (f k)) (sym (rest k e)) Rests)
    | inr t ↦ subst (λ o. Walk plan ks Barred f b k o (d k)) (sym (locked_lands plan c f g l k t.0 t.2 t.3)) (subst (Walk plan ks Barred f b k (Locked plan.primary t.0)) (sym (land k t)) (Binds t.0 c t.2 t.1 listed (open_now k t)))
  ]

  step_bind : GoesOn plan ks Barred More f (locked plan c f g l) b d
  step_bind = goes_step plan ks Barred More f (locked plan c f g l) b d more i all_bind

  settled_now : IsSettled plan.writes d c
  settled_now = record { below = λ k x w. (c, land k (l.all k x w), omega arith); attained = (plan.primary, l.written.0, l.written.1, land plan.primary (l.all plan.primary l.written.0 l.written.1)) }

  all_end : (k : Key) → Walk plan ks More (locked plan c f g l) d k (g k) (d k)
  all_end k = elim (l.each k) [
    | inl e ↦ subst (λ o. Walk plan ks More (locked plan c f g l) d k o (d k)) (locked_same plan c f g l k e ∙ sym e) Rests
    | inr t ↦ subst (λ o. Walk plan ks More (locked plan c f g l) d k o (d k)) (sym t.3) (Ends plan.primary t.0 c (locked_lands plan c f g l k t.0 t.2 t.3) settled_now)
  ]

  -- as if all were bound at c, and then committed
  pub lands_goes : GoesOn plan ks Barred More f g b d
  lands_goes = goes_on plan ks Barred More More f (locked plan c f g l) g b d d step_bind (goes_step plan ks More More (locked plan c f g l) g d d (λ k o. o) step_bind.spread all_end)
