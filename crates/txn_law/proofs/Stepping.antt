-- How the phases and bounds of each start go on as a request is served.
use Rattle.std.proofs.Common.{◌≡◌, ℕ, inl, inr, true, false, List, ◌∷◌, Option, Some, refl, sym, ap, ◌∙◌, subst, subst₂}
use Rattle.txn_kv.specs.declared.ticket.Ticket.{Ticket}
use Rattle.txn_kv.specs.declared.request.Request.{Request}
use Rattle.txn_kv.specs.declared.request.Request.TheVariants.{Prewrite, PessimisticLock}
use Rattle.txn_kv.specs.declared.reply.Reply.{Reply}
use Rattle.txn_history.specs.Event.{Event, Has}
use Rattle.txn_history.specs.Event.Event.{Sent, Served}
use Rattle.txn_history.specs.Plan.{Key, Content, Plan, LocksKey, Way}
use Rattle.txn_model.specs.declared.cell.Lock.{Lock}
use Rattle.txn_model.specs.Cells.{cell_at}
use Rattle.txn_model.specs.Locks.{is_prewrite, owns, or_earlier}
use Rattle.txn_model.specs.Store.{Store}
use Rattle.txn_history.specs.Plan.Way.{TwoPhases, Spread}
use Rattle.txn_model.specs.Table.{table}
use Rattle.txn_law.specs.Run.{store_after, IsUnserved, IsRoomy}
use Rattle.txn_law.specs.Sound.{IsTimely}
use Rattle.txn_law.specs.Whole.{content}
use Rattle.txn_law.proofs.Phases.{Phase, Move, Goes, IsSound}
use Rattle.txn_law.proofs.Phases.Phase.{Free, Locked, Committed, RolledBack}
use Rattle.txn_law.proofs.Phases.Move.{Locks, Commits, Rolls}
use Rattle.txn_law.proofs.Coherent.{Change, coherent_more, warrant_more}
use Rattle.txn_law.proofs.Replies.{committed_phase, phases, DecidedIn, DecidedBy}
use Rattle.txn_law.proofs.Spread.{Walk}
use Rattle.txn_law.proofs.Spread.Walk.{Rests, Binds, Ends, Misses, Undoes}
use Rattle.txn_law.proofs.Moves.{May, CellStep, RowStep, bound_in, sound_after, may_lock}
use Rattle.txn_law.proofs.Rows.{row}
use Rattle.txn_law.proofs.Paths.{stays_step, goes_step}
use Rattle.txn_law.proofs.Bounds.{bounds, bound_now, own_lock, now_locked, now_free, now_rolled, now_committed, lock_after, owned, owner, same_lock}
use Rattle.txn_law.proofs.Prewritten.{is_once, stepwise_outcome}
use Rattle.txn_law.proofs.Invariant.{NamedBy, named_more, replied_more, IsBarred, HangIn, SpreadWarrant, WarrantIn, IsAbove, PrewriteFacts, AdvanceIn, OwnIs, Inv}
use Rattle.txn_law.proofs.Taken.{hang, cell_facts, settled_above}
use Rattle.txn_law.proofs.Sent.{quiet_in, spread_of}
use Rattle.txn_law.proofs.Spread as spread

-- a move by a lock is that of a Prewrite
module _ (plans : ℕ → Plan) (es : List Event) (i : Inv plans es) (n : Ticket) (r : Request) (o : Reply) (sent : Has es (Sent n r)) (unserved : IsUnserved es n) where
  abbrev st : Store
  st = store_after es

  abbrev new : Store
  new = (table st r).store

  abbrev e : Event
  e = Served n r o

  abbrev f : ℕ → Key → Phase
  f s = phases st s

  abbrev g : ℕ → Key → Phase
  g s = phases new s

  abbrev b : ℕ → Key → Option ℕ
  b s = bounds es s

  abbrev d : ℕ → Key → Option ℕ
  d s k = bound_now (cell_at new.cells k) s (b s k)

  -- a decision is above the start and each pessimistic lock of it
  pub decided_above : (s c : ℕ) → DecidedBy (plans s) (f s) (b s) c → IsAbove (plans s) es s c
  decided_above s c u = by (plans s).way refl (i.hang s) u
    where
      by : (way : Way) → (plans s).way ≡ way → HangIn (plans s) way (NamedBy (plans s) es s) (IsBarred es s) (f s) (b s) → DecidedIn (plans s) way (f s) (b s) c → IsAbove (plans s) es s c
      by TwoPhases w h v = elim (h.named c v) [ inl m ↦ (i.named s c m.0).1 | inr m ↦ (i.landed s c w m).1 ]
      by (Spread ks) w h v = settled_above plans es i s ks c w v

  timely : (q : Request) → r ≡ q → IsTimely st q
  timely (PessimisticLock q) w = λ k v c.
      let h = (hang plans es i q.start_version).committed k v.commit (content v.kind v.value) (committed_phase (cell_at st.cells k) q.start_version v (i.sound k) c) in
      (decided_above q.start_version v.commit h.1).1 k (content v.kind v.value) h.0 n q (subst (λ z. Has es (Sent n z)) w sent) refl
  timely _ w = tt

  pub rows : RowStep st r new.cells
  rows = row st r (i.warranted n r sent).0 (timely r refl) i.in_order

  pub step : (k : Key) → CellStep (bound_in st r) r k (cell_at st.cells k) (cell_at new.cells k)
  step k = rows.step k (i.sound k)

  pub sound_now : (k : Key) → IsSound (cell_at new.cells k)
  sound_now k = sound_after (bound_in st r) r k (cell_at st.cells k) (cell_at new.cells k) (i.sound k) (step k)

  pub barred_more : (s : ℕ) (k : Key) → IsBarred es s k → IsBarred (e ∷ es) s k
  barred_more s k h = ((h.0.0, h.0.1, inr h.0.2, h.0.3), λ t q v w l. elim v [ inl u ↦ absurd (cc) | inr u ↦ (let a = h.1 t q u w l in (a.0, replied_more es e t (Prewrite q) a.0 a.1, a.2)) ])

  -- a barred key is locked by no request that is served now
  pub unbarred : (s : ℕ) (k : Key) (p : Key) (x : Content) → May r k s (cell_at st.cells k) (Locks p x) → IsBarred es s k → ⊥
  unbarred s k p x m h =
      let q = may_lock r k s (cell_at st.cells k) p x m in
      let a = h.1 n q.0 (subst (λ z. Has es (Sent n z)) q.1 sent) (sym q.2) (q.3.0, x, q.3.1, q.3.2, q.3.3) in
      unserved (Prewrite q.0) a.0 a.1

  pub warrant : (s : ℕ) (k : Key) (m : Move) → May r k s (cell_at st.cells k) m → (way : Way) → (plans s).way ≡ way → WarrantIn (plans s) way (NamedBy (plans s) es s) (IsBarred es s) (f s) (b s) k (f s k) m
  warrant s k m h way w = subst (λ v. WarrantIn (plans s) v (NamedBy (plans s) es s) (IsBarred es s) (f s) (b s) k (f s k) m) w ((i.warranted n r sent).1 k s (cell_at st.cells k) m h (cell_facts plans es i s k))

  -- the bound of a lock that stands
  pub own_bound : (s : ℕ) (k p : Key) (x : Content) → f s k ≡ Locked p x → (l : Lock) × ((cell_at st.cells k).lock ≡ Some l) × (l.start ≡ s) × (is_prewrite l.kind ≡ true) × (b s k ≡ Some l.min_commit)
  own_bound s k p x h = let a = own_lock (cell_at st.cells k) s p x h in (a.lock, a.here, a.start, a.prewrite, (i.own s k a.lock a.here (owned a.lock s a.start a.prewrite)).bound)

  -- what is locked now, and what it was before
  pub now_own : (s : ℕ) (k p : Key) (x : Content) → g s k ≡ Locked p x → (l : Lock) × ((cell_at new.cells k).lock ≡ Some l) × (l.start ≡ s) × (is_prewrite l.kind ≡ true) × (d s k ≡ Some l.min_commit)
  now_own s k p x h = let a = own_lock (cell_at new.cells k) s p x h in (a.lock, a.here, a.start, a.prewrite, now_locked (cell_at new.cells k) s a.lock (b s k) a.here a.start a.prewrite)

  -- a lock that goes on keeps its bound
  locked_rests : (s : ℕ) (k p q : Key) (x y : Content) → f s k ≡ Locked p x → g s k ≡ Locked q y → d s k ≡ b s k
  locked_rests s k p q x y h w =
      let a = own_bound s k p x h in
      let z = now_own s k q y w in
      elim (lock_after (bound_in st r) r k (cell_at st.cells k) (cell_at new.cells k) (step k) z.0 z.1 z.3) [
        | inl t ↦ (let same = same_lock a.0 t.0 (sym a.1 ∙ t.1) in z.4 ∙ (ap Some (sym t.4 ∙ ap (λ (m : Lock). m.min_commit) (sym same)) ∙ sym a.4))
        | inr t ↦ absurd (let u = t.1 in let v = z.2 in let c = subst (λ m. owns m z.0.start ≡ false) a.1 u in let m = owned a.0 z.0.start (a.2 ∙ sym v) a.3 in cc)
      ]

  pub rests : (s : ℕ) (ks : List Key) → (plans s).way ≡ Spread ks → (k : Key) → g s k ≡ f s k → d s k ≡ b s k
  rests s ks w k h = by (f s k) refl
    where
      sp : spread.Spread (plans s) ks (IsBarred es s) (f s) (b s)
      sp = subst (λ v. HangIn (plans s) v (NamedBy (plans s) es s) (IsBarred es s) (f s) (b s)) w (i.hang s)

      by : (a : Phase) → f s k ≡ a → d s k ≡ b s k
      by Free u = now_free (cell_at new.cells k) s (b s k) (h ∙ u)
      by (Locked p x) u = locked_rests s k p p x x u (h ∙ u)
      by (Committed c x) u =
          let v = sp.committed k c x u in
          let m = v.1.below k x v.0 in
          let z = m.1 in
          now_committed (cell_at new.cells k) s c x (b s k) (sound_now k) (h ∙ u) ∙ (ap (λ q. or_earlier q (Some c)) z ∙ sym z)
      by RolledBack u = now_rolled (cell_at new.cells k) s (b s k) (sound_now k) (h ∙ u)

  pub change : (s : ℕ) → (plans s).way ≡ TwoPhases → is_once r ≡ false → (k : Key) → Change (plans s) (NamedBy (plans s) (e ∷ es) s) (f s) k (g s k)
  change s w c k = elim (stepwise_outcome (bound_in st r) r k s (cell_at st.cells k) (cell_at new.cells k) c (i.sound k) (step k)) [
    | inl u ↦ inl u
    | inr u ↦ inr (u.0, warrant_more (plans s) (NamedBy (plans s) es s) (NamedBy (plans s) (e ∷ es) s) (f s) (named_more (plans s) es e s) k (f s k) u.0 (warrant s k u.0 u.1 TwoPhases w), u.2)
  ]

  walk_move : (s : ℕ) (ks : List Key) → (plans s).way ≡ Spread ks → (k : Key) (m : Move) → May r k s (cell_at st.cells k) m → SpreadWarrant (plans s) ks (IsBarred es s) (f s) (b s) k (f s k) m → (a : Phase) → f s k ≡ a → Goes a m (g s k) → Walk (plans s) ks (IsBarred es s) (f s) (b s) k (g s k) (d s k)
  walk_move s ks w k (Locks p x) m v Free u h =
      let z = now_own s k p x h in
      let at : Locked (plans s).primary x ≡ g s k = sym (h ∙ ap (λ q. Locked q x) v.0) in
      subst₂ (Walk (plans s) ks (IsBarred es s) (f s) (b s) k) at (sym z.4) (Binds x z.0.min_commit u v.1 v.2 (unbarred s k p x m))
  walk_move s ks w k (Commits c) m v Free u h = absurd h
  walk_move s ks w k Rolls m v Free u h = subst₂ (Walk (plans s) ks (IsBarred es s) (f s) (b s) k) (sym h) (sym (now_rolled (cell_at new.cells k) s (b s k) (sound_now k) h)) (Misses u)
  walk_move s ks w k (Locks q y) m v (Locked p x) u h = absurd h
  walk_move s ks w k (Commits c) m v (Locked p x) u h =
      let a = own_bound s k p x u in
      let z = a.4 in
      let same : d s k ≡ b s k = now_committed (cell_at new.cells k) s c x (b s k) (sound_now k) h ∙ (ap (λ q. or_earlier q (Some c)) z ∙ sym z) in
      subst₂ (Walk (plans s) ks (IsBarred es s) (f s) (b s) k) (sym h) (sym same) (Ends p x c u v)
  walk_move s ks w k Rolls m v (Locked p x) u h = subst₂ (Walk (plans s) ks (IsBarred es s) (f s) (b s) k) (sym h) (sym (now_rolled (cell_at new.cells k) s (b s k) (sound_now k) h)) (Undoes p x u (v p x u))
  walk_move s ks w k m mm v (Committed c x) u h = absurd h
  walk_move s ks w k m mm v RolledBack u h = absurd h

  walk : (s : ℕ) (ks : List Key) → (plans s).way ≡ Spread ks → is_once r ≡ false → (k : Key) → Walk (plans s) ks (IsBarred es s) (f s) (b s) k (g s k) (d s k)
  walk s ks w c k = elim (stepwise_outcome (bound_in st r) r k s (cell_at st.cells k) (cell_at new.cells k) c (i.sound k) (step k)) [
    | inl u ↦ subst₂ (Walk (plans s) ks (IsBarred es s) (f s) (b s) k) (sym u) (sym (rests s ks w k u)) Rests
    | inr u ↦ walk_move s ks w k u.0 u.1 (warrant s k u.0 u.1 (Spread ks) w) (f s k) refl u.2
  ]

  -- a request that isn't all at once
  pub step_advance : is_once r ≡ false → (s : ℕ) → AdvanceIn (plans s) (plans s).way (NamedBy (plans s) (e ∷ es) s) (IsBarred es s) (IsBarred (e ∷ es) s) (f s) (g s) (b s) (d s)
  step_advance c s = by (plans s).way refl (i.hang s)
    where
      by : (way : Way) → (plans s).way ≡ way → HangIn (plans s) way (NamedBy (plans s) es s) (IsBarred es s) (f s) (b s) → AdvanceIn (plans s) way (NamedBy (plans s) (e ∷ es) s) (IsBarred es s) (IsBarred (e ∷ es) s) (f s) (g s) (b s) (d s)
      by TwoPhases w h = stays_step (plans s) (NamedBy (plans s) (e ∷ es) s) (f s) (g s) (coherent_more (plans s) (NamedBy (plans s) es s) (NamedBy (plans s) (e ∷ es) s) (f s) (named_more (plans s) es e s) h) (change s w c)
      by (Spread ks) w h = goes_step (plans s) ks (IsBarred es s) (IsBarred (e ∷ es) s) (f s) (g s) (b s) (d s) (barred_more s) h (walk s ks w c)

  -- a start that no key of moves
  pub still_advance : (s : ℕ) → ((k : Key) → g s k ≡ f s k) → AdvanceIn (plans s) (plans s).way (NamedBy (plans s) (e ∷ es) s) (IsBarred es s) (IsBarred (e ∷ es) s) (f s) (g s) (b s) (d s)
  still_advance s h = quiet_in (plans s) (plans s).way (NamedBy (plans s) es s) (NamedBy (plans s) (e ∷ es) s) (IsBarred es s) (IsBarred (e ∷ es) s) (f s) (g s) (b s) (d s) (named_more (plans s) es e s) (λ w. barred_more s) h (λ w k. let ks = spread_of (plans s).way w in rests s ks.0 ks.1 k (h k)) (i.hang s)

  -- the locks that stand now
  pub own_now : IsRoomy st → (s : ℕ) (k : Key) (l : Lock) → (cell_at new.cells k).lock ≡ Some l → owns (Some l) s ≡ true → OwnIs (plans s) k l (d s k)
  own_now room s k l h own =
      let w = owner l s own in
      let now = now_locked (cell_at new.cells k) s l (b s k) h w.0 w.1 in
      elim (lock_after (bound_in st r) r k (cell_at st.cells k) (cell_at new.cells k) (step k) l h w.1) [
        | inl t ↦ (let a = i.own s k t.0 t.1 (owned t.0 s (t.2 ∙ w.0) t.3) in record { way = sym t.5 ∙ a.way; bound = now; named = λ ks q u. sym t.6 ∙ a.named ks q u })
        | inr t ↦ (
            let q = t.0.0 in
            let facts = subst (λ v. PrewriteFacts (plans v) es st q) (sym t.0.6 ∙ w.0) (i.prewrites n q (subst (λ z. Has es (Sent n z)) t.0.1 sent)) in
            record {
              way = t.0.3 ∙ facts.way;
              bound = now;
              named = λ ks v u. t.0.4 ∙ (facts.named ks v).1 (let z = subst (λ y. May y k l.start (cell_at st.cells k) (Locks l.primary (content l.kind l.value))) t.0.1 t.2 in subst (LocksKey q.mutations) u (z.2, content l.kind l.value, z.3, z.4, z.5));
            })
      ]
