-- What replies that were taken tell of phases and bounds.
use Rattle.std.proofs.Common.{◌≡◌, ℕ, ◌<◌, ◌≤◌, ◌⊎◌, inl, inr, List, [], ◌∷◌, Option, Some, None, refl, sym, ap, ◌∙◌, subst, subst₂, arith}
use Rattle.txn_kv.specs.declared.ticket.Ticket.{Ticket}
use Rattle.txn_kv.specs.declared.message.LockInfo.{LockInfo}
use Rattle.txn_kv.specs.declared.message.TxnInfo.{TxnInfo}
use Rattle.txn_kv.specs.declared.request.Request.{Request}
use Rattle.txn_kv.specs.declared.request.Request.TheVariants.{Get, BatchGet, Scan, Prewrite, Commit, Cleanup, BatchRollback, PessimisticRollback, ResolveLock, ScanLock, TxnHeartBeat, CheckTxnStatus, CheckSecondaryLocks, UnsafeDestroyRange, Tso, PessimisticLock}
use Rattle.txn_kv.specs.declared.request.locks.ResolveLockRequest.{ResolveLockRequest}
use Rattle.txn_kv.specs.declared.request.cluster.TsoRequest.{TsoRequest}
use Rattle.txn_kv.specs.declared.reply.Reply.{Reply}
use Rattle.txn_kv.specs.declared.reply.cluster.TsoResponse.{TsoResponse}
use Rattle.txn_history.specs.Among.{IsAmong}
use Rattle.txn_history.specs.Busy.{busy_reply}
use Rattle.txn_history.specs.Event.{Event, Has}
use Rattle.txn_history.specs.Event.Event.{Sent, Served, Took}
use Rattle.txn_history.specs.Licence.{ShowsLock, IsPrewriteOp, WasGiven, WasNamed, PrimaryCommitted, settled_starts, IsAcknowledged, IsBounded, WasSettled, WasOnePhase, FellBack, WasTold, LockWasShown, PrimaryWasShown, BoundWasShown, WasChecked, WasSeenCommitted, WasMissed, WasDecided, Decides}
use Rattle.txn_history.specs.Plan.{Key, Content, Plan, LocksKey, Way, is_spread, IsListed}
use Rattle.txn_model.specs.Cells.{cell_at}
use Rattle.txn_model.specs.Resolve.{infos_of}
use Rattle.txn_history.specs.Plan.Way.{TwoPhases, Spread}
use Rattle.txn_law.specs.Run.{store_after}
use Rattle.txn_law.proofs.Phases.{Phase}
use Rattle.txn_law.proofs.Phases.Phase.{Committed, RolledBack}
use Rattle.txn_law.proofs.Phases.Move.{Commits}
use Rattle.txn_law.proofs.Coherent.{IsHeld}
use Rattle.txn_law.proofs.Replies.{IsCommitted, phases, DecidedIn, DecidedBy, HeldIn, Stands, Means, busy_means, OfSome}
use Rattle.txn_law.proofs.Spread.{IsSettled, IsLost, ToldBound, all_told, one_decision}
use Rattle.txn_law.proofs.Bounds.{bounds}
use Rattle.txn_law.proofs.Invariant.{NamedBy, LandedAt, WasReplied, IsBarred, HangIn, WarrantIn, CellFacts, IsAbove, ShownIs, Inv, Hang, hang_facts}
use Rattle.txn_kv.specs.declared.reply.Reply.TheVariants as reply

-- that a store is too busy shows no lock
busy_hides : (r : Request) → OfSome (busy_reply r) (λ o. (l : LockInfo) → ShowsLock o l → ⊥)
busy_hides (Get r) = λ l h. h
busy_hides (BatchGet r) = λ l h. h.1
busy_hides (Scan r) = λ l h. h.1
busy_hides (Prewrite r) = λ l h. h.1
busy_hides (Commit r) = λ l h. h
busy_hides (Cleanup r) = λ l h. h
busy_hides (BatchRollback r) = λ l h. h
busy_hides (PessimisticRollback r) = λ l h. h.1
busy_hides (PessimisticLock r) = λ l h. h.1
busy_hides (ResolveLock r) = λ l h. h
busy_hides (ScanLock r) = λ l h. h
busy_hides (TxnHeartBeat r) = λ l h. h
busy_hides (CheckTxnStatus r) = λ l h. elim h [ inl a ↦ absurd (cc) | inr a ↦ a ]
busy_hides (CheckSecondaryLocks r) = λ l h. h
busy_hides (UnsafeDestroyRange r) = λ l h. h
busy_hides _ = tt

busy_shows : (r : Request) (o : Reply) (l : LockInfo) → busy_reply r ≡ Some o → ShowsLock o l → ⊥
busy_shows r o l e = (subst (λ x. OfSome x (λ o. (l : LockInfo) → ShowsLock o l → ⊥)) e (busy_hides r)) l

-- a start is lost, in either way
abbrev pub LostIn : Plan → Way → (Key → Type 0) → (Key → Phase) → (Key → Option ℕ) → Type 0
LostIn plan TwoPhases Barred f b = f plan.primary ≡ RolledBack
LostIn plan (Spread ks) Barred f b = IsLost plan.writes Barred f b

pub settled_infos : (r : ResolveLockRequest) (is : List TxnInfo) → settled_starts r is ≡ infos_of r is
settled_infos r [] = refl
settled_infos r (i ∷ is) = refl

module _ (plans : ℕ → Plan) (es : List Event) (i : Inv plans es) where
  abbrev f : ℕ → Key → Phase
  f s = phases (store_after es) s

  pub hang : (s : ℕ) → Hang (plans s) (plans s).way (f s) (bounds es s)
  hang s = hang_facts (plans s) (plans s).way (NamedBy (plans s) es s) (IsBarred es s) (f s) (bounds es s) (i.hang s)

  pub means_taken : (t : Ticket) (r : Request) (o : Reply) → Has es (Took t r o) → Means plans (store_after es) (bounds es) r o
  means_taken t r o h = elim (i.taken t r o h) [ inl u ↦ i.means t r o u | inr u ↦ busy_means plans (store_after es) (bounds es) r o (i.refused t r o u).1 ]

  pub shows_taken : (t : Ticket) (r : Request) (o : Reply) → Has es (Took t r o) → (l : LockInfo) → ShowsLock o l → IsPrewriteOp l → ShownIs (plans l.lock_version) (bounds es l.lock_version) l
  shows_taken t r o h l v p = elim (i.taken t r o h) [ inl u ↦ i.shows t r o u l v p | inr u ↦ absurd (busy_shows r o l (i.refused t r o u).1 v) ]

  pub sent_taken : (t : Ticket) (r : Request) (o : Reply) → Has es (Took t r o) → Has es (Sent t r)
  sent_taken t r o h = elim (i.taken t r o h) [ inl u ↦ i.sent t r o u | inr u ↦ (i.refused t r o u).0 ]

  pub served_time : (t : Ticket) (r : TsoRequest) (o : TsoResponse) → Has es (Took t (Tso r) (reply.Tso o)) → Has es (Served t (Tso r) (reply.Tso o))
  served_time t r o h = elim (i.taken t (Tso r) (reply.Tso o) h) [ inl u ↦ u | inr u ↦ absurd (let w = (i.refused t (Tso r) (reply.Tso o) u).1 in cc) ]

  pub given_last : (u : ℕ) → WasGiven es u → u ≤ (store_after es).last
  given_last u w = let d = (means_taken w.0 (Tso w.1) (reply.Tso w.2) w.4 w.3 w.5).1 in let e = w.6 in omega (arith, d, e)

  -- a prewrite lock of s that was shown
  pub was_shown : (s : ℕ) (l : LockInfo) → LockWasShown es s l → ShownIs (plans s) (bounds es s) l
  was_shown s l h = subst (λ u. ShownIs (plans u) (bounds es u) l) h.start (shows_taken h.ticket h.request h.answer h.taken l h.shows h.prewrite)

  -- what is acknowledged in two phases is held
  pub held : (s : ℕ) (k : Key) → (plans s).way ≡ TwoPhases → IsAcknowledged es s k → IsHeld (plans s) (f s) k
  held s k w a = subst (λ u. HeldIn (plans s) u (f s) (bounds es s) a.request a.response.min_commit_ts k) w (at a.request.start_version a.start ((means_taken a.ticket (Prewrite a.request) (reply.Prewrite a.response) a.taken a.fine).1 a.locking k a.locks))
    where
      at : (u : ℕ) → u ≡ s → HeldIn (plans u) (plans u).way (f u) (bounds es u) a.request a.response.min_commit_ts k → HeldIn (plans s) (plans s).way (f s) (bounds es s) a.request a.response.min_commit_ts k
      at u e = subst (λ v. HeldIn (plans v) (plans v).way (f v) (bounds es v) a.request a.response.min_commit_ts k) e

  -- and what was bounded was told so
  pub bounded : (s : ℕ) (ks : List Key) (k : Key) (c : ℕ) → (plans s).way ≡ Spread ks → (a : IsBounded es s k c) → ToldBound (plans s).writes (bounds es s) (LocksKey a.request.mutations) c
  bounded s ks k c w a = subst (λ n. ToldBound (plans s).writes (bounds es s) (LocksKey a.request.mutations) n) a.bound (subst (λ u. HeldIn (plans s) u (f s) (bounds es s) a.request a.response.min_commit_ts k) w (at a.request.start_version a.start ((means_taken a.ticket (Prewrite a.request) (reply.Prewrite a.response) a.taken a.fine).1 a.locking k a.locks)))
    where
      at : (u : ℕ) → u ≡ s → HeldIn (plans u) (plans u).way (f u) (bounds es u) a.request a.response.min_commit_ts k → HeldIn (plans s) (plans s).way (f s) (bounds es s) a.request a.response.min_commit_ts k
      at u e = subst (λ v. HeldIn (plans v) (plans v).way (f v) (bounds es v) a.request a.response.min_commit_ts k) e

  -- all keys were bounded: decided at the greatest
  pub settled : (s : ℕ) (ks : List Key) (c : ℕ) → (plans s).way ≡ Spread ks → WasSettled (plans s) es s c → IsSettled (plans s).writes (bounds es s) c
  settled s ks c w h = all_told (plans s).writes (bounds es s) c
      (λ k x e. let a = h.each k x e in (LocksKey a.1.request.mutations, a.0, bounded s ks k a.0 w a.1, a.1.locks, a.3))
      (let a = h.greatest in (LocksKey a.1.request.mutations, bounded s ks a.0 c w a.1))

  pub settled_above : (s : ℕ) (ks : List Key) (c : ℕ) → (plans s).way ≡ Spread ks → IsSettled (plans s).writes (bounds es s) c → IsAbove (plans s) es s c
  settled_above s ks c w u = (i.high s u.attained.0 c u.attained.3 (ap is_spread w)).0

  -- a bound of 0 never comes of a spread transaction
  pub never_back : (s : ℕ) (ks : List Key) → (plans s).way ≡ Spread ks → FellBack es s → ⊥
  never_back s ks w h = elim (bounded s ks h.0 0 w h.1) [
    | inl t ↦ (let a = (i.high s t.1.0 0 t.1.3 (ap is_spread w)).0.0 in absurd (omega (arith, a)))
    | inr u ↦ (let a = (settled_above s ks 0 w u).0 in absurd (omega (arith, a)))
  ]

  -- a decision is above the start
  pub decided_above : (s c : ℕ) → DecidedBy (plans s) (f s) (bounds es s) c → s < c
  decided_above s c d = by (plans s).way refl (i.hang s) d
    where
      by : (way : Way) → (plans s).way ≡ way → HangIn (plans s) way (NamedBy (plans s) es s) (IsBarred es s) (f s) (bounds es s) → DecidedIn (plans s) way (f s) (bounds es s) c → s < c
      by TwoPhases w h u = elim (h.named c u) [ inl n ↦ (i.named s c n.0).1.0 | inr n ↦ (i.landed s c w n).1.0 ]
      by (Spread ks) w h u = (settled_above s ks c w u).0

  pub cell_facts : (s : ℕ) (k : Key) → CellFacts (plans s) (cell_at (store_after es).cells k) s
  cell_facts s k = record { names = λ p x e. ((hang s).locked k p x e).0; way = λ l e o. (i.own s k l e o).way }

  -- a Commit of a spread start names its decision
  pub named_settled : (s : ℕ) (ks : List Key) → (plans s).way ≡ Spread ks → (c : ℕ) → WasNamed (plans s) es s c → IsSettled (plans s).writes (bounds es s) c
  named_settled s ks w c h = subst (λ v. WarrantIn (plans s) v (NamedBy (plans s) es s) (IsBarred es s) (f s) (bounds es s) (plans s).primary (f s (plans s).primary) (Commits c)) w ((i.warranted h.0 (Commit h.1) h.2).1 (plans s).primary s (cell_at (store_after es).cells (plans s).primary) (Commits c) (sym h.3, sym h.4, h.5) (cell_facts s (plans s).primary))

  -- who took a reply without error to a Commit of the primary at c finds it decided at c
  pub committed : (s c : ℕ) → PrimaryCommitted (plans s) es s c → DecidedBy (plans s) (f s) (bounds es s) c
  committed s c h = by_phase (f s (plans s).primary) refl (at h.1.start_version h.5 (means_taken h.0 (Commit h.1) (reply.Commit h.2) h.3 h.4 (plans s).primary h.7))
    where
      at : (u : ℕ) → u ≡ s → IsCommitted (f u (plans s).primary) → IsCommitted (f s (plans s).primary)
      at u e = subst (λ v. IsCommitted (f v (plans s).primary)) e

      sent : Has es (Sent h.0 (Commit h.1))
      sent = sent_taken h.0 (Commit h.1) (reply.Commit h.2) h.3

      was : WasNamed (plans s) es s c
      was = (h.0, h.1, sent, h.5, h.6, h.7)

      by : (way : Way) → (plans s).way ≡ way → HangIn (plans s) way (NamedBy (plans s) es s) (IsBarred es s) (f s) (bounds es s) → (d : ℕ) (y : Content) → f s (plans s).primary ≡ Committed d y → (plans s).writes (plans s).primary ≡ Some y → DecidedIn (plans s) way (f s) (bounds es s) d → d ≡ c
      by TwoPhases w j d y e writes u = elim (j.named d u) [
        | inl n ↦ i.one s d c w n.0 was
        | inr n ↦ absurd (let a = (i.named s c was).0 (plans s).primary y writes in acked a (i.taken a.ticket (Prewrite a.request) (reply.Prewrite a.response) a.taken) n w)
      ]
        where
          acked : (a : IsAcknowledged es s (plans s).primary) → WasReplied es a.ticket (Prewrite a.request) (reply.Prewrite a.response) → LandedAt (plans s) es s d → (plans s).way ≡ TwoPhases → ⊥
          acked a (inl v) n w = i.apart s d w n a.ticket a.request a.response v a.fine a.locking a.start a.locks
          acked a (inr v) n w = let g = (i.refused a.ticket (Prewrite a.request) (reply.Prewrite a.response) v).1 in let z = a.fine.0 in absurd (cc)
      by (Spread ks) w j d y e writes u = one_decision (plans s).writes (bounds es s) d c u (named_settled s ks w c was)

      by_phase : (o : Phase) → f s (plans s).primary ≡ o → IsCommitted o → DecidedBy (plans s) (f s) (bounds es s) c
      by_phase (Committed d y) e g = let w = (hang s).committed (plans s).primary d y e in subst (DecidedBy (plans s) (f s) (bounds es s)) (by (plans s).way refl (i.hang s) d y e w.0 w.1) w.1
      by_phase _ e g = absurd g

  -- what a resolver was told is so: decided at c, or for 0 lost
  lost_key : (s : ℕ) (ks : List Key) → (plans s).way ≡ Spread ks → (k : Key) (x : Content) → (plans s).writes k ≡ Some x → f s k ≡ RolledBack → IsLost (plans s).writes (IsBarred es s) (f s) (bounds es s)
  lost_key s ks w k x writes e = by (subst (λ v. HangIn (plans s) v (NamedBy (plans s) es s) (IsBarred es s) (f s) (bounds es s)) w (i.hang s)) (bounds es s k) refl
    where
      by : HangIn (plans s) (Spread ks) (NamedBy (plans s) es s) (IsBarred es s) (f s) (bounds es s) → (o : Option ℕ) → bounds es s k ≡ o → IsLost (plans s).writes (IsBarred es s) (f s) (bounds es s)
      by h None b = (k, x, writes, b, inl e)
      by h (Some m) b = h.undone k m e b

  abbrev Told : ℕ → ℕ → Type 0
  Told s c = ((c ≡ 0) × LostIn (plans s) (plans s).way (IsBarred es s) (f s) (bounds es s)) ⊎ ((0 < c) × DecidedBy (plans s) (f s) (bounds es s) c)

  above_zero : (s c : ℕ) → DecidedBy (plans s) (f s) (bounds es s) c → 0 < c
  above_zero s c d = let a = decided_above s c d in omega (arith, a)

  was_told : (s c : ℕ) → WasTold es s c → Told s c
  was_told s c h = by_way (plans s).way refl (subst (λ p. Stands (store_after es) p s c) primary (stands h.request h.answer h.decides (means_taken h.ticket h.request h.answer h.taken)))
    where
      shown : ShownIs (plans s) (bounds es s) h.shown.lock
      shown = was_shown s h.shown.lock (record { ticket = h.shown.ticket; request = h.shown.request; answer = h.shown.answer; taken = h.shown.taken; shows = h.shown.shows; prewrite = h.shown.prewrite; start = h.shown.start })

      primary : h.primary ≡ (plans s).primary
      primary = sym h.shown.primary ∙ shown.primary

      stands : (r : Request) (o : Reply) → Decides r o h.primary s c → Means plans (store_after es) (bounds es) r o → Stands (store_after es) h.primary s c
      stands (Cleanup r) (reply.Cleanup o) d m = subst₂ (λ q t. Stands (store_after es) q t c) d.1 d.2 (subst (λ n. Stands (store_after es) r.key r.start_version n) d.3 (m d.0))
      stands (CheckTxnStatus r) (reply.CheckTxnStatus o) d m = subst₂ (λ q t. Stands (store_after es) q t c) d.1 d.2 (m c d.0 d.3)
      stands _ _ d m = absurd d

      by_way : (way : Way) → (plans s).way ≡ way → Stands (store_after es) (plans s).primary s c → Told s c
      by_way way w (inr a) = inr (let d = ((hang s).committed (plans s).primary c a.0 a.1).1 in (above_zero s c d, d))
      by_way TwoPhases w (inl a) = inl (a.0, subst (λ v. LostIn (plans s) v (IsBarred es s) (f s) (bounds es s)) (sym w) a.1)
      by_way (Spread ks) w (inl a) = inl (a.0, subst (λ v. LostIn (plans s) v (IsBarred es s) (f s) (bounds es s)) (sym w) (let l = (shown.listed ks w).1 in lost_key s ks w (plans s).primary l.0 l.1 a.1))

  -- an async lock was shown at the primary: the way is spread, and the lock names its secondaries
  shown_way : (s : ℕ) (l : LockInfo) → PrimaryWasShown es s l → (ks : List Key) × ((plans s).way ≡ Spread ks) × (l.secondaries ≡ ks) × IsListed (plans s) ks × (bounds es s (plans s).primary ≡ Some l.min_commit_ts)
  shown_way s l h = by (plans s).way refl
    where
      shown : ShownIs (plans s) (bounds es s) l
      shown = was_shown s l h.0

      by : (way : Way) → (plans s).way ≡ way → (ks : List Key) × ((plans s).way ≡ Spread ks) × (l.secondaries ≡ ks) × IsListed (plans s) ks × (bounds es s (plans s).primary ≡ Some l.min_commit_ts)
      by TwoPhases w = absurd (let a = h.1 in let b = shown.way in let z = ap is_spread w in cc)
      by (Spread ks) w =
          let at = h.2 ∙ shown.primary in
          (ks, w, shown.named ks w at, shown.listed ks w, subst (λ q. bounds es s q ≡ Some l.min_commit_ts) at (shown.bound (ap is_spread w)))

  bound_shown : (s : ℕ) (ks : List Key) (k : Key) (m : ℕ) → (plans s).way ≡ Spread ks → BoundWasShown es s k m → bounds es s k ≡ Some m
  bound_shown s ks k m w h = subst₂ (λ q n. bounds es s q ≡ Some n) h.3 h.4 ((was_shown s h.0 h.1).bound (ap is_spread w))

  pub spread_decided : (s : ℕ) (ks : List Key) (c : ℕ) → (plans s).way ≡ Spread ks → IsSettled (plans s).writes (bounds es s) c → DecidedBy (plans s) (f s) (bounds es s) c
  spread_decided s ks c w u = subst (λ v. DecidedIn (plans s) v (f s) (bounds es s) c) (sym w) u

  was_checked : (s c : ℕ) → WasChecked es s c → DecidedBy (plans s) (f s) (bounds es s) c
  was_checked s c h =
      let w = shown_way s h.lock h.shown in
      let among : (k : Key) → IsAmong w.0 k → IsAmong h.lock.secondaries k = λ k a. subst (λ z. IsAmong z k) (sym w.2) a in
      spread_decided s w.0 c w.1 (record {
        below = λ k x e. elim (w.3.0 k x e) [
          | inl q ↦ (h.lock.min_commit_ts, subst (λ z. bounds es s z ≡ Some h.lock.min_commit_ts) (sym q) w.4, h.own)
          | inr a ↦ (let b = h.each k (among k a) in (b.0, bound_shown s w.0 k b.0 w.1 b.1, b.2))
        ];
        attained = elim h.greatest [
          | inl q ↦ ((plans s).primary, w.3.1.0, w.3.1.1, w.4 ∙ ap Some q)
          | inr b ↦ (let x = w.3.2 b.0 (subst (λ z. IsAmong z b.0) w.2 b.1) in (b.0, x.0, x.1, bound_shown s w.0 b.0 c w.1 b.2))
        ];
      })

  was_seen : (s c : ℕ) → WasSeenCommitted es s c → DecidedBy (plans s) (f s) (bounds es s) c
  was_seen s c h =
      let m = (means_taken h.0 (CheckSecondaryLocks h.1) (reply.CheckSecondaryLocks h.2) h.3).0 (subst (λ n. 0 < n) (sym h.5) h.6) in
      let at : f s m.0 ≡ Committed c m.1 = subst₂ (λ u n. f u m.0 ≡ Committed n m.1) h.4 h.5 m.2 in
      ((hang s).committed m.0 c m.1 at).1

  was_missed : (s : ℕ) → WasMissed es s → LostIn (plans s) (plans s).way (IsBarred es s) (f s) (bounds es s)
  was_missed s h =
      let w = shown_way s h.lock h.shown in
      let m = (means_taken h.ticket (CheckSecondaryLocks h.request) (reply.CheckSecondaryLocks h.response) h.taken).1 h.missing in
      let x = w.3.2 m.0 (subst (λ z. IsAmong z m.0) w.2 (h.secondaries m.0 m.1)) in
      subst (λ v. LostIn (plans s) v (IsBarred es s) (f s) (bounds es s)) (sym w.1) (lost_key s w.0 w.1 m.0 x.0 x.1 (subst (λ u. f u m.0 ≡ RolledBack) h.start m.2))

  pub told : (s c : ℕ) → WasDecided es s c → Told s c
  told s c (inl h) = was_told s c h
  told s c (inr (inl h)) = inr (h.0, was_checked s c h.1)
  told s c (inr (inr (inl h))) = inr (let d = was_seen s c h in (above_zero s c d, d))
  told s c (inr (inr (inr h))) = inl (h.0, was_missed s h.1)

  -- one phase: who was answered c finds it decided at c
  pub one_phase : (s c : ℕ) → WasOnePhase es s c → DecidedBy (plans s) (f s) (bounds es s) c
  one_phase s c h =
      let m = ((means_taken h.0 (Prewrite h.1) (reply.Prewrite h.2) h.3 h.4).0 h.6).0 in
      subst₂ (λ u n. DecidedBy (plans u) (f u) (bounds es u) n) h.5 h.7 m
