-- Each event keeps what holds after every run.
use Rattle.std.proofs.Common.{◌≡◌, ◌≢◌, ℕ, ◌⊎◌, inl, inr, Bool, true, false, List, [], ◌∷◌, Option, Some, None, refl, sym, ap, ◌∙◌, subst, subst₂, arith}
use Rattle.std.specs.Prelude.{if◌then◌else◌}
use Rattle.txn_kv.specs.declared.ticket.Ticket.{Ticket}
use Rattle.txn_kv.specs.declared.message.LockInfo.{LockInfo}
use Rattle.txn_kv.specs.declared.request.Request.{Request}
use Rattle.txn_kv.specs.declared.request.Request.TheVariants.{Prewrite, Commit, Tso, PessimisticLock}
use Rattle.txn_kv.specs.declared.request.commits.PrewriteRequest.{PrewriteRequest}
use Rattle.txn_kv.specs.declared.request.cluster.TsoRequest.{TsoRequest}
use Rattle.txn_kv.specs.declared.reply.Reply.{Reply}
use Rattle.txn_kv.specs.declared.reply.commits.PrewriteResponse.{PrewriteResponse}
use Rattle.txn_kv.specs.declared.reply.cluster.TsoResponse.{TsoResponse}
use Rattle.txn_history.specs.Busy.{busy_reply}
use Rattle.txn_history.specs.Event.{Event, Has}
use Rattle.txn_history.specs.Event.Event.{Sent, Served, Took, Refused, Split, Led}
use Rattle.txn_history.specs.Licence.{IsWithoutError, GivesTimestamp, ShowsLock, IsPrewriteOp, IsFlagged, AskedAfter}
use Rattle.txn_history.specs.Plan.{Key, Content, Plan, LocksKey, Way, is_spread}
use Rattle.txn_model.specs.declared.cell.Kind.{Kind}
use Rattle.txn_model.specs.Cells.{cell_at, AreInOrder}
use Rattle.txn_model.specs.Locks.{is_prewrite, owns, commit_of, op_of, or_earlier}
use Rattle.txn_model.specs.Regions.{split, split_at, can_split, unused_id, lead, led_by, can_lead}
use Rattle.txn_model.specs.Store.{Store}
use Rattle.txn_history.specs.Plan.Way.{TwoPhases, Spread}
use Rattle.txn_model.specs.Prewrite.{least_bound, passes_commit}
use Rattle.txn_model.specs.Table.{table}
use Rattle.txn_law.specs.Run.{store_after, IsRun, IsUnserved, IsRoomy}
use Rattle.txn_law.specs.Whole.{content}
use Rattle.txn_law.proofs.Phases.{Phase, phase, Move, Goes, IsSound}
use Rattle.txn_law.proofs.Phases.Phase.{Free, Locked, Committed, RolledBack}
use Rattle.txn_law.proofs.Phases.Move.{Locks, Commits, Rolls}
use Rattle.txn_law.proofs.Coherent.{IsDecidedAt, IsHeld, held_begun}
use Rattle.txn_law.proofs.Replies.{lock_is_phase, phases, DecidedIn, HeldIn, Means, means_given, timestamps_rise}
use Rattle.txn_law.proofs.Moves.{May, Outcome, outcome, bound_in, may_lock}
use Rattle.txn_law.proofs.Bounds.{bounds, bound_now, now_free, now_rolled, now_committed, lock_after, committed_unowned, owned, same_number, above_start, above_update}
use Rattle.txn_law.proofs.Shown.{Stood, shown_stood}
use Rattle.txn_law.proofs.Prewritten.{locking_did}
use Rattle.txn_law.proofs.Invariant.{NamedBy, named_more, LandedAt, WasReplied, IsBarred, HangIn, WasPrewritten, IsAbove, OwnIs, ShownIs, AdvanceIn, SourceOf, Inv, advance_kept, bound_in_way}
use Rattle.txn_law.proofs.Taken.{hang, given_last}
use Rattle.txn_law.proofs.Sent.{quiet_in, spread_of, Sent_kept, locked_more, asked_ready, above_next, prewritten_more, source_more}
use Rattle.txn_law.proofs.Clocks.{last_stays, reads_so_far}
use Rattle.txn_law.proofs.Stepping.{rows, step, sound_now, step_advance, own_now, own_bound, now_own, rests}
use Rattle.txn_law.proofs.Landing.{prewrite_reply, prewrite_either, prewrite_advance, prewrite_means}
use Rattle.txn_kv.specs.declared.reply.Reply.TheVariants as reply
use Rattle.txn_model.specs.declared.cell.Kind.TheVariants as kinds
use Rattle.txn_kv.specs.declared.message.Op.TheVariants as op
use Rattle.txn_law.proofs.Spread as spread

op_prewrites : (kind : Kind) → (op_of kind ≡ op.PessimisticLock → ⊥) → is_prewrite kind ≡ true
op_prewrites kinds.Put h = refl
op_prewrites kinds.Del h = refl
op_prewrites kinds.Lock h = refl
op_prewrites kinds.Pessimistic h = absurd (h refl)

module _ (plans : ℕ → Plan) (es : List Event) (i : Inv plans es) (n : Ticket) (o : Reply) (unserved : IsUnserved es n) (room : IsRoomy (store_after es)) where
  abbrev st : Store
  st = store_after es

  abbrev b : ℕ → Key → Option ℕ
  b s = bounds es s

  abbrev new : Request → Store
  new r = (table st r).store

  abbrev d : Request → ℕ → Key → Option ℕ
  d r s k = bound_now (cell_at (new r).cells k) s (b s k)

  abbrev To : Request → ℕ → Type 0
  To r s = AdvanceIn (plans s) (plans s).way (NamedBy (plans s) (Served n r o ∷ es) s) (IsBarred es s) (IsBarred (Served n r o ∷ es) s) (phases st s) (phases (new r) s) (b s) (d r s)

  pub advance : (r : Request) → Has es (Sent n r) → (s : ℕ) → To r s
  advance (Prewrite q) sent s = prewrite_advance plans es i n q o sent unserved s
  advance r sent s = step_advance plans es i n r o sent unserved refl s

  means_now : (r : Request) → Has es (Sent n r) → Means plans (new r) (d r) r (table st r).reply
  means_now (Prewrite q) sent = let p = prewrite_reply st q in subst (Means plans (new (Prewrite q)) (d (Prewrite q)) (Prewrite q)) (sym p.1) (λ fine. prewrite_means plans es i n q o sent unserved room p.0 p.1 fine)
  means_now r sent = means_given plans (d r) st i.in_order i.sound r (λ q h. absurd (cc))

  -- where a bound comes from: it was there, or is set now
  abbrev pub SetNow : Request → ℕ → Key → ℕ → Type 0
  SetNow r s k m = (q : PrewriteRequest) × (r ≡ Prewrite q) × (q.start_version ≡ s) × LocksKey q.mutations k × (m ≡ least_bound st q)

  least_of : (r : Request) (q : PrewriteRequest) → r ≡ Prewrite q → bound_in st r ≡ least_bound st q
  least_of r q h = ap (bound_in st) h

  pub origin : (r : Request) → Has es (Sent n r) → (s : ℕ) (ks : List Key) → (plans s).way ≡ Spread ks → (k : Key) (m : ℕ) → d r s k ≡ Some m → (b s k ≡ Some m) ⊎ SetNow r s k m
  origin r sent s ks w k m h = by (phases (new r) s k) refl
    where
      by_old : (c : ℕ) (x : Content) → phases (new r) s k ≡ Committed c x → (a : Option ℕ) → b s k ≡ a → Outcome (bound_in st r) r k s (cell_at st.cells k) (phases (new r) s k) → (b s k ≡ Some m) ⊎ SetNow r s k m
      by_old c x u (Some a) v out = inl (v ∙ (ap (λ z. or_earlier z (Some c)) (sym v) ∙ (sym (now_committed (cell_at (new r).cells k) s c x (b s k) (sound_now plans es i n r o sent unserved k) u) ∙ h)))
      by_old c x u None v (inl same) = absurd (
          let a = (hang plans es i s).committed k c x (sym same ∙ u) in
          let z : spread.IsSettled (plans s).writes (b s) c = subst (λ y. DecidedIn (plans s) y (phases st s) (b s) c) w a.1 in
          let y = (z.below k x a.0).1 in cc)
      by_old c x u None v (inr (inl mv)) = absurd (by_before (phases st s k) refl mv.0 mv.2)
        where
          by_before : (a : Phase) → phases st s k ≡ a → (t : Move) → Goes a t (phases (new r) s k) → ⊥
          by_before Free z (Locks p y) q = cc
          by_before Free z (Commits a) q = q
          by_before Free z Rolls q = cc
          by_before (Locked p y) z t q = let a = (own_bound plans es i n r o sent unserved s k p y z).4 in cc
          by_before (Committed a y) z t q = q
          by_before RolledBack z t q = q
      by_old c x u None v (inr (inr l)) =
          let q = may_lock r k s (cell_at st.cells k) l.0 l.1 l.2 in
          let now = now_committed (cell_at (new r).cells k) s c x (b s k) (sound_now plans es i n r o sent unserved k) u in
          let c_is : c ≡ bound_in st r = (let a = l.4 in cc) in
          let m_is : m ≡ c = same_number m c (sym h ∙ (now ∙ ap (λ z. or_earlier z (Some c)) v)) in
          inr (q.0, q.1, sym q.2, (q.3.0, l.1, q.3.1, q.3.2, q.3.3), m_is ∙ (c_is ∙ least_of r q.0 q.1))

      by : (a : Phase) → phases (new r) s k ≡ a → (b s k ≡ Some m) ⊎ SetNow r s k m
      by Free u = inl (sym (now_free (cell_at (new r).cells k) s (b s k) u) ∙ h)
      by RolledBack u = inl (sym (now_rolled (cell_at (new r).cells k) s (b s k) (sound_now plans es i n r o sent unserved k) u) ∙ h)
      by (Committed c x) u = by_old c x u (b s k) refl (outcome (bound_in st r) r k s (cell_at st.cells k) (cell_at (new r).cells k) (i.sound k) (step plans es i n r o sent unserved k))
      by (Locked p x) u =
          let z = now_own plans es i n r o sent unserved s k p x u in
          let m_is : m ≡ z.0.min_commit = same_number m z.0.min_commit (sym h ∙ z.4) in
          elim (lock_after (bound_in st r) r k (cell_at st.cells k) (cell_at (new r).cells k) (step plans es i n r o sent unserved k) z.0 z.1 z.3) [
            | inl t ↦ inl ((i.own s k t.0 t.1 (owned t.0 s (t.2 ∙ z.2) t.3)).bound ∙ ap Some (t.4 ∙ sym m_is))
            | inr t ↦ (
                let own = own_now plans es i n r o sent unserved room s k z.0 z.1 (owned z.0 s z.2 z.3) in
                let async : t.0.0.use_async_commit ≡ true = sym t.0.3 ∙ (own.way ∙ ap is_spread w) in
                let may = subst (λ y. May y k z.0.start (cell_at st.cells k) (Locks z.0.primary (content z.0.kind z.0.value))) t.0.1 t.2 in
                let least : z.0.min_commit ≡ bound_in st r = t.0.5 ∙ (rw async refl) in
                inr (t.0.0, t.0.1, sym t.0.6 ∙ z.2, (may.2, content z.0.kind z.0.value, may.3, may.4, may.5), m_is ∙ (least ∙ least_of r t.0.0 t.0.1)))
          ]

  least_above : (q : PrewriteRequest) → Has es (Sent n (Prewrite q)) → IsFlagged q → IsAbove (plans q.start_version) (Served n (Prewrite q) o ∷ es) q.start_version (least_bound st q)
  least_above q sent flagged =
      let p = i.prewrites n q sent in
      (above_start st q room p.start_low, λ k x w t r v u. elim v [ inl c ↦ absurd (cc) | inr c ↦ above_update st q r.for_update_ts room (i.reads t (PessimisticLock r) c) (p.above flagged t r c u) ])

  above_served : (r : Request) (s c : ℕ) → IsAbove (plans s) es s c → IsAbove (plans s) (Served n r o ∷ es) s c
  above_served r s c a = above_next (plans s) es (Served n r o) s c (λ t q h. cc) a

  high : (r : Request) → Has es (Sent n r) → (s : ℕ) (k : Key) (m : ℕ) → d r s k ≡ Some m → is_spread (plans s).way ≡ true → IsAbove (plans s) (Served n r o ∷ es) s m × WasPrewritten (Served n r o ∷ es) s
  high r sent s k m h w = let ks = spread_of (plans s).way w in elim (origin r sent s ks.0 ks.1 k m h) [
    | inl a ↦ (let z = i.high s k m a w in (above_served r s m z.0, prewritten_more es (Served n r o) s z.1))
    | inr a ↦ (
        let sent' = subst (λ z. Has es (Sent n z)) a.1 sent in
        let z = subst₂ (λ y u. IsAbove (plans y) (Served n (Prewrite a.0) o ∷ es) y u) a.2 (sym a.4) (least_above a.0 sent' (inl ((i.prewrites n a.0 sent').way ∙ subst (λ y. is_spread (plans y).way ≡ true) (sym a.2) w))) in
        (subst (λ y. IsAbove (plans s) (Served n y o ∷ es) s m) (sym a.1) z, (n, a.0, inr sent', a.2)))
  ]

  source : (r : Request) → Has es (Sent n r) → o ≡ (table st r).reply → (s : ℕ) (k : Key) (m : ℕ) → is_spread (plans s).way ≡ true → d r s k ≡ Some m → SourceOf (Served n r o ∷ es) s k
  source r sent g s k m w h = let ks = spread_of (plans s).way w in elim (origin r sent s ks.0 ks.1 k m h) [
    | inl a ↦ source_more es (Served n r o) s k (i.source s k m w a)
    | inr a ↦ by ks.0 ks.1 a.0 a.1 a.2 a.3
  ]
    where
      by : (ks : List Key) → (plans s).way ≡ Spread ks → (q : PrewriteRequest) → r ≡ Prewrite q → q.start_version ≡ s → LocksKey q.mutations k → SourceOf (Served n r o ∷ es) s k
      by ks way q u c l = elim (subst (λ z. IsWithoutError (table st z).reply ⊎ ((table st z).store.cells ≡ st.cells)) (sym u) (prewrite_either st q)) [
        | inl fine ↦ (n, q, o, inl (ap (λ z. Served n z o) u), c, l, subst IsWithoutError (sym g) fine)
        | inr same ↦ source_more es (Served n r o) s k (i.source s k m w (sym (rests plans es i n r o sent unserved s ks way k (ap (λ cs. phase (cell_at cs k) s) same)) ∙ h))
      ]

  shows_now : (r : Request) → Has es (Sent n r) → (l : LockInfo) → ShowsLock (table st r).reply l → IsPrewriteOp l → ShownIs (plans l.lock_version) (d r l.lock_version) l
  shows_now r sent l h p = by_lock (shown_stood st r (i.warranted n r sent).0 i.in_order l h)
    where
      by_lock : Stood st.cells l → ShownIs (plans l.lock_version) (d r l.lock_version) l
      by_lock w = subst (λ (z : LockInfo). ShownIs (plans z.lock_version) (d r z.lock_version) z) w.shown (record {
        primary = ((hang plans es i w.lock.start).locked w.at w.lock.primary (content w.lock.kind w.lock.value) (lock_is_phase (cell_at st.cells w.at) w.lock (i.sound w.at) w.here kind)).0;
        way = own.way;
        bound = λ v. subst (λ k. d r w.lock.start k ≡ Some w.lock.min_commit) (sym w.same) (bound_in_way (plans w.lock.start) (plans w.lock.start).way (NamedBy (plans w.lock.start) (Served n r o ∷ es) w.lock.start) (IsBarred es w.lock.start) (IsBarred (Served n r o ∷ es) w.lock.start) (phases st w.lock.start) (phases (new r) w.lock.start) (b w.lock.start) (d r w.lock.start) (advance r sent w.lock.start) v w.at w.lock.min_commit own.bound);
        named = λ ks v u. own.named ks v (sym w.same ∙ u);
        listed = λ ks v. (subst (λ y. HangIn (plans w.lock.start) y (NamedBy (plans w.lock.start) es w.lock.start) (IsBarred es w.lock.start) (phases st w.lock.start) (b w.lock.start)) v (i.hang w.lock.start)).listed w.at w.lock.min_commit own.bound;
      })
        where
          kind : is_prewrite w.lock.kind ≡ true
          kind = op_prewrites w.lock.kind (λ u. p (sym (ap (λ (z : LockInfo). z.lock_type) w.shown) ∙ u))

          own : OwnIs (plans w.lock.start) w.at w.lock (b w.lock.start w.at)
          own = i.own w.lock.start w.at w.lock w.here (owned w.lock w.lock.start refl kind)

  -- in two phases: who landed, and who was acknowledged
  decided_on : (r : Request) → Has es (Sent n r) → (s c : ℕ) → (plans s).way ≡ TwoPhases → IsDecidedAt (plans s) (phases st s) c → IsDecidedAt (plans s) (phases (new r) s) c
  decided_on r sent s c w h = (h.0, (subst (λ y. AdvanceIn (plans s) y (NamedBy (plans s) (Served n r o ∷ es) s) (IsBarred es s) (IsBarred (Served n r o ∷ es) s) (phases st s) (phases (new r) s) (b s) (d r s)) w (advance r sent s)).committed (plans s).primary c h.0 h.1)

  committed_on : (r : Request) → Has es (Sent n r) → (s : ℕ) → (plans s).way ≡ TwoPhases → (k : Key) (c : ℕ) (x : Content) → phases st s k ≡ Committed c x → phases (new r) s k ≡ Committed c x
  committed_on r sent s w k c x h = (subst (λ y. AdvanceIn (plans s) y (NamedBy (plans s) (Served n r o ∷ es) s) (IsBarred es s) (IsBarred (Served n r o ∷ es) s) (phases st s) (phases (new r) s) (b s) (d r s)) w (advance r sent s)).committed k c x h

  landed_old : (r : Request) → Has es (Sent n r) → (s c : ℕ) → (plans s).way ≡ TwoPhases → LandedAt (plans s) es s c → IsDecidedAt (plans s) (phases (new r) s) c × IsAbove (plans s) (Served n r o ∷ es) s c × WasPrewritten (Served n r o ∷ es) s × ((k : Key) (x : Content) → (plans s).writes k ≡ Some x → phases (new r) s k ≡ Committed c x)
  landed_old r sent s c w h = let a = i.landed s c w h in (decided_on r sent s c w a.0, above_served r s c a.1, prewritten_more es (Served n r o) s a.2, λ k x v. committed_on r sent s w k c x (a.3 k x v))

  landed : (r : Request) → Has es (Sent n r) → (s c : ℕ) → (plans s).way ≡ TwoPhases → LandedAt (plans s) (Served n r o ∷ es) s c → IsDecidedAt (plans s) (phases (new r) s) c × IsAbove (plans s) (Served n r o ∷ es) s c × WasPrewritten (Served n r o ∷ es) s × ((k : Key) (x : Content) → (plans s).writes k ≡ Some x → phases (new r) s k ≡ Committed c x)
  landed (Prewrite q) sent s c w h = elim h [
    | inl a ↦ (let l = a.3 in let z = l.all (plans s).primary l.written.0 l.written.1 in ((z.0, z.3), subst₂ (λ y u. IsAbove (plans y) (Served n (Prewrite q) o ∷ es) y u) a.0 (sym a.2) (least_above q sent (inr a.1)), (n, q, inr sent, a.0), λ k x v. let y = l.all k x v in let same : y.0 ≡ x = (let u = y.1 in cc) in subst (λ u. phases (new (Prewrite q)) s k ≡ Committed c u) same y.3))
    | inr a ↦ landed_old (Prewrite q) sent s c w a
  ]
  landed r sent s c w h = landed_old r sent s c w h

  plain_held : (s : ℕ) → (plans s).way ≡ TwoPhases → (t : Ticket) (q : PrewriteRequest) (p : PrewriteResponse) → Has es (Served t (Prewrite q) (reply.Prewrite p)) → IsWithoutError (reply.Prewrite p) → q.try_one_pc ≡ false → q.start_version ≡ s → LocksKey q.mutations (plans s).primary → IsHeld (plans s) (phases st s) (plans s).primary
  plain_held s w t q p h fine later start l = subst (λ y. HeldIn (plans s) y (phases st s) (b s) q p.min_commit_ts (plans s).primary) w (at q.start_version start ((i.means t (Prewrite q) (reply.Prewrite p) h fine).1 later (plans s).primary l))
    where
      at : (u : ℕ) → u ≡ s → HeldIn (plans u) (plans u).way (phases st u) (b u) q p.min_commit_ts (plans s).primary → HeldIn (plans s) (plans s).way (phases st s) (b s) q p.min_commit_ts (plans s).primary
      at u e = subst (λ v. HeldIn (plans v) (plans v).way (phases st v) (b v) q p.min_commit_ts (plans s).primary) e

  fresh_not : (q : PrewriteRequest) → Has es (Sent n (Prewrite q)) → (s c : ℕ) → (plans s).way ≡ TwoPhases → LandedAt (plans s) es s c → (p : PrewriteResponse) → (table st (Prewrite q)).reply ≡ reply.Prewrite p → IsWithoutError (reply.Prewrite p) → q.try_one_pc ≡ false → q.start_version ≡ s → LocksKey q.mutations (plans s).primary → ⊥
  fresh_not q sent s c w h p told fine later start l =
      let a = (i.landed s c w h).0 in
      let u = committed_unowned (cell_at st.cells (plans s).primary) s c a.0 (i.sound (plans s).primary) a.1 in
      let plain : q.use_async_commit ≡ false = (i.prewrites n q sent).way ∙ ap is_spread (subst (λ y. (plans y).way ≡ TwoPhases) (sym start) w) in
      let passes : passes_commit q ≡ false = rw (plain, later) refl in
      let did = locking_did st q i.in_order later p told fine in
      let none = did.fresh (plans s).primary l passes (subst (λ y. owns (cell_at st.cells (plans s).primary).lock y ≡ false) (sym start) u.0) in
      let some = subst (λ y. commit_of (cell_at st.cells (plans s).primary).commits y ≡ Some u.1.0) (sym start) u.1.1 in
      cc

  apart_old : (r : Request) → Has es (Sent n r) → o ≡ (table st r).reply → (s c : ℕ) → (plans s).way ≡ TwoPhases → LandedAt (plans s) es s c → (t : Ticket) (q : PrewriteRequest) (p : PrewriteResponse) → Has (Served n r o ∷ es) (Served t (Prewrite q) (reply.Prewrite p)) → IsWithoutError (reply.Prewrite p) → q.try_one_pc ≡ false → q.start_version ≡ s → LocksKey q.mutations (plans s).primary → ⊥
  apart_old r sent g s c w h t q p v fine later start l = elim v [
    | inl u ↦ (let is : r ≡ Prewrite q = cc in let told : (table st (Prewrite q)).reply ≡ reply.Prewrite p = subst (λ z. (table st z).reply ≡ reply.Prewrite p) is (sym g ∙ cc) in fresh_not q (subst (λ z. Has es (Sent n z)) is sent) s c w h p told fine later start l)
    | inr u ↦ i.apart s c w h t q p u fine later start l
  ]

  apart : (r : Request) → Has es (Sent n r) → o ≡ (table st r).reply → (s c : ℕ) → (plans s).way ≡ TwoPhases → LandedAt (plans s) (Served n r o ∷ es) s c → (t : Ticket) (q : PrewriteRequest) (p : PrewriteResponse) → Has (Served n r o ∷ es) (Served t (Prewrite q) (reply.Prewrite p)) → IsWithoutError (reply.Prewrite p) → q.try_one_pc ≡ false → q.start_version ≡ s → LocksKey q.mutations (plans s).primary → ⊥
  apart (Prewrite z) sent g s c w h t q p v fine later start l = elim h [
    | inl a ↦ elim v [
      | inl u ↦ (let is : z ≡ q = cc in let y = ap (λ (m : PrewriteRequest). m.try_one_pc) is in let x = a.1 in absurd (cc))
      | inr u ↦ (let y = a.3.all (plans s).primary a.3.written.0 a.3.written.1 in held_begun (plans s) (phases st s) (plans s).primary (plain_held s w t q p u fine later start l) y.2)
    ]
    | inr a ↦ apart_old (Prewrite z) sent g s c w a t q p v fine later start l
  ]
  apart r sent g s c w h t q p v fine later start l = apart_old r sent g s c w h t q p v fine later start l

  asked_now : (r : Request) → o ≡ (table st r).reply → (s : ℕ) (t : Ticket) → AskedAfter (plans s) es s t → (q : TsoRequest) (p : TsoResponse) (c : ℕ) → Served n r o ≡ Served t (Tso q) (reply.Tso p) → GivesTimestamp p c → IsAbove (plans s) (Served n r o ∷ es) s c
  asked_now r g s t a q p c u v =
      let same : r ≡ Tso q = cc in
      let told : (table st (Tso q)).reply ≡ reply.Tso p = subst (λ z. (table st z).reply ≡ reply.Tso p) same (sym g ∙ cc) in
      let rise = (timestamps_rise st q p c told v).0 in
      let begun = given_last plans es i s (asked_ready (plans s) es s t a).1 in
      (omega (arith, rise, begun), λ k x w m z h y. elim h [ inl f ↦ absurd (cc) | inr f ↦ (let l = i.reads m (PessimisticLock z) f in omega (arith, rise, l)) ])

  pub Served_kept : (r : Request) → Has es (Sent n r) → o ≡ (table st r).reply → Inv plans (Served n r o ∷ es)
  Served_kept r sent g = advance_kept plans es (Served n r o) i (record {
    source = source r sent g;
    once = λ t q p a c h v. elim h [
      | inl u ↦ (let at : n ≡ t = cc in let is : o ≡ a = cc in elim v [
        | inl y ↦ elim y [ inl z ↦ cc | inr z ↦ absurd (unserved p c (inl (subst (λ m. Has es (Served m p c)) (sym at) z))) ]
        | inr y ↦ elim y [ inl z ↦ absurd (cc) | inr z ↦ absurd (unserved p c (inr (subst (λ m. Has es (Refused m p c)) (sym at) z))) ]
      ])
      | inr u ↦ elim v [
        | inl y ↦ elim y [ inl z ↦ (let at : n ≡ t = cc in absurd (unserved q a (inl (subst (λ m. Has es (Served m q a)) (sym at) u)))) | inr z ↦ i.once t q p a c u (inl z) ]
        | inr y ↦ elim y [ inl z ↦ absurd (cc) | inr z ↦ i.once t q p a c u (inr z) ]
      ]
    ];
    in_order = (rows plans es i n r o sent unserved).in_order;
    sound = sound_now plans es i n r o sent unserved;
    later = last_stays st r;
    low = (let a = reads_so_far st r in let c = last_stays st r in let l = i.low in let t = i.reads n r sent in omega (arith, a, c, l, t));
    own = own_now plans es i n r o sent unserved room;
    advance = advance r sent;
    high = high r sent;
    means = λ t q a h. (let is : r ≡ q = cc in let told : (table st r).reply ≡ a = sym g ∙ cc in subst₂ (Means plans (new r) (d r)) is told (means_now r sent));
    shows = λ t q a h l v p. (let told : a ≡ (table st r).reply = (let y : a ≡ o = cc in y ∙ g) in shows_now r sent l (subst (λ z. ShowsLock z l) told v) p);
    warranted = λ t q h. absurd (cc);
    prewrites = λ t q h. absurd (cc);
    no_lock = λ t p h. absurd (cc);
    reads = λ t q h. absurd (cc);
    taken = λ t q a h. absurd (cc);
    refused = λ t q a h. absurd (cc);
    sent = λ t q a h. subst₂ (λ y z. Has es (Sent y z)) (cc) (cc) sent;
    times = λ s t a q p c h v. elim a [
      | inl y ↦ absurd (let z = y.1 in cc)
      | inr y ↦ elim h [ inl u ↦ asked_now r g s t y q p c u v | inr u ↦ above_served r s c (i.times s t y q p c u v) ]
    ];
    named = λ s c h. elim h.2 [ inl u ↦ absurd (cc) | inr u ↦ (let a = i.named s c (h.0, h.1, u, h.3, h.4, h.5) in (locked_more (plans s) es (Served n r o) s a.0, above_served r s c a.1)) ];
    landed = landed r sent;
    apart = apart r sent g;
    one = λ s c m w h v. elim h.2 [ inl u ↦ absurd (cc) | inr u ↦ elim v.2 [ inl y ↦ absurd (cc) | inr y ↦ i.one s c m w (h.0, h.1, u, h.3, h.4, h.5) (v.0, v.1, y, v.3, v.4, v.5) ] ];
  })

-- An event that sends and serves nothing.
pub record Passes (es : List Event) (e : Event) : Type 0 where
  pub unsent : (n : Ticket) (r : Request) → e ≢ Sent n r
  pub unserved : (n : Ticket) (r : Request) (o : Reply) → e ≢ Served n r o
  pub cells : (store_after (e ∷ es)).cells ≡ (store_after es).cells
  pub last : (store_after (e ∷ es)).last ≡ (store_after es).last
  pub max_read : (store_after (e ∷ es)).max_read ≡ (store_after es).max_read
  pub bounds : (s : ℕ) (k : Key) → bounds (e ∷ es) s k ≡ bounds es s k
  pub landed : (plan : Plan) (s c : ℕ) → LandedAt plan (e ∷ es) s c → LandedAt plan es s c

abbrev pub MayPass : Event → Type 0
MayPass (Sent t r) = ⊥
MayPass (Served t r o) = ⊥
MayPass _ = Unit {0}

split_leaves : (st : Store) (k : Key) → ((split st k).cells ≡ st.cells) × ((split st k).last ≡ st.last) × ((split st k).max_read ≡ st.max_read)
split_leaves st k = by (can_split st k)
  where
    by : (b : Bool) → ((if b then record st { regions = split_at k (unused_id st.regions) st.regions } else st).cells ≡ st.cells) × ((if b then record st { regions = split_at k (unused_id st.regions) st.regions } else st).last ≡ st.last) × ((if b then record st { regions = split_at k (unused_id st.regions) st.regions } else st).max_read ≡ st.max_read)
    by true = (refl, refl, refl)
    by false = (refl, refl, refl)

lead_leaves : (st : Store) (region store : ℕ) → ((lead st region store).cells ≡ st.cells) × ((lead st region store).last ≡ st.last) × ((lead st region store).max_read ≡ st.max_read)
lead_leaves st region store = by (can_lead st region store)
  where
    by : (b : Bool) → ((if b then record st { regions = led_by region store st.regions } else st).cells ≡ st.cells) × ((if b then record st { regions = led_by region store st.regions } else st).last ≡ st.last) × ((if b then record st { regions = led_by region store st.regions } else st).max_read ≡ st.max_read)
    by true = (refl, refl, refl)
    by false = (refl, refl, refl)

pub passes : (es : List Event) (e : Event) → MayPass e → Passes es e
passes es (Sent t r) m = absurd m
passes es (Served t r o) m = absurd m
passes es (Split k) m = let w = split_leaves (store_after es) k in record { unsent = λ n r f. cc; unserved = λ n r o f. cc; cells = w.0; last = w.1; max_read = w.2; bounds = λ s q. refl; landed = λ plan s c h. h }
passes es (Led g n) m = let w = lead_leaves (store_after es) g n in record { unsent = λ n r f. cc; unserved = λ n r o f. cc; cells = w.0; last = w.1; max_read = w.2; bounds = λ s q. refl; landed = λ plan s c h. h }
passes es _ m = record { unsent = λ n r f. cc; unserved = λ n r o f. cc; cells = refl; last = refl; max_read = refl; bounds = λ s q. refl; landed = λ plan s c h. h }

module _ (plans : ℕ → Plan) (es : List Event) (i : Inv plans es) (e : Event) (p : Passes es e)
    (took : (t : Ticket) (r : Request) (o : Reply) → e ≡ Took t r o → WasReplied es t r o)
    (busy : (t : Ticket) (r : Request) (o : Reply) → e ≡ Refused t r o → Has es (Sent t r) × (busy_reply r ≡ Some o) × IsUnserved es t) where
  phase_same : (s : ℕ) (k : Key) → phases (store_after (e ∷ es)) s k ≡ phases (store_after es) s k
  phase_same s k = ap (λ cs. phase (cell_at cs k) s) p.cells

  barred_more : (s : ℕ) (k : Key) → IsBarred es s k → IsBarred (e ∷ es) s k
  barred_more s k h = ((h.0.0, h.0.1, inr h.0.2, h.0.3), λ t q v w l. elim v [ inl u ↦ absurd (p.unsent t (Prewrite q) u) | inr u ↦ (let a = h.1 t q u w l in (a.0, elim a.1 [ inl z ↦ inl (inr z) | inr z ↦ inr (inr z) ], a.2)) ])

  above_more : (s c : ℕ) → IsAbove (plans s) es s c → IsAbove (plans s) (e ∷ es) s c
  above_more s c a = above_next (plans s) es e s c p.unsent a

  pub Passed_kept : Inv plans (e ∷ es)
  Passed_kept = advance_kept plans es e i (record {
    source = λ s k m w h. source_more es e s k (i.source s k m w (sym (p.bounds s k) ∙ h));
    once = λ t r q o a h g. elim h [
      | inl u ↦ absurd (p.unserved t r o u)
      | inr u ↦ elim g [
        | inl v ↦ elim v [ inl z ↦ absurd (p.unserved t q a z) | inr z ↦ i.once t r q o a u (inl z) ]
        | inr v ↦ elim v [ inl z ↦ absurd ((busy t q a z).2 r o (inl u)) | inr z ↦ i.once t r q o a u (inr z) ]
      ]
    ];
    in_order = subst AreInOrder (sym p.cells) i.in_order;
    sound = λ k. subst (λ cs. IsSound (cell_at cs k)) (sym p.cells) (i.sound k);
    later = (let z = p.last in omega (arith, z));
    low = (let z = p.last in let y = p.max_read in let l = i.low in omega (arith, z, y, l));
    own = λ s k l h o. (let a = i.own s k l (subst (λ cs. (cell_at cs k).lock ≡ Some l) p.cells h) o in record { way = a.way; bound = p.bounds s k ∙ a.bound; named = a.named });
    advance = λ s. quiet_in (plans s) (plans s).way (NamedBy (plans s) es s) (NamedBy (plans s) (e ∷ es) s) (IsBarred es s) (IsBarred (e ∷ es) s) (phases (store_after es) s) (phases (store_after (e ∷ es)) s) (bounds es s) (bounds (e ∷ es) s) (named_more (plans s) es e s) (λ w. barred_more s) (phase_same s) (λ w k. p.bounds s k) (i.hang s);
    high = λ s k m h w. let a = i.high s k m (sym (p.bounds s k) ∙ h) w in (above_more s m a.0, prewritten_more es e s a.1);
    means = λ t r o h. absurd (p.unserved t r o h);
    shows = λ t r o h. absurd (p.unserved t r o h);
    warranted = λ t r h. absurd (p.unsent t r h);
    prewrites = λ t q h. absurd (p.unsent t (Prewrite q) h);
    no_lock = λ t q h. absurd (p.unsent t (PessimisticLock q) h);
    reads = λ t r h. absurd (p.unsent t r h);
    taken = took;
    refused = λ t r o h. let z = busy t r o h in (z.0, z.1);
    sent = λ t r o h. absurd (p.unserved t r o h);
    times = λ s t a q o c h v. elim a [
      | inl y ↦ absurd (p.unsent t (Tso y.0) y.1)
      | inr y ↦ elim h [ inl u ↦ absurd (p.unserved t (Tso q) (reply.Tso o) u) | inr u ↦ above_more s c (i.times s t y q o c u v) ]
    ];
    named = λ s c h. elim h.2 [ inl u ↦ absurd (p.unsent h.0 (Commit h.1) u) | inr u ↦ (let a = i.named s c (h.0, h.1, u, h.3, h.4, h.5) in (locked_more (plans s) es e s a.0, above_more s c a.1)) ];
    landed = λ s c w h. (let a = i.landed s c w (p.landed (plans s) s c h) in ((a.0.0, phase_same s (plans s).primary ∙ a.0.1), above_more s c a.1, prewritten_more es e s a.2, λ k x v. phase_same s k ∙ a.3 k x v));
    apart = λ s c w h t q o g. elim g [ inl u ↦ absurd (p.unserved t (Prewrite q) (reply.Prewrite o) u) | inr u ↦ i.apart s c w (p.landed (plans s) s c h) t q o u ];
    one = λ s c m w h v. elim h.2 [ inl u ↦ absurd (p.unsent h.0 (Commit h.1) u) | inr u ↦ elim v.2 [ inl y ↦ absurd (p.unsent v.0 (Commit v.1) y) | inr y ↦ i.one s c m w (h.0, h.1, u, h.3, h.4, h.5) (v.0, v.1, y, v.3, v.4, v.5) ] ];
  })

opening_hang : (plan : Plan) (way : Way) (Named : ℕ → Type 0) (Barred : Key → Type 0) → HangIn plan way Named Barred (λ k. Free) (λ k. None)
opening_hang plan TwoPhases Named Barred = record { locked = λ k p x h. absurd (cc); committed = λ k c x h. absurd (cc); named = λ c h. absurd (let z = h.1 in cc); whole = λ c h. absurd (let z = h.1 in cc) }
opening_hang plan (Spread ks) Named Barred = record { locked = λ k p x h. absurd (cc); free = λ k h. refl; committed = λ k c x h. absurd (cc); undone = λ k m h. absurd (cc); listed = λ k m h. absurd (cc) }

opening_kept : (plans : ℕ → Plan) → Inv plans []
opening_kept plans = record {
  source = λ s k m w h. absurd (cc);
  once = λ t r q o p h. absurd h;
  in_order = tt;
  sound = λ k. record { lock = λ s h. absurd (cc); rolled = λ s h. absurd (cc); once = λ w h. absurd h; newest = λ w h. absurd h };
  low = omega arith;
  own = λ s k l h. absurd (cc);
  hang = λ s. opening_hang (plans s) (plans s).way (NamedBy (plans s) [] s) (IsBarred [] s);
  high = λ s k m h. absurd (cc);
  means = λ t r o h. absurd h;
  shows = λ t r o h. absurd h;
  warranted = λ t r h. absurd h;
  prewrites = λ t q h. absurd h;
  reads = λ t r h. absurd h;
  taken = λ t r o h. absurd h;
  refused = λ t r o h. absurd h;
  sent = λ t r o h. absurd h;
  times = λ s t a. absurd a;
  named = λ s c h. absurd h.2;
  landed = λ s c w h. absurd h;
  apart = λ s c w h. absurd h;
  one = λ s c d w h. absurd h.2;
}

replied_same : (es : List Event) (n t : Ticket) (r q : Request) (o a : Reply) → Took n r o ≡ Took t q a → WasReplied es n r o → WasReplied es t q a
replied_same es n t r q o a e h = subst₂ (WasReplied es t) (cc) (cc) (subst (λ x. WasReplied es x r o) (cc) h)

refused_same : (es : List Event) (n t : Ticket) (r q : Request) (o a : Reply) → Refused n r o ≡ Refused t q a → Has es (Sent n r) × (busy_reply r ≡ Some o) × IsUnserved es n → Has es (Sent t q) × (busy_reply q ≡ Some a) × IsUnserved es t
refused_same es n t r q o a e h = (subst₂ (λ x y. Has es (Sent x y)) (cc) (cc) h.0, subst₂ (λ y z. busy_reply y ≡ Some z) (cc) (cc) h.1, subst (IsUnserved es) (cc) h.2)

pub kept : (plans : ℕ → Plan) (es : List Event) → IsRun plans es → Inv plans es
kept plans [] run = opening_kept plans
kept plans (Sent n r ∷ es) run = Sent_kept plans es (kept plans es run.2) n r run.1.0 run.0 run.1.1
kept plans (Served n r o ∷ es) run = Served_kept plans es (kept plans es run.2) n o run.0.2 run.0.3 r run.0.0 run.0.1
kept plans (Took n r o ∷ es) run = Passed_kept plans es (kept plans es run.2) (Took n r o) (passes es (Took n r o) tt) (λ t q a e. replied_same es n t r q o a e run.0) (λ t q a e. absurd (cc))
kept plans (Refused n r o ∷ es) run = Passed_kept plans es (kept plans es run.2) (Refused n r o) (passes es (Refused n r o) tt) (λ t q a e. absurd (cc)) (λ t q a e. refused_same es n t r q o a e run.0)
kept plans (e ∷ es) run = Passed_kept plans es (kept plans es run.2) e (passes es e tt) (λ t q a f. absurd (cc)) (λ t q a f. absurd (cc))

-- how a served request moved the phase of a start at a key
pub served_outcome : (plans : ℕ → Plan) (es : List Event) (n : Ticket) (r : Request) (o : Reply) → IsRun plans (Served n r o ∷ es) → (s : ℕ) (k : Key) → Outcome (bound_in (store_after es) r) r k s (cell_at (store_after es).cells k) (phases (table (store_after es) r).store s k)
served_outcome plans es n r o run s k = let i = kept plans es run.2 in outcome (bound_in (store_after es) r) r k s (cell_at (store_after es).cells k) (cell_at (table (store_after es) r).store.cells k) (i.sound k) (step plans es i n r o run.0.0 run.0.2 k)
