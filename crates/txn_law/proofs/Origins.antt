-- Where a lock comes from.
use Rattle.std.proofs.Common.{◌≡◌, ◌≢◌, ℕ, ◌<◌, ◌≤◌, ◌⊎◌, max, inl, inr, Bool, true, false, List, [], ◌∷◌, Option, Some, None, nat_le, refl, sym, ap, ◌∙◌, subst, subst₂, arith}
use Rattle.std.specs.Prelude.{if◌then◌else◌}
use Rattle.std.proofs.lemmas.Bool.Decides.{nat_tests}
use Rattle.txn_kv.specs.declared.ticket.Ticket.{Ticket}
use Rattle.txn_kv.specs.declared.message.RegionErr.{RegionErr}
use Rattle.txn_kv.specs.declared.request.Request.{Request}
use Rattle.txn_kv.specs.declared.request.Request.TheVariants.{Prewrite, PessimisticLock, PessimisticRollback}
use Rattle.txn_kv.specs.declared.request.commits.PrewriteRequest.{PrewriteRequest}
use Rattle.txn_kv.specs.declared.request.locks.PessimisticLockRequest.{PessimisticLockRequest}
use Rattle.txn_kv.specs.declared.request.locks.PessimisticRollbackRequest.{PessimisticRollbackRequest}
use Rattle.txn_kv.specs.declared.reply.Reply.{Reply}
use Rattle.txn_kv.specs.declared.reply.Reply.TheVariants as reply
use Rattle.txn_kv.specs.declared.reply.locks.PessimisticRollbackResponse.{PessimisticRollbackResponse}
use Rattle.txn_history.specs.Event.{Event, Has}
use Rattle.txn_history.specs.Event.Event.{Sent, Served}
use Rattle.txn_history.specs.Plan.{Key, Content, Plan, has_key, LocksKey}
use Rattle.txn_model.specs.declared.cell.Cell.{Cell}
use Rattle.txn_model.specs.declared.cell.Lock.{Lock}
use Rattle.txn_model.specs.Cells.{cell_at, AreInOrder}
use Rattle.txn_model.specs.Locks.{is_prewrite, owns, holds}
use Rattle.txn_model.specs.PessimisticLock.{raised_lock}
use Rattle.txn_model.specs.Placement.{region_check}
use Rattle.txn_model.specs.Prewrite.{mutation_keys}
use Rattle.txn_model.specs.Rollback.{pessimistic_rollback_by, released_by, is_for_update_by}
use Rattle.txn_model.specs.Settle.{released, unlocked}
use Rattle.txn_model.specs.Store.{Store}
use Rattle.txn_model.specs.Table.{table}
use Rattle.txn_model.proofs.CellLists.{cell_changed}
use Rattle.txn_law.specs.Part.{IsPart, CameSince, LocksForUpdate, WasGivenBack}
use Rattle.txn_law.specs.Run.{IsRun, store_after}
use Rattle.txn_law.specs.Whole.{content, KeyCommitted}
use Rattle.txn_law.proofs.Kept.{kept, passes}
use Rattle.txn_law.proofs.Bounds.{taken_away, commit_lock_from, commit_takes, same_lock}
use Rattle.txn_law.proofs.Stepping.{step}
use Rattle.txn_law.proofs.Taken.{hang}
use Rattle.txn_law.proofs.Moves.{CellStep, May, may_lock, bound_in}
use Rattle.txn_law.proofs.Moves.CellStep.{Same, Places, Landed, Recorded, Made, Released, Held, Renewed}
use Rattle.txn_law.proofs.Phases.{placed, held, IsClear}
use Rattle.txn_law.proofs.Phases.Phase.{Locked}
use Rattle.txn_law.proofs.Phases.Move.{Locks}
use Rattle.txn_law.proofs.Replies.{phases, lock_is_phase, changed_cell}
use Rattle.txn_law.proofs.Rows.{for_update_keeps}
use Rattle.txn_law.proofs.StaysGone.{run_part, since_more}
use Rattle.txn_law.proofs.Unlocked.{key_unlocked}

-- a lock of s for this for-update timestamp stands in the cell
abbrev pub Stands : Cell → ℕ → ℕ → Type 0
Stands c s f = (n : Lock) × (c.lock ≡ Some n) × (n.start ≡ s) × (n.for_update ≡ f)

-- the request sets one: a Prewrite at any, a PessimisticLock at its own
abbrev pub Sets : Request → Key → ℕ → ℕ → Type 0
Sets r k s f = ((q : PrewriteRequest) × (r ≡ Prewrite q) × (q.start_version ≡ s) × LocksKey q.mutations k) ⊎ ((q : PessimisticLockRequest) × (r ≡ PessimisticLock q) × LocksForUpdate q s k × (f ≡ q.for_update_ts))

prewrite_sets : (r : Request) (k : Key) (s : ℕ) (c : Cell) (q : Key) (y : Content) (f : ℕ) → May r k s c (Locks q y) → Sets r k s f
prewrite_sets r k s c q y f m = let w = may_lock r k s c q y m in inl (w.0, w.1, sym w.2, (w.3.0, y, w.3.1, w.3.2, w.3.3))

raised_sets : (q : PessimisticLockRequest) (k : Key) (c : Cell) (l : Lock) → IsClear c l.start → q.start_version ≡ l.start → has_key (mutation_keys q.mutations) k ≡ true → l ≡ raised_lock q c.lock → Stands c l.start l.for_update ⊎ Sets (PessimisticLock q) k l.start l.for_update
raised_sets q k c l clear start key is = by c.lock refl is
  where
    by_time : (n : Lock) → c.lock ≡ Some n → l.for_update ≡ max n.for_update q.for_update_ts → (b : Bool) → nat_le n.for_update q.for_update_ts ≡ b → Stands c l.start l.for_update ⊎ Sets (PessimisticLock q) k l.start l.for_update
    by_time n e f true g = inr (inr (q, refl, (start, key), (let low : n.for_update ≤ q.for_update_ts = grind (arith, nat_tests) in omega (arith, low, f))))
    by_time n e f false g = inl (n, e, (clear.unlocked n e).0, (let high : q.for_update_ts < n.for_update = grind (arith, nat_tests) in omega (arith, high, f)))

    by : (o : Option Lock) → c.lock ≡ o → l ≡ raised_lock q o → Stands c l.start l.for_update ⊎ Sets (PessimisticLock q) k l.start l.for_update
    by None e g = inr (inr (q, refl, (start, key), ap (λ (x : Lock). x.for_update) g))
    by (Some n) e g = by_time n e (ap (λ (x : Lock). x.for_update) g) (nat_le n.for_update q.for_update_ts) refl

-- a lock that is there was there, or the request set it
lock_from : (at : ℕ) (r : Request) (k : Key) (c d : Cell) → CellStep at r k c d → (l : Lock) → d.lock ≡ Some l → Stands c l.start l.for_update ⊎ Sets r k l.start l.for_update
lock_from at r k c d Same l h = inl (l, h, refl, refl)
lock_from at r k c d (Places n e a m v f) l h = by (owns c.lock n.start) h
  where
    by : (b : Bool) → (if b then c else held n c).lock ≡ Some l → Stands c l.start l.for_update ⊎ Sets r k l.start l.for_update
    by true g = inl (l, g, refl, refl)
    by false g = inr (subst (λ (x : Lock). Sets r k x.start x.for_update) (same_lock n l g) (prewrite_sets r k n.start c n.primary (content n.kind n.value) n.for_update m))
lock_from at r k c d (Landed n e a m v f) l h = absurd (commit_takes n.start at (placed n c) l n (rw f refl) refl e h)
lock_from at r k c d (Recorded s a m) l h = inl (l, taken_away (holds c.lock s) c l h, refl, refl)
lock_from at r k c d (Made s n m) l h = inl (l, commit_lock_from s n c.lock c l refl h, refl, refl)
lock_from at r k c d (Released s) l h = by (owns c.lock s) h
  where
    by : (b : Bool) → (if b then c else unlocked s c).lock ≡ Some l → Stands c l.start l.for_update ⊎ Sets r k l.start l.for_update
    by true g = inl (l, g, refl, refl)
    by false g = inl (l, taken_away (holds c.lock s) c l g, refl, refl)
lock_from at r k c d (Held n e a m) l h = subst (λ (x : Lock). Stands c x.start x.for_update ⊎ Sets r k x.start x.for_update) (same_lock n l h) (subst (λ z. Stands c n.start n.for_update ⊎ Sets z k n.start n.for_update) (sym m.1) (raised_sets m.0 k c n a m.2 m.4 m.5))
lock_from at r k c d (Renewed n ttl e) l h = inl (n, e, ap (λ (x : Lock). x.start) (same_lock (record n { ttl = max n.ttl ttl }) l h), ap (λ (x : Lock). x.for_update) (same_lock (record n { ttl = max n.ttl ttl }) l h))

-- a lock that stands in the end stood at first, or was set since
abbrev WasSetSince : List Event → List Event → Key → ℕ → ℕ → Type 0
WasSetSince es first k s f = (t : Ticket) × (r : Request) × (o : Reply) × CameSince es first (Served t r o) × Sets r k s f

later_set : (es first : List Event) (e : Event) (k : Key) (s f : ℕ) → WasSetSince es first k s f → WasSetSince (e ∷ es) first k s f
later_set es first e k s f w = (w.0, w.1, w.2, since_more es first e (Served w.0 w.1 w.2) w.3, w.4)

came_from : (plans : ℕ → Plan) (es first : List Event) → IsRun plans es → IsPart es first → (k : Key) (s f : ℕ) → Stands (cell_at (store_after es).cells k) s f → Stands (cell_at (store_after first).cells k) s f ⊎ WasSetSince es first k s f
came_from plans [] first run h k s f l = inl (subst (λ p. Stands (cell_at (store_after p).cells k) s f) (sym h) l)
came_from plans (e ∷ es) first run (inl h) k s f l = inl (subst (λ p. Stands (cell_at (store_after p).cells k) s f) (sym h) l)
came_from plans (Sent t r ∷ es) first run (inr h) k s f l = elim (came_from plans es first run.2 h k s f l) [ inl a ↦ inl a | inr a ↦ inr (later_set es first (Sent t r) k s f a) ]
came_from plans (Served t r o ∷ es) first run (inr h) k s f l =
    let st = store_after es in
    let now = step plans es (kept plans es run.2) t r o run.0.0 run.0.2 k in
    elim (subst₂ (λ x y. Stands (cell_at st.cells k) x y ⊎ Sets r k x y) l.2 l.3 (lock_from (bound_in st r) r k (cell_at st.cells k) (cell_at (table st r).store.cells k) now l.0 l.1)) [
      | inl a ↦ elim (came_from plans es first run.2 h k s f a) [ inl b ↦ inl b | inr b ↦ inr (later_set es first (Served t r o) k s f b) ]
      | inr a ↦ inr (t, r, o, (es, inl refl, h), a)
    ]
came_from plans (e ∷ es) first run (inr h) k s f l = elim (came_from plans es first run.2 h k s f (subst (λ cs. Stands (cell_at cs k) s f) (passes es e tt).cells l)) [ inl a ↦ inl a | inr a ↦ inr (later_set es first e k s f a) ]

has_since : (es part : List Event) (e : Event) → IsPart es (e ∷ part) → Has es e
has_since [] part e h = absurd (cc)
has_since (x ∷ es) part e (inl h) = inl (let same : e ≡ x = cc in sym same)
has_since (x ∷ es) part e (inr h) = inr (has_since es part e h)

no_part : (es : List Event) → IsPart es []
no_part [] = refl
no_part (e ∷ es) = inr (no_part es)

-- a key outside of the plan is not prewritten
unplanned : (plans : ℕ → Plan) (es : List Event) → IsRun plans es → (s : ℕ) (k : Key) → (plans s).writes k ≡ None → (t : Ticket) (q : PrewriteRequest) (o : Reply) → Has es (Served t (Prewrite q) o) → q.start_version ≡ s → LocksKey q.mutations k → ⊥
unplanned plans es run s k none t q o h e w =
    let i = kept plans es run in
    let facts = i.prewrites t q (i.sent t (Prewrite q) o h) in
    let planned = subst₂ (λ u z. (plans u).writes z ≡ Some w.1) e w.3 ((facts.planned w.0 w.2).1 w.1 w.4) in
    absurd (cc)

-- and a lock there is a pessimistic one
not_prewritten : (plans : ℕ → Plan) (es : List Event) → IsRun plans es → (s : ℕ) (k : Key) → (plans s).writes k ≡ None → (l : Lock) → (cell_at (store_after es).cells k).lock ≡ Some l → l.start ≡ s → is_prewrite l.kind ≡ false
not_prewritten plans es run s k none l h e = by (is_prewrite l.kind) refl
  where
    by : (b : Bool) → is_prewrite l.kind ≡ b → is_prewrite l.kind ≡ false
    by false f = f
    by true f =
        let i = kept plans es run in
        let here = subst (λ u. phases (store_after es) u k ≡ Locked l.primary (content l.kind l.value)) e (lock_is_phase (cell_at (store_after es).cells k) l (i.sound k) h f) in
        let planned = ((hang plans es i s).locked k l.primary (content l.kind l.value) here).1 in
        absurd (cc)

-- what a PessimisticRollback leaves of a pessimistic lock is for a later for-update timestamp
left_by : (r : PessimisticRollbackRequest) (c : Cell) (l : Lock) → (released_by r.start_version r.for_update_ts c).lock ≡ Some l → l.start ≡ r.start_version → is_prewrite l.kind ≡ false → (c.lock ≡ Some l) × (r.for_update_ts < l.for_update)
left_by r c l h e p = by c.lock refl h
  where
    by_owner : (n : Lock) → c.lock ≡ Some n → (b : Bool) → owns c.lock r.start_version ≡ b → (if b then c else unlocked r.start_version c).lock ≡ Some l → ⊥
    by_owner n f true g w = absurd (let same : n ≡ l = same_lock n l (sym f ∙ w) in grind (arith, nat_tests))
    by_owner n f false g w = absurd (let lock = taken_away (holds c.lock r.start_version) c l w in grind (arith, nat_tests))

    by_time : (n : Lock) → c.lock ≡ Some n → (b : Bool) → nat_le n.for_update r.for_update_ts ≡ b → (if b then released r.start_version c else c).lock ≡ Some l → (c.lock ≡ Some l) × (r.for_update_ts < l.for_update)
    by_time n f true g w = absurd (by_owner n f (owns c.lock r.start_version) refl w)
    by_time n f false g w = (w, (let same : n ≡ l = same_lock n l (sym f ∙ w) in grind (arith, nat_tests)))

    by : (o : Option Lock) → c.lock ≡ o → (if is_for_update_by r.for_update_ts o then released r.start_version c else c).lock ≡ Some l → (c.lock ≡ Some l) × (r.for_update_ts < l.for_update)
    by None f w = absurd (cc)
    by (Some n) f w = by_time n f (nat_le n.for_update r.for_update_ts) refl w

left_in : (e : Option RegionErr) (st : Store) (r : PessimisticRollbackRequest) (o : PessimisticRollbackResponse) (k : Key) (l : Lock) → AreInOrder st.cells → (pessimistic_rollback_by e st r).reply ≡ reply.PessimisticRollback o → o.region_error ≡ None → has_key r.keys k ≡ true → (cell_at (pessimistic_rollback_by e st r).store.cells k).lock ≡ Some l → l.start ≡ r.start_version → is_prewrite l.kind ≡ false → ((cell_at st.cells k).lock ≡ Some l) × (r.for_update_ts < l.for_update)
left_in (Some e) st r o k l order d h a g s p = absurd (cc)
left_in None st r o k l order d h a g s p =
    let now = changed_cell st (pessimistic_rollback_by None st r).store r.keys (released_by r.start_version r.for_update_ts) k (cell_changed r.keys (released_by r.start_version r.for_update_ts) (for_update_keeps r.start_version r.for_update_ts) st.cells order k) a in
    left_by r (cell_at st.cells k) l (sym (ap (λ (c : Cell). c.lock) now) ∙ g) s p

module _ (plans : ℕ → Plan) (es : List Event) (run : IsRun plans es) (s : ℕ) where
  not_set : (first : List Event) (k : Key) (f : ℕ) → (plans s).writes k ≡ None → ((t : Ticket) (q : PessimisticLockRequest) (o : Reply) → CameSince es first (Served t (PessimisticLock q) o) → LocksForUpdate q s k → ⊥) → WasSetSince es first k s f → ⊥
  not_set first k f none n w = elim w.4 [
    | inl a ↦ unplanned plans es run s k none w.0 a.0 w.2 (has_since es w.3.0 (Served w.0 (Prewrite a.0) w.2) (subst (λ z. IsPart es (Served w.0 z w.2 ∷ w.3.0)) a.1 w.3.1)) a.2 a.3
    | inr a ↦ n w.0 a.0 w.2 (subst (λ z. CameSince es first (Served w.0 z w.2)) a.1 w.3) a.2
  ]

  not_at_first : (k : Key) (f : ℕ) → Stands (cell_at (store_after []).cells k) s f → ⊥
  not_at_first k f h = let e = h.1 in cc

  unasked : (k : Key) (l : Lock) → (plans s).writes k ≡ None → ((t : Ticket) (q : PessimisticLockRequest) (o : Reply) → Has es (Served t (PessimisticLock q) o) → LocksForUpdate q s k → ⊥) → (cell_at (store_after es).cells k).lock ≡ Some l → l.start ≡ s → ⊥
  unasked k l none n h e = elim (came_from plans es [] run (no_part es) k s l.for_update (l, h, e, refl)) [
    | inl a ↦ not_at_first k l.for_update a
    | inr a ↦ not_set [] k l.for_update none (λ t q o w. n t q o (has_since es w.0 (Served t (PessimisticLock q) o) w.1)) a
  ]

given_back : (plans : ℕ → Plan) (es : List Event) → IsRun plans es → (s : ℕ) (k : Key) (l : Lock) → (plans s).writes k ≡ None → WasGivenBack es s k → (cell_at (store_after es).cells k).lock ≡ Some l → l.start ≡ s → ⊥
given_back plans es run s k l none w h e = elim (came_from plans es now run w.served k s l.for_update (l, h, e, refl)) [
  | inl a ↦ still a
  | inr a ↦ not_set plans es run s now k l.for_update none w.later a
]
  where
    now : List Event
    now = Served w.ticket (PessimisticRollback w.request) (reply.PessimisticRollback w.response) ∷ w.before

    run_now : IsRun plans now
    run_now = run_part plans es now run w.served

    still : Stands (cell_at (store_after now).cells k) s l.for_update → ⊥
    still a =
        let left = left_in (region_check (store_after w.before).regions w.request.context) (store_after w.before) w.request w.response k a.0 (kept plans w.before run_now.2).in_order (sym run_now.0.1) w.fine.0 w.key a.1 (a.2 ∙ sym w.start) (not_prewritten plans now run_now s k none a.0 a.1 a.2) in
        elim (came_from plans w.before [] run_now.2 (no_part w.before) k s a.0.for_update (a.0, left.0, a.2, refl)) [
          | inl b ↦ not_at_first plans w.before run_now.2 s k a.0.for_update b
          | inr b ↦ elim b.4 [
            | inl c ↦ unplanned plans w.before run_now.2 s k none b.0 c.0 b.2 (has_since w.before b.3.0 (Served b.0 (Prewrite c.0) b.2) (subst (λ z. IsPart w.before (Served b.0 z b.2 ∷ b.3.0)) c.1 b.3.1)) c.2 c.3
            | inr c ↦ (
                let low = w.earlier b.0 c.0 b.2 (has_since w.before b.3.0 (Served b.0 (PessimisticLock c.0) b.2) (subst (λ z. IsPart w.before (Served b.0 z b.2 ∷ b.3.0)) c.1 b.3.1)) c.2 in
                let high = left.1 in
                let same = c.3 in
                absurd (omega (arith, low, high, same)))
          ]
        ]

-- where each key that s writes is committed, and each other one was given back, no lock of s stands
pub law_no_lock_left : (plans : ℕ → Plan) (es : List Event) → IsRun plans es → (s : ℕ) → ((k : Key) (x : Content) → (plans s).writes k ≡ Some x → KeyCommitted es s k) → ((k : Key) → (plans s).writes k ≡ None → ((t : Ticket) (q : PessimisticLockRequest) (o : Reply) → Has es (Served t (PessimisticLock q) o) → LocksForUpdate q s k → ⊥) ⊎ WasGivenBack es s k) → (k : Key) (l : Lock) → (cell_at (store_after es).cells k).lock ≡ Some l → l.start ≢ s
law_no_lock_left plans es run s all others k l h e = by ((plans s).writes k) refl
  where
    by : (o : Option Content) → (plans s).writes k ≡ o → ⊥
    by (Some x) f = key_unlocked plans es run s k (all k x f) l h e
    by None f = elim (others k f) [ inl n ↦ unasked plans es run s k l f n h e | inr w ↦ given_back plans es run s k l f w h e ]
