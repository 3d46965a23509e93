-- A prewrite lock that is gone does not come back.
use Rattle.txn_kv.specs.declared.reply.Reply.TheVariants as reply
use Rattle.std.specs.Prelude.{take, if◌then◌else◌, length}
use Rattle.txn_law.proofs.Among.{take_all, filter_map_among, filter_among, kept_or_none, taken_before, GoOn, filter_goes, in_order_goes}
use Rattle.txn_model.proofs.CellLists.{key_of_cell, cell_each}
use Rattle.txn_model.specs.Store.{Store}
use Rattle.txn_model.specs.Placement.{region_check}
use Rattle.txn_model.specs.Resolve.{lock_until, scan_lock_by, infos, settled, all_settled, is_in_context, resolve_lock_by}
use Rattle.txn_model.specs.Table.{table}
use Rattle.txn_model.specs.Ranges.{in_range, cells_in}
use Rattle.txn_history.specs.Among.{IsAmong}
use Rattle.txn_kv.specs.declared.ticket.Ticket.{Ticket}
use Rattle.txn_kv.specs.declared.message.RegionErr.{RegionErr}
use Rattle.txn_kv.specs.declared.message.LockInfo.{LockInfo}
use Rattle.txn_kv.specs.declared.reply.locks.ScanLockResponse.{ScanLockResponse}
use Rattle.txn_kv.specs.declared.message.TxnInfo.{TxnInfo}
use Rattle.txn_kv.specs.declared.request.Request.{Request}
use Rattle.txn_kv.specs.declared.request.Request.TheVariants.{ScanLock, ResolveLock, Prewrite}
use Rattle.txn_kv.specs.declared.request.locks.ResolveLockRequest.{ResolveLockRequest}
use Rattle.txn_kv.specs.declared.reply.Reply.{Reply}
use Rattle.txn_kv.specs.declared.reply.locks.ResolveLockResponse.{ResolveLockResponse}
use Rattle.txn_kv.specs.declared.request.locks.ScanLockRequest.{ScanLockRequest}
use Rattle.std.proofs.Common.{◌≡◌, ℕ, ◌⊎◌, inl, inr, true, List, [], ◌∷◌, Option, Some, None, refl, sym, subst, arith, ◌<◌, ◌≤◌, Bool, false, nat_le, ap, ◌∙◌}
use Rattle.std.proofs.lemmas.Bool.Decides.{nat_tests}
use Rattle.txn_history.specs.Busy.{busy_reply}
use Rattle.txn_history.specs.Event.{Event, Has}
use Rattle.txn_model.specs.declared.cell.Lock.{Lock}
use Rattle.txn_model.specs.Locks.{holds, lock_info}
use Rattle.txn_history.specs.Event.Event.{Sent, Served, Took}
use Rattle.txn_history.specs.Plan.{Key, Content, Plan}
use Rattle.txn_model.specs.declared.cell.Cell.{Cell}
use Rattle.txn_model.specs.Cells.{cell_at, key_cmp, AreInOrder}
use Rattle.txn_law.specs.Part.{IsPart, IsLockedBy, CameSince, NonePrewrittenSince, LooksAt, ShowsLockAt, WasResolvedSince, WasCleanedSince}
use Rattle.txn_law.specs.Run.{IsRun, IsUnused, store_after}
use Rattle.txn_law.specs.Whole.{content}
use Rattle.txn_law.proofs.Kept.{kept, served_outcome, passes}
use Rattle.txn_law.proofs.Taken.{settled_infos}
use Rattle.txn_law.proofs.Bounds.{own_lock}
use Rattle.txn_law.proofs.Moves.{May, may_lock, bound_in, Outcome}
use Rattle.txn_law.proofs.Phases.{Phase, Move, Goes, phase}
use Rattle.txn_law.proofs.Phases.Phase.{Free, Locked, Committed, RolledBack}
use Rattle.txn_law.proofs.Phases.Move.{Locks, Commits, Rolls}
use Rattle.txn_law.proofs.Settling.{not_held, none_settled, held_unlocks, in_region, region_keeps, region_none}
use Rattle.std.specs.List.{filter_map}
use Rattle.std.specs.declared.cmp.Ordering.TheVariants.{Less}
use Rattle.txn_law.proofs.Replies.{phases, lock_is_phase}

-- the start was locked there, and now is committed or rolled back
abbrev IsOver : Phase → Type 0
IsOver o = ((c : ℕ) × (x : Content) × (o ≡ Committed c x)) ⊎ (o ≡ RolledBack)

abbrev IsBegun : Phase → Phase → Type 0
IsBegun before o = (o ≡ before) ⊎ IsOver o

pub run_part : (plans : ℕ → Plan) (es part : List Event) → IsRun plans es → IsPart es part → IsRun plans part
run_part plans [] part run h = subst (IsRun plans) (sym h) tt
run_part plans (e ∷ es) part run (inl h) = subst (IsRun plans) (sym h) run
run_part plans (e ∷ es) part run (inr h) = run_part plans es part run.2 h

over_goes : (n : ℕ) (r : Request) (k : Key) (s : ℕ) (c : Cell) (o after : Phase) → phase c s ≡ o → Outcome n r k s c after → IsOver o → IsOver after
over_goes n r k s c o after e (inl h) w = subst IsOver (sym (h ∙ e)) w
over_goes n r k s c o after e (inr (inl h)) (inl w) = absurd (subst (λ b. Goes b h.0 after) (e ∙ w.2) h.2)
over_goes n r k s c o after e (inr (inl h)) (inr w) = absurd (subst (λ b. Goes b h.0 after) (e ∙ w) h.2)
over_goes n r k s c o after e (inr (inr h)) (inl w) = absurd (let a = h.3 in let b = w.2 in cc)
over_goes n r k s c o after e (inr (inr h)) (inr w) = absurd (let a = h.3 in cc)

begun_goes : (n : ℕ) (r : Request) (k : Key) (s : ℕ) (c : Cell) (after : Phase) (p : Key) (x : Content) → phase c s ≡ Locked p x → Outcome n r k s c after → IsBegun (Locked p x) after
begun_goes n r k s c after p x e (inl h) = inl (h ∙ e)
begun_goes n r k s c after p x e (inr (inl h)) = by h.0 (subst (λ b. Goes b h.0 after) e h.2)
  where
    by : (m : Move) → Goes (Locked p x) m after → IsBegun (Locked p x) after
    by (Locks q y) g = absurd g
    by (Commits d) g = inr (inl (d, x, g))
    by Rolls g = inr (inr g)
begun_goes n r k s c after p x e (inr (inr h)) = absurd (let a = h.3 in cc)

over_stays : (plans : ℕ → Plan) (es part : List Event) → IsRun plans es → IsPart es part → (s : ℕ) (k : Key) → IsOver (phases (store_after part) s k) → IsOver (phases (store_after es) s k)
over_stays plans [] part run h s k o = subst (λ p. IsOver (phases (store_after p) s k)) h o
over_stays plans (e ∷ es) part run (inl h) s k o = subst (λ p. IsOver (phases (store_after p) s k)) h o
over_stays plans (Sent t r ∷ es) part run (inr h) s k o = over_stays plans es part run.2 h s k o
over_stays plans (Served t r a ∷ es) part run (inr h) s k o =
    let st = store_after es in
    over_goes (bound_in st r) r k s (cell_at st.cells k) (phases st s k) (phases (table st r).store s k) refl (served_outcome plans es t r a run s k) (over_stays plans es part run.2 h s k o)
over_stays plans (e ∷ es) part run (inr h) s k o = subst (λ cs. IsOver (phase (cell_at cs k) s)) (sym (passes es e tt).cells) (over_stays plans es part run.2 h s k o)

begun_stays : (plans : ℕ → Plan) (es part : List Event) → IsRun plans es → IsPart es part → (s : ℕ) (k p : Key) (x : Content) → phases (store_after part) s k ≡ Locked p x → IsBegun (Locked p x) (phases (store_after es) s k)
begun_stays plans [] part run h s k p x o = inl (subst (λ q. phases (store_after q) s k ≡ Locked p x) h o)
begun_stays plans (e ∷ es) part run (inl h) s k p x o = inl (subst (λ q. phases (store_after q) s k ≡ Locked p x) h o)
begun_stays plans (Sent t r ∷ es) part run (inr h) s k p x o = begun_stays plans es part run.2 h s k p x o
begun_stays plans (Served t r a ∷ es) part run (inr h) s k p x o =
    let st = store_after es in
    let now = served_outcome plans es t r a run s k in
    elim (begun_stays plans es part run.2 h s k p x o) [
      | inl w ↦ begun_goes (bound_in st r) r k s (cell_at st.cells k) (phases (table st r).store s k) p x w now
      | inr w ↦ inr (over_goes (bound_in st r) r k s (cell_at st.cells k) (phases st s k) (phases (table st r).store s k) refl now w)
    ]
begun_stays plans (e ∷ es) part run (inr h) s k p x o = subst (λ cs. IsBegun (Locked p x) (phase (cell_at cs k) s)) (sym (passes es e tt).cells) (begun_stays plans es part run.2 h s k p x o)

locked_phase : (plans : ℕ → Plan) (es : List Event) → IsRun plans es → (s : ℕ) (k : Key) → (l : IsLockedBy (cell_at (store_after es).cells k) s) → phases (store_after es) s k ≡ Locked l.lock.primary (content l.lock.kind l.lock.value)
locked_phase plans es run s k l = subst (λ u. phases (store_after es) u k ≡ Locked l.lock.primary (content l.lock.kind l.lock.value)) l.start (lock_is_phase (cell_at (store_after es).cells k) l.lock ((kept plans es run).sound k) l.here l.prewrite)

owned_lock : (c : Cell) (s : ℕ) (p : Key) (x : Content) → phase c s ≡ Locked p x → IsLockedBy c s
owned_lock c s p x h = let o = own_lock c s p x h in record { lock = o.lock; here = o.here; start = o.start; prewrite = o.prewrite }

not_over : (o : Phase) (p : Key) (x : Content) → o ≡ Locked p x → IsOver o → ⊥
not_over o p x e (inl w) = let v = w.2 in absurd (cc)
not_over o p x e (inr w) = absurd (cc)

pub law_gone : (plans : ℕ → Plan) (es middle first : List Event) → IsRun plans es → IsPart es middle → IsPart middle first → (s : ℕ) (k : Key) → IsLockedBy (cell_at (store_after first).cells k) s → IsLockedBy (cell_at (store_after es).cells k) s → IsLockedBy (cell_at (store_after middle).cells k) s
law_gone plans es middle first run h g s k a b =
    let run_middle = run_part plans es middle run h in
    let run_first = run_part plans middle first run_middle g in
    let began = locked_phase plans first run_first s k a in
    let ends = locked_phase plans es run s k b in
    elim (begun_stays plans middle first run_middle g s k a.lock.primary (content a.lock.kind a.lock.value) began) [
      | inl w ↦ still w
      | inr w ↦ absurd (not_over (phases (store_after es) s k) b.lock.primary (content b.lock.kind b.lock.value) ends (over_stays plans es middle run h s k w))
    ]
  where
    still : phases (store_after middle) s k ≡ Locked a.lock.primary (content a.lock.kind a.lock.value) → IsLockedBy (cell_at (store_after middle).cells k) s
    still w = owned_lock (cell_at (store_after middle).cells k) s a.lock.primary (content a.lock.kind a.lock.value) w

-- a complete scan shows each lock that stands

info_until : (t : ℕ) (k : Key) (l : Lock) → l.start ≤ t → lock_until t k (Some l) ≡ Some (lock_info k l)
info_until t k l h = by (nat_le l.start t) refl
  where
    by : (b : Bool) → nat_le l.start t ≡ b → (if b then Some (lock_info k l) else None) ≡ Some (lock_info k l)
    by true e = refl
    by false e = absurd (grind (arith, nat_tests))

scan_shows : (e : Option RegionErr) (st : Store) (r : ScanLockRequest) (o : ScanLockResponse) (s : ℕ) (k : Key) → AreInOrder st.cells → (scan_lock_by e st r).reply ≡ reply.ScanLock o → LooksAt r o s k → IsLockedBy (cell_at st.cells k) s → ShowsLockAt o s k
scan_shows (Some e) st r o s k order d h l = absurd (let a = h.region in cc)
scan_shows None st r o s k order d h l = elim (kept_or_none st.cells k) [
  | inl a ↦ (info, subst (λ ls. IsAmong ls info) (sym told) (taken a), key_of_cell st.cells k, l.start)
  | inr a ↦ absurd (let b = l.here in let c = ap (λ (x : Cell). x.lock) a in cc)
]
  where
    info : LockInfo
    info = lock_info (cell_at st.cells k).key l.lock

    look : Cell → Option LockInfo
    look c = lock_until r.max_version c.key c.lock

    ranged : List Cell
    ranged = cells_in r.start_key r.end_key st.cells

    told : o.locks ≡ take r.limit (filter_map look ranged)
    told = let same : o ≡ record { region_error = None; error = None; locks = take r.limit (filter_map look ranged) } = cc in ap (λ (x : ScanLockResponse). x.locks) same

    shown : look (cell_at st.cells k) ≡ Some info
    shown = ap (lock_until r.max_version (cell_at st.cells k).key) l.here ∙ info_until r.max_version (cell_at st.cells k).key l.lock (let a = h.until in let b = l.start in omega (arith, a, b))

    here : IsAmong st.cells (cell_at st.cells k) → IsAmong ranged (cell_at st.cells k)
    here a = filter_among (λ (c : Cell). in_range r.start_key r.end_key c.key) st.cells (cell_at st.cells k) a (subst (λ q. in_range r.start_key r.end_key q ≡ true) (sym (key_of_cell st.cells k)) h.in_range)

    named : (c : Cell) (y : LockInfo) → look c ≡ Some y → y.key ≡ c.key
    named c y e = by c.lock e
      where
        by_start : (n : Lock) (b : Bool) → (if b then Some (lock_info c.key n) else None) ≡ Some y → y.key ≡ c.key
        by_start n true f = let same : lock_info c.key n ≡ y = cc in sym (ap (λ (z : LockInfo). z.key) same)
        by_start n false f = absurd (cc)

        by : (w : Option Lock) → lock_until r.max_version c.key w ≡ Some y → y.key ≡ c.key
        by None f = absurd (cc)
        by (Some n) f = by_start n (nat_le n.start r.max_version) f

    ordered : GoOn false ranged
    ordered = filter_goes false (λ (c : Cell). in_range r.start_key r.end_key c.key) st.cells (in_order_goes st.cells order)

    taken : IsAmong st.cells (cell_at st.cells k) → IsAmong (take r.limit (filter_map look ranged)) info
    taken a = elim h.reached [
      | inl m ↦ subst (λ ls. IsAmong ls info) (sym (take_all r.limit (filter_map look ranged) (subst (λ ls. length ls < r.limit) told m))) (filter_map_among look ranged (cell_at st.cells k) info (here a) shown)
      | inr w ↦ taken_before false look (λ (z : LockInfo). z.key) named r.limit ranged ordered (cell_at st.cells k) info (here a) shown w.0 (subst (λ ls. IsAmong ls w.0) told w.1) (subst (λ q. key_cmp q w.0.key ≡ Less) (sym (key_of_cell st.cells k)) w.2)
    ]

part_itself : (fs : List Event) → IsPart fs fs
part_itself [] = refl
part_itself (f ∷ fs) = inl refl

pub part_before : (fs : List Event) (f : Event) (gs : List Event) → IsPart fs (f ∷ gs) → IsPart fs gs
part_before [] f gs q = absurd (cc)
part_before (e ∷ fs) f gs (inl q) = inr (subst (IsPart fs) (tails q) (part_itself fs))
  where
    tails : (f ∷ gs) ≡ (e ∷ fs) → fs ≡ gs
    tails q = cc
part_before (e ∷ fs) f gs (inr q) = inr (part_before fs f gs q)

-- a lock that stood at first and stands in the end is shown by a scan between that looks at its key
found : (plans : ℕ → Plan) (es before first : List Event) (t : Ticket) (r : ScanLockRequest) (o : ScanLockResponse) → IsRun plans es → IsPart es (Served t (ScanLock r) (reply.ScanLock o) ∷ before) → IsPart before first → (s : ℕ) (k : Key) → IsLockedBy (cell_at (store_after first).cells k) s → LooksAt r o s k → IsLockedBy (cell_at (store_after es).cells k) s → ShowsLockAt o s k
found plans es before first t r o run h g s k a n b =
    let part = part_before es (Served t (ScanLock r) (reply.ScanLock o)) before h in
    let served = run_part plans es (Served t (ScanLock r) (reply.ScanLock o) ∷ before) run h in
    scan_shows (region_check (store_after before).regions r.context) (store_after before) r o s k (kept plans before served.2).in_order (sym served.0.1) n (law_gone plans es before first run part g s k a b)

-- a lock that stood before a scan that looked at its key and did not show it does not stand in the end
pub law_unshown : (plans : ℕ → Plan) (es before first : List Event) (t : Ticket) (r : ScanLockRequest) (o : ScanLockResponse) → IsRun plans es → IsPart es (Served t (ScanLock r) (reply.ScanLock o) ∷ before) → IsPart before first → (s : ℕ) (k : Key) → IsLockedBy (cell_at (store_after first).cells k) s → LooksAt r o s k → (ShowsLockAt o s k → ⊥) → IsLockedBy (cell_at (store_after es).cells k) s → ⊥
law_unshown plans es before first t r o run h g s k a n u b = u (found plans es before first t r o run h g s k a n b)

-- What a ResolveLock leaves.

-- it takes locks away, and sets none
lock_settled : (is : List TxnInfo) (c : Cell) → ((all_settled is c).lock ≡ None) ⊎ ((all_settled is c).lock ≡ c.lock)
lock_settled [] c = inr refl
lock_settled (i ∷ is) c = by (lock_settled is c) (holds c.lock i.txn) refl
  where
    by : ((all_settled is c).lock ≡ None) ⊎ ((all_settled is c).lock ≡ c.lock) → (b : Bool) → holds c.lock i.txn ≡ b → ((all_settled (i ∷ is) c).lock ≡ None) ⊎ ((all_settled (i ∷ is) c).lock ≡ c.lock)
    by rest true e = let none = held_unlocks i c e in inl (ap (λ (d : Cell). d.lock) (none_settled is (settled i c) none) ∙ none)
    by rest false e = subst (λ d. ((all_settled is d).lock ≡ None) ⊎ ((all_settled is d).lock ≡ c.lock)) (sym (not_held i c e)) rest

-- and none of a start that it settles stays
none_of_start : (is : List TxnInfo) (c : Cell) (i : TxnInfo) (l : Lock) → IsAmong is i → (all_settled is c).lock ≡ Some l → l.start ≡ i.txn → ⊥
none_of_start [] c i l a e d = a
none_of_start (j ∷ is) c i l a e d = by (λ g f. none_of_start is c i l g f d) (holds c.lock j.txn) refl
  where
    by : (IsAmong is i → (all_settled is c).lock ≡ Some l → ⊥) → (b : Bool) → holds c.lock j.txn ≡ b → ⊥
    by rest true f = let none = held_unlocks j c f in let gone : (all_settled is (settled j c)).lock ≡ None = ap (λ (x : Cell). x.lock) (none_settled is (settled j c) none) ∙ none in absurd (cc)
    by rest false f = elim a [
      | inl g ↦ elim (lock_settled is c) [
        | inl none ↦ absurd (let stays = later f in cc)
        | inr same ↦ (let lock : c.lock ≡ Some l = sym same ∙ later f in let txn : j.txn ≡ i.txn = ap (λ (x : TxnInfo). x.txn) g in absurd (grind (arith, nat_tests)))
      ]
      | inr g ↦ rest g (later f)
    ]
      where
        later : holds c.lock j.txn ≡ false → (all_settled is c).lock ≡ Some l
        later f = subst (λ x. (all_settled is x).lock ≡ Some l) (not_held j c f) e

resolve_takes : (e : Option RegionErr) (st : Store) (r : ResolveLockRequest) (o : ResolveLockResponse) (i : TxnInfo) (k : Key) → AreInOrder st.cells → (resolve_lock_by e st r).reply ≡ reply.ResolveLock o → o.region_error ≡ None → IsAmong (infos r) i → is_in_context st.regions r.context k ≡ true → IsLockedBy (cell_at (resolve_lock_by e st r).store.cells k) i.txn → ⊥
resolve_takes (Some e) st r o i k order d h a g l = absurd (cc)
resolve_takes None st r o i k order d h a g l = none_of_start (infos r) (cell_at st.cells k) i l.lock a (sym (ap (λ (c : Cell). c.lock) now) ∙ l.here) l.start
  where
    now : cell_at (resolve_lock_by None st r).store.cells k ≡ all_settled (infos r) (cell_at st.cells k)
    now = cell_each (in_region st r) (region_keeps st r) st.cells k order (λ h. region_none st r k) ∙ (let inside = subst (λ q. is_in_context st.regions r.context q ≡ true) (sym (key_of_cell st.cells k)) g in rw inside refl)

-- a lock that stood before a ResolveLock of its start in its region does not stand in the end
pub law_resolved : (plans : ℕ → Plan) (es first : List Event) → IsRun plans es → IsPart es first → (s : ℕ) (k : Key) → IsLockedBy (cell_at (store_after first).cells k) s → WasResolvedSince es first s k → IsLockedBy (cell_at (store_after es).cells k) s → ⊥
law_resolved plans es first run h s k a w b =
    let before = w.came.0 in
    let now = Served w.ticket (ResolveLock w.request) (reply.ResolveLock w.response) ∷ before in
    let served = run_part plans es now run w.came.1 in
    let stands = law_gone plans es now first run w.came.1 (inr w.came.2) s k a b in
    resolve_takes (region_check (store_after before).regions w.request.context) (store_after before) w.request w.response w.info k (kept plans before served.2).in_order (sym served.0.1) w.fine.0 (subst (λ js. IsAmong js w.info) (settled_infos w.request w.request.txn_infos) w.settles) w.region (subst (IsLockedBy (cell_at (store_after now).cells k)) (sym w.start) stands)

-- nor one that stood before a complete scan whose locks were settled
pub law_cleaned : (plans : ℕ → Plan) (es first : List Event) → IsRun plans es → IsPart es first → (s : ℕ) (k : Key) → IsLockedBy (cell_at (store_after first).cells k) s → WasCleanedSince es first s k → IsLockedBy (cell_at (store_after es).cells k) s → ⊥
law_cleaned plans es first run h s k a w b = law_resolved plans es first run h s k a (w.settled (found plans es w.came.0 first w.ticket w.request w.response run w.came.1 w.came.2 s k a w.looks b)) b

-- A prewrite lock comes by a Prewrite alone.

lock_came : (n : ℕ) (r : Request) (k : Key) (s : ℕ) (c : Cell) (after : Phase) (p : Key) (x : Content) → Outcome n r k s c after → after ≡ Locked p x → (phase c s ≡ Locked p x) ⊎ ((q : Key) × (y : Content) × May r k s c (Locks q y))
lock_came n r k s c after p x (inl h) e = inl (sym h ∙ e)
lock_came n r k s c after p x (inr (inr h)) e = absurd (let a = h.4 in cc)
lock_came n r k s c after p x (inr (inl h)) e = by (phase c s) h.0 h.1 h.2
  where
    by : (b : Phase) (m : Move) → May r k s c m → Goes b m after → (b ≡ Locked p x) ⊎ ((q : Key) × (y : Content) × May r k s c (Locks q y))
    by b (Locks q y) w g = inr (q, y, w)
    by Free (Commits d) w g = absurd g
    by Free Rolls w g = absurd (cc)
    by (Locked q y) (Commits d) w g = absurd (cc)
    by (Locked q y) Rolls w g = absurd (cc)
    by (Committed d y) m w g = absurd g
    by RolledBack m w g = absurd g

pub since_more : (es first : List Event) (e f : Event) → CameSince es first f → CameSince (e ∷ es) first f
since_more es first e f h = (h.0, inr h.1, h.2)

stood_since : (plans : ℕ → Plan) (es first : List Event) → IsRun plans es → IsPart es first → (s : ℕ) (k p : Key) (x : Content) → NonePrewrittenSince es first s → phases (store_after es) s k ≡ Locked p x → phases (store_after first) s k ≡ Locked p x
stood_since plans [] first run h s k p x n o = subst (λ q. phases (store_after q) s k ≡ Locked p x) (sym h) o
stood_since plans (e ∷ es) first run (inl h) s k p x n o = subst (λ q. phases (store_after q) s k ≡ Locked p x) (sym h) o
stood_since plans (Sent t r ∷ es) first run (inr h) s k p x n o = stood_since plans es first run.2 h s k p x (λ u q a w. n u q a (since_more es first (Sent t r) (Served u (Prewrite q) a) w)) o
stood_since plans (Served t r a ∷ es) first run (inr h) s k p x n o =
    let st = store_after es in
    elim (lock_came (bound_in st r) r k s (cell_at st.cells k) (phases (table st r).store s k) p x (served_outcome plans es t r a run s k) o) [
      | inl b ↦ stood_since plans es first run.2 h s k p x (λ u q c w. n u q c (since_more es first (Served t r a) (Served u (Prewrite q) c) w)) b
      | inr b ↦ absurd (let w = may_lock r k s (cell_at st.cells k) b.0 b.1 b.2 in n t w.0 a (es, inl (λ j. Served t (sym w.1 j) a ∷ es), h) (sym w.2))
    ]
stood_since plans (e ∷ es) first run (inr h) s k p x n o = stood_since plans es first run.2 h s k p x (λ u q a w. n u q a (since_more es first e (Served u (Prewrite q) a) w)) (subst (λ cs. phase (cell_at cs k) s ≡ Locked p x) (passes es e tt).cells o)

-- where no Prewrite of the start was served since, none stands in the end
pub law_none_left : (plans : ℕ → Plan) (es first : List Event) → IsRun plans es → IsPart es first → (s : ℕ) (k : Key) → NonePrewrittenSince es first s → WasCleanedSince es first s k → IsLockedBy (cell_at (store_after es).cells k) s → ⊥
law_none_left plans es first run h s k n w b =
    let stood = stood_since plans es first run h s k b.lock.primary (content b.lock.kind b.lock.value) n (locked_phase plans es run s k b) in
    law_cleaned plans es first run h s k (owned_lock (cell_at (store_after first).cells k) s b.lock.primary (content b.lock.kind b.lock.value) stood) w b

-- What was sent since was served since.

part_has : (es part : List Event) (e : Event) → IsPart es part → Has part e → Has es e
part_has [] part e h g = subst (λ es. Has es e) h g
part_has (x ∷ es) part e (inl h) g = subst (λ es. Has es e) h g
part_has (x ∷ es) part e (inr h) g = inr (part_has es part e h g)

served_since : (plans : ℕ → Plan) (es first : List Event) → IsRun plans es → IsPart es first → (t : Ticket) (r : Request) (o : Reply) → IsUnused first t → Has es (Served t r o) → CameSince es first (Served t r o)
served_since plans [] first run h t r o u g = absurd g
served_since plans (e ∷ es) first run (inl h) t r o u g = absurd (u r (subst (λ fs. Has fs (Sent t r)) (sym h) ((kept plans (e ∷ es) run).sent t r o g)))
served_since plans (e ∷ es) first run (inr h) t r o u (inl g) = (es, inl (λ j. sym g j ∷ es), h)
served_since plans (e ∷ es) first run (inr h) t r o u (inr g) = since_more es first e (Served t r o) (served_since plans es first run.2 h t r o u g)

pub law_since : (plans : ℕ → Plan) (es first : List Event) → IsRun plans es → IsPart es first → (t : Ticket) (r : Request) (o : Reply) → IsUnused first t → Has es (Took t r o) → (busy_reply r ≡ Some o → ⊥) → CameSince es first (Served t r o)
law_since plans es first run h t r o u g n = elim ((kept plans es run).taken t r o g) [
  | inl w ↦ served_since plans es first run h t r o u w
  | inr w ↦ absurd (n ((kept plans es run).refused t r o w).1)
]
