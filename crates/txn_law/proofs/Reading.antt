-- What the reply to a read says, when it is given.
use Rattle.txn_law.proofs.Replies.{changed_cell}
use Rattle.txn_model.specs.Prewrite.{mutation_keys}
use Rattle.txn_model.specs.PessimisticLock.{value_for_update, values_for_update, value_or_empty, raised_lock, locked_for_update, pessimistic_lock_by, pessimistic_errors}
use Rattle.txn_kv.specs.declared.message.KeyError.{KeyError}
use Rattle.txn_kv.specs.declared.message.Mutation.{Mutation}
use Rattle.txn_kv.specs.declared.request.locks.PessimisticLockRequest.{PessimisticLockRequest}
use Rattle.std.proofs.Common.{◌≡◌, ℕ, ◌<◌, inl, inr, Bool, true, false, List, [], Option, Some, None, length, refl, sym, ap, ◌∙◌, subst, subst₂, ◌&&◌, ◌∷◌, nat_le, arith}
use Rattle.std.proofs.lemmas.Bool.Decides.{nat_tests}
use Rattle.std.specs.Prelude.{if◌then◌else◌, map, take, reverse, is_none}
use Rattle.std.specs.List.{filter_map}
use Rattle.txn_kv.specs.declared.message.KeyError.TheVariants as errors
use Rattle.txn_kv.specs.declared.message.PbPair.{PbPair}
use Rattle.txn_kv.specs.declared.message.RegionErr.{RegionErr}
use Rattle.txn_kv.specs.declared.request.Request.{Request}
use Rattle.txn_kv.specs.declared.request.Request.TheVariants.{Get, BatchGet, Scan, PessimisticLock}
use Rattle.txn_kv.specs.declared.request.reads.GetRequest.{GetRequest}
use Rattle.txn_kv.specs.declared.request.reads.BatchGetRequest.{BatchGetRequest}
use Rattle.txn_kv.specs.declared.request.reads.ScanRequest.{ScanRequest}
use Rattle.txn_kv.specs.declared.reply.Reply.{Reply}
use Rattle.txn_kv.specs.declared.reply.Reply.TheVariants as reply
use Rattle.txn_history.specs.Among.{IsAmong}
use Rattle.txn_history.specs.Plan.{Key}
use Rattle.txn_model.specs.declared.cell.Cell.{Cell}
use Rattle.txn_model.specs.declared.cell.Lock.{Lock}
use Rattle.txn_model.specs.Cells.{cell_at, AreInOrder}
use Rattle.txn_model.specs.Locks.{value_at, lock_info, is_written}
use Rattle.txn_model.specs.Placement.{region_check}
use Rattle.txn_model.specs.Ranges.{in_range, cells_in}
use Rattle.txn_model.specs.Read.{lock_before, pair_of_value, pair_of, read_pair, told_value, get_by, pairs_at, batch_get_by, scanned_cells, without_value, scan_pairs, scan_by}
use Rattle.txn_model.specs.Store.{Store}
use Rattle.txn_model.specs.Table.{table}
use Rattle.txn_model.proofs.CellLists.{key_of_cell, cell_changed}
use Rattle.txn_law.specs.Reads.{IsUnlocked, HasPair, is_scanned, Reads, PairsSay, Says, ValuesSay, ReachesPast}
use Rattle.txn_law.proofs.Among.{among_map, among_filter_map, among_take, cell_among, filter_map_among, map_among, filter_among, reverse_among, take_all, map_length, key_among, kept_or_none, Follows, GoOn, in_order_goes, filter_goes, reverse_goes, taken_before}
use Rattle.txn_law.proofs.Shown.{among_scanned, error_stays}

-- no lock stands in the way of a read at t
abbrev pub IsClearAt : ℕ → Cell → Type 0
IsClearAt t c = lock_before t c.lock ≡ None

none_read : (c : Cell) (t : ℕ) (o : Option Lock) → lock_before t c.lock ≡ o → pair_of c t o ≡ None → IsClearAt t c × (value_at c.commits t ≡ None)
none_read c t (Some l) e h = absurd (cc)
none_read c t None e h = (e, by (value_at c.commits t) h)
  where
    by : (v : Option (List ℕ)) → pair_of_value c.key v ≡ None → v ≡ None
    by None g = refl
    by (Some v) g = absurd (cc)

pub read_none : (c : Cell) (t : ℕ) → read_pair t c ≡ None → IsClearAt t c × (value_at c.commits t ≡ None)
read_none c t h = none_read c t (lock_before t c.lock) refl h

same_pair : (p q : PbPair) → Some p ≡ Some q → p ≡ q
same_pair p q e = cc

some_read : (c : Cell) (t : ℕ) (p : PbPair) (o : Option Lock) → lock_before t c.lock ≡ o → pair_of c t o ≡ Some p → (p.key ≡ c.key) × (p.error ≡ None → IsClearAt t c × (value_at c.commits t ≡ Some p.value))
some_read c t p (Some l) e h =
    let same = same_pair (record { error = Some (errors.Locked (lock_info c.key l)); key = c.key; value = [] }) p h in
    (ap (λ (q : PbPair). q.key) (sym same), λ z. absurd (let w = ap (λ (q : PbPair). q.error) same in cc))
some_read c t p None e h = by (value_at c.commits t) refl h
  where
    by : (v : Option (List ℕ)) → value_at c.commits t ≡ v → pair_of_value c.key v ≡ Some p → (p.key ≡ c.key) × (p.error ≡ None → IsClearAt t c × (value_at c.commits t ≡ Some p.value))
    by None d g = absurd (cc)
    by (Some v) d g =
        let same = same_pair (record { error = None; key = c.key; value = v }) p g in
        (ap (λ (q : PbPair). q.key) (sym same), λ z. (e, d ∙ ap (λ (q : PbPair). Some q.value) same))

pub read_some : (c : Cell) (t : ℕ) (p : PbPair) → read_pair t c ≡ Some p → (p.key ≡ c.key) × (p.error ≡ None → IsClearAt t c × (value_at c.commits t ≡ Some p.value))
read_some c t p h = some_read c t p (lock_before t c.lock) refl h

-- what is told of a key at t
abbrev pub Told : Store → Request → Reply → Key → ℕ → Type 0
Told st r o k t = IsClearAt t (cell_at st.cells k) × Says r o k (value_at (cell_at st.cells k).commits t)

-- Get

get_told : (e : Option RegionErr) (st : Store) (r : GetRequest) (k : Key) (t : ℕ) → Reads (Get r) (get_by e st r).reply k t → Told st (Get r) (get_by e st r).reply k t
get_told (Some e) st r k t h = absurd (cc h.2.0)
get_told None st r k t h = subst₂ (λ q u. Told st (Get r) (get_by None st r).reply q u) h.0 h.1 (by (read_pair r.version (cell_at st.cells r.key)) refl h.2.1)
  where
    by : (o : Option PbPair) → read_pair r.version (cell_at st.cells r.key) ≡ o → (told_value o).error ≡ None → Told st (Get r) (reply.Get (told_value o)) r.key r.version
    by None e g = read_none (cell_at st.cells r.key) r.version e
    by (Some p) e g = (read_some (cell_at st.cells r.key) r.version p e).1 g

-- BatchGet

of_key : (st : Store) (k q : Key) (t : ℕ) (p : PbPair) → read_pair t (cell_at st.cells q) ≡ Some p → p.key ≡ k → read_pair t (cell_at st.cells k) ≡ Some p
of_key st k q t p e h = subst (λ z. read_pair t (cell_at st.cells z) ≡ Some p) (sym (key_of_cell st.cells q) ∙ (sym (read_some (cell_at st.cells q) t p e).0 ∙ h)) e

-- from what is read at the key and what stands among the pairs
pairs_told : (key_only : Bool) (st : Store) (ps : List PbPair) (k : Key) (t : ℕ) → IsUnlocked ps k
    → ((p : PbPair) → read_pair t (cell_at st.cells k) ≡ Some p → HasPair ps k)
    → ((q : PbPair) → IsAmong ps q → q.key ≡ k → (p : PbPair) × (read_pair t (cell_at st.cells k) ≡ Some p) × (p.error ≡ q.error) × (key_only ≡ false → p.value ≡ q.value))
    → IsClearAt t (cell_at st.cells k) × PairsSay key_only ps k (value_at (cell_at st.cells k).commits t)
pairs_told key_only st ps k t free has from = by (read_pair t (cell_at st.cells k)) refl
  where
    none : read_pair t (cell_at st.cells k) ≡ None → (q : PbPair) → IsAmong ps q → q.key ≡ k → ⊥
    none e q a d = let w = (from q a d).1 in absurd (cc)

    some : (p : PbPair) → read_pair t (cell_at st.cells k) ≡ Some p → (p.error ≡ None) × ((q : PbPair) → IsAmong ps q → q.key ≡ k → key_only ≡ false → p.value ≡ q.value)
    some p e = (error_none (has p e), λ q a d f. let w = from q a d in ap (λ (z : PbPair). z.value) (same_pair p w.0 (sym e ∙ w.1)) ∙ w.3 f)
      where
        error_none : HasPair ps k → p.error ≡ None
        error_none h = let w = from h.0 h.1 h.2 in ap (λ (z : PbPair). z.error) (same_pair p w.0 (sym e ∙ w.1)) ∙ (w.2 ∙ free h.0 h.1 h.2)

    by : (o : Option PbPair) → read_pair t (cell_at st.cells k) ≡ o → IsClearAt t (cell_at st.cells k) × PairsSay key_only ps k (value_at (cell_at st.cells k).commits t)
    by None e =
        let w = read_none (cell_at st.cells k) t e in
        (w.0, record { found = λ q a d. absurd (none e q a d); value = λ f q a d. absurd (none e q a d); missing = λ n. w.1 })
    by (Some p) e =
        let u = some p e in
        let w = (read_some (cell_at st.cells k) t p e).1 u.0 in (
          w.0,
          record {
            found = λ q a d. rw w.1 refl;
            value = λ f q a d. w.1 ∙ ap Some (u.1 q a d f);
            missing = λ n. absurd (let h = has p e in n h.0 h.1 h.2);
          },
        )

batch_get_told : (e : Option RegionErr) (st : Store) (r : BatchGetRequest) (k : Key) (t : ℕ) → Reads (BatchGet r) (batch_get_by e st r).reply k t → Told st (BatchGet r) (batch_get_by e st r).reply k t
batch_get_told (Some e) st r k t h = absurd (cc h.1)
batch_get_told None st r k t h = subst (λ u. Told st (BatchGet r) (batch_get_by None st r).reply k u) h.0 (pairs_told false st (pairs_at r.version st.cells r.keys) k r.version h.3
    (λ p e. (p, filter_map_among (λ (q : Key). read_pair r.version (cell_at st.cells q)) r.keys k p (key_among r.keys k h.2) e, (read_some (cell_at st.cells k) r.version p e).0 ∙ key_of_cell st.cells k))
    (λ q a d. let w = among_filter_map (λ (z : Key). read_pair r.version (cell_at st.cells z)) r.keys q a in (q, of_key st k w.0 r.version q w.2 d, refl, λ f. refl)))

-- Scan

key_stays : (b : Bool) (p : PbPair) → (if b then without_value p else p).key ≡ p.key
key_stays true p = refl
key_stays false p = refl

value_stays : (b : Bool) (p : PbPair) → b ≡ false → (if b then without_value p else p).value ≡ p.value
value_stays true p e = absurd (cc)
value_stays false p e = refl

scanned_among : (r : ScanRequest) (cs : List Cell) (c : Cell) → IsAmong cs c → is_scanned r c.key ≡ true → IsAmong (scanned_cells r cs) c
scanned_among r cs c a h = by r.reverse h
  where
    by : (b : Bool) → (if b then in_range r.end_key r.start_key c.key else in_range r.start_key r.end_key c.key) ≡ true → IsAmong (if b then reverse (cells_in r.end_key r.start_key cs) else cells_in r.start_key r.end_key cs) c
    by true g = reverse_among (cells_in r.end_key r.start_key cs) c (filter_among (λ (d : Cell). in_range r.end_key r.start_key d.key) cs c a g)
    by false g = filter_among (λ (d : Cell). in_range r.start_key r.end_key d.key) cs c a g

scan_told : (e : Option RegionErr) (st : Store) (r : ScanRequest) (k : Key) (t : ℕ) → AreInOrder st.cells → Reads (Scan r) (scan_by e st r).reply k t → Told st (Scan r) (scan_by e st r).reply k t
scan_told (Some e) st r k t o h = absurd (cc h.1)
scan_told None st r k t o h = subst (λ u. Told st (Scan r) (scan_by None st r).reply k u) h.0 (pairs_told r.key_only st (scan_pairs r st.cells) k r.version h.2 has from)
  where
    found : List PbPair
    found = filter_map (read_pair r.version) (scanned_cells r st.cells)

    shape : PbPair → PbPair
    shape p = if r.key_only then without_value p else p

    all_found : length (map shape (take r.limit found)) < r.limit → take r.limit found ≡ found
    all_found l = take_all r.limit found (subst (λ n. n < r.limit) (map_length shape (take r.limit found)) l)

    in_scan : (p : PbPair) → read_pair r.version (cell_at st.cells k) ≡ Some p → is_scanned r k ≡ true → length (scan_pairs r st.cells) < r.limit → HasPair (scan_pairs r st.cells) k
    in_scan p e s l = elim (kept_or_none st.cells k) [
      | inl a ↦ (let here = filter_map_among (read_pair r.version) (scanned_cells r st.cells) (cell_at st.cells k) p (scanned_among r st.cells (cell_at st.cells k) a (subst (λ q. is_scanned r q ≡ true) (sym (key_of_cell st.cells k)) s)) e in
          (shape p, map_among shape (take r.limit found) p (subst (λ ps. IsAmong ps p) (sym (all_found l)) here), key_stays r.key_only p ∙ ((read_some (cell_at st.cells k) r.version p e).0 ∙ key_of_cell st.cells k)))
      | inr a ↦ absurd (let w = sym (ap (read_pair r.version) a) ∙ e in cc)
    ]

    in_order : GoOn r.reverse (scanned_cells r st.cells)
    in_order = by r.reverse
      where
        by : (b : Bool) → GoOn b (if b then reverse (cells_in r.end_key r.start_key st.cells) else cells_in r.start_key r.end_key st.cells)
        by true = reverse_goes (cells_in r.end_key r.start_key st.cells) (filter_goes false (λ (d : Cell). in_range r.end_key r.start_key d.key) st.cells (in_order_goes st.cells o))
        by false = filter_goes false (λ (d : Cell). in_range r.start_key r.end_key d.key) st.cells (in_order_goes st.cells o)

    passed : (p : PbPair) → read_pair r.version (cell_at st.cells k) ≡ Some p → is_scanned r k ≡ true → ReachesPast r (scan_pairs r st.cells) k → HasPair (scan_pairs r st.cells) k
    passed p e s w = elim (kept_or_none st.cells k) [
      | inl a ↦ (
          let v = among_map shape (take r.limit found) w.0 w.1 in
          let key : v.0.key ≡ w.0.key = sym (key_stays r.key_only v.0) ∙ ap (λ (z : PbPair). z.key) v.2 in
          let here = scanned_among r st.cells (cell_at st.cells k) a (subst (λ q. is_scanned r q ≡ true) (sym (key_of_cell st.cells k)) s) in
          let before : Follows r.reverse (cell_at st.cells k).key v.0.key = subst₂ (Follows r.reverse) (sym (key_of_cell st.cells k)) (sym key) w.2 in
          let taken = taken_before r.reverse (read_pair r.version) (λ (z : PbPair). z.key) (λ c z g. (read_some c r.version z g).0) r.limit (scanned_cells r st.cells) in_order (cell_at st.cells k) p here e v.0 v.1 before in
          (shape p, map_among shape (take r.limit found) p taken, key_stays r.key_only p ∙ ((read_some (cell_at st.cells k) r.version p e).0 ∙ key_of_cell st.cells k)))
      | inr a ↦ absurd (let z = sym (ap (read_pair r.version) a) ∙ e in cc)
    ]

    has : (p : PbPair) → read_pair r.version (cell_at st.cells k) ≡ Some p → HasPair (scan_pairs r st.cells) k
    has p e = elim h.3 [ inl a ↦ a | inr a ↦ elim a.1 [ inl b ↦ in_scan p e a.0 b | inr b ↦ passed p e a.0 b ] ]

    from : (q : PbPair) → IsAmong (scan_pairs r st.cells) q → q.key ≡ k → (p : PbPair) × (read_pair r.version (cell_at st.cells k) ≡ Some p) × (p.error ≡ q.error) × (r.key_only ≡ false → p.value ≡ q.value)
    from q a d =
        let v = among_map shape (take r.limit found) q a in
        let w = among_filter_map (read_pair r.version) (scanned_cells r st.cells) v.0 (among_take r.limit found v.0 v.1) in
        let cell = cell_among st.cells w.0 o (among_scanned r st.cells w.0 w.1) in
        let at : read_pair r.version (cell_at st.cells w.0.key) ≡ Some v.0 = ap (read_pair r.version) cell ∙ w.2 in
        let key : v.0.key ≡ k = sym (key_stays r.key_only v.0) ∙ (ap (λ (z : PbPair). z.key) v.2 ∙ d) in
        (v.0, of_key st k w.0.key r.version v.0 at key, sym (error_stays r.key_only v.0) ∙ ap (λ (z : PbPair). z.error) v.2, λ f. sym (value_stays r.key_only v.0 f) ∙ ap (λ (z : PbPair). z.value) v.2)

-- Read for update

one_says : (v : Option (List ℕ)) → v ≡ (if is_none v then None else Some (value_or_empty v))
one_says None = refl
one_says (Some x) = refl

values_say : (cs : List Cell) (r : PessimisticLockRequest) (ms : List Mutation) (k : Key) → ValuesSay ms (map value_or_empty (map (λ m. value_for_update r (cell_at cs m.key)) ms)) (map is_none (map (λ m. value_for_update r (cell_at cs m.key)) ms)) k (value_at (cell_at cs k).commits r.for_update_ts)
values_say cs r [] k = tt
values_say cs r (m ∷ ms) k = ((λ e. subst (λ q. value_at (cell_at cs q).commits r.for_update_ts ≡ (if is_none (value_for_update r (cell_at cs m.key)) then None else Some (value_or_empty (value_for_update r (cell_at cs m.key))))) e (one_says (value_for_update r (cell_at cs m.key)))), values_say cs r ms k)

asked_values : (cs : List Cell) (r : PessimisticLockRequest) → r.return_values ≡ true → values_for_update cs r ≡ map (λ m. value_for_update r (cell_at cs m.key)) r.mutations
asked_values cs r h = rw h refl

-- what a reply to a read says holds in the store after it, where each lock that says a value is above the timestamp
abbrev pub Given : Store → Request → Reply → Key → ℕ → Type 0
Given new r o k t = Says r o k (value_at (cell_at new.cells k).commits t) × ((l : Lock) → (cell_at new.cells k).lock ≡ Some l → is_written l.kind ≡ true → t < l.start)

update_given : (e : Option RegionErr) (es : List KeyError) (st : Store) (r : PessimisticLockRequest) (k : Key) (t : ℕ) → AreInOrder st.cells → Reads (PessimisticLock r) (pessimistic_lock_by e es st r).reply k t → Given (pessimistic_lock_by e es st r).store (PessimisticLock r) (pessimistic_lock_by e es st r).reply k t
update_given (Some e) es st r k t o h = absurd (cc h.1.0)
update_given None (x ∷ xs) st r k t o h = absurd (cc h.1.1)
update_given None [] st r k t o h = subst (λ u. Given new (PessimisticLock r) answer k u) h.0 (says, λ l e w. absurd (unwritten l e w))
  where
    new : Store
    new = (pessimistic_lock_by None [] st r).store

    answer : Reply
    answer = (pessimistic_lock_by None [] st r).reply

    now : cell_at new.cells k ≡ locked_for_update r (cell_at st.cells k)
    now = changed_cell st new (mutation_keys r.mutations) (locked_for_update r) k (cell_changed (mutation_keys r.mutations) (locked_for_update r) (λ c. refl) st.cells o k) h.3

    says : Says (PessimisticLock r) answer k (value_at (cell_at new.cells k).commits r.for_update_ts)
    says = subst (λ (c : Cell). Says (PessimisticLock r) answer k (value_at c.commits r.for_update_ts)) (sym now) (subst (λ vs. ValuesSay r.mutations (map value_or_empty vs) (map is_none vs) k (value_at (cell_at st.cells k).commits r.for_update_ts)) (sym (asked_values st.cells r h.2)) (values_say st.cells r r.mutations k))

    raised : (o : Option Lock) → is_written (raised_lock r o).kind ≡ false
    raised None = refl
    raised (Some n) = refl

    unwritten : (l : Lock) → (cell_at new.cells k).lock ≡ Some l → is_written l.kind ≡ true → ⊥
    unwritten l e w =
        let same : Some (raised_lock r (cell_at st.cells k).lock) ≡ Some l = sym (ap (λ (c : Cell). c.lock) now) ∙ e in
        let lock : raised_lock r (cell_at st.cells k).lock ≡ l = cc in
        let kind = ap (λ (n : Lock). is_written n.kind) lock in
        let free = raised (cell_at st.cells k).lock in
        cc

clear_lock : (t : ℕ) (c : Cell) (l : Lock) → IsClearAt t c → c.lock ≡ Some l → is_written l.kind ≡ true → t < l.start
clear_lock t c l h e k = by (nat_le l.start t) refl (subst (λ o. lock_before t o ≡ None) e h)
  where
    by : (b : Bool) → nat_le l.start t ≡ b → (if is_written l.kind && b then Some l else None) ≡ None → t < l.start
    by true d g = absurd (let w : (if is_written l.kind && true then Some l else None) ≡ Some l = rw k refl in cc)
    by false d g = grind (arith, nat_tests)

-- a request that leaves the cells
told_given : (st new : Store) (r : Request) (o : Reply) (k : Key) (t : ℕ) → new.cells ≡ st.cells → Told st r o k t → Given new r o k t
told_given st new r o k t e h = subst (λ cs. Says r o k (value_at (cell_at cs k).commits t) × ((l : Lock) → (cell_at cs k).lock ≡ Some l → is_written l.kind ≡ true → t < l.start)) (sym e) (h.1, λ l f w. clear_lock t (cell_at st.cells k) l h.0 f w)

get_leaves : (e : Option RegionErr) (st : Store) (r : GetRequest) → (get_by e st r).store.cells ≡ st.cells
get_leaves (Some e) st r = refl
get_leaves None st r = refl

batch_get_leaves : (e : Option RegionErr) (st : Store) (r : BatchGetRequest) → (batch_get_by e st r).store.cells ≡ st.cells
batch_get_leaves (Some e) st r = refl
batch_get_leaves None st r = refl

scan_leaves : (e : Option RegionErr) (st : Store) (r : ScanRequest) → (scan_by e st r).store.cells ≡ st.cells
scan_leaves (Some e) st r = refl
scan_leaves None st r = refl

-- A reply to a read says what the store shows after it.
pub read_given : (st : Store) (r : Request) (k : Key) (t : ℕ) → AreInOrder st.cells → Reads r (table st r).reply k t → Given (table st r).store r (table st r).reply k t
read_given st (Get r) k t o h = told_given st (table st (Get r)).store (Get r) (table st (Get r)).reply k t (get_leaves (region_check st.regions r.context) st r) (get_told (region_check st.regions r.context) st r k t h)
read_given st (BatchGet r) k t o h = told_given st (table st (BatchGet r)).store (BatchGet r) (table st (BatchGet r)).reply k t (batch_get_leaves (region_check st.regions r.context) st r) (batch_get_told (region_check st.regions r.context) st r k t h)
read_given st (Scan r) k t o h = told_given st (table st (Scan r)).store (Scan r) (table st (Scan r)).reply k t (scan_leaves (region_check st.regions r.context) st r) (scan_told (region_check st.regions r.context) st r k t o h)
read_given st (PessimisticLock r) k t o h = update_given (region_check st.regions r.context) (pessimistic_errors st.cells r) st r k t o h
read_given st _ k t o h = absurd h
