-- What a Prewrite makes of all its keys, and what its reply says of them.
use Rattle.std.proofs.Common.{◌≡◌, ℕ, ◌≤◌, max, ◌⊎◌, inl, inr, Bool, true, false, ◌&&◌, ◌||◌, List, [], ◌∷◌, Option, Some, None, nat_eq, refl, sym, ap, ◌∙◌, subst, arith}
use Rattle.std.specs.Prelude.{if◌then◌else◌, is_some, is_none}
use Rattle.std.specs.List.{list_any, list_all}
use Rattle.txn_kv.specs.declared.message.KeyError.{KeyError}
use Rattle.txn_kv.specs.declared.message.Mutation.{Mutation}
use Rattle.txn_kv.specs.declared.message.RegionErr.{RegionErr}
use Rattle.txn_kv.specs.declared.request.Request.{Request}
use Rattle.txn_kv.specs.declared.request.Request.TheVariants.{Prewrite}
use Rattle.txn_kv.specs.declared.request.commits.PrewriteRequest.{PrewriteRequest}
use Rattle.txn_kv.specs.declared.reply.commits.PrewriteResponse.{PrewriteResponse}
use Rattle.txn_history.specs.Among.{IsAmong}
use Rattle.txn_history.specs.Licence.{IsWithoutError}
use Rattle.txn_history.specs.Plan.{Key, Content, content_of, LocksKey, has_key}
use Rattle.txn_model.specs.declared.cell.Cell.{Cell}
use Rattle.txn_model.specs.declared.cell.Kind.{Kind}
use Rattle.txn_model.specs.declared.cell.Lock.{Lock}
use Rattle.txn_model.specs.declared.cell.Write.{Write}
use Rattle.txn_model.specs.Cells.{key_eq, cell_at, AreInOrder}
use Rattle.txn_model.specs.Locks.{has_start, is_prewrite, owns, commit_of, or_earlier, lock_info}
use Rattle.txn_model.specs.Placement.{region_check}
use Rattle.txn_model.specs.Prewrite.{kind_of, mutation_keys, least_bound, passes_commit, conflict, lock_conflict, prewrite_error, prewrite_errors, prewrite_cell, land_cell, passed_commit, bound_at, greatest_bound, is_plain_lock, told_bound, prewritten_cells, landed_cells, one_phase_by, locking_by, prewrite_by}
use Rattle.txn_model.specs.Store.{Store}
use Rattle.txn_model.proofs.CellLists.{key_of_cell, cell_changed}
use Rattle.txn_model.proofs.Keys.{key_itself}
use Rattle.txn_model.specs.Table.{table}
use Rattle.txn_law.proofs.Phases.{phase, IsSound, Goes, Move, phase_released, phase_held, phase_renewed}
use Rattle.txn_law.proofs.Phases.Move.{Locks, Rolls, Commits}
use Rattle.txn_law.specs.Whole.{content}
use Rattle.txn_law.proofs.Prewriting.{kind_content, passes_mutation, prewrite_keeps, land_cell_keeps, prewrite_stands, land_commits, stands, has_commit, content_kind, unowned_once}
use Rattle.txn_law.proofs.Moves.{May, CellStep, outcome, LandsAt, land_phase, at_start}
use Rattle.txn_law.proofs.Moves.CellStep.{Same, Places, Landed, Recorded, Made, Released, Held, Renewed}
use Rattle.txn_kv.specs.declared.message.KeyError.TheVariants as errors
use Rattle.txn_kv.specs.declared.reply.Reply.TheVariants as reply

-- it commits all at once
abbrev pub is_once : Request → Bool
is_once (Prewrite r) = r.try_one_pc
is_once _ = false

once_of : (r : Request) (q : PrewriteRequest) (b : Bool) → r ≡ Prewrite q → q.try_one_pc ≡ b → is_once r ≡ b
once_of r q b e h = subst (λ z. is_once z ≡ b) (sym e) h

pub stepwise_outcome : (n : ℕ) (r : Request) (k : Key) (t : ℕ) (c d : Cell) → is_once r ≡ false → IsSound c → CellStep n r k c d → (phase d t ≡ phase c t) ⊎ ((m : Move) × May r k t c m × Goes (phase c t) m (phase d t))
stepwise_outcome n r k t c d h i s = elim (outcome n r k t c d i s) [
  | inl e ↦ inl e
  | inr w ↦ elim w [ inl m ↦ inr m | inr l ↦ absurd (let z = once_of r l.5.0 true l.5.1 l.5.2 in cc) ]
]

no_rolls : (r : Request) (k : Key) (s : ℕ) (c : Cell) → is_once r ≡ true → May r k s c Rolls → ⊥
no_rolls (Prewrite r) k s c h w = w
no_rolls _ k s c h w = absurd (cc)

no_commits : (r : Request) (k : Key) (s n : ℕ) (c : Cell) → is_once r ≡ true → May r k s c (Commits n) → ⊥
no_commits (Prewrite r) k s n c h w = w
no_commits _ k s n c h w = absurd (cc)

pub once_outcome : (n : ℕ) (r : Request) (k : Key) (t : ℕ) (c d : Cell) → is_once r ≡ true → IsSound c → CellStep n r k c d → (phase d t ≡ phase c t) ⊎ LandsAt n r k t c (phase d t)
once_outcome n r k t c d h i Same = inl refl
once_outcome n r k t c d h i (Places l e a w v f) = absurd (let z = once_of r v.0 false v.1 v.2 in cc)
once_outcome n r k t c d h i (Landed l e a w v f) = elim (land_phase l c t n e a f i) [ inl g ↦ inl g | inr g ↦ inr (l.primary, content l.kind l.value, at_start r k c t l.start (Locks l.primary (content l.kind l.value)) g.0 w, g.1, g.2, (v.0, v.1, v.2)) ]
once_outcome n r k t c d h i (Recorded s a w) = absurd (no_rolls r k s c h w)
once_outcome n r k t c d h i (Made s at w) = absurd (no_commits r k s at c h w)
once_outcome n r k t c d h i (Released s) = inl (phase_released s c t)
once_outcome n r k t c d h i (Held l e a b) = inl (phase_held l c t e a)
once_outcome n r k t c d h i (Renewed l ttl e) = inl (phase_renewed l ttl c t e)

-- the cell of a key that a mutation locks
key_has : (ms : List Mutation) (m : Mutation) (k : Key) → IsAmong ms m → m.key ≡ k → has_key (mutation_keys ms) k ≡ true
key_has [] m k a e = absurd a
key_has (n ∷ ms) m k (inl a) e = let f : key_eq n.key k ≡ true = subst (λ q. key_eq n.key q ≡ true) (ap (λ (q : Mutation). q.key) a ∙ e) (key_itself n.key) in rw f refl
key_has (n ∷ ms) m k (inr a) e = by (key_eq n.key k) (key_has ms m k a e)
  where
    by : (b : Bool) → has_key (mutation_keys ms) k ≡ true → (b || has_key (mutation_keys ms) k) ≡ true
    by true h = refl
    by false h = h

passed_none : (cs : List Cell) (s : ℕ) (ms : List Mutation) (m : Mutation) → passed_commit cs s ms ≡ None → IsAmong ms m → commit_of (cell_at cs m.key).commits s ≡ None
passed_none cs s [] m h a = absurd a
passed_none cs s (n ∷ ms) m h a = by (λ g b. passed_none cs s ms m g b) (commit_of (cell_at cs n.key).commits s) refl h
  where
    by : (passed_commit cs s ms ≡ None → IsAmong ms m → commit_of (cell_at cs m.key).commits s ≡ None) → (o : Option Write) → commit_of (cell_at cs n.key).commits s ≡ o → or_earlier o (passed_commit cs s ms) ≡ None → commit_of (cell_at cs m.key).commits s ≡ None
    by rest (Some w) e g = absurd (cc)
    by rest None e g = elim a [ inl d ↦ subst (λ (z : Mutation). commit_of (cell_at cs z.key).commits s ≡ None) d e | inr b ↦ rest g b ]

passed_some : (cs : List Cell) (s : ℕ) (ms : List Mutation) (w : Write) → passed_commit cs s ms ≡ Some w → (k : Key) × (commit_of (cell_at cs k).commits s ≡ Some w)
passed_some cs s [] w h = absurd (cc)
passed_some cs s (n ∷ ms) w h = by (passed_some cs s ms w) (commit_of (cell_at cs n.key).commits s) refl h
  where
    by : (passed_commit cs s ms ≡ Some w → (k : Key) × (commit_of (cell_at cs k).commits s ≡ Some w)) → (o : Option Write) → commit_of (cell_at cs n.key).commits s ≡ o → or_earlier o (passed_commit cs s ms) ≡ Some w → (k : Key) × (commit_of (cell_at cs k).commits s ≡ Some w)
    by rest (Some v) e g = (n.key, e ∙ g)
    by rest None e g = rest g

-- What a Prewrite that commits all at once did: nothing, or all of its keys got their commit.
pub data OnceDid (st : Store) (r : PrewriteRequest) (new : Store) (o : PrewriteResponse) : Type 0 where
  Refused : (IsWithoutError (reply.Prewrite o) → ⊥) → new.cells ≡ st.cells → OnceDid st r new o
  Passed : (k : Key) (w : Write) → commit_of (cell_at st.cells k).commits r.start_version ≡ Some w → ((q : Key) → LocksKey r.mutations q → owns (cell_at st.cells q).lock r.start_version ≡ false) → new.cells ≡ st.cells → o.one_pc_commit_ts ≡ w.commit → OnceDid st r new o
  AllLanded : ((k : Key) → LocksKey r.mutations k → (commit_of (cell_at st.cells k).commits r.start_version ≡ None) × (is_some (commit_of (cell_at new.cells k).commits r.start_version) ≡ true)) → o.one_pc_commit_ts ≡ least_bound st r → OnceDid st r new o

once_by : (st : Store) (r : PrewriteRequest) → AreInOrder st.cells → r.try_one_pc ≡ true → (e : Option RegionErr) (es : List KeyError) (w : Option Write) → prewrite_errors st.cells r r.mutations r.is_pessimistic_lock ≡ es → passed_commit st.cells r.start_version r.mutations ≡ w → (o : PrewriteResponse) → (prewrite_by e es w st r).reply ≡ reply.Prewrite o → OnceDid st r (prewrite_by e es w st r).store o
once_by st r ord h (Some e) es w z p o f = OnceDid.Refused (λ g. let same : record { region_error = Some e; errors = []; min_commit_ts = 0; one_pc_commit_ts = 0 } ≡ o = cc in let z = ap (λ (q : PrewriteResponse). q.region_error) same in let y = g.0 in cc) refl
once_by st r ord h None (x ∷ xs) w z p o f = OnceDid.Refused (λ g. let same : record { region_error = None; errors = x ∷ xs; min_commit_ts = 0; one_pc_commit_ts = 0 } ≡ o = cc in let z = ap (λ (q : PrewriteResponse). q.errors) same in let y = g.1 in cc) refl
once_by st r ord h None [] w z p o f = by r.try_one_pc h w p f
  where
    unowned : (q : Key) → LocksKey r.mutations q → owns (cell_at st.cells q).lock r.start_version ≡ false
    unowned q l = let g = passes_mutation st.cells r r.mutations r.is_pessimistic_lock l.0 z l.2 in subst (λ y. owns (cell_at st.cells y).lock r.start_version ≡ false) l.3 (unowned_once r l.0 g.0 (cell_at st.cells l.0.key) h g.1)

    by : (b : Bool) → b ≡ true → (v : Option Write) → passed_commit st.cells r.start_version r.mutations ≡ v → (if b then one_phase_by v st r else locking_by st r).reply ≡ reply.Prewrite o → OnceDid st r (if b then one_phase_by v st r else locking_by st r).store o
    by false g v q d = absurd (cc)
    by true g (Some v) q d =
        let k = passed_some st.cells r.start_version r.mutations v q in
        OnceDid.Passed k.0 v k.1 unowned refl (let same : record { region_error = None; errors = []; min_commit_ts = 0; one_pc_commit_ts = v.commit } ≡ o = cc in ap (λ (z : PrewriteResponse). z.one_pc_commit_ts) (sym same))
    by true g None q d = OnceDid.AllLanded now (let same : record { region_error = None; errors = []; min_commit_ts = 0; one_pc_commit_ts = least_bound st r } ≡ o = cc in ap (λ (z : PrewriteResponse). z.one_pc_commit_ts) (sym same))
      where
        now : (k : Key) → LocksKey r.mutations k → (commit_of (cell_at st.cells k).commits r.start_version ≡ None) × (is_some (commit_of (cell_at (landed_cells st r) k).commits r.start_version) ≡ true)
        now k l =
            let changed = cell_changed (mutation_keys r.mutations) (land_cell r (least_bound st r) r.mutations) (land_cell_keeps r (least_bound st r) r.mutations) st.cells ord k in
            let at : cell_at (landed_cells st r) k ≡ land_cell r (least_bound st r) r.mutations (cell_at st.cells k) = (let z = key_has r.mutations l.0 k l.2 l.3 in rw z at changed) in (
              subst (λ q. commit_of (cell_at st.cells q).commits r.start_version ≡ None) l.3 (passed_none st.cells r.start_version r.mutations l.0 q l.2),
              subst (λ (c : Cell). has_commit c r.start_version ≡ true) (sym at) (land_commits r (least_bound st r) r.mutations l.0 l.1 (cell_at st.cells k) l.2 (l.3 ∙ sym (key_of_cell st.cells k)) l.4),
            )

pub once_did : (st : Store) (r : PrewriteRequest) → AreInOrder st.cells → r.try_one_pc ≡ true → (o : PrewriteResponse) → (table st (Prewrite r)).reply ≡ reply.Prewrite o → OnceDid st r (table st (Prewrite r)).store o
once_did st r ord h o f = once_by st r ord h (region_check st.regions r.context) (prewrite_errors st.cells r r.mutations r.is_pessimistic_lock) (passed_commit st.cells r.start_version r.mutations) refl refl o f

-- What a Prewrite that locks says when it has no error: each of its keys stands locked or committed, and its bound is the greatest.
pub record LockingDid (st : Store) (r : PrewriteRequest) (new : Store) (o : PrewriteResponse) : Type 0 where
  pub stand : (k : Key) → LocksKey r.mutations k → stands (cell_at new.cells k) r.start_version ≡ true
  pub fresh : (k : Key) → LocksKey r.mutations k → passes_commit r ≡ false → owns (cell_at st.cells k).lock r.start_version ≡ false → commit_of (cell_at st.cells k).commits r.start_version ≡ None
  pub bound : o.min_commit_ts ≡ told_bound new.cells r

locking_fresh : (r : PrewriteRequest) (m : Mutation) (flag : Bool) (c : Cell) → prewrite_error r m flag c ≡ None → passes_commit r ≡ false → owns c.lock r.start_version ≡ false → commit_of c.commits r.start_version ≡ None
locking_fresh r m flag c h plain free = by_rolled (has_start c.rolled r.start_version) h
  where
    by_commit : (held : Bool) (o : Option Write) → commit_of c.commits r.start_version ≡ o → conflict r m flag held c.commits ≡ None → commit_of c.commits r.start_version ≡ None
    by_commit held None e g = e
    by_commit held (Some w) e g = absurd (let z = rw (e, plain) at g in cc)

    by_own : (l : Lock) (x y : Bool) → (x && y) ≡ false → (if x then (if y then (if r.try_one_pc then Some (errors.Abort m.key r.start_version 0) else None) else conflict r m flag true c.commits) else Some (errors.Locked (lock_info m.key l))) ≡ None → commit_of c.commits r.start_version ≡ None
    by_own l true true u g = absurd (cc)
    by_own l true false u g = by_commit true (commit_of c.commits r.start_version) refl g
    by_own l false y u g = absurd (cc)

    by_lock : (o : Option Lock) → owns o r.start_version ≡ false → lock_conflict r m flag c.commits o ≡ None → commit_of c.commits r.start_version ≡ None
    by_lock None u g = by_commit false (commit_of c.commits r.start_version) refl g
    by_lock (Some l) u g = by_own l (nat_eq l.start r.start_version) (is_prewrite l.kind) u g

    by_rolled : (x : Bool) → (if x then Some (errors.Abort m.key r.start_version 0) else lock_conflict r m flag c.commits c.lock) ≡ None → commit_of c.commits r.start_version ≡ None
    by_rolled true g = absurd (cc)
    by_rolled false g = by_lock c.lock free g

locking_did_by : (st : Store) (r : PrewriteRequest) → AreInOrder st.cells → r.try_one_pc ≡ false → (e : Option RegionErr) (es : List KeyError) (w : Option Write) → prewrite_errors st.cells r r.mutations r.is_pessimistic_lock ≡ es → (o : PrewriteResponse) → (prewrite_by e es w st r).reply ≡ reply.Prewrite o → IsWithoutError (reply.Prewrite o) → LockingDid st r (prewrite_by e es w st r).store o
locking_did_by st r ord h (Some e) es w p o f g = absurd (let same : record { region_error = Some e; errors = []; min_commit_ts = 0; one_pc_commit_ts = 0 } ≡ o = cc in let z = ap (λ (q : PrewriteResponse). q.region_error) same in let y = g.0 in cc)
locking_did_by st r ord h None (x ∷ xs) w p o f g = absurd (let same : record { region_error = None; errors = x ∷ xs; min_commit_ts = 0; one_pc_commit_ts = 0 } ≡ o = cc in let z = ap (λ (q : PrewriteResponse). q.errors) same in let y = g.1 in cc)
locking_did_by st r ord h None [] w p o f g = by r.try_one_pc h w f
  where
    now : (k : Key) → LocksKey r.mutations k → stands (cell_at (prewritten_cells st r) k) r.start_version ≡ true
    now k l =
        let changed = cell_changed (mutation_keys r.mutations) (prewrite_cell r (least_bound st r) r.mutations) (prewrite_keeps r (least_bound st r) r.mutations) st.cells ord k in
        let at : cell_at (prewritten_cells st r) k ≡ prewrite_cell r (least_bound st r) r.mutations (cell_at st.cells k) = (let z = key_has r.mutations l.0 k l.2 l.3 in rw z at changed) in
        subst (λ (c : Cell). stands c r.start_version ≡ true) (sym at) (prewrite_stands r (least_bound st r) r.mutations l.0 l.1 (cell_at st.cells k) l.2 (l.3 ∙ sym (key_of_cell st.cells k)) l.4)

    by : (b : Bool) → b ≡ false → (v : Option Write) → (if b then one_phase_by v st r else locking_by st r).reply ≡ reply.Prewrite o → LockingDid st r (if b then one_phase_by v st r else locking_by st r).store o
    by true q v d = absurd (cc)
    by false q v d = record {
      stand = now;
      fresh = λ k l plain free. let e = passes_mutation st.cells r r.mutations r.is_pessimistic_lock l.0 p l.2 in locking_fresh r l.0 e.0 (cell_at st.cells k) (subst (λ z. prewrite_error r l.0 e.0 (cell_at st.cells z) ≡ None) l.3 e.1) plain free;
      bound = (let same : record { region_error = None; errors = []; min_commit_ts = told_bound (prewritten_cells st r) r; one_pc_commit_ts = 0 } ≡ o = cc in ap (λ (z : PrewriteResponse). z.min_commit_ts) (sym same));
    }

pub locking_did : (st : Store) (r : PrewriteRequest) → AreInOrder st.cells → r.try_one_pc ≡ false → (o : PrewriteResponse) → (table st (Prewrite r)).reply ≡ reply.Prewrite o → IsWithoutError (reply.Prewrite o) → LockingDid st r (table st (Prewrite r)).store o
locking_did st r ord h o f g = locking_did_by st r ord h (region_check st.regions r.context) (prewrite_errors st.cells r r.mutations r.is_pessimistic_lock) (passed_commit st.cells r.start_version r.mutations) refl o f g

-- The bound that is told is the greatest over the keys that are locked, where no lock of the start is plain.

abbrev pub key_bound : List Cell → ℕ → Key → ℕ
key_bound cs s k = bound_at s (cell_at cs k).lock (commit_of (cell_at cs k).commits s)

none_plain : (cs : List Cell) (s : ℕ) (ms : List Mutation) → ((k : Key) → is_plain_lock s (cell_at cs k).lock ≡ false) → list_any (λ m. is_plain_lock s (cell_at cs m.key).lock) ms ≡ false
none_plain cs s [] h = refl
none_plain cs s (m ∷ ms) h = let a = h m.key in let b = none_plain cs s ms h in rw (a, b) refl

some_locks : (ms : List Mutation) (m : Mutation) (kind : Kind) → IsAmong ms m → kind_of m.op ≡ Some kind → list_all (λ z. is_none (kind_of z.op)) ms ≡ false
some_locks [] m kind a h = absurd a
some_locks (n ∷ ms) m kind (inl e) h = let z = subst (λ (q : Mutation). kind_of q.op ≡ Some kind) (sym e) h in rw z refl
some_locks (n ∷ ms) m kind (inr a) h = by (is_none (kind_of n.op)) (some_locks ms m kind a h)
  where
    by : (b : Bool) → list_all (λ z. is_none (kind_of z.op)) ms ≡ false → (b && list_all (λ z. is_none (kind_of z.op)) ms) ≡ false
    by true z = z
    by false z = refl

all_none : (cs : List Cell) (s : ℕ) (qs : List Mutation) → list_all (λ z. is_none (kind_of z.op)) qs ≡ true → greatest_bound cs s qs ≡ 0
all_none cs s [] u = refl
all_none cs s (q ∷ qs) u = by (all_none cs s qs) (kind_of q.op) refl u
  where
    by : (list_all (λ z. is_none (kind_of z.op)) qs ≡ true → greatest_bound cs s qs ≡ 0) → (o : Option Kind) → kind_of q.op ≡ o → (is_none o && list_all (λ z. is_none (kind_of z.op)) qs) ≡ true → greatest_bound cs s (q ∷ qs) ≡ 0
    by rest (Some o) e v = absurd (cc)
    by rest None e v = let z = rest v in rw e (omega (arith, z))

find_lock : (qs : List Mutation) → (list_all (λ z. is_none (kind_of z.op)) qs ≡ true) ⊎ ((z : Mutation) × (y : Kind) × IsAmong qs z × (kind_of z.op ≡ Some y))
find_lock [] = inl refl
find_lock (q ∷ qs) = by (kind_of q.op) refl (find_lock qs)
  where
    by : (o : Option Kind) → kind_of q.op ≡ o → (list_all (λ z. is_none (kind_of z.op)) qs ≡ true) ⊎ ((z : Mutation) × (y : Kind) × IsAmong qs z × (kind_of z.op ≡ Some y)) → (list_all (λ z. is_none (kind_of z.op)) (q ∷ qs) ≡ true) ⊎ ((z : Mutation) × (y : Kind) × IsAmong (q ∷ qs) z × (kind_of z.op ≡ Some y))
    by (Some o) e u = inr (q, o, inl refl, e)
    by None e (inl u) = inl (rw e u)
    by None e (inr u) = inr (u.0, u.1, inr u.2, u.3)

greatest_above : (cs : List Cell) (s : ℕ) (ms : List Mutation) (m : Mutation) (kind : Kind) → IsAmong ms m → kind_of m.op ≡ Some kind → key_bound cs s m.key ≤ greatest_bound cs s ms
greatest_above cs s [] m kind a h = absurd a
greatest_above cs s (n ∷ ms) m kind (inl e) h = subst (λ (z : Mutation). key_bound cs s z.key ≤ greatest_bound cs s (n ∷ ms)) e (let y = subst (λ (q : Mutation). kind_of q.op ≡ Some kind) (sym e) h in rw y (omega arith))
greatest_above cs s (n ∷ ms) m kind (inr a) h = let z = greatest_above cs s ms m kind a h in omega (arith, z)

greatest_is : (cs : List Cell) (s : ℕ) (ms : List Mutation) (m : Mutation) (kind : Kind) → IsAmong ms m → kind_of m.op ≡ Some kind → (n : Mutation) × (o : Kind) × IsAmong ms n × (kind_of n.op ≡ Some o) × (key_bound cs s n.key ≡ greatest_bound cs s ms)
greatest_is cs s [] m kind a h = absurd a
greatest_is cs s (n ∷ ms) m kind a h = by_kind (λ b i o e. greatest_is cs s ms b o i e) (kind_of n.op) refl
  where
    choose : (x y : ℕ) → (max x y ≡ x) ⊎ (max x y ≡ y)
    choose x y = grind (arith)

    by_kind : ((b : Mutation) → IsAmong ms b → (o : Kind) → kind_of b.op ≡ Some o → (z : Mutation) × (y : Kind) × IsAmong ms z × (kind_of z.op ≡ Some y) × (key_bound cs s z.key ≡ greatest_bound cs s ms)) → (o : Option Kind) → kind_of n.op ≡ o → (z : Mutation) × (y : Kind) × IsAmong (n ∷ ms) z × (kind_of z.op ≡ Some y) × (key_bound cs s z.key ≡ greatest_bound cs s (n ∷ ms))
    by_kind rest None e = elim a [
      | inl d ↦ absurd (let z = subst (λ (q : Mutation). kind_of q.op ≡ Some kind) (sym d) h in cc)
      | inr b ↦ (let w = rest m b kind h in (w.0, w.1, inr w.2, w.3, (let z = w.4 in rw e (omega (arith, z)))))
    ]
    by_kind rest (Some o) e = elim (find_lock ms) [
      | inl u ↦ (n, o, inl refl, e, (let z = all_none cs s ms u in rw e (omega (arith, z))))
      | inr u ↦ (let w = rest u.0 u.2 u.1 u.3 in elim (choose (key_bound cs s n.key) (greatest_bound cs s ms)) [
        | inl c ↦ (n, o, inl refl, e, rw e (sym c))
        | inr c ↦ (w.0, w.1, inr w.2, w.3, w.4 ∙ rw e (sym c))
      ])
    ]

-- each key that is locked has a bound up to it, and one has it
pub record ToldGreatest (cs : List Cell) (r : PrewriteRequest) : Type 0 where
  pub below : (k : Key) → LocksKey r.mutations k → key_bound cs r.start_version k ≤ told_bound cs r
  pub attained : (k : Key) × LocksKey r.mutations k × (key_bound cs r.start_version k ≡ told_bound cs r)

content_of_kind : (m : Mutation) (kind : Kind) → kind_of m.op ≡ Some kind → (x : Content) × (content_of m ≡ Some x)
content_of_kind m kind h = (content kind m.value, (kind_content m.op m.value kind h).0)

pub told_greatest : (cs : List Cell) (r : PrewriteRequest) → r.use_async_commit ≡ true → ((k : Key) → is_plain_lock r.start_version (cell_at cs k).lock ≡ false) → (k : Key) → LocksKey r.mutations k → ToldGreatest cs r
told_greatest cs r async plain k l = record {
  below = λ q a. let o = content_kind a.0.op a.0.value a.1 a.4 in subst (λ z. key_bound cs r.start_version z ≤ told_bound cs r) a.3 (subst (λ z. key_bound cs r.start_version a.0.key ≤ z) (sym same) (greatest_above cs r.start_version r.mutations a.0 o.0 a.2 o.1));
  attained = (let o = content_kind l.0.op l.0.value l.1 l.4 in let w = greatest_is cs r.start_version r.mutations l.0 o.0 l.2 o.1 in let c = content_of_kind w.0 w.1 w.3 in (w.0.key, (w.0, c.0, w.2, refl, c.1), w.4 ∙ sym same));
}
  where
    same : told_bound cs r ≡ greatest_bound cs r.start_version r.mutations
    same =
        let a = none_plain cs r.start_version r.mutations plain in
        let o = content_kind l.0.op l.0.value l.1 l.4 in
        let b = some_locks r.mutations l.0 o.0 l.2 o.1 in
        rw (async, a, b) refl
