-- The cells of every key stay orderly under what the functions of this crate do to them.
use Rattle.std.proofs.Common.{◌≡◌, ◌⊎◌, inl, inr, ℕ, suc, zero, ◌<◌, Bool, true, false, List, [], ◌∷◌, length, get_or, nat_lt, refl, sym, ap, ◌∙◌, subst, arith}
use Rattle.std.specs.Prelude.{if◌then◌else◌}
use Rattle.txn_kv.specs.declared.message.TxnInfo.{TxnInfo}
use Rattle.txn_kv.specs.declared.request.locks.PessimisticLockRequest.{PessimisticLockRequest}
use Rattle.txn_kv.specs.declared.request.commits.PrewriteRequest.{PrewriteRequest}
use Rattle.txn_kv.specs.declared.request.locks.ResolveLockRequest.{ResolveLockRequest}
use Rattle.txn_model.specs.declared.cell.Cell.{Cell}
use Rattle.txn_model.specs.declared.region.StoredRegion.{StoredRegion}
use Rattle.txn_model.specs.declared.rule.Rule.{Rule}
use Rattle.txn_model.specs.declared.rule.Rule.TheVariants.{RollBack, RollBackMissing, Release, ReleaseUpTo, Stay}
use Rattle.txn_model.specs.Cells.{Key, key_eq, has_key, no_cell, cell_at, changed_at, each_changed, AreInOrder}
use Rattle.txn_model.specs.Commit.{committed}
use Rattle.txn_model.specs.Destroy.{cells_outside}
use Rattle.txn_model.specs.Locks.{owns}
use Rattle.txn_model.specs.Orderly.{CommitsAscend, IsOrderly, AreOrderly}
use Rattle.txn_model.specs.PessimisticLock.{raised_lock, locked_for_update}
use Rattle.txn_model.specs.Prewrite.{prewrite_errors, prewrite_cell, land_cell, mutation_keys}
use Rattle.txn_model.specs.Places.{IsAt}
use Rattle.txn_model.specs.Ranges.{in_range, cells_in}
use Rattle.txn_model.specs.Resolve.{infos, settled, all_settled, is_in_context}
use Rattle.txn_model.specs.Rollback.{is_for_update_by}
use Rattle.txn_model.specs.Rules.{changed_by}
use Rattle.txn_model.specs.Settle.{rolled_back, released}
use Rattle.txn_model.specs.Status.{is_missing}
use Rattle.txn_model.specs.Store.{Store, opening}
use Rattle.txn_model.proofs.CellLists.{KeepsKeys, cell_changed, cell_each}
use Rattle.txn_model.proofs.Filtering.{order_filter}
use Rattle.txn_model.proofs.Keys.{same_key}
use Rattle.txn_model.proofs.PlacesInOrder.{cell_found}
use Rattle.txn_model.proofs.Ruling.{rule_keeps_keys}
use Rattle.txn_model.proofs.Settled.{in_region_keys}
use Rattle.txn_model.proofs.StepRows.{in_region, region_none, outside_at, raised_kind}
use Rattle.txn_model.proofs.Steps.{orderly_none, orderly_rolled, orderly_committed, orderly_released, orderly_held, orderly_placed, orderly_landed}
use Rattle.txn_model.proofs.Folding.{prewrite_key, land_key}
use Rattle.txn_model.proofs.Opening.{IsPlaced, IsLanded, key_placed, key_landed}
use Rattle.txn_model.proofs.Unlocking.{commit_key_same}

orderly_if : (b : Bool) (c d : Cell) → IsOrderly c → IsOrderly d → IsOrderly (if b then c else d)
orderly_if true c d i j = i
orderly_if false c d i j = j

-- changes that keep a cell orderly keep all
orderly_changed : (ks : List Key) (f : Cell → Cell) → KeepsKeys f → ((c : Cell) → IsOrderly c → IsOrderly (f c)) → (cs : List Cell) → AreInOrder cs → AreOrderly cs → AreOrderly (changed_at ks f cs)
orderly_changed ks f keeps orders cs o i k = subst IsOrderly (sym (cell_changed ks f keeps cs o k)) (orderly_if (has_key ks k) (f (cell_at cs k)) (cell_at cs k) (orders (cell_at cs k) (i k)) (i k))

rule_orders : (rule : Rule) (c : Cell) → IsOrderly c → IsOrderly (changed_by rule c)
rule_orders (RollBack s) c i = orderly_rolled s c i
rule_orders (RollBackMissing s) c i = orderly_if (is_missing s c) (rolled_back s c) c (orderly_rolled s c i) i
rule_orders (Release s) c i = orderly_released s c i
rule_orders (ReleaseUpTo s f) c i = orderly_if (is_for_update_by f c.lock) (released s c) c (orderly_released s c i) i
rule_orders Stay c i = i

pub orderly_ruled : (rule : Rule) (ks : List Key) (cs : List Cell) → AreInOrder cs → AreOrderly cs → AreOrderly (changed_at ks (changed_by rule) cs)
orderly_ruled rule ks = orderly_changed ks (changed_by rule) (rule_keeps_keys rule) (rule_orders rule)

pub orderly_commits : (s n : ℕ) (ks : List Key) (cs : List Cell) → AreInOrder cs → AreOrderly cs → AreOrderly (changed_at ks (committed s n) cs)
orderly_commits s n ks = orderly_changed ks (committed s n) (commit_key_same s n) (orderly_committed s n)

pub orderly_locks : (r : PessimisticLockRequest) (ks : List Key) (cs : List Cell) → AreInOrder cs → AreOrderly cs → AreOrderly (changed_at ks (locked_for_update r) cs)
orderly_locks r ks = orderly_changed ks (locked_for_update r) (λ c. refl) (λ c i. orderly_held (raised_lock r c.lock) c (raised_kind r c.lock) i)

settle_orders : (i : TxnInfo) (c : Cell) → IsOrderly c → IsOrderly (settled i c)
settle_orders i c o = orderly_if (owns c.lock i.txn) (if nat_lt 0 i.status then committed i.txn i.status c else rolled_back i.txn c) (released i.txn c) (orderly_if (nat_lt 0 i.status) (committed i.txn i.status c) (rolled_back i.txn c) (orderly_committed i.txn i.status c o) (orderly_rolled i.txn c o)) (orderly_released i.txn c o)

settles_order : (is : List TxnInfo) (c : Cell) → IsOrderly c → IsOrderly (all_settled is c)
settles_order [] c o = o
settles_order (i ∷ is) c o = settles_order is (settled i c) (settle_orders i c o)

pub orderly_settled : (gs : List StoredRegion) (r : ResolveLockRequest) (cs : List Cell) → AreInOrder cs → AreOrderly cs → AreOrderly (each_changed (λ c. if is_in_context gs r.context c.key then all_settled (infos r) c else c) cs)
orderly_settled gs r cs o i k =
    let st : Store = record opening { regions = gs } in
    let c = cell_at cs k in
    subst IsOrderly (sym (cell_each (in_region st r) (in_region_keys gs r) cs k o (λ h. region_none st r k)))
    (orderly_if (is_in_context gs r.context c.key) (all_settled (infos r) c) c (settles_order (infos r) c (i k)) (i k))

pub orderly_outside : (low high : Key) (cs : List Cell) → AreOrderly cs → AreOrderly (cells_outside low high cs)
orderly_outside low high cs i k = subst IsOrderly (sym (outside_at low high cs k)) (orderly_if (in_range low high k) (no_cell k) (cell_at cs k) (orderly_none k) (i k))

-- the cells of a range are in order as all are

pub order_in : (low high : Key) (cs : List Cell) → AreInOrder cs → AreInOrder (cells_in low high cs)
order_in low high cs o = order_filter (λ c. in_range low high c.key) cs o

inside_at : (low high : Key) (cs : List Cell) (k : Key) → cell_at (cells_in low high cs) k ≡ (if in_range low high k then cell_at cs k else no_cell k)
inside_at low high [] k = by (in_range low high k)
  where
    by : (b : Bool) → no_cell k ≡ (if b then no_cell k else no_cell k)
    by true = refl
    by false = refl
inside_at low high (c ∷ cs) k = by (in_range low high c.key) (key_eq c.key k) refl refl (inside_at low high cs k)
  where
    by : (a b : Bool) → in_range low high c.key ≡ a → key_eq c.key k ≡ b → cell_at (cells_in low high cs) k ≡ (if in_range low high k then cell_at cs k else no_cell k) → cell_at (if a then c ∷ cells_in low high cs else cells_in low high cs) k ≡ (if in_range low high k then (if b then c else cell_at cs k) else no_cell k)
    by true true e f rest =
        let here : in_range low high k ≡ true = subst (λ q. in_range low high q ≡ true) (same_key c.key k f) e in
        rw (f, here) refl
    by true false e f rest = rw f rest
    by false true e f rest =
        let here : in_range low high k ≡ false = subst (λ q. in_range low high q ≡ false) (same_key c.key k f) e in
        rest ∙ rw here refl
    by false false e f rest = rest

pub orderly_in : (low high : Key) (cs : List Cell) → AreOrderly cs → AreOrderly (cells_in low high cs)
orderly_in low high cs i k = subst IsOrderly (sym (inside_at low high cs k)) (orderly_if (in_range low high k) (cell_at cs k) (no_cell k) (i k) (orderly_none k))

-- the cell at a place
pub commits_at : (cs : List Cell) (i : ℕ) (c : Cell) → AreInOrder cs → AreOrderly cs → i < length cs → c ≡ get_or cs i c → CommitsAscend c.commits
commits_at cs i c o ordered l e =
    let is : IsAt cs c.key i = record { in_range = l; has_key = λ d. ap (λ (x : Cell). x.key) (any_cell cs i d c l ∙ sym e) } in
    let here : cell_at cs c.key ≡ c = cell_found cs c.key i c o is ∙ sym e in
    subst (λ (x : Cell). CommitsAscend x.commits) here (ordered c.key).commits
  where
    any_cell : (xs : List Cell) (j : ℕ) (a b : Cell) → j < length xs → get_or xs j a ≡ get_or xs j b
    any_cell [] j a b m = absurd (omega arith)
    any_cell (x ∷ xs) zero a b m = refl
    any_cell (x ∷ xs) (suc j) a b m = any_cell xs j a b (omega arith)

-- where no mutation has an error, the prewrite locks keep cells orderly, and so do commits that are made at once
module _ (r : PrewriteRequest) (n : ℕ) (cs : List Cell) (o : AreInOrder cs) (i : AreOrderly cs) (free : prewrite_errors cs r r.mutations r.is_pessimistic_lock ≡ []) where
  pub orderly_prewrites : AreOrderly (changed_at (mutation_keys r.mutations) (prewrite_cell r n r.mutations) cs)
  orderly_prewrites k = subst IsOrderly (sym (cell_changed (mutation_keys r.mutations) (prewrite_cell r n r.mutations) (prewrite_key r n r.mutations) cs o k)) (by (has_key (mutation_keys r.mutations) k) refl)
    where
      here : (prewrite_cell r n r.mutations (cell_at cs k) ≡ cell_at cs k) ⊎ IsPlaced r (cell_at cs k) (prewrite_cell r n r.mutations (cell_at cs k)) → IsOrderly (prewrite_cell r n r.mutations (cell_at cs k))
      here (inl e) = subst IsOrderly (sym e) (i k)
      here (inr p) = subst IsOrderly (sym p.so) (orderly_placed p.lock (cell_at cs k) p.opened (i k))

      by : (b : Bool) → has_key (mutation_keys r.mutations) k ≡ b → IsOrderly (if b then prewrite_cell r n r.mutations (cell_at cs k) else cell_at cs k)
      by true e = here (key_placed r n cs free k e)
      by false e = i k

  pub orderly_lands : r.try_one_pc ≡ true → AreOrderly (changed_at (mutation_keys r.mutations) (land_cell r n r.mutations) cs)
  orderly_lands once k = subst IsOrderly (sym (cell_changed (mutation_keys r.mutations) (land_cell r n r.mutations) (land_key r n r.mutations) cs o k)) (by (has_key (mutation_keys r.mutations) k) refl)
    where
      here : (land_cell r n r.mutations (cell_at cs k) ≡ cell_at cs k) ⊎ IsLanded r n (cell_at cs k) (land_cell r n r.mutations (cell_at cs k)) → IsOrderly (land_cell r n r.mutations (cell_at cs k))
      here (inl e) = subst IsOrderly (sym e) (i k)
      here (inr p) = subst IsOrderly (sym p.so) (orderly_landed p.lock n (cell_at cs k) p.opened p.unowned (i k))

      by : (b : Bool) → has_key (mutation_keys r.mutations) k ≡ b → IsOrderly (if b then land_cell r n r.mutations (cell_at cs k) else cell_at cs k)
      by true e = here (key_landed r n cs free k e once)
      by false e = i k
