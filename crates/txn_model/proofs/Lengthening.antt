-- A lock whose life is lengthened in its place.
use Rattle.std.proofs.Common.{◌≡◌, ℕ, suc, zero, ◌<◌, Bool, true, false, List, [], ◌∷◌, length, get_or, set, Option, Some, None, refl, sym, ap, ◌∙◌, subst, arith}
use Rattle.std.specs.Prelude.{if◌then◌else◌, ◌||◌}
use Rattle.txn_model.specs.declared.cell.Cell.{Cell}
use Rattle.txn_model.specs.declared.cell.Lock.{Lock}
use Rattle.txn_model.specs.Cells.{Key, key_eq, has_key, cell_at, AreKept}
use Rattle.txn_model.specs.HeartBeats.{lengthened_if, lengthened_at}
use Rattle.txn_model.specs.Orderly.{IsOrderly, AreOrderly}
use Rattle.txn_model.specs.Places.{IsAt, IsGapFor}
use Rattle.txn_model.specs.Settle.{lock_of_start}
use Rattle.txn_model.specs.Status.{longer_lived, with_lock}
use Rattle.txn_model.proofs.CellLists.{kept_changed, cell_changed}
use Rattle.txn_model.proofs.Changing.{changes_are}
use Rattle.txn_model.proofs.PlacesInOrder.{cell_found, cell_in_gap, changed_set, kept_set}
use Rattle.txn_model.proofs.StepRows.{only_key, lock_found}
use Rattle.txn_model.proofs.Steps.{orderly_renewed}

set_read : (cs : List Cell) (at : ℕ) (c : Cell) → at < length cs → c ≡ get_or cs at c → set cs at c ≡ cs
set_read [] at c l e = absurd (omega arith)
set_read (x ∷ cs) zero c l e = ap (λ y. y ∷ cs) e
set_read (x ∷ cs) (suc at) c l e = ap (λ y. x ∷ y) (set_read cs at c (omega arith) e)

module _ (cs : List Cell) (key : Key) (at : ℕ) (c : Cell) (s ttl : ℕ) (kept : AreKept cs) (is : IsAt cs key at) (read : c ≡ get_or cs at c) where
  here : cell_at cs key ≡ c
  here = cell_found cs key at c kept.in_order is ∙ sym read

  keyed : c.key ≡ key
  keyed = ap (λ x. x.key) read ∙ is.has_key c

  pub lock_here : lock_of_start s c.lock ≡ lock_of_start s (cell_at cs key).lock
  lock_here = ap (λ x. lock_of_start s x.lock) (sym here)

  pub lengthened_there : (o : Option Lock) → o ≡ lengthened_if ttl (lock_of_start s c.lock) c.lock → set cs at (record { key = c.key; lock = o; commits = c.commits; rolled = c.rolled }) ≡ lengthened_at key ttl (lock_of_start s (cell_at cs key).lock) cs
  lengthened_there o e = ap (λ x. set cs at (record { key = c.key; lock = x; commits = c.commits; rolled = c.rolled })) e ∙ (by (lock_of_start s c.lock) ∙ ap (λ q. lengthened_at key ttl q cs) lock_here)
    where
      by : (q : Option Lock) → set cs at (record { key = c.key; lock = lengthened_if ttl q c.lock; commits = c.commits; rolled = c.rolled }) ≡ lengthened_at key ttl q cs
      by None = set_read cs at c is.in_range read
      by (Some l) =
          let m : Cell = with_lock (longer_lived ttl l) c in
          changes_are (key ∷ []) (with_lock (longer_lived ttl l)) (λ x. refl) cs (set cs at m) kept (kept_set cs key at m kept is keyed refl)
          (λ j. changed_set cs key at c m (with_lock (longer_lived ttl l)) kept.in_order is read refl keyed j ∙ one (key_eq key j) (with_lock (longer_lived ttl l) (cell_at cs j)) (cell_at cs j))
        where
          one : (b : Bool) (x y : Cell) → (if b then x else y) ≡ (if b || false then x else y)
          one true x y = refl
          one false x y = refl

pub lengthened_kept : (cs : List Cell) (key : Key) (ttl : ℕ) (q : Option Lock) → AreKept cs → AreKept (lengthened_at key ttl q cs)
lengthened_kept cs key ttl None kept = kept
lengthened_kept cs key ttl (Some l) kept = kept_changed (key ∷ []) (with_lock (longer_lived ttl l)) (λ x. refl) cs kept.in_order

pub lengthened_orderly : (cs : List Cell) (key : Key) (s ttl : ℕ) (q : Option Lock) → AreKept cs → AreOrderly cs → lock_of_start s (cell_at cs key).lock ≡ q → AreOrderly (lengthened_at key ttl q cs)
lengthened_orderly cs key s ttl None kept orderly e = orderly
lengthened_orderly cs key s ttl (Some l) kept orderly e = λ j. subst IsOrderly (sym (cell_changed (key ∷ []) (with_lock (longer_lived ttl l)) (λ x. refl) cs kept.in_order j)) (by j (has_key (key ∷ []) j) refl)
  where
    by : (j : Key) (b : Bool) → has_key (key ∷ []) j ≡ b → IsOrderly (if b then with_lock (longer_lived ttl l) (cell_at cs j) else cell_at cs j)
    by j true h = orderly_renewed l ttl (cell_at cs j) (subst (λ k. (cell_at cs k).lock ≡ Some l) (sym (only_key key j h)) (lock_found s (cell_at cs key).lock l e)) (orderly j)
    by j false h = orderly j

-- a key that has a gap has no lock
pub none_in_gap : (cs : List Cell) (key : Key) (at s : ℕ) → IsGapFor cs key at → lock_of_start s (cell_at cs key).lock ≡ None
none_in_gap cs key at s gap = ap (λ x. lock_of_start s x.lock) (cell_in_gap cs key at gap)
