-- A commit that locks no key writes nothing.
use Rattle.std.proofs.Common.{◌≡◌, inl, inr, ℕ, Bool, true, false, List, [], ◌∷◌, Option, Some, None, is_some, not, refl, sym, ap, ◌∙◌, subst}
use Rattle.std.specs.Prelude.{if◌then◌else◌, option_map}
use Rattle.txn_buffer.specs.Contents.{Contents, commit_primary_or, entry_at, first_locking, is_locking_at, mutations}
use Rattle.txn_buffer.specs.declared.entry.Entry.{Entry}
use Rattle.txn_buffer.specs.declared.entry.Entry.TheVariants as entry
use Rattle.txn_commit.specs.Parts.{named_primary, parts_of, parts_under}
use Rattle.txn_commit.specs.Sending.{content_at, plan_of}
use Rattle.txn_commit.specs.declared.commit_parts.CommitParts.{CommitParts}
use Rattle.txn_core.specs.Transaction.{lock_nothing, locks_nothing}
use Rattle.txn_history.specs.Plan.{Content, Key, key_eq}
use Rattle.txn_law.specs.Whole.{IsWholeAt}
use Rattle.txn_model.specs.declared.cell.Cell.{Cell}

-- where no mutation locks its key
none_written : (entries : List (Key × Entry)) → is_some (first_locking entries) ≡ false → (k : Key) → content_at (mutations entries) k ≡ None
none_written [] none k = refl
none_written ((key, entry.Cached value) ∷ rest) none k = none_written rest none k
none_written ((key, entry.Locked value) ∷ rest) none k = absurd (cc)
none_written ((key, entry.Put value) ∷ rest) none k = absurd (cc)
none_written ((key, entry.Del) ∷ rest) none k = absurd (cc)
none_written ((key, entry.Insert value) ∷ rest) none k = absurd (cc)
none_written ((key, entry.CheckNotExist) ∷ rest) none k = by (key_eq key k) (none_written rest none k)
  where
    by : (b : Bool) → content_at (mutations rest) k ≡ None → (if b then None else content_at (mutations rest) k) ≡ None
    by true later = refl
    by false later = later

none_locking : (contents : Contents) (o : Option Key) → is_some (commit_primary_or o contents) ≡ false → is_some (first_locking contents.entries) ≡ false
none_locking contents None none = none
none_locking contents (Some primary) none = by (is_locking_at (entry_at contents primary)) none
  where
    by : (b : Bool) → is_some (if b then Some primary else first_locking contents.entries) ≡ false → is_some (first_locking contents.entries) ≡ false
    by true e = absurd (cc)
    by false e = e

-- so the plan of such a commit writes nothing
unlocked_plan : (contents : Contents) (parts : CommitParts) → parts_of contents ≡ Some parts → locks_nothing contents ≡ true → (k : Key) → (plan_of parts).writes k ≡ None
unlocked_plan contents parts is unlocked k = by (named_primary contents (mutations contents.entries)) is (ap lock_nothing (sym is) ∙ unlocked)
  where
    by : (o : Option Key) → option_map (parts_under contents) o ≡ Some parts → not parts.locks ≡ true → content_at parts.mutations k ≡ None
    by None e locks = absurd (cc)
    by (Some primary) e locks =
        let same : parts_under contents primary ≡ parts = cc in
        subst (λ (p : CommitParts). content_at p.mutations k ≡ None) same
        (none_written contents.entries (none_locking contents contents.primary (off (parts_under contents primary).locks (subst (λ (p : CommitParts). not p.locks ≡ true) (sym same) locks))) k)
      where
        off : (b : Bool) → not b ≡ true → b ≡ false
        off true f = absurd (cc)
        off false f = refl

-- and nothing is whole by it
pub unlocked_never : (contents : Contents) (parts : CommitParts) (cells : List Cell) (s c : ℕ) → parts_of contents ≡ Some parts → locks_nothing contents ≡ true → IsWholeAt (plan_of parts) cells s c → ⊥
unlocked_never contents parts cells s c is unlocked w = elim w.decided [
  | inl p ↦ unwritten parts.primary _ (w.others parts.primary p.1.write p.1.among p.1.start).1
  | inr spread ↦ unwritten spread.greatest.0 spread.greatest.1 spread.greatest.2
]
  where
    none_some : (x : Content) → None ≡ Some x → ⊥
    none_some x e = cc

    unwritten : (k : Key) (x : Content) → (plan_of parts).writes k ≡ Some x → ⊥
    unwritten k x e = none_some x (sym (unlocked_plan contents parts is unlocked k) ∙ e)
