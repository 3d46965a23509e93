-- Locks and reads leave the writes of a buffer.
use Rattle.std.proofs.Common.{◌≡◌, ◌∙◌, sym, refl, ap, ℕ, Bool, true, false, List, [], ◌∷◌, cond, Option, Some, None, Ordering, arith}
use Rattle.std.specs.declared.cmp.Ordering.TheVariants.{Less, Equal, Greater}
use Rattle.std.specs.Ordering.{is_eq, match_ordering, nat_cmp}
use Rattle.std.specs.Cmp.Lexicographic.{slice_cmp}
use Rattle.std.specs.BTreeMap.{insert_entry, is_at}
use Rattle.std.specs.Map.{lookup, remove_entry, set_value}
use Rattle.txn_buffer.specs.declared.entry.Entry.{Entry}
use Rattle.txn_buffer.specs.declared.entry.Entry.TheVariants as entry
use Rattle.txn_buffer.specs.Contents.{Contents, entry_at, filled, filled_at, is_bare_lock, lock_step, locked, locked_at, unlock_step, unlocked, unlocked_at, with_primary, with_value, without_entry, write_of}
use Rattle.txn_buffer.specs.Overlay.{Pairs}
use Rattle.txn_buffer.specs.Reads.{and_write, filled_all, writes, writes_of}

module _ (p : List ℕ → Bool) where
  set_untouched : (entries : List (List ℕ × Entry)) (old new : Entry) → lookup p entries ≡ Some old → write_of new ≡ write_of old → writes_of (set_value p entries new) ≡ writes_of entries
  set_untouched [] old new found same = refl
  set_untouched (e ∷ es) old new found same = by (p e.0) found (set_untouched es old new)
    where
      by : (b : Bool) → cond b (Some e.1) (lookup p es) ≡ Some old → (lookup p es ≡ Some old → write_of new ≡ write_of old → writes_of (set_value p es new) ≡ writes_of es) → writes_of (cond b ((e.0, new) ∷ es) (e ∷ set_value p es new)) ≡ writes_of (e ∷ es)
      by true found later = let here : e.1 ≡ old = grind arith in ap (λ w. and_write e.0 w (writes_of es)) (same ∙ sym (ap write_of here))
      by false found later = ap (and_write e.0 (write_of e.1)) (later found same)

  remove_untouched : (entries : List (List ℕ × Entry)) (old : Entry) → lookup p entries ≡ Some old → write_of old ≡ None → writes_of (remove_entry p entries) ≡ writes_of entries
  remove_untouched [] old found nothing = refl
  remove_untouched (e ∷ es) old found nothing = by (p e.0) found (remove_untouched es old)
    where
      by : (b : Bool) → cond b (Some e.1) (lookup p es) ≡ Some old → (lookup p es ≡ Some old → write_of old ≡ None → writes_of (remove_entry p es) ≡ writes_of es) → writes_of (cond b es (e ∷ remove_entry p es)) ≡ writes_of (e ∷ es)
      by true found later = let here : e.1 ≡ old = grind arith in sym (ap (λ w. and_write e.0 w (writes_of es)) (ap write_of here ∙ nothing))
      by false found later = ap (and_write e.0 (write_of e.1)) (later found nothing)

insert_untouched : (key : List ℕ) (entries : List (List ℕ × Entry)) (new : Entry) → lookup (is_at (slice_cmp nat_cmp key)) entries ≡ None → write_of new ≡ None → writes_of (insert_entry (slice_cmp nat_cmp) entries key new) ≡ writes_of entries
insert_untouched key [] new found nothing = ap (λ w. and_write key w []) nothing
insert_untouched key (e ∷ es) new found nothing = by (slice_cmp nat_cmp key e.0) found (insert_untouched key es new)
  where
    by : (o : Ordering) → cond (is_eq o) (Some e.1) (lookup (is_at (slice_cmp nat_cmp key)) es) ≡ None → (lookup (is_at (slice_cmp nat_cmp key)) es ≡ None → write_of new ≡ None → writes_of (insert_entry (slice_cmp nat_cmp) es key new) ≡ writes_of es) → writes_of (match_ordering o ((key, new) ∷ e ∷ es) ((e.0, new) ∷ es) (e ∷ insert_entry (slice_cmp nat_cmp) es key new)) ≡ writes_of (e ∷ es)
    by Less found later = ap (λ w. and_write key w (writes_of (e ∷ es))) nothing
    by Equal found later = absurd (cc)
    by Greater found later = ap (and_write e.0 (write_of e.1)) (later found nothing)

lock_step_writes : (e : Entry) → write_of (lock_step e) ≡ write_of e
lock_step_writes (entry.Cached value) = refl
lock_step_writes (entry.Locked known) = refl
lock_step_writes (entry.Put value) = refl
lock_step_writes entry.Del = refl
lock_step_writes (entry.Insert value) = refl
lock_step_writes entry.CheckNotExist = refl

unlock_step_writes : (e : Entry) → write_of (unlock_step e) ≡ write_of e
unlock_step_writes (entry.Cached value) = refl
unlock_step_writes (entry.Locked None) = refl
unlock_step_writes (entry.Locked (Some value)) = refl
unlock_step_writes (entry.Put value) = refl
unlock_step_writes entry.Del = refl
unlock_step_writes (entry.Insert value) = refl
unlock_step_writes entry.CheckNotExist = refl

bare_lock_writes : (e : Entry) → is_bare_lock e ≡ true → write_of e ≡ None
bare_lock_writes (entry.Cached value) is = refl
bare_lock_writes (entry.Locked known) is = refl
bare_lock_writes (entry.Put value) is = absurd (cc)
bare_lock_writes entry.Del is = absurd (cc)
bare_lock_writes (entry.Insert value) is = absurd (cc)
bare_lock_writes entry.CheckNotExist is = absurd (cc)

pub locked_leaves : (contents : Contents) (key : List ℕ) → writes (locked contents key) ≡ writes contents
locked_leaves contents key = by (entry_at contents key) refl
  where
    by : (found : Option Entry) → entry_at contents key ≡ found → writes (locked_at found (with_primary contents key) key) ≡ writes contents
    by None h = insert_untouched key contents.entries (entry.Locked None) h refl
    by (Some e) h = set_untouched (is_at (slice_cmp nat_cmp key)) contents.entries e (lock_step e) h (lock_step_writes e)

pub unlocked_leaves : (contents : Contents) (key : List ℕ) → writes (unlocked contents key) ≡ writes contents
unlocked_leaves contents key = by (entry_at contents key) refl
  where
    one : (e : Entry) → entry_at contents key ≡ Some e → (b : Bool) → is_bare_lock e ≡ b → writes (cond b (without_entry contents key) (with_value contents key (unlock_step e))) ≡ writes contents
    one e h true is = remove_untouched (is_at (slice_cmp nat_cmp key)) contents.entries e h (bare_lock_writes e is)
    one e h false is = set_untouched (is_at (slice_cmp nat_cmp key)) contents.entries e (unlock_step e) h (unlock_step_writes e)

    by : (found : Option Entry) → entry_at contents key ≡ found → writes (unlocked_at found contents key) ≡ writes contents
    by None h = refl
    by (Some e) h = one e h (is_bare_lock e) refl

pub filled_leaves : (contents : Contents) (key : List ℕ) (value : Option (List ℕ)) → writes (filled contents key value) ≡ writes contents
filled_leaves contents key value = by (entry_at contents key) refl
  where
    one : (e : Entry) → entry_at contents key ≡ Some e → (b : Bool) → is_bare_lock e ≡ b → writes (cond b (with_value contents key (entry.Locked (Some value))) contents) ≡ writes contents
    one e h true is = set_untouched (is_at (slice_cmp nat_cmp key)) contents.entries e (entry.Locked (Some value)) h (sym (bare_lock_writes e is))
    one e h false is = refl

    by : (found : Option Entry) → entry_at contents key ≡ found → writes (filled_at found contents key value) ≡ writes contents
    by None h = insert_untouched key contents.entries (entry.Cached value) h refl
    by (Some e) h = one e h (is_bare_lock e) refl

pub all_filled_leave : (contents : Contents) (pairs : Pairs) → writes (filled_all contents pairs) ≡ writes contents
all_filled_leave contents [] = refl
all_filled_leave contents (p ∷ pairs) = all_filled_leave (filled contents p.0 (Some p.1)) pairs ∙ filled_leaves contents p.0 (Some p.1)
