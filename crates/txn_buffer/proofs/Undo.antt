-- A key that was filled and is unfilled again is as it was.
use Rattle.std.proofs.Common.{◌≡◌, ◌∙◌, sym, refl, ap, inr, ℕ, ◌++◌, List, [], ◌∷◌, Bool, true, false, cond, Option, Some, None, is_none, is_some, true≢false, Result, Ok, Err, OnOk, OnErr, Ordering}
use Rattle.std.specs.declared.cmp.Ordering.TheVariants.{Less, Equal, Greater}
use Rattle.std.specs.Ordering.{is_eq, match_ordering, nat_cmp}
use Rattle.std.specs.Cmp.Lexicographic.{slice_cmp}
use Rattle.std.specs.BTreeMap.{insert_entry, is_at}
use Rattle.std.specs.Map.{lookup, remove_entry, set_value}
use Rattle.std.proofs.lemmas.Cmp.{nat_list_cmp_total, tied_itself}
use Rattle.std.proofs.lemmas.Map.Steps.{set_value_same}
use Rattle.txn_buffer.specs.declared.entry.Entry.{Entry}
use Rattle.txn_buffer.specs.declared.entry.Entry.TheVariants as entry
use Rattle.txn_buffer.specs.Contents.{Contents, entry_at, filled, filled_at, known_at, known_at_entry}
use Rattle.txn_buffer.specs.Overlay.{Pairs}
use Rattle.txn_buffer.specs.Reads.{IsUnlikeOne, unfilled, unfilled_all, unfilled_at}
use Rattle.txn_kv.specs.declared.errors.Error.TheVariants.{OutOfMemory}

abbrev pub is_key : List ℕ → List ℕ → Bool
is_key key = is_at (slice_cmp nat_cmp key)

is_key_itself : (key : List ℕ) → is_key key key ≡ true
is_key_itself key = ap is_eq (tied_itself nat_list_cmp_total key)

module _ {X : Type 0} where
  pub lookup_inserted : (entries : List (List ℕ × X)) (key : List ℕ) (x : X) → lookup (is_key key) (insert_entry (slice_cmp nat_cmp) entries key x) ≡ Some x
  lookup_inserted [] key x = ap (λ b. cond b (Some x) None) (is_key_itself key)
  lookup_inserted (e ∷ entries) key x = by (slice_cmp nat_cmp key e.0) refl (lookup_inserted entries key x)
    where
      by : (o : Ordering) → slice_cmp nat_cmp key e.0 ≡ o → lookup (is_key key) (insert_entry (slice_cmp nat_cmp) entries key x) ≡ Some x → lookup (is_key key) (match_ordering o ((key, x) ∷ e ∷ entries) ((e.0, x) ∷ entries) (e ∷ insert_entry (slice_cmp nat_cmp) entries key x)) ≡ Some x
      by Less h later = ap (λ b. cond b (Some x) (lookup (is_key key) (e ∷ entries))) (is_key_itself key)
      by Equal h later = ap (λ b. cond b (Some x) (lookup (is_key key) entries)) (ap is_eq h)
      by Greater h later = ap (λ b. cond b (Some e.1) (lookup (is_key key) (insert_entry (slice_cmp nat_cmp) entries key x))) (ap is_eq h) ∙ later

  pub removed_inserted : (entries : List (List ℕ × X)) (key : List ℕ) (x : X) → lookup (is_key key) entries ≡ None → remove_entry (is_key key) (insert_entry (slice_cmp nat_cmp) entries key x) ≡ entries
  removed_inserted [] key x absent = ap (λ b. cond b [] ((key, x) ∷ [])) (is_key_itself key)
  removed_inserted (e ∷ entries) key x absent = by (slice_cmp nat_cmp key e.0) refl (removed_inserted entries key x)
    where
      by : (o : Ordering) → slice_cmp nat_cmp key e.0 ≡ o → (lookup (is_key key) entries ≡ None → remove_entry (is_key key) (insert_entry (slice_cmp nat_cmp) entries key x) ≡ entries) → remove_entry (is_key key) (match_ordering o ((key, x) ∷ e ∷ entries) ((e.0, x) ∷ entries) (e ∷ insert_entry (slice_cmp nat_cmp) entries key x)) ≡ e ∷ entries
      by Less h later = ap (λ b. cond b (e ∷ entries) ((key, x) ∷ remove_entry (is_key key) (e ∷ entries))) (is_key_itself key)
      by Equal h later = absurd (true≢false (ap is_some (sym (ap (λ b. cond b (Some e.1) (lookup (is_key key) entries)) (ap is_eq h)) ∙ absent)))
      by Greater h later = let same = ap is_eq h in ap (λ b. cond b (insert_entry (slice_cmp nat_cmp) entries key x) (e ∷ remove_entry (is_key key) (insert_entry (slice_cmp nat_cmp) entries key x))) same ∙ ap (λ rest. e ∷ rest) (later (sym (ap (λ b. cond b (Some e.1) (lookup (is_key key) entries)) same) ∙ absent))

  pub lookup_set : (test : List ℕ → Bool) (entries : List (List ℕ × X)) (old new : X) → lookup test entries ≡ Some old → lookup test (set_value test entries new) ≡ Some new
  lookup_set test [] old new found = absurd (true≢false (sym (ap is_some found)))
  lookup_set test (e ∷ entries) old new found = by (test e.0) refl (lookup_set test entries old new)
    where
      by : (b : Bool) → test e.0 ≡ b → (lookup test entries ≡ Some old → lookup test (set_value test entries new) ≡ Some new) → lookup test (cond b ((e.0, new) ∷ entries) (e ∷ set_value test entries new)) ≡ Some new
      by true h later = ap (λ b. cond b (Some new) (lookup test entries)) h
      by false h later = ap (λ b. cond b (Some e.1) (lookup test (set_value test entries new))) h ∙ later (sym (ap (λ b. cond b (Some e.1) (lookup test entries)) h) ∙ found)

  pub set_set : (test : List ℕ → Bool) (entries : List (List ℕ × X)) (old new : X) → set_value test (set_value test entries old) new ≡ set_value test entries new
  set_set test [] old new = refl
  set_set test (e ∷ entries) old new = by (test e.0) refl (set_set test entries old new)
    where
      by : (b : Bool) → test e.0 ≡ b → set_value test (set_value test entries old) new ≡ set_value test entries new → set_value test (cond b ((e.0, old) ∷ entries) (e ∷ set_value test entries old)) new ≡ cond b ((e.0, new) ∷ entries) (e ∷ set_value test entries new)
      by true h later = ap (λ b. cond b ((e.0, new) ∷ entries) ((e.0, old) ∷ set_value test entries new)) h
      by false h later = ap (λ b. cond b ((e.0, new) ∷ set_value test entries old) (e ∷ set_value test (set_value test entries old) new)) h ∙ ap (λ rest. e ∷ rest) later

-- a contents with these entries
abbrev with_entries : Contents → List (List ℕ × Entry) → Contents
with_entries contents entries = record contents { entries = entries }

not_known : {G : Type 0} → false ≡ true → G
not_known wrong = absurd (true≢false (sym wrong))

pub unfilled_missing : (contents : Contents) (key : List ℕ) → is_none (known_at contents key) ≡ true → unfilled contents key ≡ contents
unfilled_missing contents key missing = by (entry_at contents key) refl missing
  where
    by : (o : Option Entry) → entry_at contents key ≡ o → is_none (known_at_entry o) ≡ true → unfilled_at o contents key ≡ contents
    by None h m = refl
    by (Some (entry.Locked None)) h m = ap (with_entries contents) (set_value_same (is_key key) contents.entries (entry.Locked None) h)
    by (Some (entry.Locked (Some known))) h m = not_known m
    by (Some (entry.Cached value)) h m = not_known m
    by (Some (entry.Put value)) h m = not_known m
    by (Some entry.Del) h m = not_known m
    by (Some (entry.Insert value)) h m = not_known m
    by (Some entry.CheckNotExist) h m = not_known m

pub unfilled_filled : (contents : Contents) (key : List ℕ) (value : Option (List ℕ)) → is_none (known_at contents key) ≡ true → unfilled (filled contents key value) key ≡ contents
unfilled_filled contents key value missing = by (entry_at contents key) refl missing
  where
    by : (o : Option Entry) → entry_at contents key ≡ o → is_none (known_at_entry o) ≡ true → unfilled (filled_at o contents key value) key ≡ contents
    by None h m = ap (λ o. unfilled_at o (filled_at None contents key value) key) (lookup_inserted contents.entries key (entry.Cached value)) ∙ ap (with_entries contents) (removed_inserted contents.entries key (entry.Cached value) h)
    by (Some (entry.Locked None)) h m = ap (λ o. unfilled_at o (filled_at (Some (entry.Locked None)) contents key value) key) (lookup_set (is_key key) contents.entries (entry.Locked None) (entry.Locked (Some value)) h) ∙ ap (with_entries contents) (set_set (is_key key) contents.entries (entry.Locked (Some value)) (entry.Locked None) ∙ set_value_same (is_key key) contents.entries (entry.Locked None) h)
    by (Some (entry.Locked (Some known))) h m = not_known m
    by (Some (entry.Cached known)) h m = not_known m
    by (Some (entry.Put known)) h m = not_known m
    by (Some entry.Del) h m = not_known m
    by (Some (entry.Insert known)) h m = not_known m
    by (Some entry.CheckNotExist) h m = not_known m

pub unfilled_all_push : (contents : Contents) (keys : List (List ℕ)) (key : List ℕ) → unfilled_all contents (keys ++ key ∷ []) ≡ unfilled_all (unfilled contents key) keys
unfilled_all_push contents [] key = refl
unfilled_all_push contents (k ∷ keys) key = ap (λ c. unfilled c k) (unfilled_all_push contents keys key)

-- a fill that was noted before, whether or not it was refused
pub undo_noted : {T E : Type 0} (contents : Contents) (new : Contents) (keys noted : List (List ℕ)) (key : List ℕ) (value : Option (List ℕ)) (result : Result T E) → noted ≡ keys ++ key ∷ [] → is_none (known_at contents key) ≡ true → OnOk result (new ≡ filled contents key value) → OnErr result (new ≡ contents) → unfilled_all new noted ≡ unfilled_all contents keys
undo_noted {T} {E} contents new keys noted key value result is missing ok err = ap (unfilled_all new) is ∙ unfilled_all_push new keys key ∙ ap (λ c. unfilled_all c keys) (by result ok err)
  where
    by : (r : Result T E) → OnOk r (new ≡ filled contents key value) → OnErr r (new ≡ contents) → unfilled new key ≡ contents
    by (Ok done) o e = ap (λ c. unfilled c key) o ∙ unfilled_filled contents key value missing
    by (Err why) o e = ap (λ c. unfilled c key) e ∙ unfilled_missing contents key missing

-- want of memory may come with any pairs
pub unlike_no_memory : (contents : Contents) (pairs : Pairs) → IsUnlikeOne contents pairs OutOfMemory
unlike_no_memory contents [] = refl
unlike_no_memory contents (p ∷ pairs) = inr (unlike_no_memory (filled contents p.0 (Some p.1)) pairs)
