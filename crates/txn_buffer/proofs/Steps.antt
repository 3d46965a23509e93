-- The writes of a buffer after each of its calls that write.
use Rattle.std.proofs.Common.{◌≡◌, ◌∙◌, sym, refl, ap, ℕ, List, [], ◌∷◌, false, cond, Option, Some, None, Ordering, Result, Ok, Err, OnOk}
use Rattle.std.specs.declared.cmp.Ordering.TheVariants.{Less, Equal, Greater}
use Rattle.std.specs.Ordering.{is_eq, match_ordering, nat_cmp}
use Rattle.std.specs.Cmp.Lexicographic.{slice_cmp}
use Rattle.std.specs.BTreeMap.{insert_entry, is_at}
use Rattle.std.specs.List.Sorted.{IsStrictlySortedBy}
use Rattle.std.specs.Map.{keys_of, lookup}
use Rattle.std.proofs.lemmas.Cmp.{nat_list_cmp_total}
use Rattle.std.proofs.lemmas.Map.Lookups.{exact_bytes}
use Rattle.txn_buffer.specs.declared.entry.Entry.{Entry}
use Rattle.txn_buffer.specs.Contents.{Contents, entry_of, with_write, write_at, write_at_entry, write_of}
use Rattle.txn_buffer.specs.Passing.{IsBelow}
use Rattle.txn_buffer.specs.Reads.{and_write, writes, writes_of}
use Rattle.txn_buffer.specs.Writes.{Write, Writes, after_call, after_delete, after_insert, after_put, check, delete, delete_call, insert, insert_call, put, put_call, with_write_in}

module _ {X : Type 0} where
  pub first_below : (e : List ℕ × X) (entries : List (List ℕ × X)) → IsStrictlySortedBy (slice_cmp nat_cmp) (keys_of (e ∷ entries)) → IsBelow e.0 entries
  unfolding IsStrictlySortedBy
  first_below e entries sorted = sorted.0

  pub rest_sorted : (e : List ℕ × X) (entries : List (List ℕ × X)) → IsStrictlySortedBy (slice_cmp nat_cmp) (keys_of (e ∷ entries)) → IsStrictlySortedBy (slice_cmp nat_cmp) (keys_of entries)
  unfolding IsStrictlySortedBy
  rest_sorted e entries sorted = sorted.1

  pub below_trans : (a b : List ℕ) (entries : List (List ℕ × X)) → slice_cmp nat_cmp a b ≡ Less → IsBelow b entries → IsBelow a entries
  below_trans a b [] h below = tt
  below_trans a b (e ∷ entries) h below = (nat_list_cmp_total.trans a b e.0 h below.0, below_trans a b entries h below.1)

  below_same : (a b : List ℕ) (entries : List (List ℕ × X)) → slice_cmp nat_cmp a b ≡ Equal → IsBelow b entries → IsBelow a entries
  below_same a b [] h below = tt
  below_same a b (e ∷ entries) h below = (nat_list_cmp_total.congr a b e.0 h ∙ below.0, below_same a b entries h below.1)

  none_below : (key : List ℕ) (entries : List (List ℕ × X)) → IsBelow key entries → lookup (is_at (slice_cmp nat_cmp key)) entries ≡ None
  none_below key [] below = refl
  none_below key (e ∷ entries) below = ap (λ o. cond (is_eq o) (Some e.1) (lookup (is_at (slice_cmp nat_cmp key)) entries)) below.0 ∙ none_below key entries below.1

  pub front : (key : List ℕ) (x : X) (entries : List (List ℕ × X)) → IsBelow key entries → insert_entry (slice_cmp nat_cmp) entries key x ≡ (key, x) ∷ entries
  front key x [] below = refl
  front key x (e ∷ entries) below = ap (λ o. match_ordering o ((key, x) ∷ e ∷ entries) ((e.0, x) ∷ entries) (e ∷ insert_entry (slice_cmp nat_cmp) entries key x)) below.0

pub writes_below : (key : List ℕ) (entries : List (List ℕ × Entry)) → IsBelow key entries → IsBelow key (writes_of entries)
writes_below key [] below = tt
writes_below key (e ∷ entries) below = by (write_of e.1) (writes_below key entries below.1)
  where
    by : (w : Option Write) → IsBelow key (writes_of entries) → IsBelow key (and_write e.0 w (writes_of entries))
    by None later = later
    by (Some w) later = (below.0, later)

write_back : (w : Write) → write_of (entry_of w) ≡ Some w
write_back (put value) = refl
write_back (insert value) = refl
write_back delete = refl
write_back check = refl

at_same : (key first : List ℕ) (w : Write) (old : Option Write) (ws : Writes) → slice_cmp nat_cmp key first ≡ Equal → IsBelow first ws → (first, w) ∷ ws ≡ insert_entry (slice_cmp nat_cmp) (and_write first old ws) key w
at_same key first w (Some o) ws h below = sym (ap (λ r. match_ordering r ((key, w) ∷ (first, o) ∷ ws) ((first, w) ∷ ws) ((first, o) ∷ insert_entry (slice_cmp nat_cmp) ws key w)) h)
at_same key first w None ws h below = ap (λ k. (k, w) ∷ ws) (sym (exact_bytes key first h)) ∙ sym (front key w ws (below_same key first ws h below))

past_first : (key first : List ℕ) (w : Write) (old : Option Write) (ws : Writes) → slice_cmp nat_cmp key first ≡ Greater → and_write first old (insert_entry (slice_cmp nat_cmp) ws key w) ≡ insert_entry (slice_cmp nat_cmp) (and_write first old ws) key w
past_first key first w (Some o) ws h = sym (ap (λ r. match_ordering r ((key, w) ∷ (first, o) ∷ ws) ((first, w) ∷ ws) ((first, o) ∷ insert_entry (slice_cmp nat_cmp) ws key w)) h)
past_first key first w None ws h = refl

writes_inserted : (entries : List (List ℕ × Entry)) (key : List ℕ) (w : Write) → IsStrictlySortedBy (slice_cmp nat_cmp) (keys_of entries) → writes_of (insert_entry (slice_cmp nat_cmp) entries key (entry_of w)) ≡ insert_entry (slice_cmp nat_cmp) (writes_of entries) key w
writes_inserted [] key w sorted = ap (λ m. and_write key m []) (write_back w)
writes_inserted (e ∷ entries) key w sorted = by (slice_cmp nat_cmp key e.0) refl (first_below e entries sorted) (writes_inserted entries key w (rest_sorted e entries sorted))
  where
    by : (o : Ordering) → slice_cmp nat_cmp key e.0 ≡ o → IsBelow e.0 entries → writes_of (insert_entry (slice_cmp nat_cmp) entries key (entry_of w)) ≡ insert_entry (slice_cmp nat_cmp) (writes_of entries) key w → writes_of (match_ordering o ((key, entry_of w) ∷ e ∷ entries) ((e.0, entry_of w) ∷ entries) (e ∷ insert_entry (slice_cmp nat_cmp) entries key (entry_of w))) ≡ insert_entry (slice_cmp nat_cmp) (and_write e.0 (write_of e.1) (writes_of entries)) key w
    by Less h below later = ap (λ m. and_write key m (writes_of (e ∷ entries))) (write_back w) ∙ sym (front key w (writes_of (e ∷ entries)) (writes_below key (e ∷ entries) (h, below_trans key e.0 entries h below)))
    by Equal h below later = ap (λ m. and_write e.0 m (writes_of entries)) (write_back w) ∙ at_same key e.0 w (write_of e.1) (writes_of entries) h (writes_below e.0 entries below)
    by Greater h below later = ap (λ ws. and_write e.0 (write_of e.1) ws) later ∙ past_first key e.0 w (write_of e.1) (writes_of entries) h

found_same : (key first : List ℕ) (old : Option Write) (ws : Writes) → slice_cmp nat_cmp key first ≡ Equal → IsBelow first ws → old ≡ lookup (is_at (slice_cmp nat_cmp key)) (and_write first old ws)
found_same key first (Some o) ws h below = sym (ap (λ r. cond (is_eq r) (Some o) (lookup (is_at (slice_cmp nat_cmp key)) ws)) h)
found_same key first None ws h below = sym (none_below key ws (below_same key first ws h below))

found_later : (key first : List ℕ) (old : Option Write) (ws : Writes) → is_eq (slice_cmp nat_cmp key first) ≡ false → lookup (is_at (slice_cmp nat_cmp key)) ws ≡ lookup (is_at (slice_cmp nat_cmp key)) (and_write first old ws)
found_later key first (Some o) ws h = sym (ap (λ b. cond b (Some o) (lookup (is_at (slice_cmp nat_cmp key)) ws)) h)
found_later key first None ws h = refl

write_found : (entries : List (List ℕ × Entry)) (key : List ℕ) → IsStrictlySortedBy (slice_cmp nat_cmp) (keys_of entries) → write_at_entry (lookup (is_at (slice_cmp nat_cmp key)) entries) ≡ lookup (is_at (slice_cmp nat_cmp key)) (writes_of entries)
write_found [] key sorted = refl
write_found (e ∷ entries) key sorted = by (slice_cmp nat_cmp key e.0) refl (first_below e entries sorted) (write_found entries key (rest_sorted e entries sorted))
  where
    by : (o : Ordering) → slice_cmp nat_cmp key e.0 ≡ o → IsBelow e.0 entries → write_at_entry (lookup (is_at (slice_cmp nat_cmp key)) entries) ≡ lookup (is_at (slice_cmp nat_cmp key)) (writes_of entries) → write_at_entry (cond (is_eq o) (Some e.1) (lookup (is_at (slice_cmp nat_cmp key)) entries)) ≡ lookup (is_at (slice_cmp nat_cmp key)) (and_write e.0 (write_of e.1) (writes_of entries))
    by Less h below later = later ∙ found_later key e.0 (write_of e.1) (writes_of entries) (ap is_eq h)
    by Equal h below later = found_same key e.0 (write_of e.1) (writes_of entries) h (writes_below e.0 entries below)
    by Greater h below later = later ∙ found_later key e.0 (write_of e.1) (writes_of entries) (ap is_eq h)

entries_written : (contents : Contents) (key : List ℕ) (w : Write) → (with_write contents key w).entries ≡ insert_entry (slice_cmp nat_cmp) contents.entries key (entry_of w)
entries_written contents key (put value) = refl
entries_written contents key (insert value) = refl
entries_written contents key delete = refl
entries_written contents key check = refl

written : (contents : Contents) (key : List ℕ) (w : Write) → IsStrictlySortedBy (slice_cmp nat_cmp) (keys_of contents.entries) → writes (with_write contents key w) ≡ with_write_in (writes contents) key w
written contents key w sorted = ap writes_of (entries_written contents key w) ∙ writes_inserted contents.entries key w sorted

pub put_step : (contents : Contents) (key value : List ℕ) → IsStrictlySortedBy (slice_cmp nat_cmp) (keys_of contents.entries) → writes (with_write contents key (after_put (write_at contents key) value)) ≡ after_call contents.is_pessimistic (writes contents) (put_call key value)
put_step contents key value sorted = written contents key (after_put (write_at contents key) value) sorted ∙ ap (λ old. with_write_in (writes contents) key (after_put old value)) (write_found contents.entries key sorted)

pub insert_step : (contents : Contents) (key value : List ℕ) → IsStrictlySortedBy (slice_cmp nat_cmp) (keys_of contents.entries) → writes (with_write contents key (after_insert (write_at contents key) value)) ≡ after_call contents.is_pessimistic (writes contents) (insert_call key value)
insert_step contents key value sorted = written contents key (after_insert (write_at contents key) value) sorted ∙ ap (λ old. with_write_in (writes contents) key (after_insert old value)) (write_found contents.entries key sorted)

pub delete_step : (contents : Contents) (key : List ℕ) → IsStrictlySortedBy (slice_cmp nat_cmp) (keys_of contents.entries) → writes (with_write contents key (after_delete contents.is_pessimistic (write_at contents key))) ≡ after_call contents.is_pessimistic (writes contents) (delete_call key)
delete_step contents key sorted = written contents key (after_delete contents.is_pessimistic (write_at contents key)) sorted ∙ ap (λ old. with_write_in (writes contents) key (after_delete contents.is_pessimistic old)) (write_found contents.entries key sorted)

-- the same where the call was not refused
pub put_steps : {T E : Type 0} (result : Result T E) (contents new : Contents) (key value : List ℕ) → OnOk result (new ≡ with_write contents key (after_put (write_at contents key) value)) → OnOk result (IsStrictlySortedBy (slice_cmp nat_cmp) (keys_of contents.entries)) → OnOk result (writes new ≡ after_call contents.is_pessimistic (writes contents) (put_call key value))
put_steps (Ok done) contents new key value is sorted = ap writes is ∙ put_step contents key value sorted
put_steps (Err why) contents new key value is sorted = tt

-- the same where the call was not refused
pub insert_steps : {T E : Type 0} (result : Result T E) (contents new : Contents) (key value : List ℕ) → OnOk result (new ≡ with_write contents key (after_insert (write_at contents key) value)) → OnOk result (IsStrictlySortedBy (slice_cmp nat_cmp) (keys_of contents.entries)) → OnOk result (writes new ≡ after_call contents.is_pessimistic (writes contents) (insert_call key value))
insert_steps (Ok done) contents new key value is sorted = ap writes is ∙ insert_step contents key value sorted
insert_steps (Err why) contents new key value is sorted = tt

-- the same where the call was not refused
pub delete_steps : {T E : Type 0} (result : Result T E) (contents new : Contents) (key : List ℕ) → OnOk result (new ≡ with_write contents key (after_delete contents.is_pessimistic (write_at contents key))) → OnOk result (IsStrictlySortedBy (slice_cmp nat_cmp) (keys_of contents.entries)) → OnOk result (writes new ≡ after_call contents.is_pessimistic (writes contents) (delete_call key))
delete_steps (Ok done) contents new key is sorted = ap writes is ∙ delete_step contents key sorted
delete_steps (Err why) contents new key is sorted = tt
