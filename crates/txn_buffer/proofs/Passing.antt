-- The pairs that pass the entries of a buffer are those of the overlay.
use Rattle.std.proofs.Common.{◌≡◌, ◌∙◌, sym, refl, ap, subst, ℕ, List, [], ◌∷◌, ◌++◌, take, drop, true, false, cond, Ordering}
use Rattle.std.specs.declared.cmp.Ordering.TheVariants.{Less, Equal, Greater}
use Rattle.std.specs.BTreeMap.{insert_entry, is_at}
use Rattle.std.specs.Cmp.Lexicographic.{slice_cmp}
use Rattle.std.specs.List.{AllByRecursion}
use Rattle.std.specs.Map.{keys_of, remove_entry}
use Rattle.std.specs.Ordering.{is_eq, is_gt, match_ordering, nat_cmp, ordering_reverse}
use Rattle.std.proofs.lemmas.Bool.{false≢true}
use Rattle.std.proofs.lemmas.Cmp.{nat_list_cmp_total, tied_itself, upto}
use Rattle.std.proofs.lemmas.List.{append_assoc, map-append}
use Rattle.std.proofs.lemmas.Map.Lookups.{exact_bytes}
use Rattle.txn_buffer.specs.declared.entry.Entry.{Entry}
use Rattle.txn_buffer.specs.Contents.{write_of}
use Rattle.txn_buffer.specs.Overlay.{Pairs, over, overlaid}
use Rattle.txn_buffer.specs.Passing.{IsAscending, IsBelow, IsUpTo, is_above_first, is_first, outcome}
use Rattle.txn_buffer.specs.Reads.{and_write, pair_of, pairs_of, writes_of}
use Rattle.txn_buffer.specs.Writes.{Write, Writes, check, delete, insert, put}
use Rattle.txn_buffer.specs.declared.merge.Merge.{Merge}
use Rattle.txn_kv.specs.declared.kvpair.KvPair.{KvPair}
use Rattle.txn_buffer.proofs.Steps.{below_trans, first_below, rest_sorted, writes_below}

abbrev cmp : List ℕ → List ℕ → Ordering
cmp = slice_cmp nat_cmp

-- each of these has a key above the key
abbrev AreAbove : {X : Type 0} → List ℕ → List (List ℕ × X) → Type 0
AreAbove key entries = AllByRecursion (λ k. cmp k key ≡ Greater) (keys_of entries)

pub turned : (a b : List ℕ) → cmp a b ≡ Less → cmp b a ≡ Greater
turned a b h = nat_list_cmp_total.antisymm b a ∙ ap ordering_reverse h

turned_back : (a b : List ℕ) → cmp a b ≡ Greater → cmp b a ≡ Less
turned_back a b h = nat_list_cmp_total.antisymm b a ∙ ap ordering_reverse h

module _ {X : Type 0} where
  above_from_below : (key : List ℕ) (entries : List (List ℕ × X)) → IsBelow key entries → AreAbove key entries
  above_from_below key [] below = tt
  above_from_below key (e ∷ entries) below = (turned key e.0 below.0, above_from_below key entries below.1)

  up_to_from_below : (key : List ℕ) (entries : List (List ℕ × X)) → IsBelow key entries → IsUpTo key entries
  up_to_from_below key [] below = tt
  up_to_from_below key (e ∷ entries) below = (ap is_gt below.0, up_to_from_below key entries below.1)

  -- what is below the key is below all that the key is up to
  above_from_up_to : (low key : List ℕ) (entries : List (List ℕ × X)) → cmp key low ≡ Greater → IsUpTo key entries → AreAbove low entries
  above_from_up_to low key [] h up = tt
  above_from_up_to low key (e ∷ entries) h up = (by (cmp key e.0) refl up.0, above_from_up_to low key entries h up.1)
    where
      by : (o : Ordering) → cmp key e.0 ≡ o → is_gt o ≡ false → cmp e.0 low ≡ Greater
      by Less is le = turned low e.0 (nat_list_cmp_total.trans low key e.0 (turned_back key low h) is)
      by Equal is le = sym (nat_list_cmp_total.congr key e.0 low is) ∙ h
      by Greater is le = absurd (false≢true (sym le))

  up_to_further : (key next : List ℕ) (entries : List (List ℕ × X)) → is_gt (cmp key next) ≡ false → IsBelow next entries → IsUpTo key entries
  up_to_further key next [] h below = tt
  up_to_further key next (e ∷ entries) h below = (upto nat_list_cmp_total key next e.0 h (ap is_gt below.0), up_to_further key next entries h below.1)

  -- where the key is not above the first, it is not above any
  pub up_to_first : (key : List ℕ) (entries : List (List ℕ × X)) → IsAscending entries → is_above_first key entries ≡ false → IsUpTo key entries
  up_to_first key [] ascending le = tt
  up_to_first key (e ∷ entries) ascending le = (le, up_to_further key e.0 entries le (first_below e entries ascending))

  none_removed : (key : List ℕ) (entries : List (List ℕ × X)) → IsBelow key entries → remove_entry (is_at (cmp key)) entries ≡ entries
  none_removed key [] below = refl
  none_removed key (e ∷ entries) below = ap (λ o. cond (is_eq o) entries (e ∷ remove_entry (is_at (cmp key)) entries)) below.0 ∙ ap (λ rest. e ∷ rest) (none_removed key entries below.1)

  -- an entry at a key that is up to all goes to the front, over one of that key
  put_first : (key : List ℕ) (x : X) (entries : List (List ℕ × X)) → IsAscending entries → IsUpTo key entries → insert_entry cmp entries key x ≡ (key, x) ∷ remove_entry (is_at (cmp key)) entries
  put_first key x [] ascending up = refl
  put_first key x (e ∷ entries) ascending up = by (cmp key e.0) refl up.0 (first_below e entries ascending)
    where
      by : (o : Ordering) → cmp key e.0 ≡ o → is_gt o ≡ false → IsBelow e.0 entries → match_ordering o ((key, x) ∷ e ∷ entries) ((e.0, x) ∷ entries) (e ∷ insert_entry cmp entries key x) ≡ (key, x) ∷ cond (is_eq o) entries (e ∷ remove_entry (is_at (cmp key)) entries)
      by Less is le below = ap (λ rest. (key, x) ∷ e ∷ rest) (sym (none_removed key entries (below_trans key e.0 entries is below)))
      by Equal is le below = ap (λ k. (k, x) ∷ entries) (sym (exact_bytes key e.0 is))
      by Greater is le below = absurd (false≢true (sym le))

-- what is taken out at a key that is up to all is the first or nothing
pub removed_first : (key : List ℕ) (waiting rest : List KvPair) → is_first key (pairs_of waiting) ≡ true → rest ≡ drop 1 waiting → pairs_of rest ≡ remove_entry (is_at (cmp key)) (pairs_of waiting)
removed_first key [] rest first is = ap pairs_of is
removed_first key (p ∷ waiting) rest first is = ap pairs_of is ∙ sym (ap (λ b. cond b (pairs_of waiting) (pair_of p ∷ remove_entry (is_at (cmp key)) (pairs_of waiting))) first)

pub removed_none : (key : List ℕ) (waiting : Pairs) → is_first key waiting ≡ false → IsAscending waiting → IsUpTo key waiting → waiting ≡ remove_entry (is_at (cmp key)) waiting
removed_none key [] apart ascending up = refl
removed_none key (p ∷ waiting) apart ascending up = sym (ap (λ b. cond b waiting (p ∷ remove_entry (is_at (cmp key)) waiting)) apart ∙ ap (λ rest. p ∷ rest) (by (cmp key p.0) refl up.0 apart))
  where
    by : (o : Ordering) → cmp key p.0 ≡ o → is_gt o ≡ false → is_eq o ≡ false → remove_entry (is_at (cmp key)) waiting ≡ waiting
    by Less h le apart = none_removed key waiting (below_trans key p.0 waiting h (first_below p waiting ascending))
    by Equal h le apart = absurd (false≢true (sym apart))
    by Greater h le apart = absurd (false≢true (sym le))

-- a write above a pair leaves it at the front
over_later : (p : List ℕ × List ℕ) (pairs : Pairs) (key : List ℕ) (write : Write) → cmp key p.0 ≡ Greater → over (p ∷ pairs) key write ≡ p ∷ over pairs key write
over_later p pairs key (put value) h = ap (λ o. match_ordering o ((key, value) ∷ p ∷ pairs) ((p.0, value) ∷ pairs) (p ∷ insert_entry cmp pairs key value)) h
over_later p pairs key (insert value) h = ap (λ o. match_ordering o ((key, value) ∷ p ∷ pairs) ((p.0, value) ∷ pairs) (p ∷ insert_entry cmp pairs key value)) h
over_later p pairs key delete h = ap (λ o. cond (is_eq o) pairs (p ∷ remove_entry (is_at (cmp key)) pairs)) h
over_later p pairs key check h = ap (λ o. cond (is_eq o) pairs (p ∷ remove_entry (is_at (cmp key)) pairs)) h

overlaid_later : (p : List ℕ × List ℕ) (pairs : Pairs) (writes : Writes) → AreAbove p.0 writes → overlaid (p ∷ pairs) writes ≡ p ∷ overlaid pairs writes
overlaid_later p pairs [] above = refl
overlaid_later p pairs (w ∷ writes) above = ap (λ ps. overlaid ps writes) (over_later p pairs w.0 w.1 above.0) ∙ overlaid_later p (over pairs w.0 w.1) writes above.1

first_passes : (key : List ℕ) (passed waiting : List KvPair) (writes : Writes) → is_above_first key (pairs_of waiting) ≡ true → IsUpTo key writes → pairs_of (passed ++ take 1 waiting) ++ overlaid (pairs_of (drop 1 waiting)) writes ≡ pairs_of passed ++ overlaid (pairs_of waiting) writes
first_passes key passed [] writes is up = absurd (false≢true is)
first_passes key passed (p ∷ waiting) writes is up = ap (λ ps. ps ++ overlaid (pairs_of waiting) writes) (map-append pair_of passed (p ∷ [])) ∙ append_assoc (pairs_of passed) (pair_of p ∷ []) (overlaid (pairs_of waiting) writes) ∙ ap (λ ps. pairs_of passed ++ ps) (sym (overlaid_later (pair_of p) (pairs_of waiting) writes (above_from_up_to p.0 key writes (by (cmp key p.0) is) up)))
  where
    by : (o : Ordering) → is_gt o ≡ true → o ≡ Greater
    by Less h = absurd (false≢true h)
    by Equal h = absurd (false≢true h)
    by Greater h = refl

-- a pair below a key passes all writes that the key is up to
pub one_passes : (key : List ℕ) (old new : Merge) → is_above_first key (pairs_of old.waiting.items) ≡ true → new.passed.items ≡ old.passed.items ++ take 1 old.waiting.items → new.waiting.items ≡ drop 1 old.waiting.items → (writes : Writes) → IsUpTo key writes → outcome new writes ≡ outcome old writes
one_passes key old new is passed waiting writes up = ap (λ ps. pairs_of ps ++ overlaid (pairs_of new.waiting.items) writes) passed ∙ ap (λ ps. pairs_of (old.passed.items ++ take 1 old.waiting.items) ++ overlaid (pairs_of ps) writes) waiting ∙ first_passes key old.passed.items old.waiting.items writes is up

rest_ascends : (waiting : List KvPair) → IsAscending (pairs_of waiting) → IsAscending (pairs_of (drop 1 waiting))
rest_ascends [] ascending = ascending
rest_ascends (p ∷ waiting) ascending = rest_sorted (pair_of p) (pairs_of waiting) ascending

pub rest_still_ascends : (waiting rest : List KvPair) → IsAscending (pairs_of waiting) → rest ≡ drop 1 waiting → IsAscending (pairs_of rest)
rest_still_ascends waiting rest ascending is = subst (λ ps. IsAscending (pairs_of ps)) (sym is) (rest_ascends waiting ascending)

itself : (key : List ℕ) → is_gt (cmp key key) ≡ false
itself key = ap is_gt (tied_itself nat_list_cmp_total key)

-- what a deletion leaves of the pairs that wait
pub deleted : (passed old_passed waiting old_waiting rest : Pairs) (key : List ℕ) → ((writes : Writes) → IsUpTo key writes → passed ++ overlaid waiting writes ≡ old_passed ++ overlaid old_waiting writes) → rest ≡ remove_entry (is_at (cmp key)) waiting → (writes : Writes) → IsBelow key writes → passed ++ overlaid rest writes ≡ old_passed ++ overlaid old_waiting ((key, delete) ∷ writes)
deleted passed old_passed waiting old_waiting rest key same is writes below = ap (λ ps. passed ++ overlaid ps writes) is ∙ same ((key, delete) ∷ writes) (itself key, up_to_from_below key writes below)

-- what a put makes of the pairs that wait
pub made_room : (passed old_passed waiting old_waiting rest : Pairs) (key : List ℕ) → ((writes : Writes) → IsUpTo key writes → passed ++ overlaid waiting writes ≡ old_passed ++ overlaid old_waiting writes) → rest ≡ remove_entry (is_at (cmp key)) waiting → IsAscending waiting → IsUpTo key waiting → (writes : Writes) (value : List ℕ) → IsBelow key writes → passed ++ (key, value) ∷ overlaid rest writes ≡ old_passed ++ overlaid old_waiting ((key, put value) ∷ writes)
made_room passed old_passed waiting old_waiting rest key same is ascending up writes value below = ap (λ ps. passed ++ ps) (sym (ap (λ ps. overlaid ps writes) (put_first key value waiting ascending up ∙ ap (λ ps. (key, value) ∷ ps) (sym is)) ∙ overlaid_later (key, value) rest writes (above_from_below key writes below))) ∙ same ((key, put value) ∷ writes) (itself key, up_to_from_below key writes below)

-- the next entry is met, and those after it are above
pub met : (key : List ℕ) (e : Entry) (later : List (List ℕ × Entry)) (old new : Merge) → IsAscending ((key, e) ∷ later) → ((writes : Writes) → IsBelow key writes → outcome new writes ≡ outcome old (and_write key (write_of e) writes)) → outcome new (writes_of later) ≡ outcome old (writes_of ((key, e) ∷ later))
met key e later old new ascending step = step (writes_of later) (writes_below key later (first_below (key, e) later ascending))
