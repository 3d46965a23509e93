-- A buffer's keys stay in order, so that each is mutated once.
use Rattle.std.proofs.Common.{◌≡◌, ◌⊎◌, inl, inr, ℕ, Bool, true, false, List, [], ◌∷◌, ◌++◌, Option, Some, None, refl, sym, ap, subst, ◌∙◌, cond, Ordering}
use Rattle.std.specs.declared.cmp.Ordering.TheVariants.{Less, Equal, Greater}
use Rattle.std.specs.Prelude.{option_map}
use Rattle.std.specs.Ordering.{match_ordering, nat_cmp, ordering_reverse}
use Rattle.std.specs.Cmp.Lexicographic.{slice_cmp}
use Rattle.std.specs.BTreeMap.{insert_entry, is_at}
use Rattle.std.specs.List.{AllByRecursion}
use Rattle.std.specs.List.Sorted.{IsStrictlySortedBy}
use Rattle.std.specs.Map.{keys_of}
use Rattle.std.proofs.lemmas.Cmp.{nat_list_cmp_total}
use Rattle.std.proofs.lemmas.Map.{keys-set_value}
use Rattle.txn_kv.specs.declared.message.Mutation.{Mutation}
use Rattle.txn_history.specs.Among.{IsAmong}
use Rattle.txn_history.specs.Plan.{AreDistinct, Plan, key_eq}
use Rattle.txn_buffer.specs.declared.entry.Entry.{Entry}
use Rattle.txn_buffer.specs.declared.entry.Entry.TheVariants as entry
use Rattle.txn_buffer.specs.Contents.{Contents, entry_at, entry_of, lock_step, locked, locked_at, mutations, mutations_of, sets_primary, with_primary, with_write}
use Rattle.txn_commit.specs.Committing.{IsFormed}
use Rattle.txn_commit.specs.Parts.{named_primary, parts_of, parts_under}
use Rattle.txn_commit.specs.declared.commit_parts.CommitParts.{CommitParts}
use Rattle.txn_commit.proofs.Keys.{same_key}
use Rattle.txn_commit.proofs.Planned.{parts_apart}
use Rattle.txn_kv.specs.Timestamp.{version_of}
use Rattle.txn_kv.specs.declared.timestamp.Timestamp.{Timestamp}
use Rattle.txn_history.specs.Event.{Event}
use Rattle.txn_history.specs.Licence.{WasGiven}
use Rattle.txn_history.specs.Posted.{Posted}
use Rattle.txn_buffer.specs.Writes.{Write}
use Rattle.txn_commit.specs.Following.{Commits, KnowsCommits}
use Rattle.txn_commit.specs.Sending.{plan_of}
use Rattle.txn_commit.specs.Ways.{Ways}
use Rattle.txn_core.specs.Going.{IsUncommitted, IsUnsent, TransactionFits}
use Rattle.txn_core.specs.Status.{allows_data}
use Rattle.txn_core.specs.Transaction.{IsOrdered, Standing, begun}
use Rattle.txn_core.specs.declared.options.TransactionOptions.{TransactionOptions}
use Rattle.txn_core.specs.declared.transaction.Work.TheVariants.{Idle}

abbrev Below : {X : Type 0} → List ℕ → List (List ℕ × X) → Type 0
Below key entries = AllByRecursion (λ k. slice_cmp nat_cmp key k ≡ Less) (keys_of entries)

itself : (a : List ℕ) → slice_cmp nat_cmp a a ≡ Less → ⊥
itself a e = let f = sym e ∙ nat_list_cmp_total.antisymm a a ∙ ap ordering_reverse e in cc

-- a mutation is of one of the keys
of_entry : (a key : List ℕ) (e : Entry) (m : Mutation) → slice_cmp nat_cmp a key ≡ Less → IsAmong (mutations_of key e) m → slice_cmp nat_cmp a m.key ≡ Less
of_entry a key (entry.Cached v) m l i = absurd i
of_entry a key (entry.Locked v) m l (inl f) = subst (λ (x : Mutation). slice_cmp nat_cmp a x.key ≡ Less) f l
of_entry a key (entry.Locked v) m l (inr f) = absurd f
of_entry a key (entry.Put v) m l (inl f) = subst (λ (x : Mutation). slice_cmp nat_cmp a x.key ≡ Less) f l
of_entry a key (entry.Put v) m l (inr f) = absurd f
of_entry a key entry.Del m l (inl f) = subst (λ (x : Mutation). slice_cmp nat_cmp a x.key ≡ Less) f l
of_entry a key entry.Del m l (inr f) = absurd f
of_entry a key (entry.Insert v) m l (inl f) = subst (λ (x : Mutation). slice_cmp nat_cmp a x.key ≡ Less) f l
of_entry a key (entry.Insert v) m l (inr f) = absurd f
of_entry a key entry.CheckNotExist m l (inl f) = subst (λ (x : Mutation). slice_cmp nat_cmp a x.key ≡ Less) f l
of_entry a key entry.CheckNotExist m l (inr f) = absurd f

among_append : {X : Type 0} (xs ys : List X) (x : X) → IsAmong (xs ++ ys) x → IsAmong xs x ⊎ IsAmong ys x
among_append [] ys x i = inr i
among_append (z ∷ xs) ys x (inl e) = inl (inl e)
among_append (z ∷ xs) ys x (inr i) = elim (among_append xs ys x i) [ inl j ↦ inl (inr j) | inr j ↦ inr j ]

below_all : (a : List ℕ) (entries : List (List ℕ × Entry)) (m : Mutation) → Below a entries → IsAmong (mutations entries) m → slice_cmp nat_cmp a m.key ≡ Less
below_all a [] m b i = absurd i
below_all a (e ∷ rest) m b i = elim (among_append (mutations_of e.0 e.1) (mutations rest) m i) [
  | inl j ↦ of_entry a e.0 e.1 m b.0 j
  | inr j ↦ below_all a rest m b.1 j
]

unlike : (a b : List ℕ) → slice_cmp nat_cmp a b ≡ Less → key_eq a b ≡ false
unlike a b l = by (key_eq a b) refl
  where
    by : (x : Bool) → key_eq a b ≡ x → x ≡ false
    by true e = absurd (itself b (subst (λ k. slice_cmp nat_cmp k b ≡ Less) (same_key a b e) l))
    by false e = refl

first_below : {X : Type 0} (e : List ℕ × X) (entries : List (List ℕ × X)) → IsStrictlySortedBy (slice_cmp nat_cmp) (keys_of (e ∷ entries)) → Below e.0 entries
unfolding IsStrictlySortedBy
first_below e entries sorted = sorted.0

rest_sorted : {X : Type 0} (e : List ℕ × X) (entries : List (List ℕ × X)) → IsStrictlySortedBy (slice_cmp nat_cmp) (keys_of (e ∷ entries)) → IsStrictlySortedBy (slice_cmp nat_cmp) (keys_of entries)
unfolding IsStrictlySortedBy
rest_sorted e entries sorted = sorted.1

then_sorted : {X : Type 0} (e : List ℕ × X) (entries : List (List ℕ × X)) → Below e.0 entries → IsStrictlySortedBy (slice_cmp nat_cmp) (keys_of entries) → IsStrictlySortedBy (slice_cmp nat_cmp) (keys_of (e ∷ entries))
unfolding IsStrictlySortedBy
then_sorted e entries below sorted = (below, sorted)

none_sorted : (X : Type 0) → IsStrictlySortedBy (slice_cmp nat_cmp) (keys_of {X = X} [])
unfolding IsStrictlySortedBy
none_sorted X = tt

distinct : (entries : List (List ℕ × Entry)) → IsStrictlySortedBy (slice_cmp nat_cmp) (keys_of entries) → AreDistinct (mutations entries)
distinct [] s = tt
distinct (e ∷ rest) s = by e.1 (distinct rest (rest_sorted e rest s)) (λ n i. unlike e.0 n.key (below_all e.0 rest n (first_below e rest s) i))
  where
    by : (x : Entry) → AreDistinct (mutations rest) → ((n : Mutation) → IsAmong (mutations rest) n → key_eq e.0 n.key ≡ false) → AreDistinct (mutations_of e.0 x ++ mutations rest)
    by (entry.Cached v) later apart = later
    by (entry.Locked v) later apart = (apart, later)
    by (entry.Put v) later apart = (apart, later)
    by entry.Del later apart = (apart, later)
    by (entry.Insert v) later apart = (apart, later)
    by entry.CheckNotExist later apart = (apart, later)

own_mutations : (contents : Contents) (parts : CommitParts) → parts_of contents ≡ Some parts → parts.mutations ≡ mutations contents.entries
own_mutations contents parts e = by (named_primary contents (mutations contents.entries)) e
  where
    by : (found : Option (List ℕ)) → option_map (parts_under contents) found ≡ Some parts → parts.mutations ≡ mutations contents.entries
    by None e = absurd (cc)
    by (Some key) e = let f : parts ≡ parts_under contents key = cc in ap (λ (x : CommitParts). x.mutations) f

-- what a buffer whose keys are in order means to commit is well formed
pub formed : (contents : Contents) (parts : CommitParts) → IsStrictlySortedBy (slice_cmp nat_cmp) (keys_of contents.entries) → parts_of contents ≡ Some parts → IsFormed parts
formed contents parts s e = record {
  once = subst AreDistinct (sym (own_mutations contents parts e)) (distinct contents.entries s);
  apart = parts_apart contents parts e;
}

-- Keys stay in order.

below_trans : {X : Type 0} (a b : List ℕ) (entries : List (List ℕ × X)) → slice_cmp nat_cmp a b ≡ Less → Below b entries → Below a entries
below_trans a b [] l below = tt
below_trans a b (e ∷ entries) l below = (nat_list_cmp_total.trans a b e.0 l below.0, below_trans a b entries l below.1)

insert_below : {X : Type 0} (a key : List ℕ) (x : X) (entries : List (List ℕ × X)) → slice_cmp nat_cmp a key ≡ Less → Below a entries → Below a (insert_entry (slice_cmp nat_cmp) entries key x)
insert_below a key x [] l b = (l, tt)
insert_below {X} a key x (e ∷ es) l b = by (slice_cmp nat_cmp key e.0) (insert_below a key x es l b.1)
  where
    by : (o : Ordering) → Below a (insert_entry (slice_cmp nat_cmp) es key x) → Below {X = X} a (match_ordering o ((key, x) ∷ e ∷ es) ((e.0, x) ∷ es) (e ∷ insert_entry (slice_cmp nat_cmp) es key x))
    by Less later = (l, b)
    by Equal later = b
    by Greater later = (b.0, later)

inserted : {X : Type 0} (entries : List (List ℕ × X)) (key : List ℕ) (x : X) → IsStrictlySortedBy (slice_cmp nat_cmp) (keys_of entries) → IsStrictlySortedBy (slice_cmp nat_cmp) (keys_of (insert_entry (slice_cmp nat_cmp) entries key x))
inserted {X} [] key x s = then_sorted (key, x) [] tt (none_sorted X)
inserted {X} (e ∷ es) key x s = by (slice_cmp nat_cmp key e.0) refl (inserted es key x (rest_sorted e es s))
  where
    by : (o : Ordering) → slice_cmp nat_cmp key e.0 ≡ o → IsStrictlySortedBy (slice_cmp nat_cmp) (keys_of (insert_entry (slice_cmp nat_cmp) es key x))
        → IsStrictlySortedBy (slice_cmp nat_cmp) (keys_of {X = X} (match_ordering o ((key, x) ∷ e ∷ es) ((e.0, x) ∷ es) (e ∷ insert_entry (slice_cmp nat_cmp) es key x)))
    by Less l later = then_sorted (key, x) (e ∷ es) (l, below_trans key e.0 es l (first_below e es s)) s
    by Equal l later = then_sorted (e.0, x) es (first_below e es s) (rest_sorted e es s)
    by Greater l later = then_sorted e (insert_entry (slice_cmp nat_cmp) es key x) (insert_below e.0 key x es (nat_list_cmp_total.antisymm e.0 key ∙ ap ordering_reverse l) (first_below e es s)) later

pub written_ordered : (contents : Contents) (key : List ℕ) (write : Write) → IsOrdered contents → IsOrdered (with_write contents key write)
written_ordered contents key write s = by (sets_primary (entry_of write))
  where
    by : (b : Bool) → IsStrictlySortedBy (slice_cmp nat_cmp) (keys_of (insert_entry (slice_cmp nat_cmp) (cond b (with_primary contents key) contents).entries key (entry_of write)))
    by true = inserted contents.entries key (entry_of write) s
    by false = inserted contents.entries key (entry_of write) s

pub locked_ordered : (contents : Contents) (key : List ℕ) → IsOrdered contents → IsOrdered (locked contents key)
locked_ordered contents key s = by (entry_at contents key)
  where
    by : (found : Option Entry) → IsOrdered (locked_at found (with_primary contents key) key)
    by None = inserted contents.entries key (entry.Locked None) s
    by (Some e) = subst (λ (ks : List (List ℕ)). IsStrictlySortedBy (slice_cmp nat_cmp) ks) (sym (keys-set_value (is_at (slice_cmp nat_cmp key)) contents.entries (lock_step e))) s

-- A transaction that may be written can have arisen so, whatever its buffer holds.

nothing_known : (plan : Plan) (s : ℕ) (c : Commits) (h : List Event) → IsUnsent s c h → KnowsCommits plan s c h
nothing_known plan s c h u = rw u.none (record {
  named = λ d w. absurd (u.never w.0 w.1 w.2 w.3);
  since = λ t e. absurd (cc);
  waiting = λ t a. absurd a;
  losing = λ t e. absurd (cc);
  all = λ t r g p. absurd (u.never t r g p.start);
})

module _ {P : Type 0} where
  pub begun_fits : (w : Ways P) (start : Timestamp) (options : TransactionOptions) (now : ℕ) (o : Posted) (h : List Event)
      → WasGiven h (version_of start) → IsUncommitted (version_of start) h → TransactionFits w (begun start options now) o h
  begun_fits w start options now o h g u = record {
    given = g;
    unsent = λ a. record { none = refl; never = u };
    settled = λ a. refl;
    undone = λ a parts e. absurd (cc);
    at = record { of_parts = λ parts e. absurd (cc); empty = λ e. refl };
  }

  pub written_fits : (w : Ways P) (t : Standing P) (contents : Contents) (o : Posted) (h : List Event)
      → allows_data t.status ≡ true → t.work ≡ Idle → IsOrdered contents → TransactionFits w t o h → TransactionFits w (record t { contents = contents }) o h
  written_fits w t contents o h a i s f = record {
    given = f.given;
    unsent = f.unsent;
    settled = f.settled;
    undone = λ r. absurd (let no = sym a ∙ ap allows_data r in cc);
    at = rw i (record {
      of_parts = λ parts e. record {
        formed = formed contents parts s e;
        knows = nothing_known (plan_of parts) (version_of t.start) t.commits h (f.unsent a);
        ready = λ d w. absurd ((f.unsent a).never w.0 w.1 w.2 w.3);
      };
      empty = λ e. (f.unsent a).none;
    });
  }
