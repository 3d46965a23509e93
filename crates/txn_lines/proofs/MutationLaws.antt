-- The items of a `mutate` line.
use Rattle.std.proofs.Common.{◌≡◌, ℕ, suc, zero, ◌<◌, ◌≤◌, Bool, true, false, cond, List, [], ◌∷◌, ◌++◌, length, map, Option, Some, None, refl, sym, ap, subst, ◌∙◌, append_assoc, arith}
use Rattle.std.specs.Prelude.{codes, bytes_eq}
use Rattle.std.specs.List.{flat_map}
use Rattle.std.proofs.lemmas.List.{append-nil}
use Rattle.std.proofs.lemmas.Slice.Eq.{bytes_eq-Decides}
use Rattle.txn_kv.specs.declared.message.Mutation.{Mutation}
use Rattle.txn_kv.specs.declared.message.Op.{Op}
use Rattle.txn_kv.specs.declared.message.Op.TheVariants as ops
use Rattle.txn_lines.specs.Grammar.{Form, exactly, byte_string, AreWordsOf, Item, put, del, lock, insert, check, item_forms, plain_mutation, mutation_of}
use Rattle.txn_lines.specs.Reading.{◌>>=◌, Words, next_string, with_value, without_value, mutation_from, next_mutation, mutations_within, mutations_after, mutations_in}
use Rattle.txn_lines.proofs.Options.{bind_some, some_is}
use Rattle.txn_lines.proofs.WordLaws.{string_then, string_next, string_shortens}

-- ---- one item

-- the item that stands before the rest
record IsItem (kind : List ℕ) (words : Words) (m : Mutation) (rest : Words) : Type 0 where
  item : Item
  mutation : mutation_of item ≡ m
  spelled : (fs : List Form) → AreWordsOf fs rest → AreWordsOf (item_forms item ++ fs) (kind ∷ words)
  shorter : length rest < length words

two_strings : (op : Op) (words : Words) (m : Mutation) (rest : Words) → with_value op words ≡ Some (m, rest)
    → (key value : List ℕ) × (plain_mutation op key value ≡ m) × ((fs : List Form) → AreWordsOf fs rest → AreWordsOf (byte_string key ∷ byte_string value ∷ fs) words) × (length rest < length words)
unfolding with_value
two_strings op words m rest e =
    let k = bind_some (next_string words) (λ key. next_string key.1 >>= λ value. Some (plain_mutation op key.0 value.0, value.1)) (m, rest) e in
    let v = bind_some (next_string k.0.1) (λ value. Some (plain_mutation op k.0.0 value.0, value.1)) (m, rest) k.2 in
    let is = some_is (plain_mutation op k.0.0 v.0.0, v.0.1) (m, rest) v.2 in
    let m_is : plain_mutation op k.0.0 v.0.0 ≡ m = ap (λ (p : Mutation × Words). p.0) is in
    let rest_is : v.0.1 ≡ rest = ap (λ (p : Mutation × Words). p.1) is in (
      k.0.0,
      v.0.0,
      m_is,
      (λ fs h. string_then (byte_string v.0.0 ∷ fs) words k.0.0 k.0.1 k.1 (string_then fs k.0.1 v.0.0 v.0.1 v.1 (subst (AreWordsOf fs) (sym rest_is) h))),
      rw (← rest_is) (omega (arith, string_shortens words k.0.0 k.0.1 k.1, string_shortens k.0.1 v.0.0 v.0.1 v.1)),
    )

one_string : (op : Op) (words : Words) (m : Mutation) (rest : Words) → without_value op words ≡ Some (m, rest)
    → (key : List ℕ) × (plain_mutation op key [] ≡ m) × ((fs : List Form) → AreWordsOf fs rest → AreWordsOf (byte_string key ∷ fs) words) × (length rest < length words)
unfolding without_value
one_string op words m rest e =
    let k = bind_some (next_string words) (λ key. Some (plain_mutation op key.0 [], key.1)) (m, rest) e in
    let is = some_is (plain_mutation op k.0.0 [], k.0.1) (m, rest) k.2 in
    let m_is : plain_mutation op k.0.0 [] ≡ m = ap (λ (p : Mutation × Words). p.0) is in
    let rest_is : k.0.1 ≡ rest = ap (λ (p : Mutation × Words). p.1) is in (
      k.0.0,
      m_is,
      (λ fs h. string_then fs words k.0.0 k.0.1 k.1 (subst (AreWordsOf fs) (sym rest_is) h)),
      rw (← rest_is) (string_shortens words k.0.0 k.0.1 k.1),
    )

-- a test of the first word of an item
chosen : (kind text : List ℕ) (one other : Option (Mutation × Words)) (x : Mutation × Words) (P : Type 0) → (kind ≡ text → one ≡ Some x → P) → (other ≡ Some x → P) → cond (bytes_eq kind text) one other ≡ Some x → P
chosen kind text one other x P so otherwise e = go (bytes_eq kind text) refl e
  where
    go : (b : Bool) → bytes_eq kind text ≡ b → cond b one other ≡ Some x → P
    go true test is = so ((bytes_eq-Decides kind text).0 test) is
    go false test is = otherwise is

with_value_takes : (make : List ℕ → List ℕ → Item) (op : Op) (text kind : List ℕ) (words : Words) (m : Mutation) (rest : Words)
    → ((key value : List ℕ) → item_forms (make key value) ≡ exactly text ∷ byte_string key ∷ byte_string value ∷ []) → ((key value : List ℕ) → mutation_of (make key value) ≡ plain_mutation op key value)
    → kind ≡ text → with_value op words ≡ Some (m, rest) → IsItem kind words m rest
with_value_takes make op text kind words m rest forms mutation is e =
    let two = two_strings op words m rest e in
    record {
      item = make two.0 two.1;
      mutation = mutation two.0 two.1 ∙ two.2;
      spelled = λ fs h. rw (forms two.0 two.1) (is, two.3 fs h);
      shorter = two.4;
    }

without_value_takes : (make : List ℕ → Item) (op : Op) (text kind : List ℕ) (words : Words) (m : Mutation) (rest : Words)
    → ((key : List ℕ) → item_forms (make key) ≡ exactly text ∷ byte_string key ∷ []) → ((key : List ℕ) → mutation_of (make key) ≡ plain_mutation op key [])
    → kind ≡ text → without_value op words ≡ Some (m, rest) → IsItem kind words m rest
without_value_takes make op text kind words m rest forms mutation is e =
    let one = one_string op words m rest e in
    record {
      item = make one.0;
      mutation = mutation one.0 ∙ one.1;
      spelled = λ fs h. rw (forms one.0) (is, one.2 fs h);
      shorter = one.3;
    }

from_takes : (kind : List ℕ) (words : Words) (m : Mutation) (rest : Words) → mutation_from kind words ≡ Some (m, rest) → IsItem kind words m rest
from_takes kind words m rest =
    let P = IsItem kind words m rest in
    let two = λ (make : List ℕ → List ℕ → Item) (op : Op) (text : List ℕ). with_value_takes make op text kind words m rest in
    let one = λ (make : List ℕ → Item) (op : Op) (text : List ℕ). without_value_takes make op text kind words m rest in
    chosen kind (codes "put") _ _ (m, rest) P (two put ops.Put (codes "put") (λ k v. refl) (λ k v. refl))
    (chosen kind (codes "insert") _ _ (m, rest) P (two insert ops.Insert (codes "insert") (λ k v. refl) (λ k v. refl))
    (chosen kind (codes "del") _ _ (m, rest) P (one del ops.Del (codes "del") (λ k. refl) (λ k. refl))
    (chosen kind (codes "lock") _ _ (m, rest) P (one lock ops.Lock (codes "lock") (λ k. refl) (λ k. refl))
    (chosen kind (codes "check") _ None (m, rest) P (one check ops.CheckNotExists (codes "check") (λ k. refl) (λ k. refl))
    (λ none. absurd cc)))))

item_takes : (w : List ℕ) (ws : Words) (m : Mutation) (rest : Words) → next_mutation (w ∷ ws) ≡ Some (m, rest) → IsItem w ws m rest
unfolding next_mutation
item_takes w ws m rest e = from_takes w ws m rest e

-- what is read next is this item
record ItemIsNext (item : Item) (fs : List Form) (words : Words) : Type 0 where
  rest : Words
  next : next_mutation words ≡ Some (mutation_of item, rest)
  follows : AreWordsOf fs rest
  shorter : length rest < length words

two_next : (op : Op) (key value : List ℕ) (fs : List Form) (words : Words) → AreWordsOf (byte_string key ∷ byte_string value ∷ fs) words
    → (rest : Words) × (with_value op words ≡ Some (plain_mutation op key value, rest)) × AreWordsOf fs rest × (length rest < length words)
unfolding with_value
two_next op key value fs words h =
    let k = string_next (byte_string value ∷ fs) words key h in
    let v = string_next fs k.0 value k.2 in
    (v.0, rw (k.1, v.1) refl, v.2, omega (arith, string_shortens words key k.0 k.1, string_shortens k.0 value v.0 v.1))

one_next : (op : Op) (key : List ℕ) (fs : List Form) (words : Words) → AreWordsOf (byte_string key ∷ fs) words
    → (rest : Words) × (without_value op words ≡ Some (plain_mutation op key [], rest)) × AreWordsOf fs rest × (length rest < length words)
unfolding without_value
one_next op key fs words h =
    let k = string_next fs words key h in
    (k.0, rw k.1 refl, k.2, string_shortens words key k.0 k.1)

item_next : (item : Item) (fs : List Form) (words : Words) → AreWordsOf (item_forms item ++ fs) words → ItemIsNext item fs words
unfolding next_mutation
item_next (put key value) fs [] h = absurd h
item_next (put key value) fs (w ∷ ws) h =
    let n = two_next ops.Put key value fs ws h.1 in
    record { rest = n.0; next = rw h.0 n.1; follows = n.2; shorter = omega (arith, n.3) }
item_next (insert key value) fs [] h = absurd h
item_next (insert key value) fs (w ∷ ws) h =
    let n = two_next ops.Insert key value fs ws h.1 in
    record { rest = n.0; next = rw h.0 n.1; follows = n.2; shorter = omega (arith, n.3) }
item_next (del key) fs [] h = absurd h
item_next (del key) fs (w ∷ ws) h =
    let n = one_next ops.Del key fs ws h.1 in
    record { rest = n.0; next = rw h.0 n.1; follows = n.2; shorter = omega (arith, n.3) }
item_next (lock key) fs [] h = absurd h
item_next (lock key) fs (w ∷ ws) h =
    let n = one_next ops.Lock key fs ws h.1 in
    record { rest = n.0; next = rw h.0 n.1; follows = n.2; shorter = omega (arith, n.3) }
item_next (check key) fs [] h = absurd h
item_next (check key) fs (w ∷ ws) h =
    let n = one_next ops.CheckNotExists key fs ws h.1 in
    record { rest = n.0; next = rw h.0 n.1; follows = n.2; shorter = omega (arith, n.3) }

-- ---- all of them

record IsMore (front : List Mutation) (words : Words) (all : List Mutation) : Type 0 where
  items : List Item
  all_is : front ++ map mutation_of items ≡ all
  spelled : AreWordsOf (flat_map item_forms items) words

within_takes : (n : ℕ) (words : Words) (front all : List Mutation) → mutations_within n front words ≡ Some all → IsMore front words all
within_takes n [] front all e = record { items = []; all_is = append-nil front ∙ some_is front all e; spelled = tt }
within_takes zero (w ∷ ws) front all e = absurd cc
within_takes (suc n) (w ∷ ws) front all e =
    let m = bind_some (next_mutation (w ∷ ws)) (λ m. mutations_within n (front ++ m.0 ∷ []) m.1) all e in
    let one = item_takes w ws m.0.0 m.0.1 m.1 in
    let later = within_takes n m.0.1 (front ++ m.0.0 ∷ []) all m.2 in
    record {
      items = one.item ∷ later.items;
      all_is = ap (λ (x : Mutation). front ++ x ∷ map mutation_of later.items) one.mutation ∙ sym (append_assoc front (m.0.0 ∷ []) (map mutation_of later.items)) ∙ later.all_is;
      spelled = one.spelled (flat_map item_forms later.items) later.spelled;
    }

within_again : (n : ℕ) (items : List Item) (front : List Mutation) (words : Words) → length words ≤ n → AreWordsOf (flat_map item_forms items) words → mutations_within n front words ≡ Some (front ++ map mutation_of items)
within_again n [] front [] le h = ap (λ (all : List Mutation). Some all) (sym (append-nil front))
within_again n [] front (w ∷ ws) le h = absurd h
within_again n (item ∷ items) front [] le h =
    let one = item_next item (flat_map item_forms items) [] h in
    absurd (omega (arith, one.shorter))
within_again zero (item ∷ items) front (w ∷ ws) le h = absurd (omega arith)
within_again (suc n) (item ∷ items) front (w ∷ ws) le h =
    let one = item_next item (flat_map item_forms items) (w ∷ ws) h in
    let later = within_again n items (front ++ mutation_of item ∷ []) one.rest (omega (arith, one.shorter, le)) one.follows in
    rw one.next (later ∙ ap (λ (all : List Mutation). Some all) (append_assoc front (mutation_of item ∷ []) (map mutation_of items)))

same_steps : (n k : ℕ) (front : List Mutation) (w : List ℕ) (ws : Words) → ((more : List Mutation) (rest : Words) → length rest < length (w ∷ ws) → mutations_within n more rest ≡ mutations_within k more rest)
    → mutations_within (suc n) front (w ∷ ws) ≡ mutations_within (suc k) front (w ∷ ws)
same_steps n k front w ws later = go (next_mutation (w ∷ ws)) refl
  where
    go : (read : Option (Mutation × Words)) → next_mutation (w ∷ ws) ≡ read → (read >>= λ m. mutations_within n (front ++ m.0 ∷ []) m.1) ≡ (read >>= λ m. mutations_within k (front ++ m.0 ∷ []) m.1)
    go None e = refl
    go (Some m) e =
        let one = item_takes w ws m.0 m.1 e in
        later (front ++ m.0 ∷ []) m.1 (omega (arith, one.shorter))

-- the bound only has to be large enough
pub same_within : (n k : ℕ) (front : List Mutation) (words : Words) → length words ≤ n → length words ≤ k → mutations_within n front words ≡ mutations_within k front words
same_within n k front [] le_n le_k = refl
same_within zero k front (w ∷ ws) le_n le_k = absurd (omega arith)
same_within (suc n) zero front (w ∷ ws) le_n le_k = absurd (omega arith)
same_within (suc n) (suc k) front (w ∷ ws) le_n le_k = same_steps n k front w ws (λ (more : List Mutation) (rest : Words) (shorter : length rest < length (w ∷ ws)). same_within n k more rest (omega (arith, shorter, le_n)) (omega (arith, shorter, le_k)))

some_item : (w : List ℕ) (ws : Words) (items : List Item) → AreWordsOf (flat_map item_forms items) (w ∷ ws) → 0 < length items
some_item w ws [] h = absurd h
some_item w ws (item ∷ items) h = omega arith

pub record AreItems (words : Words) (mutations : List Mutation) : Type 0 where
  pub items : List Item
  pub some : 0 < length items
  pub mutations_is : mutations ≡ map mutation_of items
  pub spelled : AreWordsOf (flat_map item_forms items) words

pub mutations_take : (words : Words) (mutations : List Mutation) → mutations_in words ≡ Some mutations → AreItems words mutations
unfolding mutations_in
mutations_take [] mutations e = absurd cc
mutations_take (w ∷ ws) mutations e =
    let read = within_takes (length (w ∷ ws)) (w ∷ ws) [] mutations e in
    record { items = read.items; some = some_item w ws read.items read.spelled; mutations_is = sym read.all_is; spelled = read.spelled }

no_items : (items : List Item) → 0 < length items → AreWordsOf (flat_map item_forms items) [] → ⊥
no_items [] some h = absurd (omega arith)
no_items (item ∷ items) some h =
    let one = item_next item (flat_map item_forms items) [] h in
    omega (arith, one.shorter)

pub mutations_again : (words : Words) (items : List Item) → 0 < length items → AreWordsOf (flat_map item_forms items) words → mutations_in words ≡ Some (map mutation_of items)
unfolding mutations_in
mutations_again [] items some h = absurd (no_items items some h)
mutations_again (w ∷ ws) items some h = within_again (length (w ∷ ws)) items [] (w ∷ ws) (omega arith) h

-- ---- a loop that reads them

pub mutation_shortens : (words : Words) (m : Mutation) (after : Words) → next_mutation words ≡ Some (m, after) → length after < length words
unfolding next_mutation
mutation_shortens [] m after e = absurd cc
mutation_shortens (w ∷ ws) m after e = let one = from_takes w ws m after e in omega (arith, one.shorter)

pub goes_on : (front : List Mutation) (words : Words) (m : Mutation) (after : Words) (all : Option (List Mutation)) → next_mutation words ≡ Some (m, after) → mutations_after front words ≡ all → mutations_after (front ++ m ∷ []) after ≡ all
goes_on front [] m after all e so_far = absurd (omega (arith, mutation_shortens [] m after e))
goes_on front (w ∷ ws) m after all e so_far =
    let step : mutations_after front (w ∷ ws) ≡ mutations_within (length ws) (front ++ m ∷ []) after = rw e refl in
    let shorter : length after ≤ length ws = omega (arith, mutation_shortens (w ∷ ws) m after e) in
    same_within (length after) (length ws) (front ++ m ∷ []) after (omega arith) shorter ∙ sym step ∙ so_far
