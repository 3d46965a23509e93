-- Mutations of which no two are of one key stay so when they are ordered and cut.
use Rattle.std.proofs.Common.{◌≡◌, Bool, true, false, List, [], ◌∷◌, ◌++◌, refl, sym, ◌∙◌, subst, inl, inr}
use Rattle.std.specs.Prelude.{cond, ◌⊎◌}
use Rattle.std.proofs.lemmas.Cmp.{nat_list_eq_equiv}
use Rattle.std.proofs.lemmas.List.Concat.{flat_map-append}
use Rattle.txn_history.specs.Among.{IsAmong}
use Rattle.txn_history.specs.Plan.{AreDistinct, key_eq}
use Rattle.txn_kv.specs.declared.message.Mutation.{Mutation}
use Rattle.txn_region.specs.Regions.{Key}
use Rattle.txn_shard.specs.Batches.{joined}
use Rattle.txn_shard.specs.Cutting.{among_left}
use Rattle.txn_shard.specs.Order.{comes_before, in_order, placed}
use Rattle.txn_shard.specs.Shards.{AreJoined}
use Rattle.txn_shard.specs.Sorted.{among_in_order, among_placed}

abbrev key_of : Mutation → Key
key_of m = m.key

apart : (a b : Key) → key_eq a b ≡ false → key_eq b a ≡ false
apart a b e = nat_list_eq_equiv.symm b a ∙ e

distinct_placed : (x : Mutation) (ys : List Mutation) → AreDistinct (x ∷ ys) → AreDistinct (placed key_of x ys)
distinct_placed x [] d = d
distinct_placed x (y ∷ ys) d = by (comes_before key_of y x) (distinct_placed x ys ((λ n i. d.0 n (inr i)), d.1.1))
  where
    other : (n : Mutation) → (x ≡ n) ⊎ IsAmong ys n → key_eq y.key n.key ≡ false
    other n (inl e) = subst (λ (m : Mutation). key_eq y.key m.key ≡ false) e (apart x.key y.key (d.0 y (inl refl)))
    other n (inr i) = d.1.0 n i

    by : (b : Bool) → AreDistinct (placed key_of x ys) → AreDistinct (cond b (y ∷ placed key_of x ys) (x ∷ y ∷ ys))
    by true more = ((λ n i. other n (among_placed key_of x ys n i)), more)
    by false more = d

distinct_in_order : (ms : List Mutation) → AreDistinct ms → AreDistinct (in_order key_of ms)
distinct_in_order [] d = tt
distinct_in_order (m ∷ ms) d = distinct_placed m (in_order key_of ms) ((λ n i. d.0 n (among_in_order key_of ms n i)), distinct_in_order ms d.1)

distinct_left : (xs ys : List Mutation) → AreDistinct (xs ++ ys) → AreDistinct xs
distinct_left [] ys d = tt
distinct_left (x ∷ xs) ys d = ((λ n i. d.0 n (among_left xs ys n i)), distinct_left xs ys d.1)

distinct_right : (xs ys : List Mutation) → AreDistinct (xs ++ ys) → AreDistinct ys
distinct_right [] ys d = d
distinct_right (x ∷ xs) ys d = distinct_right xs ys d.1

-- so in each piece of mutations in order
pub piece_distinct : (ms piece : List Mutation) (before behind : List (List Mutation)) → AreJoined (in_order key_of ms) (before ++ piece ∷ behind) → AreDistinct ms → AreDistinct piece
piece_distinct ms piece before behind j d =
    distinct_left piece (joined behind) (distinct_right (joined before) (piece ++ joined behind)
    (subst AreDistinct (sym j ∙ flat_map-append (λ l. l) before (piece ∷ behind)) (distinct_in_order ms d)))
