-- What is read of a list of pairs through the writes of a transaction.
use Rattle.std.specs.Prelude.{ℕ, List, [], ◌∷◌, Bool, true, false, take, reverse}
use Rattle.std.specs.BTreeMap.{insert_entry, is_at}
use Rattle.std.specs.Cmp.Lexicographic.{slice_cmp}
use Rattle.std.specs.Map.{remove_entry}
use Rattle.std.specs.Ordering.{nat_cmp}
use Rattle.txn_buffer.specs.Writes.{Write, Writes, put, insert, delete, check}

-- keys with their values
abbrev pub Pairs : Type 0
Pairs = List (List ℕ × List ℕ)

abbrev pub with_pair : Pairs → List ℕ → List ℕ → Pairs
with_pair pairs key value = insert_entry (slice_cmp nat_cmp) pairs key value

abbrev pub with_pairs : Pairs → Pairs → Pairs
with_pairs pairs [] = pairs
with_pairs pairs (p ∷ more) = with_pairs (with_pair pairs p.0 p.1) more

-- the pairs in key order: of two pairs of one key the later is kept
abbrev pub in_key_order : Pairs → Pairs
in_key_order pairs = with_pairs [] pairs

-- a key that is put or inserted has that value, and one that is deleted or checked has none
abbrev pub over : Pairs → List ℕ → Write → Pairs
over pairs key (put value) = with_pair pairs key value
over pairs key (insert value) = with_pair pairs key value
over pairs key delete = remove_entry (is_at (slice_cmp nat_cmp key)) pairs
over pairs key check = remove_entry (is_at (slice_cmp nat_cmp key)) pairs

abbrev pub overlaid : Pairs → Writes → Pairs
overlaid pairs [] = pairs
overlaid pairs (write ∷ writes) = overlaid (over pairs write.0 write.1) writes

-- the pairs without the keys of the writes, with each that is put or inserted, in key order
abbrev pub overlay : Pairs → Writes → Pairs
overlay pairs writes = overlaid (in_key_order pairs) writes

-- a list from its low end or from its high end
abbrev pub directed : {X : Type 0} → Bool → List X → List X
directed false xs = xs
directed true xs = reverse xs

-- the first of the pairs, from the low end or from the high end
abbrev pub first_pairs : ℕ → Bool → Pairs → Pairs
first_pairs limit is_reversed pairs = take limit (directed is_reversed pairs)
