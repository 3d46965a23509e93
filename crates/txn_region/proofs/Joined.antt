-- Groups one after another, joined.
use Rattle.std.proofs.Common.{◌≡◌, ℕ, ◌<◌, ◌≤◌, List, [], ◌∷◌, ◌++◌, length, drop, sym, ap, ◌∙◌, arith}
use Rattle.std.specs.Prelude.{◌||◌, Option, Some, None}
use Rattle.std.specs.List.{slice_range}
use Rattle.std.proofs.lemmas.List.{drop_all}
use Rattle.std.proofs.lemmas.List.Folds.{drop_split}
use Rattle.txn_kv.specs.declared.message.KeyRange.{KeyRange}
use Rattle.txn_kv.specs.declared.message.Region.{Region}
use Rattle.txn_region.specs.Groups.{in_groups, in_pieces, in_ranges, is_between, is_beyond, joined_keys, AreKeyGroups, AreRangeGroups, AreRangePieces}
use Rattle.txn_region.specs.Regions.{Key}

pub keys_joined : (keys : List Key) (first : ℕ) (groups : List (Region × ℕ)) → AreKeyGroups keys first groups → joined_keys keys first groups ≡ drop first keys
keys_joined keys first [] all = let over : length keys ≤ first = omega arith in sym (drop_all first keys over)
keys_joined keys first (g ∷ gs) all =
    let later : first < g.1 = all.0.some in
    let before : first ≤ g.1 = omega arith in
    ap (λ rest. slice_range keys first g.1 ++ rest) (keys_joined keys g.1 gs all.1) ∙ sym (drop_split keys first g.1 before)

pub ranges_joined : (ranges : List KeyRange) (groups : List (Region × List KeyRange)) → AreRangeGroups ranges groups → (key : Key) → in_ranges ranges key ≡ in_groups groups key
ranges_joined ranges [] all key = ap (λ rs. in_ranges rs key) all
ranges_joined ranges (g ∷ gs) all key = (all.1).joined key ∙ ap (λ b. in_ranges g.1 key || b) (ranges_joined all.0 gs all.2 key)

pub pieces_joined : (first : Option Key) (end : Key) (pieces : List (Region × (Key × Key))) → AreRangePieces first end pieces → (key : Key) → is_beyond first end key ≡ in_pieces pieces key
pieces_joined None end pieces all key = sym (ap (λ ps. in_pieces ps key) all)
pieces_joined (Some first) end [] all key = absurd all
pieces_joined (Some first) end (p ∷ ps) all key = (all.1).joined key ∙ ap (λ b. is_between p.1.0 p.1.1 key || b) (pieces_joined all.0 end ps all.2 key)
