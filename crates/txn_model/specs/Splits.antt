-- Regions that can be split.
use Rattle.std.specs.Prelude.{ℕ, ◌+◌, ◌<◌, ◌≤◌, ◌^◌, Bool, List, [], ◌∷◌, length}
use Rattle.txn_model.specs.declared.region.StoredRegion.{StoredRegion}
use Rattle.txn_model.specs.Cells.{Key}
use Rattle.txn_model.specs.Ranges.{in_range}

-- the region's range holds the key
abbrev pub holds : Key → StoredRegion → Bool
holds k g = in_range g.start_key g.end_key k

-- each version has a next one
abbrev pub VersionsFit : List StoredRegion → Type 0
VersionsFit [] = Unit {0}
VersionsFit (g ∷ gs) = (g.epoch.version + 1 < 2 ^ 64) × VersionsFit gs

-- each version is at most n
abbrev pub VersionsUpTo : ℕ → List StoredRegion → Type 0
VersionsUpTo n [] = Unit {0}
VersionsUpTo n (g ∷ gs) = (g.epoch.version ≤ n) × VersionsUpTo n gs

-- each version is at most the number of regions
abbrev pub AreCounted : List StoredRegion → Type 0
AreCounted gs = VersionsUpTo (length gs) gs
