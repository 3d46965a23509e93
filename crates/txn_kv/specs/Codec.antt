-- The encoding of keys that keeps their order: groups of eight bytes, each followed by a byte that says how many of
-- its bytes are padding.
use Rattle.std.specs.Prelude.{◌≡◌, ℕ, ◌+◌, ◌-◌, ◌*◌, ◌/◌, List, [], ◌∷◌, ◌++◌, Bool, cond, if◌then◌else◌, ◌&&◌, ◌==◌, ◌<◌, ◌⊎◌, nat_le, length, drop, map, replicate, Result, Ok, Err}
use Rattle.std.specs.List.{All, list_all}
use Rattle.txn_kv.specs.declared.errors.Error.{Error}
use Rattle.txn_kv.specs.declared.errors.Error.TheVariants.{InternalError}
use Rattle.txn_kv.specs.declared.errors.Internal.{Internal}
use Rattle.txn_kv.specs.declared.errors.Internal.TheVariants.{BadEnd, BadPadding}

-- numbers that are bytes
abbrev pub AreBytes : List ℕ → Type 0
AreBytes = All (λ byte. byte < 256)

-- the last group, of no more than seven bytes: its bytes, padding up to eight, and 255 minus the padding
abbrev pub last_group : List ℕ → List ℕ
last_group bytes = bytes ++ replicate (8 - length bytes) 0 ++ (247 + length bytes) ∷ []

-- the ascending encoding of a key: while it has eight bytes or more, they and 255 come first
unfoldable pub encoded : List ℕ → List ℕ
encoded (a ∷ b ∷ c ∷ d ∷ e ∷ f ∷ g ∷ h ∷ rest) = a ∷ b ∷ c ∷ d ∷ e ∷ f ∷ g ∷ h ∷ 255 ∷ encoded rest
encoded bytes = last_group bytes

-- every byte complemented
abbrev pub complemented : List ℕ → List ℕ
complemented = map (λ byte. 255 - byte)

-- the encoding in ascending or descending order
abbrev pub encoding : Bool → List ℕ → List ℕ
encoding descending key = cond descending (complemented (encoded key)) (encoded key)

-- bytes as the ascending encoding has them
abbrev pub ascending : Bool → List ℕ → List ℕ
ascending descending bytes = cond descending (complemented bytes) bytes

-- the group at a place closes a key: how long that key is, or why the group is refused
abbrev pub closed_length : ℕ → List ℕ → ℕ → Result ℕ Internal
closed_length at group marker =
    if nat_le 247 marker && list_all (λ byte. byte == 0) (drop (marker - 247) group)
    then Ok (at / 9 * 8 + (marker - 247))
    else Err (BadPadding at)

-- the first group, from the place on, that is not followed by 255 closes the key
unfoldable pub key_length : ℕ → List ℕ → Result ℕ Internal
key_length at (a ∷ b ∷ c ∷ d ∷ e ∷ f ∷ g ∷ h ∷ marker ∷ rest) =
    if marker == 255 then key_length (at + 9) rest
    else closed_length at (a ∷ b ∷ c ∷ d ∷ e ∷ f ∷ g ∷ h ∷ []) marker
key_length at _ = Err (BadEnd at)

-- the error says why the bytes encode no key
abbrev pub IsRefusal : List ℕ → Error → Type 0
IsRefusal bytes error = (what : Internal) × (key_length 0 bytes ≡ Err what) × (error ≡ InternalError what)

-- the bytes begin with the encoding of the key, or there are none and the key is empty
abbrev pub BeginsWithKey : Bool → List ℕ → List ℕ → Type 0
BeginsWithKey descending bytes key =
    ((bytes ≡ []) × (key ≡ [])) ⊎ ((rest : List ℕ) × (ascending descending bytes ≡ encoded key ++ rest))
