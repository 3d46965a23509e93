-- What `key_length` says of the groups of an encoding.
use Rattle.std.proofs.Common.{◌≡◌, ℕ, zero, suc, ◌+◌, ◌-◌, ◌*◌, ◌/◌, ◌<◌, ◌≤◌, List, [], ◌∷◌, ◌++◌, length, take, drop, get_or, Result, Ok, Err, true, false, refl, sym, ap, ◌∙◌, ⊎_elim, le_refl, append_assoc, length-append, length-drop, arith}
use Rattle.std.specs.Prelude.{◌==◌, ◌&&◌, if◌then◌else◌, nat_le, replicate}
use Rattle.std.specs.List.{list_all}
use Rattle.std.specs.Result.{OnErr}
use Rattle.std.proofs.lemmas.Bool.{cases_Bool, cases_lt}
use Rattle.std.proofs.lemmas.Bool.Decides.{nat_tests}
use Rattle.std.proofs.lemmas.List.{ext_get_or, length-replicate, take-append-drop, length-take-le, get_or_append_left, get_or-append-add, get_or-take, get_or-drop}
use Rattle.txn_kv.specs.Codec.{closed_length, complemented, encoded, key_length, last_group}
use Rattle.txn_kv.proofs.Encoding.{encoded-full, encoded-last}
use Rattle.txn_kv.specs.declared.errors.Internal.{Internal}
use Rattle.txn_kv.specs.declared.errors.Internal.TheVariants.{BadEnd}

-- nine bytes or more: a group and its marker
pub key_length-group
    : (at : ℕ) (bytes : List ℕ)
    → 9 ≤ length bytes
    → key_length at bytes
    ≡ (if get_or bytes 8 0 == 255 then key_length (at + 9) (drop 9 bytes)
    else closed_length at (take 8 bytes) (get_or bytes 8 0))
unfolding key_length
key_length-group at (a ∷ b ∷ c ∷ d ∷ e ∷ f ∷ g ∷ h ∷ marker ∷ rest) le = refl
key_length-group at [] le = absurd (omega arith)
key_length-group at (a ∷ []) le = absurd (omega arith)
key_length-group at (a ∷ b ∷ []) le = absurd (omega arith)
key_length-group at (a ∷ b ∷ c ∷ []) le = absurd (omega arith)
key_length-group at (a ∷ b ∷ c ∷ d ∷ []) le = absurd (omega arith)
key_length-group at (a ∷ b ∷ c ∷ d ∷ e ∷ []) le = absurd (omega arith)
key_length-group at (a ∷ b ∷ c ∷ d ∷ e ∷ f ∷ []) le = absurd (omega arith)
key_length-group at (a ∷ b ∷ c ∷ d ∷ e ∷ f ∷ g ∷ []) le = absurd (omega arith)
key_length-group at (a ∷ b ∷ c ∷ d ∷ e ∷ f ∷ g ∷ h ∷ []) le = absurd (omega arith)

-- fewer have no marker
pub key_length-short : (at : ℕ) (bytes : List ℕ) → length bytes ≤ 8 → key_length at bytes ≡ Err (BadEnd at)
unfolding key_length
key_length-short at (a ∷ b ∷ c ∷ d ∷ e ∷ f ∷ g ∷ h ∷ marker ∷ rest) le = absurd (omega arith)
key_length-short at [] le = refl
key_length-short at (a ∷ []) le = refl
key_length-short at (a ∷ b ∷ []) le = refl
key_length-short at (a ∷ b ∷ c ∷ []) le = refl
key_length-short at (a ∷ b ∷ c ∷ d ∷ []) le = refl
key_length-short at (a ∷ b ∷ c ∷ d ∷ e ∷ []) le = refl
key_length-short at (a ∷ b ∷ c ∷ d ∷ e ∷ f ∷ []) le = refl
key_length-short at (a ∷ b ∷ c ∷ d ∷ e ∷ f ∷ g ∷ []) le = refl
key_length-short at (a ∷ b ∷ c ∷ d ∷ e ∷ f ∷ g ∷ h ∷ []) le = refl

-- a marker of 255: the key goes on
pub key_length-next
    : (at : ℕ) (bytes : List ℕ)
    → 9 ≤ length bytes
    → get_or bytes 8 0 ≡ 255
    → key_length at bytes ≡ key_length (at + 9) (drop 9 bytes)
key_length-next at bytes long full =
    let test : (get_or bytes 8 0 == 255) ≡ true = grind (arith, nat_tests, full) in
    key_length-group at bytes long
    ∙ ap (λ b. if b then key_length (at + 9) (drop 9 bytes) else closed_length at (take 8 bytes) (get_or bytes 8 0)) test

-- any other marker closes the key
pub key_length-closing
    : (at : ℕ) (bytes : List ℕ)
    → 9 ≤ length bytes
    → (get_or bytes 8 0 ≡ 255 → ⊥)
    → key_length at bytes ≡ closed_length at (take 8 bytes) (get_or bytes 8 0)
key_length-closing at bytes long other =
    let test : (get_or bytes 8 0 == 255) ≡ false = grind (arith, nat_tests, other) in
    key_length-group at bytes long
    ∙ ap (λ b. if b then key_length (at + 9) (drop 9 bytes) else closed_length at (take 8 bytes) (get_or bytes 8 0)) test

pub ruleset parts = (key_length-next, key_length-closing, key_length-short)

-- ---- the encoding of a key, and what follows it

length-encoded_short : (key : List ℕ) → length key < 8 → length (encoded key) ≡ (length key / 8 + 1) * 9
length-encoded_short key short = rw (encoded-last key short) (simp (length-append, length-replicate) (omega arith))

pub length-encoded : (fuel : ℕ) (key : List ℕ) → length key ≤ fuel → length (encoded key) ≡ (length key / 8 + 1) * 9
length-encoded zero key le = length-encoded_short key (omega arith)
length-encoded (suc fuel) key le =
    ⊎_elim (length-encoded_short key)
    (λ long.
    let beyond : length (drop 8 key) ≡ length key - 8 = length-drop 8 key in
    let ih : length (encoded (drop 8 key)) ≡ (length (drop 8 key) / 8 + 1) * 9 = length-encoded fuel (drop 8 key) (omega arith) in
    let group : length (take 8 key) ≡ 8 = length-take-le 8 key long in
    let whole : length (encoded key) ≡ 8 + (1 + length (encoded (drop 8 key)))
    = rw (encoded-full key long, length-append (take 8 key) (255 ∷ encoded (drop 8 key)), group) (omega arith) in
    omega (arith, whole, ih, beyond))
    (cases_lt (length key) 8)

-- the key's bytes stand at their places, moved by one for each group before
get_or-encoded_short
    : (key rest : List ℕ) (k : ℕ)
    → length key < 8
    → k < length key
    → get_or (encoded key ++ rest) (k + k / 8) 0 ≡ get_or key k 0
get_or-encoded_short key rest k short within =
    let place : k + k / 8 ≡ k = omega arith in
    rw (place, encoded-last key short, append_assoc, append_assoc) (get_or_append_left key _ 0 k within)

pub get_or-encoded
    : (fuel : ℕ) (key rest : List ℕ) (k : ℕ)
    → length key ≤ fuel
    → k < length key
    → get_or (encoded key ++ rest) (k + k / 8) 0 ≡ get_or key k 0
get_or-encoded zero key rest k le within = absurd (omega arith)
get_or-encoded (suc fuel) key rest k le within =
    ⊎_elim (λ short. get_or-encoded_short key rest k short within)
    (λ long.
    let group : length (take 8 key) ≡ 8 = length-take-le 8 key long in
    let whole : encoded key ++ rest ≡ take 8 key ++ 255 ∷ (encoded (drop 8 key) ++ rest)
    = rw (encoded-full key long, append_assoc) refl in
    ⊎_elim
    (λ (first : k < 8).
    let place : k + k / 8 ≡ k = omega arith in
    rw (whole, place)
    (get_or_append_left (take 8 key) _ 0 k (omega (arith, group)) ∙ get_or-take 8 key k 0 first))
    (λ (later : 8 ≤ k).
    let j = k - 8 in
    let place : k + k / 8 ≡ length (take 8 key) + suc (j + j / 8) = omega (arith, group) in
    let beyond : length (drop 8 key) ≡ length key - 8 = length-drop 8 key in
    let back : 8 + j ≡ k = omega arith in
    rw (whole, place)
    (get_or-append-add (take 8 key) (255 ∷ (encoded (drop 8 key) ++ rest)) (suc (j + j / 8)) 0
    ∙ get_or-encoded fuel (drop 8 key) rest j (omega (arith, beyond)) (omega (arith, beyond))
    ∙ get_or-drop 8 key j 0
    ∙ ap (λ n. get_or key n 0) back))
    (cases_lt k 8))
    (cases_lt (length key) 8)

-- ---- the length is that of the key

pub key_length-encoded
    : (q : ℕ) (key rest : List ℕ)
    → key_length (9 * q) (encoded key ++ rest) ≡ Ok (8 * q + length key)
unfolding key_length encoded
key_length-encoded q (a ∷ b ∷ c ∷ d ∷ e ∷ f ∷ g ∷ h ∷ key) rest =
    let next : 9 * q + 9 ≡ 9 * (q + 1) = omega arith in
    ap (λ n. key_length n (encoded key ++ rest)) next
    ∙ key_length-encoded (q + 1) key rest
    ∙ ap Ok (omega arith)
key_length-encoded q [] rest = ap Ok (omega arith)
key_length-encoded q (a ∷ []) rest = ap Ok (omega arith)
key_length-encoded q (a ∷ b ∷ []) rest = ap Ok (omega arith)
key_length-encoded q (a ∷ b ∷ c ∷ []) rest = ap Ok (omega arith)
key_length-encoded q (a ∷ b ∷ c ∷ d ∷ []) rest = ap Ok (omega arith)
key_length-encoded q (a ∷ b ∷ c ∷ d ∷ e ∷ []) rest = ap Ok (omega arith)
key_length-encoded q (a ∷ b ∷ c ∷ d ∷ e ∷ f ∷ []) rest = ap Ok (omega arith)
key_length-encoded q (a ∷ b ∷ c ∷ d ∷ e ∷ f ∷ g ∷ []) rest = ap Ok (omega arith)

-- bytes that are all 0
pub all_zero : (bytes : List ℕ) → list_all (λ byte. byte == 0) bytes ≡ true → bytes ≡ replicate (length bytes) 0
all_zero [] h = refl
all_zero (x ∷ xs) h =
    let here : x ≡ 0 = grind (arith, nat_tests, h) in
    let later : list_all (λ byte. byte == 0) xs ≡ true = grind (arith, nat_tests, h) in
    ap (λ y. y ∷ xs) here ∙ ap (λ ys. 0 ∷ ys) (all_zero xs later)

-- a closing group is the last group of the key that it keeps
pub closed_length-Ok
    : (at n marker : ℕ) (group : List ℕ)
    → length group ≡ 8
    → marker < 255
    → closed_length at group marker ≡ Ok n
    → (key : List ℕ) × (length key < 8) × (n ≡ at / 9 * 8 + length key) × (group ++ marker ∷ [] ≡ last_group key)
closed_length-Ok at n marker group eight small closed =
    let kept = marker - 247 in
    let test = nat_le 247 marker && list_all (λ byte. byte == 0) (drop kept group) in
    ⊎_elim
    (λ (passed : test ≡ true).
    let high : 247 ≤ marker = grind (arith, nat_tests, passed) in
    let zeros : list_all (λ byte. byte == 0) (drop kept group) ≡ true = grind (arith, nat_tests, passed) in
    let whole : n ≡ at / 9 * 8 + kept = let taken = rw passed at closed in cc taken in
    let width : length (take kept group) ≡ kept = length-take-le kept group (omega (arith, eight)) in
    let gap : length (drop kept group) ≡ 8 - kept = length-drop kept group ∙ ap (λ m. m - kept) eight in
    let marks : 247 + kept ≡ marker = omega (arith, high) in
    let padded : group ≡ take kept group ++ replicate (8 - kept) 0
    = sym (take-append-drop kept group)
    ∙ ap (λ ys. take kept group ++ ys) (all_zero (drop kept group) zeros ∙ ap (λ m. replicate m 0) gap)
    in (
      take kept group,
      omega (arith, width),
      whole ∙ ap (λ m. at / 9 * 8 + m) (sym width),
      ap (λ xs. xs ++ marker ∷ []) padded
          ∙ ap (λ m. take kept group ++ replicate (8 - kept) 0 ++ m ∷ []) (sym marks)
          ∙ ap (λ m. take kept group ++ replicate (8 - m) 0 ++ (247 + m) ∷ []) (sym width),
    ))
    (λ (failed : test ≡ false). let taken = rw failed at closed in absurd (cc taken))
    (cases_Bool test)

-- bytes whose key has a length begin with the encoding of that key
pub key_length-Ok
    : (q n : ℕ) (bytes : List ℕ)
    → ((k : ℕ) → get_or bytes k 0 < 256)
    → key_length (9 * q) bytes ≡ Ok n
    → (key : List ℕ) × (rest : List ℕ) × (n ≡ 8 * q + length key) × (bytes ≡ encoded key ++ rest)
unfolding key_length encoded
key_length-Ok q n (a ∷ b ∷ c ∷ d ∷ e ∷ f ∷ g ∷ h ∷ marker ∷ rest) small has =
    let group = a ∷ b ∷ c ∷ d ∷ e ∷ f ∷ g ∷ h ∷ [] in
    ⊎_elim
    (λ (full : (marker == 255) ≡ true).
    let taken : key_length (9 * q + 9) rest ≡ Ok n = rw full at has in
    let next : 9 * q + 9 ≡ 9 * (q + 1) = omega arith in
    let ih = key_length-Ok (q + 1) n rest (λ k. small (suc (suc (suc (suc (suc (suc (suc (suc (suc k))))))))))
    (ap (λ m. key_length m rest) (sym next) ∙ taken) in
    let is : marker ≡ 255 = grind (arith, nat_tests, full) in (
      group ++ ih.0,
      ih.1,
      ih.2 ∙ omega arith,
      ap (λ m. group ++ m ∷ rest) is ∙ ap (λ xs. group ++ 255 ∷ xs) ih.3,
    ))
    (λ (closing : (marker == 255) ≡ false).
    let taken : closed_length (9 * q) group marker ≡ Ok n = rw closing at has in
    let below : marker < 255 = grind (arith, nat_tests, closing, small 8) in
    let closed = closed_length-Ok (9 * q) n marker group refl below taken in (
      closed.0,
      rest,
      closed.2 ∙ omega arith,
      ap (λ xs. xs ++ rest) (closed.3 ∙ sym (encoded-last closed.0 closed.1)),
    ))
    (cases_Bool (marker == 255))
key_length-Ok q n [] small has = absurd (cc has)
key_length-Ok q n (a ∷ []) small has = absurd (cc has)
key_length-Ok q n (a ∷ b ∷ []) small has = absurd (cc has)
key_length-Ok q n (a ∷ b ∷ c ∷ []) small has = absurd (cc has)
key_length-Ok q n (a ∷ b ∷ c ∷ d ∷ []) small has = absurd (cc has)
key_length-Ok q n (a ∷ b ∷ c ∷ d ∷ e ∷ []) small has = absurd (cc has)
key_length-Ok q n (a ∷ b ∷ c ∷ d ∷ e ∷ f ∷ []) small has = absurd (cc has)
key_length-Ok q n (a ∷ b ∷ c ∷ d ∷ e ∷ f ∷ g ∷ []) small has = absurd (cc has)
key_length-Ok q n (a ∷ b ∷ c ∷ d ∷ e ∷ f ∷ g ∷ h ∷ []) small has = absurd (cc has)

pub complemented-twice : (bytes : List ℕ) → ((k : ℕ) → get_or bytes k 0 < 256) → complemented (complemented bytes) ≡ bytes
complemented-twice [] small = refl
complemented-twice (x ∷ xs) small =
    let here : 255 - (255 - x) ≡ x = omega (arith, small 0) in
    ap (λ y. y ∷ complemented (complemented xs)) here ∙ ap (λ ys. x ∷ ys) (complemented-twice xs (λ k. small (suc k)))

-- ---- decoding

pub encoded-some : (key rest : List ℕ) → 9 ≤ length (encoded key ++ rest)
encoded-some key rest =
    let size = length-encoded (length key) key (le_refl (length key)) in
    omega (arith, length-append (encoded key) rest, size)

pub encoded-none : (bytes key rest : List ℕ) → length bytes ≡ 0 → bytes ≡ encoded key ++ rest → ⊥
encoded-none bytes key rest none is =
    let some = encoded-some key rest in
    absurd (omega (arith, some, none, ap length is))

-- the last byte of a key stands before the last byte of its encoding
pub room
    : (n : ℕ) (bytes : List ℕ)
    → ((k : ℕ) → get_or bytes k 0 < 256)
    → key_length 0 bytes ≡ Ok n
    → n + n / 8 < length bytes
room n bytes small has =
    let begins = key_length-Ok 0 n bytes small has in
    let size = length-encoded (length begins.0) begins.0 (le_refl (length begins.0)) in
    let whole = ap length begins.3 in
    omega (arith, begins.2, size, whole, length-append (encoded begins.0) begins.1)

pub decodes
    : (n : ℕ) (bytes decoded key rest : List ℕ)
    → key_length 0 bytes ≡ Ok n
    → length decoded ≡ n
    → ((k : ℕ) → k < n → get_or decoded k 0 ≡ get_or bytes (k + k / 8) 0)
    → bytes ≡ encoded key ++ rest
    → decoded ≡ key
decodes n bytes decoded key rest has width moved is =
    let asked : key_length 0 bytes ≡ Ok (length key) = ap (key_length 0) is ∙ key_length-encoded 0 key rest ∙ ap Ok (omega arith) in
    let same : n ≡ length key = cc (has, asked) in
    let equal : length decoded ≡ length key = width ∙ same in
    ext_get_or 0 decoded key equal
    (λ k within.
    moved k (omega (arith, within, width))
    ∙ ap (λ xs. get_or xs (k + k / 8) 0) is
    ∙ get_or-encoded (length key) key rest k (le_refl (length key)) (omega (arith, within, equal)))

pub begins
    : (n : ℕ) (bytes decoded : List ℕ)
    → ((k : ℕ) → get_or bytes k 0 < 256)
    → key_length 0 bytes ≡ Ok n
    → length decoded ≡ n
    → ((k : ℕ) → k < n → get_or decoded k 0 ≡ get_or bytes (k + k / 8) 0)
    → (rest : List ℕ) × (bytes ≡ encoded decoded ++ rest)
begins n bytes decoded small has width moved =
    let found = key_length-Ok 0 n bytes small has in
    let same = decodes n bytes decoded found.0 found.1 has width moved found.3 in
    (found.1, found.3 ∙ ap (λ key. encoded key ++ found.1) (sym same))

pub not_refused : (bytes key rest : List ℕ) (what : Internal) → key_length 0 bytes ≡ Err what → bytes ≡ encoded key ++ rest → ⊥
not_refused bytes key rest what refusal is =
    let asked : key_length 0 bytes ≡ Ok (length key) = ap (key_length 0) is ∙ key_length-encoded 0 key rest ∙ ap Ok (omega arith) in
    absurd (cc (refusal, asked))

pub ruleset turns = (complemented-twice)

pub OnErr-then : {T E P Q : Type 0} (r : Result T E) → OnErr r P → (P → Q) → OnErr r Q
OnErr-then (Ok x) h f = h
OnErr-then (Err e) h f = f h
