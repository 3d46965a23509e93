-- Reading a line word by word, or not at all.
use Rattle.std.specs.Prelude.{◌≡◌, ℕ, suc, zero, ◌+◌, ◌-◌, ◌*◌, ◌%◌, Bool, true, false, not, ◌&&◌, ◌||◌, List, [], ◌∷◌, ◌++◌, length, take, drop, codes, Option, Some, None, option_map, Result, Ok, Err, nat_lt, slice_index, ◌==◌, bytes_eq, if◌then◌else◌}
use Rattle.std.specs.Char.{is_ascii_digit}
use Rattle.std.specs.Int.{is_in_range}
use Rattle.std.specs.List.{position_or_len, before_first, after_first, slice_split}
use Rattle.txn_kv.specs.Spelling.{is_plain}
use Rattle.txn_kv.specs.declared.message.Mutation.{Mutation}
use Rattle.txn_kv.specs.declared.message.Op.{Op}
use Rattle.txn_kv.specs.declared.message.Op.TheVariants as ops
use Rattle.txn_kv.specs.declared.ticket.Ticket.{Ticket}
use Rattle.txn_lines.specs.declared.begin_options.BeginOptions.{BeginOptions}
use Rattle.txn_lines.specs.declared.line.Line.{Line}
use Rattle.txn_lines.specs.declared.line.Line.TheVariants as lines
use Rattle.txn_lines.specs.declared.stop.Stop.{Stop}
use Rattle.txn_lines.specs.declared.stop.Stop.TheVariants as stops
use Rattle.txn_lines.specs.Grammar.{plain_mutation}

infixl 10 ◌>>=◌
abbrev pub ◌>>=◌ : {A B : Type 0} → Option A → (A → Option B) → Option B
None >>= f = None
(Some x) >>= f = f x

-- What a function returned, seen by view, is what reading gives, unless memory ran out.
abbrev pub Fails : {Y : Type 0} → Stop → Option Y → Type 0
Fails stops.Memory read = Unit {0}
Fails stops.Word read = read ≡ None

abbrev pub Gives : {X Y : Type 0} → (X → Y) → Result X Stop → Option Y → Type 0
Gives view (Ok x) read = read ≡ Some (view x)
Gives view (Err e) read = Fails e read

-- ---- words

-- what stands before and after the first such byte
abbrev pub cut_at : ℕ → List ℕ → Option (List ℕ × List ℕ)
cut_at c bytes = if nat_lt (position_or_len (λ b. b == c) bytes) (length bytes) then Some (before_first (λ b. b == c) bytes, after_first (λ b. b == c) bytes) else None

-- ---- numbers

abbrev pub next_digit : ℕ → ℕ → Option ℕ
next_digit n b = if is_ascii_digit b && nat_lt (n * 10 + (b - 48)) 18446744073709551616 then Some (n * 10 + (b - 48)) else None

abbrev pub digits_after : ℕ → List ℕ → Option ℕ
digits_after n [] = Some n
digits_after n (b ∷ bs) = next_digit n b >>= λ m. digits_after m bs

unfoldable pub number_in : List ℕ → Option ℕ
number_in word = if length word == 0 then None else if slice_index word 0 == 48 && nat_lt 1 (length word) then None else digits_after 0 word

-- ---- byte strings

abbrev pub hex_value : ℕ → Option ℕ
hex_value b = if is_in_range 48 57 b then Some (b - 48) else if is_in_range 97 102 b then Some (b - 87) else None

abbrev pub byte_in : ℕ → ℕ → Option ℕ
byte_in high low = do
  h ← hex_value high
  l ← hex_value low
  Some (h * 16 + l)

unfoldable pub pairs_in : List ℕ → Option (List ℕ)
pairs_in [] = Some []
pairs_in (high ∷ []) = None
pairs_in (high ∷ low ∷ rest) = do
  b ← byte_in high low
  bytes ← pairs_in rest
  Some (b ∷ bytes)

unfoldable pub hex_in : List ℕ → Option (List ℕ)
hex_in hex = if length hex % 2 == 0 then pairs_in hex else None

unfoldable pub string_in : List ℕ → Option (List ℕ)
string_in word = if bytes_eq (take 2 word) (codes "x:") then hex_in (drop 2 word) else if is_plain word then Some word else None

-- ---- tickets

-- whether an h stands behind the dot, and what is left without it
unfoldable pub behind_dot : List ℕ → Bool × List ℕ
behind_dot word = if bytes_eq (take 1 word) (codes "h") then (true, drop 1 word) else (false, word)

unfoldable pub ticket_in : List ℕ → Option Ticket
ticket_in word = do
  parts ← cut_at 46 word
  line ← number_in parts.0
  number ← number_in (behind_dot parts.1).1
  Some (record { line = line; beat = (behind_dot parts.1).0; number = number })

-- ---- the next word of a line

-- the words that are still to be read
abbrev pub Words : Type 0
Words = List (List ℕ)

-- what stands between the spaces
abbrev pub words_of : List ℕ → Words
words_of bytes = slice_split (λ b. b == 32) bytes

abbrev pub words_left : Option (List ℕ) → Words
words_left None = []
words_left (Some bytes) = words_of bytes

abbrev pub no_word : Words → Bool
no_word [] = true
no_word (w ∷ ws) = false

abbrev pub next_word : Words → Option (List ℕ × Words)
next_word [] = None
next_word (w ∷ ws) = Some (w, ws)

unfoldable pub next_number : Words → Option (ℕ × Words)
next_number words = do
  w ← next_word words
  n ← number_in w.0
  Some (n, w.1)

unfoldable pub next_string : Words → Option (List ℕ × Words)
next_string words = do
  w ← next_word words
  bytes ← string_in w.0
  Some (bytes, w.1)

unfoldable pub next_ticket : Words → Option (Ticket × Words)
next_ticket words = do
  w ← next_word words
  t ← ticket_in w.0
  Some (t, w.1)

unfoldable pub next_exactly : List ℕ → Words → Option Words
next_exactly text words = do
  w ← next_word words
  if bytes_eq w.0 text then Some w.1 else None

-- no word is left
abbrev pub ended : {A : Type 0} → A → Words → Option A
ended x words = if no_word words then Some x else None

-- ---- what is left as one value

unfoldable pub number_alone : Words → Option ℕ
number_alone words = do
  n ← next_number words
  ended n.0 n.1

unfoldable pub ticket_alone : Words → Option Ticket
ticket_alone words = do
  t ← next_ticket words
  ended t.0 t.1

unfoldable pub string_alone : Words → Option (List ℕ)
string_alone words = do
  bytes ← next_string words
  ended bytes.0 bytes.1

unfoldable pub strings_alone : Words → Option (List ℕ × List ℕ)
strings_alone words = do
  first ← next_string words
  second ← next_string first.1
  ended (first.0, second.0) second.1

-- ---- as one key or more

abbrev pub keys_after : List (List ℕ) → Words → Option (List (List ℕ))
keys_after keys [] = Some keys
keys_after keys (w ∷ ws) = string_in w >>= λ key. keys_after (keys ++ key ∷ []) ws

unfoldable pub keys_in : Words → Option (List (List ℕ))
keys_in words = if no_word words then None else keys_after [] words

-- ---- as options

unfoldable pub with_option : BeginOptions → List ℕ → Option BeginOptions
with_option options word =
    if bytes_eq word (codes "nolocks") && not options.no_locks then Some (record options { no_locks = true })
    else if bytes_eq word (codes "noregions") && not options.no_regions then Some (record options { no_regions = true })
    else None

abbrev pub options_after : BeginOptions → Words → Option BeginOptions
options_after options [] = Some options
options_after options (w ∷ ws) = with_option options w >>= λ more. options_after more ws

abbrev pub no_options : BeginOptions
no_options = record { no_locks = false; no_regions = false }

-- ---- as one mutation or more

unfoldable pub with_value : Op → Words → Option (Mutation × Words)
with_value op words = do
  key ← next_string words
  value ← next_string key.1
  Some (plain_mutation op key.0 value.0, value.1)

unfoldable pub without_value : Op → Words → Option (Mutation × Words)
without_value op words = do
  key ← next_string words
  Some (plain_mutation op key.0 [], key.1)

abbrev pub mutation_from : List ℕ → Words → Option (Mutation × Words)
mutation_from kind words =
    if bytes_eq kind (codes "put") then with_value ops.Put words
    else if bytes_eq kind (codes "insert") then with_value ops.Insert words
    else if bytes_eq kind (codes "del") then without_value ops.Del words
    else if bytes_eq kind (codes "lock") then without_value ops.Lock words
    else if bytes_eq kind (codes "check") then without_value ops.CheckNotExists words
    else None

unfoldable pub next_mutation : Words → Option (Mutation × Words)
next_mutation words = next_word words >>= λ w. mutation_from w.0 w.1

-- the first number bounds how many there are
abbrev pub mutations_within : ℕ → List Mutation → Words → Option (List Mutation)
mutations_within n mutations [] = Some mutations
mutations_within zero mutations (w ∷ ws) = None
mutations_within (suc n) mutations (w ∷ ws) = next_mutation (w ∷ ws) >>= λ m. mutations_within n (mutations ++ m.0 ∷ []) m.1

abbrev pub mutations_after : List Mutation → Words → Option (List Mutation)
mutations_after mutations words = mutations_within (length words) mutations words

unfoldable pub mutations_in : Words → Option (List Mutation)
mutations_in words = if no_word words then None else mutations_after [] words

-- ---- lines

unfoldable pub begin_in : Words → Option Line
begin_in words = do
  client ← next_number words
  rest ← next_exactly (codes "opt") client.1
  options ← options_after no_options rest
  Some (lines.Begin client.0 options)

unfoldable pub put_in : Words → Option Line
put_in words = do
  transaction ← next_number words
  strings ← strings_alone transaction.1
  Some (lines.Put transaction.0 strings.0 strings.1)

unfoldable pub insert_in : Words → Option Line
insert_in words = do
  transaction ← next_number words
  strings ← strings_alone transaction.1
  Some (lines.Insert transaction.0 strings.0 strings.1)

unfoldable pub delete_in : Words → Option Line
delete_in words = do
  transaction ← next_number words
  key ← string_alone transaction.1
  Some (lines.Delete transaction.0 key)

unfoldable pub mutate_in : Words → Option Line
mutate_in words = do
  transaction ← next_number words
  mutations ← mutations_in transaction.1
  Some (lines.Mutate transaction.0 mutations)

unfoldable pub lock_in : Words → Option Line
lock_in words = do
  transaction ← next_number words
  keys ← keys_in transaction.1
  Some (lines.Lock transaction.0 keys)

unfoldable pub lead_in : Words → Option Line
lead_in words = do
  region ← next_number words
  store ← number_alone region.1
  if store == 0 || nat_lt 3 store then None else Some (lines.Lead region.0 store)

-- an event by its first word
unfoldable pub event_in : List ℕ → Words → Option Line
event_in kind words =
    if bytes_eq kind (codes "serve") then option_map lines.Serve (ticket_alone words)
    else if bytes_eq kind (codes "answer") then option_map lines.Answer (ticket_alone words)
    else if bytes_eq kind (codes "deliver") then option_map lines.Deliver (ticket_alone words)
    else if bytes_eq kind (codes "lose") then option_map lines.Lose (ticket_alone words)
    else if bytes_eq kind (codes "busy") then option_map lines.Busy (ticket_alone words)
    else if bytes_eq kind (codes "wake") then option_map lines.Wake (ticket_alone words)
    else if bytes_eq kind (codes "split") then option_map lines.Split (string_alone words)
    else if bytes_eq kind (codes "lead") then lead_in words
    else if bytes_eq kind (codes "clock") then option_map lines.Clock (number_alone words)
    else if bytes_eq kind (codes "crash") then option_map lines.Crash (number_alone words)
    else None

-- a call or an event by its first word
unfoldable pub words_in : List ℕ → Words → Option Line
words_in kind words =
    if bytes_eq kind (codes "client") then ended lines.Client words
    else if bytes_eq kind (codes "begin") then begin_in words
    else if bytes_eq kind (codes "timestamp") then option_map lines.Timestamp (number_alone words)
    else if bytes_eq kind (codes "put") then put_in words
    else if bytes_eq kind (codes "insert") then insert_in words
    else if bytes_eq kind (codes "delete") then delete_in words
    else if bytes_eq kind (codes "mutate") then mutate_in words
    else if bytes_eq kind (codes "lock") then lock_in words
    else if bytes_eq kind (codes "commit") then option_map lines.Commit (number_alone words)
    else if bytes_eq kind (codes "rollback") then option_map lines.Rollback (number_alone words)
    else event_in kind words

-- a comment or its words
unfoldable pub line_in : List ℕ → Option Line
line_in bytes = if length bytes == 0 then Some lines.Blank else if slice_index bytes 0 == 35 then Some lines.Blank else (next_word (words_of bytes) >>= λ w. words_in w.0 w.1)
