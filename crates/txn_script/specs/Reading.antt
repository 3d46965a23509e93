-- Reading a line word by word, or not at all.
use Rattle.std.specs.Prelude.{◌≡◌, ℕ, ◌+◌, ◌-◌, ◌*◌, ◌%◌, false, ◌&&◌, List, [], ◌∷◌, length, take, drop, codes, Option, Some, None, Result, Ok, Err, nat_lt, slice_index, ◌==◌, bytes_eq, if◌then◌else◌}
use Rattle.std.specs.Char.{is_ascii_digit}
use Rattle.std.specs.Int.{is_in_range}
use Rattle.std.specs.List.{position_or_len, before_first, after_first}
use Rattle.txn_kv.specs.Spelling.{is_plain}
use Rattle.txn_kv.specs.declared.ticket.Ticket.{Ticket}
use Rattle.txn_script.specs.declared.line.Line.{Line}
use Rattle.txn_script.specs.declared.line.Line.TheVariants.{Blank, Client, Begin, Put, Commit, Deliver}
use Rattle.txn_script.specs.declared.stop.Stop.{Stop}
use Rattle.txn_script.specs.declared.stop.Stop.TheVariants as stops

infixl 10 ◌>>=◌
abbrev pub ◌>>=◌ : {A B : Type 0} → Option A → (A → Option B) → Option B
None >>= f = None
(Some x) >>= f = f x

-- What a function returned, seen by view, is what reading gives, unless memory ran out.
abbrev pub Fails : {Y : Type 0} → Stop → Option Y → Type 0
Fails stops.Memory read = Unit {0}
Fails stops.Word read = read ≡ None

abbrev pub Gives : {X Y : Type 0} → (X → Y) → Result X Stop → Option Y → Type 0
Gives view (Ok x) read = read ≡ Some (view x)
Gives view (Err e) read = Fails e read

-- ---- words

-- what stands before and after the first such byte
abbrev pub cut_at : ℕ → List ℕ → Option (List ℕ × List ℕ)
cut_at c bytes = if nat_lt (position_or_len (λ b. b == c) bytes) (length bytes) then Some (before_first (λ b. b == c) bytes, after_first (λ b. b == c) bytes) else None

-- ---- numbers

abbrev pub next_digit : ℕ → ℕ → Option ℕ
next_digit n b = if is_ascii_digit b && nat_lt (n * 10 + (b - 48)) 18446744073709551616 then Some (n * 10 + (b - 48)) else None

abbrev pub digits_after : ℕ → List ℕ → Option ℕ
digits_after n [] = Some n
digits_after n (b ∷ bs) = next_digit n b >>= λ m. digits_after m bs

unfoldable pub number_in : List ℕ → Option ℕ
number_in word = if length word == 0 then None else if slice_index word 0 == 48 && nat_lt 1 (length word) then None else digits_after 0 word

-- ---- byte strings

abbrev pub hex_value : ℕ → Option ℕ
hex_value b = if is_in_range 48 57 b then Some (b - 48) else if is_in_range 97 102 b then Some (b - 87) else None

abbrev pub byte_in : ℕ → ℕ → Option ℕ
byte_in high low = do
  h ← hex_value high
  l ← hex_value low
  Some (h * 16 + l)

unfoldable pub pairs_in : List ℕ → Option (List ℕ)
pairs_in [] = Some []
pairs_in (high ∷ []) = None
pairs_in (high ∷ low ∷ rest) = do
  b ← byte_in high low
  bytes ← pairs_in rest
  Some (b ∷ bytes)

unfoldable pub hex_in : List ℕ → Option (List ℕ)
hex_in hex = if length hex % 2 == 0 then pairs_in hex else None

unfoldable pub string_in : List ℕ → Option (List ℕ)
string_in word = if bytes_eq (take 2 word) (codes "x:") then hex_in (drop 2 word) else if is_plain word then Some word else None

-- ---- tickets

unfoldable pub ticket_in : List ℕ → Option Ticket
ticket_in word = do
  parts ← cut_at 46 word
  line ← number_in parts.0
  number ← number_in parts.1
  Some (record { line = line; beat = false; number = number })

-- ---- the next word of a line

-- the rest of a line is what stands after the space behind the words that were read, if there was one
abbrev pub Rest : Type 0
Rest = Option (List ℕ)

-- the word before the next space, or all that is left
abbrev pub split_word : List ℕ → Option (List ℕ × List ℕ) → List ℕ × Rest
split_word bytes None = (bytes, None)
split_word bytes (Some parts) = (parts.0, Some parts.1)

abbrev pub next_word : Rest → Option (List ℕ × Rest)
next_word None = None
next_word (Some bytes) = Some (split_word bytes (cut_at 32 bytes))

unfoldable pub next_number : Rest → Option (ℕ × Rest)
next_number words = do
  w ← next_word words
  n ← number_in w.0
  Some (n, w.1)

unfoldable pub next_string : Rest → Option (List ℕ × Rest)
next_string words = do
  w ← next_word words
  bytes ← string_in w.0
  Some (bytes, w.1)

unfoldable pub next_ticket : Rest → Option (Ticket × Rest)
next_ticket words = do
  w ← next_word words
  t ← ticket_in w.0
  Some (t, w.1)

unfoldable pub next_exactly : List ℕ → Rest → Option Rest
next_exactly text words = do
  w ← next_word words
  if bytes_eq w.0 text then Some w.1 else None

-- no word is left
abbrev pub ended : Line → Rest → Option Line
ended line None = Some line
ended line (Some bytes) = None

-- ---- lines

unfoldable pub begin_in : Rest → Option Line
begin_in words = do
  client ← next_number words
  rest ← next_exactly (codes "opt") client.1
  ended (Begin client.0) rest

unfoldable pub put_in : Rest → Option Line
put_in words = do
  transaction ← next_number words
  key ← next_string transaction.1
  value ← next_string key.1
  ended (Put transaction.0 key.0 value.0) value.1

unfoldable pub commit_in : Rest → Option Line
commit_in words = do
  transaction ← next_number words
  ended (Commit transaction.0) transaction.1

unfoldable pub deliver_in : Rest → Option Line
deliver_in words = do
  t ← next_ticket words
  ended (Deliver t.0) t.1

-- by its first word
unfoldable pub words_in : List ℕ → Rest → Option Line
words_in kind words =
    if bytes_eq kind (codes "client") then ended Client words
    else if bytes_eq kind (codes "begin") then begin_in words
    else if bytes_eq kind (codes "put") then put_in words
    else if bytes_eq kind (codes "commit") then commit_in words
    else if bytes_eq kind (codes "deliver") then deliver_in words
    else None

-- a comment or its words
unfoldable pub line_in : List ℕ → Option Line
line_in bytes = if length bytes == 0 then Some Blank else if slice_index bytes 0 == 35 then Some Blank else (next_word (Some bytes) >>= λ w. words_in w.0 w.1)
