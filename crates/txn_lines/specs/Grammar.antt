-- The grammar of one line: its words, joined by one space.
use Rattle.std.specs.Prelude.{◌≡◌, ℕ, ◌<◌, ◌≤◌, ◌^◌, ◌⊎◌, Bool, true, false, List, [], ◌∷◌, ◌++◌, length, map, codes, decimal}
use Rattle.std.specs.List.{join_with_byte, AllByRecursion, IsDistinct, list_any, flat_map}
use Rattle.txn_kv.specs.Spelling.{is_plain, hex}
use Rattle.txn_kv.specs.declared.message.Assertion.TheVariants as assertions
use Rattle.txn_kv.specs.declared.message.Mutation.{Mutation}
use Rattle.txn_kv.specs.declared.message.Op.{Op}
use Rattle.txn_kv.specs.declared.message.Op.TheVariants as ops
use Rattle.txn_kv.specs.declared.ticket.Ticket.{Ticket}
use Rattle.txn_lines.specs.declared.begin_options.BeginOptions.{BeginOptions}
use Rattle.txn_lines.specs.declared.line.Line.{Line}
use Rattle.txn_lines.specs.declared.line.Line.TheVariants as lines

-- decimal, with no leading zero
abbrev pub IsNumber : List ℕ → ℕ → Type 0
IsNumber word n = (n < 2 ^ 64) × (word ≡ decimal n)

-- letters, digits and `_`, at least one, or `x:` and two digits for each byte
abbrev pub IsByteString : List ℕ → List ℕ → Type 0
IsByteString word bytes = ((is_plain bytes ≡ true) × (word ≡ bytes)) ⊎ (AllByRecursion (λ b. b < 256) bytes × (word ≡ codes "x:" ++ hex bytes))

-- two numbers with a dot between, and for a heartbeat an h behind the dot
abbrev pub IsTicket : List ℕ → Ticket → Type 0
IsTicket word t =
    (line number : List ℕ) × IsNumber line t.line × IsNumber number t.number × (((t.beat ≡ false) × (word ≡ line ++ 46 ∷ number)) ⊎ ((t.beat ≡ true) × (word ≡ line ++ 46 ∷ 104 ∷ number)))

-- what a word says
pub data Form : Type 0 where
  exactly : List ℕ → Form
  number : ℕ → Form
  byte_string : List ℕ → Form
  ticket : Ticket → Form

abbrev pub IsWordOf : Form → List ℕ → Type 0
IsWordOf (exactly text) word = word ≡ text
IsWordOf (number n) word = IsNumber word n
IsWordOf (byte_string bytes) word = IsByteString word bytes
IsWordOf (ticket t) word = IsTicket word t

abbrev pub AreWordsOf : List Form → List (List ℕ) → Type 0
AreWordsOf [] [] = Unit {0}
AreWordsOf [] (w ∷ ws) = ⊥
AreWordsOf (f ∷ fs) [] = ⊥
AreWordsOf (f ∷ fs) (w ∷ ws) = IsWordOf f w × AreWordsOf fs ws

-- ---- the options of a `begin`

pub data OptionName : Type 0 where
  no_locks : OptionName
  no_regions : OptionName

abbrev pub option_word : OptionName → List ℕ
option_word no_locks = codes "nolocks"
option_word no_regions = codes "noregions"

abbrev pub is_option : OptionName → OptionName → Bool
is_option no_locks no_locks = true
is_option no_regions no_regions = true
is_option _ _ = false

-- those that are named
abbrev pub options_of : List OptionName → BeginOptions
options_of names = record { no_locks = list_any (is_option no_locks) names; no_regions = list_any (is_option no_regions) names }

-- ---- the items of a `mutate`

pub data Item : Type 0 where
  put : (key value : List ℕ) → Item
  del : (key : List ℕ) → Item
  lock : (key : List ℕ) → Item
  insert : (key value : List ℕ) → Item
  check : (key : List ℕ) → Item

abbrev pub item_forms : Item → List Form
item_forms (put key value) = exactly (codes "put") ∷ byte_string key ∷ byte_string value ∷ []
item_forms (del key) = exactly (codes "del") ∷ byte_string key ∷ []
item_forms (lock key) = exactly (codes "lock") ∷ byte_string key ∷ []
item_forms (insert key value) = exactly (codes "insert") ∷ byte_string key ∷ byte_string value ∷ []
item_forms (check key) = exactly (codes "check") ∷ byte_string key ∷ []

abbrev pub plain_mutation : Op → List ℕ → List ℕ → Mutation
plain_mutation op key value = record { op = op; key = key; value = value; assertion = assertions.None }

abbrev pub mutation_of : Item → Mutation
mutation_of (put key value) = plain_mutation ops.Put key value
mutation_of (del key) = plain_mutation ops.Del key []
mutation_of (lock key) = plain_mutation ops.Lock key []
mutation_of (insert key value) = plain_mutation ops.Insert key value
mutation_of (check key) = plain_mutation ops.CheckNotExists key []

-- ---- lines

-- the line is written by words of these forms, in this order
abbrev pub IsWritten : Line → List Form → Type 0
IsWritten lines.Blank fs = ⊥
IsWritten lines.Client fs = fs ≡ exactly (codes "client") ∷ []
IsWritten (lines.Begin client options) fs =
    (names : List OptionName) × IsDistinct is_option names × (options ≡ options_of names) × (fs ≡ exactly (codes "begin") ∷ number client ∷ exactly (codes "opt") ∷ map (λ name. exactly (option_word name)) names)
IsWritten (lines.Timestamp client) fs = fs ≡ exactly (codes "timestamp") ∷ number client ∷ []
IsWritten (lines.Put transaction key value) fs = fs ≡ exactly (codes "put") ∷ number transaction ∷ byte_string key ∷ byte_string value ∷ []
IsWritten (lines.Insert transaction key value) fs = fs ≡ exactly (codes "insert") ∷ number transaction ∷ byte_string key ∷ byte_string value ∷ []
IsWritten (lines.Delete transaction key) fs = fs ≡ exactly (codes "delete") ∷ number transaction ∷ byte_string key ∷ []
IsWritten (lines.Mutate transaction mutations) fs =
    (items : List Item) × (0 < length items) × (mutations ≡ map mutation_of items) × (fs ≡ exactly (codes "mutate") ∷ number transaction ∷ flat_map item_forms items)
IsWritten (lines.Lock transaction keys) fs = (0 < length keys) × (fs ≡ exactly (codes "lock") ∷ number transaction ∷ map byte_string keys)
IsWritten (lines.Commit transaction) fs = fs ≡ exactly (codes "commit") ∷ number transaction ∷ []
IsWritten (lines.Rollback transaction) fs = fs ≡ exactly (codes "rollback") ∷ number transaction ∷ []
IsWritten (lines.Serve t) fs = fs ≡ exactly (codes "serve") ∷ ticket t ∷ []
IsWritten (lines.Answer t) fs = fs ≡ exactly (codes "answer") ∷ ticket t ∷ []
IsWritten (lines.Deliver t) fs = fs ≡ exactly (codes "deliver") ∷ ticket t ∷ []
IsWritten (lines.Lose t) fs = fs ≡ exactly (codes "lose") ∷ ticket t ∷ []
IsWritten (lines.Busy t) fs = fs ≡ exactly (codes "busy") ∷ ticket t ∷ []
IsWritten (lines.Wake t) fs = fs ≡ exactly (codes "wake") ∷ ticket t ∷ []
IsWritten (lines.Split key) fs = fs ≡ exactly (codes "split") ∷ byte_string key ∷ []
IsWritten (lines.Lead region store) fs = (1 ≤ store) × (store ≤ 3) × (fs ≡ exactly (codes "lead") ∷ number region ∷ number store ∷ [])
IsWritten (lines.Clock ms) fs = fs ≡ exactly (codes "clock") ∷ number ms ∷ []
IsWritten (lines.Crash client) fs = fs ≡ exactly (codes "crash") ∷ number client ∷ []

abbrev pub IsSpelled : List Form → List ℕ → Type 0
IsSpelled fs bytes = (words : List (List ℕ)) × AreWordsOf fs words × (bytes ≡ join_with_byte 32 words)

-- the bytes are a spelling of the line
abbrev pub IsLine : List ℕ → Line → Type 0
IsLine bytes lines.Blank = (bytes ≡ []) ⊎ ((comment : List ℕ) × (bytes ≡ codes "#" ++ comment))
IsLine bytes line = (fs : List Form) × IsWritten line fs × IsSpelled fs bytes
