-- The grammar of one line: its words, joined by one space.
use Rattle.std.specs.Prelude.{◌≡◌, ℕ, ◌<◌, ◌^◌, ◌⊎◌, true, false, List, [], ◌∷◌, ◌++◌, codes, decimal}
use Rattle.std.specs.List.{join_with_byte, AllByRecursion}
use Rattle.txn_kv.specs.Spelling.{is_plain, hex}
use Rattle.txn_kv.specs.declared.ticket.Ticket.{Ticket}
use Rattle.txn_script.specs.declared.line.Line.{Line}
use Rattle.txn_script.specs.declared.line.Line.TheVariants.{Blank, Client, Begin, Put, Commit, Deliver}

-- decimal, with no leading zero
abbrev pub IsNumber : List ℕ → ℕ → Type 0
IsNumber word n = (n < 2 ^ 64) × (word ≡ decimal n)

-- letters, digits and `_`, at least one, or `x:` and two digits for each byte
abbrev pub IsByteString : List ℕ → List ℕ → Type 0
IsByteString word bytes = ((is_plain bytes ≡ true) × (word ≡ bytes)) ⊎ (AllByRecursion (λ b. b < 256) bytes × (word ≡ codes "x:" ++ hex bytes))

-- two numbers with a dot between
abbrev pub IsTicket : List ℕ → Ticket → Type 0
IsTicket word t = (line number : List ℕ) × IsNumber line t.line × IsNumber number t.number × (t.beat ≡ false) × (word ≡ line ++ 46 ∷ number)

-- what a word says
pub data Form : Type 0 where
  exactly : List ℕ → Form
  number : ℕ → Form
  byte_string : List ℕ → Form
  ticket : Ticket → Form

abbrev pub IsWordOf : Form → List ℕ → Type 0
IsWordOf (exactly text) word = word ≡ text
IsWordOf (number n) word = IsNumber word n
IsWordOf (byte_string bytes) word = IsByteString word bytes
IsWordOf (ticket t) word = IsTicket word t

abbrev pub AreWordsOf : List Form → List (List ℕ) → Type 0
AreWordsOf [] [] = Unit {0}
AreWordsOf [] (w ∷ ws) = ⊥
AreWordsOf (f ∷ fs) [] = ⊥
AreWordsOf (f ∷ fs) (w ∷ ws) = IsWordOf f w × AreWordsOf fs ws

-- the words of a line, in order
abbrev pub forms : Line → List Form
forms Blank = []
forms Client = exactly (codes "client") ∷ []
forms (Begin client) = exactly (codes "begin") ∷ number client ∷ exactly (codes "opt") ∷ []
forms (Put transaction key value) = exactly (codes "put") ∷ number transaction ∷ byte_string key ∷ byte_string value ∷ []
forms (Commit transaction) = exactly (codes "commit") ∷ number transaction ∷ []
forms (Deliver t) = exactly (codes "deliver") ∷ ticket t ∷ []

abbrev pub IsSpelled : List Form → List ℕ → Type 0
IsSpelled fs bytes = (words : List (List ℕ)) × AreWordsOf fs words × (bytes ≡ join_with_byte 32 words)

-- the bytes are a spelling of the line
abbrev pub IsLine : List ℕ → Line → Type 0
IsLine bytes Blank = (bytes ≡ []) ⊎ ((comment : List ℕ) × (bytes ≡ codes "#" ++ comment))
IsLine bytes Client = IsSpelled (forms Client) bytes
IsLine bytes (Begin client) = IsSpelled (forms (Begin client)) bytes
IsLine bytes (Put transaction key value) = IsSpelled (forms (Put transaction key value)) bytes
IsLine bytes (Commit transaction) = IsSpelled (forms (Commit transaction)) bytes
IsLine bytes (Deliver t) = IsSpelled (forms (Deliver t)) bytes
