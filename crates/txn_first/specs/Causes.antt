-- When each outcome comes, by the lines before and what was known of them.
use Rattle.std.specs.Prelude.{◌≡◌, ◌⊎◌, ℕ, ◌+◌, ◌≤◌, Bool, true, false, not, ◌&&◌, ◌||◌, if◌then◌else◌, List, [], ◌∷◌, length, Option, Some, None, nat_eq, is_some}
use Rattle.std.specs.Cmp.Lexicographic.{pointwise}
use Rattle.txn_kv.specs.declared.ticket.Ticket.{Ticket}
use Rattle.txn_kv.specs.declared.errors.Error.TheVariants.{OperationAfterCommitError}
use Rattle.txn_kv.specs.declared.request.Request.TheVariants.{Tso}
use Rattle.txn_kv.specs.declared.request.cluster.TsoRequest.{TsoRequest}
use Rattle.txn_history.specs.Event.{Event, sent_request, is_out, is_served}
use Rattle.txn_script.specs.Lines.{line_at}
use Rattle.txn_script.specs.declared.line.Line.{Line}
use Rattle.txn_script.specs.declared.line.Line.TheVariants.{Blank, Client, Begin, Put, Commit, Deliver}
use Rattle.txn_report.specs.declared.outcome.Outcome.{Outcome}
use Rattle.txn_report.specs.declared.outcome.Outcome.TheVariants.{Ok, Err, Unfinished, Done, Skipped}
use Rattle.txn_report.specs.declared.outcome.Payload.TheVariants.{Unit as Nothing, Number, Commit as Committed_at}
use Rattle.txn_report.specs.declared.report.SentNote.{SentNote}
use Rattle.txn_first.specs.declared.transaction.Status.{Status}
use Rattle.txn_first.specs.declared.transaction.Status.TheVariants.{Active, StartedCommit, Committed}
use Rattle.txn_first.specs.Script.{outcome_of, history, known}

-- Outcomes.

abbrev pub is_unfinished : Outcome → Bool
is_unfinished (Ok p) = false
is_unfinished (Err e) = false
is_unfinished Unfinished = true
is_unfinished Done = false
is_unfinished Skipped = false

abbrev pub is_skipped : Outcome → Bool
is_skipped (Ok p) = false
is_skipped (Err e) = false
is_skipped Unfinished = false
is_skipped Done = false
is_skipped Skipped = true

abbrev pub is_ok : Outcome → Bool
is_ok (Ok p) = true
is_ok (Err e) = false
is_ok Unfinished = false
is_ok Done = false
is_ok Skipped = false

-- a commit that answered a timestamp
abbrev pub is_commit_at : Outcome → Bool
is_commit_at (Ok Nothing) = false
is_commit_at (Ok (Number n)) = false
is_commit_at (Ok (Committed_at c)) = is_some c
is_commit_at (Err e) = false
is_commit_at Unfinished = false
is_commit_at Done = false
is_commit_at Skipped = false

-- Transactions, which are named by the number of the line that begins them.

-- line l, of this number, is a call of transaction x
abbrev pub is_call_of : ℕ → Line → ℕ → Bool
is_call_of x Blank n = false
is_call_of x Client n = false
is_call_of x (Begin client) n = nat_eq n x
is_call_of x (Put y key value) n = nat_eq y x
is_call_of x (Commit y) n = nat_eq y x
is_call_of x (Deliver t) n = false

-- a call of x is open
abbrev pub is_busy : (ℕ → Outcome) → ℕ → List Line → Bool
is_busy seen x [] = false
is_busy seen x (l ∷ ls) = is_call_of x l (length (l ∷ ls)) && is_unfinished (seen (length (l ∷ ls))) || is_busy seen x ls

-- x has begun, and no call of it is open
abbrev pub is_free : (ℕ → Outcome) → ℕ → List Line → Bool
is_free seen x ls = is_ok (seen x) && not (is_busy seen x ls)

abbrev pub allows_write : Status → Bool
allows_write Active = true
allows_write StartedCommit = false
allows_write Committed = false

abbrev pub allows_commit : Status → Bool
allows_commit Active = true
allows_commit StartedCommit = true
allows_commit Committed = false

-- what a commit line with this outcome makes of the status
abbrev pub status_after : Status → Outcome → Status
status_after st o = if allows_commit st && not (is_skipped o) then (if is_commit_at o then Committed else StartedCommit) else st

-- the status of x after these lines
abbrev pub status_of : (ℕ → Outcome) → ℕ → List Line → Status
status_of seen x [] = Active
status_of seen x (Blank ∷ ls) = status_of seen x ls
status_of seen x (Client ∷ ls) = status_of seen x ls
status_of seen x (Begin client ∷ ls) = status_of seen x ls
status_of seen x (Put y key value ∷ ls) = status_of seen x ls
status_of seen x (Commit y ∷ ls) = if nat_eq y x then status_after (status_of seen x ls) (seen (length (Commit y ∷ ls))) else status_of seen x ls
status_of seen x (Deliver t ∷ ls) = status_of seen x ls

-- a key and the value that a transaction gives it
pub record Written : Type 0 where
  pub key : List ℕ
  pub value : List ℕ

-- the writes after one more: a key stands once
abbrev pub with_write : List Written → List ℕ → List ℕ → List Written
with_write [] k v = record { key = k; value = v } ∷ []
with_write (w ∷ ws) k v = if pointwise nat_eq w.key k then record { key = k; value = v } ∷ ws else w ∷ with_write ws k v

-- what x has written after these lines
abbrev pub writes_of : (ℕ → Outcome) → ℕ → List Line → List Written
writes_of seen x [] = []
writes_of seen x (Blank ∷ ls) = writes_of seen x ls
writes_of seen x (Client ∷ ls) = writes_of seen x ls
writes_of seen x (Begin client ∷ ls) = writes_of seen x ls
writes_of seen x (Put y key value ∷ ls) = if nat_eq y x && is_ok (seen (length (Put y key value ∷ ls))) then with_write (writes_of seen x ls) key value else writes_of seen x ls
writes_of seen x (Commit y ∷ ls) = writes_of seen x ls
writes_of seen x (Deliver t ∷ ls) = writes_of seen x ls

abbrev pub has_some : {X : Type 0} → List X → Bool
has_some [] = false
has_some (x ∷ xs) = true

-- Causes.

-- a begin answers its start, or is open
abbrev pub BeginsWith : Outcome → Type 0
BeginsWith o = (o ≡ Unfinished) ⊎ ((s : ℕ) × (o ≡ Ok (Number s)))

-- free: the transaction has begun, and no call of it is open; allowed: its status allows the call
abbrev pub WritesWith : (free allowed : Bool) → Outcome → Type 0
WritesWith false allowed o = o ≡ Skipped
WritesWith true false o = o ≡ Err OperationAfterCommitError
WritesWith true true o = o ≡ Ok Nothing

-- written: some key is written
abbrev pub CommitsWith : (free allowed written : Bool) → Outcome → Type 0
CommitsWith false allowed written o = o ≡ Skipped
CommitsWith true false written o = o ≡ Err OperationAfterCommitError
CommitsWith true true false o = o ≡ Ok (Committed_at None)
CommitsWith true true true o = (o ≡ Unfinished) ⊎ ((c : ℕ) × (o ≡ Ok (Committed_at (Some c))))

-- the outcome of a line, from the lines before it, what was known of them, and what had happened
abbrev pub HasCause : (ℕ → Outcome) → List Line → List Event → Line → Outcome → Type 0
HasCause seen ls es Blank o = o ≡ Done
HasCause seen ls es Client o = o ≡ Ok Nothing
HasCause seen ls es (Begin client) o = BeginsWith o
HasCause seen ls es (Put x key value) o = WritesWith (is_free seen x ls) (allows_write (status_of seen x ls)) o
HasCause seen ls es (Commit x) o = CommitsWith (is_free seen x ls) (allows_commit (status_of seen x ls)) (has_some (writes_of seen x ls)) o
HasCause seen ls es (Deliver t) o = o ≡ (if is_out es t && not (is_served es t) then Done else Skipped)

-- each line's outcome has its cause
abbrev pub Causes : List SentNote → List Outcome → List ℕ → List Line → Type 0
Causes sent outs ended [] = Unit {0}
Causes sent outs ended (l ∷ ls) = HasCause (known outs ended (length (l ∷ ls))) ls (history sent outs ls) l (outcome_of outs (length (l ∷ ls))) × Causes sent outs ended ls

-- Dues.

-- the client that a line names, if it begins a transaction
abbrev pub client_named : Option Line → Option ℕ
client_named None = None
client_named (Some Blank) = None
client_named (Some Client) = None
client_named (Some (Begin client)) = Some client
client_named (Some (Put x key value)) = None
client_named (Some (Commit x)) = None
client_named (Some (Deliver t)) = None

-- the client whose call a line is
abbrev pub client_of : List Line → Option Line → Option ℕ
client_of ls None = None
client_of ls (Some Blank) = None
client_of ls (Some Client) = None
client_of ls (Some (Begin client)) = Some client
client_of ls (Some (Put x key value)) = client_named (line_at ls x)
client_of ls (Some (Commit x)) = client_named (line_at ls x)
client_of ls (Some (Deliver t)) = None

-- a request of the line itself is out
pub record OwnIsOut (es : List Event) (n : ℕ) : Type 0 where
  pub ticket : Ticket
  pub own : ticket.line ≡ n
  pub no_beat : ticket.beat ≡ false
  pub out : is_out es ticket ≡ true

-- a Tso request of the line's client is out
pub record OracleIsOut (ls : List Line) (es : List Event) (n : ℕ) : Type 0 where
  pub ticket : Ticket
  pub asks : TsoRequest
  pub same_client : client_of ls (line_at ls ticket.line) ≡ client_of ls (line_at ls n)
  pub is_tso : sent_request es ticket ≡ Some (Tso asks)
  pub out : is_out es ticket ≡ true

-- after these lines, something is out for each call that is open
abbrev pub IsDue : (ℕ → Outcome) → List Line → List Event → Type 0
IsDue seen ls es = (n : ℕ) → 1 ≤ n → n ≤ length ls → is_unfinished (seen n) ≡ true → OwnIsOut es n ⊎ OracleIsOut ls es n

-- after each line
abbrev pub Dues : List SentNote → List Outcome → List ℕ → List Line → Type 0
Dues sent outs ended [] = Unit {0}
Dues sent outs ended (l ∷ ls) = IsDue (known outs ended (length (l ∷ ls) + 1)) (l ∷ ls) (history sent outs (l ∷ ls)) × Dues sent outs ended ls
