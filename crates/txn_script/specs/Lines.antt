-- The lines of a script so far, the newest first, and why one line more is bad.
use Rattle.std.specs.Prelude.{ℕ, ◌+◌, Bool, true, false, ◌&&◌, ◌||◌, if◌then◌else◌, List, [], ◌∷◌, length, Option, Some, None, nat_eq, nat_le}
use Rattle.txn_script.specs.declared.line.Line.{Line}
use Rattle.txn_script.specs.declared.line.Line.TheVariants.{Blank, Client, Begin, Put, Commit, Deliver}
use Rattle.txn_script.specs.declared.script.Why.{Why}
use Rattle.txn_script.specs.declared.script.Why.TheVariants.{TooMany, Word, NotEarlier, Kind}

-- the line of this number, counted from 1
abbrev pub line_at : List Line → ℕ → Option Line
line_at [] n = None
line_at (l ∷ ls) n = if nat_eq (length ls + 1) n then Some l else line_at ls n

abbrev pub max_lines : ℕ
max_lines = 65536

abbrev pub is_client : Line → Bool
is_client Blank = false
is_client Client = true
is_client (Begin client) = false
is_client (Put transaction key value) = false
is_client (Commit transaction) = false
is_client (Deliver ticket) = false

abbrev pub is_begin : Line → Bool
is_begin Blank = false
is_begin Client = false
is_begin (Begin client) = true
is_begin (Put transaction key value) = false
is_begin (Commit transaction) = false
is_begin (Deliver ticket) = false

abbrev pub is_put : Line → Bool
is_put Blank = false
is_put Client = false
is_put (Begin client) = false
is_put (Put transaction key value) = true
is_put (Commit transaction) = false
is_put (Deliver ticket) = false

abbrev pub any_line : (Line → Bool) → List Line → Bool
any_line p [] = false
any_line p (l ∷ ls) = p l || any_line p ls

-- there is at most one client, one begin and one put so far
abbrev pub is_second : List Line → Line → Bool
is_second before Blank = false
is_second before Client = any_line is_client before
is_second before (Begin client) = any_line is_begin before
is_second before (Put transaction key value) = any_line is_put before
is_second before (Commit transaction) = false
is_second before (Deliver ticket) = false

abbrev pub is_some_line : (Line → Bool) → Option Line → Bool
is_some_line p None = false
is_some_line p (Some l) = p l

-- a line names another: an earlier one, of the right kind
abbrev pub why_named : List Line → ℕ → (Line → Bool) → Option Why
why_named before n p = if nat_le 1 n && nat_le n (length before) then (if is_some_line p (line_at before n) then None else Some Kind) else Some NotEarlier

abbrev pub why_names : List Line → Line → Option Why
why_names before Blank = None
why_names before Client = None
why_names before (Begin client) = why_named before client is_client
why_names before (Put transaction key value) = why_named before transaction is_begin
why_names before (Commit transaction) = why_named before transaction is_begin
why_names before (Deliver ticket) = None

-- why a line that is in the grammar is bad after these lines
abbrev pub why_after : List Line → Line → Option Why
why_after before line = if nat_le max_lines (length before) then Some TooMany else (if is_second before line then Some Word else why_names before line)
