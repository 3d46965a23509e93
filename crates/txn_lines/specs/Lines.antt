-- The lines of a script so far, the newest first, and why one line more is bad.
use Rattle.std.specs.Prelude.{ℕ, ◌+◌, Bool, true, false, ◌&&◌, ◌==◌, if◌then◌else◌, List, [], ◌∷◌, length, Option, Some, None, nat_eq, nat_le, nat_lt}
use Rattle.txn_lines.specs.Deeds.{begins, deed_of}
use Rattle.txn_lines.specs.declared.deed.Deed.{Deed}
use Rattle.txn_lines.specs.declared.deed.Deed.TheVariants.{Ask, Connect, Happens, Use}
use Rattle.txn_lines.specs.declared.happening.Happening.TheVariants.{Clock, Crash, Split}
use Rattle.txn_lines.specs.declared.line.Line.{Line}
use Rattle.txn_lines.specs.declared.line_kinds.LineKind.{LineKind}
use Rattle.txn_lines.specs.declared.line_kinds.LineKind.TheVariants as kinds
use Rattle.txn_lines.specs.declared.script.Why.{Why}
use Rattle.txn_lines.specs.declared.script.Why.TheVariants.{TooMany, NotEarlier, Kind, EmptySplit, ClockHigh, ClockFalls, Clients}

-- ---- the lines that a line names

abbrev pub kind_by : Deed → LineKind
kind_by Connect = kinds.Client
kind_by (Ask client act) = if begins act then kinds.Begin else kinds.Other
kind_by _ = kinds.Other

abbrev pub kind_of : Line → LineKind
kind_of line = kind_by (deed_of line)

abbrev pub is_kind : LineKind → LineKind → Bool
is_kind kinds.Client kinds.Client = true
is_kind kinds.Begin kinds.Begin = true
is_kind kinds.Other kinds.Other = true
is_kind _ _ = false

-- the number of the line that a line names, and of which kind that has to be
abbrev pub named_in : Deed → Option (ℕ × LineKind)
named_in (Ask client act) = Some (client, kinds.Client)
named_in (Use transaction act) = Some (transaction, kinds.Begin)
named_in (Happens (Crash client)) = Some (client, kinds.Client)
named_in _ = None

abbrev pub named_by : Line → Option (ℕ × LineKind)
named_by line = named_in (deed_of line)

-- the line of this number, counted from 1
abbrev pub line_at : List Line → ℕ → Option Line
line_at [] n = None
line_at (l ∷ ls) n = if nat_eq (length ls + 1) n then Some l else line_at ls n

abbrev pub is_line_of : LineKind → Option Line → Bool
is_line_of wanted None = false
is_line_of wanted (Some l) = is_kind wanted (kind_of l)

-- an earlier line, of the right kind
abbrev pub why_named : List Line → Option (ℕ × LineKind) → Option Why
why_named before None = None
why_named before (Some named) = if nat_le 1 named.0 && nat_le named.0 (length before) then (if is_line_of named.1 (line_at before named.0) then None else Some Kind) else Some NotEarlier

-- ---- limits

abbrev pub max_lines : ℕ
max_lines = 65536

abbrev pub max_clients : ℕ
max_clients = 64

-- 2^44
abbrev pub max_clock : ℕ
max_clock = 17592186044416

-- how many clients the lines make
abbrev pub clients_in : List Line → ℕ
clients_in [] = 0
clients_in (line ∷ before) = if is_kind kinds.Client (kind_of line) then clients_in before + 1 else clients_in before

-- the clock after a line, from the clock before it
abbrev pub clock_by : Deed → ℕ → ℕ
clock_by (Happens (Clock ms)) before = ms
clock_by _ before = before

abbrev pub clock_after : Line → ℕ → ℕ
clock_after line before = clock_by (deed_of line) before

abbrev pub clock_in : List Line → ℕ
clock_in [] = 0
clock_in (line ∷ before) = clock_after line (clock_in before)

abbrev pub why_clock : ℕ → ℕ → Option Why
why_clock so_far ms = if nat_le max_clock ms then Some ClockHigh else if nat_lt ms so_far then Some ClockFalls else None

-- the reason that lies in a line itself, after so many clients and at this clock
abbrev pub why_by : ℕ → ℕ → Deed → Option Why
why_by clients clock (Happens (Split key)) = if length key == 0 then Some EmptySplit else None
why_by clients clock (Happens (Clock ms)) = why_clock clock ms
why_by clients clock Connect = if nat_le max_clients clients then Some Clients else None
why_by clients clock _ = None

abbrev pub why_alone : ℕ → ℕ → Line → Option Why
why_alone clients clock line = why_by clients clock (deed_of line)

-- ---- why a line is bad

abbrev pub or_else : Option Why → Option Why → Option Why
or_else None later = later
or_else (Some why) later = Some why

-- the first reason why a line that is in the grammar is bad after these lines
abbrev pub why_after : List Line → Line → Option Why
why_after before line = if nat_le max_lines (length before) then Some TooMany else or_else (why_named before (named_by line)) (why_alone (clients_in before) (clock_in before) line)
