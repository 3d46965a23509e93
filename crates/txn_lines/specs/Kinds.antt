-- What is kept of the lines so far, so that nothing is searched for in them.
use Rattle.std.specs.Prelude.{ℕ, ◌+◌, ◌-◌, Bool, false, ◌&&◌, List, [], ◌∷◌, ◌++◌, length, Option, Some, None, nat_le, slice_get, if◌then◌else◌}
use Rattle.txn_lines.specs.declared.line.Line.{Line}
use Rattle.txn_lines.specs.declared.line_kinds.LineKind.{LineKind}
use Rattle.txn_lines.specs.declared.line_kinds.LineKind.TheVariants as kinds
use Rattle.txn_lines.specs.declared.script.Why.{Why}
use Rattle.txn_lines.specs.declared.script.Why.TheVariants.{TooMany, NotEarlier, Kind}
use Rattle.txn_lines.specs.Lines.{kind_of, is_kind, named_by, max_lines, clock_after, why_alone, or_else}

-- the kind of each line, in the order of the script, how many clients there are, and the clock
pub record SoFar : Type 0 where
  pub kinds : List LineKind
  pub clients : ℕ
  pub clock : ℕ

abbrev pub no_line : SoFar
no_line = record { kinds = []; clients = 0; clock = 0 }

-- with one line more
abbrev pub with_line : SoFar → Line → SoFar
with_line so_far line = record {
  kinds = so_far.kinds ++ kind_of line ∷ [];
  clients = if is_kind kinds.Client (kind_of line) then so_far.clients + 1 else so_far.clients;
  clock = clock_after line so_far.clock;
}

-- what is kept of these lines, the newest first
abbrev pub kinds_of : List Line → SoFar
kinds_of [] = no_line
kinds_of (line ∷ before) = with_line (kinds_of before) line

abbrev pub is_some_kind : LineKind → Option LineKind → Bool
is_some_kind wanted None = false
is_some_kind wanted (Some k) = is_kind wanted k

abbrev pub why_kind : List LineKind → ℕ → LineKind → Option Why
why_kind ks n wanted = if nat_le 1 n && nat_le n (length ks) then (if is_some_kind wanted (slice_get ks (n - 1)) then None else Some Kind) else Some NotEarlier

abbrev pub why_kinds : List LineKind → Option (ℕ × LineKind) → Option Why
why_kinds ks None = None
why_kinds ks (Some named) = why_kind ks named.0 named.1

-- why a line is bad after lines of which this is kept
unfoldable pub why_so_far : SoFar → Line → Option Why
why_so_far so_far line = if nat_le max_lines (length so_far.kinds) then Some TooMany else or_else (why_kinds so_far.kinds (named_by line)) (why_alone so_far.clients so_far.clock line)
