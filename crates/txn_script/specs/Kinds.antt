-- What is kept of the lines so far, so that a named line is found by its number.
use Rattle.std.specs.Prelude.{◌≡◌, ℕ, ◌-◌, Bool, true, false, ◌&&◌, List, [], ◌∷◌, ◌++◌, length, Option, Some, None, nat_le, slice_get, if◌then◌else◌}
use Rattle.std.specs.List.{list_any}
use Rattle.txn_script.specs.declared.line.Line.{Line}
use Rattle.txn_script.specs.declared.line.Line.TheVariants as lines
use Rattle.txn_script.specs.declared.line_kinds.LineKind.{LineKind}
use Rattle.txn_script.specs.declared.line_kinds.LineKind.TheVariants as kinds
use Rattle.txn_script.specs.declared.script.Why.{Why}
use Rattle.txn_script.specs.declared.script.Why.TheVariants.{TooMany, Word, NotEarlier, Kind}
use Rattle.txn_script.specs.Lines.{max_lines}

abbrev pub kind_of : Line → LineKind
kind_of lines.Blank = kinds.Other
kind_of lines.Client = kinds.Client
kind_of (lines.Begin client) = kinds.Begin
kind_of (lines.Put transaction key value) = kinds.Put
kind_of (lines.Commit transaction) = kinds.Other
kind_of (lines.Deliver ticket) = kinds.Other

-- the kinds of these lines, the newest first, in the order of the script
abbrev pub kinds_of : List Line → List LineKind
kinds_of [] = []
kinds_of (line ∷ before) = kinds_of before ++ kind_of line ∷ []

abbrev pub is_kind : LineKind → LineKind → Bool
is_kind kinds.Client kinds.Client = true
is_kind kinds.Client kinds.Begin = false
is_kind kinds.Client kinds.Put = false
is_kind kinds.Client kinds.Other = false
is_kind kinds.Begin kinds.Client = false
is_kind kinds.Begin kinds.Begin = true
is_kind kinds.Begin kinds.Put = false
is_kind kinds.Begin kinds.Other = false
is_kind kinds.Put kinds.Client = false
is_kind kinds.Put kinds.Begin = false
is_kind kinds.Put kinds.Put = true
is_kind kinds.Put kinds.Other = false
is_kind kinds.Other kinds.Client = false
is_kind kinds.Other kinds.Begin = false
is_kind kinds.Other kinds.Put = false
is_kind kinds.Other kinds.Other = true

-- each flag says whether a line of its kind stands there
pub record HasFlags (ks : List LineKind) (has_client has_begin has_put : Bool) : Type 0 where
  pub client : has_client ≡ list_any (is_kind kinds.Client) ks
  pub begin : has_begin ≡ list_any (is_kind kinds.Begin) ks
  pub put : has_put ≡ list_any (is_kind kinds.Put) ks

abbrev pub is_some_kind : (LineKind → Bool) → Option LineKind → Bool
is_some_kind p None = false
is_some_kind p (Some k) = p k

abbrev pub why_kind : List LineKind → ℕ → (LineKind → Bool) → Option Why
why_kind ks n p = if nat_le 1 n && nat_le n (length ks) then (if is_some_kind p (slice_get ks (n - 1)) then None else Some Kind) else Some NotEarlier

abbrev pub is_second_kind : List LineKind → Line → Bool
is_second_kind ks lines.Blank = false
is_second_kind ks lines.Client = list_any (is_kind kinds.Client) ks
is_second_kind ks (lines.Begin client) = list_any (is_kind kinds.Begin) ks
is_second_kind ks (lines.Put transaction key value) = list_any (is_kind kinds.Put) ks
is_second_kind ks (lines.Commit transaction) = false
is_second_kind ks (lines.Deliver ticket) = false

abbrev pub why_kinds : List LineKind → Line → Option Why
why_kinds ks lines.Blank = None
why_kinds ks lines.Client = None
why_kinds ks (lines.Begin client) = why_kind ks client (is_kind kinds.Client)
why_kinds ks (lines.Put transaction key value) = why_kind ks transaction (is_kind kinds.Begin)
why_kinds ks (lines.Commit transaction) = why_kind ks transaction (is_kind kinds.Begin)
why_kinds ks (lines.Deliver ticket) = None

-- why a line is bad after lines of these kinds
unfoldable pub why_by_kinds : List LineKind → Line → Option Why
why_by_kinds ks line = if nat_le max_lines (length ks) then Some TooMany else (if is_second_kind ks line then Some Word else why_kinds ks line)
