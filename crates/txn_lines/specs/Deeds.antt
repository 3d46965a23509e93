-- Lines by what they ask: many kinds of line ask the same of those who run them. Whoever runs lines looks at their deeds alone.
use Rattle.std.specs.Prelude.{Bool, Option, Some, None, is_some}
use Rattle.txn_lines.specs.declared.act.Act.TheVariants as acts
use Rattle.txn_lines.specs.declared.begin_options.BeginOptions.{BeginOptions}
use Rattle.txn_lines.specs.declared.client_act.ClientAct.{ClientAct}
use Rattle.txn_lines.specs.declared.client_act.ClientAct.TheVariants as client_acts
use Rattle.txn_lines.specs.declared.deed.Deed.{Deed}
use Rattle.txn_lines.specs.declared.deed.Deed.TheVariants.{Ask, Connect, Happens, Nothing, Use}
use Rattle.txn_lines.specs.declared.happening.Happening.TheVariants as happenings
use Rattle.txn_lines.specs.declared.line.Line.{Line}
use Rattle.txn_lines.specs.declared.line.Line.TheVariants as lines

abbrev pub deed_of : Line → Deed
deed_of lines.Blank = Nothing
deed_of lines.Client = Connect
deed_of (lines.Begin client options) = Ask client (client_acts.Begin options)
deed_of (lines.Timestamp client) = Ask client client_acts.Timestamp
deed_of (lines.Put transaction key value) = Use transaction (acts.Put key value)
deed_of (lines.Insert transaction key value) = Use transaction (acts.Insert key value)
deed_of (lines.Delete transaction key) = Use transaction (acts.Delete key)
deed_of (lines.Mutate transaction mutations) = Use transaction (acts.Mutate mutations)
deed_of (lines.Lock transaction keys) = Use transaction (acts.Lock keys)
deed_of (lines.Commit transaction) = Use transaction acts.Commit
deed_of (lines.Rollback transaction) = Use transaction acts.Rollback
deed_of (lines.Serve ticket) = Happens (happenings.Serve ticket)
deed_of (lines.Answer ticket) = Happens (happenings.Answer ticket)
deed_of (lines.Deliver ticket) = Happens (happenings.Deliver ticket)
deed_of (lines.Lose ticket) = Happens (happenings.Lose ticket)
deed_of (lines.Busy ticket) = Happens (happenings.Busy ticket)
deed_of (lines.Wake ticket) = Happens (happenings.Wake ticket)
deed_of (lines.Split key) = Happens (happenings.Split key)
deed_of (lines.Lead region store) = Happens (happenings.Lead region store)
deed_of (lines.Clock ms) = Happens (happenings.Clock ms)
deed_of (lines.Crash client) = Happens (happenings.Crash client)

-- what is asked of a client is a transaction, which begins with these options
abbrev pub begins_with : ClientAct → Option BeginOptions
begins_with (client_acts.Begin options) = Some options
begins_with client_acts.Timestamp = None

abbrev pub begins : ClientAct → Bool
begins act = is_some (begins_with act)
