-- What a script does, by its lines and the lists of its report alone. Lines stand here with the newest first.
use Rattle.std.specs.Prelude.{ℕ, Bool, true, false, ◌&&◌, if◌then◌else◌, List, [], ◌∷◌, length, Option, Some, None, nat_eq, nat_lt, slice_index_or}
use Rattle.std.proofs.Common.{zero, suc}
use Rattle.txn_kv.specs.declared.request.Request.{Request}
use Rattle.txn_kv.specs.declared.reply.Reply.{Reply}
use Rattle.txn_kv.specs.declared.ticket.Ticket.{Ticket}
use Rattle.txn_history.specs.Event.{Event, same_ticket, kept_reply}
use Rattle.txn_history.specs.Event.Event.{Sent, Served, Took}
use Rattle.txn_model.specs.Table.{table}
use Rattle.txn_law.specs.Run.{store_after}
use Rattle.txn_script.specs.declared.line.Line.{Line}
use Rattle.txn_script.specs.declared.line.Line.TheVariants.{Blank, Client, Begin, Put, Commit, Deliver}
use Rattle.txn_report.specs.declared.outcome.Outcome.{Outcome}
use Rattle.txn_report.specs.declared.outcome.Outcome.TheVariants.{Ok, Err, Unfinished, Done, Skipped}
use Rattle.txn_report.specs.declared.report.SentNote.{SentNote}

-- the outcome of a line, by its number
abbrev pub outcome_of : List Outcome → ℕ → Outcome
outcome_of outs zero = Unfinished
outcome_of outs (suc i) = slice_index_or outs i Unfinished

abbrev pub is_done : Outcome → Bool
is_done (Ok p) = false
is_done (Err e) = false
is_done Unfinished = false
is_done Done = true
is_done Skipped = false

-- the request of this ticket, if it was sent before line n
abbrev pub find : List SentNote → ℕ → Ticket → Option Request
find [] n t = None
find (s ∷ ss) n t = if same_ticket s.ticket t && nat_lt s.at n then Some s.request else find ss n t

-- the store handles a request, and its reply is kept
abbrev pub serves : Ticket → Option Request → List Event → List Event
serves t None es = es
serves t (Some r) es = Served t r (table (store_after es) r).reply ∷ es

abbrev pub takes_it : Ticket → Request → Option Reply → List Event → List Event
takes_it t r None es = es
takes_it t r (Some o) es = Took t r o ∷ es

-- the client takes the reply that is kept
abbrev pub takes : Ticket → Option Request → List Event → List Event
takes t None es = es
takes t (Some r) es = takes_it t r (kept_reply es t) es

-- what a line does that is Done
abbrev pub does : (Ticket → Option Request) → Line → List Event → List Event
does looks Blank es = es
does looks Client es = es
does looks (Begin client) es = es
does looks (Put transaction key value) es = es
does looks (Commit transaction) es = es
does looks (Deliver t) es = takes t (looks t) (serves t (looks t) es)

-- what was sent in the step of line n
abbrev pub with_sends : List SentNote → ℕ → List Event → List Event
with_sends [] n es = es
with_sends (s ∷ ss) n es = with_sends ss n (if nat_eq s.at n then Sent s.ticket s.request ∷ es else es)

-- The history of a script: what was served, taken and sent, line by line.
abbrev pub history : List SentNote → List Outcome → List Line → List Event
history sent outs [] = []
history sent outs (l ∷ ls) = with_sends sent (length (l ∷ ls)) (if is_done (outcome_of outs (length (l ∷ ls))) then does (λ t. find sent (length (l ∷ ls)) t) l (history sent outs ls) else history sent outs ls)

-- the tickets that were served, the newest first
abbrev pub served_tickets : List Event → List Ticket
served_tickets [] = []
served_tickets (Served t r o ∷ es) = t ∷ served_tickets es
served_tickets (_ ∷ es) = served_tickets es

-- An outcome that came in the step of line e, or not at all where e is 0, as it stood before line n.
abbrev pub known_of : ℕ → ℕ → Outcome → Outcome
known_of e n o = if nat_lt 0 e && nat_lt e n then o else Unfinished

-- the outcome of each line as it stood before line n
abbrev pub known : List Outcome → List ℕ → ℕ → ℕ → Outcome
known outs ended n zero = Unfinished
known outs ended n (suc i) = known_of (slice_index_or ended i 0) n (slice_index_or outs i Unfinished)
