-- What had happened by a line has happened after it.
use Rattle.std.proofs.Common.{inr, ℕ, Bool, true, false, if◌then◌else◌, nat_eq, List, [], ◌∷◌, Option, Some, None}
use Rattle.txn_kv.specs.declared.reply.Reply.{Reply}
use Rattle.txn_kv.specs.declared.request.Request.{Request}
use Rattle.txn_kv.specs.declared.ticket.Ticket.{Ticket}
use Rattle.txn_history.specs.Busy.{busy_reply}
use Rattle.txn_history.specs.Event.{Event, Has, kept_reply}
use Rattle.txn_history.specs.Event.Event.{Sent as SentEvent}
use Rattle.txn_lines.specs.declared.deed.Deed.{Deed}
use Rattle.txn_lines.specs.declared.deed.Deed.TheVariants as deeds
use Rattle.txn_lines.specs.declared.happening.Happening.TheVariants as happenings
use Rattle.txn_report.specs.declared.report.SentNote.{SentNote}
use Rattle.txn_machine.specs.Script.{does, loses, refuses, refuses_it, serves, takes, takes_it, with_sends}

-- what stays so whatever happens next stays so after a line
module _ (Holds : List Event → Type 0) (next : (e : Event) (es : List Event) → Holds es → Holds (e ∷ es)) where
  pub serves_keeps : (t : Ticket) (o : Option Request) (es : List Event) → Holds es → Holds (serves t o es)
  serves_keeps t None es h = h
  serves_keeps t (Some r) es h = next _ es h

  takes_keeps : (t : Ticket) (o : Option Request) (es : List Event) → Holds es → Holds (takes t o es)
  takes_keeps t None es h = h
  takes_keeps t (Some r) es h = by (kept_reply es t)
    where
      by : (k : Option Reply) → Holds (takes_it t r k es)
      by None = h
      by (Some o) = next _ es h

  refuses_keeps : (t : Ticket) (o : Option Request) (es : List Event) → Holds es → Holds (refuses t o es)
  refuses_keeps t None es h = h
  refuses_keeps t (Some r) es h = by (busy_reply r)
    where
      by : (k : Option Reply) → Holds (refuses_it t r k es)
      by None = h
      by (Some o) = next _ _ (next _ es h)

  loses_keeps : (t : Ticket) (o : Option Request) (es : List Event) → Holds es → Holds (loses t o es)
  loses_keeps t None es h = h
  loses_keeps t (Some r) es h = next _ es h

  does_keeps : (looks : Ticket → Option Request) (deed : Deed) (es : List Event) → Holds es → Holds (does looks deed es)
  does_keeps looks (deeds.Happens (happenings.Serve t)) es h = serves_keeps t (looks t) es h
  does_keeps looks (deeds.Happens (happenings.Answer t)) es h = takes_keeps t (looks t) es h
  does_keeps looks (deeds.Happens (happenings.Deliver t)) es h = takes_keeps t (looks t) (serves t (looks t) es) (serves_keeps t (looks t) es h)
  does_keeps looks (deeds.Happens (happenings.Lose t)) es h = loses_keeps t (looks t) es h
  does_keeps looks (deeds.Happens (happenings.Busy t)) es h = refuses_keeps t (looks t) es h
  does_keeps looks (deeds.Happens (happenings.Wake t)) es h = next _ es h
  does_keeps looks (deeds.Happens (happenings.Split key)) es h = next _ es h
  does_keeps looks (deeds.Happens (happenings.Lead region to)) es h = next _ es h
  does_keeps looks (deeds.Happens (happenings.Clock ms)) es h = next _ es h
  does_keeps looks (deeds.Happens (happenings.Crash k)) es h = next _ es h
  does_keeps looks deed es h = h

  pub done_keeps : (d : Bool) (looks : Ticket → Option Request) (deed : Deed) (es : List Event) → Holds es → Holds (if d then does looks deed es else es)
  done_keeps true looks deed es h = does_keeps looks deed es h
  done_keeps false looks deed es h = h

  pub sends_keeps : (ss : List SentNote) (n : ℕ) (es : List Event) → Holds es → Holds (with_sends ss n es)
  sends_keeps [] n es h = h
  sends_keeps (s ∷ ss) n es h = sends_keeps ss n (if nat_eq s.at n then SentEvent s.ticket s.request ∷ es else es) (one (nat_eq s.at n))
    where
      one : (b : Bool) → Holds (if b then SentEvent s.ticket s.request ∷ es else es)
      one true = next _ es h
      one false = h

pub done_more : (d : Bool) (looks : Ticket → Option Request) (deed : Deed) (es : List Event) (e : Event) → Has es e → Has (if d then does looks deed es else es) e
done_more d looks deed es e h = done_keeps (λ fs. Has fs e) (λ x fs has. inr has) d looks deed es h

pub sends_more : (ss : List SentNote) (n : ℕ) (es : List Event) (e : Event) → Has es e → Has (with_sends ss n es) e
sends_more ss n es e h = sends_keeps (λ fs. Has fs e) (λ x fs has. inr has) ss n es h
