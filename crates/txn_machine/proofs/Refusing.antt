-- However much more happens and is noted, no fewer asks for timestamps were refused.
use Rattle.std.proofs.Common.{◌≡◌, ℕ, ◌+◌, ◌≤◌, inl, inr, Bool, if◌then◌else◌, List, [], ◌∷◌, Option, refl, sym, subst, arith}
use Rattle.txn_kv.specs.declared.request.Request.{Request}
use Rattle.txn_kv.specs.declared.ticket.Ticket.{Ticket}
use Rattle.txn_history.specs.Among.{IsAmong}
use Rattle.txn_history.specs.Event.{Event}
use Rattle.txn_lines.specs.declared.deed.Deed.{Deed}
use Rattle.txn_report.specs.declared.report.SentNote.{SentNote}
use Rattle.txn_side.specs.Sight.{Group}
use Rattle.txn_side.specs.Trace.{AreRefused, ComesFor, refused_as, times_in}
use Rattle.txn_machine.specs.Longer.{done_keeps, sends_keeps, serves_keeps}
use Rattle.txn_machine.specs.Script.{does, serves, with_sends}

-- at least n asks of the line were refused in these events
abbrev pub AtLeastRefused : List Group → ℕ → ℕ → List Event → Type 0
AtLeastRefused groups line n es = (k : ℕ) × (n ≤ k) × AreRefused groups line es k

module _ (groups : List Group) (line n : ℕ) where
  -- whatever happens next
  pub refused_next : (e : Event) (es : List Event) → AtLeastRefused groups line n es → AtLeastRefused groups line n (e ∷ es)
  refused_next e es h = (h.0, h.1, inl h.2)

  pub refused_served : (t : Ticket) (o : Option Request) (es : List Event) → AtLeastRefused groups line n es → AtLeastRefused groups line n (serves t o es)
  refused_served t o es h = serves_keeps (AtLeastRefused groups line n) refused_next t o es h

  pub refused_done : (d : Bool) (looks : Ticket → Option Request) (deed : Deed) (es : List Event) → AtLeastRefused groups line n es → AtLeastRefused groups line n (if d then does looks deed es else es)
  refused_done d looks deed es h = done_keeps (AtLeastRefused groups line n) refused_next d looks deed es h

  pub refused_sends : (ss : List SentNote) (at : ℕ) (es : List Event) → AtLeastRefused groups line n es → AtLeastRefused groups line n (with_sends ss at es)
  refused_sends ss at es h = sends_keeps (AtLeastRefused groups line n) refused_next ss at es h

-- and where more is noted
module _ (groups more : List Group) (among : (g : Group) → IsAmong groups g → IsAmong more g) (line : ℕ) where
  refused_among : (es : List Event) (k : ℕ) → AreRefused groups line es k → AreRefused more line es k
  refused_among [] k h = h
  refused_among (e ∷ es) k (inl h) = inl (refused_among es k h)
  refused_among (e ∷ es) k (inr h) = inr (h.0, among h.0 h.1, h.2, (h.3.0, h.3.1, refused_among es h.3.0 h.3.2))

  pub refused_more : (n : ℕ) (es : List Event) → AtLeastRefused groups line n es → AtLeastRefused more line n es
  refused_more n es h = (h.0, h.1, refused_among es h.0 h.2)

-- The event is the newest of these, and by the one before it no fewer asks were refused than by those that were.
pub record IsNewest (groups : List Group) (es fs : List Event) (event : Event) : Type 0 where
  pub mid : List Event
  pub is : fs ≡ event ∷ mid
  pub keeps : (line n : ℕ) → AtLeastRefused groups line n es → AtLeastRefused groups line n mid

-- where it came for a request for timestamps, the asks that it refuses are more
pub refused_newest : (groups : List Group) (es fs : List Event) (event : Event) (g : Group) (line n : ℕ) → IsAmong groups g → ComesFor g.ticket event → IsNewest groups es fs event → AtLeastRefused groups line n es
    → AtLeastRefused groups line (times_in (refused_as event g.askers) line + n) fs
refused_newest groups es fs event g line n among comes newest h =
    let w = newest.keeps line n h in
    let few = w.1 in
    subst (λ xs. AtLeastRefused groups line (times_in (refused_as event g.askers) line + n) xs) (sym newest.is)
    (times_in (refused_as event g.askers) line + w.0, omega (arith, few), inr (g, among, comes, (w.0, refl, w.2)))
