-- What calls wait for and rest on in the steps of clients and their heartbeats, and what becomes of these where a heartbeat is told of something.
use Rattle.std.proofs.Common.{◌≡◌, inl, inr, ℕ, List, [], ◌++◌, Option, Some, sym, subst}
use Rattle.txn_history.specs.Event.{Event}
use Rattle.txn_history.specs.Event.Event.{Lost, Took}
use Rattle.txn_kv.specs.declared.request.Request.{Request}
use Rattle.txn_kv.specs.declared.ticket.Ticket.{Ticket}
use Rattle.txn_side.specs.Account.{Account}
use Rattle.txn_side.specs.Sight.{Sight}
use Rattle.txn_side.specs.Steps.{RestsAfter}
use Rattle.txn_side.specs.Trace.{ActsOn, HearsOn, HowCallsFail, IsLonger, StillRests, Trace, WakesOn}
use Rattle.txn_side.specs.Waiting.{Awaited, WaitsOn}
use Rattle.txn_lines.specs.declared.act.Act.{Act}
use Rattle.txn_side.specs.declared.coming.Coming.{Coming}
use Rattle.txn_side.specs.declared.coming.Coming.TheVariants as coming
use Rattle.txn_side.specs.declared.turn.Posting.{Posting}
use Rattle.txn_side.specs.declared.turn.Turn.{Turn}
use Rattle.txn_heartbeats.specs.Beating.{PostsBeats, with_beats}
use Rattle.txn_heartbeats.specs.Hearts.{IsUnbeaten, RestsIn, beats_of, sight_of, waits_of}
use Rattle.txn_heartbeats.specs.Standing.{rests_longer_so}
use Rattle.txn_heartbeats.specs.declared.heartbeats.Heartbeats.{Heartbeats}
use Rattle.txn_heartbeats.proofs.Resting.{acts_then, come_beside, rests_deaf}
use Rattle.txn_heartbeats.proofs.Seen.{waits_longer}

module _ {S H : Type 0} (sight : S → Sight) (old new : Heartbeats S H) (u : IsUnbeaten (sight old.side)) where
  -- What is waited for

  pub waits_in : (waits : S → ℕ → Awaited → Type 0) (Hears : ℕ → Awaited → Type 0) (ps : List Posting) → WaitsOn Hears ps (waits old.side) (waits new.side) (sight old.side) (sight new.side)
      → WaitsOn Hears ps (waits_of sight waits old) (waits_of sight waits new) (sight_of sight old) (sight_of sight new)
  waits_in waits Hears ps w = record { lines = λ n a x. elim (w.lines n a x.1) [ inl h ↦ inl ((u, h.0), h.1) | inr p ↦ inr p ]; groups = w.groups }

  -- a commit has started a heartbeat
  pub waits_started : (waits : S → ℕ → Awaited → Type 0) (Hears : ℕ → Awaited → Type 0) (mid : S) (line : ℕ) (ps qs : List Posting) → new.side ≡ mid → PostsBeats line (beats_of old) ps qs (beats_of new) → WaitsOn Hears ps (waits old.side) (waits mid) (sight old.side) (sight mid)
      → WaitsOn Hears qs (waits_of sight waits old) (waits_of sight waits new) (sight_of sight old) (sight_of sight new)
  waits_started waits Hears mid line ps qs side p w =
      subst (λ rs. WaitsOn Hears rs (waits_of sight waits old) (waits_of sight waits new) (sight_of sight old) (sight_of sight new)) (sym p.pushed)
      (waits_in waits Hears (ps ++ p.posted) (subst (λ s. WaitsOn Hears (ps ++ p.posted) (waits old.side) (waits s) (sight old.side) (sight s)) (sym side) (more (waits_longer Hears ps p.posted (waits old.side) (waits mid) (sight old.side) (sight mid) [] [] w))))
    where
      more : WaitsOn Hears (ps ++ p.posted) (waits old.side) (waits mid) (with_beats [] (sight old.side)) (with_beats [] (sight mid)) → WaitsOn Hears (ps ++ p.posted) (waits old.side) (waits mid) (sight old.side) (sight mid)
      more x = record { lines = x.lines; groups = x.groups }

  -- What calls rest on

  pub acts_in : (fails : HowCallsFail) (rests : S → Trace → Type 0) (act : Act) (x newest : ℕ) (account : Account) (turn : Option Turn) → ActsOn fails (rests old.side) (rests new.side) act x newest account turn
      → ActsOn fails (RestsIn sight rests old) (RestsIn sight rests new) act x newest account turn
  acts_in fails rests act x newest account turn acts t posted called refused rolls was = let r = acts t posted called refused rolls (was u) in ((λ v. r.0), r.1)

  -- clients hear of what came for a call
  hears_in : (fails : HowCallsFail) (rests : S → Trace → Type 0) (ticket : Ticket) (event : Request → Event) (turn : Turn) → HearsOn fails (rests old.side) (rests new.side) (sight old.side) ticket event turn
      → HearsOn fails (RestsIn sight rests old) (RestsIn sight rests new) (sight_of sight old) ticket event turn
  hears_in fails rests ticket event turn hears before t longer posted came was =
      let r = hears before t longer posted (come_beside before t (sight old.side) (beats_of old) ticket event came) (was u) in ((λ v. r.0), r.1)

  pub rests_in : (fails : HowCallsFail) (rests : S → Trace → Type 0) (ticket : Ticket) (what : Coming) (turn : Turn) → RestsAfter fails (rests old.side) (rests new.side) (sight old.side) ticket what turn
      → RestsAfter fails (RestsIn sight rests old) (RestsIn sight rests new) (sight_of sight old) ticket what turn
  rests_in fails rests ticket (coming.Reply o) turn hears = hears_in fails rests ticket (λ r. Took ticket r o) turn hears
  rests_in fails rests ticket coming.Lost turn hears = hears_in fails rests ticket (λ r. Lost ticket r) turn hears
  rests_in fails rests ticket coming.Slept turn wakes = λ t posted was. let r = wakes t posted (was u) in ((λ v. r.0), r.1)

  pub acts_started : (fails : HowCallsFail) (rests : S → Trace → Type 0) (act : Act) (x newest : ℕ) (account : Account) (mid : S) (line : ℕ) (turn later : Turn) → ((t longer : Trace) → IsLonger t longer → rests mid t → rests mid longer)
      → new.side ≡ mid → later.ended ≡ turn.ended → PostsBeats line (beats_of old) turn.posted.items later.posted.items (beats_of new) → ActsOn fails (rests old.side) (rests mid) act x newest account (Some turn) → ActsOn fails (RestsIn sight rests old) (RestsIn sight rests new) act x newest account (Some later)
  acts_started fails rests act x newest account mid line turn later longer side ended p acts =
      acts_in fails rests act x newest account (Some later)
      (subst (λ s. ActsOn fails (rests old.side) (rests s) act x newest account (Some later)) (sym side) (acts_then fails (rests old.side) (rests mid) longer act x newest account turn later p.posted p.pushed ended acts))

  -- Something was told to a heartbeat: what the calls rested on before that came they rest on still.
  pub told_rests : (fails : HowCallsFail) (rests : S → Trace → Type 0) (longer : (s : S) (t more : Trace) → IsLonger t more → rests s t → rests s more) (seen : Sight) (ticket : Ticket) (what : Coming) (turn : Turn) → StillRests (rests old.side) (rests new.side) → turn.ended.items ≡ []
      → RestsAfter fails (RestsIn sight rests old) (RestsIn sight rests new) seen ticket what turn
  told_rests fails rests longer seen ticket what turn still ended = by what
    where
      wakes : WakesOn fails (RestsIn sight rests old) (RestsIn sight rests new) turn
      wakes t posted = rests_deaf fails (RestsIn sight rests old) (RestsIn sight rests new) (rests_longer_so sight new rests (longer new.side)) t turn.posted.items turn.ended.items ended posted (λ trace was v. still trace (was u))

      hears : (event : Request → Event) → HearsOn fails (RestsIn sight rests old) (RestsIn sight rests new) seen ticket event turn
      hears event before t more posted came was = wakes t posted (rests_longer_so sight old rests (longer old.side) before t more was)

      by : (w : Coming) → RestsAfter fails (RestsIn sight rests old) (RestsIn sight rests new) seen ticket w turn
      by (coming.Reply o) = hears (λ r. Took ticket r o)
      by coming.Lost = hears (λ r. Lost ticket r)
      by coming.Slept = wakes
