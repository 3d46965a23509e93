-- A timestamp that an ask was answered comes of a Tso that was sent after the ask.
use Rattle.std.proofs.Common.{◌≡◌, ℕ, inl, inr, List, [], ◌∷◌, subst, arith}
use Rattle.std.specs.Prelude.{Ok}
use Rattle.txn_kv.specs.Timestamp.{version_of}
use Rattle.txn_kv.specs.declared.ticket.Ticket.{Ticket}
use Rattle.txn_kv.specs.declared.timestamp.Timestamp.{Timestamp}
use Rattle.txn_history.specs.Event.{Event, Has}
use Rattle.txn_history.specs.Event.Event.{Asked, Answered}
use Rattle.txn_history.specs.Licence.{AllAcknowledged, AskedAfter, SentAfterAsk, WantedAfter, WasAskedFor, WasGiven, WasTimed}
use Rattle.txn_history.specs.Plan.{Plan}
use Rattle.txn_law.specs.Run.{IsPossible, IsRun}
use Rattle.txn_law.proofs.Sent.{acknowledged_more, given_more}

timed_more : (es : List Event) (e : Event) (a : Ticket) (c : ℕ) → WasTimed es a c → WasTimed (e ∷ es) a c
timed_more es e a c w = (w.0, w.1, w.2, inr w.3, inr w.4, w.5)

answered_so : (es : List Event) (x : Event) (a : Ticket) (time : Timestamp) → x ≡ Answered a (Ok time) → IsPossible es x → WasTimed es a (version_of time)
answered_so es x a time e h = subst (IsPossible es) e h

was_timed : (plans : ℕ → Plan) (es : List Event) → IsRun plans es → (a : Ticket) (time : Timestamp) → Has es (Answered a (Ok time)) → WasTimed es a (version_of time)
was_timed plans [] run a time h = absurd h
was_timed plans (e ∷ es) run a time (inl h) = timed_more es e a (version_of time) (answered_so es e a time h run.0)
was_timed plans (e ∷ es) run a time (inr h) = timed_more es e a (version_of time) (was_timed plans es run.2 a time h)

ask_was_made : (es : List Event) (a t : Ticket) → SentAfterAsk es a t → Has es (Asked a)
ask_was_made [] a t h = absurd h
ask_was_made (e ∷ es) a t (inl h) = inr h.2
ask_was_made (e ∷ es) a t (inr h) = inr (ask_was_made es a t h)

wanted_ready : (plan : Plan) (es : List Event) (s : ℕ) (a : Ticket) → WantedAfter plan es s a → AllAcknowledged plan es s × WasGiven es s
wanted_ready plan [] s a h = absurd h
wanted_ready plan (e ∷ es) s a (inl h) = (acknowledged_more plan es e s h.1, given_more es e s h.2)
wanted_ready plan (e ∷ es) s a (inr h) = let w = wanted_ready plan es s a h in (acknowledged_more plan es e s w.0, given_more es e s w.1)

asked_once : (es : List Event) (x : Event) (a : Ticket) → x ≡ Asked a → IsPossible es x → Has es (Asked a) → ⊥
asked_once es x a e h = subst (IsPossible es) e h

-- a Tso that was sent after the ask was sent after all that the ask came after
asked_after : (plans : ℕ → Plan) (plan : Plan) (es : List Event) → IsRun plans es → (s : ℕ) (a t : Ticket) → WantedAfter plan es s a → SentAfterAsk es a t → AskedAfter plan es s t
asked_after plans plan [] run s a t w h = absurd h
asked_after plans plan (e ∷ es) run s a t (inl w) (inl h) = absurd (let f = w.0 in let g = h.1 in cc)
asked_after plans plan (e ∷ es) run s a t (inl w) (inr h) = absurd (asked_once es e a w.0 run.0 (ask_was_made es a t h))
asked_after plans plan (e ∷ es) run s a t (inr w) (inl h) = (let ready = wanted_ready plan es s a w in inl (h.0, h.1, ready.0, ready.1))
asked_after plans plan (e ∷ es) run s a t (inr w) (inr h) = inr (asked_after plans plan es run.2 s a t w h)

pub law_asked : (plans : ℕ → Plan) (es : List Event) → IsRun plans es → (s : ℕ) (a : Ticket) (time : Timestamp) → WantedAfter (plans s) es s a → Has es (Answered a (Ok time)) → WasAskedFor (plans s) es s (version_of time)
law_asked plans es run s a time w h = let g = was_timed plans es run a time h in (g.0, g.1, g.2, asked_after plans (plans s) es run s a g.0 w g.3, g.4, g.5)

pub law_given : (plans : ℕ → Plan) (es : List Event) → IsRun plans es → (a : Ticket) (time : Timestamp) → Has es (Answered a (Ok time)) → WasGiven es (version_of time)
law_given plans es run a time h = let g = was_timed plans es run a time h in (g.0, g.1, g.2, version_of time, g.4, g.5, omega arith)
