-- What is so of the clients is so of them with their heartbeats.
use Rattle.std.specs.Prelude.{◌≡◌, ℕ, List, [], ◌∷◌, map, Result}
use Rattle.std.proofs.Common.{inl, inr, ap, ◌∙◌, subst}
use Rattle.txn_history.specs.Event.{Event}
use Rattle.txn_history.specs.Event.Event.{Sent}
use Rattle.txn_history.specs.Meaning.{Meaning}
use Rattle.txn_kv.specs.declared.errors.Error.{Error}
use Rattle.txn_kv.specs.declared.request.Request.{Request}
use Rattle.txn_kv.specs.declared.ticket.Ticket.{Ticket}
use Rattle.txn_report.specs.declared.outcome.Outcome.{Outcome}
use Rattle.txn_side.specs.Arising.{Arises, IsOutside}
use Rattle.txn_side.specs.Doubt.{itself}
use Rattle.txn_side.specs.Sight.{Sight, nobody}
use Rattle.txn_side.specs.Trace.{IsLonger, Trace}
use Rattle.txn_side.specs.Waiting.{Awaited, IsDue, NoneWaits}
use Rattle.txn_heartbeats.specs.Beating.{AreFresh, with_beats}
use Rattle.txn_heartbeats.specs.Hearts.{ArisesIn, IsReady, IsUnbeaten, RestsIn, beats_of, sight_of, waits_of}
use Rattle.txn_heartbeats.specs.declared.heartbeats.Heartbeats.{Heartbeats}

-- clients of no line

nobody_by : (s : Sight) → s.crashed ≡ [] → s.groups ≡ [] → s.stands ≡ [] → s.nexts.calls ≡ [] → s.nexts.beats ≡ [] → s ≡ nobody
nobody_by s c g t n b = λ i. record { crashed = c i; groups = g i; stands = t i; nexts = record { calls = n i; beats = b i } }

pub nobody_inside : (beats : List ℕ) (s : Sight) → IsUnbeaten s → with_beats beats s ≡ nobody → s ≡ nobody
nobody_inside beats s unbeaten e =
    let calls = ap (λ (x : Sight). x.nexts.calls) e in
    nobody_by s (ap (λ (x : Sight). x.crashed) e) (ap (λ (x : Sight). x.groups) e) (ap (λ (x : Sight). x.stands) e) calls (unbeaten ∙ ap (map (λ (n : ℕ). 1)) calls)

module _ {S H : Type 0} (sight : S → Sight) (b : Heartbeats S H) where
  pub nobody_waits_so : (waits : S → ℕ → Awaited → Type 0) → (sight b.side ≡ nobody → NoneWaits (waits b.side)) → sight_of sight b ≡ nobody → NoneWaits (waits_of sight waits b)
  nobody_waits_so waits none e n a w = none (nobody_inside (beats_of b) (sight b.side) w.0 e) n a w.1

  pub nobody_rests_so : (rests : S → Trace → Type 0) → (sight b.side ≡ nobody → (t : Trace) → t.owed ≡ [] → rests b.side t) → sight_of sight b ≡ nobody → (t : Trace) → t.owed ≡ [] → RestsIn sight rests b t
  nobody_rests_so rests all e t owed unbeaten = all (nobody_inside (beats_of b) (sight b.side) unbeaten e) t owed

  pub rests_longer_so : (rests : S → Trace → Type 0) → ((t longer : Trace) → IsLonger t longer → rests b.side t → rests b.side longer) → (t longer : Trace) → IsLonger t longer → RestsIn sight rests b t → RestsIn sight rests b longer
  rests_longer_so rests more t longer is r unbeaten = more t longer is (r unbeaten)

  -- what is due
  pub due_so : (waits : S → ℕ → Awaited → Type 0) → IsUnbeaten (sight b.side) → IsDue (waits b.side) (sight b.side) → IsDue (waits_of sight waits b) (sight_of sight b)
  due_so waits unbeaten due n c at lives = elim (due n c at lives) [ inl w ↦ inl (w.0, (unbeaten, w.1)) | inr g ↦ inr (record { group = g.group; out = g.out; own = g.own }) ]

-- what happened

outside_sent : (e : Event) (t : Ticket) (r : Request) → IsOutside e → e ≡ Sent t r → ⊥
outside_sent e t r outside same = subst IsOutside same outside

pub fresh_outside : (beats : List ℕ) (h : List Event) (e : Event) → IsOutside e → AreFresh beats h → AreFresh beats (e ∷ h)
fresh_outside beats h e outside fresh t r has beat = elim has [ inl same ↦ absurd (outside_sent e t r outside same) | inr was ↦ fresh t r was beat ]

pub nothing_fresh : (beats : List ℕ) → AreFresh beats []
nothing_fresh beats t r has beat = absurd has

module _ {S H : Type 0} (arises : S → List Event → Type 0) (holds : S → List Event → ℕ → Outcome → Type 0) (b : Heartbeats S H) where
  pub nobody_arises_so : {A : Type 0} (ready : S → Type 0) (sight : S → Sight) (m : Meaning H (Result A Error)) → (ready b.side → sight b.side ≡ nobody → arises b.side []) → IsReady ready sight m b → sight_of sight b ≡ nobody → ArisesIn arises b []
  nobody_arises_so ready sight m all r e = record { side = all r.side (nobody_inside (beats_of b) (sight b.side) r.unbeaten e); fresh = nothing_fresh (beats_of b) }

  pub arises_outside : (h : List Event) (e : Event) → IsOutside e → ArisesIn arises b h → Arises (arises b.side) (holds b.side) (holds b.side h) itself (e ∷ h) []
      → Arises (ArisesIn arises b) (holds b.side) (holds b.side h) itself (e ∷ h) []
  arises_outside h e outside was side = record {
    now = record { side = side.now; fresh = fresh_outside (beats_of b) h e outside was.fresh };
    kept = side.kept;
    answers = side.answers;
    says = side.says;
  }
