-- Where there are no clients, no call waits.
use Rattle.std.specs.Prelude.{◌≡◌, ⊤, ℕ, List, [], ◌∷◌, Option, Some, None, map, refl}
use Rattle.std.proofs.Common.{zero, suc, sym, ap, ◌∙◌, subst, arith}
use Rattle.txn_history.specs.Event.{Event}
use Rattle.txn_side.specs.Arising.{Arises}
use Rattle.txn_side.specs.Doubt.{CallOf}
use Rattle.txn_side.specs.Sight.{Sight, stand_at}
use Rattle.txn_side.specs.Sight.Stand.{Idle}
use Rattle.txn_side.specs.Waiting.{Awaited, IsDue, waiting_at}

-- so many lines, at which nothing stands
abbrev pub nobody_at : List ℕ → Sight
nobody_at lines = record { crashed = []; groups = []; stands = map (λ (n : ℕ). Idle) lines; nexts = record { calls = map (λ (n : ℕ). 1) lines; beats = map (λ (n : ℕ). 1) lines } }

-- no line waits for anything
abbrev pub none : ℕ → Awaited → Type 0
none line a = ⊥

pub idle_at : (lines : List ℕ) (n : ℕ) → stand_at (map (λ (k : ℕ). Idle) lines) n ≡ Idle
idle_at lines zero = refl
idle_at [] (suc i) = refl
idle_at (x ∷ lines) (suc zero) = refl
idle_at (x ∷ lines) (suc (suc i)) = idle_at lines (suc i)

abbrev IsNothing : Option ℕ → Type 0
IsNothing None = Unit {0}
IsNothing (Some c) = ⊥

pub none_due : (lines : List ℕ) → IsDue none (nobody_at lines)
none_due lines n c waits live = absurd (subst IsNothing (sym (ap waiting_at (idle_at lines n)) ∙ waits) tt)

-- they can have arisen from each history
pub none_arises : (at : ℕ → CallOf) (h : List Event) → Arises (λ fs. ⊤) (λ fs x o. ⊤) (λ x o. ⊤) at h []
none_arises at h = record { now = tt; kept = λ x o k. tt; answers = λ k d low. tt; says = λ k d low. absurd (omega arith) }
