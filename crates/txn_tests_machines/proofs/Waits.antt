-- Where there are no clients, nothing is waited for, and no line has a client.
use Rattle.std.proofs.Common.{◌≡◌, ◌&&◌, ℕ, Bool, List, [], ◌∷◌, ◌++◌, map, None, refl, sym, ap, ◌∙◌}
use Rattle.std.proofs.lemmas.List.{map-append}
use Rattle.std.proofs.lemmas.List.Elements.{All-nil}
use Rattle.std.specs.List.{All}
use Rattle.std.specs.Prelude.{⊤}
use Rattle.txn_lines.specs.declared.act.Act.{Act}
use Rattle.txn_side.specs.Sight.{Acts, Asks, Stand, client_at, crash, free, lives, opened, without}
use Rattle.txn_side.specs.Sight.Stand.{Idle}
use Rattle.txn_side.specs.Trace.{EndsFor, HowCallsFail, Trace, with_posted}
use Rattle.txn_side.specs.Waiting.{Awaited, WaitsOn}
use Rattle.txn_side.specs.declared.turn.Posting.{Posting}
use Rattle.txn_tests_machines.specs.Nobody.{idle_at, nobody_at, none}

pub none_waits_on : (Hears : ℕ → Awaited → Type 0) (posted : List Posting) (old new : List ℕ) → WaitsOn Hears posted none none (nobody_at old) (nobody_at new)
none_waits_on Hears posted old new = record { lines = λ line a h. absurd h; groups = λ g out. absurd (let e = out.1 in cc) }

-- and nothing fails
abbrev pub never : HowCallsFail
never kind begun heard error = ⊥

pub none_rests : (t : Trace) → ⊤ × All (EndsFor never (with_posted [] t)) []
none_rests t = (tt, All-nil (EndsFor never (with_posted [] t)))

-- what is seen

pub opened_nobody : (lines new : List ℕ) → new ≡ lines ++ 0 ∷ [] → nobody_at new ≡ opened (nobody_at lines)
opened_nobody lines new e = ap nobody_at e ∙ (λ i. record {
  crashed = [];
  groups = [];
  stands = map-append (λ (n : ℕ). Idle) lines (0 ∷ []) i;
  nexts = record { calls = map-append (λ (n : ℕ). 1) lines (0 ∷ []) i; beats = map-append (λ (n : ℕ). 1) lines (0 ∷ []) i };
})

pub crashed_nobody : (lines : List ℕ) (line : ℕ) → nobody_at lines ≡ crash line (nobody_at lines)
crashed_nobody lines line = ap (λ (x : Stand). record (nobody_at lines) { crashed = without (client_at x) [] }) (sym (idle_at lines line))

pub asks_nobody : (begins : Bool) (lines : List ℕ) (line : ℕ) → Asks begins line (nobody_at lines) (nobody_at lines) None
asks_nobody begins lines line = (ap (λ (x : Stand). lives [] (client_at x)) (idle_at lines line), refl)

pub acts_nobody : (act : Act) (lines : List ℕ) (line : ℕ) → Acts act line (nobody_at lines) (nobody_at lines) None
acts_nobody act lines line = (ap (λ (x : Stand). lives [] (client_at x) && free x) (idle_at lines line), refl)
