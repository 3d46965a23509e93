-- What stands in a part of a run.
use Rattle.std.proofs.Common.{◌≡◌, ℕ, inl, inr, Bool, true, false, List, [], ◌∷◌, refl, subst}
use Rattle.std.specs.Prelude.{cond}
use Rattle.txn_history.specs.Event.{Event, Has}
use Rattle.txn_history.specs.Parts.{line_of, is_of, part_of}
use Rattle.txn_history.specs.Posted.{Within}

pub part_within : (lines : ℕ → Bool) (es : List Event) → Within (part_of lines es) es
part_within lines [] e h = h
part_within lines (x ∷ es) e h = by (part_within lines es e) (is_of lines (line_of x)) h
  where
    by : (Has (part_of lines es) e → Has es e) → (b : Bool) → Has (cond b (x ∷ part_of lines es) (part_of lines es)) e → Has (x ∷ es) e
    by rest true (inl g) = inl g
    by rest true (inr g) = inr (rest g)
    by rest false g = inr (rest g)

pub part_has : (lines : ℕ → Bool) (es : List Event) (e : Event) → Has es e → is_of lines (line_of e) ≡ true → Has (part_of lines es) e
part_has lines [] e h t = h
part_has lines (x ∷ es) e (inl h) t = subst (λ y. is_of lines (line_of y) ≡ true → Has (cond (is_of lines (line_of x)) (x ∷ part_of lines es) (part_of lines es)) y) h (λ f. rw f (inl refl)) t
part_has lines (x ∷ es) e (inr h) t = by (is_of lines (line_of x)) (part_has lines es e h t)
  where
    by : (b : Bool) → Has (part_of lines es) e → Has (cond b (x ∷ part_of lines es) (part_of lines es)) e
    by true g = inr g
    by false g = g
