-- Histories that begin as another.
use Rattle.std.proofs.Common.{ℕ, inl, inr, Bool, List, [], ◌∷◌, refl, subst}
use Rattle.txn_history.specs.Event.{Event}
use Rattle.txn_history.specs.Posted.{Errand, Within, after, posting}
use Rattle.txn_law.specs.Part.{IsPart}

pub part_itself : (h : List Event) → IsPart h h
part_itself [] = refl
part_itself (e ∷ h) = inl refl

-- what stays with each event stays as the history grows
pub part_carries : (P : List Event → Type 0) → ((e : Event) (h : List Event) → P h → P (e ∷ h)) → (longer h : List Event) → IsPart longer h → P h → P longer
part_carries P step [] h part p = subst P part p
part_carries P step (e ∷ es) h (inl part) p = subst P part p
part_carries P step (e ∷ es) h (inr part) p = step e es (part_carries P step es h part p)

pub part_trans : (a b c : List Event) → IsPart a b → IsPart b c → IsPart a c
part_trans a b c p q = part_carries (λ x. IsPart x c) (λ e h r. inr r) a b p q

pub part_after : (line : ℕ) (beat : Bool) (h : List Event) (rs : List Errand) → IsPart (after line beat h rs) h
part_after line beat h [] = part_itself h
part_after line beat h (r ∷ rs) = part_trans (after line beat (posting line beat r ∷ h) rs) (posting line beat r ∷ h) h (part_after line beat (posting line beat r ∷ h) rs) (inr (part_itself h))

pub part_within : (longer h : List Event) → IsPart longer h → Within h longer
part_within longer h part = part_carries (Within h) (λ e es w x g. inr (w x g)) longer h part (λ x g. g)
