-- Which timestamps the calls name that end in parts of a turn.
use Rattle.std.proofs.Common.{◌≡◌, ℕ, List, [], ◌∷◌, ◌++◌, Some, None, sym, ap, ◌∙◌, subst, append-nil, append_assoc}
use Rattle.std.proofs.lemmas.List.Elements.{All-append, All-cons, All-nil, All-weaker}
use Rattle.std.specs.List.{All}
use Rattle.std.specs.Prelude.{IfOk, Result, Ok, Err}
use Rattle.txn_report.specs.declared.outcome.Outcome.{Outcome}
use Rattle.txn_side.specs.Sight.{Names, number_of}
use Rattle.txn_side.specs.declared.turn.Ending.{Ending}
use Rattle.txn_side.specs.declared.turn.Turn.{Turn}
use Rattle.txn_clients.specs.Going.{NamesIn}

pub none_named : (o : Outcome) (version : ℕ) → number_of o ≡ None → number_of o ≡ Some version → ⊥
none_named o version e f = no (sym e ∙ f)
  where
    no : None ≡ Some version → ⊥
    no q = cc

-- no call ended
pub names_quiet : (R : ℕ → ℕ → Type 0) (from to : Turn) → to.ended ≡ from.ended → NamesIn R from to
names_quiet R from to e = record { more = []; ended = ap (λ v. v.items) e ∙ sym (append-nil from.ended.items); named = All-nil (Names R) }

-- one ended
pub names_one : (R : ℕ → ℕ → Type 0) (from to : Turn) (x : Ending) → to.ended.items ≡ from.ended.items ++ x ∷ [] → ((version : ℕ) → number_of x.outcome ≡ Some version → R x.line version) → NamesIn R from to
names_one R from to x ended named = record { more = x ∷ []; ended = ended; named = All-cons (Names R) x [] named (All-nil (Names R)) }

-- one part after another
pub names_then : (R : ℕ → ℕ → Type 0) (from via to : Turn) → NamesIn R from via → NamesIn R via to → NamesIn R from to
names_then R from via to f g = record {
  more = f.more ++ g.more;
  ended = g.ended ∙ ap (λ es. es ++ g.more) f.ended ∙ append_assoc from.ended.items f.more g.more;
  named = All-append (Names R) f.more g.more f.named g.named;
}

-- before or behind a part in which no call ended
pub names_after : (R : ℕ → ℕ → Type 0) (from via to : Turn) → via.ended ≡ from.ended → NamesIn R via to → NamesIn R from to
names_after R from via to e f = names_then R from via to (names_quiet R from via e) f

pub names_before : (R : ℕ → ℕ → Type 0) (from via to : Turn) → NamesIn R from via → to.ended ≡ via.ended → NamesIn R from to
names_before R from via to f e = names_then R from via to f (names_quiet R via to e)

-- what may be named is more
pub named_weaker : (R S : ℕ → ℕ → Type 0) → ((line version : ℕ) → R line version → S line version) → (es : List Ending) → All (Names R) es → All (Names S) es
named_weaker R S w es named = All-weaker (Names R) (Names S) (λ e n v q. w e.line v (n v q)) es named

pub names_weaker : (R S : ℕ → ℕ → Type 0) (from to : Turn) → ((line version : ℕ) → R line version → S line version) → NamesIn R from to → NamesIn S from to
names_weaker R S from to w f = record { more = f.more; ended = f.ended; named = named_weaker R S w f.more f.named }

-- a whole step
pub named_all : (R : ℕ → ℕ → Type 0) (from via to : Turn) → from.ended.items ≡ [] → NamesIn R from via → to.ended ≡ via.ended → All (Names R) to.ended.items
named_all R from via to empty f e = let g = names_before R from via to f e in subst (All (Names R)) (sym (g.ended ∙ ap (λ es. es ++ g.more) empty)) g.named

pub named_so : {E : Type 0} (r : Result Turn E) (R S : ℕ → ℕ → Type 0) → ((line version : ℕ) → R line version → S line version) → IfOk r (λ t. All (Names R) t.ended.items) → IfOk r (λ t. All (Names S) t.ended.items)
named_so (Ok t) R S w h = named_weaker R S w t.ended.items h
named_so (Err e) R S w h = tt
