-- What a map by key has at another key, and what a list contains.
use Rattle.std.proofs.Common.{◌≡◌, ◌≢◌, inl, inr, Bool, true, false, List, [], ◌∷◌, refl, sym, Ordering, Less, Equal, Greater, arith}
use Rattle.std.proofs.lemmas.Bool.{false≢true}
use Rattle.std.proofs.lemmas.Bool.Decides.{nat_tests}
use Rattle.std.proofs.lemmas.Map.Lookups.{exact_bytes}
use Rattle.std.specs.BTreeMap.{is_at}
use Rattle.std.specs.Bool.{Decides, MatchBool}
use Rattle.std.specs.Cmp.Lexicographic.{slice_cmp}
use Rattle.std.specs.List.{list_any}
use Rattle.std.specs.Ordering.{is_eq, nat_cmp}
use Rattle.std.specs.Prelude.{◌&&◌, ◌||◌, nat_eq}
use Rattle.txn_kv.specs.declared.region.RegionVerId.{RegionVerId}
use Rattle.txn_history.specs.Among.{IsAmong}
use Rattle.txn_history.specs.Plan.{Key}

-- a key is at no other
pub other_key : (p q : Key) → q ≢ p → is_at (slice_cmp nat_cmp p) q ≡ false
other_key p q other = by (slice_cmp nat_cmp p q) (λ e. other (sym (exact_bytes p q e)))
  where
    by : (o : Ordering) → (o ≡ Equal → ⊥) → is_eq o ≡ false
    by Less n = refl
    by Equal n = absurd (n refl)
    by Greater n = refl

-- a list contains what a test by equality finds
pub among_any : {X : Type 0} (eq : X → X → Bool) → ((a b : X) → Decides (eq a b) (a ≡ b)) → (xs : List X) (x : X) → MatchBool (list_any (λ y. eq y x) xs) (IsAmong xs x) (IsAmong xs x → ⊥)
among_any eq d [] x = λ a. a
among_any eq d (y ∷ ys) x = by (eq y x) (d y x) (list_any (λ z. eq z x) ys) (among_any eq d ys x)
  where
    by : (b : Bool) → Decides b (y ≡ x) → (r : Bool) → MatchBool r (IsAmong ys x) (IsAmong ys x → ⊥) → MatchBool (b || r) (IsAmong (y ∷ ys) x) (IsAmong (y ∷ ys) x → ⊥)
    by true e r m = inl (e.0 refl)
    by false e true m = inr m
    by false e false m = λ a. elim a [ inl s ↦ false≢true (e.1 s) | inr t ↦ m t ]

-- two versions of regions are one where each of their numbers is
pub same_version : (a b : RegionVerId) → Decides (nat_eq a.id b.id && (nat_eq a.conf_ver b.conf_ver && nat_eq a.ver b.ver)) (a ≡ b)
same_version a b = (λ e. grind (arith, nat_tests), λ e. grind (arith, nat_tests))
