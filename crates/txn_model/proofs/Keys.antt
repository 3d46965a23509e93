-- The order of keys. No other proof looks into it.
use Rattle.std.proofs.Common.{◌≤◌, ◌≡◌, true, false, [], ◌∷◌, refl, ap, ◌∙◌, subst, arith}
use Rattle.std.specs.Ordering.{is_eq, ordering_index, ordering_reverse}
use Rattle.std.specs.declared.cmp.Ordering.{Ordering}
use Rattle.std.specs.declared.cmp.Ordering.TheVariants.{Less, Equal, Greater}
use Rattle.std.specs.Cmp.Lexicographic.{texts_ties}
use Rattle.std.proofs.lemmas.Bool.Decides.{nat_tests}
use Rattle.std.proofs.lemmas.Cmp.{nat_list_cmp_total, tied_itself}
use Rattle.txn_model.specs.Cells.{Key, key_eq, key_cmp}

pub same_key : (a b : Key) → key_eq a b ≡ true → a ≡ b
same_key [] [] h = refl
same_key [] (y ∷ ys) h = grind arith
same_key (x ∷ xs) [] h = grind arith
same_key (x ∷ xs) (y ∷ ys) h = grind (arith, nat_tests, same_key xs ys)

pub key_itself : (a : Key) → key_eq a a ≡ true
key_itself [] = refl
key_itself (x ∷ xs) = grind (arith, nat_tests, key_itself xs)

pub key_cmp_itself : (a : Key) → key_cmp a a ≡ Equal
key_cmp_itself a = tied_itself nat_list_cmp_total a

pub less_trans : (a b c : Key) → key_cmp a b ≡ Less → key_cmp b c ≡ Less → key_cmp a c ≡ Less
less_trans a b c = nat_list_cmp_total.trans a b c

pub same_if_equal : (a b : Key) → key_cmp a b ≡ Equal → a ≡ b
same_if_equal a b h = same_key a b (texts_ties a b ∙ ap is_eq h)

pub less_if_greater : (a b : Key) → key_cmp a b ≡ Greater → key_cmp b a ≡ Less
less_if_greater a b h = nat_list_cmp_total.antisymm b a ∙ ap ordering_reverse h

pub differs_if_less : (a b : Key) → key_cmp a b ≡ Less → key_eq a b ≡ false
differs_if_less a b h = texts_ties a b ∙ ap is_eq h

pub differs_if_greater : (a b : Key) → key_cmp a b ≡ Less → key_eq b a ≡ false
differs_if_greater a b h = texts_ties b a ∙ ap is_eq (nat_list_cmp_total.antisymm b a ∙ ap ordering_reverse h)

pub order_cases : (a b : Key) {G : Type 0} → (key_cmp a b ≡ Less → G) → (a ≡ b → G) → (key_cmp b a ≡ Less → G) → G
order_cases a b {G} f g h = by (key_cmp a b) refl
  where
    by : (o : Ordering) → key_cmp a b ≡ o → G
    by Less e = f e
    by Equal e = g (same_if_equal a b e)
    by Greater e = h (less_if_greater a b e)

pub greater_if_less : (a b : Key) → key_cmp a b ≡ Less → key_cmp b a ≡ Greater
greater_if_less a b h = nat_list_cmp_total.antisymm b a ∙ ap ordering_reverse h

index_small : (o : Ordering) → ordering_index o ≤ 2
index_small Less = omega arith
index_small Equal = omega arith
index_small Greater = omega arith

-- what a search compares rises along the keys
pub rises : (a b k : Key) → key_cmp a b ≡ Less → ordering_index (key_cmp a k) ≤ ordering_index (key_cmp b k)
rises a b k h = by (key_cmp b k) refl
  where
    by : (o : Ordering) → key_cmp b k ≡ o → ordering_index (key_cmp a k) ≤ ordering_index o
    by Less e = rw (less_trans a b k h e) (omega arith)
    by Equal e = let below : key_cmp a k ≡ Less = subst (λ q. key_cmp a q ≡ Less) (same_if_equal b k e) h in rw below (omega arith)
    by Greater e = index_small (key_cmp a k)
