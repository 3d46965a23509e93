-- A vector whose elements are written back as they were is the same vector.
use Rattle.std.proofs.Common.{◌≡◌, ◌≤◌, ℕ, List, ◌++◌, length, take, drop, sym, ap, subst, ◌∙◌}
use Rattle.std.proofs.Math.Seq.{take-append_seam}
use Rattle.std.proofs.Props.{props}
use Rattle.std.specs.Vec.{with_items}
use Rattle.std.specs.declared.vec.Vec.{Vec}

pub ok_prop : (n m c : ℕ) → IsProp ((n ≡ m) × (n ≤ c))
ok_prop n m c = hlevel props

pub items_same : {X Z : Type 0} (v : Vec X Z) (ws : List X) → v.items ≡ ws → (ok : (v.len ≡ length ws) × (v.len ≤ v.cap)) → record { ptr = v.ptr; len = v.len; cap = v.cap; alloc = v.alloc; items = ws; ok = ok; small = v.small } ≡ v
items_same v ws e =
    let P : List _ → Type 0 = λ items. (ok : (v.len ≡ length items) × (v.len ≤ v.cap)) → record { ptr = v.ptr; len = v.len; cap = v.cap; alloc = v.alloc; items = items; ok = ok; small = v.small } ≡ v in
    subst P e (λ ok. ap (λ o. record { ptr = v.ptr; len = v.len; cap = v.cap; alloc = v.alloc; items = v.items; ok = o; small = v.small }) (ok_prop v.len (length v.items) v.cap ok v.ok))

whole : {X Z : Type 0} (v : Vec X Z) (ws : List X) → ws ≡ v.items → take v.len (ws ++ drop (length ws) v.items) ≡ v.items
whole v ws e =
    let P : List _ → Type 0 = λ xs. take v.len (xs ++ drop (length xs) v.items) ≡ v.items in
    subst P (sym e) (ap (λ n. take n (v.items ++ drop (length v.items) v.items)) v.ok.0 ∙ take-append_seam v.items (drop (length v.items) v.items))

pub with_items-same : {X Z : Type 0} (v : Vec X Z) (ws : List X) → ws ≡ v.items → with_items v ws ≡ v
with_items-same v ws e = items_same v _ (sym (whole v ws e)) _
