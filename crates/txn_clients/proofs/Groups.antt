-- Which requests for timestamps are out as the clients go on.
use Rattle.std.proofs.Common.{[], ◌≡◌, ◌≢◌, ◌⊎◌, inl, inr, ℕ, ◌+◌, ◌<◌, List, ◌++◌, length, get_or, set, Option, Some, None, sym, ap, ◌∙◌, arith}
use Rattle.std.proofs.lemmas.List.{get_or-append-add, get_or_append_left, length-append}
use Rattle.std.specs.List.{Any}
use Rattle.txn_side.specs.Sight.{Group, GroupsGo, IsAsk, IsOut, Sight}
use Rattle.txn_side.specs.declared.turn.Posting.{Posting}
use Rattle.txn_clients.specs.Groups.{IsLeft}
use Rattle.txn_clients.proofs.Stands.{or_other, or_same, same_line}

pub any_ahead : {X : Type 0} (P : X → Type 0) (xs ys : List X) → Any P xs → Any P (xs ++ ys)
any_ahead P xs ys a =
    let within = a.2 in
    let long = length-append xs ys in
    (a.0, a.1, omega (arith, within, long), get_or_append_left xs ys a.1 a.0 within ∙ a.3, a.4)

pub any_behind : {X : Type 0} (P : X → Type 0) (xs ys : List X) → Any P ys → Any P (xs ++ ys)
any_behind P xs ys a =
    let within = a.2 in
    let long = length-append xs ys in
    (length xs + a.0, a.1, omega (arith, within, long), get_or-append-add xs ys a.0 a.1 ∙ a.3, a.4)

-- one step after another
pub groups_then : (ps qs : List Posting) (old mid new : Sight) → GroupsGo ps old mid → GroupsGo qs mid new → GroupsGo (ps ++ qs) old new
groups_then ps qs old mid new f k g out = by (k g out)
  where
    before : IsOut old g ⊎ Any (IsAsk g) ps → IsOut old g ⊎ Any (IsAsk g) (ps ++ qs)
    before (inl o) = inl o
    before (inr a) = inr (any_ahead (IsAsk g) ps qs a)

    by : IsOut mid g ⊎ Any (IsAsk g) qs → IsOut old g ⊎ Any (IsAsk g) (ps ++ qs)
    by (inl o) = before (f g o)
    by (inr a) = inr (any_behind (IsAsk g) ps qs a)

-- what was so before is so now, where more is posted
pub groups_more : (old new : Sight) (g : Group) (posted : List Posting) → IsOut old g ⊎ Any (IsAsk g) [] → IsOut old g ⊎ Any (IsAsk g) posted
groups_more old new g posted (inl o) = inl o
groups_more old new g posted (inr a) = absurd (none a)
  where
    none : Any (IsAsk g) [] → ⊥
    none b = let within = b.2 in omega (arith, within)

pub groups_between : (old mid : Sight) (g : Group) (posted : List Posting) → GroupsGo [] old mid → IsOut mid g ⊎ Any (IsAsk g) posted → IsOut old g ⊎ Any (IsAsk g) posted
groups_between old mid g posted f (inl o) = groups_more old mid g posted (f g o)
groups_between old mid g posted f (inr a) = inr a

-- it is out at some client
abbrev pub IsIn : List (Option Group) → Group → Type 0
IsIn gs g = (c : ℕ) × (get_or gs c None ≡ Some g)

-- where what is out at a client was so before, all that is out was
pub left_in : (gs : List (Option Group)) (i : ℕ) (x : Option Group) (g : Group) → i < length gs → IsLeft (get_or gs i None) x → IsIn (set gs i x) g → IsIn gs g
left_in gs i x g within left (c, e) = by (same_line i c)
  where
    by : (c ≡ i) ⊎ (c ≢ i) → IsIn gs g
    by (inl same) = at left
      where
        here : x ≡ Some g
        here = sym (or_same gs i x None within) ∙ ap (λ n. get_or (set gs i x) n None) (sym same) ∙ e

        no : None ≡ Some g → ⊥
        no q = cc

        at : IsLeft (get_or gs i None) x → IsIn gs g
        at (inl none) = absurd (no (sym none ∙ here))
        at (inr kept) = (i, sym kept ∙ here)
    by (inr apart) = (c, sym (or_other gs i c x None apart) ∙ e)

-- where one goes out, all else that is out was so before
pub sent_in : (gs : List (Option Group)) (i : ℕ) (h g : Group) → i < length gs → IsIn (set gs i (Some h)) g → IsIn gs g ⊎ (h ≡ g)
sent_in gs i h g within (c, e) = by (same_line i c)
  where
    by : (c ≡ i) ⊎ (c ≢ i) → IsIn gs g ⊎ (h ≡ g)
    by (inl same) = inr (one (sym (or_same gs i (Some h) None within) ∙ ap (λ n. get_or (set gs i (Some h)) n None) (sym same) ∙ e))
      where
        one : Some h ≡ Some g → h ≡ g
        one q = cc
    by (inr apart) = inl (c, sym (or_other gs i c (Some h) None apart) ∙ e)
