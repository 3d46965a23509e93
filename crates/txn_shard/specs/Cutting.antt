-- A load that is cut into pieces, of which one is cut again.
use Rattle.std.proofs.Common.{◌≡◌, ◌≢◌, Bool, true, false, List, [], ◌∷◌, ◌++◌, refl, sym, ap, ◌∙◌, subst, append-nil, append_assoc, inl, inr}
use Rattle.std.specs.Prelude.{cond, ⊤}
use Rattle.std.specs.List.{All, filter}
use Rattle.std.proofs.lemmas.List.Concat.{flat_map-append}
use Rattle.std.proofs.lemmas.List.Elements.{All-append, All-cons, All-head, All-nil, All-tail, filter-append}
use Rattle.txn_history.specs.Among.{IsAmong}
use Rattle.txn_region.specs.Regions.{Key}
use Rattle.txn_shard.specs.Batches.{joined}
use Rattle.txn_shard.specs.Order.{comes_before, in_order, placed}
use Rattle.txn_shard.specs.Sorted.{Ascends, ascends_in_order, ascends_left, ascends_right, among_in_order, in_order_same}
use Rattle.txn_shard.specs.Shards.{AreJoined, ArePieces, Range, holds, IsOnce, IsBelow, IsBelowAll, AreAscending, IsPartition}

-- Items

pub AreJoined-whole : {X : Type 0} (items : List X) → AreJoined items (items ∷ [])
AreJoined-whole items = append-nil items

pub AreJoined-again : {X : Type 0} (whole piece : List X) (before parts behind : List (List X)) → AreJoined whole (before ++ piece ∷ behind) → AreJoined piece parts → AreJoined whole (before ++ parts ++ behind)
AreJoined-again whole piece before parts behind w p =
    flat_map-append (λ l. l) (before ++ parts) behind
    ∙ ap (λ l. l ++ joined behind) (flat_map-append (λ l. l) before parts ∙ ap (λ l. joined before ++ l) p)
    ∙ append_assoc (joined before) piece (joined behind)
    ∙ sym (flat_map-append (λ l. l) before (piece ∷ behind)) ∙ w

pub ArePieces-whole : {X : Type 0} (items : List X) → ArePieces items (items ∷ [])
ArePieces-whole items = record { joined = AreJoined-whole items; some = λ is. All-cons (λ piece. piece ≢ []) items [] is (All-nil (λ piece. piece ≢ [])) }

-- what holds of each of some holds of each of those behind the first of them
each_behind : {X : Type 0} (P : X → Type 0) (xs ys : List X) → All P (xs ++ ys) → All P ys
each_behind P [] ys a = a
each_behind P (x ∷ xs) ys a = each_behind P xs ys (All-tail P x (xs ++ ys) a)

each_before : {X : Type 0} (P : X → Type 0) (xs ys : List X) → All P (xs ++ ys) → All P xs
each_before P [] ys a = All-nil P
each_before P (x ∷ xs) ys a = All-cons P x xs (All-head P x (xs ++ ys) a) (each_before P xs ys (All-tail P x (xs ++ ys) a))

pub ArePieces-again : {X : Type 0} (whole piece : List X) (before parts behind : List (List X)) → ArePieces whole (before ++ piece ∷ behind) → ArePieces piece parts → ArePieces whole (before ++ parts ++ behind)
ArePieces-again {X} whole piece before parts behind w p = record {
  joined = AreJoined-again whole piece before parts behind w.joined p.joined;
  some = λ is.
      let from = each_behind some before (piece ∷ behind) (w.some is) in
      All-append some (before ++ parts) behind
      (All-append some before parts (each_before some before (piece ∷ behind) (w.some is)) (p.some (All-head some piece behind from)))
      (All-tail some piece behind from);
}
  where
    some : List X → Type 0
    some xs = xs ≢ []

-- a piece of items in order is in order
pub piece_in_order : {X : Type 0} (key : X → Key) (items piece : List X) (before behind : List (List X)) → AreJoined (in_order key items) (before ++ piece ∷ behind) → in_order key piece ≡ piece
piece_in_order key items piece before behind j =
    in_order_same key piece (ascends_left key piece (joined behind) (ascends_right key (joined before) (piece ++ joined behind)
    (subst (Ascends key) (sym j ∙ flat_map-append (λ l. l) before (piece ∷ behind)) (ascends_in_order key items))))

pub among_left : {X : Type 0} (xs ys : List X) (x : X) → IsAmong xs x → IsAmong (xs ++ ys) x
among_left [] ys x i = absurd i
among_left (y ∷ xs) ys x (inl e) = inl e
among_left (y ∷ xs) ys x (inr i) = inr (among_left xs ys x i)

among_right : {X : Type 0} (xs ys : List X) (x : X) → IsAmong ys x → IsAmong (xs ++ ys) x
among_right [] ys x i = i
among_right (y ∷ xs) ys x i = inr (among_right xs ys x i)

-- and its items are among those that were cut
pub piece_among : {X : Type 0} (key : X → Key) (items piece : List X) (before behind : List (List X)) → AreJoined (in_order key items) (before ++ piece ∷ behind) → (x : X) → IsAmong piece x → IsAmong items x
piece_among key items piece before behind j x i =
    among_in_order key items x (subst (λ l. IsAmong l x) (sym (flat_map-append (λ l. l) before (piece ∷ behind)) ∙ j)
    (among_right (joined before) (piece ++ joined behind) x (among_left piece (joined behind) x i)))

placed_some : {X : Type 0} (key : X → Key) (x : X) (ys : List X) → placed key x ys ≢ []
placed_some key x [] e = cc
placed_some key x (y ∷ ys) e = by (comes_before key y x) e
  where
    by : (b : Bool) → cond b (y ∷ placed key x ys) (x ∷ y ∷ ys) ≡ [] → ⊥
    by true e = cc
    by false e = cc

in_order_some : {X : Type 0} (key : X → Key) (items : List X) → items ≢ [] → in_order key items ≢ []
in_order_some key [] is e = is e
in_order_some key (x ∷ items) is e = placed_some key x (in_order key items) e

-- a piece of items that are not empty is not
pub some_piece : {X : Type 0} (key : X → Key) (items piece : List X) (before behind : List (List X)) → ArePieces (in_order key items) (before ++ piece ∷ behind) → items ≢ [] → piece ≢ []
some_piece key items piece before behind cut is =
    All-head (λ p. p ≢ []) piece behind (each_behind (λ p. p ≢ []) before (piece ∷ behind) (cut.some (in_order_some key items is)))

-- Ranges

once_itself : (range : Range) (key : Key) → IsOnce (holds range key) (filter (λ piece. holds piece key) (range ∷ []))
once_itself range key = by (holds range key)
  where
    by : (b : Bool) → IsOnce b (cond b (range ∷ []) [])
    by true = tt
    by false = tt

pub IsPartition-whole : (range : Range) → IsPartition range (range ∷ [])
IsPartition-whole range = record { once = once_itself range; ascending = (tt, tt) }

-- another piece in the place of one
once_instead : (b : Bool) (p q : Range) (fore rear : List Range) → IsOnce b (fore ++ p ∷ rear) → IsOnce b (fore ++ q ∷ rear)
once_instead true p q [] [] o = tt
once_instead true p q [] (x ∷ xs) o = absurd o
once_instead true p q (x ∷ []) rear o = absurd o
once_instead true p q (x ∷ y ∷ xs) rear o = absurd o
once_instead false p q [] rear o = absurd o
once_instead false p q (x ∷ xs) rear o = absurd o

-- the pieces that hold a key, where those of one piece are put in its place
once_parted : (b c : Bool) (p : Range) (fore parts rear : List Range) → IsOnce b (fore ++ cond c (p ∷ rear) rear) → IsOnce c parts → IsOnce b (fore ++ parts ++ rear)
once_parted b true p fore [] rear o i = absurd i
once_parted b true p fore (q ∷ []) rear o i = subst (IsOnce b) (sym (append_assoc fore (q ∷ []) rear)) (once_instead b p q fore rear o)
once_parted b true p fore (q ∷ r ∷ rest) rear o i = absurd i
once_parted b false p fore [] rear o i = subst (λ l. IsOnce b (l ++ rear)) (sym (append-nil fore)) o
once_parted b false p fore (q ∷ rest) rear o i = absurd i

once_again : (whole piece : Range) (before parts behind : List Range) (key : Key)
    → IsOnce (holds whole key) (filter (λ p. holds p key) (before ++ piece ∷ behind))
    → IsOnce (holds piece key) (filter (λ p. holds p key) parts)
    → IsOnce (holds whole key) (filter (λ p. holds p key) (before ++ parts ++ behind))
once_again whole piece before parts behind key w p =
    subst (IsOnce (holds whole key))
    (ap (λ l. l ++ filter f behind) (sym (filter-append f before parts)) ∙ sym (filter-append f (before ++ parts) behind))
    (once_parted (holds whole key) (holds piece key) piece (filter f before) (filter f parts) (filter f behind)
    (subst (IsOnce (holds whole key)) (filter-append f before (piece ∷ behind)) w) p)
  where
    f : Range → Bool
    f q = holds q key

-- each key of each part is one of the piece
abbrev pub AreInside : Range → List Range → Type 0
AreInside piece [] = ⊤
AreInside piece (part ∷ rest) = ((key : Key) → holds part key ≡ true → holds piece key ≡ true) × AreInside piece rest

none_holds : (key : Key) (part : Range) (parts : List Range) → IsOnce false (filter (λ p. holds p key) (part ∷ parts)) → holds part key ≡ false
none_holds key part parts o = by (holds part key) o
  where
    by : (b : Bool) → IsOnce false (cond b (part ∷ filter (λ p. holds p key) parts) (filter (λ p. holds p key) parts)) → b ≡ false
    by true o = absurd o
    by false o = refl

none_holds_rest : (key : Key) (part : Range) (parts : List Range) → IsOnce false (filter (λ p. holds p key) (part ∷ parts)) → IsOnce false (filter (λ p. holds p key) parts)
none_holds_rest key part parts o = by (holds part key) o
  where
    by : (b : Bool) → IsOnce false (cond b (part ∷ filter (λ p. holds p key) parts) (filter (λ p. holds p key) parts)) → IsOnce false (filter (λ p. holds p key) parts)
    by true o = absurd o
    by false o = o

-- a key that the piece does not hold is in no part
abbrev NoneOutside : Range → List Range → Type 0
NoneOutside piece parts = (key : Key) → holds piece key ≡ false → IsOnce false (filter (λ p. holds p key) parts)

inside : (piece : Range) (parts : List Range) → NoneOutside piece parts → AreInside piece parts
inside piece [] o = tt
inside piece (part ∷ parts) o = (first, inside piece parts (λ key e. none_holds_rest key part parts (o key e)))
  where
    first : (key : Key) → holds part key ≡ true → holds piece key ≡ true
    first key h = by (holds piece key) refl
      where
        by : (b : Bool) → holds piece key ≡ b → b ≡ true
        by true e = refl
        by false e = sym (none_holds key part parts (o key e)) ∙ h

pub partition_inside : (piece : Range) (parts : List Range) → IsPartition piece parts → AreInside piece parts
partition_inside piece parts p = inside piece parts (λ key e. subst (λ b. IsOnce b (filter (λ q. holds q key) parts)) e (p.once key))

-- what is below the piece is below its parts
below_parts : (a piece : Range) (parts behind : List Range) → IsBelow a piece → AreInside piece parts → IsBelowAll a behind → IsBelowAll a (parts ++ behind)
below_parts a piece [] behind b i r = r
below_parts a piece (part ∷ parts) behind b i r = ((λ j k f g. b j k f (i.0 k g)), below_parts a piece parts behind b i.1 r)

below_again : (a piece : Range) (before parts behind : List Range) → IsBelowAll a (before ++ piece ∷ behind) → AreInside piece parts → IsBelowAll a (before ++ parts ++ behind)
below_again a piece [] parts behind b i = below_parts a piece parts behind b.0 i b.1
below_again a piece (x ∷ before) parts behind b i = (b.0, below_again a piece before parts behind b.1 i)

above_parts : (part piece : Range) (behind : List Range) → ((key : Key) → holds part key ≡ true → holds piece key ≡ true) → IsBelowAll piece behind → IsBelowAll part behind
above_parts part piece [] i b = tt
above_parts part piece (x ∷ behind) i b = ((λ j k f g. b.0 j k (i j f) g), above_parts part piece behind i b.1)

below_both : (a : Range) (xs ys : List Range) → IsBelowAll a xs → IsBelowAll a ys → IsBelowAll a (xs ++ ys)
below_both a [] ys p q = q
below_both a (x ∷ xs) ys p q = (p.0, below_both a xs ys p.1 q)

ascending_parts : (piece : Range) (parts behind : List Range) → AreAscending parts → AreInside piece parts → IsBelowAll piece behind → AreAscending behind → AreAscending (parts ++ behind)
ascending_parts piece [] behind p i b a = a
ascending_parts piece (part ∷ parts) behind p i b a = (below_both part parts behind p.0 (above_parts part piece behind i.0 b), ascending_parts piece parts behind p.1 i.1 b a)

ascending_again : (piece : Range) (before parts behind : List Range) → AreAscending (before ++ piece ∷ behind) → AreAscending parts → AreInside piece parts → AreAscending (before ++ parts ++ behind)
ascending_again piece [] parts behind w p i = ascending_parts piece parts behind p i w.0 w.1
ascending_again piece (x ∷ before) parts behind w p i = (below_again x piece before parts behind w.0 i, ascending_again piece before parts behind w.1 p i)

pub IsPartition-again : (whole piece : Range) (before parts behind : List Range) → IsPartition whole (before ++ piece ∷ behind) → IsPartition piece parts → IsPartition whole (before ++ parts ++ behind)
IsPartition-again whole piece before parts behind w p = record {
  once = λ key. once_again whole piece before parts behind key (w.once key) (p.once key);
  ascending = ascending_again piece before parts behind w.ascending p.ascending (partition_inside piece parts p);
}

-- each key of a piece is one of the range
pub piece_inside : (range piece : Range) (before behind : List Range) → IsPartition range (before ++ piece ∷ behind) → (key : Key) → holds piece key ≡ true → holds range key ≡ true
piece_inside range piece before behind p = at before (partition_inside range (before ++ piece ∷ behind) p)
  where
    at : (xs : List Range) → AreInside range (xs ++ piece ∷ behind) → (key : Key) → holds piece key ≡ true → holds range key ≡ true
    at [] i = i.0
    at (x ∷ xs) i = at xs i.1
