-- Items that go into batches one by one.
use Rattle.std.proofs.Common.{◌≡◌, ℕ, ◌+◌, ◌<◌, ◌≤◌, List, [], ◌∷◌, ◌++◌, length, refl, sym, ap, ◌∙◌, append-nil, append_assoc, arith}
use Rattle.std.specs.List.{All, sum_by}
use Rattle.std.proofs.lemmas.List.Concat.{flat_map-append}
use Rattle.std.proofs.lemmas.List.Elements.{All-nil, All-push, All-cons, All-head, All-tail}
use Rattle.std.proofs.lemmas.List.Sums.{sum_by_push}
use Rattle.txn_shard.specs.Batches.{joined, IsBatch, IsFullBefore, AreFull, AreBatches}

-- what is done so far, of which the last batch is still open; it is empty only where nothing is done
abbrev pub AreUnderWay : {X : Type 0} → (X → ℕ) → ℕ → List X → List (List X) → List X → Type 0
AreUnderWay size limit done closed [] = (closed ≡ []) × (done ≡ [])
AreUnderWay size limit done closed (x ∷ xs) = AreBatches size limit done (closed ++ (x ∷ xs) ∷ [])

joined_push : {X : Type 0} (bs : List (List X)) (b : List X) → joined (bs ++ b ∷ []) ≡ joined bs ++ b
joined_push bs b = flat_map-append (λ l. l) bs (b ∷ []) ∙ ap (λ l. joined bs ++ l) (append-nil b)

-- the last batch gets one more item
full_grown : {X : Type 0} (size : X → ℕ) (limit : ℕ) (bs : List (List X)) (x : X) (xs ys : List X) → AreFull size limit (bs ++ (x ∷ xs) ∷ []) → AreFull size limit (bs ++ (x ∷ ys) ∷ [])
full_grown size limit [] x xs ys f = (tt, tt)
full_grown size limit (b ∷ []) x xs ys f = (f.0, (tt, tt))
full_grown size limit (b ∷ c ∷ bs) x xs ys f = (f.0, full_grown size limit (c ∷ bs) x xs ys f.1)

-- one more batch, begun where the last one was full
full_pushed : {X : Type 0} (size : X → ℕ) (limit : ℕ) (bs : List (List X)) (b c : List X) → AreFull size limit (bs ++ b ∷ []) → IsFullBefore size limit b c → AreFull size limit ((bs ++ b ∷ []) ++ c ∷ [])
full_pushed size limit [] b c f e = (e, (tt, tt))
full_pushed size limit (a ∷ []) b c f e = (f.0, (e, (tt, tt)))
full_pushed size limit (a ∷ d ∷ bs) b c f e = (f.0, full_pushed size limit (d ∷ bs) b c f.1 e)

all_but_last : {X : Type 0} (P : X → Type 0) (bs : List X) (b : X) → All P (bs ++ b ∷ []) → All P bs
all_but_last P [] b a = All-nil P
all_but_last P (x ∷ xs) b a = All-cons P x xs (All-head P x (xs ++ b ∷ []) a) (all_but_last P xs b (All-tail P x (xs ++ b ∷ []) a))

-- an item alone is a batch
lone : {X : Type 0} (size : X → ℕ) (limit : ℕ) (x : X) → IsBatch size limit (x ∷ [])
lone size limit x = (omega arith, λ more. absurd (omega arith))

-- the first item of all
pub begun : {X : Type 0} (size : X → ℕ) (limit : ℕ) (done : List X) (closed : List (List X)) (x : X) → (closed ≡ []) → (done ≡ []) → AreUnderWay size limit (done ++ x ∷ []) closed (x ∷ [])
begun size limit done closed x e f = rw (e, f) (record {
  in_order = refl;
  each = All-push (IsBatch size limit) [] (x ∷ []) (All-nil (IsBatch size limit)) (lone size limit x);
  full = (tt, tt);
})

-- an item that the last batch has room for
pub grown : {X : Type 0} (size : X → ℕ) (limit : ℕ) (done : List X) (closed : List (List X)) (last : List X) (x : X)
    → AreUnderWay size limit done closed last → (0 < length last → sum_by size last + size x < limit) → AreUnderWay size limit (done ++ x ∷ []) closed (last ++ x ∷ [])
grown size limit done closed [] x u room = begun size limit done closed x u.0 u.1
grown size limit done closed (y ∷ ys) x u room = record {
  in_order = joined_push closed (y ∷ (ys ++ x ∷ [])) ∙ sym (append_assoc (joined closed) (y ∷ ys) (x ∷ [])) ∙ ap (λ l. l ++ x ∷ []) (sym (joined_push closed (y ∷ ys)) ∙ u.in_order);
  each = All-push (IsBatch size limit) closed (y ∷ (ys ++ x ∷ [])) (all_but_last (IsBatch size limit) closed (y ∷ ys) u.each)
      (omega arith, λ more. rw (sum_by_push size (y ∷ ys) x) (room (omega arith)));
  full = full_grown size limit closed y ys (ys ++ x ∷ []) u.full;
}

-- an item that would make the last batch reach the limit
pub closed_with : {X : Type 0} (size : X → ℕ) (limit : ℕ) (done : List X) (closed : List (List X)) (last : List X) (x : X)
    → AreUnderWay size limit done closed last → 0 < length last → limit ≤ sum_by size last + size x → AreUnderWay size limit (done ++ x ∷ []) (closed ++ last ∷ []) (x ∷ [])
closed_with size limit done closed [] x u some full = absurd (omega arith)
closed_with size limit done closed (y ∷ ys) x u some full = record {
  in_order = joined_push (closed ++ (y ∷ ys) ∷ []) (x ∷ []) ∙ ap (λ l. l ++ x ∷ []) u.in_order;
  each = All-push (IsBatch size limit) (closed ++ (y ∷ ys) ∷ []) (x ∷ []) u.each (lone size limit x);
  full = full_pushed size limit closed (y ∷ ys) (x ∷ []) u.full full;
}

-- nothing is last
pub ended : {X : Type 0} (size : X → ℕ) (limit : ℕ) (done : List X) (closed : List (List X)) (last : List X) → AreUnderWay size limit done closed last → length last ≡ 0 → AreBatches size limit done closed
ended size limit done closed [] u e = rw (u.0, u.1) (record { in_order = refl; each = All-nil (IsBatch size limit); full = tt })
ended size limit done closed (x ∷ xs) u e = absurd (omega arith)
