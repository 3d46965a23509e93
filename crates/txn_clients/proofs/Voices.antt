-- In whose name what stands at the lines posts.
use Rattle.std.proofs.Common.{◌≡◌, ◌≢◌, ◌⊎◌, inl, inr, ℕ, suc, List, sym, ap, ◌∙◌, subst, arith}
use Rattle.std.specs.Prelude.{⊤}
use Rattle.txn_side.specs.Sight.{Stand, stand_at}
use Rattle.txn_side.specs.Sight.Stand.{Asking, Calling, HasBegun, Idle, IsClient, Past, Working}
use Rattle.txn_clients.specs.Clients.{HearsFor}
use Rattle.txn_clients.specs.Matching.{AreMatched, IsCallOf}
use Rattle.txn_clients.specs.Waiting.{NoneHears, voice}
use Rattle.txn_clients.proofs.Stands.{called}

-- it posts in the name of its own line
abbrev IsOwn : Stand → Type 0
IsOwn Idle = ⊥
IsOwn (IsClient c) = ⊥
IsOwn (Asking c b) = ⊤
IsOwn (HasBegun c m) = ⊥
IsOwn (Calling c x b) = ⊥
IsOwn (Past c) = ⊥
IsOwn (Working c) = ⊤

named : (i n : ℕ) (s : Stand) → voice i s ≡ n → n ≢ 0 → ((suc i ≡ n) × IsOwn s) ⊎ ((c : ℕ) × (s ≡ HasBegun c n))
named i n Idle e some = absurd (some (sym e))
named i n (IsClient c) e some = absurd (some (sym e))
named i n (Asking c b) e some = inl (e, tt)
named i n (HasBegun c m) e some = inr (c, ap (HasBegun c) e)
named i n (Calling c x b) e some = absurd (some (sym e))
named i n (Past c) e some = absurd (some (sym e))
named i n (Working c) e some = inl (e, tt)

-- no two post in the name of one line
pub voice_once : (stands : List Stand) (i j n : ℕ) → AreMatched stands → n ≢ 0 → voice i (stand_at stands (suc i)) ≡ n → voice j (stand_at stands (suc j)) ≡ n → i ≡ j
voice_once stands i j n matched some e f = by (named i n (stand_at stands (suc i)) e some) (named j n (stand_at stands (suc j)) f some)
  where
    cross : (a b c : ℕ) → suc a ≡ n → IsOwn (stand_at stands (suc a)) → stand_at stands (suc b) ≡ HasBegun c n → ⊥
    cross a b c x own k = at (matched (suc b) c n k)
      where
        at : (n ≡ 0) ⊎ IsCallOf stands (suc b) n → ⊥
        at (inl z) = some z
        at (inr (d, g, q)) = subst IsOwn (ap (stand_at stands) x ∙ q) own

    one : (a b c d : ℕ) → stand_at stands (suc a) ≡ HasBegun c n → stand_at stands (suc b) ≡ HasBegun d n → a ≡ b
    one a b c d k l = at (matched (suc a) c n k) (matched (suc b) d n l)
      where
        at : (n ≡ 0) ⊎ IsCallOf stands (suc a) n → (n ≡ 0) ⊎ IsCallOf stands (suc b) n → a ≡ b
        at (inl z) later = absurd (some z)
        at (inr u) (inl z) = absurd (some z)
        at (inr (u, g, x)) (inr (v, h, y)) = let same = called u v (suc a) (suc b) g h (sym x ∙ y) in omega (arith, same)

    by : ((suc i ≡ n) × IsOwn (stand_at stands (suc i))) ⊎ ((c : ℕ) × (stand_at stands (suc i) ≡ HasBegun c n)) → ((suc j ≡ n) × IsOwn (stand_at stands (suc j))) ⊎ ((c : ℕ) × (stand_at stands (suc j) ≡ HasBegun c n)) → i ≡ j
    by (inl (x, o)) (inl (y, p)) = omega (arith, x, y)
    by (inl (x, o)) (inr (c, k)) = absurd (cross i j c x o k)
    by (inr (c, k)) (inl (y, p)) = absurd (cross j i c y p k)
    by (inr (c, k)) (inr (d, l)) = one i j c d k l

-- what hears for a line posts in its name
pub hears_voice : (stands : List Stand) (line at : ℕ) → HearsFor stands line at (stand_at stands line) → voice at (stand_at stands (suc at)) ≡ line
hears_voice stands line at h = by (stand_at stands line) refl_of h
  where
    refl_of : stand_at stands line ≡ stand_at stands line
    refl_of = λ i. stand_at stands line

    by : (s : Stand) → stand_at stands line ≡ s → HearsFor stands line at s → voice at (stand_at stands (suc at)) ≡ line
    by Idle k g = absurd g
    by (IsClient c) k g = absurd g
    by (Asking c b) k e = ap (voice at) (ap (stand_at stands) e ∙ k) ∙ e
    by (HasBegun c m) k g = absurd g
    by (Calling c x b) k (e, (d, w)) = ap (voice at) (ap (stand_at stands) e ∙ w)
    by (Past c) k g = absurd g
    by (Working c) k e = ap (voice at) (ap (stand_at stands) e ∙ k) ∙ e

-- where nobody hears for a line, nobody posts in its name
pub unheard_voice : (stands : List Stand) (line i : ℕ) → AreMatched stands → line ≢ 0 → NoneHears stands line (stand_at stands line) → voice i (stand_at stands (suc i)) ≡ line → ⊥
unheard_voice stands line i matched some none e = by (named i line (stand_at stands (suc i)) e some)
  where
    not_own : (s : Stand) → IsOwn s → NoneHears stands line s → ⊥
    not_own Idle o n = o
    not_own (IsClient c) o n = o
    not_own (Asking c b) o n = n
    not_own (HasBegun c m) o n = o
    not_own (Calling c x b) o n = o
    not_own (Past c) o n = o
    not_own (Working c) o n = n

    by : ((suc i ≡ line) × IsOwn (stand_at stands (suc i))) ⊎ ((c : ℕ) × (stand_at stands (suc i) ≡ HasBegun c line)) → ⊥
    by (inl (x, o)) = not_own (stand_at stands line) (subst (λ n. IsOwn (stand_at stands n)) x o) none
    by (inr (c, k)) = at (matched (suc i) c line k)
      where
        at : (line ≡ 0) ⊎ IsCallOf stands (suc i) line → ⊥
        at (inl z) = some z
        at (inr (d, b, q)) = let no = subst (NoneHears stands line) q none in no c k
