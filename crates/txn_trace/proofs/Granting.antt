-- What the oracle answers is as far below the last timestamp of the reply as there are askers behind.
use Rattle.std.proofs.Common.{◌≡◌, ℕ, ◌+◌, ◌-◌, ◌<◌, inl, inr, Bool, true, false, List, [], ◌∷◌, ◌++◌, length, refl, sym, ap, subst, arith}
use Rattle.std.proofs.lemmas.Int.{ints}
use Rattle.std.proofs.lemmas.List.{length-append}
use Rattle.std.specs.Prelude.{ℤ, pos, negsuc, ◌-ℤ◌, unsigned_abs, int_le, int_lt, if◌then◌else◌, nat_eq, Option, Some, None, Result, Ok, Err}
use Rattle.std.proofs.lemmas.Bool.Decides.{nat_tests}
use Rattle.txn_kv.specs.Timestamp.{version_of}
use Rattle.txn_kv.specs.declared.errors.Error.{Error}
use Rattle.txn_kv.specs.declared.errors.Error.TheVariants.{InternalError}
use Rattle.txn_kv.specs.declared.errors.Internal.TheVariants.{OracleCount, OracleEmpty}
use Rattle.txn_kv.specs.declared.reply.cluster.TsoResponse.{TsoResponse}
use Rattle.txn_kv.specs.declared.timestamp.Timestamp.{Timestamp}
use Rattle.txn_history.specs.Among.{IsAmong}
use Rattle.txn_history.specs.Licence.{GivesTimestamp}
use Rattle.txn_tso.specs.Oracle.{Answer, answer, answers, granted, granted_if, has_version, is_unlike}
use Rattle.txn_tso.specs.declared.asker.Asker.{Asker}

lower : (l : ℤ) (n b : ℕ) → int_lt l (pos n -ℤ pos 1) ≡ false → int_le (pos 0) l ≡ true → b < n → unsigned_abs (l -ℤ pos b) + b ≡ unsigned_abs l
lower (pos m) n b high low small = omega (arith, ints, high, small)
lower (negsuc m) n b high low small = absurd (omega (arith, ints, low))

-- so many below the last
pub record IsGrant (x : TsoResponse) (n b : ℕ) (time : Timestamp) : Type 0 where
  pub last : Timestamp
  pub here : x.timestamp ≡ Some last
  pub count : x.count ≡ n
  pub below : version_of time + b ≡ version_of last

counted : (a b : ℕ) → nat_eq a b ≡ true → a ≡ b
counted a b h = grind (arith, nat_tests)

abbrev pub Below : Timestamp → ℕ → ℕ → ℕ → Timestamp → Type 0
Below last c n b time = (c ≡ n) × (version_of time + b ≡ version_of last)

below_unless : (u : Bool) (last time : Timestamp) (c n b : ℕ) → has_version last ≡ true → is_unlike last c n ≡ u → b < n
    → (if u then Err (InternalError (OracleCount n c)) else Ok (record last { logical = last.logical -ℤ pos b })) ≡ Ok time → Below last c n b time
below_unless true last time c n b has like small e = absurd (cc)
below_unless false last time c n b has like small e =
    let same : record last { logical = last.logical -ℤ pos b } ≡ time = cc in
    let equal : nat_eq c n ≡ true = grind arith in
    let low : int_le (pos 0) last.logical ≡ true = grind arith in
    let high : int_lt last.logical (pos n -ℤ pos 1) ≡ false = grind arith in
    let shift = lower last.logical n b high low small in
    (counted c n equal, subst (λ (x : Timestamp). version_of x + b ≡ version_of last) same (omega (arith, shift)))

below_if : (v : Bool) (last time : Timestamp) (c n b : ℕ) → has_version last ≡ v → b < n
    → (if v then granted last c n b else Err (InternalError OracleEmpty)) ≡ Ok time → Below last c n b time
below_if true last time c n b has small e = below_unless (is_unlike last c n) last time c n b has refl small e
below_if false last time c n b has small e = absurd (cc)

pub grant_is : (x : TsoResponse) (n b : ℕ) (time : Timestamp) → b < n → answer x n b ≡ Ok time → IsGrant x n b time
grant_is x n b time small e = by x.timestamp refl e
  where
    by : (t : Option Timestamp) → x.timestamp ≡ t → granted_if t x.count n b ≡ Ok time → IsGrant x n b time
    by None h f = absurd (cc)
    by (Some last) h f = let w = below_if (has_version last) last time x.count n b refl small f in record { last = last; here = h; count = w.0; below = w.1 }

pub grant_gives : (x : TsoResponse) (n b : ℕ) (time : Timestamp) → b < n → IsGrant x n b time → GivesTimestamp x (version_of time)
grant_gives x n b time small g = let low = g.below in let count = g.count in (g.last, g.here, omega (arith, low), omega (arith, low, count, small))

-- An answer of a group is that of one of it, and of those behind.

pub record IsAnswerOf (x : TsoResponse) (n : ℕ) (group : List Asker) (a : Asker) (r : Result Timestamp Error) : Type 0 where
  pub ahead : List Asker
  pub behind : List Asker
  pub group_is : group ≡ ahead ++ a ∷ behind
  pub given : answer x n (length behind) ≡ r

pub answer_of : (x : TsoResponse) (n : ℕ) (group : List Asker) (a : Asker) (r : Result Timestamp Error) → IsAmong (answers x n group) (a, r) → IsAnswerOf x n group a r
answer_of x n [] a r g = absurd g
answer_of x n (d ∷ rest) a r (inl e) = record {
  ahead = [];
  behind = rest;
  group_is = ap (λ (w : Answer). w.0 ∷ rest) e;
  given = ap (λ (w : Answer). w.1) e;
}
answer_of x n (d ∷ rest) a r (inr g) = let w = answer_of x n rest a r g in record {
  ahead = d ∷ w.ahead;
  behind = w.behind;
  group_is = ap (λ (gs : List Asker). d ∷ gs) w.group_is;
  given = w.given;
}

among_middle : (xs ys : List Asker) (a : Asker) → IsAmong (xs ++ a ∷ ys) a
among_middle [] ys a = inl refl
among_middle (x ∷ xs) ys a = inr (among_middle xs ys a)

pub answer_among : (x : TsoResponse) (n : ℕ) (group : List Asker) (a : Asker) (r : Result Timestamp Error) → IsAnswerOf x n group a r → IsAmong group a
answer_among x n group a r w = subst (λ (gs : List Asker). IsAmong gs a) (sym w.group_is) (among_middle w.ahead w.behind a)

pub behind_small : {X : Type 0} (xs ys : List X) (x : X) (zs : List X) → zs ≡ xs ++ x ∷ ys → length ys < length zs
behind_small xs ys x zs e = let a = ap length e in let b = length-append xs (x ∷ ys) in omega (arith, a, b)
