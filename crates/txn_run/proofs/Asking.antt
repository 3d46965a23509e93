-- Where so many tries for a timestamp failed, each under a number of its own, as many asks were refused.
use Rattle.std.proofs.Common.{◌≡◌, inl, inr, zero, suc, ℕ, ◌+◌, ◌<◌, ◌≤◌, Bool, true, false, List, [], ◌∷◌, Some, nat_lt, refl, sym, subst, arith}
use Rattle.std.proofs.lemmas.Bool.{ltb-false, ltb-true}
use Rattle.std.specs.Prelude.{Err}
use Rattle.txn_history.specs.Event.{Event, Has}
use Rattle.txn_history.specs.Event.Event.{Answered}
use Rattle.txn_history.specs.Posted.{Posted, ticket_of}
use Rattle.txn_kv.specs.declared.errors.Error.{Error}
use Rattle.txn_kv.specs.declared.query.PdQuery.TheVariants.{Time}
use Rattle.txn_kv.specs.declared.request.Request.{Request}
use Rattle.txn_side.specs.Trace.{HasRefused, Trace, refused_asks}
use Rattle.txn_tso.specs.Calling.{HaveFailed, IsFailure}
use Rattle.txn_tso.specs.Placement.{request_of}

-- Sums and orders of numbers

nothing_more : 0 ≤ 0
nothing_more = omega arith

up_to : (a b c : ℕ) → a ≤ b → b ≤ c → a ≤ c
up_to a b c first then = omega arith

both_more : (a b c d : ℕ) → a ≤ b → c ≤ d → a + c ≤ b + d
both_more a b c d first rest = omega arith

first_grows : (a b c d : ℕ) → a + 1 ≤ b → c ≤ d → (a + c) + 1 ≤ b + d
first_grows a b c d first rest = omega arith

rest_grows : (a b c d : ℕ) → a ≤ b → c + 1 ≤ d → (a + c) + 1 ≤ b + d
rest_grows a b c d first rest = omega arith

one_more : (n a b : ℕ) → n ≤ a → a + 1 ≤ b → suc n ≤ b
one_more n a b far grows = omega arith

earlier : (k below : ℕ) → k < below → k ≤ below
earlier k below lt = omega arith

-- Refused asks are counted by their numbers.

abbrev one_if : Bool → ℕ
one_if true = 1
one_if false = 0

-- one, where the event refuses an ask whose number is below this
abbrev refused_once : ℕ → Event → ℕ
refused_once below (Answered ask (Err e)) = one_if (nat_lt ask.number below)
refused_once below event = 0

-- how many events refuse such an ask
abbrev refused_below : ℕ → List Event → ℕ
refused_below below [] = 0
refused_below below (event ∷ h) = refused_once below event + refused_below below h

-- Below a higher number there are no fewer.

if_more : (n k below : ℕ) (a b : Bool) → nat_lt n k ≡ a → nat_lt n below ≡ b → k ≤ below → one_if a ≤ one_if b
if_more n k below false true e f le = omega arith
if_more n k below false false e f le = omega arith
if_more n k below true true e f le = omega arith
if_more n k below true false e f le = let lt = ltb-true n k e in let far = ltb-false n below f in absurd (omega (arith, lt, far, le))

once_more : (k below : ℕ) → k ≤ below → (event : Event) → refused_once k event ≤ refused_once below event
once_more k below le (Answered ask (Err e)) = if_more ask.number k below (nat_lt ask.number k) (nat_lt ask.number below) refl refl le
once_more k below le _ = nothing_more

below_more : (k below : ℕ) → k ≤ below → (h : List Event) → refused_below k h ≤ refused_below below h
below_more k below le [] = nothing_more
below_more k below le (event ∷ h) = both_more (refused_once k event) (refused_once below event) (refused_below k h) (refused_below below h) (once_more k below le event) (below_more k below le h)

-- A refused ask counts below each number above its own, and not below its own.

if_grows : (k below : ℕ) (a b : Bool) → nat_lt k k ≡ a → nat_lt k below ≡ b → k < below → one_if a + 1 ≤ one_if b
if_grows k below false true e f lt = omega arith
if_grows k below false false e f lt = let far = ltb-false k below f in absurd (omega (arith, lt, far))
if_grows k below true b e f lt = let never = ltb-true k k e in absurd (omega (arith, never))

below_grows : (o : Posted) (k below : ℕ) (why : Error) → k < below → (h : List Event) → Has h (Answered (ticket_of o k) (Err why)) → refused_below k h + 1 ≤ refused_below below h
below_grows o k below why lt [] has = absurd has
below_grows o k below why lt (event ∷ h) (inl same) =
    first_grows (refused_once k event) (refused_once below event) (refused_below k h) (refused_below below h)
    (subst (λ (x : Event). refused_once k x + 1 ≤ refused_once below x) (sym same) (if_grows k below (nat_lt k k) (nat_lt k below) refl refl lt))
    (below_more k below (earlier k below lt) h)
below_grows o k below why lt (event ∷ h) (inr was) =
    rest_grows (refused_once k event) (refused_once below event) (refused_below k h) (refused_below below h) (once_more k below (earlier k below lt) event) (below_grows o k below why lt h was)

-- A try for a timestamp is an ask: there is no request for one that could be lost.

never_requested : (r : Request) → request_of Time ≡ Some r → ⊥
never_requested r e = cc

was_refused : (o : Posted) (k : ℕ) (why : Error) (h : List Event) → IsFailure Time (ticket_of o k) h why → Has h (Answered (ticket_of o k) (Err why))
was_refused o k why h (inl f) = absurd (never_requested f.0 f.1)
was_refused o k why h (inr (inl f)) = absurd (never_requested f.0 f.2)
was_refused o k why h (inr (inr f)) = f.1

none_fewer : (n : ℕ) → 0 ≤ n
none_fewer n = omega arith

as_many_below : (o : Posted) (h : List Event) (n below : ℕ) → HaveFailed Time o n below h → n ≤ refused_below below h
as_many_below o h zero below f = none_fewer (refused_below below h)
as_many_below o h (suc n) below f =
    one_more n (refused_below f.0 h) (refused_below below h) (as_many_below o h n f.0 f.4) (below_grows o f.0 below f.1 f.2 h (was_refused o f.0 f.1 h f.3))

-- Those below a number are some of all.

if_counts : (b : Bool) (n : ℕ) → one_if b + n ≤ suc n
if_counts true n = omega arith
if_counts false n = omega arith

as_many : (n : ℕ) → 0 + n ≤ n
as_many n = omega arith

once_of_all : (below : ℕ) (event : Event) (h : List Event) → refused_once below event + refused_asks h ≤ refused_asks (event ∷ h)
once_of_all below (Answered ask (Err e)) h = if_counts (nat_lt ask.number below) (refused_asks h)
once_of_all below _ h = as_many (refused_asks h)

more_of_all : (a b c d : ℕ) → a + c ≤ d → b ≤ c → a + b ≤ d
more_of_all a b c d first rest = omega arith

below_of_all : (below : ℕ) (h : List Event) → refused_below below h ≤ refused_asks h
below_of_all below [] = nothing_more
below_of_all below (event ∷ h) = more_of_all (refused_once below event) (refused_below below h) (refused_asks h) (refused_asks (event ∷ h)) (once_of_all below event h) (below_of_all below h)

as_many_asks : (o : Posted) (h : List Event) (n below : ℕ) → HaveFailed Time o n below h → n ≤ refused_asks h
as_many_asks o h n below f = up_to n (refused_below below h) (refused_asks h) (as_many_below o h n below f) (below_of_all below h)

next : (k : ℕ) → k < suc k
next k = omega arith

-- one that was refused, and as many before it
pub refused_again : (o : Posted) (h : List Event) (n k : ℕ) (why : Error) → Has h (Answered (ticket_of o k) (Err why)) → HaveFailed Time o n k h → suc n ≤ refused_asks h
refused_again o h n k why has f = as_many_asks o h (suc n) (suc k) (k, why, next k, inr (inr (refl, has)), f)

-- where at least so many asks of a line were refused, so were at least fewer
pub fewer_refused : (t : Trace) (line more n : ℕ) → n ≤ more → HasRefused t line more → HasRefused t line n
fewer_refused t line more n le r = (r.0, up_to n more r.0 le r.1, r.2)
