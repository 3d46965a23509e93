-- What a call at the begin, or of what came, keeps to, field by field; and what came and is not for the state.
use Rattle.std.proofs.Common.{◌≡◌, ℕ, false, true, refl, subst}
use Rattle.std.proofs.lemmas.Bool.{false≢true}
use Rattle.txn_kv.specs.declared.request.Request.{Request}
use Rattle.txn_kv.specs.declared.request.Request.TheVariants.{Members}
use Rattle.txn_history.specs.Meaning.{started, Counts, Goes, IsLawful, Meaning, Tells, Told}
use Rattle.txn_history.specs.Phase.{unheard, Awaited}
use Rattle.txn_history.specs.Phase.Awaited.{EndOf}
use Rattle.txn_history.specs.Phase.Phase.{Fresh}
use Rattle.txn_history.specs.Posted.{HasNumbers, Posted}
use Rattle.txn_history.specs.Turn.{Turn}
use Rattle.txn_history.proofs.Telling.{region_error_is_error}
use Rattle.txn_history.specs.Steps.{begins, Steps}
use Rattle.txn_history.proofs.Stepping.{Steps-idle}
use Rattle.txn_history.specs.Arrivals.{arrives, awaited_as, locked_told, tells_error, tells_failure, told_by, weight_told}
use Rattle.txn_kv.specs.declared.arrival.Arrival.{Arrival}
use Rattle.txn_kv.specs.declared.arrival.Arrival.TheVariants.{Reply, Lost, Slept, Time}

-- what is heard is what waits for it
pub heard_as : (a : Arrival) (o : Posted) (r : Request) (x : Awaited) → (told_by a o r).heard x → x ≡ awaited_as a
heard_as (Reply n y) o r x h = h
heard_as (Lost n) o r x h = h
heard_as (Slept n) o r x h = h
heard_as (Time n y) o r x h = h

-- what waits for it hears it
pub told_heard : (a : Arrival) (o : Posted) (r : Request) (x : Awaited) → x ≡ awaited_as a → (told_by a o r).heard x
told_heard (Reply n y) o r x e = e
told_heard (Lost n) o r x e = e
told_heard (Slept n) o r x e = e
told_heard (Time n y) o r x e = e

-- It is not for the state, which stays as it is.
pub Steps-deaf : {S A C : Type 0} {m : Meaning S A} {touches : Told → Posted → S → S → C → C → Type 0} (a : Arrival) {s : S} {o : Posted} {pd : C} {turn : Turn A}
    → IsLawful m
    → (m.waits s (awaited_as a) → ⊥)
    → turn ≡ unheard (m.phase s)
    → ((r : Request) → touches (told_by a o r) o s s pd pd)
    → m.ready s → HasNumbers o
    → Steps m touches (arrives a o) s s o o pd pd turn
unfolding arrives
Steps-deaf {m = m} a {s = s} {o = o} law other e client ready numbers =
    Steps-idle law other (λ r x h w. other (subst (m.waits s) (heard_as a o r x h) w)) e client ready numbers

-- what is heard is what waits for it, and nothing else
pub heard_is : (a : Arrival) (o : Posted) (r : Request) → (told_by a o r).heard ≡ (λ x. x ≡ awaited_as a)
heard_is (Reply n y) o r = refl
heard_is (Lost n) o r = refl
heard_is (Slept n) o r = refl
heard_is (Time n y) o r = refl

-- what a new run may better is an error
pub worse : (a : Arrival) → tells_failure a ≡ true → tells_error a ≡ true
worse (Reply n y) e = region_error_is_error y e
worse (Lost n) e = e
worse (Slept n) e = e
worse (Time n y) e = absurd (false≢true e)

-- what ends this sleep is told by its number
pub ends_sleep : (a : Arrival) (n : ℕ) → awaited_as a ≡ EndOf n → a ≡ Slept n
ends_sleep (Reply k x) n e = cc
ends_sleep (Lost k) n e = cc
ends_sleep (Slept k) n e = cc
ends_sleep (Time k x) n e = cc

-- it was begun: what was told is the same for each request
pub tells_begun : {S A C : Type 0} {m : Meaning S A} {touches : Told → Posted → S → S → C → C → Type 0} {old new : S} {from to : Posted} {pd pd' : C} {turn : Turn A}
    → Steps m touches begins old new from to pd pd' turn → Tells m started old new from to turn
unfolding begins
tells_begun k = k.tells (Members (record {}))

pub goes_begun : {S A C : Type 0} {m : Meaning S A} {touches : Told → Posted → S → S → C → C → Type 0} {old new : S} {from to : Posted} {pd pd' : C} {turn : Turn A}
    → Steps m touches begins old new from to pd pd' turn → Goes m.phase (m.phase old ≡ Fresh) old new from to pd pd' turn
unfolding begins
goes_begun k = k.goes

pub counts_begun : {S A C : Type 0} {m : Meaning S A} {touches : Told → Posted → S → S → C → C → Type 0} {old new : S} {from to : Posted} {pd pd' : C} {turn : Turn A}
    → Steps m touches begins old new from to pd pd' turn → Counts m false false 0 0 old new from to turn
unfolding begins
counts_begun k = k.counts

pub client_begun : {S A C : Type 0} {m : Meaning S A} {touches : Told → Posted → S → S → C → C → Type 0} {old new : S} {from to : Posted} {pd pd' : C} {turn : Turn A}
    → Steps m touches begins old new from to pd pd' turn → touches started from old new pd pd'
unfolding begins
client_begun k = k.client (Members (record {}))

-- something came, for whatever request
pub tells_of : {S A C : Type 0} {m : Meaning S A} {touches : Told → Posted → S → S → C → C → Type 0} {old new : S} {from to : Posted} {pd pd' : C} {turn : Turn A}
    → (a : Arrival) → Steps m touches (arrives a from) old new from to pd pd' turn → (r : Request) → Tells m (told_by a from r) old new from to turn
unfolding arrives
tells_of a k = k.tells

pub goes_of : {S A C : Type 0} {m : Meaning S A} {touches : Told → Posted → S → S → C → C → Type 0} {old new : S} {from to : Posted} {pd pd' : C} {turn : Turn A}
    → (a : Arrival) → Steps m touches (arrives a from) old new from to pd pd' turn → Goes m.phase (m.waits old (awaited_as a)) old new from to pd pd' turn
unfolding arrives
goes_of a k = k.goes

pub counts_of : {S A C : Type 0} {m : Meaning S A} {touches : Told → Posted → S → S → C → C → Type 0} {old new : S} {from to : Posted} {pd pd' : C} {turn : Turn A}
    → (a : Arrival) → Steps m touches (arrives a from) old new from to pd pd' turn → Counts m (tells_error a) (tells_failure a) (weight_told a) (locked_told a) old new from to turn
unfolding arrives
counts_of a k = k.counts
