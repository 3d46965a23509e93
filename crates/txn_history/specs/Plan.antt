-- What a transaction means to write.
use Rattle.std.specs.Prelude.{◌≡◌, ◌⊎◌, ⊤, ℕ, Bool, true, false, nat_eq, List, [], ◌∷◌, Option, Some, None}
use Rattle.std.specs.List.{list_any}
use Rattle.std.specs.Cmp.Lexicographic.{pointwise}
use Rattle.txn_history.specs.Among.{IsAmong}
use Rattle.txn_kv.specs.declared.message.Mutation.{Mutation}
use Rattle.txn_kv.specs.declared.message.Op.{Op}
use Rattle.txn_kv.specs.declared.message.Op.TheVariants.{Put, Del, Lock, Rollback, Insert, PessimisticLock, CheckNotExists}

abbrev pub Key : Type 0
Key = List ℕ

abbrev pub key_eq : Key → Key → Bool
key_eq = pointwise nat_eq

abbrev pub has_key : List Key → Key → Bool
has_key ks k = list_any (λ x. key_eq x k) ks

-- what a prewrite lock will write: a put, a delete, or nothing where it only locks
pub record Content : Type 0 where
  pub op : Op
  pub value : List ℕ

abbrev pub content_by : Op → List ℕ → Option Content
content_by Put v = Some (record { op = Put; value = v })
content_by Del v = Some (record { op = Del; value = v })
content_by Lock v = Some (record { op = Lock; value = v })
content_by Rollback v = Some (record { op = Lock; value = v })
content_by Insert v = Some (record { op = Put; value = v })
content_by PessimisticLock v = Some (record { op = Lock; value = v })
content_by CheckNotExists v = None

-- what a mutation locks its key with, if it locks it
abbrev pub content_of : Mutation → Option Content
content_of m = content_by m.op m.value

-- The way in which a transaction commits.
pub data Way : Type 0 where
  -- in two phases, settled by its primary
  TwoPhases : Way
  -- spread over its keys, settled by all of them: the primary and these secondaries
  Spread : (secondaries : List Key) → Way

abbrev pub is_spread : Way → Bool
is_spread TwoPhases = false
is_spread (Spread ks) = true

-- What a transaction means to do.
pub record Plan : Type 0 where
  pub primary : Key
  -- the op with which it prewrites each key, checks included
  pub ops : Key → Option Op
  -- what it writes to each key that it locks
  pub writes : Key → Option Content
  pub way : Way
  -- its Prewrites may commit all at once
  pub one_phase : Bool

-- a mutation is that of the plan at its key
abbrev pub IsPlanned : Plan → Mutation → Type 0
IsPlanned plan m = (plan.ops m.key ≡ Some m.op) × ((x : Content) → content_of m ≡ Some x → plan.writes m.key ≡ Some x)

-- the mutations are those of the plan
abbrev pub ArePlanned : Plan → List Mutation → Type 0
ArePlanned plan ms = (m : Mutation) → IsAmong ms m → IsPlanned plan m

-- no two mutations are of one key
abbrev pub AreDistinct : List Mutation → Type 0
AreDistinct [] = ⊤
AreDistinct (m ∷ ms) = ((n : Mutation) → IsAmong ms n → key_eq m.key n.key ≡ false) × AreDistinct ms

-- the primary and these keys are those that it writes
abbrev pub IsListed : Plan → List Key → Type 0
IsListed plan ks = ((k : Key) (x : Content) → plan.writes k ≡ Some x → (k ≡ plan.primary) ⊎ IsAmong ks k) × ((x : Content) × (plan.writes plan.primary ≡ Some x)) × ((k : Key) → IsAmong ks k → (x : Content) × (plan.writes k ≡ Some x))

-- some mutation locks the key
abbrev pub LocksKey : List Mutation → Key → Type 0
LocksKey ms k = (m : Mutation) × (x : Content) × IsAmong ms m × (m.key ≡ k) × (content_of m ≡ Some x)
