-- Keys in lists, and the mutation of a key.
use Rattle.std.proofs.Common.{◌≡◌, inl, inr, Bool, true, false, ◌||◌, List, [], ◌∷◌, Some, refl, sym, ap, arith}
use Rattle.std.specs.Prelude.{if◌then◌else◌}
use Rattle.std.proofs.lemmas.Bool.Decides.{nat_tests}
use Rattle.txn_kv.specs.declared.message.Mutation.{Mutation}
use Rattle.txn_kv.specs.declared.message.Op.{Op}
use Rattle.txn_history.specs.Among.{IsAmong}
use Rattle.txn_history.specs.Plan.{Key, key_eq, has_key, Content, content_of, LocksKey}
use Rattle.txn_commit.specs.Sending.{content_at, op_at}

pub same_key : (a b : Key) → key_eq a b ≡ true → a ≡ b
same_key [] [] h = refl
same_key [] (y ∷ ys) h = grind arith
same_key (x ∷ xs) [] h = grind arith
same_key (x ∷ xs) (y ∷ ys) h = grind (arith, nat_tests, same_key xs ys)

pub key_itself : (a : Key) → key_eq a a ≡ true
key_itself [] = refl
key_itself (x ∷ xs) = grind (arith, nat_tests, key_itself xs)

-- a list of one key has that key, and no other
pub only : (a k : Key) → has_key (a ∷ []) k ≡ true → k ≡ a
only a k h = by (key_eq a k) refl h
  where
    by : (b : Bool) → key_eq a k ≡ b → (b || false) ≡ true → k ≡ a
    by true e f = sym (same_key a k e)
    by false e f = absurd (cc)

pub has_only : (a : Key) → has_key (a ∷ []) a ≡ true
has_only a = ap (λ b. b || false) (key_itself a)

-- what a key is locked with comes of a mutation of it
pub locks_key : (ms : List Mutation) (k : Key) (x : Content) → content_at ms k ≡ Some x → LocksKey ms k
locks_key [] k x h = absurd (cc)
locks_key (m ∷ ms) k x h = by (key_eq m.key k) refl h (locks_key ms k x)
  where
    by : (b : Bool) → key_eq m.key k ≡ b → (if b then content_of m else content_at ms k) ≡ Some x → (content_at ms k ≡ Some x → LocksKey ms k) → LocksKey (m ∷ ms) k
    by true e f rest = (m, x, inl refl, same_key m.key k e, f)
    by false e f rest = let w = rest f in (w.0, w.1, inr w.2, w.3, w.4)

-- and its op is that of a mutation of it
pub names_key : (ms : List Mutation) (k : Key) (o : Op) → op_at ms k ≡ Some o → (m : Mutation) × IsAmong ms m × (m.key ≡ k)
names_key [] k o h = absurd (cc)
names_key (m ∷ ms) k o h = by (key_eq m.key k) refl h (names_key ms k o)
  where
    by : (b : Bool) → key_eq m.key k ≡ b → (if b then Some m.op else op_at ms k) ≡ Some o → (op_at ms k ≡ Some o → (n : Mutation) × IsAmong ms n × (n.key ≡ k)) → (n : Mutation) × IsAmong (m ∷ ms) n × (n.key ≡ k)
    by true e f rest = (m, inl refl, same_key m.key k e)
    by false e f rest = let w = rest f in (w.0, inr w.1, w.2)
