-- The parts of a commit.
use Rattle.std.proofs.Common.{◌≡◌, ◌≢◌, inl, inr, Bool, true, false, ◌||◌, List, [], ◌∷◌, Option, Some, None, refl, sym, ap, subst, ◌∙◌}
use Rattle.std.specs.Prelude.{if◌then◌else◌, not, filter, cond, option_map}
use Rattle.txn_buffer.specs.Contents.{Contents, mutations}
use Rattle.txn_kv.specs.declared.message.Mutation.{Mutation}
use Rattle.txn_history.specs.Among.{IsAmong}
use Rattle.txn_history.specs.Plan.{AreDistinct, ArePlanned, Key, key_eq, has_key, Content, content_of}
use Rattle.txn_commit.specs.Parts.{locking_keys, named_primary, parts_of, parts_under, secondary_keys}
use Rattle.txn_commit.specs.Sending.{content_at, op_at, plan_of}
use Rattle.txn_commit.specs.declared.commit_parts.CommitParts.{CommitParts}
use Rattle.txn_commit.proofs.Keys.{key_itself}

-- what is left of keys without one has it no more
left_out : (p : Key) (ks : List Key) → has_key (filter (λ k. not (key_eq k p)) ks) p ≡ false
left_out p [] = refl
left_out p (k ∷ ks) = by (key_eq k p) refl (left_out p ks)
  where
    rest : List Key
    rest = filter (λ x. not (key_eq x p)) ks

    by : (b : Bool) → key_eq k p ≡ b → has_key rest p ≡ false → has_key (cond (not b) (k ∷ rest) rest) p ≡ false
    by true e f = f
    by false e f = ap (λ b. b || has_key rest p) e ∙ f

secondaries_of : (contents : Contents) (o : Option Key) (parts : CommitParts) → option_map (parts_under contents) o ≡ Some parts → (k : Key) → has_key parts.secondaries k ≡ true → k ≢ parts.primary
secondaries_of contents None parts e k h f = cc
secondaries_of contents (Some p) parts e k h f =
    let same : parts_under contents p ≡ parts = cc in
    let g : has_key (secondary_keys p (mutations contents.entries)) k ≡ true = subst (λ (x : CommitParts). has_key x.secondaries k ≡ true) (sym same) h in
    let at : k ≡ p = f ∙ ap (λ (x : CommitParts). x.primary) (sym same) in
    let here = subst (λ x. has_key (secondary_keys p (mutations contents.entries)) x ≡ true) at g in
    let gone = left_out p (locking_keys (mutations contents.entries)) in
    cc

pub parts_apart : (contents : Contents) (parts : CommitParts) → parts_of contents ≡ Some parts → (k : Key) → has_key parts.secondaries k ≡ true → k ≢ parts.primary
parts_apart contents parts e k h = secondaries_of contents (named_primary contents (mutations contents.entries)) parts e k h

content_planned : (ms : List Mutation) → AreDistinct ms → (m : Mutation) (x : Content) → IsAmong ms m → content_of m ≡ Some x → content_at ms m.key ≡ Some x
content_planned [] d m x a e = absurd a
content_planned (n ∷ ms) d m x (inl f) e = subst (λ (y : Mutation). content_of y ≡ Some x → content_at (n ∷ ms) y.key ≡ Some x) f (λ g. ap (λ b. if b then content_of n else content_at ms n.key) (key_itself n.key) ∙ g) e
content_planned (n ∷ ms) d m x (inr a) e = ap (λ b. if b then content_of n else content_at ms m.key) (d.0 m a) ∙ content_planned ms d.1 m x a e

op_planned : (ms : List Mutation) → AreDistinct ms → (m : Mutation) → IsAmong ms m → op_at ms m.key ≡ Some m.op
op_planned [] d m a = absurd a
op_planned (n ∷ ms) d m (inl f) = subst (λ (y : Mutation). op_at (n ∷ ms) y.key ≡ Some y.op) f (ap (λ b. if b then Some n.op else op_at ms n.key) (key_itself n.key))
op_planned (n ∷ ms) d m (inr a) = ap (λ b. if b then Some n.op else op_at ms m.key) (d.0 m a) ∙ op_planned ms d.1 m a

pub parts_planned : (parts : CommitParts) → AreDistinct parts.mutations → ArePlanned (plan_of parts) parts.mutations
parts_planned parts d m a = (op_planned parts.mutations d m a, λ x e. content_planned parts.mutations d m x a e)
