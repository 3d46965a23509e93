-- Lists of mutations and of keys, one by one.
use Rattle.std.proofs.Common.{◌≡◌, ℕ, zero, suc, ◌+◌, ◌<◌, ◌≤◌, drop, Bool, true, false, List, [], ◌∷◌, ◌++◌, length, Option, Some, None, refl, sym, ap, subst, ◌∙◌, arith}
use Rattle.std.specs.Prelude.{if◌then◌else◌, slice_index_or, cond}
use Rattle.txn_kv.specs.declared.message.Mutation.{Mutation}
use Rattle.txn_kv.specs.declared.message.Op.{Op}
use Rattle.txn_kv.specs.declared.message.Op.TheVariants as op
use Rattle.txn_buffer.specs.Contents.{Contents, locked, mutated, mutated_by, with_new_entry, with_primary, sets_primary}
use Rattle.txn_buffer.specs.declared.entry.Entry.{Entry}
use Rattle.txn_buffer.specs.Reads.{writes}
use Rattle.txn_buffer.specs.Writes.{WriteCall, Writes, after_call, after_calls}
use Rattle.txn_buffer.proofs.Untouched.{locked_leaves}
use Rattle.txn_core.specs.Transaction.{AreLocked, AreSteps, all_put_or_delete, and_mutated, call_by, calls_of, is_put_or_delete, locked_all, mutated_all}

-- one of them is neither a put nor a delete
pub not_all : (ms : List Mutation) (i : ℕ) (m : Mutation) → m ≡ slice_index_or ms i m → i < length ms → is_put_or_delete m.op ≡ false → false ≡ all_put_or_delete ms
not_all [] i m e l f = absurd (omega arith)
not_all (n ∷ ms) zero m e l f = rw (sym (ap (λ (x : Mutation). is_put_or_delete x.op) e) ∙ f) refl
not_all (n ∷ ms) (suc i) m e l f = by (is_put_or_delete n.op) (not_all ms i m e (omega arith) f)
  where
    by : (b : Bool) → false ≡ all_put_or_delete ms → false ≡ (if b then all_put_or_delete ms else false)
    by true later = later
    by false later = refl

next : (ms : List Mutation) (i : ℕ) (m : Mutation) → m ≡ slice_index_or ms i m → i < length ms → is_put_or_delete m.op ≡ true → all_put_or_delete (drop (suc i) ms) ≡ all_put_or_delete (drop i ms)
next [] i m e l f = absurd (omega arith)
next (n ∷ ms) zero m e l f = rw (sym (ap (λ (x : Mutation). is_put_or_delete x.op) e) ∙ f) refl
next (n ∷ ms) (suc i) m e l f = next ms i m e (omega arith) f

one_more : (i : ℕ) → suc i ≡ i + 1
one_more i = omega arith

-- those from one on are, where it is one and the later ones are
pub all_next : (ms : List Mutation) (i : ℕ) (m : Mutation) → m ≡ slice_index_or ms i m → i < length ms → is_put_or_delete m.op ≡ true → all_put_or_delete (drop (i + 1) ms) ≡ all_put_or_delete (drop i ms)
all_next ms i m e l f = subst (λ j. all_put_or_delete (drop j ms) ≡ all_put_or_delete (drop i ms)) (one_more i) (next ms i m e l f)

pub all_end : (ms : List Mutation) (i : ℕ) → length ms ≤ i → all_put_or_delete (drop i ms) ≡ true
all_end [] zero l = refl
all_end [] (suc i) l = refl
all_end (n ∷ ms) zero l = absurd (omega arith)
all_end (n ∷ ms) (suc i) l = all_end ms i (omega arith)

pub put_first : (m : Mutation) (ms : List Mutation) → all_put_or_delete (m ∷ ms) ≡ true → is_put_or_delete m.op ≡ true
put_first m ms e = by (is_put_or_delete m.op) e
  where
    by : (b : Bool) → (if b then all_put_or_delete ms else false) ≡ true → b ≡ true
    by true e = refl
    by false e = absurd (cc)

pub put_rest : (m : Mutation) (ms : List Mutation) → all_put_or_delete (m ∷ ms) ≡ true → all_put_or_delete ms ≡ true
put_rest m ms e = by (is_put_or_delete m.op) e
  where
    by : (b : Bool) → (if b then all_put_or_delete ms else false) ≡ true → all_put_or_delete ms ≡ true
    by true e = e
    by false e = absurd (cc)

locked_last : (contents : Contents) (keys : List (List ℕ)) (key : List ℕ) → locked_all contents (keys ++ key ∷ []) ≡ locked (locked_all contents keys) key
locked_last contents [] key = refl
locked_last contents (k ∷ keys) key = locked_last (locked contents k) keys key

-- one more key is locked
pub locks_more : (keys : List (List ℕ)) (key : List ℕ) (old mid new : Contents) → AreLocked keys old mid → new ≡ locked mid key → AreLocked (keys ++ key ∷ []) old new
locks_more keys key old mid new a e = record {
  contents = e ∙ ap (λ c. locked c key) a.contents ∙ sym (locked_last old keys key);
  writes = ap writes e ∙ locked_leaves mid key ∙ a.writes;
}

mutated_last : (contents mid new : Contents) (ms : List Mutation) (m : Mutation) → mutated_all contents ms ≡ Some mid → mutated mid m ≡ Some new → mutated_all contents (ms ++ m ∷ []) ≡ Some new
mutated_last contents mid new [] m e f =
    let g : contents ≡ mid = cc in
    subst (λ x. and_mutated (mutated x m) (λ next. Some next) ≡ Some new) (sym g) (ap (λ x. and_mutated x (λ next. Some next)) f)
mutated_last contents mid new (n ∷ ms) m e f = by (mutated contents n) e (λ next g. mutated_last next mid new ms m g f)
  where
    by : (found : Option Contents) → and_mutated found (λ next. mutated_all next ms) ≡ Some mid → ((next : Contents) → mutated_all next ms ≡ Some mid → mutated_all next (ms ++ m ∷ []) ≡ Some new)
        → and_mutated found (λ next. mutated_all next (ms ++ m ∷ [])) ≡ Some new
    by None e later = absurd (cc)
    by (Some next) e later = later next e

calls_last : (ms : List Mutation) (m : Mutation) → calls_of (ms ++ m ∷ []) ≡ calls_of ms ++ call_by m.op m.key m.value ∷ []
calls_last [] m = refl
calls_last (n ∷ ms) m = ap (λ calls. call_by n.op n.key n.value ∷ calls) (calls_last ms m)

after_last : (b : Bool) (w : Writes) (calls : List WriteCall) (call : WriteCall) → after_calls b w (calls ++ call ∷ []) ≡ after_call b (after_calls b w calls) call
after_last b w [] call = refl
after_last b w (c ∷ calls) call = after_last b (after_call b w c) calls call

new_entry_same : (contents : Contents) (key : List ℕ) (e : Entry) → (with_new_entry contents key e).is_pessimistic ≡ contents.is_pessimistic
new_entry_same contents key e = by (sets_primary e)
  where
    by : (b : Bool) → (cond b (with_primary contents key) contents).is_pessimistic ≡ contents.is_pessimistic
    by true = refl
    by false = refl

mutated_same : (contents new : Contents) (m : Mutation) → mutated contents m ≡ Some new → new.is_pessimistic ≡ contents.is_pessimistic
mutated_same contents new m e = by m.op e
  where
    is_new : (c : Contents) → Some c ≡ Some new → new ≡ c
    is_new c e = cc

    by : (o : Op) → mutated_by o contents m.key m.value ≡ Some new → new.is_pessimistic ≡ contents.is_pessimistic
    by op.Put e = ap (λ (c : Contents). c.is_pessimistic) (is_new _ e) ∙ new_entry_same contents m.key _
    by op.Del e = ap (λ (c : Contents). c.is_pessimistic) (is_new _ e) ∙ new_entry_same contents m.key _
    by op.Lock e = absurd (cc)
    by op.Rollback e = absurd (cc)
    by op.Insert e = absurd (cc)
    by op.PessimisticLock e = absurd (cc)
    by op.CheckNotExists e = absurd (cc)

-- steps so far, in a buffer that is pessimistic or is not as it was
pub record HasStepped (ms : List Mutation) (old new : Contents) : Type 0 where
  pub steps : AreSteps ms old new
  pub same : new.is_pessimistic ≡ old.is_pessimistic

-- one more mutation
pub steps_more : (ms : List Mutation) (m : Mutation) (old mid new : Contents) → HasStepped ms old mid → mutated mid m ≡ Some new
    → writes new ≡ after_call mid.is_pessimistic (writes mid) (call_by m.op m.key m.value) → HasStepped (ms ++ m ∷ []) old new
steps_more ms m old mid new s e w = record {
  steps = record {
    contents = mutated_last old mid new ms m s.steps.contents e;
    writes = w ∙ ap (λ (b : Bool). after_call b (writes mid) (call_by m.op m.key m.value)) s.same ∙ ap (λ (x : Writes). after_call old.is_pessimistic x (call_by m.op m.key m.value)) s.steps.writes
        ∙ sym (after_last old.is_pessimistic (writes old) (calls_of ms) (call_by m.op m.key m.value)) ∙ ap (λ (x : List WriteCall). after_calls old.is_pessimistic (writes old) x) (sym (calls_last ms m));
  };
  same = mutated_same mid new m e ∙ s.same;
}
