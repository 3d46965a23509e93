-- What a prewrite that has no error finds at the keys of its mutations.
use Rattle.std.proofs.Common.{◌≡◌, ℕ, ◌⊎◌, inl, inr, Bool, true, false, ◌||◌, List, [], ◌∷◌, ◌++◌, Option, Some, None, nat_eq, refl, subst, ◌∙◌, arith}
use Rattle.std.specs.Prelude.{if◌then◌else◌, option_to_list, drop}
use Rattle.std.proofs.lemmas.Bool.Decides.{nat_tests}
use Rattle.txn_kv.specs.declared.message.KeyError.{KeyError}
use Rattle.txn_kv.specs.declared.message.KeyError.TheVariants as errors
use Rattle.txn_kv.specs.declared.message.Mutation.{Mutation}
use Rattle.txn_kv.specs.declared.request.commits.PrewriteRequest.{PrewriteRequest}
use Rattle.txn_model.specs.declared.cell.Cell.{Cell}
use Rattle.txn_model.specs.declared.cell.Lock.{Lock}
use Rattle.txn_model.specs.declared.cell.Write.{Write}
use Rattle.txn_model.specs.Cells.{Key, key_eq, has_key, cell_at}
use Rattle.txn_model.specs.Locks.{has_start, is_prewrite, owns, commit_of, lock_info, or_earlier}
use Rattle.txn_model.specs.Prewrite.{prewrite_error, lock_conflict, conflict, first_flag, prewrite_errors, passed_commit, lock_of, place, prewrite_cell, land, land_cell, mutation_keys}
use Rattle.txn_model.proofs.Folding.{ChangedBy, stands, has_commit, kind_prewrites, no_commit_of, neither, place_is, land_is, place_open, land_open, held_commits}
use Rattle.txn_model.proofs.Keys.{same_key}
use Rattle.txn_model.proofs.Steps.{IsOpen, placed_lock, landed_lock}

-- a mutation without error finds its cell open, where no commit of the start was passed over
pub open_cell : (r : PrewriteRequest) (m : Mutation) (flag : Bool) (c : Cell) → commit_of c.commits r.start_version ≡ None → prewrite_error r m flag c ≡ None → IsOpen c r.start_version
open_cell r m flag c n h = by_rolled (has_start c.rolled r.start_version) refl h
  where
    by_lock : has_start c.rolled r.start_version ≡ false → (o : Option Lock) → c.lock ≡ o → lock_conflict r m flag c.commits o ≡ None → IsOpen c r.start_version
    by_lock a None e g = record { unrolled = a; uncommitted = λ f. n; unlocked = λ l f. absurd (cc) }
    by_lock a (Some l) e g = by_own (nat_eq l.start r.start_version) (is_prewrite l.kind) refl refl g
      where
        by_own : (x y : Bool) → nat_eq l.start r.start_version ≡ x → is_prewrite l.kind ≡ y → (if x then (if y then (if r.try_one_pc then Some (errors.Abort m.key r.start_version 0) else None) else conflict r m flag true c.commits) else Some (errors.Locked (lock_info m.key l))) ≡ None → IsOpen c r.start_version
        by_own true y u v g = record { unrolled = a; uncommitted = λ f. n; unlocked = λ o f. grind (arith, nat_tests) }
        by_own false y u v g = absurd (cc)

    by_rolled : (x : Bool) → has_start c.rolled r.start_version ≡ x → (if x then Some (errors.Abort m.key r.start_version 0) else lock_conflict r m flag c.commits c.lock) ≡ None → IsOpen c r.start_version
    by_rolled true e g = absurd (cc)
    by_rolled false e g = by_lock e c.lock refl g

-- one that commits at once passes no own prewrite lock
pub unowned_once : (r : PrewriteRequest) (m : Mutation) (flag : Bool) (c : Cell) → r.try_one_pc ≡ true → prewrite_error r m flag c ≡ None → owns c.lock r.start_version ≡ false
unowned_once r m flag c once h = by_rolled (has_start c.rolled r.start_version) h
  where
    by_own : (l : Lock) (x y : Bool) → nat_eq l.start r.start_version ≡ x → is_prewrite l.kind ≡ y → (if x then (if y then (if r.try_one_pc then Some (errors.Abort m.key r.start_version 0) else None) else conflict r m flag true c.commits) else Some (errors.Locked (lock_info m.key l))) ≡ None → owns (Some l) r.start_version ≡ false
    by_own l true true u v g = absurd (let z = rw once at g in cc)
    by_own l true false u v g = rw (u, v) refl
    by_own l false y u v g = rw u refl

    by_lock : (o : Option Lock) → lock_conflict r m flag c.commits o ≡ None → owns o r.start_version ≡ false
    by_lock None g = refl
    by_lock (Some l) g = by_own l (nat_eq l.start r.start_version) (is_prewrite l.kind) refl refl g

    by_rolled : (x : Bool) → (if x then Some (errors.Abort m.key r.start_version 0) else lock_conflict r m flag c.commits c.lock) ≡ None → owns c.lock r.start_version ≡ false
    by_rolled true g = absurd (cc)
    by_rolled false g = by_lock c.lock g

-- some mutation has no error at the cell of the key
pub record PassesAt (r : PrewriteRequest) (c : Cell) : Type 0 where
  pub mutation : Mutation
  pub flag : Bool
  pub passes : prewrite_error r mutation flag c ≡ None

-- where no mutation has an error, each key of them passes
pub passes_key : (cs : List Cell) (r : PrewriteRequest) (ms : List Mutation) (fs : List Bool) (k : Key) → prewrite_errors cs r ms fs ≡ [] → has_key (mutation_keys ms) k ≡ true → PassesAt r (cell_at cs k)
passes_key cs r [] fs k h g = absurd (cc)
passes_key cs r (m ∷ ms) fs k h g = by_error (λ e f. passes_key cs r ms (drop 1 fs) k e f) (prewrite_error r m (first_flag fs) (cell_at cs m.key)) (key_eq m.key k) refl refl h g
  where
    by_error : (prewrite_errors cs r ms (drop 1 fs) ≡ [] → has_key (mutation_keys ms) k ≡ true → PassesAt r (cell_at cs k)) → (o : Option KeyError) (b : Bool) → prewrite_error r m (first_flag fs) (cell_at cs m.key) ≡ o → key_eq m.key k ≡ b → option_to_list o ++ prewrite_errors cs r ms (drop 1 fs) ≡ [] → (b || has_key (mutation_keys ms) k) ≡ true → PassesAt r (cell_at cs k)
    by_error rest (Some x) b e f u v = absurd (cc)
    by_error rest None true e f u v = record { mutation = m; flag = first_flag fs; passes = subst (λ q. prewrite_error r m (first_flag fs) (cell_at cs q) ≡ None) (same_key m.key k f) e }
    by_error rest None false e f u v = rest u v

-- where no commit is passed over, none stands at the keys
pub passed_none : (cs : List Cell) (s : ℕ) (ms : List Mutation) (k : Key) → passed_commit cs s ms ≡ None → has_key (mutation_keys ms) k ≡ true → commit_of (cell_at cs k).commits s ≡ None
passed_none cs s [] k h g = absurd (cc)
passed_none cs s (m ∷ ms) k h g = by (λ e f. passed_none cs s ms k e f) (commit_of (cell_at cs m.key).commits s) (key_eq m.key k) refl refl h g
  where
    by : (passed_commit cs s ms ≡ None → has_key (mutation_keys ms) k ≡ true → commit_of (cell_at cs k).commits s ≡ None) → (o : Option Write) (b : Bool) → commit_of (cell_at cs m.key).commits s ≡ o → key_eq m.key k ≡ b → or_earlier o (passed_commit cs s ms) ≡ None → (b || has_key (mutation_keys ms) k) ≡ true → commit_of (cell_at cs k).commits s ≡ None
    by rest (Some w) b e f u v = absurd (cc)
    by rest None true e f u v = subst (λ q. commit_of (cell_at cs q).commits s ≡ None) (same_key m.key k f) e
    by rest None false e f u v = rest u v

-- what commits at once finds neither a prewrite lock nor a commit of its start
pub clear_once : (cs : List Cell) (r : PrewriteRequest) (k : Key) → r.try_one_pc ≡ true → prewrite_errors cs r r.mutations r.is_pessimistic_lock ≡ [] → passed_commit cs r.start_version r.mutations ≡ None → has_key (mutation_keys r.mutations) k ≡ true → stands (cell_at cs k) r.start_version ≡ false
clear_once cs r k once free none here =
    let p = passes_key cs r r.mutations r.is_pessimistic_lock k free here in
    let a = unowned_once r p.mutation p.flag (cell_at cs k) once p.passes in
    let b = passed_none cs r.start_version r.mutations k none here in
    rw (a, b) refl

-- what the mutations make of the cell of one of their keys

pub record IsPlaced (r : PrewriteRequest) (c d : Cell) : Type 0 where
  pub lock : Lock
  pub start : lock.start ≡ r.start_version
  pub kind : is_prewrite lock.kind ≡ true
  pub opened : IsOpen c lock.start
  pub so : d ≡ placed_lock lock c

pub record IsLanded (r : PrewriteRequest) (n : ℕ) (c d : Cell) : Type 0 where
  pub lock : Lock
  pub start : lock.start ≡ r.start_version
  pub opened : IsOpen c lock.start
  pub unowned : owns c.lock lock.start ≡ false
  pub so : d ≡ landed_lock lock n c

module _ (r : PrewriteRequest) (n : ℕ) (cs : List Cell) (free : prewrite_errors cs r r.mutations r.is_pessimistic_lock ≡ []) (k : Key) (here : has_key (mutation_keys r.mutations) k ≡ true) where
  pub key_placed : (prewrite_cell r n r.mutations (cell_at cs k) ≡ cell_at cs k) ⊎ IsPlaced r (cell_at cs k) (prewrite_cell r n r.mutations (cell_at cs k))
  key_placed = by (place_is r n r.mutations (cell_at cs k))
    where
      by : (prewrite_cell r n r.mutations (cell_at cs k) ≡ cell_at cs k) ⊎ (ChangedBy (place r n) (cell_at cs k) (prewrite_cell r n r.mutations (cell_at cs k)) × (stands (cell_at cs k) r.start_version ≡ false)) → (prewrite_cell r n r.mutations (cell_at cs k) ≡ cell_at cs k) ⊎ IsPlaced r (cell_at cs k) (prewrite_cell r n r.mutations (cell_at cs k))
      by (inl e) = inl e
      by (inr q) =
          let p = q.0 in
          let c = cell_at cs k in
          let l = lock_of r n p.mutation.value p.kind in
          let both = neither (owns c.lock r.start_version) (has_commit c r.start_version) q.1 in
          let passes = passes_key cs r r.mutations r.is_pessimistic_lock k free here in
          inr (record {
            lock = l;
            start = refl;
            kind = kind_prewrites p.mutation.op p.kind p.locks;
            opened = open_cell r passes.mutation passes.flag c (no_commit_of c r.start_version both.1) passes.passes;
            so = p.so ∙ (place_open r n p.mutation p.kind c p.locks q.1 ∙ rw both.0 refl);
          })

  pub key_landed : r.try_one_pc ≡ true → (land_cell r n r.mutations (cell_at cs k) ≡ cell_at cs k) ⊎ IsLanded r n (cell_at cs k) (land_cell r n r.mutations (cell_at cs k))
  key_landed once = by (land_is r n r.mutations (cell_at cs k))
    where
      by : (land_cell r n r.mutations (cell_at cs k) ≡ cell_at cs k) ⊎ (ChangedBy (land r n) (cell_at cs k) (land_cell r n r.mutations (cell_at cs k)) × (has_commit (cell_at cs k) r.start_version ≡ false)) → (land_cell r n r.mutations (cell_at cs k) ≡ cell_at cs k) ⊎ IsLanded r n (cell_at cs k) (land_cell r n r.mutations (cell_at cs k))
      by (inl e) = inl e
      by (inr q) =
          let p = q.0 in
          let c = cell_at cs k in
          let l = lock_of r n p.mutation.value p.kind in
          let passes = passes_key cs r r.mutations r.is_pessimistic_lock k free here in
          inr (record {
            lock = l;
            start = refl;
            opened = open_cell r passes.mutation passes.flag c (no_commit_of c r.start_version q.1) passes.passes;
            unowned = unowned_once r passes.mutation passes.flag c once passes.passes;
            so = p.so ∙ (land_open r n p.mutation p.kind c p.locks q.1 ∙ held_commits l n c (kind_prewrites p.mutation.op p.kind p.locks));
          })
