-- What a request does to one cell is one of a few changes, and each fact about cells is shown once for each of them.
use Rattle.std.proofs.Common.{◌≡◌, ℕ, Bool, true, false, ◌&&◌, Option, Some, None, nat_eq, refl, sym, subst, arith}
use Rattle.std.specs.Prelude.{if◌then◌else◌}
use Rattle.std.proofs.lemmas.Bool.Decides.{nat_tests}
use Rattle.txn_kv.specs.declared.request.Request.{Request}
use Rattle.txn_model.specs.declared.cell.Cell.{Cell}
use Rattle.txn_model.specs.declared.cell.Lock.{Lock}
use Rattle.txn_model.specs.declared.cell.Write.{Write}
use Rattle.txn_model.specs.Cells.{Key, no_cell}
use Rattle.txn_model.specs.Commit.{committed, commit_lock}
use Rattle.txn_model.specs.Locks.{has_start, is_prewrite, owns, holds, commit_of, with_commit}
use Rattle.txn_model.specs.Orderly.{IsOrderly}
use Rattle.txn_model.specs.Settle.{with_start, rolled_back, released, unlocked}
use Rattle.txn_model.specs.Status.{longer_lived, with_lock}
use Rattle.txn_model.specs.Steps.{PrewritesAt, LandsAt, LocksAt, CommitsAt, RollsBackAt, ReleasesAt, DestroysAt}
use Rattle.txn_model.specs.Store.{Store}
use Rattle.txn_model.proofs.Orders.{ascend_with, differ_with, start_with, has_with_start}

-- a lock is set
abbrev pub held : Lock → Cell → Cell
held l c = record { key = c.key; lock = Some l; commits = c.commits; rolled = c.rolled }

-- a lock is set, unless its start holds a prewrite lock
abbrev pub placed_lock : Lock → Cell → Cell
placed_lock l c = if owns c.lock l.start then c else held l c

-- the lock, as a commit at n that is made at once
abbrev pub landed_lock : Lock → ℕ → Cell → Cell
landed_lock l n c = record { key = c.key; lock = None; commits = with_commit (record { start = l.start; commit = n; kind = l.kind; value = l.value }) c.commits; rolled = c.rolled }

-- a prewrite may lock here
pub record IsOpen (c : Cell) (s : ℕ) : Type 0 where
  pub unrolled : has_start c.rolled s ≡ false
  pub uncommitted : owns c.lock s ≡ false → commit_of c.commits s ≡ None
  pub unlocked : (l : Lock) → c.lock ≡ Some l → l.start ≡ s

-- no lock but an own pessimistic one
abbrev pub IsClear : Cell → ℕ → Type 0
IsClear c s = (l : Lock) → c.lock ≡ Some l → (l.start ≡ s) × (is_prewrite l.kind ≡ false)

pub data CellStep (st : Store) (r : Request) (k : Key) (c : Cell) : Cell → Type 0 where
  Same : CellStep st r k c c
  Places : (l : Lock) → is_prewrite l.kind ≡ true → IsOpen c l.start → PrewritesAt r k l.start → CellStep st r k c (placed_lock l c)
  Lands : (l : Lock) (n : ℕ) → IsOpen c l.start → owns c.lock l.start ≡ false → LandsAt st r k l.start n → CellStep st r k c (landed_lock l n c)
  Recorded : (s : ℕ) → RollsBackAt st r k s → CellStep st r k c (rolled_back s c)
  Made : (s n : ℕ) → CommitsAt st r k s n → CellStep st r k c (committed s n c)
  Released : (s : ℕ) → ReleasesAt st r k s → CellStep st r k c (released s c)
  Held : (l : Lock) → is_prewrite l.kind ≡ false → IsClear c l.start → LocksAt r k l.start → CellStep st r k c (held l c)
  Renewed : (l : Lock) (ttl : ℕ) → c.lock ≡ Some l → CellStep st r k c (with_lock (longer_lived ttl l) c)
  Destroyed : DestroysAt r k → CellStep st r k c (no_cell k)

-- Cells stay orderly.

pub orderly_none : (k : Key) → IsOrderly (no_cell k)
orderly_none k = record { commits = tt; once = tt; rolled = tt; free = λ s h. absurd (cc) }

pub orderly_placed : (l : Lock) (c : Cell) → IsOpen c l.start → IsOrderly c → IsOrderly (placed_lock l c)
orderly_placed l c h i = by (owns c.lock l.start) refl
  where
    by : (b : Bool) → owns c.lock l.start ≡ b → IsOrderly (if b then c else held l c)
    by true e = i
    by false e = record {
      commits = i.commits;
      once = i.once;
      rolled = i.rolled;
      free = λ s g. let a = h.unrolled in let b = h.uncommitted e in grind (arith, nat_tests);
    }

pub orderly_landed : (l : Lock) (n : ℕ) (c : Cell) → IsOpen c l.start → owns c.lock l.start ≡ false → IsOrderly c → IsOrderly (landed_lock l n c)
orderly_landed l n c h e i =
    let w : Write = record { start = l.start; commit = n; kind = l.kind; value = l.value } in
    record {
      commits = ascend_with w c.commits i.commits;
      once = differ_with w c.commits (h.uncommitted e) i.once;
      rolled = i.rolled;
      free = λ t g. absurd (cc);
    }

pub orderly_rolled : (s : ℕ) (c : Cell) → IsOrderly c → IsOrderly (rolled_back s c)
orderly_rolled s c i = record {
  commits = i.commits;
  once = i.once;
  rolled = start_with s c.rolled i.rolled;
  free = λ t g. by t (c.lock) refl g;
}
  where
    by : (t : ℕ) (o : Option Lock) → c.lock ≡ o → owns (if holds o s then None else o) t ≡ true → (has_start (with_start s c.rolled) t ≡ false) × (commit_of c.commits t ≡ None)
    by t None e g = absurd (cc)
    by t (Some l) e g =
        let f = has_with_start s c.rolled t in
        let u : owns c.lock t ≡ true = grind (arith, nat_tests) in
        let v = i.free t u in
        let a = v.0 in
        let b = v.1 in
        grind (arith, nat_tests)

pub orderly_committed : (s n : ℕ) (c : Cell) → IsOrderly c → IsOrderly (committed s n c)
orderly_committed s n c i = by_lock c.lock refl
  where
    by_own : (l : Lock) → c.lock ≡ Some l → (b : Bool) → (nat_eq l.start s && is_prewrite l.kind) ≡ b → IsOrderly (if b then record { key = c.key; lock = None; commits = with_commit (record { start = s; commit = n; kind = l.kind; value = l.value }) c.commits; rolled = c.rolled } else c)
    by_own l e true f =
        let w : Write = record { start = s; commit = n; kind = l.kind; value = l.value } in
        let u : owns c.lock s ≡ true = rw e f in
        record {
          commits = ascend_with w c.commits i.commits;
          once = differ_with w c.commits (i.free s u).1 i.once;
          rolled = i.rolled;
          free = λ t g. absurd (cc);
        }
    by_own l e false f = i

    by_lock : (o : Option Lock) → c.lock ≡ o → IsOrderly (commit_lock s n o c)
    by_lock None e = i
    by_lock (Some l) e = by_own l e (nat_eq l.start s && is_prewrite l.kind) refl

pub orderly_released : (s : ℕ) (c : Cell) → IsOrderly c → IsOrderly (released s c)
orderly_released s c i = by (owns c.lock s)
  where
    free : (t : ℕ) (o : Option Lock) → c.lock ≡ o → owns (if holds o s then None else o) t ≡ true → (has_start c.rolled t ≡ false) × (commit_of c.commits t ≡ None)
    free t None e g = absurd (cc)
    free t (Some l) e g = i.free t (grind (arith, nat_tests))

    by : (b : Bool) → IsOrderly (if b then c else unlocked s c)
    by true = i
    by false = record { commits = i.commits; once = i.once; rolled = i.rolled; free = λ t g. free t c.lock refl g }

pub orderly_held : (l : Lock) (c : Cell) → is_prewrite l.kind ≡ false → IsOrderly c → IsOrderly (held l c)
orderly_held l c p i = record { commits = i.commits; once = i.once; rolled = i.rolled; free = λ s g. absurd (by (nat_eq l.start s) g) }
  where
    by : (b : Bool) → (b && is_prewrite l.kind) ≡ true → ⊥
    by true g = cc
    by false g = cc

pub orderly_renewed : (l : Lock) (ttl : ℕ) (c : Cell) → c.lock ≡ Some l → IsOrderly c → IsOrderly (with_lock (longer_lived ttl l) c)
orderly_renewed l ttl c e i = record { commits = i.commits; once = i.once; rolled = i.rolled; free = λ s g. i.free s (subst (λ o. owns o s ≡ true) (sym e) g) }

pub orderly_after : (st : Store) (r : Request) (k : Key) (c d : Cell) → IsOrderly c → CellStep st r k c d → IsOrderly d
orderly_after st r k c d i Same = i
orderly_after st r k c d i (Places l p a w) = orderly_placed l c a i
orderly_after st r k c d i (Lands l n a e w) = orderly_landed l n c a e i
orderly_after st r k c d i (Recorded s w) = orderly_rolled s c i
orderly_after st r k c d i (Made s n w) = orderly_committed s n c i
orderly_after st r k c d i (Released s w) = orderly_released s c i
orderly_after st r k c d i (Held l p a w) = orderly_held l c p i
orderly_after st r k c d i (Renewed l n e) = orderly_renewed l n c e i
orderly_after st r k c d i (Destroyed w) = orderly_none k
