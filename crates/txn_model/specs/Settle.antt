-- What rolls a start back at a cell, and what else takes its lock away.
use Rattle.std.specs.Prelude.{ℕ, ◌&&◌, if◌then◌else◌, List, [], ◌∷◌, Option, Some, None, nat_eq, nat_lt}
use Rattle.txn_model.specs.declared.cell.Cell.{Cell}
use Rattle.txn_model.specs.declared.cell.Lock.{Lock}
use Rattle.txn_model.specs.Locks.{is_prewrite, owns, holds}

-- the starts with one more, ascending and each once
abbrev pub with_start : ℕ → List ℕ → List ℕ
with_start s [] = s ∷ []
with_start s (x ∷ xs) = if nat_lt s x then s ∷ x ∷ xs else (if nat_eq s x then x ∷ xs else x ∷ with_start s xs)

-- a lock of the start goes
abbrev pub unlocked : ℕ → Cell → Cell
unlocked s c = record { key = c.key; lock = if holds c.lock s then None else c.lock; commits = c.commits; rolled = c.rolled }

-- the start is recorded as rolled back, and a lock of it goes
abbrev pub rolled_back : ℕ → Cell → Cell
rolled_back s c = record { key = c.key; lock = if holds c.lock s then None else c.lock; commits = c.commits; rolled = with_start s c.rolled }

-- a pessimistic lock of the start goes, and nothing is recorded
abbrev pub released : ℕ → Cell → Cell
released s c = if owns c.lock s then c else unlocked s c

-- the lock of the start, if it has one
abbrev pub lock_of_start : ℕ → Option Lock → Option Lock
lock_of_start s None = None
lock_of_start s (Some l) = if nat_eq l.start s then Some l else None

-- the prewrite lock of the start, if it has one
abbrev pub own_prewrite_lock : ℕ → Option Lock → Option Lock
own_prewrite_lock s None = None
own_prewrite_lock s (Some l) = if nat_eq l.start s && is_prewrite l.kind then Some l else None
