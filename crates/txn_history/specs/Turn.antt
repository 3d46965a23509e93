-- How an event call of a state ends.
use Rattle.std.specs.Prelude.{◌≡◌, ◌≢◌, Bool, true, false, Result, Ok, Err, refl}
use Rattle.txn_kv.specs.declared.errors.Error.{Error}
use Rattle.txn_kv.specs.declared.memory.NoMemory.{NoMemory}
use Rattle.txn_kv.specs.declared.progress.Progress.{Progress}
use Rattle.txn_kv.specs.declared.progress.Progress.TheVariants.{Waiting, Done}

pub data Turn (A : Type 0) : Type 0 where
  -- it gave up, for want of memory
  Stopped : Turn A
  -- there is no answer yet
  Waits : Turn A
  -- this is the answer, which may be an error
  Ends : (answer : A) → Turn A

-- how a call ended that answers its progress, or gives up for want of memory
abbrev pub turn_of : {A : Type 0} → Result (Progress A) NoMemory → Turn (Result A Error)
turn_of (Ok Waiting) = Waits
turn_of (Ok (Done v)) = Ends v
turn_of (Err e) = Stopped

-- P, where the call did not give up
abbrev pub IfKept : {A : Type 0} → Turn A → Type 0 → Type 0
IfKept Stopped P = Unit {0}
IfKept Waits P = P
IfKept (Ends v) P = P

-- P of the answer, once there is one
abbrev pub IfEnds : {A : Type 0} → Turn A → (A → Type 0) → Type 0
IfEnds Stopped P = Unit {0}
IfEnds Waits P = Unit {0}
IfEnds (Ends v) P = P v

-- there is an answer
abbrev pub HasEnded : {A : Type 0} → Turn A → Type 0
HasEnded Stopped = ⊥
HasEnded Waits = ⊥
HasEnded (Ends v) = Unit {0}

-- it did not give up
abbrev pub is_kept : {A : Type 0} → Turn A → Bool
is_kept Stopped = false
is_kept Waits = true
is_kept (Ends v) = true

-- the answer is one that a new run may better
abbrev pub failing : {A : Type 0} → (A → Bool) → Turn A → Bool
failing passing Stopped = false
failing passing Waits = false
failing passing (Ends v) = passing v

-- lemmas

pub IfKept-weaker : {A P Q : Type 0} (t : Turn A) → (P → Q) → IfKept t P → IfKept t Q
IfKept-weaker Stopped w k = tt
IfKept-weaker Waits w k = w k
IfKept-weaker (Ends v) w k = w k

pub IfKept-both : {A P Q R : Type 0} (t : Turn A) → (P → Q → R) → IfKept t P → IfKept t Q → IfKept t R
IfKept-both Stopped w p q = tt
IfKept-both Waits w p q = w p q
IfKept-both (Ends v) w p q = w p q

pub IfKept-all : {A P : Type 0} (t : Turn A) → P → IfKept t P
IfKept-all Stopped p = tt
IfKept-all Waits p = p
IfKept-all (Ends v) p = p

pub IfKept-out : {A P : Type 0} (t : Turn A) → t ≢ Stopped → IfKept t P → P
IfKept-out Stopped n k = absurd (n refl)
IfKept-out Waits n k = k
IfKept-out (Ends v) n k = k

pub IfKept-stopped : {A : Type 0} (t : Turn A) (P : Type 0) → t ≡ Stopped → IfKept t P
IfKept-stopped t P e = rw e tt

pub IfEnds-weaker : {A : Type 0} (t : Turn A) {P Q : A → Type 0} → ((v : A) → P v → Q v) → IfEnds t P → IfEnds t Q
IfEnds-weaker Stopped w d = tt
IfEnds-weaker Waits w d = tt
IfEnds-weaker (Ends v) w d = w v d

pub IfEnds-stopped : {A : Type 0} (t : Turn A) (P : A → Type 0) → t ≡ Stopped → IfEnds t P
IfEnds-stopped t P e = rw e tt
