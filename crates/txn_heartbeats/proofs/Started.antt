-- A heartbeat starts, and its job is told of something.
use Rattle.std.proofs.Common.{◌≡◌, ℕ, ◌-◌, ◌++◌, Bool, false, true, not, refl, set, Option, None, Some, ◌∙◌, subst, sym}
use Rattle.std.specs.Prelude.{OnOk, Ok, Result}
use Rattle.txn_core.specs.declared.heartbeat.Heartbeat.{Heartbeat}
use Rattle.txn_core.specs.declared.status.Status.{Status}
use Rattle.txn_heartbeat.specs.Beats.{HasHeard, Sleeps}
use Rattle.txn_heartbeat.specs.declared.heartbeat_job.HeartbeatJob.{HeartbeatJob}
use Rattle.txn_history.specs.Arrivals.{MayArrive}
use Rattle.txn_history.specs.Meaning.{Meaning}
use Rattle.txn_history.specs.Posted.{Posted}
use Rattle.txn_history.specs.Turn.{Turn as Ending}
use Rattle.txn_kv.specs.declared.errors.Error.{Error}
use Rattle.txn_kv.specs.declared.arrival.Arrival.{Arrival}
use Rattle.txn_side.specs.Sight.{next_at}
use Rattle.txn_side.specs.declared.coming.Coming.{Coming}
use Rattle.txn_side.specs.declared.coming.Coming.TheVariants as coming
use Rattle.txn_side.specs.declared.turn.Turn.{Turn}
use Rattle.txn_heartbeats.specs.Beating.{postings_of}
use Rattle.txn_heartbeats.specs.Hearts.{beats_of, jobs_of, outbox_at}
use Rattle.txn_heartbeats.specs.Started.{BeginsBeat, HasTold, Starts, StartsAsLent, arrival_of, starts_of, transactions_of, was_started, with_started}
use Rattle.txn_heartbeats.specs.declared.heartbeats.Heartbeats.{Heartbeats}

-- one job alone stands at a line
pub same_stands : {X : Type 0} (o : Option X) (x y : X) → Some x ≡ o → o ≡ Some y → x ≡ y
same_stands o x y e f = let both : Some x ≡ Some y = e ∙ f in cc

pub never_none : {X : Type 0} (o : Option X) (x : X) → Some x ≡ o → o ≡ None → ⊥
never_none o x e f = let both : Some x ≡ None = e ∙ f in cc

-- what holds where it is Ok
ok_so : {X E P : Type 0} (r : Result X E) (x : X) → r ≡ Ok x → OnOk r P → P
ok_so {X} {E} {P} r x is k = subst (λ (y : Result X E). OnOk y P) is k

-- what comes for a ticket of a heartbeat is no answer to an ask
pub may_arrive : (n : ℕ) (what : Coming) → MayArrive (arrival_of n what)
may_arrive n (coming.Reply o) = tt
may_arrive n coming.Lost = tt
may_arrive n coming.Slept = tt

pub not_false : (b : Bool) → not b ≡ false → b ≡ true
not_false true e = refl
not_false false e = absurd (cc)

module _ {S H : Type 0} where
  pub begins_so : {X E : Type 0} (r : Result X E) (x : X) → r ≡ Ok x → (Posted : S → Turn → Type 0) (heart : S → Option Heartbeat → Type 0) (line transaction : ℕ) (old new : Heartbeats S H) (mid : S) (before after : Turn) → new.side ≡ mid → Posted mid before → after.ended ≡ before.ended
      → (was_started (starts_of old) transaction ≡ true → OnOk r ((new ≡ record old { side = mid }) × (after ≡ before)))
      → (was_started (starts_of old) transaction ≡ false → OnOk r (StartsAsLent (heart mid) line transaction (record old { side = mid }) new before after))
      → BeginsBeat (Posted new.side) (heart new.side) line transaction (record old { side = new.side }) new after
  begins_so r x is Posted heart line transaction old new mid before after same posted ended once starts =
      subst (λ (s : S). BeginsBeat (Posted s) (heart s) line transaction (record old { side = s }) new after) (sym same) (record {
        before = before;
        posted = posted;
        ended = ended;
        once = λ e. ok_so r x is (once e);
        starts = λ e. ok_so r x is (starts e);
      })

  pub starts_lent : (heart : Option Heartbeat → Type 0) (line last transaction : ℕ) (beat : Heartbeat) (old new : Heartbeats S H) (before after : Turn) (fresh job : HeartbeatJob H) (o out : Posted) (ending : Ending (Result (Unit {0}) Error))
      → line ≡ last → heart (Some beat) → fresh.heartbeat ≡ beat → job.heartbeat ≡ fresh.heartbeat → o ≡ outbox_at line (next_at (beats_of old) line) → Sleeps fresh job o out ending
      → after.posted.items ≡ before.posted.items ++ postings_of line out.sends → jobs_of new ≡ set (jobs_of old) (line - 1) (Some job) → transactions_of new ≡ set (transactions_of old) (line - 1) transaction → starts_of new ≡ with_started transaction (starts_of old)
      → StartsAsLent heart last transaction old new before after
  starts_lent heart line last transaction beat old new before after fresh job o out ending same lent is kept empty sleeps posted jobs transactions started = record {
    needed = Some beat;
    lent = lent;
    done = subst (λ n. Starts n transaction beat old new before after) same (record {
      fresh = fresh;
      job = job;
      out = out;
      ending = ending;
      heart = is;
      kept = kept ∙ is;
      sleeps = subst (λ (p : Posted). Sleeps fresh job p out ending) empty sleeps;
      posted = posted;
      jobs = jobs;
      transactions = transactions;
      started = started;
    });
  }

  pub told_so : {A : Type 0} (m : Meaning H (Result A Error)) (line : ℕ) (arrival : Arrival) (status is : Status) (now : ℕ) (job there after : HeartbeatJob H) (o out : Posted) (ending : Ending (Result (Unit {0}) Error)) (old new : Heartbeats S H) (turn : Turn)
      → is ≡ status → there ≡ job → o ≡ outbox_at line (next_at (beats_of old) line) → HasHeard m arrival is now there after o out ending
      → jobs_of new ≡ set (jobs_of old) (line - 1) (Some after) → turn.posted.items ≡ postings_of line out.sends
      → HasTold m line arrival status now job old new turn
  told_so m line arrival status is now job there after o out ending old new turn same own empty heard jobs posted = record {
    after = after;
    out = out;
    ending = ending;
    heard =
        subst (λ (x : Status). HasHeard m arrival x now job after (outbox_at line (next_at (beats_of old) line)) out ending) same
        (subst (λ (j : HeartbeatJob H). HasHeard m arrival is now j after (outbox_at line (next_at (beats_of old) line)) out ending) own
        (subst (λ (p : Posted). HasHeard m arrival is now there after p out ending) empty heard));
    jobs = jobs;
    posted = posted;
  }
