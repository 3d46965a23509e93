-- What is kept of a line's heartbeat is changed.
use Rattle.std.proofs.Common.{◌≡◌, ℕ, suc, zero, ◌-◌, ◌<◌, ◌≤◌, Bool, true, List, [], length, map, get_or, set, Option, None, sym, ap, ◌∙◌, arith}
use Rattle.std.proofs.lemmas.List.{length-map, map-set, set-get_or}
use Rattle.txn_heartbeat.specs.declared.heartbeat_job.HeartbeatJob.{HeartbeatJob}
use Rattle.txn_side.specs.Sight.{next_at}
use Rattle.txn_heartbeats.specs.Beating.{IsLine}
use Rattle.txn_heartbeats.specs.Hearts.{beats_of, job_at, jobs_of, outbox_at}
use Rattle.txn_heartbeats.specs.Started.{starts_of, transaction_at, transactions_of, was_started, with_started}
use Rattle.txn_heartbeats.specs.declared.heartbeats.Heartbeats.{Heartbeats}
use Rattle.txn_heartbeats.specs.declared.pulse.Pulse.{Pulse}
use Rattle.txn_heartbeats.proofs.Lists.{at_line, map_kept, next_line, read_in}

marked : (starts : List Bool) (transaction : ℕ) → 1 ≤ transaction → set starts (transaction - 1) true ≡ with_started transaction starts
marked starts zero one = absurd (omega (arith, one))
marked starts (suc i) one = let e : suc i - 1 ≡ i = omega arith in ap (λ n. set starts n true) e

started_at : (starts : List Bool) (transaction : ℕ) → 1 ≤ transaction → get_or starts (transaction - 1) true ≡ was_started starts transaction
started_at starts zero one = absurd (omega (arith, one))
started_at starts (suc i) one = let e : suc i - 1 ≡ i = omega arith in ap (λ n. get_or starts n true) e

transaction_line : (transactions : List ℕ) (line : ℕ) → 1 ≤ line → transaction_at transactions line ≡ get_or transactions (line - 1) 0
transaction_line transactions zero one = absurd (omega (arith, one))
transaction_line transactions (suc i) one = let e : suc i - 1 ≡ i = omega arith in ap (λ n. get_or transactions n 0) (sym e)

-- that of a line is written where it stands
pub transaction_again : (transactions : List ℕ) (line : ℕ) → 1 ≤ line → set transactions (line - 1) (transaction_at transactions line) ≡ transactions
transaction_again transactions line one = ap (set transactions (line - 1)) (transaction_line transactions line one) ∙ set-get_or transactions (line - 1) 0

-- nothing is written where nothing stands
pub nobody_again : {H : Type 0} (jobs : List (Option (HeartbeatJob H))) (line : ℕ) → 1 ≤ line → job_at jobs line ≡ None → set jobs (line - 1) None ≡ jobs
nobody_again jobs zero one e = absurd (omega (arith, one))
nobody_again {H} jobs (suc i) one e =
    let at : suc i - 1 ≡ i = omega arith in
    ap (λ (n : ℕ). set jobs n None) at ∙ ap (λ (o : Option (HeartbeatJob H)). set jobs i o) (sym e) ∙ set-get_or jobs i None

module _ {S H : Type 0} (b : Heartbeats S H) where
  pub pulse_there : (line : ℕ) → IsLine (beats_of b) line → line - 1 < length b.pulses.items
  pulse_there line own = let first = own.first in let last = own.last in let long = length-map b.pulses.items (λ (p : Pulse H). p.next) in omega (arith, first, last, long)

  pub beats_kept : (i : ℕ) (p d : Pulse H) → i < length b.pulses.items → d ≡ get_or b.pulses.items i d → p.next ≡ d.next → map (λ (q : Pulse H). q.next) (set b.pulses.items i p) ≡ beats_of b
  beats_kept i p d inside e k = map_kept (λ (q : Pulse H). q.next) b.pulses.items i p d inside (k ∙ ap (λ (q : Pulse H). q.next) e)

  pub jobs_kept : (i : ℕ) (p d : Pulse H) → i < length b.pulses.items → d ≡ get_or b.pulses.items i d → p.job ≡ d.job → map (λ (q : Pulse H). q.job) (set b.pulses.items i p) ≡ jobs_of b
  jobs_kept i p d inside e k = map_kept (λ (q : Pulse H). q.job) b.pulses.items i p d inside (k ∙ ap (λ (q : Pulse H). q.job) e)

  pub beats_set : (i : ℕ) (p : Pulse H) → map (λ (q : Pulse H). q.next) (set b.pulses.items i p) ≡ set (beats_of b) i p.next
  beats_set i p = map-set (λ (q : Pulse H). q.next) b.pulses.items i p

  pub jobs_set : (i : ℕ) (p : Pulse H) → map (λ (q : Pulse H). q.job) (set b.pulses.items i p) ≡ set (jobs_of b) i p.job
  jobs_set i p = map-set (λ (q : Pulse H). q.job) b.pulses.items i p

  pub starts_kept : (i : ℕ) (p d : Pulse H) → i < length b.pulses.items → d ≡ get_or b.pulses.items i d → p.started ≡ d.started → map (λ (q : Pulse H). q.started) (set b.pulses.items i p) ≡ starts_of b
  starts_kept i p d inside e k = map_kept (λ (q : Pulse H). q.started) b.pulses.items i p d inside (k ∙ ap (λ (q : Pulse H). q.started) e)

  pub transactions_kept : (i : ℕ) (p d : Pulse H) → i < length b.pulses.items → d ≡ get_or b.pulses.items i d → p.transaction ≡ d.transaction → map (λ (q : Pulse H). q.transaction) (set b.pulses.items i p) ≡ transactions_of b
  transactions_kept i p d inside e k = map_kept (λ (q : Pulse H). q.transaction) b.pulses.items i p d inside (k ∙ ap (λ (q : Pulse H). q.transaction) e)

  pub transactions_set : (i : ℕ) (p : Pulse H) → map (λ (q : Pulse H). q.transaction) (set b.pulses.items i p) ≡ set (transactions_of b) i p.transaction
  transactions_set i p = map-set (λ (q : Pulse H). q.transaction) b.pulses.items i p

  -- one is marked as started
  pub starts_set : (transaction : ℕ) (p : Pulse H) → 1 ≤ transaction → p.started ≡ true → map (λ (q : Pulse H). q.started) (set b.pulses.items (transaction - 1) p) ≡ with_started transaction (starts_of b)
  starts_set transaction p one e = map-set (λ (q : Pulse H). q.started) b.pulses.items (transaction - 1) p ∙ ap (set (starts_of b) (transaction - 1)) e ∙ marked (starts_of b) transaction one

  -- what is kept there
  pub next_there : (line : ℕ) (d : Pulse H) → IsLine (beats_of b) line → d ≡ get_or b.pulses.items (line - 1) d → d.next ≡ next_at (beats_of b) line
  next_there line d own e = ap (λ (q : Pulse H). q.next) e ∙ sym (next_line (beats_of b) line own.first ∙ read_in (λ (q : Pulse H). q.next) b.pulses.items (line - 1) d 0 (pulse_there line own))

  job_line : (line : ℕ) → 1 ≤ line → job_at (jobs_of b) line ≡ get_or (jobs_of b) (line - 1) None
  job_line zero one = absurd (omega (arith, one))
  job_line (suc i) one = at_line None (jobs_of b) (suc i) one

  pub job_there : (line : ℕ) (d : Pulse H) → IsLine (beats_of b) line → d ≡ get_or b.pulses.items (line - 1) d → d.job ≡ job_at (jobs_of b) line
  job_there line d own e = ap (λ (q : Pulse H). q.job) e ∙ sym (job_line line own.first ∙ read_in (λ (q : Pulse H). q.job) b.pulses.items (line - 1) d None (pulse_there line own))

  -- an empty outbox
  pub outbox_there : (line : ℕ) (d : Pulse H) → IsLine (beats_of b) line → d ≡ get_or b.pulses.items (line - 1) d → record { line = line; beat = true; next = d.next; next_ask = 1; sends = [] } ≡ outbox_at line (next_at (beats_of b) line)
  outbox_there line d own e = ap (outbox_at line) (next_there line d own e)

  pub transaction_there : (line : ℕ) (d : Pulse H) → IsLine (beats_of b) line → d ≡ get_or b.pulses.items (line - 1) d → d.transaction ≡ transaction_at (transactions_of b) line
  transaction_there line d own e = ap (λ (q : Pulse H). q.transaction) e ∙ sym (transaction_line (transactions_of b) line own.first ∙ read_in (λ (q : Pulse H). q.transaction) b.pulses.items (line - 1) d 0 (pulse_there line own))

  pub started_there : (transaction : ℕ) (ps : List (Pulse H)) (d : Pulse H) → 1 ≤ transaction → ps ≡ b.pulses.items → transaction - 1 < length ps → d ≡ get_or ps (transaction - 1) d → d.started ≡ was_started (starts_of b) transaction
  started_there transaction ps d one same inside e =
      ap (λ (q : Pulse H). q.started) e ∙ sym (read_in (λ (q : Pulse H). q.started) ps (transaction - 1) d true inside)
      ∙ started_at (map (λ (q : Pulse H). q.started) ps) transaction one
      ∙ ap (λ qs. was_started (map (λ (q : Pulse H). q.started) qs) transaction) same
