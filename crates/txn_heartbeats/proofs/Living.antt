-- Jobs may be told of something.
use Rattle.std.proofs.Common.{◌≡◌, ◌≢◌, inl, inr, ℕ, zero, suc, ◌+◌, ◌-◌, ◌≤◌, true, List, [], ◌∷◌, ◌++◌, length, set, Option, Some, None, refl, sym, ◌∙◌, subst, arith}
use Rattle.std.proofs.lemmas.Bool.{cases_eq, cases_lt}
use Rattle.std.specs.Prelude.{Result}
use Rattle.txn_heartbeat.specs.Beats.{IsAlive, StageLives}
use Rattle.txn_heartbeat.specs.declared.heartbeat_job.HeartbeatJob.{HeartbeatJob}
use Rattle.txn_heartbeat.specs.declared.heartbeat_job.Stage.{Stage}
use Rattle.txn_heartbeat.specs.declared.heartbeat_job.Stage.TheVariants as stage
use Rattle.txn_history.specs.Later.{IsLater}
use Rattle.txn_history.specs.Meaning.{IsLawful, Meaning}
use Rattle.txn_history.specs.Plan.{Key}
use Rattle.txn_history.specs.Posted.{AreNumbered, Errand, Posted, Within-refl}
use Rattle.txn_kv.specs.Timestamp.{version_of}
use Rattle.txn_kv.specs.declared.errors.Error.{Error}
use Rattle.txn_kv.specs.declared.outbox.Errand.TheVariants as errands
use Rattle.txn_side.specs.Sight.{next_at}
use Rattle.txn_heartbeats.specs.Beating.{AreTimeless, IsLine}
use Rattle.txn_heartbeats.specs.Hearts.{AreAlive, job_at, outbox_at}
use Rattle.txn_heartbeats.proofs.Lists.{at, at_front, at_other, at_past, at_same, next_is, next_other, next_set}

-- The jobs of lines

job_is : {H : Type 0} (jobs : List (Option (HeartbeatJob H))) (n : ℕ) → job_at jobs n ≡ at None jobs n
job_is jobs zero = refl
job_is jobs (suc i) = refl

job_same : {H : Type 0} (jobs : List (Option (HeartbeatJob H))) (line : ℕ) (v : Option (HeartbeatJob H)) → 1 ≤ line → line ≤ length jobs → job_at (set jobs (line - 1) v) line ≡ v
job_same jobs line v one within = job_is (set jobs (line - 1) v) line ∙ at_same None jobs line v one within

job_other : {H : Type 0} (jobs : List (Option (HeartbeatJob H))) (line n : ℕ) (v : Option (HeartbeatJob H)) → 1 ≤ line → n ≢ line → job_at (set jobs (line - 1) v) n ≡ job_at jobs n
job_other jobs line n v one apart = job_is (set jobs (line - 1) v) n ∙ at_other None jobs line n v one apart ∙ sym (job_is jobs n)

job_opened : {H : Type 0} (jobs : List (Option (HeartbeatJob H))) (n : ℕ) → job_at (jobs ++ None ∷ []) n ≡ job_at jobs n
job_opened jobs zero = refl
job_opened [] (suc zero) = refl
job_opened [] (suc (suc i)) = refl
job_opened (j ∷ js) (suc zero) = refl
job_opened (j ∷ js) (suc (suc i)) = job_opened js (suc i)

none_some : {X : Type 0} (x : X) → None ≡ Some x → ⊥
none_some x e = cc

some_same : {X : Type 0} (x y : X) → Some x ≡ Some y → x ≡ y
some_same x y e = cc

job_within : {H : Type 0} (jobs : List (Option (HeartbeatJob H))) (n : ℕ) (job : HeartbeatJob H) → job_at jobs n ≡ Some job → n ≤ length jobs
job_within jobs n job e = elim (cases_lt (length jobs) n) [
  | inl past ↦ absurd (none_some job (sym (job_is jobs n ∙ at_past None jobs n past) ∙ e))
  | inr within ↦ within
]

-- no ask is counted where none was asked
pub timeless_ask : (first ask : ℕ) (es : List Errand) (next next_ask : ℕ) → AreNumbered first ask es next next_ask → AreTimeless es → next_ask ≡ ask
timeless_ask first ask [] next next_ask n t = n.1
timeless_ask first ask (errands.Send k to r ∷ es) next next_ask n t = timeless_ask (first + 1) ask es next next_ask n.1 t
timeless_ask first ask (errands.Sleep k ms ∷ es) next next_ask n t = timeless_ask (first + 1) ask es next next_ask n.1 t
timeless_ask first ask (errands.Ask k ∷ es) next next_ask n t = absurd t

module _ {H A : Type 0} (m : Meaning H (Result A Error)) where
  -- Once its outbox is emptied, and where more was posted.

  stage_later : IsLawful m → (primary : Key) (start : ℕ) (s : Stage H) (o p : Posted) → IsLater o p → StageLives m primary start s o → StageLives m primary start s p
  stage_later laws primary start stage.Fresh o p later x = tt
  stage_later laws primary start (stage.Sleeping n) o p later x = let rises = later.next in omega (arith, x, rises)
  stage_later laws primary start (stage.Beating plan) o p later x = record {
    history = x.history;
    fits = laws.fits_longer plan o p x.history x.history later (Within-refl x.history) x.fits;
    alone = x.alone;
    below = λ t r has line beat. let before = x.below t r has (line ∙ later.line) (beat ∙ later.beat) in let rises = later.next in omega (arith, before, rises);
    asks = x.asks;
    ready = x.ready;
  }
  stage_later laws primary start stage.Over o p later x = tt
  stage_later laws primary start stage.Stopped o p later x = tt

  pub alive_later : IsLawful m → (job : HeartbeatJob H) (o p : Posted) → IsLater o p → IsAlive m job o → IsAlive m job p
  alive_later laws job o p later x = record { start = x.start; stage = stage_later laws job.heartbeat.primary (version_of job.heartbeat.start) job.stage o p later x.stage }

  pub alive_emptied : IsLawful m → (job : HeartbeatJob H) (line : ℕ) (p : Posted) → p.line ≡ line → p.beat ≡ true → p.next_ask ≡ 1 → IsAlive m job p → IsAlive m job (outbox_at line p.next)
  alive_emptied laws job line p own beat ask x = alive_later laws job p (outbox_at line p.next) (record { line = sym own; beat = sym beat; next = omega arith; next_ask = omega (arith, ask) }) x

  -- All of them

  pub alive_at : (beats : List ℕ) (jobs : List (Option (HeartbeatJob H))) (line : ℕ) (job : HeartbeatJob H) (o : Posted) → AreAlive m beats jobs → Some job ≡ job_at jobs line → o ≡ outbox_at line (next_at beats line) → IsAlive m job o
  alive_at beats jobs line job o alive there e = subst (λ (p : Posted). IsAlive m job p) (sym e) (alive line job (sym there))

  pub alive_set : (beats : List ℕ) (jobs : List (Option (HeartbeatJob H))) (line next : ℕ) (job : HeartbeatJob H) → IsLine beats line → length jobs ≡ length beats → AreAlive m beats jobs → IsAlive m job (outbox_at line next)
      → AreAlive m (set beats (line - 1) next) (set jobs (line - 1) (Some job))
  alive_set beats jobs line next job own long alive mine n other at = elim (cases_eq n line) [
    | inl same ↦ subst (λ k. IsAlive m other (outbox_at k (next_at (set beats (line - 1) next) k))) (sym same) (subst (λ k. IsAlive m other (outbox_at line k)) (sym (next_set beats line next own)) (subst (λ (j : HeartbeatJob H). IsAlive m j (outbox_at line next)) (here same) mine))
    | inr apart ↦ subst (λ k. IsAlive m other (outbox_at n k)) (sym (next_other beats line n next own.first apart)) (alive n other (sym (job_other jobs line n (Some job) own.first apart) ∙ at))
  ]
    where
      inside : line ≤ length jobs
      inside = let last = own.last in omega (arith, long, last)

      here : n ≡ line → job ≡ other
      here same = some_same job other (sym (job_same jobs line (Some job) own.first inside) ∙ subst (λ k. job_at (set jobs (line - 1) (Some job)) k ≡ Some other) same at)

  pub alive_taken : (beats : List ℕ) (jobs : List (Option (HeartbeatJob H))) (line : ℕ) → IsLine beats line → length jobs ≡ length beats → AreAlive m beats jobs → AreAlive m beats (set jobs (line - 1) None)
  alive_taken beats jobs line own long alive n other at = elim (cases_eq n line) [
    | inl same ↦ absurd (none_some other (sym (job_same jobs line None own.first inside) ∙ subst (λ k. job_at (set jobs (line - 1) None) k ≡ Some other) same at))
    | inr apart ↦ alive n other (sym (job_other jobs line n None own.first apart) ∙ at)
  ]
    where
      inside : line ≤ length jobs
      inside = let last = own.last in omega (arith, long, last)

  pub alive_opened : (beats : List ℕ) (jobs : List (Option (HeartbeatJob H))) → length jobs ≡ length beats → AreAlive m beats jobs → AreAlive m (beats ++ 1 ∷ []) (jobs ++ None ∷ [])
  alive_opened beats jobs long alive n job at = subst (λ k. IsAlive m job (outbox_at n k)) (sym same) (alive n job there)
    where
      there : job_at jobs n ≡ Some job
      there = sym (job_opened jobs n) ∙ at

      same : next_at (beats ++ 1 ∷ []) n ≡ next_at beats n
      same =
          let within = job_within jobs n job there in
          next_is (beats ++ 1 ∷ []) n ∙ at_front 0 beats (1 ∷ []) n (omega (arith, within, long)) ∙ sym (next_is beats n)
