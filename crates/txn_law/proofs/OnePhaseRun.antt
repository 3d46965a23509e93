-- The sample run of a transaction in one phase meets what is asked of a run.
use Rattle.std.proofs.Common.{inl, true, false, [], ◌∷◌, refl, arith}
use Rattle.txn_history.specs.Event.Event.{Sent}
use Rattle.txn_history.specs.Licence.{WasOnePhase, PrewriteLicence}
use Rattle.txn_history.specs.Plan.Way.{TwoPhases}
use Rattle.txn_model.specs.declared.cell.Kind.TheVariants as kinds
use Rattle.txn_model.specs.Cells.{cell_at}
use Rattle.txn_law.specs.Run.{IsRun, store_after}
use Rattle.txn_law.specs.Sample.{first_key, second_key, put_of, put_first, put_second, prewrite_of, ticket, tso}
use Rattle.txn_law.specs.OnePhaseSample.{one_phase_plans, prewrite, after_3, one_phase_sample}
use Rattle.txn_law.specs.Whole.{HasCommit}
use Rattle.txn_law.proofs.Samples.{both_planned, both_distinct, locked_keys, prewrite_licence}
use Rattle.txn_law.proofs.Tickets.{unused, unserved}

licence : PrewriteLicence (one_phase_plans 1) after_3 (prewrite_of false true (put_first ∷ put_second ∷ []) [])
licence = prewrite_licence TwoPhases true after_3 (put_first ∷ put_second ∷ []) [] refl (inl refl) (both_planned TwoPhases true) both_distinct (λ qs w. absurd (cc)) (λ e k x h. locked_keys TwoPhases true k x h)

run_3 : IsRun one_phase_plans after_3
run_3 = (inl (inl refl), tt, ((inl refl, refl, unserved (Sent (ticket 1) tso ∷ []) (ticket 1) refl refl, omega arith), tt, (unused [] (ticket 1) refl, (tt, tt), tt)))

pub one_phase_runs : IsRun one_phase_plans one_phase_sample
one_phase_runs = (inl (inl refl), tt, ((inl refl, refl, unserved (Sent (ticket 2) prewrite ∷ after_3) (ticket 2) refl refl, omega arith), tt, (unused after_3 (ticket 2) refl, (tt, licence), run_3)))

pub answered : WasOnePhase one_phase_sample 1 2
answered = (ticket 2, _, _, inl refl, (refl, refl), refl, refl, refl)

pub first_committed : HasCommit (cell_at (store_after one_phase_sample).cells first_key) 1 2 (put_of (7 ∷ []))
first_committed = record { write = record { start = 1; commit = 2; kind = kinds.Put; value = 7 ∷ [] }; among = inl refl; start = refl; commit = refl; writes = refl }

pub second_committed : HasCommit (cell_at (store_after one_phase_sample).cells second_key) 1 2 (put_of (8 ∷ []))
second_committed = record { write = record { start = 1; commit = 2; kind = kinds.Put; value = 8 ∷ [] }; among = inl refl; start = refl; commit = refl; writes = refl }
