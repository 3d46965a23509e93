-- The sample run meets what is asked of a run.
use Rattle.std.proofs.Common.{◌≡◌, inl, inr, Bool, true, false, ◌||◌, List, [], ◌∷◌, refl, sym, ◌∙◌, subst, arith}
use Rattle.txn_kv.specs.declared.ticket.Ticket.{Ticket}
use Rattle.txn_kv.specs.declared.message.TxnInfo.{TxnInfo}
use Rattle.txn_kv.specs.declared.request.Request.TheVariants.{Commit}
use Rattle.txn_history.specs.Event.{Event, Has}
use Rattle.txn_history.specs.Event.Event.{Took, Asked}
use Rattle.txn_history.specs.Licence.{AllAcknowledged, WasGiven, WasDecided, PrimaryCommitLicence}
use Rattle.txn_history.specs.Plan.{key_eq}
use Rattle.txn_history.specs.Plan.Way.{TwoPhases}
use Rattle.txn_model.specs.declared.cell.Kind.TheVariants as kinds
use Rattle.txn_model.specs.Cells.{cell_at}
use Rattle.txn_law.specs.Run.{IsRun, store_after}
use Rattle.txn_law.specs.Sample.{first_key, second_key, put_of, sample_plans, put_first, put_second, lock_shown, ticket, tso, prewrite, get_second, cleanup_first, gave_1, gave_3, prewritten, locked, decided, after_1, after_2, after_3, after_4, after_5, after_6, asked_6, after_7, after_8, after_9, answered_9, after_10, after_11, after_12, after_13, lost_13, after_14, after_15, after_16, after_17, after_18, after_19, after_20, after_21, after_22, after_23, after_24, after_25, after_26, after_27, after_28, after_29, after_30, after_31, after_32, after_33, after_34, after_35, after_36, after_37, after_38, sample}
use Rattle.txn_law.specs.Whole.{HasCommit}
use Rattle.txn_law.proofs.Rows.{only_key}
use Rattle.txn_law.proofs.Samples.{differ, none_sent, locked_keys, both_planned, both_distinct, given_by, prewrite_licence}
use Rattle.txn_law.proofs.Tickets.{unused, unserved}
use Rattle.txn_law.proofs.Lone.{puts_check_nothing}

abbrev asks_made : List Event → Bool
asks_made [] = false
asks_made (Asked a ∷ es) = true
asks_made (_ ∷ es) = asks_made es

no_ask : (es : List Event) → asks_made es ≡ false → (a : Ticket) → Has es (Asked a) → ⊥
no_ask [] f a h = h
no_ask (Asked b ∷ es) f a h = absurd (cc)
no_ask (_ ∷ es) f a h = elim h [ inl w ↦ absurd (cc) | inr v ↦ no_ask es f a v ]

acknowledged : (es : List Event) → Has es (Took (ticket 2) prewrite prewritten) → AllAcknowledged (sample_plans 1) es 1
acknowledged es h = record {
  locked = λ k x w. record { ticket = ticket 2; request = _; response = _; taken = h; fine = (refl, refl); start = refl; locks = locked_keys TwoPhases false k x w; locking = refl };
  checked = λ k w. absurd (puts_check_nothing (key_eq first_key k || key_eq second_key k) w);
}

given_1 : (es : List Event) → Has es (Took (ticket 1) tso gave_1) → WasGiven es 1
given_1 es h = given_by es 1 (omega arith) h

given_3 : (es : List Event) → Has es (Took (ticket 6) tso gave_3) → WasGiven es 3
given_3 es h = (ticket 6, _, _, 3, h, (_, refl, omega arith, omega arith), omega arith)

primary_licence : PrimaryCommitLicence (sample_plans 1) answered_9 1 2
primary_licence = record {
  ready = acknowledged answered_9 (inr (inr (inr (inr (inr (inl refl))))));
  asked = (ticket 3, _, _, inr (inr (inr (inl (_, refl, acknowledged asked_6 (inr (inl refl)), given_1 asked_6 (inr (inr (inr (inr (inl refl))))))))), inr (inl refl), (_, refl, omega arith, omega arith));
  same = λ d w. absurd (none_sent answered_9 refl w.0 (Commit w.1) refl w.2);
}

resolved_so : WasDecided after_22 1 2
resolved_so = inl (record {
  primary = first_key;
  shown = record { ticket = ticket 7; request = get_second; answer = locked; lock = lock_shown false 0 second_key []; taken = inr (inr (inr (inl refl))); shows = refl; prewrite = λ e. absurd (cc); start = refl; primary = refl };
  ticket = ticket 8;
  request = cleanup_first;
  answer = decided;
  taken = inl refl;
  decides = ((refl, refl), refl, refl, refl);
})

run_1 : IsRun sample_plans after_1
run_1 = (unused [] (ticket 1) refl, (tt, tt), tt)

run_2 : IsRun sample_plans after_2
run_2 = ((inl refl, refl, unserved after_1 (ticket 1) refl refl, omega arith), tt, run_1)

run_3 : IsRun sample_plans after_3
run_3 = (inl (inl refl), tt, run_2)

run_4 : IsRun sample_plans after_4
run_4 = (unused after_3 (ticket 2) refl, (tt, prewrite_licence TwoPhases false after_3 (put_first ∷ put_second ∷ []) [] refl (inl refl) (both_planned TwoPhases false) both_distinct (λ qs w. absurd (cc)) (λ e. absurd (cc))), run_3)

run_5 : IsRun sample_plans after_5
run_5 = ((inl refl, refl, unserved after_4 (ticket 2) refl refl, omega arith), tt, run_4)

run_6 : IsRun sample_plans after_6
run_6 = (inl (inl refl), tt, run_5)

run_asked : IsRun sample_plans asked_6
run_asked = ((λ h. no_ask after_6 refl (ticket 4) h), tt, run_6)

run_7 : IsRun sample_plans after_7
run_7 = (unused asked_6 (ticket 3) refl, (tt, tt), run_asked)

run_8 : IsRun sample_plans after_8
run_8 = ((inl refl, refl, unserved after_7 (ticket 3) refl refl, omega arith), tt, run_7)

run_9 : IsRun sample_plans after_9
run_9 = (inl (inl refl), tt, run_8)

run_answered : IsRun sample_plans answered_9
run_answered = ((ticket 3, _, _, inr (inr (inl (_, refl, inl refl))), inl refl, (_, refl, omega arith, omega arith)), tt, run_9)

run_10 : IsRun sample_plans after_10
run_10 = (unused answered_9 (ticket 4) refl, (tt, inl (inl refl, λ k h. inl (only_key first_key k h, primary_licence))), run_answered)

run_11 : IsRun sample_plans after_11
run_11 = ((inl refl, refl, unserved after_10 (ticket 4) refl refl, omega arith), tt, run_10)

run_12 : IsRun sample_plans after_12
run_12 = (inl (inl refl), tt, run_11)

run_13 : IsRun sample_plans after_13
run_13 = (unused after_12 (ticket 5) refl, (tt, inl (inl refl, λ k h. inr ((λ e. differ (sym (only_key second_key k h) ∙ e)), (ticket 4, _, _, inl refl, (refl, refl), refl, refl, refl)))), run_12)

run_lost : IsRun sample_plans lost_13
run_lost = (inl refl, tt, run_13)

run_14 : IsRun sample_plans after_14
run_14 = (unused lost_13 (ticket 6) refl, (tt, tt), run_lost)

run_15 : IsRun sample_plans after_15
run_15 = ((inl refl, refl, unserved after_14 (ticket 6) refl refl, omega arith), tt, run_14)

run_16 : IsRun sample_plans after_16
run_16 = (inl (inl refl), tt, run_15)

run_17 : IsRun sample_plans after_17
run_17 = (unused after_16 (ticket 7) refl, (tt, given_3 after_16 (inl refl)), run_16)

run_18 : IsRun sample_plans after_18
run_18 = ((inl refl, refl, unserved after_17 (ticket 7) refl refl, omega arith), tt, run_17)

run_19 : IsRun sample_plans after_19
run_19 = (inl (inl refl), tt, run_18)

run_20 : IsRun sample_plans after_20
run_20 = (unused after_19 (ticket 8) refl, (tt, tt), run_19)

run_21 : IsRun sample_plans after_21
run_21 = ((inl refl, refl, unserved after_20 (ticket 8) refl refl, omega arith), tt, run_20)

run_22 : IsRun sample_plans after_22
run_22 = (inl (inl refl), tt, run_21)

run_23 : IsRun sample_plans after_23
run_23 = (unused after_22 (ticket 9) refl, (tt, λ i h. elim h [ inl e ↦ subst (λ (j : TxnInfo). WasDecided after_22 j.txn j.status) e resolved_so | inr e ↦ absurd e ]), run_22)

run_24 : IsRun sample_plans after_24
run_24 = ((inl refl, refl, unserved after_23 (ticket 9) refl refl, omega arith), tt, run_23)

run_25 : IsRun sample_plans after_25
run_25 = (inl (inl refl), tt, run_24)

run_26 : IsRun sample_plans after_26
run_26 = (unused after_25 (ticket 10) refl, (tt, given_3 after_25 (inr (inr (inr (inr (inr (inr (inr (inr (inr (inl refl))))))))))), run_25)

run_27 : IsRun sample_plans after_27
run_27 = ((inl refl, refl, unserved after_26 (ticket 10) refl refl, omega arith), tt, run_26)

run_28 : IsRun sample_plans after_28
run_28 = (inl (inl refl), tt, run_27)

run_29 : IsRun sample_plans after_29
run_29 = ((inr (inr (inr (inr (inr (inr (inr (inr (inr (inr (inr (inr (inr (inr (inr (inr (inl refl)))))))))))))))), refl, unserved after_28 (ticket 5) refl refl, omega arith), tt, run_28)

run_30 : IsRun sample_plans after_30
run_30 = (unused after_29 (ticket 11) refl, (tt, given_3 after_29 (inr (inr (inr (inr (inr (inr (inr (inr (inr (inr (inr (inr (inr (inl refl))))))))))))))), run_29)

run_31 : IsRun sample_plans after_31
run_31 = ((inl refl, refl, unserved after_30 (ticket 11) refl refl), tt, run_30)

run_32 : IsRun sample_plans after_32
run_32 = (inr (inl refl), tt, run_31)

run_33 : IsRun sample_plans after_33
run_33 = (tt, tt, run_32)

run_34 : IsRun sample_plans after_34
run_34 = (tt, tt, run_33)

run_35 : IsRun sample_plans after_35
run_35 = (tt, tt, run_34)

run_36 : IsRun sample_plans after_36
run_36 = (tt, tt, run_35)

run_37 : IsRun sample_plans after_37
run_37 = (tt, tt, run_36)

run_38 : IsRun sample_plans after_38
run_38 = (tt, tt, run_37)

pub sample_runs : IsRun sample_plans sample
sample_runs = run_38

pub first_committed : HasCommit (cell_at (store_after sample).cells first_key) 1 2 (put_of (7 ∷ []))
first_committed = record { write = record { start = 1; commit = 2; kind = kinds.Put; value = 7 ∷ [] }; among = inl refl; start = refl; commit = refl; writes = refl }

pub second_committed : HasCommit (cell_at (store_after sample).cells second_key) 1 2 (put_of (8 ∷ []))
second_committed = record { write = record { start = 1; commit = 2; kind = kinds.Put; value = 8 ∷ [] }; among = inl refl; start = refl; commit = refl; writes = refl }
