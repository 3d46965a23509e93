-- The sample run of a spread transaction meets what is asked of a run.
use Rattle.std.proofs.Common.{◌≡◌, ◌⊎◌, inl, inr, Bool, true, false, List, [], ◌∷◌, Some, None, refl, sym, ap, ◌∙◌, subst, arith}
use Rattle.std.specs.Prelude.{if◌then◌else◌}
use Rattle.txn_kv.specs.declared.message.Mutation.{Mutation}
use Rattle.txn_kv.specs.declared.message.TxnInfo.{TxnInfo}
use Rattle.txn_history.specs.Among.{IsAmong}
use Rattle.txn_history.specs.Event.{Event, Has}
use Rattle.txn_history.specs.Event.Event.{Sent, Took, Lost}
use Rattle.txn_history.specs.Licence.{WasGiven, WasDecided, WasChecked, LockWasShown, PrewriteLicence}
use Rattle.txn_history.specs.Plan.{Key, Content, key_eq, ArePlanned, IsListed, IsPlanned, LocksKey}
use Rattle.txn_history.specs.Plan.Way.{Spread}
use Rattle.txn_model.specs.declared.cell.Kind.TheVariants as kinds
use Rattle.txn_model.specs.Cells.{cell_at}
use Rattle.txn_model.proofs.Keys.{same_key}
use Rattle.txn_law.specs.Run.{IsRun, store_after}
use Rattle.txn_law.specs.Sample.{first_key, second_key, put_of, put_first, put_second, prewrite_of, ticket, tso, gave_1, gave_2, cleanup_first, resolve}
use Rattle.txn_law.specs.SpreadSample.{spread_plans, prewrite_first, prewrite_second, first_lock, second_lock, get_second, stands_locked, check_second, second_locked, after_3, after_5, after_9, after_12, after_15, after_18, after_21, after_23, spread_sample}
use Rattle.txn_law.specs.Whole.{HasCommit}
use Rattle.txn_law.proofs.Samples.{differ, plain_sent, first_planned, second_planned, one_distinct, prewrite_licence}
use Rattle.txn_law.proofs.Tickets.{unused, unserved}

listed : IsListed (spread_plans 1) (second_key ∷ [])
listed = (written, (put_of (7 ∷ []), refl), λ k a. elim a [ inl e ↦ (put_of (8 ∷ []), subst (λ q. (spread_plans 1).writes q ≡ Some (put_of (8 ∷ []))) e refl) | inr e ↦ absurd e ])
  where
    written : (k : Key) (x : Content) → (spread_plans 1).writes k ≡ Some x → (k ≡ first_key) ⊎ IsAmong (second_key ∷ []) k
    written k x h = by (key_eq first_key k) (key_eq second_key k) refl refl h
      where
        by : (u v : Bool) → key_eq first_key k ≡ u → key_eq second_key k ≡ v → (if u then Some (put_of (7 ∷ [])) else (if v then Some (put_of (8 ∷ [])) else None)) ≡ Some x → (k ≡ first_key) ⊎ IsAmong (second_key ∷ []) k
        by true v e f g = inl (sym (same_key first_key k e))
        by false true e f g = inr (inl (same_key second_key k f))
        by false false e f g = absurd (cc)

one_planned : (m : Mutation) → IsPlanned (spread_plans 1) m → ArePlanned (spread_plans 1) (m ∷ [])
one_planned m h n (inl e) = subst (IsPlanned (spread_plans 1)) e h
one_planned m h n (inr e) = absurd e

given_2 : (es : List Event) → Has es (Took (ticket 4) tso gave_2) → WasGiven es 2
given_2 es h = (ticket 4, _, _, 2, h, (_, refl, omega arith, omega arith), omega arith)

second_alone : LocksKey (put_second ∷ []) first_key → ⊥
second_alone h = elim h.2 [ inl e ↦ differ (ap (λ (m : Mutation). m.key) e ∙ h.3) | inr e ↦ e ]

same_ways : (a b : List Key) → Spread a ≡ Spread b → a ≡ b
same_ways a b e = cc

licence_of : (es : List Event) (m : Mutation) (ks : List Key) → plain_sent es ≡ true → Has es (Took (ticket 1) tso gave_1) → IsPlanned (spread_plans 1) m → (LocksKey (m ∷ []) first_key → ks ≡ (second_key ∷ [])) → PrewriteLicence (spread_plans 1) es (prewrite_of true false (m ∷ []) ks)
licence_of es m ks plain h planned named = prewrite_licence (Spread (second_key ∷ [])) false es (m ∷ []) ks plain h (one_planned m planned) (one_distinct m)
    (λ qs w. (subst (IsListed (spread_plans 1)) (same_ways (second_key ∷ []) qs w) listed, λ l. named l ∙ same_ways (second_key ∷ []) qs w))
    (λ f. absurd (cc))

run_3 : IsRun spread_plans after_3
run_3 = (inl (inl refl), tt, ((inl refl, refl, unserved (Sent (ticket 1) tso ∷ []) (ticket 1) refl refl, omega arith), tt, (unused [] (ticket 1) refl, (tt, tt), tt)))

run_5 : IsRun spread_plans after_5
run_5 = ((inl refl, refl, unserved (Sent (ticket 2) prewrite_first ∷ after_3) (ticket 2) refl refl, omega arith), tt, (unused after_3 (ticket 2) refl, (tt, licence_of after_3 put_first (second_key ∷ []) refl (inl refl) (first_planned (Spread (second_key ∷ [])) false) (λ l. refl)), run_3))

run_9 : IsRun spread_plans after_9
run_9 =
    let before = Lost (ticket 2) prewrite_first ∷ after_5 in
    let licence = licence_of before put_second [] refl (inr (inr (inr (inl refl)))) (second_planned (Spread (second_key ∷ [])) false) (λ l. absurd (second_alone l)) in
    (inr (inl refl), tt, ((inl refl, refl, unserved (Sent (ticket 3) prewrite_second ∷ before) (ticket 3) refl refl, omega arith), tt, (unused before (ticket 3) refl, (tt, licence), (inr (inl refl), tt, run_5))))

run_12 : IsRun spread_plans after_12
run_12 = (inl (inl refl), tt, ((inl refl, refl, unserved (Sent (ticket 4) tso ∷ after_9) (ticket 4) refl refl, omega arith), tt, (unused after_9 (ticket 4) refl, (tt, tt), run_9)))

run_15 : IsRun spread_plans after_15
run_15 = (inl (inl refl), tt, ((inl refl, refl, unserved (Sent (ticket 5) get_second ∷ after_12) (ticket 5) refl refl, omega arith), tt, (unused after_12 (ticket 5) refl, (tt, given_2 after_12 (inl refl)), run_12)))

run_18 : IsRun spread_plans after_18
run_18 = (inl (inl refl), tt, ((inl refl, refl, unserved (Sent (ticket 6) cleanup_first ∷ after_15) (ticket 6) refl refl, omega arith), tt, (unused after_15 (ticket 6) refl, (tt, tt), run_15)))

run_21 : IsRun spread_plans after_21
run_21 = (inl (inl refl), tt, ((inl refl, refl, unserved (Sent (ticket 7) check_second ∷ after_18) (ticket 7) refl refl, omega arith), tt, (unused after_18 (ticket 7) refl, (tt, tt), run_18)))

-- the reader was shown the lock of the primary and that of its secondary: 2 is the greatest bound
checked : WasChecked after_21 1 2
checked = record {
  lock = first_lock;
  shown = (record { ticket = ticket 6; request = cleanup_first; answer = stands_locked; taken = inr (inr (inr (inl refl))); shows = refl; prewrite = λ e. absurd (cc); start = refl }, refl, refl);
  own = omega arith;
  each = λ k a. elim a [ inl e ↦ (2, (second_lock, shown_second, refl, e, refl), omega arith) | inr e ↦ absurd e ];
  greatest = inl refl;
}
  where
    shown_second : LockWasShown after_21 1 second_lock
    shown_second = record { ticket = ticket 7; request = check_second; answer = second_locked; taken = inl refl; shows = inl refl; prewrite = λ e. absurd (cc); start = refl }

run_23 : IsRun spread_plans after_23
run_23 = ((inl refl, refl, unserved (Sent (ticket 8) resolve ∷ after_21) (ticket 8) refl refl, omega arith), tt, (unused after_21 (ticket 8) refl, (tt, λ i h. elim h [ inl e ↦ subst (λ (j : TxnInfo). WasDecided after_21 j.txn j.status) e (inr (inl (omega arith, checked))) | inr e ↦ absurd e ]), run_21))

pub spread_runs : IsRun spread_plans spread_sample
spread_runs = (inl (inl refl), tt, ((inl refl, refl, unserved (Sent (ticket 9) get_second ∷ after_23) (ticket 9) refl refl, omega arith), tt, (unused after_23 (ticket 9) refl, (tt, given_2 after_23 (inr (inr (inr (inr (inr (inr (inr (inr (inr (inr (inr (inl refl))))))))))))), run_23)))

pub first_committed : HasCommit (cell_at (store_after spread_sample).cells first_key) 1 2 (put_of (7 ∷ []))
first_committed = record { write = record { start = 1; commit = 2; kind = kinds.Put; value = 7 ∷ [] }; among = inl refl; start = refl; commit = refl; writes = refl }

pub second_committed : HasCommit (cell_at (store_after spread_sample).cells second_key) 1 2 (put_of (8 ∷ []))
second_committed = record { write = record { start = 1; commit = 2; kind = kinds.Put; value = 8 ∷ [] }; among = inl refl; start = refl; commit = refl; writes = refl }
