-- What was known before a line stays so, and with it the causes of outcomes and what is due.
use Rattle.std.proofs.Common.{◌≡◌, ◌≢◌, ℕ, zero, suc, ◌+◌, ◌<◌, ◌≤◌, ◌⊎◌, inl, inr, Bool, true, false, ◌&&◌, if◌then◌else◌, List, [], ◌∷◌, ◌++◌, Some, length, get_or, set, slice_get, nat_eq, nat_lt, refl, sym, ap, ◌∙◌, subst, subst₂, arith, length-append, length-set}
use Rattle.std.proofs.lemmas.Bool.Decides.{nat_tests}
use Rattle.txn_kv.specs.declared.ticket.Ticket.{Ticket}
use Rattle.txn_history.specs.Event.{Event}
use Rattle.txn_script.specs.Lines.{line_at}
use Rattle.txn_script.specs.declared.line.Line.{Line}
use Rattle.txn_script.specs.declared.line.Line.TheVariants.{Blank, Client, Begin, Put, Commit, Deliver}
use Rattle.txn_report.specs.declared.outcome.Outcome.{Outcome}
use Rattle.txn_report.specs.declared.outcome.Outcome.TheVariants.{Ok, Unfinished}
use Rattle.txn_report.specs.declared.outcome.Payload.TheVariants.{Number, Commit as Committed_at}
use Rattle.txn_report.specs.declared.report.SentNote.{SentNote}
use Rattle.txn_first.specs.Script.{outcome_of, is_done, find, with_sends, history, known, known_of}
use Rattle.txn_first.specs.Causes.{is_unfinished, is_free, allows_commit, status_of, writes_of, has_some, CommitsWith, HasCause, Causes, IsDue, Dues}
use Rattle.txn_first.specs.Rowed.{Times}
use Rattle.txn_first.proofs.Lists.{or_pushed, or_past, or_last, or_same, or_other, get_is_or, get_within}
use Rattle.txn_first.proofs.Histories.{history_same}
use Rattle.txn_first.proofs.Lines.{line_new, line_old, line_within}

known_late : (e n : ℕ) (o : Outcome) → n ≤ e → known_of e n o ≡ Unfinished
known_late e n o h =
    let a : nat_lt e n ≡ false = grind (arith, nat_tests) in
    ap (λ (b : Bool). if nat_lt 0 e && b then o else Unfinished) a ∙ at_false (nat_lt 0 e)
  where
    at_false : (b : Bool) → (if b && false then o else Unfinished) ≡ Unfinished
    at_false true = refl
    at_false false = refl

known_unfinished : (e n : ℕ) → known_of e n Unfinished ≡ Unfinished
known_unfinished e n = same (nat_lt 0 e && nat_lt e n)
  where
    same : (b : Bool) → (if b then Unfinished else Unfinished) ≡ Unfinished
    same true = refl
    same false = refl

-- an outcome that comes in the newest line, or not yet, was not known before
pub known_open : (outs : List Outcome) (ended : List ℕ) (o : Outcome) (e n i : ℕ) → length ended ≡ length outs → n ≤ suc (length outs) → (e ≡ 0) ⊎ (e ≡ suc (length outs)) → known (outs ++ o ∷ []) (ended ++ e ∷ []) n i ≡ known outs ended n i
known_open outs ended o e n zero l h c = refl
known_open outs ended o e n (suc i) l h c = by_place (nat_lt i (length outs)) refl
  where
    at_last : (i : ℕ) → i ≡ length outs → known_of (get_or (ended ++ e ∷ []) i 0) n (get_or (outs ++ o ∷ []) i Unfinished) ≡ known_of (get_or ended i 0) n (get_or outs i Unfinished)
    at_last i same =
        let a : get_or (ended ++ e ∷ []) i 0 ≡ e = subst (λ k. get_or (ended ++ e ∷ []) k 0 ≡ e) (l ∙ sym same) (or_last ended e 0) in
        let b : get_or outs i Unfinished ≡ Unfinished = or_past outs Unfinished i (omega arith) in
        let c' : known_of e n (get_or (outs ++ o ∷ []) i Unfinished) ≡ Unfinished = elim c [
          | inl z ↦ ap (λ k. known_of k n (get_or (outs ++ o ∷ []) i Unfinished)) z
          | inr z ↦ known_late e n (get_or (outs ++ o ∷ []) i Unfinished) (omega arith)
        ] in
        ap (λ k. known_of k n (get_or (outs ++ o ∷ []) i Unfinished)) a ∙ c' ∙ sym (ap (λ z. known_of (get_or ended i 0) n z) b ∙ known_unfinished (get_or ended i 0) n)

    past_last : (i : ℕ) → length outs < i → known_of (get_or (ended ++ e ∷ []) i 0) n (get_or (outs ++ o ∷ []) i Unfinished) ≡ known_of (get_or ended i 0) n (get_or outs i Unfinished)
    past_last i far =
        let a = length-append outs (o ∷ []) in
        let x : get_or (outs ++ o ∷ []) i Unfinished ≡ Unfinished = or_past (outs ++ o ∷ []) Unfinished i (omega arith) in
        let y : get_or outs i Unfinished ≡ Unfinished = or_past outs Unfinished i (omega arith) in
        ap (λ z. known_of (get_or (ended ++ e ∷ []) i 0) n z) x ∙ known_unfinished (get_or (ended ++ e ∷ []) i 0) n ∙ sym (ap (λ z. known_of (get_or ended i 0) n z) y ∙ known_unfinished (get_or ended i 0) n)

    by_place : (b : Bool) → nat_lt i (length outs) ≡ b → known_of (get_or (ended ++ e ∷ []) i 0) n (get_or (outs ++ o ∷ []) i Unfinished) ≡ known_of (get_or ended i 0) n (get_or outs i Unfinished)
    by_place true f =
        let inside : i < length outs = grind (arith, nat_tests) in
        let inside' : i < length ended = omega arith in
        ap (λ k. known_of k n (get_or (outs ++ o ∷ []) i Unfinished)) (or_pushed ended e 0 i inside') ∙ ap (λ z. known_of (get_or ended i 0) n z) (or_pushed outs o Unfinished i inside)
    by_place false f = by_end (nat_eq i (length outs)) refl
      where
        by_end : (b : Bool) → nat_eq i (length outs) ≡ b → known_of (get_or (ended ++ e ∷ []) i 0) n (get_or (outs ++ o ∷ []) i Unfinished) ≡ known_of (get_or ended i 0) n (get_or outs i Unfinished)
        by_end true g = at_last i (grind (arith, nat_tests))
        by_end false g = past_last i (grind (arith, nat_tests))

-- an outcome that comes in line e was not known before, where nothing stood
pub known_set : (outs : List Outcome) (ended : List ℕ) (o : Outcome) (e n i j : ℕ) → length ended ≡ length outs → slice_get outs i ≡ Some Unfinished → n ≤ e → known (set outs i o) (set ended i e) n j ≡ known outs ended n j
known_set outs ended o e n i zero l g h = refl
known_set outs ended o e n i (suc j) l g h = by_place (nat_eq j i) refl
  where
    by_place : (b : Bool) → nat_eq j i ≡ b → known_of (get_or (set ended i e) j 0) n (get_or (set outs i o) j Unfinished) ≡ known_of (get_or ended j 0) n (get_or outs j Unfinished)
    by_place true q =
        let same : j ≡ i = grind (arith, nat_tests) in
        let inside = get_within outs i Unfinished g in
        let a : get_or (set ended i e) j 0 ≡ e = subst (λ k. get_or (set ended i e) k 0 ≡ e) (sym same) (or_same ended i e 0 (omega arith)) in
        let b : get_or outs j Unfinished ≡ Unfinished = subst (λ k. get_or outs k Unfinished ≡ Unfinished) (sym same) (get_is_or outs i Unfinished Unfinished g) in
        ap (λ k. known_of k n (get_or (set outs i o) j Unfinished)) a ∙ known_late e n (get_or (set outs i o) j Unfinished) h ∙ sym (ap (λ z. known_of (get_or ended j 0) n z) b ∙ known_unfinished (get_or ended j 0) n)
    by_place false q =
        let apart : j ≢ i = grind (arith, nat_tests) in
        ap (λ k. known_of k n (get_or (set outs i o) j Unfinished)) (or_other ended i j e 0 apart) ∙ ap (λ z. known_of (get_or ended j 0) n z) (or_other outs i j o Unfinished apart)

pub known_now : (outs : List Outcome) (ended : List ℕ) (n j : ℕ) → Times outs ended → length outs < n → known outs ended n j ≡ outcome_of outs j
known_now outs ended n zero t h = refl
known_now outs ended n (suc i) t h = by_zero (nat_eq (get_or ended i 0) 0) refl
  where
    by_zero : (b : Bool) → nat_eq (get_or ended i 0) 0 ≡ b → known_of (get_or ended i 0) n (get_or outs i Unfinished) ≡ get_or outs i Unfinished
    by_zero true f =
        let z : get_or ended i 0 ≡ 0 = grind (arith, nat_tests) in
        ap (λ o. known_of (get_or ended i 0) n o) (t.still i z) ∙ known_unfinished (get_or ended i 0) n ∙ sym (t.still i z)
    by_zero false f =
        let p = t.past i in
        let a : nat_lt 0 (get_or ended i 0) ≡ true = grind (arith, nat_tests) in
        let b : nat_lt (get_or ended i 0) n ≡ true = grind (arith, nat_tests) in
        rw (a, b) refl

-- the outcomes of the lines before stay
pub times_open : (outs : List Outcome) (ended : List ℕ) (o : Outcome) (e : ℕ) → ((e ≡ 0) × (o ≡ Unfinished)) ⊎ ((e ≡ suc (length outs)) × (is_unfinished o ≡ false)) → Times outs ended → Times (outs ++ o ∷ []) (ended ++ e ∷ [])
times_open outs ended o e c t = record {
  counted = let a = length-append outs (o ∷ []) in let b = length-append ended (e ∷ []) in let d = t.counted in omega arith;
  past = λ i. past_at i (nat_lt i (length ended)) refl;
  still = λ i z. open_at i z (nat_lt i (length ended)) refl;
  own = λ i z. own_at i z (nat_lt i (length ended)) refl;
  over = λ i z. over_at i z (nat_lt i (length ended)) refl;
}
  where
    longer : length (outs ++ o ∷ []) ≡ length outs + 1
    longer = length-append outs (o ∷ [])

    small : e ≤ length outs + 1
    small = elim c [ inl z ↦ (let a = z.0 in omega arith) | inr z ↦ (let a = z.0 in omega arith) ]

    own_at : (i : ℕ) → get_or (ended ++ e ∷ []) i 0 ≢ 0 → (b : Bool) → nat_lt i (length ended) ≡ b → i < get_or (ended ++ e ∷ []) i 0
    own_at i z true f =
        let inside : i < length ended = grind (arith, nat_tests) in
        let v = or_pushed ended e 0 i inside in
        let h = t.own i (λ q. z (v ∙ q)) in
        rw v h
    own_at i z false f = by_end (nat_eq i (length ended)) refl
      where
        by_end : (b : Bool) → nat_eq i (length ended) ≡ b → i < get_or (ended ++ e ∷ []) i 0
        by_end true g =
            let same : length ended ≡ i = grind (arith, nat_tests) in
            let v : get_or (ended ++ e ∷ []) i 0 ≡ e = subst (λ k. get_or (ended ++ e ∷ []) k 0 ≡ e) same (or_last ended e 0) in
            elim c [
              | inl w ↦ absurd (z (v ∙ w.0))
              | inr w ↦ (let a = w.0 in let d = t.counted in rw v (omega arith))
            ]
        by_end false g =
            let l = length-append ended (e ∷ []) in
            let far : length (ended ++ e ∷ []) ≤ i = grind (arith, nat_tests, l) in
            absurd (z (or_past (ended ++ e ∷ []) 0 i far))

    over_at : (i : ℕ) → get_or (ended ++ e ∷ []) i 0 ≢ 0 → (b : Bool) → nat_lt i (length ended) ≡ b → is_unfinished (get_or (outs ++ o ∷ []) i Unfinished) ≡ false
    over_at i z true f =
        let inside : i < length ended = grind (arith, nat_tests) in
        let d = t.counted in
        ap is_unfinished (or_pushed outs o Unfinished i (omega arith)) ∙ t.over i (λ q. z (or_pushed ended e 0 i inside ∙ q))
    over_at i z false f = by_end (nat_eq i (length ended)) refl
      where
        by_end : (b : Bool) → nat_eq i (length ended) ≡ b → is_unfinished (get_or (outs ++ o ∷ []) i Unfinished) ≡ false
        by_end true g =
            let same : length ended ≡ i = grind (arith, nat_tests) in
            let v : get_or (ended ++ e ∷ []) i 0 ≡ e = subst (λ k. get_or (ended ++ e ∷ []) k 0 ≡ e) same (or_last ended e 0) in
            elim c [
              | inl w ↦ absurd (z (v ∙ w.0))
              | inr w ↦ (let d = t.counted in subst (λ k. is_unfinished (get_or (outs ++ o ∷ []) k Unfinished) ≡ false) (sym d ∙ same) (ap is_unfinished (or_last outs o Unfinished) ∙ w.1))
            ]
        by_end false g =
            let l = length-append ended (e ∷ []) in
            let far : length (ended ++ e ∷ []) ≤ i = grind (arith, nat_tests, l) in
            absurd (z (or_past (ended ++ e ∷ []) 0 i far))

    past_at : (i : ℕ) (b : Bool) → nat_lt i (length ended) ≡ b → get_or (ended ++ e ∷ []) i 0 ≤ length (outs ++ o ∷ [])
    past_at i true f =
        let inside : i < length ended = grind (arith, nat_tests) in
        let a = t.past i in let b = longer in
        rw (or_pushed ended e 0 i inside) (omega arith)
    past_at i false f = by_end (nat_eq i (length ended)) refl
      where
        by_end : (b : Bool) → nat_eq i (length ended) ≡ b → get_or (ended ++ e ∷ []) i 0 ≤ length (outs ++ o ∷ [])
        by_end true g =
            let same : length ended ≡ i = grind (arith, nat_tests) in
            let v : get_or (ended ++ e ∷ []) i 0 ≡ e = subst (λ k. get_or (ended ++ e ∷ []) k 0 ≡ e) same (or_last ended e 0) in
            let a = longer in let b = small in rw v (omega arith)
        by_end false g =
            let l = length-append ended (e ∷ []) in
            let far : length (ended ++ e ∷ []) ≤ i = grind (arith, nat_tests, l) in
            rw (or_past (ended ++ e ∷ []) 0 i far) (omega arith)

    open_at : (i : ℕ) → get_or (ended ++ e ∷ []) i 0 ≡ 0 → (b : Bool) → nat_lt i (length ended) ≡ b → get_or (outs ++ o ∷ []) i Unfinished ≡ Unfinished
    open_at i z true f =
        let inside : i < length ended = grind (arith, nat_tests) in
        let d = t.counted in
        or_pushed outs o Unfinished i (omega arith) ∙ t.still i (sym (or_pushed ended e 0 i inside) ∙ z)
    open_at i z false f = by_end (nat_eq i (length ended)) refl
      where
        by_end : (b : Bool) → nat_eq i (length ended) ≡ b → get_or (outs ++ o ∷ []) i Unfinished ≡ Unfinished
        by_end true g =
            let same : length ended ≡ i = grind (arith, nat_tests) in
            let v : get_or (ended ++ e ∷ []) i 0 ≡ e = subst (λ k. get_or (ended ++ e ∷ []) k 0 ≡ e) same (or_last ended e 0) in
            let zero_e : e ≡ 0 = sym v ∙ z in
            let is : o ≡ Unfinished = elim c [ inl w ↦ w.1 | inr w ↦ absurd (let a = w.0 in omega arith) ] in
            let d = t.counted in
            subst (λ k. get_or (outs ++ o ∷ []) k Unfinished ≡ Unfinished) (sym d ∙ same) (or_last outs o Unfinished ∙ is)
        by_end false g =
            let l = length-append outs (o ∷ []) in let d = t.counted in
            let far : length (outs ++ o ∷ []) ≤ i = grind (arith, nat_tests, l) in
            or_past (outs ++ o ∷ []) Unfinished i far

pub times_set : (outs : List Outcome) (ended : List ℕ) (i : ℕ) (o : Outcome) → i < length outs → is_unfinished o ≡ false → Times outs ended → Times (set outs i o) (set ended i (length outs))
times_set outs ended i o h u t = record {
  counted = length-set ended i (length outs) ∙ t.counted ∙ sym (length-set outs i o);
  past = λ j. past_at j (nat_eq j i) refl;
  still = λ j z. open_at j z (nat_eq j i) refl;
  own = λ j z. own_at j z (nat_eq j i) refl;
  over = λ j z. over_at j z (nat_eq j i) refl;
}
  where
    past_at : (j : ℕ) (b : Bool) → nat_eq j i ≡ b → get_or (set ended i (length outs)) j 0 ≤ length (set outs i o)
    past_at j true f =
        let same : j ≡ i = grind (arith, nat_tests) in
        let d = t.counted in
        let v : get_or (set ended i (length outs)) j 0 ≡ length outs = subst (λ k. get_or (set ended i (length outs)) k 0 ≡ length outs) (sym same) (or_same ended i (length outs) 0 (omega arith)) in
        rw (v, length-set outs i o) (omega arith)
    past_at j false f =
        let apart : j ≢ i = grind (arith, nat_tests) in
        let a = t.past j in rw (or_other ended i j (length outs) 0 apart, length-set outs i o) a

    own_at : (j : ℕ) → get_or (set ended i (length outs)) j 0 ≢ 0 → (b : Bool) → nat_eq j i ≡ b → j < get_or (set ended i (length outs)) j 0
    own_at j z true f =
        let same : j ≡ i = grind (arith, nat_tests) in
        let d = t.counted in
        let v : get_or (set ended i (length outs)) j 0 ≡ length outs = subst (λ k. get_or (set ended i (length outs)) k 0 ≡ length outs) (sym same) (or_same ended i (length outs) 0 (omega arith)) in
        rw v (omega arith)
    own_at j z false f =
        let apart : j ≢ i = grind (arith, nat_tests) in
        let v = or_other ended i j (length outs) 0 apart in
        let a = t.own j (λ q. z (v ∙ q)) in rw v a

    over_at : (j : ℕ) → get_or (set ended i (length outs)) j 0 ≢ 0 → (b : Bool) → nat_eq j i ≡ b → is_unfinished (get_or (set outs i o) j Unfinished) ≡ false
    over_at j z true f =
        let same : j ≡ i = grind (arith, nat_tests) in
        subst (λ k. is_unfinished (get_or (set outs i o) k Unfinished) ≡ false) (sym same) (ap is_unfinished (or_same outs i o Unfinished h) ∙ u)
    over_at j z false f =
        let apart : j ≢ i = grind (arith, nat_tests) in
        ap is_unfinished (or_other outs i j o Unfinished apart) ∙ t.over j (λ q. z (or_other ended i j (length outs) 0 apart ∙ q))

    open_at : (j : ℕ) → get_or (set ended i (length outs)) j 0 ≡ 0 → (b : Bool) → nat_eq j i ≡ b → get_or (set outs i o) j Unfinished ≡ Unfinished
    open_at j z true f =
        let same : j ≡ i = grind (arith, nat_tests) in
        let d = t.counted in
        let v : get_or (set ended i (length outs)) j 0 ≡ length outs = subst (λ k. get_or (set ended i (length outs)) k 0 ≡ length outs) (sym same) (or_same ended i (length outs) 0 (omega arith)) in
        absurd (let a = sym v ∙ z in omega arith)
    open_at j z false f =
        let apart : j ≢ i = grind (arith, nat_tests) in
        or_other outs i j o Unfinished apart ∙ t.still j (sym (or_other ended i j (length outs) 0 apart) ∙ z)

-- Causes and dues of the lines before.

pub causes_same : (sent sent' : List SentNote) (outs outs' : List Outcome) (ended ended' : List ℕ) (ls : List Line)
    → ((j : ℕ) → j ≤ length ls → is_done (outcome_of outs j) ≡ is_done (outcome_of outs' j))
    → ((j : ℕ) → j ≤ length ls → (t : Ticket) → find sent j t ≡ find sent' j t)
    → ((j : ℕ) → j ≤ length ls → (es : List Event) → with_sends sent j es ≡ with_sends sent' j es)
    → ((n : ℕ) → n ≤ length ls → (i : ℕ) → known outs ended n i ≡ known outs' ended' n i)
    → ((n : ℕ) (l : Line) (seen : ℕ → Outcome) (before : List Line) (es : List Event) → line_at ls n ≡ Some l → HasCause seen before es l (outcome_of outs n) → HasCause seen before es l (outcome_of outs' n))
    → Causes sent outs ended ls → Causes sent' outs' ended' ls
causes_same sent sent' outs outs' ended ended' [] a b c d e k = tt
causes_same sent sent' outs outs' ended ended' (l ∷ ls) a b c d e k =
    let n : ℕ = suc (length ls) in
    let seen : known outs ended (suc (length ls)) ≡ known outs' ended' (suc (length ls)) = λ i j. d (suc (length ls)) (omega arith) j i in
    let h : history sent outs ls ≡ history sent' outs' ls = history_same sent sent' outs outs' ls (λ j m. a j (omega arith)) (λ j m. b j (omega arith)) (λ j m. c j (omega arith)) in
    let moved = e (suc (length ls)) l (known outs ended (suc (length ls))) ls (history sent outs ls) (line_new l ls) k.0 in (
      subst₂ (λ s es. HasCause s ls es l (outcome_of outs' (suc (length ls)))) seen h moved,
      causes_same sent sent' outs outs' ended ended' ls (λ j m. a j (omega arith)) (λ j m. b j (omega arith)) (λ j m. c j (omega arith)) (λ j m. d j (omega arith)) (λ j q s bs es m. e j q s bs es (line_old l ls j (λ z. let w = line_within ls j q m in let y = w.1 in omega arith) ∙ m)) k.1,
    )

pub dues_same : (sent sent' : List SentNote) (outs outs' : List Outcome) (ended ended' : List ℕ) (ls : List Line)
    → ((j : ℕ) → j ≤ length ls → is_done (outcome_of outs j) ≡ is_done (outcome_of outs' j))
    → ((j : ℕ) → j ≤ length ls → (t : Ticket) → find sent j t ≡ find sent' j t)
    → ((j : ℕ) → j ≤ length ls → (es : List Event) → with_sends sent j es ≡ with_sends sent' j es)
    → ((n : ℕ) → n ≤ suc (length ls) → (i : ℕ) → known outs ended n i ≡ known outs' ended' n i)
    → Dues sent outs ended ls → Dues sent' outs' ended' ls
dues_same sent sent' outs outs' ended ended' [] a b c d k = tt
dues_same sent sent' outs outs' ended ended' (l ∷ ls) a b c d k =
    let more : suc (length ls) + 1 ≤ suc (suc (length ls)) = omega arith in
    let seen : known outs ended (suc (length ls) + 1) ≡ known outs' ended' (suc (length ls) + 1) = λ i j. d (suc (length ls) + 1) more j i in
    let h : history sent outs (l ∷ ls) ≡ history sent' outs' (l ∷ ls) = history_same sent sent' outs outs' (l ∷ ls) a b c in (
      subst₂ (λ s es. IsDue s (l ∷ ls) es) seen h k.0,
      dues_same sent sent' outs outs' ended ended' ls (λ j m. a j (omega arith)) (λ j m. b j (omega arith)) (λ j m. c j (omega arith)) (λ j m. d j (omega arith)) k.1,
    )

-- An outcome that may come where nothing stood.
abbrev pub Answers : Line → Outcome → Type 0
Answers Blank o = ⊥
Answers Client o = ⊥
Answers (Begin client) o = (s : ℕ) × (o ≡ Ok (Number s))
Answers (Put x k v) o = ⊥
Answers (Commit x) o = (c : ℕ) × (o ≡ Ok (Committed_at (Some c)))
Answers (Deliver t) o = ⊥

commits_with : (free allowed written : Bool) (o : Outcome) → CommitsWith free allowed written Unfinished → ((c : ℕ) × (o ≡ Ok (Committed_at (Some c)))) → CommitsWith free allowed written o
commits_with false allowed written o h a = absurd (cc)
commits_with true false written o h a = absurd (cc)
commits_with true true false o h a = absurd (cc)
commits_with true true true o h a = inr a

pub cause_answers : (seen : ℕ → Outcome) (before : List Line) (es : List Event) (l : Line) (o : Outcome) → Answers l o → HasCause seen before es l Unfinished → HasCause seen before es l o
cause_answers seen before es Blank o a h = absurd a
cause_answers seen before es Client o a h = absurd a
cause_answers seen before es (Begin client) o a h = inr a
cause_answers seen before es (Put x k v) o a h = absurd a
cause_answers seen before es (Commit x) o a h = commits_with (is_free seen x before) (allows_commit (status_of seen x before)) (has_some (writes_of seen x before)) o h a
cause_answers seen before es (Deliver t) o a h = absurd a
