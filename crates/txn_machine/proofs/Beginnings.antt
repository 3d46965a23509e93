-- What a line makes of the lines before it, before the clients do anything for it.
use Rattle.std.proofs.Common.{◌≡◌, ◌≢◌, ℕ, suc, ◌+◌, ◌<◌, ◌≤◌, ◌⊎◌, inl, inr, Bool, true, false, ◌&&◌, ◌||◌, if◌then◌else◌, List, [], ◌∷◌, ◌++◌, Option, Some, None, length, nat_eq, slice_index_or, refl, sym, ap, ◌∙◌, subst, arith, length-append}
use Rattle.std.proofs.lemmas.Bool.Decides.{nat_tests}
use Rattle.txn_lines.specs.Lines.{line_at}
use Rattle.txn_lines.specs.Deeds.{deed_of}
use Rattle.txn_lines.specs.declared.line.Line.{Line}
use Rattle.txn_report.specs.declared.outcome.Outcome.{Outcome}
use Rattle.txn_side.specs.Sight.{Stand, client_at}
use Rattle.txn_side.specs.Sight.Stand.{Asking, Calling, HasBegun, Idle, IsClient}
use Rattle.txn_machine.specs.Causes.{IsEnd, Role, can_end, client_by, client_of, comes_at_once, crashes, ends_at, is_crashed, is_unfinished, role_of}
use Rattle.txn_machine.specs.Causes.Role.{AsksTime, MakesClient, UsesTransaction}
use Rattle.txn_machine.specs.Rows.{AreRows, AreWoven, IsNoRow, IsRow, Row, outcome_in, role_in, stand_in}
use Rattle.txn_machine.specs.Rows.Row.{Acted, AskFailed, AskSkipped, AskWaits, Begun, CallFailed, CallSkipped, CallWaits, Happened, Made, Over, Timed, Works}
use Rattle.txn_machine.specs.Script.{is_done}
use Rattle.txn_machine.proofs.Calms.{or_old, same_line}
use Rattle.txn_machine.proofs.Numbers.{or_last}
use Rattle.txn_machine.proofs.Goings.{ends_same}
use Rattle.txn_machine.proofs.Numberings.{client_new, client_old, crashed_same, line_ahead, line_new, line_old}

some_line : (a b : Line) → ◌≡◌ {A = Option Line} (Some a) (Some b) → a ≡ b
some_line a b h = cc

none_some : (o : Option Line) (l : Line) → o ≡ None → o ≡ Some l → ⊥
none_some o l a b = cc

zero_line : (ls : List Line) → line_at ls 0 ≡ None
zero_line [] = refl
zero_line (k ∷ ks) =
    let off : nat_eq (length ks + 1) 0 ≡ false = grind (arith, nat_tests) in
    ap (λ (b : Bool). if b then Some k else line_at ks 0) off ∙ zero_line ks

-- what stands at an earlier line: what stood there, or its transaction has a call at line `new`
abbrev pub Moved : ℕ → Stand → Stand → Type 0
Moved new s s2 = (s2 ≡ s) ⊎ ((c : ℕ) × (s ≡ HasBegun c 0) × (s2 ≡ HasBegun c new))

-- what is said of the newest line
pub record Opens (role : Role) (o : Outcome) (e new : ℕ) (stand : Stand) : Type 0 where
  pub row : IsRow role o stand
  pub unfinished : is_unfinished o ≡ nat_eq e 0
  pub place : (e ≡ 0) ⊎ (e ≡ new)
  pub own : comes_at_once role o ≡ true → e ≡ new

module _ (line : Line) (ls : List Line) (o o2 : ℕ → Outcome) (e e2 : ℕ → ℕ) (st : ℕ → Stand) (crashed : List Bool)
    (was : AreRows ls o e st crashed)
    (apart : (j : ℕ) → j ≢ suc (length ls) → (o2 j ≡ o j) × (e2 j ≡ e j))
  where
    pub nothing_new : IsNoRow (o (suc (length ls))) (e (suc (length ls))) (st (suc (length ls)))
    nothing_new = was.none (suc (length ls)) (line_ahead ls (suc (length ls)) (omega arith))

    pub not_new : (j : ℕ) (s : Stand) → st j ≡ s → s ≢ Idle → j ≢ suc (length ls)
    not_new j s a b h = b (sym a ∙ ap st h ∙ nothing_new.at)

    older : (j : ℕ) → j ≤ length ls → j ≢ suc (length ls)
    older j h same = absurd (omega arith)

    done_before : (j : ℕ) → j ≤ length ls → is_done (o2 j) ≡ is_done (o j)
    done_before j h = ap is_done (apart j (older j h)).0

    pub crashed_before : (c : ℕ) → is_crashed o2 ls c ≡ is_crashed o ls c
    crashed_before c = crashed_same o2 o ls done_before c

    ends_before : (k : ℕ) → k ≤ length ls → ends_at (line ∷ ls) o2 k ≡ ends_at ls o k
    ends_before k h =
        let there : nat_eq (suc (length ls)) k ≡ false = grind (arith, nat_tests) in
        let same = (apart k (older k h)).0 in
        ap (λ (b : Bool). if b then can_end line (o2 k) else ends_at ls o2 k) there ∙ ends_same o2 o k (ap is_done same) ls

    end_before : (j : ℕ) (l : Line) → j ≢ suc (length ls) → IsEnd ls o j l (e j) → IsEnd (line ∷ ls) o2 j l (e2 j)
    end_before j l far h = record {
      unfinished = ap is_unfinished same.0 ∙ h.unfinished ∙ ap (λ k. nat_eq k 0) (sym same.1);
      past = λ one. subst (λ k. j ≤ k) (sym same.1) (h.past (subst (λ k. 1 ≤ k) same.1 one));
      within = let a = h.within in let b = same.1 in omega arith;
      own = λ once. same.1 ∙ h.own (subst (λ x. comes_at_once (role_of l) x ≡ true) same.0 once);
      later = λ after. subst (λ k. ends_at (line ∷ ls) o2 k ≡ true) (sym same.1) (ends_before (e j) h.within ∙ h.later (subst (λ k. j < k) same.1 after));
    }
      where
        same : (o2 j ≡ o j) × (e2 j ≡ e j)
        same = apart j far

    module _ (st2 : ℕ → Stand) (crashed2 : List Bool)
        (moved : (j : ℕ) → j ≢ suc (length ls) → Moved (suc (length ls)) (st j) (st2 j))
        (opens : Opens (role_of line) (o2 (suc (length ls))) (e2 (suc (length ls))) (suc (length ls)) (st2 (suc (length ls))))
        (woven : AreWoven (line ∷ ls) o2 st2 crashed2)
      where
        begun_row : (r : Row) (c : ℕ) (stand : Stand) → stand_in r ≡ HasBegun c 0 → stand ≡ HasBegun c (suc (length ls)) → IsRow (role_in r) (outcome_in r) stand
        begun_row (Begun k v d m) c stand a b = record { row = Begun k v c (suc (length ls)); is = refl; outcome = refl; at = sym b }
        begun_row (Made d) c stand a b = absurd (cc)
        begun_row (AskWaits x k d) c stand a b = absurd (cc)
        begun_row (Timed k v d) c stand a b = absurd (cc)
        begun_row (AskFailed x k d y) c stand a b = absurd (cc)
        begun_row (AskSkipped x k) c stand a b = absurd (cc)
        begun_row (CallWaits x y d) c stand a b = absurd (cc)
        begun_row (Acted x d) c stand a b = absurd (cc)
        begun_row (Over x v d) c stand a b = absurd (cc)
        begun_row (Works x v d) c stand a b = absurd (cc)
        begun_row (CallFailed x y d z) c stand a b = absurd (cc)
        begun_row (CallSkipped x y) c stand a b = absurd (cc)
        begun_row (Happened x) c stand a b = absurd (cc)

        row_before : (j : ℕ) (l : Line) → j ≢ suc (length ls) → IsRow (role_of l) (o j) (st j) → IsRow (role_of l) (o2 j) (st2 j)
        row_before j l far r = elim (moved j far) [
          | inl h ↦ record { row = r.row; is = r.is; outcome = r.outcome ∙ sym (apart j far).0; at = r.at ∙ sym h }
          | inr h ↦
              let n = begun_row r.row h.0 (st2 j) (r.at ∙ h.1) h.2 in
              record { row = n.row; is = n.is ∙ r.is; outcome = n.outcome ∙ r.outcome ∙ sym (apart j far).0; at = n.at }
        ]

        end_new : IsEnd (line ∷ ls) o2 (suc (length ls)) line (e2 (suc (length ls)))
        end_new = record {
          unfinished = opens.unfinished;
          past = λ one. elim opens.place [ inl h ↦ absurd (omega arith) | inr h ↦ omega arith ];
          within = elim opens.place [ inl h ↦ omega arith | inr h ↦ omega arith ];
          own = opens.own;
          later = λ after. elim opens.place [ inl h ↦ absurd (omega arith) | inr h ↦ absurd (omega arith) ];
        }

        old_line : (j : ℕ) (l : Line) → j ≢ suc (length ls) → line_at (line ∷ ls) j ≡ Some l → line_at ls j ≡ Some l
        old_line j l far there = sym (line_old line ls j far) ∙ there

        new_line : (j : ℕ) (l : Line) → j ≡ suc (length ls) → line_at (line ∷ ls) j ≡ Some l → line ≡ l
        new_line j l here there = some_line line l (sym (line_new line ls) ∙ ap (λ k. line_at (line ∷ ls) k) (sym here) ∙ there)

        row_at : (j : ℕ) (l : Line) → line_at (line ∷ ls) j ≡ Some l → (j ≡ suc (length ls)) ⊎ (j ≢ suc (length ls)) → IsRow (role_of l) (o2 j) (st2 j)
        row_at j l there (inl here) = subst (λ k. IsRow (role_of l) (o2 k) (st2 k)) (sym here) (subst (λ m. IsRow (role_of m) (o2 (suc (length ls))) (st2 (suc (length ls)))) (new_line j l here there) opens.row)
        row_at j l there (inr far) = row_before j l far (was.rows j l (old_line j l far there))

        end_at : (j : ℕ) (l : Line) → line_at (line ∷ ls) j ≡ Some l → (j ≡ suc (length ls)) ⊎ (j ≢ suc (length ls)) → IsEnd (line ∷ ls) o2 j l (e2 j)
        end_at j l there (inl here) = subst (λ k. IsEnd (line ∷ ls) o2 k l (e2 k)) (sym here) (subst (λ m. IsEnd (line ∷ ls) o2 (suc (length ls)) m (e2 (suc (length ls)))) (new_line j l here there) end_new)
        end_at j l there (inr far) = end_before j l far (was.ended j l (old_line j l far there))

        none_at : (j : ℕ) → line_at (line ∷ ls) j ≡ None → (j ≡ suc (length ls)) ⊎ (j ≢ suc (length ls)) → IsNoRow (o2 j) (e2 j) (st2 j)
        none_at j there (inl here) = absurd (none_some (line_at (line ∷ ls) (suc (length ls))) line (ap (λ k. line_at (line ∷ ls) k) (sym here) ∙ there) (line_new line ls))
        none_at j there (inr far) =
            let r = was.none j (sym (line_old line ls j far) ∙ there) in
            record { outcome = (apart j far).0 ∙ r.outcome; ended = (apart j far).1 ∙ r.ended; at = elim (moved j far) [ inl h ↦ h ∙ r.at | inr h ↦ absurd (let a = r.at in let b = h.1 in cc) ] }

        pub begun_rows : AreRows (line ∷ ls) o2 e2 st2 crashed2
        begun_rows = record {
          rows = λ j l there. row_at j l there (same_line (suc (length ls)) j);
          none = λ j there. none_at j there (same_line (suc (length ls)) j);
          ended = λ j l there. end_at j l there (same_line (suc (length ls)) j);
          woven = woven;
        }

    -- What stands fits together.

    client_before : (n c : ℕ) → client_at (st n) ≡ Some c → st (client_of (line ∷ ls) n) ≡ IsClient c
    client_before n c h =
        ap st (client_old line ls n (λ here. absurd (let a = ap client_at (sym (ap st here ∙ nothing_new.at)) in cc)))
        ∙ was.woven.clients n c h

    calm_line : ((c : ℕ) → crashes (deed_of line) c ≡ false) → (c : ℕ) → is_crashed o2 (line ∷ ls) c ≡ is_crashed o ls c
    calm_line calm c = ap (λ (b : Bool). b && is_done (o2 (suc (length ls))) || is_crashed o2 ls c) (calm c) ∙ crashed_before c

    -- nothing stands at the new line
    pub woven_idle : (crashed2 : List Bool) → length crashed2 ≡ length crashed → ((n c : ℕ) → st n ≡ IsClient c → slice_index_or crashed2 c true ≡ is_crashed o2 (line ∷ ls) n) → ((n : ℕ) → length (line ∷ ls) < n → crashes (deed_of line) n ≡ false) → AreWoven (line ∷ ls) o2 st crashed2
    woven_idle crashed2 count flags far = record {
      calling = was.woven.calling;
      called = was.woven.called;
      one = was.woven.one;
      below = λ n c h. let a = was.woven.below n c h in omega arith;
      clients = client_before;
      flags = flags;
      ahead = λ n h. ap (λ (b : Bool). b && is_done (o2 (suc (length ls))) || is_crashed o2 ls n) (far n h) ∙ crashed_before n ∙ was.woven.ahead n (omega arith);
    }

    pub woven_calm : ((c : ℕ) → crashes (deed_of line) c ≡ false) → AreWoven (line ∷ ls) o2 st crashed
    woven_calm calm = woven_idle crashed refl (λ n c h. was.woven.flags n c h ∙ sym (calm_line calm n)) (λ n h. calm n)

    module _ (calm : (c : ℕ) → crashes (deed_of line) c ≡ false) (st2 : ℕ → Stand) (other : (j : ℕ) → j ≢ suc (length ls) → st2 j ≡ st j) where
      kept : (j : ℕ) (s : Stand) → st j ≡ s → s ≢ Idle → st2 j ≡ s
      kept j s h some = other j (not_new j s h some) ∙ h

      -- the new line makes a client
      pub woven_client : role_of line ≡ MakesClient → st2 (suc (length ls)) ≡ IsClient (length crashed) → AreWoven (line ∷ ls) o2 st2 (crashed ++ false ∷ [])
      woven_client role here = record {
        calling = λ n c x b h. calling n c x b h (same_line (suc (length ls)) n);
        called = λ x c m one h. called x c m one h (same_line (suc (length ls)) x);
        one = λ j k c a b. one j k c a b (same_line (suc (length ls)) j) (same_line (suc (length ls)) k);
        below = λ n c h. below n c h (same_line (suc (length ls)) n);
        clients = λ n c h. clients n c h (same_line (suc (length ls)) n);
        flags = λ n c h. flags n c h (same_line (suc (length ls)) n);
        ahead = λ n h. calm_line calm n ∙ was.woven.ahead n (omega arith);
      }
        where
          client_is : (a b : ℕ) → ◌≡◌ {A = Stand} (IsClient a) (IsClient b) → a ≡ b
          client_is a b h = cc

          calling : (n c x : ℕ) (b : Bool) → st2 n ≡ Calling c x b → (n ≡ suc (length ls)) ⊎ (n ≢ suc (length ls)) → st2 x ≡ HasBegun c n
          calling n c x b h (inl e) = absurd (let a = ap st2 e ∙ here in cc)
          calling n c x b h (inr far) = kept x (HasBegun c n) (was.woven.calling n c x b (sym (other n far) ∙ h)) (λ i. cc)

          called : (x c m : ℕ) → 1 ≤ m → st2 x ≡ HasBegun c m → (x ≡ suc (length ls)) ⊎ (x ≢ suc (length ls)) → (b : Bool) × (st2 m ≡ Calling c x b)
          called x c m some h (inl e) = absurd (let a = ap st2 e ∙ here in cc)
          called x c m some h (inr far) = let k = was.woven.called x c m some (sym (other x far) ∙ h) in (k.0, kept m (Calling c x k.0) k.1 (λ i. cc))

          is_last : (n c : ℕ) → st2 n ≡ IsClient c → n ≡ suc (length ls) → c ≡ length crashed
          is_last n c h e = client_is c (length crashed) (sym h ∙ ap st2 e ∙ here)

          is_low : (n c : ℕ) → st2 n ≡ IsClient c → n ≢ suc (length ls) → c < length crashed
          is_low n c h far = was.woven.below n c (sym (other n far) ∙ h)

          one : (j k c : ℕ) → st2 j ≡ IsClient c → st2 k ≡ IsClient c → (j ≡ suc (length ls)) ⊎ (j ≢ suc (length ls)) → (k ≡ suc (length ls)) ⊎ (k ≢ suc (length ls)) → j ≡ k
          one j k c a b (inl e) (inl f) = e ∙ sym f
          one j k c a b (inl e) (inr far) = absurd (let x = is_last j c a e in let y = is_low k c b far in omega arith)
          one j k c a b (inr far) (inl e) = absurd (let x = is_last k c b e in let y = is_low j c a far in omega arith)
          one j k c a b (inr far) (inr off) = was.woven.one j k c (sym (other j far) ∙ a) (sym (other k off) ∙ b)

          more : length (crashed ++ false ∷ []) ≡ length crashed + 1
          more = length-append crashed (false ∷ [])

          below : (n c : ℕ) → st2 n ≡ IsClient c → (n ≡ suc (length ls)) ⊎ (n ≢ suc (length ls)) → c < length (crashed ++ false ∷ [])
          below n c h (inl e) = let a = is_last n c h e in let b = more in omega arith
          below n c h (inr far) = let a = is_low n c h far in let b = more in omega arith

          clients : (n c : ℕ) → client_at (st2 n) ≡ Some c → (n ≡ suc (length ls)) ⊎ (n ≢ suc (length ls)) → st2 (client_of (line ∷ ls) n) ≡ IsClient c
          clients n c h (inl e) =
              let own : client_of (line ∷ ls) n ≡ suc (length ls) = ap (λ k. client_of (line ∷ ls) k) e ∙ client_new line ls ∙ ap (λ r. client_by (suc (length ls)) (λ m. client_of ls m) r) role in
              let is : ◌≡◌ {A = Option ℕ} (Some (length crashed)) (Some c) = ap client_at (sym (ap st2 e ∙ here)) ∙ h in
              let same : length crashed ≡ c = cc in
              ap st2 own ∙ here ∙ ap (λ k. IsClient k) same
          clients n c h (inr far) = kept (client_of (line ∷ ls) n) (IsClient c) (client_before n c (ap client_at (sym (other n far)) ∙ h)) (λ i. cc)

          flags : (n c : ℕ) → st2 n ≡ IsClient c → (n ≡ suc (length ls)) ⊎ (n ≢ suc (length ls)) → slice_index_or (crashed ++ false ∷ []) c true ≡ is_crashed o2 (line ∷ ls) n
          flags n c h (inl e) =
              ap (λ k. slice_index_or (crashed ++ false ∷ []) k true) (is_last n c h e) ∙ or_last crashed false true
              ∙ sym (ap (λ k. is_crashed o2 (line ∷ ls) k) e ∙ calm_line calm (suc (length ls)) ∙ was.woven.ahead (suc (length ls)) (omega arith))
          flags n c h (inr far) = or_old crashed false true c (is_low n c h far) ∙ was.woven.flags n c (sym (other n far) ∙ h) ∙ sym (calm_line calm n)

      -- the new line asks for a timestamp
      pub woven_ask : (k c : ℕ) (b : Bool) → role_of line ≡ AsksTime b k → st k ≡ IsClient c → st2 (suc (length ls)) ≡ Asking c b → AreWoven (line ∷ ls) o2 st2 crashed
      woven_ask k d b role client here = record {
        calling = λ n c x a h. calling n c x a h (same_line (suc (length ls)) n);
        called = λ x c m one h. called x c m one h (same_line (suc (length ls)) x);
        one = λ i j c a z. was.woven.one i j c (was_client i c a (same_line (suc (length ls)) i)) (was_client j c z (same_line (suc (length ls)) j));
        below = λ n c h. was.woven.below n c (was_client n c h (same_line (suc (length ls)) n));
        clients = λ n c h. clients n c h (same_line (suc (length ls)) n);
        flags = λ n c h. was.woven.flags n c (was_client n c h (same_line (suc (length ls)) n)) ∙ sym (calm_line calm n);
        ahead = λ n h. calm_line calm n ∙ was.woven.ahead n (omega arith);
      }
        where
          calling : (n c x : ℕ) (a : Bool) → st2 n ≡ Calling c x a → (n ≡ suc (length ls)) ⊎ (n ≢ suc (length ls)) → st2 x ≡ HasBegun c n
          calling n c x a h (inl e) = absurd (let z = ap st2 e ∙ here in cc)
          calling n c x a h (inr far) = kept x (HasBegun c n) (was.woven.calling n c x a (sym (other n far) ∙ h)) (λ i. cc)

          called : (x c m : ℕ) → 1 ≤ m → st2 x ≡ HasBegun c m → (x ≡ suc (length ls)) ⊎ (x ≢ suc (length ls)) → (a : Bool) × (st2 m ≡ Calling c x a)
          called x c m some h (inl e) = absurd (let z = ap st2 e ∙ here in cc)
          called x c m some h (inr far) = let z = was.woven.called x c m some (sym (other x far) ∙ h) in (z.0, kept m (Calling c x z.0) z.1 (λ i. cc))

          was_client : (n c : ℕ) → st2 n ≡ IsClient c → (n ≡ suc (length ls)) ⊎ (n ≢ suc (length ls)) → st n ≡ IsClient c
          was_client n c h (inl e) = absurd (let z = ap st2 e ∙ here in cc)
          was_client n c h (inr far) = sym (other n far) ∙ h

          clients : (n c : ℕ) → client_at (st2 n) ≡ Some c → (n ≡ suc (length ls)) ⊎ (n ≢ suc (length ls)) → st2 (client_of (line ∷ ls) n) ≡ IsClient c
          clients n c h (inl e) =
              let own : client_of (line ∷ ls) n ≡ k = ap (λ z. client_of (line ∷ ls) z) e ∙ client_new line ls ∙ ap (λ r. client_by (suc (length ls)) (λ m. client_of ls m) r) role in
              let is : ◌≡◌ {A = Option ℕ} (Some d) (Some c) = ap client_at (sym (ap st2 e ∙ here)) ∙ h in
              let same : d ≡ c = cc in
              ap st2 own ∙ kept k (IsClient d) client (λ i. cc) ∙ ap (λ z. IsClient z) same
          clients n c h (inr far) = kept (client_of (line ∷ ls) n) (IsClient c) (client_before n c (ap client_at (sym (other n far)) ∙ h)) (λ i. cc)

    -- the new line calls a transaction
    pub woven_act : ((c : ℕ) → crashes (deed_of line) c ≡ false) → (st2 : ℕ → Stand) (d y : ℕ) (b : Bool) → role_of line ≡ UsesTransaction b y → st y ≡ HasBegun d 0 → st2 y ≡ HasBegun d (suc (length ls)) → st2 (suc (length ls)) ≡ Calling d y b
        → ((j : ℕ) → j ≢ suc (length ls) → j ≢ y → st2 j ≡ st j) → AreWoven (line ∷ ls) o2 st2 crashed
    woven_act calm st2 d y b role free at_y here other = record {
      calling = λ n c x a h. calling n c x a h (same_line (suc (length ls)) n);
      called = λ x c m one h. called x c m one h (same_line y x);
      one = λ i j c a z. was.woven.one i j c (was_client i c a) (was_client j c z);
      below = λ n c h. was.woven.below n c (was_client n c h);
      clients = λ n c h. clients n c h (same_line (suc (length ls)) n);
      flags = λ n c h. was.woven.flags n c (was_client n c h) ∙ sym (calm_line calm n);
      ahead = λ n h. calm_line calm n ∙ was.woven.ahead n (omega arith);
    }
      where
        stays : (j : ℕ) (s : Stand) → st j ≡ s → s ≢ Idle → ((m : ℕ) → s ≢ HasBegun d m) → st2 j ≡ s
        stays j s h some off = other j (not_new j s h some) (λ e. off 0 (sym h ∙ ap st e ∙ free)) ∙ h

        is_other : (j : ℕ) (s : Stand) → st2 j ≡ s → s ≢ Calling d y b → s ≢ HasBegun d (suc (length ls)) → st j ≡ s
        is_other j s h off far = sym (other j (λ e. off (sym h ∙ ap st2 e ∙ here)) (λ e. far (sym h ∙ ap st2 e ∙ at_y))) ∙ h

        was_client : (n c : ℕ) → st2 n ≡ IsClient c → st n ≡ IsClient c
        was_client n c h = is_other n (IsClient c) h (λ e. cc) (λ e. cc)

        begun_is : (a c k m : ℕ) → ◌≡◌ {A = Stand} (HasBegun a k) (HasBegun c m) → (a ≡ c) × (k ≡ m)
        begun_is a c k m e = (cc, cc)

        calling_is : (a c x z : ℕ) (p q : Bool) → ◌≡◌ {A = Stand} (Calling a x p) (Calling c z q) → (a ≡ c) × (x ≡ z)
        calling_is a c x z p q e = (cc, cc)

        calling : (n c x : ℕ) (a : Bool) → st2 n ≡ Calling c x a → (n ≡ suc (length ls)) ⊎ (n ≢ suc (length ls)) → st2 x ≡ HasBegun c n
        calling n c x a h (inl e) =
            let is = calling_is d c y x b a (sym (ap st2 e ∙ here) ∙ h) in
            ap st2 (sym is.1) ∙ at_y ∙ (λ i. HasBegun (is.0 i) (sym e i))
        calling n c x a h (inr far) =
            let old : st n ≡ Calling c x a = sym (other n far (λ e. absurd (let z = ap st2 e ∙ at_y in cc))) ∙ h in
            let at = was.woven.calling n c x a old in
            elim (same_line y x) [
              | inl e ↦ absurd (let z = (begun_is c d n 0 (sym at ∙ ap st e ∙ free)).1 in let n_is_none : st 0 ≡ Calling c x a = subst (λ k. st k ≡ Calling c x a) z old in zero_none (Calling c x a) n_is_none (λ i. cc))
              | inr off ↦ other x (not_new x (HasBegun c n) at (λ i. cc)) off ∙ at
            ]
          where
            zero_none : (s : Stand) → st 0 ≡ s → s ≢ Idle → ⊥
            zero_none s a b = b (sym a ∙ (was.none 0 (zero_line ls)).at)

        called : (x c m : ℕ) → 1 ≤ m → st2 x ≡ HasBegun c m → (x ≡ y) ⊎ (x ≢ y) → (a : Bool) × (st2 m ≡ Calling c x a)
        called x c m some h (inl e) =
            let is = begun_is d c (suc (length ls)) m (sym (ap st2 e ∙ at_y) ∙ h) in
            (b, ap st2 (sym is.1) ∙ here ∙ (λ i. Calling (is.0 i) (sym e i) b))
        called x c m some h (inr off) =
            let old : st x ≡ HasBegun c m = sym (other x (λ e. absurd (let z = ap st2 e ∙ here in cc)) off) ∙ h in
            let z = was.woven.called x c m some old in
            (z.0, stays m (Calling c x z.0) z.1 (λ i. cc) (λ k i. cc))

        clients : (n c : ℕ) → client_at (st2 n) ≡ Some c → (n ≡ suc (length ls)) ⊎ (n ≢ suc (length ls)) → st2 (client_of (line ∷ ls) n) ≡ IsClient c
        clients n c h (inl e) =
            let own : client_of (line ∷ ls) n ≡ client_of ls y = ap (λ z. client_of (line ∷ ls) z) e ∙ client_new line ls ∙ ap (λ r. client_by (suc (length ls)) (λ m. client_of ls m) r) role in
            let is : ◌≡◌ {A = Option ℕ} (Some d) (Some c) = ap client_at (sym (ap st2 e ∙ here)) ∙ h in
            let same : d ≡ c = cc in
            ap st2 own ∙ stays (client_of ls y) (IsClient d) (was.woven.clients y d (ap client_at free)) (λ i. cc) (λ k i. cc) ∙ ap (λ z. IsClient z) same
        clients n c h (inr far) = elim (same_line y n) [
          | inl e ↦
              let is : ◌≡◌ {A = Option ℕ} (Some d) (Some c) = ap client_at (sym (ap st2 e ∙ at_y)) ∙ h in
              let same : d ≡ c = cc in
              client n c (ap client_at (ap st e ∙ free) ∙ ap (λ z. Some z) same)
          | inr off ↦ client n c (ap client_at (sym (other n far off)) ∙ h)
        ]
          where
            client : (n c : ℕ) → client_at (st n) ≡ Some c → st2 (client_of (line ∷ ls) n) ≡ IsClient c
            client n c h = stays (client_of (line ∷ ls) n) (IsClient c) (client_before n c h) (λ i. cc) (λ k i. cc)
