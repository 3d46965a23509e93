-- The accounts that the lines tell go on where calls of earlier lines end.
use Rattle.std.proofs.Common.{◌≡◌, ℕ, zero, suc, ◌≤◌, inl, inr, Bool, true, false, not, ◌&&◌, ◌||◌, if◌then◌else◌, List, [], ◌∷◌, Option, Some, None, length, nat_eq, nat_lt, refl, sym, ap, ◌∙◌, subst, arith}
use Rattle.std.proofs.lemmas.Bool.Decides.{nat_tests}
use Rattle.txn_kv.specs.declared.errors.Error.{Error}
use Rattle.txn_lines.specs.Lines.{line_at}
use Rattle.txn_lines.specs.Deeds.{deed_of}
use Rattle.txn_lines.specs.declared.deed.Deed.{Deed}
use Rattle.txn_lines.specs.declared.deed.Deed.TheVariants as deeds
use Rattle.txn_lines.specs.declared.line.Line.{Line}
use Rattle.txn_report.specs.declared.outcome.Outcome.{Outcome}
use Rattle.txn_report.specs.declared.outcome.Outcome.TheVariants.{Done, Err, Ok, Skipped, Unfinished}
use Rattle.txn_report.specs.declared.outcome.Payload.TheVariants.{Unit as Nothing}
use Rattle.txn_side.specs.Account.{Account, after_act, awaited_line, closed_by, is_write, made_by, refusal, unless_refused}
use Rattle.txn_side.specs.Sight.{Stand, commits}
use Rattle.txn_side.specs.Sight.Stand.{Asking, Calling, HasBegun, Idle, IsClient, Past, Working}
use Rattle.txn_lines.specs.declared.act.Act.{Act}
use Rattle.txn_side.proofs.Making.{made_later}
use Rattle.txn_machine.specs.Accounts.{AccountMeets, AllAccountsMeet, AnswersIn, Ask, account_of, after_line, ask_for, ask_of, closed_if}
use Rattle.txn_machine.specs.Causes.{AllCallsMeet, CallMeets, Role, client_of, ended_of, is_busy, is_crashed, is_ok, is_skipped, is_unfinished, known, known_of, role_for, role_of, uses}
use Rattle.txn_machine.specs.Causes.Role.{UsesTransaction}
use Rattle.txn_machine.specs.Rows.{AreRows}
use Rattle.txn_machine.specs.Script.{outcome_of}
use Rattle.txn_machine.proofs.Caused.{unfinished_is}
use Rattle.txn_machine.proofs.Goings.{Change, skipped_stays}
use Rattle.txn_machine.proofs.Idles.{busy_is, waiting_row}
use Rattle.txn_machine.proofs.Numberings.{has_line, line_new, line_old, line_range}

-- What a line asks.

-- the role of a line that asks this, or nothing
abbrev pub RoleBy : Option Ask → Role → Type 0
RoleBy None role = (x : ℕ) → uses role x ≡ false
RoleBy (Some ask) role = role ≡ UsesTransaction (commits ask.act) ask.transaction

pub role_by : (deed : Deed) → RoleBy (ask_for deed) (role_for deed)
role_by (deeds.Use x act) = refl
role_by deeds.Nothing = λ x. refl
role_by deeds.Connect = λ x. refl
role_by (deeds.Ask client act) = λ x. refl
role_by (deeds.Happens what) = λ x. refl

module _ (ask : Ask) (n x : ℕ) (o : Outcome) (e : ℕ) (account : Account) where
  pub line_apart : nat_eq ask.transaction x ≡ false → after_line (Some ask) n x o e account ≡ account
  line_apart far = ap (λ (b : Bool). if b && not (is_skipped o) then after_act ask.act (nat_eq e n) o account else account) far

  pub line_skipped : is_skipped o ≡ true → after_line (Some ask) n x o e account ≡ account
  line_skipped skipped = by (nat_eq ask.transaction x)
    where
      none : (b : Bool) → (if b && false then after_act ask.act (nat_eq e n) o account else account) ≡ account
      none true = refl
      none false = refl

      by : (b : Bool) → (if b && not (is_skipped o) then after_act ask.act (nat_eq e n) o account else account) ≡ account
      by b = ap (λ (s : Bool). if b && not s then after_act ask.act (nat_eq e n) o account else account) skipped ∙ none b

  pub line_asked : nat_eq ask.transaction x ≡ true → is_skipped o ≡ false → after_line (Some ask) n x o e account ≡ after_act ask.act (nat_eq e n) o account
  line_asked own unskipped = λ i. if own i && not (unskipped i) then after_act ask.act (nat_eq e n) o account else account

-- A call that ends later.

-- a call that was open and then ends makes of the account what it makes at once
closed_later : (act : Act) (b : Bool) (o : Outcome) (account : Account) → refusal act account ≡ None → is_write act ≡ false → commits act ≡ b → closed_by b o (after_act act false Unfinished account) ≡ after_act act false o account
closed_later act b o account free call same =
    ap (closed_by b o) (made Unfinished) ∙ made_later act b o account call same ∙ sym (made o)
  where
    made : (p : Outcome) → after_act act false p account ≡ made_by act false p account
    made p = ap (λ why. unless_refused why account (made_by act false p account)) free

-- what is open is neither refused nor a write
record IsOpen (act : Act) (why : Option Error) : Type 0 where
  free : why ≡ None
  call : is_write act ≡ false

open_call : (n : ℕ) (act : Act) (why : Option Error) (o : Outcome) (e : ℕ) → is_unfinished o ≡ true → AnswersIn n act why o e → IsOpen act why
open_call n act None o e waits answers = record { free = refl; call = by (is_write act) refl }
  where
    by : (b : Bool) → is_write act ≡ b → b ≡ false
    by true q = absurd (let h = ap is_unfinished (answers q).0 in cc)
    by false q = refl
open_call n act (Some why) o e waits answers = absurd (let h = ap is_unfinished answers.0 in cc)

pub unfinished_unskipped : (o : Outcome) → is_unfinished o ≡ true → is_skipped o ≡ false
unfinished_unskipped (Ok p) h = refl
unfinished_unskipped (Err e) h = refl
unfinished_unskipped Unfinished h = refl
unfinished_unskipped Done h = refl
unfinished_unskipped Skipped h = absurd (cc)

-- what was answered is there to stay
answers_stay : (m n : ℕ) (act : Act) (why : Option Error) (o o2 : Outcome) (e e2 : ℕ) → Change m o e o2 e2 → AnswersIn n act why o e → AnswersIn n act why o2 e2
answers_stay m n act None o o2 e e2 (inl h) answers = λ write. (h.0 ∙ (answers write).0, h.1 ∙ (answers write).1)
answers_stay m n act (Some why) o o2 e e2 (inl h) answers = (h.0 ∙ answers.0, h.1 ∙ answers.1)
answers_stay m n act None o o2 e e2 (inr h) answers = λ write. absurd (let a = ap is_unfinished (answers write).0 in let b = h.0 in cc)
answers_stay m n act (Some why) o o2 e e2 (inr h) answers = absurd (let a = ap is_unfinished answers.0 in let b = h.0 in cc)

-- While a call is open, the later ones of its transaction are skipped.

or_true : (b : Bool) → b || true ≡ true
or_true true = refl
or_true false = refl

or_none : (b : Bool) → b || false ≡ true → b ≡ true
or_none true h = refl
or_none false h = h

known_open : (e n : ℕ) (o : Outcome) → is_unfinished o ≡ true → is_unfinished (known_of e n o) ≡ true
known_open e n o h = by (nat_lt 0 e && nat_lt e n)
  where
    by : (b : Bool) → is_unfinished (if b then o else Unfinished) ≡ true
    by true = h
    by false = refl

busy_still : (seen know : ℕ → Outcome) → ((j : ℕ) → is_unfinished (seen j) ≡ true → is_unfinished (know j) ≡ true) → (zs : List Line) (x : ℕ) → is_busy seen zs x ≡ true → is_busy know zs x ≡ true
busy_still seen know waits [] x h = absurd (cc)
busy_still seen know waits (z ∷ zs) x h = by (uses (role_of z) x) (is_unfinished (seen (suc (length zs)))) refl (busy_still seen know waits zs x) h
  where
    by : (a b : Bool) → is_unfinished (seen (suc (length zs))) ≡ b → (is_busy seen zs x ≡ true → is_busy know zs x ≡ true) → a && b || is_busy seen zs x ≡ true → a && is_unfinished (know (suc (length zs))) || is_busy know zs x ≡ true
    by true true q more g = ap (λ (b : Bool). b || is_busy know zs x) (waits (suc (length zs)) q)
    by true false q more g = ap (λ (b : Bool). is_unfinished (know (suc (length zs))) || b) (more g) ∙ or_true (is_unfinished (know (suc (length zs))))
    by false b q more g = more g

module _ (ls : List Line) (outs outs2 : List Outcome) (ended ended2 : List ℕ) (st : ℕ → Stand) (crashed : List Bool)
    (was : AreRows ls (λ n. outcome_of outs n) (λ n. ended_of ended n) st crashed)
    (change : (j : ℕ) → j ≤ length ls → Change (suc (length ls)) (outcome_of outs j) (ended_of ended j) (outcome_of outs2 j) (ended_of ended2 j))
  where
    abbrev o : ℕ → Outcome
    o n = outcome_of outs n

    abbrev e : ℕ → ℕ
    e n = ended_of ended n

    abbrev o2 : ℕ → Outcome
    o2 n = outcome_of outs2 n

    abbrev e2 : ℕ → ℕ
    e2 n = ended_of ended2 n

    abbrev before : List Line → ℕ → Account
    before zs x = account_of (λ n. o n) (λ n. e n) zs x

    abbrev after : List Line → ℕ → Account
    after zs x = account_of (λ n. o2 n) (λ n. e2 n) zs x

    -- what the calls that end make of the transaction of line x
    abbrev pub gone : ℕ → Account → Account
    gone x account = let m = awaited_line (st x) in closed_if (st m) (nat_eq (e2 m) (suc (length ls))) (o2 m) account

    line_same : (a : Option Ask) (n x : ℕ) (account account2 : Account) → (o2 n ≡ o n) × (e2 n ≡ e n) → account2 ≡ account → after_line a n x (o2 n) (e2 n) account2 ≡ after_line a n x (o n) (e n) account
    line_same a n x account account2 h same = λ i. after_line a n x (h.0 i) (h.1 i) (same i)

    -- where no call ends the accounts stay
    pub all_same : ((j : ℕ) → j ≤ length ls → (o2 j ≡ o j) × (e2 j ≡ e j)) → (zs : List Line) → length zs ≤ length ls → (x : ℕ) → after zs x ≡ before zs x
    all_same same [] low x = refl
    all_same same (z ∷ zs) low x = line_same (ask_of z) (suc (length zs)) x (before zs x) (after zs x) (same (suc (length zs)) low) (all_same same zs (omega arith) x)

    -- and where none of the transaction is open
    calm_same : (zs : List Line) → length zs ≤ length ls → (x : ℕ) → is_busy (λ n. o n) zs x ≡ false → after zs x ≡ before zs x
    calm_same [] low x calm = refl
    calm_same (z ∷ zs) low x calm = by (ask_of z) (role_by (deed_of z)) (calm_same zs (omega arith) x parts.1)
      where
        n : ℕ
        n = suc (length zs)

        both : (a b : Bool) → a || b ≡ false → (a ≡ false) × (b ≡ false)
        both true b h = absurd (cc)
        both false b h = (refl, h)

        parts : (uses (role_of z) x && is_unfinished (o n) ≡ false) × (is_busy (λ n. o n) zs x ≡ false)
        parts = both (uses (role_of z) x && is_unfinished (o n)) (is_busy (λ n. o n) zs x) calm

        by : (a : Option Ask) → RoleBy a (role_of z) → after zs x ≡ before zs x → after_line a n x (o2 n) (e2 n) (after zs x) ≡ after_line a n x (o n) (e n) (before zs x)
        by None role earlier = earlier
        by (Some ask) role earlier = at (nat_eq ask.transaction x) refl
          where
            at : (b : Bool) → nat_eq ask.transaction x ≡ b → after_line (Some ask) n x (o2 n) (e2 n) (after zs x) ≡ after_line (Some ask) n x (o n) (e n) (before zs x)
            at false q = line_apart ask n x (o2 n) (e2 n) (after zs x) q ∙ earlier ∙ sym (line_apart ask n x (o n) (e n) (before zs x) q)
            at true q = elim (change n low) [
              | inl h ↦ line_same (Some ask) n x (before zs x) (after zs x) h earlier
              | inr h ↦ absurd (let used : uses (role_of z) x ≡ true = ap (λ r. uses r x) role ∙ q in let a : uses (role_of z) x && is_unfinished (o n) ≡ true = λ i. used i && h.0 i in let b = parts.0 in cc)
            ]

    -- a line that asks something of a transaction whose call is open is skipped
    busy_skips : (zs : List Line) (role : Role) (b : Bool) (x : ℕ) (p : Outcome) → role ≡ UsesTransaction b x → CallMeets (known outs ended (suc (length zs))) zs role p → is_busy (λ n. o n) zs x ≡ true → is_skipped p ≡ true
    busy_skips zs role b x p is meets busy =
        let h : CallMeets (known outs ended (suc (length zs))) zs (UsesTransaction b x) p = subst (λ r. CallMeets (known outs ended (suc (length zs))) zs r p) is meets in
        let waits = busy_still (λ n. o n) (known outs ended (suc (length zs))) (λ j open_yet. known_open (e j) (suc (length zs)) (o j) open_yet) zs x busy in
        h ∙ ap (λ (c : Bool). is_crashed (known outs ended (suc (length zs))) zs (client_of zs x) || not (is_ok (known outs ended (suc (length zs)) x)) || c) waits
        ∙ or_true (is_crashed (known outs ended (suc (length zs))) zs (client_of zs x) || not (is_ok (known outs ended (suc (length zs)) x)))

    low_skips : (n : ℕ) → n ≤ length ls → is_skipped (o2 n) ≡ is_skipped (o n)
    low_skips n low = sym (skipped_stays (suc (length ls)) (o n) (o2 n) (e n) (e2 n) (change n low))

    -- what is asked, and not skipped, finds the account that it found
    pub asked_same : (z : Line) (zs : List Line) → length (z ∷ zs) ≤ length ls → (ask : Ask) → RoleBy (Some ask) (role_of z) → CallMeets (known outs ended (suc (length zs))) zs (role_of z) (o (suc (length zs))) → is_skipped (o (suc (length zs))) ≡ false
        → after zs ask.transaction ≡ before zs ask.transaction
    asked_same z zs low ask role calls unskipped = calm_same zs (omega arith) ask.transaction (at (is_busy (λ k. o k) zs ask.transaction) refl)
      where
        at : (b : Bool) → is_busy (λ k. o k) zs ask.transaction ≡ b → b ≡ false
        at true q = absurd (let a = busy_skips zs (role_of z) (commits ask.act) ask.transaction (o (suc (length zs))) role calls q in cc)
        at false q = refl

    -- What is said of the lines before stays.

    pub accounts_still : (zs : List Line) → length zs ≤ length ls → AllCallsMeet outs ended zs → AllAccountsMeet outs ended zs → AllAccountsMeet outs2 ended2 zs
    accounts_still [] low calls meets = tt
    accounts_still (z ∷ zs) low calls meets = (by (ask_of z) (role_by (deed_of z)) meets.0, accounts_still zs (omega arith) calls.1 meets.1)
      where
        n : ℕ
        n = suc (length zs)

        by : (a : Option Ask) → RoleBy a (role_of z) → AccountMeets (λ x. before zs x) n a (o n) (e n) → AccountMeets (λ x. after zs x) n a (o2 n) (e2 n)
        by None role h = tt
        by (Some ask) role h = λ unskipped.
            let was_unskipped : is_skipped (o n) ≡ false = sym (low_skips n low) ∙ unskipped in
            answers_stay (suc (length ls)) n ask.act (refusal ask.act (after zs ask.transaction)) (o n) (o2 n) (e n) (e2 n) (change n low)
            (subst (λ account. AnswersIn n ask.act (refusal ask.act account) (o n) (e n)) (sym (asked_same z zs low ask role calls.0 was_unskipped)) (h was_unskipped))

    -- Where a call ends.

    no_line : line_at ls 0 ≡ None
    no_line = elim (has_line ls 0) [ inl h ↦ h | inr h ↦ absurd (let r = (line_range ls 0 h.0 h.1).0 in omega arith) ]

    -- no call of the transaction is open
    calm_gone : (x : ℕ) (account : Account) → is_busy (λ n. o n) ls x ≡ false → gone x account ≡ account
    calm_gone x account calm = (λ i. closed_if (st (none i)) (nat_eq (e2 (none i)) (suc (length ls))) (o2 (none i)) account) ∙ (λ i. closed_if ((was.none 0 no_line).at i) (nat_eq (e2 0) (suc (length ls))) (o2 0) account)
      where
        by : (s : Stand) → st x ≡ s → awaited_line s ≡ 0
        by (HasBegun c zero) at = refl
        by (HasBegun c (suc m)) at = absurd (let a : is_busy (λ n. o n) ls x ≡ true = busy_is ls (λ n. o n) (λ n. e n) st crashed was x c (suc m) at in cc)
        by Idle at = refl
        by (IsClient c) at = refl
        by (Asking c b) at = refl
        by (Calling c y b) at = refl
        by (Past c) at = refl
        by (Working c) at = refl

        none : awaited_line (st x) ≡ 0
        none = by (st x) refl

    -- the line of an open call
    module _ (n x : ℕ) (line : Line) (ask : Ask) (there : line_at ls n ≡ Some line) (role : role_of line ≡ UsesTransaction (commits ask.act) ask.transaction) (own : nat_eq ask.transaction x ≡ true) (waits : is_unfinished (o n) ≡ true)
        (account : Account) (answers : AnswersIn n ask.act (refusal ask.act account) (o n) (e n))
      where
        range : (1 ≤ n) × (n ≤ length ls)
        range = line_range ls n line there

        same : ask.transaction ≡ x
        same = grind (arith, nat_tests)

        calling : (c : ℕ) × (st n ≡ Calling c x (commits ask.act))
        calling =
            let r = was.rows n line there in
            let w = waiting_row r.row (commits ask.act) ask.transaction (r.is ∙ role) (subst (λ p. is_unfinished p ≡ true) (sym r.outcome) waits) in
            (w.0, sym r.at ∙ w.1 ∙ ap (λ y. Calling w.0 y (commits ask.act)) same)

        awaited : awaited_line (st x) ≡ n
        awaited = ap awaited_line (was.woven.calling n calling.0 x (commits ask.act) calling.1)

        gone_is : (b : Account) → gone x b ≡ closed_if (Calling calling.0 x (commits ask.act)) (nat_eq (e2 n) (suc (length ls))) (o2 n) b
        gone_is b = (λ i. closed_if (st (awaited i)) (nat_eq (e2 (awaited i)) (suc (length ls))) (o2 (awaited i)) b) ∙ (λ i. closed_if (calling.1 i) (nat_eq (e2 n) (suc (length ls))) (o2 n) b)

        nowhere : e n ≡ 0
        nowhere = let h = sym (was.ended n line there).unfinished ∙ waits in grind (arith, nat_tests)

        earlier : nat_eq (e n) n ≡ false
        earlier = let a = nowhere in let b = range.0 in grind (arith, nat_tests)

        unfinished : o n ≡ Unfinished
        unfinished = unfinished_is (o n) waits

        was_asked : after_line (Some ask) n x (o n) (e n) account ≡ after_act ask.act false Unfinished account
        was_asked = line_asked ask n x (o n) (e n) account own (unfinished_unskipped (o n) waits) ∙ (λ i. after_act ask.act (earlier i) (unfinished i) account)

        opened : IsOpen ask.act (refusal ask.act account)
        opened = open_call n ask.act (refusal ask.act account) (o n) (e n) waits answers

        open_gone : after_line (Some ask) n x (o2 n) (e2 n) account ≡ gone x (after_line (Some ask) n x (o n) (e n) account)
        open_gone = elim (change n range.1) [
          | inl h ↦
              let later : nat_eq (e2 n) (suc (length ls)) ≡ false = let a = h.1 in let b = nowhere in grind (arith, nat_tests) in
              line_same (Some ask) n x account account h refl
              ∙ sym (gone_is (after_line (Some ask) n x (o n) (e n) account) ∙ ap (λ (b : Bool). closed_if (Calling calling.0 x (commits ask.act)) b (o2 n) (after_line (Some ask) n x (o n) (e n) account)) later)
          | inr h ↦
              let here = h.1 in
              let now : nat_eq (e2 n) (suc (length ls)) ≡ true = grind (arith, nat_tests) in
              let late : nat_eq (e2 n) n ≡ false = let b = range.1 in grind (arith, nat_tests) in
              line_asked ask n x (o2 n) (e2 n) account own h.2.skipped
              ∙ ap (λ (b : Bool). after_act ask.act b (o2 n) account) late
              ∙ sym (closed_later ask.act (commits ask.act) (o2 n) account opened.free opened.call refl)
              ∙ ap (closed_by (commits ask.act) (o2 n)) (sym was_asked)
              ∙ sym (gone_is (after_line (Some ask) n x (o n) (e n) account) ∙ ap (λ (b : Bool). closed_if (Calling calling.0 x (commits ask.act)) b (o2 n) (after_line (Some ask) n x (o n) (e n) account)) now)
        ]

    -- a call of the transaction is open
    busy_gone : (zs : List Line) → length zs ≤ length ls → ((j : ℕ) (l : Line) → line_at zs j ≡ Some l → line_at ls j ≡ Some l) → AllCallsMeet outs ended zs → AllAccountsMeet outs ended zs → (x : ℕ) → is_busy (λ n. o n) zs x ≡ true → after zs x ≡ gone x (before zs x)
    busy_gone [] low among calls meets x busy = absurd (cc)
    busy_gone (z ∷ zs) low among calls meets x busy =
        by (ask_of z) (role_by (deed_of z)) meets.0
        (λ h. busy_gone zs (omega arith) (λ j l there. let most = (line_range zs j l there).1 in among j l (line_old z zs j (λ here. absurd (omega arith)) ∙ there)) calls.1 meets.1 x h)
      where
        n : ℕ
        n = suc (length zs)

        not_here : uses (role_of z) x ≡ false → is_busy (λ k. o k) zs x ≡ true
        not_here h = sym (ap (λ (b : Bool). b && is_unfinished (o n) || is_busy (λ k. o k) zs x) h) ∙ busy

        by : (a : Option Ask) → RoleBy a (role_of z) → AccountMeets (λ y. before zs y) n a (o n) (e n) → (is_busy (λ k. o k) zs x ≡ true → after zs x ≡ gone x (before zs x))
            → after_line a n x (o2 n) (e2 n) (after zs x) ≡ gone x (after_line a n x (o n) (e n) (before zs x))
        by None role h earlier = earlier (not_here (role x))
        by (Some ask) role h earlier = at (nat_eq ask.transaction x) refl
          where
            used : uses (role_of z) x ≡ nat_eq ask.transaction x
            used = ap (λ r. uses r x) role

            of_it : (b : Bool) → nat_eq ask.transaction x ≡ true → is_busy (λ k. o k) zs x ≡ b → after_line (Some ask) n x (o2 n) (e2 n) (after zs x) ≡ gone x (after_line (Some ask) n x (o n) (e n) (before zs x))
            of_it true own q =
                let same : ask.transaction ≡ x = grind (arith, nat_tests) in
                let skipped : is_skipped (o n) ≡ true = busy_skips zs (role_of z) (commits ask.act) x (o n) (role ∙ ap (λ y. UsesTransaction (commits ask.act) y) same) calls.0 q in
                line_skipped ask n x (o2 n) (e2 n) (after zs x) (low_skips n low ∙ skipped) ∙ earlier q ∙ ap (gone x) (sym (line_skipped ask n x (o n) (e n) (before zs x) skipped))
            of_it false own q =
                let same : ask.transaction ≡ x = grind (arith, nat_tests) in
                let waits : is_unfinished (o n) ≡ true = or_none (is_unfinished (o n)) (sym (λ i. (used ∙ own) i && is_unfinished (o n) || q i) ∙ busy) in
                ap (λ account. after_line (Some ask) n x (o2 n) (e2 n) account) (calm_same zs (omega arith) x q)
                ∙ open_gone n x z ask (among n z (line_new z zs)) role own waits (before zs x) (subst (λ y. AnswersIn n ask.act (refusal ask.act (before zs y)) (o n) (e n)) same (h (unfinished_unskipped (o n) waits)))

            at : (b : Bool) → nat_eq ask.transaction x ≡ b → after_line (Some ask) n x (o2 n) (e2 n) (after zs x) ≡ gone x (after_line (Some ask) n x (o n) (e n) (before zs x))
            at true q = of_it (is_busy (λ k. o k) zs x) q refl
            at false q = line_apart ask n x (o2 n) (e2 n) (after zs x) q ∙ earlier (not_here (used ∙ q)) ∙ ap (gone x) (sym (line_apart ask n x (o n) (e n) (before zs x) q))

    pub accounts_gone : AllCallsMeet outs ended ls → AllAccountsMeet outs ended ls → (x : ℕ) → after ls x ≡ gone x (before ls x)
    accounts_gone calls meets x = by (is_busy (λ n. o n) ls x) refl
      where
        by : (b : Bool) → is_busy (λ n. o n) ls x ≡ b → after ls x ≡ gone x (before ls x)
        by true q = busy_gone ls (omega arith) (λ j l there. there) calls meets x q
        by false q = calm_same ls (omega arith) x q ∙ sym (calm_gone x (before ls x) q)
