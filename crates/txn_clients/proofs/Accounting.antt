-- How far the transactions at the lines come, and what they take in, as what stands there is told of something.
use Rattle.std.proofs.Common.{◌≡◌, ◌≢◌, inl, inr, ℕ, zero, suc, ◌-◌, ◌<◌, ◌≤◌, Bool, true, false, List, [], ◌∷◌, ◌++◌, length, map, get_or, set, nat_eq, Option, Some, None, refl, sym, ap, ◌∙◌, subst, arith, append-nil}
use Rattle.std.proofs.lemmas.Bool.Decides.{nat_tests}
use Rattle.std.proofs.lemmas.List.{length-map}
use Rattle.std.proofs.lemmas.List.Elements.{All-cons, All-head, All-nil, All-tail}
use Rattle.std.specs.Prelude.{IfOk, IfSome, OnOk, Result, Ok, Err}
use Rattle.txn_kv.specs.declared.errors.Error.{Error}
use Rattle.txn_history.specs.Moves.{SameJob}
use Rattle.txn_kv.specs.declared.progress.Progress.{Progress}
use Rattle.txn_kv.specs.declared.progress.Progress.TheVariants.{Waiting, Done}
use Rattle.txn_history.specs.Turn.{IfEnds, IfKept, Turn as Course, turn_of}
use Rattle.txn_history.specs.Turn.Turn.{Stopped, Waits, Ends}
use Rattle.txn_kv.specs.declared.arrival.Arrival.{Arrival}
use Rattle.txn_core.specs.Transaction.{Standing}
use Rattle.txn_core.specs.declared.txn_answer.TxnAnswer.{TxnAnswer}
use Rattle.txn_core.specs.declared.txn_answer.TxnAnswer.TheVariants as answer
use Rattle.txn_client.specs.Calls.{IsMadeOf, called}
use Rattle.txn_client.specs.declared.client_answer.ClientAnswer.{ClientAnswer}
use Rattle.txn_client.specs.declared.client_answer.ClientAnswer.TheVariants.{Begun}
use Rattle.txn_client.specs.declared.client_call.ClientCall.{ClientCall}
use Rattle.txn_report.specs.declared.outcome.Outcome.{Outcome}
use Rattle.txn_report.specs.declared.outcome.Outcome.TheVariants as outcomes
use Rattle.txn_report.specs.declared.outcome.Payload.TheVariants as payloads
use Rattle.txn_side.specs.Account.{Account, AnswersAtOnce, AreClosed, AreKept, AreNew, TakesIn, after_act, after_endings, awaited_line, closed, closed_by, is_write, new_account, refusal}
use Rattle.txn_side.specs.Account as side
use Rattle.txn_side.specs.Sight.{AskEnds, CallEnds, EndsAlone, Goes, LineGoes, Sight, Stand, StaysOrEnds, commits, outcomes_of, stand_at, still_open}
use Rattle.txn_side.specs.declared.turn.Posting.{Posting}
use Rattle.txn_side.specs.Sight.Stand.{Asking, Calling, HasBegun, Idle, IsClient, Past, Working}
use Rattle.txn_lines.specs.declared.act.Act.{Act}
use Rattle.txn_lines.specs.declared.act.Act.TheVariants as acts
use Rattle.txn_side.specs.declared.turn.Ending.{Ending}
use Rattle.txn_clients.specs.Accounts.{AccountTold, AccountsTold, AnswersAsk, AnswersNew, AnswersSo, AnswersTold, EndsAtOnce, HasHeard, HasTaken, RowTold, WantsNew, account_at, account_in, account_of, is_heard, outcome_by, outcome_in}
use Rattle.txn_clients.specs.Closing.{Closes, ClosesIn, ComesTo, EndsBy, EndsCall, EndsOwn, GoesTold, HasComeTo, StandsAt, ends_so, stage_after}
use Rattle.txn_clients.specs.Clients.{HearsFor, row_at, rows_of, stands_of}
use Rattle.txn_clients.specs.Matching.{AreMatched, IsLine}
use Rattle.txn_clients.specs.Waiting.{IsAnswerOf}
use Rattle.txn_clients.specs.Rows.{Pd, answer_in, stand_of, with_waits}
use Rattle.txn_clients.specs.declared.answer.Answer.{Answer}
use Rattle.txn_clients.specs.declared.answer.Answer.TheVariants as answers
use Rattle.txn_clients.specs.declared.clients.Clients.{Clients}
use Rattle.txn_clients.specs.declared.place.Place.{Place}
use Rattle.txn_clients.specs.declared.row.Row.{Row}
use Rattle.txn_clients.specs.declared.row.Row.TheVariants as row
use Rattle.txn_clients.specs.declared.told.Told.{Told}
use Rattle.txn_clients.specs.declared.told.Told.TheVariants as tells
use Rattle.txn_clients.proofs.Places.{rows_set}
use Rattle.txn_clients.proofs.Sights.{HasSettled, ask_settles, call_settles}
use Rattle.txn_clients.proofs.Stands.{or_other, or_same, same_line}
use Rattle.txn_clients.proofs.Tables.{stand_of_line, stand_read, waits_stand}
use Rattle.txn_clients.proofs.Taking.{begins_new}
use Rattle.txn_clients.proofs.Telling.{begun_line, place_row}

-- Lists.

-- what is read of each element stays where another is set of which the same is read
read_set : {X Y : Type 0} (f : X → Y) (xs : List X) (i j : ℕ) (y d : X) → f y ≡ f (get_or xs i d) → f (get_or (set xs i y) j d) ≡ f (get_or xs j d)
read_set f [] i j y d h = refl
read_set f (x ∷ xs) zero zero y d h = h
read_set f (x ∷ xs) zero (suc j) y d h = refl
read_set f (x ∷ xs) (suc i) zero y d h = refl
read_set f (x ∷ xs) (suc i) (suc j) y d h = read_set f xs i j y d h

or_ended : {X : Type 0} (xs : List X) (d : X) (i : ℕ) → get_or (xs ++ d ∷ []) i d ≡ get_or xs i d
or_ended [] d zero = refl
or_ended [] d (suc i) = refl
or_ended (z ∷ xs) d zero = refl
or_ended (z ∷ xs) d (suc i) = or_ended xs d i

pub kept_same : (accounts : ℕ → Account) → AreKept accounts accounts
kept_same accounts n = refl

pub kept_then : (a b c : ℕ → Account) → AreKept a b → AreKept b c → AreKept a c
kept_then a b c h k n = k n ∙ h n

pub if_on_ok : {T E A : Type 0} (r : Result T E) (B : T → Type 0) → ((x : T) → B x → A) → IfOk r B → OnOk r A
if_on_ok (Ok x) B f b = f x b
if_on_ok (Err e) B f b = tt

pub both_on_ok : {T E A B C : Type 0} (r : Result T E) → (A → B → C) → OnOk r A → OnOk r B → OnOk r C
both_on_ok (Ok x) f a b = f a b
both_on_ok (Err e) f a b = tt

pub both_if_ok : {T E A : Type 0} (r : Result T E) (B C : T → Type 0) → ((x : T) → A → B x → C x) → OnOk r A → IfOk r B → IfOk r C
both_if_ok (Ok x) B C f a b = f x a b
both_if_ok (Err e) B C f a b = tt

ends_one : (line : ℕ) (o : Outcome) → outcomes_of line (ends_so line o) ≡ o ∷ []
ends_one line o = let e : nat_eq line line ≡ true = grind (arith, nat_tests) in rw e refl

pub alone_so : (line : ℕ) (o : Outcome) → EndsAlone line (ends_so line o)
alone_so line o = All-cons (λ (x : Ending). x.line ≡ line) (record { line = line; outcome = o }) [] refl (All-nil (λ (x : Ending). x.line ≡ line))

-- none ends
pub ends_nothing : (line : ℕ) (from : List Ending) → EndsOwn line from from
ends_nothing line from = ([], sym (append-nil from), All-nil (λ (x : Ending). x.line ≡ line))

-- no call of another line ends
ends_none : (line m : ℕ) (more : List Ending) → EndsAlone line more → (m ≡ line → ⊥) → outcomes_of m more ≡ []
ends_none line m [] all far = refl
ends_none line m (e ∷ es) all far =
    let other : nat_eq e.line m ≡ false = (let is = All-head (λ (x : Ending). x.line ≡ line) e es all in grind (arith, nat_tests, is, far)) in
    rw other (ends_none line m es (All-tail (λ (x : Ending). x.line ≡ line) e es all) far)

outcomes_after : (m : ℕ) (xs ys : List Ending) → outcomes_of m (xs ++ ys) ≡ outcomes_of m xs ++ outcomes_of m ys
outcomes_after m [] ys = refl
outcomes_after m (x ∷ xs) ys = by (nat_eq x.line m) refl (outcomes_after m xs ys)
  where
    by : (b : Bool) → nat_eq x.line m ≡ b → outcomes_of m (xs ++ ys) ≡ outcomes_of m xs ++ outcomes_of m ys → outcomes_of m ((x ∷ xs) ++ ys) ≡ outcomes_of m (x ∷ xs) ++ outcomes_of m ys
    by true e rest = rw e (ap (λ (os : List Outcome). x.outcome ∷ os) rest)
    by false e rest = rw e rest

closed_none : (stand : Stand) (account : Account) → closed stand [] account ≡ account
closed_none Idle account = refl
closed_none (IsClient c) account = refl
closed_none (Asking c b) account = refl
closed_none (HasBegun c m) account = refl
closed_none (Calling c x b) account = refl
closed_none (Past c) account = refl
closed_none (Working c) account = refl

-- what is no call of a transaction closes none
closed_other : (stand : Stand) (outs : List Outcome) (account : Account) → ((c x : ℕ) (b : Bool) → stand ≡ Calling c x b → ⊥) → closed stand outs account ≡ account
closed_other Idle outs account other = refl
closed_other (IsClient c) outs account other = refl
closed_other (Asking c b) outs account other = refl
closed_other (HasBegun c m) outs account other = refl
closed_other (Calling c x b) outs account other = absurd (other c x b refl)
closed_other (Past c) outs account other = refl
closed_other (Working c) outs account other = refl

-- where no call ended, no transaction came further
pub nothing_closed : (s : Sight) (old new : ℕ → Account) → AreKept old new → AreClosed s [] old new
nothing_closed s old new kept x = kept x ∙ sym (closed_none (stand_at s.stands (awaited_line (stand_at s.stands x))) (old x))

pub closed_so : (s : Sight) (more these : List Ending) (old new : ℕ → Account) → these ≡ more → AreClosed s more old new → AreClosed s these old new
closed_so s more these old new e h = subst (λ es. AreClosed s es old new) (sym e) h

-- and then all stay
pub closed_kept : (s : Sight) (ended : List Ending) (old mid new : ℕ → Account) → AreClosed s ended old mid → AreKept mid new → AreClosed s ended old new
closed_kept s ended old mid new h k x = k x ∙ h x

-- how the call at a line ends
pub ends_call : {P : Type 0} (line c x : ℕ) (b : Bool) (stand : Stand) (v : Result (TxnAnswer P) Error) (o : Outcome) (from to : List Ending) → stand ≡ Calling c x b → to ≡ from ++ ends_so line o → o ≡ outcome_by b v → EndsCall line stand v from to
ends_call line c x b stand v o from to e items says = subst (λ s. EndsCall line s v from to) (sym e) (items ∙ ap (λ z. from ++ ends_so line z) says)

-- what holds where it did not give up
pub progress_kept : {P A : Type 0} (p : Progress (TxnAnswer P)) → IfKept (turn_of (Ok p)) A → A
progress_kept Waiting h = h
progress_kept (Done v) h = h

-- What a transaction comes to by an answer

stage_rolled : {P : Type 0} (v : Result (TxnAnswer P) Error) (s : side.Status) → stage_after false v ≡ side.rolled_by false s (outcome_by false v)
stage_rolled (Err e) s = refl
stage_rolled (Ok (answer.Committed t job)) s = refl
stage_rolled (Ok answer.Unit) s = refl
stage_rolled (Ok (answer.Value x)) s = refl
stage_rolled (Ok (answer.Exists b)) s = refl
stage_rolled (Ok (answer.Pairs ps)) s = refl
stage_rolled (Ok (answer.Keys ks)) s = refl
stage_rolled (Ok (answer.Ttl n)) s = refl

account_closed : {P : Type 0} (b : Bool) (v : Result (TxnAnswer P) Error) (old new : Account) → new.contents ≡ old.contents → new.status ≡ stage_after b v → new ≡ closed_by b (outcome_by b v) old
account_closed true v old new c s = λ i. record { status = s i; contents = c i }
account_closed false v old new c s = λ i. record { status = (s ∙ stage_rolled v old.status) i; contents = c i }

awaited_begun : (stand : Stand) (m : ℕ) → awaited_line stand ≡ m → (m ≡ 0 → ⊥) → (c : ℕ) × (stand ≡ HasBegun c m)
awaited_begun Idle m e far = absurd (far (sym e))
awaited_begun (IsClient c) m e far = absurd (far (sym e))
awaited_begun (Asking c b) m e far = absurd (far (sym e))
awaited_begun (HasBegun c k) m e far = (c, ap (HasBegun c) e)
awaited_begun (Calling c x b) m e far = absurd (far (sym e))
awaited_begun (Past c) m e far = absurd (far (sym e))
awaited_begun (Working c) m e far = absurd (far (sym e))

same_call : (c d x y : ℕ) (b e : Bool) → Calling c x b ≡ Calling d y e → y ≡ x
same_call c d x y b e q = cc

no_idle : (c m : ℕ) → Idle ≡ HasBegun c m → ⊥
no_idle c m q = cc

write_done : (P : Type 0) (act : Act) → is_write act ≡ true → outcome_by {P = P} (commits act) (Ok answer.Unit) ≡ outcomes.Ok payloads.Unit
write_done P (acts.Put k v) w = refl
write_done P (acts.Insert k v) w = refl
write_done P (acts.Delete k) w = refl
write_done P (acts.Mutate ms) w = refl
write_done P (acts.Lock ks) w = refl
write_done P acts.Commit w = absurd (cc)
write_done P acts.Rollback w = absurd (cc)

failed_so : (P : Type 0) (b : Bool) (e : Error) → outcome_by {P = P} b (Err e) ≡ outcomes.Err e
failed_so P true e = refl
failed_so P false e = refl

module _ {P : Type 0} where
  abbrev accounts : List (Row P) → ℕ → Account
  accounts rows n = account_at rows n

  -- Rows.

  pub kept_rows : (rows news : List (Row P)) → news ≡ rows → AreKept (accounts rows) (accounts news)
  kept_rows rows news e n = ap (λ (rs : List (Row P)). account_at rs n) e

  pub kept_set : (rows : List (Row P)) (i : ℕ) (r : Row P) → account_in r ≡ account_in (row_at rows i) → AreKept (accounts rows) (accounts (set rows i r))
  kept_set rows i r h zero = refl
  kept_set rows i r h (suc j) = read_set account_in rows i j r row.Plain h

  pub kept_at : (rows news : List (Row P)) (i : ℕ) (r : Row P) → news ≡ set rows i r → account_in r ≡ account_in (row_at rows i) → AreKept (accounts rows) (accounts news)
  kept_at rows news i r e h = kept_then (accounts rows) (accounts (set rows i r)) (accounts news) (kept_set rows i r h) (kept_rows (set rows i r) news e)

  pub kept_opened : (rows news : List (Row P)) (r : Row P) → r ≡ row.Plain → news ≡ rows ++ r ∷ [] → AreKept (accounts rows) (accounts news)
  kept_opened rows news r plain e zero = refl
  kept_opened rows news r plain e (suc j) = ap (λ (rs : List (Row P)). account_in (row_at rs j)) (e ∙ ap (λ (x : Row P). rows ++ x ∷ []) plain) ∙ ap account_in (or_ended rows row.Plain j)

  pub none_new : (rows : List (Row P)) → rows ≡ [] → AreNew (accounts rows)
  none_new rows e zero = refl
  none_new rows e (suc j) = ap (λ (rs : List (Row P)). account_in (row_at rs j)) e

  pub waits_same : (n : ℕ) (r : Row P) → account_in (with_waits n r) ≡ account_in r
  waits_same n row.Plain = refl
  waits_same n (row.Client c) = refl
  waits_same n (row.Asking c b call) = refl
  waits_same n (row.Begun c t m) = refl
  waits_same n (row.Calling c x b) = refl
  waits_same n (row.Past c) = refl
  waits_same n (row.Working c job) = refl

  -- nothing was taken in where nothing stands
  pub idle_new : (r : Row P) → stand_of r ≡ Idle → account_in r ≡ new_account
  idle_new row.Plain e = refl
  idle_new (row.Client c) e = refl
  idle_new (row.Asking c b call) e = refl
  idle_new (row.Begun c t m) e = absurd (no e)
    where
      no : HasBegun c m ≡ Idle → ⊥
      no q = cc
  idle_new (row.Calling c x b) e = refl
  idle_new (row.Past c) e = refl
  idle_new (row.Working c job) e = refl

  pub idle_line : (rows : List (Row P)) (line : ℕ) → IsLine (stands_of rows) line → stand_at (stands_of rows) line ≡ Idle → account_in (row_at rows (line - 1)) ≡ new_account
  idle_line rows line is idle = idle_new (row_at rows (line - 1)) (sym (stand_of_line rows line is.first) ∙ idle)

  -- What is told.

  start_same : (r : Row P) (answer : Option (Answer P)) (new : Account) → RowTold tells.Start answer r new → new ≡ account_in r
  start_same row.Plain answer new h = h
  start_same (row.Client c) answer new h = h
  start_same (row.Asking c b call) answer new h = h
  start_same (row.Begun c t m) answer new h = h
  start_same (row.Calling c x b) answer new h = h
  start_same (row.Past c) answer new h = h
  start_same (row.Working c job) answer new h = h

  -- where nothing is answered, nothing comes further
  unanswered_same : (a : Arrival) (r : Row P) (new : Account) → RowTold (tells.Heard a) None r new → new ≡ account_in r
  unanswered_same a row.Plain new h = h
  unanswered_same a (row.Client c) new h = h
  unanswered_same a (row.Asking c b call) new h = h
  unanswered_same a (row.Begun c t m) new h = h
  unanswered_same a (row.Calling c x b) new h = h
  unanswered_same a (row.Past c) new h = h
  unanswered_same a (row.Working c job) new h = h

  -- nor where a call for a timestamp is
  asked_same : (a : Arrival) (v : Result (ClientAnswer Pd P) Error) (r : Row P) (new : Account) → IsAnswerOf (stand_of r) (answers.Asked v) → RowTold (tells.Heard a) (Some (answers.Asked v)) r new → new ≡ account_in r
  asked_same a v row.Plain new k h = h
  asked_same a v (row.Client c) new k h = h
  asked_same a v (row.Asking c b call) new k h = h
  asked_same a v (row.Begun c t m) new k h = absurd k
  asked_same a v (row.Calling c x b) new k h = h
  asked_same a v (row.Past c) new k h = h
  asked_same a v (row.Working c job) new k h = h

  told_same : (told : Told) (at : ℕ) (answer : Option (Answer P)) (old new : List (Row P)) → (RowTold told answer (row_at old at) (account_at new (suc at)) → account_at new (suc at) ≡ account_in (row_at old at)) → AccountsTold told at answer old new → AreKept (accounts old) (accounts new)
  told_same told at answer old new same h n = elim (same_line (suc at) n) [
    | inl e ↦ subst (λ k. account_at new k ≡ account_at old k) (sym e) (same h.own)
    | inr far ↦ h.others n far
  ]

  pub started : (at : ℕ) (answer : Option (Answer P)) (old new : List (Row P)) → AccountsTold tells.Start at answer old new → AreKept (accounts old) (accounts new)
  started at answer old new h = told_same tells.Start at answer old new (start_same (row_at old at) answer (account_at new (suc at))) h

  pub told_then : (told : Told) (at : ℕ) (answer : Option (Answer P)) (old mid new : List (Row P)) → AccountsTold told at answer old mid → AreKept (accounts mid) (accounts new) → AccountsTold told at answer old new
  told_then told at answer old mid new h k = record { own = subst (RowTold told answer (row_at old at)) (sym (k (suc at))) h.own; others = λ n far. k n ∙ h.others n far }

  pub told_rows : (told : Told) (at : ℕ) (answer : Option (Answer P)) (old mid new : List (Row P)) → new ≡ mid → AccountsTold told at answer old mid → AccountsTold told at answer old new
  told_rows told at answer old mid new e h = subst (λ (rs : List (Row P)). AccountsTold told at answer old rs) (sym e) h

  pub put_accounts : (s : Clients P) (at : ℕ) (p q : Place P) (told : Told) (answer : Option (Answer P)) → at < length (rows_of s) → p ≡ get_or s.places.items at p → RowTold told answer p.row (account_in q.row)
      → AccountsTold told at answer (rows_of s) (map (λ (x : Place P). x.row) (set s.places.items at q))
  put_accounts s at p q told answer low e h = told_rows told at answer (rows_of s) (set (rows_of s) at q.row) (map (λ (x : Place P). x.row) (set s.places.items at q)) (rows_set s.places.items at q) (record {
    own = subst (λ (r : Row P). RowTold told answer r (account_in (row_at (set (rows_of s) at q.row) at))) (sym (place_row s at p low e)) (subst (RowTold told answer p.row) (sym (ap account_in (or_same (rows_of s) at q.row row.Plain low))) h);
    others = λ n far. others n far;
  })
    where
      others : (n : ℕ) → n ≢ suc at → account_at (set (rows_of s) at q.row) n ≡ account_at (rows_of s) n
      others zero far = refl
      others (suc j) far = ap account_in (or_other (rows_of s) at j q.row row.Plain (λ z. far (ap (λ k. suc k) z)))

  pub put_answers : (s : Clients P) (at : ℕ) (p : Place P) (told : Told) (o : Option (Answer P)) → at < length (rows_of s) → p ≡ get_or s.places.items at p → AnswersTold told p.row o → AnswersTold told (row_at (rows_of s) at) o
  put_answers s at p told o low e h = subst (λ (r : Row P). AnswersTold told r o) (sym (place_row s at p low e)) h

  -- what a transaction did, by what it answered
  pub acted_account : (told : Told) (act : Act) (old new : Standing P) (p : Progress (TxnAnswer P)) (o : Option (Answer P)) → told ≡ tells.Act act → o ≡ answer_in answers.Called (turn_of (Ok p)) → IfKept (turn_of (Ok p)) (HasTaken act old new (turn_of (Ok p))) → AccountTold told o (account_of old) (account_of new)
  acted_account told act old new p o is e h = subst (λ t. AccountTold t o (account_of old) (account_of new)) (sym is) (subst (λ (x : Option (Answer P)). AccountTold (tells.Act act) x (account_of old) (account_of new)) (sym e) (by p h))
    where
      by : (p : Progress (TxnAnswer P)) → IfKept (turn_of (Ok p)) (HasTaken act old new (turn_of (Ok p))) → AccountTold {P = P} (tells.Act act) (answer_in answers.Called (turn_of (Ok p))) (account_of old) (account_of new)
      by Waiting h = h.account
      by (Done v) h = h.account

  pub acted_answers : (told : Told) (act : Act) (old new : Standing P) (p : Progress (TxnAnswer P)) (o : Option (Answer P)) → told ≡ tells.Act act → o ≡ answer_in answers.Called (turn_of (Ok p)) → IfKept (turn_of (Ok p)) (HasTaken act old new (turn_of (Ok p))) → AnswersAsk told (account_of old) o
  acted_answers told act old new p o is e h = subst (λ t. AnswersAsk t (account_of old) o) (sym is) (subst (λ (x : Option (Answer P)). AnswersSo act (refusal act (account_of old)) x) (sym e) (by p (refusal act (account_of old)) (progress_kept p h).answer))
    where
      by : (p : Progress (TxnAnswer P)) (why : Option Error) → EndsAtOnce act why (turn_of (Ok p)) → AnswersSo {P = P} act why (answer_in answers.Called (turn_of (Ok p)))
      by p None h = λ w. ap (λ (t : Course (Result (TxnAnswer P) Error)). answer_in {X = Answer P} answers.Called t) (h w)
      by p (Some why) h = ap (λ (t : Course (Result (TxnAnswer P) Error)). answer_in {X = Answer P} answers.Called t) h

  pub heard_account : (told : Told) (a : Arrival) (old new : Standing P) (p : Progress (TxnAnswer P)) (o : Option (Answer P)) → told ≡ tells.Heard a → o ≡ answer_in answers.Called (turn_of (Ok p)) → IfKept (turn_of (Ok p)) (HasHeard old new (turn_of (Ok p))) → AccountTold told o (account_of old) (account_of new)
  heard_account told a old new p o is e h = subst (λ t. AccountTold t o (account_of old) (account_of new)) (sym is) (subst (λ (x : Option (Answer P)). AccountTold (tells.Heard a) x (account_of old) (account_of new)) (sym e) (by p h))
    where
      by : (p : Progress (TxnAnswer P)) → IfKept (turn_of (Ok p)) (HasHeard old new (turn_of (Ok p))) → AccountTold {P = P} (tells.Heard a) (answer_in answers.Called (turn_of (Ok p))) (account_of old) (account_of new)
      by Waiting h = λ i. record { status = h.waits refl i; contents = h.contents i }
      by (Done v) h = h.contents

  -- How calls end.

  -- a call for a timestamp has ended
  pub asked_kept : (rows news : List (Row P)) (line c : ℕ) (b : Bool) (call : ClientCall Pd P) (r : Row P) → row_at rows (line - 1) ≡ row.Asking c b call → account_in r ≡ new_account → news ≡ set rows (line - 1) r → AreKept (accounts rows) (accounts news)
  asked_kept rows news line c b call r there new e = kept_at rows news (line - 1) r e (new ∙ sym (ap account_in there))

  -- a call of a transaction has ended, which waits no more
  pub called_kept : (rows news : List (Row P)) (line x c : ℕ) (b : Bool) (r : Row P) → row_at rows (line - 1) ≡ row.Calling c x b → account_in r ≡ new_account
      → news ≡ set (set rows (x - 1) (with_waits 0 (row_at rows (x - 1)))) (line - 1) r → AreKept (accounts rows) (accounts news)
  called_kept rows news line x c b r there new e = kept_then (accounts rows) (accounts mid) (accounts news) first (kept_at mid news (line - 1) r e (new ∙ sym (first (suc (line - 1)) ∙ ap account_in there)))
    where
      mid : List (Row P)
      mid = set rows (x - 1) (with_waits 0 (row_at rows (x - 1)))

      first : AreKept (accounts rows) (accounts mid)
      first = kept_set rows (x - 1) (with_waits 0 (row_at rows (x - 1))) (waits_same 0 (row_at rows (x - 1)))

  pub started_goes : (line at : ℕ) (stand : Stand) (old new : List (Row P)) (from to : List Ending) → GoesTold tells.Start line at stand old new from to → AreKept (accounts old) (accounts new)
  started_goes line at stand old new from to g = started at g.answer old new g.accounts

  -- What waits for a line was told of something.

  pub goes_none : (told : Told) (line at : ℕ) (stand : Stand) (old new : List (Row P)) (from to : List Ending) (o : Option (Answer P)) → o ≡ None → AccountsTold told at o old new → AnswersTold told (row_at old at) o → to ≡ from → GoesTold told line at stand old new from to
  goes_none told line at stand old new from to o e h a same = record {
    answer = None;
    accounts = subst (λ (x : Option (Answer P)). AccountsTold told at x old new) e h;
    answers = subst (λ (x : Option (Answer P)). AnswersTold told (row_at old at) x) e a;
    kind = tt;
    ends = same;
    closes = closes_none told (row_at old at) (account_at new (suc at));
  }
    where
      closes_none : (told : Told) (r : Row P) (new : Account) → Closes told stand None r new
      closes_none tells.Start r new = tt
      closes_none (tells.Act act) r new = tt
      closes_none (tells.Heard a) r new = tt

  pub goes_asked : (told : Told) (line at : ℕ) (stand : Stand) (old new : List (Row P)) (from to : List Ending) (o : Option (Answer P)) (v : Result (ClientAnswer Pd P) Error) → o ≡ Some (answers.Asked v) → AccountsTold told at o old new → AnswersTold told (row_at old at) o → IfSome o (IsAnswerOf (stand_of (row_at old at))) → EndsOwn line from to → GoesTold told line at stand old new from to
  goes_asked told line at stand old new from to o v e h a k ends = record {
    answer = Some (answers.Asked v);
    accounts = subst (λ (x : Option (Answer P)). AccountsTold told at x old new) e h;
    answers = subst (λ (x : Option (Answer P)). AnswersTold told (row_at old at) x) e a;
    kind = subst (λ (x : Option (Answer P)). IfSome x (IsAnswerOf (stand_of (row_at old at)))) e k;
    ends = ends;
    closes = closes_asked told (row_at old at) (account_at new (suc at));
  }
    where
      closes_asked : (told : Told) (r : Row P) (new : Account) → Closes told stand (Some (answers.Asked v)) r new
      closes_asked tells.Start r new = tt
      closes_asked (tells.Act act) r new = tt
      closes_asked (tells.Heard a) r new = tt

  pub goes_called : (told : Told) (line at : ℕ) (stand : Stand) (old new : List (Row P)) (from to : List Ending) (o : Option (Answer P)) (v : Result (TxnAnswer P) Error) → o ≡ Some (answers.Called v) → AccountsTold told at o old new → AnswersTold told (row_at old at) o → IfSome o (IsAnswerOf (stand_of (row_at old at))) → EndsCall line stand v from to
      → Closes told stand (Some (answers.Called v)) (row_at old at) (account_at new (suc at)) → GoesTold told line at stand old new from to
  goes_called told line at stand old new from to o v e h a k ends closes = record {
    answer = Some (answers.Called v);
    accounts = subst (λ (x : Option (Answer P)). AccountsTold told at x old new) e h;
    answers = subst (λ (x : Option (Answer P)). AnswersTold told (row_at old at) x) e a;
    kind = subst (λ (x : Option (Answer P)). IfSome x (IsAnswerOf (stand_of (row_at old at)))) e k;
    ends = ends;
    closes = closes;
  }

  -- a transaction that has come as far as its answer says, once it was told
  pub closes_so : (told : Told) (stand : Stand) (v : Result (TxnAnswer P) Error) (old mid : Row P) (new : Account) → stand_of mid ≡ stand_of old → account_in mid ≡ new → RowTold told (Some (answers.Called v)) old new → (is_heard told ≡ true → HasComeTo stand v mid) → Closes told stand (Some (answers.Called v)) old new
  closes_so tells.Start stand v old mid new e m h come = tt
  closes_so (tells.Act act) stand v old mid new e m h come = tt
  closes_so (tells.Heard a) stand v row.Plain mid new e m h come = tt
  closes_so (tells.Heard a) stand v (row.Client c) mid new e m h come = tt
  closes_so (tells.Heard a) stand v (row.Asking c b call) mid new e m h come = tt
  closes_so (tells.Heard a) stand v (row.Calling c x b) mid new e m h come = tt
  closes_so (tells.Heard a) stand v (row.Past c) mid new e m h come = tt
  closes_so (tells.Heard a) stand v (row.Working c job) mid new e m h come = tt
  closes_so (tells.Heard a) stand v (row.Begun c t k) mid new e m h come = by stand mid e m (come refl)
    where
      there : (b : Bool) (mid : Row P) → stand_of mid ≡ HasBegun c k → account_in mid ≡ new → StandsAt (stage_after b v) mid → new.status ≡ stage_after b v
      there b (row.Begun d u n) e m s = ap (λ (a : Account). a.status) (sym m) ∙ s
      there b row.Plain e m s = absurd (no e)
        where
          no : Idle ≡ HasBegun c k → ⊥
          no q = cc
      there b (row.Client d) e m s = absurd (no e)
        where
          no : IsClient d ≡ HasBegun c k → ⊥
          no q = cc
      there b (row.Asking d f call) e m s = absurd (no e)
        where
          no : Asking d f ≡ HasBegun c k → ⊥
          no q = cc
      there b (row.Calling d x f) e m s = absurd (no e)
        where
          no : Calling d x f ≡ HasBegun c k → ⊥
          no q = cc
      there b (row.Past d) e m s = absurd (no e)
        where
          no : Past d ≡ HasBegun c k → ⊥
          no q = cc
      there b (row.Working d job) e m s = absurd (no e)
        where
          no : Working d ≡ HasBegun c k → ⊥
          no q = cc

      by : (stand : Stand) (mid : Row P) → stand_of mid ≡ HasBegun c k → account_in mid ≡ new → HasComeTo stand v mid → ComesTo stand v (account_of t) new
      by (Calling d x b) mid e m s = account_closed b v (account_of t) new h (there b mid e m s)
      by Idle mid e m s = tt
      by (IsClient d) mid e m s = tt
      by (Asking d b) mid e m s = tt
      by (HasBegun d n) mid e m s = tt
      by (Past d) mid e m s = tt
      by (Working d) mid e m s = tt

  -- Calls that end later than in their own line.

  -- of this sight, of which each transaction that waits has a call that does
  module _ (s : Sight) (old : List (Row P)) (line at : ℕ) (is : s.stands ≡ stands_of old) (matched : AreMatched s.stands) (own : 1 ≤ line) where
    -- none came further where all ended at a line that stands as no call of a transaction
    closed_alone : (more : List Ending) (a : ℕ → Account) → EndsAlone line more → ((c x : ℕ) (b : Bool) → stand_at s.stands line ≡ Calling c x b → ⊥) → (y : ℕ) → after_endings s more y (a y) ≡ a y
    closed_alone more a alone other y = elim (same_line line (awaited_line (stand_at s.stands y))) [
      | inl e ↦ closed_other (stand_at s.stands (awaited_line (stand_at s.stands y))) (outcomes_of (awaited_line (stand_at s.stands y)) more) (a y) (λ c x b q. other c x b (ap (stand_at s.stands) (sym e) ∙ q))
      | inr far ↦ ap (λ os. closed (stand_at s.stands (awaited_line (stand_at s.stands y))) os (a y)) (ends_none line (awaited_line (stand_at s.stands y)) more alone far) ∙ closed_none (stand_at s.stands (awaited_line (stand_at s.stands y))) (a y)
    ]

    -- the transaction of the call came further, and no other
    closed_call : (c x d : ℕ) (b : Bool) (o : Outcome) (a new : ℕ → Account) → stand_at s.stands line ≡ Calling c x b → stand_at s.stands x ≡ HasBegun d line → new x ≡ closed_by b o (a x) → ((y : ℕ) → y ≢ x → new y ≡ a y) → AreClosed s (ends_so line o) a new
    closed_call c x d b o a new calls begun here others y = elim (same_line x y) [
      | inl e ↦ subst (λ k. new k ≡ after_endings s (ends_so line o) k (a k)) (sym e) (here ∙ sym (at_x))
      | inr far ↦ others y far ∙ sym (elsewhere far)
    ]
      where
        at_x : after_endings s (ends_so line o) x (a x) ≡ closed_by b o (a x)
        at_x = ap (λ st. closed (stand_at s.stands (awaited_line st)) (outcomes_of (awaited_line st) (ends_so line o)) (a x)) begun
            ∙ ap (λ st. closed st (outcomes_of line (ends_so line o)) (a x)) calls ∙ ap (λ os. closed (Calling c x b) os (a x)) (ends_one line o)

        elsewhere : y ≢ x → after_endings s (ends_so line o) y (a y) ≡ a y
        elsewhere far = elim (same_line line (awaited_line (stand_at s.stands y))) [
          | inl e ↦ absurd (let w = awaited_begun (stand_at s.stands y) line e (λ z. let one = own in omega (arith, one, z)) in elim (matched y w.0 line w.1) [
            | inl z ↦ (let one = own in omega (arith, one, z))
            | inr q ↦ far (same_call c q.0 x y b q.1 (sym calls ∙ q.2))
          ])
          | inr off ↦ ap (λ os. closed (stand_at s.stands (awaited_line (stand_at s.stands y))) os (a y)) (ends_none line (awaited_line (stand_at s.stands y)) (ends_so line o) (alone_so line o) off) ∙ closed_none (stand_at s.stands (awaited_line (stand_at s.stands y))) (a y)
        ]

  -- what was told to what stands at this place, for this line
  row_stand : (rows : List (Row P)) (at : ℕ) → stand_of (row_at rows at) ≡ stand_at (stands_of rows) (suc at)
  row_stand rows at = sym (stand_read rows at)

  pub row_same : (old mid : List (Row P)) (at : ℕ) → stands_of mid ≡ stands_of old → stand_of (row_at mid at) ≡ stand_of (row_at old at)
  row_same old mid at e = row_stand mid at ∙ ap (λ ss. stand_at ss (suc at)) e ∙ sym (row_stand old at)

  -- the row of a transaction
  begun_row : (r : Row P) (c m : ℕ) → stand_of r ≡ HasBegun c m → (t : Standing P) × (r ≡ row.Begun c t m)
  begun_row row.Plain c m e = absurd (no_idle c m e)
  begun_row (row.Client d) c m e = absurd (no e)
    where
      no : IsClient d ≡ HasBegun c m → ⊥
      no q = cc
  begun_row (row.Asking d b call) c m e = absurd (no e)
    where
      no : Asking d b ≡ HasBegun c m → ⊥
      no q = cc
  begun_row (row.Begun d t n) c m e = (t, λ i. row.Begun (client e i) t (waits e i))
    where
      client : HasBegun d n ≡ HasBegun c m → d ≡ c
      client q = cc

      waits : HasBegun d n ≡ HasBegun c m → n ≡ m
      waits q = cc
  begun_row (row.Calling d x b) c m e = absurd (no e)
    where
      no : Calling d x b ≡ HasBegun c m → ⊥
      no q = cc
  begun_row (row.Past d) c m e = absurd (no e)
    where
      no : Past d ≡ HasBegun c m → ⊥
      no q = cc
  begun_row (row.Working d job) c m e = absurd (no e)
    where
      no : Working d ≡ HasBegun c m → ⊥
      no q = cc

  closes_begun : (a : Arrival) (stand : Stand) (c x : ℕ) (b : Bool) (v : Result (TxnAnswer P) Error) (r : Row P) (d m : ℕ) (new : Account) → stand ≡ Calling c x b → stand_of r ≡ HasBegun d m → Closes (tells.Heard a) stand (Some (answers.Called v)) r new → new ≡ closed_by b (outcome_by b v) (account_in r)
  closes_begun a stand c x b v r d m new calls begun h =
      let k = begun_row r d m begun in
      subst (λ (z : Row P). Closes (tells.Heard a) stand (Some (answers.Called v)) z new → new ≡ closed_by b (outcome_by b v) (account_in z)) (sym k.1)
      (λ q. subst (λ st. ComesTo st v (account_of k.0) new) calls q) h

  asked_stand : (r : Row P) (v : Result (ClientAnswer Pd P) Error) (d m : ℕ) → stand_of r ≡ HasBegun d m → IsAnswerOf (stand_of r) (answers.Asked v) → ⊥
  asked_stand r v d m e k = subst (λ st. IsAnswerOf {P = P} st (answers.Asked v)) e k

  -- Something came for a line: its call may have ended, and then its transaction came further by that.
  pub heard_closes : (s : Sight) (a : Arrival) (line at : ℕ) (old new : List (Row P)) (from to : List Ending) → s.stands ≡ stands_of old → AreMatched s.stands → 1 ≤ line → HearsFor s.stands line at (stand_at s.stands line)
      → GoesTold (tells.Heard a) line at (stand_at s.stands line) old new from to → ClosesIn s old new from to
  heard_closes s a line at old new from to is matched own hears g = by g.answer g.accounts g.kind g.ends g.closes
    where
      there : stand_of (row_at old at) ≡ stand_at s.stands (suc at)
      there = row_stand old at ∙ ap (λ ss. stand_at ss (suc at)) (sym is)

      -- where the line is a call's, its transaction stands at the place
      begun_there : (c x : ℕ) (b : Bool) → stand_at s.stands line ≡ Calling c x b → (suc at ≡ x) × ((d : ℕ) × (stand_at s.stands x ≡ HasBegun d line))
      begun_there c x b e = subst (HearsFor s.stands line at) e hears

      kept : (answer : Option (Answer P)) → AccountsTold (tells.Heard a) at answer old new → (RowTold (tells.Heard a) answer (row_at old at) (account_at new (suc at)) → account_at new (suc at) ≡ account_in (row_at old at)) → AreKept (accounts old) (accounts new)
      kept answer h same = told_same (tells.Heard a) at answer old new same h

      by : (answer : Option (Answer P)) → AccountsTold (tells.Heard a) at answer old new → IfSome answer (IsAnswerOf (stand_of (row_at old at))) → EndsBy line (stand_at s.stands line) answer from to
          → Closes (tells.Heard a) (stand_at s.stands line) answer (row_at old at) (account_at new (suc at)) → ClosesIn s old new from to
      by None h k ends closes = record {
        more = [];
        ended = ends ∙ sym (append-nil from);
        closed = nothing_closed s (accounts old) (accounts new) (kept None h (unanswered_same a (row_at old at) (account_at new (suc at))));
      }
      by (Some (answers.Asked v)) h k ends closes = record {
        more = ends.0;
        ended = ends.1;
        closed = λ y. kept (Some (answers.Asked v)) h (asked_same a v (row_at old at) (account_at new (suc at)) k) y
            ∙ sym (closed_alone s old line at is matched own ends.0 (accounts old) ends.2
            (λ c x b e. let z = begun_there c x b e in asked_stand (row_at old at) v z.1.0 line (there ∙ ap (stand_at s.stands) z.0 ∙ z.1.1) k) y);
      }
      by (Some (answers.Called v)) h k ends closes = called (stand_at s.stands line) refl
        where
          called : (stand : Stand) → stand_at s.stands line ≡ stand → ClosesIn s old new from to
          called (Calling c x b) e = let z = begun_there c x b e in
              let begun : stand_of (row_at old at) ≡ HasBegun z.1.0 line = there ∙ ap (stand_at s.stands) z.0 ∙ z.1.1 in
              record {
                more = ends_so line (outcome_by b v);
                ended = subst (λ st. EndsCall line st v from to) e ends;
                closed = closed_call s old line at is matched own c x z.1.0 b (outcome_by b v) (accounts old) (accounts new) e z.1.1
                    (subst (λ n. account_at new n ≡ closed_by b (outcome_by b v) (account_at old n)) z.0 (closes_begun a (stand_at s.stands line) c x b v (row_at old at) z.1.0 line (account_at new (suc at)) e begun closes))
                    (λ y far. h.others y (λ w. far (w ∙ z.0)));
              }
          called Idle e = absurd (subst (HearsFor s.stands line at) e hears)
          called (IsClient c) e = absurd (subst (HearsFor s.stands line at) e hears)
          called (HasBegun c m) e = absurd (subst (HearsFor s.stands line at) e hears)
          called (Past c) e = absurd (subst (HearsFor s.stands line at) e hears)
          called (Asking c b) e = absurd (subst (λ st. IsAnswerOf {P = P} st (answers.Called v)) (there ∙ ap (stand_at s.stands) (subst (HearsFor s.stands line at) e hears) ∙ e) k)
          called (Working c) e = absurd (subst (λ st. IsAnswerOf {P = P} st (answers.Called v)) (there ∙ ap (stand_at s.stands) (subst (HearsFor s.stands line at) e hears) ∙ e) k)

  -- nothing came for anybody
  pub closes_nothing : (s : Sight) (rows : List (Row P)) (from : List Ending) → ClosesIn s rows rows from from
  closes_nothing s rows from = record { more = []; ended = sym (append-nil from); closed = nothing_closed s (accounts rows) (accounts rows) (kept_same (accounts rows)) }

  -- of a turn in which nothing has ended before
  pub closes_first : (s : Sight) (old new : List (Row P)) (from to : List Ending) → from ≡ [] → ClosesIn s old new from to → AreClosed s to (accounts old) (accounts new)
  closes_first s old new from to e h = closed_so s h.more to (accounts old) (accounts new) (h.ended ∙ ap (λ es. es ++ h.more) e) h.closed

  -- where the same stood before
  pub closed_rows : (s t : Sight) (old mid new : List (Row P)) (ended : List Ending) → t.stands ≡ s.stands → mid ≡ old → AreClosed t ended (accounts mid) (accounts new) → AreClosed s ended (accounts old) (accounts new)
  closed_rows s t old mid new ended stands e h x = subst (λ (rs : List (Row P)). accounts new x ≡ after_endings t ended x (accounts rs x)) e (h x)
      ∙ ap (λ ss. closed (stand_at ss (awaited_line (stand_at ss x))) (outcomes_of (awaited_line (stand_at ss x)) ended) (accounts old x)) stands

  -- A call of a transaction begins.

  -- what the newest line comes to by an answer
  abbrev outs_in : Act → Option (Answer P) → List Outcome
  outs_in act None = []
  outs_in act (Some (answers.Asked v)) = []
  outs_in act (Some (answers.Called v)) = outcome_by (commits act) v ∷ []

  come_so : (act : Act) (answer : Option (Answer P)) (outs : List Outcome) → outs ≡ outs_in act answer → side.come_to outs ≡ outcome_in (commits act) answer
  come_so act answer outs e = ap side.come_to e ∙ by answer
    where
      by : (answer : Option (Answer P)) → side.come_to (outs_in act answer) ≡ outcome_in (commits act) answer
      by None = refl
      by (Some (answers.Asked v)) = refl
      by (Some (answers.Called v)) = refl

  at_once : (act : Act) (why : Option Error) (answer : Option (Answer P)) (outs : List Outcome) → AnswersSo act why answer → outs ≡ outs_in act answer → AnswersAtOnce act why outs
  at_once act None answer outs h e = λ w. e ∙ ap (outs_in act) (h w) ∙ ap (λ (o : Outcome). o ∷ []) (write_done P act w)
  at_once act (Some why) answer outs h e = e ∙ ap (outs_in act) h ∙ ap (λ (o : Outcome). o ∷ []) (failed_so P (commits act) why)

  module _ (rows mid : List (Row P)) (line x c : ℕ) (b : Bool) (is : IsLine (stands_of rows) line) (idle : stand_at (stands_of rows) line ≡ Idle) (free : stand_at (stands_of rows) x ≡ HasBegun c 0)
      (e : mid ≡ set (set rows (x - 1) (with_waits line (row_at rows (x - 1)))) (line - 1) (row.Calling c x b)) where
    abbrev first : List (Row P)
    first = set rows (x - 1) (with_waits line (row_at rows (x - 1)))

    begun : IsLine (stands_of rows) x
    begun = begun_line (stands_of rows) x c 0 free

    count : length (stands_of rows) ≡ length rows
    count = length-map rows stand_of

    first_kept : AreKept (accounts rows) (accounts first)
    first_kept = kept_set rows (x - 1) (with_waits line (row_at rows (x - 1))) (waits_same line (row_at rows (x - 1)))

    pub calling_kept : AreKept (accounts rows) (accounts mid)
    calling_kept = kept_then (accounts rows) (accounts first) (accounts mid) first_kept (kept_at first mid (line - 1) (row.Calling c x b) e (sym (first_kept (suc (line - 1)) ∙ idle_line rows line is idle)))

    far : x ≢ line
    far z = no (sym idle ∙ ap (stand_at (stands_of rows)) (sym z) ∙ free)
      where
        no : Idle ≡ HasBegun c 0 → ⊥
        no q = cc

    apart : x - 1 ≢ line - 1
    apart z = far (let one = begun.first in let two = is.first in omega (arith, one, two, z))

    at_x : row_at mid (x - 1) ≡ with_waits line (row_at rows (x - 1))
    at_x = ap (λ (rs : List (Row P)). row_at rs (x - 1)) e ∙ or_other first (line - 1) (x - 1) (row.Calling c x b) row.Plain apart
        ∙ or_same rows (x - 1) (with_waits line (row_at rows (x - 1))) row.Plain (let one = begun.first in let last = begun.last in let long = count in omega (arith, one, last, long))

    stands_x : stand_of (row_at mid (x - 1)) ≡ HasBegun c line
    stands_x = ap stand_of at_x ∙ waits_stand line c 0 (row_at rows (x - 1)) (sym (stand_of_line rows x begun.first) ∙ free)

    is_x : suc (x - 1) ≡ x
    is_x = let one = begun.first in omega (arith, one)

    same_x : account_in (row_at mid (x - 1)) ≡ account_at rows x
    same_x = calling_kept (suc (x - 1)) ∙ ap (λ k. account_at rows k) is_x

    -- and does what it is asked
    pub takes_in : (new : List (Row P)) (act : Act) (newest : ℕ) (ended : List Ending) → line ≡ newest → b ≡ commits act → stand_at (stands_of mid) line ≡ Calling c x b
        → GoesTold (tells.Act act) line (x - 1) (stand_at (stands_of mid) line) mid new [] ended → TakesIn act x newest (accounts rows) (accounts new) ended
    takes_in new act newest ended last kind calls g = by g.answer g.accounts g.answers g.kind g.ends
      where
        begun_at : (t : Standing P) × (row_at mid (x - 1) ≡ row.Begun c t line)
        begun_at = begun_row (row_at mid (x - 1)) c line stands_x

        own_told : (answer : Option (Answer P)) → RowTold (tells.Act act) answer (row_at mid (x - 1)) (account_at new (suc (x - 1))) → account_at new x ≡ after_act act true (outcome_in (commits act) answer) (account_at rows x)
        own_told answer h = subst (λ k. account_at new k ≡ after_act act true (outcome_in (commits act) answer) (account_at rows x)) is_x
            (subst (λ (r : Row P). RowTold (tells.Act act) answer r (account_at new (suc (x - 1))) → account_at new (suc (x - 1)) ≡ after_act act true (outcome_in (commits act) answer) (account_in r)) (sym begun_at.1) (λ q. q) h
            ∙ ap (after_act act true (outcome_in (commits act) answer)) same_x)

        answered : (answer : Option (Answer P)) → AnswersTold (tells.Act act) (row_at mid (x - 1)) answer → AnswersSo act (refusal act (account_at rows x)) answer
        answered answer h = subst (λ z. AnswersSo act (refusal act z) answer) same_x
            (subst (λ (r : Row P). AnswersTold (tells.Act act) r answer → AnswersSo act (refusal act (account_in r)) answer) (sym begun_at.1) (λ q. q) h)

        -- what comes of the line so far
        comes : (answer : Option (Answer P)) → IfSome answer (IsAnswerOf (stand_of (row_at mid (x - 1)))) → EndsBy line (stand_at (stands_of mid) line) answer [] ended → outcomes_of newest ended ≡ outs_in act answer
        comes None k ends = ap (outcomes_of newest) ends
        comes (Some (answers.Asked v)) k ends = absurd (asked_stand (row_at mid (x - 1)) v c line stands_x k)
        comes (Some (answers.Called v)) k ends = ap (outcomes_of newest) (subst (λ st. EndsCall line st v [] ended) calls ends) ∙ ap (λ n. outcomes_of n (ends_so line (outcome_by b v))) (sym last) ∙ ends_one line (outcome_by b v) ∙ ap (λ (f : Bool). outcome_by f v ∷ []) kind

        by : (answer : Option (Answer P)) → AccountsTold (tells.Act act) (x - 1) answer mid new → AnswersTold (tells.Act act) (row_at mid (x - 1)) answer → IfSome answer (IsAnswerOf (stand_of (row_at mid (x - 1)))) → EndsBy line (stand_at (stands_of mid) line) answer [] ended
            → TakesIn act x newest (accounts rows) (accounts new) ended
        by answer told says k ends = record {
          own = own_told answer told.own ∙ ap (λ o. after_act act true o (account_at rows x)) (sym (come_so act answer (outcomes_of newest ended) (comes answer k ends)));
          others = λ n off. told.others n (λ z. off (z ∙ is_x)) ∙ calling_kept n;
          answer = at_once act (refusal act (account_at rows x)) answer (outcomes_of newest ended) (answered answer says) (comes answer k ends);
        }

  -- What a call that is told of something begins.

  pub begun_answer : (call : ClientCall Pd P) (now : ℕ) (a : Arrival) (turn : Course (Result (ClientAnswer Pd P) Error)) → WantsNew call → IfEnds turn (λ v. IsMadeOf call.wanted now a v) → IfSome (answer_in {X = Answer P} answers.Asked turn) AnswersNew
  begun_answer call now a Stopped wants h = tt
  begun_answer call now a Waits wants h = tt
  begun_answer call now a (Ends v) wants h = begins_new call now a wants v h

  pub none_answer : (turn : Course (Result (ClientAnswer Pd P) Error)) → IfEnds turn (λ v. ⊥) → IfSome (answer_in {X = Answer P} answers.Asked turn) AnswersNew
  none_answer Stopped h = tt
  none_answer Waits h = tt
  none_answer (Ends v) h = absurd h

  -- it still wants what it did
  pub wants_still : (old new : ClientCall Pd P) → SameJob (called {C = Pd} {P = P}).asks (called {C = Pd} {P = P}).gives new old → WantsNew old → WantsNew new
  wants_still old new job wants h b gives = wants h b (job.given h (Ok (Begun b)) gives)

  pub asked_answer : (o : Option (Answer P)) (turn : Course (Result (TxnAnswer P) Error)) (r : Result (TxnAnswer P) Error) → o ≡ answer_in answers.Called turn → turn ≡ Ends r → o ≡ Some (answers.Called r)
  asked_answer o turn r e k = e ∙ ap (λ (t : Course (Result (TxnAnswer P) Error)). answer_in {X = Answer P} answers.Called t) k

  -- what stands there is no call of a transaction, which would have come anywhere
  pub come_other : (r mid : Row P) (stand : Stand) (v : Result (TxnAnswer P) Error) → stand ≡ stand_of r → ((c x : ℕ) (b : Bool) → r ≡ row.Calling c x b → ⊥) → HasComeTo stand v mid
  come_other r mid stand v e other = subst (λ s. HasComeTo s v mid) (sym e) (by r other)
    where
      by : (r : Row P) → ((c x : ℕ) (b : Bool) → r ≡ row.Calling c x b → ⊥) → HasComeTo (stand_of r) v mid
      by row.Plain other = tt
      by (row.Client c) other = tt
      by (row.Asking c b call) other = tt
      by (row.Begun c t m) other = tt
      by (row.Calling c x b) other = absurd (other c x b refl)
      by (row.Past c) other = tt
      by (row.Working c job) other = tt

  -- what is no call of a transaction ends so too
  pub ends_other : (r : Row P) (line : ℕ) (stand : Stand) (v : Result (TxnAnswer P) Error) (from to : List Ending) → stand ≡ stand_of r → ((c x : ℕ) (b : Bool) → r ≡ row.Calling c x b → ⊥) → EndsCall line stand v from to
  ends_other r line stand v from to e other = subst (λ s. EndsCall line s v from to) (sym e) (by r other)
    where
      by : (r : Row P) → ((c x : ℕ) (b : Bool) → r ≡ row.Calling c x b → ⊥) → EndsCall line (stand_of r) v from to
      by row.Plain other = tt
      by (row.Client c) other = tt
      by (row.Asking c b call) other = tt
      by (row.Begun c t m) other = tt
      by (row.Calling c x b) other = absurd (other c x b refl)
      by (row.Past c) other = tt
      by (row.Working c job) other = tt

-- One part after another

-- no call is waited for where one has ended
settled_waits : (c : ℕ) (s : Stand) → HasSettled c s → awaited_line s ≡ 0
settled_waits c s (inl e) = ap awaited_line e
settled_waits c s (inr (inl e)) = ap awaited_line e
settled_waits c s (inr (inr e)) = ap awaited_line e

stays_quiet : (old new : Stand) (IsEnd : Outcome → Stand → Type 0) (c : ℕ) (outs : List Outcome) → awaited_line old ≡ 0 → ((o : Outcome) → IsEnd o new → HasSettled c new) → StaysOrEnds old IsEnd outs new → awaited_line new ≡ 0
stays_quiet old new IsEnd c [] quiet settles h = ap awaited_line h ∙ quiet
stays_quiet old new IsEnd c (o ∷ []) quiet settles h = settled_waits c new (settles o h)
stays_quiet old new IsEnd c (o ∷ p ∷ os) quiet settles h = absurd h

head_closes : (stand : Stand) (o : Outcome) (os zs : List Outcome) (account : Account) → closed stand (o ∷ zs) account ≡ closed stand (o ∷ os) account
head_closes Idle o os zs account = refl
head_closes (IsClient c) o os zs account = refl
head_closes (Asking c b) o os zs account = refl
head_closes (HasBegun c m) o os zs account = refl
head_closes (Calling c x b) o os zs account = refl
head_closes (Past c) o os zs account = refl
head_closes (Working c) o os zs account = refl

-- a call that did not end yet ends later as it would have
still_closes : (ended : List Ending) (m : ℕ) (old new : Stand) (outs : List Outcome) (account : Account) → outcomes_of m ended ≡ [] → LineGoes ended m old new → closed new outs account ≡ closed old outs account
still_closes ended m Idle new outs account none g = ap (λ st. closed st outs account) g.1
still_closes ended m (IsClient c) new outs account none g = ap (λ st. closed st outs account) g.1
still_closes ended m (Past c) new outs account none g = ap (λ st. closed st outs account) g.1
still_closes ended m (Working c) new outs account none g = ap (λ st. closed st outs account) g.1
still_closes ended m (HasBegun c k) new outs account none g = ap (λ st. closed st outs account) g.1
still_closes ended m (Asking c b) new outs account none g = ap (λ st. closed st outs account) (subst (λ os. StaysOrEnds (Asking c b) (AskEnds c b) os new) none g)
still_closes ended m (Calling c x b) new outs account none g = ap (λ st. closed st outs account) (subst (λ os. StaysOrEnds (Calling c x b) (CallEnds c b) os new) none g)

no_line : (s : Sight) (outs : List Outcome) (account : Account) (m : ℕ) → m ≡ 0 → closed (stand_at s.stands m) outs account ≡ account
no_line s outs account m e = ap (λ k. closed (stand_at s.stands k) outs account) e

pub closes_then : (posted : List Posting) (first more : List Ending) (old mid : Sight) (a b c : ℕ → Account) → Goes posted first old mid → AreClosed old first a b → AreClosed mid more b c → AreClosed old (first ++ more) a c
closes_then posted first more old mid a b c g f h x = by (stand_at old.stands x) refl (g.lines x)
  where
    later : (m : ℕ) → outcomes_of m (first ++ more) ≡ outcomes_of m first ++ outcomes_of m more
    later m = outcomes_after m first more

    -- it waits for no call, before and after
    quiet : awaited_line (stand_at old.stands x) ≡ 0 → awaited_line (stand_at mid.stands x) ≡ 0 → c x ≡ after_endings old (first ++ more) x (a x)
    quiet was is = h x ∙ no_line mid (outcomes_of (awaited_line (stand_at mid.stands x)) more) (b x) (awaited_line (stand_at mid.stands x)) is
        ∙ f x ∙ no_line old (outcomes_of (awaited_line (stand_at old.stands x)) first) (a x) (awaited_line (stand_at old.stands x)) was
        ∙ sym (no_line old (outcomes_of (awaited_line (stand_at old.stands x)) (first ++ more)) (a x) (awaited_line (stand_at old.stands x)) was)

    begun : (d m : ℕ) (outs : List Outcome) → stand_at old.stands x ≡ HasBegun d m → outcomes_of m first ≡ outs → stand_at mid.stands x ≡ HasBegun d (still_open m outs) → c x ≡ after_endings old (first ++ more) x (a x)
    begun d m [] e none now =
        h x ∙ ap (λ st. closed (stand_at mid.stands (awaited_line st)) (outcomes_of (awaited_line st) more) (b x)) now
        ∙ ap (closed (stand_at mid.stands m) (outcomes_of m more)) (f x ∙ ap (λ st. closed (stand_at old.stands (awaited_line st)) (outcomes_of (awaited_line st) first) (a x)) e ∙ ap (λ os. closed (stand_at old.stands m) os (a x)) none ∙ closed_none (stand_at old.stands m) (a x))
        ∙ still_closes first m (stand_at old.stands m) (stand_at mid.stands m) (outcomes_of m more) (a x) none (g.lines m)
        ∙ sym (ap (λ st. closed (stand_at old.stands (awaited_line st)) (outcomes_of (awaited_line st) (first ++ more)) (a x)) e ∙ ap (λ os. closed (stand_at old.stands m) os (a x)) (later m ∙ ap (λ os. os ++ outcomes_of m more) none))
    begun d m (o ∷ outs) e some now =
        h x ∙ ap (λ st. closed (stand_at mid.stands (awaited_line st)) (outcomes_of (awaited_line st) more) (b x)) now
        ∙ f x ∙ ap (λ st. closed (stand_at old.stands (awaited_line st)) (outcomes_of (awaited_line st) first) (a x)) e ∙ ap (λ os. closed (stand_at old.stands m) os (a x)) some
        ∙ sym (ap (λ st. closed (stand_at old.stands (awaited_line st)) (outcomes_of (awaited_line st) (first ++ more)) (a x)) e ∙ ap (λ os. closed (stand_at old.stands m) os (a x)) (later m ∙ ap (λ os. os ++ outcomes_of m more) some) ∙ head_closes (stand_at old.stands m) o outs (outs ++ outcomes_of m more) (a x))

    by : (stand : Stand) → stand_at old.stands x ≡ stand → LineGoes first x (stand_at old.stands x) (stand_at mid.stands x) → c x ≡ after_endings old (first ++ more) x (a x)
    by Idle e k = let same = subst (λ st. LineGoes first x st (stand_at mid.stands x)) e k in quiet (ap awaited_line e) (ap awaited_line same.1)
    by (IsClient d) e k = let same = subst (λ st. LineGoes first x st (stand_at mid.stands x)) e k in quiet (ap awaited_line e) (ap awaited_line same.1)
    by (Past d) e k = let same = subst (λ st. LineGoes first x st (stand_at mid.stands x)) e k in quiet (ap awaited_line e) (ap awaited_line same.1)
    by (Working d) e k = let same = subst (λ st. LineGoes first x st (stand_at mid.stands x)) e k in quiet (ap awaited_line e) (ap awaited_line same.1)
    by (Asking d f) e k = let goes = subst (λ st. LineGoes first x st (stand_at mid.stands x)) e k in
        quiet (ap awaited_line e) (stays_quiet (Asking d f) (stand_at mid.stands x) (AskEnds d f) d (outcomes_of x first) refl (λ o w. ask_settles d f o (stand_at mid.stands x) w) goes)
    by (Calling d y f) e k = let goes = subst (λ st. LineGoes first x st (stand_at mid.stands x)) e k in
        quiet (ap awaited_line e) (stays_quiet (Calling d y f) (stand_at mid.stands x) (CallEnds d f) d (outcomes_of x first) refl (λ o w. call_settles d f o (stand_at mid.stands x) w) goes)
    by (HasBegun d m) e k = let goes = subst (λ st. LineGoes first x st (stand_at mid.stands x)) e k in begun d m (outcomes_of m first) e refl goes.1
