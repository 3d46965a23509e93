-- How far a transaction has come tells of its commits, and once it is rolled back it stays so.
use Rattle.std.proofs.Common.{◌≡◌, ◌≢◌, ℕ, suc, Bool, true, false, not, ◌&&◌, List, [], ◌∷◌, Option, Some, None, length, nat_eq, refl, sym, ap, ◌∙◌, subst, arith}
use Rattle.std.proofs.lemmas.Bool.Decides.{nat_tests}
use Rattle.std.specs.Prelude.{⊤, ◌+◌, if◌then◌else◌}
use Rattle.txn_kv.specs.declared.errors.Error.{Error}
use Rattle.txn_kv.specs.declared.errors.Error.TheVariants.{OperationAfterCommitError}
use Rattle.txn_lines.specs.Lines.{line_at}
use Rattle.txn_lines.specs.declared.line.Line.{Line}
use Rattle.txn_lines.specs.declared.line.Line.TheVariants as lines
use Rattle.txn_machine.specs.Accounts.{AccountMeets, AllAccountsMeet, AnswersIn, Ask, account_of, after_line, ask_of, is_asked}
use Rattle.txn_machine.specs.Causes.{ended_of, is_skipped}
use Rattle.txn_machine.specs.Script.{outcome_of}
use Rattle.txn_machine.proofs.Numberings.{line_new, line_old, line_range}
use Rattle.txn_report.specs.declared.outcome.Outcome.{Outcome}
use Rattle.txn_report.specs.declared.outcome.Outcome.TheVariants.{Ok, Err, Unfinished, Done, Skipped}
use Rattle.txn_report.specs.declared.outcome.Payload.TheVariants.{Unit as Nothing, Commit as CommittedAt}
use Rattle.txn_side.specs.Account.{Account, Status, after_act, allows, committed_by, has_prewritten, is_refused, is_undetermined, made_by, or_refused, own_refusal, refusal, refused_unless, rolled_by, unless_refused}
use Rattle.txn_side.specs.Account.Status.{Active, Committing, StartedCommit, Undetermined, Committed, StartedRollback, RolledBack}
use Rattle.txn_lines.specs.declared.act.Act.{Act}
use Rattle.txn_lines.specs.declared.act.Act.TheVariants as acts
use Rattle.txn_run.specs.Whole.{MayBeDone}

-- a commit is at its end, with a timestamp or without one
abbrev pub IsAtEnd : Outcome → Type 0
IsAtEnd (Ok (CommittedAt version)) = ⊤
IsAtEnd o = ⊥

-- of the transaction of line x
module _ (seen : ℕ → Outcome) (ends : ℕ → ℕ) (x : ℕ) where
  -- a line that commits it came to such an outcome
  abbrev pub CommitCame : (Outcome → Type 0) → List Line → Type 0
  CommitCame P script = (n : ℕ) × (line_at script n ≡ Some (lines.Commit x)) × P (seen n)

  -- what its status tells
  abbrev pub Tells : Status → List Line → Type 0
  Tells Active script = ⊤
  Tells Committing script = CommitCame MayBeDone script
  Tells StartedCommit script = ⊤
  Tells Undetermined script = CommitCame MayBeDone script
  Tells Committed script = CommitCame IsAtEnd script
  Tells StartedRollback script = ⊤
  Tells RolledBack script = ⊤

  -- no commit line of it has the outcome of an event
  abbrev pub AreAnswers : List Line → Type 0
  AreAnswers script = (n : ℕ) → line_at script n ≡ Some (lines.Commit x) → seen n ≢ Done

  module _ (line : Line) (before : List Line) where
    there_still : (n : ℕ) (l : Line) → line_at before n ≡ Some l → line_at (line ∷ before) n ≡ Some l
    there_still n l there = let most = (line_range before n l there).1 in line_old line before n (λ e. absurd (omega arith)) ∙ there

    came_still : (P : Outcome → Type 0) → CommitCame P before → CommitCame P (line ∷ before)
    came_still P (n, there, is) = (n, there_still n (lines.Commit x) there, is)

    tells_still : (s : Status) → Tells s before → Tells s (line ∷ before)
    tells_still Active t = tt
    tells_still Committing t = came_still MayBeDone t
    tells_still StartedCommit t = tt
    tells_still Undetermined t = came_still MayBeDone t
    tells_still Committed t = came_still IsAtEnd t
    tells_still StartedRollback t = tt
    tells_still RolledBack t = tt

    -- what the line asks of it
    unless_so : (P : Status → Type 0) (r : Option Error) (old new : Account) → P old.status → P new.status → P (unless_refused r old new).status
    unless_so P None old new p q = q
    unless_so P (Some e) old new p q = p

    rolled_so : (P : Status → Type 0) (at_once : Bool) (s : Status) (o : Outcome) → P RolledBack → P StartedRollback → P s → P (rolled_by at_once s o)
    rolled_so P at_once s (Ok Nothing) rolled begun was = rolled
    rolled_so P at_once s (Err e) rolled begun was = by (is_refused at_once e)
      where
        by : (b : Bool) → P (if b then s else StartedRollback)
        by true = was
        by false = begun
    rolled_so P at_once s _ rolled begun was = begun

    committed_so : (wrote : Bool) (o : Outcome) → line ≡ lines.Commit x → seen (suc (length before)) ≡ o → o ≢ Skipped → o ≢ Done → Tells (committed_by wrote o) (line ∷ before)
    committed_so wrote o e is made answers = by wrote o is made answers
      where
        here : (P : Outcome → Type 0) (o : Outcome) → seen (suc (length before)) ≡ o → P o → CommitCame P (line ∷ before)
        here P o is p = (suc (length before), line_new line before ∙ ap Some e, subst P (sym is) p)

        by : (wrote : Bool) (o : Outcome) → seen (suc (length before)) ≡ o → o ≢ Skipped → o ≢ Done → Tells (committed_by wrote o) (line ∷ before)
        by wrote (Ok (CommittedAt (Some version))) is made answers = here IsAtEnd _ is tt
        by true (Ok (CommittedAt None)) is made answers = here IsAtEnd _ is tt
        by false (Ok (CommittedAt None)) is made answers = tt
        by wrote (Ok _) is made answers = tt
        by wrote (Err error) is made answers = known (is_undetermined error) refl
          where
            known : (b : Bool) → is_undetermined error ≡ b → Tells (if b then Undetermined else StartedCommit) (line ∷ before)
            known true f = here MayBeDone (Err error) is f
            known false f = tt
        by wrote Unfinished is made answers = here MayBeDone Unfinished is tt
        by wrote Done is made answers = absurd (answers refl)
        by wrote Skipped is made answers = absurd (made refl)

    -- the line asks it of this transaction, and is not skipped
    asked_so : (P : Status → Type 0) (y : ℕ) (old new : Account) → P old.status → (y ≡ x → is_skipped (seen (suc (length before))) ≡ false → P new.status)
        → P (if nat_eq y x && not (is_skipped (seen (suc (length before)))) then new else old).status
    asked_so P y old new p q = by (nat_eq y x) (is_skipped (seen (suc (length before)))) refl refl
      where
        by : (a b : Bool) → nat_eq y x ≡ a → is_skipped (seen (suc (length before))) ≡ b → P (if a && not b then new else old).status
        by true true e f = p
        by true false e f = q (grind (arith, nat_tests)) f
        by false b e f = p

    step_so : (now : Account) → Tells now.status before → AreAnswers (line ∷ before)
        → (act : Act) (at_once : Bool) → (act ≡ acts.Commit → line ≡ lines.Commit x) → is_skipped (seen (suc (length before))) ≡ false
        → Tells (unless_refused (refusal act now) now (made_by act at_once (seen (suc (length before))) now)).status (line ∷ before)
    step_so now was answers act at_once commits made = unless_so (λ s. Tells s (line ∷ before)) (refusal act now) now (made_by act at_once (seen (suc (length before))) now) (tells_still now.status was) (by act commits)
      where
        by : (a : Act) → (a ≡ acts.Commit → line ≡ lines.Commit x) → Tells (made_by a at_once (seen (suc (length before))) now).status (line ∷ before)
        by acts.Commit e =
            let is = e refl in
            committed_so (has_prewritten at_once now.contents) (seen (suc (length before))) is refl
            (λ f. absurd (let no = sym (ap is_skipped f) ∙ made in cc)) (answers (suc (length before)) (line_new line before ∙ ap Some is))
        by acts.Rollback e = rolled_so (λ s. Tells s (line ∷ before)) at_once now.status (seen (suc (length before))) tt tt (tells_still now.status was)
        by (acts.Put key value) e = tells_still now.status was
        by (acts.Insert key value) e = tells_still now.status was
        by (acts.Delete key) e = tells_still now.status was
        by (acts.Mutate mutations) e = tells_still now.status was
        by (acts.Lock keys) e = tells_still now.status was

  acted_so : (line : Line) (before : List Line) → Tells (account_of seen ends before x).status before → AreAnswers (line ∷ before) → (y : ℕ) (act : Act) → (y ≡ x → act ≡ acts.Commit → line ≡ lines.Commit x)
      → Tells (after_line (Some (record { transaction = y; act = act })) (suc (length before)) x (seen (suc (length before))) (ends (suc (length before))) (account_of seen ends before x)).status (line ∷ before)
  acted_so line before was answers y act commits =
      let now = account_of seen ends before x in
      let at_once = nat_eq (ends (suc (length before))) (suc (length before)) in
      asked_so line before (λ s. Tells s (line ∷ before)) y now (unless_refused (refusal act now) now (made_by act at_once (seen (suc (length before))) now)) (tells_still line before now.status was)
      (λ same made. step_so line before now was answers act at_once (commits same) made)

  -- one line more
  line_tells : (line : Line) (before : List Line) → Tells (account_of seen ends before x).status before → AreAnswers (line ∷ before) → Tells (account_of seen ends (line ∷ before) x).status (line ∷ before)
  line_tells (lines.Put y key value) before was answers = acted_so (lines.Put y key value) before was answers y (acts.Put key value) (λ same e. absurd (cc))
  line_tells (lines.Insert y key value) before was answers = acted_so (lines.Insert y key value) before was answers y (acts.Insert key value) (λ same e. absurd (cc))
  line_tells (lines.Delete y key) before was answers = acted_so (lines.Delete y key) before was answers y (acts.Delete key) (λ same e. absurd (cc))
  line_tells (lines.Mutate y mutations) before was answers = acted_so (lines.Mutate y mutations) before was answers y (acts.Mutate mutations) (λ same e. absurd (cc))
  line_tells (lines.Lock y keys) before was answers = acted_so (lines.Lock y keys) before was answers y (acts.Lock keys) (λ same e. absurd (cc))
  line_tells (lines.Commit y) before was answers = acted_so (lines.Commit y) before was answers y acts.Commit (λ same e. ap lines.Commit same)
  line_tells (lines.Rollback y) before was answers = acted_so (lines.Rollback y) before was answers y acts.Rollback (λ same e. absurd (cc))
  line_tells line before was answers = tells_still line before (account_of seen ends before x).status was

  pub stage_tells : (script : List Line) → AreAnswers script → Tells (account_of seen ends script x).status script
  stage_tells [] answers = tt
  stage_tells (line ∷ before) answers = line_tells line before (stage_tells before (λ n there. answers n (there_still line before n (lines.Commit x) there))) answers

-- Once it is rolled back each act is refused, and it stays so

forbidden : (act : Act) → allows act RolledBack ≡ false
forbidden (acts.Put key value) = refl
forbidden (acts.Insert key value) = refl
forbidden (acts.Delete key) = refl
forbidden (acts.Mutate mutations) = refl
forbidden (acts.Lock keys) = refl
forbidden acts.Commit = refl
forbidden acts.Rollback = refl

act_stays : (act : Act) (at_once : Bool) (o : Outcome) (a : Account) → a.status ≡ RolledBack → (after_act act at_once o a).status ≡ RolledBack
act_stays act at_once o a e = ap (λ (r : Option Error). (unless_refused r a (made_by act at_once o a)).status) refused ∙ e
  where
    refused : refusal act a ≡ Some OperationAfterCommitError
    refused = ap (λ (b : Bool). or_refused (refused_unless b OperationAfterCommitError) (own_refusal act a.contents)) (ap (allows act) e ∙ forbidden act)

line_stays : (ask : Option Ask) (n x : ℕ) (o : Outcome) (e : ℕ) (a : Account) → a.status ≡ RolledBack → (after_line ask n x o e a).status ≡ RolledBack
line_stays None n x o e a is = is
line_stays (Some ask) n x o e a is = by (is_asked ask x o)
  where
    by : (b : Bool) → (if b then after_act ask.act (nat_eq e n) o a else a).status ≡ RolledBack
    by true = act_stays ask.act (nat_eq e n) o a is
    by false = is

-- a rollback of it that answered ok was not refused
line_rolls : (x n : ℕ) (o : Outcome) (e : ℕ) (a : Account) → o ≡ Ok Nothing → (is_skipped o ≡ false → AnswersIn n acts.Rollback (refusal acts.Rollback a) o e) → (after_line (ask_of (lines.Rollback x)) n x o e a).status ≡ RolledBack
line_rolls x n o e a is meets =
    ap (λ (b : Bool). (if b then after_act acts.Rollback (nat_eq e n) o a else a).status) asked
    ∙ by (refusal acts.Rollback a) (meets made)
    ∙ ap (λ (p : Outcome). rolled_by (nat_eq e n) a.status p) is
  where
    made : is_skipped o ≡ false
    made = ap is_skipped is

    asked : (nat_eq x x && not (is_skipped o)) ≡ true
    asked =
        let same : nat_eq x x ≡ true = grind (arith, nat_tests) in
        (λ i. same i && not (made i))

    by : (r : Option Error) → AnswersIn n acts.Rollback r o e → (unless_refused r a (made_by acts.Rollback (nat_eq e n) o a)).status ≡ rolled_by (nat_eq e n) a.status o
    by None k = refl
    by (Some why) k = absurd (let no = sym is ∙ k.0 in cc)

-- So after a rollback that answered ok it is rolled back.
pub stays_rolled : (outs : List Outcome) (ended : List ℕ) (script : List Line) (x n : ℕ) → AllAccountsMeet outs ended script → line_at script n ≡ Some (lines.Rollback x) → outcome_of outs n ≡ Ok Nothing
    → (account_of (λ m. outcome_of outs m) (λ m. ended_of ended m) script x).status ≡ RolledBack
stays_rolled outs ended [] x n all there answered = absurd (cc)
stays_rolled outs ended (line ∷ before) x n all there answered = by (nat_eq (length before + 1) n) refl (λ f. stays_rolled outs ended before x n all.1 f answered) there
  where
    a : Account
    a = account_of (λ m. outcome_of outs m) (λ m. ended_of ended m) before x

    newest : ℕ
    newest = length (line ∷ before)

    by : (b : Bool) → nat_eq (length before + 1) n ≡ b → (line_at before n ≡ Some (lines.Rollback x) → a.status ≡ RolledBack) → (if b then Some line else line_at before n) ≡ Some (lines.Rollback x)
        → (after_line (ask_of line) newest x (outcome_of outs newest) (ended_of ended newest) a).status ≡ RolledBack
    by false q earlier f = line_stays (ask_of line) newest x (outcome_of outs newest) (ended_of ended newest) a (earlier f)
    by true q earlier f =
        let same : line ≡ lines.Rollback x = cc in
        let number : n ≡ newest = grind (arith, nat_tests) in
        let ok : outcome_of outs newest ≡ Ok Nothing = subst (λ m. outcome_of outs m ≡ Ok Nothing) number answered in
        subst (λ (l : Line). (after_line (ask_of l) newest x (outcome_of outs newest) (ended_of ended newest) a).status ≡ RolledBack) (sym same)
        (line_rolls x newest (outcome_of outs newest) (ended_of ended newest) a ok (subst (λ (l : Line). AccountMeets (λ y. account_of (λ m. outcome_of outs m) (λ m. ended_of ended m) before y) newest (ask_of l) (outcome_of outs newest) (ended_of ended newest)) same all.0))
