-- From a history that clients can have arisen from to transactions that are whole.
use Rattle.std.proofs.Common.{◌≡◌, ◌≢◌, inl, inr, zero, suc, ℕ, Bool, true, false, List, [], ◌∷◌, Option, Some, None, length, nat_eq, refl, sym, ap, ◌∙◌, subst, arith}
use Rattle.std.proofs.lemmas.Bool.Decides.{nat_tests}
use Rattle.std.specs.Prelude.{◌<◌, ◌+◌, if◌then◌else◌, is_some}
use Rattle.txn_kv.specs.Timestamp.{version_of}
use Rattle.txn_kv.specs.declared.request.Request.TheVariants.{BatchRollback, Commit, PessimisticLock}
use Rattle.txn_kv.specs.declared.reply.Reply.TheVariants as replies
use Rattle.txn_history.specs.Among.{IsAmong}
use Rattle.txn_history.specs.Event.{Event, Has}
use Rattle.txn_history.specs.Event.Event.{Sent, Took}
use Rattle.txn_history.specs.Licence.{PrimaryCommitted, PrimaryRolledBack}
use Rattle.txn_history.specs.Plan.{Content, Key, Plan, has_key, key_eq}
use Rattle.txn_history.specs.Plan.Way.{TwoPhases}
use Rattle.txn_history.specs.Posted.{Posted}
use Rattle.txn_law.specs.Run.{IsOptimistic, IsRun, store_after}
use Rattle.txn_law.specs.Whole.{FitsAnswers, HasCommit, IsAbsent, IsWholeAt, PrimaryServed}
use Rattle.txn_law.proofs.Apart.{law_between}
use Rattle.txn_law.proofs.Kept.{kept}
use Rattle.txn_law.proofs.Origins.{law_no_lock_left}
use Rattle.txn_law.proofs.Unlocked.{law_recorded, law_unlocked}
use Rattle.txn_law.proofs.Wholes.{law_above, law_by_primary, law_fits, law_named, law_served}
use Rattle.txn_model.specs.Cells.{cell_at}
use Rattle.txn_model.specs.Store.{Store}
use Rattle.txn_model.specs.declared.cell.Cell.{Cell}
use Rattle.txn_commit.specs.Ways.{Ways}
use Rattle.txn_commit.specs.Following.{KnowsCommits, or_first, undetermined}
use Rattle.txn_commit.specs.Parts.{parts_of}
use Rattle.txn_commit.specs.Plans.{only_key}
use Rattle.txn_commit.specs.Sending.{plan_of}
use Rattle.txn_commit.specs.declared.commit_parts.CommitParts.{CommitParts}
use Rattle.txn_core.specs.Going.{AreUndone, IsAtWork}
use Rattle.txn_core.specs.Status.{allows_data, has_turned_back}
use Rattle.txn_core.specs.Transaction.{Standing, has_given_up, is_open, locks_nothing}
use Rattle.txn_core.specs.declared.status.Status.{Status}
use Rattle.txn_core.specs.declared.status.Status.TheVariants.{ReadOnly, Active, Committed, StartedCommit, Rolledback, StartedRollback, Dropped}
use Rattle.txn_core.specs.declared.transaction.Work.{Work}
use Rattle.txn_core.specs.declared.transaction.Work.TheVariants as works
use Rattle.txn_kv.specs.declared.ticket.Ticket.{Ticket}
use Rattle.txn_lines.specs.Lines.{line_at}
use Rattle.txn_lines.specs.declared.begin_options.BeginOptions.{BeginOptions}
use Rattle.txn_lines.specs.declared.line.Line.{Line}
use Rattle.txn_lines.specs.declared.line.Line.TheVariants as lines
use Rattle.txn_machine.specs.Accounts.{AccountsMeetLines}
use Rattle.txn_machine.specs.Arising.{AllHold, HoldsBy}
use Rattle.txn_machine.specs.Causes.{Role, TellsLines, answers, ended_of, role_of}
use Rattle.txn_machine.specs.Causes.Role.{AsksTime, UsesTransaction}
use Rattle.txn_machine.specs.Rows.{IsRow, outcome_in, role_in, stand_in}
use Rattle.txn_machine.specs.Rows.{Row as Kind}
use Rattle.txn_machine.specs.Rows.Row.{Acted, AskFailed, AskSkipped, AskWaits, Begun, CallFailed, CallSkipped, CallWaits, Happened, Made, Over, Timed, Works}
use Rattle.txn_machine.specs.Script.{FoldsLines, history, outcome_of}
use Rattle.txn_machine.proofs.Numberings.{has_line, line_range}
use Rattle.txn_report.specs.declared.outcome.Outcome.{Outcome}
use Rattle.txn_report.specs.declared.outcome.Outcome.TheVariants as outcomes
use Rattle.txn_report.specs.declared.outcome.Payload.TheVariants.{Number, Commit as CommittedAt}
use Rattle.txn_report.specs.declared.report.Report.{Report}
use Rattle.txn_side.specs.Account.{Account, allows_write, Status as Stage}
use Rattle.txn_side.specs.Sight.{Stand, stand_at}
use Rattle.txn_side.specs.Sight.Stand.{HasBegun, Idle}
use Rattle.txn_trace.specs.Seeing.{seen}
use Rattle.txn_trace.proofs.Seen.{had_seen, seen_had, seen_runs}
use Rattle.txn_clients.specs.Accounts.{account_at, account_of, stage_by}
use Rattle.txn_clients.specs.Accounts.{account_in as account_in_row}
use Rattle.txn_clients.specs.Arising.{BeganAt as StartsAt}
use Rattle.txn_clients.specs.Arising.{Arisen, HasPlan, HasStart, HavePlans, HoldsAt, IsCommittedSo, IsCommittedUnlocked, RowFits, StandFits}
use Rattle.txn_clients.specs.Clients.{nexts_of, row_at, rows_of, stands_of}
use Rattle.txn_clients.specs.Growing.{plans_found, plans_in}
use Rattle.txn_clients.specs.Rows.{stand_of}
use Rattle.txn_clients.specs.Waiting.{asks_of, posted_at, voice_at}
use Rattle.txn_clients.proofs.Doubting.{prewrite_names}
use Rattle.txn_clients.proofs.Tables.{stand_read}
use Rattle.txn_clients.specs.declared.clients.Clients.{Clients}
use Rattle.txn_clients.specs.declared.row.Row.{Row}
use Rattle.txn_clients.specs.declared.row.Row.TheVariants as row
use Rattle.txn_run.specs.Behind.{AreBehind}
use Rattle.txn_run.specs.Licensed.{AreLicensed, ArePlansOf}
use Rattle.txn_run.specs.Settled.{AreSettled, IsFreeOf, IsRolledBackAt}
use Rattle.txn_run.specs.Whole.{AreWhole, BeganAt, CommitAnswered, CommitAnsweredNone, FitsCommits, IsAlone, MayBeDone, MayHaveCommitted, RollbackAnswered, account_in}
use Rattle.txn_run.proofs.ServedOnce.{done_unrefused}
use Rattle.txn_run.proofs.Stages.{CommitCame, IsAtEnd, Tells, stage_tells, stays_rolled}
use Rattle.txn_run.proofs.Unlocked.{unlocked_never}

-- A plan that writes nothing

abbrev no_plan : Plan
no_plan = record { primary = []; ops = λ k. None; writes = λ k. None; way = TwoPhases; one_phase = false }

nothing_written : (x : Content) → None ≡ Some x → ⊥
nothing_written x e = cc

-- nothing is whole by it
never_whole : (cells : List Cell) (s c : ℕ) → IsWholeAt no_plan cells s c → ⊥
never_whole cells s c w = elim w.decided [
  | inl p ↦ nothing_written _ (w.others [] p.1.write p.1.among p.1.start).1
  | inr spread ↦ nothing_written spread.greatest.1 spread.greatest.2
]

-- it is the plan of this start, beside the others
abbrev without : ℕ → (ℕ → Plan) → ℕ → Plan
without v plans n = if nat_eq n v then no_plan else plans n

without_own : (v : ℕ) (plans : ℕ → Plan) → without v plans v ≡ no_plan
without_own v plans = by (nat_eq v v) refl
  where
    by : (b : Bool) → nat_eq v v ≡ b → (if b then no_plan else plans v) ≡ no_plan
    by true e = refl
    by false e = absurd (grind (arith, nat_tests))

without_other : (v n : ℕ) (plans : ℕ → Plan) → n ≢ v → without v plans n ≡ plans n
without_other v n plans apart = by (nat_eq n v) refl
  where
    by : (b : Bool) → nat_eq n v ≡ b → (if b then no_plan else plans n) ≡ plans n
    by true e = absurd (apart (grind (arith, nat_tests)))
    by false e = refl

-- What stands at a line, and what it answered

none_some : {X : Type 0} (x : X) → None ≡ Some x → ⊥
none_some x e = cc

some_same : {X : Type 0} {a b : X} → Some a ≡ Some b → a ≡ b
some_same e = cc

-- what is held of all lines is held of each
held_at : (holds : ℕ → Outcome → Type 0) (outs : List Outcome) (script : List Line) (n : ℕ) (line : Line) → AllHold holds outs script → line_at script n ≡ Some line → HoldsBy holds n (role_of line) (outcome_of outs n)
held_at holds outs [] n line all e = absurd (none_some line e)
held_at holds outs (l ∷ before) n line all e = by (nat_eq (length before + 1) n) refl e (λ f. held_at holds outs before n line all.1 f)
  where
    by : (b : Bool) → nat_eq (length before + 1) n ≡ b → (if b then Some l else line_at before n) ≡ Some line
        → (line_at before n ≡ Some line → HoldsBy holds n (role_of line) (outcome_of outs n)) → HoldsBy holds n (role_of line) (outcome_of outs n)
    by true q f later =
        let same : l ≡ line = cc in
        let number : length (l ∷ before) ≡ n = grind (arith, nat_tests) in
        subst (λ k. HoldsBy holds k (role_of line) (outcome_of outs k)) number (subst (λ x. HoldsBy holds (length (l ∷ before)) (role_of x) (outcome_of outs (length (l ∷ before)))) same all.0)
    by false q f later = later f

-- A transaction that is written no more has turned to its commit or its rollback.

is_closed : (status : Status) (busy doubtful : Bool) → allows_write (stage_by status busy doubtful) ≡ false → allows_data status ≡ false
is_closed ReadOnly busy doubtful e = absurd (cc)
is_closed Active busy doubtful e = absurd (cc)
is_closed Committed busy doubtful e = refl
is_closed StartedCommit busy doubtful e = refl
is_closed Rolledback busy doubtful e = refl
is_closed StartedRollback busy doubtful e = refl
is_closed Dropped busy doubtful e = refl

is_unwritten : (status : Status) (busy doubtful : Bool) → allows_data status ≡ false → allows_write (stage_by status busy doubtful) ≡ false
is_unwritten ReadOnly busy doubtful e = absurd (cc)
is_unwritten Active busy doubtful e = absurd (cc)
is_unwritten Committed busy doubtful e = refl
is_unwritten StartedCommit true doubtful e = refl
is_unwritten StartedCommit false true e = refl
is_unwritten StartedCommit false false e = refl
is_unwritten Rolledback busy doubtful e = refl
is_unwritten StartedRollback busy doubtful e = refl
is_unwritten Dropped busy doubtful e = refl

-- What a machine says of a line

module _ (role : Role) (o : Outcome) (stand : Stand) where
  -- a line that answered the start of a transaction has one
  row_begins : (k v : ℕ) → role ≡ AsksTime true k → o ≡ outcomes.Ok (Number v) → IsRow role o stand → (c : ℕ) × (m : ℕ) × (stand ≡ HasBegun c m)
  row_begins k v asks answers r = by r.row (r.is ∙ asks) (r.outcome ∙ answers) r.at
    where
      by : (x : Kind) → role_in x ≡ AsksTime true k → outcome_in x ≡ outcomes.Ok (Number v) → stand_in x ≡ stand → (c : ℕ) × (m : ℕ) × (stand ≡ HasBegun c m)
      by (Made c) a b e = absurd (cc)
      by (AskWaits d j c) a b e = absurd (cc)
      by (Begun j u c m) a b e = (c, m, sym e)
      by (Timed j u c) a b e = absurd (cc)
      by (AskFailed d j c why) a b e = absurd (cc)
      by (AskSkipped d j) a b e = absurd (cc)
      by (CallWaits d x c) a b e = absurd (cc)
      by (Acted x c) a b e = absurd (cc)
      by (Over x u c) a b e = absurd (cc)
      by (Works x u c) a b e = absurd (cc)
      by (CallFailed d x c why) a b e = absurd (cc)
      by (CallSkipped d x) a b e = absurd (cc)
      by (Happened d) a b e = absurd (cc)

  -- and where a transaction stands, the line answered its start
  begun_line : (c m : ℕ) → stand ≡ HasBegun c m → IsRow role o stand → (k : ℕ) × (v : ℕ) × (role ≡ AsksTime true k) × (o ≡ outcomes.Ok (Number v))
  begun_line c m stands r = by r.row (sym r.is) (sym r.outcome) (r.at ∙ stands)
    where
      by : (x : Kind) → role ≡ role_in x → o ≡ outcome_in x → stand_in x ≡ HasBegun c m → (k : ℕ) × (v : ℕ) × (role ≡ AsksTime true k) × (o ≡ outcomes.Ok (Number v))
      by (Made d) a b e = absurd (cc)
      by (AskWaits f j d) a b e = absurd (cc)
      by (Begun j u d n) a b e = (j, u, a, b)
      by (Timed j u d) a b e = absurd (cc)
      by (AskFailed f j d why) a b e = absurd (cc)
      by (AskSkipped f j) a b e = absurd (cc)
      by (CallWaits f x d) a b e = absurd (cc)
      by (Acted x d) a b e = absurd (cc)
      by (Over x u d) a b e = absurd (cc)
      by (Works x u d) a b e = absurd (cc)
      by (CallFailed f x d why) a b e = absurd (cc)
      by (CallSkipped f x) a b e = absurd (cc)
      by (Happened f) a b e = absurd (cc)

-- such a line begins a transaction
is_begin : (line : Line) (k : ℕ) → role_of line ≡ AsksTime true k → (options : BeginOptions) × (line ≡ lines.Begin k options)
is_begin (lines.Begin client options) k e = let same : client ≡ k = cc in (options, ap (λ c. lines.Begin c options) same)
is_begin lines.Blank k e = absurd (cc)
is_begin lines.Client k e = absurd (cc)
is_begin (lines.Timestamp client) k e = absurd (cc)
is_begin (lines.Put x key value) k e = absurd (cc)
is_begin (lines.Insert x key value) k e = absurd (cc)
is_begin (lines.Delete x key) k e = absurd (cc)
is_begin (lines.Mutate x mutations) k e = absurd (cc)
is_begin (lines.Lock x keys) k e = absurd (cc)
is_begin (lines.Commit x) k e = absurd (cc)
is_begin (lines.Rollback x) k e = absurd (cc)
is_begin (lines.Serve t) k e = absurd (cc)
is_begin (lines.Answer t) k e = absurd (cc)
is_begin (lines.Deliver t) k e = absurd (cc)
is_begin (lines.Lose t) k e = absurd (cc)
is_begin (lines.Busy t) k e = absurd (cc)
is_begin (lines.Wake t) k e = absurd (cc)
is_begin (lines.Split key) k e = absurd (cc)
is_begin (lines.Lead region store) k e = absurd (cc)
is_begin (lines.Clock ms) k e = absurd (cc)
is_begin (lines.Crash client) k e = absurd (cc)

-- what is known of Commits, where none was lost and each was refused
none_left : (lost : Option Ticket) (out : List Ticket) → or_first lost out ≡ None → (lost ≡ None) × (out ≡ [])
none_left (Some t) out e = absurd (none_some t (sym e))
none_left None (t ∷ ts) e = absurd (none_some t (sym e))
none_left None [] e = (refl, refl)

-- The clients behind a report

module _ {P : Type 0} (w : Ways P) (script : List Line) (report : Report) (s : Clients P) (askers : Ticket → List ℕ) (h : List Event)
    (shows : seen h ≡ history report.sent report.outcomes script) (arisen : Arisen w s askers [] h)
    (held : AllHold (λ x o. HoldsAt (rows_of s) (history report.sent report.outcomes script) x o) report.outcomes script)
    (accounts : (x : ℕ) → account_at (rows_of s) x ≡ account_in script report x)
    (stood : (n : ℕ) (line : Line) → line_at script n ≡ Some line → IsRow (role_of line) (outcome_of report.outcomes n) (stand_at (stands_of (rows_of s)) n))
    (none : (n : ℕ) → line_at script n ≡ None → stand_at (stands_of (rows_of s)) n ≡ Idle)
    (folds : report.store ≡ store_after (history report.sent report.outcomes script))
    (plans : ℕ → Plan) (are : HavePlans plans (rows_of s))
    (apart : (i j v : ℕ) → HasStart v (row_at (rows_of s) i) → HasStart v (row_at (rows_of s) j) → i ≡ j)
    (undone : (n x : ℕ) → line_at script n ≡ Some (lines.Commit x) → outcome_of report.outcomes n ≢ outcomes.Done)
    (accounted : AccountsMeetLines script report) where
  abbrev shown : List Event
  shown = history report.sent report.outcomes script

  abbrev cells : List Cell
  cells = report.store.cells

  fits : (some : ℕ → Plan) → HavePlans some (rows_of s) → (v : ℕ) → FitsAnswers (some v) shown cells v
  fits some have v =
      subst (λ (st : Store). FitsAnswers (some v) shown st.cells v) (sym folds)
      (law_fits some shown (subst (IsRun some) shows (seen_runs some h (arisen.run some have))) v)

  -- Where no plan is asked of a start, nothing of it is there.
  abbrev IsFree : ℕ → Type 0
  IsFree v = (i : ℕ) → HasStart v (row_at (rows_of s) i) → (some : ℕ → Plan) → HasPlan some (row_at (rows_of s) i)

  still_planned : (v i : ℕ) → IsFree v → HasPlan (without v plans) (row_at (rows_of s) i)
  still_planned v i free = by (row_at (rows_of s) i) (are i) (free i)
    where
      by : (r : Row P) → HasPlan plans r → (HasStart v r → (some : ℕ → Plan) → HasPlan some r) → HasPlan (without v plans) r
      by row.Plain has unbound = tt
      by (row.Client c) has unbound = tt
      by (row.Asking c b call) has unbound = tt
      by (row.Begun c t m) has unbound = at (nat_eq (version_of t.start) v) refl
        where
          at : (b : Bool) → nat_eq (version_of t.start) v ≡ b → HasPlan {P = P} (without v plans) (row.Begun c t m)
          at true e = unbound (grind (arith, nat_tests)) (without v plans)
          at false e = λ closed parts is. without_other v (version_of t.start) plans (λ same. grind (arith, nat_tests)) ∙ has closed parts is
      by (row.Calling c x b) has unbound = tt
      by (row.Past c) has unbound = tt
      by (row.Working c job) has unbound = tt

  nothing_there : (v : ℕ) → IsFree v → IsAbsent cells v
  nothing_there v free = elim (fits (without v plans) (λ i. still_planned v i free) v) [
    | inl a ↦ a.0
    | inr b ↦ absurd (never_whole cells v b.0 (subst (λ (p : Plan). IsWholeAt p cells v b.0) (without_own v plans) b.1))
  ]

  -- The line of a transaction

  row_here : (i : ℕ) → stand_at (stands_of (rows_of s)) (suc i) ≡ stand_of (row_at (rows_of s) i)
  row_here i = stand_read (rows_of s) i

  -- where a transaction stands its line answered its start
  line_began : (i v : ℕ) → HasStart v (row_at (rows_of s) i) → BeganAt script report (suc i) v
  line_began i v start = by (row_at (rows_of s) i) refl start
    where
      by : (r : Row P) → row_at (rows_of s) i ≡ r → HasStart v r → BeganAt script report (suc i) v
      by (row.Begun c t m) e is = elim (has_line script (suc i)) [
        | inl missing ↦ absurd (let idle = sym (none (suc i) missing) ∙ row_here i ∙ ap stand_of e in cc)
        | inr (line, there) ↦
            let r = begun_line (role_of line) (outcome_of report.outcomes (suc i)) (stand_at (stands_of (rows_of s)) (suc i)) c m (row_here i ∙ ap stand_of e) (stood (suc i) line there) in
            let b = is_begin line r.0 r.2 in
            let says : HoldsBy (λ x o. HoldsAt (rows_of s) shown x o) (suc i) (role_of line) (outcome_of report.outcomes (suc i)) = held_at (λ x o. HoldsAt (rows_of s) shown x o) report.outcomes script (suc i) line held there in
            let version : version_of t.start ≡ r.1 = began_at r.0 r.1 (role_of line) (outcome_of report.outcomes (suc i)) r.2 r.3 says in
            (r.0, b.0, there ∙ ap Some b.1, r.3 ∙ ap (λ n. outcomes.Ok (Number n)) (sym version ∙ is))
      ]
        where
          began_at : (k u : ℕ) (role : Role) (o : Outcome) → role ≡ AsksTime true k → o ≡ outcomes.Ok (Number u) → HoldsBy (λ x o. HoldsAt (rows_of s) shown x o) (suc i) role o → version_of t.start ≡ u
          began_at k u role o a b says =
              subst (λ (r : Row P). StartsAt u r) e
              (subst (λ (p : Outcome). HoldsBy (λ x o. HoldsAt (rows_of s) shown x o) (suc i) (AsksTime true k) p) b (subst (λ (z : Role). HoldsBy (λ x o. HoldsAt (rows_of s) shown x o) (suc i) z o) a says))
      by row.Plain e is = absurd is
      by (row.Client c) e is = absurd is
      by (row.Asking c b call) e is = absurd is
      by (row.Calling c x b) e is = absurd is
      by (row.Past c) e is = absurd is
      by (row.Working c job) e is = absurd is

  -- and a line that answered a start has its transaction
  pub record Stands (x v : ℕ) : Type 0 where
    pub place : ℕ
    pub is : x ≡ suc place
    pub client : ℕ
    pub transaction : Standing P
    pub waits : ℕ
    pub here : row_at (rows_of s) place ≡ row.Begun client transaction waits
    pub start : version_of transaction.start ≡ v

  stands : (x v : ℕ) → BeganAt script report x v → Stands x v
  stands zero v (client, options, there, answered) = absurd (let r = line_range script 0 (lines.Begin client options) there in omega (arith, r.0))
  stands (suc i) v (client, options, there, answered) =
      let r = row_begins (role_of (lines.Begin client options)) (outcome_of report.outcomes (suc i)) (stand_at (stands_of (rows_of s)) (suc i)) client v refl answered (stood (suc i) (lines.Begin client options) there) in
      by r.0 r.1 (row_at (rows_of s) i) refl (sym (row_here i) ∙ r.2)
    where
      by : (c m : ℕ) (r : Row P) → row_at (rows_of s) i ≡ r → stand_of (row_at (rows_of s) i) ≡ HasBegun c m → Stands (suc i) v
      by c m (row.Begun d t n) e at = record {
        place = i;
        is = refl;
        client = d;
        transaction = t;
        waits = n;
        here = e;
        start = subst (StartsAt v) e (subst (λ (o : Outcome). HoldsBy (λ x o. HoldsAt (rows_of s) shown x o) (suc i) (AsksTime true client) o) answered (held_at (λ x o. HoldsAt (rows_of s) shown x o) report.outcomes script (suc i) (lines.Begin client options) held there));
      }
      by c m row.Plain e at = absurd (let no = sym (ap stand_of e) ∙ at in cc)
      by c m (row.Client d) e at = absurd (let no = sym (ap stand_of e) ∙ at in cc)
      by c m (row.Asking d b call) e at = absurd (let no = sym (ap stand_of e) ∙ at in cc)
      by c m (row.Calling d x b) e at = absurd (let no = sym (ap stand_of e) ∙ at in cc)
      by c m (row.Past d) e at = absurd (let no = sym (ap stand_of e) ∙ at in cc)
      by c m (row.Working d job) e at = absurd (let no = sym (ap stand_of e) ∙ at in cc)

  -- What a commit answered

  ended_at : (i n : ℕ) (o : Outcome) → line_at script n ≡ Some (lines.Commit (suc i)) → outcome_of report.outcomes n ≡ o → HoldsBy (λ x o. HoldsAt (rows_of s) shown x o) n (UsesTransaction true (suc i)) o
  ended_at i n o there answered =
      subst (λ (p : Outcome). HoldsBy (λ x o. HoldsAt (rows_of s) shown x o) n (UsesTransaction true (suc i)) p) answered (held_at (λ x o. HoldsAt (rows_of s) shown x o) report.outcomes script n (lines.Commit (suc i)) held there)

  committed_at : (i n d : ℕ) → CommitAnswered script report (suc i) n d → IsCommittedSo shown d (row_at (rows_of s) i)
  committed_at i n d (there, answered) = ended_at i n _ there answered

  unlocked_at : (i n : ℕ) → line_at script n ≡ Some (lines.Commit (suc i)) → outcome_of report.outcomes n ≡ outcomes.Ok (CommittedAt None) → IsCommittedUnlocked (row_at (rows_of s) i)
  unlocked_at i n there answered = ended_at i n _ there answered

  module _ (x v : ℕ) (k : Stands x v) where
    abbrev t : Standing P
    t = k.transaction

    starts : HasStart v (row_at (rows_of s) k.place)
    starts = subst (λ (r : Row P). HasStart v r) (sym k.here) k.start

    commits : (n d : ℕ) → CommitAnswered script report x n d → IsCommittedSo shown d (row.Begun k.client t k.waits)
    commits n d c = subst (λ (r : Row P). IsCommittedSo shown d r) k.here (committed_at k.place n d (subst (λ y. CommitAnswered script report y n d) k.is c))

    unlocks : (n : ℕ) → line_at script n ≡ Some (lines.Commit x) → outcome_of report.outcomes n ≡ outcomes.Ok (CommittedAt None) → IsCommittedUnlocked (row.Begun k.client t k.waits)
    unlocks n there answered = subst (λ (r : Row P). IsCommittedUnlocked r) k.here (unlocked_at k.place n (subst (λ y. line_at script n ≡ Some (lines.Commit y)) k.is there) answered)

    account_is : account_of t ≡ account_in script report x
    account_is =
        sym (ap (λ (r : Row P). account_in_row r) k.here)
        ∙ subst (λ y. account_at (rows_of s) y ≡ account_in script report x) k.is (accounts x)

    contents_are : t.contents ≡ (account_in script report x).contents
    contents_are = ap (λ (a : Account). a.contents) account_is

    -- where it is still written, or has nothing to commit, no plan is asked of it
    unbound : ((parts : CommitParts) → allows_data t.status ≡ false → parts_of t.contents ≡ Some parts → ⊥) → FitsCommits script report x v
    unbound never = inl (
      nothing_there v free,
      λ n d c. let q = commits n d c in never q.0 q.1 q.2,
    )
      where
        free : IsFree v
        free i start some = subst (λ (r : Row P). HasPlan some r) (sym (ap (λ j. row_at (rows_of s) j) (apart i k.place v start starts) ∙ k.here)) (λ closed parts is. absurd (never parts closed is))

    shown_run : IsRun plans shown
    shown_run = subst (IsRun plans) shows (seen_runs plans h (arisen.run plans are))

    planned_so : (parts : CommitParts) → allows_data t.status ≡ false → parts_of t.contents ≡ Some parts → plans v ≡ plan_of parts
    planned_so parts closed is = ap plans (sym k.start) ∙ subst (λ (r : Row P). HasPlan plans r) k.here (are k.place) closed parts is

    -- what is whole in the report is so by the law
    whole_there : (parts : CommitParts) → plans v ≡ plan_of parts → (c : ℕ) → IsWholeAt (plan_of parts) cells v c → IsWholeAt (plans v) (store_after shown).cells v c
    whole_there parts planned c whole = subst (λ (st : Store). IsWholeAt (plans v) st.cells v c) folds (subst (λ (p : Plan). IsWholeAt p cells v c) (sym planned) whole)

    abbrev own : Posted
    own = posted_at (nexts_of s) (asks_of s) (voice_at (rows_of s) k.place)

    stand_fits : StandFits w t own h
    stand_fits = subst (λ (r : Row P). RowFits w (rows_of s) own h r) k.here (arisen.rows k.place)

    -- Where it is whole, some commit of it may have done that.
    module _ (parts : CommitParts) (closed : allows_data t.status ≡ false) (is : parts_of t.contents ≡ Some parts) (c : ℕ) (whole : IsWholeAt (plan_of parts) cells v c) where
      -- what is known of the Commits of its primary
      knows : (g : Work P) → t.work ≡ g → KnowsCommits (plan_of parts) v t.commits h
      knows g e = subst (λ u. KnowsCommits (plan_of parts) u t.commits h) k.start (by g (subst (λ (y : Work P). IsAtWork w t.options.retry_options t.start t.status t.contents t.commits y own h) e stand_fits.1.at) (sym (ap has_given_up e) ∙ stand_fits.2))
        where
          by : (g : Work P) → IsAtWork w t.options.retry_options t.start t.status t.contents t.commits g own h → has_given_up g ≡ false → KnowsCommits (plan_of parts) (version_of t.start) t.commits h
          by works.Idle at lives = (at.of_parts parts is).knows
          by (works.Open call) at lives = subst (λ (p : CommitParts). KnowsCommits (plan_of p) (version_of t.start) t.commits h) (some_same (sym at.whole ∙ is)) (subst (λ u. KnowsCommits (plan_of call.parts) (version_of u) t.commits h) at.own at.fits.knows)
          by works.GaveUp at lives = absurd (cc)

      served : PrimaryServed (plan_of parts) shown v c
      served =
          let planned = planned_so parts closed is in
          subst (λ (p : Plan). PrimaryServed p shown v c) planned
          (law_served plans shown shown_run v c (ap (λ (p : Plan). p.way) planned) (ap (λ (p : Plan). p.one_phase) planned) (whole_there parts planned c whole))

      -- a Commit of its primary was lost, or is not refused
      never_settled : undetermined t.commits ≡ None → ⊥
      never_settled none = elim ((knows t.work refl).all served.ticket served.request sent (record { start = served.start; primary = served.primary })) [
        | inl refused ↦ done_unrefused plans shown shown_run served.ticket served.request served.request served.response served.served served.fine served.says (refused.0, subst (λ es. Has es (Took served.ticket (Commit served.request) refused.0)) shows (had_seen h _ tt refused.1), refused.2)
        | inr left ↦ elim left [ inl lost ↦ lost settled.0 | inr out ↦ subst (λ ts. IsAmong ts served.ticket) settled.1 out ]
      ]
        where
          settled : (t.commits.lost ≡ None) × (t.commits.out ≡ [])
          settled = none_left t.commits.lost t.commits.out none

          sent : Has h (Sent served.ticket (Commit served.request))
          sent = (seen_had h _ (subst (λ es. Has es (Sent served.ticket (Commit served.request))) (sym shows) ((kept plans shown shown_run).sent served.ticket (Commit served.request) _ served.served))).0

      tells : (status : Status) (busy doubtful : Bool) → t.status ≡ status → is_open t.work ≡ busy → is_some (undetermined t.commits) ≡ doubtful → Tells (λ n. outcome_of report.outcomes n) (λ n. ended_of report.ended n) x (stage_by status busy doubtful) script
      tells status busy doubtful e f g =
          subst (λ a. Tells (λ n. outcome_of report.outcomes n) (λ n. ended_of report.ended n) x a script) (sym (ap (λ (a : Account). a.status) account_is) ∙ (λ i. stage_by (e i) (f i) (g i)))
          (stage_tells (λ n. outcome_of report.outcomes n) (λ n. ended_of report.ended n) x script (λ n there. undone n x there))

      -- one that is at its end answered a timestamp, since it locks some key
      timed : CommitCame (λ n. outcome_of report.outcomes n) (λ n. ended_of report.ended n) x IsAtEnd script → MayHaveCommitted script report x
      timed (n, there, ended) = (n, there, by (outcome_of report.outcomes n) refl ended)
        where
          by : (o : Outcome) → outcome_of report.outcomes n ≡ o → IsAtEnd o → MayBeDone o
          by (outcomes.Ok (CommittedAt (Some d))) e at = tt
          by (outcomes.Ok (CommittedAt None)) e at = absurd (unlocked_never t.contents parts cells v c is (unlocks n there e).1 whole)
          by _ e at = absurd at

      may_have_committed : MayHaveCommitted script report x
      may_have_committed = by t.status refl
        where
          started : (busy : Bool) (left : Option Ticket) → is_open t.work ≡ busy → undetermined t.commits ≡ left → t.status ≡ StartedCommit → MayHaveCommitted script report x
          started true left f g e = tells StartedCommit true (is_some left) e f (ap is_some g)
          started false (Some u) f g e = tells StartedCommit false true e f (ap is_some g)
          started false None f g e = absurd (never_settled g)

          by : (status : Status) → t.status ≡ status → MayHaveCommitted script report x
          by ReadOnly e = absurd (let no = sym (ap allows_data e) ∙ closed in cc)
          by Active e = absurd (let no = sym (ap allows_data e) ∙ closed in cc)
          by Committed e = timed (tells Committed (is_open t.work) (is_some (undetermined t.commits)) e refl refl)
          by StartedCommit e = started (is_open t.work) (undetermined t.commits) refl refl e
          by Rolledback e = absurd (never_settled (stand_fits.1.settled (ap has_turned_back e)))
          by StartedRollback e = absurd (never_settled (stand_fits.1.settled (ap has_turned_back e)))
          by Dropped e = timed (tells Dropped (is_open t.work) (is_some (undetermined t.commits)) e refl refl)

    bound : (parts : CommitParts) → allows_data t.status ≡ false → parts_of t.contents ≡ Some parts → FitsCommits script report x v
    bound parts closed is = elim (subst (λ (p : Plan). FitsAnswers p shown cells v) planned (fits plans are v)) [
      | inl a ↦ inl (a.0, λ n d c. let q = commits n d c in a.1 d (inl (same_plan d q)))
      | inr b ↦ inr (
        b.0,
        record { parts = parts; wrote = sym (ap parts_of contents_are) ∙ is; whole = b.1; primary = primary b.0 b.1; above = above b.0 b.1; alone = alone b.0 b.1 },
        (λ n d c. let q = commits n d c in b.2 d (inl (same_plan d q))),
        may_have_committed parts closed is b.0 b.1,
      )
    ]
      where
        planned : plans v ≡ plan_of parts
        planned = planned_so parts closed is

        optimistic : IsOptimistic shown v
        optimistic u r sent start = arisen.optimistic u r (seen_had h (Sent u (PessimisticLock r)) (subst (λ es. Has es (Sent u (PessimisticLock r))) (sym shows) sent)).0

        alone : (c : ℕ) → IsWholeAt (plan_of parts) cells v c → IsAlone (plan_of parts) cells v c
        alone c whole = subst (λ (p : Plan). IsAlone p cells v c) planned (subst (λ (st : Store). IsAlone (plans v) st.cells v c) (sym folds)
            (law_between plans shown shown_run v c optimistic (whole_there parts planned c whole)))

        above : (c : ℕ) → IsWholeAt (plan_of parts) cells v c → v < c
        above c whole = law_above plans shown shown_run v c
            (law_named plans shown shown_run v c (ap (λ (p : Plan). p.way) planned) (ap (λ (p : Plan). p.one_phase) planned) (whole_there parts planned c whole))

        -- it commits in two phases, so its primary holds the commit
        primary : (c : ℕ) → IsWholeAt (plan_of parts) cells v c → (x : Content) × HasCommit (cell_at cells parts.primary) v c x
        primary c whole = subst (λ (p : Plan). (x : Content) × HasCommit (cell_at cells p.primary) v c x) planned
            (subst (λ (st : Store). (x : Content) × HasCommit (cell_at st.cells (plans v).primary) v c x) (sym folds)
            (law_by_primary plans shown shown_run v c (ap (λ (p : Plan). p.way) planned) (whole_there parts planned c whole)))

        same_plan : (d : ℕ) → IsCommittedSo {P = P} shown d (row.Begun k.client t k.waits) → PrimaryCommitted (plan_of parts) shown v d
        same_plan d q =
            let one : q.0 ≡ parts = some_same (sym q.2 ∙ is) in
            subst (λ (p : CommitParts). PrimaryCommitted (plan_of p) shown v d) one (subst (λ u. PrimaryCommitted (plan_of q.0) shown u d) k.start q.3)

    fits_commits : FitsCommits script report x v
    fits_commits = by (allows_data t.status) refl (parts_of t.contents) refl
      where
        by : (b : Bool) → allows_data t.status ≡ b → (p : Option CommitParts) → parts_of t.contents ≡ p → FitsCommits script report x v
        by true e p f = unbound (λ parts closed is. let no = sym e ∙ closed in cc)
        by false e None f = unbound (λ parts closed is. none_some parts (sym f ∙ is))
        by false e (Some parts) f = bound parts e f

    contents_wrote : (parts : CommitParts) → parts_of (account_in script report x).contents ≡ Some parts → parts_of t.contents ≡ Some parts
    contents_wrote parts wrote = ap parts_of contents_are ∙ wrote

    -- no commit is there of one that locked no key
    answered_none : (n : ℕ) → CommitAnsweredNone script report x n → (locks_nothing (account_in script report x).contents ≡ true) × IsAbsent cells v
    answered_none n (there, answered) =
        let nothing = (unlocks n there answered).1 in (
          sym (ap locks_nothing contents_are) ∙ nothing,
          elim fits_commits [
            | inl a ↦ a.0
            | inr b ↦ absurd (unlocked_never t.contents b.1.parts cells v b.0 (contents_wrote b.1.parts b.1.wrote) nothing b.1.whole)
          ],
        )

    -- a rollback that was answered is the end of it
    turned : (n : ℕ) → RollbackAnswered script report x n → t.status ≡ Rolledback
    turned n (there, answered) = status t.status (is_open t.work) (is_some (undetermined t.commits)) stage
      where
        stage : stage_by t.status (is_open t.work) (is_some (undetermined t.commits)) ≡ Stage.RolledBack
        stage = ap (λ (a : Account). a.status) account_is ∙ stays_rolled report.outcomes report.ended script x n accounted there answered

        -- no other status is told so
        status : (s : Status) (busy doubtful : Bool) → stage_by s busy doubtful ≡ Stage.RolledBack → s ≡ Rolledback
        status Rolledback busy doubtful e = refl
        status ReadOnly busy doubtful e = absurd (cc)
        status Active busy doubtful e = absurd (cc)
        status Committed busy doubtful e = absurd (cc)
        status StartedCommit true doubtful e = absurd (cc)
        status StartedCommit false true e = absurd (cc)
        status StartedCommit false false e = absurd (cc)
        status StartedRollback busy doubtful e = absurd (cc)
        status Dropped busy doubtful e = absurd (cc)

    -- nor is a commit there of one that is rolled back
    rolled_back : (n : ℕ) → RollbackAnswered script report x n → IsAbsent cells v
    rolled_back n answered = elim fits_commits [
      | inl a ↦ a.0
      | inr b ↦ absurd (never b.1.parts (contents_wrote b.1.parts b.1.wrote) b.0 b.1.whole)
    ]
      where
        never : (parts : CommitParts) → parts_of t.contents ≡ Some parts → (c : ℕ) → IsWholeAt (plan_of parts) cells v c → ⊥
        never parts is c whole =
            let closed : allows_data t.status ≡ false = ap allows_data (turned n answered) in
            never_settled parts closed is c whole (stand_fits.1.settled (ap has_turned_back (turned n answered)))

  pub are_whole : AreWhole script report
  are_whole = record {
    each = λ x v began. fits_commits x v (stands x v began);
    rolled = λ x v n began answered. rolled_back x v (stands x v began) n answered;
    unlocked = λ x v n began answered. answered_none x v (stands x v began) n answered;
    apart = λ x y v one other. let a = stands x v one in let b = stands y v other in a.is ∙ ap suc (apart a.place b.place v (starts x v a) (starts y v b)) ∙ sym b.is;
    others = λ v never. nothing_there v (λ i start some. absurd (never (suc i) (line_began i v start)));
  }

  -- What was sent, and what was answered

  all_run : IsRun plans shown
  all_run = subst (IsRun plans) shows (seen_runs plans h (arisen.run plans are))

  -- plans of what the lines wrote are plans of the transactions behind them
  have_plans : (any : ℕ → Plan) → ArePlansOf any script report → HavePlans any (rows_of s)
  have_plans any like i = by (row_at (rows_of s) i) refl
    where
      by : (r : Row P) → row_at (rows_of s) i ≡ r → HasPlan any r
      by row.Plain e = tt
      by (row.Client c) e = tt
      by (row.Asking c b call) e = tt
      by (row.Begun c t m) e = λ closed parts is.
          let account : account_of t ≡ account_in script report (suc i) = sym (ap (λ (r : Row P). account_in_row r) e) ∙ accounts (suc i) in
          like (suc i) (version_of t.start) (line_began i (version_of t.start) (subst (λ (r : Row P). HasStart (version_of t.start) r) (sym e) refl)) parts (
            sym (ap (λ (a : Account). allows_write a.status) account) ∙ is_unwritten t.status (is_open t.work) (is_some (undetermined t.commits)) closed,
            sym (ap (λ (a : Account). parts_of a.contents) account) ∙ is,
          )
      by (row.Calling c x b) e = tt
      by (row.Past c) e = tt
      by (row.Working c job) e = tt

  -- and the other way round
  of_lines : ArePlansOf plans script report
  of_lines x v began parts closed =
      let k = stands x v began in
      let t = k.transaction in
      planned_so x v k parts (is_closed t.status (is_open t.work) (is_some (undetermined t.commits)) (ap (λ (a : Account). allows_write a.status) (account_is x v k) ∙ closed.0)) (contents_wrote x v k parts closed.1)

  pub are_licensed : AreLicensed script report
  are_licensed = record {
    plans = plans;
    are = of_lines;
    run = λ any of_any. subst (IsRun any) shows (seen_runs any h (arisen.run any (have_plans any of_any)));
    named = λ x v began parts closed t r sent start. prewrite_names plans shown t r all_run sent ∙ ap (λ u. (plans u).primary) start ∙ ap (λ (p : Plan). p.primary) (of_lines x v began parts closed);
  }

  -- what stands in the store of the run stands in the report
  free_there : (k : Key) (v : ℕ) → IsFreeOf (cell_at (store_after shown).cells k) v → IsFreeOf (cell_at cells k) v
  free_there k v free = subst (λ (st : Store). IsFreeOf (cell_at st.cells k) v) (sym folds) free

  -- a key of a BatchRollback that was answered
  rolled_there : (v : ℕ) (k : Key) → PrimaryRolledBack (only_key k) h v → IsRolledBackAt (cell_at cells k) v
  rolled_there v k (t, r, o, took, fine, same, named) =
      let there : Has shown (Took t (BatchRollback r) (replies.BatchRollback o)) = subst (λ es. Has es (Took t (BatchRollback r) (replies.BatchRollback o))) shows (had_seen h _ tt took) in
      subst (λ u. IsRolledBackAt (cell_at cells k) u) same (subst (λ (st : Store). IsRolledBackAt (cell_at st.cells k) r.start_version) (sym folds) (law_recorded plans shown all_run t r o there fine k named))

  undone_there : (v : ℕ) (parts : CommitParts) → AreUndone v parts h → parts.locks ≡ true → (k : Key) → has_key (parts.primary ∷ parts.secondaries) k ≡ true → IsRolledBackAt (cell_at cells k) v
  undone_there v parts (inl none) locks k named = absurd (let no = sym none ∙ locks in cc)
  undone_there v parts (inr (primary, others)) locks k named = by (key_eq parts.primary k) refl named
    where
      by : (b : Bool) → key_eq parts.primary k ≡ b → has_key (parts.primary ∷ parts.secondaries) k ≡ true → IsRolledBackAt (cell_at cells k) v
      by true e f = rolled_there v k (primary k (rw e refl))
      by false e f = rolled_there v k (others k (rw e at f))

  pub are_settled : AreSettled script report
  are_settled = record {
    committed = λ t r o took fine k has. free_there k r.start_version (law_unlocked plans shown all_run t r o took fine k has);
    rolled = λ t r o took fine k has.
        subst (λ (st : Store). IsRolledBackAt (cell_at st.cells k) r.start_version) (sym folds) (law_recorded plans shown all_run t r o took fine k has);
    none_left = λ x v began parts closed each k.
        free_there k v (law_no_lock_left plans shown all_run v
        (λ key c writes. each key c (sym (ap (λ (p : Plan). p.writes key) (of_lines x v began parts closed)) ∙ writes))
        (λ key unwritten. inl (λ u q o served locks. arisen.optimistic u q (seen_had h (Sent u (PessimisticLock q)) (subst (λ es. Has es (Sent u (PessimisticLock q))) (sym shows) ((kept plans shown all_run).sent u (PessimisticLock q) o served))).0))
        k);
    undone = λ x v n began answered parts closed locks.
        let k = stands x v began in
        undone_there v parts (subst (λ u. AreUndone u parts h) k.start ((stand_fits x v k).1.undone (turned x v k n answered) parts (contents_wrote x v k parts closed.1))) locks;
  }

-- So it is where clients that can have arisen from the lines are behind the report.
pub lines_hold : {P : Type 0} (w : Ways P) (script : List Line) (report : Report)
    → AreBehind w script report → FoldsLines script report → TellsLines script report → AccountsMeetLines script report → AreWhole script report × AreLicensed script report × AreSettled script report
lines_hold w script report a folds told accounted = let now = a.arisen.now in (
  are_whole w script report a.clients now.1 now.2 now.3 now.4 a.arisen.answers a.taken a.rows a.none folds.store (plans_in (rows_of a.clients)) (plans_found (rows_of a.clients) now.4.apart) now.4.apart undone accounted,
  are_licensed w script report a.clients now.1 now.2 now.3 now.4 a.arisen.answers a.taken a.rows a.none folds.store (plans_in (rows_of a.clients)) (plans_found (rows_of a.clients) now.4.apart) now.4.apart undone accounted,
  are_settled w script report a.clients now.1 now.2 now.3 now.4 a.arisen.answers a.taken a.rows a.none folds.store (plans_in (rows_of a.clients)) (plans_found (rows_of a.clients) now.4.apart) now.4.apart undone accounted,
)
  where
    undone : (n x : ℕ) → line_at script n ≡ Some (lines.Commit x) → outcome_of report.outcomes n ≢ outcomes.Done
    undone n x there done = let kind = told.kinds n (lines.Commit x) there in let no = sym (ap (answers (UsesTransaction true x)) done) ∙ kind in absurd (cc)
