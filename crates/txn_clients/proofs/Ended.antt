-- What clients can have arisen from, as calls begin and end and no event comes.
use Rattle.std.proofs.Common.{◌≡◌, ◌≢◌, ◌⊎◌, inl, inr, ℕ, zero, suc, ◌-◌, ◌<◌, ◌≤◌, Bool, true, false, List, [], ◌∷◌, ◌++◌, length, set, Some, None, refl, sym, ap, ◌∙◌, subst, arith, append-nil, length-set}
use Rattle.std.proofs.lemmas.List.Elements.{All-cons, All-nil}
use Rattle.std.specs.Prelude.{⊤, Result, Ok, Err}
use Rattle.txn_kv.specs.Timestamp.{version_of}
use Rattle.txn_kv.specs.declared.errors.Error.{Error}
use Rattle.txn_kv.specs.declared.ticket.Ticket.{Ticket}
use Rattle.txn_kv.specs.declared.timestamp.Timestamp.{Timestamp}
use Rattle.txn_history.specs.Event.{Event}
use Rattle.txn_history.specs.Plan.{Plan}
use Rattle.txn_history.specs.Posted.{Posted, Within, Within-refl}
use Rattle.txn_buffer.specs.Contents.{Contents}
use Rattle.txn_commit.specs.Ways.{Ways}
use Rattle.txn_commit.specs.Following.{Commits}
use Rattle.txn_commit.specs.declared.secondary_job.SecondaryJob.{SecondaryJob}
use Rattle.txn_merge.specs.declared.retry_options.RetryOptions.{RetryOptions}
use Rattle.txn_core.specs.Going.{IsAtWork, IsUncommitted, TransactionFits, TransactionGives}
use Rattle.txn_core.specs.Transaction.{Standing, begun, is_open}
use Rattle.txn_core.specs.declared.options.TransactionOptions.{TransactionOptions}
use Rattle.txn_core.specs.declared.transaction.Work.{Work}
use Rattle.txn_core.specs.declared.transaction.Work.TheVariants as work
use Rattle.txn_core.specs.declared.txn_answer.TxnAnswer.{TxnAnswer}
use Rattle.txn_core.specs.declared.txn_answer.TxnAnswer.TheVariants as answer
use Rattle.txn_core.proofs.Ordered.{begun_fits}
use Rattle.txn_client.specs.declared.client_answer.ClientAnswer.{ClientAnswer}
use Rattle.txn_client.specs.declared.client_answer.ClientAnswer.TheVariants.{Begun, Time}
use Rattle.txn_client.specs.declared.client_call.ClientCall.{ClientCall}
use Rattle.txn_report.specs.declared.outcome.Outcome.{Outcome}
use Rattle.txn_report.specs.declared.outcome.Outcome.TheVariants as outcomes
use Rattle.txn_report.specs.declared.outcome.Payload.TheVariants as payloads
use Rattle.txn_side.specs.Arising.{answered_at}
use Rattle.txn_side.specs.Sight.{next_at, stand_at}
use Rattle.txn_side.specs.Sight.Stand.{Asking, Calling, HasBegun, Idle}
use Rattle.txn_side.specs.declared.turn.Ending.{Ending}
use Rattle.txn_side.specs.declared.turn.Posting.{Posting}
use Rattle.txn_side.specs.Doubt.{CallOf, itself}
use Rattle.txn_trace.specs.Answering.{OracleFits}
use Rattle.txn_trace.specs.Drawing.{IsDrawn}
use Rattle.txn_trace.specs.Posting.{IsFreshFor}
use Rattle.txn_trace.specs.Seeing.{seen}
use Rattle.txn_trace.proofs.Drawn.{draw_given, draws_line}
use Rattle.txn_tso.specs.Oracle.{Answer as Answered}
use Rattle.txn_clients.specs.Accounts.{outcome_by}
use Rattle.txn_clients.specs.Arising.{AnswerArises, Anyhow, Arisen, BeganAt, CallCame, EndSpeaks, HasPlan, HasStart, HavePlans, HoldsAt, HoldsOf, IsBehind, IsCommittedSo, IsCommittedUnlocked, KeepRight, Leads, LeadsEnded, RowFits, SpeaksRight, StandFits, heard_by, oracle_of, ticket_or}
use Rattle.txn_clients.specs.Clients.{nexts_of, row_at, rows_of, stands_of}
use Rattle.txn_clients.specs.Ended.{AskLeaves, CallLeaves}
use Rattle.txn_clients.specs.Growing.{committed_grows, drawn_apart, plans_in, some_run, suc_same}
use Rattle.txn_clients.specs.Matching.{IsLine}
use Rattle.txn_clients.specs.Rows.{Pd, Rests, stand_of, with_waits}
use Rattle.txn_clients.specs.Waiting.{Book, IsNewAnswer, asks_of, posted_at, voice, voice_at}
use Rattle.txn_clients.specs.declared.answer.Answer.TheVariants as answers
use Rattle.txn_clients.specs.declared.clients.Clients.{Clients}
use Rattle.txn_clients.specs.declared.row.Row.{Row}
use Rattle.txn_clients.specs.declared.row.Row.TheVariants as row
use Rattle.txn_clients.proofs.Marking.{no_mark}
use Rattle.txn_clients.proofs.Chaining.{kept_then}
use Rattle.txn_clients.proofs.Doubting.{speaks_line, speaks_own, speaks_waits}
use Rattle.txn_clients.proofs.Going.{none_ordered}
use Rattle.txn_clients.proofs.Settling.{books_same, row_within}
use Rattle.txn_clients.proofs.Stands.{line_of, or_other, or_same, same_line}
use Rattle.txn_clients.proofs.Tables.{stand_of_line}
use Rattle.txn_clients.proofs.Telling.{hears_own, stands_at}

-- One row is replaced

module _ {P : Type 0} where
  -- what holds of each row, where one is set
  pub at_set : (Holds : ℕ → Row P → Type 0) (rows : List (Row P)) (at : ℕ) (r : Row P) → at < length rows → Holds at r → ((i : ℕ) → i ≢ at → Holds i (row_at rows i)) → (i : ℕ) → Holds i (row_at (set rows at r) i)
  at_set Holds rows at r h here there i = by (same_line at i)
    where
      by : (i ≡ at) ⊎ (i ≢ at) → Holds i (row_at (set rows at r) i)
      by (inl same) = subst (Holds i) (sym (ap (row_at (set rows at r)) same ∙ or_same rows at r row.Plain h)) (subst (λ j. Holds j r) (sym same) here)
      by (inr apart) = subst (Holds i) (sym (or_other rows at i r row.Plain apart)) (there i apart)

  -- and what held of each before
  pub at_unset : (Holds : ℕ → Row P → Type 0) (rows : List (Row P)) (at : ℕ) (r : Row P) → at < length rows → (Holds at r → Holds at (row_at rows at)) → ((i : ℕ) → Holds i (row_at (set rows at r) i)) → (i : ℕ) → Holds i (row_at rows i)
  at_unset Holds rows at r h back all i = by (same_line at i)
    where
      by : (i ≡ at) ⊎ (i ≢ at) → Holds i (row_at rows i)
      by (inl same) = subst (λ j. Holds j (row_at rows j)) (sym same) (back (subst (Holds at) (or_same rows at r row.Plain h) (all at)))
      by (inr apart) = subst (Holds i) (or_other rows at i r row.Plain apart) (all i)

  -- What stands at a place takes the place of what stood there: it has no plan that the other has not, its start was drawn for its line, and
  -- the other's start is its own.
  pub record Replaces (w : Ways P) (askers : Ticket → List ℕ) (h : List Event) (at : ℕ) (old new : Row P) : Type 0 where
    pub plan : (plans : ℕ → Plan) → HasPlan plans new → HasPlan plans old
    pub start : (v : ℕ) → HasStart v old → HasStart v new
    pub drawn : (v : ℕ) → HasStart v new → IsDrawn askers h (suc at) v
    pub behind : (job : SecondaryJob P) (o : Posted) → IsBehind w job o h old → IsBehind w job o h new

  -- nothing stands there, or a call that has not ended
  abbrev pub IsUnended : Row P → Type 0
  IsUnended row.Plain = ⊤
  IsUnended (row.Client c) = ⊥
  IsUnended (row.Asking c b call) = ⊤
  IsUnended (row.Begun c t m) = ⊥
  IsUnended (row.Calling c x b) = ⊤
  IsUnended (row.Past c) = ⊥
  IsUnended (row.Working c job) = ⊥

  unended_plan : (plans : ℕ → Plan) (r : Row P) → IsUnended r → HasPlan plans r
  unended_plan plans (row.Begun c t m) u = absurd u
  unended_plan plans r u = tt

  pub unended_start : (v : ℕ) (r : Row P) → IsUnended r → HasStart v r → ⊥
  unended_start v (row.Begun c t m) u x = u
  unended_start v r u x = x

  unended_behind : (w : Ways P) (job : SecondaryJob P) (o : Posted) (h : List Event) (r : Row P) → IsUnended r → IsBehind w job o h r → ⊥
  unended_behind w job o h (row.Begun c t m) u x = u
  unended_behind w job o h r u x = x

  unended_began : (v : ℕ) (r : Row P) → IsUnended r → BeganAt v r → ⊥
  unended_began v (row.Begun c t m) u x = u
  unended_began v (row.Past c) u x = u
  unended_began v r u x = x

  unended_committed : (h : List Event) (v : ℕ) (r : Row P) → IsUnended r → IsCommittedSo h v r → ⊥
  unended_committed h v (row.Begun c t m) u x = u
  unended_committed h v r u x = x

  unended_unlocked : (r : Row P) → IsUnended r → IsCommittedUnlocked r → ⊥
  unended_unlocked (row.Begun c t m) u x = u
  unended_unlocked r u x = x

  pub unended_replaced : (w : Ways P) (askers : Ticket → List ℕ) (h : List Event) (at : ℕ) (old new : Row P) → IsUnended old → ((v : ℕ) → HasStart v new → IsDrawn askers h (suc at) v) → Replaces w askers h at old new
  unended_replaced w askers h at old new u drawn = record {
    plan = λ plans x. unended_plan plans old u;
    start = λ v x. absurd (unended_start v old u x);
    drawn = drawn;
    behind = λ job o x. absurd (unended_behind w job o h old u x);
  }

  -- a transaction waits for another line
  pub waits_replaced : (w : Ways P) (askers : Ticket → List ℕ) (h : List Event) (at n : ℕ) (r : Row P) → ((v : ℕ) → HasStart v r → IsDrawn askers h (suc at) v) → Replaces w askers h at r (with_waits n r)
  waits_replaced w askers h at n (row.Begun c t m) drawn = record { plan = λ plans x. x; start = λ v x. x; drawn = drawn; behind = λ job o x. x }
  waits_replaced w askers h at n r drawn = record { plan = λ plans x. x; start = λ v x. x; drawn = drawn; behind = λ job o x. x }

  module _ (w : Ways P) where
    fits_in : (rows news : List (Row P)) (h : List Event) → ((i : ℕ) (job : SecondaryJob P) (o : Posted) → IsBehind w job o h (row_at rows i) → IsBehind w job o h (row_at news i)) → (o : Posted) (r : Row P) → RowFits w rows o h r → RowFits w news o h r
    fits_in rows news h f o (row.Working c job) x = (x.0, f x.0 job o x.1)
    fits_in rows news h f o r x = x

    -- the clients can still have arisen from the history
    pub arisen_set : (s t : Clients P) (askers : Ticket → List ℕ) (rest : List Answered) (h : List Event) (at : ℕ) (r : Row P) → at < length (rows_of s) → rows_of t ≡ set (rows_of s) at r → nexts_of t ≡ nexts_of s → asks_of t ≡ asks_of s → t.clients ≡ s.clients
        → Replaces w askers h at (row_at (rows_of s) at) r → RowFits w (set (rows_of s) at r) (posted_at (nexts_of s) (asks_of s) (voice at (stand_of r))) h r → Arisen w s askers rest h → Arisen w t askers rest h
    arisen_set s t askers rest h at r within rows nexts asks clients x fits a = record {
      run = λ plans have. a.run plans (at_unset (λ i y. HasPlan plans y) (rows_of s) at r within (x.plan plans) (subst (HavePlans plans) rows have));
      apart = λ i j v b d. suc_same i j (draws_line (plans_in (rows_of s)) h (some_run w s askers rest h a) askers (suc i) (suc j) v (starts i v b) (starts j v d));
      rows = λ i.
          subst (λ ns. RowFits w (rows_of t) (posted_at ns (asks_of t) (voice_at (rows_of t) i)) h (row_at (rows_of t) i)) (sym nexts)
          (subst (λ ns. RowFits w (rows_of t) (posted_at (nexts_of s) ns (voice_at (rows_of t) i)) h (row_at (rows_of t) i)) (sym asks)
          (subst (λ rs. RowFits w rs (posted_at (nexts_of s) (asks_of s) (voice_at rs i)) h (row_at rs i)) (sym rows)
          (at_set (λ j y. RowFits w new (posted_at (nexts_of s) (asks_of s) (voice j (stand_of y))) h y) (rows_of s) at r within fits (λ j apart. fits_in (rows_of s) new h behind _ (row_at (rows_of s) j) (a.rows j)) i)));
      oracles = λ c. subst (λ (b : Book). OracleFits (oracle_of b) (ticket_or b.ticket) h) (sym (books_same s t clients c)) (a.oracles c);
      fresh = λ n. subst (λ ns. IsFreshFor n false (next_at ns n) (next_at (asks_of t) n) h) (sym nexts) (subst (λ ns. IsFreshFor n false (next_at (nexts_of s) n) (next_at ns n) h) (sym asks) (a.fresh n));
      draws = record {
        starts = starts;
        groups = λ c u group e f. a.draws.groups c u group (ap (λ (b : Book). b.ticket) (sym (books_same s t clients c)) ∙ e) (ap (λ (b : Book). b.out) (sym (books_same s t clients c)) ∙ f);
        given = a.draws.given;
      };
      answerable = a.answerable;
      owned = λ u q has. let own = a.owned u q has in (own.0, subst (λ rs. HasStart q.start_version (row_at rs own.0)) (sym rows) (start_in own.0 q.start_version own.1));
      optimistic = a.optimistic;
    }
      where
        new : List (Row P)
        new = set (rows_of s) at r

        starts : (i v : ℕ) → HasStart v (row_at (rows_of t) i) → IsDrawn askers h (suc i) v
        starts i v b = at_set (λ j y. HasStart v y → IsDrawn askers h (suc j) v) (rows_of s) at r within (x.drawn v) (λ j apart. a.draws.starts j v) i (subst (λ rs. HasStart v (row_at rs i)) rows b)

        start_in : (i v : ℕ) → HasStart v (row_at (rows_of s) i) → HasStart v (row_at new i)
        start_in i v = at_set (λ j y. HasStart v (row_at (rows_of s) j) → HasStart v y) (rows_of s) at r within (x.start v) (λ j apart b. b) i

        behind : (i : ℕ) (job : SecondaryJob P) (o : Posted) → IsBehind w job o h (row_at (rows_of s) i) → IsBehind w job o h (row_at new i)
        behind i job o = at_set (λ j y. IsBehind w job o h (row_at (rows_of s) j) → IsBehind w job o h y) (rows_of s) at r within (x.behind job o) (λ j apart b. b) i

    -- no Commit was sent of what is drawn for a line at which no transaction stands
    uncommitted : (s : Clients P) (askers : Ticket → List ℕ) (rest : List Answered) (h : List Event) (line v : ℕ) → 1 ≤ line → IsUnended (row_at (rows_of s) (line - 1)) → Arisen w s askers rest h → IsDrawn askers h line v → IsUncommitted v h
    uncommitted s askers rest h line v one u a d ticket q has same =
        let own = a.owned ticket q has in
        let start : HasStart v (row_at (rows_of s) own.0) = subst (λ n. HasStart n (row_at (rows_of s) own.0)) same own.1 in
        let place = drawn_apart w s askers rest h (line - 1) own.0 v a (subst (λ n. IsDrawn askers h n v) (sym (hears_own line one)) d) start in
        unended_start v (row_at (rows_of s) (line - 1)) u (subst (λ i. HasStart v (row_at (rows_of s) i)) (sym place) start)

    -- Between calls it waits for nothing that a line posts.

    rest_fits : (t : Standing P) (o p : Posted) (h : List Event) → is_open t.work ≡ false → TransactionFits w t o h → TransactionFits w t p h
    rest_fits t o p h rests f = record { given = f.given; unsent = f.unsent; settled = f.settled; undone = f.undone; at = by t.work rests f.at }
      where
        by : (g : Work P) → is_open g ≡ false → IsAtWork w t.options.retry_options t.start t.status t.contents t.commits g o h → IsAtWork w t.options.retry_options t.start t.status t.contents t.commits g p h
        by work.Idle e x = x
        by (work.Open call) e x = absurd (cc)
        by work.GaveUp e x = tt

    pub rest_row : (n c m : ℕ) (rows news : List (Row P)) (o p : Posted) (h : List Event) (r : Row P) → stand_of r ≡ HasBegun c m → Rests r → RowFits w rows o h r → RowFits w news p h (with_waits n r)
    rest_row n c m rows news o p h row.Plain e rests x = tt
    rest_row n c m rows news o p h (row.Client d) e rests x = tt
    rest_row n c m rows news o p h (row.Asking d b call) e rests x = absurd (no e)
      where
        no : Asking d b ≡ HasBegun c m → ⊥
        no f = cc
    rest_row n c m rows news o p h (row.Begun d t i) e rests x = (x.0, rest_fits t o p h rests x.1, x.2, x.3)
    rest_row n c m rows news o p h (row.Calling d y b) e rests x = tt
    rest_row n c m rows news o p h (row.Past d) e rests x = tt
    rest_row n c m rows news o p h (row.Working d job) e rests x = absurd (cc)

-- What was right stays so

module _ {P : Type 0} where
  right_by : (o : Outcome) (h longer : List Event) (old new : Row P) → ((v : ℕ) → BeganAt v old → BeganAt v new) → ((v : ℕ) → IsCommittedSo h v old → IsCommittedSo longer v new) → (IsCommittedUnlocked old → IsCommittedUnlocked new) → HoldsOf h o old → HoldsOf longer o new
  right_by (outcomes.Ok (payloads.Number v)) h longer old new f g u x = f v x
  right_by (outcomes.Ok (payloads.Commit (Some v))) h longer old new f g u x = g v x
  right_by (outcomes.Ok (payloads.Commit None)) h longer old new f g u x = u x
  right_by o h longer old new f g u x = tt

  pub right_set : (rows : List (Row P)) (at : ℕ) (r : Row P) → at < length rows → ((v : ℕ) → BeganAt v (row_at rows at) → BeganAt v r) → ((h longer : List Event) (v : ℕ) → Within h longer → IsCommittedSo h v (row_at rows at) → IsCommittedSo longer v r) → (IsCommittedUnlocked (row_at rows at) → IsCommittedUnlocked r) → KeepRight rows (set rows at r)
  right_set rows at r h began committed unlocked zero o k longer within x = tt
  right_set rows at r h began committed unlocked (suc i) o k longer within x =
      at_set (λ j y. HoldsOf k o (row_at rows j) → HoldsOf longer o y) rows at r h
      (right_by o k longer (row_at rows at) r began (λ v. committed k longer v within) unlocked)
      (λ j apart. right_by o k longer (row_at rows j) (row_at rows j) (λ v y. y) (λ v. committed_grows k longer v (row_at rows j) within) (λ y. y)) i x

  -- where nothing had ended
  pub right_unended : (rows : List (Row P)) (at : ℕ) (r : Row P) → at < length rows → IsUnended (row_at rows at) → KeepRight rows (set rows at r)
  right_unended rows at r h u = right_set rows at r h (λ v x. absurd (unended_began v (row_at rows at) u x)) (λ k longer v within x. absurd (unended_committed k v (row_at rows at) u x)) (λ x. absurd (unended_unlocked (row_at rows at) u x))

  waits_began : (n v : ℕ) (r : Row P) → BeganAt v r → BeganAt v (with_waits n r)
  waits_began n v (row.Begun c t m) x = x
  waits_began n v r x = x

  pub waits_committed : (n : ℕ) (h : List Event) (v : ℕ) (r : Row P) → IsCommittedSo h v r → IsCommittedSo h v (with_waits n r)
  waits_committed n h v (row.Begun c t m) x = x
  waits_committed n h v r x = x

  waits_unlocked : (n : ℕ) (r : Row P) → IsCommittedUnlocked r → IsCommittedUnlocked (with_waits n r)
  waits_unlocked n (row.Begun c t m) x = x
  waits_unlocked n r x = x

  waits_behind : (w : Ways P) (n : ℕ) (job : SecondaryJob P) (o : Posted) (h : List Event) (r : Row P) → IsBehind w job o h r → IsBehind w job o h (with_waits n r)
  waits_behind w n job o h (row.Begun c t m) x = x
  waits_behind w n job o h r x = x

  pub right_waits : (rows : List (Row P)) (at n : ℕ) → at < length rows → KeepRight rows (set rows at (with_waits n (row_at rows at)))
  right_waits rows at n h = right_set rows at (with_waits n (row_at rows at)) h (λ v. waits_began n v (row_at rows at)) (λ k longer v within x. waits_committed n longer v (row_at rows at) (committed_grows k longer v (row_at rows at) within x)) (waits_unlocked n (row_at rows at))

  pub holds_line : (rows : List (Row P)) (h : List Event) (line : ℕ) (o : Outcome) → 1 ≤ line → HoldsOf h o (row_at rows (line - 1)) → HoldsAt rows h line o
  holds_line rows h line o one x = subst (λ n. HoldsAt rows h n o) (hears_own line one) x

-- Calls end

module _ {P : Type 0} (w : Ways P) where
  -- what stands there once a call for a timestamp has ended
  pub record Leaves (askers : Ticket → List ℕ) (h : List Event) (line : ℕ) (r : Row P) (o : Outcome) : Type 0 where
    pub drawn : (v : ℕ) → HasStart v r → IsDrawn askers h line v
    pub fits : (rows : List (Row P)) (p : Posted) → RowFits w rows p h r
    pub right : HoldsOf h o r

  begun_leaves : (askers : Ticket → List ℕ) (h : List Event) (line c : ℕ) (b : Standing P) (options : TransactionOptions) (now : ℕ) → b ≡ begun b.start options now → IsDrawn askers h line (version_of b.start) → IsUncommitted (version_of b.start) h → Leaves askers h line (row.Begun c b 0) (outcomes.Ok (payloads.Number (version_of b.start)))
  begun_leaves askers h line c b options now e drawn never = record {
    drawn = λ v same. subst (IsDrawn askers h line) same drawn;
    fits = λ rows p. subst (λ (y : Standing P). StandFits w y p h) (sym e) (none_ordered _, begun_fits w b.start options now p h (draw_given askers h line (version_of b.start) drawn) never, refl, λ parts whole u lost. no_mark u lost);
    right = refl;
  }

  past_leaves : (askers : Ticket → List ℕ) (h : List Event) (line c : ℕ) (r : Row P) (o : Outcome) → r ≡ row.Past c → HoldsOf {P = P} h o (row.Past c) → Leaves askers h line r o
  past_leaves askers h line c r o e right = subst (λ y. Leaves askers h line y o) (sym e) (record { drawn = λ v x. absurd x; fits = λ rows p. tt; right = right })

  ask_leaves : (askers : Ticket → List ℕ) (h : List Event) (line c : ℕ) (v : Result (ClientAnswer Pd P) Error) (r : Row P) (o : Outcome) → AskLeaves c v r o → IsNewAnswer {P = P} (answers.Asked v) → AnswerArises w ⊥ askers line row.Plain (Some (answers.Asked v)) h
      → ((n : ℕ) → IsDrawn askers h line n → IsUncommitted n h) → Leaves askers h line r o
  ask_leaves askers h line c (Ok (Begun b)) r o (e, f) (options, now, new) came never =
      subst (λ y. Leaves askers h line y o) (sym e) (subst (Leaves askers h line (row.Begun c b 0)) (sym f) (begun_leaves askers h line c b options now new came (never (version_of b.start) came)))
  ask_leaves askers h line c (Ok (Time t)) r o (e, f) new came never = past_leaves askers h line c r o e (subst (λ y. HoldsOf {P = P} h y (row.Past c)) (sym f) tt)
  ask_leaves askers h line c (Err why) r o (e, f) new came never = past_leaves askers h line c r o e (subst (λ y. HoldsOf {P = P} h y (row.Past c)) (sym f) tt)

  -- one call ends
  ended_one : (askers : Ticket → List ℕ) (rest : List Answered) (s t : Clients P) (h : List Event) (line : ℕ) (x : CallOf) (o : Outcome) (ps : List Posting) (es fs : List Ending) → heard_by s line ≡ x → fs ≡ es ++ record { line = line; outcome = o } ∷ []
      → Arisen w t askers rest h → KeepRight (rows_of s) (rows_of t) → HoldsAt (rows_of t) h x.at o → EndSpeaks (rows_of t) h x line o → Leads w askers rest ps ps es fs (heard_by s) s t (seen h) h Anyhow
  ended_one askers rest s t h line x o ps es fs heard ended a kept right speaks = record {
    later = h;
    more = [];
    posted = sym (append-nil ps);
    shows = refl;
    within = Within-refl h;
    arisen = a;
    kept = kept;
    ends = record {
      more = record { line = line; outcome = o } ∷ [];
      ended = ended;
      each = All-cons (λ (e : Ending). HoldsAt (rows_of t) h (heard_by s e.line).at e.outcome) (record { line = line; outcome = o }) [] (subst (λ (n : CallOf). HoldsAt (rows_of t) h n.at o) (sym heard) right) (All-nil (λ (e : Ending). HoldsAt (rows_of t) h (heard_by s e.line).at e.outcome));
      says = All-cons (λ (e : Ending). EndSpeaks (rows_of t) h (heard_by s e.line) e.line e.outcome) (record { line = line; outcome = o }) [] (subst (λ n. EndSpeaks (rows_of t) h n line o) (sym heard) speaks) (All-nil (λ (e : Ending). EndSpeaks (rows_of t) h (heard_by s e.line) e.line e.outcome));
    };
    then = tt;
  }

  -- the call for a timestamp that stands at a line ends
  pub ask_ends : (s t : Clients P) (line c : ℕ) (b : Bool) (call : ClientCall Pd P) (r : Row P) (o : Outcome) (v : Result (ClientAnswer Pd P) Error) (ps : List Posting) (es fs : List Ending) → IsLine (stands_of (rows_of s)) line → row_at (rows_of s) (line - 1) ≡ row.Asking c b call
      → rows_of t ≡ set (rows_of s) (line - 1) r → nexts_of t ≡ nexts_of s → asks_of t ≡ asks_of s → t.clients ≡ s.clients → AskLeaves c v r o → fs ≡ es ++ record { line = line; outcome = o } ∷ [] → IsNewAnswer {P = P} (answers.Asked v)
      → LeadsEnded w (λ askers h. AnswerArises w ⊥ askers line row.Plain (Some (answers.Asked v)) h) ps ps es fs s t
  ask_ends s t line c b call r o v ps es fs is there rows nexts asks clients leaves ended new askers rest h came a =
      ended_one askers rest s t h line (itself line) o ps es fs (ap (answered_at line) (stands_at (rows_of s) line (row.Asking c b call) is there)) ended
      (arisen_set w s t askers rest h (line - 1) r within rows nexts asks clients
      (unended_replaced w askers h (line - 1) (row_at (rows_of s) (line - 1)) r unended (λ n x. subst (λ m. IsDrawn askers h m n) (sym (hears_own line is.first)) (left.drawn n x)))
      (left.fits (set (rows_of s) (line - 1) r) (posted_at (nexts_of s) (asks_of s) (voice (line - 1) (stand_of r)))) a)
      (subst (KeepRight (rows_of s)) (sym rows) (right_unended (rows_of s) (line - 1) r within unended))
      (subst (λ rs. HoldsAt rs h line o) (sym rows) (holds_line (set (rows_of s) (line - 1) r) h line o is.first (subst (HoldsOf h o) (sym (or_same (rows_of s) (line - 1) r row.Plain within)) left.right)))
      (speaks_own (rows_of t) h line o)
    where
      within : line - 1 < length (rows_of s)
      within = row_within (rows_of s) line is

      unended : IsUnended (row_at (rows_of s) (line - 1))
      unended = subst IsUnended (sym there) tt

      left : Leaves askers h line r o
      left = ask_leaves askers h line c v r o leaves new came (λ n d. uncommitted w s askers rest h line n is.first unended a d)

  -- no job is handed out where nothing was committed
  pub jobless : (options : RetryOptions) (start : Timestamp) (contents : Contents) (c : Commits) (h : List Event) (job : SecondaryJob P) → TransactionGives w options start contents c h (Ok (answer.Committed None (Some job))) → ⊥
  jobless options start contents c h job (inl x) = x.2
  jobless options start contents c h job (inr (e, inl f)) = cc
  jobless options start contents c h job (inr (e, inr f)) = cc

  -- the job that a call of a transaction left is behind the transaction
  job_fits : (askers : Ticket → List ℕ) (h : List Event) (line c n x : ℕ) (v : Result (TxnAnswer P) Error) (r mine : Row P) (rows : List (Row P)) (p : Posted) → CallLeaves c v r → (turns : Type 0) → AnswerArises w turns askers line mine (Some (answers.Called v)) h → row_at rows x ≡ with_waits n mine → RowFits w rows p h r
  job_fits askers h line c n x (Ok (answer.Committed (Some t) (Some job))) r mine rows p e turns came here = subst (RowFits w rows p h) (sym e) (x, subst (IsBehind w job p h) (sym here) (waits_behind w n job p h mine (came.1 p)))
  job_fits askers h line c n x (Ok (answer.Committed None (Some job))) r mine rows p e turns came here = absurd came
  job_fits askers h line c n x (Ok (answer.Committed t None)) r mine rows p e turns came here = subst (RowFits w rows p h) (sym e) tt
  job_fits askers h line c n x (Ok v) r mine rows p e turns came here = subst (RowFits w rows p h) (sym e) tt
  job_fits askers h line c n x (Err why) r mine rows p e turns came here = subst (RowFits w rows p h) (sym e) tt

  job_unstarted : (c : ℕ) (v : Result (TxnAnswer P) Error) (r : Row P) → CallLeaves c v r → (n : ℕ) → HasStart n r → ⊥
  job_unstarted c (Ok (answer.Committed t (Some job))) r e n x = subst (HasStart n) e x
  job_unstarted c (Ok (answer.Committed t None)) r e n x = subst (HasStart n) e x
  job_unstarted c (Ok v) r e n x = subst (HasStart n) e x
  job_unstarted c (Err why) r e n x = subst (HasStart n) e x

  called_holds : (askers : Ticket → List ℕ) (h : List Event) (line : ℕ) (b : Bool) (v : Result (TxnAnswer P) Error) (r : Row P) (turns : Type 0) → AnswerArises w turns askers line r (Some (answers.Called v)) h → HoldsOf h (outcome_by b v) r
  called_holds askers h line b (Err e) r turns came = tt
  called_holds askers h line true (Ok (answer.Committed (Some t) (Some job))) r turns came = came.0
  called_holds askers h line true (Ok (answer.Committed (Some t) None)) r turns came = came.0
  called_holds askers h line true (Ok (answer.Committed None None)) r turns came = came
  called_holds askers h line true (Ok (answer.Committed None (Some job))) r turns came = absurd came
  called_holds askers h line false (Ok (answer.Committed t job)) r turns came = tt
  called_holds askers h line true (Ok answer.Unit) r turns came = tt
  called_holds askers h line false (Ok answer.Unit) r turns came = tt
  called_holds askers h line true (Ok v) r turns came = tt
  called_holds askers h line false (Ok v) r turns came = tt

  called_speaks : (askers : Ticket → List ℕ) (h : List Event) (line x : ℕ) (b : Bool) (v : Result (TxnAnswer P) Error) (mine : Row P) (rows : List (Row P)) → 1 ≤ x → row_at rows (x - 1) ≡ with_waits 0 mine → AnswerArises w (b ≡ false) askers line mine (Some (answers.Called v)) h → EndSpeaks rows h (record { at = x; commits = b }) line (outcome_by b v)
  called_speaks askers h line x b (Err e) mine rows one here came = λ apart. speaks_line rows h x (b ≡ false) e one (subst (SpeaksRight h (b ≡ false) e) (sym here) (speaks_waits 0 h (b ≡ false) e mine came))
  called_speaks askers h line x true (Ok (answer.Committed t job)) mine rows one here came = tt
  called_speaks askers h line x false (Ok (answer.Committed t job)) mine rows one here came = tt
  called_speaks askers h line x true (Ok answer.Unit) mine rows one here came = tt
  called_speaks askers h line x false (Ok answer.Unit) mine rows one here came = tt
  called_speaks askers h line x true (Ok v) mine rows one here came = tt
  called_speaks askers h line x false (Ok v) mine rows one here came = tt

  waits_holds : (n : ℕ) (h : List Event) (o : Outcome) (r : Row P) → HoldsOf h o r → HoldsOf h o (with_waits n r)
  waits_holds n h o r x = right_by o h h r (with_waits n r) (λ v. waits_began n v r) (λ v. waits_committed n h v r) (waits_unlocked n r) x

  -- the call of a transaction ends, which waits no more
  pub call_ends : (s m t : Clients P) (line x c d : ℕ) (b : Bool) (r : Row P) (o : Outcome) (v : Result (TxnAnswer P) Error) (ps : List Posting) (es fs : List Ending) → IsLine (stands_of (rows_of s)) line → row_at (rows_of s) (line - 1) ≡ row.Calling c x b → stand_at (stands_of (rows_of s)) x ≡ HasBegun d line → Rests (row_at (rows_of s) (x - 1))
      → rows_of m ≡ set (rows_of s) (x - 1) (with_waits 0 (row_at (rows_of s) (x - 1))) → nexts_of m ≡ nexts_of s → asks_of m ≡ asks_of s → m.clients ≡ s.clients
      → rows_of t ≡ set (rows_of m) (line - 1) r → nexts_of t ≡ nexts_of m → asks_of t ≡ asks_of m → t.clients ≡ m.clients → CallLeaves c v r → o ≡ outcome_by b v → fs ≡ es ++ record { line = line; outcome = o } ∷ []
      → LeadsEnded w (CallCame w s line (Some (answers.Called v))) ps ps es fs s t
  call_ends s m t line x c d b r o v ps es fs is there waits rests rows_m nexts_m asks_m clients_m rows nexts asks clients leaves outcome ended askers rest h came a =
      ended_one askers rest s t h line (record { at = x; commits = b }) o ps es fs (ap (answered_at line) calls) ended
      (arisen_set w m t askers rest h (line - 1) r within_m rows nexts asks clients
      (unended_replaced w askers h (line - 1) (row_at (rows_of m) (line - 1)) r unended (λ n y. absurd (job_unstarted c v r leaves n y)))
      (job_fits askers h line c 0 (x - 1) v r mine (set (rows_of m) (line - 1) r) (posted_at (nexts_of m) (asks_of m) (voice (line - 1) (stand_of r))) leaves (b ≡ false) here (or_other (rows_of m) (line - 1) (x - 1) r row.Plain apart ∙ mine_m))
      first)
      (kept_then (rows_of s) (rows_of m) (rows_of t)
      (subst (KeepRight (rows_of s)) (sym rows_m) (right_waits (rows_of s) (x - 1) 0 within_x))
      (subst (KeepRight (rows_of m)) (sym rows) (right_unended (rows_of m) (line - 1) r within_m unended)))
      (subst (λ rs. HoldsAt rs h x o) (sym rows) (holds_line (set (rows_of m) (line - 1) r) h x o at.first
      (subst (HoldsOf h o) (sym (or_other (rows_of m) (line - 1) (x - 1) r row.Plain apart ∙ mine_m)) (waits_holds 0 h o mine (subst (λ y. HoldsOf h y mine) (sym outcome) (called_holds askers h line b v mine (b ≡ false) here))))))
      (subst (λ y. EndSpeaks (rows_of t) h (record { at = x; commits = b }) line y) (sym outcome) (called_speaks askers h line x b v mine (rows_of t) at.first (ap (λ rs. row_at rs (x - 1)) rows ∙ or_other (rows_of m) (line - 1) (x - 1) r row.Plain apart ∙ mine_m) here))
    where
      mine : Row P
      mine = row_at (rows_of s) (x - 1)

      calls : stand_at (stands_of (rows_of s)) line ≡ Calling c x b
      calls = stands_at (rows_of s) line (row.Calling c x b) is there

      at : IsLine (stands_of (rows_of s)) x
      at = line_of (stands_of (rows_of s)) x (λ i. idle (sym waits ∙ i))
        where
          idle : HasBegun d line ≡ Idle → ⊥
          idle q = cc

      begun : stand_of mine ≡ HasBegun d line
      begun = sym (stand_of_line (rows_of s) x at.first) ∙ waits

      far : x ≢ line
      far e = two (sym calls ∙ ap (stand_at (stands_of (rows_of s))) (sym e) ∙ waits)
        where
          two : Calling c x b ≡ HasBegun d line → ⊥
          two q = cc

      apart : x - 1 ≢ line - 1
      apart e = far (let one = is.first in let other = at.first in omega (arith, one, other, e))

      within_x : x - 1 < length (rows_of s)
      within_x = row_within (rows_of s) x at

      within_m : line - 1 < length (rows_of m)
      within_m = subst (λ n. line - 1 < n) (sym (ap length rows_m ∙ length-set (rows_of s) (x - 1) (with_waits 0 mine))) (row_within (rows_of s) line is)

      mine_m : row_at (rows_of m) (x - 1) ≡ with_waits 0 mine
      mine_m = ap (λ rs. row_at rs (x - 1)) rows_m ∙ or_same (rows_of s) (x - 1) (with_waits 0 mine) row.Plain within_x

      unended : IsUnended (row_at (rows_of m) (line - 1))
      unended = subst IsUnended (sym (ap (λ rs. row_at rs (line - 1)) rows_m ∙ or_other (rows_of s) (x - 1) (line - 1) (with_waits 0 mine) row.Plain (λ e. apart (sym e)) ∙ there)) tt

      here : AnswerArises w (b ≡ false) askers line mine (Some (answers.Called v)) h
      here = came c x b calls

      first : Arisen w m askers rest h
      first = arisen_set w s m askers rest h (x - 1) (with_waits 0 mine) within_x rows_m nexts_m asks_m clients_m
          (waits_replaced w askers h (x - 1) 0 mine (a.draws.starts (x - 1)))
          (rest_row w 0 d line (rows_of s) (set (rows_of s) (x - 1) (with_waits 0 mine)) (posted_at (nexts_of s) (asks_of s) (voice_at (rows_of s) (x - 1))) (posted_at (nexts_of s) (asks_of s) (voice (x - 1) (stand_of (with_waits 0 mine)))) h mine begun rests (a.rows (x - 1))) a
