-- Each line leaves the lists where the history of the lines says.
use Rattle.std.proofs.Common.{◌≡◌, ◌≢◌, ℕ, suc, ◌+◌, ◌-◌, inl, inr, Bool, true, false, List, [], ◌∷◌, ◌++◌, Option, Some, None, length, set, nat_eq, refl, sym, ap, ◌∙◌, subst, subst₂, arith, length-append}
use Rattle.std.proofs.lemmas.Bool.Decides.{nat_tests}
use Rattle.txn_kv.specs.declared.errors.Error.TheVariants.{OperationAfterCommitError}
use Rattle.txn_kv.specs.declared.request.Request.{Request}
use Rattle.txn_kv.specs.declared.ticket.Ticket.{Ticket}
use Rattle.txn_kv.specs.declared.ticket.Target.TheVariants.{Placement}
use Rattle.txn_history.specs.Event.{Event, sent_request}
use Rattle.txn_history.specs.Event.Event.{Sent}
use Rattle.txn_script.specs.Lines.{why_after}
use Rattle.txn_script.specs.declared.line.Line.{Line}
use Rattle.txn_script.specs.declared.line.Line.TheVariants.{Begin, Put, Commit}
use Rattle.txn_report.specs.declared.outcome.Outcome.{Outcome}
use Rattle.txn_report.specs.declared.outcome.Outcome.TheVariants.{Ok, Err, Unfinished, Done, Skipped}
use Rattle.txn_report.specs.declared.outcome.Payload.TheVariants.{Unit as Nothing, Commit as Committed_at}
use Rattle.txn_first.specs.declared.transaction.Transaction.{Transaction}
use Rattle.txn_first.specs.declared.transaction.Put.{Put as Write}
use Rattle.txn_first.specs.declared.transaction.CommitCall.{CommitCall}
use Rattle.txn_first.specs.declared.transaction.Stage.TheVariants.{FindingRegion}
use Rattle.txn_first.specs.declared.transaction.Status.{Status}
use Rattle.txn_first.specs.declared.transaction.Status.TheVariants.{Active, StartedCommit, Committed}
use Rattle.txn_first.specs.declared.machine.Row.{Row}
use Rattle.txn_first.specs.declared.machine.Row.TheVariants.{Plain, Beginning, Running, Committing}
use Rattle.txn_first.specs.Commit.{Step, started, ends, sends, at_stage}
use Rattle.txn_first.specs.Standing.{free_status}
use Rattle.txn_first.specs.Posting.{ticket_after}
use Rattle.txn_first.specs.Lists.{Lists, opened, row_at, row_set, sent_more, ask_one, begins, standing_in, written, written_in, puts_by, puts, commit_starts, commit_begun, commits_by, commits, followed, ended_at}
use Rattle.txn_first.specs.Script.{outcome_of}
use Rattle.txn_first.specs.Causes.{is_ok, is_unfinished, is_commit_at, is_busy, is_free, allows_write, allows_commit, status_of, writes_of, has_some, WritesWith, CommitsWith, HasCause}
use Rattle.txn_first.specs.Rowed.{CallFits, IsBegun, writes_in, Fits, asked_at}
use Rattle.txn_first.specs.Stands.{request_in, StandsAt}
use Rattle.txn_first.proofs.Mails.{IsQuiet, mail_opened, mail_sent}
use Rattle.txn_first.proofs.Lists.{position_fresh}
use Rattle.txn_first.proofs.Lines.{put_named, commit_named, line_within, not_busy, busy_at}
use Rattle.txn_first.proofs.Opens.{IsQuietLine, last_outcome, old_row, status_old, status_err, status_skip, leaves_commit, leaves_put}
use Rattle.txn_first.proofs.Steps.{fits_quiet, fits_begun}
use Rattle.txn_first.proofs.Calls.{fits_put}
use Rattle.txn_first.proofs.Commits.{fits_commit_none, fits_commit_sent}
use Rattle.txn_law.proofs.Tickets.{unused}
use Rattle.txn_first.proofs.Licences.{Keeps, Starts, keeps_then, starts_then, keeps_push, starts_push, keeps_on, keeps_put, starts_set, pushed_commit, not_committed, allowed_open, licensed_rows, licensed_sent}
use Rattle.txn_first.specs.Lawful.{sent_of}
use Rattle.txn_first.specs.Counted.{stage_number, IsCounted}
use Rattle.txn_first.proofs.Lines.{row_put}
use Rattle.txn_first.proofs.Licences.{running_is}
use Rattle.txn_first.proofs.Counts.{call_is, opens_push, opens_set, opens_then, counted_rows, counted_sent, other_call, none_before}
use Rattle.txn_first.proofs.Extends.{extends_open, extends_send, extends_then, close, asks_push}

-- The lists stand for some history of these lines.
abbrev pub StandsSo : Lists → List Line → Type 0
StandsSo l lines = (es : List Event) × StandsAt es l lines

-- A line that sends nothing.
pub quiet_stands : (es : List Event) (l : Lists) (line : Line) (ls : List Line) (o : Outcome) (e : ℕ) → e ≡ suc (length l.outcomes) → why_after ls line ≡ None → IsQuiet line o → is_commit_at o ≡ false → IsQuietLine line ls l.rows l.outcomes o → HasCause (outcome_of l.outcomes) ls es line o → StandsAt es l ls → StandsSo (opened l Plain o e) (line ∷ ls)
quiet_stands es l line ls o e at good q plain k cause s = (
  es,
  close es es l (opened l Plain o e) line ls s
      (extends_open ls l.sent l.outcomes l.ended o e s.fits.told s.fits.times.counted (inr at))
      (subst (λ z. HasCause (outcome_of l.outcomes) ls es line z) (sym (last_outcome line ls l.rows Plain l.outcomes o s.fits.told s.fits.rowed.counted)) cause)
      (mail_opened es ls l.store l.sent l.letters l.tickets l.outcomes l.served line o q s.mail)
      (subst (λ n. Fits es (line ∷ ls) l.store (l.rows ++ Plain ∷ []) (l.outcomes ++ o ∷ []) (l.ended ++ n ∷ [])) (sym at) (fits_quiet es line ls l.store l.rows l.outcomes l.ended o good k s.fits))
      s.asks
      (licensed_rows es l.rows (l.rows ++ Plain ∷ []) l.outcomes (l.outcomes ++ o ∷ []) (keeps_push l.rows Plain) (starts_push l.rows Plain (λ u h. cc)) (λ n c h. pushed_commit l.outcomes o n c plain h) s.licensed)
      (counted_rows l.sent l.rows (l.rows ++ Plain ∷ []) (opens_push l.rows Plain (λ u h. cc)) s.counted),
)

pub next_is : (n : ℕ) → n + 1 ≡ suc n
next_is n = omega arith

-- A ticket that was not given before.

pub fresh_sent : (es : List Event) (l : Lists) (lines : List Line) (x : ℕ) → StandsAt es l lines → sent_request es (ticket_after l.tickets x) ≡ None
fresh_sent es l lines x s = s.mail.listed (ticket_after l.tickets x) ∙ ap (λ z. request_in l.sent z) (position_fresh l.tickets x)

not_answered : (o : Outcome) → is_ok o ≡ false → is_commit_at o ≡ false
not_answered (Ok p) e = absurd (cc)
not_answered (Err x) e = refl
not_answered Unfinished e = refl
not_answered Done e = refl
not_answered Skipped e = refl

set_last : {X : Type 0} (xs : List X) (a b : X) → set (xs ++ a ∷ []) (length xs) b ≡ xs ++ b ∷ []
set_last [] a b = refl
set_last (x ∷ xs) a b = ap (λ ys. x ∷ ys) (set_last xs a b)

-- How a commit starts.

started_none : (t : Transaction) (n : ℕ) → t.put ≡ None → started t n ≡ ends (record t { status = StartedCommit }) (Ok (Committed_at None))
started_none t n e =
    let q : t ≡ record t { put = None } = λ i. record t { put = e i } in
    subst (λ z. started z n ≡ ends (record z { status = StartedCommit }) (Ok (Committed_at None))) (sym q) refl

started_some : (t : Transaction) (n : ℕ) (p : Write) → t.put ≡ Some p → started t n ≡ sends (at_stage (record t { status = StartedCommit }) n FindingRegion) Placement (asked_at t.start p FindingRegion)
started_some t n p e =
    let q : t ≡ record t { put = Some p } = λ i. record t { put = e i } in
    subst (λ z. started z n ≡ sends (at_stage (record z { status = StartedCommit }) n FindingRegion) Placement (asked_at z.start p FindingRegion)) (sym q) refl

module _ (es : List Event) (l : Lists) (ls : List Line) (s : StandsAt es l ls) where
  -- A begin asks for its start.
  pub begin_stands : (client : ℕ) → why_after ls (Begin client) ≡ None → StandsSo (begins l) (Begin client ∷ ls)
  begin_stands client good =
      let line : Line = Begin client in
      let l1 : Lists = opened l Beginning Unfinished 0 in
      let x : ℕ = length l.outcomes + 1 in
      let m1 = mail_opened es ls l.store l.sent l.letters l.tickets l.outcomes l.served line Unfinished tt s.mail in
      let tk : Ticket = ticket_after l1.tickets x in
      let fresh : sent_request es tk ≡ None = m1.listed tk ∙ ap (λ z. request_in l.sent z) (position_fresh l1.tickets x) in
      let l2 : Lists = sent_more l1 x Placement ask_one in
      let a = m1.rowed in
      let b = s.fits.told in
      let c = length-append l.outcomes (Unfinished ∷ []) in (
        Sent tk ask_one ∷ es,
        close es (Sent tk ask_one ∷ es) l l2 line ls s
            (extends_then ls l.sent l.sent l2.sent l.outcomes l1.outcomes l1.outcomes l.ended l1.ended l1.ended (extends_open ls l.sent l.outcomes l.ended Unfinished 0 s.fits.told s.fits.times.counted (inl refl)) (extends_send ls l.sent l1.outcomes l1.ended (record { ticket = tk; at = length l1.outcomes; to = Placement; request = ask_one; askers = x ∷ [] }) (omega arith)))
            (inl (last_outcome line ls l.rows Beginning l.outcomes Unfinished s.fits.told s.fits.rowed.counted))
            (mail_sent es line ls l.store l.sent l.letters l1.tickets l1.outcomes l.served x Placement ask_one (omega arith) (omega arith) m1)
            (fits_begun es client ls l.store l.rows l.outcomes l.ended tk good s.fits (next_is (length l.outcomes)) refl fresh (m1.unsent tk fresh).1)
            (asks_push l.sent (record { ticket = tk; at = length l1.outcomes; to = Placement; request = ask_one; askers = x ∷ [] }) s.asks refl)
            (licensed_sent es l1.rows l1.outcomes tk ask_one (unused es tk fresh) tt (λ k v g. tt) (λ r e. absurd (cc))
            (licensed_rows es l.rows l1.rows l.outcomes l1.outcomes (keeps_push l.rows Beginning) (starts_push l.rows Beginning (λ u e. cc)) (λ n d e. pushed_commit l.outcomes Unfinished n d refl e) s.licensed))
            (counted_sent l.sent l.rows l1.rows (record { ticket = tk; at = length l1.outcomes; to = Placement; request = ask_one; askers = x ∷ [] }) 0 (none_before es l ls x s (omega arith)) (omega arith) s.counted
            (λ y u call e f. let w = opens_push l.rows Beginning (λ v q. cc) y u call e f in inr (other_call l.sent l.rows x w.0 w.1 call (none_before es l ls x s (omega arith)) s.counted w.2 w.3))),
      )

  -- What stands at the begin of a call.

  free_at : (x : ℕ) (t : Transaction) → row_at l.rows x ≡ Some (Running t) → t.call ≡ None → is_free (outcome_of l.outcomes) x ls ≡ true
  free_at x t at idle =
      let h = s.fits.rowed.fits x (Running t) at in
      let none = subst (λ c. CallFits ls l.rows l.outcomes x t c) idle h.call in
      let busy : is_busy (outcome_of l.outcomes) x ls ≡ false = not_busy (outcome_of l.outcomes) x ls (λ n k e c. none n k e c (λ z. let w = line_within ls n k e in let a = w.0 in omega arith)) in
      rw (h.start, busy) refl

  busy_of : (x : ℕ) (t : Transaction) (call : CommitCall) → row_at l.rows x ≡ Some (Running t) → t.call ≡ Some call → is_free (outcome_of l.outcomes) x ls ≡ false
  busy_of x t call at calls =
      let h = s.fits.rowed.fits x (Running t) at in
      let c = subst (λ z. CallFits ls l.rows l.outcomes x t z) calls h.call in
      let itself : nat_eq x x ≡ true = grind (arith, nat_tests) in
      let busy : is_busy (outcome_of l.outcomes) x ls ≡ true = busy_at (outcome_of l.outcomes) x ls call.line (Commit x) c.line itself (ap is_unfinished c.waits) in
      rw (h.start, busy) refl

  not_begun : (x : ℕ) → row_at l.rows x ≡ Some Beginning → is_free (outcome_of l.outcomes) x ls ≡ false
  not_begun x at = let h = s.fits.rowed.fits x Beginning at in rw h.waits refl

  -- Refused and skipped calls.

  put_quiet : (x : ℕ) (k v : List ℕ) (o : Outcome) → is_ok o ≡ false → is_unfinished o ≡ false → IsQuietLine (Put x k v) ls l.rows l.outcomes o
  put_quiet x k v o refused over = record {
    over = over;
    no_begin = λ client e. cc;
    leaves = λ y. leaves_put ls l.outcomes o x k v y s.fits.told refused;
    skips = λ y t call e c q. absurd (cc);
  }

  put_refused : (x : ℕ) (k v : List ℕ) (o : Outcome) → why_after ls (Put x k v) ≡ None → is_ok o ≡ false → is_unfinished o ≡ false → WritesWith (is_free (outcome_of l.outcomes) x ls) (allows_write (status_of (outcome_of l.outcomes) x ls)) o → StandsSo (opened l Plain o (length l.outcomes + 1)) (Put x k v ∷ ls)
  put_refused x k v o good refused over cause = quiet_stands es l (Put x k v) ls o (length l.outcomes + 1) (next_is (length l.outcomes)) good tt (not_answered o refused) (put_quiet x k v o refused over) cause s

  put_by : (x : ℕ) (k v : List ℕ) (t : Transaction) → why_after ls (Put x k v) ≡ None → row_at l.rows x ≡ Some (Running t) → t.call ≡ None → (st : Status) → t.status ≡ st → StandsSo (puts_by (Some st) l x k v) (Put x k v ∷ ls)
  put_by x k v t good at idle Active is =
      let h = s.fits.rowed.fits x (Running t) at in
      let free = free_at x t at idle in
      let allowed : status_of (outcome_of l.outcomes) x ls ≡ Active = h.status ∙ is in
      let line : Line = Put x k v in
      let lw : Lists = row_set l x (Running (record t { put = Some (record { key = k; value = v }) })) in
      let wrote : written l x k v ≡ lw = ap (λ z. written_in l x k v z) at in
      let e : ℕ = length l.outcomes + 1 in
      subst (λ z. StandsSo (opened z Plain (Ok Nothing) (length l.outcomes + 1)) (Put x k v ∷ ls)) (sym wrote) (
        es,
        close es es l (opened lw Plain (Ok Nothing) (length l.outcomes + 1)) line ls s
            (extends_open ls l.sent l.outcomes l.ended (Ok Nothing) (length l.outcomes + 1) s.fits.told s.fits.times.counted (inr (next_is (length l.outcomes))))
            (subst (λ z. WritesWith (is_free (outcome_of l.outcomes) x ls) (allows_write (status_of (outcome_of l.outcomes) x ls)) z) (sym (last_outcome line ls l.rows Plain l.outcomes (Ok Nothing) s.fits.told s.fits.rowed.counted)) (subst₂ (λ b c. WritesWith b c (Ok Nothing)) (sym free) (sym (ap allows_write allowed)) refl))
            (mail_opened es ls l.store l.sent l.letters l.tickets l.outcomes l.served line (Ok Nothing) tt s.mail)
            (subst (λ n. Fits es (line ∷ ls) l.store (set l.rows (x - 1) (Running (record t { put = Some (record { key = k; value = v }) })) ++ Plain ∷ []) (l.outcomes ++ Ok Nothing ∷ []) (l.ended ++ n ∷ [])) (sym (next_is (length l.outcomes))) (fits_put es x k v ls l.store l.rows l.outcomes l.ended t good at idle s.fits))
            s.asks
            (licensed_rows es l.rows (lw.rows ++ Plain ∷ []) l.outcomes (l.outcomes ++ Ok Nothing ∷ [])
            (keeps_then l.rows lw.rows (lw.rows ++ Plain ∷ []) (keeps_put l.rows x t (record t { put = Some (record { key = k; value = v }) }) at is (not_committed t None Active idle is refl refl)) (keeps_push lw.rows Plain))
            (starts_then l.rows lw.rows (lw.rows ++ Plain ∷ []) (starts_set l.rows x t (record t { put = Some (record { key = k; value = v }) }) at refl) (starts_push lw.rows Plain (λ u h. cc)))
            (λ n c h. pushed_commit l.outcomes (Ok Nothing) n c refl h) s.licensed)
            (counted_rows l.sent l.rows (lw.rows ++ Plain ∷ []) (opens_then l.rows lw.rows (lw.rows ++ Plain ∷ []) (opens_set l.rows x (Running t) (record t { put = Some (record { key = k; value = v }) }) at idle) (opens_push lw.rows Plain (λ u h. cc))) s.counted),
      )
  put_by x k v t good at idle StartedCommit is =
      let h = s.fits.rowed.fits x (Running t) at in
      put_refused x k v (Err OperationAfterCommitError) good refl refl (subst₂ (λ b c. WritesWith b c (Err OperationAfterCommitError)) (sym (free_at x t at idle)) (sym (ap allows_write (h.status ∙ is))) refl)
  put_by x k v t good at idle Committed is =
      let h = s.fits.rowed.fits x (Running t) at in
      put_refused x k v (Err OperationAfterCommitError) good refl refl (subst₂ (λ b c. WritesWith b c (Err OperationAfterCommitError)) (sym (free_at x t at idle)) (sym (ap allows_write (h.status ∙ is))) refl)

  pub put_stands : (x : ℕ) (k v : List ℕ) → why_after ls (Put x k v) ≡ None → StandsSo (puts l x k v) (Put x k v ∷ ls)
  put_stands x k v good =
      let b = put_named ls x k v good in
      by_row (row_at l.rows x) refl (s.fits.rowed.begun x b.0 b.1)
    where
      by_row : (o : Option Row) → row_at l.rows x ≡ o → IsBegun o → StandsSo (puts_by (standing_in o) l x k v) (Put x k v ∷ ls)
      by_row None at h = absurd h
      by_row (Some Plain) at h = absurd h
      by_row (Some Beginning) at h = put_refused x k v Skipped good refl refl (subst (λ b. WritesWith b (allows_write (status_of (outcome_of l.outcomes) x ls)) Skipped) (sym (not_begun x at)) refl)
      by_row (Some (Running t)) at h = by_call t.call refl
        where
          by_call : (c : Option CommitCall) → t.call ≡ c → StandsSo (puts_by (free_status t) l x k v) (Put x k v ∷ ls)
          by_call None is =
              let free : free_status t ≡ Some t.status = ap (λ c. free_status (record t { call = c })) is in
              subst (λ z. StandsSo (puts_by z l x k v) (Put x k v ∷ ls)) (sym free) (put_by x k v t good at is t.status refl)
          by_call (Some call) is =
              let free : free_status t ≡ None = ap (λ c. free_status (record t { call = c })) is in
              subst (λ z. StandsSo (puts_by z l x k v) (Put x k v ∷ ls)) (sym free) (put_refused x k v Skipped good refl refl (subst (λ b. WritesWith b (allows_write (status_of (outcome_of l.outcomes) x ls)) Skipped) (sym (busy_of x t call at is)) refl))
      by_row (Some (Committing y)) at h = absurd h

  -- Commits.

  -- a commit that is skipped
  commit_skipped : (x : ℕ) → IsQuietLine (Commit x) ls l.rows l.outcomes Skipped
  commit_skipped x = record {
    over = refl;
    no_begin = λ client e. cc;
    leaves = λ y. leaves_commit ls l.outcomes Skipped x y s.fits.told (λ e. status_skip (status_of (outcome_of (l.outcomes ++ Skipped ∷ [])) y ls));
    skips = λ y t call at calls e. refl;
  }

  -- a commit of a transaction that is committed
  commit_refused : (x : ℕ) (t : Transaction) → row_at l.rows x ≡ Some (Running t) → t.call ≡ None → t.status ≡ Committed → IsQuietLine (Commit x) ls l.rows l.outcomes (Err OperationAfterCommitError)
  commit_refused x t at idle is = record {
    over = refl;
    no_begin = λ client e. cc;
    leaves = λ y. leaves_commit ls l.outcomes (Err OperationAfterCommitError) x y s.fits.told (λ e.
        let f = s.fits.rowed.fits x (Running t) at in
        status_err (status_of (outcome_of (l.outcomes ++ Err OperationAfterCommitError ∷ [])) y ls) (ap (λ n. status_of (outcome_of (l.outcomes ++ Err OperationAfterCommitError ∷ [])) n ls) (sym e) ∙ status_old (Commit x) ls l.rows Plain l.outcomes (Err OperationAfterCommitError) s.fits.told s.fits.rowed.counted x ∙ f.status ∙ is));
    skips = λ y u call there calls e. absurd (
        let same : x ≡ y = cc in
        let z = subst (λ n. row_at l.rows n ≡ Some (Running u)) (sym same) there in
        let k = same_transaction t u (sym at ∙ z) in
        let c : t.call ≡ Some call = ap (λ w. w.call) k ∙ calls in
        cc
        );
  }
    where
      same_transaction : (t u : Transaction) → ◌≡◌ {A = Option Row} (Some (Running t)) (Some (Running u)) → t ≡ u
      same_transaction t u e = cc

  commit_skips : (x : ℕ) → why_after ls (Commit x) ≡ None → is_free (outcome_of l.outcomes) x ls ≡ false → StandsSo (opened l Plain Skipped (length l.outcomes + 1)) (Commit x ∷ ls)
  commit_skips x good busy = quiet_stands es l (Commit x) ls Skipped (length l.outcomes + 1) (next_is (length l.outcomes)) good tt refl (commit_skipped x) (subst (λ b. CommitsWith b (allows_commit (status_of (outcome_of l.outcomes) x ls)) (has_some (writes_of (outcome_of l.outcomes) x ls)) Skipped) (sym busy) refl) s

  module _ (x : ℕ) (t : Transaction) (good : why_after ls (Commit x) ≡ None) (at : row_at l.rows x ≡ Some (Running t)) (idle : t.call ≡ None) where
    cause_of : (written : Bool) (o : Outcome) → allows_commit t.status ≡ true → has_some (writes_in t.put) ≡ written → CommitsWith true true written o → CommitsWith (is_free (outcome_of l.outcomes) x ls) (allows_commit (status_of (outcome_of l.outcomes) x ls)) (has_some (writes_of (outcome_of l.outcomes) x ls)) o
    cause_of written o allowed is c =
        let h = s.fits.rowed.fits x (Running t) at in
        let a : is_free (outcome_of l.outcomes) x ls ≡ true = free_at x t at idle in
        let b : allows_commit (status_of (outcome_of l.outcomes) x ls) ≡ true = ap allows_commit h.status ∙ allowed in
        let d : has_some (writes_of (outcome_of l.outcomes) x ls) ≡ written = ap has_some h.writes ∙ is in
        subst (λ z. CommitsWith z (allows_commit (status_of (outcome_of l.outcomes) x ls)) (has_some (writes_of (outcome_of l.outcomes) x ls)) o) (sym a) (subst₂ (λ y z. CommitsWith true y z o) (sym b) (sym d) c)

    -- where the row of the transaction stands once the line is opened
    opened_row : row_at (l.rows ++ Committing x ∷ []) x ≡ Some (Running t)
    opened_row = old_row (Commit x) ls l.rows (Committing x) l.outcomes Done s.fits.told s.fits.rowed.counted x (Running t) at

    newest_is : length (l.outcomes ++ Unfinished ∷ []) ≡ suc (length l.outcomes)
    newest_is = let a = length-append l.outcomes (Unfinished ∷ []) in omega arith

    -- the transaction begins to commit
    keeps_commit : (u : Transaction) → u.put ≡ t.put → u.status ≢ Active → allows_commit t.status ≡ true → Keeps l.rows (set (l.rows ++ Committing x ∷ []) (x - 1) (Running u))
    keeps_commit u put begun allowed = keeps_then l.rows (l.rows ++ Committing x ∷ []) (set (l.rows ++ Committing x ∷ []) (x - 1) (Running u)) (keeps_push l.rows (Committing x)) (keeps_on (l.rows ++ Committing x ∷ []) x t u opened_row put begun (not_committed t None t.status idle refl refl (allowed_open t.status allowed)))

    starts_commit : (u : Transaction) → u.start ≡ t.start → Starts l.rows (set (l.rows ++ Committing x ∷ []) (x - 1) (Running u))
    starts_commit u start = starts_then l.rows (l.rows ++ Committing x ∷ []) (set (l.rows ++ Committing x ∷ []) (x - 1) (Running u)) (starts_push l.rows (Committing x) (λ w e. cc)) (starts_set (l.rows ++ Committing x ∷ []) x t u opened_row start)

    -- nothing is written
    empty_stands : (n : ℕ) → n ≡ suc (length l.outcomes) → allows_commit t.status ≡ true → t.put ≡ None
        → StandsSo (ended_at (row_set (opened l (Committing x) Unfinished 0) x (Running (record t { status = StartedCommit; call = None }))) n (Ok (Committed_at None))) (Commit x ∷ ls)
    empty_stands n is allowed empty =
        let o : Outcome = Ok (Committed_at None) in
        let u : Transaction = record t { status = StartedCommit; call = None } in
        let place : n - 1 ≡ length l.outcomes = omega arith in
        let place' : n - 1 ≡ length l.ended = (let a = s.fits.times.counted in omega arith) in
        let outs : set (l.outcomes ++ Unfinished ∷ []) (n - 1) o ≡ l.outcomes ++ o ∷ [] = ap (λ i. set (l.outcomes ++ Unfinished ∷ []) i o) place ∙ set_last l.outcomes Unfinished o in
        let ends : set (l.ended ++ 0 ∷ []) (n - 1) (length (l.outcomes ++ Unfinished ∷ [])) ≡ l.ended ++ suc (length l.outcomes) ∷ [] = ap (λ i. set (l.ended ++ 0 ∷ []) i (length (l.outcomes ++ Unfinished ∷ []))) place' ∙ set_last l.ended 0 (length (l.outcomes ++ Unfinished ∷ [])) ∙ ap (λ e. l.ended ++ e ∷ []) newest_is in
        let rows : List Row = set (l.rows ++ Committing x ∷ []) (x - 1) (Running u) in
        let l' : Lists = record l { tickets = l.tickets ++ [] ∷ []; rows = rows; outcomes = l.outcomes ++ o ∷ []; ended = l.ended ++ suc (length l.outcomes) ∷ [] } in
        subst₂ (λ a b. StandsSo (record l { tickets = l.tickets ++ [] ∷ []; rows = set (l.rows ++ Committing x ∷ []) (x - 1) (Running (record t { status = StartedCommit; call = None })); outcomes = a; ended = b }) (Commit x ∷ ls)) (sym outs) (sym ends) (
          es,
          close es es l l' (Commit x) ls s
              (extends_open ls l.sent l.outcomes l.ended o (suc (length l.outcomes)) s.fits.told s.fits.times.counted (inr refl))
              (cause_of false (outcome_of (l.outcomes ++ o ∷ []) (suc (length ls))) allowed (ap (λ p. has_some (writes_in p)) empty) (last_outcome (Commit x) ls l.rows Plain l.outcomes o s.fits.told s.fits.rowed.counted))
              (mail_opened es ls l.store l.sent l.letters l.tickets l.outcomes l.served (Commit x) o tt s.mail)
              (fits_commit_none es x ls l.store l.rows l.outcomes l.ended t good at idle allowed s.fits empty)
              s.asks
              (licensed_rows es l.rows rows l.outcomes (l.outcomes ++ o ∷ []) (keeps_commit u refl (λ h. cc) allowed) (starts_commit u refl) (λ m c h. pushed_commit l.outcomes o m c refl h) s.licensed)
              (counted_rows l.sent l.rows rows (opens_then l.rows (l.rows ++ Committing x ∷ []) rows (opens_push l.rows (Committing x) (λ w h. cc)) (opens_set (l.rows ++ Committing x ∷ []) x (Running t) u opened_row refl)) s.counted),
        )

    -- some key is written
    full_stands : (n : ℕ) → n ≡ suc (length l.outcomes) → allows_commit t.status ≡ true → (p : Write) → t.put ≡ Some p
        → StandsSo (sent_more (row_set (opened l (Committing x) Unfinished 0) x (Running (record t { status = StartedCommit; call = Some (record { line = n; stage = FindingRegion }) }))) n Placement (asked_at t.start p FindingRegion)) (Commit x ∷ ls)
    full_stands n is allowed p puts = subst (λ m. StandsSo (sent_more (row_set (opened l (Committing x) Unfinished 0) x (Running (record t { status = StartedCommit; call = Some (record { line = m; stage = FindingRegion }) }))) m Placement (asked_at t.start p FindingRegion)) (Commit x ∷ ls)) (sym is) at_newest
      where
        counted_starts : (tk : Ticket) (now : ℕ) → tk.line ≡ suc (length l.outcomes) → IsCounted l.sent l.rows
            → IsCounted (l.sent ++ record { ticket = tk; at = now; to = Placement; request = asked_at t.start p FindingRegion; askers = [] } ∷ []) (set (l.rows ++ Committing x ∷ []) (x - 1) (Running (record t { status = StartedCommit; call = Some (record { line = suc (length l.outcomes); stage = FindingRegion }) })))
        counted_starts tk now own counted =
            let u : Transaction = record t { status = StartedCommit; call = Some (record { line = suc (length l.outcomes); stage = FindingRegion }) } in
            let rows1 : List Row = l.rows ++ Committing x ∷ [] in
            let told = s.fits.told in
            let none : sent_of tk.line l.sent ≡ 0 = none_before es l ls tk.line s (omega arith) in
            counted_sent l.sent l.rows (set rows1 (x - 1) (Running u)) (record { ticket = tk; at = now; to = Placement; request = asked_at t.start p FindingRegion; askers = [] }) 0 none (omega arith) counted
            (λ y w call e f. elim (row_put rows1 x y (Running u) (Running w) (Running t) opened_row e) [
              | inl a ↦ inl (started_call tk.line own w call (running_is u w a.1) f)
              | inr a ↦ (let z = opens_push l.rows (Committing x) (λ v q. cc) y w call a.1 f in inr (other_call l.sent l.rows tk.line z.0 z.1 call none counted z.2 z.3))
            ])
          where
            started_call : (line : ℕ) → line ≡ suc (length l.outcomes) → (w : Transaction) (call : CommitCall) → record t { status = StartedCommit; call = Some (record { line = suc (length l.outcomes); stage = FindingRegion }) } ≡ w → w.call ≡ Some call → (line ≡ call.line) × (stage_number call.stage ≡ 0 + 1)
            started_call line own w call same f =
                let c : ◌≡◌ {A = Option CommitCall} (Some (record { line = suc (length l.outcomes); stage = FindingRegion })) (Some call) = ap (λ z. z.call) same ∙ f in
                let d = call_is (record { line = suc (length l.outcomes); stage = FindingRegion }) call c in
                (own ∙ ap (λ z. z.line) d, sym (ap (λ z. stage_number z.stage) d))

        at_newest : StandsSo (sent_more (row_set (opened l (Committing x) Unfinished 0) x (Running (record t { status = StartedCommit; call = Some (record { line = suc (length l.outcomes); stage = FindingRegion }) }))) (suc (length l.outcomes)) Placement (asked_at t.start p FindingRegion)) (Commit x ∷ ls)
        at_newest =
            let m : ℕ = suc (length l.outcomes) in
            let u : Transaction = record t { status = StartedCommit; call = Some (record { line = suc (length l.outcomes); stage = FindingRegion }) } in
            let r : Request = asked_at t.start p FindingRegion in
            let l1 : Lists = opened l (Committing x) Unfinished 0 in
            let l2 : Lists = sent_more (row_set l1 x (Running u)) m Placement r in
            let m1 = mail_opened es ls l.store l.sent l.letters l.tickets l.outcomes l.served (Commit x) Unfinished tt s.mail in
            let tk : Ticket = ticket_after l1.tickets m in
            let fresh : sent_request es tk ≡ None = m1.listed tk ∙ ap (λ z. request_in l.sent z) (position_fresh l1.tickets m) in
            let a = m1.rowed in
            let b = s.fits.told in
            let c = length-append l.outcomes (Unfinished ∷ []) in (
              Sent tk r ∷ es,
              close es (Sent tk r ∷ es) l l2 (Commit x) ls s
                  (extends_then ls l.sent l.sent l2.sent l.outcomes l1.outcomes l1.outcomes l.ended l1.ended l1.ended (extends_open ls l.sent l.outcomes l.ended Unfinished 0 s.fits.told s.fits.times.counted (inl refl)) (extends_send ls l.sent l1.outcomes l1.ended (record { ticket = tk; at = length l1.outcomes; to = Placement; request = r; askers = [] }) (omega arith)))
                  (cause_of true (outcome_of (l.outcomes ++ Unfinished ∷ []) (suc (length ls))) allowed (ap (λ q. has_some (writes_in q)) puts) (inl (last_outcome (Commit x) ls l.rows Plain l.outcomes Unfinished s.fits.told s.fits.rowed.counted)))
                  (mail_sent es (Commit x) ls l.store l.sent l.letters l1.tickets l1.outcomes l.served m Placement r (omega arith) (omega arith) m1)
                  (fits_commit_sent es x ls l.store l.rows l.outcomes l.ended t good at idle allowed s.fits p tk puts refl refl fresh (m1.unsent tk fresh).1)
                  (asks_push l.sent (record { ticket = tk; at = length l1.outcomes; to = Placement; request = r; askers = [] }) s.asks tt)
                  (licensed_sent es l2.rows l2.outcomes tk r (unused es tk fresh) tt (λ k v g. tt) (λ q e. absurd (cc))
                  (licensed_rows es l.rows l2.rows l.outcomes l2.outcomes (keeps_commit u refl (λ h. cc) allowed) (starts_commit u refl) (λ i d h. pushed_commit l.outcomes Unfinished i d refl h) s.licensed))
                  (counted_starts tk (length l1.outcomes) refl s.counted),
            )

    pub commit_starts_stand : allows_commit t.status ≡ true → StandsSo (commit_begun (opened l (Committing x) Unfinished 0) x) (Commit x ∷ ls)
    commit_starts_stand allowed = subst (λ r. StandsSo (commit_starts (opened l (Committing x) Unfinished 0) x r) (Commit x ∷ ls)) (sym opened_row) (by_put t.put refl)
      where
        by_put : (p : Option Write) → t.put ≡ p → StandsSo (commit_starts (opened l (Committing x) Unfinished 0) x (Some (Running t))) (Commit x ∷ ls)
        by_put None is = subst (λ (z : Step). StandsSo (followed (row_set (opened l (Committing x) Unfinished 0) x (Running z.transaction)) (length (l.outcomes ++ Unfinished ∷ [])) z.turn) (Commit x ∷ ls)) (sym (started_none t (length (l.outcomes ++ Unfinished ∷ [])) is)) (empty_stands (length (l.outcomes ++ Unfinished ∷ [])) newest_is allowed is)
        by_put (Some p) is = subst (λ (z : Step). StandsSo (followed (row_set (opened l (Committing x) Unfinished 0) x (Running z.transaction)) (length (l.outcomes ++ Unfinished ∷ [])) z.turn) (Commit x ∷ ls)) (sym (started_some t (length (l.outcomes ++ Unfinished ∷ [])) p is)) (full_stands (length (l.outcomes ++ Unfinished ∷ [])) newest_is allowed p is)

  commit_by : (x : ℕ) (t : Transaction) → why_after ls (Commit x) ≡ None → row_at l.rows x ≡ Some (Running t) → t.call ≡ None → (st : Status) → t.status ≡ st → StandsSo (commits_by (Some st) l x) (Commit x ∷ ls)
  commit_by x t good at idle Active is = commit_starts_stand x t good at idle (ap allows_commit is)
  commit_by x t good at idle StartedCommit is = commit_starts_stand x t good at idle (ap allows_commit is)
  commit_by x t good at idle Committed is =
      let h = s.fits.rowed.fits x (Running t) at in
      quiet_stands es l (Commit x) ls (Err OperationAfterCommitError) (length l.outcomes + 1) (next_is (length l.outcomes)) good tt refl (commit_refused x t at idle is)
      (subst₂ (λ b c. CommitsWith b c (has_some (writes_of (outcome_of l.outcomes) x ls)) (Err OperationAfterCommitError)) (sym (free_at x t at idle)) (sym (ap allows_commit (h.status ∙ is))) refl) s

  pub commit_stands : (x : ℕ) → why_after ls (Commit x) ≡ None → StandsSo (commits l x) (Commit x ∷ ls)
  commit_stands x good =
      let b = commit_named ls x good in
      by_row (row_at l.rows x) refl (s.fits.rowed.begun x b.0 b.1)
    where
      by_row : (o : Option Row) → row_at l.rows x ≡ o → IsBegun o → StandsSo (commits_by (standing_in o) l x) (Commit x ∷ ls)
      by_row None at h = absurd h
      by_row (Some Plain) at h = absurd h
      by_row (Some Beginning) at h = commit_skips x good (not_begun x at)
      by_row (Some (Running t)) at h = by_call t.call refl
        where
          by_call : (c : Option CommitCall) → t.call ≡ c → StandsSo (commits_by (free_status t) l x) (Commit x ∷ ls)
          by_call None is =
              let free : free_status t ≡ Some t.status = ap (λ c. free_status (record t { call = c })) is in
              subst (λ z. StandsSo (commits_by z l x) (Commit x ∷ ls)) (sym free) (commit_by x t good at is t.status refl)
          by_call (Some call) is =
              let free : free_status t ≡ None = ap (λ c. free_status (record t { call = c })) is in
              subst (λ z. StandsSo (commits_by z l x) (Commit x ∷ ls)) (sym free) (commit_skips x good (busy_of x t call at is))
      by_row (Some (Committing y)) at h = absurd h
