-- A delivery leaves the lists where the history of the lines says.
use Rattle.std.proofs.Common.{◌≡◌, ◌≢◌, ℕ, zero, suc, ◌+◌, ◌-◌, ◌^◌, ◌<◌, ◌≤◌, inl, inr, Bool, true, false, not, ◌&&◌, ◌||◌, if◌then◌else◌, List, [], ◌∷◌, ◌++◌, Option, Some, None, length, set, slice_get, is_some, nat_eq, refl, sym, ap, ◌∙◌, subst, subst₂, arith, length-append}
use Rattle.std.proofs.lemmas.Bool.Decides.{nat_tests}
use Rattle.txn_kv.specs.declared.request.Request.{Request}
use Rattle.txn_kv.specs.declared.reply.Reply.{Reply}
use Rattle.txn_kv.specs.declared.ticket.Ticket.{Ticket}
use Rattle.txn_kv.specs.declared.ticket.Target.{Target}
use Rattle.txn_kv.specs.declared.ticket.Target.TheVariants.{Placement}
use Rattle.txn_history.specs.Event.{Event, sent_request, taken_reply, is_out, is_refused, is_served, kept_reply}
use Rattle.txn_history.specs.Event.Event.{Sent, Served, Took}
use Rattle.txn_script.specs.Lines.{line_at, why_after}
use Rattle.txn_script.specs.declared.line.Line.{Line}
use Rattle.txn_script.specs.declared.line.Line.TheVariants.{Begin, Commit, Deliver}
use Rattle.txn_report.specs.declared.outcome.Outcome.{Outcome}
use Rattle.txn_report.specs.declared.outcome.Outcome.TheVariants.{Ok, Unfinished, Done, Skipped}
use Rattle.txn_report.specs.declared.outcome.Payload.TheVariants.{Number, Commit as Committed_at}
use Rattle.txn_report.specs.declared.report.SentNote.{SentNote}
use Rattle.txn_first.specs.declared.transaction.Transaction.{Transaction}
use Rattle.txn_first.specs.declared.transaction.Put.{Put as Write}
use Rattle.txn_first.specs.declared.transaction.Stage.TheVariants.{FindingRegion}
use Rattle.txn_first.specs.declared.transaction.Status.TheVariants.{Active, Committed}
use Rattle.txn_first.specs.declared.machine.Row.{Row}
use Rattle.txn_first.specs.declared.machine.Row.TheVariants.{Plain, Beginning, Running, Committing}
use Rattle.txn_first.specs.Commit.{Step, ends, sends, at_stage}
use Rattle.txn_first.specs.Posting.{position, ticket_after, note_of}
use Rattle.txn_first.specs.Lists.{Lists, opened, row_at, row_set, sent_more, ask_one, followed, ended_at}
use Rattle.txn_first.specs.Script.{outcome_of}
use Rattle.txn_first.specs.Causes.{HasCause}
use Rattle.txn_first.specs.Rowed.{CommitFits, CallFits, RunningFits, Fits, asked_at}
use Rattle.txn_first.specs.Stands.{request_in, MailFits, StandsAt}
use Rattle.txn_first.proofs.Lists.{get_old}
use Rattle.std.proofs.lemmas.Option.{slice_get-get_or}
use Rattle.txn_first.proofs.Mails.{mail_ended, mail_sent}
use Rattle.txn_first.proofs.Lists.{position_fresh}
use Rattle.txn_first.proofs.Histories.{none_refused, outcome_old}
use Rattle.txn_first.proofs.Lines.{outcome_other, line_within}
use Rattle.txn_first.proofs.Opens.{IsQuietLine, last_outcome, old_row}
use Rattle.txn_first.proofs.Extends.{Extends, extends_open, extends_send, extends_then, close, asks_push}
use Rattle.txn_kv.specs.declared.reply.Reply.TheVariants.{Prewrite as Prewrote, Commit as Committed_reply, GetRegion as Got_region, GetStore as Got_store, Tso as Gave}
use Rattle.txn_kv.specs.declared.ticket.Target.TheVariants.{Store as To_store}
use Rattle.txn_kv.specs.Timestamp.{timestamp_of}
use Rattle.txn_model.specs.Store.{Store}
use Rattle.txn_model.specs.Table.{table}
use Rattle.txn_model.specs.Placement.{store_with_id, region_record, leader_of}
use Rattle.txn_first.specs.declared.post.Letter.{Letter}
use Rattle.txn_first.specs.declared.transaction.Stage.{Stage}
use Rattle.txn_first.specs.declared.transaction.Stage.TheVariants.{FindingStore, Prewriting, Stamping, Committing as Stage_committing}
use Rattle.txn_first.specs.Commit.{turned, stage_turned, prewrite_of, commit_of, stamped, found_store}
use Rattle.txn_first.specs.Lists.{AsksOne, request_at, handled, reply_at, start_in, begun, advanced, passed_in, passed, waits, delivers_at, delivers}
use Rattle.txn_first.specs.Rowed.{BeginAwaits, CommitAwaits, CallCells, StageCells, first_region, here, locked_cells}
use Rattle.txn_first.proofs.Lists.{get_within, get_some}
use Rattle.txn_first.proofs.Mails.{mail_delivered, sent_at}
use Rattle.txn_first.proofs.Replies.{key_itself, version_back, tso_store, tso_reply, region_reply, prewrite_table, commit_table}
use Rattle.txn_first.proofs.Deliveries.{fits_start, fits_sends, fits_ends}
use Rattle.txn_first.proofs.Extends.{extends_set}
use Rattle.txn_first.proofs.Stepped.{StandsSo, quiet_stands, next_is}
use Rattle.txn_kv.specs.Versions.{version_of-timestamp_of}
use Rattle.txn_kv.specs.declared.message.Op.TheVariants.{Put as Put_op}
use Rattle.txn_kv.specs.declared.message.Assertion.TheVariants.{None as No_assertion}
use Rattle.txn_kv.specs.declared.request.Request.TheVariants.{Commit as Commit_request}
use Rattle.txn_kv.specs.declared.request.commits.CommitRequest.{CommitRequest}
use Rattle.txn_history.specs.Event.{Has}
use Rattle.txn_history.specs.Licence.{AskedAfter, WasGiven, PrimaryCommitted, CommitLicence, IsLicensed}
use Rattle.txn_history.specs.Plan.{Key, has_key}
use Rattle.txn_law.specs.Lone.{lone_plan, PutsAlone}
use Rattle.txn_law.specs.Run.{IsCovered, IsRoomy, IsUnserved, IsUnused, store_after}
use Rattle.txn_law.proofs.Sent.{asked_ready}
use Rattle.txn_law.proofs.Lone.{lone_prewrite, lone_ready, lone_commit}
use Rattle.txn_law.proofs.Tickets.{unused, unserved as untouched}
use Rattle.txn_first.specs.declared.transaction.Place.{Place}
use Rattle.txn_first.specs.declared.transaction.Status.TheVariants.{StartedCommit}
use Rattle.txn_first.specs.Commit.{prewrite_request, commit_request}
use Rattle.txn_first.specs.Rowed.{StageAsked}
use Rattle.txn_first.specs.Licensed.{is_last, is_committed, has_committed, WasCommitted, Licensed}
use Rattle.txn_first.proofs.Lines.{row_within, row_same, row_other, row_put, outcome_same, one_begin}
use Rattle.txn_first.specs.declared.transaction.CommitCall.{CommitCall}
use Rattle.txn_first.specs.Posting.{askers_of}
use Rattle.txn_first.specs.Lawful.{sent_of}
use Rattle.txn_first.specs.Counted.{stage_number, IsCounted}
use Rattle.txn_first.proofs.Counts.{call_is, opens_push, opens_set, opens_then, counted_rows, counted_sent}
use Rattle.txn_first.proofs.Licences.{same_row, running_is, row_pushed, keeps_then, starts_then, settles_then, keeps_push, starts_push, settles_on, keeps_on, keeps_begun, starts_set, pushed_commit, set_commit, not_committed, agrees_back, was_kept, licensed_rows, licensed_sent, licensed_delivered}

-- what a commit waits for asks for one timestamp at most
asked_one : (start : ℕ) (put : Write) (stage : Stage) → AsksOne (asked_at start put stage)
asked_one start put FindingRegion = tt
asked_one start put (FindingStore place) = tt
asked_one start put (Prewriting place) = tt
asked_one start put (Stamping place) = refl
asked_one start put (Stage_committing place c) = tt

stage_most : (stage : Stage) → stage_number stage ≤ 5
stage_most FindingRegion = omega arith
stage_most (FindingStore place) = omega arith
stage_most (Prewriting place) = omega arith
stage_most (Stamping place) = omega arith
stage_most (Stage_committing place c) = omega arith

-- and is covered by the law
asked_covered : (start : ℕ) (put : Write) (stage : Stage) → IsCovered (asked_at start put stage)
asked_covered start put FindingRegion = tt
asked_covered start put (FindingStore place) = tt
asked_covered start put (Prewriting place) = tt
asked_covered start put (Stamping place) = tt
asked_covered start put (Stage_committing place c) = tt

-- a Commit is sent at the last stage alone
asked_last : (start : ℕ) (put : Write) (stage : Stage) (r : CommitRequest) → asked_at start put stage ≡ Commit_request r → is_last stage ≡ true
asked_last start put FindingRegion r e = absurd (cc)
asked_last start put (FindingStore place) r e = absurd (cc)
asked_last start put (Prewriting place) r e = absurd (cc)
asked_last start put (Stamping place) r e = absurd (cc)
asked_last start put (Stage_committing place c) r e = refl

-- a Prewrite puts the one key
puts_alone : (start : ℕ) (put : Write) (place : Place) (k v : List ℕ) → put.key ≡ k → put.value ≡ v → PutsAlone (prewrite_request start put place).mutations k v
puts_alone start put place k v f g = record { mutation = record { op = Put_op; key = put.key; value = put.value; assertion = No_assertion }; is = refl; op = refl; key = f; value = g }

-- where a timestamp was given, 0 is at most one that was
nothing_given : (es : List Event) (s : ℕ) → WasGiven es s → WasGiven es 0
nothing_given es s w = (w.0, w.1, w.2, w.3, w.4, w.5, omega arith)

has_itself : (k : Key) → has_key (k ∷ []) k ≡ true
has_itself k = let e = key_itself k in rw e refl

-- A delivery that finds nothing to handle.

delivery_skipped : (ls : List Line) (rows : List Row) (outs : List Outcome) (t : Ticket) → IsQuietLine (Deliver t) ls rows outs Skipped
delivery_skipped ls rows outs t = record {
  over = refl;
  no_begin = λ client e. cc;
  leaves = λ x. record { status = refl; writes = refl };
  skips = λ x u call e c k. absurd (cc);
}

skips : (es : List Event) (l : Lists) (ls : List Line) (t : Ticket) → why_after ls (Deliver t) ≡ None → is_out es t && not (is_served es t) ≡ false → StandsAt es l ls → StandsSo (opened l Plain Skipped (length l.outcomes + 1)) (Deliver t ∷ ls)
skips es l ls t good e s = quiet_stands es l (Deliver t) ls Skipped (length l.outcomes + 1) (next_is (length l.outcomes)) good refl refl (delivery_skipped ls l.rows l.outcomes t) (sym (ap (λ (b : Bool). if b then Done else Skipped) e)) s

-- A delivery of the request at place p.
module _ (es : List Event) (l : Lists) (ls : List Line) (t : Ticket) (p : ℕ) (good : why_after ls (Deliver t) ≡ None) (at : position l.tickets t ≡ Some p) (out : is_out es t ≡ true) (unserved : is_served es t ≡ false) (s : StandsAt es l ls) where
  r : Request
  r = request_at l.sent p

  o : Reply
  o = (table l.store (request_at l.sent p)).reply

  after : Store
  after = (table l.store (request_at l.sent p)).store

  events : List Event
  events = Took t (request_at l.sent p) (table l.store (request_at l.sent p)).reply ∷ Served t (request_at l.sent p) (table l.store (request_at l.sent p)).reply ∷ es

  mail : MailFits (Took t (request_at l.sent p) (table l.store (request_at l.sent p)).reply ∷ Served t (request_at l.sent p) (table l.store (request_at l.sent p)).reply ∷ es) (Deliver t ∷ ls) (table l.store (request_at l.sent p)).store l.sent (set l.letters p (record { served = true; gone = true })) (l.tickets ++ [] ∷ []) (l.outcomes ++ Done ∷ []) (l.served ++ t ∷ [])
  mail = mail_delivered es ls l.store l.sent l.letters l.tickets l.outcomes l.served t p at s.mail

  asked : sent_request es t ≡ Some (request_at l.sent p)
  asked = sent_at es ls l.store l.sent l.letters l.tickets l.outcomes l.served t p at s.mail

  request_is : (q : Request) → sent_request es t ≡ Some q → request_at l.sent p ≡ q
  request_is q e = let a = asked in same (request_at l.sent p) q (sym a ∙ e)
    where
      same : (a b : Request) → ◌≡◌ {A = Option Request} (Some a) (Some b) → a ≡ b
      same a b f = cc

  cause : (o' : Outcome) → o' ≡ Done → HasCause (outcome_of l.outcomes) ls es (Deliver t) o'
  cause o' is =
      let both : is_out es t && not (is_served es t) ≡ true = rw (out, unserved) refl in
      is ∙ sym (ap (λ (b : Bool). if b then Done else Skipped) both)

  delivered : Licensed (Took t (request_at l.sent p) (table l.store (request_at l.sent p)).reply ∷ Served t (request_at l.sent p) (table l.store (request_at l.sent p)).reply ∷ es) l.rows l.outcomes
  delivered = licensed_delivered es l.rows l.outcomes t (request_at l.sent p) (table l.store (request_at l.sent p)).reply asked (ap (λ st. (table st (request_at l.sent p)).reply) s.mail.stored) never_handled room s.licensed
    where
      no_reply : (x : Option Reply) → is_some x ≡ false → x ≡ None
      no_reply None e = refl
      no_reply (Some y) e = absurd (cc)

      never_handled : IsUnserved es t
      never_handled = untouched es t (no_reply (kept_reply es t) unserved) (sym (ap (λ h. is_refused h t) s.mail.is) ∙ none_refused l.sent l.outcomes ls t)

      room : IsRoomy (store_after es)
      room = subst (λ (st : Store). IsRoomy st) s.mail.stored (let a = s.fits.lone.last in let b = s.fits.lone.few in omega arith)

  -- The lists once the request is handled.
  handling : Lists
  handling = handled (opened l Plain Done (length l.outcomes + 1)) p t

  opened_extends : Extends ls l.sent l.sent l.outcomes (l.outcomes ++ Done ∷ []) l.ended (l.ended ++ (length l.outcomes + 1) ∷ [])
  opened_extends = extends_open ls l.sent l.outcomes l.ended Done (length l.outcomes + 1) s.fits.told s.fits.times.counted (inr (next_is (length l.outcomes)))

  longer : length (l.outcomes ++ Done ∷ []) ≡ suc (length ls)
  longer = let a = length-append l.outcomes (Done ∷ []) in let b = s.fits.told in omega arith

  ended_longer : length (l.ended ++ (length l.outcomes + 1) ∷ []) ≡ length (l.outcomes ++ Done ∷ [])
  ended_longer = let a = length-append l.outcomes (Done ∷ []) in let b = length-append l.ended ((length l.outcomes + 1) ∷ []) in let c = s.fits.times.counted in omega arith

  newest_done : outcome_of (l.outcomes ++ Done ∷ []) (suc (length ls)) ≡ Done
  newest_done = last_outcome (Deliver t) ls l.rows Plain l.outcomes Done s.fits.told s.fits.rowed.counted

  vacant : (n : ℕ) → 1 ≤ n → n ≤ length ls → outcome_of l.outcomes n ≡ Unfinished → slice_get (l.outcomes ++ Done ∷ []) (n - 1) ≡ Some Unfinished
  vacant n one last e = at_place n one last e
    where
      at_place : (m : ℕ) → 1 ≤ m → m ≤ length ls → outcome_of l.outcomes m ≡ Unfinished → slice_get (l.outcomes ++ Done ∷ []) (m - 1) ≡ Some Unfinished
      at_place zero a b c = absurd (omega arith)
      at_place (suc i) a b c =
          let q : suc i - 1 ≡ i = omega arith in
          let d = s.fits.told in
          let inside : i < length l.outcomes = omega arith in
          subst (λ j. slice_get (l.outcomes ++ Done ∷ []) j ≡ Some Unfinished) (sym q) (get_old l.outcomes (Done ∷ []) i Unfinished (slice_get-get_or l.outcomes i Unfinished inside ∙ ap (λ z. Some z) c))

  row_stays : (n : ℕ) (k : Row) → row_at l.rows n ≡ Some k → row_at (l.rows ++ Plain ∷ []) n ≡ Some k
  row_stays n k e = old_row (Deliver t) ls l.rows Plain l.outcomes Done s.fits.told s.fits.rowed.counted n k e

  -- A begin is answered.
  begin_answered : BeginAwaits es l.rows t → StandsSo (passed (handled (opened l Plain Done (length l.outcomes + 1)) p t) t.line (reply_at l p)) (Deliver t ∷ ls)
  begin_answered b =
      let h = s.fits.rowed.fits t.line Beginning b.row in
      let w = line_within ls t.line (Begin h.client) h.line in
      let is : request_at l.sent p ≡ ask_one = request_is ask_one b.asks in
      let n : ℕ = l.store.last + 1 in
      let lone = s.fits.lone in
      let small : n < 2 ^ 64 = (let a = lone.last in let c = lone.few in omega arith) in
      let gives : start_in (reply_at l p) ≡ Some n = ap (λ q. start_in (table l.store q).reply) is ∙ ap start_in (tso_reply l.store lone.clock) ∙ version_back n small in
      let l1 : Lists = handled (opened l Plain Done (length l.outcomes + 1)) p t in
      let new : Transaction = record { start = n; status = Active; put = None; call = None } in
      let l2 : Lists = ended_at (row_set l1 t.line (Running new)) t.line (Ok (Number n)) in
      let stored : (table l.store (request_at l.sent p)).store ≡ record l.store { last = l.store.last + 1 } = ap (λ q. (table l.store q).store) is ∙ tso_store l.store lone.clock in
      let passes : passed l1 t.line (reply_at l p) ≡ l2 = ap (λ q. passed_in l1 t.line (reply_at l p) q) (row_stays t.line Beginning b.row) ∙ ap (λ q. begun l1 t.line q) gives in
      let a1 = w.0 in
      let a2 = w.1 in
      let apart : suc (length ls) ≢ t.line = λ e. omega arith in
      let fits' = fits_start es t (request_at l.sent p) (table l.store (request_at l.sent p)).reply ls l.store l.rows l.outcomes l.ended good out s.fits (table l.store (request_at l.sent p)).store n b (ap (λ z. z.regions) stored) (ap (λ z. z.clock) stored) (ap (λ z. z.cells) stored) (let a = ap (λ z. z.last) stored in let c = lone.last in omega arith) in
      subst (λ z. StandsSo z (Deliver t ∷ ls)) (sym passes) (
        Took t (request_at l.sent p) (table l.store (request_at l.sent p)).reply ∷ Served t (request_at l.sent p) (table l.store (request_at l.sent p)).reply ∷ es,
        close es (Took t (request_at l.sent p) (table l.store (request_at l.sent p)).reply ∷ Served t (request_at l.sent p) (table l.store (request_at l.sent p)).reply ∷ es) l l2 (Deliver t) ls s
            (extends_then ls l.sent l.sent l.sent l.outcomes l1.outcomes l2.outcomes l.ended l1.ended l2.ended opened_extends
            (extends_set ls l.sent l1.outcomes l1.ended t.line (Begin h.client) (Ok (Number n)) ended_longer longer h.line (outcome_old l.outcomes Done t.line (let d = s.fits.told in omega arith) ∙ h.waits) refl (n, refl)))
            (cause (outcome_of l2.outcomes (suc (length ls))) (outcome_other l1.outcomes t.line (suc (length ls)) (Ok (Number n)) a1 apart ∙ newest_done))
            (mail_ended (Took t (request_at l.sent p) (table l.store (request_at l.sent p)).reply ∷ Served t (request_at l.sent p) (table l.store (request_at l.sent p)).reply ∷ es) (Deliver t ∷ ls) (table l.store (request_at l.sent p)).store l.sent (set l.letters p (record { served = true; gone = true })) (l.tickets ++ [] ∷ []) (l.outcomes ++ Done ∷ []) (l.served ++ t ∷ []) (t.line - 1) (Ok (Number n)) (vacant t.line a1 a2 h.waits) refl mail)
            (subst (λ e. Fits (Took t (request_at l.sent p) (table l.store (request_at l.sent p)).reply ∷ Served t (request_at l.sent p) (table l.store (request_at l.sent p)).reply ∷ es) (Deliver t ∷ ls) (table l.store (request_at l.sent p)).store (set (l.rows ++ Plain ∷ []) (t.line - 1) (Running new)) (set (l.outcomes ++ Done ∷ []) (t.line - 1) (Ok (Number n))) (set (l.ended ++ e ∷ []) (t.line - 1) (length (l.outcomes ++ Done ∷ [])))) (sym (next_is (length l.outcomes))) fits')
            s.asks
            (begun_licensed n b is (ap (λ q. (table l.store q).reply) is ∙ tso_reply l.store lone.clock))
            (counted_rows l.sent l.rows (set (l.rows ++ Plain ∷ []) (t.line - 1) (Running new)) (opens_then l.rows (l.rows ++ Plain ∷ []) (set (l.rows ++ Plain ∷ []) (t.line - 1) (Running new)) (opens_push l.rows Plain (λ v q. cc)) (opens_set (l.rows ++ Plain ∷ []) t.line Beginning new (row_stays t.line Beginning b.row) refl)) s.counted),
      )
    where
      begun_licensed : (n : ℕ) → BeginAwaits es l.rows t → (request_at l.sent p) ≡ ask_one → (table l.store (request_at l.sent p)).reply ≡ Gave (record { count = 1; timestamp = Some (timestamp_of n) })
          → Licensed (Took t (request_at l.sent p) (table l.store (request_at l.sent p)).reply ∷ Served t (request_at l.sent p) (table l.store (request_at l.sent p)).reply ∷ es) (set (l.rows ++ Plain ∷ []) (t.line - 1) (Running (record { start = n; status = Active; put = None; call = None }))) (set (l.outcomes ++ Done ∷ []) (t.line - 1) (Ok (Number n)))
      begun_licensed n b is gave =
          let new : Transaction = record { start = n; status = Active; put = None; call = None } in
          let rows1 : List Row = l.rows ++ Plain ∷ [] in
          let at1 : row_at (l.rows ++ Plain ∷ []) t.line ≡ Some Beginning = row_stays t.line Beginning b.row in
          let keeps = keeps_then l.rows rows1 (set rows1 (t.line - 1) (Running new)) (keeps_push l.rows Plain) (keeps_begun rows1 t.line new at1) in
          let h = delivered in
          let version = version_of-timestamp_of n in
          record {
            run = λ k v g. h.run k v (agrees_back l.rows (set rows1 (t.line - 1) (Running new)) k v keeps.settles g);
            given = λ x u e. elim (row_put rows1 t.line x (Running new) (Running u) Beginning at1 e) [
              | inl a ↦ subst (λ (z : Transaction). WasGiven (Took t (request_at l.sent p) (table l.store (request_at l.sent p)).reply ∷ Served t (request_at l.sent p) (table l.store (request_at l.sent p)).reply ∷ es) z.start) (running_is new u a.1) (t, record { count = 1 }, record { count = 1; timestamp = Some (timestamp_of n) }, n, inl (λ i. Took t (is i) (gave i)), (timestamp_of n, refl, omega arith, omega arith), omega arith)
              | inr a ↦ (let w = starts_push l.rows Plain (λ v q. cc) x u a.1 in subst (λ m. WasGiven (Took t (request_at l.sent p) (table l.store (request_at l.sent p)).reply ∷ Served t (request_at l.sent p) (table l.store (request_at l.sent p)).reply ∷ es) m) (sym w.2) (h.given x w.0 w.1))
            ];
            owned = λ u r q. let w = h.owned u r q in (w.0, w.1, keeps.stays w.0 w.1 w.2 w.3, w.3);
            answered = λ m c e. was_kept (Took t (request_at l.sent p) (table l.store (request_at l.sent p)).reply ∷ Served t (request_at l.sent p) (table l.store (request_at l.sent p)).reply ∷ es) l.rows (set rows1 (t.line - 1) (Running new)) keeps.stays c (h.answered m c (pushed_commit l.outcomes Done m c refl (set_commit (l.outcomes ++ Done ∷ []) (t.line - 1) (Ok (Number n)) m c refl e)));
          }

  -- A commit is answered.
  module _ (a : CommitAwaits es l.rows t) where
    row : RunningFits ls l.rows l.outcomes a.x a.t
    row = s.fits.rowed.fits a.x (Running a.t) a.running

    calls : CommitFits ls l.rows l.outcomes a.x a.t a.call
    calls = let h = s.fits.rowed.fits a.x (Running a.t) a.running in subst (λ c. CallFits ls l.rows l.outcomes a.x a.t c) a.calls h.call

    cells : StageCells l.store.cells a.t.start a.put a.call.stage
    cells = subst (λ z. CallCells l.store.cells a.t (Some a.call) z) a.puts (subst (λ c. CallCells l.store.cells a.t c a.t.put) a.calls (s.fits.lone.cells a.x a.t a.running))

    asks : request_at l.sent p ≡ asked_at a.t.start a.put a.call.stage
    asks = request_is (asked_at a.t.start a.put a.call.stage) a.asks

    turns : (reply : Reply) → turned a.t reply ≡ stage_turned a.t a.call.line a.call.stage reply
    turns reply =
        let q : a.t ≡ record a.t { call = Some a.call } = λ i. record a.t { call = a.calls i } in
        subst (λ z. turned z reply ≡ stage_turned z a.call.line a.call.stage reply) (sym q) refl

    passes : (z : Step) → stage_turned a.t a.call.line a.call.stage (reply_at l p) ≡ z → passed (handled (opened l Plain Done (length l.outcomes + 1)) p t) t.line (reply_at l p) ≡ followed (row_set (handled (opened l Plain Done (length l.outcomes + 1)) p t) a.x (Running z.transaction)) t.line z.turn
    passes z e =
        let l1 : Lists = handled (opened l Plain Done (length l.outcomes + 1)) p t in
        ap (λ q. passed_in l1 t.line (reply_at l p) q) (row_stays t.line (Committing a.x) a.row)
        ∙ ap (λ q. advanced l1 a.x t.line (reply_at l p) q) (row_stays a.x (Running a.t) a.running)
        ∙ ap (λ (y : Step). followed (row_set l1 a.x (Running y.transaction)) t.line y.turn) (turns (reply_at l p) ∙ e)

    within_line : (1 ≤ t.line) × (t.line ≤ length ls)
    within_line = subst (λ n. (1 ≤ n) × (n ≤ length ls)) a.own (line_within ls a.call.line (Commit a.x) calls.line)

    -- its Commit is still to be sent
    waiting : is_last a.call.stage ≡ false → has_committed a.t ≡ false
    waiting e = let k = calls in not_committed a.t (Some a.call) StartedCommit a.calls k.started e refl

    has_begun : a.t.status ≢ Active
    has_begun e = let k = calls in let z = k.started in cc

    opened_at : row_at (l.rows ++ Plain ∷ []) a.x ≡ Some (Running a.t)
    opened_at = row_stays a.x (Running a.t) a.running

    -- it sends its next request
    goes : (stage : Stage) (to : Target) → is_last a.call.stage ≡ false → stage_number stage ≡ stage_number a.call.stage + 1
        → ((k : Key) (v : List ℕ) → a.put.key ≡ k → a.put.value ≡ v → IsLicensed (λ z. lone_plan k v) (Took t (request_at l.sent p) (table l.store (request_at l.sent p)).reply ∷ Served t (request_at l.sent p) (table l.store (request_at l.sent p)).reply ∷ es) (asked_at a.t.start a.put stage))
        → ((tk : Ticket) → StageAsked (Sent tk (asked_at a.t.start a.put stage) ∷ Took t (request_at l.sent p) (table l.store (request_at l.sent p)).reply ∷ Served t (request_at l.sent p) (table l.store (request_at l.sent p)).reply ∷ es) a.t.start a.put stage tk) → (table l.store (request_at l.sent p)).store.regions ≡ l.store.regions → (table l.store (request_at l.sent p)).store.clock ≡ l.store.clock → (table l.store (request_at l.sent p)).store.last ≤ suc (length l.outcomes) → StageCells (table l.store (request_at l.sent p)).store.cells a.t.start a.put stage
        → stage_turned a.t a.call.line a.call.stage (reply_at l p) ≡ sends (at_stage a.t a.call.line stage) to (asked_at a.t.start a.put stage) → StandsSo (passed (handled (opened l Plain Done (length l.outcomes + 1)) p t) t.line (reply_at l p)) (Deliver t ∷ ls)
    goes stage to early next licence told regions clock last now turn =
        let l1 : Lists = handled (opened l Plain Done (length l.outcomes + 1)) p t in
        let u : Transaction = at_stage a.t a.call.line stage in
        let q : Request = asked_at a.t.start a.put stage in
        let l2 : Lists = sent_more (row_set l1 a.x (Running u)) t.line to q in
        let tk : Ticket = ticket_after l1.tickets t.line in
        let fresh : sent_request (Took t (request_at l.sent p) (table l.store (request_at l.sent p)).reply ∷ Served t (request_at l.sent p) (table l.store (request_at l.sent p)).reply ∷ es) tk ≡ None = mail.listed tk ∙ ap (λ z. request_in l.sent z) (position_fresh l1.tickets t.line) in
        let w = within_line in
        let a1 = w.0 in
        let a2 = w.1 in
        let a3 = mail.rowed in
        let a4 = longer in
        let fits' = fits_sends es t (request_at l.sent p) (table l.store (request_at l.sent p)).reply ls l.store l.rows l.outcomes l.ended good out s.fits a stage tk (table l.store (request_at l.sent p)).store regions clock last now (sym a.own) refl fresh (mail.unsent tk fresh).1 (told tk) in
        subst (λ z. StandsSo z (Deliver t ∷ ls)) (sym (passes (sends u to q) turn)) (
          Sent tk q ∷ Took t (request_at l.sent p) (table l.store (request_at l.sent p)).reply ∷ Served t (request_at l.sent p) (table l.store (request_at l.sent p)).reply ∷ es,
          close es (Sent tk q ∷ Took t (request_at l.sent p) (table l.store (request_at l.sent p)).reply ∷ Served t (request_at l.sent p) (table l.store (request_at l.sent p)).reply ∷ es) l l2 (Deliver t) ls s
              (extends_then ls l.sent l.sent l2.sent l.outcomes l1.outcomes l2.outcomes l.ended l1.ended l2.ended opened_extends (extends_send ls l.sent l1.outcomes l1.ended (note_of l1.tickets t.line (length l1.outcomes) to q) longer))
              (cause (outcome_of l2.outcomes (suc (length ls))) newest_done)
              (mail_sent (Took t (request_at l.sent p) (table l.store (request_at l.sent p)).reply ∷ Served t (request_at l.sent p) (table l.store (request_at l.sent p)).reply ∷ es) (Deliver t) ls (table l.store (request_at l.sent p)).store l.sent (set l.letters p (record { served = true; gone = true })) (l.tickets ++ [] ∷ []) (l.outcomes ++ Done ∷ []) (l.served ++ t ∷ []) t.line to q a1 (omega arith) mail)
              (subst (λ e. Fits (Sent tk q ∷ Took t (request_at l.sent p) (table l.store (request_at l.sent p)).reply ∷ Served t (request_at l.sent p) (table l.store (request_at l.sent p)).reply ∷ es) (Deliver t ∷ ls) (table l.store (request_at l.sent p)).store (set (l.rows ++ Plain ∷ []) (a.x - 1) (Running u)) (l.outcomes ++ Done ∷ []) (l.ended ++ e ∷ [])) (sym (next_is (length l.outcomes))) fits')
              (asks_push l.sent (note_of l1.tickets t.line (length l1.outcomes) to q) s.asks (asked_one a.t.start a.put stage))
              (sent_licensed stage tk early licence (unused (Took t (request_at l.sent p) (table l.store (request_at l.sent p)).reply ∷ Served t (request_at l.sent p) (table l.store (request_at l.sent p)).reply ∷ es) tk fresh))
              (sent_counted stage to tk next refl),
        )
      where
        sent_counted : (stage : Stage) (to : Target) (tk : Ticket) → stage_number stage ≡ stage_number a.call.stage + 1 → tk.line ≡ t.line
            → IsCounted (l.sent ++ record { ticket = tk; at = length (l.outcomes ++ Done ∷ []); to = to; request = asked_at a.t.start a.put stage; askers = askers_of t.line (asked_at a.t.start a.put stage) } ∷ []) (set (l.rows ++ Plain ∷ []) (a.x - 1) (Running (at_stage a.t a.call.line stage)))
        sent_counted stage to tk next own =
            let u : Transaction = at_stage a.t a.call.line stage in
            let rows1 : List Row = l.rows ++ Plain ∷ [] in
            let c = s.counted in
            let known : sent_of tk.line l.sent ≡ stage_number a.call.stage = ap (λ n. sent_of n l.sent) (own ∙ sym a.own) ∙ c.stage a.x a.t a.call a.running a.calls in
            let most = stage_most stage in
            counted_sent l.sent l.rows (set rows1 (a.x - 1) (Running u)) (record { ticket = tk; at = length (l.outcomes ++ Done ∷ []); to = to; request = asked_at a.t.start a.put stage; askers = askers_of t.line (asked_at a.t.start a.put stage) }) (stage_number a.call.stage) known (omega arith) c
            (λ y w call e f. elim (row_put rows1 a.x y (Running u) (Running w) (Running a.t) opened_at e) [
              | inl b ↦ inl (goes_call tk.line own w call (running_is u w b.1) f)
              | inr b ↦ absurd (b.0 (only y w b.1))
            ])
          where
            goes_call : (line : ℕ) → line ≡ t.line → (w : Transaction) (call : CommitCall) → at_stage a.t a.call.line stage ≡ w → w.call ≡ Some call → (line ≡ call.line) × (stage_number call.stage ≡ stage_number a.call.stage + 1)
            goes_call line own w call same f =
                let c : ◌≡◌ {A = Option CommitCall} (Some (record { line = a.call.line; stage = stage })) (Some call) = ap (λ z. z.call) same ∙ f in
                let d = call_is (record { line = a.call.line; stage = stage }) call c in
                (own ∙ sym a.own ∙ ap (λ z. z.line) d, sym (ap (λ z. stage_number z.stage) d) ∙ next)

            only : (y : ℕ) (w : Transaction) → row_at (l.rows ++ Plain ∷ []) y ≡ Some (Running w) → y ≡ a.x
            only y w e =
                let z = starts_push l.rows Plain (λ v q. cc) y w e in
                let k = s.fits.rowed.fits y (Running z.0) z.1 in
                let j = s.fits.rowed.fits a.x (Running a.t) a.running in
                one_begin ls y a.x k.client j.client s.fits.good k.line j.line

        sent_licensed : (stage : Stage) (tk : Ticket) → is_last a.call.stage ≡ false
            → ((k : Key) (v : List ℕ) → a.put.key ≡ k → a.put.value ≡ v → IsLicensed (λ z. lone_plan k v) (Took t (request_at l.sent p) (table l.store (request_at l.sent p)).reply ∷ Served t (request_at l.sent p) (table l.store (request_at l.sent p)).reply ∷ es) (asked_at a.t.start a.put stage)) → IsUnused (Took t (request_at l.sent p) (table l.store (request_at l.sent p)).reply ∷ Served t (request_at l.sent p) (table l.store (request_at l.sent p)).reply ∷ es) tk
            → Licensed (Sent tk (asked_at a.t.start a.put stage) ∷ Took t (request_at l.sent p) (table l.store (request_at l.sent p)).reply ∷ Served t (request_at l.sent p) (table l.store (request_at l.sent p)).reply ∷ es) (set (l.rows ++ Plain ∷ []) (a.x - 1) (Running (at_stage a.t a.call.line stage))) (l.outcomes ++ Done ∷ [])
        sent_licensed stage tk early licence free =
            let u : Transaction = at_stage a.t a.call.line stage in
            let rows1 : List Row = l.rows ++ Plain ∷ [] in
            let rows2 : List Row = set rows1 (a.x - 1) (Running u) in
            let now : row_at rows2 a.x ≡ Some (Running u) = row_same rows1 a.x (Running u) (Running a.t) opened_at in
            licensed_sent (Took t (request_at l.sent p) (table l.store (request_at l.sent p)).reply ∷ Served t (request_at l.sent p) (table l.store (request_at l.sent p)).reply ∷ es) rows2 (l.outcomes ++ Done ∷ []) tk (asked_at a.t.start a.put stage) free (asked_covered a.t.start a.put stage)
            (λ k v g. let z = g a.x u a.put now a.puts has_begun in licence k v z.0 z.1)
            (λ r e. (a.x, u, now, ap (λ z. z || is_committed a.t.status) (asked_last a.t.start a.put stage r e)))
            (licensed_rows (Took t (request_at l.sent p) (table l.store (request_at l.sent p)).reply ∷ Served t (request_at l.sent p) (table l.store (request_at l.sent p)).reply ∷ es) l.rows rows2 l.outcomes (l.outcomes ++ Done ∷ [])
            (keeps_then l.rows rows1 rows2 (keeps_push l.rows Plain) (keeps_on rows1 a.x a.t u opened_at refl has_begun (waiting early)))
            (starts_then l.rows rows1 rows2 (starts_push l.rows Plain (λ w e. cc)) (starts_set rows1 a.x a.t u opened_at refl))
            (λ n c e. pushed_commit l.outcomes Done n c refl e) delivered)

    -- it is over
    is_over : (c : ℕ) → PrimaryCommitted (lone_plan a.put.key a.put.value) (Took t (request_at l.sent p) (table l.store (request_at l.sent p)).reply ∷ Served t (request_at l.sent p) (table l.store (request_at l.sent p)).reply ∷ es) a.t.start c → (table l.store (request_at l.sent p)).store.regions ≡ l.store.regions → (table l.store (request_at l.sent p)).store.clock ≡ l.store.clock → (table l.store (request_at l.sent p)).store.last ≤ suc (length l.outcomes)
        → stage_turned a.t a.call.line a.call.stage (reply_at l p) ≡ ends (record a.t { status = Committed }) (Ok (Committed_at (Some c))) → StandsSo (passed (handled (opened l Plain Done (length l.outcomes + 1)) p t) t.line (reply_at l p)) (Deliver t ∷ ls)
    is_over c was regions clock last turn =
        let l1 : Lists = handled (opened l Plain Done (length l.outcomes + 1)) p t in
        let u : Transaction = record a.t { status = Committed; call = None } in
        let v : Outcome = Ok (Committed_at (Some c)) in
        let l2 : Lists = ended_at (row_set l1 a.x (Running u)) t.line v in
        let k = calls in
        let w = within_line in
        let a1 = w.0 in
        let a2 = w.1 in
        let d = s.fits.told in
        let apart : suc (length ls) ≢ t.line = λ e. omega arith in
        let line_is : line_at ls t.line ≡ Some (Commit a.x) = subst (λ n. line_at ls n ≡ Some (Commit a.x)) a.own k.line in
        let waits_at : outcome_of l.outcomes t.line ≡ Unfinished = subst (λ n. outcome_of l.outcomes n ≡ Unfinished) a.own k.waits in
        let fits' = fits_ends es t (request_at l.sent p) (table l.store (request_at l.sent p)).reply ls l.store l.rows l.outcomes l.ended good out s.fits a c (table l.store (request_at l.sent p)).store regions clock last in
        let es' : List Event = Took t (request_at l.sent p) (table l.store (request_at l.sent p)).reply ∷ Served t (request_at l.sent p) (table l.store (request_at l.sent p)).reply ∷ es in
        subst (λ z. StandsSo z (Deliver t ∷ ls)) (sym (passes (ends (record a.t { status = Committed }) v) turn)) (
          es',
          close es (Took t (request_at l.sent p) (table l.store (request_at l.sent p)).reply ∷ Served t (request_at l.sent p) (table l.store (request_at l.sent p)).reply ∷ es) l l2 (Deliver t) ls s
              (extends_then ls l.sent l.sent l.sent l.outcomes l1.outcomes l2.outcomes l.ended l1.ended l2.ended opened_extends
              (extends_set ls l.sent l1.outcomes l1.ended t.line (Commit a.x) v ended_longer longer line_is (outcome_old l.outcomes Done t.line (omega arith) ∙ waits_at) refl (c, refl)))
              (cause (outcome_of l2.outcomes (suc (length ls))) (outcome_other l1.outcomes t.line (suc (length ls)) v a1 apart ∙ newest_done))
              (mail_ended (Took t (request_at l.sent p) (table l.store (request_at l.sent p)).reply ∷ Served t (request_at l.sent p) (table l.store (request_at l.sent p)).reply ∷ es) (Deliver t ∷ ls) (table l.store (request_at l.sent p)).store l.sent (set l.letters p (record { served = true; gone = true })) (l.tickets ++ [] ∷ []) (l.outcomes ++ Done ∷ []) (l.served ++ t ∷ []) (t.line - 1) v (vacant t.line a1 a2 waits_at) refl mail)
              (subst₂ (λ e n. Fits (Took t (request_at l.sent p) (table l.store (request_at l.sent p)).reply ∷ Served t (request_at l.sent p) (table l.store (request_at l.sent p)).reply ∷ es) (Deliver t ∷ ls) (table l.store (request_at l.sent p)).store (set (l.rows ++ Plain ∷ []) (a.x - 1) (Running u)) (set (l.outcomes ++ Done ∷ []) (n - 1) (Ok (Committed_at (Some c)))) (set (l.ended ++ e ∷ []) (n - 1) (length (l.outcomes ++ Done ∷ [])))) (sym (next_is (length l.outcomes))) a.own fits')
              s.asks
              (over_licensed c was a1 (let z = longer in omega arith))
              (counted_rows l.sent l.rows (set (l.rows ++ Plain ∷ []) (a.x - 1) (Running u)) (opens_then l.rows (l.rows ++ Plain ∷ []) (set (l.rows ++ Plain ∷ []) (a.x - 1) (Running u)) (opens_push l.rows Plain (λ z q. cc)) (opens_set (l.rows ++ Plain ∷ []) a.x (Running a.t) u opened_at refl)) s.counted),
        )
      where
        over_licensed : (c : ℕ) → PrimaryCommitted (lone_plan a.put.key a.put.value) (Took t (request_at l.sent p) (table l.store (request_at l.sent p)).reply ∷ Served t (request_at l.sent p) (table l.store (request_at l.sent p)).reply ∷ es) a.t.start c → 1 ≤ t.line → t.line ≤ length (l.outcomes ++ Done ∷ [])
            → Licensed (Took t (request_at l.sent p) (table l.store (request_at l.sent p)).reply ∷ Served t (request_at l.sent p) (table l.store (request_at l.sent p)).reply ∷ es) (set (l.rows ++ Plain ∷ []) (a.x - 1) (Running (record a.t { status = Committed; call = None }))) (set (l.outcomes ++ Done ∷ []) (t.line - 1) (Ok (Committed_at (Some c))))
        over_licensed c was first last =
            let u : Transaction = record a.t { status = Committed; call = None } in
            let rows1 : List Row = l.rows ++ Plain ∷ [] in
            let rows2 : List Row = set rows1 (a.x - 1) (Running u) in
            let h = delivered in
            let now : row_at rows2 a.x ≡ Some (Running u) = row_same rows1 a.x (Running u) (Running a.t) opened_at in
            let keeps = keeps_push l.rows Plain in
            record {
              run = λ k v g. h.run k v (agrees_back l.rows rows2 k v (settles_then l.rows rows1 rows2 keeps.settles (settles_on rows1 a.x a.t u opened_at refl (λ e. cc))) g);
              given = λ y w e. let z = starts_then l.rows rows1 rows2 (starts_push l.rows Plain (λ v q. cc)) (starts_set rows1 a.x a.t u opened_at refl) y w e in subst (λ m. WasGiven (Took t (request_at l.sent p) (table l.store (request_at l.sent p)).reply ∷ Served t (request_at l.sent p) (table l.store (request_at l.sent p)).reply ∷ es) m) (sym z.2) (h.given y z.0 z.1);
              owned = λ w r q. (a.x, u, now, refl);
              answered = λ n d e. by_place n d now e (nat_eq n t.line) refl;
            }
          where
            committed_is : (d : ℕ) → ◌≡◌ {A = Outcome} (Ok (Committed_at (Some c))) (Ok (Committed_at (Some d))) → c ≡ d
            committed_is d e = cc

            apart : (y : ℕ) (w : Transaction) → row_at l.rows y ≡ Some (Running w) → w.status ≡ Committed → y ≢ a.x
            apart y w e over is =
                let same = running_is w a.t (same_row (Running w) (Running a.t) (sym (subst (λ i. row_at l.rows i ≡ Some (Running w)) is e) ∙ a.running)) in
                let k = calls in
                let z : Committed ≡ StartedCommit = sym over ∙ ap (λ v. v.status) same ∙ k.started in
                cc

            kept : (d : ℕ) → WasCommitted (Took t (request_at l.sent p) (table l.store (request_at l.sent p)).reply ∷ Served t (request_at l.sent p) (table l.store (request_at l.sent p)).reply ∷ es) l.rows d → WasCommitted (Took t (request_at l.sent p) (table l.store (request_at l.sent p)).reply ∷ Served t (request_at l.sent p) (table l.store (request_at l.sent p)).reply ∷ es) (set (l.rows ++ Plain ∷ []) (a.x - 1) (Running (record a.t { status = Committed; call = None }))) d
            kept d w = record {
              x = w.x;
              t = w.t;
              put = w.put;
              running = row_other (l.rows ++ Plain ∷ []) a.x w.x (Running (record a.t { status = Committed; call = None })) (row_within l.rows a.x (Running a.t) a.running).0 (apart w.x w.t w.running w.over) ∙ row_pushed l.rows Plain (Running w.t) w.x w.running;
              puts = w.puts;
              over = w.over;
              told = w.told;
            }

            by_place : (n d : ℕ) → row_at (set (l.rows ++ Plain ∷ []) (a.x - 1) (Running (record a.t { status = Committed; call = None }))) a.x ≡ Some (Running (record a.t { status = Committed; call = None }))
                → outcome_of (set (l.outcomes ++ Done ∷ []) (t.line - 1) (Ok (Committed_at (Some c)))) n ≡ Ok (Committed_at (Some d)) → (b : Bool) → nat_eq n t.line ≡ b
                → WasCommitted (Took t (request_at l.sent p) (table l.store (request_at l.sent p)).reply ∷ Served t (request_at l.sent p) (table l.store (request_at l.sent p)).reply ∷ es) (set (l.rows ++ Plain ∷ []) (a.x - 1) (Running (record a.t { status = Committed; call = None }))) d
            by_place n d now e true q =
                let is : n ≡ t.line = grind (arith, nat_tests) in
                let same = committed_is d (sym (outcome_same (l.outcomes ++ Done ∷ []) t.line (Ok (Committed_at (Some c))) first last) ∙ subst (λ i. outcome_of (set (l.outcomes ++ Done ∷ []) (t.line - 1) (Ok (Committed_at (Some c)))) i ≡ Ok (Committed_at (Some d))) is e) in
                record { x = a.x; t = record a.t { status = Committed; call = None }; put = a.put; running = now; puts = a.puts; over = refl; told = subst (λ m. PrimaryCommitted (lone_plan a.put.key a.put.value) (Took t (request_at l.sent p) (table l.store (request_at l.sent p)).reply ∷ Served t (request_at l.sent p) (table l.store (request_at l.sent p)).reply ∷ es) a.t.start m) same was }
            by_place n d now e false q =
                let elsewhere : n ≢ t.line = grind (arith, nat_tests) in
                let h = delivered in
                kept d (h.answered n d (pushed_commit l.outcomes Done n d refl (sym (outcome_other (l.outcomes ++ Done ∷ []) t.line n (Ok (Committed_at (Some c))) first elsewhere) ∙ e)))

    -- its start was given
    start_given : WasGiven (Took t (request_at l.sent p) (table l.store (request_at l.sent p)).reply ∷ Served t (request_at l.sent p) (table l.store (request_at l.sent p)).reply ∷ es) a.t.start
    start_given = let h = delivered in h.given a.x a.t a.running

    commit_answered : StandsSo (passed (handled (opened l Plain Done (length l.outcomes + 1)) p t) t.line (reply_at l p)) (Deliver t ∷ ls)
    commit_answered = by_stage a.call.stage refl
      where
        same_regions : (q : Request) → request_at l.sent p ≡ q → (table l.store q).store.regions ≡ l.store.regions → (table l.store (request_at l.sent p)).store.regions ≡ l.store.regions
        same_regions q e h = ap (λ z. (table l.store z).store.regions) e ∙ h

        -- no Commit was sent before
        unsent_commit : (place : Place) → a.call.stage ≡ Stamping place → (u : Ticket) (r : CommitRequest) → Has (Took t (request_at l.sent p) (table l.store (request_at l.sent p)).reply ∷ Served t (request_at l.sent p) (table l.store (request_at l.sent p)).reply ∷ es) (Sent u (Commit_request r)) → ⊥
        unsent_commit place e u r q =
            let h = delivered in
            let w = h.owned u r q in
            let k = s.fits.rowed.fits w.0 (Running w.1) w.2 in
            let j = s.fits.rowed.fits a.x (Running a.t) a.running in
            let is = one_begin ls w.0 a.x k.client j.client s.fits.good k.line j.line in
            let same = running_is w.1 a.t (same_row (Running w.1) (Running a.t) (sym (subst (λ i. row_at l.rows i ≡ Some (Running w.1)) is w.2) ∙ a.running)) in
            let z : true ≡ false = sym w.3 ∙ ap has_committed same ∙ waiting (ap is_last e) in
            cc

        stamped_licence : (place : Place) (n : ℕ) (k : Key) (v : List ℕ) → a.call.stage ≡ Stamping place → (request_at l.sent p) ≡ ask_one → (table l.store (request_at l.sent p)).reply ≡ Gave (record { count = 1; timestamp = Some (timestamp_of n) }) → a.put.key ≡ k → a.put.value ≡ v
            → CommitLicence (lone_plan k v) (Took t (request_at l.sent p) (table l.store (request_at l.sent p)).reply ∷ Served t (request_at l.sent p) (table l.store (request_at l.sent p)).reply ∷ es) (commit_request a.t.start a.put place n)
        stamped_licence place n k v e is gave f g =
            let asked_then : AskedAfter (lone_plan a.put.key a.put.value) es a.t.start t = subst (λ z. StageAsked es a.t.start a.put z t) e a.told in
            let after : AskedAfter (lone_plan k v) (Took t (request_at l.sent p) (table l.store (request_at l.sent p)).reply ∷ Served t (request_at l.sent p) (table l.store (request_at l.sent p)).reply ∷ es) a.t.start t = inr (inr (subst₂ (λ i j. AskedAfter (lone_plan i j) es a.t.start t) f g asked_then)) in
            let version = version_of-timestamp_of n in
            lone_commit k v (Took t (request_at l.sent p) (table l.store (request_at l.sent p)).reply ∷ Served t (request_at l.sent p) (table l.store (request_at l.sent p)).reply ∷ es) (commit_request a.t.start a.put place n) (ap (λ z. z ∷ []) f) (record {
              ready = (asked_ready (lone_plan k v) (Took t (request_at l.sent p) (table l.store (request_at l.sent p)).reply ∷ Served t (request_at l.sent p) (table l.store (request_at l.sent p)).reply ∷ es) a.t.start t after).0;
              asked = (t, record { count = 1 }, record { count = 1; timestamp = Some (timestamp_of n) }, after, inl (λ i. Took t (is i) (gave i)), (timestamp_of n, refl, omega arith, omega arith));
              same = λ d w. absurd (unsent_commit place e w.0 w.1 w.2);
            })

        by_stage : (stage : Stage) → a.call.stage ≡ stage → StandsSo (passed (handled (opened l Plain Done (length l.outcomes + 1)) p t) t.line (reply_at l p)) (Deliver t ∷ ls)
        by_stage FindingRegion e =
            let is : request_at l.sent p ≡ asked_at a.t.start a.put FindingRegion = asks ∙ ap (λ z. asked_at a.t.start a.put z) e in
            let none : l.store.cells ≡ [] = subst (λ z. StageCells l.store.cells a.t.start a.put z) e cells in
            let stored : (table l.store (request_at l.sent p)).store ≡ l.store = ap (λ q. (table l.store q).store) is in
            let replied : reply_at l p ≡ Got_region (record { region = Some (region_record first_region); leader = Some (leader_of first_region) }) = ap (λ q. (table l.store q).reply) is ∙ region_reply l.store _ s.fits.lone.regions in
            goes (FindingStore here) Placement (ap is_last e) (sym (ap (λ z. stage_number z + 1) e)) (λ k v f g. tt) (λ tk. tt) (ap (λ z. z.regions) stored) (ap (λ z. z.clock) stored) (let b = ap (λ z. z.last) stored in let c = s.fits.lone.last in omega arith) (ap (λ z. z.cells) stored ∙ none, refl)
            (ap (λ z. stage_turned a.t a.call.line z (reply_at l p)) e ∙ ap (λ z. stage_turned a.t a.call.line FindingRegion z) replied)
        by_stage (FindingStore place) e =
            let is : request_at l.sent p ≡ asked_at a.t.start a.put (FindingStore place) = asks ∙ ap (λ z. asked_at a.t.start a.put z) e in
            let held = subst (λ z. StageCells l.store.cells a.t.start a.put z) e cells in
            let stored : (table l.store (request_at l.sent p)).store ≡ l.store = ap (λ q. (table l.store q).store) is in
            let replied : reply_at l p ≡ Got_store (record { store = store_with_id l.store.stores place.store }) = ap (λ q. (table l.store q).reply) is in
            goes (Prewriting place) (To_store place.store) (ap is_last e) (sym (ap (λ z. stage_number z + 1) e)) (λ k v f g. lone_prewrite k v (Took t (request_at l.sent p) (table l.store (request_at l.sent p)).reply ∷ Served t (request_at l.sent p) (table l.store (request_at l.sent p)).reply ∷ es) (prewrite_request a.t.start a.put place) f (puts_alone a.t.start a.put place k v f g) refl refl (start_given, nothing_given (Took t (request_at l.sent p) (table l.store (request_at l.sent p)).reply ∷ Served t (request_at l.sent p) (table l.store (request_at l.sent p)).reply ∷ es) a.t.start start_given)) (λ tk. tt) (ap (λ z. z.regions) stored) (ap (λ z. z.clock) stored) (let b = ap (λ z. z.last) stored in let c = s.fits.lone.last in omega arith) (ap (λ z. z.cells) stored ∙ held.0, held.1)
            (ap (λ z. stage_turned a.t a.call.line z (reply_at l p)) e ∙ ap (λ z. stage_turned a.t a.call.line (FindingStore place) z) replied ∙ ap (λ z. found_store a.t a.call.line place z) a.puts)
        by_stage (Prewriting place) e =
            let held = subst (λ z. StageCells l.store.cells a.t.start a.put z) e cells in
            let is : request_at l.sent p ≡ prewrite_of a.t.start a.put here = asks ∙ ap (λ z. asked_at a.t.start a.put z) e ∙ ap (λ z. prewrite_of a.t.start a.put z) held.1 in
            let done = prewrite_table l.store a.t.start a.put s.fits.lone.regions held.0 in
            let stored : (table l.store (request_at l.sent p)).store ≡ record l.store { cells = locked_cells a.t.start a.put } = ap (λ q. (table l.store q).store) is ∙ ap (λ z. z.store) done in
            let replied : reply_at l p ≡ Prewrote (record { region_error = None; errors = []; min_commit_ts = 0; one_pc_commit_ts = 0 }) = ap (λ q. (table l.store q).reply) is ∙ ap (λ z. z.reply) done in
            goes (Stamping place) Placement (ap is_last e) (sym (ap (λ z. stage_number z + 1) e)) (λ k v f g. tt)
            (λ tk. inl (record { count = 1 }, refl, lone_ready a.put.key a.put.value (Took t (request_at l.sent p) (table l.store (request_at l.sent p)).reply ∷ Served t (request_at l.sent p) (table l.store (request_at l.sent p)).reply ∷ es) a.t.start t (prewrite_request a.t.start a.put here) (record { region_error = None; errors = []; min_commit_ts = 0; one_pc_commit_ts = 0 }) (inl (λ i. Took t (is i) (replied i))) (refl, refl) refl (puts_alone a.t.start a.put here a.put.key a.put.value refl refl) refl, start_given))
            (ap (λ z. z.regions) stored) (ap (λ z. z.clock) stored) (let b = ap (λ z. z.last) stored in let c = s.fits.lone.last in omega arith) (ap (λ z. z.cells) stored, held.1)
            (ap (λ z. stage_turned a.t a.call.line z (reply_at l p)) e ∙ ap (λ z. stage_turned a.t a.call.line (Prewriting place) z) replied)
        by_stage (Stamping place) e =
            let held = subst (λ z. StageCells l.store.cells a.t.start a.put z) e cells in
            let is : request_at l.sent p ≡ ask_one = asks ∙ ap (λ z. asked_at a.t.start a.put z) e in
            let lone = s.fits.lone in
            let n : ℕ = l.store.last + 1 in
            let small : n < 2 ^ 64 = (let b = lone.last in let c = lone.few in omega arith) in
            let stored : (table l.store (request_at l.sent p)).store ≡ record l.store { last = l.store.last + 1 } = ap (λ q. (table l.store q).store) is ∙ tso_store l.store lone.clock in
            let replied : reply_at l p ≡ Gave (record { count = 1; timestamp = Some (timestamp_of (l.store.last + 1)) }) = ap (λ q. (table l.store q).reply) is ∙ tso_reply l.store lone.clock in
            goes (Stage_committing place n) (To_store place.store) (ap is_last e) (sym (ap (λ z. stage_number z + 1) e)) (λ k v f g. stamped_licence place n k v e is replied f g) (λ tk. tt) (ap (λ z. z.regions) stored) (ap (λ z. z.clock) stored) (let b = ap (λ z. z.last) stored in let c = lone.last in omega arith) (ap (λ z. z.cells) stored ∙ held.0, held.1)
            (ap (λ z. stage_turned a.t a.call.line z (reply_at l p)) e ∙ ap (λ z. stage_turned a.t a.call.line (Stamping place) z) replied ∙ ap (λ z. stamped a.t a.call.line place a.t.put z) (version_back n small) ∙ ap (λ z. stamped a.t a.call.line place z (Some n)) a.puts)
        by_stage (Stage_committing place c) e =
            let held = subst (λ z. StageCells l.store.cells a.t.start a.put z) e cells in
            let is : request_at l.sent p ≡ commit_of a.t.start a.put here c = asks ∙ ap (λ z. asked_at a.t.start a.put z) e ∙ ap (λ z. commit_of a.t.start a.put z c) held.1 in
            let done = commit_table l.store a.t.start a.put c s.fits.lone.regions held.0 in
            let stored : (table l.store (request_at l.sent p)).store ≡ record l.store { cells = done.0 } = ap (λ q. (table l.store q).store) is ∙ ap (λ z. z.store) done.1 in
            let replied : reply_at l p ≡ Committed_reply (record { region_error = None; error = None; commit_version = c }) = ap (λ q. (table l.store q).reply) is ∙ ap (λ z. z.reply) done.1 in
            is_over c (t, commit_request a.t.start a.put here c, record { region_error = None; error = None; commit_version = c }, inl (λ i. Took t (is i) (replied i)), (refl, refl), refl, refl, has_itself a.put.key) (ap (λ z. z.regions) stored) (ap (λ z. z.clock) stored) (let b = ap (λ z. z.last) stored in let d = s.fits.lone.last in omega arith)
            (ap (λ z. stage_turned a.t a.call.line z (reply_at l p)) e ∙ ap (λ z. stage_turned a.t a.call.line (Stage_committing place c) z) replied)

-- Any delivery.

out_and_unserved : (es : List Event) (l : Lists) (ls : List Line) (t : Ticket) (p : ℕ) (n : SentNote) (v : Letter) → StandsAt es l ls → position l.tickets t ≡ Some p → slice_get l.sent p ≡ Some n → n.ticket ≡ t → slice_get l.letters p ≡ Some v → (is_out es t ≡ not v.gone) × (is_served es t ≡ v.served)
out_and_unserved es l ls t p n v s at sent is letter =
    let h = s.mail.letter p n v sent letter in
    let asked = sent_at es ls l.store l.sent l.letters l.tickets l.outcomes l.served t p at s.mail in
    let gone : v.gone ≡ is_some (taken_reply es t) = subst (λ u. v.gone ≡ is_some (taken_reply es u)) is h.1 in
    let served : v.served ≡ is_served es t = subst (λ u. v.served ≡ is_served es u) is h.0 in
    (ap (λ z. is_some z && not (is_some (taken_reply es t))) asked ∙ ap (λ b. not b) (sym gone), sym served)

pub deliver_stands : (es : List Event) (l : Lists) (ls : List Line) (t : Ticket) → why_after ls (Deliver t) ≡ None → StandsAt es l ls → StandsSo (delivers l t) (Deliver t ∷ ls)
deliver_stands es l ls t good s = by_place (position l.tickets t) refl
  where
    by_place : (o : Option ℕ) → position l.tickets t ≡ o → StandsSo (delivers_at o l t) (Deliver t ∷ ls)
    by_place None at =
        let unknown : sent_request es t ≡ None = s.mail.listed t ∙ ap (λ z. request_in l.sent z) at in
        skips es l ls t good (ap (λ z. is_some z && not (is_some (taken_reply es t)) && not (is_served es t)) unknown) s
    by_place (Some p) at =
        let n = s.mail.placed t p at in
        let inside = get_within l.sent p n.0 n.1 in
        let c = s.mail.lettered in
        let v = get_some l.letters p (omega arith) in
        let says = out_and_unserved es l ls t p n.0 v.0 s at n.1 n.2 v.1 in
        by_letter p at v.0 v.1 says v.0.served refl v.0.gone refl
      where
        by_letter : (p : ℕ) → position l.tickets t ≡ Some p → (v : Letter) → slice_get l.letters p ≡ Some v → (is_out es t ≡ not v.gone) × (is_served es t ≡ v.served) → (a : Bool) → v.served ≡ a → (b : Bool) → v.gone ≡ b → StandsSo (if waits (slice_get l.letters p) then passed (handled (opened l Plain Done (length l.outcomes + 1)) p t) t.line (reply_at l p) else opened l Plain Skipped (length l.outcomes + 1)) (Deliver t ∷ ls)
        by_letter p at v letter says true e b f =
            let wait : waits (slice_get l.letters p) ≡ false = ap waits letter ∙ ap (λ z. not z && not v.gone) e in
            subst (λ (z : Bool). StandsSo (if z then passed (handled (opened l Plain Done (length l.outcomes + 1)) p t) t.line (reply_at l p) else opened l Plain Skipped (length l.outcomes + 1)) (Deliver t ∷ ls)) (sym wait) (skips es l ls t good (ap (λ z. is_out es t && not z) (says.1 ∙ e) ∙ past (is_out es t)) s)
          where
            past : (z : Bool) → z && false ≡ false
            past true = refl
            past false = refl
        by_letter p at v letter says false e true f =
            let wait : waits (slice_get l.letters p) ≡ false = ap waits letter ∙ ap (λ z. not v.served && not z) f ∙ past (not v.served) in
            subst (λ (z : Bool). StandsSo (if z then passed (handled (opened l Plain Done (length l.outcomes + 1)) p t) t.line (reply_at l p) else opened l Plain Skipped (length l.outcomes + 1)) (Deliver t ∷ ls)) (sym wait) (skips es l ls t good (ap (λ z. z && not (is_served es t)) (says.0 ∙ ap (λ z. not z) f)) s)
          where
            past : (z : Bool) → z && false ≡ false
            past true = refl
            past false = refl
        by_letter p at v letter says false e false f =
            let wait : waits (slice_get l.letters p) ≡ true = ap waits letter ∙ ap (λ z. not z && not v.gone) e ∙ ap (λ z. true && not z) f in
            let out : is_out es t ≡ true = says.0 ∙ ap (λ z. not z) f in
            let unserved : is_served es t ≡ false = says.1 ∙ e in
            subst (λ (z : Bool). StandsSo (if z then passed (handled (opened l Plain Done (length l.outcomes + 1)) p t) t.line (reply_at l p) else opened l Plain Skipped (length l.outcomes + 1)) (Deliver t ∷ ls)) (sym wait) (elim (s.fits.awaited.known t out) [
              | inl b ↦ begin_answered es l ls t p good at out unserved s b
              | inr b ↦ commit_answered es l ls t p good at out unserved s b
            ])
