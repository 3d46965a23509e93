-- What is told to what stands at a line makes a longer history of each history that was so.
use Rattle.std.proofs.Common.{◌≡◌, ◌≢◌, ◌⊎◌, inl, inr, Bool, true, false, if◌then◌else◌, List, [], Option, Some, None, is_some, refl, sym, ap, ◌∙◌, subst, append-nil}
use Rattle.std.specs.Prelude.{⊤, Result, Ok, Err}
use Rattle.txn_kv.specs.Timestamp.{version_of}
use Rattle.txn_kv.specs.ErrorView.{view_of}
use Rattle.txn_kv.specs.ErrorView.ErrorView.{undetermined as not_known}
use Rattle.txn_kv.specs.declared.errors.Error.{Error}
use Rattle.txn_kv.specs.declared.errors.Error.TheVariants.{GrpcAPI}
use Rattle.txn_kv.specs.declared.request.Request.{Request}
use Rattle.txn_kv.specs.declared.ticket.Ticket.{Ticket}
use Rattle.txn_history.specs.Event.{Event}
use Rattle.txn_history.specs.Moves.{Moves}
use Rattle.txn_history.specs.Phase.{phase_after}
use Rattle.txn_history.specs.Posted.{Posted, after}
use Rattle.txn_history.specs.Turn.{IfEnds, IfEnds-weaker, IfKept, IfKept-all, IfKept-out, IfKept-stopped, IfKept-weaker, Turn}
use Rattle.txn_history.specs.Turn.Turn.{Stopped, Waits, Ends}
use Rattle.txn_history.specs.Arrivals.{told_by}
use Rattle.txn_kv.specs.declared.arrival.Arrival.{Arrival}
use Rattle.txn_buffer.specs.Contents.{Contents}
use Rattle.txn_commit.specs.Ways.{Ways}
use Rattle.txn_commit.specs.Following.{Commits, IsFollowed, KnowsCommits, heard, none_sent, undetermined, or_first}
use Rattle.txn_commit.specs.Parts.{parts_of}
use Rattle.txn_commit.specs.Sending.{plan_of}
use Rattle.txn_commit.specs.declared.commit_parts.CommitParts.{CommitParts}
use Rattle.txn_core.specs.Going.{FailsWith, IsAtWork, IsNothing, IsUndetermined, MaySendFor, TransactionFits, TransactionGives, TransactionMoves}
use Rattle.txn_core.specs.Status.{after_commit, allows_commit, allows_data, allows_rollback, status_step}
use Rattle.txn_core.specs.Status.Became.{commits}
use Rattle.txn_core.specs.Transaction.{GivesUp, IsOrdered, IsRefused, Standing, WriteEnds, commit_outcome, has_given_up, is_open, is_waiting, moved_by, rolled_status}
use Rattle.txn_core.specs.Waiting.{Opens, TransactionGoes, work_phase}
use Rattle.txn_core.specs.declared.status.Status.TheVariants as statuses
use Rattle.txn_core.specs.declared.transaction.Work.{Work}
use Rattle.txn_core.specs.declared.transaction.Work.TheVariants.{Idle, Open, GaveUp}
use Rattle.txn_core.specs.declared.txn_answer.TxnAnswer.{TxnAnswer}
use Rattle.txn_core.specs.declared.txn_answer.TxnAnswer.TheVariants as answer
use Rattle.txn_core.proofs.Ordered.{written_fits}
use Rattle.txn_side.specs.Account.{is_undetermined}
use Rattle.txn_side.specs.Doubt.{IsRefusal}
use Rattle.txn_side.specs.Sight.{commits as commits_act}
use Rattle.txn_lines.specs.declared.act.Act.{Act}
use Rattle.txn_clients.specs.Accounts.{IsQuiet, SaysLoss, IsAlone}
use Rattle.txn_clients.specs.Arising.{CallStands, HasLostOne, IsMarked, IsSettled, KeepsPlan, Moved, StandFits, StandMoves, NamesLost, TurnsBack}
use Rattle.txn_clients.specs.Rows.{answer_in}
use Rattle.txn_clients.specs.declared.answer.Answer.TheVariants as answers
use Rattle.txn_clients.specs.declared.told.Told.TheVariants as tells
use Rattle.txn_clients.proofs.Marking.{Marks, after_front, first_lost, marked_heard, marked_kept, marks, none_marked}
use Rattle.txn_clients.proofs.Standing.{ends_shut, if_kept, open_so, refused_stays, lost_first}
use Rattle.txn_clients.proofs.Taking.{begins, commit_off, is_flag, moved_off, no_flag, undetermined_is}
use Rattle.txn_clients.specs.First.{first_front}
use Rattle.txn_clients.specs.declared.told.Told.{Told}

-- Histories

-- what an event call of a state does, where it has not given up
pub moved_by_call : {X : Type 0} {may : List Event → Request → Type 0} {was is : List Event → Type 0} {gives : List Event → X → Type 0} {hear : List Event → List Event} {from to : Posted} {turn : Turn X} (stands : List Event → Type 0)
    → turn ≢ Stopped → ((h : List Event) → IfEnds turn (λ v. gives h v) → stands h) → Moves may was is gives hear from to turn → Moved may was is stands hear from to
moved_by_call {turn = turn} stands kept stood m = record {
  sends = m.sends;
  pushed = m.pushed;
  line = m.line;
  beat = m.beat;
  numbered = m.numbered;
  licensed = m.licensed;
  still = IfKept-out turn kept m.still;
  stands = λ h x. stood _ (IfEnds-weaker turn (λ v g. g h x) m.done);
}

-- nothing is posted, and nothing heard
pub moved_quiet : {may : List Event → Request → Type 0} {was is stands : List Event → Type 0} {from to : Posted}
    → to ≡ from → ((h : List Event) → was h → is h) → ((h : List Event) → was h → stands h) → Moved may was is stands (λ h. h) from to
moved_quiet {from = from} e still stands = record {
  sends = [];
  pushed = ap (λ (o : Posted). o.sends) e ∙ sym (append-nil from.sends);
  line = ap (λ (o : Posted). o.line) e;
  beat = ap (λ (o : Posted). o.beat) e;
  numbered = (ap (λ (o : Posted). o.next) e, ap (λ (o : Posted). o.next_ask) e);
  licensed = λ h x. tt;
  still = still;
  stands = stands;
}

-- what holds anyhow holds once it has ended
ends_all : {X G : Type 0} (turn : Turn X) → G → IfEnds turn (λ v. G)
ends_all Stopped g = tt
ends_all Waits g = tt
ends_all (Ends v) g = g

-- Plans

module _ {P : Type 0} where
  -- only what is known of its Commits, and its work, change
  keeps_rest : (old new : Standing P) (from to : Posted) → new.start ≡ old.start → new.status ≡ old.status → new.contents ≡ old.contents → to ≡ from → KeepsPlan old new from to
  keeps_rest old new from to start status contents quiet = record {
    start = start;
    closed = λ off. ap allows_data status ∙ off;
    fixed = λ off. contents;
    quiet = inl quiet;
  }

  pub keeps_same : (old new : Standing P) (from to : Posted) → new ≡ old → to ≡ from → KeepsPlan old new from to
  keeps_same old new from to e quiet = keeps_rest old new from to (ap (λ (t : Standing P). t.start) e) (ap (λ (t : Standing P). t.status) e) (ap (λ (t : Standing P). t.contents) e) quiet

  -- it may be written no more
  keeps_off : (old new : Standing P) (from to : Posted) → new.start ≡ old.start → new.contents ≡ old.contents → allows_data new.status ≡ false → KeepsPlan old new from to
  keeps_off old new from to start contents off = record {
    start = start;
    closed = λ any. off;
    fixed = λ any. contents;
    quiet = inr off;
  }

  -- it may still be written, and is
  keeps_written : (old new : Standing P) (from to : Posted) → new ≡ record old { contents = new.contents } → allows_data old.status ≡ true → to ≡ from → KeepsPlan old new from to
  keeps_written old new from to e on quiet = record {
    start = ap (λ (t : Standing P). t.start) e;
    closed = λ off. absurd (no_flag (allows_data old.status) on off);
    fixed = λ off. absurd (no_flag (allows_data new.status) (ap (λ (t : Standing P). allows_data t.status) e ∙ on) off);
    quiet = inl quiet;
  }

  -- One that commits or rolls back is written no more.

  off_commit : (old new : Standing P) (turn : Turn (Result (TxnAnswer P) Error)) → is_open old.work ≡ false → allows_commit old.status ≡ true
      → (old.work ≡ Idle → new.status ≡ status_step old.status (commits (commit_outcome turn) (is_some (parts_of old.contents)))) → GivesUp old new turn → IfKept turn (allows_data new.status ≡ false)
  off_commit old new turn idle may status gives = begins old new turn idle gives (λ e.
      let has = is_some (parts_of old.contents) in
      ap allows_data (status e ∙ ap (λ (b : Bool). if b then after_commit (commit_outcome turn) has else old.status) may) ∙ commit_off (commit_outcome turn) has)

  off_rollback : (old new : Standing P) (turn : Turn (Result (TxnAnswer P) Error)) → is_open old.work ≡ false → allows_rollback old.status ≡ true → undetermined old.commits ≡ None
      → (old.work ≡ Idle → new.status ≡ rolled_status old.status (is_some (undetermined old.commits)) turn) → GivesUp old new turn → IfKept turn (allows_data new.status ≡ false)
  off_rollback old new turn idle may known status gives = begins old new turn idle gives (λ i.
      ap allows_data (status i ∙ ap (λ (u : Option Ticket). rolled_status old.status (is_some u) turn) known ∙ ap (λ (b : Bool). if b then moved_by statuses.StartedRollback turn else old.status) may)
      ∙ moved_off statuses.StartedRollback turn refl)

  off_heard : (old new : Standing P) (turn : Turn (Result (TxnAnswer P) Error)) → IsQuiet old → new.status ≡ moved_by old.status turn → GivesUp old new turn → (old.work ≡ Idle → turn ≡ Waits) → IfKept turn (IfEnds turn (λ v. allows_data new.status ≡ false))
  off_heard old new turn quiet status gives deaf = elim (is_flag (allows_data old.status)) [
    | inl on ↦ begins old new turn (quiet on).rests gives (λ e. subst (λ (t : Turn (Result (TxnAnswer P) Error)). IfEnds t (λ v. allows_data new.status ≡ false)) (sym (deaf e)) tt)
    | inr off ↦ IfKept-all turn (ends_all turn (ap allows_data status ∙ moved_off old.status turn off))
  ]

  keeps_commit : (old new : Standing P) (from to : Posted) (turn : Turn (Result (TxnAnswer P) Error)) → is_open old.work ≡ false
      → (allows_commit old.status ≡ false → (new ≡ old) × (to ≡ from))
      → (old.work ≡ Idle → new.status ≡ status_step old.status (commits (commit_outcome turn) (is_some (parts_of old.contents))))
      → new.start ≡ old.start → new.contents ≡ old.contents → GivesUp old new turn → IfKept turn (KeepsPlan old new from to)
  keeps_commit old new from to turn idle refused status start contents gives = elim (is_flag (allows_commit old.status)) [
    | inl may ↦ IfKept-weaker turn (λ off. keeps_off old new from to start contents off) (off_commit old new turn idle may status gives)
    | inr bars ↦ let r = refused bars in IfKept-all turn (keeps_same old new from to r.0 r.1)
  ]

  keeps_rollback : (old new : Standing P) (from to : Posted) (turn : Turn (Result (TxnAnswer P) Error)) → is_open old.work ≡ false
      → (allows_rollback old.status ≡ false → (new ≡ old) × (to ≡ from))
      → ((t : Ticket) → allows_rollback old.status ≡ true → undetermined old.commits ≡ Some t → (new ≡ record old { work = new.work }) × (to ≡ from))
      → (old.work ≡ Idle → new.status ≡ rolled_status old.status (is_some (undetermined old.commits)) turn)
      → new.start ≡ old.start → new.contents ≡ old.contents → GivesUp old new turn → IfKept turn (KeepsPlan old new from to)
  keeps_rollback old new from to turn idle refused unknown status start contents gives = elim (is_flag (allows_rollback old.status)) [
    | inl may ↦ by may (undetermined old.commits) refl
    | inr bars ↦ let r = refused bars in IfKept-all turn (keeps_same old new from to r.0 r.1)
  ]
    where
      by : allows_rollback old.status ≡ true → (o : Option Ticket) → undetermined old.commits ≡ o → IfKept turn (KeepsPlan old new from to)
      by may (Some t) e = let u = unknown t may e in IfKept-all turn (keeps_rest old new from to start (ap (λ (x : Standing P). x.status) u.0) contents u.1)
      by may None e = IfKept-weaker turn (λ off. keeps_off old new from to start contents off) (off_rollback old new turn idle may e status gives)

  keeps_heard : (old new : Standing P) (from to : Posted) (turn : Turn (Result (TxnAnswer P) Error)) → IsQuiet old → new.status ≡ moved_by old.status turn
      → new.start ≡ old.start → new.contents ≡ old.contents → GivesUp old new turn → (old.work ≡ Idle → (turn ≡ Waits) × (new ≡ old) × (to ≡ from)) → IfKept turn (KeepsPlan old new from to)
  keeps_heard old new from to turn quiet status start contents gives deaf = elim (is_flag (allows_data old.status)) [
    | inl on ↦ begins old new turn (quiet on).rests gives (λ e. let d = deaf e in keeps_same old new from to d.1 d.2)
    | inr off ↦ IfKept-all turn (keeps_off old new from to start contents (ap allows_data status ∙ moved_off old.status turn off))
  ]

-- What a transaction is told

module _ {P : Type 0} (w : Ways P) where
  -- what a transaction that lives knows of the Commits of its primary
  knows_commits : (t : Standing P) (o : Posted) (h : List Event) (parts : CommitParts) → parts_of t.contents ≡ Some parts → StandFits w t o h → KnowsCommits (plan_of parts) (version_of t.start) t.commits h
  knows_commits t o h parts whole fits = by t.work fits.1.at fits.2
    where
      by : (g : Work P) → IsAtWork w t.options.retry_options t.start t.status t.contents t.commits g o h → has_given_up g ≡ false → KnowsCommits (plan_of parts) (version_of t.start) t.commits h
      by Idle at lives = (at.of_parts parts whole).knows
      by (Open call) at lives =
          let same : call.parts ≡ parts = let both = sym at.whole ∙ whole in cc in
          subst (λ (p : CommitParts). KnowsCommits (plan_of p) (version_of t.start) t.commits h) same (subst (λ s. KnowsCommits (plan_of call.parts) (version_of s) t.commits h) at.own at.fits.knows)
      by GaveUp at lives = absurd (cc)

  -- where one of them was lost it has something to commit
  has_parts : (t : Standing P) (o : Posted) (h : List Event) → StandFits w t o h → is_some t.commits.lost ≡ true → (parts : CommitParts) × (parts_of t.contents ≡ Some parts)
  has_parts t o h fits some = by t.work fits.1.at fits.2 (parts_of t.contents) refl
    where
      none : t.commits ≡ none_sent → ⊥
      none e = let no = sym some ∙ ap (λ (c : Commits). is_some c.lost) e in cc

      by : (g : Work P) → IsAtWork w t.options.retry_options t.start t.status t.contents t.commits g o h → has_given_up g ≡ false → (found : Option CommitParts) → parts_of t.contents ≡ found → (parts : CommitParts) × (parts_of t.contents ≡ Some parts)
      by g at lives (Some parts) e = (parts, e)
      by Idle at lives None e = absurd (none (at.empty e))
      by (Open call) at lives None e = absurd (let no = sym e ∙ at.whole in cc)
      by GaveUp at lives None e = absurd (cc)

  -- and may be written no more
  closed_lost : (t : Standing P) (o : Posted) (h : List Event) → StandFits w t o h → is_some t.commits.lost ≡ true → allows_data t.status ≡ false
  closed_lost t o h fits some = elim (is_flag (allows_data t.status)) [
    | inl on ↦ let u = fits.1.unsent on in absurd (let no = sym some ∙ ap (λ (c : Commits). is_some c.lost) u.none in cc)
    | inr off ↦ off
  ]

  lost_one : (t : Standing P) (o : Posted) (h : List Event) → StandFits w t o h → is_some t.commits.lost ≡ true → HasLostOne t h
  lost_one t o h fits some = let p = has_parts t o h fits some in by p.0 p.1 t.commits.lost refl some
    where
      by : (parts : CommitParts) → parts_of t.contents ≡ Some parts → (lost : Option Ticket) → t.commits.lost ≡ lost → is_some lost ≡ true → HasLostOne t h
      by parts whole None e holds = absurd (cc)
      by parts whole (Some u) e holds = (
          let first = fits.3 parts whole u e in
          record { parts = parts; closed = closed_lost t o h fits some; whole = whole; ticket = u; lost = (first.request, first_lost (version_of t.start) parts.primary h u first, record { start = first.start; primary = first.key }) })

  -- where each was refused none was lost
  never_lost : {X : Type 0} (c : Commits) → undetermined c ≡ None → is_some c.lost ≡ true → X
  never_lost c none some = by c.lost none some
    where
      by : {X : Type 0} (lost : Option Ticket) → or_first lost c.out ≡ None → is_some lost ≡ true → X
      by None e holds = absurd (cc)
      by (Some u) e holds = absurd (cc)

  -- an error that it ends with says that it is in doubt where one of them was lost or is not refused
  error_gives : (told : Told) (old new : Standing P) (to : Posted) (h : List Event) (e : Error) → new.contents ≡ old.contents → StandFits w new to h → allows_data new.status ≡ false → (is_undetermined e ≡ true → is_some new.commits.lost ≡ true) → (TurnsBack told new → undetermined new.commits ≡ None)
      → TransactionGives w old.options.retry_options old.start old.contents new.commits h (Err e) → CallStands w told old new (Some (answers.Called (Err e))) h
  error_gives told old new to h e same fits off says back (inr (none, nothing)) = absurd (no nothing)
    where
      no : IsNothing {P = P} (Err e) → ⊥
      no (inl f) = cc
      no (inr f) = cc
  error_gives told old new to h e same fits off says back (inl (parts, whole, fails)) = inr (elim (is_flag (is_undetermined e)) [ inl so ↦ inl (so, lost_one new to h fits (says so), λ turns. never_lost new.commits (back turns) (says so)) | inr untold ↦ inr (untold, settled untold (undetermined new.commits) refl fails) ])
    where
      now : parts_of new.contents ≡ Some parts
      now = ap parts_of same ∙ whole

      settled : is_undetermined e ≡ false → (u : Option Ticket) → undetermined new.commits ≡ u → FailsWith w old.options.retry_options (version_of old.start) parts u h e → IsSettled new h
      settled untold (Some t) is f = absurd (no_flag (is_undetermined e) (undetermined_is e (view_of f.0) f.1) untold)
      settled untold None is f = record { parts = parts; closed = off; whole = now; knows = knows_commits new to h parts now fits; none = is }

  -- what it answers stands on what the call gives
  call_stands : (told : Told) (old new : Standing P) (to : Posted) (h : List Event) (turn : Turn (Result (TxnAnswer P) Error)) → new.contents ≡ old.contents → StandFits w new to h → IfEnds turn (λ v. allows_data new.status ≡ false) → SaysLoss turn new → (TurnsBack told new → undetermined new.commits ≡ None)
      → IfEnds turn (λ v. TransactionGives w old.options.retry_options old.start old.contents new.commits h v) → CallStands w told old new (answer_in answers.Called turn) h
  call_stands told old new to h Stopped same fits off says back g = tt
  call_stands told old new to h Waits same fits off says back g = tt
  call_stands told old new to h (Ends (Err e)) same fits off says back g = error_gives told old new to h e same fits off says back g
  call_stands told old new to h (Ends (Ok (answer.Committed t job))) same fits off says back g = (off, g)
  call_stands told old new to h (Ends (Ok answer.Unit)) same fits off says back g = tt
  call_stands told old new to h (Ends (Ok (answer.Value v))) same fits off says back g = tt
  call_stands told old new to h (Ends (Ok (answer.Exists b))) same fits off says back g = tt
  call_stands told old new to h (Ends (Ok (answer.Pairs ps))) same fits off says back g = tt
  call_stands told old new to h (Ends (Ok (answer.Keys ks))) same fits off says back g = tt
  call_stands told old new to h (Ends (Ok (answer.Ttl n))) same fits off says back g = tt

  -- of a refusal nothing else is said
  error_stands : (told : Told) (old new : Standing P) (h : List Event) (v : Result (TxnAnswer P) Error) (e : Error) → IsRefusal e → v ≡ Err e → CallStands w told old new (Some (answers.Called v)) h
  error_stands told old new h v e refusal f = subst (λ (x : Result (TxnAnswer P) Error). CallStands w told old new (Some (answers.Called x)) h) (sym f) (inl refusal)

  refused_stands : (told : Told) (e : Error) (old new : Standing P) (h : List Event) (turn : Turn (Result (TxnAnswer P) Error)) → IsRefusal e → IsRefused e old new turn → CallStands w told old new (answer_in answers.Called turn) h
  refused_stands told e old new h Stopped refusal r = tt
  refused_stands told e old new h Waits refusal r = tt
  refused_stands told e old new h (Ends v) refusal r = error_stands told old new h v e refusal r.0

  -- that one was lost is said with the first
  names_lost : (t : Ticket) (new : Standing P) (to : Posted) (h : List Event) (e : Error) → StandFits w new to h → is_some new.commits.lost ≡ true → undetermined new.commits ≡ Some t → view_of e ≡ not_known (view_of (GrpcAPI t)) → NamesLost new h e
  names_lost t new to h e fits some left error =
      let p = has_parts new to h fits some in
      record { parts = p.0; closed = closed_lost new to h fits some; whole = p.1; ticket = t; error = error; first = fits.3 p.0 p.1 t (lost_first new.commits t some left) }

  unknown_stands : (told : Told) (t : Ticket) (old new : Standing P) (to : Posted) (h : List Event) (turn : Turn (Result (TxnAnswer P) Error)) → StandFits w new to h → SaysLoss turn new → undetermined new.commits ≡ Some t → IsUndetermined t turn → CallStands w told old new (answer_in answers.Called turn) h
  unknown_stands told t old new to h Stopped fits says left u = tt
  unknown_stands told t old new to h Waits fits says left u = tt
  unknown_stands told t old new to h (Ends (Ok v)) fits says left u = absurd u
  unknown_stands told t old new to h (Ends (Err e)) fits says left u =
      let so = undetermined_is e (view_of (GrpcAPI t)) u in
      inr (inl (so, lost_one new to h fits (says so), λ turns. names_lost t new to h e fits (says so) left u))

  stand_same : (old new : Standing P) (from to : Posted) (h : List Event) → new ≡ old → to ≡ from → StandFits w old from h → StandFits w new to h
  stand_same old new from to h e f x = subst (λ (t : Standing P). StandFits w t to h) (sym e) (subst (λ (o : Posted). StandFits w old o h) (sym f) x)

  -- While there is memory it does not give up.

  opened_lives : (work : Work P) (turn : Turn (Result (TxnAnswer P) Error)) → turn ≢ Stopped → work_phase w work ≡ phase_after turn → has_given_up work ≡ false
  opened_lives Idle turn alive next = refl
  opened_lives (Open call) turn alive next = refl
  opened_lives GaveUp Stopped alive next = absurd (alive refl)
  opened_lives GaveUp Waits alive next = absurd (cc)
  opened_lives GaveUp (Ends v) alive next = absurd (cc)

  heard_lives : {C : Type 0} (meant : Type 0) (old new : Standing P) (from to : Posted) (pd pd' : C) (turn : Turn (Result (TxnAnswer P) Error)) → turn ≢ Stopped
      → TransactionGoes w meant (record old { commits = new.commits }) new from to pd pd' turn → has_given_up old.work ≡ false → has_given_up new.work ≡ false
  heard_lives meant old new from to pd pd' turn alive goes lives = by new.work refl
    where
      by : (work : Work P) → new.work ≡ work → has_given_up work ≡ false
      by Idle e = refl
      by (Open call) e = refl
      by GaveUp e =
          let never : meant → ⊥ = λ m. let up = opened_lives new.work turn alive (goes.next m) in absurd (let no = sym (ap has_given_up e) ∙ up in cc) in
          ap has_given_up (sym e ∙ ap (λ (t : Standing P). t.work) (goes.state never)) ∙ lives

  -- it goes on, in a history of which so much is known
  stand_moved : (told : Told) (known : List Event → Type 0) (hear : List Event → List Event) (old new : Standing P) (from to : Posted) (turn : Turn (Result (TxnAnswer P) Error)) → turn ≢ Stopped → (has_given_up old.work ≡ false → has_given_up new.work ≡ false) → new.contents ≡ old.contents → IfEnds turn (λ v. allows_data new.status ≡ false) → SaysLoss turn new → ((h : List Event) → StandFits w old from h × known h → IsMarked new (hear h)) → ((h : List Event) → TransactionFits w new to h → TurnsBack told new → undetermined new.commits ≡ None) → TransactionMoves w known hear old new from to turn
      → Moved (MaySendFor old.contents (version_of old.start)) (λ h. StandFits w old from h × known h) (λ h. StandFits w new to h) (λ h. CallStands w told old new (answer_in answers.Called turn) h) hear from to
  stand_moved told known hear old new from to turn kept lives same off says marked back m = record {
    sends = m.sends;
    pushed = m.pushed;
    line = m.line;
    beat = m.beat;
    numbered = m.numbered;
    licensed = λ h x. m.licensed h (x.0.1, x.1);
    still = λ h x. fits h x;
    stands = λ h x. call_stands told old new to _ turn same (fits h x) off says (back _ (fits h x).1) (IfEnds-weaker turn (λ v g. g h (x.0.1, x.1)) m.done);
  }
    where
      fits : (h : List Event) → StandFits w old from h × known h → StandFits w new to (after from.line from.beat (hear h) m.sends)
      fits h x = (
        subst IsOrdered (sym same) x.0.0,
        IfKept-out turn kept m.still h (x.0.1, x.1),
        lives x.0.2,
        λ parts whole u e. first_front (version_of new.start) parts.primary (hear h) _ u (after_front from.line from.beat (hear h) m.sends) (marked h x parts whole u e),
      )

  -- It is asked for something.

  asked : (act : Act) (old new : Standing P) (from to : Posted) (turn : Turn (Result (TxnAnswer P) Error)) → KeepsPlan old new from to
      → Moved (MaySendFor old.contents (version_of old.start)) (λ h. StandFits w old from h × ⊤) (λ h. StandFits w new to h) (λ h. CallStands w (tells.Act act) old new (answer_in answers.Called turn) h) (λ h. h) from to
      → StandMoves w (tells.Act act) old new from to (answer_in answers.Called turn)
  asked act old new from to turn keeps moves = record { keeps = keeps; moves = λ r. moves }

  asked_same : (act : Act) (old new : Standing P) (from to : Posted) (turn : Turn (Result (TxnAnswer P) Error)) → new ≡ old → to ≡ from
      → ((h : List Event) → CallStands w (tells.Act act) old new (answer_in answers.Called turn) h) → StandMoves w (tells.Act act) old new from to (answer_in answers.Called turn)
  asked_same act old new from to turn e quiet stands = asked act old new from to turn (keeps_same old new from to e quiet) (moved_quiet quiet (λ h x. stand_same old new from to h e quiet x.0) (λ h x. stands h))

  written_stands : (old new : Standing P) (contents : Contents) (from to : Posted) (h : List Event) → new ≡ record old { contents = contents } → allows_data old.status ≡ true → old.work ≡ Idle → (IsOrdered old.contents → IsOrdered contents) → to ≡ from → StandFits w old from h → StandFits w new to h
  written_stands old new contents from to h e on idle keeps quiet x =
      let now = keeps x.0 in
      subst (λ (t : Standing P). StandFits w t to h) (sym e) (now, written_fits w old contents to h on idle now (subst (λ (o : Posted). TransactionFits w old o h) (sym quiet) x.1), x.2, λ parts whole u lost. none_marked w old from h u on x.1 lost)

  writes_so : (act : Act) (refusal : Option Error) (wrote : Contents → Contents → Type 0) (old new : Standing P) (from to : Posted) (turn : Turn (Result (TxnAnswer P) Error))
      → (refusal ≡ None → allows_data old.status ≡ true) → ((e : Error) → refusal ≡ Some e → IsRefusal e) → ((c d : Contents) → wrote c d → IsOrdered c → IsOrdered d) → WriteEnds refusal wrote old new turn → to ≡ from → old.work ≡ Idle
      → IfKept turn (StandMoves w (tells.Act act) old new from to (answer_in answers.Called turn))
  writes_so act refusal wrote old new from to Stopped may refuses keeps ends quiet idle = tt
  writes_so act refusal wrote old new from to Waits may refuses keeps ends quiet idle = absurd ends
  writes_so act (Some e) wrote old new from to (Ends v) may refuses keeps ends quiet idle = asked_same act old new from to (Ends v) ends.1 quiet (λ h. error_stands (tells.Act act) old new h v e (refuses e refl) ends.0)
  writes_so act None wrote old new from to (Ends v) may refuses keeps ends quiet idle = asked act old new from to (Ends v) (keeps_written old new from to ends.1 (may refl) quiet)
      (moved_quiet quiet (λ h x. written_stands old new new.contents from to h ends.1 (may refl) idle (keeps old.contents new.contents ends.2) quiet x.0)
      (λ h x. subst (λ (a : Result (TxnAnswer P) Error). CallStands w (tells.Act act) old new (Some (answers.Called a)) h) (sym ends.0) tt))

  -- a write ends at once
  pub writes_move : (act : Act) (refusal : Option Error) (wrote : Contents → Contents → Type 0) (old new : Standing P) (from to : Posted) (turn : Turn (Result (TxnAnswer P) Error))
      → (refusal ≡ None → allows_data old.status ≡ true) → ((e : Error) → refusal ≡ Some e → IsRefusal e) → ((c d : Contents) → wrote c d → IsOrdered c → IsOrdered d) → WriteEnds refusal wrote old new turn → is_open old.work ≡ false → GivesUp old new turn → to ≡ from
      → IfKept turn (StandMoves w (tells.Act act) old new from to (answer_in answers.Called turn))
  writes_move act refusal wrote old new from to turn may refuses keeps ends rests gives quiet = by (open_so old.work rests)
    where
      by : (old.work ≡ Idle) ⊎ (old.work ≡ GaveUp) → IfKept turn (StandMoves w (tells.Act act) old new from to (answer_in answers.Called turn))
      by (inl idle) = writes_so act refusal wrote old new from to turn may refuses keeps ends quiet idle
      by (inr e) = IfKept-stopped turn _ (gives.after e).0

  -- a commit begins, or is refused
  pub commits_move : (act : Act) (e : Error) (old new : Standing P) (from to : Posted) (turn : Turn (Result (TxnAnswer P) Error)) → IsRefusal e → is_open old.work ≡ false
      → (allows_commit old.status ≡ false → IsRefused e old new turn × (to ≡ from))
      → (allows_commit old.status ≡ true → TransactionMoves w (λ h. ⊤) (λ h. h) old new from to turn)
      → (old.work ≡ Idle → new.status ≡ status_step old.status (commits (commit_outcome turn) (is_some (parts_of old.contents))))
      → new ≡ record old { status = new.status; commits = new.commits; work = new.work; width = new.width } → GivesUp old new turn → Opens w new from to turn → SaysLoss turn new → IfKept turn (new.commits.lost ≡ old.commits.lost) → commits_act act ≡ true
      → IfKept turn (StandMoves w (tells.Act act) old new from to (answer_in answers.Called turn))
  commits_move act e old new from to turn refusal idle refused moves status kept gives opens says lost is = if_kept turn (λ alive. elim (is_flag (allows_commit old.status)) [
    | inl may ↦ asked act old new from to turn (IfKept-out turn alive keeps) (stand_moved (tells.Act act) (λ h. ⊤) (λ h. h) old new from to turn alive (λ x. opened_lives new.work turn alive opens.next) contents (ends_all turn (IfKept-out turn alive (off_commit old new turn idle may status gives))) says
        (λ h x. marked_kept old new h contents start (IfKept-out turn alive lost) x.0.3) (λ h f back. absurd (no_flag (commits_act act) is back)) (moves may))
    | inr bars ↦ let r = refused bars in asked_same act old new from to turn (refused_stays e old new turn r.0) r.1 (λ h. refused_stands (tells.Act act) e old new h turn refusal r.0)
  ])
    where
      contents : new.contents ≡ old.contents
      contents = ap (λ (t : Standing P). t.contents) kept

      start : new.start ≡ old.start
      start = ap (λ (t : Standing P). t.start) kept

      keeps : IfKept turn (KeepsPlan old new from to)
      keeps = keeps_commit old new from to turn idle (λ bars. let r = refused bars in (refused_stays e old new turn r.0, r.1)) status start contents gives

  -- no call of it is open
  left_fits : (old new : Standing P) (from to : Posted) (turn : Turn (Result (TxnAnswer P) Error)) (h : List Event) → turn ≢ Stopped → is_open old.work ≡ false → is_open new.work ≡ false → Opens w new from to turn
      → new ≡ record old { work = new.work } → to ≡ from → StandFits w old from h → StandFits w new to h
  left_fits old new from to turn h alive rests shut opens e quiet x = by (open_so old.work rests) (open_so new.work shut)
    where
      by : (old.work ≡ Idle) ⊎ (old.work ≡ GaveUp) → (new.work ≡ Idle) ⊎ (new.work ≡ GaveUp) → StandFits w new to h
      by (inr g) later = absurd (let no = sym (ap has_given_up g) ∙ x.2 in cc)
      by (inl i) (inl j) = stand_same old new from to h (e ∙ ap (λ (y : Work P). record old { work = y }) (j ∙ sym i)) quiet x
      by (inl i) (inr g) = absurd (let no = sym (ap has_given_up g) ∙ opened_lives new.work turn alive opens.next in cc)

  -- and so does a rollback
  pub rollbacks_move : (act : Act) (e : Error) (old new : Standing P) (from to : Posted) (turn : Turn (Result (TxnAnswer P) Error)) → IsRefusal e → is_open old.work ≡ false
      → (allows_rollback old.status ≡ false → IsRefused e old new turn × (to ≡ from))
      → ((t : Ticket) → allows_rollback old.status ≡ true → undetermined old.commits ≡ Some t → IsUndetermined t turn × (new ≡ record old { work = new.work }) × (to ≡ from))
      → (allows_rollback old.status ≡ true → undetermined old.commits ≡ None → TransactionMoves w (λ h. ⊤) (λ h. h) old new from to turn)
      → (old.work ≡ Idle → new.status ≡ rolled_status old.status (is_some (undetermined old.commits)) turn)
      → new ≡ record old { status = new.status; commits = new.commits; work = new.work; width = new.width } → GivesUp old new turn → Opens w new from to turn → is_open new.work ≡ is_waiting turn → SaysLoss turn new → new.commits ≡ old.commits
      → IfKept turn (StandMoves w (tells.Act act) old new from to (answer_in answers.Called turn))
  rollbacks_move act e old new from to turn refusal idle refused unknown moves status kept gives opens busy says unmarked = if_kept turn (λ alive. elim (is_flag (allows_rollback old.status)) [
    | inl may ↦ by alive may (undetermined old.commits) refl
    | inr bars ↦ let r = refused bars in asked_same act old new from to turn (refused_stays e old new turn r.0) r.1 (λ h. refused_stands (tells.Act act) e old new h turn refusal r.0)
  ])
    where
      start : new.start ≡ old.start
      start = ap (λ (t : Standing P). t.start) kept

      contents : new.contents ≡ old.contents
      contents = ap (λ (t : Standing P). t.contents) kept

      keeps : IfKept turn (KeepsPlan old new from to)
      keeps = keeps_rollback old new from to turn idle (λ bars. let r = refused bars in (refused_stays e old new turn r.0, r.1)) (λ t may u. let r = unknown t may u in (r.1, r.2)) status start contents gives

      by : turn ≢ Stopped → allows_rollback old.status ≡ true → (o : Option Ticket) → undetermined old.commits ≡ o → StandMoves w (tells.Act act) old new from to (answer_in answers.Called turn)
      by alive may (Some t) u =
          let r = unknown t may u in
          let fits : (h : List Event) → StandFits w old from h × ⊤ → StandFits w new to h = λ h x. left_fits old new from to turn h alive idle (busy ∙ ends_shut t turn r.0) opens r.1 r.2 x.0 in
          asked act old new from to turn (IfKept-out turn alive keeps) (moved_quiet r.2 fits (λ h x. unknown_stands (tells.Act act) t old new to h turn (fits h x) says (ap undetermined unmarked ∙ u) r.0))
      by alive may None u = asked act old new from to turn (IfKept-out turn alive keeps) (stand_moved (tells.Act act) (λ h. ⊤) (λ h. h) old new from to turn alive (λ x. opened_lives new.work turn alive opens.next) contents (ends_all turn (IfKept-out turn alive (off_rollback old new turn idle may u status gives))) says
          (λ h x. marked_kept old new h contents start (ap (λ (c : Commits). c.lost) unmarked) x.0.3) (λ h f back. ap undetermined unmarked ∙ u) (moves may u))

  -- what was asked is this
  pub acts_move : (act is : Act) (old new : Standing P) (from to : Posted) (turn : Turn (Result (TxnAnswer P) Error)) → act ≡ is
      → IfKept turn (StandMoves w (tells.Act is) old new from to (answer_in answers.Called turn)) → IfKept turn (StandMoves w (tells.Act act) old new from to (answer_in answers.Called turn))
  acts_move act is old new from to turn e h = subst (λ a. IfKept turn (StandMoves w (tells.Act a) old new from to (answer_in answers.Called turn))) (sym e) h

  -- It hears of something.

  hears_move : (a : Arrival) (old new : Standing P) (from to : Posted) (turn : Turn (Result (TxnAnswer P) Error)) → (turn ≢ Stopped → has_given_up old.work ≡ false → has_given_up new.work ≡ false)
      → ((r : Request) → TransactionMoves w (told_by a from r).known (told_by a from r).hear old new from to turn) → new.contents ≡ old.contents → IfKept turn (KeepsPlan old new from to) → IfKept turn (IfEnds turn (λ v. allows_data new.status ≡ false)) → SaysLoss turn new
      → new.start ≡ old.start → (turn ≢ Stopped → (h : List Event) → TransactionFits w old from h → (u : Ticket) → new.commits.lost ≡ Some u → Marks a from old.commits u) → IsAlone a old
      → IfKept turn (StandMoves w (tells.Heard a) old new from to (answer_in answers.Called turn))
  hears_move a old new from to turn lives told same keeps off says start marks alone = if_kept turn (λ alive. record {
    keeps = IfKept-out turn alive keeps;
    moves = λ r. stand_moved (tells.Heard a) (told_by a from r).known (told_by a from r).hear old new from to turn alive (lives alive) same (IfKept-out turn alive off) says
        (λ h x. marked_heard a from r old new h same start alone (λ u e. marks alive h x.0.1 u e) (λ parts whole. knows_commits old from h parts whole x.0) x.1 x.0.3) (λ h f back. f.settled back) (told r);
  })

  -- what came is this
  pub heard_moves : {C : Type 0} (a : Arrival) (meant : Type 0) (old new : Standing P) (from to : Posted) (pd pd' : C) (turn : Turn (Result (TxnAnswer P) Error)) → TransactionGoes w meant (record old { commits = new.commits }) new from to pd pd' turn
      → ((r : Request) → TransactionMoves w (told_by a from r).known (told_by a from r).hear old new from to turn) → IsQuiet old → new.status ≡ moved_by old.status turn
      → new ≡ record old { status = new.status; commits = new.commits; work = new.work; width = new.width } → GivesUp old new turn → (old.work ≡ Idle → (turn ≡ Waits) × (new ≡ old) × (to ≡ from)) → SaysLoss turn new
      → ((h : List Event) → is_open old.work ≡ true → TransactionFits w old from h → IfKept turn (IsFollowed from (heard a from old.commits) new.commits)) → IsAlone a old
      → IfKept turn (StandMoves w (tells.Heard a) old new from to (answer_in answers.Called turn))
  heard_moves a meant old new from to pd pd' turn goes told quiet status kept gives deaf says follows alone =
      let contents : new.contents ≡ old.contents = ap (λ (t : Standing P). t.contents) kept in
      let start : new.start ≡ old.start = ap (λ (t : Standing P). t.start) kept in
      hears_move a old new from to turn (λ alive. heard_lives meant old new from to pd pd' turn alive goes) told contents (keeps_heard old new from to turn quiet status start contents gives deaf)
      (off_heard old new turn quiet status gives (λ e. (deaf e).0)) says start (marks w a old new from to turn follows deaf gives) alone
