-- A transaction goes on, and can have arisen from a history of its own.
use Rattle.std.proofs.Common.{◌≡◌, ◌≢◌, ◌⊎◌, inl, inr, ℕ, ◌≤◌, Bool, true, false, List, [], ◌∷◌, Option, Some, None, is_some, refl, sym, ap, ◌∙◌, subst}
use Rattle.std.specs.Prelude.{⊤, Result, Ok, Err}
use Rattle.txn_kv.specs.Timestamp.{version_of}
use Rattle.txn_kv.specs.declared.errors.Error.{Error}
use Rattle.txn_kv.specs.declared.message.Mutation.{Mutation}
use Rattle.txn_kv.specs.declared.message.Op.{Op}
use Rattle.txn_kv.specs.declared.message.Op.TheVariants as op
use Rattle.txn_kv.specs.declared.request.Request.{Request}
use Rattle.txn_kv.specs.declared.ticket.Ticket.{Ticket}
use Rattle.txn_history.specs.Event.{Event, Has}
use Rattle.txn_history.specs.Event.Event.{Sent}
use Rattle.txn_history.specs.Later.{IsLater}
use Rattle.txn_history.specs.Meaning.{Expects, IsLawful}
use Rattle.txn_history.specs.Phase.{Awaited, IsRunning, Phase, phase_after, unheard}
use Rattle.txn_history.specs.Phase.Awaited.{ReplyTo, EndOf, TimeOf}
use Rattle.txn_history.specs.Phase.Phase.{Fresh, GivenUp, Over, Running}
use Rattle.txn_history.specs.Posted.{Posted, after, ticket_of}
use Rattle.txn_history.specs.Turn.{IfEnds, IfEnds-weaker, IfKept, IfKept-all, IfKept-out, Turn}
use Rattle.txn_history.specs.Turn.Turn.{Stopped, Waits, Ends}
use Rattle.txn_history.proofs.Telling.{Expects-quiet}
use Rattle.txn_history.specs.Arrivals.{awaited_as, told_by}
use Rattle.txn_kv.specs.declared.arrival.Arrival.{Arrival}
use Rattle.txn_kv.specs.declared.arrival.Arrival.TheVariants as arrivals
use Rattle.txn_tso.specs.Calling.{members}
use Rattle.txn_buffer.specs.Contents.{Contents, locked, mutated_by, with_write, write_at}
use Rattle.txn_buffer.specs.Writes.{Write, WriteCall, after_delete, after_put}
use Rattle.txn_commit.specs.Ways.{Ways}
use Rattle.txn_commit.specs.Following.{Commits, IsFollowed, awaits, heard, is_out, or_first, undetermined}
use Rattle.txn_commit.specs.Parts.{parts_of}
use Rattle.txn_commit.specs.Sending.{plan_of}
use Rattle.txn_core.specs.Going.{IsAtWork, IsUndetermined, TransactionFits, TransactionMoves, TransactionReady}
use Rattle.txn_core.specs.Status.{allows_data}
use Rattle.txn_core.specs.Transaction.{AreLocked, AreSteps, GivesUp, IsOrdered, IsRefused, IsStep, Standing, WriteEnds, and_mutated, is_open, is_waiting, locked_all, mutated_all, or_refused, refused_unless}
use Rattle.txn_core.specs.Waiting.{Opens, TransactionGoes, work_phase, work_waits}
use Rattle.txn_core.specs.declared.transaction.Work.{Work}
use Rattle.txn_core.specs.declared.transaction.Work.TheVariants.{Idle, Open, GaveUp}
use Rattle.txn_core.specs.declared.txn_answer.TxnAnswer.{TxnAnswer}
use Rattle.txn_core.specs.declared.txn_answer.TxnAnswer.TheVariants as answer
use Rattle.txn_core.proofs.Ordered.{locked_ordered, written_fits, written_ordered}
use Rattle.txn_core.proofs.Others.{adds_same, idle_fits, others_fit}
use Rattle.txn_core.proofs.Waiting.{busy_runs, runs_still, standing_posted}
use Rattle.txn_side.specs.Sight.{next_at}
use Rattle.txn_core.specs.declared.options.TransactionOptions.{TransactionOptions}
use Rattle.txn_clients.specs.declared.told.Told.TheVariants as tells
use Rattle.txn_clients.specs.Failing.{CalledIn, CameIn, CountedIn, FailsAt, HasMet, IfFails, LongerIn, LostIn, MarkedIn, RefusedIn, SentIn, ShownIn, KnowsAsk, RollsIn, RetriesIn, owing}
use Rattle.txn_clients.specs.Resting.{called_in_longer, counted_longer, lost_longer, marked_longer, shown_longer, retries_longer}
use Rattle.txn_clients.specs.Accounts.{SaysLoss}
use Rattle.txn_clients.specs.Waiting.{IsKept, IsReached, IsRisen, StandArises, StandGoes}
use Rattle.txn_clients.proofs.Cleaning.{cleaned, given_cleaned, kept_cleaned, own_cleaned, parts_cleaned, refused_cleaned, shown_cleaned, undone_cleaned, unsent_cleaned}
use Rattle.txn_clients.proofs.Marking.{lost_came, marked_same, marks, none_marked}
use Rattle.txn_clients.proofs.Showing.{among_behind, barred_by, counted_after, counts_heard, owing_called, owing_came, owing_met, rolls_longer, known_so, fails_done, fits_known, own_after, own_heard, refused_by, refused_longer_in, sent_shown, shown_after, shown_heard, unheard_ends}
use Rattle.txn_side.specs.Account.{Account, is_undetermined_view}
use Rattle.txn_side.specs.Trace.{AreOwn, Trace, refused_asks}
use Rattle.txn_side.specs.Trace.CallKind.{OfTransaction}
use Rattle.txn_lines.specs.declared.act.Act.{Act}
use Rattle.txn_kv.specs.declared.outbox.Errand.TheVariants.{Send}
use Rattle.txn_history.specs.Among.{IsAmong}
use Rattle.txn_clients.proofs.Kept.{kept_heard, kept_posted, kept_risen, none_out, sent_or_not}

-- where it has not given up
pub if_kept : {A P : Type 0} (t : Turn A) → (t ≢ Stopped → P) → IfKept t P
if_kept Stopped f = tt
if_kept Waits f = f (λ e. cc)
if_kept (Ends v) f = f (λ e. cc)

pub open_so : {P : Type 0} (g : Work P) → is_open g ≡ false → (g ≡ Idle) ⊎ (g ≡ GaveUp)
open_so Idle e = inl refl
open_so (Open call) e = absurd (no e)
  where
    no : true ≡ false → ⊥
    no q = cc
open_so GaveUp e = inr refl

-- Buffers stay in order.

pub written_step : (key : List ℕ) (write : Contents → Write) (call : WriteCall) (c d : Contents) → IsStep (with_write c key (write c)) call c d → IsOrdered c → IsOrdered d
written_step key write call c d s o = subst IsOrdered (sym s.contents) (written_ordered c key (write c) o)

pub locked_steps : (keys : List (List ℕ)) (c d : Contents) → AreLocked keys c d → IsOrdered c → IsOrdered d
locked_steps keys c d s o = subst IsOrdered (sym s.contents) (all keys c o)
  where
    all : (ks : List (List ℕ)) (e : Contents) → IsOrdered e → IsOrdered (locked_all e ks)
    all [] e r = r
    all (k ∷ ks) e r = all ks (locked e k) (locked_ordered e k r)

mutated_ordered : (o : Op) (c d : Contents) (key value : List ℕ) → mutated_by o c key value ≡ Some d → IsOrdered c → IsOrdered d
mutated_ordered op.Put c d key value e r = subst IsOrdered same (written_ordered c key (after_put (write_at c key) value) r)
  where
    same : with_write c key (after_put (write_at c key) value) ≡ d
    same = cc
mutated_ordered op.Del c d key value e r = subst IsOrdered same (written_ordered c key (after_delete c.is_pessimistic (write_at c key)) r)
  where
    same : with_write c key (after_delete c.is_pessimistic (write_at c key)) ≡ d
    same = cc
mutated_ordered op.Lock c d key value e r = absurd (cc)
mutated_ordered op.Rollback c d key value e r = absurd (cc)
mutated_ordered op.Insert c d key value e r = absurd (cc)
mutated_ordered op.PessimisticLock c d key value e r = absurd (cc)
mutated_ordered op.CheckNotExists c d key value e r = absurd (cc)

pub mutated_steps : (ms : List Mutation) (c d : Contents) → AreSteps ms c d → IsOrdered c → IsOrdered d
mutated_steps ms c d s o = all ms c s.contents o
  where
    all : (ns : List Mutation) (e : Contents) → mutated_all e ns ≡ Some d → IsOrdered e → IsOrdered d
    all [] e q r = subst IsOrdered same r
      where
        same : e ≡ d
        same = cc
    all (n ∷ ns) e q r = by (mutated_by n.op e n.key n.value) refl q (all ns)
      where
        by : (found : Option Contents) → mutated_by n.op e n.key n.value ≡ found → and_mutated found (λ next. mutated_all next ns) ≡ Some d → ((f : Contents) → mutated_all f ns ≡ Some d → IsOrdered f → IsOrdered d) → IsOrdered d
        by None f g later = absurd (cc)
        by (Some next) f g later = later next g (mutated_ordered n.op e next n.key n.value f r)

-- it may be written where a write is not refused
pub may_write : (b : Bool) (e : Error) (later : Option Error) → or_refused (refused_unless b e) later ≡ None → b ≡ true
may_write true e later h = refl
may_write false e later h = absurd (no h)
  where
    no : Some e ≡ None → ⊥
    no q = cc

pub may_write_so : (b : Bool) (e : Error) → refused_unless b e ≡ None → b ≡ true
may_write_so true e h = refl
may_write_so false e h = absurd (no h)
  where
    no : Some e ≡ None → ⊥
    no q = cc

pub reached_later : (from to o : Posted) → to.line ≡ from.line → to.beat ≡ from.beat → IsReached from to o → IsLater to o
reached_later from to o line beat r = record { line = r.line ∙ sym line; beat = r.beat ∙ sym beat; next = r.next; next_ask = r.next_ask }

-- Where a call is refused

pub ends_shut : {P : Type 0} → (t : Ticket) (turn : Turn (Result (TxnAnswer P) Error)) → IsUndetermined t turn → is_waiting turn ≡ false
ends_shut t Stopped u = refl
ends_shut t Waits u = absurd u
ends_shut t (Ends v) u = refl

-- of those that may have committed it the first that was lost is named
pub lost_first : (c : Commits) (t : Ticket) → is_some c.lost ≡ true → undetermined c ≡ Some t → c.lost ≡ Some t
lost_first c t some left = by c.lost refl some left
  where
    by : (lost : Option Ticket) → c.lost ≡ lost → is_some lost ≡ true → or_first lost c.out ≡ Some t → c.lost ≡ Some t
    by None e holds first = absurd (cc)
    by (Some u) e holds first = e ∙ first

module _ {P : Type 0} where
  pub refused_stays : (e : Error) (old new : Standing P) (turn : Turn (Result (TxnAnswer P) Error)) → IsRefused e old new turn → new ≡ old
  refused_stays e old new Stopped r = r
  refused_stays e old new Waits r = absurd r
  refused_stays e old new (Ends v) r = r.1

module _ {P : Type 0} (w : Ways P) where
  -- between calls it waits for nothing
  pub rest_silent : (g : Work P) (a : Awaited) → is_open g ≡ false → work_waits w g a → ⊥
  rest_silent g a e x = by (open_so g e)
    where
      by : (g ≡ Idle) ⊎ (g ≡ GaveUp) → ⊥
      by (inl i) = subst (λ y. work_waits w y a) i x
      by (inr i) = subst (λ y. work_waits w y a) i x

module _ {P : Type 0} (w : Ways P) (p : IsLawful w.plan) where
  -- nothing else of its start is in a later outbox
  later_fits : (t : Standing P) (o later : Posted) (h : List Event) → IsLater o later → TransactionFits w t o h → TransactionFits w t later h
  later_fits t o later h l f = others_fit w p t o later h h l (adds_same (λ r. r.start_version ≡ version_of t.start) h) f

  pub stand_later : {trace : Option Trace} {at : ℕ} (t : Standing P) (o later : Posted) (nexts news : List ℕ) → IsLater o later → IsRisen nexts news → StandArises w trace at o nexts t → StandArises w trace at later news t
  stand_later {trace} {at} t o later nexts news l risen a = record {
    ordered = a.ordered;
    retries = a.retries;
    marked = a.marked;
    arisen = record { history = a.arisen.history; fits = later_fits t o later a.arisen.history l a.arisen.fits; kept = kept_risen nexts news a.arisen.history risen a.arisen.kept; shown = a.arisen.shown; own = subst (λ n. AreOwn n a.arisen.history) (sym l.line) a.arisen.own; counted = subst (λ n. CountedIn trace n (refused_asks a.arisen.history)) (sym l.line) a.arisen.counted };
  }

  -- and in a longer trace
  stand_shown : (trace longer : Option Trace) (at : ℕ) (t : Standing P) (o : Posted) (nexts : List ℕ) → LongerIn trace longer → StandArises w trace at o nexts t → StandArises w longer at o nexts t
  stand_shown trace longer at t o nexts l a = record {
    ordered = a.ordered;
    retries = retries_longer trace longer at t.options.retry_options l a.retries;
    marked = marked_longer trace longer at t l a.marked;
    arisen = record { history = a.arisen.history; fits = a.arisen.fits; kept = a.arisen.kept; shown = shown_longer trace longer at a.arisen.history l a.arisen.shown; own = a.arisen.own; counted = counted_longer trace longer o.line (refused_asks a.arisen.history) l a.arisen.counted };
  }

  -- between calls, in any outbox, and with what explains no error
  cleaned_fits : (t : Standing P) (later : Posted) (h : List Event) → TransactionFits w t later h → (g : Work P) → t.work ≡ g → is_open g ≡ false → TransactionFits w t later (cleaned h)
  cleaned_fits t later h f g e rests = record {
    given = given_cleaned h (version_of t.start) f.given;
    unsent = λ a. unsent_cleaned (version_of t.start) t.commits h (f.unsent a);
    settled = f.settled;
    undone = λ a. undone_cleaned (version_of t.start) t.contents h (f.undone a);
    at = subst (λ x. IsAtWork w t.options.retry_options t.start t.status t.contents t.commits x later (cleaned h)) (sym e) (at g rests (subst (λ x. IsAtWork w t.options.retry_options t.start t.status t.contents t.commits x later h) e f.at));
  }
    where
      at : (x : Work P) → is_open x ≡ false → IsAtWork w t.options.retry_options t.start t.status t.contents t.commits x later h → IsAtWork w t.options.retry_options t.start t.status t.contents t.commits x later (cleaned h)
      at Idle shut k = record { of_parts = λ parts whole. parts_cleaned (version_of t.start) t.commits h parts (k.of_parts parts whole); empty = k.empty }
      at (Open call) shut k = absurd (cc)
      at GaveUp shut k = tt

  rest_fits : (t : Standing P) (o later : Posted) (h : List Event) → is_open t.work ≡ false → TransactionFits w t o h → TransactionFits w t later (cleaned h)
  rest_fits t o later h e f = cleaned_fits t later h (by (open_so t.work e)) t.work refl e
    where
      by : (t.work ≡ Idle) ⊎ (t.work ≡ GaveUp) → TransactionFits w t later h
      by (inl i) = idle_fits w t o later h i f
      by (inr g) = record { given = f.given; unsent = f.unsent; settled = f.settled; undone = f.undone; at = subst (λ x. IsAtWork w t.options.retry_options t.start t.status t.contents t.commits x later h) (sym g) tt }

  pub stand_rests : {trace : Option Trace} {at : ℕ} (t : Standing P) (o later : Posted) (nexts news : List ℕ) → is_open t.work ≡ false → IsRisen nexts news → CountedIn trace later.line 0 → StandArises w trace at o nexts t → StandArises w trace at later news t
  stand_rests {trace} {at} t o later nexts news e risen none a = record {
    ordered = a.ordered;
    retries = a.retries;
    marked = a.marked;
    arisen = record {
      history = cleaned a.arisen.history;
      fits = rest_fits t o later a.arisen.history e a.arisen.fits;
      kept = kept_cleaned news a.arisen.history (kept_risen nexts news a.arisen.history risen a.arisen.kept);
      shown = shown_cleaned trace at a.arisen.history a.arisen.shown;
      own = own_cleaned later.line a.arisen.history;
      counted = subst (CountedIn trace later.line) (sym (refused_cleaned a.arisen.history)) none;
    };
  }

  -- It is told of something.

  -- What it comes to: it can have arisen from a longer history, and an error that it answers rests on that.
  abbrev Arises : Option Trace → ℕ → ℕ → Posted → List ℕ → Standing P → Turn (Result (TxnAnswer P) Error) → Type 0
  Arises longer at line o news new turn = StandArises w longer at o news new × IfEnds turn (IfFails (FailsAt w OfTransaction longer at line))

  -- where it has answered it has not given up
  abbrev Outlives : Standing P → Turn (Result (TxnAnswer P) Error) → Type 0
  Outlives new turn = (v : Result (TxnAnswer P) Error) → turn ≡ Ends v → new.work ≡ GaveUp → ⊥

  given_up : GivenUp ≡ Over → ⊥
  given_up e = cc

  opened_alive : (new : Standing P) (turn : Turn (Result (TxnAnswer P) Error)) → work_phase w new.work ≡ phase_after turn → Outlives new turn
  opened_alive new turn next v e g = given_up (sym (ap (work_phase w) g) ∙ next ∙ ap phase_after e)

  unheard_answers : {A : Type 0} (phase : Phase) (v : A) → Ends v ≡ unheard phase → ⊥
  unheard_answers Fresh v e = cc
  unheard_answers Running v e = cc
  unheard_answers Over v e = cc
  unheard_answers GivenUp v e = cc

  heard_alive : {C : Type 0} (meant : Type 0) (old new : Standing P) (from to : Posted) (pd pd' : C) (turn : Turn (Result (TxnAnswer P) Error)) → TransactionGoes w meant old new from to pd pd' turn → Outlives new turn
  heard_alive meant old new from to pd pd' turn goes v e g = unheard_answers _ v (sym e ∙ goes.deaf (λ m. given_up (sym (ap (work_phase w) g) ∙ goes.next m ∙ ap phase_after e)))

  moved : (trace longer : Option Trace) (at : ℕ) (known : List Event → Type 0) (hear : List Event → List Event) (old new : Standing P) (from to o : Posted) (turn : Turn (Result (TxnAnswer P) Error)) (nexts news : List ℕ)
      → HasMet trace longer from to → CalledIn trace from.line at
      → TransactionMoves w known hear old new from to turn → turn ≢ Stopped → Outlives new turn → new.start ≡ old.start → new.options ≡ old.options → new.contents ≡ old.contents
      → ((h : List Event) → IsKept nexts h → IsKept nexts (hear h))
      → next_at nexts from.line ≤ from.next → IsRisen nexts news → to.next ≤ next_at news from.line → IsReached from to o
      → (a : StandArises w trace at from nexts old) → known a.arisen.history → ShownIn trace at (hear a.arisen.history) → AreOwn from.line (hear a.arisen.history) → CountedIn longer from.line (refused_asks (hear a.arisen.history)) → MarkedIn longer at new → Arises longer at from.line o news new turn
  moved trace longer at known hear old new from to o turn nexts news met called m kept alive start options same keeps low risen up reached a knows hears owns counts marked =
      let h = a.arisen.history in
      let after_all = after from.line from.beat (hear h) m.sends in
      let own = own_after from.line from.line from.beat (hear h) m.sends owns in
      let counted = counted_after longer from.line from.line from.beat (hear h) m.sends counts in
      let fits = IfKept-out turn kept m.still h (a.arisen.fits, knows) in
      let retries = subst (λ (x : TransactionOptions). RetriesIn longer at x.retry_options) (sym options) (retries_longer trace longer at old.options.retry_options met.longer a.retries) in
      let shown = shown_after longer at from.line from.beat (hear h) m.sends (called_in_longer trace longer from.line at met.longer called) (λ n store r i. met.sent n store r (subst (λ es. IsAmong es (Send n store r)) (sym m.pushed) (among_behind from.sends m.sends (Send n store r) i))) (shown_longer trace longer at (hear h) met.longer hears) in (
        record {
          ordered = subst IsOrdered (sym same) a.ordered;
          retries = retries;
          marked = marked;
          arisen = record {
            history = after_all;
            fits = later_fits new to o after_all (reached_later from to o m.line m.beat reached) fits;
            kept = kept_posted nexts news from.line from.beat from.next from.next_ask to.next to.next_ask m.sends (hear h) low m.numbered risen up (keeps h a.arisen.kept);
            shown = shown;
            own = subst (λ n. AreOwn n after_all) (sym reached.line) own;
            counted = subst (λ n. CountedIn longer n (refused_asks after_all)) (sym reached.line) counted;
          };
        },
        fails_done w longer at from.line old new to after_all turn retries shown own counted alive fits start options same (IfEnds-weaker turn (λ v gives. gives h (a.arisen.fits, knows)) m.done),
      )

  -- nothing changes
  stays : (trace longer : Option Trace) (at : ℕ) (old new : Standing P) (from to o : Posted) (nexts news : List ℕ) → LongerIn trace longer → new ≡ old → to ≡ from → IsRisen nexts news → IsReached from to o → StandArises w trace at from nexts old → StandArises w longer at o news new
  stays trace longer at old new from to o nexts news l e f risen reached a =
      subst (StandArises w longer at o news) (sym e) (stand_shown trace longer at old o news l (stand_later old from o nexts news (record { line = reached.line; beat = reached.beat; next = subst (λ (x : Posted). x.next ≤ o.next) f reached.next; next_ask = subst (λ (x : Posted). x.next_ask ≤ o.next_ask) f reached.next_ask }) risen a))

  -- of a request of which its own history knows nothing
  unknown : {C : Type 0} (trace longer : Option Trace) (at : ℕ) (a : Arrival) (n : ℕ) (old new : Standing P) (from to o : Posted) (pd pd' : C) (turn : Turn (Result (TxnAnswer P) Error)) (nexts news : List ℕ) → LongerIn trace longer
      → awaited_as a ≡ ReplyTo n → awaits a from old.commits ≡ is_out (ticket_of from n) old.commits
      → TransactionGoes w (work_waits w old.work (awaited_as a)) (record old { commits = new.commits }) new from to pd pd' turn
      → ((work_waits w old.work (awaited_as a) → ⊥) → awaits a from old.commits ≡ false → new.commits ≡ old.commits)
      → (old.work ≡ Idle → (turn ≡ Waits) × (new ≡ old) × (to ≡ from)) → GivesUp old new turn → turn ≢ Stopped
      → IsRisen nexts news → IsReached from to o → (x : StandArises w trace at from nexts old) → ((r : Request) → Has x.arisen.history (Sent (ticket_of from n) r) → ⊥) → Arises longer at from.line o news new turn
  unknown trace longer at a n old new from to o pd pd' turn nexts news l is out goes commits deaf gone kept risen reached x never =
      (stays trace longer at old new from to o nexts news l (same old.work refl) (goes.outbox other) risen reached x, unheard_ends turn _ (IfFails (FailsAt w OfTransaction longer at from.line)) (goes.deaf other))
    where
      h : List Event
      h = x.arisen.history

      other : work_waits w old.work (awaited_as a) → ⊥
      other y = let s = standing_posted w p old from h (ReplyTo n) x.arisen.fits (subst (work_waits w old.work) is y) in never s.0 s.1

      same : (g : Work P) → old.work ≡ g → new ≡ old
      same Idle e = let d = deaf e in d.1
      same (Open call) e =
          let at : IsAtWork w old.options.retry_options old.start old.status old.contents old.commits (Open call) from h = subst (λ y. IsAtWork w old.options.retry_options old.start old.status old.contents old.commits y from h) e x.arisen.fits.at in
          goes.state other ∙ ap (λ (c : Commits). record old { commits = c }) (commits other (out ∙ none_out (plan_of call.parts) (version_of call.start) old.commits h (ticket_of from n) at.fits.knows never))
      same GaveUp e = let g = gone.after e in absurd (kept g.0)

  runs_open : (g : Work P) → work_phase w g ≡ Running → is_open g ≡ true
  runs_open Idle e = absurd (subst IsRunning (sym e) tt)
  runs_open (Open call) e = refl
  runs_open GaveUp e = absurd (subst IsRunning (sym e) tt)

  -- a call that is open, and waits on, is still open
  pub stays_open : {C : Type 0} (meant : Type 0) (old new : Standing P) (from to : Posted) (pd pd' : C) (turn : Turn (Result (TxnAnswer P) Error)) → TransactionReady w old → TransactionGoes w meant (record old { commits = new.commits }) new from to pd pd' turn
      → is_open old.work ≡ true → turn ≡ Waits → is_open new.work ≡ true
  stays_open meant old new from to pd pd' turn ready goes busy waits = runs_open new.work (runs_still (λ (t : Standing P). work_phase w t.work) (busy_runs w old ready busy) goes waits)

  pub hears_goes : {C : Type 0} (a : Arrival) (old new : Standing P) (from to : Posted) (pd pd' : C) (turn : Turn (Result (TxnAnswer P) Error))
      → ((r : Request) → TransactionMoves w (told_by a from r).known (told_by a from r).hear old new from to turn)
      → new.start ≡ old.start → new.options ≡ old.options → new.contents ≡ old.contents
      → TransactionGoes w (work_waits w old.work (awaited_as a)) (record old { commits = new.commits }) new from to pd pd' turn
      → Expects (work_waits w old.work) (work_waits w new.work) (λ x. x ≡ awaited_as a) from to
      → ((work_waits w old.work (awaited_as a) → ⊥) → awaits a from old.commits ≡ false → new.commits ≡ old.commits)
      → (old.work ≡ Idle → (turn ≡ Waits) × (new ≡ old) × (to ≡ from)) → GivesUp old new turn → TransactionReady w old
      → ((h : List Event) → is_open old.work ≡ true → TransactionFits w old from h → IfKept turn (IsFollowed from (heard a from old.commits) new.commits))
      → IfKept turn (StandGoes w (owing from.line (tells.Heard a)) (λ x. x ≡ awaited_as a) (is_open old.work ≡ true) (λ trace. CameIn trace from a) old new from to turn)
  hears_goes a old new from to pd pd' turn told start options same goes expects commits deaf gone ready follows = if_kept turn (λ kept. record {
    arises = λ trace longer at met called came nexts news o low risen up reached x.
        by kept a refl (owing from.line (tells.Heard a) trace) longer at (owing_met (tells.Heard a) trace longer from to met) (owing_called from.line (tells.Heard a) from.line at trace called) (owing_came from.line from a trace came)
        (counts_heard a from trace longer met.longer) nexts news o low risen up reached x;
    expects = expects;
    runs = stays_open (work_waits w old.work (awaited_as a)) old new from to pd pd' turn ready goes;
  })
    where
      Goal : Type 0
      Goal = (trace longer : Option Trace) (at : ℕ) → HasMet trace longer from to → CalledIn trace from.line at → CameIn trace from a
          → ((r : Request) (h : List Event) → CountedIn trace from.line (refused_asks h) → CountedIn longer from.line (refused_asks ((told_by a from r).hear h)))
          → (nexts news : List ℕ) (o : Posted) → next_at nexts from.line ≤ from.next → IsRisen nexts news → to.next ≤ next_at news from.line → IsReached from to o → StandArises w trace at from nexts old → Arises longer at from.line o news new turn

      marked : turn ≢ Stopped → (trace longer : Option Trace) (at : ℕ) (nexts : List ℕ) → LongerIn trace longer → CameIn trace from a → StandArises w trace at from nexts old → MarkedIn longer at new
      marked kept trace longer at nexts l came x parts whole u e =
          let f = x.arisen.fits in
          let before = ap parts_of (sym same) ∙ whole in
          let lost : LostIn trace at (plan_of parts) (version_of old.start) u = elim (marks w a old new from to turn follows deaf gone kept x.arisen.history f u e) [
            | inl is ↦ x.marked parts before u is
            | inr m ↦ lost_came (plan_of parts) (version_of old.start) old.commits a from trace at x.arisen.history u (fits_known w old from x.arisen.history (λ g. let d = gone.after g in kept d.0) f parts before) x.arisen.shown came m.0
          ] in
          subst (λ s. LostIn longer at (plan_of parts) (version_of s) u) (sym start) (lost_longer trace longer at (plan_of parts) (version_of old.start) u l lost)

      by_reply : turn ≢ Stopped → (n : ℕ) → awaited_as a ≡ ReplyTo n → awaits a from old.commits ≡ is_out (ticket_of from n) old.commits
          → ((r : Request) (h : List Event) → Has h (Sent (ticket_of from n) r) → ((s : Request) → Has h (Sent (ticket_of from n) s) → s ≡ r) → (told_by a from r).known h)
          → Goal
      by_reply kept n is out knows trace longer at met called came counts nexts news o low risen up reached x = elim (sent_or_not x.arisen.history (ticket_of from n)) [
        | inl (r, i) ↦ moved trace longer at _ _ old new from to o turn nexts news met called (told r) kept (heard_alive _ _ new from to pd pd' turn goes) start options same (kept_heard a from r nexts) low risen up reached x (knows r x.arisen.history i (λ s j. x.arisen.kept.alone (ticket_of from n) r s i j))
            (shown_heard trace at a from r x.arisen.history called came (λ m e. subst (λ j. SentIn trace (ticket_of from j) r) (one m (sym is ∙ e)) (sent_shown trace at x.arisen.history (ticket_of from n) r x.arisen.shown i)) x.arisen.shown) (own_heard a from r x.arisen.history met.calls x.arisen.own) (counts r x.arisen.history x.arisen.counted) (marked kept trace longer at nexts met.longer came x)
        | inr never ↦ unknown trace longer at a n old new from to o pd pd' turn nexts news met.longer is out goes commits deaf gone kept risen reached x never
      ]
        where
          one : (m : ℕ) → ReplyTo n ≡ ReplyTo m → n ≡ m
          one m q = cc

      -- where it is no reply and no loss
      comes : turn ≢ Stopped → {b : Arrival} → ((m : ℕ) → awaited_as b ≡ ReplyTo m → ⊥) → a ≡ b → Goal
      comes kept {b} other e trace longer at met called came counts nexts news o low risen up reached x = moved trace longer at _ _ old new from to o turn nexts news met called (told members) kept (heard_alive _ _ new from to pd pd' turn goes) start options same (kept_heard a from members nexts) low risen up reached x (known_so a from members x.arisen.history (λ m f. other m (sym (ap awaited_as e) ∙ f)))
          (shown_heard trace at a from members x.arisen.history called came (λ m f. absurd (other m (sym (ap awaited_as e) ∙ f))) x.arisen.shown) (own_heard a from members x.arisen.history met.calls x.arisen.own) (counts members x.arisen.history x.arisen.counted) (marked kept trace longer at nexts met.longer came x)

      by : turn ≢ Stopped → (b : Arrival) → a ≡ b → Goal
      by kept (arrivals.Reply n x) e = by_reply kept n (ap awaited_as e) (ap (λ b. awaits b from old.commits) e) (λ r h i alone. subst (λ b. (told_by b from r).known h) (sym e) (record { sent = i; alone = alone }))
      by kept (arrivals.Lost n) e = by_reply kept n (ap awaited_as e) (ap (λ b. awaits b from old.commits) e) (λ r h i alone. subst (λ b. (told_by b from r).known h) (sym e) (record { sent = i; alone = alone }))
      by kept (arrivals.Slept n) e = comes kept (λ m. other m) e
        where
          other : (m : ℕ) → EndOf n ≡ ReplyTo m → ⊥
          other m q = cc
      by kept (arrivals.Time n y) e = comes kept (λ m. other m) e
        where
          other : (m : ℕ) → TimeOf n ≡ ReplyTo m → ⊥
          other m q = cc

  -- It is asked for something.

  expects_none : (old new : Standing P) (o : Posted) → is_open new.work ≡ false → Expects (work_waits w old.work) (work_waits w new.work) (λ a. ⊥) o o
  expects_none old new o e = Expects-quiet (λ a x. absurd (rest_silent w new.work a e x))

  -- what a trace has to know of something that is asked: with what it is refused
  abbrev Notes : (Option Trace → Type 0) → ℕ → Option Error → Type 0
  Notes knows line refusal = (trace : Option Trace) → knows trace → RefusedIn trace line refusal

  write_fails : (refusal : Option Error) (wrote : Contents → Contents → Type 0) (old new : Standing P) (trace longer : Option Trace) (at line : ℕ) (v : Result (TxnAnswer P) Error) → WriteEnds refusal wrote old new (Ends v) → LongerIn trace longer → RefusedIn trace line refusal → IfFails (FailsAt w OfTransaction longer at line) v
  write_fails refusal wrote old new trace longer at line (Ok v) ends l r = tt
  write_fails None wrote old new trace longer at line (Err e) ends l r = absurd (never ends.0)
    where
      never : ◌≡◌ {A = Result (TxnAnswer P) Error} (Err e) (Ok answer.Unit) → ⊥
      never q = cc
  write_fails (Some why) wrote old new trace longer at line (Err e) ends l r = refused_by w longer at line e why (refused_longer_in trace longer line (Some why) l r) (one ends.0)
    where
      one : ◌≡◌ {A = Result (TxnAnswer P) Error} (Err e) (Err why) → e ≡ why
      one q = cc

  writes_idle : (knows : Option Trace → Type 0) (refusal : Option Error) (wrote : Contents → Contents → Type 0) (old new : Standing P) (o : Posted) (turn : Turn (Result (TxnAnswer P) Error)) → Notes knows o.line refusal
      → (refusal ≡ None → allows_data old.status ≡ true) → ((c d : Contents) → wrote c d → IsOrdered c → IsOrdered d) → WriteEnds refusal wrote old new turn → old.work ≡ Idle
      → IfKept turn (StandGoes w (λ trace. trace) (λ a. ⊥) ⊤ knows old new o o turn)
  writes_idle knows refusal wrote old new o Stopped notes may keeps ends idle = tt
  writes_idle knows refusal wrote old new o Waits notes may keeps ends idle = absurd ends
  writes_idle knows (Some e) wrote old new o (Ends v) notes may keeps ends idle = record {
    arises = λ trace longer at met called known nexts news later low risen up reached x.
        (stays trace longer at old new o o later nexts news met.longer ends.1 refl risen reached x, write_fails (Some e) wrote old new trace longer at o.line v ends met.longer (notes trace known));
    expects = expects_none old new o (ap (λ (t : Standing P). is_open t.work) ends.1 ∙ ap is_open idle);
    runs = λ any f. absurd (cc);
  }
  writes_idle knows None wrote old new o (Ends v) notes may keeps ends idle = record {
    arises = λ trace longer at met called known nexts news later low risen up reached x.
        (stand_shown trace longer at new later news met.longer (stand_later new o later nexts news (record { line = reached.line; beat = reached.beat; next = reached.next; next_ask = reached.next_ask }) risen (written trace at nexts x)), write_fails None wrote old new trace longer at o.line v ends met.longer (notes trace known));
    expects = expects_none old new o (ap (λ (t : Standing P). is_open t.work) ends.1 ∙ ap is_open idle);
    runs = λ any f. absurd (cc);
  }
    where
      written : (trace : Option Trace) (at : ℕ) (nexts : List ℕ) → StandArises w trace at o nexts old → StandArises w trace at o nexts new
      written trace at nexts x =
          let now = keeps old.contents new.contents ends.2 x.ordered in
          record {
            ordered = now;
            retries = subst (λ (t : Standing P). RetriesIn trace at t.options.retry_options) (sym ends.1) x.retries;
            marked = λ parts whole u e. none_marked w old o x.arisen.history u (may refl) x.arisen.fits (ap (λ (t : Standing P). t.commits.lost) (sym ends.1) ∙ e);
            arisen = record {
              history = x.arisen.history;
              fits = subst (λ (t : Standing P). TransactionFits w t o x.arisen.history) (sym ends.1) (written_fits w old new.contents o x.arisen.history (may refl) idle now x.arisen.fits);
              kept = x.arisen.kept;
              shown = x.arisen.shown;
              own = x.arisen.own;
              counted = x.arisen.counted;
            };
          }

  gone_kept : (E : Type 0) (old new : Standing P) (turn : Turn (Result (TxnAnswer P) Error)) → old.work ≡ GaveUp → GivesUp old new turn → IfKept turn E
  gone_kept E old new turn e gone = let g = gone.after e in subst (λ t. IfKept t E) (sym g.0) tt

  pub writes_goes : (knows : Option Trace → Type 0) (refusal : Option Error) (wrote : Contents → Contents → Type 0) (old new : Standing P) (from to : Posted) (turn : Turn (Result (TxnAnswer P) Error)) → Notes knows from.line refusal
      → (refusal ≡ None → allows_data old.status ≡ true) → ((c d : Contents) → wrote c d → IsOrdered c → IsOrdered d) → WriteEnds refusal wrote old new turn → is_open old.work ≡ false → GivesUp old new turn → to ≡ from
      → IfKept turn (StandGoes w (λ trace. trace) (λ a. ⊥) ⊤ knows old new from to turn)
  writes_goes knows refusal wrote old new from to turn notes may keeps ends rests gone quiet = by (open_so old.work rests)
    where
      by : (old.work ≡ Idle) ⊎ (old.work ≡ GaveUp) → IfKept turn (StandGoes w (λ trace. trace) (λ a. ⊥) ⊤ knows old new from to turn)
      by (inl idle) = subst (λ o. IfKept turn (StandGoes w (λ trace. trace) (λ a. ⊥) ⊤ knows old new from o turn)) (sym quiet) (writes_idle knows refusal wrote old new from turn notes may keeps ends idle)
      by (inr e) = gone_kept (StandGoes w (λ trace. trace) (λ a. ⊥) ⊤ knows old new from to turn) old new turn e gone

  opened : (old new : Standing P) (from to : Posted) (turn : Turn (Result (TxnAnswer P) Error)) → Opens w new from to turn → Expects (work_waits w old.work) (work_waits w new.work) (λ a. ⊥) from to
  opened old new from to turn opens = let x = opens.expects in record {
    sends = x.sends;
    pushed = x.pushed;
    only = λ a y. elim (x.only a y) [ inl b ↦ absurd b.0 | inr s ↦ inr s ];
  }

  waiting_open : (turn : Turn (Result (TxnAnswer P) Error)) (g : Work P) → is_open g ≡ is_waiting turn → turn ≡ Waits → is_open g ≡ true
  waiting_open turn g e f = e ∙ ap is_waiting f

  -- what was asked is this
  pub acts_as : (act is : Act) (owes : Option Trace → Option Trace) (heard : Awaited → Type 0) (busy : Type 0) (line : ℕ) (account : Account) (old new : Standing P) (from to : Posted) (turn : Turn (Result (TxnAnswer P) Error)) → act ≡ is
      → IfKept turn (StandGoes w owes heard busy (λ trace. KnowsAsk trace line is account) old new from to turn) → IfKept turn (StandGoes w owes heard busy (λ trace. KnowsAsk trace line act account) old new from to turn)
  acts_as act is owes heard busy line account old new from to turn e h = subst (λ a. IfKept turn (StandGoes w owes heard busy (λ trace. KnowsAsk trace line a account) old new from to turn)) (sym e) h

  refused_fails : (e : Error) (old new : Standing P) (trace longer : Option Trace) (at line : ℕ) (turn : Turn (Result (TxnAnswer P) Error)) → IsRefused e old new turn → LongerIn trace longer → RefusedIn trace line (Some e) → IfEnds turn (IfFails (FailsAt w OfTransaction longer at line))
  refused_fails e old new trace longer at line Stopped r l known = tt
  refused_fails e old new trace longer at line Waits r l known = tt
  refused_fails e old new trace longer at line (Ends (Ok v)) r l known = tt
  refused_fails e old new trace longer at line (Ends (Err f)) r l known = refused_by w longer at line f e (refused_longer_in trace longer line (Some e) l known) (one r.0)
    where
      one : ◌≡◌ {A = Result (TxnAnswer P) Error} (Err f) (Err e) → f ≡ e
      one q = cc

  -- it begins a commit, or is refused
  pub commits_goes : (knows : Option Trace → Type 0) (e : Error) (b : Bool) (old new : Standing P) (from to : Posted) (turn : Turn (Result (TxnAnswer P) Error)) → (b ≡ false → Notes knows from.line (Some e))
      → (b ≡ false → IsRefused e old new turn × (to ≡ from)) → (b ≡ true → TransactionMoves w (λ h. ⊤) (λ h. h) old new from to turn) → new.start ≡ old.start → new.options ≡ old.options → new.contents ≡ old.contents
      → Opens w new from to turn → is_open new.work ≡ is_waiting turn → IfKept turn (new.commits.lost ≡ old.commits.lost)
      → IfKept turn (StandGoes w (λ trace. trace) (λ a. ⊥) ⊤ knows old new from to turn)
  commits_goes knows e true old new from to turn notes refused moves start options same opens busy lost = if_kept turn (λ kept. record {
    arises = λ trace longer at met called known nexts news o low risen up reached x. moved trace longer at _ _ old new from to o turn nexts news met called (moves refl) kept (opened_alive new turn opens.next) start options same (λ h y. y) low risen up reached x tt x.arisen.shown x.arisen.own (counted_longer trace longer from.line (refused_asks x.arisen.history) met.longer x.arisen.counted)
        (marked_same trace longer at old new met.longer same start (IfKept-out turn kept lost) x.marked);
    expects = opened old new from to turn opens;
    runs = λ any f. waiting_open turn new.work busy f;
  })
  commits_goes knows e false old new from to turn notes refused moves start options same opens busy lost = let r = refused refl in if_kept turn (λ kept. record {
    arises = λ trace longer at met called known nexts news o low risen up reached x. (stays trace longer at old new from to o nexts news met.longer (refused_stays e old new turn r.0) r.1 risen reached x, refused_fails e old new trace longer at from.line turn r.0 met.longer (notes refl trace known));
    expects = opened old new from to turn opens;
    runs = λ any f. waiting_open turn new.work busy f;
  })

  -- a commit of it was lost, so that it is not known what became of it
  left_alone : (trace longer : Option Trace) (at : ℕ) (t : Ticket) (old new : Standing P) (from to o : Posted) (turn : Turn (Result (TxnAnswer P) Error)) (nexts news : List ℕ) → LongerIn trace longer → turn ≢ Stopped → is_open old.work ≡ false → is_open new.work ≡ false → GivesUp old new turn
      → new ≡ record old { work = new.work } → to ≡ from → IsRisen nexts news → IsReached from to o → StandArises w trace at from nexts old → StandArises w longer at o news new
  left_alone trace longer at t old new from to o turn nexts news l kept rests shut gone e f risen reached x = by (open_so old.work rests) (open_so new.work shut)
    where
      by : (old.work ≡ Idle) ⊎ (old.work ≡ GaveUp) → (new.work ≡ Idle) ⊎ (new.work ≡ GaveUp) → StandArises w longer at o news new
      by (inr g) later = let d = gone.after g in absurd (kept d.0)
      by (inl i) (inl j) = stays trace longer at old new from to o nexts news l (e ∙ ap (λ (y : Work P). record old { work = y }) (j ∙ sym i)) f risen reached x
      by (inl i) (inr g) = subst (StandArises w longer at o news) (sym (e ∙ ap (λ (y : Work P). record old { work = y }) g)) (record {
        ordered = x.ordered;
        retries = retries_longer trace longer at old.options.retry_options l x.retries;
        marked = marked_longer trace longer at old l x.marked;
        arisen = record {
          history = x.arisen.history;
          fits = record { given = x.arisen.fits.given; unsent = x.arisen.fits.unsent; settled = x.arisen.fits.settled; undone = x.arisen.fits.undone; at = tt };
          kept = kept_risen nexts news x.arisen.history risen x.arisen.kept;
          shown = shown_longer trace longer at x.arisen.history l x.arisen.shown;
          own = subst (λ n. AreOwn n x.arisen.history) (sym reached.line) x.arisen.own;
          counted = subst (λ n. CountedIn longer n (refused_asks x.arisen.history)) (sym reached.line) (counted_longer trace longer from.line (refused_asks x.arisen.history) l x.arisen.counted);
        };
      })

  unknown_fails : (trace longer : Option Trace) (at : ℕ) (t : Ticket) (old : Standing P) (o : Posted) (nexts : List ℕ) (turn : Turn (Result (TxnAnswer P) Error)) → LongerIn trace longer → RollsIn trace o.line → (old.work ≡ GaveUp → ⊥) → undetermined old.commits ≡ Some t → SaysLoss turn old → IsUndetermined t turn → StandArises w trace at o nexts old → IfEnds turn (IfFails (FailsAt w OfTransaction longer at o.line))
  unknown_fails trace longer at t old o nexts Stopped l rolls alive left says u x = tt
  unknown_fails trace longer at t old o nexts Waits l rolls alive left says u x = tt
  unknown_fails trace longer at t old o nexts (Ends (Ok v)) l rolls alive left says u x = tt
  unknown_fails trace longer at t old o nexts (Ends (Err e)) l rolls alive left says u x =
      let h = x.arisen.history in
      barred_by w old o h alive x.arisen.fits t (lost_first old.commits t (says (ap is_undetermined_view u)) left) longer at o.line e u (shown_longer trace longer at h l x.arisen.shown) x.arisen.own (counted_longer trace longer o.line (refused_asks h) l x.arisen.counted)
      (rolls_longer trace longer o.line l rolls) (marked_longer trace longer at old l x.marked)

  pub rollbacks_goes : (knows : Option Trace → Type 0) (e : Error) (b : Bool) (lost : Option Ticket) (old new : Standing P) (from to : Posted) (turn : Turn (Result (TxnAnswer P) Error)) → (b ≡ false → Notes knows from.line (Some e)) → ((trace : Option Trace) → knows trace → RollsIn trace from.line) → undetermined old.commits ≡ lost
      → (b ≡ false → IsRefused e old new turn × (to ≡ from))
      → ((t : Ticket) → b ≡ true → lost ≡ Some t → IsUndetermined t turn × (new ≡ record old { work = new.work }) × (to ≡ from))
      → (b ≡ true → lost ≡ None → TransactionMoves w (λ h. ⊤) (λ h. h) old new from to turn) → new.start ≡ old.start → new.options ≡ old.options → new.contents ≡ old.contents
      → Opens w new from to turn → is_open new.work ≡ is_waiting turn → is_open old.work ≡ false → GivesUp old new turn → SaysLoss turn new → new.commits ≡ old.commits
      → IfKept turn (StandGoes w (λ trace. trace) (λ a. ⊥) ⊤ knows old new from to turn)
  rollbacks_goes knows e true None old new from to turn notes rolls is_lost refused unsure moves start options same opens busy rests gone says commits =
      commits_goes knows e true old new from to turn (λ f. absurd (cc)) (λ f. absurd (cc)) (λ f. moves refl refl) start options same opens busy (IfKept-all turn (ap (λ (c : Commits). c.lost) commits))
  rollbacks_goes knows e true (Some t) old new from to turn notes rolls is_lost refused unsure moves start options same opens busy rests gone says commits = let u = unsure t refl refl in if_kept turn (λ kept. record {
    arises = λ trace longer at met called known nexts news o low risen up reached x. (left_alone trace longer at t old new from to o turn nexts news met.longer kept rests (busy ∙ ends_shut t turn u.0) gone u.1 u.2 risen reached x, unknown_fails trace longer at t old from nexts turn met.longer (rolls trace known) (λ e. let d = gone.after e in kept d.0) is_lost (λ told. ap (λ (y : Standing P). is_some y.commits.lost) (sym u.1) ∙ says told) u.0 x);
    expects = opened old new from to turn opens;
    runs = λ any f. waiting_open turn new.work busy f;
  })
  rollbacks_goes knows e false lost old new from to turn notes rolls is_lost refused unsure moves start options same opens busy rests gone says commits =
      commits_goes knows e false old new from to turn notes refused (λ f. absurd (cc)) start options same opens busy (IfKept-all turn (ap (λ (c : Commits). c.lost) commits))
