-- A call of a client goes on, and can have arisen from a history of its own; and so what stands at a line.
use Rattle.std.proofs.Common.{◌≡◌, ◌≢◌, inl, inr, ℕ, ◌≤◌, Bool, List, Option, Some, None, refl, sym, ap, ◌∙◌, subst}
use Rattle.std.specs.Prelude.{IfSome, Result, Ok, Err}
use Rattle.txn_kv.specs.declared.errors.Error.{Error}
use Rattle.txn_kv.specs.declared.request.Request.{Request}
use Rattle.txn_history.proofs.Arriving.{told_heard}
use Rattle.txn_history.specs.Event.{Event, Has}
use Rattle.txn_history.specs.Event.Event.{Sent}
use Rattle.txn_history.specs.Later.{IsLater}
use Rattle.txn_history.specs.Meaning.{Goes, Tells, Told as CallTold, started}
use Rattle.txn_history.specs.Phase.{phase_after}
use Rattle.txn_history.specs.Phase.Awaited.{EndOf, ReplyTo, TimeOf}
use Rattle.txn_history.specs.Phase.Phase.{Fresh}
use Rattle.txn_history.specs.Posted.{Posted, Within-refl, after, ticket_of}
use Rattle.txn_history.specs.Among.{IsAmong}
use Rattle.txn_history.specs.Turn.{IfEnds, IfEnds-weaker, IfKept, IfKept-out, Turn}
use Rattle.txn_kv.specs.declared.outbox.Errand.TheVariants.{Send}
use Rattle.txn_core.specs.declared.txn_answer.TxnAnswer.{TxnAnswer}
use Rattle.txn_side.specs.Trace.{AreOwn, Trace, refused_asks}
use Rattle.txn_side.specs.Trace.CallKind.{ForTimestamp, OfTransaction}
use Rattle.txn_clients.specs.Failing.{AnswerRests, AskRests, CalledIn, CameIn, CountedIn, FailsAt, HasMet, IfFails, LongerIn, SentIn, ShownIn, owing}
use Rattle.txn_clients.specs.Resting.{called_in_longer, counted_longer, shown_longer, wanted_longer}
use Rattle.txn_clients.proofs.Showing.{among_behind, counted_after, counts_heard, owing_called, owing_came, owing_met, fails_by, known_so, own_after, own_heard, sent_shown, shown_after, shown_heard, unheard_ends}
use Rattle.txn_history.specs.Turn.Turn.{Stopped, Waits, Ends}
use Rattle.txn_history.specs.Arrivals.{awaited_as, told_by}
use Rattle.txn_kv.specs.declared.arrival.Arrival.{Arrival}
use Rattle.txn_kv.specs.declared.arrival.Arrival.TheVariants as arrivals
use Rattle.txn_tso.specs.Calling.{members}
use Rattle.txn_commit.specs.Ways.{Ways}
use Rattle.txn_core.proofs.Waiting.{runs_still}
use Rattle.txn_client.specs.Calls.{CallGives, IsAt, called, called-lawful, stage_phase, stage_waits}
use Rattle.txn_client.specs.declared.client_answer.ClientAnswer.{ClientAnswer}
use Rattle.txn_client.specs.declared.client_answer.ClientAnswer.TheVariants.{Begun, Time}
use Rattle.txn_client.specs.declared.client_call.ClientCall.{ClientCall}
use Rattle.txn_side.specs.Sight.{next_at}
use Rattle.txn_clients.specs.Rows.{Pd, answer_in}
use Rattle.txn_clients.specs.Waiting.{AskArises, HasArisen, IsKept, IsReached, IsRisen, RowGoes, WantedIn, hears}
use Rattle.txn_clients.specs.declared.answer.Answer.TheVariants as answers
use Rattle.txn_clients.specs.declared.row.Row.TheVariants as row
use Rattle.txn_clients.specs.declared.told.Told.TheVariants as tells
use Rattle.txn_clients.proofs.Kept.{kept_heard, kept_posted, kept_risen, sent_or_not}
use Rattle.txn_clients.proofs.Standing.{if_kept, reached_later}

-- where there is no answer, it waits
pub no_answer : {A X : Type 0} (make : A → X) (turn : Turn A) → turn ≢ Stopped → answer_in make turn ≡ None → turn ≡ Waits
no_answer make Stopped kept e = absurd (kept refl)
no_answer make Waits kept e = refl
no_answer make (Ends v) kept e = absurd (no e)
  where
    no : Some (make v) ≡ None → ⊥
    no q = cc

module _ {P : Type 0} where
  pub call_later : {trace : Option Trace} {at : ℕ} (s : ClientCall Pd P) (o later : Posted) (nexts news : List ℕ) → IsLater o later → IsRisen nexts news → AskArises trace at o nexts s → AskArises trace at later news s
  call_later {trace} {at} s o later nexts news l risen x =
      let a = x.arisen in
      record {
        wanted = x.wanted;
        arisen = record {
          history = a.history;
          fits = called-lawful.fits_longer s o later a.history a.history l (Within-refl a.history) a.fits;
          kept = kept_risen nexts news a.history risen a.kept;
          shown = a.shown;
          own = subst (λ n. AreOwn n a.history) (sym l.line) a.own;
          counted = subst (λ n. CountedIn trace n (refused_asks a.history)) (sym l.line) a.counted;
        };
      }

  module _ (w : Ways P) (trace longer : Option Trace) (at : ℕ) where
    -- an error that a call for a timestamp answers rests on what it has heard
    call_fails : (line : ℕ) (call : ClientCall Pd P) (h : List Event) (v : Result (ClientAnswer Pd P) Error) → ShownIn longer at h → AreOwn line h → CountedIn longer line (refused_asks h) → WantedIn longer at call → CallGives call.wanted h v → AskRests w longer at line v
    call_fails line call h (Ok (Time t)) s own counted wants gives = tt
    call_fails line call h (Ok (Begun b)) s own counted wants gives = wants h b gives
    call_fails line call h (Err e) s own counted wants gives = fails_by w ForTimestamp longer at line e h s own counted (λ shows is. gives)

    call_ends : (line : ℕ) (call : ClientCall Pd P) (h : List Event) (turn : Turn (Result (ClientAnswer Pd P) Error)) → ShownIn longer at h → AreOwn line h → CountedIn longer line (refused_asks h) → WantedIn longer at call → IfEnds turn (λ v. CallGives call.wanted h v) → IfEnds turn (AskRests w longer at line)
    call_ends line call h Stopped s own counted wants gives = tt
    call_ends line call h Waits s own counted wants gives = tt
    call_ends line call h (Ends v) s own counted wants gives = call_fails line call h v s own counted wants gives

    abbrev Arises : ℕ → Posted → List ℕ → ClientCall Pd P → Turn (Result (ClientAnswer Pd P) Error) → Type 0
    Arises line o news new turn = AskArises longer at o news new × IfEnds turn (AskRests w longer at line)

    call_moved : (told : CallTold) (old new : ClientCall Pd P) (from to o : Posted) (turn : Turn (Result (ClientAnswer Pd P) Error)) (nexts news : List ℕ) → HasMet trace longer from to → CalledIn trace from.line at
        → Tells called told old new from to turn → turn ≢ Stopped
        → ((h : List Event) → IsKept nexts h → IsKept nexts (told.hear h))
        → next_at nexts from.line ≤ from.next → IsRisen nexts news → to.next ≤ next_at news from.line → IsReached from to o
        → (a : HasArisen (λ h. IsAt old.stage from h) trace at from.line nexts) → told.known a.history → ShownIn trace at (told.hear a.history) → AreOwn from.line (told.hear a.history) → CountedIn longer from.line (refused_asks (told.hear a.history)) → WantedIn trace at old → Arises from.line o news new turn
    call_moved told old new from to o turn nexts news met is_called t kept keeps low risen up reached a knows hears owns counts wants =
        let m = t.moves in
        let still = wanted_longer trace longer at old met.longer wants in
        let after_all = after from.line from.beat (told.hear a.history) m.sends in
        let own = own_after from.line from.line from.beat (told.hear a.history) m.sends owns in
        let counted = counted_after longer from.line from.line from.beat (told.hear a.history) m.sends counts in
        let shown = shown_after longer at from.line from.beat (told.hear a.history) m.sends (called_in_longer trace longer from.line at met.longer is_called) (λ n store r i. met.sent n store r (subst (λ es. IsAmong es (Send n store r)) (sym m.pushed) (among_behind from.sends m.sends (Send n store r) i))) (shown_longer trace longer at (told.hear a.history) met.longer hears) in (
          record {
            wanted = λ h b gives. still h b (t.job.given h (Ok (Begun b)) gives);
            arisen = record {
              history = after_all;
              fits = called-lawful.fits_longer new to o after_all after_all (reached_later from to o m.line m.beat reached) (Within-refl after_all) (IfKept-out turn kept m.still a.history (a.fits, knows));
              kept = kept_posted nexts news from.line from.beat from.next from.next_ask to.next to.next_ask m.sends (told.hear a.history) low m.numbered risen up (keeps a.history a.kept);
              shown = shown;
              own = subst (λ n. AreOwn n after_all) (sym reached.line) own;
              counted = subst (λ n. CountedIn longer n (refused_asks after_all)) (sym reached.line) counted;
            };
          },
          call_ends from.line old after_all turn shown own counted still (IfEnds-weaker turn (λ v gives. gives a.history (a.fits, knows)) m.done),
        )

    call_unknown : {C : Type 0} (a : Arrival) (n : ℕ) (old new : ClientCall Pd P) (from to o : Posted) (pd pd' : C) (turn : Turn (Result (ClientAnswer Pd P) Error)) (nexts news : List ℕ) → LongerIn trace longer
        → awaited_as a ≡ ReplyTo n → Goes called.phase (stage_waits old.stage (awaited_as a)) old new from to pd pd' turn
        → IsRisen nexts news → IsReached from to o → (x : AskArises trace at from nexts old) → ((r : Request) → Has x.arisen.history (Sent (ticket_of from n) r) → ⊥) → Arises from.line o news new turn
    call_unknown a n old new from to o pd pd' turn nexts news l is goes risen reached x never = (
      subst (λ (s : ClientCall Pd P). AskArises longer at o news s) (sym (goes.state other))
          (longer_call (call_later old from o nexts news (record { line = reached.line; beat = reached.beat; next = subst (λ (y : Posted). y.next ≤ o.next) (goes.outbox other) reached.next; next_ask = subst (λ (y : Posted). y.next_ask ≤ o.next_ask) (goes.outbox other) reached.next_ask }) risen x)),
      unheard_ends turn _ (AskRests w longer at from.line) (goes.deaf other),
    )
      where
        longer_call : AskArises trace at o news old → AskArises longer at o news old
        longer_call y = let z = y.arisen in record { wanted = wanted_longer trace longer at old l y.wanted; arisen = record { history = z.history; fits = z.fits; kept = z.kept; shown = shown_longer trace longer at z.history l z.shown; own = z.own; counted = counted_longer trace longer o.line (refused_asks z.history) l z.counted } }

        other : stage_waits old.stage (awaited_as a) → ⊥
        other y = let s = called-lawful.posted old from x.arisen.history (ReplyTo n) x.arisen.fits (subst (stage_waits old.stage) is y) in never s.0 s.1

  -- the answer that there is rests so
  pub answer_rests : (w : Ways P) (longer : Option Trace) (at line : ℕ) (turn : Turn (Result (ClientAnswer Pd P) Error)) → IfEnds turn (AskRests w longer at line) → IfSome (answer_in answers.Asked turn) (AnswerRests w longer at line)
  answer_rests w longer at line Stopped f = tt
  answer_rests w longer at line Waits f = tt
  answer_rests w longer at line (Ends v) f = f

  pub call_rests : (w : Ways P) (longer : Option Trace) (at line : ℕ) (turn : Turn (Result (TxnAnswer P) Error)) → IfEnds turn (IfFails (FailsAt w OfTransaction longer at line)) → IfSome (answer_in answers.Called turn) (AnswerRests w longer at line)
  call_rests w longer at line Stopped f = tt
  call_rests w longer at line Waits f = tt
  call_rests w longer at line (Ends v) f = f

  module _ (w : Ways P) where
    pub call_starts : {C : Type 0} (c : ℕ) (b : Bool) (old new : ClientCall Pd P) (from to : Posted) (pd pd' : C) (turn : Turn (Result (ClientAnswer Pd P) Error))
        → Tells called started old new from to turn → Goes called.phase (stage_phase old.stage ≡ Fresh) old new from to pd pd' turn
        → IfKept turn (RowGoes w tells.Start (row.Asking c b old) (row.Asking c b new) from to (answer_in answers.Asked turn))
    call_starts c b old new from to pd pd' turn t goes = if_kept turn (λ kept. record {
      arises = λ trace longer at met called_so known nexts news o low risen up reached x.
          let a = x.arisen in
          let r = call_moved w trace longer at started old new from to o turn nexts news met called_so t kept (λ h y. y) low risen up reached a tt a.shown a.own (counted_longer trace longer from.line (refused_asks a.history) met.longer a.counted) x.wanted in (r.0, answer_rests w longer at from.line turn r.1);
      expects = t.expects;
      runs = λ fresh none. goes.next fresh ∙ ap phase_after (no_answer answers.Asked turn kept none);
    })

    pub call_hears : {C : Type 0} (c : ℕ) (b : Bool) (a : Arrival) (old new : ClientCall Pd P) (from to : Posted) (pd pd' : C) (turn : Turn (Result (ClientAnswer Pd P) Error))
        → ((r : Request) → Tells called (told_by a from r) old new from to turn) → Goes called.phase (stage_waits old.stage (awaited_as a)) old new from to pd pd' turn
        → IfKept turn (RowGoes w (tells.Heard a) (row.Asking c b old) (row.Asking c b new) from to (answer_in answers.Asked turn))
    call_hears c b a old new from to pd pd' turn t goes = if_kept turn (λ kept. record {
      arises = λ trace longer at met called_so came nexts news o low risen up reached x.
          let r = by kept a refl (owing from.line (tells.Heard a) trace) longer at (owing_met (tells.Heard a) trace longer from to met) (owing_called from.line (tells.Heard a) from.line at trace called_so) (owing_came from.line from a trace came) (counts_heard a from trace longer met.longer) nexts news o low risen up reached x in (r.0, answer_rests w longer at from.line turn r.1);
      expects = let x = (t members).expects in record { sends = x.sends; pushed = x.pushed; only = λ y z. elim (x.only y z) [ inl u ↦ inl (u.0, λ g. u.1 (told_heard a from members y g)) | inr v ↦ inr v ] };
      runs = λ run none. runs_still (λ (s : ClientCall Pd P). stage_phase s.stage) run goes (no_answer answers.Asked turn kept none);
    })
      where
        Goal : Type 0
        Goal = (trace longer : Option Trace) (at : ℕ) → HasMet trace longer from to → CalledIn trace from.line at → CameIn trace from a
            → ((r : Request) (h : List Event) → CountedIn trace from.line (refused_asks h) → CountedIn longer from.line (refused_asks ((told_by a from r).hear h)))
            → (nexts news : List ℕ) (o : Posted) → next_at nexts from.line ≤ from.next → IsRisen nexts news → to.next ≤ next_at news from.line → IsReached from to o → AskArises trace at from nexts old → Arises w trace longer at from.line o news new turn

        by_reply : turn ≢ Stopped → (n : ℕ) → awaited_as a ≡ ReplyTo n
            → ((r : Request) (h : List Event) → Has h (Sent (ticket_of from n) r) → ((s : Request) → Has h (Sent (ticket_of from n) s) → s ≡ r) → (told_by a from r).known h)
            → Goal
        by_reply kept n is knows trace longer at met called_so came counts nexts news o low risen up reached x = let h = x.arisen in elim (sent_or_not h.history (ticket_of from n)) [
          | inl (r, i) ↦ call_moved w trace longer at _ old new from to o turn nexts news met called_so (t r) kept (kept_heard a from r nexts) low risen up reached h (knows r h.history i (λ s j. h.kept.alone (ticket_of from n) r s i j))
              (shown_heard trace at a from r h.history called_so came (λ m e. subst (λ j. SentIn trace (ticket_of from j) r) (one m (sym is ∙ e)) (sent_shown trace at h.history (ticket_of from n) r h.shown i)) h.shown) (own_heard a from r h.history met.calls h.own) (counts r h.history h.counted) x.wanted
          | inr never ↦ call_unknown w trace longer at a n old new from to o pd pd' turn nexts news met.longer is goes risen reached x never
        ]
          where
            one : (m : ℕ) → ReplyTo n ≡ ReplyTo m → n ≡ m
            one m q = cc

        -- where it is no reply and no loss
        comes : turn ≢ Stopped → {d : Arrival} → ((m : ℕ) → awaited_as d ≡ ReplyTo m → ⊥) → a ≡ d → Goal
        comes kept {d} other e trace longer at met called_so came counts nexts news o low risen up reached x = let h = x.arisen in call_moved w trace longer at _ old new from to o turn nexts news met called_so (t members) kept (kept_heard a from members nexts) low risen up reached h (known_so a from members h.history (λ m f. other m (sym (ap awaited_as e) ∙ f)))
            (shown_heard trace at a from members h.history called_so came (λ m f. absurd (other m (sym (ap awaited_as e) ∙ f))) h.shown) (own_heard a from members h.history met.calls h.own) (counts members h.history h.counted) x.wanted

        by : turn ≢ Stopped → (d : Arrival) → a ≡ d → Goal
        by kept (arrivals.Reply n x) e = by_reply kept n (ap awaited_as e) (λ r h i alone. subst (λ d. (told_by d from r).known h) (sym e) (record { sent = i; alone = alone }))
        by kept (arrivals.Lost n) e = by_reply kept n (ap awaited_as e) (λ r h i alone. subst (λ d. (told_by d from r).known h) (sym e) (record { sent = i; alone = alone }))
        by kept (arrivals.Slept n) e = comes kept (λ m. other m) e
          where
            other : (m : ℕ) → EndOf n ≡ ReplyTo m → ⊥
            other m q = cc
        by kept (arrivals.Time n y) e = comes kept (λ m. other m) e
          where
            other : (m : ℕ) → TimeOf n ≡ ReplyTo m → ⊥
            other m q = cc
