-- What stands at a line is told of something.
use Rattle.std.proofs.Common.{◌≡◌, ◌≢◌, inl, inr, ℕ, Bool, true, false, List, [], ◌∷◌, Option, Some, None, refl, sym, subst}
use Rattle.std.specs.Prelude.{⊤, Result, Ok, Err}
use Rattle.txn_kv.specs.Timestamp.{version_of}
use Rattle.txn_kv.specs.declared.errors.Error.{Error}
use Rattle.txn_kv.specs.declared.progress.Progress.{Progress}
use Rattle.txn_kv.specs.declared.progress.Progress.TheVariants.{Waiting, Done}
use Rattle.txn_history.specs.Later.{IsLater}
use Rattle.txn_history.specs.Meaning.{IsLawful}
use Rattle.txn_history.specs.Phase.{Awaited}
use Rattle.txn_history.specs.Phase.Phase.{Fresh}
use Rattle.txn_history.specs.Posted.{Posted}
use Rattle.txn_history.specs.Turn.{IfKept, Turn, turn_of}
use Rattle.txn_history.specs.Turn.Turn.{Stopped}
use Rattle.txn_history.proofs.Telling.{Expects-quiet}
use Rattle.txn_history.specs.Arrivals.{awaited_as}
use Rattle.txn_kv.specs.declared.arrival.Arrival.{Arrival}
use Rattle.txn_commit.specs.Ways.{Ways}
use Rattle.txn_commit.specs.declared.secondary_job.SecondaryJob.{SecondaryJob}
use Rattle.txn_core.specs.Transaction.{Standing, is_open}
use Rattle.txn_core.specs.declared.txn_answer.TxnAnswer.{TxnAnswer}
use Rattle.txn_client.specs.declared.client_call.ClientCall.{ClientCall}
use Rattle.txn_lines.specs.declared.act.Act.{Act}
use Rattle.txn_clients.specs.Rows.{Pd, Posts, answer_in}
use Rattle.txn_clients.specs.Waiting.{IsPrepared, IsReached, IsRisen, RowArises, RowGoes, RowRuns, StandGoes, hears, wants}
use Rattle.txn_clients.specs.declared.answer.Answer.{Answer}
use Rattle.txn_clients.specs.declared.answer.Answer.TheVariants as answers
use Rattle.txn_clients.specs.declared.row.Row.{Row}
use Rattle.txn_clients.specs.declared.row.Row.TheVariants as row
use Rattle.txn_clients.specs.declared.told.Told.{Told}
use Rattle.txn_clients.specs.declared.told.Told.TheVariants as tells
use Rattle.txn_side.specs.Trace.{Trace}
use Rattle.txn_clients.specs.Accounts.{account_of}
use Rattle.txn_clients.specs.Failing.{CameIn, CountedIn, KnowsAsk, RetriesIn, owing}
use Rattle.txn_clients.specs.Resting.{row_longer}
use Rattle.txn_clients.proofs.Marking.{no_mark}
use Rattle.txn_clients.proofs.Calls.{call_later, call_rests, no_answer}
use Rattle.txn_clients.proofs.Showing.{longer_then, owing_longer, own_times, shown_times}
use Rattle.txn_clients.proofs.Standing.{stand_later}
use Rattle.std.specs.List.Sorted.{IsStrictlySortedBy}
use Rattle.std.specs.Prelude.{IfSome}
use Rattle.std.proofs.Common.{Ordering, arith}
use Rattle.txn_kv.specs.declared.reply.Reply.TheVariants as replies
use Rattle.txn_kv.specs.declared.reply.cluster.TsoResponse.{TsoResponse}
use Rattle.txn_kv.specs.declared.request.Request.{Request}
use Rattle.txn_kv.specs.declared.request.Request.TheVariants.{Tso}
use Rattle.txn_kv.specs.declared.ticket.Ticket.{Ticket}
use Rattle.txn_history.specs.Event.{Event}
use Rattle.txn_history.specs.Event.Event.{Took}
use Rattle.txn_history.specs.Licence.{WasGiven}
use Rattle.txn_history.specs.Meaning.{Goes, Tells as CallTells, started}
use Rattle.txn_history.specs.Turn.{IfEnds}
use Rattle.txn_history.specs.Arrivals.{told_by}
use Rattle.txn_core.specs.Going.{IsUncommitted}
use Rattle.txn_core.specs.Transaction.{begun}
use Rattle.txn_core.specs.declared.options.TransactionOptions.{TransactionOptions}
use Rattle.txn_core.proofs.Ordered.{begun_fits}
use Rattle.txn_client.specs.Calls.{IsMadeOf, called, stage_phase, stage_waits}
use Rattle.txn_client.specs.declared.client_answer.ClientAnswer.{ClientAnswer}
use Rattle.txn_client.specs.declared.client_call.Wanted.{Wanted}
use Rattle.txn_client.specs.declared.client_call.Wanted.TheVariants as wanted
use Rattle.txn_clients.specs.Waiting.{IsNewAnswer, StandArises}
use Rattle.txn_clients.proofs.Calls.{call_hears, call_starts}
use Rattle.txn_clients.proofs.Kept.{kept_took}

reached_same : (from o : Posted) → IsReached from from o → IsLater from o
reached_same from o r = record { line = r.line; beat = r.beat; next = r.next; next_ask = r.next_ask }

module _ {P : Type 0} (w : Ways P) where
  pub stand_acts : (x : Act) (c m : ℕ) (old new : Standing P) (from to : Posted) (turn : Turn (Result (TxnAnswer P) Error)) → turn ≢ Stopped → StandGoes w (λ trace. trace) (λ a. ⊥) ⊤ (λ trace. KnowsAsk trace from.line x (account_of old)) old new from to turn
      → RowGoes w (tells.Act x) (row.Begun c old m) (row.Begun c new m) from to (answer_in answers.Called turn)
  stand_acts x c m old new from to turn kept g = record {
    arises = λ trace longer at met called_so known nexts news o low risen up reached x. let r = g.arises trace longer at met called_so known nexts news o low risen up reached x in (r.0, call_rests w longer at from.line turn r.1);
    expects = g.expects;
    runs = λ any none some. g.runs tt (no_answer answers.Called turn kept none);
  }

  pub stand_hears : (x : Arrival) (c m : ℕ) (old new : Standing P) (from to : Posted) (turn : Turn (Result (TxnAnswer P) Error)) → turn ≢ Stopped → StandGoes w (owing from.line (tells.Heard x)) (λ a. a ≡ awaited_as x) (is_open old.work ≡ true) (λ trace. CameIn trace from x) old new from to turn
      → RowGoes w (tells.Heard x) (row.Begun c old m) (row.Begun c new m) from to (answer_in answers.Called turn)
  stand_hears x c m old new from to turn kept g = record {
    arises = λ trace longer at met called_so came nexts news o low risen up reached x. let r = g.arises trace longer at met called_so came nexts news o low risen up reached x in (r.0, call_rests w longer at from.line turn r.1);
    expects = g.expects;
    runs = λ run none some. g.runs (run some) (no_answer answers.Called turn kept none);
  }

  -- a job is nobody's call
  pub job_goes : (told : Told) (c : ℕ) (old new : SecondaryJob P) (from to : Posted) → Posts from to → RowGoes w told (row.Working c old) (row.Working c new) from to None
  job_goes told c old new from to posts = record {
    arises = λ trace longer at met called_so known nexts news o low risen up reached x. (tt, tt);
    expects = record { sends = posts.sends; pushed = posts.pushed; only = λ a x. absurd x };
    runs = λ prepared none. tt;
  }

  module _ (p : IsLawful w.plan) where
    pub row_later : (trace : Option Trace) (at : ℕ) (r : Row P) (o later : Posted) (nexts news : List ℕ) → IsLater o later → IsRisen nexts news → RowArises w trace at o nexts r → RowArises w trace at later news r
    row_later trace at row.Plain o later nexts news l risen x = tt
    row_later trace at (row.Client c) o later nexts news l risen x = tt
    row_later trace at (row.Asking c b call) o later nexts news l risen x = call_later call o later nexts news l risen x
    row_later trace at (row.Begun c t m) o later nexts news l risen x = stand_later w p t o later nexts news l risen x
    row_later trace at (row.Calling c y b) o later nexts news l risen x = tt
    row_later trace at (row.Past c) o later nexts news l risen x = tt
    row_later trace at (row.Working c job) o later nexts news l risen x = tt

    -- nothing is done
    pub row_quiet : (told : Told) (r : Row P) (o : Posted) → (IsPrepared told r → RowRuns r) → ((a : Awaited) → wants w r a → hears told a → ⊥) → RowGoes w told r r o o None
    row_quiet told r o runs deaf = record {
      arises = λ trace longer at met called_so known nexts news later low risen up reached x. (row_longer w (owing o.line told trace) longer at later news r (longer_then (owing o.line told trace) trace longer (owing_longer o.line told trace) met.longer) (row_later (owing o.line told trace) at r o later nexts news (reached_same o later reached) risen x), tt);
      expects = Expects-quiet (λ a x. (x, deaf a x));
      runs = λ prepared none. runs prepared;
    }

-- A call that has not given up

pub ok_kept : {A X : Type 0} (p : Progress A) → IfKept (turn_of (Ok p)) X → X
ok_kept Waiting x = x
ok_kept (Done v) x = x

pub ok_goes : {A : Type 0} (p : Progress A) → turn_of (Ok p) ≢ Stopped
ok_goes Waiting e = cc
ok_goes (Done v) e = cc

made_so : {P : Type 0} (x : Wanted) (now : ℕ) (a : Arrival) (v : Result (ClientAnswer Pd P) Error) → IsMadeOf x now a v → IsNewAnswer {P = P} (answers.Asked v)
made_so wanted.Timestamp now a (Ok v) (ask, t, came, e) = subst (λ u. IsNewAnswer (answers.Asked (Ok u))) (sym e) tt
made_so (wanted.Transaction options) now a (Ok v) (ask, t, came, e) = subst (λ u. IsNewAnswer (answers.Asked (Ok u))) (sym e) (options, now, refl)
made_so x now a (Err e) h = tt

pub made_new : {P : Type 0} (p : Progress (ClientAnswer Pd P)) (x : Wanted) (now : ℕ) (a : Arrival) (answer : Option (Answer P)) → answer ≡ answer_in answers.Asked (turn_of (Ok p)) → IfEnds (turn_of (Ok p)) (IsMadeOf x now a) → IfSome answer IsNewAnswer
made_new Waiting x now a answer e made = subst (λ o. IfSome o IsNewAnswer) (sym e) tt
made_new (Done v) x now a answer e made = subst (λ o. IfSome o IsNewAnswer) (sym e) (made_so x now a v made)

module _ {P : Type 0} (w : Ways P) where
  pub call_started : {C : Type 0} (told : Told) (c : ℕ) (b : Bool) (old new : ClientCall Pd P) (from to : Posted) (pd pd' : C) (progress : Progress (ClientAnswer Pd P)) (answer : Option (Answer P)) → told ≡ tells.Start → answer ≡ answer_in answers.Asked (turn_of (Ok progress))
      → CallTells called started old new from to (turn_of (Ok progress)) → Goes called.phase (stage_phase old.stage ≡ Fresh) old new from to pd pd' (turn_of (Ok progress)) → RowGoes w told (row.Asking c b old) (row.Asking c b new) from to answer
  call_started told c b old new from to pd pd' progress answer e f t goes =
      subst (λ d. RowGoes w d (row.Asking c b old) (row.Asking c b new) from to answer) (sym e) (subst (λ o. RowGoes w tells.Start (row.Asking c b old) (row.Asking c b new) from to o) (sym f) (ok_kept progress (call_starts w c b old new from to pd pd' (turn_of (Ok progress)) t goes)))

  pub call_heard : {C : Type 0} (told : Told) (c : ℕ) (b : Bool) (a : Arrival) (old new : ClientCall Pd P) (from to : Posted) (pd pd' : C) (progress : Progress (ClientAnswer Pd P)) (answer : Option (Answer P)) → told ≡ tells.Heard a → answer ≡ answer_in answers.Asked (turn_of (Ok progress))
      → ((r : Request) → CallTells called (told_by a from r) old new from to (turn_of (Ok progress))) → Goes called.phase (stage_waits old.stage (awaited_as a)) old new from to pd pd' (turn_of (Ok progress)) → RowGoes w told (row.Asking c b old) (row.Asking c b new) from to answer
  call_heard told c b a old new from to pd pd' progress answer e f t goes =
      subst (λ d. RowGoes w d (row.Asking c b old) (row.Asking c b new) from to answer) (sym e) (subst (λ o. RowGoes w (tells.Heard a) (row.Asking c b old) (row.Asking c b new) from to o) (sym f) (ok_kept progress (call_hears w c b a old new from to pd pd' (turn_of (Ok progress)) t goes)))

  pub stand_acted : (told : Told) (x : Act) (c m : ℕ) (old new : Standing P) (from to : Posted) (progress : Progress (TxnAnswer P)) (answer : Option (Answer P)) → told ≡ tells.Act x → answer ≡ answer_in answers.Called (turn_of (Ok progress))
      → IfKept (turn_of (Ok progress)) (StandGoes w (λ trace. trace) (λ a. ⊥) ⊤ (λ trace. KnowsAsk trace from.line x (account_of old)) old new from to (turn_of (Ok progress))) → RowGoes w told (row.Begun c old m) (row.Begun c new m) from to answer
  stand_acted told x c m old new from to progress answer e f g =
      subst (λ d. RowGoes w d (row.Begun c old m) (row.Begun c new m) from to answer) (sym e) (subst (λ o. RowGoes w (tells.Act x) (row.Begun c old m) (row.Begun c new m) from to o) (sym f) (stand_acts w x c m old new from to (turn_of (Ok progress)) (ok_goes progress) (ok_kept progress g)))

  pub stand_heard : (told : Told) (x : Arrival) (c m : ℕ) (old new : Standing P) (from to : Posted) (progress : Progress (TxnAnswer P)) (answer : Option (Answer P)) → told ≡ tells.Heard x → answer ≡ answer_in answers.Called (turn_of (Ok progress))
      → IfKept (turn_of (Ok progress)) (StandGoes w (owing from.line (tells.Heard x)) (λ a. a ≡ awaited_as x) (is_open old.work ≡ true) (λ trace. CameIn trace from x) old new from to (turn_of (Ok progress))) → RowGoes w told (row.Begun c old m) (row.Begun c new m) from to answer
  stand_heard told x c m old new from to progress answer e f g =
      subst (λ d. RowGoes w d (row.Begun c old m) (row.Begun c new m) from to answer) (sym e) (subst (λ o. RowGoes w (tells.Heard x) (row.Begun c old m) (row.Begun c new m) from to o) (sym f) (stand_hears w x c m old new from to (turn_of (Ok progress)) (ok_goes progress) (ok_kept progress g)))

  module _ (p : IsLawful w.plan) where
    pub call_unmoved : (told : Told) (x : Act) (c : ℕ) (b : Bool) (call : ClientCall Pd P) (o : Posted) → told ≡ tells.Act x → RowGoes w told (row.Asking c b call) (row.Asking c b call) o o None
    call_unmoved told x c b call o e = subst (λ d. RowGoes w d (row.Asking c b call) (row.Asking c b call) o o None) (sym e) (row_quiet w p (tells.Act x) (row.Asking c b call) o (λ h. h) (λ a h z. z))

    pub stand_unmoved : (told : Told) (c m : ℕ) (t : Standing P) (o : Posted) → told ≡ tells.Start → RowGoes w told (row.Begun c t m) (row.Begun c t m) o o None
    stand_unmoved told c m t o e = subst (λ d. RowGoes w d (row.Begun c t m) (row.Begun c t m) o o None) (sym e) (row_quiet w p tells.Start (row.Begun c t m) o (λ h. h) (λ a h z. z))

-- A transaction that has just begun

pub none_ordered : {X : Type 0} (key : X → X → Ordering) → IsStrictlySortedBy key []
unfolding IsStrictlySortedBy
none_ordered key = tt

pub begun_arises : {P : Type 0} (w : Ways P) (b : Standing P) (options : TransactionOptions) (now : ℕ) (trace : Option Trace) (at : ℕ) (o : Posted) (nexts : List ℕ) → b ≡ begun b.start options now → RetriesIn trace at b.options.retry_options → CountedIn trace o.line 0 → StandArises w trace at o nexts b
begun_arises w b options now trace at o nexts e retries none = subst (StandArises w trace at o nexts) (sym e) (record {
  ordered = none_ordered _;
  retries = subst (λ (t : Standing _). RetriesIn trace at t.options.retry_options) e retries;
  marked = λ parts whole u lost. no_mark u lost;
  arisen = record {
    history = given;
    fits = begun_fits w b.start options now o given was never;
    kept = kept_took nexts _ _ _;
    shown = shown_times trace at ticket (record { count = 1 }) reply;
    own = own_times o.line ticket (record { count = 1 }) reply;
    counted = none;
  };
})
  where
    ticket : Ticket
    ticket = record { line = 0; beat = false; number = 0 }

    reply : TsoResponse
    reply = record { count = 1; timestamp = Some b.start }

    given : List Event
    given = Took ticket (Tso (record { count = 1 })) (replies.Tso reply) ∷ []

    was : WasGiven given (version_of b.start)
    was = (ticket, record { count = 1 }, reply, version_of b.start, inl refl, (b.start, refl, omega arith, omega arith), omega arith)

    never : IsUncommitted (version_of b.start) given
    never t r (inl f) same = cc
    never t r (inr f) same = f
