-- What has happened in a run so far, what the calls of clients have heard of it, and what a call that fails rests on.
use Rattle.std.specs.Prelude.{IfSome, ◌≡◌, ◌⊎◌, ◌∷◌, ◌+◌, ◌<◌, ◌≤◌, ⊤, ℕ, false, if◌then◌else◌, List, [], length, nat_eq, Option, Some, None, Result, Ok, Err}
use Rattle.std.proofs.Common.{inl, inr, suc, subst, sym, ◌∙◌}
use Rattle.std.specs.List.{All, Any}
use Rattle.txn_kv.specs.ErrorView.{ErrorView, view_of}
use Rattle.txn_kv.specs.ErrorView.ErrorView.{plain, undetermined}
use Rattle.txn_kv.specs.declared.errors.Error.{Error}
use Rattle.txn_kv.specs.declared.errors.Error.TheVariants.{InternalError}
use Rattle.txn_kv.specs.declared.errors.Internal.{Internal}
use Rattle.txn_kv.specs.declared.errors.Internal.TheVariants.{OracleCount, OracleEmpty, OracleLost, WrongReply}
use Rattle.txn_kv.specs.declared.reply.Reply.{Reply}
use Rattle.txn_kv.specs.declared.reply.Reply.TheVariants as replies
use Rattle.txn_kv.specs.declared.reply.cluster.TsoResponse.{TsoResponse}
use Rattle.txn_kv.specs.declared.request.Request.{Request}
use Rattle.txn_kv.specs.declared.request.Request.TheVariants.{BatchRollback, Commit, Prewrite, Tso}
use Rattle.txn_kv.specs.declared.request.cluster.TsoRequest.{TsoRequest}
use Rattle.txn_kv.specs.declared.ticket.Ticket.{Ticket}
use Rattle.txn_kv.specs.declared.timestamp.Timestamp.{Timestamp}
use Rattle.txn_history.specs.Among.{IsAmong}
use Rattle.txn_history.specs.Event.{Event, Has}
use Rattle.txn_history.specs.Event.Event.{Sent, Took, Lost, Answered}
use Rattle.txn_history.specs.Licence.{IsWithoutError}
use Rattle.txn_lines.specs.declared.begin_options.BeginOptions.{BeginOptions}
use Rattle.txn_report.specs.declared.outcome.Outcome.TheVariants as outcomes
use Rattle.txn_tso.specs.Oracle.{answer}
use Rattle.txn_side.specs.Account.{Account, refusal}
use Rattle.txn_side.specs.Sight.{Group, IsOut, Sight}
use Rattle.txn_side.specs.Waiting.{posted_in}
use Rattle.txn_lines.specs.declared.act.Act.{Act}
use Rattle.txn_lines.specs.declared.act.Act.TheVariants.{Rollback}
use Rattle.txn_side.specs.declared.turn.Ending.{Ending}
use Rattle.txn_side.specs.declared.turn.Posting.{Posting}
use Rattle.txn_side.specs.declared.turn.Posting.TheVariants.{Send, Sleep}
use Rattle.txn_side.specs.declared.turn.Turn.{Turn}

-- What has happened

-- What comes for a line is told to what stands at this line: its own, or that of the transaction of which it asks something.
pub record Call : Type 0 where
  pub line : ℕ
  pub at : ℕ

-- a line was refused at once what it asked of a transaction, with this error
pub record Refusal : Type 0 where
  pub line : ℕ
  pub error : Error

-- a line asked for a transaction that begins with these options
pub record Begin : Type 0 where
  pub line : ℕ
  pub options : BeginOptions

-- The events that a run shows; whom what comes for a line is told; which lines begin a transaction, be it that they fail, and with
-- which options; which lines roll one back; the requests for timestamps and whose asks they carry; what was posted since; what
-- was refused; and the lines that are still to be told that an ask was, once for each such ask. `came` is the ticket for which something
-- came in the newest line, if something did.
pub record Trace : Type 0 where
  pub events : List Event
  pub came : Option Ticket
  pub calls : List Call
  pub begun : List Begin
  pub rollbacks : List ℕ
  pub groups : List Group
  pub posted : List Posting
  pub refused : List Refusal
  pub owed : List ℕ

abbrev pub with_posted : List Posting → Trace → Trace
with_posted posted t = record t { posted = posted }

abbrev pub IsSend : Ticket → Request → Posting → Type 0
IsSend u r (Send ticket to request askers) = (ticket ≡ u) × (request ≡ r)
IsSend u r (Sleep ticket) = ⊥

-- the request was sent with the ticket
abbrev pub IsSentIn : Trace → Ticket → Request → Type 0
IsSentIn t u r = Has t.events (Sent u r) ⊎ Any (IsSend u r) t.posted

-- what comes for the line is told to what stands at this one
abbrev pub IsCalled : Trace → ℕ → ℕ → Type 0
IsCalled t line at = IsAmong t.calls (record { line = line; at = at })

-- what stands at this line was to begin with these options
abbrev pub IsBegunAs : Trace → ℕ → BeginOptions → Type 0
IsBegunAs t at options = IsAmong t.begun (record { line = at; options = options })

-- the line begins a transaction with these options, if it begins one
abbrev pub BeginsAs : Trace → ℕ → Option BeginOptions → Type 0
BeginsAs t line None = ⊤
BeginsAs t line (Some options) = IsBegunAs t line options

-- where this is asked, the line is among those that roll back
abbrev pub RollsBack : List ℕ → ℕ → Act → Type 0
RollsBack lines line Rollback = IsAmong lines line
RollsBack lines line act = ⊤

-- With what the reply to a request for timestamps refuses one of so many whose asks it carries: its count or its timestamp gives none to
-- the one that has so many behind it, or it is of another kind.
abbrev pub Refuses : ℕ → Reply → Error → Type 0
Refuses asked (replies.Tso o) e = (behind : ℕ) × (behind < asked) × (answer o asked behind ≡ Err e)
Refuses asked o e = e ≡ InternalError WrongReply

-- A request for timestamps was lost, or its reply refuses one of so many whose asks it carries: this is the error.
abbrev pub HasFailed : List Event → Ticket → TsoRequest → ℕ → Error → Type 0
HasFailed events u r asked e = (Has events (Lost u (Tso r)) × (e ≡ InternalError OracleLost)) ⊎ ((o : Reply) × Has events (Took u (Tso r) o) × Refuses asked o e)

-- an ask of the line was refused with this error: the request that carried it failed so
pub record IsRefusedIn (t : Trace) (line : ℕ) (e : Error) : Type 0 where
  pub group : Group
  pub among : IsAmong t.groups group
  pub asker : IsAmong group.askers line
  pub request : TsoRequest
  pub failed : HasFailed t.events group.ticket request (length group.askers) e

-- What came in the newest line refused it, so it was refused for the last time so far.
pub record IsRefusedNow (t : Trace) (line : ℕ) (e : Error) : Type 0 where
  pub refused : IsRefusedIn t line e
  pub now : t.came ≡ Some refused.group.ticket

-- why there is no timestamp
abbrev pub untimed : Internal → Option Internal
untimed OracleLost = Some OracleLost
untimed (OracleCount asked given) = Some (OracleCount asked given)
untimed OracleEmpty = Some OracleEmpty
untimed _ = None

abbrev pub untimed_by : Error → Option Internal
untimed_by (InternalError what) = untimed what
untimed_by _ = None

abbrev pub untimed_alone : ErrorView → Option Internal
untimed_alone (plain e) = untimed_by e
untimed_alone _ = None

-- where an error says so, or the one that it holds as the end of a call that is not known
abbrev pub untimed_view : ErrorView → Option Internal
untimed_view (undetermined inner) = untimed_alone inner
untimed_view view = untimed_alone view

abbrev pub untimed_of : Error → Option Internal
untimed_of e = untimed_view (view_of e)

-- an error that says so says with what an ask of the line was refused last
abbrev pub LastTold : Trace → ℕ → Error → Type 0
LastTold t line e = IfSome (untimed_of e) (λ what. IsRefusedNow t line (InternalError what))

-- How often an ask of a line was refused.

-- with the line before these where its ask is refused
abbrev pub and_refused : Result Timestamp Error → ℕ → List ℕ → List ℕ
and_refused (Ok x) line lines = lines
and_refused (Err e) line lines = line ∷ lines

-- the lines of these asks, of so many, to which a reply gives no timestamp, once for each ask
abbrev pub given_none : TsoResponse → ℕ → List ℕ → List ℕ
given_none o asked [] = []
given_none o asked (line ∷ behind) = and_refused (answer o asked (length behind)) line (given_none o asked behind)

-- those whose asks a reply refuses, of all that its request carried
abbrev pub refused_by : Reply → List ℕ → List ℕ
refused_by (replies.Tso o) askers = given_none o (length askers) askers
refused_by o askers = askers

-- the lines whose asks are refused as this comes for the request that carried them
abbrev pub refused_as : Event → List ℕ → List ℕ
refused_as (Lost u (Tso r)) askers = askers
refused_as (Took u (Tso r) o) askers = refused_by o askers
refused_as event askers = []

-- how often the line is among these
abbrev pub times_in : List ℕ → ℕ → ℕ
times_in [] line = 0
times_in (n ∷ lines) line = if nat_eq n line then suc (times_in lines line) else times_in lines line

-- this came for the ticket
abbrev pub ComesFor : Ticket → Event → Type 0
ComesFor u (Took t r o) = t ≡ u
ComesFor u (Lost t r) = t ≡ u
ComesFor u event = ⊥

-- So many asks of the line were refused as these events came: each is of a request that is among these, and each event is counted for
-- one request.
abbrev pub AreRefused : List Group → ℕ → List Event → ℕ → Type 0
AreRefused groups line [] k = k ≡ 0
AreRefused groups line (event ∷ events) k =
    AreRefused groups line events k
    ⊎ ((g : Group) × IsAmong groups g × ComesFor g.ticket event × ((j : ℕ) × (k ≡ times_in (refused_as event g.askers) line + j) × AreRefused groups line events j))

-- at least so many were
abbrev pub HasRefused : Trace → ℕ → ℕ → Type 0
HasRefused t line n = (k : ℕ) × (n ≤ k) × AreRefused t.groups line t.events k

-- at least so many were, besides those of which the line is still to be told
abbrev pub HasRefusedBeside : Trace → ℕ → ℕ → Type 0
HasRefusedBeside t line n = HasRefused t line (n + times_in t.owed line)

-- how many refused asks a history has
abbrev pub refused_asks : List Event → ℕ
refused_asks [] = 0
refused_asks (Answered ask (Err e) ∷ h) = suc (refused_asks h)
refused_asks (e ∷ h) = refused_asks h

-- What a call has heard

-- A reply in which no error has its cause: one with timestamps, to a request for them, which is no call's own; or one that says
-- without error that keys are written, committed or rolled back.
abbrev pub IsHarmless : Request → Reply → Type 0
IsHarmless (Tso r) (replies.Tso o) = ⊤
IsHarmless (Prewrite r) (replies.Prewrite o) = IsWithoutError (replies.Prewrite o)
IsHarmless (Commit r) (replies.Commit o) = IsWithoutError (replies.Commit o)
IsHarmless (BatchRollback r) (replies.BatchRollback o) = IsWithoutError (replies.BatchRollback o)
IsHarmless r o = ⊥

-- a reply was taken
abbrev pub IsTakenIn : Trace → ℕ → Ticket → Request → Reply → Type 0
IsTakenIn t at u r o = (IsCalled t u.line at × Has t.events (Took u r o)) ⊎ IsHarmless r o

abbrev pub IsAnsweredIn : Trace → ℕ → Ticket → Result Timestamp Error → Type 0
IsAnsweredIn t at ask (Ok x) = ⊤
IsAnsweredIn t at ask (Err e) = IsCalled t ask.line at × IsRefusedIn t ask.line e

-- what stands at this line knows of the event, which happened; of the other events nothing is said
abbrev pub IsShown : Trace → ℕ → Event → Type 0
IsShown t at (Sent u r) = IsCalled t u.line at × IsSentIn t u r
IsShown t at (Took u r o) = IsTakenIn t at u r o
IsShown t at (Lost u r) = IsCalled t u.line at × Has t.events (Lost u r)
IsShown t at (Answered ask x) = IsAnsweredIn t at ask x
IsShown t at e = ⊤

abbrev pub AreShown : Trace → ℕ → List Event → Type 0
AreShown t at h = (e : Event) → Has h e → IsShown t at e

abbrev pub IsCommit : Request → Type 0
IsCommit (Commit r) = ⊤
IsCommit r = ⊥

-- the ticket is one of the line itself, and none of its heartbeat
abbrev pub IsFrom : ℕ → Ticket → Type 0
IsFrom line u = (u.line ≡ line) × (u.beat ≡ false)

-- Came it for this line? Of the earlier lines of a transaction nothing is known, where an error is explained, but what explains none.
abbrev pub IsOwn : ℕ → Event → Type 0
IsOwn line (Took u r o) = IsFrom line u ⊎ IsHarmless r o
IsOwn line (Lost u r) = IsFrom line u
IsOwn line (Answered ask (Ok x)) = ⊤
IsOwn line (Answered ask (Err e)) = ask.line ≡ line
IsOwn line e = ⊤

abbrev pub AreOwn : ℕ → List Event → Type 0
AreOwn line h = (e : Event) → Has h e → IsOwn line e

-- What comes for a request for timestamps has happened, and the trace has the request with those whose asks it carries. By as many as
-- are refused so, more asks of a line are refused than before.
pub record GroupCame (before t : Trace) (g : Group) (event : Request → Event) : Type 0 where
  pub among : IsAmong t.groups g
  pub request : TsoRequest
  pub come : Has t.events (event (Tso request))
  pub more : (line n : ℕ) → HasRefused before line n → HasRefused t line (times_in (refused_as (event (Tso request)) g.askers) line + n)

-- What comes for a ticket has happened, whatever its request was, and so where that is a request for timestamps that is out. Nobody
-- is told of it yet, or of anything before it still to be told.
pub record HasCome (before t : Trace) (s : Sight) (u : Ticket) (event : Request → Event) : Type 0 where
  pub now : t.came ≡ Some u
  pub told : t.owed ≡ []
  pub own : (r : Request) → IsSentIn t u r → Has t.events (event r)
  pub group : (g : Group) → IsOut s g → g.ticket ≡ u → GroupCame before t g event

-- all that was so still is
pub record IsLonger (t longer : Trace) : Type 0 where
  pub events : (e : Event) → Has t.events e → Has longer.events e
  pub calls : (c : Call) → IsAmong t.calls c → IsAmong longer.calls c
  pub begun : (b : Begin) → IsAmong t.begun b → IsAmong longer.begun b
  pub rollbacks : (n : ℕ) → IsAmong t.rollbacks n → IsAmong longer.rollbacks n
  pub groups : (g : Group) → IsAmong t.groups g → IsAmong longer.groups g
  pub sent : (u : Ticket) (r : Request) → IsSentIn t u r → IsSentIn longer u r
  pub refused : (line n : ℕ) → HasRefused t line n → HasRefused longer line n
  -- besides those of which lines are still to be told, too
  pub beside : (line n : ℕ) → HasRefusedBeside t line n → HasRefusedBeside longer line n

-- How a call fails

-- Calls that fail in ways of their own: those for a timestamp, those of a transaction, and its rollbacks, which may also be refused.
pub data CallKind : Type 0 where
  ForTimestamp : CallKind
  OfTransaction : CallKind
  OfRollback : CallKind

-- What a call for a timestamp is told stands at its own line, and what one of a transaction is told at that of the transaction.
abbrev pub kind_at : ℕ → ℕ → CallKind
kind_at at line = if nat_eq at line then ForTimestamp else OfTransaction

-- With which errors a call of a kind may fail. It depends on what is said of the options with which its transaction was to begin, and on
-- what the call had heard.
abbrev pub HowCallsFail : Type 1
HowCallsFail = CallKind → (BeginOptions → Type 0) → List Event → Error → Type 0

-- The line rolls back, and fails so after what is known of its transaction, which stands at `at`, and has happened, be it for other lines.
pub record IsBarredIn (fails : HowCallsFail) (t : Trace) (at line : ℕ) (e : Error) : Type 0 where
  pub rolls : IsAmong t.rollbacks line
  pub known : List Event
  pub shown : AreShown t at known
  pub fails_so : fails OfRollback (IsBegunAs t at) known e

-- The call of the line failed with this error after what it had heard, which has happened, and has come for this line: as a call of its
-- kind may, where what stands at `at` was to begin with such options; or as a rollback alone. Of the asks of the line that were refused it
-- has heard each once at most, and where it failed for want of a timestamp it is with the last of them.
pub record FailsIn (fails : HowCallsFail) (t : Trace) (line : ℕ) (e : Error) : Type 0 where
  pub at : ℕ
  pub called : IsCalled t line at
  pub history : List Event
  pub shown : AreShown t at history
  pub own : AreOwn line history
  pub counted : HasRefused t line (refused_asks history)
  pub last : LastTold t line e
  pub fails_so : fails (kind_at at line) (IsBegunAs t at) history e ⊎ IsBarredIn fails t at line e

-- or it was refused
abbrev pub EndsFor : HowCallsFail → Trace → Ending → Type 0
EndsFor fails t ending = (e : Error) → ending.outcome ≡ outcomes.Err e → FailsIn fails t ending.line e ⊎ IsAmong t.refused (record { line = ending.line; error = e })

abbrev pub ended_in : Option Turn → List Ending
ended_in None = []
ended_in (Some turn) = turn.ended.items

-- What a step makes of it, where nothing was posted before: the calls rest on what happened and what is posted, and each that fails has its reason there.
abbrev pub ComesToRest : HowCallsFail → (Trace → Type 0) → Trace → List Posting → List Ending → Type 0
ComesToRest fails is t posted ended = is (with_posted posted t) × All (EndsFor fails (with_posted posted t)) ended

abbrev pub RestsOn : HowCallsFail → (Trace → Type 0) → (Trace → Type 0) → Trace → List Posting → List Ending → Type 0
RestsOn fails was is t posted ended = was t → ComesToRest fails is t posted ended

-- the newest line calls for a timestamp, at which a transaction with these options begins, or none
abbrev pub AsksOn : HowCallsFail → (Trace → Type 0) → (Trace → Type 0) → Option BeginOptions → ℕ → Option Turn → Type 0
AsksOn fails was is begins newest turn = (t : Trace) → t.posted ≡ [] → IsCalled t newest newest → BeginsAs t newest begins → RestsOn fails was is t (posted_in turn) (ended_in turn)

-- the newest line asks something of the transaction of line x, whose account is this
abbrev pub ActsOn : HowCallsFail → (Trace → Type 0) → (Trace → Type 0) → Act → ℕ → ℕ → Account → Option Turn → Type 0
ActsOn fails was is act x newest account turn =
    (t : Trace) → t.posted ≡ [] → IsCalled t newest x → ((e : Error) → refusal act account ≡ Some e → IsAmong t.refused (record { line = newest; error = e })) → RollsBack t.rollbacks newest act → RestsOn fails was is t (posted_in turn) (ended_in turn)

-- clients hear of what came for a ticket, before which they rested on what had happened by then
abbrev pub HearsOn : HowCallsFail → (Trace → Type 0) → (Trace → Type 0) → Sight → Ticket → (Request → Event) → Turn → Type 0
HearsOn fails was is s u event turn =
    (before t : Trace) → IsLonger before t → t.posted ≡ [] → HasCome before t s u event → was before → ComesToRest fails is t turn.posted.items turn.ended.items

-- or that a sleep has ended
abbrev pub WakesOn : HowCallsFail → (Trace → Type 0) → (Trace → Type 0) → Turn → Type 0
WakesOn fails was is turn = (t : Trace) → t.posted ≡ [] → RestsOn fails was is t turn.posted.items turn.ended.items

-- the calls rest on what they rested on
abbrev pub StillRests : (Trace → Type 0) → (Trace → Type 0) → Type 0
StillRests was is = (t : Trace) → was t → is t

-- lemmas

-- what was so still is
module _ (t longer : Trace) (l : IsLonger t longer) where
  pub refused_longer : (line : ℕ) (e : Error) → IsRefusedIn t line e → IsRefusedIn longer line e
  refused_longer line e r = record {
    group = r.group;
    among = l.groups r.group r.among;
    asker = r.asker;
    request = r.request;
    failed = elim r.failed [ inl h ↦ inl (l.events _ h.0, h.1) | inr h ↦ inr (h.0, l.events _ h.1, h.2) ];
  }

  -- where nothing came since
  pub now_longer : t.came ≡ longer.came → (line : ℕ) (e : Error) → IsRefusedNow t line e → IsRefusedNow longer line e
  unfolding refused_longer
  now_longer same line e r = record { refused = refused_longer line e r.refused; now = sym same ∙ r.now }

  pub last_longer : t.came ≡ longer.came → (line : ℕ) (e : Error) → LastTold t line e → LastTold longer line e
  last_longer same line e told = by (untimed_of e) told
    where
      by : (what : Option Internal) → IfSome what (λ w. IsRefusedNow t line (InternalError w)) → IfSome what (λ w. IsRefusedNow longer line (InternalError w))
      by None r = tt
      by (Some w) r = now_longer same line (InternalError w) r

  pub called_longer : (line at : ℕ) → IsCalled t line at → IsCalled longer line at
  called_longer line at c = l.calls (record { line = line; at = at }) c

  pub shown_longer : (at : ℕ) (e : Event) → IsShown t at e → IsShown longer at e
  shown_longer at (Sent u r) k = (called_longer u.line at k.0, l.sent u r k.1)
  shown_longer at (Took u r o) k = elim k [ inl h ↦ inl (called_longer u.line at h.0, l.events _ h.1) | inr h ↦ inr h ]
  shown_longer at (Lost u r) k = (called_longer u.line at k.0, l.events _ k.1)
  shown_longer at (Answered ask (Ok x)) k = tt
  shown_longer at (Answered ask (Err e)) k = (called_longer ask.line at k.0, refused_longer ask.line e k.1)
  shown_longer at e k = tt

  -- the options of a transaction are those that they were, and nothing came since
  pub fails_longer : t.begun ≡ longer.begun → t.came ≡ longer.came → (fails : HowCallsFail) (line : ℕ) (e : Error) → FailsIn fails t line e → FailsIn fails longer line e
  fails_longer same quiet fails line e f = record {
    at = f.at;
    called = called_longer line f.at f.called;
    history = f.history;
    shown = λ x h. shown_longer f.at x (f.shown x h);
    own = f.own;
    counted = l.refused line (refused_asks f.history) f.counted;
    last = last_longer quiet line e f.last;
    fails_so = elim f.fails_so [
      | inl k ↦ inl (as_long (kind_at f.at line) f.history k)
      | inr k ↦ inr (record { rolls = l.rollbacks line k.rolls; known = k.known; shown = λ x h. shown_longer f.at x (k.shown x h); fails_so = as_long OfRollback k.known k.fails_so })
    ];
  }
    where
      as_long : (kind : CallKind) (h : List Event) → fails kind (IsBegunAs t f.at) h e → fails kind (IsBegunAs longer f.at) h e
      as_long kind h k = subst (λ (bs : List Begin). fails kind (λ options. IsAmong bs (record { line = f.at; options = options })) h e) same k
