-- What a trace shows of what calls hear and post, and on what the errors that they answer rest.
use Rattle.std.proofs.Common.{◌≡◌, ◌≢◌, inl, inr, ℕ, suc, ◌+◌, Bool, true, false, if◌then◌else◌, List, [], ◌∷◌, ◌++◌, nat_eq, arith, Option, Some, None, refl, sym, ap, ◌∙◌, subst, append-nil, append_assoc}
use Rattle.std.proofs.lemmas.Bool.Decides.{nat_tests}
use Rattle.std.specs.List.{All, Any}
use Rattle.std.specs.Prelude.{IfSome, ⊤, Result, Ok, Err}
use Rattle.txn_kv.specs.ErrorView.{view_of}
use Rattle.txn_kv.specs.ErrorView.ErrorView.{undetermined as not_known}
use Rattle.txn_kv.specs.Timestamp.{version_of}
use Rattle.txn_kv.specs.declared.errors.Error.{Error}
use Rattle.txn_kv.specs.declared.errors.Error.TheVariants.{GrpcAPI, InternalError}
use Rattle.txn_kv.specs.declared.errors.Internal.{Internal}
use Rattle.txn_kv.specs.declared.errors.Internal.TheVariants.{OracleCount, OracleEmpty, OracleLost}
use Rattle.txn_kv.specs.declared.outbox.Errand.TheVariants.{Ask, Send, Sleep}
use Rattle.txn_kv.specs.declared.reply.Reply.TheVariants as replies
use Rattle.txn_kv.specs.declared.reply.cluster.TsoResponse.{TsoResponse}
use Rattle.txn_kv.specs.declared.request.Request.{Request}
use Rattle.txn_kv.specs.declared.request.Request.TheVariants.{Commit, Tso}
use Rattle.txn_kv.specs.declared.request.cluster.TsoRequest.{TsoRequest}
use Rattle.txn_kv.specs.declared.ticket.Target.{Target}
use Rattle.txn_kv.specs.declared.ticket.Ticket.{Ticket}
use Rattle.txn_kv.specs.declared.timestamp.Timestamp.{Timestamp}
use Rattle.txn_history.specs.Among.{IsAmong}
use Rattle.txn_history.specs.Event.{Event, Has}
use Rattle.txn_history.specs.Event.Event.{Answered, Asked, Began, Lost, Sent, Slept, Took}
use Rattle.txn_history.specs.Phase.{Phase, unheard}
use Rattle.txn_history.specs.Phase.Awaited.{ReplyTo}
use Rattle.txn_history.specs.Phase.Phase.{Fresh, GivenUp, Over, Running}
use Rattle.txn_history.specs.Posted.{Errand, Posted, after, posting, ticket_of}
use Rattle.txn_history.specs.Turn.{IfEnds, Turn}
use Rattle.txn_history.specs.Turn.Turn.{Stopped, Waits, Ends}
use Rattle.txn_history.specs.Arrivals.{awaited_as, told_by}
use Rattle.txn_kv.specs.declared.arrival.Arrival.{Arrival}
use Rattle.txn_kv.specs.declared.arrival.Arrival.TheVariants as arrivals
use Rattle.txn_buffer.specs.Contents.{Contents}
use Rattle.txn_commit.specs.Ways.{Ways}
use Rattle.txn_commit.proofs.Following.{IsNoSending, knows_more}
use Rattle.txn_commit.specs.Following.{Commits, KnowsCommits, none_sent}
use Rattle.txn_commit.specs.Parts.{parts_of}
use Rattle.txn_commit.specs.Sending.{plan_of}
use Rattle.txn_commit.specs.declared.commit_parts.CommitParts.{CommitParts}
use Rattle.txn_core.specs.Going.{IsAtWork, IsNothing, TransactionFits, TransactionGives}
use Rattle.txn_core.specs.Transaction.{Standing}
use Rattle.txn_core.specs.declared.options.TransactionOptions.{TransactionOptions}
use Rattle.txn_core.specs.declared.transaction.Work.{Work}
use Rattle.txn_core.specs.declared.transaction.Work.TheVariants.{Idle, Open, GaveUp}
use Rattle.txn_core.specs.declared.txn_answer.TxnAnswer.{TxnAnswer}
use Rattle.txn_side.specs.Account.{Account, refusal}
use Rattle.txn_side.specs.Sight.{Stand, stand_at}
use Rattle.txn_side.specs.Sight.Stand.{Calling, HasBegun}
use Rattle.txn_lines.specs.declared.act.Act.{Act}
use Rattle.txn_side.specs.Trace.{fails_longer, kind_at, AreOwn, CallKind, EndsFor, HasRefused, HasRefusedBeside, IsLonger, IsOwn, IsRefusedNow, IsSend, IsShown, Trace, IsBegunAs, and_refused, now_longer, refused_asks, times_in, untimed, untimed_by, untimed_of, with_posted}
use Rattle.txn_side.specs.Trace.CallKind.{ForTimestamp, OfTransaction}
use Rattle.txn_side.specs.declared.turn.Posting.{Posting}
use Rattle.std.proofs.lemmas.List.Elements.{All-append, All-cons, All-head, All-nil, All-tail}
use Rattle.txn_report.specs.declared.outcome.Outcome.{Outcome}
use Rattle.txn_report.specs.declared.outcome.Outcome.TheVariants as outcomes
use Rattle.txn_side.specs.declared.turn.Ending.{Ending}
use Rattle.txn_clients.specs.Failing.{EndsMore, HasReason, CalledIn, CameIn, CountedIn, FailsAt, FailsFor, HasFailedFor, IfFails, KnownTransaction, LongerIn, RefusedIn, SentIn, ShownIn, posting_in, HasMet, IsToldLast, KnowsAsk, LastIn, MarkedIn, MayKnow, RollsIn, AskRests, RetriesIn, owing, owing_one, untimed_told}
use Rattle.txn_clients.specs.Resting.{counted_longer}
use Rattle.txn_clients.specs.Waiting.{Keeps}
use Rattle.txn_clients.specs.Want.{wants_memory}
use Rattle.txn_clients.specs.declared.row.Row.{Row}
use Rattle.txn_clients.specs.declared.told.Told.{Told}
use Rattle.txn_clients.specs.declared.told.Told.TheVariants as tells
use Rattle.txn_clients.proofs.Groups.{any_ahead}
use Rattle.txn_clients.specs.Rows.{Pd}
use Rattle.txn_client.specs.declared.client_answer.ClientAnswer.{ClientAnswer}
use Rattle.txn_client.specs.declared.client_answer.ClientAnswer.TheVariants.{Begun, Time}

-- What was posted

pub keeps_none : (ps : List Posting) → Keeps ps ps
keeps_none ps = ([], sym (append-nil ps))

pub keeps_then : (ps qs rs : List Posting) → Keeps ps qs → Keeps qs rs → Keeps ps rs
keeps_then ps qs rs f g = (f.0 ++ g.0, g.1 ∙ ap (λ xs. xs ++ g.0) f.1 ∙ append_assoc ps f.0 g.0)

pub keeps_any : (P : Posting → Type 0) (ps qs : List Posting) → Keeps ps qs → Any P ps → Any P qs
keeps_any P ps qs k a = subst (Any P) (sym k.1) (any_ahead P ps k.0 a)

pub posting_longer : (trace : Option Trace) (ps qs : List Posting) → Keeps ps qs → LongerIn (posting_in ps trace) (posting_in qs trace)
posting_longer None ps qs k = tt
posting_longer (Some t) ps qs k = (
  record {
    events = λ e i. i;
    calls = λ c i. i;
    begun = λ b i. i;
    rollbacks = λ n i. i;
    groups = λ g i. i;
    sent = λ u r h. elim h [ inl i ↦ inl i | inr a ↦ inr (keeps_any (IsSend u r) ps qs k a) ];
    refused = λ line n h. h;
    beside = λ line n h. h;
  },
  refl,
  refl,
  refl,
)

-- the same was posted in both
pub posting_both : (trace longer : Option Trace) (ps : List Posting) → LongerIn trace longer → LongerIn (posting_in ps trace) (posting_in ps longer)
posting_both None None ps l = tt
posting_both None (Some u) ps l = absurd l
posting_both (Some t) None ps l = absurd l
posting_both (Some t) (Some u) ps l = let more = l.0 in (
  record {
    events = more.events;
    calls = more.calls;
    begun = more.begun;
    rollbacks = more.rollbacks;
    groups = more.groups;
    sent = λ v r h. elim h [ inl i ↦ inl (more.events (Sent v r) i) | inr a ↦ inr a ];
    refused = more.refused;
    beside = more.beside;
  },
  l.1,
  l.2,
  l.3,
)

pub longer_same : (trace : Option Trace) → LongerIn trace trace
longer_same None = tt
longer_same (Some t) = (record { events = λ e i. i; calls = λ c i. i; begun = λ b i. i; rollbacks = λ n i. i; groups = λ g i. i; sent = λ u r h. h; refused = λ line n h. h; beside = λ line n h. h }, refl, refl, refl)

longest : (t mid longer : Trace) → IsLonger t mid → IsLonger mid longer → IsLonger t longer
longest t mid longer l m = record {
  events = λ e i. m.events e (l.events e i);
  calls = λ c i. m.calls c (l.calls c i);
  begun = λ b i. m.begun b (l.begun b i);
  rollbacks = λ n i. m.rollbacks n (l.rollbacks n i);
  groups = λ g i. m.groups g (l.groups g i);
  sent = λ u r h. m.sent u r (l.sent u r h);
  refused = λ line n h. m.refused line n (l.refused line n h);
  beside = λ line n h. m.beside line n (l.beside line n h);
}

pub longer_then : (trace mid longer : Option Trace) → LongerIn trace mid → LongerIn mid longer → LongerIn trace longer
longer_then None None None l m = tt
longer_then (Some t) (Some u) (Some v) l m = (longest t u v l.0 m.0, m.1 ∙ l.1, l.2 ∙ m.2, l.3 ∙ m.3)
longer_then None (Some u) longer l m = absurd l
longer_then (Some t) None longer l m = absurd l
longer_then None None (Some v) l m = absurd m
longer_then (Some t) (Some u) None l m = absurd m

-- What is still to be told of refused asks

fewer_owed : (t : Trace) (x : Result Timestamp Error) (line n k : ℕ) → HasRefused t n (k + times_in (and_refused x line t.owed) n) → HasRefusedBeside t n k
fewer_owed t (Ok time) line n k h = h
fewer_owed t (Err e) line n k h = by (nat_eq line n) h
  where
    by : (b : Bool) → HasRefused t n (k + (if b then suc (times_in t.owed n) else times_in t.owed n)) → HasRefusedBeside t n k
    by true h = (h.0, (let enough = h.1 in omega (arith, enough)), h.2)
    by false h = h

pub owing_one_longer : (x : Result Timestamp Error) (line : ℕ) (trace : Option Trace) → LongerIn (owing_one x line trace) trace
owing_one_longer x line None = tt
owing_one_longer x line (Some t) =
    (record { events = λ e i. i; calls = λ c i. i; begun = λ b i. i; rollbacks = λ n i. i; groups = λ g i. i; sent = λ u r h. h; refused = λ n k h. h; beside = λ n k h. fewer_owed t x line n k h }, refl, refl, refl)

-- once it was told
pub owing_longer : (line : ℕ) (told : Told) (trace : Option Trace) → LongerIn (owing line told trace) trace
owing_longer line tells.Start trace = longer_same trace
owing_longer line (tells.Act act) trace = longer_same trace
owing_longer line (tells.Heard (arrivals.Reply n x)) trace = longer_same trace
owing_longer line (tells.Heard (arrivals.Lost n)) trace = longer_same trace
owing_longer line (tells.Heard (arrivals.Slept n)) trace = longer_same trace
owing_longer line (tells.Heard (arrivals.Time k x)) trace = owing_one_longer x line trace

owing_one_posting : (x : Result Timestamp Error) (line : ℕ) (ps : List Posting) (trace : Option Trace) → posting_in ps (owing_one x line trace) ≡ owing_one x line (posting_in ps trace)
owing_one_posting x line ps None = refl
owing_one_posting x line ps (Some t) = refl

pub owing_posting : (line : ℕ) (told : Told) (ps : List Posting) (trace : Option Trace) → posting_in ps (owing line told trace) ≡ owing line told (posting_in ps trace)
owing_posting line tells.Start ps trace = refl
owing_posting line (tells.Act act) ps trace = refl
owing_posting line (tells.Heard (arrivals.Reply n x)) ps trace = refl
owing_posting line (tells.Heard (arrivals.Lost n)) ps trace = refl
owing_posting line (tells.Heard (arrivals.Slept n)) ps trace = refl
owing_posting line (tells.Heard (arrivals.Time k x)) ps trace = owing_one_posting x line ps trace

owed_both : (t longer : Trace) → IsLonger t longer → (x : Result Timestamp Error) (line n k : ℕ) → HasRefused t n (k + times_in (and_refused x line t.owed) n) → HasRefused longer n (k + times_in (and_refused x line longer.owed) n)
owed_both t longer l (Ok time) line n k h = l.beside n k h
owed_both t longer l (Err e) line n k h = by (nat_eq line n) h
  where
    by : (b : Bool) → HasRefused t n (k + (if b then suc (times_in t.owed n) else times_in t.owed n)) → HasRefused longer n (k + (if b then suc (times_in longer.owed n) else times_in longer.owed n))
    by true h =
        let more = l.beside n (suc k) (h.0, (let enough = h.1 in omega (arith, enough)), h.2) in
        (more.0, (let enough = more.1 in omega (arith, enough)), more.2)
    by false h = l.beside n k h

owing_one_both : (x : Result Timestamp Error) (line : ℕ) (trace longer : Option Trace) → LongerIn trace longer → LongerIn (owing_one x line trace) (owing_one x line longer)
owing_one_both x line None None l = tt
owing_one_both x line None (Some u) l = absurd l
owing_one_both x line (Some t) None l = absurd l
owing_one_both x line (Some t) (Some u) l = let more = l.0 in (
  record { events = more.events; calls = more.calls; begun = more.begun; rollbacks = more.rollbacks; groups = more.groups; sent = more.sent; refused = more.refused; beside = λ n k h. owed_both t u more x line n k h },
  l.1,
  l.2,
  l.3,
)

owing_both : (line : ℕ) (told : Told) (trace longer : Option Trace) → LongerIn trace longer → LongerIn (owing line told trace) (owing line told longer)
owing_both line tells.Start trace longer l = l
owing_both line (tells.Act act) trace longer l = l
owing_both line (tells.Heard (arrivals.Reply n x)) trace longer l = l
owing_both line (tells.Heard (arrivals.Lost n)) trace longer l = l
owing_both line (tells.Heard (arrivals.Slept n)) trace longer l = l
owing_both line (tells.Heard (arrivals.Time k x)) trace longer l = owing_one_both x line trace longer l

-- what a row posts was sent after that, too
pub owing_met : (told : Told) (trace longer : Option Trace) (from to : Posted) → HasMet trace longer from to → HasMet (owing from.line told trace) longer from to
owing_met told trace longer from to met = record { calls = met.calls; longer = longer_then (owing from.line told trace) trace longer (owing_longer from.line told trace) met.longer; sent = met.sent }

-- what a trace has but for that
owing_one_called : (x : Result Timestamp Error) (n line at : ℕ) (trace : Option Trace) → CalledIn trace line at → CalledIn (owing_one x n trace) line at
owing_one_called x n line at None c = tt
owing_one_called x n line at (Some t) c = c

pub owing_called : (n : ℕ) (told : Told) (line at : ℕ) (trace : Option Trace) → CalledIn trace line at → CalledIn (owing n told trace) line at
owing_called n tells.Start line at trace c = c
owing_called n (tells.Act act) line at trace c = c
owing_called n (tells.Heard (arrivals.Reply m x)) line at trace c = c
owing_called n (tells.Heard (arrivals.Lost m)) line at trace c = c
owing_called n (tells.Heard (arrivals.Slept m)) line at trace c = c
owing_called n (tells.Heard (arrivals.Time k x)) line at trace c = owing_one_called x n line at trace c

owing_one_came : (x : Result Timestamp Error) (n : ℕ) (o : Posted) (k : ℕ) (trace : Option Trace) → CameIn trace o (arrivals.Time k x) → CameIn (owing_one x n trace) o (arrivals.Time k x)
owing_one_came x n o k None c = tt
owing_one_came (Ok time) n o k (Some t) c = tt
owing_one_came (Err e) n o k (Some t) c = let r = c.refused in record { refused = record { group = r.group; among = r.among; asker = r.asker; request = r.request; failed = r.failed }; now = c.now }

pub owing_came : (n : ℕ) (o : Posted) (a : Arrival) (trace : Option Trace) → CameIn trace o a → CameIn (owing n (tells.Heard a) trace) o a
owing_came n o (arrivals.Reply m x) trace c = c
owing_came n o (arrivals.Lost m) trace c = c
owing_came n o (arrivals.Slept m) trace c = c
owing_came n o (arrivals.Time k x) trace c = owing_one_came x n o k trace c

pub posted_sent : (trace : Option Trace) (ps : List Posting) (u : Ticket) (r : Request) → Any (IsSend u r) ps → SentIn (posting_in ps trace) u r
posted_sent None ps u r a = tt
posted_sent (Some t) ps u r a = inr a

pub among_behind : {X : Type 0} (xs ys : List X) (x : X) → IsAmong ys x → IsAmong (xs ++ ys) x
among_behind [] ys x h = h
among_behind (z ∷ xs) ys x h = inr (among_behind xs ys x h)

-- One event more

abbrev EventIn : Option Trace → ℕ → Event → Type 0
EventIn None at e = ⊤
EventIn (Some t) at e = IsShown t at e

shown_one : (trace : Option Trace) (at : ℕ) (e : Event) (h : List Event) → EventIn trace at e → ShownIn trace at h → ShownIn trace at (e ∷ h)
shown_one None at e h v s = tt
shown_one (Some t) at e h v s = λ x i. elim i [ inl same ↦ subst (IsShown t at) same v | inr j ↦ s x j ]

event_sent : (trace : Option Trace) (at : ℕ) (u : Ticket) (r : Request) → CalledIn trace u.line at → SentIn trace u r → EventIn trace at (Sent u r)
event_sent None at u r c s = tt
event_sent (Some t) at u r c s = (c, s)

event_began : (trace : Option Trace) (at : ℕ) (u : Ticket) (ms : ℕ) → EventIn trace at (Began u ms)
event_began None at u ms = tt
event_began (Some t) at u ms = tt

event_asked : (trace : Option Trace) (at : ℕ) (u : Ticket) → EventIn trace at (Asked u)
event_asked None at u = tt
event_asked (Some t) at u = tt

pub shown_nothing : (trace : Option Trace) (at : ℕ) → ShownIn trace at []
shown_nothing None at = tt
shown_nothing (Some t) at = λ e i. absurd i

-- what was sent is sent in the trace
pub sent_shown : (trace : Option Trace) (at : ℕ) (h : List Event) (u : Ticket) (r : Request) → ShownIn trace at h → Has h (Sent u r) → SentIn trace u r
sent_shown None at h u r s i = tt
sent_shown (Some t) at h u r s i = let x = s (Sent u r) i in x.1

-- as errands are posted
pub shown_after : (trace : Option Trace) (at line : ℕ) (beat : Bool) (h : List Event) (sends : List Errand) → CalledIn trace line at
    → ((n : ℕ) (store : Target) (r : Request) → IsAmong sends (Send n store r) → SentIn trace (record { line = line; beat = beat; number = n }) r) → ShownIn trace at h → ShownIn trace at (after line beat h sends)
shown_after trace at line beat h [] called sent s = s
shown_after trace at line beat h (Send n to r ∷ rs) called sent s =
    shown_after trace at line beat (posting line beat (Send n to r) ∷ h) rs called (λ m store q i. sent m store q (inr i))
    (shown_one trace at (posting line beat (Send n to r)) h (event_sent trace at (record { line = line; beat = beat; number = n }) r called (sent n to r (inl refl))) s)
shown_after trace at line beat h (Sleep n ms ∷ rs) called sent s =
    shown_after trace at line beat (posting line beat (Sleep n ms) ∷ h) rs called (λ m store q i. sent m store q (inr i)) (shown_one trace at (posting line beat (Sleep n ms)) h (event_began trace at (record { line = line; beat = beat; number = n }) ms) s)
shown_after trace at line beat h (Ask n ∷ rs) called sent s =
    shown_after trace at line beat (posting line beat (Ask n) ∷ h) rs called (λ m store q i. sent m store q (inr i)) (shown_one trace at (posting line beat (Ask n)) h (event_asked trace at (record { line = line; beat = beat; number = n })) s)

-- as something is heard

event_heard : (trace : Option Trace) (at : ℕ) (o : Posted) (k : ℕ) (x : Result Timestamp Error) → CalledIn trace o.line at → CameIn trace o (arrivals.Time k x) → EventIn trace at (Answered (ticket_of o k) x)
event_heard None at o k x c came = tt
event_heard (Some t) at o k (Ok x) c came = tt
event_heard (Some t) at o k (Err e) c came = (c, came.refused)

pub shown_heard : (trace : Option Trace) (at : ℕ) (a : Arrival) (o : Posted) (r : Request) (h : List Event) → CalledIn trace o.line at → CameIn trace o a
    → ((n : ℕ) → awaited_as a ≡ ReplyTo n → SentIn trace (ticket_of o n) r) → ShownIn trace at h → ShownIn trace at ((told_by a o r).hear h)
shown_heard None at a o r h c came sent s = tt
shown_heard (Some t) at (arrivals.Reply n x) o r h c came sent s = shown_one (Some t) at (Took (ticket_of o n) r x) h (inl (c, came r (sent n refl))) s
shown_heard (Some t) at (arrivals.Lost n) o r h c came sent s = shown_one (Some t) at (Lost (ticket_of o n) r) h (c, came r (sent n refl)) s
shown_heard (Some t) at (arrivals.Slept n) o r h c came sent s = shown_one (Some t) at (Slept (ticket_of o n)) h tt s
shown_heard (Some t) at (arrivals.Time k x) o r h c came sent s = shown_one (Some t) at (Answered (ticket_of o k) x) h (event_heard (Some t) at o k x c came) s

-- nothing has to be known for it
pub known_so : (a : Arrival) (o : Posted) (r : Request) (h : List Event) → ((m : ℕ) → awaited_as a ≡ ReplyTo m → ⊥) → (told_by a o r).known h
known_so (arrivals.Reply n x) o r h other = absurd (other n refl)
known_so (arrivals.Lost n) o r h other = absurd (other n refl)
known_so (arrivals.Slept n) o r h other = tt
known_so (arrivals.Time n x) o r h other = tt

-- of timestamps that were given nothing is asked
pub shown_times : (trace : Option Trace) (at : ℕ) (u : Ticket) (r : TsoRequest) (times : TsoResponse) → ShownIn trace at (Took u (Tso r) (replies.Tso times) ∷ [])
shown_times None at u r times = tt
shown_times (Some t) at u r times = shown_one (Some t) at (Took u (Tso r) (replies.Tso times)) [] (inr tt) (λ e i. absurd i)

-- For whom it came

own_one : (line : ℕ) (e : Event) (h : List Event) → IsOwn line e → AreOwn line h → AreOwn line (e ∷ h)
own_one line e h v s = λ x i. elim i [ inl same ↦ subst (IsOwn line) same v | inr j ↦ s x j ]

-- as errands are posted
pub own_after : (line by : ℕ) (beat : Bool) (h : List Event) (sends : List Errand) → AreOwn line h → AreOwn line (after by beat h sends)
own_after line by beat h [] own = own
own_after line by beat h (Send n to r ∷ rs) own = own_after line by beat (posting by beat (Send n to r) ∷ h) rs (own_one line (posting by beat (Send n to r)) h tt own)
own_after line by beat h (Sleep n ms ∷ rs) own = own_after line by beat (posting by beat (Sleep n ms) ∷ h) rs (own_one line (posting by beat (Sleep n ms)) h tt own)
own_after line by beat h (Ask n ∷ rs) own = own_after line by beat (posting by beat (Ask n) ∷ h) rs (own_one line (posting by beat (Ask n)) h tt own)

answered_own : (o : Posted) (k : ℕ) (x : Result Timestamp Error) → IsOwn o.line (Answered (ticket_of o k) x)
answered_own o k (Ok x) = tt
answered_own o k (Err e) = refl

-- as the line hears something
pub own_heard : (a : Arrival) (o : Posted) (r : Request) (h : List Event) → o.beat ≡ false → AreOwn o.line h → AreOwn o.line ((told_by a o r).hear h)
own_heard (arrivals.Reply n x) o r h calls own = own_one o.line (Took (ticket_of o n) r x) h (inl (refl, calls)) own
own_heard (arrivals.Lost n) o r h calls own = own_one o.line (Lost (ticket_of o n) r) h (refl, calls) own
own_heard (arrivals.Slept n) o r h calls own = own_one o.line (Slept (ticket_of o n)) h tt own
own_heard (arrivals.Time k x) o r h calls own = own_one o.line (Answered (ticket_of o k) x) h (answered_own o k x) own

pub own_times : (line : ℕ) (u : Ticket) (r : TsoRequest) (times : TsoResponse) → AreOwn line (Took u (Tso r) (replies.Tso times) ∷ [])
own_times line u r times = own_one line (Took u (Tso r) (replies.Tso times)) [] (inr tt) (λ e i. absurd i)

-- Of how many refused asks it has heard

pub refused_after : (line : ℕ) (beat : Bool) (h : List Event) (sends : List Errand) → refused_asks (after line beat h sends) ≡ refused_asks h
refused_after line beat h [] = refl
refused_after line beat h (Send n to r ∷ rs) = refused_after line beat (posting line beat (Send n to r) ∷ h) rs
refused_after line beat h (Sleep n ms ∷ rs) = refused_after line beat (posting line beat (Sleep n ms) ∷ h) rs
refused_after line beat h (Ask n ∷ rs) = refused_after line beat (posting line beat (Ask n) ∷ h) rs

pub counted_after : (trace : Option Trace) (line by : ℕ) (beat : Bool) (h : List Event) (sends : List Errand) → CountedIn trace line (refused_asks h) → CountedIn trace line (refused_asks (after by beat h sends))
counted_after trace line by beat h sends c = subst (CountedIn trace line) (sym (refused_after by beat h sends)) c

told_once : (t : Trace) (line n : ℕ) → HasRefused t line (n + times_in (line ∷ t.owed) line) → HasRefusedBeside t line (suc n)
told_once t line n c = by (nat_eq line line) (grind (arith, nat_tests)) c
  where
    by : (b : Bool) → b ≡ true → HasRefused t line (n + (if b then suc (times_in t.owed line) else times_in t.owed line)) → HasRefusedBeside t line (suc n)
    by true e c = (c.0, (let enough = c.1 in omega (arith, enough)), c.2)
    by false e c = absurd (cc)

counted_time : (x : Result Timestamp Error) (ask : Ticket) (line : ℕ) (trace : Option Trace) (h : List Event) → CountedIn (owing_one x line trace) line (refused_asks h) → CountedIn trace line (refused_asks (Answered ask x ∷ h))
counted_time x ask line None h c = tt
counted_time (Ok time) ask line (Some t) h c = c
counted_time (Err e) ask line (Some t) h c = told_once t line (refused_asks h) c

-- as the line hears of one more
counted_heard : (a : Arrival) (o : Posted) (r : Request) (trace : Option Trace) (h : List Event) → CountedIn (owing o.line (tells.Heard a) trace) o.line (refused_asks h) → CountedIn trace o.line (refused_asks ((told_by a o r).hear h))
counted_heard (arrivals.Reply n x) o r trace h c = c
counted_heard (arrivals.Lost n) o r trace h c = c
counted_heard (arrivals.Slept n) o r trace h c = c
counted_heard (arrivals.Time k x) o r trace h c = counted_time x (ticket_of o k) o.line trace h c

-- and the trace goes on
pub counts_heard : (a : Arrival) (o : Posted) (trace longer : Option Trace) → LongerIn trace longer → (r : Request) (h : List Event) → CountedIn (owing o.line (tells.Heard a) trace) o.line (refused_asks h) → CountedIn longer o.line (refused_asks ((told_by a o r).hear h))
counts_heard a o trace longer l r h c = counted_heard a o r longer h (counted_longer (owing o.line (tells.Heard a) trace) (owing o.line (tells.Heard a) longer) o.line (refused_asks h) (owing_both o.line (tells.Heard a) trace longer l) c)

-- all of them were refused
pub counted_refused : (t : Trace) (line n : ℕ) → HasRefusedBeside t line n → HasRefused t line n
counted_refused t line n c = (c.0, (let enough = c.1 in omega (arith, enough)), c.2)

-- Errors

-- a call that is not meant answers nothing
pub unheard_ends : {A : Type 0} (turn : Turn A) (phase : Phase) (P : A → Type 0) → turn ≡ unheard phase → IfEnds turn P
unheard_ends turn Fresh P e = subst (λ t. IfEnds t P) (sym e) tt
unheard_ends turn Running P e = subst (λ t. IfEnds t P) (sym e) tt
unheard_ends turn Over P e = subst (λ t. IfEnds t P) (sym e) tt
unheard_ends turn GivenUp P e = subst (λ t. IfEnds t P) (sym e) tt

pub refused_longer_in : (trace longer : Option Trace) (line : ℕ) (why : Option Error) → LongerIn trace longer → RefusedIn trace line why → RefusedIn longer line why
refused_longer_in None None line why l r = tt
refused_longer_in None (Some u) line why l r = absurd l
refused_longer_in (Some t) None line why l r = absurd l
refused_longer_in (Some t) (Some u) line why l r = λ e f. subst (λ xs. IsAmong xs (record { line = line; error = e })) (sym l.1) (r e f)

pub rolls_longer : (trace longer : Option Trace) (line : ℕ) → LongerIn trace longer → RollsIn trace line → RollsIn longer line
rolls_longer None None line l r = tt
rolls_longer None (Some u) line l r = absurd l
rolls_longer (Some t) None line l r = absurd l
rolls_longer (Some t) (Some u) line l r = let more = l.0 in more.rollbacks line r

lost_sends_none : (u : Ticket) (r : Request) → IsNoSending (Lost u r)
lost_sends_none u r v q e = cc

-- what is known of what is asked says with what it is refused
pub notes_so : (line : ℕ) (act : Act) (account : Account) (noted : Option Error) → refusal act account ≡ noted → (trace : Option Trace) → KnowsAsk trace line act account → RefusedIn trace line noted
notes_so line act account noted e trace k = subst (RefusedIn trace line) e k.0

never_nothing : {P : Type 0} (e : Error) → IsNothing {P = P} (Err e) → ⊥
never_nothing e n = elim n [ inl q ↦ (cc) | inr q ↦ (cc) ]

module _ {P : Type 0} (w : Ways P) where
  -- what is known of a transaction that has not given up
  module _ (t : Standing P) (o : Posted) (h : List Event) (alive : t.work ≡ GaveUp → ⊥) (f : TransactionFits w t o h) where
    pub fits_known : (parts : CommitParts) → parts_of t.contents ≡ Some parts → KnowsCommits (plan_of parts) (version_of t.start) t.commits h
    fits_known parts e = by t.work refl f.at
      where
        by : (g : Work P) → t.work ≡ g → IsAtWork w t.options.retry_options t.start t.status t.contents t.commits g o h → KnowsCommits (plan_of parts) (version_of t.start) t.commits h
        by Idle k at = let a = at.of_parts parts e in a.knows
        by (Open call) k at =
            let same : call.parts ≡ parts = one (sym at.whole ∙ e) in
            subst (λ p. KnowsCommits (plan_of p) (version_of t.start) t.commits h) same (subst (λ (s : Timestamp). KnowsCommits (plan_of call.parts) (version_of s) t.commits h) at.own at.fits.knows)
          where
            one : Some call.parts ≡ Some parts → call.parts ≡ parts
            one q = cc
        by GaveUp k at = absurd (alive k)

    pub known_with : (parts : CommitParts) → parts_of t.contents ≡ Some parts → KnownTransaction h
    known_with parts whole = record { start = t.start; retry_options = t.options.retry_options; contents = t.contents; parts = parts; whole = whole; commits = t.commits; known = fits_known parts whole }

    -- where its buffer holds nothing to commit, no Commit of it was lost or is out
    empty_sent : (g : Work P) → t.work ≡ g → IsAtWork w t.options.retry_options t.start t.status t.contents t.commits g o h → parts_of t.contents ≡ None → t.commits ≡ none_sent
    empty_sent Idle k at e = at.empty e
    empty_sent (Open call) k at e = absurd (no_parts call.parts (sym e ∙ at.whole))
      where
        no_parts : (parts : CommitParts) → ◌≡◌ {A = Option CommitParts} None (Some parts) → ⊥
        no_parts parts q = cc
    empty_sent GaveUp k at e = absurd (alive k)

    -- it is not rolled back where it marks one as lost, which was
    pub barred_by : (u : Ticket) → t.commits.lost ≡ Some u → (trace : Option Trace) (at line : ℕ) (e : Error) → view_of e ≡ not_known (view_of (GrpcAPI u)) → ShownIn trace at h → AreOwn line h → CountedIn trace line (refused_asks h) → RollsIn trace line → MarkedIn trace at t → FailsAt w OfTransaction trace at line e
    barred_by u lost None at line e says s own counted rolls marked = tt
    barred_by u lost (Some x) at line e says s own counted rolls marked = by (parts_of t.contents) refl
      where
        no_ticket : ◌≡◌ {A = Option Ticket} None (Some u) → ⊥
        no_ticket q = cc

        by : (found : Option CommitParts) → parts_of t.contents ≡ found → FailsAt w OfTransaction (Some x) at line e
        by None q = absurd (no_ticket (sym (ap (λ (c : Commits). c.lost) (empty_sent t.work refl f.at q)) ∙ lost))
        by (Some parts) q =
            let k = marked parts q u lost in
            let event = Lost u (Commit k.0) in
            inl (
              h,
              s,
              own,
              counted_refused x line (refused_asks h) counted,
              inr (
                rolls,
                event ∷ h,
                shown_one (Some x) at event h k.1 s,
                record {
                  transaction = record { start = t.start; retry_options = t.options.retry_options; contents = t.contents; parts = parts; whole = q; commits = t.commits; known = knows_more (plan_of parts) (version_of t.start) t.commits event h (lost_sends_none u (Commit k.0)) (fits_known parts q) };
                  ticket = u;
                  left = lost;
                  lost = (k.0, inl refl, k.2);
                  error = says;
                },
              ),
            )

  -- an error that a call answers rests on what it has heard
  pub fails_by : (kind : CallKind) (trace : Option Trace) (at line : ℕ) (e : Error) (h : List Event) → ShownIn trace at h → AreOwn line h → CountedIn trace line (refused_asks h) → ((t : Trace) → trace ≡ Some t → HasFailedFor w kind (IsBegunAs t at) h e) → FailsAt w kind trace at line e
  fails_by kind None at line e h s own counted f = tt
  fails_by kind (Some t) at line e h s own counted f = inl (h, s, own, counted_refused t line (refused_asks h) counted, inl (f t refl))

  pub refused_by : (trace : Option Trace) (at line : ℕ) (e why : Error) → RefusedIn trace line (Some why) → e ≡ why → FailsAt w OfTransaction trace at line e
  refused_by None at line e why r same = tt
  refused_by (Some t) at line e why r same = inr (r e (ap Some (sym same)))

  fails_gives : (trace : Option Trace) (at line : ℕ) (t : Standing P) (o : Posted) (h : List Event) (v : Result (TxnAnswer P) Error) → RetriesIn trace at t.options.retry_options → ShownIn trace at h → AreOwn line h → CountedIn trace line (refused_asks h) → (t.work ≡ GaveUp → ⊥) → TransactionFits w t o h → TransactionGives w t.options.retry_options t.start t.contents t.commits h v → IfFails (FailsAt w OfTransaction trace at line) v
  unfolding known_with
  fails_gives trace at line t o h (Ok v) retries s own counted alive f gives = tt
  fails_gives trace at line t o h (Err e) retries s own counted alive f (inl (parts, whole, fails)) = fails_by OfTransaction trace at line e h s own counted (λ shows is. record { transaction = known_with t o h alive f parts whole; retries = subst (λ (x : Option Trace). RetriesIn x at t.options.retry_options) is retries; fails = fails })
  fails_gives trace at line t o h (Err e) retries s own counted alive f (inr g) = absurd (never_nothing {P = P} e g.1)

  pub fails_done : (trace : Option Trace) (at line : ℕ) (old new : Standing P) (o : Posted) (h : List Event) (turn : Turn (Result (TxnAnswer P) Error)) → RetriesIn trace at new.options.retry_options → ShownIn trace at h → AreOwn line h → CountedIn trace line (refused_asks h) → ((v : Result (TxnAnswer P) Error) → turn ≡ Ends v → new.work ≡ GaveUp → ⊥) → TransactionFits w new o h → new.start ≡ old.start → new.options ≡ old.options → new.contents ≡ old.contents
      → IfEnds turn (λ v. TransactionGives w old.options.retry_options old.start old.contents new.commits h v) → IfEnds turn (IfFails (FailsAt w OfTransaction trace at line))
  fails_done trace at line old new o h Stopped retries s own counted alive f start options contents gives = tt
  fails_done trace at line old new o h Waits retries s own counted alive f start options contents gives = tt
  fails_done trace at line old new o h (Ends v) retries s own counted alive f start options contents gives =
      fails_gives trace at line new o h v retries s own counted (alive v refl) f (subst (λ (x : TransactionOptions). TransactionGives w x.retry_options new.start new.contents new.commits h v) (sym options) (subst (λ (x : Timestamp). TransactionGives w old.options.retry_options x new.contents new.commits h v) (sym start) (subst (λ (c : Contents). TransactionGives w old.options.retry_options old.start c new.commits h v) (sym contents) gives)))

-- Why there is no timestamp

untimed_same : (what is : Internal) → untimed what ≡ Some is → what ≡ is
untimed_same OracleLost is e = cc
untimed_same (OracleCount asked given) is e = cc
untimed_same OracleEmpty is e = cc
untimed_same _ is e = absurd (cc)

untimed_internal : (e : Error) (is : Internal) → untimed_by e ≡ Some is → e ≡ InternalError is
untimed_internal (InternalError what) is h = ap (λ x. InternalError x) (untimed_same what is h)
untimed_internal _ is h = absurd (cc)

-- what is told of it came now
told_last : {P : Type 0} (t : Trace) (o : Posted) (told : Told) (r : Row P) (is : Internal) → MayKnow (Some t) o told r → untimed_told told ≡ Some is → IsRefusedNow t o.line (InternalError is)
told_last t o tells.Start r is knows e = absurd (cc)
told_last t o (tells.Act act) r is knows e = absurd (cc)
told_last t o (tells.Heard (arrivals.Reply n x)) r is knows e = absurd (cc)
told_last t o (tells.Heard (arrivals.Lost n)) r is knows e = absurd (cc)
told_last t o (tells.Heard (arrivals.Slept n)) r is knows e = absurd (cc)
told_last t o (tells.Heard (arrivals.Time k (Ok x))) r is knows e = absurd (cc)
told_last t o (tells.Heard (arrivals.Time k (Err why))) r is knows e = subst (IsRefusedNow t o.line) (untimed_internal why is e) knows

-- so an error that says it says what came last, and still does as more is posted
pub says_last : {P X : Type 0} (trace : Option Trace) (ps qs : List Posting) (o : Posted) (told : Told) (r : Row P) (v : Result X Error) → MayKnow (posting_in ps trace) o told r → Keeps ps qs → IfFails (IsToldLast (untimed_told told)) v → IfFails (LastIn (posting_in qs trace) o.line) v
says_last trace ps qs o told r (Ok x) knows keeps is = tt
says_last None ps qs o told r (Err e) knows keeps is = tt
says_last (Some t) ps qs o told r (Err e) knows keeps is = by (untimed_of e) is
  where
    by : (what : Option Internal) → IfSome what (λ w. untimed_told told ≡ Some w) → IfSome what (λ w. IsRefusedNow (with_posted qs t) o.line (InternalError w))
    by None same = tt
    by (Some w) same = let l = posting_longer (Some t) ps qs keeps in now_longer (with_posted ps t) (with_posted qs t) l.0 refl o.line (InternalError w) (told_last (with_posted ps t) o told r w knows same)

-- Of which kind a call is

-- one for a timestamp stands at its own line
pub own_kind : (line : ℕ) → kind_at line line ≡ ForTimestamp
own_kind line = let e : nat_eq line line ≡ true = grind (arith, nat_tests) in rw e refl

-- and a transaction at another line than its call
pub calling_kind : (stands : List Stand) (line x c d : ℕ) (b : Bool) → stand_at stands line ≡ Calling c x b → stand_at stands x ≡ HasBegun d line → kind_at x line ≡ OfTransaction
calling_kind stands line x c d b calls begun = let e : nat_eq x line ≡ false = (let is = apart in grind (arith, nat_tests, is)) in rw e refl
  where
    apart : x ≢ line
    apart same = absurd (two (sym calls ∙ ap (stand_at stands) (sym same) ∙ begun))
      where
        two : Calling c x b ≡ HasBegun d line → ⊥
        two q = cc

-- Calls that ended

pub all_map : {X : Type 0} {A B : X → Type 0} → ((x : X) → A x → B x) → (xs : List X) → All A xs → All B xs
all_map {X} {A} {B} f [] h = All-nil B
all_map {X} {A} {B} f (x ∷ xs) h = All-cons B x xs (f x (All-head A x xs h)) (all_map f xs (All-tail A x xs h))

module _ {P : Type 0} (w : Ways P) where
  reason_in : (t longer : Trace) (e : Ending) → IsLonger t longer → longer.refused ≡ t.refused → t.begun ≡ longer.begun → t.came ≡ longer.came → EndsFor (FailsFor w) t e → EndsFor (FailsFor w) longer e
  reason_in t longer ending l same begun came f e is = elim (f e is) [
    | inl h ↦ inl (fails_longer t longer l begun came (FailsFor w) ending.line e h)
    | inr i ↦ inr (subst (λ xs. IsAmong xs (record { line = ending.line; error = e })) (sym same) i)
  ]

  pub reason_longer : (trace longer : Option Trace) (e : Ending) → LongerIn trace longer → HasReason w trace e → HasReason w longer e
  reason_longer None None e l f = tt
  reason_longer None (Some u) e l f = absurd l
  reason_longer (Some t) None e l f = absurd l
  reason_longer (Some t) (Some u) e l f = reason_in t u e l.0 l.1 l.2 l.3 f

  pub ends_then : (trace : Option Trace) (qs rs : List Posting) (es fs gs : List Ending) → Keeps qs rs → EndsMore w (posting_in qs trace) es fs → EndsMore w (posting_in rs trace) fs gs → EndsMore w (posting_in rs trace) es gs
  ends_then trace qs rs es fs gs keeps f g = record {
    more = f.more ++ g.more;
    ended = g.ended ∙ ap (λ xs. xs ++ g.more) f.ended ∙ append_assoc es f.more g.more;
    each = All-append (HasReason w (posting_in rs trace)) f.more g.more (all_map (λ e h. reason_longer (posting_in qs trace) (posting_in rs trace) e (posting_longer trace qs rs keeps) h) f.more f.each) g.each;
  }

  -- a call ended with this
  pub one_more : (trace : Option Trace) (es fs : List Ending) (e : Ending) → fs ≡ es ++ e ∷ [] → HasReason w trace e → EndsMore w trace es fs
  one_more trace es fs e is h = record { more = e ∷ []; ended = is; each = All-cons (HasReason w trace) e [] h (All-nil (HasReason w trace)) }

  -- what a call for a timestamp answers that fails
  pub ask_fails : (trace : Option Trace) (at line : ℕ) (v : Result (ClientAnswer Pd P) Error) → AskRests w trace at line v → IfFails (FailsAt w ForTimestamp trace at line) v
  ask_fails trace at line (Ok (Begun b)) r = tt
  ask_fails trace at line (Ok (Time t)) r = tt
  ask_fails trace at line (Err e) r = r

  -- the error of a call is the outcome of its line
  pub reason_so : {X : Type 0} (kind : CallKind) (trace : Option Trace) (line at : ℕ) (o : Outcome) (v : Result X Error) → kind_at at line ≡ kind → CalledIn trace line at → ((e : Error) → o ≡ outcomes.Err e → v ≡ Err e) → ((e : Error) → o ≡ outcomes.Err e → wants_memory (view_of e) ≡ false)
      → IfFails (FailsAt w kind trace at line) v → IfFails (LastIn trace line) v → HasReason w trace (record { line = line; outcome = o })
  reason_so kind None line at o v of called same fed f last = tt
  reason_so kind (Some t) line at o v of called same fed f last = λ e is. elim (subst (IfFails (FailsAt w kind (Some t) at line)) (same e is) f) [
    | inl h ↦ inl (record { at = at; called = called; history = h.0; shown = h.1; own = h.2; counted = h.3; last = subst (IfFails (LastIn (Some t) line)) (same e is) last; fails_so = elim h.4 [ inl k ↦ inl (subst (λ (x : CallKind). FailsFor w x (IsBegunAs t at) h.0 e) (sym of) (record { why = k; fed = fed e is })) | inr k ↦ inr (record { rolls = k.0; known = k.1; shown = k.2; fails_so = record { why = k.3; fed = fed e is } }) ] })
    | inr i ↦ inr i
  ]
