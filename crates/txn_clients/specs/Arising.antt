-- What clients can have arisen from: one history of a whole run, in which each request that they posted is licensed. It has what a run
-- shows, and the sleeps that began, the asks for timestamps and their answers between.
use Rattle.std.specs.Prelude.{IfSome, ◌≡◌, ◌≢◌, ◌⊎◌, ⊤, ℕ, Bool, true, false, List, [], ◌∷◌, ◌++◌, ◌-◌, map, Option, Some, None, Result, Ok, Err, slice_set}
use Rattle.std.proofs.Common.{suc, zero}
use Rattle.std.specs.List.{All}
use Rattle.txn_kv.specs.Timestamp.{version_of}
use Rattle.txn_kv.specs.ErrorView.{view_of}
use Rattle.txn_kv.specs.ErrorView.ErrorView.{undetermined as not_known}
use Rattle.txn_kv.specs.declared.errors.Error.{Error}
use Rattle.txn_kv.specs.declared.errors.Error.TheVariants.{GrpcAPI}
use Rattle.txn_kv.specs.declared.outbox.Errand.TheVariants.{Ask, Send, Sleep}
use Rattle.txn_kv.specs.declared.reply.Reply.{Reply}
use Rattle.txn_kv.specs.declared.request.commits.CommitRequest.{CommitRequest}
use Rattle.txn_kv.specs.declared.request.Request.{Request}
use Rattle.txn_kv.specs.declared.request.locks.PessimisticLockRequest.{PessimisticLockRequest}
use Rattle.txn_kv.specs.declared.request.Request.TheVariants.{Commit, PessimisticLock, Tso}
use Rattle.txn_kv.specs.declared.request.cluster.TsoRequest.{TsoRequest}
use Rattle.txn_kv.specs.declared.ticket.Target.TheVariants.{Placement}
use Rattle.txn_kv.specs.declared.ticket.Ticket.{Ticket}
use Rattle.txn_kv.specs.declared.timestamp.Timestamp.{Timestamp}
use Rattle.txn_history.specs.Among.{IsAmong}
use Rattle.txn_history.specs.Event.{Event, Has}
use Rattle.txn_history.specs.Event.Event.{Lost, Sent, Took}
use Rattle.txn_history.specs.Licence.{PrimaryCommitted}
use Rattle.txn_history.specs.Meaning.{IsLawful, Meaning, started}
use Rattle.txn_history.specs.Meaning.{Told as CallTold}
use Rattle.txn_history.specs.Plan.{Plan}
use Rattle.txn_history.specs.Posted.{AreNumbered, Errand, Licensed, Posted, Within, after, ticket_of}
use Rattle.txn_law.specs.Run.{IsPossible, IsRun}
use Rattle.txn_history.specs.Arrivals.{told_by}
use Rattle.txn_merge.specs.declared.retry_options.RetryOptions.{RetryOptions}
use Rattle.txn_kv.specs.declared.arrival.Arrival.TheVariants as arrivals
use Rattle.txn_commit.specs.Ways.{Ways}
use Rattle.txn_commit.specs.Following.{CommitsPrimary, KnowsCommits, PrimaryLost, undetermined}
use Rattle.txn_commit.specs.Jobs.{JobFits}
use Rattle.txn_commit.specs.Parts.{parts_of}
use Rattle.txn_commit.specs.Sending.{MaySendBehind, plan_of}
use Rattle.txn_commit.specs.declared.commit_parts.CommitParts.{CommitParts}
use Rattle.txn_commit.specs.declared.secondary_job.SecondaryJob.{SecondaryJob}
use Rattle.txn_core.specs.Going.{MaySendFor, TransactionFits, TransactionGives}
use Rattle.txn_core.specs.Status.{allows_data, has_turned_back}
use Rattle.txn_core.specs.Transaction.{IsOrdered, Standing, has_given_up, locks_nothing}
use Rattle.txn_core.specs.declared.txn_answer.TxnAnswer.TheVariants as answer
use Rattle.txn_client.specs.Calls.{CallGives, IsAt}
use Rattle.txn_client.specs.declared.client_call.Wanted.{Wanted}
use Rattle.txn_client.specs.declared.client_answer.ClientAnswer.TheVariants.{Begun}
use Rattle.txn_report.specs.declared.outcome.Outcome.{Outcome}
use Rattle.txn_report.specs.declared.outcome.Outcome.TheVariants as outcomes
use Rattle.txn_report.specs.declared.outcome.Payload.TheVariants as payloads
use Rattle.txn_side.specs.Account.{is_undetermined}
use Rattle.txn_side.specs.Arising.{answered_at, with_postings}
use Rattle.txn_side.specs.Doubt.{CallOf, IsRefusal}
use Rattle.txn_side.specs.Sight.{Stand, client_at, commits, next_at, stand_at}
use Rattle.txn_side.specs.Sight.Stand.{Calling}
use Rattle.txn_lines.specs.declared.act.Act.{Act}
use Rattle.txn_side.specs.declared.turn.Ending.{Ending}
use Rattle.txn_side.specs.declared.turn.Posting.{Posting}
use Rattle.txn_side.specs.declared.turn.Posting.TheVariants as postings
use Rattle.txn_trace.specs.Answering.{AreAnswerable, OracleFits}
use Rattle.txn_trace.specs.Drawing.{IsDrawn}
use Rattle.txn_trace.specs.Posting.{IsFreshFor}
use Rattle.txn_trace.specs.Seeing.{seen}
use Rattle.txn_tso.specs.Calling.{members}
use Rattle.txn_tso.specs.Oracle.{Oracle, next_request, with_next_group}
use Rattle.txn_tso.specs.Oracle.{Answer as Answered}
use Rattle.txn_tso.specs.declared.asker.Asker.{Asker}
use Rattle.txn_clients.specs.Clients.{nexts_of, row_at, rows_of, stands_of}
use Rattle.txn_clients.specs.Failing.{outbox_of}
use Rattle.txn_clients.specs.First.{IsFirstLostOfPrimary}
use Rattle.txn_clients.specs.Rows.{stand_of}
use Rattle.txn_clients.specs.Waiting.{Book, IsHeard, asks_of, book_at, posted_at, voice_at}
use Rattle.txn_clients.specs.declared.answer.Answer.{Answer}
use Rattle.txn_clients.specs.declared.answer.Answer.TheVariants as answers
use Rattle.txn_clients.specs.declared.clients.Clients.{Clients}
use Rattle.txn_clients.specs.declared.row.Row.{Row}
use Rattle.txn_clients.specs.declared.row.Row.TheVariants as row
use Rattle.txn_clients.specs.declared.told.Told.{Told}
use Rattle.txn_clients.specs.declared.told.Told.TheVariants as tells

-- What becomes of a row

-- what is known of the history before a row is told of something, and the history once it is
abbrev pub told_of : Told → Posted → Request → CallTold
told_of tells.Start o r = started
told_of (tells.Act act) o r = started
told_of (tells.Heard a) o r = told_by a o r

-- From each history that was so it posts what it may, under numbers that rise, and what it then is, and answers, has arisen from the
-- longer one.
pub record Moved (may : List Event → Request → Type 0) (was is says : List Event → Type 0) (hear : List Event → List Event) (from to : Posted) : Type 0 where
  pub sends : List Errand
  pub pushed : to.sends ≡ from.sends ++ sends
  pub line : to.line ≡ from.line
  pub beat : to.beat ≡ from.beat
  pub numbered : AreNumbered from.next from.next_ask sends to.next to.next_ask
  pub licensed : (h : List Event) → was h → Licensed may from.line from.beat (hear h) sends
  pub still : (h : List Event) → was h → is (after from.line from.beat (hear h) sends)
  pub stands : (h : List Event) → was h → says (after from.line from.beat (hear h) sends)

-- what the call for a timestamp answers stands on the history
abbrev pub AskStands : {P : Type 0} → Wanted → Option (Answer P) → List Event → Type 0
AskStands x (Some (answers.Asked v)) h = CallGives x h v
AskStands x answer h = ⊤

-- A Commit of its primary was lost, as the transaction knows. It is written no more.
pub record HasLostOne {P : Type 0} (t : Standing P) (h : List Event) : Type 0 where
  pub parts : CommitParts
  pub closed : allows_data t.status ≡ false
  pub whole : parts_of t.contents ≡ Some parts
  pub ticket : Ticket
  pub lost : PrimaryLost (plan_of parts) (version_of t.start) h ticket

-- As far as a transaction knows, and it knows of each Commit of its primary, none was lost. It is written no more.
pub record IsSettled {P : Type 0} (t : Standing P) (h : List Event) : Type 0 where
  pub parts : CommitParts
  pub closed : allows_data t.status ≡ false
  pub whole : parts_of t.contents ≡ Some parts
  pub knows : KnowsCommits (plan_of parts) (version_of t.start) t.commits h
  pub none : undetermined t.commits ≡ None

-- An error says that it is not known whether the transaction is committed, since that one was lost. It is written no more.
pub record NamesLost {P : Type 0} (t : Standing P) (h : List Event) (e : Error) : Type 0 where
  pub parts : CommitParts
  pub closed : allows_data t.status ≡ false
  pub whole : parts_of t.contents ≡ Some parts
  pub ticket : Ticket
  pub error : view_of e ≡ not_known (view_of (GrpcAPI ticket))
  pub first : IsFirstLostOfPrimary (version_of t.start) parts.primary h ticket

-- what it was told was of a call that does not commit it
abbrev pub TurnsBack : {P : Type 0} → Told → Standing P → Type 0
TurnsBack tells.Start t = ⊤
TurnsBack (tells.Act act) t = commits act ≡ false
TurnsBack (tells.Heard a) t = has_turned_back t.status ≡ true

-- and what a transaction answers that is committed, which stood so before, and is written no more; or that fails: it was refused, or
-- says that it is in doubt, and a Commit of its primary was lost, which it names if it does not commit; or it says no such thing, and is
-- in none
abbrev pub CallStands : {P : Type 0} → Ways P → Told → Standing P → Standing P → Option (Answer P) → List Event → Type 0
CallStands w told old new (Some (answers.Called (Ok (answer.Committed t job)))) h = (allows_data new.status ≡ false) × TransactionGives w old.options.retry_options old.start old.contents new.commits h (Ok (answer.Committed t job))
CallStands w told old new (Some (answers.Called (Err e))) h = IsRefusal e ⊎ (((is_undetermined e ≡ true) × HasLostOne new h × (TurnsBack told new → NamesLost new h e)) ⊎ ((is_undetermined e ≡ false) × IsSettled new h))
CallStands w told old new answer h = ⊤

-- the Commit of its primary that a transaction marks as lost was the first
abbrev pub IsMarked : {P : Type 0} → Standing P → List Event → Type 0
IsMarked t h = (parts : CommitParts) → parts_of t.contents ≡ Some parts → (u : Ticket) → t.commits.lost ≡ Some u → IsFirstLostOfPrimary (version_of t.start) parts.primary h u

-- A transaction can have arisen from the history, the keys of its buffer are in order, it has not given up, and what it marks is right.
abbrev pub StandFits : {P : Type 0} → Ways P → Standing P → Posted → List Event → Type 0
StandFits w t o h = IsOrdered t.contents × TransactionFits w t o h × (has_given_up t.work ≡ false) × IsMarked t h

-- A transaction stays itself. Once it may be written no more that stays so, and what it writes is what it wrote before; and only then does
-- it post anything.
pub record KeepsPlan {P : Type 0} (old new : Standing P) (from to : Posted) : Type 0 where
  pub start : new.start ≡ old.start
  pub closed : allows_data old.status ≡ false → allows_data new.status ≡ false
  pub fixed : allows_data new.status ≡ false → new.contents ≡ old.contents
  pub quiet : (to ≡ from) ⊎ (allows_data new.status ≡ false)

-- A transaction is told of something: what it posts, and what it and its answer can have arisen from.
pub record StandMoves {P : Type 0} (w : Ways P) (told : Told) (old new : Standing P) (from to : Posted) (answer : Option (Answer P)) : Type 0 where
  pub keeps : KeepsPlan old new from to
  pub moves : (r : Request) → Moved (MaySendFor old.contents (version_of old.start)) (λ h. StandFits w old from h × (told_of told from r).known h) (λ h. StandFits w new to h) (λ h. CallStands w told old new answer h) (told_of told from r).hear from to

-- So is a job of other keys, whatever the plan of its transaction is.
pub record JobMoves {P B : Type 0} (m : Meaning P (Result B Error)) (refuses : RetryOptions → List Event → Error → Type 0) (told : Told) (old new : SecondaryJob P) (from to : Posted) : Type 0 where
  pub start : version_of new.start ≡ version_of old.start
  pub moves : (plan : Plan) (keys : List (List ℕ)) (r : Request) → Moved (MaySendBehind plan (version_of old.start)) (λ h. JobFits m refuses plan keys old from h × (told_of told from r).known h) (λ h. JobFits m refuses plan keys new to h) (λ h. ⊤) (told_of told from r).hear from to

-- and what stands at a line
abbrev pub RowMoves : {P : Type 0} → Ways P → Told → Row P → Row P → Posted → Posted → Option (Answer P) → Type 0
RowMoves {P} w told (row.Asking c b old) (row.Asking d e new) from to answer =
    (r : Request) → Moved (λ h q. q ≡ members) (λ h. IsAt old.stage from h × (told_of told from r).known h) (λ h. IsAt new.stage to h) (λ h. AskStands {P = P} old.wanted answer h) (told_of told from r).hear from to
RowMoves w told (row.Begun c old m) (row.Begun d new n) from to answer = StandMoves w told old new from to answer
RowMoves w told (row.Working c old) (row.Working d new) from to answer = JobMoves w.plan w.uncommitted told old new from to
RowMoves w told old new from to answer = to ≡ from

-- What stands at the lines

-- this is the plan of a transaction that is written no more
abbrev pub HasPlan : {P : Type 0} → (ℕ → Plan) → Row P → Type 0
HasPlan plans (row.Begun c t m) = allows_data t.status ≡ false → (parts : CommitParts) → parts_of t.contents ≡ Some parts → plans (version_of t.start) ≡ plan_of parts
HasPlan plans r = ⊤

abbrev pub HavePlans : {P : Type 0} → (ℕ → Plan) → List (Row P) → Type 0
HavePlans plans rows = (i : ℕ) → HasPlan plans (row_at rows i)

-- a transaction of this start
abbrev pub HasStart : {P : Type 0} → ℕ → Row P → Type 0
HasStart s (row.Begun c t m) = version_of t.start ≡ s
HasStart s r = ⊥

-- the transaction whose other keys the job commits
abbrev pub IsBehind : {P : Type 0} → Ways P → SecondaryJob P → Posted → List Event → Row P → Type 0
IsBehind w job o h (row.Begun c t m) = (parts : CommitParts) × (version_of t.start ≡ version_of job.start) × (allows_data t.status ≡ false) × (parts_of t.contents ≡ Some parts) × JobFits w.plan w.uncommitted (plan_of parts) parts.secondaries job o h
IsBehind w job o h r = ⊥

-- it can have arisen from the history, where the line in whose name it posts has posted so much
abbrev pub RowFits : {P : Type 0} → Ways P → List (Row P) → Posted → List Event → Row P → Type 0
RowFits w rows o h (row.Asking c b call) = IsAt call.stage o h
RowFits w rows o h (row.Begun c t m) = StandFits w t o h
RowFits w rows o h (row.Working c job) = (i : ℕ) × IsBehind w job o h (row_at rows i)
RowFits w rows o h r = ⊤

-- Timestamps

abbrev pub oracle_of : Book → Oracle
oracle_of b = record { queue = b.queue; out = b.out }

-- the ticket of the request that is out, if one is
abbrev pub ticket_or : Option Ticket → Ticket
ticket_or None = record { line = 0; beat = false; number = 0 }
ticket_or (Some t) = t

-- Each transaction began at a timestamp that its line drew, where these are the lines whose asks each request for timestamps carries; and
-- so is what is told in this step of the asks of a group.
pub record Draws {P : Type 0} (s : Clients P) (askers : Ticket → List ℕ) (rest : List Answered) (h : List Event) : Type 0 where
  pub starts : (i v : ℕ) → HasStart v (row_at (rows_of s) i) → IsDrawn askers h (suc i) v
  pub groups : (c : ℕ) (t : Ticket) (group : List Asker) → (book_at s c).ticket ≡ Some t → (book_at s c).out ≡ Some group → askers t ≡ map (λ (a : Asker). a.line) group
  pub given : (a : Asker) (time : Timestamp) → IsAmong rest (a, Ok time) → IsDrawn askers h a.line (version_of time)

-- The whole

-- All that stands at the lines, and the oracles of the clients, can have arisen from this history, which is a run, whatever the plans of
-- those are that may still be written. Those of the rest of a group may be told their answers now.
pub record Arisen {P : Type 0} (w : Ways P) (s : Clients P) (askers : Ticket → List ℕ) (rest : List Answered) (h : List Event) : Type 0 where
  pub run : (plans : ℕ → Plan) → HavePlans plans (rows_of s) → IsRun plans h
  pub rows : (i : ℕ) → RowFits w (rows_of s) (posted_at (nexts_of s) (asks_of s) (voice_at (rows_of s) i)) h (row_at (rows_of s) i)
  pub oracles : (c : ℕ) → OracleFits (oracle_of (book_at s c)) (ticket_or (book_at s c).ticket) h
  pub fresh : (n : ℕ) → IsFreshFor n false (next_at (nexts_of s) n) (next_at (asks_of s) n) h
  pub draws : Draws s askers rest h
  pub answerable : AreAnswerable rest h
  -- a Commit is one of a transaction that stands somewhere
  pub owned : (t : Ticket) (r : CommitRequest) → Has h (Sent t (Commit r)) → (i : ℕ) × HasStart r.start_version (row_at (rows_of s) i)
  -- no pessimistic lock is asked for
  pub optimistic : (t : Ticket) (r : PessimisticLockRequest) → Has h (Sent t (PessimisticLock r)) → ⊥
  -- two transactions that stand at two places have unlike starts
  pub apart : (i j v : ℕ) → HasStart v (row_at (rows_of s) i) → HasStart v (row_at (rows_of s) j) → i ≡ j

-- the plans of the transactions keep to their laws
pub record AreLawful {P : Type 0} (w : Ways P) : Type 0 where
  pub lawful : IsLawful w.plan

-- the clients can have arisen from a history of which a run shows this
abbrev pub ArisenFrom : {P : Type 0} → Ways P → Clients P → List Event → Type 0
ArisenFrom w s shown = AreLawful w × (askers : Ticket → List ℕ) × (h : List Event) × (seen h ≡ shown) × Arisen w s askers [] h

-- What was answered

-- the primary of this transaction was committed at this version
abbrev pub IsCommittedSo : {P : Type 0} → List Event → ℕ → Row P → Type 0
IsCommittedSo h v (row.Begun c t m) = (parts : CommitParts) × (allows_data t.status ≡ false) × (parts_of t.contents ≡ Some parts) × PrimaryCommitted (plan_of parts) h (version_of t.start) v
IsCommittedSo h v r = ⊥

-- a commit of this transaction locks no key
abbrev pub IsCommittedUnlocked : {P : Type 0} → Row P → Type 0
IsCommittedUnlocked (row.Begun c t m) = (allows_data t.status ≡ false) × (locks_nothing t.contents ≡ true)
IsCommittedUnlocked r = ⊥

-- the transaction that stands here began at this version; a call for a timestamp alone left nothing
abbrev pub BeganAt : {P : Type 0} → ℕ → Row P → Type 0
BeganAt v (row.Begun c t m) = version_of t.start ≡ v
BeganAt v (row.Past c) = ⊤
BeganAt v r = ⊥

-- the answer is right of what stands here
abbrev pub HoldsOf : {P : Type 0} → List Event → Outcome → Row P → Type 0
HoldsOf h (outcomes.Ok (payloads.Number v)) r = BeganAt v r
HoldsOf h (outcomes.Ok (payloads.Commit (Some v))) r = IsCommittedSo h v r
HoldsOf h (outcomes.Ok (payloads.Commit None)) r = IsCommittedUnlocked r
HoldsOf h o r = ⊤

abbrev pub HoldsAt : {P : Type 0} → List (Row P) → List Event → ℕ → Outcome → Type 0
HoldsAt rows h zero o = ⊤
HoldsAt rows h (suc i) o = HoldsOf h o (row_at rows i)

-- Of each Commit of the primary of this transaction that was lost a reply was taken, too. The transaction is written no more.
abbrev pub IsUndoubted : {P : Type 0} → List Event → Row P → Type 0
IsUndoubted h (row.Begun c t m) = (parts : CommitParts) × (allows_data t.status ≡ false) × (parts_of t.contents ≡ Some parts) × ((u : Ticket) (r : CommitRequest) → Has h (Lost u (Commit r)) → CommitsPrimary (plan_of parts) (version_of t.start) r → (o : Reply) × Has h (Took u (Commit r) o))
IsUndoubted h r = ⊥

-- a Commit of the primary of this transaction was lost
abbrev pub IsDoubted : {P : Type 0} → List Event → Row P → Type 0
IsDoubted h (row.Begun c t m) = HasLostOne t h
IsDoubted h r = ⊥

-- the error names the first that was lost, as a run shows
abbrev pub IsNamedBy : {P : Type 0} → List Event → Error → Row P → Type 0
IsNamedBy h e (row.Begun c t m) = NamesLost t (seen h) e
IsNamedBy h e r = ⊥

-- What a call of it that fails says is right then, and one that `turns` back names the Commit that was lost first. In a longer history it
-- need not be.
abbrev pub SpeaksRight : {P : Type 0} → List Event → Type 0 → Error → Row P → Type 0
SpeaksRight h turns e r = IsRefusal e ⊎ (((is_undetermined e ≡ true) × IsDoubted h r × (turns → IsNamedBy h e r)) ⊎ ((is_undetermined e ≡ false) × IsUndoubted h r))

abbrev pub SpeaksRightAt : {P : Type 0} → List (Row P) → List Event → ℕ → Type 0 → Error → Type 0
SpeaksRightAt rows h zero turns e = ⊥
SpeaksRightAt rows h (suc i) turns e = SpeaksRight h turns e (row_at rows i)

-- so of what is answered line n, of the transaction that stands at another line
abbrev pub EndSpeaks : {P : Type 0} → List (Row P) → List Event → CallOf → ℕ → Outcome → Type 0
EndSpeaks rows h call n (outcomes.Err e) = call.at ≢ n → SpeaksRightAt rows h call.at (call.commits ≡ false) e
EndSpeaks rows h call n o = ⊤

-- What was right of the rows stays so, in each longer history.
abbrev pub KeepRight : {P : Type 0} → List (Row P) → List (Row P) → Type 0
KeepRight olds news = (x : ℕ) (o : Outcome) (h longer : List Event) → Within h longer → HoldsAt olds h x o → HoldsAt news longer x o

-- what stands at a place was told of something
pub record MovesRow {P : Type 0} (w : Ways P) (told : Told) (at : ℕ) (s t : Clients P) (from to : Posted) (answer : Option (Answer P)) : Type 0 where
  pub row : Row P
  pub rows : rows_of t ≡ slice_set (rows_of s) at row
  pub stand : stand_of row ≡ stand_of (row_at (rows_of s) at)
  pub moves : RowMoves w told (row_at (rows_of s) at) row from to answer

-- What is told

-- what is told of an ask is told to the first of these
abbrev pub pends_answer : ℕ → Told → List Answered → List Answered
pends_answer line (tells.Heard (arrivals.Time k x)) rest = (record { line = line; beat = false; ask = k }, x) ∷ rest
pends_answer line told rest = rest

-- what is told of a request may have come of it
abbrev pub CanCome : Told → Posted → Request → List Event → Type 0
CanCome (tells.Heard (arrivals.Reply n x)) o r h = IsPossible h (Took (ticket_of o n) r x)
CanCome (tells.Heard (arrivals.Lost n)) o r h = IsPossible h (Lost (ticket_of o n) r)
CanCome told o r h = ⊤

-- What a row answers: a transaction begins at what its line drew; a commit says where its primary is committed, and hands out the job
-- of the other keys, or that nothing was locked; and a call that fails says whether it is in doubt.
abbrev pub AnswerArises : {P : Type 0} → Ways P → Type 0 → (Ticket → List ℕ) → ℕ → Row P → Option (Answer P) → List Event → Type 0
AnswerArises w turns askers line r (Some (answers.Asked (Ok (Begun b)))) h = IsDrawn askers h line (version_of b.start)
AnswerArises w turns askers line r (Some (answers.Called (Ok (answer.Committed (Some t) job)))) h = IsCommittedSo h (version_of t) r × IfSome job (λ j. (o : Posted) → IsBehind w j o h r)
AnswerArises w turns askers line r (Some (answers.Called (Ok (answer.Committed None None)))) h = IsCommittedUnlocked r
AnswerArises w turns askers line r (Some (answers.Called (Ok (answer.Committed None (Some job))))) h = ⊥
AnswerArises w turns askers line r (Some (answers.Called (Err e))) h = SpeaksRight h turns e r
AnswerArises w turns askers line r answer h = ⊤

-- what is told to a row is of a call that does not commit its transaction
abbrev pub TurnsRow : {P : Type 0} → Told → Row P → Type 0
TurnsRow told (row.Begun c t m) = TurnsBack told t
TurnsRow told r = ⊤

-- the call of a line asks what is told, if that is asked now
abbrev pub AsksSo : Act → Stand → Type 0
AsksSo act (Calling c x b) = b ≡ commits act
AsksSo act s = ⊤

abbrev pub FitsCall : Told → Stand → Type 0
FitsCall tells.Start s = ⊤
FitsCall (tells.Act act) s = AsksSo act s
FitsCall (tells.Heard a) s = ⊤

-- Parts of a step

-- where it stands of what a line's call answers
abbrev pub heard_by : {P : Type 0} → Clients P → ℕ → CallOf
heard_by s n = answered_at n (stand_at (stands_of (rows_of s)) n)

-- each that ended in a part answered what is right of what stands there, and said then whether that is in doubt
pub record EndsRight {P : Type 0} (at : ℕ → CallOf) (t : Clients P) (h : List Event) (before over : List Ending) : Type 0 where
  pub more : List Ending
  pub ended : over ≡ before ++ more
  pub each : All (λ (e : Ending). HoldsAt (rows_of t) h (at e.line).at e.outcome) more
  pub says : All (λ (e : Ending). EndSpeaks (rows_of t) h (at e.line) e.line e.outcome) more

-- A part of a step leads on from the history before it: behind that are what was heard, of which a run shows so much, and what was
-- posted then. The clients can have arisen from the whole.
pub record Leads {P : Type 0} (w : Ways P) (askers : Ticket → List ℕ) (rest : List Answered) (from to : List Posting) (ended over : List Ending) (at : ℕ → CallOf) (s t : Clients P) (shown h : List Event) (Then : List Event → Type 0) : Type 0 where
  pub later : List Event
  pub more : List Posting
  pub posted : to ≡ from ++ more
  pub shows : seen later ≡ with_postings more shown
  pub within : Within h later
  pub arisen : Arisen w t askers rest later
  pub kept : KeepRight (rows_of s) (rows_of t)
  pub ends : EndsRight at t later ended over
  pub then : Then later

-- what is known of a part of which nothing else is asked
abbrev pub Anyhow : List Event → Type 0
Anyhow h = ⊤

-- The next group of a client may go out in it, with lines of its own.
abbrev pub LeadsWith : {P : Type 0} → Ways P → List Posting → List Posting → List Ending → List Ending → (ℕ → CallOf) → Clients P → Clients P → List Event → List Event → Type 0
LeadsWith w from to ended over at s t shown h = (askers : Ticket → List ℕ) × Leads w askers [] from to ended over at s t shown h Anyhow

-- What is handed on

-- what the call of a line posts: requests and sleeps, and not the asks
abbrev pub postings_of : ℕ → List Errand → List Posting
postings_of line [] = []
postings_of line (Send n to r ∷ rest) = postings.Send (record { line = line; beat = false; number = n }) to r [] ∷ postings_of line rest
postings_of line (Sleep n ms ∷ rest) = postings.Sleep (record { line = line; beat = false; number = n }) ∷ postings_of line rest
postings_of line (Ask n ∷ rest) = postings_of line rest

-- and the asks
abbrev pub askers_of : ℕ → List Errand → List Asker
askers_of line [] = []
askers_of line (Send n to r ∷ rest) = askers_of line rest
askers_of line (Sleep n ms ∷ rest) = askers_of line rest
askers_of line (Ask n ∷ rest) = record { line = line; beat = false; ask = n } ∷ askers_of line rest

-- All errands are done but those that are left: each is posted or asked, in their order, and only the numbers of their line go on.
pub record HandsAll {P : Type 0} (line client : ℕ) (all left : List Errand) (from to : List Posting) (s t : Clients P) : Type 0 where
  pub done : List Errand
  pub all_are : all ≡ done ++ left
  pub posted : to ≡ from ++ postings_of line done
  pub queue : (book_at t client).queue ≡ (book_at s client).queue ++ askers_of line done
  pub nexts : (n : ℕ) → n ≢ line → next_at (nexts_of t) n ≡ next_at (nexts_of s) n

-- Groups

-- The next group of a client goes out as its oracle has it, or none does.
pub record GroupsNext (request : Option TsoRequest) (old new : Book) : Type 0 where
  pub request_is : next_request (oracle_of old) ≡ request
  pub oracle : oracle_of new ≡ with_next_group (oracle_of old)
  pub none : request ≡ None → new ≡ old

-- and this is posted then, under the ticket that the client keeps
pub record PostsGroup {P : Type 0} (client : ℕ) (request : TsoRequest) (lines : List ℕ) (from to : List Posting) (t : Clients P) : Type 0 where
  pub ticket : Ticket
  pub kept : (book_at t client).ticket ≡ Some ticket
  pub posted : to ≡ from ++ postings.Send ticket Placement (Tso request) lines ∷ []

-- What the parts of a step make of each history

-- what stands at a place was told of something, in the name of a line, and this is its answer
abbrev pub LeadsPushed : {P : Type 0} → Ways P → Told → ℕ → ℕ → ℕ → Option (Answer P) → List Posting → List Posting → List Ending → List Ending → Clients P → Clients P → Type 0
LeadsPushed w told line at client answer from to ended over s t =
    (askers : Ticket → List ℕ) (rest : List Answered) (h : List Event) (r : Request) → IsHeard (stands_of (rows_of s)) line at client → CanCome told (outbox_of line) r h → Arisen w s askers (pends_answer line told rest) h
    → Leads w askers rest from to ended over (heard_by s) s t (seen ((told_of told (outbox_of line) r).hear h)) h (AnswerArises w (TurnsRow told (row_at (rows_of t) at)) askers line (row_at (rows_of t) at) answer)

-- and the call of the line may have ended
abbrev pub LeadsTold : {P : Type 0} → Ways P → Told → ℕ → ℕ → List Posting → List Posting → List Ending → List Ending → Clients P → Clients P → Type 0
LeadsTold w told line client from to ended over s t =
    (askers : Ticket → List ℕ) (rest : List Answered) (h : List Event) (r : Request) → FitsCall told (stand_at (stands_of (rows_of s)) line) → client_at (stand_at (stands_of (rows_of s)) line) ≡ Some client → CanCome told (outbox_of line) r h → Arisen w s askers (pends_answer line told rest) h
    → Leads w askers rest from to ended over (heard_by s) s t (seen ((told_of told (outbox_of line) r).hear h)) h Anyhow

-- a call ended with an answer that has arisen so
abbrev pub LeadsEnded : {P : Type 0} → Ways P → ((Ticket → List ℕ) → List Event → Type 0) → List Posting → List Posting → List Ending → List Ending → Clients P → Clients P → Type 0
LeadsEnded w Came from to ended over s t =
    (askers : Ticket → List ℕ) (rest : List Answered) (h : List Event) → Came askers h → Arisen w s askers rest h → Leads w askers rest from to ended over (heard_by s) s t (seen h) h Anyhow

-- an answer of the call of a line, to a transaction that stands elsewhere
abbrev pub CallCame : {P : Type 0} → Ways P → Clients P → ℕ → Option (Answer P) → (Ticket → List ℕ) → List Event → Type 0
CallCame w s line answer askers h = (c x : ℕ) (b : Bool) → stand_at (stands_of (rows_of s)) line ≡ Calling c x b → AnswerArises w (b ≡ false) askers line (row_at (rows_of s) (x - 1)) answer h

-- those of a group are told these answers
abbrev pub LeadsGiven : {P : Type 0} → Ways P → List Answered → List Posting → List Posting → List Ending → List Ending → Clients P → Clients P → Type 0
LeadsGiven w given from to ended over s t =
    (askers : Ticket → List ℕ) (h : List Event) → Arisen w s askers given h → Leads w askers [] from to ended over (heard_by s) s t (seen h) h Anyhow

-- this came of the request for timestamps of a client
abbrev pub LeadsGroup : {P : Type 0} → Ways P → ℕ → (Ticket → Request → Event) → List Posting → List Posting → List Ending → List Ending → Clients P → Clients P → Type 0
LeadsGroup w client event from to ended over s t =
    (askers : Ticket → List ℕ) (h : List Event) (u : Ticket) (r : Request) → (book_at s client).ticket ≡ Some u → IsPossible h (event u r) → Arisen w s askers [] h → Leads w askers [] from to ended over (heard_by s) s t (event u r ∷ seen h) h Anyhow

-- the next group of a client may go out
abbrev pub LeadsSent : {P : Type 0} → Ways P → List Posting → List Posting → List Ending → List Ending → (ℕ → CallOf) → Clients P → Clients P → Type 0
LeadsSent w from to ended over at s t = (askers : Ticket → List ℕ) (h : List Event) → Arisen w s askers [] h → LeadsWith w from to ended over at s t (seen h) h

-- Whole steps

abbrev pub StepsTold : {P : Type 0} → Ways P → Told → ℕ → ℕ → List Posting → List Ending → Clients P → Clients P → Type 0
StepsTold w told line client posted ended s t =
    (askers : Ticket → List ℕ) (h : List Event) (r : Request) → FitsCall told (stand_at (stands_of (rows_of s)) line) → client_at (stand_at (stands_of (rows_of s)) line) ≡ Some client → CanCome told (outbox_of line) r h → Arisen w s askers (pends_answer line told []) h
    → LeadsWith w [] posted [] ended (heard_by s) s t (seen ((told_of told (outbox_of line) r).hear h)) h

abbrev pub StepsGroup : {P : Type 0} → Ways P → ℕ → (Ticket → Request → Event) → List Posting → List Ending → Clients P → Clients P → Type 0
StepsGroup w client event posted ended s t =
    (askers : Ticket → List ℕ) (h : List Event) (u : Ticket) (r : Request) → (book_at s client).ticket ≡ Some u → IsPossible h (event u r) → Arisen w s askers [] h → LeadsWith w [] posted [] ended (heard_by s) s t (event u r ∷ seen h) h
