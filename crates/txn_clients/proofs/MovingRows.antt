-- What stands at a line is told of something: a call for a timestamp, a transaction, or a job.
use Rattle.std.proofs.Common.{◌≡◌, ℕ, ◌<◌, Bool, true, false, List, [], length, map, get_or, set, Option, None, refl, sym, ap, ◌∙◌, subst}
use Rattle.std.specs.Prelude.{IfOk, ⊤, Result, Ok, Err}
use Rattle.txn_kv.specs.Timestamp.{version_of}
use Rattle.txn_kv.specs.declared.errors.Error.{Error}
use Rattle.txn_kv.specs.declared.progress.Progress.{Progress}
use Rattle.txn_kv.specs.declared.request.commits.CommitRequest.{CommitRequest}
use Rattle.txn_kv.specs.declared.request.Request.{Request}
use Rattle.txn_kv.specs.declared.request.Request.TheVariants.{Commit}
use Rattle.txn_history.specs.Event.{Event}
use Rattle.txn_history.specs.Meaning.{Meaning, Tells, started}
use Rattle.txn_history.specs.Meaning.{Told as CallTold}
use Rattle.txn_history.specs.Moves.{SameJob}
use Rattle.txn_history.specs.Plan.{Plan, has_key}
use Rattle.txn_history.specs.Posted.{Posted}
use Rattle.txn_history.specs.Turn.{IfEnds, IfKept, Turn, turn_of}
use Rattle.txn_history.specs.Turn.Turn.{Stopped, Waits, Ends}
use Rattle.txn_history.specs.Arrivals.{told_by}
use Rattle.txn_kv.specs.declared.arrival.Arrival.{Arrival}
use Rattle.txn_tso.specs.Calling.{members}
use Rattle.txn_commit.specs.Ways.{Ways}
use Rattle.txn_merge.specs.declared.retry_options.RetryOptions.{RetryOptions}
use Rattle.txn_commit.specs.Jobs.{JobFits, others}
use Rattle.txn_commit.specs.Plans.{only_key}
use Rattle.txn_commit.specs.Sending.{MaySendBehind, NamesNoPrimary}
use Rattle.txn_commit.specs.declared.secondary_job.SecondaryJob.{SecondaryJob}
use Rattle.txn_core.specs.Transaction.{Standing}
use Rattle.txn_core.specs.declared.txn_answer.TxnAnswer.{TxnAnswer}
use Rattle.txn_client.specs.Calls.{CallGives, IsAt, called}
use Rattle.txn_client.specs.declared.client_answer.ClientAnswer.{ClientAnswer}
use Rattle.txn_client.specs.declared.client_call.ClientCall.{ClientCall}
use Rattle.txn_client.specs.declared.client_call.Wanted.{Wanted}
use Rattle.txn_lines.specs.declared.act.Act.{Act}
use Rattle.txn_clients.specs.Arising.{AskStands, JobMoves, Moved, MovesRow, RowMoves, StandMoves}
use Rattle.txn_clients.specs.Clients.{rows_of}
use Rattle.txn_clients.specs.Rows.{Pd, answer_in, stand_of}
use Rattle.txn_clients.specs.declared.answer.Answer.{Answer}
use Rattle.txn_clients.specs.declared.answer.Answer.TheVariants as answers
use Rattle.txn_clients.specs.declared.clients.Clients.{Clients}
use Rattle.txn_clients.specs.declared.place.Place.{Place}
use Rattle.txn_clients.specs.declared.row.Row.{Row}
use Rattle.txn_clients.specs.declared.row.Row.TheVariants as row
use Rattle.txn_clients.specs.declared.told.Told.{Told}
use Rattle.txn_clients.specs.declared.told.Told.TheVariants as tells
use Rattle.txn_clients.proofs.Going.{ok_goes, ok_kept}
use Rattle.txn_clients.proofs.Moving.{keeps_same, moved_by_call, moved_quiet}
use Rattle.txn_clients.proofs.Places.{rows_set}
use Rattle.txn_clients.proofs.Telling.{place_row}

-- A call for a timestamp

module _ {P : Type 0} where
  ask_stands : (x : Wanted) (h : List Event) (turn : Turn (Result (ClientAnswer Pd P) Error)) → IfEnds turn (λ v. CallGives x h v) → AskStands {P = P} x (answer_in answers.Asked turn) h
  ask_stands x h Stopped g = tt
  ask_stands x h Waits g = tt
  ask_stands x h (Ends v) g = g

  abbrev AskMoves : CallTold → ClientCall Pd P → ClientCall Pd P → Posted → Posted → Option (Answer P) → Type 0
  AskMoves told old new from to answer = Moved (λ h q. q ≡ members) (λ h. IsAt old.stage from h × told.known h) (λ h. IsAt new.stage to h) (λ h. AskStands {P = P} old.wanted answer h) told.hear from to

  ask_moves : (told : CallTold) (old new : ClientCall Pd P) (from to : Posted) (progress : Progress (ClientAnswer Pd P)) → Tells called told old new from to (turn_of (Ok progress)) → AskMoves told old new from to (answer_in answers.Asked (turn_of (Ok progress)))
  ask_moves told old new from to progress t = moved_by_call (λ h. AskStands {P = P} old.wanted (answer_in answers.Asked (turn_of (Ok progress))) h) (ok_goes progress) (λ h g. ask_stands old.wanted h (turn_of (Ok progress)) g) t.moves

  module _ (w : Ways P) where
    pub ask_started : (told : Told) (c : ℕ) (b : Bool) (old new : ClientCall Pd P) (from to : Posted) (progress : Progress (ClientAnswer Pd P)) (answer : Option (Answer P)) → told ≡ tells.Start → answer ≡ answer_in answers.Asked (turn_of (Ok progress))
        → Tells called started old new from to (turn_of (Ok progress)) → RowMoves w told (row.Asking c b old) (row.Asking c b new) from to answer
    ask_started told c b old new from to progress answer e f t =
        subst (λ d. RowMoves w d (row.Asking c b old) (row.Asking c b new) from to answer) (sym e) (subst (λ o. RowMoves w tells.Start (row.Asking c b old) (row.Asking c b new) from to o) (sym f) (λ r. ask_moves started old new from to progress t))

    pub ask_heard : (told : Told) (c : ℕ) (b : Bool) (a : Arrival) (old new : ClientCall Pd P) (from to : Posted) (progress : Progress (ClientAnswer Pd P)) (answer : Option (Answer P)) → told ≡ tells.Heard a → answer ≡ answer_in answers.Asked (turn_of (Ok progress))
        → ((r : Request) → Tells called (told_by a from r) old new from to (turn_of (Ok progress))) → RowMoves w told (row.Asking c b old) (row.Asking c b new) from to answer
    ask_heard told c b a old new from to progress answer e f t =
        subst (λ d. RowMoves w d (row.Asking c b old) (row.Asking c b new) from to answer) (sym e) (subst (λ o. RowMoves w (tells.Heard a) (row.Asking c b old) (row.Asking c b new) from to o) (sym f) (λ r. ask_moves (told_by a from r) old new from to progress (t r)))

    pub ask_unmoved : (told : Told) (x : Act) (c : ℕ) (b : Bool) (call : ClientCall Pd P) (o : Posted) → told ≡ tells.Act x → RowMoves w told (row.Asking c b call) (row.Asking c b call) o o None
    ask_unmoved told x c b call o e = subst (λ d. RowMoves w d (row.Asking c b call) (row.Asking c b call) o o None) (sym e) (λ r. moved_quiet refl (λ h f. f.0) (λ h f. tt))

    -- as it stands at a line
    pub row_asks : {E : Type 0} (result : Result (Option (Answer P)) E) (told : Told) (r : Row P) (c : ℕ) (b : Bool) (old new : ClientCall Pd P) (from to : Posted) → r ≡ row.Asking c b old
        → IfOk result (λ answer. (d : ℕ) (e : Bool) → RowMoves w told (row.Asking d e old) (row.Asking d e new) from to answer) → IfOk result (λ answer. RowMoves w told r (row.Asking c b new) from to answer)
    row_asks (Ok answer) told r c b old new from to is moves = subst (λ (x : Row P). RowMoves w told x (row.Asking c b new) from to answer) (sym is) (moves c b)
    row_asks (Err e) told r c b old new from to is moves = tt

    -- A transaction

    pub stand_unmoved : (told : Told) (t : Standing P) (o : Posted) → told ≡ tells.Start → StandMoves w told t t o o None
    stand_unmoved told t o e = subst (λ d. StandMoves w d t t o o None) (sym e) (record { keeps = keeps_same t t o o refl refl; moves = λ r. moved_quiet refl (λ h f. f.0) (λ h f. tt) })

    pub stand_told : (told is : Told) (old new : Standing P) (from to : Posted) (progress : Progress (TxnAnswer P)) (answer : Option (Answer P)) → told ≡ is → answer ≡ answer_in answers.Called (turn_of (Ok progress))
        → IfKept (turn_of (Ok progress)) (StandMoves w is old new from to (answer_in answers.Called (turn_of (Ok progress)))) → StandMoves w told old new from to answer
    stand_told told is old new from to progress answer e f m = subst (λ d. StandMoves w d old new from to answer) (sym e) (subst (λ o. StandMoves w is old new from to o) (sym f) (ok_kept progress m))

    -- A place

    pub place_told : (told : Told) (s t : Clients P) (at : ℕ) (p q : Place P) (from to : Posted) (answer : Option (Answer P))
        → t.places.items ≡ set s.places.items at q → at < length (rows_of s) → p ≡ get_or s.places.items at p → stand_of q.row ≡ stand_of p.row → RowMoves w told p.row q.row from to answer → MovesRow w told at s t from to answer
    place_told told s t at p q from to answer places inside f stand moves = record {
      row = q.row;
      rows = ap (map (λ (x : Place P). x.row)) places ∙ rows_set s.places.items at q;
      stand = stand ∙ ap stand_of (sym (place_row s at p inside f));
      moves = subst (λ (r : Row P). RowMoves w told r q.row from to answer) (sym (place_row s at p inside f)) moves;
    }

-- A job

module _ {P B : Type 0} (m : Meaning P (Result B Error)) (refuses : RetryOptions → List Event → Error → Type 0) (costs : ℕ → ℕ → ℕ) where
  -- What it may send says of which start it is: a Commit of no keys rests on nothing else.
  same_start : (old new : SecondaryJob P) → SameJob (others m refuses costs (only_key []) []).asks (others m refuses costs (only_key []) []).gives new old → version_of new.start ≡ version_of old.start
  same_start old new s = (s.asked [] (Commit empty) (record { may = (refl, refl, λ k h. absurd (no h)); others = none })).may.0
    where
      empty : CommitRequest
      empty = record { context = None; keys = []; start_version = version_of new.start; commit_version = 0 }

      no : false ≡ true → ⊥
      no q = cc

      none : NamesNoPrimary (only_key []) (Commit empty)
      none q e h = no (ap (λ (x : CommitRequest). has_key x.keys []) same ∙ h)
        where
          same : empty ≡ q
          same = cc

  abbrev JobGoes : CallTold → Plan → List (List ℕ) → SecondaryJob P → SecondaryJob P → Posted → Posted → Type 0
  JobGoes told plan keys old new from to = Moved (MaySendBehind plan (version_of old.start)) (λ h. JobFits m refuses plan keys old from h × told.known h) (λ h. JobFits m refuses plan keys new to h) (λ h. ⊤) told.hear from to

  job_moved : (told : CallTold) (plan : Plan) (keys : List (List ℕ)) (old new : SecondaryJob P) (from to : Posted) (progress : Progress (Unit {0})) → Tells (others m refuses costs plan keys) told old new from to (turn_of (Ok progress)) → JobGoes told plan keys old new from to
  job_moved told plan keys old new from to progress t = moved_by_call (λ h. ⊤) (ok_goes progress) (λ h g. tt) t.moves

  pub job_started : (told : Told) (old new : SecondaryJob P) (from to : Posted) (progress : Progress (Unit {0})) → told ≡ tells.Start
      → ((plan : Plan) (keys : List (List ℕ)) → Tells (others m refuses costs plan keys) started old new from to (turn_of (Ok progress))) → JobMoves m refuses told old new from to
  job_started told old new from to progress e t = subst (λ d. JobMoves m refuses d old new from to) (sym e) (record {
    start = same_start old new (t (only_key []) []).job;
    moves = λ plan keys r. job_moved started plan keys old new from to progress (t plan keys);
  })

  pub job_heard : (told : Told) (a : Arrival) (old new : SecondaryJob P) (from to : Posted) (progress : Progress (Unit {0})) → told ≡ tells.Heard a
      → ((plan : Plan) (keys : List (List ℕ)) (r : Request) → Tells (others m refuses costs plan keys) (told_by a from r) old new from to (turn_of (Ok progress))) → JobMoves m refuses told old new from to
  job_heard told a old new from to progress e t = subst (λ d. JobMoves m refuses d old new from to) (sym e) (record {
    start = same_start old new (t (only_key []) [] members).job;
    moves = λ plan keys r. job_moved (told_by a from r) plan keys old new from to progress (t plan keys r);
  })

pub job_unmoved : {P B : Type 0} (m : Meaning P (Result B Error)) (refuses : RetryOptions → List Event → Error → Type 0) (told : Told) (x : Act) (job : SecondaryJob P) (o : Posted) → told ≡ tells.Act x → JobMoves m refuses told job job o o
job_unmoved m refuses told x job o e = subst (λ d. JobMoves m refuses d job job o o) (sym e) (record { start = refl; moves = λ plan keys r. moved_quiet refl (λ h f. f.0) (λ h f. tt) })
