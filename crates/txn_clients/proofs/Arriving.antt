-- What stands at a place is told of something: the clients have arisen from the history with what was heard and what was posted behind it.
use Rattle.std.proofs.Common.{◌≡◌, ℕ, ◌-◌, ◌<◌, false, Bool, List, [], ◌++◌, length, get_or, set, Option, Some, None, refl, sym, ap, ◌∙◌, subst, arith, append-nil, inl, inr}
use Rattle.std.specs.Prelude.{⊤, IfSome, Result, Ok, Err}
use Rattle.txn_kv.specs.Timestamp.{version_of}
use Rattle.txn_kv.specs.declared.errors.Error.{Error}
use Rattle.txn_kv.specs.declared.request.Request.{Request}
use Rattle.txn_kv.specs.declared.ticket.Ticket.{Ticket}
use Rattle.txn_history.specs.Event.{Event}
use Rattle.txn_history.specs.Meaning.{IsLawful}
use Rattle.txn_history.specs.Plan.{Plan}
use Rattle.txn_history.specs.Posted.{AreNumbered, Errand, Licensed, Posted, Within, Within-after, Within-trans, after}
use Rattle.txn_law.specs.Run.{IsRun}
use Rattle.txn_commit.specs.Ways.{Ways}
use Rattle.txn_commit.specs.Jobs.{JobFits}
use Rattle.txn_commit.specs.Sending.{MaySendBehind, plan_of}
use Rattle.txn_commit.specs.declared.secondary_job.SecondaryJob.{SecondaryJob}
use Rattle.txn_core.specs.Going.{MaySendFor, TransactionGives}
use Rattle.txn_core.specs.Transaction.{Standing}
use Rattle.txn_core.specs.declared.txn_answer.TxnAnswer.TheVariants as answer
use Rattle.txn_client.specs.Calls.{IsAt}
use Rattle.txn_client.specs.declared.client_answer.ClientAnswer.{ClientAnswer}
use Rattle.txn_client.specs.declared.client_answer.ClientAnswer.TheVariants.{Begun, Time}
use Rattle.txn_client.specs.declared.client_call.ClientCall.{ClientCall}
use Rattle.txn_side.specs.Sight.{client_at, next_at, stand_at}
use Rattle.txn_side.specs.Sight.Stand.{Asking, HasBegun, Working}
use Rattle.txn_side.specs.declared.turn.Ending.{Ending}
use Rattle.txn_side.specs.declared.turn.Posting.{Posting}
use Rattle.txn_trace.specs.Seeing.{seen}
use Rattle.txn_tso.specs.Calling.{members}
use Rattle.txn_tso.specs.Oracle.{Answer as Answered_to}
use Rattle.txn_clients.specs.Arising.{AnswerArises, Anyhow, Arisen, CallStands, CanCome, HandsAll, JobMoves, KeepsPlan, Leads, LeadsEnded, LeadsPushed, MovesRow, RowFits, RowMoves, StandFits, StandMoves, askers_of, heard_by, pends_answer, postings_of, told_of, TurnsBack, TurnsRow}
use Rattle.txn_clients.specs.Clients.{nexts_of, row_at, rows_of, stands_of}
use Rattle.txn_clients.specs.Failing.{outbox_of}
use Rattle.txn_clients.specs.Growing.{drawn_grows, plans_in, some_run}
use Rattle.txn_clients.specs.Matching.{IsLine}
use Rattle.txn_clients.specs.Rows.{IsToldIn, Pd, Posts, stand_of}
use Rattle.txn_clients.specs.Waiting.{Book, HandsOn, IsAnswerOf, IsNumberedTo, TellsRow, asks_of, blank, book_at, posted_at, voice, voice_at}
use Rattle.txn_clients.specs.declared.answer.Answer.{Answer}
use Rattle.txn_clients.specs.declared.answer.Answer.TheVariants as answers
use Rattle.txn_clients.specs.declared.clients.Clients.{Clients}
use Rattle.txn_clients.specs.declared.row.Row.{Row}
use Rattle.txn_clients.specs.declared.row.Row.TheVariants as row
use Rattle.txn_clients.specs.declared.told.Told.{Told}
use Rattle.txn_clients.specs.declared.told.Told.TheVariants as tells
use Rattle.txn_clients.proofs.Doubting.{settled_speaks}
use Rattle.txn_clients.proofs.Grouping.{numbered_end}
use Rattle.txn_clients.proofs.Leading.{Handed, Rises, drawn_told, hear_same, heard, known_of, leads_now, leads_weaker}
use Rattle.txn_clients.proofs.Rising.{MayAsk, asking_rises, has_job, stand_commits, stand_rises, stand_unlocks, working_rises}
use Rattle.txn_clients.proofs.Settling.{books_same, job_heard}
use Rattle.txn_clients.proofs.Stands.{or_same}
use Rattle.txn_clients.proofs.Tables.{stand_read}

-- All that was wanted is done, and the asks of the line go on.
pub handed_so : {P : Type 0} (w : Ways P) (s m u t : Clients P) (told : Told) (line client at : ℕ) (new : Row P) (to : Posted) (answer : Option (Answer P)) (sends : List Errand) (ps qs : List Posting)
    → IsLine (stands_of (rows_of s)) line → sends ≡ to.sends → Posts (posted_at (nexts_of s) (asks_of s) line) to
    → TellsRow w told at s m (posted_at (nexts_of s) (asks_of s) line) to answer → rows_of m ≡ set (rows_of s) at new → nexts_of m ≡ nexts_of s
    → HandsOn line client sends [] ps qs m u → HandsAll line client sends [] ps qs m u → rows_of u ≡ rows_of m
    → rows_of t ≡ rows_of u → nexts_of t ≡ nexts_of u → asks_of t ≡ set (asks_of u) (line - 1) to.next_ask → t.clients ≡ u.clients
    → Handed s t line client at (set (rows_of s) at new) to × (qs ≡ ps ++ postings_of line to.sends)
handed_so w s m u t told line client at new to answer sends ps qs is sent posts tells rows_m nexts_m hands all rows_u rows_t nexts_t asks_t clients_t = (
  record {
    is = is;
    rows = rows_t ∙ rows_u ∙ rows_m;
    numbered = numbered;
    next = ap (λ ns. next_at ns line) nexts_t ∙ sym (numbered_end (next_at (nexts_of u) line) to.next (hands.numbers to.next counted));
    others = λ n apart. ap (λ ns. next_at ns n) nexts_t ∙ all.nexts n apart ∙ ap (λ ns. next_at ns n) nexts_m;
    asks = asks_t ∙ ap (λ ns. set ns (line - 1) to.next_ask) (hands.asks ∙ tells.asks);
    queue = ap (λ (b : Book). b.queue) (books_same u t clients_t client) ∙ all.queue ∙ ap (λ (b : Book). b.queue ++ askers_of line all.done) (before client) ∙ ap (λ es. (book_at s client).queue ++ askers_of line es) done;
    outs = λ c. ap (λ (b : Book). b.out) (books_same u t clients_t c) ∙ hands.outs c ∙ ap (λ (b : Book). b.out) (before c);
    tickets = λ c. ap (λ (b : Book). b.ticket) (books_same u t clients_t c) ∙ hands.tickets c ∙ ap (λ (b : Book). b.ticket) (before c);
    books = λ c apart. books_same u t clients_t c ∙ hands.books c apart ∙ before c;
  },
  all.posted ∙ ap (λ es. ps ++ postings_of line es) done,
)
  where
    before : (c : ℕ) → book_at m c ≡ book_at s c
    before c = ap (λ bs. get_or bs c blank) tells.books

    done : all.done ≡ to.sends
    done = sym (append-nil all.done) ∙ sym all.all_are ∙ sent

    numbered : AreNumbered (next_at (nexts_of s) line) (next_at (asks_of s) line) to.sends to.next to.next_ask
    numbered = subst (λ es. AreNumbered (next_at (nexts_of s) line) (next_at (asks_of s) line) es to.next to.next_ask) (sym posts.pushed) posts.numbered

    counted : IsNumberedTo (next_at (nexts_of m) line) sends to.next
    counted = record {
      ask = next_at (asks_of s) line;
      end_ask = to.next_ask;
      numbered = subst (λ ns. AreNumbered (next_at ns line) (next_at (asks_of s) line) sends to.next to.next_ask) (sym nexts_m) (subst (λ es. AreNumbered (next_at (nexts_of s) line) (next_at (asks_of s) line) es to.next to.next_ask) (sym sent) numbered);
    }

module _ {P : Type 0} (w : Ways P) where
  -- What it answers

  asked_arises : (turns : Type 0) (told : Told) (s : Clients P) (askers : Ticket → List ℕ) (rest : List Answered_to) (line : ℕ) (h later : List Event) (r : Row P) (v : Result (ClientAnswer Pd P) Error) → IsToldIn told (answers.Asked v) → Within h later
      → Arisen w s askers (pends_answer line told rest) h → AnswerArises w turns askers line r (Some (answers.Asked v)) later
  asked_arises turns told s askers rest line h later r (Ok (Begun b)) stamped within a = drawn_grows askers h later line (version_of b.start) within (drawn_told w told s askers rest line (version_of b.start) h (stamped (version_of b.start) refl) a)
  asked_arises turns told s askers rest line h later r (Ok (Time t)) stamped within a = tt
  asked_arises turns told s askers rest line h later r (Err e) stamped within a = tt

  asking_arises : (turns : Type 0) (told : Told) (s : Clients P) (askers : Ticket → List ℕ) (rest : List Answered_to) (line c : ℕ) (b : Bool) (h later : List Event) (r : Row P) (answer : Option (Answer P)) → IfSome answer (IsAnswerOf (Asking c b)) → IfSome answer (IsToldIn told) → Within h later
      → Arisen w s askers (pends_answer line told rest) h → AnswerArises w turns askers line r answer later
  asking_arises turns told s askers rest line c b h later r None kind stamped within a = tt
  asking_arises turns told s askers rest line c b h later r (Some (answers.Asked v)) kind stamped within a = asked_arises turns told s askers rest line h later r v stamped within a
  asking_arises turns told s askers rest line c b h later r (Some (answers.Called v)) kind stamped within a = absurd kind

  working_arises : (turns : Type 0) (askers : Ticket → List ℕ) (line c : ℕ) (later : List Event) (r : Row P) (answer : Option (Answer P)) → IfSome answer (IsAnswerOf (Working c)) → AnswerArises w turns askers line r answer later
  working_arises turns askers line c later r None kind = tt
  working_arises turns askers line c later r (Some (answers.Asked v)) kind = absurd kind
  working_arises turns askers line c later r (Some (answers.Called v)) kind = absurd kind

  module _ (p : IsLawful w.plan) where
    -- a commit that answers no timestamp hands out no job
    no_job : (old new : Standing P) (h : List Event) (job : SecondaryJob P) → TransactionGives w old.options.retry_options old.start old.contents new.commits h (Ok (answer.Committed None (Some job))) → ⊥
    no_job old new h job (inl (parts, whole, stands)) = stands
    no_job old new h job (inr (none, nothing)) = elim nothing [ inl e ↦ (cc) | inr e ↦ (cc) ]

    stand_arises : (told : Told) (plans : ℕ → Plan) (askers : Ticket → List ℕ) (line c d m n : ℕ) (old new : Standing P) (from to : Posted) (later : List Event) (answer : Option (Answer P)) → IsRun plans later → IfSome answer (IsAnswerOf (HasBegun c m)) → KeepsPlan old new from to
        → CallStands w told old new answer later → AnswerArises w (TurnsBack told new) askers line (row.Begun d new n) answer later
    stand_arises told plans askers line c d m n old new from to later None run kind keeps stands = tt
    stand_arises told plans askers line c d m n old new from to later (Some (answers.Asked v)) run kind keeps stands = absurd kind
    stand_arises told plans askers line c d m n old new from to later (Some (answers.Called (Ok (answer.Committed (Some t) job)))) run kind keeps stands = stand_commits w p d n old new from to later t job keeps stands.0 stands.1
    stand_arises told plans askers line c d m n old new from to later (Some (answers.Called (Ok (answer.Committed None (Some job))))) run kind keeps stands = no_job old new later job stands.1
    stand_arises told plans askers line c d m n old new from to later (Some (answers.Called (Ok (answer.Committed None None)))) run kind keeps stands = stand_unlocks w p d n old new from to later keeps stands.0 stands.1
    stand_arises told plans askers line c d m n old new from to later (Some (answers.Called (Err e))) run kind keeps stands = settled_speaks plans later d n new (TurnsBack told new) e run stands
    stand_arises told plans askers line c d m n old new from to later (Some (answers.Called v)) run kind keeps stands = tt

    module _ (s t : Clients P) (told : Told) (line client at : ℕ) (to : Posted) (said : Option (Answer P)) (ps qs : List Posting) (es fs : List Ending) (inside : at < length (rows_of s)) (is : IsLine (stands_of (rows_of s)) line)
        (posted : qs ≡ ps ++ postings_of line to.sends) (ended : fs ≡ es) (stamped : IfSome said (IsToldIn told))
        (askers : Ticket → List ℕ) (rest : List Answered_to) (h : List Event) (r : Request) (may : CanCome told (outbox_of line) r h) (a : Arisen w s askers (pends_answer line told rest) h) (voiced : voice_at (rows_of s) at ≡ line) where
      abbrev from : Posted
      from = posted_at (nexts_of s) (asks_of s) line

      abbrev hear : List Event
      hear = (told_of told from r).hear h

      abbrev later : List Event
      later = after line false hear to.sends

      abbrev Goal : Type 0
      Goal = Leads w askers rest ps qs es fs (heard_by s) s t (seen ((told_of told (outbox_of line) r).hear h)) h (AnswerArises w (TurnsRow told (row_at (rows_of t) at)) askers line (row_at (rows_of t) at) said)

      now : Arisen w s askers rest hear
      now = heard w p told s askers rest line (nexts_of s) (asks_of s) r h may a

      known : (told_of told from r).known h
      known = known_of w told s askers rest line (nexts_of s) (asks_of s) r h may a

      within : Within h hear
      within = (told_of told from r).within h

      before : (old : Row P) → row_at (rows_of s) at ≡ old → RowFits w (rows_of s) from h old
      before old e = subst (RowFits w (rows_of s) from h) e (subst (λ n. RowFits w (rows_of s) (posted_at (nexts_of s) (asks_of s) n) h (row_at (rows_of s) at)) voiced (a.rows at))

      led : (new : Row P) → Handed s t line client at (set (rows_of s) at new) to → voice at (stand_of new) ≡ line → (to.line ≡ line) × (to.beat ≡ false) → Rises w (rows_of s) line at new to hear
          → (Arisen w t askers rest later → AnswerArises w (TurnsRow told new) askers line new said later) → Goal
      led new handed voices own rises then = subst (λ g. Leads w askers rest ps qs es fs (heard_by s) s t (seen g) h (AnswerArises w (TurnsRow told (row_at (rows_of t) at)) askers line (row_at (rows_of t) at) said)) (hear_same told line (nexts_of s) (asks_of s) r h)
          (leads_now w s t line client at new to hear inside handed rises voices own (AnswerArises w (TurnsRow told (row_at (rows_of t) at)) askers line (row_at (rows_of t) at) said) askers rest h ps qs es fs posted ended within now
          (λ x. subst (λ y. AnswerArises w (TurnsRow told y) askers line y said later) (sym (ap (λ rs. row_at rs at) handed.rows ∙ or_same (rows_of s) at new row.Plain inside)) (then x)))

      voices_of : (old new : Row P) → row_at (rows_of s) at ≡ old → stand_of new ≡ stand_of old → voice at (stand_of new) ≡ line
      voices_of old new e stand = ap (voice at) stand ∙ ap (λ x. voice at (stand_of x)) (sym e) ∙ voiced

      led_asking : (c d : ℕ) (b e : Bool) (old new : ClientCall Pd P) → row_at (rows_of s) at ≡ row.Asking c b old → RowMoves w told (row.Asking c b old) (row.Asking d e new) from to said → stand_of {P = P} (row.Asking d e new) ≡ stand_of {P = P} (row.Asking c b old)
          → IfSome said (IsAnswerOf (Asking c b)) → Handed s t line client at (set (rows_of s) at (row.Asking d e new)) to → Goal
      led_asking c d b e old new at_old moves stand kind handed =
          let m = moves r in
          let was : IsAt old.stage from h × (told_of told from r).known h = (before (row.Asking c b old) at_old, known) in
          led (row.Asking d e new) handed (voices_of (row.Asking c b old) (row.Asking d e new) at_old stand) (m.line, m.beat)
          (asking_rises w p (rows_of s) line at c d b e old new to hear at_old (subst (λ xs. Licensed MayAsk line false hear xs) (sym m.pushed) (m.licensed h was)) (subst (λ xs. IsAt new.stage to (after line false hear xs)) (sym m.pushed) (m.still h was)))
          (λ x. asking_arises (TurnsRow told (row.Asking d e new)) told s askers rest line c b h later (row.Asking d e new) said kind stamped (Within-trans h hear later within (Within-after line false hear to.sends)) a)

      led_stand : (c d m n : ℕ) (old new : Standing P) → row_at (rows_of s) at ≡ row.Begun c old m → StandMoves w told old new from to said → stand_of (row.Begun d new n) ≡ stand_of (row.Begun c old m)
          → IfSome said (IsAnswerOf (HasBegun c m)) → Handed s t line client at (set (rows_of s) at (row.Begun d new n)) to → Goal
      led_stand c d m n old new at_old moves stand kind handed =
          let x = moves.moves r in
          let was : StandFits w old from h × (told_of told from r).known h = (before (row.Begun c old m) at_old, known) in
          let fits = subst (λ xs. StandFits w new to (after line false hear xs)) (sym x.pushed) (x.still h was) in
          led (row.Begun d new n) handed (voices_of (row.Begun c old m) (row.Begun d new n) at_old stand) (x.line, x.beat)
          (stand_rises w p (rows_of s) line at c d m n old new from to hear inside now.apart at_old refl moves.keeps (subst (λ xs. Licensed (MaySendFor old.contents (version_of old.start)) line false hear xs) (sym x.pushed) (x.licensed h was)) fits)
          (λ y. stand_arises told (plans_in (rows_of t)) askers line c d m n old new from to later said (some_run w t askers rest later y) kind moves.keeps (subst (λ xs. CallStands w told old new said (after line false hear xs)) (sym x.pushed) (x.stands h was)))

      led_working : (c d : ℕ) (old new : SecondaryJob P) → row_at (rows_of s) at ≡ row.Working c old → JobMoves w.plan w.uncommitted told old new from to → stand_of {P = P} (row.Working d new) ≡ stand_of {P = P} (row.Working c old)
          → IfSome said (IsAnswerOf (Working c)) → Handed s t line client at (set (rows_of s) at (row.Working d new)) to → Goal
      led_working c d old new at_old moves stand kind handed =
          let behind = before (row.Working c old) at_old in
          let job = has_job w p old from h (row_at (rows_of s) behind.0) behind.1 in
          let x = moves.moves (plan_of job.parts) job.parts.secondaries r in
          let was : JobFits w.plan w.uncommitted (plan_of job.parts) job.parts.secondaries old from h × (told_of told from r).known h = (job.fits, known) in
          led (row.Working d new) handed (voices_of (row.Working c old) (row.Working d new) at_old stand) (x.line, x.beat)
          (working_rises w p (rows_of s) line at c d behind.0 old new from to h hear inside now.apart at_old job moves.start
          (subst (λ xs. Licensed (MaySendBehind (plan_of job.parts) (version_of old.start)) line false hear xs) (sym x.pushed) (x.licensed h was))
          (subst (λ xs. JobFits w.plan w.uncommitted (plan_of job.parts) job.parts.secondaries new to (after line false hear xs)) (sym x.pushed) (x.still h was)))
          (λ y. working_arises (TurnsRow {P = P} told (row.Working d new)) askers line c later (row.Working d new) said kind)

      silent : (old : Row P) → row_at (rows_of s) at ≡ old → voice at (stand_of old) ≡ 0 → Goal
      silent old e none = absurd (let one = is.first in let v : voice at (stand_of old) ≡ line = ap (λ x. voice at (stand_of x)) (sym e) ∙ voiced in omega (arith, one, v, none))

      led_row : (old new : Row P) → row_at (rows_of s) at ≡ old → RowMoves w told old new from to said → stand_of new ≡ stand_of old → IfSome said (IsAnswerOf (stand_of old)) → Handed s t line client at (set (rows_of s) at new) to → Goal
      led_row row.Plain new e moves stand kind handed = silent row.Plain e refl
      led_row (row.Client c) new e moves stand kind handed = silent (row.Client c) e refl
      led_row (row.Asking c b old) (row.Asking d f new) e moves stand kind handed = led_asking c d b f old new e moves stand kind handed
      led_row (row.Asking c b old) new e moves stand kind handed = absurd (cc)
      led_row (row.Begun c old m) (row.Begun d new n) e moves stand kind handed = led_stand c d m n old new e moves stand kind handed
      led_row (row.Begun c old m) new e moves stand kind handed = absurd (cc)
      led_row (row.Calling c x b) new e moves stand kind handed = silent (row.Calling c x b) e refl
      led_row (row.Past c) new e moves stand kind handed = silent (row.Past c) e refl
      led_row (row.Working c old) (row.Working d new) e moves stand kind handed = led_working c d old new e moves stand kind handed
      led_row (row.Working c old) new e moves stand kind handed = absurd (cc)

    pub pushes : (s m u t : Clients P) (told : Told) (line client at : ℕ) (to : Posted) (said : Option (Answer P)) (sends : List Errand) (ps qs : List Posting) (es fs : List Ending)
        → at < length (rows_of s) → IsLine (stands_of (rows_of s)) line → sends ≡ to.sends → Posts (posted_at (nexts_of s) (asks_of s) line) to
        → TellsRow w told at s m (posted_at (nexts_of s) (asks_of s) line) to said → MovesRow w told at s m (posted_at (nexts_of s) (asks_of s) line) to said → nexts_of m ≡ nexts_of s
        → IfSome said (IsToldIn told) → IfSome said (IsAnswerOf (stand_of (row_at (rows_of s) at)))
        → HandsOn line client sends [] ps qs m u → HandsAll line client sends [] ps qs m u → rows_of u ≡ rows_of m
        → rows_of t ≡ rows_of u → nexts_of t ≡ nexts_of u → asks_of t ≡ set (asks_of u) (line - 1) to.next_ask → t.clients ≡ u.clients → fs ≡ es
        → LeadsPushed w told line at client said ps qs es fs s t
    pushes s m u t told line client at to said sends ps qs es fs inside is sent posts tells moves nexts_m stamped kind hands all rows_u rows_t nexts_t asks_t clients_t ended askers rest h r heard may a =
        let handed = handed_so w s m u t told line client at moves.row to said sends ps qs is sent posts tells moves.rows nexts_m hands all rows_u rows_t nexts_t asks_t clients_t in
        led_row s t told line client at to said ps qs es fs inside is handed.1 ended stamped askers rest h r may a (ap (voice at) (sym (stand_read (rows_of s) at)) ∙ heard.voiced)
        (row_at (rows_of s) at) moves.row refl moves.moves moves.stand kind handed.0

    -- the same, from an outbox of the line
    pub pushes_from : (s m u t : Clients P) (told : Told) (line client at : ℕ) (first to : Posted) (said : Option (Answer P)) (sends : List Errand) (ps qs : List Posting) (es fs : List Ending)
        → at < length (rows_of s) → IsLine (stands_of (rows_of s)) line → first ≡ posted_at (nexts_of s) (asks_of s) line → sends ≡ to.sends → Posts first to
        → TellsRow w told at s m first to said → MovesRow w told at s m first to said → nexts_of m ≡ nexts_of s
        → IfSome said (IsToldIn told) → IfSome said (IsAnswerOf (stand_of (row_at (rows_of s) at)))
        → HandsOn line client sends [] ps qs m u → HandsAll line client sends [] ps qs m u → rows_of u ≡ rows_of m
        → rows_of t ≡ rows_of u → nexts_of t ≡ nexts_of u → asks_of t ≡ set (asks_of u) (line - 1) to.next_ask → t.clients ≡ u.clients → fs ≡ es
        → LeadsPushed w told line at client said ps qs es fs s t
    pushes_from s m u t told line client at first to said sends ps qs es fs inside is begins sent posts tells moves =
        pushes s m u t told line client at to said sends ps qs es fs inside is sent (subst (λ o. Posts o to) begins posts) (subst (λ o. TellsRow w told at s m o to said) begins tells) (subst (λ o. MovesRow w told at s m o to said) begins moves)

    -- a job begins
    pub job_leads : (s t : Clients P) (line client c : ℕ) (said : Option (Answer P)) (ps qs : List Posting) (es fs : List Ending) → IsLine (stands_of (rows_of s)) line → stand_of (row_at (rows_of s) (line - 1)) ≡ Working c
        → LeadsPushed w tells.Start line (line - 1) client said ps qs es fs s t → client_at (stand_at (stands_of (rows_of s)) line) ≡ Some client → LeadsEnded w (λ askers h. ⊤) ps qs es fs s t
    job_leads s t line client c said ps qs es fs is job pushed own askers rest h came a =
        leads_weaker w askers rest ps qs es fs (heard_by s) s t (seen h) h (AnswerArises w (TurnsRow tells.Start (row_at (rows_of t) (line - 1))) askers line (row_at (rows_of t) (line - 1)) said) Anyhow (λ g x. tt)
        (pushed askers rest h members (job_heard (rows_of s) line client c is own job) tt a)
