-- The groups of asks that go out and are over, in the one history of a run.
use Rattle.std.proofs.Common.{◌≡◌, ◌≢◌, ◌⊎◌, inl, inr, ℕ, suc, ◌<◌, ◌≤◌, Bool, true, false, cond, List, [], ◌∷◌, ◌++◌, length, map, get_or, set, Option, Some, None, refl, sym, ap, ◌∙◌, subst, arith, append-nil}
use Rattle.std.proofs.lemmas.List.Elements.{All-head, All-tail}
use Rattle.std.specs.List.{All}
use Rattle.std.specs.Prelude.{Result, Ok, Err}
use Rattle.txn_kv.specs.Timestamp.{version_of}
use Rattle.txn_kv.specs.declared.errors.Error.{Error}
use Rattle.txn_kv.specs.declared.reply.Reply.{Reply}
use Rattle.txn_kv.specs.declared.reply.Reply.TheVariants as replies
use Rattle.txn_kv.specs.declared.reply.cluster.TsoResponse.{TsoResponse}
use Rattle.txn_kv.specs.declared.request.Request.{Request}
use Rattle.txn_kv.specs.declared.request.Request.TheVariants.{Tso}
use Rattle.txn_kv.specs.declared.request.cluster.TsoRequest.{TsoRequest}
use Rattle.txn_kv.specs.declared.ticket.Target.TheVariants.{Placement}
use Rattle.txn_kv.specs.declared.ticket.Ticket.{Ticket}
use Rattle.txn_kv.specs.declared.timestamp.Timestamp.{Timestamp}
use Rattle.txn_history.specs.Among.{IsAmong}
use Rattle.txn_history.specs.Event.{Event, Has, same_ticket}
use Rattle.txn_history.specs.Event.Event.{Answered as Told, Asked, Lost, Sent, Took}
use Rattle.txn_history.specs.Later.{IsLater}
use Rattle.txn_history.specs.Meaning.{IsLawful, Meaning}
use Rattle.txn_history.specs.Plan.{Key, Plan}
use Rattle.txn_history.specs.Posted.{Posted, Within, Within-one}
use Rattle.txn_law.specs.Run.{IsPossible, IsRun, IsUnused}
use Rattle.txn_law.proofs.Among.{map_among}
use Rattle.txn_law.proofs.Kept.{kept}
use Rattle.txn_law.proofs.Tickets.{sent_once, ticket_is, ticket_itself}
use Rattle.txn_commit.specs.Ways.{Ways}
use Rattle.txn_merge.specs.declared.retry_options.RetryOptions.{RetryOptions}
use Rattle.txn_commit.specs.Jobs.{JobFits, others-lawful}
use Rattle.txn_commit.specs.Sending.{plan_of}
use Rattle.txn_commit.specs.declared.secondary_job.SecondaryJob.{SecondaryJob}
use Rattle.txn_core.specs.Others.{IsBeside}
use Rattle.txn_core.proofs.Others.{adds_event, others_fit}
use Rattle.txn_client.specs.Calls.{called-lawful}
use Rattle.txn_side.specs.Doubt.{CallOf}
use Rattle.txn_side.specs.Sight.{Goes, LineGoes, next_at, stand_at}
use Rattle.txn_side.specs.declared.turn.Ending.{Ending}
use Rattle.txn_side.specs.declared.turn.Posting.{Posting}
use Rattle.txn_side.specs.declared.turn.Posting.TheVariants as postings
use Rattle.txn_trace.specs.Answering.{AreAnswerable, GroupFits, OracleFits, ask_of}
use Rattle.txn_trace.specs.Drawing.{IsDrawn}
use Rattle.txn_trace.specs.Posting.{IsFreshFor, PostsNothing, SendsNothing}
use Rattle.txn_trace.specs.Seeing.{seen}
use Rattle.txn_trace.proofs.Drawn.{answer_drawn, draw_longer}
use Rattle.txn_trace.proofs.Fitting.{fits_ended, fits_more, fits_sent, out_asked}
use Rattle.txn_trace.proofs.Growing.{unsent_runs}
use Rattle.txn_trace.proofs.Lines.{fresh_higher, fresh_on, fresh_quiet, sent_ticket}
use Rattle.txn_trace.proofs.Timing.{taken_answerable}
use Rattle.txn_tso.specs.Oracle.{Answer, Oracle, answered, answers, askers_out, group_or_none}
use Rattle.txn_tso.specs.declared.asker.Asker.{Asker}
use Rattle.txn_clients.specs.Arising.{Anyhow, Arisen, GroupsNext, HasStart, HavePlans, IsBehind, Leads, LeadsGiven, LeadsGroup, LeadsSent, PostsGroup, RowFits, heard_by, oracle_of, ticket_or}
use Rattle.txn_clients.specs.Clients.{crashed_of, nexts_of, row_at, rows_of, sight_of, stands_of}
use Rattle.txn_clients.specs.First.{first_front}
use Rattle.txn_clients.specs.Groups.{IsError, IsRefused, over_by}
use Rattle.txn_clients.specs.Rows.{Pd}
use Rattle.txn_clients.specs.Waiting.{Book, IsRisen, SendsGroup, Takes, asks_of, blank, book_at, book_of, posted_at, voice_at}
use Rattle.txn_clients.specs.declared.client_state.ClientState.{ClientState}
use Rattle.txn_clients.specs.declared.clients.Clients.{Clients}
use Rattle.txn_clients.specs.declared.row.Row.{Row}
use Rattle.txn_clients.specs.declared.row.Row.TheVariants as row
use Rattle.txn_clients.proofs.Chaining.{ends_none, ended_some, heard_once, heard_same, kept_rows, leads_at, leads_from, leads_then}
use Rattle.txn_clients.proofs.Grouping.{book_put, book_there}
use Rattle.txn_clients.specs.Growing.{plans_in, some_run}
use Rattle.txn_clients.proofs.Sounding.{le_of}
use Rattle.txn_clients.proofs.Stands.{same_line}
use Rattle.txn_clients.proofs.Timestamps.{among_so, none_some, some_same}

-- What those are told who asked

-- it was drawn, and may be told now
pub record AreTold (askers : Ticket → List ℕ) (given : List Answer) (h : List Event) : Type 0 where
  pub drawn : (a : Asker) (time : Timestamp) → IsAmong given (a, Ok time) → IsDrawn askers h a.line (version_of time)
  pub answerable : AreAnswerable given h

-- no timestamp, but that there is none
refused_now : (h : List Event) (a : Ticket) (v : Result Timestamp Error) → IsError v → Has h (Asked a) → IsPossible h (Told a v)
refused_now h a (Ok t) e asked = absurd e
refused_now h a (Err why) e asked = asked

refused_all : (h : List Event) (given : List Answer) → All IsRefused given → ((a : Answer) → IsAmong given a → Has h (Asked (ask_of a.0))) → AreAnswerable given h
refused_all h [] all asked = tt
refused_all h (a ∷ given) all asked = (refused_now h (ask_of a.0) a.1 (All-head IsRefused a given all) (asked a (inl refl)), refused_all h given (All-tail IsRefused a given all) (λ b i. asked b (inr i)))

pub refused_told : (askers : Ticket → List ℕ) (h : List Event) (given : List Answer) → All IsRefused given → ((a : Answer) → IsAmong given a → Has h (Asked (ask_of a.0))) → AreTold askers given h
refused_told askers h given all asked = record {
  drawn = λ a time i. absurd (among_so IsRefused given (a, Ok time) all i);
  answerable = refused_all h given all asked;
}

-- The request of what is out was sent with its ticket, and the lines of the group are noted for it.
pub record IsNoted (askers : Ticket → List ℕ) (o : Oracle) (u : Ticket) (h : List Event) : Type 0 where
  pub fits : OracleFits o u h
  pub noted : (group : List Asker) → o.out ≡ Some group → askers u ≡ map (λ (a : Asker). a.line) group

-- what its reply answers
pub times_told : (askers : Ticket → List ℕ) (o : Oracle) (u : Ticket) (r : Request) (x : TsoResponse) (h : List Event) → IsNoted askers o u h → ((q : Request) → Has h (Sent u q) → q ≡ r) → AreTold askers (answered x o) (Took u r (replies.Tso x) ∷ h)
times_told askers o u r x h is once = by o.out refl
  where
    with_request : (q : TsoRequest) → Tso q ≡ r → askers u ≡ map (λ (a : Asker). a.line) (askers_out o) → AreTold askers (answered x o) (Took u r (replies.Tso x) ∷ h)
    with_request q e lines = subst (λ y. AreTold askers (answered x o) (Took u y (replies.Tso x) ∷ h)) e (record {
      drawn = λ a time i. answer_drawn askers (Took u (Tso q) (replies.Tso x) ∷ h) o u q x (inl refl) lines a time i;
      answerable = taken_answerable o u (Took u (Tso q) (replies.Tso x) ∷ h) q x (fits_more o u h (Took u (Tso q) (replies.Tso x)) is.fits) (inl refl);
    })

    by : (out : Option (List Asker)) → o.out ≡ out → AreTold askers (answered x o) (Took u r (replies.Tso x) ∷ h)
    by None e = subst (λ out. AreTold askers (answers x (length (group_or_none out)) (group_or_none out)) (Took u r (replies.Tso x) ∷ h)) (sym e) (record { drawn = λ a time i. absurd i; answerable = tt })
    by (Some group) e =
        let sent = subst (λ out. GroupFits out u h) e is.fits.out in
        with_request (record { count = length group }) (once (Tso (record { count = length group })) sent.0) (is.noted group e ∙ ap (λ out. map (λ (a : Asker). a.line) (group_or_none out)) (sym e))

-- a reply with timestamps, or one of another kind
is_times : (x : Reply) → ((times : TsoResponse) × (x ≡ replies.Tso times)) ⊎ ((times : TsoResponse) → x ≡ replies.Tso times → ⊥)
is_times (replies.Tso times) = inl (times, refl)
is_times _ = inr (λ times e. cc)

-- a request that came of something was sent
took_sent : (plans : ℕ → Plan) (h : List Event) (u : Ticket) (r : Request) (x : Reply) → IsRun plans h → IsPossible h (Took u r x) → Has h (Sent u r)
took_sent plans h u r x run (inl served) = (kept plans h run).sent u r x served
took_sent plans h u r x run (inr refused) = ((kept plans h run).refused u r x refused).0

pub taken_sent : (plans : ℕ → Plan) (h : List Event) (u : Ticket) (r : Request) (x : Reply) → IsRun plans h → Has h (Took u r x) → Has h (Sent u r)
taken_sent plans h u r x run taken = took_sent plans h u r x run ((kept plans h run).taken u r x taken)

-- what others post and take changes nothing that a job knows
pub jobs_last : {P B : Type 0} (m : Meaning P (Result B Error)) → IsLawful m → (refuses : RetryOptions → List Event → Error → Type 0) (costs : ℕ → ℕ → ℕ) → ((options : RetryOptions) (h longer : List Event) (e : Error) → Within h longer → refuses options h e → refuses options longer e)
    → (plan : Plan) (keys : List Key) (job : SecondaryJob P) (o p : Posted) (h longer : List Event) → IsLater o p → Within h longer → JobFits m refuses plan keys job o h → JobFits m refuses plan keys job p longer
jobs_last m law refuses costs more plan keys job o p h longer l within f = (others-lawful m law refuses costs plan keys more).fits_longer job o p h longer l within f

-- the lines whose asks a request carries, once it goes out
abbrev pub with_group : Ticket → List ℕ → (Ticket → List ℕ) → Ticket → List ℕ
with_group ticket lines askers u = cond (same_ticket ticket u) lines (askers u)

-- its ticket is the next of its line
pub record IsFirst {P : Type 0} (s t : Clients P) (ticket : Ticket) : Type 0 where
  pub beat : ticket.beat ≡ false
  pub number : ticket.number ≡ next_at (nexts_of s) ticket.line
  pub past : ticket.number < next_at (nexts_of t) ticket.line
  pub risen : IsRisen (nexts_of s) (nexts_of t)

-- One event more

module _ {P : Type 0} (w : Ways P) where
  abbrev pub JobsLast : Type 0
  JobsLast = (plan : Plan) (keys : List Key) (job : SecondaryJob P) (o p : Posted) (h longer : List Event) → IsLater o p → Within h longer → JobFits w.plan w.uncommitted plan keys job o h → JobFits w.plan w.uncommitted plan keys job p longer

  module _ (lawful : IsLawful w.plan) (jobs : JobsLast) where
    behind_on : (job : SecondaryJob P) (o p : Posted) (h longer : List Event) (r : Row P) → IsLater o p → Within h longer → IsBehind w job o h r → IsBehind w job p longer r
    behind_on job o p h longer row.Plain l within f = absurd f
    behind_on job o p h longer (row.Client c) l within f = absurd f
    behind_on job o p h longer (row.Asking c b call) l within f = absurd f
    behind_on job o p h longer (row.Begun c t m) l within f = (f.0, f.1, f.2, f.3, jobs (plan_of f.0) f.0.secondaries job o p h longer l within f.4)
    behind_on job o p h longer (row.Calling c x b) l within f = absurd f
    behind_on job o p h longer (row.Past c) l within f = absurd f
    behind_on job o p h longer (row.Working c other) l within f = absurd f

    -- a row still fits, where no Commit was sent
    pub row_on : (rows : List (Row P)) (o p : Posted) (h : List Event) (e : Event) (r : Row P) → IsLater o p → ((s : ℕ) → IsBeside s e) → RowFits w rows o h r → RowFits w rows p (e ∷ h) r
    row_on rows o p h e row.Plain l beside f = tt
    row_on rows o p h e (row.Client c) l beside f = tt
    row_on rows o p h e (row.Asking c b call) l beside f = (called-lawful {C = Pd} {P = P}).fits_longer call o p h (e ∷ h) l (Within-one e h) f
    row_on rows o p h e (row.Begun c t m) l beside f = (f.0, others_fit w lawful t o p h (e ∷ h) l (adds_event (version_of t.start) e h (beside (version_of t.start))) f.1, f.2, λ parts whole u lost. first_front (version_of t.start) parts.primary h (e ∷ h) u (e ∷ [], refl) (f.3 parts whole u lost))
    row_on rows o p h e (row.Calling c x b) l beside f = tt
    row_on rows o p h e (row.Past c) l beside f = tt
    row_on rows o p h e (row.Working c job) l beside f = (f.0, behind_on job o p h (e ∷ h) (row_at rows f.0) l (Within-one e h) f.1)

    pub rows_on : (s t : Clients P) (h : List Event) (e : Event) → rows_of t ≡ rows_of s → IsRisen (nexts_of s) (nexts_of t) → asks_of t ≡ asks_of s → ((x : ℕ) → IsBeside x e)
        → ((i : ℕ) → RowFits w (rows_of s) (posted_at (nexts_of s) (asks_of s) (voice_at (rows_of s) i)) h (row_at (rows_of s) i))
        → (i : ℕ) → RowFits w (rows_of t) (posted_at (nexts_of t) (asks_of t) (voice_at (rows_of t) i)) (e ∷ h) (row_at (rows_of t) i)
    rows_on s t h e rows up asks beside f i =
        let n = voice_at (rows_of s) i in
        subst (λ rs. RowFits w rs (posted_at (nexts_of t) (asks_of t) (voice_at rs i)) (e ∷ h) (row_at rs i)) (sym rows)
        (row_on (rows_of s) (posted_at (nexts_of s) (asks_of s) n) (posted_at (nexts_of t) (asks_of t) n) h e (row_at (rows_of s) i)
        (record { line = refl; beat = refl; next = up n; next_ask = le_of _ _ (ap (λ ns. next_at ns n) (sym asks)) }) beside (f i))

    -- The same of clients whose oracles, rows and numbers are the same

    pub same_arises : (s t : Clients P) (askers : Ticket → List ℕ) (rest : List Answer) (h : List Event) → rows_of t ≡ rows_of s → nexts_of t ≡ nexts_of s → asks_of t ≡ asks_of s → ((c : ℕ) → book_at t c ≡ book_at s c) → Arisen w s askers rest h → Arisen w t askers rest h
    same_arises s t askers rest h rows nexts asks books f = record {
      run = λ plans have. f.run plans (subst (HavePlans plans) rows have);
      apart = λ i j v a b. f.apart i j v (subst (λ rs. HasStart v (row_at rs i)) rows a) (subst (λ rs. HasStart v (row_at rs j)) rows b);
      rows = λ i.
          subst (λ rs. RowFits w rs (posted_at (nexts_of t) (asks_of t) (voice_at rs i)) h (row_at rs i)) (sym rows)
          (subst (λ ns. RowFits w (rows_of s) (posted_at ns (asks_of t) (voice_at (rows_of s) i)) h (row_at (rows_of s) i)) (sym nexts)
          (subst (λ ns. RowFits w (rows_of s) (posted_at (nexts_of s) ns (voice_at (rows_of s) i)) h (row_at (rows_of s) i)) (sym asks) (f.rows i)));
      oracles = λ c. subst (λ (b : Book). OracleFits (oracle_of b) (ticket_or b.ticket) h) (sym (books c)) (f.oracles c);
      fresh = λ n. subst (λ ns. IsFreshFor n false (next_at ns n) (next_at (asks_of t) n) h) (sym nexts) (subst (λ ns. IsFreshFor n false (next_at (nexts_of s) n) (next_at ns n) h) (sym asks) (f.fresh n));
      draws = record {
        starts = λ i v a. f.draws.starts i v (subst (λ rs. HasStart v (row_at rs i)) rows a);
        groups = λ c u group ticket out. f.draws.groups c u group (ap (λ (b : Book). b.ticket) (sym (books c)) ∙ ticket) (ap (λ (b : Book). b.out) (sym (books c)) ∙ out);
        given = f.draws.given;
      };
      answerable = f.answerable;
      owned = λ u r sent. let g = f.owned u r sent in (g.0, subst (λ rs. HasStart r.start_version (row_at rs g.0)) (sym rows) g.1);
      optimistic = f.optimistic;
    }

    -- A request for timestamps is over: its reply was taken, or it was lost.

    pub over_arises : (s t : Clients P) (client : ℕ) (given : List Answer) (askers : Ticket → List ℕ) (h : List Event) (e : Event) → Takes client given s t → rows_of t ≡ rows_of s → nexts_of t ≡ nexts_of s
        → SendsNothing e → PostsNothing e → ((x : ℕ) → IsBeside x e) → IsPossible h e → AreTold askers given (e ∷ h) → Arisen w s askers [] h → Arisen w t askers given (e ∷ h)
    over_arises s t client given askers h e takes rows nexts sends posts beside possible told f = record {
      run = λ plans have. unsent_runs plans h (f.run plans (subst (HavePlans plans) rows have)) e sends possible;
      apart = λ i j v a b. f.apart i j v (subst (λ rs. HasStart v (row_at rs i)) rows a) (subst (λ rs. HasStart v (row_at rs j)) rows b);
      rows = rows_on s t h e rows (λ n. le_of _ _ (ap (λ ns. next_at ns n) (sym nexts))) takes.asks beside f.rows;
      oracles = λ c. fits c (same_line client c);
      fresh = λ n.
          subst (λ ns. IsFreshFor n false (next_at ns n) (next_at (asks_of t) n) (e ∷ h)) (sym nexts)
          (subst (λ ns. IsFreshFor n false (next_at (nexts_of s) n) (next_at ns n) (e ∷ h)) (sym takes.asks)
          (fresh_quiet n false h (next_at (nexts_of s) n) (next_at (asks_of s) n) e posts (f.fresh n)));
      draws = record {
        starts = λ i v a. draw_longer askers askers h (e ∷ h) (suc i) v (Within-one e h) (λ u r o k. refl) (f.draws.starts i v (subst (λ rs. HasStart v (row_at rs i)) rows a));
        groups = λ c u group ticket out. noted c u group ticket out (same_line client c);
        given = told.drawn;
      };
      answerable = told.answerable;
      owned = λ u r sent. elim sent [
        | inl same ↦ absurd (subst SendsNothing same sends)
        | inr was ↦ let g = f.owned u r was in (g.0, subst (λ rs. HasStart r.start_version (row_at rs g.0)) (sym rows) g.1)
      ];
      optimistic = λ u r sent. elim sent [ inl same ↦ subst SendsNothing same sends | inr was ↦ f.optimistic u r was ];
    }
      where
        fits : (c : ℕ) → (c ≡ client) ⊎ (c ≢ client) → OracleFits (oracle_of (book_at t c)) (ticket_or (book_at t c).ticket) (e ∷ h)
        fits c (inl same) = subst (λ i. OracleFits (oracle_of (book_at t i)) (ticket_or (book_at t i).ticket) (e ∷ h)) (sym same)
            (subst (λ (b : Book). OracleFits (oracle_of b) (ticket_or b.ticket) (e ∷ h)) (sym takes.book)
            (fits_more (record (oracle_of (book_at s client)) { out = None }) (ticket_or None) h e (fits_ended (oracle_of (book_at s client)) (ticket_or (book_at s client).ticket) (ticket_or None) h (f.oracles client))))
        fits c (inr apart) = subst (λ (b : Book). OracleFits (oracle_of b) (ticket_or b.ticket) (e ∷ h)) (sym (takes.books c apart)) (fits_more (oracle_of (book_at s c)) (ticket_or (book_at s c).ticket) h e (f.oracles c))

        noted : (c : ℕ) (u : Ticket) (group : List Asker) → (book_at t c).ticket ≡ Some u → (book_at t c).out ≡ Some group → (c ≡ client) ⊎ (c ≢ client) → askers u ≡ map (λ (a : Asker). a.line) group
        noted c u group ticket out (inl same) = absurd (two (sym (ap (λ i. (book_at t i).ticket) same ∙ ap (λ (b : Book). b.ticket) takes.book) ∙ ticket))
          where
            two : None ≡ Some u → ⊥
            two x = cc
        noted c u group ticket out (inr apart) = f.draws.groups c u group (ap (λ (b : Book). b.ticket) (sym (takes.books c apart)) ∙ ticket) (ap (λ (b : Book). b.out) (sym (takes.books c apart)) ∙ out)

    -- and then those are told who asked
    over_leads : (s m t : Clients P) (client : ℕ) (given : List Answer) (askers : Ticket → List ℕ) (h : List Event) (e : Event) (ps qs : List Posting) (es fs : List Ending) → Takes client given s m → rows_of m ≡ rows_of s → nexts_of m ≡ nexts_of s
        → SendsNothing e → PostsNothing e → ((x : ℕ) → IsBeside x e) → seen (e ∷ h) ≡ e ∷ seen h → IsPossible h e → AreTold askers given (e ∷ h) → LeadsGiven w given ps qs es fs m t → Arisen w s askers [] h
        → Leads w askers [] ps qs es fs (heard_by s) s t (e ∷ seen h) h Anyhow
    over_leads s m t client given askers h e ps qs es fs takes rows nexts sends posts beside shows possible told give f =
        subst (λ shown. Leads w askers [] ps qs es fs (heard_by s) s t shown h Anyhow) shows
        (leads_from w askers [] ps qs es fs (heard_by s) s m t (seen (e ∷ h)) h (e ∷ h) Anyhow Anyhow (Within-one e h) (kept_rows (rows_of s) (rows_of m) rows) (λ later x. x)
        (leads_at w askers [] ps qs es fs (heard_by s) (heard_by m) m t (seen (e ∷ h)) (e ∷ h) Anyhow
        (give askers (e ∷ h) (over_arises s m client given askers h e takes rows nexts sends posts beside possible told f))
        (λ x i. heard_same s m (ap stands_of rows) x.line)))

    is_noted : (s : Clients P) (client : ℕ) (askers : Ticket → List ℕ) (h : List Event) (u : Ticket) → (book_at s client).ticket ≡ Some u → Arisen w s askers [] h → IsNoted askers (oracle_of (book_at s client)) u h
    is_noted s client askers h u ticket f = record {
      fits = subst (λ o. OracleFits (oracle_of (book_at s client)) (ticket_or o) h) ticket (f.oracles client);
      noted = λ group out. f.draws.groups client u group ticket out;
    }

    -- each that is told something asked
    told_asked : (s m : Clients P) (client : ℕ) (given : List Answer) (u : Ticket) (h : List Event) → Takes client given s m → OracleFits (oracle_of (book_at s client)) u h → (a : Answer) → IsAmong given a → Has h (Asked (ask_of a.0))
    told_asked s m client given u h takes fits a i = out_asked (oracle_of (book_at s client)) u h fits a.0 (subst (λ xs. IsAmong xs a.0) takes.askers (map_among (λ (b : Answer). b.0) given a i))

    -- its reply was taken
    taken_leads : (s m t : Clients P) (client : ℕ) (x : Reply) (given : List Answer) (ps qs : List Posting) (es fs : List Ending) → Takes client given s m → rows_of m ≡ rows_of s → nexts_of m ≡ nexts_of s
        → ((times : TsoResponse) → x ≡ replies.Tso times → given ≡ answered times (oracle_of (book_at s client))) → (((times : TsoResponse) → x ≡ replies.Tso times → ⊥) → All IsRefused given)
        → LeadsGiven w given ps qs es fs m t → LeadsGroup w client (λ u r. Took u r x) ps qs es fs s t
    taken_leads s m t client x given ps qs es fs takes rows nexts granted refused give askers h u r ticket possible f =
        over_leads s m t client given askers h (Took u r x) ps qs es fs takes rows nexts tt tt (λ y. tt) refl possible (told (is_times x)) give f
      where
        noted : IsNoted askers (oracle_of (book_at s client)) u h
        noted = is_noted s client askers h u ticket f

        run : IsRun (plans_in (rows_of s)) h
        run = some_run w s askers [] h f

        once : (q : Request) → Has h (Sent u q) → q ≡ r
        once q sent = sent_once (plans_in (rows_of s)) h run u q r sent (took_sent (plans_in (rows_of s)) h u r x run possible)

        told : ((times : TsoResponse) × (x ≡ replies.Tso times)) ⊎ ((times : TsoResponse) → x ≡ replies.Tso times → ⊥) → AreTold askers given (Took u r x ∷ h)
        told (inl (times, e)) = subst (λ y. AreTold askers given (Took u r y ∷ h)) (sym e) (subst (λ gs. AreTold askers gs (Took u r (replies.Tso times) ∷ h)) (sym (granted times e)) (times_told askers (oracle_of (book_at s client)) u r times h noted once))
        told (inr other) = refused_told askers (Took u r x ∷ h) given (refused other) (λ a i. inr (told_asked s m client given u h takes noted.fits a i))

    -- it was lost
    lost_leads : (s m t : Clients P) (client : ℕ) (given : List Answer) (ps qs : List Posting) (es fs : List Ending) → Takes client given s m → rows_of m ≡ rows_of s → nexts_of m ≡ nexts_of s → All IsRefused given
        → LeadsGiven w given ps qs es fs m t → LeadsGroup w client (λ u r. Lost u r) ps qs es fs s t
    lost_leads s m t client given ps qs es fs takes rows nexts refused give askers h u r ticket possible f =
        over_leads s m t client given askers h (Lost u r) ps qs es fs takes rows nexts tt tt (λ y. tt) refl possible
        (refused_told askers (Lost u r ∷ h) given refused (λ a i. inr (told_asked s m client given u h takes (is_noted s client askers h u ticket f).fits a i))) give f

    pub come_leads : (s m t : Clients P) (client : ℕ) (x : Option Reply) (given : List Answer) (ps qs : List Posting) (es fs : List Ending) → Takes client given s m → rows_of m ≡ rows_of s → nexts_of m ≡ nexts_of s
        → ((times : TsoResponse) → x ≡ Some (replies.Tso times) → given ≡ answered times (oracle_of (book_at s client))) → (((times : TsoResponse) → x ≡ Some (replies.Tso times) → ⊥) → All IsRefused given)
        → LeadsGiven w given ps qs es fs m t → LeadsGroup w client (over_by x) ps qs es fs s t
    come_leads s m t client (Some o) given ps qs es fs takes rows nexts granted refused give = taken_leads s m t client o given ps qs es fs takes rows nexts (λ times e. granted times (ap Some e)) (λ f. refused (λ times e. f times (some_same e))) give
    come_leads s m t client None given ps qs es fs takes rows nexts granted refused give = lost_leads s m t client given ps qs es fs takes rows nexts (refused (λ times e. none_some e)) give

    -- The next group goes out.

    first_unused : (s t : Clients P) (askers : Ticket → List ℕ) (rest : List Answer) (h : List Event) (ticket : Ticket) → IsFirst s t ticket → Arisen w s askers rest h → IsUnused h ticket
    first_unused s t askers rest h ticket is f r sent = let low = (f.fresh ticket.line).sent ticket r sent (refl, is.beat) in let own = is.number in omega (arith, low, own)

    first_fresh : (s t : Clients P) (askers : Ticket → List ℕ) (rest : List Answer) (h : List Event) (ticket : Ticket) (r : Request) → IsFirst s t ticket → asks_of t ≡ asks_of s → Arisen w s askers rest h
        → (n : ℕ) → IsFreshFor n false (next_at (nexts_of t) n) (next_at (asks_of t) n) (Sent ticket r ∷ h)
    first_fresh s t askers rest h ticket r is asks f n = fresh_on n false (next_at (nexts_of t) n) (next_at (asks_of t) n) (Sent ticket r) h
        (λ u q e of. below u (sent_ticket ticket u r q e) of.0)
        (λ u ms e of. absurd (cc))
        (λ u e of. absurd (cc))
        (fresh_higher n false h (next_at (nexts_of s) n) (next_at (asks_of s) n) (next_at (nexts_of t) n) (next_at (asks_of t) n) (is.risen n) (le_of _ _ (ap (λ ns. next_at ns n) (sym asks))) (f.fresh n))
      where
        below : (u : Ticket) → ticket ≡ u → u.line ≡ n → u.number < next_at (nexts_of t) n
        below u e of = subst (λ i. u.number < next_at (nexts_of t) i) of (subst (λ (v : Ticket). v.number < next_at (nexts_of t) v.line) e is.past)

    pub group_arises : (s m t : Clients P) (client : ℕ) (request : TsoRequest) (ticket : Ticket) (lines : List ℕ) (askers : Ticket → List ℕ) (h : List Event) → IsFirst s t ticket → rows_of t ≡ rows_of s → asks_of t ≡ asks_of s
        → GroupsNext (Some request) (book_at s client) (book_at m client) → book_at t client ≡ record (book_at m client) { ticket = Some ticket } → ((c : ℕ) → c ≢ client → book_at t c ≡ book_at s c)
        → lines ≡ map (λ (a : Asker). a.line) (group_or_none (book_at t client).out)
        → Arisen w s askers [] h → Arisen w t (with_group ticket lines askers) [] (Sent ticket (Tso request) ∷ h)
    group_arises s m t client request ticket lines askers h is rows asks next book books noted f = record {
      run = λ plans have. (unused, (tt, tt), f.run plans (subst (HavePlans plans) rows have));
      apart = λ i j v a b. f.apart i j v (subst (λ rs. HasStart v (row_at rs i)) rows a) (subst (λ rs. HasStart v (row_at rs j)) rows b);
      rows = rows_on s t h (Sent ticket (Tso request)) rows is.risen asks (λ x. tt) f.rows;
      oracles = λ c. fits c (same_line client c);
      fresh = first_fresh s t askers [] h ticket (Tso request) is asks f;
      draws = record {
        starts = λ i v a. draw_longer askers (with_group ticket lines askers) h (Sent ticket (Tso request) ∷ h) (suc i) v (Within-one (Sent ticket (Tso request)) h)
            (λ u r o taken. others u (λ same. unused (Tso r) (subst (λ v. Has h (Sent v (Tso r))) (sym same) (taken_sent (plans_in (rows_of s)) h u (Tso r) o (some_run w s askers [] h f) taken))))
            (f.draws.starts i v (subst (λ rs. HasStart v (row_at rs i)) rows a));
        groups = λ c u group named out. lines_of c u group named out (same_line client c);
        given = λ a time i. absurd i;
      };
      answerable = tt;
      owned = λ u r sent. elim sent [
        | inl same ↦ absurd (cc)
        | inr was ↦ let g = f.owned u r was in (g.0, subst (λ rs. HasStart r.start_version (row_at rs g.0)) (sym rows) g.1)
      ];
      optimistic = λ u r sent. elim sent [ inl same ↦ cc | inr was ↦ f.optimistic u r was ];
    }
      where
        unused : IsUnused h ticket
        unused = first_unused s t askers [] h ticket is f

        others : (u : Ticket) → (ticket ≡ u → ⊥) → with_group ticket lines askers u ≡ askers u
        others u apart = by (same_ticket ticket u) refl
          where
            by : (b : Bool) → same_ticket ticket u ≡ b → cond (same_ticket ticket u) lines (askers u) ≡ askers u
            by true e = absurd (apart (ticket_is ticket u e))
            by false e = ap (λ x. cond x lines (askers u)) e

        own : with_group ticket lines askers ticket ≡ lines
        own = ap (λ x. cond x lines (askers ticket)) (ticket_itself ticket)

        fits : (c : ℕ) → (c ≡ client) ⊎ (c ≢ client) → OracleFits (oracle_of (book_at t c)) (ticket_or (book_at t c).ticket) (Sent ticket (Tso request) ∷ h)
        fits c (inl same) = subst (λ i. OracleFits (oracle_of (book_at t i)) (ticket_or (book_at t i).ticket) (Sent ticket (Tso request) ∷ h)) (sym same)
            (subst (λ (b : Book). OracleFits (oracle_of b) (ticket_or b.ticket) (Sent ticket (Tso request) ∷ h)) (sym book)
            (subst (λ o. OracleFits o ticket (Sent ticket (Tso request) ∷ h)) (sym next.oracle)
            (fits_sent (oracle_of (book_at s client)) (ticket_or (book_at s client).ticket) ticket h request next.request_is (f.oracles client))))
        fits c (inr apart) = subst (λ (b : Book). OracleFits (oracle_of b) (ticket_or b.ticket) (Sent ticket (Tso request) ∷ h)) (sym (books c apart)) (fits_more (oracle_of (book_at s c)) (ticket_or (book_at s c).ticket) h (Sent ticket (Tso request)) (f.oracles c))

        sent_of : (o : Oracle) (u : Ticket) (group : List Asker) → o.out ≡ Some group → OracleFits o u h → (r : Request) × Has h (Sent u r)
        sent_of o u group out g = (Tso (record { count = length group }), (subst (λ x. GroupFits x u h) out g.out).0)

        lines_of : (c : ℕ) (u : Ticket) (group : List Asker) → (book_at t c).ticket ≡ Some u → (book_at t c).out ≡ Some group → (c ≡ client) ⊎ (c ≢ client) → with_group ticket lines askers u ≡ map (λ (a : Asker). a.line) group
        lines_of c u group named out (inl same) =
            ap (with_group ticket lines askers) (sym (one (sym (ap (λ i. (book_at t i).ticket) same ∙ ap (λ (b : Book). b.ticket) book) ∙ named))) ∙ own ∙ noted ∙ ap (λ x. map (λ (a : Asker). a.line) (group_or_none x)) (sym (ap (λ i. (book_at t i).out) same) ∙ out)
          where
            one : Some ticket ≡ Some u → ticket ≡ u
            one x = cc
        lines_of c u group named out (inr apart) =
            let ticketed = ap (λ (b : Book). b.ticket) (sym (books c apart)) ∙ named in
            let grouped = ap (λ (b : Book). b.out) (sym (books c apart)) ∙ out in
            let sent = sent_of (oracle_of (book_at s c)) u group grouped (subst (λ o. OracleFits (oracle_of (book_at s c)) (ticket_or o) h) ticketed (f.oracles c)) in
            others u (λ same. unused sent.0 (subst (λ v. Has h (Sent v sent.0)) (sym same) sent.1)) ∙ f.draws.groups c u group ticketed grouped

    -- or none does
    pub none_sends : (s t : Clients P) (client : ℕ) (ps : List Posting) (es : List Ending) (at : ℕ → CallOf) → GroupsNext None (book_at s client) (book_at t client) → ((c : ℕ) → c ≢ client → book_at t c ≡ book_at s c)
        → rows_of t ≡ rows_of s → nexts_of t ≡ nexts_of s → asks_of t ≡ asks_of s → LeadsSent w ps ps es es at s t
    none_sends s t client ps es at next books rows nexts asks askers h f = (
      askers,
      record {
        later = h;
        more = [];
        posted = sym (append-nil ps);
        shows = refl;
        within = λ e i. i;
        arisen = same_arises s t askers [] h rows nexts asks (λ c. same c (same_line client c)) f;
        kept = kept_rows (rows_of s) (rows_of t) rows;
        ends = ends_none at t h es es refl;
        then = tt;
      },
    )
      where
        same : (c : ℕ) → (c ≡ client) ⊎ (c ≢ client) → book_at t c ≡ book_at s c
        same c (inl e) = ap (book_at t) e ∙ next.none refl ∙ ap (book_at s) (sym e)
        same c (inr apart) = books c apart

    pub group_sends : (s m t : Clients P) (client : ℕ) (request : TsoRequest) (lines : List ℕ) (ps qs : List Posting) (es fs : List Ending) (at : ℕ → CallOf) → GroupsNext (Some request) (book_at s client) (book_at m client) → ((c : ℕ) → c ≢ client → book_at m c ≡ book_at s c)
        → rows_of m ≡ rows_of s → nexts_of m ≡ nexts_of s → asks_of m ≡ asks_of s → SendsGroup client ps qs m t → PostsGroup client request lines ps qs t → rows_of t ≡ rows_of m → fs ≡ es → LeadsSent w ps qs es fs at s t
    group_sends s m t client request lines ps qs es fs at next books rows nexts asks sends posts rows_too ended askers h f =
        let noted = map (λ (a : Asker). a.line) (group_or_none (book_at t client).out) in (
          with_group sends.ticket noted askers,
          record {
            later = Sent sends.ticket (Tso request) ∷ h;
            more = postings.Send sends.ticket Placement (Tso request) lines ∷ [];
            posted = subst (λ u. qs ≡ ps ++ postings.Send u Placement (Tso request) lines ∷ []) (one (sym posts.kept ∙ ap (λ (b : Book). b.ticket) sends.book)) posts.posted;
            shows = refl;
            within = Within-one (Sent sends.ticket (Tso request)) h;
            arisen = group_arises s m t client request sends.ticket noted askers h first (rows_too ∙ rows) (sends.asks ∙ asks) next sends.book (λ c apart. sends.books c apart ∙ books c apart) refl f;
            kept = kept_rows (rows_of s) (rows_of t) (rows_too ∙ rows);
            ends = ends_none at t (Sent sends.ticket (Tso request) ∷ h) es fs ended;
            then = tt;
          },
        )
      where
        one : Some posts.ticket ≡ Some sends.ticket → posts.ticket ≡ sends.ticket
        one x = cc

        first : IsFirst s t sends.ticket
        first = record {
          beat = sends.owned.beat;
          number = sends.number ∙ ap (λ ns. next_at ns sends.ticket.line) nexts;
          past = sends.past;
          risen = λ n. subst (λ ns. next_at ns n ≤ next_at (nexts_of t) n) nexts (sends.nexts n);
        }

-- One of the clients is replaced.

module _ {P : Type 0} where
  pub next_put : (s : Clients P) (client : ℕ) (request : Option TsoRequest) (new d : ClientState) → client < length (crashed_of s) → d ≡ get_or s.clients.items client d
      → GroupsNext request (book_of d) (book_of new) → GroupsNext request (book_at s client) (get_or (map book_of (set s.clients.items client new)) client blank)
  next_put s client request new d h e k =
      subst (λ b. GroupsNext request b (get_or (map book_of (set s.clients.items client new)) client blank)) (sym (book_there s.clients.items client d h e))
      (subst (GroupsNext request (book_of d)) (sym (book_put s.clients.items client new h)) k)

  pub answered_there : (s : Clients P) (client : ℕ) (d : ClientState) (x : Option Reply) (given : List Answer) → client < length (crashed_of s) → d ≡ get_or s.clients.items client d
      → ((times : TsoResponse) → x ≡ Some (replies.Tso times) → given ≡ answered times d.oracle) → (times : TsoResponse) → x ≡ Some (replies.Tso times) → given ≡ answered times (oracle_of (book_at s client))
  answered_there s client d x given h e granted times is = granted times is ∙ ap (λ (b : Book). answered times (oracle_of b)) (sym (book_there s.clients.items client d h e))

-- Those of a group are told their answers, one after another.

-- what led so far, where these answers are left
abbrev pub LeadsGiving : {P : Type 0} → Ways P → List Answer → List Answer → List Posting → List Posting → List Ending → List Ending → Clients P → Clients P → Type 0
LeadsGiving w given left from to ended over s t =
    (askers : Ticket → List ℕ) (h : List Event) → Arisen w s askers given h → Leads w askers left from to ended over (heard_by s) s t (seen h) h Anyhow

pub plain_asker : (a : Asker) → a.beat ≡ false → record { line = a.line; beat = false; ask = a.ask } ≡ a
plain_asker a e = λ i. record { line = a.line; beat = sym e i; ask = a.ask }

module _ {P : Type 0} (w : Ways P) where
  -- where nothing was posted and nothing had ended before them
  pub gives_next : (s m t : Clients P) (askers : Ticket → List ℕ) (rest left : List Answer) (ps qs rs vs : List Posting) (es fs gs : List Ending) (h : List Event) → Goes vs fs (sight_of s) (sight_of m) → Goes rs gs (sight_of s) (sight_of t)
      → (f : Leads w askers rest ps qs es fs (heard_by s) s m (seen h) h Anyhow) → Leads w askers left qs rs fs gs (heard_by m) m t (seen f.later) f.later Anyhow
      → Leads w askers left ps rs es gs (heard_by s) s t (seen h) h Anyhow
  gives_next s m t askers rest left ps qs rs vs es fs gs h before whole f g =
      leads_then w askers askers rest left ps qs rs es fs gs (heard_by s) (heard_by m) s m t (seen h) h Anyhow Anyhow f g
      (λ e i. let some = ended_some g.ends.more e i in heard_once fs g.ends.more e.line (stand_at (stands_of (rows_of s)) e.line) (stand_at (stands_of (rows_of m)) e.line) (stand_at (stands_of (rows_of t)) e.line) some.0 some.1 some.2 (before.lines e.line) (subst (λ xs. LineGoes xs e.line (stand_at (stands_of (rows_of s)) e.line) (stand_at (stands_of (rows_of t)) e.line)) g.ends.ended (whole.lines e.line)))
