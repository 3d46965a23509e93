-- What holds of clients between the parts of a step, as rows are set and what they want is done.
use Rattle.std.proofs.Common.{◌≡◌, ◌≢◌, ◌⊎◌, inl, inr, ℕ, zero, suc, ◌-◌, ◌<◌, ◌≤◌, true, false, List, [], ◌++◌, length, set, Option, Some, None, refl, sym, ap, ◌∙◌, subst, arith, append-nil}
use Rattle.std.proofs.lemmas.List.{length-map}
use Rattle.std.specs.Prelude.{IfSome}
use Rattle.txn_history.specs.Later.{IsLater}
use Rattle.txn_history.specs.Meaning.{IsLawful}
use Rattle.txn_history.specs.Phase.{Awaited}
use Rattle.txn_history.specs.Phase.{IsPosted as IsErrand}
use Rattle.txn_history.specs.Phase.Awaited.{ReplyTo, EndOf, TimeOf}
use Rattle.txn_history.specs.Posted.{Errand, Posted}
use Rattle.txn_kv.specs.declared.arrival.Arrival.TheVariants as arrivals
use Rattle.txn_commit.specs.Ways.{Ways}
use Rattle.txn_core.proofs.Waiting.{standing_posted}
use Rattle.txn_client.specs.Calls.{called-lawful}
use Rattle.txn_kv.specs.declared.ticket.Ticket.{Ticket}
use Rattle.txn_side.specs.Sight.{client_at, lives, next_at, stand_at}
use Rattle.txn_side.specs.declared.turn.Posting.{Posting}
use Rattle.txn_tso.specs.declared.asker.Asker.{Asker}
use Rattle.txn_clients.specs.Clients.{crashed_of, nexts_of, row_at, rows_of, stands_of}
use Rattle.txn_clients.specs.Matching.{AreMatched, IsLine}
use Rattle.txn_clients.specs.Rows.{stand_of}
use Rattle.txn_clients.specs.Waiting.{AreCalled, AreRunning, AreRunningBut, Book, GoesOn, HasAsk, HasAskOut, HearsAt, IsAskedIn, IsDone, IsMet, IsPaired, IsReached, IsRisen, IsSound, Keeps, RowArises, RowGoes, RowRuns, RunsOn, Wants, asks_of, book_at, hears, pends, posted_at, voice, voice_at, wants}
use Rattle.txn_clients.specs.declared.answer.Answer.{Answer}
use Rattle.txn_clients.specs.declared.clients.Clients.{Clients}
use Rattle.txn_clients.specs.declared.place.Place.{Place}
use Rattle.txn_clients.specs.declared.row.Row.{Row}
use Rattle.txn_clients.specs.declared.row.Row.TheVariants as row
use Rattle.txn_clients.specs.declared.told.Told.{Told}
use Rattle.txn_clients.specs.declared.told.Told.TheVariants as tells
use Rattle.txn_clients.proofs.Stands.{or_other, or_same, same_line}
use Rattle.txn_clients.proofs.Tables.{count, stand_read}
use Rattle.txn_clients.proofs.Telling.{stands_told}
use Rattle.std.proofs.lemmas.List.Elements.{All-nil}
use Rattle.std.specs.List.{Any}
use Rattle.txn_history.specs.Among.{IsAmong}
use Rattle.txn_history.specs.Posted.{ticket_of}
use Rattle.txn_kv.specs.declared.outbox.Errand.TheVariants.{Send}
use Rattle.txn_kv.specs.declared.request.Request.{Request}
use Rattle.txn_kv.specs.declared.ticket.Target.{Target}
use Rattle.txn_side.specs.Trace.{IsSend, Trace}
use Rattle.txn_side.specs.declared.turn.Ending.{Ending}
use Rattle.txn_clients.specs.Failing.{AnswerRests, AreToldIn, CalledFor, CalledIn, EndsMore, HasMet, HasReason, LongerIn, MayKnow, outbox_of, owing, posting_in}
use Rattle.txn_clients.specs.Resting.{counted_longer, row_longer, told_longer}
use Rattle.txn_clients.proofs.Showing.{longer_then, owing_longer, owing_posting, posted_sent, posting_longer}
use Rattle.txn_clients.proofs.Going.{row_later}
use Rattle.txn_clients.proofs.Voices.{voice_once}

-- Numbers

pub le_of : (m n : ℕ) → m ≡ n → m ≤ n
le_of m n e = omega (arith, e)

pub next_same : (nexts : List ℕ) (line x : ℕ) → 1 ≤ line → line ≤ length nexts → next_at (set nexts (line - 1) x) line ≡ x
next_same nexts zero x one last = absurd (omega arith)
next_same nexts (suc i) x one last = let e : suc i - 1 ≡ i = omega arith in let l : i < length nexts = omega (arith, last) in rw e (or_same nexts i x 0 l)

pub next_other : (nexts : List ℕ) (line n x : ℕ) → 1 ≤ line → n ≢ line → next_at (set nexts (line - 1) x) n ≡ next_at nexts n
next_other nexts zero n x one apart = absurd (omega arith)
next_other nexts (suc i) zero x one apart = refl
next_other nexts (suc i) (suc j) x one apart = let e : suc i - 1 ≡ i = omega arith in rw e (or_other nexts i j x 0 (λ f. apart (ap (λ k. suc k) f)))

-- Asks

pub pends_split : (line n k : ℕ) (told : Told) (rest : List Asker) → HasAsk (pends line told rest) n k → ((n ≡ line) × hears told (TimeOf k)) ⊎ HasAsk rest n k
pends_split line n k tells.Start rest h = inr h
pends_split line n k (tells.Act a) rest h = inr h
pends_split line n k (tells.Heard (arrivals.Reply m x)) rest h = inr h
pends_split line n k (tells.Heard (arrivals.Lost m)) rest h = inr h
pends_split line n k (tells.Heard (arrivals.Slept m)) rest h = inr h
pends_split line n k (tells.Heard (arrivals.Time m x)) rest h = elim h.among [
  | inl e ↦ inl (sym h.line ∙ sym (ap (λ (a : Asker). a.line) e), ap TimeOf (sym h.ask ∙ sym (ap (λ (a : Asker). a.ask) e)))
  | inr i ↦ inr (record { asker = h.asker; among = i; line = h.line; ask = h.ask })
]

out_carried : (x y : Option (List Asker)) (n k : ℕ) → y ≡ x → HasAskOut x n k → HasAskOut y n k
out_carried x y n k e h = subst (λ o. HasAskOut o n k) (sym e) h

paired_by : (b d : Book) → d.out ≡ b.out → d.ticket ≡ b.ticket → IsPaired b → IsPaired d
paired_by b d e f (inl n) = inl (e ∙ n)
paired_by b d e f (inr t) = inr (t.0, f ∙ t.1)

-- Rows

module _ {P : Type 0} (w : Ways P) where
  -- another row waits for it
  abbrev pub Away : List (Row P) → ℕ → ℕ → Awaited → Type 0
  Away rows at n a = (i : ℕ) × (i ≢ at) × (voice_at rows i ≡ n) × wants w (row_at rows i) a

  pub wants_at : (rows : List (Row P)) (at : ℕ) (r : Row P) (n : ℕ) (a : Awaited) → at < length rows → Wants w (set rows at r) n a → ((voice at (stand_of r) ≡ n) × wants w r a) ⊎ Away rows at n a
  wants_at rows at r n a h (i, v, x) = by (same_line at i)
    where
      by : (i ≡ at) ⊎ (i ≢ at) → ((voice at (stand_of r) ≡ n) × wants w r a) ⊎ Away rows at n a
      by (inl same) =
          let e : row_at (set rows at r) i ≡ r = ap (row_at (set rows at r)) same ∙ or_same rows at r row.Plain h in
          inl (ap (λ j. voice j (stand_of r)) (sym same) ∙ ap (λ (y : Row P). voice i (stand_of y)) (sym e) ∙ v, subst (λ (y : Row P). wants w y a) e x)
      by (inr apart) =
          let e : row_at (set rows at r) i ≡ row_at rows i = or_other rows at i r row.Plain apart in
          inr (i, apart, ap (λ (y : Row P). voice i (stand_of y)) (sym e) ∙ v, subst (λ (y : Row P). wants w y a) e x)

  pub away_wants : (rows : List (Row P)) (at n : ℕ) (a : Awaited) → Away rows at n a → Wants w rows n a
  away_wants rows at n a (i, apart, v, x) = (i, v, x)

  -- one that waits for nothing
  pub wants_fewer : (rows : List (Row P)) (at : ℕ) (r : Row P) → at < length rows → ((a : Awaited) → wants w r a → ⊥) → (n : ℕ) (a : Awaited) → Wants w (set rows at r) n a → Wants w rows n a
  wants_fewer rows at r h silent n a x = elim (wants_at rows at r n a h x) [ inl y ↦ absurd (silent a y.1) | inr y ↦ away_wants rows at n a y ]

  pub arisen_set : (trace : Option Trace) (rows : List (Row P)) (at : ℕ) (r : Row P) (news asks : List ℕ) → at < length rows → RowArises w trace (suc at) (posted_at news asks (voice at (stand_of r))) news r
      → ((i : ℕ) → i ≢ at → RowArises w trace (suc i) (posted_at news asks (voice_at rows i)) news (row_at rows i))
      → (i : ℕ) → RowArises w trace (suc i) (posted_at news asks (voice_at (set rows at r) i)) news (row_at (set rows at r) i)
  arisen_set trace rows at r news asks h here there i = by (same_line at i)
    where
      by : (i ≡ at) ⊎ (i ≢ at) → RowArises w trace (suc i) (posted_at news asks (voice_at (set rows at r) i)) news (row_at (set rows at r) i)
      by (inl same) =
          let e : row_at (set rows at r) i ≡ r = ap (row_at (set rows at r)) same ∙ or_same rows at r row.Plain h in
          subst (λ (y : Row P). RowArises w trace (suc i) (posted_at news asks (voice i (stand_of y))) news y) (sym e) (subst (λ j. RowArises w trace (suc j) (posted_at news asks (voice j (stand_of r))) news r) (sym same) here)
      by (inr apart) =
          let e : row_at (set rows at r) i ≡ row_at rows i = or_other rows at i r row.Plain apart in
          subst (λ (y : Row P). RowArises w trace (suc i) (posted_at news asks (voice i (stand_of y))) news y) (sym e) (there i apart)

pub running_set : {P : Type 0} (rows : List (Row P)) (at : ℕ) (r : Row P) → at < length rows → AreRunningBut at rows → RowRuns r → AreRunning (set rows at r)
running_set rows at r h but run i = by (same_line at i)
  where
    by : (i ≡ at) ⊎ (i ≢ at) → RowRuns (row_at (set rows at r) i)
    by (inl same) = subst RowRuns (sym (ap (row_at (set rows at r)) same ∙ or_same rows at r row.Plain h)) run
    by (inr apart) = subst RowRuns (sym (or_other rows at i r row.Plain apart)) (but i apart)

pub running_but : {P : Type 0} (rows : List (Row P)) (at : ℕ) (r : Row P) → AreRunningBut at rows → AreRunningBut at (set rows at r)
running_but rows at r but i apart = subst RowRuns (sym (or_other rows at i r row.Plain apart)) (but i apart)

pub runs_push : {P : Type 0} (w : Ways P) (told : Told) (rows news : List (Row P)) (at : ℕ) (r : Row P) (from to : Posted) (answer : Option (Answer P)) → at < length rows → news ≡ set rows at r → RowGoes w told (row_at rows at) r from to answer → RunsOn told at answer rows news
runs_push w told rows news at r from to answer h e goes but prepared =
    (subst (AreRunningBut at) (sym e) (running_but rows at r but), λ none. subst AreRunning (sym e) (running_set rows at r h but (goes.runs prepared none)))

-- What is known as something is told

pub may_know_at : {P : Type 0} (trace : Option Trace) (line next next_ask : ℕ) (sends : List Errand) (told : Told) (r : Row P) → MayKnow trace (outbox_of line) told r → MayKnow trace (record { line = line; beat = false; next = next; next_ask = next_ask; sends = sends }) told r
may_know_at trace line next next_ask sends tells.Start r h = tt
may_know_at trace line next next_ask sends (tells.Act act) row.Plain h = tt
may_know_at trace line next next_ask sends (tells.Act act) (row.Client c) h = tt
may_know_at trace line next next_ask sends (tells.Act act) (row.Asking c b call) h = tt
may_know_at trace line next next_ask sends (tells.Act act) (row.Begun c t m) h = h
may_know_at trace line next next_ask sends (tells.Act act) (row.Calling c x b) h = tt
may_know_at trace line next next_ask sends (tells.Act act) (row.Past c) h = tt
may_know_at trace line next next_ask sends (tells.Act act) (row.Working c job) h = tt
may_know_at None line next next_ask sends (tells.Heard a) r h = tt
may_know_at (Some t) line next next_ask sends (tells.Heard (arrivals.Reply n x)) r h = h
may_know_at (Some t) line next next_ask sends (tells.Heard (arrivals.Lost n)) r h = h
may_know_at (Some t) line next next_ask sends (tells.Heard (arrivals.Slept n)) r h = h
may_know_at (Some t) line next next_ask sends (tells.Heard (arrivals.Time k x)) r h = h

-- whom is told what comes for a line
pub called_for : {P : Type 0} (trace : Option Trace) (rows : List (Row P)) (line at : ℕ) → AreToldIn trace (stands_of rows) → AreMatched (stands_of rows) → line ≢ 0 → voice at (stand_at (stands_of rows) (suc at)) ≡ line → CalledFor trace line (suc at) (row_at rows at)
called_for {P} trace rows line at told matched some voiced = by (row_at rows at) (stand_read rows at)
  where
    by : (r : Row P) → stand_at (stands_of rows) (suc at) ≡ stand_of r → CalledFor trace line (suc at) r
    by row.Plain e = tt
    by (row.Client c) e = tt
    by (row.Asking c b call) e = subst (λ n. CalledIn trace n (suc at)) (sym (ap (voice at) e) ∙ voiced) (told.asks (suc at) c b e)
    by (row.Begun c t m) e =
        let same : m ≡ line = sym (ap (voice at) e) ∙ voiced in
        elim (matched (suc at) c m e) [
          | inl z ↦ absurd (some (sym same ∙ z))
          | inr h ↦ subst (λ n. CalledIn trace n (suc at)) same (told.calls m h.0 (suc at) h.1 h.2)
        ]
    by (row.Calling c x b) e = tt
    by (row.Past c) e = tt
    by (row.Working c job) e = tt

pub no_more : {P : Type 0} (w : Ways P) (trace : Option Trace) (ends : List Ending) → EndsMore w trace ends ends
no_more w trace ends = record { more = []; ended = sym (append-nil ends); each = All-nil (HasReason w trace) }

-- Clients

module _ {P : Type 0} (w : Ways P) where
  pub sound_from : (trace : Option Trace) (s t : Clients P) (rest : List Asker)
      → AreToldIn trace (stands_of (rows_of t))
      → ((i : ℕ) → RowArises w trace (suc i) (posted_at (nexts_of t) (asks_of t) (voice_at (rows_of t) i)) (nexts_of t) (row_at (rows_of t) i))
      → AreCalled (stands_of (rows_of t))
      → ((n c : ℕ) → client_at (stand_at (stands_of (rows_of t)) n) ≡ Some c → c < length (crashed_of t))
      → ((n c k : ℕ) → client_at (stand_at (stands_of (rows_of t)) n) ≡ Some c → lives (crashed_of t) (Some c) ≡ true → Wants w (rows_of t) n (TimeOf k) → (client_at (stand_at (stands_of (rows_of s)) n) ≡ Some c) × (lives (crashed_of s) (Some c) ≡ true) × Wants w (rows_of s) n (TimeOf k))
      → ((n c : ℕ) → client_at (stand_at (stands_of (rows_of s)) n) ≡ Some c → client_at (stand_at (stands_of (rows_of t)) n) ≡ Some c)
      → ((c : ℕ) → book_at t c ≡ book_at s c) → IsRisen (nexts_of s) (nexts_of t) → ((n : ℕ) (a : Awaited) → Wants w (rows_of t) n a → Wants w (rows_of s) n a)
      → IsSound w trace rest s → IsSound w trace rest t
  sound_from trace s t rest told arisen called known wanted kept books risen fewer sound = record {
    told = told;
    arisen = arisen;
    called = called;
    known = known;
    asked = λ n c k e l x. let y = wanted n c k e l x in subst (λ b. IsAskedIn b n k ⊎ HasAsk rest n k) (sym (books c)) (sound.asked n c k y.0 y.1 y.2);
    paired = λ c. subst IsPaired (sym (books c)) (sound.paired c);
    owned = λ c u e. let o = sound.owned c u (ap (λ (b : Book). b.ticket) (sym (books c)) ∙ e) in record { beat = o.beat; own = kept u.line c o.own };
    numbered = λ c u e. let l = sound.numbered c u (ap (λ (b : Book). b.ticket) (sym (books c)) ∙ e) in let up = risen u.line in omega (arith, l, up);
    unwanted = λ c u e x. sound.unwanted c u (ap (λ (b : Book). b.ticket) (sym (books c)) ∙ e) (fewer u.line (ReplyTo u.number) x);
    owing = sound.owing;
  }

  module _ (p : IsLawful w.plan) where
    row_below : (trace : Option Trace) (at : ℕ) (r : Row P) (o : Posted) (nexts : List ℕ) (m : ℕ) → RowArises w trace at o nexts r → wants w r (ReplyTo m) → m < o.next
    row_below trace at row.Plain o nexts m x y = absurd y
    row_below trace at (row.Client c) o nexts m x y = absurd y
    row_below trace at (row.Asking c b call) o nexts m x y = let s = called-lawful.posted call o x.arisen.history (ReplyTo m) x.arisen.fits y in s.2
    row_below trace at (row.Begun c t i) o nexts m x y = let s = standing_posted w p t o x.arisen.history (ReplyTo m) x.arisen.fits y in s.2
    row_below trace at (row.Calling c z b) o nexts m x y = absurd y
    row_below trace at (row.Past c) o nexts m x y = absurd y
    row_below trace at (row.Working c job) o nexts m x y = absurd y

    -- what is waited for has a number below the next
    pub wants_below : (trace : Option Trace) (s : Clients P) (rest : List Asker) (n m : ℕ) → IsSound w trace rest s → Wants w (rows_of s) n (ReplyTo m) → m < next_at (nexts_of s) n
    wants_below trace s rest n m sound (i, v, x) = subst (λ j. m < next_at (nexts_of s) j) v (row_below trace (suc i) (row_at (rows_of s) i) (posted_at (nexts_of s) (asks_of s) (voice_at (rows_of s) i)) (nexts_of s) m (sound.arisen i) x)

    -- What stands at a place was told of something, and what it posted was done.
    pub push_goes : (trace : Option Trace) (s t : Clients P) (told : Told) (line client at : ℕ) (r : Row P) (rest : List Asker) (from to : Posted) (answer : Option (Answer P)) (sends : List Errand) (ps qs : List Posting) (ends : List Ending)
        → IsLine (stands_of (rows_of s)) line → at < length (rows_of s) → client_at (stand_at (stands_of (rows_of s)) line) ≡ Some client → voice at (stand_at (stands_of (rows_of s)) (suc at)) ≡ line → AreMatched (stands_of (rows_of s))
        → from ≡ posted_at (nexts_of s) (asks_of s) line → sends ≡ to.sends
        → rows_of t ≡ set (rows_of s) at r → stand_of r ≡ stand_of (row_at (rows_of s) at) → RowGoes w told (row_at (rows_of s) at) r from to answer
        → IsRisen (nexts_of s) (nexts_of t) → to.next ≤ next_at (nexts_of t) line → asks_of t ≡ set (asks_of s) (line - 1) to.next_ask → crashed_of t ≡ crashed_of s
        → ((n : ℕ) → IsErrand sends (ReplyTo n) → from.next ≤ n)
        → Keeps ps qs → ((a : Awaited) → IsErrand sends a → IsDone t qs line client a) → ((n : ℕ) (store : Target) (x : Request) → IsAmong sends (Send n store x) → Any (IsSend (record { line = line; beat = false; number = n }) x) qs)
        → ((c : ℕ) → (book_at t c).out ≡ (book_at s c).out) → ((c : ℕ) → (book_at t c).ticket ≡ (book_at s c).ticket)
        → ((n i : ℕ) → HasAsk (book_at s client).queue n i → HasAsk (book_at t client).queue n i) → ((c : ℕ) → c ≢ client → book_at t c ≡ book_at s c)
        → MayKnow (posting_in ps trace) (outbox_of line) told (row_at (rows_of s) at)
        → IsSound w (posting_in ps (owing line told trace)) (pends line told rest) s → GoesOn w trace client (HearsAt line told) rest ps qs ends ends s t × IfSome answer (AnswerRests w (posting_in qs trace) (suc at) line)
    push_goes trace s t told line client at r rest from to answer sends ps qs ends is inside own voiced matched begins sent rows stand goes risen up asks crashed above kept done mailed outs tickets queued books knows sound = (
      record {
        sound = record {
          told = subst (AreToldIn (posting_in qs trace)) (sym stands) (told_longer (posting_in ps (owing line told trace)) (posting_in qs trace) (stands_of (rows_of s)) went_on sound.told);
          arisen = arisen;
          called = subst AreCalled (sym stands) sound.called;
          known = λ n c e. subst (λ cs. c < length cs) (sym crashed) (sound.known n c (ap (λ ss. client_at (stand_at ss n)) (sym stands) ∙ e));
          asked = asked;
          paired = λ c. paired_by (book_at s c) (book_at t c) (outs c) (tickets c) (sound.paired c);
          owned = λ c u e. let o = sound.owned c u (sym (tickets c) ∙ e) in record { beat = o.beat; own = subst (λ ss. client_at (stand_at ss u.line) ≡ Some c) (sym stands) o.own };
          numbered = λ c u e. let l = sound.numbered c u (sym (tickets c) ∙ e) in let up = risen u.line in omega (arith, l, up);
          unwanted = λ c u e x. unwanted c u (sym (tickets c) ∙ e) x;
          owing = λ n. counted_longer (posting_in ps (owing line told trace)) (posting_in qs trace) n 0 went_on (sound.owing n);
        };
        ends = no_more w (posting_in qs trace) ends;
        posted = kept;
        lines = lines;
        outs = outs;
        tickets = tickets;
        books = books;
      },
      subst (λ n. IfSome answer (AnswerRests w (posting_in qs trace) (suc at) n)) (ap (λ (o : Posted). o.line) begins) come.1,
    )
      where
        olds : List (Row P)
        olds = rows_of s

        -- once it was told, and then what is posted
        once_told : LongerIn (posting_in ps (owing line told trace)) (posting_in ps trace)
        once_told = subst (λ x. LongerIn x (posting_in ps trace)) (sym (owing_posting line told ps trace)) (owing_longer line told (posting_in ps trace))

        went_on : LongerIn (posting_in ps (owing line told trace)) (posting_in qs trace)
        went_on = longer_then (posting_in ps (owing line told trace)) (posting_in ps trace) (posting_in qs trace) once_told (posting_longer trace ps qs kept)

        stands : stands_of (rows_of t) ≡ stands_of (rows_of s)
        stands = ap stands_of rows ∙ stands_told olds at r inside stand

        some : line ≢ 0
        some z = let one = is.first in omega (arith, one, z)

        v : voice_at olds at ≡ line
        v = ap (voice at) (sym (stand_read olds at)) ∙ voiced

        voices : voice at (stand_of r) ≡ line
        voices = ap (voice at) stand ∙ v

        once : (i : ℕ) → i ≢ at → voice_at olds i ≡ line → ⊥
        once i apart e = apart (voice_once (stands_of olds) i at line matched some (ap (voice i) (stand_read olds i) ∙ e) voiced)

        asks_count : line ≤ length (asks_of s)
        asks_count = let last = is.last in let long = count s in let short = length-map s.places.items (λ (x : Place P). x.next_ask) in omega (arith, last, long, short)

        told_ask : next_at (asks_of t) line ≡ to.next_ask
        told_ask = ap (λ ns. next_at ns line) asks ∙ next_same (asks_of s) line to.next_ask is.first asks_count

        reached : IsReached from to (posted_at (nexts_of t) (asks_of t) line)
        reached = record {
          line = sym (ap (λ (o : Posted). o.line) begins);
          beat = sym (ap (λ (o : Posted). o.beat) begins);
          next = up;
          next_ask = le_of to.next_ask (next_at (asks_of t) line) (sym told_ask);
        }

        met : HasMet (posting_in ps trace) (posting_in qs trace) from to
        met = record {
          calls = ap (λ (o : Posted). o.beat) begins;
          longer = posting_longer trace ps qs kept;
          sent = λ n store x i. posted_sent trace qs (ticket_of from n) x (subst (λ (o : Posted). Any (IsSend (ticket_of o n) x) qs) (sym begins) (mailed n store x (subst (λ es. IsAmong es (Send n store x)) (sym sent) i)));
        }

        come : RowArises w (posting_in qs trace) (suc at) (posted_at (nexts_of t) (asks_of t) line) (nexts_of t) r × IfSome answer (AnswerRests w (posting_in qs trace) (suc at) from.line)
        come =
            let before = subst (λ (o : Posted). RowArises w (owing o.line told (posting_in ps trace)) (suc at) o (nexts_of s) (row_at olds at)) (sym begins)
            (subst (λ x. RowArises w x (suc at) (posted_at (nexts_of s) (asks_of s) line) (nexts_of s) (row_at olds at)) (owing_posting line told ps trace)
            (subst (λ n. RowArises w (posting_in ps (owing line told trace)) (suc at) (posted_at (nexts_of s) (asks_of s) n) (nexts_of s) (row_at olds at)) v (sound.arisen at))) in
            let low = subst (λ (o : Posted). next_at (nexts_of s) o.line ≤ o.next) (sym begins) (le_of (next_at (nexts_of s) line) (next_at (nexts_of s) line) refl) in
            let high = subst (λ (o : Posted). to.next ≤ next_at (nexts_of t) o.line) (sym begins) up in
            let called = subst (λ (o : Posted). CalledFor (posting_in ps trace) o.line (suc at) (row_at olds at)) (sym begins) (called_for (posting_in ps trace) olds line at (told_longer (posting_in ps (owing line told trace)) (posting_in ps trace) (stands_of olds) once_told sound.told) matched some voiced) in
            let may = subst (λ (o : Posted). MayKnow (posting_in ps trace) o told (row_at olds at)) (sym begins) (may_know_at (posting_in ps trace) line (next_at (nexts_of s) line) (next_at (asks_of s) line) [] told (row_at olds at) knows) in
            goes.arises (posting_in ps trace) (posting_in qs trace) (suc at) met called may (nexts_of s) (nexts_of t) (posted_at (nexts_of t) (asks_of t) line) low risen high reached before

        here : RowArises w (posting_in qs trace) (suc at) (posted_at (nexts_of t) (asks_of t) (voice at (stand_of r))) (nexts_of t) r
        here = subst (λ n. RowArises w (posting_in qs trace) (suc at) (posted_at (nexts_of t) (asks_of t) n) (nexts_of t) r) (sym voices) come.0

        later : (n : ℕ) → n ≢ line → IsLater (posted_at (nexts_of s) (asks_of s) n) (posted_at (nexts_of t) (asks_of t) n)
        later n apart = record {
          line = refl;
          beat = refl;
          next = risen n;
          next_ask = le_of (next_at (asks_of s) n) (next_at (asks_of t) n) (sym (ap (λ ns. next_at ns n) asks ∙ next_other (asks_of s) line n to.next_ask is.first apart));
        }

        there : (i : ℕ) → i ≢ at → RowArises w (posting_in qs trace) (suc i) (posted_at (nexts_of t) (asks_of t) (voice_at olds i)) (nexts_of t) (row_at olds i)
        there i apart = row_later w p (posting_in qs trace) (suc i) (row_at olds i) (posted_at (nexts_of s) (asks_of s) (voice_at olds i)) (posted_at (nexts_of t) (asks_of t) (voice_at olds i)) (nexts_of s) (nexts_of t) (later (voice_at olds i) (once i apart)) risen (row_longer w (posting_in ps (owing line told trace)) (posting_in qs trace) (suc i) _ _ (row_at olds i) went_on (sound.arisen i))

        arisen : (i : ℕ) → RowArises w (posting_in qs trace) (suc i) (posted_at (nexts_of t) (asks_of t) (voice_at (rows_of t) i)) (nexts_of t) (row_at (rows_of t) i)
        arisen i = subst (λ rs. RowArises w (posting_in qs trace) (suc i) (posted_at (nexts_of t) (asks_of t) (voice_at rs i)) (nexts_of t) (row_at rs i)) (sym rows) (arisen_set w (posting_in qs trace) olds at r (nexts_of t) (asks_of t) inside here there i)

        sends_is : goes.expects.sends ≡ sends
        sends_is = sym (sent ∙ goes.expects.pushed ∙ ap (λ (o : Posted). o.sends ++ goes.expects.sends) begins)

        is_done : (a : Awaited) → IsErrand goes.expects.sends a → IsDone t qs line client a
        is_done a x = done a (subst (λ es. IsErrand es a) sends_is x)

        carried : (c n i : ℕ) → IsAskedIn (book_at s c) n i → IsAskedIn (book_at t c) n i
        carried c n i asked = by (same_line client c) asked
          where
            by : (c ≡ client) ⊎ (c ≢ client) → IsAskedIn (book_at s c) n i → IsAskedIn (book_at t c) n i
            by (inl same) (inl h) = inl (subst (λ d. HasAsk (book_at t d).queue n i) (sym same) (queued n i (subst (λ d. HasAsk (book_at s d).queue n i) same h)))
            by (inl same) (inr h) = inr (out_carried (book_at s c).out (book_at t c).out n i (outs c) h)
            by (inr apart) h = subst (λ b. IsAskedIn b n i) (sym (books c apart)) h

        asked : (n c i : ℕ) → client_at (stand_at (stands_of (rows_of t)) n) ≡ Some c → lives (crashed_of t) (Some c) ≡ true → Wants w (rows_of t) n (TimeOf i) → IsAskedIn (book_at t c) n i ⊎ HasAsk rest n i
        asked n c i e l x = by (wants_at w olds at r n (TimeOf i) inside (subst (λ rs. Wants w rs n (TimeOf i)) rows x))
          where
            of : client_at (stand_at (stands_of olds) n) ≡ Some c
            of = ap (λ ss. client_at (stand_at ss n)) (sym stands) ∙ e

            live : lives (crashed_of s) (Some c) ≡ true
            live = ap (λ cs. lives cs (Some c)) (sym crashed) ∙ l

            before : ((n ≡ line) → hears told (TimeOf i) → ⊥) → Wants w olds n (TimeOf i) → IsAskedIn (book_at t c) n i ⊎ HasAsk rest n i
            before deaf y = elim (sound.asked n c i of live y) [
              | inl h ↦ inl (carried c n i h)
              | inr h ↦ elim (pends_split line n i told rest h) [ inl g ↦ absurd (deaf g.0 g.1) | inr g ↦ inr g ]
            ]

            anew : (n ≡ line) → IsDone t qs line client (TimeOf i) → IsAskedIn (book_at t c) n i ⊎ HasAsk rest n i
            anew e h = inl (inl (subst (λ d. HasAsk (book_at t d).queue n i) same (subst (λ m. HasAsk (book_at t client).queue m i) (sym e) h)))
              where
                one : Some client ≡ Some c → client ≡ c
                one g = cc

                same : client ≡ c
                same = one (sym own ∙ ap (λ m. client_at (stand_at (stands_of olds) m)) (sym e) ∙ of)

            by : ((voice at (stand_of r) ≡ n) × wants w r (TimeOf i)) ⊎ Away w olds at n (TimeOf i) → IsAskedIn (book_at t c) n i ⊎ HasAsk rest n i
            by (inl (u, y)) = elim (goes.expects.only (TimeOf i) y) [
              | inl z ↦ before (λ f h. z.1 h) (at, ap (voice at) (sym stand) ∙ u, z.0)
              | inr z ↦ anew (sym u ∙ voices) (is_done (TimeOf i) z)
            ]
            by (inr (j, apart, u, y)) = before (λ f h. once j apart (u ∙ f)) (j, u, y)

        unwanted : (c : ℕ) (u : Ticket) → (book_at s c).ticket ≡ Some u → Wants w (rows_of t) u.line (ReplyTo u.number) → ⊥
        unwanted c u e x = by (wants_at w olds at r u.line (ReplyTo u.number) inside (subst (λ rs. Wants w rs u.line (ReplyTo u.number)) rows x))
          where
            late : u.line ≡ line → from.next ≤ u.number → ⊥
            late f l = let n = sound.numbered c u e in let g : next_at (nexts_of s) u.line ≡ next_at (nexts_of s) line = ap (next_at (nexts_of s)) f in let b : from.next ≡ next_at (nexts_of s) line = ap (λ (o : Posted). o.next) begins in omega (arith, l, n, g, b)

            by : ((voice at (stand_of r) ≡ u.line) × wants w r (ReplyTo u.number)) ⊎ Away w olds at u.line (ReplyTo u.number) → ⊥
            by (inl (v, y)) = elim (goes.expects.only (ReplyTo u.number) y) [
              | inl z ↦ sound.unwanted c u e (at, ap (voice at) (sym stand) ∙ v, z.0)
              | inr z ↦ late (sym v ∙ voices) (above u.number (subst (λ es. IsErrand es (ReplyTo u.number)) sends_is z))
            ]
            by (inr (j, apart, v, y)) = sound.unwanted c u e (j, v, y)

        as_met : (a : Awaited) → IsDone t qs line client a → IsMet qs line a
        as_met (ReplyTo m) h = h
        as_met (EndOf m) h = h
        as_met (TimeOf m) h = tt

        lines : (n : ℕ) (a : Awaited) → Wants w (rows_of t) n a → (Wants w (rows_of s) n a × (HearsAt line told n a → ⊥)) ⊎ IsMet qs n a
        lines n a x = by (wants_at w olds at r n a inside (subst (λ rs. Wants w rs n a) rows x))
          where
            by : ((voice at (stand_of r) ≡ n) × wants w r a) ⊎ Away w olds at n a → (Wants w (rows_of s) n a × (HearsAt line told n a → ⊥)) ⊎ IsMet qs n a
            by (inl (u, y)) = elim (goes.expects.only a y) [
              | inl z ↦ inl ((at, ap (voice at) (sym stand) ∙ u, z.0), λ h. z.1 h.1)
              | inr z ↦ inr (subst (λ m. IsMet qs m a) (sym voices ∙ u) (as_met a (is_done a z)))
            ]
            by (inr (j, apart, u, y)) = inl ((j, u, y), λ h. once j apart (u ∙ h.0))
