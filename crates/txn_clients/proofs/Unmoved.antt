-- What clients can have arisen from stays so where nothing happens to them: a line more, a client more, or one that is gone.
use Rattle.std.proofs.Math.Nat.{le_refl}
use Rattle.std.proofs.Common.{◌≡◌, ◌⊎◌, ◌≤◌, ◌-◌, inl, inr, zero, suc, ℕ, false, List, [], ◌∷◌, ◌++◌, Some, None, refl, sym, ap, ◌∙◌, subst, set, map}
use Rattle.std.specs.Prelude.{⊤}
use Rattle.std.proofs.lemmas.List.Elements.{All-nil}
use Rattle.txn_kv.specs.declared.ticket.Ticket.{Ticket}
use Rattle.txn_history.specs.Event.{Event}
use Rattle.txn_history.specs.Later.{IsLater}
use Rattle.txn_history.specs.Meaning.{IsLawful}
use Rattle.txn_history.specs.Plan.{Plan}
use Rattle.txn_history.specs.Posted.{Posted, Within-refl}
use Rattle.txn_commit.specs.Ways.{Ways}
use Rattle.txn_commit.specs.declared.secondary_job.SecondaryJob.{SecondaryJob}
use Rattle.txn_core.proofs.Others.{adds_same}
use Rattle.txn_report.specs.declared.outcome.Outcome.{Outcome}
use Rattle.txn_report.specs.declared.outcome.Outcome.TheVariants as outcomes
use Rattle.txn_report.specs.declared.outcome.Payload.TheVariants as payloads
use Rattle.txn_trace.specs.Answering.{OracleFits}
use Rattle.txn_trace.proofs.Lines.{fresh_higher}
use Rattle.txn_tso.specs.Oracle.{Answer as Answered}
use Rattle.txn_side.specs.Arising.{StillArises}
use Rattle.txn_clients.specs.Arising.{Arisen, ArisenFrom, HasPlan, HasStart, HoldsAt, HoldsOf, IsBehind, RowFits, oracle_of, ticket_or}
use Rattle.txn_side.specs.Sight.{next_at, stand_at}
use Rattle.txn_side.specs.Sight.Stand.{Idle}
use Rattle.txn_clients.specs.Clients.{IsLine, nexts_of, row_at, rows_of, stands_of}
use Rattle.txn_clients.specs.Growing.{behind_grows, row_stays}
use Rattle.txn_clients.specs.Rows.{stand_of}
use Rattle.txn_clients.specs.Waiting.{Book, IsRisen, asks_of, blank, book_at, book_of, posted_at, voice}
use Rattle.txn_clients.specs.declared.client_state.ClientState.{ClientState}
use Rattle.txn_clients.specs.declared.clients.Clients.{Clients}
use Rattle.txn_clients.specs.declared.place.Place.{Place}
use Rattle.txn_clients.specs.declared.row.Row.{Row}
use Rattle.txn_clients.specs.declared.row.Row.TheVariants as row
use Rattle.txn_clients.proofs.Opening.{next_opened}
use Rattle.txn_clients.proofs.Settling.{books_same}
use Rattle.txn_clients.proofs.Sides.{book_more, opened_lists}
use Rattle.txn_clients.proofs.Stands.{or_ended}
use Rattle.txn_clients.proofs.Tables.{stand_of_line}

-- neither a transaction, a job nor a call for a timestamp
abbrev pub IsBare : {P : Type 0} → Row P → Type 0
IsBare row.Plain = ⊤
IsBare (row.Client c) = ⊤
IsBare (row.Asking c b call) = ⊥
IsBare (row.Begun c t m) = ⊥
IsBare (row.Calling c x b) = ⊤
IsBare (row.Past c) = ⊤
IsBare (row.Working c job) = ⊥

-- the same stands there, or nothing that has a history
abbrev pub Alike : {P : Type 0} → Row P → Row P → Type 0
Alike old new = (new ≡ old) ⊎ (IsBare old × IsBare new)

abbrev pub AreAlike : {P : Type 0} → List (Row P) → List (Row P) → Type 0
AreAlike olds news = (i : ℕ) → Alike (row_at olds i) (row_at news i)

module _ {P : Type 0} where
  no_start : (v : ℕ) (r : Row P) → IsBare r → HasStart v r → ⊥
  no_start v (row.Begun c t m) bare start = bare
  no_start v row.Plain bare start = start
  no_start v (row.Client c) bare start = start
  no_start v (row.Asking c b call) bare start = start
  no_start v (row.Calling c x b) bare start = start
  no_start v (row.Past c) bare start = start
  no_start v (row.Working c job) bare start = start

  start_alike : (v : ℕ) (old new : Row P) → Alike old new → HasStart v new → HasStart v old
  start_alike v old new (inl same) start = subst (HasStart v) same start
  start_alike v old new (inr (a, b)) start = absurd (no_start v new b start)

  start_back : (v : ℕ) (old new : Row P) → Alike old new → HasStart v old → HasStart v new
  start_back v old new (inl same) start = subst (HasStart v) (sym same) start
  start_back v old new (inr (a, b)) start = absurd (no_start v old a start)

  no_plan : (plans : ℕ → Plan) (r : Row P) → IsBare r → HasPlan plans r
  no_plan plans (row.Begun c t m) bare = absurd bare
  no_plan plans row.Plain bare = tt
  no_plan plans (row.Client c) bare = tt
  no_plan plans (row.Asking c b call) bare = tt
  no_plan plans (row.Calling c x b) bare = tt
  no_plan plans (row.Past c) bare = tt
  no_plan plans (row.Working c job) bare = tt

  plan_alike : (plans : ℕ → Plan) (old new : Row P) → Alike old new → HasPlan plans new → HasPlan plans old
  plan_alike plans old new (inl same) h = subst (HasPlan plans) same h
  plan_alike plans old new (inr (a, b)) h = no_plan plans old a

module _ {P : Type 0} (w : Ways P) where
  none_behind : (job : SecondaryJob P) (o : Posted) (h : List Event) (r : Row P) → IsBare r → IsBehind w job o h r → ⊥
  none_behind job o h (row.Begun c t m) bare b = bare
  none_behind job o h row.Plain bare b = b
  none_behind job o h (row.Client c) bare b = b
  none_behind job o h (row.Asking c x call) bare b = b
  none_behind job o h (row.Calling c x y) bare b = b
  none_behind job o h (row.Past c) bare b = b
  none_behind job o h (row.Working c other) bare b = b

  bare_fits : (rows : List (Row P)) (o : Posted) (h : List Event) (r : Row P) → IsBare r → RowFits w rows o h r
  bare_fits rows o h row.Plain bare = tt
  bare_fits rows o h (row.Client c) bare = tt
  bare_fits rows o h (row.Asking c b call) bare = absurd bare
  bare_fits rows o h (row.Begun c t m) bare = absurd bare
  bare_fits rows o h (row.Calling c x b) bare = tt
  bare_fits rows o h (row.Past c) bare = tt
  bare_fits rows o h (row.Working c job) bare = absurd bare

module _ {P : Type 0} (w : Ways P) (p : IsLawful w.plan) where
  behind_alike : (job : SecondaryJob P) (o later : Posted) (h : List Event) (old new : Row P) → Alike old new → IsLater o later → IsBehind w job o h old → IsBehind w job later h new
  behind_alike job o later h old new (inl same) l b = subst (IsBehind w job later h) (sym same) (behind_grows w p job o later h h old l (Within-refl h) b)
  behind_alike job o later h old new (inr (a, n)) l b = absurd (none_behind w job o h old a b)

  -- what stands at a line fits where its line has posted more since, and the same stands at the others
  row_later : (olds news : List (Row P)) (o later : Posted) (h : List Event) (r : Row P) → AreAlike olds news → IsLater o later → RowFits w olds o h r → RowFits w news later h r
  row_later olds news o later h row.Plain same l f = tt
  row_later olds news o later h (row.Client c) same l f = tt
  row_later olds news o later h (row.Asking c b call) same l f = row_stays w p olds o later h h (row.Asking c b call) l (adds_same _ h) f
  row_later olds news o later h (row.Begun c t m) same l f = row_stays w p olds o later h h (row.Begun c t m) l (adds_same _ h) f
  row_later olds news o later h (row.Calling c x b) same l f = tt
  row_later olds news o later h (row.Past c) same l f = tt
  row_later olds news o later h (row.Working c job) same l f = (f.0, behind_alike job o later h (row_at olds f.0) (row_at news f.0) (same f.0) l f.1)

  -- The same stands at all places that have a history, the oracles hold the same, and the numbers of no line have fallen.
  pub arisen_alike : (s t : Clients P) (askers : Ticket → List ℕ) (rest : List Answered) (h : List Event) → AreAlike (rows_of s) (rows_of t) → IsRisen (nexts_of s) (nexts_of t) → IsRisen (asks_of s) (asks_of t)
      → ((c : ℕ) → book_at t c ≡ book_at s c) → Arisen w s askers rest h → Arisen w t askers rest h
  arisen_alike s t askers rest h rows nexts asks books a = record {
    run = λ plans have. a.run plans (λ i. plan_alike plans (row_at (rows_of s) i) (row_at (rows_of t) i) (rows i) (have i));
    rows = λ i. fits i (row_at (rows_of t) i) refl (rows i);
    oracles = λ c. subst (λ (b : Book). OracleFits (oracle_of b) (ticket_or b.ticket) h) (sym (books c)) (a.oracles c);
    fresh = λ n. fresh_higher n false h _ _ _ _ (nexts n) (asks n) (a.fresh n);
    draws = record {
      starts = λ i v st. a.draws.starts i v (start_alike v (row_at (rows_of s) i) (row_at (rows_of t) i) (rows i) st);
      groups = λ c d group x y. a.draws.groups c d group (ap (λ (b : Book). b.ticket) (sym (books c)) ∙ x) (ap (λ (b : Book). b.out) (sym (books c)) ∙ y);
      given = a.draws.given;
    };
    answerable = a.answerable;
    owned = λ x r i. let o = a.owned x r i in (o.0, start_back r.start_version (row_at (rows_of s) o.0) (row_at (rows_of t) o.0) (rows o.0) o.1);
    optimistic = a.optimistic;
    apart = λ i j v x y. a.apart i j v (start_alike v (row_at (rows_of s) i) (row_at (rows_of t) i) (rows i) x) (start_alike v (row_at (rows_of s) j) (row_at (rows_of t) j) (rows j) y);
  }
    where
      fits : (i : ℕ) (r : Row P) → row_at (rows_of t) i ≡ r → Alike (row_at (rows_of s) i) (row_at (rows_of t) i) → RowFits w (rows_of t) (posted_at (nexts_of t) (asks_of t) (voice i (stand_of (row_at (rows_of t) i)))) h (row_at (rows_of t) i)
      fits i r e (inl same) =
          subst (λ (x : Row P). RowFits w (rows_of t) (posted_at (nexts_of t) (asks_of t) (voice i (stand_of x))) h x) (sym same)
          (row_later (rows_of s) (rows_of t) _ _ h (row_at (rows_of s) i) rows (record { line = refl; beat = refl; next = nexts (voice i (stand_of (row_at (rows_of s) i))); next_ask = asks (voice i (stand_of (row_at (rows_of s) i))) }) (a.rows i))
      fits i r e (inr (b, n)) = bare_fits w (rows_of t) _ h (row_at (rows_of t) i) n

-- What is right stays so where the same stands, or nothing stood before

abbrev pub Follows : {P : Type 0} → Row P → Row P → Type 0
Follows old new = (new ≡ old) ⊎ (old ≡ row.Plain)

module _ {P : Type 0} (h : List Event) where
  right_follows : (o : Outcome) (old new : Row P) → Follows old new → HoldsOf h o old → HoldsOf h o new
  right_follows o old new (inl same) x = subst (HoldsOf h o) (sym same) x
  right_follows (outcomes.Ok payloads.Unit) old new (inr plain) x = tt
  right_follows (outcomes.Ok (payloads.Number v)) old new (inr plain) x = absurd (subst (HoldsOf h (outcomes.Ok (payloads.Number v))) plain x)
  right_follows (outcomes.Ok (payloads.Commit None)) old new (inr plain) x = absurd (subst (HoldsOf h (outcomes.Ok (payloads.Commit None))) plain x)
  right_follows (outcomes.Ok (payloads.Commit (Some v))) old new (inr plain) x = absurd (subst (HoldsOf h (outcomes.Ok (payloads.Commit (Some v)))) plain x)
  right_follows (outcomes.Err e) old new (inr plain) x = tt
  right_follows outcomes.Unfinished old new (inr plain) x = tt
  right_follows outcomes.Done old new (inr plain) x = tt
  right_follows outcomes.Skipped old new (inr plain) x = tt

  holds_follows : (olds news : List (Row P)) → ((i : ℕ) → Follows (row_at olds i) (row_at news i)) → (x : ℕ) (o : Outcome) → HoldsAt olds h x o → HoldsAt news h x o
  holds_follows olds news f zero o k = tt
  holds_follows olds news f (suc i) o k = right_follows o (row_at olds i) (row_at news i) (f i) k

module _ {P : Type 0} where
  plain_of : (r : Row P) → stand_of r ≡ Idle → r ≡ row.Plain
  plain_of row.Plain e = refl
  plain_of (row.Client c) e = absurd (cc)
  plain_of (row.Asking c b call) e = absurd (cc)
  plain_of (row.Begun c t m) e = absurd (cc)
  plain_of (row.Calling c x b) e = absurd (cc)
  plain_of (row.Past c) e = absurd (cc)
  plain_of (row.Working c job) e = absurd (cc)

  -- a row is set where nothing stood
  pub follows_set : (rows : List (Row P)) (k i : ℕ) (r : Row P) → stand_of (row_at rows k) ≡ Idle → Follows (row_at rows i) (row_at (set rows k r) i)
  follows_set [] k i r e = inl refl
  follows_set (y ∷ ys) zero zero r e = inr (plain_of y e)
  follows_set (y ∷ ys) zero (suc i) r e = inl refl
  follows_set (y ∷ ys) (suc k) zero r e = inl refl
  follows_set (y ∷ ys) (suc k) (suc i) r e = follows_set ys k i r e

  pub alike_set : (rows : List (Row P)) (k i : ℕ) (r : Row P) → IsBare r → stand_of (row_at rows k) ≡ Idle → Alike (row_at rows i) (row_at (set rows k r) i)
  alike_set [] k i r bare e = inl refl
  alike_set (y ∷ ys) zero zero r bare e = inr (subst IsBare (sym (plain_of y e)) tt, bare)
  alike_set (y ∷ ys) zero (suc i) r bare e = inl refl
  alike_set (y ∷ ys) (suc k) zero r bare e = inl refl
  alike_set (y ∷ ys) (suc k) (suc i) r bare e = alike_set ys k i r bare e

module _ {P : Type 0} (w : Ways P) (p : IsLawful w.plan) where
  -- nothing has happened, and no more stands there than lines and clients that nothing is known of
  pub still_arises : (s t : Clients P) → AreAlike (rows_of s) (rows_of t) → ((i : ℕ) → Follows (row_at (rows_of s) i) (row_at (rows_of t) i)) → IsRisen (nexts_of s) (nexts_of t) → IsRisen (asks_of s) (asks_of t) → ((c : ℕ) → book_at t c ≡ book_at s c)
      → StillArises (ArisenFrom w s) (ArisenFrom w t) (λ h x o. HoldsAt (rows_of s) h x o) (λ h x o. HoldsAt (rows_of t) h x o)
  still_arises s t rows follows nexts asks books h (laws, askers, g, shows, a) = record {
    now = (laws, askers, g, shows, arisen_alike w p s t askers [] g rows nexts asks books a);
    kept = λ x o. holds_follows h (rows_of s) (rows_of t) follows x o;
    answers = All-nil _;
    says = All-nil _;
  }

  -- one line more
  pub opened_arises : (s t : Clients P) (d : Place P) → d ≡ record { row = row.Plain; next = 1; next_ask = 1 } → t.places.items ≡ s.places.items ++ d ∷ [] → t.clients ≡ s.clients
      → StillArises (ArisenFrom w s) (ArisenFrom w t) (λ h x o. HoldsAt (rows_of s) h x o) (λ h x o. HoldsAt (rows_of t) h x o)
  opened_arises s t d new items clients =
      let l = opened_lists w p s t d new items in
      let same : (i : ℕ) → row_at (rows_of t) i ≡ row_at (rows_of s) i = λ i. ap (λ rs. row_at rs i) l.0 ∙ or_ended (rows_of s) row.Plain i in
      still_arises s t (λ i. inl (same i)) (λ i. inl (same i))
      (λ n. subst (λ ns. next_at (nexts_of s) n ≤ next_at ns n) (sym l.1) (next_opened (nexts_of s) n)) (λ n. subst (λ ns. next_at (asks_of s) n ≤ next_at ns n) (sym l.2) (next_opened (asks_of s) n))
      (λ c. books_same s t clients c)

  -- a client more, at a line where nothing stood
  pub connected_arises : (s t : Clients P) (line client : ℕ) (c : ClientState) → IsLine (stands_of (rows_of s)) line → stand_at (stands_of (rows_of s)) line ≡ Idle → t.clients.items ≡ s.clients.items ++ c ∷ [] → book_of c ≡ blank
      → rows_of t ≡ set (rows_of s) (line - 1) (row.Client client) → nexts_of t ≡ nexts_of s → asks_of t ≡ asks_of s
      → StillArises (ArisenFrom w s) (ArisenFrom w t) (λ h x o. HoldsAt (rows_of s) h x o) (λ h x o. HoldsAt (rows_of t) h x o)
  connected_arises s t line client c is idle clients new rows nexts asks =
      still_arises s t
      (λ i. subst (λ rs. Alike (row_at (rows_of s) i) (row_at rs i)) (sym rows) (alike_set (rows_of s) (line - 1) i (row.Client client) tt here))
      (λ i. subst (λ rs. Follows (row_at (rows_of s) i) (row_at rs i)) (sym rows) (follows_set (rows_of s) (line - 1) i (row.Client client) here))
      (λ n. subst (λ ns. next_at (nexts_of s) n ≤ next_at ns n) (sym nexts) (le_refl (next_at (nexts_of s) n))) (λ n. subst (λ ns. next_at (asks_of s) n ≤ next_at ns n) (sym asks) (le_refl (next_at (asks_of s) n)))
      (λ d. book_more w p s t c clients new d)
    where
      here : stand_of (row_at (rows_of s) (line - 1)) ≡ Idle
      here = sym (stand_of_line (rows_of s) line is.first) ∙ idle

  -- one that is gone
  pub crashed_arises : (s t : Clients P) → t.places ≡ s.places → ((c : ℕ) → book_at t c ≡ book_at s c)
      → StillArises (ArisenFrom w s) (ArisenFrom w t) (λ h x o. HoldsAt (rows_of s) h x o) (λ h x o. HoldsAt (rows_of t) h x o)
  crashed_arises s t places books =
      let same : (i : ℕ) → row_at (rows_of t) i ≡ row_at (rows_of s) i = λ i. ap (λ v. row_at (map (λ (x : Place P). x.row) v.items) i) places in
      still_arises s t (λ i. inl (same i)) (λ i. inl (same i))
      (λ n. subst (λ v. next_at (nexts_of s) n ≤ next_at (map (λ (x : Place P). x.next) v.items) n) (sym places) (le_refl (next_at (nexts_of s) n)))
      (λ n. subst (λ v. next_at (asks_of s) n ≤ next_at (map (λ (x : Place P). x.next_ask) v.items) n) (sym places) (le_refl (next_at (asks_of s) n)))
      books

module _ {P : Type 0} (w : Ways P) where
  pub unmoved_arises : (s : Clients P) → StillArises (ArisenFrom w s) (ArisenFrom w s) (λ h x o. HoldsAt (rows_of s) h x o) (λ h x o. HoldsAt (rows_of s) h x o)
  unmoved_arises s h a = record { now = a; kept = λ x o k. k; answers = All-nil _; says = All-nil _ }
