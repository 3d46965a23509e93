-- What holds of clients as calls begin and end.
use Rattle.std.proofs.Common.{◌≡◌, ◌≢◌, ◌⊎◌, inl, inr, ℕ, suc, ◌-◌, ◌<◌, ◌≤◌, Bool, true, false, List, [], ◌∷◌, length, map, get_or, set, Option, Some, None, refl, sym, ap, ◌∙◌, subst, arith, length-set}
use Rattle.std.proofs.lemmas.List.{length-map}
use Rattle.std.specs.Prelude.{IfOk, IfSome, Result}
use Rattle.std.specs.declared.result.Result.TheVariants as result
use Rattle.txn_kv.specs.declared.errors.Error.{Error}
use Rattle.txn_core.specs.declared.txn_answer.TxnAnswer.{TxnAnswer}
use Rattle.txn_client.specs.declared.client_answer.ClientAnswer.{ClientAnswer}
use Rattle.txn_history.specs.Meaning.{IsLawful}
use Rattle.txn_history.specs.Phase.{Awaited}
use Rattle.txn_history.specs.Phase.Awaited.{ReplyTo, EndOf, TimeOf}
use Rattle.txn_history.specs.Posted.{Posted}
use Rattle.txn_kv.specs.declared.arrival.Arrival.{Arrival}
use Rattle.txn_kv.specs.declared.arrival.Arrival.TheVariants as arrivals
use Rattle.txn_commit.specs.Ways.{Ways}
use Rattle.txn_client.specs.declared.client_call.ClientCall.{ClientCall}
use Rattle.txn_report.specs.declared.outcome.Outcome.{Outcome}
use Rattle.txn_report.specs.declared.outcome.Outcome.TheVariants.{Done, Err, Ok, Skipped, Unfinished}
use Rattle.txn_report.specs.declared.outcome.Payload.TheVariants.{Commit as Committed, Number, Unit as Nothing}
use Rattle.txn_side.specs.Sight.{CallEnds, Stand, client_at, lives, next_at, stand_at}
use Rattle.txn_side.specs.Sight.Stand.{Asking, Calling, HasBegun, Idle, IsClient, Past, Working}
use Rattle.txn_lines.specs.declared.act.Act.{Act}
use Rattle.txn_side.specs.declared.turn.Posting.{Posting}
use Rattle.txn_tso.specs.declared.asker.Asker.{Asker}
use Rattle.txn_clients.specs.Clients.{HearsFor, crashed_of, nexts_of, row_at, rows_of, stands_of}
use Rattle.txn_clients.specs.Matching.{AreMatched, IsLine}
use Rattle.txn_clients.specs.Rows.{Pd, Rests, RowReady, stand_of, with_waits}
use Rattle.txn_clients.specs.Waiting.{AreCalled, AreRunning, AreRunningBut, Book, GoesOn, HasAsk, HearsAt, IsAnswerOf, IsHeard, IsMet, IsPrepared, IsSound, Keeps, NoneHears, RowArises, RowRuns, RunsOn, Wants, asks_of, blank, book_at, book_of, pends, posted_at, voice, voice_at, wants}
use Rattle.txn_clients.specs.declared.answer.Answer.{Answer}
use Rattle.txn_clients.specs.declared.answer.Answer.TheVariants as answers
use Rattle.txn_clients.specs.declared.client_state.ClientState.{ClientState}
use Rattle.txn_clients.specs.declared.clients.Clients.{Clients}
use Rattle.txn_clients.specs.declared.row.Row.{Row}
use Rattle.txn_clients.specs.declared.row.Row.TheVariants as row
use Rattle.txn_clients.specs.declared.told.Told.{Told}
use Rattle.txn_clients.specs.declared.told.Told.TheVariants as tells
use Rattle.txn_clients.proofs.Sights.{HasSettled}
use Rattle.txn_side.specs.Trace.{Trace}
use Rattle.txn_side.specs.Trace.CallKind.{OfTransaction}
use Rattle.txn_side.specs.declared.turn.Ending.{Ending}
use Rattle.txn_clients.specs.Failing.{AnswerRests, AreToldIn, CalledIn, CountedIn, EndsMore, FailsAt, IfFails, LongerIn, owing, posting_in, AskRests}
use Rattle.txn_clients.specs.Resting.{sound_longer}
use Rattle.txn_clients.proofs.Showing.{owing_longer, owing_posting, ends_then, keeps_any, keeps_none, keeps_then}
use Rattle.txn_clients.proofs.Sounding.{arisen_set, le_of, no_more, pends_split, running_set, sound_from, wants_fewer}
use Rattle.txn_clients.proofs.Standing.{rest_silent, stand_rests}
use Rattle.txn_clients.proofs.Stands.{line_of, same_line, stand_other, stand_same, waited}
use Rattle.txn_clients.proofs.Tables.{ended_stands, stand_of_line, stand_read, stands_set}
use Rattle.txn_clients.proofs.Voices.{unheard_voice}

-- What stands where a call has ended

abbrev settled_rest : (c d m : ℕ) → HasSettled c (HasBegun d m) → m ≡ 0
settled_rest c d m (inl e) = absurd (cc)
settled_rest c d m (inr (inl e)) = waited d c m 0 e
settled_rest c d m (inr (inr e)) = absurd (cc)

settled_ask : (c d : ℕ) (b : Bool) → HasSettled c (Asking d b) → ⊥
settled_ask c d b (inl e) = cc
settled_ask c d b (inr (inl e)) = cc
settled_ask c d b (inr (inr e)) = cc

settled_call : (c : ℕ) (s : Stand) → HasSettled c s → (d x : ℕ) (b : Bool) → s ≡ Calling d x b → ⊥
settled_call c s h d x b e = by (subst (HasSettled c) e h)
  where
    by : HasSettled c (Calling d x b) → ⊥
    by (inl f) = cc
    by (inr (inl f)) = cc
    by (inr (inr f)) = cc

settled_asking : (c : ℕ) (s : Stand) → HasSettled c s → (d : ℕ) (b : Bool) → s ≡ Asking d b → ⊥
settled_asking c s h d b e = settled_ask c d b (subst (HasSettled c) e h)

pub begun_asks : (c m d : ℕ) (b : Bool) → HasBegun c m ≡ Asking d b → ⊥
begun_asks c m d b e = cc

pub begun_calls : (c m d x : ℕ) (b : Bool) → HasBegun c m ≡ Calling d x b → ⊥
begun_calls c m d x b e = cc

settled_client : (c : ℕ) (s : Stand) → HasSettled c s → client_at s ≡ Some c
settled_client c s (inl e) = ap client_at e
settled_client c s (inr (inl e)) = ap client_at e
settled_client c s (inr (inr e)) = ap client_at e

pub settled_runs : {P : Type 0} (c : ℕ) (r : Row P) → HasSettled c (stand_of r) → RowRuns r
settled_runs c row.Plain h = tt
settled_runs c (row.Client d) h = tt
settled_runs c (row.Asking d b call) h = absurd (settled_ask c d b h)
settled_runs c (row.Begun d t m) h = λ some. absurd (some (settled_rest c d m h))
settled_runs c (row.Calling d x b) h = tt
settled_runs c (row.Past d) h = tt
settled_runs c (row.Working d job) h = tt

-- the client of each line stays
pub clients_set : (stands : List Stand) (line : ℕ) (new : Stand) → IsLine stands line → client_at new ≡ client_at (stand_at stands line) → (n : ℕ) → client_at (stand_at (set stands (line - 1) new) n) ≡ client_at (stand_at stands n)
clients_set stands line new is e n = by (same_line line n)
  where
    by : (n ≡ line) ⊎ (n ≢ line) → client_at (stand_at (set stands (line - 1) new) n) ≡ client_at (stand_at stands n)
    by (inl same) = subst (λ k. client_at (stand_at (set stands (line - 1) new) k) ≡ client_at (stand_at stands k)) (sym same) (ap client_at (stand_same stands line new is) ∙ e)
    by (inr apart) = ap client_at (stand_other stands line n new is.first apart)

-- whom is told what comes for a line, where something else stands there
pub told_set : (trace : Option Trace) (stands : List Stand) (line : ℕ) (new : Stand) → IsLine stands line → ((c : ℕ) (b : Bool) → new ≡ Asking c b → CalledIn trace line line) → ((c x : ℕ) (b : Bool) → new ≡ Calling c x b → CalledIn trace line x)
    → AreToldIn trace stands → AreToldIn trace (set stands (line - 1) new)
told_set trace stands line new is asks calls told = record { asks = λ n c b e. by_ask n c b e (same_line line n); calls = λ n c x b e. by_call n c x b e (same_line line n) }
  where
    here : (n : ℕ) (s : Stand) → n ≡ line → stand_at (set stands (line - 1) new) n ≡ s → new ≡ s
    here n s same e = sym (stand_same stands line new is) ∙ ap (stand_at (set stands (line - 1) new)) (sym same) ∙ e

    by_ask : (n c : ℕ) (b : Bool) → stand_at (set stands (line - 1) new) n ≡ Asking c b → (n ≡ line) ⊎ (n ≢ line) → CalledIn trace n n
    by_ask n c b e (inl same) = subst (λ m. CalledIn trace m m) (sym same) (asks c b (here n (Asking c b) same e))
    by_ask n c b e (inr apart) = told.asks n c b (sym (stand_other stands line n new is.first apart) ∙ e)

    by_call : (n c x : ℕ) (b : Bool) → stand_at (set stands (line - 1) new) n ≡ Calling c x b → (n ≡ line) ⊎ (n ≢ line) → CalledIn trace n x
    by_call n c x b e (inl same) = subst (λ m. CalledIn trace m x) (sym same) (calls c x b (here n (Calling c x b) same e))
    by_call n c x b e (inr apart) = told.calls n c x b (sym (stand_other stands line n new is.first apart) ∙ e)

-- a fact of what a call gave, where it gave something
pub if_ok_so : {T E : Type 0} {B C : T → Type 0} (r : Result T E) → ((x : T) → B x → C x) → IfOk r B → IfOk r C
if_ok_so (result.Ok x) f b = f x b
if_ok_so (result.Err e) f b = tt

-- no call begins or ends of a transaction
pub called_set : (stands : List Stand) (line : ℕ) (new : Stand) → IsLine stands line → ((c x : ℕ) (b : Bool) → new ≡ Calling c x b → ⊥) → ((c m : ℕ) → stand_at stands line ≡ HasBegun c m → ⊥) → AreCalled stands → AreCalled (set stands (line - 1) new)
called_set stands line new is after before calls n c x b e = by (same_line line n)
  where
    by : (n ≡ line) ⊎ (n ≢ line) → stand_at (set stands (line - 1) new) x ≡ HasBegun c n
    by (inl same) = absurd (after c x b (sym (stand_same stands line new is) ∙ ap (stand_at (set stands (line - 1) new)) (sym same) ∙ e))
    by (inr apart) = stand_other stands line x new is.first (λ f. before c n (ap (stand_at stands) (sym f) ∙ there)) ∙ there
      where
        there : stand_at stands x ≡ HasBegun c n
        there = calls n c x b (sym (stand_other stands line n new is.first apart) ∙ e)

module _ {P : Type 0} where
  pub books_same : (s t : Clients P) → t.clients ≡ s.clients → (c : ℕ) → book_at t c ≡ book_at s c
  books_same s t e c = ap (λ v. get_or (map book_of v.items) c blank) e

  pub crashed_same : (s t : Clients P) → t.clients ≡ s.clients → crashed_of t ≡ crashed_of s
  crashed_same s t e = ap (λ v. map (λ (c : ClientState). c.crashed) v.items) e

  pub row_within : (rows : List (Row P)) (line : ℕ) → IsLine (stands_of rows) line → line - 1 < length rows
  row_within rows line is = let one = is.first in let last = is.last in let long = length-map rows stand_of in omega (arith, one, last, long)

  pub prepared_act : (a : Act) (c m : ℕ) (r : Row P) → stand_of r ≡ HasBegun c m → IsPrepared (tells.Act a) r
  prepared_act a c m row.Plain e = tt
  prepared_act a c m (row.Client d) e = tt
  prepared_act a c m (row.Asking d b call) e = absurd (cc)
  prepared_act a c m (row.Begun d t n) e = tt
  prepared_act a c m (row.Calling d x b) e = tt
  prepared_act a c m (row.Past d) e = tt
  prepared_act a c m (row.Working d job) e = tt

  module _ (w : Ways P) where
    pub settled_silent : (c : ℕ) (r : Row P) → HasSettled c (stand_of r) → RowReady w r → (a : Awaited) → wants w r a → ⊥
    settled_silent c row.Plain h may a x = x
    settled_silent c (row.Client d) h may a x = x
    settled_silent c (row.Asking d b call) h may a x = settled_ask c d b h
    settled_silent c (row.Begun d t m) h may a x = rest_silent w t.work a (may.1 (settled_rest c d m h)) x
    settled_silent c (row.Calling d y b) h may a x = x
    settled_silent c (row.Past d) h may a x = x
    settled_silent c (row.Working d job) h may a x = x

    -- no transaction stands here
    pub past_arises : (c : ℕ) (r : Row P) → (stand_of r ≡ Past c) ⊎ (stand_of r ≡ Working c) → (trace : Option Trace) (at : ℕ) (o : Posted) (nexts : List ℕ) → RowArises w trace at o nexts r
    past_arises c row.Plain h trace at o nexts = tt
    past_arises c (row.Client d) h trace at o nexts = tt
    past_arises c (row.Asking d b call) h trace at o nexts = absurd (elim h [ inl e ↦ cc | inr e ↦ cc ])
    past_arises c (row.Begun d t m) h trace at o nexts = absurd (elim h [ inl e ↦ cc | inr e ↦ cc ])
    past_arises c (row.Calling d x b) h trace at o nexts = tt
    past_arises c (row.Past d) h trace at o nexts = tt
    past_arises c (row.Working d job) h trace at o nexts = tt

    pub rests_silent : (n c m : ℕ) (r : Row P) → stand_of r ≡ HasBegun c m → Rests r → (a : Awaited) → wants w (with_waits n r) a → ⊥
    rests_silent n c m row.Plain e rests a x = x
    rests_silent n c m (row.Client d) e rests a x = x
    rests_silent n c m (row.Asking d b call) e rests a x = absurd (no e)
      where
        no : Asking d b ≡ HasBegun c m → ⊥
        no f = cc
    rests_silent n c m (row.Begun d t i) e rests a x = rest_silent w t.work a rests x
    rests_silent n c m (row.Calling d y b) e rests a x = x
    rests_silent n c m (row.Past d) e rests a x = x
    rests_silent n c m (row.Working d job) e rests a x = x

    pub rests_when_free : (c : ℕ) (r : Row P) → stand_of r ≡ HasBegun c 0 → RowReady w r → Rests r
    rests_when_free c row.Plain e may = tt
    rests_when_free c (row.Client d) e may = tt
    rests_when_free c (row.Asking d b call) e may = tt
    rests_when_free c (row.Begun d t i) e may = may.1 (waited d c i 0 e)
    rests_when_free c (row.Calling d y b) e may = tt
    rests_when_free c (row.Past d) e may = tt
    rests_when_free c (row.Working d job) e may = tt

    -- Where no other client and no ask changes.

    pub quiet_goes : (trace : Option Trace) (s t : Clients P) (client : ℕ) (rest : List Asker) (ps : List Posting) (es fs : List Ending) → IsSound w (posting_in ps trace) rest t → EndsMore w (posting_in ps trace) es fs → ((n : ℕ) (a : Awaited) → Wants w (rows_of t) n a → Wants w (rows_of s) n a) → ((c : ℕ) → book_at t c ≡ book_at s c)
        → GoesOn w trace client (λ n a. ⊥) rest ps ps es fs s t
    quiet_goes trace s t client rest ps es fs sound ends fewer books = record {
      sound = sound;
      ends = ends;
      posted = keeps_none ps;
      lines = λ n a x. inl (fewer n a x, λ h. h);
      outs = λ c. ap (λ (b : Book). b.out) (books c);
      tickets = λ c. ap (λ (b : Book). b.ticket) (books c);
      books = λ c apart. books c;
    }

    pub met_more : (ps qs : List Posting) (n : ℕ) (a : Awaited) → Keeps ps qs → IsMet ps n a → IsMet qs n a
    met_more ps qs n (ReplyTo k) keeps h = keeps_any _ ps qs keeps h
    met_more ps qs n (EndOf k) keeps h = keeps_any _ ps qs keeps h
    met_more ps qs n (TimeOf k) keeps h = tt

    -- one part after another
    pub goes_on : (trace : Option Trace) (s m t : Clients P) (client : ℕ) (Heard More : ℕ → Awaited → Type 0) (rest left : List Asker) (ps qs rs : List Posting) (es fs gs : List Ending) → GoesOn w trace client Heard rest ps qs es fs s m → GoesOn w trace client More left qs rs fs gs m t → GoesOn w trace client Heard left ps rs es gs s t
    goes_on trace s m t client Heard More rest left ps qs rs es fs gs f g = record {
      sound = g.sound;
      ends = ends_then w trace qs rs es fs gs g.posted f.ends g.ends;
      posted = keeps_then ps qs rs f.posted g.posted;
      lines = λ n a x. elim (g.lines n a x) [
        | inl y ↦ elim (f.lines n a y.0) [ inl z ↦ inl z | inr z ↦ inr (met_more qs rs n a g.posted z) ]
        | inr y ↦ inr y
      ];
      outs = λ c. g.outs c ∙ f.outs c;
      tickets = λ c. g.tickets c ∙ f.tickets c;
      books = λ c apart. g.books c apart ∙ f.books c apart;
    }

    module _ (p : IsLawful w.plan) where
      pub rests_arises : (trace : Option Trace) (at : ℕ) (n c m : ℕ) (r : Row P) → stand_of r ≡ HasBegun c m → Rests r → (o later : Posted) (nexts : List ℕ) → CountedIn trace later.line 0 → RowArises w trace at o nexts r → RowArises w trace at later nexts (with_waits n r)
      rests_arises trace at n c m row.Plain e rests o later nexts none x = tt
      rests_arises trace at n c m (row.Client d) e rests o later nexts none x = tt
      rests_arises trace at n c m (row.Asking d b call) e rests o later nexts none x = absurd (no e)
        where
          no : Asking d b ≡ HasBegun c m → ⊥
          no f = cc
      rests_arises trace at n c m (row.Begun d t i) e rests o later nexts none x = stand_rests w p t o later nexts nexts rests (λ j. le_of (next_at nexts j) (next_at nexts j) refl) none x
      rests_arises trace at n c m (row.Calling d y b) e rests o later nexts none x = tt
      rests_arises trace at n c m (row.Past d) e rests o later nexts none x = tt
      rests_arises trace at n c m (row.Working d job) e rests o later nexts none x = tt

      place_of : (line : ℕ) → 1 ≤ line → line ≡ suc (line - 1)
      place_of line first = omega (arith, first)

      placed : (trace : Option Trace) (line : ℕ) (r : Row P) → 1 ≤ line → ((o : Posted) (nexts : List ℕ) → RowArises w trace line o nexts r)
          → (o : Posted) (nexts : List ℕ) → RowArises w trace (suc (line - 1)) o nexts r
      placed trace line r first here o nexts = subst (λ n. RowArises w trace n o nexts r) (place_of line first) (here o nexts)

      -- a row is set that waits for nothing
      pub one_set : (trace : Option Trace) (s t : Clients P) (line : ℕ) (r : Row P) → IsLine (stands_of (rows_of s)) line → rows_of t ≡ set (rows_of s) (line - 1) r → nexts_of t ≡ nexts_of s → asks_of t ≡ asks_of s
          → ((o : Posted) (nexts : List ℕ) → RowArises w trace line o nexts r)
          → ((i : ℕ) → RowArises w trace (suc i) (posted_at (nexts_of s) (asks_of s) (voice_at (rows_of s) i)) (nexts_of s) (row_at (rows_of s) i))
          → (i : ℕ) → RowArises w trace (suc i) (posted_at (nexts_of t) (asks_of t) (voice_at (rows_of t) i)) (nexts_of t) (row_at (rows_of t) i)
      one_set trace s t line r is rows nexts asks here there i =
          subst (λ ns. RowArises w trace (suc i) (posted_at ns (asks_of t) (voice_at (rows_of t) i)) ns (row_at (rows_of t) i)) (sym nexts)
          (subst (λ ns. RowArises w trace (suc i) (posted_at (nexts_of s) ns (voice_at (rows_of t) i)) (nexts_of s) (row_at (rows_of t) i)) (sym asks)
          (subst (λ rs. RowArises w trace (suc i) (posted_at (nexts_of s) (asks_of s) (voice_at rs i)) (nexts_of s) (row_at rs i)) (sym rows)
          (arisen_set w trace (rows_of s) (line - 1) r (nexts_of s) (asks_of s) (row_within (rows_of s) line is) (placed trace line r is.first here _ _) (λ j apart. there j) i)))

      -- the call for a timestamp that stands at a line ends
      pub asked_goes : (trace : Option Trace) (s t : Clients P) (line client c : ℕ) (b : Bool) (r : Row P) (rest : List Asker) (ps : List Posting) (es fs : List Ending) → IsLine (stands_of (rows_of s)) line → stand_at (stands_of (rows_of s)) line ≡ Asking c b
          → HasSettled c (stand_of r) → RowReady w r → ((o : Posted) (nexts : List ℕ) → RowArises w (posting_in ps trace) line o nexts r)
          → rows_of t ≡ set (rows_of s) (line - 1) r → nexts_of t ≡ nexts_of s → asks_of t ≡ asks_of s → t.clients ≡ s.clients → EndsMore w (posting_in ps trace) es fs
          → IsSound w (posting_in ps trace) rest s → GoesOn w trace client (λ n a. ⊥) rest ps ps es fs s t
      asked_goes trace s t line client c b r rest ps es fs is asks settled may here rows nexts same_asks clients ends sound = quiet_goes trace s t client rest ps es fs whole ends fewer (books_same s t clients)
        where
          stands : stands_of (rows_of t) ≡ set (stands_of (rows_of s)) (line - 1) (stand_of r)
          stands = ap stands_of rows ∙ stands_set (rows_of s) (line - 1) r

          fewer : (n : ℕ) (a : Awaited) → Wants w (rows_of t) n a → Wants w (rows_of s) n a
          fewer n a x = wants_fewer w (rows_of s) (line - 1) r (row_within (rows_of s) line is) (settled_silent c r settled may) n a (subst (λ rs. Wants w rs n a) rows x)

          of : (n : ℕ) → client_at (stand_at (stands_of (rows_of t)) n) ≡ client_at (stand_at (stands_of (rows_of s)) n)
          of n = ap (λ ss. client_at (stand_at ss n)) stands ∙ clients_set (stands_of (rows_of s)) line (stand_of r) is (settled_client c (stand_of r) settled ∙ sym (ap client_at asks)) n

          crashed : crashed_of t ≡ crashed_of s
          crashed = crashed_same s t clients

          told : AreToldIn (posting_in ps trace) (stands_of (rows_of t))
          told = subst (AreToldIn (posting_in ps trace)) (sym stands) (told_set (posting_in ps trace) (stands_of (rows_of s)) line (stand_of r) is (λ d a e. absurd (settled_asking c (stand_of r) settled d a e)) (λ d x a e. absurd (settled_call c (stand_of r) settled d x a e)) sound.told)

          whole : IsSound w (posting_in ps trace) rest t
          whole = sound_from w (posting_in ps trace) s t rest told (one_set (posting_in ps trace) s t line r is rows nexts same_asks here sound.arisen)
              (subst AreCalled (sym stands) (called_set (stands_of (rows_of s)) line (stand_of r) is (λ d x a e. settled_call c (stand_of r) settled d x a e) (λ d m e. other d m (sym asks ∙ e)) sound.called))
              (λ n d e. subst (λ cs. d < length cs) (sym crashed) (sound.known n d (sym (of n) ∙ e)))
              (λ n d i e l x. (sym (of n) ∙ e, ap (λ cs. lives cs (Some d)) (sym crashed) ∙ l, fewer n (TimeOf i) x))
              (λ n d e. of n ∙ e) (books_same s t clients) (λ n. le_of (next_at (nexts_of s) n) (next_at (nexts_of t) n) (ap (λ ns. next_at ns n) (sym nexts))) fewer sound
            where
              other : (d m : ℕ) → Asking c b ≡ HasBegun d m → ⊥
              other d m q = cc

      -- two rows are set that wait for nothing
      pub two_arisen : (trace : Option Trace) (s t : Clients P) (line x : ℕ) (r y : Row P) → IsLine (stands_of (rows_of s)) line → IsLine (stands_of (rows_of s)) x → rows_of t ≡ set (set (rows_of s) (x - 1) y) (line - 1) r → nexts_of t ≡ nexts_of s → asks_of t ≡ asks_of s
          → ((o : Posted) → RowArises w trace (suc (line - 1)) o (nexts_of s) r) → ((o : Posted) → RowArises w trace (suc (x - 1)) o (nexts_of s) y)
          → ((i : ℕ) → RowArises w trace (suc i) (posted_at (nexts_of s) (asks_of s) (voice_at (rows_of s) i)) (nexts_of s) (row_at (rows_of s) i))
          → (i : ℕ) → RowArises w trace (suc i) (posted_at (nexts_of t) (asks_of t) (voice_at (rows_of t) i)) (nexts_of t) (row_at (rows_of t) i)
      two_arisen trace s t line x r y is at rows nexts asks here mine there i =
          subst (λ ns. RowArises w trace (suc i) (posted_at ns (asks_of t) (voice_at (rows_of t) i)) ns (row_at (rows_of t) i)) (sym nexts)
          (subst (λ ns. RowArises w trace (suc i) (posted_at (nexts_of s) ns (voice_at (rows_of t) i)) (nexts_of s) (row_at (rows_of t) i)) (sym asks)
          (subst (λ rs. RowArises w trace (suc i) (posted_at (nexts_of s) (asks_of s) (voice_at rs i)) (nexts_of s) (row_at rs i)) (sym rows)
          (arisen_set w trace (set (rows_of s) (x - 1) y) (line - 1) r (nexts_of s) (asks_of s) within (here _)
          (λ j apart. arisen_set w trace (rows_of s) (x - 1) y (nexts_of s) (asks_of s) (row_within (rows_of s) x at) (mine _) (λ m far. there m) j) i)))
        where
          within : line - 1 < length (set (rows_of s) (x - 1) y)
          within = subst (λ n. line - 1 < n) (sym (length-set (rows_of s) (x - 1) y)) (row_within (rows_of s) line is)

      pub two_fewer : (rows news : List (Row P)) (line x : ℕ) (r y : Row P) → IsLine (stands_of rows) line → IsLine (stands_of rows) x → news ≡ set (set rows (x - 1) y) (line - 1) r
          → ((a : Awaited) → wants w r a → ⊥) → ((a : Awaited) → wants w y a → ⊥) → (n : ℕ) (a : Awaited) → Wants w news n a → Wants w rows n a
      two_fewer rows news line x r y is at e here mine n a z =
          wants_fewer w rows (x - 1) y (row_within rows x at) mine n a
          (wants_fewer w (set rows (x - 1) y) (line - 1) r (subst (λ i. line - 1 < i) (sym (length-set rows (x - 1) y)) (row_within rows line is)) here n a (subst (λ rs. Wants w rs n a) e z))

      -- a call of a transaction ends, which waits no more
      pub called_goes_on : (trace : Option Trace) (s t : Clients P) (line x client c d : ℕ) (b : Bool) (r : Row P) (rest : List Asker) (ps : List Posting) (es fs : List Ending) → IsLine (stands_of (rows_of s)) line → stand_at (stands_of (rows_of s)) line ≡ Calling c x b → stand_at (stands_of (rows_of s)) x ≡ HasBegun d line
          → Rests (row_at (rows_of s) (x - 1)) → HasSettled c (stand_of r) → RowReady w r → ((at : ℕ) (o : Posted) (nexts : List ℕ) → RowArises w (posting_in ps trace) at o nexts r)
          → rows_of t ≡ set (set (rows_of s) (x - 1) (with_waits 0 (row_at (rows_of s) (x - 1)))) (line - 1) r → nexts_of t ≡ nexts_of s → asks_of t ≡ asks_of s → t.clients ≡ s.clients → EndsMore w (posting_in ps trace) es fs
          → IsSound w (posting_in ps trace) rest s → GoesOn w trace client (λ n a. ⊥) rest ps ps es fs s t
      called_goes_on trace s t line x client c d b r rest ps es fs is calls waits rests settled may here rows nexts same_asks clients ends sound = quiet_goes trace s t client rest ps es fs whole ends fewer (books_same s t clients)
        where
          ss : List Stand
          ss = stands_of (rows_of s)

          at : IsLine ss x
          at = line_of ss x (λ i. idle (sym waits ∙ i))
            where
              idle : HasBegun d line ≡ Idle → ⊥
              idle q = cc

          mine : Row P
          mine = row_at (rows_of s) (x - 1)

          begun : stand_of mine ≡ HasBegun d line
          begun = sym (stand_of_line (rows_of s) x at.first) ∙ waits

          mid : List Stand
          mid = set ss (x - 1) (HasBegun d 0)

          is_mid : IsLine mid line
          is_mid = record { first = is.first; last = subst (λ n. line ≤ n) (sym (length-set ss (x - 1) (HasBegun d 0))) is.last }

          stands : stands_of (rows_of t) ≡ set mid (line - 1) (stand_of r)
          stands = ap stands_of rows ∙ ended_stands (rows_of s) line x d line r at waits

          fewer : (n : ℕ) (a : Awaited) → Wants w (rows_of t) n a → Wants w (rows_of s) n a
          fewer = two_fewer (rows_of s) (rows_of t) line x r (with_waits 0 mine) is at rows (settled_silent c r settled may) (rests_silent 0 d line mine begun rests)

          far : x ≢ line
          far e = two (sym calls ∙ ap (stand_at ss) (sym e) ∙ waits)
            where
              two : Calling c x b ≡ HasBegun d line → ⊥
              two q = cc

          mid_line : stand_at mid line ≡ Calling c x b
          mid_line = stand_other ss x line (HasBegun d 0) at.first (λ e. far (sym e)) ∙ calls

          of : (n : ℕ) → client_at (stand_at (stands_of (rows_of t)) n) ≡ client_at (stand_at ss n)
          of n = ap (λ zs. client_at (stand_at zs n)) stands ∙ clients_set mid line (stand_of r) is_mid (settled_client c (stand_of r) settled ∙ sym (ap client_at mid_line)) n ∙ clients_set ss x (HasBegun d 0) at (sym (ap client_at waits)) n

          crashed : crashed_of t ≡ crashed_of s
          crashed = crashed_same s t clients

          all_called : AreCalled (set mid (line - 1) (stand_of r))
          all_called n e y g f = by (same_line line n) (same_line x n)
            where
              by : (n ≡ line) ⊎ (n ≢ line) → (n ≡ x) ⊎ (n ≢ x) → stand_at (set mid (line - 1) (stand_of r)) y ≡ HasBegun e n
              by (inl same) other = absurd (settled_call c (stand_of r) settled e y g (sym (stand_same mid line (stand_of r) is_mid) ∙ ap (stand_at (set mid (line - 1) (stand_of r))) (sym same) ∙ f))
              by (inr apart) (inl same) = absurd (two (sym (stand_same ss x (HasBegun d 0) at) ∙ ap (stand_at mid) (sym same) ∙ sym (stand_other mid line n (stand_of r) is.first apart) ∙ f))
                where
                  two : HasBegun d 0 ≡ Calling e y g → ⊥
                  two q = cc
              by (inr apart) (inr off) = stand_other mid line y (stand_of r) is.first not_line ∙ stand_other ss x y (HasBegun d 0) at.first not_x ∙ there
                where
                  there : stand_at ss y ≡ HasBegun e n
                  there = sound.called n e y g (sym (stand_other ss x n (HasBegun d 0) at.first off) ∙ sym (stand_other mid line n (stand_of r) is.first apart) ∙ f)

                  not_line : y ≢ line
                  not_line z = two (sym calls ∙ ap (stand_at ss) (sym z) ∙ there)
                    where
                      two : Calling c x b ≡ HasBegun e n → ⊥
                      two q = cc

                  not_x : y ≢ x
                  not_x z = apart (sym (waited d e line n (sym waits ∙ ap (stand_at ss) (sym z) ∙ there)))

          told : AreToldIn (posting_in ps trace) (stands_of (rows_of t))
          told = subst (AreToldIn (posting_in ps trace)) (sym stands) (told_set (posting_in ps trace) mid line (stand_of r) is_mid (λ e a f. absurd (settled_asking c (stand_of r) settled e a f)) (λ e y a f. absurd (settled_call c (stand_of r) settled e y a f))
              (told_set (posting_in ps trace) ss x (HasBegun d 0) at (λ e a f. absurd (begun_asks d 0 e a f)) (λ e y a f. absurd (begun_calls d 0 e y a f)) sound.told))

          whole : IsSound w (posting_in ps trace) rest t
          whole = sound_from w (posting_in ps trace) s t rest told
              (two_arisen (posting_in ps trace) s t line x r (with_waits 0 mine) is at rows nexts same_asks (λ o. here _ o (nexts_of s)) (λ o. rests_arises (posting_in ps trace) (suc (x - 1)) 0 d line mine begun rests _ o (nexts_of s) (sound.owing o.line) (sound.arisen (x - 1))) sound.arisen)
              (subst AreCalled (sym stands) all_called)
              (λ n e f. subst (λ cs. e < length cs) (sym crashed) (sound.known n e (sym (of n) ∙ f)))
              (λ n e i f l z. (sym (of n) ∙ f, ap (λ cs. lives cs (Some e)) (sym crashed) ∙ l, fewer n (TimeOf i) z))
              (λ n e f. of n ∙ f) (books_same s t clients) (λ n. le_of (next_at (nexts_of s) n) (next_at (nexts_of t) n) (ap (λ ns. next_at ns n) (sym nexts))) fewer sound

-- What stands tells what row it is.

module _ {P : Type 0} where
  pub asking_row : (r : Row P) (c : ℕ) (b : Bool) → stand_of r ≡ Asking c b → (call : ClientCall Pd P) × (r ≡ row.Asking c b call)
  asking_row row.Plain c b e = absurd (cc)
  asking_row (row.Client d) c b e = absurd (cc)
  asking_row (row.Asking d a call) c b e = (call, λ i. row.Asking (asker e i) (begins e i) call)
    where
      asker : Asking d a ≡ Asking c b → d ≡ c
      asker q = cc

      begins : Asking d a ≡ Asking c b → a ≡ b
      begins q = cc
  asking_row (row.Begun d t m) c b e = absurd (cc)
  asking_row (row.Calling d x a) c b e = absurd (cc)
  asking_row (row.Past d) c b e = absurd (cc)
  asking_row (row.Working d job) c b e = absurd (cc)

  pub calling_row : (r : Row P) (c x : ℕ) (b : Bool) → stand_of r ≡ Calling c x b → r ≡ row.Calling c x b
  calling_row row.Plain c x b e = absurd (cc)
  calling_row (row.Client d) c x b e = absurd (cc)
  calling_row (row.Asking d a call) c x b e = absurd (cc)
  calling_row (row.Begun d t m) c x b e = absurd (cc)
  calling_row (row.Calling d y a) c x b e = λ i. row.Calling (caller e i) (of e i) (commits e i)
    where
      caller : Calling d y a ≡ Calling c x b → d ≡ c
      caller q = cc

      of : Calling d y a ≡ Calling c x b → y ≡ x
      of q = cc

      commits : Calling d y a ≡ Calling c x b → a ≡ b
      commits q = cc
  calling_row (row.Past d) c x b e = absurd (cc)
  calling_row (row.Working d job) c x b e = absurd (cc)

  free_runs : (r : Row P) (d m : ℕ) → stand_of r ≡ HasBegun d m → RowRuns (with_waits 0 r)
  free_runs row.Plain d m e = tt
  free_runs (row.Client c) d m e = tt
  free_runs (row.Asking c b call) d m e = absurd (cc)
  free_runs (row.Begun c t n) d m e = λ some. absurd (some refl)
  free_runs (row.Calling c x b) d m e = tt
  free_runs (row.Past c) d m e = tt
  free_runs (row.Working c job) d m e = tt

  pub ended_running : (rows : List (Row P)) (line y d c x e : ℕ) (a b : Bool) (r : Row P) → IsLine (stands_of rows) line → stand_at (stands_of rows) line ≡ Calling d y a → stand_at (stands_of rows) line ≡ Calling c x b → stand_at (stands_of rows) x ≡ HasBegun e line
      → AreRunningBut (y - 1) rows → HasSettled c (stand_of r) → AreRunning (set (set rows (x - 1) (with_waits 0 (row_at rows (x - 1)))) (line - 1) r)
  ended_running rows line y d c x e a b r is calls here waits but settled =
      running_set (set rows (x - 1) mine) (line - 1) r (subst (λ n. line - 1 < n) (sym (length-set rows (x - 1) mine)) (row_within rows line is))
      (λ i apart. running_set rows (x - 1) mine (row_within rows x at) (subst (λ j. AreRunningBut (j - 1) rows) same but) (free_runs (row_at rows (x - 1)) e line begun) i) (settled_runs c r settled)
    where
      mine : Row P
      mine = with_waits 0 (row_at rows (x - 1))

      at : IsLine (stands_of rows) x
      at = line_of (stands_of rows) x (λ i. none (sym waits ∙ i))
        where
          none : HasBegun e line ≡ Idle → ⊥
          none q = cc

      begun : stand_of (row_at rows (x - 1)) ≡ HasBegun e line
      begun = sym (stand_of_line rows x at.first) ∙ waits

      one : Calling d y a ≡ Calling c x b → y ≡ x
      one q = cc

      same : y ≡ x
      same = one (sym calls ∙ here)

  -- its line is of the same client
  pub ended_client : (rows news : List (Row P)) (line x c d : ℕ) (b : Bool) (r : Row P) → IsLine (stands_of rows) line → stand_at (stands_of rows) line ≡ Calling c x b → client_at (stand_at (stands_of rows) line) ≡ Some d → HasSettled c (stand_of r)
      → news ≡ set (set rows (x - 1) (with_waits 0 (row_at rows (x - 1)))) (line - 1) r → client_at (stand_at (stands_of news) line) ≡ Some d
  ended_client rows news line x c d b r is calls own settled e =
      ap (λ rs. client_at (stand_at (stands_of rs) line)) e ∙ ap (λ ss. client_at (stand_at ss line)) (stands_set mid (line - 1) r) ∙ ap client_at (stand_same (stands_of mid) line (stand_of r) is_mid) ∙ settled_client c (stand_of r) settled ∙ sym (ap client_at calls) ∙ own
    where
      mid : List (Row P)
      mid = set rows (x - 1) (with_waits 0 (row_at rows (x - 1)))

      is_mid : IsLine (stands_of mid) line
      is_mid = record { first = is.first; last = let last = is.last in let long = length-map rows stand_of in let more = length-map mid stand_of in let same = length-set rows (x - 1) (with_waits 0 (row_at rows (x - 1))) in omega (arith, last, long, more, same) }

-- a call that has ended is past, or has left a job
pub call_past : (c : ℕ) (b : Bool) (o : Outcome) (s : Stand) → CallEnds c b o s → (s ≡ Past c) ⊎ (s ≡ Working c)
call_past c true (Ok Nothing) s h = absurd h
call_past c true (Ok (Number v)) s h = absurd h
call_past c true (Ok (Committed t)) s h = h
call_past c true (Err e) s h = inl h
call_past c true Unfinished s h = absurd h
call_past c true Done s h = absurd h
call_past c true Skipped s h = absurd h
call_past c false (Ok Nothing) s h = inl h
call_past c false (Ok (Number v)) s h = absurd h
call_past c false (Ok (Committed t)) s h = absurd h
call_past c false (Err e) s h = inl h
call_past c false Unfinished s h = absurd h
call_past c false Done s h = absurd h
call_past c false Skipped s h = absurd h

-- Who answers

-- a call for a timestamp answered, at the place that hears for the line
pub record IsAskedAt (stands : List Stand) (line at : ℕ) : Type 0 where
  pub c : ℕ
  pub b : Bool
  pub stand : stand_at stands line ≡ Asking c b
  pub place : at ≡ line - 1

pub record IsCalledAt (stands : List Stand) (line at : ℕ) : Type 0 where
  pub c : ℕ
  pub x : ℕ
  pub b : Bool
  pub stand : stand_at stands line ≡ Calling c x b
  pub place : at ≡ x - 1

answers_ask : (P : Type 0) (s : Stand) (v : Result (ClientAnswer Pd P) Error) → IsAnswerOf {P = P} s (answers.Asked v) → (c : ℕ) × (b : Bool) × (s ≡ Asking c b)
answers_ask P Idle v h = absurd h
answers_ask P (IsClient c) v h = absurd h
answers_ask P (Asking c b) v h = (c, b, refl)
answers_ask P (HasBegun c m) v h = absurd h
answers_ask P (Calling c x b) v h = absurd h
answers_ask P (Past c) v h = absurd h
answers_ask P (Working c) v h = absurd h

answers_call : (P : Type 0) (s : Stand) (v : Result (TxnAnswer P) Error) → IsAnswerOf {P = P} s (answers.Called v) → (c : ℕ) × (m : ℕ) × (s ≡ HasBegun c m)
answers_call P Idle v h = absurd h
answers_call P (IsClient c) v h = absurd h
answers_call P (Asking c b) v h = absurd h
answers_call P (HasBegun c m) v h = (c, m, refl)
answers_call P (Calling c x b) v h = absurd h
answers_call P (Past c) v h = absurd h
answers_call P (Working c) v h = absurd h

pub ask_place : (stands : List Stand) (line at c : ℕ) (b : Bool) → stand_at stands (suc at) ≡ Asking c b → HearsFor stands line at (stand_at stands line) → IsAskedAt stands line at
ask_place stands line at c b e h = by (stand_at stands line) refl h
  where
    by : (s : Stand) → stand_at stands line ≡ s → HearsFor stands line at s → IsAskedAt stands line at
    by Idle k g = absurd g
    by (IsClient d) k g = absurd g
    by (Asking d a) k g = record { c = d; b = a; stand = k; place = omega (arith, g) }
    by (HasBegun d m) k g = absurd g
    by (Calling d x a) k (f, (u, w)) = absurd (two (sym e ∙ ap (stand_at stands) f ∙ w))
      where
        two : Asking c b ≡ HasBegun u line → ⊥
        two q = cc
    by (Past d) k g = absurd g
    by (Working d) k g = absurd (two (sym e ∙ ap (stand_at stands) g ∙ k))
      where
        two : Asking c b ≡ Working d → ⊥
        two q = cc

pub call_place : (stands : List Stand) (line at c m : ℕ) → stand_at stands (suc at) ≡ HasBegun c m → HearsFor stands line at (stand_at stands line) → IsCalledAt stands line at
call_place stands line at c m e h = by (stand_at stands line) refl h
  where
    by : (s : Stand) → stand_at stands line ≡ s → HearsFor stands line at s → IsCalledAt stands line at
    by Idle k g = absurd g
    by (IsClient d) k g = absurd g
    by (Asking d a) k g = absurd (two (sym e ∙ ap (stand_at stands) g ∙ k))
      where
        two : HasBegun c m ≡ Asking d a → ⊥
        two q = cc
    by (HasBegun d n) k g = absurd g
    by (Calling d x a) k (f, w) = record { c = d; x = x; b = a; stand = k; place = omega (arith, f) }
    by (Past d) k g = absurd g
    by (Working d) k g = absurd (two (sym e ∙ ap (stand_at stands) g ∙ k))
      where
        two : HasBegun c m ≡ Working d → ⊥
        two q = cc

module _ {P : Type 0} where
  pub asked_at : (rows : List (Row P)) (line at : ℕ) (v : Result (ClientAnswer Pd P) Error) → HearsFor (stands_of rows) line at (stand_at (stands_of rows) line) → IsAnswerOf {P = P} (stand_of (row_at rows at)) (answers.Asked v) → IsAskedAt (stands_of rows) line at
  asked_at rows line at v h k = let a = answers_ask P (stand_of (row_at rows at)) v k in ask_place (stands_of rows) line at a.0 a.1 (stand_read rows at ∙ a.2) h

  pub called_at : (rows : List (Row P)) (line at : ℕ) (v : Result (TxnAnswer P) Error) → HearsFor (stands_of rows) line at (stand_at (stands_of rows) line) → IsAnswerOf {P = P} (stand_of (row_at rows at)) (answers.Called v) → IsCalledAt (stands_of rows) line at
  called_at rows line at v h k = let a = answers_call P (stand_of (row_at rows at)) v k in call_place (stands_of rows) line at a.0 a.1 (stand_read rows at ∙ a.2) h

  -- what it answers rests on what stands there

  module _ (w : Ways P) where
    pub asked_rests : (trace : Option Trace) (rows : List (Row P)) (line at : ℕ) (v : Result (ClientAnswer Pd P) Error) (answer : Option (Answer P)) → HearsFor (stands_of rows) line at (stand_at (stands_of rows) line) → IsAnswerOf {P = P} (stand_of (row_at rows at)) (answers.Asked v)
        → answer ≡ Some (answers.Asked v) → IfSome answer (AnswerRests w trace (suc at) line) → AskRests w trace line line v
    asked_rests trace rows line at v answer hears kind is rests =
        let a = asked_at rows line at v hears kind in
        subst (λ n. AskRests w trace n line v) (subst (HearsFor (stands_of rows) line at) a.stand hears) (subst (λ x. IfSome x (AnswerRests w trace (suc at) line)) is rests)

    pub called_rests : (trace : Option Trace) (rows news : List (Row P)) (line at : ℕ) (v : Result (TxnAnswer P) Error) (answer : Option (Answer P)) → stands_of news ≡ stands_of rows → HearsFor (stands_of rows) line at (stand_at (stands_of rows) line)
        → answer ≡ Some (answers.Called v) → IfSome answer (AnswerRests w trace (suc at) line) → (c x : ℕ) (b : Bool) → stand_at (stands_of news) line ≡ Calling c x b → IfFails (FailsAt w OfTransaction trace x line) v
    called_rests trace rows news line at v answer same hears is rests c x b calls =
        let h = subst (HearsFor (stands_of rows) line at) (ap (λ ss. stand_at ss line) (sym same) ∙ calls) hears in
        subst (λ n. IfFails (FailsAt w OfTransaction trace n line) v) h.0 (subst (λ y. IfSome y (AnswerRests w trace (suc at) line)) is rests)

-- Who hears, and runs on

pub client_same : (c d : ℕ) → Some c ≡ Some d → c ≡ d
client_same c d e = cc

module _ {P : Type 0} where
  prepared_start : (c : ℕ) (r : Row P) → stand_of r ≡ Working c → IsPrepared tells.Start r
  prepared_start c row.Plain e = tt
  prepared_start c (row.Client d) e = tt
  prepared_start c (row.Asking d b call) e = absurd (cc)
  prepared_start c (row.Begun d t m) e = absurd (cc)
  prepared_start c (row.Calling d x b) e = tt
  prepared_start c (row.Past d) e = tt
  prepared_start c (row.Working d job) e = tt

  pub job_heard : (rows : List (Row P)) (line client c : ℕ) → IsLine (stands_of rows) line → client_at (stand_at (stands_of rows) line) ≡ Some client → stand_of (row_at rows (line - 1)) ≡ Working c → IsHeard (stands_of rows) line (line - 1) client
  job_heard rows line client c is own e = record {
    own = own;
    voiced = ap (voice (line - 1)) (stand_read rows (line - 1) ∙ e) ∙ (let one = is.first in omega (arith, one));
  }

  pub job_runs : (rows news : List (Row P)) (at c : ℕ) (answer : Option (Answer P)) → stand_of (row_at rows at) ≡ Working c → IfSome answer (IsAnswerOf (stand_of (row_at rows at))) → RunsOn tells.Start at answer rows news → AreRunning rows → AreRunning news
  job_runs rows news at c None e kind runs running = let r = runs (λ i apart. running i) (prepared_start c (row_at rows at) e) in r.1 refl
  job_runs rows news at c (Some v) e kind runs running = absurd (subst (λ s. IsAnswerOf s v) e kind)

  module _ (w : Ways P) where
    pub goes_weaker : (trace : Option Trace) (s t : Clients P) (client : ℕ) (Heard Less : ℕ → Awaited → Type 0) (rest : List Asker) (ps qs : List Posting) (es fs : List Ending) → ((n : ℕ) (a : Awaited) → Less n a → Heard n a) → GoesOn w trace client Heard rest ps qs es fs s t → GoesOn w trace client Less rest ps qs es fs s t
    goes_weaker trace s t client Heard Less rest ps qs es fs f g = record {
      sound = g.sound;
      ends = g.ends;
      posted = g.posted;
      lines = λ n a x. elim (g.lines n a x) [ inl y ↦ inl (y.0, λ h. y.1 (f n a h)) | inr y ↦ inr y ];
      outs = g.outs;
      tickets = g.tickets;
      books = g.books;
    }

    -- nobody hears what is told
    pub unheard_goes : (trace : Option Trace) (s : Clients P) (line client : ℕ) (told : Told) (rest : List Asker) (ps : List Posting) (es : List Ending) → IsLine (stands_of (rows_of s)) line → AreMatched (stands_of (rows_of s)) → NoneHears (stands_of (rows_of s)) line (stand_at (stands_of (rows_of s)) line)
        → IsSound w (posting_in ps (owing line told trace)) (pends line told rest) s → GoesOn w trace client (HearsAt line told) rest ps ps es es s s
    unheard_goes trace s line client told rest ps es is matched none owed = record {
      ends = no_more w (posting_in ps trace) es;
      sound = record {
        told = sound.told;
        arisen = sound.arisen;
        called = sound.called;
        known = sound.known;
        asked = λ n c i e l x. elim (sound.asked n c i e l x) [
          | inl h ↦ inl h
          | inr h ↦ elim (pends_split line n i told rest h) [ inl g ↦ absurd (deaf n (TimeOf i) g.0 x) | inr g ↦ inr g ]
        ];
        paired = sound.paired;
        owned = sound.owned;
        numbered = sound.numbered;
        unwanted = sound.unwanted;
        owing = sound.owing;
      };
      posted = keeps_none ps;
      lines = λ n a x. inl (x, λ h. deaf n a h.0 x);
      outs = λ c. refl;
      tickets = λ c. refl;
      books = λ c apart. refl;
    }
      where
        sound : IsSound w (posting_in ps trace) (pends line told rest) s
        sound = sound_longer w (posting_in ps (owing line told trace)) (posting_in ps trace) (pends line told rest) s (subst (λ x. LongerIn x (posting_in ps trace)) (sym (owing_posting line told ps trace)) (owing_longer line told (posting_in ps trace))) owed

        deaf : (n : ℕ) (a : Awaited) → n ≡ line → Wants w (rows_of s) n a → ⊥
        deaf n a e (i, v, x) = unheard_voice (stands_of (rows_of s)) line i matched (λ z. let one = is.first in omega (arith, one, z)) none (ap (voice i) (stand_read (rows_of s) i) ∙ v ∙ e)

    -- whether it beats does not matter
    pub head_sound : (trace : Option Trace) (s : Clients P) (a : Asker) (rest : List Asker) → IsSound w trace (a ∷ rest) s → IsSound w trace (record { line = a.line; beat = false; ask = a.ask } ∷ rest) s
    head_sound trace s a rest sound = record {
      told = sound.told;
      arisen = sound.arisen;
      called = sound.called;
      known = sound.known;
      asked = λ n c i e l x. elim (sound.asked n c i e l x) [ inl h ↦ inl h | inr h ↦ inr (as_head n i h) ];
      paired = sound.paired;
      owned = sound.owned;
      numbered = sound.numbered;
      unwanted = sound.unwanted;
      owing = sound.owing;
    }
      where
        as_head : (n i : ℕ) → HasAsk (a ∷ rest) n i → HasAsk (record { line = a.line; beat = false; ask = a.ask } ∷ rest) n i
        as_head n i h = elim h.among [
          | inl e ↦ record { asker = record { line = a.line; beat = false; ask = a.ask }; among = inl refl; line = ap (λ (x : Asker). x.line) e ∙ h.line; ask = ap (λ (x : Asker). x.ask) e ∙ h.ask }
          | inr g ↦ record { asker = h.asker; among = inr g; line = h.line; ask = h.ask }
        ]

    -- what comes that is no timestamp
    pub pends_none : (trace : Option Trace) (s : Clients P) (line : ℕ) (a : Arrival) → IsSound w trace [] s → IsSound w trace (pends line (tells.Heard a) []) s
    pends_none trace s line (arrivals.Reply n x) sound = sound
    pends_none trace s line (arrivals.Lost n) sound = sound
    pends_none trace s line (arrivals.Slept n) sound = sound
    pends_none trace s line (arrivals.Time n x) sound = record {
      told = sound.told;
      arisen = sound.arisen;
      called = sound.called;
      known = sound.known;
      asked = λ n c i e l y. elim (sound.asked n c i e l y) [ inl h ↦ inl h | inr h ↦ absurd h.among ];
      paired = sound.paired;
      owned = sound.owned;
      numbered = sound.numbered;
      unwanted = sound.unwanted;
      owing = sound.owing;
    }
