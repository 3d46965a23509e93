-- What calls have heard stays shown as a trace goes on.
use Rattle.std.specs.Prelude.{◌≡◌, ℕ, Bool, List, [], ◌∷◌, map, Option, Some, None, refl, slice_index_or}
use Rattle.std.proofs.Common.{arith, zero, suc, inl, sym, ap, ◌∙◌, subst}
use Rattle.txn_kv.specs.Timestamp.{version_of}
use Rattle.txn_kv.specs.declared.request.Request.TheVariants.{Commit}
use Rattle.txn_kv.specs.declared.ticket.Ticket.{Ticket}
use Rattle.txn_history.specs.Event.{Event}
use Rattle.txn_history.specs.Event.Event.{Lost}
use Rattle.txn_history.specs.Plan.{Plan}
use Rattle.txn_history.specs.Posted.{Posted}
use Rattle.txn_commit.specs.Ways.{Ways}
use Rattle.txn_commit.specs.Sending.{plan_of}
use Rattle.txn_core.specs.Transaction.{Standing}
use Rattle.txn_side.specs.Sight.{Sight, Stand, client_at, nobody, stand_at}
use Rattle.txn_side.specs.Sight.Stand.{Asking, Calling}
use Rattle.txn_side.specs.Trace.{AreRefused, HasRefusedBeside, IsLonger, Trace, called_longer, refused_asks, times_in}
use Rattle.txn_side.specs.Trace.{shown_longer as event_longer}
use Rattle.txn_tso.specs.declared.asker.Asker.{Asker}
use Rattle.txn_clients.specs.Clients.{nexts_of, row_at, rows_of, sight_of, stands_of}
use Rattle.txn_clients.specs.Failing.{AreToldIn, CalledIn, CountedIn, LongerIn, LostIn, MarkedIn, ShownIn, RetriesIn}
use Rattle.txn_clients.specs.Rows.{stand_of, Pd}
use Rattle.txn_clients.specs.Waiting.{Book, IsSound, RowArises, asks_of, blank, book_at, book_of, posted_at, voice_at, WantedIn}
use Rattle.txn_clients.specs.declared.client_state.ClientState.{ClientState}
use Rattle.txn_clients.specs.declared.clients.Clients.{Clients}
use Rattle.txn_clients.specs.declared.row.Row.{Row}
use Rattle.txn_clients.specs.declared.row.Row.TheVariants as row
use Rattle.txn_client.specs.declared.client_call.ClientCall.{ClientCall}
use Rattle.txn_merge.specs.declared.retry_options.RetryOptions.{RetryOptions}

-- between steps the calls rest on what a trace has, and on nothing that is yet to come
abbrev pub RestsIn : {P : Type 0} → Ways P → Clients P → Trace → Type 0
RestsIn w s t = IsSound w (Some t) [] s

-- lemmas

pub shown_longer : (trace longer : Option Trace) (at : ℕ) (h : List Event) → LongerIn trace longer → ShownIn trace at h → ShownIn longer at h
shown_longer None None at h l s = tt
shown_longer None (Some u) at h l s = absurd l
shown_longer (Some t) None at h l s = absurd l
shown_longer (Some t) (Some u) at h l s = λ e i. event_longer t u l.0 at e (s e i)

pub called_in_longer : (trace longer : Option Trace) (line at : ℕ) → LongerIn trace longer → CalledIn trace line at → CalledIn longer line at
called_in_longer None None line at l c = tt
called_in_longer None (Some u) line at l c = absurd l
called_in_longer (Some t) None line at l c = absurd l
called_in_longer (Some t) (Some u) line at l c = called_longer t u l.0 line at c

pub retries_longer : (trace longer : Option Trace) (at : ℕ) (retries : RetryOptions) → LongerIn trace longer → RetriesIn trace at retries → RetriesIn longer at retries
retries_longer None None at retries l r = tt
retries_longer None (Some u) at retries l r = absurd l
retries_longer (Some t) None at retries l r = absurd l
retries_longer (Some t) (Some u) at retries l r = (r.0, l.0.begun (record { line = at; options = r.0 }) r.1, r.2)

-- a Commit of a transaction's primary was lost
pub lost_longer : (trace longer : Option Trace) (at : ℕ) (plan : Plan) (s : ℕ) (u : Ticket) → LongerIn trace longer → LostIn trace at plan s u → LostIn longer at plan s u
lost_longer None None at plan s u l k = tt
lost_longer None (Some v) at plan s u l k = absurd l
lost_longer (Some t) None at plan s u l k = absurd l
lost_longer (Some t) (Some v) at plan s u l k = (k.0, event_longer t v l.0 at (Lost u (Commit k.0)) k.1, k.2)

pub marked_longer : {P : Type 0} (trace longer : Option Trace) (at : ℕ) (t : Standing P) → LongerIn trace longer → MarkedIn trace at t → MarkedIn longer at t
marked_longer trace longer at t l m parts whole u e = lost_longer trace longer at (plan_of parts) (version_of t.start) u l (m parts whole u e)

pub wanted_longer : {P : Type 0} (trace longer : Option Trace) (at : ℕ) (call : ClientCall Pd P) → LongerIn trace longer → WantedIn trace at call → WantedIn longer at call
wanted_longer trace longer at call l r h b gives = retries_longer trace longer at b.options.retry_options l (r h b gives)

pub counted_longer : (trace longer : Option Trace) (line n : ℕ) → LongerIn trace longer → CountedIn trace line n → CountedIn longer line n
counted_longer None None line n l c = tt
counted_longer None (Some u) line n l c = absurd l
counted_longer (Some t) None line n l c = absurd l
counted_longer (Some t) (Some u) line n l c = let more = l.0 in more.beside line n c

pub told_longer : (trace longer : Option Trace) (stands : List Stand) → LongerIn trace longer → AreToldIn trace stands → AreToldIn longer stands
told_longer trace longer stands l a = record {
  asks = λ n c b e. called_in_longer trace longer n n l (a.asks n c b e);
  calls = λ n c x b e. called_in_longer trace longer n x l (a.calls n c x b e);
}

module _ {P : Type 0} (w : Ways P) where
  pub row_longer : (trace longer : Option Trace) (at : ℕ) (o : Posted) (nexts : List ℕ) (r : Row P) → LongerIn trace longer → RowArises w trace at o nexts r → RowArises w longer at o nexts r
  row_longer trace longer at o nexts row.Plain l x = tt
  row_longer trace longer at o nexts (row.Client c) l x = tt
  row_longer trace longer at o nexts (row.Asking c b call) l x =
      let a = x.arisen in
      record { wanted = wanted_longer trace longer at call l x.wanted; arisen = record { history = a.history; fits = a.fits; kept = a.kept; shown = shown_longer trace longer at a.history l a.shown; own = a.own; counted = counted_longer trace longer o.line (refused_asks a.history) l a.counted } }
  row_longer trace longer at o nexts (row.Begun c t m) l x =
      let a = x.arisen in
      record { ordered = x.ordered; retries = retries_longer trace longer at t.options.retry_options l x.retries; marked = marked_longer trace longer at t l x.marked; arisen = record { history = a.history; fits = a.fits; kept = a.kept; shown = shown_longer trace longer at a.history l a.shown; own = a.own; counted = counted_longer trace longer o.line (refused_asks a.history) l a.counted } }
  row_longer trace longer at o nexts (row.Calling c y b) l x = tt
  row_longer trace longer at o nexts (row.Past c) l x = tt
  row_longer trace longer at o nexts (row.Working c job) l x = tt

  pub sound_longer : (trace longer : Option Trace) (rest : List Asker) (s : Clients P) → LongerIn trace longer → IsSound w trace rest s → IsSound w longer rest s
  sound_longer trace longer rest s l sound = record {
    told = told_longer trace longer (stands_of (rows_of s)) l sound.told;
    arisen = λ i. row_longer trace longer (suc i) _ _ (row_at (rows_of s) i) l (sound.arisen i);
    called = sound.called;
    known = sound.known;
    asked = sound.asked;
    paired = sound.paired;
    owned = sound.owned;
    numbered = sound.numbered;
    unwanted = sound.unwanted;
    owing = λ n. counted_longer trace longer n 0 l (sound.owing n);
  }

  pub rests_when_longer : (s : Clients P) (t longer : Trace) → IsLonger t longer → RestsIn w s t → RestsIn w s longer
  rests_when_longer s t longer l sound =
      record {
        told = record { asks = λ n c b e. called_longer t longer l n n (sound.told.asks n c b e); calls = λ n c x b e. called_longer t longer l n x (sound.told.calls n c x b e) };
        arisen = λ i. row_any (suc i) _ _ (row_at (rows_of s) i) (sound.arisen i);
        called = sound.called;
        known = sound.known;
        asked = sound.asked;
        paired = sound.paired;
        owned = sound.owned;
        numbered = sound.numbered;
        unwanted = sound.unwanted;
        owing = λ n. l.beside n 0 (sound.owing n);
      }
    where
      retries_any : (at : ℕ) (retries : RetryOptions) → RetriesIn (Some t) at retries → RetriesIn (Some longer) at retries
      retries_any at retries r = (r.0, l.begun (record { line = at; options = r.0 }) r.1, r.2)

      row_any : (at : ℕ) (o : Posted) (nexts : List ℕ) (r : Row P) → RowArises w (Some t) at o nexts r → RowArises w (Some longer) at o nexts r
      row_any at o nexts row.Plain x = tt
      row_any at o nexts (row.Client c) x = tt
      row_any at o nexts (row.Asking c b call) x =
          let a = x.arisen in
          record { wanted = λ h b gives. retries_any at b.options.retry_options (x.wanted h b gives); arisen = record { history = a.history; fits = a.fits; kept = a.kept; shown = λ e i. event_longer t longer l at e (a.shown e i); own = a.own; counted = l.beside o.line (refused_asks a.history) a.counted } }
      row_any at o nexts (row.Begun c b m) x =
          let a = x.arisen in
          record { ordered = x.ordered; retries = retries_any at b.options.retry_options x.retries; marked = λ parts whole u e. let k = x.marked parts whole u e in (k.0, event_longer t longer l at (Lost u (Commit k.0)) k.1, k.2); arisen = record { history = a.history; fits = a.fits; kept = a.kept; shown = λ e i. event_longer t longer l at e (a.shown e i); own = a.own; counted = l.beside o.line (refused_asks a.history) a.counted } }
      row_any at o nexts (row.Calling c y b) x = tt
      row_any at o nexts (row.Past c) x = tt
      row_any at o nexts (row.Working c job) x = tt

-- calls of no line

-- where no line is still to be told
none_refused : (t : Trace) (line : ℕ) (events : List Event) → AreRefused t.groups line events 0
none_refused t line [] = refl
none_refused t line (e ∷ events) = inl (none_refused t line events)

none_owed : (t : Trace) (line : ℕ) → t.owed ≡ [] → HasRefusedBeside t line 0
none_owed t line told = (0, (let none = ap (λ lines. times_in lines line) told in omega (arith, none)), none_refused t line t.events)

nothing_in : {X Y : Type 0} (f : X → Y) (xs : List X) → map f xs ≡ [] → xs ≡ []
nothing_in f [] e = refl
nothing_in f (x ∷ xs) e = absurd (cc)

none_ticket : {t : Ticket} → None ≡ Some t → ⊥
none_ticket q = cc

never_calls : (n : ℕ) {c x : ℕ} {b : Bool} → stand_at [] n ≡ Calling c x b → ⊥
never_calls zero q = cc
never_calls (suc n) q = cc

never_asks : (n : ℕ) {c : ℕ} {b : Bool} → stand_at [] n ≡ Asking c b → ⊥
never_asks zero q = cc
never_asks (suc n) q = cc

nobody_at : (n : ℕ) {c : ℕ} → client_at (stand_at [] n) ≡ Some c → ⊥
nobody_at zero q = cc
nobody_at (suc n) q = cc

module _ {P : Type 0} (w : Ways P) where
  pub nothing_rests : (trace : Option Trace) (s : Clients P) → ((n : ℕ) → CountedIn trace n 0) → rows_of s ≡ [] → s.clients.items ≡ [] → IsSound w trace [] s
  nothing_rests trace s owing rows clients = record {
    told = record {
      asks = λ n c b e. absurd (never_asks n (subst (λ rs. stand_at (stands_of rs) n ≡ Asking c b) rows e));
      calls = λ n c x b e. absurd (never_calls n (subst (λ rs. stand_at (stands_of rs) n ≡ Calling c x b) rows e));
    };
    arisen = λ i. subst (λ rs. RowArises w trace (suc i) (posted_at (nexts_of s) (asks_of s) (voice_at rs i)) (nexts_of s) (row_at rs i)) (sym rows) tt;
    called = λ n c x b e. absurd (never_calls n (subst (λ rs. stand_at (stands_of rs) n ≡ Calling c x b) rows e));
    known = λ n c e. absurd (nobody_at n (subst (λ rs. client_at (stand_at (stands_of rs) n) ≡ Some c) rows e));
    asked = λ n c i e l x. absurd (nobody_at n (subst (λ rs. client_at (stand_at (stands_of rs) n) ≡ Some c) rows e));
    paired = λ c. inl (ap (λ (b : Book). b.out) (book c));
    owned = λ c t e. absurd (none_ticket (sym (ap (λ (b : Book). b.ticket) (book c)) ∙ e));
    numbered = λ c t e. absurd (none_ticket (sym (ap (λ (b : Book). b.ticket) (book c)) ∙ e));
    unwanted = λ c t e. absurd (none_ticket (sym (ap (λ (b : Book). b.ticket) (book c)) ∙ e));
    owing = owing;
  }
    where
      book : (c : ℕ) → book_at s c ≡ blank
      book c = ap (λ cs. slice_index_or (map book_of cs) c blank) clients

  pub nobody_rests_so : (s : Clients P) → sight_of s ≡ nobody → (t : Trace) → t.owed ≡ [] → RestsIn w s t
  nobody_rests_so s e t told = nothing_rests (Some t) s (λ n. none_owed t n told) (nothing_in stand_of (rows_of s) (ap (λ (v : Sight). v.stands) e)) (nothing_in (λ (c : ClientState). c.crashed) s.clients.items (ap (λ (v : Sight). v.crashed) e))
