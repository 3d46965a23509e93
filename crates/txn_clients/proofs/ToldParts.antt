-- What clients can have arisen from, as what waits for a line is told of something, and its call may end.
use Rattle.std.proofs.Common.{◌≡◌, ℕ, suc, ◌-◌, Bool, true, false, List, [], ◌∷◌, Option, Some, refl, sym, ap, ◌∙◌, subst, arith, append-nil}
use Rattle.std.specs.Prelude.{⊤, Result, Ok, Err}
use Rattle.txn_kv.specs.declared.errors.Error.{Error}
use Rattle.txn_kv.specs.declared.ticket.Ticket.{Ticket}
use Rattle.txn_history.specs.Event.{Event}
use Rattle.txn_history.specs.Event.Event.{Answered, Lost, Slept, Took}
use Rattle.txn_history.specs.Meaning.{IsLawful}
use Rattle.txn_history.specs.Posted.{Within-one, Within-refl, ticket_of}
use Rattle.txn_law.specs.Run.{IsPossible}
use Rattle.txn_kv.specs.declared.arrival.Arrival.{Arrival}
use Rattle.txn_kv.specs.declared.arrival.Arrival.TheVariants as arrivals
use Rattle.txn_commit.specs.Ways.{Ways}
use Rattle.txn_core.specs.declared.txn_answer.TxnAnswer.{TxnAnswer}
use Rattle.txn_client.specs.declared.client_answer.ClientAnswer.{ClientAnswer}
use Rattle.txn_client.specs.declared.client_answer.ClientAnswer.TheVariants.{Begun, Time}
use Rattle.txn_side.specs.Sight.{client_at, stand_at}
use Rattle.txn_side.specs.Sight.Stand.{Calling}
use Rattle.txn_side.specs.declared.turn.Ending.{Ending}
use Rattle.txn_side.specs.declared.turn.Posting.{Posting}
use Rattle.txn_trace.specs.Posting.{PostsNothing}
use Rattle.txn_trace.specs.Seeing.{seen}
use Rattle.txn_tso.specs.Oracle.{Answer as Given}
use Rattle.txn_clients.specs.Arising.{AnswerArises, Anyhow, Arisen, CallCame, Leads, LeadsEnded, LeadsPushed, LeadsTold, heard_by, FitsCall, TurnsRow}
use Rattle.txn_clients.specs.Clients.{HearsFor, row_at, rows_of, stands_of}
use Rattle.txn_clients.specs.Failing.{outbox_of}
use Rattle.txn_clients.specs.Growing.{arisen_beside, arisen_fewer, right_same}
use Rattle.txn_clients.specs.Rows.{Pd}
use Rattle.txn_clients.specs.declared.answer.Answer.{Answer}
use Rattle.txn_clients.specs.declared.answer.Answer.TheVariants as answers
use Rattle.txn_clients.specs.declared.clients.Clients.{Clients}
use Rattle.txn_clients.specs.declared.row.Row.{Row}
use Rattle.txn_clients.specs.declared.row.Row.TheVariants as row
use Rattle.txn_clients.specs.declared.told.Told.{Told}
use Rattle.txn_clients.specs.declared.told.Told.TheVariants as tells
use Rattle.txn_clients.proofs.Chaining.{ends_none, heard_same, leads_from, leads_then, leads_unended}
use Rattle.txn_clients.proofs.Voices.{hears_voice}
use Rattle.txn_clients.specs.Accounts.{is_heard}
use Rattle.txn_clients.specs.Closing.{HasComeTo}
use Rattle.txn_clients.proofs.Turning.{turned_answer, turned_row}

module _ {P : Type 0} (w : Ways P) where
  -- Nobody hears it

  module _ (p : IsLawful w.plan) where
    beside_leads : (askers : Ticket → List ℕ) (rest : List Given) (s : Clients P) (h : List Event) (e : Event) (ps : List Posting) (es : List Ending) → PostsNothing e → IsPossible h e → Arisen w s askers rest h → Leads w askers rest ps ps es es (heard_by s) s s (seen (e ∷ h)) h Anyhow
    beside_leads askers rest s h e ps es quiet may a = record {
      later = e ∷ h;
      more = [];
      posted = sym (append-nil ps);
      shows = refl;
      within = Within-one e h;
      arisen = arisen_beside w p s askers rest h e quiet may a;
      kept = right_same (rows_of s);
      ends = ends_none (heard_by s) s (e ∷ h) es es refl;
      then = tt;
    }

    -- what came is behind the history all the same
    pub unheard_leads : (s : Clients P) (line client : ℕ) (x : Arrival) (ps : List Posting) (es : List Ending) → LeadsTold w (tells.Heard x) line client ps ps es es s s
    unheard_leads s line client (arrivals.Reply n x) ps es askers rest h r fits own can a = beside_leads askers rest s h (Took (ticket_of (outbox_of line) n) r x) ps es tt can a
    unheard_leads s line client (arrivals.Lost n) ps es askers rest h r fits own can a = beside_leads askers rest s h (Lost (ticket_of (outbox_of line) n) r) ps es tt can a
    unheard_leads s line client (arrivals.Slept n) ps es askers rest h r fits own can a = beside_leads askers rest s h (Slept (ticket_of (outbox_of line) n)) ps es tt tt a
    unheard_leads s line client (arrivals.Time n x) ps es askers rest h r fits own can a = beside_leads askers rest s h (Answered (ticket_of (outbox_of line) n) x) ps es tt a.answerable.0 (arisen_fewer w s askers _ rest h a)

  -- What is pushed, and the call of the line after it

  pub pushed_leads : (told : Told) (line at client : ℕ) (answer : Option (Answer P)) (s m : Clients P) (ps qs : List Posting) (es fs : List Ending) → HearsFor (stands_of (rows_of s)) line at (stand_at (stands_of (rows_of s)) line)
      → LeadsPushed w told line at client answer ps qs es fs s m → LeadsTold w told line client ps qs es fs s m
  pushed_leads told line at client answer s m ps qs es fs hears f askers rest h r fits own can a =
      leads_from w askers rest ps qs es fs (heard_by s) s s m _ h h _ Anyhow (Within-refl h) (right_same (rows_of s)) (λ later x. tt)
      (f askers rest h r (record { own = own; voiced = hears_voice (stands_of (rows_of s)) line at hears }) can a)

  -- only of a transaction it matters what stands there
  asked_anywhere : (turns : Type 0) (askers : Ticket → List ℕ) (line : ℕ) (r : Row P) (v : Result (ClientAnswer Pd P) Error) (h : List Event) → AnswerArises w turns askers line r (Some (answers.Asked v)) h → AnswerArises w ⊥ askers line row.Plain (Some (answers.Asked v)) h
  asked_anywhere turns askers line r (Ok (Begun b)) h x = x
  asked_anywhere turns askers line r (Ok (Time t)) h x = tt
  asked_anywhere turns askers line r (Err e) h x = tt

  pub asked_leads : (told : Told) (line at client : ℕ) (answer : Option (Answer P)) (v : Result (ClientAnswer Pd P) Error) (s m t : Clients P) (ps qs rs : List Posting) (es fs gs : List Ending) → HearsFor (stands_of (rows_of s)) line at (stand_at (stands_of (rows_of s)) line) → stands_of (rows_of m) ≡ stands_of (rows_of s)
      → answer ≡ Some (answers.Asked v) → LeadsPushed w told line at client answer ps qs es fs s m → LeadsEnded w (λ askers h. AnswerArises w ⊥ askers line row.Plain (Some (answers.Asked v)) h) qs rs fs gs m t → LeadsTold w told line client ps rs es gs s t
  asked_leads told line at client answer v s m t ps qs rs es fs gs hears stands is f g askers rest h r fits own can a =
      let first = f askers rest h r (record { own = own; voiced = hears_voice (stands_of (rows_of s)) line at hears }) can a in
      let came = asked_anywhere (TurnsRow told (row_at (rows_of m) at)) askers line (row_at (rows_of m) at) v first.later (subst (λ o. AnswerArises w (TurnsRow told (row_at (rows_of m) at)) askers line (row_at (rows_of m) at) o first.later) is first.then) in
      leads_then w askers askers rest rest ps qs rs es fs gs (heard_by s) (heard_by m) s m t _ h _ Anyhow first (g askers rest first.later came first.arisen) (λ e i. heard_same s m stands e.line)

  -- a job may begin then
  pub called_leads : (told : Told) (line at client : ℕ) (answer : Option (Answer P)) (v : Result (TxnAnswer P) Error) (s m n t : Clients P) (ps qs rs us : List Posting) (es fs gs ks : List Ending) → HearsFor (stands_of (rows_of s)) line at (stand_at (stands_of (rows_of s)) line) → stands_of (rows_of m) ≡ stands_of (rows_of s)
      → answer ≡ Some (answers.Called v) → LeadsPushed w told line at client answer ps qs es fs s m → LeadsEnded w (CallCame w m line (Some (answers.Called v))) qs rs fs gs m n
      → ((c : ℕ) → client_at (stand_at (stands_of (rows_of m)) line) ≡ Some c → client_at (stand_at (stands_of (rows_of n)) line) ≡ Some c) → (client_at (stand_at (stands_of (rows_of n)) line) ≡ Some client → LeadsEnded w (λ askers h. ⊤) rs us gs ks n t) → ks ≡ gs → (is_heard told ≡ true → HasComeTo (stand_at (stands_of (rows_of m)) line) v (row_at (rows_of m) at)) → LeadsTold w told line client ps us es ks s t
  called_leads told line at client answer v s m n t ps qs rs us es fs gs ks hears stands is f g mine job unended come askers rest h r fits own can a =
      let first = f askers rest h r (record { own = own; voiced = hears_voice (stands_of (rows_of s)) line at hears }) can a in
      let ended = leads_then w askers askers rest rest ps qs rs es fs gs (heard_by s) (heard_by m) s m n _ h _ Anyhow first
      (g askers rest first.later (λ c x b calls. came c x b calls askers first.later (subst (λ o. AnswerArises w (TurnsRow told (row_at (rows_of m) at)) askers line (row_at (rows_of m) at) o first.later) is first.then)) first.arisen) (λ e i. heard_same s m stands e.line) in
      leads_unended w askers askers rest rest ps rs us es gs ks (heard_by s) (heard_by n) s n t _ h _ Anyhow unended ended
      (job (mine client (ap (λ ss. client_at (stand_at ss line)) stands ∙ own)) askers rest ended.later tt ended.arisen)
    where
      came : (c x : ℕ) (b : Bool) → stand_at (stands_of (rows_of m)) line ≡ Calling c x b → (askers : Ticket → List ℕ) (h : List Event) → AnswerArises w (TurnsRow told (row_at (rows_of m) at)) askers line (row_at (rows_of m) at) (Some (answers.Called v)) h → AnswerArises w (b ≡ false) askers line (row_at (rows_of m) (x - 1)) (Some (answers.Called v)) h
      came c x b calls askers h y =
          let there = subst (HearsFor (stands_of (rows_of s)) line at) (ap (λ ss. stand_at ss line) (sym stands) ∙ calls) hears in
          let place : suc at ≡ x = there.0 in
          let fits_m = subst (λ ss. FitsCall told (stand_at ss line)) (sym stands) fits in
          let so = turned_answer w (TurnsRow told (row_at (rows_of m) at)) (b ≡ false) askers line (row_at (rows_of m) at) v h (λ e is back. turned_row told (row_at (rows_of m) at) (stand_at (stands_of (rows_of m)) line) c x b e v is calls back fits_m come) y in
          subst (λ i. AnswerArises w (b ≡ false) askers line (row_at (rows_of m) i) (Some (answers.Called v)) h) (omega (arith, place)) so
