-- What clients can have arisen from where nothing happens to them.
use Rattle.std.proofs.Common.{◌≡◌, inl, inr, ℕ, false, List, [], ◌∷◌, map, Some, None, refl, sym, ap, ◌∙◌, subst}
use Rattle.std.specs.Prelude.{slice_index_or}
use Rattle.std.proofs.lemmas.List.Elements.{All-nil}
use Rattle.txn_kv.specs.declared.ticket.Ticket.{Ticket}
use Rattle.txn_history.specs.Event.{Event}
use Rattle.txn_history.specs.Event.Event.{Sent, Served, Took, Refused, Lost, Began, Slept, Asked, Answered, Crashed, Split, Led, Clocked}
use Rattle.txn_law.specs.Run.{IsPossible, IsRoomy, IsUnserved}
use Rattle.txn_model.specs.Store.{Store}
use Rattle.txn_model.specs.Table.{table}
use Rattle.txn_commit.specs.Ways.{Ways}
use Rattle.txn_side.specs.Doubt.{itself}
use Rattle.txn_side.specs.Arising.{Arises, IsOutside}
use Rattle.txn_side.specs.Sight.{Sight, nobody}
use Rattle.txn_trace.specs.Answering.{OracleFits}
use Rattle.txn_trace.specs.Seeing.{seen}
use Rattle.txn_trace.proofs.Fitting.{fits_idle}
use Rattle.txn_trace.proofs.Lines.{fresh_none}
use Rattle.txn_trace.proofs.Seen.{had_seen, seen_had, seen_store}
use Rattle.txn_clients.specs.Arising.{Arisen, ArisenFrom, HasStart, HoldsAt, RowFits, oracle_of, ticket_or}
use Rattle.txn_clients.specs.Clients.{nexts_of, row_at, rows_of, sight_of}
use Rattle.txn_clients.specs.Growing.{arisen_outside, right_same}
use Rattle.txn_clients.specs.Rows.{stand_of}
use Rattle.txn_clients.specs.Waiting.{Book, IsReady, asks_of, blank, book_at, book_of, posted_at, voice}
use Rattle.txn_clients.specs.declared.client_state.ClientState.{ClientState}
use Rattle.txn_clients.specs.declared.clients.Clients.{Clients}
use Rattle.txn_clients.specs.declared.row.Row.{Row}
use Rattle.txn_clients.specs.declared.row.Row.TheVariants as row

-- Of no line nothing has happened.

none_some : {X : Type 0} {x : X} → None ≡ Some x → ⊥
none_some e = cc

nothing_in : {X Y : Type 0} (f : X → Y) (xs : List X) → map f xs ≡ [] → xs ≡ []
nothing_in f [] e = refl
nothing_in f (x ∷ xs) e = absurd (cc)

module _ {P : Type 0} (w : Ways P) where
  pub nobody_arisen : (s : Clients P) → rows_of s ≡ [] → s.clients.items ≡ [] → Arisen w s (λ t. []) [] []
  nobody_arisen s rows clients = record {
    run = λ plans have. tt;
    rows = λ i. subst (λ (r : Row P). RowFits w (rows_of s) (posted_at (nexts_of s) (asks_of s) (voice i (stand_of r))) [] r) (sym (plain i)) tt;
    oracles = λ c. subst (λ (b : Book). OracleFits (oracle_of b) (ticket_or b.ticket) []) (sym (book c)) (fits_idle _ []);
    fresh = λ n. fresh_none n false _ _;
    draws = record {
      starts = λ i v st. absurd (subst (HasStart v) (plain i) st);
      groups = λ c d group x y. absurd (none_some (sym (ap (λ (b : Book). b.ticket) (book c)) ∙ x));
      given = λ a time i. absurd i;
    };
    answerable = tt;
    owned = λ x r i. absurd i;
    optimistic = λ x r i. absurd i;
    apart = λ i j v x y. absurd (subst (HasStart v) (plain i) x);
  }
    where
      plain : (i : ℕ) → row_at (rows_of s) i ≡ row.Plain
      plain i = ap (λ rs. row_at rs i) rows

      book : (c : ℕ) → book_at s c ≡ blank
      book c = ap (λ cs. slice_index_or (map book_of cs) c blank) clients

  pub nobody_arises_so : (s : Clients P) → IsReady w s → sight_of s ≡ nobody → ArisenFrom w s []
  nobody_arises_so s ready e = (record { lawful = ready.lawful }, (λ t. []), [], refl, nobody_arisen s (nothing_in stand_of (rows_of s) (ap (λ (v : Sight). v.stands) e)) (nothing_in (λ (c : ClientState). c.crashed) s.clients.items (ap (λ (v : Sight). v.crashed) e)))

-- What comes from outside is shown, and may come where it may after what is shown.

pub shows_outside : (e : Event) (h : List Event) → IsOutside e → seen (e ∷ h) ≡ e ∷ seen h
shows_outside (Sent t r) h out = absurd out
shows_outside (Began t ms) h out = absurd out
shows_outside (Asked a) h out = absurd out
shows_outside (Answered a x) h out = absurd out
shows_outside (Served t r o) h out = refl
shows_outside (Took t r o) h out = refl
shows_outside (Refused t r o) h out = refl
shows_outside (Lost t r) h out = refl
shows_outside (Slept t) h out = refl
shows_outside (Crashed c) h out = refl
shows_outside (Split key) h out = refl
shows_outside (Led region store) h out = refl
shows_outside (Clocked ms) h out = refl

unserved_unseen : (h : List Event) (t : Ticket) → IsUnserved (seen h) t → IsUnserved h t
unserved_unseen h t u r o (inl i) = u r o (inl (had_seen h (Served t r o) tt i))
unserved_unseen h t u r o (inr i) = u r o (inr (had_seen h (Refused t r o) tt i))

pub possible_unseen : (e : Event) (h : List Event) → IsOutside e → IsPossible (seen h) e → IsPossible h e
possible_unseen (Sent t r) h out may = absurd out
possible_unseen (Began t ms) h out may = absurd out
possible_unseen (Asked a) h out may = absurd out
possible_unseen (Answered a x) h out may = absurd out
possible_unseen (Served t r o) h out may =
    let s = seen_had h (Sent t r) may.0 in
    (s.0, may.1 ∙ ap (λ (st : Store). (table st r).reply) (seen_store h), unserved_unseen h t may.2, subst (λ (st : Store). IsRoomy st) (seen_store h) may.3)
possible_unseen (Took t r o) h out may = elim may [
  | inl k ↦ let s = seen_had h (Served t r o) k in inl s.0
  | inr k ↦ let s = seen_had h (Refused t r o) k in inr s.0
]
possible_unseen (Refused t r o) h out may = let s = seen_had h (Sent t r) may.0 in (s.0, may.1, unserved_unseen h t may.2)
possible_unseen (Lost t r) h out may = let s = seen_had h (Sent t r) may in s.0
possible_unseen (Slept t) h out may = tt
possible_unseen (Crashed c) h out may = tt
possible_unseen (Split key) h out may = tt
possible_unseen (Led region store) h out may = tt
possible_unseen (Clocked ms) h out may = tt

module _ {P : Type 0} (w : Ways P) where
  pub arises_when_longer : (s : Clients P) (h : List Event) (e : Event) → IsOutside e → IsPossible h e → ArisenFrom w s h → Arises (ArisenFrom w s) (λ h x o. HoldsAt (rows_of s) h x o) (λ x o. HoldsAt (rows_of s) h x o) itself (e ∷ h) []
  arises_when_longer s h e out may (laws, askers, g, shows, a) = record {
    now = (laws, askers, e ∷ g, shows_outside e g out ∙ ap (λ x. e ∷ x) shows, arisen_outside w laws.lawful s askers [] g e out (possible_unseen e g out (subst (λ x. IsPossible x e) (sym shows) may)) a);
    kept = λ x o. right_same (rows_of s) x o h (e ∷ h) (λ y i. inr i);
    answers = All-nil _;
    says = All-nil _;
  }
