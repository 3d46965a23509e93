-- Steps of clients as a machine sees them.
use Rattle.std.proofs.Common.{◌≡◌, ◌≢◌, inl, inr, ℕ, zero, suc, ◌+◌, ◌-◌, ◌<◌, ◌≤◌, Bool, true, false, List, [], ◌∷◌, ◌++◌, length, map, get_or, set, Option, Some, None, refl, sym, ap, ◌∙◌, subst, arith, length-append}
use Rattle.std.proofs.lemmas.List.{map-append}
use Rattle.std.proofs.lemmas.List.Elements.{All-nil}
use Rattle.std.specs.Prelude.{IfOk, OnOk, Result, Ok, Err}
use Rattle.txn_kv.specs.declared.ticket.Ticket.{Ticket}
use Rattle.txn_history.specs.Meaning.{IsLawful}
use Rattle.txn_history.specs.Phase.{Awaited}
use Rattle.txn_history.specs.Phase.Awaited.{ReplyTo, EndOf}
use Rattle.txn_history.specs.Arrivals.{awaited_as}
use Rattle.txn_kv.specs.declared.arrival.Arrival.{Arrival}
use Rattle.txn_commit.specs.Ways.{Ways}
use Rattle.txn_side.specs.Sight.{Group, GroupsGo, IsOut, client_at, lives, stand_at}
use Rattle.txn_side.specs.Sight.Stand.{Asking, Calling, HasBegun, Idle, IsClient}
use Rattle.txn_side.specs.Trace.{Trace}
use Rattle.txn_side.specs.declared.turn.Ending.{Ending}
use Rattle.txn_clients.specs.Matching.{AreMatched}
use Rattle.txn_clients.specs.Resting.{RestsIn, nothing_rests}
use Rattle.txn_side.specs.Waiting.{HearsEnd, HearsReply, NoneHeard, WaitsOn}
use Rattle.txn_side.specs.Waiting as side
use Rattle.txn_side.specs.Waiting.Awaited.{EndOf as SideEnd, ReplyTo as SideReply}
use Rattle.txn_side.specs.declared.turn.Posting.{Posting}
use Rattle.txn_tso.specs.Oracle.{group_or_none}
use Rattle.txn_clients.specs.Clients.{AreReady, HasOut, crashed_of, nexts_of, row_at, rows_of, sight_of, stands_of}
use Rattle.txn_clients.specs.Groups.{group_by, lines_in}
use Rattle.txn_clients.specs.Matching.{IsLine}
use Rattle.txn_clients.specs.Rows.{RowReady}
use Rattle.txn_clients.specs.Waiting.{AreRunning, Book, GroupsBeside, HearsAt, IsOwned, IsQuiet, IsReady, IsSound, RowRuns, Steps, Wants, asks_of, blank, book_at, book_of, kind, waits_of}
use Rattle.txn_clients.specs.declared.client_state.ClientState.{ClientState}
use Rattle.txn_clients.specs.declared.clients.Clients.{Clients}
use Rattle.txn_clients.specs.declared.place.Place.{Place}
use Rattle.txn_clients.specs.declared.row.Row.TheVariants as row
use Rattle.txn_clients.specs.declared.told.Told.TheVariants as tells
use Rattle.txn_clients.proofs.Opening.{crashed_sound, idle_fewer, idle_sound, lives_more, opened_fewer, opened_sound}
use Rattle.txn_clients.proofs.Settling.{books_same, client_same, row_within}
use Rattle.txn_clients.proofs.Sounding.{running_set}
use Rattle.txn_clients.proofs.Stands.{or_ended}
use Rattle.txn_clients.proofs.Stepping.{group_there, met_as, waits_on}
use Rattle.txn_clients.proofs.Tables.{same_groups}

-- what is out has the ticket that the book has
ticket_out : (t : Option Ticket) (lines : List ℕ) (g : Group) → group_by t lines ≡ Some g → t ≡ Some g.ticket
ticket_out None lines g e = absurd (cc)
ticket_out (Some t) lines g e = ap Some (ap ticket_in_group e)
  where
    ticket_in_group : Option Group → Ticket
    ticket_in_group None = t
    ticket_in_group (Some h) = h.ticket

reply_number : (m n : ℕ) → SideReply m ≡ SideReply n → m ≡ n
reply_number m n e = cc

module _ {P : Type 0} (w : Ways P) where
  -- nothing is done
  pub waits_same : (s : Clients P) → WaitsOn NoneHeard [] (waits_of w s) (waits_of w s) (sight_of s) (sight_of s)
  waits_same s = record { lines = λ n a x. inl (x, λ h. h); groups = λ g out. inl (out, λ h. h) }

  -- no more is waited for, nor out
  pub waits_fewer : (s t : Clients P) → ((n : ℕ) (a : Awaited) → Wants w (rows_of t) n a → Wants w (rows_of s) n a) → ((g : Group) → IsOut (sight_of t) g → IsOut (sight_of s) g) → WaitsOn NoneHeard [] (waits_of w s) (waits_of w t) (sight_of s) (sight_of t)
  waits_fewer s t fewer out = record { lines = λ n a x. inl (fewer n (kind a) x, λ h. h); groups = λ g o. inl (out g o, λ h. h) }

  -- nothing was heard
  pub waits_none : (s t : Clients P) (ps : List Posting) (es : List Ending) → Steps w None (λ n a. ⊥) ps es s t → GroupsGo ps (sight_of s) (sight_of t) → WaitsOn NoneHeard ps (waits_of w s) (waits_of w t) (sight_of s) (sight_of t)
  waits_none s t ps es g gone = waits_on w s t (λ n a. ⊥) NoneHeard ps es g (λ n a h. h) (λ group out. elim (gone group out) [ inl o ↦ inl (o, λ h. h) | inr a ↦ inr a ])

  -- nobody waits for the reply to a beat
  pub waits_deaf : (s : Clients P) (ticket : Ticket) (ps : List Posting) → ticket.beat ≡ true → WaitsOn (HearsReply ticket) ps (waits_of w s) (waits_of w s) (sight_of s) (sight_of s)
  waits_deaf s ticket ps beat = record { lines = λ n a x. inl (x, λ h. two (sym beat ∙ h.0)); groups = λ g o. inl (o, λ h. two (sym beat ∙ h.0)) }
    where
      two : true ≡ false → ⊥
      two q = cc

  -- nor for the end of its sleep
  pub waits_asleep : (s : Clients P) (ticket : Ticket) (ps : List Posting) → ticket.beat ≡ true → WaitsOn (HearsEnd ticket) ps (waits_of w s) (waits_of w s) (sight_of s) (sight_of s)
  waits_asleep s ticket ps beat = record { lines = λ n a x. inl (x, λ h. two (sym beat ∙ h.0)); groups = λ g o. inl (o, λ h. two (sym beat ∙ h.0)) }
    where
      two : true ≡ false → ⊥
      two q = cc

  -- the reply to a request of a line, which is not its client's request for timestamps
  pub waits_reply : (s t : Clients P) (ticket : Ticket) (client : ℕ) (x : Arrival) (ps : List Posting) (es : List Ending) → awaited_as x ≡ ReplyTo ticket.number → client_at (stand_at (sight_of s).stands ticket.line) ≡ Some client → ((book_at s client).ticket ≡ Some ticket → ⊥) → IsReady w s
      → Steps w None (HearsAt ticket.line (tells.Heard x)) ps es s t → GroupsGo ps (sight_of s) (sight_of t) → WaitsOn (HearsReply ticket) ps (waits_of w s) (waits_of w t) (sight_of s) (sight_of t)
  waits_reply s t ticket client x ps es as_reply own other ready g gone =
      waits_on w s t (HearsAt ticket.line (tells.Heard x)) (HearsReply ticket) ps es g (λ n a h. (h.1, ap kind h.2 ∙ sym as_reply))
      (λ group out. elim (gone group out) [ inl o ↦ inl (o, λ h. deaf group o h) | inr a ↦ inr a ])
    where
      deaf : (group : Group) → IsOut (sight_of s) group → HearsReply ticket group.ticket.line (SideReply group.ticket.number) → ⊥
      deaf group (c, e) h = other (subst (λ d. (book_at s d).ticket ≡ Some ticket) mine (there ∙ ap Some same))
        where
          there : (book_at s c).ticket ≡ Some group.ticket
          there = ticket_out (book_at s c).ticket _ group (sym (group_there s.clients.items c) ∙ e)

          owned : IsOwned (stands_of (rows_of s)) c group.ticket
          owned = ready.sound.owned c group.ticket there

          same : group.ticket ≡ ticket
          same =
              let beat = owned.beat ∙ sym h.0 in
              let number = reply_number group.ticket.number ticket.number h.2 in
              let line = h.1 in
              λ i. record { line = line i; beat = beat i; number = number i }

          mine : c ≡ client
          mine = client_same c client (sym owned.own ∙ ap (λ n. client_at (stand_at (sight_of s).stands n)) h.1 ∙ own)

  -- the reply to its client's request for timestamps
  pub waits_group : (s t : Clients P) (ticket : Ticket) (client : ℕ) (ps : List Posting) (es : List Ending) → client_at (stand_at (sight_of s).stands ticket.line) ≡ Some client → (book_at s client).ticket ≡ Some ticket → IsReady w s
      → Steps w None (λ n a. ⊥) ps es s t → GroupsBeside client ps (sight_of s) (sight_of t) → WaitsOn (HearsReply ticket) ps (waits_of w s) (waits_of w t) (sight_of s) (sight_of t)
  waits_group s t ticket client ps es own here ready g beside = record {
    lines = λ n a x. elim (g.lines n (kind a) x) [ inl y ↦ inl (y.0, λ h. unwanted n a h y.0) | inr y ↦ inr (met_as w ps n a y) ];
    groups = λ group out. elim (beside group out) [ inl o ↦ inl ((o.0, o.2), λ h. deaf group o.0 o.1 o.2 h) | inr a ↦ inr a ];
  }
    where
      unwanted : (n : ℕ) (a : side.Awaited) → HearsReply ticket n a → Wants w (rows_of s) n (kind a) → ⊥
      unwanted n a h x = ready.sound.unwanted client ticket here (subst (λ m. Wants w (rows_of s) m (ReplyTo ticket.number)) h.1 (subst (λ b. Wants w (rows_of s) n (kind b)) h.2 x))

      deaf : (group : Group) (c : ℕ) → c ≢ client → get_or (sight_of s).groups c None ≡ Some group → HearsReply ticket group.ticket.line (SideReply group.ticket.number) → ⊥
      deaf group c apart e h =
          let there = ticket_out (book_at s c).ticket _ group (sym (group_there s.clients.items c) ∙ e) in
          let owned = ready.sound.owned c group.ticket there in
          apart (client_same c client (sym owned.own ∙ ap (λ n. client_at (stand_at (sight_of s).stands n)) h.1 ∙ own))

  -- a sleep has ended
  pub waits_end : (s t : Clients P) (ticket : Ticket) (x : Arrival) (ps : List Posting) (es : List Ending) → awaited_as x ≡ EndOf ticket.number → Steps w None (HearsAt ticket.line (tells.Heard x)) ps es s t → GroupsGo ps (sight_of s) (sight_of t) → WaitsOn (HearsEnd ticket) ps (waits_of w s) (waits_of w t) (sight_of s) (sight_of t)
  waits_end s t ticket x ps es as_end g gone =
      waits_on w s t (HearsAt ticket.line (tells.Heard x)) (HearsEnd ticket) ps es g (λ n a h. (h.1, ap kind h.2 ∙ sym as_end))
      (λ group out. elim (gone group out) [ inl o ↦ inl (o, λ h. other group.ticket.number h.2) | inr a ↦ inr a ])
    where
      other : (m : ℕ) → SideReply m ≡ SideEnd ticket.number → ⊥
      other m q = cc

  module _ (p : IsLawful w.plan) where
    -- One line more.

    opened_runs : (s t : Clients P) → rows_of t ≡ rows_of s ++ row.Plain ∷ [] → AreRunning (rows_of s) → AreRunning (rows_of t)
    opened_runs s t rows running i = subst RowRuns (sym (ap (λ rs. row_at rs i) rows ∙ or_ended (rows_of s) row.Plain i)) (running i)

    pub opened_all : (s t : Clients P) → rows_of t ≡ rows_of s ++ row.Plain ∷ [] → nexts_of t ≡ nexts_of s ++ 1 ∷ [] → asks_of t ≡ asks_of s ++ 1 ∷ [] → t.clients ≡ s.clients → AreReady w (rows_of t) → IsReady w s → IsReady w t
    opened_all s t rows nexts asks clients ready old = record {
      lawful = p;
      rows = ready;
      sound = opened_sound w p None s t [] rows nexts asks clients old.sound;
      running = opened_runs s t rows old.running;
      quiet = λ c. subst IsQuiet (sym (books_same s t clients c)) (old.quiet c);
    }

    pub opened_waits : (s t : Clients P) → rows_of t ≡ rows_of s ++ row.Plain ∷ [] → t.clients ≡ s.clients → WaitsOn NoneHeard [] (waits_of w s) (waits_of w t) (sight_of s) (sight_of t)
    opened_waits s t rows clients = waits_fewer s t (opened_fewer w p s t rows) (λ g o. (o.0, ap (λ gs. get_or gs o.0 None) (sym (same_groups s t clients)) ∙ o.1))

    -- A client is made.

    pub book_more : (s t : Clients P) (c : ClientState) → t.clients.items ≡ s.clients.items ++ c ∷ [] → book_of c ≡ blank → (d : ℕ) → book_at t d ≡ book_at s d
    book_more s t c clients new d = ap (λ cs. get_or (map book_of cs) d blank) clients ∙ ap (λ bs. get_or bs d blank) (map-append book_of s.clients.items (c ∷ []) ∙ ap (λ b. map book_of s.clients.items ++ b ∷ []) new) ∙ or_ended (map book_of s.clients.items) blank d

    connected_sound : (trace : Option Trace) (s t : Clients P) (line client : ℕ) (c : ClientState) → IsLine (stands_of (rows_of s)) line → stand_at (stands_of (rows_of s)) line ≡ Idle → client ≡ length (crashed_of s) → t.clients.items ≡ s.clients.items ++ c ∷ [] → book_of c ≡ blank → crashed_of t ≡ crashed_of s ++ false ∷ []
        → rows_of t ≡ set (rows_of s) (line - 1) (row.Client client) → nexts_of t ≡ nexts_of s → asks_of t ≡ asks_of s → AreMatched (stands_of (rows_of s)) → IsSound w trace [] s → IsSound w trace [] t
    connected_sound trace s t line client c is idle number clients new crashed rows nexts asks matched sound =
        idle_sound w p trace s t line client (row.Client client) [] is idle matched (λ a x. x) (λ o ns. tt) refl there (λ d x a e. never d x a e) (λ d a e. absurd (unasked d a e)) rows nexts asks (le_of_more long) (λ d h l. lives_more (crashed_of s) d h (subst (λ cs. lives cs (Some d) ≡ true) crashed l)) (book_more s t c clients new) sound
      where
        never : (d x : ℕ) (a : Bool) → IsClient client ≡ Calling d x a → ⊥
        never d x a e = cc

        unasked : (d : ℕ) (a : Bool) → IsClient client ≡ Asking d a → ⊥
        unasked d a e = cc

        long : length (crashed_of t) ≡ length (crashed_of s) + 1
        long = ap length crashed ∙ length-append (crashed_of s) (false ∷ [])

        there : client < length (crashed_of t)
        there = let l = long in omega (arith, number, l)

        le_of_more : length (crashed_of t) ≡ length (crashed_of s) + 1 → length (crashed_of s) ≤ length (crashed_of t)
        le_of_more l = omega (arith, l)

    pub connected_all : (s t : Clients P) (line client : ℕ) (c : ClientState) → IsLine (stands_of (rows_of s)) line → stand_at (stands_of (rows_of s)) line ≡ Idle → client ≡ length (crashed_of s) → t.clients.items ≡ s.clients.items ++ c ∷ [] → book_of c ≡ blank → crashed_of t ≡ crashed_of s ++ false ∷ []
        → rows_of t ≡ set (rows_of s) (line - 1) (row.Client client) → nexts_of t ≡ nexts_of s → asks_of t ≡ asks_of s → AreReady w (rows_of t) → IsReady w s → IsReady w t
    connected_all s t line client c is idle number clients new crashed rows nexts asks ready old = record {
      lawful = p;
      rows = ready;
      sound = connected_sound None s t line client c is idle number clients new crashed rows nexts asks old.rows.matched old.sound;
      running = subst AreRunning (sym rows) (running_set (rows_of s) (line - 1) (row.Client client) (row_within (rows_of s) line is) (λ i apart. old.running i) tt);
      quiet = λ d. subst IsQuiet (sym (book_more s t c clients new d)) (old.quiet d);
    }

    pub connected_rests : (trace : Trace) (s t : Clients P) (line client : ℕ) (c : ClientState) → IsLine (stands_of (rows_of s)) line → stand_at (stands_of (rows_of s)) line ≡ Idle → client ≡ length (crashed_of s) → t.clients.items ≡ s.clients.items ++ c ∷ [] → book_of c ≡ blank → crashed_of t ≡ crashed_of s ++ false ∷ []
        → rows_of t ≡ set (rows_of s) (line - 1) (row.Client client) → nexts_of t ≡ nexts_of s → asks_of t ≡ asks_of s → AreMatched (stands_of (rows_of s)) → RestsIn w s trace → RestsIn w t trace
    connected_rests trace s t line client c is idle number clients new crashed rows nexts asks matched rests = connected_sound (Some trace) s t line client c is idle number clients new crashed rows nexts asks matched rests

    pub connected_waits : (s t : Clients P) (line client : ℕ) (c : ClientState) → IsLine (stands_of (rows_of s)) line → t.clients.items ≡ s.clients.items ++ c ∷ [] → book_of c ≡ blank → rows_of t ≡ set (rows_of s) (line - 1) (row.Client client)
        → WaitsOn NoneHeard [] (waits_of w s) (waits_of w t) (sight_of s) (sight_of t)
    connected_waits s t line client c is clients new rows = waits_fewer s t (idle_fewer w p s t line (row.Client client) is (λ a x. x) rows)
        (λ g o. (o.0, group_there s.clients.items o.0 ∙ ap (λ (b : Book). group_by b.ticket (lines_in (group_or_none b.out))) (sym (book_more s t c clients new o.0)) ∙ sym (group_there t.clients.items o.0) ∙ o.1))

    -- A client is gone.

    pub crashed_all : (s t : Clients P) (client : ℕ) → t.places ≡ s.places → crashed_of t ≡ set (crashed_of s) client true → ((c : ℕ) → book_at t c ≡ book_at s c) → AreReady w (rows_of t) → IsReady w s → IsReady w t
    crashed_all s t client places crashed books ready old = record {
      lawful = p;
      rows = ready;
      sound = crashed_sound w p None s t client [] places crashed books old.sound;
      running = subst (λ v. AreRunning (map (λ (x : Place P). x.row) v.items)) (sym places) old.running;
      quiet = λ c. subst IsQuiet (sym (books c)) (old.quiet c);
    }

    pub crashed_waits : (s t : Clients P) → t.places ≡ s.places → ((c : ℕ) → book_at t c ≡ book_at s c) → WaitsOn NoneHeard [] (waits_of w s) (waits_of w t) (sight_of s) (sight_of t)
    crashed_waits s t places books = waits_fewer s t (λ n a x. subst (λ v. Wants w (map (λ (y : Place P). y.row) v.items) n a) places x)
        (λ g o. (o.0, group_there s.clients.items o.0 ∙ ap (λ (b : Book). group_by b.ticket (lines_in (group_or_none b.out))) (sym (books o.0)) ∙ sym (group_there t.clients.items o.0) ∙ o.1))

-- no lines, and no clients
pub new_ready : {P : Type 0} (w : Ways P) (p : IsLawful w.plan) (s : Clients P) → s.places.items ≡ [] → s.clients.items ≡ [] → AreReady w (rows_of s) → IsReady w s
new_ready {P} w p s places clients ready = record {
  lawful = p;
  rows = ready;
  sound = nothing_rests w None s (λ n. tt) rows clients;
  running = λ i. subst (λ rs. RowRuns (row_at rs i)) (sym rows) tt;
  quiet = λ c. inl (ap (λ (b : Book). b.queue) (book c));
}
  where
    rows : rows_of s ≡ []
    rows = ap (map (λ (x : Place P). x.row)) places

    book : (c : ℕ) → book_at s c ≡ blank
    book c = ap (λ cs. get_or (map book_of cs) c blank) clients

module _ {P : Type 0} (w : Ways P) where
  module _ (p : IsLawful w.plan) where
    pub opened_lists : (s t : Clients P) (d : Place P) → d ≡ record { row = row.Plain; next = 1; next_ask = 1 } → t.places.items ≡ s.places.items ++ d ∷ []
        → (rows_of t ≡ rows_of s ++ row.Plain ∷ []) × (nexts_of t ≡ nexts_of s ++ 1 ∷ []) × (asks_of t ≡ asks_of s ++ 1 ∷ [])
    opened_lists s t d new items = (
      ap (map (λ (x : Place P). x.row)) items ∙ map-append (λ (x : Place P). x.row) s.places.items (d ∷ []) ∙ ap (λ (x : Place P). rows_of s ++ x.row ∷ []) new,
      ap (map (λ (x : Place P). x.next)) items ∙ map-append (λ (x : Place P). x.next) s.places.items (d ∷ []) ∙ ap (λ (x : Place P). nexts_of s ++ x.next ∷ []) new,
      ap (map (λ (x : Place P). x.next_ask)) items ∙ map-append (λ (x : Place P). x.next_ask) s.places.items (d ∷ []) ∙ ap (λ (x : Place P). asks_of s ++ x.next_ask ∷ []) new,
    )

    pub opened_rests : (trace : Trace) (s t : Clients P) (d : Place P) → d ≡ record { row = row.Plain; next = 1; next_ask = 1 } → t.places.items ≡ s.places.items ++ d ∷ [] → t.clients ≡ s.clients → RestsIn w s trace → RestsIn w t trace
    opened_rests trace s t d new items clients sound = let l = opened_lists s t d new items in opened_sound w p (Some trace) s t [] l.0 l.1 l.2 clients sound

    pub opened_ready_all : (s t : Clients P) (d : Place P) → d ≡ record { row = row.Plain; next = 1; next_ask = 1 } → t.places.items ≡ s.places.items ++ d ∷ [] → t.clients ≡ s.clients → AreReady w (rows_of t) → IsReady w s → IsReady w t
    opened_ready_all s t d new items clients ready old = let l = opened_lists s t d new items in opened_all w p s t l.0 l.1 l.2 clients ready old

    pub opened_waits_all : (s t : Clients P) (d : Place P) → d ≡ record { row = row.Plain; next = 1; next_ask = 1 } → t.places.items ≡ s.places.items ++ d ∷ [] → t.clients ≡ s.clients → WaitsOn NoneHeard [] (waits_of w s) (waits_of w t) (sight_of s) (sight_of t)
    opened_waits_all s t d new items clients = let l = opened_lists s t d new items in opened_waits w p s t l.0 clients

-- a fact of a call that went well, and one of its value, give a third
pub on_ok_if : {T E : Type 0} {A C : Type 0} {B : T → Type 0} (r : Result T E) → ((x : T) → A → B x → C) → OnOk r A → IfOk r B → OnOk r C
on_ok_if (Ok x) f a b = f x a b
on_ok_if (Err e) f a b = tt

-- what is out has the ticket that the client keeps
pub out_ticket : {P : Type 0} (s : Clients P) (client : ℕ) (t : Ticket) → HasOut (sight_of s) client t → (book_at s client).ticket ≡ Some t
out_ticket s client t (askers, e) = ticket_out (book_at s client).ticket _ (record { ticket = t; askers = askers }) (sym (group_there s.clients.items client) ∙ e)

none_matched : (x c m : ℕ) → stand_at [] x ≡ HasBegun c m → ⊥
none_matched zero c m e = cc
none_matched (suc x) c m e = cc

pub new_all : {P : Type 0} (w : Ways P) (p : IsLawful w.plan) (s : Clients P) → s.places.items ≡ [] → s.clients.items ≡ [] → IsReady w s
new_all {P} w p s places clients = new_ready w p s places clients (subst (AreReady w) (sym (ap (map (λ (x : Place P). x.row)) places)) (record { each = All-nil (RowReady w); matched = λ x c m e. absurd (none_matched x c m e) }))
