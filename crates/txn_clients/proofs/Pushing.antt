-- What stands at a place is told of something, and what it wants is done.
use Rattle.std.proofs.Common.{◌≡◌, inl, inr, ℕ, suc, ◌+◌, ◌-◌, ◌<◌, ◌≤◌, false, List, [], ◌∷◌, ◌++◌, length, map, get_or, set, Option, sym, ap, ◌∙◌, subst, arith}
use Rattle.std.specs.List.{Any}
use Rattle.std.specs.Prelude.{OnOk, IfOk, IfSome, Result, Ok, Err}
use Rattle.txn_history.specs.Among.{IsAmong}
use Rattle.txn_kv.specs.declared.request.Request.{Request}
use Rattle.txn_kv.specs.declared.ticket.Target.{Target}
use Rattle.txn_side.specs.Trace.{IsSend, Trace}
use Rattle.txn_side.specs.declared.turn.Ending.{Ending}
use Rattle.txn_clients.specs.Failing.{AnswerRests, MayKnow, outbox_of, owing, posting_in}
use Rattle.txn_history.specs.Meaning.{IsLawful}
use Rattle.txn_history.specs.Phase.{Awaited, awaited}
use Rattle.txn_kv.specs.declared.outbox.Errand.TheVariants.{Ask, Send, Sleep}
use Rattle.txn_history.specs.Phase.{IsPosted as IsErrand}
use Rattle.txn_history.specs.Phase.Awaited.{ReplyTo, EndOf, TimeOf}
use Rattle.txn_history.specs.Posted.{AreNumbered, Errand, Posted}
use Rattle.txn_commit.specs.Ways.{Ways}
use Rattle.txn_side.specs.Sight.{next_at}
use Rattle.txn_side.specs.declared.turn.Posting.{Posting}
use Rattle.txn_tso.specs.declared.asker.Asker.{Asker}
use Rattle.txn_clients.specs.Clients.{crashed_of, nexts_of, row_at, rows_of, stands_of}
use Rattle.txn_clients.specs.Matching.{AreMatched, IsLine}
use Rattle.txn_clients.specs.Rows.{Posts, stand_of}
use Rattle.txn_clients.specs.Waiting.{Book, GoesOn, HandsOn, HasAsk, HearsAt, IsDone, IsHeard, IsNumberedTo, IsSound, RowGoes, TellsRow, asks_of, blank, book_at, book_of, pends, posted_at}
use Rattle.txn_clients.specs.declared.answer.Answer.{Answer}
use Rattle.txn_clients.specs.declared.client_state.ClientState.{ClientState}
use Rattle.txn_clients.specs.declared.clients.Clients.{Clients}
use Rattle.txn_clients.specs.declared.place.Place.{Place}
use Rattle.txn_clients.specs.declared.row.Row.{Row}
use Rattle.txn_clients.specs.declared.told.Told.{Told}
use Rattle.txn_clients.proofs.Grouping.{books_kept, numbered_end}
use Rattle.txn_clients.proofs.Numbers.{asks_told}
use Rattle.txn_clients.proofs.Places.{rows_set}
use Rattle.txn_clients.proofs.Settling.{books_same}
use Rattle.txn_clients.proofs.Sounding.{le_of, push_goes}
use Rattle.txn_clients.proofs.Telling.{place_row}

-- a request among these has a number that is no less than their first
numbered_above : (first ask : ℕ) (sends : List Errand) (next next_ask n : ℕ) → AreNumbered first ask sends next next_ask → IsErrand sends (ReplyTo n) → first ≤ n
numbered_above first ask [] next next_ask n h (r, i, e) = absurd i
numbered_above first ask (Send m to x ∷ rs) next next_ask n h (r, inl f, e) = let one = h.0 in let same : m ≡ n = reply_number (ap awaited f ∙ e) in omega (arith, one, same)
  where
    reply_number : ReplyTo m ≡ ReplyTo n → m ≡ n
    reply_number g = cc
numbered_above first ask (Sleep m ms ∷ rs) next next_ask n h (r, inl f, e) = absurd (other (ap awaited f ∙ e))
  where
    other : EndOf m ≡ ReplyTo n → ⊥
    other g = cc
numbered_above first ask (Ask m ∷ rs) next next_ask n h (r, inl f, e) = absurd (other (ap awaited f ∙ e))
  where
    other : TimeOf m ≡ ReplyTo n → ⊥
    other g = cc
numbered_above first ask (Send m to x ∷ rs) next next_ask n h (r, inr i, e) = let l = numbered_above (first + 1) ask rs next next_ask n h.1 (r, i, e) in omega (arith, l)
numbered_above first ask (Sleep m ms ∷ rs) next next_ask n h (r, inr i, e) = let l = numbered_above (first + 1) ask rs next next_ask n h.1 (r, i, e) in omega (arith, l)
numbered_above first ask (Ask m ∷ rs) next next_ask n h (r, inr i, e) = numbered_above first (ask + 1) rs next next_ask n h.1 (r, i, e)

-- a fact of a call that went well, and one of its value, give a third
pub if_ok_with : {T E : Type 0} {A : Type 0} {B C : T → Type 0} (r : Result T E) → ((x : T) → A → B x → C x) → OnOk r A → IfOk r B → IfOk r C
if_ok_with (Ok x) f a b = f x a b
if_ok_with (Err e) f a b = tt

module _ {P : Type 0} (w : Ways P) where
  pub row_told : (told : Told) (s t : Clients P) (at client : ℕ) (p q : Place P) (d e : ClientState) (from to : Posted) (answer : Option (Answer P))
      → t.places.items ≡ set s.places.items at q → t.clients.items ≡ set s.clients.items client e → at < length (rows_of s) → client < length (crashed_of s) → p ≡ get_or s.places.items at p → d ≡ get_or s.clients.items client d
      → q.next_ask ≡ p.next_ask → book_of e ≡ book_of d → stand_of q.row ≡ stand_of p.row → RowGoes w told p.row q.row from to answer → TellsRow w told at s t from to answer
  row_told told s t at client p q d e from to answer places clients inside there f g ask book stand goes = record {
    row = q.row;
    rows = ap (map (λ (x : Place P). x.row)) places ∙ rows_set s.places.items at q;
    stand = stand ∙ ap stand_of (sym (place_row s at p inside f));
    goes = subst (λ (r : Row P). RowGoes w told r q.row from to answer) (sym (place_row s at p inside f)) goes;
    asks = ap (map (λ (x : Place P). x.next_ask)) places ∙ asks_told s at q p inside f ask;
    books = ap (map book_of) clients ∙ books_kept s.clients.items client e d there g book;
  }

  module _ (p : IsLawful w.plan) where
    pub pushed : (trace : Option Trace) (s m u t : Clients P) (told : Told) (line client at : ℕ) (rest : List Asker) (from to : Posted) (answer : Option (Answer P)) (sends : List Errand) (ps qs : List Posting) (es fs : List Ending)
        → IsLine (stands_of (rows_of s)) line → at < length (rows_of s) → AreMatched (stands_of (rows_of s))
        → from ≡ posted_at (nexts_of s) (asks_of s) line → sends ≡ to.sends → Posts from to
        → TellsRow w told at s m from to answer → nexts_of m ≡ nexts_of s → crashed_of m ≡ crashed_of s
        → HandsOn line client sends [] ps qs m u → rows_of u ≡ rows_of m → crashed_of u ≡ crashed_of m
        → rows_of t ≡ rows_of u → nexts_of t ≡ nexts_of u → asks_of t ≡ set (asks_of u) (line - 1) to.next_ask → t.clients ≡ u.clients
        → fs ≡ es → IsHeard (stands_of (rows_of s)) line at client → MayKnow (posting_in ps trace) (outbox_of line) told (row_at (rows_of s) at) → IsSound w (posting_in ps (owing line told trace)) (pends line told rest) s
        → GoesOn w trace client (HearsAt line told) rest ps qs es fs s t × IfSome answer (AnswerRests w (posting_in qs trace) (suc at) line)
    pushed trace s m u t told line client at rest from to answer sends ps qs es fs is inside matched begins sent posts told_row nexts crashed hands rows_u crashed_u rows_t nexts_t asks_t clients_t unended heard knows sound =
        subst (λ xs. GoesOn w trace client (HearsAt line told) rest ps qs es xs s t × IfSome answer (AnswerRests w (posting_in qs trace) (suc at) line)) (sym unended)
        (push_goes w p trace s t told line client at told_row.row rest from to answer sends ps qs es is inside heard.own heard.voiced matched begins sent
        (rows_t ∙ rows_u ∙ told_row.rows) told_row.stand told_row.goes risen up (asks_t ∙ ap (λ ns. set ns (line - 1) to.next_ask) (hands.asks ∙ told_row.asks)) (crashed_t ∙ crashed_u ∙ crashed) above
        hands.posted done mailed (λ c. ap (λ (b : Book). b.out) (books_same u t clients_t c) ∙ hands.outs c ∙ ap (λ (b : Book). b.out) (before c)) (λ c. ap (λ (b : Book). b.ticket) (books_same u t clients_t c) ∙ hands.tickets c ∙ ap (λ (b : Book). b.ticket) (before c))
        queued (λ c apart. books_same u t clients_t c ∙ hands.books c apart ∙ before c) knows sound)
      where
        crashed_t : crashed_of t ≡ crashed_of u
        crashed_t = ap (λ v. map (λ (c : ClientState). c.crashed) v.items) clients_t

        before : (c : ℕ) → book_at m c ≡ book_at s c
        before c = ap (λ bs. get_or bs c blank) told_row.books

        risen : (n : ℕ) → next_at (nexts_of s) n ≤ next_at (nexts_of t) n
        risen n = subst (λ ns. next_at (nexts_of s) n ≤ next_at ns n) (sym nexts_t) (subst (λ ns. next_at ns n ≤ next_at (nexts_of u) n) nexts (hands.nexts n))

        sends_are : posts.sends ≡ sends
        sends_are = sym (sent ∙ posts.pushed ∙ ap (λ (o : Posted). o.sends ++ posts.sends) begins)

        numbered : IsNumberedTo (next_at (nexts_of m) line) sends to.next
        numbered = record {
          ask = from.next_ask;
          end_ask = to.next_ask;
          numbered = subst (λ n. AreNumbered n from.next_ask sends to.next to.next_ask) (ap (λ (o : Posted). o.next) begins ∙ ap (λ ns. next_at ns line) (sym nexts)) (subst (λ es. AreNumbered from.next from.next_ask es to.next to.next_ask) sends_are posts.numbered);
        }

        above : (n : ℕ) → IsErrand sends (ReplyTo n) → from.next ≤ n
        above n x = numbered_above from.next from.next_ask sends to.next to.next_ask n (subst (λ es. AreNumbered from.next from.next_ask es to.next to.next_ask) sends_are posts.numbered) x

        up : to.next ≤ next_at (nexts_of t) line
        up = le_of to.next (next_at (nexts_of t) line) (numbered_end (next_at (nexts_of u) line) to.next (hands.numbers to.next numbered) ∙ ap (λ ns. next_at ns line) (sym nexts_t))

        is_done : (a : Awaited) → IsDone u qs line client a → IsDone t qs line client a
        is_done (ReplyTo n) h = h
        is_done (EndOf n) h = h
        is_done (TimeOf n) h = subst (λ (b : Book). HasAsk b.queue line n) (sym (books_same u t clients_t client)) h

        done : (a : Awaited) → IsErrand sends a → IsDone t qs line client a
        done a x = elim (hands.done a x) [ inl d ↦ is_done a d | inr e ↦ absurd e.1 ]

        mailed : (n : ℕ) (store : Target) (x : Request) → IsAmong sends (Send n store x) → Any (IsSend (record { line = line; beat = false; number = n }) x) qs
        mailed n store x i = elim (hands.sent n store x i) [ inl a ↦ a | inr j ↦ absurd j ]

        queued : (n i : ℕ) → HasAsk (book_at s client).queue n i → HasAsk (book_at t client).queue n i
        queued n i h = subst (λ (b : Book). HasAsk b.queue n i) (sym (books_same u t clients_t client)) (hands.queued n i (subst (λ (b : Book). HasAsk b.queue n i) (sym (before client)) h))
