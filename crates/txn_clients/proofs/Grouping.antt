-- The requests for timestamps that go out, and those that are over.
use Rattle.std.proofs.Common.{◌≡◌, ◌≢◌, ◌⊎◌, inl, inr, ℕ, zero, suc, ◌+◌, ◌<◌, ◌≤◌, false, List, [], ◌∷◌, ◌++◌, length, map, get_or, set, take, drop, Option, Some, None, refl, sym, ap, ◌∙◌, subst, arith}
use Rattle.std.proofs.lemmas.List.{length-map, map-set}
use Rattle.std.specs.List.{Any}
use Rattle.std.specs.Prelude.{if◌then◌else◌}
use Rattle.txn_history.specs.Among.{IsAmong}
use Rattle.txn_history.specs.Meaning.{IsLawful}
use Rattle.txn_history.specs.Phase.{Awaited}
use Rattle.txn_history.specs.Phase.Awaited.{ReplyTo, EndOf, TimeOf}
use Rattle.txn_history.specs.Phase.{IsPosted as IsErrand}
use Rattle.txn_history.specs.Phase.{awaited}
use Rattle.txn_history.specs.Posted.{AreNumbered, Errand}
use Rattle.txn_commit.specs.Ways.{Ways}
use Rattle.txn_kv.specs.declared.outbox.Errand.TheVariants.{Send, Sleep, Ask}
use Rattle.txn_kv.specs.declared.request.Request.{Request}
use Rattle.txn_kv.specs.declared.ticket.Target.{Target}
use Rattle.txn_kv.specs.declared.ticket.Ticket.{Ticket}
use Rattle.txn_side.specs.Sight.{IsNext, client_at, lives, next_at, numbers_of, stand_at, ticket_in, with_next}
use Rattle.txn_side.specs.Waiting.{IsPosted}
use Rattle.txn_side.specs.Waiting as side
use Rattle.txn_side.specs.Waiting.Awaited.{EndOf as SideEnd, ReplyTo as SideReply}
use Rattle.txn_side.specs.declared.turn.Posting.{Posting}
use Rattle.txn_tso.specs.Oracle.{Answer, Oracle, group_or_none, next_request, with_next_group}
use Rattle.txn_tso.specs.declared.asker.Asker.{Asker}
use Rattle.txn_kv.specs.declared.request.cluster.TsoRequest.{TsoRequest}
use Rattle.txn_clients.specs.Clients.{crashed_of, nexts_of, row_at, rows_of, sight_of, stands_of}
use Rattle.txn_clients.specs.Matching.{IsLine}
use Rattle.txn_clients.specs.Going.{next_after}
use Rattle.txn_clients.specs.Waiting.{AreCalled, AsksOne, Book, HandsOn, HasAsk, HasAskOut, IsAskedIn, IsDone, IsNumberedTo, IsOwned, IsPaired, IsQuiet, IsRisen, IsSound, IsThere, Keeps, PostsOne, Regroups, RegroupsAt, RowArises, SendsGroup, SendsOn, SetsTicket, Takes, Wants, asks_of, blank, book_at, book_of, posted_at, voice_at}
use Rattle.txn_clients.specs.declared.client_state.ClientState.{ClientState}
use Rattle.txn_clients.specs.declared.clients.Clients.{Clients}
use Rattle.txn_clients.specs.declared.place.Place.{Place}
use Rattle.txn_clients.proofs.Groups.{any_behind}
use Rattle.txn_clients.proofs.Settling.{books_same}
use Rattle.txn_clients.proofs.Sounding.{le_of, next_other, next_same, wants_below}
use Rattle.txn_clients.proofs.Stands.{or_other, or_same, same_line}
use Rattle.txn_clients.proofs.Tables.{count, map_kept, read_in}
use Rattle.txn_clients.proofs.Timestamps.{waiting}
use Rattle.txn_side.specs.Trace.{IsSend, Trace}
use Rattle.txn_clients.specs.Failing.{AreToldIn, posting_in}
use Rattle.txn_clients.specs.Resting.{sound_longer}
use Rattle.txn_clients.proofs.Showing.{keeps_any, keeps_none, keeps_then, posting_longer}
use Rattle.txn_clients.proofs.Going.{row_later}

-- Askers

among_ahead : {X : Type 0} (xs ys : List X) (x : X) → IsAmong xs x → IsAmong (xs ++ ys) x
among_ahead [] ys x h = absurd h
among_ahead (z ∷ xs) ys x (inl e) = inl e
among_ahead (z ∷ xs) ys x (inr h) = inr (among_ahead xs ys x h)

among_last : {X : Type 0} (xs : List X) (x : X) → IsAmong (xs ++ x ∷ []) x
among_last [] x = inl refl
among_last (z ∷ xs) x = inr (among_last xs x)

among_parts : {X : Type 0} (n : ℕ) (xs : List X) (x : X) → IsAmong xs x → IsAmong (take n xs) x ⊎ IsAmong (drop n xs) x
among_parts n [] x h = absurd h
among_parts zero (z ∷ xs) x h = inr h
among_parts (suc n) (z ∷ xs) x (inl e) = inl (inl e)
among_parts (suc n) (z ∷ xs) x (inr h) = elim (among_parts n xs x h) [ inl i ↦ inl (inr i) | inr i ↦ inr i ]

pub asked_more : (xs : List Asker) (a : Asker) (n k : ℕ) → HasAsk xs n k → HasAsk (xs ++ a ∷ []) n k
asked_more xs a n k h = record { asker = h.asker; among = among_ahead xs (a ∷ []) h.asker h.among; line = h.line; ask = h.ask }

pub asked_last : (xs : List Asker) (a : Asker) → HasAsk (xs ++ a ∷ []) a.line a.ask
asked_last xs a = record { asker = a; among = among_last xs a; line = refl; ask = refl }

-- The next group

abbrev oracle : List Asker → Option (List Asker) → Oracle
oracle queue out = record { queue = queue; out = out }

abbrev with_ticket : Oracle → Option Ticket → Book
with_ticket o ticket = record { queue = o.queue; out = o.out; ticket = ticket }

same_book : (o p : Oracle) (t u : Option Ticket) → o ≡ p → t ≡ u → with_ticket o t ≡ with_ticket p u
same_book o p t u e f = λ i. with_ticket (e i) (f i)

-- it is out at once, where nothing is and somebody waits
group_first : {X : Type 0} (a : Asker) (rest : List Asker) (next : Oracle) (ticket later : Option Ticket) (group : Option X) → next ≡ with_next_group (oracle (a ∷ rest) None) → (group ≡ None → (next_request (oracle (a ∷ rest) None) ≡ None) × (later ≡ ticket))
    → Regroups group (with_ticket (oracle (a ∷ rest) None) ticket) (with_ticket next later)
group_first a rest next ticket later group e none = record {
  asked = λ n k h. asked n k h;
  none = λ g. absurd (never (none g).0);
}
  where
    sent : with_next_group (oracle (a ∷ rest) None) ≡ oracle (drop 64 (a ∷ rest)) (Some (take 64 (a ∷ rest)))
    sent = ap (λ b. if b then oracle (drop 64 (a ∷ rest)) (Some (take 64 (a ∷ rest))) else oracle (a ∷ rest) None) (waiting a rest)

    requested : next_request (oracle (a ∷ rest) None) ≡ Some (record { count = length (take 64 (a ∷ rest)) })
    requested = ap (λ b. if b then Some (record { count = length (take 64 (a ∷ rest)) }) else None) (waiting a rest)

    never : next_request (oracle (a ∷ rest) None) ≡ None → ⊥
    never g = two _ (sym requested ∙ g)
      where
        two : (r : TsoRequest) → Some r ≡ None → ⊥
        two r q = cc

    asked : (n k : ℕ) → IsAskedIn (with_ticket (oracle (a ∷ rest) None) ticket) n k → IsAskedIn (with_ticket next later) n k
    asked n k (inl h) = elim (among_parts 64 (a ∷ rest) h.asker h.among) [
      | inl i ↦ subst (λ o. IsAskedIn (with_ticket o later) n k) (sym (e ∙ sent)) (inr (record { asker = h.asker; among = i; line = h.line; ask = h.ask }))
      | inr i ↦ subst (λ o. IsAskedIn (with_ticket o later) n k) (sym (e ∙ sent)) (inl (record { asker = h.asker; among = i; line = h.line; ask = h.ask }))
    ]
    asked n k (inr h) = absurd h

pub regroups : {X : Type 0} (queue : List Asker) (out : Option (List Asker)) (next : Oracle) (ticket later : Option Ticket) (group : Option X) → next ≡ with_next_group (oracle queue out) → (group ≡ None → (next_request (oracle queue out) ≡ None) × (later ≡ ticket))
    → Regroups group (with_ticket (oracle queue out) ticket) (with_ticket next later)
regroups queue (Some g) next ticket later group e none = record {
  asked = λ n k h. subst (λ o. IsAskedIn (with_ticket o later) n k) (sym e) h;
  none = λ f. (same_book next (oracle queue (Some g)) later ticket e (none f).1, inr (g, ap (λ (o : Oracle). o.out) e));
}
regroups [] None next ticket later group e none = record {
  asked = λ n k h. subst (λ o. IsAskedIn (with_ticket o later) n k) (sym e) h;
  none = λ f. (same_book next (oracle [] None) later ticket e (none f).1, inl (ap (λ (o : Oracle). o.queue) e));
}
regroups (a ∷ rest) None next ticket later group e none = group_first a rest next ticket later group e none

-- One of the clients is replaced

client_there : (cs : List ClientState) (i : ℕ) → i < length (map (λ (c : ClientState). c.crashed) cs) → i < length (map book_of cs)
client_there cs i h = let long = length-map cs (λ (c : ClientState). c.crashed) in let short = length-map cs book_of in omega (arith, h, long, short)

pub book_put : (cs : List ClientState) (i : ℕ) (new : ClientState) → i < length (map (λ (c : ClientState). c.crashed) cs) → get_or (map book_of (set cs i new)) i blank ≡ book_of new
book_put cs i new h = ap (λ bs. get_or bs i blank) (map-set book_of cs i new) ∙ or_same (map book_of cs) i (book_of new) blank (client_there cs i h)

pub book_other : (cs : List ClientState) (i : ℕ) (new : ClientState) (c : ℕ) → c ≢ i → get_or (map book_of (set cs i new)) c blank ≡ get_or (map book_of cs) c blank
book_other cs i new c apart = ap (λ bs. get_or bs c blank) (map-set book_of cs i new) ∙ or_other (map book_of cs) i c (book_of new) blank apart

pub book_there : (cs : List ClientState) (i : ℕ) (d : ClientState) → i < length (map (λ (c : ClientState). c.crashed) cs) → d ≡ get_or cs i d → get_or (map book_of cs) i blank ≡ book_of d
book_there cs i d h e = let long = length-map cs (λ (c : ClientState). c.crashed) in read_in book_of cs i d blank (omega (arith, h, long)) ∙ ap book_of (sym e)

-- its book is the same
pub books_kept : (cs : List ClientState) (i : ℕ) (new d : ClientState) → i < length (map (λ (c : ClientState). c.crashed) cs) → d ≡ get_or cs i d → book_of new ≡ book_of d → map book_of (set cs i new) ≡ map book_of cs
books_kept cs i new d h e k = let long = length-map cs (λ (c : ClientState). c.crashed) in map_kept book_of cs i new d (omega (arith, h, long)) (k ∙ ap book_of e)

-- What a line posts

keeps_one : (from to : List Posting) (p : Posting) → to ≡ from ++ p ∷ [] → Keeps from to
keeps_one from to p e = (p ∷ [], e)

one_posted : (from to : List Posting) (p : Posting) (line : ℕ) (a : side.Awaited) → to ≡ from ++ p ∷ [] → (ticket_in p).line ≡ line → (ticket_in p).beat ≡ false → side.awaited_as p ≡ a → IsPosted to line a
one_posted from to p line a e own beat is = subst (λ ps. IsPosted ps line a) (sym e) (any_behind _ from (p ∷ []) (0, p, omega arith, refl, (own, beat, is)))

-- a request was posted with a ticket
pub mailed_one : (from to : List Posting) (p : Posting) (u : Ticket) (x : Request) → IsSend u x p → to ≡ from ++ p ∷ [] → Any (IsSend u x) to
mailed_one from to p u x is e = subst (Any (IsSend u x)) (sym e) (any_behind (IsSend u x) from (p ∷ []) (0, p, omega arith, refl, is))

first_among : (r : Errand) (rest : List Errand) (a : Awaited) → IsErrand (r ∷ rest) a → (awaited r ≡ a) ⊎ IsErrand rest a
first_among r rest a (x, inl e, f) = inl (ap awaited e ∙ f)
first_among r rest a (x, inr h, f) = inr (x, h, f)

with_next_at : (nexts : List ℕ) (line : ℕ) → 1 ≤ line → line ≤ length nexts → next_at (with_next nexts line) line ≡ next_at nexts line + 1
with_next_at nexts line one last = next_same nexts line (next_at nexts line + 1) one last

pub with_next_risen : (nexts : List ℕ) (line : ℕ) → 1 ≤ line → line ≤ length nexts → IsRisen nexts (with_next nexts line)
with_next_risen nexts line one last n = by (same_line line n)
  where
    by : (n ≡ line) ⊎ (n ≢ line) → next_at nexts n ≤ next_at (with_next nexts line) n
    by (inl same) = let e = with_next_at nexts line one last in let f : next_at nexts n ≡ next_at nexts line = ap (next_at nexts) same in let g : next_at (with_next nexts line) n ≡ next_at (with_next nexts line) line = ap (next_at (with_next nexts line)) same in omega (arith, e, f, g)
    by (inr apart) = le_of (next_at nexts n) (next_at (with_next nexts line) n) (sym (next_other nexts line n (next_at nexts line + 1) one apart))

numbered_more : (line end : ℕ) (olds news : List ℕ) (r : Errand) (rest : List Errand) → next_at news line ≡ next_after r (next_at olds line) → IsNumberedTo (next_at olds line) (r ∷ rest) end → IsNumberedTo (next_at news line) rest end
numbered_more line end olds news (Send n to x) rest e h = record { ask = h.ask; end_ask = h.end_ask; numbered = subst (λ m. AreNumbered m h.ask rest end h.end_ask) (sym e) h.numbered.1 }
numbered_more line end olds news (Sleep n ms) rest e h = record { ask = h.ask; end_ask = h.end_ask; numbered = subst (λ m. AreNumbered m h.ask rest end h.end_ask) (sym e) h.numbered.1 }
numbered_more line end olds news (Ask n) rest e h = record { ask = h.ask + 1; end_ask = h.end_ask; numbered = subst (λ m. AreNumbered m (h.ask + 1) rest end h.end_ask) (sym e) h.numbered.1 }

-- the end is reached where none is left
pub numbered_end : (next end : ℕ) → IsNumberedTo next [] end → end ≡ next
numbered_end next end h = h.numbered.0

module _ {P : Type 0} where
  pub hands_nothing : (line client : ℕ) (all : List Errand) (ps : List Posting) (s : Clients P) → HandsOn line client all all ps ps s s
  hands_nothing line client all ps s = record {
    posted = keeps_none ps;
    done = λ a h. inr h;
    sent = λ n store r i. inr i;
    numbers = λ end h. h;
    nexts = λ n. le_of (next_at (nexts_of s) n) (next_at (nexts_of s) n) refl;
    asks = refl;
    outs = λ c. refl;
    tickets = λ c. refl;
    queued = λ n k h. h;
    books = λ c apart. refl;
  }

  done_more : (s t : Clients P) (ps qs : List Posting) (line client : ℕ) (a : Awaited) → Keeps ps qs → ((n k : ℕ) → HasAsk (book_at s client).queue n k → HasAsk (book_at t client).queue n k) → IsDone s ps line client a → IsDone t qs line client a
  done_more s t ps qs line client (ReplyTo n) keeps queued h = keeps_any _ ps qs keeps h
  done_more s t ps qs line client (EndOf n) keeps queued h = keeps_any _ ps qs keeps h
  done_more s t ps qs line client (TimeOf k) keeps queued h = queued line k h

  pub hands_then : (line client : ℕ) (all mid left : List Errand) (ps qs rs : List Posting) (s m t : Clients P) → HandsOn line client all mid ps qs s m → HandsOn line client mid left qs rs m t → HandsOn line client all left ps rs s t
  hands_then line client all mid left ps qs rs s m t f g = record {
    posted = keeps_then ps qs rs f.posted g.posted;
    sent = λ n store r i. elim (f.sent n store r i) [ inl a ↦ inl (keeps_any _ qs rs g.posted a) | inr j ↦ g.sent n store r j ];
    done = λ a h. elim (f.done a h) [ inl d ↦ inl (done_more m t qs rs line client a g.posted g.queued d) | inr i ↦ g.done a i ];
    numbers = λ end h. g.numbers end (f.numbers end h);
    nexts = λ n. let x = f.nexts n in let y = g.nexts n in omega (arith, x, y);
    asks = g.asks ∙ f.asks;
    outs = λ c. g.outs c ∙ f.outs c;
    tickets = λ c. g.tickets c ∙ f.tickets c;
    queued = λ n k h. g.queued n k (f.queued n k h);
    books = λ c apart. g.books c apart ∙ f.books c apart;
  }

  nexts_there : (s : Clients P) (line : ℕ) → IsLine (sight_of s).stands line → line ≤ length (nexts_of s)
  nexts_there s line is = let last = is.last in let long = count s in let short = length-map s.places.items (λ p. p.next) in omega (arith, last, long, short)

  -- one is posted that is waited for so
  pub hands_posted : (line client : ℕ) (r : Errand) (a : side.Awaited) (rest : List Errand) (ps qs : List Posting) (s t : Clients P) → IsLine (sight_of s).stands line
      → ((b : Awaited) → awaited r ≡ b → IsPosted qs line a → IsDone t qs line client b) → ((n : ℕ) (store : Target) (x : Request) → r ≡ Send n store x → Any (IsSend (record { line = line; beat = false; number = n }) x) qs)
      → PostsOne line a ps qs → nexts_of t ≡ with_next (nexts_of s) line → next_after r (next_at (nexts_of s) line) ≡ next_at (nexts_of s) line + 1 → asks_of t ≡ asks_of s → t.clients ≡ s.clients
      → HandsOn line client (r ∷ rest) rest ps qs s t
  hands_posted line client r a rest ps qs s t is how mails posts nexts raised asks clients = record {
    posted = keeps_one ps qs posts.posting posts.pushed;
    sent = λ n store x i. elim i [ inl e ↦ inl (mails n store x e) | inr j ↦ inr j ];
    done = λ b h. elim (first_among r rest b h) [ inl e ↦ inl (how b e (one_posted ps qs posts.posting line a posts.pushed posts.line_is posts.unbeaten posts.awaited)) | inr i ↦ inr i ];
    numbers = λ end h. numbered_more line end (nexts_of s) (nexts_of t) r rest (ap (λ ns. next_at ns line) nexts ∙ with_next_at (nexts_of s) line is.first (nexts_there s line is) ∙ sym raised) h;
    nexts = λ n. subst (λ ns. next_at (nexts_of s) n ≤ next_at ns n) (sym nexts) (with_next_risen (nexts_of s) line is.first (nexts_there s line is) n);
    asks = asks;
    outs = λ c. ap (λ (b : Book). b.out) (same c);
    tickets = λ c. ap (λ (b : Book). b.ticket) (same c);
    queued = λ n k h. subst (λ b. HasAsk b.queue n k) (sym (same client)) h;
    books = λ c apart. same c;
  }
    where
      same : (c : ℕ) → book_at t c ≡ book_at s c
      same = books_same s t clients

  pub hands_sent : (line client n : ℕ) (whom : Target) (x : Request) (rest : List Errand) (ps qs : List Posting) (s t : Clients P) → IsLine (sight_of s).stands line → Any (IsSend (record { line = line; beat = false; number = n }) x) qs → PostsOne line (SideReply n) ps qs → nexts_of t ≡ with_next (nexts_of s) line → asks_of t ≡ asks_of s → t.clients ≡ s.clients
      → HandsOn line client (Send n whom x ∷ rest) rest ps qs s t
  hands_sent line client n whom x rest ps qs s t is mail posts nexts asks clients = hands_posted line client (Send n whom x) (SideReply n) rest ps qs s t is (λ b e h. subst (IsDone t qs line client) e h)
      (λ m store y e. let number : n ≡ m = cc in let same : x ≡ y = cc in subst (λ k. Any (IsSend (record { line = line; beat = false; number = k }) y) qs) number (subst (λ z. Any (IsSend (record { line = line; beat = false; number = n }) z) qs) same mail)) posts nexts refl asks clients

  pub hands_slept : (line client n ms : ℕ) (rest : List Errand) (ps qs : List Posting) (s t : Clients P) → IsLine (sight_of s).stands line → PostsOne line (SideEnd n) ps qs → nexts_of t ≡ with_next (nexts_of s) line → asks_of t ≡ asks_of s → t.clients ≡ s.clients
      → HandsOn line client (Sleep n ms ∷ rest) rest ps qs s t
  hands_slept line client n ms rest ps qs s t is posts nexts asks clients = hands_posted line client (Sleep n ms) (SideEnd n) rest ps qs s t is (λ b e h. subst (IsDone t qs line client) e h) (λ m store y e. absurd (cc)) posts nexts refl asks clients

  -- one is asked of the oracle
  pub hands_asked : (line client k : ℕ) (rest : List Errand) (ps : List Posting) (s t : Clients P) → AsksOne client (record { line = line; beat = false; ask = k }) s t → nexts_of t ≡ nexts_of s → HandsOn line client (Ask k ∷ rest) rest ps ps s t
  hands_asked line client k rest ps s t asks nexts = record {
    posted = keeps_none ps;
    sent = λ m store y i. elim i [ inl e ↦ absurd (cc) | inr j ↦ inr j ];
    done = λ b h. elim (first_among (Ask k) rest b h) [ inl e ↦ inl (subst (IsDone t ps line client) e asked) | inr i ↦ inr i ];
    numbers = λ end h. numbered_more line end (nexts_of s) (nexts_of t) (Ask k) rest (ap (λ ns. next_at ns line) nexts) h;
    nexts = λ n. le_of (next_at (nexts_of s) n) (next_at (nexts_of t) n) (ap (λ ns. next_at ns n) (sym nexts));
    asks = asks.asks;
    outs = λ c. elim (same_line client c) [ inl e ↦ ap (λ (i : ℕ). (book_at t i).out) e ∙ ap (λ (b : Book). b.out) asks.book ∙ ap (λ (i : ℕ). (book_at s i).out) (sym e) | inr apart ↦ ap (λ (b : Book). b.out) (asks.books c apart) ];
    tickets = λ c. elim (same_line client c) [ inl e ↦ ap (λ (i : ℕ). (book_at t i).ticket) e ∙ ap (λ (b : Book). b.ticket) asks.book ∙ ap (λ (i : ℕ). (book_at s i).ticket) (sym e) | inr apart ↦ ap (λ (b : Book). b.ticket) (asks.books c apart) ];
    queued = λ n i h. subst (λ b. HasAsk b.queue n i) (sym asks.book) (asked_more (book_at s client).queue _ n i h);
    books = asks.books;
  }
    where
      asked : IsDone t ps line client (TimeOf k)
      asked = subst (λ b. HasAsk b.queue line k) (sym asks.book) (asked_last (book_at s client).queue (record { line = line; beat = false; ask = k }))

-- Requests for timestamps

quiet_so : (b : Book) → IsPaired b → (b.queue ≡ []) ⊎ IsThere b.out → IsQuiet b
quiet_so b paired (inl e) = inl e
quiet_so b (inl none) (inr (x, e)) = absurd (two (sym none ∙ e))
  where
    two : None ≡ Some x → ⊥
    two q = cc
quiet_so b (inr t) (inr there) = inr t

module _ {P : Type 0} (w : Ways P) (p : IsLawful w.plan) where
  -- What holds where rows are the same, and numbers have risen.
  pub grown_sound : (trace : Option Trace) (s t : Clients P) (rest left : List Asker) → rows_of t ≡ rows_of s → crashed_of t ≡ crashed_of s → IsRisen (nexts_of s) (nexts_of t) → asks_of t ≡ asks_of s
      → ((c n i : ℕ) → IsAskedIn (book_at s c) n i ⊎ HasAsk rest n i → IsAskedIn (book_at t c) n i ⊎ HasAsk left n i) → ((c : ℕ) → IsPaired (book_at t c)) → ((c : ℕ) (u : Ticket) → (book_at t c).ticket ≡ Some u → IsOwned (stands_of (rows_of s)) c u)
      → ((c : ℕ) (u : Ticket) → (book_at t c).ticket ≡ Some u → ((book_at s c).ticket ≡ Some u) ⊎ ((u.number < next_at (nexts_of t) u.line) × (Wants w (rows_of s) u.line (ReplyTo u.number) → ⊥)))
      → IsSound w trace rest s → IsSound w trace left t
  grown_sound trace s t rest left rows crashed risen asks asked paired owned named sound = record {
    told = subst (AreToldIn trace) (sym stands) sound.told;
    arisen = λ i. subst (λ rs. RowArises w trace (suc i) (posted_at (nexts_of t) (asks_of t) (voice_at rs i)) (nexts_of t) (row_at rs i)) (sym rows)
        (row_later w p trace (suc i) (row_at (rows_of s) i) _ _ (nexts_of s) (nexts_of t) (record { line = refl; beat = refl; next = risen (voice_at (rows_of s) i); next_ask = le_of _ _ (ap (λ ns. next_at ns (voice_at (rows_of s) i)) (sym asks)) }) risen (sound.arisen i));
    called = subst AreCalled (sym stands) sound.called;
    known = λ n c e. subst (λ cs. c < length cs) (sym crashed) (sound.known n c (ap (λ ss. client_at (stand_at ss n)) (sym stands) ∙ e));
    asked = λ n c i e l x. asked c n i (sound.asked n c i (ap (λ ss. client_at (stand_at ss n)) (sym stands) ∙ e) (ap (λ cs. lives cs (Some c)) (sym crashed) ∙ l) (subst (λ rs. Wants w rs n (TimeOf i)) rows x));
    paired = paired;
    owned = λ c u e. subst (λ ss. IsOwned ss c u) (sym stands) (owned c u e);
    numbered = λ c u e. elim (named c u e) [ inl f ↦ (let l = sound.numbered c u f in let up = risen u.line in omega (arith, l, up)) | inr f ↦ f.0 ];
    unwanted = λ c u e x. elim (named c u e) [ inl f ↦ sound.unwanted c u f (subst (λ rs. Wants w rs u.line (ReplyTo u.number)) rows x) | inr f ↦ f.1 (subst (λ rs. Wants w rs u.line (ReplyTo u.number)) rows x) ];
    owing = sound.owing;
  }
    where
      stands : stands_of (rows_of t) ≡ stands_of (rows_of s)
      stands = ap stands_of rows

  -- no group goes out
  pub none_goes : {X : Type 0} (trace : Option Trace) (s t : Clients P) (client : ℕ) (rest : List Asker) (ps : List Posting) (group : Option X) → RegroupsAt client group s t → group ≡ None → rows_of t ≡ rows_of s → nexts_of t ≡ nexts_of s → crashed_of t ≡ crashed_of s
      → IsSound w (posting_in ps trace) rest s → SendsOn w trace client rest ps ps s t
  none_goes trace s t client rest ps group g none rows nexts crashed sound = record {
    sound = grown_sound (posting_in ps trace) s t rest rest rows crashed (λ n. le_of _ _ (ap (λ ns. next_at ns n) (sym nexts))) g.asks (λ c n i h. subst (λ b. IsAskedIn b n i ⊎ HasAsk rest n i) (sym (same c)) h) (λ c. subst IsPaired (sym (same c)) (sound.paired c))
        (λ c u e. sound.owned c u (ap (λ (b : Book). b.ticket) (sym (same c)) ∙ e)) (λ c u e. inl (ap (λ (b : Book). b.ticket) (sym (same c)) ∙ e)) sound;
    posted = keeps_none ps;
    quiet = quiet_so (book_at t client) (subst IsPaired (sym (same client)) (sound.paired client)) kept.1;
    books = g.books;
  }
    where
      kept : (book_at t client ≡ book_at s client) × (((book_at t client).queue ≡ []) ⊎ IsThere (book_at t client).out)
      kept = g.book.none none

      same : (c : ℕ) → book_at t c ≡ book_at s c
      same c = elim (same_line client c) [ inl e ↦ ap (book_at t) e ∙ kept.0 ∙ ap (book_at s) (sym e) | inr apart ↦ g.books c apart ]

  -- or one does
  pub group_goes : {X : Type 0} (trace : Option Trace) (s m t : Clients P) (client : ℕ) (rest : List Asker) (ps qs : List Posting) (group : Option X) → RegroupsAt client group s m → rows_of m ≡ rows_of s → nexts_of m ≡ nexts_of s → crashed_of m ≡ crashed_of s
      → SendsGroup client ps qs m t → rows_of t ≡ rows_of m → crashed_of t ≡ crashed_of m
      → IsSound w (posting_in ps trace) rest s → SendsOn w trace client rest ps qs s t
  group_goes trace s m t client rest ps qs group g rows nexts crashed sent rows_too crashed_too sound = record {
    sound = sound_longer w (posting_in ps trace) (posting_in qs trace) rest t (posting_longer trace ps qs sent.posted) (grown_sound (posting_in ps trace) s t rest rest (rows_too ∙ rows) (crashed_too ∙ crashed) (λ n. subst (λ ns. next_at ns n ≤ next_at (nexts_of t) n) nexts (sent.nexts n)) (sent.asks ∙ g.asks) asked paired owned named sound);
    posted = sent.posted;
    quiet = inr (sent.ticket, ap (λ (b : Book). b.ticket) sent.book);
    books = λ c apart. sent.books c apart ∙ g.books c apart;
  }
    where
      asked : (c n i : ℕ) → IsAskedIn (book_at s c) n i ⊎ HasAsk rest n i → IsAskedIn (book_at t c) n i ⊎ HasAsk rest n i
      asked c n i (inr h) = inr h
      asked c n i (inl h) = inl (by (same_line client c))
        where
          by : (c ≡ client) ⊎ (c ≢ client) → IsAskedIn (book_at t c) n i
          by (inl e) = subst (λ j. IsAskedIn (book_at t j) n i) (sym e) (subst (λ b. IsAskedIn b n i) (sym sent.book) (g.book.asked n i (subst (λ j. IsAskedIn (book_at s j) n i) e h)))
          by (inr apart) = subst (λ b. IsAskedIn b n i) (sym (sent.books c apart ∙ g.books c apart)) h

      paired : (c : ℕ) → IsPaired (book_at t c)
      paired c = by (same_line client c)
        where
          by : (c ≡ client) ⊎ (c ≢ client) → IsPaired (book_at t c)
          by (inl e) = subst (λ j. IsPaired (book_at t j)) (sym e) (inr (sent.ticket, ap (λ (b : Book). b.ticket) sent.book))
          by (inr apart) = subst IsPaired (sym (sent.books c apart ∙ g.books c apart)) (sound.paired c)

      owned : (c : ℕ) (u : Ticket) → (book_at t c).ticket ≡ Some u → IsOwned (stands_of (rows_of s)) c u
      owned c u e = by (same_line client c)
        where
          by : (c ≡ client) ⊎ (c ≢ client) → IsOwned (stands_of (rows_of s)) c u
          by (inl f) = subst (λ j. IsOwned (stands_of (rows_of s)) j u) (sym f) (subst (IsOwned (stands_of (rows_of s)) client) (one (sym (ap (λ (b : Book). b.ticket) sent.book) ∙ ap (λ j. (book_at t j).ticket) (sym f) ∙ e)) (subst (λ rs. IsOwned (stands_of rs) client sent.ticket) rows sent.owned))
            where
              one : Some sent.ticket ≡ Some u → sent.ticket ≡ u
              one h = cc
          by (inr apart) = sound.owned c u (ap (λ (b : Book). b.ticket) (sym (sent.books c apart ∙ g.books c apart)) ∙ e)

      named : (c : ℕ) (u : Ticket) → (book_at t c).ticket ≡ Some u → ((book_at s c).ticket ≡ Some u) ⊎ ((u.number < next_at (nexts_of t) u.line) × (Wants w (rows_of s) u.line (ReplyTo u.number) → ⊥))
      named c u e = by (same_line client c)
        where
          one : Some sent.ticket ≡ Some u → sent.ticket ≡ u
          one h = cc

          fresh : Wants w (rows_of s) sent.ticket.line (ReplyTo sent.ticket.number) → ⊥
          fresh x = let l = wants_below w p (posting_in ps trace) s rest sent.ticket.line sent.ticket.number sound x in let own = sent.number in let f : next_at (nexts_of m) sent.ticket.line ≡ next_at (nexts_of s) sent.ticket.line = ap (λ ns. next_at ns sent.ticket.line) nexts in omega (arith, l, own, f)

          by : (c ≡ client) ⊎ (c ≢ client) → ((book_at s c).ticket ≡ Some u) ⊎ ((u.number < next_at (nexts_of t) u.line) × (Wants w (rows_of s) u.line (ReplyTo u.number) → ⊥))
          by (inl f) = inr (subst (λ v. (v.number < next_at (nexts_of t) v.line) × (Wants w (rows_of s) v.line (ReplyTo v.number) → ⊥)) (one (sym (ap (λ (b : Book). b.ticket) sent.book) ∙ ap (λ j. (book_at t j).ticket) (sym f) ∙ e)) (sent.past, fresh))
          by (inr apart) = inl (ap (λ (b : Book). b.ticket) (sym (sent.books c apart ∙ g.books c apart)) ∙ e)

  -- a request is over
  pub take_sound : (trace : Option Trace) (s t : Clients P) (client : ℕ) (given : List Answer) → Takes client given s t → rows_of t ≡ rows_of s → nexts_of t ≡ nexts_of s → crashed_of t ≡ crashed_of s → IsSound w trace [] s → IsSound w trace (map (λ (a : Answer). a.0) given) t
  take_sound trace s t client given takes rows nexts crashed sound =
      grown_sound trace s t [] (map (λ (a : Answer). a.0) given) rows crashed (λ n. le_of _ _ (ap (λ ns. next_at ns n) (sym nexts))) takes.asks asked paired owned named sound
    where
      out_of : (o : Option (List Asker)) (n i : ℕ) → HasAskOut o n i → HasAsk (group_or_none o) n i
      out_of None n i h = absurd h
      out_of (Some g) n i h = h

      asked : (c n i : ℕ) → IsAskedIn (book_at s c) n i ⊎ HasAsk [] n i → IsAskedIn (book_at t c) n i ⊎ HasAsk (map (λ (a : Answer). a.0) given) n i
      asked c n i (inr h) = absurd h.among
      asked c n i (inl h) = by (same_line client c) h
        where
          by : (c ≡ client) ⊎ (c ≢ client) → IsAskedIn (book_at s c) n i → IsAskedIn (book_at t c) n i ⊎ HasAsk (map (λ (a : Answer). a.0) given) n i
          by (inl e) (inl x) = inl (inl (subst (λ j. HasAsk (book_at t j).queue n i) (sym e) (subst (λ b. HasAsk b.queue n i) (sym takes.book) (subst (λ j. HasAsk (book_at s j).queue n i) e x))))
          by (inl e) (inr x) = inr (subst (λ xs. HasAsk xs n i) (sym takes.askers) (out_of (book_at s client).out n i (subst (λ j. HasAskOut (book_at s j).out n i) e x)))
          by (inr apart) x = inl (subst (λ b. IsAskedIn b n i) (sym (takes.books c apart)) x)

      paired : (c : ℕ) → IsPaired (book_at t c)
      paired c = by (same_line client c)
        where
          by : (c ≡ client) ⊎ (c ≢ client) → IsPaired (book_at t c)
          by (inl e) = inl (ap (λ j. (book_at t j).out) e ∙ ap (λ (b : Book). b.out) takes.book)
          by (inr apart) = subst IsPaired (sym (takes.books c apart)) (sound.paired c)

      owned : (c : ℕ) (u : Ticket) → (book_at t c).ticket ≡ Some u → IsOwned (stands_of (rows_of s)) c u
      owned c u e = by (same_line client c)
        where
          by : (c ≡ client) ⊎ (c ≢ client) → IsOwned (stands_of (rows_of s)) c u
          by (inl f) = absurd (two (sym (ap (λ j. (book_at t j).ticket) f ∙ ap (λ (b : Book). b.ticket) takes.book) ∙ e))
            where
              two : None ≡ Some u → ⊥
              two h = cc
          by (inr apart) = sound.owned c u (ap (λ (b : Book). b.ticket) (sym (takes.books c apart)) ∙ e)

      named : (c : ℕ) (u : Ticket) → (book_at t c).ticket ≡ Some u → ((book_at s c).ticket ≡ Some u) ⊎ ((u.number < next_at (nexts_of t) u.line) × (Wants w (rows_of s) u.line (ReplyTo u.number) → ⊥))
      named c u e = by (same_line client c)
        where
          by : (c ≡ client) ⊎ (c ≢ client) → ((book_at s c).ticket ≡ Some u) ⊎ ((u.number < next_at (nexts_of t) u.line) × (Wants w (rows_of s) u.line (ReplyTo u.number) → ⊥))
          by (inl f) = absurd (two (sym (ap (λ j. (book_at t j).ticket) f ∙ ap (λ (b : Book). b.ticket) takes.book) ∙ e))
            where
              two : None ≡ Some u → ⊥
              two h = cc
          by (inr apart) = inl (ap (λ (b : Book). b.ticket) (sym (takes.books c apart)) ∙ e)

module _ {P : Type 0} where
  -- a client asks once more
  pub asked_one : (s t : Clients P) (client : ℕ) (asker : Asker) (new d : ClientState) → t.clients.items ≡ set s.clients.items client new → t.places ≡ s.places → client < length (crashed_of s) → d ≡ get_or s.clients.items client d
      → book_of new ≡ record (book_of d) { queue = (book_of d).queue ++ asker ∷ [] } → AsksOne client asker s t
  asked_one s t client asker new d items places h e k = record {
    book = ap (λ cs. get_or (map book_of cs) client blank) items ∙ book_put s.clients.items client new h ∙ k ∙ ap (λ (b : Book). record b { queue = b.queue ++ asker ∷ [] }) (sym (book_there s.clients.items client d h e));
    books = λ c apart. ap (λ cs. get_or (map book_of cs) c blank) items ∙ book_other s.clients.items client new c apart;
    asks = ap (λ v. map (λ (p : Place P). p.next_ask) v.items) places;
  }

  -- its group goes out next
  pub regrouped : {X : Type 0} (s t : Clients P) (client : ℕ) (group : Option X) (new d : ClientState) → t.clients.items ≡ set s.clients.items client new → t.places ≡ s.places → client < length (crashed_of s) → d ≡ get_or s.clients.items client d
      → Regroups group (book_of d) (book_of new) → RegroupsAt client group s t
  regrouped s t client group new d items places h e k = record {
    book = subst (λ b. Regroups group b (book_at t client)) (sym (book_there s.clients.items client d h e)) (subst (Regroups group (book_of d)) (sym (ap (λ cs. get_or (map book_of cs) client blank) items ∙ book_put s.clients.items client new h)) k);
    books = λ c apart. ap (λ cs. get_or (map book_of cs) c blank) items ∙ book_other s.clients.items client new c apart;
    asks = ap (λ v. map (λ (p : Place P). p.next_ask) v.items) places;
  }

  -- its group is over
  pub taken : (s t : Clients P) (client : ℕ) (given : List Answer) (new d : ClientState) → t.clients.items ≡ set s.clients.items client new → t.places ≡ s.places → client < length (crashed_of s) → d ≡ get_or s.clients.items client d
      → book_of new ≡ record (book_of d) { out = None; ticket = None } → map (λ (a : Answer). a.0) given ≡ group_or_none (book_of d).out → Takes client given s t
  taken s t client given new d items places h e k askers = record {
    askers = askers ∙ ap (λ (b : Book). group_or_none b.out) (sym (book_there s.clients.items client d h e));
    book = ap (λ cs. get_or (map book_of cs) client blank) items ∙ book_put s.clients.items client new h ∙ k ∙ ap (λ (b : Book). record b { out = None; ticket = None }) (sym (book_there s.clients.items client d h e));
    books = λ c apart. ap (λ cs. get_or (map book_of cs) c blank) items ∙ book_other s.clients.items client new c apart;
    asks = ap (λ v. map (λ (p : Place P). p.next_ask) v.items) places;
  }

  -- its request has a ticket
  pub ticketed : (s t : Clients P) (client : ℕ) (ticket : Ticket) (d : ClientState) → t.clients.items ≡ set s.clients.items client (record d { group = Some ticket }) → t.places ≡ s.places → client < length (crashed_of s) → d ≡ get_or s.clients.items client d
      → SetsTicket client ticket s t
  ticketed s t client ticket d items places h e = record {
    book = ap (λ cs. get_or (map book_of cs) client blank) items ∙ book_put s.clients.items client (record d { group = Some ticket }) h ∙ ap (λ (b : Book). record b { ticket = Some ticket }) (sym (book_there s.clients.items client d h e));
    books = λ c apart. ap (λ cs. get_or (map book_of cs) c blank) items ∙ book_other s.clients.items client (record d { group = Some ticket }) c apart;
    asks = ap (λ v. map (λ (p : Place P). p.next_ask) v.items) places;
  }

-- A request for timestamps is posted, and has its ticket

module _ {P : Type 0} where
  pub group_sent : (s m t : Clients P) (client line : ℕ) (ticket : Ticket) (posting : Posting) (ps qs : List Posting) → IsLine (sight_of s).stands line → client_at (stand_at (sight_of s).stands line) ≡ Some client → ticket.line ≡ line → ticket.beat ≡ false → IsNext (sight_of s).nexts ticket
      → qs ≡ ps ++ posting ∷ [] → nexts_of m ≡ with_next (nexts_of s) line → asks_of m ≡ asks_of s → m.clients ≡ s.clients → rows_of m ≡ rows_of s → nexts_of t ≡ nexts_of m → rows_of t ≡ rows_of m → SetsTicket client ticket m t → SendsGroup client ps qs s t
  group_sent s m t client line ticket posting ps qs is own of beat next pushed nexts asks clients rows nexts_t rows_t sets = record {
    ticket = ticket;
    owned = record { beat = beat; own = ap (λ n. client_at (stand_at (stands_of (rows_of s)) n)) of ∙ own };
    number = number;
    past = let n = number in let f : next_at (nexts_of s) ticket.line ≡ next_at (nexts_of s) line = ap (next_at (nexts_of s)) of in let up : next_at (nexts_of t) ticket.line ≡ next_at (nexts_of s) line + 1 = ap (λ ns. next_at ns ticket.line) (nexts_t ∙ nexts) ∙ ap (next_at (with_next (nexts_of s) line)) of ∙ with_next_at (nexts_of s) line is.first (nexts_there s line is) in omega (arith, n, f, up);
    posted = keeps_one ps qs posting pushed;
    nexts = λ n. subst (λ ns. next_at (nexts_of s) n ≤ next_at ns n) (sym (nexts_t ∙ nexts)) (with_next_risen (nexts_of s) line is.first (nexts_there s line is) n);
    asks = sets.asks ∙ asks;
    book = sets.book ∙ ap (λ (b : Book). record b { ticket = Some ticket }) (books_same s m clients client);
    books = λ c apart. sets.books c apart ∙ books_same s m clients c;
  }
    where
      number : ticket.number ≡ next_at (nexts_of s) ticket.line
      number = next.number ∙ ap (λ b. next_at (numbers_of b (sight_of s).nexts) ticket.line) beat
