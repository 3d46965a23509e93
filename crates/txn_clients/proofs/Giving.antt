-- Why those whose asks a request for timestamps carries are told that there is none.
use Rattle.std.proofs.Common.{◌≡◌, ◌<◌, ◌≤◌, inl, inr, ℕ, suc, List, [], ◌∷◌, ◌++◌, length, map, arith, get_or, Option, Some, None, refl, sym, ap, ◌∙◌, subst}
use Rattle.std.proofs.lemmas.List.{length-map}
use Rattle.std.proofs.lemmas.List.Elements.{All-cons, All-head, All-nil, All-tail}
use Rattle.std.proofs.Math.Nat.{le_refl}
use Rattle.std.specs.List.{All}
use Rattle.std.specs.Prelude.{Result, Ok, Err}
use Rattle.txn_kv.specs.declared.errors.Error.{Error}
use Rattle.txn_kv.specs.declared.errors.Error.TheVariants.{InternalError}
use Rattle.txn_kv.specs.declared.errors.Internal.TheVariants.{OracleLost}
use Rattle.txn_kv.specs.declared.reply.Reply.{Reply}
use Rattle.txn_kv.specs.declared.reply.Reply.TheVariants as replies
use Rattle.txn_kv.specs.declared.reply.cluster.TsoResponse.{TsoResponse}
use Rattle.txn_kv.specs.declared.request.Request.{Request}
use Rattle.txn_kv.specs.declared.request.Request.TheVariants.{Tso}
use Rattle.txn_kv.specs.declared.request.cluster.TsoRequest.{TsoRequest}
use Rattle.txn_kv.specs.declared.ticket.Ticket.{Ticket}
use Rattle.txn_kv.specs.declared.timestamp.Timestamp.{Timestamp}
use Rattle.txn_history.specs.Among.{IsAmong}
use Rattle.txn_history.specs.Event.{Event, Has}
use Rattle.txn_history.specs.Event.Event.{Lost, Took}
use Rattle.txn_law.proofs.Among.{map_among}
use Rattle.txn_kv.specs.declared.arrival.Arrival.TheVariants as arrivals
use Rattle.txn_side.specs.Sight.{Group}
use Rattle.txn_side.specs.Trace.{HasFailed, IsRefusedNow, Refuses, Trace, and_refused, given_none, refused_as, with_posted}
use Rattle.txn_side.specs.Trace.{refused_by as refused_lines}
use Rattle.txn_side.specs.declared.turn.Ending.{Ending}
use Rattle.txn_side.specs.declared.turn.Posting.{Posting}
use Rattle.txn_tso.specs.Oracle.{Answer, answer, answered, answers, askers_out, group_or_none, Oracle}
use Rattle.txn_tso.specs.declared.asker.Asker.{Asker}
use Rattle.txn_clients.specs.Clients.{groups_of}
use Rattle.txn_clients.specs.Arising.{oracle_of}
use Rattle.txn_clients.specs.Failing.{AreGivenIn, CameIn, GroupCameIn, IfFails, LongerIn, outbox_of, owing, owing_all, owing_one, posting_in, refused_of, refused_out}
use Rattle.txn_clients.specs.Groups.{IsRefused, RefusesBy, group_by, lines_in, over_by}
use Rattle.txn_clients.specs.Resting.{sound_longer}
use Rattle.txn_clients.specs.Waiting.{GoesOn, IsPaired, IsSound, IsThere, Takes, book_at, pends}
use Rattle.txn_clients.specs.declared.told.Told.TheVariants.{Heard}
use Rattle.txn_commit.specs.Ways.{Ways}
use Rattle.txn_history.specs.Phase.{Awaited}
use Rattle.txn_clients.specs.declared.clients.Clients.{Clients}
use Rattle.txn_clients.proofs.Settling.{head_sound}
use Rattle.txn_clients.proofs.Showing.{all_map, owing_one_longer, posting_both, reason_longer}
use Rattle.txn_clients.proofs.Stepping.{group_there}
use Rattle.txn_clients.proofs.Timestamps.{among_so, none_some, some_same}

abbrev Fails : (Error → Type 0) → Answer → Type 0
Fails P a = IfFails P a.1

weaker : (P Q : Error → Type 0) (v : Result Timestamp Error) → ((e : Error) → P e → Q e) → IfFails P v → IfFails Q v
weaker P Q (Ok x) f h = tt
weaker P Q (Err e) f h = f e h

-- What a reply refuses

refused_by : (o : TsoResponse) (asked behind : ℕ) (v : Result Timestamp Error) → behind < asked → answer o asked behind ≡ v → IfFails (Refuses asked (replies.Tso o)) v
refused_by o asked behind (Ok time) low is = tt
refused_by o asked behind (Err e) low is = (behind, low, is)

answers_refuse : (o : TsoResponse) (asked : ℕ) (askers : List Asker) → length askers ≤ asked → All (Fails (Refuses asked (replies.Tso o))) (answers o asked askers)
answers_refuse o asked [] low = All-nil (Fails (Refuses asked (replies.Tso o)))
answers_refuse o asked (a ∷ rest) low =
    let high : suc (length rest) ≤ asked = low in
    All-cons (Fails (Refuses asked (replies.Tso o))) (a, answer o asked (length rest)) (answers o asked rest) (refused_by o asked (length rest) (answer o asked (length rest)) (omega (arith, high)) refl) (answers_refuse o asked rest (omega (arith, high)))

-- each asker is answered
answers_long : (o : TsoResponse) (asked : ℕ) (askers : List Asker) → length (answers o asked askers) ≡ length askers
answers_long o asked [] = refl
answers_long o asked (a ∷ rest) = ap suc (answers_long o asked rest)

pub times_refuse : (o : TsoResponse) (oracle : Oracle) (given : List Answer) → given ≡ answered o oracle → All (Fails (Refuses (length given) (replies.Tso o))) given
times_refuse o oracle given e =
    let out = askers_out oracle in
    subst (λ (xs : List Answer). All (Fails (Refuses (length xs) (replies.Tso o))) xs) (sym e)
    (subst (λ (n : ℕ). All (Fails (Refuses n (replies.Tso o))) (answered o oracle)) (sym (answers_long o (length out) out)) (answers_refuse o (length out) out (le_refl (length out))))

-- What those are told who asked

repacked : (t : Trace) (lines : List ℕ) (ps : List Posting) (line : ℕ) (e : Error) → IsRefusedNow t line e → IsRefusedNow (with_posted ps (record t { owed = lines ++ t.owed })) line e
repacked t lines ps line e n = let r = n.refused in record { refused = record { group = r.group; among = r.among; asker = r.asker; request = r.request; failed = r.failed }; now = n.now }

-- it has happened
pub given_came : (trace : Option Trace) (lines : List ℕ) (ps : List Posting) (given : List Answer) (asker : Asker) (v : Result Timestamp Error) → AreGivenIn trace given → IsAmong given (asker, v) → CameIn (posting_in ps (owing_all lines trace)) (outbox_of asker.line) (arrivals.Time asker.ask v)
given_came None lines ps given asker v all among = tt
given_came (Some t) lines ps given asker v all among =
    weaker (IsRefusedNow t asker.line) (IsRefusedNow (with_posted ps (record t { owed = lines ++ t.owed })) asker.line) v (λ e r. repacked t lines ps asker.line e r) (among_so (λ (a : Answer). IfFails (IsRefusedNow t a.0.line) a.1) given (asker, v) all among)

-- What is still to be told of their asks

pub owing_none : (trace : Option Trace) → owing_all [] trace ≡ trace
owing_none None = refl
owing_none (Some t) = refl

owing_first : (line : ℕ) (v : Result Timestamp Error) (lines : List ℕ) (trace : Option Trace) → owing_all (and_refused v line lines) trace ≡ owing_one v line (owing_all lines trace)
owing_first line v lines None = refl
owing_first line (Ok time) lines (Some t) = refl
owing_first line (Err e) lines (Some t) = refl

-- once the first was told
pub first_told : (given : List Answer) (a : Answer) (rest : List Answer) (trace : Option Trace) → given ≡ a ∷ rest → LongerIn (owing_all (refused_of given) trace) (owing_all (refused_of rest) trace)
first_told given a rest trace e =
    subst (λ xs. LongerIn (owing_all (refused_of xs) trace) (owing_all (refused_of rest) trace)) (sym e)
    (subst (λ x. LongerIn x (owing_all (refused_of rest) trace)) (sym (owing_first a.0.line a.1 (refused_of rest) trace)) (owing_one_longer a.1 a.0.line (owing_all (refused_of rest) trace)))

module _ {P : Type 0} (w : Ways P) where
  -- before it is
  pub first_sound : (trace : Option Trace) (ps : List Posting) (s : Clients P) (given : List Answer) (a : Answer) (rest : List Answer) → given ≡ a ∷ rest → IsSound w (posting_in ps (owing_all (refused_of given) trace)) (map (λ (x : Answer). x.0) given) s
      → IsSound w (posting_in ps (owing a.0.line (Heard (arrivals.Time a.0.ask a.1)) (owing_all (refused_of rest) trace))) (pends a.0.line (Heard (arrivals.Time a.0.ask a.1)) (map (λ (x : Answer). x.0) rest)) s
  first_sound trace ps s given a rest e sound =
      head_sound w (posting_in ps (owing_one a.1 a.0.line (owing_all (refused_of rest) trace))) s a.0 (map (λ (x : Answer). x.0) rest)
      (subst (λ x. IsSound w (posting_in ps x) (a.0 ∷ map (λ (x : Answer). x.0) rest) s) (owing_first a.0.line a.1 (refused_of rest) trace)
      (subst (λ xs. IsSound w (posting_in ps (owing_all (refused_of xs) trace)) (map (λ (x : Answer). x.0) xs) s) e sound))

  -- what was done before is so then, too
  pub goes_longer : (trace longer : Option Trace) (s t : Clients P) (client : ℕ) (Hears : ℕ → Awaited → Type 0) (rest : List Asker) (ps qs : List Posting) (es fs : List Ending) → LongerIn trace longer → GoesOn w trace client Hears rest ps qs es fs s t → GoesOn w longer client Hears rest ps qs es fs s t
  goes_longer trace longer s t client Hears rest ps qs es fs l g = record {
    sound = sound_longer w (posting_in qs trace) (posting_in qs longer) rest t (posting_both trace longer qs l) g.sound;
    ends = record { more = g.ends.more; ended = g.ends.ended; each = all_map (λ e h. reason_longer w (posting_in qs trace) (posting_in qs longer) e (posting_both trace longer qs l) h) g.ends.more g.ends.each };
    posted = g.posted;
    lines = g.lines;
    outs = g.outs;
    tickets = g.tickets;
    books = g.books;
  }

-- whose asks are refused where none gets a timestamp
lines_refused : (given : List Answer) → All IsRefused given → refused_of given ≡ lines_in (map (λ (a : Answer). a.0) given)
lines_refused [] all = refl
lines_refused ((a, Ok time) ∷ rest) all = absurd (All-head IsRefused (a, Ok time) rest all)
lines_refused ((a, Err e) ∷ rest) all = ap (λ lines. a.line ∷ lines) (lines_refused rest (All-tail IsRefused (a, Err e) rest all))

-- and by a reply with timestamps
times_refused : (o : TsoResponse) (asked : ℕ) (askers : List Asker) → refused_of (answers o asked askers) ≡ given_none o asked (lines_in askers)
times_refused o asked [] = refl
times_refused o asked (a ∷ rest) = λ i. and_refused (answer o asked (long i)) a.line (times_refused o asked rest i)
  where
    long : length rest ≡ length (lines_in rest)
    long = sym (length-map rest (λ (b : Asker). b.line))

reply_refused : (o : Reply) (given : List Answer) (oracle : Oracle) → map (λ (a : Answer). a.0) given ≡ askers_out oracle → ((times : TsoResponse) → o ≡ replies.Tso times → given ≡ answered times oracle) → (((times : TsoResponse) → o ≡ replies.Tso times → ⊥) → All IsRefused given)
    → refused_of given ≡ refused_lines o (lines_in (askers_out oracle))
reply_refused (replies.Tso times) given oracle askers granted refused =
    ap refused_of (granted times refl) ∙ times_refused times (length (askers_out oracle)) (askers_out oracle) ∙ ap (λ n. given_none times n (lines_in (askers_out oracle))) (sym (length-map (askers_out oracle) (λ (b : Asker). b.line)))
reply_refused o given oracle askers granted refused = lines_refused given (refused (λ times e. cc)) ∙ ap lines_in askers

no_lines : (o : Reply) → refused_lines o [] ≡ []
no_lines (replies.Tso times) = refl
no_lines o = refl

-- those of the request that is out
none_refused : (event : Ticket → Request → Event) (refused : List ℕ → List ℕ) → ((u : Ticket) (lines : List ℕ) → refused_as (event u (Tso (record { count = length lines }))) lines ≡ refused lines) → refused [] ≡ [] → (ticket : Option Ticket) → refused_out event (group_by ticket []) ≡ []
none_refused event refused same none None = refl
none_refused event refused same none (Some u) = same u [] ∙ none

module _ {P : Type 0} where
  out_refused : (event : Ticket → Request → Event) (refused : List ℕ → List ℕ) → ((u : Ticket) (lines : List ℕ) → refused_as (event u (Tso (record { count = length lines }))) lines ≡ refused lines) → refused [] ≡ [] → (s : Clients P) (client : ℕ) (given : List Answer) → IsPaired (book_at s client)
      → refused_of given ≡ refused (lines_in (group_or_none (book_at s client).out)) → refused_of given ≡ refused_out event (get_or (groups_of s) client None)
  out_refused event refused same none s client given paired all = elim paired [
    | inl unsent ↦
        let askers = ap (λ o. lines_in (group_or_none o)) unsent in
        all ∙ ap refused askers ∙ none ∙ sym (none_refused event refused same none (book_at s client).ticket) ∙ ap (λ lines. refused_out event (group_by (book_at s client).ticket lines)) (sym askers) ∙ ap (refused_out event) (sym (group_there s.clients.items client))
    | inr (u, e) ↦
        let lines = lines_in (group_or_none (book_at s client).out) in
        all ∙ sym (same u lines) ∙ ap (λ ticket. refused_out event (group_by ticket lines)) (sym e) ∙ ap (refused_out event) (sym (group_there s.clients.items client))
  ]

  -- as its reply was taken
  taken_refused : (s t : Clients P) (client : ℕ) (o : Reply) (given : List Answer) → Takes client given s t → IsPaired (book_at s client) → ((times : TsoResponse) → o ≡ replies.Tso times → given ≡ answered times (oracle_of (book_at s client))) → (((times : TsoResponse) → o ≡ replies.Tso times → ⊥) → All IsRefused given)
      → refused_of given ≡ refused_out (λ u r. Took u r o) (get_or (groups_of s) client None)
  taken_refused s t client o given takes paired granted refused = out_refused (λ u r. Took u r o) (refused_lines o) (λ u lines. refl) (no_lines o) s client given paired (reply_refused o given (oracle_of (book_at s client)) takes.askers granted refused)

  -- as it was lost
  lost_refused : (s t : Clients P) (client : ℕ) (given : List Answer) → Takes client given s t → IsPaired (book_at s client) → All IsRefused given → refused_of given ≡ refused_out (λ u r. Lost u r) (get_or (groups_of s) client None)
  lost_refused s t client given takes paired refused = out_refused (λ u r. Lost u r) (λ lines. lines) (λ u lines. refl) refl s client given paired (lines_refused given refused ∙ ap lines_in takes.askers)

  pub over_refused : (s t : Clients P) (client : ℕ) (x : Option Reply) (given : List Answer) → Takes client given s t → IsPaired (book_at s client)
      → ((times : TsoResponse) → x ≡ Some (replies.Tso times) → given ≡ answered times (oracle_of (book_at s client))) → (((times : TsoResponse) → x ≡ Some (replies.Tso times) → ⊥) → All IsRefused given)
      → refused_of given ≡ refused_out (over_by x) (get_or (groups_of s) client None)
  over_refused s t client (Some o) given takes paired granted refused = taken_refused s t client o given takes paired (λ times e. granted times (ap Some e)) (λ f. refused (λ times e. f times (some_same e)))
  over_refused s t client None given takes paired granted refused = lost_refused s t client given takes paired (refused (λ times e. none_some e))

all_among : {X : Type 0} (P : X → Type 0) (xs : List X) → ((x : X) → IsAmong xs x → P x) → All P xs
all_among P [] f = All-nil P
all_among P (x ∷ xs) f = All-cons P x xs (f x (inl refl)) (all_among P xs (λ y i. f y (inr i)))

-- an answer of the request that is out, where that failed so
refused_one : (t : Trace) (event : Ticket → Request → Event) (Why : Error → Type 0) (asked : ℕ) → ((u : Ticket) (r : TsoRequest) (e : Error) → Has t.events (event u (Tso r)) → Why e → HasFailed t.events u r asked e)
    → (group : Group) (came : IsAmong t.groups group × ((r : TsoRequest) × Has t.events (event group.ticket (Tso r))) × (t.came ≡ Some group.ticket)) → asked ≡ length group.askers → (line : ℕ) → IsAmong group.askers line → (v : Result Timestamp Error) → IfFails Why v → IfFails (IsRefusedNow t line) v
refused_one t event Why asked failed group came all line among (Ok x) h = tt
refused_one t event Why asked failed group came all line among (Err e) h =
    let fact = came.1 in
    record {
      refused = record { group = group; among = came.0; asker = among; request = fact.0; failed = subst (λ (n : ℕ). HasFailed t.events group.ticket fact.0 n e) all (failed group.ticket fact.0 e fact.1 h) };
      now = came.2;
    }

module _ {P : Type 0} where
  -- all of them are told why, where the request that is out was lost, or its reply was taken
  pub given_in : (trace : Option Trace) (s t : Clients P) (client : ℕ) (event : Ticket → Request → Event) (Why : Error → Type 0) (given : List Answer)
      → ((u : Trace) (x : Ticket) (r : TsoRequest) (e : Error) → Has u.events (event x (Tso r)) → Why e → HasFailed u.events x r (length given) e)
      → Takes client given s t → IsPaired (book_at s client) → GroupCameIn trace (get_or (groups_of s) client None) event → All (Fails Why) given → AreGivenIn trace given
  given_in None s t client event Why given failed takes paired came all = tt
  given_in (Some u) s t client event Why given failed takes paired came all = all_among (λ (a : Answer). IfFails (IsRefusedNow u a.0.line) a.1) given (λ a i. one a (among_so (Fails Why) given a all i) (asks a i))
    where
      out : List Asker
      out = group_or_none (book_at s client).out

      asks : (a : Answer) → IsAmong given a → IsAmong out a.0
      asks a i = subst (λ askers. IsAmong askers a.0) takes.askers (map_among (λ (b : Answer). b.0) given a i)

      long : length given ≡ length (lines_in out)
      long = sym (length-map given (λ (b : Answer). b.0)) ∙ ap length takes.askers ∙ sym (length-map out (λ (b : Asker). b.line))

      there : IsThere (book_at s client).ticket → (a : Answer) → IfFails Why a.1 → IsAmong out a.0 → IfFails (IsRefusedNow u a.0.line) a.1
      there (ticket, e) a h i =
          let group : Group = record { ticket = ticket; askers = lines_in out } in
          refused_one u event Why (length given) (failed u) group (came group (group_there s.clients.items client ∙ ap (λ o. group_by o (lines_in out)) e)) long a.0.line (map_among (λ (b : Asker). b.line) out a.0 i) a.1 h

      one : (a : Answer) → IfFails Why a.1 → IsAmong out a.0 → IfFails (IsRefusedNow u a.0.line) a.1
      one a h i = elim paired [ inl none ↦ absurd (subst (λ o. IsAmong (group_or_none o) a.0) none i) | inr ticket ↦ there ticket a h i ]

  -- its reply was taken
  given_taken : (trace : Option Trace) (s t : Clients P) (client : ℕ) (o : Reply) (given : List Answer) → Takes client given s t → IsPaired (book_at s client) → GroupCameIn trace (get_or (groups_of s) client None) (λ u r. Took u r o) → All (Fails (Refuses (length given) o)) given → AreGivenIn trace given
  given_taken trace s t client o given takes paired came all = given_in trace s t client (λ u r. Took u r o) (Refuses (length given) o) given (λ u x r e h why. inr (o, h, why)) takes paired came all

  -- it was lost
  given_lost : (trace : Option Trace) (s t : Clients P) (client : ℕ) (given : List Answer) → Takes client given s t → IsPaired (book_at s client) → GroupCameIn trace (get_or (groups_of s) client None) (λ u r. Lost u r) → All (Fails (λ e. e ≡ InternalError OracleLost)) given → AreGivenIn trace given
  given_lost trace s t client given takes paired came all = given_in trace s t client (λ u r. Lost u r) (λ e. e ≡ InternalError OracleLost) given (λ u x r e h why. inl (h, why)) takes paired came all

  pub given_over : (trace : Option Trace) (s t : Clients P) (client : ℕ) (x : Option Reply) (given : List Answer) → Takes client given s t → IsPaired (book_at s client) → GroupCameIn trace (get_or (groups_of s) client None) (over_by x) → All (Fails (RefusesBy (length given) x)) given → AreGivenIn trace given
  given_over trace s t client (Some o) given takes paired came all = given_taken trace s t client o given takes paired came all
  given_over trace s t client None given takes paired came all = given_lost trace s t client given takes paired came all
