-- What becomes of the sight as what stands at the lines is told of something, and calls end.
use Rattle.std.proofs.Common.{◌≡◌, inl, inr, ℕ, suc, ◌-◌, ◌<◌, ◌≤◌, Bool, true, false, List, [], ◌∷◌, ◌++◌, length, map, get_or, set, nat_eq, IsTrue, Option, Some, None, refl, sym, ap, ◌∙◌, subst, arith}
use Rattle.std.proofs.lemmas.Bool.Decides.{nat_tests}
use Rattle.std.proofs.lemmas.List.{length-map}
use Rattle.std.proofs.lemmas.List.Elements.{All-append, All-cons, All-nil, All-set}
use Rattle.std.specs.Prelude.{IfOk, IfSome, OnOk, Result, Ok, Err}
use Rattle.txn_commit.specs.Ways.{Ways}
use Rattle.txn_client.specs.declared.client_call.ClientCall.{ClientCall}
use Rattle.txn_core.specs.Transaction.{Standing}
use Rattle.txn_report.specs.declared.outcome.Outcome.{Outcome}
use Rattle.txn_side.specs.Sight.{AskEnds, CallEnds, EndsAlone, Goes, IsNext, Sight, Stand, client_at, is_live, lives, stand_at, with_stand}
use Rattle.txn_side.specs.Sight.Stand.{Asking, Calling, HasBegun, Idle, Past, Working}
use Rattle.txn_side.specs.declared.turn.Ending.{Ending}
use Rattle.txn_side.specs.declared.turn.Turn.{Turn}
use Rattle.txn_clients.specs.Clients.{AreReady, HearsFor, IsLine, MayEnd, nexts_of, row_at, rows_of, sight_of, stands_of}
use Rattle.txn_clients.specs.Going.{Advances, EndsIn}
use Rattle.txn_clients.specs.Matching.{AreMatched}
use Rattle.txn_clients.specs.Rows.{Pd, RowReady, stand_of, with_waits}
use Rattle.txn_clients.specs.declared.clients.Clients.{Clients}
use Rattle.txn_clients.specs.declared.place.Place.{Place}
use Rattle.txn_clients.specs.declared.row.Row.{Row}
use Rattle.txn_clients.specs.declared.row.Row.TheVariants as row
use Rattle.txn_clients.proofs.Advances.{advances_ended}
use Rattle.txn_clients.proofs.Places.{rows_set}
use Rattle.txn_clients.proofs.Sights.{HasSettled, ask_settles, call_settles, goes_asked, goes_called, lives_on}
use Rattle.txn_clients.proofs.Stands.{line_of, or_same}
use Rattle.txn_clients.proofs.Tables.{count, ended_stands, is_next, map_kept, next_of_line, read_in, ready_ended, ready_set, sight_at, stand_of_line, stands_set}

-- Parts of a turn.

-- only the call of this line ends
pub one_ends : (line : ℕ) (o : Outcome) (from to : Turn) → to.ended.items ≡ from.ended.items ++ record { line = line; outcome = o } ∷ [] → EndsIn line from to
one_ends line o from to e h = subst (λ es. EndsAlone line es) (sym e)
    (All-append (λ (x : Ending). x.line ≡ line) from.ended.items (record { line = line; outcome = o } ∷ []) h
    (All-cons (λ (x : Ending). x.line ≡ line) (record { line = line; outcome = o }) [] refl (All-nil (λ (x : Ending). x.line ≡ line))))

-- between parts in which none ends
pub ends_within : (line : ℕ) (from via on to : Turn) → via.ended ≡ from.ended → EndsIn line via on → to.ended ≡ on.ended → EndsIn line from to
ends_within line from via on to e f k alone = subst (λ v. EndsAlone line v.items) (sym k) (f (subst (λ v. EndsAlone line v.items) (sym e) alone))

-- Where there is an answer.

pub on_ok : {X E A B : Type 0} (r : Result X E) → (A → B) → OnOk r A → OnOk r B
on_ok (Ok x) f h = f h
on_ok (Err e) f h = tt

pub always_ok : {X E B : Type 0} (r : Result X E) → B → OnOk r B
always_ok (Ok x) h = h
always_ok (Err e) h = tt

if_some : {X A B : Type 0} (o : Option X) → (A → B) → IfSome o (λ x. A) → IfSome o (λ x. B)
if_some None f h = tt
if_some (Some x) f h = f h

pub if_answered : {X E A B : Type 0} (r : Result (Option X) E) → (A → B) → IfOk r (λ o. IfSome o (λ x. A)) → IfOk r (λ o. IfSome o (λ x. B))
if_answered (Ok o) f h = if_some o f h
if_answered (Err e) f h = tt

pub some_at : {X : Type 0} (o : Option X) (x : X) (P : X → Type 0) → o ≡ Some x → IfSome o P → P x
some_at o x P e h = subst (λ p. IfSome p P) e h

pub some_so : {X : Type 0} (o : Option X) (x : X) (A : Type 0) → o ≡ Some x → IfSome o (λ y. A) → A
some_so o x A e h = subst (λ p. IfSome p (λ y. A)) e h

-- What stands where a call has ended waits for nobody.

settled_free : (c : ℕ) (s : Stand) → HasSettled c s → (d m : ℕ) → s ≡ HasBegun d m → m ≡ 0
settled_free c s (inl e) d m k = absurd (no (sym e ∙ k))
  where
    no : Past c ≡ HasBegun d m → ⊥
    no q = cc
settled_free c s (inr (inl e)) d m k = same (sym e ∙ k)
  where
    same : HasBegun c 0 ≡ HasBegun d m → m ≡ 0
    same q = cc
settled_free c s (inr (inr e)) d m k = absurd (no (sym e ∙ k))
  where
    no : Working c ≡ HasBegun d m → ⊥
    no q = cc

-- where a line is live, there is one
pub live_line : (s : Sight) (line : ℕ) → is_live s line ≡ true → IsLine s.stands line
live_line s line live = line_of s.stands line (λ i. no (sym (ap (λ t. lives s.crashed (client_at t)) i) ∙ live))
  where
    no : false ≡ true → ⊥
    no q = cc

-- the line of a transaction is there
pub begun_line : (stands : List Stand) (x c m : ℕ) → stand_at stands x ≡ HasBegun c m → IsLine stands x
begun_line stands x c m e = line_of stands x (λ i. no (sym e ∙ i))
  where
    no : HasBegun c m ≡ Idle → ⊥
    no q = cc

pub hears_own : (line : ℕ) → 1 ≤ line → suc (line - 1) ≡ line
hears_own line one = omega arith

pub hears_begun : (stands : List Stand) (x d line : ℕ) → stand_at stands x ≡ HasBegun d line → suc (x - 1) ≡ x
hears_begun stands x d line e = let one = (begun_line stands x d line e).first in omega (arith, one)

module _ {P : Type 0} where
  -- a row is told, and stays what it is
  pub stands_told : (rows : List (Row P)) (at : ℕ) (r : Row P) → at < length rows → stand_of r ≡ stand_of (row_at rows at) → stands_of (set rows at r) ≡ stands_of rows
  stands_told rows at r h e = map_kept stand_of rows at r row.Plain h e

  -- what stands at a line
  pub stands_at : (rows : List (Row P)) (line : ℕ) (r : Row P) → IsLine (stands_of rows) line → row_at rows (line - 1) ≡ r → stand_at (stands_of rows) line ≡ stand_of r
  stands_at rows line r is e = stand_of_line rows line is.first ∙ ap stand_of e

  -- What stands at a place is told, which stays what it is.

  places_of : (s : Clients P) → length (rows_of s) ≡ length s.places.items
  places_of s = length-map s.places.items (λ (p : Place P). p.row)

  pub place_row : (s : Clients P) (at : ℕ) (p : Place P) → at < length (rows_of s) → p ≡ get_or s.places.items at p → row_at (rows_of s) at ≡ p.row
  place_row s at p h e = read_in (λ (q : Place P). q.row) s.places.items at p row.Plain (let long = places_of s in omega (arith, h, long)) ∙ ap (λ (q : Place P). q.row) (sym e)

  pub put_stands : (s : Clients P) (at : ℕ) (p q : Place P) → at < length (rows_of s) → p ≡ get_or s.places.items at p → stand_of q.row ≡ stand_of p.row
      → stands_of (map (λ (p : Place P). p.row) (set s.places.items at q)) ≡ stands_of (rows_of s)
  put_stands s at p q h e same = ap stands_of (rows_set s.places.items at q) ∙ stands_told (rows_of s) at q.row h (same ∙ ap stand_of (sym (place_row s at p h e)))

  pub put_nexts : (s : Clients P) (at : ℕ) (p q : Place P) → at < length (rows_of s) → p ≡ get_or s.places.items at p → q.next ≡ p.next
      → map (λ (p : Place P). p.next) (set s.places.items at q) ≡ nexts_of s
  put_nexts s at p q h e same = map_kept (λ (p : Place P). p.next) s.places.items at q p (let long = places_of s in omega (arith, h, long)) (same ∙ ap (λ (p : Place P). p.next) e)

  pub put_row : (s : Clients P) (at : ℕ) (q : Place P) → at < length (rows_of s) → row_at (map (λ (p : Place P). p.row) (set s.places.items at q)) at ≡ q.row
  put_row s at q h = ap (λ rs. row_at rs at) (rows_set s.places.items at q) ∙ or_same (rows_of s) at q.row row.Plain h

  -- the number that is kept for a line is its next
  pub ticket_next : (s : Clients P) (line : ℕ) (p : Place P) → IsLine (sight_of s).stands line → p ≡ get_or s.places.items (line - 1) p → IsNext (sight_of s).nexts (record { line = line; beat = false; number = p.next })
  ticket_next s line p is e = is_next s line p.next is (ap (λ (q : Place P). q.next) e ∙ sym (next_of_line s line p is.first (let one = is.first in let last = is.last in let long = count s in omega (arith, one, last, long))))

  -- Who hears.

  pub waits_so : (rows : List (Row P)) (x line c m : ℕ) (t : Standing P) → 1 ≤ x → row_at rows (x - 1) ≡ row.Begun c t m → IsTrue (nat_eq m line) → (d : ℕ) × (stand_at (stands_of rows) x ≡ HasBegun d line)
  waits_so rows x line c m t one e test = (c, stand_of_line rows x one ∙ ap stand_of e ∙ ap (HasBegun c) (by (nat_eq m line) refl test))
    where
      by : (b : Bool) → nat_eq m line ≡ b → IsTrue b → m ≡ line
      by true k h = grind (arith, nat_tests)
      by false k h = absurd (no h)
        where
          no : false ≡ true → ⊥
          no q = cc

  pub hears_as : (rows : List (Row P)) (line at : ℕ) (r : Row P) → IsLine (stands_of rows) line → row_at rows (line - 1) ≡ r → HearsFor (stands_of rows) line at (stand_of r) → HearsFor (stands_of rows) line at (stand_at (stands_of rows) line)
  hears_as rows line at r is e h = subst (HearsFor (stands_of rows) line at) (sym (stands_at rows line r is e)) h

  -- the transaction of the call is there
  pub call_line : (rows : List (Row P)) (line x c : ℕ) (b : Bool) → IsLine (stands_of rows) line → row_at rows (line - 1) ≡ row.Calling c x b → MayEnd rows line (stand_at (stands_of rows) line) → IsLine (stands_of rows) x
  call_line rows line x c b is there may = by (subst (λ s. MayEnd rows line s) (stands_at rows line (row.Calling c x b) is there) may)
    where
      by : MayEnd rows line (Calling c x b) → IsLine (stands_of rows) x
      by (d, waits, rests) = line_of (stands_of rows) x (λ i. no (sym waits ∙ i))
        where
          no : HasBegun d line ≡ Idle → ⊥
          no q = cc

  module _ (w : Ways P) where
    pub ready_told : (rows : List (Row P)) (at : ℕ) (r : Row P) → at < length rows → stand_of r ≡ stand_of (row_at rows at) → RowReady w r → AreReady w rows → AreReady w (set rows at r)
    ready_told rows at r h e may ready = record {
      each = All-set (RowReady w) rows at r may ready.each;
      matched = subst AreMatched (sym (stands_told rows at r h e)) ready.matched;
    }

    pub put_ready : (s : Clients P) (at : ℕ) (p q : Place P) → at < length (rows_of s) → p ≡ get_or s.places.items at p → stand_of q.row ≡ stand_of p.row → RowReady w q.row → AreReady w (rows_of s)
        → AreReady w (map (λ (p : Place P). p.row) (set s.places.items at q))
    put_ready s at p q h e same may ready = subst (AreReady w) (sym (rows_set s.places.items at q)) (ready_told (rows_of s) at q.row h (same ∙ ap stand_of (sym (place_row s at p h e))) may ready)

    -- A call for a timestamp has ended.

    pub asked_ready : (rows news : List (Row P)) (line c : ℕ) (b : Bool) (call : ClientCall Pd P) (r : Row P) (o : Outcome) → IsLine (stands_of rows) line → row_at rows (line - 1) ≡ row.Asking c b call → AreReady w rows → RowReady w r → AskEnds c b o (stand_of r)
        → news ≡ set rows (line - 1) r → AreReady w news
    asked_ready rows news line c b call r o is there ready may ends e = subst (AreReady w) (sym e) (ready_set w rows line r is ready may
        (λ d x a k. no d x a (sym (stands_at rows line (row.Asking c b call) is there) ∙ k))
        (settled_free c (stand_of r) (ask_settles c b o (stand_of r) ends)))
      where
        no : (d x : ℕ) (a : Bool) → Asking c b ≡ Calling d x a → ⊥
        no d x a q = cc

    pub asked_advances : (s t : Clients P) (from to : Turn) (line c : ℕ) (b : Bool) (call : ClientCall Pd P) (r : Row P) (o : Outcome) → IsLine (sight_of s).stands line → is_live (sight_of s) line ≡ true
        → row_at (rows_of s) (line - 1) ≡ row.Asking c b call → AreReady w (rows_of s) → AskEnds c b o (stand_of r)
        → rows_of t ≡ set (rows_of s) (line - 1) r → nexts_of t ≡ nexts_of s → t.clients ≡ s.clients
        → to.posted.items ≡ from.posted.items → to.ended.items ≡ from.ended.items ++ record { line = line; outcome = o } ∷ []
        → Advances from to (sight_of s) (sight_of t)
    asked_advances s t from to line c b call r o is live there ready ends rows nexts clients posted ended =
        advances_ended from to (record { line = line; outcome = o }) (sight_of s) (sight_of t) posted ended
        (subst (λ v. Goes [] (record { line = line; outcome = o } ∷ []) (sight_of s) v) (sym seen)
        (goes_asked (sight_of s) line c b o (stand_of r) (stands_at (rows_of s) line (row.Asking c b call) is there) live ready.matched ends))
      where
        seen : sight_of t ≡ with_stand line (stand_of r) (sight_of s)
        seen = sight_at s t (set (stands_of (rows_of s)) (line - 1) (stand_of r)) (nexts_of s) clients (ap stands_of rows ∙ stands_set (rows_of s) (line - 1) r) nexts

    -- A call of a transaction has ended, which waits no more.

    pub called_ready : (rows news : List (Row P)) (line x c : ℕ) (b : Bool) (r : Row P) (o : Outcome) → IsLine (stands_of rows) line → row_at rows (line - 1) ≡ row.Calling c x b → MayEnd rows line (stand_at (stands_of rows) line) → AreReady w rows → RowReady w r → CallEnds c b o (stand_of r)
        → news ≡ set (set rows (x - 1) (with_waits 0 (row_at rows (x - 1)))) (line - 1) r → AreReady w news
    called_ready rows news line x c b r o is there may ready can ends e = subst (AreReady w) (sym e) (ended (subst (λ s. MayEnd rows line s) calls may))
      where
        calls : stand_at (stands_of rows) line ≡ Calling c x b
        calls = stands_at rows line (row.Calling c x b) is there

        ended : MayEnd rows line (Calling c x b) → AreReady w (set (set rows (x - 1) (with_waits 0 (row_at rows (x - 1)))) (line - 1) r)
        ended (d, waits, rests) = ready_ended w rows line x c d b r (call_line rows line x c b is there may) calls waits ready rests can (settled_free c (stand_of r) (call_settles c b o (stand_of r) ends))

    pub called_goes : (s t : Clients P) (line x c : ℕ) (b : Bool) (r : Row P) (o : Outcome) → IsLine (sight_of s).stands line → is_live (sight_of s) line ≡ true
        → row_at (rows_of s) (line - 1) ≡ row.Calling c x b → MayEnd (rows_of s) line (stand_at (sight_of s).stands line) → AreReady w (rows_of s) → CallEnds c b o (stand_of r)
        → rows_of t ≡ set (set (rows_of s) (x - 1) (with_waits 0 (row_at (rows_of s) (x - 1)))) (line - 1) r → nexts_of t ≡ nexts_of s → t.clients ≡ s.clients
        → Goes [] (record { line = line; outcome = o } ∷ []) (sight_of s) (sight_of t)
    called_goes s t line x c b r o is live there may ready ends rows nexts clients = by (subst (λ v. MayEnd (rows_of s) line v) calls may)
      where
        calls : stand_at (stands_of (rows_of s)) line ≡ Calling c x b
        calls = stands_at (rows_of s) line (row.Calling c x b) is there

        by : MayEnd (rows_of s) line (Calling c x b) → Goes [] (record { line = line; outcome = o } ∷ []) (sight_of s) (sight_of t)
        by (d, waits, rests) = subst (λ v. Goes [] (record { line = line; outcome = o } ∷ []) (sight_of s) v) (sym seen) (goes_called (sight_of s) line x c d b o (stand_of r) calls waits live ready.matched ends)
          where
            begun : IsLine (stands_of (rows_of s)) x
            begun = line_of (stands_of (rows_of s)) x (λ i. no (sym waits ∙ i))
              where
                no : HasBegun d line ≡ Idle → ⊥
                no q = cc

            seen : sight_of t ≡ with_stand line (stand_of r) (with_stand x (HasBegun d 0) (sight_of s))
            seen = sight_at s t (set (set (stands_of (rows_of s)) (x - 1) (HasBegun d 0)) (line - 1) (stand_of r)) (nexts_of s) clients (ap stands_of rows ∙ ended_stands (rows_of s) line x d line r begun waits) nexts

    pub called_advances : (s t : Clients P) (from to : Turn) (line x c : ℕ) (b : Bool) (r : Row P) (o : Outcome) → IsLine (sight_of s).stands line → is_live (sight_of s) line ≡ true
        → row_at (rows_of s) (line - 1) ≡ row.Calling c x b → MayEnd (rows_of s) line (stand_at (sight_of s).stands line) → AreReady w (rows_of s) → CallEnds c b o (stand_of r)
        → rows_of t ≡ set (set (rows_of s) (x - 1) (with_waits 0 (row_at (rows_of s) (x - 1)))) (line - 1) r → nexts_of t ≡ nexts_of s → t.clients ≡ s.clients
        → to.posted.items ≡ from.posted.items → to.ended.items ≡ from.ended.items ++ record { line = line; outcome = o } ∷ []
        → Advances from to (sight_of s) (sight_of t)
    called_advances s t from to line x c b r o is live there may ready ends rows nexts clients posted ended =
        advances_ended from to (record { line = line; outcome = o }) (sight_of s) (sight_of t) posted ended (called_goes s t line x c b r o is live there may ready ends rows nexts clients)

    -- and its line is as live as it was
    pub called_live : (s t : Clients P) (line x c : ℕ) (b : Bool) (r : Row P) (o : Outcome) → IsLine (sight_of s).stands line → is_live (sight_of s) line ≡ true
        → row_at (rows_of s) (line - 1) ≡ row.Calling c x b → MayEnd (rows_of s) line (stand_at (sight_of s).stands line) → AreReady w (rows_of s) → CallEnds c b o (stand_of r)
        → rows_of t ≡ set (set (rows_of s) (x - 1) (with_waits 0 (row_at (rows_of s) (x - 1)))) (line - 1) r → nexts_of t ≡ nexts_of s → t.clients ≡ s.clients
        → is_live (sight_of t) line ≡ true
    called_live s t line x c b r o is live there may ready ends rows nexts clients =
        lives_on (sight_of s) (sight_of t) line (called_goes s t line x c b r o is live there may ready ends rows nexts clients) ∙ live
