-- The lists that a machine sees, of what is kept in one place a line.
use Rattle.std.proofs.Common.{◌≡◌, ◌≢◌, ℕ, zero, suc, ◌+◌, ◌-◌, ◌<◌, ◌≤◌, Bool, false, List, [], ◌∷◌, length, map, get_or, set, Option, refl, sym, ap, ◌∙◌, subst, arith}
use Rattle.std.proofs.lemmas.List.{length-map, map-set}
use Rattle.std.proofs.lemmas.List.Elements.{All-set}
use Rattle.std.specs.List.{All}
use Rattle.txn_commit.specs.Ways.{Ways}
use Rattle.txn_kv.specs.declared.ticket.Ticket.{Ticket}
use Rattle.txn_side.specs.Sight.{Group, IsNext, Sight, Stand, line_count, next_at, raised, stand_at, with_next}
use Rattle.txn_side.specs.Sight.Stand.{Asking, Calling, HasBegun, Idle, IsClient, Past, Working}
use Rattle.txn_clients.specs.Clients.{AreReady, IsLine, crashed_of, groups_of, nexts_of, of_calls, row_at, rows_of, sight_of, stands_of, unbeaten}
use Rattle.txn_clients.specs.Groups.{group_of}
use Rattle.txn_clients.specs.Matching.{AreMatched}
use Rattle.txn_clients.specs.Rows.{Rests, RowReady, stand_of, with_waits}
use Rattle.txn_clients.specs.declared.client_state.ClientState.{ClientState}
use Rattle.txn_clients.specs.declared.clients.Clients.{Clients}
use Rattle.txn_clients.specs.declared.place.Place.{Place}
use Rattle.txn_clients.specs.declared.row.Row.{Row}
use Rattle.txn_clients.specs.declared.row.Row.TheVariants as row
use Rattle.txn_clients.proofs.Stands.{matched_called, matched_ended, matched_set}

-- what is read of an element
pub read : {X Y : Type 0} (f : X → Y) (xs : List X) (i : ℕ) (d : X) → get_or (map f xs) i (f d) ≡ f (get_or xs i d)
read f [] i d = refl
read f (x ∷ xs) zero d = refl
read f (x ∷ xs) (suc i) d = read f xs i d

pub read_in : {X Y : Type 0} (f : X → Y) (xs : List X) (i : ℕ) (d : X) (e : Y) → i < length xs → get_or (map f xs) i e ≡ f (get_or xs i d)
read_in f [] i d e h = absurd (omega arith)
read_in f (x ∷ xs) zero d e h = refl
read_in f (x ∷ xs) (suc i) d e h = read_in f xs i d e (omega arith)

-- one of the list is replaced by one of which f reads the same
pub map_kept : {X Y : Type 0} (f : X → Y) (xs : List X) (i : ℕ) (y d : X) → i < length xs → f y ≡ f (get_or xs i d) → map f (set xs i y) ≡ map f xs
map_kept f [] i y d h e = absurd (omega arith)
map_kept f (x ∷ xs) zero y d h e = ap (λ z. z ∷ map f xs) e
map_kept f (x ∷ xs) (suc i) y d h e = ap (λ zs. f x ∷ zs) (map_kept f xs i y d (omega arith) e)

abbrev begun_by : Stand → ℕ
begun_by (HasBegun c m) = c
begun_by _ = 0

abbrev sight : List Bool → List (Option Group) → List Stand → List ℕ → Sight
sight c g r n = record { crashed = c; groups = g; stands = r; nexts = of_calls n }

pub sight_by : (c d : List Bool) (g h : List (Option Group)) (r s : List Stand) (n m : List ℕ) → c ≡ d → g ≡ h → r ≡ s → n ≡ m → sight c g r n ≡ sight d h s m
sight_by c d g h r s n m e f k l = rw (e, f, k, l) refl

-- where a call posts, the numbers of its line's heartbeat stay
unbeaten_set : (nexts : List ℕ) (i n : ℕ) → unbeaten (set nexts i n) ≡ unbeaten nexts
unbeaten_set [] i n = refl
unbeaten_set (x ∷ xs) zero n = refl
unbeaten_set (x ∷ xs) (suc i) n = ap (λ zs. 1 ∷ zs) (unbeaten_set xs i n)

pub raised_calls : (nexts : List ℕ) (t : Ticket) → t.beat ≡ false → of_calls (with_next nexts t.line) ≡ raised t.beat t.line (of_calls nexts)
raised_calls nexts t beat = by (unbeaten_set nexts (t.line - 1) (next_at nexts t.line + 1)) ∙ ap (λ b. raised b t.line (of_calls nexts)) (sym beat)
  where
    by : unbeaten (with_next nexts t.line) ≡ unbeaten nexts → of_calls (with_next nexts t.line) ≡ raised false t.line (of_calls nexts)
    by e = λ i. record { calls = with_next nexts t.line; beats = e i }

module _ {P : Type 0} where
  pub count : (s : Clients P) → line_count (sight_of s) ≡ length s.places.items
  count s = length-map (rows_of s) stand_of ∙ length-map s.places.items (λ p. p.row)

  pub stand_read : (rows : List (Row P)) (i : ℕ) → stand_at (stands_of rows) (suc i) ≡ stand_of (row_at rows i)
  stand_read rows i = read stand_of rows i row.Plain

  pub stand_of_line : (rows : List (Row P)) (line : ℕ) → 1 ≤ line → stand_at (stands_of rows) line ≡ stand_of (row_at rows (line - 1))
  stand_of_line rows zero one = absurd (omega arith)
  stand_of_line rows (suc i) one = let e : suc i - 1 ≡ i = omega arith in rw e (stand_read rows i)

  pub next_of_line : (s : Clients P) (line : ℕ) (d : Place P) → 1 ≤ line → line - 1 < length s.places.items → next_at (nexts_of s) line ≡ (get_or s.places.items (line - 1) d).next
  next_of_line s zero d one h = absurd (omega arith)
  next_of_line s (suc i) d one h = let e : suc i - 1 ≡ i = omega arith in rw e (read_in (λ p. p.next) s.places.items i d 0 (rw e at h))

  nexts_count : (s : Clients P) → length (nexts_of s) ≡ line_count (sight_of s)
  nexts_count s = length-map s.places.items (λ p. p.next) ∙ sym (count s)

  -- what is next of a line
  pub is_next : (s : Clients P) (line number : ℕ) → IsLine (sight_of s).stands line → number ≡ next_at (nexts_of s) line → IsNext (sight_of s).nexts (record { line = line; beat = false; number = number })
  is_next s line number is e = record { first = is.first; last = subst (λ n. line ≤ n) (sym (nexts_count s)) is.last; number = e }

  pub same_clients : (s t : Clients P) → t.clients ≡ s.clients → crashed_of t ≡ crashed_of s
  same_clients s t e = ap (λ v. map (λ (c : ClientState). c.crashed) v.items) e

  pub same_groups : (s t : Clients P) → t.clients ≡ s.clients → groups_of t ≡ groups_of s
  same_groups s t e = ap (λ v. map group_of v.items) e

  -- the clients are the same, but for what stands at their lines, and for what these post
  pub sight_at : (s t : Clients P) (ss : List Stand) (ns : List ℕ) → t.clients ≡ s.clients → stands_of (rows_of t) ≡ ss → nexts_of t ≡ ns → sight_of t ≡ record (sight_of s) { stands = ss; nexts = of_calls ns }
  sight_at s t ss ns c r n = sight_by (crashed_of t) (crashed_of s) (groups_of t) (groups_of s) (stands_of (rows_of t)) ss (nexts_of t) ns (same_clients s t c) (same_groups s t c) r n

  pub line_kept : (s t : Clients P) (line : ℕ) → rows_of t ≡ rows_of s → IsLine (sight_of s).stands line → IsLine (sight_of t).stands line
  line_kept s t line r is = subst (λ ss. IsLine ss line) (sym (ap stands_of r)) is

  -- another row stands at a line
  pub stands_set : (rows : List (Row P)) (i : ℕ) (r : Row P) → stands_of (set rows i r) ≡ set (stands_of rows) i (stand_of r)
  stands_set rows i r = map-set stand_of rows i r

  pub waits_stand : (n c m : ℕ) (r : Row P) → stand_of r ≡ HasBegun c m → stand_of (with_waits n r) ≡ HasBegun c n
  waits_stand n c m row.Plain e = absurd (no e)
    where
      no : Idle ≡ HasBegun c m → ⊥
      no q = cc
  waits_stand n c m (row.Client d) e = absurd (no e)
    where
      no : IsClient d ≡ HasBegun c m → ⊥
      no q = cc
  waits_stand n c m (row.Asking d b call) e = absurd (no e)
    where
      no : Asking d b ≡ HasBegun c m → ⊥
      no q = cc
  waits_stand n c m (row.Begun d t k) e = ap (λ x. HasBegun x n) (ap begun_by e)
  waits_stand n c m (row.Calling d x b) e = absurd (no e)
    where
      no : Calling d x b ≡ HasBegun c m → ⊥
      no q = cc
  waits_stand n c m (row.Past d) e = absurd (no e)
    where
      no : Past d ≡ HasBegun c m → ⊥
      no q = cc
  waits_stand n c m (row.Working d job) e = absurd (no e)
    where
      no : Working d ≡ HasBegun c m → ⊥
      no q = cc

  two_stands : (rows : List (Row P)) (line x n c m : ℕ) (r : Row P) → IsLine (stands_of rows) x → stand_at (stands_of rows) x ≡ HasBegun c m
      → stands_of (set (set rows (x - 1) (with_waits n (row_at rows (x - 1)))) (line - 1) r) ≡ set (set (stands_of rows) (x - 1) (HasBegun c n)) (line - 1) (stand_of r)
  two_stands rows line x n c m r at e =
      stands_set (set rows (x - 1) (with_waits n (row_at rows (x - 1)))) (line - 1) r
      ∙ ap (λ ss. set ss (line - 1) (stand_of r)) (stands_set rows (x - 1) (with_waits n (row_at rows (x - 1)))
      ∙ ap (set (stands_of rows) (x - 1)) (waits_stand n c m (row_at rows (x - 1)) (sym (stand_of_line rows x at.first) ∙ e)))

  pub called_stands : (rows : List (Row P)) (line x c m : ℕ) (r : Row P) → IsLine (stands_of rows) x → stand_at (stands_of rows) x ≡ HasBegun c m
      → stands_of (set (set rows (x - 1) (with_waits line (row_at rows (x - 1)))) (line - 1) r) ≡ set (set (stands_of rows) (x - 1) (HasBegun c line)) (line - 1) (stand_of r)
  called_stands rows line x c m r at e = two_stands rows line x line c m r at e

  pub ended_stands : (rows : List (Row P)) (line x c m : ℕ) (r : Row P) → IsLine (stands_of rows) x → stand_at (stands_of rows) x ≡ HasBegun c m
      → stands_of (set (set rows (x - 1) (with_waits 0 (row_at rows (x - 1)))) (line - 1) r) ≡ set (set (stands_of rows) (x - 1) (HasBegun c 0)) (line - 1) (stand_of r)
  ended_stands rows line x c m r at e = two_stands rows line x 0 c m r at e

  -- What may be called stays so

  module _ (w : Ways P) where
    -- a row is set for which nobody waited, and which waits for nobody
    pub ready_set : (rows : List (Row P)) (line : ℕ) (r : Row P) → IsLine (stands_of rows) line → AreReady w rows → RowReady w r
        → ((c x : ℕ) (b : Bool) → stand_at (stands_of rows) line ≢ Calling c x b) → ((c m : ℕ) → stand_of r ≡ HasBegun c m → m ≡ 0)
        → AreReady w (set rows (line - 1) r)
    ready_set rows line r is ready may before after = record {
      each = All-set (RowReady w) rows (line - 1) r may ready.each;
      matched = subst AreMatched (sym (stands_set rows (line - 1) r)) (matched_set (stands_of rows) line (stand_of r) is ready.matched before after);
    }

    waits_ready : (n : ℕ) (r : Row P) → n ≢ 0 → RowReady w r → RowReady w (with_waits n r)
    waits_ready n row.Plain some ready = tt
    waits_ready n (row.Client c) some ready = tt
    waits_ready n (row.Asking c b call) some ready = ready
    waits_ready n (row.Begun c t m) some ready = (ready.0, λ z. absurd (some z), ready.2)
    waits_ready n (row.Calling c x b) some ready = tt
    waits_ready n (row.Past c) some ready = tt
    waits_ready n (row.Working c job) some ready = ready

    rests_ready : (r : Row P) → Rests r → RowReady w r → RowReady w (with_waits 0 r)
    rests_ready row.Plain rests ready = tt
    rests_ready (row.Client c) rests ready = tt
    rests_ready (row.Asking c b call) rests ready = ready
    rests_ready (row.Begun c t m) rests ready = (ready.0, λ z. rests, ready.2)
    rests_ready (row.Calling c x b) rests ready = tt
    rests_ready (row.Past c) rests ready = tt
    rests_ready (row.Working c job) rests ready = ready

    -- what holds of each row holds of that of a line
    at_line : (rows : List (Row P)) (line : ℕ) → IsLine (stands_of rows) line → All (RowReady w) rows → RowReady w (row_at rows (line - 1))
    at_line rows line is all = all (line - 1) row.Plain (let one = is.first in let last = subst (λ n. line ≤ n) (length-map rows stand_of) is.last in omega (arith, one, last))

    -- a transaction waits for a new call
    pub ready_called : (rows : List (Row P)) (line x c : ℕ) (b : Bool) → IsLine (stands_of rows) line → IsLine (stands_of rows) x → stand_at (stands_of rows) line ≡ Idle → stand_at (stands_of rows) x ≡ HasBegun c 0 → AreReady w rows
        → AreReady w (set (set rows (x - 1) (with_waits line (row_at rows (x - 1)))) (line - 1) (row.Calling c x b))
    ready_called rows line x c b is at idle free ready = record {
      each = All-set (RowReady w) (set rows (x - 1) (with_waits line (row_at rows (x - 1)))) (line - 1) (row.Calling c x b) tt
          (All-set (RowReady w) rows (x - 1) (with_waits line (row_at rows (x - 1))) (waits_ready line (row_at rows (x - 1)) some (at_line rows x at ready.each)) ready.each);
      matched = subst AreMatched (sym (called_stands rows line x c 0 (row.Calling c x b) at free)) (matched_called (stands_of rows) line x c b is idle free ready.matched);
    }
      where
        some : line ≢ 0
        some e = let one = is.first in omega (arith, one, e)

    -- its call has ended
    pub ready_ended : (rows : List (Row P)) (line x c d : ℕ) (b : Bool) (r : Row P) → IsLine (stands_of rows) x → stand_at (stands_of rows) line ≡ Calling c x b → stand_at (stands_of rows) x ≡ HasBegun d line → AreReady w rows
        → Rests (row_at rows (x - 1)) → RowReady w r → ((e m : ℕ) → stand_of r ≡ HasBegun e m → m ≡ 0)
        → AreReady w (set (set rows (x - 1) (with_waits 0 (row_at rows (x - 1)))) (line - 1) r)
    ready_ended rows line x c d b r at calls waits ready rests may after = record {
      each = All-set (RowReady w) (set rows (x - 1) (with_waits 0 (row_at rows (x - 1)))) (line - 1) r may
          (All-set (RowReady w) rows (x - 1) (with_waits 0 (row_at rows (x - 1))) (rests_ready (row_at rows (x - 1)) rests (at_line rows x at ready.each)) ready.each);
      matched = subst AreMatched (sym (ended_stands rows line x d line r at waits)) (matched_ended (stands_of rows) line x c d b (stand_of r) calls waits ready.matched after);
    }
