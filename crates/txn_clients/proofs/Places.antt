-- What a place of a line that is set makes of the lists that a machine sees.
use Rattle.std.proofs.Common.{◌≡◌, ℕ, ◌+◌, ◌-◌, ◌<◌, ◌≤◌, true, false, List, [], ◌∷◌, ◌++◌, length, map, get_or, set, sym, ap, ◌∙◌, arith}
use Rattle.std.specs.Prelude.{OnOk, Result, Ok, Err}
use Rattle.std.proofs.lemmas.List.{length-map, map-set}
use Rattle.txn_side.specs.Sight.{AskersAre, HasAskers, IsNext, Nexts, client_at, is_live, line_count, next_at, stand_at, ticket_in, with_next}
use Rattle.txn_side.specs.declared.turn.Posting.{Posting}
use Rattle.txn_side.specs.declared.turn.Turn.{Turn}
use Rattle.txn_clients.specs.Clients.{IsLine, nexts_of, row_at, rows_of, sight_of, stands_of}
use Rattle.txn_clients.specs.Going.{Advances}
use Rattle.txn_clients.specs.Rows.{stand_of, with_waits}
use Rattle.txn_clients.specs.declared.client_state.ClientState.{ClientState}
use Rattle.txn_clients.specs.declared.clients.Clients.{Clients}
use Rattle.txn_clients.specs.declared.place.Place.{Place}
use Rattle.txn_clients.specs.declared.row.Row.{Row}
use Rattle.txn_clients.specs.declared.row.Row.TheVariants.{Plain}
use Rattle.txn_clients.proofs.Advances.{advances_posted}
use Rattle.txn_clients.proofs.Tables.{count, map_kept, next_of_line, raised_calls, read_in, sight_at, stand_of_line}

-- two facts of a call that went well give a third
pub both_ok : {T E A B C : Type 0} (r : Result T E) → (A → B → C) → OnOk r A → OnOk r B → OnOk r C
both_ok (Ok x) f a b = f a b
both_ok (Err e) f a b = tt

-- a client is replaced by one that has crashed where it had
pub crashed_kept : (cs : List ClientState) (i : ℕ) (new d : ClientState) → i < length (map (λ (c : ClientState). c.crashed) cs) → d ≡ get_or cs i d → new.crashed ≡ d.crashed
    → map (λ (c : ClientState). c.crashed) (set cs i new) ≡ map (λ (c : ClientState). c.crashed) cs
crashed_kept cs i new d h e k =
    let l = length-map cs (λ (c : ClientState). c.crashed) in
    map_kept (λ (c : ClientState). c.crashed) cs i new d (omega arith) (k ∙ ap (λ (c : ClientState). c.crashed) e)

module _ {P : Type 0} where
  pub place_there : (s : Clients P) (line : ℕ) → IsLine (sight_of s).stands line → line - 1 < length s.places.items
  place_there s line is = let one = is.first in let last = is.last in omega (arith, one, last, count s)

  -- another row stands there
  pub rows_set : (ps : List (Place P)) (i : ℕ) (p : Place P) → map (λ (q : Place P). q.row) (set ps i p) ≡ set (map (λ (q : Place P). q.row) ps) i p.row
  rows_set ps i p = map-set (λ (q : Place P). q.row) ps i p

  pub rows_kept : (s : Clients P) (line : ℕ) (p d : Place P) → IsLine (sight_of s).stands line → d ≡ get_or s.places.items (line - 1) d → p.row ≡ d.row
      → map (λ (q : Place P). q.row) (set s.places.items (line - 1) p) ≡ rows_of s
  rows_kept s line p d is e k = map_kept (λ (q : Place P). q.row) s.places.items (line - 1) p d (place_there s line is) (k ∙ ap (λ (q : Place P). q.row) e)

  pub nexts_kept : (s : Clients P) (line : ℕ) (p d : Place P) → IsLine (sight_of s).stands line → d ≡ get_or s.places.items (line - 1) d → p.next ≡ d.next
      → map (λ (q : Place P). q.next) (set s.places.items (line - 1) p) ≡ nexts_of s
  nexts_kept s line p d is e k = map_kept (λ (q : Place P). q.next) s.places.items (line - 1) p d (place_there s line is) (k ∙ ap (λ (q : Place P). q.next) e)

  -- what stands there
  pub row_there : (s : Clients P) (line : ℕ) (d : Place P) → IsLine (sight_of s).stands line → d ≡ get_or s.places.items (line - 1) d → d.row ≡ row_at (rows_of s) (line - 1)
  row_there s line d is e = ap (λ (q : Place P). q.row) e ∙ sym (read_in (λ (q : Place P). q.row) s.places.items (line - 1) d Plain (place_there s line is))

  pub next_there : (s : Clients P) (line : ℕ) (d : Place P) → IsLine (sight_of s).stands line → d ≡ get_or s.places.items (line - 1) d → d.next ≡ next_at (nexts_of s) line
  next_there s line d is e = ap (λ (q : Place P). q.next) e ∙ sym (next_of_line s line d is.first (place_there s line is))

  pub rows_wait : (s : Clients P) (line n : ℕ) (p d : Place P) → IsLine (sight_of s).stands line → d ≡ get_or s.places.items (line - 1) d → p.row ≡ with_waits n d.row
      → map (λ (q : Place P). q.row) (set s.places.items (line - 1) p) ≡ set (rows_of s) (line - 1) (with_waits n (row_at (rows_of s) (line - 1)))
  rows_wait s line n p d is e k = rows_set s.places.items (line - 1) p ∙ ap (set (rows_of s) (line - 1)) (k ∙ ap (with_waits n) (row_there s line d is e))

  pub nexts_raised : (s : Clients P) (line : ℕ) (p d : Place P) → IsLine (sight_of s).stands line → d ≡ get_or s.places.items (line - 1) d → p.next ≡ d.next + 1
      → map (λ (q : Place P). q.next) (set s.places.items (line - 1) p) ≡ with_next (nexts_of s) line
  nexts_raised s line p d is e k = map-set (λ (q : Place P). q.next) s.places.items (line - 1) p
      ∙ ap (set (nexts_of s) (line - 1)) (k ∙ ap (λ n. n + 1) (next_there s line d is e))

  -- the client of a line
  pub client_of_line : (s : Clients P) (line : ℕ) (r : Row P) → 1 ≤ line → r ≡ row_at (rows_of s) (line - 1) → client_at (stand_of r) ≡ client_at (stand_at (sight_of s).stands line)
  client_of_line s line r one e = ap (λ (x : Row P). client_at (stand_of x)) e ∙ ap client_at (sym (stand_of_line (rows_of s) line one))

  -- one is posted
  pub posts_one : (s t : Clients P) (from to : Turn) (p : Posting) (line : ℕ) → to.posted.items ≡ from.posted.items ++ p ∷ [] → to.ended.items ≡ from.ended.items
      → (ticket_in p).line ≡ line → (ticket_in p).beat ≡ false → is_live (sight_of s) line ≡ true → IsNext (sight_of s).nexts (ticket_in p) → HasAskers p → AskersAre (line_count (sight_of s)) p
      → t.clients ≡ s.clients → rows_of t ≡ rows_of s → nexts_of t ≡ with_next (nexts_of s) line → Advances from to (sight_of s) (sight_of t)
  posts_one s t from to p line posted ended own beat live next askers lines clients rows nexts =
      advances_posted from to p (sight_of s) (sight_of t) posted ended (ap (is_live (sight_of s)) own ∙ live) next askers lines
      (sight_at s t (stands_of (rows_of s)) (with_next (nexts_of s) (ticket_in p).line) clients (ap stands_of rows) (nexts ∙ ap (with_next (nexts_of s)) (sym own))
      ∙ ap (λ (ns : Nexts). record (sight_of s) { nexts = ns }) (raised_calls (nexts_of s) (ticket_in p) beat))
