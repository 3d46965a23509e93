-- The numbers of the next asks of lines, and what a line has posted so far.
use Rattle.std.proofs.Common.{◌≡◌, ℕ, zero, suc, ◌-◌, ◌<◌, ◌≤◌, false, List, [], length, map, get_or, set, refl, sym, ap, ◌∙◌, arith}
use Rattle.std.proofs.lemmas.List.{length-map, map-set}
use Rattle.std.specs.Prelude.{OnOk, Result, Ok, Err}
use Rattle.txn_side.specs.Sight.{next_at}
use Rattle.txn_clients.specs.Clients.{IsLine, nexts_of, rows_of, sight_of}
use Rattle.txn_clients.specs.Waiting.{asks_of, posted_at}
use Rattle.txn_clients.specs.declared.clients.Clients.{Clients}
use Rattle.txn_clients.specs.declared.place.Place.{Place}
use Rattle.txn_clients.proofs.Places.{next_there, place_there}
use Rattle.txn_clients.proofs.Tables.{map_kept, read_in}

-- three facts of a call that went well give a fourth, and so on
pub ok_three : {T E A B C D : Type 0} (r : Result T E) → (A → B → C → D) → OnOk r A → OnOk r B → OnOk r C → OnOk r D
ok_three (Ok x) f a b c = f a b c
ok_three (Err e) f a b c = tt

pub ok_four : {T E A B C D F : Type 0} (r : Result T E) → (A → B → C → D → F) → OnOk r A → OnOk r B → OnOk r C → OnOk r D → OnOk r F
ok_four (Ok x) f a b c d = f a b c d
ok_four (Err e) f a b c d = tt

pub ok_five : {T E A B C D F G : Type 0} (r : Result T E) → (A → B → C → D → F → G) → OnOk r A → OnOk r B → OnOk r C → OnOk r D → OnOk r F → OnOk r G
ok_five (Ok x) f a b c d e = f a b c d e
ok_five (Err x) f a b c d e = tt

next_ask_at : (asks : List ℕ) (line : ℕ) → 1 ≤ line → next_at asks line ≡ get_or asks (line - 1) 0
next_ask_at asks zero one = absurd (omega (arith, one))
next_ask_at asks (suc i) one = let e : suc i - 1 ≡ i = omega arith in rw e refl

module _ {P : Type 0} where
  pub asks_kept : (s : Clients P) (line : ℕ) (p d : Place P) → IsLine (sight_of s).stands line → d ≡ get_or s.places.items (line - 1) d → p.next_ask ≡ d.next_ask
      → map (λ (q : Place P). q.next_ask) (set s.places.items (line - 1) p) ≡ asks_of s
  asks_kept s line p d is e k = map_kept (λ (q : Place P). q.next_ask) s.places.items (line - 1) p d (place_there s line is) (k ∙ ap (λ (q : Place P). q.next_ask) e)

  pub asks_put : (s : Clients P) (line : ℕ) (p : Place P) → map (λ (q : Place P). q.next_ask) (set s.places.items (line - 1) p) ≡ set (asks_of s) (line - 1) p.next_ask
  asks_put s line p = map-set (λ (q : Place P). q.next_ask) s.places.items (line - 1) p

  -- what stands at a place is told, and its numbers stay
  pub asks_told : (s : Clients P) (at : ℕ) (p d : Place P) → at < length (rows_of s) → d ≡ get_or s.places.items at d → p.next_ask ≡ d.next_ask → map (λ (q : Place P). q.next_ask) (set s.places.items at p) ≡ asks_of s
  asks_told s at p d h e k = map_kept (λ (q : Place P). q.next_ask) s.places.items at p d (let long = length-map s.places.items (λ (q : Place P). q.row) in omega (arith, h, long)) (k ∙ ap (λ (q : Place P). q.next_ask) e)

  ask_there : (s : Clients P) (line : ℕ) (d : Place P) → IsLine (sight_of s).stands line → d ≡ get_or s.places.items (line - 1) d → d.next_ask ≡ next_at (asks_of s) line
  ask_there s line d is e = ap (λ (q : Place P). q.next_ask) e ∙ sym (next_ask_at (asks_of s) line is.first ∙ read_in (λ (q : Place P). q.next_ask) s.places.items (line - 1) d 0 (place_there s line is))

  -- an empty outbox that goes on from the numbers of a line
  pub posted_so : (s : Clients P) (line : ℕ) (d : Place P) → IsLine (sight_of s).stands line → d ≡ get_or s.places.items (line - 1) d
      → record { line = line; beat = false; next = d.next; next_ask = d.next_ask; sends = [] } ≡ posted_at (nexts_of s) (asks_of s) line
  posted_so s line d is e = let x = next_there s line d is e in let y = ask_there s line d is e in λ i. record { line = line; beat = false; next = x i; next_ask = y i; sends = [] }
