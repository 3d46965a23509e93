-- Who hears what comes for a line.
use Rattle.std.proofs.Common.{◌≡◌, ◌≢◌, ℕ, zero, suc, ◌-◌, ◌<◌, ◌≤◌, Bool, true, false, not, List, [], ◌∷◌, length, get_or, set, Some, refl, sym, ap, ◌∙◌, subst, arith, length-set}
use Rattle.txn_kv.specs.declared.arrival.Arrival.{Arrival}
use Rattle.txn_side.specs.Sight.{Sight, Stand, client_at, is_live, lives, stand_at, with_stand}
use Rattle.txn_side.specs.Sight.Stand.{Asking, Calling, HasBegun, Idle, IsClient, Past, Working}
use Rattle.txn_clients.specs.Clients.{HearsFor, Listens, MayEnd, row_at, stands_of}
use Rattle.txn_clients.specs.Matching.{IsLine}
use Rattle.txn_clients.specs.Rows.{MayHear, Rests, stand_of}
use Rattle.txn_clients.specs.declared.row.Row.{Row}
use Rattle.txn_clients.specs.declared.row.Row.TheVariants as row
use Rattle.txn_clients.specs.declared.told.Told.TheVariants.{Heard}
use Rattle.txn_clients.proofs.Stands.{line_of, stand_other, stand_same, waited}
use Rattle.txn_clients.proofs.Tables.{stand_read}

-- a client that has not crashed is there
pub within : (crashed : List Bool) (c : ℕ) → get_or crashed c true ≡ false → c < length crashed
within [] c e = absurd (no e)
  where
    no : true ≡ false → ⊥
    no q = cc
within (x ∷ xs) zero e = omega arith
within (x ∷ xs) (suc c) e = let k = within xs c e in omega (arith, k)

pub live_of : (s : Sight) (line c : ℕ) → client_at (stand_at s.stands line) ≡ Some c → get_or s.crashed c true ≡ false → is_live s line ≡ true
live_of s line c e h = ap (lives s.crashed) e ∙ ap not h

-- a line is as live as it was
pub live_after : (s t : Sight) (line : ℕ) → t.crashed ≡ s.crashed → t.stands ≡ s.stands → is_live s line ≡ true → is_live t line ≡ true
live_after s t line c e h = ap (λ cs. lives cs (client_at (stand_at t.stands line))) c ∙ ap (λ ss. lives s.crashed (client_at (stand_at ss line))) e ∙ h

-- a transaction that hears waits for a call
waits_line : (stands : List Stand) (line at c m : ℕ) → 1 ≤ line → stand_at stands (suc at) ≡ HasBegun c m → (s : Stand) → stand_at stands line ≡ s → HearsFor stands line at s → m ≢ 0
waits_line stands line at c m one there Idle k h = absurd h
waits_line stands line at c m one there (IsClient d) k h = absurd h
waits_line stands line at c m one there (Asking d b) k h = absurd (no (sym there ∙ ap (stand_at stands) h ∙ k))
  where
    no : HasBegun c m ≡ Asking d b → ⊥
    no q = cc
waits_line stands line at c m one there (HasBegun d n) k h = absurd h
waits_line stands line at c m one there (Calling d x b) k (e, (f, w)) =
    let same : line ≡ m = waited f c line m (sym w ∙ ap (stand_at stands) (sym e) ∙ there) in
    λ z. omega (arith, one, same, z)
waits_line stands line at c m one there (Past d) k h = absurd h
waits_line stands line at c m one there (Working d) k h = absurd (no (sym there ∙ ap (stand_at stands) h ∙ k))
  where
    no : HasBegun c m ≡ Working d → ⊥
    no q = cc

module _ {P : Type 0} where
  hears_so : (rows : List (Row P)) (line at : ℕ) (a : Arrival) → 1 ≤ line → HearsFor (stands_of rows) line at (stand_at (stands_of rows) line)
      → (r : Row P) → row_at rows at ≡ r → MayHear (Heard a) r
  hears_so rows line at a one h row.Plain e = tt
  hears_so rows line at a one h (row.Client c) e = tt
  hears_so rows line at a one h (row.Asking c b call) e = tt
  hears_so rows line at a one h (row.Begun c t m) e = (waits_line (stands_of rows) line at c m one (stand_read rows at ∙ ap stand_of e) (stand_at (stands_of rows) line) refl h, tt)
  hears_so rows line at a one h (row.Calling c x b) e = tt
  hears_so rows line at a one h (row.Past c) e = tt
  hears_so rows line at a one h (row.Working c job) e = tt

  pub heard_there : (rows : List (Row P)) (line at : ℕ) (a : Arrival) → IsLine (stands_of rows) line → HearsFor (stands_of rows) line at (stand_at (stands_of rows) line) → MayHear (Heard a) (row_at rows at)
  heard_there rows line at a is h = hears_so rows line at a is.first h (row_at rows at) refl

  -- and its call may end
  pub may_end : (rows : List (Row P)) (line at : ℕ) (s : Stand) → HearsFor (stands_of rows) line at s → Rests (row_at rows at) → MayEnd rows line s
  may_end rows line at Idle h rests = tt
  may_end rows line at (IsClient c) h rests = tt
  may_end rows line at (Asking c b) h rests = tt
  may_end rows line at (HasBegun c m) h rests = tt
  may_end rows line at (Calling c x b) (e, (d, w)) rests = let same : at ≡ x - 1 = omega (arith, e) in (d, w, subst (λ i. Rests (row_at rows i)) same rests)
  may_end rows line at (Past c) h rests = tt
  may_end rows line at (Working c) h rests = tt

-- a line whose call for a timestamp has just begun
pub asked_listens : (s : Sight) (line c : ℕ) (b : Bool) → IsLine s.stands line → get_or s.crashed c true ≡ false → Listens (with_stand line (Asking c b) s) line (line - 1) c
asked_listens s line c b is there = record {
  live = live_of (with_stand line (Asking c b) s) line c (ap client_at same) there;
  own = record { first = is.first; last = subst (λ n. line ≤ n) (sym long) is.last };
  place = let one = is.first in let last = is.last in subst (λ n. line - 1 < n) (sym long) (omega (arith, one, last));
  there = within s.crashed c there;
  hears = subst (λ t. HearsFor (set s.stands (line - 1) (Asking c b)) line (line - 1) t) (sym same) (let one = is.first in omega (arith, one));
}
  where
    long : length (set s.stands (line - 1) (Asking c b)) ≡ length s.stands
    long = length-set s.stands (line - 1) (Asking c b)

    same : stand_at (set s.stands (line - 1) (Asking c b)) line ≡ Asking c b
    same = stand_same s.stands line (Asking c b) is

-- a line whose call of a transaction has just begun
pub called_listens : (s : Sight) (line x c : ℕ) (b : Bool) → IsLine s.stands line → stand_at s.stands line ≡ Idle → stand_at s.stands x ≡ HasBegun c 0 → get_or s.crashed c true ≡ false
    → Listens (with_stand line (Calling c x b) (with_stand x (HasBegun c line) s)) line (x - 1) c
called_listens s line x c b is idle free there = record {
  live = live_of (with_stand line (Calling c x b) (with_stand x (HasBegun c line) s)) line c (ap client_at same) there;
  own = record { first = is.first; last = subst (λ n. line ≤ n) (sym long) is.last };
  place = let one = begun.first in let last = begun.last in subst (λ n. x - 1 < n) (sym long) (omega (arith, one, last));
  there = within s.crashed c there;
  hears = subst (λ t. HearsFor both line (x - 1) t) (sym same) ((let one = begun.first in omega (arith, one)), (c, waits));
}
  where
    begun : IsLine s.stands x
    begun = line_of s.stands x (λ i. no (sym free ∙ i))
      where
        no : HasBegun c 0 ≡ Idle → ⊥
        no q = cc

    mid : List Stand
    mid = set s.stands (x - 1) (HasBegun c line)

    both : List Stand
    both = set mid (line - 1) (Calling c x b)

    long : length both ≡ length s.stands
    long = length-set mid (line - 1) (Calling c x b) ∙ length-set s.stands (x - 1) (HasBegun c line)

    is_mid : IsLine mid line
    is_mid = record { first = is.first; last = subst (λ n. line ≤ n) (sym (length-set s.stands (x - 1) (HasBegun c line))) is.last }

    same : stand_at both line ≡ Calling c x b
    same = stand_same mid line (Calling c x b) is_mid

    apart : x ≢ line
    apart e = no (sym idle ∙ ap (stand_at s.stands) (sym e) ∙ free)
      where
        no : Idle ≡ HasBegun c 0 → ⊥
        no q = cc

    waits : stand_at both x ≡ HasBegun c line
    waits = stand_other mid line x (Calling c x b) is.first apart ∙ stand_same s.stands x (HasBegun c line) begun
