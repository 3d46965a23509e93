-- How often requests failed at their regions, by which the backoff of a plan is spent.
use Rattle.std.specs.Prelude.{◌≡◌, ◌⊎◌, ⊤, ℕ, zero, suc, ◌<◌, ◌≤◌, Bool, true, refl}
use Rattle.std.proofs.Common.{inl, inr, arith}
use Rattle.std.proofs.Math.Nat.{le_trans}
use Rattle.txn_causes.specs.Heard.{Heard}
use Rattle.txn_causes.specs.Heard.Heard.{TookReply, WasLost}
use Rattle.txn_history.specs.Faults.{has_region_error}
use Rattle.txn_kv.specs.declared.reply.Reply.{Reply}
use Rattle.txn_kv.specs.declared.request.Request.{Request}
use Rattle.txn_kv.specs.declared.ticket.Ticket.{Ticket}

-- `K` says what was heard, by whatever evidence.

-- a request with this ticket was lost, or refused for its region
abbrev pub HasFailedAt : (Heard → Type 0) → Ticket → Type 0
HasFailedAt K t = (r : Request) × (K (WasLost t r) ⊎ ((o : Reply) × K (TookReply t r o) × (has_region_error o ≡ true)))

-- So many requests of this line, or of its heartbeat, failed so: the numbers of their tickets fall, all below this one. So no two
-- of them are the same.
abbrev pub HaveFailedBelow : (Heard → Type 0) → ℕ → Bool → ℕ → ℕ → Type 0
HaveFailedBelow K line beat below zero = ⊤
HaveFailedBelow K line beat below (suc n) = (t : Ticket) × (t.line ≡ line) × (t.beat ≡ beat) × (t.number < below) × HasFailedAt K t × HaveFailedBelow K line beat t.number n

-- A backoff with so many attempts is spent: requests of one line failed more often than that.
abbrev pub IsSpent : (Heard → Type 0) → ℕ → Type 0
IsSpent K attempts = (line : ℕ) × (beat : Bool) × (below : ℕ) × HaveFailedBelow K line beat below (suc attempts)

-- lemmas

-- what failed by less failed by more
module _ {K M : Heard → Type 0} (weaker : (x : Heard) → K x → M x) where
  failed_at_more : (t : Ticket) → HasFailedAt K t → HasFailedAt M t
  failed_at_more t f = (f.0, elim f.1 [ inl k ↦ inl (weaker (WasLost t f.0) k) | inr k ↦ inr (k.0, weaker (TookReply t f.0 k.0) k.1, k.2) ])

  pub failed_below_more : (line : ℕ) (beat : Bool) (below n : ℕ) → HaveFailedBelow K line beat below n → HaveFailedBelow M line beat below n
  failed_below_more line beat below zero k = tt
  failed_below_more line beat below (suc n) k = (k.0, k.1, k.2, k.3, failed_at_more k.0 k.4, failed_below_more line beat k.0.number n k.5)

  pub spent_more : (attempts : ℕ) → IsSpent K attempts → IsSpent M attempts
  spent_more attempts k = (k.0, k.1, k.2, failed_below_more k.0 k.1 k.2 (suc attempts) k.3)

-- below a higher number too
pub failed_below_wider : (K : Heard → Type 0) (line : ℕ) (beat : Bool) (below more n : ℕ) → below ≤ more → HaveFailedBelow K line beat below n → HaveFailedBelow K line beat more n
failed_below_wider K line beat below more zero l k = tt
failed_below_wider K line beat below more (suc n) l k = (k.0, k.1, k.2, le_trans k.3 l, k.4, k.5)

-- and fewer of them
pub failed_below_fewer : (K : Heard → Type 0) (line : ℕ) (beat : Bool) (below fewer n : ℕ) → fewer ≤ n → HaveFailedBelow K line beat below n → HaveFailedBelow K line beat below fewer
failed_below_fewer K line beat below zero n l k = tt
failed_below_fewer K line beat below (suc fewer) zero l k = absurd (omega (arith, l))
failed_below_fewer K line beat below (suc fewer) (suc n) l k = (k.0, k.1, k.2, k.3, k.4, failed_below_fewer K line beat k.0.number fewer n (omega (arith, l)) k.5)

-- one more, under a number above theirs
pub failed_below_one_more : (K : Heard → Type 0) (t : Ticket) (n : ℕ) → HasFailedAt K t → HaveFailedBelow K t.line t.beat t.number n → HaveFailedBelow K t.line t.beat (suc t.number) (suc n)
failed_below_one_more K t n f k = (t, refl, refl, omega arith, f, k)
