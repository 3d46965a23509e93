-- What is known of a call to the placement driver stays true as the run goes on, and as its line posts more.
use Rattle.std.proofs.Common.{inl, inr, subst, sym}
use Rattle.std.proofs.Math.Nat.{le_refl, lt_of_lt_of_le}
use Rattle.std.specs.Prelude.{◌≡◌, ◌≤◌, ℕ, zero, suc, List, Result, Ok, Err}
use Rattle.txn_kv.specs.declared.errors.Error.{Error}
use Rattle.txn_kv.specs.declared.errors.Error.TheVariants.{GrpcAPI}
use Rattle.txn_kv.specs.declared.query.PdAnswer.{PdAnswer}
use Rattle.txn_kv.specs.declared.query.PdQuery.{PdQuery}
use Rattle.txn_kv.specs.declared.query.PdQuery.TheVariants.{Region, RegionId, Store, Stores, Time, Safepoint}
use Rattle.txn_kv.specs.declared.ticket.Ticket.{Ticket}
use Rattle.txn_history.specs.Event.{Event, Has}
use Rattle.txn_history.specs.Event.Event.{Sent, Took, Lost, Began, Asked, Answered}
use Rattle.txn_history.specs.Later.{IsLater, IsLater-ticket}
use Rattle.txn_history.specs.Posted.{Posted, Within, ticket_of}
use Rattle.txn_tso.specs.Calling.{members, next_try, CallFits, Gives, HaveFailed, HaveLostMembers, IsAt, IsFailure, IsRefused, IsTold}
use Rattle.txn_tso.specs.declared.pd_call.PdCall.{PdCall}
use Rattle.txn_tso.specs.declared.stage.Stage.{Stage}
use Rattle.txn_tso.specs.declared.stage.Stage.TheVariants as stage

-- a fact about a ticket of the line is one about the same ticket
at_ticket : {o later : Posted} (p : IsLater o later) (P : Ticket → Type 0) (k : ℕ) → P (ticket_of o k) → P (ticket_of later k)
at_ticket p P k x = subst P (sym (IsLater-ticket p k)) x

failure_longer : (q : PdQuery) (t : Ticket) (why : Error) (h longer : List Event) → Within h longer → IsFailure q t h why → IsFailure q t longer why
failure_longer q t why h longer w (inl f) = inl (f.0, f.1, w _ f.2, f.3)
failure_longer q t why h longer w (inr (inl f)) = inr (inl (f.0, f.1, f.2, w _ f.3, f.4, f.5))
failure_longer q t why h longer w (inr (inr f)) = inr (inr (f.0, w _ f.1))

pub failed_longer : (q : PdQuery) {o later : Posted} (h longer : List Event) (n below more : ℕ) → IsLater o later → Within h longer → below ≤ more
    → HaveFailed q o n below h → HaveFailed q later n more longer
failed_longer q h longer zero below more p w l f = tt
failed_longer q {o} {later} h longer (suc n) below more p w l f = (
  f.0,
  f.1,
  lt_of_lt_of_le f.2 l,
  at_ticket p (λ t. IsFailure q t longer f.1) f.0 (failure_longer q (ticket_of o f.0) f.1 h longer w f.3),
  failed_longer q h longer n f.0 f.0 p w (le_refl f.0) f.4,
)

pub lost_longer : {o later : Posted} (h longer : List Event) (n below more : ℕ) → IsLater o later → Within h longer → below ≤ more
    → HaveLostMembers o n below h → HaveLostMembers later n more longer
lost_longer h longer zero below more p w l f = tt
lost_longer {o} {later} h longer (suc n) below more p w l f = (
  f.0,
  lt_of_lt_of_le f.1 l,
  at_ticket p (λ t. Has longer (Lost t members)) f.0 (w _ f.2),
  lost_longer h longer n f.0 f.0 p w (le_refl f.0) f.3,
)

pub try_later : (q : PdQuery) {o later : Posted} → IsLater o later → next_try q o ≤ next_try q later
try_later (Region key) p = p.next
try_later (RegionId id) p = p.next
try_later (Store id) p = p.next
try_later Stores p = p.next
try_later Time p = p.next_ask
try_later (Safepoint at) p = p.next

at_longer : (q : PdQuery) (failed : ℕ) (s : Stage) {o later : Posted} (h longer : List Event) → IsLater o later → Within h longer → IsAt q failed s o h → IsAt q failed s later longer
at_longer q failed stage.Fresh h longer p w f = f
at_longer q failed (stage.Sent n) h longer p w f = (
  f.0,
  f.1,
  at_ticket p (λ t. Has longer (Sent t f.0)) n (w _ f.2),
  lt_of_lt_of_le f.3 p.next,
  failed_longer q h longer failed n n p w (le_refl n) f.4,
)
at_longer q failed (stage.Asked n) h longer p w f = (
  f.0,
  at_ticket p (λ t. Has longer (Asked t)) n (w _ f.1),
  lt_of_lt_of_le f.2 p.next_ask,
  failed_longer q h longer failed n n p w (le_refl n) f.3,
)
at_longer q failed (stage.Reconnecting n lost) {o} {later} h longer p w f = (
  at_ticket p (λ t. Has longer (Sent t members)) n (w _ f.0),
  lt_of_lt_of_le f.1 p.next,
  f.2,
  lost_longer h longer lost n n p w (le_refl n) f.3,
  failed_longer q h longer failed (next_try q o) (next_try q later) p w (try_later q p) f.4,
)
at_longer q failed (stage.Resting n lost) {o} {later} h longer p w f = (
  at_ticket p (λ t. Has longer (Began t 1000)) n (w _ f.0),
  lt_of_lt_of_le f.1 p.next,
  f.2,
  f.3,
  lost_longer h longer lost n n p w (le_refl n) f.4,
  failed_longer q h longer failed (next_try q o) (next_try q later) p w (try_later q p) f.5,
)
at_longer q failed stage.Over h longer p w f = tt
at_longer q failed stage.Stopped h longer p w f = tt

-- the call can have arisen from a longer history, with more posted, too
pub fits_longer : (s : PdCall) {o later : Posted} (h longer : List Event) → IsLater o later → Within h longer → CallFits s o h → CallFits s later longer
fits_longer s h longer p w f = record { few = f.few; at = at_longer s.query s.failed s.stage h longer p w f.at }

told_longer : (q : PdQuery) (a : PdAnswer) {o later : Posted} (h longer : List Event) → IsLater o later → Within h longer → IsTold q o h a → IsTold q later longer a
told_longer q a h longer p w (inl f) = inl (f.0, f.1, f.2, f.3, at_ticket p (λ t. Has longer (Took t f.1 f.2)) f.0 (w _ f.4), f.5)
told_longer q a h longer p w (inr f) = inr (f.0, f.1, f.2, at_ticket p (λ t. Has longer (Answered t (Ok f.1))) f.0 (w _ f.3), f.4)

refused_longer : (q : PdQuery) (why : Error) {o later : Posted} (h longer : List Event) → IsLater o later → Within h longer → IsRefused q o h why → IsRefused q later longer why
refused_longer q why {o} h longer p w (inl f) = inl (
  f.0,
  at_ticket p (λ t. IsFailure q t longer why) f.0 (failure_longer q (ticket_of o f.0) why h longer w f.1),
  failed_longer q h longer 9 f.0 f.0 p w (le_refl f.0) f.2,
)
refused_longer q why h longer p w (inr (inl f)) = inr (inl (
  f.0,
  at_ticket p (λ t. Has longer (Lost t members)) f.0 (w _ f.1),
  at_ticket p (λ t. why ≡ GrpcAPI t) f.0 f.2,
  lost_longer h longer 4 f.0 f.0 p w (le_refl f.0) f.3,
))
refused_longer q why h longer p w (inr (inr f)) = inr (inr (
  f.0,
  f.1,
  f.2,
  at_ticket p (λ t. Has longer (Took t f.1 f.2)) f.0 (w _ f.3),
  f.4,
  f.5,
))

-- what an answer stands on is there in a longer history, too
pub gives_longer : (s : PdCall) (v : Result PdAnswer Error) {o later : Posted} (h longer : List Event) → IsLater o later → Within h longer → Gives s o h v → Gives s later longer v
gives_longer s (Ok a) h longer p w g = told_longer s.query a h longer p w g
gives_longer s (Err why) h longer p w g = refused_longer s.query why h longer p w g
