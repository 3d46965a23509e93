-- What each step of a call posts may be posted, and where the call then stands has arisen from it.
use Rattle.std.proofs.Common.{◌≡◌, inl, inr, ℕ, ◌+◌, ◌<◌, Bool, true, false, List, ◌∷◌, Option, Some, None, refl, sym, ap, subst, arith}
use Rattle.std.proofs.Math.Numerals.{add-one}
use Rattle.std.proofs.Math.Nat.{le_refl}
use Rattle.std.proofs.lemmas.Bool.{ltb-true, ltb-false}
use Rattle.std.specs.Prelude.{if◌then◌else◌, nat_lt, Result, Err}
use Rattle.txn_kv.specs.declared.errors.Error.{Error}
use Rattle.txn_kv.specs.declared.errors.Error.TheVariants.{GrpcAPI}
use Rattle.txn_kv.specs.declared.query.PdAnswer.{PdAnswer}
use Rattle.txn_kv.specs.declared.query.PdQuery.{PdQuery}
use Rattle.txn_kv.specs.declared.query.PdQuery.TheVariants.{Region, RegionId, Store, Stores, Time, Safepoint}
use Rattle.txn_kv.specs.declared.request.Request.{Request}
use Rattle.txn_kv.specs.declared.ticket.Target.TheVariants.{Placement}
use Rattle.txn_history.specs.Event.{Event, Has}
use Rattle.txn_history.specs.Event.Event.{Sent, Began, Asked, Lost}
use Rattle.txn_history.specs.Later.{IsLater, IsLater-refl}
use Rattle.txn_history.specs.Moves.{Moves, Moves-asked, Moves-quiet, Moves-sent, Moves-slept}
use Rattle.txn_history.specs.Posted.{Posted, Within, Within-one, ticket_of}
use Rattle.txn_history.specs.Turn.Turn.{Waits, Ends}
use Rattle.txn_tso.specs.Calling.{members, next_try, CallFits, Gives, HaveFailed, HaveLostMembers, IsFailure, MayAsk}
use Rattle.txn_tso.specs.Longer.{failed_longer, fits_longer, lost_longer, try_later}
use Rattle.txn_tso.specs.Placement.{may_connect, request_of}
use Rattle.txn_tso.specs.Steps.{connecting, ends, failing_try, losing_members, one_more_failed, over, reconnected, resting, standing, tried, tried_with, waits, with_ask, with_request, with_sleep, Stood}
use Rattle.txn_tso.specs.declared.pd_call.PdCall.{PdCall}
use Rattle.txn_tso.specs.declared.retry_client.RetryClient.{RetryClient}

-- the call that stood here may post what is posted there, and what is known there has arisen from what was heard
abbrev pub Safe : PdCall → Posted → (List Event → List Event) → Stood → Type 0
Safe s o hear st = Moves (MayAsk s) (CallFits s o) (CallFits st.at.call st.at.out) (Gives s o) hear o st.at.out st.turn

-- what is known in each history from which the call can have arisen, once this was heard
abbrev pub Knowing : PdCall → Posted → (List Event → List Event) → (List Event → Type 0) → Type 0
Knowing s o hear P = (h : List Event) → CallFits s o h → P (hear h)

-- so many tries have failed, of ten
abbrev pub Failed : PdQuery → Posted → ℕ → List Event → Type 0
Failed q o n h = (n < 10) × HaveFailed q o n (next_try q o) h

abbrev pub failed_so_often : ℕ → PdCall → PdCall
failed_so_often n s = record s { failed = n }

later_request : (r : Request) (o : Posted) → IsLater o (with_request r o)
later_request r o = record { line = refl; beat = refl; next = omega arith; next_ask = omega arith }

later_sleep : (ms : ℕ) (o : Posted) → IsLater o (with_sleep ms o)
later_sleep ms o = record { line = refl; beat = refl; next = omega arith; next_ask = omega arith }

later_ask : (o : Posted) → IsLater o (with_ask o)
later_ask o = record { line = refl; beat = refl; next = omega arith; next_ask = omega arith }

pub try_of_request : (q : PdQuery) (r : Request) (o : Posted) → request_of q ≡ Some r → next_try q o ≡ o.next
try_of_request (Region key) r o e = refl
try_of_request (RegionId id) r o e = refl
try_of_request (Store id) r o e = refl
try_of_request Stores r o e = refl
try_of_request Time r o e = absurd (cc)
try_of_request (Safepoint at) r o e = refl

pub time_of_ask : (q : PdQuery) → request_of q ≡ None → q ≡ Time
time_of_ask (Region key) e = absurd (cc)
time_of_ask (RegionId id) e = absurd (cc)
time_of_ask (Store id) e = absurd (cc)
time_of_ask Stores e = absurd (cc)
time_of_ask Time e = refl
time_of_ask (Safepoint at) e = absurd (cc)

tried_with_safe : (s : PdCall) (n : ℕ) (c : RetryClient) (o : Posted) (hear : List Event → List Event) (r : Option Request)
    → request_of s.query ≡ r → Knowing s o hear (Failed s.query o n) → Safe s o hear (waits (tried_with r (standing (failed_so_often n s) c o)))
tried_with_safe s n c o hear (Some r) e p = Moves-sent Placement r refl (λ h f. inl e) (λ h f. let k = p h f in record {
  few = k.0;
  at = (r, e, inl refl, omega arith, failed_longer s.query (hear h) (Sent (ticket_of o o.next) r ∷ hear h) n (next_try s.query o) o.next (later_request r o) (Within-one _ (hear h)) (let t = try_of_request s.query r o e in omega arith) k.1);
})
tried_with_safe s n c o hear None e p = Moves-asked refl (λ h f. let k = p h f in record {
  few = k.0;
  at = (time_of_ask s.query e, inl refl, omega arith, failed_longer s.query (hear h) (Asked (ticket_of o o.next_ask) ∷ hear h) n (next_try s.query o) o.next_ask (later_ask o) (Within-one _ (hear h)) (let t = ap (λ q. next_try q o) (time_of_ask s.query e) in omega arith) k.1);
})

pub tried_safe : (s : PdCall) (n : ℕ) (c : RetryClient) (o : Posted) (hear : List Event → List Event)
    → Knowing s o hear (Failed s.query o n) → Safe s o hear (waits (tried (standing (failed_so_often n s) c o)))
tried_safe s n c o hear p = tried_with_safe s n c o hear (request_of s.query) refl p

-- so many requests for the members were lost, of five
abbrev pub LostMembers : Posted → ℕ → List Event → Type 0
LostMembers o lost h = (lost < 5) × HaveLostMembers o lost o.next h

connecting_safe : (s : PdCall) (n : ℕ) (c : RetryClient) (o : Posted) (hear : List Event → List Event) (lost : ℕ)
    → Knowing s o hear (λ h. Failed s.query o n h × LostMembers o lost h) → Safe s o hear (waits (connecting lost (standing (failed_so_often n s) c o)))
connecting_safe s n c o hear lost p = Moves-sent Placement members refl (λ h f. inr refl) (λ h f. let k = p h f in record {
  few = k.0.0;
  at = (
    inl refl,
    omega arith,
    k.1.0,
    lost_longer (hear h) (Sent (ticket_of o o.next) members ∷ hear h) lost o.next o.next (later_request members o) (Within-one _ (hear h)) (le_refl o.next) k.1.1,
    failed_longer s.query (hear h) (Sent (ticket_of o o.next) members ∷ hear h) n (next_try s.query o) (next_try s.query (with_request members o)) (later_request members o) (Within-one _ (hear h)) (try_later s.query (later_request members o)) k.0.1,
  );
})

connecting_if : (b : Bool) (s : PdCall) (n : ℕ) (c : RetryClient) (o : Posted) (hear : List Event → List Event) (lost : ℕ)
    → Knowing s o hear (λ h. Failed s.query o n h × LostMembers o lost h)
    → Safe s o hear (waits (if b then connecting lost (standing (failed_so_often n s) c o) else tried (standing (failed_so_often n s) c o)))
connecting_if true s n c o hear lost p = connecting_safe s n c o hear lost p
connecting_if false s n c o hear lost p = tried_safe s n c o hear (λ h f. (p h f).0)

pub reconnected_safe : (s : PdCall) (n : ℕ) (c : RetryClient) (o : Posted) (hear : List Event → List Event) (lost now : ℕ)
    → Knowing s o hear (λ h. Failed s.query o n h × LostMembers o lost h) → Safe s o hear (waits (reconnected lost now (standing (failed_so_often n s) c o)))
reconnected_safe s n c o hear lost now p = connecting_if (may_connect c now) s n c o hear lost p

resting_safe : (s : PdCall) (c : RetryClient) (o : Posted) (hear : List Event → List Event) (lost : ℕ)
    → 0 < lost → Knowing s o hear (λ h. Failed s.query o s.failed h × LostMembers o lost h) → Safe s o hear (waits (resting lost (standing s c o)))
resting_safe s c o hear lost more p = Moves-slept 1000 refl (λ h f. let k = p h f in record {
  few = k.0.0;
  at = (
    inl refl,
    omega arith,
    more,
    k.1.0,
    lost_longer (hear h) (Began (ticket_of o o.next) 1000 ∷ hear h) lost o.next o.next (later_sleep 1000 o) (Within-one _ (hear h)) (le_refl o.next) k.1.1,
    failed_longer s.query (hear h) (Began (ticket_of o o.next) 1000 ∷ hear h) s.failed (next_try s.query o) (next_try s.query (with_sleep 1000 o)) (later_sleep 1000 o) (Within-one _ (hear h)) (try_later s.query (later_sleep 1000 o)) k.0.1,
  );
})

pub ends_safe : (s : PdCall) (c : RetryClient) (o : Posted) (hear : List Event → List Event) (v : Result PdAnswer Error)
    → Knowing s o hear (λ h. Gives s o h v) → Safe s o hear (ends v (standing s c o))
ends_safe s c o hear v p = Moves-quiet refl (λ h f. record { few = f.few; at = tt }) (λ h f. p h f)

-- nothing is done
pub quiet_safe : (s : PdCall) (c : RetryClient) (o : Posted) (hear : List Event → List Event)
    → ((h : List Event) → Within h (hear h)) → Safe s o hear (waits (standing s c o))
quiet_safe s c o hear w = Moves-quiet refl (λ h f. fits_longer s h (hear h) (IsLater-refl o) (w h) f) tt

-- one try more has failed, and this names it
abbrev pub HasFailed : PdCall → Posted → Error → List Event → Type 0
HasFailed s o why h = (k : ℕ) × (k < next_try s.query o) × IsFailure s.query (ticket_of o k) h why × HaveFailed s.query o s.failed k h

failing_if : (b : Bool) (s : PdCall) (c : RetryClient) (o : Posted) (hear : List Event → List Event) (now : ℕ) (why : Error)
    → nat_lt (s.failed + 1) 10 ≡ b → Knowing s o hear (HasFailed s o why)
    → Safe s o hear (if b then record { turn = Waits; at = reconnected 0 now (one_more_failed (standing s c o)) } else record { turn = Ends (Err why); at = over (standing s c o) })
failing_if true s c o hear now why e p = reconnected_safe s (s.failed + 1) c o hear 0 now (λ h f. let k = p h f in (
  (ltb-true (s.failed + 1) 10 e, subst (λ (n : ℕ). HaveFailed s.query o n (next_try s.query o) (hear h)) (sym (add-one s.failed)) (k.0, why, k.1, k.2, k.3)),
  (omega arith, tt),
))
failing_if false s c o hear now why e p = ends_safe s c o hear (Err why) (λ h f. let k = p h f in
    let high = ltb-false (s.failed + 1) 10 e in
    let nine : s.failed ≡ 9 = omega (arith, f.few, high) in
    inl (k.0, k.2, subst (λ (n : ℕ). HaveFailed s.query o n k.0 (hear h)) nine k.3))

pub failing_try_safe : (s : PdCall) (c : RetryClient) (o : Posted) (hear : List Event → List Event) (now : ℕ) (why : Error)
    → Knowing s o hear (HasFailed s o why) → Safe s o hear (failing_try why now (standing s c o))
failing_try_safe s c o hear now why p = failing_if (nat_lt (s.failed + 1) 10) s c o hear now why refl p

-- one request for the members more was lost
abbrev pub HasLostMembers : PdCall → Posted → ℕ → Error → List Event → Type 0
HasLostMembers s o lost why h =
    (k : ℕ) × (k < o.next) × (lost < 5) × Has h (Lost (ticket_of o k) members) × (why ≡ GrpcAPI (ticket_of o k)) × HaveLostMembers o lost k h × Failed s.query o s.failed h

losing_if : (b : Bool) (s : PdCall) (c : RetryClient) (o : Posted) (hear : List Event → List Event) (lost : ℕ) (why : Error)
    → nat_lt (lost + 1) 5 ≡ b → Knowing s o hear (HasLostMembers s o lost why)
    → Safe s o hear (if b then record { turn = Waits; at = resting (lost + 1) (standing s c o) } else record { turn = Ends (Err why); at = over (standing s c o) })
losing_if true s c o hear lost why e p = resting_safe s c o hear (lost + 1) (omega arith) (λ h f. let k = p h f in (
  k.6,
  (ltb-true (lost + 1) 5 e, subst (λ (n : ℕ). HaveLostMembers o n o.next (hear h)) (sym (add-one lost)) (k.0, k.1, k.3, k.5)),
))
losing_if false s c o hear lost why e p = ends_safe s c o hear (Err why) (λ h f. let k = p h f in
    let high = ltb-false (lost + 1) 5 e in
    let below : lost < 5 = k.2 in
    let four : lost ≡ 4 = omega (arith, below, high) in
    inr (inl (k.0, k.3, k.4, subst (λ (n : ℕ). HaveLostMembers o n k.0 (hear h)) four k.5)))

pub losing_members_safe : (s : PdCall) (c : RetryClient) (o : Posted) (hear : List Event → List Event) (lost : ℕ) (why : Error)
    → Knowing s o hear (HasLostMembers s o lost why) → Safe s o hear (losing_members why lost (standing s c o))
losing_members_safe s c o hear lost why p = losing_if (nat_lt (lost + 1) 5) s c o hear lost why refl p
