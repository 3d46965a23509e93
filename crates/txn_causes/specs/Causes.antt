-- What an error of a call has its cause in.
use Rattle.std.specs.Prelude.{◌≡◌, ◌≢◌, ◌⊎◌, ◌<◌, ⊤, ℕ, List, [], ◌∷◌, Option, Some, None, refl}
use Rattle.std.proofs.Common.{inl, inr, zero, suc}
use Rattle.txn_causes.specs.Carried.{FoundNone, FoundOther, HasBadKey, HasKeyError, HasLock, HasNoEpoch, HasNoLeader, HasRegion, HasRegionError, IsNoLock, IsReversed, ToldWithoutEpoch}
use Rattle.txn_causes.specs.Heard.{Heard}
use Rattle.txn_causes.specs.Kinds.{IsOfKind}
use Rattle.txn_causes.specs.Heard.Heard.{TookReply, WasLost}
use Rattle.txn_history.specs.Among.{IsAmong}
use Rattle.txn_kv.specs.ErrorView.{ErrorView, ErrorViews}
use Rattle.txn_kv.specs.ErrorView.ErrorView.{plain, locks, region, undetermined, key, extracted, multiple, kv, text, pessimistic}
use Rattle.txn_kv.specs.ErrorView.ErrorViews.{none, more}
use Rattle.txn_kv.specs.declared.errors.Error.{Error}
use Rattle.txn_kv.specs.declared.errors.Error.TheVariants.{GrpcAPI, RegionForKeyNotFound, RegionNotFoundInResponse, LeaderNotFound, InternalError, OutOfMemory}
use Rattle.txn_kv.specs.declared.errors.Internal.{Internal}
use Rattle.txn_kv.specs.declared.errors.Internal.TheVariants.{BadEnd, BadPadding, ReversedRegion, NoEpoch, WrongReply}
use Rattle.txn_kv.specs.declared.message.LockInfo.{LockInfo}
use Rattle.txn_kv.specs.declared.message.RegionErr.{RegionErr}
use Rattle.txn_kv.specs.declared.message.RegionErr.TheVariants.{MaxTimestampNotSynced, RaftEntryTooLarge, ServerIsBusy}
use Rattle.txn_kv.specs.declared.reply.Reply.{Reply}
use Rattle.txn_kv.specs.declared.request.Request.{Request}
use Rattle.txn_kv.specs.declared.request.Request.TheVariants.{GetAllStores, GetRegion, GetRegionById, GetStore, Members, UpdateGcSafePoint}
use Rattle.txn_kv.specs.declared.ticket.Ticket.{Ticket}

-- `K` says what was heard, by whatever evidence, and `S` that the backoff of the plan over regions whose error it is is spent.

-- a reply was taken to a request, which are so
abbrev pub Taken : (Heard → Type 0) → (Request → Reply → Type 0) → Type 0
Taken K are = (t : Ticket) × (r : Request) × (o : Reply) × K (TookReply t r o) × are r o

-- a try of a request to the placement driver failed: it was lost, or found no region
abbrev pub HasFailed : (Heard → Type 0) → Ticket → Request → Type 0
HasFailed K t r = K (WasLost t r) ⊎ ((o : Reply) × K (TookReply t r o) × FoundNone r o)

-- so many tries of it failed before the one with this ticket, in the name of the same line: the numbers of their tickets fall
abbrev pub HaveFailed : (Heard → Type 0) → Request → Ticket → ℕ → Type 0
HaveFailed K r t zero = ⊤
HaveFailed K r t (suc n) = (u : Ticket) × (u.line ≡ t.line) × (u.number < t.number) × HasFailed K u r × HaveFailed K r u n

-- How often a request to the placement driver is tried again before its failure is told: a query ten times in all, one for the
-- members five times. What a plan sends to a store it tries again by its backoff.
abbrev pub retries : Request → Option ℕ
retries (GetRegion r) = Some 9
retries (GetRegionById r) = Some 9
retries (GetStore r) = Some 9
retries (GetAllStores r) = Some 9
retries (UpdateGcSafePoint r) = Some 9
retries (Members r) = Some 4
retries _ = None

-- As often as it is tried again it had failed before: so often, or as often as the backoff has attempts.
abbrev pub IsTriedOut : (Heard → Type 0) → Type 0 → Request → Ticket → Option ℕ → Type 0
IsTriedOut K S r t None = S
IsTriedOut K S r t (Some n) = HaveFailed K r t n

-- a look-up found no region, and as often as it is tried again it had failed before
abbrev pub FoundNoRegion : (Heard → Type 0) → Request → Type 0
FoundNoRegion K r = (t : Ticket) × (o : Reply) × K (TookReply t r o) × FoundNone r o × IsTriedOut K ⊥ r t (retries r)

-- Something is wrong with a region record in a taken reply, or a taken reply is of another kind than its request. The rest of
-- these errors are of calls other than commits and rollbacks.
abbrev pub InternalCause : (Heard → Type 0) → Internal → Type 0
InternalCause K (BadEnd at) = Taken K (λ q. HasRegion (HasBadKey (BadEnd at)))
InternalCause K (BadPadding at) = Taken K (λ q. HasRegion (HasBadKey (BadPadding at)))
InternalCause K (ReversedRegion id) = Taken K (λ q. HasRegion (IsReversed id))
InternalCause K (NoEpoch id) = Taken K (λ q o. HasRegion (λ r. HasNoEpoch id r.region) o ⊎ ToldWithoutEpoch id o)
InternalCause K WrongReply = Taken K (λ q o. IsOfKind q o → ⊥)
InternalCause K _ = ⊥

-- An error that holds no other: a request was lost, and as often as it is tried again it had failed before; or a look-up did not
-- find what it was to find. A call may want for memory at any time, and needs no cause for that. The rest are no errors of plans.
abbrev pub PlainCause : (Heard → Type 0) → Type 0 → Error → Type 0
PlainCause K S (GrpcAPI ticket) = (r : Request) × K (WasLost ticket r) × IsTriedOut K S r ticket (retries r)
PlainCause K S (RegionForKeyNotFound wanted) = FoundNoRegion K (GetRegion (record { region_key = wanted }))
PlainCause K S (RegionNotFoundInResponse id) = Taken K (FoundOther id)
PlainCause K S (LeaderNotFound id) = Taken K (λ q. HasRegion (HasNoLeader id))
PlainCause K S (InternalError what) = InternalCause K what
PlainCause K S OutOfMemory = ⊤
PlainCause K S _ = ⊥

-- a region error that no new try betters, and that is told at once
abbrev pub EndsAtOnce : RegionErr → Type 0
EndsAtOnce ServerIsBusy = ⊤
EndsAtOnce RaftEntryTooLarge = ⊤
EndsAtOnce MaxTimestampNotSynced = ⊤
EndsAtOnce _ = ⊥

abbrev pub AreSome : ErrorViews → Type 0
AreSome none = ⊥
AreSome (more error errors) = ⊤

-- The cause of an error, by what is seen of it. Errors of regions and keys, and locks, stand in taken replies; one of a region is
-- told at once, or where the backoff is spent. One of a key tells of no lock, since locks have an error of their own. A list of errors has the cause of each, and is not empty. No plan says that an end is not known: a commit or a rollback says so around an error of
-- its plans.
abbrev mutual
  pub HasCause : (Heard → Type 0) → Type 0 → ErrorView → Type 0
  HasCause K S (plain error) = PlainCause K S error
  HasCause K S (locks found) = (found ≢ []) × ((lock : LockInfo) → IsAmong found lock → Taken K (λ q. HasLock lock))
  HasCause K S (region error) = Taken K (λ q. HasRegionError error) × (EndsAtOnce error ⊎ S)
  HasCause K S (undetermined inner) = ⊥
  HasCause K S (key error) = Taken K (λ q. HasKeyError error) × IsNoLock error
  HasCause K S (extracted errors) = AreSome errors × HaveCauses K S errors
  HasCause K S (multiple errors) = AreSome errors × HaveCauses K S errors
  HasCause K S (kv message) = ⊥
  HasCause K S (text message) = ⊥
  HasCause K S (pessimistic inner keys) = ⊥

  pub HaveCauses : (Heard → Type 0) → Type 0 → ErrorViews → Type 0
  HaveCauses K S none = ⊤
  HaveCauses K S (more error errors) = HasCause K S error × HaveCauses K S errors

-- Nothing but want of memory, or lists of errors that hold nothing but that.
abbrev pub IsMemory : Error → Type 0
IsMemory OutOfMemory = ⊤
IsMemory _ = ⊥

abbrev mutual
  pub IsStarved : ErrorView → Type 0
  IsStarved (plain error) = IsMemory error
  IsStarved (locks found) = ⊥
  IsStarved (region error) = ⊥
  IsStarved (undetermined inner) = ⊥
  IsStarved (key error) = ⊥
  IsStarved (extracted errors) = AreStarved errors
  IsStarved (multiple errors) = AreStarved errors
  IsStarved (kv message) = ⊥
  IsStarved (text message) = ⊥
  IsStarved (pessimistic inner keys) = ⊥

  pub AreStarved : ErrorViews → Type 0
  AreStarved none = ⊤
  AreStarved (more error errors) = IsStarved error × AreStarved errors

-- lemmas

-- what has its cause in less has it in more
module _ {K M : Heard → Type 0} {S T : Type 0} (weaker : (x : Heard) → K x → M x) (spent : S → T) where
  taken_more : (are : Request → Reply → Type 0) → Taken K are → Taken M are
  taken_more are k = (k.0, k.1, k.2, weaker (TookReply k.0 k.1 k.2) k.3, k.4)

  failed_more : (t : Ticket) (r : Request) → HasFailed K t r → HasFailed M t r
  failed_more t r (inl k) = inl (weaker (WasLost t r) k)
  failed_more t r (inr k) = inr (k.0, weaker (TookReply t r k.0) k.1, k.2)

  have_failed_more : (r : Request) (t : Ticket) (n : ℕ) → HaveFailed K r t n → HaveFailed M r t n
  have_failed_more r t zero k = tt
  have_failed_more r t (suc n) k = (k.0, k.1, k.2, failed_more k.0 r k.3, have_failed_more r k.0 n k.4)

  tried_out_more : {P Q : Type 0} → (P → Q) → (r : Request) (t : Ticket) (n : Option ℕ) → IsTriedOut K P r t n → IsTriedOut M Q r t n
  tried_out_more over r t None k = over k
  tried_out_more over r t (Some n) k = have_failed_more r t n k

  found_none_more : (r : Request) → FoundNoRegion K r → FoundNoRegion M r
  found_none_more r k = (k.0, k.1, weaker (TookReply k.0 r k.1) k.2, k.3, tried_out_more (λ (x : ⊥). x) r k.0 (retries r) k.4)

  internal_more : (what : Internal) → InternalCause K what → InternalCause M what
  internal_more (BadEnd at) k = taken_more (λ q. HasRegion (HasBadKey (BadEnd at))) k
  internal_more (BadPadding at) k = taken_more (λ q. HasRegion (HasBadKey (BadPadding at))) k
  internal_more (ReversedRegion id) k = taken_more (λ q. HasRegion (IsReversed id)) k
  internal_more (NoEpoch id) k = taken_more (λ q o. HasRegion (λ r. HasNoEpoch id r.region) o ⊎ ToldWithoutEpoch id o) k
  internal_more WrongReply k = taken_more (λ q o. IsOfKind q o → ⊥) k
  internal_more _ k = absurd k

  plain_more : (error : Error) → PlainCause K S error → PlainCause M T error
  plain_more (GrpcAPI ticket) k = (k.0, weaker (WasLost ticket k.0) k.1, tried_out_more spent k.0 ticket (retries k.0) k.2)
  plain_more (RegionForKeyNotFound wanted) k = found_none_more (GetRegion (record { region_key = wanted })) k
  plain_more (RegionNotFoundInResponse id) k = taken_more (FoundOther id) k
  plain_more (LeaderNotFound id) k = taken_more (λ q. HasRegion (HasNoLeader id)) k
  plain_more (InternalError what) k = internal_more what k
  plain_more OutOfMemory k = tt
  plain_more _ k = absurd k

  mutual
    pub has_cause_more : (error : ErrorView) → HasCause K S error → HasCause M T error
    has_cause_more (plain error) k = plain_more error k
    has_cause_more (locks found) k = (k.0, λ lock i. taken_more (λ q. HasLock lock) (k.1 lock i))
    has_cause_more (region error) k = (taken_more (λ q. HasRegionError error) k.0, elim k.1 [ inl now ↦ inl now | inr s ↦ inr (spent s) ])
    has_cause_more (undetermined inner) k = absurd k
    has_cause_more (key error) k = (taken_more (λ q. HasKeyError error) k.0, k.1)
    has_cause_more (extracted errors) k = (k.0, have_causes_more errors k.1)
    has_cause_more (multiple errors) k = (k.0, have_causes_more errors k.1)
    has_cause_more (kv message) k = absurd k
    has_cause_more (text message) k = absurd k
    has_cause_more (pessimistic inner keys) k = absurd k

    pub have_causes_more : (errors : ErrorViews) → HaveCauses K S errors → HaveCauses M T errors
    have_causes_more none k = tt
    have_causes_more (more error errors) k = (has_cause_more error k.0, have_causes_more errors k.1)

-- what has its cause in nothing is starved
module _ {K : Heard → Type 0} (nothing : (x : Heard) → K x → ⊥) where
  none_taken : (are : Request → Reply → Type 0) → Taken K are → ⊥
  none_taken are k = nothing (TookReply k.0 k.1 k.2) k.3

  none_internal : (what : Internal) → InternalCause K what → ⊥
  none_internal (BadEnd at) k = none_taken (λ q. HasRegion (HasBadKey (BadEnd at))) k
  none_internal (BadPadding at) k = none_taken (λ q. HasRegion (HasBadKey (BadPadding at))) k
  none_internal (ReversedRegion id) k = none_taken (λ q. HasRegion (IsReversed id)) k
  none_internal (NoEpoch id) k = none_taken (λ q o. HasRegion (λ r. HasNoEpoch id r.region) o ⊎ ToldWithoutEpoch id o) k
  none_internal WrongReply k = none_taken (λ q o. IsOfKind q o → ⊥) k
  none_internal _ k = k

  plain_starved : (S : Type 0) (error : Error) → PlainCause K S error → IsMemory error
  plain_starved S (GrpcAPI ticket) k = nothing (WasLost ticket k.0) k.1
  plain_starved S (RegionForKeyNotFound wanted) k = nothing (TookReply k.0 (GetRegion (record { region_key = wanted })) k.1) k.2
  plain_starved S (RegionNotFoundInResponse id) k = none_taken (FoundOther id) k
  plain_starved S (LeaderNotFound id) k = none_taken (λ q. HasRegion (HasNoLeader id)) k
  plain_starved S (InternalError what) k = none_internal what k
  plain_starved S OutOfMemory k = tt
  plain_starved S _ k = k

  some_lock : (found : List LockInfo) → found ≢ [] → ((lock : LockInfo) → IsAmong found lock → Taken K (λ q. HasLock lock)) → ⊥
  some_lock [] some each = some refl
  some_lock (lock ∷ found) some each = none_taken (λ q. HasLock lock) (each lock (inl refl))

  mutual
    pub is_starved : (S : Type 0) (error : ErrorView) → HasCause K S error → IsStarved error
    is_starved S (plain error) k = plain_starved S error k
    is_starved S (locks found) k = some_lock found k.0 k.1
    is_starved S (region error) k = none_taken (λ q. HasRegionError error) k.0
    is_starved S (undetermined inner) k = k
    is_starved S (key error) k = none_taken (λ q. HasKeyError error) k.0
    is_starved S (extracted errors) k = are_starved S errors k.1
    is_starved S (multiple errors) k = are_starved S errors k.1
    is_starved S (kv message) k = k
    is_starved S (text message) k = k
    is_starved S (pessimistic inner keys) k = k

    pub are_starved : (S : Type 0) (errors : ErrorViews) → HaveCauses K S errors → AreStarved errors
    are_starved S none k = tt
    are_starved S (more error errors) k = (is_starved S error k.0, are_starved S errors k.1)
