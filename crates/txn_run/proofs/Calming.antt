-- With which nothing went wrong, a line does not fail.
use Rattle.std.proofs.Common.{◌≡◌, ◌≢◌, ◌⊎◌, inl, inr, ℕ, Bool, true, false, List, [], ◌∷◌, Option, Some, None, refl, sym, ap, ◌∙◌, subst}
use Rattle.std.specs.Prelude.{◌||◌}
use Rattle.txn_kv.specs.ErrorView.{view_of, ErrorView, ErrorViews}
use Rattle.txn_kv.specs.ErrorView.ErrorView.{plain, locks, region, undetermined, key, extracted, multiple, kv, text, pessimistic}
use Rattle.txn_kv.specs.ErrorView.ErrorViews.{none, more}
use Rattle.txn_kv.specs.declared.errors.Error.{Error}
use Rattle.txn_kv.specs.declared.errors.Error.TheVariants.{GrpcAPI, RegionForKeyNotFound, RegionNotFoundInResponse, LeaderNotFound, InternalError, OutOfMemory}
use Rattle.txn_kv.specs.declared.errors.Internal.{Internal}
use Rattle.txn_kv.specs.declared.errors.Internal.TheVariants.{BadEnd, BadPadding, ReversedRegion, NoEpoch, WrongReply}
use Rattle.txn_kv.specs.declared.message.KeyError.{KeyError}
use Rattle.txn_kv.specs.declared.message.KeyError.TheVariants.{Locked}
use Rattle.txn_kv.specs.declared.message.LockInfo.{LockInfo}
use Rattle.txn_kv.specs.declared.message.RegionErr.{RegionErr}
use Rattle.txn_kv.specs.declared.message.RegionErr.TheVariants.{EpochNotMatch}
use Rattle.txn_kv.specs.declared.reply.Reply.{Reply}
use Rattle.txn_kv.specs.declared.request.Request.{Request}
use Rattle.txn_kv.specs.declared.request.Request.TheVariants.{Commit, GetRegion}
use Rattle.txn_kv.specs.declared.ticket.Ticket.{Ticket}
use Rattle.txn_history.specs.Among.{IsAmong}
use Rattle.txn_causes.specs.Carried.{FoundOther, HasBadKey, HasKeyError, HasLock, HasNoEpoch, HasNoLeader, HasRegion, HasRegionError, IsReversed, ToldWithoutEpoch}
use Rattle.txn_causes.specs.Causes.{AreSome, HasCause, InternalCause, PlainCause, Taken}
use Rattle.txn_causes.specs.Causes as causes
use Rattle.txn_causes.specs.Heard.Heard.{WasLost}
use Rattle.txn_causes.specs.Kinds.{IsOfKind}
use Rattle.txn_clients.specs.Want.{is_memory, some_want_memory, wants_memory}
use Rattle.txn_side.specs.Trace.{Trace}
use Rattle.txn_run.specs.Calm.{IsCalm, IsGoodReply, IsNotCalm}
use Rattle.txn_run.specs.Caused.{HeardBy, IsCaused, IsExplained, IsSpentFor, IsRollbackRefused, IsUndetermined}

no_region_error : (error : RegionErr) (r : Request) (o : Reply) → IsGoodReply r o → HasRegionError error o → ⊥
no_region_error error r o good k = no (sym good.region_error ∙ k)
  where
    no : ◌≡◌ {A = Option RegionErr} None (Some error) → ⊥
    no e = cc

no_key_error : (error : KeyError) (r : Request) (o : Reply) → IsGoodReply r o → HasKeyError error o → ⊥
no_key_error error r o good k = subst (λ xs. IsAmong xs error) good.key_errors k

upright_record : (id : ℕ) (r : Request) (o : Reply) → IsGoodReply r o → HasRegion (IsReversed id) o → ⊥
upright_record id r o good (x, at, is) = let fine = good.record_in x at in no (sym fine.upright ∙ is.1)
  where
    no : false ≡ true → ⊥
    no e = cc

led_record : (id : ℕ) (r : Request) (o : Reply) → IsGoodReply r o → HasRegion (HasNoLeader id) o → ⊥
led_record id r o good (x, at, is) = let fine = good.record_in x at in fine.leader is.1

key_record : (what : Internal) (r : Request) (o : Reply) → IsGoodReply r o → HasRegion (HasBadKey what) o → ⊥
key_record what r o good (x, at, is) = let fine = good.record_in x at in fine.keys what is

epoch_record : (id : ℕ) (r : Request) (o : Reply) → IsGoodReply r o → HasRegion (λ x. HasNoEpoch id x.region) o ⊎ ToldWithoutEpoch id o → ⊥
epoch_record id r o good (inl (x, at, is)) = let fine = good.record_in x at in fine.epoch is.1
epoch_record id r o good (inr k) = no_region_error (EpochNotMatch k.0) r o good k.2

module _ (t : Trace) (at n : ℕ) (calm : IsCalm t n) where
  never_lost : (u : Ticket) (r : Request) → HeardBy t n (WasLost u r) → ⊥
  never_lost u r (line, lost) = calm.kept u r lost line

  never_taken : (are : Request → Reply → Type 0) → ((r : Request) (o : Reply) → IsGoodReply r o → are r o → ⊥) → Taken (HeardBy t n) are → ⊥
  never_taken are never k = let heard = k.3 in never k.1 k.2 (calm.good k.0 k.1 k.2 heard.1 heard.0) k.4

  uncaused_internal : (what : Internal) → InternalCause (HeardBy t n) what → ⊥
  uncaused_internal (BadEnd place) k = never_taken (λ q. HasRegion (HasBadKey (BadEnd place))) (key_record (BadEnd place)) k
  uncaused_internal (BadPadding place) k = never_taken (λ q. HasRegion (HasBadKey (BadPadding place))) (key_record (BadPadding place)) k
  uncaused_internal (ReversedRegion id) k = never_taken (λ q. HasRegion (IsReversed id)) (upright_record id) k
  uncaused_internal (NoEpoch id) k = never_taken (λ q o. HasRegion (λ x. HasNoEpoch id x.region) o ⊎ ToldWithoutEpoch id o) (epoch_record id) k
  uncaused_internal WrongReply k = never_taken (λ q o. IsOfKind q o → ⊥) (λ r o good other. other good.like) k
  uncaused_internal _ k = k

  plain_wants : (error : Error) → PlainCause (HeardBy t n) (IsSpentFor t at n) error → is_memory error ≡ true
  plain_wants (GrpcAPI u) k = absurd (never_lost u k.0 k.1)
  plain_wants (RegionForKeyNotFound wanted) k = let heard = k.2 in let good = calm.good k.0 (GetRegion (record { region_key = wanted })) k.1 heard.1 heard.0 in absurd (good.found k.3)
  plain_wants (RegionNotFoundInResponse id) k = absurd (never_taken (FoundOther id) (λ r o good other. good.wanted id other) k)
  plain_wants (LeaderNotFound id) k = absurd (never_taken (λ q. HasRegion (HasNoLeader id)) (led_record id) k)
  plain_wants (InternalError what) k = absurd (uncaused_internal what k)
  plain_wants OutOfMemory k = refl
  plain_wants _ k = absurd k

  or_wants : (a b : Bool) → a ≡ true → (a || b) ≡ true
  or_wants true b e = refl
  or_wants false b e = absurd (cc)

  some_lock : (found : List LockInfo) → found ≢ [] → ((lock : LockInfo) → IsAmong found lock → Taken (HeardBy t n) (λ q. HasLock lock)) → ⊥
  some_lock [] some each = some refl
  some_lock (lock ∷ found) some each = never_taken (λ q. HasLock lock) (no_key_error (Locked lock)) (each lock (inl refl))

  mutual
    cause_wants : (error : ErrorView) → HasCause (HeardBy t n) (IsSpentFor t at n) error → wants_memory error ≡ true
    cause_wants (plain error) k = plain_wants error k
    cause_wants (locks found) k = absurd (some_lock found k.0 k.1)
    cause_wants (region error) k = absurd (never_taken (λ q. HasRegionError error) (no_region_error error) k.0)
    cause_wants (undetermined inner) k = absurd k
    cause_wants (key error) k = absurd (never_taken (λ q. HasKeyError error) (no_key_error error) k.0)
    cause_wants (extracted errors) k = causes_want errors k.0 k.1
    cause_wants (multiple errors) k = causes_want errors k.0 k.1
    cause_wants (kv message) k = absurd k
    cause_wants (text message) k = absurd k
    cause_wants (pessimistic inner keys) k = absurd k

    causes_want : (errors : ErrorViews) → AreSome errors → causes.HaveCauses (HeardBy t n) (IsSpentFor t at n) errors → some_want_memory errors ≡ true
    causes_want none some k = absurd some
    causes_want (more error errors) some k = or_wants (wants_memory error) (some_want_memory errors) (cause_wants error k.0)

  unexplained : (e : Error) → IsExplained t at n e → wants_memory (view_of e) ≡ true
  unexplained e (inl k) = cause_wants (view_of e) k
  unexplained e (inr k) = absurd (calm.timed e k.0.refused)

fed_so : (b : Bool) → b ≡ false → b ≡ true → ⊥
fed_so true e f = cc
fed_so false e f = cc

pub not_calm : (t : Trace) (n : ℕ) (e : Error) → IsCaused t n e → IsNotCalm t n e
not_calm t n e c calm = by c.why
  where
    by : IsExplained t c.at n e ⊎ (IsUndetermined t c.at n e ⊎ IsRollbackRefused t c.at n e) → ⊥
    by (inl k) = fed_so (wants_memory (view_of e)) c.fed (unexplained t c.at n calm e k)
    by (inr (inl k)) = fed_so (wants_memory (view_of e)) c.fed (ap wants_memory k.error ∙ unexplained t c.at n calm k.inner k.explained)
    by (inr (inr k)) = calm.settled k.rollback c.at k.ticket (Commit k.commit) c.called k.lost k.sent tt
