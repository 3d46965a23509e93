-- What settles a lock has its licence.
use Rattle.std.proofs.Common.{◌≡◌, ◌∙◌, inl, inr, Bool, true, false, List, [], ◌∷◌, Option, Ordering, Less, Equal, Greater, refl, subst, sym}
use Rattle.std.proofs.lemmas.Bool.{false≢true}
use Rattle.std.proofs.lemmas.Map.Lookups.{exact_bytes}
use Rattle.std.specs.Cmp.Lexicographic.{slice_cmp, texts_ties}
use Rattle.std.specs.Ordering.{is_eq, nat_cmp}
use Rattle.std.specs.Prelude.{◌||◌}
use Rattle.txn_history.specs.Decided.{IsPrewriteOp, WasDecided}
use Rattle.txn_history.specs.Event.{Event, Has}
use Rattle.txn_history.specs.Event.Event.{Took}
use Rattle.txn_history.specs.Foreign.{IsForeign}
use Rattle.txn_history.specs.Plan.{Key, has_key, key_eq}
use Rattle.txn_history.specs.Replies.{IsWithoutError}
use Rattle.txn_kv.specs.declared.message.Context.{Context}
use Rattle.txn_kv.specs.declared.message.LockInfo.{LockInfo}
use Rattle.txn_kv.specs.declared.message.TxnInfo.{TxnInfo}
use Rattle.txn_kv.specs.declared.reply.Reply.TheVariants as reply
use Rattle.txn_kv.specs.declared.reply.locks.CleanupResponse.{CleanupResponse}
use Rattle.txn_kv.specs.declared.request.Request.TheVariants as request
use Rattle.txn_kv.specs.declared.ticket.Ticket.{Ticket}
use Rattle.txn_settle.specs.Requests.{cleanup_of, resolve_of, rollback_of, WasSeen}

pub cleanup_licensed : (h : List Event) (lock : LockInfo) (at : Option Context) → WasSeen h lock → IsForeign h (request.Cleanup (cleanup_of lock at))
cleanup_licensed h lock at seen = (seen.0, seen.1, seen.2, lock, seen.3, seen.4, refl, refl)

pub resolve_licensed : (h : List Event) (lock : LockInfo) (asked_at at : Option Context) (t : Ticket) (answer : CleanupResponse) → WasSeen h lock → IsPrewriteOp lock
    → Has h (Took t (request.Cleanup (cleanup_of lock asked_at)) (reply.Cleanup answer)) → IsWithoutError (reply.Cleanup answer)
    → IsForeign h (request.ResolveLock (resolve_of lock answer.commit_version at))
resolve_licensed h lock asked_at at t answer seen prewrite taken fine info (inl same) = subst (λ (i : TxnInfo). WasDecided h i.txn i.status) same (inl (record {
  primary = lock.primary_lock;
  shown = record { ticket = seen.0; request = seen.1; answer = seen.2; lock = lock; taken = seen.3; shows = seen.4; prewrite = prewrite; start = refl; primary = refl };
  ticket = t;
  request = request.Cleanup (cleanup_of lock asked_at);
  answer = reply.Cleanup answer;
  taken = taken;
  decides = (fine, refl, refl, refl);
}))
resolve_licensed h lock asked_at at t answer seen prewrite taken fine info (inr none) = absurd none

same_key : (a b : Key) → key_eq a b ≡ true → a ≡ b
same_key a b h = exact_bytes a b (equal (slice_cmp nat_cmp a b) (sym (texts_ties a b) ∙ h))
  where
    equal : (o : Ordering) → is_eq o ≡ true → o ≡ Equal
    equal Less e = absurd (false≢true e)
    equal Equal e = refl
    equal Greater e = absurd (false≢true e)

-- the one key of a list
only_key : (a k : Key) → has_key (a ∷ []) k ≡ true → a ≡ k
only_key a k h = by (key_eq a k) refl h
  where
    by : (b : Bool) → key_eq a k ≡ b → (b || false) ≡ true → a ≡ k
    by true e t = same_key a k e
    by false e t = absurd (false≢true t)

pub rollback_licensed : (h : List Event) (lock : LockInfo) (at : Option Context) → WasSeen h lock → IsForeign h (request.PessimisticRollback (rollback_of lock at))
rollback_licensed h lock at seen k named = inl (seen.0, seen.1, seen.2, lock, seen.3, seen.4, refl, only_key lock.key k named)
