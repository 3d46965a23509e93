-- The locks that are counted in a reply are those that it shows.
use Rattle.std.proofs.Common.{◌≡◌, inl, inr, ◌⊎◌, List, [], ◌∷◌, ◌++◌, Option, Some, None, refl, sym, ap, subst}
use Rattle.txn_kv.specs.declared.message.KeyError.{KeyError}
use Rattle.txn_kv.specs.declared.message.KeyError.TheVariants as refused
use Rattle.txn_kv.specs.declared.message.LockInfo.{LockInfo}
use Rattle.txn_kv.specs.declared.message.PbPair.{PbPair}
use Rattle.txn_kv.specs.declared.reply.Reply.{Reply}
use Rattle.txn_kv.specs.declared.reply.Reply.TheVariants as reply
use Rattle.txn_history.specs.Among.{IsAmong}
use Rattle.txn_history.specs.Replies.{ErrorShows, PairsShow, ErrorsShow, ShowsLock}
use Rattle.txn_history.specs.Spends.{lock_of, locks_of_errors, locks_of_pairs, listed, locks_in}

pub among_append : {X : Type 0} (xs ys : List X) (x : X) → IsAmong (xs ++ ys) x → IsAmong xs x ⊎ IsAmong ys x
among_append [] ys x a = inr a
among_append (z ∷ xs) ys x (inl a) = inl (inl a)
among_append (z ∷ xs) ys x (inr a) = elim (among_append xs ys x a) [ inl b ↦ inl (inr b) | inr b ↦ inr b ]

pub among_first : {X : Type 0} (xs ys : List X) (x : X) → IsAmong xs x → IsAmong (xs ++ ys) x
among_first [] ys x a = absurd a
among_first (z ∷ xs) ys x (inl a) = inl a
among_first (z ∷ xs) ys x (inr a) = inr (among_first xs ys x a)

pub among_second : {X : Type 0} (xs ys : List X) (x : X) → IsAmong ys x → IsAmong (xs ++ ys) x
among_second [] ys x a = a
among_second (z ∷ xs) ys x a = inr (among_second xs ys x a)

of_error : (o : Option KeyError) (l : LockInfo) → IsAmong (lock_of o) l → ErrorShows o l
of_error None l a = absurd a
of_error (Some (refused.Locked x)) l (inl a) = a
of_error (Some (refused.Locked x)) l (inr a) = absurd a
of_error (Some (refused.PrimaryMismatch x)) l (inl a) = a
of_error (Some (refused.PrimaryMismatch x)) l (inr a) = absurd a
of_error (Some _) l a = absurd a

to_error : (o : Option KeyError) (l : LockInfo) → ErrorShows o l → IsAmong (lock_of o) l
to_error None l a = absurd a
to_error (Some (refused.Locked x)) l a = inl a
to_error (Some (refused.PrimaryMismatch x)) l a = inl a
to_error (Some _) l a = absurd a

of_pairs : (ps : List PbPair) (l : LockInfo) → IsAmong (locks_of_pairs ps) l → PairsShow ps l
of_pairs [] l a = absurd a
of_pairs (p ∷ ps) l a = later (of_pairs ps l) (among_append (lock_of p.error) (locks_of_pairs ps) l a)
  where
    later : (IsAmong (locks_of_pairs ps) l → PairsShow ps l) → IsAmong (lock_of p.error) l ⊎ IsAmong (locks_of_pairs ps) l → PairsShow (p ∷ ps) l
    later rest (inl b) = (p, inl refl, of_error p.error l b)
    later rest (inr b) = let w = rest b in (w.0, inr w.1, w.2)

to_pairs : (ps : List PbPair) (l : LockInfo) (p : PbPair) → IsAmong ps p → ErrorShows p.error l → IsAmong (locks_of_pairs ps) l
to_pairs [] l p a e = absurd a
to_pairs (q ∷ ps) l p (inl a) e = among_first (lock_of q.error) (locks_of_pairs ps) l (to_error q.error l (subst (λ (z : PbPair). ErrorShows z.error l) (sym a) e))
to_pairs (q ∷ ps) l p (inr a) e = among_second (lock_of q.error) (locks_of_pairs ps) l (to_pairs ps l p a e)

of_errors : (es : List KeyError) (l : LockInfo) → IsAmong (locks_of_errors es) l → ErrorsShow es l
of_errors [] l a = absurd a
of_errors (e ∷ es) l a = later (of_errors es l) (among_append (lock_of (Some e)) (locks_of_errors es) l a)
  where
    later : (IsAmong (locks_of_errors es) l → ErrorsShow es l) → IsAmong (lock_of (Some e)) l ⊎ IsAmong (locks_of_errors es) l → ErrorsShow (e ∷ es) l
    later rest (inl b) = (e, inl refl, of_error (Some e) l b)
    later rest (inr b) = let w = rest b in (w.0, inr w.1, w.2)

to_errors : (es : List KeyError) (l : LockInfo) (x : KeyError) → IsAmong es x → ErrorShows (Some x) l → IsAmong (locks_of_errors es) l
to_errors [] l x a e = absurd a
to_errors (y ∷ es) l x (inl a) e = among_first (lock_of (Some y)) (locks_of_errors es) l (to_error (Some y) l (subst (λ z. ErrorShows (Some z) l) (sym a) e))
to_errors (y ∷ es) l x (inr a) e = among_second (lock_of (Some y)) (locks_of_errors es) l (to_errors es l x a e)

pub listed_shown : (o : Reply) (l : LockInfo) → IsAmong (locks_in o) l → ShowsLock o l
listed_shown (reply.Get o) l a = of_error o.error l a
listed_shown (reply.BatchGet o) l a = of_pairs o.pairs l a
listed_shown (reply.Scan o) l a = of_pairs o.pairs l a
listed_shown (reply.Prewrite o) l a = of_errors o.errors l a
listed_shown (reply.Commit o) l a = of_error o.error l a
listed_shown (reply.Cleanup o) l a = of_error o.error l a
listed_shown (reply.BatchRollback o) l a = of_error o.error l a
listed_shown (reply.PessimisticRollback o) l a = of_errors o.errors l a
listed_shown (reply.PessimisticLock o) l a = of_errors o.errors l a
listed_shown (reply.ScanLock o) l a = a
listed_shown (reply.TxnHeartBeat o) l a = of_error o.error l a
listed_shown (reply.CheckTxnStatus o) l a = elim (among_append (listed o.lock_info) (lock_of o.error) l a) [ inl b ↦ inl (by o.lock_info b) | inr b ↦ inr (of_error o.error l b) ]
  where
    by : (x : Option LockInfo) → IsAmong (listed x) l → x ≡ Some l
    by None b = absurd b
    by (Some y) (inl b) = ap Some b
    by (Some y) (inr b) = absurd b
listed_shown (reply.CheckSecondaryLocks o) l a = a
listed_shown _ l a = absurd a

pub shown_listed : (o : Reply) (l : LockInfo) → ShowsLock o l → IsAmong (locks_in o) l
shown_listed (reply.Get o) l a = to_error o.error l a
shown_listed (reply.BatchGet o) l a = to_pairs o.pairs l a.0 a.1 a.2
shown_listed (reply.Scan o) l a = to_pairs o.pairs l a.0 a.1 a.2
shown_listed (reply.Prewrite o) l a = to_errors o.errors l a.0 a.1 a.2
shown_listed (reply.Commit o) l a = to_error o.error l a
shown_listed (reply.Cleanup o) l a = to_error o.error l a
shown_listed (reply.BatchRollback o) l a = to_error o.error l a
shown_listed (reply.PessimisticRollback o) l a = to_errors o.errors l a.0 a.1 a.2
shown_listed (reply.PessimisticLock o) l a = to_errors o.errors l a.0 a.1 a.2
shown_listed (reply.ScanLock o) l a = a
shown_listed (reply.TxnHeartBeat o) l a = to_error o.error l a
shown_listed (reply.CheckTxnStatus o) l a = elim a [ inl b ↦ among_first (listed o.lock_info) (lock_of o.error) l (subst (λ x. IsAmong (listed x) l) (sym b) (inl refl)) | inr b ↦ among_second (listed o.lock_info) (lock_of o.error) l (to_error o.error l b) ]
shown_listed (reply.CheckSecondaryLocks o) l a = a
shown_listed _ l a = absurd a
