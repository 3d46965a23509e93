-- A request that is cut becomes a request for a part, and a part of a part is a part.
use Rattle.std.proofs.Common.{◌≡◌, ◌≢◌, ℕ, Bool, true, false, ◌≤◌, List, [], ◌∷◌, ◌++◌, length, refl, sym, ap, ◌∙◌, subst, append_assoc, arith}
use Rattle.std.specs.Prelude.{Option, None, IfSome, map, take, drop}
use Rattle.std.proofs.lemmas.List.Elements.{All-nil}
use Rattle.std.specs.List.{All}
use Rattle.txn_history.specs.Among.{IsAmong}
use Rattle.txn_history.specs.Plan.{AreDistinct}
use Rattle.txn_kv.specs.declared.message.Mutation.{Mutation}
use Rattle.txn_kv.specs.declared.request.reads.BatchGetRequest.{BatchGetRequest}
use Rattle.txn_kv.specs.declared.request.commits.BatchRollbackRequest.{BatchRollbackRequest}
use Rattle.txn_kv.specs.declared.request.locks.CheckSecondaryLocksRequest.{CheckSecondaryLocksRequest}
use Rattle.txn_kv.specs.declared.request.locks.CheckTxnStatusRequest.{CheckTxnStatusRequest}
use Rattle.txn_kv.specs.declared.request.locks.CleanupRequest.{CleanupRequest}
use Rattle.txn_kv.specs.declared.request.commits.CommitRequest.{CommitRequest}
use Rattle.txn_kv.specs.declared.request.reads.GetRequest.{GetRequest}
use Rattle.txn_kv.specs.declared.request.locks.PessimisticLockRequest.{PessimisticLockRequest}
use Rattle.txn_kv.specs.declared.request.locks.PessimisticRollbackRequest.{PessimisticRollbackRequest}
use Rattle.txn_kv.specs.declared.request.commits.PrewriteRequest.{PrewriteRequest}
use Rattle.txn_kv.specs.declared.request.locks.ScanLockRequest.{ScanLockRequest}
use Rattle.txn_kv.specs.declared.request.reads.ScanRequest.{ScanRequest}
use Rattle.txn_kv.specs.declared.request.commits.TxnHeartBeatRequest.{TxnHeartBeatRequest}
use Rattle.txn_region.specs.Regions.{Key}
use Rattle.txn_shard.specs.Batches.{joined}
use Rattle.txn_shard.specs.Cutting.{piece_among, piece_inside, some_piece}
use Rattle.txn_shard.specs.Distinct.{piece_distinct}
use Rattle.txn_shard.specs.Order.{in_order}
use Rattle.txn_shard.specs.Parts.{range_by, scan_range, lock_range, GetPart, CleanupPart, TxnHeartBeatPart, CheckTxnStatusPart, BatchGetPart, BatchRollbackPart, PessimisticRollbackPart, CheckSecondaryLocksPart, CommitPart, PrewritePart, PessimisticLockPart, ScanPart, ScanLockPart}
use Rattle.txn_shard.specs.Shards.{AreJoined, AreEnded, ArePieces, IsAlone, IsAt, IsFresh, IsShard, KeyIsFound, KeyLiesIn, KeysAreFound, KeysLieIn, Range, RangeIsFound, RangeLiesIn, PartIsFound, holds, shards_of, IsPartition}
use Rattle.txn_shard.specs.declared.shard_list.ShardList.{ShardList}

-- One key

-- the one piece of a key is the key
pub alone : (key shard : Key) (before behind : List Key) → IsAlone key (before ++ shard ∷ behind) → shard ≡ key
alone key shard [] behind a = first a
  where
    head_or : Key → List Key → Key
    head_or d [] = d
    head_or d (x ∷ xs) = x

    first : shard ∷ behind ≡ key ∷ [] → shard ≡ key
    first e = ap (head_or key) e
alone key shard (x ∷ before) behind a = absurd (never before (ap rest a))
  where
    rest : List Key → List Key
    rest [] = []
    rest (y ∷ ys) = ys

    is_some : List Key → Type 0
    is_some [] = ⊥
    is_some (y ∷ ys) = Unit {0}

    some : (ys : List Key) → is_some (ys ++ shard ∷ behind)
    some [] = tt
    some (y ∷ ys) = tt

    never : (ys : List Key) → ys ++ shard ∷ behind ≡ [] → ⊥
    never ys e = subst is_some e (some ys)

pub IsAlone-again : (whole piece : Key) (before parts behind : List Key) → IsAlone whole (before ++ piece ∷ behind) → IsAlone piece parts → IsAlone whole (before ++ parts ++ behind)
IsAlone-again whole piece before parts behind w p = ap (λ l. before ++ l ++ behind) p ∙ append_assoc before (piece ∷ []) behind ∙ w

pub GetPart-applied : (old new : GetRequest) (shard : Key) (before behind : List Key) → IsAlone old.key (before ++ shard ∷ behind) → new ≡ record old { context = new.context; key = shard } → GetPart new old
GetPart-applied old new shard before behind cut e = e ∙ ap (λ key. record old { context = new.context; key = key }) (alone old.key shard before behind cut)

pub GetPart-part : (a b c : GetRequest) → GetPart a b → GetPart b c → GetPart a c
GetPart-part a b c p q = p ∙ ap (λ (r : GetRequest). record r { context = a.context }) q

pub CleanupPart-applied : (old new : CleanupRequest) (shard : Key) (before behind : List Key) → IsAlone old.key (before ++ shard ∷ behind) → new ≡ record old { context = new.context; key = shard } → CleanupPart new old
CleanupPart-applied old new shard before behind cut e = e ∙ ap (λ key. record old { context = new.context; key = key }) (alone old.key shard before behind cut)

pub CleanupPart-part : (a b c : CleanupRequest) → CleanupPart a b → CleanupPart b c → CleanupPart a c
CleanupPart-part a b c p q = p ∙ ap (λ (r : CleanupRequest). record r { context = a.context }) q

pub TxnHeartBeatPart-applied : (old new : TxnHeartBeatRequest) (shard : Key) (before behind : List Key) → IsAlone old.primary_lock (before ++ shard ∷ behind) → new ≡ record old { context = new.context; primary_lock = shard } → TxnHeartBeatPart new old
TxnHeartBeatPart-applied old new shard before behind cut e = e ∙ ap (λ key. record old { context = new.context; primary_lock = key }) (alone old.primary_lock shard before behind cut)

pub TxnHeartBeatPart-part : (a b c : TxnHeartBeatRequest) → TxnHeartBeatPart a b → TxnHeartBeatPart b c → TxnHeartBeatPart a c
TxnHeartBeatPart-part a b c p q = p ∙ ap (λ (r : TxnHeartBeatRequest). record r { context = a.context }) q

pub CheckTxnStatusPart-applied : (old new : CheckTxnStatusRequest) (shard : Key) (before behind : List Key) → IsAlone old.primary_key (before ++ shard ∷ behind) → new ≡ record old { context = new.context; primary_key = shard } → CheckTxnStatusPart new old
CheckTxnStatusPart-applied old new shard before behind cut e = e ∙ ap (λ key. record old { context = new.context; primary_key = key }) (alone old.primary_key shard before behind cut)

pub CheckTxnStatusPart-part : (a b c : CheckTxnStatusRequest) → CheckTxnStatusPart a b → CheckTxnStatusPart b c → CheckTxnStatusPart a c
CheckTxnStatusPart-part a b c p q = p ∙ ap (λ (r : CheckTxnStatusRequest). record r { context = a.context }) q

-- Keys and mutations

pub BatchGetPart-applied : (old new : BatchGetRequest) (shard : List Key) (before behind : List (List Key)) → AreJoined (in_order (λ key. key) old.keys) (before ++ shard ∷ behind) → new ≡ record old { context = new.context; keys = shard } → BatchGetPart new old
BatchGetPart-applied old new shard before behind cut e =
    let same = ap (λ (r : BatchGetRequest). r.keys) e in
    (e ∙ ap (λ items. record old { context = new.context; keys = items }) (sym same), λ x among. piece_among (λ key. key) old.keys shard before behind cut x (subst (λ items. IsAmong items x) same among))

pub BatchGetPart-part : (a b c : BatchGetRequest) → BatchGetPart a b → BatchGetPart b c → BatchGetPart a c
BatchGetPart-part a b c p q = (p.0 ∙ ap (λ (r : BatchGetRequest). record r { context = a.context; keys = a.keys }) q.0, λ x among. q.1 x (p.1 x among))

pub BatchRollbackPart-applied : (old new : BatchRollbackRequest) (shard : List Key) (before behind : List (List Key)) → AreJoined (in_order (λ key. key) old.keys) (before ++ shard ∷ behind) → new ≡ record old { context = new.context; keys = shard } → BatchRollbackPart new old
BatchRollbackPart-applied old new shard before behind cut e =
    let same = ap (λ (r : BatchRollbackRequest). r.keys) e in
    (e ∙ ap (λ items. record old { context = new.context; keys = items }) (sym same), λ x among. piece_among (λ key. key) old.keys shard before behind cut x (subst (λ items. IsAmong items x) same among))

pub BatchRollbackPart-part : (a b c : BatchRollbackRequest) → BatchRollbackPart a b → BatchRollbackPart b c → BatchRollbackPart a c
BatchRollbackPart-part a b c p q = (p.0 ∙ ap (λ (r : BatchRollbackRequest). record r { context = a.context; keys = a.keys }) q.0, λ x among. q.1 x (p.1 x among))

pub PessimisticRollbackPart-applied : (old new : PessimisticRollbackRequest) (shard : List Key) (before behind : List (List Key)) → AreJoined (in_order (λ key. key) old.keys) (before ++ shard ∷ behind) → new ≡ record old { context = new.context; keys = shard } → PessimisticRollbackPart new old
PessimisticRollbackPart-applied old new shard before behind cut e =
    let same = ap (λ (r : PessimisticRollbackRequest). r.keys) e in
    (e ∙ ap (λ items. record old { context = new.context; keys = items }) (sym same), λ x among. piece_among (λ key. key) old.keys shard before behind cut x (subst (λ items. IsAmong items x) same among))

pub PessimisticRollbackPart-part : (a b c : PessimisticRollbackRequest) → PessimisticRollbackPart a b → PessimisticRollbackPart b c → PessimisticRollbackPart a c
PessimisticRollbackPart-part a b c p q = (p.0 ∙ ap (λ (r : PessimisticRollbackRequest). record r { context = a.context; keys = a.keys }) q.0, λ x among. q.1 x (p.1 x among))

pub CheckSecondaryLocksPart-applied : (old new : CheckSecondaryLocksRequest) (shard : List Key) (before behind : List (List Key)) → AreJoined (in_order (λ key. key) old.keys) (before ++ shard ∷ behind) → new ≡ record old { context = new.context; keys = shard } → CheckSecondaryLocksPart new old
CheckSecondaryLocksPart-applied old new shard before behind cut e =
    let same = ap (λ (r : CheckSecondaryLocksRequest). r.keys) e in
    (e ∙ ap (λ items. record old { context = new.context; keys = items }) (sym same), λ x among. piece_among (λ key. key) old.keys shard before behind cut x (subst (λ items. IsAmong items x) same among))

pub CheckSecondaryLocksPart-part : (a b c : CheckSecondaryLocksRequest) → CheckSecondaryLocksPart a b → CheckSecondaryLocksPart b c → CheckSecondaryLocksPart a c
CheckSecondaryLocksPart-part a b c p q = (p.0 ∙ ap (λ (r : CheckSecondaryLocksRequest). record r { context = a.context; keys = a.keys }) q.0, λ x among. q.1 x (p.1 x among))

pub CommitPart-applied : (old new : CommitRequest) (shard : List Key) (before behind : List (List Key)) → ArePieces (in_order (λ key. key) old.keys) (before ++ shard ∷ behind) → new ≡ record old { context = new.context; keys = shard } → CommitPart new old
CommitPart-applied old new shard before behind cut e =
    let same = ap (λ (r : CommitRequest). r.keys) e in (
      e ∙ ap (λ items. record old { context = new.context; keys = items }) (sym same),
      (λ x among. piece_among (λ key. key) old.keys shard before behind cut.joined x (subst (λ items. IsAmong items x) same among)),
      λ is. subst (λ items. items ≢ []) (sym same) (some_piece (λ key. key) old.keys shard before behind cut is),
    )

pub CommitPart-part : (a b c : CommitRequest) → CommitPart a b → CommitPart b c → CommitPart a c
CommitPart-part a b c p q = (p.0 ∙ ap (λ (r : CommitRequest). record r { context = a.context; keys = a.keys }) q.0, (λ x among. q.1 x (p.1 x among)), λ is. p.2 (q.2 is))

pub PrewritePart-applied : (old new : PrewriteRequest) (shard : List Mutation) (before behind : List (List Mutation)) → AreJoined (in_order (λ mutation. mutation.key) old.mutations) (before ++ shard ∷ behind) → new ≡ record old { context = new.context; mutations = shard } → PrewritePart new old
PrewritePart-applied old new shard before behind cut e =
    let same = ap (λ (r : PrewriteRequest). r.mutations) e in (
      e ∙ ap (λ items. record old { context = new.context; mutations = items }) (sym same),
      (λ x among. piece_among (λ mutation. mutation.key) old.mutations shard before behind cut x (subst (λ items. IsAmong items x) same among)),
      λ distinct. subst AreDistinct (sym same) (piece_distinct old.mutations shard before behind cut distinct),
    )

pub PrewritePart-part : (a b c : PrewriteRequest) → PrewritePart a b → PrewritePart b c → PrewritePart a c
PrewritePart-part a b c p q = (p.0 ∙ ap (λ (r : PrewriteRequest). record r { context = a.context; mutations = a.mutations }) q.0, (λ x among. q.1 x (p.1 x among)), λ distinct. p.2 (q.2 distinct))

pub PessimisticLockPart-applied : (old new : PessimisticLockRequest) (shard : List Mutation) (before behind : List (List Mutation)) → AreJoined (in_order (λ mutation. mutation.key) old.mutations) (before ++ shard ∷ behind) → new ≡ record old { context = new.context; mutations = shard } → PessimisticLockPart new old
PessimisticLockPart-applied old new shard before behind cut e =
    let same = ap (λ (r : PessimisticLockRequest). r.mutations) e in
    (e ∙ ap (λ items. record old { context = new.context; mutations = items }) (sym same), λ x among. piece_among (λ mutation. mutation.key) old.mutations shard before behind cut x (subst (λ items. IsAmong items x) same among))

pub PessimisticLockPart-part : (a b c : PessimisticLockRequest) → PessimisticLockPart a b → PessimisticLockPart b c → PessimisticLockPart a c
PessimisticLockPart-part a b c p q = (p.0 ∙ ap (λ (r : PessimisticLockRequest). record r { context = a.context; mutations = a.mutations }) q.0, λ x among. q.1 x (p.1 x among))

-- Ranges

pub ScanLockPart-applied : (old new : ScanLockRequest) (shard : Range) (before behind : List Range) → IsPartition (lock_range old) (before ++ shard ∷ behind) → new ≡ record old { context = new.context; start_key = shard.0; end_key = shard.1 } → ScanLockPart new old
ScanLockPart-applied old new shard before behind cut e =
    let range = ap lock_range e in
    (e ∙ ap (λ (r : Range). record old { context = new.context; start_key = r.0; end_key = r.1 }) (sym range), λ key held. piece_inside (lock_range old) shard before behind cut key (subst (λ r. holds r key ≡ true) range held))

pub ScanLockPart-part : (a b c : ScanLockRequest) → ScanLockPart a b → ScanLockPart b c → ScanLockPart a c
ScanLockPart-part a b c p q = (p.0 ∙ ap (λ (r : ScanLockRequest). record r { context = a.context; start_key = a.start_key; end_key = a.end_key }) q.0, λ key held. q.1 key (p.1 key held))

range_by_twice : (b : Bool) (r : Range) → range_by b (range_by b r.0 r.1).0 (range_by b r.0 r.1).1 ≡ r
range_by_twice true r = refl
range_by_twice false r = refl

pub scan_range-applied : (old new : ScanRequest) (shard : Range) → new ≡ record old { context = new.context; start_key = (range_by old.reverse shard.0 shard.1).0; end_key = (range_by old.reverse shard.0 shard.1).1 } → scan_range new ≡ shard
scan_range-applied old new shard e = ap scan_range e ∙ range_by_twice old.reverse shard

bounds-applied : (old new : ScanRequest) (shard : Range) → new ≡ record old { context = new.context; start_key = (range_by old.reverse shard.0 shard.1).0; end_key = (range_by old.reverse shard.0 shard.1).1 }
    → (new.start_key, new.end_key) ≡ range_by old.reverse shard.0 shard.1
bounds-applied old new shard e = ap (λ (r : ScanRequest). (r.start_key, r.end_key)) e

pub ScanPart-applied : (old new : ScanRequest) (shard : Range) (before behind : List Range) → IsPartition (scan_range old) (before ++ shard ∷ behind)
    → new ≡ record old { context = new.context; start_key = (range_by old.reverse shard.0 shard.1).0; end_key = (range_by old.reverse shard.0 shard.1).1 } → ScanPart new old
ScanPart-applied old new shard before behind cut e =
    let range = scan_range-applied old new shard e in
    (e ∙ ap (λ (r : Range). record old { context = new.context; start_key = r.0; end_key = r.1 }) (sym (bounds-applied old new shard e)), λ key held. piece_inside (scan_range old) shard before behind cut key (subst (λ r. holds r key ≡ true) range held))

pub ScanPart-part : (a b c : ScanRequest) → ScanPart a b → ScanPart b c → ScanPart a c
ScanPart-part a b c p q = (p.0 ∙ ap (λ (r : ScanRequest). record r { context = a.context; start_key = a.start_key; end_key = a.end_key }) q.0, λ key held. q.1 key (p.1 key held))

-- Nothing is found at first

none_le : (n : ℕ) → 0 ≤ n
none_le n = omega arith

pub KeyIsFound-none : (key : Key) (found : ShardList Key) → IsFresh found → KeyIsFound key found
KeyIsFound-none key found fresh = record {
  front = ap (λ s. map (λ f. f.0) s) fresh.0 ∙ sym (ap (λ n. take n (key ∷ [])) fresh.1);
  within = subst (λ n. n ≤ 1) (sym fresh.1) (none_le 1);
  inside = subst (All (λ f. IsAt KeyLiesIn f.0 f.1)) (sym fresh.0) (All-nil (λ f. IsAt KeyLiesIn f.0 f.1));
}

pub KeysAreFound-none : {X : Type 0} (key : X → Key) (size : X → ℕ) (limit : Option ℕ) (whole : List X) (found : ShardList (List X)) → IsFresh found → KeysAreFound key size limit whole found
KeysAreFound-none {X} key size limit whole found fresh = record {
  front = ap (λ s. joined (map (λ f. f.0) s)) fresh.0 ∙ sym (ap (λ n. take n whole) fresh.1);
  within = subst (λ n. n ≤ length whole) (sym fresh.1) (none_le (length whole));
  each = subst (λ s. All (IsShard size limit) (map (λ f. f.0) s)) (sym fresh.0) (All-nil (IsShard size limit));
  inside = subst (All (λ f. IsAt (KeysLieIn key) f.0 f.1)) (sym fresh.0) (All-nil (λ f. IsAt (KeysLieIn key) f.0 f.1));
  ended = subst (λ s. AreEnded key size limit s (drop found.next whole)) (sym fresh.0) tt;
  order = subst (λ o. IfSome o (λ items. items ≡ whole)) (sym fresh.3) tt;
}

pub RangeIsFound-none : (range : Range) (found : ShardList Range) → IsFresh found → RangeIsFound range found
RangeIsFound-none range found fresh = record {
  part = subst (λ at. PartIsFound range at (shards_of found)) (sym fresh.2) (subst (λ s. PartIsFound range None (map (λ f. f.0) s)) (sym fresh.0) tt);
  inside = subst (All (λ f. IsAt RangeLiesIn f.0 f.1)) (sym fresh.0) (All-nil (λ f. IsAt RangeLiesIn f.0 f.1));
}
