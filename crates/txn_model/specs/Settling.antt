-- What a ResolveLock makes ready: the locks that become commits, and what becomes of the others.
use Rattle.std.specs.Prelude.{Bool, ◌&&◌, if◌then◌else◌, List, [], ◌∷◌, ◌++◌, Option, Some, None, find, nat_eq, nat_lt}
use Rattle.txn_kv.specs.declared.message.TxnInfo.{TxnInfo}
use Rattle.txn_kv.specs.declared.request.locks.ResolveLockRequest.{ResolveLockRequest}
use Rattle.txn_model.specs.declared.cell.Cell.{Cell}
use Rattle.txn_model.specs.declared.cell.Lock.{Lock}
use Rattle.txn_model.specs.declared.change.Change.{Change}
use Rattle.txn_model.specs.declared.region.StoredRegion.{StoredRegion}
use Rattle.txn_model.specs.declared.unlock.Commitment.{Commitment}
use Rattle.txn_model.specs.Cells.{key_eq}
use Rattle.txn_model.specs.Commit.{committed}
use Rattle.txn_model.specs.Locks.{owns}
use Rattle.txn_model.specs.Resolve.{infos, settled, is_in_context}
use Rattle.txn_model.specs.Rules.{rolling_back, unlocking, holds_pessimistic}

-- a cell after all of the commitments that are of its key
abbrev pub all_committed : List Commitment → Cell → Cell
all_committed [] c = c
all_committed (x ∷ xs) c = all_committed xs (if key_eq x.key c.key then committed x.start x.commit c else c)

-- what is to become of the start that holds a lock
abbrev pub info_for : List TxnInfo → Option Lock → Option TxnInfo
info_for is None = None
info_for is (Some l) = find (λ i. nat_eq l.start i.txn) is

abbrev pub info_at : List StoredRegion → ResolveLockRequest → Cell → Option TxnInfo
info_at gs r c = if is_in_context gs r.context c.key then info_for (infos r) c.lock else None

abbrev pub becomes_commit : TxnInfo → Cell → Bool
becomes_commit i c = owns c.lock i.txn && nat_lt 0 i.status

abbrev pub commitment_by : Option TxnInfo → Cell → List Commitment
commitment_by None c = []
commitment_by (Some i) c = if becomes_commit i c then record { key = c.key; start = i.txn; commit = i.status } ∷ [] else []

abbrev pub settling : TxnInfo → Cell → Change
settling i c = if owns c.lock i.txn then rolling_back i.txn c.key c else unlocking (holds_pessimistic i.txn c) c.key

abbrev pub change_by : Option TxnInfo → Cell → List Change
change_by None c = []
change_by (Some i) c = if becomes_commit i c then [] else settling i c ∷ []

abbrev pub commitments : List StoredRegion → ResolveLockRequest → List Cell → List Commitment
commitments gs r [] = []
commitments gs r (c ∷ cs) = commitment_by (info_at gs r c) c ++ commitments gs r cs

abbrev pub changes : List StoredRegion → ResolveLockRequest → List Cell → List Change
changes gs r [] = []
changes gs r (c ∷ cs) = change_by (info_at gs r c) c ++ changes gs r cs

abbrev pub settled_by : Option TxnInfo → Cell → Cell
settled_by None c = c
settled_by (Some i) c = settled i c
