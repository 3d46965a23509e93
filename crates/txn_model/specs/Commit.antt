-- Commit: the locks of a start become commits.
use Rattle.std.specs.Prelude.{ℕ, ◌&&◌, if◌then◌else◌, List, [], ◌∷◌, Option, Some, None, is_some, nat_eq, nat_lt}
use Rattle.txn_kv.specs.declared.message.KeyError.{KeyError}
use Rattle.txn_kv.specs.declared.message.KeyError.TheVariants.{TxnLockNotFound, CommitTsExpired}
use Rattle.txn_kv.specs.declared.message.RegionErr.{RegionErr}
use Rattle.txn_kv.specs.declared.request.commits.CommitRequest.{CommitRequest}
use Rattle.txn_kv.specs.declared.reply.Reply.TheVariants.{Commit}
use Rattle.txn_model.specs.declared.cell.Cell.{Cell}
use Rattle.txn_model.specs.declared.cell.Lock.{Lock}
use Rattle.txn_model.specs.Cells.{cell_at, changed_at}
use Rattle.txn_model.specs.Locks.{is_prewrite, commit_of, with_commit, or_earlier}
use Rattle.txn_model.specs.Placement.{region_check}
use Rattle.txn_model.specs.Store.{Store}
use Rattle.txn_model.specs.Handled.{Handled}

-- no lock, so the start must have a commit
abbrev pub uncommitted : CommitRequest → List ℕ → Cell → Option KeyError
uncommitted r k c = if is_some (commit_of c.commits r.start_version) then None else Some (TxnLockNotFound k)

abbrev pub commit_conflict : CommitRequest → List ℕ → Cell → Option Lock → Option KeyError
commit_conflict r k c None = uncommitted r k c
commit_conflict r k c (Some l) = if nat_eq l.start r.start_version && is_prewrite l.kind then (if nat_lt r.commit_version l.min_commit then Some (CommitTsExpired k l.min_commit) else None) else uncommitted r k c

-- why a key can't be committed, at its cell
abbrev pub commit_error : CommitRequest → List ℕ → Cell → Option KeyError
commit_error r k c = commit_conflict r k c c.lock

-- the first error of the keys
abbrev pub first_commit_error : List Cell → CommitRequest → List (List ℕ) → Option KeyError
first_commit_error cs r [] = None
first_commit_error cs r (k ∷ ks) = or_earlier (commit_error r k (cell_at cs k)) (first_commit_error cs r ks)

abbrev pub commit_lock : ℕ → ℕ → Option Lock → Cell → Cell
commit_lock s n None c = c
commit_lock s n (Some l) c = if nat_eq l.start s && is_prewrite l.kind then record { key = c.key; lock = None; commits = with_commit (record { start = s; commit = n; kind = l.kind; value = l.value }) c.commits; rolled = c.rolled } else c

-- an own prewrite lock becomes a commit at n
abbrev pub committed : ℕ → ℕ → Cell → Cell
committed s n c = commit_lock s n c.lock c

abbrev pub commit_by : Option RegionErr → Option KeyError → Store → CommitRequest → Handled
commit_by (Some e) error st r = record { store = st; reply = Commit (record { region_error = Some e; error = None; commit_version = 0 }) }
commit_by None (Some e) st r = record { store = st; reply = Commit (record { region_error = None; error = Some e; commit_version = 0 }) }
commit_by None None st r = record {
  store = record st { cells = changed_at r.keys (committed r.start_version r.commit_version) st.cells };
  reply = Commit (record { region_error = None; error = None; commit_version = r.commit_version });
}

abbrev pub commit_row : Store → CommitRequest → Handled
commit_row st r = commit_by (region_check st.regions r.context) (first_commit_error st.cells r r.keys) st r
