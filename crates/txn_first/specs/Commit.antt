-- A commit of a transaction that writes one key, by its stages: what it sends, and how it ends.
use Rattle.std.specs.Prelude.{ℕ, ◌^◌, ◌-◌, Bool, true, false, ◌&&◌, if◌then◌else◌, List, [], ◌∷◌, Option, Some, None, ℤ, pos, negsuc, nat_lt}
use Rattle.txn_kv.specs.Codec.{encoded}
use Rattle.txn_kv.specs.Timestamp.{version_of}
use Rattle.txn_kv.specs.declared.message.ApiVersion.TheVariants.{V1}
use Rattle.txn_kv.specs.declared.message.Op.TheVariants.{Put as Put_op}
use Rattle.txn_kv.specs.declared.message.Assertion.TheVariants.{None as No_assertion}
use Rattle.txn_kv.specs.declared.message.Region.{Region}
use Rattle.txn_kv.specs.declared.message.Peer.{Peer}
use Rattle.txn_kv.specs.declared.message.RegionErr.{RegionErr}
use Rattle.txn_kv.specs.declared.message.KeyError.{KeyError}
use Rattle.txn_kv.specs.declared.request.Request.{Request}
use Rattle.txn_kv.specs.declared.request.commits.PrewriteRequest.{PrewriteRequest}
use Rattle.txn_kv.specs.declared.request.commits.CommitRequest.{CommitRequest}
use Rattle.txn_kv.specs.declared.request.Request.TheVariants.{Prewrite, Commit, GetRegion, GetStore, Tso}
use Rattle.txn_kv.specs.declared.reply.Reply.{Reply}
use Rattle.txn_kv.specs.declared.reply.Reply.TheVariants.{Prewrite as Prewrote, Commit as Committed_reply, GetRegion as Got_region, GetStore as Got_store, Tso as Gave}
use Rattle.txn_kv.specs.declared.ticket.Target.{Target}
use Rattle.txn_kv.specs.declared.ticket.Target.TheVariants.{Store, Placement}
use Rattle.txn_kv.specs.declared.timestamp.Timestamp.{Timestamp}
use Rattle.txn_kv.specs.declared.errors.Error.TheVariants.{InternalError}
use Rattle.txn_kv.specs.declared.errors.Internal.TheVariants.{WrongReply}
use Rattle.txn_report.specs.declared.outcome.Outcome.{Outcome}
use Rattle.txn_report.specs.declared.outcome.Outcome.TheVariants.{Ok, Err}
use Rattle.txn_report.specs.declared.outcome.Payload.TheVariants.{Commit as Commit_payload}
use Rattle.txn_first.specs.declared.transaction.Transaction.{Transaction}
use Rattle.txn_first.specs.declared.transaction.Put.{Put}
use Rattle.txn_first.specs.declared.transaction.Place.{Place}
use Rattle.txn_first.specs.declared.transaction.CommitCall.{CommitCall}
use Rattle.txn_first.specs.declared.transaction.Stage.{Stage}
use Rattle.txn_first.specs.declared.transaction.Stage.TheVariants.{FindingRegion, FindingStore, Prewriting, Stamping, Committing}
use Rattle.txn_first.specs.declared.transaction.Status.TheVariants.{StartedCommit, Committed}
use Rattle.txn_first.specs.declared.transaction.Turn.{Turn}

-- the transaction afterwards, and what its call does
pub record Step : Type 0 where
  pub transaction : Transaction
  pub turn : Turn

abbrev pub at_stage : Transaction → ℕ → Stage → Transaction
at_stage t line stage = record t { call = Some (record { line = line; stage = stage }) }

abbrev pub sends : Transaction → Target → Request → Step
sends t to request = record { transaction = t; turn = record { send = Some (record { to = to; request = request }); outcome = None } }

abbrev pub ends : Transaction → Outcome → Step
ends t outcome = record { transaction = record t { call = None }; turn = record { send = None; outcome = Some outcome } }

-- a reply that the call has no use for
abbrev pub fails : Transaction → Step
fails t = ends t (Err (InternalError WrongReply))

-- what a commit line begins with
abbrev pub started : Transaction → ℕ → Step
started t line = by_put t.put
  where
    by_put : Option Put → Step
    by_put None = ends (record t { status = StartedCommit }) (Ok (Commit_payload None))
    by_put (Some p) = sends (at_stage (record t { status = StartedCommit }) line FindingRegion) Placement (GetRegion (record { region_key = encoded p.key }))

abbrev pub place_of : Region → Peer → Place
place_of region leader = record { context = record { region_id = region.id; region_epoch = region.region_epoch; peer = Some leader; api_version = V1 }; store = leader.store_id }

abbrev pub prewrite_request : ℕ → Put → Place → PrewriteRequest
prewrite_request start p place = record {
  context = Some place.context;
  mutations = record { op = Put_op; key = p.key; value = p.value; assertion = No_assertion } ∷ [];
  primary_lock = p.key;
  start_version = start;
  lock_ttl = 3000;
  txn_size = 2 ^ 64 - 1;
  for_update_ts = 0;
  is_pessimistic_lock = [];
  use_async_commit = false;
  try_one_pc = false;
  secondaries = [];
}

abbrev pub prewrite_of : ℕ → Put → Place → Request
prewrite_of start p place = Prewrite (prewrite_request start p place)

abbrev pub commit_request : ℕ → Put → Place → ℕ → CommitRequest
commit_request start p place commit = record { context = Some place.context; keys = p.key ∷ []; start_version = start; commit_version = commit }

abbrev pub commit_of : ℕ → Put → Place → ℕ → Request
commit_of start p place commit = Commit (commit_request start p place commit)

abbrev pub non_negative : ℤ → Bool
non_negative (pos n) = true
non_negative (negsuc n) = false

abbrev pub below : ℤ → ℕ → Bool
below (pos n) m = nat_lt n m
below (negsuc n) m = true

-- the version of a timestamp whose parts are in range
abbrev pub version_in : Option Timestamp → Option ℕ
version_in None = None
version_in (Some t) = if non_negative t.physical && below t.physical (2 ^ 46) && non_negative t.logical && below t.logical (2 ^ 18) then Some (version_of t) else None

-- what each stage does with a reply
abbrev pub found_region : Transaction → ℕ → Option Region → Option Peer → Step
found_region t line (Some region) (Some leader) = sends (at_stage t line (FindingStore (place_of region leader))) Placement (GetStore (record { store_id = leader.store_id }))
found_region t line (Some region) None = fails t
found_region t line None leader = fails t

abbrev pub found_store : Transaction → ℕ → Place → Option Put → Step
found_store t line place None = fails t
found_store t line place (Some p) = sends (at_stage t line (Prewriting place)) (Store place.store) (prewrite_of t.start p place)

abbrev pub prewrote : Transaction → ℕ → Place → Option RegionErr → List KeyError → Step
prewrote t line place None [] = sends (at_stage t line (Stamping place)) Placement (Tso (record { count = 1 }))
prewrote t line place None (e ∷ es) = fails t
prewrote t line place (Some r) es = fails t

abbrev pub stamped : Transaction → ℕ → Place → Option Put → Option ℕ → Step
stamped t line place None c = fails t
stamped t line place (Some p) None = fails t
stamped t line place (Some p) (Some c) = sends (at_stage t line (Committing place c)) (Store place.store) (commit_of t.start p place c)

abbrev pub committed : Transaction → ℕ → Option RegionErr → Option KeyError → Step
committed t c None None = ends (record t { status = Committed }) (Ok (Commit_payload (Some c)))
committed t c None (Some e) = fails t
committed t c (Some r) e = fails t

abbrev pub stage_turned : Transaction → ℕ → Stage → Reply → Step
stage_turned t line FindingRegion (Got_region r) = found_region t line r.region r.leader
stage_turned t line FindingRegion r = fails t
stage_turned t line (FindingStore place) (Got_store r) = found_store t line place t.put
stage_turned t line (FindingStore place) r = fails t
stage_turned t line (Prewriting place) (Prewrote r) = prewrote t line place r.region_error r.errors
stage_turned t line (Prewriting place) r = fails t
stage_turned t line (Stamping place) (Gave r) = stamped t line place t.put (version_in r.timestamp)
stage_turned t line (Stamping place) r = fails t
stage_turned t line (Committing place c) (Committed_reply r) = committed t c r.region_error r.error
stage_turned t line (Committing place c) r = fails t

-- what a reply does, if a commit is under way
abbrev pub turned : Transaction → Reply → Step
turned t reply = by_call t.call
  where
    by_call : Option CommitCall → Step
    by_call None = record { transaction = t; turn = record { send = None; outcome = None } }
    by_call (Some call) = stage_turned t call.line call.stage reply
