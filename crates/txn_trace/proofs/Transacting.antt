-- What a transaction may send has its licence in a run.
use Rattle.std.proofs.Common.{ℕ, Bool, List}
use Rattle.txn_kv.specs.declared.request.Request.{Request}
use Rattle.txn_commit.specs.Sending.{MaySend}
use Rattle.txn_commit.proofs.Licences.{sending_licensed}
use Rattle.txn_history.specs.Event.{Event}
use Rattle.txn_history.specs.Plan.{Plan}
use Rattle.txn_history.specs.Posted.{AreNumbered, Errand, Licensed, Licensed-weaker, after}
use Rattle.txn_law.specs.Run.{IsCovered, IsRun}
use Rattle.txn_law.proofs.Asking.{law_asked}
use Rattle.txn_trace.specs.Posting.{IsFreshFor}
use Rattle.txn_trace.proofs.Lines.{IsLicensedInRun, posting_runs}

abbrev pub MayTransact : (ℕ → Plan) → ℕ → List Event → Request → Type 0
MayTransact plans s k r = MaySend (plans s) s k r × IsCovered r

pub transacting : (plans : ℕ → Plan) (s : ℕ) (k : List Event) (r : Request) → MayTransact plans s k r → IsLicensedInRun plans k r
transacting plans s k r m run = (m.1, sending_licensed plans s k r (law_asked plans k run s) m.0)

pub transacting_runs : (plans : ℕ → Plan) (s line : ℕ) (beat : Bool) (h : List Event) (rs : List Errand) (n a n' a' : ℕ)
    → IsRun plans h → Licensed (MayTransact plans s) line beat h rs → AreNumbered n a rs n' a' → IsFreshFor line beat n a h → IsRun plans (after line beat h rs)
transacting_runs plans s line beat h rs n a n' a' run l =
    posting_runs plans line beat h rs n a n' a' run (Licensed-weaker {may = MayTransact plans s} {more = IsLicensedInRun plans} (transacting plans s) line beat h rs l)
