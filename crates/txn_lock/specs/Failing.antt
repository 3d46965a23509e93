-- Why a request failed that goes to the regions of its keys.
use Rattle.std.specs.Prelude.{◌≡◌, ◌≢◌, ◌⊎◌, ℕ, true, List, [], Option, Some, None, Err}
use Rattle.txn_causes.specs.Heard.{heard_in}
use Rattle.txn_causes.specs.Spent.{IsSpent}
use Rattle.txn_history.specs.Event.{Event, Has}
use Rattle.txn_history.specs.Event.Event.{Took}
use Rattle.txn_history.specs.Faults.{is_loss}
use Rattle.txn_kv.specs.ErrorView.{listed, ErrorView}
use Rattle.txn_kv.specs.ErrorView.ErrorView.{multiple}
use Rattle.txn_kv.specs.declared.errors.Error.{Error}
use Rattle.txn_kv.specs.declared.errors.Error.TheVariants.{OutOfMemory}
use Rattle.txn_kv.specs.declared.message.RegionErr.{RegionErr}
use Rattle.txn_kv.specs.declared.region.RegionVerId.{RegionVerId}
use Rattle.txn_kv.specs.declared.reply.Reply.{Reply}
use Rattle.txn_kv.specs.declared.request.Request.{Request}
use Rattle.txn_kv.specs.declared.ticket.Ticket.{Ticket}
use Rattle.txn_multi.specs.Cutting.{IsLookUpRefused}
use Rattle.txn_multi.specs.Task.{IsEndAt}
use Rattle.txn_plan.specs.Dispatch.{IsReplied}
use Rattle.txn_retry.specs.Remedy.{on_region_error}

-- `is` says which requests are meant.

-- this reply to such a request was taken
pub record WasAnswered {R V : Type 0} (is : R → Type 0) (request_of : R → Request) (reply_of : V → Reply) (h : List Event) (answer : V) : Type 0 where
  pub ticket : Ticket
  pub request : R
  pub own : is request
  pub taken : Has h (Took ticket (request_of request) (reply_of answer))

-- Such a request was lost, or a reply of another kind was taken. A loss is told only once as many requests had failed as it has attempts.
pub record IsUnanswered {R V : Type 0} (is : R → Type 0) (request_of : R → Request) (reply_of : V → Reply) (attempts : ℕ) (h : List Event) (e : Error) : Type 0 where
  pub request : R
  pub own : is request
  pub given : IsReplied reply_of (request_of request) h (Err e)
  pub spent : is_loss e ≡ true → IsSpent (heard_in h) attempts

-- A reply to one has an error of its region, which left no way to go on: no attempt was left, or none was of use.
pub record IsRefusedAtRegion {R V : Type 0} (is : R → Type 0) (request_of : R → Request) (reply_of : V → Reply) (region : V → Option RegionErr) (attempts : ℕ) (h : List Event) (e : Error) : Type 0 where
  pub answer : V
  pub answered : WasAnswered is request_of reply_of h answer
  pub error : RegionErr
  pub found : region answer ≡ Some error
  pub used : RegionVerId
  pub delay : Option ℕ
  pub spent : delay ≡ None → IsSpent (heard_in h) attempts
  pub end : IsEndAt error (on_region_error delay error used).next e

-- a reply to one has errors at keys, which are seen so
pub record IsRefusedForKeys {R V : Type 0} (is : R → Type 0) (request_of : R → Request) (reply_of : V → Reply) (keys : V → List ErrorView) (h : List Event) (seen : ErrorView) : Type 0 where
  pub answer : V
  pub answered : WasAnswered is request_of reply_of h answer
  pub some : keys answer ≢ []
  pub all : seen ≡ multiple (listed (keys answer))

-- No reply that counts came to such requests: memory was wanting, a region or a store was not found, or a request failed.
abbrev pub HasNoReply : {R V : Type 0} → (R → Type 0) → (R → Request) → (V → Reply) → (V → Option RegionErr) → ℕ → List Event → Error → Type 0
HasNoReply is request_of reply_of region attempts h e =
    (e ≡ OutOfMemory) ⊎ (IsLookUpRefused h e ⊎ (IsUnanswered is request_of reply_of attempts h e ⊎ IsRefusedAtRegion is request_of reply_of region attempts h e))
