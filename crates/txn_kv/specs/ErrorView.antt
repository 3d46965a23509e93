-- An error with each vector and string read as its list: two errors that hold alike have one view.
use Rattle.std.specs.Prelude.{ℕ, List, [], ◌∷◌, string_bytes}
use Rattle.txn_kv.specs.declared.errors.Error.{Error}
use Rattle.txn_kv.specs.declared.errors.Error.TheFolds.{fold-Error}
use Rattle.txn_kv.specs.declared.errors.Error.TheOpen.{Error-F}
use Rattle.txn_kv.specs.declared.errors.Error.TheOpen as layer
use Rattle.txn_kv.specs.declared.errors.Error.TheVariants.{Unimplemented, DuplicateKeyInsertion, OperationAfterCommitError, OnePcFailure, NoPrimaryKey, GrpcAPI, RegionForKeyNotFound, RegionNotFoundInResponse, LeaderNotFound, InternalError, OutOfMemory}
use Rattle.txn_kv.specs.declared.message.KeyError as key_error
use Rattle.txn_kv.specs.declared.message.LockInfo.{LockInfo}
use Rattle.txn_kv.specs.declared.message.RegionErr.{RegionErr}

mutual
  pub data ErrorView : Type 0 where
    -- a variant that holds no vector and no string
    plain : Error → ErrorView
    locks : List LockInfo → ErrorView
    region : RegionErr → ErrorView
    undetermined : ErrorView → ErrorView
    key : key_error.KeyError → ErrorView
    extracted : ErrorViews → ErrorView
    multiple : ErrorViews → ErrorView
    kv : List ℕ → ErrorView
    text : List ℕ → ErrorView
    pessimistic : ErrorView → List (List ℕ) → ErrorView

  pub data ErrorViews : Type 0 where
    none : ErrorViews
    more : ErrorView → ErrorViews → ErrorViews

-- views in a list, as a view holds them
abbrev pub listed : List ErrorView → ErrorViews
listed [] = none
listed (view ∷ rest) = more view (listed rest)

-- One error, with the views of the errors that it holds in their places.
abbrev pub view_step : Error-F ErrorView → ErrorView
view_step (layer.ResolveLockError held) = locks held.items
view_step (layer.RegionError held) = region held.value
view_step (layer.UndeterminedError inner) = undetermined inner.value
view_step (layer.KeyError held) = key held.value
view_step (layer.ExtractedErrors held) = extracted (listed held.items)
view_step (layer.MultipleKeyErrors held) = multiple (listed held.items)
view_step (layer.KvError message) = kv (string_bytes message)
view_step (layer.StringError message) = text (string_bytes message)
view_step (layer.PessimisticLockError inner keys) = pessimistic inner.value keys.items
view_step layer.Unimplemented = plain Unimplemented
view_step layer.DuplicateKeyInsertion = plain DuplicateKeyInsertion
view_step layer.OperationAfterCommitError = plain OperationAfterCommitError
view_step layer.OnePcFailure = plain OnePcFailure
view_step layer.NoPrimaryKey = plain NoPrimaryKey
view_step layer.OutOfMemory = plain OutOfMemory
view_step (layer.GrpcAPI ticket) = plain (GrpcAPI ticket)
view_step (layer.RegionForKeyNotFound k) = plain (RegionForKeyNotFound k)
view_step (layer.RegionNotFoundInResponse id) = plain (RegionNotFoundInResponse id)
view_step (layer.LeaderNotFound id) = plain (LeaderNotFound id)
view_step (layer.InternalError what) = plain (InternalError what)

abbrev pub view_of : Error → ErrorView
view_of = fold-Error ErrorView view_step
