-- The text of an error in a report: the name of its variant, and what it holds.
use Rattle.std.specs.Prelude.{ℕ, List, [], ◌∷◌, ◌++◌, ◌==◌, length, codes, decimal, string_bytes, if◌then◌else◌}
use Rattle.std.specs.List.{flat_map}
use Rattle.txn_kv.specs.Spelling.{is_plain, hex}
use Rattle.txn_kv.specs.declared.errors.Error.{Error}
use Rattle.txn_kv.specs.declared.errors.Error.TheFolds.{fold-Error}
use Rattle.txn_kv.specs.declared.errors.Error.TheOpen.{Error-F}
use Rattle.txn_kv.specs.declared.errors.Error.TheOpen as layer
use Rattle.txn_kv.specs.declared.errors.Internal.{Internal}
use Rattle.txn_kv.specs.declared.errors.Internal.TheVariants as internals
use Rattle.txn_kv.specs.declared.message.KeyError.{KeyError}
use Rattle.txn_kv.specs.declared.message.KeyError.TheVariants as keys
use Rattle.txn_kv.specs.declared.message.LockInfo.{LockInfo}
use Rattle.txn_kv.specs.declared.message.RegionErr.{RegionErr}
use Rattle.txn_kv.specs.declared.message.RegionErr.TheVariants as regions
use Rattle.txn_kv.specs.declared.ticket.Ticket.{Ticket}

-- letters, digits and `_` as they are, any other in hexadecimal
abbrev pub text_of_bytes : List ℕ → List ℕ
text_of_bytes bytes = if is_plain bytes then bytes else codes "x:" ++ hex bytes

abbrev pub text_of_internal : Internal → List ℕ
text_of_internal (internals.BadEnd at) = codes "BadEnd"
text_of_internal (internals.BadPadding at) = codes "BadPadding"
text_of_internal (internals.ReversedRegion id) = codes "ReversedRegion"
text_of_internal (internals.NoEpoch id) = codes "NoEpoch"
text_of_internal internals.OracleLost = codes "OracleLost"
text_of_internal (internals.OracleCount asked given) = codes "OracleCount"
text_of_internal internals.OracleEmpty = codes "OracleEmpty"
text_of_internal internals.WrongReply = codes "WrongReply"
text_of_internal (internals.Shape expected given) = codes "Shape"
text_of_internal internals.OddStatus = codes "OddStatus"
text_of_internal (internals.UnlikeCache kept read) = codes "UnlikeCache"

abbrev pub text_of_region_err : RegionErr → List ℕ
text_of_region_err (regions.NotLeader id leader) = codes "NotLeader"
text_of_region_err (regions.RegionNotFound id) = codes "RegionNotFound"
text_of_region_err (regions.EpochNotMatch current) = codes "EpochNotMatch"
text_of_region_err regions.StoreNotMatch = codes "StoreNotMatch"
text_of_region_err regions.StaleCommand = codes "StaleCommand"
text_of_region_err regions.ServerIsBusy = codes "ServerIsBusy"
text_of_region_err regions.RaftEntryTooLarge = codes "RaftEntryTooLarge"
text_of_region_err regions.MaxTimestampNotSynced = codes "MaxTimestampNotSynced"
text_of_region_err regions.Unknown = codes "Unknown"

abbrev pub name_of_key_error : KeyError → List ℕ
name_of_key_error (keys.Locked lock) = codes "Locked"
name_of_key_error (keys.Abort key start commit) = codes "Abort"
name_of_key_error (keys.WriteConflict key start commit) = codes "WriteConflict"
name_of_key_error (keys.AlreadyExist key) = codes "AlreadyExist"
name_of_key_error (keys.PessimisticLockNotFound key) = codes "PessimisticLockNotFound"
name_of_key_error (keys.TxnLockNotFound key) = codes "TxnLockNotFound"
name_of_key_error (keys.CommitTsExpired key bound) = codes "CommitTsExpired"
name_of_key_error (keys.TxnNotFound key start) = codes "TxnNotFound"
name_of_key_error (keys.PrimaryMismatch lock) = codes "PrimaryMismatch"

-- the key at which a store refused
abbrev pub key_of_key_error : KeyError → List ℕ
key_of_key_error (keys.Locked lock) = lock.key
key_of_key_error (keys.Abort key start commit) = key
key_of_key_error (keys.WriteConflict key start commit) = key
key_of_key_error (keys.AlreadyExist key) = key
key_of_key_error (keys.PessimisticLockNotFound key) = key
key_of_key_error (keys.TxnLockNotFound key) = key
key_of_key_error (keys.CommitTsExpired key bound) = key
key_of_key_error (keys.TxnNotFound key start) = key
key_of_key_error (keys.PrimaryMismatch lock) = lock.key

abbrev pub text_of_key_error : KeyError → List ℕ
text_of_key_error error = name_of_key_error error ++ codes " " ++ text_of_bytes (key_of_key_error error)

-- the key and the start of a lock, with the spaces before them
abbrev pub text_of_lock_info : LockInfo → List ℕ
text_of_lock_info lock = codes " " ++ text_of_bytes lock.key ++ codes " " ++ decimal lock.lock_version

abbrev pub text_of_lock_infos : List LockInfo → List ℕ
text_of_lock_infos locks = decimal (length locks) ++ flat_map text_of_lock_info locks

abbrev pub text_of_ticket : Ticket → List ℕ
text_of_ticket ticket = decimal ticket.line ++ (if ticket.beat then codes ".h" else codes ".") ++ decimal ticket.number

-- what stands before the text of an error that follows this many
abbrev pub separator : ℕ → List ℕ
separator n = if n == 0 then [] else codes "; "

-- a text with the separator before it
abbrev pub after_separator : List ℕ → List ℕ
after_separator text = codes "; " ++ text

-- the texts with a separator between each and the next
abbrev pub joined : List (List ℕ) → List ℕ
joined [] = []
joined (text ∷ rest) = text ++ flat_map after_separator rest

-- One error, with the texts of the errors that it holds in their places.
abbrev pub error_step : Error-F (List ℕ) → List ℕ
error_step layer.Unimplemented = codes "Unimplemented"
error_step layer.DuplicateKeyInsertion = codes "DuplicateKeyInsertion"
error_step (layer.ResolveLockError held) = codes "ResolveLockError " ++ text_of_lock_infos held.items
error_step layer.OperationAfterCommitError = codes "OperationAfterCommitError"
error_step layer.OnePcFailure = codes "OnePcFailure"
error_step layer.NoPrimaryKey = codes "NoPrimaryKey"
error_step (layer.GrpcAPI ticket) = codes "GrpcAPI " ++ text_of_ticket ticket
error_step (layer.RegionError held) = codes "RegionError " ++ text_of_region_err held.value
error_step (layer.UndeterminedError inner) = codes "UndeterminedError [" ++ inner.value ++ codes "]"
error_step (layer.KeyError held) = codes "KeyError " ++ text_of_key_error held.value
error_step (layer.ExtractedErrors held) = codes "ExtractedErrors [" ++ joined held.items ++ codes "]"
error_step (layer.MultipleKeyErrors held) = codes "MultipleKeyErrors [" ++ joined held.items ++ codes "]"
error_step (layer.RegionForKeyNotFound key) = codes "RegionForKeyNotFound " ++ text_of_bytes key
error_step (layer.RegionNotFoundInResponse id) = codes "RegionNotFoundInResponse " ++ decimal id
error_step (layer.LeaderNotFound id) = codes "LeaderNotFound " ++ decimal id
error_step (layer.KvError message) = codes "KvError " ++ string_bytes message
error_step (layer.InternalError what) = codes "InternalError " ++ text_of_internal what
error_step (layer.StringError message) = codes "StringError " ++ string_bytes message
error_step (layer.PessimisticLockError inner keys) = codes "PessimisticLockError [" ++ inner.value ++ codes "]"
error_step layer.OutOfMemory = codes "OutOfMemory"

abbrev pub text_of_error : Error → List ℕ
text_of_error = fold-Error (List ℕ) error_step
