-- The views of errors that hold others: what is seen of each error through its variant.
use Rattle.std.specs.Prelude.{◌≡◌, ℕ, List, map, string_bytes}
use Rattle.std.proofs.Common.{ap, sym, ◌∙◌}
use Rattle.std.specs.Global.{Vec}
use Rattle.txn_kv.specs.declared.errors.Error.{Error}
use Rattle.txn_kv.specs.declared.errors.Error.TheFolds.{fold-roll-Error}
use Rattle.txn_kv.specs.declared.errors.Error.TheOpen as layer
use Rattle.txn_kv.specs.declared.errors.Error.TheVariants as errors
use Rattle.txn_kv.specs.declared.message.KeyError as message
use Rattle.txn_kv.specs.declared.message.LockInfo.{LockInfo}
use Rattle.txn_kv.specs.declared.message.RegionErr.{RegionErr}
use Rattle.txn_kv.specs.ErrorView.{ErrorView, view_of, view_step, listed, key, region, extracted, locks, multiple, kv, pessimistic}
use Rattle.txn_kv.specs.Errors.{IsKeyError, IsRegionError}

pub view-IsKeyError : (held : message.KeyError) (error : Error) → IsKeyError held error → view_of error ≡ key held
view-IsKeyError held (errors.KeyError boxed) is = ap view_of (sym (errors.rolls-KeyError boxed)) ∙ fold-roll-Error ErrorView view_step (layer.KeyError boxed) ∙ ap key is
view-IsKeyError held _ is = absurd is

pub view-IsRegionError : (held : RegionErr) (error : Error) → IsRegionError held error → view_of error ≡ region held
view-IsRegionError held (errors.RegionError boxed) is = ap view_of (sym (errors.rolls-RegionError boxed)) ∙ fold-roll-Error ErrorView view_step (layer.RegionError boxed) ∙ ap region is
view-IsRegionError held _ is = absurd is

pub view-KvError : (message : _) → view_of (errors.KvError message) ≡ kv (string_bytes message)
view-KvError message = ap view_of (sym (errors.rolls-KvError message)) ∙ fold-roll-Error ErrorView view_step (layer.KvError message)

pub view-ExtractedErrors : (found : Vec Error) → view_of (errors.ExtractedErrors found) ≡ extracted (listed (map view_of found.items))
view-ExtractedErrors found = ap view_of (sym (errors.rolls-ExtractedErrors found)) ∙ fold-roll-Error ErrorView view_step (layer.ExtractedErrors found)

pub view-MultipleKeyErrors : (found : Vec Error) → view_of (errors.MultipleKeyErrors found) ≡ multiple (listed (map view_of found.items))
view-MultipleKeyErrors found = ap view_of (sym (errors.rolls-MultipleKeyErrors found)) ∙ fold-roll-Error ErrorView view_step (layer.MultipleKeyErrors found)

pub view-ResolveLockError : (found : Vec LockInfo) → view_of (errors.ResolveLockError found) ≡ locks found.items
view-ResolveLockError found = ap view_of (sym (errors.rolls-ResolveLockError found)) ∙ fold-roll-Error ErrorView view_step (layer.ResolveLockError found)

pub view-PessimisticLockError : (inner : _) (keys : Vec (List ℕ)) → view_of (errors.PessimisticLockError inner keys) ≡ pessimistic (view_of inner.value) keys.items
view-PessimisticLockError inner keys = ap view_of (sym (errors.rolls-PessimisticLockError inner keys)) ∙ fold-roll-Error ErrorView view_step (layer.PessimisticLockError inner keys)
