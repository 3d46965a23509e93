-- Want of memory in an error.
use Rattle.std.specs.Prelude.{Bool, true, false, ◌||◌}
use Rattle.txn_kv.specs.ErrorView.{ErrorView, ErrorViews}
use Rattle.txn_kv.specs.ErrorView.ErrorView.{plain, locks, region, undetermined, key, extracted, multiple, kv, text, pessimistic}
use Rattle.txn_kv.specs.ErrorView.ErrorViews.{none, more}
use Rattle.txn_kv.specs.declared.errors.Error.{Error}
use Rattle.txn_kv.specs.declared.errors.Error.TheVariants.{OutOfMemory}

abbrev pub is_memory : Error → Bool
is_memory OutOfMemory = true
is_memory _ = false

-- an error is want of memory, or holds it
abbrev mutual
  pub wants_memory : ErrorView → Bool
  wants_memory (plain error) = is_memory error
  wants_memory (locks found) = false
  wants_memory (region error) = false
  wants_memory (undetermined inner) = wants_memory inner
  wants_memory (key error) = false
  wants_memory (extracted errors) = some_want_memory errors
  wants_memory (multiple errors) = some_want_memory errors
  wants_memory (kv message) = false
  wants_memory (text message) = false
  wants_memory (pessimistic inner keys) = wants_memory inner

  pub some_want_memory : ErrorViews → Bool
  some_want_memory none = false
  some_want_memory (more error errors) = wants_memory error || some_want_memory errors
