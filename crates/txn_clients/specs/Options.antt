-- The options of a transaction where the line that begins it says so.
use Rattle.std.specs.Prelude.{Bool, true, false}
use Rattle.txn_core.specs.Options.{AreDefault, no_backoff, usual_retries}
use Rattle.txn_core.specs.declared.options.TransactionKind.TheVariants.{Optimistic}
use Rattle.txn_core.specs.declared.options.TransactionOptions.{TransactionOptions}
use Rattle.txn_kv.specs.declared.backoff.Backoff.{Backoff}
use Rattle.txn_lines.specs.declared.begin_options.BeginOptions.{BeginOptions}
use Rattle.txn_merge.specs.declared.retry_options.RetryOptions.{RetryOptions}

abbrev pub backoff_unless : Bool → Backoff → Backoff
backoff_unless true usual = no_backoff
backoff_unless false usual = usual

-- how often it tries again
abbrev pub retries_of : BeginOptions → RetryOptions
retries_of told = record { region_backoff = backoff_unless told.no_regions usual_retries.region_backoff; lock_backoff = backoff_unless told.no_locks usual_retries.lock_backoff }

-- Those of an optimistic transaction, as usual; but a lock in its way ends a call where the line says so, and so does an error of a
-- region or a loss.
abbrev pub AreOptionsOf : BeginOptions → TransactionOptions → Type 0
AreOptionsOf told options = AreDefault Optimistic (retries_of told) options
