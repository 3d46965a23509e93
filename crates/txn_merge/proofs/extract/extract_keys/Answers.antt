use Rattle.txn_kv.specs.ErrorView.{region}
use Rattle.std.proofs.Common.{map}
use Rattle.txn_merge.proofs.Extracting.{keys_extracted}
use Rattle.txn_merge.proofs.extract.extract_keys.Goals as goal

pub returns-in-Some : goal.returns-in-Some
returns-in-Some g c =
    keys_extracted (g.T.HasKeyErrors.key_errors_in c.args.value) (map region (g.T.HasRegionErrors.region_errors_in c.args.value)) c.in_ok-errors.field-0 c.in-Some.errors c.in-Some.is c.in_ok-errors.ensures.found
