use Rattle.txn_merge.proofs.Extracting.{regions_extracted}
use Rattle.txn_merge.proofs.extract.extract_regions.Goals as goal

pub returns-in_ok-as_errors-in-Some : goal.returns-in_ok-as_errors-in-Some
returns-in_ok-as_errors-in-Some g c =
    regions_extracted (g.T.HasRegionErrors.region_errors_in c.args.value) c.in_ok-errors.field-0 c.in-Some.errors c.in_ok-as_errors-in-Some.field-0 c.in-Some.is c.in_ok-errors.ensures.found c.in_ok-as_errors-in-Some.ensures
