use Rattle.txn_core.proofs.Others.{idle_fits, others_fit, others_fit_still}
use Rattle.txn_core.proofs.laws.others_change_nothing.Goals as goal

pub returns-clause-others : goal.returns-clause-others
returns-clause-others g c t o p h longer l a f = others_fit g.P.Plans.ways g.met.P.Plans.lawful t o p h longer l a f

pub returns-clause-own_job : goal.returns-clause-own_job
returns-clause-own_job g c t parts o p h longer d e l a f = others_fit_still g.P.Plans.ways g.met.P.Plans.lawful t parts o p h longer d e l a f

pub returns-clause-idle : goal.returns-clause-idle
returns-clause-idle g c t o p h i f = idle_fits g.P.Plans.ways t o p h i f
