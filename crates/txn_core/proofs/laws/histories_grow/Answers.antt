use Rattle.std.proofs.Common.{◌≡◌}
use Rattle.txn_commit.specs.Following.{CommitsPrimary}
use Rattle.txn_core.proofs.Others.{adds_event, adds_further, adds_no_primary, adds_same, adds_within}
use Rattle.txn_core.proofs.laws.histories_grow.Goals as goal

pub returns-clause-within : goal.returns-clause-within
returns-clause-within c s h longer a = adds_within (λ r. r.start_version ≡ s) h longer a

pub returns-clause-same : goal.returns-clause-same
returns-clause-same c s h = adds_same (λ r. r.start_version ≡ s) h

pub returns-clause-further : goal.returns-clause-further
returns-clause-further c s a b d m n = adds_further (λ r. r.start_version ≡ s) a b d m n

pub returns-clause-event : goal.returns-clause-event
returns-clause-event c = adds_event

pub returns-clause-primary : goal.returns-clause-primary
returns-clause-primary c = adds_no_primary

pub returns-clause-primary_within : goal.returns-clause-primary_within
returns-clause-primary_within c plan s h longer a = adds_within (CommitsPrimary plan s) h longer a

pub returns-clause-primary_further : goal.returns-clause-primary_further
returns-clause-primary_further c plan s a b d m n = adds_further (CommitsPrimary plan s) a b d m n
