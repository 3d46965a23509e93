use Rattle.std.specs.Prelude.{Ok}
use Rattle.std.proofs.lemmas.Bool.{false≢true}
use Rattle.txn_settle.proofs.Searching.{ended, stopped}
use Rattle.txn_settle.proofs.key_search.KeySearch.look.Goals as goal

pub returns-in-Ok-Found-clause-on : goal.returns-in-Ok-Found-clause-on
returns-in-Ok-Found-clause-on g c = rw c.end.ensures.turn (ended g.T.Place.is_of (Ok c.in-Ok-Found.place) c.end.ensures.state (λ h k. rw c.in-Ok-Found.field-0-is at c.in-Ok-Found.ensures.look) (λ f. absurd (false≢true f)))

pub returns-in-Err-clause-on : goal.returns-in-Err-clause-on
returns-in-Err-clause-on g c = stopped g.T.Place.is_of c.requires.stopped

pub returns-in-Ok-Query-clause-changed : goal.returns-in-Ok-Query-clause-changed
returns-in-Ok-Query-clause-changed g c = g.met.C.PdClient.looked_on _ _ _ c.in-Ok-Query.ensures.changed c.ask.ensures.changed
