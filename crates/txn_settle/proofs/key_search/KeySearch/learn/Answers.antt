use Rattle.std.proofs.Common.{inr}
use Rattle.std.proofs.lemmas.Bool.{false≢true}
use Rattle.txn_history.specs.Turn.{turn_of, IfKept-all}
use Rattle.txn_plan.specs.Touch.{touch}
use Rattle.txn_settle.proofs.Searching.{from_less, refused, refused_learnt}
use Rattle.txn_settle.proofs.key_search.KeySearch.learn.Goals as goal

pub returns-in-Ok-clause-on : goal.returns-in-Ok-clause-on
returns-in-Ok-clause-on g c = from_less g.T.Place.is_of (λ h k. tt) (λ f. absurd (false≢true f)) c.look.ensures.on

pub returns-in-Ok-clause-client : goal.returns-in-Ok-clause-client
returns-in-Ok-clause-client g c = IfKept-all (turn_of c.look.result) (inr record { query = c.query.result.now; answer = c.args.answer; before = c.args.pd.now; behind = c.learn.new.self; looked = g.met.C.PdClient.looked_same _; learnt = c.in-Ok.ensures.changed; further = c.look.ensures.changed })

pub returns-clause-on : goal.returns-clause-on
returns-clause-on g c = refused g.T.Place.is_of c.args.call c.args.answer c.in-Err.error _ c.refuse.new.self c.args.out.now (turn_of c.refuse.result) c.requires.stopped c.requires.place (rw c.query.ensures at c.in-Err.ensures.why) c.refuse.ensures.refusal c.refuse.ensures.state

pub returns-clause-client : goal.returns-clause-client
returns-clause-client g c =
    refused_learnt g.T.Place.is_of (touch g.C.PdClient.looked g.C.PdClient.learns g.C.PdClient.leads g.C.PdClient.drops) c.query.result.now c.args.answer c.in-Err.error c.refuse.new.self.stage (turn_of c.refuse.result) (g.met.C.PdClient.looked_same _) (g.met.C.PdClient.looked_same _) c.refuse.ensures.refusal c.in-Err.ensures.changed
