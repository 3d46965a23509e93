use Rattle.std.proofs.Common.{refl, inr}
use Rattle.std.proofs.Math.Nat.{le_refl}
use Rattle.txn_multi.proofs.Lookings.{from_mid, unfound_learnt}
use Rattle.txn_history.specs.Turn.{turn_of, IfKept-all, IfKept-weaker}
use Rattle.txn_multi.proofs.Touchings.{not_starved}
use Rattle.txn_multi.proofs.cutting.Cutting.learn.Goals as goal

pub returns-clause-on : goal.returns-clause-on
returns-clause-on g c = from_mid g.P.Plan.meaning g.P.Shardable.IsPart g.P.Shardable.load g.P.Shardable.AreCut g.P.RegionPlan.most (λ h k. unfound_learnt c.args.call c.args.answer h c.in-Err.error c.requires.place k (rw c.query.ensures at c.in-Err.ensures.why)) refl (le_refl _) (c.refuse.ensures.on c.args.out.now)

pub returns-in-Ok-clause-client : goal.returns-in-Ok-clause-client
returns-in-Ok-clause-client g c = IfKept-all (turn_of c.look.result) (inr record { query = c.query.result.now; answer = c.args.answer; before = c.args.pd.now; behind = c.learn.new.self; looked = g.met.C.PdClient.looked_same _; learnt = c.in-Ok.ensures.changed; further = c.look.ensures.changed })

pub returns-clause-client : goal.returns-clause-client
returns-clause-client g c = IfKept-weaker (turn_of c.refuse.result) (λ n. inr record { query = c.query.result.now; answer = c.args.answer; before = c.args.pd.now; behind = c.learn.new.self; looked = g.met.C.PdClient.looked_same _; learnt = not_starved n c.in-Err.ensures.changed; further = g.met.C.PdClient.looked_same _ }) c.refuse.ensures.kept
