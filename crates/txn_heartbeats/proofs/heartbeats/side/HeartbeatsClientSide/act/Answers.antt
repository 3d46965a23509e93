use Rattle.std.proofs.Common.{length, None, Some, subst, sym, ◌∙◌}
use Rattle.std.proofs.lemmas.Bool.{false≢true}
use Rattle.txn_side.specs.Sight.{Acts}
use Rattle.txn_heartbeats.specs.Hearts.{beats_of}
use Rattle.txn_heartbeats.proofs.Started.{begins_so}
use Rattle.txn_heartbeats.proofs.Stepping.{used_beside, used_started}
use Rattle.txn_heartbeats.proofs.heartbeats.side.HeartbeatsClientSide.act.Goals as goal

pub returns-in-None-clause-step : goal.returns-in-None-clause-step
returns-in-None-clause-step g c = used_beside g.met.S.HeartHost.unbeaten g.S.ClientSide.fails c.args.transaction c.args.act c.args.self.now c.act.new.self _ None c.in-None.is c.requires.ready c.in_ok-act.ensures

pub returns-then-not-commits-clause-step : goal.returns-then-not-commits-clause-step
returns-then-not-commits-clause-step g c = used_beside g.met.S.HeartHost.unbeaten g.S.ClientSide.fails c.args.transaction c.args.act c.args.self.now c.act.new.self _ (Some c.in-Some.turn) c.in-Some.is c.requires.ready c.in_ok-act.ensures

pub returns-in_ok-start_beat-in-Some-clause-step : goal.returns-in_ok-start_beat-in-Some-clause-step
returns-in_ok-start_beat-in-Some-clause-step g c =
    used_started g.met.S.HeartHost.unbeaten g.met.S.HeartHost.arises_beating g.S.ClientSide.rests_longer g.S.ClientSide.fails c.args.transaction c.args.act c.args.self.now c.start_beat.new.self c.act.new.self _ _ c.in-Some.turn c.start_beat.new.turn
    c.in-Some.is c.requires.ready.even c.requires.line c.in_ok-start_beat-in-Some.ensures.side c.in_ok-start_beat-in-Some.ensures.ended c.in_ok-start_beat-in-Some.ensures.beats c.in_ok-start_beat-in-Some.ensures.ready c.in_ok-act.ensures

pub returns-then-not-commits-clause-begins : goal.returns-then-not-commits-clause-begins
returns-then-not-commits-clause-begins g c is = absurd (false≢true (sym (sym c.is_commit-commits.ensures ∙ c.if-not-commits.true) ∙ is))

pub returns-in_ok-start_beat-in-Some-clause-begins : goal.returns-in_ok-start_beat-in-Some-clause-begins
returns-in_ok-start_beat-in-Some-clause-begins g c is =
    let sight = g.S.ClientSide.sight in
    begins_so c.start_beat.result _ c.in_ok-start_beat-in-Some.was (λ s before. Acts c.args.act c.args.transaction (sight c.args.self.now.side) (sight s) (Some before)) (λ s. g.S.HeartHost.heart s c.args.transaction) (length (beats_of c.args.self.now)) c.args.transaction c.args.self.now c.start_beat.new.self c.act.new.self c.in-Some.turn c.start_beat.new.turn
    c.in_ok-start_beat-in-Some.ensures.side (subst (Acts c.args.act c.args.transaction (sight c.args.self.now.side) (sight c.act.new.self)) c.in-Some.is c.in_ok-act.ensures.goes) c.in_ok-start_beat-in-Some.ensures.ended
    c.start_beat.ensures.once c.start_beat.ensures.starts
