use Rattle.std.proofs.Common.{refl, subst}
use Rattle.txn_history.specs.Turn.{turn_of}
use Rattle.txn_heartbeat.specs.Beats.{IsPlanForBeats}
use Rattle.txn_heartbeat.proofs.Beating.{alive_on, beats_on, is_beat, sends_beat, started_on}
use Rattle.txn_heartbeat.proofs.heartbeat_job.HeartbeatJob.beat.Goals as goal

pub go_on-requires-clause-alive : goal.go_on-requires-clause-alive
go_on-requires-clause-alive g c = alive_on g.H.Plan.meaning _ c.args.self.now.heartbeat c.start-turn.new.self c.start-turn.new.out (turn_of c.start-turn.result) refl refl c.requires.start
    (started_on g.H.Plan.meaning c.args.self.now.heartbeat c.args.now c.in_ok-plan.plan c.start-turn.new.self c.args.out.now c.start-turn.new.out c.args.pd.now c.start-turn.new.pd (turn_of c.start-turn.result)
    (subst (λ r. IsPlanForBeats g.H.Plan.meaning r c.in_ok-plan.plan) (is_beat c.args.self.now.heartbeat c.args.now c.ttl-ttl.result c.in_ok-primary.primary c.new_heart_beat_request-request.result c.new_heart_beat_request-request.ensures c.in_ok-primary.ensures c.ttl-ttl.ensures) c.in_ok-plan.ensures)
    c.start-turn.ensures)

pub returns-clause-beats : goal.returns-clause-beats
returns-clause-beats g c = beats_on c.go_on.result c.args.self.now.heartbeat c.go_on.new.out
    (started_on g.H.Plan.meaning c.args.self.now.heartbeat c.args.now c.in_ok-plan.plan c.start-turn.new.self c.args.out.now c.start-turn.new.out c.args.pd.now c.start-turn.new.pd (turn_of c.start-turn.result)
    (subst (λ r. IsPlanForBeats g.H.Plan.meaning r c.in_ok-plan.plan) (is_beat c.args.self.now.heartbeat c.args.now c.ttl-ttl.result c.in_ok-primary.primary c.new_heart_beat_request-request.result c.new_heart_beat_request-request.ensures c.in_ok-primary.ensures c.ttl-ttl.ensures) c.in_ok-plan.ensures)
    c.start-turn.ensures).beats
    c.go_on.ensures.beats

pub returns-clause-sends : goal.returns-clause-sends
returns-clause-sends g c = sends_beat g.H.Plan.meaning c.args.now c.args.self.now c.go_on.new.self c.in_ok-plan.plan c.start-turn.new.self c.args.out.now c.start-turn.new.out c.go_on.new.out c.args.pd.now c.start-turn.new.pd (turn_of c.start-turn.result) c.go_on.result _
    (subst (λ r. IsPlanForBeats g.H.Plan.meaning r c.in_ok-plan.plan) (is_beat c.args.self.now.heartbeat c.args.now c.ttl-ttl.result c.in_ok-primary.primary c.new_heart_beat_request-request.result c.new_heart_beat_request-request.ensures c.in_ok-primary.ensures c.ttl-ttl.ensures) c.in_ok-plan.ensures)
    c.start-turn.ensures c.go_on.ensures.goes
