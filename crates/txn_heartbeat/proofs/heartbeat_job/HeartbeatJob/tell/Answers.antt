use Rattle.std.proofs.Common.{◌≡◌, inl, inr, refl, sym, ◌∙◌}
use Rattle.std.specs.Prelude.{OnOk}
use Rattle.txn_history.specs.Turn.{turn_of}
use Rattle.txn_heartbeat.specs.Beats.{TellsBeat}
use Rattle.txn_heartbeat.specs.declared.heartbeat_job.Stage.TheVariants as stages
use Rattle.txn_heartbeat.proofs.Beating.{alive_beating, alive_on, beats_on, of_its_plan, tells_beat, told_on}
use Rattle.txn_heartbeat.proofs.heartbeat_job.HeartbeatJob.tell.Goals as goal

pub go_on-requires-clause-alive : goal.go_on-requires-clause-alive
go_on-requires-clause-alive g c = alive_on g.H.Plan.meaning _ c.args.self.now.heartbeat c.tell-turn.new.self c.tell-turn.new.out (turn_of c.tell-turn.result) refl refl c.requires.alive.start (told_on g.H.Plan.meaning c.args.self.now.heartbeat c.args.arrival c.in-Beating.plan c.tell-turn.new.self c.args.out.now c.tell-turn.new.out c.args.pd.now c.tell-turn.new.pd (turn_of c.tell-turn.result) g.met.H.Plan.lawful
    (alive_beating g.H.Plan.meaning c.args.self.now c.in-Beating.plan c.args.out.now c.in-Beating.is c.requires.alive) c.tell-turn.ensures)

pub returns-in-Beating-clause-beats : goal.returns-in-Beating-clause-beats
returns-in-Beating-clause-beats g c = beats_on c.go_on.result c.args.self.now.heartbeat c.go_on.new.out (told_on g.H.Plan.meaning c.args.self.now.heartbeat c.args.arrival c.in-Beating.plan c.tell-turn.new.self c.args.out.now c.tell-turn.new.out c.args.pd.now c.tell-turn.new.pd (turn_of c.tell-turn.result) g.met.H.Plan.lawful
    (alive_beating g.H.Plan.meaning c.args.self.now c.in-Beating.plan c.args.out.now c.in-Beating.is c.requires.alive) c.tell-turn.ensures).beats c.go_on.ensures.beats

pub returns-in-Fresh-clause-ends : goal.returns-in-Fresh-clause-ends
returns-in-Fresh-clause-ends g c n e a b = absurd (elim c.in-Fresh.is [ inl f ↦ (let other : stages.Fresh ≡ stages.Sleeping n = sym f ∙ e in cc) | inr f ↦ (let other : stages.Over ≡ stages.Sleeping n = sym f ∙ e in cc) ])

pub returns-in-Beating-clause-tells : goal.returns-in-Beating-clause-tells
returns-in-Beating-clause-tells g c p e = of_its_plan (λ q. OnOk c.go_on.result (TellsBeat g.H.Plan.meaning c.args.arrival q c.args.self.now c.go_on.new.self c.args.out.now c.go_on.new.out (turn_of c.go_on.result))) c.args.self.now.stage c.in-Beating.plan p c.in-Beating.is e
    (tells_beat g.H.Plan.meaning c.args.arrival c.in-Beating.plan c.args.self.now c.go_on.new.self c.tell-turn.new.self c.args.out.now c.tell-turn.new.out c.go_on.new.out c.args.pd.now c.tell-turn.new.pd (turn_of c.tell-turn.result) c.go_on.result (turn_of c.go_on.result) c.tell-turn.ensures c.go_on.ensures.goes)
