use Rattle.std.proofs.Common.{subst, sym}
use Rattle.std.proofs.lemmas.Result.{IfOk-weaker}
use Rattle.std.specs.Prelude.{IfOk}
use Rattle.txn_history.specs.Arrivals.{MayArrive}
use Rattle.txn_heartbeats.specs.Started.{TellsJob}
use Rattle.txn_heartbeats.proofs.Started.{may_arrive, not_false}
use Rattle.txn_heartbeats.proofs.Stepping.{ok_five, told_beat, told_beside}
use Rattle.txn_heartbeats.proofs.heartbeats.side.HeartbeatsClientSide.tell.Goals as goal

pub returns-then-not-ticket-clause-step : goal.returns-then-not-ticket-clause-step
returns-then-not-ticket-clause-step g c = IfOk-weaker c.tell.result _ _ (λ turn. told_beside g.met.S.HeartHost.unbeaten g.S.ClientSide.fails c.args.ticket c.args.what c.args.self.now c.tell.new.self turn c.requires.ready) c.tell.ensures

pub tell_beat-requires-clause-arrives : goal.tell_beat-requires-clause-arrives
tell_beat-requires-clause-arrives g c = subst MayArrive (sym c.arrival_of.ensures) (may_arrive c.args.ticket.number c.args.what)

pub returns-clause-step : goal.returns-clause-step
returns-clause-step g c = ok_five c.tell_beat.result _ _ _ _
    (λ turn. told_beat g.met.S.HeartHost.unbeaten g.met.S.HeartHost.arises_beating g.S.ClientSide.arises_longer g.S.ClientSide.rests_longer g.S.ClientSide.fails c.args.ticket c.args.what c.args.self.now c.tell_beat.new.self turn (not_false c.args.ticket.beat c.if-not-ticket.false))
    c.tell_beat.ensures.stays c.tell_beat.ensures.ended c.tell_beat.ensures.beats c.tell_beat.ensures.dead c.tell_beat.ensures.ready

pub returns-clause-told : goal.returns-clause-told
returns-clause-told g c beat live =
    subst (λ a. IfOk c.tell_beat.result (TellsJob g.H.Plan.meaning g.S.HeartHost.status_at c.args.ticket.line a c.args.now c.args.self.now c.tell_beat.new.self)) c.arrival_of.ensures (c.tell_beat.ensures.told live)
