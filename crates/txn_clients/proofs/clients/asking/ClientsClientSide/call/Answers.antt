use Rattle.std.proofs.Common.{None, Some, sym}
use Rattle.txn_lines.specs.declared.client_act.ClientAct.TheVariants.{Begin, Timestamp}
use Rattle.txn_side.specs.Sight.{line_count}
use Rattle.txn_clients.specs.Clients.{sight_of}
use Rattle.txn_clients.proofs.Taking.{wants_optimistic, wants_time, wants_told, wants_untold}
use Rattle.txn_clients.proofs.Whole.{asked_nobody, asked_whole}
use Rattle.txn_clients.proofs.clients.asking.ClientsClientSide.call.Goals as goal

pub ask-requires-clause-wants : goal.ask-requires-clause-wants
ask-requires-clause-wants g c = wants_optimistic c.in_ok-call-in-Begin.call c.options_of.result c.in_ok-call-in-Begin.ensures.new.wants c.options_of.ensures.kind_is c.options_of.ensures.writes

pub returns-in_ok-ask-in-Begin : goal.returns-in_ok-ask-in-Begin
returns-in_ok-ask-in-Begin g c =
    let turn = c.in_ok-ask-in-Begin.ensures in
    let newest = line_count (sight_of c.args.self.now) in
    rw c.in-Begin.is (asked_whole g.P.Plans.ways c.args.self.now c.ask.new.self c.in_ok-ask-in-Begin.field-0 c.requires.ready turn.ready turn.alone turn.names
    c.args.client c.in-Some.client (Begin c.in-Begin.options) c.in-Some.ensures.client (sym c.in-Some.ensures.live) turn.turn (turn.steps None c.requires.ready tt (λ h b gives. tt) c.requires.ready.sound)
    (λ t called begins sound. turn.steps (Some t) c.requires.ready called (wants_told (Some t) newest c.in_ok-call-in-Begin.call c.in-Begin.options c.options_of.result c.in_ok-call-in-Begin.ensures.new.wants c.options_of.ensures begins) sound)
    turn.accounts turn.leads)

pub ask-requires-in-Timestamp-clause-wants : goal.ask-requires-in-Timestamp-clause-wants
ask-requires-in-Timestamp-clause-wants g c = wants_time c.in_ok-call-in-Timestamp.call c.in_ok-call-in-Timestamp.ensures.new.wants

pub returns-in_ok-ask-in-Timestamp : goal.returns-in_ok-ask-in-Timestamp
returns-in_ok-ask-in-Timestamp g c =
    let turn = c.in_ok-ask-in-Timestamp.ensures in
    let newest = line_count (sight_of c.args.self.now) in
    rw c.in-Timestamp.is (asked_whole g.P.Plans.ways c.args.self.now c.ask-in-Timestamp.new.self c.in_ok-ask-in-Timestamp.field-0 c.requires.ready turn.ready turn.alone turn.names
    c.args.client c.in-Some.client Timestamp c.in-Some.ensures.client (sym c.in-Some.ensures.live) turn.turn (turn.steps None c.requires.ready tt (λ h b gives. tt) c.requires.ready.sound)
    (λ t called begins sound. turn.steps (Some t) c.requires.ready called (wants_untold (Some t) newest c.in_ok-call-in-Timestamp.call c.in_ok-call-in-Timestamp.ensures.new.wants) sound) turn.accounts turn.leads)

pub returns-in-None : goal.returns-in-None
returns-in-None g c = asked_nobody g.P.Plans.ways c.args.self.now c.args.client c.args.act c.requires.ready (sym c.in-None.ensures.live)
