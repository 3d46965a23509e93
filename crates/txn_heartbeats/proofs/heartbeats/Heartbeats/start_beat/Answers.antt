use Rattle.std.proofs.Common.{◌≡◌, ◌∙◌, ◌-◌, Some, ap, arith, length, set, subst, sym}
use Rattle.std.proofs.lemmas.List.{length-map}
use Rattle.txn_heartbeats.specs.Beating.{IsLine}
use Rattle.txn_heartbeats.specs.Hearts.{beats_of}
use Rattle.txn_heartbeats.proofs.Living.{alive_emptied}
use Rattle.txn_heartbeats.proofs.Posting.{holds_so}
use Rattle.txn_heartbeats.proofs.Sides.{beaten_ready, ok_four}
use Rattle.txn_heartbeats.proofs.Started.{starts_lent}
use Rattle.txn_heartbeats.proofs.heartbeats.Heartbeats.start_beat.Goals as goal

pub returns-in_ok-start-in-Some-clause-ready : goal.returns-in_ok-start-in-Some-clause-ready
returns-in_ok-start-in-Some-clause-ready g c =
    let old = beats_of c.args.self.now in
    let long = length-map c.args.self.now.pulses.items (λ p. p.next) in
    let line = c.len-line.result in
    let own : IsLine old line = record { first = omega (arith, c.requires.line, long); last = omega (arith, long) } in
    ok_four c.post.result
    (λ timeless side beats jobs.
    let holds = holds_so c.new-job.result.heartbeat line old c.in_ok-out-in-Some.out c.start.new.out own c.in_ok-out-in-Some.ensures.outbox c.in_ok-start-in-Some.ensures.beats timeless in
    let whole = side ∙ c.keep.ensures.side ∙ c.mark_started.ensures.side in
    beaten_ready g.S.ClientSide.ready g.S.ClientSide.sight g.H.Plan.meaning c.args.self.now c.post.new.self line c.start.new.out.next c.start.new.self own
    (beats ∙ ap (λ bs. set bs (line - 1) c.start.new.out.next) (c.keep.ensures.beats ∙ c.mark_started.ensures.beats))
    (jobs ∙ c.keep.ensures.jobs ∙ ap (λ js. set js (line - 1) (Some c.start.new.self)) c.mark_started.ensures.jobs)
    (ap g.S.ClientSide.sight whole) (subst g.S.ClientSide.ready (sym whole) c.requires.ready.side)
    (alive_emptied g.H.Plan.meaning g.met.H.Plan.lawful c.start.new.self line c.start.new.out holds.line_is holds.beat holds.ask c.in_ok-start-in-Some.ensures.alive)
    c.requires.ready)
    c.post.ensures.timeless c.post.ensures.side c.post.ensures.beats c.post.ensures.jobs

pub returns-in_ok-start-in-Some-clause-starts : goal.returns-in_ok-start-in-Some-clause-starts
returns-in_ok-start-in-Some-clause-starts g c fresh =
    let old = beats_of c.args.self.now in
    let long = length-map c.args.self.now.pulses.items (λ p. p.next) in
    let line = c.len-line.result in
    let last : line ≡ length old = omega (arith, long) in
    ok_four c.post.result
    (λ posted jobs transactions starts.
    starts_lent (g.S.HeartHost.heart c.args.self.now.side c.args.transaction) line (length old) c.args.transaction c.in-Some.heartbeat c.args.self.now c.post.new.self c.args.turn.now c.post.new.turn c.new-job.result c.start.new.self c.in_ok-out-in-Some.out c.start.new.out _
    last (subst (g.S.HeartHost.heart c.args.self.now.side c.args.transaction) c.in-Some.is c.in_ok-heartbeat.ensures.heart) c.new-job.ensures.heartbeat c.start.ensures.kept c.in_ok-out-in-Some.ensures.outbox (c.in_ok-start-in-Some.ensures.sleeps c.new-job.ensures.stage)
    posted
    (jobs ∙ c.keep.ensures.jobs ∙ ap (λ js. set js (line - 1) (Some c.start.new.self)) c.mark_started.ensures.jobs)
    (transactions ∙ c.keep.ensures.transactions ∙ ap (λ ns. set ns (line - 1) c.args.transaction) c.mark_started.ensures.transactions)
    (starts ∙ c.keep.ensures.starts ∙ c.mark_started.ensures.starts))
    c.post.ensures.posted c.post.ensures.jobs c.post.ensures.transactions c.post.ensures.starts
