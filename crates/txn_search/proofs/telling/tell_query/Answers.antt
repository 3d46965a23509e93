use Rattle.std.proofs.Common.{false, true}
use Rattle.txn_history.specs.Meaning.{missed, replied, woken}
use Rattle.txn_history.specs.Posted.{ticket_of}
use Rattle.txn_history.specs.Turn.{turn_of}
use Rattle.txn_plan.proofs.LastPosted.{calls_none, goes_on, hears_if_asking, hears_if_resting}
use Rattle.txn_plan.proofs.LookingUp.{deaf_reply, deaf_waking, tells, tells_of, went, went_loss, went_reply, went_waking}
use Rattle.txn_search.proofs.telling.tell_query.Goals as goal
use Rattle.txn_tso.specs.Heeding.{hears_reply, hears_waking}
use Rattle.txn_tso.specs.Steps.{on_loss, on_waking, standing}

pub returns-in-Reply-clause-tells : goal.returns-in-Reply-clause-tells
returns-in-Reply-clause-tells c r =
    let n = c.in-Reply.number in
    let x = standing c.args.call.now c.args.client.now c.args.out.now in
    let y = standing c.take_reply.new.self c.take_reply.new.client c.take_reply.new.out in
    rw c.in-Reply.is (tells_of (replied (ticket_of c.args.out.now n) r c.in-Reply.reply) (hears_reply x.call.stage n) n r x y (turn_of c.take_reply.result) (λ h k. k) c.take_reply.ensures.job (deaf_reply x.call.stage n) (went (hears_reply x.call.stage n) x.call.query c.take_reply.ensures.step.0 (turn_of c.take_reply.result) x y c.take_reply.ensures.step.2 (went_reply x.call.stage n c.in-Reply.reply c.args.now x c.take_reply.ensures.step.0 c.take_reply.ensures.step.1)) (c.take_reply.ensures.moves r))

pub returns-in-Reply-clause-spends : goal.returns-in-Reply-clause-spends
returns-in-Reply-clause-spends c = rw c.in-Reply.is c.take_reply.ensures.spends

pub returns-in-Reply-clause-waits : goal.returns-in-Reply-clause-waits
returns-in-Reply-clause-waits c e =
    let n = c.in-Reply.number in
    let x = standing c.args.call.now c.args.client.now c.args.out.now in
    let y = standing c.take_reply.new.self c.take_reply.new.client c.take_reply.new.out in
    goes_on (hears_reply x.call.stage n) x y (turn_of c.take_reply.result) (hears_if_asking x.call.stage n (rw c.in-Reply.is at c.requires.waits))
    (went (hears_reply x.call.stage n) x.call.query c.take_reply.ensures.step.0 (turn_of c.take_reply.result) x y c.take_reply.ensures.step.2 (went_reply x.call.stage n c.in-Reply.reply c.args.now x c.take_reply.ensures.step.0 c.take_reply.ensures.step.1))
    (calls_none false x.call y.call x.out y.out (turn_of c.take_reply.result) c.requires.timeless c.take_reply.ensures.spends) c.take_reply.ensures.heeds e

pub returns-in-Lost-clause-tells : goal.returns-in-Lost-clause-tells
returns-in-Lost-clause-tells c r =
    let n = c.in-Lost.number in
    let x = standing c.args.call.now c.args.client.now c.args.out.now in
    let y = standing c.lost.new.self c.lost.new.client c.lost.new.out in
    rw c.in-Lost.is (tells_of (missed (ticket_of c.args.out.now n) r) (hears_reply x.call.stage n) n r x y (turn_of c.lost.result) (λ h k. k) c.lost.ensures.job (deaf_reply x.call.stage n) (went (hears_reply x.call.stage n) x.call.query (on_loss x.call.stage n c.args.now x) (turn_of c.lost.result) x y c.lost.ensures.step (went_loss x.call.stage n c.args.now x)) (c.lost.ensures.moves r))

pub returns-in-Lost-clause-spends : goal.returns-in-Lost-clause-spends
returns-in-Lost-clause-spends c = rw c.in-Lost.is c.lost.ensures.spends

pub returns-in-Lost-clause-waits : goal.returns-in-Lost-clause-waits
returns-in-Lost-clause-waits c e =
    let n = c.in-Lost.number in
    let x = standing c.args.call.now c.args.client.now c.args.out.now in
    let y = standing c.lost.new.self c.lost.new.client c.lost.new.out in
    goes_on (hears_reply x.call.stage n) x y (turn_of c.lost.result) (hears_if_asking x.call.stage n (rw c.in-Lost.is at c.requires.waits))
    (went (hears_reply x.call.stage n) x.call.query (on_loss x.call.stage n c.args.now x) (turn_of c.lost.result) x y c.lost.ensures.step (went_loss x.call.stage n c.args.now x))
    (calls_none true x.call y.call x.out y.out (turn_of c.lost.result) c.requires.timeless c.lost.ensures.spends) c.lost.ensures.heeds e

pub returns-in-Slept-clause-tells : goal.returns-in-Slept-clause-tells
returns-in-Slept-clause-tells c r =
    let n = c.in-Slept.number in
    let x = standing c.args.call.now c.args.client.now c.args.out.now in
    let y = standing c.slept.new.self c.slept.new.client c.slept.new.out in
    rw c.in-Slept.is (tells (woken (ticket_of c.args.out.now n)) (hears_waking x.call.stage n) x y (turn_of c.slept.result) c.slept.ensures.job (deaf_waking x.call.stage n) (went (hears_waking x.call.stage n) x.call.query (on_waking x.call.stage n c.args.now x) (turn_of c.slept.result) x y c.slept.ensures.step (went_waking x.call.stage n c.args.now x)) c.slept.ensures.moves)

pub returns-in-Slept-clause-spends : goal.returns-in-Slept-clause-spends
returns-in-Slept-clause-spends c = rw c.in-Slept.is c.slept.ensures.spends

pub returns-in-Slept-clause-waits : goal.returns-in-Slept-clause-waits
returns-in-Slept-clause-waits c e =
    let n = c.in-Slept.number in
    let x = standing c.args.call.now c.args.client.now c.args.out.now in
    let y = standing c.slept.new.self c.slept.new.client c.slept.new.out in
    goes_on (hears_waking x.call.stage n) x y (turn_of c.slept.result) (hears_if_resting x.call.stage n (rw c.in-Slept.is at c.requires.waits))
    (went (hears_waking x.call.stage n) x.call.query (on_waking x.call.stage n c.args.now x) (turn_of c.slept.result) x y c.slept.ensures.step (went_waking x.call.stage n c.args.now x))
    (calls_none false x.call y.call x.out y.out (turn_of c.slept.result) c.requires.timeless c.slept.ensures.spends) c.slept.ensures.heeds e
