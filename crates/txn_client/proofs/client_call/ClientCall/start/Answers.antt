use Rattle.txn_history.proofs.Telling.{Tells-idle}
use Rattle.txn_client.specs.Calls.{called-lawful}
use Rattle.txn_client.proofs.Calls.{asks_only, counts_asks, goes_asks, goes_idle, ready_asks, tells_asks, unheard_only}
use Rattle.txn_client.proofs.client_call.ClientCall.start.Goals as goal

pub returns-then-not-is_fresh-clause-tells : goal.returns-then-not-is_fresh-clause-tells
returns-then-not-is_fresh-clause-tells g c = Tells-idle called-lawful (λ a heard w. heard) c.stay.ensures

pub returns-then-not-is_fresh-clause-goes : goal.returns-then-not-is_fresh-clause-goes
returns-then-not-is_fresh-clause-goes g c = goes_idle c.args.self.now c.args.out.now c.args.pd.now _ c.requires.ready c.if-not-is_fresh.ensures c.stay.ensures

pub returns-clause-tells : goal.returns-clause-tells
returns-clause-tells g c = tells_asks c.args.self.now c.ask.new.self c.args.out.now c.ask.new.out _ c.ask.ensures.asks

pub returns-clause-goes : goal.returns-clause-goes
returns-clause-goes g c = goes_asks c.args.self.now c.ask.new.self c.args.out.now c.ask.new.out _ _ _ c.if-not-is_fresh.ensures c.ask.ensures.asks

pub returns-clause-counts : goal.returns-clause-counts
returns-clause-counts g c = counts_asks c.args.self.now c.ask.new.self c.args.out.now c.ask.new.out _ c.if-not-is_fresh.ensures c.ask.ensures.asks

pub returns-clause-ready : goal.returns-clause-ready
returns-clause-ready g c = ready_asks c.args.self.now c.ask.new.self c.args.out.now c.ask.new.out _ c.ask.ensures.asks

pub returns-then-not-is_fresh-clause-answer : goal.returns-then-not-is_fresh-clause-answer
returns-then-not-is_fresh-clause-answer g c = unheard_only _ _ _ c.stay.ensures

pub returns-clause-answer : goal.returns-clause-answer
returns-clause-answer g c = asks_only _ c.args.self.now c.ask.new.self c.args.out.now c.ask.new.out _ c.ask.ensures.asks
