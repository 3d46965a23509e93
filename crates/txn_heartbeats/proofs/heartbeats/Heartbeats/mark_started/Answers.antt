use Rattle.std.proofs.Common.{◌<◌, ◌≤◌, ◌-◌, length, refl, arith}
use Rattle.txn_heartbeats.proofs.Keeping.{beats_kept, jobs_kept, starts_set, transactions_kept}
use Rattle.txn_heartbeats.proofs.heartbeats.Heartbeats.mark_started.Goals as goal

pub returns-then-transaction-len-clause-beats : goal.returns-then-transaction-len-clause-beats
returns-then-transaction-len-clause-beats g c =
    let inside : c.args.transaction - 1 < length c.args.self.now.pulses.items = omega arith in
    beats_kept c.args.self.now (c.args.transaction - 1) _ c.index_mut.result.now inside c.index_mut.ensures.value refl

pub returns-then-transaction-len-clause-jobs : goal.returns-then-transaction-len-clause-jobs
returns-then-transaction-len-clause-jobs g c =
    let inside : c.args.transaction - 1 < length c.args.self.now.pulses.items = omega arith in
    jobs_kept c.args.self.now (c.args.transaction - 1) _ c.index_mut.result.now inside c.index_mut.ensures.value refl

pub returns-then-transaction-len-clause-starts : goal.returns-then-transaction-len-clause-starts
returns-then-transaction-len-clause-starts g c =
    let one : 1 ≤ c.args.transaction = omega arith in
    starts_set c.args.self.now c.args.transaction _ one refl

pub returns-then-transaction-len-clause-transactions : goal.returns-then-transaction-len-clause-transactions
returns-then-transaction-len-clause-transactions g c =
    let inside : c.args.transaction - 1 < length c.args.self.now.pulses.items = omega arith in
    transactions_kept c.args.self.now (c.args.transaction - 1) _ c.index_mut.result.now inside c.index_mut.ensures.value refl
