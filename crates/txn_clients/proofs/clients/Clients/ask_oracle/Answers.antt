use Rattle.std.proofs.lemmas.Result.{on_ok_weaker}
use Rattle.txn_clients.proofs.Places.{crashed_kept}
use Rattle.txn_clients.proofs.Sending.{groups_kept}
use Rattle.txn_clients.proofs.Grouping.{asked_one}
use Rattle.std.proofs.Common.{false, refl}
use Rattle.txn_clients.proofs.clients.Clients.ask_oracle.Goals as goal

pub returns-clause-crashed : goal.returns-clause-crashed
returns-clause-crashed g c = on_ok_weaker c.ask.result (λ k. crashed_kept c.args.self.now.clients.items c.args.client c.ask.new.self c.index_mut.result.now c.requires c.index_mut.ensures.value k) c.ask.ensures.crashed

pub returns-clause-groups : goal.returns-clause-groups
returns-clause-groups g c = on_ok_weaker c.ask.result (λ k. groups_kept c.args.self.now.clients.items c.args.client c.ask.new.self c.index_mut.result.now c.requires c.index_mut.ensures.value k) c.ask.ensures.group

pub returns-clause-asks : goal.returns-clause-asks
returns-clause-asks g c = on_ok_weaker c.ask.result (λ k. asked_one c.args.self.now _ c.args.client (record { line = c.args.line; beat = false; ask = c.args.ask }) c.ask.new.self c.index_mut.result.now refl refl c.requires c.index_mut.ensures.value k) c.ask.ensures.book
