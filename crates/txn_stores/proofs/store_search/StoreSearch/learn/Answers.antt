use Rattle.txn_history.specs.Turn.{turn_of}
use Rattle.txn_stores.proofs.Searching.{found, refused}
use Rattle.txn_stores.proofs.store_search.StoreSearch.learn.Goals as goal

pub returns-in-Ok : goal.returns-in-Ok
returns-in-Ok g c = record { on = λ o. rw c.end.ensures.turn (found c.args.answer c.in-Ok.stores c.end.new.self o c.end.ensures.stage c.in-Ok.ensures) }

pub returns-in-Err : goal.returns-in-Err
returns-in-Err g c = record { on = λ o. refused c.args.answer c.in-Err.error c.refuse.new.self o (turn_of c.refuse.result) c.in-Err.ensures c.refuse.ensures }
