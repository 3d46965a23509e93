use Rattle.txn_stores.proofs.store_task.StoreTask.after_answer.Goals as goal

pub returns-in-Ok-clause-settles : goal.returns-in-Ok-clause-settles
returns-in-Ok-clause-settles g c = rw c.in-Ok.is (c.keep_reply.ensures.settles _ _)

pub returns-in-Err-clause-settles : goal.returns-in-Err-clause-settles
returns-in-Err-clause-settles g c = rw c.in-Err.is c.take_error.ensures.settles
