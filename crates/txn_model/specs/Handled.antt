-- What a store makes of a request.
use Rattle.txn_kv.specs.declared.reply.Reply.{Reply}
use Rattle.txn_model.specs.Store.{Store}

pub record Handled : Type 0 where
  pub store : Store
  pub reply : Reply
