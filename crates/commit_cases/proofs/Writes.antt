-- What a write leaves.
use Rattle.std.proofs.Common.{◌≡◌, Option, Some, None, sym, subst}
use Rattle.std.specs.Prelude.{Result}
use Rattle.txn_kv.specs.declared.errors.Error.{Error}
use Rattle.txn_history.specs.Posted.{HasNumbers, Posted}
use Rattle.txn_history.specs.Turn.{Turn}
use Rattle.txn_history.specs.Turn.Turn.{Stopped, Waits, Ends}
use Rattle.txn_buffer.specs.Contents.{Contents}
use Rattle.txn_commit.specs.Ways.{Ways}
use Rattle.txn_core.specs.Going.{TransactionReady}
use Rattle.txn_core.specs.Transaction.{Standing, WriteEnds}
use Rattle.txn_core.specs.declared.txn_answer.TxnAnswer.{TxnAnswer}

module _ {P : Type 0} (w : Ways P) where
  -- a transaction that was ready is so
  stays_ready : (refusal : Option Error) (wrote : Contents → Contents → Type 0) (old new : Standing P) (turn : Turn (Result (TxnAnswer P) Error))
      → WriteEnds refusal wrote old new turn → TransactionReady w old → TransactionReady w new
  stays_ready refusal wrote old new Stopped h ready = subst (TransactionReady w) (sym h) (record { start = ready.start; work = tt })
  stays_ready refusal wrote old new Waits h ready = absurd h
  stays_ready None wrote old new (Ends v) h ready = subst (TransactionReady w) (sym h.1) (record { start = ready.start; work = ready.work })
  stays_ready (Some e) wrote old new (Ends v) h ready = subst (TransactionReady w) (sym h.1) ready

  -- and its line is numbered as it was
  pub written : (refusal : Option Error) (wrote : Contents → Contents → Type 0) (old new : Standing P) (from to : Posted) (turn : Turn (Result (TxnAnswer P) Error))
      → WriteEnds refusal wrote old new turn → to ≡ from → TransactionReady w old × HasNumbers from → TransactionReady w new × HasNumbers to
  written refusal wrote old new from to turn ends quiet ready = (stays_ready refusal wrote old new turn ends ready.0, subst HasNumbers (sym quiet) ready.1)
