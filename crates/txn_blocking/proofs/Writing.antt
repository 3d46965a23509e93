-- A write leaves the start of its transaction as it is.
use Rattle.std.proofs.Common.{Option, Some, None, sym, subst}
use Rattle.std.specs.Prelude.{Result}
use Rattle.txn_buffer.specs.Contents.{Contents}
use Rattle.txn_core.specs.Transaction.{Standing, WriteEnds}
use Rattle.txn_core.specs.declared.txn_answer.TxnAnswer.{TxnAnswer}
use Rattle.txn_history.specs.Turn.{Turn}
use Rattle.txn_history.specs.Turn.Turn.{Stopped, Waits, Ends}
use Rattle.txn_kv.specs.Timestamp.{HasVersion}
use Rattle.txn_kv.specs.declared.errors.Error.{Error}

pub start_stays : {P : Type 0} (refusal : Option Error) (wrote : Contents → Contents → Type 0) (old new : Standing P) (turn : Turn (Result (TxnAnswer P) Error)) → HasVersion old.start → WriteEnds refusal wrote old new turn → HasVersion new.start
start_stays refusal wrote old new Stopped h e = subst (λ (t : Standing _). HasVersion t.start) (sym e) h
start_stays refusal wrote old new Waits h e = absurd e
start_stays (Some x) wrote old new (Ends v) h e = subst (λ (t : Standing _). HasVersion t.start) (sym e.1) h
start_stays None wrote old new (Ends v) h e = subst (λ (t : Standing _). HasVersion t.start) (sym e.1) h
