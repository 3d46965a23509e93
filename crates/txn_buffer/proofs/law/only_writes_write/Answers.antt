use Rattle.txn_buffer.proofs.Untouched.{all_filled_leave, filled_leaves, locked_leaves, unlocked_leaves}
use Rattle.txn_buffer.proofs.law.only_writes_write.Goals as goal

pub returns : goal.returns
returns c = record {
  locked = λ contents key. locked_leaves contents key;
  unlocked = λ contents key. unlocked_leaves contents key;
  filled = λ contents key value. filled_leaves contents key value;
  all_filled = λ contents pairs. all_filled_leave contents pairs;
}
