use Rattle.txn_region.proofs.Apart.{disjoint_if_apart}
use Rattle.txn_region.proofs.Calling.{calls_in_order, calls_look_up}
use Rattle.txn_region.proofs.law.after_any_calls.Goals as goal

pub returns : goal.returns
returns c = record {
  regions = λ calls. (calls_in_order calls).same;
  disjoint = λ calls. disjoint_if_apart _ (calls_in_order calls).apart;
  look_up = λ calls key. calls_look_up calls key;
}
