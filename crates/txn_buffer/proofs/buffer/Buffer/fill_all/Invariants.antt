use Rattle.std.proofs.Common.{◌≡◌}
use Rattle.txn_kv.specs.declared.errors.Error.{Error}
use Rattle.txn_buffer.specs.Reads.{AgreesAll, IsUnlikeOne, filled_all, pairs_of, unfilled_all}
use Rattle.txn_buffer.proofs.buffer.Buffer.fill_all.Given as goal

abbrev pub invariant-loop-pair : goal.invariant-loop-pair
invariant-loop-pair l = record {
  filled : filled_all l.self (pairs_of l.pair-iterator.rest.items) ≡ filled_all l.initial.self (pairs_of l.initial.pair-iterator.rest.items);
  undo : unfilled_all l.self l.keys.items ≡ l.initial.self;
  agrees : AgreesAll l.self (pairs_of l.pair-iterator.rest.items) → AgreesAll l.initial.self (pairs_of l.initial.pair-iterator.rest.items);
  why : (error : Error) → IsUnlikeOne l.self (pairs_of l.pair-iterator.rest.items) error → IsUnlikeOne l.initial.self (pairs_of l.initial.pair-iterator.rest.items) error;
}
