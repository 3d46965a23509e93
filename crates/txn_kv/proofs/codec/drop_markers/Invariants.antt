use Rattle.std.proofs.Common.{◌≡◌, ℕ, ◌+◌, ◌/◌, ◌<◌, ◌≤◌, get_or, vec_len}
use Rattle.txn_kv.proofs.codec.drop_markers.Given as goal

abbrev pub invariant-loop-k : goal.invariant-loop-k
invariant-loop-k l = record {
  length : vec_len l.bytes ≡ vec_len l.initial.bytes;
  moved : (j : ℕ) → j < l.k → get_or l.bytes.items j 0 ≡ get_or l.initial.bytes.items (j + j / 8) 0;
  kept : (j : ℕ) → l.k ≤ j → get_or l.bytes.items j 0 ≡ get_or l.initial.bytes.items j 0;
}
