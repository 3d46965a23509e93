-- What was added in steps was added.
use Rattle.std.proofs.Common.{◌++◌, ◌∙◌, List, ℕ, [], sym, ap, append_assoc}
use Rattle.std.proofs.lemmas.List.{append-nil}
use Rattle.txn_words.specs.GoesOn.{GoesOn}

pub nothing_added : (text : List ℕ) → GoesOn text text
nothing_added text = record { more = []; is = sym (append-nil text) }

pub further : (a b c : List ℕ) → GoesOn a b → GoesOn b c → GoesOn a c
further a b c one two = record {
  more = one.more ++ two.more;
  is = two.is ∙ ap (λ z. z ++ two.more) one.is ∙ append_assoc a one.more two.more;
}
