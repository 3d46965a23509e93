-- A transaction that puts one key.
use Rattle.std.specs.Prelude.{◌≡◌, ℕ, false, List, [], ◌∷◌, Some, None, if◌then◌else◌}
use Rattle.txn_kv.specs.declared.message.Mutation.{Mutation}
use Rattle.txn_kv.specs.declared.message.Op.TheVariants.{Put}
use Rattle.txn_history.specs.Plan.{Key, key_eq, Content, Plan}
use Rattle.txn_history.specs.Plan.Way.{TwoPhases}

abbrev pub put_of : List ℕ → Content
put_of v = record { op = Put; value = v }

-- it writes this value to this key, which is its primary, and commits in two phases
abbrev pub lone_plan : Key → List ℕ → Plan
lone_plan k v = record {
  primary = k;
  ops = λ q. if key_eq k q then Some Put else None;
  writes = λ q. if key_eq k q then Some (put_of v) else None;
  way = TwoPhases;
  one_phase = false;
}

-- the mutations are one put of the value to the key
pub record PutsAlone (ms : List Mutation) (k : Key) (v : List ℕ) : Type 0 where
  pub mutation : Mutation
  pub is : ms ≡ (mutation ∷ [])
  pub op : mutation.op ≡ Put
  pub key : mutation.key ≡ k
  pub value : mutation.value ≡ v
