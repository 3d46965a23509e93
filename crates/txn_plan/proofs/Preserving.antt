-- A call of a plan that answers its reply beside its shard is one of the plan.
use Rattle.std.proofs.Common.{◌≡◌, Bool, true, ap, subst}
use Rattle.std.proofs.lemmas.Bool.{false≢true}
use Rattle.std.specs.Prelude.{Option, IsSome, Result, Ok, Err}
use Rattle.txn_kv.specs.declared.errors.Error.{Error}
use Rattle.txn_kv.specs.declared.errors.Error.TheVariants.{OutOfMemory}
use Rattle.txn_merge.specs.declared.response_with_shard.ResponseWithShard.{ResponseWithShard}
use Rattle.txn_history.specs.Around.{IsRead}
use Rattle.txn_history.specs.Meaning.{Meaning, Told}
use Rattle.txn_history.specs.Posted.{Posted}
use Rattle.txn_history.specs.Turn.{Turn}
use Rattle.txn_history.specs.Steps.{News, Steps}
use Rattle.txn_history.proofs.Stepping.{Steps-around}
use Rattle.txn_plan.specs.Preserved.{beside_fails, error_fails, preserved, IsPreserved}
use Rattle.txn_plan.specs.declared.preserve_shard.PreserveShard.{PreserveShard}

-- an answer that is tried again comes of a reply that is
same_error : {A : Type 0} (fails : Result A Error → Bool) (e : Error) → error_fails fails e ≡ true → fails (Err e) ≡ true
same_error fails OutOfMemory f = absurd (false≢true f)
same_error fails e f = f

fails_with : {A H : Type 0} (fails : Result A Error → Bool) (shard : Option H) (a : Result A Error) (b : Result (ResponseWithShard A H) Error) → IsPreserved shard a b → beside_fails fails b ≡ true → fails a ≡ true
fails_with fails shard (Ok v) (Ok r) p f = subst (λ v. fails (Ok v) ≡ true) p.0 f
fails_with fails shard (Ok v) (Err e) p f = absurd (false≢true (rw p at f))
fails_with fails shard (Err e) b p f = same_error fails e (rw p at f)

pub steps : {S A H C : Type 0} (m : Meaning S (Result A Error))
    {touches : Told → Posted → S → S → C → C → Type 0} {news : News} {old : PreserveShard S A H} {new : S} {from to : Posted} {pd pd' : C} {turn : Turn (Result A Error)} {turn' : Turn (Result (ResponseWithShard A H) Error)}
    → IsSome old.shard
    → IsRead (IsPreserved old.shard) turn turn'
    → Steps m touches news old.inner new from to pd pd' turn
    → Steps (preserved m) (λ told o s t x y. touches told o s.inner t.inner x y) news old (record old { inner = new }) from to pd pd' turn'
steps {S} m {touches = touches} {old = old} l i s = Steps-around m (λ s. s.inner) (λ s. IsPreserved s.shard) (λ s. IsSome s.shard) (beside_fails m.fails) touches (record {
  given = λ a b r. r;
  gave = λ a b r. r;
  same = ap (λ (s : S). record old { inner = s });
  passes = fails_with m.fails old.shard;
  called = l;
}) i s
