-- What the oracle gives an asker may be told to its call.
use Rattle.std.proofs.Common.{◌≡◌, ℕ, Bool, true, false, List, [], ◌∷◌, length, get_or, Option, Some, None, refl, sym, subst}
use Rattle.std.specs.List.{All}
use Rattle.std.specs.Prelude.{Result, Ok, Err, if◌then◌else◌}
use Rattle.std.proofs.lemmas.List.Elements.{All-cons, All-nil}
use Rattle.txn_history.specs.Arrivals.{IsTimeAnswer}
use Rattle.txn_history.specs.Faults.{is_loss}
use Rattle.txn_kv.specs.declared.errors.Error.{Error}
use Rattle.txn_kv.specs.declared.reply.cluster.TsoResponse.{TsoResponse}
use Rattle.txn_kv.specs.declared.timestamp.Timestamp.{Timestamp}
use Rattle.txn_tso.specs.Oracle.{Answer, HasVersionIfOk, Oracle, answer, answered, answers, askers_out, granted, granted_if, has_version, is_unlike}
use Rattle.txn_tso.specs.declared.asker.Asker.{Asker}

abbrev IsNoLoss : Result Timestamp Error → Type 0
IsNoLoss (Ok t) = Unit {0}
IsNoLoss (Err e) = is_loss e ≡ false

either : (b : Bool) (x y : Result Timestamp Error) → IsNoLoss x → IsNoLoss y → IsNoLoss (if b then x else y)
either true x y h k = h
either false x y h k = k

granted_no_loss : (stamp : Option Timestamp) (given asked behind : ℕ) → IsNoLoss (granted_if stamp given asked behind)
granted_no_loss None given asked behind = refl
granted_no_loss (Some last) given asked behind = either (has_version last) (granted last given asked behind) _ (either (is_unlike last given asked) _ _ refl tt) refl

all_no_loss : (reply : TsoResponse) (asked : ℕ) (askers : List Asker) → All (λ (a : Answer). IsNoLoss a.1) (answers reply asked askers)
all_no_loss reply asked [] = All-nil (λ (a : Answer). IsNoLoss a.1)
all_no_loss reply asked (a ∷ rest) = All-cons (λ (b : Answer). IsNoLoss b.1) (a, answer reply asked (length rest)) (answers reply asked rest) (granted_no_loss reply.timestamp reply.count asked (length rest)) (all_no_loss reply asked rest)

told : (a : Answer) → HasVersionIfOk a → IsNoLoss a.1 → IsTimeAnswer a.1
told (a, Ok t) h k = h
told (a, Err e) h k = k

abbrev pub MayBeTold : Answer → Type 0
MayBeTold a = IsTimeAnswer a.1

pub may_be_told : (reply : TsoResponse) (o : Oracle) (given : List Answer) → given ≡ answered reply o → All HasVersionIfOk given → All MayBeTold given
may_be_told reply o given e h k d l =
    told (get_or given k d) (h k d l) (subst (All (λ (b : Answer). IsNoLoss b.1)) (sym e) (all_no_loss reply (length (askers_out o)) (askers_out o)) k d l)
