-- What is made ready for a rule does what the rule says.
use Rattle.std.proofs.Common.{◌≡◌, ℕ, Bool, true, false, not, ◌&&◌, if◌then◌else◌, List, [], ◌∷◌, map, Some, None, refl, sym, ap, ◌∙◌}
use Rattle.txn_model.specs.declared.cell.Cell.{Cell}
use Rattle.txn_model.specs.declared.change.Change.{Change}
use Rattle.txn_model.specs.declared.rule.Rule.{Rule}
use Rattle.txn_model.specs.declared.rule.Rule.TheVariants.{RollBack, RollBackMissing, Release, ReleaseUpTo, Stay}
use Rattle.txn_model.specs.Cells.{Key, cell_at, changed_at, key_eq, AreKept}
use Rattle.txn_model.specs.Changes.{made, made_by, all_made}
use Rattle.txn_model.specs.Locks.{owns, holds}
use Rattle.txn_model.specs.Rollback.{is_for_update_by}
use Rattle.txn_model.specs.Rules.{changed_by, change_of, rolling_back, unlocking, goes_if}
use Rattle.txn_kv.specs.declared.request.locks.CheckTxnStatusRequest.{CheckTxnStatusRequest}
use Rattle.txn_model.specs.Settle.{with_start, rolled_back, released}
use Rattle.txn_model.specs.Status.{is_missing, Finding, Mismatched, Expired, Live, IsCommitted, IsRolledBack, Nothing, goes_unrecorded, status_cell}
use Rattle.txn_model.specs.Statuses.{status_rule}
use Rattle.txn_model.proofs.Changing.{ready_is_changed, one_is_changed, keeps_made}
use Rattle.txn_model.proofs.CellLists.{KeepsKeys}

keyed : (rule : Rule) (k : Key) (c : Cell) → (change_of rule k c).key ≡ k
keyed (RollBack s) k c = refl
keyed (RollBackMissing s) k c = by (is_missing s c)
  where
    by : (b : Bool) → (if b then rolling_back s k c else unlocking false k).key ≡ k
    by true = refl
    by false = refl
keyed (Release s) k c = refl
keyed (ReleaseUpTo s f) k c = refl
keyed Stay k c = refl

rolls : (s : ℕ) (c : Cell) → made_by (rolling_back s c.key c) c ≡ rolled_back s c
rolls s c = by (holds c.lock s)
  where
    by : (b : Bool) → made (goes_if b) (Some (with_start s c.rolled)) c ≡ (let x : Cell = record { key = c.key; lock = if b then None else c.lock; commits = c.commits; rolled = with_start s c.rolled } in x)
    by true = refl
    by false = refl

pub makes : (rule : Rule) (c : Cell) → made_by (change_of rule c.key c) c ≡ changed_by rule c
makes (RollBack s) c = rolls s c
makes (RollBackMissing s) c = by (is_missing s c)
  where
    by : (b : Bool) → made_by (if b then rolling_back s c.key c else unlocking false c.key) c ≡ (if b then rolled_back s c else c)
    by true = rolls s c
    by false = refl
makes (Release s) c = by (owns c.lock s) (holds c.lock s)
  where
    by : (a b : Bool) → made (goes_if (b && not a)) None c ≡ (if a then c else record { key = c.key; lock = if b then None else c.lock; commits = c.commits; rolled = c.rolled })
    by true true = refl
    by true false = refl
    by false true = refl
    by false false = refl
makes (ReleaseUpTo s f) c = by (owns c.lock s) (holds c.lock s) (is_for_update_by f c.lock)
  where
    by : (a b u : Bool) → made (goes_if ((b && not a) && u)) None c ≡ (if u then (if a then c else record { key = c.key; lock = if b then None else c.lock; commits = c.commits; rolled = c.rolled }) else c)
    by true true true = refl
    by true true false = refl
    by true false true = refl
    by true false false = refl
    by false true true = refl
    by false true false = refl
    by false false true = refl
    by false false false = refl
makes Stay c = refl

pub rule_keeps_keys : (rule : Rule) → KeepsKeys (changed_by rule)
rule_keeps_keys rule = keeps_made (change_of rule) (changed_by rule) (keyed rule) (makes rule)

pub ruled : (rule : Rule) (ks : List Key) (cs ds : List Cell) → AreKept cs → AreKept ds → ((j : Key) → cell_at ds j ≡ all_made (map (λ k. change_of rule k (cell_at cs k)) ks) (cell_at cs j)) → ds ≡ changed_at ks (changed_by rule) cs
ruled rule = ready_is_changed (change_of rule) (changed_by rule) (keyed rule) (makes rule)

pub ruled_one : (rule : Rule) (k : Key) (x : Change) (cs ds : List Cell) → AreKept cs → AreKept ds → x ≡ change_of rule k (cell_at cs k) → ((j : Key) → cell_at ds j ≡ (if key_eq x.key j then made_by x (cell_at cs j) else cell_at cs j)) → ds ≡ changed_at (k ∷ []) (changed_by rule) cs
ruled_one rule = one_is_changed (change_of rule) (changed_by rule) (keyed rule) (makes rule)

-- what a check of a start does at its primary

status_same : (r : CheckTxnStatusRequest) (f : Finding) (c : Cell) → changed_by (status_rule r f) c ≡ status_cell r f c
status_same r (Mismatched l) c = refl
status_same r (Expired l) c = by (goes_unrecorded r l)
  where
    by : (b : Bool) → changed_by (if b then Release r.lock_ts else RollBack r.lock_ts) c ≡ (if b then released r.lock_ts c else rolled_back r.lock_ts c)
    by true = refl
    by false = refl
status_same r (Live l) c = refl
status_same r (IsCommitted w) c = refl
status_same r IsRolledBack c = refl
status_same r Nothing c = by (r.rollback_if_not_exist && not r.resolving_pessimistic_lock)
  where
    by : (b : Bool) → changed_by (if b then RollBack r.lock_ts else Stay) c ≡ (if b then rolled_back r.lock_ts c else c)
    by true = refl
    by false = refl

pub status_ruled : (r : CheckTxnStatusRequest) (f : Finding) (ks : List Key) (cs : List Cell) → changed_at ks (changed_by (status_rule r f)) cs ≡ changed_at ks (status_cell r f) cs
status_ruled r f ks cs = λ i. changed_at ks (λ c. status_same r f c i) cs

pub status_keeps_keys : (r : CheckTxnStatusRequest) (f : Finding) → KeepsKeys (status_cell r f)
status_keeps_keys r f c = ap (λ x. x.key) (sym (status_same r f c)) ∙ rule_keeps_keys (status_rule r f) c
