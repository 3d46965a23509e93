-- What the open call of a transaction posts is counted as that of the transaction, and the events of a whole call add up.
use Rattle.std.proofs.Common.{◌≡◌, ◌≤◌, ℕ, Bool, true, false, Option, Some, refl, sym, ap, subst, ◌∙◌, arith, max}
use Rattle.std.proofs.Math.Nat.{le-max_left, le-max_right, le_refl, le_trans, max-le}
use Rattle.std.proofs.lemmas.Bool.{false≢true}
use Rattle.std.specs.Prelude.{Result, if◌then◌else◌, not}
use Rattle.txn_kv.specs.declared.errors.Error.{Error}
use Rattle.txn_kv.specs.declared.timestamp.Timestamp.{Timestamp}
use Rattle.txn_history.specs.Posted.{Posted}
use Rattle.txn_history.specs.Spends.{Spends}
use Rattle.txn_history.specs.Turn.{Turn, is_kept}
use Rattle.txn_history.specs.Turn.Turn.{Stopped}
use Rattle.txn_history.proofs.Counting.{Spends-quiet}
use Rattle.txn_commit.specs.Ways.{Costs, Ways}
use Rattle.txn_commit.specs.Counting.{Begins, CommitterCounts, Pays, call_width, rollback_costs, stage_bears, stage_left, stage_round}
use Rattle.txn_commit.specs.Following.{Commits}
use Rattle.txn_commit.specs.Parts.{parts_of}
use Rattle.txn_commit.specs.declared.commit_parts.CommitParts.{CommitParts}
use Rattle.txn_commit.specs.declared.committer.CommitterAnswer.{CommitterAnswer}
use Rattle.txn_commit.specs.declared.committer.CommitterCall.{CommitterCall}
use Rattle.txn_commit.proofs.Counting.{Spends-wider}
use Rattle.txn_core.specs.Counting.{IsOpenOrGone, Keeps, OpenCounts, TransactionBegins, TransactionCounts, TransactionPays, commit_price, rollback_price, transaction_width, work_bears, work_left, work_round, work_width}
use Rattle.txn_core.specs.Transaction.{Standing, is_open}
use Rattle.txn_core.specs.declared.status.Status.{Status}
use Rattle.txn_core.specs.declared.transaction.Work.{Work}
use Rattle.txn_core.specs.declared.transaction.Work.TheVariants.{Idle, Open, GaveUp}
use Rattle.txn_core.specs.declared.txn_answer.TxnAnswer.{TxnAnswer}

-- a call that gives up in the end, or leaves less
Spends-leaves : {was is is' : ℕ → Type 0} {before after after' round : ℕ → ℕ} {bad fails : Bool} {weight locked width width' : ℕ} {from to : Posted} {kept kept' failed : Bool}
    → (kept' ≡ true → kept ≡ true)
    → ((m : ℕ) → is m → is' m)
    → ((n : ℕ) → after' n ≤ after n)
    → Spends was is before after round bad fails weight locked width width' from to kept failed
    → Spends was is' before after' round bad fails weight locked width width' from to kept' failed
Spends-leaves k i a s = record {
  wider = s.wider;
  bears = λ e m o. i _ (s.bears (k e) m o);
  allowed = λ e. s.allowed (k e);
  spends = λ e n m u t o. let x = s.spends (k e) n m u t o in let y = a n in omega arith;
  stopped = s.stopped;
  rests = λ e. s.rests (k e);
  stopped_rests = s.stopped_rests;
}

pub is_locking : (b : Bool) → not b ≡ false → b ≡ true
is_locking true e = refl
is_locking false e = absurd (false≢true (sym e))

pub kept_of_ok : {A B : Type 0} (turn : Turn A) (inner : Turn B) → is_kept inner ≡ true → is_kept turn ≡ true → is_kept inner ≡ true
kept_of_ok turn inner e f = e

pub never_kept : {A B : Type 0} (turn : Turn A) (inner : Turn B) → turn ≡ Stopped → is_kept turn ≡ true → is_kept inner ≡ true
never_kept turn inner e f = absurd (false≢true (sym (ap is_kept e) ∙ f))

module _ {P : Type 0} (w : Ways P) where
  -- how a transaction keeps a call, and lets one go

  pub keeps_open : (call : CommitterCall P) (old new : Standing P) → new ≡ record old { work = Open call } → Keeps w call old new
  keeps_open call old new e = rw e (record { work = refl; width = le-max_right old.width (call_width w call); wider = le-max_left old.width (call_width w call) })

  closed_gone : (call : CommitterCall P) (work : Work P) → is_open work ≡ false → IsOpenOrGone call work
  closed_gone call Idle e = tt
  closed_gone call (Open now) e = absurd (false≢true (sym e))
  closed_gone call GaveUp e = tt

  pub lets_go : (call : CommitterCall P) (old new : Standing P) → is_open new.work ≡ false → new.width ≡ max old.width (call_width w call) → Keeps w call old new
  lets_go call old new e v = record {
    work = closed_gone call new.work e;
    width = le_trans (le-max_right old.width (call_width w call)) wide;
    wider = le_trans (le-max_left old.width (call_width w call)) wide;
  }
    where
      wide : max old.width (call_width w call) ≤ transaction_width w new
      wide = rw (← v) (le-max_left new.width (work_width w new.work))

module _ {P : Type 0} (w : Ways P) (costs : Costs) where
  keeps_left : (call : CommitterCall P) (work : Work P) → IsOpenOrGone call work → (n : ℕ) → work_left w costs work n ≤ stage_left w costs call.parts call.stage n
  keeps_left call Idle k n = omega arith
  keeps_left call (Open now) k n = rw k (le_refl _)
  keeps_left call GaveUp k n = omega arith

  keeps_round : (call : CommitterCall P) (work : Work P) → IsOpenOrGone call work → (n : ℕ) → work_round w costs work n ≤ stage_round w costs call.parts call.stage n
  keeps_round call Idle k n = omega arith
  keeps_round call (Open now) k n = rw k (le_refl _)
  keeps_round call GaveUp k n = omega arith

  keeps_bears : (call : CommitterCall P) (work : Work P) → IsOpenOrGone call work → (m : ℕ) → stage_bears w call.stage m → work_bears w work m
  keeps_bears call Idle k m b = tt
  keeps_bears call (Open now) k m b = rw k b
  keeps_bears call GaveUp k m b = tt

  -- the open call went on, and the transaction keeps it or lets it go
  call_pays : {was : ℕ → Type 0} {before round : ℕ → ℕ} {bad fails : Bool} {weight locked : ℕ} (call call' : CommitterCall P) (mid new : Standing P) (width : ℕ) {from to : Posted} {inner : Turn (Result CommitterAnswer Error)} {turn : Turn (Result (TxnAnswer P) Error)}
      → Keeps w call' mid new → width ≤ transaction_width w new
      → (is_kept turn ≡ true → is_kept inner ≡ true)
      → Pays w costs was before round bad fails weight locked call call' from to inner
      → TransactionPays w costs was before round bad fails weight locked width new from to turn
  call_pays call call' mid new width k v kept p = record {
    spends = Spends-wider v k.width (Spends-leaves kept (keeps_bears call' new.work k.work) (keeps_left call' new.work k.work) p.spends);
    fewer = λ n. le_trans (keeps_round call' new.work k.work n) (p.fewer n);
  }

  pub open_counts : {bad fails : Bool} {weight locked : ℕ} (call call' : CommitterCall P) (old mid new : Standing P) (d : Commits) {from to : Posted} {inner : Turn (Result CommitterAnswer Error)} {turn : Turn (Result (TxnAnswer P) Error)}
      → mid ≡ record old { commits = d } → Keeps w call' mid new
      → (is_kept turn ≡ true → is_kept inner ≡ true)
      → CommitterCounts w costs bad fails weight locked call call' from to inner
      → OpenCounts w costs call bad fails weight locked old new from to turn
  open_counts call call' old mid new d e k kept p = call_pays call call' mid new (max old.width (call_width w call)) k (max-le wider grown) kept p
    where
      wider : old.width ≤ transaction_width w new
      wider = subst (λ (x : Standing P). x.width ≤ transaction_width w new) e k.wider

      grown : call_width w call ≤ transaction_width w new
      grown = let s = p.spends in le_trans s.wider k.width

  closed_width : (work : Work P) → is_open work ≡ false → work_width w work ≡ 0
  closed_width Idle e = refl
  closed_width (Open call) e = absurd (false≢true (sym e))
  closed_width GaveUp e = refl

  closed_wider : (old : Standing P) (v : ℕ) → is_open old.work ≡ false → old.width ≤ v → transaction_width w old ≤ v
  closed_wider old v e l = max-le l (rw (closed_width old.work e) (omega arith))

  -- what a call costs is told by its parts

  pub commit_priced : (t : Option Timestamp) (call call' : CommitterCall P) (parts : CommitParts) {from to : Posted} {inner : Turn (Result CommitterAnswer Error)}
      → call.parts ≡ parts → Begins w costs (commit_price costs (Some call.parts) t) call call' from to inner → Begins w costs (commit_price costs (Some parts) t) call call' from to inner
  commit_priced t call call' parts {from} {to} {inner} e p = subst (λ x. Begins w costs (commit_price costs (Some x) t) call call' from to inner) e p

  pub rollback_priced : (call call' : CommitterCall P) (parts : CommitParts) {from to : Posted} {inner : Turn (Result CommitterAnswer Error)}
      → call.parts ≡ parts → Begins w costs (rollback_costs costs call.parts) call call' from to inner → Begins w costs (rollback_costs costs parts) call call' from to inner
  rollback_priced call call' parts {from} {to} {inner} e p = subst (λ x. Begins w costs (rollback_costs costs x) call call' from to inner) e p

  pub begin_counts : {whole : ℕ → ℕ} (call call' : CommitterCall P) (old mid new : Standing P) (d : Commits) {from to : Posted} {inner : Turn (Result CommitterAnswer Error)} {turn : Turn (Result (TxnAnswer P) Error)}
      → old.work ≡ GaveUp → mid ≡ record old { commits = d } → Keeps w call' mid new
      → (is_kept turn ≡ true → is_kept inner ≡ true)
      → Begins w costs whole call call' from to inner
      → TransactionBegins w costs whole old new from to turn
  begin_counts call call' old mid new d g e k kept p =
      call_pays call call' mid new (transaction_width w old) k (closed_wider old (transaction_width w new) (rw g refl) (subst (λ (x : Standing P). x.width ≤ transaction_width w new) e k.wider)) kept p

  closed_left : (work : Work P) → is_open work ≡ false → (n x : ℕ) → work_left w costs work n ≤ x
  closed_left Idle e n x = omega arith
  closed_left (Open call) e n x = absurd (false≢true (sym e))
  closed_left GaveUp e n x = omega arith

  closed_round : (work : Work P) → is_open work ≡ false → (n x : ℕ) → work_round w costs work n ≤ x
  closed_round Idle e n x = omega arith
  closed_round (Open call) e n x = absurd (false≢true (sym e))
  closed_round GaveUp e n x = omega arith

  closed_bears : (work : Work P) → is_open work ≡ false → (m : ℕ) → work_bears w work m
  closed_bears Idle e m = tt
  closed_bears (Open call) e m = absurd (false≢true (sym e))
  closed_bears GaveUp e m = tt

  -- no call is open, and nothing is posted
  pub rest_pays : {was : ℕ → Type 0} {before round : ℕ → ℕ} {bad fails : Bool} {weight locked : ℕ} (old new : Standing P) {o : Posted} {turn : Turn (Result (TxnAnswer P) Error)}
      → is_open old.work ≡ false → is_open new.work ≡ false → new.width ≡ old.width
      → TransactionPays w costs was before round bad fails weight locked (transaction_width w old) new o o turn
  rest_pays old new e f v = record {
    spends = Spends-wider (closed_wider old (transaction_width w new) e (rw (← v) (le-max_left new.width (work_width w new.work)))) (le_refl _)
        (Spends-quiet {width = transaction_width w new} (λ x. absurd (false≢true x)) (λ m x. closed_bears new.work f _) (λ n. closed_left new.work f n _));
    fewer = λ n. closed_round new.work f n _;
  }

  -- The transaction around its open call.

  pub tells_counts : {bad fails : Bool} {weight locked : ℕ} (call : CommitterCall P) (old mid new : Standing P) {from to : Posted} {turn : Turn (Result (TxnAnswer P) Error)}
      → old.work ≡ Open call → mid ≡ record old { work = GaveUp }
      → OpenCounts w costs call bad fails weight locked mid new from to turn
      → TransactionCounts w costs bad fails weight locked old new from to turn
  tells_counts {bad} {fails} {weight} {locked} call old mid new {from} {to} {turn} i e p =
      subst (λ x. TransactionPays w costs (work_bears w x) (work_left w costs x) (work_round w costs x) bad fails weight locked (max old.width (work_width w x)) new from to turn) (sym i)
      (subst (λ (x : Standing P). OpenCounts w costs call bad fails weight locked x new from to turn) e p)

  -- it stands as it did, but that no call is open
  begun_at : (whole : ℕ → ℕ) (old new : Standing P) (s : Status) {from to : Posted} {turn : Turn (Result (TxnAnswer P) Error)}
      → is_open old.work ≡ false
      → TransactionBegins w costs whole (record old { status = s; work = GaveUp }) new from to turn
      → TransactionBegins w costs whole old new from to turn
  begun_at whole old new s i p = record { spends = Spends-wider (closed_wider old (transaction_width w new) i (le_trans (le-max_left old.width 0) wider)) (le_refl _) p.spends; fewer = p.fewer }
    where
      wider : max old.width 0 ≤ transaction_width w new
      wider = let s = p.spends in s.wider

  pub commits_counts : (old mid new : Standing P) (parts : CommitParts) (s : Status) {from to : Posted} {turn : Turn (Result (TxnAnswer P) Error)}
      → is_open old.work ≡ false → mid ≡ record old { status = s; work = GaveUp } → parts_of mid.contents ≡ Some parts
      → TransactionBegins w costs (commit_price costs (Some parts) mid.commits.timestamp) mid new from to turn
      → TransactionBegins w costs (commit_price costs (parts_of old.contents) old.commits.timestamp) old new from to turn
  commits_counts old mid new parts s {from} {to} {turn} i e f p =
      let f' = subst (λ (x : Standing P). parts_of x.contents ≡ Some parts) e f in
      rw f' (begun_at (commit_price costs (Some parts) old.commits.timestamp) old new s i (subst (λ (x : Standing P). TransactionBegins w costs (commit_price costs (Some parts) x.commits.timestamp) x new from to turn) e p))

  pub goes_back_counts : (old mid new : Standing P) (parts : CommitParts) (s : Status) {from to : Posted} {turn : Turn (Result (TxnAnswer P) Error)}
      → is_open old.work ≡ false → mid ≡ record old { status = s; work = GaveUp } → parts_of mid.contents ≡ Some parts
      → TransactionBegins w costs (rollback_price costs (Some parts)) mid new from to turn
      → TransactionBegins w costs (rollback_price costs (parts_of old.contents)) old new from to turn
  goes_back_counts old mid new parts s {from} {to} {turn} i e f p =
      let f' = subst (λ (x : Standing P). parts_of x.contents ≡ Some parts) e f in
      rw f' (begun_at (rollback_price costs (Some parts)) old new s i (subst (λ (x : Standing P). TransactionBegins w costs (rollback_price costs (Some parts)) x new from to turn) e p))

  pub locks_price : (parts : CommitParts) (old new : Standing P) {from to : Posted} {turn : Turn (Result (TxnAnswer P) Error)} → parts.locks ≡ true
      → TransactionBegins w costs (rollback_costs costs parts) old new from to turn
      → TransactionBegins w costs (rollback_price costs (Some parts)) old new from to turn
  locks_price parts old new {from} {to} {turn} e p =
      subst (λ b. TransactionBegins w costs (if b then rollback_costs costs parts else λ n. 0) old new from to turn) (sym e) p
