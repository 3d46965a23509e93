-- What the event calls of a whole commit or rollback post adds up.
use Rattle.std.proofs.Common.{◌≡◌, ◌≤◌, ℕ, ◌+◌, ◌*◌, ◌-◌, Bool, true, false, List, [], ◌∷◌, Option, Some, None, refl, sym, ap, subst, arith, max, length}
use Rattle.std.proofs.Math.Nat.{add-mul, le_refl, le_trans, mul-le-mul_left}
use Rattle.std.proofs.lemmas.Bool.{false≢true}
use Rattle.std.proofs.lemmas.List.{length-map}
use Rattle.std.proofs.lemmas.List.Sums.{count_by-le-length, length-filter, sum_by-append, sum_by-cons}
use Rattle.std.specs.Prelude.{Result, ◌++◌, cond, count_by, filter, if◌then◌else◌, is_some, not, option_map}
use Rattle.txn_kv.specs.declared.errors.Error.{Error}
use Rattle.txn_kv.specs.declared.message.Mutation.{Mutation}
use Rattle.txn_kv.specs.declared.timestamp.Timestamp.{Timestamp}
use Rattle.txn_history.specs.Plan.{Key, key_eq}
use Rattle.txn_history.specs.Posted.{Errand, Posted}
use Rattle.txn_history.specs.Spends.{calls, is_call, sleeps, spare}
use Rattle.txn_history.specs.Turn.{Turn}
use Rattle.txn_history.specs.Turn.Turn.{Stopped, Waits, Ends}
use Rattle.txn_buffer.specs.Contents.{Contents, mutations}
use Rattle.txn_commit.specs.Ways.{Costs, IsOneEach, Ways}
use Rattle.txn_commit.specs.Counting.{rollback_costs}
use Rattle.txn_commit.specs.Parts.{locking_keys, locks, named_primary, parts_of, parts_under, secondary_keys}
use Rattle.txn_commit.specs.declared.commit_parts.CommitParts.{CommitParts}
use Rattle.txn_core.specs.Counting.{Follow, IsPushed, Runs, Step, TransactionPays, commit_price, errors, failures, locked, posted, posted_by, rested, rested_by, rollback_price, standing_after, transaction_width, weighed, work_bears, work_left, work_round, work_width}
use Rattle.txn_core.specs.Transaction.{GivesUp, Standing}
use Rattle.txn_core.specs.declared.txn_answer.TxnAnswer.{TxnAnswer}

-- One event more: P is what the later ones post, E and W are their errors and what their locks weigh.
add_step : (bad : Bool) (from to left left' round round' m v W E P W' E' P' : ℕ)
    → P' ≡ (to - from) + P → E' ≡ cond bad 1 0 + E → W' ≡ v + W
    → from ≤ to
    → to + left' ≤ from + left + spare bad false (round + m + v) + v
    → round' ≤ round
    → P ≤ left' + (E * (round' + (m + v) + W) + W)
    → P' ≤ left + (E' * (round + m + W') + W')
add_step true from to left left' round round' m v W E P W' E' P' p e x grown a b c =
    let one_more : E' ≡ 1 + E = e in
    let paid : to + left' ≤ from + left + (round + m + v) + v = a in
    let more : E * (round' + (m + v) + W) ≤ E * (round + m + W') = mul-le-mul_left E (omega arith) in
    let split : E' * (round + m + W') ≡ 1 * (round + m + W') + E * (round + m + W') = rw one_more (add-mul 1 E (round + m + W')) in
    omega arith
add_step false from to left left' round round' m v W E P W' E' P' p e x grown a b c =
    let as_many : E' ≡ 0 + E = e in
    let paid : to + left' ≤ from + left + 0 + v = a in
    let more : E * (round' + (m + v) + W) ≤ E * (round + m + W') = mul-le-mul_left E (omega arith) in
    let split : E' * (round + m + W') ≡ 0 * (round + m + W') + E * (round + m + W') = rw as_many (add-mul 0 E (round + m + W')) in
    omega arith

calls_grow : (from to : Posted) → IsPushed from to → calls from ≤ calls to
calls_grow from to (sends, e) =
    let pushed : calls to ≡ count_by is_call (from.sends ++ sends) = ap (λ (rs : List Errand). count_by is_call rs) e in
    let sum : count_by is_call (from.sends ++ sends) ≡ calls from + count_by is_call sends = sum_by-append (λ x. cond (is_call x) 1 0) from.sends sends in
    omega arith

-- the whole, behind its first call
add_first : (from to left round whole W E P P' : ℕ)
    → P' ≡ (to - from) + P → from ≤ to
    → to + left ≤ from + whole → round ≤ whole
    → P ≤ left + (E * (round + 0 + W) + W)
    → P' ≤ (1 + E) * (whole + W)
add_first from to left round whole W E P P' p grown a b c =
    let more : E * (round + 0 + W) ≤ E * (whole + W) = mul-le-mul_left E (omega arith) in
    let split : (1 + E) * (whole + W) ≡ 1 * (whole + W) + E * (whole + W) = add-mul 1 E (whole + W) in
    omega arith

add_rest : (fails : Bool) (from to v L F S L' F' S' : ℕ)
    → S' ≡ (to - from) + S → F' ≡ cond fails 1 0 + F → L' ≡ v + L
    → to ≤ from + spare fails false 1 + v
    → S ≤ F + L
    → S' ≤ F' + L'
add_rest true from to v L F S L' F' S' s f l a b = let g : F' ≡ 1 + F = f in let x : to ≤ from + 1 + v = a in omega arith
add_rest false from to v L F S L' F' S' s f l a b = let g : F' ≡ 0 + F = f in let x : to ≤ from + 0 + v = a in omega arith

module _ {P : Type 0} (w : Ways P) (costs : Costs) where
  -- what one call posts, also where it gives up, is paid from what is left
  pays : {was : ℕ → Type 0} {before round : ℕ → ℕ} {bad fails : Bool} {weight locked width : ℕ} (old new : Standing P) {from to : Posted} (turn : Turn (Result (TxnAnswer P) Error))
      → GivesUp old new turn
      → TransactionPays w costs was before round bad fails weight locked width new from to turn
      → (n m : ℕ) → 1 ≤ n → transaction_width w new ≤ n → was m
      → calls to + work_left w costs new.work n ≤ calls from + before n + spare bad false (round n + m + weight) + weight
  pays old new Stopped g p n m u t b =
      let gone : work_left w costs new.work n ≡ 0 = rw (g.stops refl) refl in
      let s = p.spends in
      let x = s.stopped n m u t b in
      omega arith
  pays old new Waits g p n m u t b = let s = p.spends in s.spends refl n m u t b
  pays old new (Ends v) g p n m u t b = let s = p.spends in s.spends refl n m u t b

  bears : {was : ℕ → Type 0} {before round : ℕ → ℕ} {bad fails : Bool} {weight locked width : ℕ} (old new : Standing P) {from to : Posted} (turn : Turn (Result (TxnAnswer P) Error))
      → GivesUp old new turn
      → TransactionPays w costs was before round bad fails weight locked width new from to turn
      → (m : ℕ) → was m → work_bears w new.work (m + weight)
  bears old new Stopped g p m b = rw (g.stops refl) tt
  bears old new Waits g p m b = let s = p.spends in s.bears refl m b
  bears old new (Ends v) g p m b = let s = p.spends in s.bears refl m b

  -- the greatest number of parts grows
  wider : (steps : List (Step P)) (t : Standing P) → Follow w costs t steps → transaction_width w t ≤ transaction_width w (standing_after t steps)
  wider [] t f = le_refl _
  wider (step ∷ steps) t (l, c, f) = le_trans first (wider steps step.new f)
    where
      first : transaction_width w t ≤ transaction_width w step.new
      first = subst (λ x. max x (work_width w t.work) ≤ transaction_width w step.new) l.1 (subst (λ x. max step.old.width (work_width w x) ≤ transaction_width w step.new) l.0 (let p = c.counts in let s = p.spends in s.wider))

  follow_pays : (steps : List (Step P)) (t : Standing P) (n m : ℕ) → 1 ≤ n → transaction_width w (standing_after t steps) ≤ n → work_bears w t.work m → Follow w costs t steps
      → posted steps ≤ work_left w costs t.work n + (errors steps * (work_round w costs t.work n + m + weighed steps) + weighed steps)
  follow_pays [] t n m u e b f = omega arith
  follow_pays (step ∷ steps) t n m u e b (l, c, f) =
      subst (λ x. posted (step ∷ steps) ≤ work_left w costs x n + (errors (step ∷ steps) * (work_round w costs x n + m + weighed (step ∷ steps)) + weighed (step ∷ steps))) l.0
      (add_step step.bad (calls step.from) (calls step.to) (work_left w costs step.old.work n) (work_left w costs step.new.work n) (work_round w costs step.old.work n) (work_round w costs step.new.work n) m step.weight (weighed steps) (errors steps) (posted steps) (weighed (step ∷ steps)) (errors (step ∷ steps)) (posted (step ∷ steps))
      (sum_by-cons (λ (x : Step P). posted_by x) step steps) (sum_by-cons (λ (x : Step P). cond x.bad 1 0) step steps) (sum_by-cons (λ (x : Step P). x.weight) step steps) (calls_grow step.from step.to c.pushed) one (let p = c.counts in p.fewer n)
      (follow_pays steps step.new n (m + step.weight) u e (bears step.old step.new step.turn c.gives_up c.counts m here) f))
    where
      here : work_bears w step.old.work m
      here = subst (λ x. work_bears w x m) (sym l.0) b

      one : calls step.to + work_left w costs step.new.work n ≤ calls step.from + work_left w costs step.old.work n + spare step.bad false (work_round w costs step.old.work n + m + step.weight) + step.weight
      one = pays step.old step.new step.turn c.gives_up c.counts n m u (le_trans (wider steps step.new f) e) here

  pub runs_pay : (whole : ℕ → ℕ) (first : Step P) (steps : List (Step P)) (n : ℕ) → Runs w costs whole first steps
      → 1 ≤ n → transaction_width w (standing_after first.new steps) ≤ n
      → posted (first ∷ steps) ≤ (1 + errors steps) * (whole n + weighed steps)
  runs_pay whole first steps n r u e =
      add_first (calls first.from) (calls first.to) (work_left w costs first.new.work n) (work_round w costs first.new.work n) (whole n) (weighed steps) (errors steps) (posted steps) (posted (first ∷ steps)) (sum_by-cons (λ (x : Step P). posted_by x) first steps) (calls_grow first.from first.to r.pushed) one (let p = r.begins in p.fewer n) rest
    where
      one : calls first.to + work_left w costs first.new.work n ≤ calls first.from + whole n
      one = let x : calls first.to + work_left w costs first.new.work n ≤ calls first.from + whole n + 0 + 0 = pays first.old first.new first.turn r.gives_up r.begins n 0 u (le_trans (wider steps first.new r.follow) e) tt in omega arith

      rest : posted steps ≤ work_left w costs first.new.work n + (errors steps * (work_round w costs first.new.work n + 0 + weighed steps) + weighed steps)
      rest = follow_pays steps first.new n 0 u e (bears first.old first.new first.turn r.gives_up r.begins 0 tt) r.follow

  follow_rests : (steps : List (Step P)) (t : Standing P) → Follow w costs t steps → rested steps ≤ failures steps + locked steps
  follow_rests [] t f = omega arith
  follow_rests (step ∷ steps) t (l, c, f) =
      add_rest step.fails (sleeps step.from) (sleeps step.to) step.locked (locked steps) (failures steps) (rested steps) (locked (step ∷ steps)) (failures (step ∷ steps)) (rested (step ∷ steps))
      (sum_by-cons (λ (x : Step P). rested_by x) step steps) (sum_by-cons (λ (x : Step P). cond x.fails 1 0) step steps) (sum_by-cons (λ (x : Step P). x.locked) step steps) (let p = c.counts in let s = p.spends in s.stopped_rests) (follow_rests steps step.new f)

  pub runs_rest : (whole : ℕ → ℕ) (first : Step P) (steps : List (Step P)) → Runs w costs whole first steps
      → rested (first ∷ steps) ≤ failures steps + locked steps
  runs_rest whole first steps r =
      let x = first_rests in
      let y = follow_rests steps first.new r.follow in
      let z : rested (first ∷ steps) ≡ (sleeps first.to - sleeps first.from) + rested steps = sum_by-cons (λ (x : Step P). rested_by x) first steps in
      omega arith
    where
      first_rests : sleeps first.to ≤ sleeps first.from + 0 + 0
      first_rests = let p = r.begins in let s = p.spends in s.stopped_rests

-- Where a plan posts no more than one request for each of its keys.

some_same : {X : Type 0} {a b : X} → Some a ≡ Some b → a ≡ b
some_same e = cc

parts_mutations : (contents : Contents) (parts : CommitParts) → parts_of contents ≡ Some parts → (parts.mutations ≡ mutations contents.entries) × (parts.secondaries ≡ secondary_keys parts.primary (mutations contents.entries))
parts_mutations contents parts e = by (named_primary contents (mutations contents.entries)) e
  where
    by : (named : Option Key) → option_map (parts_under contents) named ≡ Some parts → (parts.mutations ≡ mutations contents.entries) × (parts.secondaries ≡ secondary_keys parts.primary (mutations contents.entries))
    by None f = absurd (false≢true (ap is_some f))
    by (Some primary) f = let same : parts_under contents primary ≡ parts = some_same f in subst (λ (x : CommitParts). (x.mutations ≡ mutations contents.entries) × (x.secondaries ≡ secondary_keys x.primary (mutations contents.entries))) same (refl, refl)

filtered : {X : Type 0} (p : X → Bool) (xs : List X) → length (filter p xs) ≤ length xs
filtered p xs = rw (length-filter p xs) (count_by-le-length p xs)

few_secondaries : (primary : Key) (ms : List Mutation) → length (secondary_keys primary ms) ≤ length ms
few_secondaries primary ms =
    let same : length (locking_keys ms) ≡ length (filter locks ms) = length-map (filter locks ms) (λ (m : Mutation). m.key) in
    le_trans (filtered (λ key. not (key_eq key primary)) (locking_keys ms)) (subst (λ x. x ≤ length ms) (sym same) (filtered locks ms))

pub commit_price_le : (costs : Costs) (contents : Contents) (again : Option Timestamp) (n : ℕ) → IsOneEach costs → commit_price costs (parts_of contents) again n ≤ 2 * length (mutations contents.entries) + 9
commit_price_le costs contents again n one = by (parts_of contents) again refl
  where
    by : (parts : Option CommitParts) (again : Option Timestamp) → parts_of contents ≡ parts → commit_price costs parts again n ≤ 2 * length (mutations contents.entries) + 9
    by None again e = omega arith
    by (Some parts) None e =
        let same : length parts.mutations ≡ length (mutations contents.entries) = ap (λ ms. length ms) (parts_mutations contents parts e).0 in
        let p = one.prewrites (length parts.mutations) n in
        let q = one.commits 1 n in
        omega arith
    by (Some parts) (Some t) e = let q = one.commits 1 n in omega arith

pub rollback_price_le : (costs : Costs) (contents : Contents) (n : ℕ) → IsOneEach costs → rollback_price costs (parts_of contents) n ≤ 2 * length (mutations contents.entries) + 9
rollback_price_le costs contents n one = by (parts_of contents) refl
  where
    some : (parts : CommitParts) (b : Bool) → parts_of contents ≡ Some parts → (if b then rollback_costs costs parts else λ n. 0) n ≤ 2 * length (mutations contents.entries) + 9
    some parts false e = omega arith
    some parts true e =
        let few : length parts.secondaries ≤ length (mutations contents.entries) = rw (parts_mutations contents parts e).1 (few_secondaries parts.primary (mutations contents.entries)) in
        let p = one.rollbacks 1 n in
        let q = one.rollbacks (length parts.secondaries) n in
        omega arith

    by : (parts : Option CommitParts) → parts_of contents ≡ parts → rollback_price costs parts n ≤ 2 * length (mutations contents.entries) + 9
    by None e = omega arith
    by (Some parts) e = some parts parts.locks e

-- then the whole costs no more than this
pub plainly : (price bound W E x : ℕ) → price ≤ bound → x ≤ (1 + E) * (price + W) → x ≤ (1 + E) * (bound + W)
plainly price bound W E x l e = le_trans e (mul-le-mul_left (1 + E) (omega arith))
