-- How often a task was tried: each attempt of its backoff was for a request that had failed.
use Rattle.std.proofs.Common.{◌≡◌, inl, inr, ℕ, ◌+◌, ◌-◌, ◌<◌, ◌≤◌, Bool, true, false, List, ◌++◌, suc, refl, sym, ap, subst, ◌∙◌, arith}
use Rattle.std.proofs.Math.Nat.{le_refl, le_trans}
use Rattle.std.proofs.lemmas.Bool.{cases_lt, false≢true, leb-true}
use Rattle.std.specs.Prelude.{if◌then◌else◌, Some, None}
use Rattle.txn_causes.specs.Heard.{heard_in, heard_longer}
use Rattle.txn_causes.specs.Spent.{failed_below_fewer, failed_below_more, failed_below_one_more, failed_below_wider, HasFailedAt, HaveFailedBelow, IsSpent}
use Rattle.txn_history.specs.Event.{Event}
use Rattle.txn_history.specs.Later.{IsLater}
use Rattle.txn_history.specs.Meaning.{Expects, IsLawful, Meaning}
use Rattle.txn_history.specs.Moves.{Moves}
use Rattle.txn_history.specs.Phase.{unheard, Awaited, IsPosted, Phase}
use Rattle.txn_history.specs.Phase.Awaited.{ReplyTo}
use Rattle.txn_history.specs.Phase.Phase.{Running}
use Rattle.txn_history.specs.Posted.{ticket_of, AreNumbered, Errand, Posted, Within, Within-after}
use Rattle.txn_history.specs.Turn.{IfKept-weaker, Turn}
use Rattle.txn_history.specs.Turn.Turn.{Ends, Waits}
use Rattle.txn_kv.specs.Backoff.{after_attempt, is_spent}
use Rattle.txn_kv.specs.declared.backoff.Backoff.{Backoff}
use Rattle.txn_kv.specs.declared.request.Request.{Request}
use Rattle.txn_multi.specs.Task.{HaveFailedBefore, HaveFailedBy}
use Rattle.txn_history.specs.Arrivals.{awaited_as, tells_failure, told_by}
use Rattle.txn_kv.specs.declared.arrival.Arrival.{Arrival}
use Rattle.txn_kv.specs.declared.arrival.Arrival.TheVariants as arrival
use Rattle.txn_retry.specs.Remedy.{after, delay_ms}
use Rattle.txn_tasks.proofs.Posting.{posted_from}
use Rattle.txn_tasks.proofs.Telling.{since}

-- An attempt.

-- it changes nothing of how many there may be
pub limit_after : (b : Backoff) (before : ℕ) → (after b).max_attempts - before ≡ b.max_attempts - before
limit_after b before = by (is_spent b)
  where
    by : (spent : Bool) → (if spent then b else after_attempt b 0).max_attempts - before ≡ b.max_attempts - before
    by true = refl
    by false = refl

pub same_limit : (b new : Backoff) (before : ℕ) → new ≡ after b → new.max_attempts - before ≡ b.max_attempts - before
same_limit b new before e = ap (λ (x : Backoff). x.max_attempts - before) e ∙ limit_after b before

one_attempt : (b : Backoff) → (after b).current_attempts ≤ b.current_attempts + 1
one_attempt b = by (is_spent b)
  where
    by : (spent : Bool) → (if spent then b else after_attempt b 0).current_attempts ≤ b.current_attempts + 1
    by true = omega arith
    by false = le_refl _

none_left : (b : Backoff) → delay_ms b ≡ None → b.max_attempts ≤ b.current_attempts
none_left b e = by (is_spent b) _ refl e
  where
    by : (spent : Bool) (ms : ℕ) → is_spent b ≡ spent → (if spent then None else Some ms) ≡ None → b.max_attempts ≤ b.current_attempts
    by true ms is e = leb-true b.max_attempts b.current_attempts is
    by false ms is e = cc

-- a failure is counted
pub counted : (b : Backoff) (before : ℕ) (o : Posted) (h : List Event) → HaveFailedBy (suc (b.current_attempts - before)) o h → HaveFailedBy ((after b).current_attempts - before) o h
counted b before o h f = failed_below_fewer (heard_in h) o.line o.beat o.next ((after b).current_attempts - before) (suc (b.current_attempts - before)) (let one = one_attempt b in omega arith) f

-- a failure where no attempt is left
pub is_over : (b : Backoff) (before : ℕ) (o : Posted) (h : List Event) → delay_ms b ≡ None → HaveFailedBy (suc (b.current_attempts - before)) o h → IsSpent (heard_in h) (b.max_attempts - before)
is_over b before o h e f =
    let spent = none_left b e in
    (o.line, o.beat, o.next, failed_below_fewer (heard_in h) o.line o.beat o.next (suc (b.max_attempts - before)) (suc (b.current_attempts - before)) (omega arith) f)

-- A failure.

-- more is known of what was heard
pub Moves-known : {A : Type 0} {may : List Event → Request → Type 0} {was is more : List Event → Type 0} {gives : List Event → A → Type 0} {hear : List Event → List Event} {from to : Posted} {turn : Turn A}
    → ((h : List Event) → was h → (k : List Event) → Within (hear h) k → more k)
    → Moves may was is gives hear from to turn
    → Moves may was (λ k. is k × more k) gives hear from to turn
Moves-known {hear = hear} {from = from} {turn = turn} w s = record {
  sends = s.sends;
  pushed = s.pushed;
  line = s.line;
  beat = s.beat;
  numbered = s.numbered;
  licensed = s.licensed;
  still = IfKept-weaker turn (λ q h f. (q h f, w h f _ (Within-after from.line from.beat (hear h) s.sends))) s.still;
  done = s.done;
}

-- the request of this number failed, for which the plan waited
failed_now : {S A : Type 0} (m : Meaning S A) (p : S) (n j : ℕ) (from via : Posted) (h k : List Event) → IsLawful m → IsLater from via → Within h k → m.fits p from h → HaveFailedBefore m p n from h
    → ((m.waits p (ReplyTo j) → ⊥) → ⊥) → HasFailedAt (heard_in k) (ticket_of from j) → HaveFailedBy (suc n) via k
failed_now m p n j from via h k law l w fits f waited failed =
    let first : f.first ≤ j = elim (cases_lt j f.first) [ inl x ↦ absurd (waited (λ a. let y = f.later j a in omega arith)) | inr x ↦ x ] in
    let given : j < from.next = elim (cases_lt j from.next) [ inl x ↦ x | inr x ↦ absurd (waited (λ a. let y = law.posted p from h (ReplyTo j) fits a in omega (arith, y.2))) ] in
    let before = failed_below_wider (heard_in k) from.line from.beat f.first j n first (failed_below_more (heard_longer h k w) from.line from.beat f.first n f.failed) in
    let all = failed_below_one_more (heard_in k) (ticket_of from j) n failed before in
    let next = l.next in
    let wide = failed_below_wider (heard_in k) from.line from.beat (suc j) via.next (suc n) (omega arith) all in
    subst (λ x. HaveFailedBelow (heard_in k) x via.beat via.next (suc n)) (sym l.line) (subst (λ x. HaveFailedBelow (heard_in k) from.line x via.next (suc n)) (sym l.beat) wide)

ends_waits : {A : Type 0} (v : A) (p : Phase) → p ≡ Running → Ends v ≡ unheard p → ⊥
ends_waits v p runs e = let never : Ends v ≡ Waits = e ∙ ap unheard runs in cc

-- it is told of a failure, and has an answer
pub failed_once : {S A : Type 0} (m : Meaning S A) (x : Arrival) (r : Request) (p : S) (v : A) (n : ℕ) (from via : Posted) (h k : List Event) → IsLawful m → m.phase p ≡ Running → IsLater from via
    → Within h k → Within ((told_by x from r).hear h) k → ((m.waits p (awaited_as x) → ⊥) → Ends v ≡ unheard (m.phase p)) → m.fits p from h → HaveFailedBefore m p n from h
    → tells_failure x ≡ true → HaveFailedBy (suc n) via k
failed_once m (arrival.Reply j o) r p v n from via h k law runs l w told deaf fits f e =
    failed_now m p n j from via h k law l w fits f (λ other. ends_waits v (m.phase p) runs (deaf other)) (r, inr (o, told _ (inl refl), e))
failed_once m (arrival.Lost j) r p v n from via h k law runs l w told deaf fits f e =
    failed_now m p n j from via h k law l w fits f (λ other. ends_waits v (m.phase p) runs (deaf other)) (r, inl (told _ (inl refl)))
failed_once m (arrival.Slept j) r p v n from via h k law runs l w told deaf fits f e = absurd (false≢true e)
failed_once m (arrival.Time j o) r p v n from via h k law runs l w told deaf fits f e = absurd (false≢true e)

-- A plan that goes on.

-- what is posted has a number that was not given before
above : (from to : Posted) (moved posted : List Errand) → to.sends ≡ from.sends ++ moved → to.sends ≡ from.sends ++ posted → AreNumbered from.next from.next_ask moved to.next to.next_ask → (j : ℕ) → IsPosted posted (ReplyTo j) → from.next ≤ j
above from to moved posted e f numbered j i =
    let same : posted ≡ moved = sym (since from to posted f) ∙ since from to moved e in
    posted_from from.next from.next_ask moved to.next to.next_ask (ReplyTo j) numbered (subst (λ (rs : List Errand). IsPosted rs (ReplyTo j)) same i)

-- what it waits for was posted after so many failures still
pub before_on : {S A : Type 0} (m : Meaning S A) (p q : S) {heard : Awaited → Type 0} (n : ℕ) (from to : Posted) (h k : List Event) (moved : List Errand) → IsLater from to → Within h k
    → to.sends ≡ from.sends ++ moved → AreNumbered from.next from.next_ask moved to.next to.next_ask → Expects (m.waits p) (m.waits q) heard from to
    → HaveFailedBefore m p n from h → HaveFailedBefore m q n to k
before_on m p q n from to h k moved l w pushed numbered e f = record {
  first = f.first;
  given = le_trans f.given l.next;
  failed = rw (l.line, l.beat) (failed_below_more (heard_longer h k w) from.line from.beat f.first n f.failed);
  later = λ j a. elim (e.only (ReplyTo j) a) [ inl x ↦ f.later j x.0 | inr x ↦ le_trans f.given (above from to moved e.sends pushed e.pushed numbered j x) ];
}

pub before_start : {S A : Type 0} (m : Meaning S A) (q : S) {heard : Awaited → Type 0} (n : ℕ) (from to : Posted) (h k : List Event) (moved : List Errand) → IsLater from to → Within h k
    → to.sends ≡ from.sends ++ moved → AreNumbered from.next from.next_ask moved to.next to.next_ask → Expects (λ a. ⊥) (m.waits q) heard from to
    → HaveFailedBy n from h → HaveFailedBefore m q n to k
before_start m q n from to h k moved l w pushed numbered e f = record {
  first = from.next;
  given = l.next;
  failed = rw (l.line, l.beat) (failed_below_more (heard_longer h k w) from.line from.beat from.next n f);
  later = λ j a. elim (e.only (ReplyTo j) a) [ inl x ↦ absurd x.0 | inr x ↦ above from to moved e.sends pushed e.pushed numbered j x ];
}
