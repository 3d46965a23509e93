-- What each change of the lists keeps of the counts of requests.
use Rattle.std.proofs.Common.{◌≡◌, ◌≢◌, ℕ, suc, ◌+◌, ◌-◌, ◌<◌, ◌≤◌, ◌⊎◌, inl, inr, Bool, true, false, if◌then◌else◌, List, [], ◌∷◌, ◌++◌, Option, Some, None, length, set, slice_get, nat_eq, refl, sym, ap, ◌∙◌, subst, arith}
use Rattle.std.proofs.lemmas.Bool.Decides.{nat_tests}
use Rattle.txn_history.specs.Event.{Event}
use Rattle.txn_script.specs.declared.line.Line.{Line}
use Rattle.txn_report.specs.declared.report.SentNote.{SentNote}
use Rattle.txn_first.specs.declared.transaction.Transaction.{Transaction}
use Rattle.txn_first.specs.declared.transaction.CommitCall.{CommitCall}
use Rattle.txn_first.specs.declared.transaction.Stage.{Stage}
use Rattle.txn_first.specs.declared.transaction.Stage.TheVariants.{FindingRegion, FindingStore, Prewriting, Stamping, Committing}
use Rattle.txn_first.specs.declared.machine.Row.{Row}
use Rattle.txn_first.specs.declared.machine.Row.TheVariants.{Running}
use Rattle.txn_first.specs.Lists.{Lists, row_at}
use Rattle.txn_first.specs.Lawful.{sent_of}
use Rattle.txn_first.specs.Counted.{stage_number, IsCounted}
use Rattle.txn_first.specs.Stands.{StandsAt}
use Rattle.txn_first.proofs.Lines.{row_cases, row_put}
use Rattle.txn_first.proofs.Licences.{running_is}
use Rattle.txn_first.proofs.Posts.{sent_of_more, placed_in}

pub stage_least : (stage : Stage) → 1 ≤ stage_number stage
stage_least FindingRegion = omega arith
stage_least (FindingStore place) = omega arith
stage_least (Prewriting place) = omega arith
stage_least (Stamping place) = omega arith
stage_least (Committing place c) = omega arith

pub call_is : (a b : CommitCall) → ◌≡◌ {A = Option CommitCall} (Some a) (Some b) → a ≡ b
call_is a b e = cc

-- Rows.

-- each call that is open was open before
abbrev pub Opens : List Row → List Row → Type 0
Opens rows rows' = (x : ℕ) (u : Transaction) (call : CommitCall) → row_at rows' x ≡ Some (Running u) → u.call ≡ Some call → (y : ℕ) × (t : Transaction) × (row_at rows y ≡ Some (Running t)) × (t.call ≡ Some call)

pub opens_push : (rows : List Row) (r : Row) → ((u : Transaction) → r ≡ Running u → ⊥) → Opens rows (rows ++ r ∷ [])
opens_push rows r n x u call e f = elim (row_cases rows r x (Running u) e) [
  | inl a ↦ absurd (n u a.1)
  | inr a ↦ (x, u, a.1, f)
]

-- a transaction has no call open
pub opens_set : (rows : List Row) (x : ℕ) (k : Row) (u : Transaction) → row_at rows x ≡ Some k → u.call ≡ None → Opens rows (set rows (x - 1) (Running u))
opens_set rows x k u at idle y w call e f = elim (row_put rows x y (Running u) (Running w) k at e) [
  | inl a ↦ absurd (let z : None ≡ Some call = sym idle ∙ ap (λ v. v.call) (running_is u w a.1) ∙ f in cc)
  | inr a ↦ (y, w, a.1, f)
]

pub opens_then : (a b c : List Row) → Opens a b → Opens b c → Opens a c
opens_then a b c f g x u call e h = let w = g x u call e h in f w.0 w.1 call w.2 w.3

pub counted_rows : (sent : List SentNote) (rows rows' : List Row) → Opens rows rows' → IsCounted sent rows → IsCounted sent rows'
counted_rows sent rows rows' opens c = record {
  few = c.few;
  stage = λ x u call e f. let w = opens x u call e f in c.stage w.0 w.1 call w.2 w.3;
}

-- Requests.

-- a call that was open before is none of a line that has sent nothing
pub other_call : (sent : List SentNote) (rows : List Row) (n y : ℕ) (t : Transaction) (call : CommitCall) → sent_of n sent ≡ 0 → IsCounted sent rows → row_at rows y ≡ Some (Running t) → t.call ≡ Some call → (n ≢ call.line) × (sent_of call.line sent ≡ stage_number call.stage)
other_call sent rows n y t call none c e f = (apart, c.stage y t call e f)
  where
    apart : n ≢ call.line
    apart q =
        let a : sent_of call.line sent ≡ 0 = subst (λ i. sent_of i sent ≡ 0) q none in
        let b = c.stage y t call e f in
        let d = stage_least call.stage in
        absurd (omega arith)

-- the request number j + 1 of a line is sent
pub counted_sent : (sent : List SentNote) (rows rows' : List Row) (s : SentNote) (j : ℕ) → sent_of s.ticket.line sent ≡ j → j ≤ 4 → IsCounted sent rows
    → ((x : ℕ) (u : Transaction) (call : CommitCall) → row_at rows' x ≡ Some (Running u) → u.call ≡ Some call → ((s.ticket.line ≡ call.line) × (stage_number call.stage ≡ j + 1)) ⊎ ((s.ticket.line ≢ call.line) × (sent_of call.line sent ≡ stage_number call.stage)))
    → IsCounted (sent ++ s ∷ []) rows'
counted_sent sent rows rows' s j is small c calls = record {
  few = λ n. few_at n (nat_eq s.ticket.line n) refl;
  stage = λ x u call e f. elim (calls x u call e f) [ inl a ↦ own call a.0 a.1 | inr a ↦ other call a.0 a.1 ];
}
  where
    few_at : (n : ℕ) (b : Bool) → nat_eq s.ticket.line n ≡ b → sent_of n (sent ++ s ∷ []) ≤ 5
    few_at n true q =
        let e : s.ticket.line ≡ n = grind (arith, nat_tests) in
        let a : sent_of n sent ≡ j = subst (λ i. sent_of i sent ≡ j) e is in
        let m : sent_of n (sent ++ s ∷ []) ≡ sent_of n sent + 1 = sent_of_more n sent s ∙ ap (λ (b : Bool). sent_of n sent + (if b then 1 else 0)) q in
        omega arith
    few_at n false q =
        let a = c.few n in
        let m : sent_of n (sent ++ s ∷ []) ≡ sent_of n sent + 0 = sent_of_more n sent s ∙ ap (λ (b : Bool). sent_of n sent + (if b then 1 else 0)) q in
        omega arith

    own : (call : CommitCall) → s.ticket.line ≡ call.line → stage_number call.stage ≡ j + 1 → sent_of call.line (sent ++ s ∷ []) ≡ stage_number call.stage
    own call e f =
        let q : nat_eq s.ticket.line call.line ≡ true = grind (arith, nat_tests) in
        let a : sent_of call.line sent ≡ j = subst (λ i. sent_of i sent ≡ j) e is in
        let m : sent_of call.line (sent ++ s ∷ []) ≡ sent_of call.line sent + 1 = sent_of_more call.line sent s ∙ ap (λ (b : Bool). sent_of call.line sent + (if b then 1 else 0)) q in
        omega arith

    other : (call : CommitCall) → s.ticket.line ≢ call.line → sent_of call.line sent ≡ stage_number call.stage → sent_of call.line (sent ++ s ∷ []) ≡ stage_number call.stage
    other call e f =
        let q : nat_eq s.ticket.line call.line ≡ false = grind (arith, nat_tests) in
        let m : sent_of call.line (sent ++ s ∷ []) ≡ sent_of call.line sent + 0 = sent_of_more call.line sent s ∙ ap (λ (b : Bool). sent_of call.line sent + (if b then 1 else 0)) q in
        omega arith

none_sent : (n : ℕ) (ss : List SentNote) → ((p : ℕ) (s : SentNote) → slice_get ss p ≡ Some s → s.ticket.line ≢ n) → sent_of n ss ≡ 0
none_sent n [] h = refl
none_sent n (s ∷ ss) h =
    let apart = h 0 s refl in
    let q : nat_eq s.ticket.line n ≡ false = grind (arith, nat_tests) in
    let rest = none_sent n ss (λ p z e. h (suc p) z e) in
    rw (q, rest) refl

-- a line that is still to come has sent nothing
pub none_before : (es : List Event) (l : Lists) (ls : List Line) (n : ℕ) → StandsAt es l ls → length ls < n → sent_of n l.sent ≡ 0
none_before es l ls n s later = none_sent n l.sent (λ p z e q.
    let w = placed_in l.tickets z.ticket p (s.mail.noted p z e) in
    let a = w.1 in
    let b = s.mail.rowed in
    omega arith)
