-- Which lines begin a transaction, and with which options: of each line its own, and no others.
use Rattle.std.proofs.Common.{◌≡◌, ◌≢◌, ℕ, suc, ◌+◌, ◌⊎◌, inl, inr, Bool, true, false, if◌then◌else◌, List, [], ◌∷◌, ◌++◌, Option, Some, None, length, nat_eq, nat_lt, refl, sym, ap, ◌∙◌, subst, arith}
use Rattle.std.proofs.lemmas.Bool.Decides.{nat_tests}
use Rattle.txn_history.specs.Among.{IsAmong}
use Rattle.txn_lines.specs.Lines.{line_at}
use Rattle.txn_lines.specs.declared.begin_options.BeginOptions.{BeginOptions}
use Rattle.txn_lines.specs.Deeds.{deed_of}
use Rattle.txn_lines.specs.declared.line.Line.{Line}
use Rattle.txn_report.specs.declared.outcome.Outcome.{Outcome}
use Rattle.txn_report.specs.declared.report.SentNote.{SentNote}
use Rattle.txn_side.specs.Trace.{Begin, IsBegunAs}
use Rattle.txn_machine.specs.Causes.{lines_before}
use Rattle.txn_machine.specs.Failing.{begins_as, begun_by, begun_of, trace_of}
use Rattle.txn_machine.proofs.Numberings.{line_new, line_old, line_range}

pub either_among : {X : Type 0} (xs ys : List X) (x : X) → IsAmong (xs ++ ys) x → IsAmong xs x ⊎ IsAmong ys x
either_among [] ys x h = inr h
either_among (z ∷ xs) ys x (inl e) = inl (inl e)
either_among (z ∷ xs) ys x (inr h) = elim (either_among xs ys x h) [ inl a ↦ inl (inr a) | inr a ↦ inr a ]

pub later_among : {X : Type 0} (xs ys : List X) (x : X) → IsAmong ys x → IsAmong (xs ++ ys) x
later_among [] ys x h = h
later_among (z ∷ xs) ys x h = inr (later_among xs ys x h)

-- of one line
one_begins : (n k : ℕ) (begins : Option BeginOptions) (options : BeginOptions) → IsAmong (begun_by n begins) (record { line = k; options = options }) → (n ≡ k) × (begins ≡ Some options)
one_begins n k None options h = absurd h
one_begins n k (Some given) options (inl e) = (ap (λ (b : Begin). b.line) e, ap (λ (b : Begin). Some b.options) e)
one_begins n k (Some given) options (inr h) = absurd h

-- a line begins a transaction with these options
pub record BeginsAt (ls : List Line) (k : ℕ) (options : BeginOptions) : Type 0 where
  pub line : Line
  pub there : line_at ls k ≡ Some line
  pub begins : begins_as (deed_of line) ≡ Some options

-- the line that begins a transaction says with which options
pub begun_line : (ls : List Line) (k : ℕ) (options : BeginOptions) → IsAmong (begun_of ls) (record { line = k; options = options }) → BeginsAt ls k options
begun_line [] k options h = absurd h
begun_line (l ∷ ls) k options h = elim (either_among (begun_by (suc (length ls)) (begins_as (deed_of l))) (begun_of ls) (record { line = k; options = options }) h) [
  | inl here ↦ let w = one_begins (suc (length ls)) k (begins_as (deed_of l)) options here in record { line = l; there = subst (λ j. line_at (l ∷ ls) j ≡ Some l) w.0 (line_new l ls); begins = w.1 }
  | inr older ↦
      let w = begun_line ls k options older in
      let r = line_range ls k w.line w.there in
      let apart : k ≢ suc (length ls) = λ e. omega (arith, r.1, e) in
      record { line = w.line; there = line_old l ls k apart ∙ w.there; begins = w.begins }
]

-- and each line that says so is among those that do
pub line_begun : (ls : List Line) (k : ℕ) (options : BeginOptions) → BeginsAt ls k options → IsAmong (begun_of ls) (record { line = k; options = options })
line_begun [] k options w = absurd (let e = w.there in cc)
line_begun (l ∷ ls) k options w = by (nat_eq (length ls + 1) k) refl (λ older. line_begun ls k options older) w.there
  where
    by : (b : Bool) → nat_eq (length ls + 1) k ≡ b → (BeginsAt ls k options → IsAmong (begun_of ls) (record { line = k; options = options })) → (if b then Some l else line_at ls k) ≡ Some w.line → IsAmong (begun_of (l ∷ ls)) (record { line = k; options = options })
    by true e older is =
        let there : suc (length ls) ≡ k = grind (arith, nat_tests) in
        let same : w.line ≡ l = cc in
        subst (λ j. IsAmong (begun_by (suc (length ls)) (begins_as (deed_of l)) ++ begun_of ls) (record { line = j; options = options })) there
        (subst (λ (x : Option BeginOptions). IsAmong (begun_by (suc (length ls)) x ++ begun_of ls) (record { line = suc (length ls); options = options })) (sym (ap (λ x. begins_as (deed_of x)) (sym same) ∙ w.begins)) (inl refl))
    by false e older is = later_among (begun_by (suc (length ls)) (begins_as (deed_of l))) (begun_of ls) (record { line = k; options = options }) (older (record { line = w.line; there = is; begins = w.begins }))

-- so of what stands at a line only one choice of options is true
pub begun_once : (sent : List SentNote) (outs : List Outcome) (script : List Line) (at : ℕ) (one other : BeginOptions) → IsBegunAs (trace_of sent outs script) at one → IsBegunAs (trace_of sent outs script) at other → one ≡ other
begun_once sent outs script at one other a b =
    let v = begun_line script at one a in
    let w = begun_line script at other b in
    let lines : ◌≡◌ {A = Option Line} (Some v.line) (Some w.line) = sym v.there ∙ w.there in
    let same : v.line ≡ w.line = cc in
    let options : ◌≡◌ {A = Option BeginOptions} (Some one) (Some other) = sym v.begins ∙ ap (λ x. begins_as (deed_of x)) same ∙ w.begins in
    cc

-- what began in earlier lines began in the script
pub begun_before : (ls : List Line) (n : ℕ) (b : Begin) → IsAmong (begun_of (lines_before ls n)) b → IsAmong (begun_of ls) b
begun_before [] n b h = h
begun_before (l ∷ ls) n b h = by (nat_lt (length (l ∷ ls)) n) (λ i. begun_before ls n b i) h
  where
    by : (t : Bool) → (IsAmong (begun_of (lines_before ls n)) b → IsAmong (begun_of ls) b) → IsAmong (begun_of (if t then l ∷ ls else lines_before ls n)) b → IsAmong (begun_of (l ∷ ls)) b
    by true older i = i
    by false older i = later_among (begun_by (suc (length ls)) (begins_as (deed_of l))) (begun_of ls) b (older i)
