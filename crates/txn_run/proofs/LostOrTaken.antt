-- Of a request of a script that was lost no reply is taken.
use Rattle.std.proofs.Common.{◌≡◌, ℕ, inl, inr, Bool, true, false, not, ◌&&◌, ◌||◌, List, [], ◌∷◌, Option, Some, None, length, is_some, nat_eq, nat_lt, refl, sym, subst}
use Rattle.std.specs.Prelude.{⊤, if◌then◌else◌}
use Rattle.txn_kv.specs.declared.reply.Reply.{Reply}
use Rattle.txn_kv.specs.declared.request.Request.{Request}
use Rattle.txn_kv.specs.declared.ticket.Ticket.{Ticket}
use Rattle.txn_history.specs.Busy.{busy_reply}
use Rattle.txn_history.specs.Event.{Event, Has, is_awaited, is_lost, kept_reply, same_ticket, sent_request, taken_reply}
use Rattle.txn_history.specs.Event.Event.{Clocked, Crashed, Led, Lost, Refused, Sent, Served, Slept, Split, Took}
use Rattle.txn_law.specs.Run.{store_after}
use Rattle.txn_lines.specs.Deeds.{deed_of}
use Rattle.txn_lines.specs.declared.line.Line.{Line}
use Rattle.txn_lines.specs.declared.line.Line.TheVariants as lines
use Rattle.txn_machine.specs.Causes.{AllEventsMeet, EventMeets, began, hears, known, lines_before}
use Rattle.txn_machine.specs.Script.{does, find, history, is_done, loses, outcome_of, refuses, refuses_it, serves, takes, takes_it, with_sends}
use Rattle.txn_model.specs.Table.{table}
use Rattle.txn_report.specs.declared.outcome.Outcome.{Outcome}
use Rattle.txn_report.specs.declared.report.SentNote.{SentNote}
use Rattle.txn_report.specs.declared.report.SleepNote.{SleepNote}
use Rattle.txn_run.proofs.ServedOnce.{alike, both, done_so}

-- no ticket was both lost and answered
pub record AreLostOrTaken (es : List Event) : Type 0 where
  pub apart : (t : Ticket) (r q : Request) (o : Reply) → Has es (Lost t r) → Has es (Took t q o) → ⊥

-- What tells of a ticket

lost_ticket : (u t : Ticket) (q r : Request) → Lost u q ≡ Lost t r → u ≡ t
lost_ticket u t q r e = cc

taken_ticket : (u t : Ticket) (q r : Request) (p o : Reply) → Took u q p ≡ Took t r o → u ≡ t
taken_ticket u t q r p o e = cc

is_lost_so : (es : List Event) (t : Ticket) (r : Request) → Has es (Lost t r) → is_lost es t ≡ true
is_lost_so [] t r h = absurd h
is_lost_so (Lost u q ∷ es) t r h = by (same_ticket u t) refl (is_lost_so es t r)
  where
    by : (b : Bool) → same_ticket u t ≡ b → (Has es (Lost t r) → is_lost es t ≡ true) → (b || is_lost es t) ≡ true
    by true e rest = refl
    by false e rest = elim h [ inl f ↦ absurd (let same = alike u t (lost_ticket u t q r f) in cc) | inr g ↦ rest g ]
is_lost_so (_ ∷ es) t r h = elim h [ inl f ↦ absurd (cc) | inr g ↦ is_lost_so es t r g ]

is_taken_so : (es : List Event) (t : Ticket) (r : Request) (o : Reply) → Has es (Took t r o) → is_some (taken_reply es t) ≡ true
is_taken_so [] t r o h = absurd h
is_taken_so (Took u q p ∷ es) t r o h = by (same_ticket u t) refl (is_taken_so es t r o)
  where
    by : (b : Bool) → same_ticket u t ≡ b → (Has es (Took t r o) → is_some (taken_reply es t) ≡ true) → is_some (if b then Some p else taken_reply es t) ≡ true
    by true e rest = refl
    by false e rest = elim h [ inl f ↦ absurd (let same = alike u t (taken_ticket u t q r p o f) in cc) | inr g ↦ rest g ]
is_taken_so (_ ∷ es) t r o h = elim h [ inl f ↦ absurd (cc) | inr g ↦ is_taken_so es t r o g ]

-- a request that is still waited for is neither
pub record IsUnanswered (es : List Event) (t : Ticket) : Type 0 where
  pub unlost : (r : Request) → Has es (Lost t r) → ⊥
  pub untaken : (r : Request) (o : Reply) → Has es (Took t r o) → ⊥

awaited_so : (a b c : Bool) → ((a && not b) && not c) ≡ true → (b ≡ false) × (c ≡ false)
awaited_so true false false e = (refl, refl)
awaited_so true true c e = absurd (cc)
awaited_so true false true e = absurd (cc)
awaited_so false b c e = absurd (cc)

unanswered : (es : List Event) (t : Ticket) → is_awaited es t ≡ true → IsUnanswered es t
unanswered es t e = record {
  unlost = λ r h. let yes = is_lost_so es t r h in let no = (awaited_so (is_some (sent_request es t)) (is_some (taken_reply es t)) (is_lost es t) e).1 in cc;
  untaken = λ r o h. let yes = is_taken_so es t r o h in let no = (awaited_so (is_some (sent_request es t)) (is_some (taken_reply es t)) (is_lost es t) e).0 in cc;
}

-- One event more

-- nothing is lost by it, or taken
abbrev IsAside : Event → Type 0
IsAside (Lost t r) = ⊥
IsAside (Took t r o) = ⊥
IsAside e = ⊤

aside_apart : (es : List Event) (e : Event) → IsAside e → AreLostOrTaken es → AreLostOrTaken (e ∷ es)
aside_apart es e aside i = record {
  apart = λ t r q o h g. elim h [ inl f ↦ absurd (subst IsAside f aside) | inr a ↦ elim g [ inl f ↦ absurd (subst IsAside f aside) | inr b ↦ i.apart t r q o a b ] ];
}

aside_unanswered : (es : List Event) (e : Event) (t : Ticket) → IsAside e → IsUnanswered es t → IsUnanswered (e ∷ es) t
aside_unanswered es e t aside i = record {
  unlost = λ r h. elim h [ inl f ↦ subst IsAside f aside | inr a ↦ i.unlost r a ];
  untaken = λ r o h. elim h [ inl f ↦ subst IsAside f aside | inr a ↦ i.untaken r o a ];
}

took_apart : (es : List Event) (t : Ticket) (p : Request) (x : Reply) → IsUnanswered es t → AreLostOrTaken es → AreLostOrTaken (Took t p x ∷ es)
took_apart es t p x new i = record {
  apart = λ u r q o h g. elim h [
    | inl f ↦ absurd (cc)
    | inr a ↦ elim g [ inl f ↦ new.unlost r (subst (λ v. Has es (Lost v r)) (sym (taken_ticket t u p q x o f)) a) | inr b ↦ i.apart u r q o a b ]
  ];
}

lost_apart : (es : List Event) (t : Ticket) (p : Request) → IsUnanswered es t → AreLostOrTaken es → AreLostOrTaken (Lost t p ∷ es)
lost_apart es t p new i = record {
  apart = λ u r q o h g. elim g [
    | inl f ↦ absurd (cc)
    | inr b ↦ elim h [ inl f ↦ new.untaken q o (subst (λ v. Has es (Took v q o)) (sym (lost_ticket t u p r f)) b) | inr a ↦ i.apart u r q o a b ]
  ];
}

-- What lines do

sends_apart : (sent : List SentNote) (n : ℕ) (es : List Event) → AreLostOrTaken es → AreLostOrTaken (with_sends sent n es)
sends_apart [] n es i = i
sends_apart (s ∷ ss) n es i = sends_apart ss n _ (by (nat_eq s.at n))
  where
    by : (b : Bool) → AreLostOrTaken (if b then Sent s.ticket s.request ∷ es else es)
    by true = aside_apart es (Sent s.ticket s.request) tt i
    by false = i

takes_apart : (t : Ticket) (o : Option Request) (es : List Event) → IsUnanswered es t → AreLostOrTaken es → AreLostOrTaken (takes t o es)
takes_apart t None es new i = i
takes_apart t (Some r) es new i = by (kept_reply es t)
  where
    by : (o : Option Reply) → AreLostOrTaken (takes_it t r o es)
    by None = i
    by (Some x) = took_apart es t r x new i

serves_apart : (t : Ticket) (o : Option Request) (es : List Event) → IsUnanswered es t → AreLostOrTaken es → IsUnanswered (serves t o es) t × AreLostOrTaken (serves t o es)
serves_apart t None es new i = (new, i)
serves_apart t (Some r) es new i = (aside_unanswered es _ t tt new, aside_apart es _ tt i)

serves_aside : (t : Ticket) (o : Option Request) (es : List Event) → AreLostOrTaken es → AreLostOrTaken (serves t o es)
serves_aside t None es i = i
serves_aside t (Some r) es i = aside_apart es (Served t r (table (store_after es) r).reply) tt i

loses_apart : (t : Ticket) (o : Option Request) (es : List Event) → IsUnanswered es t → AreLostOrTaken es → AreLostOrTaken (loses t o es)
loses_apart t None es new i = i
loses_apart t (Some r) es new i = lost_apart es t r new i

refuses_apart : (t : Ticket) (o : Option Request) (es : List Event) → IsUnanswered es t → AreLostOrTaken es → AreLostOrTaken (refuses t o es)
refuses_apart t None es new i = i
refuses_apart t (Some r) es new i = by (busy_reply r)
  where
    by : (o : Option Reply) → AreLostOrTaken (refuses_it t r o es)
    by None = i
    by (Some x) = took_apart (Refused t r x ∷ es) t r x (aside_unanswered es (Refused t r x) t tt new) (aside_apart es (Refused t r x) tt i)

line_apart : (asleep : Ticket → Bool) (seen : ℕ → Outcome) (before : List Line) (looks : Ticket → Option Request) (es : List Event) (line : Line) (o : Outcome) → EventMeets asleep seen before es (deed_of line) o → is_done o ≡ true → AreLostOrTaken es → AreLostOrTaken (does looks (deed_of line) es)
line_apart asleep seen before looks es (lines.Serve t) o meets done i = serves_aside t (looks t) es i
line_apart asleep seen before looks es (lines.Answer t) o meets done i = takes_apart t (looks t) es (unanswered es t (both (is_awaited es t) _ (both (hears seen before t) _ (done_so _ o meets done)).1).0) i
line_apart asleep seen before looks es (lines.Deliver t) o meets done i =
    let s = serves_apart t (looks t) es (unanswered es t (both (is_awaited es t) _ (both (hears seen before t) _ (done_so _ o meets done)).1).0) i in
    takes_apart t (looks t) (serves t (looks t) es) s.0 s.1
line_apart asleep seen before looks es (lines.Lose t) o meets done i = loses_apart t (looks t) es (unanswered es t (both (hears seen before t) (is_awaited es t) (done_so _ o meets done)).1) i
line_apart asleep seen before looks es (lines.Busy t) o meets done i = refuses_apart t (looks t) es (unanswered es t (both (is_awaited es t) _ (both (hears seen before t) _ (done_so _ o meets done)).1).0) i
line_apart asleep seen before looks es (lines.Wake t) o meets done i = aside_apart es (Slept t) tt i
line_apart asleep seen before looks es (lines.Split key) o meets done i = aside_apart es (Split key) tt i
line_apart asleep seen before looks es (lines.Lead region store) o meets done i = aside_apart es (Led region store) tt i
line_apart asleep seen before looks es (lines.Clock ms) o meets done i = aside_apart es (Clocked ms) tt i
line_apart asleep seen before looks es (lines.Crash client) o meets done i = aside_apart es (Crashed client) tt i
line_apart asleep seen before looks es _ o meets done i = i

module _ (sent : List SentNote) (sleeps : List SleepNote) (outs : List Outcome) (ended : List ℕ) where
  pub history_apart : (script : List Line) → AllEventsMeet sent sleeps outs ended script → AreLostOrTaken (history sent outs script)
  history_apart [] meets = record { apart = λ t r q o h. absurd h }
  history_apart (line ∷ before) meets = sends_apart sent newest _ (by (is_done (outcome_of outs newest)) refl (history_apart before meets.1))
    where
      newest : ℕ
      newest = length (line ∷ before)

      looks : Ticket → Option Request
      looks t = find sent newest t

      by : (b : Bool) → is_done (outcome_of outs newest) ≡ b → AreLostOrTaken (history sent outs before) → AreLostOrTaken (if b then does looks (deed_of line) (history sent outs before) else history sent outs before)
      by true e i = line_apart (λ t. began sleeps newest t) (known outs ended newest) before looks (history sent outs before) line (outcome_of outs newest) meets.0 e i
      by false e i = i

  -- so after the first lines, too
  pub history_apart_by : (script : List Line) (n : ℕ) → AllEventsMeet sent sleeps outs ended script → AreLostOrTaken (history sent outs (lines_before script n))
  history_apart_by [] n meets = record { apart = λ t r q o h. absurd h }
  history_apart_by (line ∷ before) n meets = by (nat_lt (length (line ∷ before)) n) (history_apart_by before n meets.1)
    where
      by : (b : Bool) → AreLostOrTaken (history sent outs (lines_before before n)) → AreLostOrTaken (history sent outs (if b then line ∷ before else lines_before before n))
      by true rest = history_apart (line ∷ before) meets
      by false rest = rest
