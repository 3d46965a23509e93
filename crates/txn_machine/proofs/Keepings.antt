-- Each line keeps what is said of causes and of timestamps.
use Rattle.std.proofs.Common.{◌≡◌, suc, List, ◌∷◌, None, length, sym, ap, ◌∙◌, subst}
use Rattle.txn_lines.specs.Lines.{why_after}
use Rattle.txn_lines.specs.Deeds.{deed_of}
use Rattle.txn_lines.specs.declared.line.Line.{Line}
use Rattle.txn_machine.specs.Lists.{Lists, newest}
use Rattle.txn_machine.specs.Rows.{Caused}
use Rattle.txn_machine.specs.Running.{IsOrdered}
use Rattle.txn_machine.specs.Script.{Folded}
use Rattle.txn_machine.specs.Steps.{Steps}
use Rattle.txn_machine.specs.Times.{Timely}
use Rattle.txn_machine.proofs.Alive.{live_now}
use Rattle.txn_machine.proofs.Carried.{events_now, fates_now}
use Rattle.txn_machine.proofs.Caused.{calls_now, end_rows}
use Rattle.txn_machine.proofs.Courses.{course}
use Rattle.txn_machine.proofs.Folds.{Stepped, stepped}
use Rattle.txn_machine.proofs.Owners.{owned_now}
use Rattle.txn_machine.proofs.Timing.{timely_now}

pub caused_step : (line : Line) (ls : List Line) (old new : Lists) → newest old ≡ length ls → IsOrdered old → why_after ls line ≡ None → Steps line old new → Folded ls old → Caused ls old → Caused (line ∷ ls) new
caused_step line ls old new told ordered good steps folded was =
    let c = course old (deed_of line) new steps in
    let s = subst (λ x. Stepped (length ls) (deed_of line) old x) c.is (stepped (length ls) old told ordered.even.stands folded.calm ordered.sound.mail (deed_of line) new steps) in
    subst (λ l. Caused (line ∷ ls) l) (sym c.is) (record {
      rows = end_rows line ls old told ordered.even good was.rows new c;
      lives = live_now line ls old told ordered.even good was.rows was.lives new c;
      calls = calls_now line ls old told ordered.even good was.rows new c was.calls;
      events = events_now line ls old told ordered good was folded new c s;
      fates = fates_now line ls old told ordered good was folded new c s;
      owned = owned_now line ls old told ordered good was.rows was.owned new c;
    })

pub timely_step : (line : Line) (ls : List Line) (old new : Lists) → newest old ≡ length ls → IsOrdered old → why_after ls line ≡ None → Steps line old new → Folded ls old → Caused ls old → Timely ls old → length new.sight.stands ≡ suc (length ls) → Timely (line ∷ ls) new
timely_step line ls old new told ordered good steps folded was timely stood =
    let c = course old (deed_of line) new steps in
    let s = subst (λ x. Stepped (length ls) (deed_of line) old x) c.is (stepped (length ls) old told ordered.even.stands folded.calm ordered.sound.mail (deed_of line) new steps) in
    subst (λ l. Timely (line ∷ ls) l) (sym c.is) (timely_now line ls old told ordered good was folded new c s timely (sym (ap (λ (l : Lists). length l.sight.stands) c.is) ∙ stood))
