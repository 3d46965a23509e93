use Rattle.std.proofs.Common.{refl, ap, sym, ◌∙◌, Option, ℕ, true, ◌∷◌, if◌then◌else◌}
use Rattle.txn_post.specs.Mail.{Mail}
use Rattle.txn_machine.specs.Running.{lists_of}
use Rattle.txn_machine.proofs.Telling.{tell_came}
use Rattle.txn_machine.proofs.Staying.{live_asleep, rest_out, slept_out}
use Rattle.txn_history.specs.Event.Event.{Slept}
use Rattle.txn_lines.specs.declared.deed.Deed.TheVariants.{Happens}
use Rattle.txn_lines.specs.declared.happening.Happening.TheVariants.{Wake}
use Rattle.txn_machine.specs.Steps.{test_at}
use Rattle.txn_machine.proofs.Arising.{arises_same, missed, outside_to, woken_to}
use Rattle.txn_machine.proofs.machine.Machine.wake.Goals as goal

pub returns-clause-tells : goal.returns-clause-tells
returns-clause-tells g c = tell_came (lists_of g.S.ClientSide.sight c.args.self.now) _ _ (record { outcomes = refl; ended = refl; sent = ap (λ (m : Mail). m.sent) c.wake.ensures; sleeps = ap (λ (m : Mail). m.sleeps) c.wake.ensures }) c.in_ok-turn.turn c.in_ok-turn.ensures.goes c.requires.ordered.even.stands c.came.ensures.outcome c.came.ensures.turn

pub returns-in_default-clause-out : goal.returns-in_default-clause-out
returns-in_default-clause-out g c = rest_out (g.S.ClientSide.waits c.args.self.now.clients) (lists_of g.S.ClientSide.sight c.args.self.now) _ c.happened.result refl refl c.happened.ensures.nothing

pub returns-clause-out : goal.returns-clause-out
returns-clause-out g c =
    slept_out (g.S.ClientSide.waits c.args.self.now.clients) _ (lists_of g.S.ClientSide.sight c.args.self.now) _ c.came.result c.args.ticket c.in-Some.place c.in_ok-turn.turn c.came.ensures.turn c.in_ok-turn.ensures.goes
    (c.in_ok-turn.ensures.waits (live_asleep (lists_of g.S.ClientSide.sight c.args.self.now) c.args.ticket c.in-Some.place (sym c.find_asleep.ensures.exact ∙ c.in-Some.is)))
    c.in-Some.ensures.found.ticket c.wake.ensures c.requires.ordered

pub returns-in_default-clause-arises : goal.returns-in_default-clause-arises
returns-in_default-clause-arises g c =
    outside_to (g.S.ClientSide.arises c.args.self.now.clients) (g.S.ClientSide.arises c.args.self.now.clients) (g.S.ClientSide.holds c.args.self.now.clients) (g.S.ClientSide.holds c.args.self.now.clients) (Happens (Wake c.args.ticket)) (lists_of g.S.ClientSide.sight c.args.self.now) c.happened.result c.happened.ensures.nothing c.happened.ensures.ended
    (arises_same (g.S.ClientSide.arises c.args.self.now.clients) (g.S.ClientSide.holds c.args.self.now.clients)) (λ h e. g.S.ClientSide.arises_longer c.args.self.now.clients h e) (λ looks h knows. missed (lists_of g.S.ClientSide.sight c.args.self.now) looks h (Happens (Wake c.args.ticket)) (ap (λ (o : Option ℕ). test_at (λ k. true) o) (sym c.find_asleep.ensures.exact ∙ c.in_default.is)))

pub returns-clause-arises : goal.returns-clause-arises
returns-clause-arises g c =
    woken_to (g.S.ClientSide.arises c.args.self.now.clients) (g.S.ClientSide.arises c.tell.new.self) (g.S.ClientSide.holds c.args.self.now.clients) (g.S.ClientSide.holds c.tell.new.self) (Happens (Wake c.args.ticket)) (lists_of g.S.ClientSide.sight c.args.self.now) c.args.ticket c.in_ok-turn.turn c.came.result c.came.ensures.turn refl
    (λ looks h. ap (λ (o : Option ℕ). if test_at (λ k. true) o then Slept c.args.ticket ∷ h else h) (sym c.find_asleep.ensures.exact ∙ c.in-Some.is)) c.in_ok-turn.ensures.arises
