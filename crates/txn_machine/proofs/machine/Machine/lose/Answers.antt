use Rattle.std.proofs.Common.{refl, ap, sym, ◌∙◌, Option, ℕ, true}
use Rattle.txn_post.specs.Mail.{Mail}
use Rattle.txn_machine.specs.Running.{lists_of}
use Rattle.txn_machine.proofs.Telling.{tell_came}
use Rattle.txn_machine.proofs.Staying.{live_out, lost_out, rest_out}
use Rattle.txn_history.specs.Event.Event.{Lost}
use Rattle.txn_lines.specs.declared.deed.Deed.TheVariants.{Happens}
use Rattle.txn_lines.specs.declared.happening.Happening.TheVariants.{Lose}
use Rattle.txn_machine.specs.Steps.{test_at}
use Rattle.txn_machine.proofs.Arising.{arises_same, heard_to, lose_comes, missed, outside_to}
use Rattle.txn_machine.proofs.machine.Machine.lose.Goals as goal

pub returns-clause-tells : goal.returns-clause-tells
returns-clause-tells g c = tell_came (lists_of g.S.ClientSide.sight c.args.self.now) _ _ (record { outcomes = refl; ended = refl; sent = ap (λ (m : Mail). m.sent) c.lose.ensures; sleeps = ap (λ (m : Mail). m.sleeps) c.lose.ensures }) c.in_ok-turn.turn c.in_ok-turn.ensures.goes c.requires.ordered.even.stands c.came.ensures.outcome c.came.ensures.turn

pub returns-in_default-clause-out : goal.returns-in_default-clause-out
returns-in_default-clause-out g c = rest_out (g.S.ClientSide.waits c.args.self.now.clients) (lists_of g.S.ClientSide.sight c.args.self.now) _ c.happened.result refl refl c.happened.ensures.nothing

pub returns-clause-out : goal.returns-clause-out
returns-clause-out g c =
    lost_out (g.S.ClientSide.waits c.args.self.now.clients) _ (lists_of g.S.ClientSide.sight c.args.self.now) _ c.came.result c.args.ticket c.in-Some.place c.in_ok-turn.turn c.came.ensures.turn c.in_ok-turn.ensures.goes
    (c.in_ok-turn.ensures.waits (live_out (lists_of g.S.ClientSide.sight c.args.self.now) c.args.ticket c.in-Some.place (sym c.find_out.ensures.exact ∙ c.in-Some.is))) c.in-Some.ensures.found.ticket c.lose.ensures c.requires.ordered

pub returns-in_default-clause-arises : goal.returns-in_default-clause-arises
returns-in_default-clause-arises g c =
    outside_to (g.S.ClientSide.arises c.args.self.now.clients) (g.S.ClientSide.arises c.args.self.now.clients) (g.S.ClientSide.holds c.args.self.now.clients) (g.S.ClientSide.holds c.args.self.now.clients) (Happens (Lose c.args.ticket)) (lists_of g.S.ClientSide.sight c.args.self.now) c.happened.result c.happened.ensures.nothing c.happened.ensures.ended
    (arises_same (g.S.ClientSide.arises c.args.self.now.clients) (g.S.ClientSide.holds c.args.self.now.clients)) (λ h e. g.S.ClientSide.arises_longer c.args.self.now.clients h e) (λ looks h knows. missed (lists_of g.S.ClientSide.sight c.args.self.now) looks h (Happens (Lose c.args.ticket)) (ap (λ (o : Option ℕ). test_at (λ k. true) o) (sym c.find_out.ensures.exact ∙ c.in_default.is)))

pub returns-clause-arises : goal.returns-clause-arises
returns-clause-arises g c =
    heard_to (g.S.ClientSide.arises c.args.self.now.clients) (g.S.ClientSide.arises c.tell.new.self) (g.S.ClientSide.holds c.args.self.now.clients) (g.S.ClientSide.holds c.tell.new.self) (Happens (Lose c.args.ticket)) (lists_of g.S.ClientSide.sight c.args.self.now) (λ r. Lost c.args.ticket r) c.in_ok-turn.turn c.came.result c.came.ensures.turn refl
    (λ looks h knows w. lose_comes (lists_of g.S.ClientSide.sight c.args.self.now) looks h (g.S.ClientSide.arises c.args.self.now.clients) (g.S.ClientSide.holds c.args.self.now.clients) knows w c.args.ticket c.in-Some.place (sym c.find_out.ensures.exact ∙ c.in-Some.is)) c.in_ok-turn.ensures.arises
