use Rattle.std.proofs.Common.{refl, sym, ◌∙◌, Option, ℕ, is_some, ap}
use Rattle.txn_machine.specs.Running.{lists_of}
use Rattle.txn_post.specs.Mail.{Mail, taking, letter_at}
use Rattle.txn_machine.proofs.Staying.{heard_out, live_out, rest_out, untaken_out}
use Rattle.txn_history.specs.Event.Event.{Took}
use Rattle.txn_lines.specs.declared.deed.Deed.TheVariants.{Happens}
use Rattle.txn_lines.specs.declared.happening.Happening.TheVariants.{Answer}
use Rattle.txn_machine.proofs.Resting.{heard_on}
use Rattle.txn_machine.specs.Steps.{test_at}
use Rattle.txn_machine.proofs.Arising.{answer_comes, arises_same, hears_to, missed, outside_to}
use Rattle.txn_machine.proofs.Numbers.{can_end}
use Rattle.txn_machine.proofs.machine.Machine.answer.Goals as goal

pub returns-in-None-clause-can : goal.returns-in-None-clause-can
returns-in-None-clause-can g c =
    can_end c.happened-in-None.result (lists_of g.S.ClientSide.sight c.args.self.now) _ refl (ap (λ (m : Mail). m.tickets) c.take_kept.ensures.taken) refl c.happened-in-None.ensures.nothing c.requires.some c.requires.ordered.even

pub returns-in_default-clause-out : goal.returns-in_default-clause-out
returns-in_default-clause-out g c = rest_out (g.S.ClientSide.waits c.args.self.now.clients) (lists_of g.S.ClientSide.sight c.args.self.now) _ c.happened.result refl refl c.happened.ensures.nothing

pub returns-in-None-clause-out : goal.returns-in-None-clause-out
returns-in-None-clause-out g c =
    untaken_out (g.S.ClientSide.waits c.args.self.now.clients) (lists_of g.S.ClientSide.sight c.args.self.now) _ c.happened-in-None.result c.in-Some.place refl c.take_kept.ensures.taken (sym c.take_kept.ensures.reply ∙ c.in-None.is) c.in-Some.ensures.found.below c.requires.ordered.sound.mail c.happened-in-None.ensures.nothing

pub returns-in-Some-take_kept-clause-out : goal.returns-in-Some-take_kept-clause-out
returns-in-Some-take_kept-clause-out g c =
    heard_out (g.S.ClientSide.waits c.args.self.now.clients) (g.S.ClientSide.waits c.args.self.now.clients) (g.S.ClientSide.waits c.hear.new.self.clients) (lists_of g.S.ClientSide.sight c.args.self.now) (lists_of g.S.ClientSide.sight (record c.args.self.now { post = c.take_kept.new.self })) (lists_of g.S.ClientSide.sight c.hear.new.self) c.args.ticket c.in-Some.place taking c.hear.result refl
    (c.hear.ensures.waits (live_out (lists_of g.S.ClientSide.sight c.args.self.now) c.args.ticket c.in-Some.place (sym c.find_out.ensures.exact ∙ c.in-Some.is))) c.hear.ensures.can c.hear.ensures.post refl c.in-Some.ensures.found.ticket c.take_kept.ensures.taken c.requires.ordered.sound.mail

pub returns-in-Some-take_kept-clause-rests : goal.returns-in-Some-take_kept-clause-rests
returns-in-Some-take_kept-clause-rests g c =
    heard_on g.S.ClientSide.fails (g.S.ClientSide.rests c.args.self.now.clients) (g.S.ClientSide.rests c.hear.new.self.clients) (lists_of g.S.ClientSide.sight c.args.self.now) (g.S.ClientSide.account c.args.self.now.clients) (Happens (Answer c.args.ticket)) c.args.ticket (λ r. Took c.args.ticket r c.in-Some-take_kept.reply) c.hear.result
    (λ before t can. can.hear c.in-Some.place c.in-Some-take_kept.reply (sym c.find_out.ensures.exact ∙ c.in-Some.is) (sym c.take_kept.ensures.reply ∙ c.in-Some-take_kept.is)) c.hear.ensures.rests

pub returns-in_default-clause-arises : goal.returns-in_default-clause-arises
returns-in_default-clause-arises g c =
    outside_to (g.S.ClientSide.arises c.args.self.now.clients) (g.S.ClientSide.arises c.args.self.now.clients) (g.S.ClientSide.holds c.args.self.now.clients) (g.S.ClientSide.holds c.args.self.now.clients) (Happens (Answer c.args.ticket)) (lists_of g.S.ClientSide.sight c.args.self.now) c.happened.result c.happened.ensures.nothing c.happened.ensures.ended
    (arises_same (g.S.ClientSide.arises c.args.self.now.clients) (g.S.ClientSide.holds c.args.self.now.clients)) (λ h e. g.S.ClientSide.arises_longer c.args.self.now.clients h e) (λ looks h knows. missed (lists_of g.S.ClientSide.sight c.args.self.now) looks h (Happens (Answer c.args.ticket)) (ap (λ (o : Option ℕ). test_at (λ k. is_some (letter_at (lists_of g.S.ClientSide.sight c.args.self.now).mail k).kept) o) (sym c.find_out.ensures.exact ∙ c.in_default.is)))

pub returns-in-None-clause-arises : goal.returns-in-None-clause-arises
returns-in-None-clause-arises g c =
    outside_to (g.S.ClientSide.arises c.args.self.now.clients) (g.S.ClientSide.arises c.args.self.now.clients) (g.S.ClientSide.holds c.args.self.now.clients) (g.S.ClientSide.holds c.args.self.now.clients) (Happens (Answer c.args.ticket)) (lists_of g.S.ClientSide.sight c.args.self.now) c.happened-in-None.result c.happened-in-None.ensures.nothing c.happened-in-None.ensures.ended
    (arises_same (g.S.ClientSide.arises c.args.self.now.clients) (g.S.ClientSide.holds c.args.self.now.clients)) (λ h e. g.S.ClientSide.arises_longer c.args.self.now.clients h e) (λ looks h knows. missed (lists_of g.S.ClientSide.sight c.args.self.now) looks h (Happens (Answer c.args.ticket)) (ap (λ (o : Option ℕ). test_at (λ k. is_some (letter_at (lists_of g.S.ClientSide.sight c.args.self.now).mail k).kept) o) (sym c.find_out.ensures.exact ∙ c.in-Some.is) ∙ ap is_some (sym c.take_kept.ensures.reply ∙ c.in-None.is)))

pub returns-in-Some-take_kept-clause-arises : goal.returns-in-Some-take_kept-clause-arises
returns-in-Some-take_kept-clause-arises g c =
    hears_to (g.S.ClientSide.arises c.args.self.now.clients) (g.S.ClientSide.arises c.hear.new.self.clients) (g.S.ClientSide.holds c.args.self.now.clients) (g.S.ClientSide.holds c.hear.new.self.clients) (Happens (Answer c.args.ticket)) (lists_of g.S.ClientSide.sight c.args.self.now) (λ r. Took c.args.ticket r c.in-Some-take_kept.reply) c.hear.result refl
    (λ looks h knows w. answer_comes (lists_of g.S.ClientSide.sight c.args.self.now) looks h (g.S.ClientSide.arises c.args.self.now.clients) (g.S.ClientSide.holds c.args.self.now.clients) knows w c.args.ticket c.in-Some.place (sym c.find_out.ensures.exact ∙ c.in-Some.is) c.in-Some-take_kept.reply (sym c.take_kept.ensures.reply ∙ c.in-Some-take_kept.is)) c.hear.ensures.arises
