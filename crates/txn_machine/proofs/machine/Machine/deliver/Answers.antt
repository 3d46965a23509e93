use Rattle.std.proofs.Common.{true, refl, sym, ap, ◌∙◌, ◌≡◌, subst, Option, ℕ}
use Rattle.txn_machine.specs.Running.{lists_of}
use Rattle.txn_post.specs.Mail.{changing, delivering, can_be_served}
use Rattle.txn_side.specs.Sight.{is_live}
use Rattle.txn_machine.specs.Lists.{Lists, reply_at}
use Rattle.txn_machine.proofs.Staying.{heard_out, live_out, rest_out}
use Rattle.txn_history.specs.Event.Event.{Took}
use Rattle.txn_lines.specs.declared.deed.Deed.TheVariants.{Happens}
use Rattle.txn_lines.specs.declared.happening.Happening.TheVariants.{Deliver}
use Rattle.txn_machine.proofs.Resting.{handled_heard, heard_on}
use Rattle.txn_machine.specs.Steps.{test_at}
use Rattle.txn_machine.proofs.Arising.{arises_same, deliver_comes, handled_arises, hears_to, missed, outside_to}
use Rattle.txn_machine.proofs.machine.Machine.deliver.Goals as goal

pub returns-in_default-clause-out : goal.returns-in_default-clause-out
returns-in_default-clause-out g c = rest_out (g.S.ClientSide.waits c.args.self.now.clients) (lists_of g.S.ClientSide.sight c.args.self.now) _ c.happened.result refl refl c.happened.ensures.nothing

pub returns-then-not-can_be_served-clause-out : goal.returns-then-not-can_be_served-clause-out
returns-then-not-can_be_served-clause-out g c = rest_out (g.S.ClientSide.waits c.args.self.now.clients) (lists_of g.S.ClientSide.sight c.args.self.now) _ c.happened-then-not-can_be_served.result refl refl c.happened-then-not-can_be_served.ensures.nothing

pub returns-clause-out : goal.returns-clause-out
returns-clause-out g c =
    heard_out (g.S.ClientSide.waits c.args.self.now.clients) (g.S.ClientSide.waits c.handle.new.self.clients) (g.S.ClientSide.waits c.hear.new.self.clients) (lists_of g.S.ClientSide.sight c.args.self.now) (lists_of g.S.ClientSide.sight (record c.handle.new.self { post = c.deliver.new.self })) (lists_of g.S.ClientSide.sight c.hear.new.self) c.args.ticket c.in-Some.place delivering c.hear.result
    (ap (λ s. g.S.ClientSide.waits s) c.in_ok-reply.ensures.clients)
    (c.hear.ensures.waits (subst (λ s. is_live (g.S.ClientSide.sight s) c.args.ticket.line ≡ true) (sym c.in_ok-reply.ensures.clients) (live_out (lists_of g.S.ClientSide.sight c.args.self.now) c.args.ticket c.in-Some.place (sym c.find_out.ensures.exact ∙ c.in-Some.is)))) c.hear.ensures.can c.hear.ensures.post
    (ap (λ s. g.S.ClientSide.sight s) c.in_ok-reply.ensures.clients) c.in-Some.ensures.found.ticket
    (c.deliver.ensures ∙ ap (λ (x : Lists). changing delivering c.in-Some.place x.mail) c.in_ok-reply.ensures.lists) c.requires.ordered.sound.mail

pub returns-clause-rests : goal.returns-clause-rests
returns-clause-rests g c =
    heard_on g.S.ClientSide.fails (g.S.ClientSide.rests c.args.self.now.clients) (g.S.ClientSide.rests c.hear.new.self.clients) (lists_of g.S.ClientSide.sight c.args.self.now) (g.S.ClientSide.account c.args.self.now.clients) (Happens (Deliver c.args.ticket)) c.args.ticket
    (λ r. Took c.args.ticket r (reply_at (lists_of g.S.ClientSide.sight c.args.self.now) c.in-Some.place)) c.hear.result
    (λ before t can. can.hear c.in-Some.place (sym c.find_out.ensures.exact ∙ c.in-Some.is) (sym c.can_be_served.ensures ∙ c.if-not-can_be_served.false))
    (handled_heard g.S.ClientSide.sight g.S.ClientSide.fails g.S.ClientSide.rests c.args.self.now.clients c.handle.new.self.clients c.hear.new.self.clients c.args.ticket c.in_ok-reply.reply _ c.hear.result c.in_ok-reply.ensures.clients c.in_ok-reply.ensures.reply c.hear.ensures.rests)

pub returns-in_default-clause-arises : goal.returns-in_default-clause-arises
returns-in_default-clause-arises g c =
    outside_to (g.S.ClientSide.arises c.args.self.now.clients) (g.S.ClientSide.arises c.args.self.now.clients) (g.S.ClientSide.holds c.args.self.now.clients) (g.S.ClientSide.holds c.args.self.now.clients) (Happens (Deliver c.args.ticket)) (lists_of g.S.ClientSide.sight c.args.self.now) c.happened.result c.happened.ensures.nothing c.happened.ensures.ended
    (arises_same (g.S.ClientSide.arises c.args.self.now.clients) (g.S.ClientSide.holds c.args.self.now.clients)) (λ h e. g.S.ClientSide.arises_longer c.args.self.now.clients h e) (λ looks h knows. missed (lists_of g.S.ClientSide.sight c.args.self.now) looks h (Happens (Deliver c.args.ticket)) (ap (λ (o : Option ℕ). test_at (λ k. can_be_served (lists_of g.S.ClientSide.sight c.args.self.now).mail k) o) (sym c.find_out.ensures.exact ∙ c.in_default.is)))

pub returns-then-not-can_be_served-clause-arises : goal.returns-then-not-can_be_served-clause-arises
returns-then-not-can_be_served-clause-arises g c =
    outside_to (g.S.ClientSide.arises c.args.self.now.clients) (g.S.ClientSide.arises c.args.self.now.clients) (g.S.ClientSide.holds c.args.self.now.clients) (g.S.ClientSide.holds c.args.self.now.clients) (Happens (Deliver c.args.ticket)) (lists_of g.S.ClientSide.sight c.args.self.now) c.happened-then-not-can_be_served.result c.happened-then-not-can_be_served.ensures.nothing c.happened-then-not-can_be_served.ensures.ended
    (arises_same (g.S.ClientSide.arises c.args.self.now.clients) (g.S.ClientSide.holds c.args.self.now.clients)) (λ h e. g.S.ClientSide.arises_longer c.args.self.now.clients h e) (λ looks h knows. missed (lists_of g.S.ClientSide.sight c.args.self.now) looks h (Happens (Deliver c.args.ticket)) (ap (λ (o : Option ℕ). test_at (λ k. can_be_served (lists_of g.S.ClientSide.sight c.args.self.now).mail k) o) (sym c.find_out.ensures.exact ∙ c.in-Some.is) ∙ (sym c.can_be_served.ensures ∙ c.if-not-can_be_served.true)))

pub returns-clause-arises : goal.returns-clause-arises
returns-clause-arises g c =
    hears_to (g.S.ClientSide.arises c.args.self.now.clients) (g.S.ClientSide.arises c.hear.new.self.clients) (g.S.ClientSide.holds c.args.self.now.clients) (g.S.ClientSide.holds c.hear.new.self.clients) (Happens (Deliver c.args.ticket)) (lists_of g.S.ClientSide.sight c.args.self.now)
    (λ r. Took c.args.ticket r (reply_at (lists_of g.S.ClientSide.sight c.args.self.now) c.in-Some.place)) c.hear.result refl
    (λ looks h knows w. deliver_comes (lists_of g.S.ClientSide.sight c.args.self.now) looks h (g.S.ClientSide.arises c.args.self.now.clients) (g.S.ClientSide.holds c.args.self.now.clients) knows w c.args.ticket c.in-Some.place (sym c.find_out.ensures.exact ∙ c.in-Some.is) (λ h e. g.S.ClientSide.arises_longer c.args.self.now.clients h e) (sym c.can_be_served.ensures ∙ c.if-not-can_be_served.false))
    (handled_arises g.S.ClientSide.sight g.S.ClientSide.arises g.S.ClientSide.holds c.args.self.now.clients c.handle.new.self.clients c.hear.new.self.clients c.args.ticket c.in_ok-reply.reply _ c.hear.result c.in_ok-reply.ensures.clients c.in_ok-reply.ensures.reply c.hear.ensures.arises)
