use Rattle.std.proofs.Common.{refl, ap, ◌∙◌}
use Rattle.txn_post.specs.Mail.{Mail}
use Rattle.txn_machine.specs.Lists.{Lists, newest}
use Rattle.txn_machine.specs.Running.{lists_of}
use Rattle.txn_machine.proofs.Staying.{rest_out, served_out}
use Rattle.txn_lines.specs.declared.deed.Deed.TheVariants.{Happens}
use Rattle.txn_lines.specs.declared.happening.Happening.TheVariants.{Serve}
use Rattle.txn_machine.proofs.Arising.{arises_same, outside_to, serve_comes, still_moved}
use Rattle.txn_machine.proofs.Numbers.{can_end}
use Rattle.txn_machine.proofs.machine.Machine.serve.Goals as goal

pub returns-clause-can : goal.returns-clause-can
returns-clause-can g c =
    can_end c.happened-2.result (lists_of g.S.ClientSide.sight c.args.self.now) _ (ap (λ (l : Lists). newest l) c.in_ok-reply.ensures.lists) (ap (λ (m : Mail). m.tickets) c.keep.ensures ∙ ap (λ (l : Lists). l.mail.tickets) c.in_ok-reply.ensures.lists) (ap (λ (l : Lists). l.sight) c.in_ok-reply.ensures.lists)
    c.happened-2.ensures.nothing c.requires.some c.requires.ordered.even

pub returns-in_default-clause-out : goal.returns-in_default-clause-out
returns-in_default-clause-out g c = rest_out (g.S.ClientSide.waits c.args.self.now.clients) (lists_of g.S.ClientSide.sight c.args.self.now) _ c.happened.result refl refl c.happened.ensures.nothing

pub returns-clause-out : goal.returns-clause-out
returns-clause-out g c =
    served_out (g.S.ClientSide.waits c.args.self.now.clients) _ (lists_of g.S.ClientSide.sight c.args.self.now) (lists_of g.S.ClientSide.sight c.handle.new.self) _ c.happened-2.result c.args.ticket c.in-Some.place c.in_ok-reply.reply c.in_ok-reply.ensures.lists (ap (λ s. g.S.ClientSide.waits s) c.in_ok-reply.ensures.clients)
    refl c.keep.ensures c.in-Some.ensures.found.below c.requires.ordered.sound.mail c.happened-2.ensures.nothing

pub returns-in_default-clause-arises : goal.returns-in_default-clause-arises
returns-in_default-clause-arises g c =
    outside_to (g.S.ClientSide.arises c.args.self.now.clients) (g.S.ClientSide.arises c.args.self.now.clients) (g.S.ClientSide.holds c.args.self.now.clients) (g.S.ClientSide.holds c.args.self.now.clients) (Happens (Serve c.args.ticket)) (lists_of g.S.ClientSide.sight c.args.self.now) c.happened.result c.happened.ensures.nothing c.happened.ensures.ended
    (arises_same (g.S.ClientSide.arises c.args.self.now.clients) (g.S.ClientSide.holds c.args.self.now.clients)) (λ h e. g.S.ClientSide.arises_longer c.args.self.now.clients h e) (λ looks h knows. serve_comes (lists_of g.S.ClientSide.sight c.args.self.now) looks h c.args.ticket knows)

pub returns-clause-arises : goal.returns-clause-arises
returns-clause-arises g c =
    outside_to (g.S.ClientSide.arises c.args.self.now.clients) (g.S.ClientSide.arises c.handle.new.self.clients) (g.S.ClientSide.holds c.args.self.now.clients) (g.S.ClientSide.holds c.handle.new.self.clients) (Happens (Serve c.args.ticket)) (lists_of g.S.ClientSide.sight c.args.self.now) c.happened-2.result c.happened-2.ensures.nothing c.happened-2.ensures.ended
    (still_moved g.S.ClientSide.arises g.S.ClientSide.holds c.args.self.now.clients c.handle.new.self.clients c.in_ok-reply.ensures.clients) (λ h e. g.S.ClientSide.arises_longer c.handle.new.self.clients h e) (λ looks h knows. serve_comes (lists_of g.S.ClientSide.sight c.args.self.now) looks h c.args.ticket knows)
