use Rattle.std.proofs.Common.{List, get_or, refl, sym, ap, ◌∙◌, Option, ℕ, Bool, ◌&&◌, is_some}
use Rattle.txn_history.specs.Busy.{busy_reply}
use Rattle.txn_machine.specs.Lists.{request_in, request_at}
use Rattle.txn_machine.specs.Running.{lists_of}
use Rattle.txn_post.specs.Mail.{refusing, can_be_served}
use Rattle.txn_machine.proofs.Staying.{heard_out, live_out, rest_out}
use Rattle.txn_history.specs.Event.Event.{Took}
use Rattle.txn_lines.specs.declared.deed.Deed.TheVariants.{Happens}
use Rattle.txn_lines.specs.declared.happening.Happening.TheVariants.{Busy}
use Rattle.txn_report.specs.declared.report.SentNote.{SentNote}
use Rattle.txn_machine.proofs.Noting.{there_is}
use Rattle.txn_machine.proofs.Resting.{heard_on}
use Rattle.txn_machine.specs.Steps.{test_at}
use Rattle.txn_machine.proofs.Arising.{arises_same, busy_comes, hears_to, missed, outside_to}
use Rattle.txn_machine.proofs.machine.Machine.busy.Goals as goal

pub returns-in_default-clause-out : goal.returns-in_default-clause-out
returns-in_default-clause-out g c = rest_out (g.S.ClientSide.waits c.args.self.now.clients) (lists_of g.S.ClientSide.sight c.args.self.now) _ c.happened.result refl refl c.happened.ensures.nothing

pub returns-then-not-can_be_served-clause-out : goal.returns-then-not-can_be_served-clause-out
returns-then-not-can_be_served-clause-out g c = rest_out (g.S.ClientSide.waits c.args.self.now.clients) (lists_of g.S.ClientSide.sight c.args.self.now) _ c.happened-then-not-can_be_served.result refl refl c.happened-then-not-can_be_served.ensures.nothing

pub returns-in-None-clause-out : goal.returns-in-None-clause-out
returns-in-None-clause-out g c = rest_out (g.S.ClientSide.waits c.args.self.now.clients) (lists_of g.S.ClientSide.sight c.args.self.now) _ c.happened-in-None.result refl refl c.happened-in-None.ensures.nothing

pub returns-in-Some-busy_reply-clause-out : goal.returns-in-Some-busy_reply-clause-out
returns-in-Some-busy_reply-clause-out g c =
    heard_out (g.S.ClientSide.waits c.args.self.now.clients) (g.S.ClientSide.waits c.args.self.now.clients) (g.S.ClientSide.waits c.hear.new.self.clients) (lists_of g.S.ClientSide.sight c.args.self.now) (lists_of g.S.ClientSide.sight (record c.args.self.now { post = c.refuse.new.self })) (lists_of g.S.ClientSide.sight c.hear.new.self) c.args.ticket c.in-Some.place refusing c.hear.result refl
    (c.hear.ensures.waits (live_out (lists_of g.S.ClientSide.sight c.args.self.now) c.args.ticket c.in-Some.place (sym c.find_out.ensures.exact ∙ c.in-Some.is))) c.hear.ensures.can c.hear.ensures.post refl c.in-Some.ensures.found.ticket c.refuse.ensures c.requires.ordered.sound.mail

pub returns-in-Some-busy_reply-clause-rests : goal.returns-in-Some-busy_reply-clause-rests
returns-in-Some-busy_reply-clause-rests g c =
    heard_on g.S.ClientSide.fails (g.S.ClientSide.rests c.args.self.now.clients) (g.S.ClientSide.rests c.hear.new.self.clients) (lists_of g.S.ClientSide.sight c.args.self.now) (g.S.ClientSide.account c.args.self.now.clients) (Happens (Busy c.args.ticket)) c.args.ticket (λ r. Took c.args.ticket r c.in-Some-busy_reply.reply) c.hear.result
    (λ before t can. can.hear c.in-Some.place c.in-Some-busy_reply.reply (sym c.find_out.ensures.exact ∙ c.in-Some.is) (sym c.can_be_served.ensures ∙ c.if-not-can_be_served.false)
    (ap (λ o. busy_reply (request_in o)) (there_is c.args.self.now.post.sent c.in-Some.place c.index-sent-place.result c.in-Some.ensures.found.below)
    ∙ ap (λ (ss : List SentNote). busy_reply (get_or ss c.in-Some.place c.index-sent-place.result).request) (sym c.sent.ensures.value) ∙ sym c.busy_reply.ensures ∙ c.in-Some-busy_reply.is))
    c.hear.ensures.rests

pub returns-in_default-clause-arises : goal.returns-in_default-clause-arises
returns-in_default-clause-arises g c =
    outside_to (g.S.ClientSide.arises c.args.self.now.clients) (g.S.ClientSide.arises c.args.self.now.clients) (g.S.ClientSide.holds c.args.self.now.clients) (g.S.ClientSide.holds c.args.self.now.clients) (Happens (Busy c.args.ticket)) (lists_of g.S.ClientSide.sight c.args.self.now) c.happened.result c.happened.ensures.nothing c.happened.ensures.ended
    (arises_same (g.S.ClientSide.arises c.args.self.now.clients) (g.S.ClientSide.holds c.args.self.now.clients)) (λ h e. g.S.ClientSide.arises_longer c.args.self.now.clients h e) (λ looks h knows. missed (lists_of g.S.ClientSide.sight c.args.self.now) looks h (Happens (Busy c.args.ticket)) (ap (λ (o : Option ℕ). test_at (λ k. can_be_served (lists_of g.S.ClientSide.sight c.args.self.now).mail k && is_some (busy_reply (request_at (lists_of g.S.ClientSide.sight c.args.self.now) k))) o) (sym c.find_out.ensures.exact ∙ c.in_default.is)))

pub returns-then-not-can_be_served-clause-arises : goal.returns-then-not-can_be_served-clause-arises
returns-then-not-can_be_served-clause-arises g c =
    outside_to (g.S.ClientSide.arises c.args.self.now.clients) (g.S.ClientSide.arises c.args.self.now.clients) (g.S.ClientSide.holds c.args.self.now.clients) (g.S.ClientSide.holds c.args.self.now.clients) (Happens (Busy c.args.ticket)) (lists_of g.S.ClientSide.sight c.args.self.now) c.happened-then-not-can_be_served.result c.happened-then-not-can_be_served.ensures.nothing c.happened-then-not-can_be_served.ensures.ended
    (arises_same (g.S.ClientSide.arises c.args.self.now.clients) (g.S.ClientSide.holds c.args.self.now.clients)) (λ h e. g.S.ClientSide.arises_longer c.args.self.now.clients h e) (λ looks h knows. missed (lists_of g.S.ClientSide.sight c.args.self.now) looks h (Happens (Busy c.args.ticket)) (ap (λ (o : Option ℕ). test_at (λ k. can_be_served (lists_of g.S.ClientSide.sight c.args.self.now).mail k && is_some (busy_reply (request_at (lists_of g.S.ClientSide.sight c.args.self.now) k))) o) (sym c.find_out.ensures.exact ∙ c.in-Some.is) ∙ ap (λ (b : Bool). b && is_some (busy_reply (request_at (lists_of g.S.ClientSide.sight c.args.self.now) c.in-Some.place))) (sym c.can_be_served.ensures ∙ c.if-not-can_be_served.true)))

pub returns-in-None-clause-arises : goal.returns-in-None-clause-arises
returns-in-None-clause-arises g c =
    outside_to (g.S.ClientSide.arises c.args.self.now.clients) (g.S.ClientSide.arises c.args.self.now.clients) (g.S.ClientSide.holds c.args.self.now.clients) (g.S.ClientSide.holds c.args.self.now.clients) (Happens (Busy c.args.ticket)) (lists_of g.S.ClientSide.sight c.args.self.now) c.happened-in-None.result c.happened-in-None.ensures.nothing c.happened-in-None.ensures.ended
    (arises_same (g.S.ClientSide.arises c.args.self.now.clients) (g.S.ClientSide.holds c.args.self.now.clients)) (λ h e. g.S.ClientSide.arises_longer c.args.self.now.clients h e) (λ looks h knows. missed (lists_of g.S.ClientSide.sight c.args.self.now) looks h (Happens (Busy c.args.ticket)) (let can = (sym c.can_be_served.ensures ∙ c.if-not-can_be_served.false) in let busy = (ap (λ o. busy_reply (request_in o)) (there_is c.args.self.now.post.sent c.in-Some.place c.index-sent-place.result c.in-Some.ensures.found.below)
    ∙ ap (λ (ss : List SentNote). busy_reply (get_or ss c.in-Some.place c.index-sent-place.result).request) (sym c.sent.ensures.value) ∙ sym c.busy_reply.ensures ∙ c.in-None.is) in ap (λ (o : Option ℕ). test_at (λ k. can_be_served (lists_of g.S.ClientSide.sight c.args.self.now).mail k && is_some (busy_reply (request_at (lists_of g.S.ClientSide.sight c.args.self.now) k))) o) (sym c.find_out.ensures.exact ∙ c.in-Some.is) ∙ (λ i. can i && is_some (busy i))))

pub returns-in-Some-busy_reply-clause-arises : goal.returns-in-Some-busy_reply-clause-arises
returns-in-Some-busy_reply-clause-arises g c =
    hears_to (g.S.ClientSide.arises c.args.self.now.clients) (g.S.ClientSide.arises c.hear.new.self.clients) (g.S.ClientSide.holds c.args.self.now.clients) (g.S.ClientSide.holds c.hear.new.self.clients) (Happens (Busy c.args.ticket)) (lists_of g.S.ClientSide.sight c.args.self.now) (λ r. Took c.args.ticket r c.in-Some-busy_reply.reply) c.hear.result refl
    (λ looks h knows w. busy_comes (lists_of g.S.ClientSide.sight c.args.self.now) looks h (g.S.ClientSide.arises c.args.self.now.clients) (g.S.ClientSide.holds c.args.self.now.clients) knows w c.args.ticket c.in-Some.place (sym c.find_out.ensures.exact ∙ c.in-Some.is) (λ h e. g.S.ClientSide.arises_longer c.args.self.now.clients h e) (sym c.can_be_served.ensures ∙ c.if-not-can_be_served.false) c.in-Some-busy_reply.reply
    (ap (λ o. busy_reply (request_in o)) (there_is c.args.self.now.post.sent c.in-Some.place c.index-sent-place.result c.in-Some.ensures.found.below)
    ∙ ap (λ (ss : List SentNote). busy_reply (get_or ss c.in-Some.place c.index-sent-place.result).request) (sym c.sent.ensures.value) ∙ sym c.busy_reply.ensures ∙ c.in-Some-busy_reply.is))
    c.hear.ensures.arises
