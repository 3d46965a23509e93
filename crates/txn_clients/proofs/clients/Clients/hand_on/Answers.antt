use Rattle.std.proofs.Common.{◌≡◌, [], ◌∷◌, ◌++◌, subst, sym, ap}
use Rattle.txn_kv.specs.declared.ticket.Ticket.{Ticket}
use Rattle.txn_side.specs.Waiting.Awaited.{EndOf}
use Rattle.txn_side.specs.declared.turn.Posting.TheVariants.{Sleep}
use Rattle.txn_clients.proofs.Grouping.{hands_asked, hands_sent, hands_slept}
use Rattle.txn_clients.proofs.Handing.{all_asked, all_sent, all_slept}
use Rattle.txn_clients.proofs.Numbers.{ok_five, ok_four, ok_three}
use Rattle.txn_clients.proofs.Places.{both_ok}
use Rattle.txn_history.specs.Posted.{Errand}
use Rattle.txn_clients.specs.Arising.{HandsAll}
use Rattle.txn_clients.specs.Waiting.{HandsOn}
use Rattle.txn_clients.proofs.clients.Clients.hand_on.Goals as goal

pub returns-in-Send-clause-hands : goal.returns-in-Send-clause-hands
returns-in-Send-clause-hands g c = ok_five c.send.result
    (λ mail posts nexts asks clients rest. subst (λ (r : Errand). HandsOn c.args.line c.args.client (r ∷ rest) rest c.args.turn.now.posted.items c.send.new.turn.posted.items c.args.self.now c.send.new.self) (sym c.in-Send.is) (hands_sent c.args.line c.args.client c.in-Send.number c.in-Send.to c.in-Send.request rest c.args.turn.now.posted.items c.send.new.turn.posted.items c.args.self.now c.send.new.self c.requires.line mail posts nexts asks clients))
    c.send.ensures.sent c.send.ensures.posts c.send.ensures.nexts c.send.ensures.asks c.send.ensures.clients

pub returns-in-Sleep-clause-hands : goal.returns-in-Sleep-clause-hands
returns-in-Sleep-clause-hands g c = ok_four c.post.result
    (λ pushed nexts asks clients rest. subst (λ (r : Errand). HandsOn c.args.line c.args.client (r ∷ rest) rest c.args.turn.now.posted.items c.post.new.turn.posted.items c.args.self.now c.post.new.self) (sym c.in-Sleep.is) (hands_slept c.args.line c.args.client c.in-Sleep.number _ rest c.args.turn.now.posted.items c.post.new.turn.posted.items c.args.self.now c.post.new.self c.requires.line
    (record { posting = _; pushed = pushed; line_is = ap (λ (t : Ticket). t.line) c.ticket_of.ensures; unbeaten = ap (λ (t : Ticket). t.beat) c.ticket_of.ensures; awaited = ap (λ (t : Ticket). EndOf t.number) c.ticket_of.ensures }) nexts asks clients))
    c.post.ensures.posted c.post.ensures.nexts c.post.ensures.asks c.post.ensures.clients

pub returns-in-Ask-clause-hands : goal.returns-in-Ask-clause-hands
returns-in-Ask-clause-hands g c = both_ok c.ask_oracle.result (λ asks nexts rest. subst (λ (r : Errand). HandsOn c.args.line c.args.client (r ∷ rest) rest c.args.turn.now.posted.items c.args.turn.now.posted.items c.args.self.now c.ask_oracle.new.self) (sym c.in-Ask.is) (hands_asked c.args.line c.args.client c.in-Ask.ask rest c.args.turn.now.posted.items c.args.self.now c.ask_oracle.new.self asks nexts)) c.ask_oracle.ensures.asks c.ask_oracle.ensures.nexts

pub returns-in-Send-clause-exact : goal.returns-in-Send-clause-exact
returns-in-Send-clause-exact g c = ok_three c.send.result
    (λ posted nexts clients rest. subst (λ (r : Errand). HandsAll c.args.line c.args.client (r ∷ rest) rest c.args.turn.now.posted.items c.send.new.turn.posted.items c.args.self.now c.send.new.self) (sym c.in-Send.is) (all_sent c.args.line c.args.client c.in-Send.number c.in-Send.to c.in-Send.request rest c.args.turn.now.posted.items c.send.new.turn.posted.items c.args.self.now c.send.new.self c.requires.line posted nexts clients))
    c.send.ensures.exact c.send.ensures.nexts c.send.ensures.clients

pub returns-in-Sleep-clause-exact : goal.returns-in-Sleep-clause-exact
returns-in-Sleep-clause-exact g c = ok_three c.post.result
    (λ posted nexts clients rest. subst (λ (r : Errand). HandsAll c.args.line c.args.client (r ∷ rest) rest c.args.turn.now.posted.items c.post.new.turn.posted.items c.args.self.now c.post.new.self) (sym c.in-Sleep.is) (all_slept c.args.line c.args.client c.in-Sleep.number _ rest c.args.turn.now.posted.items c.post.new.turn.posted.items c.args.self.now c.post.new.self c.requires.line
    (subst (λ (u : Ticket). c.post.new.turn.posted.items ≡ c.args.turn.now.posted.items ++ Sleep u ∷ []) c.ticket_of.ensures posted) nexts clients))
    c.post.ensures.posted c.post.ensures.nexts c.post.ensures.clients

pub returns-in-Ask-clause-exact : goal.returns-in-Ask-clause-exact
returns-in-Ask-clause-exact g c = both_ok c.ask_oracle.result (λ asks nexts rest. subst (λ (r : Errand). HandsAll c.args.line c.args.client (r ∷ rest) rest c.args.turn.now.posted.items c.args.turn.now.posted.items c.args.self.now c.ask_oracle.new.self) (sym c.in-Ask.is) (all_asked c.args.line c.args.client c.in-Ask.ask rest c.args.turn.now.posted.items c.args.self.now c.ask_oracle.new.self asks nexts)) c.ask_oracle.ensures.asks c.ask_oracle.ensures.nexts
