use Rattle.std.proofs.Common.{arith, ◌∷◌, ◌<◌, length, refl, sym, ap, ◌∙◌, subst}
use Rattle.txn_side.specs.Sight.{next_at}
use Rattle.txn_clients.specs.Clients.{nexts_of, sight_of, stands_of}
use Rattle.txn_clients.specs.Going.{AreNext}
use Rattle.txn_clients.proofs.Advances.{advances_quiet, advances_then, next_done, next_first, next_left}
use Rattle.txn_clients.proofs.Listening.{live_after}
use Rattle.txn_clients.proofs.Tables.{line_kept}
use Rattle.txn_clients.specs.Arising.{HandsAll}
use Rattle.txn_clients.specs.Waiting.{HandsOn}
use Rattle.txn_clients.proofs.Grouping.{hands_nothing, hands_then}
use Rattle.txn_clients.proofs.Handing.{all_nothing, all_then}
use Rattle.txn_clients.proofs.Kept.{nil_so}
use Rattle.txn_clients.proofs.clients.Clients.hand_out.Goals as goal

pub loop-errand-init : goal.loop-errand-init
loop-errand-init g c = record {
  advances = advances_quiet c.args.turn.now (sight_of c.args.self.now) (sight_of c.args.self.now) refl;
  ended = refl;
  rows = refl;
  crashed = refl;
  hands = subst (λ es. HandsOn c.args.line c.args.client c.args.sends.items es c.args.turn.now.posted.items c.args.turn.now.posted.items c.args.self.now c.args.self.now) (sym c.into_iter-errand-iterator.ensures.into_iter_gives.0) (hands_nothing c.args.line c.args.client c.args.sends.items c.args.turn.now.posted.items c.args.self.now);
  exact = subst (λ es. HandsAll c.args.line c.args.client c.args.sends.items es c.args.turn.now.posted.items c.args.turn.now.posted.items c.args.self.now c.args.self.now) (sym c.into_iter-errand-iterator.ensures.into_iter_gives.0) (all_nothing c.args.line c.args.client c.args.sends.items c.args.turn.now.posted.items c.args.self.now);
  next = subst (AreNext (next_at (nexts_of c.args.self.now) c.args.line)) (sym c.into_iter-errand-iterator.ensures.into_iter_gives.0) c.requires.next;
}

pub hand_on-requires-clause-line : goal.hand_on-requires-clause-line
hand_on-requires-clause-line g c = line_kept c.args.self.now c.loop-errand.self c.args.line c.loop-errand.invariant.rows c.requires.line

pub hand_on-requires-clause-live : goal.hand_on-requires-clause-live
hand_on-requires-clause-live g c = live_after (sight_of c.args.self.now) (sight_of c.loop-errand.self) c.args.line c.loop-errand.invariant.crashed (ap stands_of c.loop-errand.invariant.rows) c.requires.live

pub hand_on-requires-clause-client : goal.hand_on-requires-clause-client
hand_on-requires-clause-client g c = subst (λ cs. c.args.client < length cs) (sym c.loop-errand.invariant.crashed) c.requires.client

pub hand_on-requires-clause-next : goal.hand_on-requires-clause-next
hand_on-requires-clause-next g c =
    let rest = c.next.new.self.rest.items in
    next_first _ c.in-Some.errand rest (next_left _ c.loop-errand.errand-iterator.rest.items c.in-Some.errand rest c.in-Some.ensures.steps.0 c.loop-errand.invariant.next)

pub loop-errand-preserved : goal.loop-errand-preserved
loop-errand-preserved g c =
    let done = c.in_ok-hand_on.ensures in
    record {
      advances = advances_then c.args.turn.now c.loop-errand.turn c.hand_on.new.turn (sight_of c.args.self.now) (sight_of c.loop-errand.self) (sight_of c.hand_on.new.self) c.loop-errand.invariant.advances done.advances;
      ended = done.ended ∙ c.loop-errand.invariant.ended;
      rows = done.rows ∙ c.loop-errand.invariant.rows;
      crashed = done.crashed ∙ c.loop-errand.invariant.crashed;
      hands = hands_then c.args.line c.args.client c.args.sends.items (c.in-Some.errand ∷ c.next.new.self.rest.items) c.next.new.self.rest.items c.args.turn.now.posted.items c.loop-errand.turn.posted.items c.hand_on.new.turn.posted.items c.args.self.now c.loop-errand.self c.hand_on.new.self
          (subst (λ es. HandsOn c.args.line c.args.client c.args.sends.items es c.args.turn.now.posted.items c.loop-errand.turn.posted.items c.args.self.now c.loop-errand.self) c.in-Some.ensures.steps.0 c.loop-errand.invariant.hands) (done.hands c.next.new.self.rest.items);
      exact = all_then c.args.line c.args.client c.args.sends.items (c.in-Some.errand ∷ c.next.new.self.rest.items) c.next.new.self.rest.items c.args.turn.now.posted.items c.loop-errand.turn.posted.items c.hand_on.new.turn.posted.items c.args.self.now c.loop-errand.self c.hand_on.new.self
          (subst (λ es. HandsAll c.args.line c.args.client c.args.sends.items es c.args.turn.now.posted.items c.loop-errand.turn.posted.items c.args.self.now c.loop-errand.self) c.in-Some.ensures.steps.0 c.loop-errand.invariant.exact) (done.exact c.next.new.self.rest.items);
      next = next_done _ _ c.loop-errand.errand-iterator.rest.items c.in-Some.errand c.next.new.self.rest.items c.in-Some.ensures.steps.0 done.next c.loop-errand.invariant.next;
    }

pub returns-clause-hands : goal.returns-clause-hands
returns-clause-hands g c =
    let rest = c.loop-errand.errand-iterator.rest in
    let none = c.in-None.ensures.steps.0 in
    let none_left = nil_so rest.items (let ok = rest.ok in omega (arith, ok, none)) in
    subst (λ es. HandsOn c.args.line c.args.client c.args.sends.items es c.args.turn.now.posted.items c.loop-errand.turn.posted.items c.args.self.now c.loop-errand.self) none_left c.loop-errand.invariant.hands

pub returns-clause-exact : goal.returns-clause-exact
returns-clause-exact g c =
    let rest = c.loop-errand.errand-iterator.rest in
    let none = c.in-None.ensures.steps.0 in
    let none_left = nil_so rest.items (let ok = rest.ok in omega (arith, ok, none)) in
    subst (λ es. HandsAll c.args.line c.args.client c.args.sends.items es c.args.turn.now.posted.items c.loop-errand.turn.posted.items c.args.self.now c.loop-errand.self) none_left c.loop-errand.invariant.exact
