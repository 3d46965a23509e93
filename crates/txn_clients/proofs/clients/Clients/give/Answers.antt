use Rattle.std.proofs.Common.{arith, ◌∙◌, ◌++◌, ◌∷◌, [], inl, inr, refl, subst, sym, map}
use Rattle.std.proofs.lemmas.List.Elements.{All-tail}
use Rattle.std.specs.List.{All}
use Rattle.txn_history.specs.Among.{IsAmong}
use Rattle.txn_kv.specs.declared.arrival.Arrival.TheVariants.{Time}
use Rattle.txn_clients.specs.Accounts.{account_at}
use Rattle.txn_clients.specs.Clients.{rows_of, sight_of}
use Rattle.txn_clients.specs.Going.{OfLine}
use Rattle.txn_clients.specs.Groups.{IsTimeFor, IsTimed}
use Rattle.txn_clients.specs.Rows.{Brings}
use Rattle.txn_clients.proofs.Accounting.{closed_so, closes_then, nothing_closed}
use Rattle.txn_clients.proofs.Advances.{advances_all, advances_quiet, advances_then}
use Rattle.txn_clients.proofs.Naming.{names_quiet, names_then, names_weaker}
use Rattle.txn_clients.proofs.Timestamps.{timed_by}
use Rattle.txn_clients.specs.Waiting.{HearsAt, IsSound, GoesOn}
use Rattle.txn_clients.specs.declared.told.Told.TheVariants.{Heard}
use Rattle.txn_clients.proofs.Settling.{goes_on, quiet_goes}
use Rattle.txn_tso.specs.Calling.{members}
use Rattle.txn_tso.specs.Oracle.{Answer}
use Rattle.txn_clients.proofs.Kept.{nil_so}
use Rattle.txn_clients.specs.Failing.{owing_all, posting_in, refused_of}
use Rattle.txn_clients.proofs.Giving.{first_sound, first_told, given_came, goes_longer, owing_none}
use Rattle.txn_clients.proofs.Sounding.{no_more}
use Rattle.txn_clients.specs.Arising.{Arisen}
use Rattle.txn_clients.proofs.Chaining.{leads_nothing}
use Rattle.txn_clients.proofs.Grouped.{LeadsGiving, gives_next, plain_asker}
use Rattle.txn_clients.proofs.clients.Clients.give.Goals as goal

pub loop-asker-init : goal.loop-asker-init
loop-asker-init g c = record {
  advances = advances_quiet c.args.turn.now (sight_of c.args.self.now) (sight_of c.args.self.now) refl;
  names = names_quiet (IsTimed c.args.given.items) c.args.turn.now c.args.turn.now refl;
  ready = c.requires.ready;
  accounts = λ posted ended. closed_so (sight_of c.args.self.now) [] c.args.turn.now.ended.items (account_at (rows_of c.args.self.now)) (account_at (rows_of c.args.self.now)) ended (nothing_closed (sight_of c.args.self.now) (account_at (rows_of c.args.self.now)) (account_at (rows_of c.args.self.now)) (λ n. refl));
  crashed = refl;
  waits = λ trace given sound.
      let now = c.args.turn.now.posted.items in
      quiet_goes _ _ c.args.self.now c.args.self.now c.args.client _ now c.args.turn.now.ended.items c.args.turn.now.ended.items (subst (λ xs. IsSound g.P.Plans.ways (posting_in now (owing_all (refused_of xs) trace)) (map (λ (a : Answer). a.0) xs) c.args.self.now) (sym c.into_iter-asker-iterator.ensures.into_iter_gives.0) sound)
      (no_more _ _ c.args.turn.now.ended.items) (λ n a x. x) (λ n. refl);
  runs = λ running. running;
  leads = λ posted ended askers h f.
      leads_nothing g.P.Plans.ways askers _ c.args.turn.now.posted.items c.args.turn.now.ended.items _ c.args.self.now h (subst (λ xs. Arisen g.P.Plans.ways c.args.self.now askers xs h) (sym c.into_iter-asker-iterator.ensures.into_iter_gives.0) f);
  times = subst (All IsTimeFor) (sym c.into_iter-asker-iterator.ensures.into_iter_gives.0) c.requires.times;
  rest = λ a among. subst (λ xs. IsAmong xs a) c.into_iter-asker-iterator.ensures.into_iter_gives.0 among;
}

pub loop-asker-preserved : goal.loop-asker-preserved
loop-asker-preserved g c =
    let here_among = c.loop-asker.invariant.rest (c.in-Some.asker, c.in-Some.answer) (subst (λ xs. IsAmong xs (c.in-Some.asker, c.in-Some.answer)) (sym c.in-Some.ensures.steps.0) (inl refl)) in
    record {
      advances = advances_then c.args.turn.now c.loop-asker.turn c.tell_line.new.turn (sight_of c.args.self.now) (sight_of c.loop-asker.self) (sight_of c.tell_line.new.self) c.loop-asker.invariant.advances c.in_ok-tell_line.ensures.advances;
      names = names_then (IsTimed c.args.given.items) c.args.turn.now c.loop-asker.turn c.tell_line.new.turn c.loop-asker.invariant.names
          (names_weaker (OfLine c.in-Some.asker.line (Brings (Time c.in-Some.asker.ask c.in-Some.answer))) (IsTimed c.args.given.items) c.loop-asker.turn c.tell_line.new.turn
          (λ n v q. timed_by c.args.given.items c.in-Some.asker c.in-Some.answer n v here_among q.0 q.1) c.in_ok-tell_line.ensures.names);
      ready = c.in_ok-tell_line.ensures.ready;
      accounts = λ posted ended.
          let part = c.in_ok-tell_line.ensures.accounts in
          closed_so (sight_of c.args.self.now) (c.loop-asker.turn.ended.items ++ part.more) c.tell_line.new.turn.ended.items (account_at (rows_of c.args.self.now)) (account_at (rows_of c.tell_line.new.self)) part.ended
          (closes_then c.loop-asker.turn.posted.items c.loop-asker.turn.ended.items part.more (sight_of c.args.self.now) (sight_of c.loop-asker.self) (account_at (rows_of c.args.self.now)) (account_at (rows_of c.loop-asker.self)) (account_at (rows_of c.tell_line.new.self))
          (advances_all c.args.turn.now c.loop-asker.turn (sight_of c.args.self.now) (sight_of c.loop-asker.self) posted ended c.loop-asker.invariant.advances) (c.loop-asker.invariant.accounts posted ended) part.closed);
      crashed = c.in_ok-tell_line.ensures.crashed ∙ c.loop-asker.invariant.crashed;
      waits = λ trace given sound.
          let first = c.loop-asker.invariant.waits trace given sound in
          let left = map (λ (a : Answer). a.0) c.next.new.self.rest.items in
          let later = owing_all (refused_of c.next.new.self.rest.items) trace in
          let here = first_sound g.P.Plans.ways trace c.loop-asker.turn.posted.items c.loop-asker.self c.loop-asker.asker-iterator.rest.items (c.in-Some.asker, c.in-Some.answer) c.next.new.self.rest.items c.in-Some.ensures.steps.0 first.sound in
          let so_far = goes_longer g.P.Plans.ways (owing_all (refused_of c.loop-asker.asker-iterator.rest.items) trace) later c.args.self.now c.loop-asker.self c.args.client (λ n a. ⊥) (map (λ (a : Answer). a.0) c.loop-asker.asker-iterator.rest.items) c.args.turn.now.posted.items c.loop-asker.turn.posted.items c.args.turn.now.ended.items c.loop-asker.turn.ended.items
          (first_told c.loop-asker.asker-iterator.rest.items (c.in-Some.asker, c.in-Some.answer) c.next.new.self.rest.items trace c.in-Some.ensures.steps.0) first in
          let came = given_came trace (refused_of c.next.new.self.rest.items) c.loop-asker.turn.posted.items c.args.given.items c.in-Some.asker c.in-Some.answer given here_among in
          goes_on _ later c.args.self.now c.loop-asker.self c.tell_line.new.self c.args.client (λ n a. ⊥) (HearsAt c.in-Some.asker.line (Heard (Time c.in-Some.asker.ask c.in-Some.answer))) _ left c.args.turn.now.posted.items c.loop-asker.turn.posted.items c.tell_line.new.turn.posted.items c.args.turn.now.ended.items c.loop-asker.turn.ended.items c.tell_line.new.turn.ended.items so_far
          (c.in_ok-tell_line.ensures.waits later c.args.client left (c.if-not-is_of.ensures.live refl) (c.if-not-is_of.ensures.own refl) came here);
      runs = λ running. c.in_ok-tell_line.ensures.runs (c.loop-asker.invariant.runs running);
      leads = λ posted ended askers h f.
          let first = c.loop-asker.invariant.leads posted ended askers h f in
          let here = subst (λ a. Arisen g.P.Plans.ways c.loop-asker.self askers ((a, c.in-Some.answer) ∷ c.next.new.self.rest.items) first.later) (sym (plain_asker c.in-Some.asker c.if-asker.false)) (subst (λ xs. Arisen g.P.Plans.ways c.loop-asker.self askers xs first.later) c.in-Some.ensures.steps.0 first.arisen) in
          gives_next g.P.Plans.ways c.args.self.now c.loop-asker.self c.tell_line.new.self askers c.loop-asker.asker-iterator.rest.items c.next.new.self.rest.items c.args.turn.now.posted.items c.loop-asker.turn.posted.items c.tell_line.new.turn.posted.items c.loop-asker.turn.posted.items c.args.turn.now.ended.items c.loop-asker.turn.ended.items c.tell_line.new.turn.ended.items h
          (advances_all c.args.turn.now c.loop-asker.turn (sight_of c.args.self.now) (sight_of c.loop-asker.self) posted ended c.loop-asker.invariant.advances)
          (advances_all c.args.turn.now c.tell_line.new.turn (sight_of c.args.self.now) (sight_of c.tell_line.new.self) posted ended (advances_then c.args.turn.now c.loop-asker.turn c.tell_line.new.turn (sight_of c.args.self.now) (sight_of c.loop-asker.self) (sight_of c.tell_line.new.self) c.loop-asker.invariant.advances c.in_ok-tell_line.ensures.advances))
          first
          (c.in_ok-tell_line.ensures.leads c.args.client askers c.next.new.self.rest.items first.later members tt (c.if-not-is_of.ensures.own refl) tt here);
      times = All-tail IsTimeFor (c.in-Some.asker, c.in-Some.answer) c.next.new.self.rest.items (subst (All IsTimeFor) c.in-Some.ensures.steps.0 c.loop-asker.invariant.times);
      rest = λ a among. c.loop-asker.invariant.rest a (subst (λ xs. IsAmong xs a) (sym c.in-Some.ensures.steps.0) (inr among));
    }

pub returns-clause-waits : goal.returns-clause-waits
returns-clause-waits g c trace given sound =
    let rest = c.loop-asker.asker-iterator.rest in
    let none = c.in-None.ensures.steps.0 in
    let none_left = nil_so rest.items (let ok = rest.ok in omega (arith, ok, none)) in
    subst (λ x. GoesOn g.P.Plans.ways x c.args.client (λ n a. ⊥) [] c.args.turn.now.posted.items c.loop-asker.turn.posted.items c.args.turn.now.ended.items c.loop-asker.turn.ended.items c.args.self.now c.loop-asker.self) (owing_none trace)
    (subst (λ xs. GoesOn g.P.Plans.ways (owing_all (refused_of xs) trace) c.args.client (λ n a. ⊥) (map (λ (a : Answer). a.0) xs) c.args.turn.now.posted.items c.loop-asker.turn.posted.items c.args.turn.now.ended.items c.loop-asker.turn.ended.items c.args.self.now c.loop-asker.self) none_left (c.loop-asker.invariant.waits trace given sound))

pub returns-clause-leads : goal.returns-clause-leads
returns-clause-leads g c posted ended =
    let rest = c.loop-asker.asker-iterator.rest in
    let none = c.in-None.ensures.steps.0 in
    let none_left = nil_so rest.items (let ok = rest.ok in omega (arith, ok, none)) in
    subst (λ xs. LeadsGiving g.P.Plans.ways c.args.given.items xs c.args.turn.now.posted.items c.loop-asker.turn.posted.items c.args.turn.now.ended.items c.loop-asker.turn.ended.items c.args.self.now c.loop-asker.self) none_left (c.loop-asker.invariant.leads posted ended)
