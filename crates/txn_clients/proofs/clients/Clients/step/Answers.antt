use Rattle.txn_clients.specs.Clients.{sight_of, row_at, rows_of, stands_of}
use Rattle.txn_clients.specs.Failing.{MayKnow, outbox_of, owing, posting_in}
use Rattle.txn_clients.specs.Waiting.{IsSound, pends}
use Rattle.txn_clients.specs.Going.{OfLine}
use Rattle.txn_clients.specs.Rows.{Tells}
use Rattle.txn_clients.proofs.Asking.{goes_whole}
use Rattle.txn_clients.proofs.Naming.{named_all}
use Rattle.std.proofs.Common.{[], ap, subst, sym}
use Rattle.txn_side.specs.Sight.{stand_at}
use Rattle.txn_clients.specs.Closing.{GoesTold}
use Rattle.txn_clients.proofs.Stepping.{whole_steps}
use Rattle.std.specs.Prelude.{[]}
use Rattle.txn_clients.proofs.Stepped.{told_steps}
use Rattle.txn_clients.proofs.clients.Clients.step.Goals as goal

pub returns-clause-turn : goal.returns-clause-turn
returns-clause-turn g c =
    goes_whole c.new-turn.result c.go.new.turn c.send_group.new.turn (sight_of c.args.self.now) (sight_of c.go.new.self) (sight_of c.send_group.new.self)
    c.new-turn.ensures.posted c.new-turn.ensures.ended c.in_ok-go.ensures.advances c.in_ok-send_group.ensures.advances

pub returns-clause-names : goal.returns-clause-names
returns-clause-names g c = named_all (OfLine c.args.line (Tells c.args.told)) c.new-turn.result c.go.new.turn c.send_group.new.turn c.new-turn.ensures.ended c.in_ok-go.ensures.names c.in_ok-send_group.ensures.ended

pub returns-clause-accounts : goal.returns-clause-accounts
returns-clause-accounts g c =
    let old = rows_of c.args.self.now in
    let stand = stand_at (stands_of old) c.args.line in
    subst (λ v. GoesTold c.args.told c.args.line c.args.listener.at stand old (rows_of c.send_group.new.self) [] v.items) (sym c.in_ok-send_group.ensures.ended)
    (subst (λ rs. GoesTold c.args.told c.args.line c.args.listener.at stand old rs [] c.go.new.turn.ended.items) (sym c.in_ok-send_group.ensures.rows)
    (subst (λ es. GoesTold c.args.told c.args.line c.args.listener.at stand old (rows_of c.go.new.self) es c.go.new.turn.ended.items) c.new-turn.ensures.ended c.in_ok-go.ensures.accounts))

pub returns-clause-steps : goal.returns-clause-steps
returns-clause-steps g c trace own knows sound quiet but prepared =
    let none = sym c.new-turn.ensures.posted in
    let went = c.in_ok-go.ensures.waits trace [] own (subst (λ ps. MayKnow (posting_in ps trace) (outbox_of c.args.line) c.args.told (row_at (rows_of c.args.self.now) c.args.listener.at)) none knows)
    (subst (λ ps. IsSound g.P.Plans.ways (posting_in ps (owing c.args.line c.args.told trace)) (pends c.args.line c.args.told []) c.args.self.now) none sound) in
    whole_steps _ trace c.args.self.now c.go.new.self c.send_group.new.self c.args.listener.client _ c.new-turn.result.posted.items c.go.new.turn.posted.items c.send_group.new.turn.posted.items c.new-turn.result.ended.items c.go.new.turn.ended.items c.send_group.new.turn.ended.items
    c.new-turn.ensures.ended (ap (λ v. v.items) c.in_ok-send_group.ensures.ended) went (c.in_ok-send_group.ensures.waits trace [] went.sound) c.in_ok-send_group.ensures.rows (c.in_ok-go.ensures.runs but prepared) quiet

pub returns-clause-leads : goal.returns-clause-leads
returns-clause-leads g c =
    told_steps _ c.args.told c.args.line c.args.listener.client c.args.self.now c.go.new.self c.send_group.new.self c.new-turn.result.posted.items c.go.new.turn.posted.items c.send_group.new.turn.posted.items c.new-turn.result.ended.items c.go.new.turn.ended.items c.send_group.new.turn.ended.items
    c.new-turn.ensures.posted c.new-turn.ensures.ended (ap (λ v. v.items) c.in_ok-send_group.ensures.ended) c.in_ok-go.ensures.leads c.in_ok-send_group.ensures.leads
