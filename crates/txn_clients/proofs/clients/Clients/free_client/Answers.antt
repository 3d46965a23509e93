use Rattle.std.proofs.Common.{◌∙◌, ap, sym}
use Rattle.txn_side.specs.Sight.{free, stand_at}
use Rattle.txn_side.specs.Sight.Stand.{HasBegun}
use Rattle.txn_clients.specs.Clients.{rows_of, sight_of}
use Rattle.txn_clients.specs.declared.row.Row.TheVariants as row
use Rattle.txn_clients.proofs.Asking.{begun_free, free_so, other_taken, taken_so, waits_taken}
use Rattle.txn_clients.proofs.Telling.{live_line, stands_at}
use Rattle.txn_clients.proofs.clients.Clients.free_client.Goals as goal

pub returns-then-waits-eq0-clause-free : goal.returns-then-waits-eq0-clause-free
returns-then-waits-eq0-clause-free g c =
    let s = sight_of c.args.self.now in
    let begun = stands_at (rows_of c.args.self.now) c.args.transaction (row.Begun c.in-Begun.client c.in-Begun.transaction c.in-Begun.waits) (live_line s c.args.transaction (sym c.in-Some.ensures.live)) (sym c.row.ensures ∙ c.in-Begun.is) in
    free_so s c.args.transaction c.in-Begun.client c.in-Some.ensures.live (begun ∙ ap (HasBegun c.in-Begun.client) c.if-waits-eq0.true)

pub returns-then-waits-eq0-clause-client : goal.returns-then-waits-eq0-clause-client
returns-then-waits-eq0-clause-client g c =
    let s = sight_of c.args.self.now in
    let begun = stands_at (rows_of c.args.self.now) c.args.transaction (row.Begun c.in-Begun.client c.in-Begun.transaction c.in-Begun.waits) (live_line s c.args.transaction (sym c.in-Some.ensures.live)) (sym c.row.ensures ∙ c.in-Begun.is) in
    begun_free (stand_at s.stands c.args.transaction) c.in-Some.client c.in-Begun.client c.in-Begun.waits begun c.in-Some.ensures.client c.if-waits-eq0.true

pub returns-else-waits-eq0-clause-free : goal.returns-else-waits-eq0-clause-free
returns-else-waits-eq0-clause-free g c =
    let s = sight_of c.args.self.now in
    let begun = stands_at (rows_of c.args.self.now) c.args.transaction (row.Begun c.in-Begun.client c.in-Begun.transaction c.in-Begun.waits) (live_line s c.args.transaction (sym c.in-Some.ensures.live)) (sym c.row.ensures ∙ c.in-Begun.is) in
    taken_so s c.args.transaction (waits_taken (stand_at s.stands c.args.transaction) c.in-Begun.client c.in-Begun.waits begun c.if-waits-eq0.false)

pub returns-in_default : goal.returns-in_default
returns-in_default g c =
    let s = sight_of c.args.self.now in
    let there = stands_at (rows_of c.args.self.now) c.args.transaction c.row.result.now (live_line s c.args.transaction (sym c.in-Some.ensures.live)) (sym c.row.ensures) in
    record { free = taken_so s c.args.transaction (ap free there ∙ other_taken c.row.result.now c.in_default.not-Begun); client = tt; there = tt }
