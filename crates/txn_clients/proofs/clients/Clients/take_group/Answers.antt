use Rattle.std.proofs.Common.{map, sym, ap, subst}
use Rattle.txn_tso.specs.Oracle.{Answer}
use Rattle.txn_side.specs.Steps.{GivesTo}
use Rattle.txn_clients.specs.Clients.{of_calls, rows_of, sight_of, stands_of}
use Rattle.txn_clients.specs.Going.{Advances, NamesIn}
use Rattle.txn_clients.specs.Groups.{IsTimed, coming_as}
use Rattle.txn_clients.proofs.Advances.{advances_left, advances_then}
use Rattle.txn_clients.proofs.Naming.{names_weaker}
use Rattle.txn_clients.proofs.Telling.{on_ok}
use Rattle.txn_clients.proofs.Accounting.{closed_rows}
use Rattle.txn_clients.proofs.Grouping.{take_sound}
use Rattle.txn_clients.proofs.Stepping.{group_ends}
use Rattle.txn_clients.specs.Waiting.{AreRunning, IsSound}
use Rattle.txn_clients.specs.Failing.{owing_all, posting_in}
use Rattle.txn_clients.proofs.Giving.{given_over, over_refused}
use Rattle.txn_clients.proofs.Grouped.{jobs_last, come_leads}
use Rattle.txn_clients.proofs.clients.Clients.take_group.Goals as goal

pub returns-clause-advances : goal.returns-clause-advances
returns-clause-advances g c =
    let done = c.in_ok-given.ensures in
    let old = sight_of c.args.self.now in
    let mid = sight_of c.take_times.new.self in
    on_ok c.give.result
    (λ (a : Advances c.args.turn.now c.give.new.turn mid (sight_of c.give.new.self)).
    advances_then c.args.turn.now c.args.turn.now c.give.new.turn old mid (sight_of c.give.new.self)
    (advances_left c.args.turn.now old mid done.crashed (ap stands_of done.rows) (ap of_calls done.nexts) done.groups) a)
    c.give.ensures.advances

pub returns-clause-names : goal.returns-clause-names
returns-clause-names g c = on_ok c.give.result
    (λ (f : NamesIn (IsTimed c.in_ok-given.given.items) c.args.turn.now c.give.new.turn) t out.
    names_weaker (IsTimed c.in_ok-given.given.items) (GivesTo (sight_of c.args.self.now) t (coming_as c.args.reply)) c.args.turn.now c.give.new.turn (c.in_ok-given.ensures.given t out) f)
    c.give.ensures.names

pub returns-clause-accounts : goal.returns-clause-accounts
returns-clause-accounts g c = on_ok c.give.result
    (λ k posted ended. closed_rows (sight_of c.args.self.now) (sight_of c.take_times.new.self) (rows_of c.args.self.now) (rows_of c.take_times.new.self) (rows_of c.give.new.self) c.give.new.turn.ended.items (ap stands_of c.in_ok-given.ensures.rows) c.in_ok-given.ensures.rows (k posted ended))
    c.give.ensures.accounts

pub returns-clause-waits : goal.returns-clause-waits
returns-clause-waits g c = on_ok c.give.result
    (λ f trace came sound.
    let done = c.in_ok-given.ensures in
    let given = given_over trace c.args.self.now c.take_times.new.self c.args.client c.args.reply c.in_ok-given.given.items done.takes (sound.paired c.args.client) came done.errors in
    group_ends _ trace c.args.self.now c.take_times.new.self c.give.new.self c.args.client c.in_ok-given.given.items c.args.turn.now.posted.items c.give.new.turn.posted.items c.args.turn.now.ended.items c.give.new.turn.ended.items done.takes done.rows
    (f trace given (subst (λ lines. IsSound g.P.Plans.ways (posting_in c.args.turn.now.posted.items (owing_all lines trace)) (map (λ (a : Answer). a.0) c.in_ok-given.given.items) c.take_times.new.self) (sym (over_refused c.args.self.now c.take_times.new.self c.args.client c.args.reply c.in_ok-given.given.items done.takes (sound.paired c.args.client) done.granted done.refused))
    (take_sound _ g.met.P.Plans.lawful _ c.args.self.now c.take_times.new.self c.args.client c.in_ok-given.given.items done.takes done.rows done.nexts done.crashed sound))))
    c.give.ensures.waits

pub returns-clause-runs : goal.returns-clause-runs
returns-clause-runs g c = on_ok c.give.result (λ f running. f (subst AreRunning (sym c.in_ok-given.ensures.rows) running)) c.give.ensures.runs

pub returns-clause-leads : goal.returns-clause-leads
returns-clause-leads g c = on_ok c.give.result
    (λ f posted ended.
    let done = c.in_ok-given.ensures in
    come_leads _ g.met.P.Plans.lawful (jobs_last g.P.Plans.ways.plan g.met.P.Plans.lawful g.P.Plans.ways.uncommitted g.P.Plans.ways.costs.commits g.met.P.Plans.lasting.uncommitted) c.args.self.now c.take_times.new.self c.give.new.self c.args.client c.args.reply c.in_ok-given.given.items c.args.turn.now.posted.items c.give.new.turn.posted.items c.args.turn.now.ended.items c.give.new.turn.ended.items
    done.takes done.rows done.nexts done.granted done.refused (f posted ended))
    c.give.ensures.leads
