use Rattle.std.proofs.Common.{refl}
use Rattle.txn_machine.specs.Running.{lists_of}
use Rattle.txn_machine.proofs.Noting.{standing_notes}
use Rattle.txn_machine.proofs.Standings.{report_calls, report_ends, report_dues, report_events, report_lives, report_tells, report_times}
use Rattle.txn_machine.proofs.Takings.{report_accounts}
use Rattle.txn_machine.proofs.HeardLines.{report_causes}
use Rattle.txn_machine.proofs.OriginLines.{report_arisen}
use Rattle.txn_machine.proofs.machine.Machine.report.Goals as goal

pub returns-clause-told : goal.returns-clause-told
returns-clause-told g c lines s =
    let h = s.stands c.requires in
    report_tells (lists_of g.S.ClientSide.sight c.args.self) _ lines (record { outcomes = c.from_vec.ensures; ended = c.from_vec-2.ensures; sent = c.into_notes-sent.ensures.sent; sleeps = c.into_notes-sent.ensures.sleeps; served = c.from_vec-3.ensures; store = refl }) h.ordered h.told h.caused

pub returns-clause-ends : goal.returns-clause-ends
returns-clause-ends g c lines s =
    let h = s.stands c.requires in
    report_ends (lists_of g.S.ClientSide.sight c.args.self) _ lines (record { outcomes = c.from_vec.ensures; ended = c.from_vec-2.ensures; sent = c.into_notes-sent.ensures.sent; sleeps = c.into_notes-sent.ensures.sleeps; served = c.from_vec-3.ensures; store = refl }) h.caused

pub returns-clause-lives : goal.returns-clause-lives
returns-clause-lives g c lines s =
    let h = s.stands c.requires in
    report_lives (lists_of g.S.ClientSide.sight c.args.self) _ lines (record { outcomes = c.from_vec.ensures; ended = c.from_vec-2.ensures; sent = c.into_notes-sent.ensures.sent; sleeps = c.into_notes-sent.ensures.sleeps; served = c.from_vec-3.ensures; store = refl }) h.caused

pub returns-clause-calls : goal.returns-clause-calls
returns-clause-calls g c lines s =
    let h = s.stands c.requires in
    report_calls (lists_of g.S.ClientSide.sight c.args.self) _ lines (record { outcomes = c.from_vec.ensures; ended = c.from_vec-2.ensures; sent = c.into_notes-sent.ensures.sent; sleeps = c.into_notes-sent.ensures.sleeps; served = c.from_vec-3.ensures; store = refl }) h.caused

pub returns-clause-events : goal.returns-clause-events
returns-clause-events g c lines s =
    let h = s.stands c.requires in
    report_events (lists_of g.S.ClientSide.sight c.args.self) _ lines (record { outcomes = c.from_vec.ensures; ended = c.from_vec-2.ensures; sent = c.into_notes-sent.ensures.sent; sleeps = c.into_notes-sent.ensures.sleeps; served = c.from_vec-3.ensures; store = refl }) h.caused

pub returns-clause-times : goal.returns-clause-times
returns-clause-times g c lines s =
    let h = s.stands c.requires in
    report_times (lists_of g.S.ClientSide.sight c.args.self) _ lines (record { outcomes = c.from_vec.ensures; ended = c.from_vec-2.ensures; sent = c.into_notes-sent.ensures.sent; sleeps = c.into_notes-sent.ensures.sleeps; served = c.from_vec-3.ensures; store = refl }) h.ordered h.timely

pub returns-clause-noted : goal.returns-clause-noted
returns-clause-noted g c lines s = standing_notes g.S.ClientSide.sight g.S.ClientSide.ready g.S.ClientSide.waits c.args.self _ _ lines c.into_notes-sent.ensures.sent c.into_notes-sent.ensures.sleeps c.requires s

pub returns-clause-dues : goal.returns-clause-dues
returns-clause-dues g c lines s =
    let h = s.stands c.requires in
    report_dues (lists_of g.S.ClientSide.sight c.args.self) _ lines (record { outcomes = c.from_vec.ensures; ended = c.from_vec-2.ensures; sent = c.into_notes-sent.ensures.sent; sleeps = c.into_notes-sent.ensures.sleeps; served = c.from_vec-3.ensures; store = refl }) h.due.dues

pub returns-clause-accounts : goal.returns-clause-accounts
returns-clause-accounts g c lines taken = report_accounts g.S.ClientSide.account c.args.self _ _ lines c.from_vec.ensures c.from_vec-2.ensures c.requires taken

pub returns-clause-causes : goal.returns-clause-causes
returns-clause-causes g c lines heard =
    report_causes g.S.ClientSide.sight g.S.ClientSide.rests g.S.ClientSide.fails c.args.self _ lines (record { outcomes = c.from_vec.ensures; ended = c.from_vec-2.ensures; sent = c.into_notes-sent.ensures.sent; sleeps = c.into_notes-sent.ensures.sleeps; served = c.from_vec-3.ensures; store = refl }) c.requires heard

pub returns-clause-arisen : goal.returns-clause-arisen
returns-clause-arisen g c lines stood taken arisen =
    report_arisen g.S.ClientSide.sight g.S.ClientSide.ready g.S.ClientSide.waits g.S.ClientSide.arises g.S.ClientSide.holds g.S.ClientSide.account c.args.self _ lines (record { outcomes = c.from_vec.ensures; ended = c.from_vec-2.ensures; sent = c.into_notes-sent.ensures.sent; sleeps = c.into_notes-sent.ensures.sleeps; served = c.from_vec-3.ensures; store = refl }) c.requires stood taken arisen
