use Rattle.std.proofs.Common.{ap, subst, sym, ◌∙◌}
use Rattle.txn_history.specs.Meaning.{started}
use Rattle.txn_history.proofs.Telling.{is_kept_ok}
use Rattle.txn_settle.proofs.Searching.{asked, waiting}
use Rattle.txn_settle.proofs.key_search.KeySearch.ask.Goals as goal
use Rattle.txn_plan.proofs.LookingUp.{deaf_start, tells, went, went_start}
use Rattle.txn_region.specs.Clients.{IsPlaceQuery}
use Rattle.txn_tso.specs.declared.pd_call.PdCall.{PdCall}
use Rattle.txn_tso.specs.Heeding.{hears_start}
use Rattle.txn_tso.specs.Steps.{on_start, standing}

pub returns-clause-on : goal.returns-clause-on
returns-clause-on g c =
    let x = standing c.call-call.result c.retry_client.result.now c.args.out.now in
    let y = standing c.start.new.self c.start.new.client c.start.new.out in
    let e = c.in_ok-progress.ensures in
    let t = tells started (hears_start x.call.stage) x y _ e.job (λ n. deaf_start x.call.stage) (went (hears_start x.call.stage) x.call.query (on_start x.call.stage x) _ x y e.step (went_start x.call.stage x)) e.moves in
    rw c.wait.ensures.turn (asked g.T.Place.is_of _ c.args.query c.requires.place c.call-call.ensures (is_kept_ok c.in_ok-progress.progress) t e.spends (waiting g.T.Place.is_of (subst IsPlaceQuery (sym (e.job ∙ ap (λ (k : PdCall). k.query) c.call-call.ensures)) c.requires.place) c.wait.ensures.holds c.wait.ensures.state))

pub returns-clause-changed : goal.returns-clause-changed
returns-clause-changed g c = g.met.C.PdClient.looked_lent _ _

pub returns-in_err-progress-clause-changed : goal.returns-in_err-progress-clause-changed
returns-in_err-progress-clause-changed g c = g.met.C.PdClient.looked_lent _ _
