use Rattle.std.proofs.Common.{refl, sym, ◌∙◌, subst}
use Rattle.txn_clients.specs.Clients.{rows_of, sight_of}
use Rattle.txn_clients.specs.Going.{OfLine}
use Rattle.txn_clients.specs.Rows.{Brings}
use Rattle.txn_clients.proofs.Listening.{heard_there}
use Rattle.txn_clients.proofs.Naming.{names_quiet}
use Rattle.txn_clients.specs.declared.told.Told.TheVariants.{Heard}
use Rattle.txn_clients.proofs.Accounting.{closes_nothing, heard_closes}
use Rattle.txn_clients.proofs.Telling.{on_ok, live_line}
use Rattle.txn_clients.specs.Waiting.{GoesOn, HearsAt}
use Rattle.txn_clients.proofs.Settling.{client_same, unheard_goes}
use Rattle.txn_clients.proofs.Telling.{live_line, on_ok}
use Rattle.txn_clients.specs.declared.told.Told.TheVariants.{Heard}
use Rattle.txn_clients.proofs.ToldParts.{unheard_leads}
use Rattle.txn_clients.proofs.clients.Clients.tell_line.Goals as goal

pub go-requires-clause-hears : goal.go-requires-clause-hears
go-requires-clause-hears g c = heard_there (rows_of c.args.self.now) c.args.line c.in-Some.listener.at c.args.arrival c.in-Some.ensures.listens.own c.in-Some.ensures.listens.hears

pub returns-in-None-clause-names : goal.returns-in-None-clause-names
returns-in-None-clause-names g c = names_quiet (OfLine c.args.line (Brings c.args.arrival)) c.args.turn.now c.args.turn.now refl

pub returns-in-Some-clause-accounts : goal.returns-in-Some-clause-accounts
returns-in-Some-clause-accounts g c = on_ok c.go.result
    (λ h. heard_closes (sight_of c.args.self.now) c.args.arrival c.args.line c.in-Some.listener.at (rows_of c.args.self.now) (rows_of c.go.new.self) c.args.turn.now.ended.items c.go.new.turn.ended.items refl c.requires.ready.matched c.in-Some.ensures.listens.own.first c.in-Some.ensures.listens.hears h)
    c.go.ensures.accounts

pub returns-in-None-clause-accounts : goal.returns-in-None-clause-accounts
returns-in-None-clause-accounts g c = closes_nothing (sight_of c.args.self.now) (rows_of c.args.self.now) c.args.turn.now.ended.items

pub returns-in-None-clause-waits : goal.returns-in-None-clause-waits
returns-in-None-clause-waits g c trace client rest live own came sound =
    unheard_goes _ trace c.args.self.now c.args.line client (Heard c.args.arrival) rest c.args.turn.now.posted.items c.args.turn.now.ended.items (live_line (sight_of c.args.self.now) c.args.line live) c.requires.ready.matched (c.listener.ensures.none c.in-None.is live) sound

pub returns-in-Some-clause-waits : goal.returns-in-Some-clause-waits
returns-in-Some-clause-waits g c = on_ok c.go.result
    (λ f trace client rest live own came sound.
    subst (λ i. GoesOn g.P.Plans.ways trace i (HearsAt c.args.line (Heard c.args.arrival)) rest c.args.turn.now.posted.items c.go.new.turn.posted.items c.args.turn.now.ended.items c.go.new.turn.ended.items c.args.self.now c.go.new.self) (client_same c.in-Some.listener.client client (sym c.in-Some.ensures.own ∙ own)) (f trace rest c.in-Some.ensures.own came sound))
    c.go.ensures.waits

pub returns-in-None-clause-runs : goal.returns-in-None-clause-runs
returns-in-None-clause-runs g c running = running

pub returns-in-Some-clause-runs : goal.returns-in-Some-clause-runs
returns-in-Some-clause-runs g c = on_ok c.go.result (λ f running. f (λ i apart. running i) (running c.in-Some.listener.at)) c.go.ensures.runs

pub returns-in-None-clause-leads : goal.returns-in-None-clause-leads
returns-in-None-clause-leads g c client = unheard_leads _ g.met.P.Plans.lawful c.args.self.now c.args.line client c.args.arrival c.args.turn.now.posted.items c.args.turn.now.ended.items

pub returns-in-Some-clause-leads : goal.returns-in-Some-clause-leads
returns-in-Some-clause-leads g c = on_ok c.go.result (λ f client askers rest h r fits own can arisen. f askers rest h r tt c.in-Some.ensures.own can arisen) c.go.ensures.leads
