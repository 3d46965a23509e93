use Rattle.std.proofs.Common.{◌≡◌, List, [], ap, map}
use Rattle.txn_side.specs.Account.{AreNew}
use Rattle.txn_clients.specs.Accounts.{account_at}
use Rattle.txn_clients.specs.Clients.{rows_of}
use Rattle.txn_clients.specs.declared.clients.Clients.{Clients}
use Rattle.txn_clients.specs.declared.place.Place.{Place}
use Rattle.txn_clients.proofs.Accounting.{none_new}
use Rattle.txn_clients.proofs.Sides.{new_all}
use Rattle.txn_clients.proofs.clients.Clients.new.Goals as goal

none_placed : {P : Type 0} (s : Clients P) → s.places.items ≡ [] → AreNew (account_at (rows_of s))
none_placed {P} s e = none_new (rows_of s) (ap (λ (ps : List (Place P)). map (λ (p : Place P). p.row) ps) e)

pub returns-clause-accounts : goal.returns-clause-accounts
returns-clause-accounts g c = none_placed (record { places = c.new.result; clients = c.new-2.result; alloc = c.args.alloc }) c.new.ensures.items

pub returns-clause-ready : goal.returns-clause-ready
returns-clause-ready g c = new_all _ g.met.P.Plans.lawful _ c.new.ensures.items c.new-2.ensures.items
