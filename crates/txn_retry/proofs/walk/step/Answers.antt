use Rattle.std.proofs.Common.{◌≡◌, ◌<◌, length, get_or, map, sym, ap, ◌∙◌, arith}
use Rattle.std.specs.Prelude.{Some, None}
use Rattle.std.proofs.lemmas.List.{get_or-map, length-map}
use Rattle.txn_retry.specs.Place.{parts_of}
use Rattle.txn_retry.proofs.Walking.{Walks-alone, Walks-in}
use Rattle.txn_retry.proofs.walk.step.Goals as goal

pub returns-in_ok-push-in-Some : goal.returns-in_ok-push-in-Some
returns-in_ok-push-in-Some g c =
    let within : c.args.run.first < length c.args.places.now = omega (arith, c.requires.made, length-map c.args.places.now parts_of) in
    let cut : get_or (map parts_of c.args.places.now) c.args.run.first None ≡ Some c.in-Some.parts =
    get_or-map parts_of c.args.places.now c.args.run.first c.index-places-run.result None within ∙ ap parts_of (sym c.index-places-run.is) ∙ sym c.in-Some.ensures in
    rw (c.in_ok-push-in-Some.ensures.items, c.in_ok-push.ensures.items)
    (Walks-in (map parts_of c.args.places.now) c.args.run c.in-Some.parts c.args.runs.now.items c.args.order.now.items c.requires.later c.requires.made (omega arith) cut)

pub returns-in_ok-push-in-None : goal.returns-in_ok-push-in-None
returns-in_ok-push-in-None g c =
    let within : c.args.run.first < length c.args.places.now = omega (arith, c.requires.made, length-map c.args.places.now parts_of) in
    let alone : get_or (map parts_of c.args.places.now) c.args.run.first None ≡ None =
    get_or-map parts_of c.args.places.now c.args.run.first c.index-places-run.result None within ∙ ap parts_of (sym c.index-places-run.is) ∙ sym c.in-None.ensures in
    rw (c.in_ok-push-in-None.ensures.items, c.in_ok-push.ensures.items)
    (Walks-alone (map parts_of c.args.places.now) c.args.run c.args.runs.now.items c.args.order.now.items c.requires.later c.requires.made (omega arith) alone)
