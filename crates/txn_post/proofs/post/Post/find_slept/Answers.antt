use Rattle.std.proofs.Common.{◌≡◌, Some}
use Rattle.txn_post.specs.declared.post.Place.TheVariants.{Slept}
use Rattle.txn_post.specs.Mail.{place_of}
use Rattle.txn_post.proofs.Mails.{found_slept}
use Rattle.txn_post.proofs.post.Post.find_slept.Goals as goal

pub returns-in-Some-Slept-clause-found : goal.returns-in-Some-Slept-clause-found
returns-in-Some-Slept-clause-found c =
    let e : place_of c.args.self.now.tickets c.args.ticket.now ≡ Some (Slept c.in-Some-Slept.place) = cc in
    found_slept c.args.self.now c.args.ticket.now c.in-Some-Slept.place c.in-Some-Slept.ensures.mail e
