use Rattle.std.proofs.Common.{◌≡◌, Some}
use Rattle.txn_post.specs.declared.post.Place.TheVariants.{Sent}
use Rattle.txn_post.specs.Mail.{place_of}
use Rattle.txn_post.proofs.Mails.{found_sent}
use Rattle.txn_post.proofs.post.Post.find_sent.Goals as goal

pub returns-in-Some-Sent-clause-found : goal.returns-in-Some-Sent-clause-found
returns-in-Some-Sent-clause-found c =
    let e : place_of c.args.self.now.tickets c.args.ticket.now ≡ Some (Sent c.in-Some-Sent.place) = cc in
    found_sent c.args.self.now c.args.ticket.now c.in-Some-Sent.place c.in-Some-Sent.ensures.mail e
