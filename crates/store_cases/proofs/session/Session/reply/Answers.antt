use Rattle.std.proofs.Common.{subst}
use Rattle.store_cases.specs.Serving.{IsServable}
use Rattle.store_cases.proofs.session.Session.reply.Goals as goal

pub serve-requires : goal.serve-requires
serve-requires c = subst IsServable c.in-Some.is c.in_ok-request.ensures c.args.self.now.store
