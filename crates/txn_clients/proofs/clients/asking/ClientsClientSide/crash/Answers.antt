use Rattle.std.proofs.Common.{refl, true, sym, ap, get_or, [], Some}
use Rattle.std.specs.Vec.{with_item}
use Rattle.txn_clients.specs.Accounts.{account_at}
use Rattle.txn_clients.specs.Clients.{crashed_of, rows_of, sight_of}
use Rattle.txn_clients.specs.Waiting.{blank}
use Rattle.txn_clients.proofs.Accounting.{kept_same}
use Rattle.txn_clients.proofs.Asking.{crashed_put, crashed_sight}
use Rattle.txn_clients.proofs.Listening.{within}
use Rattle.txn_clients.proofs.Sending.{groups_kept}
use Rattle.txn_clients.proofs.Sides.{crashed_all, crashed_waits, waits_same}
use Rattle.txn_clients.proofs.Grouping.{books_kept}
use Rattle.txn_clients.proofs.Opening.{crashed_sound}
use Rattle.txn_clients.proofs.Unmoved.{crashed_arises, unmoved_arises}
use Rattle.txn_clients.proofs.Whole.{crash_gone}
use Rattle.txn_clients.proofs.clients.asking.ClientsClientSide.crash.Goals as goal

pub returns-in-None-clause-gone : goal.returns-in-None-clause-gone
returns-in-None-clause-gone g c =
    let s = c.args.self.now in
    record {
      seen = crash_gone (sight_of s) c.args.line (sym c.in-None.ensures.live);
      waits = waits_same g.P.Plans.ways s;
      ready = c.requires.ready;
      accounts = kept_same (account_at (rows_of s));
      rests = λ t was. was;
      arises = unmoved_arises g.P.Plans.ways s;
    }

pub returns-in-Some-clause-gone : goal.returns-in-Some-clause-gone
returns-in-Some-clause-gone g c =
    let s = c.args.self.now in
    let client = c.in-Some.client in
    let lawful = g.met.P.Plans.lawful in
    let gone = record c.index_mut.result.now { crashed = true } in
    let t = record s { clients = with_item s.clients client gone } in
    let there = within (crashed_of s) client c.in-Some.ensures.there in
    let put = crashed_put s client gone in
    let books = books_kept s.clients.items client gone c.index_mut.result.now there c.index_mut.ensures.value refl in
    record {
      seen = crashed_sight s t c.args.line client c.in-Some.ensures.client put (groups_kept s.clients.items client gone c.index_mut.result.now there c.index_mut.ensures.value refl) refl refl;
      waits = crashed_waits g.P.Plans.ways lawful s t refl (λ d. ap (λ bs. get_or bs d blank) books);
      ready = crashed_all _ lawful s t client refl put (λ d. ap (λ bs. get_or bs d blank) books) c.requires.ready.rows c.requires.ready;
      accounts = kept_same (account_at (rows_of s));
      rests = λ trace was. crashed_sound _ lawful (Some trace) s t client [] refl put (λ d. ap (λ bs. get_or bs d blank) books) was;
      arises = crashed_arises g.P.Plans.ways lawful s t refl (λ d. ap (λ bs. get_or bs d blank) books);
    }
