use Rattle.std.proofs.Common.{◌≡◌, refl, subst, sym, ap}
use Rattle.txn_clients.specs.Rows.{Rests, RowReady, stand_of}
use Rattle.txn_clients.proofs.Places.{both_ok, crashed_kept}
use Rattle.txn_clients.proofs.Sending.{groups_kept}
use Rattle.txn_clients.proofs.Telling.{always_ok, if_answered, on_ok, put_nexts, put_ready, put_row, put_stands, place_row}
use Rattle.std.proofs.lemmas.Result.{IfOk-weaker}
use Rattle.txn_clients.proofs.Accounting.{put_accounts, put_answers}
use Rattle.txn_clients.proofs.Pushing.{if_ok_with, row_told}
use Rattle.txn_clients.specs.Waiting.{IsAnswerOf}
use Rattle.std.specs.Prelude.{IfSome}
use Rattle.txn_clients.proofs.MovingRows.{place_told}
use Rattle.txn_clients.proofs.clients.Clients.tell_row.Goals as goal

pub returns-clause-stands : goal.returns-clause-stands
returns-clause-stands g c = on_ok c.tell.result
    (λ (same : stand_of c.tell.new.self ≡ stand_of c.index_mut-2.result.now.row). put_stands c.args.self.now c.args.listener.at c.index_mut-2.result.now (record c.index_mut-2.result.now { row = c.tell.new.self }) c.requires.place c.index_mut-2.ensures.value same)
    c.tell.ensures.stand

pub returns-clause-nexts : goal.returns-clause-nexts
returns-clause-nexts g c = always_ok c.tell.result
    (put_nexts c.args.self.now c.args.listener.at c.index_mut-2.result.now (record c.index_mut-2.result.now { row = c.tell.new.self }) c.requires.place c.index_mut-2.ensures.value refl)

pub returns-clause-crashed : goal.returns-clause-crashed
returns-clause-crashed g c = always_ok c.tell.result
    (crashed_kept c.args.self.now.clients.items c.args.listener.client (record c.index_mut.result.now { client = record c.index_mut.result.now.client { pd = c.tell.new.pd } }) c.index_mut.result.now c.requires.client c.index_mut.ensures.value refl)

pub returns-clause-groups : goal.returns-clause-groups
returns-clause-groups g c = always_ok c.tell.result
    (groups_kept c.args.self.now.clients.items c.args.listener.client (record c.index_mut.result.now { client = record c.index_mut.result.now.client { pd = c.tell.new.pd } }) c.index_mut.result.now c.requires.client c.index_mut.ensures.value refl)

pub returns-clause-ready : goal.returns-clause-ready
returns-clause-ready g c = both_ok c.tell.result
    (λ (same : stand_of c.tell.new.self ≡ stand_of c.index_mut-2.result.now.row) (may : RowReady g.P.Plans.ways c.tell.new.self).
    put_ready _ c.args.self.now c.args.listener.at c.index_mut-2.result.now (record c.index_mut-2.result.now { row = c.tell.new.self }) c.requires.place c.index_mut-2.ensures.value same may c.requires.ready)
    c.tell.ensures.stand c.tell.ensures.ready

pub returns-clause-rests : goal.returns-clause-rests
returns-clause-rests g c = if_answered c.tell.result
    (λ (rests : Rests c.tell.new.self). subst Rests (sym (put_row c.args.self.now c.args.listener.at (record c.index_mut-2.result.now { row = c.tell.new.self }) c.requires.place)) rests)
    c.tell.ensures.rests

pub returns-clause-accounts : goal.returns-clause-accounts
returns-clause-accounts g c = IfOk-weaker c.tell.result _ _
    (λ answer h. put_accounts c.args.self.now c.args.listener.at c.index_mut-2.result.now (record c.index_mut-2.result.now { row = c.tell.new.self }) c.args.told answer c.requires.place c.index_mut-2.ensures.value h)
    c.tell.ensures.account

pub returns-clause-answers : goal.returns-clause-answers
returns-clause-answers g c = IfOk-weaker c.tell.result _ _ (λ o h. put_answers c.args.self.now c.args.listener.at c.index_mut-2.result.now c.args.told o c.requires.place c.index_mut-2.ensures.value h) c.tell.ensures.answers

pub returns-clause-tells : goal.returns-clause-tells
returns-clause-tells g c = if_ok_with c.tell.result
    (λ answer same goes. row_told _ c.args.told c.args.self.now _ c.args.listener.at c.args.listener.client c.index_mut-2.result.now (record c.index_mut-2.result.now { row = c.tell.new.self }) c.index_mut.result.now
    (record c.index_mut.result.now { client = record c.index_mut.result.now.client { pd = c.tell.new.pd } }) c.args.out.now c.tell.new.out answer refl refl c.requires.place c.requires.client c.index_mut-2.ensures.value c.index_mut.ensures.value refl refl same goes)
    c.tell.ensures.stand c.tell.ensures.goes

pub returns-clause-kind : goal.returns-clause-kind
returns-clause-kind g c = IfOk-weaker c.tell.result _ _
    (λ answer kind. subst (λ s. IfSome answer (IsAnswerOf s)) (ap stand_of (sym (place_row c.args.self.now c.args.listener.at c.index_mut-2.result.now c.requires.place c.index_mut-2.ensures.value))) kind)
    c.tell.ensures.kind

pub returns-clause-moves : goal.returns-clause-moves
returns-clause-moves g c = if_ok_with c.tell.result
    (λ answer same moves. place_told _ c.args.told c.args.self.now _ c.args.listener.at c.index_mut-2.result.now (record c.index_mut-2.result.now { row = c.tell.new.self }) c.args.out.now c.tell.new.out answer refl c.requires.place c.index_mut-2.ensures.value same moves)
    c.tell.ensures.stand c.tell.ensures.moves
