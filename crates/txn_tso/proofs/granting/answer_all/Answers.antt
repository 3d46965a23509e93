use Rattle.std.proofs.Common.{◌≡◌, ◌<◌, ◌+◌, ◌-◌, ◌++◌, ◌∷◌, List, [], length, drop, get_or, ap, sym, ◌∙◌, append_assoc, arith}
use Rattle.std.proofs.lemmas.List.{length-drop}
use Rattle.std.specs.Prelude.{Result, false}
use Rattle.txn_kv.specs.declared.errors.Error.{Error}
use Rattle.txn_kv.specs.declared.timestamp.Timestamp.{Timestamp}
use Rattle.txn_tso.proofs.Rising.{answers-step}
use Rattle.txn_tso.specs.Oracle.{answer, answers, Answer}
use Rattle.txn_tso.specs.declared.asker.Asker.{Asker}
use Rattle.txn_tso.proofs.granting.answer_all.Goals as goal

pub loop-asker-preserved : goal.loop-asker-preserved
loop-asker-preserved c =
    let i = c.loop-asker.asker-index in
    let g : List Asker = c.args.group.now in
    let nobody : Asker = record { line = 0; beat = false; ask = 0 } in
    let rest : List Answer = answers c.args.reply.now c.args.asked (drop (i + 1) g) in
    let within : i < length g = omega (arith, c.loop-asker-test.true) in
    let here = length-drop i g in
    let next = length-drop (i + 1) g in
    let behind : c.loop-asker.behind - 1 ≡ length g - (i + 1) = omega (arith, c.loop-asker.invariant.0, here) in
    let said = c.answer.ensures ∙ ap (answer c.args.reply.now c.args.asked) behind in
    let step = ap (λ (r : Result Timestamp Error). (get_or g i nobody, r) ∷ rest) said ∙ sym (answers-step c.args.reply.now c.args.asked i g nobody within) in (
      omega (arith, c.loop-asker.invariant.0, here, next),
      ap (λ (v : List Answer). v ++ rest) c.in_ok-push.ensures.items
          ∙ append_assoc c.loop-asker.given.items ((get_or g i nobody, c.answer.result) ∷ []) rest
          ∙ ap (λ (v : List Answer). c.loop-asker.given.items ++ v) step
          ∙ c.loop-asker.invariant.1,
    )
