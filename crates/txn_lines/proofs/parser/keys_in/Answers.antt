use Rattle.std.proofs.Common.{[], sym, ◌∙◌}
use Rattle.std.proofs.lemmas.Result.{err_from_is_err_and}
use Rattle.txn_lines.specs.Reading.{keys_after}
use Rattle.txn_lines.proofs.KeyLaws.{goes_on, fails}
use Rattle.txn_lines.proofs.WordLaws.{string_shortens}
use Rattle.txn_lines.proofs.parser.keys_in.Goals as goal

pub returns-in_err-key : goal.returns-in_err-key
returns-in_err-key c =
    let p = err_from_is_err_and c.from_residual.result c.from_residual.ensures.1 in
    rw (p.1, p.2) (fails c.in_err-key.field-0.0 c.loop-rest.keys c.loop-rest.rest c.args.words (sym c.is_empty-in-loop-rest.ensures ∙ c.loop-rest-test.true) c.in_err-key.ensures c.loop-rest.invariant (sym c.is_empty.ensures ∙ c.if-is_empty.false))

pub loop-rest-smaller : goal.loop-rest-smaller
loop-rest-smaller c = string_shortens c.loop-rest.rest c.in_ok-key.key c.in_ok-key.after c.in_ok-key.ensures

pub loop-rest-preserved : goal.loop-rest-preserved
loop-rest-preserved c =
    rw c.in_ok-push.ensures.ok (goes_on c.loop-rest.keys c.loop-rest.rest c.in_ok-key.key c.in_ok-key.after (keys_after [] c.args.words) c.in_ok-key.ensures c.loop-rest.invariant)
