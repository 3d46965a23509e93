use Rattle.std.proofs.Common.{◌≡◌, ◌++◌, ◌∷◌, [], reverse, ap, ◌∙◌, arith}
use Rattle.std.proofs.lemmas.List.{reverse-append, length-append}
use Rattle.txn_lines.specs.Kinds.{SoFar, with_line, kinds_of}
use Rattle.txn_lines.specs.Text.{IsGood}
use Rattle.txn_lines.proofs.ScriptLaws.{goes_on}
use Rattle.txn_lines.proofs.script_parser.parse_script.Goals as goal

pub loop-rest-preserved : goal.loop-rest-preserved
loop-rest-preserved c =
    let before = reverse c.loop-rest.lines in
    let line = c.in-Ok.line in
    let good : IsGood before c.first_line.result.0.now line = rw c.in-Ok.is at (c.in_ok-line.ensures before c.loop-rest.invariant.kinds) in
    let later : reverse (c.loop-rest.lines ++ line ∷ []) ≡ line ∷ before = reverse-append c.loop-rest.lines (line ∷ []) in
    let kinds : c.push.new.self ≡ kinds_of (line ∷ before) = c.in_ok-push-in-Ok.ensures.ok ∙ ap (λ (so_far : SoFar). with_line so_far line) c.loop-rest.invariant.kinds in
    rw c.in_ok-push-in-Ok-2.ensures.ok (record {
      kinds = rw later kinds;
      read = goes_on c.args.bytes.now c.loop-rest.rest.now c.first_line.result.0.now c.first_line.result.1.now c.loop-rest.lines line c.loop-rest.invariant.read c.first_line.ensures.cut good;
      count = omega (arith, length-append c.loop-rest.lines (line ∷ []), c.loop-rest.invariant.count, c.first_line.ensures.shorter);
    })
