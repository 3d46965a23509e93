use Rattle.std.proofs.Common.{◌≡◌, ◌++◌, ◌∷◌, [], ◌∙◌, take, arith, rules}
use Rattle.std.proofs.lemmas.Grind.{common_steps}
use Rattle.txn_kv.proofs.Encoding.{group_appended}
use Rattle.txn_kv.proofs.codec.append_groups.Goals as goal

pub loop-rest-preserved : goal.loop-rest-preserved
loop-rest-preserved c =
    let now : c.push.new.self.items ≡ (c.loop-rest.bytes.items ++ take 8 c.loop-rest.rest.now) ++ 255 ∷ []
    = search rules
    in
    record {
      start = grind (arith, common_steps);
      encoding =
          group_appended c.loop-rest.bytes.items c.loop-rest.rest.now _ _ now c.split_at.ensures.back c.loop-rest-test.true
          ∙ c.loop-rest.invariant.encoding;
    }
