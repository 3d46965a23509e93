use Rattle.std.proofs.Common.{◌≡◌, ◌∷◌, ◌++◌, List, [], ◌∙◌, append-nil, append_assoc, arith, length, map, sym}
use Rattle.std.proofs.lemmas.List.{nil_from_length}
use Rattle.txn_multi.specs.Task.{task_for}
use Rattle.txn_multi.proofs.task.tasks_of.Goals as goal

-- once none is left
made_all : {X Y : Type 0} (f : X → Y) (done : List Y) (rest all : List X) → length rest ≡ 0 → done ++ map f rest ≡ map f all → done ≡ map f all
made_all f done rest all none e = let same = rw (nil_from_length rest none) at e in sym (append-nil done) ∙ same

pub loop-part-preserved : goal.loop-part-preserved
loop-part-preserved g c =
    let same = rw c.in-Some.ensures.steps.0 at c.loop-part.invariant in
    rw (c.in_ok-push.ensures.items, c.new.ensures) (append_assoc c.loop-part.tasks.items (task_for c.args.alloc c.args.backoff c.args.before c.in-Some.part ∷ []) (map (task_for c.args.alloc c.args.backoff c.args.before) c.next.new.self.rest.items) ∙ same)

pub returns : goal.returns
returns g c = made_all (task_for c.args.alloc c.args.backoff c.args.before) c.loop-part.tasks.items c.loop-part.part-iterator.rest.items c.args.parts.items (omega (arith, c.in-None.ensures.steps.0, c.loop-part.part-iterator.rest.ok.0)) c.loop-part.invariant
