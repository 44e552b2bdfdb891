use Rattle.std.proofs.Common.{ℕ, ◌<◌, List, [], ◌∷◌, ◌++◌, length, sym, ◌∙◌, arith}
use Rattle.std.proofs.lemmas.List.{take_all, take_more, length-map}
use Rattle.task_set.specs.TaskSet.{TaskData, masks}
use Rattle.task_set.proofs.set.TaskSet.masks.Goals as goal

pub loop-t-preserved : goal.loop-t-preserved
loop-t-preserved c =
    let set = c.args.self.now in
    let fits : c.loop-t.t < length (masks set) = omega (
      arith,
      c.loop-t-test.true,
      c.len-t-end.ensures.value,
      length-map set.tasks (λ (x : TaskData). x.mask),
    ) in
    ◌∙◌ {A = List ℕ} c.in_ok-push.ensures.items
    (◌∙◌ {A = List ℕ} (λ k. c.loop-t.invariant k ++ c.mask.ensures k ∷ []) (sym (take_more (masks set) c.loop-t.t 0 fits)))

pub returns : goal.returns
returns c =
    let set = c.args.self.now in
    ◌∙◌ {A = List ℕ} c.loop-t.invariant (take_all c.loop-t.t (masks set)
    (omega (arith, c.loop-t-test.false, c.len-t-end.ensures.value, length-map set.tasks (λ (x : TaskData). x.mask))))
