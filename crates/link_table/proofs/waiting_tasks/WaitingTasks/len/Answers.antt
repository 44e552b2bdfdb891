use Rattle.std.proofs.Common.{◌≡◌, length, get_or, ◌∙◌, subst}
use Rattle.std.proofs.lemmas.List.{length-map}
use Rattle.affinity_mask.specs.ProcSet.{empty}
use Rattle.link_table.specs.WaitingTasks.{Waiting}
use Rattle.link_table.proofs.waiting_tasks.WaitingTasks.len.Goals as goal

pub returns-clause-valid : goal.returns-clause-valid
returns-clause-valid c =
    let a = c.self.inside in
    subst (λ (w : Waiting). length w.masks ≡ length w.priorities) c.self.view_is (length-map a.ranks.items (λ r. get_or a.sets r empty)
    ∙ c.self.invariant.ranks_count)
