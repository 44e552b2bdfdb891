use Rattle.std.proofs.Common.{◌≡◌, sym, ap, ◌∙◌, subst}
use Rattle.task_set.specs.TaskSet.{SetData, IsTaskSet}
use Rattle.strong_apa.specs.Dispatch.{contexts_of}
use Rattle.strong_apa.specs.History.{IsLegal}
use Rattle.replay.proofs.Carrying.{free_hands, contexts_carried}
use Rattle.replay.proofs.schedule.carried_contexts.Goals as goal

pub close-requires : goal.close-requires
close-requires c =
    let have = c.requires.hands in
    (have.one_each, free_hands c.args.slots c.args.core.now.history 0 c.args.hands.items have.each)

pub returns-in-Ok : goal.returns-in-Ok
returns-in-Ok c =
    let slots = c.args.slots in
    let history = c.args.core.now.history in
    let same : slots.set ≡ c.args.set.now = c.requires.set in
    let contexts = c.in-Ok.ensures.contexts in
    contexts_carried slots history c.args.hands.items c.in-Ok.contexts.items (subst IsTaskSet (sym same) c.len-tasks.ensures.valid)
    (subst (λ (s : SetData). IsLegal s history) (sym same) c.requires.legal) c.requires.hands contexts.0 contexts.1
    ∙ ap (λ (s : SetData). contexts_of s history) same
