use Rattle.std.proofs.Common.{Option, refl, sym, subst}
use Rattle.task_set.specs.declared.event.Event.{Event}
use Rattle.strong_apa.specs.Step.{SchedulerStep}
use Rattle.strong_apa.proofs.SameTasks.{same_tasks-step}
use Rattle.live_core.specs.Slots.{IsEventInUse}
use Rattle.trace_losses.specs.Passages.{ready_by}
use Rattle.trace_losses.specs.Walk.{IsPlaced}
use Rattle.trace_passages.specs.declared.passage.Readiness.{Readiness}
use Rattle.trace_losses.proofs.InUse.{all_after, mention_in_use}
use Rattle.trace_losses.proofs.Placed.{placed_by}
use Rattle.trace_losses.proofs.walk.follow.Goals as goal

pub apply-requires-clause-in_use : goal.apply-requires-clause-in_use
apply-requires-clause-in_use c =
    let mention = c.in-Some.mention in
    subst (λ (event : Event). IsEventInUse c.args.core.now event) (sym c.event_of.ensures)
    (mention_in_use c.args.core.now mention mention.is_in refl (c.requires.used mention.task (c.requires.number mention c.in-Some.is)))

pub returns-in-Some-clause-used : goal.returns-in-Some-clause-used
returns-in-Some-clause-used c =
    all_after c.args.core.now c.apply.new.self c.requires.used (same_tasks-step _ _ _ _ c.apply.ensures.step) c.apply.ensures.slots

pub returns-in-Some-clause-placed : goal.returns-in-Some-clause-placed
returns-in-Some-clause-placed c = λ task_set before placed.
    (let old = c.args.core.now.links in
    let new = c.apply.new.self.links in
    let step = subst (λ (event : Event). SchedulerStep old event c.apply.new.self.last new) c.event_of.ensures c.apply.ensures.step in
    subst (λ (mention : Option Readiness). IsPlaced task_set (λ t. ready_by mention t (before t)) new) (sym c.in-Some.is)
    (placed_by c.in-Some.mention task_set before old c.apply.new.self.last new c.in-Some.mention.is_in refl step c.apply.ensures.valid
    c.apply.ensures.best
    placed))
