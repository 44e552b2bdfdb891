-- Two states that are alike but for their links, and what an event makes of them.
use Rattle.std.proofs.Common.{◌≡◌, ap, ◌∙◌, sym}
use Rattle.task_set.specs.declared.event.Event.{Event}
use Rattle.task_set.specs.declared.event.Event.TheVariants.{Arrive, Depart, Tick, Affinity, Offline, Online}
use Rattle.strong_apa.specs.State.{State, HasSameTasks, state_with_ready, state_with_absent, state_with_mask, state_with_online}
use Rattle.strong_apa.specs.State.{state_with_offline}
use Rattle.weak_apa.specs.Step.{state_with_event, without_links, Follows}

-- what an event says does not depend on the links
event_alike : (a b : State) (event : Event) → without_links a ≡ without_links b → without_links (state_with_event a event)
    ≡ without_links (state_with_event b event)
event_alike a b (Arrive t) alike = ap (λ (s : State). state_with_ready s t) alike
event_alike a b (Depart t) alike = ap (λ (s : State). state_with_absent s t) alike
event_alike a b (Tick units) alike = alike
event_alike a b (Affinity t mask) alike = ap (λ (s : State). state_with_mask s t mask) alike
event_alike a b (Offline p) alike = ap (λ (s : State). state_with_offline s p) alike
event_alike a b (Online p) alike = ap (λ (s : State). state_with_online s p) alike

-- states that follow the same event stay alike
pub alike_then : (a b new next : State) (event : Event) → without_links a ≡ without_links b → Follows a event new → Follows b event next
    → without_links new ≡ without_links next
alike_then a b new next event alike first second = first ∙ event_alike a b event alike ∙ sym second

pub same_tasks_alike : (a b : State) → without_links a ≡ without_links b → HasSameTasks a b
same_tasks_alike a b alike =
    record { processors = sym (ap (λ (s : State). s.processors) alike); priorities = sym (ap (λ (s : State). s.priorities) alike) }
