-- The slots of all tasks are in use, from the first event to the last.
use Rattle.std.proofs.Common.{◌≡◌, ℕ, ◌<◌, Bool, true, false, List, length, replicate, get_or, sym, ap, ◌∙◌, subst}
use Rattle.std.specs.Prelude.{if◌then◌else◌}
use Rattle.std.proofs.lemmas.List.{get_or-replicate}
use Rattle.task_set.specs.declared.event.Event.TheVariants.{Arrive, Depart}
use Rattle.strong_apa.specs.State.{HasSameTasks, task_count}
use Rattle.live_core.specs.Live.{LiveData}
use Rattle.live_core.specs.Slots.{is_in_use, IsEventInUse}
use Rattle.trace_losses.specs.Walk.{AllInUse, event_of}
use Rattle.trace_passages.specs.declared.passage.Readiness.{Readiness}

pub all_at_first : (tasks : ℕ) (core : LiveData) → task_count core.links ≡ tasks → core.in_use ≡ replicate tasks true → AllInUse core
all_at_first tasks core count in_use t below =
    ap (λ (list : List Bool). get_or list t false) in_use ∙ get_or-replicate tasks t true false (subst (λ (n : ℕ). t < n) count below)

pub all_after : (old new : LiveData) → AllInUse old → HasSameTasks old.links new.links → new.in_use ≡ old.in_use → AllInUse new
all_after old new all same in_use t below =
    ap (λ (list : List Bool). get_or list t false) in_use ∙ all t (subst (λ (n : ℕ). t < n) (ap length same.priorities) below)

pub mention_in_use : (core : LiveData) (mention : Readiness) (is_in : Bool) → mention.is_in ≡ is_in → is_in_use core mention.task ≡ true
    → IsEventInUse core (event_of mention)
mention_in_use core mention true is used =
    subst (λ (b : Bool). IsEventInUse core (if b then Arrive mention.task else Depart mention.task)) (sym is) used
mention_in_use core mention false is used =
    subst (λ (b : Bool). IsEventInUse core (if b then Arrive mention.task else Depart mention.task)) (sym is) used
