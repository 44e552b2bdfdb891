-- What no reply changes, and so no history: how many processors and tasks there are, and how urgent each task is. And
-- what no reply to an arrival, a departure or a tick changes: the masks, and which processors are on line.
use Rattle.std.proofs.Common.{◌≡◌, ℕ, List, [], ◌∷◌, Option, Some, None, refl, ap, ◌∙◌, arith}
use Rattle.std.specs.Prelude.{length}
use Rattle.task_set.specs.declared.event.Event.{Event}
use Rattle.task_set.specs.declared.event.Event.TheVariants.{Arrive, Depart, Tick, Affinity, Offline, Online}
use Rattle.strong_apa.specs.declared.reply.Came.{Came}
use Rattle.strong_apa.specs.declared.reply.Came.TheVariants as came
use Rattle.strong_apa.specs.declared.reply.Gone.{Gone}
use Rattle.strong_apa.specs.declared.reply.Reply.{Reply}
use Rattle.strong_apa.specs.declared.reply.Reply.TheVariants.{Placed, Displaced, Freed, Remasked, Off, On}
use Rattle.strong_apa.specs.declared.reply.Entry.{Entry}
use Rattle.strong_apa.specs.State.{State, HasSameTasks, task_count, state_with_mask, state_with_online, state_with_offline}
use Rattle.strong_apa.specs.State.{state_after_leaving}
use Rattle.strong_apa.specs.History.{state_after, effect_of, state_after_came, state_after_entering, state_after_left}
use Rattle.strong_apa.specs.Laws.{ReplyKeepsTasks, ReplyKeepsMasks}
use Rattle.strong_apa.specs.Step.{SchedulerStep}
use Rattle.strong_apa.proofs.Steps.{reply_gives_new_state, same_tasks-left}

-- ---- what stays for ever
pub same_tasks-then : (s mid new : State) → HasSameTasks s mid → HasSameTasks mid new → HasSameTasks s new
same_tasks-then s mid new first later =
    record { processors = later.processors ∙ first.processors; priorities = later.priorities ∙ first.priorities }

pub same_tasks-came : (s : State) (t : ℕ) (came : Came) → HasSameTasks s (state_after_came s t came)
same_tasks-came s t (came.Placed chain) = record { processors = refl; priorities = refl }
same_tasks-came s t (came.Displaced chain out reach) = record { processors = refl; priorities = refl }
same_tasks-came s t (came.Waits reach) = record { processors = refl; priorities = refl }

pub same_tasks-gone : (s : State) (entered : Option ℕ) (chain : List ℕ) → HasSameTasks s (state_after_entering s entered chain)
same_tasks-gone s None chain = record { processors = refl; priorities = refl }
same_tasks-gone s (Some w) chain = record { processors = refl; priorities = refl }

pub same_tasks-remasked : (s : State) (t mask : ℕ) (gone : Option Gone) (c : Came)
    → HasSameTasks s (state_after_came (state_with_mask (state_after_left s t gone) t mask) t c)
same_tasks-remasked s t mask gone c =
    let left = same_tasks-left s t gone in
    same_tasks-then s (state_with_mask (state_after_left s t gone) t mask)
    (state_after_came (state_with_mask (state_after_left s t gone) t mask) t c)
    (record { processors = left.processors; priorities = left.priorities })
    (same_tasks-came (state_with_mask (state_after_left s t gone) t mask) t c)

pub same_tasks-moved : (s : State) (p t : ℕ) (c : Came)
    → HasSameTasks s (state_after_came (state_with_offline (state_after_leaving s t) p) t c)
same_tasks-moved s p t c =
    same_tasks-then s (state_with_offline (state_after_leaving s t) p)
    (state_after_came (state_with_offline (state_after_leaving s t) p) t c) (record { processors = refl; priorities = refl })
    (same_tasks-came (state_with_offline (state_after_leaving s t) p) t c)

pub same_tasks-online : (s : State) (p : ℕ) (entered : Option ℕ) (chain : List ℕ)
    → HasSameTasks s (state_after_entering (state_with_online s p) entered chain)
same_tasks-online s p None chain = record { processors = refl; priorities = refl }
same_tasks-online s p (Some w) chain = record { processors = refl; priorities = refl }

pub reply_keeps_tasks : ReplyKeepsTasks
reply_keeps_tasks s (Arrive t) (Placed chain) = record { processors = refl; priorities = refl }
reply_keeps_tasks s (Arrive t) (Displaced chain out reach) = record { processors = refl; priorities = refl }
reply_keeps_tasks s (Depart t) (Freed None chain back) = record { processors = refl; priorities = refl }
reply_keeps_tasks s (Depart t) (Freed (Some w) chain back) = record { processors = refl; priorities = refl }
reply_keeps_tasks s (Affinity t mask) (Remasked gone c) = same_tasks-remasked s t mask gone c
reply_keeps_tasks s (Offline p) (Off None) = record { processors = refl; priorities = refl }
reply_keeps_tasks s (Offline p) (Off (Some moved)) = same_tasks-moved s p moved.task moved.came
reply_keeps_tasks s (Online p) (On parts) = same_tasks-online s p parts.entered parts.chain
reply_keeps_tasks s event reply = record { processors = refl; priorities = refl }

pub same_tasks-effect : (s : State) (entry : Entry) → HasSameTasks s (effect_of s entry)
same_tasks-effect s entry = reply_keeps_tasks s entry.event entry.reply

pub same_tasks-history : (s : State) (history : List Entry) → HasSameTasks s (state_after s history)
same_tasks-history s [] = record { processors = refl; priorities = refl }
same_tasks-history s (entry ∷ rest) =
    let here = same_tasks-effect s entry in
    let later = same_tasks-history (effect_of s entry) rest in
    record { processors = later.processors ∙ here.processors; priorities = later.priorities ∙ here.priorities }

pub same_tasks-step : (s : State) (event : Event) (reply : Reply) (new : State) → SchedulerStep s event reply new → HasSameTasks s new
same_tasks-step s event reply new step = rw (reply_gives_new_state s event reply new step) (reply_keeps_tasks s event reply)

pub same_count : (old new : State) → HasSameTasks old new → task_count new ≡ task_count old
same_count old new same = ap length same.priorities

-- ---- what stays while no event changes masks or processors
pub reply_keeps_masks : ReplyKeepsMasks
reply_keeps_masks s (Arrive t) (Placed chain) first = record { masks = refl; online = refl }
reply_keeps_masks s (Arrive t) (Displaced chain out reach) first = record { masks = refl; online = refl }
reply_keeps_masks s (Arrive t) reply first = record { masks = refl; online = refl }
reply_keeps_masks s (Depart t) (Freed None chain back) first = record { masks = refl; online = refl }
reply_keeps_masks s (Depart t) (Freed (Some w) chain back) first = record { masks = refl; online = refl }
reply_keeps_masks s (Depart t) reply first = record { masks = refl; online = refl }
reply_keeps_masks s (Tick units) reply first = record { masks = refl; online = refl }
reply_keeps_masks s (Affinity t mask) reply first = absurd (let two : 1 ≡ 2 = first in omega arith)
reply_keeps_masks s (Offline p) reply first = absurd (let two : 1 ≡ 2 = first in omega arith)
reply_keeps_masks s (Online p) reply first = absurd (let two : 1 ≡ 2 = first in omega arith)
