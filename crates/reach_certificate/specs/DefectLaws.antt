-- Laws of defects, and of contexts that follow entries. Each law is proved as the contract of a
-- function of `laws`.
use Rattle.std.specs.Prelude.{◌≡◌, ℕ, ◌⊎◌, List, [], ◌∷◌, ◌++◌, map}
use Rattle.std.specs.List.{range_with_len}
use Rattle.task_set.specs.declared.context.Context.{Context}
use Rattle.task_set.specs.declared.event.Event.{Event}
use Rattle.strong_apa.specs.declared.reply.Reply.{Reply}
use Rattle.strong_apa.specs.declared.reply.Entry.{Entry}
use Rattle.strong_apa.specs.State.{State, IsState}
use Rattle.strong_apa.specs.Step.{IsEventFor}
use Rattle.strong_apa.specs.History.{effect_of, state_after}
use Rattle.strong_apa.specs.Dispatch.{context_of}
use Rattle.reach_certificate.specs.Contexts.{EachBecomes, context_after_entry}
use Rattle.reach_certificate.specs.Defect.{IsReplyDefect, HasSetsOfProcessors}
use Rattle.strong_apa.specs.Passing.{Passes}
use Rattle.reach_certificate.specs.declared.defect.Defect.{Defect}

-- no reply passes and has a defect
abbrev pub PassingHasNoDefect : Type 0
PassingHasNoDefect = (s : State) (event : Event) (reply : Reply) (defect : Defect) → IsState s
    → Passes s event reply → IsReplyDefect s event reply defect → ⊥

-- a reply has one defect at most
abbrev pub DefectIsUnique : Type 0
DefectIsUnique = (s : State) (event : Event) (reply : Reply) (one other : Defect) → IsState s
    → IsReplyDefect s event reply one → IsReplyDefect s event reply other → one ≡ other

-- each reply to an event of the tasks and processors passes, or has a defect
abbrev pub PassesOrHasDefect : Type 0
PassesOrHasDefect = (s : State) (event : Event) (reply : Reply) → IsState s → IsEventFor s event
    → HasSetsOfProcessors reply → Passes s event reply
    ⊎ ((defect : Defect) × IsReplyDefect s event reply defect)

-- contexts of a history that follow one more entry are those of the history with that entry
abbrev pub ContextsFollow : Type 0
ContextsFollow = (start : State) (entries : List Entry) (entry : Entry) (count : ℕ)
    (contexts after : List Context)
    → contexts ≡ map (context_of start entries) (range_with_len 0 count)
    → EachBecomes (context_after_entry (state_after start entries)
    (effect_of (state_after start entries) entry) entry.event) contexts after
    → after ≡ map (context_of start (entries ++ entry ∷ [])) (range_with_len 0 count)
