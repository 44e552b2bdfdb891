-- Which occupants a reply may change: those of the processors of its chains, and that of a
-- processor that goes off line. A processor may stand twice among them: in the chain along which
-- others fill the place of a task, and in the one along which that task comes back.
use Rattle.std.specs.Prelude.{◌≡◌, ℕ, ◌<◌, List, ◌∷◌, All, Contains}
use Rattle.task_set.specs.declared.event.Event.{Event}
use Rattle.task_set.specs.declared.event.Event.TheVariants.{Offline}
use Rattle.strong_apa.specs.declared.reply.Reply.{Reply}
use Rattle.strong_apa.specs.Reply.{chain_of}
use Rattle.strong_apa.specs.State.{State, task_on}

-- the processors whose occupants an event with this reply may change
abbrev pub touched : Event → Reply → List ℕ
touched (Offline p) reply = p ∷ chain_of reply
touched event reply = chain_of reply

-- each processor of the list is one of the old state, and each other one has the same occupant in
-- both states
pub record StaysOutside (old new : State) (list : List ℕ) : Type 0 where
  pub below : All (λ p. p < old.processors) list
  pub same : (p : ℕ) → (Contains list p → ⊥) → task_on new p ≡ task_on old p
