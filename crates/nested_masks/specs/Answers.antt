-- What a scheduler by counts is asked, and what its answers say.
use Rattle.std.specs.Prelude.{◌≡◌, ℕ, ◌<◌}
use Rattle.task_set.specs.TaskSet.{SetData, masks}
use Rattle.task_set.specs.declared.event.Event.{Event}
use Rattle.task_set.specs.declared.event.Event.TheVariants.{Arrive, Depart, Tick}
use Rattle.nested_masks.specs.Laminar.{IsFirstCrossing}
use Rattle.nested_masks.specs.NestedData.{NestedData, CertifiesEverywhere}
use Rattle.nested_masks.specs.declared.fault.NestedFault.{NestedFault}
use Rattle.nested_masks.specs.declared.fault.NestedFault.TheVariants.{Crossing, OutOfMemory}
use Rattle.nested_masks.specs.declared.reply.NestedReply.{NestedReply}
use Rattle.nested_masks.specs.declared.reply.NestedReply.TheVariants as answer

-- an arrival or a departure of one of so many tasks, or a tick
abbrev pub IsEventByCounts : ℕ → Event → Type 0
IsEventByCounts count (Arrive t) = t < count
IsEventByCounts count (Depart t) = t < count
IsEventByCounts count (Tick units) = Unit {0}
IsEventByCounts count event = ⊥

-- the refusal of a set whose masks cross: it carries the first pair that does
abbrev pub IsCrossingFault : SetData → NestedFault → Type 0
IsCrossingFault set (Crossing one other) = IsFirstCrossing (masks set) one other
IsCrossingFault set OutOfMemory = ⊥

-- the node of a reply certifies the task that waits, in every placement of the linked tasks: the
-- one that arrived, or the one that was displaced
pub record NodeCertifies (new : NestedData) (event : Event) (reply : NestedReply) : Type 0 where
  pub waits : (t node : ℕ) → event ≡ Arrive t → reply ≡ answer.Waits node
      → CertifiesEverywhere new node t
  pub displaced : (out node : ℕ) → reply ≡ answer.Displaced out node
      → CertifiesEverywhere new node out
