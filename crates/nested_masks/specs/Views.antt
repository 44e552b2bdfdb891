-- What contracts see of the stored columns.
use Rattle.std.specs.Prelude.{ℕ, List}
use Rattle.nested_masks.specs.NestedData.{NestedData, IsCounted, IsNested, linked_of}
use Rattle.nested_masks.specs.Counting.{IsHeldBy}
use Rattle.nested_masks.specs.declared.counts.Counts.TheInside as counts
use Rattle.nested_masks.specs.declared.nested.Nested.TheInside as nested

-- the stored columns
abbrev pub counts_view : counts.Inside → NestedData
counts_view a = record {
  processors = a.processors;
  priorities = a.priorities.items;
  masks = a.masks.items;
  ready = a.ready.items;
  linked = a.linked.items;
}

-- no node holds too many linked tasks, and by task is how many the node of its mask holds
pub record IsTallied (n : NestedData) (held : List ℕ) : Type 0 where
  pub counted : IsCounted n
  pub each_mask : IsHeldBy n.masks (linked_of n) held

-- what is stored is right at every moment
abbrev pub IsStored : counts.Inside → Type 0
IsStored a = IsTallied (counts_view a) a.held.items

-- what contracts see of a scheduler by counts
abbrev pub nested_view : nested.Inside → NestedData
nested_view a = a.counts

-- each waiting task is kept out by a node, at every moment
abbrev pub IsKept : nested.Inside → Type 0
IsKept a = IsNested (nested_view a)
