-- What contracts see of the places of tasks, and what is kept beside it: of each task its
-- processor, which processors are occupied, and of each processor whose occupants' masks have it.
-- Nothing of that changes when a processor goes off line or comes on line.
use Rattle.std.specs.Prelude.{◌≡◌, ℕ, ◌<◌, ◌≤◌, List, length, get_or, is_some, Option, Some, None}
use Rattle.affinity_mask.specs.ProcSet.{has, empty, all_below, Within}
use Rattle.link_table.specs.Layout.{Layout, occupant_in, mask_has}
use Rattle.link_table.specs.declared.places.Places.TheInside.{Inside}

-- an index agrees with a layout
pub record IsIndex (a : Layout) (of : List (Option ℕ)) (linked : ℕ)
    (feeders : List ℕ) : Type 0 where
  pub few : length a.on ≤ 64
  pub masks : (t : ℕ) → Within (get_or a.masks t empty) (all_below (length a.on))
  pub places_count : length of ≡ length a.masks
  pub feeders_count : length feeders ≡ length a.on
  pub place : (p t : ℕ) → occupant_in a p ≡ Some t → get_or of t None ≡ Some p
  pub occupant : (t p : ℕ) → get_or of t None ≡ Some p → occupant_in a p ≡ Some t
  pub occupied : (p : ℕ) → has linked p ≡ is_some (occupant_in a p)
  pub fed : (q p : ℕ) → q < length a.on
      → has (get_or feeders q empty) p ≡ mask_has a (occupant_in a p) q

-- the layout whose columns are stored
abbrev pub places_view : Inside → Layout
places_view a = record { masks = a.masks.items; online = a.online; on = a.on.items }

-- the index that is stored agrees with it at every moment
abbrev pub IsIndexed : Inside → Type 0
IsIndexed a = IsIndex (places_view a) a.of.items a.linked a.feeders.items
