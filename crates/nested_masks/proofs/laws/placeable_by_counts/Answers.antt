use Rattle.nested_masks.proofs.Placeables as placeables
use Rattle.nested_masks.proofs.laws.placeable_by_counts.Goals as goal

pub returns : goal.returns
returns c = placeables.placeable_by_counts
