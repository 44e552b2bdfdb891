-- The numbers that an input is made from.
use Rattle.std.specs.Prelude.{◌≤◌}
use Rattle.commands.specs.declared.sizes.Sizes.{Sizes}

-- numbers of which there is an input
pub record AreWithin (sizes : Sizes) : Type 0 where
  pub processors : (1 ≤ sizes.processors) × (sizes.processors ≤ 64)
  pub tasks : (1 ≤ sizes.tasks) × (sizes.tasks ≤ 1024)
  pub events : sizes.events ≤ 20000
