use Rattle.std.proofs.Common.{◌-◌, length}
use Rattle.path_search.specs.Paths.{Steps}
use Rattle.path_search.proofs.LevelSearch.{IsLevelSearch}
use Rattle.path_search.proofs.level_search.levels_to.Given as goal

abbrev pub invariant-loop-direction : goal.invariant-loop-direction
invariant-loop-direction l = IsLevelSearch (Steps l.links l.direction) l.fn.start l.target l.levels l.level l.done

abbrev pub decreases-loop-direction : goal.decreases-loop-direction
decreases-loop-direction l = 64 - length l.levels
