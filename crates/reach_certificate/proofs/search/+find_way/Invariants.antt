use Rattle.std.proofs.Common.{◌-◌}
use Rattle.reach_certificate.proofs.Searches.{IsSeen, size_of}
use Rattle.reach_certificate.proofs.search.+find_way.Given as goal

-- how many processors were not visited
abbrev pub decreases-find_way : goal.decreases-find_way
decreases-find_way l = 64 - size_of l.visited

abbrev pub invariant-loop-p : goal.invariant-loop-p
invariant-loop-p l = IsSeen l.links l.t l.fn.visited l.seen l.p
