use Rattle.std.proofs.Common.{ℕ, ◌<◌, IsTrue}
use Rattle.affinity_mask.specs.ProcSet.{has}
use Rattle.path_search.specs.Paths.{Steps}
use Rattle.path_search.proofs.Closures.{IsSearch}
use Rattle.link_table.proofs.Rests.{rest_of}
use Rattle.path_search.proofs.ends.ends_from.Given as goal

abbrev pub invariant-loop-p : goal.invariant-loop-p
invariant-loop-p l = record {
  search : IsSearch (Steps l.links l.direction) l.fn.start l.found l.done;
  below : (q : ℕ) → IsTrue (has l.found q) → q < l.links.processors;
}

abbrev pub decreases-loop-p : goal.decreases-loop-p
decreases-loop-p l = rest_of l.done
