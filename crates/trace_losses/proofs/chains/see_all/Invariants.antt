use Rattle.std.proofs.Common.{◌≡◌}
use Rattle.strong_apa.specs.State.{task_count}
use Rattle.trace_losses.proofs.ChainsAt.{SeesBelow}
use Rattle.trace_losses.proofs.chains.see_all.Given as goal

abbrev pub invariant-loop-t : goal.invariant-loop-t
invariant-loop-t l = record {
  all : l.t-end ≡ task_count l.fn.core.links;
  sees : SeesBelow l.fn.core l.processors l.t l.core;
}
