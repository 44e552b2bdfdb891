-- At the start of a set nobody is ready, and nobody is linked.
use Rattle.std.proofs.Common.{length}
use Rattle.task_set.specs.TaskSet.{SetData}
use Rattle.strong_apa.specs.State.{start_of}
use Rattle.strong_apa.proofs.Start.{none_on, none_ready}
use Rattle.history_laws.specs.Start.{NobodyIsReady}

pub nobody_ready : (set : SetData) → NobodyIsReady (start_of set)
nobody_ready set = record {
  absent = none_ready (length set.tasks);
  idle = none_on set.processors;
}
