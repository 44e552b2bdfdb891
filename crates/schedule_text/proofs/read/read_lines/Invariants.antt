use Rattle.std.proofs.Common.{length}
use Rattle.schedule_text.specs.Reading.{progress_of}
use Rattle.schedule_text.proofs.SoFar.{IsReadTo}
use Rattle.schedule_text.proofs.read.read_lines.Given as goal

abbrev pub invariant-loop-text : goal.invariant-loop-text
invariant-loop-text l = IsReadTo l.fn.bytes l.rest l.line (progress_of l.stage)

abbrev pub decreases-loop-text : goal.decreases-loop-text
decreases-loop-text l = length l.rest
