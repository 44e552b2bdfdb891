use Rattle.schedule_picture.specs.Spans.{absence_of}
use Rattle.schedule_picture.proofs.Looking.{BecomesBelow, Becoming}
use Rattle.schedule_picture.proofs.tracks.see_absences.Given as goal

abbrev pub invariant-loop-p : goal.invariant-loop-p
invariant-loop-p l = BecomesBelow (Becoming l.n (absence_of l.links)) l.p l.fn.absences.items l.absences.items
