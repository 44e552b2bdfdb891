use Rattle.std.proofs.Common.{◌≡◌, ◌++◌, map, length, take, drop}
use Rattle.kernel_trace.specs.Unlisted.{settled_passage}
use Rattle.kernel_trace.proofs.unlisted.Unlisted.settle.Given as goal

abbrev pub invariant-loop-i : goal.invariant-loop-i
invariant-loop-i l =
    (l.passages.items ≡ map (settled_passage l.fn.tasks l.fn.self) (take l.i l.fn.passages.items) ++ drop l.i l.fn.passages.items)
    × (length l.passages.items ≡ length l.fn.passages.items)
