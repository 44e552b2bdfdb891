use Rattle.std.proofs.Common.{◌≡◌, ◌++◌}
use Rattle.std.specs.List.{flat_map, range_with_len}
use Rattle.trace_picture.specs.Around.{label_text}
use Rattle.trace_picture.proofs.around.write_labels.Given as goal

abbrev pub invariant-loop-p : goal.invariant-loop-p
invariant-loop-p l = l.text.items ≡ l.fn.text.items ++ flat_map (label_text l.fn.top) (range_with_len 0 l.p)
