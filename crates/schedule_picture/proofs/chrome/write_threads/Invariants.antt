use Rattle.std.proofs.Common.{◌≡◌, ◌++◌}
use Rattle.std.specs.List.{flat_map, range_with_len}
use Rattle.schedule_picture.specs.Chrome.{thread_text}
use Rattle.schedule_picture.proofs.chrome.write_threads.Given as goal

abbrev pub invariant-loop-p : goal.invariant-loop-p
invariant-loop-p l = l.text.items ≡ l.fn.text.items ++ flat_map thread_text (range_with_len 0 l.p)
