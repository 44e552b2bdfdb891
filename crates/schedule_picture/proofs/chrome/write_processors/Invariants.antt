use Rattle.std.proofs.Common.{◌≡◌, ◌++◌}
use Rattle.std.specs.List.{flat_map, range_with_len}
use Rattle.schedule_picture.specs.Chrome.{lane_events}
use Rattle.schedule_picture.specs.Picture.{spans_in}
use Rattle.schedule_picture.proofs.chrome.write_processors.Given as goal

abbrev pub invariant-loop-p : goal.invariant-loop-p
invariant-loop-p l =
    l.text.items ≡ l.fn.text.items ++ flat_map (lane_events l.sheet.places.now l.sheet.set.now (spans_in l.lanes)) (range_with_len 0 l.p)
