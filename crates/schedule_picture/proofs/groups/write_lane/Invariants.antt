use Rattle.std.proofs.Common.{◌≡◌, ◌++◌, take}
use Rattle.std.specs.List.{flat_map}
use Rattle.schedule_picture.specs.Group.{lane_rect}
use Rattle.schedule_picture.proofs.groups.write_lane.Given as goal

abbrev pub invariant-loop-span : goal.invariant-loop-span
invariant-loop-span l =
    l.text.items ≡ l.fn.text.items ++ flat_map (lane_rect l.sheet.places.now l.sheet.window l.sheet.set.now l.p) (take l.span-index l.spans)
