use Rattle.std.proofs.Common.{◌≡◌, ◌++◌, take}
use Rattle.std.specs.List.{flat_map}
use Rattle.schedule_picture.specs.Group.{row_rect}
use Rattle.schedule_picture.proofs.groups.write_row.Given as goal

abbrev pub invariant-loop-span : goal.invariant-loop-span
invariant-loop-span l =
    l.text.items ≡ l.fn.text.items ++ flat_map (row_rect l.sheet.places.now l.sheet.window l.k l.t) (take l.span-index l.spans)
