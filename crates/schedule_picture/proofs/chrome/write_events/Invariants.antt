use Rattle.std.proofs.Common.{◌≡◌, ◌++◌, take}
use Rattle.std.specs.List.{flat_map}
use Rattle.schedule_picture.specs.Chrome.{event_of_span}
use Rattle.schedule_picture.proofs.chrome.write_events.Given as goal

abbrev pub invariant-loop-span : goal.invariant-loop-span
invariant-loop-span l =
    l.text.items ≡ l.fn.text.items ++ flat_map (event_of_span l.sheet.places.now l.sheet.set.now l.p) (take l.span-index l.stays)
