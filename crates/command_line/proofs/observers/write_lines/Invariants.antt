use Rattle.std.proofs.Common.{◌≡◌, ◌++◌, map, take}
use Rattle.std.specs.List.{flat_map, enumerate_from}
use Rattle.command_line.specs.WatchText.{observer_line}
use Rattle.command_line.specs.Shown.{reading_of}
use Rattle.command_line.proofs.observers.write_lines.Given as goal

abbrev pub invariant-loop-i : goal.invariant-loop-i
invariant-loop-i l =
    l.text.items ≡ l.initial.text.items ++ flat_map observer_line (enumerate_from 0 (map reading_of (take l.i l.sightings)))
