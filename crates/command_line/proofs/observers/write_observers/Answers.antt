use Rattle.std.proofs.Common.{map}
use Rattle.std.proofs.lemmas.List.{length-map}
use Rattle.command_line.specs.Shown.{reading_of}
use Rattle.command_line.proofs.Written.{observers_written}
use Rattle.command_line.proofs.observers.write_observers.Goals as goal

pub returns : goal.returns
returns c =
    let count = length-map c.args.sightings.now reading_of in
    observers_written (map reading_of c.args.sightings.now) _ _ _ _ _ _ c.in_ok-extend_from_slice.ensures.items
    (rw count c.in_ok-write_number.ensures)
    c.in_ok-push.ensures.items c.in_ok-write_lines.ensures c.in_ok-extend_from_slice-2.ensures.items
