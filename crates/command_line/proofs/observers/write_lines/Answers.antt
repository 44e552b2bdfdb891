use Rattle.std.specs.Prelude.{[]}
use Rattle.schedule_board.specs.declared.picture.Picture.{Picture}
use Rattle.replay.specs.declared.sighting.Sighting.{Sighting}
use Rattle.command_line.proofs.Written.{lines_written}
use Rattle.command_line.proofs.observers.write_lines.Goals as goal

-- what stands for an element past the end
abbrev no_picture : Picture
no_picture = record { count = 0; occupants = record { processors = 0; on = [] } }

abbrev no_sighting : Sighting
no_sighting = record { first = no_picture; last = no_picture; told = no_picture }

pub loop-i-preserved : goal.loop-i-preserved
loop-i-preserved c =
    lines_written c.args.sightings.now c.loop-i.i no_sighting _ _ _ c.loop-i-test.true c.loop-i.invariant c.in_ok-write_observer.ensures
