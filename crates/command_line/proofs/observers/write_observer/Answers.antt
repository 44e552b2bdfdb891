use Rattle.command_line.specs.Shown.{reading_of}
use Rattle.command_line.proofs.Written.{observer_written}
use Rattle.command_line.proofs.observers.write_observer.Goals as goal

pub returns : goal.returns
returns c =
    observer_written c.args.number (reading_of c.args.sighting.now) _ _ _ _ _ _ _ c.in_ok-extend_from_slice.ensures.items
    c.in_ok-write_number.ensures
    c.in_ok-write_snapshot.ensures c.in_ok-write_snapshot-2.ensures c.in_ok-write_snapshot-3.ensures c.in_ok-push.ensures.items
