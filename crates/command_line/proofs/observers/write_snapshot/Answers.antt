use Rattle.std.specs.Prelude.{is_some}
use Rattle.schedule_board.specs.Pictures.{task_at}
use Rattle.command_line.specs.Shown.{snapshot_of}
use Rattle.command_line.proofs.Snapshots.{shown_set}
use Rattle.command_line.proofs.Written.{snapshot_written}
use Rattle.command_line.proofs.observers.write_snapshot.Goals as goal

pub returns : goal.returns
returns c =
    let picture = c.args.picture.now in
    let same = shown_set c.linked-occupied.result (λ p. is_some (task_at picture p))
    c.count-valid.ensures.valid c.linked-occupied.ensures in
    snapshot_written c.args.label.now (snapshot_of picture) _ _ _ _ _ _ _ c.in_ok-extend_from_slice.ensures.items
    (rw c.count.ensures at c.in_ok-write_number.ensures) c.in_ok-push.ensures.items same c.write_set.ensures
