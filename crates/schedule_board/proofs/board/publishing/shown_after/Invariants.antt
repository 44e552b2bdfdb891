use Rattle.std.proofs.Common.{◌++◌, take}
use Rattle.schedule_board.specs.Pictures.{IsPictureOf}
use Rattle.schedule_board.proofs.board.publishing.shown_after.Given as goal

-- the picture of the entries so far
abbrev pub invariant-loop-entry : goal.invariant-loop-entry
invariant-loop-entry l =
    IsPictureOf l.fn.shown.picture.occupants.processors (l.fn.shown.reached.log ++ take l.entry-index l.more) l.picture
