use Rattle.std.proofs.Common.{sym, subst}
use Rattle.left_right.specs.Sides.{view}
use Rattle.schedule_board.specs.Views.{ShownGoesOn}
use Rattle.schedule_board.proofs.Boards.{turns}
use Rattle.schedule_board.proofs.board.publishing.show.Goals as goal

pub publish_as-desk-requires : goal.publish_as-desk-requires
publish_as-desk-requires g c next is =
    let d = c.args.desk.desk in turns d.place.id (view d.place) d.shown.value next (subst (ShownGoesOn d.shown.value) (sym is) c.requires)
