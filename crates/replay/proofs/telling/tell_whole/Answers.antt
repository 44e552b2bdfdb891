use Rattle.std.proofs.Common.{ap}
use Rattle.schedule_board.specs.Boards.{PictureBoardData, board_of, published}
use Rattle.replay.proofs.Seeing.{told_whole}
use Rattle.replay.proofs.telling.tell_whole.Goals as goal

pub returns-clause-each : goal.returns-clause-each
returns-clause-each g c =
    let publisher = c.publish_new.new.publisher in
    told_whole (published publisher) c.publish_new.new.passes.items (board_of publisher).processors
    (board_of c.args.publisher).processors c.tell_all.result c.in_ok-publish_new.ensures.all
    (ap (λ (b : PictureBoardData). b.processors) c.publish_new.ensures.board) c.tell_all.ensures.each
