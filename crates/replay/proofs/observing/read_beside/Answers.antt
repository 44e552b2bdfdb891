use Rattle.std.proofs.Common.{◌∙◌, subst}
use Rattle.schedule_board.specs.Boards.{PictureBoardData, seen}
use Rattle.schedule_board.specs.Pictures.{IsPictureOf}
use Rattle.schedule_board.proofs.Prefixes.{prefix_self}
use Rattle.replay.proofs.observing.read_beside.Goals as goal

pub returns-clause-board : goal.returns-clause-board
returns-clause-board g c = c.loop.invariant.board ∙ c.look-first.ensures.board

pub returns-clause-reads : goal.returns-clause-reads
returns-clause-reads g c =
    let i = c.loop.invariant in
    let first = seen c.look-first.new.observer in
    let last = seen c.loop.observer in
    record {
      at_first = first;
      at_last = last;
      first_of = subst (λ (b : PictureBoardData). IsPictureOf b.processors first c.look-first.result) c.look-first.ensures.board i.first;
      last_of = subst (λ (b : PictureBoardData). IsPictureOf b.processors last c.loop.last) c.look-first.ensures.board i.last;
      later = i.later;
      within = prefix_self last;
    }
