use Rattle.std.proofs.Common.{◌∙◌, List, subst}
use mathlib.Core.List.{IsPrefix}
use Rattle.strong_apa.specs.declared.reply.Entry.{Entry}
use Rattle.schedule_board.specs.Boards.{PictureBoardData, seen}
use Rattle.schedule_board.specs.Pictures.{IsPictureOf}
use Rattle.replay.proofs.Seeing.{reads_further}
use Rattle.replay.proofs.telling.tell_one.Goals as goal

pub returns-clause-observed : goal.returns-clause-observed
returns-clause-observed g c = record {
  board = c.read-told.ensures.same.0 ∙ c.tell.ensures.same.0 ∙ c.requires.board;
  reads = reads_further _ _ _ _ _ _ c.requires.reads c.tell.ensures.same.1 c.read-told.ensures.later;
}

pub returns-clause-told : goal.returns-clause-told
returns-clause-told g c =
    let new = c.read-told.new.self in
    record {
      all = seen new;
      begins = subst (λ (l : List Entry). IsPrefix l (seen new)) c.tell.ensures.told c.read-told.ensures.told;
      told = subst (λ (b : PictureBoardData). IsPictureOf b.processors (seen new) c.read-told.result)
          (c.tell.ensures.same.0 ∙ c.requires.board) c.read-told.ensures.picture;
      reads = reads_further _ _ _ _ _ _ c.requires.reads c.tell.ensures.same.1 c.read-told.ensures.later;
    }
