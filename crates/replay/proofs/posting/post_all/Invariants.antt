use Rattle.std.proofs.Common.{◌≡◌, ◌<◌, length, take, true}
use Rattle.schedule_board.specs.Boards.{board_of, published}
use Rattle.replay.specs.Places.{AllFrom}
use Rattle.replay.specs.Streams.{IsStreamedAt}
use Rattle.replay.specs.Passes.{FirstSaw}
use Rattle.replay.proofs.posting.post_all.Given as goal

abbrev pub invariant-loop-posted : goal.invariant-loop-posted
invariant-loop-posted g l = record {
  callers : length l.passes.items ≡ length l.initial.passes.items;
  streamed : AllFrom (IsStreamedAt l.shared.board.now (take l.posted-index l.shared.events.now) true) 0 l.passes.items;
  board : board_of l.publisher ≡ board_of l.initial.publisher;
  published : FirstSaw (published l.publisher) l.passes.items;
  owing : l.owing < 128;
}
