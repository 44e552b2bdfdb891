use Rattle.std.proofs.Common.{◌<◌, take}
use Rattle.event_history.specs.Merging.{AreEventsAt}
use Rattle.replay.specs.Merge.{events_of_stream}
use Rattle.replay.specs.Streams.{IsPassAt}
use Rattle.replay.proofs.streams.post_stream.Given as goal

abbrev pub invariant-loop-posted : goal.invariant-loop-posted
invariant-loop-posted g l = record {
  own : IsPassAt l.board l.initial.pass.caller l.pass;
  events : AreEventsAt l.pass.seen l.pass.mine (events_of_stream l.initial.pass.caller (take l.posted-index l.events));
  owing : l.owing < 128;
}
