use Rattle.std.proofs.Common.{◌≡◌, take}
use Rattle.commands.specs.Summary.{displaces, makes_wait, replies_of}
use Rattle.commands.proofs.summary.replies_in.Given as goal

abbrev pub invariant-loop-entry : goal.invariant-loop-entry
invariant-loop-entry l = record {
  displaced : l.replies.displaced ≡ replies_of displaces (take l.entry-index l.history);
  waits : l.replies.waits ≡ replies_of makes_wait (take l.entry-index l.history);
}
