use Rattle.std.proofs.Common.{◌≡◌}
use Rattle.event_history.specs.Boards.{Grown}
use Rattle.thread_tests.proofs.board_tests.post_share.Given as goal

abbrev pub invariant-loop-number : goal.invariant-loop-number
invariant-loop-number g l = Grown l.initial.pass l.pass × (l.pass.eyes ≡ l.initial.pass.eyes)
