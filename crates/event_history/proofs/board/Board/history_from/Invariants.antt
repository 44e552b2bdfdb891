use Rattle.std.proofs.Common.{◌≡◌}
use Rattle.event_history.specs.Boards.{Grown}
use Rattle.event_history.proofs.board.Board.history_from.Given as goal

abbrev pub invariant-loop : goal.invariant-loop
invariant-loop g l = Grown l.initial.pass l.pass × (l.pass.mine ≡ l.initial.pass.mine) × (l.pass.eyes ≡ l.initial.pass.eyes)
    × (l.into.items ≡ l.initial.into.items)
