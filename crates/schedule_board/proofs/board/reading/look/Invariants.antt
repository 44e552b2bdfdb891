use Rattle.std.proofs.Common.{◌≡◌}
use Rattle.left_right.specs.Sides.{view}
use Rattle.schedule_board.proofs.board.reading.look.Given as goal

-- nothing was seen yet
abbrev pub invariant-loop : goal.invariant-loop
invariant-loop g l = (goal.iterator-loop g).can_next l.iterator' × (goal.iterator-loop g).is_finite l.iterator'
    × (view l.place.place ≡ view l.initial.place.place)
