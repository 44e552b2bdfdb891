use Rattle.std.proofs.Common.{◌≡◌, ◌≤◌, length, All}
use Rattle.left_right.specs.Sides.{view}
use Rattle.schedule_board.specs.Boards.{IsNewObserver, board_shown}
use Rattle.schedule_board.proofs.board.making.make_observers.Given as goal

-- the observers so far
abbrev pub invariant-loop : goal.invariant-loop
invariant-loop l =
    (length l.all.items ≡ l.counter) × (l.counter ≤ l.observers) × All (IsNewObserver (board_shown l.fn.desk.desk.shown.value)) l.all.items
    × (view l.desk.desk.place ≡ view l.fn.desk.desk.place) × (l.desk.desk.shown ≡ l.fn.desk.desk.shown)
