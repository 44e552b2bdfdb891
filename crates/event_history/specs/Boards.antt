-- What contracts see of a board and of its passes: a board is made for a set of tasks, a queue for
-- each processor, and a number of callers; a pass is of one board and one caller, knows a beginning
-- of the history, and has an eye for each queue.
use Rattle.std.specs.Prelude.{◌≡◌, ℕ, ◌+◌, ◌≤◌, Bool, false, true, List, [], ◌∷◌, ◌++◌, length, map}
use mathlib.Core.List.{IsPrefix}
use Rattle.atomic_table.specs.Seated.{TableId}
use Rattle.task_set.specs.TaskSet.{SetData, IsTaskSet}
use Rattle.strong_apa.specs.declared.reply.Entry.{Entry}
use Rattle.order_queues.specs.Ends.{QueueData, EyeData, new_eye}

-- which board it is, the set over which it was made, the queues of its senders, and how many
-- callers it has
pub record BoardData : Type 0 where
  pub id : TableId
  pub set : SetData
  pub queues : List QueueData
  pub callers : ℕ

-- each queue was made for as many tasks as the set has
abbrev pub AreFor : SetData → List QueueData → Type 0
AreFor set [] = Unit {0}
AreFor set (queue ∷ rest) = (queue.tasks ≡ length set.tasks) × AreFor set rest

-- what holds of every board
pub record IsMade (board : BoardData) : Type 0 where
  pub valid : IsTaskSet board.set
  pub one_each : length board.queues ≡ board.set.processors
  pub tasks : AreFor board.set board.queues
  pub callers : (1 ≤ board.callers) × (board.callers ≤ 16)

-- the board that it is of, its caller, the beginning of the history that it has seen, the places of
-- its own entries, the greatest count that it knows, whether it saw the close, the words that its
-- own loads and exchanges found, and its eyes
pub record PassData : Type 0 where
  pub board : TableId
  pub caller : ℕ
  pub seen : List Entry
  pub mine : List ℕ
  pub known : ℕ
  pub saw_close : Bool
  pub looks : List ℕ
  pub eyes : List EyeData

-- an eye for each of these queues, in order
abbrev pub AreEyesOf : List QueueData → List EyeData → Type 0
AreEyesOf queues eyes =
    map (λ (e : EyeData). e.received_word) eyes ≡ map (λ (q : QueueData). q.received_word) queues

-- a pass that has done and seen nothing
abbrev pub new_pass : TableId → List EyeData → ℕ → PassData
new_pass board eyes caller = record {
  board = board;
  caller = caller;
  seen = [];
  mine = [];
  known = 0;
  saw_close = false;
  looks = [];
  eyes = eyes;
}

-- new passes of the board, for the callers from n on
abbrev pub AreNewPassesFrom : TableId → List EyeData → ℕ → List PassData → Type 0
AreNewPassesFrom board eyes n [] = Unit {0}
AreNewPassesFrom board eyes n (pass ∷ rest) =
    (pass ≡ new_pass board eyes n) × AreNewPassesFrom board eyes (n + 1) rest

-- a new pass of the board for each caller, in order, whose eyes know nothing
abbrev pub AreNewPasses : BoardData → List PassData → Type 0
AreNewPasses board passes =
    (length passes ≡ board.callers) × AreNewPassesFrom board.id (map new_eye board.queues) 0 passes

-- passes of the board, with an eye for each of its queues, for the callers from n on
abbrev pub AreFrom : BoardData → ℕ → List PassData → Type 0
AreFrom board n [] = Unit {0}
AreFrom board n (pass ∷ rest) = (pass.board ≡ board.id) × (pass.caller ≡ n)
    × AreEyesOf board.queues pass.eyes × AreFrom board (n + 1) rest

-- these are all passes of the board, in the order of their callers
abbrev pub AreAllPasses : BoardData → List PassData → Type 0
AreAllPasses board passes = (length passes ≡ board.callers) × AreFrom board 0 passes

-- what no call takes from a pass: it is of the same board and caller, what it has seen begins with
-- what it had seen, it knows no smaller count, it saw the close if it had seen it, and its looks
-- are those that it had, and more
pub record Grown (old new : PassData) : Type 0 where
  pub board : new.board ≡ old.board
  pub caller : new.caller ≡ old.caller
  pub seen : IsPrefix old.seen new.seen
  pub known : old.known ≤ new.known
  pub close : old.saw_close ≡ true → new.saw_close ≡ true
  pub looks : (gained : List ℕ) × (new.looks ≡ old.looks ++ gained)
