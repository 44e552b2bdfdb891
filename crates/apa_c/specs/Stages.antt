-- What lies behind a pointer, as numbers: how far a scheduler is, what a reply is as an answer, and
-- what a move is.
use Rattle.std.specs.Prelude.{ℕ, ◌+◌, ◌*◌, Option, Some, None}
use Rattle.strong_apa.specs.declared.reply.Came.{Came}
use Rattle.strong_apa.specs.declared.reply.Came.TheVariants as came
use Rattle.strong_apa.specs.declared.reply.Reply.{Reply}
use Rattle.strong_apa.specs.declared.reply.Reply.TheVariants.{Placed, Displaced, Waits, Freed, Left}
use Rattle.strong_apa.specs.declared.reply.Reply.TheVariants.{Ticked, AlreadyReady, NotReady}
use Rattle.strong_apa.specs.declared.reply.Reply.TheVariants.{Masked, Remasked, AlreadyOff}
use Rattle.strong_apa.specs.declared.reply.Reply.TheVariants.{AlreadyOn, Off, On}
use Rattle.live_core.specs.declared.moves.Move.{Move}
use Rattle.live_core.specs.declared.moves.Move.TheVariants.{Start, Shift, Stop}

-- no task, no processor, or no move
abbrev pub nothing : ℕ
nothing = 4294967295

-- the number that is there, or nothing
abbrev pub number_of : Option ℕ → ℕ
number_of None = nothing
number_of (Some n) = n

-- the answer that says what the scheduler did
abbrev pub answer_of : Reply → ℕ
answer_of (Placed chain) = 16
answer_of (Displaced chain out reach) = 17
answer_of (Waits reach) = 18
answer_of (Freed entered chain back) = 19
answer_of Left = 20
answer_of Ticked = 21
answer_of AlreadyReady = 22
answer_of NotReady = 23
answer_of Masked = 24
answer_of (Remasked _ came) = 25
answer_of AlreadyOff = 26
answer_of AlreadyOn = 27
answer_of (Off moved) = 28
answer_of (On parts) = 29

-- the set that justifies what a task came to; there is none where it was placed
abbrev pub came_set : Came → ℕ
came_set (came.Placed chain) = 0
came_set (came.Displaced chain out reach) = reach
came_set (came.Waits reach) = reach

-- the set that justifies a reply; where a task left and came back it is that of the return
abbrev pub set_of : Reply → ℕ
set_of (Displaced chain out reach) = reach
set_of (Waits reach) = reach
set_of (Freed entered chain back) = back
set_of (Remasked _ came) = came_set came
set_of (Off (Some moved)) = came_set moved.came
set_of (On parts) = parts.back
set_of _ = 0

-- the set that justifies who came in at a processor that became free; there is none where none did
abbrev pub back_of : Reply → ℕ
back_of (Freed entered chain back) = back
back_of (Remasked (Some gone) came) = gone.back
back_of (On parts) = parts.back
back_of _ = 0

-- a task and two processors in one word: the task in its lower half, and each processor in 16 bits
-- of the upper one
abbrev pub word : ℕ → ℕ → ℕ → ℕ
word task from to = task + 4294967296 * from + 281474976710656 * to

-- a move in one word, with ones alone where there is none, or no processor
abbrev pub word_of : Option Move → ℕ
word_of None = word nothing 65535 65535
word_of (Some (Start task to)) = word task 65535 to
word_of (Some (Shift task from to)) = word task from to
word_of (Some (Stop task from)) = word task from 65535
