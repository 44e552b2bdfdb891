-- What contracts see of slots and of hands, and what each call does to a hand. A hand is of one
-- processor and holds at most one stint; a stint adds its units in order, and its context is its
-- base after the take and the runs.
use Rattle.std.specs.Prelude.{◌≡◌, ℕ, ◌+◌, ◌*◌, ◌<◌, Option, None, Some, List, [], ◌∷◌, ◌++◌}
use Rattle.std.specs.Prelude.{length}
use Rattle.atomic_table.specs.Seated.{TableId}
use Rattle.task_set.specs.declared.context.Context.{Context}
use Rattle.task_set.specs.Orders.{Stint}
use Rattle.task_set.specs.TaskSet.{SetData}
use Rattle.task_set.specs.Context.{context_after_take, context_after_runs}
use Rattle.context_slots.specs.declared.view.OpenStint.{OpenStint}
use Rattle.context_slots.specs.Contexts.{HeldContext}
use Rattle.context_slots.specs.HandOver.{IsHomeAfter}

-- which slots they are, and of which set of tasks
pub record SlotsData : Type 0 where
  pub id : TableId
  pub set : SetData

-- the slots that it is of, its processor, the stint that it runs, the stints that it ended, and
-- what its own loads and exchanges found: the task, and its word
pub record HandData : Type 0 where
  pub slots : TableId
  pub number : ℕ
  pub holds : Option OpenStint
  pub ended : List Stint
  pub looks : List (ℕ × ℕ)

-- a hand that did nothing
abbrev pub new_hand : TableId → ℕ → HandData
new_hand slots number =
    record { slots = slots; number = number; holds = None; ended = []; looks = [] }

-- new hands of these slots, for the processors from n on
abbrev pub AreNewHandsFrom : TableId → ℕ → List HandData → Type 0
AreNewHandsFrom slots n [] = Unit {0}
AreNewHandsFrom slots n (hand ∷ rest) =
    (hand ≡ new_hand slots n) × AreNewHandsFrom slots (n + 1) rest

-- a new hand for each processor, in order
abbrev pub AreNewHands : SlotsData → List HandData → Type 0
AreNewHands slots hands = (length hands ≡ slots.set.processors) × AreNewHandsFrom slots.id 0 hands

-- hands of these slots that hold nothing, for the processors from n on
abbrev pub AreFreeFrom : TableId → ℕ → List HandData → Type 0
AreFreeFrom slots n [] = Unit {0}
AreFreeFrom slots n (hand ∷ rest) =
    (hand.slots ≡ slots) × (hand.number ≡ n) × (hand.holds ≡ None) × AreFreeFrom slots (n + 1) rest

-- these are all hands, in order, and none holds anything
abbrev pub AreAllHands : SlotsData → List HandData → Type 0
AreAllHands slots hands = (length hands ≡ slots.set.processors) × AreFreeFrom slots.id 0 hands

-- the stints that the hands ended
abbrev pub all_ended : List HandData → List Stint
all_ended [] = []
all_ended (hand ∷ rest) = hand.ended ++ all_ended rest

-- a stint that begins, from this context at home
abbrev pub begun : ℕ → ℕ → Context → OpenStint
begun task number base = record { task = task; number = number; base = base; units = [] }

-- a stint and a run more
abbrev pub with_run : OpenStint → ℕ → OpenStint
with_run stint units = record stint { units = stint.units ++ units ∷ [] }

-- a stint, as one that has ended on p
abbrev pub closed : ℕ → OpenStint → Stint
closed p stint =
    record { task = stint.task; number = stint.number; processor = p; units = stint.units }

-- the hand after a load or an exchange that found this word
abbrev pub after_look : HandData → ℕ → ℕ → HandData
after_look hand task found = record hand { looks = hand.looks ++ (task, found) ∷ [] }

-- the hand after it took a task from this context at home, by an exchange that found its turn
abbrev pub after_take : HandData → ℕ → ℕ → Context → HandData
after_take hand task number base = record hand {
  holds = Some (begun task number base);
  looks = hand.looks ++ (task, 2 * number) ∷ [];
}

-- the stint that is held, with a run more
abbrev pub held_with_run : Option OpenStint → ℕ → Option OpenStint
held_with_run None units = None
held_with_run (Some stint) units = Some (with_run stint units)

-- the hand after a run
abbrev pub after_run : HandData → ℕ → HandData
after_run hand units = record hand { holds = held_with_run hand.holds units }

-- the stint that is held, as one that has ended on p
abbrev pub held_closed : ℕ → Option OpenStint → List Stint
held_closed p None = []
held_closed p (Some stint) = closed p stint ∷ []

-- the hand after it let its task go
abbrev pub after_release : HandData → HandData
after_release hand =
    record hand { holds = None; ended = hand.ended ++ held_closed hand.number hand.holds }

-- the context in a stint on p
abbrev pub context_in : ℕ → OpenStint → Context
context_in p stint = context_after_runs (context_after_take stint.base p) p stint.units

-- the hand took this: it runs this stint of this task, in this context; the task has a word, and is
-- not the last one
pub record Took (hand : HandData) (held : HeldContext) : Type 0 where
  pub stint : OpenStint
  pub holds : hand.holds ≡ Some stint
  pub task : stint.task ≡ held.task
  pub number : stint.number ≡ held.number
  pub context : held.context ≡ context_in hand.number stint
  pub inside : stint.task + 1 < hand.slots.words

-- a context in the stint of the task with this number, on p
pub record IsInStint (c : Context) (t number p : ℕ) : Type 0 where
  pub task : c.task ≡ t
  pub stints : c.stints ≡ number + 1
  pub last : c.last ≡ Some p

-- a hand takes a task for the stint with this number, from the context after all earlier stints of
-- the task
pub record TakesStint (old : HandData) (task number : ℕ) (held : HeldContext)
    (new : HandData) : Type 0 where
  pub task_is : held.task ≡ task
  pub number_is : held.number ≡ number
  pub base : Context
  pub home : IsHomeAfter base task number
  pub hand : new ≡ after_take old task number base
  pub took : Took new held
  pub context : IsInStint held.context task number old.number
