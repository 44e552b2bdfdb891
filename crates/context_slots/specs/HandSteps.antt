-- What each step does to the view of the hand that makes it.
use Rattle.std.specs.Prelude.{◌≡◌, ℕ, ◌+◌, ◌-◌, ◌/◌, ◌==◌, [], ◌∷◌, ◌++◌, Option, Some, None}
use Rattle.std.specs.Prelude.{MatchBool}
use Rattle.atomic_table.specs.Table.{Me, Step}
use Rattle.task_set.specs.declared.context.Context.{Context}
use Rattle.context_slots.specs.declared.view.OpenStint.{OpenStint}
use Rattle.context_slots.specs.declared.view.HandView.{HandView}
use Rattle.context_slots.specs.HandOver.{IsHomeAfter}
use Rattle.context_slots.specs.Hands.{begun, with_run, closed, context_in}

-- what a hand's seat has: its view, and the slots that it holds
abbrev pub SeatState : Type 0
SeatState = Me (Option Context) HandView

-- the view after a look at the word of t, which was n
abbrev pub looked_at_turn : HandView → ℕ → ℕ → HandView
looked_at_turn v t n = record v { looks = v.looks ++ record { 0 = t; 1 = n } ∷ [] }

-- the view with another stint under way
abbrev pub holding : HandView → Option OpenStint → HandView
holding v h = record v { holds = h }

-- the view after this stint has ended
abbrev pub ended_with : HandView → OpenStint → HandView
ended_with v held = record v { holds = None; ended = v.ended ++ closed v.number held ∷ [] }

-- a load adds a look
abbrev pub looks_play : Step (Option Context) → SeatState → ℕ → SeatState → Type 0
looks_play st m n m' = m' ≡ (looked_at_turn m.0 st.word n, m.1)

-- an exchange adds a look; where it found the word that it expected, a stint begins, from the
-- context that was at home after all earlier ones
abbrev pub takes_play : Step (Option Context) → SeatState → ℕ → SeatState → Type 0
takes_play st m n m' = MatchBool (n == st.first)
    ((base : Context) × IsHomeAfter base st.word (st.first / 2)
    × (m' ≡ (
      holding (looked_at_turn m.0 st.word n) (Some (begun st.word (st.first / 2) base)),
      (st.word, Some base) ∷ [],
    )))
    (m' ≡ (looked_at_turn m.0 st.word n, m.1))

-- a load at which these units join the stint under way
abbrev pub runs_play : ℕ → Step (Option Context) → SeatState → ℕ → SeatState → Type 0
runs_play u st m n m' =
    (held : OpenStint) → m.0.holds ≡ Some held → m' ≡ (holding m.0 (Some (with_run held u)), m.1)

-- a store that ends the stint under way
abbrev pub releases_play : Step (Option Context) → SeatState → ℕ → SeatState → Type 0
releases_play st m n m' =
    (held : OpenStint) → m.0.holds ≡ Some held → m' ≡ (ended_with m.0 held, [])

-- a hand that holds nothing has no slot
abbrev pub HoldsNothing : SeatState → Type 0
HoldsNothing m = (m.0.holds ≡ None) × (m.1 ≡ [])

-- a hand that runs this stint of this task has its slot, empty, and the context is with the held
abbrev pub TookHeld : SeatState → ℕ → ℕ → Context → Type 0
TookHeld m task number context = (held : OpenStint) × (m.0.holds ≡ Some held) × (held.task ≡ task)
    × (held.number ≡ number) × (m.1 ≡ (held.task, None) ∷ [])
    × (context ≡ context_in m.0.number held)

-- a hand with one part that did nothing
abbrev pub fresh_view : ℕ → HandView
fresh_view number =
    record { number = number; parts = 1; holds = None; ended = []; looks = []; made = 0 }

-- the first hand, once it has made so many of the hands: it has the parts of those that are still
-- to make
abbrev pub dealing : ℕ → ℕ → HandView
dealing processors made = record {
  number = 0;
  parts = processors + 1 - made;
  holds = None;
  ended = [];
  looks = [];
  made = made;
}

-- it gives a part away, to the next hand
abbrev pub dealt : HandView → HandView
dealt v = record v { parts = v.parts - 1; made = v.made + 1 }

-- the next hand
abbrev pub next_hand : HandView → HandView
next_hand v = fresh_view v.made

-- a hand takes in another, with its parts and its ended stints
abbrev pub joined : HandView → HandView → HandView
joined v w = record v { parts = v.parts + w.parts; ended = v.ended ++ w.ended }

-- what is left of the other one
abbrev pub spent_hand : HandView
spent_hand = record { number = 0; parts = 0; holds = None; ended = []; looks = []; made = 0 }
