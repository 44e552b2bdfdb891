-- The rule of the turn word, and what each of its steps does.
use Rattle.std.specs.Prelude.{◌≡◌, ℕ, ◌+◌, ◌-◌, ◌*◌, ◌/◌, ◌%◌, ◌<◌, ◌≤◌, ◌==◌, nat_lt, cond, max}
use Rattle.std.specs.Prelude.{Bool, true, false, ◌||◌, ◌&&◌, not, List, [], ◌∷◌, ◌++◌, length}
use Rattle.std.specs.Prelude.{slice_index, Option, Some, None, MatchBool}
use mathlib.Core.Option.{some}
use mathlib.Core.List.{IsPrefix}
use lib.ListN.{get_elem?}
use Rattle.atomic_table.specs.Table.{State, Me, Step}
use Rattle.task_set.specs.TaskSet.{SetData}
use Rattle.strong_apa.specs.declared.reply.Entry.{Entry}
use Rattle.strong_apa.specs.State.{start_of}
use Rattle.strong_apa.specs.History.{IsLegal}
use Rattle.sched_core.specs.CoreData.{CoreData}
use Rattle.order_queues.specs.Ends.{QueueData, SenderData}
use Rattle.event_history.specs.Holdings.{HeldData, queues_of}
use Rattle.event_history.specs.declared.turn.About.{About}
use Rattle.event_history.specs.declared.view.PassView.{PassView}
use Rattle.event_history.specs.Places.{own_places, CallersBelow}
use Rattle.event_history.specs.Posting.{BusyLooks}
use Rattle.task_set.specs.Sum.{total}

-- how many turns are held
abbrev pub turn_count : Option (List Entry × Bool) → ℕ
turn_count None = 0
turn_count (Some h) = 1

-- how many turns the view has: one or none
abbrev pub turns : PassView → ℕ
turns v = turn_count v.held

-- the core whose turn is held, if one is, has this history, and is closed or not
abbrev pub Holds : List Entry → Bool → Option (List Entry × Bool) → Type 0
Holds history closed None = Unit {0}
Holds history closed (Some h) = (h.0 ≡ history) × (h.1 ≡ closed)

-- 1 where the view is the pass of this caller
abbrev pub own_pass : ℕ → PassView → ℕ
own_pass x v = cond v.is_pass (cond (v.caller == x) 1 0) 0

-- 1 where the pass of this caller is still to be made, so many being made
abbrev pub unmade_pass : ℕ → ℕ → ℕ
unmade_pass x made = cond (nat_lt 0 made && not (nat_lt x made)) 1 0

-- 1 where the pass that was taken in is of this caller
abbrev pub ended_pass : ℕ → ℕ × List ℕ → ℕ
ended_pass x e = cond (e.0 == x) 1 0

-- how many passes of this caller the view stands for
abbrev pub passes_of : ℕ → PassView → ℕ
passes_of x v = own_pass x v + unmade_pass x v.made + total (ended_pass x) v.ended

-- each of the lists begins what was seen
abbrev pub AllBegin : List (List Entry × Bool) → List Entry → Type 0
AllBegin [] seen = Unit {0}
AllBegin (old ∷ olds) seen = IsPrefix old.0 seen × AllBegin olds seen

-- each of the lists begins what was seen, and is the history where its view saw the close
abbrev pub AllSaw : List Entry → Bool → List Entry → List (List Entry × Bool) → Type 0
AllSaw history closed seen [] = Unit {0}
AllSaw history closed seen (old ∷ olds) =
    IsPrefix old.0 seen × (old.1 ≡ true → (old.0 ≡ history) × (closed ≡ true))
    × AllSaw history closed seen olds

-- each of the passes that were taken in has the places of its caller, who is one of so many
abbrev pub AllMine : ℕ → List Entry → List (ℕ × List ℕ) → Type 0
AllMine callers history [] = Unit {0}
AllMine callers history (e ∷ es) =
    (e.1 ≡ own_places e.0 history) × (e.0 < callers) × AllMine callers history es

-- what a view says of the history
pub record Fits (callers : ℕ) (history : List Entry) (closed : Bool) (v : PassView) : Type 0 where
  pub seen : IsPrefix v.seen history
  pub known : v.known ≤ length history
  pub close : v.saw_close ≡ true → (v.seen ≡ history) × (closed ≡ true)
  pub held : Holds history closed v.held
  pub holder : v.is_pass ≡ false → v.held ≡ None
  pub olds : AllSaw history closed v.seen v.olds
  pub mine : v.is_pass ≡ true → (v.mine ≡ own_places v.caller history) × (v.caller < callers)
  pub unmade : (x : ℕ) → unmade_pass x v.made ≡ 1 → own_places x history ≡ []
  pub ended : AllMine callers history v.ended

-- over which set a turn word is made, and for which queues
pub record Setting : Type 0 where
  pub set : SetData
  pub queues : List QueueData

-- over what it is made, by the senders as they were at first
abbrev pub setting : SetData → List SenderData → Setting
setting set senders = record { set = set; queues = queues_of senders }

-- over what this turn word is made
abbrev pub setting_of : About → Setting
setting_of about = setting about.set.value about.senders.value.items

-- a core over the set, with a legal history, and senders of these queues
pub record IsOver (of : Setting) (held : HeldData) : Type 0 where
  pub start : held.core.start ≡ start_of of.set
  pub queues : queues_of held.senders ≡ of.queues
  pub legal : IsLegal of.set held.core.history

-- the word is 2c or 2c + 1, where c is the number of entries; it is odd just while one view has the
-- turn, and while it is even the core is at home; each view fits the history, and each caller has
-- one pass
pub record TurnRule (of : Setting) (callers : ℕ) (s : State (Option HeldData) PassView) : Type
    0 where
  pub history : List Entry
  pub closed : Bool
  pub legal : IsLegal of.set history
  pub one_word : length s.words ≡ 1
  pub one_slot : length s.homes ≡ 1
  pub count : slice_index s.words 0 / 2 ≡ length history
  pub holders : total turns s.views ≡ slice_index s.words 0 % 2
  pub home : slice_index s.words 0 % 2 ≡ 0
      → (held : HeldData) × (get_elem? s.homes 0 ≡ some (some (Some held)))
      × (held.core.history ≡ history)
      × (held.core.closed ≡ closed) × (held.core.start ≡ start_of of.set)
      × (queues_of held.senders ≡ of.queues)
  pub fits : (j : ℕ) (v : PassView) → get_elem? s.views j ≡ some v → Fits callers history closed v
  pub apart : (x : ℕ) → total (passes_of x) s.views ≤ 1
  pub few : CallersBelow callers history

-- what a seat at the turn word is seen as: its view, and the slots that it has out
abbrev pub TurnSeat : Type 0
TurnSeat = Me (Option HeldData) PassView

-- the view after a load that found this word
abbrev pub loaded : PassView → ℕ → PassView
loaded v n = record v { known = max v.known (n / 2); looks = v.looks ++ n ∷ []; olds = [] }

-- the lists that were compared are beginnings of what is seen
abbrev pub loads_play : Step (Option HeldData) → TurnSeat → ℕ → TurnSeat → Type 0
loads_play st m n m' = (m' ≡ (loaded m.0 n, m.1)) × AllBegin m.0.olds m.0.seen × (m.0.known ≤ n / 2)

-- the view after an exchange that found another word
abbrev pub found_another : PassView → ℕ → PassView
found_another v n = record v { looks = v.looks ++ n ∷ [] }

-- the view after an exchange that took the turn with this core
abbrev pub with_turn : PassView → ℕ → CoreData → PassView
with_turn v n core = record v { looks = v.looks ++ n ∷ []; held = Some (core.history, core.closed) }

-- the core is over the set, goes on from what was seen, and is closed where the close was seen
pub record GoesOn (of : Setting) (v : PassView) (n : ℕ) (held : HeldData) : Type 0 where
  pub start : held.core.start ≡ start_of of.set
  pub queues : queues_of held.senders ≡ of.queues
  pub count : 2 * length held.core.history ≡ n
  pub begins : IsPrefix v.seen held.core.history
  pub known : v.known ≤ length held.core.history
  pub close : v.saw_close ≡ true → held.core.closed ≡ true

-- the turn is taken, with the core; or another word was found
abbrev pub turn_play : Setting → Step (Option HeldData) → TurnSeat → ℕ → TurnSeat → Type 0
turn_play of st m n m' = MatchBool (n == st.first)
    ((held : HeldData) × (m' ≡ (with_turn m.0 n held.core, (0, Some held) ∷ []))
    × GoesOn of m.0 n held)
    (m' ≡ (found_another m.0 n, m.1))

-- the view after a turn, whose core has this history
abbrev pub after_turn : PassView → List Entry → PassView
after_turn v history = record v { seen = history; held = None; olds = [] }

-- the view after a turn that left this core with an entry more
abbrev pub after_post : PassView → CoreData → PassView
after_post v core =
    let n = length core.history in
    record (after_turn v core.history) { mine = v.mine ++ (n - 1) ∷ []; known = n }

-- the view after a turn that left this core without an entry
abbrev pub after_leave : PassView → CoreData → PassView
after_leave v core =
    record (after_turn v core.history) {
      known = max v.known (length core.history);
      saw_close = core.closed;
    }

-- the entry was added, and the turn ends
abbrev pub posts_play : Step (Option HeldData) → TurnSeat → ℕ → TurnSeat → Type 0
posts_play st m n m' =
    (held : HeldData) → m.1 ≡ (0, Some held) ∷ [] → m' ≡ (after_post m.0 held.core, [])

-- the turn ends without an entry
abbrev pub leaves_play : Step (Option HeldData) → TurnSeat → ℕ → TurnSeat → Type 0
leaves_play st m n m' =
    (held : HeldData) → m.1 ≡ (0, Some held) ∷ [] → m' ≡ (after_leave m.0 held.core, [])

-- what is left of a seat that was joined to another: the view of no pass, which knows nothing
abbrev pub spent_pass : PassView
spent_pass = record {
  is_pass = false;
  caller = 0;
  made = 0;
  seen = [];
  mine = [];
  known = 0;
  saw_close = false;
  looks = [];
  held = None;
  olds = [];
  ended = [];
}

-- the view of a new pass
abbrev pub fresh : ℕ → ℕ → PassView
fresh caller made = record spent_pass { is_pass = true; caller = caller; made = made }

-- a pass is made: the maker counts on
abbrev pub made_one : PassView → PassView
made_one v = record v { made = v.made + 1 }

-- the pass that is made
abbrev pub newcomer : PassView → PassView
newcomer v = fresh v.made 0

-- a note of what a pass knows
abbrev pub note : PassView → PassView
note v = record spent_pass { seen = v.seen; known = v.known; saw_close = v.saw_close }

-- the longer of two lists
abbrev pub longer : List Entry → List Entry → List Entry
longer xs ys = cond (nat_lt (length xs) (length ys)) ys xs

-- a pass that learns of a note
abbrev pub informed : PassView → PassView → PassView
informed v w = record v {
  seen = longer v.seen w.seen;
  known = max v.known w.known;
  saw_close = v.saw_close || w.saw_close;
  olds = (v.seen, v.saw_close) ∷ (w.seen, w.saw_close) ∷ v.olds;
}

-- a pass that takes in another
abbrev pub taken_in : PassView → PassView → PassView
taken_in v w = record (informed v w) { ended = v.ended ++ (w.caller, w.mine) ∷ w.ended }

-- between calls a pass has no turn
pub record IsFree (m : TurnSeat) : Type 0 where
  pub pass : m.0.is_pass ≡ true
  pub held : m.0.held ≡ None
  pub olds : m.0.olds ≡ []
  pub ended : m.0.ended ≡ []
  pub slots : m.1 ≡ []

-- the pass, which was v, has the turn and this core
pub record HasTurn (of : Setting) (v : PassView) (m : TurnSeat) (held : HeldData) : Type 0 where
  pub pass : m.0.is_pass ≡ true
  pub caller : m.0.caller ≡ v.caller
  pub ended : m.0.ended ≡ v.ended
  pub mine : m.0.mine ≡ v.mine
  pub seen : m.0.seen ≡ v.seen
  pub close : m.0.saw_close ≡ v.saw_close
  pub looks : m.0.looks ≡ v.looks ++ (2 * length held.core.history) ∷ (2 * length held.core.history)
      ∷ []
  pub knows : v.known ≤ m.0.known
  pub known : m.0.known ≡ length held.core.history
  pub had : m.0.held ≡ Some (held.core.history, held.core.closed)
  pub slot : m.1 ≡ (0, None) ∷ []
  pub start : held.core.start ≡ start_of of.set
  pub queues : queues_of held.senders ≡ of.queues
  pub begins : IsPrefix v.seen held.core.history
  pub closed : v.saw_close ≡ true → held.core.closed ≡ true

-- the turn was not taken: the word that the load found is odd, or the exchange found another one
pub record IsBusy (v : PassView) (m : TurnSeat) (found : ℕ) : Type 0 where
  pub free : IsFree m
  pub caller : m.0.caller ≡ v.caller
  pub seen : m.0.seen ≡ v.seen
  pub mine : m.0.mine ≡ v.mine
  pub close : m.0.saw_close ≡ v.saw_close
  pub known : v.known ≤ m.0.known
  pub looks : BusyLooks v.looks m.0.looks found

-- the core has one entry more than the one of the turn that the pass has, by the pass's caller
pub record MayRecord (of : Setting) (m : TurnSeat) (held : HeldData) : Type 0 where
  pub pass : m.0.is_pass ≡ true
  pub slot : m.1 ≡ (0, None) ∷ []
  pub before : List Entry
  pub entry : Entry
  pub had : m.0.held ≡ Some (before, false)
  pub items : held.core.history ≡ before ++ entry ∷ []
  pub is_open : held.core.closed ≡ false
  pub by : entry.caller ≡ m.0.caller
  pub start : held.core.start ≡ start_of of.set
  pub queues : queues_of held.senders ≡ of.queues

-- the core has the history of the turn that the pass has, and was closed at most
pub record MayLeave (of : Setting) (m : TurnSeat) (held : HeldData) : Type 0 where
  pub pass : m.0.is_pass ≡ true
  pub slot : m.1 ≡ (0, None) ∷ []
  pub was : Bool
  pub had : m.0.held ≡ Some (held.core.history, was)
  pub stays : was ≡ true → held.core.closed ≡ true
  pub start : held.core.start ≡ start_of of.set
  pub queues : queues_of held.senders ≡ of.queues
