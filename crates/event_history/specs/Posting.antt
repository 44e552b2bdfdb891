-- What a pass has seen and done after it posted an event, or was refused.
use Rattle.std.specs.Prelude.{◌≡◌, ◌≢◌, ℕ, ◌+◌, ◌*◌, ◌%◌, ◌<◌, ◌≤◌, false, true, List, [], ◌∷◌}
use Rattle.std.specs.Prelude.{◌++◌, length, ◌⊎◌}
use mathlib.Core.List.{IsPrefix}
use Rattle.task_set.specs.TaskSet.{SetData}
use Rattle.task_set.specs.declared.event.Event.{Event}
use Rattle.strong_apa.specs.declared.reply.Entry.{Entry}
use Rattle.strong_apa.specs.History.{IsLegal}
use Rattle.sched_core.specs.CoreData.{entry_of, max_entries}
use Rattle.sched_core.specs.declared.fault.CoreFault.{CoreFault}
use Rattle.sched_core.specs.declared.fault.CoreFault.TheVariants as core
use Rattle.event_history.specs.declared.fault.Receipt.{Receipt}
use Rattle.event_history.specs.declared.fault.PostFault.{PostFault}
use Rattle.event_history.specs.declared.fault.PostFault.TheVariants.{Busy, Closed, Full}
use Rattle.event_history.specs.declared.fault.PostFault.TheVariants.{OutOfMemory}
use Rattle.event_history.specs.declared.fault.EndFault.{EndFault}
use Rattle.event_history.specs.declared.fault.EndFault.TheVariants as End
use Rattle.event_history.specs.Boards.{PassData}

-- the looks of a call that found the turn busy: the load found an odd word, or found an even one,
-- and the exchange another
abbrev pub BusyLooks : List ℕ → List ℕ → ℕ → Type 0
BusyLooks before after found =
    ((after ≡ before ++ found ∷ []) × (found % 2 ≡ 1))
    ⊎ ((word : ℕ) × (after ≡ before ++ word ∷ found ∷ []) × (word % 2 ≡ 0) × (found ≢ word))

-- the looks of a call that had the turn, at so many entries
abbrev pub turn_looks : List ℕ → ℕ → List ℕ
turn_looks looks count = looks ++ (2 * count) ∷ (2 * count) ∷ []

-- the last looks are those of a turn, which began with so many entries
abbrev pub TookTurn : PassData → PassData → ℕ → Type 0
TookTurn old new count = (gained : List ℕ) × (new.looks ≡ turn_looks (old.looks ++ gained) count)

-- the entry was posted: it stands at the place, after all that the pass had seen and knew; nothing
-- else is new of the pass
pub record Posted (set : SetData) (old : PassData) (event : Event) (receipt : Receipt)
    (new : PassData) : Type 0 where
  pub before : List Entry
  pub seen : new.seen ≡ before ++ entry_of old.caller event receipt.reply ∷ []
  pub at_place : length before ≡ receipt.place
  pub fits : receipt.place < max_entries
  pub begins : IsPrefix old.seen before
  pub knew : old.known ≤ receipt.place
  pub legal : IsLegal set new.seen
  pub mine : new.mine ≡ old.mine ++ receipt.place ∷ []
  pub known : new.known ≡ receipt.place + 1
  pub was_open : old.saw_close ≡ false
  pub is_open : new.saw_close ≡ false

-- the pass had a turn without an entry, and has seen the whole history of that turn
pub record SawAll (set : SetData) (old new : PassData) : Type 0 where
  pub legal : IsLegal set new.seen
  pub mine : new.mine ≡ old.mine
  pub known : new.known ≡ length new.seen

-- nothing of the pass is new, but its looks, and the count that it knows
pub record WasBusy (old new : PassData) (found : ℕ) : Type 0 where
  pub seen : new.seen ≡ old.seen
  pub mine : new.mine ≡ old.mine
  pub close : new.saw_close ≡ old.saw_close
  pub looks : BusyLooks old.looks new.looks found

-- why a core refused the event of a post
abbrev pub post_fault : CoreFault → PostFault
post_fault core.Closed = Closed
post_fault core.Full = Full
post_fault core.OutOfMemory = OutOfMemory

-- why a post was refused: somebody else had the turn, or the turn that it had found the core
-- closed, or open and full, or open with room and without memory
abbrev pub Refused : SetData → PassData → PostFault → PassData → Type 0
Refused set old (Busy found) new = WasBusy old new found
Refused set old Closed new =
    SawAll set old new × (new.looks ≡ turn_looks old.looks (length new.seen))
    × (new.saw_close ≡ true)
Refused set old Full new =
    SawAll set old new × (new.looks ≡ turn_looks old.looks (length new.seen))
    × (new.saw_close ≡ false) × (length new.seen ≡ max_entries)
Refused set old OutOfMemory new =
    SawAll set old new × (new.looks ≡ turn_looks old.looks (length new.seen))
    × (new.saw_close ≡ false) × (length new.seen < max_entries)

-- the same, of a post that waits
abbrev pub end_fault : CoreFault → EndFault
end_fault core.Closed = End.Closed
end_fault core.Full = End.Full
end_fault core.OutOfMemory = End.OutOfMemory

-- the same, where the turn was waited for
abbrev pub Ended : SetData → PassData → EndFault → PassData → Type 0
Ended set old End.Closed new = SawAll set old new × (new.saw_close ≡ true)
Ended set old End.Full new =
    SawAll set old new × (new.saw_close ≡ false) × (length new.seen ≡ max_entries)
Ended set old End.OutOfMemory new =
    SawAll set old new × (new.saw_close ≡ false) × (length new.seen < max_entries)
