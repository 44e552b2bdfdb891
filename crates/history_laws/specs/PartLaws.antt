-- Laws of a history in two parts, and of its states: what holds of the whole holds of its prefixes.
use Rattle.std.specs.Prelude.{◌≡◌, ◌↔◌, List, ◌++◌}
use mathlib.Core.List.{IsPrefix}
use Rattle.task_set.specs.TaskSet.{SetData, IsTaskSet}
use Rattle.strong_apa.specs.declared.reply.Entry.{Entry}
use Rattle.strong_apa.specs.State.{State, IsState, start_of}
use Rattle.strong_apa.specs.History.{IsLegalFrom, state_after}
use Rattle.history_laws.specs.Start.{NobodyIsReady}

-- at the start of a set nobody is ready, and nobody is linked
abbrev pub NobodyIsReadyAtStart : Type 0
NobodyIsReadyAtStart = (set : SetData) → NobodyIsReady (start_of set)

-- and it is a state
abbrev pub StartIsState : Type 0
StartIsState = (set : SetData) → IsTaskSet set → IsState (start_of set)

-- a legal history leads from a state to a state
abbrev pub LegalHistoryKeepsState : Type 0
LegalHistoryKeepsState = (start : State) (history : List Entry) → IsState start
    → IsLegalFrom start history → IsState (state_after start history)

-- the second part of a history leads on from the state after the first part
abbrev pub StateAfterParts : Type 0
StateAfterParts = (start : State) (first second : List Entry) → state_after start (first ++ second)
    ≡ state_after (state_after start first) second

-- a history is legal exactly where its first part is, and its second part is from the state after
-- the first
abbrev pub IsLegalInParts : Type 0
IsLegalInParts = (start : State) (first second : List Entry)
    → IsLegalFrom start (first ++ second) ↔
    (IsLegalFrom start first × IsLegalFrom (state_after start first) second)

-- a prefix of a legal history is legal
abbrev pub PrefixIsLegal : Type 0
PrefixIsLegal = (start : State) (shorter longer : List Entry) → IsPrefix shorter longer
    → IsLegalFrom start longer → IsLegalFrom start shorter
