-- What holds of every comparison, whatever program writes it. The law is proved as the contract of
-- a function of `laws`.
use Rattle.std.specs.Prelude.{◌≡◌, ℕ, List}
use Rattle.task_set.specs.TaskSet.{SetData, IsTaskSet}
use Rattle.trace_reader.specs.declared.posted.Posted.{Posted}
use Rattle.weak_apa.specs.WeakText.{IsWeakTextOf}

-- the events of a set have one text: neither scheduler has a choice
abbrev pub EventsHaveOneText : Type 0
EventsHaveOneText = (set : SetData) (events : List Posted) (text other : List ℕ) → IsTaskSet set
    → IsWeakTextOf set events text → IsWeakTextOf set events other → text ≡ other
