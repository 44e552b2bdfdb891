-- No task waits that could be shifted in.
use Rattle.std.specs.Prelude.{List}
use Rattle.task_set.specs.TaskSet.{SetData, IsTaskSet}
use Rattle.strong_apa.specs.declared.reply.Entry.{Entry}
use Rattle.strong_apa.specs.History.{IsLegal}
use Rattle.strong_apa.specs.Improving.{HasNoImprovingChain, HasNoImprovingChainThroughout}
use Rattle.history_laws.specs.LegalLaw.{HoldsThroughoutLegal}

-- after every entry of a legal history no task has an improving chain
abbrev pub LegalHistoryHasNoImprovingChainFrom : Type 0
LegalHistoryHasNoImprovingChainFrom = HoldsThroughoutLegal HasNoImprovingChain

-- nor by one of a set
abbrev pub LegalHistoryHasNoImprovingChain : Type 0
LegalHistoryHasNoImprovingChain = (set : SetData) → IsTaskSet set → (history : List Entry)
    → IsLegal set history → HasNoImprovingChainThroughout set history
