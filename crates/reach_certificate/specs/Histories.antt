-- The best set over histories whose replies pass, whoever gave them, and that no waiting task could
-- be shifted in.
use Rattle.std.specs.Prelude.{List}
use Rattle.task_set.specs.TaskSet.{SetData, IsTaskSet}
use Rattle.strong_apa.specs.declared.reply.Entry.{Entry}
use Rattle.strong_apa.specs.History.{IsBestThroughout}
use Rattle.strong_apa.specs.Certified.{IsCertifiedThroughout}
use Rattle.strong_apa.specs.Improving.{HasNoImprovingChainThroughout}
use Rattle.strong_apa.specs.Passing.{IsPassing}

-- after every entry of a history whose replies pass each waiting task has a certificate
abbrev pub PassingHistoryHasCertificates : Type 0
PassingHistoryHasCertificates = (set : SetData) → IsTaskSet set → (history : List Entry)
    → IsPassing set history → IsCertifiedThroughout set history

-- after every entry of a history whose replies pass the linked tasks are the best placeable set of
-- the ready ones
abbrev pub PassingHistoryIsBest : Type 0
PassingHistoryIsBest = (set : SetData) → IsTaskSet set → (history : List Entry)
    → IsPassing set history → IsBestThroughout set history

-- after every entry of a history whose replies pass no task has an improving chain
abbrev pub PassingHistoryHasNoImprovingChain : Type 0
PassingHistoryHasNoImprovingChain = (set : SetData) → IsTaskSet set → (history : List Entry)
    → IsPassing set history → HasNoImprovingChainThroughout set history
