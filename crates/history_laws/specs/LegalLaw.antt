-- The best set over legal histories, whatever their masks and their events: from any state in which
-- nobody is ready, and so from the start of a set.
use Rattle.std.specs.Prelude.{ℕ, ◌≤◌, List, length}
use Rattle.task_set.specs.TaskSet.{SetData, IsTaskSet}
use Rattle.strong_apa.specs.declared.reply.Entry.{Entry}
use Rattle.strong_apa.specs.State.{State, IsState}
use Rattle.strong_apa.specs.History.{IsLegal, IsLegalFrom, state_at, IsBestThroughout}
use Rattle.strong_apa.specs.Certified.{HasCertificates, IsCertifiedThroughout}
use Rattle.strong_apa.specs.CertificateLaws.{HoldsThroughout, LinkedIsBest, LinkedIsLargest}
use Rattle.strong_apa.specs.CertificateLaws.{LinkedIsAsUrgent}
use Rattle.history_laws.specs.Start.{NobodyIsReady}

-- what holds after every entry of each legal history from a state in which nobody is ready
abbrev pub HoldsThroughoutLegal : (State → Type 0) → Type 0
HoldsThroughoutLegal Law = (start : State) (history : List Entry) → IsState start
    → NobodyIsReady start → IsLegalFrom start history → HoldsThroughout Law start history

-- the links are a placement of ready tasks, and each waiting task has a certificate
abbrev pub LegalHistoryHasCertificatesFrom : Type 0
LegalHistoryHasCertificatesFrom = HoldsThroughoutLegal (λ s. IsState s × HasCertificates s)

-- after every entry of a legal history of a set each waiting task has a certificate
abbrev pub LegalHistoryHasCertificates : Type 0
LegalHistoryHasCertificates = (set : SetData) → IsTaskSet set → (history : List Entry)
    → IsLegal set history → IsCertifiedThroughout set history

-- the linked tasks are the best placeable set of the ready ones
abbrev pub LegalHistoryIsBestFrom : Type 0
LegalHistoryIsBestFrom = HoldsThroughoutLegal LinkedIsBest

-- after every entry of a legal history of a set the linked tasks are the best placeable set of the
-- ready ones
abbrev pub LegalHistoryIsBest : Type 0
LegalHistoryIsBest = (set : SetData) → IsTaskSet set → (history : List Entry) → IsLegal set history
    → IsBestThroughout set history

-- no placeable set of ready tasks is larger than that of the linked ones, and none is more urgent
-- at any rank
abbrev pub LegalHistoryIsMostUrgentFrom : Type 0
LegalHistoryIsMostUrgentFrom = HoldsThroughoutLegal (λ s. LinkedIsLargest s × LinkedIsAsUrgent s)

-- after every entry of a legal history of a set no placeable set of ready tasks is larger than that
-- of the linked ones, and none is more urgent at any rank
abbrev pub LegalHistoryIsMostUrgent : Type 0
LegalHistoryIsMostUrgent = (set : SetData) → IsTaskSet set → (history : List Entry)
    → IsLegal set history → (n : ℕ) → n ≤ length history → LinkedIsLargest (state_at set history n)
    × LinkedIsAsUrgent (state_at set history n)
