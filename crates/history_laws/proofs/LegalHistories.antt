-- What holds of every state whose waiting tasks have certificates holds throughout each legal history.
use Rattle.std.proofs.Common.{List, take, sym, ◌∙◌}
use Rattle.std.proofs.lemmas.Bool.{true≢false}
use Rattle.task_set.specs.TaskSet.{SetData, IsTaskSet}
use Rattle.strong_apa.specs.declared.reply.Entry.{Entry}
use Rattle.strong_apa.specs.State.{State, IsState, start_of}
use Rattle.strong_apa.specs.History.{IsLegal, state_after}
use Rattle.strong_apa.proofs.Start.{IsState-start}
use Rattle.strong_apa.specs.Certified.{HasCertificates}
use Rattle.strong_apa.specs.Improving.{HasNoImprovingChain}
use Rattle.strong_apa.specs.CertificateLaws.{HoldsThroughout, HoldsWhereCertified, LinkedIsBest, LinkedIsLargest, LinkedIsAsUrgent}
use Rattle.strong_apa.proofs.Best.{linked_is_best, linked_is_largest}
use Rattle.strong_apa.proofs.Improved.{no_improving_chain}
use Rattle.strong_apa.proofs.Kept.{passing_is_certified-from, legal_passes}
use Rattle.strong_apa.proofs.Ranked.{linked_is_as_urgent}
use Rattle.history_laws.specs.Start.{NobodyIsReady}
use Rattle.history_laws.specs.ImprovingLaw.{LegalHistoryHasNoImprovingChainFrom}
use Rattle.history_laws.specs.LegalLaw.{HoldsThroughoutLegal, LegalHistoryHasCertificatesFrom, LegalHistoryIsBestFrom}
use Rattle.history_laws.specs.LegalLaw.{LegalHistoryIsMostUrgentFrom}
use Rattle.history_laws.proofs.Starts.{nobody_ready}

-- where nobody is ready, nobody waits
nobody_waits : (s : State) → NobodyIsReady s → HasCertificates s
nobody_waits s nobody w waits = absurd (true≢false (sym waits.ready ∙ nobody.absent w))

throughout_legal : (Law : State → Type 0) → HoldsWhereCertified Law → HoldsThroughoutLegal Law
throughout_legal Law holds start history ok nobody legal n within =
    let kept = passing_is_certified-from start history ok (nobody_waits start nobody) (legal_passes start history ok legal) n within in
    holds (state_after start (take n history)) kept.0 kept.1

-- from the start of a set
pub throughout_legal-set : (Law : State → Type 0) → HoldsThroughoutLegal Law → (set : SetData) → IsTaskSet set → (history : List Entry)
    → IsLegal set history → HoldsThroughout Law (start_of set) history
throughout_legal-set Law law set valid_set history = law (start_of set) history (IsState-start set valid_set) (nobody_ready set)

-- ---- the laws
pub legal_is_certified-from : LegalHistoryHasCertificatesFrom
legal_is_certified-from = throughout_legal (λ s. IsState s × HasCertificates s) (λ s ok certificates. (ok, certificates))

pub legal_is_best-from : LegalHistoryIsBestFrom
legal_is_best-from = throughout_legal LinkedIsBest linked_is_best

pub legal_is_most_urgent-from : LegalHistoryIsMostUrgentFrom
legal_is_most_urgent-from = throughout_legal (λ s. LinkedIsLargest s × LinkedIsAsUrgent s)
    (λ s ok certificates. (linked_is_largest s ok certificates, linked_is_as_urgent s ok certificates))

pub legal_has_no_improving_chain-from : LegalHistoryHasNoImprovingChainFrom
legal_has_no_improving_chain-from = throughout_legal HasNoImprovingChain (λ s ok. no_improving_chain s)
