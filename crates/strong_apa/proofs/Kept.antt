-- Each history whose replies pass leaves every waiting task with a certificate, after every entry; and so does each legal
-- history, whose replies pass.
use Rattle.std.proofs.Common.{ℕ, zero, suc, List, [], ◌∷◌, take, length, sym, ◌∙◌, subst}
use Rattle.std.proofs.lemmas.Bool.{true≢false}
use Rattle.task_set.specs.TaskSet.{SetData, IsTaskSet}
use Rattle.task_set.specs.declared.event.Event.{Event}
use Rattle.strong_apa.specs.declared.reply.Reply.{Reply}
use Rattle.strong_apa.specs.declared.reply.Entry.{Entry}
use Rattle.strong_apa.specs.State.{State, IsState, start_of}
use Rattle.strong_apa.specs.Step.{SchedulerStep}
use Rattle.strong_apa.specs.History.{effect_of, state_after, state_at, IsLegal, IsLegalFrom, IsBestThroughout}
use Rattle.strong_apa.proofs.Start.{IsState-start, none_ready}
use Rattle.strong_apa.proofs.Steps.{reply_gives_new_state}
use Rattle.strong_apa.specs.Certified.{HasCertificates, IsCertifiedThroughout}
use Rattle.strong_apa.specs.Justification.{HasJustification}
use Rattle.strong_apa.specs.CertificateLaws.{HoldsThroughout}
use Rattle.strong_apa.specs.Passing.{IsPassing, IsPassingFrom}
use Rattle.strong_apa.proofs.Best.{linked_is_best}
use Rattle.strong_apa.proofs.KeptStates.{passing_keeps_state}
use Rattle.strong_apa.proofs.Passed.{passing_keeps_certificates, passing_has_justification}
use Rattle.strong_apa.proofs.StepsPass.{step_passes}

-- ---- from state to state
pub IsState-passed : (s : State) (history : List Entry) → IsState s → IsPassingFrom s history → IsState (state_after s history)
IsState-passed s [] ok passing = ok
IsState-passed s (first ∷ rest) ok passing =
    IsState-passed (effect_of s first) rest (passing_keeps_state s first.event first.reply ok passing.0) passing.1

pub HasCertificates-passed : (s : State) (history : List Entry) → IsState s → HasCertificates s → IsPassingFrom s history
    → HasCertificates (state_after s history)
HasCertificates-passed s [] ok certificates passing = certificates
HasCertificates-passed s (first ∷ rest) ok certificates passing =
    HasCertificates-passed (effect_of s first) rest (passing_keeps_state s first.event first.reply ok passing.0)
    (passing_keeps_certificates s first.event first.reply ok certificates passing.0) passing.1

pub IsPassingFrom-take : (s : State) (history : List Entry) (n : ℕ) → IsPassingFrom s history → IsPassingFrom s (take n history)
IsPassingFrom-take s [] zero passing = tt
IsPassingFrom-take s [] (suc n) passing = tt
IsPassingFrom-take s (first ∷ rest) zero passing = tt
IsPassingFrom-take s (first ∷ rest) (suc n) passing = (passing.0, IsPassingFrom-take (effect_of s first) rest n passing.1)

-- so it is after each entry
pub passing_is_certified-from : (s : State) (history : List Entry) → IsState s → HasCertificates s → IsPassingFrom s history
    → HoldsThroughout (λ s. IsState s × HasCertificates s) s history
passing_is_certified-from s history ok certificates passing n within =
    let begun = IsPassingFrom-take s history n passing in
    (IsState-passed s (take n history) ok begun, HasCertificates-passed s (take n history) ok certificates begun)

-- a legal history passes
pub legal_passes : (s : State) (history : List Entry) → IsState s → IsLegalFrom s history → IsPassingFrom s history
legal_passes s [] ok legal = tt
legal_passes s (first ∷ rest) ok legal =
    let passes = step_passes s first.event first.reply (effect_of s first) ok legal.0 in
    (passes, legal_passes (effect_of s first) rest (passing_keeps_state s first.event first.reply ok passes) legal.1)

-- ---- from the start
-- no task is ready, and so none waits
pub HasCertificates-start : (set : SetData) → HasCertificates (start_of set)
HasCertificates-start set w waits = absurd (true≢false (sym waits.ready ∙ none_ready (length set.tasks) w))

pub passing_is_certified : (set : SetData) → IsTaskSet set → (history : List Entry) → IsPassing set history
    → IsCertifiedThroughout set history
passing_is_certified set valid_set history passing =
    passing_is_certified-from (start_of set) history (IsState-start set valid_set) (HasCertificates-start set) passing

pub passing_is_best : (set : SetData) → IsTaskSet set → (history : List Entry) → IsPassing set history → IsBestThroughout set history
passing_is_best set valid_set history passing n within =
    let kept = passing_is_certified set valid_set history passing n within in linked_is_best (state_at set history n) kept.0 kept.1

pub legal_is_certified : (set : SetData) → IsTaskSet set → (history : List Entry) → IsLegal set history → IsCertifiedThroughout set history
legal_is_certified set valid_set history legal =
    passing_is_certified set valid_set history (legal_passes (start_of set) history (IsState-start set valid_set) legal)

pub legal_is_best : (set : SetData) → IsTaskSet set → (history : List Entry) → IsLegal set history → IsBestThroughout set history
legal_is_best set valid_set history legal =
    passing_is_best set valid_set history (legal_passes (start_of set) history (IsState-start set valid_set) legal)

-- ---- one step of the scheduler
pub step_keeps_certificates : (s : State) (event : Event) (reply : Reply) (new : State) → IsState s → HasCertificates s
    → SchedulerStep s event reply new → HasCertificates new
step_keeps_certificates s event reply new ok certificates step =
    subst HasCertificates (sym (reply_gives_new_state s event reply new step))
    (passing_keeps_certificates s event reply ok certificates (step_passes s event reply new ok step))

pub step_has_justification : (s : State) (event : Event) (reply : Reply) (new : State) → IsState s → HasCertificates s
    → SchedulerStep s event reply new → HasJustification s new event reply
step_has_justification s event reply new ok certificates step =
    subst (λ (s' : State). HasJustification s s' event reply) (sym (reply_gives_new_state s event reply new step))
    (passing_has_justification s event reply ok certificates (step_passes s event reply new ok step))
