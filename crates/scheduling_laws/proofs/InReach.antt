-- A waiting task with a certificate has no improving chain; so no chain of it ends on an idle processor, nor on a less urgent task.
use Rattle.std.proofs.Common.{◌∙◌, ℕ, Some, ap, inl, inr, arith}
use Rattle.std.proofs.lemmas.Bool.{cases_eq, cases_lt}
use Rattle.strong_apa.specs.State.{State, IsState, priority_of}
use Rattle.strong_apa.specs.History.{state_at}
use Rattle.strong_apa.proofs.Linked.{not_on, linked_number}
use Rattle.strong_apa.proofs.Unique.{ready_number}
use Rattle.strong_apa.specs.Certified.{HasCertificates}
use Rattle.strong_apa.proofs.Improved.{no_improving_chain}
use Rattle.strong_apa.proofs.Kept.{legal_is_certified, passing_is_certified}
use Rattle.scheduling_laws.specs.InReach.{IsWorkConserving, HasNoInversion, LegalConservesWork, PassingConservesWork, LegalHasNoInversion}
use Rattle.scheduling_laws.specs.InReach.{PassingHasNoInversion}

module _ (s : State) (ok : IsState s) (certified : HasCertificates s) where
  work_conserving : IsWorkConserving s
  work_conserving w p waits reaches idle =
      no_improving_chain s certified w reaches.0 record { waits = waits; better = inl (p, reaches.1, idle) }

  no_inversion : HasNoInversion s
  no_inversion w p u waits reaches on = elim (cases_lt (priority_of s u) (priority_of s w)) [
    | inl more_urgent ↦ more_urgent
    | inr as_late ↦ elim (cases_eq (priority_of s u) (priority_of s w)) [
      | inl same ↦ (
          let it = ok.distinct u w (linked_number s p u ok on) (ready_number s ok w waits.ready) same in
          absurd (not_on s p w waits.not_linked (on ∙ ap (λ (n : ℕ). Some n) it)))
      | inr other ↦ absurd (no_improving_chain s certified w reaches.0
          record { waits = waits; better = inr (u, (p, reaches.1, on), omega arith) })
    ]
  ]

-- ---- after every entry
pub legal_conserves_work : LegalConservesWork
legal_conserves_work set history n valid legal within =
    let kept = legal_is_certified set valid history legal n within in work_conserving (state_at set history n) kept.0 kept.1

pub passing_conserves_work : PassingConservesWork
passing_conserves_work set history n valid passing within =
    let kept = passing_is_certified set valid history passing n within in work_conserving (state_at set history n) kept.0 kept.1

pub legal_has_no_inversion : LegalHasNoInversion
legal_has_no_inversion set history n valid legal within =
    let kept = legal_is_certified set valid history legal n within in no_inversion (state_at set history n) kept.0 kept.1

pub passing_has_no_inversion : PassingHasNoInversion
passing_has_no_inversion set history n valid passing within =
    let kept = passing_is_certified set valid history passing n within in no_inversion (state_at set history n) kept.0 kept.1
