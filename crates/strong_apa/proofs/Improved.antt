-- A task with a certificate has no improving chain: each of its chains ends on the processor of a more urgent task.
use Rattle.std.proofs.Common.{◌≡◌, ℕ, ◌<◌, List, Option, Some, None, sym, ap, ◌∙◌, inl, inr, arith}
use Rattle.std.proofs.lemmas.Option.{same_Some}
use Rattle.task_set.specs.TaskSet.{SetData, IsTaskSet}
use Rattle.strong_apa.specs.declared.reply.Entry.{Entry}
use Rattle.strong_apa.specs.State.{State, task_on, priority_of}
use Rattle.strong_apa.specs.Chain.{IsChainOf}
use Rattle.strong_apa.specs.Certificate.{IsCertificate}
use Rattle.strong_apa.specs.History.{state_at}
use Rattle.strong_apa.specs.Certified.{HasCertificates}
use Rattle.strong_apa.specs.Improving.{HasNoImprovingChain, HasNoImprovingChainThroughout}
use Rattle.strong_apa.specs.Passing.{IsPassing}
use Rattle.strong_apa.proofs.Closed.{IsCertificate-closed, chain_inside}
use Rattle.strong_apa.proofs.Kept.{passing_is_certified}

-- where each waiting task has a certificate, no task has an improving chain
pub no_improving_chain : (s : State) → HasCertificates s → HasNoImprovingChain s
no_improving_chain s certified t chain improving = elim improving.better [
  | inl idle ↦ (let u = occupant idle.0 idle.1 in let e : ◌≡◌ {A = Option ℕ} None (Some u.0) = sym idle.2.1 ∙ u.1 in cc)
  | inr task ↦ (
      let end = task.1 in
      let u = occupant end.0 end.1 in
      let same : u.0 ≡ task.0 = same_Some u.0 task.0 (sym u.1 ∙ end.2) in
      let priorities : priority_of s u.0 ≡ priority_of s task.0 = ap (priority_of s) same in
      let more = u.2 in
      let less = task.2 in omega arith
      )
]
  where
    set : ℕ
    set = (certified t improving.waits).0

    certificate : IsCertificate s t set
    certificate = (certified t improving.waits).1

    occupant : (q : ℕ) → IsChainOf s t chain q → (u : ℕ) × (task_on s q ≡ Some u) × (priority_of s u < priority_of s t)
    occupant q c = let o = certificate.occupied q
        (chain_inside s set (IsCertificate-closed s t set certificate) t certificate.within chain q c) in (o.0, o.1, o.2)

pub passing_has_no_improving_chain : (set : SetData) → IsTaskSet set → (history : List Entry) → IsPassing set history
    → HasNoImprovingChainThroughout set history
passing_has_no_improving_chain set valid_set history passing n within =
    no_improving_chain (state_at set history n) (passing_is_certified set valid_set history passing n within).1
