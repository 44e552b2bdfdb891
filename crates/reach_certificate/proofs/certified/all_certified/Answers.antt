use Rattle.std.proofs.Common.{ℕ, ◌<◌, ◌≤◌, List, get_or, sym, ◌∙◌, subst, below_more, arith}
use Rattle.std.proofs.lemmas.Bool.{false≢true}
use Rattle.std.proofs.lemmas.List.{get_or_default}
use Rattle.strong_apa.specs.State.{State, IsState, IsWaiting, task_count}
use Rattle.strong_apa.specs.Certificate.{IsCertificate}
use Rattle.strong_apa.proofs.Unique.{ready_number}
use Rattle.strong_apa.specs.Certified.{HasCertificates}
use Rattle.strong_apa.proofs.Best.{linked_is_best, linked_is_largest}
use Rattle.strong_apa.proofs.Ranked.{linked_is_as_urgent}
use Rattle.reach_certificate.proofs.certified.all_certified.Goals as goal
use Rattle.reach_certificate.proofs.certified.all_certified.Goals.{else-is_waiting-via-then-is_waiting+else-not-is_certificate}
use Rattle.reach_certificate.proofs.certified.all_certified.Goals.{else-is_waiting-via-else-is_waiting}

pub loop-t-preserved : goal.loop-t-preserved
loop-t-preserved c = below_more _ _ c.loop-t.invariant (elim c.else-is_waiting.branch [
  | else-is_waiting-via-then-is_waiting+else-not-is_certificate w ↦ λ waits. subst (λ (x : ℕ). IsCertificate c.args.links.now c.loop-t.t x)
      (w.index-sets-t.is ∙ get_or_default c.args.sets.now c.loop-t.t w.index-sets-t.result 0 (omega arith))
      (w.is_certificate.ensures.0 w.if-not-is_certificate.false)
  | else-is_waiting-via-else-is_waiting w ↦ λ waits. absurd (false≢true (sym w.if-is_waiting.false ∙ c.is_waiting.ensures.test.1 waits))
])

-- once every task was looked at, each waiting one has the set at its number
certificates : (s : State) → IsState s → (sets : List ℕ) (n : ℕ) → task_count s ≤ n
    → ((w : ℕ) → w < n → IsWaiting s w → IsCertificate s w (get_or sets w 0)) → HasCertificates s
certificates s ok sets n all seen w waits = (get_or sets w 0, seen w (let number = ready_number s ok w waits.ready in omega arith) waits)

pub returns-clause-best : goal.returns-clause-best
returns-clause-best c = λ _. linked_is_best c.args.links.now c.len-t-end.ensures.valid
    (certificates c.args.links.now c.len-t-end.ensures.valid c.args.sets.now c.loop-t.t (omega arith) c.loop-t.invariant)

pub returns-clause-largest : goal.returns-clause-largest
returns-clause-largest c = λ _. linked_is_largest c.args.links.now c.len-t-end.ensures.valid
    (certificates c.args.links.now c.len-t-end.ensures.valid c.args.sets.now c.loop-t.t (omega arith) c.loop-t.invariant)

pub returns-clause-rank_by_rank : goal.returns-clause-rank_by_rank
returns-clause-rank_by_rank c = λ _. linked_is_as_urgent c.args.links.now c.len-t-end.ensures.valid
    (certificates c.args.links.now c.len-t-end.ensures.valid c.args.sets.now c.loop-t.t (omega arith) c.loop-t.invariant)
