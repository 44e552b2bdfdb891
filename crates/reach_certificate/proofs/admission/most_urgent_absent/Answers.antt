use Rattle.std.proofs.Common.{sym, ◌∙◌, subst, ◌+◌, arith}
use Rattle.reach_certificate.proofs.MostUrgent.{IsFoundOf, IsFoundOf-passed, IsFoundOf-more, found_in}
use Rattle.reach_certificate.proofs.admission.most_urgent_absent.Goals as goal
use Rattle.reach_certificate.proofs.admission.most_urgent_absent.Goals.{then-not-is_ready, else-not-is_ready}

pub loop-t-preserved : goal.loop-t-preserved
loop-t-preserved c = elim c.if-not-is_ready.branch [
  | then-not-is_ready w ↦ subst (IsFoundOf c.args.links.now c.args.tasks.now (c.loop-t.t-index + 1)) (sym w.found-is)
      (IsFoundOf-more c.args.links.now c.args.tasks.now c.loop-t.t-index c.loop-t.found w.more_urgent.result (omega arith)
      (c.requires c.loop-t.t-index 0 (omega arith))
      (sym c.is_ready.ensures.value ∙ w.if-not-is_ready.true) w.more_urgent.ensures.either w.more_urgent.ensures.first
      w.more_urgent.ensures.first_of_found c.loop-t.invariant)
  | else-not-is_ready w ↦ subst (IsFoundOf c.args.links.now c.args.tasks.now (c.loop-t.t-index + 1)) (sym w.found-is)
      (IsFoundOf-passed c.args.links.now c.args.tasks.now c.loop-t.t-index c.loop-t.found
      (sym c.is_ready.ensures.value ∙ w.if-not-is_ready.false) c.loop-t.invariant)
]

pub returns : goal.returns
returns c = found_in c.args.links.now c.args.tasks.now c.loop-t.t-index c.loop-t.found (omega arith) c.loop-t.invariant
