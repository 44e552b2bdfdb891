use Rattle.std.proofs.Common.{ℕ, IsTrue, ◌↔◌, sym, subst}
use Rattle.affinity_mask.specs.ProcSet.{has}
use Rattle.affinity_mask.proofs.Meetings.{no_member}
use Rattle.strong_apa.proofs.Linked.{linked_number}
use Rattle.path_search.specs.declared.direction.Direction.{Direction}
use Rattle.path_search.specs.Paths.{Steps}
use Rattle.path_search.proofs.Moves.{CanShift-idle}
use Rattle.path_search.proofs.direction.Direction.after.Goals as goal

pub effective-requires : goal.effective-requires
effective-requires c = linked_number c.args.links.now c.args.p c.in-Some.u c.on.ensures.valid (sym c.in-Some.ensures.value)

pub returns-in-None-clause-contents : goal.returns-in-None-clause-contents
returns-in-None-clause-contents c =
    subst (λ (d : Direction). (q : ℕ) → IsTrue (has c.empty.result q) ↔ Steps c.args.links.now d c.args.p q) (sym c.in-Onward.is)
    (λ q. (
      λ h. absurd (no_member c.empty.result q c.empty.ensures h),
      λ step. absurd (CanShift-idle c.args.links.now c.args.p q (sym c.in-None.ensures.value) step),
    ))
