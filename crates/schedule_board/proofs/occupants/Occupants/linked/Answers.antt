use Rattle.std.proofs.Common.{arith}
use Rattle.std.proofs.lemmas.Bool.{false_from_ne_true}
use Rattle.affinity_mask.specs.ProcSet.{has}
use Rattle.affinity_mask.proofs.Meetings.{no_member}
use Rattle.schedule_board.proofs.occupants.Occupants.linked.Goals as goal

pub loop-p-init : goal.loop-p-init
loop-p-init c = (
  λ k below. absurd (omega arith),
  λ k above. false_from_ne_true (has c.empty-linked.result k)
      (no_member c.empty-linked.result k c.empty-linked.ensures),
)
