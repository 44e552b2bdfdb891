use Rattle.std.proofs.Common.{Bool, ◌↔◌, IsTrue, sym, subst}
use Rattle.affinity_mask.specs.ProcSet.{Meets}
use Rattle.affinity_mask.proofs.Meetings.{meets_at_least}
use Rattle.affinity_mask.proofs.proc_set.ProcSet.meets.Goals as goal

pub returns : goal.returns
returns c =
    subst (λ (b : Bool). IsTrue b ↔ Meets c.args.self.now c.args.other.now) (sym c.is_some.ensures)
    (meets_at_least c.args.self.now c.args.other.now c.both.result c.both.ensures.contents c.least.result c.least.ensures.none
    c.least.ensures.least)
