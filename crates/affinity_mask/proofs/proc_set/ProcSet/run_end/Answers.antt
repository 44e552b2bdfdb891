use Rattle.std.proofs.Common.{refl}
use Rattle.affinity_mask.proofs.NextRuns.{gaps_from, run_to_last}
use Rattle.affinity_mask.proofs.proc_set.ProcSet.run_end.Goals as goal

pub returns-in-None : goal.returns-in-None
returns-in-None c =
    run_to_last c.args.self.now c.minus-2.result c.args.p
    (gaps_from c.first.result c.args.self.now c.minus.result c.first-2.result c.minus-2.result c.args.p
    c.first.ensures.contents c.minus.ensures c.first-2.ensures.contents c.minus-2.ensures)
    (c.in-None.ensures.none.0 refl) c.requires.small c.count-valid.ensures.valid
