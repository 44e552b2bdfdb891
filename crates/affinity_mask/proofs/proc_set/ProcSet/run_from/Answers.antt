use Rattle.std.proofs.Common.{refl}
use Rattle.affinity_mask.proofs.NextRuns.{rest_from, next_run, up_to_end}
use Rattle.affinity_mask.proofs.proc_set.ProcSet.run_from.Goals as goal

pub returns-in-Some : goal.returns-in-Some
returns-in-Some c =
    next_run c.args.self.now c.minus.result c.args.from c.in-Some.low c.run_end.result
    (rest_from c.args.self.now c.minus.result c.first.result c.args.from c.minus.ensures c.first.ensures.contents)
    c.in-Some.ensures.least c.requires c.run_end.ensures

pub returns-in-None : goal.returns-in-None
returns-in-None c =
    up_to_end c.args.self.now c.minus.result c.args.from c.requires.few
    (rest_from c.args.self.now c.minus.result c.first.result c.args.from c.minus.ensures c.first.ensures.contents)
    (c.in-None.ensures.none.0 refl) c.count-valid.ensures.valid
