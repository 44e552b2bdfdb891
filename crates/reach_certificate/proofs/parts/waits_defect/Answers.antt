use Rattle.reach_certificate.proofs.Fitting.{waits_passes}
use Rattle.reach_certificate.proofs.parts.waits_defect.Goals as goal

pub returns : goal.returns
returns c =
    waits_passes c.args.links.now c.len.ensures.valid c.args.t c.args.reach c.in_default.ensures.test c.in_default.ensures.processors
