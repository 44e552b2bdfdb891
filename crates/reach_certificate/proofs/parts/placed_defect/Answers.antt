use Rattle.reach_certificate.proofs.Fitting.{placed_passes}
use Rattle.reach_certificate.proofs.parts.placed_defect.Goals as goal

pub returns : goal.returns
returns c = placed_passes c.args.links.now c.len.ensures.valid c.args.t c.args.chain.now c.in_default.ensures
