use Rattle.reach_certificate.proofs.Fitting.{gone_passes}
use Rattle.reach_certificate.proofs.parts.gone_defect.Goals as goal

pub returns : goal.returns
returns c =
    gone_passes c.args.links.now c.processors.ensures.valid c.args.p c.requires c.args.gone.now c.in_default-first_misfit.ensures.processors
    record {
      chain = c.in_default.ensures;
      set = c.in_default-first_misfit.ensures.test;
      tasks = c.in_default-wrong_entrant.ensures;
    }
