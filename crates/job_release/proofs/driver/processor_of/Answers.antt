use Rattle.job_release.proofs.Moves.{place_is, place_there}
use Rattle.job_release.proofs.driver.processor_of.Goals as goal

pub returns-clause-place : goal.returns-clause-place
returns-clause-place c = place_is c.args.links.now c.args.t c.of.result c.of.ensures.valid c.of.ensures.place c.of.ensures.none

pub returns-clause-linked : goal.returns-clause-linked
returns-clause-linked c = place_there c.args.links.now c.args.t c.of.result c.of.ensures.none
