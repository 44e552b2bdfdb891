use Rattle.link_table.proofs.IdleSets.{idle_of_sets}
use Rattle.link_table.proofs.links.Links.idle.Goals as goal

pub returns-clause-contents : goal.returns-clause-contents
returns-clause-contents c =
    idle_of_sets c.args.self.now c.online.result c.linked.result c.minus.result c.online.ensures.value c.linked.ensures c.minus.ensures
