use Rattle.std.proofs.Common.{◌-◌}
use Rattle.link_table.proofs.Leaders.{IsFoundOn, IsRestOf}
use Rattle.link_table.proofs.Rests.{rest_of}
use Rattle.link_table.proofs.links.Links.least_urgent_on.Given as goal

abbrev pub invariant-loop-p : goal.invariant-loop-p
invariant-loop-p l = record {
  found : IsFoundOn l.self l.fn.set l.rest l.found;
  rest : IsRestOf l.self l.fn.set l.rest;
}

abbrev pub decreases-loop-p : goal.decreases-loop-p
decreases-loop-p l = 64 - rest_of l.rest
