use Rattle.std.proofs.Common.{◌≡◌, take}
use Rattle.reach_certificate.proofs.contexts.occupants.Given as goal

abbrev pub invariant-loop-p : goal.invariant-loop-p
invariant-loop-p l = l.held.items ≡ take l.p l.links.on
