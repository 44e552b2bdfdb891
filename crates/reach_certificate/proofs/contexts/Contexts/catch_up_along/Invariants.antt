use Rattle.std.proofs.Common.{take}
use Rattle.reach_certificate.specs.CaughtUp.{HaveCaughtUp}
use Rattle.reach_certificate.proofs.contexts.Contexts.catch_up_along.Given as goal

abbrev pub invariant-loop-p : goal.invariant-loop-p
invariant-loop-p l = HaveCaughtUp l.links (take l.p-index l.chain) l.fn.self l.self
