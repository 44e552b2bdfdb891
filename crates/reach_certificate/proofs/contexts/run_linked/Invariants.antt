use Rattle.reach_certificate.specs.Contexts.{EachBecomes}
use Rattle.reach_certificate.proofs.Following.{context_run_below}
use Rattle.reach_certificate.proofs.contexts.run_linked.Given as goal

abbrev pub invariant-loop-p : goal.invariant-loop-p
invariant-loop-p l = EachBecomes (context_run_below l.links l.units l.p) l.fn.contexts l.contexts
