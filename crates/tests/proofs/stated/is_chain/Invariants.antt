use Rattle.std.proofs.Common.{◌-◌, get_or, take}
use Rattle.strong_apa.specs.Chain.{IsChainOf}
use Rattle.tests.proofs.stated.is_chain.Given as goal

abbrev pub invariant-loop-i : goal.invariant-loop-i
invariant-loop-i l = IsChainOf l.links l.t (take l.i l.chain) (get_or l.chain (l.i - 1) 0)
