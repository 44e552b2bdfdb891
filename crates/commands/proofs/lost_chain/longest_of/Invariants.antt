use Rattle.commands.specs.LostChain.{IsFoundLost}
use Rattle.commands.proofs.lost_chain.longest_of.Given as goal

abbrev pub invariant-loop-t : goal.invariant-loop-t
invariant-loop-t l = IsFoundLost l.losses l.t l.found
