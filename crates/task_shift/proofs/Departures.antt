-- What a departure does, by what the searches found.
use Rattle.std.proofs.Common.{ℕ, List, Option, Some, None, IsSome, refl}
use Rattle.strong_apa.specs.State.{State}
use Rattle.strong_apa.specs.Chain.{IsBackReach, EntersBy}
use Rattle.strong_apa.specs.Step.{IsMostUrgentInto}
use Rattle.path_search.specs.Paths.{IsLeastIfAny}

-- who can enter into the back reach comes in by some back chain
pub back_chain_found : (s : State) (p back w : ℕ) → IsBackReach s p back → IsMostUrgentInto s back w → (found : Option (List ℕ))
    → IsLeastIfAny (EntersBy s p w) found → IsSome found
back_chain_found s p back w reached most None none =
    let path = (reached most.there.0).0 most.there.1 in absurd (none path.0 (most.there.0, path.1, most.there.2))
back_chain_found s p back w reached most (Some chain) least = refl
