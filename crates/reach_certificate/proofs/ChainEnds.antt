-- A chain that fits is not empty, and has an end.
use Rattle.std.proofs.Common.{◌≡◌, ◌≢◌, ℕ, List, [], ◌∷◌, length, Option, Some, refl, inl, arith}
use Rattle.strong_apa.specs.State.{State, task_on}
use Rattle.strong_apa.specs.Chain.{CanShift}
use Rattle.reach_certificate.specs.Defect.{AllFit, BeginsFor, DisplacedFits, MovesBack, FreedFits, last_processor}
use Rattle.reach_certificate.proofs.ChainPlaces.{fit_is_not_empty, fit_ends}

-- a chain that fits has an end, on which a task is where one is displaced
abbrev pub Occupied : State → ℕ → Type 0
Occupied s q = (u : ℕ) × (task_on s q ≡ Some u)

pub displaced_not_empty : (s : State) (t : ℕ) (chain : List ℕ) → AllFit (DisplacedFits s t chain) (length chain) → chain ≢ []
displaced_not_empty s t chain fits = fit_is_not_empty s (BeginsFor s t) (CanShift s) (Occupied s) chain fits

pub displaced_end : (s : State) (t : ℕ) (chain : List ℕ) → AllFit (DisplacedFits s t chain) (length chain)
    → Occupied s (last_processor chain)
displaced_end s t [] all = absurd (let there = (all 0 (inl refl)).there in omega arith)
displaced_end s t (x ∷ rest) all = fit_ends s (BeginsFor s t) (CanShift s) (Occupied s) x rest all

pub freed_not_empty : (s : State) (p : ℕ) (entered : Option ℕ) (chain : List ℕ) → AllFit (FreedFits s p entered chain) (length chain)
    → chain ≢ []
freed_not_empty s p entered chain fits = fit_is_not_empty s (λ q. q ≡ p) (MovesBack s entered) (λ q. Unit {0}) chain fits
