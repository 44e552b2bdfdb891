-- A shortest path visits no processor twice.
use Rattle.std.proofs.Common.{ℕ, zero, suc, ◌<◌, ◌≤◌, List, [], ◌∷◌, length, get_or, subst, arith}
use Rattle.strong_apa.specs.Chain.{IsPath, IsSimple}
use Rattle.strong_apa.proofs.Simple.{IsSimple-cons}

-- from a processor of a path on, there is a shorter path to its end
pub path_from : (Step : ℕ → ℕ → Type 0) (p : ℕ) (rest : List ℕ) (q : ℕ) → IsPath Step p rest q → (i : ℕ) → i < length rest
    → (short : List ℕ) × (length short < length rest) × IsPath Step (get_or rest i 0) short q
path_from Step p [] q path i lt = absurd (omega arith)
path_from Step p (r ∷ rest) q path zero lt = (rest, omega arith, path.1)
path_from Step p (r ∷ rest) q path (suc i) lt =
    let later = path_from Step r rest q path.1 i (omega arith) in (later.0, (let l = later.1 in omega arith), later.2)

-- no path from p to such an end is shorter
abbrev pub IsShortest : (ℕ → ℕ → Type 0) → (ℕ → Type 0) → ℕ → List ℕ → Type 0
IsShortest Step Ends p rest = (other : List ℕ) (q : ℕ) → Ends q → IsPath Step p other q → length rest ≤ length other

pub shortest_is_simple : (Step : ℕ → ℕ → Type 0) (Ends : ℕ → Type 0) (p : ℕ) (rest : List ℕ) (q : ℕ) → Ends q → IsPath Step p rest q
    → IsShortest Step Ends p rest → IsSimple (p ∷ rest)
shortest_is_simple Step Ends p [] q ends path shortest = λ i j d lt fits. absurd (omega arith)
shortest_is_simple Step Ends p (r ∷ rest) q ends path shortest =
    IsSimple-cons p (r ∷ rest)
    (λ i fits same. let back = path_from Step p (r ∷ rest) q path i fits in
    let l = shortest back.0 q ends (subst (λ (x : ℕ). IsPath Step x back.0 q) same back.2) in
    let s = back.1 in absurd (omega arith))
    (shortest_is_simple Step Ends r rest q ends path.1 (λ other q' ends' path'. let l = shortest (r ∷ other) q' ends' (path.0, path') in
    omega arith))
