-- Paths, chains and back chains one processor longer.
use Rattle.std.proofs.Common.{◌≡◌, ℕ, List, [], ◌∷◌, ◌++◌, reverse, refl, sym, ap, subst, IsTrue}
use mathlib.Core.List.{reverse_aux}
use Rattle.strong_apa.specs.State.{State}
use Rattle.affinity_mask.specs.ProcSet.{has}
use Rattle.strong_apa.specs.Chain.{CanShift, IsPath, IsChainOf, IsBackChain, CanEnterAt, Reaches}
use Rattle.strong_apa.proofs.Masks.{effective_mask_online}

-- one more step at the end
pub IsPath-push : (Step : ℕ → ℕ → Type 0) (p : ℕ) (rest : List ℕ) (q r : ℕ) → IsPath Step p rest q → Step q r
    → IsPath Step p (rest ++ r ∷ []) r
IsPath-push Step p [] q r path step = (rw path step, refl)
IsPath-push Step p (x ∷ rest) q r path step = (path.0, IsPath-push Step x rest q r path.1 step)

-- a chain goes on where the occupant of its end can be shifted
pub IsChainOf-push : (s : State) (t : ℕ) (chain : List ℕ) (q r : ℕ) → IsChainOf s t chain q → CanShift s q r
    → IsChainOf s t (chain ++ r ∷ []) r
IsChainOf-push s t [] q r c step = absurd c
IsChainOf-push s t (x ∷ rest) q r c step = (c.0, IsPath-push (CanShift s) x rest q r c.1 step)

-- what a task reaches is on line
walk_online : (s : State) (p : ℕ) (rest : List ℕ) (q : ℕ) → IsPath (CanShift s) p rest q → IsTrue (has s.online p) → IsTrue (has s.online q)
walk_online s p [] q path online = rw (← path) online
walk_online s p (r ∷ rest) q path online = walk_online s r rest q path.1 (effective_mask_online s path.0.0 r path.0.2)

pub Reaches-online : (s : State) (t q : ℕ) → Reaches s t q → IsTrue (has s.online q)
Reaches-online s t q (([]), c) = absurd c
Reaches-online s t q ((p ∷ rest), c) = walk_online s p rest q c.1 (effective_mask_online s t p c.0)

-- ---- a path read from its end
path_turned : (Step : ℕ → ℕ → Type 0) (p : ℕ) (behind : List ℕ) (e : ℕ) (rest : List ℕ) (q : ℕ) → IsPath Step p behind e
    → IsPath (λ a b. Step b a) p rest q → (tail : List ℕ) × (reverse_aux rest (p ∷ behind) ≡ q ∷ tail) × IsPath Step q tail e
path_turned Step p behind e [] q back path = (behind, ap (λ (z : ℕ). z ∷ behind) path, subst (λ (z : ℕ). IsPath Step z behind e) path back)
path_turned Step p behind e (r ∷ rest) q back path = path_turned Step r (p ∷ behind) e rest q (path.0, back) path.1

-- a back chain to p, read from its end, is a chain to p of what can enter at its end
pub IsChainOf-reverse : (s : State) (p w : ℕ) (chain : List ℕ) (q : ℕ) → IsBackChain s p chain q → CanEnterAt s w q
    → IsChainOf s w (reverse chain) p
IsChainOf-reverse s p w [] q c enters = absurd c
IsChainOf-reverse s p w (first ∷ rest) q c enters =
    let turned = path_turned (CanShift s) first [] p rest q c.0
    (subst (λ (z : ℕ). IsPath (λ a b. CanShift s b a) z rest q) (sym c.0) c.1) in
    subst (λ (z : List ℕ). IsChainOf s w z p) (sym turned.1) (enters, turned.2)
