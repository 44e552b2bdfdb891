-- What an arrival does, by what the searches found.
use Rattle.std.proofs.Common.{◌≡◌, ℕ, ◌<◌, ◌≤◌, false, List, Option, Some, None, refl, sym, ◌∙◌, subst, inl, inr, IsTrue, IsSome, IsNone}
use Rattle.std.proofs.Common.{arith, le_antisymm}
use Rattle.std.proofs.lemmas.Bool.{cases_lt, true≢false}
use Rattle.affinity_mask.specs.ProcSet.{has}
use Rattle.strong_apa.specs.State.{State, IsState, IsMoreUrgent, task_on, task_count, is_ready, priority_of}
use Rattle.strong_apa.specs.Chain.{IsReach, EndsIdle, EndsOnTask}
use Rattle.strong_apa.specs.Step.{IsOccupied, IsNobodyOn, IsLeastUrgentOn}
use Rattle.path_search.specs.Paths.{IsLeastIfAny}
use Rattle.strong_apa.proofs.Linked.{linked_number}
use Rattle.strong_apa.proofs.Paths.{Reaches-online}

pub some_place : (place : Option ℕ) → (IsNone place → ⊥) → IsSome place
some_place None none = absurd (none refl)
some_place (Some p) none = refl

-- where there is some chain, one is found
pub chain_found : (Has : List ℕ → Type 0) (found : Option (List ℕ)) (chain : List ℕ) → Has chain → IsLeastIfAny Has found → IsSome found
chain_found Has None chain has none = absurd (none chain has)
chain_found Has (Some least) chain has is = refl

module _ (s : State) (ok : IsState s) (t : ℕ) where
  module _ (reach : ℕ) (reached : IsReach s t reach) where
    -- where no chain ends on an idle processor, each processor that is reached is occupied
    pub occupied_reach : ((chain : List ℕ) → EndsIdle s t chain → ⊥) → IsOccupied s reach
    occupied_reach none p inside = go (task_on s p) refl
      where
        go : (occupant : Option ℕ) → task_on s p ≡ occupant → (u : ℕ) × (task_on s p ≡ Some u)
        go None idle = let path = (reached p).0 inside in absurd (none path.0 (p, path.1, (Reaches-online s t p path, idle)))
        go (Some u) on = (u, on)

    -- the least urgent task that is reached is at the end of some chain
    pub chain_to_least_urgent : (d : ℕ) → IsLeastUrgentOn s reach d → (chain : List ℕ) × EndsOnTask s t d chain
    chain_to_least_urgent d least = let path = (reached least.there.0).0 least.there.1 in (path.0, (least.there.0, path.1, least.there.2))

    -- where the least urgent one of them is not less urgent than t, all are more urgent
    pub more_urgent_reach : t < task_count s → is_ready s t ≡ false → IsOccupied s reach → (d : ℕ) → IsLeastUrgentOn s reach d
        → (IsMoreUrgent s t d → ⊥) → (p : ℕ) → IsTrue (has reach p) → (u : ℕ) × (task_on s p ≡ Some u) × IsMoreUrgent s u t
    more_urgent_reach number absent occupied d least not_less p inside =
        let u = (occupied p inside).0 in
        let on = (occupied p inside).1 in
        let below = least.least_urgent p u inside on in
        let le : priority_of s d ≤ priority_of s t = elim (cases_lt (priority_of s t) (priority_of s d))
        [ inl lt ↦ absurd (not_less lt) | inr ge ↦ ge ] in (
          u,
          on,
          elim (cases_lt (priority_of s u) (priority_of s t)) [
            | inl lt ↦ lt
            | inr ge ↦ absurd (true≢false (sym (ok.linked_ready p u on)
                ∙ subst (λ (v : ℕ). is_ready s v ≡ false)
                (sym (ok.distinct u t (linked_number s p u ok on) number (le_antisymm (omega arith) ge))) absent))
          ],
        )

    -- where nobody is reached, nothing is
    pub nobody_reached : IsOccupied s reach → IsNobodyOn s reach → (p : ℕ) → IsTrue (has reach p) → (u : ℕ) × (task_on s p ≡ Some u)
        × IsMoreUrgent s u t
    nobody_reached occupied nobody p inside = absurd (nobody p (occupied p inside).0 inside (occupied p inside).1)
