-- The search of levels: what is known while none of them met the target.
use Rattle.std.proofs.Common.{◌≡◌, ℕ, ◌+◌, ◌<◌, not, ◌&&◌, ◌||◌, List, [], ◌∷◌, ◌++◌, length, sym, subst, inl, inr, ◌↔◌, IsTrue, arith}
use Rattle.std.proofs.lemmas.Bool.{cases_lt, cases_Bool}
use Rattle.std.proofs.lemmas.List.{get_or_append_left, get_or_push}
use Rattle.affinity_mask.specs.ProcSet.{has, empty, Meets}
use Rattle.affinity_mask.proofs.Sets.{empty_from_none}
use Rattle.strong_apa.specs.State.{State, IsState}
use Rattle.path_search.specs.declared.direction.Direction.{Direction}
use Rattle.path_search.specs.Paths.{Steps}
use Rattle.path_search.specs.Levels.{IsLevel, IsWithin, AreLevels, IsOutOfReach, IsFirstMet, EndsWhereItMeets}
use Rattle.path_search.proofs.LeastPaths.{length-behind}
use Rattle.path_search.proofs.Distances.{IsPast, IsPast-none, IsPast-more, IsLevel-start, IsLevel-next, IsWithin-none, IsWithin-more}
use Rattle.path_search.proofs.Distances.{IsFirstMet-here, IsOutOfReach-end, IsAway-fits}

-- the levels so far, of which none meets the target, the next one, and all that is nearer
pub record IsLevelSearch (Step : ℕ → ℕ → Type 0) (start target : ℕ) (levels : List ℕ) (level done : ℕ) : Type 0 where
  pub in_order : AreLevels Step start levels
  pub next : IsLevel Step start (length levels + 1) level
  pub within : IsWithin Step start (length levels) done
  pub past : IsPast Step start target (length levels)

module _ (Step : ℕ → ℕ → Type 0) (start target : ℕ) where
  pub IsLevelSearch-start : (levels : List ℕ) (done : ℕ) → levels ≡ [] → done ≡ empty → IsLevelSearch Step start target levels start done
  IsLevelSearch-start levels done no_levels none =
      subst (λ (ls : List ℕ). IsLevelSearch Step start target ls start done) (sym no_levels) record {
        in_order = λ i lt. absurd (omega arith);
        next = IsLevel-start Step start;
        within = IsWithin-none Step start done none;
        past = IsPast-none Step start target;
      }

  module _ (levels : List ℕ) (level done : ℕ) (so_far : IsLevelSearch Step start target levels level done) where
    in_order-more : AreLevels Step start (levels ++ level ∷ [])
    in_order-more i lt = elim (cases_lt i (length levels)) [
      | inl before ↦ subst (λ (X : ℕ). IsLevel Step start (i + 1) X) (sym (get_or_append_left levels (level ∷ []) empty i before))
          (so_far.in_order i before)
      | inr after ↦ (let e : length levels ≡ i = (let n = length-behind levels level in omega arith) in
          subst (λ (X : ℕ). IsLevel Step start (i + 1) X) (sym (get_or_push levels level empty i e))
          (subst (λ (k : ℕ). IsLevel Step start (k + 1) level) e so_far.next))
    ]

    -- the level meets the target
    pub IsLevelSearch-met : (more : List ℕ) → more ≡ levels ++ level ∷ [] → Meets level target → EndsWhereItMeets Step start target more
    IsLevelSearch-met more pushed common =
        subst (λ (ls : List ℕ). EndsWhereItMeets Step start target ls) (sym pushed) record {
          in_order = in_order-more;
          met = subst (λ (k : ℕ). IsFirstMet Step start target k) (sym (length-behind levels level))
              (IsFirstMet-here Step start (length levels) level done so_far.next so_far.within target so_far.past common);
        }

    -- the level does not, and the next one follows
    pub IsLevelSearch-more : (more : List ℕ) (done' after next : ℕ) → more ≡ levels ++ level ∷ []
        → ((q : ℕ) → has done' q ≡ (has done q || has level q))
        → ((q : ℕ) → IsTrue (has after q) ↔ ((p : ℕ) × IsTrue (has level p) × Step p q))
        → ((q : ℕ) → has next q ≡ (has after q && not (has done' q))) → (Meets level target → ⊥)
        → IsLevelSearch Step start target more next done'
    IsLevelSearch-more more done' after next pushed joined is_after is_next apart =
        let within = IsWithin-more Step start (length levels) level done so_far.next so_far.within done' joined in
        let n = length-behind levels level in
        subst (λ (ls : List ℕ). IsLevelSearch Step start target ls next done') (sym pushed) record {
          in_order = in_order-more;
          next = subst (λ (k : ℕ). IsLevel Step start (k + 1) next) (sym n)
              (IsLevel-next Step start (length levels + 1) level done' after next (omega arith) so_far.next within is_after is_next);
          within = subst (λ (k : ℕ). IsWithin Step start k done') (sym n) within;
          past = subst (λ (k : ℕ). IsPast Step start target k) (sym n)
              (IsPast-more Step start (length levels) level done so_far.next so_far.within target so_far.past apart);
        }

    -- nothing is left to follow
    pub IsLevelSearch-end : level ≡ empty → IsOutOfReach Step start target
    IsLevelSearch-end none = IsOutOfReach-end Step start (length levels) level done so_far.next so_far.within none target so_far.past

-- there is room for a level that is not empty: it is no further away than there are processors
pub IsLevel-room : (s : State) → IsState s → (direction : Direction) (start : ℕ) → ((p : ℕ) → IsTrue (has start p) → p < s.processors)
    → (n level : ℕ) → IsLevel (Steps s direction) start (n + 1) level → (level ≡ empty → ⊥) → n < 64
IsLevel-room s ok direction start below n level is_level some = elim (cases_lt n 64) [
  | inl lt ↦ lt
  | inr ge ↦ absurd (some (empty_from_none level (λ q. elim (cases_Bool (has level q)) [
    | inl h ↦ (let l = IsAway-fits s ok direction start below (n + 1) q ((is_level q).0 h) in let m = ok.processors in absurd (omega arith))
    | inr out ↦ out
  ])))
]
