-- The levels of a search, one after the other, and the first one that meets a target.
use Rattle.std.proofs.Common.{◌≡◌, ℕ, ◌+◌, ◌<◌, ◌≤◌, false, not, ◌&&◌, ◌||◌, List, [], ◌∷◌, ◌++◌, length, refl, sym, ap, ◌∙◌, subst, inl}
use Rattle.std.proofs.Common.{inr, ◌⊎◌, ◌↔◌, IsTrue, arith}
use Rattle.std.proofs.lemmas.Bool.{cases_Bool, cases_lt, or_cases, or_left, or_right, and_parts, and_from, not-true, not_from_false}
use Rattle.std.proofs.lemmas.Bool.{true≢false}
use Rattle.affinity_mask.specs.ProcSet.{has, empty, Meets}
use Rattle.affinity_mask.proofs.Meetings.{no_member}
use Rattle.strong_apa.specs.State.{State, IsState}
use Rattle.strong_apa.specs.Chain.{IsPath}
use Rattle.strong_apa.proofs.Shortest.{shortest_is_simple}
use Rattle.strong_apa.proofs.Simple.{length-simple}
use Rattle.path_search.specs.declared.direction.Direction.{Direction}
use Rattle.path_search.specs.Paths.{Steps, IsPathFrom, LeadsInto}
use Rattle.path_search.specs.Levels.{IsAway, IsLevel, IsWithin, IsOutOfReach, IsFirstMet}
use Rattle.path_search.proofs.LeastPaths.{length-behind, last_step, IsPathFrom-push, IsPathFrom-below, IsPathFrom-all_below}

-- no path into the target has at most n processors
abbrev pub IsPast : (ℕ → ℕ → Type 0) → ℕ → ℕ → ℕ → Type 0
IsPast Step start target n = (path : List ℕ) → LeadsInto Step start target path → n < length path

module _ (Step : ℕ → ℕ → Type 0) (start : ℕ) where
  not_none : (path : List ℕ) (q : ℕ) → IsPathFrom Step start path q → 0 < length path
  not_none [] q path = absurd path
  not_none (p ∷ rest) q path = omega arith

  pub IsAway-some : (n q : ℕ) → IsAway Step start n q → 0 < n
  IsAway-some n q away = let some = not_none away.path q away.leads in let e = away.as_long in omega arith

  -- ---- the first level
  pub IsLevel-start : IsLevel Step start 1 start
  IsLevel-start q = (
    λ h. record { path = q ∷ []; leads = (h, refl); as_long = refl; shortest = λ other leads. not_none other q leads },
    λ away. elim (last_step Step start away.path q away.leads) [
      | inl one ↦ one.1
      | inr more ↦ (let n = not_none more.0 more.1 more.3 in let l = ap length more.2 ∙ length-behind more.0 q in let e = away.as_long in
          absurd (omega arith))
    ],
  )

  pub IsWithin-none : (done : ℕ) → done ≡ empty → IsWithin Step start 0 done
  IsWithin-none done none q =
      (λ h. absurd (no_member done q none h), λ path. let n = not_none path.0 q path.1 in let l = path.2 in absurd (omega arith))

  pub IsPast-none : (target : ℕ) → IsPast Step start target 0
  IsPast-none target = λ path h. not_none path h.0 h.1

  -- a path one longer than those of a set: its end is in the set, or as far away as the path is long
  away_or_done : (n done q : ℕ) → IsWithin Step start n done → (path : List ℕ) → IsPathFrom Step start path q → length path ≤ n + 1
      → IsTrue (has done q) ⊎ IsAway Step start (n + 1) q
  away_or_done n done q within path leads short = elim (cases_Bool (has done q)) [
    | inl here ↦ inl here
    | inr fresh ↦ (let longer : (other : List ℕ) → IsPathFrom Step start other q
        → n + 1 ≤ length other = λ other leads'. longer_by fresh other leads' in
        inr record { path = path; leads = leads; as_long = (let l = longer path leads in omega arith); shortest = longer })
  ]
    where
      longer_by : has done q ≡ false → (other : List ℕ) → IsPathFrom Step start other q → n + 1 ≤ length other
      longer_by fresh other leads' = elim (cases_lt n (length other)) [
        | inl lt ↦ omega arith
        | inr ge ↦ absurd (true≢false (sym ((within q).1 (other, leads', ge)) ∙ fresh))
      ]

  module _ (n level done : ℕ) (is_level : IsLevel Step start (n + 1) level) (within : IsWithin Step start n done) where
    -- what is within n, and the level after it
    pub IsWithin-more : (more : ℕ) → ((q : ℕ) → has more q ≡ (has done q || has level q)) → IsWithin Step start (n + 1) more
    IsWithin-more more joined q = (
      λ h. elim (or_cases (has done q) (has level q) (sym (joined q) ∙ h)) [
        | inl before ↦ (let path = (within q).0 before in (path.0, path.1, (let l = path.2 in omega arith)))
        | inr new ↦ (let away = (is_level q).0 new in (away.path, away.leads, (let l = away.as_long in omega arith)))
      ],
      λ path. elim (away_or_done n done q within path.0 path.1 path.2) [
        | inl before ↦ joined q ∙ or_left (has done q) (has level q) before
        | inr away ↦ joined q ∙ or_right (has done q) (has level q) ((is_level q).1 away)
      ],
    )

    -- where the level does not meet the target, each path into the target is longer
    pub IsPast-more : (target : ℕ) → IsPast Step start target n → (Meets level target → ⊥) → IsPast Step start target (n + 1)
    IsPast-more target past apart path h = elim (cases_lt (n + 1) (length path)) [
      | inl lt ↦ lt
      | inr ge ↦ (let l = past path h in absurd (apart (
        h.0,
        (is_level h.0).1 record {
          path = path;
          leads = h.1;
          as_long = omega arith;
          shortest = λ other leads. (let longer = past other (h.0, leads, h.2) in omega arith);
        },
        h.2,
      )))
    ]

    -- where the level meets the target, it is the first one that does
    pub IsFirstMet-here : (target : ℕ) → IsPast Step start target n → Meets level target → IsFirstMet Step start target (n + 1)
    IsFirstMet-here target past common = record {
      meets = (common.0, common.2, (is_level common.0).0 common.1);
      none_shorter = λ path h. (let longer = past path h in omega arith);
    }

    -- where the level is empty, paths lead to nothing more
    module _ (none : level ≡ empty) where
      closed : (path : List ℕ) (q : ℕ) → IsPathFrom Step start path q → length path ≤ n + 1 → IsTrue (has done q)
      closed path q leads short = elim (away_or_done n done q within path leads short) [
        | inl here ↦ here
        | inr away ↦ absurd (no_member level q none ((is_level q).1 away))
      ]

      follows : (p : ℕ) (rest : List ℕ) (q : ℕ) → IsTrue (has done p) → IsPath Step p rest q → IsTrue (has done q)
      follows p [] q h path = subst (λ (x : ℕ). IsTrue (has done x)) path h
      follows p (r ∷ rest) q h path =
          let before = (within p).0 h in
          follows r rest q (closed (before.0 ++ r ∷ []) r (IsPathFrom-push Step start before.0 p r before.1 path.0)
          (let l = length-behind before.0 r in let short = before.2 in omega arith)) path.1

      all_done : (path : List ℕ) (q : ℕ) → IsPathFrom Step start path q → IsTrue (has done q)
      all_done [] q path = absurd path
      all_done (p ∷ rest) q path = follows p rest q (closed (p ∷ []) p (path.0, refl) (omega arith)) path.1

      pub IsOutOfReach-end : (target : ℕ) → IsPast Step start target n → IsOutOfReach Step start target
      IsOutOfReach-end target past path h =
          let short = (within h.0).0 (all_done path h.0 h.1) in
          let long = past short.0 (h.0, short.1, h.2) in
          let l = short.2 in absurd (omega arith)

  -- the next level: where steps lead from a level, without what is within it
  pub IsLevel-next : (n level done after next : ℕ) → 0 < n → IsLevel Step start n level → IsWithin Step start n done
      → ((q : ℕ) → IsTrue (has after q) ↔ ((p : ℕ) × IsTrue (has level p) × Step p q))
      → ((q : ℕ) → has next q ≡ (has after q && not (has done q))) → IsLevel Step start (n + 1) next
  IsLevel-next n level done after next some is_level within is_after is_next q = (to, from)
    where
      to : IsTrue (has next q) → IsAway Step start (n + 1) q
      to h =
          let parts = and_parts (has after q) (not (has done q)) (sym (is_next q) ∙ h) in
          let step = (is_after q).0 parts.0 in
          let away = (is_level step.0).0 step.1 in
          elim (away_or_done n done q within (away.path ++ q ∷ []) (IsPathFrom-push Step start away.path step.0 q away.leads step.2)
          (let l = length-behind away.path q in let e = away.as_long in omega arith)) [
            | inl before ↦ absurd (true≢false (sym before ∙ not-true (has done q) parts.1))
            | inr far ↦ far
          ]

      fresh : IsAway Step start (n + 1) q → has done q ≡ false
      fresh away = elim (cases_Bool (has done q)) [
        | inl before ↦ (let path = (within q).0 before in let l = away.shortest path.0 path.1 in let m = path.2 in absurd (omega arith))
        | inr out ↦ out
      ]

      stepped : IsAway Step start (n + 1) q → IsTrue (has after q)
      stepped away = elim (last_step Step start away.path q away.leads) [
        | inl one ↦ (let l = ap length one.0 in let e = away.as_long in absurd (omega arith))
        | inr more ↦ (let l = ap length more.2 ∙ length-behind more.0 q in let e = away.as_long in
            (is_after q).1 (
              more.1,
              (is_level more.1).1 record {
                path = more.0;
                leads = more.3;
                as_long = omega arith;
                shortest = λ other leads. (let s = away.shortest (other ++ q ∷ [])
                    (IsPathFrom-push Step start other more.1 q leads more.4) in let m = length-behind other q in omega arith);
              },
              more.4,
            ))
      ]

      from : IsAway Step start (n + 1) q → IsTrue (has next q)
      from away = is_next q ∙ and_from (has after q) (not (has done q)) (stepped away) (not_from_false (has done q) (fresh away))

-- how far a processor is away: a shortest path repeats none of the processors, so it has no more than there are
module _ (s : State) (ok : IsState s) (direction : Direction) (start : ℕ) (below : (p : ℕ) → IsTrue (has start p) → p < s.processors) where
  shortest_fits : (path : List ℕ) (q : ℕ) → IsPathFrom (Steps s direction) start path q
      → ((other : List ℕ) → IsPathFrom (Steps s direction) start other q → length path ≤ length other) → length path ≤ s.processors
  shortest_fits [] q leads shortest = absurd leads
  shortest_fits (p ∷ rest) q leads shortest =
      length-simple s.processors (p ∷ rest)
      (shortest_is_simple (Steps s direction) (λ e. e ≡ q) p rest q refl leads.1
      (λ other e ends path. let l = shortest (p ∷ other) (leads.0, subst (λ (x : ℕ). IsPath (Steps s direction) p other x) ends path) in
      omega arith))
      (IsPathFrom-all_below s ok direction start (p ∷ rest) q below leads)

  pub IsAway-fits : (n q : ℕ) → IsAway (Steps s direction) start n q → n ≤ s.processors
  IsAway-fits n q away =
      let l = shortest_fits away.path q away.leads (λ other leads. let short = away.shortest other leads in let e = away.as_long in
      omega arith) in
      let e = away.as_long in omega arith

  pub IsAway-below : (n q : ℕ) → IsAway (Steps s direction) start n q → q < s.processors
  IsAway-below n q away = IsPathFrom-below s ok direction start away.path q below away.leads
