-- Where masks nest, a set of tasks that fits the nodes can be placed: the tasks are placed from the smallest mask to the
-- greatest. Of those placed before, only the tasks whose masks lie within that of the next one can be on its processors;
-- since the node of its mask fits, one of these processors is left. The converse holds of all masks.
use Rattle.std.proofs.Common.{◌≡◌, ◌≢◌, ℕ, zero, suc, ◌<◌, ◌≤◌, Bool, true, false, not, ◌&&◌, nat_eq, List, length, refl, sym, ap, ◌∙◌, inl}
use Rattle.std.proofs.Common.{inr, ◌⊎◌, IsTrue, arith, eq-eqb, ne_eqb, cond}
use Rattle.std.proofs.lemmas.Bool.{cases_Bool, cases_eq, cases_lt, and_parts, and_from, true≢false, cond-true, cond-false}
use Rattle.affinity_mask.specs.ProcSet.{has, members}
use Rattle.strong_apa.proofs.Counts.{count_below, count_below-one_more, count_below-injection, search_below}
use Rattle.strong_apa.specs.Placement.{TaskTest, IsSubset}
use Rattle.nested_masks.specs.Laminar.{mask_at, is_within, IsLaminar, FitsNodes}
use Rattle.nested_masks.specs.Counting.{IsPlaced}
use Rattle.nested_masks.proofs.Withins.{is_within-from, within_from, within_least, within_same, nests}
use Rattle.nested_masks.proofs.Held.{held, held-more, fits_smaller, without, joins_without}

-- the task with the greatest mask, by number, of the tasks below m in a set, or the set has none of them
record IsGreatest (masks : List ℕ) (tasks : TaskTest) (m t : ℕ) : Type 0 where
  number : t < m
  member : tasks t ≡ true
  greatest : (u : ℕ) → u < m → tasks u ≡ true → mask_at masks u ≤ mask_at masks t

greatest_below : (masks : List ℕ) (tasks : TaskTest) (m : ℕ) → ((t : ℕ) × IsGreatest masks tasks m t)
    ⊎ ((u : ℕ) → u < m → tasks u ≡ true → ⊥)
greatest_below masks tasks zero = inr (λ u lt. absurd (omega arith))
greatest_below masks tasks (suc m) = go (greatest_below masks tasks m) (cases_Bool (tasks m))
  where
    go : ((t : ℕ) × IsGreatest masks tasks m t) ⊎ ((u : ℕ) → u < m → tasks u ≡ true → ⊥) → (tasks m ≡ true) ⊎ (tasks m ≡ false)
        → ((t : ℕ) × IsGreatest masks tasks (suc m) t) ⊎ ((u : ℕ) → u < suc m → tasks u ≡ true → ⊥)
    go (inl found) (inl here) = elim (cases_lt (mask_at masks found.0) (mask_at masks m)) [
      | inl greater ↦ inl (
        m,
        record {
          number = omega arith;
          member = here;
          greatest = λ u lt h. elim (cases_eq u m) [
            | inl e ↦ rw e (omega arith)
            | inr ne ↦ let le = found.1.greatest u (omega arith) h in omega arith
          ];
        },
      )
      | inr le ↦ inl (
        found.0,
        record {
          number = let lt = found.1.number in omega arith;
          member = found.1.member;
          greatest = λ u lt h. elim (cases_eq u m) [
            | inl e ↦ rw e le
            | inr ne ↦ found.1.greatest u (omega arith) h
          ];
        },
      )
    ]
    go (inl found) (inr not_here) = inl (
      found.0,
      record {
        number = let lt = found.1.number in omega arith;
        member = found.1.member;
        greatest = λ u lt h. elim (cases_eq u m) [
          | inl e ↦ absurd (true≢false (sym h ∙ ap tasks e ∙ not_here))
          | inr ne ↦ found.1.greatest u (omega arith) h
        ];
      },
    )
    go (inr none) (inl here) = inl (
      m,
      record {
        number = omega arith;
        member = here;
        greatest = λ u lt h. elim (cases_eq u m) [
          | inl e ↦ rw e (omega arith)
          | inr ne ↦ absurd (none u (omega arith) h)
        ];
      },
    )
    go (inr none) (inr not_here) = inr (λ u lt h. elim (cases_eq u m) [
      | inl e ↦ true≢false (sym h ∙ ap tasks e ∙ not_here)
      | inr ne ↦ none u (omega arith) h
    ])

-- a number that passes is sent to p, or none is
pub hit_decided : (P : ℕ → Bool) (m : ℕ) (f : ℕ → ℕ) (p : ℕ) → ((u : ℕ) × (u < m) × ((P u ≡ true) × (f u ≡ p)))
    ⊎ ((u : ℕ) → u < m → (P u ≡ true) × (f u ≡ p) → ⊥)
hit_decided P m f p = search_below (λ u. (P u ≡ true) × (f u ≡ p)) m (λ u lt. elim (cases_Bool (P u)) [
  | inl h ↦ elim (cases_eq (f u) p) [
    | inl e ↦ inl (h, e)
    | inr ne ↦ inr (λ both. ne both.1)
  ]
  | inr h ↦ inr (λ both. true≢false (sym both.0 ∙ h))
])

module _ (P : ℕ → Bool) (m : ℕ) (f : ℕ → ℕ) where
  -- a number that is sent to p, where one is
  abbrev source_at : (p : ℕ) → ((u : ℕ) × (u < m) × ((P u ≡ true) × (f u ≡ p))) ⊎ ((u : ℕ) → u < m → (P u ≡ true) × (f u ≡ p) → ⊥) → ℕ
  source_at p (inl hit) = hit.0
  source_at p (inr missed) = 0

  abbrev source : ℕ → ℕ
  source p = source_at p (hit_decided P m f p)

  -- no number that passes is sent to p
  abbrev pub IsMissed : ℕ → Type 0
  IsMissed p = (u : ℕ) → u < m → P u ≡ true → f u ≡ p → ⊥

  module _ (X : ℕ) where
    free_decided : (p : ℕ) → p < 64 → (IsTrue (has X p) × IsMissed p) ⊎ (IsTrue (has X p) × IsMissed p → ⊥)
    free_decided p lt = elim (cases_Bool (has X p)) [
      | inl member ↦ elim (hit_decided P m f p) [
        | inl hit ↦ inr (λ both. both.1 hit.0 hit.1 hit.2.0 hit.2.1)
        | inr missed ↦ inl (member, λ u below h e. missed u below (h, e))
      ]
      | inr other ↦ inr (λ both. true≢false (sym both.0 ∙ other))
    ]

    module _ (none : (p : ℕ) → p < 64 → IsTrue (has X p) × IsMissed p → ⊥) where
      hits : (p : ℕ) → p < 64 → has X p ≡ true → (source p < m) × (P (source p) ≡ true) × (f (source p) ≡ p)
      hits p lt member = go (hit_decided P m f p)
        where
          go : (d : ((u : ℕ) × (u < m) × ((P u ≡ true) × (f u ≡ p))) ⊎ ((u : ℕ) → u < m → (P u ≡ true) × (f u ≡ p) → ⊥))
              → (source_at p d < m) × (P (source_at p d) ≡ true) × (f (source_at p d) ≡ p)
          go (inl hit) = (hit.1, hit.2.0, hit.2.1)
          go (inr missed) = absurd (none p lt (member, λ u below h e. missed u below (h, e)))

      too_few : length (members X) ≤ count_below P m
      too_few = count_below-injection (has X) 64 P m source record {
        below = λ p lt h. (hits p lt h).0;
        passes = λ p lt h. (hits p lt h).1;
        apart = λ p q lp lq hp hq e. sym ((hits p lp hp).2) ∙ ap f e ∙ (hits q lq hq).2;
      }

    -- fewer numbers pass than the set has members: some member has no number sent to it
    pub free_member : count_below P m < length (members X) → (p : ℕ) × IsTrue (has X p) × IsMissed p
    free_member fewer = elim (search_below (λ p. IsTrue (has X p) × IsMissed p) 64 free_decided) [
      | inl found ↦ (found.0, found.2.0, found.2.1)
      | inr none ↦ absurd (let le = too_few none in omega arith)
    ]

module _ (masks : List ℕ) (laminar : IsLaminar masks) where
  module _ (tasks : TaskTest) (numbers : (t : ℕ) → tasks t ≡ true → t < length masks) (t : ℕ)
      (first : IsGreatest masks tasks (length masks) t) (before : ℕ → ℕ) (placed : IsPlaced masks (without tasks t) before) (p : ℕ)
      (member : IsTrue (has (mask_at masks t) p)) (free : (u : ℕ) → u < length masks
      → (without tasks t u && is_within (mask_at masks u) (mask_at masks t)) ≡ true → before u ≡ p → ⊥) where
    -- the task with the greatest mask is placed last
    abbrev place_last : ℕ → ℕ
    place_last u = cond (nat_eq u t) p (before u)

    -- nobody placed before is on p
    nobody_there : (u : ℕ) → without tasks t u ≡ true → before u ≡ p → ⊥
    nobody_there u in_rest e =
        let in_tasks = (and_parts (tasks u) (not (nat_eq u t)) in_rest).0 in
        let number = numbers u in_tasks in
        let there : IsTrue (has (mask_at masks u) p) = rw (← e) (placed.allowed u in_rest) in
        elim (nests masks laminar u t number first.number (p, there, member)) [
          | inl inside ↦ free u number (and_from _ _ in_rest (is_within-from _ _ inside)) e
          | inr around ↦
              let le = within_least _ _ around in
              let ge = first.greatest u number in_tasks in
              let same : mask_at masks u ≡ mask_at masks t = omega arith in
              free u number (and_from _ _ in_rest (rw same (is_within-from _ _ (within_same (mask_at masks t))))) e
        ]

    in_rest_of : (u : ℕ) → tasks u ≡ true → u ≢ t → without tasks t u ≡ true
    in_rest_of u h ne = and_from _ _ h (rw (ne_eqb u t ne) refl)

    placed_last : IsPlaced masks tasks place_last
    placed_last = record {
      allowed = λ u h. elim (cases_eq u t) [
        | inl e ↦ rw (e, eq-eqb t t refl) member
        | inr ne ↦ rw (ne_eqb u t ne) (placed.allowed u (in_rest_of u h ne))
      ];
      apart = λ u v hu hv same. elim (cases_eq u t) [
        | inl eu ↦ elim (cases_eq v t) [
          | inl ev ↦ eu ∙ sym ev
          | inr nv ↦ absurd (nobody_there v (in_rest_of v hv nv) (sym (cond-false _ _ _ (ne_eqb v t nv)) ∙ sym same
              ∙ cond-true _ _ _ (eq-eqb u t eu)))
        ]
        | inr nu ↦ elim (cases_eq v t) [
          | inl ev ↦ absurd (nobody_there u (in_rest_of u hu nu)
              (sym (cond-false _ _ _ (ne_eqb u t nu)) ∙ same ∙ cond-true _ _ _ (eq-eqb v t ev)))
          | inr nv ↦ placed.apart u v (in_rest_of u hu nu) (in_rest_of v hv nv)
              (sym (cond-false _ _ _ (ne_eqb u t nu)) ∙ same ∙ cond-false _ _ _ (ne_eqb v t nv))
        ]
      ];
    }

  -- a set can be placed where it is so without one task, whichever that is
  place_one : (tasks : TaskTest) → ((t : ℕ) → tasks t ≡ true → t < length masks) → FitsNodes masks tasks
      → ((t : ℕ) → tasks t ≡ true → (place : ℕ → ℕ) × IsPlaced masks (without tasks t) place) → (place : ℕ → ℕ) × IsPlaced masks tasks place
  place_one tasks numbers fits rest = elim (greatest_below masks tasks (length masks)) [
    | inl found ↦
        let t = found.0 in
        let number = found.1.number in
        let before = rest t found.1.member in
        let more = held-more masks (without tasks t) t tasks (joins_without tasks t found.1.member) (mask_at masks t) number
        (within_same (mask_at masks t)) in
        let bound = fits (mask_at masks t) (t, number, refl) in
        let left = free_member (λ u. without tasks t u && is_within (mask_at masks u) (mask_at masks t)) (length masks) before.0
        (mask_at masks t) (omega arith) in (
          place_last tasks numbers t found.1 before.0 before.1 left.0 left.1 left.2,
          placed_last tasks numbers t found.1 before.0 before.1 left.0 left.1 left.2,
        )
    | inr none ↦ (
      λ u. 0,
      record {
        allowed = λ u h. absurd (none u (numbers u h) h);
        apart = λ u v hu hv e. absurd (none u (numbers u hu) hu);
      },
    )
  ]

  removed : (tasks : TaskTest) (t : ℕ) → t < length masks → tasks t ≡ true → count_below tasks (length masks)
      ≡ suc (count_below (without tasks t) (length masks))
  removed tasks t number member =
      let joins = joins_without tasks t member in
      count_below-one_more tasks (without tasks t) t (length masks) number member joins.before (λ u lt ne. joins.others u ne)

  without_subset : (tasks : TaskTest) (t : ℕ) → IsSubset (without tasks t) tasks
  without_subset tasks t u h = (and_parts (tasks u) (not (nat_eq u t)) h).0

  -- so many tasks that fit the nodes can be placed
  place_all : (n : ℕ) (tasks : TaskTest) → ((t : ℕ) → tasks t ≡ true → t < length masks) → count_below tasks (length masks) ≡ n
      → FitsNodes masks tasks → (place : ℕ → ℕ) × IsPlaced masks tasks place
  place_all zero tasks numbers count fits =
      place_one tasks numbers fits (λ t member. absurd (let more = removed tasks t (numbers t member) member in omega arith))
  place_all (suc n) tasks numbers count fits = place_one tasks numbers fits (λ t member.
      place_all n (without tasks t) (λ u h. numbers u (without_subset tasks t u h))
      (let more = removed tasks t (numbers t member) member in omega arith)
      (fits_smaller masks tasks (without tasks t) (without_subset tasks t) fits))

  -- a set of tasks that fits the nodes can be placed
  pub placed_by_counts : (tasks : TaskTest) → ((t : ℕ) → tasks t ≡ true → t < length masks) → FitsNodes masks tasks
      → (place : ℕ → ℕ) × IsPlaced masks tasks place
  placed_by_counts tasks numbers fits = place_all (count_below tasks (length masks)) tasks numbers refl fits

-- a set that is placed fits every set of processors
pub fits_placed : (masks : List ℕ) (tasks : TaskTest) (place : ℕ → ℕ) (X : ℕ) → ((p : ℕ) → IsTrue (has X p) → p < 64)
    → IsPlaced masks tasks place → held masks tasks X ≤ length (members X)
fits_placed masks tasks place X small placed = count_below-injection _ (length masks) (has X) 64 place record {
  below = λ t lt h. small (place t) (inside t h);
  passes = λ t lt h. inside t h;
  apart = λ t u lt lu ht hu e. placed.apart t u (and_parts _ _ ht).0 (and_parts _ _ hu).0 e;
}
  where
    inside : (t : ℕ) → (tasks t && is_within (mask_at masks t) X) ≡ true → has X (place t) ≡ true
    inside t h =
        let parts = and_parts (tasks t) (is_within (mask_at masks t) X) h in within_from _ _ parts.1 (place t) (placed.allowed t parts.0)
