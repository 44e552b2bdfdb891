-- One more task of a scan, and what a scan of all tasks has found.
use Rattle.std.proofs.Common.{◌≡◌, ℕ, ◌+◌, ◌<◌, Bool, true, false, ◌&&◌, List, length, IsTrue, refl, sym, ap, ◌∙◌, inl, inr, ◌↔◌, not}
use Rattle.std.proofs.Common.{arith, add-one, below_more}
use Rattle.std.proofs.lemmas.Bool.{cases_Bool, cases_order, and_from, and_parts, true≢false}
use Rattle.affinity_mask.specs.ProcSet.{empty, Within}
use Rattle.affinity_mask.proofs.Meetings.{no_member}
use Rattle.strong_apa.proofs.Counts.{count_below, count_below-more, count_below-same}
use Rattle.nested_masks.specs.Laminar.{Cross, IsLaminar, IsFirstCrossing, is_within, mask_at}
use Rattle.nested_masks.specs.NestedData.{NestedData, IsCounted, IsUrgenter, ready_of, linked_of, mask_in, priority_in}
use Rattle.nested_masks.specs.LaminarStep.{IsLeastUrgentIn, AllUrgenterIn, MayEnter}
use Rattle.nested_masks.specs.Scans.{CrossesNone, IsFirstCrossed, IsLeader, IsTightAround, IsHeldIn, IsNoMoreUrgent, IsTightUnion}
use Rattle.nested_masks.proofs.Withins.{is_within-from, within_from, within_same}
use Rattle.nested_masks.proofs.Changes.{linked_number}
use Rattle.nested_masks.proofs.Covered.{free_outside, outside_free}
use Rattle.nested_masks.proofs.Kept.{nodes_nest}

-- a test that is given by a fact counts one more where it holds, and no more where it does not
pub held_one_more : (tasks : ℕ → Bool) (mask X t count : ℕ) (masks : ℕ → ℕ) → masks t ≡ mask
    → count ≡ count_below (λ u. tasks u && is_within (masks u) X) t → (tasks t ≡ true) × Within mask X
    → count + 1 ≡ count_below (λ u. tasks u && is_within (masks u) X) (t + 1)
held_one_more tasks mask X t count masks is_mask so_far here =
    let passes : (tasks t && is_within (masks t) X) ≡ true = and_from _ _ here.0 (rw is_mask (is_within-from _ _ here.1)) in
    rw (add-one, add-one, count_below-more (λ u. tasks u && is_within (masks u) X) t passes, so_far) refl

pub held_no_more : (tasks : ℕ → Bool) (mask X t count : ℕ) (masks : ℕ → ℕ) → masks t ≡ mask
    → count ≡ count_below (λ u. tasks u && is_within (masks u) X) t → ((tasks t ≡ true) × Within mask X → ⊥)
    → count ≡ count_below (λ u. tasks u && is_within (masks u) X) (t + 1)
held_no_more tasks mask X t count masks is_mask so_far not_here = elim (cases_Bool (tasks t && is_within (masks t) X)) [
  | inl h ↦ let parts =
      and_parts (tasks t) (is_within (masks t) X) h in absurd (not_here (parts.0, rw (← is_mask) (within_from _ _ parts.1)))
  | inr h ↦ rw (add-one, count_below-same (λ u. tasks u && is_within (masks u) X) t h, so_far) refl
]

-- ---- masks that cross
pub crosses_back : (masks : List ℕ) (t u : ℕ) → Cross masks t u → Cross masks u t
crosses_back masks t u cross = record {
  meet = (cross.meet.0, cross.meet.2, cross.meet.1);
  not_within = cross.not_around;
  not_around = cross.not_within;
}

-- no mask crosses one after it
pub laminar_from : (masks : List ℕ) → ((t : ℕ) → t < length masks → CrossesNone masks t) → IsLaminar masks
laminar_from masks none t u lt lu cross = elim (cases_order t u) [
  | inl e ↦ cross.not_within (rw e (within_same (mask_at masks u)))
  | inr (inl before) ↦ none t lt u before lu cross
  | inr (inr after) ↦ none u lu t after lt (crosses_back masks t u cross)
]

-- of the first task whose mask crosses one after it, the first such one
pub first_pair : (masks : List ℕ) (one other : ℕ) → ((t : ℕ) → t < one → CrossesNone masks t) → IsFirstCrossed masks one other
    → IsFirstCrossing masks one other
first_pair masks one other before found = record {
  ordered = found.ordered;
  number = found.number;
  cross = found.cross;
  first = λ t u order number cross. elim (cases_order t one) [
    | inl e ↦ inr (
      sym e,
      elim (cases_order u other) [
        | inl same ↦ omega arith
        | inr (inl lower) ↦ absurd (found.first u (rw (← e) order) lower (rw e at cross))
        | inr (inr higher) ↦ omega arith
      ],
    )
    | inr (inl lower) ↦ absurd (before t lower u order number cross)
    | inr (inr higher) ↦ inl higher
  ];
}

-- ---- one task more of a scan for a leader, where it leads the one that led
module _ (Passes : ℕ → Type 0) (Leads : ℕ → ℕ → Type 0) (m : ℕ) where
  pub scan_passed : (w : ℕ) → Leads m m → Passes m → ((v : ℕ) → Leads w v → Leads m v) → IsLeader Passes Leads m w
      → IsLeader Passes Leads (m + 1) m
  scan_passed w itself here over before = record {
    number = omega arith;
    passes = here;
    leads = below_more _ _ (λ v lt passed. over v (before.leads v lt passed)) (λ passed. itself);
  }

-- ---- the processors of the tight nodes
pub union_none : (n : NestedData) (X : ℕ) → X ≡ empty → IsTightUnion n 0 X
union_none n X none = record {
  inside = λ p member. absurd (no_member X p none member);
  around = λ u lt. absurd (omega arith);
}

-- ---- what is found in the end
module _ (n : NestedData) (ok : IsCounted n) where
  -- a waiting task may enter where its mask has a processor of no tight node
  pub enters_where : (w tight : ℕ) → w < length n.priorities → IsTightUnion n (length n.priorities) tight
      → ready_of n w ≡ true → linked_of n w ≡ false → (inside : Bool) → IsTrue inside ↔ Within (mask_in n w) tight
      → IsTrue (not inside) ↔ MayEnter n w
  enters_where w tight number union ready not_linked true is = (
    λ h. absurd (true≢false (sym h)),
    λ enter. absurd (free_outside n ok w tight number union enter.free (is.0 refl)),
  )
  enters_where w tight number union ready not_linked false is = (
    λ h. record {
      waits = record { ready = ready; not_linked = not_linked };
      free = outside_free n ok (mask_in n w) tight union (λ within. true≢false (sym (is.1 within)));
    },
    λ enter. refl,
  )

  -- a tight node that the smallest one so far does not lie in lies in it
  pub node_within : (t u best : ℕ) → t < length n.priorities → IsTightAround n (mask_in n t) u
      → IsTightAround n (mask_in n t) best → (Within (mask_in n best) (mask_in n u) → ⊥) → Within (mask_in n u) (mask_in n best)
  node_within t u best number here there not_within =
      elim (nodes_nest n ok t (mask_in n u) (mask_in n best) number here.0.node there.0.node here.1 there.1) [
        | inl within ↦ within
        | inr around ↦ absurd (not_within around)
      ]

  -- ---- who is displaced
  pub least_held : (node d : ℕ) → IsLeader (IsHeldIn n node) (IsNoMoreUrgent n) (length n.priorities) d
      → IsLeastUrgentIn n node d
  least_held node d leader = record {
    linked = leader.passes.0;
    within = leader.passes.1;
    least_urgent = λ u h within. leader.leads u (linked_number n ok u h) (h, within);
  }

  pub none_displaced : (node t : ℕ) → ((u : ℕ) → u < length n.priorities → IsHeldIn n node u → ⊥)
      → AllUrgenterIn n node t
  none_displaced node t none = λ u h within. absurd (none u (linked_number n ok u h) (h, within))

  pub not_displaced : (node t d : ℕ) → t < length n.priorities → ready_of n t ≡ false → IsLeastUrgentIn n node d
      → (IsUrgenter n t d → ⊥) → AllUrgenterIn n node t
  not_displaced node t d number absent found not_urgent = λ u h within. elim (cases_order (priority_in n u) (priority_in n t)) [
    | inl same ↦
        let itself = ok.state.distinct u t (linked_number n ok u h) number same in
        absurd (true≢false (sym (ok.linked_ready u h) ∙ ap (ready_of n) itself ∙ absent))
    | inr (inl urgent) ↦ urgent
    | inr (inr later) ↦ absurd (not_urgent (let le = found.least_urgent u h within in omega arith))
  ]
