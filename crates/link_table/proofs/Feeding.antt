-- Whether the occupant of a processor may run on another one, by a test and by the fact.
use Rattle.std.proofs.Common.{◌≡◌, ℕ, ◌<◌, ◌≤◌, Bool, true, false, not, ◌&&◌, ◌||◌, nat_eq, List, length, get_or, set, Option, Some, None}
use Rattle.std.proofs.Common.{refl, sym, ap, ◌∙◌, inl, inr, IsTrue, ◌↔◌, arith, eq-eqb, ne_eqb, if◌then◌else◌, ◌==◌, get_or-set_same}
use Rattle.std.proofs.Common.{get_or-set_other}
use Rattle.std.proofs.Math.Bool.{and-true, and-false}
use Rattle.std.proofs.lemmas.Bool.{cases_eq, and_parts, or_cases, true≢false, false≢true}
use Rattle.affinity_mask.specs.ProcSet.{has, empty}
use Rattle.affinity_mask.proofs.Sets.{has-zero, has-intersection}
use Rattle.strong_apa.specs.State.{State, IsState, task_on, effective_mask}
use Rattle.strong_apa.specs.Chain.{CanShift}
use Rattle.link_table.specs.Layout.{Layout, layout_of, mask_has, runs_on}
use Rattle.strong_apa.proofs.Masks.{effective_mask_below}

occupant_runs : (s : State) (q : ℕ) (o : Option ℕ) → runs_on (layout_of s) o q ≡ true
    → (u : ℕ) × (o ≡ Some u) × IsTrue (has (effective_mask s u) q)
occupant_runs s q None h = absurd (false≢true h)
occupant_runs s q (Some u) h = (u, refl, h)

-- whether the mask of an occupant has a processor depends on the masks alone
pub mask_has-same : (a b : Layout) → a.masks ≡ b.masks → (o : Option ℕ) (q : ℕ) → mask_has a o q ≡ mask_has b o q
mask_has-same a b masks None q = refl
mask_has-same a b masks (Some t) q = rw masks refl

-- the occupant may run there where that processor is on line too
runs_on-parts : (a : Layout) (o : Option ℕ) (q : ℕ) → runs_on a o q ≡ (mask_has a o q && has a.online q)
runs_on-parts a None q = refl
runs_on-parts a (Some t) q = has-intersection (get_or a.masks t empty) a.online q

pub runs_on-online : (a : Layout) (o : Option ℕ) (q : ℕ) → has a.online q ≡ true → mask_has a o q ≡ runs_on a o q
runs_on-online a o q online = sym (runs_on-parts a o q ∙ ap (λ b. mask_has a o q && b) online ∙ and-true (mask_has a o q))

-- and nobody may run on a processor that is off line
pub runs_on-offline : (a : Layout) (o : Option ℕ) (q : ℕ) → has a.online q ≡ false → false ≡ runs_on a o q
runs_on-offline a o q offline = sym (runs_on-parts a o q ∙ ap (λ b. mask_has a o q && b) offline ∙ and-false (mask_has a o q))

-- the set of all processors that pass the test
pub fed_from_test : (s : State) (found q : ℕ) → ((p : ℕ) → has found p ≡ runs_on (layout_of s) (task_on s p) q) → (p : ℕ)
    → IsTrue (has found p) ↔ CanShift s p q
fed_from_test s found q is p = (
  λ h. occupant_runs s q (task_on s p) (sym (is p) ∙ h),
  λ can. is p ∙ ap (λ (o : Option ℕ). runs_on (layout_of s) o q) can.1 ∙ can.2,
)

-- no occupant may run on a number that no processor has
pub nobody_feeds : (s : State) → IsState s → (found q : ℕ) → found ≡ empty → s.processors ≤ q → (p : ℕ)
    → IsTrue (has found p) ↔ CanShift s p q
nobody_feeds s ok found q none far p = (
  λ h. absurd (true≢false (sym h ∙ ap (λ (X : ℕ). has X p) none ∙ has-zero p)),
  λ can. absurd (let below = effective_mask_below s ok can.0 q can.2 in omega arith),
)

-- ---- the sets are written where the two masks differ
-- of each processor that is not in the rest the set is as it has to be, and that of each other one as it was
pub record IsFedSoFar (old : List ℕ) (p runs rest : ℕ) (now : List ℕ) : Type 0 where
  pub inside : (q : ℕ) → IsTrue (has rest q) → q < length old
  pub done : (q r : ℕ) → q < length old → has rest q ≡ false
      → has (get_or now q 0) r ≡ (if r == p then has runs q else has (get_or old q 0) r)
  pub left : (q : ℕ) → IsTrue (has rest q) → get_or now q 0 ≡ get_or old q 0

if_itself : (r p : ℕ) (b : Bool) (f : ℕ → Bool) → f p ≡ b → f r ≡ (if r == p then b else f r)
if_itself r p b f e = elim (cases_eq r p) [
  | inl same ↦ rw (same, eq-eqb p p refl) e
  | inr other ↦ rw (ne_eqb r p other) refl
]

-- where both masks have a processor, or neither, the set is right already
pub fed_first : (old : List ℕ) (p before runs one other rest : ℕ) → ((q : ℕ) → IsTrue (has before q) → q < length old)
    → ((q : ℕ) → IsTrue (has runs q) → q < length old)
    → ((q : ℕ) → q < length old → has (get_or old q 0) p ≡ has before q) → ((q : ℕ) → has one q ≡ (has before q && not (has runs q)))
    → ((q : ℕ) → has other q ≡ (has runs q && not (has before q)))
    → ((q : ℕ) → has rest q ≡ (has one q || has other q)) → IsFedSoFar old p runs rest old
fed_first old p before runs one other rest before_inside runs_inside as_before is_one is_other is_rest = record {
  inside = λ q h. elim (or_cases (has one q) (has other q) (sym (is_rest q) ∙ h)) [
    | inl a ↦ before_inside q ((and_parts (has before q) (not (has runs q)) (sym (is_one q) ∙ a)).0)
    | inr b ↦ runs_inside q ((and_parts (has runs q) (not (has before q)) (sym (is_other q) ∙ b)).0)
  ];
  done = λ q r lt out. if_itself r p (has runs q) (λ n. has (get_or old q 0) n)
      (as_before q lt ∙ same (has before q) (has runs q) (sym (rw (is_rest q, is_one q, is_other q) at out)));
  left = λ q h. refl;
}
  where
    same : (a b : Bool) → false ≡ ((a && not b) || (b && not a)) → a ≡ b
    same true true e = refl
    same true false e = absurd (false≢true e)
    same false true e = absurd (false≢true e)
    same false false e = refl

pub fed_more : (old : List ℕ) (p runs rest : ℕ) (now : List ℕ) → IsFedSoFar old p runs rest now → length now ≡ length old
    → (q item later : ℕ) → IsTrue (has rest q) → ((r : ℕ) → has item r ≡ (if r == p then has runs q else has (get_or now q 0) r))
    → ((k : ℕ) → has later k ≡ (has rest k && not (nat_eq k q))) → IsFedSoFar old p runs later (set now q item)
fed_more old p runs rest now so_far count q item later there is_item fewer = record {
  inside = λ k h. so_far.inside k (before k h);
  done = λ k r lt out. elim (cases_eq k q) [
    | inl e ↦ rw e (ap (λ n. has n r) (get_or-set_same now q item 0 (let within = so_far.inside q there in omega arith)) ∙ is_item r
        ∙ ap (λ n. if r == p then has runs q else has n r) (so_far.left q there))
    | inr ne ↦ ap (λ n. has n r) (get_or-set_other now q k item 0 ne)
        ∙ so_far.done k r lt (sym (and-true (has rest k)) ∙ ap (λ b. has rest k && not b) (sym (ne_eqb k q ne)) ∙ sym (fewer k) ∙ out)
  ];
  left = λ k h. elim (cases_eq k q) [
    | inl e ↦ absurd (true≢false (sym h ∙ fewer k ∙ ap (λ b. has rest k && not b) (eq-eqb k q e) ∙ and-false (has rest k)))
    | inr ne ↦ get_or-set_other now q k item 0 ne ∙ so_far.left k (before k h)
  ];
}
  where
    before : (k : ℕ) → IsTrue (has later k) → IsTrue (has rest k)
    before k h = (and_parts (has rest k) (not (nat_eq k q)) (sym (fewer k) ∙ h)).0

pub fed_whole : (old : List ℕ) (p runs rest : ℕ) (now : List ℕ) → rest ≡ empty → IsFedSoFar old p runs rest now → (q r : ℕ) → q < length old
    → has (get_or now q 0) r ≡ (if r == p then has runs q else has (get_or old q 0) r)
fed_whole old p runs rest now none so_far q r lt = so_far.done q r lt (ap (λ n. has n q) none ∙ has-zero q)
