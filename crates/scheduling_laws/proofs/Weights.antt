-- Weights are taken off in layers of one: those that weigh something are the tasks up to a bound, and there the linked tasks keep up.
use Rattle.std.proofs.Common.{◌≡◌, ℕ, zero, suc, ◌+◌, ◌-◌, ◌<◌, ◌≤◌, Bool, true, false, ◌&&◌, ◌⊎◌, [], sum_by, nat_le, nat_lt, refl, sym}
use Rattle.std.proofs.Common.{ap, ◌∙◌, inl, inr, arith}
use Rattle.std.proofs.lemmas.Bool.{cases_Bool, cases_lt, cases_eq, true≢false, and_from, and_left, and_right, le-leb, lt-leb, lt-ltb}
use Rattle.std.proofs.lemmas.Bool.{le-ltb}
use Rattle.std.proofs.lemmas.List.Sums.{sum_by_push}
use Rattle.std.proofs.lemmas.Option.{same_Some}
use Rattle.affinity_mask.specs.ProcSet.{passing_below}
use Rattle.affinity_mask.proofs.Lists.{passing_more, passing_same}
use Rattle.strong_apa.specs.State.{State, IsState, task_count, is_ready, is_linked, priority_of}
use Rattle.strong_apa.specs.History.{state_at}
use Rattle.strong_apa.specs.Placement.{TaskTest, IsSubset, IsPlaceable, IsBetter}
use Rattle.strong_apa.specs.Ranks.{KeepsUp}
use Rattle.strong_apa.specs.Certified.{HasCertificates}
use Rattle.strong_apa.proofs.Counts.{count_below, count_below-zero, count_below-more, count_below-same, count_below-agree}
use Rattle.strong_apa.proofs.FirstFound.{first_below}
use Rattle.strong_apa.proofs.Fullness.{linked_keeps_up}
use Rattle.strong_apa.proofs.Kept.{legal_is_certified, passing_is_certified}
use Rattle.strong_apa.proofs.Least.{Decided}
use Rattle.strong_apa.proofs.Linked.{place_in, task_on-linked}
use Rattle.strong_apa.proofs.Unique.{ready_number}
use Rattle.scheduling_laws.proofs.Faces.{best_is_certified}
use Rattle.scheduling_laws.proofs.GoingSums.{one_if}
use Rattle.scheduling_laws.specs.Weights.{FallsWithUrgency, weight_of, LinkedWeighsMost, LegalWeighsMost, PassingWeighsMost, BestWeighsMost}
use Rattle.strong_apa.proofs.Best.{better_has_more}

passing_none : (test : ℕ → Bool) → passing_below test 0 ≡ []
unfolding passing_below
passing_none test = refl

-- a sum that is one more at each number that passes another test
pub sum_step : (test more : ℕ → Bool) (f g : ℕ → ℕ) (n : ℕ) → ((u : ℕ) → u < n → test u ≡ true → more u ≡ true → g u ≡ suc (f u))
    → ((u : ℕ) → u < n → test u ≡ true → more u ≡ false → g u ≡ f u)
    → sum_by g (passing_below test n) ≡ sum_by f (passing_below test n) + count_below (λ u. test u && more u) n
sum_step test more f g zero up same = rw (passing_none test, count_below-zero (λ u. test u && more u)) (omega arith)
sum_step test more f g (suc n) up same =
    let rest = sum_step test more f g n (λ u lt. up u (omega arith)) (λ u lt. same u (omega arith)) in
    elim (cases_Bool (test n)) [
      | inr out ↦ (
          let a = ap (sum_by g) (passing_same test n out) in
          let b = ap (sum_by f) (passing_same test n out) in
          let none = count_below-same (λ u. test u && more u) n (and_left (test n) (more n) out) in
          omega arith)
      | inl member ↦ (
          let a = ap (sum_by g) (passing_more test n member) ∙ sum_by_push g (passing_below test n) n in
          let b = ap (sum_by f) (passing_more test n member) ∙ sum_by_push f (passing_below test n) n in
          elim (cases_Bool (more n)) [
            | inl does ↦ (
                let one = count_below-more (λ u. test u && more u) n (and_from _ _ member does) in
                let here = up n (omega arith) member does in
                omega arith)
            | inr does_not ↦ (
                let none = count_below-same (λ u. test u && more u) n (and_right (test n) (more n) does_not) in
                let here = same n (omega arith) member does_not in
                omega arith)
          ])
    ]

sum_none : (test : ℕ → Bool) (f : ℕ → ℕ) (n : ℕ) → ((u : ℕ) → u < n → f u ≡ 0) → sum_by f (passing_below test n) ≡ 0
sum_none test f zero none = rw (passing_none test) (omega arith)
sum_none test f (suc n) none =
    let rest = sum_none test f n (λ u lt. none u (omega arith)) in
    elim (cases_Bool (test n)) [
      | inr out ↦ ap (sum_by f) (passing_same test n out) ∙ rest
      | inl member ↦ (
          let a = ap (sum_by f) (passing_more test n member) ∙ sum_by_push f (passing_below test n) n in
          let here = none n (omega arith) in
          omega arith)
    ]

pub sum_no_more : (test : ℕ → Bool) (f g : ℕ → ℕ) (n : ℕ) → ((u : ℕ) → u < n → f u ≤ g u)
    → sum_by f (passing_below test n) ≤ sum_by g (passing_below test n)
sum_no_more test f g zero each = rw (passing_none test) (omega arith)
sum_no_more test f g (suc n) each =
    let rest = sum_no_more test f g n (λ u lt. each u (omega arith)) in
    elim (cases_Bool (test n)) [
      | inr out ↦ rw (passing_same test n out) rest
      | inl member ↦ (
          let a = ap (sum_by f) (passing_more test n member) ∙ sum_by_push f (passing_below test n) n in
          let b = ap (sum_by g) (passing_more test n member) ∙ sum_by_push g (passing_below test n) n in
          let here = each n (omega arith) in
          omega arith)
    ]

module _ (s : State) (ok : IsState s) (A B : TaskTest) (keeps : KeepsUp s A B) where
  abbrev weighs : (ℕ → ℕ) → ℕ → Bool
  weighs weight t = nat_lt 0 (weight t)

  decided : (weight : ℕ → ℕ) (t : ℕ) → Decided (0 < weight t)
  decided weight t = elim (cases_lt 0 (weight t)) [ inl lt ↦ inl lt | inr le ↦ inr (λ lt. omega arith) ]

  either : (x y : ℕ) → (priority_of s y ≤ priority_of s x) ⊎ (priority_of s x ≤ priority_of s y)
  either x y = elim (cases_lt (priority_of s x) (priority_of s y)) [ inl lt ↦ inr (omega arith) | inr ge ↦ inl ge ]

  -- of the tasks that weigh something no fewer are in A
  layer : (weight : ℕ → ℕ) → FallsWithUrgency s weight
      → count_below (λ t. B t && weighs weight t) (task_count s) ≤ count_below (λ t. A t && weighs weight t) (task_count s)
  layer weight falls = elim (first_below (λ t. 0 < weight t) (decided weight) (λ x y. priority_of s y ≤ priority_of s x) either
      (λ x y z a b. omega arith) (task_count s)) [
        | inl found ↦ (
            let same : (t : ℕ) → t < task_count s → weighs weight t
            ≡ nat_le (priority_of s t) (priority_of s found.0) = upto found.0 found.1 found.2 found.3 in
            let a = count_below-agree (λ t. A t && weighs weight t) (λ t. A t && nat_le (priority_of s t) (priority_of s found.0))
            (task_count s) (λ t lt. ap (λ (b : Bool). A t && b) (same t lt)) in
            let b = count_below-agree (λ t. B t && weighs weight t) (λ t. B t && nat_le (priority_of s t) (priority_of s found.0))
            (task_count s) (λ t lt. ap (λ (b : Bool). B t && b) (same t lt)) in
            let up = keeps (priority_of s found.0) in
            omega arith)
        | inr none ↦ (
            let off : (T : TaskTest) (t : ℕ) → t < task_count s
            → (T t && weighs weight t) ≡ false = λ T t lt. and_right (T t) (weighs weight t)
            (le-ltb _ _ (elim (cases_lt 0 (weight t)) [ inl some ↦ absurd (none t lt some) | inr le ↦ le ])) in
            let e = count_below-agree (λ t. B t && weighs weight t) (λ t. A t && weighs weight t) (task_count s) (λ t lt. off B t lt
            ∙ sym (off A t lt)) in
            omega arith)
      ]
    where
      upto : (last : ℕ) → last < task_count s → 0 < weight last → ((y : ℕ) → y < task_count s → 0 < weight y
          → priority_of s y ≤ priority_of s last)
          → (t : ℕ) → t < task_count s → nat_lt 0 (weight t) ≡ nat_le (priority_of s t) (priority_of s last)
      upto last inside some latest t lt = elim (cases_lt (priority_of s last) (priority_of s t)) [
        | inl later ↦ elim (cases_lt 0 (weight t)) [
          | inl also ↦ absurd (let le = latest t lt also in omega arith)
          | inr none ↦ le-ltb _ _ none ∙ sym (lt-leb _ _ later)
        ]
        | inr le ↦ elim (cases_eq (priority_of s t) (priority_of s last)) [
          | inl e ↦ (let same = ap weight (ok.distinct t last lt inside e) in lt-ltb _ _ (omega arith) ∙ sym (le-leb _ _ le))
          | inr ne ↦ (let more = falls t last lt inside (omega (arith, ne)) in lt-ltb _ _ (omega arith) ∙ sym (le-leb _ _ le))
        ]
      ]

  -- A weighs no less, where no task weighs more than n
  weighs_most : (n : ℕ) (weight : ℕ → ℕ) → FallsWithUrgency s weight → ((t : ℕ) → t < task_count s → weight t ≤ n)
      → weight_of s weight B ≤ weight_of s weight A
  weighs_most zero weight falls light =
      let b = sum_none B weight (task_count s) (λ t lt. let le = light t lt in omega arith) in
      omega arith
  weighs_most (suc n) weight falls light =
      let rest = weighs_most n (λ t. weight t - 1) (λ t u lt lu urgent. let le = falls t u lt lu urgent in omega arith)
      (λ t lt. let le = light t lt in omega arith) in
      let a = sum_step A (weighs weight) (λ t. weight t - 1) weight (task_count s)
      (λ t lt member does. let some = ltb-pos (weight t) does in omega arith)
      (λ t lt member does_not. let none = ltb-none (weight t) does_not in omega arith) in
      let b = sum_step B (weighs weight) (λ t. weight t - 1) weight (task_count s)
      (λ t lt member does. let some = ltb-pos (weight t) does in omega arith)
      (λ t lt member does_not. let none = ltb-none (weight t) does_not in omega arith) in
      let top = layer weight falls in
      omega arith
    where
      ltb-pos : (x : ℕ) → nat_lt 0 x ≡ true → 0 < x
      ltb-pos x h = elim (cases_lt 0 x) [ inl lt ↦ lt | inr le ↦ absurd (true≢false (sym h ∙ le-ltb _ _ le)) ]

      ltb-none : (x : ℕ) → nat_lt 0 x ≡ false → x ≡ 0
      ltb-none x h = elim (cases_lt 0 x) [ inl lt ↦ absurd (true≢false (sym (lt-ltb _ _ lt) ∙ h)) | inr le ↦ omega arith ]

-- some number is as large as each weight
heaviest : (weight : ℕ → ℕ) (n : ℕ) → (most : ℕ) × ((t : ℕ) → t < n → weight t ≤ most)
heaviest weight zero = (0, λ t lt. absurd (omega arith))
heaviest weight (suc n) =
    let before = heaviest weight n in (
      before.0 + weight n,
      λ t lt. elim (cases_eq t n) [
        | inl e ↦ (let same = ap weight e in omega arith)
        | inr ne ↦ (let le = before.1 t (omega (arith, ne)) in omega arith)
      ],
    )

linked_weighs_most : (s : State) → IsState s → HasCertificates s → LinkedWeighsMost s
linked_weighs_most s ok certificates weight other falls subset placeable =
    let most = heaviest weight (task_count s) in
    weighs_most s ok (is_linked s) other (linked_keeps_up s ok certificates other subset placeable) most.0 weight falls most.1

-- ---- and where they weigh most, they are the best: a better set would weigh more, were the weights 1 up to the task that decides, and 0
-- after it
module _ (s : State) (ok : IsState s) (most : LinkedWeighsMost s) (B : TaskTest) (better : IsBetter s B (is_linked s))
    (number : better.task < task_count s) where
  abbrev as_urgent : ℕ → Bool
  as_urgent t = nat_le (priority_of s t) (priority_of s better.task)

  abbrev weight : ℕ → ℕ
  weight t = one_if (nat_le (priority_of s t) (priority_of s better.task))

  weight_falls : FallsWithUrgency s weight
  weight_falls t u lt lu urgent = elim (cases_lt (priority_of s better.task) (priority_of s u)) [
    | inl later ↦ rw (lt-leb _ _ later) (omega arith)
    | inr le ↦ (let here : nat_le (priority_of s t) (priority_of s better.task) ≡ true = le-leb _ _ (omega arith) in
        rw (le-leb _ _ le, here) (omega arith))
  ]

  weighs_count : (A : TaskTest)
      → weight_of s weight A ≡ count_below (λ t. A t && nat_le (priority_of s t) (priority_of s better.task)) (task_count s)
  weighs_count A =
      let step = sum_step A as_urgent (λ t. 0) weight (task_count s) (λ t lt member here. ap one_if here)
      (λ t lt member here. ap one_if here) in
      let none = sum_none A (λ t. 0) (task_count s) (λ t lt. refl) in
      omega arith

  weighs_more : IsSubset B (is_ready s) → IsPlaceable s B → ⊥
  weighs_more subset placeable =
      let one_more = better_has_more s ok B (is_linked s) better number in
      let a = weighs_count B in
      let b = weighs_count (is_linked s) in
      let weighs = most weight B weight_falls subset placeable in
      omega arith

pub best_weighs_most : BestWeighsMost
best_weighs_most s ok = (
  λ best. linked_weighs_most s ok ((best_is_certified s ok).0 best),
  λ most. record {
    subset = λ t linked. ok.linked_ready (place_in t s.on) t (task_on-linked s t linked);
    placeable = (
      (λ t. place_in t s.on),
      record {
        allowed = λ t linked. ok.allowed (place_in t s.on) t (task_on-linked s t linked);
        apart = λ t u ht hu e. same_Some t u (sym (task_on-linked s t ht) ∙ (rw e (task_on-linked s u hu)));
      },
    );
    none_better = λ B subset placeable better. weighs_more s ok most B better
        (ready_number s ok better.task (subset better.task better.in_first)) subset placeable;
  },
)

-- ---- after every entry
pub legal_weighs_most : LegalWeighsMost
legal_weighs_most set history n valid legal within =
    let kept = legal_is_certified set valid history legal n within in linked_weighs_most (state_at set history n) kept.0 kept.1

pub passing_weighs_most : PassingWeighsMost
passing_weighs_most set history n valid passing within =
    let kept = passing_is_certified set valid history passing n within in linked_weighs_most (state_at set history n) kept.0 kept.1
