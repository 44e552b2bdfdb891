-- Tasks that are found by their numbers, and then sorted by urgency.
use Rattle.std.proofs.Common.{◌≡◌, ◌≢◌, ℕ, ◌+◌, ◌<◌, Bool, true, false, List, [], ◌∷◌, ◌++◌, length, get_or, eqb, sym, ap, ◌∙◌, subst, inl}
use Rattle.std.proofs.Common.{inr, arith, eq-eqb, ne_eqb}
use Rattle.std.specs.Prelude.{All, Contains, IsTrue, slice_index}
use Rattle.std.specs.List.{IsDistinct}
use Rattle.std.specs.List.Sorted.{IsPermutation, IsNonDecreasingBy}
use Rattle.std.proofs.lemmas.Bool.{cases_eq, true≢false}
use Rattle.std.proofs.lemmas.List.{length-map}
use Rattle.std.proofs.lemmas.List.Elements.{All-nil, All-push, All-weaker, All-get_or, All-take, Contains-push, Contains-append_left}
use Rattle.std.proofs.lemmas.List.Quantifiers.{all_pairs_push}
use Rattle.std.proofs.lemmas.List.Sorted.{All-permutation, Contains-permutation}
use Rattle.std.proofs.lemmas.Map.Keys.{IsDistinct-from_apart, IsDistinct-IsPermutation, apart_from_distinct}
use Rattle.task_set.specs.TaskSet.{SetData, TaskData, IsTaskSet, priorities}
use Rattle.strong_apa.proofs.Start.{IsState-start}
use Rattle.schedule_picture.specs.declared.span.Span.{Span}
use Rattle.schedule_picture.specs.declared.window.Window.{Window}
use Rattle.schedule_picture.specs.Listing.{AreByUrgency, AreFoundBelow, IsListing, is_ready_in, waits_in}

module _ (passes : ℕ → Bool) where
  -- ---- task by task
  pub found_none : AreFoundBelow passes 0 []
  found_none = record {
    each = All-nil (λ t. (t < 0) × IsTrue (passes t));
    all = λ t lt. absurd (omega arith);
    rising = λ i j d lt below. absurd (omega (arith, below));
  }

  -- what passes below a number passes below the next one
  weaker : (b : ℕ) (tasks : List ℕ) → All (λ t. (t < b) × IsTrue (passes t)) tasks → All (λ t. (t < b + 1) × IsTrue (passes t)) tasks
  weaker b tasks each =
      All-weaker (λ t. (t < b) × IsTrue (passes t)) (λ t. (t < b + 1) × IsTrue (passes t)) (λ t h. (omega (arith, h.0), h.1)) tasks each

  pub found_more : (b : ℕ) (tasks next : List ℕ) → AreFoundBelow passes b tasks → passes b ≡ true → next ≡ tasks ++ b ∷ []
      → AreFoundBelow passes (b + 1) next
  found_more b tasks next found passed pushed = subst (AreFoundBelow passes (b + 1)) (sym pushed) (record {
    each = All-push (λ t. (t < b + 1) × IsTrue (passes t)) tasks b (weaker b tasks found.each) (omega arith, passed);
    all = λ t lt pass. elim (cases_eq t b) [
      | inl same ↦ subst (λ (u : ℕ). Contains (tasks ++ b ∷ []) u) (sym same) (Contains-push tasks b)
      | inr other ↦ Contains-append_left tasks (b ∷ []) t (found.all t (omega arith) pass)
    ];
    rising = all_pairs_push (λ t u. t < u) tasks b found.rising
        (λ k d lt. (All-get_or (λ t. (t < b) × IsTrue (passes t)) tasks k d lt found.each).0);
  })

  pub found_same : (b : ℕ) (tasks : List ℕ) → AreFoundBelow passes b tasks → passes b ≡ false → AreFoundBelow passes (b + 1) tasks
  found_same b tasks found failed = record {
    each = weaker b tasks found.each;
    all = λ t lt pass. elim (cases_eq t b) [
      | inl same ↦ absurd (true≢false (sym pass ∙ ap passes same ∙ failed))
      | inr other ↦ found.all t (omega arith) pass
    ];
    rising = found.rising;
  }

-- ---- by urgency
-- of two tasks that stand at two places the priorities differ
module _ (set : SetData) (ok : IsTaskSet set) (passes : ℕ → Bool) (found sorted : List ℕ)
    (below : AreFoundBelow passes (length set.tasks) found) (moved : IsPermutation found sorted) where
  eqb_flips : (x y : ℕ) → eqb x y ≡ eqb y x
  eqb_flips x y = elim (cases_eq x y) [
    | inl same ↦ eq-eqb x y same ∙ sym (eq-eqb y x (sym same))
    | inr other ↦ ne_eqb x y other ∙ sym (ne_eqb y x (λ same. other (sym same)))
  ]

  once : (i j d : ℕ) → i < j → j < length sorted → get_or sorted i d ≢ get_or sorted j d
  once i j d less lt same =
      let first : IsDistinct eqb found = IsDistinct-from_apart eqb found
      (λ i j e less fits. let rises = below.rising i j e less fits in ne_eqb _ _ (λ same. absurd (omega arith))) in
      let later : IsDistinct eqb sorted = IsDistinct-IsPermutation eqb eqb_flips found sorted moved first in
      true≢false (sym (eq-eqb _ _ same) ∙ apart_from_distinct eqb sorted i j d later less lt)

  each_sorted : All (λ t. (t < length set.tasks) × IsTrue (passes t)) sorted
  each_sorted = All-permutation (λ t. (t < length set.tasks) × IsTrue (passes t)) found sorted moved below.each

  pub by_urgency_of : IsNonDecreasingBy (λ t. slice_index (priorities set) t) sorted → AreByUrgency set passes sorted
  by_urgency_of up = record {
    each = each_sorted;
    all = λ t lt pass. Contains-permutation found sorted t moved (below.all t lt pass);
    by_urgency = λ i j d less lt.
        let count = length-map set.tasks (λ (x : TaskData). x.priority) in
        let at_i = (All-get_or (λ t. (t < length set.tasks) × IsTrue (passes t)) sorted i d (omega arith) each_sorted).0 in
        let at_j = (All-get_or (λ t. (t < length set.tasks) × IsTrue (passes t)) sorted j d lt each_sorted).0 in
        let le = up i j d (omega arith) lt in
        elim (cases_eq (slice_index (priorities set) (get_or sorted i d)) (slice_index (priorities set) (get_or sorted j d))) [
          | inl same ↦ absurd (once i j d less lt ((IsState-start set ok).distinct (get_or sorted i d) (get_or sorted j d) (omega arith)
              (omega arith) same))
          | inr other ↦ omega arith
        ];
  }

-- ---- the listing has tasks alone
number_of : (set : SetData) (passes : ℕ → Bool) (tasks : List ℕ) → AreByUrgency set passes tasks → All (λ t. t < length set.tasks) tasks
number_of set passes tasks sorted =
    All-weaker (λ t. (t < length set.tasks) × IsTrue (passes t)) (λ t. t < length set.tasks) (λ t h. h.0) tasks sorted.each

pub listing_tasks : (places : List ℕ) (window : Window) (set : SetData) (rows : ℕ → List Span) (listed : List ℕ)
    → IsListing places window set rows listed → All (λ t. t < length set.tasks) listed
listing_tasks places window set rows listed listing = elim listing [
  | inl ready ↦ number_of set (λ t. is_ready_in places window (rows t)) listed ready.ready
  | inr waiting ↦
      subst (All (λ t. t < length set.tasks)) (sym waiting.first)
      (All-take (λ t. t < length set.tasks) 64 waiting.waiting
      (number_of set (λ t. waits_in places window (rows t)) waiting.waiting waiting.all_waiting))
]
