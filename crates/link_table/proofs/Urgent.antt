-- The tasks in the order of urgency: how the order is made, that no task stands twice in it, and the ranks in it.
use Rattle.std.proofs.Common.{◌≡◌, ℕ, ◌+◌, ◌<◌, List, [], ◌∷◌, ◌++◌, length, get_or, set, map, All, Contains, eqb, false, refl, sym, ap}
use Rattle.std.proofs.Common.{◌∙◌, inl, inr, arith, below_more, eq-eqb, ne_eqb, get_or-set_same, get_or-set_other}
use Rattle.std.specs.List.{IsDistinct}
use Rattle.std.specs.List.Sorted.{IsPermutation, IsNonDecreasingBy}
use Rattle.std.proofs.lemmas.Bool.{cases_eq, cases_lt, true≢false}
use Rattle.std.proofs.lemmas.List.{length_push, get_or_push, get_or_append_left, get_or-map, length-map}
use Rattle.std.proofs.lemmas.List.Elements.{All-push, Contains-append_left, Contains-push}
use Rattle.std.proofs.lemmas.List.Sorted.{All-permutation, Contains-permutation, IsPermutation-map}
use Rattle.std.proofs.lemmas.Map.Keys.{IsDistinct-from_apart, IsDistinct-IsPermutation, apart_from_distinct}
use Rattle.link_table.specs.declared.ranked.Ranked.{Ranked}
use Rattle.link_table.specs.UrgencyOrder.{urgency_entry, IsEntry, AreEntries, IsUrgencyOrder, AreNumbered, AreApart}

-- ---- the order is made
pub entries_more : (ps : List ℕ) (es then : List Ranked) (t : ℕ) (e : Ranked) → t < length ps → e ≡ urgency_entry ps t → then ≡ es ++ e ∷ []
    → All (IsEntry ps) es → All (IsEntry ps) then
entries_more ps es then t e fits is pushed all =
    rw (pushed, is) (All-push (IsEntry ps) es (urgency_entry ps t) all (fits, refl))

pub each_more : (ps : List ℕ) (es then : List Ranked) (t : ℕ) (e : Ranked) → e ≡ urgency_entry ps t → then ≡ es ++ e ∷ []
    → ((k : ℕ) → k < t → Contains es (urgency_entry ps k)) → (k : ℕ) → k < t + 1 → Contains then (urgency_entry ps k)
each_more ps es then t e is pushed each =
    rw (pushed, is) (below_more (λ k. Contains (es ++ urgency_entry ps t ∷ []) (urgency_entry ps k)) t
    (λ k lt. Contains-append_left es (urgency_entry ps t ∷ []) (urgency_entry ps k) (each k lt))
    (Contains-push es (urgency_entry ps t)))

pub sorted_entries : (ps : List ℕ) (es then : List Ranked) → AreEntries ps es → IsPermutation es then
    → IsNonDecreasingBy (λ (entry : Ranked). entry.priority) then → IsUrgencyOrder ps then
sorted_entries ps es then complete moved sorted = record {
  complete = record {
    all = All-permutation (IsEntry ps) es then moved complete.all;
    each = λ t lt. Contains-permutation es then (urgency_entry ps t) moved (complete.each t lt);
  };
  ordered = sorted;
}

pub numbered_more : (es then : List Ranked) (e : Ranked) (t : ℕ) → length es ≡ t → e.task ≡ t → then ≡ es ++ e ∷ [] → AreNumbered es
    → AreNumbered then
numbered_more es then e t count is pushed numbered k d lt =
    let longer = ap length pushed ∙ length_push es e in
    elim (cases_lt k t) [
      | inl less ↦ rw pushed (ap (λ (x : Ranked). x.task) (get_or_append_left es (e ∷ []) d k (omega arith)) ∙ numbered k d (omega arith))
      | inr ge ↦ let last : k ≡ t =
          omega arith in rw pushed (ap (λ (x : Ranked). x.task) (get_or_push es e d k (omega arith)) ∙ is ∙ sym last)
    ]

-- ---- no task stands twice, however the entries are moved
nobody : Ranked
nobody = record { priority = 0; task = 0 }

eqb_flips : (x y : ℕ) → eqb x y ≡ eqb y x
eqb_flips x y = elim (cases_eq x y) [
  | inl e ↦ rw e refl
  | inr ne ↦ ne_eqb x y ne ∙ sym (ne_eqb y x (λ e. ne (sym e)))
]

task_in : (es : List Ranked) (k d : ℕ) → k < length es → get_or (map (λ (x : Ranked). x.task) es) k d ≡ (get_or es k nobody).task
task_in es k d lt = get_or-map (λ (x : Ranked). x.task) es k nobody d lt

pub apart_moved : (es then : List Ranked) → AreNumbered es → IsPermutation es then → AreApart then
apart_moved es then numbered moved j k d less below same = true≢false (sym (eq-eqb (at j) (at k) equal) ∙ apart)
  where
    tasks : List Ranked → List ℕ
    tasks = map (λ (x : Ranked). x.task)

    at : ℕ → ℕ
    at i = get_or (tasks then) i 0

    first : IsDistinct eqb (tasks es)
    first = IsDistinct-from_apart eqb (tasks es) (λ i j e lt fits.
        let within : j < length es = (let n = length-map es (λ (x : Ranked). x.task) in omega arith) in
        rw (task_in es i e (omega arith), task_in es j e within, numbered i nobody (omega arith), numbered j nobody within)
        (ne_eqb i j (λ f. omega arith)))

    later : IsDistinct eqb (tasks then)
    later = IsDistinct-IsPermutation eqb eqb_flips (tasks es) (tasks then) (IsPermutation-map (λ (x : Ranked). x.task) es then moved) first

    apart : eqb (at j) (at k) ≡ false
    apart = apart_from_distinct eqb (tasks then) j k 0 later less (let n = length-map then (λ (x : Ranked). x.task) in omega arith)

    equal : at j ≡ at k
    equal = get_or-map (λ (x : Ranked). x.task) then j d 0 (omega arith) ∙ same ∙ sym (get_or-map (λ (x : Ranked). x.task) then k d 0 below)

-- ---- the ranks are written
pub ranks_more : (order : List Ranked) → AreApart order → (ranks : List ℕ) (r task : ℕ) → r < length order
    → ((d : Ranked) → task ≡ (get_or order r d).task) → task < length ranks
    → ((k : ℕ) (d : Ranked) → k < r → get_or ranks (get_or order k d).task 0 ≡ k) → (k : ℕ) (d : Ranked) → k < r + 1
    → get_or (set ranks task r) (get_or order k d).task 0 ≡ k
ranks_more order apart ranks r task fits is room done k d lt = elim (cases_lt k r) [
  | inl less ↦ get_or-set_other ranks task (get_or order k d).task r 0 (λ e. apart k r d less fits (e ∙ is d)) ∙ done k d less
  | inr ge ↦
      let last : k ≡ r = omega arith in
      ap (λ n. get_or (set ranks task r) (get_or order n d).task 0) last ∙ ap (λ n. get_or (set ranks task r) n 0) (sym (is d))
      ∙ get_or-set_same ranks task r 0 room ∙ sym last
]
