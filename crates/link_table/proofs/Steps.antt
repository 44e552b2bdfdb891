-- A task moves to its place in the order of urgency: what a step to the next place changes, and that the place is found.
use Rattle.std.proofs.Common.{◌≡◌, ◌≢◌, ℕ, ◌+◌, ◌-◌, ◌<◌, ◌≤◌, List, length, get_or, set, refl, sym, ap, ◌∙◌, inl, inr, arith, length-set}
use Rattle.std.proofs.Common.{get_or-set_same, get_or-set_other}
use Rattle.std.specs.List.{swap}
use Rattle.std.specs.List.Sorted.{IsNonDecreasingBy}
use Rattle.std.proofs.lemmas.Bool.{cases_eq}
use Rattle.std.proofs.lemmas.List.{get_or_default}
use Rattle.std.proofs.lemmas.List.Edits.{Swapped, swapped_from_swap, length-swap}
use Rattle.std.proofs.lemmas.List.Sorted.{IsPermutation-swap, IsPermutation-trans, IsPermutation-refl, length_permutation}
use Rattle.affinity_mask.specs.ProcSet.{empty}
use Rattle.link_table.specs.declared.ranked.Ranked.{Ranked}
use Rattle.link_table.specs.WaitingTasks.{AreRanks}
use Rattle.link_table.specs.Reordering.{IsInverse, IsNonDecreasingBut, IsMostUrgentFrom, Reordered}

-- an entry that is read where there is none
abbrev pub nobody : Ranked
nobody = record { priority = 0; task = 0 }

-- ---- a task and the next one change places
module _ (order : List Ranked) (r : ℕ) (next : r + 1 < length order) where
  -- what stands at each place of a row, once its places r and r + 1 are exchanged
  exchanged : {X : Type 0} (xs : List X) (d : X) → length order ≤ length xs
      → Swapped (λ i. get_or xs i d) (λ i. get_or (swap xs r (r + 1)) i d) r (r + 1)
  exchanged xs d row = swapped_from_swap xs (swap xs r (r + 1)) r (r + 1) d (omega arith) (omega arith) refl

  abbrev pub entry_at : (k : ℕ) → Ranked
  entry_at k = get_or order k nobody

  abbrev pub then : List Ranked
  then = swap order r (r + 1)

  task_at : (k : ℕ) (d : Ranked) → k < length order → (get_or order k d).task ≡ (entry_at k).task
  task_at k d fits = ap (λ (e : Ranked). e.task) (get_or_default order k d nobody fits)

  here : (d : Ranked) → (get_or then r d).task ≡ (entry_at (r + 1)).task
  here d = ap (λ (e : Ranked). e.task) (exchanged order d (omega arith)).0 ∙ task_at (r + 1) d next

  there : (d : Ranked) → (get_or then (r + 1) d).task ≡ (entry_at r).task
  there d = ap (λ (e : Ranked). e.task) (exchanged order d (omega arith)).1 ∙ task_at r d (omega arith)

  module _ (ranks sets : List ℕ) (ok : IsInverse order ranks) (row : length order ≤ length sets) where
    -- the ranks then
    abbrev pub ranks_then : List ℕ
    ranks_then = set (set ranks (entry_at (r + 1)).task r) (entry_at r).task (r + 1)

    first_rank : get_or ranks (entry_at r).task 0 ≡ r
    first_rank = ok.placed r nobody (omega arith)

    second_rank : get_or ranks (entry_at (r + 1)).task 0 ≡ r + 1
    second_rank = ok.placed (r + 1) nobody next

    apart : (entry_at (r + 1)).task ≢ (entry_at r).task
    apart e = let same = ap (λ n. get_or ranks n 0) e in omega (arith, same, first_rank, second_rank)

    second_then : get_or ranks_then (entry_at (r + 1)).task 0 ≡ r
    second_then =
        let fits = ok.numbers (r + 1) nobody next in
        get_or-set_other (set ranks (entry_at (r + 1)).task r) (entry_at r).task (entry_at (r + 1)).task (r + 1) 0 apart
        ∙ get_or-set_same ranks (entry_at (r + 1)).task r 0 (omega (arith, fits, ok.count))

    first_then : get_or ranks_then (entry_at r).task 0 ≡ r + 1
    first_then =
        let fits = ok.numbers r nobody (omega arith) in
        get_or-set_same (set ranks (entry_at (r + 1)).task r) (entry_at r).task (r + 1) 0
        (omega (arith, fits, ok.count, length-set ranks (entry_at (r + 1)).task r))

    other_then : (t : ℕ) → t ≢ (entry_at r).task → t ≢ (entry_at (r + 1)).task → get_or ranks_then t 0 ≡ get_or ranks t 0
    other_then t first second = get_or-set_other (set ranks (entry_at (r + 1)).task r) (entry_at r).task t (r + 1) 0 first
        ∙ get_or-set_other ranks (entry_at (r + 1)).task t r 0 second

    -- another task stands at another place
    not_first : (t : ℕ) → t < length order → t ≢ (entry_at r).task → get_or ranks t 0 ≢ r
    not_first t lt other e = other (sym (ok.stands t nobody lt) ∙ ap (λ n. (entry_at n).task) e)

    not_second : (t : ℕ) → t < length order → t ≢ (entry_at (r + 1)).task → get_or ranks t 0 ≢ r + 1
    not_second t lt other e = other (sym (ok.stands t nobody lt) ∙ ap (λ n. (entry_at n).task) e)

    -- where each task stands then: at r + 1, at r, or where it stood
    by_place : (P : ℕ → ℕ → ℕ → Type 0) → P (entry_at r).task r (r + 1) → P (entry_at (r + 1)).task (r + 1) r
        → ((t : ℕ) → t < length order → get_or ranks t 0 ≢ r → get_or ranks t 0 ≢ r + 1 → P t (get_or ranks t 0) (get_or ranks t 0))
        → (t : ℕ) → t < length order → P t (get_or ranks t 0) (get_or ranks_then t 0)
    by_place P first second others t lt = elim (cases_eq t (entry_at r).task) [
      | inl e ↦ rw (e, first_rank, first_then) first
      | inr not_r ↦ elim (cases_eq t (entry_at (r + 1)).task) [
        | inl e ↦ rw (e, second_rank, second_then) second
        | inr not_next ↦ rw (other_then t not_r not_next) (others t lt (not_first t lt not_r) (not_second t lt not_next))
      ]
    ]

    stands_then : (t : ℕ) (d : Ranked) → t < length order → (get_or then (get_or ranks_then t 0) d).task ≡ t
    stands_then t d lt = by_place (λ u old new. (get_or then new d).task ≡ u) (there d) (here d)
        (λ u fits not_r not_next. ap (λ (e : Ranked). e.task) ((exchanged order d (omega arith)).2 (get_or ranks u 0) not_r not_next)
        ∙ ok.stands u d fits) t lt

    kept_then : (t : ℕ) → t < length order → get_or (swap sets r (r + 1)) (get_or ranks_then t 0) empty
        ≡ get_or sets (get_or ranks t 0) empty
    kept_then = by_place (λ u old new. get_or (swap sets r (r + 1)) new empty ≡ get_or sets old empty) (exchanged sets empty row).1
        (exchanged sets empty row).0
        (λ u fits not_r not_next. (exchanged sets empty row).2 (get_or ranks u 0) not_r not_next)

    within_then : (t : ℕ) → t < length order → get_or ranks_then t 0 < length order
    within_then = by_place (λ u old new. new < length order) next (omega arith) (λ u fits not_r not_next. ok.within u fits)

    placed_then : AreRanks then ranks_then
    placed_then k d lt = elim (cases_eq k r) [
      | inl e ↦ rw (e, here d) second_then
      | inr not_r ↦ elim (cases_eq k (r + 1)) [
        | inl e ↦ rw (e, there d) first_then
        | inr not_next ↦
            let same = (exchanged order d (omega arith)).2 k not_r not_next in
            let fits : k < length order = omega (arith, lt, length-swap order r (r + 1)) in
            let place = ok.placed k d fits in
            rw same (other_then (get_or order k d).task (λ f. not_r (sym place ∙ ap (λ n. get_or ranks n 0) f ∙ first_rank))
            (λ f. not_next (sym place ∙ ap (λ n. get_or ranks n 0) f ∙ second_rank)) ∙ place)
      ]
    ]

    numbers_then : (k : ℕ) (d : Ranked) → k < length order → (get_or then k d).task < length order
    numbers_then k d lt = elim (cases_eq k r) [
      | inl e ↦ rw (e, here d) (ok.numbers (r + 1) nobody next)
      | inr not_r ↦ elim (cases_eq k (r + 1)) [
        | inl e ↦ rw (e, there d) (ok.numbers r nobody (omega arith))
        | inr not_next ↦ rw ((exchanged order d (omega arith)).2 k not_r not_next) (ok.numbers k d lt)
      ]
    ]

    pub Reordered-swap : Reordered order ranks sets then ranks_then (swap sets r (r + 1))
    Reordered-swap = record {
      entries = IsPermutation-swap order then r (r + 1) (omega arith) next refl;
      inverse = record {
        few = omega (arith, same, ok.few);
        count = length-set (set ranks (entry_at (r + 1)).task r) (entry_at r).task (r + 1) ∙ length-set ranks (entry_at (r + 1)).task r
            ∙ ok.count ∙ sym same;
        numbers = λ k d lt. rw same (numbers_then k d (rw same at lt));
        placed = placed_then;
        within = λ t lt. rw same (within_then t (rw same at lt));
        stands = λ t d lt. stands_then t d (rw same at lt);
      };
      row_count = length-swap sets r (r + 1);
      kept = kept_then;
      rest = λ k ge. (exchanged sets empty row).2 k (λ e. omega arith) (λ e. omega arith);
    }
      where
        same : length then ≡ length order
        same = length-swap order r (r + 1)

    pub Reordered-from_swap : (new : List Ranked) (new_ranks new_sets : List ℕ) → new ≡ then
        → new_ranks ≡ set (set ranks (get_or new r nobody).task r) (get_or new (r + 1) nobody).task (r + 1) → new_sets ≡ swap sets r (r + 1)
        → Reordered order ranks sets new new_ranks new_sets
    Reordered-from_swap new new_ranks new_sets order_is ranks_is sets_is =
        rw (ranks_is, sets_is, order_is, here nobody, there nobody) Reordered-swap

-- ---- one step after another
pub Reordered-refl : (order : List Ranked) (ranks sets : List ℕ) → IsInverse order ranks → Reordered order ranks sets order ranks sets
Reordered-refl order ranks sets ok = record {
  entries = IsPermutation-refl order;
  inverse = ok;
  row_count = refl;
  kept = λ t lt. refl;
  rest = λ r ge. refl;
}

pub Reordered-trans : (order : List Ranked) (ranks sets : List ℕ) (order' : List Ranked) (ranks' sets' : List ℕ) (order'' : List Ranked)
    (ranks'' sets'' : List ℕ)
    → Reordered order ranks sets order' ranks' sets' → Reordered order' ranks' sets' order'' ranks'' sets''
    → Reordered order ranks sets order'' ranks'' sets''
Reordered-trans order ranks sets order' ranks' sets' order'' ranks'' sets'' first second = record {
  entries = IsPermutation-trans order order' order'' first.entries second.entries;
  inverse = second.inverse;
  row_count = second.row_count ∙ first.row_count;
  kept = λ t lt. second.kept t (omega (arith, lt, same)) ∙ first.kept t lt;
  rest = λ r ge. second.rest r (omega (arith, ge, same)) ∙ first.rest r ge;
}
  where
    same : length order' ≡ length order
    same = length_permutation order order' first.entries

-- ---- the place is found
module _ (order : List Ranked) (r : ℕ) where
  abbrev pub priority_at : ℕ → Ranked → ℕ
  priority_at k d = (get_or order k d).priority

  same_priority : (k : ℕ) (d : Ranked) → k < length order → priority_at k d ≡ priority_at k nobody
  same_priority k d fits = ap (λ (e : Ranked). e.priority) (get_or_default order k d nobody fits)

  le_at : (j k : ℕ) → j < length order → k < length order → priority_at j nobody ≤ priority_at k nobody → (d : Ranked)
      → priority_at j d ≤ priority_at k d
  le_at j k fits_j fits_k le d = rw (same_priority j d fits_j, same_priority k d fits_k) le

  less_at : (j k : ℕ) → j < length order → k < length order → priority_at j nobody < priority_at k nobody → (d : Ranked)
      → priority_at j d < priority_at k d
  less_at j k fits_j fits_k less d = rw (same_priority j d fits_j, same_priority k d fits_k) less

  module _ (next : r + 1 < length order) where
    moved_at : (k : ℕ) (d : Ranked) → k ≢ r → k ≢ r + 1 → (get_or (swap order r (r + 1)) k d).priority ≡ priority_at k d
    moved_at k d not_r not_next = ap (λ (e : Ranked). e.priority) ((exchanged order r next order d (omega arith)).2 k not_r not_next)

    moved_here : (d : Ranked) → (get_or (swap order r (r + 1)) r d).priority ≡ priority_at (r + 1) d
    moved_here d = ap (λ (e : Ranked). e.priority) (exchanged order r next order d (omega arith)).0

    moved_there : (d : Ranked) → (get_or (swap order r (r + 1)) (r + 1) d).priority ≡ priority_at r d
    moved_there d = ap (λ (e : Ranked). e.priority) (exchanged order r next order d (omega arith)).1

    -- the task goes on to the next place
    pub IsNonDecreasingBut-later : IsNonDecreasingBut r order → IsNonDecreasingBut (r + 1) (swap order r (r + 1))
    IsNonDecreasingBut-later up j k d le lt not_j not_k =
        let fits : k < length order = omega (arith, lt, length-swap order r (r + 1)) in
        elim (cases_eq j r) [
          | inl e ↦ elim (cases_eq k r) [
            | inl f ↦ rw (e, f) (omega arith)
            | inr not_r ↦ let rises =
                up (r + 1) k d (omega arith) fits (λ f. omega arith) not_r in rw (e, moved_here d, moved_at k d not_r not_k) rises
          ]
          | inr other ↦ elim (cases_eq k r) [
            | inl f ↦ let rises =
                up j (r + 1) d (omega arith) next other (λ f. omega arith) in rw (f, moved_here d, moved_at j d other not_j) rises
            | inr not_r ↦ rw (moved_at j d other not_j, moved_at k d not_r not_k) (up j k d le fits other not_r)
          ]
        ]

    -- or back to the one before
    pub IsNonDecreasingBut-earlier : IsNonDecreasingBut (r + 1) order → IsNonDecreasingBut r (swap order r (r + 1))
    IsNonDecreasingBut-earlier up j k d le lt not_j not_k =
        let fits : k < length order = omega (arith, lt, length-swap order r (r + 1)) in
        elim (cases_eq j (r + 1)) [
          | inl e ↦ elim (cases_eq k (r + 1)) [
            | inl f ↦ rw (e, f) (omega arith)
            | inr not_next ↦ let rises =
                up r k d (omega arith) fits (λ f. omega arith) not_next in rw (e, moved_there d, moved_at k d not_k not_next) rises
          ]
          | inr other ↦ elim (cases_eq k (r + 1)) [
            | inl f ↦ let rises =
                up j r d (omega arith) (omega arith) other (λ f. omega arith) in rw (f, moved_there d, moved_at j d not_j other) rises
            | inr not_next ↦ rw (moved_at j d not_j other, moved_at k d not_k not_next) (up j k d le fits other not_next)
          ]
        ]

    -- and it is more urgent than what stands after it there, where it was so before
    pub IsMostUrgentFrom-earlier : IsMostUrgentFrom (r + 1) order → priority_at (r + 1) nobody < priority_at r nobody
        → IsMostUrgentFrom r (swap order r (r + 1))
    IsMostUrgentFrom-earlier most less k d later lt =
        let fits : k < length order = omega (arith, lt, length-swap order r (r + 1)) in
        let below = less_at (r + 1) r next (omega arith) less d in
        elim (cases_eq k (r + 1)) [
          | inl e ↦ rw (e, moved_here d, moved_there d) (omega arith)
          | inr other ↦ rw (moved_here d, moved_at k d (λ f. omega arith) other) (most k d (omega arith) fits)
        ]

  -- nothing after a place is more urgent, if the next one is not
  pub IsMostUrgentFrom-next : r + 1 < length order → IsNonDecreasingBut r order → priority_at r nobody ≤ priority_at (r + 1) nobody
      → IsMostUrgentFrom r order
  IsMostUrgentFrom-next next up le k d later lt =
      let first = le_at r (r + 1) (omega arith) next le d in
      let rises = up (r + 1) k d (omega arith) lt (λ f. omega arith) (λ f. omega arith) in
      omega arith

  -- the order is whole again once nothing before the place is less urgent, and nothing after it more
  pub IsNonDecreasingBy-found : IsNonDecreasingBut r order → IsMostUrgentFrom r order → 0 < r → r < length order
      → priority_at (r - 1) nobody ≤ priority_at r nobody
      → IsNonDecreasingBy (λ (entry : Ranked). entry.priority) order
  IsNonDecreasingBy-found up most late fits before j k d le lt = elim (cases_eq j k) [
    | inl e ↦ rw e (omega arith)
    | inr apart ↦ elim (cases_eq j r) [
      | inl e ↦ rw e (most k d (omega arith) lt)
      | inr not_j ↦ elim (cases_eq k r) [
        | inl e ↦
            let last = le_at (r - 1) r (omega arith) fits before d in
            let rises = up j (r - 1) d (omega arith) (omega arith) not_j (λ f. omega arith) in
            rw e (omega (arith, last, rises))
        | inr not_k ↦ up j k d le lt not_j not_k
      ]
    ]
  ]
