-- Waiting tasks by rank and by task: what a write changes, and who is the first that waits for a processor of a set.
use Rattle.std.proofs.Common.{◌≡◌, ℕ, ◌<◌, ◌≤◌, List, length, get_or, set, map, replicate, sym, ap, ◌∙◌, subst, inl, inr, arith, length-set}
use Rattle.std.proofs.Common.{get_or-set_same, get_or-set_other}
use Rattle.std.proofs.lemmas.Bool.{cases_eq, cases_lt, true≢false}
use Rattle.std.proofs.lemmas.List.{get_or-map, get_or_read, get_or_default, get_or_past, get_or-replicate, length-map, length-replicate}
use Rattle.std.proofs.lemmas.List.{ext_get_or}
use Rattle.std.proofs.lemmas.List.Elements.{All-get_or}
use Rattle.affinity_mask.specs.ProcSet.{has, empty, Meets}
use Rattle.affinity_mask.proofs.Sets.{has-zero}
use Rattle.link_table.specs.declared.ranked.Ranked.{Ranked}
use Rattle.link_table.specs.UrgencyOrder.{urgency_entry, IsEntry}
use Rattle.link_table.specs.SetTree.{IsMetByNone, IsFirstMeeting}
use Rattle.link_table.specs.WaitingTasks.{IsNobodyFor, IsFirstFor, IsRanking}

-- the empty set meets none
meets_empty : (X Y : ℕ) → Y ≡ empty → Meets X Y → ⊥
meets_empty X Y none m = true≢false (sym (m.2) ∙ ap (λ n. has n (m.0)) none ∙ has-zero (m.0))

-- the sets by task, where they stand by rank
abbrev pub by_task_of : List ℕ → List ℕ → List ℕ
by_task_of ranks sets = map (λ r. get_or sets r empty) ranks

module _ (ps : List ℕ) (order : List Ranked) (ranks sets : List ℕ) (ok : IsRanking ps order ranks sets) where
  -- a task stands at its rank
  pub rank_fits : (t : ℕ) → t < length ps → get_or ranks t 0 < length order
  rank_fits t lt =
      let at = ok.sorted.complete.each t lt in
      let here : get_or ranks t 0 ≡ at.0 = ap (λ (e : Ranked). get_or ranks e.task 0) (sym at.2)
      ∙ ok.placed at.0 (urgency_entry ps t) at.1 in
      let fits = at.1 in
      omega arith

  pub entry_at_rank : (t : ℕ) (d : Ranked) → t < length ps → get_or order (get_or ranks t 0) d ≡ urgency_entry ps t
  entry_at_rank t d lt =
      let at = ok.sorted.complete.each t lt in
      let here : get_or ranks t 0 ≡ at.0 = ap (λ (e : Ranked). get_or ranks e.task 0) (sym at.2)
      ∙ ok.placed at.0 (urgency_entry ps t) at.1 in
      get_or_default order (get_or ranks t 0) d (urgency_entry ps t) (rank_fits t lt) ∙ ap (λ n. get_or order n (urgency_entry ps t)) here
      ∙ at.2

  -- and it is in the row
  pub rank_in_row : (t : ℕ) → t < length ps → get_or ranks t 0 < length sets
  rank_in_row t lt = let fits = rank_fits t lt in let count = ok.order_count in let room = ok.width.room in omega arith

  -- the rank that was read is that of t
  pub rank_read : (t r : ℕ) → t < length ps → r ≡ get_or ranks t r → r ≡ get_or ranks t 0
  rank_read t r lt at = get_or_read ranks t r (let count = ok.ranks_count in omega arith) at 0

  -- two tasks have two ranks
  pub rank_apart : (t u : ℕ) → t < length ps → u < length ps → get_or ranks t 0 ≡ get_or ranks u 0 → t ≡ u
  rank_apart t u lt lu e =
      let d = urgency_entry ps t in
      ap (λ (x : Ranked). x.task) (sym (entry_at_rank t d lt) ∙ ap (λ n. get_or order n d) e ∙ entry_at_rank u d lu)

  pub mask_at : (t : ℕ) → t < length ps → get_or (by_task_of ranks sets) t empty ≡ get_or sets (get_or ranks t 0) empty
  mask_at t lt = get_or-map (λ r. get_or sets r empty) ranks t 0 empty (let count = ok.ranks_count in omega arith)

  mask_past : (t : ℕ) → length ps ≤ t → get_or (by_task_of ranks sets) t empty ≡ empty
  mask_past t ge = get_or_past (by_task_of ranks sets) t empty
      (let n = length-map ranks (λ r. get_or sets r empty) in let count = ok.ranks_count in omega arith)

  -- whoever waits for a processor of a set is one of the tasks, and stands at its rank in the row
  waits_at_rank : (X t : ℕ) → Meets X (get_or (by_task_of ranks sets) t empty)
      → (t < length ps) × Meets X (get_or sets (get_or ranks t 0) empty)
  waits_at_rank X t m = elim (cases_lt t (length ps)) [
    | inl lt ↦ (lt, subst (λ n. Meets X n) (mask_at t lt) m)
    | inr ge ↦ absurd (meets_empty X _ (mask_past t ge) m)
  ]

  -- ---- the first that waits
  pub nobody_for : (X : ℕ) → IsMetByNone sets X → IsNobodyFor (record { priorities = ps; masks = by_task_of ranks sets }) X
  nobody_for X none t m = none (get_or ranks t 0) ((waits_at_rank X t m).1)

  -- a place whose set is not empty is that of a task
  pub met_fits : (X r : ℕ) → Meets X (get_or sets r empty) → r < length order
  met_fits X r m = elim (cases_lt r (length order)) [
    | inl lt ↦ lt
    | inr ge ↦ absurd (meets_empty X _ (ok.rest r (let count = ok.order_count in omega arith)) m)
  ]

  pub first_for : (X r : ℕ) (e : Ranked) → IsFirstMeeting sets X r → ((d : Ranked) → e ≡ get_or order r d)
      → IsFirstFor (record { priorities = ps; masks = by_task_of ranks sets }) X e.task
  first_for X r e first at = record {
    number = entry.0;
    waits = subst (λ n. Meets X n) (sym (mask_at e.task entry.0 ∙ ap (λ n. get_or sets n empty) here)) first.meets;
    most_urgent = λ u m.
        let there = waits_at_rank X u m in
        let later : r ≤ get_or ranks u 0 = elim (cases_lt (get_or ranks u 0) r) [
          | inl lt ↦ absurd (first.first (get_or ranks u 0) lt there.1)
          | inr ge ↦ ge
        ] in
        let d = urgency_entry ps u in
        let up : (get_or order r d).priority ≤ (get_or order (get_or ranks u 0) d).priority = ok.sorted.ordered r (get_or ranks u 0) d later
        (rank_fits u there.0) in
        let mine : (get_or order r d).priority ≡ get_or ps e.task 0 = ap (λ (x : Ranked). x.priority) (sym (at d)) ∙ entry.1 in
        let other : (get_or order (get_or ranks u 0) d).priority
        ≡ get_or ps u 0 = ap (λ (x : Ranked). x.priority) (entry_at_rank u d there.0) in
        omega arith;
  }
    where
      fits : r < length order
      fits = met_fits X r first.meets

      entry : IsEntry ps e
      entry = subst (IsEntry ps) (sym (at e)) (All-get_or (IsEntry ps) order r e fits ok.sorted.complete.all)

      here : get_or ranks e.task 0 ≡ r
      here = ap (λ (x : Ranked). get_or ranks x.task 0) (at e) ∙ ok.placed r e fits

  -- ---- a write
  module _ (t item : ℕ) (number : t < length ps) where
    pub by_task_of-set : by_task_of ranks (set sets (get_or ranks t 0) item) ≡ set (by_task_of ranks sets) t item
    by_task_of-set = ext_get_or empty (by_task_of ranks then) (set (by_task_of ranks sets) t item)
        (n ∙ sym (length-set (by_task_of ranks sets) t item ∙ m)) each
      where
        then : List ℕ
        then = set sets (get_or ranks t 0) item

        n : length (by_task_of ranks then) ≡ length ranks
        n = length-map ranks (λ r. get_or then r empty)

        m : length (by_task_of ranks sets) ≡ length ranks
        m = length-map ranks (λ r. get_or sets r empty)

        each : (i : ℕ) → i < length (by_task_of ranks then) → get_or (by_task_of ranks then) i empty
            ≡ get_or (set (by_task_of ranks sets) t item) i empty
        each i lt =
            let count = ok.ranks_count in
            let within : i < length ps = omega (arith, n) in
            get_or-map (λ r. get_or then r empty) ranks i 0 empty (omega (arith, n)) ∙ elim (cases_eq i t) [
              | inl e ↦ rw e (get_or-set_same sets (get_or ranks t 0) item empty (rank_in_row t number)
                  ∙ sym (get_or-set_same (by_task_of ranks sets) t item empty (omega (arith, m, number, ok.ranks_count))))
              | inr ne ↦ get_or-set_other sets (get_or ranks t 0) (get_or ranks i 0) item empty (λ e. ne (rank_apart i t within number e))
                  ∙ sym (get_or-set_other (by_task_of ranks sets) t i item empty ne ∙ mask_at i within)
            ]

    pub IsRanking-set : IsRanking ps order ranks (set sets (get_or ranks t 0) item)
    IsRanking-set = record {
      sorted = ok.sorted;
      order_count = ok.order_count;
      ranks_count = ok.ranks_count;
      placed = ok.placed;
      width = rw (length-set sets (get_or ranks t 0) item) ok.width;
      few = ok.few;
      rest = λ r ge. get_or-set_other sets (get_or ranks t 0) r item empty
          (λ e. (let fits = rank_fits t number in let count = ok.order_count in omega arith)) ∙ ok.rest r ge;
    }

-- ---- nobody waits at first
pub nobody_at_first : (n : ℕ) (ranks sets : List ℕ) → length ranks ≡ n → ((r : ℕ) → get_or sets r empty ≡ empty)
    → by_task_of ranks sets ≡ replicate n empty
nobody_at_first n ranks sets count none =
    ext_get_or empty (by_task_of ranks sets) (replicate n empty) (m ∙ count ∙ sym (length-replicate n empty)) (λ i lt.
    let within : i < length ranks = omega (arith, m) in
    get_or-map (λ r. get_or sets r empty) ranks i 0 empty within ∙ none (get_or ranks i 0)
    ∙ sym (get_or-replicate n i empty empty (omega (arith, count))))
  where
    m : length (by_task_of ranks sets) ≡ length ranks
    m = length-map ranks (λ r. get_or sets r empty)
