-- Another priority is written at a task, and then the task moves to its place in the order.
use Rattle.std.proofs.Common.{◌≡◌, ◌≢◌, ℕ, ◌<◌, List, length, get_or, set, refl, sym, ap, ◌∙◌, inl, inr, arith, length-set, get_or-set_same}
use Rattle.std.proofs.Common.{get_or-set_other}
use Rattle.std.specs.List.Sorted.{IsNonDecreasingBy}
use Rattle.std.proofs.lemmas.Bool.{cases_eq}
use Rattle.std.proofs.lemmas.List.{get_or-map, length-map, ext_get_or}
use Rattle.std.proofs.lemmas.List.Elements.{All-get_or, All-from_get_or}
use Rattle.std.proofs.lemmas.List.Sorted.{length_permutation}
use Rattle.affinity_mask.specs.ProcSet.{empty}
use Rattle.link_table.specs.declared.ranked.Ranked.{Ranked}
use Rattle.link_table.specs.UrgencyOrder.{urgency_entry, IsEntry, AreEntries}
use Rattle.link_table.specs.WaitingTasks.{IsRanking}
use Rattle.link_table.specs.Reordering.{IsInverse, IsNonDecreasingBut, Reordered}
use Rattle.link_table.proofs.Ranks.{rank_fits, entry_at_rank, rank_apart, by_task_of}
use Rattle.link_table.proofs.Urgent.{sorted_entries}

module _ (ps : List ℕ) (order : List Ranked) (ranks sets : List ℕ) (ok : IsRanking ps order ranks sets) (t priority : ℕ)
    (number : t < length ps) where
  -- the rank of the task, and what is written
  abbrev pub rank : ℕ → ℕ
  rank u = get_or ranks u 0

  abbrev pub entry : Ranked
  entry = record { priority = priority; task = t }

  abbrev pub written : List Ranked
  written = set order (rank t) entry

  fits : rank t < length order
  fits = rank_fits ps order ranks sets ok t number

  written_here : (d : Ranked) → get_or written (rank t) d ≡ entry
  written_here d = get_or-set_same order (rank t) entry d fits

  written_there : (k : ℕ) (d : Ranked) → k ≢ rank t → get_or written k d ≡ get_or order k d
  written_there k d other = get_or-set_other order (rank t) k entry d other

  -- the tasks stand as they stood
  same_task : (k : ℕ) (d : Ranked) → (get_or written k d).task ≡ (get_or order k d).task
  same_task k d = elim (cases_eq k (rank t)) [
    | inl e ↦ rw (e, written_here d, entry_at_rank ps order ranks sets ok t d number) refl
    | inr other ↦ ap (λ (e : Ranked). e.task) (written_there k d other)
  ]

  same_count : length written ≡ length ps
  same_count = length-set order (rank t) entry ∙ ok.order_count

  entry_in : (k : ℕ) (d : Ranked) → k < length order → IsEntry ps (get_or order k d)
  entry_in k d lt = All-get_or (IsEntry ps) order k d lt ok.sorted.complete.all

  pub IsInverse-written : IsInverse written ranks
  IsInverse-written = record {
    few = omega (arith, same_count, ok.few);
    count = ok.ranks_count ∙ sym same_count;
    numbers = λ r d lt. rw (same_task r d, same_count) (entry_in r d (omega (arith, lt, same_count, ok.order_count))).0;
    placed = λ r d lt. rw (same_task r d) (ok.placed r d (omega (arith, lt, same_count, ok.order_count)));
    within = λ u lt. (let place = rank_fits ps order ranks sets ok u (omega (arith, lt, same_count)) in
        omega (arith, place, same_count, ok.order_count));
    stands = λ u d lt. same_task (rank u) d ∙ ap (λ (e : Ranked). e.task)
        (entry_at_rank ps order ranks sets ok u d (omega (arith, lt, same_count)));
  }

  pub IsNonDecreasingBut-written : IsNonDecreasingBut (rank t) written
  IsNonDecreasingBut-written j k d le lt not_j not_k =
      rw (written_there j d not_j, written_there k d not_k) (ok.sorted.ordered j k d le (omega (arith, lt, same_count, ok.order_count)))

  -- the entries are those of the tasks with the new priority
  AreEntries-written : AreEntries (set ps t priority) written
  AreEntries-written = record {
    all = All-from_get_or (IsEntry (set ps t priority)) written entry (λ k lt. elim (cases_eq k (rank t)) [
      | inl e ↦ rw (e, written_here entry) (rw (length-set ps t priority) number, sym (get_or-set_same ps t priority 0 number))
      | inr other ↦
          let within : k < length order = omega (arith, lt, same_count, ok.order_count) in
          let is = entry_in k entry within in
          let task = (get_or order k entry).task in
          let not_t : task ≢ t = λ e. other (sym (ok.placed k entry within) ∙ ap rank e) in
          rw (written_there k entry other) (rw (length-set ps t priority) is.0, is.1 ∙ sym (get_or-set_other ps t task priority 0 not_t))
    ]);
    each = λ u lt. (let known : u < length ps = omega (arith, lt, length-set ps t priority) in (
      rank u,
      omega (arith, rank_fits ps order ranks sets ok u known, same_count, ok.order_count),
      elim (cases_eq u t) [
        | inl e ↦ rw (e, written_here (urgency_entry (set ps t priority) t), get_or-set_same ps t priority 0 number) refl
        | inr other ↦
            rw (
              written_there (rank u) (urgency_entry (set ps t priority) u)
                  (λ e. other (rank_apart ps order ranks sets ok u t known number e)),
              get_or-set_other ps t u priority 0 other,
            )
            (entry_at_rank ps order ranks sets ok u (record { priority = get_or ps u 0; task = u }) known)
      ],
    ));
  }

  module _ (new : List Ranked) (new_ranks new_sets : List ℕ) (moved : Reordered written ranks sets new new_ranks new_sets) where
    new_count : length new ≡ length ps
    new_count = length_permutation written new moved.entries ∙ same_count

    pub IsRanking-reordered : IsNonDecreasingBy (λ (e : Ranked). e.priority) new → IsRanking (set ps t priority) new new_ranks new_sets
    IsRanking-reordered up = record {
      sorted = sorted_entries (set ps t priority) written new AreEntries-written moved.entries up;
      order_count = new_count ∙ sym (length-set ps t priority);
      ranks_count = moved.inverse.count ∙ new_count ∙ sym (length-set ps t priority);
      placed = moved.inverse.placed;
      width = rw (length-set ps t priority, moved.row_count) ok.width;
      few = rw (length-set ps t priority) ok.few;
      rest = λ r ge. moved.rest r (omega (arith, ge, same_count, length-set ps t priority))
          ∙ ok.rest r (omega (arith, ge, length-set ps t priority));
    }

    -- and each task waits for what it waited for
    pub by_task_of-reordered : by_task_of new_ranks new_sets ≡ by_task_of ranks sets
    by_task_of-reordered = ext_get_or empty (by_task_of new_ranks new_sets) (by_task_of ranks sets) (n ∙ same ∙ sym m) (λ u lt.
        let known : u < length new_ranks = omega (arith, lt, n) in
        get_or-map (λ r. get_or new_sets r empty) new_ranks u 0 empty known
        ∙ moved.kept u (omega (arith, known, moved.inverse.count, new_count, same_count))
        ∙ sym (get_or-map (λ r. get_or sets r empty) ranks u 0 empty (omega (arith, known, same))))
      where
        n : length (by_task_of new_ranks new_sets) ≡ length new_ranks
        n = length-map new_ranks (λ r. get_or new_sets r empty)

        m : length (by_task_of ranks sets) ≡ length ranks
        m = length-map ranks (λ r. get_or sets r empty)

        same : length new_ranks ≡ length ranks
        same = moved.inverse.count ∙ new_count ∙ sym ok.ranks_count
