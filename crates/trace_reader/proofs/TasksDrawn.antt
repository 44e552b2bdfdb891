-- Each generated task can be added after those before it.
use Rattle.std.proofs.Common.{◌≢◌, ℕ, ◌+◌, ◌*◌, ◌<◌, ◌≤◌, List, [], ◌∷◌, length, get_or, IsTrue, refl, sym, ap, ◌∙◌, arith, inl, inr}
use Rattle.std.specs.Prelude.{codes, decimal}
use Rattle.std.proofs.lemmas.Bool.{false≢true}
use Rattle.std.proofs.lemmas.Bool.Decides.{nat_tests}
use Rattle.std.proofs.lemmas.Fmt.{decimal_injective, decimal_is_IsNumeral, length-decimal-le}
use Rattle.std.proofs.lemmas.List.{append_cancel_left, length-append}
use Rattle.std.proofs.lemmas.List.Elements.{All-from_get_or}
use Rattle.std.proofs.lemmas.Option.{slice_get-get_or}
use Rattle.std.proofs.lemmas.Str.Parse.{digit_at}
use Rattle.affinity_mask.specs.ProcSet.{has}
use Rattle.affinity_mask.proofs.Sets.{has-zero}
use Rattle.task_set.specs.Name.{IsName, continues_name}
use Rattle.task_set.specs.Refusal.{CanAdd, new_task}
use Rattle.task_set.specs.TaskSet.{TaskData, SetData, IsMask, with_task}
use Rattle.trace_reader.specs.Generated.{IsGeneratedTask, AreGeneratedTasks, task_name, first_processor, last_processor}
use Rattle.trace_reader.specs.Drawing.{DrawsTask, HasDrawnTasks}
use Rattle.trace_reader.proofs.Draws.{drawn_below, last_below}
use Rattle.trace_reader.proofs.Places.{before_or_last}

-- ---- names
digit_continues : (byte : ℕ) → 48 ≤ byte → byte ≤ 57 → IsTrue (continues_name byte)
digit_continues byte low high = grind (arith, nat_tests)

pub task_name_is_name : (i : ℕ) → i < 1024 → IsName (task_name i)
task_name_is_name i few =
    let digits = (decimal_is_IsNumeral i (omega arith)).0.1 in
    let size = length-decimal-le 4 i (omega arith) (omega arith) (omega arith) in (
      omega (arith, size),
      refl,
      All-from_get_or (λ byte. IsTrue (continues_name byte)) (decimal i) 0
          (λ k within. let digit = digit_at (decimal i) k digits within in digit_continues _ digit.0 digit.1),
    )

names_differ : (k i : ℕ) → k < i → i < 1024 → task_name k ≢ task_name i
names_differ k i less few same =
    let equal = decimal_injective k i (omega arith) (omega arith) (append_cancel_left (codes "t") (decimal k) (decimal i) same) in
    omega (arith, equal)

-- ---- what holds of all tasks so far
-- the task at a place before the count
task_at : (number m : ℕ) (tasks : List TaskData) → AreGeneratedTasks number m tasks → (k : ℕ) (d : TaskData) → k < length tasks
    → IsGeneratedTask number m k (get_or tasks k d)
task_at number m tasks each k d within = each k (get_or tasks k d) (slice_get-get_or tasks k d within)

-- ---- masks
mask_is_mask : (number m i mask : ℕ) → 0 < m
    → ((p : ℕ) → (IsTrue (has mask p) → (first_processor number m i ≤ p) × (p ≤ last_processor number m i))
    × ((first_processor number m i ≤ p) × (p ≤ last_processor number m i) → IsTrue (has mask p))) → IsMask m mask
mask_is_mask number m i mask some members = record {
  some = λ none.
      let first = first_processor number m i in
      let within : IsTrue (has mask first) = (members first).1 (omega arith, omega arith) in
      false≢true (sym (has-zero first) ∙ ap (λ X. has X first) (sym none) ∙ within);
  below = λ p member. omega (arith, ((members p).0 member).1, last_below number m i some);
}

-- ---- the next task
pub can_add_next : (number m i urgency mask state : ℕ) (set : SetData) → 0 < m → i < 1024 → HasDrawnTasks number m i state set → (next : ℕ)
    → DrawsTask number m i next urgency mask → CanAdd set (new_task (task_name i) urgency mask)
can_add_next number m i urgency mask state set some few begun next draws = record {
  name = task_name_is_name i few;
  room = omega (arith, begun.count);
  new_name = λ k d within. λ same.
      let there = task_at number m set.tasks begun.each_task k d within in
      names_differ k i (omega (arith, begun.count)) few (sym there.name ∙ same);
  new_priority = λ k d within. λ same.
      let there = task_at number m set.tasks begun.each_task k d within in
      let one = drawn_below number (3 * k) 1000 (omega arith) in
      let other = drawn_below number (3 * i) 1000 (omega arith) in
      omega (arith, there.priority, draws.priority, same, begun.count, one, other);
  mask = rw begun.processors (mask_is_mask number m i mask some draws.members);
}

pub next_is_drawn : (number m i urgency mask state : ℕ) (set : SetData) → HasDrawnTasks number m i state set → (next : ℕ)
    → DrawsTask number m i next urgency mask → HasDrawnTasks number m (i + 1) next (with_task set (new_task (task_name i) urgency mask))
next_is_drawn number m i urgency mask state set begun next draws = record {
  processors = begun.processors;
  count = omega (arith, begun.count, length-append set.tasks (new_task (task_name i) urgency mask ∷ []));
  each_task = λ k task found. elim (before_or_last set.tasks (new_task (task_name i) urgency mask) k task found) [
    | inl there ↦ begun.each_task k task there
    | inr last ↦ rw (last.0, begun.count, last.1) record { name = refl; priority = draws.priority; mask = draws.members }
  ];
  at = draws.state;
}
