use Rattle.std.proofs.Common.{◌≡◌, ℕ, ◌+◌, ◌<◌, ◌≤◌, vec_len, get_or, Some}
use Rattle.std.specs.Vec.{vec_capacity}
use mathlib.Core.Option.{some}
use lib.ListN.{get_elem?}
use Rattle.task_set.specs.Context.{fresh_context}
use Rattle.context_slots.proofs.turn_words.open.Given as goal

abbrev pub invariant-loop-t : goal.invariant-loop-t
invariant-loop-t l = record {
  words : vec_len l.words ≡ l.t;
  slots : vec_len l.slots ≡ l.t;
  room : (l.tasks + 1 ≤ vec_capacity l.words) × (l.tasks + 1 ≤ vec_capacity l.slots);
  zero_words : (k : ℕ) → get_or l.words.items k 0 ≡ 0;
  at_home : (k : ℕ) → k < l.t → get_elem? l.slots.items k ≡ some (Some (fresh_context k));
}
