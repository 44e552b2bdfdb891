-- A walk goes on over a passage.
use Rattle.std.proofs.Common.{◌≡◌, ℕ, ◌+◌, ◌-◌, ◌<◌, ◌≤◌, Bool, List, [], ◌∷◌, length, take, drop, get_or, Option, Some, None, refl, sym}
use Rattle.std.proofs.Common.{ap, ◌∙◌, subst, arith}
use Rattle.std.specs.Prelude.{reverse, slice_get}
use Rattle.std.specs.Option.{ForSome}
use Rattle.std.proofs.lemmas.Option.{slice_get-get_or}
use Rattle.task_set.specs.TaskSet.{SetData, IsTaskSet}
use Rattle.live_core.specs.Live.{LiveData}
use Rattle.strong_apa.specs.State.{start_of, task_count}
use Rattle.trace_passages.specs.Passages.{ArePassages, IsMentionOf}
use Rattle.trace_passages.specs.Turns.{AreThreads}
use Rattle.trace_passages.specs.declared.passage.Passage.{Passage}
use Rattle.trace_losses.specs.Passages.{ready_after_passages, turns_of}
use Rattle.trace_losses.specs.Runs.{IsArmed, restored_by}
use Rattle.trace_losses.specs.Walk.{AllInUse, IsPlaced, IsTrail, IsWalkAt, Restores, held_at_end}
use Rattle.trace_losses.specs.declared.former.Former.{Former}
use Rattle.trace_losses.proofs.Passed.{no_passage, before_next}
use Rattle.trace_losses.proofs.Placed.{placed_at_first}
use Rattle.trace_losses.proofs.SeenMoments.{count_of}

-- what stands for a former place where there is none
abbrev pub no_former : Former
no_former = record { stopped = None; from = None; to = None }

module _ (task_set : SetData) (passages : List Passage) (threads i : ℕ) (core : LiveData) (on first : List (Option ℕ))
    (formers : List Former)
    (are : ArePassages (length task_set.tasks) threads passages) (trail : IsTrail passages threads first formers)
    (at : IsWalkAt task_set passages threads (i - 1) core on) (some : 0 < i) (below : i < length passages) where
  abbrev passage : Passage
  passage = get_or passages (i - 1) no_passage

  abbrev former : Former
  former = get_or formers (length passages - i) no_former

  passage_is : slice_get passages (i - 1) ≡ Some passage
  passage_is = slice_get-get_or passages (i - 1) no_passage (omega (arith, below))

  former_is : slice_get formers (length passages - i) ≡ Some former
  former_is = slice_get-get_or formers (length passages - i) no_former (let each = trail.each in omega (arith, below, some, each))

  restores : Restores passages threads (i - 1) passage former
  restores =
      let place : length passages - 1 - (length passages - i) ≡ i - 1 = omega (arith, below, some) in
      subst (λ (k : ℕ). Restores passages threads k passage former) place
      (trail.restores (length passages - i) former passage former_is
      (subst (λ (k : ℕ). slice_get passages k ≡ Some passage) (sym place) passage_is))

  tasks_are : length core.links.priorities ≡ length task_set.tasks
  tasks_are = count_of task_set (ready_after_passages (reverse (take (i - 1) passages))) core.links at.placed

  pub first_within : IsMentionOf (task_count core.links) passage.first
  first_within x is = let count = tasks_are in let here = (are.each (i - 1) passage passage_is).first x is in omega (arith, count, here)

  pub second_within : IsMentionOf (task_count core.links) passage.second
  second_within x is = let count = tasks_are in let here = (are.each (i - 1) passage passage_is).second x is in omega (arith, count, here)

  pub turn_within : (n : ℕ) → n ≡ threads → ForSome passage.turn (AreThreads n)
  turn_within n same = subst (λ (m : ℕ). ForSome passage.turn (AreThreads m)) (sym same) (are.each (i - 1) passage passage_is).turn

  pub stopped_within : (n : ℕ) → n ≡ threads → ForSome former.stopped (λ t. t < n)
  stopped_within n same = subst (λ (m : ℕ). ForSome former.stopped (λ t. t < m)) (sym same) restores.within

  pub walk_on : (next : LiveData) (new : List (Option ℕ)) → AllInUse next
      → ((earlier : List Passage) → IsPlaced task_set (ready_after_passages earlier) core.links
      → IsPlaced task_set (ready_after_passages (passage ∷ earlier)) next.links)
      → new ≡ restored_by passage.turn former on → length new ≡ length on → IsWalkAt task_set passages threads i next new
  walk_on next new used placed moved same = record {
    used = used;
    placed =
        subst (λ (earlier : List Passage). IsPlaced task_set (ready_after_passages earlier) next.links) (before_next passages i some below)
        (placed (reverse (take (i - 1) passages)) at.placed);
    armed =
        (let place : i - 1 + 1 ≡ i = omega (arith, some) in
        subst (IsArmed (held_at_end passages) (turns_of (drop i passages))) (sym moved)
        (subst (λ (k : ℕ). IsArmed (held_at_end passages) (turns_of (drop k passages)) (restored_by passage.turn former on)) place
        (restores.again on at.count at.armed)));
    count = same ∙ at.count;
  }

-- before the first passage
pub walk_first : (task_set : SetData) (passages : List Passage) (threads : ℕ) (first on : List (Option ℕ)) (formers : List Former)
    (core : LiveData)
    → IsTaskSet task_set → IsTrail passages threads first formers → core.links ≡ start_of task_set → AllInUse core → on ≡ first
    → IsWalkAt task_set passages threads 0 core on
walk_first task_set passages threads first on formers core ok trail links used same = record {
  used = used;
  placed = subst (IsPlaced task_set (ready_after_passages [])) (sym links) (placed_at_first task_set ok);
  armed = subst (IsArmed (held_at_end passages) (turns_of passages)) (sym same) trail.armed;
  count = ap length same ∙ trail.count;
}
