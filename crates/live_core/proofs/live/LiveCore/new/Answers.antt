use Rattle.std.proofs.Common.{ℕ, List, Bool, Option, None, length, replicate, refl, sym, ap, subst, ◌∙◌, arith}
use Rattle.std.proofs.lemmas.Bool.{false≢true}
use Rattle.std.proofs.lemmas.List.{length-map, length-replicate}
use Rattle.task_set.specs.TaskSet.{TaskData}
use Rattle.strong_apa.specs.State.{State, IsState, task_count, is_ready}
use Rattle.strong_apa.proofs.Start.{IsState-start, none_ready}
use Rattle.strong_apa.specs.Certified.{HasCertificates}
use Rattle.strong_apa.proofs.Kept.{HasCertificates-start}
use Rattle.live_core.specs.MoveData.{MoveData}
use Rattle.live_core.specs.Seen.{SeenData}
use Rattle.live_core.proofs.live.LiveCore.new.Goals as goal

pub invariant_of-result : goal.invariant_of-result
invariant_of-result c = record {
  state = subst IsState (sym c.in_ok-links.ensures) (IsState-start c.args.set.now c.processors-processors.ensures.valid);
  certificates = subst HasCertificates (sym c.in_ok-links.ensures) (HasCertificates-start c.args.set.now);
  occupants =
      ap (λ (moves : MoveData). moves.occupants) c.in_ok-moves.ensures
      ∙ ap (λ (n : ℕ). replicate {A = Option ℕ} n None) c.processors-processors.ensures.value
      ∙ sym (ap (λ (s : State). s.on) c.in_ok-links.ensures);
  few = (let none = ap (λ (moves : MoveData). length moves.moves) c.in_ok-moves.ensures in omega arith);
  slots =
      ap (λ (in_use : List Bool). length in_use) c.in_ok-in_use.ensures
      ∙ length-replicate _ _
      ∙ c.len.ensures.value
      ∙ sym (length-map c.args.set.now.tasks (λ (task : TaskData). task.priority))
      ∙ sym (ap task_count c.in_ok-links.ensures);
  free_absent = λ t free. ap (λ (s : State). is_ready s t) c.in_ok-links.ensures ∙ none_ready (length c.args.set.now.tasks) t;
  tasks = rw (c.in_ok-links.ensures, c.in_ok-seen.ensures) record { processors = refl; priorities = refl };
  settled = λ settled. absurd (false≢true (sym (ap (λ (d : SeenData). d.is_settled) c.in_ok-seen.ensures) ∙ settled));
}
