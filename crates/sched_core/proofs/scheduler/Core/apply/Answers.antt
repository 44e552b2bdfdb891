use Rattle.std.proofs.Common.{◌≡◌, ◌∙◌, false, length, sym, ap}
use Rattle.std.proofs.lemmas.Result.{err_from_is_err_and}
use Rattle.sched_core.specs.CoreData.{CoreData}
use Rattle.sched_core.proofs.CoreBest.{core_unimprovable, core_best, core_largest, core_as_urgent}
use Rattle.sched_core.proofs.RoomMade.{answers_closed, answers_full, answers_memory, answers_applied}
use Rattle.sched_core.proofs.scheduler.Core.apply.Goals as goal

pub returns-then-self : goal.returns-then-self
returns-then-self c =
    let kept = c.history-place.ensures.valid in
    record {
      answer = answers_closed c.args.self.now c.args.caller c.args.event (sym (ap (λ (core : CoreData). core.closed) c.self.view_is)
          ∙ c.if-self.true);
      certified = kept.certificates;
      unimprovable = core_unimprovable _ kept;
      best = core_best _ kept;
      largest = core_largest _ kept;
      rank_by_rank = core_as_urgent _ kept;
    }

pub returns-then-place-eq-MAX_ENTRIES : goal.returns-then-place-eq-MAX_ENTRIES
returns-then-place-eq-MAX_ENTRIES c =
    let kept = c.history-place.ensures.valid in
    let still : c.args.self.now.closed ≡ false = sym (ap (λ (core : CoreData). core.closed) c.self.view_is) ∙ c.if-self.false in
    record {
      answer = answers_full c.args.self.now c.args.caller c.args.event still
          (sym (ap length c.history-place.ensures.value) ∙ c.if-place-eq-MAX_ENTRIES.true);
      certified = kept.certificates;
      unimprovable = core_unimprovable _ kept;
      best = core_best _ kept;
      largest = core_largest _ kept;
      rank_by_rank = core_as_urgent _ kept;
    }

pub returns-in_err-reserve : goal.returns-in_err-reserve
returns-in_err-reserve c =
    let kept = c.reserve.ensures.valid in
    let still : c.args.self.now.closed ≡ false = sym (ap (λ (core : CoreData). core.closed) c.self.view_is) ∙ c.if-self.false in
    let p = err_from_is_err_and c.from_residual.result c.from_residual.ensures.1 in
    record {
      answer = rw (p.1, p.2) (answers_memory c.args.self.now c.args.caller c.args.event c.reserve.new.self still
          (λ e. c.if-place-eq-MAX_ENTRIES.false (ap length c.history-place.ensures.value ∙ e)) c.reserve.ensures.kept
          (λ some. absurd (cc (c.in_err-reserve.ensures.spare some))));
      certified = kept.certificates;
      unimprovable = core_unimprovable _ kept;
      best = core_best _ kept;
      largest = core_largest _ kept;
      rank_by_rank = core_as_urgent _ kept;
    }

pub returns : goal.returns
returns c =
    let kept = c.enter.ensures.valid in
    let still : c.args.self.now.closed ≡ false = sym (ap (λ (core : CoreData). core.closed) c.self.view_is) ∙ c.if-self.false in
    record {
      answer = answers_applied c.args.self.now c.args.caller c.args.event c.reserve.new.self c.enter.new.self
          (length c.history-place.result.now) still (λ e. c.if-place-eq-MAX_ENTRIES.false (ap length c.history-place.ensures.value ∙ e))
          (ap length c.history-place.ensures.value) c.reserve.ensures.kept c.enter.ensures.applied;
      certified = kept.certificates;
      unimprovable = core_unimprovable _ kept;
      best = core_best _ kept;
      largest = core_largest _ kept;
      rank_by_rank = core_as_urgent _ kept;
    }
