use Rattle.std.proofs.Common.{arith, ◌∙◌, ◌∷◌, ◌≤◌, ap, sym, subst, length}
use Rattle.strong_apa.specs.State.{start_of}
use Rattle.strong_apa.specs.History.{IsLegal}
use Rattle.task_set.specs.TaskSet.{SetData}
use Rattle.event_history.specs.Boards.{BoardData}
use Rattle.event_history.specs.Gathering.{AllOf}
use Rattle.event_history.specs.Places.{CallersBelow}
use Rattle.event_history.proofs.Gathers.{of_board, covers, all_taken, all_tell}
use Rattle.event_history.proofs.Passes.{first_removed}
use Rattle.event_history.proofs.board.Board.close.Goals as goal

pub gather-requires-clause-passes : goal.gather-requires-clause-passes
gather-requires-clause-passes c =
    let board : BoardData = c.args.self in
    let some_pass : 1 ≤ length c.args.passes.items = omega (
      arith,
      c.requires.0,
      ap (λ (b : BoardData). b.callers) c.self.view_is,
      c.self.invariant.made.callers.0,
    ) in
    let parts = first_removed _ _ _ c.remove.ensures.value c.remove.ensures.items some_pass in
    let all : AllOf board.id (c.remove.result ∷ c.remove.new.self.items) = subst (AllOf board.id) parts (of_board board 0 _ c.requires.1) in
    subst (λ id. AllOf id c.remove.new.self.items) (sym (ap (λ (b : BoardData). b.id) c.self.view_is)) all.1

pub end-requires-clause-all : goal.end-requires-clause-all
end-requires-clause-all c = λ x below.
    let callers = ap (λ (b : BoardData). b.callers) c.self.view_is in
    covers c.args.self 0 c.args.passes.items _ c.gather.ensures.first.1.pass c.requires.1
    (all_taken c.args.self _ _ _ _ _ _ _ c.requires.0 (subst (λ n. 1 ≤ n) callers c.self.invariant.made.callers.0)
    c.remove.ensures.value c.remove.ensures.items c.state.view_is c.gather.ensures.kept c.gather.ensures.known) x (omega arith)
    (omega (arith, c.requires.0))

pub returns-clause-closed : goal.returns-clause-closed
returns-clause-closed c =
    let callers = ap (λ (b : BoardData). b.callers) c.self.view_is in
    let set = ap (λ (b : BoardData). b.set) c.self.view_is in
    record {
      start = c.end.ensures.start ∙ ap start_of set;
      legal = subst (λ (s : SetData). IsLegal s c.end.result.0.history) set c.end.ensures.legal;
      told = all_tell _ c.end.result.0.history c.end.result.0.closed _ c.args.passes.items c.end.ensures.fits c.gather.ensures.first.1.pass
          (all_taken c.args.self _ _ _ _ _ _ _ c.requires.0 (subst (λ n. 1 ≤ n) callers c.self.invariant.made.callers.0)
          c.remove.ensures.value c.remove.ensures.items c.state.view_is c.gather.ensures.kept c.gather.ensures.known);
      callers = subst (λ n. CallersBelow n c.end.result.0.history) (ap (λ (b : BoardData). b.callers) c.self.view_is) c.end.ensures.callers;
    }
