use Rattle.std.proofs.Common.{◌∙◌, Bool, sym, ap, subst}
use Rattle.task_set.specs.TaskSet.{SetData}
use Rattle.strong_apa.specs.State.{start_of}
use Rattle.strong_apa.specs.History.{IsLegal}
use Rattle.replay.specs.Places.{AllFrom}
use Rattle.replay.specs.Streams.{IsStreamedAt}
use Rattle.replay.proofs.Merging.{all_passes, merged, saw_closed}
use Rattle.replay.proofs.on_threads.settle_replay.Goals as goal

pub closed-requires : goal.closed-requires
closed-requires c =
    let done = c.requires.threaded in
    all_passes c.args.board c.args.events.now c.args.done.whole c.args.done.passes.items done.callers done.streamed

pub end_all-hands-requires-clause-core : goal.end_all-hands-requires-clause-core
end_all-hands-requires-clause-core c =
    let is = c.in-Ok.ensures.closed in
    record {
      start = is.start ∙ ap start_of (sym c.requires.one_set);
      legal = subst (λ (set : SetData). IsLegal set c.in-Ok.core.history) (sym c.requires.one_set) is.legal;
      closed = saw_closed c.in-Ok.core.history c.in-Ok.core.closed c.args.done.passes.items is.told c.requires.threaded.closed;
    }

pub returns-in-Ok-clause-core : goal.returns-in-Ok-clause-core
returns-in-Ok-clause-core c =
    let is = c.in-Ok.ensures.closed in
    let done = c.requires.threaded in
    record {
      over = record {
        start = is.start ∙ ap start_of (sym c.requires.one_set);
        legal = subst (λ (set : SetData). IsLegal set c.in-Ok.core.history) (sym c.requires.one_set) is.legal;
        closed = saw_closed c.in-Ok.core.history c.in-Ok.core.closed c.args.done.passes.items is.told done.closed;
      };
      merge = merged c.args.board c.args.events.now c.args.done.passes.items c.in-Ok.core c.requires.events done.callers
          (subst (λ (whole : Bool). AllFrom (IsStreamedAt c.args.board c.args.events.now whole) 0 c.args.done.passes.items)
          c.in-Ok.ensures.whole done.streamed) is;
    }
