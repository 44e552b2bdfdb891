use Rattle.std.proofs.Common.{◌≡◌, List, take, length, arith, ap, subst, ◌∙◌}
use Rattle.std.proofs.Math.Seq.{take-length}
use Rattle.trace_reader.specs.declared.posted.Posted.{Posted}
use Rattle.event_history.specs.Merging.{AreEventsAt}
use Rattle.event_history.proofs.Merging.{posted_events_stay}
use Rattle.replay.specs.Merge.{events_of_stream}
use Rattle.replay.proofs.Posts.{pass_stays}
use Rattle.replay.proofs.streams.post_stream.Goals as goal

pub returns : goal.returns
returns g c =
    let stream = c.args.pass.caller in
    let board = c.args.board.now in
    let events : List Posted = c.args.events.now in
    let i = c.loop-posted.invariant in
    let at_end : c.loop-posted.posted-index ≡ length events = omega arith in
    let all : take c.loop-posted.posted-index events ≡ events = ap (λ n. take n events) at_end ∙ take-length events in
    record {
      own = pass_stays board stream c.loop-posted.pass c.flush.new.pass i.own c.flush.ensures.grown c.flush.ensures.eyes;
      posted = λ whole. posted_events_stay c.loop-posted.pass c.flush.new.pass (events_of_stream stream events)
          c.flush.ensures.grown c.flush.ensures.mine
          (subst (λ (es : List Posted). AreEventsAt c.loop-posted.pass.seen c.loop-posted.pass.mine (events_of_stream stream es))
          all i.events);
    }
