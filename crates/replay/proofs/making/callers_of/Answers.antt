use Rattle.std.proofs.Common.{◌≡◌, ◌<◌, take, length, arith, All, ap, ◌∙◌, subst, sym, List}
use Rattle.std.proofs.lemmas.List.Elements.{All-more, All-weaker, All-get_or}
use Rattle.std.proofs.Math.Seq.{take-length}
use Rattle.trace_reader.specs.declared.posted.Posted.{Posted}
use Rattle.replay.proofs.making.callers_of.Goals as goal

pub loop-posted-preserved : goal.loop-posted-preserved
loop-posted-preserved c =
    let events : List Posted = c.args.events.now in
    let i = c.loop-posted.invariant in
    let more = c.with_stream-callers.ensures.more in
    record {
      least = omega (arith, i.least, more.0);
      most = more.1;
      above = All-more (λ (p : Posted). p.stream < c.with_stream-callers.result) events c.loop-posted.posted-index _ c.loop-posted-test.true
          (All-weaker (λ (p : Posted). p.stream < c.loop-posted.callers) (λ (p : Posted). p.stream < c.with_stream-callers.result)
          (λ p low. omega (arith, low, more.0)) (take c.loop-posted.posted-index events) i.above)
          (subst (λ (p : Posted). p.stream < c.with_stream-callers.result) c.posted-item.is c.with_stream-callers.ensures.above);
      fewest = λ n some all. c.with_stream-callers.ensures.least n (i.fewest n some all)
          (subst (λ (p : Posted). p.stream < n) (sym c.posted-item.is)
          (All-get_or (λ (p : Posted). p.stream < n) events c.loop-posted.posted-index _ c.loop-posted-test.true all));
    }

pub returns-clause-above : goal.returns-clause-above
returns-clause-above c =
    let events : List Posted = c.args.events.now in
    let at_end : c.loop-posted.posted-index ≡ length events = omega arith in
    subst (All (λ (p : Posted). p.stream < c.loop-posted.callers)) (ap (λ n. take n events) at_end ∙ take-length events)
    c.loop-posted.invariant.above

pub returns-clause-least : goal.returns-clause-least
returns-clause-least c = c.loop-posted.invariant.fewest
