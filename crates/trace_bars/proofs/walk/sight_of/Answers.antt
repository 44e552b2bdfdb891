use Rattle.std.proofs.Common.{arith, ap, refl, false}
use Rattle.trace_losses.specs.declared.seen.Seen.{Seen}
use Rattle.trace_losses.proofs.SeenMoments.{none_linked, none_seen}
use Rattle.trace_bars.proofs.walk.sight_of.Goals as goal

pub returns-else-t-len : goal.returns-else-t-len
returns-else-t-len c =
    let count = c.len.ensures in
    let from = c.if-t-len.false in
    record {
      ready = ap (λ (seen : Seen). seen.ready) (none_seen c.args.links.now c.processors-valid.ensures.valid c.args.t
          (omega (arith, count, from)) false);
      linked = record {
        there = tt;
        nowhere =
            (λ none. none_linked c.args.links.now c.processors-valid.ensures.valid c.args.t (omega (arith, count, from)), λ unlinked. refl);
      };
      on = refl;
    }
