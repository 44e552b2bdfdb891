use Rattle.std.proofs.Common.{ℕ, sym, subst}
use Rattle.trace_bars.specs.Bars.{Shows}
use Rattle.trace_bars.specs.Tracks.{IsLayerAt}
use Rattle.trace_bars.specs.declared.mark.Kind.TheVariants.{Trace, Strong, Rows}
use Rattle.trace_bars.proofs.bars.Layers.new.Goals as goal

pub returns-clause-layers : goal.returns-clause-layers
returns-clause-layers c = λ trace part is. record {
  of_trace =
      subst (λ (n : ℕ). IsLayerAt (Shows trace Trace) n part.to c.args.first c.in_ok-trace.trace.tracks.items
      c.in_ok-trace.trace.bars.items) (sym is)
      (c.in_ok-trace.ensures.layer trace Trace part.to);
  of_strong =
      subst (λ (n : ℕ). IsLayerAt (Shows trace Strong) n part.to c.args.first c.in_ok-strong.strong.tracks.items
      c.in_ok-strong.strong.bars.items)
      (sym is) (c.in_ok-strong.ensures.layer trace Strong part.to);
  of_rows =
      subst (λ (n : ℕ). IsLayerAt (Shows trace Rows) n part.to c.args.first c.in_ok-rows.rows.tracks.items c.in_ok-rows.rows.bars.items)
      (sym is)
      (c.in_ok-rows.ensures.layer trace Rows part.to);
}
