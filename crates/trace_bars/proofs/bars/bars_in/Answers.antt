use Rattle.std.proofs.Common.{ℕ, subst}
use Rattle.trace_bars.specs.Bars.{AreBars, Shows}
use Rattle.trace_bars.specs.declared.mark.Kind.TheVariants.{Trace, Strong, Rows}
use Rattle.trace_bars.proofs.bars.bars_in.Goals as goal

pub returns : goal.returns
returns c = λ trace tracks at. record {
  of_trace =
      subst (λ (n : ℕ). AreBars (Shows trace Trace) n c.args.part.from c.args.part.to c.in_ok-ended.field-0.items) tracks.of_trace
      (c.in_ok-ended.ensures trace Trace c.args.part.from at.of_trace);
  of_strong =
      subst (λ (n : ℕ). AreBars (Shows trace Strong) n c.args.part.from c.args.part.to c.in_ok-ended-2.field-0.items) tracks.of_strong
      (c.in_ok-ended-2.ensures trace Strong c.args.part.from at.of_strong);
  of_rows =
      subst (λ (n : ℕ). AreBars (Shows trace Rows) n c.args.part.from c.args.part.to c.in_ok-ended-3.field-0.items) tracks.of_rows
      (c.in_ok-ended-3.ensures trace Rows c.args.part.from at.of_rows);
}
