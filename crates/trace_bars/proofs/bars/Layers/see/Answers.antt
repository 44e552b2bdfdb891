use Rattle.trace_bars.proofs.bars.Layers.see.Goals as goal

pub returns-clause-on : goal.returns-clause-on
returns-clause-on c = λ trace part next some within are at. record {
  of_trace = c.in_ok-see.ensures.on trace part.from part.to next some within are at.of_trace;
  of_strong = c.in_ok-see-2.ensures.on trace part.from part.to next some within are at.of_strong;
  of_rows = c.in_ok-see-3.ensures.on trace part.from part.to next some within are at.of_rows;
}
