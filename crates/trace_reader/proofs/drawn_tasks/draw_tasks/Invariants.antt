use Rattle.trace_reader.specs.Drawing.{HasDrawnTasks}
use Rattle.trace_reader.proofs.drawn_tasks.draw_tasks.Given as goal

abbrev pub invariant-loop-i : goal.invariant-loop-i
invariant-loop-i l = HasDrawnTasks l.fn.generator.state l.processors l.i l.generator.state l.set
