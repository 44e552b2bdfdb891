use Rattle.std.proofs.Common.{sym, ◌∙◌}
use Rattle.kernel_trace.proofs.event.read_switch.Goals as goal

pub read_coming-requires : goal.read_coming-requires
read_coming-requires c = sym c.has_coming.ensures ∙ c.if-has_coming.true
