use Rattle.kernel_trace.proofs.Imported.{import_is_faithful}
use Rattle.kernel_trace.proofs.laws.import_is_faithful.Goals as goal

pub returns : goal.returns
returns c = import_is_faithful
