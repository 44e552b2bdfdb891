use Rattle.trace_reader.proofs.OneInput.{one_input}
use Rattle.trace_reader.proofs.generated_laws.generated_input_is_one.Goals as goal

pub returns : goal.returns
returns c = one_input
