use Rattle.affinity_mask.proofs.TextCases.{text_list_or_fault}
use Rattle.affinity_mask.proofs.laws.text_is_list_or_has_fault.Goals as goal

pub returns : goal.returns
returns c = text_list_or_fault
