use Rattle.affinity_mask.proofs.ListTexts.{list_text-no_fault}
use Rattle.affinity_mask.proofs.laws.list_text_has_no_fault.Goals as goal

pub returns : goal.returns
returns c = list_text-no_fault
