use Rattle.affinity_mask.proofs.ListTexts.{list_text-one_fault}
use Rattle.affinity_mask.proofs.laws.list_text_has_one_fault.Goals as goal

pub returns : goal.returns
returns c = list_text-one_fault
