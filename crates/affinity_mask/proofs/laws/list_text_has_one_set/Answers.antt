use Rattle.affinity_mask.proofs.ListTexts.{list_text-one_set}
use Rattle.affinity_mask.proofs.laws.list_text_has_one_set.Goals as goal

pub returns : goal.returns
returns c = list_text-one_set
