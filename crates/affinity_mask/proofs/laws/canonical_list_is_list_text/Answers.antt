use Rattle.affinity_mask.proofs.Runs.{canonical_list-IsListText}
use Rattle.affinity_mask.proofs.laws.canonical_list_is_list_text.Goals as goal

pub returns : goal.returns
returns c = canonical_list-IsListText
