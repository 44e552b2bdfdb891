use Rattle.nested_masks.proofs.OneNestedText as one
use Rattle.nested_masks.proofs.laws.nested_text_is_unique.Goals as goal

pub returns : goal.returns
returns c = one.nested_text_is_unique
