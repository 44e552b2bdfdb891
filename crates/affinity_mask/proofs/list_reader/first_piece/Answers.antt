use Rattle.std.proofs.Common.{◌∙◌, ap}
use Rattle.affinity_mask.proofs.Items.{pieces-cut, pieces-whole, lacks_from_none}
use Rattle.affinity_mask.specs.ListText.{comma}
use Rattle.affinity_mask.specs.ListFault.{pieces}
use Rattle.affinity_mask.proofs.list_reader.first_piece.Goals as goal

pub returns-in-Some-clause-cut : goal.returns-in-Some-clause-cut
returns-in-Some-clause-cut c =
    ap pieces c.in-Some.ensures.0 ∙ pieces-cut c.in-Some.piece.now c.in-Some.others.now
    (lacks_from_none comma c.in-Some.piece.now c.in-Some.ensures.1)

pub returns-in-None-clause-cut : goal.returns-in-None-clause-cut
returns-in-None-clause-cut c = pieces-whole c.args.text.now (lacks_from_none comma c.args.text.now c.in-None.ensures)
