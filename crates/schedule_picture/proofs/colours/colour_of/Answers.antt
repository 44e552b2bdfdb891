use Rattle.std.proofs.Common.{refl}
use Rattle.schedule_picture.specs.declared.colours.TheConstants.{PALETTE}
use Rattle.schedule_picture.proofs.Shown.{colour_cut}
use Rattle.schedule_picture.proofs.colours.colour_of.Goals as goal

pub returns : goal.returns
returns c = colour_cut c.args.t PALETTE.now refl
