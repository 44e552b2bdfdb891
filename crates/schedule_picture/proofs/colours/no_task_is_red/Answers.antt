use Rattle.schedule_picture.proofs.Shown.{colour_not_red}
use Rattle.schedule_picture.proofs.colours.no_task_is_red.Goals as goal

pub returns : goal.returns
returns c = colour_not_red
