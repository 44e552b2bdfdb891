use Rattle.schedule_picture.proofs.around.write_moves.Goals as goal

pub returns : goal.returns
returns c = c.write_arrows.ensures
