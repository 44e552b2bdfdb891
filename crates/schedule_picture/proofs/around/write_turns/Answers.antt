use Rattle.schedule_picture.proofs.around.write_turns.Goals as goal

pub returns : goal.returns
returns c = c.write_all_turns.ensures
