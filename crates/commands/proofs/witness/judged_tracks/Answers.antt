use Rattle.commands.proofs.witness.judged_tracks.Goals as goal

pub judge-requires : goal.judge-requires
judge-requires c = rw c.set.ensures.value at (c.new-tracker.ensures c.args.schedule.now.entries)
