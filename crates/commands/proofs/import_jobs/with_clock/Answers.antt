use Rattle.commands.proofs.ListedJobs.{clock_written}
use Rattle.commands.proofs.import_jobs.with_clock.Goals as goal

pub returns : goal.returns
returns c =
    clock_written c.args.clock c.args.list.now _ _ _ _ _ c.new-text.ensures.items c.in_ok-extend_from_slice.ensures.items
    c.in_ok-write_stamp.ensures
    c.in_ok-push.ensures.items c.in_ok-extend_from_slice-2.ensures.items
