use Rattle.schedule_picture.proofs.Traced.{trace_is}
use Rattle.schedule_picture.proofs.chrome.chrome_text.Goals as goal

pub returns : goal.returns
returns c =
    trace_is c.args.start c.args.schedule.now.set c.args.schedule.now.entries c.args.tracks.now c.in_ok-moments.moments.items
    c.in_ok-text.text.items
    c.requires.spans (rw c.entries.ensures.value at c.in_ok-moments.ensures) c.in_ok-text.ensures
