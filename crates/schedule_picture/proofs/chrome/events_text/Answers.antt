use Rattle.std.proofs.Common.{◌≡◌}
use Rattle.schedule_picture.proofs.Traced.{trace_joined}
use Rattle.schedule_picture.proofs.chrome.events_text.Goals as goal

pub returns : goal.returns
returns c =
    let processors : c.processors-processors.result ≡ c.args.sheet.now.set.now.processors = c.processors-processors.ensures.value in
    trace_joined _ _ _ _ _ _ _ _ _ c.new-text.ensures.items c.in_ok-write_word.ensures (rw processors at c.in_ok-write_threads.ensures)
    (rw processors at c.in_ok-write_processors.ensures) c.in_ok-write_word-2.ensures
