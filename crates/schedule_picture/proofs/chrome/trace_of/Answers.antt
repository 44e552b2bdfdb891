use Rattle.schedule_picture.proofs.chrome.trace_of.Goals as goal

pub returns : goal.returns
returns c = rw (c.set.ensures.value, c.deref.ensures.value, c.as_slice-all.ensures.value) at c.in_ok-text.ensures
