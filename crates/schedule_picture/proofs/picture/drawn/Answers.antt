use Rattle.std.proofs.Common.{arith, ◌∙◌, length, ap}
use Rattle.schedule_picture.proofs.Pictures.{picture_of}
use Rattle.schedule_picture.proofs.picture.drawn.Goals as goal

pub returns : goal.returns
returns c =
    picture_of c.args.axis c.args.schedule.now.set c.args.schedule.now.entries c.args.window c.cut.result c.args.tracks.now
    c.in_ok-listed.listed.items c.in_ok-text.text.items c.as_slice-all.result.now c.end_in-end.result (length c.entries.result.now)
    c.requires.spans (omega (arith, c.in_ok-listed.ensures.few, c.in_ok-listed.listed.ok.0))
    (rw (c.set.ensures.value, c.deref.ensures.value) at c.in_ok-listed.ensures.listing)
    (c.as_slice-all.ensures.value ∙ c.requires.places) (ap length c.entries.ensures.value) c.end_in-end.ensures c.cut.ensures
    (rw (c.set.ensures.value, c.deref-2.ensures.value) at c.in_ok-text.ensures.groups) c.in_ok-text.ensures.well_formed
