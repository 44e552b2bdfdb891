use Rattle.std.proofs.Common.{◌≡◌, true}
use Rattle.schedule_picture.specs.Picture.{lanes_group, rows_group, spans_in}
use Rattle.schedule_picture.proofs.Grouped.{lanes_group_are, rows_group_are, whole}
use Rattle.schedule_picture.proofs.Pieces.{parts_joined}
use Rattle.schedule_picture.proofs.assembly.assembled.Goals as goal

pub returns : goal.returns
returns c =
    let processors : c.processors-lanes.result ≡ c.args.sheet.now.set.now.processors = c.processors-lanes.ensures.value in
    let places = c.args.sheet.now.places.now in
    let window = c.args.sheet.now.window in
    let set = c.args.sheet.now.set.now in
    let is_text =
    parts_joined _ _ _ _ _ _ _ _ _ _ _ _ _ _ _ _ _ _ c.new-text.ensures.items
    (rw c.deref.ensures.value at c.in_ok-write_word.ensures)
    (rw processors at c.in_ok-write_head.ensures)
    (rw (processors, c.deref-2.ensures.value, c.deref-3.ensures.value) at c.in_ok-write_lanes.ensures)
    c.in_ok-write_word-2.ensures
    (rw c.deref-4.ensures.value at c.in_ok-write_word-3.ensures)
    (rw c.max.ensures at c.in_ok-write_head-2.ensures)
    (rw c.deref-5.ensures.value at c.in_ok-write_rows.ensures)
    c.in_ok-write_word-4.ensures
    (rw c.deref-6.ensures.value at c.in_ok-write_word-5.ensures) in
    record {
      groups = record {
        top = c.lane_top.result;
        rows_top = c.rows_top.result;
        wide = c.args.page.wide;
        some_width = c.requires.wide;
        before = c.args.around.now.before.items;
        between = c.args.around.now.between.items;
        after = c.args.around.now.after.items;
        untitled_before = c.requires.begins true;
        untitled_between = c.requires.goes_on true;
        untitled_after = c.requires.ends true;
        is_text = is_text;
      };
      well_formed = whole c.args.around.now.before.items
          (lanes_group places set window (spans_in c.args.tracks.now.absences.items) (spans_in c.args.tracks.now.lanes.items)
          c.lane_top.result c.args.page.wide)
          c.args.around.now.between.items (rows_group places window (spans_in c.args.tracks.now.rows.items)
          c.args.listed.now c.rows_top.result c.args.page.wide) c.args.around.now.after.items _ is_text c.requires.begins
          (lanes_group_are places set window (spans_in c.args.tracks.now.absences.items) (spans_in c.args.tracks.now.lanes.items)
          c.lane_top.result c.args.page.wide c.processors-lanes.ensures.valid)
          c.requires.goes_on (rows_group_are places window (spans_in c.args.tracks.now.rows.items)
          c.args.listed.now c.rows_top.result c.args.page.wide) c.requires.ends;
    }
