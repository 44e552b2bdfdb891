use Rattle.std.proofs.Common.{◌≡◌, ℕ, List, subst}
use Rattle.trace_picture.specs.Picture.{drawn_text, listed_in, text_for}
use Rattle.trace_picture.specs.Scene.{scene_of}
use Rattle.trace_picture.proofs.Pieces.{parts_joined}
use Rattle.trace_picture.proofs.picture.picture_text.Goals as goal

pub returns : goal.returns
unfolding drawn_text
returns c =
    let scene = scene_of c.args.scene.now in
    let bars = c.args.bars.now in
    let listed : List ℕ = c.in_ok-listed.listed.items in
    let rows : listed ≡ listed_in scene bars = rw (c.len.ensures.value, c.deref.ensures.value) at c.in_ok-listed.ensures.listing in
    let is : c.put.new.text.items ≡ text_for scene listed c.step_of.result bars =
    parts_joined _ _ _ _ _ _ _ _ _ _ _ _ _ c.new-text.ensures.items
    (rw (c.page_for-page.ensures, c.deref-2.ensures.value, c.deref-3.ensures.value, c.processors-processors.ensures.value) at
    c.in_ok-write_around.ensures)
    (rw (c.page_for-page.ensures, c.deref-4.ensures.value, c.processors-processors.ensures.value) at c.in_ok-write_lanes.ensures)
    (rw (c.strong_top.ensures.value, c.page_for-page.ensures, c.deref-5.ensures.value, c.processors-processors.ensures.value) at
    c.in_ok-write_lanes-2.ensures)
    (rw (
      c.page_for-page.ensures,
      c.deref-2.ensures.value,
      c.deref-6.ensures.value,
      c.deref-7.ensures.value,
      c.processors-processors.ensures.value,
    ) at c.in_ok-write_rows_group.ensures)
    (rw (c.page_for-page.ensures, c.deref-2.ensures.value, c.processors-processors.ensures.value) at c.in_ok-write_legend.ensures)
    c.in_ok-put.ensures in
    record {
      step = c.step_of.result;
      some = c.step_of.ensures;
      is = subst (λ (l : List ℕ). c.put.new.text.items ≡ text_for scene l c.step_of.result bars) rows is;
    }
