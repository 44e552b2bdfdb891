use Rattle.std.proofs.Common.{◌≡◌, ◌++◌, ℕ, append_assoc, subst, arith}
use Rattle.std.specs.List.{flat_map, range_with_len}
use Rattle.trace_picture.specs.Around.{axis_text, tick_at}
use Rattle.trace_picture.specs.Page.{bottom}
use Rattle.trace_picture.specs.Scene.{scene_of}
use Rattle.trace_picture.proofs.Pieces.{pieces_none, pieces_more}
use Rattle.trace_picture.proofs.around.write_axis.Goals as goal

pub loop-i-init : goal.loop-i-init
loop-i-init c = pieces_none (tick_at (scene_of c.args.scene.now) (bottom c.args.page) c.args.step) c.args.text.now.items

pub loop-i-preserved : goal.loop-i-preserved
loop-i-preserved c =
    pieces_more (tick_at (scene_of c.args.scene.now) (bottom c.args.page) c.args.step) c.loop-i.i _ _ _ c.loop-i.invariant
    (rw c.bottom-bottom.ensures.value at c.in_ok-write_tick_at.ensures)

pub returns : goal.returns
unfolding axis_text
returns c =
    let all : c.loop-i.i ≡ 14 = omega arith in
    let P : ℕ → Type 0 =
    λ n. c.loop-i.text.items ≡ c.args.text.now.items
    ++ flat_map (tick_at (scene_of c.args.scene.now) (bottom c.args.page) c.args.step) (range_with_len 0 n) in
    let ticks : P 14 = subst P all c.loop-i.invariant in
    rw (c.in_ok-put.ensures, c.deref.ensures, c.in_ok-line.ensures.ok, c.bottom-bottom.ensures.value, ticks) (simp append_assoc)
