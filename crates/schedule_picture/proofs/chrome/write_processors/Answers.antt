use Rattle.std.proofs.Common.{◌≡◌, ◌++◌, ℕ, refl, subst, arith}
use Rattle.std.specs.List.{flat_map, range_with_len}
use Rattle.schedule_picture.specs.Chrome.{lane_events}
use Rattle.schedule_picture.specs.Picture.{spans_in}
use Rattle.schedule_picture.proofs.Pieces.{pieces_none, pieces_more}
use Rattle.schedule_picture.proofs.chrome.write_processors.Goals as goal

pub loop-p-init : goal.loop-p-init
loop-p-init c =
    pieces_none (lane_events c.args.sheet.now.places.now c.args.sheet.now.set.now (spans_in c.args.lanes.now)) c.args.text.now.items

pub loop-p-preserved : goal.loop-p-preserved
loop-p-preserved c =
    pieces_more (lane_events c.args.sheet.now.places.now c.args.sheet.now.set.now (spans_in c.args.lanes.now))
    c.loop-p.p _ _ _ _ c.loop-p.invariant c.in_ok-write_events.ensures
    (rw c.spans_at.ensures refl)

pub returns : goal.returns
returns c =
    let all : c.loop-p.p ≡ c.args.count = omega arith in
    let P : ℕ → Type 0 =
    λ n. c.loop-p.text.items ≡ c.args.text.now.items
    ++ flat_map (lane_events c.args.sheet.now.places.now c.args.sheet.now.set.now (spans_in c.args.lanes.now)) (range_with_len 0 n) in
    subst P all c.loop-p.invariant
