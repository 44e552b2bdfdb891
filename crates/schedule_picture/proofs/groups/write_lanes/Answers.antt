use Rattle.std.proofs.Common.{◌≡◌, ◌++◌, ℕ, get_or, refl, subst, arith}
use Rattle.schedule_picture.specs.Group.{lane_text, lanes_text}
use Rattle.schedule_picture.specs.Track.{fresh_track}
use Rattle.schedule_picture.proofs.Pieces.{pieces_none, pieces_more}
use Rattle.schedule_picture.proofs.groups.write_lanes.Goals as goal

pub loop-p-init : goal.loop-p-init
loop-p-init c = pieces_none (λ p. lane_text c.args.sheet.now.places.now c.args.sheet.now.window c.args.sheet.now.set.now p
    (get_or c.args.absences.now p fresh_track).spans (get_or c.args.lanes.now p fresh_track).spans) c.args.text.now.items

pub loop-p-preserved : goal.loop-p-preserved
loop-p-preserved c =
    pieces_more (λ p. lane_text c.args.sheet.now.places.now c.args.sheet.now.window c.args.sheet.now.set.now p
    (get_or c.args.absences.now p fresh_track).spans (get_or c.args.lanes.now p fresh_track).spans)
    c.loop-p.p _ _ _ _ c.loop-p.invariant c.in_ok-write_processor.ensures (rw (c.spans_at-off_line.ensures, c.spans_at-stays.ensures) refl)

pub returns : goal.returns
unfolding lanes_text
returns c =
    let all : c.loop-p.p ≡ c.args.count = omega arith in
    let P : ℕ → Type 0 =
    λ n. c.loop-p.text.items ≡ c.args.text.now.items
    ++ lanes_text c.args.sheet.now.places.now c.args.sheet.now.window c.args.sheet.now.set.now
    (λ p. (get_or c.args.absences.now p fresh_track).spans) (λ p. (get_or c.args.lanes.now p fresh_track).spans) n in
    subst P all c.loop-p.invariant
