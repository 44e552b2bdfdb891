use Rattle.std.proofs.Common.{◌≡◌, ◌++◌, ℕ, length, get_or, refl, subst, arith}
use Rattle.std.specs.List.{flat_map, range_with_len}
use Rattle.schedule_picture.specs.Group.{listed_row, rows_text}
use Rattle.schedule_picture.specs.Track.{fresh_track}
use Rattle.schedule_picture.proofs.Pieces.{pieces_none, pieces_more}
use Rattle.schedule_picture.proofs.groups.write_rows.Goals as goal

pub loop-k-init : goal.loop-k-init
loop-k-init c = pieces_none (listed_row c.args.sheet.now.places.now c.args.sheet.now.window
    (λ t. (get_or c.args.rows.now t fresh_track).spans) c.args.listed.now) c.args.text.now.items

pub loop-k-preserved : goal.loop-k-preserved
loop-k-preserved c =
    pieces_more (listed_row c.args.sheet.now.places.now c.args.sheet.now.window (λ t. (get_or c.args.rows.now t fresh_track).spans)
    c.args.listed.now)
    c.loop-k.k _ _ _ _ c.loop-k.invariant c.in_ok-write_row.ensures (rw (c.spans_at.ensures) refl)

pub returns : goal.returns
unfolding rows_text
returns c =
    let all : c.loop-k.k ≡ length c.args.listed.now = omega arith in
    let P : ℕ → Type 0 =
    λ n. c.loop-k.text.items ≡ c.args.text.now.items
    ++ flat_map (listed_row c.args.sheet.now.places.now c.args.sheet.now.window (λ t. (get_or c.args.rows.now t fresh_track).spans)
    c.args.listed.now) (range_with_len 0 n) in
    subst P all c.loop-k.invariant
