use Rattle.std.proofs.Common.{◌≡◌, ◌+◌, ◌∙◌, ap, ℕ, length, arith}
use Rattle.schedule_picture.specs.Picture.{units_of}
use Rattle.schedule_picture.proofs.Moments.{moments_more, moment_more, moment_end, units_few}
use Rattle.schedule_picture.proofs.axis.moments.Goals as goal

pub loop-entry-preserved : goal.loop-entry-preserved
loop-entry-preserved c =
    let units : c.from-moment.result ≡ units_of c.entry-item.result.event = c.from-moment.ensures ∙ c.units_of.ensures in
    let now = moment_more c.args.start c.args.entries.now c.loop-entry.entry-index c.loop-entry.moment c.entry-item.result
    c.loop-entry-test.true c.entry-item.is c.loop-entry.invariant.now in
    record {
      places = moments_more c.args.start c.args.entries.now c.loop-entry.entry-index c.loop-entry.moment _ _ c.loop-entry.invariant.now
          c.loop-entry.invariant.places c.in_ok-push.ensures.items;
      now = ap (λ (n : ℕ). c.loop-entry.moment + n) units ∙ now;
      few =
          let has = c.requires.units c.loop-entry.entry-index c.entry-item.result c.loop-entry-test.true in
          let bound = units_few c.entry-item.result.event (rw (← c.entry-item.is) at has) in
          let before = c.loop-entry.invariant.few in
          omega arith;
    }

pub returns : goal.returns
returns c =
    let all : c.loop-entry.entry-index ≡ length c.args.entries.now = omega arith in
    let end = moment_end c.args.entries.now c.loop-entry.entry-index (omega arith) in
    let first = moments_more c.args.start c.args.entries.now c.loop-entry.entry-index c.loop-entry.moment _ _ c.loop-entry.invariant.now
    c.loop-entry.invariant.places c.in_ok-push-2.ensures.items in
    let second = moments_more c.args.start c.args.entries.now (c.loop-entry.entry-index + 1) c.loop-entry.moment _ _
    (c.loop-entry.invariant.now ∙ ap (λ (m : ℕ). c.args.start + m) end) first c.in_ok-push-3.ensures.items in
    rw (← all) (rw two second)
  where
    two : (n : ℕ) → n + 2 ≡ n + 1 + 1
    two n = omega arith
