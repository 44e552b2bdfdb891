use Rattle.std.proofs.Common.{◌≡◌, ℕ, ◌+◌, ◌-◌, take, get_or, refl, ap, ◌∙◌, arith}
use Rattle.affinity_mask.specs.Number.{number_value}
use Rattle.kernel_trace.specs.Stamp.{to_nine, fraction_value}
use Rattle.kernel_trace.proofs.DigitValues.{nine_below, nine_step, all_nine}
use Rattle.kernel_trace.proofs.digits.nanos_of.Goals as goal

pub overflow_mul-nanos : goal.overflow_mul-nanos
overflow_mul-nanos c =
    let next = nine_step c.args.digits.now c.loop-place.place c.loop-place.nanos
    (get_or (to_nine c.args.digits.now) c.loop-place.place 0 - 48) c.requires.digits c.requires.few c.loop-place-test.true
    c.loop-place.invariant refl in
    let below = nine_below c.args.digits.now (c.loop-place.place + 1) c.requires.digits c.requires.few in
    omega (arith, next, below)

pub overflow_add-nanos : goal.overflow_add-nanos
overflow_add-nanos c =
    let next = nine_step c.args.digits.now c.loop-place.place c.loop-place.nanos c.digit_or_zero.result c.requires.digits c.requires.few
    c.loop-place-test.true c.loop-place.invariant c.digit_or_zero.ensures in
    let below = nine_below c.args.digits.now (c.loop-place.place + 1) c.requires.digits c.requires.few in
    omega (arith, next, below)

pub loop-place-preserved : goal.loop-place-preserved
loop-place-preserved c =
    nine_step c.args.digits.now c.loop-place.place c.loop-place.nanos c.digit_or_zero.result c.requires.digits c.requires.few
    c.loop-place-test.true c.loop-place.invariant c.digit_or_zero.ensures

pub returns-clause-value : goal.returns-clause-value
unfolding fraction_value
returns-clause-value c =
    let last : c.loop-place.place ≡ 9 = omega arith in
    c.loop-place.invariant ∙ ap (λ (n : ℕ). number_value (take n (to_nine c.args.digits.now))) last
    ∙ all_nine c.args.digits.now c.requires.few

pub returns-clause-bound : goal.returns-clause-bound
returns-clause-bound c =
    let below = nine_below c.args.digits.now c.loop-place.place c.requires.digits c.requires.few in
    let is = c.loop-place.invariant in
    omega (arith, below, is)
