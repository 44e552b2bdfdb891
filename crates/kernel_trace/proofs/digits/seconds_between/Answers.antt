use Rattle.std.proofs.Common.{◌≡◌, ◌≤◌, ◌-◌, ℕ, length, subst, sym, ◌∙◌, arith}
use Rattle.std.specs.Prelude.{min}
use Rattle.affinity_mask.specs.Number.{number_value}
use Rattle.kernel_trace.proofs.DigitValues.{first_of, goes_on, stops, all_places}
use Rattle.kernel_trace.proofs.digits.seconds_between.Goals as goal

pub returns-then-to-other : goal.returns-then-to-other
returns-then-to-other c =
    stops c.args.earlier.now c.args.later.now c.max-places.result c.loop-place.place c.loop-place.ahead c.digit_at-digit.result
    c.digit_at-other.result c.args.most
    c.requires.most.0 c.requires.earlier c.requires.later (omega arith) (omega arith) c.loop-place-test.true c.loop-place.invariant.0
    c.loop-place.invariant.1
    c.digit_at-digit.ensures c.digit_at-other.ensures (omega arith)

pub loop-place-preserved : goal.loop-place-preserved
loop-place-preserved c =
    let step = goes_on c.args.earlier.now c.args.later.now c.max-places.result c.loop-place.place c.loop-place.ahead c.digit_at-digit.result
    c.digit_at-other.result c.args.most
    c.requires.most.0 c.requires.earlier c.requires.later (omega arith) (omega arith) c.loop-place-test.true c.loop-place.invariant.0
    c.loop-place.invariant.1
    c.digit_at-digit.ensures c.digit_at-other.ensures (omega arith) in
    (step.0, c.min-ahead.ensures ∙ step.1)

pub returns : goal.returns
returns c =
    let last : c.loop-place.place ≡ c.max-places.result = omega arith in
    let fits : length c.args.earlier.now ≤ c.max-places.result = omega arith in
    let room : length c.args.later.now ≤ c.max-places.result = omega arith in
    let from : first_of c.max-places.result c.args.earlier.now c.loop-place.place ≡ number_value c.args.earlier.now =
    subst (λ (n : ℕ). first_of c.max-places.result c.args.earlier.now n ≡ number_value c.args.earlier.now) (sym last)
    (all_places c.max-places.result c.args.earlier.now fits) in
    let to : first_of c.max-places.result c.args.later.now c.loop-place.place ≡ number_value c.args.later.now =
    subst (λ (n : ℕ). first_of c.max-places.result c.args.later.now n ≡ number_value c.args.later.now) (sym last)
    (all_places c.max-places.result c.args.later.now room) in
    let P : ℕ → ℕ → Type 0 = λ x y. (x ≤ y) × (c.loop-place.ahead ≡ min (y - x) c.args.most) in
    subst (λ (x : ℕ). P x (number_value c.args.later.now)) from
    (subst (P (first_of c.max-places.result c.args.earlier.now c.loop-place.place)) to c.loop-place.invariant)
