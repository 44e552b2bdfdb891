use Rattle.std.proofs.Common.{◌≡◌, ℕ, ◌-◌, List, take, get_or, true, refl, ap, ◌∙◌, arith}
use Rattle.std.specs.Prelude.{min}
use Rattle.std.specs.Str.Parse.{AllDigits}
use Rattle.std.proofs.lemmas.List.{take_all}
use Rattle.affinity_mask.specs.Number.{number_value}
use Rattle.affinity_mask.proofs.Numbers.{digit-range, value-more}
use Rattle.text_fields.proofs.Words.{and_right}
use Rattle.kernel_trace.specs.Stamp.{is_number}
use Rattle.kernel_trace.specs.TraceLine.{begins, after_key, is_keyed}
use Rattle.kernel_trace.proofs.DigitValues.{number_digits, capped_step}
use Rattle.kernel_trace.proofs.key.number_of.Goals as goal

keyed_digits : (key field digits : List ℕ) → is_keyed key field ≡ true → digits ≡ after_key key field → AllDigits 10 digits
unfolding is_keyed
keyed_digits key field digits keyed same =
    number_digits digits (ap is_number same ∙ and_right (begins key field) (is_number (after_key key field)) keyed)

pub overflow_sub-digit : goal.overflow_sub-digit
overflow_sub-digit c =
    let all = keyed_digits c.args.key.now c.args.field.now c.behind-digits.result.now c.requires.keyed c.behind-digits.ensures in
    (digit-range c.behind-digits.result.now c.loop-digit.digit-index all c.loop-digit-test.true).0

pub loop-digit-preserved : goal.loop-digit-preserved
loop-digit-preserved c =
    let digits = c.behind-digits.result.now in
    let i = c.loop-digit.digit-index in
    let all = keyed_digits c.args.key.now c.args.field.now c.behind-digits.result.now c.requires.keyed c.behind-digits.ensures in
    capped_step (number_value (take i digits)) c.loop-digit.number (get_or digits i 0 - 48)
    c.min-number.result _ c.args.most c.loop-digit.invariant
    (value-more digits i (number_value (take i digits)) all c.loop-digit-test.true refl) c.min-number.ensures

pub returns : goal.returns
returns c =
    let digits = c.behind-digits.result.now in
    let whole : take c.loop-digit.digit-index digits ≡ digits = take_all c.loop-digit.digit-index digits (omega arith) in
    c.loop-digit.invariant ∙ ap (λ (text : List ℕ). min (number_value text) c.args.most) (whole ∙ c.behind-digits.ensures)
