use Rattle.std.proofs.Common.{arith, rules, ◌≢◌}
use Rattle.std.specs.Prelude.{codes}
use Rattle.schedule_text.proofs.Contexts.{last_none}
use Rattle.schedule_text.proofs.line.last_of.Goals as goal

pub returns-then-is_word : goal.returns-then-is_word
returns-then-is_word c = record { processor = tt; is_text = c.is_word.ensures.0 c.if-is_word.true }

pub returns-in_err-p : goal.returns-in_err-p
returns-in_err-p c =
    let no_dash : c.args.field.now ≢ codes "-" = search rules in
    rw c.from_residual.ensures (λ last f. last_none c.args.field.now last no_dash c.in_err-p.ensures f)

pub returns : goal.returns
returns c =
    let high = c.in_ok-p.ensures.range.1 in
    record { processor = omega (arith, high); is_text = c.in_ok-p.ensures.is_text }
