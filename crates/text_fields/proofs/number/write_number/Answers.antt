use Rattle.std.proofs.Common.{ℕ, List, ◌++◌, sym, ◌∙◌, ap, arith}
use Rattle.std.proofs.lemmas.Fmt.{decimal_digit}
use Rattle.text_fields.proofs.number.write_number.Goals as goal

pub returns-then-number-lt10 : goal.returns-then-number-lt10
returns-then-number-lt10 c =
    c.in_ok-push.ensures.items
    ∙ ap (λ (ds : List ℕ). c.args.text.now.items ++ ds) (sym (decimal_digit c.args.number (omega arith)))
