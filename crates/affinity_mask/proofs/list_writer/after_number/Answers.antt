use Rattle.std.proofs.Common.{ℕ, ◌+◌, ◌/◌, ◌%◌, List, [], ◌∷◌, ◌++◌, sym, ◌∙◌, ap, subst, arith}
use Rattle.affinity_mask.specs.ListSteps.{AfterFront}
use Rattle.affinity_mask.proofs.ListBytes.{one_digit, two_digits, then_after, none_after}
use Rattle.affinity_mask.proofs.list_writer.after_number.Goals as goal

pub returns-then-n-lt10 : goal.returns-then-n-lt10
returns-then-n-lt10 c =
    subst (λ (front : List ℕ). AfterFront c.args.text.now front c.after_byte.result)
    (sym (one_digit c.args.n (omega arith))) c.after_byte.ensures

pub returns-in-Some : goal.returns-in-Some
returns-in-Some c =
    subst (λ (front : List ℕ). AfterFront c.args.text.now front c.after_byte-in-Some.result)
    (sym (two_digits c.args.n (omega arith) (omega arith)))
    (then_after c.args.text.now ((48 + c.args.n / 10) ∷ []) ((48 + c.args.n % 10) ∷ []) c.in-Some.rest.now
    c.after_byte-in-Some.result c.in-Some.ensures c.after_byte-in-Some.ensures)

pub returns-in-None : goal.returns-in-None
returns-in-None c = λ after e.
    none_after c.args.text.now ((48 + c.args.n / 10) ∷ []) ((48 + c.args.n % 10) ∷ []) c.in-None.ensures after
    (e ∙ ap (λ (front : List ℕ). front ++ after) (two_digits c.args.n (omega arith) (omega arith)))
