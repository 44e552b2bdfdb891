use Rattle.std.proofs.Common.{ℕ, None, List, [], ◌∷◌, ◌++◌, sym, ◌∙◌, ap, subst}
use Rattle.affinity_mask.specs.Number.{canonical_number}
use Rattle.affinity_mask.specs.ListText.{dash}
use Rattle.affinity_mask.specs.ListSteps.{AfterFront}
use Rattle.affinity_mask.proofs.ListBytes.{run_longer_text, then_after, none_after}
use Rattle.affinity_mask.proofs.list_writer.after_run.Goals as goal

pub returns-in-Some-after_byte : goal.returns-in-Some-after_byte
returns-in-Some-after_byte c =
    subst (λ (front : List ℕ). AfterFront c.args.text.now front c.after_number-in-Some-after_byte.result)
    (sym (run_longer_text c.args.low c.args.high c.if-low-high.false))
    (then_after c.args.text.now (canonical_number c.args.low) ((dash ∷ []) ++ canonical_number c.args.high)
    c.in-Some.rest.now c.after_number-in-Some-after_byte.result c.in-Some.ensures
    (then_after c.in-Some.rest.now (dash ∷ []) (canonical_number c.args.high) c.in-Some-after_byte.last.now
    c.after_number-in-Some-after_byte.result c.in-Some-after_byte.ensures c.after_number-in-Some-after_byte.ensures))

pub returns-in-None : goal.returns-in-None
returns-in-None c = λ after e.
    then_after c.args.text.now (canonical_number c.args.low) ((dash ∷ []) ++ canonical_number c.args.high)
    c.in-Some.rest.now None c.in-Some.ensures
    (none_after c.in-Some.rest.now (dash ∷ []) (canonical_number c.args.high) c.in-None.ensures) after
    (e ∙ ap (λ (front : List ℕ). front ++ after) (run_longer_text c.args.low c.args.high c.if-low-high.false))
