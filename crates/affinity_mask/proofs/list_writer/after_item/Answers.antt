use Rattle.std.proofs.Common.{ℕ, List, [], ◌∷◌, ◌++◌, sym, ◌∙◌, ap, subst}
use Rattle.affinity_mask.specs.ListText.{comma, run_text}
use Rattle.affinity_mask.specs.ListSteps.{AfterFront}
use Rattle.affinity_mask.proofs.ListBytes.{item_first, item_later, then_after, none_after}
use Rattle.affinity_mask.proofs.list_writer.after_item.Goals as goal

pub returns-then-is_first : goal.returns-then-is_first
returns-then-is_first c =
    subst (λ (front : List ℕ). AfterFront c.args.text.now front c.after_run.result)
    (sym (item_first c.args.is_first c.args.low c.args.high c.if-is_first.true)) c.after_run.ensures

pub returns-in-Some : goal.returns-in-Some
returns-in-Some c =
    subst (λ (front : List ℕ). AfterFront c.args.text.now front c.after_run-in-Some.result)
    (sym (item_later c.args.is_first c.args.low c.args.high c.if-is_first.false))
    (then_after c.args.text.now (comma ∷ []) (run_text (c.args.low, c.args.high)) c.in-Some.run'.now
    c.after_run-in-Some.result c.in-Some.ensures c.after_run-in-Some.ensures)

pub returns-in-None : goal.returns-in-None
returns-in-None c = λ after e.
    none_after c.args.text.now (comma ∷ []) (run_text (c.args.low, c.args.high)) c.in-None.ensures after
    (e ∙ ap (λ (front : List ℕ). front ++ after) (item_later c.args.is_first c.args.low c.args.high c.if-is_first.false))
