use Rattle.std.proofs.Common.{arith, refl, inl, ◌∙◌, ◌++◌, sym, ap, List, ℕ, append-nil}
use Rattle.affinity_mask.specs.ListSteps.{list_below}
use Rattle.affinity_mask.proofs.Written.{list_below-zero}
use Rattle.affinity_mask.proofs.ListBytes.{prefix_kept}
use Rattle.affinity_mask.proofs.proc_set.ProcSet.append_list.Goals as goal

pub loop-low-init : goal.loop-low-init
loop-low-init c = (
  record { few = omega arith; apart = inl refl },
  c.in_ok-reserve.ensures.items ∙ sym (append-nil c.args.into.now.items)
      ∙ ap (λ (ys : List ℕ). c.args.into.now.items ++ ys) (sym (list_below-zero c.args.self.now)),
)

pub returns-in_err-append_item-clause-prefix : goal.returns-in_err-append_item-clause-prefix
returns-in_err-append_item-clause-prefix c =
    prefix_kept c.args.into.now.items (list_below c.args.self.now c.loop-low.from) c.loop-low.into.items _
    c.loop-low.invariant.1 c.append_item.ensures.prefix
