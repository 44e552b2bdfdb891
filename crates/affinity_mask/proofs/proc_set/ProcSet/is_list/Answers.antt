use Rattle.std.proofs.Common.{arith, refl, inl, ◌++◌, sym, ap, nat_eq, length, List, ℕ}
use Rattle.std.proofs.lemmas.Bool.{true≢false}
use Rattle.affinity_mask.proofs.Written.{list_below-zero}
use Rattle.affinity_mask.proofs.ListBytes.{not_list}
use Rattle.affinity_mask.proofs.proc_set.ProcSet.is_list.Goals as goal

pub loop-low-init : goal.loop-low-init
loop-low-init c = (
  record { few = omega arith; apart = inl refl },
  ap (λ (ys : List ℕ). ys ++ c.args.text.now) (sym (list_below-zero c.args.self.now)),
)

pub returns-in_default-after_item : goal.returns-in_default-after_item
returns-in_default-after_item c = (
  λ yes. absurd (true≢false (sym yes)),
  λ same. absurd (not_list c.args.self.now c.loop-low.from c.in-Some.low c.in-Some.high
      (nat_eq (length c.loop-low.rest.now) (length c.args.text.now)) c.args.text.now c.loop-low.rest.now
      c.count-valid.ensures.valid c.in-Some.ensures c.loop-low.invariant.1 refl c.in_default-after_item.ensures same),
)
