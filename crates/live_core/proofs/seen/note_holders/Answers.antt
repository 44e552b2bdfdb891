use Rattle.std.proofs.Common.{sym, ◌∙◌, subst, arith}
use Rattle.std.proofs.Common.{List, Option, ℕ, ◌+◌}
use Rattle.strong_apa.proofs.Linked.{linked_number}
use Rattle.live_core.proofs.Noting.{IsNotedBelow, noted_first, noted_none, noted_more, noted_moved, noted_others}
use Rattle.live_core.proofs.seen.note_holders.Goals as goal
use Rattle.live_core.proofs.seen.note_holders.Goals.{in-Some, in_default}

pub loop-p-init : goal.loop-p-init
loop-p-init c = noted_first c.args.table.now c.args.seen.now c.requires

pub loop-p-preserved : goal.loop-p-preserved
loop-p-preserved c = elim c.match-on.branch [
  | in-Some w ↦ subst (λ (seen : List (Option ℕ)). IsNotedBelow c.args.table.now (c.loop-p.p + 1) c.args.seen.now seen) (sym w.seen-is)
      (noted_more c.args.table.now c.on.ensures.valid c.loop-p.p w.in-Some.u c.args.seen.now c.loop-p.seen
      (sym c.on.ensures.value ∙ w.in-Some.is) c.loop-p.invariant)
  | in_default w ↦ subst (λ (seen : List (Option ℕ)). IsNotedBelow c.args.table.now (c.loop-p.p + 1) c.args.seen.now seen) (sym w.seen-is)
      (noted_none c.args.table.now c.loop-p.p c.args.seen.now c.loop-p.seen (sym c.on.ensures.value ∙ w.in_default.is) c.loop-p.invariant)
]

pub returns-clause-moved : goal.returns-clause-moved
returns-clause-moved c = noted_moved c.args.table.now c.processors-p-end.ensures.valid c.args.seen.now c.loop-p.seen c.loop-p.p
    (let n = c.processors-p-end.ensures.value in let m = c.loop-p-test.false in omega arith) c.loop-p.invariant

pub returns-clause-others : goal.returns-clause-others
returns-clause-others c = noted_others c.args.table.now c.args.seen.now c.loop-p.seen c.loop-p.p c.loop-p.invariant

pub bounds-seen-u : goal.bounds-seen-u
bounds-seen-u c =
    let number = linked_number c.args.table.now c.loop-p.p c.in-Some.u c.in-Some.ensures.valid (sym c.in-Some.ensures.value) in
    let count = c.loop-p.invariant.count in
    omega arith
