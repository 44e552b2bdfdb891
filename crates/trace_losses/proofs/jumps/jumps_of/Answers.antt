use Rattle.std.proofs.Common.{ℕ, ◌+◌, true, false, get_or, sym, ◌∙◌, subst, arith}
use Rattle.std.specs.Prelude.{nat_eq}
use Rattle.std.proofs.lemmas.Option.{slice_get-get_or}
use Rattle.indexmap.specs.IndexMap.{get}
use Rattle.trace_losses.specs.Jumps.{IsJump, IsLast}
use Rattle.trace_losses.proofs.Counts.{count_most}
use Rattle.trace_losses.proofs.LastSwitches.{next_last, jumps_on}
use Rattle.trace_losses.proofs.Passed.{no_passage}
use Rattle.trace_losses.proofs.jumps.jumps_of.Goals as goal
use Rattle.trace_losses.proofs.jumps.jumps_of.Goals.{then-branch, else-branch}

pub overflow_add-jumps : goal.overflow_add-jumps
overflow_add-jumps c =
    let most = count_most (IsJump c.args.passages.now) 0 c.loop-i.i c.loop-i.jumps c.loop-i.invariant.jumps in
    let below = c.loop-i-test.true in
    omega (arith, most, below)

pub loop-i-preserved : goal.loop-i-preserved
loop-i-preserved c =
    let passages = c.args.passages.now in
    let i = c.loop-i.i in
    let last : ℕ → _ = get nat_eq c.loop-i.last in
    let passage = get_or passages i no_passage in
    let there = slice_get-get_or passages i no_passage c.loop-i-test.true in
    let is = c.in_ok-is_jump.ensures.jumps in
    record {
      last = λ p. subst (IsLast passages (i + 1) p) (sym (c.in_ok-is_jump.ensures.last p))
          (next_last passages i passage there last c.loop-i.invariant.last p);
      jumps = elim c.if-branch.branch [
        | then-branch w ↦
            jumps_on passages i passage there last c.loop-i.invariant.last true c.loop-i.jumps c.if-branch.jumps (sym w.if-branch.true ∙ is)
            w.jumps-is
            c.loop-i.invariant.jumps
        | else-branch w ↦
            jumps_on passages i passage there last c.loop-i.invariant.last false c.loop-i.jumps c.if-branch.jumps
            (sym w.if-branch.false ∙ is)
            (w.jumps-is ∙ omega arith) c.loop-i.invariant.jumps
      ];
    }
