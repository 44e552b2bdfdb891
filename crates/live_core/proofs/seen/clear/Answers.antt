use Rattle.std.proofs.Common.{ℕ, ◌+◌, Option, sym, ap, ◌∙◌, subst, arith}
use Rattle.std.proofs.lemmas.Bool.{true≢false}
use Rattle.std.specs.Option.{is_some}
use Rattle.strong_apa.specs.State.{State}
use Rattle.live_core.proofs.Settling.{IsClearedBelow, cleared_first, cleared_same, cleared_more, cleared_whole}
use Rattle.live_core.proofs.seen.clear.Goals as goal
use Rattle.live_core.proofs.seen.clear.Goals.{then-is_some, else-is_some}

pub loop-p-init : goal.loop-p-init
loop-p-init c = cleared_first c.args.table.now

pub loop-p-preserved : goal.loop-p-preserved
loop-p-preserved c = elim c.if-is_some.branch [
  | then-is_some w ↦ subst (λ (table : State). IsClearedBelow c.args.table.now table (c.loop-p.p + 1)) (sym w.table-is)
      (cleared_more c.args.table.now c.loop-p.table w.unlink.new.self c.loop-p.p w.unlink.ensures.idle c.loop-p.invariant)
  | else-is_some w ↦ subst (λ (table : State). IsClearedBelow c.args.table.now table (c.loop-p.p + 1)) (sym w.table-is)
      (cleared_same c.args.table.now c.loop-p.table c.loop-p.p
      (λ u on. true≢false (ap (λ (o : Option ℕ). is_some o) (sym on ∙ sym c.on.ensures.value) ∙ sym c.is_some.ensures ∙ w.if-is_some.false))
      c.loop-p.invariant)
]

pub returns : goal.returns
returns c = record {
  same = c.loop-p.invariant.same;
  nobody = cleared_whole c.args.table.now c.loop-p.table c.processors-valid.ensures.valid c.loop-p.p
      (let n = c.processors-p-end.ensures.value in let m = c.loop-p-test.false in omega arith) c.loop-p.invariant;
}
