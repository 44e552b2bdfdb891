use Rattle.std.proofs.Common.{List, take, sym, subst}
use Rattle.std.proofs.lemmas.List.{take_more}
use Rattle.kernel_trace.specs.declared.loss_text.ThreadRow.{ThreadRow}
use Rattle.commands.proofs.LostThreads.{IsFound, no_row}
use Rattle.commands.proofs.lost_threads.most.Goals as goal

pub loop-i-preserved : goal.loop-i-preserved
loop-i-preserved c =
    let rows : List ThreadRow = c.args.rows.now in
    subst (λ (list : List ThreadRow). IsFound list c.greater-found.result) (sym (take_more rows c.loop-i.i no_row c.loop-i-test.true))
    (c.greater-found.ensures (take c.loop-i.i rows) c.loop-i.invariant)
