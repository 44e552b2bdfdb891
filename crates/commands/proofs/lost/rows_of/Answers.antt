use Rattle.std.proofs.Common.{◌<◌, ◌^◌, Bool, List, [], ◌∷◌, ◌++◌, Option, take, get_or, sym, ap, ◌∙◌}
use Rattle.std.specs.Prelude.{IfSome}
use Rattle.std.proofs.lemmas.List.Elements.{All-get_or}
use Rattle.trace_losses.specs.declared.loss.Loss.{Loss}
use Rattle.kernel_trace.specs.declared.loss_text.LossRow.{LossRow}
use Rattle.commands.specs.Lost.{told_row, told_rows}
use Rattle.commands.specs.LostChain.{no_loss}
use Rattle.commands.proofs.LossRows.{told_more}
use Rattle.commands.proofs.lost.rows_of.Goals as goal

pub told_row-requires : goal.told_row-requires
told_row-requires c =
    All-get_or (λ (loss : Loss). IfSome loss.rival (λ t. t < 2 ^ 32)) c.args.losses.now c.loop-t.t no_loss c.loop-t-test.true
    c.requires.rivals

pub loop-t-preserved : goal.loop-t-preserved
loop-t-preserved c =
    let losses = c.args.losses.now in
    let rows : List (Option LossRow) = c.loop-t.rows.items in
    let loss : Loss = get_or losses c.loop-t.t no_loss in
    let one : Option LossRow = c.told_row.result in
    let told = c.told_row.ensures ∙ ap (λ (b : Bool). told_row b loss) c.is_mentioned.ensures in
    c.in_ok-push.ensures.items
    ∙ ap (λ (list : List (Option LossRow)). list ++ one ∷ []) c.loop-t.invariant
    ∙ ap (λ (row : Option LossRow). told_rows c.args.trace.now.mentioned 0 (take c.loop-t.t losses) ++ row ∷ []) told
    ∙ sym (told_more c.args.trace.now.mentioned c.loop-t.t losses c.loop-t-test.true)
