use Rattle.std.proofs.Common.{◌≡◌, ◌<◌, List, length, get_or, ap, ◌∙◌, arith, rules, length-set}
use Rattle.std.specs.Prelude.{slice_set}
use Rattle.std.proofs.lemmas.List.Edits.{map_over_more}
use Rattle.kernel_trace.specs.declared.loss_text.ThreadRow.{ThreadRow}
use Rattle.commands.specs.LostThreads.{rested}
use Rattle.commands.proofs.lost_threads.rest.Goals as goal

pub loop-i-preserved : goal.loop-i-preserved
loop-i-preserved c =
    let f : ThreadRow → ThreadRow = rested c.args.id in
    let all : List ThreadRow = c.args.rows.now.items in
    let now : List ThreadRow = c.loop-i.rows.items in
    let one : ThreadRow = c.index.result.now in
    let below : c.loop-i.i < length now = search rules in
    let same : length now ≡ length all = c.loop-i.invariant.1 in
    let there : one ≡ get_or now c.loop-i.i one = search rules in (
      ap (slice_set now c.loop-i.i) c.rested.ensures
          ∙ map_over_more f all now c.loop-i.i one (omega (arith, below, same)) c.loop-i.invariant.0 there,
      length-set now c.loop-i.i c.rested.result ∙ same,
    )
